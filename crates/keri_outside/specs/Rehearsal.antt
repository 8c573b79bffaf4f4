-- The rehearsal of signatures.
use Rattle.std.specs.Prelude.{ℕ, Bool, List, ◌++◌, codes}
use Rattle.std.specs.Str.{bytes_eq}
use Rattle.std.specs.declared.option.Option.{Option}
use Rattle.std.specs.declared.option.Option.TheVariants.{Some}
use Rattle.sha2.specs.Sha512.{sha512}
use Rattle.cesr_codes.specs.Spelling.{key_text}
use Rattle.cesr_codes.specs.declared.key.Key.{Key}
use Rattle.cesr_codes.specs.declared.sig.Sig.{Sig}

-- the rehearsal's signature of a key on a body: the SHA-512 of `keri rehearsal`, the key's 44 characters and the body
abbrev pub rehearsed : Key → List ℕ → Sig
rehearsed key body = record { raw = sha512 (codes "keri rehearsal" ++ (key_text key ++ body)) }

-- the signature is the rehearsal's
abbrev pub is_rehearsed : Key → List ℕ → Sig → Bool
is_rehearsed key body sig = bytes_eq (rehearsed key body).raw sig.raw

-- what the rehearsal says, which it tells
abbrev pub rehearsal_says : Key → List ℕ → Sig → Option Bool
rehearsal_says = λ key body sig. Some (is_rehearsed key body sig)

-- the signatures that the rehearsal gives, which it tells
abbrev pub rehearsal_gives : Key → List ℕ → Option Sig
rehearsal_gives = λ key body. Some (rehearsed key body)
