-- Words that spell a prefix.
use Rattle.std.proofs.Common.{◌≡◌, ◌≢◌, ◌∙◌, ℕ, Bool, List, ◌∷◌, bytes_eq, cond, drop, false, Option, None, Some, refl, sym, ap}
use Rattle.std.specs.Prelude.{IfNone, IfSome, find}
use Rattle.std.proofs.lemmas.Bool.{false_from_ne_true}
use Rattle.std.proofs.lemmas.Slice.Eq.{bytes_eq-Decides}
use Rattle.lists.specs.KeriSpecs.Base64.{AreBytes, number_of_text}
use Rattle.cesr_codes.specs.declared.digest.DigestCode.{DigestCode}
use Rattle.cesr_codes.specs.declared.digest.DigestCode.TheVariants.{Blake3, Sha256}
use Rattle.cesr_codes.specs.declared.key.KeyCode.{KeyCode}
use Rattle.cesr_codes.specs.declared.key.KeyCode.TheVariants.{Fixed, Rotating}
use Rattle.cesr_codes.specs.declared.prefix.Prefix.{Prefix}
use Rattle.cesr_codes.specs.declared.prefix.Prefix.TheVariants.{Basic, Said}
use Rattle.cesr_codes.specs.Spelling.{IsPrefix, prefix_text}
use Rattle.command_words.specs.Prefixes.{prefix_in, prefixes_of, raw_behind}
use Rattle.command_words.proofs.Keys.{are_bytes, bytes_back}

abbrev spells : List ℕ → Prefix → Bool
spells word prefix = bytes_eq word (prefix_text prefix)

-- ---- a spelling

-- the first whose spelling a word is
hit : (prefix : Prefix) (rest : List Prefix) → find (spells (prefix_text prefix)) (prefix ∷ rest) ≡ Some prefix
hit prefix rest =
    let word = prefix_text prefix in
    ap (λ b. cond b (Some prefix) (find (spells word) rest)) ((bytes_eq-Decides word word).1 refl)

-- the raw bytes behind the first character of a spelling
behind : (prefix : Prefix) (raw : List ℕ) → raw_behind (prefix_text prefix) ≡ raw → find (spells (prefix_text prefix)) (prefixes_of raw) ≡ Some prefix
    → prefix_in (prefix_text prefix) ≡ Some prefix
unfolding prefix_in
behind prefix raw same found = ap (λ bytes. find (spells (prefix_text prefix)) (prefixes_of bytes)) same ∙ found

key_back : (code : KeyCode) (raw : List ℕ) → AreBytes 32 raw
    → prefix_in (prefix_text (Basic (record { code = code; raw = raw }))) ≡ Some (Basic (record { code = code; raw = raw }))
key_back Fixed raw is = behind (Basic (record { code = Fixed; raw = raw })) raw (bytes_back raw is) (hit (Basic (record { code = Fixed; raw = raw })) (drop 1 (prefixes_of raw)))
key_back Rotating raw is = behind (Basic (record { code = Rotating; raw = raw })) raw (bytes_back raw is) (hit (Basic (record { code = Rotating; raw = raw })) (drop 2 (prefixes_of raw)))

digest_back : (code : DigestCode) (raw : List ℕ) → AreBytes 32 raw
    → prefix_in (prefix_text (Said (record { code = code; raw = raw }))) ≡ Some (Said (record { code = code; raw = raw }))
digest_back Blake3 raw is = behind (Said (record { code = Blake3; raw = raw })) raw (bytes_back raw is) (hit (Said (record { code = Blake3; raw = raw })) (drop 3 (prefixes_of raw)))
digest_back Sha256 raw is = behind (Said (record { code = Sha256; raw = raw })) raw (bytes_back raw is) (hit (Said (record { code = Sha256; raw = raw })) (drop 4 (prefixes_of raw)))

back : (prefix : Prefix) → IsPrefix prefix → prefix_in (prefix_text prefix) ≡ Some prefix
back (Basic key) is = key_back key.code key.raw is
back (Said digest) is = digest_back digest.code digest.raw is

-- where a word is the spelling of a prefix
spelled : (word : List ℕ) (prefix : Prefix) → IsPrefix prefix → word ≡ prefix_text prefix → Some prefix ≡ prefix_in word
spelled word prefix is e = sym (ap prefix_in e ∙ back prefix is)

-- ---- no spelling

miss : (b : Bool) (prefix : Prefix) (rest : Option Prefix) → b ≡ false → None ≡ rest → None ≡ cond b (Some prefix) rest
miss b prefix rest e none = none ∙ sym (ap (λ b. cond b (Some prefix) rest) e)

-- where a word is the spelling of no prefix
not_spelled : (word : List ℕ) → ((prefix : Prefix) → IsPrefix prefix → word ≢ prefix_text prefix) → None ≡ prefix_in word
unfolding prefix_in
not_spelled word none =
    let is = are_bytes (number_of_text (drop 1 word)) in
    let raw = raw_behind word in
    let other : (prefix : Prefix) → IsPrefix prefix → spells word prefix ≡ false =
    λ prefix is. false_from_ne_true (spells word prefix) (λ t. none prefix is ((bytes_eq-Decides word (prefix_text prefix)).0 t)) in
    miss _ _ _ (other (Basic (record { code = Fixed; raw = raw })) is)
    (miss _ _ _ (other (Basic (record { code = Rotating; raw = raw })) is)
    (miss _ _ _ (other (Said (record { code = Blake3; raw = raw })) is)
    (miss _ _ _ (other (Said (record { code = Sha256; raw = raw })) is) refl)))

-- ---- a reader

-- what is read of a word that is the spelling of what is read, and of nothing where nothing is
pub read : (word : List ℕ) (found : Option Prefix) → IfSome found (λ prefix. IsPrefix prefix × (word ≡ prefix_text prefix))
    → IfNone found ((prefix : Prefix) → IsPrefix prefix → word ≢ prefix_text prefix) → found ≡ prefix_in word
read word (Some prefix) some none = spelled word prefix some.0 some.1
read word None some none = not_spelled word none
