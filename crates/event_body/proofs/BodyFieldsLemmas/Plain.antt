-- Texts of primitives are strings: they have no quote, no escape and nothing beyond ASCII.
use Rattle.std.proofs.Common.{◌≡◌, ℕ, ◌==◌, Bool, true, List, [], ◌∷◌, refl, sym, ap, ◌∙◌, inl, inr}
use Rattle.std.proofs.lemmas.Bool.{cases_Bool, eqb-true}
use Rattle.std.specs.List.{list_all, list_any}
use Rattle.lists.specs.KeriSpecs.Base64.{characters, is_character, base64_text, whole_number}
use Rattle.cesr_codes.specs.declared.digest.Digest.{Digest}
use Rattle.cesr_codes.specs.declared.digest.DigestCode.{DigestCode}
use Rattle.cesr_codes.specs.declared.digest.DigestCode.TheVariants.{Blake3, Sha256}
use Rattle.cesr_codes.specs.declared.key.Key.{Key}
use Rattle.cesr_codes.specs.declared.key.KeyCode.{KeyCode}
use Rattle.cesr_codes.specs.declared.key.KeyCode.TheVariants.{Fixed, Rotating}
use Rattle.cesr_codes.specs.declared.prefix.Prefix.{Prefix}
use Rattle.cesr_codes.specs.declared.prefix.Prefix.TheVariants.{Basic, Said}
use Rattle.cesr_codes.specs.Spelling.{primitive_text, digest_text, key_text, prefix_text, digest_code, key_code}
use Rattle.cesr_codes.proofs.Numbers.{characters-text}
use Rattle.json_tree.specs.Strings.{IsString}
use Rattle.sith.proofs.Plain.{is_plain, plain_string, all_pass}

-- one of a list that passes the test
one_of : (p : ℕ → Bool) (c : ℕ) (xs : List ℕ) → list_all p xs ≡ true → list_any (λ x. x == c) xs ≡ true → p c ≡ true
one_of p c [] all any = cc any
one_of p c (x ∷ xs) all any = elim (cases_Bool (p x)) [
  | inl t ↦ elim (cases_Bool (x == c)) [
    | inl same ↦ let is : x ≡ c = eqb-true x c same in ap p (sym is) ∙ t
    | inr other ↦ one_of p c xs (rw t at all) (rw other at any)
  ]
  | inr f ↦ cc (rw f at all)
]

character_plain : (c : ℕ) → is_character c ≡ true → is_plain c ≡ true
character_plain c is = one_of is_plain c characters refl is

primitive_string : (code : ℕ) (raw : List ℕ) → is_plain code ≡ true → IsString (primitive_text code raw)
primitive_string code raw plain =
    plain_string (primitive_text code raw) (rw plain (all_pass is_character is_plain character_plain (base64_text 43 (whole_number raw)) (characters-text 43 (whole_number raw))))

digest_plain : (code : DigestCode) → is_plain (digest_code code) ≡ true
digest_plain Blake3 = refl
digest_plain Sha256 = refl

key_plain : (code : KeyCode) → is_plain (key_code code) ≡ true
key_plain Fixed = refl
key_plain Rotating = refl

pub digest_string : (digest : Digest) → IsString (digest_text digest)
digest_string digest = primitive_string (digest_code digest.code) digest.raw (digest_plain digest.code)

pub key_string : (key : Key) → IsString (key_text key)
key_string key = primitive_string (key_code key.code) key.raw (key_plain key.code)

pub prefix_string : (prefix : Prefix) → IsString (prefix_text prefix)
prefix_string (Basic key) = key_string key
prefix_string (Said digest) = digest_string digest
