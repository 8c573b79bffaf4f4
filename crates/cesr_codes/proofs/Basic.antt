-- Keys, digests and prefixes: what stands at the front, and that it is good.
use Rattle.std.proofs.Common.{◌≡◌, ◌≢◌, ℕ, true, false, List, [], ◌∷◌, ◌++◌, length, refl, sym, ap, ◌∙◌, arith, inl, inr, Some}
use Rattle.std.proofs.lemmas.Bool.{cases_Bool, le-ltb}
use Rattle.std.specs.List.{list_all}
use Rattle.lists.specs.KeriSpecs.Base64.{whole_number, AreBytes, base64_text, is_character}
use Rattle.cesr_codes.specs.declared.code_fault.CodeFault.TheVariants.{CodeNotHeld}
use Rattle.cesr_codes.specs.declared.digest.Digest.{Digest}
use Rattle.cesr_codes.specs.declared.digest.DigestCode.{DigestCode}
use Rattle.cesr_codes.specs.declared.digest.DigestCode.TheVariants.{Blake3, Sha256}
use Rattle.cesr_codes.specs.declared.key.Key.{Key}
use Rattle.cesr_codes.specs.declared.key.KeyCode.{KeyCode}
use Rattle.cesr_codes.specs.declared.key.KeyCode.TheVariants.{Fixed, Rotating}
use Rattle.cesr_codes.specs.declared.prefix.Prefix.{Prefix}
use Rattle.cesr_codes.specs.declared.prefix.Prefix.TheVariants.{Basic, Said}
use Rattle.cesr_codes.specs.Codes.{key_layout, digest_layout}
use Rattle.cesr_codes.specs.Reading.{IsAtFront, IsCoded}
use Rattle.cesr_codes.specs.Spelling.{primitive_text, digest_text, key_text, prefix_text, digest_code, key_code, IsDigest, IsKey, IsPrefix}
use Rattle.cesr_codes.specs.Table.{Layout, layout, good, bad, verdict, has_code, has_other_index, layout_verdict, key_layouts, digest_layouts, prefix_layouts}
use Rattle.cesr_codes.proofs.Numbers.{bytes_low, length-base64_text}
use Rattle.cesr_codes.proofs.Front.{parts, held, coded_good}

pub length-primitive_text : (code : ℕ) (raw : List ℕ) → length (primitive_text code raw) ≡ 44
length-primitive_text code raw = omega (arith, length-base64_text 43 (whole_number raw))

-- 32 raw bytes behind a code of one character
pub stands_coded : (layouts : List Layout) (code : ℕ) (text raw : List ℕ) → IsCoded layouts (layout (code ∷ []) 0 43 32) text raw → IsAtFront (primitive_text code) (AreBytes 32) text raw 44
stands_coded layouts code text raw coded = record {
  valid = coded.whole.bytes;
  counted = sym (length-primitive_text code raw);
  enough = coded.enough;
  front = parts layouts (layout (code ∷ []) 0 43 32) text raw coded;
}

pub primitive_good : (code : ℕ) (raw rest : List ℕ) → list_all is_character (code ∷ []) ≡ true → AreBytes 32 raw → has_other_index (layout (code ∷ []) 0 43 32) (primitive_text code raw) ≡ false
    → layout_verdict (Some (layout (code ∷ []) 0 43 32)) (primitive_text code raw ++ rest) ≡ good 44
primitive_good code raw rest all bytes other = coded_good (code ∷ []) [] 0 43 32 (whole_number raw) rest refl all (bytes_low 32 raw bytes) (omega (arith, bytes_low 32 raw bytes)) other

key_judged : (code : KeyCode) (xs : List ℕ) → verdict key_layouts (key_code code ∷ xs) ≡ layout_verdict (Some (key_layout code)) (key_code code ∷ xs)
key_judged Fixed xs = rw (le-ltb (length (66 ∷ xs)) 1 (omega arith)) refl
key_judged Rotating xs = rw (le-ltb (length (68 ∷ xs)) 1 (omega arith)) refl

key_good : (code : KeyCode) (raw rest : List ℕ) → AreBytes 32 raw → verdict key_layouts (primitive_text (key_code code) raw ++ rest) ≡ good 44
key_good Fixed raw rest bytes = key_judged Fixed (base64_text 43 (whole_number raw) ++ rest) ∙ primitive_good 66 raw rest refl bytes refl
key_good Rotating raw rest bytes = key_judged Rotating (base64_text 43 (whole_number raw) ++ rest) ∙ primitive_good 68 raw rest refl bytes refl

digest_judged : (code : DigestCode) (xs : List ℕ) → verdict digest_layouts (digest_code code ∷ xs) ≡ layout_verdict (Some (digest_layout code)) (digest_code code ∷ xs)
digest_judged Blake3 xs = rw (le-ltb (length (69 ∷ xs)) 1 (omega arith)) refl
digest_judged Sha256 xs = rw (le-ltb (length (73 ∷ xs)) 1 (omega arith)) refl

digest_good : (code : DigestCode) (raw rest : List ℕ) → AreBytes 32 raw → verdict digest_layouts (primitive_text (digest_code code) raw ++ rest) ≡ good 44
digest_good Blake3 raw rest bytes = digest_judged Blake3 (base64_text 43 (whole_number raw) ++ rest) ∙ primitive_good 69 raw rest refl bytes refl
digest_good Sha256 raw rest bytes = digest_judged Sha256 (base64_text 43 (whole_number raw) ++ rest) ∙ primitive_good 73 raw rest refl bytes refl

no_key_code : (code : DigestCode) (xs : List ℕ) → verdict key_layouts (digest_code code ∷ xs) ≡ bad CodeNotHeld
no_key_code Blake3 xs = rw (le-ltb (length (69 ∷ xs)) 1 (omega arith)) refl
no_key_code Sha256 xs = rw (le-ltb (length (73 ∷ xs)) 1 (omega arith)) refl

-- a prefix is judged as a key, and as a digest where it has no code of a key
pub as_key : (text : List ℕ) → verdict key_layouts text ≢ bad CodeNotHeld → verdict prefix_layouts text ≡ verdict key_layouts text
as_key [] ne = refl
as_key (c ∷ xs) ne = elim (cases_Bool (has_code (c ∷ xs) (layout (66 ∷ []) 0 43 32))) [
  | inl t ↦ rw (le-ltb (length (c ∷ xs)) 1 (omega arith), t) refl
  | inr f ↦ elim (cases_Bool (has_code (c ∷ xs) (layout (68 ∷ []) 0 43 32))) [
    | inl t ↦ rw (le-ltb (length (c ∷ xs)) 1 (omega arith), f, t) refl
    | inr g ↦ absurd (ne (rw (le-ltb (length (c ∷ xs)) 1 (omega arith), f, g) refl))
  ]
]

pub as_digest : (text : List ℕ) → verdict key_layouts text ≡ bad CodeNotHeld → verdict prefix_layouts text ≡ verdict digest_layouts text
as_digest [] e = refl
as_digest (c ∷ xs) e = elim (cases_Bool (has_code (c ∷ xs) (layout (66 ∷ []) 0 43 32))) [
  | inl t ↦ absurd (held (layout (66 ∷ []) 0 43 32) (c ∷ xs) (rw (le-ltb (length (c ∷ xs)) 1 (omega arith), t) at e))
  | inr f ↦ elim (cases_Bool (has_code (c ∷ xs) (layout (68 ∷ []) 0 43 32))) [
    | inl t ↦ absurd (held (layout (68 ∷ []) 0 43 32) (c ∷ xs) (rw (le-ltb (length (c ∷ xs)) 1 (omega arith), f, t) at e))
    | inr g ↦ rw (le-ltb (length (c ∷ xs)) 1 (omega arith), f, g) refl
  ]
]

pub length-key_text : (key : Key) → length (key_text key) ≡ 44
length-key_text key = length-primitive_text (key_code key.code) key.raw

pub length-digest_text : (digest : Digest) → length (digest_text digest) ≡ 44
length-digest_text digest = length-primitive_text (digest_code digest.code) digest.raw

pub length-prefix_text : (prefix : Prefix) → length (prefix_text prefix) ≡ 44
length-prefix_text (Basic key) = length-key_text key
length-prefix_text (Said digest) = length-digest_text digest

pub good_key : (key : Key) (rest : List ℕ) → IsKey key → verdict key_layouts (key_text key ++ rest) ≡ good (length (key_text key))
good_key key rest valid = key_good key.code key.raw rest valid ∙ ap good (sym (length-key_text key))

pub good_digest : (digest : Digest) (rest : List ℕ) → IsDigest digest → verdict digest_layouts (digest_text digest ++ rest) ≡ good (length (digest_text digest))
good_digest digest rest valid = digest_good digest.code digest.raw rest valid ∙ ap good (sym (length-digest_text digest))

pub good_prefix : (prefix : Prefix) (rest : List ℕ) → IsPrefix prefix → verdict prefix_layouts (prefix_text prefix ++ rest) ≡ good (length (prefix_text prefix))
good_prefix (Basic key) rest valid =
    as_key (key_text key ++ rest) (λ e. let fine = good_key key rest valid in cc (fine, e)) ∙ good_key key rest valid
good_prefix (Said digest) rest valid =
    as_digest (digest_text digest ++ rest) (no_key_code digest.code (base64_text 43 (whole_number digest.raw) ++ rest)) ∙ good_digest digest rest valid
