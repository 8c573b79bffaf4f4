-- Spellings are ASCII.
use Rattle.std.proofs.Common.{◌≡◌, ℕ, zero, suc, ◌<◌, ◌∷◌, ◌++◌, [], codes, Bool, false, Option, Some, None, List, map, slice_index, refl, arith, true, inl, inr}
use Rattle.std.proofs.lemmas.Bool.{cases_Bool, ltb-true}
use Rattle.std.specs.Str.{IsAscii}
use Rattle.std.proofs.lemmas.Str.{IsAscii-append}
use Rattle.std.proofs.lemmas.Str.Ascii.{IsAscii-cons}
use Rattle.std.specs.List.{list_all}
use Rattle.std.specs.Prelude.{nat_lt}
use Rattle.lists.specs.KeriSpecs.Base64.{characters, character, digits_in, whole_number, base64_text}
use Rattle.cesr_codes.specs.declared.digest.Digest.{Digest}
use Rattle.cesr_codes.specs.declared.prefix.Prefix.{Prefix}
use Rattle.cesr_codes.specs.declared.prefix.Prefix.TheVariants.{Basic, Said}
use Rattle.cesr_codes.specs.declared.digest.DigestCode.{DigestCode}
use Rattle.cesr_codes.specs.declared.digest.DigestCode.TheVariants.{Blake3, Sha256}
use Rattle.cesr_codes.specs.declared.key.KeyCode.{KeyCode}
use Rattle.cesr_codes.specs.declared.key.KeyCode.TheVariants.{Fixed, Rotating}
use Rattle.cesr_codes.specs.Spelling.{primitive_text, digest_text, key_text, prefix_text, digest_code, key_code, sig_text, number_text}
use Rattle.cesr_codes.specs.declared.indexed_sig.IndexedSig.{IndexedSig}
use Rattle.cesr_codes.specs.declared.number.Number.{Number}
use Rattle.cesr_codes.specs.declared.sig.Sig.{Sig}
use Rattle.cesr_codes.specs.Indexed.{indexed_text}
use Rattle.cesr_codes.specs.Indices.{indexed_code, index_text}
use Rattle.cesr_codes.specs.declared.key.Key.{Key}

-- each of a list that passes the test
pub low_at : (xs : List ℕ) → list_all (λ x. nat_lt x 128) xs ≡ true → (i : ℕ) → slice_index xs i < 128
low_at [] h i = omega arith
low_at (x ∷ xs) h zero = elim (cases_Bool (nat_lt x 128)) [ inl t ↦ ltb-true x 128 t | inr f ↦ cc (rw f at h) ]
low_at (x ∷ xs) h (suc i) = elim (cases_Bool (nat_lt x 128)) [ inl t ↦ low_at xs (rw t at h) i | inr f ↦ cc (rw f at h) ]

map_ascii : (ds : List ℕ) → IsAscii (map character ds)
map_ascii [] i = omega arith
map_ascii (d ∷ ds) zero = low_at characters refl d
map_ascii (d ∷ ds) (suc i) = map_ascii ds i

digest_low : (c : DigestCode) → digest_code c < 128
digest_low Blake3 = omega arith
digest_low Sha256 = omega arith

key_low : (c : KeyCode) → key_code c < 128
key_low Fixed = omega arith
key_low Rotating = omega arith

primitive_ascii : (code : ℕ) (raw : List ℕ) → code < 128 → IsAscii (primitive_text code raw)
primitive_ascii code raw low = IsAscii-cons _ _ low (map_ascii (digits_in 64 43 (whole_number raw)))

pub digest_ascii : (digest : Digest) → IsAscii (digest_text digest)
digest_ascii digest = primitive_ascii _ digest.raw (digest_low digest.code)

pub key_ascii : (key : Key) → IsAscii (key_text key)
key_ascii key = primitive_ascii _ key.raw (key_low key.code)

pub prefix_ascii : (prefix : Prefix) → IsAscii (prefix_text prefix)
prefix_ascii (Basic key) = key_ascii key
prefix_ascii (Said digest) = digest_ascii digest

pub text_ascii : (count n : ℕ) → IsAscii (base64_text count n)
text_ascii count n = map_ascii (digits_in 64 count n)

pub sig_ascii : (sig : Sig) → IsAscii (sig_text sig)
sig_ascii sig = IsAscii-append (codes "0B") (base64_text 86 (whole_number sig.raw)) (low_at (codes "0B") refl) (text_ascii 86 (whole_number sig.raw))

code_ascii : (big : Bool) (ondex : Option ℕ) → IsAscii (indexed_code big ondex)
code_ascii false (Some ondex) = low_at (codes "A") refl
code_ascii false None = low_at (codes "B") refl
code_ascii true (Some ondex) = low_at (codes "2A") refl
code_ascii true None = low_at (codes "2B") refl

index_ascii : (big : Bool) (index : ℕ) (ondex : Option ℕ) → IsAscii (index_text big index ondex)
index_ascii false index ondex = text_ascii 1 index
index_ascii true index (Some ondex) = IsAscii-append (base64_text 2 index) (base64_text 2 ondex) (text_ascii 2 index) (text_ascii 2 ondex)
index_ascii true index None = IsAscii-append (base64_text 2 index) (codes "AA") (text_ascii 2 index) (low_at (codes "AA") refl)

pub indexed_ascii : (s : IndexedSig) → IsAscii (indexed_text s)
indexed_ascii s =
    IsAscii-append (indexed_code s.big s.ondex ++ index_text s.big s.index s.ondex) (base64_text 86 (whole_number s.sig.raw))
    (IsAscii-append (indexed_code s.big s.ondex) (index_text s.big s.index s.ondex) (code_ascii s.big s.ondex) (index_ascii s.big s.index s.ondex)) (text_ascii 86 (whole_number s.sig.raw))

pub number_ascii : (number : Number) → IsAscii (number_text number)
number_ascii number = IsAscii-append (codes "0A") (base64_text 22 number.value) (low_at (codes "0A") refl) (text_ascii 22 number.value)
