-- Tests of equality of keys, digests, identifiers and signatures, and lists without repetitions.
use Rattle.std.specs.Prelude.{ℕ, Bool, true, false, ◌&&◌, ◌==◌, not, List, [], ◌∷◌, filter, bytes_eq}
use Rattle.std.specs.List.{list_any}
use Rattle.cesr_codes.specs.declared.key.Key.{Key}
use Rattle.cesr_codes.specs.declared.key.KeyCode.{KeyCode}
use Rattle.cesr_codes.specs.declared.key.KeyCode.TheVariants.{Fixed, Rotating}
use Rattle.cesr_codes.specs.declared.digest.Digest.{Digest}
use Rattle.cesr_codes.specs.declared.prefix.Prefix.{Prefix}
use Rattle.cesr_codes.specs.declared.prefix.Prefix.TheVariants.{Basic, Said}
use Rattle.cesr_codes.specs.declared.sig.Sig.{Sig}
use Rattle.cesr_codes.specs.Spelling.{key_code, digest_code}

-- the keys have one code and the same raw bytes (CESR)
abbrev pub same_key : Key → Key → Bool
same_key k l = (key_code k.code == key_code l.code) && bytes_eq k.raw l.raw

-- the digests have one code and the same raw bytes (CESR)
abbrev pub same_digest : Digest → Digest → Bool
same_digest d e = (digest_code d.code == digest_code e.code) && bytes_eq d.raw e.raw

-- the identifiers are the same key or the same digest (KERI: basic and self-addressing prefixes)
abbrev pub same_prefix : Prefix → Prefix → Bool
same_prefix (Basic k) (Basic l) = same_key k l
same_prefix (Basic k) (Said e) = false
same_prefix (Said d) (Basic l) = false
same_prefix (Said d) (Said e) = same_digest d e

-- the signatures have the same raw bytes
abbrev pub same_sig : Sig → Sig → Bool
same_sig s t = bytes_eq s.raw t.raw

-- the key is in the list
abbrev pub has_key : List Key → Key → Bool
has_key keys k = list_any (λ l. same_key l k) keys

-- the text is in the list
abbrev pub has_text : List (List ℕ) → List ℕ → Bool
has_text texts t = list_any (λ u. bytes_eq u t) texts

-- each element at its first coming, without those that are the same as an earlier one
unfoldable pub distinct : {X : Type 0} → (X → X → Bool) → List X → List X
distinct same [] = []
distinct same (x ∷ xs) = x ∷ filter (λ y. not (same x y)) (distinct same xs)

-- the key can't be rotated, as a witness's can't
abbrev pub is_fixed : KeyCode → Bool
is_fixed Fixed = true
is_fixed Rotating = false

-- each key is one that can't be rotated, and none comes again (KERI: witnesses are non-transferable)
abbrev pub are_witnesses : List Key → Bool
are_witnesses [] = true
are_witnesses (k ∷ keys) = is_fixed k.code && not (has_key keys k) && are_witnesses keys
