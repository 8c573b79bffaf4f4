-- At the front of bytes one primitive of a type is spelled at most, and what is behind it is fixed.
use Rattle.std.proofs.Common.{◌≡◌, ℕ, List, ◌++◌, length, take, drop, slice_index, sym, ap, ◌∙◌, arith}
use Rattle.std.proofs.lemmas.List.{take_at, drop_at}
use Rattle.lists.specs.KeriSpecs.Base64.{AreBytes, whole_number}
use Rattle.cesr_codes.specs.declared.digest.Digest.{Digest}
use Rattle.cesr_codes.specs.declared.key.Key.{Key}
use Rattle.cesr_codes.specs.declared.prefix.Prefix.{Prefix}
use Rattle.cesr_codes.specs.declared.prefix.Prefix.TheVariants.{Basic, Said}
use Rattle.cesr_codes.specs.declared.sig.Sig.{Sig}
use Rattle.cesr_codes.specs.Codes.{same_digest_code, same_key_code, apart}
use Rattle.cesr_codes.specs.Spelling.{primitive_text, digest_text, key_text, prefix_text, digest_code, key_code, IsDigest, IsKey, IsPrefix, sig_text, IsSig}
pub use Rattle.cesr_codes.proofs.Basic.{length-key_text, length-digest_text, length-prefix_text}
pub use Rattle.cesr_codes.proofs.Dates.{length-moment_text, same_moment}
pub use Rattle.cesr_codes.proofs.Figures.{length-number_text, same_number}
pub use Rattle.cesr_codes.proofs.Indexed.{length-indexed_text, same_indexed}
pub use Rattle.cesr_codes.proofs.Sigs.{length-sig_text}
use Rattle.cesr_codes.proofs.Numbers.{same_bytes, same_digits, bytes_low}
use Rattle.cesr_codes.proofs.Basic.{length-primitive_text}

-- texts as long as each other at the front of one text
pub same_front : (n : ℕ) (a b r s : List ℕ) → length a ≡ n → length b ≡ n → a ++ r ≡ b ++ s → (a ≡ b) × (r ≡ s)
same_front n a b r s la lb e = (sym (take_at a r n la) ∙ ap (take n) e ∙ take_at b s n lb, sym (drop_at a r n la) ∙ ap (drop n) e ∙ drop_at b s n lb)

module _ (c d : ℕ) (a b r s : List ℕ) (e : primitive_text c a ++ r ≡ primitive_text d b ++ s) where
  both : (primitive_text c a ≡ primitive_text d b) × (r ≡ s)
  both = same_front 44 (primitive_text c a) (primitive_text d b) r s (length-primitive_text c a) (length-primitive_text d b) e

  same_rest : r ≡ s
  same_rest = both.1

  same_code : c ≡ d
  same_code = ap (λ x. slice_index x 0) both.0

  same_bytes_behind : AreBytes 32 a → AreBytes 32 b → a ≡ b
  same_bytes_behind ia ib =
      same_bytes 32 a b ia ib (same_digits 43 (whole_number a) (whole_number b) (omega (arith, bytes_low 32 a ia)) (omega (arith, bytes_low 32 b ib)) (ap (drop 1) both.0))

pub same_digest : (a b : Digest) (r s : List ℕ) → IsDigest a → IsDigest b → digest_text a ++ r ≡ digest_text b ++ s → (a ≡ b) × (r ≡ s)
same_digest a b r s ia ib e =
    let code : a.code ≡ b.code = same_digest_code a.code b.code (same_code (digest_code a.code) (digest_code b.code) a.raw b.raw r s e) in
    let raw : a.raw ≡ b.raw = same_bytes_behind (digest_code a.code) (digest_code b.code) a.raw b.raw r s e ia ib in
    (λ i. record { code = code i; raw = raw i }, same_rest (digest_code a.code) (digest_code b.code) a.raw b.raw r s e)

pub same_key : (a b : Key) (r s : List ℕ) → IsKey a → IsKey b → key_text a ++ r ≡ key_text b ++ s → (a ≡ b) × (r ≡ s)
same_key a b r s ia ib e =
    let code : a.code ≡ b.code = same_key_code a.code b.code (same_code (key_code a.code) (key_code b.code) a.raw b.raw r s e) in
    let raw : a.raw ≡ b.raw = same_bytes_behind (key_code a.code) (key_code b.code) a.raw b.raw r s e ia ib in
    (λ i. record { code = code i; raw = raw i }, same_rest (key_code a.code) (key_code b.code) a.raw b.raw r s e)

pub same_prefix : (a b : Prefix) (r s : List ℕ) → IsPrefix a → IsPrefix b → prefix_text a ++ r ≡ prefix_text b ++ s → (a ≡ b) × (r ≡ s)
same_prefix (Basic a) (Basic b) r s ia ib e = let same = same_key a b r s ia ib e in (ap Basic same.0, same.1)
same_prefix (Said a) (Said b) r s ia ib e = let same = same_digest a b r s ia ib e in (ap Said same.0, same.1)
same_prefix (Basic a) (Said b) r s ia ib e = absurd (apart a.code b.code (same_code (key_code a.code) (digest_code b.code) a.raw b.raw r s e))
same_prefix (Said a) (Basic b) r s ia ib e = absurd (apart b.code a.code (sym (same_code (digest_code a.code) (key_code b.code) a.raw b.raw r s e)))

pub same_sig : (a b : Sig) (r s : List ℕ) → IsSig a → IsSig b → sig_text a ++ r ≡ sig_text b ++ s → (a ≡ b) × (r ≡ s)
same_sig a b r s ia ib e =
    let both = same_front 88 (sig_text a) (sig_text b) r s (length-sig_text a) (length-sig_text b) e in
    let number = same_digits 86 (whole_number a.raw) (whole_number b.raw) (omega (arith, bytes_low 64 a.raw ia)) (omega (arith, bytes_low 64 b.raw ib)) (ap (drop 2) both.0) in
    (ap (λ raw. record { raw = raw }) (same_bytes 64 a.raw b.raw ia ib number), both.1)
