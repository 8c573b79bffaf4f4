-- The test of equality of digests.
use Rattle.std.proofs.Common.{◌≡◌, ℕ, true, List, ap, sym, ◌∙◌}
use Rattle.std.specs.Prelude.{◌↔◌}
use Rattle.std.specs.Cmp.Lexicographic.{bytes_decides}
use Rattle.std.proofs.lemmas.Map.Text.{is_eq-slice_cmp}
use Rattle.cesr_codes.specs.declared.digest.Digest.{Digest}
use Rattle.cesr_codes.specs.declared.digest.DigestCode.{DigestCode}
use Rattle.cesr_codes.specs.declared.digest.DigestCode.TheVariants.{Blake3, Sha256}
use Rattle.escrow.specs.Escrow.Tables.{digest_eq}

decides : (c k : DigestCode) (r s : List ℕ) → (digest_eq (record { code = c; raw = r }) (record { code = k; raw = s }) ≡ true) ↔ (◌≡◌ {A = Digest} (record { code = c; raw = r }) (record { code = k; raw = s }))
decides Blake3 Blake3 r s = (λ h. let raw = (bytes_decides r s).0 (sym (is_eq-slice_cmp r s) ∙ h) in λ i. record { code = Blake3; raw = raw i }, λ h. is_eq-slice_cmp r s ∙ (bytes_decides r s).1 (ap (λ d. d.raw) h))
decides Blake3 Sha256 r s = (λ h. cc, λ h. let code : Blake3 ≡ Sha256 = ap (λ d. d.code) h in cc)
decides Sha256 Blake3 r s = (λ h. cc, λ h. let code : Sha256 ≡ Blake3 = ap (λ d. d.code) h in cc)
decides Sha256 Sha256 r s = (λ h. let raw = (bytes_decides r s).0 (sym (is_eq-slice_cmp r s) ∙ h) in λ i. record { code = Sha256; raw = raw i }, λ h. is_eq-slice_cmp r s ∙ (bytes_decides r s).1 (ap (λ d. d.raw) h))

pub Decides-digest_eq : (d e : Digest) → (digest_eq d e ≡ true) ↔ (d ≡ e)
Decides-digest_eq d e = decides d.code e.code d.raw e.raw
