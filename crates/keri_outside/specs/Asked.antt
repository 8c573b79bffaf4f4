-- What signers and verifiers are asked.
use Rattle.std.specs.Prelude.{ℕ, List}
use Rattle.cesr_codes.specs.declared.key.Key.{Key}
use Rattle.cesr_codes.specs.declared.sig.Sig.{Sig}
use Rattle.keri_outside.specs.declared.inquiry.Inquiry.{Inquiry}
use Rattle.keri_outside.specs.declared.signing.Signing.{Signing}

-- the signature of a key on a body is asked for
abbrev pub signing : Key → List ℕ → Signing
signing key body = record { key = key; body = body }

-- the verdict on a key, a body and a signature is asked for
abbrev pub inquiry : Key → List ℕ → Sig → Inquiry
inquiry key body sig = record { key = key; body = body; sig = sig }
