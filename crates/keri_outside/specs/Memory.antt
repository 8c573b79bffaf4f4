-- What objects in memory tell.
use Rattle.std.specs.Prelude.{ℕ, Bool, List, drop}
use Rattle.std.specs.declared.option.Option.{Option}
use Rattle.std.specs.declared.option.Option.TheVariants.{Some}
use Rattle.cesr_codes.specs.declared.key.Key.{Key}
use Rattle.cesr_codes.specs.declared.sig.Sig.{Sig}
use Rattle.keri_outside.specs.Rehearsal.{rehearsed}
use Rattle.keri_outside.specs.Verdicts.{told_verdict}
use Rattle.keri_outside.specs.declared.inquiry.Inquiry.{Inquiry}
use Rattle.keri_outside.specs.declared.signing.Signing.{Signing}
use Rattle.keri_outside.specs.declared.mem_source.MemSource.{MemSource}
use Rattle.keri_outside.specs.declared.mem_sink.MemSink.{MemSink}
use Rattle.keri_outside.specs.declared.mem_verifier.MemVerifier.{MemVerifier}
use Rattle.keri_outside.specs.declared.mem_signer.MemSigner.{MemSigner}

abbrev pub source_left : MemSource → Option (List ℕ)
source_left source = Some (drop source.place source.bytes)

abbrev pub source_faults : MemSource → ℕ
source_faults source = source.faults

-- the reads of these numbers fail
abbrev pub source_failing : MemSource → List ℕ
source_failing source = source.failing

abbrev pub sink_written : MemSink → Option (List ℕ)
sink_written sink = Some sink.written.items

abbrev pub sink_faults : MemSink → ℕ
sink_faults sink = sink.faults

-- the puts of these numbers fail
abbrev pub sink_failing : MemSink → List ℕ
sink_failing sink = sink.failing

abbrev pub verifier_says : MemVerifier → Key → List ℕ → Sig → Option Bool
verifier_says verifier = told_verdict verifier.rule

-- what a verifier was asked
abbrev pub verifier_inquiries : MemVerifier → Option (List Inquiry)
verifier_inquiries verifier = Some verifier.inquiries

abbrev pub verifier_faults : MemVerifier → ℕ
verifier_faults verifier = verifier.faults

-- the asks of these numbers fail
abbrev pub verifier_failing : MemVerifier → List ℕ
verifier_failing verifier = verifier.failing

-- a signer in memory gives the rehearsal's signatures
abbrev pub signer_gives : MemSigner → Key → List ℕ → Option Sig
signer_gives signer = λ key body. Some (rehearsed key body)

-- what a signer was asked
abbrev pub signer_signings : MemSigner → Option (List Signing)
signer_signings signer = Some signer.signings

abbrev pub signer_faults : MemSigner → ℕ
signer_faults signer = signer.faults

-- the signings of these numbers fail
abbrev pub signer_failing : MemSigner → List ℕ
signer_failing signer = signer.failing
