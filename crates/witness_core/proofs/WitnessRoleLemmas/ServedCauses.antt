-- Why a run of `witness` that served its file ended as it did.
use Rattle.std.proofs.Common.{◌≡◌, ◌≢◌, inl, inr, ℕ, List, Option, Some, None, refl, sym, ◌∙◌, ap}
use Rattle.std.specs.Prelude.{MatchOption}
use Rattle.lists.specs.KeriSpecs.Causes.{Rose}
use Rattle.cesr_codes.specs.declared.key.Key.{Key}
use Rattle.shelf_log.specs.KeriDisk.Images.{DiskShown}
use Rattle.keri_outside.specs.declared.limits.Limits.{Limits}
use Rattle.run_status.specs.declared.run_outside.making.MakingKind.TheVariants.{Source as SourceKind}
use Rattle.run_status.specs.declared.run_status.close.Close.{Close}
use Rattle.run_status.specs.declared.run_status.close.Close.TheVariants.{End, Bad, ReadFault, VerifierFault, SignerFault, DiskFault, WriteFault, Malformed, LimitReached, OutOfMemory}
use Rattle.run_status.specs.RunStatus.Readers.{Reader, VerifierShown}
use Rattle.keri_outside.specs.Shown.{SourceShown}
use Rattle.witness_core.specs.WitnessLink.Links.{Left, LinkShown}
use Rattle.witness_core.specs.WitnessLink.Served.{ClosesLink}
use Rattle.witness_core.specs.WitnessLink.Serving.{Serves}
use Rattle.run_status.specs.RunRecord.Run.{Run, SignerShown}
use Rattle.witness_core.specs.WitnessRole.ServedFile.{MakesServing, ServesBy}

-- the sink failed in the link only where that closed so
sink_kept : (limits : Limits) (source_old source_new : SourceShown) (bytes : List ℕ) (old new : LinkShown) (serves : Serves old new) (close : Close)
    → ClosesLink limits source_old source_new bytes old new serves close → close ≢ WriteFault → new.sink_faults ≡ old.sink_faults
sink_kept limits source_old source_new bytes old new serves End c other = c.1.sink_same
sink_kept limits source_old source_new bytes old new serves (Bad bad) c other = c.1.sink_same
sink_kept limits source_old source_new bytes old new serves ReadFault c other = c.1.sink_same
sink_kept limits source_old source_new bytes old new serves WriteFault c other = absurd (other refl)
sink_kept limits source_old source_new bytes old new serves VerifierFault c other = c.fails.sink_same
sink_kept limits source_old source_new bytes old new serves SignerFault c other = c.fails.sink_same
sink_kept limits source_old source_new bytes old new serves DiskFault c other = c.fails.sink_same
sink_kept limits source_old source_new bytes old new serves LimitReached (inl c) other = c.1.sink_same
sink_kept limits source_old source_new bytes old new serves LimitReached (inr c) other = c.fails.sink_same
sink_kept limits source_old source_new bytes old new serves OutOfMemory (inl c) other = c.sink_same
sink_kept limits source_old source_new bytes old new serves OutOfMemory (inr c) other = c.fails.sink_same
sink_kept limits source_old source_new bytes old new serves (Malformed place) c other = absurd c

module _ {D : Type 0} (shown : D → DiskShown) (key : Key) (limits : Limits) (helper name : List ℕ) (old new : Left D) (reader : Reader) (run : Run) where
  abbrev Made : Option SourceShown → Option VerifierShown → Option SignerShown → Type 0
  Made source verifier signer = MakesServing SourceKind name helper source verifier signer run.before run.after

  abbrev Served : Option SourceShown → Option VerifierShown → Option SignerShown → Type 0
  Served source verifier signer = ServesBy shown key limits helper name old reader source verifier signer new run

  pub serving_read : (source : Option SourceShown) (verifier : Option VerifierShown) (signer : Option SignerShown) → Made source verifier signer → Served source verifier signer
      → reader.close ≡ ReadFault → MatchOption source (Rose run.before.faults run.after.faults) (λ s. Rose 0 s.faults)
  serving_read None verifier signer m s e = m.2.rose refl
  serving_read (Some source) None signer m s e = let clash : ReadFault ≡ VerifierFault = sym e ∙ s.close in cc
  serving_read (Some source) (Some verifier) None m s e = let clash : ReadFault ≡ SignerFault = sym e ∙ s.close in cc
  serving_read (Some source) (Some verifier) (Some signer) m s e = let closes = rw e at s.serves.closes in closes.0.closes.1

  pub serving_asked : (source : Option SourceShown) (verifier : Option VerifierShown) (signer : Option SignerShown) → Made source verifier signer → Served source verifier signer
      → reader.close ≡ VerifierFault → MatchOption verifier (Rose run.before.faults run.after.faults) (λ v. Rose 0 v.faults)
  serving_asked None verifier signer m s e = let clash : VerifierFault ≡ ReadFault = sym e ∙ s.close in cc
  serving_asked (Some source) None signer m s e = m.1.rose refl
  serving_asked (Some source) (Some verifier) None m s e = let clash : VerifierFault ≡ SignerFault = sym e ∙ s.close in cc
  serving_asked (Some source) (Some verifier) (Some signer) m s e = let closes = rw e at s.serves.closes in closes.fails.counted.1

  pub serving_signed : (source : Option SourceShown) (verifier : Option VerifierShown) (signer : Option SignerShown) → Made source verifier signer → Served source verifier signer
      → reader.close ≡ SignerFault → MatchOption signer (Rose run.before.faults run.after.faults) (λ g. Rose 0 g.faults)
  serving_signed None verifier signer m s e = let clash : SignerFault ≡ ReadFault = sym e ∙ s.close in cc
  serving_signed (Some source) None signer m s e = let clash : SignerFault ≡ VerifierFault = sym e ∙ s.close in cc
  serving_signed (Some source) (Some verifier) None m s e = m.rose refl
  serving_signed (Some source) (Some verifier) (Some signer) m s e = let closes = rw e at s.serves.closes in closes.fails.counted.2

  pub serving_stored : (source : Option SourceShown) (verifier : Option VerifierShown) (signer : Option SignerShown) → Served source verifier signer
      → reader.close ≡ DiskFault → Rose (shown old.disk).faults (shown new.disk).faults
  serving_stored None verifier signer s e = let clash : DiskFault ≡ ReadFault = sym e ∙ s.close in cc
  serving_stored (Some source) None signer s e = let clash : DiskFault ≡ VerifierFault = sym e ∙ s.close in cc
  serving_stored (Some source) (Some verifier) None s e = let clash : DiskFault ≡ SignerFault = sym e ∙ s.close in cc
  serving_stored (Some source) (Some verifier) (Some signer) s e = let closes = rw e at s.serves.closes in closes.fails.counted.0

  pub serving_wrote : (source : Option SourceShown) (verifier : Option VerifierShown) (signer : Option SignerShown) → Served source verifier signer
      → reader.close ≡ WriteFault → Rose run.sink_before.faults run.sink_after.faults
  serving_wrote None verifier signer s e = let clash : WriteFault ≡ ReadFault = sym e ∙ s.close in cc
  serving_wrote (Some source) None signer s e = let clash : WriteFault ≡ VerifierFault = sym e ∙ s.close in cc
  serving_wrote (Some source) (Some verifier) None s e = let clash : WriteFault ≡ SignerFault = sym e ∙ s.close in cc
  serving_wrote (Some source) (Some verifier) (Some signer) s e = let closes = rw e at s.serves.closes in closes.1.rose

  pub serving_kept : (source : Option SourceShown) (verifier : Option VerifierShown) (signer : Option SignerShown) → Served source verifier signer
      → reader.close ≢ WriteFault → run.sink_after.faults ≡ run.sink_before.faults
  serving_kept None verifier signer s other = ap (λ sink. sink.faults) s.same_sink
  serving_kept (Some source) None signer s other = ap (λ sink. sink.faults) s.same_sink
  serving_kept (Some source) (Some verifier) None s other = ap (λ sink. sink.faults) s.same_sink
  serving_kept (Some source) (Some verifier) (Some signer) s other = sink_kept _ _ _ _ _ _ s.serves.serves reader.close s.serves.closes other
