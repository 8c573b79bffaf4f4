-- No reader of `check`, `make` or `gen` closes by the fault of a signer, of a disk, or of a sink.
use Rattle.std.proofs.Common.{◌≡◌, ◌≢◌, ℕ, false, ◌||◌, List, [], ◌∷◌, Option, Some, None, refl, ◌∙◌, ap}
use Rattle.cesr_codes.specs.declared.digest.Digest.{Digest}
use Rattle.keri_outside.specs.declared.limits.Limits.{Limits}
use Rattle.journal.specs.declared.journal.refusal.Refusal.{Refusal}
use Rattle.run_status.specs.declared.message_feed.text_close.TextClose.{TextClose}
use Rattle.run_status.specs.declared.message_feed.text_close.TextClose.TheVariants as text
use Rattle.run_status.specs.declared.run_status.close.Close.{Close}
use Rattle.run_status.specs.declared.run_status.close.Close.TheVariants.{End, ReadFault, SignerFault, DiskFault, WriteFault, LimitReached, OutOfMemory}
use Rattle.run_status.specs.RunStatus.Readers.{Reader, VerifierShown}
use Rattle.keri_outside.specs.Shown.{SourceShown}
use Rattle.keri_roles.specs.KeriRoles.Check.{IsChecked, OwesChecks}
use Rattle.keri_roles.specs.KeriRoles.Commands.{IsGenerated}
use Rattle.keri_roles.specs.KeriRoles.Generated.{made_of}
use Rattle.keri_roles.specs.KeriRoles.Made.{IsMade, WasRead, close_of}
use Rattle.keri_roles.specs.CoreRoles.Work.{Work}
use Rattle.keri_roles.proofs.CoreRolesLemmas.Never.{each_serves, is_serving, or_false, reads_only, some_serves}

module _ (limits : Limits) (held : Option (List ℕ)) (verifier : Option VerifierShown) (refused : List Refusal) (seen : List Digest) where
  abbrev closing_so : Option SourceShown → Close → Reader
  closing_so source close = record { source = source; verifier = verifier; refused = refused; seen = seen; close = close }

  module _ (at : Close) (not_out : at ≢ OutOfMemory) (not_read : at ≢ ReadFault)
      (never : (source : SourceShown) (text : List ℕ) → OwesChecks (closing_so (Some source) at) limits held (Some text) → ⊥) where
    check_never : (source : Option SourceShown) (owed : Option (List ℕ)) → OwesChecks (closing_so source at) limits held owed → ⊥
    check_never source None o = not_out o
    check_never None (Some text) o = not_read o.1.fault
    check_never (Some source) (Some text) o = never source text o

  check_only : (source : Option SourceShown) (owed : Option (List ℕ)) (close : Close) → OwesChecks (closing_so source close) limits held owed → is_serving close ≡ false
  check_only source owed close o = reads_only (λ close. OwesChecks (closing_so source close) limits held owed)
      (check_never SignerFault (λ e. cc) (λ e. cc) (λ s text o. o.1.closes) source owed)
      (check_never DiskFault (λ e. cc) (λ e. cc) (λ s text o. o.1.closes) source owed)
      (check_never WriteFault (λ e. cc) (λ e. cc) (λ s text o. o.1.closes) source owed) close o

text_closes : (closed : TextClose) → is_serving (close_of closed) ≡ false
text_closes text.End = refl
text_closes text.ReadFault = refl
text_closes text.LimitReached = refl
text_closes text.OutOfMemory = refl

text_only : (most : ℕ) (held : Option (List ℕ)) (bytes : List ℕ) (source : Option SourceShown) (close : Close) → WasRead most held source bytes close → is_serving close ≡ false
text_only most held bytes None close r = rw r.0 refl
text_only most held bytes (Some source) close r = rw r.closes (text_closes r.closed)

pub check_serves : (name : List ℕ) (work : Work) → IsChecked name work → some_serves work.readers ≡ false
check_serves name work c = ap some_serves c.one ∙ or_false (is_serving c.reader.close) false
    (check_only work.before.limits (work.before.holds name) c.reader.verifier c.reader.refused c.reader.seen c.reader.source work.owed c.reader.close c.owes) refl

pub made_serves : (helper plan : List ℕ) (log : Option (List ℕ)) (work : Work) → IsMade helper plan log work → some_serves work.readers ≡ false
made_serves helper plan None work m = ap some_serves m.one ∙ or_false (is_serving m.reader.close) false
    (text_only _ _ m.text m.reader.source m.reader.close m.reads.read) refl
made_serves helper plan (Some log) work m = ap some_serves m.two ∙ or_false (is_serving m.plan_reader.close) (is_serving m.log_reader.close || false)
    (text_only _ _ m.text m.plan_reader.source m.plan_reader.close m.reads.read)
    (each_serves _ _ _ m.rest 0 m.journal.read (m.given ∷ []) (m.log_reader ∷ []) m.journal.fed.fed.each m.journal.each)

pub generated_serves : (seed logs events : ℕ) (work : Work) → IsGenerated seed logs events work → some_serves work.readers ≡ false
generated_serves seed logs events work g = ap some_serves g.one
    ∙ each_serves _ _ _ g.rest 0 g.journal.read (made_of seed logs events ∷ []) (g.reader ∷ []) g.journal.fed.fed.each g.journal.each
