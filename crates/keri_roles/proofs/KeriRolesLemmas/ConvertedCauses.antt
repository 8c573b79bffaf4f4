-- Each fault that `convert` answers has its cause.
use Rattle.std.proofs.Common.{◌≡◌, ◌≢◌, ◌⊎◌, inl, inr, ⊎_elim, ℕ, Bool, true, false, List, [], ◌∷◌, Option, Some, None, refl, sym, ◌∙◌, ap, subst, if◌then◌else◌}
use Rattle.std.specs.Prelude.{MatchOption, is_none}
use Rattle.lists.specs.KeriSpecs.Causes.{Rose}
use Rattle.lists.proofs.KeriSpecsLemmas.Putting.{after-nil}
use Rattle.cesr_binary.specs.declared.domain.Domain.{Domain}
use Rattle.command_words.specs.Words.{convert}
use Rattle.keri_roles.specs.ItemConversion.Closes.{ClosesBy}
use Rattle.keri_roles.specs.ItemConversion.Progress.{text_in}
use Rattle.keri_roles.specs.ItemConversion.Converts.{bounds}
use Rattle.keri_roles.specs.declared.item_conversion.conversion.Conversion.{Conversion}
use Rattle.keri_outside.specs.declared.limits.Limits.{Limits}
use Rattle.run_status.specs.RunOutside.Shown.{OutsideShown}
use Rattle.run_status.specs.declared.run_status.close.Close.{Close}
use Rattle.run_status.specs.declared.run_status.close.Close.TheVariants.{End, Bad, ReadFault, VerifierFault, SignerFault, DiskFault, WriteFault, Malformed, LimitReached, OutOfMemory}
use Rattle.run_status.specs.RunStatus.Readers.{HasClose, Reader}
use Rattle.keri_outside.specs.Shown.{SinkShown, SourceShown}
use Rattle.run_status.specs.RunStatus.RunEnds.{FaultsHaveCauses, Puts, EndsRunBy, found}
use Rattle.run_status.specs.RunStatus.Status.{nothing_besides, status_of}
use Rattle.run_status.proofs.RunStatusLemmas.Causes.{faults_have_causes, words_refused}
use Rattle.keri_roles.specs.KeriRoles.Converted.{ConvertsFrom, IsConverted, unless_no_memory}
use Rattle.keri_roles.specs.KeriRoles.Rehearsed.{Serving}
use Rattle.run_status.specs.RunRecord.Run.{HasCauses, Run}

not_true : false ≡ true → ⊥
not_true e = cc

closed_one : (at : Close) (reader : Reader) → HasClose at (reader ∷ []) → reader.close ≡ at
closed_one at reader (inl e) = e
closed_one at reader (inr none) = absurd none

-- a close is want of memory, or the status is by what was found
by_close : (close : Close) → (close ≡ OutOfMemory) ⊎ ((status : ℕ) → unless_no_memory close status ≡ status)
by_close OutOfMemory = inl refl
by_close End = inr (λ status. refl)
by_close (Bad bad) = inr (λ status. refl)
by_close ReadFault = inr (λ status. refl)
by_close VerifierFault = inr (λ status. refl)
by_close SignerFault = inr (λ status. refl)
by_close DiskFault = inr (λ status. refl)
by_close WriteFault = inr (λ status. refl)
by_close (Malformed place) = inr (λ status. refl)
by_close LimitReached = inr (λ status. refl)

module _ (limits : Limits) (domain : Domain) (held : Option (List ℕ)) (before : OutsideShown) (old new : SinkShown) (c : Conversion) where
  abbrev around : Option SourceShown → Serving
  around source = record { before = before; source = source; sink_before = old; sink_after = new }

  -- some text was put, or a front of it
  put_some : (source : Option SourceShown) → ConvertsFrom limits domain held (around source) c → (text : List ℕ) × Puts text c.sink_failed old new
  put_some (Some source) w = (text_in domain w.taken.items, w.puts)
  put_some None w = ([], subst (λ (b : Bool). Puts [] b old new) (sym (ap (λ (d : Conversion). d.sink_failed) w.0)) (ap (λ (s : SinkShown). s.written) w.1 ∙ after-nil old.written, ap (λ (s : SinkShown). s.faults) w.1))

  -- it closes by no other fault than that of its source
  never : (close : Close) → (ReadFault ≢ close) → ((source : SourceShown) → ConvertsFrom limits domain held (around (Some source)) c → c.close ≡ close → ⊥)
      → (source : Option SourceShown) → ConvertsFrom limits domain held (around source) c → c.close ≢ close
  never close other each None w e = other (sym (ap (λ (d : Conversion). d.close) w.0) ∙ e)
  never close other each (Some source) w e = each source w e

  signs_never : (source : Option SourceShown) → ConvertsFrom limits domain held (around source) c → c.close ≢ SignerFault
  signs_never = never SignerFault (λ e. cc) (λ source w e. subst (ClosesBy (bounds limits.body limits.stream_bytes) _ _ w.taken) e w.closes)

  stores_never : (source : Option SourceShown) → ConvertsFrom limits domain held (around source) c → c.close ≢ DiskFault
  stores_never = never DiskFault (λ e. cc) (λ source w e. subst (ClosesBy (bounds limits.body limits.stream_bytes) _ _ w.taken) e w.closes)

  writes_never : (source : Option SourceShown) → ConvertsFrom limits domain held (around source) c → c.close ≢ WriteFault
  writes_never = never WriteFault (λ e. cc) (λ source w e. subst (ClosesBy (bounds limits.body limits.stream_bytes) _ _ w.taken) e w.closes)

  asks_never : (source : Option SourceShown) → ConvertsFrom limits domain held (around source) c → c.close ≢ VerifierFault
  asks_never = never VerifierFault (λ e. cc) (λ source w e. subst (ClosesBy (bounds limits.body limits.stream_bytes) _ _ w.taken) e w.closes)

  read_failed : (rose : Type 0) (source : Option SourceShown) → (is_none source ≡ true → rose) → ConvertsFrom limits domain held (around source) c
      → c.close ≡ ReadFault → MatchOption source rose (λ s. Rose 0 s.faults)
  read_failed rose None out w e = out refl
  read_failed rose (Some source) out w e = (subst (ClosesBy (bounds limits.body limits.stream_bytes) _ _ w.taken) e w.closes).1

-- the status is that of a sink that failed
sink_causes : (readers : List Reader) (old new : SinkShown) (status : ℕ) → status ≡ 6 → Rose old.faults new.faults → FaultsHaveCauses readers nothing_besides old new status
sink_causes readers old new status is rose = record {
  five = λ e. let clash : 6 ≡ 5 = sym is ∙ e in cc;
  seven = λ e. let clash : 6 ≡ 7 = sym is ∙ e in cc;
  eight = λ e. let clash : 6 ≡ 8 = sym is ∙ e in cc;
  nine = λ e. let clash : 6 ≡ 9 = sym is ∙ e in cc;
  six = λ e. inr rose;
  kept = λ other. absurd (other is);
}

-- or of no memory
memory_causes : (readers : List Reader) (old new : SinkShown) (status : ℕ) → status ≡ 10 → new.faults ≡ old.faults → FaultsHaveCauses readers nothing_besides old new status
memory_causes readers old new status is kept = record {
  five = λ e. let clash : 10 ≡ 5 = sym is ∙ e in cc;
  seven = λ e. let clash : 10 ≡ 7 = sym is ∙ e in cc;
  eight = λ e. let clash : 10 ≡ 8 = sym is ∙ e in cc;
  nine = λ e. let clash : 10 ≡ 9 = sym is ∙ e in cc;
  six = λ e. let clash : 10 ≡ 6 = sym is ∙ e in cc;
  kept = λ other. kept;
}

-- or by what was found of the reader
status_causes : (c : Conversion) (failed : Bool) → c.sink_failed ≡ failed → (readers : List Reader) (old new : SinkShown) (text : List ℕ) (status : ℕ) → Puts text failed old new
    → status ≡ (if failed then 6 else unless_no_memory c.close (status_of (found nothing_besides readers false))) → FaultsHaveCauses readers nothing_besides old new status × (status ≢ 2)
status_causes c true e readers old new text status puts is = (sink_causes readers old new status is puts.1, λ two. let clash : 6 ≡ 2 = sym is ∙ two in cc)
status_causes c false e readers old new text status puts is = ⊎_elim no_memory as_found (by_close c.close)
  where
    no_memory : c.close ≡ OutOfMemory → FaultsHaveCauses readers nothing_besides old new status × (status ≢ 2)
    no_memory out =
        let ten : status ≡ 10 = is ∙ ap (λ close. unless_no_memory close (status_of (found nothing_besides readers false))) out in
        (memory_causes readers old new status ten puts.1, λ two. let clash : 10 ≡ 2 = sym ten ∙ two in cc)

    as_found : ((s : ℕ) → unless_no_memory c.close s ≡ s) → FaultsHaveCauses readers nothing_besides old new status × (status ≢ 2)
    as_found same =
        let ends_run : EndsRunBy (Some text) nothing_besides readers old new status = (false, puts, is ∙ same (status_of (found nothing_besides readers false))) in
        (faults_have_causes nothing_besides readers old new status (Some text) ends_run, λ two. not_true (words_refused nothing_besides readers old new status (Some text) ends_run two))

pub converted_causes : (domain : Domain) (name : List ℕ) (run : Run) → IsConverted domain name run → HasCauses (Some (convert domain name)) run
converted_causes domain name run r =
    let limits = run.before.limits in
    let held = run.before.holds name in
    let put = put_some limits domain held run.before run.sink_before run.sink_after r.done r.reader.source r.converts in
    let status = status_causes r.done r.done.sink_failed refl run.readers run.sink_before run.sink_after put.0 run.status put.1 r.status in
    let reader : Reader = record r.reader { verifier = None; refused = []; seen = []; close = r.done.close } in
    record {
      two = λ e. absurd (status.1 e);
      besides = nothing_besides;
      faults = status.0;
      door = not_true;
      signer = ⊎_elim not_true (λ closed. signs_never limits domain held run.before run.sink_before run.sink_after r.done r.reader.source r.converts
          (closed_one SignerFault reader (subst (HasClose SignerFault) r.one closed)));
      disk = ⊎_elim not_true (λ closed. stores_never limits domain held run.before run.sink_before run.sink_after r.done r.reader.source r.converts
          (closed_one DiskFault reader (subst (HasClose DiskFault) r.one closed)));
      verifier = λ e. absurd (not_true e);
      sink = λ closed. absurd (writes_never limits domain held run.before run.sink_before run.sink_after r.done r.reader.source r.converts
          (closed_one WriteFault reader (subst (HasClose WriteFault) r.one closed)));
      shelf = not_true;
      readers = rw r.one (
        record {
          source = read_failed limits domain held run.before run.sink_before run.sink_after r.done _ r.reader.source (λ none. r.makes.rose (rw none refl)) r.converts;
          verifier = λ e. absurd (asks_never limits domain held run.before run.sink_before run.sink_after r.done r.reader.source r.converts e);
        },
        tt,
      );
    }
