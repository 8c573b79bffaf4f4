-- Each fault that a run answers has its cause.
use Rattle.std.proofs.Common.{◌≡◌, ◌≢◌, inl, inr, ⊎_elim, ℕ, Bool, true, false, ◌||◌, List, [], ◌∷◌, Option, Some, None, refl, sym, ◌∙◌, ap, subst}
use Rattle.std.specs.Prelude.{IsNone, MatchOption, codes}
use Rattle.lists.specs.KeriSpecs.Causes.{Rose}
use Rattle.command_words.specs.Inputs.{links, named}
use Rattle.command_words.specs.Words.{Asked, blame, check, convert, export, generate, make, rehearse, validate, watch, witness}
use Rattle.shelf_log.specs.KeriDisk.Images.{DiskShown}
use Rattle.verifier_link.specs.declared.served.Served.{Served}
use Rattle.verifier_link.specs.declared.served.Served.TheVariants.{End, Malformed, ReadFault, WriteFault, LimitReached, OutOfMemory}
use Rattle.run_status.specs.declared.run_status.besides.Besides.{Besides}
use Rattle.run_status.specs.declared.run_status.close.Close.{Close}
use Rattle.run_status.specs.declared.run_status.close.Close.TheVariants as closing
use Rattle.run_status.specs.RunStatus.Readers.{HasClose, Reader}
use Rattle.keri_outside.specs.Shown.{SinkShown, SourceShown}
use Rattle.run_status.specs.RunStatus.Status.{nothing_besides}
use Rattle.run_status.proofs.RunStatusLemmas.Causes.{faults_have_causes, words_refused}
use Rattle.keri_roles.specs.KeriRoles.Commands.{IsRunOf, IsUnbegun, CarriesOut}
use Rattle.keri_roles.specs.CoreRoles.CoreTold.{fails_last, last_close}
use Rattle.keri_roles.specs.KeriRoles.Made.{IsMade, given_alone, given_behind}
use Rattle.keri_roles.specs.KeriRoles.Rehearsed.{IsRehearsed, Serves, serving_close, serving_status}
use Rattle.run_status.specs.RunRecord.Run.{AreCausedBy, DoorFails, DoorRose, EndsRun, Run, HasCauses, SignerFails, VerifierRose}
use Rattle.keri_roles.specs.CoreRoles.Work.{LinksShown, Work, work_in}
use Rattle.keri_roles.specs.CoreRoles.LinksShown.{AreUnseated}
use Rattle.run_status.specs.RunRecord.Seen.{disk_seen}
use Rattle.witness_core.proofs.WitnessRoleLemmas.WitnessedCauses.{witnessed_causes}
use Rattle.keri_roles.proofs.KeriRolesLemmas.ConvertedCauses.{converted_causes}
use Rattle.keri_roles.proofs.CoreRolesLemmas.Causes.{door_rose, files_caused, files_unfailed, linked_caused, linked_door, linked_unfailed, told_rose}
use Rattle.keri_roles.proofs.KeriRolesLemmas.Causes.{check_caused, generated_caused, made_caused, made_rose, made_signer, rehearsed_caused}
use Rattle.keri_roles.proofs.CoreRolesLemmas.BlamedCauses.{blamed_caused, blamed_rose, blamed_serves}
use Rattle.keri_roles.proofs.KeriRolesLemmas.Made.{due_finds}
use Rattle.keri_roles.proofs.CoreRolesLemmas.Never.{has_none, some_serves, told_serves}
use Rattle.keri_roles.proofs.KeriRolesLemmas.Never.{check_serves, generated_serves, made_serves}

-- what a command finds that reads to a core: whether there is a conflict, whether an identifier isn't known, whether a verifier failed
-- in the last round, whether its door failed, and nothing else
abbrev core_finds : Bool → Bool → Bool → Bool → Besides
core_finds has unknown failed door = record nothing_besides { conflict_found = has; prefix_unknown = unknown; verifier_failed = failed; door_failed = door }

finds_no : (finds : Besides → Bool) (besides other : Besides) → finds other ≡ false → besides ≡ other → finds besides ≡ true → ⊥
finds_no finds besides other none e some = let clash : false ≡ true = sym none ∙ (sym (ap finds e) ∙ some) in cc

-- `make` finds nothing of the words, of a disk, or of a shelf
made_finds : (finds : Besides → Bool) (none : (signer refused : Bool) → finds (record nothing_besides { signer_failed = signer; plan_refused = refused }) ≡ false)
    (apart : (besides : Besides) (failed : Bool) → finds (record besides { verifier_failed = failed }) ≡ finds besides)
    (helper plan : List ℕ) (log : Option (List ℕ)) (work : Work) → IsMade helper plan log work → finds work.besides ≡ true → ⊥
made_finds finds none apart helper plan None work m some = due_finds (given_alone helper m.text work) work.owed work.besides finds none (m.reader.close ∷ []) work.signer m.owes some
made_finds finds none apart helper plan (Some log) work m some = due_finds (given_behind helper m.text m.log_reader m.journal.fed.held work) work.owed m.due finds none
    (m.plan_reader.close ∷ m.log_reader.close ∷ last_close m.rest ∷ []) work.signer m.owes (sym (ap finds m.besides ∙ apart m.due (fails_last m.rest)) ∙ some)

-- a run that wrote what its command owes, and whose readers only read
written_causes : (asked : Option Asked) (run : Run) (owed : Option (List ℕ)) (besides : Besides) → EndsRun owed besides run → (besides.words_refused ≡ true → IsNone asked)
    → (besides.signer_failed ≡ true → SignerFails asked run) → (besides.disk_failed ≡ true → ⊥) → (besides.shelf_full ≡ true → ⊥)
    → (besides.verifier_failed ≡ true → VerifierRose run.readers) → (besides.door_failed ≡ true → DoorFails asked run)
    → some_serves run.readers ≡ false → AreCausedBy asked run → HasCauses asked run
written_causes asked run owed besides ends_run refused failed no_disk no_shelf last door reads caused = record {
  two = λ e. refused (words_refused besides run.readers run.sink_before run.sink_after run.status owed ends_run e);
  besides = besides;
  faults = faults_have_causes besides run.readers run.sink_before run.sink_after run.status owed ends_run;
  signer = ⊎_elim failed (λ closed. absurd (has_none closing.SignerFault refl run.readers reads closed));
  door = door;
  disk = ⊎_elim (λ some. absurd (no_disk some)) (λ closed. absurd (has_none closing.DiskFault refl run.readers reads closed));
  verifier = last;
  sink = λ closed. absurd (has_none closing.WriteFault refl run.readers reads closed);
  shelf = λ some. absurd (no_shelf some);
  readers = caused;
}

-- one whose command neither refuses words nor has a signer
plain_causes : (asked : Asked) (run : Run) (owed : Option (List ℕ)) (besides : Besides) → EndsRun owed besides run → (has unknown failed door : Bool)
    → besides ≡ core_finds has unknown failed door → (failed ≡ true → VerifierRose run.readers) → (door ≡ true → DoorFails (Some asked) run)
    → some_serves run.readers ≡ false → AreCausedBy (Some asked) run → HasCauses (Some asked) run
plain_causes asked run owed besides ends_run has unknown failed door e last door_fails reads caused = written_causes (Some asked) run owed besides ends_run
    (λ some. absurd (no (λ b. b.words_refused) refl some)) (λ some. absurd (no (λ b. b.signer_failed) refl some))
    (no (λ b. b.disk_failed) refl) (no (λ b. b.shelf_full) refl)
    (λ some. last (sym (ap (λ b. b.verifier_failed) e) ∙ some)) (λ some. door_fails (sym (ap (λ b. b.door_failed) e) ∙ some)) reads caused
  where
    no : (finds : Besides → Bool) → finds (core_finds has unknown failed door) ≡ false → finds besides ≡ true → ⊥
    no finds none some = finds_no finds besides (core_finds has unknown failed door) none e some

-- what a status of `rehearse` says of the serving
by_two : (served : Served) → serving_status served ≢ 2
by_two End e = cc
by_two (Malformed place) e = cc
by_two ReadFault e = cc
by_two WriteFault e = cc
by_two LimitReached e = cc
by_two OutOfMemory e = cc

by_seven : (served : Served) → serving_status served ≢ 7
by_seven End e = cc
by_seven (Malformed place) e = cc
by_seven ReadFault e = cc
by_seven WriteFault e = cc
by_seven LimitReached e = cc
by_seven OutOfMemory e = cc

by_eight : (served : Served) → serving_status served ≢ 8
by_eight End e = cc
by_eight (Malformed place) e = cc
by_eight ReadFault e = cc
by_eight WriteFault e = cc
by_eight LimitReached e = cc
by_eight OutOfMemory e = cc

by_five : (served : Served) → serving_status served ≡ 5 → serving_close served ≡ closing.ReadFault
by_five End e = cc
by_five (Malformed place) e = cc
by_five ReadFault e = refl
by_five WriteFault e = cc
by_five LimitReached e = cc
by_five OutOfMemory e = cc

by_nine : (served : Served) → serving_status served ≡ 9 → serving_close served ≡ closing.LimitReached
by_nine End e = cc
by_nine (Malformed place) e = cc
by_nine ReadFault e = cc
by_nine WriteFault e = cc
by_nine LimitReached e = refl
by_nine OutOfMemory e = cc

module _ (most : ℕ) (held : Option (List ℕ)) (old new : SinkShown) where
  serving_wrote : (source : Option SourceShown) (served : Served) → Serves most held source old new served → serving_status served ≡ 6 → Rose old.faults new.faults
  serving_wrote None served s e = let clash : 5 ≡ 6 = sym (ap serving_status s.0) ∙ e in cc
  serving_wrote (Some source) WriteFault s e = s.closes.2.faults
  serving_wrote (Some source) End s e = cc
  serving_wrote (Some source) (Malformed place) s e = cc
  serving_wrote (Some source) ReadFault s e = cc
  serving_wrote (Some source) LimitReached s e = cc
  serving_wrote (Some source) OutOfMemory s e = cc

  serving_kept : (source : Option SourceShown) (served : Served) → Serves most held source old new served → serving_status served ≢ 6 → new.faults ≡ old.faults
  serving_kept None served s other = ap (λ sink. sink.faults) s.1
  serving_kept (Some source) End s other = s.closes.3.faults
  serving_kept (Some source) (Malformed place) s other = s.closes.3.faults
  serving_kept (Some source) ReadFault s other = s.closes.3.faults
  serving_kept (Some source) WriteFault s other = absurd (other refl)
  serving_kept (Some source) LimitReached s other = s.closes.2.faults
  serving_kept (Some source) OutOfMemory s other = ap (λ sides. sides.sink.faults) s.closes.2

-- no reader of it closes by a fault of a signer or of a disk
served_signs : (served : Served) → serving_close served ≢ closing.SignerFault
served_signs End e = cc
served_signs (Malformed place) e = cc
served_signs ReadFault e = cc
served_signs WriteFault e = cc
served_signs LimitReached e = cc
served_signs OutOfMemory e = cc

served_stores : (served : Served) → serving_close served ≢ closing.DiskFault
served_stores End e = cc
served_stores (Malformed place) e = cc
served_stores ReadFault e = cc
served_stores WriteFault e = cc
served_stores LimitReached e = cc
served_stores OutOfMemory e = cc

served_writes : (served : Served) → serving_close served ≡ closing.WriteFault → serving_status served ≡ 6
served_writes WriteFault e = refl
served_writes End e = cc
served_writes (Malformed place) e = cc
served_writes ReadFault e = cc
served_writes LimitReached e = cc
served_writes OutOfMemory e = cc

closed_one : (at : Close) (reader : Reader) → HasClose at (reader ∷ []) → reader.close ≡ at
closed_one at reader (inl e) = e
closed_one at reader (inr none) = absurd none

not_true : false ≡ true → ⊥
not_true e = cc

rehearsed_causes : (run : Run) → IsRehearsed run → HasCauses (Some rehearse) run
rehearsed_causes run r =
    let most = run.before.limits.stream_bytes in
    let held = run.before.holds (codes "-") in
    let wrote = serving_wrote most held run.sink_before run.sink_after r.reader.source r.served r.serves in
    let reader : Reader = record r.reader { verifier = None; refused = []; seen = []; close = serving_close r.served } in
    record {
      two = λ e. absurd (by_two r.served (sym r.status ∙ e));
      besides = nothing_besides;
      faults = record {
        five = λ e. inl (rw r.one (inl (by_five r.served (sym r.status ∙ e))));
        seven = λ e. absurd (by_seven r.served (sym r.status ∙ e));
        eight = λ e. absurd (by_eight r.served (sym r.status ∙ e));
        nine = λ e. inl (rw r.one (inl (by_nine r.served (sym r.status ∙ e))));
        six = λ e. inr (wrote (sym r.status ∙ e));
        kept = λ other. serving_kept most held run.sink_before run.sink_after r.reader.source r.served r.serves (λ e. other (r.status ∙ e));
      };
      door = λ e. absurd (not_true e);
      signer = ⊎_elim not_true (λ closed. served_signs r.served (closed_one closing.SignerFault reader (subst (HasClose closing.SignerFault) r.one closed)));
      disk = ⊎_elim not_true (λ closed. served_stores r.served (closed_one closing.DiskFault reader (subst (HasClose closing.DiskFault) r.one closed)));
      verifier = λ e. absurd (not_true e);
      sink = λ closed. wrote (served_writes r.served (closed_one closing.WriteFault reader (subst (HasClose closing.WriteFault) r.one closed)));
      shelf = not_true;
      readers = rehearsed_caused run r;
    }

-- where nothing was read, no reader closed by a fault
none_caused : (asked : Option Asked) (run : Run) → run.readers ≡ [] → AreCausedBy asked run
none_caused None run e = rw e tt
none_caused (Some (check file)) run e = rw e tt
none_caused (Some (validate helper inputs)) run e = rw e tt
none_caused (Some (watch helper inputs)) run e = rw e tt
none_caused (Some (witness helper key shelf from (named name))) run e = rw e tt
none_caused (Some (witness helper key shelf from (links address count))) run e =
    record { sources = rw e tt; verifier = λ closed. absurd (subst (HasClose closing.VerifierFault) e closed) }
none_caused (Some (make helper plan log)) run e = rw e tt
none_caused (Some (convert domain name)) run e = rw e tt
none_caused (Some (export helper prefix names)) run e = rw e tt
none_caused (Some (blame helper first second)) run e = rw e tt
none_caused (Some (generate seed logs events)) run e = rw e tt
none_caused (Some rehearse) run e = rw e tt

-- a run for which there was no memory to begin with
unbegun_causes : (asked : Option Asked) (run : Run) → IsUnbegun run → HasCauses asked run
unbegun_causes asked run u = record {
  two = λ e. let clash : 10 ≡ 2 = sym u.status ∙ e in cc;
  besides = nothing_besides;
  faults = record {
    five = λ e. let clash : 10 ≡ 5 = sym u.status ∙ e in cc;
    seven = λ e. let clash : 10 ≡ 7 = sym u.status ∙ e in cc;
    eight = λ e. let clash : 10 ≡ 8 = sym u.status ∙ e in cc;
    nine = λ e. let clash : 10 ≡ 9 = sym u.status ∙ e in cc;
    six = λ e. let clash : 10 ≡ 6 = sym u.status ∙ e in cc;
    kept = λ other. ap (λ sink. sink.faults) u.none_written;
  };
  door = λ e. absurd (not_true e);
  signer = ⊎_elim (λ e. absurd (not_true e)) (λ closed. absurd (subst (HasClose closing.SignerFault) u.none_read closed));
  disk = ⊎_elim (λ e. absurd (not_true e)) (λ closed. absurd (subst (HasClose closing.DiskFault) u.none_read closed));
  verifier = λ e. absurd (not_true e);
  sink = λ closed. absurd (subst (HasClose closing.WriteFault) u.none_read closed);
  shelf = λ e. absurd (not_true e);
  readers = none_caused asked run u.none_read;
}

-- one over links, where there was no memory for their readers
unseated_causes : (asked : Asked) (run : Run) (owed : Option (List ℕ)) (besides : Besides) → EndsRun owed besides run → (address : List ℕ) (count : ℕ) (came : LinksShown)
    → AreUnseated address count came (work_in run owed besides) → came.door ≡ run.door → (DoorRose run → DoorFails (Some asked) run)
    → (run.readers ≡ [] → AreCausedBy (Some asked) run) → HasCauses (Some asked) run
unseated_causes asked run owed besides ends_run address count came u door fails caused =
    plain_causes asked run owed besides ends_run false false false came.failed u.nothing_else (λ e. absurd (not_true e))
    (λ e. fails (subst (λ d. MatchOption d (Rose run.before.faults run.after.faults) (λ x. Rose 0 x.faults)) door
    (door_rose _ (run.before.links address) count came.failed _ came.door (λ none. u.makes.rose (rw none refl)) u.taken.taken e)))
    (ap some_serves u.none_read) (caused u.none_read)

carried_causes : {D : Type 0} (shown : D → DiskShown) (disk old : Option D) (asked : Option Asked) (run : Run) → run.disk ≡ disk_seen shown disk → run.old ≡ disk_seen shown old
    → CarriesOut shown disk old asked run → HasCauses asked run
carried_causes shown disk old None run d o w = written_causes None run w.owed w.besides w.ends_run (λ refused. refl)
    (λ some. absurd (refused_only (λ b. b.signer_failed) refl some)) (refused_only (λ b. b.disk_failed) refl) (refused_only (λ b. b.shelf_full) refl)
    (λ some. absurd (refused_only (λ b. b.verifier_failed) refl some)) (λ some. absurd (refused_only (λ b. b.door_failed) refl some))
    (rw w.does.idle.none_read refl) (rw w.does.idle.none_read tt)
  where
    refused_only : (finds : Besides → Bool) → finds (record nothing_besides { words_refused = true }) ≡ false → finds w.besides ≡ true → ⊥
    refused_only finds none some = finds_no finds w.besides (record nothing_besides { words_refused = true }) none w.does.nothing_else some
carried_causes shown disk old (Some (check name)) run d o w = let work = work_in run w.owed w.besides in
    plain_causes (check name) run w.owed w.besides w.ends_run false false false false w.does.nothing_else (λ e. absurd (not_true e)) (λ e. absurd (not_true e))
    (check_serves name work w.does) (check_caused name work w.does)
carried_causes shown disk old (Some (validate helper (named names))) run d o w = let work = work_in run w.owed w.besides in let over = w.does.over in
    plain_causes (validate helper (named names)) run w.owed w.besides w.ends_run over.owes.is_found false (fails_last over.told.rest) false over.owes.nothing_else
    (told_rose _ _ work over.told (files_unfailed _ helper names work over.told)) (λ e. absurd (not_true e))
    (told_serves _ _ work over.told) (files_caused _ helper names work over.told)
carried_causes shown disk old (Some (validate helper (links address count))) run d o w = let work = work_in run w.owed w.besides in
    let at : LinksShown = record { door = run.door; sinks = run.sinks; failed = w.besides.door_failed } in elim w.does [
      | inl is ↦ (let over = is.over in plain_causes (validate helper (links address count)) run w.owed w.besides w.ends_run over.owes.is_found false (fails_last over.told.rest) at.failed
          over.owes.nothing_else (told_rose _ _ work over.told (linked_unfailed _ helper address count at work over.told)) (linked_door _ helper address count at work over.told)
          (told_serves _ _ work over.told) (linked_caused _ helper address count at work over.told))
      | inr u ↦ unseated_causes (validate helper (links address count)) run w.owed w.besides w.ends_run address count at u refl (λ x. x) (λ e. rw e tt)
    ]
carried_causes shown disk old (Some (watch helper (named names))) run d o w = let work = work_in run w.owed w.besides in let over = w.does.over in
    plain_causes (watch helper (named names)) run w.owed w.besides w.ends_run over.owes.is_found false (fails_last over.told.rest) false over.owes.nothing_else
    (told_rose _ _ work over.told (files_unfailed _ helper names work over.told)) (λ e. absurd (not_true e))
    (told_serves _ _ work over.told) (files_caused _ helper names work over.told)
carried_causes shown disk old (Some (watch helper (links address count))) run d o w = let work = work_in run w.owed w.besides in
    let at : LinksShown = record { door = run.door; sinks = run.sinks; failed = w.besides.door_failed } in elim w.does [
      | inl is ↦ (let over = is.over in plain_causes (watch helper (links address count)) run w.owed w.besides w.ends_run over.owes.is_found false (fails_last over.told.rest) at.failed
          over.owes.nothing_else (told_rose _ _ work over.told (linked_unfailed _ helper address count at work over.told)) (linked_door _ helper address count at work over.told)
          (told_serves _ _ work over.told) (linked_caused _ helper address count at work over.told))
      | inr u ↦ unseated_causes (watch helper (links address count)) run w.owed w.besides w.ends_run address count at u refl (λ x. x) (λ e. rw e tt)
    ]
carried_causes shown disk old (Some (witness helper key shelf from inputs)) run d o w = witnessed_causes shown disk old helper key shelf from inputs run d o w
carried_causes shown disk old (Some (export helper prefix names)) run d o w = let work = work_in run w.owed w.besides in let over = w.does in
    plain_causes (export helper prefix names) run w.owed w.besides w.ends_run false over.owes.is_found (fails_last over.told.rest) false over.owes.nothing_else
    (told_rose _ _ work over.told (files_unfailed _ helper names work over.told)) (λ e. absurd (not_true e))
    (told_serves _ _ work over.told) (files_caused _ helper names work over.told)
carried_causes shown disk old (Some (blame helper first second)) run d o w = let work = work_in run w.owed w.besides in
    plain_causes (blame helper first second) run w.owed w.besides w.ends_run w.does.has_blames false (fails_last w.does.rest || fails_last w.does.other_rest) false w.does.nothing_else
    (λ e. blamed_rose helper first second run.second work w.does (ap (λ b. b.verifier_failed) w.does.nothing_else ∙ e)) (λ e. absurd (not_true e))
    (blamed_serves helper first second run.second work w.does) (blamed_caused helper first second run.second work w.does)
carried_causes shown disk old (Some (make helper plan log)) run d o w = let work = work_in run w.owed w.besides in
    written_causes (Some (make helper plan log)) run w.owed w.besides w.ends_run (λ some. absurd (made_finds (λ b. b.words_refused) (λ s r. refl) (λ b f. refl) helper plan log work w.does some))
    (made_signer helper plan log work w.does) (made_finds (λ b. b.disk_failed) (λ s r. refl) (λ b f. refl) helper plan log work w.does)
    (made_finds (λ b. b.shelf_full) (λ s r. refl) (λ b f. refl) helper plan log work w.does) (made_rose helper plan log work w.does)
    (made_finds (λ b. b.door_failed) (λ s r. refl) (λ b f. refl) helper plan log work w.does)
    (made_serves helper plan log work w.does) (made_caused helper plan log work w.does)
carried_causes shown disk old (Some (convert domain name)) run d o c = converted_causes domain name run c
carried_causes shown disk old (Some (generate seed logs events)) run d o w = let work = work_in run w.owed w.besides in
    plain_causes (generate seed logs events) run w.owed w.besides w.ends_run false false false false w.does.nothing_else (λ e. absurd (not_true e)) (λ e. absurd (not_true e))
    (generated_serves seed logs events work w.does) (generated_caused seed logs events work w.does)
carried_causes shown disk old (Some rehearse) run d o r = rehearsed_causes run r

-- of any run of which this is known
pub has_causes : {D : Type 0} (shown : D → DiskShown) (disk old : Option D) (asked : Option Asked) (run : Run) → IsRunOf shown disk old asked run
    → run.disk ≡ disk_seen shown disk → run.old ≡ disk_seen shown old → HasCauses asked run
has_causes shown disk old asked run (inl c) d o = carried_causes shown disk old asked run d o c
has_causes shown disk old asked run (inr u) d o = unbegun_causes asked run u
