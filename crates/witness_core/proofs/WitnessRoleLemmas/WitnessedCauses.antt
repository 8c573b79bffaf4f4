-- Each fault that a run of `witness` answers has its cause.
use Rattle.std.proofs.Common.{◌≡◌, ◌⊎◌, inl, inr, ⊎_elim, ℕ, Bool, true, false, List, [], ◌∷◌, Option, Some, None, Err, refl, sym, ◌∙◌, ap, append-nil, subst}
use Rattle.std.specs.Prelude.{IsSomeAnd, if◌then◌else◌}
use Rattle.std.specs.List.{list_any}
use Rattle.lists.specs.KeriSpecs.Causes.{Rose}
use Rattle.lists.specs.KeriSpecs.Shown.{after}
use Rattle.cesr_codes.specs.declared.key.Key.{Key}
use Rattle.command_words.specs.Inputs.{Inputs, links, named}
use Rattle.command_words.specs.Words.{witness}
use Rattle.journal.specs.declared.journal.resume_fault.ResumeFault.{ResumeFault}
use Rattle.journal.specs.declared.journal.resume_fault.ResumeFault.TheVariants.{NotALog, OutOfMemory as NoMemory}
use Rattle.shelf_log.specs.KeriDisk.Images.{DiskShown}
use Rattle.run_status.specs.RunOutside.Shown.{OutsideShown}
use Rattle.run_status.specs.declared.run_status.besides.Besides.{Besides}
use Rattle.run_status.specs.declared.run_status.close.Close.{Close}
use Rattle.run_status.specs.declared.run_status.close.Close.TheVariants as closing
use Rattle.run_status.specs.RunStatus.Readers.{HasClose, Reader}
use Rattle.keri_outside.specs.Shown.{SinkShown}
use Rattle.run_status.specs.RunStatus.RunEnds.{EndsRunBy, found}
use Rattle.run_status.specs.RunStatus.Status.{nothing_besides, status_of}
use Rattle.run_status.proofs.RunStatusLemmas.Causes.{faults_have_causes, six_closed, words_refused}
use Rattle.witness_core.specs.WitnessOpening.Found.{found_by}
use Rattle.witness_core.specs.declared.witness_opening.fault.OpeningFault.{OpeningFault}
use Rattle.witness_core.specs.declared.witness_opening.fault.OpeningFault.TheVariants.{NotAShelf, NotAnOldShelf, DiskFault, LimitReached, OutOfMemory}
use Rattle.run_status.specs.RunRecord.Run.{AreCausedBy, DiskRose, HasCauses, Run, is_out}
use Rattle.run_status.specs.RunRecord.Seen.{disk_seen}
use Rattle.witness_core.specs.WitnessLink.Links.{Left}
use Rattle.witness_core.specs.WitnessRole.ServedFile.{IsServing, status_closing}
use Rattle.witness_core.specs.WitnessRole.ServedLinks.{IsServingLinks}
use Rattle.witness_core.specs.WitnessRole.Witnessed.{IsUnread, IsUnstarted, IsWitnessed, OpensNone, ServesInput, start_found, start_text}
use Rattle.witness_core.proofs.WitnessRoleLemmas.LinksCauses.{links_asked, links_failed, links_read, links_signed, links_stored, links_wrote}
use Rattle.witness_core.proofs.WitnessRoleLemmas.ServedCauses.{serving_asked, serving_kept, serving_read, serving_signed, serving_stored, serving_wrote}

-- no reader closed by a fault
none_caused : (helper : List ℕ) (key : Key) (shelf : List ℕ) (from : Option (List ℕ)) (input : Inputs (List ℕ)) (run : Run) → run.readers ≡ []
    → AreCausedBy (Some (witness helper key shelf from input)) run
none_caused helper key shelf from (named name) run none = rw none tt
none_caused helper key shelf from (links address count) run none =
    record { sources = rw none tt; verifier = λ closed. absurd (subst (HasClose closing.VerifierFault) none closed) }

-- a run that read nothing
unread_causes : (helper : List ℕ) (key : Key) (shelf : List ℕ) (from : Option (List ℕ)) (input : Inputs (List ℕ)) (no_memory : Type 0) (text : List ℕ) (besides : Besides) (run : Run)
    → IsUnread no_memory text besides run → (besides.words_refused ≡ true → ⊥) → (besides.signer_failed ≡ true → ⊥)
    → (besides.door_failed ≡ true → ⊥) → (besides.verifier_failed ≡ true → ⊥) → (besides.disk_failed ≡ true → Rose run.before.faults run.after.faults ⊎ DiskRose run.disk ⊎ DiskRose run.old)
    → HasCauses (Some (witness helper key shelf from input)) run
unread_causes helper key shelf from input no_memory text besides run u words signer door verifier disk = record {
  two = λ e. absurd (words (words_refused besides run.readers run.sink_before run.sink_after run.status u.owed u.ends_run e));
  besides = besides;
  faults = faults_have_causes besides run.readers run.sink_before run.sink_after run.status u.owed u.ends_run;
  signer = ⊎_elim (λ failed. absurd (signer failed)) (λ closed. absurd (subst (HasClose closing.SignerFault) u.none_read closed));
  door = λ e. absurd (door e);
  disk = ⊎_elim disk (λ closed. absurd (subst (HasClose closing.DiskFault) u.none_read closed));
  verifier = λ e. absurd (verifier e);
  sink = λ closed. absurd (subst (HasClose closing.WriteFault) u.none_read closed);
  shelf = λ e. tt;
  readers = none_caused helper key shelf from input run u.none_read;
}

-- what is found where there is no shelf
opening_words : (fault : OpeningFault) → (found_by fault).words_refused ≡ true → ⊥
opening_words (NotAShelf place) e = cc
opening_words (NotAnOldShelf place) e = cc
opening_words DiskFault e = cc
opening_words LimitReached e = cc
opening_words OutOfMemory e = cc

opening_signer : (fault : OpeningFault) → (found_by fault).signer_failed ≡ true → ⊥
opening_signer (NotAShelf place) e = cc
opening_signer (NotAnOldShelf place) e = cc
opening_signer DiskFault e = cc
opening_signer LimitReached e = cc
opening_signer OutOfMemory e = cc

opening_verifier : (fault : OpeningFault) → (found_by fault).verifier_failed ≡ true → ⊥
opening_verifier (NotAShelf place) e = cc
opening_verifier (NotAnOldShelf place) e = cc
opening_verifier DiskFault e = cc
opening_verifier LimitReached e = cc
opening_verifier OutOfMemory e = cc

opening_door : (fault : OpeningFault) → (found_by fault).door_failed ≡ true → ⊥
opening_door (NotAShelf place) e = cc
opening_door (NotAnOldShelf place) e = cc
opening_door DiskFault e = cc
opening_door LimitReached e = cc
opening_door OutOfMemory e = cc

opening_disk : (fault : OpeningFault) → (found_by fault).disk_failed ≡ true → fault ≡ DiskFault
opening_disk (NotAShelf place) e = cc
opening_disk (NotAnOldShelf place) e = cc
opening_disk DiskFault e = refl
opening_disk LimitReached e = cc
opening_disk OutOfMemory e = cc

-- and where no witness starts
starting_words : (fault : ResumeFault) → (start_found fault).words_refused ≡ true → ⊥
starting_words (NotALog number) e = cc
starting_words NoMemory e = cc

starting_signer : (fault : ResumeFault) → (start_found fault).signer_failed ≡ true → ⊥
starting_signer (NotALog number) e = cc
starting_signer NoMemory e = cc

starting_verifier : (fault : ResumeFault) → (start_found fault).verifier_failed ≡ true → ⊥
starting_verifier (NotALog number) e = cc
starting_verifier NoMemory e = cc

starting_door : (fault : ResumeFault) → (start_found fault).door_failed ≡ true → ⊥
starting_door (NotALog number) e = cc
starting_door NoMemory e = cc

starting_disk : (fault : ResumeFault) → (start_found fault).disk_failed ≡ true → ⊥
starting_disk (NotALog number) e = cc
starting_disk NoMemory e = cc

-- nothing behind what was written
after_none : (shown : Option (List ℕ)) → shown ≡ after shown []
after_none None = refl
after_none (Some written) = ap Some (sym (append-nil written))

-- the status of readers is as where nothing more was owed
closing_ends_run : (out : Bool) (besides : Besides) (readers : List Reader) (sink : SinkShown) (status : ℕ) → status ≡ (if out then 10 else status_of (found besides readers false))
    → EndsRunBy (if out then None else Some []) besides readers sink sink status
closing_ends_run true besides readers sink status e = (e, refl)
closing_ends_run false besides readers sink status e = (false, (after_none sink.written, refl), e)

closing_six : (out : Bool) (besides : Besides) (readers : List Reader) (status : ℕ) → status ≡ (if out then 10 else status_of (found besides readers false)) → status ≡ 6 → HasClose closing.WriteFault readers
closing_six true besides readers status s e = let clash : 10 ≡ 6 = sym s ∙ e in cc
closing_six false besides readers status s e = six_closed besides readers status s e

wrote_six : (reader : Reader) → reader.close ≡ closing.WriteFault → status_closing nothing_besides (reader ∷ []) ≡ 6
wrote_six reader e = rw e refl

closed_one : (at : Close) (reader : Reader) → HasClose at (reader ∷ []) → reader.close ≡ at
closed_one at reader (inl e) = e
closed_one at reader (inr none) = absurd none

not_true : false ≡ true → ⊥
not_true e = cc

module _ {D : Type 0} (shown : D → DiskShown) where
  rose_seen : (disk : Option D) → IsSomeAnd disk (λ d. Rose 0 (shown d).faults) → DiskRose (disk_seen shown disk)
  rose_seen None r = absurd r
  rose_seen (Some d) r = r

  -- a disk that hadn't failed
  rose_back : (first last : D) (disk : Option D) → (shown first).faults ≡ 0 → disk ≡ Some last → Rose (shown first).faults (shown last).faults → DiskRose (disk_seen shown disk)
  rose_back first last disk none back rose = rw back (rw none at rose)

  module _ (disk old : Option D) (helper : List ℕ) (key : Key) (shelf : List ℕ) (from : Option (List ℕ)) (input : Inputs (List ℕ)) (run : Run)
      (disk_is : run.disk ≡ disk_seen shown disk) (old_is : run.old ≡ disk_seen shown old) where
    opens_none : OpensNone shown disk old helper key shelf from input run → HasCauses (Some (witness helper key shelf from input)) run
    opens_none o = unread_causes helper key shelf from input _ _ (found_by o.fault) run o.unopened (opening_words o.fault) (opening_signer o.fault) (opening_door o.fault) (opening_verifier o.fault)
        (λ e. elim (o.opening.cause.rose (ap Err (opening_disk o.fault e))) [
          | inl rose ↦ inl rose
          | inr (inl rose) ↦ inr (inl (rw disk_is (rose_seen disk rose)))
          | inr (inr rose) ↦ inr (inr (rw old_is (rose_seen old rose)))
        ])

    unstarted : (first : D) (list : List (List ℕ)) (middle : OutsideShown) → IsUnstarted disk first list (record run { before = middle }) → HasCauses (Some (witness helper key shelf from input)) run
    unstarted first list middle u =
        let it = u.unread in
        let unread : IsUnread (u.fault ≡ NoMemory) (start_text u.fault) (start_found u.fault) run =
        record { none_read = it.none_read; none_told = it.none_told; no_signer = it.no_signer; no_links = record { no_door = it.no_links.no_door; no_sinks = it.no_links.no_sinks }; owed = it.owed; line = it.line; ends_run = it.ends_run } in
        unread_causes helper key shelf from input _ _ (start_found u.fault) run unread (starting_words u.fault) (starting_signer u.fault) (starting_door u.fault) (starting_verifier u.fault)
        (λ e. absurd (starting_disk u.fault e))

  module _ (disk : Option D) (helper : List ℕ) (key : Key) (shelf : List ℕ) (from : Option (List ℕ)) (run : Run) (disk_is : run.disk ≡ disk_seen shown disk)
      (first : Left D) (middle : OutsideShown) (same : middle.faults ≡ run.before.faults) (none : (shown first.disk).faults ≡ 0) where
    served_file : (name : List ℕ) → IsServing shown key run.before.limits helper name first disk (record run { before = middle }) → HasCauses (Some (witness helper key shelf from (named name))) run
    served_file name s =
        let reader = s.reader in
        let ends = s.ends in
        let out = list_any (λ r. is_out r.close) run.readers in
        let ends_run = closing_ends_run out nothing_besides run.readers run.sink_after run.status ends.status in
        let causes = faults_have_causes nothing_besides run.readers run.sink_after run.sink_after run.status _ ends_run in
        let here : Run = record run { before = middle } in
        let wrote = serving_wrote shown key run.before.limits helper name first s.new reader here reader.source reader.verifier run.signer s.serves in
        let one : (at : Close) → HasClose at run.readers → reader.close ≡ at = λ at closed. closed_one at reader (subst (HasClose at) ends.all closed) in
        record {
          two = λ e. absurd (not_true (words_refused nothing_besides run.readers run.sink_after run.sink_after run.status _ ends_run e));
          besides = nothing_besides;
          faults = record {
            five = causes.five;
            seven = causes.seven;
            eight = causes.eight;
            nine = causes.nine;
            six = λ e. inl (closing_six out nothing_besides run.readers run.status ends.status e);
            kept = λ other. serving_kept shown key run.before.limits helper name first s.new reader here reader.source reader.verifier run.signer s.serves
                (λ e. other (ends.status ∙ rw ends.all (wrote_six reader e)));
          };
          signer = ⊎_elim (λ e. absurd (not_true e)) (λ closed. rw (sym same) (serving_signed shown key run.before.limits helper name first s.new reader here reader.source reader.verifier run.signer s.makes s.serves
              (one closing.SignerFault closed)));
          door = λ e. absurd (not_true e);
          disk = ⊎_elim (λ e. absurd (not_true e)) (λ closed. inr (inl (rw disk_is (rose_back first.disk s.new.disk disk none ends.back
              (serving_stored shown key run.before.limits helper name first s.new reader here reader.source reader.verifier run.signer s.serves (one closing.DiskFault closed))))));
          verifier = λ e. absurd (not_true e);
          sink = λ closed. wrote (one closing.WriteFault closed);
          shelf = λ e. tt;
          readers = rw ends.all (
            record {
              source = λ e. rw (sym same) (serving_read shown key run.before.limits helper name first s.new reader here reader.source reader.verifier run.signer s.makes s.serves e);
              verifier = λ e. rw (sym same) (serving_asked shown key run.before.limits helper name first s.new reader here reader.source reader.verifier run.signer s.makes s.serves e);
            },
            tt,
          );
        }

    served_links : (address : List ℕ) (count : ℕ) → IsServingLinks shown key run.before.limits helper address count first disk (record run { before = middle })
        → HasCauses (Some (witness helper key shelf from (links address count))) run
    served_links address count s =
        let ends = s.ends in
        let besides : Besides = record nothing_besides { door_failed = s.failed } in
        let out = list_any (λ r. is_out r.close) run.readers in
        let ends_run = closing_ends_run out besides run.readers run.sink_after run.status ends.status in
        let causes = faults_have_causes besides run.readers run.sink_after run.sink_after run.status _ ends_run in
        let here : Run = record run { before = middle } in
        let closed_in : (at : Close) → HasClose at run.readers → HasClose at s.readers = λ at closed. subst (HasClose at) ends.all closed in
        record {
          two = λ e. absurd (not_true (words_refused besides run.readers run.sink_after run.sink_after run.status _ ends_run e));
          besides = besides;
          faults = record {
            five = causes.five;
            seven = causes.seven;
            eight = causes.eight;
            nine = causes.nine;
            six = λ e. inl (closing_six out besides run.readers run.status ends.status e);
            kept = λ other. ap (λ sink. sink.faults) s.same_sink;
          };
          signer = ⊎_elim (λ e. absurd (not_true e)) (λ closed. rw (sym same) (links_signed shown key run.before.limits helper address count first s.new s.failed s.readers here run.door s.verifier run.signer s.makes s.serves
              (closed_in closing.SignerFault closed)));
          door = λ e. rw (sym same) (links_failed shown key run.before.limits helper address count first s.new s.failed s.readers here run.door s.verifier run.signer s.makes s.serves e);
          disk = ⊎_elim (λ e. absurd (not_true e)) (λ closed. inr (inl (rw disk_is (rose_back first.disk s.new.disk disk none ends.back
              (links_stored shown key run.before.limits helper address count first s.new s.failed s.readers here run.door s.verifier run.signer s.serves (closed_in closing.DiskFault closed))))));
          verifier = λ e. absurd (not_true e);
          sink = λ closed. links_wrote shown key run.before.limits helper address count first s.new s.failed s.readers here run.door s.verifier run.signer s.serves (closed_in closing.WriteFault closed);
          shelf = λ e. tt;
          readers = record {
            sources = rw ends.all (links_read shown key run.before.limits helper address count first s.new s.failed s.readers here run.door s.verifier run.signer s.serves);
            verifier = λ closed. rw (ends.all, sym same) (links_asked shown key run.before.limits helper address count first s.new s.failed s.readers here run.door s.verifier run.signer s.makes s.serves
                (closed_in closing.VerifierFault closed));
          };
        }

    served : (input : Inputs (List ℕ)) → ServesInput shown key run.before.limits helper input first disk (record run { before = middle }) → HasCauses (Some (witness helper key shelf from input)) run
    served (named name) s = served_file name s
    served (links address count) s = served_links address count s

  pub witnessed_causes : (disk old : Option D) (helper : List ℕ) (key : Key) (shelf : List ℕ) (from : Option (List ℕ)) (input : Inputs (List ℕ)) (run : Run)
      → run.disk ≡ disk_seen shown disk → run.old ≡ disk_seen shown old → IsWitnessed shown disk old helper key shelf from input run → HasCauses (Some (witness helper key shelf from input)) run
  witnessed_causes disk old helper key shelf from input run disk_is old_is (inl o) = opens_none disk old helper key shelf from input run disk_is old_is o
  witnessed_causes disk old helper key shelf from input run disk_is old_is (inr o) = elim o.starts [
    | inl u ↦ unstarted disk old helper key shelf from input run disk_is old_is o.first o.list o.middle u
    | inr s ↦ served disk helper key shelf from run disk_is _ o.middle (o.opening.cause.same (λ e. cc)).0 (o.opening.cause.same (λ e. cc)).1 input s.serves
  ]
