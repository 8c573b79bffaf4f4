use Rattle.std.proofs.Common.{◌∷◌, [], refl}
use Rattle.journal.specs.declared.journal.mode.Mode.TheVariants.{Full}
use Rattle.run_status.specs.RunStatus.Readers.{reader_seen}
use Rattle.reader_hub.specs.ReaderThreads.Given.{Given, given_by}
use Rattle.reader_hub.specs.ReaderThreads.Told.{AllTold}
use Rattle.keri_roles.specs.CoreRoles.CoreTold.{IsJournalOf}
use Rattle.keri_roles.proofs.CoreRolesLemmas.Blamed.{owes_blames}
use Rattle.keri_roles.proofs.CoreRolesLemmas.CompleteOver.{both_there}
use Rattle.keri_roles.proofs.CoreRolesLemmas.CoreTold.{is_told_by, journal_of, same_journal}
use Rattle.keri_roles.proofs.core_roles.blame.blame_files.Goals as goal

pub text_of-owed-requires-clause-full : goal.text_of-owed-requires-clause-full
text_of-owed-requires-clause-full g c = (c.read-one.ensures Full c.limits-limits.result c.in_ok-seat.ensures).mode_is

pub text_of-owed-requires-clause-whole : goal.text_of-owed-requires-clause-whole
text_of-owed-requires-clause-whole g c = (c.read-one.ensures Full c.limits-limits.result c.in_ok-seat.ensures).no_base

pub text_of-owed-requires-clause-other_full : goal.text_of-owed-requires-clause-other_full
text_of-owed-requires-clause-other_full g c = (c.read-other.ensures Full c.limits-limits.result c.in_ok-other_seat.ensures).mode_is

pub text_of-owed-requires-clause-other_whole : goal.text_of-owed-requires-clause-other_whole
text_of-owed-requires-clause-other_whole g c = (c.read-other.ensures Full c.limits-limits.result c.in_ok-other_seat.ensures).no_base

pub returns-clause-blamed : goal.returns-clause-blamed
returns-clause-blamed g c =
    let before = g.O.Outside.shown c.args.outside.now in
    let left = g.O.Source.Source.left in
    let faults = g.O.Source.Source.faults in
    let says = g.O.Verifier.Verifier.says in
    let inquiries = g.O.Verifier.Verifier.inquiries in
    let verifier_faults = g.O.Verifier.Verifier.faults in
    let one = c.read-one.result in
    let other = c.read-other.result in
    let reader = reader_seen left faults says inquiries verifier_faults one.reader in
    let other_reader = reader_seen left faults says inquiries verifier_faults other.reader in
    let given : Given = given_by left faults says inquiries verifier_faults c.provide_both-first.result.first in
    let other_given : Given = given_by left faults says inquiries verifier_faults c.provide_both-first.result.second in
    let told : AllTold Full before.limits (given ∷ []) (reader ∷ []) one.rest one.core = rw c.limits-limits.ensures at
    (c.read-one.ensures Full c.limits-limits.result c.in_ok-seat.ensures) in
    let other_told : AllTold Full before.limits (other_given ∷ []) (other_reader ∷ []) other.rest other.core = rw c.limits-limits.ensures at
    (c.read-other.ensures Full c.limits-limits.result c.in_ok-other_seat.ensures) in
    let gave = c.into_journal.ensures in
    let of : IsJournalOf one.core c.into_journal.result = record { bodies = gave.bodies; entries = gave.entries; sound = gave.sound } in
    let gave_other = c.into_journal-2.ensures in
    let of_other : IsJournalOf other.core c.into_journal-2.result = record { bodies = gave_other.bodies; entries = gave_other.entries; sound = gave_other.sound } in
    let provided = c.provide_both-first.ensures.provided in
    let journal = is_told_by Full before.limits (given ∷ []) (reader ∷ []) one.rest one.core told in
    let other_journal = is_told_by Full before.limits (other_given ∷ []) (other_reader ∷ []) other.rest other.core other_told in
    rw (c.both_in.ensures, same_journal one.core c.into_journal.result of, same_journal other.core c.into_journal-2.result of_other) (record {
      given = given;
      other_given = other_given;
      provided = provided;
      reader = reader;
      other_reader = other_reader;
      both = refl;
      there = both_there _ _ _ given other_given reader other_reader one.rest other.rest _ _ before.limits before _ provided journal other_journal;
      rest = one.rest;
      other_rest = other.rest;
      journal = journal;
      other_journal = journal_of other.core;
      back_is = refl;
      other_told = other_journal;
      has_blames = c.text_of-owed.result.is_found;
      owes = rw (told.mode_is, told.limits_are, told.no_base, other_told.mode_is, other_told.limits_are, other_told.no_base) at
          (owes_blames one.core other.core reader other_reader one.rest other.rest c.text_of-owed.result.owed c.text_of-owed.result.is_found c.text_of-owed.ensures.had_room c.text_of-owed.ensures.blames);
      nothing_else = rw (c.nothing.ensures, c.some_failed.ensures) refl;
    })
