use Rattle.std.proofs.Common.{option_map, refl}
use Rattle.keri_roles.proofs.keri_roles.program.carry_out.Goals as goal

pub returns-in_ok-room-in-Witness-clause-does : goal.returns-in_ok-room-in-Witness-clause-does
returns-in_ok-room-in-Witness-clause-does g c = rw c.in-Witness.is c.witness.ensures.witnessed

pub returns-in_ok-room-in-Convert-clause-does : goal.returns-in_ok-room-in-Convert-clause-does
returns-in_ok-room-in-Convert-clause-does g c = rw c.in-Convert.is c.convert.ensures.converted

pub returns-in_ok-outcome-in-Make-clause-does : goal.returns-in_ok-outcome-in-Make-clause-does
returns-in_ok-outcome-in-Make-clause-does g c = rw (c.in-Make.is, c.finish-in-Make.ensures.signer, c.finish-in-Make.ensures.no_disk, c.finish-in-Make.ensures.no_old, c.finish-in-Make.ensures.no_door, c.finish-in-Make.ensures.no_sinks, c.finish-in-Make.ensures.journal, c.finish-in-Make.ensures.readers, c.finish-in-Make.ensures.shown) (record {
  owed = option_map (λ text. text.items) c.in_ok-outcome-in-Make.outcome.outcome.owed;
  besides = c.in_ok-outcome-in-Make.outcome.outcome.besides;
  does = c.in_ok-outcome-in-Make.ensures.made;
  ends_run = rw (c.finish-in-Make.ensures.readers, c.in_ok-outcome-in-Make.ensures.sink) at c.finish-in-Make.ensures.finished;
  no_disk = refl;
  no_old = refl;
  no_links = record { no_door = refl; no_sinks = refl };
})

pub returns-in_ok-outcome-in-Generate-clause-does : goal.returns-in_ok-outcome-in-Generate-clause-does
returns-in_ok-outcome-in-Generate-clause-does g c = rw (c.in-Generate.is, c.finish-in-Generate.ensures.signer, c.finish-in-Generate.ensures.no_disk, c.finish-in-Generate.ensures.no_old, c.finish-in-Generate.ensures.no_door, c.finish-in-Generate.ensures.no_sinks, c.finish-in-Generate.ensures.journal, c.finish-in-Generate.ensures.readers, c.finish-in-Generate.ensures.shown, c.unsigned-in-Generate.ensures) (record {
  owed = option_map (λ text. text.items) c.in_ok-outcome-in-Generate.outcome.owed;
  besides = c.in_ok-outcome-in-Generate.outcome.besides;
  does = c.in_ok-outcome-in-Generate.ensures.generated;
  ends_run = rw (c.finish-in-Generate.ensures.readers, c.unsigned-in-Generate.ensures, c.in_ok-outcome-in-Generate.ensures.same) at c.finish-in-Generate.ensures.finished;
  no_disk = refl;
  no_old = refl;
  no_links = record { no_door = refl; no_sinks = refl };
})

pub returns-in_ok-rival-in-Blame-clause-does : goal.returns-in_ok-rival-in-Blame-clause-does
returns-in_ok-rival-in-Blame-clause-does g c = rw (c.in-Blame.is, c.finish_rival.ensures.signer, c.finish_rival.ensures.no_disk, c.finish_rival.ensures.no_old, c.finish_rival.ensures.no_door, c.finish_rival.ensures.no_sinks, c.finish_rival.ensures.journal, c.finish_rival.ensures.second, c.finish_rival.ensures.readers, c.finish_rival.ensures.shown) (record {
  owed = option_map (λ text. text.items) c.in_ok-rival-in-Blame.rival.outcome.owed;
  besides = c.in_ok-rival-in-Blame.rival.outcome.besides;
  does = c.in_ok-rival-in-Blame.ensures.blamed;
  ends_run = rw (c.finish_rival.ensures.readers, c.in_ok-rival-in-Blame.ensures.sink) at c.finish_rival.ensures.finished;
  no_disk = refl;
  no_old = refl;
  no_links = record { no_door = refl; no_sinks = refl };
})
