use Rattle.std.proofs.Common.{◌≡◌, refl, sym, ap, arith, length, [], ◌∷◌, rules, None}
use Rattle.journal.specs.declared.journal.mode.Mode.TheVariants.{Full}
use Rattle.controller_core.specs.LogMaker.Making.{maker_left, maker_faults}
use Rattle.keri_outside.specs.Rehearsal.{rehearsal_says}
use Rattle.validator_core.specs.ValidatorCore.View.{accepted_by}
use Rattle.run_status.specs.RunStatus.Readers.{Reader, reader_seen}
use Rattle.reader_hub.specs.ReaderThreads.Told.{AllTold}
use Rattle.keri_roles.specs.CoreRoles.CoreTold.{IsJournalOf}
use Rattle.keri_roles.specs.KeriRoles.Generated.{made_of}
use Rattle.keri_roles.specs.KeriRoles.Planned.{made_close}
use Rattle.keri_roles.proofs.CoreRolesLemmas.CoreTold.{is_told_by, same_journal}
use Rattle.keri_roles.proofs.KeriRolesLemmas.Generated.{accepted_of, closing, made_not_asked, made_not_read, never, none_counted, owes_line, tells_closed}
use Rattle.keri_roles.proofs.keri_roles.generate.generate.Goals as goal

pub unwrap-requires : goal.unwrap-requires
unwrap-requires g c =
    let empty = ap length c.requires.none_yet in
    let ok = c.args.readers.ok.0 in
    c.push.ensures.succeeds (omega (arith, empty, ok, c.requires.room))

pub returns-clause-generated : goal.returns-clause-generated
returns-clause-generated g c =
    let plan = c.args.plan in
    let before = g.O.Outside.shown c.args.outside.now in
    let end = c.in_ok-core.field-0.reader in
    let core = c.in_ok-core.field-0.core in
    let rest = c.in_ok-core.field-0.rest in
    let reader : Reader = reader_seen maker_left maker_faults (λ v. rehearsal_says) (λ v. None) (λ v. 0) end in
    let told : AllTold Full before.limits (made_of plan.seed plan.logs plan.events ∷ []) (reader ∷ []) rest core = rw c.limits-limits.ensures at c.in_ok-core.ensures in
    let sure = never plan.seed plan.logs plan.events before.limits rest reader (none_counted rehearsal_says end.verifier) core told in
    let of : IsJournalOf core c.into_journal.result = search rules in
    let one : c.push.new.self.items ≡ record { source = None; verifier = None; refused = end.refused; seen = end.seen; close = made_close end.close } ∷ [] = search rules in
    rw (one, same_journal core c.into_journal.result of) (record {
      reader = closing reader (made_close reader.close);
      one = refl;
      none_made = refl;
      rest = rest;
      journal = is_told_by Full before.limits (made_of plan.seed plan.logs plan.events ∷ []) (closing reader (made_close reader.close) ∷ []) rest core
          (tells_closed plan.seed plan.logs plan.events before.limits rest reader core told);
      none_failed = (made_not_read end.close, made_not_asked end.close sure.0, sure.1);
      owes = rw (sym (accepted_of core Full told.no_base told.mode_is)) (owes_line plan (accepted_by core) reader rest c.line_of-owed.result c.line_of-owed.ensures);
      nothing_else = c.nothing.ensures;
    })
