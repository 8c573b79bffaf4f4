use Rattle.std.proofs.Common.{◌≡◌, refl, [], ◌∷◌, ap, arith, length, rules}
use Rattle.run_status.specs.RunOutside.Makings.{AreMakings}
use Rattle.journal.specs.declared.journal.mode.Mode.TheVariants.{Local}
use Rattle.run_status.specs.RunStatus.Readers.{reader_seen, source_seen, verifier_seen}
use Rattle.reader_hub.specs.ReaderThreads.Given.{Given, given_by}
use Rattle.reader_hub.specs.ReaderThreads.Told.{AllTold}
use Rattle.keri_roles.specs.CoreRoles.CoreTold.{IsJournalOf}
use Rattle.keri_roles.specs.KeriRoles.Made.{makings_behind}
use Rattle.run_status.specs.RunRecord.Seen.{signer_seen}
use Rattle.keri_roles.proofs.CoreRolesLemmas.CoreTold.{is_told_by, same_journal, seen_none}
use Rattle.keri_roles.proofs.KeriRolesLemmas.Made.{gives_seen, log_there, signer_none}
use Rattle.keri_roles.proofs.CoreRolesLemmas.Provided.{is_given}
use Rattle.keri_roles.proofs.keri_roles.make.made_behind.Goals as goal

pub unwrap-requires : goal.unwrap-requires
unwrap-requires g c =
    let empty = ap length c.requires.none_yet in
    let ok = c.args.readers.ok.0 in
    c.push.ensures.succeeds (omega (arith, empty, ok, c.requires.room))

pub returns-clause-made : goal.returns-clause-made
returns-clause-made g c =
    let before = g.O.Outside.shown c.args.outside.now in
    let after = g.O.Outside.shown c.make_behind-plan.new.outside in
    let parts = c.make_behind-plan.ensures in
    let log = c.make_behind-plan.result.log in
    let first = c.read_whole-first.result.reader in
    let second = c.read-core.result.reader in
    let core = c.read-core.result.core in
    let rest = c.read-core.result.rest in
    let signer = c.message_due-owed.new.signer in
    let gives = g.O.Signer.Signer.gives in
    let signings = g.O.Signer.Signer.signings in
    let faults = g.O.Signer.Signer.faults in
    let left = g.O.Source.Source.left in
    let source_faults = g.O.Source.Source.faults in
    let says = g.O.Verifier.Verifier.says in
    let inquiries = g.O.Verifier.Verifier.inquiries in
    let verifier_faults = g.O.Verifier.Verifier.faults in
    let plan_reader = reader_seen left source_faults says inquiries verifier_faults first in
    let log_reader = reader_seen left source_faults says inquiries verifier_faults second in
    let given : Given = given_by left source_faults says inquiries verifier_faults log in
    let two : c.push-2.new.self.items ≡ first ∷ second ∷ [] = search rules in
    let makes : AreMakings (makings_behind c.args.plan.now c.args.log.now c.args.helper.now plan_reader.source given.source given.verifier (signer_seen gives signings faults signer)) before after = rw (
      seen_none (source_seen left source_faults says inquiries verifier_faults) first.source,
      c.read_whole-first.ensures.source,
      seen_none (source_seen left source_faults says inquiries verifier_faults) log.source,
      seen_none (verifier_seen left source_faults says inquiries verifier_faults) log.verifier,
      signer_none gives signings faults signer,
      c.message_due-owed.ensures.signer,
    ) parts.makes in
    let told : AllTold Local before.limits (given ∷ []) (log_reader ∷ []) rest core = rw c.limits-limits.ensures at
    (c.read-core.ensures Local c.limits-limits.result c.in_ok-seat.ensures) in
    let of : IsJournalOf core c.into_journal.result = search rules in
    let journal = is_told_by Local before.limits (given ∷ []) (log_reader ∷ []) rest core told in
    rw (two, same_journal core c.into_journal.result of) (record {
      plan_reader = plan_reader;
      log_reader = log_reader;
      two = refl;
      there = log_there _ _ _ _ given _ log_reader rest _ before.limits before after makes journal;
      text = c.read_whole-first.result.text.items;
      reads = rw c.limits-limits.ensures at (c.read_whole-first.ensures.reads (before.holds c.args.plan.now) parts.holds);
      given = given;
      is_given = is_given left source_faults says inquiries verifier_faults before c.args.helper.now c.args.log.now log parts.log_holds parts.log_unread parts.says parts.unheard parts.log_unfailed;
      makes = makes;
      signs = gives_seen gives signings faults signer (before.gives c.args.helper.now) (c.message_due-owed.ensures.gives (before.gives c.args.helper.now) parts.signs);
      rest = rest;
      journal = journal;
      due = c.message_due-owed.result.besides;
      owes = rw (c.deref.ensures.value, c.is_refused.ensures, c.last_close_of.ensures, told.mode_is, told.limits_are, told.no_base) at
          (c.message_due-owed.ensures.due (before.gives c.args.helper.now) parts.signs);
      besides = ap (λ b. record c.message_due-owed.result.besides { verifier_failed = b }) c.verifier_failed_last.ensures;
    })
