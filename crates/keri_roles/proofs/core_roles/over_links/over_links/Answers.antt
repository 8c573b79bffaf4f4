use Rattle.std.proofs.Common.{◌≡◌, [], length, inl, inr, refl, sym, ◌∙◌, ap, subst, map, None, option_map, arith}
use Rattle.run_status.specs.RunStatus.Readers.{reader_seen, source_seen}
use Rattle.validator_core.specs.ValidatorCore.View.{told_of}
use Rattle.reader_hub.specs.ReaderThreads.Given.{given_by}
use Rattle.reader_hub.specs.ReaderThreads.Told.{AllTold}
use Rattle.keri_roles.specs.CoreRoles.CoreTold.{IsOverCore, OwesText, core_of, plain}
use Rattle.keri_roles.specs.CoreRoles.LinksShown.{AreLinked, TakesLinks}
use Rattle.keri_roles.specs.CoreRoles.Work.{LinksShown, Work}
use Rattle.run_status.specs.RunRecord.Seen.{door_seen, sinks_seen}
use Rattle.keri_roles.proofs.CoreRolesLemmas.CompleteOver.{over_linked}
use Rattle.keri_roles.proofs.CoreRolesLemmas.CoreTold.{is_told_by, journal_of, owes_plain, same_journal, untold}
use Rattle.keri_roles.proofs.CoreRolesLemmas.Linked.{any_ready, are_linked}
use Rattle.keri_roles.proofs.core_roles.over_links.over_links.Goals as goal
use Rattle.keri_roles.proofs.core_roles.over_links.over_links.Goals.{in-Ok, in-Err}

pub new-requires-clause-untold : goal.new-requires-clause-untold
new-requires-clause-untold g c =
    let none : told_of c.new-core.result ≡ [] = untold c.new-core.result (ap (λ core. core.entries) c.new-core.ensures) in
    search (none)

pub overflow_cast-len : goal.overflow_cast-len
overflow_cast-len g c = omega (arith, c.take_at-door.ensures.few, c.len.ensures, c.from-count.ensures, c.requires.few)

pub provide_links-providers-requires-clause-room : goal.provide_links-providers-requires-clause-room
provide_links-providers-requires-clause-room g c κs within = omega (arith, c.take_at-door.ensures.few, c.in_ok-room.ensures.capacity)

pub read-ran-requires-clause-seats : goal.read-ran-requires-clause-seats
read-ran-requires-clause-seats g c κs within =
    let made = c.provide_links-providers.ensures.count in
    let here = c.provide_links-providers.result.ok.0 in
    any_ready _ _ _ _ c.in-Ok.seats c.in-Ok.ensures (omega (arith, made, here, c.len.ensures))

pub outcome_of-outcome-requires-clause-mode : goal.outcome_of-outcome-requires-clause-mode
outcome_of-outcome-requires-clause-mode g c =
    let mode : c.new-core.result.mode ≡ c.args.mode = ap (λ x. x.mode) c.new-core.ensures in
    let count : c.len.result ≡ length c.provide_links-providers.result.items = omega (arith, c.len.ensures, c.provide_links-providers.ensures.count) in
    (c.read-ran.ensures.told c.args.mode c.limits-limits.result (rw (mode, count) at c.in-Ok.ensures)).mode_is ∙ c.requires.mode

pub outcome_of-outcome-requires-clause-whole : goal.outcome_of-outcome-requires-clause-whole
outcome_of-outcome-requires-clause-whole g c =
    let mode : c.new-core.result.mode ≡ c.args.mode = ap (λ x. x.mode) c.new-core.ensures in
    let count : c.len.result ≡ length c.provide_links-providers.result.items = omega (arith, c.len.ensures, c.provide_links-providers.ensures.count) in
    (c.read-ran.ensures.told c.args.mode c.limits-limits.result (rw (mode, count) at c.in-Ok.ensures)).no_base

pub outcome_of-outcome-requires-clause-few : goal.outcome_of-outcome-requires-clause-few
outcome_of-outcome-requires-clause-few g c =
    omega (arith, c.read-ran.ensures.count, c.provide_links-providers.ensures.count, c.take_at-door.ensures.few, c.from-count.ensures, c.requires.few)

pub returns-clause-sink : goal.returns-clause-sink
returns-clause-sink g c = elim c.match-new.branch [
  | in-Ok w ↦ rw w.outside-is (w.provide_links-providers.ensures.sink ∙ c.take_at-door.ensures.sink)
  | in-Err w ↦ rw w.outside-is c.take_at-door.ensures.sink
]

pub returns-clause-done : goal.returns-clause-done
returns-clause-done g c =
    let left = g.O.Source.Source.left in
    let faults = g.O.Source.Source.faults in
    let says = g.O.Verifier.Verifier.says in
    let inquiries = g.O.Verifier.Verifier.inquiries in
    let verifier_faults = g.O.Verifier.Verifier.faults in
    let before = g.O.Outside.shown c.args.outside.now in
    let mid = g.O.Outside.shown c.take_at-door.new.outside in
    let at = c.take_at-door.result in
    let sources = map (source_seen left faults says inquiries verifier_faults) at.taken.sources.items in
    let links : LinksShown = record {
      door = door_seen g.O.Door.Door.left g.O.Door.Door.faults at.door;
      sinks = sinks_seen g.O.Door.Sink.Sink.written g.O.Door.Sink.Sink.faults at.taken.sinks.items;
      failed = at.taken.failed;
    } in
    let taken : TakesLinks c.args.words.address.now c.args.words.count sources links before mid = rw c.from-count.ensures at c.take_at-door.ensures.taken in
    elim c.match-new.branch [
      | in-Ok w ↦ (
          let after = g.O.Outside.shown w.provide_links-providers.new.outside in
          let given = map (given_by left faults says inquiries verifier_faults) w.provide_links-providers.result.items in
          let core = w.read-ran.result.core in
          let rest = w.read-ran.result.rest in
          let readers = map (reader_seen left faults says inquiries verifier_faults) w.read-ran.result.readers.items in
          let out = w.outcome_of-outcome in
          let mode : c.new-core.result.mode ≡ c.args.mode = ap (λ x. x.mode) c.new-core.ensures in
          let count : c.len.result ≡ length w.provide_links-providers.result.items = omega (arith, c.len.ensures, w.provide_links-providers.ensures.count) in
          let told : AllTold c.args.mode before.limits given readers rest core = rw c.limits-limits.ensures at
          (w.read-ran.ensures.told c.args.mode c.limits-limits.result (rw (mode, count) at w.in-Ok.ensures)) in
          let failed : out.result.besides.door_failed ≡ at.taken.failed = ap (λ b. b.door_failed) out.ensures.owes.nothing_else in
          let is_text = g.T.CoreText.is_text c.args.text.now in
          let its : OwesText is_text g.T.CoreText.finds at.taken.failed (plain core) readers rest (option_map (λ t. t.items) out.result.owed) out.result.besides = out.ensures.owes in
          let owed : OwesText is_text g.T.CoreText.finds at.taken.failed (core_of c.args.mode before.limits core.held core.entries) readers rest (option_map (λ t. t.items) out.result.owed) out.result.besides
          = owes_plain is_text g.T.CoreText.finds at.taken.failed c.args.mode before.limits core readers rest _ _ told.mode_is told.limits_are told.no_base its in
          let work : Work = record {
            before = before;
            after = after;
            readers = readers;
            signer = None;
            journal = journal_of core;
            owed = option_map (λ t. t.items) out.result.owed;
            besides = out.result.besides;
          } in
          let over : IsOverCore c.args.mode is_text g.T.CoreText.finds (AreLinked c.args.words.helper.now c.args.words.address.now c.args.words.count links) at.taken.failed work
          = over_linked c.args.mode is_text g.T.CoreText.finds at.taken.failed work c.args.words.helper.now c.args.words.address.now c.args.words.count links (record {
            given = given;
            provided = are_linked c.args.words.helper.now c.args.words.address.now c.args.words.count sources links given before mid after taken w.provide_links-providers.ensures.provided;
            rest = rest;
            journal = is_told_by c.args.mode before.limits given readers rest core told;
          }) owed in
          let linked : IsOverCore c.args.mode is_text g.T.CoreText.finds
          (AreLinked c.args.words.helper.now c.args.words.address.now c.args.words.count (record links { failed = out.result.besides.door_failed })) out.result.besides.door_failed work
          = subst (λ f. IsOverCore c.args.mode is_text g.T.CoreText.finds
          (AreLinked c.args.words.helper.now c.args.words.address.now c.args.words.count (record links { failed = f })) f work) (sym failed) over in
          rw (w.outcome-is, w.outside-is, out.ensures.readers, same_journal core out.result.journal out.ensures.journal) (inl linked))
      | in-Err w ↦ (
          let out = w.unseated-outcome.ensures in
          rw (w.outcome-is, w.outside-is, out.readers, out.journal, out.owed, out.besides) (inr (record {
            sources = sources;
            taken = taken.taken;
            makes = taken.makes;
            none_read = refl;
            none_told = refl;
            none_owed = refl;
            nothing_else = refl;
          })))
    ]
