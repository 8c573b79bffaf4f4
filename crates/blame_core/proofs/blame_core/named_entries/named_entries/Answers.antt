use Rattle.std.proofs.Common.{◌+◌, get_or, sym, ◌∙◌, ap, subst}
use Rattle.std.proofs.lemmas.Option.{get_or_from_slice_get}
use Rattle.escrow.specs.EventIndex.Keys.{numbers_at}
use Rattle.blame_core.specs.BlameCore.NamedEntries.{AreNamed, name_cmp}
use Rattle.blame_core.proofs.BlameCoreLemmas.EntryNames.{named_next, named_past}
use Rattle.blame_core.proofs.blame_core.named_entries.named_entries.Goals as goal
use Rattle.blame_core.proofs.blame_core.named_entries.named_entries.Goals.{in-Some+in_ok-length_u32+in_ok-add, in_default}

pub loop-i-preserved : goal.loop-i-preserved
loop-i-preserved c =
    let held = c.args.core.now.held in
    let entries = c.args.core.now.entries in
    let k = c.loop-i.i in
    let old = numbers_at name_cmp c.loop-i.named in
    let one = c.index-entries-i.result in
    let those = c.as_slice-entries.ensures ∙ c.journal.ensures.entries in
    elim c.match-event.branch [
      | in-Some+in_ok-length_u32+in_ok-add w ↦ subst (λ n. AreNamed held entries (k + 1) (numbers_at name_cmp n)) (sym w.named-is)
          (named_next held entries k old c.loop-i.invariant one
          (λ e at. c.index-entries-i.is ∙ ap (λ xs. get_or xs k one) those ∙ get_or_from_slice_get entries k e one at)
          c.body_number.result c.body_number.ensures (numbers_at name_cmp w.add.new.self) w.in-Some.event.now w.name_of.result w.in_ok-length_u32.field-0
          w.in_ok-length_u32.ensures.ok w.name_of.ensures w.add.ensures.kept w.in_ok-add.ensures.added w.in-Some.ensures)
      | in_default w ↦ subst (λ n. AreNamed held entries (k + 1) (numbers_at name_cmp n)) (sym w.named-is)
          (named_past held entries k old c.loop-i.invariant one
          (λ e at. c.index-entries-i.is ∙ ap (λ xs. get_or xs k one) those ∙ get_or_from_slice_get entries k e one at)
          c.body_number.result c.body_number.ensures w.in_default.ensures)
    ]
