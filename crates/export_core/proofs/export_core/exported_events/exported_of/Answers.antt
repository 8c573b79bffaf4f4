use Rattle.std.proofs.Common.{◌≡◌, ◌+◌, cond, take, length, refl, sym, ◌∙◌, ap, subst, arith}
use Rattle.validator_core.specs.ValidatorCore.View.{accepted_by}
use Rattle.export_core.specs.ExportLaws.Export.{exported}
use Rattle.export_core.specs.ExportCore.Exported.{PutsAt, messages_at}
use Rattle.export_core.specs.ExportCore.Messages.{IsExportText}
use Rattle.export_core.proofs.ExportCoreLemmas.Placed.{all_before, body_below, take_one}
use Rattle.export_core.proofs.ExportCoreLemmas.Putting.{more_counted, more_put}
use Rattle.journal.specs.Journal.Logs.{state}
use Rattle.export_core.proofs.export_core.exported_events.exported_of.Goals as goal
use Rattle.export_core.proofs.export_core.exported_events.exported_of.Goals.{then-is_put+in_ok-count, else-is_put}

pub loop-place-init : goal.loop-place-init
unfolding state
loop-place-init c = record { text = c.new-text.ensures; count = refl; signers = λ p inside. rw c.new-signers.ensures.empty (refl, refl) }

pub loop-place-preserved : goal.loop-place-preserved
loop-place-preserved c =
    let core = c.args.core.now in let log = accepted_by core in let family = c.in_ok-family.family.keys in let place = c.loop-place.place in
    let at = body_below core.held c.accepted-place-end.result.now c.accepted-place-end.ensures.held log c.accepted-place-end.ensures.accepted place c.loop-place-test.true in
    let b = at.0 in
    let old = c.loop-place.text.bytes.items in let new = c.put_event.new.text.bytes.items in
    let put : PutsAt core family place b c.in_ok-is_put.is_put c.put_event.new.signers old new = c.in_ok-is_put.ensures b at.1 in
    let more = take_one log place b at.1 in
    let counted = ap (λ xs. length (exported family xs)) more ∙ more_counted core family (take place log) b old new c.in_ok-is_put.is_put put.puts in
    record {
      text = subst (λ xs. IsExportText (messages_at core family xs) new) (sym more) (more_put core family (take place log) b old new c.in_ok-is_put.is_put c.loop-place.invariant.text put.puts);
      count = elim c.if-is_put.branch as (λ _. c.if-is_put.count ≡ length (exported family (take (place + 1) log))) [
        | then-is_put+in_ok-count w ↦ w.count-is ∙ w.in_ok-count.ensures ∙ ap (λ n. n + 1) c.loop-place.invariant.count ∙ sym (counted ∙ ap (λ t. length (exported family (take place log)) + cond t 1 0) w.if-is_put.true)
        | else-is_put w ↦ w.count-is ∙ c.loop-place.invariant.count ∙ sym (counted ∙ ap (λ t. length (exported family (take place log)) + cond t 1 0) w.if-is_put.false ∙ omega arith)
      ];
      signers = put.signers_are;
    }

pub returns : goal.returns
returns c =
    let core = c.args.core.now in let log = accepted_by core in let family = c.in_ok-family.family.keys in
    let all : take c.loop-place.place log ≡ log = all_before core.held c.accepted-place-end.result.now c.accepted-place-end.ensures.held log c.accepted-place-end.ensures.accepted c.loop-place.place c.loop-place-test.false in
    record {
      sound = c.sound.ensures.sound;
      family = family;
      is_family = c.in_ok-family.ensures;
      text_is = subst (λ text. IsExportText (messages_at core family log) text) (sym c.into_bytes.ensures) (subst (λ xs. IsExportText (messages_at core family xs) c.loop-place.text.bytes.items) all c.loop-place.invariant.text);
      count_is = c.loop-place.invariant.count ∙ ap (λ xs. length (exported family xs)) all;
    }
