use Rattle.std.proofs.Common.{rules, ◌≡◌, ◌++◌, ◌∷◌, sym, ◌∙◌, ap, append_assoc}
use Rattle.std.specs.Slice.Iter.{chunks_rest}
use Rattle.cesr_stream.specs.Written.{item_text}
use Rattle.journal_views.specs.EventPayload.Payloads.{group_of, groups_text, parts_of}
use Rattle.journal_views.proofs.EventPayloadLemmas.Cuts.{parts_step}
use Rattle.journal_views.proofs.event_payload.payload_text.put_groups.Goals as goal

pub loop-part-preserved : goal.loop-part-preserved
loop-part-preserved c =
    let all = chunks_rest c.loop-part.part-iterator in
    let part = c.in-Some.part.now in
    let rest = chunks_rest c.next.new.self in
    let so_far = c.loop-part.text.bytes.items in
    let steps = c.in-Some.ensures.steps in
    let size = c.loop-part.invariant.2 in
    let cut : parts_of all ≡ part ∷ parts_of rest = parts_step all part rest steps.1.0 (rw size at steps.1.1) steps.1.2 in (
      search rules,
      tt,
      steps.0 ∙ size,
      ap (λ more. more ++ groups_text (parts_of rest)) c.in_ok-put_group.ensures
          ∙ append_assoc so_far (item_text (group_of part)) (groups_text (parts_of rest))
          ∙ ap (λ parts. so_far ++ groups_text parts) (sym cut)
          ∙ c.loop-part.invariant.3,
    )
