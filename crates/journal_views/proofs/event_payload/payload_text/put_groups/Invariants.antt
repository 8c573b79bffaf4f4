use Rattle.std.proofs.Common.{◌≡◌, ◌++◌}
use Rattle.std.specs.Slice.Iter.{chunks_rest, chunks_size}
use Rattle.journal_views.specs.EventPayload.Payloads.{groups_text, parts_of}
use Rattle.journal_views.proofs.event_payload.payload_text.put_groups.Given as goal

-- the groups so far are put, and with those of the rest these are all
abbrev pub invariant-loop-part : goal.invariant-loop-part
invariant-loop-part l =
    goal.iterator-loop-part.can_next l.part-iterator
    × goal.iterator-loop-part.is_finite l.part-iterator
    × (chunks_size l.part-iterator ≡ 4095)
    × (l.text.bytes.items ++ groups_text (parts_of (chunks_rest l.part-iterator)) ≡ l.fn.text.bytes.items ++ groups_text (parts_of l.fn.sigs))
