use Rattle.std.proofs.Common.{◌≡◌, ◌++◌}
use Rattle.std.specs.Prelude.{flat_map}
use Rattle.std.specs.Slice.Iter.{chunks_rest, chunks_size}
use Rattle.cesr_stream.specs.Written.{item_text}
use Rattle.watcher_core.specs.Evidence.{message_of, parts_of}
use Rattle.watcher_core.proofs.messages.put_messages.Given as goal

-- the messages so far are put, and with those of the rest these are all
abbrev pub invariant-loop-part : goal.invariant-loop-part
invariant-loop-part l =
    goal.iterator-loop-part.can_next l.part-iterator
    × goal.iterator-loop-part.is_finite l.part-iterator
    × (chunks_size l.part-iterator ≡ 1024)
    × (l.text.bytes.items ++ flat_map item_text (flat_map (message_of l.fn.bytes) (parts_of (chunks_rest l.part-iterator))) ≡ l.fn.text.bytes.items ++ flat_map item_text (flat_map (message_of l.fn.bytes) (parts_of l.fn.sigs)))
