use Rattle.std.proofs.Common.{◌∙◌, ap}
use Rattle.std.specs.Prelude.{Err, Ok, OnOk, Result, ◌++◌, flat_map}
use Rattle.cesr_stream.specs.Written.{item_text}
use Rattle.journal.specs.Journal.Replies.{same_indexed}
use Rattle.key_state.specs.Same.{distinct}
use Rattle.watcher_core.specs.Evidence.{items_with}
use Rattle.watcher_core.proofs.Texts.{puts_body}
use Rattle.watcher_core.proofs.bodies.put_body.Goals as goal

on_ok_so : {T E P Q : Type 0} (r : Result T E) → OnOk r P → (P → Q) → OnOk r Q
on_ok_so (Ok x) h so = so h
on_ok_so (Err e) h so = tt

pub returns : goal.returns
returns c =
    let bytes = c.in-Some.bytes.now in
    let old = c.args.text.now.bytes.items in
    on_ok_so c.put_signed.result c.put_signed.ensures (λ put.
    puts_body c.args.core.now c.args.number bytes old c.put_signed.new.text.bytes.items c.in_ok-came.came.items c.in_ok-firsts.firsts.items
    c.in_ok-came.ensures (c.in_ok-firsts.ensures.firsts ∙ ap (distinct same_indexed) c.as_slice.ensures.value) c.in_ok-firsts.ensures.raw
    (put ∙ ap (λ sigs. old ++ flat_map item_text (items_with bytes sigs)) c.as_slice-2.ensures.value) c.in-Some.ensures.body)
