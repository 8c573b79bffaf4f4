use Rattle.std.proofs.Common.{sym, ◌∙◌, None}
use Rattle.cesr_stream.proofs.BegunItems.{wrap_item, wrap_item_stops, group_item, group_item_stops}
use Rattle.cesr_stream.proofs.begun_item.BegunItem.begin_attached.Goals as goal

pub begin-requires-clause-letter : goal.begin-requires-clause-letter
begin-requires-clause-letter c = sym c.letter_of.ensures ∙ c.if-letter_of-eq86.true

pub returns-in-Ok-clause-ok : goal.returns-in-Ok-clause-ok
returns-in-Ok-clause-ok c = λ limit. wrap_item c.args.bytes.now c.in-Ok.wrap c.requires (sym c.letter_of.ensures ∙ c.if-letter_of-eq86.true) c.in-Ok.ensures.ok limit

pub returns-in-Err-clause-err : goal.returns-in-Err-clause-err
returns-in-Err-clause-err c = λ limit begun. wrap_item_stops c.args.bytes.now c.in-Err.stop c.requires (sym c.letter_of.ensures ∙ c.if-letter_of-eq86.true) c.in-Err.ensures.err limit begun

pub returns-in-Ok-begin-clause-ok : goal.returns-in-Ok-begin-clause-ok
returns-in-Ok-begin-clause-ok c = λ limit.
    group_item c.args.bytes.now c.in-Ok-begin.group c.requires (λ e. c.if-letter_of-eq86.false (c.letter_of.ensures ∙ e)) (c.in-Ok-begin.ensures.ok None) limit

pub returns-in-Err-begin-clause-err : goal.returns-in-Err-begin-clause-err
returns-in-Err-begin-clause-err c = λ limit begun.
    group_item_stops c.args.bytes.now c.in-Err-begin.stop c.requires (λ e. c.if-letter_of-eq86.false (c.letter_of.ensures ∙ e)) (c.in-Err-begin.ensures.err None) limit begun
