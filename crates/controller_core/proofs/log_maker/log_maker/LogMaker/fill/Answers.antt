use Rattle.std.proofs.Common.{◌≡◌, ◌≤◌, Some, [], ◌++◌, length, drop, sym, ap, ◌∙◌, arith, length-drop}
use Rattle.std.proofs.lemmas.List.{drop_all}
use Rattle.controller_core.specs.LogMaker.Making.{rest_text}
use Rattle.controller_core.proofs.LogMakerLemmas.Texts.{some_message}
use Rattle.controller_core.proofs.log_maker.log_maker.LogMaker.fill.Goals as goal

pub returns-then-self-len-clause-some : goal.returns-then-self-len-clause-some
returns-then-self-len-clause-some c = λ empty.
    let maker = c.args.self.now in
    absurd (omega (arith, ap length empty, length-drop maker.given maker.message.items, c.len.ensures))

pub returns-in_err-made-clause-same : goal.returns-in_err-made-clause-same
unfolding rest_text
returns-in_err-made-clause-same c =
    let maker = c.args.self.now in
    ap (λ rest. Some (drop maker.given maker.message.items ++ rest)) c.opened-self.ensures.same

pub returns-clause-same : goal.returns-clause-same
unfolding rest_text
returns-clause-same c =
    let maker = c.args.self.now in
    let given : length maker.message.items ≤ maker.given = omega (arith, c.len.ensures) in
    let none : drop maker.given maker.message.items ≡ [] = drop_all maker.given maker.message.items given in
    ap (λ text. Some (text ++ rest_text c.behind-self.result)) c.in_ok-made.ensures.text
    ∙ ap Some (sym c.behind-self.ensures ∙ c.opened-self.ensures.same)
    ∙ ap (λ text. Some (text ++ rest_text maker.rest)) (sym none)

pub returns-clause-some : goal.returns-clause-some
returns-clause-some c = λ empty.
    let next = c.opened-self.result.log.next in
    absurd (some_message next.seed next.log next.sn (sym c.in_ok-made.ensures.text ∙ empty))
