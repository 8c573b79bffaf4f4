use Rattle.std.proofs.Common.{◌≡◌, arith, ap, ◌∙◌, sym, ◌++◌, drop, length, length-drop, true, ◌-◌}
use Rattle.std.proofs.lemmas.List.{take_all}
use Rattle.std.proofs.lemmas.Bool.Decides.{Decides-eqb}
use Rattle.std.proofs.lemmas.Slice.Eq.{starts_is}
use Rattle.event_body.proofs.body_fields.front.literal.Goals as goal

pub returns-clause-some : goal.returns-clause-some
returns-clause-some c =
    let text = c.args.text.now in
    let bytes = c.args.bytes.now in
    let all = take_all (length bytes - length text) (drop (length text) bytes) (omega (arith, length-drop (length text) bytes)) in
    let holds : c.starts_with.result ≡ true = c.if-not-starts_with.false in
    (starts_is Decides-eqb bytes text _ c.starts_with.ensures.value).0 holds ∙ ap (λ x. text ++ x) (sym all)

pub returns-then-not-starts_with-clause-none : goal.returns-then-not-starts_with-clause-none
returns-then-not-starts_with-clause-none c = λ rest e.
    let holds = (starts_is Decides-eqb c.args.bytes.now c.args.text.now _ c.starts_with.ensures.value).1 rest e in
    let fails = c.if-not-starts_with.true in
    cc (holds, fails)
