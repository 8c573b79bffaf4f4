use Rattle.std.proofs.Common.{◌≡◌, ◌+◌, ◌++◌, ℕ, suc, List, take, arith, sym, ap, ◌∙◌, subst, codes}
use Rattle.std.proofs.lemmas.List.{take_all}
use Rattle.event_body.specs.declared.body_fields.field.Field.{Field}
use Rattle.event_body.specs.declared.body_fields.field.Field.TheVariants.{Said}
use Rattle.event_body.specs.BodyFields.Bodies.{Begins, AreOfForms, members_text}
use Rattle.event_body.proofs.BodyFieldsLemmas.Members.{one_more, stops, no_next, no_end}
use Rattle.event_body.proofs.body_fields.fields.further.Goals as goal

-- how many fields stand, those before these among them
counted : (fields map : List Field) (i n : ℕ) (bytes : List ℕ) → fields ≡ map → n ≡ i → Begins i fields bytes × ¬ Begins (suc i) fields bytes
    → (further : ℕ) × (2 + n ≡ 2 + further) × Begins further map bytes × ¬ Begins (suc further) map bytes
counted fields map i n bytes same count found =
    (i, ap (λ x. 2 + x) count, subst (λ fs. Begins i fs bytes) same found.0, λ more. found.1 (subst (λ fs. Begins (suc i) fs bytes) (sym same) more))

pub returns-in-Err-NotATree-clause-fault : goal.returns-in-Err-NotATree-clause-fault
returns-in-Err-NotATree-clause-fault c =
    let fields = c.fields-field-items.result.now in
    let i = c.loop-field.field-index in
    let kept = c.loop-field.invariant in
    let none = no_next fields i Said c.loop-field.left.now c.loop-field-test.true (c.in-Err-NotATree.ensures.none c.in-Err-NotATree.field-0-is) in
    counted fields _ i _ c.args.bytes.now c.fields-field-items.ensures.map (c.len.ensures ∙ kept.count)
    (stops fields i c.loop-field.values.items c.args.bytes.now c.loop-field.left.now (omega (arith, c.loop-field-test.true)) kept.forms kept.text none)

pub loop-field-preserved : goal.loop-field-preserved
loop-field-preserved c =
    let kept = c.loop-field.invariant in
    let next = one_more c.fields-field-items.result.now c.loop-field.field-index c.loop-field.values.items c.args.bytes.now c.loop-field.left.now kept.forms kept.text
    c.push.new.self.items Said c.in-Ok.found.0 c.in-Ok.found.1.now c.loop-field-test.true c.in_ok-push.ensures.items c.in-Ok.ensures.some.0 c.in-Ok.ensures.some.1 in
    record { count = omega (arith, c.in_ok-push.ensures.len, kept.count); forms = next.0; text = next.1 }

pub returns-then-not-is_end-clause-fault : goal.returns-then-not-is_end-clause-fault
returns-then-not-is_end-clause-fault c =
    let fields = c.fields-field-items.result.now in
    let i = c.loop-field.field-index in
    let kept = c.loop-field.invariant in
    let none = no_end fields i c.loop-field.left.now c.loop-field-test.false (λ e. let yes = c.is_end.ensures.1 e in cc (yes, c.if-not-is_end.true)) in
    counted fields _ i _ c.args.bytes.now c.fields-field-items.ensures.map (c.len-then-not-is_end.ensures ∙ kept.count)
    (stops fields i c.loop-field.values.items c.args.bytes.now c.loop-field.left.now (omega (arith, c.loop-field.auto.field-index-end)) kept.forms kept.text none)

pub returns-clause-read : goal.returns-clause-read
returns-clause-read c =
    let kept = c.loop-field.invariant in
    let all = take_all c.loop-field.field-index c.fields-field-items.result.now c.loop-field-test.false in
    let end = c.is_end.ensures.0 c.if-not-is_end.false in
    let map = all ∙ c.fields-field-items.ensures.map in
    rw c.from_vec.ensures (
      subst (λ fs. AreOfForms fs c.loop-field.values.items) map kept.forms,
      subst (λ fs. c.args.bytes.now ≡ members_text fs c.loop-field.values.items ++ codes "}") map (kept.text ∙ ap (λ x. members_text (take c.loop-field.field-index c.fields-field-items.result.now) c.loop-field.values.items ++ x) end),
    )
