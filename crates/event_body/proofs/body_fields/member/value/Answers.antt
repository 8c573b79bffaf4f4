use Rattle.std.proofs.Common.{◌≡◌, sym, ap, subst}
use Rattle.json_tree.specs.Spelling.{Fits}
use Rattle.event_body.specs.BodyFields.Forms.{IsOfForm}
use Rattle.event_body.proofs.BodyFieldsLemmas.Depths.{form_fits, form_ends}
use Rattle.event_body.proofs.body_fields.member.value.Goals as goal

pub returns-in-Err-clause-none : goal.returns-in-Err-clause-none
returns-in-Err-clause-none c = λ is value rest of_form e.
    c.in-Err.ensures.none is value rest (subst (λ n. Fits n value) (sym c.depth.ensures) (form_fits c.args.form value of_form).0) e

pub returns-then-not-admits-clause-none : goal.returns-then-not-admits-clause-none
returns-then-not-admits-clause-none c = λ is value rest of_form e.
    let fits = subst (λ n. Fits n value) (sym c.depth.ensures) (form_fits c.args.form value of_form).0 in
    let read = c.in-Ok.ensures.only value rest fits (form_ends c.args.form value rest of_form) e in
    let same : value ≡ c.in-Ok.found.0 = sym (ap (λ p. p.0) read) in
    let yes = c.admits.ensures.1 (subst (IsOfForm c.args.form) same of_form) in
    cc (yes, c.if-not-admits.true)
