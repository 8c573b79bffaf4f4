use Rattle.std.proofs.Common.{◌≡◌, ◌∙◌, take, drop, ap, arith, length, length-take, true}
use Rattle.std.specs.List.{list_all}
use Rattle.std.proofs.lemmas.List.{take-append-drop}
use Rattle.lists.specs.KeriSpecs.Hex.{is_hex}
use Rattle.event_body.proofs.BodyFieldsLemmas.Fronts.{same_split}
use Rattle.event_body.proofs.body_fields.front.size_digits.Goals as goal

pub returns-then-not-all_hex-clause-none : goal.returns-then-not-all_hex-clause-none
returns-then-not-all_hex-clause-none c = λ size rest is e.
    let parts = c.in-Some.ensures.cases in
    let long : length (take 6 c.args.bytes.now) ≡ 6 = omega (arith, length-take 6 c.args.bytes.now, parts.0) in
    let same = same_split (take 6 c.args.bytes.now) size (drop 6 c.args.bytes.now) rest (omega (arith, long, is.0)) (take-append-drop 6 c.args.bytes.now ∙ e) in
    let all : list_all is_hex c.in-Some.digits.now ≡ true = ap (list_all is_hex) (parts.1 ∙ same.0) ∙ is.1 in
    cc (all, c.all_hex.ensures, c.if-not-all_hex.true)
