use Rattle.std.proofs.Common.{◌≡◌, ◌++◌, true, None, codes, drop, map, sym, ap, ◌∙◌, subst}
use Rattle.cesr_codes.specs.Dates.{is_date_time, written}
use Rattle.cesr_codes.proofs.Dates.{plain_form, moment_front, moment_judged, stands_moment}
use Rattle.cesr_codes.proofs.moment.Moment.read_exact.Goals as goal

pub invariant_of-result : goal.invariant_of-result
invariant_of-result c = record {
  form =
      subst (λ text. is_date_time text ≡ true) (sym c.read_all.ensures)
      (plain_form c.args.bytes.now c.copy_from_slice.new.self c.if-bytes-lt36.false c.copy_from_slice.ensures.after (sym c.first_misfit.ensures.first ∙ c.in_default.is));
}

pub returns : goal.returns
returns c =
    let bytes = c.args.bytes.now in
    let text = c.copy_from_slice.new.self in
    let none = sym c.first_misfit.ensures.first ∙ c.in_default.is in
    let front = moment_front bytes text c.if-bytes-lt36.false c.copy_from_slice.ensures.after none c.in_ok-code_at_front.ensures
    ∙ ap (λ t. (codes "1AAG" ++ map written t) ++ drop 36 bytes) (sym c.read_all.ensures) in (
      moment_judged bytes text None c.in_ok-code_at_front.ensures c.if-bytes-lt36.false c.copy_from_slice.ensures.after (sym none),
      stands_moment bytes _ c.if-bytes-lt36.false front,
    )
