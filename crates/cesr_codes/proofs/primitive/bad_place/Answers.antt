use Rattle.std.proofs.Common.{sym, ◌∙◌}
use Rattle.lists.specs.KeriSpecs.Base64.{is_character}
use Rattle.cesr_codes.proofs.Numbers.{none_fails}
use Rattle.cesr_codes.proofs.primitive.bad_place.Goals as goal

pub unreachable-requires : goal.unreachable-requires
unreachable-requires c = let all = none_fails is_character c.args.text.now (sym c.first_bad.ensures ∙ c.in-None.is) in cc
