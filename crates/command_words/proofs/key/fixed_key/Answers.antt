use Rattle.std.proofs.Common.{◌∙◌, refl}
use Rattle.cesr_codes.specs.declared.key.KeyCode.TheVariants.{Fixed}
use Rattle.command_words.proofs.Keys.{not_spelled, spelled}
use Rattle.command_words.proofs.key.fixed_key.Goals as goal

-- no such key is spelled
pub returns-in_err-fixed-clause-key : goal.returns-in_err-fixed-clause-key
returns-in_err-fixed-clause-key c =
    c.from_residual.ensures ∙ not_spelled c.args.word.now
    (λ raw is. c.in_err-fixed.ensures.none (record { key = record { code = Fixed; raw = raw }; fixed = refl }) is)

-- one is
pub returns-clause-key : goal.returns-clause-key
returns-clause-key c = spelled c.args.word.now c.in_ok-fixed.fixed.key c.in_ok-fixed.ensures.some.0 c.in_ok-fixed.fixed.fixed c.in_ok-fixed.ensures.some.1
