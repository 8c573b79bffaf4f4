-- Rules for verdicts.
use Rattle.std.specs.Prelude.{ℕ, Bool, List}
use Rattle.std.specs.declared.option.Option.{Option}
use Rattle.std.specs.declared.option.Option.TheVariants.{Some}
use Rattle.cesr_codes.specs.declared.key.Key.{Key}
use Rattle.cesr_codes.specs.declared.sig.Sig.{Sig}
use Rattle.keri_outside.specs.Rehearsal.{is_rehearsed}
use Rattle.keri_outside.specs.declared.verdict_rule.VerdictRule.{VerdictRule}
use Rattle.keri_outside.specs.declared.verdict_rule.VerdictRule.TheVariants.{Rehearsal, Always}

-- the verdict by a rule
abbrev pub verdict : VerdictRule → Key → List ℕ → Sig → Bool
verdict Rehearsal key body sig = is_rehearsed key body sig
verdict (Always answer) key body sig = answer

-- the verdicts by a rule, told
abbrev pub told_verdict : VerdictRule → Key → List ℕ → Sig → Option Bool
told_verdict rule = λ key body sig. Some (verdict rule key body sig)
