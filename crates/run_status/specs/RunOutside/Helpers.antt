-- Helpers of an outside in memory.
use Rattle.std.specs.Prelude.{ℕ, Bool, List}
use Rattle.std.specs.List.{find}
use Rattle.std.specs.Str.{bytes_eq}
use Rattle.std.specs.declared.option.Option.{Option}
use Rattle.std.specs.declared.option.Option.TheVariants.{None, Some}
use Rattle.cesr_codes.specs.declared.key.Key.{Key}
use Rattle.cesr_codes.specs.declared.sig.Sig.{Sig}
use Rattle.keri_outside.specs.Rehearsal.{rehearsal_gives}
use Rattle.keri_outside.specs.Verdicts.{told_verdict}
use Rattle.run_status.specs.declared.run_outside.mem_helper.MemHelper.{MemHelper}

-- the first helper of the name
abbrev pub helper_named : List MemHelper → List ℕ → Option MemHelper
helper_named helpers name = find (λ helper. bytes_eq helper.name name) helpers

-- what a helper's verifiers say: nothing is told of one that isn't there
abbrev pub helper_says : Option MemHelper → Key → List ℕ → Sig → Option Bool
helper_says None = λ key body sig. None
helper_says (Some helper) = told_verdict helper.rule

-- what verifiers of the name say
abbrev pub says_under : List MemHelper → List ℕ → Key → List ℕ → Sig → Option Bool
says_under helpers name = helper_says (helper_named helpers name)

-- what a helper's signers give, which is the rehearsal's: nothing is told of one that isn't there
abbrev pub helper_gives : Option MemHelper → Key → List ℕ → Option Sig
helper_gives None = λ key body. None
helper_gives (Some helper) = rehearsal_gives

-- what signers of the name give
abbrev pub gives_under : List MemHelper → List ℕ → Key → List ℕ → Option Sig
gives_under helpers name = helper_gives (helper_named helpers name)
