-- What the helpers of the program tell by their names: of the rehearsal its verdicts and its signatures.
use Rattle.std.specs.Prelude.{ℕ, Bool, List, if◌then◌else◌}
use Rattle.std.specs.declared.option.Option.{Option}
use Rattle.cesr_codes.specs.declared.key.Key.{Key}
use Rattle.cesr_codes.specs.declared.sig.Sig.{Sig}
use Rattle.keri_outside.specs.Rehearsal.{rehearsal_says, rehearsal_gives}
use Rattle.verifier_link.specs.Helpers.{gives_nothing, says_nothing}
use Rattle.keri.specs.Programs.{is_rehearsal}

-- what the helper of a name says, and what it gives
abbrev pub says_under : List ℕ → Key → List ℕ → Sig → Option Bool
says_under name = if is_rehearsal name then rehearsal_says else says_nothing

abbrev pub gives_under : List ℕ → Key → List ℕ → Option Sig
gives_under name = if is_rehearsal name then rehearsal_gives else gives_nothing
