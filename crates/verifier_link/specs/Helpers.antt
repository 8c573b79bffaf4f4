-- What is told of a helper, and what comes of asking it: the rehearsal's answer, or what a link to a program gives.
use Rattle.std.specs.Prelude.{◌≡◌, ℕ, Bool, List}
use Rattle.std.specs.declared.option.Option.{Option}
use Rattle.std.specs.declared.option.Option.TheVariants.{None, Some}
use Rattle.std.specs.declared.result.Result.{Result}
use Rattle.std.specs.declared.result.Result.TheVariants.{Ok}
use Rattle.cesr_codes.specs.declared.key.Key.{Key}
use Rattle.cesr_codes.specs.declared.sig.Sig.{Sig}
use Rattle.keri_outside.specs.Rehearsal.{rehearsal_says, rehearsal_gives}
use Rattle.verifier_link.specs.declared.helper.Helper.{Helper}
use Rattle.verifier_link.specs.declared.helper.Helper.TheVariants.{Rehearsal, Program}
use Rattle.verifier_link.specs.Exchanges.{Exchanges}
use Rattle.verifier_link.specs.Questions.{Question}
use Rattle.verifier_link.specs.Sides.{HelperShown, link_faults, link_shown}

-- the verdicts and the signatures of a program, of which nothing is told
abbrev pub says_nothing : Key → List ℕ → Sig → Option Bool
says_nothing = λ key body sig. None

abbrev pub gives_nothing : Key → List ℕ → Option Sig
gives_nothing = λ key body. None

-- what a helper says of a key, a body and a signature
abbrev pub helper_says : {S K P : Type 0} → Helper S K P → Key → List ℕ → Sig → Option Bool
helper_says (Rehearsal rehearsal) = rehearsal_says
helper_says (Program link process) = says_nothing

-- the signatures that a helper gives
abbrev pub helper_gives : {S K P : Type 0} → Helper S K P → Key → List ℕ → Option Sig
helper_gives (Rehearsal rehearsal) = rehearsal_gives
helper_gives (Program link process) = gives_nothing

-- how often a helper failed, which the rehearsal never does
abbrev pub helper_faults : {S K P : Type 0} → Helper S K P → ℕ
helper_faults (Rehearsal rehearsal) = 0
helper_faults (Program link process) = link_faults link

-- what is told of the link to a program; the rehearsal has none
module _ {S K : Type 0} (left : S → Option (List ℕ)) (read_faults : S → ℕ) (written : K → Option (List ℕ)) (write_faults : K → ℕ) where
  abbrev pub helper_shown : {P : Type 0} → Helper S K P → Option HelperShown
  helper_shown (Rehearsal rehearsal) = None
  helper_shown (Program link process) = Some (link_shown left read_faults written write_faults link)

-- The rehearsal answers what it makes itself, and a program over its link, or not. A helper stays the one that it is.
abbrev pub IsAnswered : {A E : Type 0} → (A → List ℕ → Type 0) → A → Question → Option HelperShown → Option HelperShown → Result A E → Type 0
IsAnswered Says own question None None result = result ≡ Ok own
IsAnswered Says own question (Some old) (Some new) result = Exchanges Says question old new result
IsAnswered Says own question None (Some new) result = ⊥
IsAnswered Says own question (Some old) None result = ⊥
