-- Why the body of a number waits.
use Rattle.std.proofs.Common.{◌≡◌, ℕ, Option, Some, None, refl, ◌∙◌, ap}
use Rattle.std.specs.Prelude.{slice_get}
use Rattle.validator_core.specs.Acceptance.Standing.{told_of}
use Rattle.validator_core.specs.Tables.View.{View, log_of}
use Rattle.journal.specs.declared.journal.body.Body.{Body}
use Rattle.journal.specs.declared.journal.mode.Mode.{Mode}
use Rattle.journal.specs.declared.journal.why.Why.{Why}
use Rattle.journal.specs.Journal.Waiting.{why_waits}
use Rattle.keri_outside.specs.declared.limits.Limits.{Limits}
use Rattle.validator_core.specs.declared.validator_core.tally.Tally.{Tally}
use Rattle.validator_core.specs.ValidatorCore.Tables.{IsCore}
use Rattle.validator_core.specs.ValidatorCore.View.{waits_for}
use Rattle.validator_core.proofs.ValidatorCoreLemmas.Cores.{seen}

module _ (mode : Mode) (limits : Limits) (base : ℕ) (v : View) (tally : Tally) (core : IsCore mode limits base v tally) (n : ℕ) (r : Option Why)
    (held : (b : Body) → slice_get v.held n ≡ Some b → r ≡ why_waits mode (told_of v) (log_of v) b) (none : slice_get v.held n ≡ None → r ≡ None) where
  by : (o : Option Body) → slice_get v.held n ≡ o → r ≡ waits_for (seen mode limits base v) n
  by None e = rw e (none e)
  by (Some b) e = rw e (held b e ∙ ap (λ l. why_waits mode (told_of v) l b) core.log_is)

  pub waits_is : r ≡ waits_for (seen mode limits base v) n
  waits_is = by (slice_get v.held n) refl
