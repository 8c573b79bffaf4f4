-- What claims support, where verdicts are those of a journal.
use Rattle.std.proofs.Common.{◌≡◌, Bool, Option, List}
use Rattle.cesr_codes.specs.declared.key.Key.{Key}
use Rattle.cesr_codes.specs.declared.sig.Sig.{Sig}
use Rattle.journal.specs.EventRules.Parts.{Part, parts_by, says_of, supports}
use Rattle.journal.specs.declared.journal.body.Body.{Body}
use Rattle.journal.specs.Journal.History.{Told, claims_on}
use Rattle.journal.specs.Journal.Readiness.{backs}
use Rattle.key_state.specs.States.{State}

pub claims_are : (told : List Told) (s : Option State) (b : Body) (says : Key → Sig → Bool) (by : Key → Bool)
    → ((key : Key) (sig : Sig) → says key sig ≡ says_of told b key sig) → ((key : Key) → by key ≡ backs told b key)
    → (p : Part) → parts_by says by s b.event (claims_on told b) p ≡ supports told s b p
unfolding supports
claims_are told s b says by said backed p = λ i. parts_by (λ key sig. said key sig i) (λ key. backed key i) s b.event (claims_on told b) p
