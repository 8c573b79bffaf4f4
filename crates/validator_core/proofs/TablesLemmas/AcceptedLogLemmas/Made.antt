-- The state that an establishment event makes has that event's digest alone.
use Rattle.std.proofs.Common.{◌≡◌, false, List, [], ◌∷◌, ◌++◌, length, Some, sym, ◌∙◌, ap}
use Rattle.std.specs.Prelude.{IsTrue}
use Rattle.event_body.specs.EventBody.Events.{prefix_of, is_interaction}
use Rattle.key_state.specs.States.{State}
use Rattle.journal.specs.declared.journal.body.Body.{Body}
use Rattle.journal.specs.Journal.Grown.{fits}
use Rattle.journal.specs.Journal.Logs.{state}
use Rattle.validator_core.proofs.TablesLemmas.AcceptedLogLemmas.StateSteps.{fits_parts, new_of}

-- FITS: the state after an establishment event that fits
pub fitting_made : (log : List Body) (b : Body) (s : State) → IsTrue (fits log b) → is_interaction b.event ≡ false → state (log ++ b ∷ []) (prefix_of b.event) ≡ Some s → length s.since ≡ 1
fitting_made log b s fit sets now =
    let f = fits_parts log b fit in
    ap length (new_of (state log (prefix_of b.event)) b.event s f.taken sets f.event (sym f.step ∙ now)).alone
