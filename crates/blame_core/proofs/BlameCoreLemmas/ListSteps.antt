-- The own witness lists of a log's events, by its states.
use Rattle.std.proofs.Common.{◌≡◌, true, false, List, [], ◌∷◌, ◌++◌, Option, Some, None, refl, ◌∙◌, ap}
use Rattle.std.proofs.lemmas.Bool.{or_parts}
use Rattle.cesr_codes.specs.declared.key.Key.{Key}
use Rattle.event_body.specs.declared.event_body.event.Event.{Event}
use Rattle.event_body.specs.declared.event_body.event.Event.TheVariants.{Icp, Rot, Ixn, Dip, Drt, Rct}
use Rattle.event_body.specs.EventBody.Events.{prefix_of, is_establishment, is_receipt}
use Rattle.key_state.specs.Exposure.{own_rules, rules_of}
use Rattle.key_state.specs.KeyStates.{list_behind, misfit}
use Rattle.key_state.specs.States.{State}
use Rattle.journal.specs.declared.journal.body.Body.{Body}
use Rattle.journal.specs.Journal.Logs.{before, is_in, same_body, state, stepped, takes}
use Rattle.journal.proofs.JournalLemmas.Accepting.{same_body-refl}
use Rattle.quorum_laws.specs.Backing.{rules_in}
use Rattle.blame_core.specs.BlameCore.Establishments.{IsFollowedBy}
use Rattle.blame_core.proofs.BlameLawsLemmas.Journals.{fit_parts}

-- an event that a state takes leaves this list
pub list_taken : (o : Option State) (e : Event) → is_receipt e ≡ false → takes o e ≡ true
    → (rules_of (stepped o e)).witnesses ≡ list_behind (rules_of o).witnesses e
unfolding misfit
list_taken None (Icp e) r t = refl
list_taken None (Dip e) r t = refl
list_taken None (Rot e) r t = cc
list_taken None (Ixn e) r t = cc
list_taken None (Drt e) r t = cc
list_taken None (Rct e) r t = cc
list_taken (Some s) (Icp e) r t = cc
list_taken (Some s) (Dip e) r t = cc
list_taken (Some s) (Rot e) r t = rw t refl
list_taken (Some s) (Drt e) r t = rw t refl
list_taken (Some s) (Ixn e) r t = rw t refl
list_taken (Some s) (Rct e) r t = cc

-- which is an establishment event's own
pub own_after : (o : Option State) (e : Event) → is_establishment e ≡ true → (own_rules o e).witnesses ≡ list_behind (rules_of o).witnesses e
own_after o (Icp e) h = refl
own_after o (Dip e) h = refl
own_after o (Rot e) h = refl
own_after o (Drt e) h = refl
own_after o (Ixn e) h = cc
own_after o (Rct e) h = cc

-- any other event leaves the list
pub list_kept : (keys : List Key) (e : Event) → is_establishment e ≡ false → list_behind keys e ≡ keys
list_kept keys (Icp e) h = cc
list_kept keys (Dip e) h = cc
list_kept keys (Rot e) h = cc
list_kept keys (Drt e) h = cc
list_kept keys (Ixn e) h = refl
list_kept keys (Rct e) h = refl

-- the cut before a body that isn't in the front
before_out : (front later : List Body) (b : Body) → is_in front b ≡ false → before b (front ++ b ∷ later) ≡ front
unfolding before
before_out [] later b h = rw (same_body-refl b) refl
before_out (c ∷ front) later b h =
    let parts = or_parts (same_body c b) (is_in front b) h in
    let other = parts.0 in
    rw other (ap (λ xs. c ∷ xs) (before_out front later b parts.1))

-- the own list of a log's next establishment event
pub own_next : (log seen : List Body) (b : Body) → IsFollowedBy log seen b → is_establishment b.event ≡ true
    → (rules_in log b).witnesses ≡ list_behind (rules_of (state seen (prefix_of b.event))).witnesses b.event
own_next log seen b f sets_keys =
    let fit = fit_parts seen b (f.grown seen f.later b f.parts) in
    let cut : before b log ≡ seen = ap (before b) f.parts ∙ before_out seen f.later b fit.1 in
    ap (λ xs. (own_rules (state xs (prefix_of b.event)) b.event).witnesses) cut ∙ own_after (state seen (prefix_of b.event)) b.event sets_keys
