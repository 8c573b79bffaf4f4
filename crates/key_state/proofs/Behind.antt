-- The state and the witness list behind an event.
use Rattle.std.proofs.Common.{◌≡◌, List, Some, length, refl, ap, arith}
use Rattle.std.proofs.lemmas.List.{take_all}
use Rattle.cesr_codes.specs.declared.digest.Digest.{Digest}
use Rattle.event_body.specs.declared.event_body.event.Event.{Event}
use Rattle.event_body.specs.declared.event_body.event.Event.TheVariants.{Icp, Rot, Ixn, Dip, Drt, Rct}
use Rattle.key_state.specs.Exposure.{own_rules}
use Rattle.key_state.specs.KeyStates.{list_behind, state_behind}
use Rattle.key_state.specs.States.{State}

-- behind the head it is the state itself
pub state_behind_all : (s : State) → state_behind (length s.since) s ≡ s
state_behind_all s = ap (λ (since : List Digest). record s { since = since }) (take_all (length s.since) s.since (omega arith))

-- the list behind an event is its own
pub own_list : (s : State) (e : Event) → list_behind s.list e ≡ (own_rules (Some s) e).witnesses
own_list s (Icp e) = refl
own_list s (Dip e) = refl
own_list s (Rot e) = refl
own_list s (Drt e) = refl
own_list s (Ixn e) = refl
own_list s (Rct e) = refl
