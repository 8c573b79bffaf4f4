-- What a signer is asked for the message of a plan.
use Rattle.std.specs.Prelude.{◌≡◌, ℕ, List, [], flat_map, slice_get, take, Option, Result, Ok, Err}
use Rattle.std.specs.List.{cons_option}
use Rattle.std.specs.Option.{option_map}
use Rattle.lists.specs.KeriSpecs.Shown.{after}
use Rattle.keri_outside.specs.Asked.{signing}
use Rattle.keri_outside.specs.declared.signing.Signing.{Signing}
use Rattle.cesr_codes.specs.declared.key.Key.{Key}
use Rattle.event_body.specs.declared.event_body.event.Event.{Event}
use Rattle.key_state.specs.Exposure.{own_rules}
use Rattle.key_state.specs.States.{State}
use Rattle.controller_core.specs.declared.controller_core.plan_fault.PlanFault.{PlanFault}
use Rattle.controller_core.specs.declared.controller_core.plan_fault.PlanFault.TheVariants.{Body, Misfit, Unsigned, SignerFault, OutOfMemory}
use Rattle.controller_core.specs.declared.controller_core.slot.Slot.{Slot}
use Rattle.controller_core.specs.ControllerCore.Messages.{event_text}

-- the signature in a slot is that of the key at its index
abbrev pub signing_at : List Key → List ℕ → Slot → List Signing
signing_at keys body slot = cons_option (option_map (λ key. signing key body) (slice_get keys slot.index)) []

-- the signatures on a body in the slots, in order
abbrev pub signings_in : List Key → List ℕ → List Slot → List Signing
signings_in keys body slots = flat_map (signing_at keys body) slots

-- those that the message of an event behind a state has, on the event's own text
abbrev pub signings_of : Option State → Event → List Slot → List Signing
signings_of s e slots = signings_in (own_rules s e).keys (event_text e) slots

-- a front of these was asked, where it is told
abbrev pub AsksFront : Option (List Signing) → Option (List Signing) → List Signing → Type 0
AsksFront old new wanted = (n : ℕ) × (new ≡ after old (take n wanted))

-- All of these were asked, and nothing else; where the signer failed or there was no memory, a front of them; and nothing
-- where no message may be made.
abbrev pub AsksFor : {T : Type 0} → Option (List Signing) → Option (List Signing) → List Signing → Result T PlanFault → Type 0
AsksFor old new wanted (Ok made) = new ≡ after old wanted
AsksFor old new wanted (Err SignerFault) = AsksFront old new wanted
AsksFor old new wanted (Err OutOfMemory) = AsksFront old new wanted
AsksFor old new wanted (Err (Body fault)) = new ≡ old
AsksFor old new wanted (Err (Misfit fault)) = new ≡ old
AsksFor old new wanted (Err Unsigned) = new ≡ old
