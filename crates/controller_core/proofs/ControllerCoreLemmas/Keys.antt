-- The keys of an event that is sealed, and what a message of these parts has.
use Rattle.std.proofs.Common.{◌≡◌, false, ℕ, List, [], ◌∷◌, Option, refl, ap, ◌∙◌}
use Rattle.std.specs.List.{AllZip}
use Rattle.cesr_codes.specs.declared.digest.DigestCode.{DigestCode}
use Rattle.cesr_codes.specs.declared.indexed_sig.IndexedSig.{IndexedSig}
use Rattle.cesr_codes.specs.declared.key.Key.{Key}
use Rattle.cesr_codes.specs.declared.sig.Sig.{Sig}
use Rattle.cesr_stream.specs.declared.group.Group.TheVariants.{Controller}
use Rattle.cesr_stream.specs.declared.message.Message.{Message}
use Rattle.event_body.specs.declared.event_body.event.Event.{Event}
use Rattle.event_body.specs.declared.event_body.event.Event.TheVariants.{Icp, Rot, Ixn, Dip, Drt, Rct}
use Rattle.key_state.specs.Exposure.{own_rules}
use Rattle.key_state.specs.States.{State}
use Rattle.controller_core.specs.declared.controller_core.slot.Slot.{Slot}
use Rattle.controller_core.specs.ControllerCore.Messages.{HasSigs, IsInSlot}
use Rattle.controller_core.specs.ControllerCore.Plans.{sealed}

-- an event has the same keys with another digest
pub same_keys : (s : Option State) (code : DigestCode) (e : Event) → (own_rules s e).keys ≡ (own_rules s (sealed code e)).keys
unfolding sealed
same_keys s code (Icp e) = refl
same_keys s code (Rot e) = refl
same_keys s code (Ixn e) = refl
same_keys s code (Dip e) = refl
same_keys s code (Drt e) = refl
same_keys s code (Rct e) = refl

pub has_sigs : (gives : Key → List ℕ → Option Sig) (keys : List Key) (text body : List ℕ) (slots : List Slot) (sigs : List IndexedSig) (message : Message)
    → AllZip (IsInSlot gives keys text) slots sigs → message ≡ record { place = 0; body = body; groups = Controller sigs ∷ []; excess = false } → body ≡ text → HasSigs gives keys text slots message
has_sigs gives keys text body slots sigs message all is same = record {
  sigs = sigs;
  in_slots = all;
  place = ap (λ (m : Message). m.place) is;
  body = ap (λ (m : Message). m.body) is ∙ same;
  group = ap (λ (m : Message). m.groups) is;
  excess = ap (λ (m : Message). m.excess) is;
}
