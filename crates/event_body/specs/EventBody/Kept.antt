-- What is true of each event that a body spells (this project's profile).
use Rattle.std.specs.Prelude.{◌≡◌, ◌≢◌, ◌≤◌, [], length, None, IsSome}
use Rattle.event_body.specs.declared.event_body.event.Event.{Event}
use Rattle.event_body.specs.declared.event_body.event.Event.TheVariants.{Icp, Rot, Ixn, Dip, Drt, Rct}
use Rattle.event_body.specs.declared.event_body.inception.Inception.{Inception}
use Rattle.event_body.specs.declared.event_body.rotation.Rotation.{Rotation}
use Rattle.event_body.specs.EventBody.Ranges.{IsInception, IsRotation, IsInteraction, IsReceipt}
use Rattle.event_body.specs.EventBody.Rules.{HasWitnesses, ChangesWitnesses}

-- an inception's parts are in their ranges, it has a key, no list has more than 64 members, and the rule of witnesses
-- is kept
pub record IsKeptInception (e : Inception) : Type 0 where
  pub ranges : IsInception e
  pub some_keys : e.keys ≢ []
  pub few_keys : length e.keys ≤ 64
  pub few_next : length e.next ≤ 64
  pub few_witnesses : length e.list ≤ 64
  pub few_traits : length e.traits ≤ 64
  pub witnesses : HasWitnesses e

-- the same of a rotation
pub record IsKeptRotation (e : Rotation) : Type 0 where
  pub ranges : IsRotation e
  pub some_keys : e.keys ≢ []
  pub few_keys : length e.keys ≤ 64
  pub few_next : length e.next ≤ 64
  pub few_cuts : length e.cuts ≤ 64
  pub few_adds : length e.adds ≤ 64
  pub witnesses : ChangesWitnesses e

-- what is true of each event that is spelled; a delegated inception alone has a delegator
abbrev pub IsKept : Event → Type 0
IsKept (Icp e) = IsKeptInception e × (e.delegator ≡ None)
IsKept (Dip e) = IsKeptInception e × IsSome e.delegator
IsKept (Rot e) = IsKeptRotation e
IsKept (Drt e) = IsKeptRotation e
IsKept (Ixn e) = IsInteraction e
IsKept (Rct receipt) = IsReceipt receipt
