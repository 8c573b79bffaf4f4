-- What a body keeps of the events that it spells (this project's profile: lists of at most 64 members, thresholds of
-- so many keys, witnesses that can't be rotated and stand once).
use Rattle.std.specs.Prelude.{◌≤◌, ◌<◌, ◌^◌, length, IsTrue}
use Rattle.event_body.specs.declared.event_body.event.Event.{Event}
use Rattle.event_body.specs.declared.event_body.event.Event.TheVariants.{Icp, Rot, Ixn, Dip, Drt, Rct}
use Rattle.event_body.specs.declared.event_body.inception.Inception.{Inception}
use Rattle.event_body.specs.declared.event_body.rotation.Rotation.{Rotation}
use Rattle.sith.specs.Rules.{IsReadFor}
use Rattle.key_state.specs.Same.{are_witnesses}

-- what is true of each inception that a body spells
pub record IsKeptInception (e : Inception) : Type 0 where
  pub kt_read : IsReadFor e.kt (length e.keys)
  pub nt_read : IsReadFor e.nt (length e.next)
  pub few_keys : length e.keys ≤ 64
  pub few_next : length e.next ≤ 64
  pub few_witnesses : length e.list ≤ 64
  pub witnesses : IsTrue (are_witnesses e.list)

-- what is true of each rotation that a body spells
pub record IsKeptRotation (e : Rotation) : Type 0 where
  pub sn_held : e.sn < 2 ^ 64
  pub kt_read : IsReadFor e.kt (length e.keys)
  pub nt_read : IsReadFor e.nt (length e.next)
  pub few_keys : length e.keys ≤ 64
  pub few_next : length e.next ≤ 64
  pub few_cuts : length e.cuts ≤ 64
  pub few_adds : length e.adds ≤ 64
  pub cuts : IsTrue (are_witnesses e.cuts)
  pub adds : IsTrue (are_witnesses e.adds)

-- the event is one that a body may spell
abbrev pub IsKept : Event → Type 0
IsKept (Icp e) = IsKeptInception e
IsKept (Dip e) = IsKeptInception e
IsKept (Rot e) = IsKeptRotation e
IsKept (Drt e) = IsKeptRotation e
IsKept (Ixn e) = e.sn < 2 ^ 64
IsKept (Rct e) = e.sn < 2 ^ 64
