-- The ranges of an event's parts (CESR: code table; KERI: signing and rotation thresholds; this project's profile).
use Rattle.std.specs.Prelude.{◌<◌, ◌^◌, length, IfSome}
use Rattle.std.specs.List.{AllByRecursion}
use Rattle.cesr_codes.specs.Spelling.{IsDigest, IsKey, IsPrefix}
use Rattle.json_tree.specs.Spelling.{Fits}
use Rattle.json_tree.specs.Strings.{IsString}
use Rattle.sith.specs.Rules.{IsReadFor}
use Rattle.sith.specs.Thresholds.{Spells, threshold_value}
use Rattle.event_body.specs.BodyFields.Forms.{AreFixed}
use Rattle.event_body.specs.declared.event_body.event.Event.{Event}
use Rattle.event_body.specs.declared.event_body.event.Event.TheVariants.{Icp, Rot, Ixn, Dip, Drt, Rct}
use Rattle.event_body.specs.declared.event_body.inception.Inception.{Inception}
use Rattle.event_body.specs.declared.event_body.rotation.Rotation.{Rotation}
use Rattle.event_body.specs.declared.event_body.interaction.Interaction.{Interaction}
use Rattle.event_body.specs.declared.event_body.receipt_body.ReceiptBody.{ReceiptBody}

-- An inception's parts are in their ranges: the thresholds are ones that are read for so many keys and digests, the
-- witnesses' keys can't be rotated, and no anchor nests more than 8 deep.
pub record IsInception (e : Inception) : Type 0 where
  pub said_held : IsDigest e.said
  pub prefix_held : IsPrefix e.prefix
  pub kt_read : IsReadFor e.kt (length e.keys)
  pub kt_spelled : Spells e.kt (threshold_value e.kt)
  pub keys_held : AllByRecursion IsKey e.keys
  pub nt_read : IsReadFor e.nt (length e.next)
  pub nt_spelled : Spells e.nt (threshold_value e.nt)
  pub next_held : AllByRecursion IsDigest e.next
  pub toad_held : e.toad < 2 ^ 64
  pub list_held : AllByRecursion IsKey e.list
  pub list_fixed : AreFixed e.list
  pub traits_held : AllByRecursion IsString e.traits
  pub anchors_held : AllByRecursion (Fits 8) e.anchors
  pub delegator_held : IfSome e.delegator IsPrefix

-- a rotation's parts are in their ranges
pub record IsRotation (e : Rotation) : Type 0 where
  pub said_held : IsDigest e.said
  pub prefix_held : IsPrefix e.prefix
  pub sn_held : e.sn < 2 ^ 64
  pub prior_held : IsDigest e.prior
  pub kt_read : IsReadFor e.kt (length e.keys)
  pub kt_spelled : Spells e.kt (threshold_value e.kt)
  pub keys_held : AllByRecursion IsKey e.keys
  pub nt_read : IsReadFor e.nt (length e.next)
  pub nt_spelled : Spells e.nt (threshold_value e.nt)
  pub next_held : AllByRecursion IsDigest e.next
  pub toad_held : e.toad < 2 ^ 64
  pub cuts_held : AllByRecursion IsKey e.cuts
  pub cuts_fixed : AreFixed e.cuts
  pub adds_held : AllByRecursion IsKey e.adds
  pub adds_fixed : AreFixed e.adds
  pub anchors_held : AllByRecursion (Fits 8) e.anchors

-- an interaction's parts are in their ranges
pub record IsInteraction (e : Interaction) : Type 0 where
  pub said_held : IsDigest e.said
  pub prefix_held : IsPrefix e.prefix
  pub sn_held : e.sn < 2 ^ 64
  pub prior_held : IsDigest e.prior
  pub anchors_held : AllByRecursion (Fits 8) e.anchors

-- a receipt's parts are in their ranges
pub record IsReceipt (receipt : ReceiptBody) : Type 0 where
  pub said_held : IsDigest receipt.said
  pub prefix_held : IsPrefix receipt.prefix
  pub sn_held : receipt.sn < 2 ^ 64

-- the event's parts are in their ranges
abbrev pub AreInRange : Event → Type 0
AreInRange (Icp e) = IsInception e
AreInRange (Rot e) = IsRotation e
AreInRange (Ixn e) = IsInteraction e
AreInRange (Dip e) = IsInception e
AreInRange (Drt e) = IsRotation e
AreInRange (Rct receipt) = IsReceipt receipt
