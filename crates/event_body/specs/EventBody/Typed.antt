-- What the types of an event's parts hold by themselves.
use Rattle.std.specs.Prelude.{◌<◌, ◌^◌, IfSome}
use Rattle.std.specs.List.{AllByRecursion}
use Rattle.cesr_codes.specs.Spelling.{IsDigest, IsKey, IsPrefix}
use Rattle.event_body.specs.declared.event_body.event.Event.{Event}
use Rattle.event_body.specs.declared.event_body.event.Event.TheVariants.{Icp, Rot, Ixn, Dip, Drt, Rct}
use Rattle.event_body.specs.declared.event_body.inception.Inception.{Inception}
use Rattle.event_body.specs.declared.event_body.rotation.Rotation.{Rotation}
use Rattle.event_body.specs.declared.event_body.interaction.Interaction.{Interaction}
use Rattle.event_body.specs.declared.event_body.receipt_body.ReceiptBody.{ReceiptBody}

pub record IsTypedInception (e : Inception) : Type 0 where
  pub said : IsDigest e.said
  pub prefix : IsPrefix e.prefix
  pub keys : AllByRecursion IsKey e.keys
  pub next : AllByRecursion IsDigest e.next
  pub toad : e.toad < 2 ^ 64
  pub list : AllByRecursion IsKey e.list
  pub delegator : IfSome e.delegator IsPrefix

pub record IsTypedRotation (e : Rotation) : Type 0 where
  pub said : IsDigest e.said
  pub prefix : IsPrefix e.prefix
  pub sn : e.sn < 2 ^ 64
  pub prior : IsDigest e.prior
  pub keys : AllByRecursion IsKey e.keys
  pub next : AllByRecursion IsDigest e.next
  pub toad : e.toad < 2 ^ 64
  pub cuts : AllByRecursion IsKey e.cuts
  pub adds : AllByRecursion IsKey e.adds

pub record IsTypedInteraction (e : Interaction) : Type 0 where
  pub said : IsDigest e.said
  pub prefix : IsPrefix e.prefix
  pub sn : e.sn < 2 ^ 64
  pub prior : IsDigest e.prior

pub record IsTypedReceipt (receipt : ReceiptBody) : Type 0 where
  pub said : IsDigest receipt.said
  pub prefix : IsPrefix receipt.prefix
  pub sn : receipt.sn < 2 ^ 64

-- Its digests, keys and prefixes have their bytes, and its numbers their bits, as the types of its parts have it.
abbrev pub IsTyped : Event → Type 0
IsTyped (Icp e) = IsTypedInception e
IsTyped (Rot e) = IsTypedRotation e
IsTyped (Ixn e) = IsTypedInteraction e
IsTyped (Dip e) = IsTypedInception e
IsTyped (Drt e) = IsTypedRotation e
IsTyped (Rct receipt) = IsTypedReceipt receipt
