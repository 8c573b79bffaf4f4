-- The parts of an event (KERI: field maps of key event messages; the fields t, i, s, d, p, a).
use Rattle.std.specs.Prelude.{ℕ, Bool, true, false, ◌||◌, if◌then◌else◌, Option, Some, None, List, [], ◌∷◌, codes}
use Rattle.cesr_codes.specs.declared.digest.Digest.{Digest}
use Rattle.cesr_codes.specs.declared.prefix.Prefix.{Prefix}
use Rattle.cesr_codes.specs.declared.prefix.Prefix.TheVariants.{Basic, Said}
use Rattle.event_body.specs.declared.event_body.event.Event.{Event}
use Rattle.event_body.specs.declared.event_body.event.Event.TheVariants.{Icp, Rot, Ixn, Dip, Drt, Rct}
use Rattle.json_tree.specs.declared.tree.Tree.{Tree}

-- the identifier whose log it is in (i)
abbrev pub prefix_of : Event → Prefix
prefix_of (Icp e) = e.prefix
prefix_of (Rot e) = e.prefix
prefix_of (Ixn e) = e.prefix
prefix_of (Dip e) = e.prefix
prefix_of (Drt e) = e.prefix
prefix_of (Rct e) = e.prefix

-- its sequence number (s), 0 for an inception
abbrev pub sn_of : Event → ℕ
sn_of (Icp e) = 0
sn_of (Rot e) = e.sn
sn_of (Ixn e) = e.sn
sn_of (Dip e) = 0
sn_of (Drt e) = e.sn
sn_of (Rct e) = e.sn

-- its digest (d); of a receipt, that of the event that it speaks of
abbrev pub said_of : Event → Digest
said_of (Icp e) = e.said
said_of (Rot e) = e.said
said_of (Ixn e) = e.said
said_of (Dip e) = e.said
said_of (Drt e) = e.said
said_of (Rct e) = e.said

-- the digest of the event before it (p)
abbrev pub prior_of : Event → Option Digest
prior_of (Icp e) = None
prior_of (Rot e) = Some e.prior
prior_of (Ixn e) = Some e.prior
prior_of (Dip e) = None
prior_of (Drt e) = Some e.prior
prior_of (Rct e) = None

-- its seals and other values (a)
abbrev pub anchors_of : Event → List Tree
anchors_of (Icp e) = e.anchors
anchors_of (Rot e) = e.anchors
anchors_of (Ixn e) = e.anchors
anchors_of (Dip e) = e.anchors
anchors_of (Drt e) = e.anchors
anchors_of (Rct e) = []

-- it is an icp or a dip
abbrev pub is_inception : Event → Bool
is_inception (Icp e) = true
is_inception (Dip e) = true
is_inception _ = false

-- it is a rot or a drt
abbrev pub is_rotation : Event → Bool
is_rotation (Rot e) = true
is_rotation (Drt e) = true
is_rotation _ = false

-- it is an rct, and so no event of a log
abbrev pub is_receipt : Event → Bool
is_receipt (Rct e) = true
is_receipt _ = false

-- it is an ixn
abbrev pub is_interaction : Event → Bool
is_interaction (Ixn e) = true
is_interaction _ = false

-- it is a dip or a drt, and so wants the seal of a delegator
abbrev pub is_delegated : Event → Bool
is_delegated (Dip e) = true
is_delegated (Drt e) = true
is_delegated _ = false

-- it sets the keys: an inception or a rotation
abbrev pub is_establishment : Event → Bool
is_establishment e = is_inception e || is_rotation e

-- its kind (t)
abbrev pub kind_of : Event → List ℕ
kind_of (Icp e) = codes "icp"
kind_of (Rot e) = codes "rot"
kind_of (Ixn e) = codes "ixn"
kind_of (Dip e) = codes "dip"
kind_of (Drt e) = codes "drt"
kind_of (Rct e) = codes "rct"

-- the prefix is a digest
abbrev pub is_said : Prefix → Bool
is_said (Basic key) = false
is_said (Said digest) = true

-- a placeholder stands for the prefix too when the digest is computed
abbrev pub hides_prefix : Event → Bool
hides_prefix (Icp e) = is_said e.prefix
hides_prefix (Dip e) = is_said e.prefix
hides_prefix _ = false

-- where placeholders stand when the digest is computed
abbrev pub places_of : Event → List ℕ
places_of event = if hides_prefix event then 40 ∷ 91 ∷ [] else 40 ∷ []
