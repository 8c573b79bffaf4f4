-- The events that plans say, before and behind their sealing (KERI: key event messages; own: plans).
use Rattle.std.specs.Prelude.{ℕ, ◌+◌, ◌-◌, ◌^◌, min, Bool, true, false, List, [], ◌∷◌, replicate, codes, Option, Some, None, if◌then◌else◌}
use Rattle.std.specs.Fmt.{digits}
use Rattle.cesr_codes.specs.Spelling.{prefix_text, digest_text}
use Rattle.cesr_codes.specs.declared.digest.Digest.{Digest}
use Rattle.cesr_codes.specs.declared.digest.DigestCode.{DigestCode}
use Rattle.cesr_codes.specs.declared.digest.DigestCode.TheVariants.{Blake3}
use Rattle.cesr_codes.specs.declared.key.Key.{Key}
use Rattle.cesr_codes.specs.declared.prefix.Prefix.{Prefix}
use Rattle.cesr_codes.specs.declared.prefix.Prefix.TheVariants.{Basic, Said}
use Rattle.json_tree.specs.declared.tree.Member.{Member}
use Rattle.json_tree.specs.declared.tree.Tree.{Tree}
use Rattle.json_tree.specs.declared.tree.Tree.TheVariants.{Str, Object}
use Rattle.event_body.specs.declared.event_body.event.Event.{Event}
use Rattle.event_body.specs.declared.event_body.event.Event.TheVariants.{Icp, Rot, Ixn, Dip, Drt}
use Rattle.event_body.specs.declared.event_body.inception.Inception.{Inception}
use Rattle.event_body.specs.declared.event_body.rotation.Rotation.{Rotation}
use Rattle.event_body.specs.EventBody.Events.{prefix_of, sn_of, said_of}
use Rattle.event_body.specs.EventWriting.Sealed.{sealed_event}
use Rattle.key_state.specs.States.{State}
use Rattle.key_state.specs.Heads.{head_sn, head_said}
use Rattle.controller_core.specs.declared.controller_core.plan.Plan.{Plan}

-- what stands in the place of a digest that isn't known yet
abbrev pub blank : Digest
blank = record { code = Blake3; raw = replicate 32 0 }

-- the prefix of an inception: the first of the keys, where it is to be a key and there is one, and else its digest
abbrev pub first_prefix : Bool → List Key → Prefix
first_prefix true (key ∷ keys) = Basic key
first_prefix true [] = Said blank
first_prefix false keys = Said blank

-- what an inception says; its witnesses are those that the plan adds
abbrev pub begun : Plan → Inception
begun plan = record {
  said = blank;
  prefix = first_prefix plan.basic plan.keys;
  kt = plan.kt;
  keys = plan.keys;
  nt = plan.nt;
  next = plan.next;
  toad = plan.toad;
  list = plan.adds;
  traits = plan.traits;
  anchors = plan.anchors;
  delegator = plan.delegator;
}

-- an inception, delegated exactly where the plan is
unfoldable pub inception : Plan → Event
inception plan = if plan.delegated then Dip (begun plan) else Icp (begun plan)

-- the digest, where there is one
abbrev pub digest_or_blank : Option Digest → Digest
digest_or_blank None = blank
digest_or_blank (Some digest) = digest

-- the digest of the head, which each state has
abbrev pub head_digest : State → Digest
head_digest s = digest_or_blank (head_said s)

-- the number behind that of the head; in the place of 2^64, which no event has, stands the greatest
abbrev pub next_sn : State → ℕ
next_sn s = min (head_sn s + 1) (2 ^ 64 - 1)

-- what a rotation says behind the head of a state
abbrev pub rotated : State → Plan → Rotation
rotated s plan = record {
  said = blank;
  prefix = s.prefix;
  sn = next_sn s;
  prior = head_digest s;
  kt = plan.kt;
  keys = plan.keys;
  nt = plan.nt;
  next = plan.next;
  toad = plan.toad;
  cuts = plan.cuts;
  adds = plan.adds;
  anchors = plan.anchors;
}

-- a rotation, delegated exactly where the plan is
unfoldable pub rotation : State → Plan → Event
rotation s plan = if plan.delegated then Drt (rotated s plan) else Rot (rotated s plan)

-- an interaction with these anchors, behind the head of a state
unfoldable pub interaction : State → List Tree → Event
interaction s anchors = Ixn (record { said = blank; prefix = s.prefix; sn = next_sn s; prior = head_digest s; anchors = anchors })

-- a member that is a string
abbrev pub string_member : List ℕ → List ℕ → Member
string_member name text = record { name = name; value = Str text }

-- the event seal of an event: its identifier, number and digest (KERI, event seals in the field a)
unfoldable pub seal_of : Event → Tree
seal_of e = Object (string_member (codes "i") (prefix_text (prefix_of e)) ∷ string_member (codes "s") (digits 16 false (sn_of e)) ∷ string_member (codes "d") (digest_text (said_of e)) ∷ [])

-- an event with the digest of its own text
unfoldable pub sealed : DigestCode → Event → Event
sealed code e = sealed_event code e

-- what is made of a plan: these events with the digests of their own texts
abbrev pub sealed_inception : Plan → Event
sealed_inception plan = sealed plan.code (inception plan)

abbrev pub sealed_rotation : State → Plan → Event
sealed_rotation s plan = sealed plan.code (rotation s plan)

abbrev pub sealed_interaction : State → Plan → Event
sealed_interaction s plan = sealed plan.code (interaction s plan.anchors)

-- an interaction whose one anchor is the event seal of another event
abbrev pub sealed_delegation : State → Event → Plan → Event
sealed_delegation s e plan = sealed plan.code (interaction s (seal_of e ∷ []))
