-- The events of a made log (own).
use Rattle.std.specs.Prelude.{ℕ, zero, suc, ◌+◌, List, [], ◌∷◌, replicate, if◌then◌else◌}
use Rattle.std.specs.declared.option.Option.TheVariants.{None}
use Rattle.cesr_codes.specs.declared.digest.Digest.{Digest}
use Rattle.cesr_codes.specs.declared.digest.DigestCode.TheVariants.{Blake3}
use Rattle.cesr_codes.specs.declared.prefix.Prefix.TheVariants.{Said}
use Rattle.sith.specs.declared.threshold.Threshold.TheVariants.{Count}
use Rattle.event_body.specs.declared.event_body.event.Event.{Event}
use Rattle.event_body.specs.declared.event_body.event.Event.TheVariants.{Icp, Rot, Ixn}
use Rattle.event_body.specs.EventBody.Events.{said_of}
use Rattle.event_body.specs.EventBody.Spelling.{text_of}
use Rattle.event_body.specs.EventWriting.Sealed.{sealed_event}
use Rattle.controller_core.specs.LogMaker.Names.{log_key, log_witness, key_digest}
use Rattle.controller_core.specs.LogMaker.Draws.{is_rotation, key_number}

-- what stands in the place of a digest that isn't known yet
abbrev pub blank : Digest
blank = record { code = Blake3; raw = replicate 32 0 }

-- The inception: the first key and the digest of the next one, each with the threshold 1, and four witnesses, of which
-- three are wanted. The prefix will be the digest.
unfoldable pub inception : ℕ → ℕ → Event
inception seed log = Icp (record {
  said = blank;
  prefix = Said blank;
  kt = Count 1;
  keys = log_key seed log 0 ∷ [];
  nt = Count 1;
  next = key_digest seed log 1 ∷ [];
  toad = 3;
  list = log_witness seed log 0 ∷ log_witness seed log 1 ∷ log_witness seed log 2 ∷ log_witness seed log 3 ∷ [];
  traits = [];
  anchors = [];
  delegator = None;
})

-- A rotation to the key of this number, with the digest of the next one. The witnesses stay.
unfoldable pub rotation : ℕ → ℕ → ℕ → ℕ → Digest → Digest → Event
rotation seed log number sn first prior = Rot (record {
  said = blank;
  prefix = Said first;
  sn = sn;
  prior = prior;
  kt = Count 1;
  keys = log_key seed log number ∷ [];
  nt = Count 1;
  next = key_digest seed log (number + 1) ∷ [];
  toad = 3;
  cuts = [];
  adds = [];
  anchors = [];
})

-- an interaction without anchors
unfoldable pub interaction : ℕ → Digest → Digest → Event
interaction sn first prior = Ixn (record { said = blank; prefix = Said first; sn = sn; prior = prior; anchors = [] })

-- the event of this sequence number before it has its digest, behind events of which these are the first's digest and
-- the last's
unfoldable pub plan_at : ℕ → ℕ → ℕ → Digest → Digest → Event
plan_at seed log zero first prior = inception seed log
plan_at seed log (suc sn) first prior =
    if is_rotation seed log (suc sn) then rotation seed log (key_number seed log (suc sn)) (suc sn) first prior else interaction (suc sn) first prior

-- an event with the Blake3-256 digest of its own text
unfoldable pub sealed : Event → Event
sealed event = sealed_event Blake3 event

-- the text of an event
unfoldable pub event_text : Event → List ℕ
event_text event = text_of event

-- the first event: the inception with the digest of its own text
unfoldable pub first_event : ℕ → ℕ → Event
first_event seed log = sealed (inception seed log)

-- The event of this sequence number, with the digest of its own text. It names the digests of the first one and of the
-- one before it.
unfoldable pub event_at : ℕ → ℕ → ℕ → Event
event_at seed log zero = first_event seed log
event_at seed log (suc sn) = sealed (plan_at seed log (suc sn) (said_of (first_event seed log)) (said_of (event_at seed log sn)))
