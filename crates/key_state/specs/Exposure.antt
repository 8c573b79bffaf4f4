-- What a state says of an event: its signing keys, its witnesses, its thresholds, and the commitments that it opens.
use Rattle.std.specs.Prelude.{ℕ, zero, suc, Bool, false, ◌&&◌, ◌==◌, List, [], ◌∷◌, ◌++◌, length, filter, slice_get, Option, Some, None}
use Rattle.std.specs.List.{list_any}
use Rattle.cesr_codes.specs.declared.digest.Digest.{Digest}
use Rattle.cesr_codes.specs.declared.key.Key.{Key}
use Rattle.cesr_codes.specs.declared.indexed_sig.IndexedSig.{IndexedSig}
use Rattle.cesr_codes.specs.Spelling.{key_text}
use Rattle.event_body.specs.declared.event_body.event.Event.{Event}
use Rattle.event_body.specs.declared.event_body.event.Event.TheVariants.{Icp, Rot, Ixn, Dip, Drt, Rct}
use Rattle.said_digest.specs.Digests.{digest_of}
use Rattle.sith.specs.declared.threshold.Threshold.{Threshold}
use Rattle.sith.specs.declared.threshold.Threshold.TheVariants.{Count}
use Rattle.key_state.specs.Same.{same_digest}
use Rattle.key_state.specs.States.{State}
use Rattle.key_state.specs.KeyStates.{changed_list}

-- what decides over an event: its keys and their threshold, its witnesses and how many receipts are wanted
pub record Rules : Type 0 where
  pub keys : List Key
  pub kt : Threshold
  pub witnesses : List Key
  pub toad : ℕ

-- the rules of a state, which an interaction has; without a state there are no keys that could sign
abbrev pub rules_of : Option State → Rules
rules_of None = record { keys = []; kt = Count 1; witnesses = []; toad = 0 }
rules_of (Some s) = record { keys = s.keys; kt = s.kt; witnesses = s.list; toad = s.toad }

-- the event's own rules, for an interaction those of the state that it follows (k, kt, b or br and ba, bt)
abbrev pub own_rules : Option State → Event → Rules
own_rules s (Icp e) = record { keys = e.keys; kt = e.kt; witnesses = e.list; toad = e.toad }
own_rules s (Dip e) = record { keys = e.keys; kt = e.kt; witnesses = e.list; toad = e.toad }
own_rules s (Rot e) = record { keys = e.keys; kt = e.kt; witnesses = changed_list (rules_of s).witnesses e; toad = e.toad }
own_rules s (Drt e) = record { keys = e.keys; kt = e.kt; witnesses = changed_list (rules_of s).witnesses e; toad = e.toad }
own_rules s (Ixn e) = rules_of s
own_rules s (Rct e) = rules_of s

-- the digest is that of the key's 44 characters, under its own code (KERI, pre-rotation)
abbrev pub commits : Option Digest → Option Key → Bool
commits None _ = false
commits (Some d) None = false
commits (Some d) (Some k) = same_digest d (digest_of d.code (key_text k))

-- the numbers below n, rising
unfoldable pub numbers_below : ℕ → List ℕ
numbers_below zero = []
numbers_below (suc n) = numbers_below n ++ n ∷ []

-- the signature names the commitment j, and the key at its index is the one that was committed to
abbrev pub opens : List Digest → List Key → ℕ → IndexedSig → Bool
opens next keys j sig = is_place sig.ondex && commits (slice_get next j) (slice_get keys sig.index)
  where
    is_place : Option ℕ → Bool
    is_place None = false
    is_place (Some k) = k == j

-- the commitments of `next` that the signatures open (KERI, pre-rotation)
abbrev pub opened : List Digest → List Key → List IndexedSig → List ℕ
opened next keys sigs = filter (λ j. list_any (opens next keys j) sigs) (numbers_below (length next))

-- what a rotation's signatures expose of the commitments of the state, rising and each once; other events expose nothing
unfoldable pub exposed : State → Event → List IndexedSig → List ℕ
exposed s (Rot e) sigs = opened s.next e.keys sigs
exposed s (Drt e) sigs = opened s.next e.keys sigs
exposed s (Icp e) sigs = []
exposed s (Ixn e) sigs = []
exposed s (Dip e) sigs = []
exposed s (Rct e) sigs = []
