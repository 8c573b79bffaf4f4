-- Key states: what the first event of an identifier makes, and what each later one changes (KERI, key state).
use Rattle.std.specs.Prelude.{◌≡◌, ℕ, ◌+◌, ◌-◌, Bool, false, not, ◌&&◌, ◌||◌, ◌==◌, nat_le, nat_lt, List, [], ◌∷◌, ◌++◌, length, filter, take, codes, slice_get, Option, Some, None, is_some, is_none, if◌then◌else◌, Result, Ok, Err}
use Rattle.std.specs.List.{list_any}
use Rattle.cesr_codes.specs.declared.digest.Digest.{Digest}
use Rattle.cesr_codes.specs.declared.key.Key.{Key}
use Rattle.event_body.specs.declared.event_body.event.Event.{Event}
use Rattle.event_body.specs.declared.event_body.event.Event.TheVariants.{Icp, Rot, Ixn, Dip, Drt, Rct}
use Rattle.event_body.specs.declared.event_body.inception.Inception.{Inception}
use Rattle.event_body.specs.declared.event_body.rotation.Rotation.{Rotation}
use Rattle.event_body.specs.EventBody.Events.{prefix_of, sn_of, prior_of, is_inception, is_receipt, is_interaction}
use Rattle.key_state.specs.declared.state_fault.Misfit.{Misfit}
use Rattle.key_state.specs.declared.state_fault.Misfit.TheVariants.{Sn, Prior, Ended, EstOnly, Kind, WitnessChange}
use Rattle.key_state.specs.declared.state_fault.StateFault.{StateFault}
use Rattle.key_state.specs.declared.state_fault.StateFault.TheVariants.{Misfit as IsMisfit, OutOfMemory}
use Rattle.key_state.specs.Same.{same_digest, same_prefix, has_key, has_text}
use Rattle.key_state.specs.States.{State}
use Rattle.key_state.specs.Heads.{head_sn}

-- the digest of the live event of a number, where it is the last establishment event or a later one
abbrev pub digest_at : State → ℕ → Option Digest
digest_at s n = if nat_lt n s.est_sn then None else slice_get s.since (n - s.est_sn)

-- the witness list after a rotation: the old one without the cuts, then the adds (br, ba)
abbrev pub changed_list : List Key → Rotation → List Key
changed_list old e = filter (λ k. not (has_key e.cuts k)) old ++ e.adds

-- the witness list behind an event: an inception's own, what a rotation changes it to, or the same (b, br, ba)
abbrev pub list_behind : List Key → Event → List Key
list_behind before (Icp e) = e.list
list_behind before (Dip e) = e.list
list_behind before (Rot e) = changed_list before e
list_behind before (Drt e) = changed_list before e
list_behind before (Ixn e) = before
list_behind before (Rct e) = before

-- it is a rot where there is a delegator, or a drt where there is none
abbrev pub is_other_rotation : State → Event → Bool
is_other_rotation s (Rot e) = is_some s.delegator
is_other_rotation s (Drt e) = is_none s.delegator
is_other_rotation s (Icp e) = false
is_other_rotation s (Ixn e) = false
is_other_rotation s (Dip e) = false
is_other_rotation s (Rct e) = false

-- it is no event that can follow, or another identifier's, or a rotation without (or with) the delegator that there is
abbrev pub is_other_kind : State → Event → Bool
is_other_kind s e = is_inception e || is_receipt e || not (same_prefix (prefix_of e) s.prefix) || is_other_rotation s e

-- its number isn't the next; a rotation may also take the place of interactions since the last establishment event
abbrev pub is_other_sn : State → Event → Bool
is_other_sn s (Rot e) = nat_le e.sn s.est_sn || nat_lt (head_sn s + 1) e.sn
is_other_sn s (Ixn e) = not (e.sn == head_sn s + 1)
is_other_sn s (Drt e) = not (e.sn == head_sn s + 1)
is_other_sn s (Icp e) = false
is_other_sn s (Dip e) = false
is_other_sn s (Rct e) = false

-- both digests are there and the same
abbrev pub are_same : Option Digest → Option Digest → Bool
are_same (Some d) (Some e) = same_digest d e
are_same (Some d) None = false
are_same None _ = false

-- `p` isn't the digest of the live event before its number
abbrev pub is_other_prior : State → Event → Bool
is_other_prior s e = not (are_same (prior_of e) (digest_at s (sn_of e - 1)))

-- the number of receipts that are wanted fits so many witnesses (bt)
abbrev pub fits_count : ℕ → ℕ → Bool
fits_count toad witnesses = if witnesses == 0 then toad == 0 else nat_le 1 toad && nat_le toad witnesses

-- a cut isn't in the list, an add is, or the new list has more than 64 members or doesn't fit `bt`
abbrev pub is_bad_change : List Key → Rotation → Bool
is_bad_change old e = list_any (λ k. not (has_key old k)) e.cuts || list_any (has_key old) e.adds
    || nat_lt 64 (length (changed_list old e)) || not (fits_count e.toad (length (changed_list old e)))

-- it is a rotation that changes the witness list badly
abbrev pub is_other_list : State → Event → Bool
is_other_list s (Rot e) = is_bad_change s.list e
is_other_list s (Drt e) = is_bad_change s.list e
is_other_list s (Icp e) = false
is_other_list s (Ixn e) = false
is_other_list s (Dip e) = false
is_other_list s (Rct e) = false

-- what stands beside the first test that is true
abbrev pub first_true : {X : Type 0} → List (Bool × X) → Option X
first_true [] = None
first_true (t ∷ ts) = if t.0 then Some t.1 else first_true ts

-- the rules that an event that follows a state keeps, in their order, each as the test that it is broken
abbrev pub misfit_rules : State → Event → List (Bool × Misfit)
misfit_rules s e =
    (is_other_kind s e, Kind)
    ∷ (length s.next == 0, Ended)
    ∷ (is_interaction e && has_text s.traits (codes "EO"), EstOnly)
    ∷ (is_other_sn s e, Sn)
    ∷ (is_other_prior s e, Prior)
    ∷ (is_other_list s e, WitnessChange)
    ∷ []

-- the first rule by which the event doesn't follow the state
unfoldable pub misfit : State → Event → Option Misfit
misfit s e = first_true (misfit_rules s e)

-- the state just behind one of the live events, counted from 1, which is the last establishment event: that event is the
-- head, since only interactions are behind it
abbrev pub state_behind : ℕ → State → State
state_behind place s = record s { since = take place s.since }

-- the state after an inception
abbrev pub begun : Inception → State
begun e = record {
  prefix = e.prefix;
  est_sn = 0;
  since = e.said ∷ [];
  keys = e.keys;
  kt = e.kt;
  next = e.next;
  nt = e.nt;
  list = e.list;
  toad = e.toad;
  traits = e.traits;
  delegator = e.delegator;
}

-- the state after a rotation, which supersedes the interactions from its number on
abbrev pub rotated : State → Rotation → State
rotated s e = record s {
  est_sn = e.sn;
  since = e.said ∷ [];
  keys = e.keys;
  kt = e.kt;
  next = e.next;
  nt = e.nt;
  list = changed_list s.list e;
  toad = e.toad;
}

-- the state after an event that follows it
abbrev pub moved : State → Event → State
moved s (Rot e) = rotated s e
moved s (Drt e) = rotated s e
moved s (Ixn e) = record s { since = s.since ++ e.said ∷ [] }
moved s (Icp e) = s
moved s (Dip e) = s
moved s (Rct e) = s

-- a state, unless there is a misfit
abbrev pub ok_unless : Option Misfit → State → Result State Misfit
ok_unless None s = Ok s
ok_unless (Some m) s = Err m

-- the state after the first event of an identifier
abbrev pub first : Event → Result State Misfit
first (Icp e) = Ok (begun e)
first (Dip e) = Ok (begun e)
first (Rot e) = Err Kind
first (Ixn e) = Err Kind
first (Drt e) = Err Kind
first (Rct e) = Err Kind

-- the state after one more event, or the first rule that it breaks
unfoldable pub after : State → Event → Result State Misfit
after s e = ok_unless (misfit s e) (moved s e)

-- a fault is the misfit that there is; want of memory may come with any answer
abbrev pub IsCauseIn : Result State Misfit → StateFault → Type 0
IsCauseIn answer (IsMisfit misfit) = answer ≡ Err misfit
IsCauseIn answer OutOfMemory = Unit {0}
