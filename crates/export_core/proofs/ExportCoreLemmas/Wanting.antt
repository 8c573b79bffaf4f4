-- The threshold of each accepted event wants a signature: it is read for the event's own keys, or for those of its identifier's
-- state, of which there is one.
use Rattle.std.proofs.Common.{◌≡◌, ◌≢◌, ℕ, ◌<◌, false, List, [], ◌∷◌, Option, Some, None, is_none, length, refl, arith, inl, inr}
use Rattle.std.specs.Prelude.{All, filter, fold}
use Rattle.std.proofs.lemmas.Bool.{cases_Bool}
use Rattle.std.proofs.lemmas.List.Elements.{All-cons, All-filter, All-head, All-nil, All-tail}
use Rattle.validator_core.specs.Acceptance.Standing.{IsHeld}
use Rattle.cesr_codes.specs.declared.key.Key.{Key}
use Rattle.cesr_codes.specs.declared.prefix.Prefix.{Prefix}
use Rattle.event_body.specs.declared.event_body.event.Event.{Event}
use Rattle.event_body.specs.declared.event_body.event.Event.TheVariants.{Icp, Rot, Ixn, Dip, Drt, Rct}
use Rattle.event_body.specs.EventBody.Events.{prefix_of}
use Rattle.event_body.specs.EventBody.Judging.{SpellsEvent}
use Rattle.event_body.proofs.EventBodyLemmas.Keeping.{kept}
use Rattle.export_core.specs.ExportLaws.Export.{rules_under}
use Rattle.export_core.proofs.ExportLawsLemmas.Wants.{wants}
use Rattle.journal.specs.declared.journal.body.Body.{Body}
use Rattle.journal.specs.Journal.Logs.{before, is_of, same_body, state, stepped}
use Rattle.key_state.specs.Exposure.{Rules, own_rules, rules_of}
use Rattle.key_state.specs.KeyStates.{misfit, moved}
use Rattle.key_state.specs.States.{State}
use Rattle.sith.specs.declared.threshold.Threshold.{Threshold}
use Rattle.sith.specs.Rules.{IsReadFor}
use Rattle.sith.specs.Tests.{satisfied}

-- the threshold of the keys isn't met by no signature
abbrev pub WantsSome : Rules → Type 0
WantsSome rules = satisfied rules.kt (length rules.keys) [] ≡ false

some_long : (keys : List Key) → keys ≢ [] → 0 < length keys
some_long [] some = absurd (some refl)
some_long (k ∷ keys) some = omega arith

by_keys : (kt : Threshold) (keys : List Key) → IsReadFor kt (length keys) → keys ≢ [] → satisfied kt (length keys) [] ≡ false
by_keys kt keys read some = wants kt (length keys) read (some_long keys some)

-- an event that bytes spell has its own keys, or those of the state
own_wants : (s : Option State) (e : Event) (bytes : List ℕ) → SpellsEvent e bytes
    → WantsSome (rules_of s) → WantsSome (own_rules s e)
own_wants s (Icp e) bytes spells h = (let k = (kept (Icp e) bytes spells).0 in
    by_keys e.kt e.keys k.ranges.kt_read k.some_keys)
own_wants s (Dip e) bytes spells h = (let k = (kept (Dip e) bytes spells).0 in
    by_keys e.kt e.keys k.ranges.kt_read k.some_keys)
own_wants s (Rot e) bytes spells h = (let k = kept (Rot e) bytes spells in
    by_keys e.kt e.keys k.ranges.kt_read k.some_keys)
own_wants s (Drt e) bytes spells h = (let k = kept (Drt e) bytes spells in
    by_keys e.kt e.keys k.ranges.kt_read k.some_keys)
own_wants s (Ixn e) bytes spells h = h
own_wants s (Rct e) bytes spells h = h

moved_wants : (s : State) (e : Event) (bytes : List ℕ) → SpellsEvent e bytes
    → WantsSome (rules_of (Some s)) → WantsSome (rules_of (Some (moved s e)))
moved_wants s (Rot e) bytes spells h = own_wants (Some s) (Rot e) bytes spells h
moved_wants s (Drt e) bytes spells h = own_wants (Some s) (Drt e) bytes spells h
moved_wants s (Icp e) bytes spells h = h
moved_wants s (Dip e) bytes spells h = h
moved_wants s (Ixn e) bytes spells h = h
moved_wants s (Rct e) bytes spells h = h

-- without a state one signature is wanted
none_wants : WantsSome (rules_of None)
unfolding satisfied
none_wants = refl

stepped_wants : (s : Option State) (e : Event) (bytes : List ℕ) → SpellsEvent e bytes
    → WantsSome (rules_of s) → WantsSome (rules_of (stepped s e))
stepped_wants None (Icp e) bytes spells h = own_wants None (Icp e) bytes spells h
stepped_wants None (Dip e) bytes spells h = own_wants None (Dip e) bytes spells h
stepped_wants None (Rot e) bytes spells h = h
stepped_wants None (Ixn e) bytes spells h = h
stepped_wants None (Drt e) bytes spells h = h
stepped_wants None (Rct e) bytes spells h = h
stepped_wants (Some s) e bytes spells h = elim (cases_Bool (is_none (misfit s e))) [
  | inl k ↦ rw k (moved_wants s e bytes spells h)
  | inr k ↦ rw k h
]

folded_wants : (s : Option State) (bs : List Body) → All IsHeld bs
    → WantsSome (rules_of s) → WantsSome (rules_of (fold (λ s b. stepped s b.event) s bs))
folded_wants s [] held h = h
folded_wants s (b ∷ bs) held h =
    folded_wants (stepped s b.event) bs (All-tail IsHeld b bs held) (stepped_wants s b.event b.bytes (All-head IsHeld b bs held).spelled h)

state_wants : (log : List Body) (prefix : Prefix) → All IsHeld log → WantsSome (rules_of (state log prefix))
unfolding state
state_wants log prefix held = folded_wants None (filter (is_of prefix) log) (All-filter (is_of prefix) IsHeld log held) none_wants

before_held : (b : Body) (log : List Body) → All IsHeld log → All IsHeld (before b log)
unfolding before
before_held b [] held = All-nil IsHeld
before_held b (c ∷ log) held = elim (cases_Bool (same_body c b)) [
  | inl k ↦ rw k (All-nil IsHeld)
  | inr k ↦ (let later = before_held b log (All-tail IsHeld c log held) in
      rw k (All-cons IsHeld c (before b log) (All-head IsHeld c log held) later))
]

-- WANTED: an event of a list of bodies that spell their events wants a signature by its rules there
pub wanted : (log : List Body) (b : Body) → All IsHeld log → IsHeld b → WantsSome (rules_under log b)
wanted log b held its =
    let before_it = state_wants (before b log) (prefix_of b.event) (before_held b log held) in
    own_wants (state (before b log) (prefix_of b.event)) b.event b.bytes its.spelled before_it
