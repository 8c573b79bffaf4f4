-- A set of the parts of a body tells whether the body is signed and backed.
use Rattle.std.proofs.Common.{◌≡◌, ℕ, zero, suc, ◌+◌, ◌≤◌, ◌<◌, Bool, true, false, ◌&&◌, ◌||◌, not, nat_le, List, [], ◌∷◌, ◌++◌, length, map, cond, take, slice_get, Option, Some, None, refl, sym, ◌∙◌, ap, arith, inl, inr, add-one}
use Rattle.std.specs.Prelude.{filter, filter_map}
use Rattle.std.specs.List.{list_any, list_all}
use Rattle.std.proofs.lemmas.Bool.{cases_Bool, and_parts, and_from, not-true, not_from_false}
use Rattle.std.proofs.lemmas.List.{length-append, take_all}
use Rattle.std.proofs.lemmas.List.Elements.{filter-append}
use Rattle.cesr_codes.specs.declared.key.Key.{Key}
use Rattle.event_body.specs.declared.event_body.event.Event.{Event}
use Rattle.event_body.specs.declared.event_body.event.Event.TheVariants.{Icp, Rot, Ixn, Dip, Drt, Rct}
use Rattle.event_body.specs.EventBody.Events.{prefix_of, is_rotation}
use Rattle.sith.specs.Tests.{satisfied}
use Rattle.key_state.specs.Exposure.{Rules, own_rules, exposed, opens, numbers_below}
use Rattle.key_state.specs.Same.{same_key, has_key, distinct, is_fixed, are_witnesses}
use Rattle.key_state.specs.States.{State}
use Rattle.key_state.proofs.Same.{same_key_is, same_key_itself}
use Rattle.journal.specs.declared.journal.body.Body.{Body}
use Rattle.journal.specs.declared.journal.claim.Claim.{Claim}
use Rattle.journal.specs.Journal.Logs.{state}
use Rattle.journal.specs.Journal.History.{Told, claims_on, claimed_key, triple_of}
use Rattle.journal.specs.Journal.Readiness.{is_ready, is_backed, signed, good_sigs, held_sig, meets_next, yes_to, backs, backers}
use Rattle.journal.proofs.JournalLemmas.Apart.{filter-all}
use Rattle.journal.proofs.JournalLemmas.Same.{turned}
use Rattle.journal.specs.EventRules.Claims.{is_good, is_held_so}
use Rattle.key_state.proofs.Numbers.{filter_below, none_below}
use Rattle.claim_table.proofs.CoreLawsLemmas.Below.{same_satisfied}
use Rattle.claim_table.proofs.CoreLawsLemmas.GoodSigs.{any_good, good, places_are}
use Rattle.journal.specs.EventRules.Claims.{is_so}
use Rattle.journal.specs.EventRules.Parts.{says_of, opens_at, supports, has_own, has_next, has_signed, has_backed}
use Rattle.claim_table.specs.CoreLaws.Support.{AreSound, SupportLaw, ReadyLaw}

-- the good signatures of a body are those of its claims by what verifiers say
yes_is : (told : List Told) (rules : Rules) (b : Body) (c : Claim) → is_good (says_of told b) rules c ≡ yes_to told (triple_of rules b c)
yes_is told rules b c = elim (claimed_key rules c) as (λ k. claimed_key rules c ≡ k → is_good (says_of told b) rules c ≡ yes_to told (triple_of rules b c)) [
  | None ↦ (λ e. rw e refl)
  | Some key ↦ (λ e. rw e refl)
] refl

pub good_is : (told : List Told) (s : Option State) (b : Body) → good_sigs told s b ≡ good (says_of told b) (own_rules s b.event) (claims_on told b)
unfolding good good_sigs
good_is told s b = ap (λ test. filter_map held_sig (filter test (claims_on told b))) (λ i c. sym (yes_is told (own_rules s b.event) b c) i)

-- a threshold is met by the indices, where it is by the parts
pub own_is : (told : List Told) (s : Option State) (b : Body) → AreSound (own_rules s b.event)
    → satisfied (own_rules s b.event).kt (length (own_rules s b.event).keys) (map (λ g. g.index) (good_sigs told s b)) ≡ has_own (supports told s b) (own_rules s b.event)
unfolding supports
own_is told s b sound =
    let rules = own_rules s b.event in
    let says = says_of told b in
    ap (λ sigs. satisfied rules.kt (length rules.keys) (map (λ g. g.index) sigs)) (good_is told s b)
    ∙ sym (same_satisfied _ _ rules.kt (length rules.keys) sound.kt_read (places_are says rules (claims_on told b) (length rules.keys)))

-- what opens by the signatures, opens by the parts
pub next_is : (told : List Told) (s : Option State) (b : Body) (e : Event) → b.event ≡ e
    → (not (is_rotation e) || meets_next s e (good_sigs told s b)) ≡ (not (is_rotation e) || has_next (supports told s b) s)
unfolding supports exposed
next_is told None b e is = refl
next_is told (Some s) b (Icp e) is = refl
next_is told (Some s) b (Dip e) is = refl
next_is told (Some s) b (Ixn e) is = refl
next_is told (Some s) b (Rct e) is = refl
next_is told (Some s) b (Rot e) is =
    let rules = own_rules (Some s) b.event in
    let each : (n : ℕ) → list_any (opens s.next e.keys n) (good_sigs told (Some s) b) ≡ list_any (is_held_so (says_of told b) rules (opens_at (Some s) b.event n)) (claims_on told b)
    = λ n. ap (list_any (opens s.next e.keys n)) (good_is told (Some s) b) ∙ sym (any_good (says_of told b) rules (opens s.next e.keys n) (claims_on told b))
    ∙ ap (λ f. list_any (is_held_so (says_of told b) rules (opens_at (Some s) f n)) (claims_on told b)) (sym is) in
    ap (λ test. satisfied s.nt (length s.next) (filter test (numbers_below (length s.next)))) (λ i n. each n i)
next_is told (Some s) b (Drt e) is =
    let rules = own_rules (Some s) b.event in
    let each : (n : ℕ) → list_any (opens s.next e.keys n) (good_sigs told (Some s) b) ≡ list_any (is_held_so (says_of told b) rules (opens_at (Some s) b.event n)) (claims_on told b)
    = λ n. ap (list_any (opens s.next e.keys n)) (good_is told (Some s) b) ∙ sym (any_good (says_of told b) rules (opens s.next e.keys n) (claims_on told b))
    ∙ ap (λ f. list_any (is_held_so (says_of told b) rules (opens_at (Some s) f n)) (claims_on told b)) (sym is) in
    ap (λ test. satisfied s.nt (length s.next) (filter test (numbers_below (length s.next)))) (λ i n. each n i)

-- witnesses stand once
apart : (k : Key) (keys : List Key) → has_key keys k ≡ false → list_all (λ l. not (same_key k l)) keys ≡ true
apart k [] h = refl
apart k (l ∷ keys) h = elim (cases_Bool (same_key l k)) [
  | inl y ↦ (let some : true ≡ false = rw y at h in cc)
  | inr n ↦ (let later : has_key keys k ≡ false = rw n at h in
      let other : same_key k l ≡ false = turned same_key same_key_is same_key_itself k l ∙ n in
      and_from _ _ (not_from_false _ other) (apart k keys later))
]

distinct_all : (keys : List Key) → are_witnesses keys ≡ true → distinct same_key keys ≡ keys
unfolding distinct
distinct_all [] h = refl
distinct_all (k ∷ keys) h =
    let parts = and_parts (is_fixed k.code && not (has_key keys k)) (are_witnesses keys) h in
    let new = not-true _ (and_parts (is_fixed k.code) (not (has_key keys k)) parts.0).1 in
    let ih = distinct_all keys parts.1 in
    ap (λ ks. k ∷ filter (λ l. not (same_key k l)) ks) ih ∙ ap (λ ks. k ∷ ks) (filter-all (λ l. not (same_key k l)) keys (apart k keys new))

-- those that pass are as many as their places
one_length : (passes : Bool) (n : ℕ) → length (cond passes (n ∷ []) []) ≡ cond passes 1 0
one_length true n = refl
one_length false n = refl

last_length : (test : Key → Bool) (k : Key) → length (filter test (k ∷ [])) ≡ cond (test k) 1 0
last_length test k = elim (cases_Bool (test k)) [ inl y ↦ rw y refl | inr n ↦ rw n refl ]

-- the first so many, and one more
first_more : (keys : List Key) (n : ℕ) (key : Key) → slice_get keys n ≡ Some key → take (n + 1) keys ≡ take n keys ++ key ∷ []
first_more keys n key at = ap (λ k. take k keys) (add-one n) ∙ next keys n at
  where
    next : (keys : List Key) (n : ℕ) → slice_get keys n ≡ Some key → take (suc n) keys ≡ take n keys ++ key ∷ []
    next [] n at = cc
    next (k ∷ keys) zero at = let same : k ≡ key = cc in ap (λ k. k ∷ []) same
    next (k ∷ keys) (suc n) at = ap (λ ks. k ∷ ks) (next keys n at)

never : (keys : List Key) (n : ℕ) → slice_get keys n ≡ None → n < length keys → ⊥
never [] n at inside = absurd (omega (arith, inside))
never (k ∷ keys) zero at inside = cc
never (k ∷ keys) (suc n) at inside = never keys n at (omega (arith, inside))

places_length : (test : Key → Bool) (keys : List Key) (n : ℕ) → n ≤ length keys
    → length (filter (λ m. is_so test (slice_get keys m)) (numbers_below n)) ≡ length (filter test (take n keys))
places_length test keys zero h = rw none_below refl
places_length test keys (suc n) h = by (slice_get keys n) refl (places_length test keys n (omega (arith, h)))
  where
    by : (o : Option Key) → slice_get keys n ≡ o → length (filter (λ m. is_so test (slice_get keys m)) (numbers_below n)) ≡ length (filter test (take n keys))
        → length (filter (λ m. is_so test (slice_get keys m)) (numbers_below (suc n))) ≡ length (filter test (take (suc n) keys))
    by None at ih = absurd (never keys n at (omega (arith, h)))
    by (Some k) at ih =
        ap (λ m. length (filter (λ m. is_so test (slice_get keys m)) (numbers_below m))) (sym (add-one n))
        ∙ ap length (filter_below (λ m. is_so test (slice_get keys m)) n)
        ∙ length-append (filter (λ m. is_so test (slice_get keys m)) (numbers_below n)) (cond (is_so test (slice_get keys n)) (n ∷ []) [])
        ∙ ap (λ l. length (filter (λ m. is_so test (slice_get keys m)) (numbers_below n)) + l) (one_length (is_so test (slice_get keys n)) n ∙ ap (λ o. cond (is_so test o) 1 0) at)
        ∙ ap (λ l. l + cond (test k) 1 0) ih
        ∙ ap (λ l. length (filter test (take n keys)) + l) (sym (last_length test k))
        ∙ sym (length-append (filter test (take n keys)) (filter test (k ∷ [])))
        ∙ ap length (sym (filter-append test (take n keys) (k ∷ [])))
        ∙ ap (λ ks. length (filter test ks)) (sym (first_more keys n k at))
        ∙ ap (λ m. length (filter test (take m keys))) (add-one n)

backed_is : (told : List Told) (s : Option State) (b : Body) → AreSound (own_rules s b.event) → is_backed told s b ≡ has_backed (supports told s b) (own_rules s b.event)
unfolding supports backers
backed_is told s b sound =
    let rules = own_rules s b.event in
    ap (λ ks. nat_le rules.toad (length (filter (backs told b) ks))) (distinct_all rules.witnesses sound.witnesses)
    ∙ ap (λ ks. nat_le rules.toad (length (filter (backs told b) ks))) (sym (take_all (length rules.witnesses) rules.witnesses (omega arith)))
    ∙ ap (nat_le rules.toad) (sym (places_length (backs told b) rules.witnesses (length rules.witnesses) (omega arith)))

-- ENOUGH
pub enough : SupportLaw
unfolding signed
enough told s b has sound same =
    let are : has ≡ supports told s b = λ i p. same p i in
    let own = own_is told s b sound in
    let next = next_is told s b b.event refl in
    ((λ i. own i && next i) ∙ ap (λ has. has_signed has s b.event) (sym are), backed_is told s b sound ∙ ap (λ has. has_backed has (own_rules s b.event)) (sym are))

-- READY
pub ready_is : ReadyLaw
unfolding is_ready
ready_is mode told log b has sound same =
    let both = enough told (state log (prefix_of b.event)) b has sound same in
    let first = both.0 in
    let second = both.1 in
    rw (first, second) refl
