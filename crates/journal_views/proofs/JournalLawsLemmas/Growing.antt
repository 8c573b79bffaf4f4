-- What makes an event ready is kept when good signatures, verdicts, seals and events come.
use Rattle.std.proofs.Common.{◌≡◌, ℕ, ◌≤◌, Bool, true, false, not, ◌&&◌, ◌==◌, List, [], ◌∷◌, length, map, Option, Some, None, refl, sym, ◌∙◌, arith, inl, inr}
use Rattle.std.specs.Prelude.{filter}
use Rattle.std.specs.List.{list_any}
use Rattle.std.proofs.lemmas.Bool.{cases_Bool, and_parts, and_from, or_left, or_right, or_cases, not-true, not_from_false, leb-true}
use Rattle.std.proofs.lemmas.Bool.Decides.{nat_tests}
use Rattle.std.proofs.lemmas.List.Sums.{length-filter}
use Rattle.cesr_codes.specs.declared.indexed_sig.IndexedSig.{IndexedSig}
use Rattle.cesr_codes.specs.declared.key.Key.{Key}
use Rattle.cesr_codes.specs.declared.prefix.Prefix.{Prefix}
use Rattle.event_body.specs.declared.event_body.event.Event.{Event}
use Rattle.event_body.specs.declared.event_body.event.Event.TheVariants.{Icp, Rot, Ixn, Dip, Drt, Rct}
use Rattle.event_body.specs.EventBody.Events.{is_rotation, is_inception, is_delegated}
use Rattle.key_state.specs.Exposure.{exposed, opens, own_rules, numbers_below}
use Rattle.key_state.specs.Same.{same_key, distinct}
use Rattle.key_state.specs.States.{State}
use Rattle.journal.specs.declared.journal.body.Body.{Body}
use Rattle.journal.specs.declared.journal.claim.Claim.{Claim}
use Rattle.journal.specs.Journal.History.{Told, claims_on, triple_of}
use Rattle.journal.specs.Journal.Readiness.{backers, backs, good_sigs, held_sig, is_backed, meets_before, meets_next, meets_own, signed, yes_to}
use Rattle.journal.specs.Journal.Seals.{anchored, delegator_of, forbids, has_trait, is_sealed}
use Rattle.quorum_laws.proofs.Counting.{count_by-number, number-le}
use Rattle.key_state.proofs.Among.{Among, among_filter_map, among_left_by, filter_map_among, left_among, passed, passing}
use Rattle.sith.proofs.More.{AreAmong, is_among, more_left, more_satisfied}

-- each signature of the first is one of the second
abbrev pub AreMore : List IndexedSig → List IndexedSig → Type 0
AreMore xs ys = (s : IndexedSig) → Among s xs → Among s ys

module _ (xs ys : List IndexedSig) (more : AreMore xs ys) where
  more_pass : (test : IndexedSig → Bool) → list_any test xs ≡ true → list_any test ys ≡ true
  more_pass test h = let p = passing test xs h in passed test ys p.0 (more p.0 p.1) p.2

  index_any : (sigs : List IndexedSig) (n : ℕ) → is_among (map (λ g. g.index) sigs) n ≡ list_any (λ g. g.index == n) sigs
  index_any [] n = refl
  index_any (s ∷ sigs) n = let ih = index_any sigs n in rw ih refl

  pub more_indices : AreAmong (map (λ g. g.index) xs) (map (λ g. g.index) ys)
  more_indices n h = index_any ys n ∙ more_pass (λ g. g.index == n) (sym (index_any xs n) ∙ h)

  pub more_exposed : (s : State) (e : Event) → AreAmong (exposed s e xs) (exposed s e ys)
  unfolding exposed
  more_exposed s (Rot e) = more_left (λ j. list_any (opens s.next e.keys j) xs) (λ j. list_any (opens s.next e.keys j) ys) (λ j h. more_pass (opens s.next e.keys j) h) (numbers_below (length s.next))
  more_exposed s (Drt e) = more_left (λ j. list_any (opens s.next e.keys j) xs) (λ j. list_any (opens s.next e.keys j) ys) (λ j h. more_pass (opens s.next e.keys j) h) (numbers_below (length s.next))
  more_exposed s (Icp e) = λ n h. h
  more_exposed s (Ixn e) = λ n h. h
  more_exposed s (Dip e) = λ n h. h
  more_exposed s (Rct e) = λ n h. h

  pub more_next : (s : Option State) (e : Event) → meets_next s e xs ≡ true → meets_next s e ys ≡ true
  more_next None e h = h
  more_next (Some s) e h = more_satisfied (exposed s e xs) (exposed s e ys) (more_exposed s e) s.nt (length s.next) h

-- the good claims of the first are claims of the second, and good there
abbrev pub GoodCome : List Told → List Told → Option State → Body → Type 0
GoodCome told other s b = (c : Claim) → Among c (claims_on told b) → yes_to told (triple_of (own_rules s b.event) b c) ≡ true
    → Among c (claims_on other b) × (yes_to other (triple_of (own_rules s b.event) b c) ≡ true)

-- each key that backs it in the first does in the second
abbrev pub BackersCome : List Told → List Told → Body → Type 0
BackersCome told other b = (w : Key) → backs told b w ≡ true → backs other b w ≡ true

module _ (told other : List Told) (s : Option State) (b : Body) where
  more_good : GoodCome told other s b → AreMore (good_sigs told s b) (good_sigs other s b)
  unfolding good_sigs
  more_good come g m =
      let good : Claim → Bool = λ c. yes_to told (triple_of (own_rules s b.event) b c) in
      let good' : Claim → Bool = λ c. yes_to other (triple_of (own_rules s b.event) b c) in
      let f = filter_map_among held_sig (filter good (claims_on told b)) g m in
      let l = left_among good (claims_on told b) f.0 f.1 in
      let there = come f.0 l.0 l.1 in
      among_filter_map held_sig (filter good' (claims_on other b)) f.0 g (among_left_by good' (claims_on other b) f.0 there.0 there.1) f.2

  pub own_more : GoodCome told other s b → meets_own told s b ≡ true → meets_own other s b ≡ true
  own_more come h = more_satisfied _ _ (more_indices (good_sigs told s b) (good_sigs other s b) (more_good come)) (own_rules s b.event).kt (length (own_rules s b.event).keys) h

  pub before_more : GoodCome told other s b → meets_before told s b ≡ true → meets_before other s b ≡ true
  before_more come h = elim (or_cases (not (is_rotation b.event)) (meets_next s b.event (good_sigs told s b)) h) [
    | inl k ↦ or_left _ _ k
    | inr k ↦ or_right _ _ (more_next (good_sigs told s b) (good_sigs other s b) (more_good come) s b.event k)
  ]

  -- SIGNED: it stays signed
  pub signed_more : GoodCome told other s b → signed told s b ≡ true → signed other s b ≡ true
  unfolding signed
  signed_more come h = let p = and_parts (meets_own told s b) (meets_before told s b) h in and_from _ _ (own_more come p.0) (before_more come p.1)

  more_backers : BackersCome told other b → (ws : List Key) → length (filter (backs told b) ws) ≤ length (filter (backs other b) ws)
  more_backers come ws = omega (
    arith,
    length-filter (backs told b) ws,
    length-filter (backs other b) ws,
    count_by-number (backs told b) ws,
    count_by-number (backs other b) ws,
    number-le (backs told b) (backs other b) come ws,
  )

  -- BACKED: and backed
  pub backed_more : BackersCome told other b → is_backed told s b ≡ true → is_backed other s b ≡ true
  unfolding backers
  backed_more come h =
      let ws = distinct same_key (own_rules s b.event).witnesses in
      let more = more_backers come ws in
      let enough = leb-true (own_rules s b.event).toad (length (filter (backs told b) ws)) h in
      grind (arith, nat_tests, more, enough)

-- an inception alone has traits
pub traits_first : (name : List ℕ) (e : Event) → has_trait name e ≡ true → is_inception e ≡ true
traits_first name (Icp e) h = refl
traits_first name (Dip e) h = refl
traits_first name (Rot e) h = cc
traits_first name (Ixn e) h = cc
traits_first name (Drt e) h = cc
traits_first name (Rct e) h = cc

-- ANCHORED: it stays so, where its seals come and no delegator forbids it that didn't before
pub anchored_more : (log other : List Body) (s : Option State) (e : Event)
    → ((d : Prefix) → delegator_of s e ≡ Some d → is_sealed log d e ≡ true → forbids log d ≡ false → (is_sealed other d e ≡ true) × (forbids other d ≡ false))
    → anchored log s e ≡ true → anchored other s e ≡ true
unfolding anchored
anchored_more log other s e come h = elim (cases_Bool (is_delegated e)) [
  | inr k ↦ rw k refl
  | inl k ↦ elim (delegator_of s e) as (λ o. delegator_of s e ≡ o → anchored other s e ≡ true) [
    | None ↦ (λ n. let no : false ≡ true = rw (k, n) at h in cc)
    | Some d ↦ (λ n.
        let here : (is_sealed log d e && not (forbids log d)) ≡ true = rw (k, n) at h in
        let p = and_parts (is_sealed log d e) (not (forbids log d)) here in
        let there = come d n p.0 (not-true _ p.1) in
        let both : (is_sealed other d e && not (forbids other d)) ≡ true = and_from _ _ there.0 (not_from_false _ there.1) in
        rw (k, n) both)
  ] refl
]
