-- Numbers in order, and their bodies.
use Rattle.std.proofs.Common.{◌≡◌, ℕ, ◌<◌, true, false, List, [], ◌∷◌, length, Some, refl, sym, ◌∙◌, ap, get_or, Ordering, arith}
use Rattle.std.proofs.lemmas.Bool.Decides.{nat_tests}
use Rattle.std.specs.Prelude.{All, AllPairs, Contains, slice_get, map, bytes_eq, ◌↔◌}
use Rattle.std.specs.List.Sorted.{IsStrictlySortedBy}
use Rattle.std.specs.declared.cmp.Ordering.TheVariants.{Less, Equal, Greater}
use Rattle.std.specs.Ordering.{nat_cmp, is_eq, is_ne, ordering_then}
use Rattle.std.proofs.lemmas.List.{get_or-map, length-map}
use Rattle.std.proofs.lemmas.List.Elements.{All-from_recursion, All-head, All-nil, All-tail, Contains-get_or}
use Rattle.std.proofs.lemmas.List.Kept.{AllPairs-cons}
use Rattle.std.proofs.lemmas.Map.Text.{is_eq-slice_cmp}
use Rattle.std.proofs.lemmas.Option.{get_or_from_slice_get, slice_get-get_or, slice_get_within}
use Rattle.event_body.specs.declared.event_body.event.Event.{Event}
use Rattle.journal.specs.declared.journal.body.Body.{Body}
use Rattle.journal.specs.Journal.Conflicts.{AreConflicts, place_cmp, text_cmp}
use Rattle.journal.specs.Journal.Journals.{chosen}
use Rattle.journal.proofs.JournalLemmas.Places.{some_at}
use Rattle.journal_views.specs.JournalViews.Groups.{cut}
use Rattle.journal_views.specs.JournalViews.Rankings.{body_cmp, event_cmp, number_cmp, number_place}
use Rattle.journal_views.proofs.JournalViewsLemmas.Bodies.{told-of, event-of, places}
use Rattle.journal_views.proofs.JournalViewsLemmas.Cuts.{All-cut, cut-end, cut-map}
use Rattle.journal_views.proofs.JournalViewsLemmas.Rivals.{conflicts-cut, conflicts-same, of_none}

-- each of a list in order comes before those behind it
pub pairs : {X : Type 0} (cmp : X → X → Ordering) (xs : List X) → IsStrictlySortedBy cmp xs → AllPairs (λ x y. cmp x y ≡ Less) xs
unfolding IsStrictlySortedBy
pairs cmp [] sorted = λ i j d lt h. absurd (omega (arith, h))
pairs cmp (x ∷ xs) sorted = AllPairs-cons (λ x y. cmp x y ≡ Less) x xs (All-from_recursion (λ y. cmp x y ≡ Less) xs sorted.0) (pairs cmp xs sorted.1)

-- the same elements, and what is told of them
same-map : {X : Type 0} (f : ℕ → X) (xs ys : List ℕ) → ((n : ℕ) → Contains xs n → Contains ys n) → (x : X) → Contains (map f xs) x → Contains (map f ys) x
same-map f xs ys within x (k, h, is) =
    let here : k < length xs = omega (arith, h, length-map xs f) in
    let there = within (get_or xs k 0) (Contains-get_or xs k 0 here) in
    let same : f (get_or ys there.0 (get_or xs k 0)) ≡ x = ap f there.2 ∙ sym (get_or-map f xs k 0 x here) ∙ is in
    (there.0, omega (arith, there.1, length-map ys f), get_or-map f ys there.0 (get_or xs k 0) x there.1 ∙ same)

-- bodies by the lists of their bytes and of their events, whose bytes differ
module _ (held : List Body) (bodies : List (List ℕ)) (events : List Event) (bytes_are : map (λ b. b.bytes) held ≡ bodies)
    (events_are : map (λ b. b.event) held ≡ events) (differ : AllPairs (λ x y. bytes_eq x y ≡ false) bodies) where
  abbrev IsHeld : ℕ → Type 0
  IsHeld n = n < length held

  -- bodies of the same bytes stand at no two places
  apart : (m n : ℕ) (b c : Body) → slice_get held m ≡ Some b → slice_get held n ≡ Some c → m < n → bytes_eq b.bytes c.bytes ≡ false
  apart m n b c at_b at_c below =
      let to_b = told-of (λ b. b.bytes) held bodies bytes_are m b at_b in
      let to_c = told-of (λ b. b.bytes) held bodies bytes_are n c at_c in
      let other = differ m n [] below (slice_get_within bodies n c.bytes to_c) in
      rw (get_or_from_slice_get bodies m b.bytes [] to_b, get_or_from_slice_get bodies n c.bytes [] to_c) at other

  by_parts : (m n : ℕ) (b c : Body) → slice_get held m ≡ Some b → slice_get held n ≡ Some c
      → ordering_then (ordering_then (ordering_then (event_cmp b.event c.event) Equal) (ordering_then (text_cmp b.bytes c.bytes) Equal)) (nat_cmp m n) ≡ number_cmp bodies events m n
  unfolding number_cmp
  by_parts m n b c at_b at_c =
      let b_event = event-of held events events_are m b at_b in
      let c_event = event-of held events events_are n c at_c in
      let b_bytes = told-of (λ b. b.bytes) held bodies bytes_are m b at_b in
      let c_bytes = told-of (λ b. b.bytes) held bodies bytes_are n c at_c in
      rw (b_event, c_event, b_bytes, c_bytes) refl

  -- numbers in order have bodies in order
  order_is : (m n : ℕ) (b c : Body) → slice_get held m ≡ Some b → slice_get held n ≡ Some c → number_cmp bodies events m n ≡ Less → body_cmp b c ≡ Less
  order_is m n b c at_b at_c less =
      ap (λ o. ordering_then o (text_cmp b.bytes c.bytes)) (places b c) ∙ by (event_cmp b.event c.event) (text_cmp b.bytes c.bytes) refl (by_parts m n b c at_b at_c ∙ less)
    where
      below : nat_cmp m n ≡ Less → m < n
      below e = grind (arith, nat_tests)

      by : (o t : Ordering) → text_cmp b.bytes c.bytes ≡ t → ordering_then (ordering_then (ordering_then o Equal) (ordering_then t Equal)) (nat_cmp m n) ≡ Less
          → ordering_then o t ≡ Less
      by Less t e h = refl
      by Equal Less e h = refl
      by Equal Equal e h =
          let other = apart m n b c at_b at_c (below h) in
          let same : bytes_eq b.bytes c.bytes ≡ true = sym (is_eq-slice_cmp b.bytes c.bytes) ∙ ap is_eq e in cc
      by Equal Greater e h = cc
      by Greater t e h = cc

  chosen-none : chosen held [] ≡ []
  unfolding chosen
  chosen-none = refl

  module _ (d : Body) where
    abbrev body : ℕ → Body
    body n = get_or held n d

    chosen-map : (numbers : List ℕ) → All IsHeld numbers → chosen held numbers ≡ map body numbers
    unfolding chosen
    chosen-map [] all = refl
    chosen-map (n ∷ numbers) all =
        let at = slice_get-get_or held n d (All-head IsHeld n numbers all) in
        rw at (ap (λ bs. body n ∷ bs) (chosen-map numbers (All-tail IsHeld n numbers all)))

    chosen-sets : (sets : List (List ℕ)) → All (All IsHeld) sets → map (chosen held) sets ≡ map (map body) sets
    chosen-sets [] all = refl
    chosen-sets (set ∷ sets) all =
        ap (λ bs. bs ∷ map (chosen held) sets) (chosen-map set (All-head (All IsHeld) set sets all))
        ∙ ap (λ ss. map body set ∷ ss) (chosen-sets sets (All-tail (All IsHeld) set sets all))

    place-is : (m n : ℕ) → IsHeld m → IsHeld n → is_ne (place_cmp (body m) (body n)) ≡ is_ne (number_place events m n)
    place-is m n of_m of_n =
        let first = event-of held events events_are m (body m) (slice_get-get_or held m d of_m) in
        let second = event-of held events events_are n (body n) (slice_get-get_or held n d of_n) in
        rw (first, second) (ap is_ne (places (body m) (body n)) ∙ alone (event_cmp (body m).event (body n).event))
      where
        alone : (o : Ordering) → is_ne o ≡ is_ne (ordering_then o Equal)
        alone Less = refl
        alone Equal = refl
        alone Greater = refl

    bodies-rise : (numbers : List ℕ) → All IsHeld numbers → AllPairs (λ m n. number_cmp bodies events m n ≡ Less) numbers → AllPairs (λ b c. body_cmp b c ≡ Less) (map body numbers)
    bodies-rise numbers all rising = λ i j e lt h.
        let inside : j < length numbers = omega (arith, h, length-map numbers body) in
        let before : i < length numbers = omega (arith, lt, inside) in
        let m = get_or numbers i 0 in
        let n = get_or numbers j 0 in
        rw (get_or-map body numbers i 0 e before, get_or-map body numbers j 0 e inside)
        (order_is m n (body m) (body n) (slice_get-get_or held m d (all i 0 before)) (slice_get-get_or held n d (all j 0 inside)) (rising i j 0 lt inside))

    conflicts-in : (numbers counted : List ℕ) → All IsHeld numbers → All IsHeld counted → ((n : ℕ) → Contains numbers n ↔ Contains counted n)
        → AllPairs (λ m n. number_cmp bodies events m n ≡ Less) numbers
        → AreConflicts (chosen held counted) (map (chosen held) (cut (number_place events) [] numbers))
    conflicts-in numbers counted of_numbers of_counted same rising =
        let sets = chosen-sets (cut (number_place events) [] numbers) (All-cut (number_place events) IsHeld [] numbers (All-nil IsHeld) of_numbers)
        ∙ cut-map body (number_place events) place_cmp IsHeld place-is [] numbers (All-nil IsHeld) of_numbers in
        rw (sets, chosen-map counted of_counted) (conflicts-same (map body numbers) (map body counted) (cut place_cmp [] (map body numbers))
        (same-map body numbers counted (λ n. (same n).0)) (same-map body counted numbers (λ n. (same n).1))
        (conflicts-cut [] (map body numbers) (λ b (k, h, is). absurd (omega (arith, h))) (λ i j d lt h. absurd (omega (arith, h)))
        (λ b c (k, h, is) of_c. absurd (omega (arith, h))) (bodies-rise numbers of_numbers rising)))

  -- CONFLICTS: the numbers in order, cut where the place changes
  pub conflicts-of : (numbers counted : List ℕ) → All IsHeld numbers → All IsHeld counted → ((n : ℕ) → Contains numbers n ↔ Contains counted n)
      → AllPairs (λ m n. number_cmp bodies events m n ≡ Less) numbers
      → AreConflicts (chosen held counted) (map (chosen held) (cut (number_place events) [] numbers))
  conflicts-of (n ∷ numbers) counted of_numbers of_counted same rising =
      conflicts-in (some_at held n (All-head IsHeld n numbers of_numbers)).0 (n ∷ numbers) counted of_numbers of_counted same rising
  conflicts-of [] [] of_numbers of_counted same rising = rw (cut-end (number_place events) [], chosen-none) of_none
  conflicts-of [] (n ∷ counted) of_numbers of_counted same rising = absurd (let h = (same n).1 (0, omega arith, refl) in omega (arith, h.1))
