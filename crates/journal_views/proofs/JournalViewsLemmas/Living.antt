-- Live events, event by event, and by their numbers.
use Rattle.std.proofs.Common.{◌≡◌, ℕ, zero, suc, ◌+◌, ◌<◌, Bool, true, false, List, [], ◌∷◌, ◌++◌, length, map, take, Option, Some, None, refl, sym, ◌∙◌, ap, inl, inr, get_or, ◌≤◌, arith, subst}
use Rattle.std.specs.Prelude.{AllPairs, filter, filter_map, fold, slice_get, nat_lt}
use Rattle.std.proofs.lemmas.Bool.{cases_Bool, cases_lt}
use Rattle.std.proofs.lemmas.Bool.Decides.{nat_tests}
use Rattle.std.proofs.lemmas.List.{take_more}
use Rattle.std.proofs.lemmas.List.Elements.{filter-append, filter_passes}
use Rattle.std.proofs.lemmas.List.Kept.{AllPairs-filter}
use Rattle.std.proofs.lemmas.List.Quantifiers.{all_pairs_push}
use Rattle.std.proofs.lemmas.List.Sums.{fold-append}
use Rattle.cesr_codes.specs.declared.prefix.Prefix.{Prefix}
use Rattle.event_body.specs.declared.event_body.event.Event.{Event}
use Rattle.event_body.specs.EventBody.Events.{sn_of}
use Rattle.journal.specs.declared.journal.body.Body.{Body}
use Rattle.journal.specs.Journal.Logs.{is_of, live, live_with}
use Rattle.journal.specs.Journal.Journals.{chosen}
use Rattle.journal.proofs.JournalLemmas.Held.{chosen_push}
use Rattle.journal_views.specs.JournalViews.Rises.{sn_or, sn_at}
use Rattle.journal_views.proofs.JournalViewsLemmas.Bodies.{event-of}

-- a further event of the identifier
pub live-more : (bodies : List Body) (prefix : Prefix) (b : Body) → is_of prefix b ≡ true
    → live (bodies ++ b ∷ []) prefix ≡ live_with (live bodies prefix) b
unfolding live
live-more bodies prefix b h =
    ap (fold live_with []) (filter-append (is_of prefix) bodies (b ∷ [])) ∙ rw h (fold-append live_with [] (filter (is_of prefix) bodies) (b ∷ []))

-- one of another
pub live-other : (bodies : List Body) (prefix : Prefix) (b : Body) → is_of prefix b ≡ false
    → live (bodies ++ b ∷ []) prefix ≡ live bodies prefix
unfolding live
live-other bodies prefix b h =
    ap (fold live_with []) (filter-append (is_of prefix) bodies (b ∷ [])) ∙ rw h (fold-append live_with [] (filter (is_of prefix) bodies) [])

-- the numbers so far, and the next
pub chosen-next : (held : List Body) (numbers : List ℕ) (place : ℕ) (b : Body) → place < length numbers
    → slice_get held (get_or numbers place 0) ≡ Some b → chosen held (take (place + 1) numbers) ≡ chosen held (take place numbers) ++ b ∷ []
chosen-next held numbers place b h at =
    ap (chosen held) (take_more numbers place 0 h) ∙ chosen_push held (take place numbers) (get_or numbers place 0) b at

-- the bodies below a number of their log are those of the numbers below it
module _ (held : List Body) (events : List Event) (are : map (λ b. b.event) held ≡ events) (sn : ℕ) where
  at : (n : ℕ) (numbers : List ℕ) (o : Option Body) → slice_get held n ≡ o
      → filter_map (λ n. slice_get held n) (filter (λ n. nat_lt (sn_at events n) sn) numbers) ≡ filter (λ c. nat_lt (sn_of c.event) sn) (filter_map (λ n. slice_get held n) numbers)
      → filter_map (λ n. slice_get held n) (filter (λ n. nat_lt (sn_at events n) sn) (n ∷ numbers)) ≡ filter (λ c. nat_lt (sn_of c.event) sn) (filter_map (λ n. slice_get held n) (n ∷ numbers))
  at n numbers None e more = elim (cases_Bool (nat_lt (sn_at events n) sn)) [ inl k ↦ rw k (rw e more) | inr k ↦ rw k (rw e more) ]
  at n numbers (Some b) e more =
      let is : nat_lt (sn_at events n) sn ≡ nat_lt (sn_of b.event) sn = ap (λ o. nat_lt (sn_or o) sn) (event-of held events are n b e) in
      elim (cases_Bool (nat_lt (sn_of b.event) sn)) [
        | inl k ↦ (let k' = is ∙ k in rw k' (rw (e, k) (ap (λ bs. b ∷ bs) more)))
        | inr k ↦ (let k' = is ∙ k in rw k' (rw (e, k) more))
      ]

  pub chosen-below : (numbers : List ℕ) → chosen held (filter (λ n. nat_lt (sn_at events n) sn) numbers) ≡ filter (λ c. nat_lt (sn_of c.event) sn) (chosen held numbers)
  unfolding chosen
  chosen-below [] = refl
  chosen-below (n ∷ numbers) = at n numbers (slice_get held n) refl (chosen-below numbers)

-- the numbers of the live events with that of a further one
pub numbers-more : (held : List Body) (events : List Event) → map (λ b. b.event) held ≡ events
    → (numbers kept : List ℕ) (bodies : List Body) (prefix : Prefix) (n : ℕ) (b : Body)
    → slice_get held n ≡ Some b → is_of prefix b ≡ true → chosen held numbers ≡ live bodies prefix
    → kept ≡ filter (λ n. nat_lt (sn_at events n) (sn_of b.event)) numbers → chosen held (kept ++ n ∷ []) ≡ live (bodies ++ b ∷ []) prefix
numbers-more held events are numbers kept bodies prefix n b at of is kept_is =
    chosen_push held kept n b at
    ∙ ap (λ bs. bs ++ b ∷ []) (ap (chosen held) kept_is ∙ chosen-below held events are (sn_of b.event) numbers ∙ ap (filter (λ c. nat_lt (sn_of c.event) (sn_of b.event))) is)
    ∙ sym (live-more bodies prefix b of)

-- what passes is what stands before the first that doesn't
pub filter-point : {X : Type 0} (p : X → Bool) (xs : List X) (i : ℕ) → ((k : ℕ) (d : X) → k < i → k < length xs → p (get_or xs k d) ≡ true)
    → ((k : ℕ) (d : X) → i ≤ k → k < length xs → p (get_or xs k d) ≡ false) → filter p xs ≡ take i xs
filter-point p [] zero low high = refl
filter-point p [] (suc i) low high = refl
filter-point p (x ∷ xs) zero low high =
    let here : p x ≡ false = high 0 x (omega arith) (omega arith) in
    rw here (filter-point p xs zero (λ k d h. absurd (omega (arith, h))) (λ k d h l. high (suc k) d (omega arith) (omega (arith, l))))
filter-point p (x ∷ xs) (suc i) low high =
    let here : p x ≡ true = low 0 x (omega arith) (omega arith) in
    rw here (ap (λ ys. x ∷ ys) (filter-point p xs i (λ k d h l. low (suc k) d (omega (arith, h)) (omega (arith, l))) (λ k d h l. high (suc k) d (omega (arith, h)) (omega (arith, l)))))

module _ (f : ℕ → ℕ) (numbers : List ℕ) (sn : ℕ) (rising : AllPairs (λ m n. f m < f n) numbers) where
  -- where one of rising numbers is below, those before it are
  pub parted : (i j d : ℕ) → i ≤ j → j < length numbers → nat_lt (f (get_or numbers j d)) sn ≡ true → nat_lt (f (get_or numbers i d)) sn ≡ true
  parted i j d le inside below = elim (cases_lt i j) [
    | inl h ↦ less (f (get_or numbers i d)) (f (get_or numbers j d)) (rising i j d h inside) below
    | inr h ↦ (let e : j ≡ i = omega (arith, le, h) in subst (λ k. nat_lt (f (get_or numbers k d)) sn ≡ true) e below)
  ]
    where
      less : (x y : ℕ) → x < y → nat_lt y sn ≡ true → nat_lt x sn ≡ true
      less x y h k = grind (arith, nat_tests)

  -- with one that those that stay are below
  pub rising-more : (n : ℕ) → f n ≡ sn → AllPairs (λ m n. f m < f n) (filter (λ n. nat_lt (f n) sn) numbers ++ n ∷ [])
  rising-more n is = all_pairs_push (λ m n. f m < f n) (filter (λ n. nat_lt (f n) sn) numbers) n (AllPairs-filter (λ m n. f m < f n) (λ n. nat_lt (f n) sn) numbers rising)
      (λ k d h. less (f (get_or (filter (λ n. nat_lt (f n) sn) numbers) k d)) (f n) is (filter_passes (λ n. nat_lt (f n) sn) numbers k d h))
    where
      less : (x y : ℕ) → y ≡ sn → nat_lt x sn ≡ true → x < y
      less x y is h = grind (arith, nat_tests)
