-- Bodies, by the lists of their bytes and of their events.
use Rattle.std.proofs.Common.{◌≡◌, ◌⊎◌, ℕ, zero, suc, ◌<◌, List, ◌∷◌, length, inl, inr, arith, map, Some, refl, sym, ◌∙◌, ap, subst, get_or, All}
use Rattle.std.specs.Prelude.{Contains, slice_get, option_map}
use Rattle.std.proofs.lemmas.List.{length-map}
use Rattle.std.proofs.lemmas.Option.{slice_get-map, slice_get-get_or}
use Rattle.event_body.specs.declared.event_body.event.Event.{Event}
use Rattle.journal.specs.declared.journal.body.Body.{Body}
use Rattle.journal.specs.Journal.Conflicts.{place_cmp}
use Rattle.journal.proofs.JournalLemmas.Places.{some_at}
use Rattle.journal_views.specs.JournalViews.Rankings.{event_cmp}

-- what an index reads
pub got : {X : Type 0} (xs : List X) (n : ℕ) (x : X) → n < length xs → x ≡ get_or xs n x → slice_get xs n ≡ Some x
got xs n x h is = slice_get-get_or xs n x h ∙ ap (λ y. Some y) (sym is)

module _ {X : Type 0} (f : Body → X) (held : List Body) (xs : List X) (are : map f held ≡ xs) where
  -- what is told of a body
  pub told-of : (n : ℕ) (b : Body) → slice_get held n ≡ Some b → slice_get xs n ≡ Some (f b)
  told-of n b at = ap (λ ys. slice_get ys n) (sym are) ∙ slice_get-map f held n ∙ ap (option_map f) at

  pub all-held : (numbers : List ℕ) → All (λ n. n < length xs) numbers → All (λ n. n < length held) numbers
  all-held numbers all = subst (λ k. All (λ n. n < k) numbers) (ap length (sym are) ∙ length-map held f) all

  -- the body of a number
  pub body-at : (n : ℕ) (x : X) → n < length xs → x ≡ get_or xs n x → (b : Body) × (slice_get held n ≡ Some b) × (f b ≡ x)
  body-at n x h is =
      let b = some_at held n (subst (λ k. n < k) (ap length (sym are) ∙ length-map held f) h) in
      let same : Some (f b.0) ≡ Some x = sym (told-of n b.0 b.1) ∙ got xs n x h is in
      (b.0, b.1, cc)

pub event-of : (held : List Body) (events : List Event) → map (λ b. b.event) held ≡ events → (n : ℕ) (b : Body) → slice_get held n ≡ Some b → slice_get events n ≡ Some b.event
event-of held events are n b at = told-of (λ b. b.event) held events are n b at

-- places are those of the events
pub places : (b c : Body) → place_cmp b c ≡ event_cmp b.event c.event
unfolding place_cmp
places b c = refl

-- an element of a list is its first, or one of the others
pub first_or_other : {X : Type 0} (x : X) (xs : List X) (y : X) → Contains (x ∷ xs) y → (x ≡ y) ⊎ Contains xs y
first_or_other x xs y (zero, h, is) = inl is
first_or_other x xs y (suc k, h, is) = inr (k, omega (arith, h), is)

pub other : {X : Type 0} (x : X) (xs : List X) (y : X) → Contains xs y → Contains (x ∷ xs) y
other x xs y (k, h, is) = (suc k, omega (arith, h), is)
