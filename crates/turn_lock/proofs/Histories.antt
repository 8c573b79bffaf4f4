-- Beginnings of histories, and shares of them.
use Rattle.std.proofs.Common.{◌≡◌, ℕ, subst, eq-eqb, ne_eqb, eqb-true, ◌≤◌, ◌≢◌, ◌⊎◌, ◌==◌, ◌||◌, if◌then◌else◌, List, [], ◌∷◌, ◌++◌, Bool, true, false, true≢false, length, get_or, drop, sym, refl, ap, ◌∙◌, inl, inr, ⊎_elim, append_assoc, append-nil, arith, nat_lt, max}
use Rattle.std.specs.List.{AllByRecursion}
use Rattle.std.proofs.lemmas.List.Elements.{filter-append}
use mathlib.Core.List.{IsPrefix}
use Rattle.turn_lock.specs.Histories.{share_of, HasShare, has_share, longer_share, longer, shorter}

module _ {E : Type 0} where
  -- a history begins with itself, with what it began with before it went on, and with the beginnings of its beginnings
  pub prefix_refl : (xs : List E) → IsPrefix xs xs
  prefix_refl xs = ([], append-nil xs)

  pub prefix_append : (xs ys zs : List E) → IsPrefix xs ys → IsPrefix xs (ys ++ zs)
  prefix_append xs ys zs p = (p.0 ++ zs, sym (append_assoc xs p.0 zs) ∙ ap (λ l. l ++ zs) p.1)

  pub prefix_trans : (xs ys zs : List E) → IsPrefix xs ys → IsPrefix ys zs → IsPrefix xs zs
  prefix_trans xs ys zs p q = subst (IsPrefix xs) q.1 (prefix_append xs ys q.0 p)

  -- of two beginnings of one history, the one that isn't longer begins the other
  pub comparable : (xs ys history : List E) → IsPrefix xs history → IsPrefix ys history → length xs ≤ length ys → IsPrefix xs ys
  comparable [] ys history p q le = (ys, refl)
  comparable (x ∷ xs) [] history p q le = absurd (omega arith)
  comparable (x ∷ xs) (y ∷ ys) [] p q le = absurd (omega (arith, ap length p.1))
  comparable (x ∷ xs) (y ∷ ys) (z ∷ zs) p q le =
      let ih = comparable xs ys zs (p.0, ap (drop 1) p.1) (q.0, ap (drop 1) q.1) (omega arith) in
      (ih.0, λ i. (ap (λ l. get_or l 0 z) p.1 ∙ sym (ap (λ l. get_or l 0 z) q.1)) i ∷ ih.1 i)

  -- of two lists, what holds of either as the longer one
  pub either_longer : (P : List E → List E → Type 0) (xs ys : List E) → (length ys ≤ length xs → P xs ys) → (length xs ≤ length ys → P ys xs) → P (longer xs ys) (shorter xs ys)
  either_longer P xs ys first second = by_order (nat_lt (length xs) (length ys)) refl
    where
      by_order : (b : Bool) → nat_lt (length xs) (length ys) ≡ b → P (longer xs ys) (shorter xs ys)
      by_order true e = rw e (second (grind arith))
      by_order false e = rw e (first (grind arith))

  -- its length
  pub length-longer : (xs ys : List E) → length (longer xs ys) ≡ max (length xs) (length ys)
  length-longer xs ys = either_longer (λ l _. length l ≡ max (length xs) (length ys)) xs ys (λ le. omega arith) (λ le. omega arith)

  -- both begin the longer one, where the shorter one does
  pub longer_begins : (xs ys : List E) → (length (shorter xs ys) ≤ length (longer xs ys) → IsPrefix (shorter xs ys) (longer xs ys)) → IsPrefix xs (longer xs ys) × IsPrefix ys (longer xs ys)
  longer_begins xs ys =
      either_longer (λ l s. (length s ≤ length l → IsPrefix s l) → IsPrefix xs l × IsPrefix ys l) xs ys (λ le f. (prefix_refl xs, f le)) (λ le f. (f le, prefix_refl ys))

  -- what follows holds of each too, and of each of both lists
  pub AllByRecursion-imp : (P Q : E → Type 0) → ((e : E) → P e → Q e) → (es : List E) → AllByRecursion P es → AllByRecursion Q es
  AllByRecursion-imp P Q f [] t = tt
  AllByRecursion-imp P Q f (e ∷ es) t = (f e t.0, AllByRecursion-imp P Q f es t.1)

  pub AllByRecursion-append : (P : E → Type 0) (xs ys : List E) → AllByRecursion P xs → AllByRecursion P ys → AllByRecursion P (xs ++ ys)
  AllByRecursion-append P [] ys t u = u
  AllByRecursion-append P (x ∷ xs) ys t u = (t.0, AllByRecursion-append P xs ys t.1 u)

  module _ (names : E → ℕ) where
    -- no entry names the number, or every one does
    pub share_of-none : (k : ℕ) (es : List E) → AllByRecursion (λ e. names e ≢ k) es → share_of names k es ≡ []
    share_of-none k [] t = refl
    share_of-none k (e ∷ es) t = rw (ne_eqb (names e) k t.0) (share_of-none k es t.1)

    pub share_of-all : (k : ℕ) (es : List E) → AllByRecursion (λ e. names e ≡ k) es → share_of names k es ≡ es
    share_of-all k [] t = refl
    share_of-all k (e ∷ es) t = rw (eq-eqb (names e) k t.0) (ap (λ l. e ∷ l) (share_of-all k es t.1))

    -- one history after another
    pub share_of-append : (k : ℕ) (xs ys : List E) → share_of names k (xs ++ ys) ≡ share_of names k xs ++ share_of names k ys
    share_of-append k xs ys = filter-append (λ e. names e == k) xs ys

  -- a share of the shares that were made longer, and the share that it was before
  pub HasShare-longer_share : (n : ℕ) (es : List E) (own : List (ℕ × List E)) (k : ℕ) (fs : List E) → HasShare (longer_share n es own) k fs → (gs : List E) × HasShare own k gs × (fs ≡ (if k == n then gs ++ es else gs))
  HasShare-longer_share n es [] k fs l = absurd l
  HasShare-longer_share n es (p ∷ ps) k fs (inl e) = (p.1, inl (λ i. ((e i).0, p.1)), sym (λ i. (e i).1) ∙ (λ i. if (e i).0 == n then p.1 ++ es else p.1))
  HasShare-longer_share n es (p ∷ ps) k fs (inr l) = let ih = HasShare-longer_share n es ps k fs l in (ih.0, inr ih.1, ih.2)

  -- nothing is appended
  pub longer_share-none : (n : ℕ) (own : List (ℕ × List E)) → longer_share n [] own ≡ own
  longer_share-none n [] = refl
  longer_share-none n (p ∷ ps) = λ i. (p.0, by_test (p.0 == n) i) ∷ longer_share-none n ps i
    where
      by_test : (b : Bool) → (if b then p.1 ++ [] else p.1) ≡ p.1
      by_test true = append-nil p.1
      by_test false = refl

  -- what a pass that lists one number alone lists after a turn
  pub longer_share-alone : (n : ℕ) (es fs : List E) → longer_share n es ((n, fs) ∷ []) ≡ (n, fs ++ es) ∷ []
  longer_share-alone n es fs = ap (λ b. (n, (if b then fs ++ es else fs)) ∷ []) (eq-eqb n n refl)

  -- the numbers stay
  pub has_share-longer_share : (n : ℕ) (es : List E) (own : List (ℕ × List E)) (k : ℕ) → has_share (longer_share n es own) k ≡ has_share own k
  has_share-longer_share n es [] k = refl
  has_share-longer_share n es (p ∷ ps) k = ap (λ b. (p.0 == k) || b) (has_share-longer_share n es ps k)

  -- the shares of two passes
  pub HasShare-append : (xs ys : List (ℕ × List E)) (k : ℕ) (es : List E) → HasShare (xs ++ ys) k es → HasShare xs k es ⊎ HasShare ys k es
  HasShare-append [] ys k es l = inr l
  HasShare-append (p ∷ ps) ys k es (inl e) = inl (inl e)
  HasShare-append (p ∷ ps) ys k es (inr l) = ⊎_elim (λ a. inl (inr a)) (λ b. inr b) (HasShare-append ps ys k es l)

  pub has_share-append : (xs ys : List (ℕ × List E)) (k : ℕ) → has_share xs k ≡ true → has_share (xs ++ ys) k ≡ true
  has_share-append [] ys k e = absurd (true≢false (sym e))
  has_share-append (p ∷ ps) ys k e = by_first (has_share-append ps ys k) (p.0 == k) e
    where
      by_first : (has_share ps k ≡ true → has_share (ps ++ ys) k ≡ true) → (b : Bool) → (b || has_share ps k) ≡ true → (b || has_share (ps ++ ys) k) ≡ true
      by_first ih true h = refl
      by_first ih false h = ih h

  -- the share under a number that has one
  pub HasShare-of : (own : List (ℕ × List E)) (k : ℕ) → has_share own k ≡ true → (es : List E) × HasShare own k es
  HasShare-of [] k e = absurd (true≢false (sym e))
  HasShare-of (p ∷ ps) k e = by_first (HasShare-of ps k) (p.0 == k) refl e
    where
      by_first : (has_share ps k ≡ true → (es : List E) × HasShare ps k es) → (b : Bool) → (p.0 == k) ≡ b → (b || has_share ps k) ≡ true → (es : List E) × HasShare (p ∷ ps) k es
      by_first ih true is h = (p.1, inl (λ i. (eqb-true p.0 k is i, p.1)))
      by_first ih false is h = let t = ih h in (t.0, inr t.1)

  -- a share that is there is one
  pub has_share-some : (own : List (ℕ × List E)) (k : ℕ) → has_share own k ≡ true → own ≢ []
  has_share-some own k e none = true≢false (sym e ∙ ap (λ l. has_share l k) none)
