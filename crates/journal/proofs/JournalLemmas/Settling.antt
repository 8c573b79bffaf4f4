-- Appending the earliest ready body: it extends the list, it keeps what is there, and it ends with nothing ready.
use Rattle.std.proofs.Common.{◌≡◌, ℕ, zero, suc, ◌<◌, ◌≤◌, Bool, true, false, not, cond, List, [], ◌∷◌, ◌++◌, Some, None, refl, sym, ◌∙◌, ap, subst, arith, append_assoc, inl, inr, rules}
use Rattle.std.specs.Prelude.{find, count_by}
use Rattle.std.specs.List.{list_any}
use Rattle.std.proofs.lemmas.List.Sums.{sum_by-cons, sum_by-le-sum_by}
use Rattle.std.proofs.lemmas.List.Folds.{list_any-append}
use Rattle.std.proofs.lemmas.Bool.{cases_Bool, or_left, or_right, not_from_true, not_from_false, not-true, or_parts}
use Rattle.journal.specs.Journal.Acceptance.{appended, settled, Settles, rest, more}

-- what is found passes the test
pub find-true : {B : Type 0} (test : B → Bool) (xs : List B) (b : B) → find test xs ≡ Some b → test b ≡ true
find-true test [] b e = cc
find-true test (x ∷ xs) b e = elim (cases_Bool (test x)) [
  | inl h ↦ (let found : Some x ≡ Some b = rw h at e in let same : x ≡ b = cc in rw (← same) h)
  | inr h ↦ find-true test xs b (rw h at e)
]

-- where one test passes no more than another, and not what is found, it counts fewer
pub count-falls : {B : Type 0} (test p q : B → Bool) → ((x : B) → q x ≡ true → p x ≡ true)
    → (xs : List B) (b : B) → find test xs ≡ Some b → p b ≡ true → q b ≡ false → count_by q xs < count_by p xs
count-falls test p q less [] b e here gone = cc
count-falls {B = B} test p q less (x ∷ xs) b e here gone = rw (sum_by-cons, sum_by-cons) (elim (cases_Bool (test x)) [
  | inl h ↦ (let found : Some x ≡ Some b = rw h at e in let same : x ≡ b = cc in
      let here' : p x ≡ true = rw same here in let gone' : q x ≡ false = rw same gone in
      rw (here', gone') (omega (arith, sum_by-le-sum_by (λ y. cond (q y) 1 0) (λ y. cond (p y) 1 0) xs step)))
  | inr h ↦ omega (arith, step x, count-falls test p q less xs b (rw h at e) here gone)
])
  where
    step : (y : B) → cond (q y) 1 0 ≤ cond (p y) 1 0
    step y = elim (cases_Bool (q y)) [ inl h ↦ (let k = less y h in rw (h, k) (omega arith)) | inr h ↦ rw h (omega arith) ]

-- what isn't in a longer list isn't in the shorter
pub outside : {B : Type 0} (p : B → Bool) (xs ys : List B) → not (list_any p (xs ++ ys)) ≡ true → not (list_any p xs) ≡ true
outside p xs ys h = let none = rw (list_any-append p xs ys) at (not-true _ h) in not_from_false _ (or_parts _ _ none).0

-- the last one is in the list
pub ends_in : {B : Type 0} (same : B → B → Bool) (log : List B) (b : B) → same b b ≡ true → list_any (λ c. same c b) (log ++ b ∷ []) ≡ true
ends_in same log b h = rw list_any-append (or_right _ _ (or_left _ _ h))

module _ {B : Type 0} (ready : List B → B → Bool) (bodies : List B) where
  -- with nothing ready the list stays as it is
  pub settled_rest : (n : ℕ) (log : List B) → find (ready log) bodies ≡ None → settled ready bodies n log ≡ log
  unfolding settled
  settled_rest zero log e = refl
  settled_rest (suc n) log e = ap (λ o. settled ready bodies n (appended o log)) e ∙ settled_rest n log e

  -- with a body ready it is appended first
  pub settled_more : (n : ℕ) (log : List B) (b : B) → find (ready log) bodies ≡ Some b → settled ready bodies (suc n) log ≡ settled ready bodies n (log ++ b ∷ [])
  unfolding settled
  settled_more n log b e = ap (λ o. settled ready bodies n (appended o log)) e

  -- the list is extended
  pub settled_extends : (n : ℕ) (log : List B) → (new : List B) × (settled ready bodies n log ≡ log ++ new)
  unfolding settled
  settled_extends zero log = ([], search rules)
  settled_extends (suc n) log = elim (find (ready log) bodies) as (λ o. (new : List B) × (settled ready bodies n (appended o log) ≡ log ++ new)) [
    | None ↦ settled_extends n log
    | Some b ↦ (let (new, e) = settled_extends n (log ++ b ∷ []) in (b ∷ new, e ∙ append_assoc log (b ∷ []) new))
  ]

  -- the relation has one end
  pub Settles-unique : {log end other : List B} → Settles ready bodies log end → Settles ready bodies log other → end ≡ other
  Settles-unique (rest e) (rest f) = refl
  Settles-unique (rest e) (more f s) = cc
  Settles-unique (more e s) (rest f) = cc
  Settles-unique {log} {end} {other} (more {b = b} e s) (more {b = c} f t) =
      let same : b ≡ c = cc in Settles-unique s (subst (λ d. Settles ready bodies (log ++ d ∷ []) other) (sym same) t)

  -- what is ready isn't in the list, and each body is the same as itself
  module _ (same : B → B → Bool) (itself : (b : B) → same b b ≡ true)
      (fresh : (log : List B) (b : B) → ready log b ≡ true → list_any (λ c. same c b) log ≡ false) where
    -- how many bodies aren't in the list
    unfoldable pub left : List B → ℕ
    left log = count_by (λ b. not (list_any (λ c. same c b) log)) bodies

    -- one round with a body ready leaves fewer
    falls : (log : List B) (b : B) → find (ready log) bodies ≡ Some b → left (log ++ b ∷ []) < left log
    unfolding left
    falls log b e = count-falls (ready log) (λ x. not (list_any (λ c. same c x) log)) (λ x. not (list_any (λ c. same c x) (log ++ b ∷ [])))
        (λ x h. outside (λ c. same c x) log (b ∷ []) h) bodies b e
        (not_from_false _ (fresh log b (find-true (ready log) bodies b e))) (not_from_true _ (ends_in same log b (itself b)))

    -- so many rounds as bodies are left end with nothing ready
    pub settled_ends : (n : ℕ) (log : List B) → left log ≤ n → Settles ready bodies log (settled ready bodies n log)
    settled_ends zero log h = elim (find (ready log) bodies) as (λ o. find (ready log) bodies ≡ o → Settles ready bodies log (settled ready bodies zero log)) [
      | None ↦ (λ e. rw (settled_rest zero log e) (rest e))
      | Some b ↦ (λ e. let less = falls log b e in absurd (omega arith))
    ] refl
    settled_ends (suc n) log h = elim (find (ready log) bodies) as (λ o. find (ready log) bodies ≡ o → Settles ready bodies log (settled ready bodies (suc n) log)) [
      | None ↦ (λ e. rw (settled_rest (suc n) log e) (rest e))
      | Some b ↦ (λ e. let less = falls log b e in rw (settled_more n log b e) (more e (settled_ends n (log ++ b ∷ []) (omega arith))))
    ] refl
