-- Where no two different events have one identifier and number, the events of an identifier in a grown list are numbered 0, 1, 2
-- and so on.
use Rattle.std.proofs.Common.{◌≡◌, ℕ, suc, ◌+◌, ◌<◌, ◌≤◌, ◌⊎◌, true, false, not, ◌&&◌, nat_le, nat_lt, ◌==◌, List, [], ◌∷◌, ◌++◌, length, Option, Some, None, refl, sym, ◌∙◌, ap, subst, arith, inl, inr, append-nil, append_assoc, length-append}
use Rattle.std.specs.Prelude.{filter}
use Rattle.std.proofs.lemmas.Bool.{cases_Bool, cases_lt, and_parts, or_parts, not-true, not-false, ltb-false, eqb-true}
use Rattle.std.proofs.lemmas.Bool.Decides.{nat_tests}
use Rattle.std.proofs.lemmas.List.Elements.{filter-append}
use Rattle.cesr_codes.specs.declared.prefix.Prefix.{Prefix}
use Rattle.event_body.specs.declared.event_body.event.Event.{Event}
use Rattle.event_body.specs.declared.event_body.event.Event.TheVariants.{Icp, Rot, Ixn, Dip, Drt, Rct}
use Rattle.event_body.specs.EventBody.Events.{prefix_of, sn_of, is_inception, is_receipt}
use Rattle.key_state.specs.Heads.{head_sn}
use Rattle.key_state.specs.KeyStates.{misfit, moved}
use Rattle.key_state.specs.States.{State}
use Rattle.key_state.proofs.NoMisfit.{fits_sn}
use Rattle.key_state.proofs.Same.{same_prefix_is, same_prefix_itself}
use Rattle.journal.specs.declared.journal.body.Body.{Body}
use Rattle.journal.specs.Journal.Grown.{IsGrown, fits}
use Rattle.journal.specs.Journal.Logs.{is_in, is_of, same_body, state, stepped, takes}
use Rattle.journal.proofs.JournalLemmas.Accepting.{same_body-refl}
use Rattle.journal.proofs.JournalLemmas.StateSteps.{state-own, state-other}
use Rattle.claim_table.proofs.CoreLawsLemmas.States.{none_is}
use Rattle.key_state.proofs.Among.{Among, among_left, among_left_by, among_right, left_among, passed}

-- the events of an identifier
abbrev pub own : Prefix → List Body → List Body
own prefix log = filter (is_of prefix) log

-- the numbers rise by one from this on
abbrev pub AreFrom : ℕ → List Body → Type 0
AreFrom n [] = Unit {0}
AreFrom n (b ∷ bs) = (sn_of b.event ≡ n) × AreFrom (suc n) bs

pub from_push : (n : ℕ) (xs : List Body) (b : Body) → AreFrom n xs → sn_of b.event ≡ n + length xs → AreFrom n (xs ++ b ∷ [])
from_push n [] b h sn = ((let e = sn in omega (arith, e)), tt)
from_push n (x ∷ xs) b h sn = (h.0, from_push (suc n) xs b h.1 (let e = sn in omega (arith, e)))

-- each number has its event
pub numbered : (n : ℕ) (xs : List Body) (k : ℕ) → AreFrom n xs → n ≤ k → k < n + length xs → (b : Body) × Among b xs × (sn_of b.event ≡ k)
numbered n [] k h low high = absurd (omega (arith, low, high))
numbered n (x ∷ xs) k h low high = elim (cases_Bool (n == k)) [
  | inl e ↦ (x, inl refl, h.0 ∙ eqb-true n k e)
  | inr e ↦ (let r = numbered (suc n) xs k h.1 (grind (arith, nat_tests, e, low)) (let l = high in omega (arith, l)) in (r.0, inr r.1, r.2))
]

pub below : (n : ℕ) (xs : List Body) (b : Body) → AreFrom n xs → Among b xs → sn_of b.event < n + length xs
below n [] b h m = absurd m
below n (x ∷ xs) b h (inl e) = (let sn : sn_of b.event ≡ n = ap (λ b. sn_of b.event) (sym e) ∙ h.0 in omega (arith, sn))
below n (x ∷ xs) b h (inr m) = (let ih = below (suc n) xs b h.1 m in omega (arith, ih))

-- the bodies are events among the held ones
abbrev pub AreEvents : List Body → List Body → Type 0
AreEvents held log = (b : Body) → Among b log → Among b held × (is_receipt b.event ≡ false)

-- no two events of the held bodies have one identifier and number
abbrev pub HasOne : List Body → Type 0
HasOne held = (b c : Body) → Among b held → Among c held → is_receipt b.event ≡ false → is_receipt c.event ≡ false
    → prefix_of b.event ≡ prefix_of c.event → sn_of b.event ≡ sn_of c.event → b ≡ c

-- how many events a state counts
abbrev pub CountsTo : Option State → ℕ → Type 0
CountsTo None n = n ≡ 0
CountsTo (Some s) n = (0 < length s.since) × (s.est_sn + length s.since ≡ n)

-- the identifier's events are numbered, and its state counts them
pub record AreCounted (prefix : Prefix) (log : List Body) : Type 0 where
  pub from : AreFrom 0 (own prefix log)
  pub to : CountsTo (state log prefix) (length (own prefix log))

-- what the fitting of a body says
pub fit_parts : (log : List Body) (b : Body) → fits log b ≡ true
    → (is_receipt b.event ≡ false) × (is_in log b ≡ false) × (takes (state log (prefix_of b.event)) b.event ≡ true)
unfolding fits
fit_parts log b h =
    let parts = and_parts (not (is_receipt b.event) && not (is_in log b)) (takes (state log (prefix_of b.event)) b.event) h in
    let first = and_parts (not (is_receipt b.event)) (not (is_in log b)) parts.0 in
    (not-true _ first.0, not-true _ first.1, parts.1)

-- a state that counts so many events takes one of the next number, or a rotation in the place of an earlier one
taken_number : (s : State) (e : Event) (n : ℕ) → CountsTo (Some s) n → misfit s e ≡ None → is_inception e ≡ false → is_receipt e ≡ false → (sn_of e ≡ n) ⊎ (sn_of e < n)
taken_number s (Rot e) n c h i r =
    let sns = or_parts (nat_le e.sn s.est_sn) (nat_lt (head_sn s + 1) e.sn) (fits_sn s (Rot e) h) in
    let high = ltb-false (head_sn s + 1) e.sn sns.1 in
    let some = c.0 in let all = c.1 in
    elim (cases_Bool (e.sn == n)) [
      | inl k ↦ inl (eqb-true e.sn n k)
      | inr k ↦ inr (grind (arith, nat_tests, k, high, some, all))
    ]
taken_number s (Ixn e) n c h i r = (let next = eqb-true e.sn (head_sn s + 1) (not-false _ (fits_sn s (Ixn e) h)) in let some = c.0 in let all = c.1 in inl (omega (arith, next, some, all)))
taken_number s (Drt e) n c h i r = (let next = eqb-true e.sn (head_sn s + 1) (not-false _ (fits_sn s (Drt e) h)) in let some = c.0 in let all = c.1 in inl (omega (arith, next, some, all)))
taken_number s (Icp e) n c h i r = cc
taken_number s (Dip e) n c h i r = cc
taken_number s (Rct e) n c h i r = cc

-- no state takes an inception
untaken : (s : State) (e : Event) → is_inception e ≡ true → misfit s e ≡ None → ⊥
unfolding misfit
untaken s (Icp e) i h = cc
untaken s (Dip e) i h = cc
untaken s (Rot e) i h = cc
untaken s (Ixn e) i h = cc
untaken s (Drt e) i h = cc
untaken s (Rct e) i h = cc

-- the state behind one more counts one more
begun_counts : (e : Event) → takes None e ≡ true → CountsTo (stepped None e) 1
begun_counts (Icp e) h = (omega arith, omega arith)
begun_counts (Dip e) h = (omega arith, omega arith)
begun_counts (Rot e) h = cc
begun_counts (Ixn e) h = cc
begun_counts (Drt e) h = cc
begun_counts (Rct e) h = cc

moved_counts : (s : State) (e : Event) (n : ℕ) → CountsTo (Some s) n → is_inception e ≡ false → is_receipt e ≡ false → sn_of e ≡ n → CountsTo (Some (moved s e)) (n + 1)
moved_counts s (Rot e) n c i r sn = (omega arith, omega (arith, sn))
moved_counts s (Drt e) n c i r sn = (omega arith, omega (arith, sn))
moved_counts s (Ixn e) n c i r sn = (let all = c.1 in let len = length-append s.since (e.said ∷ []) in (omega (arith, len), omega (arith, len, all)))
moved_counts s (Icp e) n c i r sn = cc
moved_counts s (Dip e) n c i r sn = cc
moved_counts s (Rct e) n c i r sn = cc

-- an inception has the number 0
pub first_sn : (e : Event) → is_inception e ≡ true → sn_of e ≡ 0
first_sn (Icp e) i = refl
first_sn (Dip e) i = refl
first_sn (Rot e) i = cc
first_sn (Ixn e) i = cc
first_sn (Drt e) i = cc
first_sn (Rct e) i = cc

pub length_push : {X : Type 0} (xs : List X) (x : X) → length (xs ++ x ∷ []) ≡ length xs + 1
length_push xs x = length-append xs (x ∷ [])

module _ (held : List Body) (one : HasOne held) where
  module _ (log : List Body) (b : Body) (events : AreEvents held log) (inside : Among b held) (fit : fits log b ≡ true) where
    abbrev its : Prefix
    its = prefix_of b.event

    -- a member of the list with the number of the body is the body
    clashes : (c : Body) → Among c (own its log) → sn_of c.event ≡ sn_of b.event → ⊥
    clashes c m sn =
        let parts = left_among (is_of its) log c m in
        let event = events c parts.0 in
        let prefix = same_prefix_is (prefix_of c.event) its parts.1 in
        let same : c ≡ b = one c b event.0 inside event.1 (fit_parts log b fit).0 prefix sn in
        let new = (fit_parts log b fit).1 in
        let old : is_in log b ≡ true = passed (λ d. same_body d b) log c parts.0 (ap (λ d. same_body d b) same ∙ same_body-refl b) in cc

    -- NEXT: the body's number is how many there are, and the state counts it
    next_number : AreCounted its log → (sn_of b.event ≡ length (own its log)) × CountsTo (stepped (state log its) b.event) (length (own its log) + 1)
    next_number c = of (state log its) c.to (fit_parts log b fit).2
      where
        of : (o : Option State) → CountsTo o (length (own its log)) → takes o b.event ≡ true
            → (sn_of b.event ≡ length (own its log)) × CountsTo (stepped o b.event) (length (own its log) + 1)
        of None to t = (first_sn b.event t ∙ sym to, subst (λ n. CountsTo (stepped None b.event) (n + 1)) (sym to) (begun_counts b.event t))
        of (Some s) to t =
            let none = none_is (misfit s b.event) t in
            let r = (fit_parts log b fit).0 in
            elim (cases_Bool (is_inception b.event)) [
              | inl i ↦ absurd (untaken s b.event i none)
              | inr i ↦ (let sn = elim (taken_number s b.event (length (own its log)) to none i r) as (λ _. sn_of b.event ≡ length (own its log)) [
                | inl e ↦ e
                | inr low ↦ (let x = numbered 0 (own its log) (sn_of b.event) c.from (omega arith) (omega (arith, low)) in absurd (clashes x.0 x.1 x.2))
              ] in
                  let is : stepped (Some s) b.event ≡ Some (moved s b.event) = rw t refl in
                  (sn, subst (λ o. CountsTo o (length (own its log) + 1)) (sym is) (moved_counts s b.event (length (own its log)) to i r sn)))
            ]

  -- one more
  counted_push : (prefix : Prefix) (log : List Body) (b : Body) → AreEvents held log → Among b held → fits log b ≡ true → AreCounted prefix log → AreCounted prefix (log ++ b ∷ [])
  counted_push prefix log b events inside fit c = elim (cases_Bool (is_of prefix b)) [
    | inr k ↦ (let same : own prefix (log ++ b ∷ []) ≡ own prefix log = filter-append (is_of prefix) log (b ∷ []) ∙ (rw k (append-nil (own prefix log))) in
        let still = state-other log b prefix k in
        record { from = subst (AreFrom 0) (sym same) c.from; to = subst (λ n. CountsTo (state (log ++ b ∷ []) prefix) n) (sym (ap length same)) (subst (λ o. CountsTo o (length (own prefix log))) (sym still) c.to) })
    | inl k ↦ (let is : prefix_of b.event ≡ prefix = same_prefix_is (prefix_of b.event) prefix k in
        let here : AreCounted (prefix_of b.event) log = subst (λ p. AreCounted p log) (sym is) c in
        let next = next_number log b events inside fit here in
        subst (λ p. AreCounted p (log ++ b ∷ [])) is (pushed (prefix_of b.event) (same_prefix_itself (prefix_of b.event)) here next))
  ]
    where
      pushed : (p : Prefix) → is_of p b ≡ true → AreCounted p log → (sn_of b.event ≡ length (own p log)) × CountsTo (stepped (state log p) b.event) (length (own p log) + 1) → AreCounted p (log ++ b ∷ [])
      pushed p k c next =
          let more : own p (log ++ b ∷ []) ≡ own p log ++ b ∷ [] = filter-append (is_of p) log (b ∷ []) ∙ (rw k refl) in
          let step = state-own log b p k in
          let count : length (own p (log ++ b ∷ [])) ≡ length (own p log) + 1 = ap length more ∙ length_push (own p log) b in
          record {
            from = subst (AreFrom 0) (sym more) (from_push 0 (own p log) b c.from (let e = next.0 in omega (arith, e)));
            to = subst (λ n. CountsTo (state (log ++ b ∷ []) p) n) (sym count) (subst (λ o. CountsTo o (length (own p log) + 1)) (sym step) next.1);
          }

  nothing_counted : (prefix : Prefix) → AreCounted prefix []
  unfolding state
  nothing_counted prefix = record { from = tt; to = refl }

  counted_over : (prefix : Prefix) (seen rest : List Body) → IsGrown (seen ++ rest) → AreEvents held (seen ++ rest) → AreCounted prefix seen → AreCounted prefix (seen ++ rest)
  counted_over prefix seen [] grown events c = rw append-nil c
  counted_over prefix seen (b ∷ rest) grown events c =
      let e = append_assoc seen (b ∷ []) rest in
      let inside = (events b (among_right seen (b ∷ rest) b (inl refl))).0 in
      let before : AreEvents held seen = λ x m. events x (among_left seen (b ∷ rest) x m) in
      subst (AreCounted prefix) e (counted_over prefix (seen ++ b ∷ []) rest (subst IsGrown (sym e) grown) (subst (AreEvents held) (sym e) events) (counted_push prefix seen b before inside (grown seen rest b refl) c))

  -- NUMBERED: of each identifier
  pub all_counted : (prefix : Prefix) (log : List Body) → IsGrown log → AreEvents held log → AreCounted prefix log
  all_counted prefix log grown events = counted_over prefix [] log grown events (nothing_counted prefix)

  -- what fits a grown list has the next number
  pub fit_number : (log : List Body) (b : Body) → IsGrown log → AreEvents held log → Among b held → fits log b ≡ true → sn_of b.event ≡ length (own (prefix_of b.event) log)
  fit_number log b grown events inside fit = (next_number log b events inside fit (all_counted (prefix_of b.event) log grown events)).0

  -- two numbered lists of one identifier and length are the same
  pub same_numbered : (prefix : Prefix) (n : ℕ) (xs ys : List Body) → AreFrom n xs → AreFrom n ys
      → ((b : Body) → Among b xs → Among b held × (is_receipt b.event ≡ false) × (prefix_of b.event ≡ prefix))
      → ((b : Body) → Among b ys → Among b held × (is_receipt b.event ≡ false) × (prefix_of b.event ≡ prefix))
      → length xs ≡ length ys → xs ≡ ys
  same_numbered prefix n [] [] fx fy hx hy len = refl
  same_numbered prefix n [] (y ∷ ys) fx fy hx hy len = absurd (omega (arith, len))
  same_numbered prefix n (x ∷ xs) [] fx fy hx hy len = absurd (omega (arith, len))
  same_numbered prefix n (x ∷ xs) (y ∷ ys) fx fy hx hy len =
      let of_x = hx x (inl refl) in let of_y = hy y (inl refl) in
      let head : x ≡ y = one x y of_x.0 of_y.0 of_x.1 of_y.1 (of_x.2 ∙ sym of_y.2) (fx.0 ∙ sym fy.0) in
      let tail = same_numbered prefix (suc n) xs ys fx.1 fy.1 (λ b m. hx b (inr m)) (λ b m. hy b (inr m)) (omega (arith, len)) in
      λ i. head i ∷ tail i

  -- what the members of an identifier in a list are
  pub own_events : (prefix : Prefix) (log : List Body) → AreEvents held log → (b : Body) → Among b (own prefix log) → Among b held × (is_receipt b.event ≡ false) × (prefix_of b.event ≡ prefix)
  own_events prefix log events b m =
      let parts = left_among (is_of prefix) log b m in let event = events b parts.0 in
      (event.0, event.1, same_prefix_is (prefix_of b.event) prefix parts.1)

  -- of two grown lists, one whose members are all in the other has no more of an identifier
  pub no_more : (prefix : Prefix) (xs ys : List Body) → AreCounted prefix xs → AreCounted prefix ys
      → ((b : Body) → Among b xs → Among b ys) → length (own prefix xs) ≤ length (own prefix ys)
  no_more prefix xs ys cx cy inside = elim (cases_lt (length (own prefix ys)) (length (own prefix xs))) [
    | inr h ↦ h
    | inl h ↦ (let x = numbered 0 (own prefix xs) (length (own prefix ys)) cx.from (omega arith) (omega (arith, h)) in
        let parts = left_among (is_of prefix) xs x.0 x.1 in
        let low = below 0 (own prefix ys) x.0 cy.from (among_left_by (is_of prefix) ys x.0 (inside x.0 parts.0) parts.1) in
        let sn = x.2 in absurd (omega (arith, low, sn)))
  ]
