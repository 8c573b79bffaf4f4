-- Each verdict leaves fewer claims without one.
use Rattle.std.proofs.Common.{◌≡◌, ℕ, zero, suc, ◌+◌, ◌<◌, ◌≤◌, Bool, true, false, ◌||◌, List, [], ◌∷◌, ◌++◌, length, Option, Some, None, refl, sym, ◌∙◌, ap, subst, inl, inr, arith}
use Rattle.std.specs.Prelude.{filter, filter_map, slice_get, sum_by}
use Rattle.std.specs.List.{cons_option, list_any}
use Rattle.std.proofs.lemmas.Bool.{cases_Bool, or_cases, or_left, or_right}
use Rattle.std.proofs.lemmas.List.Sums.{sum_by-append, sum_by-le-sum_by}
use Rattle.cesr_codes.specs.declared.key.Key.{Key}
use Rattle.cesr_codes.specs.declared.sig.Sig.{Sig}
use Rattle.event_body.specs.declared.event_body.event.Event.{Event}
use Rattle.event_body.specs.declared.event_body.event.Event.TheVariants.{Icp, Rot, Ixn, Dip, Drt, Rct}
use Rattle.event_body.specs.EventBody.Events.{is_inception, prior_of}
use Rattle.key_state.specs.Exposure.{own_rules}
use Rattle.std.proofs.Math.Bool.{and-false}
use Rattle.validator_core.specs.Acceptance.ReadyRuns.{RunsOver}
use Rattle.claim_table.specs.CoreLaws.Candidates.{ends, passes, appends}
use Rattle.claim_table.proofs.CoreLawsLemmas.Predecessors.{predecessor-kept, predecessor-next, state_before-kept, state_before-none}
use Rattle.claim_table.proofs.CoreLawsLemmas.Told.{claims_heard, has_push}
use Rattle.claim_table.specs.CoreLaws.ClaimRows.{triple_on}
use Rattle.journal.specs.declared.journal.body.Body.{Body}
use Rattle.journal.specs.declared.journal.mode.Mode.{Mode}
use Rattle.journal.specs.Journal.Logs.{precedes, predecessor, stands}
use Rattle.journal.specs.Journal.History.{Told, Triple, claims_on, has_verdict, heard, same_triple, triple_of}
use Rattle.journal.specs.Journal.Questions.{raised_by, state_before}
use Rattle.journal.proofs.JournalLemmas.Same.{same_triple_is, same_triple_itself}
use Rattle.validator_core.specs.ValidatorCore.View.{unheard_on}

sum_first : (f : Body → ℕ) (x : Body) (xs : List Body) → sum_by f (x ∷ xs) ≡ f x + sum_by f xs
sum_first f x xs = let none : 0 + f x ≡ f x = omega arith in sum_by-append f (x ∷ []) xs ∙ ap (λ n. n + sum_by f xs) none

-- SUMS: of numbers of which none is greater, and one less
sum_less : (f g : Body → ℕ) → ((c : Body) → f c ≤ g c) → (b : Body) → f b < g b → (xs : List Body) (n : ℕ) → slice_get xs n ≡ Some b → sum_by f xs < sum_by g xs
sum_less f g all b less [] n at = cc
sum_less f g all b less (x ∷ xs) zero at =
    let is : x ≡ b = cc in
    let here : f x < g x = subst (λ c. f c < g c) (sym is) less in
    omega (arith, here, sum_by-le-sum_by f g xs all, sum_first f x xs, sum_first g x xs)
sum_less f g all b less (x ∷ xs) (suc n) at = omega (arith, all x, sum_less f g all b less xs n at, sum_first f x xs, sum_first g x xs)

-- what each acceptance keeps a run keeps
kept_by_run : (mode : Mode) (told : List Told) (held : List Body) (due : List ℕ) (log end : List Body) (P : List Body → Type 0) → ((l : List Body) (d : Body) → P l → P (l ++ d ∷ []))
    → RunsOver mode told held due log end → P log → P end
kept_by_run mode told held due log end P step ends p = p
kept_by_run mode told held due log end P step (passes fails run) p = kept_by_run mode told held _ log end P step run p
kept_by_run mode told held due log end P step (appends {due = wide} {b = b} least at ready wider run) p = kept_by_run mode told held wide (log ++ b ∷ []) end P step run (step log b p)

-- an inception has no event before it
none_before : (b c : Body) → is_inception b.event ≡ true → precedes b c ≡ false
none_before b c h = let none = nothing b.event h in rw none (and-false _)
  where
    nothing : (e : Event) → is_inception e ≡ true → prior_of e ≡ None
    nothing (Icp e) h = refl
    nothing (Rot e) h = cc
    nothing (Ixn e) h = cc
    nothing (Dip e) h = refl
    nothing (Drt e) h = cc
    nothing (Rct e) h = cc

-- STAYS: what a body that stands follows
module _ (mode : Mode) (told : List Told) (held : List Body) (due : List ℕ) (log end : List Body) (run : RunsOver mode told held due log end) (b : Body) where
  inception_or : (o : Option Body) → predecessor log b ≡ o → stands log b ≡ true → o ≡ None → is_inception b.event ≡ true
  unfolding stands
  inception_or None e up none = (let is : (is_inception b.event || false) ≡ true = rw e at up in elim (or_cases (is_inception b.event) false is) [ inl k ↦ k | inr k ↦ cc ])
  inception_or (Some c) e up none = cc

  abbrev Stays : List Body → Type 0
  Stays l = (predecessor l b ≡ predecessor log b) × (state_before l b ≡ state_before log b)

  by_predecessor : (o : Option Body) → predecessor log b ≡ o → stands log b ≡ true → (l : List Body) (d : Body) → Stays l → Stays (l ++ d ∷ [])
  by_predecessor (Some c) e up l d s =
      (predecessor-kept l d b c (s.0 ∙ e) ∙ sym e, state_before-kept l d b c (s.0 ∙ e) ∙ s.1)
  by_predecessor None e up l d s =
      let apart = none_before b d (inception_or None e up refl) in
      ((predecessor-next l d b (s.0 ∙ e) ∙ rw apart refl) ∙ sym e, state_before-none l d b (s.0 ∙ e) apart ∙ s.1)

  pub stays : stands log b ≡ true → state_before end b ≡ state_before log b
  stays up = (kept_by_run mode told held due log end Stays (by_predecessor (predecessor log b) refl up) run (refl, refl)).1

-- the same state, the same triples
raised_same : (told : List Told) (log more : List Body) (b : Body) → state_before more b ≡ state_before log b → raised_by told more b ≡ raised_by told log b
unfolding raised_by stands
raised_same told log more b e = rw e refl

raised_alike : (told now : List Told) (log : List Body) (b : Body) → claims_on now b ≡ claims_on told b → raised_by now log b ≡ raised_by told log b
unfolding raised_by
raised_alike told now log b e = rw e refl

raised_none : (told : List Told) (log : List Body) (b : Body) → stands log b ≡ false → raised_by told log b ≡ []
unfolding raised_by
raised_none told log b down = rw down refl

-- what raises something stands
pub raised_stands : (told : List Told) (log : List Body) (b : Body) (t : Triple) → list_any (same_triple t) (raised_by told log b) ≡ true → stands log b ≡ true
unfolding raised_by
raised_stands told log b t h = elim (cases_Bool (stands log b)) [
  | inl k ↦ k
  | inr k ↦ (let none : false ≡ true = rw k at h in cc)
]

fewer_found : {X Y : Type 0} (f : X → Option Y) (xs : List X) → length (filter_map f xs) ≤ length xs
fewer_found f [] = omega arith
fewer_found {Y = Y} f (x ∷ xs) = by (f x) (fewer_found f xs)
  where
    by : (o : Option Y) → length (filter_map f xs) ≤ length xs → length (cons_option o (filter_map f xs)) ≤ length (x ∷ xs)
    by None ih = omega (arith, ih)
    by (Some y) ih = omega (arith, ih)

raised_short : (told : List Told) (log : List Body) (b : Body) → length (raised_by told log b) ≤ length (claims_on told b)
unfolding raised_by
raised_short told log b = elim (cases_Bool (stands log b)) [
  | inl k ↦ rw k (fewer_found (triple_of (own_rules (state_before log b) b.event) b) (claims_on told b))
  | inr k ↦ rw k (omega arith)
]

module _ (told : List Told) (reader : ℕ) (b : Body) (key : Key) (sig : Sig) (verdict : Bool) where
  abbrev this : Triple
  this = triple_on b key sig

  abbrev now : List Told
  now = told ++ heard reader b key sig verdict ∷ []

  has_now : (x : Triple) → has_verdict now x ≡ (has_verdict told x || list_any (same_triple x) (this ∷ []))
  has_now x = has_push told (heard reader b key sig verdict) x

  -- of some triples no fewer have a verdict now
  counts : (ts : List Triple) → (length (filter (has_verdict told) ts) ≤ length (filter (has_verdict now) ts)) × (length (filter (has_verdict now) ts) ≤ length ts)
  counts [] = (omega arith, omega arith)
  counts (t ∷ ts) = let ih = counts ts in elim (cases_Bool (has_verdict told t)) [
    | inl k ↦ (let also : has_verdict now t ≡ true = has_now t ∙ or_left (has_verdict told t) _ k in rw (k, also) (omega (arith, ih.0), omega (arith, ih.1)))
    | inr k ↦ elim (cases_Bool (has_verdict now t)) [
      | inl l ↦ rw (k, l) (omega (arith, ih.0), omega (arith, ih.1))
      | inr l ↦ rw (k, l) (omega (arith, ih.0), omega (arith, ih.1))
    ]
  ]

  -- and of those with this one, which had none, one more
  counts_more : has_verdict told this ≡ false → (ts : List Triple) → list_any (same_triple this) ts ≡ true → length (filter (has_verdict told) ts) < length (filter (has_verdict now) ts)
  counts_more new [] inside = cc
  counts_more new (t ∷ ts) inside = elim (cases_Bool (same_triple this t)) [
    | inl here ↦ (let is : this ≡ t = same_triple_is this t here in
        let none : has_verdict told t ≡ false = ap (has_verdict told) (sym is) ∙ new in
        let itself : same_triple t this ≡ true = ap (λ x. same_triple x this) (sym is) ∙ same_triple_itself this in
        let one : has_verdict now t ≡ true = has_now t ∙ or_right (has_verdict told t) _ (or_left (same_triple t this) false itself) in
        let rest = (counts ts).0 in
        rw (none, one) (omega (arith, rest)))
    | inr other ↦ (let rest : list_any (same_triple this) ts ≡ true = rw other at inside in
        let ih = counts_more new ts rest in
        elim (cases_Bool (has_verdict told t)) [
          | inl k ↦ (let also : has_verdict now t ≡ true = has_now t ∙ or_left (has_verdict told t) _ k in rw (k, also) (omega (arith, ih)))
          | inr k ↦ elim (cases_Bool (has_verdict now t)) [
            | inl l ↦ rw (k, l) (omega (arith, ih))
            | inr l ↦ rw (k, l) (omega (arith, ih))
          ]
        ])
  ]

  module _ (log end : List Body) (stay : (c : Body) → stands log c ≡ true → state_before end c ≡ state_before log c) where
    claims_same : (c : Body) → claims_on now c ≡ claims_on told c
    claims_same c = claims_heard told reader b key sig verdict c

    raised_now : (c : Body) → stands log c ≡ true → raised_by now end c ≡ raised_by told log c
    raised_now c up = raised_same now log end c (stay c up) ∙ raised_alike told now log c (claims_same c)

    -- on each body no more claims have none
    no_more : (c : Body) → unheard_on now end c ≤ unheard_on told log c
    no_more c =
        let claims = ap length (claims_same c) in
        elim (cases_Bool (stands log c)) [
          | inl up ↦ (let same = ap (λ ts. length (filter (has_verdict now) ts)) (raised_now c up) in let k = (counts (raised_by told log c)).0 in omega (arith, claims, same, k))
          | inr down ↦ (let none = ap (λ ts. length (filter (has_verdict told) ts)) (raised_none told log c down) in omega (arith, claims, none))
        ]

    -- and on this body fewer
    one_fewer : stands log b ≡ true → list_any (same_triple this) (raised_by told log b) ≡ true → has_verdict told this ≡ false → unheard_on now end b < unheard_on told log b
    one_fewer up inside new =
        let claims = ap length (claims_same b) in
        let same = ap (λ ts. length (filter (has_verdict now) ts)) (raised_now b up) in
        let more = counts_more new (raised_by told log b) inside in
        let most = (counts (raised_by told log b)).1 in
        let short = raised_short told log b in
        omega (arith, claims, same, more, most, short)

    -- FEWER: on all of them
    pub fewer_unheard : stands log b ≡ true → list_any (same_triple this) (raised_by told log b) ≡ true → has_verdict told this ≡ false
        → (xs : List Body) (n : ℕ) → slice_get xs n ≡ Some b → sum_by (unheard_on now end) xs < sum_by (unheard_on told log) xs
    fewer_unheard up inside new xs n at = sum_less (unheard_on now end) (unheard_on told log) no_more b (one_fewer up inside new) xs n at
