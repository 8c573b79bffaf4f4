-- How often a body is woken in a list without a clash of digests: by the event before it once, and by a seal once.
use Rattle.std.proofs.Common.{◌≡◌, ℕ, ◌+◌, ◌≤◌, ◌⊎◌, Bool, true, false, not, cond, ◌&&◌, ◌||◌, ◌==◌, List, [], ◌∷◌, ◌++◌, Option, Some, None, is_some, is_none, Contains, refl, sym, ◌∙◌, ap, subst, arith, inl, inr, append_assoc}
use Rattle.std.specs.Prelude.{find}
use Rattle.std.specs.Cmp.Lexicographic.{bytes_decides}
use Rattle.std.proofs.lemmas.Bool.{cases_Bool, and_parts, or_left, or_right, or_cases, not-true, eqb-true}
use Rattle.std.proofs.Math.Bool.{and-false}
use Rattle.std.proofs.lemmas.List.Elements.{Contains-push, Contains-append_left, Contains-append_right}
use Rattle.std.proofs.lemmas.List.Folds.{list_any-append}
use Rattle.cesr_codes.specs.declared.digest.Digest.{Digest}
use Rattle.cesr_codes.specs.declared.prefix.Prefix.{Prefix}
use Rattle.event_body.specs.declared.event_body.event.Event.{Event}
use Rattle.event_body.specs.declared.event_body.event.Event.TheVariants.{Icp, Rot, Ixn, Dip, Drt, Rct}
use Rattle.event_body.specs.EventBody.Events.{prefix_of, sn_of, said_of, prior_of, is_inception, is_receipt, is_delegated}
use Rattle.key_state.specs.KeyStates.{are_same, misfit, moved}
use Rattle.key_state.specs.States.{State}
use Rattle.key_state.proofs.Same.{same_prefix_is}
use Rattle.journal.specs.declared.journal.body.Body.{Body}
use Rattle.journal.specs.declared.journal.mode.Mode.{Mode}
use Rattle.journal.specs.Journal.Grown.{IsGrown, fits}
use Rattle.journal.specs.Journal.Logs.{is_in, is_of, same_body, state, stepped, precedes, predecessor}
use Rattle.journal.specs.Journal.Seals.{seals, anchored, forbids, is_sealed, delegator_of}
use Rattle.journal.specs.Journal.Readiness.{is_local}
use Rattle.journal.proofs.JournalLemmas.StateSteps.{state-own, state-other}
use Rattle.journal.proofs.JournalLemmas.Settling.{find-true}
use Rattle.claim_table.proofs.CoreLawsLemmas.Members.{find_contains, member_any}
use Rattle.claim_table.specs.CoreLaws.Looks.{times, TwiceLaw, OnceLaw}
use Rattle.claim_table.specs.CoreLaws.Standing.{HasNoClash}
use Rattle.claim_table.specs.CoreLaws.Waking.{holds_first_seal, seals_first, is_waiting, is_there, is_anchored, may_wake, wakes}
use Rattle.claim_table.proofs.CoreLawsLemmas.States.{same_digest_is}

one_prior : (o : Option Digest) (d e : Digest) → are_same o (Some d) ≡ true → are_same o (Some e) ≡ true → d ≡ e
one_prior None d e h k = cc
one_prior (Some q) d e h k = sym (same_digest_is q d h) ∙ same_digest_is q e k

-- what precedes a body
pub parts_of : (b c : Body) → precedes b c ≡ true → (prefix_of c.event ≡ prefix_of b.event) × (sn_of c.event + 1 ≡ sn_of b.event) × (are_same (prior_of b.event) (Some (said_of c.event)) ≡ true)
parts_of b c h =
    let parts = and_parts (is_of (prefix_of b.event) c && (sn_of c.event + 1 == sn_of b.event)) (are_same (prior_of b.event) (Some (said_of c.event))) h in
    let first = and_parts (is_of (prefix_of b.event) c) (sn_of c.event + 1 == sn_of b.event) parts.0 in
    (same_prefix_is (prefix_of c.event) (prefix_of b.event) first.0, eqb-true (sn_of c.event + 1) (sn_of b.event) first.1, parts.1)

-- BY `p` ONCE
module _ (b : Body) where
  abbrev befores : List Body → ℕ
  befores [] = 0
  befores (c ∷ new) = cond (precedes b c) 1 0 + befores new

  no_more : (log new : List Body) (c : Body) → Contains log c → precedes b c ≡ true → IsGrown (log ++ new) → HasNoClash (log ++ new) → befores new ≡ 0
  unfolding fits
  no_more log [] c inside before grown clash = refl
  no_more log (d ∷ new) c inside before grown clash = elim (cases_Bool (precedes b d)) [
    | inr k ↦ (let e = append_assoc log (d ∷ []) new in
        let ih = no_more (log ++ d ∷ []) new c (Contains-append_left log (d ∷ []) c inside) before (subst IsGrown (sym e) grown) (subst HasNoClash (sym e) clash) in rw (k, ih) refl)
    | inl k ↦ (let one = parts_of b c before in let other = parts_of b d k in let sn = one.1 in let sn' = other.1 in
        let same = clash c d (Contains-append_left log (d ∷ new) c inside) (Contains-append_right log (d ∷ new) d (0, omega arith, refl)) (one.0 ∙ sym other.0) (omega (arith, sn, sn')) (one_prior (prior_of b.event) (said_of c.event) (said_of d.event) one.2 other.2) in
        let held : is_in log d ≡ true = member_any (λ x. same_body x d) log c inside ((bytes_decides c.bytes d.bytes).1 same) in
        let new_one = not-true _ (and_parts (not (is_receipt d.event)) _ (and_parts _ _ (grown log new d refl)).0).1 in cc)
  ]

  before_once : (log new : List Body) → IsGrown (log ++ new) → HasNoClash (log ++ new) → befores new ≤ 1
  before_once log [] grown clash = omega arith
  before_once log (c ∷ new) grown clash =
      let e = append_assoc log (c ∷ []) new in
      let grown' = subst IsGrown (sym e) grown in
      let clash' = subst HasNoClash (sym e) clash in
      elim (cases_Bool (precedes b c)) [
        | inl k ↦ (let none = no_more (log ++ c ∷ []) new c (Contains-push log c) k grown' clash' in rw (k, none) (omega arith))
        | inr k ↦ (let ih = before_once (log ++ c ∷ []) new grown' clash' in rw k (omega (arith, ih)))
      ]

-- BY A SEAL ONCE
moved_delegator : (s : State) (e : Event) → (moved s e).delegator ≡ s.delegator
moved_delegator s (Icp e) = refl
moved_delegator s (Rot e) = refl
moved_delegator s (Ixn e) = refl
moved_delegator s (Dip e) = refl
moved_delegator s (Drt e) = refl
moved_delegator s (Rct e) = refl

stepped_delegator : (o : Option State) (e f : Event) (d : Prefix) → delegator_of o f ≡ Some d → delegator_of (stepped o e) f ≡ Some d
stepped_delegator o e (Dip f) d h = h
stepped_delegator None e (Drt f) d h = cc
stepped_delegator (Some s) e (Drt f) d h = elim (cases_Bool (is_none (misfit s e))) [
  | inl k ↦ rw k (moved_delegator s e ∙ h)
  | inr k ↦ rw k h
]
stepped_delegator None e (Icp f) d h = cc
stepped_delegator None e (Rot f) d h = cc
stepped_delegator None e (Ixn f) d h = cc
stepped_delegator None e (Rct f) d h = cc
stepped_delegator (Some s) e (Icp f) d h = cc
stepped_delegator (Some s) e (Rot f) d h = cc
stepped_delegator (Some s) e (Ixn f) d h = cc
stepped_delegator (Some s) e (Rct f) d h = cc

module _ (b : Body) where
  abbrev delegator_in : List Body → Option Prefix
  delegator_in log = delegator_of (state log (prefix_of b.event)) b.event

  delegator_stays : (log : List Body) (c : Body) (d : Prefix) → delegator_in log ≡ Some d → delegator_in (log ++ c ∷ []) ≡ Some d
  delegator_stays log c d h = elim (cases_Bool (is_of (prefix_of b.event) c)) [
    | inl k ↦ (let step = state-own log c (prefix_of b.event) k in ap (λ o. delegator_of o b.event) step ∙ stepped_delegator (state log (prefix_of b.event)) c.event b.event d h)
    | inr k ↦ (let step = state-other log c (prefix_of b.event) k in ap (λ o. delegator_of o b.event) step ∙ h)
  ]

  abbrev sealings : List Body → List Body → ℕ
  sealings log [] = 0
  sealings log (c ∷ new) = cond (seals_first log c b) 1 0 + sealings (log ++ c ∷ []) new

  sealed_stays : (log : List Body) (c : Body) (d : Prefix) → is_sealed log d b.event ≡ true → is_sealed (log ++ c ∷ []) d b.event ≡ true
  sealed_stays log c d h = list_any-append (λ c. is_of d c && seals c.event b.event) log (c ∷ []) ∙ or_left _ _ h

  -- once sealed by its delegator a body isn't sealed first any more
  not_first : (log : List Body) (c : Body) (d : Prefix) → delegator_in log ≡ Some d → is_sealed log d b.event ≡ true → seals_first log c b ≡ false
  not_first log c d own sealed = rw (own, sealed) (by (is_delegated b.event) (is_of d c && seals c.event b.event))
    where
      by : (p q : Bool) → (p && (q && false)) ≡ false
      by true true = refl
      by true false = refl
      by false q = refl

  no_more_seals : (log new : List Body) (d : Prefix) → delegator_in log ≡ Some d → is_sealed log d b.event ≡ true → sealings log new ≡ 0
  no_more_seals log [] d own sealed = refl
  no_more_seals log (c ∷ new) d own sealed =
      let here = not_first log c d own sealed in
      let ih = no_more_seals (log ++ c ∷ []) new d (delegator_stays log c d own) (sealed_stays log c d sealed) in
      rw (here, ih) refl

  first_seals : (log : List Body) (c : Body) (d : Prefix) → delegator_in log ≡ Some d → seals_first log c b ≡ true → is_sealed (log ++ c ∷ []) d b.event ≡ true
  first_seals log c d own h =
      let holds : holds_first_seal log c b (Some d) ≡ true = rw own at (and_parts (is_delegated b.event) (holds_first_seal log c b (delegator_in log)) h).1 in
      let here = (and_parts (is_of d c && seals c.event b.event) (not (is_sealed log d b.event)) holds).0 in
      list_any-append (λ c. is_of d c && seals c.event b.event) log (c ∷ []) ∙ or_right _ _ (or_left _ _ here)

  seal_once : (log new : List Body) → sealings log new ≤ 1
  seal_once log [] = omega arith
  seal_once log (c ∷ new) = elim (cases_Bool (seals_first log c b)) [
    | inr k ↦ (let ih = seal_once (log ++ c ∷ []) new in rw k (omega (arith, ih)))
    | inl k ↦ at (delegator_in log) refl k
  ]
    where
      at : (o : Option Prefix) → delegator_in log ≡ o → seals_first log c b ≡ true → sealings log (c ∷ new) ≤ 1
      at None e k = (let none : false ≡ true = rw e at (and_parts (is_delegated b.event) (holds_first_seal log c b (delegator_in log)) k).1 in cc)
      at (Some d) e k = (let none = no_more_seals (log ++ c ∷ []) new d (delegator_stays log c d e) (first_seals log c d e k) in rw (k, none) (omega arith))

  -- both
  both_few : (mode : Mode) (log : List Body) (c : Body) → cond (may_wake mode log c b) 1 0 ≤ cond (precedes b c) 1 0 + cond (seals_first log c b) 1 0
  both_few mode log c = by (is_waiting (log ++ c ∷ []) b) (precedes b c) (not (is_local mode)) (seals_first log c b)
    where
      by : (w p l s : Bool) → cond (w && (p || (l && s))) 1 0 ≤ cond p 1 0 + cond s 1 0
      by false p l s = omega arith
      by true true l s = omega arith
      by true false false s = omega arith
      by true false true s = omega arith

  times_few : (mode : Mode) (log new : List Body) → times (may_wake mode) log new b ≤ befores b new + sealings log new
  unfolding times
  times_few mode log [] = omega arith
  times_few mode log (c ∷ new) = omega (arith, both_few mode log c, times_few mode (log ++ c ∷ []) new)

none_counts : (w : Bool) → w ≡ false → cond {A = ℕ} w 1 0 ≡ 0
none_counts true h = cc
none_counts false h = refl

one_counts : (w : Bool) → cond w 1 0 ≤ 1
one_counts true = omega arith
one_counts false = omega arith

-- QUIET: what is before the body and its seal are there, so nothing wakes it any more
pub record Quiet (mode : Mode) (log : List Body) (b : Body) : Type 0 where
  pub before : (is_inception b.event ≡ true) ⊎ ((x : Body) × Contains log x × (precedes b x ≡ true))
  pub seal : (is_local mode ≡ true) ⊎ ((is_delegated b.event ≡ false) ⊎ ((d : Prefix) × (delegator_in b log ≡ Some d) × (is_sealed log d b.event ≡ true)))

find_is : (log : List Body) (b : Body) → is_some (predecessor log b) ≡ true → (x : Body) × Contains log x × (precedes b x ≡ true)
unfolding predecessor
find_is log b h = elim (find (precedes b) log) as (λ o. find (precedes b) log ≡ o → is_some o ≡ true → (x : Body) × Contains log x × (precedes b x ≡ true)) [
  | None ↦ (λ e k. cc)
  | Some x ↦ (λ e k. (x, find_contains (precedes b) log x e, find-true (precedes b) log x e))
] refl h

anchored_by : (log : List Body) (b : Body) → anchored log (state log (prefix_of b.event)) b.event ≡ true
    → (is_delegated b.event ≡ false) ⊎ ((d : Prefix) × (delegator_in b log ≡ Some d) × (is_sealed log d b.event ≡ true))
unfolding anchored
anchored_by log b h = elim (cases_Bool (is_delegated b.event)) [
  | inr k ↦ inl k
  | inl k ↦ elim (delegator_in b log) as (λ o. delegator_in b log ≡ o → (is_delegated b.event ≡ false) ⊎ ((d : Prefix) × (delegator_in b log ≡ Some d) × (is_sealed log d b.event ≡ true))) [
    | None ↦ (λ e. let none : false ≡ true = rw (k, e) at h in cc)
    | Some d ↦ (λ e. let both : (is_sealed log d b.event && not (forbids log d)) ≡ true = rw (k, e) at h in inr (d, e, (and_parts (is_sealed log d b.event) (not (forbids log d)) both).0))
  ] refl
]

quiet : (mode : Mode) (log : List Body) (b : Body) → is_there log b ≡ true → is_anchored mode log b ≡ true → Quiet mode log b
quiet mode log b there sealed = record {
  before = elim (or_cases (is_inception b.event) (is_some (predecessor log b)) there) [ inl k ↦ inl k | inr k ↦ inr (find_is log b k) ];
  seal = elim (or_cases (is_local mode) (anchored log (state log (prefix_of b.event)) b.event) sealed) [ inl k ↦ inl k | inr k ↦ inr (anchored_by log b k) ];
}

no_prior : (b c : Body) → is_inception b.event ≡ true → precedes b c ≡ false
no_prior b c h = elim (cases_Bool (precedes b c)) [
  | inr k ↦ k
  | inl k ↦ (let none = nothing b.event h in let same : are_same None (Some (said_of c.event)) ≡ true = rw none at (parts_of b c k).2 in cc)
]
  where
    nothing : (e : Event) → is_inception e ≡ true → prior_of e ≡ None
    nothing (Icp e) h = refl
    nothing (Dip e) h = refl
    nothing (Rot e) h = cc
    nothing (Ixn e) h = cc
    nothing (Drt e) h = cc
    nothing (Rct e) h = cc

module _ (mode : Mode) (b : Body) where
  -- no later event is right before it
  no_second : (log new : List Body) (c : Body) → IsGrown (log ++ c ∷ new) → HasNoClash (log ++ c ∷ new) → (x : Body) → Contains log x → precedes b x ≡ true → precedes b c ≡ false
  unfolding fits
  no_second log new c grown clash x inside before = elim (cases_Bool (precedes b c)) [
    | inr k ↦ k
    | inl k ↦ (let one = parts_of b x before in let other = parts_of b c k in let sn = one.1 in let sn' = other.1 in
        let same = clash x c (Contains-append_left log (c ∷ new) x inside) (Contains-append_right log (c ∷ new) c (0, omega arith, refl)) (one.0 ∙ sym other.0) (omega (arith, sn, sn')) (one_prior (prior_of b.event) (said_of x.event) (said_of c.event) one.2 other.2) in
        let held : is_in log c ≡ true = member_any (λ y. same_body y c) log x inside ((bytes_decides x.bytes c.bytes).1 same) in
        let new_one = not-true _ (and_parts (not (is_receipt c.event)) _ (and_parts _ _ (grown log new c refl)).0).1 in cc)
  ]

  no_before : (log new : List Body) (c : Body) → IsGrown (log ++ c ∷ new) → HasNoClash (log ++ c ∷ new) → Quiet mode log b → precedes b c ≡ false
  no_before log new c grown clash q = elim q.before [
    | inl k ↦ no_prior b c k
    | inr x ↦ no_second log new c grown clash x.0 x.1 x.2
  ]

  no_seal : (log : List Body) (c : Body) → Quiet mode log b → (not (is_local mode) && seals_first log c b) ≡ false
  no_seal log c q = elim q.seal [
    | inl k ↦ rw k refl
    | inr (inl k) ↦ rw k (and-false _)
    | inr (inr d) ↦ (let none = not_first b log c d.0 d.1 d.2 in rw none (and-false _))
  ]

  stays_quiet : (log : List Body) (c : Body) → Quiet mode log b → Quiet mode (log ++ c ∷ []) b
  stays_quiet log c q = record {
    before = elim q.before [ inl k ↦ inl k | inr x ↦ inr (x.0, Contains-append_left log (c ∷ []) x.0 x.1, x.2) ];
    seal = elim q.seal [ inl k ↦ inl k | inr (inl k) ↦ inr (inl k) | inr (inr d) ↦ inr (inr (d.0, delegator_stays b log c d.0 d.1, sealed_stays b log c d.0 d.2)) ];
  }

  not_woken : (log new : List Body) (c : Body) → IsGrown (log ++ c ∷ new) → HasNoClash (log ++ c ∷ new) → Quiet mode log b → wakes mode log c b ≡ false
  not_woken log new c grown clash q =
      let before = no_before log new c grown clash q in
      let seal = no_seal log c q in
      by (is_waiting (log ++ c ∷ []) b) (precedes b c) (not (is_local mode) && seals_first log c b) (is_there (log ++ c ∷ []) b) (is_anchored mode (log ++ c ∷ []) b) before seal
    where
      by : (w p s there sealed : Bool) → p ≡ false → s ≡ false → ((w && (p || s)) && there && sealed) ≡ false
      by w true s there sealed h k = cc
      by w false true there sealed h k = cc
      by true false false there sealed h k = refl
      by false false false there sealed h k = refl

  quiet_times : (log new : List Body) → IsGrown (log ++ new) → HasNoClash (log ++ new) → Quiet mode log b → times (wakes mode) log new b ≡ 0
  unfolding times
  quiet_times log [] grown clash q = refl
  quiet_times log (c ∷ new) grown clash q =
      let e = append_assoc log (c ∷ []) new in
      let here = not_woken log new c grown clash q in
      let ih = quiet_times (log ++ c ∷ []) new (subst IsGrown (sym e) grown) (subst HasNoClash (sym e) clash) (stays_quiet log c q) in
      omega (arith, ih, none_counts _ here)

  once : (log new : List Body) → IsGrown (log ++ new) → HasNoClash (log ++ new) → times (wakes mode) log new b ≤ 1
  unfolding times
  once log [] grown clash = omega arith
  once log (c ∷ new) grown clash =
      let e = append_assoc log (c ∷ []) new in
      let grown' = subst IsGrown (sym e) grown in
      let clash' = subst HasNoClash (sym e) clash in
      elim (cases_Bool (wakes mode log c b)) [
        | inr k ↦ (let ih = once (log ++ c ∷ []) new grown' clash' in omega (arith, ih, none_counts _ k))
        | inl k ↦ (let parts = and_parts (may_wake mode log c b && is_there (log ++ c ∷ []) b) (is_anchored mode (log ++ c ∷ []) b) k in
            let there = (and_parts (may_wake mode log c b) (is_there (log ++ c ∷ []) b) parts.0).1 in
            let none = quiet_times (log ++ c ∷ []) new grown' clash' (quiet mode (log ++ c ∷ []) b there parts.1) in
            omega (arith, none, one_counts (wakes mode log c b)))
      ]

-- TWICE
pub woken_twice : TwiceLaw
woken_twice mode log new b grown clash = omega (arith, times_few b mode log new, before_once b log new grown clash, seal_once b log new)

-- ONCE
pub woken_once : OnceLaw
woken_once mode log new b grown clash = once mode b log new grown clash
