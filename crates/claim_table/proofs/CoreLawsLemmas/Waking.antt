-- Waking: what one more accepted event makes ready is right behind it, or delegated and sealed by it.
use Rattle.std.proofs.Common.{◌≡◌, ◌+◌, ◌-◌, ◌<◌, Bool, true, false, not, ◌&&◌, ◌||◌, codes, List, [], ◌∷◌, ◌++◌, Option, Some, None, is_some, refl, sym, ◌∙◌, ap, arith, inl, inr, eq-eqb}
use Rattle.std.specs.Prelude.{find}
use Rattle.std.specs.List.{list_any}
use Rattle.std.proofs.lemmas.Bool.{cases_Bool, and_parts, and_from, or_parts, or_left, or_right, not-false, not_from_false, leb-false, eqb-true}
use Rattle.std.proofs.lemmas.List.Folds.{list_any-append}
use Rattle.std.proofs.Math.Bool.{or-false}
use Rattle.cesr_codes.specs.declared.prefix.Prefix.{Prefix}
use Rattle.cesr_codes.specs.declared.prefix.Prefix.TheVariants.{Said}
use Rattle.event_body.specs.declared.event_body.event.Event.{Event}
use Rattle.event_body.specs.declared.event_body.event.Event.TheVariants.{Icp, Rot, Ixn, Dip, Drt, Rct}
use Rattle.event_body.specs.EventBody.Events.{prefix_of, sn_of, said_of, prior_of, is_receipt, is_delegated}
use Rattle.key_state.specs.Heads.{head_sn}
use Rattle.key_state.specs.KeyStates.{digest_at, misfit_rules, are_same}
use Rattle.key_state.specs.Same.{same_digest}
use Rattle.key_state.specs.States.{State}
use Rattle.journal.specs.declared.journal.mode.Mode.{Mode}
use Rattle.journal.specs.declared.journal.mode.Mode.TheVariants.{Full, Local}
use Rattle.journal.specs.declared.journal.body.Body.{Body}
use Rattle.journal.specs.Journal.Logs.{is_in, is_of, same_body, state, stepped, takes, precedes, predecessor}
use Rattle.journal.specs.Journal.Seals.{seals, anchored, is_sealed, delegator_of, forbids, has_trait}
use Rattle.journal.specs.Journal.History.{Told}
use Rattle.journal.specs.Journal.Readiness.{is_ready, is_local, is_backed, signed}
use Rattle.journal.proofs.JournalLemmas.StateSteps.{state-own, state-other}
use Rattle.journal.proofs.JournalLemmas.Settling.{outside}
use Rattle.claim_table.specs.CoreLaws.Alike.{AreAlike}
use Rattle.key_state.proofs.Same.{same_prefix_itself}
use Rattle.claim_table.proofs.CoreLawsLemmas.Members.{find_some, member_any}
use Rattle.claim_table.proofs.CoreLawsLemmas.States.{StandIf, all_stand, are_same-some, inside_of}
use Rattle.claim_table.specs.CoreLaws.Waking.{holds_first_seal, is_anchored, is_there, may_wake, WakingLaw}
use Rattle.claim_table.proofs.CoreLawsLemmas.Alike.{signed-alike, is_backed-alike}
use Rattle.claim_table.proofs.CoreLawsLemmas.NextEvents.{AllFalse, HasSome, rules_of_taken, step_next}

-- a body is ready under a state of its identifier
abbrev ready_under : Mode → List Told → List Body → Option State → Body → Bool
ready_under mode told log s b = takes s b.event && signed told s b && (is_local mode || (is_backed told s b && anchored log s b.event))

-- a seal that one more event brings
anchored_first : (log : List Body) (c b : Body) (s : Option State) → anchored log s b.event ≡ false → anchored (log ++ c ∷ []) s b.event ≡ true
    → (is_delegated b.event && holds_first_seal log c b (delegator_of s b.event)) ≡ true
unfolding anchored
anchored_first log c b s fails passes = elim (cases_Bool (is_delegated b.event)) [
  | inr k ↦ (let h : true ≡ false = rw k at fails in cc)
  | inl k ↦ elim (delegator_of s b.event) as (λ o. delegator_of s b.event ≡ o → (is_delegated b.event && holds_first_seal log c b (delegator_of s b.event)) ≡ true) [
    | None ↦ (λ e. let h : false ≡ true = rw (k, e) at passes in cc)
    | Some d ↦ (λ e.
        let old : (is_sealed log d b.event && not (forbids log d)) ≡ false = rw (k, e) at fails in
        let new : (is_sealed (log ++ c ∷ []) d b.event && not (forbids (log ++ c ∷ []) d)) ≡ true = rw (k, e) at passes in
        rw (k, e) (first d old new))
  ] refl
]
  where
    first : (d : Prefix) → (is_sealed log d b.event && not (forbids log d)) ≡ false → (is_sealed (log ++ c ∷ []) d b.event && not (forbids (log ++ c ∷ []) d)) ≡ true
        → (is_of d c && seals c.event b.event && not (is_sealed log d b.event)) ≡ true
    first d old new =
        let parts = and_parts (is_sealed (log ++ c ∷ []) d b.event) (not (forbids (log ++ c ∷ []) d)) new in
        let allowed : not (forbids log d) ≡ true = outside (λ c. is_of d c && has_trait (codes "DND") c.event) log (c ∷ []) parts.1 in
        let unsealed : is_sealed log d b.event ≡ false = elim (cases_Bool (is_sealed log d b.event)) [
          | inr k ↦ k
          | inl k ↦ (let h = and_from (is_sealed log d b.event) (not (forbids log d)) k allowed in cc)
        ] in
        let here : (is_sealed log d b.event || ((is_of d c && seals c.event b.event) || false)) ≡ true = sym (list_any-append (λ c. is_of d c && seals c.event b.event) log (c ∷ [])) ∙ parts.0 in
        let holds : (is_of d c && seals c.event b.event) ≡ true = sym (or-false _) ∙ (rw unsealed at here) in
        and_from _ _ holds (not_from_false _ unsealed)

module _ (mode : Mode) (told : List Told) (log : List Body) (c b : Body) where
  -- where the state stays, only a seal is new
  sealed : (mode' : Mode) (s : Option State) → ready_under mode' told log s b ≡ false → ready_under mode' told (log ++ c ∷ []) s b ≡ true
      → (not (is_local mode') && (is_delegated b.event && holds_first_seal log c b (delegator_of s b.event))) ≡ true
  sealed Local s fails passes = cc
  sealed Full s fails passes =
      let parts = and_parts (takes s b.event && signed told s b) _ passes in
      let more = and_parts (is_backed told s b) _ parts.1 in
      anchored_first log c b s (elim (cases_Bool (anchored log s b.event)) [
        | inr k ↦ k
        | inl k ↦ (let h = and_from _ _ parts.0 (and_from _ _ more.0 k) in cc)
      ]) more.1

  -- what was ready before under a state alike
  ready_too : (s t : State) → AreAlike s t → is_delegated b.event ≡ false → takes (Some s) b.event ≡ true → ready_under mode told (log ++ c ∷ []) (Some t) b ≡ true
      → ready_under mode told log (Some s) b ≡ true
  unfolding anchored
  ready_too s t alike plain takes_it passes =
      let parts = and_parts (takes (Some t) b.event && signed told (Some t) b) _ passes in
      let signs : signed told (Some s) b ≡ true = signed-alike s t alike told b ∙ (and_parts _ _ parts.0).1 in
      let back = is_backed-alike s t alike told b in
      let rest = parts.1 in
      and_from _ _ (and_from _ _ takes_it signs) (rw back (rw plain (rw plain at rest)))

has_some : (prefix : Prefix) (log : List Body) (o : Option State) → StandIf prefix log o → HasSome o
has_some prefix log None names = tt
has_some prefix log (Some s) names = names.some

-- an event that a state takes is right behind one of the list
sn_positive : (s : State) (e : Event) → AllFalse (misfit_rules s e) → 0 < sn_of e
sn_positive s (Rot e) all = let above = leb-false e.sn s.est_sn (or_parts _ _ all.1.1.1.0).0 in omega arith
sn_positive s (Ixn e) all = let next = eqb-true e.sn (head_sn s + 1) (not-false _ all.1.1.1.0) in omega arith
sn_positive s (Drt e) all = let next = eqb-true e.sn (head_sn s + 1) (not-false _ all.1.1.1.0) in omega arith
sn_positive s (Icp e) all = (let h = all.0 in cc)
sn_positive s (Dip e) all = (let h = all.0 in cc)
sn_positive s (Rct e) all = (let h = all.0 in cc)

found_is : {X : Type 0} (p : X → Bool) (xs : List X) → list_any p xs ≡ true → is_some (find p xs) ≡ true
found_is p xs h = (let found = find_some p xs h in ap is_some found.1)

behind_one_of : (log : List Body) (b : Body) (o : Option State) → StandIf (prefix_of b.event) log o → takes o b.event ≡ true → is_there log b ≡ true
unfolding predecessor
behind_one_of log b None names h = or_left _ _ h
behind_one_of log b (Some s) names h =
    let all = rules_of_taken s b.event h in
    let positive = sn_positive s b.event all in
    let prior = are_same-some (prior_of b.event) (digest_at s (sn_of b.event - 1)) (not-false _ all.1.1.1.1.0) in
    let m = names.each (sn_of b.event - 1) prior.0 prior.2 in
    let sn = m.sn in
    let same : are_same (prior_of b.event) (Some (said_of m.body.event)) ≡ true = ap (λ o. are_same o (Some (said_of m.body.event))) prior.1 ∙ ap (same_digest prior.0) m.said ∙ same_prefix_itself (Said prior.0) in
    or_right _ _ (found_is (precedes b) log (member_any (precedes b) log m.body (inside_of m) (and_from _ _ (and_from _ _ m.of (eq-eqb (sn_of m.body.event + 1) (sn_of b.event) (omega (arith, sn, positive)))) same)))

anchored_or : (local backed seal : Bool) → (local || (backed && seal)) ≡ true → (local || seal) ≡ true
anchored_or true backed seal h = refl
anchored_or false true true h = refl
anchored_or false true false h = cc
anchored_or false false seal h = cc

-- WAKING
woken : (mode : Mode) (told : List Told) (log : List Body) (c b : Body) → is_ready mode told log b ≡ false → is_ready mode told (log ++ c ∷ []) b ≡ true → may_wake mode log c b ≡ true
unfolding is_ready
woken mode told log c b waits ready =
    let prefix = prefix_of b.event in
    let s = state log prefix in
    let parts = and_parts (not (is_receipt b.event) && not (is_in (log ++ c ∷ []) b)) (ready_under mode told (log ++ c ∷ []) (state (log ++ c ∷ []) prefix) b) ready in
    let first = and_parts (not (is_receipt b.event)) (not (is_in (log ++ c ∷ []) b)) parts.0 in
    let new = outside (λ d. same_body d b) log (c ∷ []) first.1 in
    let before : ready_under mode told log s b ≡ false = elim (cases_Bool (ready_under mode told log s b)) [
      | inr k ↦ k
      | inl k ↦ (let h = and_from _ _ (and_from _ _ first.0 new) k in cc)
    ] in
    let under : (o : Option State) → state (log ++ c ∷ []) prefix ≡ o → ready_under mode told (log ++ c ∷ []) o b ≡ true
    = λ o e. ap (λ o. ready_under mode told (log ++ c ∷ []) o b) (sym e) ∙ parts.1 in
    let by_seal : state (log ++ c ∷ []) prefix ≡ s → may_wake mode log c b ≡ true
    = λ e. and_from _ _ parts.0 (or_right _ _ (sealed mode told log c b mode s before (under s e))) in
    elim (cases_Bool (is_of prefix c)) [
      | inr other ↦ by_seal (state-other log c prefix other)
      | inl own ↦ (let step = state-own log c prefix own in
          let now = under (stepped s c.event) step in
          let takes_it : takes (stepped s c.event) b.event ≡ true = (and_parts _ _ (and_parts _ _ now).0).0 in
          elim (step_next s c.event b.event (has_some prefix log s (all_stand prefix log)) takes_it) [
            | inl same ↦ by_seal (step ∙ same)
            | inr (inl next) ↦ and_from _ _ parts.0 (or_left _ _ (and_from _ _ (and_from _ _ own (eq-eqb (sn_of c.event + 1) (sn_of b.event) (sym next.0))) next.1))
            | inr (inr taken) ↦ (let again = ready_too mode told log c b taken.old taken.new taken.alike taken.undelegated taken.takes_it (under (Some taken.new) (step ∙ taken.new_is)) in
                let was : ready_under mode told log s b ≡ true = ap (λ o. ready_under mode told log o b) taken.old_is ∙ again in cc)
          ])
    ]

-- what is ready is there and anchored
there : (mode : Mode) (told : List Told) (log : List Body) (b : Body) → is_ready mode told log b ≡ true → (is_there log b ≡ true) × (is_anchored mode log b ≡ true)
unfolding is_ready
there mode told log b ready =
    let s = state log (prefix_of b.event) in
    let parts = and_parts (not (is_receipt b.event) && not (is_in log b)) (ready_under mode told log s b) ready in
    let under = and_parts (takes s b.event && signed told s b) (is_local mode || (is_backed told s b && anchored log s b.event)) parts.1 in (
      behind_one_of log b s (all_stand (prefix_of b.event) log) (and_parts (takes s b.event) (signed told s b) under.0).0,
      anchored_or (is_local mode) (is_backed told s b) (anchored log s b.event) under.1,
    )

pub waking : WakingLaw
waking mode told log c b waits ready = let now = there mode told (log ++ c ∷ []) b ready in and_from _ _ (and_from _ _ (woken mode told log c b waits ready) now.0) now.1
