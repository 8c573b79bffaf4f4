-- The live events of an identifier in a list that acceptance can make, by its state.
use Rattle.std.proofs.Common.{◌≡◌, ℕ, ◌+◌, ◌-◌, ◌<◌, ◌≤◌, ◌==◌, true, false, List, [], ◌∷◌, ◌++◌, length, Option, Some, None, is_none, option_map, refl, sym, ap, subst, ◌∙◌, arith, inl, inr, append-nil, length-append}
use Rattle.std.specs.Prelude.{find, nat_le, slice_get}
use Rattle.std.proofs.lemmas.Bool.{and_from, cases_Bool, cases_lt, eqb-true, le-ltb}
use Rattle.std.proofs.lemmas.Bool.Decides.{nat_tests}
use Rattle.std.proofs.lemmas.List.{append_assoc}
use Rattle.std.proofs.lemmas.Option.{slice_get_past}
use Rattle.cesr_codes.specs.declared.digest.Digest.{Digest}
use Rattle.cesr_codes.specs.declared.prefix.Prefix.{Prefix}
use Rattle.event_body.specs.declared.event_body.event.Event.{Event}
use Rattle.event_body.specs.declared.event_body.event.Event.TheVariants.{Icp, Rot, Ixn, Dip, Drt, Rct}
use Rattle.event_body.specs.EventBody.Events.{is_interaction, prefix_of, said_of, sn_of}
use Rattle.journal.specs.declared.journal.body.Body.{Body}
use Rattle.journal.specs.Journal.Grown.{IsGrown}
use Rattle.journal.specs.Journal.Logs.{is_of, live, state, stepped, takes}
use Rattle.journal.proofs.JournalLemmas.StateSteps.{state-other}
use Rattle.key_state.specs.Heads.{head_sn}
use Rattle.key_state.specs.KeyStates.{digest_at, misfit, moved}
use Rattle.key_state.specs.States.{State}
use Rattle.key_state.proofs.Same.{same_prefix_is, same_prefix_itself}
use Rattle.lists.proofs.ListsLemmas.Places.{at_end, not_at_end}
use Rattle.validator_core.specs.Tables.AcceptedLog.Values.{with_since}
use Rattle.validator_core.proofs.TablesLemmas.AcceptedLogLemmas.StateSteps.{Fits, IsNew, fits_parts, goes_onto, new_of, own_state}
use Rattle.witness_core.specs.WitnessReceipts.Fates.{live_there, said_at}
use Rattle.witness_core.proofs.WitnessReceiptsLemmas.Living.{live_before, live_last, live_other}

-- without a state nothing is live, and a state has the digests of the live events from its last establishment event on
abbrev Says : Prefix → List Body → Option State → Type 0
Says prefix log None = live log prefix ≡ []
Says prefix log (Some s) = (sn : ℕ) → s.est_sn ≤ sn → live_there log prefix sn ≡ digest_at s sn

says_other : (prefix : Prefix) (log : List Body) (b : Body) (o : Option State) → is_of prefix b ≡ false → Says prefix log o → Says prefix (log ++ b ∷ []) o
says_other prefix log b None h p = live_other log prefix b h ∙ p
says_other prefix log b (Some s) h p = λ sn low. live_before log prefix sn b (rw h refl) ∙ p sn low

digest_from : (s : State) (n : ℕ) → s.est_sn ≤ n → digest_at s n ≡ slice_get s.since (n - s.est_sn)
digest_from s n low = let not_below = le-ltb n s.est_sn low in rw not_below refl

-- an event that the state takes leaves a state
taken_some : (o : Option State) (e : Event) → takes o e ≡ true → stepped o e ≡ None → ⊥
taken_some None (Icp e) h is = cc
taken_some None (Dip e) h is = cc
taken_some None (Rot e) h is = cc
taken_some None (Ixn e) h is = cc
taken_some None (Drt e) h is = cc
taken_some None (Rct e) h is = cc
taken_some (Some s) e h is = elim (cases_Bool (is_none (misfit s e))) [
  | inl y ↦ (let clash : Some (moved s e) ≡ None = rw y at is in cc)
  | inr y ↦ (let clash : Some s ≡ None = rw y at is in cc)
]

module _ (log : List Body) (b : Body) (f : Fits log b) where
  abbrev its : Prefix
  its = prefix_of b.event

  -- from its own number on the event alone says what is live, and before that it leaves what is
  later : (sn : ℕ) → sn_of b.event ≤ sn → live_there (log ++ b ∷ []) its sn ≡ said_at sn b.event
  later sn low =
      let within : nat_le (sn_of b.event) sn ≡ true = grind (arith, nat_tests) in
      live_last log its sn b (and_from _ _ (same_prefix_itself its) within)

  earlier : (sn : ℕ) → sn < sn_of b.event → live_there (log ++ b ∷ []) its sn ≡ live_there log its sn
  earlier sn less =
      let out : nat_le (sn_of b.event) sn ≡ false = grind (arith, nat_tests) in
      live_before log its sn b (rw (same_prefix_itself its, out) refl)

  -- an event that makes a state
  establishes : (s : State) → IsNew b.event s → Says its (log ++ b ∷ []) (Some s)
  establishes s new sn low = later sn (omega (arith, low, new.est)) ∙ sym (digest_from s sn low ∙ ap (λ ds. slice_get ds (sn - s.est_sn)) new.alone ∙ alone)
    where
      alone : slice_get (said_of b.event ∷ []) (sn - s.est_sn) ≡ said_at sn b.event
      alone = elim (cases_Bool (sn_of b.event == sn)) [
        | inl k ↦ (let here : sn - s.est_sn ≡ 0 = omega (arith, eqb-true (sn_of b.event) sn k, new.est) in rw (here, k) refl)
        | inr k ↦ (let past : 1 ≤ sn - s.est_sn = grind (arith, nat_tests, low, new.est, k) in rw k (slice_get_past (said_of b.event ∷ []) (sn - s.est_sn) past))
      ]

  -- an interaction, which goes onto a state
  goes : (s : State) → 0 < length s.since → sn_of b.event ≡ head_sn s + 1 → Says its log (Some s) → Says its (log ++ b ∷ []) (Some (with_since (said_of b.event) s))
  goes s some next p sn low = elim (cases_lt sn (sn_of b.event)) [
    | inl less ↦ earlier sn less ∙ p sn low ∙ digest_from s sn low
        ∙ sym (not_at_end s.since d (sn - s.est_sn) (λ same. absurd (omega (arith, same, less, next, some, low)))) ∙ sym longer
    | inr more ↦ later sn more ∙ last more ∙ sym longer
  ]
    where
      d : Digest
      d = said_of b.event

      longer : digest_at (with_since d s) sn ≡ slice_get (s.since ++ d ∷ []) (sn - s.est_sn)
      longer = digest_from (with_since d s) sn low

      last : sn_of b.event ≤ sn → said_at sn b.event ≡ slice_get (s.since ++ d ∷ []) (sn - s.est_sn)
      last more = elim (cases_Bool (sn_of b.event == sn)) [
        | inl k ↦ (let at : sn - s.est_sn ≡ length s.since = omega (arith, eqb-true (sn_of b.event) sn k, next, some) in rw (k, at) (sym (at_end s.since d)))
        | inr k ↦ (let past : length s.since + 1 ≤ sn - s.est_sn = grind (arith, nat_tests, more, next, some, k) in
            rw k (sym (slice_get_past (s.since ++ d ∷ []) (sn - s.est_sn) (omega (arith, past, length-append s.since (d ∷ []))))))
      ]

  own : Says its log (state log its) → Says its (log ++ b ∷ []) (state (log ++ b ∷ []) its)
  own p = subst (Says its (log ++ b ∷ [])) (sym f.step) (elim (cases_Bool (is_interaction b.event)) [
    | inl i ↦ (let g = goes_onto (state log its) b.event f.taken i in
        subst (Says its (log ++ b ∷ [])) (sym g.1.now) (goes g.0 (own_state its log g.0 g.1.was).some g.1.next (subst (Says its log) g.1.was p)))
    | inr i ↦ made i (stepped (state log its) b.event) refl
  ])
    where
      made : is_interaction b.event ≡ false → (o : Option State) → stepped (state log its) b.event ≡ o → Says its (log ++ b ∷ []) o
      made i None is = absurd (taken_some (state log its) b.event f.taken is)
      made i (Some t) is = establishes t (new_of (state log its) b.event t f.taken i f.event is)

  one_more : (prefix : Prefix) → Says prefix log (state log prefix) → Says prefix (log ++ b ∷ []) (state (log ++ b ∷ []) prefix)
  one_more prefix p = elim (cases_Bool (is_of prefix b)) [
    | inl k ↦ (let is = same_prefix_is its prefix k in
        subst (λ r. Says r (log ++ b ∷ []) (state (log ++ b ∷ []) r)) is (own (subst (λ r. Says r log (state log r)) (sym is) p)))
    | inr k ↦ subst (Says prefix (log ++ b ∷ [])) (sym (state-other log b prefix k)) (says_other prefix log b (state log prefix) k p)
  ]

all_say : (prefix : Prefix) (front later : List Body) → IsGrown (front ++ later) → Says prefix front (state front prefix) → Says prefix (front ++ later) (state (front ++ later) prefix)
all_say prefix front [] grown p = subst (λ l. Says prefix l (state l prefix)) (sym (append-nil front)) p
all_say prefix front (b ∷ later) grown p =
    let parted : (front ++ b ∷ []) ++ later ≡ front ++ b ∷ later = append_assoc front (b ∷ []) later in
    subst (λ l. Says prefix l (state l prefix)) parted
    (all_say prefix (front ++ b ∷ []) later (subst IsGrown (sym parted) grown) (one_more front b (fits_parts front b (grown front later b refl)) prefix p))

nothing_says : (prefix : Prefix) → Says prefix [] (state [] prefix)
unfolding state live
nothing_says prefix = refl

says_live : (prefix : Prefix) (log : List Body) → IsGrown log → Says prefix log (state log prefix)
says_live prefix log grown = all_say prefix [] log grown (nothing_says prefix)

-- NONE: without a state nothing is live
pub none_live : (log : List Body) (prefix : Prefix) (sn : ℕ) → IsGrown log → state log prefix ≡ None → live_there log prefix sn ≡ None
none_live log prefix sn grown none =
    let is : live log prefix ≡ [] = subst (Says prefix log) none (says_live prefix log grown) in
    ap (λ l. option_map (λ (c : Body). said_of c.event) (find (λ c. sn_of c.event == sn) l)) is

-- SINCE: from the last establishment event on the state has the digests of the live events
pub live_since : (log : List Body) (prefix : Prefix) (s : State) (sn : ℕ) → IsGrown log → state log prefix ≡ Some s → s.est_sn ≤ sn
    → live_there log prefix sn ≡ slice_get s.since (sn - s.est_sn)
live_since log prefix s sn grown is low =
    let says : Says prefix log (Some s) = subst (Says prefix log) is (says_live prefix log grown) in says sn low ∙ digest_from s sn low
