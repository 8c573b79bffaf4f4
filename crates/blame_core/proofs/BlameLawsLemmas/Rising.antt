-- The numbers of an identifier's establishment events rise along a grown list, so that it has one of each number at most.
use Rattle.std.proofs.Common.{◌≡◌, ℕ, ◌+◌, ◌<◌, ◌≤◌, true, List, [], ◌∷◌, ◌++◌, Option, Some, None, is_none, sym, ◌∙◌, ap, subst, arith, inl, inr, append-nil, append_assoc}
use Rattle.std.proofs.lemmas.Bool.{cases_Bool, or_parts, not-false, leb-false, eqb-true}
use Rattle.cesr_codes.specs.declared.prefix.Prefix.{Prefix}
use Rattle.event_body.specs.declared.event_body.event.Event.{Event}
use Rattle.event_body.specs.declared.event_body.event.Event.TheVariants.{Icp, Rot, Ixn, Dip, Drt, Rct}
use Rattle.event_body.specs.EventBody.Events.{prefix_of, sn_of, is_establishment}
use Rattle.key_state.specs.Heads.{head_sn}
use Rattle.key_state.specs.KeyStates.{misfit, moved}
use Rattle.key_state.specs.States.{State}
use Rattle.key_state.proofs.NoMisfit.{fits_sn}
use Rattle.key_state.proofs.Same.{same_prefix_itself}
use Rattle.journal.specs.declared.journal.body.Body.{Body}
use Rattle.journal.specs.Journal.Grown.{IsGrown}
use Rattle.journal.specs.Journal.Logs.{is_of, state, stepped, takes}
use Rattle.journal.proofs.JournalLemmas.StateSteps.{state-own, state-other}
use Rattle.quorum_laws.specs.Histories.{AreLevel}
use Rattle.blame_core.specs.BlameLaws.Blame.{OneEstablishmentLaw}
use Rattle.key_state.proofs.Among.{Among, among, among_either, parted}
use Rattle.blame_core.proofs.BlameLawsLemmas.Journals.{fit_parts, none_is}

-- the state is there, and its last establishment event has this number or a later one
abbrev IsFrom : ℕ → Option State → Type 0
IsFrom n None = ⊥
IsFrom n (Some s) = n ≤ s.est_sn

moved_from : (s : State) (e : Event) (n : ℕ) → n ≤ s.est_sn → misfit s e ≡ None → n ≤ (moved s e).est_sn
moved_from s (Rot e) n h m = (let above = leb-false e.sn s.est_sn (or_parts _ _ (fits_sn s (Rot e) m)).0 in omega (arith, h, above))
moved_from s (Drt e) n h m = (let next = eqb-true e.sn (head_sn s + 1) (not-false _ (fits_sn s (Drt e) m)) in omega (arith, h, next))
moved_from s (Ixn e) n h m = h
moved_from s (Icp e) n h m = h
moved_from s (Dip e) n h m = h
moved_from s (Rct e) n h m = h

stepped_from : (o : Option State) (e : Event) (n : ℕ) → IsFrom n o → IsFrom n (stepped o e)
stepped_from None e n h = absurd h
stepped_from (Some s) e n h = elim (cases_Bool (is_none (misfit s e))) [
  | inl k ↦ rw k (moved_from s e n h (none_is (misfit s e) k))
  | inr k ↦ rw k h
]

stays_from : (prefix : Prefix) (seen later : List Body) (n : ℕ) → IsFrom n (state seen prefix) → IsFrom n (state (seen ++ later) prefix)
stays_from prefix seen [] n h = subst (λ xs. IsFrom n (state xs prefix)) (sym (append-nil seen)) h
stays_from prefix seen (b ∷ later) n h =
    subst (λ xs. IsFrom n (state xs prefix)) (append_assoc seen (b ∷ []) later) (stays_from prefix (seen ++ b ∷ []) later n (elim (cases_Bool (is_of prefix b)) [
      | inl k ↦ subst (IsFrom n) (sym (state-own seen b prefix k)) (stepped_from (state seen prefix) b.event n h)
      | inr k ↦ subst (IsFrom n) (sym (state-other seen b prefix k)) h
    ]))

-- an establishment event sets the number
sets : (o : Option State) (e : Event) → is_establishment e ≡ true → takes o e ≡ true → IsFrom (sn_of e) (stepped o e)
unfolding misfit
sets None (Icp e) h t = omega arith
sets None (Dip e) h t = omega arith
sets None (Rot e) h t = cc
sets None (Ixn e) h t = cc
sets None (Drt e) h t = cc
sets None (Rct e) h t = cc
sets (Some s) (Icp e) h t = cc
sets (Some s) (Dip e) h t = cc
sets (Some s) (Rot e) h t = rw t (omega arith)
sets (Some s) (Drt e) h t = rw t (omega arith)
sets (Some s) (Ixn e) h t = cc
sets (Some s) (Rct e) h t = cc

-- and a state takes one of a later number alone
later_number : (o : Option State) (e : Event) (n : ℕ) → is_establishment e ≡ true → takes o e ≡ true → IsFrom n o → n < sn_of e
unfolding misfit
later_number None e n h t from = absurd from
later_number (Some s) (Icp e) n h t from = cc
later_number (Some s) (Dip e) n h t from = cc
later_number (Some s) (Rot e) n h t from = (let above = leb-false e.sn s.est_sn (or_parts _ _ (fits_sn s (Rot e) (none_is (misfit s (Rot e)) t))).0 in omega (arith, above, from))
later_number (Some s) (Drt e) n h t from = (let next = eqb-true e.sn (head_sn s + 1) (not-false _ (fits_sn s (Drt e) (none_is (misfit s (Drt e)) t))) in omega (arith, next, from))
later_number (Some s) (Ixn e) n h t from = cc
later_number (Some s) (Rct e) n h t from = cc

-- RISING
rising : (log front mid later : List Body) (b c : Body) → IsGrown log → log ≡ front ++ b ∷ (mid ++ c ∷ later) → AreLevel b.event c.event → ⊥
rising log front mid later b c grown split level =
    let its = prefix_of b.event in
    let first = (fit_parts front b (grown front (mid ++ c ∷ later) b split)).2 in
    let split' : log ≡ (front ++ b ∷ mid) ++ c ∷ later = split ∙ sym (append_assoc front (b ∷ mid) (c ∷ later)) in
    let second : takes (state (front ++ b ∷ mid) its) c.event ≡ true = subst (λ p. takes (state (front ++ b ∷ mid) p) c.event ≡ true) (sym level.prefix) (fit_parts (front ++ b ∷ mid) c (grown (front ++ b ∷ mid) later c split')).2 in
    let from = subst (IsFrom (sn_of b.event)) (sym (state-own front b its (same_prefix_itself its))) (sets (state front its) b.event level.first_sets_keys first) in
    let still = subst (λ xs. IsFrom (sn_of b.event) (state xs its)) (append_assoc front (b ∷ []) mid) (stays_from its (front ++ b ∷ []) mid (sn_of b.event) from) in
    let less = later_number (state (front ++ b ∷ mid) its) c.event (sn_of b.event) level.second_sets_keys second still in
    let same = level.sn in
    absurd (omega (arith, less, same))

-- ONE ESTABLISHMENT
pub one_establishment : OneEstablishmentLaw
one_establishment log b c grown b_in c_in level =
    let (front, later, split) = parted log b (among log b b_in) in
    elim (among_either front (b ∷ later) c (subst (λ xs. Among c xs) split (among log c c_in))) [
      | inl m ↦ (let (one, two, parts) = parted front c m in
          absurd (rising log one two later c b grown (split ∙ ap (λ xs. xs ++ b ∷ later) parts ∙ append_assoc one (c ∷ two) (b ∷ later))
          (record { first_sets_keys = level.second_sets_keys; second_sets_keys = level.first_sets_keys; prefix = sym level.prefix; sn = sym level.sn })))
      | inr (inl e) ↦ e
      | inr (inr m) ↦ (let (one, two, parts) = parted later c m in absurd (rising log front one two b c grown (split ∙ ap (λ xs. front ++ b ∷ xs) parts) level))
    ]
