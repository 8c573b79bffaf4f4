-- The delegator of an identifier stays, and the events of a family that stand behind each other in a log do so among its events.
use Rattle.std.proofs.Common.{◌≡◌, Bool, true, false, List, [], ◌∷◌, ◌++◌, Option, Some, None, is_none, refl, sym, ◌∙◌, ap, subst, inl, inr, append_assoc, append-nil}
use Rattle.std.specs.Prelude.{find, filter}
use Rattle.std.proofs.lemmas.Bool.{cases_Bool}
use Rattle.std.proofs.lemmas.List.Elements.{filter-append}
use Rattle.cesr_codes.specs.declared.prefix.Prefix.{Prefix}
use Rattle.event_body.specs.declared.event_body.event.Event.{Event}
use Rattle.event_body.specs.declared.event_body.event.Event.TheVariants.{Icp, Rot, Ixn, Dip, Drt, Rct}
use Rattle.event_body.specs.EventBody.Events.{prefix_of}
use Rattle.key_state.specs.KeyStates.{misfit, moved}
use Rattle.key_state.specs.States.{State}
use Rattle.key_state.proofs.Same.{same_prefix_is, same_prefix_itself}
use Rattle.journal.specs.declared.journal.body.Body.{Body}
use Rattle.journal.specs.Journal.Grown.{IsGrown}
use Rattle.journal.specs.Journal.Logs.{is_in, is_of, precedes, predecessor, same_body, state, state_behind, stepped, takes, up_to}
use Rattle.journal.specs.Journal.Questions.{state_before}
use Rattle.journal.specs.Journal.Seals.{delegator_of}
use Rattle.journal.proofs.JournalLemmas.StateSteps.{state-own, state-other}
use Rattle.export_core.specs.ExportLaws.Export.{InFamily, IsFamily, delegator, delegator_if, exported, is_of_some, itself}
use Rattle.key_state.proofs.Among.{Among, among, contained, left_among, parted, passed, passing}
use Rattle.journal_views.proofs.JournalLawsLemmas.Followed.{up_to_there, predecessor_found, precedes_parts, same_own}
use Rattle.journal_views.proofs.JournalLawsLemmas.Numbered.{fit_parts, own}

-- one more event leaves the delegator of a state
pub moved_delegator : (s : State) (e : Event) → (moved s e).delegator ≡ s.delegator
moved_delegator s (Rot e) = refl
moved_delegator s (Drt e) = refl
moved_delegator s (Ixn e) = refl
moved_delegator s (Icp e) = refl
moved_delegator s (Dip e) = refl
moved_delegator s (Rct e) = refl

stepped_delegator : (s : State) (e : Event) (d : Prefix) → s.delegator ≡ Some d → delegator_if (stepped (Some s) e) ≡ Some d
stepped_delegator s e d h = elim (cases_Bool (is_none (misfit s e))) [
  | inl k ↦ rw k (moved_delegator s e ∙ h)
  | inr k ↦ rw k h
]

pub delegator_stays : (prefix : Prefix) (seen later : List Body) (d : Prefix) → delegator_if (state seen prefix) ≡ Some d → delegator_if (state (seen ++ later) prefix) ≡ Some d
delegator_stays prefix seen [] d h = subst (λ xs. delegator_if (state xs prefix) ≡ Some d) (sym (append-nil seen)) h
delegator_stays prefix seen (b ∷ later) d h =
    subst (λ xs. delegator_if (state xs prefix) ≡ Some d) (append_assoc seen (b ∷ []) later) (delegator_stays prefix (seen ++ b ∷ []) later d (elim (cases_Bool (is_of prefix b)) [
      | inr k ↦ ap delegator_if (state-other seen b prefix k) ∙ h
      | inl k ↦ ap delegator_if (state-own seen b prefix k) ∙ of (state seen prefix) h
    ]))
  where
    of : (o : Option State) → delegator_if o ≡ Some d → delegator_if (stepped o b.event) ≡ Some d
    of None h = cc
    of (Some s) h = stepped_delegator s b.event d h

-- the delegator of an event is that of the state behind it
new_delegator : (o : Option State) (e : Event) (d : Prefix) → takes o e ≡ true → delegator_of o e ≡ Some d → delegator_if (stepped o e) ≡ Some d
unfolding misfit
new_delegator None (Dip e) d t h = h
new_delegator None (Icp e) d t h = cc
new_delegator None (Rot e) d t h = cc
new_delegator None (Ixn e) d t h = cc
new_delegator None (Drt e) d t h = cc
new_delegator None (Rct e) d t h = cc
new_delegator (Some s) (Dip e) d t h = cc
new_delegator (Some s) (Drt e) d t h = stepped_delegator s (Drt e) d h
new_delegator (Some s) (Icp e) d t h = cc
new_delegator (Some s) (Rot e) d t h = cc
new_delegator (Some s) (Ixn e) d t h = cc
new_delegator (Some s) (Rct e) d t h = cc

pub delegator_is : (front later : List Body) (b : Body) (d : Prefix) → takes (state front (prefix_of b.event)) b.event ≡ true
    → delegator_of (state front (prefix_of b.event)) b.event ≡ Some d → delegator_if (state (front ++ b ∷ later) (prefix_of b.event)) ≡ Some d
delegator_is front later b d t h =
    let its = prefix_of b.event in
    let step = state-own front b its (same_prefix_itself its) in
    subst (λ xs. delegator_if (state xs its) ≡ Some d) (append_assoc front (b ∷ []) later)
    (delegator_stays its (front ++ b ∷ []) later d (ap delegator_if step ∙ new_delegator (state front its) b.event d t h))

module _ (family : List Prefix) where
  -- an event of an identifier of the family is of it
  pub of_family : (p : Prefix) (b : Body) → Among p family → is_of p b ≡ true → is_of_some family b ≡ true
  of_family p b m h = passed (λ p. is_of p b) family p m h

  pub family_of : (b : Body) → is_of_some family b ≡ true → Among (prefix_of b.event) family
  family_of b h = (let q = passing (λ p. is_of p b) family h in subst (λ p. Among p family) (sym (same_prefix_is (prefix_of b.event) q.0 q.2)) q.1)

  -- a test that passes events of the family alone
  module _ (test : Body → Bool) (only : (b : Body) → test b ≡ true → is_of_some family b ≡ true) where
    pub filter_family : (log : List Body) → filter test (exported family log) ≡ filter test log
    filter_family [] = refl
    filter_family (b ∷ log) = elim (cases_Bool (is_of_some family b)) [
      | inl k ↦ (let ih = filter_family log in elim (cases_Bool (test b)) [ inl t ↦ rw (k, t, ih) refl | inr t ↦ rw (k, t, ih) refl ])
      | inr k ↦ (let ih = filter_family log in elim (cases_Bool (test b)) [ inl t ↦ (let y = only b t in cc) | inr t ↦ rw (k, t, ih) refl ])
    ]

    pub find_family : (log : List Body) → find test (exported family log) ≡ find test log
    find_family [] = refl
    find_family (b ∷ log) = elim (cases_Bool (is_of_some family b)) [
      | inl k ↦ (let ih = find_family log in elim (cases_Bool (test b)) [ inl t ↦ rw (k, t) refl | inr t ↦ rw (k, t, ih) refl ])
      | inr k ↦ (let ih = find_family log in elim (cases_Bool (test b)) [ inl t ↦ (let y = only b t in cc) | inr t ↦ rw (k, t, ih) refl ])
    ]

  pub own_family : (p : Prefix) (log : List Body) → Among p family → own p (exported family log) ≡ own p log
  own_family p log m = filter_family (is_of p) (λ b h. of_family p b m h) log

  pub state_family : (p : Prefix) (log : List Body) → Among p family → state (exported family log) p ≡ state log p
  state_family p log m = same_own p (exported family log) log (own_family p log m)

  prior_family : (log : List Body) (b : Body) → ((c : Body) → precedes b c ≡ true → is_of_some family c ≡ true) → predecessor (exported family log) b ≡ predecessor log b
  unfolding predecessor
  prior_family log b only = find_family (precedes b) only log

  exported_front : (front later : List Body) (c : Body) → is_of_some family c ≡ true → exported family (front ++ c ∷ later) ≡ exported family front ++ c ∷ exported family later
  exported_front front later c k = filter-append (is_of_some family) front (c ∷ later) ∙ (rw k refl)

  pub exported_new : (front : List Body) (c : Body) → is_in front c ≡ false → is_in (exported family front) c ≡ false
  exported_new front c new = elim (cases_Bool (is_in (exported family front) c)) [
    | inr k ↦ k
    | inl k ↦ (let q = passing (λ d. same_body d c) (exported family front) k in
        let old : is_in front c ≡ true = passed (λ d. same_body d c) front q.0 (left_among (is_of_some family) front q.0 q.1).0 q.2 in cc)
  ]

  -- FOLLOWED: an event of the family follows the same state among the exported ones
  pub before_family : (log : List Body) (b : Body) → IsGrown log → is_of_some family b ≡ true → state_before (exported family log) b ≡ state_before log b
  before_family log b grown k = of (predecessor log b) refl
    where
      its_family : Among (prefix_of b.event) family
      its_family = family_of b k

      prior : predecessor (exported family log) b ≡ predecessor log b
      prior = prior_family log b (λ c h. of_family (prefix_of b.event) c its_family (precedes_parts b c h).0)

      of : (o : Option Body) → predecessor log b ≡ o → state_before (exported family log) b ≡ state_before log b
      of None e = ap (λ o. state_behind (exported family log) o) (prior ∙ e) ∙ sym (ap (λ o. state_behind log o) e)
      of (Some c) e =
          let f = predecessor_found log b c e in
          let c_of = (precedes_parts b c f.1).0 in
          let c_its : prefix_of c.event ≡ prefix_of b.event = same_prefix_is (prefix_of c.event) (prefix_of b.event) c_of in
          let c_family = of_family (prefix_of b.event) c its_family c_of in
          let s = parted log c f.0 in
          let new = (fit_parts s.0 c (grown s.0 s.1 c s.2)).1 in
          let cut : up_to c log ≡ s.0 ++ c ∷ [] = ap (up_to c) s.2 ∙ up_to_there s.0 s.1 c new in
          let cut' : up_to c (exported family log) ≡ exported family s.0 ++ c ∷ [] =
          ap (λ xs. up_to c (exported family xs)) s.2 ∙ ap (up_to c) (exported_front s.0 s.1 c c_family) ∙ up_to_there (exported family s.0) (exported family s.1) c (exported_new s.0 c new) in
          let same : state (exported family s.0 ++ c ∷ []) (prefix_of c.event) ≡ state (s.0 ++ c ∷ []) (prefix_of c.event) =
          ap (λ xs. state xs (prefix_of c.event)) (sym (exported_front s.0 [] c c_family)) ∙ state_family (prefix_of c.event) (s.0 ++ c ∷ []) (family_of c c_family) in
          ap (λ o. state_behind (exported family log) o) (prior ∙ e) ∙ ap (λ xs. state xs (prefix_of c.event)) cut' ∙ same ∙ ap (λ xs. state xs (prefix_of c.event)) (sym cut) ∙ sym (ap (λ o. state_behind log o) e)

-- CLOSED: a list that has the first, whose members are of the family, and that has the delegator of each, is the family
pub family_by : (log : List Body) (first : Prefix) (family : List Prefix) → Among first family → ((p : Prefix) → Among p family → InFamily log first p)
    → ((p d : Prefix) → Among p family → delegator_if (state log p) ≡ Some d → Among d family) → IsFamily log first family
family_by log first family has all closed p = ((λ m. all p (among family p m)), (λ f. contained family p (inside p f)))
  where
    inside : (p : Prefix) → InFamily log first p → Among p family
    inside p itself = has
    inside d (delegator {p = p} f e) = closed p d (inside p f) e
