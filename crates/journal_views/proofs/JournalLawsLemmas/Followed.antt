-- Where no two different events have one identifier and number, the state that an event follows is the same in any two grown lists
-- that have its predecessor, and is the state of its identifier where that takes the event.
use Rattle.std.proofs.Common.{◌≡◌, ◌+◌, ◌-◌, true, false, ◌&&◌, ◌==◌, List, [], ◌∷◌, ◌++◌, length, Option, Some, None, is_none, refl, sym, ◌∙◌, ap, subst, arith, inl, inr, eq-eqb, append_assoc}
use Rattle.std.specs.Prelude.{fold}
use Rattle.std.proofs.lemmas.Bool.{cases_Bool, and_parts, and_from, or_parts, or_left, or_right, not-false, eqb-true}
use Rattle.std.proofs.lemmas.List.Elements.{filter-append}
use Rattle.cesr_codes.specs.declared.prefix.Prefix.{Prefix}
use Rattle.event_body.specs.declared.event_body.event.Event.{Event}
use Rattle.event_body.specs.declared.event_body.event.Event.TheVariants.{Icp, Rot, Ixn, Dip, Drt, Rct}
use Rattle.event_body.specs.EventBody.Events.{prefix_of, sn_of, said_of, prior_of, is_inception, is_receipt}
use Rattle.key_state.specs.Exposure.{own_rules}
use Rattle.key_state.specs.KeyStates.{digest_at, misfit, are_same}
use Rattle.key_state.specs.Same.{same_digest}
use Rattle.key_state.specs.States.{State}
use Rattle.key_state.proofs.NoMisfit.{fits_sn, fits_prior}
use Rattle.key_state.proofs.Same.{same_prefix_is}
use Rattle.journal.specs.declared.journal.body.Body.{Body}
use Rattle.journal.specs.Journal.Grown.{IsGrown, fits}
use Rattle.journal.specs.Journal.Logs.{is_in, is_of, precedes, predecessor, same_body, state, state_behind, stands, stepped, takes, up_to}
use Rattle.journal.specs.Journal.Questions.{state_before}
use Rattle.journal.proofs.JournalLemmas.Accepting.{same_body-refl}
use Rattle.claim_table.proofs.CoreLawsLemmas.States.{StandIf, all_stand, are_same-some, inside_of, none_is, same_itself, sn_positive}
use Rattle.key_state.proofs.Among.{Among, among, among_either, among_left, find_front, finding, found, parted, passed}
use Rattle.journal_views.proofs.JournalLawsLemmas.Numbered.{own, AreFrom, AreEvents, HasOne, all_counted, fit_number, fit_parts, from_push, length_push, own_events, same_numbered}

-- what comes right before a body
pub precedes_parts : (b c : Body) → precedes b c ≡ true → (is_of (prefix_of b.event) c ≡ true) × (sn_of c.event + 1 ≡ sn_of b.event)
precedes_parts b c h =
    let parts = and_parts (is_of (prefix_of b.event) c && (sn_of c.event + 1 == sn_of b.event)) (are_same (prior_of b.event) (Some (said_of c.event))) h in
    let first = and_parts (is_of (prefix_of b.event) c) (sn_of c.event + 1 == sn_of b.event) parts.0 in
    (first.0, eqb-true (sn_of c.event + 1) (sn_of b.event) first.1)

-- the list up to a member that isn't earlier in it
pub up_to_there : (front later : List Body) (c : Body) → is_in front c ≡ false → up_to c (front ++ c ∷ later) ≡ front ++ c ∷ []
unfolding up_to
up_to_there [] later c new = let itself = same_body-refl c in rw itself refl
up_to_there (d ∷ front) later c new =
    let parts = or_parts (same_body d c) (is_in front c) new in
    let other = parts.0 in let ih = up_to_there front later c parts.1 in rw (other, ih) refl

-- states are alike where the events of the identifier are
pub same_own : (prefix : Prefix) (log other : List Body) → own prefix log ≡ own prefix other → state log prefix ≡ state other prefix
unfolding state
same_own prefix log other e = ap (fold (λ s b. stepped s b.event) None) e

-- the rules of an inception are its own
pub inception_rules : (e : Event) (s t : Option State) → is_inception e ≡ true → own_rules s e ≡ own_rules t e
inception_rules (Icp e) s t i = refl
inception_rules (Dip e) s t i = refl
inception_rules (Rot e) s t i = cc
inception_rules (Ixn e) s t i = cc
inception_rules (Drt e) s t i = cc
inception_rules (Rct e) s t i = cc

-- a body that isn't an inception and stands has its predecessor, and the state behind that takes it
pub record Follows (log : List Body) (b : Body) : Type 0 where
  pub prior : Body
  pub behind : State
  pub is_prior : predecessor log b ≡ Some prior
  pub is_behind : state_before log b ≡ Some behind
  pub taken : misfit behind b.event ≡ None

pub follows : (log : List Body) (b : Body) → is_inception b.event ≡ false → stands log b ≡ true → Follows log b
unfolding stands
follows log b i h = of (state_before log b) refl
  where
    with_state : (s : State) → state_before log b ≡ Some s → misfit s b.event ≡ None → (o : Option Body) → predecessor log b ≡ o → Follows log b
    with_state s e m None k = (let none : None ≡ Some s = ap (state_behind log) (sym k) ∙ e in cc)
    with_state s e m (Some c) k = record { prior = c; behind = s; is_prior = k; is_behind = e; taken = m }

    of : (o : Option State) → state_before log b ≡ o → Follows log b
    of None e = (let no : false ≡ true = rw (i, e) at h in cc)
    of (Some s) e = (let none : is_none (misfit s b.event) ≡ true = rw (i, e) at h in with_state s e (none_is (misfit s b.event) none) (predecessor log b) refl)

-- and what does stands
pub stands_by : (log : List Body) (b : Body) (s : State) → state_before log b ≡ Some s → misfit s b.event ≡ None → stands log b ≡ true
unfolding stands
stands_by log b s e m = (let none : is_none (misfit s b.event) ≡ true = rw m refl in rw e (or_right _ _ none))

pub inception_stands : (log : List Body) (b : Body) → is_inception b.event ≡ true → stands log b ≡ true
unfolding stands
inception_stands log b i = or_left _ _ i

pub stands_same : (log other : List Body) (b : Body) → state_before log b ≡ state_before other b → stands log b ≡ stands other b
unfolding stands
stands_same log other b e = rw e refl

pub predecessor_found : (log : List Body) (b c : Body) → predecessor log b ≡ Some c → Among c log × (precedes b c ≡ true)
unfolding predecessor
predecessor_found log b c e = found (precedes b) log c e

pub predecessor_from : (log : List Body) (b c : Body) → Among c log → precedes b c ≡ true → (d : Body) × (predecessor log b ≡ Some d)
unfolding predecessor
predecessor_from log b c m h = finding (precedes b) log (passed (precedes b) log c m h)

pub predecessor_none : (log : List Body) (b c : Body) → predecessor log b ≡ None → Among c log → precedes b c ≡ true → ⊥
predecessor_none log b c e m h = (let f = predecessor_from log b c m h in let some = f.1 in cc)

-- PRIOR: what fits a list and isn't an inception has its predecessor there
pub prior_of_fit : (log : List Body) (b : Body) → fits log b ≡ true → is_inception b.event ≡ false → (c : Body) × (predecessor log b ≡ Some c)
prior_of_fit log b fit i = of (state log (prefix_of b.event)) (all_stand (prefix_of b.event) log) (fit_parts log b fit).2
  where
    of : (o : Option State) → StandIf (prefix_of b.event) log o → takes o b.event ≡ true → (c : Body) × (predecessor log b ≡ Some c)
    of None stand t = cc
    of (Some s) stand t =
        let none = none_is (misfit s b.event) t in
        let r = (fit_parts log b fit).0 in
        let positive = sn_positive s b.event (fits_sn s b.event none) i r in
        let prior = are_same-some (prior_of b.event) (digest_at s (sn_of b.event - 1)) (not-false _ (fits_prior s b.event none)) in
        let x = stand.each (sn_of b.event - 1) prior.0 prior.2 in
        let x_sn = x.sn in
        let same : are_same (prior_of b.event) (Some (said_of x.body.event)) ≡ true = ap (λ o. are_same o (Some (said_of x.body.event))) prior.1 ∙ ap (same_digest prior.0) x.said ∙ same_itself prior.0 in
        predecessor_from log b x.body (among log x.body (inside_of x))
        (and_from _ _ (and_from _ _ x.of (eq-eqb (sn_of x.body.event + 1) (sn_of b.event) (omega (arith, x_sn, positive)))) same)

-- STAYS: the predecessor of a body and the state behind it are the same in a longer log
prior_stays : (front more : List Body) (b c : Body) → predecessor front b ≡ Some c → predecessor (front ++ more) b ≡ Some c
unfolding predecessor
prior_stays front more b c e = find_front (precedes b) front more c e

pub before_stays : (front more : List Body) (b c : Body) → IsGrown front → predecessor front b ≡ Some c → state_before (front ++ more) b ≡ state_before front b
before_stays front more b c grown e =
    let f = predecessor_found front b c e in
    let s = parted front c f.0 in
    let new = (fit_parts s.0 c (grown s.0 s.1 c s.2)).1 in
    let cut : up_to c front ≡ s.0 ++ c ∷ [] = ap (up_to c) s.2 ∙ up_to_there s.0 s.1 c new in
    let longer : front ++ more ≡ s.0 ++ c ∷ (s.1 ++ more) = ap (λ xs. xs ++ more) s.2 ∙ append_assoc s.0 (c ∷ s.1) more in
    let cut' : up_to c (front ++ more) ≡ s.0 ++ c ∷ [] = ap (up_to c) longer ∙ up_to_there s.0 (s.1 ++ more) c new in
    ap (λ o. state_behind (front ++ more) o) (prior_stays front more b c e) ∙ ap (λ xs. state xs (prefix_of c.event)) (cut' ∙ sym cut) ∙ sym (ap (λ o. state_behind front o) e)

module _ (held : List Body) (one : HasOne held) where
  -- the log up to the predecessor of a body: as many events of the identifier as the body's number says
  pub record IsCut (log : List Body) (b : Body) : Type 0 where
    pub front : List Body
    pub state_is : state_before log b ≡ state front (prefix_of b.event)
    pub from : AreFrom 0 (own (prefix_of b.event) front)
    pub many : length (own (prefix_of b.event) front) ≡ sn_of b.event
    pub inside : (c : Body) → Among c (own (prefix_of b.event) front) → Among c held × (is_receipt c.event ≡ false) × (prefix_of c.event ≡ prefix_of b.event)

  pub cut_at : (log : List Body) (b c : Body) → IsGrown log → AreEvents held log → predecessor log b ≡ Some c → IsCut log b
  cut_at log b c grown events e =
      let its = prefix_of b.event in
      let f = predecessor_found log b c e in
      let parts = precedes_parts b c f.1 in
      let (front, later, split) = parted log c f.0 in
      let fit = grown front later c split in
      let new = (fit_parts front c fit).1 in
      let of_c : prefix_of c.event ≡ its = same_prefix_is (prefix_of c.event) its parts.0 in
      let cut : up_to c log ≡ front ++ c ∷ [] = ap (up_to c) split ∙ up_to_there front later c new in
      let before : AreEvents held front = λ x m. events x (subst (λ xs. Among x xs) (sym split) (among_left front (c ∷ later) x m)) in
      let grown_front : IsGrown front = λ xs ys d k. grown xs (ys ++ c ∷ later) d (split ∙ ap (λ zs. zs ++ c ∷ later) k ∙ append_assoc xs (d ∷ ys) (c ∷ later)) in
      let inside = (events c f.0).0 in
      let whole : AreEvents held (front ++ c ∷ []) = λ x m. elim (among_either front (c ∷ []) x m) as (λ _. Among x held × (is_receipt x.event ≡ false)) [
        | inl l ↦ before x l
        | inr (inl s) ↦ subst (λ y. Among y held × (is_receipt y.event ≡ false)) s (events c f.0)
        | inr (inr n) ↦ absurd n
      ] in
      let counted = all_counted held one its front grown_front before in
      let more : own its (front ++ c ∷ []) ≡ own its front ++ c ∷ [] = filter-append (is_of its) front (c ∷ []) ∙ (let k = parts.0 in rw k refl) in
      let number : sn_of c.event ≡ length (own its front) = subst (λ p. sn_of c.event ≡ length (own p front)) of_c (fit_number held one front c grown_front before inside fit) in
      record {
        front = front ++ c ∷ [];
        state_is = ap (λ o. state_behind log o) e ∙ (λ i. state (cut i) (of_c i));
        from = subst (AreFrom 0) (sym more) (from_push 0 (own its front) c counted.from (let n = number in omega (arith, n)));
        many = ap length more ∙ length_push (own its front) c ∙ (let n = number in let s = parts.1 in omega (arith, n, s));
        inside = own_events held one its (front ++ c ∷ []) whole;
      }

  -- FOLLOWED: the same in any two lists that have it
  pub same_before : (log other : List Body) (b c d : Body) → IsGrown log → AreEvents held log → IsGrown other → AreEvents held other
      → predecessor log b ≡ Some c → predecessor other b ≡ Some d → state_before log b ≡ state_before other b
  same_before log other b c d grown events grown' events' e f =
      let x = cut_at log b c grown events e in
      let y = cut_at other b d grown' events' f in
      let same = same_numbered held one (prefix_of b.event) 0 (own (prefix_of b.event) x.front) (own (prefix_of b.event) y.front) x.from y.from x.inside y.inside (x.many ∙ sym y.many) in
      x.state_is ∙ same_own (prefix_of b.event) x.front y.front same ∙ sym y.state_is

  module _ (log : List Body) (b : Body) (grown : IsGrown log) (events : AreEvents held log) (inside : Among b held) (fit : fits log b ≡ true) where
    abbrev its : Prefix
    its = prefix_of b.event

    -- what fits the list and isn't an inception has its predecessor there
    fit_prior : is_inception b.event ≡ false → (c : Body) × (predecessor log b ≡ Some c)
    fit_prior i = prior_of_fit log b fit i

    -- CURRENT: and it follows the state of its identifier
    pub fit_before : is_inception b.event ≡ false → state_before log b ≡ state log its
    fit_before i =
        let p = fit_prior i in
        let x = cut_at log b p.0 grown events p.1 in
        let all = all_counted held one its log grown events in
        let number = fit_number held one log b grown events inside fit in
        let same = same_numbered held one its 0 (own its x.front) (own its log) x.from all.from x.inside (own_events held one its log events) (x.many ∙ number) in
        x.state_is ∙ same_own its x.front log same

    -- so it stands
    pub fit_stands : stands log b ≡ true
    fit_stands = elim (cases_Bool (is_inception b.event)) [
      | inl i ↦ inception_stands log b i
      | inr i ↦ of (state log its) refl (fit_parts log b fit).2 i
    ]
      where
        of : (o : Option State) → state log its ≡ o → takes o b.event ≡ true → is_inception b.event ≡ false → stands log b ≡ true
        of None e t i = cc
        of (Some s) e t i = stands_by log b s (fit_before i ∙ e) (none_is (misfit s b.event) t)

    -- and its rules are the same behind both
    pub fit_rules : own_rules (state_before log b) b.event ≡ own_rules (state log its) b.event
    fit_rules = elim (cases_Bool (is_inception b.event)) [
      | inl i ↦ inception_rules b.event (state_before log b) (state log its) i
      | inr i ↦ ap (λ o. own_rules o b.event) (fit_before i)
    ]
