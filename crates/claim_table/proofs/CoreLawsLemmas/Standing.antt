-- The state that an event follows is alike to the current state of its identifier, where that takes it.
use Rattle.std.proofs.Common.{◌≡◌, ℕ, ◌+◌, ◌-◌, ◌<◌, ◌≤◌, true, false, not, ◌&&◌, ◌==◌, List, [], ◌∷◌, ◌++◌, length, Option, Some, None, Contains, refl, sym, ◌∙◌, ap, subst, arith, eq-eqb}
use Rattle.std.specs.Prelude.{bytes_eq, codes, nat_le, nat_lt}
use Rattle.std.specs.Cmp.Lexicographic.{bytes_decides}
use Rattle.std.proofs.lemmas.Bool.{and_parts, and_from, or_parts, not-true, not-false, eqb-true, le-ltb, lt-leb}
use Rattle.cesr_codes.specs.declared.digest.Digest.{Digest}
use Rattle.cesr_codes.specs.declared.prefix.Prefix.{Prefix}
use Rattle.event_body.specs.declared.event_body.event.Event.{Event}
use Rattle.event_body.specs.declared.event_body.event.Event.TheVariants.{Icp, Rot, Ixn, Dip, Drt, Rct}
use Rattle.event_body.specs.EventBody.Events.{prefix_of, sn_of, said_of, prior_of, is_inception, is_interaction, is_receipt}
use Rattle.key_state.specs.declared.state_fault.Misfit.TheVariants.{Sn, Prior, Ended, EstOnly, Kind, WitnessChange}
use Rattle.key_state.specs.Heads.{head_sn}
use Rattle.key_state.specs.KeyStates.{digest_at, misfit, are_same, first_true, is_other_kind, is_other_list, is_other_prior, is_other_sn}
use Rattle.key_state.specs.Same.{has_text, same_digest}
use Rattle.key_state.specs.States.{State}
use Rattle.key_state.proofs.Same.{same_prefix_is}
use Rattle.journal.specs.declared.journal.body.Body.{Body}
use Rattle.journal.specs.Journal.Grown.{IsGrown, fits}
use Rattle.journal.specs.Journal.Logs.{is_in, is_of, same_body, state, takes, precedes, predecessor, stands, state_behind, up_to}
use Rattle.journal.specs.Journal.History.{Told}
use Rattle.journal.specs.Journal.Questions.{state_before}
use Rattle.journal.proofs.JournalLemmas.Settling.{find-true}
use Rattle.claim_table.proofs.CoreLawsLemmas.Members.{find_contains, find_some, member_any}
use Rattle.key_state.proofs.NoMisfit.{fits_sn, fits_prior}
use Rattle.claim_table.specs.CoreLaws.Alike.{AreAlike}
use Rattle.claim_table.specs.CoreLaws.Standing.{AreAlikeIf, HasNoClash, CurrentLaw, StandingReadyLaw, InceptionReadyLaw}
use Rattle.journal.specs.EventRules.Parts.{Part, supports}
use Rattle.claim_table.proofs.CoreLawsLemmas.Adding.{alike_same, inception_same}
use Rattle.claim_table.proofs.CoreLawsLemmas.Enough.{ready_is}
use Rattle.claim_table.proofs.CoreLawsLemmas.States.{AllStand, IsStanding, StandIf, all_stand, are_same-some, inside_of, none_is, same_digest_is, same_itself, sn_positive}

-- what a rotation or another kind may be, and how the witness list may change, are asked of parts that are alike
other_kind : (s t : State) → AreAlike s t → (e : Event) → is_other_kind s e ≡ is_other_kind t e
other_kind s t alike e = same e ∙ ap (λ x. is_other_kind x e) alike
  where
    same : (e : Event) → is_other_kind s e ≡ is_other_kind (record s { est_sn = t.est_sn; since = t.since }) e
    same (Icp e) = refl
    same (Rot e) = refl
    same (Ixn e) = refl
    same (Dip e) = refl
    same (Drt e) = refl
    same (Rct e) = refl

other_list : (s t : State) → AreAlike s t → (e : Event) → is_other_list s e ≡ is_other_list t e
other_list s t alike e = same e ∙ ap (λ x. is_other_list x e) alike
  where
    same : (e : Event) → is_other_list s e ≡ is_other_list (record s { est_sn = t.est_sn; since = t.since }) e
    same (Icp e) = refl
    same (Rot e) = refl
    same (Ixn e) = refl
    same (Dip e) = refl
    same (Drt e) = refl
    same (Rct e) = refl

-- an event may come right behind the head
next_sn : (s : State) (e : Event) (n : ℕ) → sn_of e ≡ n + 1 → head_sn s ≡ n → s.est_sn ≤ n → is_other_sn s e ≡ false
next_sn s (Rot e) n next head low =
    let above : nat_le e.sn s.est_sn ≡ false = lt-leb e.sn s.est_sn (omega (arith, next, low)) in
    let within : nat_lt (head_sn s + 1) e.sn ≡ false = le-ltb (head_sn s + 1) e.sn (omega (arith, next, head)) in
    rw (above, within) refl
next_sn s (Ixn e) n next head low = ap not (eq-eqb e.sn (head_sn s + 1) (omega (arith, next, head)))
next_sn s (Drt e) n next head low = ap not (eq-eqb e.sn (head_sn s + 1) (omega (arith, next, head)))
next_sn s (Icp e) n next head low = refl
next_sn s (Dip e) n next head low = refl
next_sn s (Rct e) n next head low = refl

-- what follows a state follows one alike whose head is right before it and has the digest that it names
misfit_alike : (s t : State) (e : Event) (n : ℕ) (d : Digest) → AreAlike s t → misfit t e ≡ None → sn_of e ≡ n + 1 → head_sn s ≡ n → s.est_sn ≤ n
    → digest_at s n ≡ Some d → prior_of e ≡ Some d → misfit s e ≡ None
unfolding misfit
misfit_alike s t e n d alike none next head low found prior =
    let kind = other_kind s t alike e in
    let ended = ap (λ x. length x.next == 0) alike in
    let est = ap (λ x. is_interaction e && has_text x.traits (codes "EO")) alike in
    let sn = next_sn s e n next head low ∙ sym (fits_sn t e none) in
    let before : digest_at s (sn_of e - 1) ≡ Some d = ap (digest_at s) (omega (arith, next)) ∙ found in
    let named : is_other_prior s e ≡ false = (λ i. not (are_same (prior i) (before i))) ∙ ap not (same_itself d) in
    let place = named ∙ sym (fits_prior t e none) in
    let list = other_list s t alike e in
    (λ i. first_true ((kind i, Kind) ∷ (ended i, Ended) ∷ (est i, EstOnly) ∷ (sn i, Sn) ∷ (place i, Prior) ∷ (list i, WitnessChange) ∷ [])) ∙ none

-- the list up to an event, by its bytes
up_to_there : (front : List Body) (x y : Body) (later : List Body) → x.bytes ≡ y.bytes → is_in front x ≡ false → up_to y (front ++ x ∷ later) ≡ front ++ x ∷ []
unfolding up_to
up_to_there [] x y later e outside = let here = (bytes_decides x.bytes y.bytes).1 e in rw here refl
up_to_there (c ∷ front) x y later e outside =
    let parts = or_parts (same_body c x) (is_in front x) outside in
    let other : same_body c y ≡ false = ap (bytes_eq c.bytes) (sym e) ∙ parts.0 in
    let ih = up_to_there front x y later e parts.1 in
    rw (other, ih) refl

module _ (log : List Body) (b : Body) (grown : IsGrown log) (clash : HasNoClash log) (i : is_inception b.event ≡ false) (r : is_receipt b.event ≡ false) where
  abbrev own : Prefix
  own = prefix_of b.event

  -- the live event right before it, and the state just behind that, which it follows
  right_before : (s : State) → AllStand own log s → takes (Some s) b.event ≡ true
      → (d : Digest) × (x : IsStanding own log s (sn_of b.event - 1) d) × (0 < sn_of b.event) × (prior_of b.event ≡ Some d) × (state_before log b ≡ Some x.behind)
  unfolding fits predecessor
  right_before s stand h =
      let fits = none_is (misfit s b.event) h in
      let positive = sn_positive s b.event (fits_sn s b.event fits) i r in
      let prior = are_same-some (prior_of b.event) (digest_at s (sn_of b.event - 1)) (not-false _ (fits_prior s b.event fits)) in
      let d = prior.0 in
      let x = stand.each (sn_of b.event - 1) d prior.2 in
      let x_sn = x.sn in
      let inside : Contains log x.body = inside_of x in
      let same : are_same (prior_of b.event) (Some (said_of x.body.event)) ≡ true = ap (λ o. are_same o (Some (said_of x.body.event))) prior.1 ∙ ap (same_digest d) x.said ∙ same_itself d in
      let before : precedes b x.body ≡ true = and_from _ _ (and_from _ _ x.of (eq-eqb (sn_of x.body.event + 1) (sn_of b.event) (omega (arith, x_sn, positive)))) same in
      let (y, e) = find_some (precedes b) log (member_any (precedes b) log x.body inside before) in
      let passes = find-true (precedes b) log y e in
      let parts = and_parts (is_of own y && (sn_of y.event + 1 == sn_of b.event)) (are_same (prior_of b.event) (Some (said_of y.event))) passes in
      let first = and_parts (is_of own y) (sn_of y.event + 1 == sn_of b.event) parts.0 in
      let y_sn = eqb-true (sn_of y.event + 1) (sn_of b.event) first.1 in
      let y_said : d ≡ said_of y.event = same_digest_is d (said_of y.event) (ap (λ o. are_same o (Some (said_of y.event))) (sym prior.1) ∙ parts.1) in
      let y_prefix : prefix_of y.event ≡ own = same_prefix_is (prefix_of y.event) own first.0 in
      let x_prefix : prefix_of x.body.event ≡ own = same_prefix_is (prefix_of x.body.event) own x.of in
      let bytes = clash x.body y inside (find_contains (precedes b) log y e) (x_prefix ∙ sym y_prefix) (omega (arith, x_sn, y_sn)) (x.said ∙ y_said) in
      let fresh : is_in x.front x.body ≡ false = not-true _ (and_parts (not (is_receipt x.body.event)) _ (and_parts _ _ (grown x.front x.later x.body x.parted)).0).1 in
      let cut : up_to y log ≡ x.front ++ x.body ∷ [] = ap (up_to y) x.parted ∙ up_to_there x.front x.body y x.later bytes fresh in
      let is : state_before log b ≡ Some x.behind = ap (λ o. state_behind log o) e ∙ (λ i. state (cut i) (y_prefix i)) ∙ x.behind_is in
      (d, x, positive, prior.1, is)

  behind_it : (s : State) → AllStand own log s → takes (Some s) b.event ≡ true → AreAlikeIf (state_before log b) (Some s)
  behind_it s stand h = let before = right_before s stand h in subst (λ o. AreAlikeIf o (Some s)) (sym before.4) before.1.alike

  stands_behind : (s : State) → AllStand own log s → takes (Some s) b.event ≡ true → stands log b ≡ true
  unfolding stands
  stands_behind s stand h =
      let before = right_before s stand h in
      let x = before.1 in let positive = before.2 in let is = before.4 in
      let fits = misfit_alike x.behind s b.event (sn_of b.event - 1) before.0 x.alike (none_is (misfit s b.event) h) (omega (arith, positive)) x.head x.low x.found before.3 in
      rw (i, is, fits) refl

  stands_at : (o : Option State) → StandIf own log o → takes o b.event ≡ true → stands log b ≡ true
  stands_at None stand h = cc
  stands_at (Some s) stand h = stands_behind s stand h

  at_current : (o : Option State) → StandIf own log o → takes o b.event ≡ true → AreAlikeIf (state_before log b) o
  at_current None stand h = cc
  at_current (Some s) stand h = behind_it s stand h

-- CURRENT
pub current : CurrentLaw
current log b grown clash i r h = at_current log b grown clash i r (state log (prefix_of b.event)) (all_stand (prefix_of b.event) log) h

-- STANDS: so it stands
pub current_stands : (log : List Body) (b : Body) → IsGrown log → HasNoClash log → is_inception b.event ≡ false → is_receipt b.event ≡ false
    → takes (state log (prefix_of b.event)) b.event ≡ true → stands log b ≡ true
current_stands log b grown clash i r h = stands_at log b grown clash i r (state log (prefix_of b.event)) (all_stand (prefix_of b.event) log) h

-- READY BY WHAT IT STANDS ON
by_alike : (told : List Told) (o p : Option State) (b : Body) → AreAlikeIf o p → (part : Part) → supports told o b part ≡ supports told p b part
by_alike told None p b alike part = absurd alike
by_alike told (Some s) None b alike part = absurd alike
by_alike told (Some s) (Some t) b alike part = alike_same told s t b part alike

pub standing_ready : StandingReadyLaw
standing_ready mode told log b has alike sound same = ready_is mode told log b has sound (λ p. same p ∙ by_alike told (state_before log b) (state log (prefix_of b.event)) b alike p)

pub inception_ready : InceptionReadyLaw
inception_ready mode told log b has i sound same = ready_is mode told log b has sound (λ p. same p ∙ inception_same told (state_before log b) (state log (prefix_of b.event)) b p i)
