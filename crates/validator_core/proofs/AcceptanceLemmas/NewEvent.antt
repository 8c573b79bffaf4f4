-- The tables stand when one more event is accepted, and the claims on what stands right behind it are raised.
use Rattle.std.proofs.Common.{◌≡◌, ℕ, suc, zero, ◌+◌, ◌-◌, ◌<◌, true, false, ◌||◌, ◌==◌, ◌⊎◌, List, [], ◌∷◌, ◌++◌, length, Option, Some, None, refl, sym, ◌∙◌, ap, inl, inr, arith, subst, IsTrue, eq-eqb, if◌then◌else◌}
use Rattle.std.specs.Prelude.{◌↔◌, Contains, filter_map, slice_get, take}
use Rattle.std.specs.List.{cons_option, list_any}
use Rattle.std.proofs.lemmas.Bool.{and_from, and_parts, cases_Bool, not-false, not-true, or_parts}
use Rattle.std.proofs.lemmas.List.Folds.{list_any-append}
use Rattle.event_body.specs.EventBody.Events.{prefix_of, sn_of, said_of, prior_of, is_inception, is_receipt}
use Rattle.event_body.specs.declared.event_body.event.Event.{Event}
use Rattle.event_body.specs.declared.event_body.event.Event.TheVariants.{Icp, Rot, Ixn, Dip, Drt, Rct}
use Rattle.key_state.specs.KeyStates.{are_same, digest_at}
use Rattle.key_state.specs.Same.{same_digest}
use Rattle.key_state.specs.States.{State}
use Rattle.key_state.proofs.Same.{number_itself, numbers, same_prefix_itself}
use Rattle.cesr_codes.specs.declared.prefix.Prefix.TheVariants.{Said}
use Rattle.journal.specs.declared.journal.body.Body.{Body}
use Rattle.journal.specs.Journal.Grown.{IsGrown, fits}
use Rattle.journal.specs.Journal.Journals.{chosen}
use Rattle.journal.specs.Journal.Logs.{precedes, predecessor, state, takes}
use Rattle.journal.specs.Journal.Questions.{state_before}
use Rattle.journal.proofs.JournalLemmas.Held.{chosen_push}
use Rattle.journal.proofs.JournalLemmas.Keeping.{IsGrown-push}
use Rattle.journal.specs.EventRules.Parts.{Row as Found}
use Rattle.escrow.specs.Escrow.Escrow.{Escrow, Waits, held as held_by}
use Rattle.claim_table.proofs.CoreLawsLemmas.Members.{find_some, member_any}
use Rattle.claim_table.proofs.CoreLawsLemmas.NextEvents.{rules_of_taken}
use Rattle.claim_table.proofs.CoreLawsLemmas.States.{StandIf, all_stand, are_same-some, inside_of, sn_positive}
use Rattle.validator_core.specs.Tables.AcceptedLog.Cuts.{IsLog}
use Rattle.validator_core.specs.Tables.AcceptedLog.Values.{Log}
use Rattle.claim_table.specs.declared.claim_table.row.Row.{Row}
use Rattle.claim_table.specs.CoreLaws.ClaimRows.{AreClaims, HasClaims, found_on, verdict_in}
use Rattle.validator_core.specs.Tables.Hints.{IsEscrow}
use Rattle.validator_core.specs.Tables.View.{View, log_of, waiter_at, waiter_of, with_log, with_rows}
use Rattle.validator_core.specs.Acceptance.Standing.{AreSoundTables, told_of}
use Rattle.validator_core.specs.Acceptance.Turned.{turned}
use Rattle.validator_core.proofs.AcceptanceLemmas.NewBody.{low_at}
use Rattle.validator_core.proofs.AcceptanceLemmas.Turned.{turned_begins, turned_ends}
use Rattle.validator_core.proofs.AcceptanceLemmas.FoundClaims.{claims_move, found_stays}

slice_get_push : (xs : List ℕ) (x y n : ℕ) → slice_get (xs ++ x ∷ []) n ≡ Some y → (slice_get xs n ≡ Some y) ⊎ (x ≡ y)
slice_get_push [] x y zero e = inr (let same : Some x ≡ Some y = e in cc)
slice_get_push [] x y (suc n) e = cc
slice_get_push (z ∷ xs) x y zero e = inl e
slice_get_push (z ∷ xs) x y (suc n) e = slice_get_push xs x y n e

-- what a state takes, and no inception, has a predecessor in the log
has_one : (log : List Body) (b : Body) (o : Option State) → StandIf (prefix_of b.event) log o → takes o b.event ≡ true → is_inception b.event ≡ false → is_receipt b.event ≡ false → list_any (precedes b) log ≡ true
has_one log b None names h other event = (let no : true ≡ false = sym h ∙ other in cc)
has_one log b (Some s) names h other event =
    let all = rules_of_taken s b.event h in
    let positive = sn_positive s b.event all.1.1.1.0 other event in
    let prior = are_same-some (prior_of b.event) (digest_at s (sn_of b.event - 1)) (not-false _ all.1.1.1.1.0) in
    let m = names.each (sn_of b.event - 1) prior.0 prior.2 in
    let sn = m.sn in
    let same : are_same (prior_of b.event) (Some (said_of m.body.event)) ≡ true = ap (λ o. are_same o (Some (said_of m.body.event))) prior.1 ∙ ap (same_digest prior.0) m.said ∙ same_prefix_itself (Said prior.0) in
    member_any (precedes b) log m.body (inside_of m) (and_from _ _ (and_from _ _ m.of (eq-eqb (sn_of m.body.event + 1) (sn_of b.event) (omega (arith, sn, positive)))) same)

-- such a body is no receipt and no inception
prior_some : (e : Event) (d : _) → prior_of e ≡ Some d → (is_receipt e ≡ false) × (is_inception e ≡ false)
prior_some (Icp e) d is = cc
prior_some (Dip e) d is = cc
prior_some (Rot e) d is = (refl, refl)
prior_some (Ixn e) d is = (refl, refl)
prior_some (Drt e) d is = (refl, refl)
prior_some (Rct e) d is = cc

pub precedes_some : (b c : Body) → precedes b c ≡ true → (prior_of b.event ≡ Some (said_of c.event)) × (is_receipt b.event ≡ false) × (is_inception b.event ≡ false)
precedes_some b c right =
    let some = are_same-some (prior_of b.event) (Some (said_of c.event)) (and_parts _ _ right).1 in
    let is : prior_of b.event ≡ Some (said_of c.event) = some.1 ∙ sym some.2 in
    let kind = prior_some b.event some.0 some.1 in
    (is, kind.0, kind.1)

-- where a number is among those chosen, the list parts at its body
splits : (held : List Body) (places : List ℕ) (n : ℕ) (b : Body) → slice_get held n ≡ Some b → list_any (λ m. m == n) places ≡ true
    → (before : List Body) × (later : List Body) × (chosen held places ≡ before ++ b ∷ later)
unfolding chosen
splits held [] n b at h = cc
splits held (m ∷ places) n b at h = elim (cases_Bool (m == n)) [
  | inl k ↦ (let same : slice_get held m ≡ Some b = ap (slice_get held) (numbers m n k) ∙ at in ([], chosen held places, ap (λ o. cons_option o (filter_map (λ k. slice_get held k) places)) same))
  | inr k ↦ (let rest = splits held places n b at (ap (λ y. y || list_any (λ m. m == n) places) (sym k) ∙ h) in
      front (slice_get held m) rest.0 rest.1 rest.2)
]
  where
    front : (o : Option Body) (before later : List Body) → filter_map (λ k. slice_get held k) places ≡ before ++ b ∷ later
        → (before' : List Body) × (later' : List Body) × (cons_option o (filter_map (λ k. slice_get held k) places) ≡ before' ++ b ∷ later')
    front None before later e = (before, later, e)
    front (Some x) before later e = (x ∷ before, later, ap (λ l. x ∷ l) e)

-- ACCEPTED: an accepted event that is no inception has its predecessor in the log
accepted_follows : (log before later : List Body) (b : Body) → IsGrown log → log ≡ before ++ b ∷ later → is_inception b.event ≡ false → list_any (precedes b) log ≡ true
unfolding fits
accepted_follows log before later b grown parted other =
    let fit = and_parts _ _ (grown before later b parted) in
    let event = not-true _ (and_parts _ _ fit.0).0 in
    let here = has_one before b (state before (prefix_of b.event)) (all_stand (prefix_of b.event) before) fit.1 other event in
    ap (list_any (precedes b)) parted ∙ list_any-append (precedes b) before (b ∷ later) ∙ ap (λ y. y || list_any (precedes b) (b ∷ later)) here

-- so what stands right behind an event, and behind no earlier one, isn't accepted
pub unaccepted : (v : View) → AreSoundTables v → (n : ℕ) (b : Body) → slice_get v.held n ≡ Some b → is_inception b.event ≡ false → predecessor (log_of v) b ≡ None → list_any (λ m. m == n) v.log.numbers ≡ false
unfolding predecessor
unaccepted v is n b at other none = elim (cases_Bool (list_any (λ m. m == n) v.log.numbers)) [
  | inr k ↦ k
  | inl k ↦ (let split = splits v.held v.log.numbers n b at k in
      let found = find_some (precedes b) (log_of v) (accepted_follows (log_of v) split.0 split.1 b is.grown split.2 other) in
      let no : None ≡ Some found.0 = sym none ∙ found.1 in cc)
]

module _ (v : View) (is : AreSoundTables v) (m : ℕ) (c : Body) (at : slice_get v.held m ≡ Some c) (log : Log) (numbers_are : log.numbers ≡ v.log.numbers ++ m ∷ []) (is_log : IsLog (log_of v ++ c ∷ []) log) where
  -- what is found of the bodies before the event is accepted, and then
  abbrev pub found_before : ℕ → Body → List Found
  found_before n b = found_on (told_of v) (log_of v) b

  abbrev pub found_then : ℕ → Body → List Found
  found_then n b = found_on (told_of v) (log_of v ++ c ∷ []) b

  -- the rows while the bodies behind the event go over
  abbrev pub AreTurned : List ℕ → List Row → Type 0
  AreTurned done rows = HasClaims (state_before (log_of v ++ c ∷ [])) (turned found_before found_then done) (verdict_in (told_of v)) v.held rows

  pub log_then : log_of (with_log log v) ≡ log_of v ++ c ∷ []
  log_then = ap (chosen v.held) numbers_are ∙ chosen_push v.held v.log.numbers m c at

  -- BEGIN: with the log alone none has gone over
  pub turning_begins : AreTurned [] v.claims.rows
  turning_begins = turned_begins found_before found_then (state_before (log_of v ++ c ∷ [])) (verdict_in (told_of v)) v.held v.claims.rows
      (claims_move (told_of v) (log_of v) c v.held v.claims.rows is.claims)

  -- STAYS: of a body that the event doesn't come right before, or that has a predecessor already, the same is found
  pub turning_stays : (n : ℕ) (b : Body) → ((predecessor (log_of v) b ≡ None) → precedes b c ≡ false) → found_then n b ≡ found_before n b
  turning_stays n b other = found_stays (told_of v) (log_of v) c b other

  -- END: when all of the bodies right behind the event have, the tables stand
  pub standing_accepted : IsTrue (fits (log_of v) c) → (done : List ℕ) (rows : List Row) → AreTurned done rows
      → ((n : ℕ) (b : Body) → slice_get v.held n ≡ Some b → precedes b c ≡ true → predecessor (log_of v) b ≡ None → list_any (λ m. m == n) done ≡ true)
      → AreSoundTables (with_rows rows (with_log log v))
  standing_accepted fit done rows turned_all all = record {
    spelled = is.spelled;
    differ = is.differ;
    entries_held = is.entries_held;
    accepted_held = held_then;
    grown = subst IsGrown (sym log_then) (IsGrown-push (log_of v) c is.grown fit);
    log = subst (λ l. IsLog l log) (sym log_then) is_log;
    claims = subst (λ l. AreClaims (told_of v) l v.held rows) (sym log_then) ended;
  }
    where
      ended : AreClaims (told_of v) (log_of v ++ c ∷ []) v.held rows
      ended = turned_ends found_before found_then (state_before (log_of v ++ c ∷ [])) (verdict_in (told_of v)) v.held rows done turned_all others
        where
          others : (n : ℕ) (b : Body) → slice_get v.held n ≡ Some b → list_any (λ m. m == n) done ≡ false → found_before n b ≡ found_then n b
          others n b there outside = sym (turning_stays n b (λ none. elim (cases_Bool (precedes b c)) [
            | inr k ↦ k
            | inl k ↦ (let inside = all n b there k none in let no : true ≡ false = sym inside ∙ outside in cc)
          ]))

      held_then : (i n : ℕ) → slice_get log.numbers i ≡ Some n → n < length v.held
      held_then i n there = elim (slice_get_push v.log.numbers m n i (ap (λ l. slice_get l i) (sym numbers_are) ∙ there)) [
        | inl old ↦ is.accepted_held i n old
        | inr last ↦ subst (λ k. k < length v.held) last (low_at v.held m c at)
      ]

-- WOKEN: the escrow's events behind the digest are all of these
pub all_woken : (v : View) → AreSoundTables v → (waiting : Escrow) → IsEscrow waiting v.held (take v.released v.log.numbers) → (c : Body) (woken : List ℕ)
    → ((n : ℕ) → Contains woken n ↔ Waits n (λ w. w.prior ≡ Some (said_of c.event)) waiting)
    → (n : ℕ) (b : Body) → slice_get v.held n ≡ Some b → precedes b c ≡ true → predecessor (log_of v) b ≡ None → list_any (λ m. m == n) woken ≡ true
unfolding waiter_at
all_woken v is waiting escrow c woken those n b at right none =
    let kind = precedes_some b c right in
    let out = not_taken v.released v.log.numbers n (unaccepted v is n b at kind.2 none) in
    let waits : held_by n waiting ≡ Some (waiter_of n b.event) = escrow n ∙ ap (waiter_at (take v.released v.log.numbers) n) at
    ∙ ap (λ y. if y || list_any (λ m. m == n) (take v.released v.log.numbers) then None else Some (waiter_of n b.event)) kind.1 ∙ ap (λ y. if y then None else Some (waiter_of n b.event)) out in
    member_any (λ m. m == n) woken n ((those n).1 (waiter_of n b.event, waits, kind.0)) (number_itself n)
  where
    not_taken : (k : ℕ) (xs : List ℕ) (n : ℕ) → list_any (λ m. m == n) xs ≡ false → list_any (λ m. m == n) (take k xs) ≡ false
    not_taken zero xs n h = refl
    not_taken (suc k) [] n h = refl
    not_taken (suc k) (x ∷ xs) n h = let parts = or_parts (x == n) (list_any (λ m. m == n) xs) h in rw (parts.0, not_taken k xs n parts.1) refl
