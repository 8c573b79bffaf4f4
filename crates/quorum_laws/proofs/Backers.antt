-- What a validator accepts in full mode is backed, where its verdicts are honest.
use Rattle.std.proofs.Common.{◌≡◌, ◌≤◌, true, false, not, List, [], ◌∷◌, ◌++◌, length, Contains, sym, ◌∙◌, ap, subst, arith, refl, inl, inr}
use Rattle.std.specs.Prelude.{filter}
use Rattle.std.proofs.lemmas.List.Concat.{flat_map-append}
use Rattle.std.proofs.lemmas.List.Elements.{All-nil}
use Rattle.std.proofs.lemmas.List.Folds.{list_any-append}
use Rattle.std.proofs.lemmas.List.Sums.{length-filter}
use Rattle.std.proofs.lemmas.Bool.{cases_Bool, and_parts, or_parts, or_left, or_right, leb-true, not-true}
use Rattle.cesr_codes.specs.declared.key.Key.{Key}
use Rattle.event_body.specs.EventBody.Events.{prefix_of, is_receipt}
use Rattle.event_body.specs.EventBody.Judging.{SpellsEvent}
use Rattle.journal.proofs.JournalLemmas.Accepting.{same_body-refl}
use Rattle.journal.proofs.JournalLemmas.Keeping.{accepted_keeps, accepted_grown, split_push}
use Rattle.journal.proofs.JournalLemmas.Premises.{nothing_grown}
use Rattle.journal.specs.Journal.Accepted.{accepted}
use Rattle.journal.specs.declared.journal.mode.Mode.TheVariants.{Full}
use Rattle.journal.specs.Journal.Grown.{IsGrown, fits}
use Rattle.journal.specs.Journal.History.{Told, yes_in, bodies}
use Rattle.journal.specs.declared.journal.body.Body.{Body}
use Rattle.journal.specs.Journal.Logs.{same_body, is_in, state, before}
use Rattle.journal.specs.Journal.Readiness.{is_ready, is_backed, backers, backs}
use Rattle.key_state.specs.Exposure.{own_rules, Rules}
use Rattle.key_state.specs.Same.{same_key, has_key, distinct}
use Rattle.quorum_laws.specs.Backing.{AreSpelled, IsBacked, IsHonest, rules_in, vouches}
use Rattle.quorum_laws.specs.Histories.{Signing, did_sign}
use Rattle.quorum_laws.proofs.Counting.{number, count_by-number, number-le, number-left}
use Rattle.quorum_laws.proofs.Inside.{accepted_inside}
use Rattle.quorum_laws.proofs.Members.{parts_at}

-- a yes verdict stays
backs-more : (told : List Told) (t : Told) (b : Body) (w : Key) → backs told b w ≡ true → backs (told ++ t ∷ []) b w ≡ true
unfolding backs
backs-more told t b w h =
    let longer = flat_map-append yes_in told (t ∷ []) in
    rw (longer, list_any-append) (or_left _ _ h)

-- the rules of a body under the state over a list
abbrev rules_over : List Body → Body → Rules
rules_over log b = own_rules (state log (prefix_of b.event)) b.event

-- wherever the list is cut before a member, enough of its own witnesses back it
abbrev EnoughBack : List Told → List Body → Type 0
EnoughBack told log = (front later : List Body) (b : Body) → log ≡ front ++ b ∷ later
    → (rules_over front b).toad ≤ number (backs told b) (distinct same_key (rules_over front b).witnesses)

ready_is_backed : (told : List Told) (log : List Body) (b : Body) → is_ready Full told log b ≡ true → is_backed told (state log (prefix_of b.event)) b ≡ true
unfolding is_ready
ready_is_backed told log b h = (and_parts _ _ (and_parts _ _ (and_parts _ _ h).1).1).0

-- what is ready in full mode has enough backers
ready_backed : (told : List Told) (log : List Body) (b : Body) → is_ready Full told log b ≡ true
    → (rules_over log b).toad ≤ number (backs told b) (distinct same_key (rules_over log b).witnesses)
unfolding backers
ready_backed told log b h =
    let rules = rules_over log b in
    let witnesses = distinct same_key rules.witnesses in
    let enough = leb-true rules.toad (length (filter (backs told b) witnesses)) (ready_is_backed told log b h) in
    omega (arith, enough, length-filter (backs told b) witnesses, count_by-number (backs told b) witnesses)

-- what is accepted in full mode has enough backers
accepted_backed : (told : List Told) → EnoughBack told (accepted Full [] told)
accepted_backed told = accepted_keeps Full [] EnoughBack
    (λ told t log enough front later b e. omega (arith, enough front later b e, number-le (backs told b) (backs (told ++ t ∷ []) b) (λ w h. backs-more told t b w h) (distinct same_key (rules_over front b).witnesses)))
    (λ told log b enough r front later c e. elim (split_push log front later b c e) [
      | inl h ↦ rw (← h.0, ← h.1) (ready_backed told log b r)
      | inr h ↦ enough front h.0 c h.1
    ])
    told nothing
  where
    nothing : EnoughBack [] []
    nothing [] later b e = cc
    nothing (c ∷ front) later b e = cc

-- the cut before a body that isn't in the front
before_out : (front later : List Body) (b : Body) → is_in front b ≡ false → before b (front ++ b ∷ later) ≡ front
unfolding before
before_out [] later b h = rw (same_body-refl b) refl
before_out (c ∷ front) later b h =
    let parts = or_parts (same_body c b) (is_in front b) h in
    let other = parts.0 in
    rw other (ap (λ xs. c ∷ xs) (before_out front later b parts.1))

-- in a grown list, the part before a member is what the cut before it gives
before_is : (log front later : List Body) (b : Body) → IsGrown log → log ≡ front ++ b ∷ later → before b log ≡ front
unfolding fits
before_is log front later b grown e =
    let new = and_parts (not (is_receipt b.event)) (not (is_in front b)) (and_parts _ _ (grown front later b e)).0 in
    ap (before b) e ∙ before_out front later b (not-true _ new.1)

-- where the backers of a body that aren't bad signed it, no fewer vouch for it than back it
backers_vouch : (told : List Told) (history : List Signing) (bad witnesses : List Key) (b : Body)
    → ((w : Key) → Contains (backers told witnesses b) w → has_key bad w ≡ false → did_sign history b w ≡ true)
    → number (backs told b) (distinct same_key witnesses) ≤ number (vouches history bad b) (distinct same_key witnesses)
unfolding backers
backers_vouch told history bad witnesses b signed = number-left (backs told b) (vouches history bad b) (distinct same_key witnesses)
    (λ w inside. elim (cases_Bool (has_key bad w)) [
      | inl h ↦ or_left _ _ h
      | inr h ↦ or_right _ _ (signed w inside h)
    ])

-- BACKED: the accepted list of a full validator, under honest verdicts
pub accepted_is_backed : (told : List Told) (history : List Signing) (bad : List Key) → AreSpelled (bodies [] told)
    → IsHonest told (accepted Full [] told) history bad → IsBacked (accepted Full [] told) history bad
accepted_is_backed told history bad spelled honest =
    let P : Body → Type 0 = λ b. SpellsEvent b.event b.bytes in
    let log = accepted Full [] told in
    let grown : IsGrown log = accepted_grown Full [] told nothing_grown in
    record {
      spelled = accepted_inside P Full [] told (All-nil P) spelled;
      grown = grown;
      enough = λ b inside est.
          (let (front, later, e) = parts_at log b inside in
          let rules : rules_in log b ≡ rules_over front b = ap (λ l. rules_over l b) (before_is log front later b grown e) in
          let own = subst (λ r. r.toad ≤ number (backs told b) (distinct same_key r.witnesses)) (sym rules) (accepted_backed told front later b e) in
          let more = backers_vouch told history bad (rules_in log b).witnesses b (λ w backer good. honest b w inside est backer good) in
          omega (arith, own, more, count_by-number (vouches history bad b) (distinct same_key (rules_in log b).witnesses)));
    }
