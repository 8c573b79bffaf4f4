-- Conflicts by the numbers of their bodies, each with the place of its bodies.
use Rattle.std.proofs.Common.{◌≡◌, ℕ, ◌+◌, ◌<◌, ◌≤◌, Bool, true, false, not, suc, List, [], ◌∷◌, ◌++◌, length, Option, Some, None, refl, sym, ◌∙◌, ap, subst, arith, map, take, get_or, append-nil, Ordering}
use Rattle.std.specs.Prelude.{All, AllPairs, IsTrue, slice_get, option_map, filter, filter_map}
use Rattle.std.specs.declared.cmp.Ordering.TheVariants.{Less, Equal, Greater}
use Rattle.std.specs.Ordering.{nat_cmp, ordering_then, is_eq}
use Rattle.std.specs.Cmp.Lexicographic.{bytes_decides}
use Rattle.std.proofs.lemmas.Bool.{and_parts}
use Rattle.std.proofs.lemmas.Bool.Decides.{nat_tests}
use Rattle.std.proofs.lemmas.List.{get_or-map, length-map, take_more}
use Rattle.std.proofs.lemmas.List.Elements.{All-cons, All-head, filter-append}
use Rattle.std.proofs.lemmas.Option.{get_or_from_slice_get, slice_get-get_or, slice_get-map, slice_get_within}
use Rattle.std.proofs.lemmas.Map.Text.{is_eq-slice_cmp}
use Rattle.std.proofs.lemmas.Simd.{map-map}
use Rattle.cesr_codes.specs.declared.prefix.Prefix.{Prefix}
use Rattle.cesr_codes.specs.Spelling.{prefix_text}
use Rattle.cesr_codes.proofs.Same.{same_prefix}
use Rattle.event_body.specs.declared.event_body.event.Event.{Event}
use Rattle.event_body.specs.EventBody.Events.{prefix_of, sn_of}
use Rattle.keri_outside.specs.declared.limits.Limits.{Limits}
use Rattle.validator_core.specs.Acceptance.Standing.{IsHeld, AreSoundTables, told_of}
use Rattle.validator_core.specs.Tables.View.{View, log_of}
use Rattle.journal.specs.declared.journal.body.Body.{Body}
use Rattle.journal.specs.declared.journal.conflict.Conflict.{Conflict}
use Rattle.journal.specs.declared.journal.mode.Mode.{Mode}
use Rattle.journal.specs.Journal.Conflicts.{AreConflicts, are_rivals, counted, counts, place_cmp, text_cmp}
use Rattle.journal.specs.Journal.Journals.{NameConflicts, chosen}
use Rattle.journal.specs.Journal.Logs.{same_body}
use Rattle.journal.proofs.JournalLemmas.Held.{chosen_push}
use Rattle.journal.proofs.JournalLemmas.Places.{some_at}
use Rattle.validator_core.proofs.TableChangesLemmas.Waking.{own_seal}
use Rattle.validator_core.specs.declared.validator_core.tally.Tally.{Tally}
use Rattle.validator_core.specs.ValidatorCore.Tables.{IsCore, base_in}
use Rattle.validator_core.specs.ValidatorCore.Views.{IsPlaced}

both : (o p : Ordering) → is_eq (ordering_then o p) ≡ true → (is_eq o ≡ true) × (is_eq p ≡ true)
both Less p h = cc
both Equal p h = (refl, h)
both Greater p h = cc

same_number : (m n : ℕ) → is_eq (nat_cmp m n) ≡ true → m ≡ n
same_number m n h = grind (arith, nat_tests)

-- rivals have one identifier and one number
alike : (b c : Body) → IsHeld b → IsHeld c → IsTrue (are_rivals b c) → (prefix_of b.event ≡ prefix_of c.event) × (sn_of b.event ≡ sn_of c.event)
unfolding place_cmp
alike b c of_b of_c rival =
    let place = (and_parts (is_eq (place_cmp b c)) (not (same_body b c)) rival).0 in
    let prefix = both (text_cmp (prefix_text (prefix_of b.event)) (prefix_text (prefix_of c.event))) _ place in
    let number = both (nat_cmp (sn_of b.event) (sn_of c.event)) _ prefix.1 in
    let text = (bytes_decides (prefix_text (prefix_of b.event)) (prefix_text (prefix_of c.event))).0 (sym (is_eq-slice_cmp (prefix_text (prefix_of b.event)) (prefix_text (prefix_of c.event))) ∙ prefix.0) in
    let first = (own_seal b.event b.bytes of_b.spelled).prefix in
    let second = (own_seal c.event c.bytes of_c.spelled).prefix in
    ((same_prefix (prefix_of b.event) (prefix_of c.event) [] [] first second (ap (λ t. t ++ []) text)).0, same_number (sn_of b.event) (sn_of c.event) number.0)

-- no more bodies than numbers
pub chosen_few : (held : List Body) (numbers : List ℕ) → length (chosen held numbers) ≤ length numbers
unfolding chosen
chosen_few held [] = omega arith
chosen_few held (n ∷ numbers) = by (slice_get held n) refl (chosen_few held numbers)
  where
    by : (o : Option Body) → slice_get held n ≡ o → length (filter_map (λ n. slice_get held n) numbers) ≤ length numbers → length (filter_map (λ n. slice_get held n) (n ∷ numbers)) ≤ suc (length numbers)
    by None e more = rw e (omega (arith, more))
    by (Some b) e more = rw e (omega (arith, more))

module _ (held : List Body) (events : List Event) (are : map (λ b. b.event) held ≡ events) (spelled : (n : ℕ) (b : Body) → slice_get held n ≡ Some b → IsHeld b) where
  chosen_spelled : (numbers : List ℕ) → All IsHeld (chosen held numbers)
  unfolding chosen
  chosen_spelled [] = λ k d h. absurd (omega (arith, h))
  chosen_spelled (n ∷ numbers) = by (slice_get held n) refl (chosen_spelled numbers)
    where
      by : (o : Option Body) → slice_get held n ≡ o → All IsHeld (filter_map (λ n. slice_get held n) numbers) → All IsHeld (filter_map (λ n. slice_get held n) (n ∷ numbers))
      by None e more = rw e more
      by (Some b) e more = rw e (All-cons IsHeld b (filter_map (λ n. slice_get held n) numbers) (spelled n b e) more)

  module _ (prefix : Prefix) (sn : ℕ) where
    abbrev IsThere : Body → Type 0
    IsThere b = (prefix_of b.event ≡ prefix) × (sn_of b.event ≡ sn)

    -- rivals whose first has this place
    of_first : (numbers : List ℕ) → All (λ n. n < length held) numbers
        → ((n : ℕ) (e : Event) → slice_get numbers 0 ≡ Some n → slice_get events n ≡ Some e → (prefix_of e ≡ prefix) × (sn_of e ≡ sn))
        → AllPairs (λ b c. IsTrue (are_rivals b c)) (chosen held numbers) → All IsThere (chosen held numbers)
    unfolding chosen
    of_first [] all place pairs = λ k d h. absurd (omega (arith, h))
    of_first (n ∷ numbers) all place pairs =
        let s = some_at held n (All-head (λ n. n < length held) n numbers all) in
        let first = s.0 in let at = s.1 in
        let rest = chosen held numbers in
        let is : chosen held (n ∷ numbers) ≡ first ∷ rest = rw at refl in
        let here = place n first.event refl (ap (λ es. slice_get es n) (sym are) ∙ slice_get-map (λ (b : Body). b.event) held n ∙ ap (option_map (λ (b : Body). b.event)) at) in
        let rivals : AllPairs (λ b c. IsTrue (are_rivals b c)) (first ∷ rest) = subst (AllPairs (λ b c. IsTrue (are_rivals b c))) is pairs in
        subst (All IsThere) (sym is) (All-cons IsThere first rest here
        (λ k d h.
        let same = alike first (get_or rest k d) (spelled n first at) (chosen_spelled numbers k d h) (rivals 0 (suc k) d (omega arith) (omega (arith, h))) in
        (sym same.0 ∙ here.0, sym same.1 ∙ here.1)))

  -- NAMES: the sets by their numbers, each with the place of its first body
  pub names : (among : List Body) (found : List Conflict) (sets : List (List ℕ)) → map (λ c. c.bodies) found ≡ sets → All (IsPlaced events) found
      → All (All (λ n. n < length held)) sets → AreConflicts among (map (chosen held) sets) → NameConflicts held found (map (chosen held) sets)
  names among found sets same placed all conflicts =
      let bodies : map (λ c. chosen held c.bodies) found ≡ map (chosen held) sets = sym (map-map (chosen held) (λ (c : Conflict). c.bodies) found) ∙ ap (map (chosen held)) same in
      let below : (k : ℕ) (d : Conflict) → k < length found → All (λ n. n < length held) (get_or found k d).bodies =
      λ k d h. subst (All (λ n. n < length held)) (get_or-map (λ (c : Conflict). c.bodies) found k d d.bodies h)
      (subst (All (All (λ n. n < length held))) (sym same) all k d.bodies (omega (arith, h, length-map found (λ (c : Conflict). c.bodies)))) in
      let rivals = subst (All (AllPairs (λ b c. IsTrue (are_rivals b c)))) (sym bodies) conflicts.only_rivals in
      record {
        bodies_are = bodies;
        all_held = below;
        places_are = λ k d h.
            (let c = get_or found k d in
            of_first c.prefix c.sn c.bodies (below k d h) (placed k d h)
            (subst (AllPairs (λ b c. IsTrue (are_rivals b c))) (get_or-map (λ (c : Conflict). chosen held c.bodies) found k d (chosen held d.bodies) h)
            (rivals k (chosen held d.bodies) (omega (arith, h, length-map found (λ (c : Conflict). chosen held c.bodies))))));
      }

module _ (q : Body → Bool) (held : List Body) (place : ℕ) (b : Body) (at : slice_get held place ≡ Some b) where
  one_more : filter q (take (place + 1) held) ≡ filter q (take place held) ++ filter q (b ∷ [])
  one_more =
      let more = take_more held place b (slice_get_within held place b at) ∙ ap (λ c. take place held ++ c ∷ []) (get_or_from_slice_get held place b b at) in
      ap (filter q) more ∙ filter-append q (take place held) (b ∷ [])

  -- one more body that passes, and one that doesn't
  pub passes_more : (numbers : List ℕ) → q b ≡ true → chosen held numbers ≡ filter q (take place held) → chosen held (numbers ++ place ∷ []) ≡ filter q (take (place + 1) held)
  passes_more numbers passes so_far =
      let one : filter q (b ∷ []) ≡ b ∷ [] = rw passes refl in
      chosen_push held numbers place b at ∙ ap (λ bs. bs ++ b ∷ []) so_far ∙ sym (one_more ∙ ap (λ bs. filter q (take place held) ++ bs) one)

  pub fails_more : (numbers : List ℕ) → q b ≡ false → chosen held numbers ≡ filter q (take place held) → chosen held numbers ≡ filter q (take (place + 1) held)
  fails_more numbers fails so_far =
      let none : filter q (b ∷ []) ≡ [] = rw fails refl in
      so_far ∙ sym (one_more ∙ ap (λ bs. filter q (take place held) ++ bs) none ∙ append-nil (filter q (take place held)))

-- COUNTED: those that count are those of the definition
pub counted_is : (mode : Mode) (limits : Limits) (base : ℕ) (v : View) (tally : Tally) → IsCore mode limits base v tally
    → filter (counts (told_of v) (log_of v)) v.held ≡ counted mode (base_in base v) (told_of v)
counted_is mode limits base v tally core = let order = core.in_order in let log = core.log_is in λ i. filter (counts (told_of v) (log i)) (order i)

-- the numbers of the log are below the number of events
pub numbers_below : (v : View) → AreSoundTables v → (events : List Event) → events ≡ map (λ b. b.event) v.held → (numbers : List ℕ) → numbers ≡ v.log.numbers
    → All (λ n. n < length events) numbers
numbers_below v is events events_are numbers numbers_are =
    let low : All (λ n. n < length v.held) v.log.numbers = λ k d h. is.accepted_held k (get_or v.log.numbers k d) (slice_get-get_or v.log.numbers k d h) in
    let long = ap length events_are ∙ length-map v.held (λ (b : Body). b.event) in
    subst (All (λ n. n < length events)) (sym numbers_are) (subst (λ m. All (λ n. n < m) v.log.numbers) (sym long) low)
