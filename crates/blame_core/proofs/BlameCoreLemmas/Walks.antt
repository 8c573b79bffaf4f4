-- A walk along a log: one event more.
use Rattle.std.proofs.Common.{◌≡◌, ℕ, true, false, cond, List, [], ◌∷◌, ◌++◌, Some, None, Contains, refl, sym, ◌∙◌, ap, subst, inl, inr}
use Rattle.std.specs.Prelude.{slice_get}
use Rattle.std.specs.BTreeMap.{is_at}
use Rattle.std.specs.Cmp.Lexicographic.{slice_cmp}
use Rattle.std.specs.Map.{lookup}
use Rattle.std.specs.Ordering.{nat_cmp}
use Rattle.std.proofs.lemmas.Bool.{cases_Bool, cond-false, cond-true}
use Rattle.cesr_codes.specs.Spelling.{IsPrefix, prefix_text}
use Rattle.cesr_codes.specs.declared.key.Key.{Key}
use Rattle.cesr_codes.specs.declared.prefix.Prefix.{Prefix}
use Rattle.event_body.specs.EventBody.Events.{prefix_of, is_establishment}
use Rattle.key_state.specs.Exposure.{rules_of}
use Rattle.key_state.specs.KeyStates.{list_behind}
use Rattle.key_state.specs.Same.{same_prefix}
use Rattle.key_state.proofs.Same.{same_prefix_is}
use Rattle.journal.specs.declared.journal.body.Body.{Body}
use Rattle.journal.specs.Journal.Logs.{state, stepped}
use Rattle.journal.proofs.JournalLemmas.StateSteps.{state-own, state-other}
use Rattle.blame_core.specs.BlameCore.Establishments.{HasPlace, IsAt, IsFollowedBy, IsWalked, event_at, list_at, list_of, place_cmp, place_of}
use Rattle.blame_core.specs.declared.blame_core.establishments.Establishment.{Establishment}
use Rattle.blame_core.specs.declared.blame_core.place.Place.{Place}
use Rattle.blame_core.proofs.BlameCoreLemmas.ListSteps.{list_kept, list_taken, own_next}
use Rattle.blame_core.proofs.BlameCoreLemmas.Places.{place_itself, place_same, prefix_at}
use Rattle.key_state.proofs.Among.{Among, among, among_either, contained}
use Rattle.blame_core.proofs.BlameLawsLemmas.Journals.{fit_parts}

-- nothing is walked over yet
pub walk_none : (held log : List Body) (lists : List (List ℕ × List Key)) (entries : List (Place × Establishment)) → lists ≡ [] → entries ≡ []
    → IsWalked held log [] lists entries
unfolding state
walk_none held log lists entries no_lists no_entries = record {
  placed = record {
    each = λ k x e. (let none : None ≡ Some x = sym (ap (λ es. event_at es k) no_entries) ∙ e in cc);
    all = λ b inside sets_keys. absurd (among [] b inside);
  };
  current = λ p ip. ap (λ es. list_at es p) no_lists;
}

module _ (held log seen : List Body) (b : Body) (next : IsFollowedBy log seen b) where
  -- the body is in the log
  b_in : Contains log b
  b_in = subst (λ xs. Contains xs b) (sym next.parts) (contained (seen ++ b ∷ next.later) b (within seen))
    where
      within : (xs : List Body) → Among b (xs ++ b ∷ next.later)
      within [] = inl refl
      within (x ∷ xs) = inr (within xs)

  -- what the body leaves of a list of its own identifier
  list_more : (q : Prefix) → same_prefix (prefix_of b.event) q ≡ true
      → (rules_of (state (seen ++ b ∷ []) q)).witnesses ≡ list_behind (rules_of (state seen (prefix_of b.event))).witnesses b.event
  list_more q same =
      let fit = fit_parts seen b (next.grown seen next.later b next.parts) in
      let one : prefix_of b.event ≡ q = same_prefix_is (prefix_of b.event) q same in
      ap (λ o. (rules_of o).witnesses) (state-own seen b q same)
      ∙ ap (λ r. (rules_of (stepped (state seen r) b.event)).witnesses) (sym one)
      ∙ list_taken (state seen (prefix_of b.event)) b.event fit.0 fit.2

  -- and of another's
  list_other : (q : Prefix) → same_prefix (prefix_of b.event) q ≡ false → (rules_of (state (seen ++ b ∷ []) q)).witnesses ≡ (rules_of (state seen q)).witnesses
  list_other q other = ap (λ o. (rules_of o).witnesses) (state-other seen b q other)

  module _ (lists : List (List ℕ × List Key)) (entries : List (Place × Establishment)) (walked : IsWalked held log seen lists entries) where
    -- an event that sets no keys changes nothing
    pub walk_past : is_establishment b.event ≡ false → IsWalked held log (seen ++ b ∷ []) lists entries
    walk_past no_keys = record {
      placed = record {
        each = walked.placed.each;
        all = λ c inside sets_keys. elim (among_either seen (b ∷ []) c (among (seen ++ b ∷ []) c inside)) [
          | inl m ↦ walked.placed.all c (contained seen c m) sets_keys
          | inr (inl e) ↦ (let sets : is_establishment b.event ≡ true = ap (λ c. is_establishment c.event) e ∙ sets_keys in cc)
          | inr (inr none) ↦ absurd none
        ];
      };
      current = λ q iq. elim (cases_Bool (same_prefix (prefix_of b.event) q)) [
        | inl k ↦ walked.current q iq ∙ ap (λ r. (rules_of (state seen r)).witnesses) (sym (same_prefix_is (prefix_of b.event) q k))
            ∙ sym (list_kept (rules_of (state seen (prefix_of b.event))).witnesses b.event no_keys) ∙ sym (list_more q k)
        | inr k ↦ walked.current q iq ∙ sym (list_other q k)
      ];
    }

    -- an establishment event has its place, and its own list is its identifier's last
    module _ (sets : is_establishment b.event ≡ true) (ip : IsPrefix (prefix_of b.event)) (new_lists : List (List ℕ × List Key))
        (new_entries : List (Place × Establishment)) (own : List Key) (x : Establishment)
        (list_is : own ≡ list_behind (list_at lists (prefix_of b.event)) b.event)
        (put_list : (t : List ℕ) → lookup (is_at (slice_cmp nat_cmp t)) new_lists
        ≡ cond (is_at (slice_cmp nat_cmp (prefix_text (prefix_of b.event))) t) (Some own) (lookup (is_at (slice_cmp nat_cmp t)) lists))
        (put_event : (k : Place) → event_at new_entries k ≡ cond (is_at (place_cmp (place_of b.event)) k) (Some x) (event_at entries k))
        (x_place : x.place ≡ place_of b.event) (x_number : slice_get held x.number ≡ Some b) (x_list : x.witnesses ≡ own) where
      its_list : own ≡ list_behind (rules_of (state seen (prefix_of b.event))).witnesses b.event
      its_list = list_is ∙ ap (λ keys. list_behind keys b.event) (walked.current (prefix_of b.event) ip)

      its_place : IsAt held log (place_of b.event) x
      its_place = record {
        body = b;
        inside = b_in;
        sets_keys = sets;
        spelled = ip;
        at = refl;
        place = x_place;
        number = x_number;
        witnesses = x_list ∙ its_list ∙ sym (own_next log seen b next sets);
      }

      each_at : (k : Place) (y : Establishment) → event_at new_entries k ≡ Some y → IsAt held log k y
      each_at k y e = elim (cases_Bool (is_at (place_cmp (place_of b.event)) k)) [
        | inl here ↦ (let put : Some x ≡ Some y = sym (cond-true (is_at (place_cmp (place_of b.event)) k) (Some x) (event_at entries k) here) ∙ sym (put_event k) ∙ e in
            let same : x ≡ y = cc in
            let at : place_of b.event ≡ k = place_same (place_of b.event) k here in
            subst (λ z. IsAt held log k z) same (subst (λ l. IsAt held log l x) at its_place))
        | inr other ↦ walked.placed.each k y (sym (cond-false (is_at (place_cmp (place_of b.event)) k) (Some x) (event_at entries k) other) ∙ sym (put_event k) ∙ e)
      ]

      found_at : (k : Place) (y : Establishment) → event_at entries k ≡ Some y → (z : Establishment) × (event_at new_entries k ≡ Some z)
      found_at k y e = elim (cases_Bool (is_at (place_cmp (place_of b.event)) k)) [
        | inl here ↦ (x, put_event k ∙ cond-true (is_at (place_cmp (place_of b.event)) k) (Some x) (event_at entries k) here)
        | inr other ↦ (y, put_event k ∙ cond-false (is_at (place_cmp (place_of b.event)) k) (Some x) (event_at entries k) other ∙ e)
      ]

      all_at : (c : Body) → Contains (seen ++ b ∷ []) c → is_establishment c.event ≡ true → HasPlace new_entries c
      all_at c inside sets_keys = elim (among_either seen (b ∷ []) c (among (seen ++ b ∷ []) c inside)) [
        | inl m ↦ (let old = walked.placed.all c (contained seen c m) sets_keys in
            let new = found_at (place_of c.event) old.found old.is in
            record { spelled = old.spelled; found = new.0; is = new.1 })
        | inr (inl e) ↦ subst (λ c. HasPlace new_entries c) e
            (record {
              spelled = ip;
              found = x;
              is = put_event (place_of b.event)
                  ∙ cond-true (is_at (place_cmp (place_of b.event)) (place_of b.event)) (Some x) (event_at entries (place_of b.event)) (place_itself (place_of b.event));
            })
        | inr (inr none) ↦ absurd none
      ]

      list_now : (q : Prefix) → IsPrefix q → list_at new_lists q ≡ (rules_of (state (seen ++ b ∷ []) q)).witnesses
      list_now q iq =
          let at : is_at (slice_cmp nat_cmp (prefix_text (prefix_of b.event))) (prefix_text q) ≡ same_prefix (prefix_of b.event) q = prefix_at (prefix_of b.event) q ip iq in
          let put = put_list (prefix_text q) in
          let old = lookup (is_at (slice_cmp nat_cmp (prefix_text q))) lists in
          elim (cases_Bool (same_prefix (prefix_of b.event) q)) [
            | inl k ↦ ap list_of (put ∙ cond-true (is_at (slice_cmp nat_cmp (prefix_text (prefix_of b.event))) (prefix_text q)) (Some own) old (at ∙ k)) ∙ its_list ∙ sym (list_more q k)
            | inr k ↦ ap list_of (put ∙ cond-false (is_at (slice_cmp nat_cmp (prefix_text (prefix_of b.event))) (prefix_text q)) (Some own) old (at ∙ k)) ∙ walked.current q iq ∙ sym (list_other q k)
          ]

      pub walk_on : IsWalked held log (seen ++ b ∷ []) new_lists new_entries
      walk_on = record { placed = record { each = each_at; all = all_at }; current = list_now }
