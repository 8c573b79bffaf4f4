-- The logs of identifiers: one event more.
use Rattle.std.proofs.Common.{◌≡◌, ℕ, ◌<◌, Bool, true, false, cond, List, [], ◌∷◌, ◌++◌, length, map, Some, None, is_some, refl, sym, ◌∙◌, ap, subst, append-nil, inl, inr, arith}
use Rattle.std.specs.Prelude.{All, slice_get}
use Rattle.std.specs.BTreeMap.{insert_entry, is_at}
use Rattle.std.specs.Cmp.{both_ways}
use Rattle.std.specs.Cmp.Lexicographic.{bytes_decides, slice_cmp, texts_ties}
use Rattle.std.specs.List.{list_any}
use Rattle.std.specs.List.Sorted.{IsPermutation}
use Rattle.std.specs.Map.{lookup, set_value}
use Rattle.std.specs.Ordering.{nat_cmp}
use Rattle.std.proofs.lemmas.Bool.{cases_Bool, cond-false, cond-true}
use Rattle.std.proofs.lemmas.List.{map_push}
use Rattle.std.proofs.lemmas.List.Elements.{All-cons, All-head, All-push, All-tail, filter-append}
use Rattle.std.proofs.lemmas.List.Sorted.{All-permutation, IsPermutation-map, IsPermutation-push_more, IsPermutation-refl, list_any-IsPermutation}
use Rattle.std.proofs.lemmas.Option.{slice_get_within}
use Rattle.cesr_codes.specs.Spelling.{IsPrefix, prefix_text}
use Rattle.cesr_codes.specs.declared.prefix.Prefix.{Prefix}
use Rattle.cesr_codes.proofs.Same as texts
use Rattle.event_body.specs.EventBody.Events.{prefix_of}
use Rattle.key_state.specs.Same.{distinct, same_prefix}
use Rattle.key_state.proofs.Same.{same_prefix_is, same_prefix_itself}
use Rattle.journal.specs.declared.journal.body.Body.{Body}
use Rattle.journal.specs.Journal.Journals.{chosen}
use Rattle.journal.specs.Journal.Logs.{is_of}
use Rattle.journal.proofs.JournalLemmas.Distinct.{any-distinct, distinct-push_new, distinct-push_old}
use Rattle.journal.proofs.JournalLemmas.Held.{chosen_push}
use Rattle.journal.proofs.JournalLemmas.Same.{moves, turned}
use Rattle.report_lines.specs.Logs.{AreLogs, IsHead, heads_of, items_of, numbers_at, prefixes_in}
use Rattle.report_lines.specs.Report.{own_of, prefixes_of}
use Rattle.report_lines.specs.declared.logs.Log.{Log}
use Rattle.report_lines.proofs.Entries.{inserted, reads_kept}

-- the text of a prefix finds a text
abbrev at_text : Prefix → List ℕ → Bool
at_text p = is_at (slice_cmp nat_cmp (prefix_text p))

-- it finds that of the same prefix, and of no other
same_text : (p q : Prefix) → IsPrefix p → IsPrefix q → at_text p (prefix_text q) ≡ same_prefix p q
same_text p q ip iq = both_ways (at_text p (prefix_text q)) (same_prefix p q)
    (λ h.
    let text : prefix_text p ≡ prefix_text q = (bytes_decides (prefix_text p) (prefix_text q)).0 (texts_ties (prefix_text p) (prefix_text q) ∙ h) in
    let same : p ≡ q = (texts.same_prefix p q [] [] ip iq (ap (λ t. t ++ []) text)).0 in
    subst (λ r. same_prefix p r ≡ true) same (same_prefix_itself p))
    (λ h. subst (λ r. at_text p (prefix_text r) ≡ true) (same_prefix_is p q h)
    (sym (texts_ties (prefix_text p) (prefix_text p)) ∙ (bytes_decides (prefix_text p) (prefix_text p)).1 refl))

-- a prefix is among those of the entries exactly where its text finds a log
has_log : (p : Prefix) → IsPrefix p → (es : List (List ℕ × Log)) → All IsHead (heads_of es)
    → list_any (λ q. same_prefix q p) (prefixes_in es) ≡ is_some (lookup (at_text p) es)
has_log p ip [] heads = refl
has_log p ip (e ∷ es) heads =
    let head = All-head IsHead (e.0, e.1.prefix) (heads_of es) heads in
    let rest = has_log p ip es (All-tail IsHead (e.0, e.1.prefix) (heads_of es) heads) in
    let here : at_text p e.0 ≡ same_prefix e.1.prefix p =
    ap (at_text p) head.0 ∙ same_text p e.1.prefix ip head.1 ∙ turned same_prefix same_prefix_is same_prefix_itself p e.1.prefix in
    elim (cases_Bool (same_prefix e.1.prefix p)) [
      | inl k ↦ (let at = here ∙ k in rw (k, at) refl)
      | inr k ↦ (let at = here ∙ k in rw (k, at) rest)
    ]

-- an event is in the log of its own identifier, and of no other
module _ (log : List Body) (p : Prefix) (b : Body) (of : prefix_of b.event ≡ p) where
  own_push : (q : Prefix) → same_prefix p q ≡ true → own_of q (log ++ b ∷ []) ≡ own_of q log ++ b ∷ []
  own_push q k =
      let here : is_of q b ≡ true = ap (λ r. same_prefix r q) of ∙ k in
      filter-append (is_of q) log (b ∷ []) ∙ ap (λ bs. own_of q log ++ bs) (cond-true (is_of q b) (b ∷ []) [] here)

  own_stays : (q : Prefix) → same_prefix p q ≡ false → own_of q (log ++ b ∷ []) ≡ own_of q log
  own_stays q k =
      let here : is_of q b ≡ false = ap (λ r. same_prefix r q) of ∙ k in
      filter-append (is_of q) log (b ∷ []) ∙ ap (λ bs. own_of q log ++ bs) (cond-false (is_of q b) (b ∷ []) [] here) ∙ append-nil (own_of q log)

  prefixes_push : list_any (λ q. same_prefix q p) (map (λ c. prefix_of c.event) log) ≡ false → prefixes_of (log ++ b ∷ []) ≡ prefixes_of log ++ p ∷ []
  prefixes_push h =
      let ps = map (λ (c : Body). prefix_of c.event) log in
      ap (distinct same_prefix) (map_push (λ (c : Body). prefix_of c.event) log b ∙ ap (λ p. ps ++ p ∷ []) of) ∙ distinct-push_new same_prefix p ps h

  prefixes_stay : list_any (λ q. same_prefix q p) (map (λ c. prefix_of c.event) log) ≡ true → prefixes_of (log ++ b ∷ []) ≡ prefixes_of log
  prefixes_stay h =
      let ps = map (λ (c : Body). prefix_of c.event) log in
      ap (distinct same_prefix) (map_push (λ (c : Body). prefix_of c.event) log b ∙ ap (λ p. ps ++ p ∷ []) of) ∙ distinct-push_old same_prefix p ps h

-- no event is in no log
pub no_logs : (held : List Body) (es : List (List ℕ × Log)) → es ≡ [] → AreLogs held (chosen held []) es
unfolding distinct chosen
no_logs held es none = rw none (record {
  heads = λ k d h. absurd (omega (arith, h));
  members = IsPermutation-refl [];
  numbers_held = λ p ip k d h. absurd (omega (arith, h));
  own = λ p ip. refl;
})

-- ONE MORE: an event, whose number is written behind those that stand at its prefix
module _ (held log : List Body) (p : Prefix) (ip : IsPrefix p) (n : ℕ) (b : Body) (at : slice_get held n ≡ Some b) (of : prefix_of b.event ≡ p)
    (old : List (List ℕ × Log)) (logs : AreLogs held log old) where
  -- whether its identifier has a log already
  known : list_any (λ q. same_prefix q p) (map (λ c. prefix_of c.event) log) ≡ is_some (lookup (at_text p) old)
  known = sym (any-distinct same_prefix (moves same_prefix same_prefix_is same_prefix_itself) p (map (λ c. prefix_of c.event) log))
      ∙ list_any-IsPermutation (λ q. same_prefix q p) (prefixes_of log) (prefixes_in old) logs.members
      ∙ has_log p ip old logs.heads

  module _ (new : List (List ℕ × Log)) (w : Log)
      (updates : (t : List ℕ) → lookup (is_at (slice_cmp nat_cmp t)) new ≡ cond (at_text p t) (Some w) (lookup (is_at (slice_cmp nat_cmp t)) old))
      (pushed : w.numbers.items ≡ numbers_at old p ++ n ∷ []) where
    here : (q : Prefix) → IsPrefix q → same_prefix p q ≡ true → numbers_at new q ≡ numbers_at old p ++ n ∷ []
    here q iq k = ap items_of (updates (prefix_text q) ∙ cond-true (at_text p (prefix_text q)) (Some w) (lookup (at_text q) old) (same_text p q ip iq ∙ k)) ∙ pushed

    there : (q : Prefix) → IsPrefix q → same_prefix p q ≡ false → numbers_at new q ≡ numbers_at old q
    there q iq k = ap items_of (updates (prefix_text q) ∙ cond-false (at_text p (prefix_text q)) (Some w) (lookup (at_text q) old) (same_text p q ip iq ∙ k))

    own_more : (q : Prefix) → IsPrefix q → chosen held (numbers_at new q) ≡ own_of q (log ++ b ∷ [])
    own_more q iq = elim (cases_Bool (same_prefix p q)) [
      | inl k ↦ ap (chosen held) (here q iq k) ∙ chosen_push held (numbers_at old p) n b at
          ∙ ap (λ bs. bs ++ b ∷ []) (logs.own p ip ∙ ap (λ r. own_of r log) (same_prefix_is p q k)) ∙ sym (own_push log p b of q k)
      | inr k ↦ ap (chosen held) (there q iq k) ∙ logs.own q iq ∙ sym (own_stays log p b of q k)
    ]

    held_more : (q : Prefix) → IsPrefix q → All (λ n. n < length held) (numbers_at new q)
    held_more q iq = elim (cases_Bool (same_prefix p q)) [
      | inl k ↦ subst (All (λ n. n < length held)) (sym (here q iq k))
          (All-push (λ n. n < length held) (numbers_at old p) n (logs.numbers_held p ip) (slice_get_within held n b at))
      | inr k ↦ subst (All (λ n. n < length held)) (sym (there q iq k)) (logs.numbers_held q iq)
    ]

    more : All IsHead (heads_of new) → IsPermutation (prefixes_of (log ++ b ∷ [])) (prefixes_in new) → AreLogs held (log ++ b ∷ []) new
    more heads members = record { heads = heads; members = members; numbers_held = held_more; own = own_more }

    -- behind those of a log that stands there
    pub known_more : (l : Log) → Some l ≡ lookup (at_text p) old → w.prefix ≡ l.prefix → new ≡ set_value (at_text p) old w → AreLogs held (log ++ b ∷ []) new
    known_more l found prefix is =
        let kept : heads_of new ≡ heads_of old = ap heads_of is ∙ reads_kept (λ (l : Log). l.prefix) (at_text p) l w prefix old (sym found) in
        more (subst (All IsHead) (sym kept) logs.heads)
        (subst (IsPermutation (prefixes_of (log ++ b ∷ []))) (sym (ap (map (λ h. h.1)) kept))
        (subst (λ ps. IsPermutation ps (prefixes_in old)) (sym (prefixes_stay log p b of (known ∙ ap is_some (sym found)))) logs.members))

    -- in a log of its own
    pub new_more : None ≡ lookup (at_text p) old → w.prefix ≡ p → new ≡ insert_entry (slice_cmp nat_cmp) old (prefix_text p) w → AreLogs held (log ++ b ∷ []) new
    new_more none prefix is =
        let moved : IsPermutation ((prefix_text p, w) ∷ old) new = subst (IsPermutation ((prefix_text p, w) ∷ old)) (sym is)
        (inserted (slice_cmp nat_cmp) (prefix_text p) w old (sym none)) in
        let heads : IsPermutation ((prefix_text p, w.prefix) ∷ heads_of old) (heads_of new) =
        IsPermutation-map (λ e. (e.0, e.1.prefix)) ((prefix_text p, w) ∷ old) new moved in
        let head : IsHead (prefix_text p, w.prefix) = subst (λ r. IsHead (prefix_text p, r)) (sym prefix) (refl, ip) in
        let prefixes : IsPermutation (p ∷ prefixes_in old) (prefixes_in new) = subst (λ r. IsPermutation (r ∷ prefixes_in old) (prefixes_in new)) prefix
        (IsPermutation-map (λ h. h.1) ((prefix_text p, w.prefix) ∷ heads_of old) (heads_of new) heads) in
        more (All-permutation IsHead ((prefix_text p, w.prefix) ∷ heads_of old) (heads_of new) heads (All-cons IsHead (prefix_text p, w.prefix) (heads_of old) head logs.heads))
        (subst (λ ps. IsPermutation ps (prefixes_in new)) (sym (prefixes_push log p b of (known ∙ ap is_some (sym none))))
        (IsPermutation-push_more (prefixes_of log) (prefixes_in old) (prefixes_in new) p logs.members prefixes))

  -- the same where the text was written beforehand
  module _ (text : List ℕ) (spelled : text ≡ prefix_text p) (new : List (List ℕ × Log)) (w : Log) where
    pub known_at : (l : Log) → Some l ≡ lookup (is_at (slice_cmp nat_cmp text)) old → w.prefix ≡ l.prefix → w.numbers.items ≡ l.numbers.items ++ n ∷ []
        → ((t : List ℕ) → lookup (is_at (slice_cmp nat_cmp t)) new ≡ cond (is_at (slice_cmp nat_cmp text) t) (Some w) (lookup (is_at (slice_cmp nat_cmp t)) old))
        → new ≡ set_value (is_at (slice_cmp nat_cmp text)) old w → AreLogs held (log ++ b ∷ []) new
    known_at l found prefix pushed updates set =
        let there : Some l ≡ lookup (at_text p) old = found ∙ ap (λ t. lookup (is_at (slice_cmp nat_cmp t)) old) spelled in
        known_more new w (λ t. updates t ∙ ap (λ u. cond (is_at (slice_cmp nat_cmp u) t) (Some w) (lookup (is_at (slice_cmp nat_cmp t)) old)) spelled)
        (pushed ∙ ap (λ o. items_of o ++ n ∷ []) there) l there prefix (set ∙ ap (λ t. set_value (is_at (slice_cmp nat_cmp t)) old w) spelled)

    pub new_at : (before : List (List ℕ × Log)) → before ≡ old → None ≡ lookup (is_at (slice_cmp nat_cmp text)) old → w.prefix ≡ p → w.numbers.items ≡ n ∷ []
        → ((t : List ℕ) → lookup (is_at (slice_cmp nat_cmp t)) new ≡ cond (is_at (slice_cmp nat_cmp text) t) (Some w) (lookup (is_at (slice_cmp nat_cmp t)) before))
        → new ≡ insert_entry (slice_cmp nat_cmp) before text w → AreLogs held (log ++ b ∷ []) new
    new_at before same found prefix alone updates inserts =
        let none : None ≡ lookup (at_text p) old = found ∙ ap (λ t. lookup (is_at (slice_cmp nat_cmp t)) old) spelled in
        new_more new w (λ t. updates t ∙ (λ i. cond (is_at (slice_cmp nat_cmp (spelled i)) t) (Some w) (lookup (is_at (slice_cmp nat_cmp t)) (same i))))
        (alone ∙ ap (λ o. items_of o ++ n ∷ []) none) none prefix (inserts ∙ (λ i. insert_entry (slice_cmp nat_cmp) (same i) (spelled i) w))
