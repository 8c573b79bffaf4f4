-- The tables stand when an event that is new comes with its entry, and all claims on it are raised where it stands.
use Rattle.std.proofs.Common.{◌≡◌, ℕ, suc, zero, ◌+◌, ◌<◌, Bool, true, false, not, ◌==◌, List, [], ◌∷◌, ◌++◌, length, Option, Some, None, option_map, refl, sym, ◌∙◌, ap, inl, inr, arith, subst, if◌then◌else◌}
use Rattle.std.specs.Prelude.{filter_map, is_none, slice_get}
use Rattle.cesr_codes.specs.declared.key.Key.{Key}
use Rattle.cesr_codes.specs.declared.sig.Sig.{Sig}
use Rattle.std.specs.List.{cons_option}
use Rattle.std.proofs.lemmas.Bool.{cases_Bool, and_from, or_parts, not_from_false}
use Rattle.std.proofs.lemmas.List.Folds.{list_all-append}
use Rattle.event_body.specs.EventBody.Events.{is_receipt}
use Rattle.key_state.proofs.Same.{numbers, number_itself}
use Rattle.journal.specs.declared.journal.body.Body.{Body}
use Rattle.journal.specs.declared.journal.claim.Claim.{Claim}
use Rattle.journal.specs.declared.journal.entry.Entry.{Entry}
use Rattle.journal.specs.declared.journal.entry.Entry.TheVariants.{Took}
use Rattle.journal.specs.Journal.Logs.{is_in, same_body}
use Rattle.journal.specs.Journal.Grown.{IsGrown}
use Rattle.journal.specs.Journal.History.{Told, took}
use Rattle.journal.specs.Journal.Journals.{chosen}
use Rattle.journal.specs.Journal.Questions.{state_before}
use Rattle.journal.proofs.JournalLemmas.Different.{Differ}
use Rattle.journal.proofs.JournalLemmas.Held.{told_push}
use Rattle.journal.proofs.JournalLemmas.Locality.{bytes_differ}
use Rattle.journal.proofs.JournalLemmas.Places.{slice_get_last, slice_get_before, slice_get_front, some_at}
use Rattle.journal.specs.EventRules.Parts.{Row as Found}
use Rattle.validator_core.specs.Tables.AcceptedLog.Cuts.{IsLog}
use Rattle.claim_table.specs.declared.claim_table.claimed.Claimed.{Claimed}
use Rattle.claim_table.specs.ClaimTable.Rows.{raised_all}
use Rattle.claim_table.specs.CoreLaws.ClaimRows.{AreFound, AreClaims, HasClaims, found_on, triple_on, verdict_in}
use Rattle.claim_table.proofs.CoreLawsLemmas.Steps.{has_new, has_raised, has_same}
use Rattle.claim_table.proofs.CoreLawsLemmas.Told.{verdict_took, verdict_there}
use Rattle.validator_core.specs.Tables.View.{View, log_of, number_of, with_rows}
use Rattle.validator_core.specs.Acceptance.Standing.{IsHeld, AreSoundTables, told_of}
use Rattle.validator_core.specs.Acceptance.Taken.{with_entry}
use Rattle.validator_core.proofs.AcceptanceLemmas.Taken.{took_off}
use Rattle.validator_core.proofs.AcceptanceLemmas.Entries.{told_front, unheard_outside}
use Rattle.validator_core.proofs.AcceptanceLemmas.FoundClaims.{found_unnamed}

-- a number of the list is below its length
pub low_at : (hs : List Body) (m : ℕ) (c : Body) → slice_get hs m ≡ Some c → m < length hs
low_at [] m c at = cc
low_at (h ∷ hs) zero c at = omega arith
low_at (h ∷ hs) (suc m) c at = (let ih = low_at hs m c at in omega (arith, ih))

-- numbers of held bodies choose the same when more are held
pub chosen_more : (held more : List Body) (numbers' : List ℕ) → ((i n : ℕ) → slice_get numbers' i ≡ Some n → n < length held) → chosen (held ++ more) numbers' ≡ chosen held numbers'
unfolding chosen
chosen_more held more [] below = refl
chosen_more held more (n ∷ ns) below =
    let x = some_at held n (below 0 n refl) in
    let here : slice_get (held ++ more) n ≡ slice_get held n = slice_get_front held more n x.0 x.1 ∙ sym x.1 in
    let rest = chosen_more held more ns (λ i m at. below (suc i) m at) in
    ap (λ o. cons_option o (filter_map (λ m. slice_get (held ++ more) m) ns)) here ∙ ap (cons_option (slice_get held n)) rest

-- a body that isn't in the list differs from all of it
pub differ_push : (held : List Body) (b : Body) → Differ same_body held → is_in held b ≡ false → Differ same_body (held ++ b ∷ [])
differ_push [] b d outside = (refl, tt)
differ_push (c ∷ held) b d outside =
    let parts = or_parts (same_body c b) (is_in held b) outside in
    let here : not (same_body c b) ≡ true = not_from_false _ parts.0 in
    (list_all-append (λ y. not (same_body c y)) held (b ∷ []) ∙ and_from _ _ d.0 (and_from (not (same_body c b)) true here refl), differ_push held b d.1 parts.1)

apart_at : (held : List Body) (m : ℕ) (b c : Body) → slice_get held m ≡ Some c → is_in held b ≡ false → same_body b c ≡ false
apart_at [] m b c at outside = cc
apart_at (h ∷ held) zero b c at outside = let is : h ≡ c = cc in
    bytes_differ c.bytes b.bytes (ap (λ x. same_body x b) (sym is) ∙ (or_parts (same_body h b) (is_in held b) outside).0)
apart_at (h ∷ held) (suc m) b c at outside = apart_at held m b c at (or_parts (same_body h b) (is_in held b) outside).1

module _ (held : List Body) (b : Body) where
  pub length_more : length (held ++ b ∷ []) ≡ length held + 1
  length_more = push held
    where
      push : (xs : List Body) → length (xs ++ b ∷ []) ≡ length xs + 1
      push [] = refl
      push (x ∷ xs) = (let ih = push xs in omega (arith, ih))

  -- a body of the longer list is the last, or was held
  pub last_or : (m : ℕ) (c : Body) → slice_get (held ++ b ∷ []) m ≡ Some c → (P : ℕ → Body → Type 0) → P (length held) b → ((slice_get held m ≡ Some c) → P m c) → P m c
  last_or m c at P here before = elim (cases_Bool (m == length held)) [
    | inl k ↦ (let same = numbers m (length held) k in
        let last : Some b ≡ Some c = sym (slice_get_last held b) ∙ ap (slice_get (held ++ b ∷ [])) (sym same) ∙ at in
        let one : b ≡ c = cc in subst (λ d. P m d) one (subst (λ k. P k b) (sym same) here))
    | inr k ↦ before (slice_get_before held b m c (λ same. (let yes_same : (m == length held) ≡ true = ap (λ k. k == length held) same ∙ number_itself (length held) in cc)) at)
  ]

-- no verdict was heard on a body that isn't held
pub unsaid_outside : (v : View) (b : Body) → is_in v.held b ≡ false → (key : Key) (sig : Sig) → verdict_in (told_of v) (triple_on b key sig) ≡ None
unsaid_outside v b outside key sig = none_of (verdict_in (told_of v) (triple_on b key sig))
    (verdict_there (told_of v) (triple_on b key sig) ∙ not_from_false _ (unheard_outside v.held v.entries b key sig outside))
  where
    none_of : (o : Option Bool) → is_none o ≡ true → o ≡ None
    none_of None h = refl
    none_of (Some y) h = cc

module _ (v : View) (is : AreSoundTables v) (reader : ℕ) (b : Body) (is_held : IsHeld b) (outside : is_in v.held b ≡ false) (claims : List Claim) where
  -- the view with the body and its entry
  abbrev pub with_body : View
  with_body = with_entry (Took reader (length v.held) claims) (record v { held = v.held ++ b ∷ [] })

  abbrev told_then : List Told
  told_then = told_of v ++ took reader b claims ∷ []

  pub told_body : told_of with_body ≡ told_then
  told_body = told_push (v.held ++ b ∷ []) v.entries (Took reader (length v.held) claims) (took reader b claims) (ap (λ o. option_map (λ c. took reader c claims) o) (slice_get_last v.held b))
      ∙ ap (λ l. l ++ took reader b claims ∷ []) (told_front v.held (b ∷ []) v.entries is.entries_held)

  pub log_body : log_of with_body ≡ log_of v
  log_body = chosen_more v.held (b ∷ []) v.log.numbers is.accepted_held

  entry_or : (i : ℕ) (f : Entry) → slice_get (v.entries ++ Took reader (length v.held) claims ∷ []) i ≡ Some f → number_of f < length (v.held ++ b ∷ [])
  entry_or i f at = elim (cases_Bool (i == length v.entries)) [
    | inl k ↦ (let last : Some (Took reader (length v.held) claims) ≡ Some f = sym (slice_get_last v.entries (Took reader (length v.held) claims)) ∙ ap (slice_get (v.entries ++ Took reader (length v.held) claims ∷ [])) (sym (numbers i (length v.entries) k)) ∙ at in
        let one : Took reader (length v.held) claims ≡ f = cc in
        let low : length v.held < length (v.held ++ b ∷ []) = omega (arith, length_more v.held b) in
        subst (λ g. number_of g < length (v.held ++ b ∷ [])) one low)
    | inr k ↦ (let old = slice_get_before v.entries (Took reader (length v.held) claims) i f (λ same. (let yes_same : (i == length v.entries) ≡ true = ap (λ m. m == length v.entries) same ∙ number_itself (length v.entries) in cc)) at in
        let low = is.entries_held i f old in omega (arith, low, length_more v.held b))
  ]

  -- NEW: with the body, its entry and the rows of its claims the tables stand
  pub standing_new : is_receipt b.event ≡ false → (cs : List Claimed) → AreFound (length v.held) (state_before (log_of v) b) b.event (found_on told_then (log_of v) b) cs
      → AreSoundTables (with_rows (raised_all v.claims.rows cs) with_body)
  standing_new event cs are = record {
    spelled = λ m c at. last_or v.held b m c at (λ k d. IsHeld d) is_held (λ old. is.spelled m c old);
    differ = differ_push v.held b is.differ outside;
    entries_held = entry_or;
    accepted_held = λ i n at. (let low = is.accepted_held i n at in omega (arith, low, length_more v.held b));
    grown = subst IsGrown (sym log_body) is.grown;
    log = subst (λ l. IsLog l v.log) (sym log_body) is.log;
    claims = subst (λ t. AreClaims t (log_of with_body) (v.held ++ b ∷ []) (raised_all v.claims.rows cs)) (sym told_body)
        (subst (λ l. AreClaims told_then l (v.held ++ b ∷ []) (raised_all v.claims.rows cs)) (sym log_body) raised_now);
  }
    where
      log : List Body
      log = log_of v

      was : ℕ → Body → List Found
      was m c = if m == length v.held then [] else found_on (told_of v) log c

      off : (m : ℕ) → m < length v.held → (m == length v.held) ≡ false
      off m low = elim (cases_Bool (m == length v.held)) [ inr k ↦ k | inl k ↦ (let same = numbers m (length v.held) k in absurd (omega (arith, low, same))) ]

      was_is : (m : ℕ) (c : Body) → slice_get v.held m ≡ Some c → was m c ≡ found_on (told_of v) log c
      was_is m c at = ap (λ y. if y then [] else found_on (told_of v) log c) (off m (low_at v.held m c at))

      begun : HasClaims (state_before log) was (verdict_in told_then) v.held v.claims.rows
      begun = has_same (state_before log) (state_before log) (λ m c. found_on (told_of v) log c) was (verdict_in (told_of v)) (verdict_in told_then) v.held v.claims.rows is.claims
          (λ m c there cs found. subst (λ l. AreFound m (state_before log c) c.event l cs) (sym (was_is m c there)) found)
          (λ m c key sig there. sym (verdict_took (told_of v) reader b claims (triple_on c key sig)))

      unsaid : (key : Key) (sig : Sig) → verdict_in told_then (triple_on b key sig) ≡ None
      unsaid key sig = verdict_took (told_of v) reader b claims (triple_on b key sig) ∙ unsaid_outside v b outside key sig

      more : HasClaims (state_before log) was (verdict_in told_then) (v.held ++ b ∷ []) v.claims.rows
      more = has_new (state_before log) was (verdict_in told_then) v.held v.claims.rows b begun (ap (λ y. if y then [] else found_on (told_of v) log b) (number_itself (length v.held))) unsaid

      raised_now : AreClaims told_then log (v.held ++ b ∷ []) (raised_all v.claims.rows cs)
      raised_now = has_raised (state_before log) was (λ m c. found_on told_then log c) (verdict_in told_then) (v.held ++ b ∷ []) v.claims.rows (length v.held) b (found_on told_then log b) cs more
          (slice_get_last v.held b) (omega (arith, length_more v.held b)) are
          (sym (ap (λ l. l ++ found_on told_then log b) (ap (λ y. if y then [] else found_on (told_of v) log b) (number_itself (length v.held)))))
          (λ m c there other. others m c there other)
        where
          others : (m : ℕ) (c : Body) → slice_get (v.held ++ b ∷ []) m ≡ Some c → (length v.held == m) ≡ false → found_on told_then log c ≡ was m c
          others m c there other =
              let old = slice_get_before v.held b m c (λ same. (let yes_same : (length v.held == m) ≡ true = ap (λ k. length v.held == k) same ∙ number_itself (length v.held) in cc)) there in
              found_unnamed (told_of v) (took reader b claims) log c (took_off reader b c claims event (apart_at v.held m b c old outside)) ∙ sym (was_is m c old)
