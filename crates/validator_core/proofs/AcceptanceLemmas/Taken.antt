-- The tables stand when the entry of an event that came is added, and its claims are raised.
use Rattle.std.proofs.Common.{◌≡◌, ℕ, ◌<◌, true, false, ◌==◌, List, [], ◌∷◌, ◌++◌, length, Some, option_map, refl, sym, ◌∙◌, ap, inl, inr, subst}
use Rattle.std.specs.Prelude.{slice_get}
use Rattle.std.proofs.lemmas.Bool.{cases_Bool}
use Rattle.event_body.specs.EventBody.Events.{is_receipt}
use Rattle.key_state.proofs.Same.{numbers, number_itself}
use Rattle.journal.specs.declared.journal.body.Body.{Body}
use Rattle.journal.specs.declared.journal.claim.Claim.{Claim}
use Rattle.journal.specs.declared.journal.entry.Entry.{Entry}
use Rattle.journal.specs.declared.journal.entry.Entry.TheVariants.{Took}
use Rattle.journal.specs.Journal.Logs.{same_body}
use Rattle.journal.specs.Journal.History.{Told, took, claims_in}
use Rattle.journal.specs.Journal.Questions.{state_before}
use Rattle.journal.proofs.JournalLemmas.Accepting.{same_body-refl}
use Rattle.journal.proofs.JournalLemmas.Held.{told_push}
use Rattle.journal.proofs.JournalLemmas.Places.{others_differ, slice_get_last, slice_get_before}
use Rattle.claim_table.specs.declared.claim_table.claimed.Claimed.{Claimed}
use Rattle.claim_table.specs.ClaimTable.Rows.{raised_all}
use Rattle.claim_table.specs.CoreLaws.ClaimRows.{AreFound, AreClaims, HasClaims, found_on, triple_on, verdict_in}
use Rattle.claim_table.proofs.CoreLawsLemmas.Steps.{found_push, has_raised, has_same}
use Rattle.claim_table.proofs.CoreLawsLemmas.Told.{verdict_took}
use Rattle.validator_core.specs.Tables.View.{View, log_of, number_of, with_rows}
use Rattle.validator_core.specs.Acceptance.Standing.{AreSoundTables, told_of}
use Rattle.validator_core.specs.Acceptance.Taken.{found_by, with_entry}
use Rattle.validator_core.proofs.AcceptanceLemmas.FoundClaims.{found_unnamed}

-- the claims that come with an event stand on it, and on no other body
pub took_on : (reader : ℕ) (b : Body) (claims : List Claim) → claims_in b (took reader b claims) ≡ claims
took_on reader b claims = let same = same_body-refl b in rw same refl

pub took_off : (reader : ℕ) (b c : Body) (claims : List Claim) → is_receipt b.event ≡ false → same_body b c ≡ false → claims_in c (took reader b claims) ≡ []
took_off reader b c claims event other = rw (other, event) refl

-- an entry of a body that is held comes last in what is told
pub told_took : (v : View) (reader n : ℕ) (b : Body) (claims : List Claim) → slice_get v.held n ≡ Some b → told_of (with_entry (Took reader n claims) v) ≡ told_of v ++ took reader b claims ∷ []
told_took v reader n b claims at = told_push v.held v.entries (Took reader n claims) (took reader b claims) (ap (λ o. option_map (λ c. took reader c claims) o) at)

-- entries speak of held bodies still
pub held_entry : (v : View) (e : Entry) → number_of e < length v.held → ((i : ℕ) (f : Entry) → slice_get v.entries i ≡ Some f → number_of f < length v.held)
    → (i : ℕ) (f : Entry) → slice_get (v.entries ++ e ∷ []) i ≡ Some f → number_of f < length v.held
held_entry v e low below i f at = elim (cases_Bool (i == length v.entries)) [
  | inl k ↦ (let last : Some e ≡ Some f = sym (slice_get_last v.entries e) ∙ ap (slice_get (v.entries ++ e ∷ [])) (sym (numbers i (length v.entries) k)) ∙ at in
      let one : e ≡ f = cc in subst (λ g. number_of g < length v.held) one low)
  | inr k ↦ below i f (slice_get_before v.entries e i f (λ same. (let yes_same : (i == length v.entries) ≡ true = ap (λ m. m == length v.entries) same ∙ number_itself (length v.entries) in cc)) at)
]

module _ (v : View) (is : AreSoundTables v) (reader n : ℕ) (b : Body) (at : slice_get v.held n ≡ Some b) (low : n < length v.held) (event : is_receipt b.event ≡ false) (claims : List Claim) where
  abbrev after : View
  after = with_entry (Took reader n claims) v

  abbrev now_told : List Told
  now_told = told_of v ++ took reader b claims ∷ []

  -- AGAIN: the claims that came with an event that is held are raised where it stands
  pub standing_again : (cs : List Claimed) → AreFound n (state_before (log_of v) b) b.event (found_by (log_of v) b claims) cs
      → AreSoundTables (with_rows (raised_all v.claims.rows cs) (with_entry (Took reader n claims) v))
  standing_again cs are = record {
    spelled = is.spelled;
    differ = is.differ;
    entries_held = held_entry v (Took reader n claims) low is.entries_held;
    accepted_held = is.accepted_held;
    grown = is.grown;
    log = is.log;
    claims = subst (λ t. AreClaims t (log_of v) v.held (raised_all v.claims.rows cs)) (sym (told_took v reader n b claims at)) raised_now;
  }
    where
      heard_same : HasClaims (state_before (log_of v)) (λ m c. found_on (told_of v) (log_of v) c) (verdict_in now_told) v.held v.claims.rows
      heard_same = has_same (state_before (log_of v)) (state_before (log_of v)) (λ m c. found_on (told_of v) (log_of v) c) (λ m c. found_on (told_of v) (log_of v) c) (verdict_in (told_of v)) (verdict_in now_told) v.held v.claims.rows is.claims
          (λ m c there cs found. found) (λ m c key sig there. sym (verdict_took (told_of v) reader b claims (triple_on c key sig)))

      here : found_on now_told (log_of v) b ≡ found_on (told_of v) (log_of v) b ++ found_by (log_of v) b claims
      here = found_push (told_of v) (took reader b claims) (log_of v) b
          ∙ ap (λ l. found_on (told_of v) (log_of v) b ++ found_by (log_of v) b l) (took_on reader b claims)

      others : (m : ℕ) (c : Body) → slice_get v.held m ≡ Some c → (n == m) ≡ false → found_on now_told (log_of v) c ≡ found_on (told_of v) (log_of v) c
      others m c there other = found_unnamed (told_of v) (took reader b claims) (log_of v) c
          (took_off reader b c claims event (others_differ v.held is.differ n b at m c (λ same. (let yes_same : (n == m) ≡ true = ap (λ k. n == k) same ∙ number_itself n in cc)) there))

      raised_now : AreClaims now_told (log_of v) v.held (raised_all v.claims.rows cs)
      raised_now = has_raised (state_before (log_of v)) (λ m c. found_on (told_of v) (log_of v) c) (λ m c. found_on now_told (log_of v) c) (verdict_in now_told) v.held v.claims.rows n b
          (found_by (log_of v) b claims) cs heard_same at low are here others
