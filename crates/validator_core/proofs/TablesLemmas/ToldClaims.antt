-- The claims on a body that is held: those of an entry, and those of all entries, by the numbers of the entries with its name.
use Rattle.std.proofs.Common.{◌≡◌, ℕ, ◌||◌, ◌&&◌, ◌==◌, Bool, true, false, List, [], refl, sym, ◌∙◌, ap, inl, inr, Option, Some, None, if◌then◌else◌}
use Rattle.std.specs.Prelude.{Contains, flat_map, option_map, slice_get}
use Rattle.std.specs.List.Sorted.{IsStrictlyIncreasing}
use Rattle.std.specs.Cmp.Lexicographic.{bytes_decides}
use Rattle.std.proofs.lemmas.Bool.{and_parts, cases_Bool, or_cases}
use Rattle.claim_table.proofs.CoreLawsLemmas.States.{same_digest_is}
use Rattle.cesr_codes.specs.declared.key.Key.{Key}
use Rattle.cesr_codes.specs.declared.sig.Sig.{Sig}
use Rattle.event_body.specs.declared.event_body.event.Event.{Event}
use Rattle.event_body.specs.EventBody.Events.{is_receipt, prefix_of, said_of, sn_of}
use Rattle.journal.specs.declared.journal.body.Body.{Body}
use Rattle.journal.specs.declared.journal.claim.Claim.{Claim}
use Rattle.journal.specs.declared.journal.entry.Entry.{Entry}
use Rattle.journal.specs.declared.journal.entry.Entry.TheVariants.{Took, Heard}
use Rattle.journal.specs.Journal.History.{claims_on, heard, is_receipt_for, took}
use Rattle.journal.specs.Journal.Journals.{told_by, whole}
use Rattle.journal.specs.Journal.Logs.{same_body}
use Rattle.journal.proofs.JournalLemmas.Different.{Differ}
use Rattle.journal.proofs.JournalLemmas.Places.{one_body, one_place}
use Rattle.key_state.specs.Same.{same_digest, same_prefix}
use Rattle.key_state.proofs.Same.{number_itself, numbers, same_prefix_is}
use Rattle.validator_core.specs.Tables.EntryClaims.{came_to, is_receipt_of, bears_on}
use Rattle.validator_core.specs.Tables.Names.{name_of}
use Rattle.validator_core.specs.Tables.Raised.{claims_at, claims_of}
use Rattle.validator_core.proofs.TablesLemmas.GatheredLists.{flat_map-filter_map, flat_map-numbers}
use Rattle.validator_core.proofs.TablesLemmas.Rows.{not_some, some_is}

-- a receipt has the name of the event that it speaks of
receipt_named : (c b : Body) → is_receipt_for c b ≡ true → name_of c.event ≡ name_of b.event
receipt_named c b h =
    let one = and_parts ((is_receipt c.event && same_digest (said_of c.event) (said_of b.event)) && same_prefix (prefix_of c.event) (prefix_of b.event)) (sn_of c.event == sn_of b.event) h in
    let two = and_parts (is_receipt c.event && same_digest (said_of c.event) (said_of b.event)) (same_prefix (prefix_of c.event) (prefix_of b.event)) one.0 in
    let three = and_parts (is_receipt c.event) (same_digest (said_of c.event) (said_of b.event)) two.0 in
    let p = same_prefix_is (prefix_of c.event) (prefix_of b.event) two.1 in
    let n = numbers (sn_of c.event) (sn_of b.event) one.1 in
    let d = same_digest_is (said_of c.event) (said_of b.event) three.1 in
    λ i. record { prefix = p i; sn = n i; said = d i }

-- nothing stands on a body by a verdict
none_heard : (b : Body) (reader : ℕ) (key : Key) (sig : Sig) (verdict : Bool) (o : Option Body) → claims_of b (option_map (λ c. heard reader c key sig verdict) o) ≡ []
none_heard b reader key sig verdict None = refl
none_heard b reader key sig verdict (Some c) = refl

module _ (held : List Body) (apart : Differ same_body held) (n : ℕ) (b : Body) (at : slice_get held n ≡ Some b) where
  -- what came with another body stands on this one where that is this one, or a receipt of it: it has its name
  named_so : (m : ℕ) (c : Body) → slice_get held m ≡ Some c → (same_body c b || is_receipt_for c b) ≡ true → name_of c.event ≡ name_of b.event
  named_so m c there h = elim (or_cases (same_body c b) (is_receipt_for c b) h) [
    | inl k ↦ ap (λ x. name_of x.event) (one_body held apart m n c b there at ((bytes_decides c.bytes b.bytes).0 k))
    | inr k ↦ receipt_named c b k
  ]

  -- the number of the body tells which it is
  same_number : (m : ℕ) (c : Body) → slice_get held m ≡ Some c → (m == n) ≡ same_body c b
  same_number m c there = elim (cases_Bool (m == n)) [
    | inl k ↦ (let one = some_is c b (sym there ∙ ap (slice_get held) (numbers m n k) ∙ at) in
        k ∙ sym ((bytes_decides c.bytes b.bytes).1 (ap (λ x. x.bytes) one)))
    | inr k ↦ elim (cases_Bool (same_body c b)) [
      | inl l ↦ (let place = one_place held apart m n c b there at ((bytes_decides c.bytes b.bytes).0 l) in
          ap (λ k. k == n) place ∙ number_itself n ∙ sym l)
      | inr l ↦ k ∙ sym l
    ]
  ]

  module _ (events : List Event) (same : (m : ℕ) → slice_get events m ≡ option_map (λ c. c.event) (slice_get held m)) where
    took_is : (m reader : ℕ) (claims : List Claim) (o : Option Body) → slice_get held m ≡ o
        → (if bears_on events m n then claims else []) ≡ claims_of b (option_map (λ c. took reader c claims) o)
    took_is m reader claims None none = elim (cases_Bool (m == n)) [
      | inl k ↦ absurd (not_some b (sym none ∙ ap (slice_get held) (numbers m n k) ∙ at))
      | inr k ↦ (let missing : slice_get events m ≡ None = same m ∙ ap (option_map (λ c. c.event)) none in
          let no : bears_on events m n ≡ false = λ i. k i || is_receipt_of (missing i) (slice_get events n) in rw no refl)
    ]
    took_is m reader claims (Some c) there =
        let own = same_number m c there in
        let one : slice_get events m ≡ Some c.event = same m ∙ ap (option_map (λ c. c.event)) there in
        let other : slice_get events n ≡ Some b.event = same n ∙ ap (option_map (λ c. c.event)) at in
        let stands : bears_on events m n ≡ (same_body c b || is_receipt_for c b) = λ i. own i || is_receipt_of (one i) (other i) in
        ap (λ t. if t then claims else []) stands

    -- CAME: the claims of an entry that stand on the body of a number are those that it tells
    pub came_is : (o : Option Entry) → came_to events n o ≡ claims_at held b o
    came_is None = refl
    came_is (Some (Took reader m claims)) = took_is m reader claims (slice_get held m) refl
    came_is (Some (Heard reader m key sig verdict)) = sym (none_heard b reader key sig verdict (slice_get held m))

  -- TOLD: the claims that came by the entries with the name of the body, where they stand on it, are all claims on it
  pub told_claims : (entries : List Entry) (places : List ℕ) → IsStrictlyIncreasing places
      → ((i reader m : ℕ) (claims : List Claim) (c : Body) → slice_get entries i ≡ Some (Took reader m claims) → slice_get held m ≡ Some c → name_of c.event ≡ name_of b.event → Contains places i)
      → flat_map (λ i. claims_at held b (slice_get entries i)) places ≡ claims_on (told_by held entries) b
  unfolding claims_on told_by
  told_claims entries places rising all =
      flat_map-numbers (claims_at held b) refl entries places rising each
      ∙ flat_map-filter_map (claims_of b) (whole held) entries refl
    where
      by_body : (i reader m : ℕ) (claims : List Claim) (o : Option Body) → slice_get entries i ≡ Some (Took reader m claims) → slice_get held m ≡ o
          → (claims_of b (option_map (λ c. took reader c claims) o) ≡ [] → ⊥) → Contains places i
      by_body i reader m claims None by there gives = absurd (gives refl)
      by_body i reader m claims (Some c) by there gives = elim (cases_Bool (same_body c b || is_receipt_for c b)) [
        | inl k ↦ all i reader m claims c by there (named_so m c there k)
        | inr k ↦ absurd (gives (rw k refl))
      ]

      each : (i : ℕ) (e : Entry) → slice_get entries i ≡ Some e → (claims_at held b (Some e) ≡ [] → ⊥) → Contains places i
      each i (Took reader m claims) by gives = by_body i reader m claims (slice_get held m) by refl gives
      each i (Heard reader m key sig verdict) by gives = absurd (gives (none_heard b reader key sig verdict (slice_get held m)))
