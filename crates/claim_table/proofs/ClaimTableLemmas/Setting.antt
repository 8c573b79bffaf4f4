-- Verdicts are set at the places of a signature's rows, one after the other.
use Rattle.std.proofs.Common.{◌≡◌, ℕ, ◌+◌, ◌-◌, ◌^◌, ◌<◌, Bool, true, false, List, length, get_or, Option, Some, None, refl, sym, ◌∙◌, ap, inl, inr, arith}
use Rattle.std.specs.Prelude.{slice_get, slice_index_or, Contains, count_by}
use Rattle.std.specs.Option.{option_map}
use Rattle.std.proofs.lemmas.Bool.{cases_Bool, cases_eq}
use Rattle.std.proofs.lemmas.List.{length-map}
use Rattle.std.proofs.lemmas.List.Sums.{count_by-le-length}
use Rattle.std.proofs.lemmas.Option.{slice_get-map, slice_get_read, slice_get_within}
use Rattle.claim_table.specs.ClaimTable.BodyParts.{BodyPart}
use Rattle.claim_table.specs.declared.claim_table.row.Row.{Row}
use Rattle.claim_table.specs.declared.claim_table.signature.Signature.{Signature}
use Rattle.claim_table.specs.ClaimTable.Entries.{bit}
use Rattle.claim_table.specs.ClaimTable.Keeping.{AreCounted, AreEntered, at_place, is_of_at}
use Rattle.claim_table.specs.ClaimTable.Parts.{brings, supports}
use Rattle.claim_table.specs.ClaimTable.Rows.{is_of, same_signature, signature_of, with_verdict, with_verdicts}
use Rattle.claim_table.proofs.ClaimTableLemmas.Hints.{default}
use Rattle.claim_table.proofs.ClaimTableLemmas.Lists.{at_place_made, at_place_same, at_place_there, bit_within, count_at, length-at_place, map_at_place, map_same}
use Rattle.claim_table.proofs.ClaimTableLemmas.Rows.{set_again, set_at, set_claimed, set_elsewhere}

module _ (s : Signature) (v : Option Bool) where
  -- where no row of the signature stands, nothing is set
  pub set_nothing : (rows : List Row) (place : ℕ) → is_of_at s (slice_get rows place) ≡ false → rows ≡ at_place place (with_verdict s v) rows
  set_nothing rows place h = sym (at_place_same (with_verdict s v) rows place (λ r e. set_elsewhere s v r (ap (is_of_at s) (sym e) ∙ h)))

  -- the row that is read there is of the signature
  pub found_there : (rows : List Row) (place : ℕ) → is_of_at s (slice_get rows place) ≡ true → place < length rows
  found_there rows place h = by (slice_get rows place) refl h
    where
      by : (o : Option Row) → slice_get rows place ≡ o → is_of_at s o ≡ true → place < length rows
      by None e k = cc
      by (Some r) e k = slice_get_within rows place r e

  pub read_there : (rows : List Row) (place : ℕ) (r : Row) → is_of_at s (slice_get rows place) ≡ true → r ≡ get_or rows place r → (slice_get rows place ≡ Some r) × (is_of s r ≡ true)
  read_there rows place r h is = let at = slice_get_read rows (length rows) place r refl (found_there rows place h) is in (at, ap (is_of_at s) (sym at) ∙ h)

  -- counts after one row's verdict was set
  pub counted_set : (rows : List Row) (place : ℕ) (r : Row) (old mid new : BodyPart → ℕ) → slice_get rows place ≡ Some r → with_verdict s v r ≡ record { claimed = r.claimed; verdict = v }
      → ((q : BodyPart) → mid q ≡ old q - bit (supports q r)) → ((q : BodyPart) → new q ≡ mid q + bit (supports q (record { claimed = r.claimed; verdict = v })))
      → AreCounted rows old → AreCounted (at_place place (with_verdict s v) rows) new
  counted_set rows place r old mid new at is less more h q =
      let one = less q in let two = more q in let all = h q in let changed = count_at (supports q) (with_verdict s v) rows place r at in
      let same = ap (λ r. bit (supports q r)) is in let had = bit_within (supports q) rows place r at in
      omega (arith, one, two, all, changed, same, had)

  -- a part that the row brings with its new verdict can be counted
  pub can_count : (rows : List Row) (place : ℕ) (r : Row) (q : BodyPart) (old mid : ℕ) → slice_get rows place ≡ Some r → with_verdict s v r ≡ record { claimed = r.claimed; verdict = v }
      → mid ≡ old - bit (supports q r) → old ≡ count_by (supports q) rows → supports q (record { claimed = r.claimed; verdict = v }) ≡ true → length rows < 2 ^ 32 → mid < 2 ^ 32 - 1
  can_count rows place r q old mid at is less all brought few =
      let changed = count_at (supports q) (with_verdict s v) rows place r at in let same = ap (λ r. bit (supports q r)) is in let one = ap bit brought in
      let had = bit_within (supports q) rows place r at in let most = count_by-le-length (supports q) (at_place place (with_verdict s v) rows) in let long = length-at_place (with_verdict s v) rows place in
      omega (arith, less, all, changed, same, one, had, most, long, few)

  module _ (rows now : List Row) (rest : with_verdicts s v now ≡ with_verdicts s v rows) where
    -- the rows are those of the same claims
    same_claim : (i : ℕ) (r : Row) → slice_get now i ≡ Some r → (q : Row) × (slice_get rows i ≡ Some q) × (q.claimed ≡ r.claimed)
    same_claim i r e =
        let there = ap (λ rows. slice_get rows i) (sym rest) ∙ slice_get-map (with_verdict s v) now i ∙ ap (option_map (with_verdict s v)) e in
        let was = set_at s v rows i (with_verdict s v r) there in
        (was.0, was.1, sym (set_claimed s v was.0) ∙ ap (λ (r : Row). r.claimed) was.2 ∙ set_claimed s v r)

    pub same_length : length now ≡ length rows
    same_length = let a = length-map now (with_verdict s v) in let b = length-map rows (with_verdict s v) in let c = ap length rest in omega (arith, a, b, c)

    pub entries_now : (old new : BodyPart → Bool) → ((q : BodyPart) → new q ≡ old q) → AreEntered rows old → AreEntered now new
    entries_now old new same h i r q e b = let was = same_claim i r e in same q ∙ h i was.0 q was.1 (ap (λ c. brings c.body c.parts q) was.2 ∙ b)

    -- once every place had its turn, each row has the verdict
    pub all_set : (places : List ℕ) → ((i : ℕ) → is_of_at s (slice_get rows i) ≡ true → Contains places i)
        → ((k n : ℕ) (r : Row) → k < length places → slice_index_or places k n ≡ n → slice_get now n ≡ Some r → with_verdict s v r ≡ r) → now ≡ with_verdicts s v rows
    all_set places all done = sym (map_same (with_verdict s v) now (λ i r e. elim (cases_Bool (is_of s r)) [
      | inr fails ↦ set_elsewhere s v r fails
      | inl some ↦ (let was = same_claim i r e in
          let of = ap (is_of_at s) was.1 ∙ ap (λ c. same_signature (signature_of c) s) was.2 ∙ some in
          let at = all i of in done at.0 i r at.1 at.2 e)
    ])) ∙ rest

    -- one place more
    pub rest_more : (place : ℕ) → with_verdicts s v (at_place place (with_verdict s v) now) ≡ with_verdicts s v rows
    rest_more place = map_at_place (with_verdict s v) now place (set_again s v v) ∙ rest

  pub done_more : (rows : List Row) (places : List ℕ) (index : ℕ) → index < length places
      → ((k n : ℕ) (r : Row) → k < index → slice_index_or places k n ≡ n → slice_get rows n ≡ Some r → with_verdict s v r ≡ r)
      → (k n : ℕ) (r : Row) → k < index + 1 → slice_index_or places k n ≡ n → slice_get (at_place (slice_index_or places index 0) (with_verdict s v) rows) n ≡ Some r → with_verdict s v r ≡ r
  done_more rows places index within done k n r lt is e = elim (cases_eq n (slice_index_or places index 0)) [
    | inl same ↦ (let made = at_place_made (with_verdict s v) rows n r (ap (λ p. slice_get (at_place p (with_verdict s v) rows) n) same ∙ e) in
        ap (with_verdict s v) made.1 ∙ set_again s v v made.0 ∙ sym made.1)
    | inr other ↦ (let stays = at_place_there (with_verdict s v) rows (slice_index_or places index 0) n other in elim (cases_eq k index) [
      | inl last ↦ absurd (other (sym is ∙ ap (λ k. slice_index_or places k n) last ∙ default places index n 0 within))
      | inr before ↦ done k n r (omega (arith, lt, before)) is (sym stays ∙ e)
    ])
  ]
