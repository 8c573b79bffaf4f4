-- Parts of at most 4,095 signatures, one off the front of the others.
use Rattle.std.proofs.Common.{◌≡◌, ℕ, ◌-◌, ◌<◌, min, suc, List, [], ◌∷◌, ◌++◌, length, take, drop, ◌∙◌, ap, inl, inr, arith, length-append, append-nil}
use Rattle.std.specs.Simd.{first_chunks}
use Rattle.std.specs.Slice.Iter.{chunk_count}
use Rattle.std.proofs.lemmas.Bool.{cases_lt}
use Rattle.std.proofs.lemmas.List.{drop_all, nil_from_length, take_all, take-append-le}
use Rattle.std.proofs.Math.Seq.{take-length, drop-append_seam}
use Rattle.cesr_codes.specs.declared.indexed_sig.IndexedSig.{IndexedSig}
use Rattle.journal_views.specs.EventPayload.Payloads.{parts_of}

-- one more part than are behind the first
counts : (n : ℕ) → 0 < n → chunk_count n 4095 ≡ suc (chunk_count (n - min 4095 n) 4095)
counts n some = omega arith

module _ {X : Type 0} where
  take_front : (front rest : List X) → length front ≡ min 4095 (length (front ++ rest)) → take 4095 (front ++ rest) ≡ front
  take_front front rest long = elim (cases_lt (length front) 4095) [
    | inl short ↦ (let none : rest ≡ [] = nil_from_length rest (omega (arith, long, short, length-append front rest)) in rw (none, append-nil) (take_all 4095 front (omega (arith, short))))
    | inr full ↦ (let size : 4095 ≡ length front = omega (arith, long, full) in ap (λ n. take n (front ++ rest)) size ∙ take-append-le (length front) front rest (omega arith) ∙ take-length front)
  ]

  drop_front : (front rest : List X) → length front ≡ min 4095 (length (front ++ rest)) → drop 4095 (front ++ rest) ≡ rest
  drop_front front rest long = elim (cases_lt (length front) 4095) [
    | inl short ↦ (let none : rest ≡ [] = nil_from_length rest (omega (arith, long, short, length-append front rest)) in rw (none, append-nil) (drop_all 4095 front (omega (arith, short))))
    | inr full ↦ (let size : 4095 ≡ length front = omega (arith, long, full) in ap (λ n. drop n (front ++ rest)) size ∙ drop-append_seam front rest)
  ]

-- FIRST: the first part, and those of what is behind it
pub parts_step : (sigs front rest : List IndexedSig) → sigs ≡ front ++ rest → length front ≡ min 4095 (length sigs) → 0 < length sigs → parts_of sigs ≡ front ∷ parts_of rest
parts_step sigs front rest parts long some =
    let here : length front ≡ min 4095 (length (front ++ rest)) = long ∙ ap (λ xs. min 4095 (length xs)) parts in
    let left : length sigs - min 4095 (length sigs) ≡ length rest = omega (arith, long, ap length parts, length-append front rest) in
    let count : chunk_count (length sigs) 4095 ≡ suc (chunk_count (length rest) 4095) = counts (length sigs) some ∙ ap (λ n. suc (chunk_count n 4095)) left in
    ap (λ k. first_chunks 4095 k sigs) count
    ∙ (λ i. take 4095 (parts i) ∷ first_chunks 4095 (chunk_count (length rest) 4095) (drop 4095 (parts i)))
    ∙ (λ i. take_front front rest here i ∷ first_chunks 4095 (chunk_count (length rest) 4095) (drop_front front rest here i))
