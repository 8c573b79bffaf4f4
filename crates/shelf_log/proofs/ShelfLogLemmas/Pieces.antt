-- How a record is read from its front.
use Rattle.std.proofs.Common.{◌≡◌, ℕ, ◌<◌, ◌≤◌, List, ◌++◌, length, take, drop, get_or, slice_index_or, Fits, w8, sym, ◌∙◌, ap, arith, take-append-drop, length-take-le, get_or-take}
use Rattle.std.specs.Int.{w32, to_be_bytes, from_be_bytes}
use Rattle.std.proofs.lemmas.Nat.{be_bytes_4}
use Rattle.std.proofs.lemmas.Bool.{cases_lt}
use Rattle.std.proofs.Common.{inl, inr}
use Rattle.std.proofs.lemmas.List.{get_or_past}

-- four bytes are the number that is read from them, as it is written
pub length_front : (behind first rest : List ℕ) (n : ℕ) → ((i : ℕ) → Fits w8 (slice_index_or behind i 0)) → 4 ≤ length behind → first ≡ take 4 behind → rest ≡ drop 4 behind
    → n ≡ from_be_bytes w32 first → behind ≡ to_be_bytes w32 n ++ rest
length_front behind first rest n small long first_is rest_is number =
    let four = be_bytes_4 (take 4 behind) n (length-take-le 4 behind long) byte (number ∙ ap (from_be_bytes w32) first_is) in
    sym (take-append-drop 4 behind) ∙ ap (λ (l : List ℕ). l ++ drop 4 behind) (sym four) ∙ ap (λ (l : List ℕ). to_be_bytes w32 n ++ l) (sym rest_is)
  where
    byte : (i : ℕ) → get_or (take 4 behind) i 0 < 256
    byte i = elim (cases_lt i 4) [
      | inl lt ↦ (let is = get_or-take 4 behind i 0 lt in let s = small i in omega (arith, is, s))
      | inr le ↦ (let none = get_or_past (take 4 behind) i 0 (omega (arith, le, length-take-le 4 behind long)) in omega (arith, none))
    ]
