-- Numbers in decimal, and places of signatures.
use Rattle.std.proofs.Common.{◌≡◌, ◌≢◌, ℕ, ◌^◌, ◌<◌, false, List, [], ◌∷◌, refl, subst, arith, codes, length}
use Rattle.std.specs.List.{position_or_len}
use Rattle.std.specs.Prelude.{◌==◌}
use Rattle.std.specs.Fmt.{decimal}
use Rattle.std.specs.Char.{digit_value}
use Rattle.std.specs.Str.Parse.{AllDigits}
use Rattle.std.proofs.lemmas.Bool.Decides.{nat_tests}
use Rattle.std.proofs.lemmas.Fmt.{decimal_is_IsNumeral}
use Rattle.controller_core.specs.declared.controller_core.slot.Slot.{Slot}
use Rattle.controller_core.specs.PlanText.Lines.{Splits}
use Rattle.controller_core.specs.PlanText.Entries.{IsSlot, slot_text, ondex_text}
use Rattle.controller_core.proofs.PlanTextLemmas.Parts.{Lacks, parts_of, stands}

space_is_no_digit : (c : ℕ) → digit_value c < 10 → c ≢ 32
space_is_no_digit c digit is = let value : digit_value 32 < 10 = subst (λ b. digit_value b < 10) is digit in omega arith

other : (c : ℕ) → c ≢ 32 → (c == 32) ≡ false
other c differs = grind (arith, nat_tests)

digits_lack_space : (digits : List ℕ) → AllDigits 10 digits → Lacks 32 digits
digits_lack_space [] all = refl
digits_lack_space (c ∷ digits) all = rw (other c (space_is_no_digit c all.0)) (omega (arith, digits_lack_space digits all.1))

decimal_lacks_space : (n : ℕ) → n < 2 ^ 16 → Lacks 32 (decimal n)
decimal_lacks_space n few = digits_lack_space (decimal n) (decimal_is_IsNumeral n (omega arith)).0.1

-- no number is written as a hyphen
pub no_hyphen : (n : ℕ) → n < 2 ^ 16 → decimal n ≢ codes "-"
no_hyphen n few is =
    let digits : AllDigits 10 (codes "-") = subst (AllDigits 10) is (decimal_is_IsNumeral n (omega arith)).0.1 in
    let value : digit_value 45 < 10 = digits.0 in omega arith

-- the parts of a place's text
pub slot_parts : (slot : Slot) (value front behind : List ℕ) → IsSlot slot → value ≡ slot_text slot → Splits 32 value front behind → (front ≡ decimal slot.index) × (behind ≡ ondex_text slot.ondex)
slot_parts slot value front behind is e parts = parts_of 32 value front behind (decimal slot.index) (ondex_text slot.ondex) (decimal_lacks_space slot.index is.0) e parts

pub slot_has_space : (slot : Slot) (value : List ℕ) → IsSlot slot → value ≡ slot_text slot → position_or_len (λ b. b == 32) value < length value
slot_has_space slot value is e = stands 32 value (decimal slot.index) (ondex_text slot.ondex) (decimal_lacks_space slot.index is.0) e
