-- The table of digits holds each byte's digit, which is below 64 where the byte is a character.
use Rattle.std.proofs.Common.{◌≡◌, ℕ, ◌<◌, ◌≤◌, ◌==◌, ◌&&◌, nat_lt, nat_le, not, Bool, true, false, slice_index, refl}
use Rattle.std.proofs.lemmas.Bool.{and_parts, eqb-true, leb-true}
use Rattle.base64.specs.Tables.{all_below}
use Rattle.base64.proofs.Tables.{all_below_at}
use Rattle.lists.specs.KeriSpecs.Base64.{digit_of, is_character}
use Rattle.cesr_codes.specs.declared.character.TheConstants.{DIGITS}

abbrev same_test : Bool → Bool → Bool
same_test true b = b
same_test false b = not b

same_from : (a b : Bool) → same_test a b ≡ true → a ≡ b
same_from true true h = refl
same_from true false h = cc h
same_from false true h = cc h
same_from false false h = refl

abbrev entry_test : ℕ → Bool
entry_test c = (slice_index DIGITS c == digit_of c) && same_test (nat_lt (slice_index DIGITS c) 64) (is_character c) && nat_le (slice_index DIGITS c) 64

table_test : all_below entry_test 256 ≡ true
table_test = refl

pub digit_at : (c : ℕ) → c < 256 → (slice_index DIGITS c ≡ digit_of c) × (nat_lt (slice_index DIGITS c) 64 ≡ is_character c) × (slice_index DIGITS c ≤ 64)
digit_at c lt =
    let all = and_parts _ (nat_le (slice_index DIGITS c) 64) (all_below_at entry_test 256 c table_test lt) in
    let front = and_parts (slice_index DIGITS c == digit_of c) _ all.0 in
    (eqb-true _ _ front.0, same_from _ _ front.1, leb-true _ _ all.1)
