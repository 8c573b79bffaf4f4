-- Two numbers with a slash between them.
use Rattle.std.proofs.Common.{◌≡◌, ◌≢◌, ℕ, suc, ◌+◌, ◌^◌, ◌<◌, List, [], ◌∷◌, ◌++◌, length, take, drop, get_or, refl, sym, ap, subst, ◌∙◌, arith, add-one, drop-cons}
use Rattle.std.specs.Str.Parse.{AllDigits}
use Rattle.std.specs.Char.{digit_value}
use Rattle.std.proofs.lemmas.List.{take-append-drop, take_more}
use Rattle.std.specs.Fmt.{decimal}
use Rattle.std.proofs.lemmas.Fmt.{decimal_is_IsNumeral, decimal_injective}
use Rattle.sith.specs.Weights.{HasNoSlash, IsPart}

pub first_same : (a b : ℕ) (x y : List ℕ) → a ∷ x ≡ b ∷ y → a ≡ b
first_same a b x y e = cc

behind_first : (a b : ℕ) (x y : List ℕ) → a ∷ x ≡ b ∷ y → x ≡ y
behind_first a b x y e = cc

pub no_slash : (text top bottom : List ℕ) → HasNoSlash text → text ≢ top ++ 47 ∷ bottom
no_slash [] [] bottom none e = cc
no_slash [] (c ∷ top) bottom none e = cc
no_slash (b ∷ text) [] bottom none e = none.0 (first_same b 47 text bottom e)
no_slash (b ∷ text) (c ∷ top) bottom none e = no_slash text top bottom none.1 (behind_first b c text (top ++ 47 ∷ bottom) e)

pub one_slash : (a b x y : List ℕ) → HasNoSlash a → HasNoSlash b → a ++ 47 ∷ x ≡ b ++ 47 ∷ y → (a ≡ b) × (x ≡ y)
one_slash [] [] x y none other e = (refl, behind_first 47 47 x y e)
one_slash [] (c ∷ b) x y none other e = absurd (other.0 (sym (first_same 47 c x (b ++ 47 ∷ y) e)))
one_slash (c ∷ a) [] x y none other e = absurd (none.0 (first_same c 47 (a ++ 47 ∷ x) y e))
one_slash (c ∷ a) (d ∷ b) x y none other e =
    let rest = one_slash a b x y none.1 other.1 (behind_first c d (a ++ 47 ∷ x) (b ++ 47 ∷ y) e) in
    let heads = first_same c d (a ++ 47 ∷ x) (b ++ 47 ∷ y) e in
    (ap (λ h. h ∷ a) heads ∙ ap (λ l. d ∷ l) rest.0, rest.1)

slash_is_no_digit : (c : ℕ) → digit_value c < 10 → c ≢ 47
slash_is_no_digit c digit is = let value : digit_value 47 < 10 = subst (λ b. digit_value b < 10) is digit in omega arith

digits_no_slash : (digits : List ℕ) → AllDigits 10 digits → HasNoSlash digits
digits_no_slash [] all = tt
digits_no_slash (c ∷ digits) all = (slash_is_no_digit c all.0, digits_no_slash digits all.1)

pub decimal_no_slash : (n : ℕ) → n < 2 ^ 64 → HasNoSlash (decimal n)
decimal_no_slash n few = digits_no_slash (decimal n) (decimal_is_IsNumeral n few).0.1

-- the two numbers are what stands on both sides of the slash
pub part_is : (n d : ℕ) (text top bottom : List ℕ) → IsPart n d → HasNoSlash top → text ≡ top ++ 47 ∷ bottom → text ≡ decimal n ++ 47 ∷ decimal d → (top ≡ decimal n) × (bottom ≡ decimal d)
part_is n d text top bottom part none whole is =
    one_slash top (decimal n) bottom (decimal d) none (decimal_no_slash n (omega (arith, part))) (sym whole ∙ is)

-- a part has one spelling
pub one_part : (n d m e : ℕ) → (n < 2 ^ 32) × (d < 2 ^ 32) → (m < 2 ^ 32) × (e < 2 ^ 32) → decimal n ++ 47 ∷ decimal d ≡ decimal m ++ 47 ∷ decimal e → (n ≡ m) × (d ≡ e)
one_part n d m e ours theirs same =
    let both = one_slash (decimal n) (decimal m) (decimal d) (decimal e) (decimal_no_slash n (omega (arith, ours.0))) (decimal_no_slash m (omega (arith, theirs.0))) same in
    (decimal_injective n m (omega (arith, ours.0)) (omega (arith, theirs.0)) both.0, decimal_injective d e (omega (arith, ours.1)) (omega (arith, theirs.1)) both.1)

-- the text before a place, the byte there and the text behind it
pub split_there : (text : List ℕ) (place : ℕ) (byte : ℕ) → place < length text → get_or text place 0 ≡ byte → text ≡ take place text ++ byte ∷ drop (place + 1) text
split_there text place byte within is =
    sym (take-append-drop place text) ∙ ap (λ l. take place text ++ l) (drop-cons text place 0 within ∙ ap (λ b. b ∷ drop (suc place) text) is)
    ∙ ap (λ next. take place text ++ byte ∷ drop next text) (sym (add-one place))

no_slash_push : (bytes : List ℕ) (b : ℕ) → HasNoSlash bytes → b ≢ 47 → HasNoSlash (bytes ++ b ∷ [])
no_slash_push [] b none other = (other, tt)
no_slash_push (c ∷ bytes) b none other = (none.0, no_slash_push bytes b none.1 other)

pub no_slash_more : (text : List ℕ) (place : ℕ) → place < length text → HasNoSlash (take place text) → get_or text place 0 ≢ 47 → HasNoSlash (take (place + 1) text)
no_slash_more text place within none other = subst HasNoSlash (sym (take_more text place 0 within)) (no_slash_push (take place text) (get_or text place 0) none other)

pub split_is : (text top bottom : List ℕ) (place : ℕ) → HasNoSlash (take place text) × (place < length text) × (get_or text place 0 ≡ 47) → top ≡ take place text → bottom ≡ drop (place + 1) text → HasNoSlash top × (text ≡ top ++ 47 ∷ bottom)
split_is text top bottom place found front back = (
  subst HasNoSlash (sym front) found.0,
  split_there text place 47 found.1 found.2 ∙ ap (λ l. l ++ 47 ∷ drop (place + 1) text) (sym front) ∙ ap (λ l. top ++ 47 ∷ l) (sym back),
)
