-- Digits of numbers in a base, and the numbers of digits.
use Rattle.std.proofs.Common.{◌≡◌, ℕ, zero, suc, ◌+◌, ◌*◌, ◌/◌, ◌%◌, ◌^◌, ◌<◌, List, [], ◌∷◌, ◌++◌, length, drop, replicate, refl, sym, ap, ◌∙◌, arith, append_assoc, append-nil, length-append, add-zero}
use Rattle.std.proofs.lemmas.List.{drop_all, drop-append-le}
use Rattle.std.proofs.Math.Nat.{add-suc, pow-suc, pow-zero, mul-add-div_right, mul-add-mod_self_right, div-lt_iff_lt-mul, mul_assoc, mod-eq_of_lt}
use Rattle.std.proofs.lemmas.Int.Digits.{number_push, number_lt}
use Rattle.std.specs.Int.Digits.{number_from_digits, number_from_digits_after, AllBelowBase}
use Rattle.lists.specs.KeriSpecs.Base64.{digits_in}

-- a number's digits are those of its upper part and those of its lower part
pub digits_in-split : (b i k h l : ℕ) → 0 < b → l < b ^ k → digits_in b (i + k) (h * b ^ k + l) ≡ digits_in b i h ++ digits_in b k l
unfolding digits_in
digits_in-split b i zero h l pos lt =
    let e : h * b ^ zero + l ≡ h = rw pow-zero (omega (arith, rw pow-zero at lt)) in
    rw (add-zero, e) (sym (append-nil _))
digits_in-split b i (suc k) h l pos lt =
    let m : h * b ^ suc k + l ≡ (h * b ^ k) * b + l = rw (pow-suc, mul_assoc) refl in
    let q : (h * b ^ suc k + l) / b ≡ h * b ^ k + l / b = rw m (mul-add-div_right pos (h * b ^ k) l) in
    let r : (h * b ^ suc k + l) % b ≡ l % b = rw m (mul-add-mod_self_right (h * b ^ k) b l) in
    let small : l / b < b ^ k = (div-lt_iff_lt-mul pos).1 (rw pow-suc at lt) in
    rw (add-suc, q, r, digits_in-split b i k h (l / b) pos small) (append_assoc (digits_in b i h) (digits_in b k (l / b)) (l % b ∷ []))

-- a number that has digits after n is n times a power, and the number of the digits
pub number_after-split : (b n : ℕ) (ds : List ℕ) → number_from_digits_after b n ds ≡ n * b ^ length ds + number_from_digits b ds
number_after-split b n [] = rw pow-zero (omega arith)
number_after-split b n (d ∷ ds) =
    let p : ℕ = b ^ length ds in
    let left = number_after-split b (n * b + d) ds in
    let right = number_after-split b (0 * b + d) ds in
    let e : b ^ suc (length ds) ≡ b ^ length ds * b = pow-suc b (length ds) in
    omega (arith, left, right, ap (λ x. n * x) e)

all_below-push : (b : ℕ) (ds : List ℕ) (d : ℕ) → AllBelowBase b ds → d < b → AllBelowBase b (ds ++ d ∷ [])
all_below-push b [] d all lt = (lt, tt)
all_below-push b (x ∷ ds) d all lt = (all.0, all_below-push b ds d all.1 lt)

pub length-digits_in : (b k n : ℕ) → length (digits_in b k n) ≡ k
unfolding digits_in
length-digits_in b zero n = refl
length-digits_in b (suc k) n = omega (arith, length-append (digits_in b k (n / b)) (n % b ∷ []), length-digits_in b k (n / b))

-- each digit is below the base
pub all_below-digits_in : (b k n : ℕ) → 0 < b → AllBelowBase b (digits_in b k n)
unfolding digits_in
all_below-digits_in b zero n pos = tt
all_below-digits_in b (suc k) n pos = all_below-push b (digits_in b k (n / b)) (n % b) (all_below-digits_in b k (n / b) pos) (omega arith)

-- the number of a number's digits is the number, where they hold it
pub number-digits_in : (b k n : ℕ) → 0 < b → n < b ^ k → number_from_digits b (digits_in b k n) ≡ n
unfolding digits_in
number-digits_in b zero n pos lt = omega (arith, rw pow-zero at lt)
number-digits_in b (suc k) n pos lt =
    let small : n / b < b ^ k = (div-lt_iff_lt-mul pos).1 (rw pow-suc at lt) in
    rw (number_push, number-digits_in b k (n / b) pos small) (omega arith)

-- the digits of the number of digits are these
pub digits_in-number : (b : ℕ) (ds : List ℕ) → 0 < b → AllBelowBase b ds → digits_in b (length ds) (number_from_digits b ds) ≡ ds
unfolding digits_in
digits_in-number b [] pos all = refl
digits_in-number b (d ∷ ds) pos all =
    let low : number_from_digits b ds < b ^ length ds = number_lt b ds all.1 in
    let value : number_from_digits b (d ∷ ds) ≡ d * b ^ length ds + number_from_digits b ds
    = number_after-split b (0 * b + d) ds ∙ ap (λ x. x * b ^ length ds + number_from_digits b ds) (omega arith) in
    let count : suc (length ds) ≡ 1 + length ds = omega arith in
    let one : d % b ≡ d = mod-eq_of_lt all.0 in
    ap (digits_in b (suc (length ds))) value
    ∙ ap (λ k. digits_in b k (d * b ^ length ds + number_from_digits b ds)) count
    ∙ digits_in-split b 1 (length ds) d (number_from_digits b ds) pos low
    ∙ ap (λ x. (x ∷ []) ++ digits_in b (length ds) (number_from_digits b ds)) one
    ∙ ap (λ x. d ∷ x) (digits_in-number b ds pos all.1)

-- the last digits of a number don't depend on how many stand before them
pub drop-digits_in : (b i k n : ℕ) → drop i (digits_in b (i + k) n) ≡ digits_in b k n
unfolding digits_in
drop-digits_in b i zero n =
    let count : length (digits_in b i n) ≡ i = length-digits_in b i n in rw add-zero (drop_all i (digits_in b i n) (omega arith))
drop-digits_in b i (suc k) n =
    let count : length (digits_in b (i + k) (n / b)) ≡ i + k = length-digits_in b (i + k) (n / b) in
    rw add-suc (drop-append-le i (digits_in b (i + k) (n / b)) (n % b ∷ []) (omega arith) ∙ ap (λ ds. ds ++ n % b ∷ []) (drop-digits_in b i k (n / b)))

-- zeros before digits change nothing
pub number-zeros : (b k : ℕ) (ds : List ℕ) → number_from_digits b (replicate k 0 ++ ds) ≡ number_from_digits b ds
number-zeros b zero ds = refl
number-zeros b (suc k) ds =
    let none : 0 * b + 0 ≡ 0 = omega arith in ap (λ n. number_from_digits_after b n (replicate k 0 ++ ds)) none ∙ number-zeros b k ds
