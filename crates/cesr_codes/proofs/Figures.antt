-- Numbers of 16 bytes: their bytes, what stands at the front, and that it is good and the only one.
use Rattle.std.proofs.Common.{◌≡◌, ℕ, zero, suc, ◌+◌, ◌-◌, ◌*◌, ◌%◌, ◌^◌, ◌<◌, ◌≤◌, List, [], ◌∷◌, ◌++◌, length, take, drop, get_or, slice_index, codes, refl, sym, ap, ◌∙◌, arith, pow-suc, mul_comm, Some}
use Rattle.std.proofs.Math.Arith.{mod-mul}
use Rattle.std.proofs.Math.Nat.{pow-le-pow_right}
use Rattle.std.proofs.lemmas.Bool.{le-ltb}
use Rattle.std.proofs.lemmas.Int.Digits.{number_more}
use Rattle.std.proofs.lemmas.List.{take_all, take_at, drop_at}
use Rattle.std.specs.Int.{w128, byte_at, byte_worth, bytes_high_first, sum_through, from_be_bytes}
use Rattle.lists.specs.KeriSpecs.Base64.{whole_number, base64_text}
use Rattle.lists.proofs.KeriSpecsLemmas.Digits.{number_after-split}
use Rattle.cesr_codes.specs.declared.number.Number.{Number}
use Rattle.cesr_codes.specs.Codes.{number_layout}
use Rattle.cesr_codes.specs.Reading.{IsAtFront, IsCoded}
use Rattle.cesr_codes.specs.Spelling.{number_text, IsNumber}
use Rattle.cesr_codes.specs.Table.{good, verdict, layout_verdict, number_layouts}
use Rattle.cesr_codes.proofs.Numbers.{bytes_low, length-base64_text, same_digits}
use Rattle.cesr_codes.proofs.Front.{parts, coded_good}

length-high : (k n : ℕ) → length (bytes_high_first k n) ≡ k
length-high zero n = refl
length-high (suc k) n = omega (arith, length-high k n)

-- one more byte before the last k of a number
byte_before : (k n : ℕ) → byte_at k n * 256 ^ k + n % 256 ^ k ≡ n % 256 ^ suc k
byte_before zero n = omega arith
byte_before (suc k) n =
    let unit : ℕ = 256 ^ suc k in
    let wider : 256 ^ suc (suc k) ≡ 256 * unit = pow-suc 256 (suc k) ∙ mul_comm unit 256 in
    let some : 0 < unit = pow-le-pow_right {n = 256} (omega arith) {i = 0} {j = suc k} (omega arith) in
    rw (wider, mod-mul n {m = 256} {c = unit} (omega arith) some) refl

-- the last bytes of a number are those of its rest
pub number-high : (k n : ℕ) → whole_number (bytes_high_first k n) ≡ n % 256 ^ k
number-high zero n = omega arith
number-high (suc k) n =
    let byte : ℕ = byte_at k n in
    let value : whole_number (byte ∷ bytes_high_first k n) ≡ (0 * 256 + byte) * 256 ^ length (bytes_high_first k n) + whole_number (bytes_high_first k n) = number_after-split 256 (0 * 256 + byte) (bytes_high_first k n) in
    let first : 0 * 256 + byte ≡ byte = omega arith in
    value
    ∙ ap (λ x. x * 256 ^ length (bytes_high_first k n) + whole_number (bytes_high_first k n)) first
    ∙ ap (λ m. byte * 256 ^ m + whole_number (bytes_high_first k n)) (length-high k n)
    ∙ ap (λ x. byte * 256 ^ k + x) (number-high k n)
    ∙ byte_before k n

worth : (i b : ℕ) → byte_worth i b ≡ b * 256 ^ i
worth zero b = omega arith
worth (suc i) b = refl

-- the sum of what the first bytes are worth
sum_is : (bs : List ℕ) (m k : ℕ) → k ≤ m → m < length bs → sum_through (λ i. byte_worth (m - i) (slice_index bs i)) k ≡ whole_number (take (k + 1) bs) * 256 ^ (m - k)
sum_is [] m k le lt = absurd (omega arith)
sum_is (b ∷ bs) m zero le lt = let same : 0 * 256 + b ≡ b = omega arith in let all : m - 0 ≡ m = omega arith in rw all (worth m b ∙ ap (λ x. x * 256 ^ m) (sym same))
sum_is (b ∷ bs) m (suc k) le lt =
    let before = sum_is (b ∷ bs) m k (omega arith) lt in
    let more : whole_number (take (k + 1 + 1) (b ∷ bs)) ≡ whole_number (take (k + 1) (b ∷ bs)) * 256 + get_or (b ∷ bs) (k + 1) 0 = number_more 256 (b ∷ bs) (k + 1) (omega arith) in
    let place : suc k ≡ k + 1 = omega arith in
    let less : m - k ≡ suc (m - suc k) = omega arith in
    let power : 256 ^ (m - k) ≡ 256 ^ (m - suc k) * 256 = ap (λ j. 256 ^ j) less ∙ pow-suc 256 (m - suc k) in
    let last : byte_worth (m - suc k) (slice_index (b ∷ bs) (suc k)) ≡ get_or (b ∷ bs) (k + 1) 0 * 256 ^ (m - suc k)
    = worth (m - suc k) (slice_index (b ∷ bs) (suc k)) ∙ ap (λ j. get_or (b ∷ bs) j 0 * 256 ^ (m - suc k)) place in
    joined (whole_number (take (k + 1) (b ∷ bs))) (get_or (b ∷ bs) (k + 1) 0) (256 ^ (m - k)) (256 ^ (m - suc k)) _ _ _ before power last (ap (λ j. whole_number (take (j + 1) (b ∷ bs))) place ∙ more)
  where
    joined : (n byte p q s w t : ℕ) → s ≡ n * p → p ≡ q * 256 → w ≡ byte * q → t ≡ n * 256 + byte → s + w ≡ t * q
    joined n byte p q s w t es ep ew et = rw (es, ep, ew, et) (omega arith)

pub from_be : (bs : List ℕ) → length bs ≡ 16 → from_be_bytes w128 bs ≡ whole_number bs
from_be bs len = sum_is bs 15 15 (omega arith) (omega (arith, len)) ∙ ap (λ xs. whole_number xs * 1) (take_all 16 bs (omega (arith, len))) ∙ omega arith

pub length-number_text : (number : Number) → length (number_text number) ≡ 24
length-number_text number = omega (arith, length-base64_text 22 number.value)

pub stands_number : (text raw : List ℕ) (value : ℕ) → IsCoded number_layouts number_layout text raw → value ≡ from_be_bytes w128 raw → IsAtFront number_text IsNumber text (record { value = value }) 24
stands_number text raw value coded is =
    let same : value ≡ whole_number raw = is ∙ from_be raw coded.whole.bytes.0 in
    record {
      valid = omega (arith, same, bytes_low 16 raw coded.whole.bytes);
      counted = sym (length-number_text (record { value = value }));
      enough = coded.enough;
      front = parts number_layouts number_layout text raw coded ∙ ap (λ n. (codes "0A" ++ base64_text 22 n) ++ drop 24 text) (sym same);
    }

number_judged : (xs : List ℕ) → verdict number_layouts (48 ∷ 65 ∷ xs) ≡ layout_verdict (Some number_layout) (48 ∷ 65 ∷ xs)
number_judged xs = rw (le-ltb (length (48 ∷ 65 ∷ xs)) 2 (omega arith)) refl

pub good_number : (number : Number) (rest : List ℕ) → IsNumber number → verdict number_layouts (number_text number ++ rest) ≡ good (length (number_text number))
good_number number rest valid =
    number_judged (base64_text 22 number.value ++ rest) ∙ coded_good (codes "0A") [] 0 22 16 number.value rest refl refl (omega (arith, valid)) (omega (arith, valid)) refl ∙ ap good (sym (length-number_text number))

pub same_number : (a b : Number) (r s : List ℕ) → IsNumber a → IsNumber b → number_text a ++ r ≡ number_text b ++ s → (a ≡ b) × (r ≡ s)
same_number a b r s ia ib e =
    let text : number_text a ≡ number_text b = sym (take_at (number_text a) r 24 (length-number_text a)) ∙ ap (take 24) e ∙ take_at (number_text b) s 24 (length-number_text b) in
    let rest : r ≡ s = sym (drop_at (number_text a) r 24 (length-number_text a)) ∙ ap (drop 24) e ∙ drop_at (number_text b) s 24 (length-number_text b) in
    (ap (λ value. record { value = value }) (same_digits 22 a.value b.value (omega (arith, ia)) (omega (arith, ib)) (ap (drop 2) text)), rest)
