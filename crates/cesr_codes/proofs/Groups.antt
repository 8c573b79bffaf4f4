-- Base 64 in groups of three bytes gives the digits of the bytes read as one number.
use Rattle.std.proofs.Common.{◌≡◌, ℕ, zero, suc, ◌+◌, ◌-◌, ◌*◌, ◌/◌, ◌%◌, ◌^◌, ◌<◌, ◌≤◌, List, [], ◌∷◌, ◌++◌, length, map, take, drop, replicate, slice_index, refl, sym, ap, ◌∙◌, arith, append-nil, pow-add, length-append}
use Rattle.std.proofs.Math.Nat.{mul-suc}
use Rattle.std.proofs.lemmas.Int.Digits.{number_lt}
use Rattle.std.proofs.lemmas.List.{drop-map, length-replicate, take-replicate}
use Rattle.std.specs.Int.Digits.{AllBelowBase}
use Rattle.base64.specs.Rfc4648.{encode_symbols, encode_group}
use Rattle.base64.specs.GeneralPurpose.{encode_of}
use Rattle.base64.specs.Engines.{url_safe_no_pad}
use Rattle.lists.specs.KeriSpecs.Base64.{digits_in, whole_number, AreBytes, characters, character, base64_text}
use Rattle.lists.proofs.KeriSpecsLemmas.Digits.{digits_in-split, drop-digits_in, number_after-split, number-zeros}

-- bytes are digits in base 256
pub bytes_below : (xs : List ℕ) → ((i : ℕ) → slice_index xs i < 256) → AllBelowBase 256 xs
bytes_below [] h = tt
bytes_below (x ∷ xs) h = (h 0, bytes_below xs (λ i. h (suc i)))

-- a group of three bytes is four digits
group_digits : (t : List ℕ) (a b c : ℕ) → a < 256 → b < 256 → c < 256 → encode_group t a b c ≡ map (slice_index t) (digits_in 64 4 (a * 65536 + b * 256 + c))
unfolding digits_in
group_digits t a b c la lb lc =
    let e0 : (a * 65536 + b * 256 + c) / 64 / 64 / 64 % 64 ≡ a / 4 = omega arith in
    let e1 : (a * 65536 + b * 256 + c) / 64 / 64 % 64 ≡ a % 4 * 16 + b / 16 = omega arith in
    let e2 : (a * 65536 + b * 256 + c) / 64 % 64 ≡ b % 16 * 4 + c / 64 = omega arith in
    let e3 : (a * 65536 + b * 256 + c) % 64 ≡ c % 64 = omega arith in
    rw (e0, e1, e2, e3) refl

-- as many groups of digits as of bytes
pub pow_groups : (q : ℕ) → 256 ^ (3 * q) ≡ 64 ^ (4 * q)
pow_groups zero = refl
pow_groups (suc q) =
    rw (mul-suc 3 q, mul-suc 4 q, pow-add, pow-add) (rw (pow_groups q) refl)

pub map-append : {A B : Type 0} (f : A → B) (xs ys : List A) → map f (xs ++ ys) ≡ map f xs ++ map f ys
map-append f [] ys = refl
map-append f (x ∷ xs) ys = ap (λ zs. f x ∷ zs) (map-append f xs ys)

-- the symbols of whole groups are the digits
pub encode_digits : (t m : List ℕ) (q : ℕ) → length m ≡ 3 * q → AllBelowBase 256 m → encode_symbols t m ≡ map (slice_index t) (digits_in 64 (4 * q) (whole_number m))
unfolding encode_symbols digits_in
encode_digits t [] zero len all = refl
encode_digits t [] (suc q) len all = absurd (omega arith)
encode_digits t (a ∷ []) q len all = absurd (omega arith)
encode_digits t (a ∷ b ∷ []) q len all = absurd (omega arith)
encode_digits t (a ∷ b ∷ c ∷ rest) zero len all = absurd (omega arith)
encode_digits t (a ∷ b ∷ c ∷ rest) (suc q) len all =
    let n : ℕ = a * 65536 + b * 256 + c in
    let shorter : length rest ≡ 3 * q = omega arith in
    let power : 256 ^ length rest ≡ 64 ^ (4 * q) = rw shorter (pow_groups q) in
    let low : whole_number rest < 64 ^ (4 * q) = rw power at (number_lt 256 rest all.1.1.1) in
    let value : whole_number (a ∷ b ∷ c ∷ rest) ≡ n * 64 ^ (4 * q) + whole_number rest
    = number_after-split 256 (((0 * 256 + a) * 256 + b) * 256 + c) rest ∙ ap (λ x. x + whole_number rest) (rw power (ap (λ x. x * 64 ^ (4 * q)) (omega arith))) in
    let count : 4 * suc q ≡ 4 + 4 * q = omega arith in
    let front = group_digits t a b c all.0 all.1.0 all.1.1.0 in
    let back = encode_digits t rest q shorter all.1.1.1 in
    ap (λ xs. xs ++ encode_symbols t rest) front
    ∙ ap (λ ys. map (slice_index t) (digits_in 64 4 n) ++ ys) back
    ∙ sym (map-append (slice_index t) (digits_in 64 4 n) (digits_in 64 (4 * q) (whole_number rest)))
    ∙ ap (map (slice_index t)) (sym (digits_in-split 64 4 (4 * q) n (whole_number rest) (omega arith) low))
    ∙ sym (ap (λ x. map (slice_index t) (digits_in 64 (4 * suc q) x)) value ∙ ap (λ k. map (slice_index t) (digits_in 64 k (n * 64 ^ (4 * q) + whole_number rest))) count)

-- the table of the engine is that of the characters
engine_table : encode_of url_safe_no_pad ≡ (λ m. encode_symbols characters m ++ [])
engine_table = refl

-- what the engine makes of whole groups are the digits
pub encoded_text : (m : List ℕ) (q : ℕ) → AreBytes (3 * q) m → encode_of url_safe_no_pad m ≡ base64_text (4 * q) (whole_number m)
encoded_text m q bytes = append-nil (encode_symbols characters m) ∙ encode_digits characters m q bytes.0 (bytes_below m bytes.1)

byte_behind_zeros : (k : ℕ) (raw : List ℕ) → ((i : ℕ) → slice_index raw i < 256) → (i : ℕ) → slice_index (replicate k 0 ++ raw) i < 256
byte_behind_zeros zero raw h i = h i
byte_behind_zeros (suc k) raw h zero = omega arith
byte_behind_zeros (suc k) raw h (suc i) = byte_behind_zeros k raw h i

-- what is written behind the first of a list of one element
pub behind_first : (n k x : ℕ) (first last more : List ℕ) → k ≤ n → first ≡ take k (replicate n x) → last ≡ more → first ++ last ≡ replicate k x ++ more
behind_first n k x first last more le e d = ap (λ xs. xs ++ last) (e ∙ take-replicate k n x le) ∙ ap (λ xs. replicate k x ++ xs) d

-- the last symbols of bytes behind zeros are the last digits of the bytes
pub encoded_last : (q count : ℕ) (raw padded symbols : List ℕ) → AreBytes (length raw) raw → length raw ≤ 3 * q → count ≤ 4 * q → padded ≡ replicate (3 * q - length raw) 0 ++ raw
    → symbols ≡ encode_of url_safe_no_pad padded → drop (4 * q - count) symbols ≡ base64_text count (whole_number raw)
encoded_last q count raw padded symbols bytes room fewer front encoded =
    let zeros : ℕ = 3 * q - length raw in
    let len : length (replicate zeros 0 ++ raw) ≡ 3 * q = omega (arith, length-append (replicate zeros 0) raw, length-replicate {A = ℕ} zeros 0) in
    let value : whole_number (replicate zeros 0 ++ raw) ≡ whole_number raw = number-zeros 256 zeros raw in
    let all : 4 * q ≡ 4 * q - count + count = omega arith in
    ap (drop (4 * q - count)) (encoded ∙ ap (encode_of url_safe_no_pad) front ∙ encoded_text (replicate zeros 0 ++ raw) q (len, byte_behind_zeros zeros raw bytes.1))
    ∙ ap (λ n. drop (4 * q - count) (base64_text (4 * q) n)) value
    ∙ ap (λ k. drop (4 * q - count) (base64_text k (whole_number raw))) all
    ∙ drop-map character (4 * q - count) (digits_in 64 (4 * q - count + count) (whole_number raw))
    ∙ ap (map character) (drop-digits_in 64 (4 * q - count) count (whole_number raw))
