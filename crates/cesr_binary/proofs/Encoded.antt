-- The characters of the standard's encoding are those of the text, and what they decode to are the bytes.
use Rattle.std.proofs.Common.{◌≡◌, ℕ, zero, suc, ◌+◌, ◌*◌, ◌/◌, ◌%◌, ◌<◌, ◌≤◌, List, [], ◌∷◌, ◌++◌, length, take, drop, OnOk, Ok, Result, slice_index}
use Rattle.std.proofs.Common.{refl, sym, ap, ◌∙◌, arith, append-nil}
use Rattle.std.specs.Int.Digits.{AllBelowBase}
use Rattle.base64.specs.Rfc4648.{encode_symbols, encode_group}
use Rattle.base64.specs.GeneralPurpose.{encode_of, encoded_size_of, decode_of, IsConsistent, IsEncodedOver}
use Rattle.base64.specs.declared.EncodeSliceError.{EncodeSliceError}
use Rattle.std.proofs.lemmas.List.{take_at}
use Rattle.cesr_binary.proofs.BinaryDomain.{length-text_of, length-binary_of, text_of-binary_of}
use Rattle.lists.proofs.KeriSpecsLemmas.Digits.{all_below-digits_in}
use Rattle.base64.proofs.EngineFacts.{decode_of-encode_of}
use Rattle.base64.specs.Engines.{url_safe_no_pad}
use Rattle.lists.specs.KeriSpecs.Base64.{base64_text, characters, digits_in, number_of_text, whole_number}
use Rattle.cesr_binary.specs.BinaryDomain.{text_of, binary_of}
use Rattle.cesr_stream.specs.Domains.{IsTurnable}

-- bytes are digits in base 256
pub bytes_below : (xs : List ℕ) → ((i : ℕ) → slice_index xs i < 256) → AllBelowBase 256 xs
bytes_below [] h = tt
bytes_below (x ∷ xs) h = (h 0, bytes_below xs (λ i. h (suc i)))

-- a group of three bytes is four digits of their number
group_text : (a b c : ℕ) → a < 256 → b < 256 → c < 256 → encode_group characters a b c ≡ base64_text 4 (whole_number (a ∷ b ∷ c ∷ []))
unfolding digits_in
group_text a b c la lb lc =
    let n : ℕ = whole_number (a ∷ b ∷ c ∷ []) in
    let value : n ≡ a * 65536 + b * 256 + c = omega arith in
    let e0 : n / 64 / 64 / 64 % 64 ≡ a / 4 = omega (arith, value) in
    let e1 : n / 64 / 64 % 64 ≡ a % 4 * 16 + b / 16 = omega (arith, value) in
    let e2 : n / 64 % 64 ≡ b % 16 * 4 + c / 64 = omega (arith, value) in
    let e3 : n % 64 ≡ c % 64 = omega (arith, value) in
    rw (e0, e1, e2, e3) refl

symbols_text : (m : List ℕ) → length m % 3 ≡ 0 → AllBelowBase 256 m → encode_symbols characters m ≡ text_of m
unfolding encode_symbols text_of
symbols_text [] len all = refl
symbols_text (a ∷ []) len all = cc len
symbols_text (a ∷ b ∷ []) len all = cc len
symbols_text (a ∷ b ∷ c ∷ rest) len all =
    ap (λ xs. xs ++ encode_symbols characters rest) (group_text a b c all.0 all.1.0 all.1.1.0)
    ∙ ap (λ ys. base64_text 4 (whole_number (a ∷ b ∷ c ∷ [])) ++ ys) (symbols_text rest (omega (arith, len)) all.1.1.1)

engine_table : encode_of url_safe_no_pad ≡ (λ m. encode_symbols characters m ++ [])
engine_table = refl

encoded_below : (m : List ℕ) → length m % 3 ≡ 0 → AllBelowBase 256 m → encode_of url_safe_no_pad m ≡ text_of m
encoded_below m len below = ap (λ f. f m) engine_table ∙ append-nil (encode_symbols characters m) ∙ symbols_text m len below

pub encoded_text : (m : List ℕ) → length m % 3 ≡ 0 → ((i : ℕ) → slice_index m i < 256) → encode_of url_safe_no_pad m ≡ text_of m
encoded_text m len bytes = encoded_below m len (bytes_below m bytes)

-- what the engine puts over an array long enough
pub put_over : (m old new : List ℕ) (r : Result ℕ EncodeSliceError) (n : ℕ) → length m % 3 ≡ 0 → length m ≤ 768 → length old ≡ 1024
    → ((i : ℕ) → slice_index m i < 256)
    → (encoded_size_of url_safe_no_pad (length m) ≤ length old → r ≡ Ok (encoded_size_of url_safe_no_pad (length m))) → r ≡ Ok n
    → OnOk r (IsEncodedOver url_safe_no_pad m old new) → take n new ≡ text_of m
put_over m old new r n threes few long bytes fits is written =
    let size : encoded_size_of url_safe_no_pad (length m) ≡ 4 * (length m / 3) = omega (arith, threes) in
    let all = fits (omega (arith, size, few, long)) in
    let count : n ≡ 4 * (length m / 3) = cc (sym is ∙ all) ∙ size in
    let text = encoded_text m threes bytes in
    let put : new ≡ encode_of url_safe_no_pad m ++ drop (encoded_size_of url_safe_no_pad (length m)) old = rw is at written in
    ap (take n) (put ∙ ap (λ t. t ++ drop (encoded_size_of url_safe_no_pad (length m)) old) text)
    ∙ take_at (text_of m) (drop (encoded_size_of url_safe_no_pad (length m)) old) n (length-text_of m ∙ sym count)

-- what characters in fours are turned to are bytes
below_bytes : (xs : List ℕ) → AllBelowBase 256 xs → (i : ℕ) → slice_index xs i < 256
below_bytes [] all i = omega arith
below_bytes (x ∷ xs) all zero = all.0
below_bytes (x ∷ xs) all (suc i) = below_bytes xs all.1 i

below-append : (xs ys : List ℕ) → AllBelowBase 256 xs → AllBelowBase 256 ys → AllBelowBase 256 (xs ++ ys)
below-append [] ys all behind = behind
below-append (x ∷ xs) ys all behind = (all.0, below-append xs ys all.1 behind)

below-binary_of : (t : List ℕ) → AllBelowBase 256 (binary_of t)
unfolding binary_of
below-binary_of [] = tt
below-binary_of (a ∷ []) = tt
below-binary_of (a ∷ b ∷ []) = tt
below-binary_of (a ∷ b ∷ c ∷ []) = tt
below-binary_of (a ∷ b ∷ c ∷ d ∷ t) =
    let n : ℕ = number_of_text (a ∷ b ∷ c ∷ d ∷ []) in
    below-append (digits_in 256 3 n) (binary_of t) (all_below-digits_in 256 3 n (omega arith)) (below-binary_of t)

consistent : IsConsistent url_safe_no_pad
consistent = refl

pub decoded_binary : (t : List ℕ) → IsTurnable t → decode_of url_safe_no_pad t ≡ Ok (binary_of t)
decoded_binary t turnable =
    let fours = turnable.fours in
    let below = below-binary_of t in
    let text : encode_of url_safe_no_pad (binary_of t) ≡ t
    = encoded_below (binary_of t) (omega (arith, length-binary_of t)) below ∙ text_of-binary_of t (length t / 4) (omega (arith, fours)) turnable.characters in
    ap (decode_of url_safe_no_pad) (sym text) ∙ decode_of-encode_of url_safe_no_pad (binary_of t) consistent (below_bytes (binary_of t) below)
