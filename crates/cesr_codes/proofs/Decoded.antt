-- What the engine decodes are the digits of bytes read as one number, and nothing else is refused than what isn't a character.
use Rattle.std.proofs.Common.{◌≡◌, ℕ, zero, suc, ◌+◌, ◌-◌, ◌*◌, ◌/◌, ◌^◌, ◌<◌, ◌≤◌, ◌==◌, true, false, List, [], ◌∷◌, ◌++◌, length, take, drop, replicate, slice_index, refl, sym, ap, ◌∙◌, arith, append-nil, length-drop, OnOk, Ok, Err, None, Some, Option, Result, inl, inr, subst}
use Rattle.std.proofs.lemmas.List.{take_all, length-take, take-append-drop, get_or-drop}
use Rattle.std.proofs.Math.Nat.{mul-le-mul_right}
use Rattle.std.proofs.lemmas.Bool.{cases_Bool, eqb-true, eqb-false}
use Rattle.std.proofs.lemmas.Int.Digits.{number_after_ge, number_after_append}
use Rattle.std.specs.List.{list_all}
use Rattle.std.specs.Int.Digits.{AllBelowBase, number_from_digits_after}
use Rattle.base64.specs.Rfc4648.{encode_symbols, unpadded_len}
use Rattle.base64.specs.Decode.{IsWrittenOver, decode_outcome, decode_error}
use Rattle.base64.specs.GeneralPurpose.{encode_of, decode_of, decode_slice_of, decoded_bytes_of, IsBytes}
use Rattle.base64.specs.Engines.{url_safe_no_pad}
use Rattle.base64.specs.declared.decode.DecodeSliceError.{DecodeSliceError}
use Rattle.base64.specs.declared.decode.DecodeError.{DecodeError}
use Rattle.base64.proofs.Decoding.{conservative_ok, slice_result_room}
use Rattle.base64.proofs.EngineFacts.{decode_of_strict, decode_of-encode_of}
use Rattle.base64.proofs.RoundTrip.{length-encode_symbols}
use Rattle.lists.specs.KeriSpecs.Base64.{digits_in, whole_number, AreBytes, characters, base64_text, is_character, number_of_text}
use Rattle.lists.proofs.KeriSpecsLemmas.Digits.{length-digits_in, all_below-digits_in, number-digits_in, number_after-split, number-zeros}
use Rattle.cesr_codes.specs.Decoding.{IsDecoded}
use Rattle.cesr_codes.specs.declared.symbols.Decoded.TheVariants.{Whole, Large}
use Rattle.cesr_codes.proofs.Groups.{encoded_text, pow_groups}
use Rattle.cesr_codes.proofs.Numbers.{text-number, text_low, number-text, number-zero_characters, bytes_low, characters-text}

outcome_ok : (x : Option DecodeError) (d b : List ℕ) → decode_outcome x d ≡ Ok b → (x ≡ None) × (d ≡ b)
outcome_ok None d b h = (refl, cc h)
outcome_ok (Some e) d b h = cc h

-- what is decoded of whole groups
pub decoded_ok : (q : ℕ) (s old new : List ℕ) (r : Result ℕ DecodeSliceError) (n : ℕ) → length s ≡ 4 * q → IsBytes s → length old ≡ 3 * q → length new ≡ 3 * q
    → r ≡ decode_slice_of url_safe_no_pad s (length old) → r ≡ Ok n → OnOk r (IsWrittenOver (decoded_bytes_of url_safe_no_pad s) old new) → OnOk r (IsBytes (decoded_bytes_of url_safe_no_pad s))
    → AreBytes (3 * q) new × (s ≡ encode_of url_safe_no_pad new)
decoded_ok q s old new r n len bytes room room' value ok written fit =
    let got = conservative_ok url_safe_no_pad.decode_table s old new url_safe_no_pad.padding.value url_safe_no_pad.config.decode_allow_trailing_bits url_safe_no_pad.config.decode_padding_mode r n (omega arith) value ok written in
    let front : s ≡ encode_of url_safe_no_pad (take n new) = decode_of_strict url_safe_no_pad s (take n new) (refl, refl) bytes got.0 in
    let size : length (encode_symbols characters (take n new)) ≡ unpadded_len (length (take n new)) = length-encode_symbols characters (take n new) in
    let plain : s ≡ encode_symbols characters (take n new) = front ∙ append-nil (encode_symbols characters (take n new)) in
    let long : 3 * q ≤ length (take n new) = omega (arith, size, ap length plain) in
    let all : take n new ≡ new = take_all n new (omega (arith, length-take n new)) in
    let whole = outcome_ok (decode_error url_safe_no_pad.decode_table url_safe_no_pad.padding.value url_safe_no_pad.config.decode_allow_trailing_bits url_safe_no_pad.config.decode_padding_mode s)
    (decoded_bytes_of url_safe_no_pad s) (take n new) got.0 in
    let same : decoded_bytes_of url_safe_no_pad s ≡ new = whole.1 ∙ all in
    let here : IsBytes (decoded_bytes_of url_safe_no_pad s) = rw ok at fit in
    ((room', subst IsBytes same here), front ∙ ap (encode_of url_safe_no_pad) all)

-- what bytes encode is not refused
decoded_err : (q : ℕ) (s b : List ℕ) (r : Result ℕ DecodeSliceError) (f : DecodeSliceError) → length s ≡ 4 * q → IsBytes b → s ≡ encode_of url_safe_no_pad b
    → r ≡ decode_slice_of url_safe_no_pad s (3 * q) → r ≡ Err f → ⊥
decoded_err q s b r f len bytes encoded value err =
    let fine : decode_of url_safe_no_pad s ≡ Ok b = rw encoded (decode_of-encode_of url_safe_no_pad b refl bytes) in
    let none = outcome_ok (decode_error url_safe_no_pad.decode_table url_safe_no_pad.padding.value url_safe_no_pad.config.decode_allow_trailing_bits url_safe_no_pad.config.decode_padding_mode s)
    (decoded_bytes_of url_safe_no_pad s) b fine in
    let room = slice_result_room url_safe_no_pad.decode_table s url_safe_no_pad.padding.value url_safe_no_pad.config.decode_allow_trailing_bits url_safe_no_pad.config.decode_padding_mode (3 * q) (omega arith) in
    let good = rw none.0 at room in
    cc (value, err, good)

bytes_at : (xs : List ℕ) → AllBelowBase 256 xs → (i : ℕ) → slice_index xs i < 256
bytes_at [] h i = omega arith
bytes_at (x ∷ xs) h zero = h.0
bytes_at (x ∷ xs) h (suc i) = bytes_at xs h.1 i

-- characters of whole groups are the encoding of bytes
bytes_exist : (q : ℕ) (s : List ℕ) → length s ≡ 4 * q → list_all is_character s ≡ true → (b : List ℕ) × IsBytes b × (s ≡ encode_of url_safe_no_pad b)
bytes_exist q s len all =
    let n : ℕ = number_of_text s in
    let b : List ℕ = digits_in 256 (3 * q) n in
    let low : n < 256 ^ (3 * q) = rw (pow_groups q, ← len) (text_low s all) in
    let bytes : (i : ℕ) → slice_index b i < 256 = bytes_at b (all_below-digits_in 256 (3 * q) n (omega arith)) in
    let value : whole_number b ≡ n = number-digits_in 256 (3 * q) n (omega arith) low in
    (b, bytes, sym (text-number s all) ∙ ap (λ k. base64_text k n) len ∙ ap (base64_text (4 * q)) (sym value) ∙ sym (encoded_text b q (length-digits_in 256 (3 * q) n, bytes)))

-- what is refused are not all characters
pub refused : (q : ℕ) (s : List ℕ) (r : Result ℕ DecodeSliceError) (f : DecodeSliceError) → length s ≡ 4 * q
    → r ≡ decode_slice_of url_safe_no_pad s (3 * q) → r ≡ Err f → list_all is_character s ≡ false
refused q s r f len value err = elim (cases_Bool (list_all is_character s)) [
  | inl all ↦ let found = bytes_exist q s len all in absurd (decoded_err q s found.0 r f len found.1 found.2 value err)
  | inr some ↦ some
]

-- those of the digit 0 are characters
pub characters-zeros : (k : ℕ) (digits : List ℕ) → list_all is_character (replicate k 65 ++ digits) ≡ list_all is_character digits
characters-zeros zero digits = refl
characters-zeros (suc k) digits = characters-zeros k digits

-- the last of digits behind zeros
pub drop-zeros : (n k m : ℕ) (digits : List ℕ) → m ≡ n + k → drop n (replicate m 65 ++ digits) ≡ replicate k 65 ++ digits
drop-zeros zero k m digits e = ap (λ j. replicate j 65 ++ digits) (e ∙ omega arith)
drop-zeros (suc n) k zero digits e = absurd (omega arith)
drop-zeros (suc n) k (suc m) digits e = drop-zeros n k m digits (omega arith)

-- bytes that are all 0
zeros_are : (zs : List ℕ) → list_all (λ b. b == 0) zs ≡ true → zs ≡ replicate (length zs) 0
zeros_are [] h = refl
zeros_are (z ∷ zs) h = elim (cases_Bool (z == 0)) [
  | inl t ↦ ap (λ x. x ∷ zs) (eqb-true z 0 t) ∙ ap (λ xs. 0 ∷ xs) (zeros_are zs (rw t at h))
  | inr f ↦ cc (rw f at h)
]

-- bytes that aren't all 0
positive : (zs : List ℕ) → list_all (λ b. b == 0) zs ≡ false → 1 ≤ whole_number zs
positive [] h = cc h
positive (z ∷ zs) h = elim (cases_Bool (z == 0)) [
  | inl t ↦
      let z0 : z ≡ 0 = eqb-true z 0 t in
      let none : 0 * 256 + z ≡ 0 = omega arith in
      rw none (positive zs (rw t at h))
  | inr f ↦
      let above : 0 * 256 + z ≤ number_from_digits_after 256 (0 * 256 + z) zs = number_after_ge 256 (0 * 256 + z) zs (omega arith) in
      let some : z ≡ 0 → ⊥ = eqb-false z 0 f in
      omega arith
]

module _ (q : ℕ) (digits symbols padded : List ℕ) (few : length digits ≤ 4 * q) (front : symbols ≡ replicate (4 * q - length digits) 65 ++ digits)
    (bytes : AreBytes (3 * q) padded) (encoded : symbols ≡ encode_of url_safe_no_pad padded) where
  -- the bytes are of the digits' number
  same_value : whole_number padded ≡ number_of_text digits
  same_value =
      let low : whole_number padded < 64 ^ (4 * q) = rw (← pow_groups q) (bytes_low (3 * q) padded bytes) in
      sym (number-text (4 * q) (whole_number padded) low)
      ∙ ap number_of_text (sym (encoded_text padded q bytes) ∙ sym encoded ∙ front)
      ∙ number-zero_characters (4 * q - length digits) digits

  -- they are characters
  all_characters : list_all is_character digits ≡ true
  all_characters =
      sym (characters-zeros (4 * q - length digits) digits) ∙ ap (list_all is_character) (sym front ∙ encoded ∙ encoded_text padded q bytes)
      ∙ characters-text (4 * q) (whole_number padded)

  module _ (count : ℕ) (room : count ≤ 3 * q) where
    last : List ℕ
    last = drop (3 * q - count) padded

    first : List ℕ
    first = take (3 * q - count) padded

    parts : whole_number padded ≡ whole_number first * 256 ^ count + whole_number last
    unfolding first last
    parts =
        let len : length last ≡ count = omega (arith, length-drop (3 * q - count) padded, bytes.0) in
        ap whole_number (sym (take-append-drop (3 * q - count) padded)) ∙ number_after_append 256 0 first last ∙ number_after-split 256 (whole_number first) last
        ∙ ap (λ k. whole_number first * 256 ^ k + whole_number last) len

    held : list_all (λ b. b == 0) (take (3 * q - count) padded) ≡ true → AreBytes count (drop (3 * q - count) padded) × (whole_number (drop (3 * q - count) padded) ≡ number_of_text digits)
    unfolding first last
    held zeros =
        let none : whole_number first ≡ 0
        = ap whole_number (zeros_are first zeros ∙ sym (append-nil (replicate (length first) 0))) ∙ number-zeros 256 (length first) [] in
        let len : length last ≡ count = omega (arith, length-drop (3 * q - count) padded, bytes.0) in
        let value : whole_number padded ≡ whole_number last = parts ∙ ap (λ x. x * 256 ^ count + whole_number last) none ∙ (omega arith) in
        ((len, λ i. byte i), sym value ∙ same_value)
      where
        byte : (i : ℕ) → slice_index (drop (3 * q - count) padded) i < 256
        byte i = rw get_or-drop (bytes.1 (3 * q - count + i))

    large : list_all (λ b. b == 0) (take (3 * q - count) padded) ≡ false → 256 ^ count ≤ number_of_text digits
    unfolding first last
    large some =
        let above : 1 ≤ whole_number first = positive first some in
        let more : 1 * 256 ^ count ≤ whole_number first * 256 ^ count = mul-le-mul_right (256 ^ count) above in
        omega (arith, parts, same_value, more)

    module _ (raw : List ℕ) (size : length raw ≡ count) (last_is : raw ≡ drop (3 * q - count) padded) where
      pub is_held : list_all (λ b. b == 0) (take (3 * q - count) padded) ≡ true → IsDecoded digits digits raw Whole
      is_held zeros =
          let found = held zeros in
          (all_characters, (refl, subst (λ xs. (i : ℕ) → slice_index xs i < 256) (sym last_is) found.0.1), ap whole_number last_is ∙ found.1)

      pub is_large : list_all (λ b. b == 0) (take (3 * q - count) padded) ≡ false → IsDecoded digits digits raw Large
      is_large some = (all_characters, rw size (large some))

-- the groups of four that digits fill or begin
abbrev groups : List ℕ → ℕ
groups digits = (length digits + 3) / 4

-- the last groups of digits behind zeros
pub last_symbols : (digits symbols last : List ℕ) → length digits ≤ 88 → symbols ≡ replicate (88 - length digits) 65 ++ digits → last ≡ drop (88 - 4 * groups digits) symbols
    → last ≡ replicate (4 * groups digits - length digits) 65 ++ digits
last_symbols digits symbols last few front back =
    back ∙ ap (drop (88 - 4 * groups digits)) front ∙ drop-zeros (88 - 4 * groups digits) (4 * groups digits - length digits) (88 - length digits) digits (omega arith)
