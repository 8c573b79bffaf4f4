-- Words that spell a key that can't be rotated.
use Rattle.std.proofs.Common.{◌≡◌, ◌≢◌, ◌∙◌, ℕ, zero, suc, ◌<◌, ◌^◌, List, [], ◌∷◌, drop, slice_index, bytes_eq, true, cond, None, Some, sym, ap, arith, inl, inr}
use Rattle.std.proofs.lemmas.Bool.{cases_Bool}
use Rattle.std.proofs.lemmas.Slice.Eq.{bytes_eq-Decides}
use Rattle.std.specs.Int.Digits.{AllBelowBase}
use Rattle.lists.specs.KeriSpecs.Base64.{AreBytes, base64_text, digits_in, number_of_text, whole_number}
use Rattle.lists.proofs.KeriSpecsLemmas.Digits.{all_below-digits_in, length-digits_in, number-digits_in}
use Rattle.cesr_codes.specs.declared.key.Key.{Key}
use Rattle.cesr_codes.specs.declared.key.KeyCode.TheVariants.{Fixed}
use Rattle.cesr_codes.specs.Spelling.{IsKey, key_text}
use Rattle.cesr_codes.proofs.Numbers.{bytes_low, number-text, same_bytes}
use Rattle.command_words.specs.Keys.{fixed_key_in, key_behind}

each_below : (ds : List ℕ) → AllBelowBase 256 ds → (i : ℕ) → slice_index ds i < 256
each_below [] all i = omega arith
each_below (d ∷ ds) all zero = all.0
each_below (d ∷ ds) all (suc i) = each_below ds all.1 i

-- a number's digits in base 256 are bytes
pub are_bytes : (n : ℕ) → AreBytes 32 (digits_in 256 32 n)
are_bytes n = (length-digits_in 256 32 n, each_below (digits_in 256 32 n) (all_below-digits_in 256 32 n (omega arith)))

-- the bytes that a key's digits spell
pub bytes_back : (raw : List ℕ) → AreBytes 32 raw → digits_in 256 32 (number_of_text (base64_text 43 (whole_number raw))) ≡ raw
bytes_back raw is =
    let low : whole_number raw < 256 ^ 32 = bytes_low 32 raw is in
    ap (digits_in 256 32) (number-text 43 (whole_number raw) (omega (arith, low)))
    ∙ same_bytes 32 (digits_in 256 32 (whole_number raw)) raw (are_bytes (whole_number raw)) is (number-digits_in 256 32 (whole_number raw) (omega arith) low)

-- the key behind a word that is its spelling
behind_text : (raw : List ℕ) → AreBytes 32 raw → key_behind (key_text (record { code = Fixed; raw = raw })) ≡ record { code = Fixed; raw = raw }
behind_text raw is = ap (λ bytes. record { code = Fixed; raw = bytes }) (bytes_back raw is)

-- where a word is the spelling of a key that can't be rotated
pub spelled : (word : List ℕ) (key : Key) → IsKey key → key.code ≡ Fixed → word ≡ key_text key → Some key ≡ fixed_key_in word
unfolding fixed_key_in
spelled word key is fixed e =
    let same : key ≡ record { code = Fixed; raw = key.raw } = ap (λ code. record { code = code; raw = key.raw }) fixed in
    let found : key_behind word ≡ key = ap key_behind e ∙ ap (λ k. key_behind (key_text k)) same ∙ behind_text key.raw is ∙ sym same in
    let test : bytes_eq word (key_text (key_behind word)) ≡ true = (bytes_eq-Decides word (key_text (key_behind word))).1 (e ∙ ap key_text (sym found)) in
    sym (ap (λ b. cond b (Some (key_behind word)) None) test ∙ ap Some found)

-- where a word is the spelling of no such key
pub not_spelled : (word : List ℕ) → ((raw : List ℕ) → AreBytes 32 raw → word ≢ key_text (record { code = Fixed; raw = raw })) → None ≡ fixed_key_in word
unfolding fixed_key_in
not_spelled word none = elim (cases_Bool (bytes_eq word (key_text (key_behind word)))) [
  | inl t ↦ absurd (none (key_behind word).raw (are_bytes (number_of_text (drop 1 word))) ((bytes_eq-Decides word (key_text (key_behind word))).0 t))
  | inr f ↦ sym (ap (λ b. cond b (Some (key_behind word)) None) f)
]
