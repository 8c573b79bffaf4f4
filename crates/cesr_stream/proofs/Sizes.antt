-- How long the texts are, and the count of a counter.
use Rattle.std.proofs.Common.{◌≡◌, ℕ, ◌+◌, Bool, true, false, List, [], ◌∷◌, ◌++◌, length, drop, map, get_or, refl, sym, ap, ◌∙◌, arith, length-append}
use Rattle.std.proofs.lemmas.List.{get_or-drop, drop-map}
use Rattle.lists.proofs.KeriSpecsLemmas.Digits.{drop-digits_in}
use Rattle.lists.specs.KeriSpecs.Base64.{base64_text, digits_in, character}
use Rattle.cesr_codes.specs.declared.indexed_sig.IndexedSig.{IndexedSig}
use Rattle.cesr_codes.specs.Indexed.{indexed_text}
use Rattle.cesr_codes.specs.Spelling.{key_text, sig_text, number_text, digest_text}
use Rattle.cesr_codes.specs.Moments.{moment_text}
use Rattle.cesr_codes.proofs.Same.{length-key_text, length-sig_text, length-number_text, length-digest_text, length-moment_text, length-indexed_text}
use Rattle.cesr_codes.proofs.Numbers.{length-base64_text}
use Rattle.cesr_stream.specs.declared.anchor_couple.AnchorCouple.{AnchorCouple}
use Rattle.cesr_stream.specs.declared.couple.Couple.{Couple}
use Rattle.cesr_stream.specs.declared.seen.Seen.{Seen}
use Rattle.cesr_stream.specs.Texts.{couple_text, seen_text, anchor_text}

sized : (size : Bool → ℕ) (s : IndexedSig) (big : Bool) → length (indexed_text s) ≡ size s.big → s.big ≡ big → size big ≡ length (indexed_text s)
sized size s big is e = ap size (sym e) ∙ sym is

pub size_big : (s : IndexedSig) → s.big ≡ true → 92 ≡ length (indexed_text s)
size_big s e = sized (λ big. elim big as (λ _. ℕ) [ true ↦ 92 | false ↦ 88 ]) s true (length-indexed_text s) e

pub size_small : (s : IndexedSig) → s.big ≡ false → 88 ≡ length (indexed_text s)
size_small s e = sized (λ big. elim big as (λ _. ℕ) [ true ↦ 92 | false ↦ 88 ]) s false (length-indexed_text s) e

pub length-couple_text : (couple : Couple) → length (couple_text couple) ≡ 132
length-couple_text couple = omega (arith, length-append (key_text couple.key) (sig_text couple.sig), length-key_text couple.key, length-sig_text couple.sig)

pub length-seen_text : (seen : Seen) → length (seen_text seen) ≡ 60
length-seen_text seen =
    omega (arith, length-append (number_text seen.number) (moment_text seen.moment), length-number_text seen.number, length-moment_text seen.moment)

pub length-anchor_text : (anchor : AnchorCouple) → length (anchor_text anchor) ≡ 68
length-anchor_text anchor =
    omega (arith, length-append (number_text anchor.number) (digest_text anchor.digest), length-number_text anchor.number, length-digest_text anchor.digest)

-- a counter has four characters
pub length-counted : (letter count : ℕ) (text : List ℕ) → length (45 ∷ letter ∷ (base64_text 2 count ++ text)) ≡ 4 + length text
length-counted letter count text = omega (arith, length-append (base64_text 2 count) text, length-base64_text 2 count)

both_digits : (n : ℕ) → get_or (base64_text 2 n) 0 0 ∷ get_or (base64_text 2 n) 1 0 ∷ [] ≡ base64_text 2 n
unfolding digits_in
both_digits n = refl

-- the last two digits of a number with its code
pub last_digits : (n : ℕ) → get_or (48 ∷ 65 ∷ base64_text 22 n) 22 0 ∷ get_or (48 ∷ 65 ∷ base64_text 22 n) 23 0 ∷ [] ≡ base64_text 2 n
last_digits n =
    let last : drop 20 (base64_text 22 n) ≡ base64_text 2 n = drop-map character 20 (digits_in 64 22 n) ∙ ap (map character) (drop-digits_in 64 20 2 n) in
    ap (λ c. c ∷ get_or (base64_text 22 n) 21 0 ∷ []) (sym (get_or-drop 20 (base64_text 22 n) 0 0))
    ∙ ap (λ d. get_or (drop 20 (base64_text 22 n)) 0 0 ∷ d ∷ []) (sym (get_or-drop 20 (base64_text 22 n) 1 0))
    ∙ ap (λ xs. get_or xs 0 0 ∷ get_or xs 1 0 ∷ []) last ∙ both_digits n
