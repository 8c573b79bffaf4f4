-- A field that is refused and one that is begun can't be those of the same bytes.
use Rattle.std.proofs.Common.{◌≡◌, ℕ, ◌<◌, List, [], ◌∷◌, ◌++◌, length, drop, refl, sym, ap, ◌∙◌, arith, append_assoc, append-nil, length-append}
use Rattle.cesr_codes.specs.declared.key.Key.{Key}
use Rattle.cesr_codes.specs.Spelling.{key_text}
use Rattle.cesr_codes.proofs.Same.{length-key_text, same_front}
use Rattle.verifier_link.specs.declared.letter.Letter.{Letter}
use Rattle.verifier_link.specs.declared.letter.Letter.TheVariants.{Verdict as V}
use Rattle.verifier_link.specs.declared.wanted.Wanted.{Wanted}
use Rattle.verifier_link.specs.Fields.{Field, IsDue, IsFieldText, field_size, letter_code, the_letter, the_key, the_sig, the_length, the_body}
use Rattle.verifier_link.specs.Questions.{IsWanted, length_text, wanted_text}
use Rattle.verifier_link.proofs.Lengths.{length-length_text}
use Rattle.verifier_link.proofs.Rests.{letter_at, key_at, sig_at, sig_begun, long_wanted}
use Rattle.verifier_link.proofs.Spelled.{same_wanted}

-- nothing is read of a letter that is begun
none_before : (front rest bytes : List ℕ) → bytes ≡ front ++ rest → front ≡ [] → length rest < 1 → 0 < length bytes → ⊥
none_before front rest bytes e none fewer some =
    let a = ap length e in
    let b = ap length none in
    omega (arith, a, b, fewer, some, length-append front rest)

module _ (text front rest : List ℕ) where
  -- a letter was refused
  letter : (other : Field) → IsDue other front → text ≡ front ++ rest → length text ≡ 1 → (IsFieldText the_letter text → ⊥) → length rest < field_size other → ⊥
  letter the_letter due e all refused fewer = none_before front rest text e due fewer (omega (arith, all))
  letter the_key (mark, is) e all refused fewer =
      let whole = append-nil text ∙ e ∙ ap (λ f. f ++ rest) is in refused (mark, (same_front 1 text (letter_code mark ∷ []) [] rest all refl whole).0)
  letter the_sig (key, good, is) e all refused fewer =
      let whole = append-nil text ∙ e ∙ ap (λ f. f ++ rest) is in refused (V, (same_front 1 text (86 ∷ []) [] (key_text key ++ rest) all refl whole).0)
  letter the_length (wanted, good, is) e all refused fewer = refused (letter_at wanted rest text [] (append-nil text ∙ e ∙ ap (λ f. f ++ rest) is) all)
  letter (the_body n) (wanted, good, few, is) e all refused fewer =
      let whole = append-nil text ∙ e ∙ ap (λ f. f ++ rest) is ∙ append_assoc (wanted_text wanted) (length_text n) rest in
      refused (letter_at wanted (length_text n ++ rest) text [] whole all)

  -- a key was refused behind its letter
  key : (other : Field) (mark : Letter) → IsDue other front → letter_code mark ∷ text ≡ front ++ rest → length text ≡ 44 → (IsFieldText the_key text → ⊥) → length rest < field_size other → ⊥
  key the_letter mark due e all refused fewer = none_before front rest (letter_code mark ∷ text) e due fewer (omega arith)
  key the_key mark (other, is) e all refused fewer =
      let a = ap length e in
      let b = ap length is in
      omega (arith, a, b, all, fewer, length-append front rest)
  key the_sig mark (other, good, is) e all refused fewer =
      let whole = append-nil text ∙ ap (drop 1) (e ∙ ap (λ f. f ++ rest) is) in refused (other, good, (same_front 44 text (key_text other) [] rest all (length-key_text other) whole).0)
  key the_length mark (wanted, good, is) e all refused fewer =
      let whole = ap (λ t. letter_code mark ∷ t) (append-nil text) ∙ e ∙ ap (λ f. f ++ rest) is in refused (key_at wanted good (letter_code mark) rest text [] whole all)
  key (the_body n) mark (wanted, good, few, is) e all refused fewer =
      let whole = ap (λ t. letter_code mark ∷ t) (append-nil text) ∙ e ∙ ap (λ f. f ++ rest) is ∙ append_assoc (wanted_text wanted) (length_text n) rest in
      refused (key_at wanted good (letter_code mark) (length_text n ++ rest) text [] whole all)

  -- a signature was refused behind a key
  sig : (other : Field) (of : Key) → IsDue other front → 86 ∷ (key_text of ++ text) ≡ front ++ rest → length text ≡ 88 → (IsFieldText the_sig text → ⊥) → length rest < field_size other → ⊥
  sig the_letter of due e all refused fewer = none_before front rest (86 ∷ (key_text of ++ text)) e due fewer (omega arith)
  sig the_key of (mark, is) e all refused fewer =
      let a = ap length e in
      let b = ap length is in
      omega (arith, a, b, all, fewer, length-append (key_text of) text, length-key_text of, length-append front rest)
  sig the_sig of (other, good, is) e all refused fewer =
      let a = ap length e in
      let b = ap length is in
      omega (arith, a, b, all, fewer, length-append (key_text of) text, length-key_text of, length-key_text other, length-append front rest)
  sig the_length of (wanted, good, is) e all refused fewer =
      let whole = ap (λ t. 86 ∷ (key_text of ++ t)) (append-nil text) ∙ e ∙ ap (λ f. f ++ rest) is in refused (sig_at wanted good of rest text [] whole all)
  sig (the_body n) of (wanted, good, few, is) e all refused fewer =
      let whole = ap (λ t. 86 ∷ (key_text of ++ t)) (append-nil text) ∙ e ∙ ap (λ f. f ++ rest) is ∙ append_assoc (wanted_text wanted) (length_text n) rest in
      refused (sig_at wanted good of (length_text n ++ rest) text [] whole all)

  -- a length was refused behind what is wanted
  size : (other : Field) (wanted : Wanted) → IsWanted wanted → IsDue other front → wanted_text wanted ++ text ≡ front ++ rest → length text ≡ 8 → (IsFieldText the_length text → ⊥) → length rest < field_size other
      → ⊥
  size the_letter wanted valid due e all refused fewer =
      none_before front rest (wanted_text wanted ++ text) e due fewer (omega (arith, all, length-append (wanted_text wanted) text))
  size the_key wanted valid (mark, is) e all refused fewer =
      let a = ap length e in
      let b = ap length is in
      omega (arith, a, b, all, fewer, long_wanted wanted, length-append (wanted_text wanted) text, length-append front rest)
  size the_sig wanted valid (key, good, is) e all refused fewer = sig_begun wanted text key rest (omega (arith, all)) (sym (e ∙ ap (λ f. f ++ rest) is)) fewer
  size the_length wanted valid (other, good, is) e all refused fewer =
      let same = same_wanted wanted other text rest valid good (e ∙ ap (λ f. f ++ rest) is) in
      let a = ap length same.1 in
      omega (arith, a, all, fewer)
  size (the_body n) wanted valid (other, good, few, is) e all refused fewer =
      let same = same_wanted wanted other text (length_text n ++ rest) valid good (e ∙ ap (λ f. f ++ rest) is ∙ append_assoc (wanted_text other) (length_text n) rest) in
      refused (n, few, (same_front 8 text (length_text n) [] rest all (length-length_text n) (append-nil text ∙ same.1)).0)

differ : (field other : Field) (before text front rest : List ℕ) → IsDue field before → IsDue other front → before ++ text ≡ front ++ rest → length text ≡ field_size field → (IsFieldText field text → ⊥)
    → length rest < field_size other → ⊥
differ the_letter other before text front rest is due e = letter text front rest other due (ap (λ f. f ++ text) (sym is) ∙ e)
differ the_key other before text front rest (mark, is) due e = key text front rest other mark due (ap (λ f. f ++ text) (sym is) ∙ e)
differ the_sig other before text front rest (of, good, is) due e = sig text front rest other of due (ap (λ f. f ++ text) (sym is) ∙ e)
differ the_length other before text front rest (wanted, good, is) due e = size text front rest other wanted good due (ap (λ f. f ++ text) (sym is) ∙ e)
differ (the_body n) other before text front rest is due e = λ all refused fewer. refused tt
