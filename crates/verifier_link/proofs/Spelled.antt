-- At the front of bytes one question is spelled at most, and what is behind it is fixed.
use Rattle.std.proofs.Common.{◌≡◌, ℕ, ◌≤◌, List, ◌∷◌, ◌++◌, length, drop, slice_index, refl, sym, ap, ◌∙◌, arith, append_assoc, length-append}
use Rattle.std.proofs.lemmas.Bool.{eqb-false}
use Rattle.cesr_codes.specs.Spelling.{key_text, sig_text}
use Rattle.cesr_codes.proofs.Same.{length-key_text, same_front, same_key, same_sig}
use Rattle.verifier_link.specs.declared.wanted.Wanted.{Wanted}
use Rattle.verifier_link.specs.declared.wanted.Wanted.TheVariants.{Verdict, Signature}
use Rattle.verifier_link.specs.Questions.{Question, IsQuestion, IsWanted, length_text, question_text, wanted_text}
use Rattle.verifier_link.proofs.Lengths.{length-length_text, same_length}

-- the letters differ
pub apart : (xs ys : List ℕ) → 86 ∷ xs ≡ 83 ∷ ys → ⊥
apart xs ys e = eqb-false 86 83 refl (ap (λ l. slice_index l 0) e)

pub same_wanted : (w v : Wanted) (x y : List ℕ) → IsWanted w → IsWanted v → wanted_text w ++ x ≡ wanted_text v ++ y → (w ≡ v) × (x ≡ y)
same_wanted (Verdict key sig) (Verdict other mark) x y valid good e =
    let behind = sym (append_assoc (key_text key) (sig_text sig) x) ∙ ap (drop 1) e ∙ append_assoc (key_text other) (sig_text mark) y in
    let keys = same_key key other (sig_text sig ++ x) (sig_text mark ++ y) valid.0 good.0 behind in
    let sigs = same_sig sig mark x y valid.1 good.1 keys.1 in
    (ap (λ k. Verdict k sig) keys.0 ∙ ap (Verdict other) sigs.0, sigs.1)
same_wanted (Signature key) (Signature other) x y valid good e =
    let keys = same_key key other x y valid good (ap (drop 1) e) in (ap Signature keys.0, keys.1)
same_wanted (Verdict key sig) (Signature other) x y valid good e = absurd (apart ((key_text key ++ sig_text sig) ++ x) (key_text other ++ y) e)
same_wanted (Signature key) (Verdict other mark) x y valid good e = absurd (apart ((key_text other ++ sig_text mark) ++ y) (key_text key ++ x) (sym e))

-- what stands in a question behind what is wanted, and behind the length
pub split : (q : Question) (x : List ℕ) → question_text q ++ x ≡ wanted_text q.wanted ++ (length_text (length q.body) ++ (q.body ++ x))
split q x =
    append_assoc (wanted_text q.wanted) (length_text (length q.body) ++ q.body) x
    ∙ ap (λ t. wanted_text q.wanted ++ t) (append_assoc (length_text (length q.body)) q.body x)

pub same_sized : (n m : ℕ) (x y : List ℕ) → n ≤ 65535 → m ≤ 65535 → length_text n ++ x ≡ length_text m ++ y → (n ≡ m) × (x ≡ y)
same_sized n m x y few less e =
    let both = same_front 8 (length_text n) (length_text m) x y (length-length_text n) (length-length_text m) e in (same_length n m few less both.0, both.1)

pub same_question : (q p : Question) (x y : List ℕ) → IsQuestion q → IsQuestion p → question_text q ++ x ≡ question_text p ++ y → (q ≡ p) × (x ≡ y)
same_question q p x y valid good e =
    let wanted = same_wanted q.wanted p.wanted _ _ valid.wanted good.wanted (sym (split q x) ∙ e ∙ split p y) in
    let sized = same_sized (length q.body) (length p.body) (q.body ++ x) (p.body ++ y) valid.short good.short wanted.1 in
    let bodies = same_front (length p.body) q.body p.body x y sized.0 refl sized.1 in
    (λ i. record { wanted = wanted.0 i; body = bodies.0 i }, bodies.1)

-- how long a question is at least
pub long : (q : Question) → 53 ≤ length (question_text q)
long q = at q.wanted (length_text (length q.body) ++ q.body) (omega (arith, length-append (length_text (length q.body)) q.body, length-length_text (length q.body)))
  where
    at : (w : Wanted) (x : List ℕ) → 8 ≤ length x → 53 ≤ length (wanted_text w ++ x)
    at (Verdict key sig) x few = omega (arith, few, length-append (key_text key ++ sig_text sig) x, length-append (key_text key) (sig_text sig), length-key_text key)
    at (Signature key) x few = omega (arith, few, length-append (key_text key) x, length-key_text key)
