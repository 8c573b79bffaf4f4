-- A rest that begins a question or can't has no whole question at its front.
use Rattle.std.proofs.Common.{◌≡◌, ℕ, ◌<◌, ◌≤◌, ◌⊎◌, List, [], ◌∷◌, ◌++◌, length, drop, refl, sym, ap, ◌∙◌, arith, inl, inr, append_assoc, append-nil, length-append}
use Rattle.std.specs.List.{AllByRecursion}
use Rattle.cesr_codes.specs.declared.key.Key.{Key}
use Rattle.cesr_codes.specs.Spelling.{key_text, sig_text}
use Rattle.cesr_codes.proofs.Same.{length-key_text, length-sig_text, same_front}
use Rattle.verifier_link.specs.declared.letter.Letter.TheVariants.{Verdict as V, Signing as S}
use Rattle.verifier_link.specs.declared.wanted.Wanted.{Wanted}
use Rattle.verifier_link.specs.declared.wanted.Wanted.TheVariants.{Verdict, Signature}
use Rattle.verifier_link.specs.Fields.{Field, IsBegun, IsDue, IsFieldText, IsRefused, field_size, letter_code, the_letter, the_key, the_sig, the_length, the_body}
use Rattle.verifier_link.specs.Questions.{Question, IsQuestion, IsWanted, length_text, question_text, wanted_text}
use Rattle.verifier_link.specs.Serving.{questions_text}
use Rattle.verifier_link.proofs.Lengths.{length-length_text}
use Rattle.verifier_link.proofs.Spelled.{apart, long, same_question, same_sized, same_wanted, split}

-- a signature that is due isn't whole where the question's isn't
pub sig_begun : (w : Wanted) (x : List ℕ) (key : Key) (text : List ℕ) → 8 ≤ length x → (86 ∷ key_text key) ++ text ≡ wanted_text w ++ x → length text < 88 → ⊥
sig_begun (Verdict other sig) x key text few e fewer =
    let a = ap length e in
    omega (arith, a, few, fewer, length-append (key_text key) text, length-append (key_text other ++ sig_text sig) x, length-append (key_text other) (sig_text sig), length-key_text key, length-key_text other, length-sig_text sig)
sig_begun (Signature other) x key text few e fewer = apart (key_text key ++ text) (key_text other ++ x) e

pub long_wanted : (w : Wanted) → 45 ≤ length (wanted_text w)
long_wanted (Verdict key sig) = omega (arith, length-append (key_text key) (sig_text sig), length-key_text key)
long_wanted (Signature key) = omega (arith, length-key_text key)

-- what begins a question has no whole one at its front
pub no_begun : (field : Field) (front text more : List ℕ) (q : Question) → IsQuestion q → IsDue field front → front ++ text ≡ question_text q ++ more → length text < field_size field → ⊥
no_begun the_letter front text more q valid due e fewer =
    let a = ap length e in let b = ap length due in omega (arith, a, b, fewer, long q, length-append front text, length-append (question_text q) more)
no_begun the_key front text more q valid due e fewer =
    let a = ap length e in let b = ap length due.1 in omega (arith, a, b, fewer, long q, length-append front text, length-append (question_text q) more)
no_begun the_sig front text more q valid (key, good, is) e fewer =
    sig_begun q.wanted (length_text (length q.body) ++ (q.body ++ more)) key text (omega (arith, length-append (length_text (length q.body)) (q.body ++ more), length-length_text (length q.body)))
    (ap (λ f. f ++ text) (sym is) ∙ e ∙ split q more) fewer
no_begun the_length front text more q valid (wanted, good, is) e fewer =
    let same = same_wanted wanted q.wanted text _ good valid.wanted (ap (λ f. f ++ text) (sym is) ∙ e ∙ split q more) in
    let a = ap length same.1 in
    omega (arith, a, fewer, length-append (length_text (length q.body)) (q.body ++ more), length-length_text (length q.body))
no_begun (the_body n) front text more q valid (wanted, good, few, is) e fewer =
    let same = same_wanted wanted q.wanted (length_text n ++ text) _ good valid.wanted (sym (append_assoc (wanted_text wanted) (length_text n) text) ∙ ap (λ f. f ++ text) (sym is) ∙ e ∙ split q more) in
    let sized = same_sized n (length q.body) text (q.body ++ more) few valid.short same.1 in
    let a = ap length sized.1 in
    let b = sized.0 in
    omega (arith, a, b, fewer, length-append q.body more)

pub letter_at : (w : Wanted) (x text behind : List ℕ) → text ++ behind ≡ wanted_text w ++ x → length text ≡ 1 → IsFieldText the_letter text
letter_at (Verdict key sig) x text behind e one = (V, (same_front 1 text (86 ∷ []) behind ((key_text key ++ sig_text sig) ++ x) one refl e).0)
letter_at (Signature key) x text behind e one = (S, (same_front 1 text (83 ∷ []) behind (key_text key ++ x) one refl e).0)

pub key_at : (w : Wanted) → IsWanted w → (c : ℕ) (x text behind : List ℕ) → c ∷ (text ++ behind) ≡ wanted_text w ++ x → length text ≡ 44 → IsFieldText the_key text
key_at (Verdict key sig) valid c x text behind e all =
    (key, valid.0, (same_front 44 text (key_text key) behind (sig_text sig ++ x) all (length-key_text key) (ap (drop 1) e ∙ append_assoc (key_text key) (sig_text sig) x)).0)
key_at (Signature key) valid c x text behind e all = (key, valid, (same_front 44 text (key_text key) behind x all (length-key_text key) (ap (drop 1) e)).0)

pub sig_at : (w : Wanted) → IsWanted w → (key : Key) (x text behind : List ℕ) → 86 ∷ (key_text key ++ (text ++ behind)) ≡ wanted_text w ++ x → length text ≡ 88 → IsFieldText the_sig text
sig_at (Verdict other sig) valid key x text behind e all =
    let keys = same_front 44 (key_text key) (key_text other) (text ++ behind) (sig_text sig ++ x) (length-key_text key) (length-key_text other) (ap (drop 1) e ∙ append_assoc (key_text other) (sig_text sig) x) in
    (sig, valid.1, (same_front 88 text (sig_text sig) behind x all (length-sig_text sig) keys.1).0)
sig_at (Signature other) valid key x text behind e all = absurd (apart (key_text key ++ (text ++ behind)) (key_text other ++ x) e)

-- what stands in a field's place before a whole question's end is one
stands : (field : Field) (front text behind more : List ℕ) (q : Question) → IsQuestion q → IsDue field front → front ++ (text ++ behind) ≡ question_text q ++ more → length text ≡ field_size field → IsFieldText field text
stands the_letter front text behind more q valid due e all =
    letter_at q.wanted (length_text (length q.body) ++ (q.body ++ more)) text behind (ap (λ f. f ++ (text ++ behind)) (sym due) ∙ e ∙ split q more) all
stands the_key front text behind more q valid (letter, is) e all =
    key_at q.wanted valid.wanted (letter_code letter) (length_text (length q.body) ++ (q.body ++ more)) text behind (ap (λ f. f ++ (text ++ behind)) (sym is) ∙ e ∙ split q more) all
stands the_sig front text behind more q valid (key, good, is) e all =
    sig_at q.wanted valid.wanted key (length_text (length q.body) ++ (q.body ++ more)) text behind (ap (λ f. f ++ (text ++ behind)) (sym is) ∙ e ∙ split q more) all
stands the_length front text behind more q valid (wanted, good, is) e all =
    let same = same_wanted wanted q.wanted (text ++ behind) (length_text (length q.body) ++ (q.body ++ more)) good valid.wanted (ap (λ f. f ++ (text ++ behind)) (sym is) ∙ e ∙ split q more) in
    (length q.body, valid.short, (same_front 8 text (length_text (length q.body)) behind (q.body ++ more) all (length-length_text (length q.body)) same.1).0)
stands (the_body n) front text behind more q valid due e all = tt

-- so a rest has no whole question at its front
no_whole : (rest : List ℕ) → IsBegun rest ⊎ IsRefused rest → (q : Question) (more : List ℕ) → IsQuestion q → rest ≡ question_text q ++ more → ⊥
no_whole rest no_question q more valid e = elim no_question [
  | inl begun ↦ no_begun begun.field begun.front begun.text more q valid begun.due (sym begun.is ∙ e) begun.fewer
  | inr refused ↦ refused.other (stands refused.field refused.front refused.text [] more q valid refused.due (ap (λ t. refused.front ++ t) (append-nil refused.text) ∙ sym refused.is ∙ e) refused.all)
]

-- bytes are read in one way
pub read_once : (questions others : List Question) (rest more : List ℕ) → AllByRecursion IsQuestion questions → AllByRecursion IsQuestion others → questions_text questions ++ rest ≡ questions_text others ++ more
    → IsBegun rest ⊎ IsRefused rest → IsBegun more ⊎ IsRefused more → (questions ≡ others) × (rest ≡ more)
read_once [] [] rest more each all e no_rest no_more = (refl, e)
read_once [] (p ∷ ps) rest more each all e no_rest no_more =
    absurd (no_whole rest no_rest p (questions_text ps ++ more) all.0 (e ∙ append_assoc (question_text p) (questions_text ps) more))
read_once (q ∷ qs) [] rest more each all e no_rest no_more =
    absurd (no_whole more no_more q (questions_text qs ++ rest) each.0 (sym e ∙ append_assoc (question_text q) (questions_text qs) rest))
read_once (q ∷ qs) (p ∷ ps) rest more each all e no_rest no_more =
    let first = same_question q p (questions_text qs ++ rest) (questions_text ps ++ more) each.0 all.0
    (sym (append_assoc (question_text q) (questions_text qs) rest) ∙ e ∙ append_assoc (question_text p) (questions_text ps) more) in
    let others = read_once qs ps rest more each.1 all.1 first.1 no_rest no_more in
    (λ i. first.0 i ∷ others.0 i, others.1)
