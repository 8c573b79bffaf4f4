-- Bytes that went in pieces, and more behind them.
use Rattle.std.proofs.Common.{◌≡◌, ℕ, zero, suc, ◌+◌, ◌-◌, ◌≤◌, List, [], ◌∷◌, ◌++◌, length, take, drop, refl, sym, ◌∙◌, ap, subst, arith, append_assoc, length-append, length-take, length-drop, Option, None, Some, Result, Ok, Err, is_err, true}
use Rattle.std.specs.List.{concat}
use Rattle.std.proofs.lemmas.Bool.{false≢true}
use Rattle.std.proofs.lemmas.List.{append-nil, take_all, take-take, length-take-le}
use Rattle.std.proofs.Math.Seq.{take-append-add}
use Rattle.std.proofs.lemmas.Slice.{take-put_mid}
use borrow.Rule.Slice.PartMut.{put_mid}
use Rattle.lists.specs.KeriSpecs.Shown.{after}
use Rattle.disk_file.specs.Calls.{calls_from, Does, Passes, PassesAll}
use Rattle.disk_file.specs.declared.file_call.FileCall.{FileCall}

-- no calls more
after-none : (shown : Option (List FileCall)) → shown ≡ after shown []
after-none None = refl
after-none (Some calls) = ap Some (sym (append-nil calls))

-- calls more, and then others
after-after : (shown : Option (List FileCall)) (xs ys : List FileCall) → after (after shown xs) ys ≡ after shown (xs ++ ys)
after-after None xs ys = refl
after-after (Some calls) xs ys = ap Some (append_assoc calls xs ys)

concat-append : (xss yss : List (List ℕ)) → concat (xss ++ yss) ≡ concat xss ++ concat yss
concat-append [] yss = refl
concat-append (xs ∷ xss) yss = ap (λ (rest : List ℕ). xs ++ rest) (concat-append xss yss) ∙ sym (append_assoc xs (concat xss) (concat yss))

module _ (call : ℕ → List ℕ → FileCall) where
  calls_from-append : (place : ℕ) (xss yss : List (List ℕ)) → calls_from call place (xss ++ yss) ≡ calls_from call place xss ++ calls_from call (place + length (concat xss)) yss
  calls_from-append place [] yss = ap (λ (n : ℕ). calls_from call n yss) (omega arith)
  calls_from-append place (xs ∷ xss) yss =
      let past : place + length xs + length (concat xss) ≡ place + length (xs ++ concat xss) = simp length-append (omega arith) in
      ap (λ (rest : List FileCall). call place xs ∷ rest)
      (calls_from-append (place + length xs) xss yss ∙ ap (λ (n : ℕ). calls_from call (place + length xs) xss ++ calls_from call n yss) past)

  -- nothing went yet
  pub passes-none : (place : ℕ) (shown : Option (List FileCall)) → Passes call place [] shown shown
  passes-none place shown = record { pieces = []; whole = refl; calls = after-none shown }

  -- one piece went
  pub passes-one : (place : ℕ) (bytes : List ℕ) (old new : Option (List FileCall)) → new ≡ after old (call place bytes ∷ []) → Passes call place bytes old new
  passes-one place bytes old new is = record { pieces = bytes ∷ []; whole = append-nil bytes; calls = is }

  -- more went behind what went before
  pub passes-more : (place : ℕ) (front more : List ℕ) (old mid new : Option (List FileCall))
      → Passes call place front old mid → Passes call (place + length front) more mid new → Passes call place (front ++ more) old new
  passes-more place front more old mid new before then = record {
    pieces = before.pieces ++ then.pieces;
    whole = concat-append before.pieces then.pieces ∙ (λ i. before.whole i ++ then.whole i);
    calls =
        then.calls
        ∙ ap (λ (shown : Option (List FileCall)). after shown (calls_from call (place + length front) then.pieces)) before.calls
        ∙ after-after old (calls_from call place before.pieces) (calls_from call (place + length front) then.pieces)
        ∙ ap (after old)
        (sym (calls_from-append place before.pieces then.pieces
        ∙ ap (λ (bytes : List ℕ). calls_from call place before.pieces ++ calls_from call (place + length bytes) then.pieces) before.whole));
  }

  -- a call of no bytes
  pub passes-empty : {E : Type 0} (place : ℕ) (bytes : List ℕ) (first old new : Option (List FileCall)) (result : Result ℕ E) (n : ℕ)
      → result ≡ Ok n → n ≡ 0 → old ≡ first → Does old new result (λ n. call place (take n bytes)) → Passes call place [] first new
  passes-empty place bytes first old new result n is none same does =
      passes-one place [] first new
      (subst (λ r. Does old new r (λ n. call place (take n bytes))) is does
      ∙ ap (λ (n : ℕ). after old (call place (take n bytes) ∷ [])) none
      ∙ ap (λ (shown : Option (List FileCall)). after shown (call place [] ∷ [])) same)

  -- what is done, and a call behind it that failed
  pub passes-front : {E : Type 0} (place : ℕ) (bytes : List ℕ) (done : ℕ) (first old new : Option (List FileCall)) (result : Result (Unit {0}) E)
      → is_err result ≡ true → done ≤ length bytes → Passes call place (take done bytes) first old → Passes call (place + done) [] old new
      → PassesAll call place bytes first new result
  passes-front place bytes done first old new (Ok u) failed few before then = absurd (false≢true failed)
  passes-front place bytes done first old new (Err e) failed few before then = (
    done,
    subst (λ (all : List ℕ). Passes call place all first new) (append-nil (take done bytes))
        (passes-more place (take done bytes) [] first old new before
        (subst (λ (n : ℕ). Passes call (place + n) [] old new) (sym (length-take-le done bytes few)) then)),
  )

  -- what is done, and more behind it, which are bytes of the whole
  pub passes-further : (place : ℕ) (bytes all more : List ℕ) (done n : ℕ) (first old new : Option (List FileCall))
      → done ≤ length bytes → take done bytes ++ more ≡ take (done + n) all
      → Passes call place (take done bytes) first old → Passes call (place + done) more old new → Passes call place (take (done + n) all) first new
  passes-further place bytes all more done n first old new few joined before then =
      subst (λ (whole : List ℕ). Passes call place whole first new) joined
      (passes-more place (take done bytes) more first old new before
      (subst (λ (m : ℕ). Passes call (place + m) more old new) (sym (length-take-le done bytes few)) then))

take_none : (n : ℕ) → [] ≡ take {A = ℕ} n []
take_none zero = refl
take_none (suc n) = refl

take_further : (m n : ℕ) (bytes : List ℕ) → take m bytes ++ take n (drop m bytes) ≡ take (m + n) bytes
take_further zero n bytes = ap (λ (k : ℕ). take k bytes) (omega arith)
take_further (suc m) n [] = sym (take_none n) ∙ take_none (suc m + n)
take_further (suc m) n (b ∷ bytes) =
    let one : suc (m + n) ≡ suc m + n = omega arith in
    ap (λ (rest : List ℕ). b ∷ rest) (take_further m n bytes) ∙ ap (λ (k : ℕ). take k (b ∷ bytes)) one

-- the first bytes, and some of the rest
pub of_the_rest : (done n : ℕ) (bytes : List ℕ) → take done bytes ++ take n (take (length bytes - done) (drop done bytes)) ≡ take (done + n) bytes
of_the_rest done n bytes =
    let rest : take (length bytes - done) (drop done bytes) ≡ drop done bytes = take_all (length bytes - done) (drop done bytes) (simp length-drop (omega arith)) in
    ap (λ (more : List ℕ). take done bytes ++ take n more) rest ∙ take_further done n bytes

module _ (done n : ℕ) (buf more : List ℕ) (few : done ≤ length buf) (size : length more ≡ length buf - done) (some : n ≤ length more) where
  -- the first bytes, and some that were put behind them
  pub of_the_filled : take done buf ++ take n more ≡ take (done + n) (put_mid done (length buf - done) buf more)
  of_the_filled =
      sym (take-append-add (take done buf) more n)
      ∙ ap (λ (k : ℕ). take (k + n) (take done buf ++ more)) (length-take-le done buf few)
      ∙ sym (ap (take (done + n)) (take-put_mid done (length buf - done) buf more (done + length more) refl few))
      ∙ take-take (done + n) (done + length more) (put_mid done (length buf - done) buf more) (omega arith)

  pub size_filled : length (put_mid done (length buf - done) buf more) ≡ length buf
  size_filled = simp (length-append, length-take, length-drop) (omega arith)
