-- Elements that are read one by one.
use Rattle.std.proofs.Common.{◌≡◌, ◌≢◌, ℕ, suc, ◌+◌, ◌≤◌, List, [], ◌∷◌, ◌++◌, length, take, drop, flat_map, refl, sym, ap, ◌∙◌, arith, length-append, length-drop, append-nil, append_assoc, Option, None, Some, Result, Ok, Err, IfOk, subst}
use Rattle.std.proofs.Math.Seq.{take-add}
use Rattle.std.proofs.lemmas.Grind.{flat_map-append}
use Rattle.std.proofs.lemmas.List.{drop-drop, drop-append-le, take-append-le}
use Rattle.cesr_stream.specs.declared.progress.Progress.{Progress}
use Rattle.cesr_stream.specs.declared.stop.Stop.{Stop}
use Rattle.cesr_stream.specs.Begun.{AreRead}
use Rattle.cesr_stream.specs.Front.{elements_part}
use Rattle.cesr_stream.specs.Judged.{JudgesElement}
use Rattle.cesr_stream.specs.Parts.{Part, whole, refused, unfinished, shifted, followed_by, less}
use Rattle.cesr_stream.specs.Stops.{Stops, Halts, further}
use Rattle.cesr_stream.proofs.StopLemmas.{halts, halts-further, halts-followed}

-- so many bytes further behind, twice
pub shifted-shifted : (a b : ℕ) (part : Part) → shifted a (shifted b part) ≡ shifted (a + b) part
shifted-shifted a b (whole n) = ap whole (omega arith)
shifted-shifted a b (refused place reason) = ap (λ p. refused p reason) (omega arith)
shifted-shifted a b unfinished = refl

-- what is left of a wrap behind two parts
pub less-less : (a b : ℕ) (room : Option ℕ) → less b (less a room) ≡ less (a + b) room
less-less a b None = refl
less-less a b (Some room) = ap Some (omega arith)

-- one more element is the next bytes
pub text-more : {E : Type 0} (text : E → List ℕ) (bytes : List ℕ) (place n : ℕ) (elements : List E) (e : E) → take place bytes ≡ flat_map text elements → take n (drop place bytes) ≡ text e
    → take (place + n) bytes ≡ flat_map text (elements ++ e ∷ [])
text-more text bytes place n elements e before is =
    take-add place n bytes ∙ ap (λ front. front ++ take n (drop place bytes)) before ∙ ap (λ last. flat_map text elements ++ last) (is ∙ sym (append-nil (text e))) ∙ sym (flat_map-append text elements (e ∷ []))

-- a whole element stays whole, whatever follows
pub found_stays : {E : Type 0} (part : List ℕ → Part) → ((x y : List ℕ) → part x ≢ unfinished → part (x ++ y) ≡ part x) → (text : E → List ℕ) (bytes : List ℕ) (result : Result (E × ℕ) Stop)
    → JudgesElement part text bytes result → IfOk result (λ found. (more : List ℕ) → part (bytes ++ more) ≡ whole found.1)
found_stays part stays text bytes (Ok found) is = λ more. stays bytes more (λ e. cc (is.0, e)) ∙ is.0
found_stays part stays text bytes (Err stop) is = tt

module _ (judged : Option ℕ → List ℕ → Part) (room : Option ℕ) (bytes : List ℕ) where
  -- what is judged of those left is judged of all
  pub all_same : (count : ℕ) (text : List ℕ) (progress : Progress) → AreRead judged room bytes count text progress
      → shifted progress.place (elements_part judged progress.left (less progress.place room) (drop progress.place bytes)) ≡ elements_part judged (count + progress.left) room bytes
  all_same count text progress read =
      ap (λ xs. shifted progress.place (elements_part judged progress.left (less progress.place room) (drop progress.place xs))) (sym (append-nil bytes))
      ∙ read.same [] ∙ ap (elements_part judged (count + progress.left) room) (append-nil bytes)

  -- all are there
  pub all_read : (count place : ℕ) (text : List ℕ) → AreRead judged room bytes count text (record { left = 0; place = place }) → elements_part judged (count + 0) room bytes ≡ whole place
  unfolding elements_part
  all_read count place text read = sym (all_same count text (record { left = 0; place = place }) read) ∙ ap whole (omega arith)

  -- one isn't whole
  pub element_stops : (count left left' place : ℕ) (text : List ℕ) (stop : Stop) → AreRead judged room bytes count text (record { left = left; place = place }) → left ≡ suc left'
      → Stops (drop place bytes) (judged (less place room) (drop place bytes)) stop → Halts bytes (elements_part judged (count + left) room bytes) (further place stop)
  unfolding elements_part
  element_stops count left left' place text stop read one stops =
      let next : ℕ → List ℕ → Part = λ m. elements_part judged left' (less m (less place room)) in
      let first : Part = judged (less place room) (drop place bytes) in
      let all : shifted place (followed_by first next (drop place bytes)) ≡ elements_part judged (count + left) room bytes
      = ap (λ k. shifted place (elements_part judged k (less place room) (drop place bytes))) (sym one) ∙ all_same count text (record { left = left; place = place }) read in
      subst (λ part. Halts bytes part (further place stop)) all
      (halts-further bytes place (followed_by first next (drop place bytes)) stop read.within (halts-followed (drop place bytes) (drop place bytes) first next stop (halts (drop place bytes) first stop stops)))

  -- one more was read
  pub element_more : {E : Type 0} (text : E → List ℕ) (elements es : List E) (element : E) (left left' place n : ℕ)
      → AreRead judged room bytes (length elements) (flat_map text elements) (record { left = left; place = place }) → left ≡ suc left'
      → ((more : List ℕ) → judged (less place room) (drop place bytes ++ more) ≡ whole n) → take n (drop place bytes) ≡ text element → n ≤ length (drop place bytes) → es ≡ elements ++ element ∷ []
      → AreRead judged room bytes (length es) (flat_map text es) (record { left = left'; place = place + n })
  unfolding elements_part
  element_more text elements es element left left' place n read one is spelled fits pushed = record {
    within = let within = read.within in omega (arith, within, fits, length-drop place bytes);
    spelled = text-more text bytes place n elements element read.spelled spelled ∙ sym (ap (flat_map text) pushed);
    same = λ more.
        sym (ap (λ k. shifted place (elements_part judged k (less place room) (drop place (bytes ++ more)))) one
        ∙ ap (λ part. shifted place (followed_by part (λ m. elements_part judged left' (less m (less place room))) (drop place (bytes ++ more))))
        (ap (judged (less place room)) (drop-append-le place bytes more read.within) ∙ is more)
        ∙ shifted-shifted place n (elements_part judged left' (less n (less place room)) (drop n (drop place (bytes ++ more))))
        ∙ ap (λ l. shifted (place + n) (elements_part judged left' l (drop n (drop place (bytes ++ more))))) (less-less place n room)
        ∙ ap (λ behind. shifted (place + n) (elements_part judged left' (less (place + n) room) behind)) (drop-drop n place (bytes ++ more)))
        ∙ read.same more
        ∙ ap (λ k. elements_part judged k room (bytes ++ more)) count;
  }
    where
      count : length elements + left ≡ length es + left'
      count = omega (arith, one, ap length pushed, length-append elements (element ∷ []))

  -- more bytes change nothing
  pub read_more : (count : ℕ) (text : List ℕ) (progress : Progress) (piece : List ℕ) → AreRead judged room bytes count text progress → AreRead judged room (bytes ++ piece) count text progress
  read_more count text progress piece read = record {
    within = let within = read.within in omega (arith, within, length-append bytes piece);
    spelled = take-append-le progress.place bytes piece read.within ∙ read.spelled;
    same = λ more. subst
        (λ xs. shifted progress.place (elements_part judged progress.left (less progress.place room) (drop progress.place xs)) ≡ elements_part judged (count + progress.left) room xs)
        (sym (append_assoc bytes piece more)) (read.same (piece ++ more));
  }
