-- What is told where texts, or other lists, are put one behind the other.
use Rattle.std.proofs.Common.{◌≡◌, ℕ, ◌+◌, ◌<◌, List, [], ◌∷◌, ◌++◌, length, take, drop, slice_index_or, flat_map, refl, sym, ap, subst, ◌∙◌, append-nil, append_assoc, Option, None, Some, Result, Ok, Err}
use Rattle.std.specs.Result.{IsErr}
use Rattle.std.proofs.Math.Seq.{take-append_seam, take-append-add}
use Rattle.std.proofs.lemmas.Grind.{flat_map-append}
use Rattle.std.proofs.lemmas.List.{take-append-drop, take_more, drop_more}
use Rattle.lists.specs.KeriSpecs.Shown.{Puts, after}

-- nothing more, and one text behind another
pub after-nil : {A : Type 0} (told : Option (List A)) → told ≡ after told []
after-nil None = refl
after-nil (Some text) = ap Some (sym (append-nil text))

pub after-append : {A : Type 0} (told : Option (List A)) (text more : List A) → after (after told text) more ≡ after told (text ++ more)
after-append None text more = refl
after-append (Some front) text more = ap Some (append_assoc front text more)

module _ {A T E : Type 0} (result : Result T E) (old new : Option (List A)) (text : List A) where
  -- a front of a text is one of a longer text
  pub front_stands : (rest : List A) → IsErr result → (n : ℕ) × (new ≡ after old (take n text)) → Puts old new result (text ++ rest)
  front_stands rest failed stands = at result failed
    where
      same : take (length (take stands.0 text)) (text ++ rest) ≡ take stands.0 text
      same =
          ap (λ t. take (length (take stands.0 text)) (t ++ rest)) (sym (take-append-drop stands.0 text))
          ∙ ap (take (length (take stands.0 text))) (append_assoc (take stands.0 text) (drop stands.0 text) rest)
          ∙ take-append_seam (take stands.0 text) (drop stands.0 text ++ rest)

      at : (r : Result T E) → IsErr r → Puts old new r (text ++ rest)
      at (Ok u) failed = cc failed
      at (Err e) failed = (length (take stands.0 text), stands.1 ∙ ap (after old) (sym same))

  -- what is put behind a text
  pub puts-behind : (middle : Option (List A)) (more : List A) → middle ≡ after old text → Puts middle new result more → Puts old new result (text ++ more)
  puts-behind middle more is puts = at result puts
    where
      at : (r : Result T E) → Puts middle new r more → Puts old new r (text ++ more)
      at (Ok u) puts = puts ∙ ap (λ told. after told more) is ∙ after-append old text more
      at (Err e) puts = (
        length text + puts.0,
        puts.1 ∙ ap (λ told. after told (take puts.0 more)) is ∙ after-append old text (take puts.0 more)
            ∙ ap (after old) (sym (take-append-add text more puts.0)),
      )

module _ {A X : Type 0} (text : X → List A) (all : List X) (i : ℕ) (x : X) (lt : i < length all) (is : x ≡ slice_index_or all i x) where
  -- the texts before one, its own, and those behind it
  pub texts_at : flat_map text all ≡ flat_map text (take i all) ++ (text x ++ flat_map text (drop (i + 1) all))
  texts_at =
      ap (flat_map text) (sym (take-append-drop i all))
      ∙ flat_map-append text (take i all) (drop i all)
      ∙ ap (λ rest. flat_map text (take i all) ++ flat_map text rest) (drop_more all i x lt)
      ∙ ap (λ y. flat_map text (take i all) ++ (text y ++ flat_map text (drop (i + 1) all))) (sym is)

  -- one text more
  pub texts_more : flat_map text (take (i + 1) all) ≡ flat_map text (take i all) ++ text x
  texts_more =
      ap (flat_map text) (take_more all i x lt)
      ∙ flat_map-append text (take i all) (slice_index_or all i x ∷ [])
      ∙ ap (λ y. flat_map text (take i all) ++ (text y ++ [])) (sym is)
      ∙ ap (λ last. flat_map text (take i all) ++ last) (append-nil (text x))

  pub put_more : (old before now : Option (List A)) → before ≡ after old (flat_map text (take i all)) → now ≡ after before (text x)
      → now ≡ after old (flat_map text (take (i + 1) all))
  put_more old before now is_before is_now =
      is_now ∙ ap (λ told. after told (text x)) is_before ∙ after-append old (flat_map text (take i all)) (text x) ∙ ap (after old) (sym texts_more)

  -- a call that failed at one of the texts had put a front of them all
  pub put_front : {T E : Type 0} (result : Result T E) (old before now : Option (List A)) → IsErr result → before ≡ after old (flat_map text (take i all))
      → (n : ℕ) × (now ≡ after before (take n (text x))) → Puts old now result (flat_map text all)
  put_front result old before now failed is_before front =
      let rest = flat_map text (drop (i + 1) all) in
      subst (Puts old now result) (sym texts_at)
      (puts-behind result old now (flat_map text (take i all)) before (text x ++ rest) is_before (front_stands result before now (text x) rest failed front))
