-- All bytes of a mixed stream that were fed, of which those behind the answered items are buffered.
use Rattle.std.proofs.Common.{ℕ, zero, suc, ◌≤◌, ◌<◌, List, [], ◌∷◌, ◌++◌, length, take, drop, refl, sym, ap, ◌∙◌, arith, length-drop, subst}
use Rattle.std.proofs.lemmas.List.{drop-drop}
use Rattle.cesr_stream.specs.declared.item.Item.{Item}
use Rattle.cesr_stream.specs.declared.item.Item.TheVariants.{Body, Group as GroupItem, Wrapped}
use Rattle.cesr_stream.specs.Items.{Placed, placed}
use Rattle.cesr_stream.specs.Reading.{Reading, HasFed}
use Rattle.cesr_stream.specs.Texts.{SpellsItem}
use Rattle.cesr_stream.proofs.Fed.{fed_counted}
use Rattle.cesr_binary.specs.Mixed.{mixed_front, SpellsEither, StandMixed, one}
use Rattle.cesr_binary.specs.MixedAnswers.{AnswersItem}
use Rattle.cesr_stream.proofs.Characters.{group_dash, wrap_dash}
use Rattle.cesr_binary.proofs.Wires.{in_text_of}

-- the spelling of an item isn't empty
no_item : (item : Item) → SpellsItem [] item → ⊥
no_item (Body bytes) spelled = cc spelled.1
no_item (GroupItem group) spelled = let long = (group_dash group).1 in omega (arith, long, ap length spelled)
no_item (Wrapped groups) spelled = let long = (wrap_dash groups).1 in omega (arith, long, ap length spelled)

pub spelled_some : (bytes : List ℕ) (n : ℕ) (item : Item) → SpellsEither (take n bytes) item → 1 ≤ n
spelled_some bytes zero item spelled = absurd (no_item item (subst (λ text. SpellsItem text item) (in_text_of [] refl) spelled))
spelled_some bytes (suc n) item spelled = omega arith

module _ (old new : Reading) (item : Item) (place : ℕ) (a : AnswersItem old new item place) (fed : List ℕ) (has : HasFed old fed) where
  -- one more item
  pub fed_answered : HasFed new fed
  fed_answered = subst (λ reading. HasFed reading fed) (sym a.moved) (record {
    within = let counted = fed_counted old fed has in let within = a.within in omega (arith, counted, within);
    behind = sym (drop-drop a.length_of old.place fed) ∙ ap (drop a.length_of) has.behind;
  })

  -- it stands behind those before it
  pub stand_on : (items : List Placed) → StandMixed old.limit fed items old.begun old.place
      → StandMixed new.limit fed (items ++ placed place item ∷ []) new.begun new.place
  stand_on items stand =
      rw (a.moved, a.at)
      (one a.length_of item stand (ap (mixed_front old.limit old.begun) has.behind ∙ a.is_whole)
      (subst (λ rest. SpellsEither (take a.length_of rest) item) (sym has.behind) a.spelled))

-- fewer bytes are buffered behind an item
pub fewer_buffered : (old new : Reading) (item : Item) (place : ℕ) → AnswersItem old new item place → length new.rest < length old.rest
fewer_buffered old new item place a =
    let within = a.within in
    omega (arith, within, spelled_some old.rest a.length_of item a.spelled, ap (λ r. length r.rest) a.moved, length-drop a.length_of old.rest)
