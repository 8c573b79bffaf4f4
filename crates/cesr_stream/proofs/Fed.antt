-- All bytes that were fed, of which those behind the answered items are buffered.
use Rattle.std.proofs.Common.{◌≡◌, ℕ, ◌+◌, List, [], ◌∷◌, ◌++◌, length, take, drop, refl, sym, ap, ◌∙◌, arith, None, length-append, length-drop, subst}
use Rattle.std.proofs.lemmas.List.{drop-drop, drop-append-le}
use Rattle.cesr_stream.specs.declared.item.Item.{Item}
use Rattle.cesr_stream.specs.Front.{front}
use Rattle.cesr_stream.specs.Items.{Placed, placed, Stand, one}
use Rattle.cesr_stream.specs.Reading.{Reading, HasFed, AnswersItem, fed_with, fresh}
use Rattle.cesr_stream.specs.Texts.{SpellsItem}

pub fed_fresh : (limit : ℕ) → HasFed (fresh limit) []
fed_fresh limit = record { within = omega arith; behind = refl }

-- one more piece
pub fed_on : (reading : Reading) (fed piece : List ℕ) → HasFed reading fed → HasFed (fed_with reading piece None) (fed ++ piece)
fed_on reading fed piece has = record {
  within = let within = has.within in omega (arith, within, length-append fed piece);
  behind = drop-append-le reading.place fed piece has.within ∙ ap (λ rest. rest ++ piece) has.behind;
}

-- what is buffered is what was fed less what was handed out
pub fed_counted : (reading : Reading) (fed : List ℕ) → HasFed reading fed → length reading.rest + reading.place ≡ length fed
fed_counted reading fed has = let within = has.within in let behind = has.behind in omega (arith, within, ap length behind, length-drop reading.place fed)

module _ (old new : Reading) (item : Item) (place : ℕ) (a : AnswersItem old new item place) (fed : List ℕ) (has : HasFed old fed) where
  -- one more item
  pub fed_answered : HasFed new fed
  fed_answered = subst (λ reading. HasFed reading fed) (sym a.moved) (record {
    within = let counted = fed_counted old fed has in let within = a.within in omega (arith, counted, within);
    behind = sym (drop-drop a.length_of old.place fed) ∙ ap (drop a.length_of) has.behind;
  })

  -- it stands behind those before it
  pub stand_on : (items : List Placed) → Stand old.limit fed items old.begun old.place → Stand new.limit fed (items ++ placed place item ∷ []) new.begun new.place
  stand_on items stand =
      rw (a.moved, a.at)
      (one a.length_of item stand (ap (front old.limit old.begun) has.behind ∙ a.is_whole) (subst (λ rest. SpellsItem (take a.length_of rest) item) (sym has.behind) a.spelled))
