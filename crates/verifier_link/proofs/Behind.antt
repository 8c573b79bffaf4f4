-- What is behind the bytes of a question that were read, where reading stops.
use Rattle.std.proofs.Common.{◌≡◌, ℕ, ◌≤◌, List, [], ◌∷◌, ◌++◌, length, Result, Ok, Err, IfErr, IsErrAnd, refl, sym, subst, arith, append_assoc, length-append, inl, inr}
use Rattle.lists.specs.KeriSpecs.Causes.{Rose}
use Rattle.lists.specs.KeriSpecs.Shown.{before}
use Rattle.verifier_link.specs.declared.stop.Stop.{Stop}
use Rattle.verifier_link.specs.declared.stop.Stop.TheVariants.{Ended, Malformed, ReadFault, LimitReached}
use Rattle.verifier_link.specs.Fields.{Field, field_size, IsDue, IsBegun, IsRefused, IsTaken, IsCut, FieldStops}
use Rattle.verifier_link.specs.Sides.{Gave}
use Rattle.keri_outside.specs.Shown.{SourceShown}
use Rattle.verifier_link.specs.Stops.{StopsBehind, StopsReading, cut_short}
use Rattle.verifier_link.proofs.Pieces.{before_more, gave_more}

-- what an error is, it is where it is handed on
pub if_err : {T E : Type 0} (r : Result T E) (e : E) (Q : E → Type 0) → IsErrAnd r (λ y. y ≡ e) → Q e → IfErr r Q
if_err (Ok x) e Q given holds = absurd given
if_err (Err y) e Q given holds = subst Q (sym given) holds

pub cut_field : (field : Field) (room : ℕ) (old new : SourceShown) (stop : Stop) → IsCut (field_size field) room old new stop → FieldStops field room old new stop
cut_field field room old new Ended cut = cut
cut_field field room old new Malformed cut = absurd cut
cut_field field room old new ReadFault cut = cut
cut_field field room old new LimitReached cut = cut

-- a field that isn't read stops a question of which the fields before it were read
pub field_behind : (field : Field) (front : List ℕ) (room : ℕ) (old new : SourceShown) → IsDue field front → (stop : Stop) → FieldStops field room old new stop → StopsBehind front room old new stop
field_behind field front room old new due Ended (bytes, fewer, few, gave, at_end) =
    (bytes, record { field = field; front = front; text = bytes; due = due; is = refl; fewer = fewer }, few, gave, at_end)
field_behind field front room old new due Malformed (bytes, all, few, other, gave) =
    (bytes, record { field = field; front = front; text = bytes; due = due; is = refl; all = all; other = other }, few, gave)
field_behind field front room old new due ReadFault (bytes, fewer, few, left, rose) =
    (bytes, record { field = field; front = front; text = bytes; due = due; is = refl; fewer = fewer }, few, left, rose)
field_behind field front room old new due LimitReached (bytes, fewer, all, more, gave) =
    (bytes, record { field = field; front = front; text = bytes; due = due; is = refl; fewer = fewer }, all, more, gave)

-- fields that were taken one after the other
pub taken_more : (room middle_room last_room : ℕ) (old middle new : SourceShown) (bytes more : List ℕ) → IsTaken room middle_room old middle bytes → IsTaken middle_room last_room middle new more
    → IsTaken room last_room old new (bytes ++ more)
taken_more room middle_room last_room old middle new bytes more a b = record {
  gave = gave_more old middle new bytes more a.gave b.gave;
  counted = let x = a.counted in let y = b.counted in omega (arith, x, y, length-append bytes more);
}

module _ (room middle_room : ℕ) (old middle new : SourceShown) (bytes : List ℕ) (taken : IsTaken room middle_room old middle bytes) where
  fewer : (more : List ℕ) → length more ≤ middle_room → length (bytes ++ more) ≤ room
  fewer more few = let counted = taken.counted in omega (arith, counted, few, length-append bytes more)

  pub left_more : (more : List ℕ) → middle.left ≡ before more new.left → old.left ≡ before (bytes ++ more) new.left
  left_more more left = before_more old.left middle.left new.left bytes more taken.gave.left left

  pub rose_more : Rose middle.faults new.faults → Rose old.faults new.faults
  rose_more rose = subst (λ faults. Rose faults new.faults) taken.gave.faults rose

  all_more : (more : List ℕ) → length more ≡ middle_room → length (bytes ++ more) ≡ room
  all_more more all = let counted = taken.counted in omega (arith, counted, all, length-append bytes more)

  pub next_more : (more : List ℕ) (next : ℕ) → Gave middle new (more ++ next ∷ []) → Gave old new ((bytes ++ more) ++ next ∷ [])
  next_more more next gave = subst (Gave old new) (sym (append_assoc bytes more (next ∷ []))) (gave_more old middle new bytes (more ++ next ∷ []) taken.gave gave)

  -- where reading stops behind bytes that were taken
  pub behind_more : (front : List ℕ) (stop : Stop) → StopsBehind (front ++ bytes) middle_room middle new stop → StopsBehind front room old new stop
  behind_more front Ended (more, begun, few, gave, at_end) =
      (bytes ++ more, subst IsBegun (append_assoc front bytes more) begun, fewer more few, gave_more old middle new bytes more taken.gave gave, at_end)
  behind_more front Malformed (more, refused, few, gave) =
      (bytes ++ more, subst IsRefused (append_assoc front bytes more) refused, fewer more few, gave_more old middle new bytes more taken.gave gave)
  behind_more front ReadFault (more, begun, few, left, rose) =
      (bytes ++ more, subst IsBegun (append_assoc front bytes more) begun, fewer more few, left_more more left, rose_more rose)
  behind_more front LimitReached (more, begun, all, next, gave) =
      (bytes ++ more, subst IsBegun (append_assoc front bytes more) begun, all_more more all, next, next_more more next gave)

-- where the reading of a question stops behind its letter
pub reading_behind : (letter : ℕ) (room middle_room : ℕ) (old middle new : SourceShown) → IsTaken room middle_room old middle (letter ∷ []) → (stop : Stop)
    → StopsBehind (letter ∷ []) middle_room middle new stop → StopsReading room old new (cut_short stop)
reading_behind letter room middle_room old middle new taken Ended (more, begun, few, gave, at_end) = (
  letter ∷ more,
  inr (record { begun = begun; some = λ none. cc none; at_end = at_end }),
  fewer room middle_room old middle new (letter ∷ []) taken more few,
  gave_more old middle new (letter ∷ []) more taken.gave gave,
)
reading_behind letter room middle_room old middle new taken Malformed (more, refused, few, gave) =
    (letter ∷ more, inl refused, fewer room middle_room old middle new (letter ∷ []) taken more few, gave_more old middle new (letter ∷ []) more taken.gave gave)
reading_behind letter room middle_room old middle new taken ReadFault stops = behind_more room middle_room old middle new (letter ∷ []) taken [] ReadFault stops
reading_behind letter room middle_room old middle new taken LimitReached stops = behind_more room middle_room old middle new (letter ∷ []) taken [] LimitReached stops
