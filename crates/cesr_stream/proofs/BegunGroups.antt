-- Groups that are read on.
use Rattle.std.proofs.Common.{◌≡◌, ℕ, ◌+◌, ◌≤◌, List, [], ◌∷◌, ◌++◌, length, take, drop, slice_index, refl, sym, ap, ◌∙◌, arith, append-nil, append_assoc, length-append, length-drop, Option, Some, None, subst}
use Rattle.std.proofs.Math.Seq.{take-add}
use Rattle.std.proofs.lemmas.List.{drop-append-le, take-append-le}
use Rattle.lists.specs.KeriSpecs.Base64.{base64_text}
use Rattle.cesr_stream.specs.declared.begun_group.BegunGroup.{BegunGroup}
use Rattle.cesr_stream.specs.declared.group.Group.{Group}
use Rattle.cesr_stream.specs.declared.group.Group.TheVariants.{Controller, Witness, Couples, FirstSeen, Anchor}
use Rattle.cesr_stream.specs.declared.stop.Stop.{Stop}
use Rattle.cesr_stream.specs.Begun.{AreElementsRead, IsBegun, IsSameGroup, IsEmptyGroup, IsWholeGroup, AreRead, count_of, letter_of, judged_of, elements_text}
use Rattle.cesr_stream.specs.Front.{is_group, counter_part, count_of as counted_by, element_part, elements_part, counted_part, group_part, behind_counter}
use Rattle.cesr_stream.specs.Groups.{elements_of}
use Rattle.cesr_stream.specs.Parts.{Part, whole, refused, unfinished, shifted, less}
use Rattle.cesr_stream.specs.Stops.{Stops, Halts, further}
use Rattle.cesr_stream.specs.Texts.{group_text}
use Rattle.cesr_stream.proofs.Counters.{count_low, counter_text}
use Rattle.cesr_stream.proofs.ReadElements.{all_read, read_more}
use Rattle.cesr_stream.proofs.Stays.{stays-counter_part, count_same, byte_same}
use Rattle.cesr_stream.proofs.StopLemmas.{halts-further, stops-counter}

-- a counter and elements that spell a group
spelled_so : (group : Group) → (45 ∷ letter_of group ∷ base64_text 2 (elements_of group)) ++ elements_text group ≡ group_text group
spelled_so (Controller sigs) = refl
spelled_so (Witness sigs) = refl
spelled_so (Couples couples) = refl
spelled_so (FirstSeen seen) = refl
spelled_so (Anchor anchors) = refl

pub shifted-zero : (part : Part) → shifted 0 part ≡ part
shifted-zero (whole n) = ap whole (omega arith)
shifted-zero (refused place reason) = ap (λ p. refused p reason) (omega arith)
shifted-zero unfinished = refl

less-zero : (room : Option ℕ) → less 0 room ≡ room
less-zero None = refl
less-zero (Some room) = ap Some (omega arith)

-- a counter stands whatever follows
pub counter_more : (bytes more : List ℕ) (supported : _) → 4 ≤ length bytes → counter_part supported bytes ≡ whole 4
    → (counter_part supported (bytes ++ more) ≡ whole 4) × (slice_index (bytes ++ more) 1 ≡ slice_index bytes 1) × (counted_by (bytes ++ more) ≡ counted_by bytes)
counter_more bytes more supported long is = (stays-counter_part supported bytes more (λ e. cc (is, e)) ∙ is, byte_same bytes more 1 (omega arith), count_same bytes more long)

-- a group is begun once its counter is read
pub begun : (room : Option ℕ) (bytes : List ℕ) (group : Group) (letter count : ℕ) → slice_index bytes 0 ≡ 45 → letter ≡ slice_index bytes 1 → count ≡ counted_by bytes
    → counter_part (is_group letter) bytes ≡ whole 4 → 4 ≤ length bytes → IsEmptyGroup letter group
    → IsBegun room bytes (record { group = group; progress = record { left = count; place = 0 } })
unfolding group_part counted_part
begun room bytes group letter count dash letter_is count_is counter long empty = record {
  long = long;
  counter = counter_text (is_group letter) bytes dash counter long
      ∙ ap (λ l. 45 ∷ l ∷ base64_text 2 (counted_by bytes)) (sym letter_is ∙ sym empty.lettered) ∙ ap (λ k. 45 ∷ letter_of group ∷ base64_text 2 k) (sym count_is ∙ counted);
  same = λ more.
      let same = counter_more bytes more (is_group letter) long counter in
      ap (λ l. behind_counter (counter_part (is_group l) (bytes ++ more)) (counted_part (element_part l) room (bytes ++ more))) (same.1 ∙ sym letter_is)
      ∙ ap (λ c. behind_counter c (counted_part (element_part letter) room (bytes ++ more))) same.0
      ∙ ap (λ k. shifted 4 (elements_part (element_part letter) k (less 4 room) (drop 4 (bytes ++ more)))) (same.2 ∙ sym count_is ∙ counted)
      ∙ ap (λ judged. shifted 4 (elements_part judged (elements_of group + count) (less 4 room) (drop 4 (bytes ++ more)))) (sym empty.judged);
  few = let none = empty.none in let low = count_low (is_group letter) bytes counter long in omega (arith, count_is, low, none);
  elements = record {
    within = omega arith;
    spelled = sym empty.text;
    same = λ more. none_read (elements_part (judged_of group) count) more ∙ ap (λ k. elements_part (judged_of group) k (less 4 room) (drop 4 bytes ++ more)) counted;
  };
}
  where
    counted : count ≡ elements_of group + count
    counted = let none = empty.none in omega (arith, none)

    none_read : (part : Option ℕ → List ℕ → Part) (more : List ℕ) → shifted 0 (part (less 0 (less 4 room)) (drop 0 (drop 4 bytes ++ more))) ≡ part (less 4 room) (drop 4 bytes ++ more)
    none_read part more = shifted-zero (part (less 0 (less 4 room)) (drop 4 bytes ++ more)) ∙ ap (λ r. part r (drop 4 bytes ++ more)) (less-zero (less 4 room))

-- or its counter isn't
pub begun_stops : (room : Option ℕ) (bytes : List ℕ) (letter : ℕ) (stop : Stop) → letter ≡ slice_index bytes 1 → Stops bytes (counter_part (is_group letter) bytes) stop → Stops bytes (group_part room bytes) stop
unfolding group_part
begun_stops room bytes letter stop letter_is stops =
    stops-counter bytes (counter_part (is_group (slice_index bytes 1)) bytes) (counted_part (element_part (slice_index bytes 1)) room bytes) stop
    (subst (λ l. Stops bytes (counter_part (is_group l) bytes) stop) letter_is stops)

module _ (room : Option ℕ) (bytes : List ℕ) (old : BegunGroup) (is : IsBegun room bytes old) where
  -- how the group is judged
  pub group_same : group_part room bytes ≡ shifted 4 (elements_part (judged_of old.group) (count_of old) (less 4 room) (drop 4 bytes))
  group_same =
      ap (group_part room) (sym (append-nil bytes)) ∙ is.same []
      ∙ ap (λ xs. shifted 4 (elements_part (judged_of old.group) (count_of old) (less 4 room) (drop 4 xs))) (append-nil bytes)

  -- more of its elements are read
  pub begun_on : (new : BegunGroup) → IsSameGroup old new → AreElementsRead (less 4 room) (drop 4 bytes) new → IsBegun room bytes new
  begun_on new same read = record {
    long = is.long;
    counter = is.counter ∙ ap (λ l. 45 ∷ l ∷ base64_text 2 (count_of old)) (sym same.letter) ∙ ap (λ k. 45 ∷ letter_of new.group ∷ base64_text 2 k) (sym same.counted);
    same = λ more. is.same more
        ∙ ap (λ judged. shifted 4 (elements_part judged (count_of old) (less 4 room) (drop 4 (bytes ++ more)))) (sym same.judged)
        ∙ ap (λ k. shifted 4 (elements_part (judged_of new.group) k (less 4 room) (drop 4 (bytes ++ more)))) (sym same.counted);
    few = let few = is.few in let same = same.counted in omega (arith, few, same);
    elements = read;
  }

  -- one isn't whole
  pub group_halts : (stop : Stop) → Halts (drop 4 bytes) (elements_part (judged_of old.group) (count_of old) (less 4 room) (drop 4 bytes)) stop → Halts bytes (group_part room bytes) (further 4 stop)
  group_halts stop halts =
      subst (λ part. Halts bytes part (further 4 stop)) (sym group_same)
      (halts-further bytes 4 (elements_part (judged_of old.group) (count_of old) (less 4 room) (drop 4 bytes)) stop is.long halts)

  -- all of them are
  pub group_whole : old.progress.left ≡ 0 → IsWholeGroup (group_part room bytes) bytes old
  group_whole none = record {
    is_whole = group_same ∙ ap (λ k. shifted 4 (elements_part (judged_of old.group) (elements_of old.group + k) (less 4 room) (drop 4 bytes))) none ∙ ap (shifted 4)
        (all_read (judged_of old.group) (less 4 room) (drop 4 bytes) (elements_of old.group) old.progress.place (elements_text old.group)
        (subst (λ left. AreRead (judged_of old.group) (less 4 room) (drop 4 bytes) (elements_of old.group) (elements_text old.group) (record { left = left; place = old.progress.place })) none is.elements));
    spelled = take-add 4 old.progress.place bytes ∙ ap (λ front. front ++ take old.progress.place (drop 4 bytes)) is.counter
        ∙ ap (λ text. (45 ∷ letter_of old.group ∷ base64_text 2 (count_of old)) ++ text) is.elements.spelled
        ∙ ap (λ k. (45 ∷ letter_of old.group ∷ base64_text 2 k) ++ elements_text old.group) (let e : count_of old ≡ elements_of old.group = omega (arith, none) in e)
        ∙ spelled_so old.group;
    within = let long = is.long in let within = is.elements.within in omega (arith, long, within, length-drop 4 bytes);
    counted = let few = is.few in omega (arith, few, none);
  }

  -- more bytes change nothing
  pub begun_more : (piece : List ℕ) → IsBegun room (bytes ++ piece) old
  begun_more piece = record {
    long = let long = is.long in omega (arith, long, length-append bytes piece);
    counter = take-append-le 4 bytes piece is.long ∙ is.counter;
    same = λ more. subst (λ xs. group_part room xs ≡ shifted 4 (elements_part (judged_of old.group) (count_of old) (less 4 room) (drop 4 xs)))
        (sym (append_assoc bytes piece more)) (is.same (piece ++ more));
    few = is.few;
    elements = subst (λ xs. AreElementsRead (less 4 room) xs old) (sym (drop-append-le 4 bytes piece is.long))
        (read_more (judged_of old.group) (less 4 room) (drop 4 bytes) (elements_of old.group) (elements_text old.group) old.progress piece is.elements);
  }

-- the elements of a group of so many and more
pub same_group : (old new : Group) (left left' place place' : ℕ) → letter_of new ≡ letter_of old → judged_of new ≡ judged_of old → elements_of new + left' ≡ elements_of old + left
    → IsSameGroup (record { group = old; progress = record { left = left; place = place } }) (record { group = new; progress = record { left = left'; place = place' } })
same_group old new left left' place place' letter judged counted = record { letter = letter; judged = judged; counted = counted }
