-- What is told in a journal by a reader is what is told in its share.
use Rattle.std.proofs.Common.{◌≡◌, ℕ, ◌==◌, List, [], ◌∷◌, true, false, refl, sym, ◌∙◌, inl, inr, eq-eqb}
use Rattle.std.specs.Prelude.{filter, All}
use Rattle.std.specs.List.{AllByRecursion}
use Rattle.std.proofs.lemmas.Bool.{cases_Bool}
use Rattle.std.proofs.lemmas.List.Elements.{All-from_recursion, recursion_from_All}
use Rattle.journal.specs.Journal.Feeds.{IsHeardFrom, is_taken_by, reader_of}
use Rattle.journal.specs.Journal.History.{Told, took, heard}
use Rattle.turn_lock.specs.Histories.{share_of}
use Rattle.reader_hub.specs.SharedReader.Asks.{Says}
use Rattle.reader_hub.specs.SharedReader.Offers.{IsEntryOf}

-- what a reader took is in its share
pub filter-share : (k : ℕ) (told : List Told) → filter (is_taken_by k) told ≡ filter (is_taken_by k) (share_of reader_of k told)
filter-share k [] = refl
filter-share k (took r b claims ∷ told) = elim (cases_Bool (r == k)) [
  | inl is ↦ (let ih = filter-share k told in rw (is, ih) (rw is refl))
  | inr is ↦ (let ih = filter-share k told in rw (is, ih) refl)
]
filter-share k (heard r b key sig verdict ∷ told) = elim (cases_Bool (r == k)) [
  | inl is ↦ (let ih = filter-share k told in rw (is, ih) refl)
  | inr is ↦ (let ih = filter-share k told in rw (is, ih) refl)
]

heard_within : (k : ℕ) (says : Says) (told : List Told) → AllByRecursion (IsEntryOf k says) (share_of reader_of k told) → AllByRecursion (IsHeardFrom k says) told
heard_within k says [] t = tt
heard_within k says (took r b claims ∷ told) t = elim (cases_Bool (r == k)) [
  | inl is ↦ (let u = rw is at t in (tt, heard_within k says told u.1))
  | inr is ↦ (let u = rw is at t in (tt, heard_within k says told u))
]
heard_within k says (heard r b key sig verdict ∷ told) t = elim (cases_Bool (r == k)) [
  | inl is ↦ (let u = rw is at t in (λ same. u.0.1, heard_within k says told u.1))
  | inr is ↦ (let u = rw is at t in (λ same. (let no : true ≡ false = sym (eq-eqb r k same) ∙ is in cc), heard_within k says told u))
]

-- and so is what it heard
pub heard_all : (k : ℕ) (says : Says) (told : List Told) → All (IsEntryOf k says) (share_of reader_of k told) → All (IsHeardFrom k says) told
heard_all k says told each = All-from_recursion (IsHeardFrom k says) told (heard_within k says told (recursion_from_All (IsEntryOf k says) (share_of reader_of k told) each))
