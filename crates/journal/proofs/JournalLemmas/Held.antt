-- Bodies by number: what stays when more come.
use Rattle.std.proofs.Common.{◌≡◌, ℕ, ◌<◌, true, List, [], ◌∷◌, ◌++◌, length, Option, Some, None, refl, ◌∙◌, inl, inr}
use Rattle.std.specs.Prelude.{All, slice_get, filter_map}
use Rattle.std.proofs.lemmas.Bool.{or_cases}
use Rattle.std.proofs.lemmas.List.Elements.{All-head, All-tail, filter_map-append}
use Rattle.journal.specs.declared.journal.body.Body.{Body}
use Rattle.journal.specs.declared.journal.entry.Entry.{Entry}
use Rattle.journal.specs.Journal.Logs.{same_body, is_in}
use Rattle.journal.specs.Journal.History.{Told}
use Rattle.journal.specs.Journal.Journals.{whole, told_by, chosen}
use Rattle.journal.proofs.JournalLemmas.Places.{slice_get_front, any_at, some_at}

pub told_push : (held : List Body) (entries : List Entry) (e : Entry) (t : Told) → whole held e ≡ Some t → told_by held (entries ++ e ∷ []) ≡ told_by held entries ++ t ∷ []
unfolding told_by
told_push held entries e t is = filter_map-append (whole held) entries (e ∷ []) ∙ rw is refl

pub chosen_front : (held more : List Body) (numbers : List ℕ) → All (λ n. n < length held) numbers → chosen (held ++ more) numbers ≡ chosen held numbers
unfolding chosen
chosen_front held more [] below = refl
chosen_front held more (n ∷ numbers) below =
    let s = some_at held n (All-head (λ n. n < length held) n numbers below) in
    let front = slice_get_front held more n s.0 s.1 in let here = s.1 in
    let rest = chosen_front held more numbers (All-tail (λ n. n < length held) n numbers below) in
    rw (front, here, rest) refl

pub chosen_push : (held : List Body) (numbers : List ℕ) (n : ℕ) (b : Body) → slice_get held n ≡ Some b → chosen held (numbers ++ n ∷ []) ≡ chosen held numbers ++ b ∷ []
unfolding chosen
chosen_push held numbers n b at = filter_map-append (λ n. slice_get held n) numbers (n ∷ []) ∙ rw at refl

-- what is chosen is held
pub chosen_held : (held : List Body) (numbers : List ℕ) (b : Body) → is_in (chosen held numbers) b ≡ true → is_in held b ≡ true
unfolding chosen
chosen_held held [] b h = cc
chosen_held held (n ∷ numbers) b h = at (slice_get held n) refl (chosen_held held numbers b)
  where
    at : (o : Option Body) → slice_get held n ≡ o → (is_in (filter_map (λ n. slice_get held n) numbers) b ≡ true → is_in held b ≡ true) → is_in held b ≡ true
    at None e more = more (rw e at h)
    at (Some c) e more = elim (or_cases (same_body c b) (is_in (filter_map (λ n. slice_get held n) numbers) b) (rw e at h)) [
      | inl k ↦ any_at (λ c. same_body c b) held n c e k
      | inr k ↦ more k
    ]
