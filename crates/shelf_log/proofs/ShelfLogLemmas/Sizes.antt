-- How long records are, one by one.
use Rattle.std.proofs.Common.{◌≡◌, ℕ, ◌+◌, ◌<◌, ◌≤◌, inl, inr, List, [], ◌∷◌, ◌++◌, length, take, drop, get_or, sym, ◌∙◌, ap, arith, append-nil, length-append, take-append-drop}
use Rattle.std.proofs.lemmas.Bool.{cases_lt}
use Rattle.std.proofs.lemmas.List.{take_more}
use Rattle.keri_outside.specs.declared.limits.Limits.{Limits}
use Rattle.shelf_log.specs.ShelfLog.Answers.{IsOver}
use Rattle.shelf_log.specs.ShelfLog.Format.{record_bytes, records, shelf_front}
use Rattle.shelf_log.specs.declared.shelf_log.version.Version.{Version}
use Rattle.shelf_log.proofs.ShelfLogLemmas.Files.{front-append, length-front-push, records-append}

module _ (version : Version) (list : List (List ℕ)) (i : ℕ) where
  pub taken : (item : List ℕ) → i < length list → item ≡ get_or list i item → take (i + 1) list ≡ take i list ++ item ∷ []
  taken item lt is = take_more list i item lt ∙ ap (λ (x : List ℕ). take i list ++ x ∷ []) (sym is)

  -- one record more
  pub size_more : (item : List ℕ) → i < length list → item ≡ get_or list i item → length (shelf_front version (take (i + 1) list)) ≡ length (shelf_front version (take i list)) + 5 + length item
  size_more item lt is = ap (λ (l : List (List ℕ)). length (shelf_front version l)) (taken item lt is) ∙ length-front-push version (take i list) item

  pub records_more : (item : List ℕ) → i < length list → item ≡ get_or list i item → records (take (i + 1) list) ≡ records (take i list) ++ record_bytes item
  records_more item lt is = ap records (taken item lt is) ∙ records-append (take i list) (item ∷ []) ∙ ap (λ (l : List ℕ). records (take i list) ++ l) (append-nil (record_bytes item))

  -- the first of them are no longer than all
  pub size_front : length (shelf_front version (take i list)) ≤ length (shelf_front version list)
  size_front = omega (arith, sym (ap (λ (l : List (List ℕ)). length (shelf_front version l)) (take-append-drop i list)), ap length (front-append version (take i list) (drop i list)), length-append (shelf_front version (take i list)) (records (drop i list)))

-- a list that isn't over the limits has no more records than they allow
pub counted : (version : Version) (limits : Limits) (list : List (List ℕ)) → (IsOver version limits list → ⊥) → length list ≤ limits.records
counted version limits list few = elim (cases_lt limits.records (length list)) [
  | inl more ↦ absurd (few (inl more))
  | inr none ↦ omega (arith, none)
]
