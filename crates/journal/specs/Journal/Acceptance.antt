-- Acceptance: after each entry, as long as some body is ready, the earliest such body is accepted.
use Rattle.std.specs.Prelude.{◌≡◌, ℕ, zero, suc, Bool, List, [], ◌∷◌, ◌++◌, length, find, Option, Some, None}

-- the list with one more, where there is one
abbrev pub appended : {B : Type 0} → Option B → List B → List B
appended None accepted = accepted
appended (Some b) accepted = accepted ++ b ∷ []

-- so many times over the earliest ready body is appended, if there is one
unfoldable pub settled : {B : Type 0} → (List B → B → Bool) → List B → ℕ → List B → List B
settled ready bodies zero accepted = accepted
settled ready bodies (suc n) accepted = settled ready bodies n (appended (find (ready accepted) bodies) accepted)

-- the same as a relation: the second list comes from the first by appending the earliest ready body until there is none
pub data Settles {B : Type 0} (ready : List B → B → Bool) (bodies : List B) : List B → List B → Type 0 where
  rest : {accepted : List B} → find (ready accepted) bodies ≡ None → Settles ready bodies accepted accepted
  more : {accepted end : List B} {b : B} → find (ready accepted) bodies ≡ Some b
      → Settles ready bodies (accepted ++ b ∷ []) end → Settles ready bodies accepted end

-- the list with all that the entries so far make ready: no more rounds than bodies are needed
abbrev pub settled_over : {T B : Type 0} → (List T → List B → B → Bool) → (List T → List B) → List T → List B → List B
settled_over ready bodies told accepted = settled (ready told) (bodies told) (length (bodies told)) accepted

-- what is accepted after later entries, from what is accepted after the earlier ones
unfoldable pub grown_by : {T B : Type 0} → (List T → List B → B → Bool) → (List T → List B) → List B → List T → List T → List B
grown_by ready bodies accepted earlier [] = accepted
grown_by ready bodies accepted earlier (t ∷ later) =
    grown_by ready bodies (settled_over ready bodies (earlier ++ t ∷ []) accepted) (earlier ++ t ∷ []) later
