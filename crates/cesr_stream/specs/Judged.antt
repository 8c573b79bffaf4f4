-- What the code reads of primitives, pairs and elements.
use Rattle.std.specs.Prelude.{◌≡◌, ℕ, ◌≤◌, List, ◌++◌, length, take}
use Rattle.std.specs.declared.result.Result.{Result}
use Rattle.std.specs.declared.result.Result.TheVariants.{Ok, Err}
use Rattle.cesr_stream.specs.declared.stop.Stop.{Stop}
use Rattle.cesr_stream.specs.Parts.{Part, whole}
use Rattle.cesr_stream.specs.Stops.{Stops}

-- the element at the front with its length, or how the front is judged
abbrev pub JudgesElement : {E : Type 0} → (List ℕ → Part) → (E → List ℕ) → List ℕ → Result (E × ℕ) Stop → Type 0
JudgesElement judged text bytes (Ok found) = (judged bytes ≡ whole found.1) × (take found.1 bytes ≡ text found.0) × (found.1 ≤ length bytes)
JudgesElement judged text bytes (Err stop) = Stops bytes (judged bytes) stop

-- one element behind another
abbrev pub pair_text : {A B : Type 0} → (A → List ℕ) → (B → List ℕ) → A × B → List ℕ
pair_text text text' pair = text pair.0 ++ text' pair.1
