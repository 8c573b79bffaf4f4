-- The event seals among the values of an event, in their order.
use Rattle.std.specs.Prelude.{◌≡◌, List, [], ◌∷◌, Option, Some, None, filter_map}
use Rattle.json_tree.specs.declared.tree.Tree.{Tree}
use Rattle.event_backing.specs.declared.event_seal.EventSeal.{EventSeal}
use Rattle.event_backing.specs.EventSeals.{IsEventSeal, Spells}

-- what a value is: this event seal, or a value of another kind
abbrev pub Is : Tree → Option EventSeal → Type 0
Is value (Some seal) = IsEventSeal seal × Spells seal value
Is value None = (seal : EventSeal) → IsEventSeal seal → ¬ Spells seal value

-- what each value is
abbrev pub AreEach : List Tree → List (Option EventSeal) → Type 0
AreEach [] [] = Unit {0}
AreEach [] (f ∷ found) = ⊥
AreEach (v ∷ values) [] = ⊥
AreEach (v ∷ values) (f ∷ found) = Is v f × AreEach values found

-- the event seals among the values, in their order
pub record AreSealsOf (values : List Tree) (seals : List EventSeal) : Type 0 where
  pub found : List (Option EventSeal)
  pub each : AreEach values found
  pub those : seals ≡ filter_map (λ f. f) found
