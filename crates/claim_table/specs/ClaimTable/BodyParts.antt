-- Parts of bodies.
use Rattle.std.specs.Prelude.{ℕ}
use Rattle.claim_table.specs.declared.claim_table.part.Part.{Part}

-- a part of the body of a number
pub record BodyPart : Type 0 where
  pub body : ℕ
  pub part : Part
