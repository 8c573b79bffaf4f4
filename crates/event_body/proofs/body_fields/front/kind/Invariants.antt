use Rattle.std.proofs.Common.{◌≢◌, ℕ, ◌<◌, List, ◌++◌, get_or}
use Rattle.event_body.specs.declared.body_fields.kind.Kind.TheVariants.{Icp}
use Rattle.event_body.specs.BodyFields.Bodies.{kind_text}
use Rattle.event_body.proofs.body_fields.front.kind.Given as goal

-- none of the kinds so far stands there
abbrev pub invariant-loop-kind : goal.invariant-loop-kind
invariant-loop-kind l = (i : ℕ) (rest : List ℕ) → i < l.kind-index → l.bytes ≢ kind_text (get_or l.kind-items i Icp) ++ rest
