use Rattle.std.proofs.Common.{◌≢◌, ℕ, ◌<◌, List, [], ◌∷◌, ◌++◌, get_or, arith}
use Rattle.event_body.specs.declared.body_fields.kind.Kind.{Kind}
use Rattle.event_body.specs.declared.body_fields.kind.Kind.TheVariants.{Icp, Rot, Ixn, Dip, Drt, Rct}
use Rattle.event_body.specs.BodyFields.Bodies.{kind_text}
use Rattle.event_body.proofs.body_fields.front.kind.Goals as goal

kinds : List Kind
kinds = Icp ∷ Rot ∷ Ixn ∷ Dip ∷ Drt ∷ Rct ∷ []

-- where none of the list stands, no kind does
no_kind : (bytes : List ℕ) → ((i : ℕ) (rest : List ℕ) → i < 6 → bytes ≢ kind_text (get_or kinds i Icp) ++ rest) → (kind : Kind) (rest : List ℕ) → bytes ≢ kind_text kind ++ rest
unfolding kinds
no_kind bytes none Icp rest = none 0 rest (omega arith)
no_kind bytes none Rot rest = none 1 rest (omega arith)
no_kind bytes none Ixn rest = none 2 rest (omega arith)
no_kind bytes none Dip rest = none 3 rest (omega arith)
no_kind bytes none Drt rest = none 4 rest (omega arith)
no_kind bytes none Rct rest = none 5 rest (omega arith)

pub returns-clause-none : goal.returns-clause-none
unfolding kinds
returns-clause-none c = no_kind c.args.bytes.now (λ i rest lt. c.loop-kind.invariant i rest (omega (arith, c.loop-kind-test.false)))
