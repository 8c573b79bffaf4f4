use Rattle.std.proofs.Common.{◌≡◌, Bool, List, [], ◌∷◌, ◌||◌, map, refl, sym, ◌∙◌, ap}
use Rattle.std.specs.List.{list_any}
use Rattle.run_status.specs.RunStatus.Readers.{reader_seen}
use Rattle.run_status.specs.RunRecord.Run.{is_out}
use Rattle.witness_core.proofs.witness_role.witness_end.status_closing.Goals as goal

-- whether a test holds of some value that is seen
any-map : {A B : Type 0} (test : B → Bool) (seen : A → B) (xs : List A) → list_any test (map seen xs) ≡ list_any (λ x. test (seen x)) xs
any-map test seen [] = refl
any-map test seen (x ∷ xs) = ap (λ rest. test (seen x) || rest) (any-map test seen xs)

pub returns-then-some_out : goal.returns-then-some_out
returns-then-some_out g c =
    let seen = reader_seen g.O.Source.Source.left g.O.Source.Source.faults g.O.Verifier.Verifier.says g.O.Verifier.Verifier.inquiries g.O.Verifier.Verifier.faults in
    rw (any-map (λ r. is_out r.close) seen c.args.readers.now, sym c.some_out.ensures ∙ c.if-some_out.true) refl

pub returns : goal.returns
returns g c =
    let seen = reader_seen g.O.Source.Source.left g.O.Source.Source.faults g.O.Verifier.Verifier.says g.O.Verifier.Verifier.inquiries g.O.Verifier.Verifier.faults in
    rw (any-map (λ r. is_out r.close) seen c.args.readers.now, sym c.some_out.ensures ∙ c.if-some_out.false) (rw c.nothing.ensures at c.status_by.ensures)
