use Rattle.std.proofs.Common.{◌≡◌, ℕ, ◌-◌, List, arith, length, take, drop, ap, subst}
use Rattle.std.specs.Prelude.{None, ◌==◌, if◌then◌else◌}
use Rattle.std.specs.List.{list_any}
use Rattle.std.proofs.lemmas.List.{length-drop, take_all}
use Rattle.escrow.specs.Escrow.Escrow.{held}
use Rattle.validator_core.specs.Tables.View.{View}
use Rattle.validator_core.proofs.TablesLemmas.Hints.{hinted_released}
use Rattle.validator_core.proofs.tables.tables.Tables.release.Goals as goal

-- the rest of a list, to its end
rest : (n : ℕ) (xs : List ℕ) → take (length xs - n) (drop n xs) ≡ drop n xs
rest n xs = take_all (length xs - n) (drop n xs) (let short = length-drop n xs in omega (arith, short))

pub invariant_of-self : goal.invariant_of-self
invariant_of-self c =
    let t = c.self.inside in
    let left = rw c.numbers-numbers.ensures at c.leave.ensures in
    rw c.numbers-numbers.ensures (
      c.self.invariant.0,
      c.self.invariant.1,
      hinted_released c.self.invariant.2 c.leave.new.waiting
          (subst (λ ns. (n : ℕ) → held n c.leave.new.waiting ≡ (if list_any (λ m. m == n) ns then None else held n t.waiting)) (rest t.released t.log.numbers) left),
    )

pub returns : goal.returns
returns c = rw c.numbers-numbers.ensures (ap {A = View} (λ v. record v { released = length v.log.numbers }) c.self.view_is)
