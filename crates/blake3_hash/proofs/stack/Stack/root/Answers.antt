use Rattle.std.proofs.Common.{◌≡◌, ◌∙◌, ℕ, ◌+◌, ◌*◌, ◌/◌, sym, ap, arith}
use Rattle.blake3_hash.specs.Stack.{root_flag, tree_from}
use Rattle.blake3_hash.proofs.Halves.{half-more, height_below}
use Rattle.blake3_hash.proofs.Subtrees.{root_flag-some, tree_from-alone, tree_from-next, tree_from-whole}
use Rattle.blake3_hash.proofs.stack.Stack.root.Goals as goal
use Rattle.blake3_hash.proofs.stack.Stack.root.Goals.{then-waits, else-waits}

pub offset_bounds-self-height : goal.offset_bounds-self-height
offset_bounds-self-height c = omega (arith, height_below c.args.self.now.count c.merges.height c.args.self.now.few (omega (arith, c.merges.invariant.halved)))

pub bounds-self-height : goal.bounds-self-height
bounds-self-height c = height_below c.args.self.now.count c.merges.height c.args.self.now.few (omega (arith, c.merges.invariant.halved))

pub merges-preserved : goal.merges-preserved
merges-preserved c =
    let n = c.args.self.now.count in
    let k = c.merges.height in
    let half = c.merges.left / 2 in
    let low = height_below n k c.args.self.now.few (omega (arith, c.merges.invariant.halved)) in
    record {
      high = omega (arith, low);
      halved = half-more n k ∙ ap (λ (x : ℕ). x / 2) c.merges.invariant.halved;
      merged = λ bytes ends has is.
          let value = c.merges.invariant.merged bytes ends has is in
          elim c.if-waits.branch [
            | then-waits w ↦
                let odd : c.merges.left ≡ 2 * half + 1 = omega arith in
                let right : c.merges.value ≡ tree_from k (2 * half + 1) bytes 0 =
                value ∙ ap (λ (m : ℕ). tree_from k m bytes (root_flag m)) odd
                ∙ ap (tree_from k (2 * half + 1) bytes) (root_flag-some (2 * half + 1) (omega arith)) in
                w.value-is ∙ w.parent_value-value.ensures ∙ rw (w.root_flag.ensures, right)
                (tree_from-next c.args.self.now.values n bytes k half (root_flag half) has (c.merges.invariant.halved ∙ odd) ends)
            | else-waits w ↦
                let even : c.merges.left ≡ 2 * half = omega arith in
                let flags : root_flag c.merges.left ≡ root_flag half = root_flag-some c.merges.left (omega arith) ∙ sym (root_flag-some half (omega arith)) in
                w.value-is ∙ value ∙ ap (tree_from k c.merges.left bytes) flags ∙ ap (λ (m : ℕ). tree_from k m bytes (root_flag half)) even
                ∙ tree_from-alone k half bytes (root_flag half)
          ];
    }

pub returns : goal.returns
returns c = λ bytes ends has is.
    let none : c.merges.left ≡ 0 = omega arith in
    let value = c.merges.invariant.merged bytes ends has is in
    value ∙ ap (λ (m : ℕ). tree_from c.merges.height m bytes (root_flag m)) none ∙ tree_from-whole c.merges.height bytes (root_flag 0)
