use Rattle.std.proofs.Common.{◌≡◌, ◌+◌, ◌*◌, ◌^◌, ℕ, arith, subst}
use Rattle.blake3_hash.specs.Stack.{Completes}
use Rattle.blake3_hash.proofs.Subtrees.{HasSubtrees-push}
use Rattle.blake3_hash.proofs.stack.Stack.push.Goals as goal

pub returns-clause-subtrees : goal.returns-clause-subtrees
returns-clause-subtrees c = λ bytes fits has is.
    let count = c.args.self.now.count in
    let done = c.completed-height.ensures in
    let next : (c.args.self.now.count + 1) * 2 ^ 0 ≡ count + 1 = omega arith in
    let completes = subst (λ (m : ℕ). Completes c.completed-height.result.0 count m) next done.completes in
    HasSubtrees-push c.args.self.now.values count (count + 1) bytes _ _ (omega arith) has completes (done.subtree bytes (omega arith) has is)
