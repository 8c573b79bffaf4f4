use Rattle.std.proofs.Common.{◌≡◌, ◌∙◌, ◌++◌, List, ℕ, append_assoc, take, drop, sym, subst, arith}
use Rattle.std.proofs.lemmas.List.{take_all}
use Rattle.blake3_hash.specs.Hasher.{HasBytes}
use Rattle.blake3_hash.proofs.Bytes.{take-part}
use Rattle.blake3_hash.proofs.hasher.Hasher.add_last_group.Goals as goal

pub returns-clause-has : goal.returns-clause-has
returns-clause-has c = λ before has.
    let group = c.args.group.now in
    let all : take 7168 group ++ take 1024 (drop 7168 group) ≡ group =
    sym (take-part 1024 group 7 8192 1024 (omega arith) (omega arith)) ∙ take_all 8192 group (omega arith) in
    subst (λ (l : List ℕ). HasBytes c.keep.new.self (before ++ l)) all
    (rw append_assoc at (c.keep.ensures.has (before ++ take 7168 group) (c.add_first.ensures.has before has)))
