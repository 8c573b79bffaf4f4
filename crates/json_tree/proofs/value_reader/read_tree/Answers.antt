use Rattle.std.proofs.Common.{◌≡◌, ◌-◌, length, sym, ap, ◌∙◌, length-append, arith}
use Rattle.json_tree.specs.Spelling.{spelling}
use Rattle.json_tree.proofs.Unique.{unique, longest_value}
use Rattle.json_tree.proofs.value_reader.read_tree.Goals as goal

pub returns-clause-longest : goal.returns-clause-longest
returns-clause-longest c = λ tree rest json e.
    let read = c.in_ok-tree.ensures.some in
    let longest = longest_value tree _ rest _ json read.fits.0 read.longest (sym e ∙ read.whole) in
    omega (arith, longest, ap length e, length-append (spelling tree) rest)

pub returns-clause-only : goal.returns-clause-only
returns-clause-only c = λ tree rest fits ends e.
    let read = c.in_ok-tree.ensures.some in
    let same = unique c.args.depth tree _ rest _ fits read.fits ends read.longest (sym e ∙ read.whole) in
    let behind = ap length same.1 in
    let count : length c.args.bytes.now - length c.in_ok-tree.rest.now ≡ length (spelling tree) = omega (arith, behind, ap length e, length-append (spelling tree) rest) in
    ap (λ t. (t, length c.args.bytes.now - length c.in_ok-tree.rest.now)) (sym same.0) ∙ ap (λ n. (tree, n)) count
