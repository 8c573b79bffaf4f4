use Rattle.std.proofs.Common.{ap}
use Rattle.std.specs.List.{list_all}
use Rattle.json_tree.specs.Strings.{is_hex_digit}
use Rattle.json_tree.proofs.StringParts.{four_front}
use Rattle.json_tree.proofs.string.after_four_hex.Goals as goal

pub returns-else-are_hex-clause-none : goal.returns-else-are_hex-clause-none
returns-else-are_hex-clause-none c = λ front more four e.
    let all = four_front _ front more four e in
    let fails = c.if-are_hex.false in
    let digits = c.are_hex.ensures in
    let split = ap (list_all is_hex_digit) c.split_at.ensures.front in
    cc
