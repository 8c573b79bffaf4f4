use Rattle.std.proofs.Common.{rules, is_lt}
use Rattle.std.proofs.lemmas.Result.{on_ok_weaker}
use Rattle.std.proofs.lemmas.List.Sorted.{ranks_by}
use Rattle.std.proofs.lemmas.Fn.{always_returns_same}
use Rattle.report_lines.specs.Report.{body_cmp}
use Rattle.report_lines.specs.Rows.{body_of}
use Rattle.report_lines.proofs.Ordered.{body_cmp_total}
use Rattle.report_lines.proofs.rows.sort_rows.Goals as goal

pub returns-clause-sorted : goal.returns-clause-sorted
returns-clause-sorted c =
    on_ok_weaker c.sort_by.result
    (λ sorted. sorted (λ a b. is_lt (body_cmp (body_of a) (body_of b))) (ranks_by body_cmp_total body_of)
    (always_returns_same _ _ _ (λ a r f k. search rules)))
    c.sort_by.ensures.sorted
