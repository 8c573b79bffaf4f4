use Rattle.std.proofs.Common.{sym, ◌∙◌, ap, subst}
use Rattle.std.proofs.lemmas.List.{take_all}
use Rattle.std.specs.Prelude.{flat_map, string_bytes}
use Rattle.report_lines.specs.Report.{IsListing, body_cmp}
use Rattle.report_lines.proofs.Listing.{listing}
use Rattle.report_lines.proofs.rows.ordered_lines.Goals as goal

pub returns : goal.returns
returns c lines bodies are =
    let ordered = c.sort_rows.new.rows.items in
    let all = take_all c.loop-row.row-index c.deref-row-items.result.now c.loop-row-test.false ∙ c.deref-row-items.ensures.value in
    let text = c.loop-row.invariant ∙ ap (flat_map (λ r. string_bytes r.lines)) all in
    subst (IsListing body_cmp lines bodies) (sym text)
    (listing lines bodies c.args.rows.items ordered are c.sort_rows.ensures.members c.in_ok-sort_rows.ensures.sorted)
