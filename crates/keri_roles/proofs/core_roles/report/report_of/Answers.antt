use Rattle.std.proofs.Common.{◌≡◌, ◌++◌, map, ◌∙◌, append_assoc, rules, string_bytes}
use Rattle.run_status.specs.RunStatus.Readers.{reader_seen}
use Rattle.keri_roles.specs.CoreRoles.Reports.{refusal_lines, stopped_lines}
use Rattle.keri_roles.proofs.core_roles.report.report_of.Goals as goal

pub returns : goal.returns
returns g c =
    let readers = map (reader_seen g.S.Source.left g.S.Source.faults g.V.Verifier.says g.V.Verifier.inquiries g.V.Verifier.faults) c.args.readers.now in
    let standing = string_bytes c.in_ok-standing.field-0.text in
    let lines : c.into_bytes.result.items ≡ (refusal_lines 0 readers ++ standing) ++ stopped_lines 0 readers = search rules in (
      (search rules, c.in_ok-push_stops.ensures.had_memory),
      record {
        standing = standing;
        stands = search rules;
        text_is = lines ∙ append_assoc (refusal_lines 0 readers) standing (stopped_lines 0 readers);
      },
    )
