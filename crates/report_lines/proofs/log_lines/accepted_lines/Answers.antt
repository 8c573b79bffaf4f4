use Rattle.std.proofs.Common.{◌++◌, sym, ◌∙◌, ap, subst, append_assoc, append-nil, string_bytes}
use Rattle.std.specs.Prelude.{All, flat_map}
use Rattle.std.proofs.lemmas.List.Elements.{All-head, All-tail}
use Rattle.validator_core.specs.ValidatorCore.View.{accepted_by}
use Rattle.report_lines.specs.Report.{IsListing, log_lines, prefix_cmp, prefixes_of}
use Rattle.report_lines.proofs.LogLines.{IsOwn, each_own, listed, value_lines}
use Rattle.report_lines.proofs.log_lines.accepted_lines.Goals as goal

pub loop-log-init : goal.loop-log-init
loop-log-init c =
    let core = c.args.core.now in
    let log = accepted_by core in
    record {
      lines = ap (λ text. text ++ flat_map (value_lines log) c.into_iter-log-iterator.result) c.new-text.ensures.bytes;
      own = subst (All (IsOwn core.held log)) (sym (c.into_iter-log-iterator.ensures.into_iter_gives ∙ c.values-log-items.ensures.rest))
          (each_own core.held log c.in_ok-logs.logs c.values-log-items.ensures.ordered c.in_ok-logs.ensures);
    }

pub lines_of_log-requires-clause-held : goal.lines_of_log-requires-clause-held
lines_of_log-requires-clause-held c =
    let own = IsOwn c.args.core.now.held (accepted_by c.args.core.now) in
    rw c.as_slice.ensures.value (All-head own c.in-Some.log.now c.next.new.self (subst (All own) c.in-Some.ensures.steps c.loop-log.invariant.own)).0

pub lines_of_log-requires-clause-own : goal.lines_of_log-requires-clause-own
lines_of_log-requires-clause-own c =
    let own = IsOwn c.args.core.now.held (accepted_by c.args.core.now) in
    rw c.as_slice.ensures.value (All-head own c.in-Some.log.now c.next.new.self (subst (All own) c.in-Some.ensures.steps c.loop-log.invariant.own)).1

pub loop-log-preserved : goal.loop-log-preserved
loop-log-preserved c =
    let log = accepted_by c.args.core.now in
    let own = IsOwn c.args.core.now.held log in
    let line = c.as_str.ensures.value ∙ c.in_ok-lines.ensures in
    let left = c.next.new.self in
    record {
      lines = ap (λ text. text ++ flat_map (value_lines log) left) (c.in_ok-push_str.ensures.bytes ∙ ap (λ l. string_bytes c.loop-log.text ++ l) line)
          ∙ append_assoc (string_bytes c.loop-log.text) (value_lines log c.in-Some.log.now) (flat_map (value_lines log) left)
          ∙ ap (λ ls. string_bytes c.loop-log.text ++ flat_map (value_lines log) ls) (sym c.in-Some.ensures.steps)
          ∙ c.loop-log.invariant.lines;
      own = All-tail own c.in-Some.log.now left (subst (All own) c.in-Some.ensures.steps c.loop-log.invariant.own);
    }

pub returns : goal.returns
returns c =
    let core = c.args.core.now in
    let log = accepted_by core in
    let text = sym (append-nil (string_bytes c.loop-log.text))
    ∙ ap (λ ls. string_bytes c.loop-log.text ++ flat_map (value_lines log) ls) (sym c.in-None.ensures.steps.0)
    ∙ c.loop-log.invariant.lines
    ∙ ap (flat_map (value_lines log)) (c.into_iter-log-iterator.ensures.into_iter_gives ∙ c.values-log-items.ensures.rest) in
    subst (IsListing prefix_cmp (log_lines log) (prefixes_of log)) (sym text)
    (listed core.held log c.in_ok-logs.logs c.values-log-items.ensures.ordered c.in_ok-logs.ensures)
