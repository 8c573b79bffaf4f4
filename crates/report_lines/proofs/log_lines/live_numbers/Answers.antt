use Rattle.std.proofs.Common.{◌<◌, length, sym, ◌∙◌, ap, subst}
use Rattle.std.specs.Prelude.{All}
use Rattle.std.proofs.lemmas.List.{length-map}
use Rattle.journal.specs.Journal.Logs.{live}
use Rattle.validator_core.specs.ValidatorCore.View.{accepted_by}
use Rattle.report_lines.proofs.LiveNumbers.{live-own, marked}
use Rattle.report_lines.proofs.log_lines.live_numbers.Goals as goal

pub returns-clause-those : goal.returns-clause-those
returns-clause-those c =
    let core = c.args.core.now in
    let prefix = c.args.prefix.now in
    let found = c.in_ok-found.found.items in
    let held = subst (λ m. All (λ n. n < m) found) (length-map core.held (λ b. b.event))
    (subst (λ es. All (λ n. n < length es) found) c.events.ensures c.in_ok-found.ensures.held) in
    marked core c.journal-journal.ensures.sound found c.sort_unstable.new.self.items held c.sort_unstable.ensures.permutation (live (accepted_by core) prefix)
    (c.in_ok-found.ensures.live core.held (sym c.events.ensures) ∙ ap (λ bs. live bs prefix) c.requires.own ∙ live-own (accepted_by core) prefix)
