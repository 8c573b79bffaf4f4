use Rattle.std.proofs.Common.{◌≡◌, true, rules}
use Rattle.key_state.specs.Same.{same_prefix}
use Rattle.journal_views.proofs.JournalViewsLemmas.Orders.{same_text}
use Rattle.journal_views.proofs.journal_views.places.prefix_order.Goals as goal

pub returns-then-eq : goal.returns-then-eq
returns-then-eq c =
    let same : same_prefix c.args.first c.args.second ≡ true = search (rules, c) in
    same_text c.args.first c.args.second same
