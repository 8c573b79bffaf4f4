use Rattle.std.specs.Option.{option_copied}
use Rattle.key_state.specs.Exposure.{own_rules}
use Rattle.journal.specs.EventRules.Parts.{index, reveal, backer}
use Rattle.journal.proofs.EventRulesLemmas.Added.{place_is}
use Rattle.journal.proofs.event_rules.additions.Additions.of.Goals as goal

pub returns : goal.returns
returns c once (index n) = c.index_of.ensures n
returns c once (reveal n) = c.revealed_by.ensures n
returns c once (backer n) = place_is (own_rules (option_copied c.args.state) c.args.event.now).witnesses c.args.key.now c.backer_of.result c.backer_of.ensures.found c.backer_of.ensures.none once n
