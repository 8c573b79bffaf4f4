use Rattle.std.proofs.Common.{◌∙◌, ap}
use Rattle.std.specs.Prelude.{◌==◌}
use Rattle.std.specs.Option.{is_some}
use Rattle.validator_core.proofs.TablesLemmas.Found.{some_place}
use Rattle.validator_core.proofs.tables.tables.Tables.is_accepted.Goals as goal

pub returns : goal.returns
returns c = c.is_some.ensures ∙ ap is_some c.place_of.ensures ∙ some_place (λ m. m == c.args.number) c.args.self.now.log.numbers
