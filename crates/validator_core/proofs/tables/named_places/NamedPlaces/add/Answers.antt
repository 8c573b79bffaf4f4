use Rattle.validator_core.specs.Tables.NamedPlaces.{short_of}
use Rattle.validator_core.proofs.tables.named_places.NamedPlaces.add.Goals as goal

pub returns-clause-kept : goal.returns-clause-kept
returns-clause-kept c = λ q n low has. c.add.ensures.kept (short_of q.said) n low has
