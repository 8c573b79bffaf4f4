-- What the fields of a core stand for.
use Rattle.validator_core.specs.declared.validator_core.validator.Core.TheInside.{Inside}
use Rattle.validator_core.specs.ValidatorCore.Tables.{IsCore}
use Rattle.validator_core.specs.ValidatorCore.View.{CoreView}

abbrev pub core_of : Inside → CoreView
core_of c = record {
  mode = c.mode;
  limits = c.limits;
  base = c.base;
  held = c.tables.held;
  entries = c.tables.entries;
  accepted = c.tables.log.numbers;
}

abbrev pub is_core : Inside → Type 0
is_core c = IsCore c.mode c.limits c.base c.tables c.tally
