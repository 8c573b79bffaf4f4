-- The witnesses of an event, as they are found without memory for a list of them.
use Rattle.std.specs.Prelude.{List}
use Rattle.cesr_codes.specs.declared.key.Key.{Key}
use Rattle.journal.specs.declared.event_rules.witness_list.WitnessList.{WitnessList}
use Rattle.journal.specs.declared.event_rules.witness_list.WitnessList.TheVariants.{Listed, Changed}
use Rattle.key_state.specs.KeyStates.{changed_list}

-- those that are listed, or an older list without those that a rotation cuts, with those that it adds behind it
abbrev pub members : WitnessList → List Key
members (Listed keys) = keys.now
members (Changed old event) = changed_list old.now event.now
