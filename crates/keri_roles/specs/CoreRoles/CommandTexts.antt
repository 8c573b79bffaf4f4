-- What a command writes of its core and its readers.
use Rattle.std.specs.Prelude.{ℕ, List, Bool}
use Rattle.validator_core.specs.ValidatorCore.View.{CoreView}
use Rattle.run_status.specs.RunStatus.Readers.{Reader}
use Rattle.reader_hub.specs.declared.reader_threads.last_round.LastRound.{LastRound}
use Rattle.keri_roles.specs.CoreRoles.CoreTold.{HadMemory, plain}
use Rattle.keri_roles.specs.declared.core_roles.core_text.CommandText.{CommandText}

-- There was memory, and the text is that of the core and of how the readers ended.
abbrev pub HasText : (CoreView → List Reader → List ℕ → Bool → Type 0) → CoreView → List Reader → LastRound → CommandText → Type 0
HasText is_text core readers rest text = HadMemory rest readers × is_text (plain core) readers text.bytes.items text.is_found
