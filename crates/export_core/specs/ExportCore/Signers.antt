-- Who signs an event, and its witnesses.
use Rattle.std.specs.Prelude.{List, [], Option, Some, None}
use Rattle.cesr_codes.specs.declared.key.Key.{Key}
use Rattle.event_body.specs.declared.event_body.event.Event.{Event}
use Rattle.event_body.specs.declared.event_body.event.Event.TheVariants.{Icp, Rot, Ixn, Dip, Drt, Rct}
use Rattle.key_state.specs.Exposure.{Rules}
use Rattle.key_state.specs.KeyStates.{list_behind}
use Rattle.sith.specs.declared.threshold.Threshold.TheVariants.{Count}
use Rattle.export_core.specs.declared.export_core.signers.Signers.{Signers}

-- the keys and the witnesses of rules
abbrev pub signers_of : Rules → Signers
signers_of rules = record { keys = rules.keys; witnesses = rules.witnesses }

-- rules with these keys and witnesses; keys of claims don't depend on the rest
abbrev pub rules_by : Signers → Rules
rules_by s = record { keys = s.keys; kt = Count 1; witnesses = s.witnesses; toad = 0 }

-- none where no event came
abbrev pub signers_in : Option Signers → Signers
signers_in None = record { keys = []; witnesses = [] }
signers_in (Some s) = s

-- the keys behind an event: its own, or the same (k)
abbrev pub keys_behind : List Key → Event → List Key
keys_behind before (Icp e) = e.keys
keys_behind before (Dip e) = e.keys
keys_behind before (Rot e) = e.keys
keys_behind before (Drt e) = e.keys
keys_behind before (Ixn e) = before
keys_behind before (Rct e) = before

-- those of an event behind others
abbrev pub own_signers : Signers → Event → Signers
own_signers s e = record { keys = keys_behind s.keys e; witnesses = list_behind s.witnesses e }
