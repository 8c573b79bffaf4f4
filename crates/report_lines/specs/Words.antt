-- The words of the lines.
use Rattle.std.specs.Prelude.{ℕ, List, ◌++◌, codes}
use Rattle.std.specs.Fmt.{decimal}
use Rattle.cesr_codes.specs.declared.code_fault.CodeFault.{CodeFault}
use Rattle.cesr_codes.specs.declared.code_fault.CodeFault.TheVariants.{Short, CodeNotHeld, BadCharacter, PadBits, OtherIndex}
use Rattle.cesr_stream.specs.declared.bad.BadReason.{BadReason}
use Rattle.cesr_stream.specs.declared.bad.BadReason.TheVariants as bad
use Rattle.event_body.specs.declared.event_body.body_fault.BodyFault.{BodyFault}
use Rattle.event_body.specs.declared.event_body.body_fault.BodyFault.TheVariants.{Field, SizeField, Said, Prefix, Threshold, Witnesses, TooMany, NumberTooLarge, TooLarge}
use Rattle.journal.specs.declared.journal.reply.Reason.{Reason}
use Rattle.journal.specs.declared.journal.reply.Reason.TheVariants.{Body, Unsigned, WrongGroup, DigestOnly, TooManySigs}
use Rattle.journal.specs.declared.journal.why.Why.{Why}
use Rattle.journal.specs.declared.journal.why.Why.TheVariants.{Predecessor, Signatures, Next, Receipts, Seal, Never}
use Rattle.key_state.specs.declared.state_fault.Misfit.{Misfit}
use Rattle.key_state.specs.declared.state_fault.Misfit.TheVariants.{Sn, Prior, Ended, EstOnly, Kind, WitnessChange}
use Rattle.report_lines.specs.declared.plan_refusal.PlanRefusal.{PlanRefusal}
use Rattle.report_lines.specs.declared.plan_refusal.PlanRefusal.TheVariants.{Line as PlanLine, Log as PlanLog, Body as PlanBody, Misfit as PlanMisfit, Unsigned as PlanUnsigned}
use Rattle.report_lines.specs.declared.standing.Standing.{Standing}
use Rattle.report_lines.specs.declared.standing.Standing.TheVariants.{Live, Superseded}

-- why a body is refused
abbrev pub fault_word : BodyFault → List ℕ
fault_word (Field n) = codes "field " ++ decimal n
fault_word SizeField = codes "size"
fault_word Said = codes "said"
fault_word Prefix = codes "prefix"
fault_word Threshold = codes "threshold"
fault_word Witnesses = codes "witnesses"
fault_word TooMany = codes "many"
fault_word NumberTooLarge = codes "number"
fault_word TooLarge = codes "large"

-- why an event doesn't follow a state
abbrev pub misfit_word : Misfit → List ℕ
misfit_word Sn = codes "sn"
misfit_word Prior = codes "prior"
misfit_word Ended = codes "ended"
misfit_word EstOnly = codes "est-only"
misfit_word Kind = codes "kind"
misfit_word WitnessChange = codes "witness-change"

-- why no message is made of a plan
abbrev pub plan_word : PlanRefusal → List ℕ
plan_word (PlanLine n) = codes "line " ++ decimal n
plan_word PlanLog = codes "log"
plan_word (PlanBody fault) = codes "body " ++ fault_word fault
plan_word (PlanMisfit misfit) = codes "misfit " ++ misfit_word misfit
plan_word PlanUnsigned = codes "unsigned"

-- why a message is refused
abbrev pub reason_word : Reason → List ℕ
reason_word (Body fault) = fault_word fault
reason_word Unsigned = codes "unsigned"
reason_word WrongGroup = codes "group"
reason_word DigestOnly = codes "no-receipts"
reason_word TooManySigs = codes "signatures"

-- why a primitive isn't read
abbrev pub code_word : CodeFault → List ℕ
code_word Short = codes "short"
code_word CodeNotHeld = codes "code"
code_word (BadCharacter place) = codes "character " ++ decimal place
code_word PadBits = codes "pad-bits"
code_word OtherIndex = codes "other-index"

-- why a stream is refused
abbrev pub bad_word : BadReason → List ℕ
bad_word bad.NoStart = codes "no-start"
bad_word bad.Version = codes "version"
bad_word bad.TooLarge = codes "too-large"
bad_word bad.GroupNotSupported = codes "not-supported"
bad_word (bad.Code fault) = code_word fault
bad_word bad.Truncated = codes "truncated"
bad_word bad.WrapLength = codes "wrap-length"
bad_word bad.GroupFirst = codes "group-first"

-- why an event waits
abbrev pub why_word : Why → List ℕ
why_word Predecessor = codes "predecessor"
why_word Signatures = codes "signatures"
why_word Next = codes "next"
why_word Receipts = codes "receipts"
why_word Seal = codes "seal"
why_word Never = codes "never"

-- how an accepted event stands
abbrev pub standing_word : Standing → List ℕ
standing_word Live = codes "live"
standing_word Superseded = codes "superseded"
