-- The keys of the hints: names of events, seals, and claims on bodies.
use Rattle.std.specs.Prelude.{ℕ, ◌-◌, Option, option_map}
use Rattle.cesr_codes.specs.declared.prefix.Prefix.{Prefix}
use Rattle.event_body.specs.declared.event_body.event.Event.{Event}
use Rattle.event_body.specs.EventBody.Events.{prefix_of, sn_of, said_of, prior_of}
use Rattle.event_backing.specs.declared.event_seal.EventSeal.{EventSeal}
use Rattle.journal.specs.declared.journal.claim.Claim.{Claim}
use Rattle.validator_core.specs.declared.tables.name.Name.{Name}
use Rattle.validator_core.specs.declared.tables.name.SealKey.{SealKey}
use Rattle.validator_core.specs.declared.tables.name.ClaimKey.{ClaimKey}

-- an event's identifier, number and digest, as an event seal names it; of a receipt, those of the event that it speaks of
abbrev pub name_of : Event → Name
name_of e = record { prefix = prefix_of e; sn = sn_of e; said = said_of e }

-- the name of the event before it, where it names one
abbrev pub prior_name : Event → Option Name
prior_name e = option_map (λ p. record { prefix = prefix_of e; sn = sn_of e - 1; said = p }) (prior_of e)

-- the name that an event seal gives
abbrev pub name_in : EventSeal → Name
name_in seal = record { prefix = seal.prefix; sn = seal.sn; said = seal.said }

-- a name that the holder of an identifier sealed
abbrev pub seal_key : Prefix → Name → SealKey
seal_key holder name = record { holder = holder; name = name }

-- a claim that came with the body of a number
abbrev pub claim_key : ℕ → Claim → ClaimKey
claim_key n c = record { body = n; claim = c }
