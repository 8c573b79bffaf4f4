-- What an event names of those before it (own; private functions alone).
use Rattle.std.specs.Prelude.{ℕ, zero, suc}
use Rattle.cesr_codes.specs.declared.digest.Digest.{Digest}
use Rattle.event_body.specs.EventBody.Events.{said_of}
use Rattle.controller_core.specs.LogMaker.Plans.{blank, first_event, event_at}

-- the first event's digest, behind it
unfoldable pub first_before : ℕ → ℕ → ℕ → Digest
first_before seed log zero = blank
first_before seed log (suc sn) = said_of (first_event seed log)

-- the digest of the event before this sequence number
unfoldable pub prior_before : ℕ → ℕ → ℕ → Digest
prior_before seed log zero = blank
prior_before seed log (suc sn) = said_of (event_at seed log sn)
