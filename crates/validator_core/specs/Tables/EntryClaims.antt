-- Which claims of an entry stand on the event of a number: those that came with it, and those of its receipts.
use Rattle.std.specs.Prelude.{ℕ, Bool, false, ◌&&◌, ◌||◌, ◌==◌, List, [], slice_get, flat_map, Option, Some, None, if◌then◌else◌}
use Rattle.event_body.specs.declared.event_body.event.Event.{Event}
use Rattle.event_body.specs.EventBody.Events.{prefix_of, sn_of, said_of, is_receipt}
use Rattle.journal.specs.declared.journal.claim.Claim.{Claim}
use Rattle.journal.specs.declared.journal.entry.Entry.{Entry}
use Rattle.journal.specs.declared.journal.entry.Entry.TheVariants.{Took, Heard}
use Rattle.key_state.specs.Same.{same_digest, same_prefix}

-- the first is a receipt for the second: it names its digest, identifier and number (KERI, rct)
abbrev pub is_receipt_of : Option Event → Option Event → Bool
is_receipt_of None e = false
is_receipt_of (Some r) None = false
is_receipt_of (Some r) (Some e) = is_receipt r && same_digest (said_of r) (said_of e) && same_prefix (prefix_of r) (prefix_of e) && (sn_of r == sn_of e)

-- what comes with the event of the first number stands on that of the second: it is that event, or a receipt of it
abbrev pub bears_on : List Event → ℕ → ℕ → Bool
bears_on events m n = (m == n) || is_receipt_of (slice_get events m) (slice_get events n)

-- the claims of an entry that stand on the event of a number
abbrev pub came_to : List Event → ℕ → Option Entry → List Claim
came_to events n None = []
came_to events n (Some (Took reader m claims)) = if bears_on events m n then claims else []
came_to events n (Some (Heard reader m key sig verdict)) = []

-- the claims of the entries of these numbers that stand on it
abbrev pub all_came_to : List Event → ℕ → List Entry → List ℕ → List Claim
all_came_to events n entries numbers = flat_map (λ i. came_to events n (slice_get entries i)) numbers
