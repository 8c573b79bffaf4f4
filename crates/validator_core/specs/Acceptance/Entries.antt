-- The claims on a body, entry by entry, and the verdicts of a table on them.
use Rattle.std.specs.Prelude.{ℕ, Bool, false, ◌==◌, List, [], flat_map, slice_get, Option, Some, None}
use Rattle.cesr_codes.specs.declared.key.Key.{Key}
use Rattle.cesr_codes.specs.declared.sig.Sig.{Sig}
use Rattle.event_body.specs.declared.event_body.event.Event.{Event}
use Rattle.journal.specs.EventRules.Claims.{is_held_so}
use Rattle.journal.specs.EventRules.Parts.{opens_at}
use Rattle.key_state.specs.Exposure.{own_rules}
use Rattle.key_state.specs.States.{State}
use Rattle.claim_table.specs.declared.claim_table.row.Row.{Row}
use Rattle.claim_table.specs.ClaimTable.Rows.{is_yes, verdict_of}
use Rattle.validator_core.specs.Tables.Raised.{claims_at}
use Rattle.validator_core.specs.Tables.View.{View}
use Rattle.journal.specs.declared.journal.body.Body.{Body}
use Rattle.journal.specs.declared.journal.claim.Claim.{Claim}

-- the verdict on a signature on the body of a number is yes
abbrev pub says_in : List Row → ℕ → Key → Sig → Bool
says_in rows n key sig = is_yes (verdict_of rows (record { body = n; key = key; sig = sig }))

-- a claim on an event behind a state is a signature of the controller with a yes, and has the index, or opens the commitment at
-- the place
abbrev pub is_signed_at : List Row → ℕ → Option State → Event → ℕ → Claim → Bool
is_signed_at rows n s e index = is_held_so (says_in rows n) (own_rules s e) (λ g. g.index == index)

abbrev pub is_opened_at : List Row → ℕ → Option State → Event → ℕ → Claim → Bool
is_opened_at rows n s e place = is_held_so (says_in rows n) (own_rules s e) (opens_at s e place)

-- the signature is raised, and its verdict is yes
abbrev pub yes_of : Option (Option Bool) → Bool
yes_of None = false
yes_of (Some verdict) = is_yes verdict

-- the claims of an entry that stand on a body
abbrev pub claims_there : View → Option Body → ℕ → List Claim
claims_there v None i = []
claims_there v (Some b) i = claims_at v.held b (slice_get v.entries i)

-- those of some entries on the body of a number
abbrev pub claims_of : View → List ℕ → ℕ → List Claim
claims_of v entries n = flat_map (claims_there v (slice_get v.held n)) entries
