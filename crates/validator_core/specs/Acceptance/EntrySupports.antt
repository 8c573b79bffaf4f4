-- What the claims on an event by some entries say of one index, or of one place of a commitment.
use Rattle.std.specs.Prelude.{ℕ, Bool, List, slice_get}
use Rattle.std.specs.List.{list_any}
use Rattle.std.specs.Option.{option_copied}
use Rattle.journal.specs.declared.journal.claim.Claim.{Claim}
use Rattle.validator_core.specs.declared.acceptance.entry_support.EntrySupport.{EntrySupport}
use Rattle.validator_core.specs.Acceptance.Entries.{claims_there, is_opened_at, is_signed_at}

-- the claims on the event that came by an entry
abbrev pub claims_in : EntrySupport → ℕ → List Claim
claims_in s entry = claims_there s.tables.now (slice_get s.tables.now.held s.number) entry

-- a good signature among them has the index
abbrev pub is_signed_in : EntrySupport → ℕ → ℕ → Bool
is_signed_in s index entry =
    list_any (is_signed_at s.tables.now.claims.rows s.number (option_copied s.state) s.event.now index) (claims_in s entry)

-- a good signature among them opens the commitment at the place
abbrev pub is_opened_in : EntrySupport → ℕ → ℕ → Bool
is_opened_in s place entry =
    list_any (is_opened_at s.tables.now.claims.rows s.number (option_copied s.state) s.event.now place) (claims_in s entry)
