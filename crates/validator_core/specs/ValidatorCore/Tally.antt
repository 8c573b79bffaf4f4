-- How much was taken, and whether there is room for more.
use Rattle.std.specs.Prelude.{◌≡◌, ℕ, ◌+◌, Bool, ◌||◌, nat_le, nat_lt, List, length, flat_map}
use Rattle.keri_outside.specs.declared.limits.Limits.{Limits}
use Rattle.journal.specs.declared.journal.body.Body.{Body}
use Rattle.journal.specs.Journal.History.{Told, taken, bodies}
use Rattle.journal.specs.Journal.Replies.{all_claims}
use Rattle.validator_core.specs.declared.validator_core.tally.Tally.{Tally}
use Rattle.validator_core.specs.ValidatorCore.View.{bytes_of}

-- the tally counts what was taken
pub record IsTally (tally : Tally) (base : List Body) (told : List Told) : Type 0 where
  pub messages : tally.messages ≡ length (flat_map taken told)
  pub body_bytes : tally.body_bytes ≡ bytes_of (bodies base told)
  pub signatures : tally.signatures ≡ length (flat_map all_claims told)

-- there is no room for one message more with so many claims
abbrev pub is_spent : Limits → Tally → ℕ → Bool
is_spent limits tally claims = nat_le limits.messages tally.messages || nat_lt limits.signatures (tally.signatures + claims)

-- there is no room for so many bytes of a new body
abbrev pub is_crowded : Limits → Tally → ℕ → Bool
is_crowded limits tally bytes = nat_lt limits.body_bytes (tally.body_bytes + bytes)

-- the tally with one message more, with so many bytes of a new body and so many claims
abbrev pub tally_with : Tally → ℕ → ℕ → Tally
tally_with tally bytes claims = record {
  messages = tally.messages + 1;
  body_bytes = tally.body_bytes + bytes;
  signatures = tally.signatures + claims;
}
