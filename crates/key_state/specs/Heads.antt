-- The head of a key state: its last live event.
use Rattle.std.specs.Prelude.{ℕ, ◌+◌, ◌-◌, length, slice_get, Option}
use Rattle.cesr_codes.specs.declared.digest.Digest.{Digest}
use Rattle.key_state.specs.States.{State}

-- its sequence number: that of the last establishment event, and one more for each event since
abbrev pub head_sn : State → ℕ
head_sn s = s.est_sn + (length s.since - 1)

-- its digest
abbrev pub head_said : State → Option Digest
head_said s = slice_get s.since (length s.since - 1)
