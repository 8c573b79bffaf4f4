-- What is true of the tables of a core between two calls, and what becomes of them when an entry comes.
use Rattle.std.specs.Prelude.{◌≡◌, ℕ, ◌≤◌, Bool, true, ◌||◌, List, length, take, slice_get, Some, None, Contains}
use Rattle.std.specs.List.Sorted.{IsStrictlySortedBy}
use Rattle.std.specs.Ordering.{nat_cmp}
use Rattle.keri_outside.specs.declared.limits.Limits.{Limits}
use Rattle.validator_core.specs.Acceptance.ReadyRuns.{AcceptsReady}
use Rattle.validator_core.specs.Acceptance.Standing.{Comes, Hears, AreSoundTables, told_of}
use Rattle.claim_table.specs.CoreLaws.Waking.{is_waiting}
use Rattle.claim_table.specs.declared.claim_table.signature.Signature.{Signature}
use Rattle.validator_core.specs.Tables.View.{View, log_of, with_claims}
use Rattle.event_body.specs.EventBody.Events.{said_of}
use Rattle.journal.specs.declared.journal.body.Body.{Body}
use Rattle.journal.specs.declared.journal.entry.Entry.{Entry}
use Rattle.journal.specs.declared.journal.mode.Mode.{Mode}
use Rattle.journal.specs.Journal.Accepted.{accepted}
use Rattle.journal.specs.Journal.History.{is_receipt_for}
use Rattle.journal.specs.Journal.Journals.{InOrder}
use Rattle.journal.specs.Journal.Logs.{same_body}
use Rattle.journal.specs.Journal.Questions.{IsRegular}
use Rattle.journal.specs.Journal.Replies.{IsWithin}
use Rattle.validator_core.specs.declared.validator_core.tally.Tally.{Tally}
use Rattle.validator_core.specs.ValidatorCore.Looks.{waits_with}
use Rattle.validator_core.specs.ValidatorCore.Tally.{IsTally}
use Rattle.validator_core.specs.ValidatorCore.View.{bytes_of}

-- the bodies that were there from the start
abbrev pub base_in : ℕ → View → List Body
base_in base v = take base v.held

-- The tables stand, no verdict may be taken back, and all accepted events have left the escrow. The bodies stand in order, the
-- accepted events are those of the definition, each verdict was given to an open question, and the tally counts.
pub record IsCore (mode : Mode) (limits : Limits) (base : ℕ) (v : View) (tally : Tally) : Type 0 where
  pub sound : AreSoundTables v
  pub idle : v.claims.pending ≡ None
  pub left : v.released ≡ length v.log.numbers
  pub based : base ≤ length v.held
  pub in_order : InOrder base v.held v.entries
  pub log_is : log_of v ≡ accepted mode (base_in base v) (told_of v)
  pub regular : IsRegular mode (base_in base v) (told_of v)
  pub tallied : IsTally tally (base_in base v) (told_of v)
  pub within : bytes_of (base_in base v) ≤ limits.body_bytes → IsWithin limits (base_in base v) (told_of v)

-- the numbers of the waiting events that an entry of the body of a number names: its own, and of a receipt those that it is for
abbrev pub HaveNumbers : View → ℕ → List ℕ → Type 0
HaveNumbers v number due = (m n : ℕ) (c b : Body) → m ≡ number → slice_get v.held m ≡ Some c → slice_get v.held n ≡ Some b
    → is_waiting (log_of v) b ≡ true → (same_body c b || is_receipt_for c b) ≡ true → Contains due n

-- and no others: each is the number of an event that waits with the digest that the body names, and stands there once
pub record HaveNoOthers (v : View) (number : ℕ) (due : List ℕ) : Type 0 where
  pub rising : IsStrictlySortedBy nat_cmp due
  pub waits : (c : Body) (n : ℕ) → slice_get v.held number ≡ Some c → Contains due n
      → (b : Body) × (slice_get v.held n ≡ Some b) × (waits_with (log_of v) (said_of c.event) b ≡ true)

-- all that is ready is accepted, and the first candidates are the waiting events that an entry of the body of a number names
pub record AcceptsFrom (mode : Mode) (number : ℕ) (old new : View) (steps steps_then : ℕ) : Type 0 where
  pub due : List ℕ
  pub named : HaveNumbers old number due
  pub no_others : HaveNoOthers old number due
  pub ready : AcceptsReady mode due old new steps steps_then

-- some bodies and an entry come, and what they make ready is accepted
pub record BringsEntry (mode : Mode) (number : ℕ) (more : List Body) (e : Entry) (old new : View) (steps steps_then : ℕ) : Type 0 where
  pub between : View
  pub comes : Comes more e old between
  pub accepts : AcceptsFrom mode number between new steps steps_then

-- and all accepted events have left the escrow
pub record AddsEntry (mode : Mode) (number : ℕ) (more : List Body) (e : Entry) (old new : View) (steps steps_then : ℕ) : Type 0 where
  pub before : View
  pub brings : BringsEntry mode number more e old before steps steps_then
  pub new_is : new ≡ record before { released = length before.log.numbers }

-- a verdict on a signature comes for good, what it makes ready is accepted, and all accepted events have left the escrow
pub record AddsVerdict (mode : Mode) (s : Signature) (verdict : Bool) (reader : ℕ) (old new : View) (steps steps_then : ℕ) : Type 0 where
  pub between : View
  pub hears : Hears s verdict reader old between
  pub before : View
  pub accepts : AcceptsFrom mode s.body between before steps steps_then
  pub new_is : new ≡ with_claims (record { rows = before.claims.rows; pending = None }) (record before { released = length before.log.numbers })
