-- How many events that wait a call looks at: those with the digest that is named, and those behind what the call accepts.
use Rattle.std.specs.Prelude.{◌≡◌, ℕ, ◌+◌, ◌≤◌, Bool, ◌&&◌, ◌||◌, List, length, drop, count_by, slice_get, Some}
use Rattle.std.specs.List.{list_any}
use Rattle.validator_core.specs.Acceptance.ReadyRuns.{counted_on}
use Rattle.claim_table.specs.CoreLaws.Standing.{HasNoClash}
use Rattle.claim_table.specs.CoreLaws.Waking.{is_waiting}
use Rattle.cesr_codes.specs.declared.digest.Digest.{Digest}
use Rattle.event_body.specs.EventBody.Events.{said_of}
use Rattle.journal.specs.declared.journal.body.Body.{Body}
use Rattle.journal.specs.declared.journal.question.Noted.{Noted}
use Rattle.journal.specs.declared.journal.question.Noted.TheVariants.{New, Known, Unasked}
use Rattle.journal.specs.declared.journal.question.Question.{Question}
use Rattle.journal.specs.declared.journal.reply.Reply.{Reply}
use Rattle.journal.specs.declared.journal.reply.Reply.TheVariants.{Taken, Again, Refused, LimitReached}
use Rattle.journal.specs.Journal.Logs.{precedes}
use Rattle.journal.specs.Journal.Seals.{seals}
use Rattle.key_state.specs.Same.{same_digest}
use Rattle.validator_core.specs.ValidatorCore.View.{CoreView, accepted_by}

-- the body is an event that isn't in the list, and has the digest (KERI, the field d)
abbrev pub waits_with : List Body → Digest → Body → Bool
waits_with log said b = is_waiting log b && same_digest (said_of b.event) said

-- the body is an event that isn't in the list, and one of the further events stands right before it (KERI, the field p) or
-- holds its event seal
abbrev pub waits_behind : List Body → List Body → Body → Bool
waits_behind log more b = is_waiting log b && list_any (λ c. precedes b c || seals c.event b.event) more

-- so many of the held bodies wait with the digest, and so many behind what the second list has more than the first
abbrev pub most_looks : List Body → List Body → List Body → Digest → ℕ
most_looks held before after said =
    count_by (waits_with before said) held + count_by (waits_behind before (drop (length before) after)) held

-- The call counts its looks on, a step for each. Where no two different accepted events have one identifier, number and digest,
-- it adds at most as many steps as events waited with the digest and behind what it accepted.
pub record LooksAtFew (old : CoreView) (said : Digest) (new : CoreView) (steps steps_then : ℕ) : Type 0 where
  pub looks : ℕ
  pub counted : steps_then ≡ counted_on steps looks
  pub few : HasNoClash (accepted_by new)
      → steps_then ≤ steps + most_looks new.held (accepted_by old) (accepted_by new) said

-- by the reply to a body, which names its digest (a receipt that of the event it speaks of): where nothing is told, nothing is
-- looked at
abbrev pub LooksByReply : CoreView → Body → Reply → CoreView → ℕ → ℕ → Type 0
LooksByReply old b Taken new steps steps_then = LooksAtFew old (said_of b.event) new steps steps_then
LooksByReply old b Again new steps steps_then = LooksAtFew old (said_of b.event) new steps steps_then
LooksByReply old b LimitReached new steps steps_then = steps_then ≡ steps
LooksByReply old b (Refused reason) new steps steps_then = steps_then ≡ steps

-- by what becomes of a verdict on a question, which names the digest of its body
abbrev pub LooksByVerdict : CoreView → Question → Noted → CoreView → ℕ → ℕ → Type 0
LooksByVerdict old q New new steps steps_then = (b : Body) → slice_get old.held q.body ≡ Some b
    → LooksAtFew old (said_of b.event) new steps steps_then
LooksByVerdict old q Known new steps steps_then = steps_then ≡ steps
LooksByVerdict old q Unasked new steps steps_then = steps_then ≡ steps
