-- What the calls of a core do to it, as its callers see it.
use Rattle.std.specs.Prelude.{◌≡◌, ℕ, Bool, List, [], ◌∷◌, ◌++◌, slice_get}
use Rattle.claim_table.specs.declared.claim_table.row.Row.{Row}
use Rattle.journal.specs.declared.journal.body.Body.{Body}
use Rattle.journal.specs.declared.journal.claim.Claim.{Claim}
use Rattle.journal.specs.declared.journal.question.Noted.{Noted}
use Rattle.journal.specs.declared.journal.question.Question.{Question}
use Rattle.journal.specs.declared.journal.reply.Reply.{Reply}
use Rattle.journal.specs.declared.journal.reply.Reply.TheVariants.{Taken, Again, Refused, LimitReached}
use Rattle.journal.specs.Journal.History.{Told, took}
use Rattle.journal.specs.Journal.Journals.{AnswersOn}
use Rattle.journal.specs.Journal.Replies.{reply_to}
use Rattle.validator_core.specs.ValidatorCore.View.{CoreView, base_of, told_of, Follows}

-- what is told after this reply to a body
abbrev pub told_then : List Told → ℕ → Body → List Claim → Reply → List Told
told_then told reader b claims Taken = told ++ took reader b claims ∷ []
told_then told reader b claims Again = told ++ took reader b claims ∷ []
told_then told reader b claims LimitReached = told
told_then told reader b claims (Refused reason) = told

-- a body with its claims got this reply
pub record TakesBody (old : CoreView) (reader : ℕ) (b : Body) (claims : List Claim) (reply : Reply) (new : CoreView) : Type 0 where
  pub reply_is : reply ≡ reply_to old.limits (base_of old) (told_of old) b claims
  pub told_is : told_of new ≡ told_then (told_of old) reader b claims reply
  pub follows : Follows old new

-- a verdict was noted so
pub record TakesVerdict (old : CoreView) (reader : ℕ) (q : Question) (verdict : Bool) (noted : Noted) (new : CoreView) : Type 0 where
  pub answers : AnswersOn old.mode (base_of old) (told_of old) reader (slice_get old.held q.body) q verdict noted (told_of new)
  pub follows : Follows old new

-- the question of a row of claims
abbrev pub question_of : Row → Question
question_of r = record { body = r.claimed.body; key = r.claimed.key; sig = r.claimed.sig }
