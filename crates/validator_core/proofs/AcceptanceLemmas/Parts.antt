-- What the rows of a table add up to of an event that stands on the current state, or is an inception.
use Rattle.std.proofs.Common.{◌≡◌, ℕ, true, Bool, List, Option, Some, None, ◌∙◌, ap, inl, inr}
use Rattle.std.specs.Prelude.{slice_get, IfSome}
use Rattle.event_body.specs.EventBody.Events.{prefix_of}
use Rattle.event_body.specs.declared.event_body.event.Event.{Event}
use Rattle.key_state.specs.Exposure.{own_rules}
use Rattle.key_state.specs.Kept.{IsKept}
use Rattle.key_state.specs.Same.{are_witnesses}
use Rattle.key_state.specs.States.{State, IsState}
use Rattle.journal.specs.declared.journal.body.Body.{Body}
use Rattle.journal.specs.Journal.Logs.{state, takes}
use Rattle.journal.specs.Journal.History.{Told}
use Rattle.journal.specs.Journal.Questions.{state_before}
use Rattle.journal.specs.EventRules.Parts.{Part, supports}
use Rattle.claim_table.specs.CoreLaws.Standing.{AreAlikeIf}
use Rattle.claim_table.specs.CoreLaws.Support.{AreSound}
use Rattle.claim_table.proofs.CoreLawsLemmas.Adding.{alike_same, inception_same}
use Rattle.claim_table.proofs.CoreLawsLemmas.Alike.{own_rules-alike}
use Rattle.claim_table.proofs.CoreLawsLemmas.Sound.{sound}
use Rattle.claim_table.proofs.CoreLawsLemmas.Supported.{supported}
use Rattle.validator_core.specs.Tables.View.{View, log_of}
use Rattle.validator_core.specs.Acceptance.Parts.{has_in, table_part}
use Rattle.validator_core.specs.Acceptance.Standing.{AreSoundTables, told_of}
use Rattle.validator_core.proofs.AcceptanceLemmas.ReadyRows.{first_once, part_is}
use Rattle.validator_core.specs.Acceptance.Current.{IsOnCurrent}

-- states that are alike ask the same, and give the same parts
rules_alike : (o p : Option State) → AreAlikeIf o p → (e : Event) → own_rules o e ≡ own_rules p e
rules_alike None p alike e = absurd alike
rules_alike (Some s) None alike e = absurd alike
rules_alike (Some s) (Some t) alike e = own_rules-alike s t alike e

parts_alike : (told : List Told) (o p : Option State) (b : Body) → AreAlikeIf o p → (part : Part) → supports told o b part ≡ supports told p b part
parts_alike told None p b alike part = absurd alike
parts_alike told (Some s) None b alike part = absurd alike
parts_alike told (Some s) (Some t) b alike part = alike_same told s t b part alike

-- the parts are those that support the body under the current state, whose rules are sound
pub record IsSupport (told : List Told) (log : List Body) (b : Body) (has : Part → Bool) : Type 0 where
  pub sound : AreSound (own_rules (state log (prefix_of b.event)) b.event)
  pub parts : (p : Part) → has p ≡ supports told (state log (prefix_of b.event)) b p

-- ROWS: such are those of the rows
module _ (v : View) (is : AreSoundTables v) (n : ℕ) (b : Body) (at : slice_get v.held n ≡ Some b) (kept : IsKept b.event)
    (state_is : IfSome (state (log_of v) (prefix_of b.event)) IsState) (taken : takes (state (log_of v) (prefix_of b.event)) b.event ≡ true) where
  abbrev before : Option State
  before = state_before (log_of v) b

  abbrev now : Option State
  now = state (log_of v) (prefix_of b.event)

  sound_now : AreSound (own_rules now b.event)
  sound_now = sound now b.event kept state_is taken

  pub rows_support : IsOnCurrent (log_of v) b → IsSupport (told_of v) (log_of v) b (has_in v.claims.rows n)
  rows_support on = record {
    sound = sound_now;
    parts = λ p. supported (told_of v) (log_of v) v.held v.claims.rows is.claims n b at on.up once (table_part p)
        ∙ ap (supports (told_of v) before b) (part_is p) ∙ same p;
  }
    where
      once : are_witnesses (own_rules before b.event).witnesses ≡ true
      once = elim on.is [
        | inl first ↦ first_once before b.event first kept
        | inr alike ↦ ap (λ r. are_witnesses r.witnesses) (rules_alike before now alike b.event) ∙ sound_now.witnesses
      ]

      same : (p : Part) → supports (told_of v) before b p ≡ supports (told_of v) now b p
      same p = elim on.is [
        | inl first ↦ inception_same (told_of v) before now b p first
        | inr alike ↦ parts_alike (told_of v) before now b alike p
      ]

  pub other_support : (has : Part → Bool) → ((p : Part) → has p ≡ supports (told_of v) now b p) → IsSupport (told_of v) (log_of v) b has
  other_support has parts = record { sound = sound_now; parts = parts }
