-- What is wanting in an event that the current state takes, by the rows of the table, and by its claims.
use Rattle.std.proofs.Common.{◌≡◌, ℕ, true, List, Option, Some, sym, subst}
use Rattle.std.specs.Prelude.{Contains, slice_get, IfSome}
use Rattle.std.specs.List.Sorted.{IsStrictlyIncreasing}
use Rattle.event_body.specs.EventBody.Events.{prefix_of}
use Rattle.key_state.specs.Kept.{IsKept}
use Rattle.key_state.specs.States.{State, IsState}
use Rattle.journal.specs.declared.journal.body.Body.{Body}
use Rattle.journal.specs.declared.journal.claim.Claim.{Claim}
use Rattle.journal.specs.declared.journal.entry.Entry.TheVariants.{Took}
use Rattle.journal.specs.declared.journal.mode.Mode.{Mode}
use Rattle.journal.specs.Journal.Logs.{state, takes}
use Rattle.journal.specs.Journal.Seals.{anchored}
use Rattle.journal.specs.EventRules.Parts.{Part, parts_by, supports}
use Rattle.claim_table.proofs.CoreLawsLemmas.Sound.{sound}
use Rattle.claim_table.specs.ClaimTable.Rows.{has_yes_by}
use Rattle.validator_core.specs.Tables.Names.{name_of}
use Rattle.validator_core.specs.Tables.View.{View, log_of}
use Rattle.validator_core.specs.Acceptance.Parts.{has_in}
use Rattle.validator_core.specs.Acceptance.Standing.{AreSoundTables, told_of}
use Rattle.validator_core.specs.Acceptance.Current.{IsOnCurrent}
use Rattle.validator_core.specs.Acceptance.Entries.{claims_of, says_in}
use Rattle.validator_core.specs.Acceptance.Wants.{wants, wants_by}
use Rattle.validator_core.proofs.AcceptanceLemmas.Claims.{entries_support}
use Rattle.validator_core.proofs.AcceptanceLemmas.Enough.{wants_are}
use Rattle.validator_core.proofs.AcceptanceLemmas.Parts.{rows_support}

module _ (v : View) (is : AreSoundTables v) (mode : Mode) (n : ℕ) (b : Body) (at : slice_get v.held n ≡ Some b) (kept : IsKept b.event) (s : Option State) (state_is : IfSome s IsState)
    (current : s ≡ state (log_of v) (prefix_of b.event)) (taken : takes s b.event ≡ true) where
  pub rows_wanting : IsOnCurrent (log_of v) b → wants_by mode (has_in v.claims.rows n) s b.event (anchored (log_of v) s b.event) ≡ wants mode (told_of v) (log_of v) s b
  rows_wanting on =
      let now_is = subst (λ o. IfSome o IsState) current state_is in
      let now_taken = subst (λ o. takes o b.event ≡ true) current taken in
      let support = rows_support v is n b at kept now_is now_taken on in
      let has = subst (λ o. (p : Part) → has_in v.claims.rows n p ≡ supports (told_of v) o b p) (sym current) support.parts in
      wants_are mode (told_of v) (log_of v) b s (has_in v.claims.rows n) (sound s b.event kept state_is taken) has

  pub claims_wanting : (entries : List ℕ) → IsStrictlyIncreasing entries
      → ((i reader m : ℕ) (claims : List Claim) (c : Body) → slice_get v.entries i ≡ Some (Took reader m claims) → slice_get v.held m ≡ Some c → name_of c.event ≡ name_of b.event → Contains entries i)
      → wants_by mode (parts_by (says_in v.claims.rows n) (has_yes_by v.claims.rows n) s b.event (claims_of v entries n)) s b.event (anchored (log_of v) s b.event) ≡ wants mode (told_of v) (log_of v) s b
  claims_wanting entries rising all =
      wants_are mode (told_of v) (log_of v) b s (parts_by (says_in v.claims.rows n) (has_yes_by v.claims.rows n) s b.event (claims_of v entries n)) (sound s b.event kept state_is taken)
      (entries_support v is n b at entries rising all s)
