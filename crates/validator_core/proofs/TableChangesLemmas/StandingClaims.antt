-- The claims on an event are found behind what it stands on.
use Rattle.std.proofs.Common.{◌≡◌, ℕ, true, false, List, [], Option, Some, None, option_map, sym, ◌∙◌, ap, subst, if◌then◌else◌}
use Rattle.std.specs.Prelude.{IfSome}
use Rattle.validator_core.specs.declared.acceptance.footing.Footing.{Footing}
use Rattle.validator_core.specs.declared.acceptance.footing.Footing.TheVariants.{Inception, Behind}
use Rattle.validator_core.specs.Acceptance.Footing.{IsFooting}
use Rattle.validator_core.proofs.AcceptanceLemmas.Behind.{found_cut, rules_cut}
use Rattle.validator_core.proofs.AcceptanceLemmas.FoundClaims.{first_has_none}
use Rattle.validator_core.specs.Tables.AcceptedLog.Cuts.{cut}
use Rattle.claim_table.specs.CoreLaws.Claimed.{rows_of}
use Rattle.claim_table.specs.CoreLaws.ClaimRows.{AreFound}
use Rattle.claim_table.specs.declared.claim_table.claimed.Claimed.{Claimed}
use Rattle.validator_core.specs.Tables.Raised.{Raises, state_there}
use Rattle.validator_core.specs.Tables.View.{View, body_of, log_of}
use Rattle.event_body.specs.declared.event_body.event.Event.{Event}
use Rattle.journal.specs.declared.journal.body.Body.{Body}
use Rattle.journal.specs.declared.journal.claim.Claim.{Claim}
use Rattle.journal.specs.Journal.Logs.{stands, state_behind}
use Rattle.journal.specs.Journal.Questions.{state_before}
use Rattle.key_state.specs.Exposure.{own_rules}
use Rattle.key_state.specs.States.{State}
use Rattle.validator_core.specs.TableChanges.Entries.{RaisesFound, place_in}

-- what is found of an event with any bytes is found of the body that it is of
pub of_body : (P : Body → Footing → Type 0) (e : Event) (there : Option Body) → Some e ≡ option_map (λ b. b.event) there → (o : Option Footing) → ((bytes : List ℕ) → IfSome o (λ on. P (body_of bytes e) on))
    → IfSome o (λ on. (b : Body) → there ≡ Some b → P b on)
of_body P e there is None h = tt
of_body P e there is (Some on) h = λ b at.
    let both : Some e ≡ Some b.event = is ∙ ap (option_map (λ c. c.event)) at in
    let one : e ≡ b.event = cc in subst (λ x. P (body_of b.bytes x) on) one (h b.bytes)

module _ (v : View) (n : ℕ) (b : Body) (claims : List Claim) where
  -- claims found behind a state
  abbrev FoundBehind : Option State → List Claimed → Type 0
  FoundBehind s added = AreFound n s b.event (rows_of (own_rules s b.event) claims) added

  -- where the event stands they are found behind the state before it
  where_up : (added : List Claimed) → stands (log_of v) b ≡ true → FoundBehind (state_before (log_of v) b) added
      → AreFound n (state_before (log_of v) b) b.event (if stands (log_of v) b then rows_of (own_rules (state_before (log_of v) b) b.event) claims else []) added
  where_up added up found = subst (λ y. AreFound n (state_before (log_of v) b) b.event (if y then rows_of (own_rules (state_before (log_of v) b) b.event) claims else []) added) (sym up) found

  -- FOUND: raised behind what the event stands on
  pub raises_found : (on : Footing) (w : View) → IsFooting (log_of v) v.log b on → Raises n (state_there (place_in on) v.log.states) b.event claims v w → RaisesFound n b claims v w
  raises_found Inception w is raises =
      let none : state_before (log_of v) b ≡ None = ap (state_behind (log_of v)) (first_has_none (log_of v) b is.is) in
      record { added = raises.added; found = where_up raises.added is.up (subst (λ s. FoundBehind s raises.added) (sym none) raises.found); new_is = raises.new_is }
  raises_found (Behind place) w is raises =
      let h = is.is in
      let here : AreFound n (Some h.state) b.event (rows_of (own_rules (Some h.state) b.event) claims) raises.added = subst (λ s. FoundBehind s raises.added) h.at raises.found in
      let cut_one : AreFound n (Some (cut h.sn h.state)) b.event (rows_of (own_rules (Some h.state) b.event) claims) raises.added = found_cut n h.sn h.state b.event (rows_of (own_rules (Some h.state) b.event) claims) raises.added here in
      let rules_too : FoundBehind (Some (cut h.sn h.state)) raises.added = subst (λ r. AreFound n (Some (cut h.sn h.state)) b.event (rows_of r claims) raises.added) (sym (rules_cut h.sn h.state b.event)) cut_one in
      record { added = raises.added; found = where_up raises.added is.up (subst (λ s. FoundBehind s raises.added) (sym h.before) rules_too); new_is = raises.new_is }

  -- NOWHERE: where it doesn't stand none is
  pub raises_none : (w : View) → stands (log_of v) b ≡ false → w ≡ v → RaisesFound n b claims v w
  raises_none w down same = record {
    added = [];
    found = subst (λ y. AreFound n (state_before (log_of v) b) b.event (if y then rows_of (own_rules (state_before (log_of v) b) b.event) claims else []) []) (sym down) tt;
    new_is = same;
  }
