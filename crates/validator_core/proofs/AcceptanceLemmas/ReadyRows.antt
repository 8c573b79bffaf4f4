-- The rows of a table tell whether a body is ready.
use Rattle.std.proofs.Common.{◌≡◌, ℕ, true, false, ◌&&◌, not, List, Option, Some, refl, sym, ◌∙◌, ap, subst}
use Rattle.std.specs.Prelude.{slice_get, IfSome}
use Rattle.std.proofs.Math.Bool.{and-false}
use Rattle.event_body.specs.EventBody.Events.{prefix_of, is_inception, is_receipt}
use Rattle.event_body.specs.declared.event_body.event.Event.{Event}
use Rattle.event_body.specs.declared.event_body.event.Event.TheVariants.{Icp, Rot, Ixn, Dip, Drt, Rct}
use Rattle.key_state.specs.Exposure.{own_rules}
use Rattle.key_state.specs.Kept.{IsKept}
use Rattle.key_state.specs.Same.{are_witnesses}
use Rattle.key_state.specs.States.{State, IsState}
use Rattle.journal.specs.declared.journal.body.Body.{Body}
use Rattle.journal.specs.declared.journal.mode.Mode.{Mode}
use Rattle.journal.specs.Journal.Logs.{is_in, stands, state, takes}
use Rattle.journal.specs.Journal.History.{Told}
use Rattle.journal.specs.Journal.Questions.{state_before}
use Rattle.journal.specs.Journal.Readiness.{is_ready}
use Rattle.journal.specs.EventRules.Parts.{Part, index, reveal, backer, supports}
use Rattle.claim_table.specs.CoreLaws.Standing.{AreAlikeIf}
use Rattle.claim_table.specs.CoreLaws.Support.{ready_by}
use Rattle.claim_table.proofs.CoreLawsLemmas.Sound.{sound}
use Rattle.claim_table.proofs.CoreLawsLemmas.Standing.{inception_ready, standing_ready}
use Rattle.validator_core.specs.Tables.AcceptedLog.Cuts.{cut}
use Rattle.claim_table.specs.declared.claim_table.row.Row.{Row}
use Rattle.claim_table.specs.CoreLaws.ClaimRows.{AreClaims, part_of}
use Rattle.claim_table.proofs.CoreLawsLemmas.Supported.{supported}
use Rattle.validator_core.specs.Acceptance.Parts.{has_in, table_part}
use Rattle.validator_core.proofs.AcceptanceLemmas.Behind.{rules_cut}

pub part_is : (p : Part) → part_of (table_part p) ≡ p
part_is (index n) = refl
part_is (reveal n) = refl
part_is (backer n) = refl

-- an inception stands always, and its own witnesses stand once
pub first_stands : (log : List Body) (b : Body) → is_inception b.event ≡ true → stands log b ≡ true
unfolding stands
first_stands log b first = rw first refl

pub first_once : (o : Option State) (e : Event) → is_inception e ≡ true → IsKept e → are_witnesses (own_rules o e).witnesses ≡ true
first_once o (Icp e) first kept = kept.witnesses
first_once o (Dip e) first kept = kept.witnesses
first_once o (Rot e) first kept = cc
first_once o (Ixn e) first kept = cc
first_once o (Drt e) first kept = cc
first_once o (Rct e) first kept = cc

-- what the current state doesn't take isn't ready
pub untaken : (mode : Mode) (told : List Told) (log : List Body) (b : Body) → takes (state log (prefix_of b.event)) b.event ≡ false → is_ready mode told log b ≡ false
unfolding is_ready
untaken mode told log b not_taken = rw not_taken (and-false (not (is_receipt b.event) && not (is_in log b)))

module _ (mode : Mode) (told : List Told) (log held : List Body) (rows : List Row) (are : AreClaims told log held rows) (n : ℕ) (b : Body) (at : slice_get held n ≡ Some b)
    (kept : IsKept b.event) (state_is : IfSome (state log (prefix_of b.event)) IsState) where
  same_parts : stands log b ≡ true → are_witnesses (own_rules (state_before log b) b.event).witnesses ≡ true → (p : Part) → has_in rows n p ≡ supports told (state_before log b) b p
  same_parts up once p = supported told log held rows are n b at up once (table_part p) ∙ ap (supports told (state_before log b) b) (part_is p)

  -- READY, where the event stands on the current state, and that takes it
  pub ready_alike : (k : ℕ) (s : State) → state_before log b ≡ Some (cut k s) → state log (prefix_of b.event) ≡ Some s → stands log b ≡ true → takes (state log (prefix_of b.event)) b.event ≡ true
      → is_ready mode told log b ≡ ready_by mode (has_in rows n) log b
  ready_alike k s before now up taken =
      let is_sound = sound (state log (prefix_of b.event)) b.event kept state_is taken in
      let once : are_witnesses (own_rules (state_before log b) b.event).witnesses ≡ true =
      ap (λ o. are_witnesses (own_rules o b.event).witnesses) before ∙ ap (λ r. are_witnesses r.witnesses) (rules_cut k s b.event)
      ∙ ap (λ o. are_witnesses (own_rules o b.event).witnesses) (sym now) ∙ is_sound.witnesses in
      let alike : AreAlikeIf (state_before log b) (state log (prefix_of b.event)) =
      subst (λ o. AreAlikeIf o (state log (prefix_of b.event))) (sym before) (subst (λ o. AreAlikeIf (Some (cut k s)) o) (sym now) refl) in
      standing_ready mode told log b (has_in rows n) alike is_sound (same_parts up once)

  -- and an inception
  pub ready_first : is_inception b.event ≡ true → takes (state log (prefix_of b.event)) b.event ≡ true → is_ready mode told log b ≡ ready_by mode (has_in rows n) log b
  ready_first first taken =
      inception_ready mode told log b (has_in rows n) first (sound (state log (prefix_of b.event)) b.event kept state_is taken)
      (same_parts (first_stands log b first) (first_once (state_before log b) b.event first kept))
