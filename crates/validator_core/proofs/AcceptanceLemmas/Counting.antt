-- What the rows add up to of an event that stands tells whether it counts.
use Rattle.std.proofs.Common.{◌≡◌, ℕ, ◌+◌, ◌-◌, Bool, true, false, not, ◌&&◌, ◌||◌, List, Option, Some, None, refl, sym, ◌∙◌, ap, arith, inl, inr, subst}
use Rattle.std.proofs.lemmas.Bool.{cases_Bool}
use Rattle.std.proofs.lemmas.List.{length-take}
use Rattle.std.specs.Prelude.{slice_get, IfSome}
use Rattle.event_body.specs.EventBody.Events.{is_inception, is_receipt, is_rotation}
use Rattle.key_state.specs.Exposure.{own_rules}
use Rattle.key_state.specs.Kept.{IsKept}
use Rattle.key_state.specs.Same.{are_witnesses}
use Rattle.key_state.specs.States.{State, IsState}
use Rattle.journal.specs.declared.journal.body.Body.{Body}
use Rattle.journal.specs.Journal.Conflicts.{counts}
use Rattle.journal.specs.Journal.Logs.{stands, state_behind, takes}
use Rattle.journal.specs.Journal.Questions.{state_before}
use Rattle.journal.specs.Journal.Readiness.{signed}
use Rattle.journal.specs.EventRules.Parts.{Part, has_next, has_own, has_signed, supports}
use Rattle.claim_table.specs.CoreLaws.Support.{AreSound}
use Rattle.claim_table.proofs.CoreLawsLemmas.Enough.{enough}
use Rattle.claim_table.proofs.CoreLawsLemmas.Sound.{sound}
use Rattle.validator_core.specs.Tables.AcceptedLog.Cuts.{cut}
use Rattle.claim_table.proofs.CoreLawsLemmas.Supported.{supported}
use Rattle.validator_core.specs.Tables.View.{View, log_of}
use Rattle.validator_core.specs.Acceptance.Footing.{IsFooting}
use Rattle.validator_core.specs.Acceptance.Parts.{has_in, table_part}
use Rattle.validator_core.specs.Acceptance.Standing.{AreSoundTables, told_of}
use Rattle.validator_core.specs.declared.acceptance.footing.Footing.{Footing}
use Rattle.validator_core.specs.declared.acceptance.footing.Footing.TheVariants.{Inception, Behind}
use Rattle.validator_core.proofs.AcceptanceLemmas.Behind.{rules_cut}
use Rattle.validator_core.proofs.AcceptanceLemmas.FoundClaims.{first_has_none}
use Rattle.validator_core.proofs.AcceptanceLemmas.ReadyRows.{part_is}
use Rattle.validator_core.specs.Acceptance.Current.{state_on}

-- a cut state is one that events make
is_cut : (n : ℕ) (s : State) → IsState s → IsState (cut n s)
is_cut n s is = record {
  kt_read = is.kt_read;
  nt_read = is.nt_read;
  few_keys = is.few_keys;
  few_next = is.few_next;
  few_witnesses = is.few_witnesses;
  witnesses = is.witnesses;
  since_some = (let some = is.since_some in omega (arith, some, length-take (n - s.est_sn + 1) s.since));
  sn_held = (let held = is.sn_held in omega (arith, held, length-take (n - s.est_sn + 1) s.since));
}

-- what stands is taken by the state that it follows
taken_before : (log : List Body) (b : Body) (s : State) → is_inception b.event ≡ false → stands log b ≡ true → state_before log b ≡ Some s → takes (Some s) b.event ≡ true
unfolding stands
taken_before log b s other up before = rw (other, before) at up

module _ (v : View) (is : AreSoundTables v) (n : ℕ) (b : Body) (at : slice_get v.held n ≡ Some b) (kept : IsKept b.event) where
  counted_as : (o : Option State) → state_before (log_of v) b ≡ o → stands (log_of v) b ≡ true → AreSound (own_rules o b.event) → is_receipt b.event ≡ false
      → counts (told_of v) (log_of v) b ≡ has_signed (has_in v.claims.rows n) o b.event
  unfolding counts
  counted_as o before up sound event =
      let same : (p : Part) → has_in v.claims.rows n p ≡ supports (told_of v) o b p
      = λ p. supported (told_of v) (log_of v) v.held v.claims.rows is.claims n b at up (ap (λ o. are_witnesses (own_rules o b.event).witnesses) before ∙ sound.witnesses) (table_part p)
      ∙ ap (supports (told_of v) (state_before (log_of v) b) b) (part_is p) ∙ ap (λ o. supports (told_of v) o b p) before in
      rw (event, up, before) (enough (told_of v) o b (has_in v.claims.rows n) sound same).0

  pub counted : (on : Footing) → IsFooting (log_of v) v.log b on → IfSome (state_on v.log.states on) IsState → is_receipt b.event ≡ false
      → counts (told_of v) (log_of v) b ≡ has_signed (has_in v.claims.rows n) (state_on v.log.states on) b.event
  counted Inception footing state_is event =
      let none : state_before (log_of v) b ≡ None = ap (state_behind (log_of v)) (first_has_none (log_of v) b footing.is) in
      counted_as None none footing.up (sound None b.event kept tt footing.is) event
  counted (Behind place) footing state_is event =
      let s = footing.is.state in
      let state_there : IsState s = subst (λ o. IfSome o IsState) footing.is.at state_is in
      let here : takes (Some (cut footing.is.sn s)) b.event ≡ true = taken_before (log_of v) b (cut footing.is.sn s) other footing.up footing.is.before in
      counted_as (Some (cut footing.is.sn s)) footing.is.before footing.up (sound (Some (cut footing.is.sn s)) b.event kept (is_cut footing.is.sn s state_there) here) event
      ∙ ap (λ r. has_own (has_in v.claims.rows n) r && (not (is_rotation b.event) || has_next (has_in v.claims.rows n) (Some s))) (rules_cut footing.is.sn s b.event)
      ∙ ap (λ o. has_signed (has_in v.claims.rows n) o b.event) (sym footing.is.at)
    where
      other : is_inception b.event ≡ false
      other = elim (cases_Bool (is_inception b.event)) [
        | inr k ↦ k
        | inl k ↦ (let none : state_before (log_of v) b ≡ None = ap (state_behind (log_of v)) (first_has_none (log_of v) b k) in
            let no = sym none ∙ footing.is.before in cc)
      ]

  pub receipt_counts : is_receipt b.event ≡ true → counts (told_of v) (log_of v) b ≡ false
  unfolding counts
  receipt_counts receipt = rw receipt refl

  pub fallen_counts : stands (log_of v) b ≡ false → counts (told_of v) (log_of v) b ≡ false
  unfolding counts
  fallen_counts down = rw down (by (is_receipt b.event) (signed (told_of v) (state_before (log_of v) b) b))
    where
      by : (r x : Bool) → ((not r && false) && x) ≡ false
      by true x = refl
      by false x = refl
