-- The claims that are sent of an event of a core.
use Rattle.std.proofs.Common.{◌≡◌, ℕ, zero, suc, Bool, List, [], ◌∷◌, ◌++◌, Some, map, refl, sym, ◌∙◌, ap, subst}
use Rattle.std.specs.Prelude.{Contains, filter, flat_map, option_map, slice_get}
use Rattle.std.specs.List.Sorted.{IsStrictlyIncreasing}
use Rattle.validator_core.specs.Tables.EntryClaims.{came_to}
use Rattle.validator_core.specs.Tables.Names.{name_of}
use Rattle.validator_core.proofs.TablesLemmas.ToldClaims.{came_is, told_claims}
use Rattle.event_body.specs.declared.event_body.event.Event.{Event}
use Rattle.escrow.specs.EventIndex.Keys.{numbers_at}
use Rattle.journal.specs.declared.journal.body.Body.{Body}
use Rattle.journal.specs.Journal.History.{bodies, claims_on, taken, triple_of}
use Rattle.journal.specs.Journal.Logs.{same_body}
use Rattle.journal.specs.Journal.Readiness.{yes_to}
use Rattle.journal.specs.Journal.Replies.{same_claim}
use Rattle.journal.proofs.JournalLemmas.Different.{Differ, differ-distinct}
use Rattle.key_state.specs.Same.{distinct}
use Rattle.export_core.specs.ExportLaws.Export.{ordered}
use Rattle.validator_core.specs.ValidatorCore.View.{CoreView, IsSoundCore, base_of, told_of}
use Rattle.export_core.specs.ExportCore.Came.{event_in, name_cmp}
use Rattle.export_core.specs.ExportCore.Exported.{HasCome, sent_by}
use Rattle.export_core.specs.ExportCore.GoodClaims.{is_good_by}
use Rattle.export_core.specs.ExportCore.Signers.{rules_by}
use Rattle.export_core.specs.declared.export_core.exported_events.Came.{Came}
use Rattle.export_core.specs.declared.export_core.signers.Signers.{Signers}
use Rattle.export_core.proofs.ExportCoreLemmas.Claims.{good_there}

-- the event of a number is that of its body
event_at : (held : List Body) (m : ℕ) → slice_get (map (λ b. b.event) held) m ≡ option_map (λ c. c.event) (slice_get held m)
event_at [] m = refl
event_at (b ∷ held) zero = refl
event_at (b ∷ held) (suc m) = event_at held m

same_filter : {X : Type 0} (p q : X → Bool) → ((x : X) → p x ≡ q x) → (xs : List X) → filter p xs ≡ filter q xs
same_filter p q same xs = λ i. filter (λ x. same x i) xs

-- the bodies of a core differ
pub held_differ : (core : CoreView) → IsSoundCore core → Differ same_body core.held
unfolding bodies
held_differ core stands = subst (Differ same_body) (sym stands.in_order) (differ-distinct same_body (base_of core ++ flat_map taken (told_of core)))

module _ (core : CoreView) (stands : IsSoundCore core) (came : Came) (has : HasCome core came) (own : Signers) (n : ℕ) (b : Body) (at : slice_get core.held n ≡ Some b) where
  abbrev events : List Event
  events = map (λ b. b.event) core.held

  -- ALL: the claims that came by the entries at its name
  all_come : (places : List ℕ) → places ≡ numbers_at name_cmp came.entries (name_of b.event) → IsStrictlyIncreasing places
      → flat_map (λ i. came_to events n (slice_get core.entries i)) places ≡ claims_on (told_of core) b
  all_come places are rising =
      (λ i. flat_map (λ k. came_is core.held (held_differ core stands) n b at events (event_at core.held) (slice_get core.entries k) i) places)
      ∙ told_claims core.held (held_differ core stands) n b at core.entries places rising (λ i reader m claims c there is_held named.
      subst (λ ps. Contains ps i) (sym are) (subst (λ q. Contains (numbers_at name_cmp came.entries q) i) named
      (has.entries i c.event (ap (event_in events) there ∙ event_at core.held m ∙ ap (option_map (λ c. c.event)) is_held))))

  -- SENT
  pub sent_there : (places : List ℕ) → places ≡ numbers_at name_cmp came.entries (name_of b.event) → IsStrictlyIncreasing places
      → ordered (distinct same_claim (filter (is_good_by came.good own n) (flat_map (λ i. came_to events n (slice_get core.entries i)) places))) ≡ sent_by (told_of core) own b
  sent_there places are rising =
      ap (λ claims. ordered (distinct same_claim (filter (is_good_by came.good own n) claims))) (all_come places are rising)
      ∙ ap (λ claims. ordered (distinct same_claim claims)) (same_filter (is_good_by came.good own n) (λ c. yes_to (told_of core) (triple_of (rules_by own) b c))
      (good_there core.held (held_differ core stands) n b at core.entries came.good has.good own) (claims_on (told_of core) b))
