-- The body of a number, and whether it is among the accepted.
use Rattle.std.proofs.Common.{◌≡◌, ℕ, suc, ◌<◌, ◌==◌, ◌||◌, ◌&&◌, not, List, [], ◌∷◌, length, Option, Some, None, option_map, refl, sym, ◌∙◌, ap, inl, inr, subst}
use Rattle.std.specs.Prelude.{slice_get, IfSome}
use Rattle.std.specs.List.{cons_option, list_any}
use Rattle.std.proofs.lemmas.Bool.{cases_Bool}
use Rattle.event_body.specs.declared.event_body.event.Event.{Event}
use Rattle.event_body.specs.EventBody.Events.{is_receipt}
use Rattle.event_body.specs.EventBody.Judging.{SpellsEvent}
use Rattle.key_state.specs.Kept.{IsKept}
use Rattle.key_state.proofs.Same.{numbers, number_itself}
use Rattle.journal.specs.declared.journal.body.Body.{Body}
use Rattle.journal.specs.Journal.Journals.{chosen}
use Rattle.journal.specs.Journal.Logs.{is_in, same_body}
use Rattle.journal.proofs.JournalLemmas.Accepting.{same_body-refl}
use Rattle.journal.proofs.JournalLemmas.Different.{Differ}
use Rattle.journal.proofs.JournalLemmas.Places.{others_differ, some_at}
use Rattle.claim_table.specs.CoreLaws.Waking.{is_waiting}
use Rattle.validator_core.specs.Tables.View.{View, body_of, log_of}
use Rattle.validator_core.specs.Acceptance.Standing.{AreSoundTables}
use Rattle.validator_core.proofs.AcceptanceLemmas.NewBody.{low_at}

-- EVENT: the body of a number whose event is given is that event's
module _ (held : List Body) (n : ℕ) (e : Event) (event : Some e ≡ option_map (λ c. c.event) (slice_get held n)) (b : Body) (at : slice_get held n ≡ Some b) where
  pub event_is : e ≡ b.event
  event_is = let same : Some e ≡ Some b.event = event ∙ ap (option_map (λ c. c.event)) at in cc

  pub body_is : body_of b.bytes e ≡ b
  body_is = ap (body_of b.bytes) event_is

  pub at_it : slice_get held n ≡ Some (body_of b.bytes e)
  at_it = at ∙ ap (λ c. Some c) (sym body_is)

-- so what is true of the event with any bytes that are held is true of the body
pub at_body : (held : List Body) (n : ℕ) (e : Event) → Some e ≡ option_map (λ c. c.event) (slice_get held n) → (P : Body → Type 0)
    → ((bytes : List ℕ) → slice_get held n ≡ Some (body_of bytes e) → P (body_of bytes e)) → (b : Body) → slice_get held n ≡ Some b → P b
at_body held n e event P each b at = subst P (body_is held n e event b at) (each b.bytes (at_it held n e event b at))

-- a number with an event is held
pub is_below : (held : List Body) (n : ℕ) (e : Event) → Some e ≡ option_map (λ c. c.event) (slice_get held n) → n < length held
is_below held n e event = by (slice_get held n) refl event
  where
    by : (o : Option Body) → slice_get held n ≡ o → Some e ≡ option_map (λ c. c.event) o → n < length held
    by (Some b) at is = low_at held n b at
    by None at is = cc

-- KEPT: a body keeps what its event spells
pub kept_if : (v : View) → AreSoundTables v → ((event : Event) (bytes : List ℕ) → SpellsEvent event bytes → IsKept event)
    → (n : ℕ) (o : Option Event) → o ≡ option_map (λ c. c.event) (slice_get v.held n) → IfSome o IsKept
kept_if v is law n o event = subst (λ o. IfSome o IsKept) (sym event) (by (slice_get v.held n) refl)
  where
    by : (o : Option Body) → slice_get v.held n ≡ o → IfSome (option_map (λ c. c.event) o) IsKept
    by (Some b) at = law b.event b.bytes (is.spelled n b at).spelled
    by None at = tt

-- ACCEPTED: a body is in the log where its number is
module _ (held : List Body) (differ : Differ same_body held) (n : ℕ) (b : Body) (at : slice_get held n ≡ Some b) where
  same_at : (m : ℕ) (c : Body) → slice_get held m ≡ Some c → same_body c b ≡ (m == n)
  same_at m c there = elim (cases_Bool (m == n)) [
    | inl k ↦ (let one : Some c ≡ Some b = sym there ∙ ap (slice_get held) (numbers m n k) ∙ at in
        let is : c ≡ b = cc in
        ap (λ d. same_body d b) is ∙ same_body-refl b ∙ sym k)
    | inr k ↦ others_differ held differ m c there n b (λ same. (let yes_same = ap (λ i. m == i) same ∙ number_itself m in cc)) at ∙ sym k
  ]

  pub among : (ns : List ℕ) → ((i m : ℕ) → slice_get ns i ≡ Some m → m < length held) → is_in (chosen held ns) b ≡ list_any (λ m. m == n) ns
  unfolding chosen
  among [] low = refl
  among (m ∷ ns) low =
      let c = some_at held m (low 0 m refl) in
      let ih = among ns (λ i k there. low (suc i) k there) in
      let here = same_at m c.0 c.1 in
      ap (λ o. list_any (λ d. same_body d b) (cons_option o (chosen held ns))) c.1 ∙ (λ i. here i || ih i)

pub accepted_is : (v : View) → AreSoundTables v → (n : ℕ) (b : Body) → slice_get v.held n ≡ Some b → is_in (log_of v) b ≡ list_any (λ m. m == n) v.log.numbers
accepted_is v is n b at = among v.held is.differ n b at v.log.numbers is.accepted_held

-- WAITS
pub waits_is : (v : View) → AreSoundTables v → (n : ℕ) (b : Body) → slice_get v.held n ≡ Some b → (not (is_receipt b.event) && not (list_any (λ m. m == n) v.log.numbers)) ≡ is_waiting (log_of v) b
waits_is v is n b at = ap (λ y. not (is_receipt b.event) && not y) (sym (accepted_is v is n b at))
