-- What raising claims makes of the tables.
use Rattle.std.proofs.Common.{◌≡◌, ℕ, ◌<◌, List, length, Option, Some, None, ap, refl, sym, ◌∙◌, subst}
use Rattle.std.specs.Prelude.{Contains, Result, Ok, Err, flat_map, option_map, slice_get}
use Rattle.std.specs.List.Sorted.{IsStrictlyIncreasing}
use Rattle.std.specs.Result.{OnErr, OnOk}
use Rattle.std.proofs.lemmas.Option.{slice_get_within}
use Rattle.claim_table.specs.ClaimTable.Table.{Table}
use Rattle.event_body.specs.declared.event_body.event.Event.{Event}
use Rattle.journal.specs.declared.journal.body.Body.{Body}
use Rattle.journal.specs.declared.journal.claim.Claim.{Claim}
use Rattle.journal.specs.declared.journal.entry.Entry.{Entry}
use Rattle.journal.specs.Journal.History.{claims_on}
use Rattle.journal.specs.Journal.Journals.{told_by}
use Rattle.journal.specs.Journal.Logs.{same_body}
use Rattle.journal.proofs.JournalLemmas.Different.{Differ}
use Rattle.journal.proofs.JournalLemmas.Places.{some_at}
use Rattle.key_state.specs.Kept.{IsKept}
use Rattle.key_state.specs.States.{State}
use Rattle.validator_core.specs.Tables.EntryClaims.{came_to}
use Rattle.validator_core.specs.Tables.RaisedRows.{RaisesRows, RaisesSomeRows}
use Rattle.validator_core.proofs.TablesLemmas.Added.{raised_stays, some_of}
use Rattle.validator_core.specs.declared.tables.name.Name.{Name}
use Rattle.validator_core.specs.Tables.Hints.{AreTold, IsPending}
use Rattle.validator_core.specs.Tables.Names.{name_of}
use Rattle.validator_core.specs.Tables.Raised.{Raises, RaisesSome, claims_at, state_there}
use Rattle.validator_core.specs.Tables.View.{View, with_claims}
use Rattle.validator_core.proofs.TablesLemmas.Rows.{not_some, some_is}
use Rattle.validator_core.proofs.TablesLemmas.ToldClaims.{came_is, told_claims}

-- the pending signature is still of some row
pub pending_stays : (n : ℕ) (t u : Table) → RaisesSomeRows n t u → IsPending t → IsPending u
pending_stays n t u h p = subst IsPending (sym h.new_is) (λ s is. raised_stays t.rows h.added s (p s is))

-- some claims are raised, whether all are or not
pub some_raised : {T E : Type 0} (r : Result T E) (events : List Event) (n : ℕ) (s : Option State) (claims : List Claim) (t u : Table) → n < length events
    → OnOk r ((e : Event) → slice_get events n ≡ Some e → RaisesRows n s e claims t u) → OnErr r (RaisesSomeRows n t u) → RaisesSomeRows n t u
some_raised (Ok x) events n s claims t u low ok err = let e = some_at events n low in some_of n s e.0 claims t u (ok e.0 e.1)
some_raised (Err x) events n s claims t u low ok err = err

-- the event of a number is that of its body
body_of_event : (o : Option Body) (e : Event) → option_map (λ b. b.event) o ≡ Some e → (b : Body) × (o ≡ Some b) × (b.event ≡ e)
body_of_event None e is = absurd (not_some e is)
body_of_event (Some b) e is = (b, refl, some_is b.event e is)

pub some_view : (n : ℕ) (v now : View) (u : Table) → v ≡ now → RaisesSomeRows n v.claims u → RaisesSome n now (with_claims u v)
some_view n v now u is h = subst (λ (w : View). RaisesSome n w (with_claims u v)) is (record { added = h.added; on = h.on; new_is = ap (λ t. with_claims t v) h.new_is })

module _ (v now : View) (is : v ≡ now) (events : List Event) (same : (m : ℕ) → slice_get events m ≡ option_map (λ b. b.event) (slice_get v.held m)) (n : ℕ) where
  pub kept_event : ((b : Body) → slice_get now.held n ≡ Some b → IsKept b.event) → (e : Event) → slice_get events n ≡ Some e → IsKept e
  kept_event kept e at =
      let b = body_of_event (slice_get v.held n) e (sym (same n) ∙ at) in
      subst IsKept b.2 (kept b.0 (ap (λ (w : View). slice_get w.held n) (sym is) ∙ b.1))

  own_event : (b : Body) → slice_get v.held n ≡ Some b → slice_get events n ≡ Some b.event
  own_event b at = same n ∙ ap (option_map (λ c. c.event)) at

  pub event_held : n < length now.held → n < length events
  event_held low = let b = some_at v.held n (subst (λ (w : View). n < length w.held) (sym is) low) in slice_get_within events n b.0.event (own_event b.0 b.1)

  raises_view : (s : Option State) (place : Option ℕ) (b : Body) (came claims : List Claim) (u : Table) → s ≡ state_there place v.log.states → came ≡ claims → slice_get v.held n ≡ Some b
      → ((e : Event) → slice_get events n ≡ Some e → RaisesRows n s e came v.claims u) → Raises n (state_there place v.log.states) b.event claims v (with_claims u v)
  raises_view s place b came claims u state those at h =
      let row = subst (λ t. RaisesRows n t b.event claims v.claims u) state (subst (λ xs. RaisesRows n s b.event xs v.claims u) those (h b.event (own_event b at))) in
      record { added = row.added; found = row.found; new_is = ap (λ t. with_claims t v) row.new_is }

  module _ (differ : Differ same_body now.held) where
    apart : Differ same_body v.held
    apart = subst (λ (w : View). Differ same_body w.held) (sym is) differ

    -- the claims of an entry
    pub came_there : (o : Option Entry) (entry : ℕ) → o ≡ slice_get v.entries entry → (b : Body) → slice_get now.held n ≡ Some b → came_to events n o ≡ claims_at now.held b (slice_get now.entries entry)
    came_there o entry there = subst (λ (w : View). (b : Body) → slice_get w.held n ≡ Some b → came_to events n o ≡ claims_at w.held b (slice_get w.entries entry)) is
        (λ b at. ap (came_to events n) there ∙ came_is v.held apart n b at events same (slice_get v.entries entry))

    -- those of an entry are raised
    pub raised_entry : (s : Option State) (place : Option ℕ) (o : Option Entry) (entry : ℕ) (u : Table) → s ≡ state_there place v.log.states → o ≡ slice_get v.entries entry
        → ((e : Event) → slice_get events n ≡ Some e → RaisesRows n s e (came_to events n o) v.claims u)
        → (b : Body) → slice_get now.held n ≡ Some b → Raises n (state_there place now.log.states) b.event (claims_at now.held b (slice_get now.entries entry)) now (with_claims u v)
    raised_entry s place o entry u state there h =
        subst (λ (w : View). (b : Body) → slice_get w.held n ≡ Some b → Raises n (state_there place w.log.states) b.event (claims_at w.held b (slice_get w.entries entry)) w (with_claims u v)) is
        (λ b at. raises_view s place b (came_to events n o) _ u state (ap (came_to events n) there ∙ came_is v.held apart n b at events same (slice_get v.entries entry)) at h)

    -- those of all entries are raised, by the numbers of the entries with the body's name
    pub raised_body : (s : Option State) (place : Option ℕ) (entries : List Entry) (places : List ℕ) (told : Name → List ℕ) (name : Name) (e : Event) (u : Table)
        → s ≡ state_there place v.log.states → entries ≡ v.entries → AreTold told v.held v.entries → places ≡ told name → IsStrictlyIncreasing places → name ≡ name_of e → slice_get events n ≡ Some e
        → ((e : Event) → slice_get events n ≡ Some e → RaisesRows n s e (flat_map (λ i. came_to events n (slice_get entries i)) places) v.claims u)
        → (b : Body) → slice_get now.held n ≡ Some b → Raises n (state_there place now.log.states) b.event (claims_on (told_by now.held now.entries) b) now (with_claims u v)
    raised_body s place entries places told name e u state those_entries are_told those rising name_is there h =
        subst (λ (w : View). (b : Body) → slice_get w.held n ≡ Some b → Raises n (state_there place w.log.states) b.event (claims_on (told_by w.held w.entries) b) w (with_claims u v)) is
        (λ b at. raises_view s place b (flat_map (λ i. came_to events n (slice_get entries i)) places) _ u state (all b at) at h)
      where
        all : (b : Body) → slice_get v.held n ≡ Some b → flat_map (λ i. came_to events n (slice_get entries i)) places ≡ claims_on (told_by v.held v.entries) b
        all b at =
            let named : name_of b.event ≡ name = ap name_of (some_is b.event e (sym (own_event b at) ∙ there)) ∙ sym name_is in
            ap (λ es. flat_map (λ i. came_to events n (slice_get es i)) places) those_entries
            ∙ ap (λ f. flat_map f places) (λ k i. came_is v.held apart n b at events same (slice_get v.entries i) k)
            ∙ told_claims v.held apart n b at v.entries places rising
            (λ i reader m claims c by held_at same_name. subst (λ ns. Contains ns i) (sym those) (subst (λ x. Contains (told x) i) (same_name ∙ named) (are_told i reader m claims c by held_at)))
