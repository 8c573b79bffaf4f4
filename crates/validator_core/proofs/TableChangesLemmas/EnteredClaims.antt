-- What has come once the claims of the last entry are raised.
use Rattle.std.proofs.Common.{◌≡◌, ℕ, true, false, List, [], ◌∷◌, ◌++◌, length, Some, None, refl, sym, ◌∙◌, ap, inl, inr, subst, if◌then◌else◌}
use Rattle.std.proofs.lemmas.Bool.{cases_Bool}
use Rattle.std.specs.Prelude.{slice_get}
use Rattle.validator_core.specs.Acceptance.Standing.{Comes, IsHeld, AreSoundTables, told_of}
use Rattle.validator_core.proofs.AcceptanceLemmas.NewBody.{log_body, standing_new, told_body, with_body}
use Rattle.validator_core.specs.Acceptance.Taken.{found_by, with_entry}
use Rattle.validator_core.proofs.AcceptanceLemmas.Taken.{standing_again, took_on}
use Rattle.claim_table.specs.CoreLaws.ClaimRows.{AreFound, found_on}
use Rattle.validator_core.specs.declared.tables.name.Name.{Name}
use Rattle.validator_core.specs.Tables.Names.{name_of}
use Rattle.validator_core.specs.Tables.Raised.{claims_at}
use Rattle.validator_core.specs.Tables.View.{View, log_of}
use Rattle.event_body.specs.declared.event_body.event.Event.{Event}
use Rattle.event_body.specs.EventBody.Events.{is_receipt}
use Rattle.journal.specs.declared.journal.body.Body.{Body}
use Rattle.journal.specs.declared.journal.claim.Claim.{Claim}
use Rattle.journal.specs.declared.journal.entry.Entry.TheVariants.{Took}
use Rattle.journal.specs.Journal.History.{claims_on, took}
use Rattle.journal.specs.Journal.Logs.{is_in}
use Rattle.journal.specs.Journal.Questions.{state_before}
use Rattle.validator_core.specs.TableChanges.Entries.{IsTold, RaisesFound}
use Rattle.validator_core.proofs.TableChangesLemmas.ReceiptClaims.{claims_there}

-- the tables stand once the claims of the last entry are raised on its event
pub stands_again : (w u : View) (number entry : ℕ) (is : IsTold number entry w) (b : Body) → slice_get w.held number ≡ Some b → is_receipt b.event ≡ false
    → RaisesFound number b (claims_at w.held b (slice_get w.entries entry)) w u → AreSoundTables u
stands_again w u number entry is b at event raised =
    let there : slice_get is.before.held number ≡ Some b = ap (λ v. slice_get v.held number) (sym is.is) ∙ at in
    let claims = claims_there w w number entry is refl refl b there b ∙ took_on is.reader b is.claims in
    let r : RaisesFound number b is.claims (with_entry (Took is.reader number is.claims) is.before) u =
    subst (λ v. RaisesFound number b is.claims v u) is.is (subst (λ cs. RaisesFound number b cs w u) claims raised) in
    subst AreSoundTables (sym r.new_is) (standing_again is.before is.sound is.reader number b there is.low event is.claims r.added r.found)

-- NEW: an event with its entry, once all claims on it are raised
pub comes_new : (v mid new : View) (is : AreSoundTables v) (reader : ℕ) (b : Body) (is_held : IsHeld b) (outside : is_in v.held b ≡ false) (claims : List Claim) → is_receipt b.event ≡ false
    → mid ≡ with_entry (Took reader (length v.held) claims) (record v { held = v.held ++ b ∷ [] }) → RaisesFound (length v.held) b (claims_on (told_of mid) b) mid new
    → Comes (b ∷ []) (Took reader (length v.held) claims) v new
unfolding found_on
comes_new v mid new is reader b is_held outside claims event mid_is raised =
    let n = length v.held in
    let r : RaisesFound n b (claims_on (told_of (with_body v is reader b is_held outside claims)) b) (with_body v is reader b is_held outside claims) new =
    subst (λ m. RaisesFound n b (claims_on (told_of m) b) m new) mid_is raised in
    let found : AreFound n (state_before (log_of v) b) b.event (found_by (log_of v) b (claims_on (told_of v ++ took reader b claims ∷ []) b)) r.added =
    subst (λ l. AreFound n (state_before l b) b.event (found_by l b (claims_on (told_of v ++ took reader b claims ∷ []) b)) r.added) (log_body v is reader b is_held outside claims)
    (subst (λ ts. AreFound n (state_before (log_of (with_body v is reader b is_held outside claims)) b) b.event (found_by (log_of (with_body v is reader b is_held outside claims)) b (claims_on ts b)) r.added)
    (told_body v is reader b is_held outside claims) r.found) in
    record {
      held = ap (λ w. w.held) r.new_is;
      entries = ap (λ w. w.entries) r.new_is;
      log = ap (λ w. w.log) r.new_is;
      pending = ap (λ w. w.claims.pending) r.new_is;
      released = ap (λ w. w.released) r.new_is;
      sound = subst AreSoundTables (sym r.new_is) (standing_new v is reader b is_held outside claims event r.added found);
    }

-- the tables with the body of a number and its entry, which come one after the other
pub mid_of : (v first mid : View) (reader : ℕ) (b : Body) (n : ℕ) (claims : List Claim) → first ≡ record v { held = v.held ++ b ∷ [] } → n ≡ length v.held
    → mid ≡ record first { entries = first.entries ++ Took reader n claims ∷ [] } → mid ≡ with_entry (Took reader (length v.held) claims) (record v { held = v.held ++ b ∷ [] })
mid_of v first mid reader b n claims first_is n_is mid_is =
    mid_is ∙ ap (λ w. with_entry (Took reader n claims) w) first_is ∙ ap (λ m. with_entry (Took reader m claims) (record v { held = v.held ++ b ∷ [] })) n_is

-- what the name of a receipt says, and that there is none
pub named_receipt : (e : Event) (name : Name) → Some name ≡ (if is_receipt e then Some (name_of e) else None) → (is_receipt e ≡ true) × (name ≡ name_of e)
named_receipt e name is = elim (cases_Bool (is_receipt e)) [
  | inl k ↦ (let same : Some name ≡ Some (name_of e) = is ∙ ap (λ y. if y then Some (name_of e) else None) k in (k, cc))
  | inr k ↦ (let no : Some name ≡ None = is ∙ ap (λ y. if y then Some (name_of e) else None) k in cc)
]

pub named_event : (e : Event) → None ≡ (if is_receipt e then Some (name_of e) else None) → is_receipt e ≡ false
named_event e is = elim (cases_Bool (is_receipt e)) [
  | inl k ↦ (let no : None ≡ Some (name_of e) = is ∙ ap (λ y. if y then Some (name_of e) else None) k in cc)
  | inr k ↦ k
]
