-- Tables with one more body.
use Rattle.std.proofs.Common.{◌≡◌, ℕ, ◌<◌, List, [], ◌∷◌, ◌++◌, length, ◌∙◌, ap, subst, arith, Bool}
use Rattle.std.specs.Prelude.{Contains, Result, Ok, Err}
use Rattle.std.specs.Result.{OnErr, OnOk}
use Rattle.std.proofs.lemmas.List.{length-append}
use Rattle.event_body.specs.declared.event_body.event.Event.{Event}
use Rattle.escrow.specs.Escrow.Escrow.{Escrow, held as held_by}
use Rattle.journal.specs.declared.journal.body.Body.{Body}
use Rattle.journal.specs.declared.journal.entry.Entry.{Entry}
use Rattle.validator_core.specs.declared.tables.name.Name.{Name}
use Rattle.validator_core.specs.declared.tables.name.SealKey.{SealKey}
use Rattle.validator_core.specs.declared.tables.name.ClaimKey.{ClaimKey}
use Rattle.validator_core.specs.Tables.Hints.{AreHinted, KeepsBelow}
use Rattle.validator_core.specs.Tables.Inside.{paired}
use Rattle.validator_core.specs.Tables.Names.{name_of}
use Rattle.validator_core.specs.Tables.Rows.{placed, waiter_for}
use Rattle.validator_core.specs.Tables.View.{View, body_of}
use Rattle.validator_core.proofs.TablesLemmas.Hints.{hinted_body}
use Rattle.validator_core.proofs.TablesLemmas.Pairs.{paired-push}

module _ (bodies bodies_new : List (List ℕ)) (events events_new : List Event) (text : List ℕ) (event : Event) (even : length bodies ≡ length events) (b : bodies_new ≡ bodies ++ text ∷ []) (e : events_new ≡ events ++ event ∷ []) where
  pub pushed_even : length bodies_new ≡ length events_new
  pushed_even =
      let one = ap length b in let two = ap length e in let three = length-append bodies (text ∷ []) in let four = length-append events (event ∷ []) in
      omega (arith, one, two, three, four, even)

  pub pushed_pairs : paired bodies_new events_new ≡ paired bodies events ++ body_of text event ∷ []
  pushed_pairs = (λ i. paired (b i) (e i)) ∙ paired-push bodies events even text event

pub hinted_pushed : {held : List Body} {entries : List Entry} {numbers : List ℕ} {released : ℕ} {w : Escrow} {names told places : Name → List ℕ} {came : ClaimKey → List ℕ} {seals : SealKey → List ℕ} {clash : Bool} → AreHinted held entries numbers released w names told places came seals clash
    → (b : Body) (held_new : List Body) (new : Escrow) (names_new : Name → List ℕ) (count : ℕ) → held_new ≡ held ++ b ∷ [] → count ≡ length held → count < 4294967296
    → Contains (names_new (name_of b.event)) count → KeepsBelow count names names_new → ((n : ℕ) → held_by n new ≡ placed (waiter_for count b.event) n (held_by n w))
    → AreHinted held_new entries numbers released new names_new told places came seals clash
hinted_pushed {w = w} {names = names} h b held_new new names_new count held_is count_is room added kept put =
    rw held_is
    (hinted_body h b new names_new (subst (λ k. k < 4294967296) count_is room) (subst (Contains (names_new (name_of b.event))) count_is added) (subst (λ k. KeepsBelow k names names_new) count_is kept)
    (subst (λ k. (n : ℕ) → held_by n new ≡ placed (waiter_for k b.event) n (held_by n w)) count_is put))

pub view_pushed : (v now : View) (held : List Body) (b : Body) → v ≡ now → held ≡ v.held ++ b ∷ [] → (let new : View = record v { held = held } in new) ≡ record now { held = now.held ++ b ∷ [] }
view_pushed v now held b same is = (λ i. record v { held = is i }) ∙ ap {A = View} (λ w. record w { held = w.held ++ b ∷ [] }) same

-- what follows from an outcome, taken together
pub both_ok : {T E : Type 0} (P Q : Type 0) (r : Result T E) → OnOk r P → OnOk r Q → OnOk r (P × Q)
both_ok P Q (Ok x) p q = (p, q)
both_ok P Q (Err e) p q = tt

pub both_err : {T E : Type 0} (P Q : Type 0) (r : Result T E) → OnErr r P → OnErr r Q → OnErr r (P × Q)
both_err P Q (Ok x) p q = tt
both_err P Q (Err e) p q = (p, q)
