-- Tables whose log has one more event, or is as before.
use Rattle.std.proofs.Common.{◌≡◌, ℕ, Bool, false, List, [], ◌∷◌, ◌++◌, length, refl, sym, ◌∙◌, ap, subst, inl, inr, Result, Ok, Err, Option, Some, None}
use Rattle.std.specs.Prelude.{◌⊎◌, Contains, slice_get}
use Rattle.std.specs.Result.{OnErr, OnOk}
use Rattle.validator_core.specs.Tables.AcceptedLog.Values.{Log, gone_onto}
use Rattle.cesr_codes.specs.declared.digest.Digest.{Digest}
use Rattle.event_body.specs.declared.event_body.event.Event.{Event}
use Rattle.escrow.specs.Escrow.Escrow.{Escrow}
use Rattle.journal.specs.declared.journal.body.Body.{Body}
use Rattle.journal.specs.declared.journal.entry.Entry.{Entry}
use Rattle.validator_core.specs.declared.tables.name.Name.{Name}
use Rattle.validator_core.specs.declared.tables.name.SealKey.{SealKey}
use Rattle.validator_core.specs.declared.tables.name.ClaimKey.{ClaimKey}
use Rattle.validator_core.specs.Tables.Hints.{AreHinted, IsNameNew, IsSealedAt, KeepsBelow}
use Rattle.validator_core.specs.Tables.Names.{name_of}
use Rattle.validator_core.specs.Tables.View.{View, with_log}
use Rattle.validator_core.proofs.TablesLemmas.Hints.{hinted_accepted, hinted_clash, hinted_kept, keeps_itself}

-- what follows from both outcomes
pub on_both : {T E P Q R : Type 0} (r : Result T E) → OnOk r P → OnErr r Q → (P → R) → (Q → R) → R
on_both (Ok x) p q f g = f p
on_both (Err e) p q f g = g q

module _ {held : List Body} {entries : List Entry} {numbers : List ℕ} {released : ℕ} {w : Escrow} {names told places : Name → List ℕ} {came : ClaimKey → List ℕ} {seals : SealKey → List ℕ} {clash : Bool} (h : AreHinted held entries numbers released w names told places came seals clash)
    (places_new : Name → List ℕ) (seals_new : SealKey → List ℕ) (count : ℕ) (count_is : count ≡ length numbers) (kept : KeepsBelow count places places_new) (kept_seals : KeepsBelow count seals seals_new)
    (clash_new : Bool) (clear : clash_new ≡ false → clash ≡ false) where
  low : KeepsBelow (length numbers) places places_new
  low = subst (λ k. KeepsBelow k places places_new) count_is kept

  low_seals : KeepsBelow (length numbers) seals seals_new
  low_seals = subst (λ k. KeepsBelow k seals seals_new) count_is kept_seals

  -- the log is as before
  pub none_accepted : (new : List ℕ) → new ≡ numbers → AreHinted held entries new released w names told places_new came seals_new clash_new
  none_accepted new is = rw is (hinted_clash (hinted_kept h _ _ _ _ _ _ (λ n. refl) (keeps_itself _ _) (keeps_itself _ _) low (keeps_itself _ _) low_seals) clash_new clear)

  -- the body's event is the last one
  pub one_accepted : (b : Body) (number : ℕ) (e : Event) → slice_get held number ≡ Some b → b.event ≡ e → Contains (places_new (name_of e)) count → IsSealedAt seals_new e count
      → (clash_new ≡ false → IsNameNew held numbers (name_of e)) → (new : List ℕ) → new ≡ numbers ++ number ∷ []
      → AreHinted held entries new released w names told places_new came seals_new clash_new
  one_accepted b number e there event_is added sealed fresh new is =
      rw is
      (hinted_accepted h b number places_new seals_new there
      (subst (λ x. Contains (places_new (name_of x)) (length numbers)) (sym event_is) (subst (Contains (places_new (name_of e))) count_is added)) low
      (subst (λ x. IsSealedAt seals_new x (length numbers)) (sym event_is) (subst (IsSealedAt seals_new e) count_is sealed)) low_seals
      clash_new (λ now. (clear now, subst (λ x. IsNameNew held numbers (name_of x)) (sym event_is) (fresh now))))

-- an interaction is one more event, where its identifier has a state
pub numbers_gone_onto : (number entries : ℕ) (said : Digest) (o : Option ℕ) (v : Log) → ((gone_onto number entries said o v).numbers ≡ v.numbers ++ number ∷ []) ⊎ ((gone_onto number entries said o v).numbers ≡ v.numbers)
numbers_gone_onto number entries said None v = inr refl
numbers_gone_onto number entries said (Some k) v = inl refl

pub view_accepted : (v now : View) (log : Log) (f : View → Log) → v ≡ now → log ≡ f v → with_log log v ≡ with_log (f now) now
view_accepted v now log f same is = (λ i. with_log (is i) v) ∙ ap {A = View} (λ w. with_log (f w) w) same

pub view_same : (v now : View) (log : Log) → v ≡ now → log ≡ v.log → with_log log v ≡ now
view_same v now log same is = (λ i. with_log (is i) v) ∙ same
