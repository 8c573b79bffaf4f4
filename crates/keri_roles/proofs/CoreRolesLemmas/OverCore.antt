-- What a command over a core owes.
use Rattle.std.proofs.Common.{◌≡◌, ℕ, Bool, true, false, ◌||◌, List, [], ◌∷◌, length, get_or, Option, Some, None, Result, Ok, Err, refl, sym, ap, arith}
use Rattle.std.specs.Prelude.{All, IfOk, IfSome, OnErr, Vec, map, option_map}
use Rattle.std.specs.List.{list_any}
use Rattle.std.proofs.lemmas.List.Elements.{All-cons, All-nil}
use Rattle.cesr_codes.specs.declared.key.Key.{Key}
use Rattle.cesr_codes.specs.declared.sig.Sig.{Sig}
use Rattle.keri_outside.specs.declared.inquiry.Inquiry.{Inquiry}
use Rattle.run_status.specs.RunStatus.Readers.{reader_seen}
use Rattle.run_status.specs.declared.run_status.close.Close.{Close}
use Rattle.run_status.specs.declared.run_status.close.Close.TheVariants.{OutOfMemory}
use Rattle.run_status.specs.declared.run_status.reader_end.ReaderEnd.{ReaderEnd}
use Rattle.run_status.specs.RunRecord.Run.{is_out}

-- a text that was made is owed, and says whether there is a conflict
pub owes_so : {A E g : Type 0} (bytes : A → Vec ℕ g) (conflicts : A → Bool) (is_text : List ℕ → Bool → Type 0) (text : Result A E) (owed : Option (Vec ℕ g)) (has : Bool)
    → IfOk text (λ t. is_text (bytes t).items (conflicts t)) → IfOk text (λ t. (owed ≡ Some (bytes t)) × (has ≡ conflicts t)) → OnErr text ((owed ≡ None) × (has ≡ false))
    → IfSome (option_map (λ t. t.items) owed) (λ t. is_text t has)
owes_so bytes conflicts is_text (Ok t) owed has made ok err = rw (ok.0, ok.1) made
owes_so bytes conflicts is_text (Err e) owed has made ok err = rw err.0 tt

-- what follows from what a clause says of a value that is answered
pub ok_then : {T E : Type 0} {P Q : T → Type 0} (r : Result T E) → IfOk r P → ((x : T) → P x → Q x) → IfOk r Q
ok_then (Ok x) p f = f x p
ok_then (Err e) p f = tt

-- the one element of a list
pub only_one : {A : Type 0} (xs : List A) (x : A) → length xs ≡ 1 → x ≡ get_or xs 0 x → xs ≡ x ∷ []
only_one [] x one first = absurd (omega (arith, one))
only_one (a ∷ []) x one first = ap (λ y. y ∷ []) (sym first)
only_one (a ∷ b ∷ xs) x one first = absurd (omega (arith, one))

pub none_parts : (a b : Bool) → (a || b) ≡ false → (a ≡ false) × (b ≡ false)
none_parts false b e = (refl, e)
none_parts true b e = cc

not_out : (close : Close) → is_out close ≡ false → close ≡ OutOfMemory → ⊥
not_out close none e = let clash : is_out OutOfMemory ≡ false = rw e at none in cc

-- none of these readers found no memory
module _ {S V : Type 0} (left : S → Option (List ℕ)) (faults : S → ℕ) (says : V → Key → List ℕ → Sig → Option Bool) (inquiries : V → Option (List Inquiry)) (verifier_faults : V → ℕ) where
  pub none_out : (readers : List (ReaderEnd S V)) → list_any (λ r. is_out r.close) readers ≡ false
      → All (λ r. (r.close ≡ OutOfMemory → ⊥)) (map (reader_seen left faults says inquiries verifier_faults) readers)
  none_out [] none = All-nil _
  none_out (r ∷ readers) none =
      let parts = none_parts (is_out r.close) (list_any (λ r. is_out r.close) readers) none in
      All-cons (λ r. (r.close ≡ OutOfMemory → ⊥)) (reader_seen left faults says inquiries verifier_faults r) (map (reader_seen left faults says inquiries verifier_faults) readers)
      (not_out r.close parts.0) (none_out readers parts.1)
