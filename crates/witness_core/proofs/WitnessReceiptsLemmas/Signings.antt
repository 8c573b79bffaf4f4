-- What a signer is asked for receipts, number by number.
use Rattle.std.proofs.Common.{◌≡◌, ℕ, ◌+◌, ◌<◌, List, [], ◌∷◌, ◌++◌, length, take, get_or, Option, Some, None, refl, ap, ◌∙◌}
use Rattle.std.specs.Prelude.{filter_map, flat_map, slice_get}
use Rattle.std.specs.List.{AllZip}
use Rattle.std.proofs.lemmas.List.{take_more}
use Rattle.cesr_codes.specs.declared.key.Key.{Key}
use Rattle.keri_outside.specs.declared.signing.Signing.{Signing}
use Rattle.journal.specs.declared.journal.body.Body.{Body}
use Rattle.journal.specs.Journal.Journals.{chosen}
use Rattle.journal.proofs.JournalLemmas.Held.{chosen_push}
use Rattle.witness_core.specs.WitnessReceipts.Receipts.{signings_of}

-- what is asked for the body of a number
abbrev pub signing_at : Key → List Body → ℕ → List Signing
signing_at key held n = signings_of key (chosen held (n ∷ []))

-- and for those of numbers
pub signings_at : (key : Key) (held : List Body) (ns : List ℕ) → flat_map (signing_at key held) ns ≡ signings_of key (chosen held ns)
unfolding chosen
signings_at key held [] = refl
signings_at key held (n ∷ ns) = by (slice_get held n) refl (signings_at key held ns)
  where
    by : (o : Option Body) → slice_get held n ≡ o → flat_map (signing_at key held) ns ≡ signings_of key (filter_map (λ n. slice_get held n) ns)
        → flat_map (signing_at key held) (n ∷ ns) ≡ signings_of key (filter_map (λ n. slice_get held n) (n ∷ ns))
    by None e ih = rw e ih
    by (Some b) e ih = rw e (ap (λ more. signings_of key (b ∷ []) ++ more) ih)

-- the numbers so far, and the next
pub chosen_next : (held : List Body) (ns : List ℕ) (i : ℕ) (b : Body) → i < length ns → slice_get held (get_or ns i 0) ≡ Some b
    → chosen held (take (i + 1) ns) ≡ chosen held (take i ns) ++ b ∷ []
chosen_next held ns i b h at = ap (chosen held) (take_more ns i 0 h) ∙ chosen_push held (take i ns) (get_or ns i 0) b at

-- lists of which a relation holds place by place, with one more place
pub zipped_push : {A B : Type 0} (R : A → B → Type 0) (xs : List A) (ys : List B) (x : A) (y : B) → AllZip R xs ys → R x y → AllZip R (xs ++ x ∷ []) (ys ++ y ∷ [])
zipped_push R [] [] x y all one = (one, tt)
zipped_push R (a ∷ xs) (b ∷ ys) x y all one = (all.0, zipped_push R xs ys x y all.1 one)
zipped_push R [] (b ∷ ys) x y all one = elim all [ ]
zipped_push R (a ∷ xs) [] x y all one = elim all [ ]
