-- Why a reader of `blame` closed by a fault, and that none closes by a fault of writing or signing.
use Rattle.std.proofs.Common.{◌≡◌, ◌⊎◌, ℕ, inl, inr, Bool, true, false, ◌||◌, List, [], ◌∷◌, refl, sym, ◌∙◌, ap}
use Rattle.std.specs.Prelude.{Option, is_none}
use Rattle.journal.specs.declared.journal.journal.Journal.{Journal}
use Rattle.run_status.specs.RunStatus.Readers.{Reader}
use Rattle.keri_roles.specs.CoreRoles.Blamed.{IsBlamed}
use Rattle.keri_roles.specs.CoreRoles.CoreTold.{fails_last}
use Rattle.run_status.specs.RunRecord.Run.{AreCaused, VerifierRose}
use Rattle.keri_roles.specs.CoreRoles.Work.{Work}
use Rattle.keri_roles.proofs.CoreRolesLemmas.Causes.{each_caused, failed_last, names_unfailed, regroup, some_rose}
use Rattle.keri_roles.proofs.CoreRolesLemmas.Never.{each_serves, is_serving, some_serves}

-- a test of the first of two files is passed, and one of the second
of_first : (a b c d : Bool) → (a || (b || false)) ≡ true → (a || (b || (c || (d || false)))) ≡ true
of_first true b c d e = refl
of_first false true c d e = refl
of_first false false c d e = cc

of_second : (a b c d : Bool) → (c || (d || false)) ≡ true → (a || (b || (c || (d || false)))) ≡ true
of_second true b c d e = refl
of_second false true c d e = refl
of_second false false c d e = e

either : (a b : Bool) → (a || b) ≡ true → (a ≡ true) ⊎ (b ≡ true)
either true b e = inl refl
either false b e = inr e

neither : (a b : Bool) → (a || false) ≡ false → (b || false) ≡ false → (a || (b || false)) ≡ false
neither true b e f = cc
neither false b e f = f

pub blamed_caused : (helper first second : List ℕ) (back : Option Journal) (work : Work) → IsBlamed helper first second back work → AreCaused work.before work.after work.readers
blamed_caused helper first second back work b =
    let one = is_none b.given.source in
    let asks = is_none b.given.verifier in
    let other = is_none b.other_given.source in
    let other_asks = is_none b.other_given.verifier in
    rw b.both (
      (each_caused work.before.limits _ _ b.rest work.before work.after 0 b.journal.read (b.given ∷ []) (b.reader ∷ []) b.journal.fed.fed.each
          (names_unfailed work.before helper (first ∷ []) (b.given ∷ []) (b.provided.are_given.0, tt)) (λ some. b.provided.makes.rose (of_first one asks other other_asks (regroup one asks false ∙ some))) b.journal.each).0,
      (
        (each_caused work.before.limits _ _ b.other_rest work.before work.after 0 b.other_told.read (b.other_given ∷ []) (b.other_reader ∷ [])
            b.other_told.fed.fed.each (names_unfailed work.before helper (second ∷ []) (b.other_given ∷ []) b.provided.are_given.1)
            (λ some. b.provided.makes.rose (of_second one asks other other_asks (regroup other other_asks false ∙ some))) b.other_told.each).0,
        tt,
      ),
    )

first_rose : (one other : Reader) → VerifierRose (one ∷ []) → VerifierRose (one ∷ other ∷ [])
first_rose one other (inl rose) = inl rose
first_rose one other (inr none) = absurd none

-- and a verifier that failed in a last round failed
pub blamed_rose : (helper first second : List ℕ) (back : Option Journal) (work : Work) → IsBlamed helper first second back work → work.besides.verifier_failed ≡ true → VerifierRose work.readers
blamed_rose helper first second back work b e = rw b.both (elim (either (fails_last b.rest) (fails_last b.other_rest) (sym (ap (λ x. x.verifier_failed) b.nothing_else) ∙ e)) [
  | inl f ↦ first_rose b.reader b.other_reader
      (some_rose (b.given ∷ []) (b.reader ∷ []) (names_unfailed work.before helper (first ∷ []) (b.given ∷ []) (b.provided.are_given.0, tt)) (b.journal.failed (failed_last b.rest f)))
  | inr f ↦ inr (some_rose (b.other_given ∷ []) (b.other_reader ∷ []) (names_unfailed work.before helper (second ∷ []) (b.other_given ∷ []) b.provided.are_given.1)
      (b.other_told.failed (failed_last b.other_rest f)))
])

pub blamed_serves : (helper first second : List ℕ) (back : Option Journal) (work : Work) → IsBlamed helper first second back work → some_serves work.readers ≡ false
blamed_serves helper first second back work b = ap some_serves b.both ∙ neither (is_serving b.reader.close) (is_serving b.other_reader.close)
    (each_serves _ _ _ b.rest 0 b.journal.read (b.given ∷ []) (b.reader ∷ []) b.journal.fed.fed.each b.journal.each)
    (each_serves _ _ _ b.other_rest 0 b.other_told.read (b.other_given ∷ []) (b.other_reader ∷ []) b.other_told.fed.fed.each b.other_told.each)
