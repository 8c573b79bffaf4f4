-- The controller's signatures among claims, counted one by one.
use Rattle.std.proofs.Common.{◌≡◌, ◌<◌, ◌+◌, ℕ, List, [], ◌∷◌, ◌++◌, length, take, get_or, refl, sym, ◌∙◌, ap, length-append}
use Rattle.std.specs.Prelude.{filter_map}
use Rattle.std.proofs.lemmas.List.{take_more}
use Rattle.std.proofs.lemmas.List.Elements.{filter_map-append}
use Rattle.cesr_codes.specs.declared.indexed_sig.IndexedSig.{IndexedSig}
use Rattle.journal.specs.declared.journal.claim.Claim.{Claim}
use Rattle.journal.specs.declared.journal.claim.Claim.TheVariants.{Controller, Witness, Couple}
use Rattle.journal.specs.Journal.Readiness.{held_sig}
use Rattle.witness_core.specs.WitnessStore.Room.{signatures_in}

-- one claim more
pub counted_more : (claims : List Claim) (i : ℕ) (c : Claim) → i < length claims → c ≡ get_or claims i c → signatures_in (take (i + 1) claims) ≡ signatures_in (take i claims) + signatures_in (c ∷ [])
counted_more claims i c low is =
    ap signatures_in (take_more claims i c low ∙ ap (λ x. take i claims ++ x ∷ []) (sym is))
    ∙ ap length (filter_map-append held_sig (take i claims) (c ∷ []))
    ∙ length-append (filter_map held_sig (take i claims)) (filter_map held_sig (c ∷ []))

-- it counts where it is the controller's
pub counts_held : (c : Claim) (sig : IndexedSig) → c ≡ Controller sig → signatures_in (c ∷ []) ≡ 1
counts_held c sig is = ap (λ x. signatures_in (x ∷ [])) is

pub counts_no_other : (c : Claim) → ((sig : IndexedSig) → c ≡ Controller sig → ⊥) → signatures_in (c ∷ []) ≡ 0
counts_no_other (Controller sig) other = absurd (other sig refl)
counts_no_other (Witness sig) other = refl
counts_no_other (Couple key sig) other = refl
