-- What one more entry adds to the verdicts that were heard, and to the claims on a body.
use Rattle.std.proofs.Common.{◌≡◌, ℕ, Bool, true, false, not, ◌||◌, List, [], ◌∷◌, ◌++◌, Some, refl, ◌∙◌, ap, inl, inr, append-nil, if◌then◌else◌}
use Rattle.std.specs.Prelude.{flat_map, is_none}
use Rattle.std.specs.List.{list_any}
use Rattle.std.proofs.lemmas.Bool.{cases_Bool, or_parts, or_left, or_right}
use Rattle.std.proofs.lemmas.List.Folds.{list_any-append}
use Rattle.journal.specs.declared.journal.claim.Claim.{Claim}
use Rattle.journal.specs.declared.journal.body.Body.{Body}
use Rattle.journal.specs.Journal.History.{Told, took, heard, Triple, same_triple, claims_in, claims_on, heard_in, yes_in, said_yes, has_verdict}
use Rattle.std.proofs.Math.Bool.{or-false}
use Rattle.cesr_codes.specs.declared.key.Key.{Key}
use Rattle.cesr_codes.specs.declared.sig.Sig.{Sig}
use Rattle.journal.proofs.JournalLemmas.Same.{same_triple_is}
use Rattle.journal.proofs.JournalLemmas.Locality.{flat_map-push}
use Rattle.claim_table.specs.CoreLaws.ClaimRows.{verdict_in, triple_on}

-- where no verdict was heard, no yes was
pub yes_is_heard : (told : List Told) (x : Triple) → has_verdict told x ≡ false → said_yes told x ≡ false
unfolding has_verdict said_yes
yes_is_heard [] x h = refl
yes_is_heard (took reader b claims ∷ told) x h = yes_is_heard told x h
yes_is_heard (heard reader b key sig true ∷ told) x h = let parts = or_parts (same_triple x (record { body = b.bytes; key = key; sig = sig })) _ h in
    let here = parts.0 in let there = yes_is_heard told x parts.1 in rw (here, there) refl
yes_is_heard (heard reader b key sig false ∷ told) x h = yes_is_heard told x (or_parts (same_triple x (record { body = b.bytes; key = key; sig = sig })) _ h).1

-- so a verdict is there exactly where one was heard
pub verdict_there : (told : List Told) (x : Triple) → is_none (verdict_in told x) ≡ not (has_verdict told x)
unfolding verdict_in
verdict_there told x = elim (cases_Bool (has_verdict told x)) [
  | inl k ↦ elim (cases_Bool (said_yes told x)) [ inl y ↦ rw (y, k) refl | inr y ↦ rw (y, k) refl ]
  | inr k ↦ (let none = yes_is_heard told x k in rw (none, k) refl)
]

-- ENTRIES: what one more tells
module _ (told : List Told) (t : Told) where
  pub has_push : (x : Triple) → has_verdict (told ++ t ∷ []) x ≡ (has_verdict told x || list_any (same_triple x) (heard_in t))
  unfolding has_verdict
  has_push x = rw (flat_map-push heard_in told t) (list_any-append (same_triple x) (flat_map heard_in told) (heard_in t))

  pub said_push : (x : Triple) → said_yes (told ++ t ∷ []) x ≡ (said_yes told x || list_any (same_triple x) (yes_in t))
  unfolding said_yes
  said_push x = rw (flat_map-push yes_in told t) (list_any-append (same_triple x) (flat_map yes_in told) (yes_in t))

  pub claims_push : (b : Body) → claims_on (told ++ t ∷ []) b ≡ claims_on told b ++ claims_in b t
  unfolding claims_on
  claims_push b = flat_map-push (claims_in b) told t

-- a body that came leaves the verdicts
pub verdict_took : (told : List Told) (reader : ℕ) (c : Body) (claims : List Claim) (x : Triple) → verdict_in (told ++ took reader c claims ∷ []) x ≡ verdict_in told x
unfolding verdict_in
verdict_took told reader c claims x =
    let said = said_push told (took reader c claims) x ∙ or-false (said_yes told x) in
    let has = has_push told (took reader c claims) x ∙ or-false (has_verdict told x) in
    rw (said, has) refl

-- a verdict leaves the claims
pub claims_heard : (told : List Told) (reader : ℕ) (c : Body) (key : Key) (sig : Sig) (verdict : Bool) (b : Body) → claims_on (told ++ heard reader c key sig verdict ∷ []) b ≡ claims_on told b
claims_heard told reader c key sig verdict b = claims_push told (heard reader c key sig verdict) b ∙ append-nil (claims_on told b)

-- and is that of its triple, where that had none
pub verdict_heard : (told : List Told) (reader : ℕ) (c : Body) (key : Key) (sig : Sig) (verdict : Bool) (x : Triple)
    → has_verdict told (triple_on c key sig) ≡ false
    → verdict_in (told ++ heard reader c key sig verdict ∷ []) x ≡ (if same_triple x (triple_on c key sig) then Some verdict else verdict_in told x)
unfolding verdict_in
verdict_heard told reader c key sig verdict x new = elim (cases_Bool (same_triple x (triple_on c key sig))) [
  | inl k ↦ rw k (of_it verdict k)
  | inr k ↦ rw k (of_other verdict k)
]
  where
    of_it : (verdict : Bool) → same_triple x (triple_on c key sig) ≡ true → verdict_in (told ++ heard reader c key sig verdict ∷ []) x ≡ Some verdict
    of_it true k = let said = said_push told (heard reader c key sig true) x ∙ or_right (said_yes told x) (same_triple x (triple_on c key sig) || false) (or_left (same_triple x (triple_on c key sig)) false k) in rw said refl
    of_it false k =
        let same = same_triple_is x (triple_on c key sig) k in
        let none = yes_is_heard told (triple_on c key sig) new in
        let said = said_push told (heard reader c key sig false) x ∙ or-false (said_yes told x) ∙ ap (said_yes told) same ∙ none in
        let has = has_push told (heard reader c key sig false) x ∙ or_right (has_verdict told x) (same_triple x (triple_on c key sig) || false) (or_left (same_triple x (triple_on c key sig)) false k) in
        rw (said, has) refl

    of_other : (verdict : Bool) → same_triple x (triple_on c key sig) ≡ false → verdict_in (told ++ heard reader c key sig verdict ∷ []) x ≡ verdict_in told x
    of_other true k =
        let said = said_push told (heard reader c key sig true) x ∙ ap (λ y. said_yes told x || (y || false)) k ∙ or-false (said_yes told x) in
        let has = has_push told (heard reader c key sig true) x ∙ ap (λ y. has_verdict told x || (y || false)) k ∙ or-false (has_verdict told x) in
        rw (said, has) refl
    of_other false k =
        let said = said_push told (heard reader c key sig false) x ∙ or-false (said_yes told x) in
        let has = has_push told (heard reader c key sig false) x ∙ ap (λ y. has_verdict told x || (y || false)) k ∙ or-false (has_verdict told x) in
        rw (said, has) refl
