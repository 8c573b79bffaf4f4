-- The couples that are sent have witnesses' keys, which can't be rotated.
use Rattle.std.proofs.Common.{◌≡◌, ◌&&◌, ℕ, zero, suc, Bool, true, false, not, List, [], ◌∷◌, ◌++◌, Some, refl, subst, inl, inr}
use Rattle.std.specs.Prelude.{All, IsTrue, filter, slice_get}
use Rattle.std.proofs.lemmas.Bool.{cases_Bool, and_parts}
use Rattle.cesr_codes.specs.declared.key.Key.{Key}
use Rattle.cesr_codes.specs.declared.key.KeyCode.{KeyCode}
use Rattle.cesr_codes.specs.declared.key.KeyCode.TheVariants.{Fixed, Rotating}
use Rattle.claim_table.proofs.CoreLawsLemmas.Entries.{all_from}
use Rattle.export_core.specs.ExportLaws.Export.{is_couple, is_witness, ordered}
use Rattle.key_state.proofs.Among.{Among, among_either, distinct_among, left_among, passing}
use Rattle.journal.specs.declared.journal.body.Body.{Body}
use Rattle.journal.specs.declared.journal.claim.Claim.{Claim}
use Rattle.journal.specs.declared.journal.claim.Claim.TheVariants.{Controller, Witness, Couple}
use Rattle.journal.specs.Journal.History.{Told, claims_on, triple_of}
use Rattle.journal.specs.Journal.Readiness.{yes_to}
use Rattle.journal.specs.Journal.Replies.{is_held, same_claim}
use Rattle.key_state.specs.Same.{are_witnesses, distinct, has_key, is_fixed, same_key}
use Rattle.key_state.proofs.Same.{same_key_is}
use Rattle.export_core.specs.ExportCore.Exported.{sent_by}
use Rattle.export_core.specs.ExportCore.Messages.{IsFixed}
use Rattle.export_core.specs.ExportCore.Signers.{rules_by}
use Rattle.export_core.specs.declared.export_core.signers.Signers.{Signers}

fixed_code : (c : KeyCode) → is_fixed c ≡ true → c ≡ Fixed
fixed_code Fixed h = refl
fixed_code Rotating h = cc

each_fixed : (keys : List Key) (k : Key) → are_witnesses keys ≡ true → Among k keys → k.code ≡ Fixed
each_fixed [] k h m = absurd m
each_fixed (l ∷ keys) k h (inl e) = (let parts = and_parts (is_fixed l.code && not (has_key keys l)) (are_witnesses keys) h in
    subst (λ k. k.code ≡ Fixed) e (fixed_code l.code (and_parts (is_fixed l.code) (not (has_key keys l)) parts.0).0))
each_fixed (l ∷ keys) k h (inr m) = each_fixed keys k (and_parts (is_fixed l.code && not (has_key keys l)) (are_witnesses keys) h).1 m

witness_fixed : (keys : List Key) (k : Key) → are_witnesses keys ≡ true → has_key keys k ≡ true → k.code ≡ Fixed
witness_fixed keys k h has = (let q = passing (λ l. same_key l k) keys has in subst (λ k. k.code ≡ Fixed) (same_key_is q.0 k q.2) (each_fixed keys q.0 h q.1))

among_at : {X : Type 0} (xs : List X) (i : ℕ) (x : X) → slice_get xs i ≡ Some x → Among x xs
among_at [] i x at = cc
among_at (y ∷ xs) zero x at = inl (let is : y ≡ x = cc at in is)
among_at (y ∷ xs) (suc i) x at = inr (among_at xs i x at)

module _ (told : List Told) (own : Signers) (b : Body) (fixed : IsTrue (are_witnesses own.witnesses)) where
  good_fixed : (c : Claim) → yes_to told (triple_of (rules_by own) b c) ≡ true → IsFixed c
  good_fixed (Controller s) good = tt
  good_fixed (Witness s) good = tt
  good_fixed (Couple key sig) good = elim (cases_Bool (has_key own.witnesses key)) as (λ _. key.code ≡ Fixed) [
    | inl k ↦ witness_fixed own.witnesses key fixed k
    | inr k ↦ (let lost : false ≡ true = rw k at good in absurd (cc lost))
  ]

  ordered_from : (claims : List Claim) (c : Claim) → Among c (ordered claims) → Among c claims
  ordered_from claims c m = elim (among_either (filter is_held claims) (filter is_witness claims ++ filter is_couple claims) c m) as (λ _. Among c claims) [
    | inl l ↦ (left_among is_held claims c l).0
    | inr r ↦ elim (among_either (filter is_witness claims) (filter is_couple claims) c r) as (λ _. Among c claims) [
      | inl l ↦ (left_among is_witness claims c l).0
      | inr s ↦ (left_among is_couple claims c s).0
    ]
  ]

  -- FIXED
  pub sent_fixed : All IsFixed (sent_by told own b)
  sent_fixed = all_from IsFixed (sent_by told own b) (λ i c at.
      let good : Claim → Bool = λ c. yes_to told (triple_of (rules_by own) b c) in
      let inside = distinct_among same_claim (filter good (claims_on told b)) c (ordered_from (distinct same_claim (filter good (claims_on told b))) c (among_at (sent_by told own b) i c at)) in
      good_fixed c (left_among good (claims_on told b) c inside).1)
