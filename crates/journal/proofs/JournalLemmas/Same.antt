-- The tests of equality of signatures in journals decide equality.
use Rattle.std.proofs.Common.{◌≡◌, ℕ, Bool, true, false, List, ◌&&◌, not, Option, Some, None, refl, ap, sym, ◌∙◌, inl, inr, if◌then◌else◌}
use Rattle.std.specs.Prelude.{bytes_eq, ◌==◌}
use Rattle.std.specs.Cmp.Lexicographic.{bytes_decides}
use Rattle.std.proofs.lemmas.Bool.{cases_Bool, and_parts, and_from}
use Rattle.key_state.specs.Same.{same_key, same_sig}
use Rattle.key_state.proofs.Same.{numbers, number_itself, same_key_is, same_key_itself, same_sig_is, same_sig_itself}
use Rattle.std.specs.Option.{option_eq}
use Rattle.std.proofs.Math.Bool.{Bool-set}
use Rattle.std.specs.List.{list_any}
use mathlib.Core.HLevel.{is_prop→PathP}
use Rattle.cesr_codes.specs.Indices.{has_form}
use Rattle.cesr_codes.specs.declared.indexed_sig.IndexedSig.{IndexedSig}
use Rattle.journal.specs.declared.journal.claim.Claim.{Claim}
use Rattle.journal.specs.declared.journal.claim.Claim.TheVariants.{Controller, Witness, Couple}
use Rattle.journal.specs.Journal.Replies.{same_indexed, same_claim}
use Rattle.journal.specs.Journal.History.{Triple, same_triple}

pub same_triple_is : (x y : Triple) → same_triple x y ≡ true → x ≡ y
same_triple_is x y h =
    let parts = and_parts (bytes_eq x.body y.body && same_key x.key y.key) (same_sig x.sig y.sig) h in
    let first = and_parts (bytes_eq x.body y.body) (same_key x.key y.key) parts.0 in
    let body = (bytes_decides x.body y.body).0 first.0 in
    let key = same_key_is x.key y.key first.1 in
    let sig = same_sig_is x.sig y.sig parts.1 in
    λ i. record { body = body i; key = key i; sig = sig i }

pub same_triple_itself : (x : Triple) → same_triple x x ≡ true
same_triple_itself x = and_from _ _ (and_from _ _ ((bytes_decides x.body x.body).1 refl) (same_key_itself x.key)) (same_sig_itself x.sig)

same_flag_is : (a b : Bool) → (if a then b else not b) ≡ true → a ≡ b
same_flag_is true true h = refl
same_flag_is true false h = cc
same_flag_is false true h = cc
same_flag_is false false h = refl

same_place_is : (i j : Option ℕ) → option_eq (λ i j. i == j) i j ≡ true → i ≡ j
same_place_is None None h = refl
same_place_is None (Some j) h = cc
same_place_is (Some i) None h = cc
same_place_is (Some i) (Some j) h = ap (λ n. Some n) (numbers i j h)

pub same_indexed_is : (s t : IndexedSig) → same_indexed s t ≡ true → s ≡ t
same_indexed_is s t h =
    let parts = and_parts _ (same_sig s.sig t.sig) h in
    let more = and_parts _ (option_eq (λ i j. i == j) s.ondex t.ondex) parts.0 in
    let first = and_parts _ (s.index == t.index) more.0 in
    let big = same_flag_is s.big t.big first.0 in
    let index = numbers s.index t.index first.1 in
    let ondex = same_place_is s.ondex t.ondex more.1 in
    let sig = same_sig_is s.sig t.sig parts.1 in
    λ i. record { big = big i; index = index i; ondex = ondex i; sig = sig i; form = is_prop→PathP (λ j. has_form (big j) (index j) (ondex j) ≡ true) (λ j. Bool-set (has_form (big j) (index j) (ondex j)) true) s.form t.form i }

same_indexed_itself : (s : IndexedSig) → same_indexed s s ≡ true
same_indexed_itself s = and_from _ _ (and_from _ _ (and_from _ _ (flag s.big) (number_itself s.index)) (place s.ondex)) (same_sig_itself s.sig)
  where
    flag : (a : Bool) → (if a then a else not a) ≡ true
    flag true = refl
    flag false = refl

    place : (i : Option ℕ) → option_eq (λ i j. i == j) i i ≡ true
    place None = refl
    place (Some i) = number_itself i

pub same_claim_is : (c d : Claim) → same_claim c d ≡ true → c ≡ d
same_claim_is (Controller s) (Controller t) h = ap (λ s. Controller s) (same_indexed_is s t h)
same_claim_is (Witness s) (Witness t) h = ap (λ s. Witness s) (same_indexed_is s t h)
same_claim_is (Couple k s) (Couple l t) h =
    let parts = and_parts (same_key k l) (same_sig s t) h in
    let key = same_key_is k l parts.0 in
    let sig = same_sig_is s t parts.1 in
    λ i. Couple (key i) (sig i)
same_claim_is (Controller s) (Witness t) h = cc
same_claim_is (Controller s) (Couple l t) h = cc
same_claim_is (Witness s) (Controller t) h = cc
same_claim_is (Witness s) (Couple l t) h = cc
same_claim_is (Couple k s) (Controller t) h = cc
same_claim_is (Couple k s) (Witness t) h = cc

pub same_claim_itself : (c : Claim) → same_claim c c ≡ true
same_claim_itself (Controller s) = same_indexed_itself s
same_claim_itself (Witness s) = same_indexed_itself s
same_claim_itself (Couple k s) = and_from _ _ (same_key_itself k) (same_sig_itself s)

-- a test that decides equality is the same the other way round, and moves along equals
module _ {X : Type 0} (same : X → X → Bool) (is : (x y : X) → same x y ≡ true → x ≡ y) (itself : (x : X) → same x x ≡ true) where
  pub turned : (x y : X) → same x y ≡ same y x
  turned x y = elim (cases_Bool (same x y)) [
    | inl k ↦ (let e = is x y k in k ∙ sym (ap (λ z. same z x) (sym e) ∙ itself x))
    | inr k ↦ elim (cases_Bool (same y x)) [
      | inl l ↦ (let e = is y x l in let yes_too : same x y ≡ true = ap (λ z. same z y) (sym e) ∙ itself y in cc)
      | inr l ↦ k ∙ sym l
    ]
  ]

  pub any_turned : (x : X) (xs : List X) → list_any (λ y. same y x) xs ≡ list_any (same x) xs
  any_turned x xs = λ i. list_any (λ y. turned y x i) xs

  pub moves : (x y z : X) → same y z ≡ true → same z x ≡ same y x
  moves x y z h = ap (λ w. same w x) (sym (is y z h))
