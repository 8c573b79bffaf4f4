-- Where no two different events have one identifier and number, nothing conflicts.
use Rattle.std.proofs.Common.{◌≡◌, ℕ, ◌≤◌, true, not, List, [], ◌∷◌, ◌++◌, length, Ordering, refl, sym, ◌∙◌, ap, arith, inl, inr}
use Rattle.std.specs.Prelude.{AllPairs, IsTrue}
use Rattle.std.specs.declared.cmp.Ordering.TheVariants.{Less, Equal, Greater}
use Rattle.std.specs.Cmp.Lexicographic.{bytes_decides, slice_cmp}
use Rattle.std.specs.Ordering.{is_eq, nat_cmp, ordering_then}
use Rattle.std.proofs.lemmas.Bool.{and_parts, not-true}
use Rattle.std.proofs.lemmas.Bool.Decides.{nat_tests}
use Rattle.std.proofs.lemmas.Map.Text.{is_eq-slice_cmp}
use Rattle.cesr_codes.specs.Spelling.{IsPrefix, prefix_text}
use Rattle.cesr_codes.specs.declared.prefix.Prefix.{Prefix}
use Rattle.cesr_codes.proofs.Same as texts
use Rattle.event_body.specs.EventBody.Events.{prefix_of, sn_of}
use Rattle.key_state.proofs.Among.{Among, among, contained}
use Rattle.journal.specs.declared.journal.body.Body.{Body}
use Rattle.journal.specs.Journal.Conflicts.{AreConflicts, are_rivals, place_cmp}
use Rattle.journal.specs.Journal.Logs.{same_body}
use Rattle.keri_roles.proofs.CoreRolesLemmas.OneOrder.{all_at}

-- texts that the order doesn't tell apart are one
pub one_of_texts : (xs ys : List ℕ) → is_eq (slice_cmp nat_cmp xs ys) ≡ true → xs ≡ ys
one_of_texts xs ys e = (bytes_decides xs ys).0 (sym (is_eq-slice_cmp xs ys) ∙ e)

pub one_of_prefixes : (p q : Prefix) → IsPrefix p → IsPrefix q → is_eq (slice_cmp nat_cmp (prefix_text p) (prefix_text q)) ≡ true → p ≡ q
one_of_prefixes p q ip iq e = (texts.same_prefix p q [] [] ip iq (ap (λ t. t ++ []) (one_of_texts (prefix_text p) (prefix_text q) e))).0

-- what is told apart neither first nor then
pub both_tied : (o p : Ordering) → is_eq (ordering_then o p) ≡ true → (is_eq o ≡ true) × (is_eq p ≡ true)
both_tied Less p e = cc
both_tied Equal p e = (refl, e)
both_tied Greater p e = cc

number_same : (m n : ℕ) → is_eq (nat_cmp m n) ≡ true → m ≡ n
number_same m n h = grind (arith, nat_tests, h)

-- of events whose prefixes have their bytes, each the only one of its identifier and number
module _ (held : List Body) (held_prefix : (b : Body) → Among b held → IsPrefix (prefix_of b.event))
    (one_each : (b c : Body) → Among b held → Among c held → prefix_of b.event ≡ prefix_of c.event → sn_of b.event ≡ sn_of c.event → b.bytes ≡ c.bytes) where
  no_rivals : (b c : Body) → Among b held → Among c held → IsTrue (are_rivals b c) → ⊥
  unfolding place_cmp
  no_rivals b c m n h =
      let parts = and_parts (is_eq (place_cmp b c)) (not (same_body b c)) h in
      let first = both_tied (slice_cmp nat_cmp (prefix_text (prefix_of b.event)) (prefix_text (prefix_of c.event))) _ parts.0 in
      let second = both_tied (nat_cmp (sn_of b.event) (sn_of c.event)) _ first.1 in
      let prefix = one_of_prefixes (prefix_of b.event) (prefix_of c.event) (held_prefix b m) (held_prefix c n) first.0 in
      let same = (bytes_decides b.bytes c.bytes).1 (one_each b c m n prefix (number_same (sn_of b.event) (sn_of c.event) second.0)) in
      let other = not-true (same_body b c) parts.1 in cc

  -- NONE
  pub no_conflicts : (sets : List (List Body)) → AreConflicts held sets → sets ≡ []
  no_conflicts [] are = refl
  no_conflicts (set ∷ sets) are = absurd (of set (all_at (λ s. 2 ≤ length s) (set ∷ sets) set are.two_or_more (inl refl))
      (all_at (AllPairs (λ b c. IsTrue (are_rivals b c))) (set ∷ sets) set are.only_rivals (inl refl))
      (λ b m. among held b (are.only_counted b (0, set, omega arith, refl, contained set b m))))
    where
      of : (s : List Body) → 2 ≤ length s → AllPairs (λ b c. IsTrue (are_rivals b c)) s → ((b : Body) → Among b s → Among b held) → ⊥
      of [] two rivals inside = omega (arith, two)
      of (b ∷ []) two rivals inside = omega (arith, two)
      of (b ∷ c ∷ rest) two rivals inside = no_rivals b c (inside b (inl refl)) (inside c (inr (inl refl))) (rivals 0 1 b (omega arith) (omega arith))
