-- The family of an identifier, as it is found one by one.
use Rattle.std.proofs.Common.{◌≡◌, ◌⊎◌, Bool, true, false, cond, List, [], ◌∷◌, Some, None, refl, sym, ◌∙◌, ap, subst, inl, inr}
use Rattle.std.specs.BTreeMap.{is_at}
use Rattle.std.specs.BTreeSet.{BTreeSet, contains}
use Rattle.std.proofs.lemmas.Bool.{cases_Bool}
use Rattle.cesr_codes.specs.declared.prefix.Prefix.{Prefix}
use Rattle.export_core.specs.ExportLaws.Export.{InFamily, IsFamily, delegator, delegator_if, itself}
use Rattle.key_state.proofs.Among.{Among, passed, passing}
use Rattle.export_core.proofs.ExportLawsLemmas.Family.{family_by}
use Rattle.journal.specs.declared.journal.body.Body.{Body}
use Rattle.journal.specs.Journal.Logs.{state}
use Rattle.key_state.specs.Same.{same_prefix}
use Rattle.key_state.proofs.Same.{same_prefix_is, same_prefix_itself}
use Rattle.export_core.specs.ExportCore.Exported.{prefix_cmp}
use Rattle.export_core.proofs.ExportCoreLemmas.Orders.{prefix_at}

-- the second list has the members of the first, and one more
pub record Joins (old : List Prefix) (d : Prefix) (new : List Prefix) : Type 0 where
  pub kept : (p : Prefix) → Among p old → Among p new
  pub there : Among d new
  pub either : (p : Prefix) → Among p new → Among p old ⊎ (d ≡ p)

-- a set has its keys alone
pub has_among : (set : BTreeSet Prefix) (p : Prefix) → contains prefix_cmp set p ≡ true → Among p set.keys
has_among set p h =
    let q = passing (is_at (prefix_cmp p)) set.keys h in
    subst (λ x. Among x set.keys) (sym (same_prefix_is p q.0 (sym (prefix_at p q.0) ∙ q.2))) q.1

among_has : (set : BTreeSet Prefix) (p : Prefix) → Among p set.keys → contains prefix_cmp set p ≡ true
among_has set p m = passed (is_at (prefix_cmp p)) set.keys p m (prefix_at p p ∙ same_prefix_itself p)

-- one that is inserted joins its keys
pub inserted : (old new : BTreeSet Prefix) (d : Prefix) → ((q : Prefix) → contains prefix_cmp new q ≡ cond (is_at (prefix_cmp d) q) true (contains prefix_cmp old q))
    → Joins old.keys d new.keys
inserted old new d updates = record {
  kept = λ p m. has_among new p (updates p ∙ ap (cond (is_at (prefix_cmp d) p) true) (among_has old p m) ∙ either_way (is_at (prefix_cmp d) p));
  there = has_among new d (updates d ∙ ap (λ b. cond b true (contains prefix_cmp old d)) (prefix_at d d ∙ same_prefix_itself d));
  either = λ p m. elim (cases_Bool (same_prefix d p)) as (λ _. Among p old.keys ⊎ (d ≡ p)) [
    | inl k ↦ inr (same_prefix_is d p k)
    | inr k ↦ inl (has_among old p (sym (updates p ∙ ap (λ b. cond b true (contains prefix_cmp old p)) (prefix_at d p ∙ k)) ∙ among_has new p m))
  ];
}
  where
    either_way : (b : Bool) → cond b true true ≡ true
    either_way true = refl
    either_way false = refl

module _ (log : List Body) (first : Prefix) where
  -- the first and the last are among those found, which are of the family, and the delegator of each but the last is there
  pub record AreFound (last : Prefix) (family : List Prefix) : Type 0 where
    pub first_there : Among first family
    pub last_there : Among last family
    pub all_of : (p : Prefix) → Among p family → InFamily log first p
    pub closed : (p : Prefix) → Among p family → (p ≡ last) ⊎ ((d : Prefix) → delegator_if (state log p) ≡ Some d → Among d family)

  pub first_found : AreFound first (first ∷ [])
  first_found = record {
    first_there = inl refl;
    last_there = inl refl;
    all_of = λ p m. elim m as (λ _. InFamily log first p) [ inl e ↦ subst (InFamily log first) e itself | inr none ↦ absurd none ];
    closed = λ p m. elim m as (λ _. (p ≡ first) ⊎ ((d : Prefix) → delegator_if (state log p) ≡ Some d → Among d (first ∷ []))) [ inl e ↦ inl (sym e) | inr none ↦ absurd none ];
  }

  module _ (last : Prefix) (family : List Prefix) (are : AreFound last family) where
    -- one more is found: the delegator of the last
    pub one_more : (d : Prefix) → delegator_if (state log last) ≡ Some d → (more : List Prefix) → Joins family d more → AreFound d more
    one_more d is more joins = record {
      first_there = joins.kept first are.first_there;
      last_there = joins.there;
      all_of = λ p m. elim (joins.either p m) as (λ _. InFamily log first p) [
        | inl l ↦ are.all_of p l
        | inr e ↦ subst (InFamily log first) e (delegator (are.all_of last are.last_there) is)
      ];
      closed = λ p m. elim (joins.either p m) as (λ _. (p ≡ d) ⊎ ((x : Prefix) → delegator_if (state log p) ≡ Some x → Among x more)) [
        | inl l ↦ elim (are.closed p l) as (λ _. (p ≡ d) ⊎ ((x : Prefix) → delegator_if (state log p) ≡ Some x → Among x more)) [
          | inl e ↦ inr (λ x k. (let same : Some d ≡ Some x = sym is ∙ ap (λ q. delegator_if (state log q)) (sym e) ∙ k in let one : d ≡ x = cc same in subst (λ y. Among y more) one joins.there))
          | inr all ↦ inr (λ x k. joins.kept x (all x k))
        ]
        | inr e ↦ inl (sym e)
      ];
    }

    -- WHOLE: where the last has no delegator, or one that is there already
    pub whole_none : delegator_if (state log last) ≡ None → IsFamily log first family
    whole_none none = family_by log first family are.first_there are.all_of (λ p d m k. elim (are.closed p m) as (λ _. Among d family) [
      | inl e ↦ (let lost : None ≡ Some d = sym none ∙ ap (λ q. delegator_if (state log q)) (sym e) ∙ k in absurd (cc lost))
      | inr all ↦ all d k
    ])

    pub whole_there : (d : Prefix) → delegator_if (state log last) ≡ Some d → Among d family → IsFamily log first family
    whole_there d is there = family_by log first family are.first_there are.all_of (λ p x m k. elim (are.closed p m) as (λ _. Among x family) [
      | inl e ↦ (let same : Some d ≡ Some x = sym is ∙ ap (λ q. delegator_if (state log q)) (sym e) ∙ k in let one : d ≡ x = cc same in
          subst (λ y. Among y family) one there)
      | inr all ↦ all x k
    ])
