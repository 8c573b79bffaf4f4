-- The tables by digests, after an event is added or taken out.
use Rattle.std.proofs.Common.{◌≡◌, ℕ, ◌≤◌, Bool, true, false, cond, List, sym, ap, subst, ◌∙◌, inl, inr, Some, None, arith}
use Rattle.std.specs.Prelude.{◌↔◌, ◌⊎◌, ◌==◌, Contains, Option}
use Rattle.std.proofs.lemmas.Bool.{cases_Bool}
use Rattle.std.proofs.lemmas.Bool.Decides.{Decides-eqb}
use Rattle.cesr_codes.specs.declared.digest.Digest.{Digest}
use Rattle.escrow.specs.declared.escrow.room.Room.{Room}
use Rattle.escrow.specs.declared.escrow.waiter.Waiter.{Waiter}
use Rattle.escrow.specs.Escrow.Tables.{HasNumbers, HasRoom}

module _ (key : Waiter → Option Digest) (at now : ℕ → Option Waiter) (numbers those : Digest → List ℕ) (has : HasNumbers key at numbers) where
  -- where neither changes
  pub has-same : ((q : ℕ) → now q ≡ at q) → ((d : Digest) → those d ≡ numbers d) → HasNumbers key now those
  has-same is same d n = (
    λ h. let w = (has d n).0 (subst (λ ks. Contains ks n) (same d) h) in (w.0, is n ∙ w.1, w.2),
    λ w. subst (λ ks. Contains ks n) (sym (same d)) ((has d n).1 (w.0, sym (is n) ∙ w.1, w.2)),
  )

  module _ (m : ℕ) (w : Waiter) where
    pub has-with : at m ≡ None → ((q : ℕ) → now q ≡ cond (m == q) (Some w) (at q)) → ((d : Digest) (n : ℕ) → Contains (those d) n ↔ (((key w ≡ Some d) × (n ≡ m)) ⊎ Contains (numbers d) n)) → HasNumbers key now those
    has-with none updates more d n = (
      λ h. elim ((more d n).0 h) [
        | inl there ↦ (w, updates n ∙ ap (λ b. cond b (Some w) (at n)) ((Decides-eqb m n).1 (sym there.1)), there.0)
        | inr held ↦ (let v = (has d n).0 held in (v.0, updates n ∙ ap (λ b. cond b (Some w) (at n)) (another n v.0 v.1) ∙ v.1, v.2))
      ],
      λ v. (more d n).1 (elim (cases_Bool (m == n)) [
        | inl t ↦ (let same : Some w ≡ Some v.0 = sym (updates n ∙ ap (λ b. cond b (Some w) (at n)) t) ∙ v.1 in let one : w ≡ v.0 = cc in inl (ap key one ∙ v.2, sym ((Decides-eqb m n).0 t)))
        | inr f ↦ inr ((has d n).1 (v.0, sym (updates n ∙ ap (λ b. cond b (Some w) (at n)) f) ∙ v.1, v.2))
      ]),
    )
      where
        another : (n : ℕ) (v : Waiter) → at n ≡ Some v → (m == n) ≡ false
        another n v is = elim (cases_Bool (m == n)) [ inl t ↦ (let there : at n ≡ None = subst (λ q. at q ≡ None) ((Decides-eqb m n).0 t) none in cc (there, is)) | inr f ↦ f ]

    pub has-without : at m ≡ Some w → ((q : ℕ) → now q ≡ cond (m == q) None (at q)) → ((d : Digest) (n : ℕ) → Contains (those d) n ↔ ((((key w ≡ Some d) × (n ≡ m)) → ⊥) × Contains (numbers d) n)) → HasNumbers key now those
    has-without some updates less d n = (
      λ h. let both = (less d n).0 h in let v = (has d n).0 both.1 in elim (cases_Bool (m == n)) [
        | inl t ↦ absurd (let there : at n ≡ Some w = subst (λ q. at q ≡ Some w) ((Decides-eqb m n).0 t) some in let one : w ≡ v.0 = cc (there, v.1) in both.0 (ap key one ∙ v.2, sym ((Decides-eqb m n).0 t)))
        | inr f ↦ (v.0, updates n ∙ ap (λ b. cond b None (at n)) f ∙ v.1, v.2)
      ],
      λ v. elim (cases_Bool (m == n)) [
        | inl t ↦ (let gone : now n ≡ None = updates n ∙ ap (λ b. cond b None (at n)) t in absurd (no v.0 (sym gone ∙ v.1)))
        | inr f ↦ (less d n).1 (λ there. not_both f ((Decides-eqb m n).1 (sym there.1)), (has d n).1 (v.0, sym (updates n ∙ ap (λ b. cond b None (at n)) f) ∙ v.1, v.2))
      ],
    )
      where
        no : (v : Waiter) → None ≡ Some v → ⊥
        no v e = cc e

        not_both : {b : Bool} → b ≡ false → b ≡ true → ⊥
        not_both f t = cc (f, t)

-- what is kept stays kept where there is no less room for it
pub room-kept : (room : Option Room) (spare more : ℕ) (prior priors said saids : Digest → ℕ) → HasRoom room spare prior said → spare ≤ more
    → ((r : Room) (d : Digest) → room ≡ Some r → r.prior ≡ Some d → prior d ≤ priors d) → ((r : Room) → room ≡ Some r → said r.said ≤ saids r.said) → HasRoom room more priors saids
room-kept room spare more prior priors said saids has one two three r is =
    let h = has r is in
    (omega (arith, h.0, one), λ d e. omega (arith, h.1 d e, two r d is e), omega (arith, h.2, three r is))
