-- The lists at each digest, after that of one digest was written.
use Rattle.std.proofs.Common.{◌≡◌, ◌≢◌, ◌≤◌, ℕ, Bool, true, false, cond, [], sym, ap, subst, ◌∙◌, inl, inr, Some, None, arith}
use Rattle.std.specs.Prelude.{◌↔◌, ◌⊎◌, Contains, Option}
use Rattle.std.proofs.lemmas.Bool.{cases_Bool}
use Rattle.cesr_codes.specs.declared.digest.Digest.{Digest}
use Rattle.escrow.specs.EventIndex.Numbers.{Numbers}
use Rattle.escrow.specs.EventIndex.Keys.{numbers_in}
use Rattle.escrow.specs.Escrow.Tables.{digest_eq, room_in}
use Rattle.escrow.proofs.EscrowLemmas.Digests.{Decides-digest_eq}

module _ (old new : Digest → Option Numbers) (key : Digest) (was is : Numbers) (got : old key ≡ Some was) (updates : (q : Digest) → new q ≡ cond (digest_eq key q) (Some is) (old q)) where
  -- at the digest stands what was written, and at another what stood
  written : (d : Digest) → ((key ≡ d) × (new d ≡ Some is) × (old d ≡ Some was)) ⊎ ((key ≢ d) × (new d ≡ old d))
  written d = elim (cases_Bool (digest_eq key d)) [
    | inl t ↦ (let same = (Decides-digest_eq key d).0 t in inl (same, updates d ∙ ap (λ b. cond b (Some is) (old d)) t, subst (λ q. old q ≡ Some was) same got))
    | inr f ↦ inr (λ same. no f ((Decides-digest_eq key d).1 same), updates d ∙ ap (λ b. cond b (Some is) (old d)) f)
  ]
    where
      no : {b : Bool} → b ≡ false → b ≡ true → ⊥
      no f t = cc (f, t)

  pub same_list : is.list ≡ was.list → (d : Digest) → numbers_in (new d) ≡ numbers_in (old d)
  same_list e d = elim (written d) [
    | inl w ↦ ap numbers_in w.1 ∙ e ∙ sym (ap numbers_in w.2)
    | inr w ↦ ap numbers_in w.1
  ]

  pub more_room : was.free ≤ is.free → (d : Digest) → room_in (old d) ≤ room_in (new d)
  more_room more d = elim (written d) [
    | inl w ↦ (let now = ap room_in w.1 in let before = ap room_in w.2 in omega (arith, more, now, before))
    | inr w ↦ (let same = ap room_in w.1 in omega (arith, same))
  ]

  module _ (digest : Option Digest) (named : digest ≡ Some key) (number : ℕ) where
    pub inserted : ((n : ℕ) → Contains is.list n ↔ ((n ≡ number) ⊎ Contains was.list n))
        → (d : Digest) (n : ℕ) → Contains (numbers_in (new d)) n ↔ (((digest ≡ Some d) × (n ≡ number)) ⊎ Contains (numbers_in (old d)) n)
    inserted one d n = elim (written d) [
      | inl w ↦ (
        λ h. elim ((one n).0 (subst (λ o. Contains (numbers_in o) n) w.1 h)) [
          | inl same ↦ inl (named ∙ ap (λ q. Some q) w.0, same)
          | inr held ↦ inr (subst (λ o. Contains (numbers_in o) n) (sym w.2) held)
        ],
        λ h. subst (λ o. Contains (numbers_in o) n) (sym w.1) ((one n).1 (elim h [ inl there ↦ inl there.1 | inr held ↦ inr (subst (λ o. Contains (numbers_in o) n) w.2 held) ])),
      )
      | inr w ↦ (
        λ h. inr (subst (λ o. Contains (numbers_in o) n) w.1 h),
        λ h. elim h [ inl there ↦ absurd (w.0 (let same : Some key ≡ Some d = sym named ∙ there.0 in cc)) | inr held ↦ subst (λ o. Contains (numbers_in o) n) (sym w.1) held ],
      )
    ]

    pub removed : ((n : ℕ) → Contains is.list n ↔ ((n ≢ number) × Contains was.list n))
        → (d : Digest) (n : ℕ) → Contains (numbers_in (new d)) n ↔ ((((digest ≡ Some d) × (n ≡ number)) → ⊥) × Contains (numbers_in (old d)) n)
    removed one d n = elim (written d) [
      | inl w ↦ (
        λ h. let both = (one n).0 (subst (λ o. Contains (numbers_in o) n) w.1 h) in (λ there. both.0 there.1, subst (λ o. Contains (numbers_in o) n) (sym w.2) both.1),
        λ h. subst (λ o. Contains (numbers_in o) n) (sym w.1) ((one n).1 (λ same. h.0 (named ∙ ap (λ q. Some q) w.0, same), subst (λ o. Contains (numbers_in o) n) w.2 h.1)),
      )
      | inr w ↦ (
        λ h. (λ there. w.0 (let same : Some key ≡ Some d = sym named ∙ there.0 in cc), subst (λ o. Contains (numbers_in o) n) w.1 h),
        λ h. subst (λ o. Contains (numbers_in o) n) (sym w.1) h.1,
      )
    ]

-- a list that is put in where there was none
module _ (old new : Digest → Option Numbers) (key : Digest) (is : Numbers) (none : old key ≡ None) (updates : (q : Digest) → new q ≡ cond (digest_eq key q) (Some is) (old q)) where
  put_in : (d : Digest) → ((new d ≡ Some is) × (old d ≡ None)) ⊎ (new d ≡ old d)
  put_in d = elim (cases_Bool (digest_eq key d)) [
    | inl t ↦ inl (updates d ∙ ap (λ b. cond b (Some is) (old d)) t, subst (λ q. old q ≡ None) ((Decides-digest_eq key d).0 t) none)
    | inr f ↦ inr (updates d ∙ ap (λ b. cond b (Some is) (old d)) f)
  ]

  pub none_more : is.list ≡ [] → (d : Digest) → numbers_in (new d) ≡ numbers_in (old d)
  none_more empty d = elim (put_in d) [
    | inl there ↦ ap numbers_in there.0 ∙ empty ∙ sym (ap numbers_in there.1)
    | inr same ↦ ap numbers_in same
  ]

  pub no_less_room : (d : Digest) → room_in (old d) ≤ room_in (new d)
  no_less_room d = elim (put_in d) [
    | inl there ↦ (let before = ap room_in there.1 in omega (arith, before))
    | inr same ↦ (let is = ap room_in same in omega (arith, is))
  ]

-- where the list of a digest goes, the others stay
pub others_stay : (old new : Digest → Option Numbers) (key : Digest) → ((q : Digest) → new q ≡ cond (digest_eq key q) None (old q)) → (d : Digest) → key ≢ d → new d ≡ old d
others_stay old new key updates d other = elim (cases_Bool (digest_eq key d)) [
  | inl t ↦ absurd (other ((Decides-digest_eq key d).0 t))
  | inr f ↦ updates d ∙ ap (λ b. cond b None (old d)) f
]
