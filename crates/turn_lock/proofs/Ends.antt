-- The first state of a lock keeps the rule, and what its last state says.
use Rattle.std.proofs.Common.{◌≡◌, ℕ, subst, zero, suc, ◌≤◌, ◌≢◌, List, [], ◌∷◌, true, true≢false, length, sym, refl, ap, ◌∙◌, inl, ⊎_elim, append-nil, arith, Option, Some, None, is_some, unwrap_or}
use Rattle.std.specs.List.{AllByRecursion}
use Rattle.std.proofs.lemmas.List.Elements.{All-from_recursion}
use mathlib.Core.List.{IsPrefix}
use mathlib.Core.Option.{some, some-injective, some-ne-none}
use mathlib.Core.Logic.{dite}
use native.Mathlib.Decide.{ℕ_discrete}
use lib.ListN.{get_elem?}
use Rattle.atomic_table.specs.Table.{State, opening, Final, Seen}
use Rattle.turn_lock.specs.declared.stage.Stage.TheVariants.{Idle}
use Rattle.turn_lock.specs.declared.view.View.{View}
use Rattle.turn_lock.specs.Histories.{share_of, HasShare}
use Rattle.turn_lock.specs.Known.{known_of, IsWhole}
use Rattle.turn_lock.specs.Passes.{Closes}
use Rattle.turn_lock.specs.Rule.{LockState, IsPlaced, Fits, IsLock}
use Rattle.turn_lock.specs.Steps.{first_view}
use Rattle.turn_lock.proofs.Histories.{AllByRecursion-imp, HasShare-of}
use Rattle.turn_lock.proofs.Sums.{same_at, sum_by-only}

-- no share is listed
own_none : {E : Type 0} (own : List (ℕ × List E)) → ((k : ℕ) (es : List E) → HasShare own k es → ⊥) → own ≡ []
own_none [] nothing = refl
own_none (p ∷ ps) nothing = absurd (nothing p.0 p.1 (inl refl))

-- the head that is known
some_of : {H : Type 0} (top : Option H) → is_some top ≡ true → (x : H) × (top ≡ Some x)
some_of (Some x) e = (x, refl)
some_of None e = absurd (true≢false (sym e))

-- a lock that nobody has taken
abbrev new_lock : {E : Type 0} → LockState E
new_lock = record { history = []; taken = 0; made = 0; holder = 0; owner = λ _. 0; phase = Idle }

module _ {V E H : Type 0} (entries : V → List E) (head_of : V → H) (names : E → ℕ) (first : H) where
  abbrev R : State V (View E H) → Type 0
  R = IsLock entries head_of names first

  abbrev F : LockState E → ℕ → View E H → Type 0
  F = Fits entries head_of names first

  -- the rule holds of a new lock
  pub opens : (value : V) → entries value ≡ [] → head_of value ≡ first → R (opening (0 ∷ []) (value ∷ []) (first_view first))
  opens value empty same_head = record {
    lock = new_lock;
    placed = (refl, (value, refl, empty, same_head));
    held = inl refl;
    fits = one;
    summed = refl;
    named = tt;
  }
    where
      start : F new_lock 0 (first_view first)
      start = record {
        same_head = λ x e. ap (λ o. unwrap_or o first) (sym e);
        begins = ([], refl);
        begins_too = ([], refl);
        owns = λ k es l. ⊎_elim (λ (is : (0, []) ≡ (k, es)). subst (λ (q : ℕ × List E). (q.0 ≤ 0) × (◌≡◌ {A = ℕ} 0 0) × ([] ≡ q.1)) is (omega arith, refl, refl)) (λ no. absurd no) l;
        knows = omega arith;
        few = omega arith;
        counts = λ _. refl;
        rests = λ e. absurd (omega (arith, ap length e));
        busy = tt;
      }

      one : (j : ℕ) (u : View E H) → get_elem? (first_view first ∷ []) j ≡ some u → F new_lock j u
      one zero u e = subst (F new_lock 0) (some-injective _ _ e) start
      one (suc j) u e = absurd (some-ne-none u (sym e))

  -- the last state, where one seat lists all numbers
  pub closes : (id : ℕ) (v : View E H) (ws : List ℕ) (xs : List V) (value : V) → v.stage ≡ Idle → is_some v.head ≡ true → IsWhole (known_of v) → Final (Seen R id v) ws xs → get_elem? xs 0 ≡ some value → Closes entries head_of names (known_of v) value
  closes id v ws xs value idle live all (s, (r, at), words, wide, homes) here =
      let f = r.fits id v at in
      let x = some_of v.head live in
      let z = HasShare-of v.own 0 (all 0 (omega arith)) in
      let made_is : v.splits ≡ r.lock.made = f.counts (f.owns 0 z.0 z.1).1 in
      let alone : (j : ℕ) (u : View E H) → j ≢ id → get_elem? s.views j ≡ some u → u.own ≡ [] = λ j u ne e. own_none u.own (λ k es l.
      let a = (r.fits j u e).owns k es l in let b = HasShare-of v.own k (all k (omega (arith, made_is, a.0))) in ne (sym a.1 ∙ (f.owns k b.0 b.1).1)) in
      let free : r.lock.phase ≡ Idle = ⊎_elim (λ p. p) (λ (t : (u : View E H) × (get_elem? s.views r.lock.holder ≡ some u) × (u.stage ≡ r.lock.phase)). sym t.2 ∙ dite (ℕ_discrete r.lock.holder id)
      (λ same. ap (λ (u : View E H). u.stage) (same_at s.views id t.0 v (subst (λ k. get_elem? s.views k ≡ some t.0) same t.1) at) ∙ idle)
      (λ other. ((r.fits r.lock.holder t.0 t.1).rests (alone r.lock.holder t.0 other t.1)).1)) r.held in
      let p = subst (λ st. IsPlaced entries head_of names first r.lock st s.words s.homes) free r.placed in
      let y = p.1.0 in
      let same : y ≡ value = some-injective y value (sym (homes 0 y (ap (λ hs. get_elem? hs 0) p.1.1)) ∙ here) in
      let whole : entries y ≡ r.lock.history = p.1.2 ∙ append-nil r.lock.history in
      let count : v.turns ≡ r.lock.taken = sym (sum_by-only (λ (u : View E H). u.turns) s.views id v at (λ j u ne e. ((r.fits j u e).rests (alone j u ne e)).0)) ∙ r.summed in
      let named = AllByRecursion-imp (λ e. names e ≤ r.lock.made) (λ e. names e ≤ v.splits) (λ e le. omega (arith, made_is)) r.lock.history r.named in
      subst (Closes entries head_of names (known_of v)) same record {
        same_head = x.1 ∙ ap Some (f.same_head x.0 x.1 ∙ sym p.1.3);
        begins = subst (IsPrefix v.seen) (sym whole) f.begins;
        own = λ k es l. ap (share_of names k) whole ∙ (f.owns k es l).2;
        named = All-from_recursion (λ e. names e ≤ v.splits) (entries y) (subst (AllByRecursion (λ e. names e ≤ v.splits)) (sym whole) named);
        taken = (let k = f.knows in omega (arith, count));
      }
