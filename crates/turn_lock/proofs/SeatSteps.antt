-- Splitting and joining seats keeps the rule.
use Rattle.std.proofs.Common.{◌≡◌, ℕ, subst, eq-eqb, ne_eqb, zero, suc, ◌<◌, ◌≤◌, ◌≢◌, ◌==◌, if◌then◌else◌, List, [], ◌∷◌, ◌++◌, true, true≢false, length, set, sym, refl, ap, ◌∙◌, inl, inr, ⊎_elim, le_refl, le_trans, arith, is_some, length-set}
use Rattle.std.proofs.lemmas.List.Sums.{sum_by_push}
use mathlib.Core.List.{IsPrefix}
use mathlib.Core.Option.{Option, some, some-ne-none}
use mathlib.Core.Logic.{dite}
use native.Mathlib.Decide.{ℕ_discrete}
use lib.ListN.{get_elem?}
use Rattle.atomic_table.specs.Table.{State, Splits, Joins}
use Rattle.atomic_table.proofs.Lists.{set_else, at_longer}
use Rattle.turn_lock.specs.declared.stage.Stage.{Stage}
use Rattle.turn_lock.specs.declared.stage.Stage.TheVariants.{Idle, Turning, Out, In}
use Rattle.turn_lock.specs.declared.view.View.{View}
use Rattle.turn_lock.specs.Histories.{share_of, has_share}
use Rattle.turn_lock.specs.Rule.{LockState, IsPlaced, IsBusy, Fits, IsLock}
use Rattle.turn_lock.specs.Steps.{left_view, right_view, joined_view, gone_view}
use Rattle.turn_lock.proofs.Histories.{either_longer, AllByRecursion-imp, share_of-none, HasShare-append, has_share-append, HasShare-of, has_share-some}
use Rattle.turn_lock.proofs.Sums.{snoc_at, sum_by-set_at}
use Rattle.turn_lock.proofs.Fitting.{fits_set, held_still}

-- a seat's number is below the count of seats
at_less : {A : Type 0} (views : List A) (id : ℕ) (v : A) → get_elem? views id ≡ some v → id < length views
at_less [] id v e = absurd (some-ne-none v (sym e))
at_less (x ∷ xs) zero v e = omega arith
at_less (x ∷ xs) (suc id) v e = omega (arith, at_less xs id v e)

module _ {V E H : Type 0} (entries : V → List E) (head_of : V → H) (names : E → ℕ) (first : H) where
  abbrev R : State V (View E H) → Type 0
  R = IsLock entries head_of names first

  abbrev F : LockState E → ℕ → View E H → Type 0
  F = Fits entries head_of names first

  abbrev P : LockState E → Stage E → List ℕ → List (Option V) → Type 0
  P = IsPlaced entries head_of names first

  abbrev B : LockState E → ℕ → View E H → Stage E → Type 0
  B = IsBusy entries head_of names first

  -- where the value is doesn't depend on the numbers
  placed_on : (l : LockState E) (made' : ℕ) (owner' : ℕ → ℕ) (p : Stage E) (words : List ℕ) (homes : List (Option V)) → P l p words homes → P (record l { made = made'; owner = owner' }) p words homes
  placed_on l made' owner' Idle words homes t = t
  placed_on l made' owner' Turning words homes t = t
  placed_on l made' owner' Out words homes t = t
  placed_on l made' owner' (In es) words homes t = t

  -- nor does the turn
  busy_on : (l : LockState E) (made' : ℕ) (owner' : ℕ → ℕ) (j : ℕ) (u : View E H) (st : Stage E) → B l j u st → B (record l { made = made'; owner = owner' }) j u st
  busy_on l made' owner' j u Idle t = t
  busy_on l made' owner' j u Turning t = t
  busy_on l made' owner' j u Out t = t
  busy_on l made' owner' j u (In es) t = t

  -- the seat fits where numbers have other owners, but not its own
  owned_on : (l : LockState E) (made' : ℕ) (owner' : ℕ → ℕ) (j : ℕ) (u : View E H) → F l j u → l.made ≤ made' → ((k : ℕ) → k ≤ l.made → l.owner k ≡ j → owner' k ≡ j) → (owner' 0 ≡ j → u.splits ≡ made') → F (record l { made = made'; owner = owner' }) j u
  owned_on l made' owner' j u f more same counts = record {
    same_head = f.same_head;
    begins = f.begins;
    begins_too = f.begins_too;
    owns = λ k es o. let a = f.owns k es o in (le_trans a.0 more, same k a.0 a.1, a.2);
    knows = f.knows;
    few = le_trans f.few more;
    counts = counts;
    rests = f.rests;
    busy = busy_on l made' owner' j u u.stage f.busy;
  }

  -- one seat becomes two, and the second has the next number
  pub splits : (id : ℕ) (v : View E H) → v.stage ≡ Idle → has_share v.own v.number ≡ true → v.number ≡ 0 → Splits R id v (left_view v) (right_view v)
  splits id v idle live zeroth s r at =
      let f = r.fits id v at in
      let m = HasShare-of v.own v.number live in
      let zero_is : r.lock.owner 0 ≡ id = ap r.lock.owner (sym zeroth) ∙ (f.owns v.number m.0 m.1).1 in
      let made_is : v.splits ≡ r.lock.made = f.counts zero_is in
      let here = at_less s.views id v at in
      let left = left_view v in
      let right = right_view v in
      let views' : List (View E H) = set s.views id left in
      let wide : length views' ≡ length s.views = length-set s.views id left in
      let N : ℕ = length views' in
      let made' : ℕ = suc r.lock.made in
      let owner' : ℕ → ℕ = λ k. if k == suc r.lock.made then N else r.lock.owner k in
      let old : (k : ℕ) → k ≤ r.lock.made → owner' k ≡ r.lock.owner k = λ k le. ap (λ c. if c then N else r.lock.owner k) (ne_eqb k (suc r.lock.made) (λ e. omega arith)) in
      let zero_still : owner' 0 ≡ id = old 0 (omega arith) ∙ zero_is in
      let Q = F (record r.lock { made = made'; owner = owner' }) in
      record {
        lock = record r.lock { made = made'; owner = owner' };
        placed = placed_on r.lock made' owner' r.lock.phase s.words s.homes r.placed;
        held = ⊎_elim (λ p. inl p) (λ t. inr (t.0, at_longer views' (right ∷ []) r.lock.holder t.0 t.1, t.2)) (held_still s.views r.lock.phase r.lock.holder id v left at idle r.held);
        fits = λ j u e. ⊎_elim
            (λ (x : (j < N) × (get_elem? views' j ≡ some u)). fits_set Q s.views id left
            (λ i y ne g. owned_on r.lock made' owner' i y (r.fits i y g) (omega arith) (λ k le o. old k le ∙ o) (λ o. absurd (ne (sym o ∙ zero_still))))
            record {
              same_head = f.same_head;
              begins = f.begins;
              begins_too = f.begins_too;
              owns = λ k es l. let o = f.owns k es l in (omega (arith, o.0), old k o.0 ∙ o.1, o.2);
              knows = f.knows;
              few = omega (arith, made_is);
              counts = λ _. ap suc made_is;
              rests = λ e. f.rests e;
              busy = subst (λ st. B (record r.lock { made = made'; owner = owner' }) id left st) (sym idle) tt;
            } j u x.1)
            (λ (x : (j ≡ N) × (right ≡ u)). subst (λ (y : ℕ × View E H). Q y.0 y.1) (λ i. (sym x.0 i, x.1 i)) record {
              same_head = f.same_head;
              begins = f.begins;
              begins_too = (r.lock.history, refl);
              owns = λ k es l. ⊎_elim
                  (λ (is : (suc v.splits, []) ≡ (k, es)). subst (λ (q : ℕ × List E). (q.0 ≤ made') × (owner' q.0 ≡ N) × (share_of names q.0 r.lock.history ≡ q.1)) is (
                    omega (arith, made_is),
                    ap (λ c. if c then N else r.lock.owner (suc v.splits)) (eq-eqb (suc v.splits) (suc r.lock.made) (ap suc made_is)),
                    share_of-none names (suc v.splits) r.lock.history (AllByRecursion-imp (λ e. names e ≤ r.lock.made) (λ e. names e ≢ suc v.splits) (λ e le no. omega (arith, made_is)) r.lock.history r.named),
                  ))
                  (λ no. absurd no) l;
              knows = f.knows;
              few = omega arith;
              counts = λ o. absurd (let q : id ≡ N = sym zero_still ∙ o in omega (arith, wide));
              rests = λ e. absurd (omega (arith, ap length e));
              busy = tt;
            })
            (snoc_at views' right u j e);
        summed = (let a = sum_by-set_at (λ (u : View E H). u.turns) s.views id v left at in let b = r.summed in omega (arith, sum_by_push (λ (u : View E H). u.turns) views' right));
        named = AllByRecursion-imp (λ e. names e ≤ r.lock.made) (λ e. names e ≤ made') (λ e le. omega arith) r.lock.history r.named;
      }

  -- two seats become one, which lists the numbers of both
  pub joins : (id : ℕ) (v : View E H) (other : ℕ) (w : View E H) → v.stage ≡ Idle → w.stage ≡ Idle → has_share v.own v.number ≡ true → Joins R id v other w (joined_view v w) gone_view
  joins id v other w idle idle_too live s r at apart there =
      let both = joined_view v w in
      let f = r.fits id v at in
      let there' : get_elem? s.views other ≡ some w = sym (set_else s.views id other both apart) ∙ there in
      let g = r.fits other w there' in
      let views' : List (View E H) = set s.views id both in
      let owner' : ℕ → ℕ = λ k. if r.lock.owner k == other then id else r.lock.owner k in
      let gone : (k : ℕ) → r.lock.owner k ≡ other → owner' k ≡ id = λ k e. ap (λ c. if c then id else r.lock.owner k) (eq-eqb (r.lock.owner k) other e) in
      let stays : (k : ℕ) → r.lock.owner k ≢ other → owner' k ≡ r.lock.owner k = λ k ne. ap (λ c. if c then id else r.lock.owner k) (ne_eqb (r.lock.owner k) other ne) in
      let Q = F (record r.lock { owner = owner' }) in
      record {
        lock = record r.lock { owner = owner' };
        placed = placed_on r.lock r.lock.made owner' r.lock.phase s.words s.homes r.placed;
        held = held_still views' r.lock.phase r.lock.holder other w gone_view there idle_too (held_still s.views r.lock.phase r.lock.holder id v both at idle r.held);
        fits = fits_set Q views' other gone_view
            (λ j u far e. fits_set (λ i y. i ≢ other → Q i y) s.views id both
            (λ i y ne e' ne'. owned_on r.lock r.lock.made owner' i y (r.fits i y e') (le_refl r.lock.made)
            (λ k le o. stays k (λ no. ne' (sym o ∙ no)) ∙ o)
            (λ o. (r.fits i y e').counts (dite (ℕ_discrete (r.lock.owner 0) other) (λ is. absurd (ne (sym o ∙ gone 0 is))) (λ no. sym (stays 0 no) ∙ o))))
            (λ _. record {
              same_head = f.same_head;
              begins = either_longer (λ l _. IsPrefix l r.lock.history) v.seen w.seen (λ _. f.begins) (λ _. g.begins);
              begins_too = either_longer (λ _ l. IsPrefix l r.lock.history) v.seen w.seen (λ _. g.begins) (λ _. f.begins);
              owns = λ k es l. ⊎_elim
                  (λ a. let o = f.owns k es a in (o.0, dite (ℕ_discrete (r.lock.owner k) other) (λ is. gone k is) (λ no. stays k no ∙ o.1), o.2))
                  (λ b. let o = g.owns k es b in (o.0, gone k o.1, o.2))
                  (HasShare-append v.own w.own k es l);
              knows = (let a = f.knows in let b = g.knows in omega arith);
              few = (let a = f.few in let b = g.few in omega arith);
              counts = λ o. dite (ℕ_discrete (r.lock.owner 0) other)
                  (λ is. let a = f.few in let b = g.counts is in omega arith)
                  (λ no. let a = f.counts (sym (stays 0 no) ∙ o) in let b = g.few in omega arith);
              rests = λ e. absurd (has_share-some (v.own ++ w.own) v.number (has_share-append v.own w.own v.number live) e);
              busy = subst (λ st. B (record r.lock { owner = owner' }) id both st) (sym idle) tt;
            }) j u e far)
            record {
              same_head = λ x e. absurd (true≢false (sym (ap is_some e)));
              begins = (r.lock.history, refl);
              begins_too = (r.lock.history, refl);
              owns = λ k es l. absurd l;
              knows = omega arith;
              few = omega arith;
              counts = λ o. absurd (dite (ℕ_discrete (r.lock.owner 0) other) (λ is. apart (sym o ∙ gone 0 is)) (λ no. no (sym (stays 0 no) ∙ o)));
              rests = λ _. (refl, refl);
              busy = tt;
            };
        summed = (let a = sum_by-set_at (λ (u : View E H). u.turns) s.views id v both at in let b = sum_by-set_at (λ (u : View E H). u.turns) views' other w gone_view there in let k = r.summed in omega arith);
        named = r.named;
      }
