-- What the closure of a turn does to the value, from the taking of the turn to the giving back.
use Rattle.std.proofs.Common.{◌≡◌, ℕ, List, [], ◌∷◌, ◌++◌, ◌≤◌, ◌<◌, suc, true, true≢false, length, sym, refl, ap, ◌∙◌, subst, Some, None, is_some, Option, MutBor, get_or}
use mathlib.Core.Option.{none}
use Rattle.std.specs.Fn.{Once, FnOnceReturnsAtMut}
use Rattle.atomic_table.specs.Table.{Me, step, rest, Allows}
use Rattle.turn_lock.specs.declared.stage.Stage.TheVariants.{Idle, In}
use Rattle.turn_lock.specs.declared.view.View.{View}
use Rattle.turn_lock.specs.Histories.{has_share, longer_share}
use Rattle.turn_lock.specs.Known.{known_of, after_turn}
use Rattle.turn_lock.specs.Passes.{MayMeet, Appends, AppendsAtMostOne, Turned}
use Rattle.turn_lock.specs.Performs.{Performed}
use Rattle.turn_lock.specs.Rule.{IsLock}
use Rattle.turn_lock.specs.Steps.{out_view, in_view, turning_view, ended_view, TookValueOut, PutValueIn}
use Rattle.turn_lock.proofs.TurnSteps.{puts_value_in}

-- a seat after a turn that was the next one after n others, met this history and appended es
abbrev pub turned_view : {E H : Type 0} → View E H → ℕ → List E → List E → View E H
turned_view v n history es = record v { stage = Idle; seen = history ++ es; own = longer_share v.number es v.own; past = suc n; turns = suc v.turns }

-- a head that is known is the value's, where it is no other
head_is : {H : Type 0} (head : Option H) (x : H) → is_some head ≡ true → ((y : H) → head ≡ Some y → x ≡ y) → head ≡ Some x
head_is (Some y) x some same = ap Some (sym (same y refl))
head_is None x some same = absurd (true≢false (sym some))

module _ {V E H : Type 0} (entries : V → List E) (head_of : V → H) (names : E → ℕ) {F R : Type 0} (g : Once F (MutBor V × Unit {0}) (R × (MutBor V × Unit {0}))) (f : F) where
  -- the seat has the value x, and f left y there
  pub record Ran (v : View E H) (m : Me V (View E H)) (x y : V) (r : R) : Type 0 where
    pub es : List E
    pub meets : MayMeet entries head_of names (known_of v) x
    pub appends : Appends entries head_of names v.number x y es
    pub is : m ≡ (out_view v (entries x), (0, x) ∷ [])

  -- a call of f at the value that went out
  pub ran : (v : View E H) (c : List (ℕ × V)) (m : Me V (View E H)) (x y : V) (r : R) → c ≡ [] → is_some v.head ≡ true → AppendsAtMostOne entries head_of names g f (known_of v) → TookValueOut entries head_of (step 0 0 0 0 none) (v, c) 0 m → m.1 ≡ (0, x) ∷ rest m.1
      → FnOnceReturnsAtMut g f x r y → Ran v m x y r
  ran v c m x y r none_held live acts out here returned =
      let same : out.0 ≡ x = ap (λ (l : List (ℕ × V)). (get_or l 0 (0, x)).1) (sym (ap (λ (p : Me V (View E H)). p.1) out.1) ∙ here) in
      let meets : MayMeet entries head_of names (known_of v) x = subst (MayMeet entries head_of names (known_of v)) same (out.2, head_is v.head (head_of out.0) live out.3) in
      let a = (acts x meets).1 r y returned in
      record { es = a.0; meets = meets; appends = a.1; is = out.1 ∙ (λ i. (out_view v (entries (same i)), (0, same i) ∷ none_held i)) }

  -- the value may go home
  pub comes_home : (first : H) (slots id : ℕ) (v : View E H) (m : Me V (View E H)) (x y : V) (r : R) → has_share v.own v.number ≡ true → Ran v m x y r
      → Allows (IsLock entries head_of names first) slots id (m.0, (0, y) ∷ rest m.1) 0 (λ n. n) (PutValueIn entries (step slots 0 0 0 none) (m.0, (0, y) ∷ rest m.1))
  comes_home first slots id v m x y r live t =
      let a = t.appends in
      subst (λ (p : Me V (View E H)). Allows (IsLock entries head_of names first) slots id (p.0, (0, y) ∷ rest p.1) 0 (λ n. n) (PutValueIn entries (step slots 0 0 0 none) (p.0, (0, y) ∷ rest p.1))) (sym t.is)
      (puts_value_in entries head_of names first slots id (out_view v (entries x), (0, y) ∷ []) y t.es (head_of x) refl live refl a.longer a.one a.named t.meets.1 a.same_head)

  -- the value went home
  pub came_home : (v : View E H) (m w : Me V (View E H)) (x y : V) (r : R) (count : ℕ) → count ≡ length (entries y) → Ran v m x y r → FnOnceReturnsAtMut g f x r y → PutValueIn entries (step 0 0 0 0 none) (m.0, (0, y) ∷ rest m.1) 0 w
      → Performed entries head_of names g f v r count w
  came_home v m w x y r count counted t returned put =
      let a = t.appends in record {
        met = x;
        left = y;
        es = t.es;
        meets = t.meets;
        returned = returned;
        appends = a;
        counted = counted;
        now = put y t.es (ap (λ (p : Me V (View E H)). (0, y) ∷ rest p.1) t.is) (a.longer ∙ ap (λ (p : Me V (View E H)). p.0.seen ++ t.es) (sym t.is)) ∙ ap (λ (p : Me V (View E H)). (in_view p.0 t.es, [])) t.is;
      }

  -- a turn from its taking to its giving back
  pub record Whole (limit n : ℕ) (v : View E H) (r : R) (count : ℕ) (m : Me V (View E H)) : Type 0 where
    pub met : List E
    pub es : List E
    pub turned : Turned entries head_of names g f limit (known_of v) r (known_of m.0)
    pub is : m ≡ (turned_view v n met es, [])
    pub counted : count ≡ length (met ++ es)

  -- the steps of a turn, put together
  pub whole_turn : (limit n : ℕ) (v : View E H) (m o w : Me V (View E H)) (r : R) (count : ℕ) → v.past ≤ n → n < limit → m ≡ (turning_view v n, []) → Performed entries head_of names g f m.0 r count o
      → ((es : List E) → o.0.stage ≡ In es → w ≡ (ended_view o.0 es, o.1)) → Whole limit n v r count w
  whole_turn limit n v m o w r count later within took performed gave = from_turn (subst (λ (p : Me V (View E H)). Performed entries head_of names g f p.0 r count o) took performed)
    where
      from_turn : Performed entries head_of names g f (turning_view v n) r count o → Whole limit n v r count w
      from_turn a =
          let is : w ≡ (turned_view v n (entries a.met) a.es, []) = gave a.es (ap (λ (p : Me V (View E H)). p.0.stage) a.now) ∙ ap (λ (p : Me V (View E H)). (ended_view p.0 a.es, p.1)) a.now in
          let now : known_of w.0 ≡ after_turn (known_of v) n (entries a.left) a.es = ap (λ (p : Me V (View E H)). known_of p.0) is ∙ ap (λ (l : List E). after_turn (known_of v) n l a.es) (sym a.appends.longer) in record {
            met = entries a.met;
            es = a.es;
            turned = record { met = a.met; left = a.left; es = a.es; n = n; meets = a.meets; returned = a.returned; appends = a.appends; later = later; within = within; now = now };
            is = is;
            counted = a.counted ∙ ap length a.appends.longer;
          }
