-- The steps of a turn keep the rule, and tell what they say.
use Rattle.std.proofs.Common.{◌≡◌, ℕ, eqb, subst, eq-eqb, ne_eqb, suc, ◌+◌, ◌*◌, ◌/◌, ◌%◌, ◌≤◌, ◌≢◌, ◌⊎◌, ⊎_elim, Bool, true, false, true≢false, le_trans, List, [], ◌∷◌, ◌++◌, length, get_or, set, sym, refl, ap, ◌∙◌, inl, inr, append-nil, le_refl, arith, slice_index, Some, if◌then◌else◌}
use Rattle.std.specs.List.{AllByRecursion}
use mathlib.Core.List.{IsPrefix, append_cancel_left}
use mathlib.Core.Option.{Option, some, none}
use mathlib.Core.Logic.{dite}
use native.Mathlib.Decide.{ℕ_discrete}
use prog.Atomic.{either}
use lib.ListN.{get_elem?}
use Rattle.atomic_table.specs.Table.{State, Me, step, keeps, takes, gives, rest, homes_after, carried_after, Allows, stepped}
use Rattle.atomic_table.proofs.Lists.{set_again}
use Rattle.turn_lock.specs.declared.stage.Stage.{Stage}
use Rattle.turn_lock.specs.declared.stage.Stage.TheVariants.{Idle, Turning, Out, In}
use Rattle.turn_lock.specs.declared.view.View.{View}
use Rattle.turn_lock.specs.Histories.{share_of, has_share, longer_share}
use Rattle.turn_lock.specs.Rule.{LockState, IsPlaced, IsBusy, Fits, IsLock}
use Rattle.turn_lock.specs.Steps.{looked_view, turning_view, out_view, in_view, ended_view, Looked, Compared, TookTurn, TookValueOut, PutValueIn, GaveBack}
use Rattle.turn_lock.proofs.Histories.{prefix_append, comparable, AllByRecursion-imp, AllByRecursion-append, share_of-none, share_of-all, share_of-append, HasShare-longer_share, has_share-longer_share, HasShare-of, has_share-some}
use Rattle.turn_lock.proofs.Sums.{set_at, sum_by-set_at, sum_by-at}
use Rattle.turn_lock.proofs.Fitting.{word_set, word_again, fits_set, held_still}

-- whether the seat hasn't the turn, and what it appended
abbrev is_idle : {E : Type 0} → Stage E → Bool
is_idle Idle = true
is_idle Turning = false
is_idle Out = false
is_idle (In es) = false

abbrev inside : {E : Type 0} → List E → Stage E → List E
inside d (In es) = es
inside d _ = d

module _ {V E H : Type 0} (entries : V → List E) (head_of : V → H) (names : E → ℕ) (first : H) where
  abbrev R : State V (View E H) → Type 0
  R = IsLock entries head_of names first

  abbrev F : LockState E → ℕ → View E H → Type 0
  F = Fits entries head_of names first

  abbrev P : LockState E → Stage E → List ℕ → List (Option V) → Type 0
  P = IsPlaced entries head_of names first

  abbrev B : LockState E → ℕ → View E H → Stage E → Type 0
  B = IsBusy entries head_of names first

  -- the word says how many turns were taken, and whether a seat has the turn
  word_is : (l : LockState E) (p : Stage E) (words : List ℕ) (homes : List (Option V)) → P l p words homes → (x : ℕ) × (words ≡ x ∷ []) × (x / 2 ≡ l.taken) × (x % 2 ≡ 0 → p ≡ Idle)
  word_is l Idle words homes t = (2 * l.taken, t.0, omega arith, λ _. refl)
  word_is l Turning words homes t = (suc (2 * l.taken), t.0, omega arith, λ even. absurd (omega arith))
  word_is l Out words homes t = (suc (2 * l.taken), t.0, omega arith, λ even. absurd (omega arith))
  word_is l (In es) words homes t = (suc (2 * l.taken), t.0, omega arith, λ even. absurd (omega arith))

  -- a seat that hasn't the turn is idle
  idle_else : (l : LockState E) (j : ℕ) (u : View E H) (st : Stage E) → B l j u st → (l.phase ≡ Idle) ⊎ (j ≢ l.holder) → st ≡ Idle
  idle_else l j u Idle b w = refl
  idle_else l j u Turning b (inl i) = absurd (true≢false (ap is_idle (sym i ∙ b.0)))
  idle_else l j u Turning b (inr n) = absurd (n b.1)
  idle_else l j u Out b (inl i) = absurd (true≢false (ap is_idle (sym i ∙ b.0)))
  idle_else l j u Out b (inr n) = absurd (n b.1)
  idle_else l j u (In es) b (inl i) = absurd (true≢false (ap is_idle (sym i ∙ b.0)))
  idle_else l j u (In es) b (inr n) = absurd (n b.1)

  -- the seat id has the turn or nobody has it, so every other seat is idle
  others_idle : (s : State V (View E H)) (r : R s) (id : ℕ) → (r.lock.phase ≡ Idle) ⊎ (id ≡ r.lock.holder) → (j : ℕ) (u : View E H) → j ≢ id → get_elem? s.views j ≡ some u → u.stage ≡ Idle
  others_idle s r id alone j u ne e = idle_else r.lock j u u.stage (r.fits j u e).busy (⊎_elim (λ p. inl p) (λ is. inr (λ same. ne (same ∙ sym is))) alone)

  -- a seat that is idle fits where the history is longer, more turns were taken, or another seat has the turn
  idle_on : (l : LockState E) (history' : List E) (taken' holder' : ℕ) (phase' : Stage E) (j : ℕ) (u : View E H) → F l j u → u.stage ≡ Idle → l.taken ≤ taken' → ((xs : List E) → IsPrefix xs l.history → IsPrefix xs history')
      → ((k : ℕ) → k ≤ l.made → l.owner k ≡ j → share_of names k history' ≡ share_of names k l.history) → F (record l { history = history'; taken = taken'; holder = holder'; phase = phase' }) j u
  idle_on l history' taken' holder' phase' j u f idle more begins same = record {
    same_head = f.same_head;
    begins = begins u.seen f.begins;
    begins_too = begins u.beside f.begins_too;
    owns = λ k es o. let a = f.owns k es o in (a.0, a.1, same k a.0 a.1 ∙ a.2);
    knows = le_trans f.knows more;
    few = f.few;
    counts = f.counts;
    rests = f.rests;
    busy = subst (λ st. B (record l { history = history'; taken = taken'; holder = holder'; phase = phase' }) j u st) (sym idle) tt;
  }

  -- where the seat id has the turn or nobody has it, the rule holds on with the turn at that seat, once the word, the slot and its view say so
  turn_on : (s : State V (View E H)) (r : R s) (id : ℕ) (v : View E H) (st : Stage E) (n : ℕ) (xs : List E) (words : List ℕ) (homes : List (Option V)) → get_elem? s.views id ≡ some v → has_share v.own v.number ≡ true → (r.lock.phase ≡ Idle) ⊎ (id ≡ r.lock.holder)
      → n ≤ r.lock.taken → IsPrefix xs r.lock.history → P (record r.lock { holder = id; phase = st }) st words homes → B (record r.lock { holder = id; phase = st }) id (record v { stage = st; past = n; seen = xs }) st
      → R record { words = words; homes = homes; views = set s.views id (record v { stage = st; past = n; seen = xs }) }
  turn_on s r id v st n xs words homes at live alone known begins placed busy =
      let l = r.lock in
      let f = r.fits id v at in
      let w : View E H = record v { stage = st; past = n; seen = xs } in record {
        lock = record l { holder = id; phase = st };
        placed = placed;
        held = inr (w, set_at s.views id v w at, refl);
        fits = fits_set (F (record l { holder = id; phase = st })) s.views id w (λ j u ne e. idle_on l l.history l.taken id st j u (r.fits j u e) (others_idle s r id alone j u ne e) (le_refl l.taken) (λ xs q. q) (λ k _ _. refl)) record {
          same_head = f.same_head;
          begins = begins;
          begins_too = f.begins_too;
          owns = f.owns;
          knows = known;
          few = f.few;
          counts = f.counts;
          rests = λ e. absurd (has_share-some v.own v.number live e);
          busy = busy;
        };
        summed = (let a = sum_by-set_at (λ (u : View E H). u.turns) s.views id v w at in let b = r.summed in omega arith);
        named = r.named;
      }

  -- a load by a seat that hasn't the turn
  pub looks : (slots id : ℕ) (me : Me V (View E H)) → me.0.stage ≡ Idle → Allows R slots id me 0 (λ n. n) (Looked (step slots 0 0 0 none) me)
  looks slots id me idle s r _ at _ =
      let v = me.0 in
      let n = slice_index s.words 0 in
      let f = r.fits id v at in
      let t = word_is r.lock r.lock.phase s.words s.homes r.placed in
      let now : n / 2 ≡ r.lock.taken = ap (λ ws. slice_index ws 0 / 2) t.1 ∙ t.2 in
      let w = looked_view v (n / 2) in (
        w,
        keeps,
        tt,
        record {
          lock = r.lock;
          placed = subst (λ ws. P r.lock r.lock.phase ws s.homes) (sym (word_again s.words t.0 t.1)) r.placed;
          held = held_still s.views r.lock.phase r.lock.holder id v w at idle r.held;
          fits = fits_set (F r.lock) s.views id w (λ j u _ e. r.fits j u e) record {
            same_head = f.same_head;
            begins = f.begins;
            begins_too = f.begins_too;
            owns = f.owns;
            knows = omega (arith, now);
            few = f.few;
            counts = f.counts;
            rests = λ e. ((f.rests e).0, refl);
            busy = tt;
          };
          summed = (let a = sum_by-set_at (λ (u : View E H). u.turns) s.views id v w at in let b = r.summed in omega arith);
          named = r.named;
        },
        (refl, (let k = f.knows in omega (arith, now)), (let k = sum_by-at (λ (u : View E H). u.turns) s.views id v at in let b = r.summed in omega (arith, now))),
      )

  -- a load that leaves the seat as it is
  pub compares : (slots id : ℕ) (me : Me V (View E H)) → Allows R slots id me 0 (λ n. n) (Compared (step slots 0 0 0 none) me)
  compares slots id me s r _ at _ =
      let v = me.0 in
      let f = r.fits id v at in
      let t = word_is r.lock r.lock.phase s.words s.homes r.placed in
      let now : slice_index s.words 0 / 2 ≡ r.lock.taken = ap (λ ws. slice_index ws 0 / 2) t.1 ∙ t.2 in (
        v,
        keeps,
        tt,
        subst (λ (y : List ℕ × List (View E H)). R record { words = y.0; homes = s.homes; views = y.1 }) (λ i. (sym (word_again s.words t.0 t.1) i, sym (set_again s.views id v at) i)) r,
        (refl, (let k = sum_by-at (λ (u : View E H). u.turns) s.views id v at in let b = r.summed in omega (arith, now)), λ le. comparable v.beside v.seen r.lock.history f.begins_too f.begins le),
      )

  -- the word goes from 2n to 2n + 1, or stays
  pub takes_turn : (slots id : ℕ) (me : Me V (View E H)) (old new : ℕ) → me.0.stage ≡ Idle → has_share me.0.own me.0.number ≡ true → old % 2 ≡ 0 → new ≡ old + 1
      → Allows R slots id me 0 (λ n. either (eqb n old) new n) (TookTurn (step slots 0 old new none) me)
  takes_turn slots id me old new idle live even next s r _ at _ =
      let v = me.0 in
      let n = slice_index s.words 0 in
      let f = r.fits id v at in
      let t = word_is r.lock r.lock.phase s.words s.homes r.placed in
      let found : n ≡ t.0 = ap (λ ws. slice_index ws 0) t.1 in
      let now : n / 2 ≡ r.lock.taken = ap (λ (k : ℕ). k / 2) found ∙ t.2 in
      let w = turning_view v (n / 2) in
      dite (ℕ_discrete n old)
      (λ hit.
      let free : r.lock.phase ≡ Idle = t.3 (ap (λ (k : ℕ). k % 2) (sym found ∙ hit) ∙ even) in
      let p = subst (λ st. P r.lock st s.words s.homes) free r.placed in
      let twice : n ≡ 2 * r.lock.taken = ap (λ ws. slice_index ws 0) p.0 in
      let up : new ≡ suc (2 * r.lock.taken) = omega (arith, twice, hit, next) in (
        w,
        keeps,
        tt,
        subst (λ b. R (stepped s 0 (either b new n) id me.1 w keeps)) (sym (eq-eqb n old hit))
            (turn_on s r id v Turning (n / 2) v.seen (set s.words 0 new) s.homes at live (inl free) (omega (arith, now)) f.begins (word_set s.words t.0 new t.1 ∙ ap (λ k. k ∷ []) up, p.1) (refl, refl, now)),
        inl (hit, refl, (let k = f.knows in omega (arith, now)), (let k = sum_by-at (λ (u : View E H). u.turns) s.views id v at in let b = r.summed in omega (arith, now))),
      ))
      (λ miss. (
        v,
        keeps,
        tt,
        subst (λ b. R (stepped s 0 (either b new n) id me.1 v keeps)) (sym (ne_eqb n old miss))
            (subst (λ (y : List ℕ × List (View E H)). R record { words = y.0; homes = s.homes; views = y.1 }) (λ i. (sym (word_again s.words t.0 t.1) i, sym (set_again s.views id v at) i)) r),
        inr (miss, refl),
      ))

  -- the value goes from the slot to the seat
  pub takes_value_out : (slots id : ℕ) (me : Me V (View E H)) → me.0.stage ≡ Turning → has_share me.0.own me.0.number ≡ true → Allows R slots id me 0 (λ n. n) (TookValueOut entries head_of (step slots 0 0 0 none) me)
  takes_value_out slots id me mine live s r _ at _ =
      let v = me.0 in
      let f = r.fits id v at in
      let t = word_is r.lock r.lock.phase s.words s.homes r.placed in
      let b = subst (λ st. B r.lock id v st) mine f.busy in
      let p = subst (λ st. P r.lock st s.words s.homes) b.0 r.placed in
      let y = p.1.0 in
      let whole : entries y ≡ r.lock.history = p.1.2 ∙ append-nil r.lock.history in (
        out_view v (entries y),
        takes 0 y,
        ap (λ hs. get_elem? hs 0) p.1.1,
        turn_on s r id v Out v.past (entries y) (set s.words 0 (slice_index s.words 0)) (set s.homes 0 none) at live (inr b.1) f.knows ([], append-nil (entries y) ∙ whole) (word_again s.words t.0 t.1 ∙ p.0, ap (λ hs. set hs 0 none) p.1.1) (refl, refl, b.2, whole),
        (y, refl, subst (IsPrefix v.seen) (sym whole) f.begins, λ x e. p.1.3 ∙ sym (f.same_head x e)),
      )

  -- the value goes from the seat to the slot, with es appended
  pub puts_value_in : (slots id : ℕ) (me : Me V (View E H)) (y : V) (es : List E) (x : H) → me.0.stage ≡ Out → has_share me.0.own me.0.number ≡ true → me.1 ≡ (0, y) ∷ [] → entries y ≡ me.0.seen ++ es → length es ≤ 1
      → AllByRecursion (λ e. names e ≡ me.0.number) es → me.0.head ≡ Some x → head_of y ≡ x → Allows R slots id me 0 (λ n. n) (PutValueIn entries (step slots 0 0 0 none) me)
  puts_value_in slots id me y es x mine live with_it long one named is_head same_head s r _ at _ =
      let v = me.0 in
      let f = r.fits id v at in
      let t = word_is r.lock r.lock.phase s.words s.homes r.placed in
      let b = subst (λ st. B r.lock id v st) mine f.busy in
      let p = subst (λ st. P r.lock st s.words s.homes) b.0 r.placed in
      let back : homes_after s.homes me.1 gives ≡ some y ∷ [] = ap (λ c. homes_after s.homes c gives) with_it ∙ ap (λ hs. set hs 0 (some y)) p.1 in
      let after : carried_after me.1 gives ≡ [] = ap rest with_it in (
        in_view v es,
        gives,
        tt,
        turn_on s r id v (In es) v.past v.seen (set s.words 0 (slice_index s.words 0)) (homes_after s.homes me.1 gives) at live (inr b.1) f.knows f.begins
            (word_again s.words t.0 t.1 ∙ p.0, (y, back, long ∙ ap (λ l. l ++ es) b.3, same_head ∙ f.same_head x is_head)) (refl, refl, b.2, b.3, one, named),
        (λ v' fs is long'.
            let same : y ≡ v' = ap (λ (l : List (ℕ × V)). (get_or l 0 (0, y)).1) (sym with_it ∙ is) in
            let equal : es ≡ fs = append_cancel_left v.seen es fs (sym long ∙ (ap entries same ∙ long')) in
            λ i. (in_view v (equal i), after i)),
      )

  -- the word goes from 2n + 1 to 2n + 2, and the history goes on with es
  pub gives_back : (slots id : ℕ) (me : Me V (View E H)) (es : List E) (new : ℕ) → me.0.stage ≡ In es → has_share me.0.own me.0.number ≡ true → new ≡ 2 * me.0.past + 2
      → Allows R slots id me 0 (λ _. new) (λ _. GaveBack (step slots 0 new 0 none) me new)
  gives_back slots id me es new mine live next s r _ at _ =
      let v = me.0 in
      let f = r.fits id v at in
      let t = word_is r.lock r.lock.phase s.words s.homes r.placed in
      let b = subst (λ st. B r.lock id v st) mine f.busy in
      let p = subst (λ st. P r.lock st s.words s.homes) b.0 r.placed in
      let w = ended_view v es in
      let past : v.past ≡ r.lock.taken = b.2 in
      let m = HasShare-of v.own v.number live in
      let o = f.owns v.number m.0 m.1 in
      let history' : List E = r.lock.history ++ es in
      let elsewhere : (k : ℕ) → k ≢ v.number → share_of names k history' ≡ share_of names k r.lock.history =
      λ k ne. share_of-append names k r.lock.history es ∙ (ap (λ l. share_of names k r.lock.history ++ l) (share_of-none names k es (AllByRecursion-imp (λ e. names e ≡ v.number) (λ e. names e ≢ k) (λ e is no. ne (sym no ∙ is)) es b.5)) ∙ append-nil (share_of names k r.lock.history)) in (
        w,
        keeps,
        tt,
        record {
          lock = record r.lock { history = history'; taken = suc r.lock.taken; holder = id; phase = Idle };
          placed = (word_set s.words t.0 new t.1 ∙ ap (λ k. k ∷ []) (omega (arith, next, past)), (p.1.0, p.1.1, p.1.2 ∙ sym (append-nil history'), p.1.3));
          held = inl refl;
          fits = fits_set (F (record r.lock { history = history'; taken = suc r.lock.taken; holder = id; phase = Idle })) s.views id w
              (λ j u ne e. idle_on r.lock history' (suc r.lock.taken) id Idle j u (r.fits j u e) (others_idle s r id (inr b.1) j u ne e) (omega arith) (λ xs q. prefix_append xs r.lock.history es q)
              (λ k _ own. elsewhere k (λ is. ne (sym own ∙ (ap r.lock.owner is ∙ o.1)))))
              record {
                same_head = f.same_head;
                begins = ([], append-nil (v.seen ++ es) ∙ ap (λ l. l ++ es) b.3);
                begins_too = prefix_append v.beside r.lock.history es f.begins_too;
                owns = λ k fs l.
                    let g = HasShare-longer_share v.number es v.own k fs l in
                    let a = f.owns k g.0 g.1 in (
                      a.0,
                      a.1,
                      dite (ℕ_discrete k v.number)
                          (λ is.
                          share_of-append names k r.lock.history es
                          ∙ ((λ i. a.2 i ++ share_of-all names k es (AllByRecursion-imp (λ e. names e ≡ v.number) (λ e. names e ≡ k) (λ e q. q ∙ sym is) es b.5) i)
                          ∙ sym (g.2 ∙ ap (λ c. if c then g.0 ++ es else g.0) (eq-eqb k v.number is))))
                          (λ ne. elsewhere k ne ∙ (a.2 ∙ sym (g.2 ∙ ap (λ c. if c then g.0 ++ es else g.0) (ne_eqb k v.number ne)))),
                    );
                knows = omega (arith, past);
                few = f.few;
                counts = f.counts;
                rests = λ e. absurd (has_share-some (longer_share v.number es v.own) v.number (has_share-longer_share v.number es v.own v.number ∙ live) e);
                busy = tt;
              };
          summed = (let a = sum_by-set_at (λ (u : View E H). u.turns) s.views id v w at in let k = r.summed in omega arith);
          named = AllByRecursion-append (λ e. names e ≤ r.lock.made) r.lock.history es r.named (AllByRecursion-imp (λ e. names e ≡ v.number) (λ e. names e ≤ r.lock.made) (λ e is. let k = o.0 in omega (arith, is)) es b.5);
        },
        (λ es' is. ap (λ l. (ended_view v l, me.1)) (ap (inside es) (sym mine ∙ is))),
      )
