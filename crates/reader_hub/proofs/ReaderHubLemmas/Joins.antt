-- Passes that are joined one after another.
use Rattle.std.proofs.Common.{◌≡◌, ℕ, ◌≤◌, List, [], ◌∷◌, ◌++◌, ap, sym, subst, ◌∙◌, append_assoc, append-nil, arith, true}
use Rattle.std.proofs.lemmas.List.Elements.{All-weaker}
use mathlib.Core.List.{IsPrefix}
use Rattle.turn_lock.specs.Histories.{HasShare, has_share}
use Rattle.turn_lock.specs.Known.{Known, IsJoined, IsWhole}
use Rattle.turn_lock.specs.Passes.{Closes}
use Rattle.turn_lock.proofs.Histories.{AllByRecursion-imp, prefix_trans}
use Rattle.reader_hub.specs.ReaderHub.Closing.{AreAll, AreJoined, ClosesAll, all_own, most_splits, all_turns}

module _ {E H : Type 0} (p0 : Known E H) (ps0 : List (Known E H)) where
  -- one more was joined
  pub joined_on : (p q r : Known E H) (ps : List (Known E H)) → AreJoined p0 ps0 p (q ∷ ps) → IsJoined p q r → AreJoined p0 ps0 r ps
  joined_on p q r ps j is = record {
    head = is.same.0 ∙ j.head;
    own = ap (λ l. l ++ all_own ps) is.own ∙ (append_assoc p.own q.own (all_own ps) ∙ j.own);
    splits = omega (arith, is.splits, j.splits);
    turns = omega (arith, is.turns, j.turns);
    each = λ xs n t.
        let le = t.0.1 in
        j.each xs n ((prefix_trans p.seen r.seen xs is.begins.0 t.0.0, omega (arith, is.past, le)), ((prefix_trans q.seen r.seen xs is.begins.1 t.0.0, omega (arith, is.past, le)), t.1));
  }

  -- where all passes were joined the one that is left lists each number
  pub joined_whole : (p : Known E H) → AreJoined p0 ps0 p [] → AreAll (p0 ∷ ps0) → IsWhole p
  joined_whole p j all k le = subst (λ l. has_share l k ≡ true) (sym j.own ∙ append-nil p.own) (all k (omega (arith, le, j.splits)))

  -- and closes the lock for all, whose value may be seen as a part of the one that was kept
  pub closes_all : {W V : Type 0} (of : W → V) (entries : V → List E) (head_of : V → H) (names : E → ℕ) (p : Known E H) (kept : W) → AreJoined p0 ps0 p [] → Closes (λ w. entries (of w)) (λ w. head_of (of w)) names p kept → ClosesAll entries head_of names p0 ps0 (of kept)
  closes_all of entries head_of names p kept j c =
      let value = of kept in
      let s = j.each (entries value) p.turns ((c.begins, c.taken), tt) in
      record {
        same_head = sym j.head ∙ c.same_head;
        begins = AllByRecursion-imp (λ q. IsPrefix q.seen (entries value) × (q.past ≤ p.turns)) (λ q. IsPrefix q.seen (entries value)) (λ q t. t.0) (p0 ∷ ps0) s;
        own = λ k es l. c.own k es (subst (λ o. HasShare o k es) (sym j.own ∙ append-nil p.own) l);
        named = All-weaker (λ e. names e ≤ p.splits) (λ e. names e ≤ most_splits (p0 ∷ ps0)) (λ e le. omega (arith, j.splits, le)) (entries value) c.named;
        taken = AllByRecursion-imp (λ q. IsPrefix q.seen (entries value) × (q.past ≤ p.turns)) (λ q. q.past ≤ all_turns (p0 ∷ ps0)) (λ q t. let le = t.1 in omega (arith, le, j.turns)) (p0 ∷ ps0) s;
      }
