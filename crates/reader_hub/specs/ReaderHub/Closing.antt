-- Passes that are joined one after another, and the core that is given back for them.
use Rattle.std.specs.Prelude.{◌≡◌, ℕ, ◌+◌, ◌≤◌, List, [], ◌∷◌, ◌++◌, Some, true, max, All}
use Rattle.std.specs.List.{AllByRecursion}
use mathlib.Core.List.{IsPrefix}
use Rattle.turn_lock.specs.Histories.{HasShare, has_share, share_of}
use Rattle.turn_lock.specs.Known.{Known}

module _ {E H : Type 0} where
  -- the shares that the passes list, each under its number, one pass after another
  abbrev pub all_own : List (Known E H) → List (ℕ × List E)
  all_own [] = []
  all_own (p ∷ ps) = p.own ++ all_own ps

  -- the greatest number that was given, as far as the passes know: how often the first of all was split
  abbrev pub most_splits : List (Known E H) → ℕ
  most_splits [] = 0
  most_splits (p ∷ ps) = max p.splits (most_splits ps)

  -- how many turns the passes took together
  abbrev pub all_turns : List (Known E H) → ℕ
  all_turns [] = 0
  all_turns (p ∷ ps) = p.turns + all_turns ps

  -- these are all the passes of a lock, none left out: a share is listed under each number that was given
  abbrev pub AreAll : List (Known E H) → Type 0
  AreAll ps = (k : ℕ) → k ≤ most_splits ps → has_share (all_own ps) k ≡ true

  -- the value that is given back when these passes are joined and the lock is closed
  pub record ClosesAll {V : Type 0} (entries : V → List E) (head_of : V → H) (names : E → ℕ) (p : Known E H) (ps : List (Known E H)) (value : V) : Type 0 where
    pub same_head : p.head ≡ Some (head_of value)
    -- its history begins with what each pass has seen
    pub begins : AllByRecursion (λ q. IsPrefix q.seen (entries value)) (p ∷ ps)
    -- each number's share of it is the one that is listed
    pub own : (k : ℕ) (es : List E) → HasShare (all_own (p ∷ ps)) k es → share_of names k (entries value) ≡ es
    -- no entry names another number
    pub named : All (λ e. names e ≤ most_splits (p ∷ ps)) (entries value)
    -- the passes took at least as many turns together as each of them knows to be past
    pub taken : AllByRecursion (λ q. q.past ≤ all_turns (p ∷ ps)) (p ∷ ps)

  -- some passes were joined into one: p and the rest list what the first passes listed
  pub record AreJoined (p0 : Known E H) (ps0 : List (Known E H)) (p : Known E H) (ps : List (Known E H)) : Type 0 where
    pub head : p.head ≡ p0.head
    pub own : all_own (p ∷ ps) ≡ all_own (p0 ∷ ps0)
    pub splits : most_splits (p ∷ ps) ≡ most_splits (p0 ∷ ps0)
    pub turns : all_turns (p ∷ ps) ≡ all_turns (p0 ∷ ps0)
    -- what begins with all that they have seen begins with all that the first ones had seen, and so with what is past
    pub each : (xs : List E) (n : ℕ) → AllByRecursion (λ q. IsPrefix q.seen xs × (q.past ≤ n)) (p ∷ ps) → AllByRecursion (λ q. IsPrefix q.seen xs × (q.past ≤ n)) (p0 ∷ ps0)
