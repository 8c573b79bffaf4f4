-- What a turn asks of the closure that it runs, what it says of it, and what a lock gives back when it is closed.
use Rattle.std.specs.Prelude.{◌≡◌, ℕ, ◌<◌, ◌≤◌, List, ◌++◌, length, Some, All}
use Rattle.std.specs.List.{AllByRecursion}
use Rattle.std.specs.Fn.{Once, FnOnceTakesAtMut, FnOnceReturnsAtMut}
use mathlib.Core.List.{IsPrefix}
use denote.Ref.{MutBor}
use Rattle.turn_lock.specs.Histories.{share_of, HasShare}
use Rattle.turn_lock.specs.Known.{Known, after_turn}

module _ {V E H : Type 0} (entries : V → List E) (head_of : V → H) (names : E → ℕ) where
  -- a turn of the pass p may meet the value x: its history begins with all that p has seen, and its head is that of the value at `new`
  abbrev pub MayMeet : Known E H → V → Type 0
  MayMeet p x = IsPrefix p.seen (entries x) × (p.head ≡ Some (head_of x))

  -- y is x with es appended, which is at most one entry and names k, and with the same head
  pub record Appends (k : ℕ) (x y : V) (es : List E) : Type 0 where
    pub longer : entries y ≡ entries x ++ es
    pub one : length es ≤ 1
    pub named : AllByRecursion (λ e. names e ≡ k) es
    pub same_head : head_of y ≡ head_of x

  module _ {F R : Type 0} (g : Once F (MutBor V × Unit {0}) (R × (MutBor V × Unit {0}))) (f : F) where
    -- f may be called at each value that a turn of the pass p may meet, and appends at most one entry, which names p's number
    abbrev pub AppendsAtMostOne : Known E H → Type 0
    AppendsAtMostOne p = (x : V) → MayMeet p x → FnOnceTakesAtMut g f x × ((r : R) (y : V) → FnOnceReturnsAtMut g f x r y → (es : List E) × Appends p.number x y es)

    -- f was called at the value `met`, returned r and left the value `left`, in the next turn after n others; the pass knew p before, and knows q now
    pub record Turned (limit : ℕ) (p : Known E H) (r : R) (q : Known E H) : Type 0 where
      pub met : V
      pub left : V
      pub es : List E
      pub n : ℕ
      pub meets : MayMeet p met
      pub returned : FnOnceReturnsAtMut g f met r left
      pub appends : Appends p.number met left es
      pub later : p.past ≤ n
      pub within : n < limit
      pub now : q ≡ after_turn p n (entries left) es

  -- the value that a lock gives back for the pass p
  pub record Closes (p : Known E H) (value : V) : Type 0 where
    pub same_head : p.head ≡ Some (head_of value)
    pub begins : IsPrefix p.seen (entries value)
    -- each number's share of the history is the one that the pass lists
    pub own : (k : ℕ) (es : List E) → HasShare p.own k es → share_of names k (entries value) ≡ es
    -- no entry names another number
    pub named : All (λ e. names e ≤ p.splits) (entries value)
    -- the turns that were taken are all counted
    pub taken : p.past ≤ p.turns
