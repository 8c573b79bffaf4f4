-- The rule of the lock, over its word, the value at home and what each seat knows. Every step keeps it.
use Rattle.std.specs.Prelude.{◌≡◌, ℕ, suc, ◌*◌, ◌≤◌, ◌⊎◌, List, [], ◌∷◌, ◌++◌, length, sum_by, Some}
use Rattle.std.specs.List.{AllByRecursion}
use mathlib.Core.List.{IsPrefix}
use mathlib.Core.Option.{Option, some, none}
use lib.ListN.{get_elem?}
use Rattle.atomic_table.specs.Table.{State}
use Rattle.turn_lock.specs.declared.stage.Stage.{Stage}
use Rattle.turn_lock.specs.declared.stage.Stage.TheVariants.{Idle, Turning, Out, In}
use Rattle.turn_lock.specs.declared.view.View.{View}
use Rattle.turn_lock.specs.Histories.{share_of, HasShare}

-- a lock between two steps, as plain data
pub record LockState (E : Type 0) : Type 0 where
  -- all entries, in the order of their turns
  pub history : List E
  -- how many turns were taken
  pub taken : ℕ
  -- how often the first pass was split
  pub made : ℕ
  -- the seat that has the turn, if one has it
  pub holder : ℕ
  -- the seat that lists each number
  pub owner : ℕ → ℕ
  -- where the turn and the value are
  pub phase : Stage E

-- `first` is the head of the value at `new`
module _ {V E H : Type 0} (entries : V → List E) (head_of : V → H) (names : E → ℕ) (first : H) where
  -- the value is home, and stands for the history and then es
  abbrev pub IsHome : LockState E → List (Option V) → List E → Type 0
  IsHome l homes es = (v : V) × (homes ≡ some v ∷ []) × (entries v ≡ l.history ++ es) × (head_of v ≡ first)

  -- the word and the slot: 2n while nobody has the turn after n turns, and 2n + 1 while a seat has it
  abbrev pub IsPlaced : LockState E → Stage E → List ℕ → List (Option V) → Type 0
  IsPlaced l Idle words homes = (words ≡ (2 * l.taken) ∷ []) × IsHome l homes []
  IsPlaced l Turning words homes = (words ≡ suc (2 * l.taken) ∷ []) × IsHome l homes []
  IsPlaced l Out words homes = (words ≡ suc (2 * l.taken) ∷ []) × (homes ≡ none ∷ [])
  IsPlaced l (In es) words homes = (words ≡ suc (2 * l.taken) ∷ []) × IsHome l homes es

  -- a seat in this stage is idle, or has the turn and knows where the value is
  abbrev pub IsBusy : LockState E → ℕ → View E H → Stage E → Type 0
  IsBusy l j v Idle = Unit {0}
  IsBusy l j v Turning = (l.phase ≡ Turning) × (j ≡ l.holder) × (v.past ≡ l.taken)
  IsBusy l j v Out = (l.phase ≡ Out) × (j ≡ l.holder) × (v.past ≡ l.taken) × (v.seen ≡ l.history)
  IsBusy l j v (In es) = (l.phase ≡ In es) × (j ≡ l.holder) × (v.past ≡ l.taken) × (v.seen ≡ l.history) × (length es ≤ 1) × AllByRecursion (λ e. names e ≡ v.number) es

  -- what the seat j knows is true
  pub record Fits (l : LockState E) (j : ℕ) (v : View E H) : Type 0 where
    pub same_head : (x : H) → v.head ≡ Some x → x ≡ first
    pub begins : IsPrefix v.seen l.history
    pub begins_too : IsPrefix v.beside l.history
    -- a number that it lists was given, is listed by no other seat, and has that share of the history
    pub owns : (k : ℕ) (es : List E) → HasShare v.own k es → (k ≤ l.made) × (l.owner k ≡ j) × (share_of names k l.history ≡ es)
    pub knows : v.past ≤ l.taken
    pub few : v.splits ≤ l.made
    -- the seat that lists the first number knows how many were given
    pub counts : l.owner 0 ≡ j → v.splits ≡ l.made
    -- a seat without a number took no turn
    pub rests : v.own ≡ [] → (v.turns ≡ 0) × (v.stage ≡ Idle)
    pub busy : IsBusy l j v v.stage

  -- the rule
  pub record IsLock (s : State V (View E H)) : Type 0 where
    pub lock : LockState E
    pub placed : IsPlaced lock lock.phase s.words s.homes
    -- while the turn is taken, the seat that has it is there
    pub held : (lock.phase ≡ Idle) ⊎ ((v : View E H) × (get_elem? s.views lock.holder ≡ some v) × (v.stage ≡ lock.phase))
    pub fits : (j : ℕ) (v : View E H) → get_elem? s.views j ≡ some v → Fits lock j v
    -- every turn is counted by one seat
    pub summed : sum_by (λ v. v.turns) s.views ≡ lock.taken
    -- every entry names a number that was given
    pub named : AllByRecursion (λ e. names e ≤ lock.made) lock.history
