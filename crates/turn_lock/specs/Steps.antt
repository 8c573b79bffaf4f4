-- What a seat knows before and after each kind of step.
use Rattle.std.specs.Prelude.{◌≡◌, ℕ, suc, ◌+◌, ◌/◌, ◌<◌, ◌≤◌, ◌⊎◌, List, [], ◌∷◌, ◌++◌, length, Some, None, is_some, true, max}
use mathlib.Core.List.{IsPrefix}
use Rattle.atomic_table.specs.Table.{Me, Step}
use Rattle.turn_lock.specs.declared.attempt.Attempt.{Attempt}
use Rattle.turn_lock.specs.declared.attempt.Attempt.TheVariants as attempt
use Rattle.turn_lock.specs.declared.stage.Stage.TheVariants.{Idle, Turning, Out, In}
use Rattle.turn_lock.specs.declared.view.View.{View}
use Rattle.turn_lock.specs.Histories.{has_share, longer_share, longer, shorter}

module _ {E H : Type 0} where
  -- the seat hasn't the turn, and holds no slot
  abbrev pub IsIdle : {V : Type 0} → Me V (View E H) → Type 0
  IsIdle m = (m.1 ≡ []) × (m.0.stage ≡ Idle)

  -- the seat lists a share under its number, and knows the head of the value at `new`
  abbrev pub IsLive : View E H → Type 0
  IsLive v = (has_share v.own v.number ≡ true) × (is_some v.head ≡ true)

  -- the first seat of a lock over a value with the head h
  abbrev pub first_view : H → View E H
  first_view h = record { stage = Idle; head = Some h; number = 0; seen = []; beside = []; own = (0, []) ∷ []; past = 0; splits = 0; turns = 0 }

  -- after a load that found that n turns were taken
  abbrev pub looked_view : View E H → ℕ → View E H
  looked_view v n = record v { stage = Idle; past = n }

  -- with the turn, after n others
  abbrev pub turning_view : View E H → ℕ → View E H
  turning_view v n = record v { stage = Turning; past = n }

  -- with the value, whose history is this
  abbrev pub out_view : View E H → List E → View E H
  out_view v history = record v { stage = Out; seen = history }

  -- the value is home again, with es appended
  abbrev pub in_view : View E H → List E → View E H
  in_view v es = record v { stage = In es }

  -- the turn was given back, and the history goes on with es
  abbrev pub ended_view : View E H → List E → View E H
  ended_view v es = record v { stage = Idle; seen = v.seen ++ es; own = longer_share v.number es v.own; past = suc v.past; turns = suc v.turns }

  -- a seat that was split
  abbrev pub left_view : View E H → View E H
  left_view v = record v { splits = suc v.splits }

  -- the seat that was split from it
  abbrev pub right_view : View E H → View E H
  right_view v = record v { stage = Idle; number = suc v.splits; beside = []; own = (suc v.splits, []) ∷ []; splits = 0; turns = 0 }

  -- a seat into which another was joined
  abbrev pub joined_view : View E H → View E H → View E H
  joined_view v w = record v { seen = longer v.seen w.seen; beside = shorter v.seen w.seen; own = v.own ++ w.own; past = max v.past w.past; splits = max v.splits w.splits; turns = v.turns + w.turns }

  -- the seat that was joined into it
  abbrev pub gone_view : View E H
  gone_view = record { stage = Idle; head = None; number = 0; seen = []; beside = []; own = []; past = 0; splits = 0; turns = 0 }

-- What each kind of step tells: of the seat before, the number found or stored, and the seat after.
module _ {V E H : Type 0} where
  -- the word says how many turns were taken: no fewer than the seat knew, and no fewer than it took
  abbrev pub Looked : Step V → Me V (View E H) → ℕ → Me V (View E H) → Type 0
  Looked st m n w = (w ≡ (looked_view m.0 (n / 2), m.1)) × (m.0.past ≤ n / 2) × (m.0.turns ≤ n / 2)

  -- nothing changes, and of the two beginnings the one that isn't longer begins the other
  abbrev pub Compared : Step V → Me V (View E H) → ℕ → Me V (View E H) → Type 0
  Compared st m n w = (w ≡ m) × (m.0.turns ≤ n / 2) × (length m.0.beside ≤ length m.0.seen → IsPrefix m.0.beside m.0.seen)

  -- the turn was free and is taken, or nothing changes
  abbrev pub TookTurn : Step V → Me V (View E H) → ℕ → Me V (View E H) → Type 0
  TookTurn st m n w = ((n ≡ st.first) × (w ≡ (turning_view m.0 (n / 2), m.1)) × (m.0.past ≤ n / 2) × (m.0.turns ≤ n / 2)) ⊎ (¬ (n ≡ st.first) × (w ≡ m))

  -- the value goes to the seat, which begins with all that was seen and has the head of the value at `new`
  abbrev pub TookValueOut : (V → List E) → (V → H) → Step V → Me V (View E H) → ℕ → Me V (View E H) → Type 0
  TookValueOut entries head_of st m n w = (v : V) × (w ≡ (out_view m.0 (entries v), (0, v) ∷ m.1)) × IsPrefix m.0.seen (entries v) × ((x : H) → m.0.head ≡ Some x → head_of v ≡ x)

  -- the value goes home, with whatever it has more than was seen
  abbrev pub PutValueIn : (V → List E) → Step V → Me V (View E H) → ℕ → Me V (View E H) → Type 0
  PutValueIn entries st m n w = (v : V) (es : List E) → m.1 ≡ (0, v) ∷ [] → entries v ≡ m.0.seen ++ es → w ≡ (in_view m.0 es, [])

  -- the turn is given back, and what was appended is seen and owned
  abbrev pub GaveBack : Step V → Me V (View E H) → ℕ → Me V (View E H) → Type 0
  GaveBack st m n w = (es : List E) → m.0.stage ≡ In es → w ≡ (ended_view m.0 es, m.1)

  -- one try for the turn, of a lock with this limit, by a seat that holds no slot: the seat before, the seat after, and what it came to
  abbrev pub Tried : ℕ → Me V (View E H) → Me V (View E H) → Attempt → Type 0
  Tried limit m w (attempt.Turn n) = (w ≡ (turning_view m.0 n, [])) × (m.0.past ≤ n) × (m.0.turns ≤ n) × (n < limit)
  Tried limit m w attempt.Busy = (n : ℕ) × (w ≡ (looked_view m.0 n, [])) × (m.0.past ≤ n)
  Tried limit m w attempt.Spent = (w ≡ (looked_view m.0 limit, [])) × (m.0.past ≤ limit)
