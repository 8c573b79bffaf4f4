-- What a pass knows, as plain data: what contracts see of it.
use Rattle.std.specs.Prelude.{◌≡◌, ℕ, suc, ◌+◌, ◌≤◌, List, [], ◌∷◌, ◌++◌, Option, Some, true, max}
use mathlib.Core.List.{IsPrefix}
use Rattle.turn_lock.specs.declared.view.View.{View}
use Rattle.turn_lock.specs.Histories.{has_share, longer_share, longer}

-- what a pass knows
pub record Known (E H : Type 0) : Type 0 where
  -- the head of the value at `new`
  pub head : Option H
  -- the number that the entries of its turns name
  pub number : ℕ
  -- a beginning of the history
  pub seen : List E
  -- the pass's own share of the history, and those of the passes joined into it, each under its number
  pub own : List (ℕ × List E)
  -- so many turns, at least, were taken
  pub past : ℕ
  -- how often the first pass was split
  pub splits : ℕ
  -- how many turns the pass took, and those joined into it
  pub turns : ℕ

module _ {E H : Type 0} where
  -- a seat's view without what only the rule needs
  abbrev pub known_of : View E H → Known E H
  known_of v = record { head = v.head; number = v.number; seen = v.seen; own = v.own; past = v.past; splits = v.splits; turns = v.turns }

  -- the first pass of a lock over a value with the head h
  abbrev pub first_pass : H → Known E H
  first_pass h = record { head = Some h; number = 0; seen = []; own = (0, []) ∷ []; past = 0; splits = 0; turns = 0 }

  -- after a turn that was the next one after n others, left the value with these entries, and appended es
  abbrev pub after_turn : Known E H → ℕ → List E → List E → Known E H
  after_turn p n left es = record p { seen = left; own = longer_share p.number es p.own; past = suc n; turns = suc p.turns }

  -- after a call that found that all turns were taken
  abbrev pub after_spent : Known E H → ℕ → Known E H
  after_spent p limit = record p { past = limit }

  -- the first pass after a split
  abbrev pub after_split : Known E H → Known E H
  after_split p = record p { splits = suc p.splits }

  -- the pass that was split from it, with the next number and an empty share
  abbrev pub split_from : Known E H → Known E H
  split_from p = record p { number = suc p.splits; own = (suc p.splits, []) ∷ []; splits = 0; turns = 0 }

  -- after a join: r is what p knows once q was joined into it
  pub record IsJoined (p q r : Known E H) : Type 0 where
    pub same : (r.head ≡ p.head) × (r.number ≡ p.number)
    pub seen : r.seen ≡ longer p.seen q.seen
    pub begins : IsPrefix p.seen r.seen × IsPrefix q.seen r.seen
    pub own : r.own ≡ p.own ++ q.own
    pub past : r.past ≡ max p.past q.past
    pub splits : r.splits ≡ max p.splits q.splits
    pub turns : r.turns ≡ p.turns + q.turns

  -- the pass lists its own share alone, and it is es
  abbrev pub OwnsAlone : Known E H → List E → Type 0
  OwnsAlone p es = p.own ≡ (p.number, es) ∷ []

  -- all passes of the lock were joined into this one: a share is listed under each number that was given
  abbrev pub IsWhole : Known E H → Type 0
  IsWhole p = (k : ℕ) → k ≤ p.splits → has_share p.own k ≡ true
