-- The state of an identifier after one more body: a step for its own events, and no change for others.
use Rattle.std.proofs.Common.{◌≡◌, true, false, List, [], ◌∷◌, ◌++◌, None, filter, refl, append-nil}
use Rattle.std.proofs.lemmas.List.Elements.{filter-append}
use Rattle.std.proofs.lemmas.List.Sums.{fold_push}
use Rattle.cesr_codes.specs.declared.prefix.Prefix.{Prefix}
use Rattle.journal.specs.Journal.Logs.{Body, is_of, state, stepped}

pub state-other : (log : List Body) (c : Body) (prefix : Prefix) → is_of prefix c ≡ false → state (log ++ c ∷ []) prefix ≡ state log prefix
unfolding state
state-other log c prefix h = rw (filter-append, h, append-nil) refl

pub state-own : (log : List Body) (c : Body) (prefix : Prefix) → is_of prefix c ≡ true → state (log ++ c ∷ []) prefix ≡ stepped (state log prefix) c.event
unfolding state
state-own log c prefix h = rw (filter-append, h) (fold_push (λ s b. stepped s b.event) None (filter (is_of prefix) log) c)
