use Rattle.std.proofs.Common.{◌≡◌, ◌+◌, ℕ, Vec, Global, List, get_or, ◌∷◌, ◌++◌, [], ◌∙◌, sym, ap, refl, drop, map, arith}
use Rattle.std.proofs.lemmas.List.{append_assoc, drop_all, drop_more}
use Rattle.journal_views.specs.JournalViews.Groups.{as_set, cut, is_apart}
use Rattle.journal_views.specs.JournalViews.Rankings.{number_place}
use Rattle.journal_views.proofs.JournalViewsLemmas.Cuts.{cut-end, cut-apart, cut-here}
use Rattle.journal_views.proofs.journal_views.conflicts.sets_of.Goals as goal
use Rattle.journal_views.proofs.journal_views.conflicts.sets_of.Goals.{then-is_elsewhere+in_ok-close, else-is_elsewhere}

pub loop-place-init : goal.loop-place-init
loop-place-init c = record { ahead = rw (c.new-group.ensures.items, c.new-sets.ensures.items) refl }

pub loop-place-preserved : goal.loop-place-preserved
loop-place-preserved c =
    let P = number_place c.args.events.now in
    let numbers = c.args.numbers.now in
    let place = c.loop-place.place in
    let group = c.loop-place.group.items in
    let n = get_or numbers place 0 in
    let rest = drop (place + 1) numbers in
    let sets : List (List ℕ) = map (λ set. set.items) c.loop-place.sets.items in
    let so_far : sets ++ cut P group (n ∷ rest) ≡ cut P [] numbers =
    ap (λ xs. sets ++ cut P group xs) (sym (drop_more numbers place 0 (omega arith))) ∙ c.loop-place.invariant.ahead in
    let answer : c.is_elsewhere.result ≡ is_apart P group n = c.is_elsewhere.ensures ∙ ap (λ g. is_apart P g n) c.as_slice.ensures.value in
    elim c.if-is_elsewhere.branch [
      | then-is_elsewhere+in_ok-close w ↦ (
          let anew : c.if-is_elsewhere.group.items ≡ [] = ap (λ (v : Vec ℕ Global). v.items) (w.group-is ∙ w.replace-whole.ensures.after) ∙ w.new.ensures.items in
          let pushed : c.push.new.self.items ≡ n ∷ [] = c.in_ok-push.ensures.items ∙ ap (λ g. g ++ n ∷ []) anew in
          let closed : map (λ set. set.items) c.if-is_elsewhere.sets.items ≡ sets ++ as_set group =
          ap (λ (v : Vec (Vec ℕ Global) Global). map (λ set. set.items) v.items) w.sets-is ∙ w.in_ok-close.ensures
          ∙ ap (λ (v : Vec ℕ Global). sets ++ as_set v.items) w.replace-whole.ensures.value in
          record {
            ahead = rw (pushed, closed) (append_assoc sets (as_set group) (cut P (n ∷ []) rest)
                ∙ ap (λ xs. sets ++ xs) (sym (cut-apart P group n rest (sym answer ∙ w.if-is_elsewhere.true))) ∙ so_far);
          })
      | else-is_elsewhere w ↦ (
          let same : c.if-is_elsewhere.group.items ≡ group = ap (λ (v : Vec ℕ Global). v.items) w.group-is in
          let pushed : c.push.new.self.items ≡ group ++ n ∷ [] = c.in_ok-push.ensures.items ∙ ap (λ g. g ++ n ∷ []) same in
          let kept : map (λ set. set.items) c.if-is_elsewhere.sets.items ≡ sets = ap (λ (v : Vec (Vec ℕ Global) Global). map (λ set. set.items) v.items) w.sets-is in
          record {
            ahead = rw (pushed, kept) (ap (λ xs. sets ++ xs) (sym (cut-here P group n rest (sym answer ∙ w.if-is_elsewhere.false))) ∙ so_far);
          })
    ]

pub returns : goal.returns
returns c =
    let P = number_place c.args.events.now in
    let group = c.loop-place.group.items in
    let sets : List (List ℕ) = map (λ set. set.items) c.loop-place.sets.items in
    let none : drop c.loop-place.place c.args.numbers.now ≡ [] = drop_all c.loop-place.place c.args.numbers.now (omega arith) in
    c.in_ok-close-2.ensures ∙ ap (λ xs. sets ++ xs) (sym (ap (cut P group) none ∙ cut-end P group)) ∙ c.loop-place.invariant.ahead
