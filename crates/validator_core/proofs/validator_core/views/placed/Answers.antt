use Rattle.std.proofs.Common.{◌≡◌, ◌+◌, ◌<◌, ◌∷◌, ◌++◌, [], ℕ, Vec, Global, length, map, take, sym, ◌∙◌, ap, arith}
use Rattle.std.proofs.lemmas.List.{map-append, take_more}
use Rattle.std.proofs.lemmas.List.Elements.{All-push}
use Rattle.journal.specs.declared.journal.conflict.Conflict.{Conflict}
use Rattle.validator_core.specs.ValidatorCore.Views.{IsPlaced}
use Rattle.validator_core.proofs.validator_core.views.placed.Goals as goal

pub loop-set-preserved : goal.loop-set-preserved
loop-set-preserved c =
    let found = c.loop-set.found.items in
    let one = c.in_ok-conflict.conflict in
    let sets = c.args.sets.now in
    let k = c.loop-set.set-index in
    let item = c.set-item.result in
    let low : k < length sets = omega arith in
    let bodies : one.bodies ≡ item.items = c.in_ok-conflict.ensures.bodies ∙ c.as_slice.ensures.value in
    let so_far = c.loop-set.invariant.bodies in
    let more : map (λ (set : Vec ℕ Global). set.items) (take (k + 1) sets) ≡ map (λ (set : Vec ℕ Global). set.items) (take k sets) ++ item.items ∷ [] =
    ap (map (λ (set : Vec ℕ Global). set.items)) (take_more sets k item low ∙ ap (λ s. take k sets ++ s ∷ []) (sym c.set-item.is))
    ∙ map-append (λ (set : Vec ℕ Global). set.items) (take k sets) (item ∷ []) in
    rw c.in_ok-push.ensures.items (record {
      bodies = map-append (λ (x : Conflict). x.bodies) found (one ∷ []) ∙ ap (λ xs. xs ++ one.bodies ∷ []) so_far
          ∙ ap (λ x. map (λ (set : Vec ℕ Global). set.items) (take k sets) ++ x ∷ []) bodies ∙ sym more;
      places = All-push (IsPlaced c.args.events.now) found one c.loop-set.invariant.places c.in_ok-conflict.ensures.place;
    })
