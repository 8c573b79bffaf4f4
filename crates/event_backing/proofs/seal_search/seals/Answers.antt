use Rattle.std.proofs.Common.{◌≡◌, ◌+◌, take, ◌++◌, ◌∷◌, [], sym, ap, ◌∙◌}
use Rattle.std.proofs.lemmas.List.{take_more}
use Rattle.event_backing.proofs.Listing.{AreSealsOf-seal, AreSealsOf-other}
use Rattle.event_backing.proofs.seal_search.seals.Goals as goal
use Rattle.event_backing.proofs.seal_search.seals.Goals.{in-Some+in_ok-push, in_default}

pub loop-value-preserved : goal.loop-value-preserved
loop-value-preserved c =
    let values = c.anchors-value-items.result.now in
    let i = c.loop-value.value-index in
    let v = c.value-item.result in
    let more : take (i + 1) values ≡ take i values ++ v ∷ [] = take_more values i v c.loop-value-test.true ∙ ap (λ u. take i values ++ u ∷ []) (sym c.value-item.is) in
    elim c.match-seal_in.branch [
      | in-Some+in_ok-push w ↦ rw (more, w.seals-is, w.in_ok-push.ensures.items) (AreSealsOf-seal _ _ _ _ c.loop-value.invariant w.in-Some.ensures)
      | in_default w ↦ rw (more, w.seals-is) (AreSealsOf-other _ _ _ c.loop-value.invariant w.in_default.ensures)
    ]
