use Rattle.std.proofs.Common.{take, sym, ◌∙◌, ap, arith}
use Rattle.std.specs.Prelude.{position}
use Rattle.std.proofs.lemmas.List.{length-take-le, take_more}
use Rattle.key_state.specs.Same.{same_sig}
use Rattle.blame_core.proofs.BlameCoreLemmas.KeyPlaces.{sig_more}
use Rattle.blame_core.proofs.blame_core.first_signatures.sig_places.Goals as goal

pub loop-place-preserved : goal.loop-place-preserved
loop-place-preserved c = λ s.
    let came = c.args.came.now in
    let k = c.loop-place.place in
    sig_more (take k came) _ s _ _ k (sym (length-take-le k came (omega (arith, c.loop-place-test.true))))
    (c.loop-place.invariant s) (c.in_ok-lower.ensures s)
    ∙ ap (position (λ t. same_sig t s)) (sym (take_more came k _ c.loop-place-test.true))
