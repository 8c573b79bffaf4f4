use Rattle.std.proofs.Common.{◌≡◌, ◌++◌, ◌∷◌, ◌+◌, [], get_or, take, sym, ◌∙◌, ap}
use Rattle.std.specs.Prelude.{position}
use Rattle.std.specs.List.{list_any}
use Rattle.std.proofs.lemmas.List.{take_more}
use Rattle.cesr_codes.specs.declared.key.KeyCode.TheVariants.{Fixed}
use Rattle.blame_core.specs.BlameCore.FirstSignatures.{is_signed}
use Rattle.blame_core.specs.declared.blame_core.signed.Signed.{Signed}
use Rattle.blame_core.proofs.BlameCoreLemmas.FirstPlaces.{position_never}
use Rattle.blame_core.proofs.BlameCoreLemmas.KeyPlaces.{key_more}
use Rattle.blame_core.proofs.blame_core.first_signatures.first_places.Goals as goal

pub loop-signed-init : goal.loop-signed-init
loop-signed-init c = λ key. rw c.new-firsts.ensures.empty (sym (position_never c.args.came.now))

pub loop-signed-preserved : goal.loop-signed-preserved
loop-signed-preserved c = λ key.
    let came = c.args.came.now in
    let good = c.args.good.now in
    let k = c.loop-signed.signed-index in
    let none : Signed = record { key = record { code = Fixed; raw = [] }; sig = record { raw = [] } } in
    let signed = get_or good k none in
    let more : take (k + 1) good ≡ take k good ++ signed ∷ [] = take_more good k none c.loop-signed-test.true in
    key_more came (take k good) signed key _ _ _ (c.in_ok-places.ensures signed.sig)
    (c.loop-signed.invariant key) (c.in_ok-note_good.ensures key)
    ∙ ap (λ those. position (λ sig. list_any (is_signed key sig) those) came) (sym more)
