use Rattle.std.proofs.Common.{◌∙◌, ap, take, arith}
use Rattle.std.proofs.lemmas.List.{take_all}
use Rattle.said_digest.specs.Digests.{digest_of, said}
use Rattle.said_digest.specs.Replaced.{replaced}
use Rattle.said_digest.proofs.Replaced.{length-replaced}
use Rattle.said_digest.proofs.digests.said_of.Goals as goal

pub returns-clause-digest : goal.returns-clause-digest
unfolding said
returns-clause-digest c =
    let all = replaced c.args.bytes.now c.args.places.now in
    c.finish.ensures.digest c.args.code (take c.pieces.at all) c.pieces.invariant.holds
    ∙ ap (digest_of c.args.code) (take_all c.pieces.at all (omega (arith, length-replaced c.args.bytes.now c.args.places.now c.requires)))
