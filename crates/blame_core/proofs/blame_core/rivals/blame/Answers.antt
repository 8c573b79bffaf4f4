use Rattle.std.proofs.Common.{Option, refl, sym, ◌∙◌, subst}
use Rattle.blame_core.specs.BlameCore.Blames.{AreBlames}
use Rattle.blame_core.specs.BlameCore.Rivals.{Judges}
use Rattle.blame_core.specs.declared.blame_core.establishments.Establishment.{Establishment}
use Rattle.blame_core.specs.declared.blame_core.blames.Blame.{Blame}
use Rattle.blame_core.proofs.BlameCoreLemmas.Judged.{AllJudged, AreWalked, begun, ended, further}
use Rattle.blame_core.proofs.BlameCoreLemmas.Pairs.{blames_are, whole_core}
use Rattle.blame_core.proofs.blame_core.rivals.blame.Goals as goal

pub loop-one-init : goal.loop-one-init
loop-one-init c = begun (λ v o. Judges c.args.first.now c.args.second.now v c.in_ok-others.others.entries o) c.into_iter-one-iterator.result
    c.into_iter-one-iterator.result c.new-blames.result refl c.new-blames.ensures

pub loop-one-preserved : goal.loop-one-preserved
loop-one-preserved c =
    let J = λ (v : Establishment) (o : Option Blame). Judges c.args.first.now c.args.second.now v c.in_ok-others.others.entries o in
    let all = c.into_iter-one-iterator.result in
    let left = c.next.new.self in
    subst (AreWalked J all left) (sym c.in_ok-add_blame.ensures)
    (further J all left c.in-Some.one.now c.loop-one.blames c.in_ok-judged.judged
    (subst (λ rest. AreWalked J all rest c.loop-one.blames) c.in-Some.ensures.steps c.loop-one.invariant) c.in_ok-judged.ensures)

pub returns : goal.returns
returns c =
    let first = c.args.first.now in let second = c.args.second.now in
    let J = λ (v : Establishment) (o : Option Blame). Judges first second v c.in_ok-others.others.entries o in
    let all = c.into_iter-one-iterator.result in
    let (os, judged, is) = ended J all c.loop-one.blames (subst (λ rest. AreWalked J all rest c.loop-one.blames) c.in-None.ensures.steps.0 c.loop-one.invariant) in
    let those = subst (λ vs. AllJudged J vs os) (c.into_iter-one-iterator.ensures.into_iter_gives ∙ c.values-one-items.ensures.rest) judged in
    subst (AreBlames first second) (sym is)
    (blames_are first second (whole_core first c.requires.first_full c.requires.first_whole c.sound.ensures.sound)
    (whole_core second c.requires.second_full c.requires.second_whole c.sound-2.ensures.sound) c.in_ok-ones.ones.entries c.in_ok-others.others.entries
    c.in_ok-ones.ensures c.in_ok-others.ensures c.values-one-items.ensures.ordered os those)
