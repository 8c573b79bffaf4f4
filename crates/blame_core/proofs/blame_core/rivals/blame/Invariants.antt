use Rattle.blame_core.specs.BlameCore.Rivals.{Judges}
use Rattle.blame_core.proofs.BlameCoreLemmas.Judged.{AreWalked}
use Rattle.blame_core.proofs.blame_core.rivals.blame.Given as goal

-- the events so far are judged, and the pairs among them given
abbrev pub invariant-loop-one : goal.invariant-loop-one
invariant-loop-one l = AreWalked (λ v o. Judges l.fn.first l.fn.second v l.others.entries o) l.initial.one-iterator l.one-iterator l.blames
