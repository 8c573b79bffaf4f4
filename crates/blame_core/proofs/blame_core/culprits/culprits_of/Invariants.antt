use Rattle.std.proofs.Common.{◌≡◌, take}
use Rattle.std.specs.Prelude.{filter_map}
use Rattle.key_state.specs.Same.{distinct, same_key}
use Rattle.blame_core.specs.BlameCore.Culprits.{HasKeys, culprit_of}
use Rattle.blame_core.specs.BlameCore.Signatures.{signature_by}
use Rattle.blame_core.proofs.blame_core.culprits.culprits_of.Given as goal

-- the culprits among the members so far, each at its first coming, and which these members are
abbrev pub invariant-loop-key : goal.invariant-loop-key
invariant-loop-key l = record {
  culprits : l.culprits ≡ filter_map (culprit_of l.fn.others (signature_by l.one) (signature_by l.other)) (distinct same_key (take l.key-index l.witnesses));
  seen : HasKeys (take l.key-index l.witnesses) l.seen;
}
