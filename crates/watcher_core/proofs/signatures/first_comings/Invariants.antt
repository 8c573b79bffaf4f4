use Rattle.std.proofs.Common.{◌≡◌, take}
use Rattle.std.specs.List.{list_any}
use Rattle.std.specs.BTreeSet.{contains}
use Rattle.std.specs.Prelude.{All}
use Rattle.cesr_codes.specs.Indexed.{IsIndexed}
use Rattle.cesr_codes.specs.declared.indexed_sig.IndexedSig.{IndexedSig}
use Rattle.journal.specs.Journal.Replies.{same_indexed}
use Rattle.key_state.specs.Same.{distinct}
use Rattle.watcher_core.proofs.Orders.{sig_cmp}
use Rattle.watcher_core.proofs.signatures.first_comings.Given as goal

-- the first comings so far are found, and what came so far is seen
abbrev pub invariant-loop-sig : goal.invariant-loop-sig
invariant-loop-sig l = record {
  firsts : l.firsts.items ≡ distinct same_indexed (take l.sig-index l.sigs);
  raw : All IsIndexed l.firsts.items;
  seen : (s : IndexedSig) → contains sig_cmp l.seen s ≡ list_any (λ t. same_indexed t s) (take l.sig-index l.sigs);
}
