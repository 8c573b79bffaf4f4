use Rattle.std.specs.Prelude.{◌≡◌, ◌≤◌, ◌+◌, length, map, vec_len, vec_capacity}
use Rattle.std.specs.Vec.Iter.{into_iter_items}
use Rattle.run_status.specs.RunStatus.Readers.{source_seen}
use Rattle.reader_hub.specs.ReaderThreads.Given.{given_by}
use Rattle.keri_roles.proofs.CoreRolesLemmas.Linked.{AreGivenSoFar}
use Rattle.keri_roles.proofs.core_roles.over_links.provide_links.Given as goal

-- the links so far have verifiers, the others come, and there is room for them
abbrev pub invariant-loop-source : goal.invariant-loop-source
invariant-loop-source g l =
    let seen = source_seen g.O.Source.Source.left g.O.Source.Source.faults g.O.Verifier.Verifier.says g.O.Verifier.Verifier.inquiries g.O.Verifier.Verifier.faults in
    record {
      can : (goal.iterator-loop-source g).can_next l.source-iterator;
      finite : (goal.iterator-loop-source g).is_finite l.source-iterator;
      room : vec_len l.providers + length (into_iter_items l.source-iterator) ≤ vec_capacity l.providers;
      count : length l.providers.items + length (into_iter_items l.source-iterator) ≡ length l.fn.sources.items;
      so_far : AreGivenSoFar l.helper (map seen l.fn.sources.items) (map seen (into_iter_items l.source-iterator))
          (map (given_by g.O.Source.Source.left g.O.Source.Source.faults g.O.Verifier.Verifier.says g.O.Verifier.Verifier.inquiries g.O.Verifier.Verifier.faults) l.providers.items)
          (g.O.Outside.shown l.fn.outside) (g.O.Outside.shown l.outside);
      sink : g.O.Outside.sink l.outside ≡ g.O.Outside.sink l.fn.outside;
    }
