use Rattle.std.specs.Prelude.{◌≡◌, ◌≤◌, length, map, take}
use Rattle.std.specs.Vec.{vec_capacity}
use Rattle.reader_hub.specs.ReaderThreads.Given.{given_by}
use Rattle.keri_roles.specs.CoreRoles.CoreTold.{AreProvided, SameNames}
use Rattle.keri_roles.proofs.core_roles.providers.providers_for.Given as goal

-- for the names so far it was made
abbrev pub invariant-loop-name : goal.invariant-loop-name
invariant-loop-name g l = record {
  provided : AreProvided l.helper (map (λ name. name.now) (take l.name-index l.names))
      (map (given_by g.O.Source.Source.left g.O.Source.Source.faults g.O.Verifier.Verifier.says g.O.Verifier.Verifier.inquiries g.O.Verifier.Verifier.faults) l.providers.items)
      (g.O.Outside.shown l.fn.outside) (g.O.Outside.shown l.outside);
  same : SameNames (g.O.Outside.shown l.fn.outside) (g.O.Outside.shown l.outside);
  count : length l.providers.items ≡ l.name-index;
  room : length l.names ≤ vec_capacity l.providers;
  sink : g.O.Outside.sink l.outside ≡ g.O.Outside.sink l.fn.outside;
}
