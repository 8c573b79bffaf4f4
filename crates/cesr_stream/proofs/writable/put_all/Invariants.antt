use Rattle.std.proofs.Common.{◌≡◌, take, flat_map}
use Rattle.lists.specs.KeriSpecs.Shown.{after}
use Rattle.cesr_stream.proofs.writable.put_all.Given as goal

-- the texts so far were put in the domain, and none failed
abbrev pub invariant-loop-one : goal.invariant-loop-one
invariant-loop-one g l = record {
  written : g.S.Sink.written l.sink ≡ after (g.S.Sink.written l.initial.sink) (flat_map (λ one. g.W.DomainWriter.in_domain (g.E.Writable.text one)) (take l.one-index l.all));
  faults : g.S.Sink.faults l.sink ≡ g.S.Sink.faults l.initial.sink;
}
