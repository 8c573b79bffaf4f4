use Rattle.std.proofs.Common.{◌≡◌, ◌-◌, ◌*◌}
use Rattle.cesr_stream.specs.Begun.{AreGroupsRead}
use Rattle.cesr_stream.proofs.begun_wrap.BegunWrap.read_groups.Given as goal

-- the groups so far were read
abbrev pub invariant-loop-self : goal.invariant-loop-self
invariant-loop-self l = record {
  read : AreGroupsRead l.bytes l.self;
  same : l.self.fours ≡ l.fn.self.fours;
}

abbrev pub decreases-loop-self : goal.decreases-loop-self
decreases-loop-self l = 4 * l.self.fours - l.self.place
