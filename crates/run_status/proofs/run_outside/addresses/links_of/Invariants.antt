use Rattle.std.proofs.Common.{◌≡◌, map, take}
use Rattle.run_status.proofs.run_outside.addresses.links_of.Given as goal

-- the peers so far have their links
abbrev pub invariant-loop-peer : goal.invariant-loop-peer
invariant-loop-peer l = map (λ link. link.bytes) l.links.items ≡ map (λ peer. peer.bytes) (take l.peer-index l.peers)
