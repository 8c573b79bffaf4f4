-- Of which peer a link is.
use Rattle.std.specs.Prelude.{ℕ}
use Rattle.keri.specs.declared.timed_link.TimedLink.{TimedLink}

abbrev pub peer_of : TimedLink → ℕ
peer_of link = link.peer
