-- What is known of doors and links over TCP.
use Rattle.std.specs.Prelude.{ℕ}
use Rattle.std.specs.declared.net.socket_addr.SocketAddr.{SocketAddr}
use Rattle.edges.specs.Over.{door_faults as faults_over, listens_by}
use Rattle.keri.specs.declared.real_sink.Target.{Target}
use Rattle.keri.specs.declared.real_sink.Target.TheVariants.{Output, Child as ChildInput, Link as LinkOut}
use Rattle.keri.specs.declared.real_source.Origin.{Origin}
use Rattle.keri.specs.declared.real_source.Origin.TheVariants.{File, Input, Child, Link}
use Rattle.keri.specs.declared.tcp_door.TcpDoor.{TcpDoor}
use Rattle.keri.specs.declared.tcp_door.TcpHandle.{TcpHandle}
use Rattle.keri.specs.Peers.{peer_of}

-- where a door stands
abbrev pub door_address : TcpDoor → SocketAddr
door_address door = (listens_by door.door).address

abbrev pub door_faults : TcpDoor → ℕ
door_faults door = faults_over door.door

abbrev pub handle_peer : TcpHandle → ℕ
handle_peer link = link.peer

-- the peer of a link; 0 of what is no link
abbrev pub origin_peer : Origin → ℕ
origin_peer (File file) = 0
origin_peer (Input input) = 0
origin_peer (Child output) = 0
origin_peer (Link link) = peer_of link

abbrev pub target_peer : Target → ℕ
target_peer (Output output) = 0
target_peer (ChildInput input) = 0
target_peer (LinkOut link) = peer_of link
