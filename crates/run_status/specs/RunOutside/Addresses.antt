-- Addresses of an outside in memory.
use Rattle.std.specs.Prelude.{ℕ, List, map}
use Rattle.std.specs.List.{find}
use Rattle.std.specs.Option.{option_map}
use Rattle.std.specs.Str.{bytes_eq}
use Rattle.std.specs.declared.option.Option.{Option}
use Rattle.run_status.specs.declared.run_outside.mem_address.MemAddress.{MemAddress}

-- the first address of the name
abbrev pub address_named : List MemAddress → List ℕ → Option MemAddress
address_named addresses name = find (λ address. bytes_eq address.name name) addresses

-- the bytes that each peer of the first address of the name sends
abbrev pub links_under : List MemAddress → List ℕ → Option (List (List ℕ))
links_under addresses name = option_map (λ address. map (λ peer. peer.bytes) address.peers) (address_named addresses name)
