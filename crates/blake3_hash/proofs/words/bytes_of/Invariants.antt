use Rattle.std.proofs.Common.{◌≡◌, ◌*◌, length, take}
use Rattle.std.specs.Int.{w32, to_le_bytes}
use Rattle.std.specs.List.{flat_map}
use Rattle.blake3_hash.proofs.words.bytes_of.Given as goal

abbrev pub invariant-words : goal.invariant-words
invariant-words l = record {
  long : length l.bytes ≡ 32;
  so_far : take (4 * l.i) l.bytes ≡ flat_map (to_le_bytes w32) (take l.i l.words);
}
