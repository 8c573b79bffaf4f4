use Rattle.std.proofs.Common.{◌≡◌, take}
use Rattle.shelf_log.specs.KeriDisk.Replay.{file_of, IsLeftByAll}
use Rattle.shelf_log.specs.KeriDisk.Shapes.{image_of}
use Rattle.shelf_log.specs.declared.keri_disk.shape.Shape.TheVariants.{Whole}
use Rattle.shelf_log.proofs.keri_disk.replay.Replay.of.Given as goal

-- the calls so far are done again
abbrev pub invariant-loop-call : goal.invariant-loop-call
invariant-loop-call l = record {
  file : l.replay.file.items ≡ file_of l.first (take l.call-index l.calls);
  image : l.replay.image.items ≡ image_of l.shape l.first l.first (take l.call-index l.calls);
  left : IsLeftByAll (take l.call-index l.calls) l.first l.first l.replay.image.items;
  whole : l.shape ≡ Whole → l.replay.image.items ≡ l.replay.file.items;
}
