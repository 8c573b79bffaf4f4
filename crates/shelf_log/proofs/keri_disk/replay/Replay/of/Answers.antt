use Rattle.std.proofs.Common.{◌≡◌, ℕ, ◌+◌, List, [], ◌∷◌, ◌++◌, take, sym, ◌∙◌, ap, subst, arith}
use Rattle.std.proofs.lemmas.List.{take_more}
use Rattle.shelf_log.specs.KeriDisk.Replay.{IsLeftBy, IsLeftByAll}
use Rattle.shelf_log.specs.KeriDisk.Shapes.{image_after, image_of}
use Rattle.shelf_log.specs.declared.keri_disk.disk_call.DiskCall.{DiskCall}
use Rattle.shelf_log.proofs.KeriDiskLemmas.Replays.{replayed, image_of-push, IsLeftByAll-push}
use Rattle.shelf_log.proofs.keri_disk.replay.Replay.of.Goals as goal

pub loop-call-preserved : goal.loop-call-preserved
loop-call-preserved c =
    let so_far = c.loop-call.invariant in
    let first = c.args.first.now in
    let calls = take c.loop-call.call-index c.args.calls.now in
    let call = c.call-item.result in
    let image = c.step.new.self.image.items in
    let more : take (c.loop-call.call-index + 1) c.args.calls.now ≡ calls ++ call ∷ [] =
    take_more c.args.calls.now c.loop-call.call-index call (omega arith) ∙ ap (λ (x : DiskCall). calls ++ x ∷ []) (sym c.call-item.is) in
    let left = subst (λ (file : List ℕ). IsLeftBy call file c.loop-call.replay.image.items image) so_far.file c.in_ok-step.ensures.left in
    record {
      file = c.in_ok-step.ensures.file ∙ replayed first calls _ call c.loop-call.replay.file.items so_far.file more;
      image = c.in_ok-step.ensures.image
          ∙ (λ i. image_after c.args.shape call (so_far.file i) (so_far.image i))
          ∙ sym (image_of-push c.args.shape calls call first first)
          ∙ ap (image_of c.args.shape first first) (sym more);
      left = subst (λ (l : List DiskCall). IsLeftByAll l first first image) (sym more)
          (IsLeftByAll-push calls call first first c.loop-call.replay.image.items image so_far.left left);
      whole = λ whole. c.in_ok-step.ensures.whole whole (so_far.whole whole);
    }

pub loop-call-init : goal.loop-call-init
loop-call-init c = record {
  file = c.in_ok-replay.ensures.file;
  image = c.in_ok-replay.ensures.image;
  left = c.in_ok-replay.ensures.image;
  whole = λ whole. c.in_ok-replay.ensures.image ∙ sym c.in_ok-replay.ensures.file;
}
