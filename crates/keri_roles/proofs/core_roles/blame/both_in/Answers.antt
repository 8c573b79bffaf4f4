use Rattle.std.proofs.Common.{length, ap, arith}
use Rattle.keri_roles.proofs.core_roles.blame.both_in.Goals as goal

pub unwrap-requires : goal.unwrap-requires
unwrap-requires g c =
    let empty = ap length c.requires.none_yet in
    let ok = c.args.room.ok.0 in
    c.push.ensures.succeeds (omega (arith, empty, ok, c.requires.room))
