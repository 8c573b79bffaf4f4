use Rattle.std.proofs.Common.{sym, rules}
use Rattle.std.specs.BTreeMap.{get}
use Rattle.escrow.specs.Escrow.Tables.{digest_cmp}
use Rattle.escrow.proofs.EscrowLemmas.Lists.{more_room, removed}
use Rattle.escrow.proofs.escrow.digest_numbers.DigestNumbers.remove.Goals as goal

pub returns-in-Some-get_mut-clause-left : goal.returns-in-Some-get_mut-clause-left
returns-in-Some-get_mut-clause-left c =
    removed (get digest_cmp c.args.self.now.lists) (get digest_cmp (c.get_mut.follows.lender c.remove.new.self)) c.in-Some.digest c.in-Some-get_mut.those.now c.remove.new.self
    (sym c.in-Some-get_mut.ensures.value) ((c.get_mut.follows.holds c.remove.new.self).3 (search rules)).0 c.args.digest c.in-Some.is c.args.number c.remove.ensures.left

pub returns-in-Some-get_mut-clause-kept : goal.returns-in-Some-get_mut-clause-kept
returns-in-Some-get_mut-clause-kept c =
    more_room (get digest_cmp c.args.self.now.lists) (get digest_cmp (c.get_mut.follows.lender c.remove.new.self)) c.in-Some.digest c.in-Some-get_mut.those.now c.remove.new.self
    (sym c.in-Some-get_mut.ensures.value) ((c.get_mut.follows.holds c.remove.new.self).3 (search rules)).0 c.remove.ensures.room
