use Rattle.std.proofs.Common.{sym, rules}
use Rattle.std.specs.BTreeMap.{get}
use Rattle.escrow.specs.Escrow.Tables.{digest_cmp}
use Rattle.escrow.proofs.EscrowLemmas.Lists.{inserted}
use Rattle.escrow.proofs.escrow.digest_numbers.DigestNumbers.insert.Goals as goal

pub returns-in-Some-get_mut : goal.returns-in-Some-get_mut
returns-in-Some-get_mut c =
    inserted (get digest_cmp c.args.self.now.lists) (get digest_cmp (c.get_mut.follows.lender c.insert.new.self)) c.in-Some.digest c.in-Some-get_mut.those.now c.insert.new.self
    (sym c.in-Some-get_mut.ensures.value) ((c.get_mut.follows.holds c.insert.new.self).3 (search rules)).0 c.args.digest c.in-Some.is c.args.number c.insert.ensures
