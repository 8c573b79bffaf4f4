use Rattle.std.proofs.Common.{◌≡◌, None, sym, ap, ◌∙◌, arith, rules}
use Rattle.std.specs.BTreeMap.{get}
use Rattle.escrow.specs.EventIndex.Keys.{numbers_in}
use Rattle.escrow.specs.Escrow.Tables.{digest_cmp, room_in}
use Rattle.escrow.proofs.EscrowLemmas.Lists.{more_room, no_less_room, none_more, same_list}
use Rattle.escrow.proofs.escrow.digest_numbers.DigestNumbers.reserve.Goals as goal

pub returns-in-Some-get_mut-clause-same : goal.returns-in-Some-get_mut-clause-same
returns-in-Some-get_mut-clause-same c =
    same_list (get digest_cmp c.args.self.now.lists) (get digest_cmp (c.get_mut.follows.lender c.reserve.new.self)) c.in-Some.digest c.in-Some-get_mut.those.now c.reserve.new.self
    (sym c.in-Some-get_mut.ensures.value) ((c.get_mut.follows.holds c.reserve.new.self).3 (search rules)).0 c.reserve.ensures.same

pub returns-in-Some-get_mut-clause-kept : goal.returns-in-Some-get_mut-clause-kept
returns-in-Some-get_mut-clause-kept c =
    more_room (get digest_cmp c.args.self.now.lists) (get digest_cmp (c.get_mut.follows.lender c.reserve.new.self)) c.in-Some.digest c.in-Some-get_mut.those.now c.reserve.new.self
    (sym c.in-Some-get_mut.ensures.value) ((c.get_mut.follows.holds c.reserve.new.self).3 (search rules)).0 c.reserve.ensures.kept

pub returns-clause-same : goal.returns-clause-same
returns-clause-same c = λ d.
    let lists = c.get_mut.follows.lender-at-none in
    let none : get digest_cmp lists c.in-Some.digest ≡ None = ap (λ m. get digest_cmp m c.in-Some.digest) c.get_mut.follows.holds-at-none ∙ search rules in
    none_more (get digest_cmp lists) (get digest_cmp c.insert.new.self) c.in-Some.digest c.in_ok-those.those none c.in_ok-insert.ensures.updates.0 (search rules) d
    ∙ ap (λ m. numbers_in (get digest_cmp m d)) c.get_mut.follows.holds-at-none

pub returns-clause-kept : goal.returns-clause-kept
returns-clause-kept c = λ d.
    let lists = c.get_mut.follows.lender-at-none in
    let none : get digest_cmp lists c.in-Some.digest ≡ None = ap (λ m. get digest_cmp m c.in-Some.digest) c.get_mut.follows.holds-at-none ∙ search rules in
    let more = no_less_room (get digest_cmp lists) (get digest_cmp c.insert.new.self) c.in-Some.digest c.in_ok-those.those none c.in_ok-insert.ensures.updates.0 d in
    let before = ap (λ m. room_in (get digest_cmp m d)) c.get_mut.follows.holds-at-none in
    omega (arith, more, before)
