-- Waiting events may go to another thread: said a part at a time, since a `search` that goes down through all of them at once runs
-- out of steps.
use denote.Builtin.{u32}
use denote.Param.Send.{IsSend, sendable}
use denote.Param.SendFields.{declared_send}
use Rattle.std.proofs.Crossing as crossing
use Rattle.std.proofs.collections.BTreeMap.TheSendSync as btree
use Rattle.std.specs.contracts.alloc.Global as global
use Rattle.std.specs.contracts.hash.BuildHasherDefault as builder
use Rattle.std.specs.contracts.hash.FoldHasher as fold
use Rattle.std.specs.contracts.impls.GlobalAllocator.TheImpl as allocator
use Rattle.cesr_codes.proofs.digest.Digest.TheSendSync as digest
use Rattle.escrow.proofs.event_index.rising.Rising.TheSendSync as rising
use Rattle.cesr_codes.specs.contracts.digest.Digest as digests
use Rattle.cesr_codes.specs.contracts.digest.DigestOrd.TheImpl as digest_ord
use Rattle.cesr_codes.specs.contracts.digest.DigestPartialEq.TheImpl as digest_eq
use Rattle.cesr_codes.specs.contracts.digest.DigestPartialOrd.TheImpl as digest_partial
use Rattle.escrow.specs.contracts.event_index.rising.Rising as risings
use Rattle.std.specs.contracts.prelude.U32PartialEq.TheImpl as u32_eq
use Rattle.std.specs.contracts.prelude.U32Hash.TheImpl as u32_hash
use Rattle.std.specs.contracts.prelude.FoldHasherHasher.TheImpl as fold_hasher
use Rattle.indexmap.proofs.map.IndexMap.TheSendSync as map
use Rattle.std.proofs.option.Option.TheSendSync as options
use Rattle.std.specs.contracts.option.Option as option
use Rattle.escrow.specs.contracts.escrow.digest_numbers.DigestNumbers as numbers
use Rattle.escrow.specs.contracts.escrow.waiter.Waiter as waiter
use Rattle.escrow.specs.contracts.escrow.waiting.Waiting as waiting
use Rattle.escrow.specs.contracts.escrow.waiting.Waiting.TheInside as inside

global_send : IsSend global.the_row
global_send = search sendable depth 20

builder_send : IsSend (builder.the_row fold.the_row)
builder_send = search sendable depth 20

numbers_send : IsSend numbers.the_row
numbers_send = declared_send numbers.the_type (global_send, (btree.the_send digests.the_row risings.the_row global.the_row digest_ord.ghosts digest_eq.ghosts digest_partial.ghosts allocator.ghosts digest.the_send rising.the_send global_send crossing.frees, tt))

digest_option : IsSend (option.the_row digests.the_row)
digest_option = options.the_send digests.the_row digest.the_send

waiter_send : IsSend waiter.the_row
waiter_send = declared_send waiter.the_type (search sendable, (digest_option, (digest.the_send, tt)))

pub waiting_send : IsSend waiting.the_row
waiting_send =
    let whole : IsSend inside.the_row = declared_send inside.the_type (
      map.the_send u32 waiter.the_row (builder.the_row fold.the_row) global.the_row fold.the_row u32_eq.ghosts u32_hash.ghosts _ fold_hasher.ghosts allocator.ghosts (search sendable) waiter_send builder_send global_send crossing.frees,
      (numbers_send, (numbers_send, (search sendable depth 20, tt))),
    ) in
    search sendable depth 4
