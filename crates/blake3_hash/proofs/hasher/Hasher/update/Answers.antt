use Rattle.std.proofs.Common.{◌≡◌, ◌++◌, arith, append_assoc, ◌-◌, refl}
use Rattle.std.proofs.lemmas.List.{take-append-drop}
use Rattle.blake3_hash.specs.Hasher.{Holds}
use Rattle.blake3_hash.proofs.hasher.Hasher.update.Goals as goal

pub returns-then-bytes-room-clause-holds : goal.returns-then-bytes-room-clause-holds
unfolding Holds
returns-then-bytes-room-clause-holds c = λ before held.
    (c.keep.ensures.has before held.0, λ some. omega (arith, held.1, c.keep.ensures.used, c.keep.ensures.count))

pub returns-clause-holds : goal.returns-clause-holds
unfolding Holds
returns-clause-holds c = λ before held.
    let bytes = c.args.bytes.now in
    let room = 1024 - c.args.self.now.used in
    let parts = c.split_at.ensures in
    let both : (before ++ c.split_at.result.0.now) ++ c.split_at.result.1.now ≡ before ++ bytes =
    rw (append_assoc, parts.front, parts.back, take-append-drop) refl in
    (rw (← both) (c.add_chunks-2.ensures.has _ (c.close.ensures.has _ (c.keep-2.ensures.has before held.0))), λ some. c.add_chunks-2.ensures.open)

pub returns-then-self-eq0-clause-holds : goal.returns-then-self-eq0-clause-holds
unfolding Holds
returns-then-self-eq0-clause-holds c = λ before held. (c.add_chunks.ensures.has before held.0, λ some. c.add_chunks.ensures.open)
