use Rattle.std.proofs.Common.{◌≡◌, ◌+◌, ◌-◌, ◌*◌, ◌/◌, true, false, refl, length, take, drop, slice_index, arith, sym, ap, ◌∙◌, length-drop, length-take}
use Rattle.cesr_binary.specs.BinaryDomain.{text_of, is_binary}
use Rattle.cesr_binary.proofs.GivenBytes.{given_length, goes_binary, goes_text}
use Rattle.cesr_binary.proofs.either_reader.EitherReader.give.Goals as goal
use Rattle.cesr_binary.proofs.either_reader.EitherReader.give.Goals.{then-begins_binary+in_ok-feed, else-begins_binary+in_ok-feed-2}

pub feed-requires : goal.feed-requires
feed-requires c =
    let r = c.args.self.now.text in
    let room = given_length r.limit r.begun c.args.bytes.now c.args.self.now.given r.rest c.requires.given.given in
    let within = c.requires.given.given.within in
    omega (
      arith,
      room,
      within,
      c.requires.short,
      c.requires.given.from,
      c.turn-length.ensures.few,
      length-take c.turn-length.result
          c.turn-length.new.characters,
    )

pub feed-requires-else-begins_binary : goal.feed-requires-else-begins_binary
feed-requires-else-begins_binary c =
    let r = c.args.self.now.text in
    let room = given_length r.limit r.begun c.args.bytes.now c.args.self.now.given r.rest c.requires.given.given in
    let within = c.requires.given.given.within in
    omega (
      arith,
      room,
      within,
      c.requires.short,
      c.requires.given.from,
      length-drop c.args.self.now.given c.args.bytes.now,
      length-take
          (c.args.self.now.given + c.min-count.result - c.args.self.now.given) (drop c.args.self.now.given c.args.bytes.now),
    )

pub returns-clause-goes_on : goal.returns-clause-goes_on
returns-clause-goes_on c =
    let x = c.args.bytes.now in
    let old = c.args.self.now in
    let k = c.min-count.result in
    let piece : take (old.given + k - old.given) (drop old.given x) ≡ take k (drop old.given x) = ap (λ n. take n (drop old.given x)) (omega arith) in
    elim c.if-begins_binary.branch [
      | then-begins_binary+in_ok-feed w ↦
          let t : is_binary (slice_index x 0) ≡ true = sym c.begins_binary.ensures ∙ w.if-begins_binary.true in
          let threes = c.requires.given.given.threes t in
          let all : c.args.all ≡ 3 * (length x / 3) = c.requires.all ∙ rw t refl in
          rw w.self-is (goes_binary x old k w.feed.new.self (take w.turn-length.result w.turn-length.new.characters) t c.requires.given
          (omega (arith, threes, all, c.max.ensures, c.min.ensures, c.min-count.ensures, c.requires.more))
          (omega (arith, all, c.min-count.ensures, c.requires.more))
          (w.turn-length.ensures.text ∙ ap text_of piece) w.in_ok-feed.ensures.ok)
      | else-begins_binary+in_ok-feed-2 w ↦
          let f : is_binary (slice_index x 0) ≡ false = sym c.begins_binary.ensures ∙ w.if-begins_binary.false in
          let all : c.args.all ≡ length x = c.requires.all ∙ rw f refl in
          rw w.self-is (goes_text x old k w.feed-else-begins_binary.new.self _ f c.requires.given
          (omega (arith, all, c.min-count.ensures, c.requires.more)) piece w.in_ok-feed-2.ensures.ok)
    ]
