use Rattle.std.proofs.Common.{◌≡◌, ◌-◌, ◌≤◌, length, take, arith, sym, ap, ◌∙◌, length-drop, subst, inl, inr}
use Rattle.cesr_stream.specs.Parts.{whole, refused}
use Rattle.cesr_stream.specs.Written.{IsWritable}
use Rattle.cesr_binary.specs.Mixed.{mixed_front, SpellsEither}
use Rattle.cesr_binary.specs.GivenBytes.{either_place}
use Rattle.cesr_binary.proofs.GivenBytes.{given_more, given_item, given_bad}
use Rattle.cesr_binary.proofs.either_reader.EitherReader.step.Goals as goal

pub returns-in-Item-clause-judged : goal.returns-in-Item-clause-judged
returns-in-Item-clause-judged c =
    let r = c.args.self.now.text in
    let x = c.args.bytes.now in
    let count = c.args.self.now.given in
    let a = rw c.in-Item.is at c.in_ok-item.ensures.answer in
    let n = a.length_of in
    let within = a.within in
    let size : c.buffered-before.result - c.buffered.result ≡ n = omega
    (arith, within, c.buffered-before.ensures, c.buffered.ensures, ap (λ r. length r.rest) a.moved, length-drop n r.rest) in
    subst (λ p. (mixed_front r.limit r.begun (take count x) ≡ whole p) × SpellsEither (take p (take count x)) c.in-Item.item ×
    (p ≤ length (take count x)) × IsWritable c.in-Item.item)
    (sym (c.either_place.ensures ∙ ap (either_place x) size))
    (given_item r.limit r.begun x count r.rest c.requires.given n c.in-Item.item a.is_whole a.spelled within a.writable)

pub returns-in-Bad-clause-judged : goal.returns-in-Bad-clause-judged
returns-in-Bad-clause-judged c =
    let r = c.args.self.now.text in
    let x = c.args.bytes.now in
    let count = c.args.self.now.given in
    elim (rw c.in-Bad.is at c.in_ok-item.ensures.answer) [
      | inl was ↦ cc (sym c.requires.not_bad ∙ was.0)
      | inr a ↦
          let place : c.in-Bad.bad.place ≡ a.within = omega (arith, a.at, c.requires.from) in
          subst (λ p. (mixed_front r.limit r.begun (take count x) ≡ refused p c.in-Bad.bad.reason) × (p ≤ length (take count x)))
          (sym (c.either_place-place.ensures ∙ ap (either_place x) place))
          (given_bad r.limit r.begun x count r.rest c.requires.given a.within c.in-Bad.bad.reason a.is_refused a.there)
    ]

pub returns-in-NeedMore-clause-judged : goal.returns-in-NeedMore-clause-judged
returns-in-NeedMore-clause-judged c =
    let r = c.args.self.now.text in
    let a = rw c.in-NeedMore.is at c.in_ok-item.ensures.answer in
    given_more r.limit r.begun c.args.bytes.now c.args.self.now.given r.rest c.requires.given a.1
