use Rattle.std.proofs.Common.{◌≡◌, length, inr, refl, sym, ap, ◌∙◌, arith, None, Some, Option}
use Rattle.cesr_stream.specs.declared.bad.Bad.{Bad}
use Rattle.cesr_binary.specs.Mixed.{mixed_front}
use Rattle.cesr_binary.proofs.MixedFronts.{few-mixed_front}
use Rattle.cesr_binary.proofs.mixed_reader.MixedReader.next.Goals as goal

none_of : (bad : Option Bad) → ((b : Bad) → bad ≡ Some b → ⊥) → bad ≡ None
none_of None not_some = refl
none_of (Some b) not_some = absurd (not_some b refl)

pub returns-in-Bad-clause-answer : goal.returns-in-Bad-clause-answer
returns-in-Bad-clause-answer c =
    let r = c.self.inside in
    let inv = c.self.invariant in
    let judged = rw c.in-Bad.is at c.in_ok-item.ensures.judged in
    rw (← c.self.view_is) (inr (record {
      not_bad = none_of r.bad c.in_default.not-Some;
      within = c.in-Bad.within.place;
      is_refused = ap (λ l. mixed_front l r.begun r.bytes.items) (sym inv.limited) ∙ ap (λ b. mixed_front r.front.text.limit b r.bytes.items)
          (sym inv.begun) ∙ ap (mixed_front r.front.text.limit r.front.text.begun) (sym c.as_slice.ensures) ∙ judged.0;
      there = let le = judged.1 in omega (arith, le, ap length c.as_slice.ensures);
      at = refl;
      refused_now = refl;
    }))

pub returns-in-NeedMore-clause-few : goal.returns-in-NeedMore-clause-few
returns-in-NeedMore-clause-few c =
    let r = c.self.inside in
    let inv = c.self.invariant in
    let judged = rw c.in-NeedMore.is at c.in_ok-item.ensures.judged in
    few-mixed_front r.limit r.begun r.bytes.items inv.standard
    (ap (λ l. mixed_front l r.begun r.bytes.items) (sym inv.limited) ∙ ap (λ b. mixed_front r.front.text.limit b r.bytes.items) (sym inv.begun) ∙ ap
    (mixed_front r.front.text.limit r.front.text.begun) (sym c.as_slice.ensures) ∙ judged)
