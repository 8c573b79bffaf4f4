use Rattle.std.proofs.Common.{◌≡◌, ◌<◌, true, false, List, length, position, get_or, refl, sym, ap, ◌∙◌, arith}
use Rattle.std.proofs.Math.ListN.{set, length-set}
use Rattle.std.proofs.lemmas.List.Quantifiers.{position-Some}
use Rattle.key_state.specs.Same.{same_key, has_key, are_witnesses}
use Rattle.event_backing.specs.Backing.{with_added}
use Rattle.event_backing.specs.Members.{keys_of, added_in, backing_of}
use Rattle.event_backing.specs.declared.witness.Witness.{Witness}
use Rattle.event_backing.proofs.Adding.{with_mark, keys_of-marked, added-marked, added-other, has_key-at, has_added-at, none-nowhere}
use Rattle.event_backing.proofs.backers.Backers.add.Goals as goal

module _ (c : goal.In_default) where
  -- the key stands nowhere
  nowhere : has_key (keys_of c.self.inside.witnesses.items) c.args.key.now ≡ false
  nowhere =
      let test = λ (w : Witness). same_key w.key c.args.key.now in
      none-nowhere c.self.inside.witnesses.items c.args.key.now (ap (position test) (sym c.as_slice.ensures.value) ∙ sym c.place_of.ensures ∙ c.in_default.is)

pub returns-in_default-clause-new : goal.returns-in_default-clause-new
returns-in_default-clause-new c =
    let none : has_key c.args.self.now.list c.args.key.now ≡ false = ap (λ b. has_key b.list c.args.key.now) (sym c.self.view_is) ∙ nowhere c in rw none refl

pub returns-in_default-clause-added : goal.returns-in_default-clause-added
returns-in_default-clause-added c =
    let ws = c.self.inside.witnesses.items in
    let key = c.args.key.now in
    let same = added-other ws key c.self.invariant.0 (nowhere c) in
    let step : backing_of ws ≡ with_added key (backing_of ws) = λ i. record { list = keys_of ws; added = same i } in
    sym c.self.view_is ∙ step ∙ ap (with_added key) c.self.view_is

module _ (c : goal.After-self-1) where
  -- the witnesses before, and the one of the key
  abbrev ws : List Witness
  ws = c.self.inside.witnesses.items

  abbrev w : Witness
  w = c.index_mut-witness.result.now

  is : w ≡ get_or ws c.in-Some.place w
  is = c.index_mut-witness.ensures.value

  there : (c.in-Some.place < length ws) × (same_key (get_or ws c.in-Some.place w).key c.args.key.now ≡ true)
  there =
      let test = λ (w : Witness). same_key w.key c.args.key.now in
      let found = position-Some test ws c.in-Some.place w (ap (position test) (sym c.as_slice.ensures.value) ∙ sym c.place_of.ensures ∙ c.in-Some.is) in
      (found.0, found.1)

  keys : keys_of (set ws c.in-Some.place (with_mark w)) ≡ keys_of ws
  keys = ap (λ v. keys_of (set ws c.in-Some.place (with_mark v))) is ∙ keys_of-marked ws c.in-Some.place w

pub invariant_of-self : goal.invariant_of-self
invariant_of-self c =
    let count = length-set (ws c) c.in-Some.place (with_mark (w c)) in
    (ap are_witnesses (keys c) ∙ c.self.invariant.0, omega (arith, count, c.self.invariant.1))

pub returns-clause-new : goal.returns-clause-new
returns-clause-new c =
    let key = c.args.key.now in
    let i = c.in-Some.place in
    let member : has_key c.args.self.now.list key ≡ true = ap (λ b. has_key b.list key) (sym c.self.view_is) ∙ has_key-at (ws c) i (w c) key (there c).0 (there c).1 in
    let added : has_key c.args.self.now.added key ≡ (w c).added
    = ap (λ b. has_key b.added key) (sym c.self.view_is) ∙ has_added-at (ws c) i (w c) key c.self.invariant.0 (there c).0 (there c).1 ∙ ap (λ (v : Witness). v.added) (sym (is c)) in
    rw (member, added) refl

pub returns-clause-added : goal.returns-clause-added
returns-clause-added c =
    let key = c.args.key.now in
    let i = c.in-Some.place in
    let added = ap (λ v. keys_of (added_in (set (ws c) i (with_mark v)))) (is c) ∙ added-marked (ws c) i (w c) key c.self.invariant.0 (there c).0 (there c).1 in
    let step : backing_of (set (ws c) i (with_mark (w c))) ≡ with_added key (backing_of (ws c)) = λ j. record { list = keys c j; added = added j } in
    step ∙ ap (with_added key) c.self.view_is
