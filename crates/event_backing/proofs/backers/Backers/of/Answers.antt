use Rattle.std.proofs.Common.{◌≡◌, true, [], sym, ap, ◌∙◌, length, arith}
use Rattle.std.proofs.lemmas.List.{length-map}
use Rattle.key_state.specs.Same.{are_witnesses}
use Rattle.event_backing.specs.Members.{keys_of, added_in, fresh_witness}
use Rattle.event_backing.proofs.Adding.{keys_of-fresh, added_in-fresh}
use Rattle.event_backing.proofs.backers.Backers.of.Goals as goal

pub invariant_of-result : goal.invariant_of-result
invariant_of-result c =
    let list = c.args.list.now in
    let is = c.in_ok-witnesses.ensures in
    let keys : keys_of c.in_ok-witnesses.witnesses.items ≡ list = ap keys_of is ∙ keys_of-fresh list in
    let good : are_witnesses list ≡ true = sym c.are_witnesses.ensures ∙ c.if-not-are_witnesses.false in
    (ap are_witnesses keys ∙ good, omega (arith, ap length is, length-map list fresh_witness, c.requires.few))

pub returns-clause-fresh : goal.returns-clause-fresh
returns-clause-fresh c =
    let list = c.args.list.now in
    let is = c.in_ok-witnesses.ensures in
    let keys : keys_of c.in_ok-witnesses.witnesses.items ≡ list = ap keys_of is ∙ keys_of-fresh list in
    let added : keys_of (added_in c.in_ok-witnesses.witnesses.items) ≡ [] = ap (λ ws. keys_of (added_in ws)) is ∙ added_in-fresh list in
    λ i. record { list = keys i; added = added i }
