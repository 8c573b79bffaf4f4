use Rattle.std.proofs.Common.{◌≡◌, ◌≤◌, ◌++◌, ◌∷◌, [], length, take, drop, sym, ◌∙◌, ap, arith, length-append}
use Rattle.std.proofs.lemmas.List.{drop-append-le, take-append-le}
use Rattle.validator_core.specs.Tables.AcceptedLog.Values.{undone_all}
use Rattle.validator_core.proofs.TablesLemmas.AcceptedLogLemmas.Extensions.{undone_all-append}
use Rattle.validator_core.proofs.tables.accepted_log.states.undo_from.Goals as goal

pub loop-places-preserved-in-Some : goal.loop-places-preserved-in-Some
loop-places-preserved-in-Some c =
    let rest = c.pop.new.self.items in let p = c.in-Some.place in let len = c.args.len in let states = c.loop-places.states.items in
    let were : c.loop-places.places.items ≡ rest ++ p ∷ [] = c.in-Some.ensures.items in
    let count = ap length were ∙ length-append rest (p ∷ []) in
    let few : len ≤ length rest = omega (arith, count, c.loop-places-test.true, c.len.ensures) in
    let parts = ap (drop len) were ∙ drop-append-le len rest (p ∷ []) few in record {
      front = sym (take-append-le len rest (p ∷ []) few) ∙ ap (take len) (sym were) ∙ c.loop-places.invariant.front;
      states_left = ap (undone_all (drop len rest)) c.undo.ensures ∙ sym (undone_all-append (drop len rest) (p ∷ []) states)
          ∙ ap (λ ps. undone_all ps states) (sym parts) ∙ c.loop-places.invariant.states_left;
    }
