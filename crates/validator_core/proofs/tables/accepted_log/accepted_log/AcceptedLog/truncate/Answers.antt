use Rattle.std.proofs.Common.{◌≡◌, sym, subst}
use Rattle.escrow.specs.EventIndex.Keys.{numbers_at}
use Rattle.validator_core.specs.Tables.AcceptedLog.Hints.{IsSound, prefix_cmp}
use Rattle.validator_core.specs.Tables.AcceptedLog.Values.{Log, rewound}
use Rattle.validator_core.proofs.TablesLemmas.AcceptedLogLemmas.Hinted.{sound_rewound}
use Rattle.validator_core.proofs.tables.accepted_log.accepted_log.AcceptedLog.truncate.Goals as goal

pub invariant_of-self : goal.invariant_of-self
invariant_of-self c =
    let was : Log = record { numbers = c.self.inside.numbers.items; places = c.self.inside.places.items; states = c.self.inside.states.items } in
    let now : Log = record { numbers = c.truncate.new.self.items; places = c.undo_from.new.places.items; states = c.undo_from.new.states.items } in
    let cut : now ≡ rewound c.args.len was = λ i. record { numbers = c.truncate.ensures.items i; places = c.undo_from.ensures.places i; states = c.undo_from.ensures.states i } in
    let numbers = numbers_at prefix_cmp c.self.inside.hints in
    subst (λ v. IsSound v numbers) (sym cut) (sound_rewound c.args.len was numbers c.self.invariant)
