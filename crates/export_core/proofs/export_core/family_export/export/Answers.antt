use Rattle.std.proofs.Common.{not, ◌∙◌, ap}
use Rattle.validator_core.specs.ValidatorCore.View.{state_of}
use Rattle.export_core.proofs.ExportCoreLemmas.Cores.{is_export, known, none_map, some_map, unknown}
use Rattle.export_core.proofs.export_core.family_export.export.Goals as goal

pub returns-then-is_none-clause-unknown : goal.returns-then-is_none-clause-unknown
returns-then-is_none-clause-unknown c = λ none. unknown c.args.core.now c.requires.full c.requires.no_base c.args.prefix.now
    (none_map (λ state. state.now) c.state.result (state_of c.args.core.now c.args.prefix.now) c.if-is_none.ensures c.state.ensures.state)

pub returns-clause-exported : goal.returns-clause-exported
returns-clause-exported c =
    let core = c.args.core.now in let first = c.args.prefix.now in
    let has = known core c.requires.full c.requires.no_base first (some_map (λ state. state.now) c.state.result (state_of core first) (c.is_none.ensures ∙ ap not c.if-is_none.false) c.state.ensures.state) in
    is_export core c.requires.full c.requires.no_base first c.in_ok-exported.exported c.in_ok-exported.ensures has
