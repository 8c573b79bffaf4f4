use Rattle.std.proofs.Common.{sym, subst, ◌∙◌}
use Rattle.std.specs.List.{AllByRecursion}
use Rattle.json_tree.specs.Spelling.{IsJson}
use Rattle.event_body.specs.EventBody.Spelling.{values_of}
use Rattle.event_body.proofs.EventWritingLemmas.JsonValues.{all_json, values_are}
use Rattle.event_body.proofs.event_writing.body.event_text.Goals as goal

pub body_text-requires : goal.body_text-requires
body_text-requires c =
    let all = all_json (values_of c.args.event.now) (values_are c.args.event.now c.requires.typed c.requires.thresholds c.requires.writable) in
    subst (AllByRecursion IsJson) (sym (c.as_slice.ensures ∙ c.in_ok-values.ensures)) all
