use Rattle.std.proofs.Common.{◌++◌, rules, length, sym, ◌∙◌, ap, subst}
use Rattle.std.specs.Prelude.{flat_map}
use Rattle.std.proofs.lemmas.List.{length-map}
use Rattle.cesr_stream.specs.Items.{Items}
use Rattle.cesr_stream.specs.Parts.{unfinished}
use Rattle.journal.specs.Journal.Journals.{chosen}
use Rattle.watcher_core.specs.Evidence.{items_of_sets, placed_from}
use Rattle.watcher_core.specs.Named.{text_on}
use Rattle.watcher_core.proofs.Counted.{puts_sets, sets_read, text_of_sets}
use Rattle.watcher_core.proofs.evidence.evidence_of.Goals as goal

pub returns-clause-text : goal.returns-clause-text
returns-clause-text c =
    let core = c.args.core.now in
    let found = c.in_ok-conflicts.conflicts.items in
    let sets = c.in_ok-conflicts.ensures.0 in
    let names = c.in_ok-conflicts.ensures.1 in
    let are = c.in_ok-conflicts.ensures.2 in
    let long = sym (length-map found (λ d. chosen core.held d.bodies)) ∙ ap length names.bodies_are in
    let puts = puts_sets core found c.as_slice.result.now sets c.new-text.result.bytes.items c.put_sets.new.text.bytes.items names c.as_slice.ensures.value c.in_ok-put_sets.ensures in
    record {
      sets = sets;
      sets_are = are;
      text_is = c.into_bytes.ensures ∙ puts.text ∙ ap (λ old. old ++ flat_map (text_on core) (flat_map (λ set. set) sets)) c.new-text.ensures ∙ text_of_sets core sets are;
      has_conflicts_is = rw (sym long) (search rules);
    }

pub returns-clause-reads : goal.returns-clause-reads
returns-clause-reads c =
    let core = c.args.core.now in
    let found = c.in_ok-conflicts.conflicts.items in
    let sets = c.in_ok-conflicts.ensures.0 in
    let names = c.in_ok-conflicts.ensures.1 in
    let are = c.in_ok-conflicts.ensures.2 in
    let puts = puts_sets core found c.as_slice.result.now sets c.new-text.result.bytes.items c.put_sets.new.text.bytes.items names c.as_slice.ensures.value c.in_ok-put_sets.ensures in
    let text = c.into_bytes.ensures ∙ puts.text ∙ ap (λ old. old ++ flat_map (text_on core) (flat_map (λ set. set) sets)) c.new-text.ensures ∙ text_of_sets core sets are in
    record {
      sets = sets;
      sets_are = are;
      items_are = subst (λ bytes. Items 65535 bytes (placed_from 0 (items_of_sets core sets)) unfinished) (sym text) (sets_read core sets are c.sound.ensures.sound puts.raw);
    }
