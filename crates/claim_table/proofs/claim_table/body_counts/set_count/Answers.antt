use Rattle.std.proofs.Common.{◌≡◌, arith, ◌∙◌, ap}
use Rattle.claim_table.specs.ClaimTable.Entries.{backs, bit}
use Rattle.claim_table.proofs.ClaimTableLemmas.Entries.{backers_set, read_is, sorted_set}
use Rattle.claim_table.proofs.claim_table.body_counts.set_count.Goals as goal
use Rattle.claim_table.proofs.claim_table.body_counts.set_count.Goals.{After-backer_of}

-- the old entry
was : (c : After-backer_of) → c.backer_of-old.result ≡ bit (backs (c.args.entry.0, c.requires.at.0))
was c = c.backer_of-old.ensures ∙ ap (λ e. bit (backs e)) (read_is c.args.entries.now.items c.args.entry.0 c.args.place c.requires.at.0 c.index.result.now c.requires.at.1 c.index.ensures)

pub overflow_sub-backers : goal.overflow_sub-backers
overflow_sub-backers c =
    let changed = backers_set c.args.entries.now.items c.args.place (c.args.entry.0, c.requires.at.0) c.args.entry c.requires.at.1 in
    omega (arith, changed, was c, c.backer_of.ensures, c.requires.kept.counted)

pub returns-clause-kept : goal.returns-clause-kept
returns-clause-kept c =
    let es = c.args.entries.now.items in let changed = backers_set es c.args.place (c.args.entry.0, c.requires.at.0) c.args.entry c.requires.at.1 in record {
      sorted = sorted_set es c.args.entry.0 c.args.place c.requires.at.0 c.requires.kept.sorted c.requires.at.1 c.args.entry.1;
      counted = omega (arith, changed, was c, c.backer_of.ensures, c.requires.kept.counted);
    }
