use Rattle.std.proofs.Common.{◌≡◌, ◌≤◌, length, map, take}
use Rattle.std.specs.Prelude.{All, filter}
use Rattle.cesr_codes.specs.Indexed.{IsIndexed}
use Rattle.journal.specs.declared.journal.claim.Claim.TheVariants.{Controller}
use Rattle.journal.specs.Journal.Replies.{is_held}
use Rattle.export_core.proofs.export_core.groups.held_sigs.Given as goal

-- those of the claims so far are found
abbrev pub invariant-loop-claim : goal.invariant-loop-claim
invariant-loop-claim l = record {
  are : map (λ s. Controller s) l.sigs.items ≡ filter is_held (take l.claim-index l.claims);
  few : length l.sigs.items ≤ l.claim-index;
  raw : All IsIndexed l.sigs.items;
}
