use Rattle.std.proofs.Common.{◌≡◌, take, map}
use Rattle.std.specs.List.{AllByRecursion}
use Rattle.json_tree.specs.declared.tree.Tree.TheVariants.{Str}
use Rattle.event_body.proofs.body_fields.strings.all.Given as goal

-- the values so far are strings of what was found
abbrev pub invariant-loop-value : goal.invariant-loop-value
invariant-loop-value g l = record {
  valid : AllByRecursion g.P.Spelled.is_valid l.found.items;
  spelled : take l.value-index l.values ≡ map (λ p. Str (g.P.Spelled.spelling p)) l.found.items;
}
