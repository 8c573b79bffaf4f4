use Rattle.std.proofs.Common.{◌≡◌, ◌++◌, flat_map, take}
use Rattle.cesr_stream.specs.Texts.{group_text}
use Rattle.keri_roles.proofs.plan_answer.message_text.put_groups.Given as goal

-- the spellings of the groups before this one stand behind what stood there
abbrev pub invariant-loop-group : goal.invariant-loop-group
invariant-loop-group l = record {
  text : l.text.bytes.items ≡ l.initial.text.bytes.items ++ flat_map group_text (take l.group-index l.groups);
}
