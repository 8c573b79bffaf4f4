use Rattle.std.proofs.Common.{◌≡◌, ◌++◌, take, map}
use Rattle.json_tree.specs.Spelling.{spelling, member_text, after_commas}
use Rattle.json_tree.proofs.value_text.+write.Given as goal

-- the values so far are added, each behind a comma
abbrev pub invariant-push_list-loop-value : goal.invariant-push_list-loop-value
invariant-push_list-loop-value l = l.out.items ≡ l.initial.out.items ++ after_commas (map spelling (take l.value-index l.others))

abbrev pub invariant-push_object-loop-member : goal.invariant-push_object-loop-member
invariant-push_object-loop-member l = l.out.items ≡ l.initial.out.items ++ after_commas (map member_text (take l.member-index l.others))
