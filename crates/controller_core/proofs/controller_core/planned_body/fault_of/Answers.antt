use Rattle.controller_core.proofs.controller_core.planned_body.fault_of.Goals as goal

pub are_enough-requires : goal.are_enough-requires
are_enough-requires c = c.spelled_is_kept.ensures _ _ c.requires.spelled
