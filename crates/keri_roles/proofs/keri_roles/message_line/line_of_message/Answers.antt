use Rattle.keri_roles.proofs.keri_roles.message_line.line_of_message.Goals as goal

pub line_of_fault-requires : goal.line_of_fault-requires
line_of_fault-requires c = rw (c.in-Err-Fault.field-0-is, c.as_slice.ensures) at c.in-Err-Fault.ensures.judged
