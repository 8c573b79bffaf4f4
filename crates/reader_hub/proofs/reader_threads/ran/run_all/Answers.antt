use denote.Exit.{no as hidden}
use denote.Param.{arg, layout, param}
use denote.Param.Send.{arg_send, param_send}
use Rattle.reader_hub.proofs.reader_threads.ran.run_all.Goals as goal

-- the bounds of the closure's type arguments are those of the function's
pub scoped-requires : goal.scoped-requires
scoped-requires g c = record {
  at = λ a. (
    (c.requires.own, c.requires.jobs, c.requires.started, c.requires.passes, c.requires.readers),
    (
      param_send 0 (arg (layout g.row.S) hidden (param 0 g.row.S)) (arg_send (layout g.row.S) hidden (param 0 g.row.S) c.type_bounds.send-S),
      param_send 1 (arg (layout g.row.V) hidden (param 1 g.row.V)) (arg_send (layout g.row.V) hidden (param 1 g.row.V) c.type_bounds.send-V),
      search c.type_bounds.sync-G,
      search c.type_bounds.sync-R,
    ),
  );
}
