use Rattle.std.proofs.Common.{rules}
use base.Fml.{Lft}
use denote.Exit.{no as hidden}
use denote.Param.{param}
use denote.Param.Send.{IsSend, IsSync, arg_send, param_send}
use denote.Ref.{NamedLft}
use mir.Syntax.{erased, ty_unit}
use Rattle.turn_lock.specs.Locks.{limit_of}
use Rattle.reader_hub.proofs.ReaderThreadsLemmas.Crosses.{captured_send, end_send}
use Rattle.reader_hub.specs.ReaderThreads.Starts.{IsStarted}
use Rattle.reader_hub.specs.declared.reader_threads.started.Started.TheVariants.{Running, Ended}
use Rattle.reader_hub.proofs.ReaderThreadsLemmas.Threads.{behind}
use Rattle.reader_hub.proofs.reader_threads.started.+start.Goals as goal

pub returns-in-Ok-clause-started : goal.returns-in-Ok-clause-started
returns-in-Ok-clause-started g t c =
    let R = IsStarted g.S.Source.left g.S.Source.faults g.V.Verifier.says g.V.Verifier.inquiries g.V.Verifier.faults c.args.limits (limit_of c.args.hub.now.turn) in
    let is : R c.in-Some.job (Running c.in-Ok.child) = search rules in
    λ front each. behind R front _ _ _ _ _ _ c.in-Some.ensures.some c.put.ensures.behind (c.start-all.ensures.started front each) is

pub returns-in-Err-clause-started : goal.returns-in-Err-clause-started
returns-in-Err-clause-started g t c =
    let R = IsStarted g.S.Source.left g.S.Source.faults g.V.Verifier.says g.V.Verifier.inquiries g.V.Verifier.faults c.args.limits (limit_of c.args.hub.now.turn) in
    let is : R c.in-Some.job (Ended c.spawn_with-in-Err.result) = search rules in
    λ front each. behind R front _ _ _ _ _ _ c.in-Some.ensures.some c.put-in-Err.ensures.behind (c.start-all-in-Err.ensures.started front each) is

pub spawn_with-requires-send-F : goal.spawn_with-requires-send-F
spawn_with-requires-send-F g t c κs within =
    let source : IsSend (param 1 g.row.S) = search rules in
    let verifier : IsSend (param 2 g.row.V) = search rules in
    let gate : IsSync (param 3 g.row.G) = search rules in
    let handle : IsSync (param 4 g.row.R) = search rules in
    let at : Lft → NamedLft = λ l. record { mir = erased; lft = l } in
    let captured = captured_send (param 1 g.row.S) (param 2 g.row.V) (param 3 g.row.G) (param 4 g.row.R) (at κs.1.1.1.1.1.1.0) (at κs.1.1.1.1.1.1.1.0)
    (at κs.1.1.1.1.1.1.1.1.0) source verifier gate handle in
    let closure = param_send 2 _ (arg_send ty_unit hidden _ captured) in
    record { owned = closure.owned; leaving = closure.leaving }

pub spawn_with-requires-send-T : goal.spawn_with-requires-send-T
spawn_with-requires-send-T g t c κs within =
    let source : IsSend (param 1 g.row.S) = search rules in
    let verifier : IsSend (param 2 g.row.V) = search rules in
    let end = param_send 3 _ (arg_send ty_unit hidden _ (end_send (param 1 g.row.S) (param 2 g.row.V) source verifier)) in
    record { owned = end.owned; leaving = end.leaving }
