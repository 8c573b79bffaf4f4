-- A job may go to another thread, with what its reader is given there, and its end may come back, where a source and a verifier may.
use mathlib.Core.List.{[], ◌∷◌}
use denote.RattleType.{RattleType}
use denote.Ref.{NamedLft, ShrRef}
use denote.Param.Send.{IsSend, IsSync, shr_send}
use denote.Param.SendFields.{as_row_send, declared_send}
use denote.Struct.Field.{row_field}
use denote.Struct.Tuple.{TupleAt, type_at}
use Rattle.std.proofs.alloc.Global.TheSendSync as allocators
use Rattle.std.specs.contracts.alloc.Global as global
use Rattle.keri_outside.proofs.limits.Limits.TheSendSync as bounds
use Rattle.keri_outside.specs.contracts.limits.Limits as limits
use Rattle.run_status.proofs.run_status.reader_end.ReaderEnd.TheSendSync as readers
use Rattle.reader_hub.proofs.ReaderHubLemmas.Crosses.{hub_sync, pass_send}
use Rattle.reader_hub.proofs.reader_hub.extent.Extent.TheSendSync as extents
use Rattle.reader_hub.specs.contracts.reader_hub.hub.Hub as hubs
use Rattle.reader_hub.specs.contracts.reader_threads.job.Job as jobs
use Rattle.reader_hub.specs.contracts.reader_threads.job.JobEnd as ends
use Rattle.reader_hub.proofs.reader_threads.providers.Providers.TheSendSync as providers

pub job_send : (S V : RattleType) → IsSend S → IsSend V → IsSend (jobs.the_row S V)
job_send S V s v = declared_send (jobs.the_type S V) (pass_send, (extents.the_send, (providers.the_send S V s v, tt)))

pub end_send : (S V : RattleType) → IsSend S → IsSend V → IsSend (ends.the_row S V)
end_send S V s v = declared_send (ends.the_type S V) (pass_send, (readers.the_send S V s v, tt))

pub limits_send : IsSend limits.the_row
limits_send = bounds.the_send

-- what the thread of a reader has, whatever the type of its closure is called: the handle, the allocator, the hub, the gate, the
-- limits and its job
pub captured_send : (S V G R : RattleType) (a b c : NamedLft) → IsSend S → IsSend V → IsSync G → IsSync R
    → IsSend (TupleAt [] (ShrRef a.mir a.lft R ∷ global.the_row ∷ ShrRef b.mir b.lft hubs.the_row ∷ ShrRef c.mir c.lft G ∷ limits.the_row ∷ jobs.the_row S V ∷ []))
captured_send S V G R a b c s v g r =
    declared_send (type_at [] (ShrRef a.mir a.lft R ∷ global.the_row ∷ ShrRef b.mir b.lft hubs.the_row ∷ ShrRef c.mir c.lft G ∷ limits.the_row ∷ jobs.the_row S V ∷ [])) (
      as_row_send (row_field (ShrRef a.mir a.lft R)) (shr_send a.mir a.lft R r),
      (
        as_row_send (row_field global.the_row) allocators.the_send,
        (
          as_row_send (row_field (ShrRef b.mir b.lft hubs.the_row)) (shr_send b.mir b.lft hubs.the_row hub_sync),
          (
            as_row_send (row_field (ShrRef c.mir c.lft G)) (shr_send c.mir c.lft G g),
            (as_row_send (row_field limits.the_row) limits_send, (as_row_send (row_field (jobs.the_row S V)) (job_send S V s v), tt)),
          ),
        ),
      ),
    )
