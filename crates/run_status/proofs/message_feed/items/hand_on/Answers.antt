use Rattle.std.proofs.Common.{[], ◌∷◌, append-nil}
use Rattle.run_status.proofs.message_feed.items.hand_on.Goals as goal

pub returns-in-None : goal.returns-in-None
returns-in-None g c limit items answered assembled taken =
    ([], rw c.in-None.is at (c.in_ok-push.ensures.assembled limit items answered assembled), rw append-nil taken)

pub returns-in-Ok : goal.returns-in-Ok
returns-in-Ok g c limit items answered assembled taken =
    (c.in-Some.message ∷ [], rw c.in-Some.is at (c.in_ok-push.ensures.assembled limit items answered assembled), c.in-Ok.ensures.ok g.first answered taken)

pub returns-in-Err : goal.returns-in-Err
returns-in-Err g c limit items answered assembled taken =
    (c.in-Some.message ∷ [], rw c.in-Some.is at (c.in_ok-push.ensures.assembled limit items answered assembled), c.in-Err.ensures.err g.first answered taken)
