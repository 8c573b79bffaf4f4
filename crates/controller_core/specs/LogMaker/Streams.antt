-- Made streams: logs, one behind the other (own).
use Rattle.std.specs.Prelude.{ℕ, zero, suc, ◌+◌, List, [], ◌++◌}
use Rattle.controller_core.specs.LogMaker.Draws.{rotations_before}
use Rattle.controller_core.specs.LogMaker.Messages.{message_text}

-- the messages of so many events of a log, from the one of this sequence number on
unfoldable pub messages_from : ℕ → ℕ → ℕ → ℕ → List ℕ
messages_from seed log sn zero = []
messages_from seed log sn (suc count) = message_text seed log sn ++ messages_from seed log (suc sn) count

-- a log of so many events
abbrev pub log_text : ℕ → ℕ → ℕ → List ℕ
log_text seed log events = messages_from seed log 0 events

-- so many logs, from the one of this number on
unfoldable pub logs_from : ℕ → ℕ → ℕ → ℕ → List ℕ
logs_from seed log events zero = []
logs_from seed log events (suc count) = log_text seed log events ++ logs_from seed (suc log) events count

-- the stream of a seed: so many logs of so many events each
abbrev pub stream_text : ℕ → ℕ → ℕ → List ℕ
stream_text seed logs events = logs_from seed 0 events logs

-- the rotations of so many logs, from the one of this number on
unfoldable pub rotations_from : ℕ → ℕ → ℕ → ℕ → ℕ
rotations_from seed log events zero = 0
rotations_from seed log events (suc count) = rotations_before seed log events + rotations_from seed (suc log) events count

-- all rotations of the stream
abbrev pub stream_rotations : ℕ → ℕ → ℕ → ℕ
stream_rotations seed logs events = rotations_from seed 0 events logs
