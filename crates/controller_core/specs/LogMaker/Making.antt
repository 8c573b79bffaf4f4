-- What a maker of a stream tells: the bytes that it hasn't given yet (own).
use Rattle.std.specs.Prelude.{ℕ, suc, List, ◌++◌, drop}
use Rattle.std.specs.declared.option.Option.{Option}
use Rattle.std.specs.declared.option.Option.TheVariants.{Some}
use Rattle.controller_core.specs.LogMaker.Streams.{messages_from, logs_from}
use Rattle.controller_core.specs.declared.log_maker.rest.Rest.{Rest}
use Rattle.controller_core.specs.declared.log_maker.log_maker.LogMaker.{LogMaker}

-- the messages of the open log that aren't made yet, and the logs behind it
unfoldable pub rest_text : Rest → List ℕ
rest_text rest = messages_from rest.log.next.seed rest.log.next.log rest.log.next.sn rest.events_left ++ logs_from rest.log.next.seed (suc rest.log.next.log) rest.events rest.logs_left

-- what the last message has left, and what isn't made yet
abbrev pub maker_left : LogMaker → Option (List ℕ)
maker_left maker = Some (drop maker.given maker.message.items ++ rest_text maker.rest)

-- how often there was no memory
abbrev pub maker_faults : LogMaker → ℕ
maker_faults maker = maker.faults
