-- What an outside in memory tells.
use Rattle.std.specs.Prelude.{if◌then◌else◌}
use Rattle.std.specs.declared.option.Option.TheVariants.{None, Some}
use Rattle.keri_outside.specs.declared.mem_sink.MemSink.{MemSink}
use Rattle.run_status.specs.RunOutside.Addresses.{links_under}
use Rattle.run_status.specs.RunOutside.Disks.{stored_under}
use Rattle.run_status.specs.RunOutside.Files.{held_under}
use Rattle.run_status.specs.RunOutside.Helpers.{says_under, gives_under}
use Rattle.run_status.specs.RunOutside.Shown.{OutsideShown}
use Rattle.run_status.specs.declared.run_outside.mem_outside.MemOutside.{MemOutside}

abbrev pub outside_sink : MemOutside → MemSink
outside_sink outside = outside.sink

abbrev pub outside_shown : MemOutside → OutsideShown
outside_shown outside = record {
  faults = outside.faults;
  holds = held_under outside.files;
  says = says_under outside.helpers;
  gives = gives_under outside.helpers;
  stored = stored_under outside.disks;
  links = links_under outside.addresses;
  makings = if outside.telling then Some outside.makings else None;
  limits = outside.limits;
}
