-- Files of disks of an outside in memory.
use Rattle.std.specs.Prelude.{ℕ, List}
use Rattle.std.specs.List.{find}
use Rattle.std.specs.Option.{option_map}
use Rattle.std.specs.Str.{bytes_eq}
use Rattle.std.specs.declared.option.Option.{Option}
use Rattle.run_status.specs.declared.run_outside.mem_disk_file.MemDiskFile.{MemDiskFile}

-- the first file of the name
abbrev pub disk_file_named : List MemDiskFile → List ℕ → Option MemDiskFile
disk_file_named files name = find (λ file. bytes_eq file.name name) files

-- the bytes of the first file of the name
abbrev pub stored_under : List MemDiskFile → List ℕ → Option (List ℕ)
stored_under files name = option_map (λ file. file.bytes) (disk_file_named files name)
