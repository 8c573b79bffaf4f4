-- Files of an outside in memory.
use Rattle.std.specs.Prelude.{ℕ, List}
use Rattle.std.specs.List.{find}
use Rattle.std.specs.Option.{option_map}
use Rattle.std.specs.Str.{bytes_eq}
use Rattle.std.specs.declared.option.Option.{Option}
use Rattle.run_status.specs.declared.run_outside.mem_file.MemFile.{MemFile}

-- the first file of the name
abbrev pub file_named : List MemFile → List ℕ → Option MemFile
file_named files name = find (λ file. bytes_eq file.name name) files

-- the bytes of the first file of the name
abbrev pub held_under : List MemFile → List ℕ → Option (List ℕ)
held_under files name = option_map (λ file. file.bytes) (file_named files name)
