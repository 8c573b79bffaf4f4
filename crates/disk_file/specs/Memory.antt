-- What a file in memory shows.
use Rattle.std.specs.Prelude.{List}
use Rattle.disk_file.specs.declared.file_call.FileCall.{FileCall}
use Rattle.disk_file.specs.declared.mem_file.MemFile.{MemFile}

-- the calls that came about
abbrev pub file_calls : MemFile → List FileCall
file_calls file = file.calls
