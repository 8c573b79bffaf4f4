-- How much a reader was fed.
use Rattle.std.specs.Prelude.{ℕ, ◌+◌, length}
use Rattle.cesr_stream.specs.Reading.{Reading}

-- how many bytes a reader was fed
abbrev pub fed : Reading → ℕ
fed reading = reading.place + length reading.rest
