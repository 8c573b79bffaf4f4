-- Which readers came through their streams.
use Rattle.std.specs.Prelude.{Bool, true, false}
use Rattle.run_status.specs.declared.run_status.close.Close.{Close}
use Rattle.run_status.specs.declared.run_status.close.Close.TheVariants.{End, Bad, ReadFault, VerifierFault, SignerFault, DiskFault, WriteFault, Malformed, LimitReached, OutOfMemory}

-- the reader came to the end of its stream, or to what is refused of it
abbrev pub is_through : Close → Bool
is_through End = true
is_through (Bad bad) = true
is_through ReadFault = false
is_through VerifierFault = false
is_through SignerFault = false
is_through DiskFault = false
is_through WriteFault = false
is_through (Malformed place) = false
is_through LimitReached = false
is_through OutOfMemory = false
