-- How a link closes by a fault of the witness, and whether the next one is asked for.
use Rattle.std.specs.Prelude.{Bool, true, false}
use Rattle.witness_core.specs.declared.witness_store.witness_fault.WitnessFault.{WitnessFault}
use Rattle.witness_core.specs.declared.witness_store.witness_fault.WitnessFault.TheVariants as fault
use Rattle.run_status.specs.declared.run_status.close.Close.{Close}
use Rattle.run_status.specs.declared.run_status.close.Close.TheVariants.{End, Bad, ReadFault, VerifierFault, SignerFault, DiskFault, WriteFault, Malformed, LimitReached, OutOfMemory}

abbrev pub close_by : WitnessFault → Close
close_by fault.DiskFault = DiskFault
close_by fault.SignerFault = SignerFault
close_by fault.VerifierFault = VerifierFault
close_by fault.LimitReached = LimitReached
close_by fault.Broken = DiskFault
close_by fault.OutOfMemory = OutOfMemory

-- after a link that closed so the next one is asked for; any other close ends the run
abbrev pub asks_next : Close → Bool
asks_next End = true
asks_next (Bad bad) = true
asks_next ReadFault = true
asks_next WriteFault = true
asks_next VerifierFault = false
asks_next SignerFault = false
asks_next DiskFault = false
asks_next (Malformed place) = false
asks_next LimitReached = false
asks_next OutOfMemory = false
