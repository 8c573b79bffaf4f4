use Rattle.std.proofs.Common.{◌≡◌, take}
use Rattle.witness_core.specs.WitnessStore.Starts.{texts_in}
use Rattle.witness_core.proofs.witness_store.begun.bodies.Given as goal

abbrev pub invariant-loop-payload : goal.invariant-loop-payload
invariant-loop-payload l = l.texts.items ≡ texts_in (take l.payload-index l.payloads)
