-- What is seen of what takes a reader's messages.
use Rattle.std.specs.Prelude.{ℕ, List, Option}
use Rattle.keri_outside.specs.declared.inquiry.Inquiry.{Inquiry}
use Rattle.turn_lock.specs.Locks.{known, limit_of, lock_of}
use Rattle.reader_hub.specs.SharedReader.Asks.{Says}
use Rattle.reader_hub.specs.SharedReader.Taken.{Standing, standing}
use Rattle.reader_hub.specs.declared.shared_reader.hub_taker.HubTaker.{HubTaker}

abbrev pub standing_of : {V G W : Type 0} → (V → Says) → (V → Option (List Inquiry)) → (V → ℕ) → HubTaker V G W → Standing
standing_of says inquiries faults taker =
    standing taker.extent (limit_of taker.hub.now.turn) (lock_of taker.pass) (known taker.pass) (says taker.verifier) (inquiries taker.verifier) (faults taker.verifier) taker.refused.items
