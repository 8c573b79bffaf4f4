-- What one reader has read, by what it began with and what it hands back.
use Rattle.std.specs.Prelude.{ℕ, Bool, List, [], Option}
use Rattle.cesr_codes.specs.declared.key.Key.{Key}
use Rattle.cesr_codes.specs.declared.sig.Sig.{Sig}
use Rattle.keri_outside.specs.declared.inquiry.Inquiry.{Inquiry}
use Rattle.keri_outside.specs.declared.limits.Limits.{Limits}
use Rattle.turn_lock.specs.Locks.{known, lock_of}
use Rattle.reader_hub.specs.SharedReader.ReadsOne.{ReadsOne}
use Rattle.keri_outside.specs.Shown.{source_of}
use Rattle.reader_hub.specs.SharedReader.Taken.{standing}
use Rattle.reader_hub.specs.declared.shared_reader.reader.ReadOne.{ReadOne}
use Rattle.reader_hub.specs.declared.shared_reader.reader.Reader.{Reader}

module _ {S V : Type 0} (left : S → Option (List ℕ)) (faults : S → ℕ) (says : V → Key → List ℕ → Sig → Option Bool)
    (inquiries : V → Option (List Inquiry)) (verifier_faults : V → ℕ) (limits : Limits) (limit : ℕ) where
  -- with a pass of a lock for so many turns, what the reader was given was read and asked, and this is handed back
  abbrev pub HasRead : Reader S V → ReadOne S V → Type 0
  HasRead old new = ReadsOne limits
      (standing old.extent limit (lock_of old.pass) (known old.pass) (says old.verifier) (inquiries old.verifier) (verifier_faults old.verifier) [])
      (standing old.extent limit (lock_of new.pass) (known new.pass) (says new.verifier) (inquiries new.verifier) (verifier_faults new.verifier) new.refused.items)
      (source_of (left old.source) (faults old.source)) (source_of (left new.source) (faults new.source)) new.ending
