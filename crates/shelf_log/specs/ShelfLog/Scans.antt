-- What is read of a file of records, a window of its bytes at a time.
use Rattle.std.specs.Prelude.{◌≡◌, ◌≢◌, ◌+◌, ℕ, true, false, List, ◌++◌, length, drop, slice_get, IsSomeAnd, IfSome, Result}
use Rattle.std.specs.List.{All}
use Rattle.keri_outside.specs.declared.limits.Limits.{Limits}
use Rattle.shelf_log.specs.ShelfLog.Answers.{IsOver}
use Rattle.shelf_log.specs.ShelfLog.Format.{IsSized, record_bytes, records, shelf_front, Holds, EndsIn, IsOutOfRange, FailsAt}
use Rattle.shelf_log.specs.declared.shelf_log.version.Version.{Version}
use Rattle.shelf_log.specs.declared.shelf_log.piece.Piece.{Piece}
use Rattle.shelf_log.specs.declared.shelf_log.piece.Piece.TheVariants.{Record, End as EndsHere}
use Rattle.shelf_log.specs.declared.shelf_log.piece.End.{End}
use Rattle.shelf_log.specs.declared.shelf_log.piece.End.TheVariants.{Closed, Part, OutOfRange}
use Rattle.shelf_log.specs.declared.shelf_log.scan.Scan.{Scan}
use Rattle.shelf_log.specs.declared.shelf_log.fault.ShelfFault.{ShelfFault}
use Rattle.shelf_log.specs.declared.shelf_log.fault.ShelfFault.TheVariants.{DiskFault, NotAShelf, LimitReached, Broken, OutOfMemory}
use Rattle.std.specs.declared.option.Option.{Option}
use Rattle.std.specs.declared.result.Result.TheVariants.{Ok, Err}

-- the bytes from a gate's offset on are no whole record, but this
abbrev pub IsEnd : Version → List ℕ → End → Type 0
IsEnd version bytes Closed = IsSomeAnd (slice_get bytes 0) (λ gate. gate ≢ 1)
IsEnd version bytes (Part behind) = EndsIn version bytes behind
IsEnd version bytes OutOfRange = IsOutOfRange version bytes 1

-- the bytes from a gate's offset on begin with this
abbrev pub IsPiece : Version → List ℕ → Piece → Type 0
IsPiece version bytes (Record payload) = (rest : List ℕ) × (bytes ≡ record_bytes payload.now ++ rest) × IsSized version payload.now
IsPiece version bytes (EndsHere end) = IsEnd version bytes end

-- the scan has read the records of these payloads, and keeps the payloads unless they are too many
pub record HasRead (scan : Scan) (payloads : List (List ℕ)) : Type 0 where
  pub offset : scan.offset ≡ length (shelf_front scan.version payloads)
  pub sized : All (IsSized scan.version) payloads
  pub kept : scan.is_over ≡ false → (scan.list ≡ payloads) × (IsOver scan.version scan.limits payloads → ⊥)
  pub over : scan.is_over ≡ true → IsOver scan.version scan.limits payloads

-- a scan has gone on over whole records of a window, behind which this is left of it
pub record GoesThrough (window rest : List ℕ) (old new : Scan) : Type 0 where
  pub more : List (List ℕ)
  pub window_is : window ≡ records more ++ rest
  pub offset : new.offset + length rest ≡ old.offset + length window
  pub of : (new.version ≡ old.version) × (new.limits ≡ old.limits)
  pub read : (payloads : List (List ℕ)) → HasRead old payloads → HasRead new (payloads ++ more)

-- a scan has gone on over the whole records of a window, up to this end
abbrev pub GoesOn : List ℕ → Scan → Scan → End → Type 0
GoesOn window old new end = (rest : List ℕ) × GoesThrough window rest old new × IsEnd old.version rest end

-- a scan has read whole records of a file, where the disk shows it, up to its offset
pub record ReadsOn (file : Option (List ℕ)) (scan : Scan) : Type 0 where
  pub payloads : List (List ℕ)
  pub read : HasRead scan payloads
  pub front : IfSome file (λ file. file ≡ shelf_front scan.version payloads ++ drop scan.offset file)

-- What a scan of a whole file ended by: at a closed gate behind whole records, or where it shows first that it is no shelf.
abbrev pub Scans : List ℕ → Scan → Result (Unit {0}) ShelfFault → Type 0
Scans file scan (Ok _) = (list : List (List ℕ)) × HasRead scan list × Holds scan.version file list
Scans file scan (Err (NotAShelf offset)) = FailsAt scan.version file offset
Scans file scan (Err LimitReached) = ⊥
Scans file scan (Err Broken) = ⊥
Scans file scan (Err DiskFault) = Unit {0}
Scans file scan (Err OutOfMemory) = Unit {0}

-- the scan keeps all payloads, which are no more than the limits allow
pub record IsWithin (version : Version) (limits : Limits) (scan : Scan) : Type 0 where
  pub offset : scan.offset ≡ length (shelf_front version scan.list)
  pub sized : All (IsSized version) scan.list
  pub few : IsOver version limits scan.list → ⊥
