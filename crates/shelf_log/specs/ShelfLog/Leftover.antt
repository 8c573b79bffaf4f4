-- What a migration that was stopped leaves of its file.
--
-- A stop leaves of a cut a front of what the file held; of a write any bytes in its range, and any size up to its end; and what
-- was there at a sync stays. So while these are under way the file holds:
--
--   it is cut to nothing, and synced                                   a front of what it held
--   a byte 0 is written at 0, and synced                               nothing, or one byte of any value
--   all but the first byte of the shelf is written at 1, and synced    the byte 0, and behind it any bytes
--   the first byte of the mark is written at 0, and synced             any byte, and behind it the rest of the shelf
--
-- Where that last byte is the mark's own, the file is the shelf, and it is used. Where it is another, the same words begin anew,
-- and a stop of the cut leaves a front of the file: that byte, and behind it as much of the rest of the mark as the front has.
use Rattle.std.specs.Prelude.{◌≡◌, ◌≢◌, ◌⊎◌, ℕ, List, [], ◌∷◌, length, take, drop}
use Rattle.shelf_log.specs.ShelfLog.Format.{mark}
use Rattle.shelf_log.specs.declared.shelf_log.version.Version.TheVariants.{Two}

-- `SHELF02`, the mark of version 2 but for its first byte, which is `K`, 75
abbrev pub rest_of_mark : List ℕ
rest_of_mark = drop 1 (mark Two)

-- the bytes begin as the rest of the mark does, as far as there are any
abbrev pub GoesOnAsMark : List ℕ → Type 0
GoesOnAsMark behind = take 7 behind ≡ take (length behind) rest_of_mark

-- A stopped migration may leave the file: it is empty, or has one byte; its first byte is 0; or its first byte isn't the mark's,
-- and those behind it go on as the mark does.
abbrev pub IsLeftover : List ℕ → Type 0
IsLeftover [] = Unit {0}
IsLeftover (first ∷ behind) = (behind ≡ []) ⊎ (first ≡ 0) ⊎ ((first ≢ 75) × GoesOnAsMark behind)
