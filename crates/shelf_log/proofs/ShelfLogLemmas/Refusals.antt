-- What a scan that failed says of the file.
use Rattle.std.proofs.Common.{◌≡◌, List, ℕ, Result, Ok, Err, IsErrAnd, MatchResult, sym, subst}
use Rattle.keri_outside.specs.declared.limits.Limits.{Limits}
use Rattle.shelf_log.specs.ShelfLog.Answers.{Reads}
use Rattle.shelf_log.specs.ShelfLog.Format.{FailsAt}
use Rattle.shelf_log.specs.ShelfLog.Scans.{Scans}
use Rattle.shelf_log.specs.declared.shelf_log.fault.ShelfFault.{ShelfFault}
use Rattle.shelf_log.specs.declared.shelf_log.fault.ShelfFault.TheVariants.{DiskFault, NotAShelf, LimitReached, Broken, OutOfMemory}
use Rattle.shelf_log.specs.declared.shelf_log.scan.Scan.{Scan}
use Rattle.shelf_log.specs.declared.shelf_log.version.Version.{Version}
use Rattle.shelf_log.proofs.ShelfLogLemmas.Readings.{fails_no_shelf}

pub match_err : {T E : Type 0} (r : Result T E) (e : E) (P : T → Type 0) (Q : E → Type 0) → IsErrAnd r (λ y. y ≡ e) → Q e → MatchResult r P Q
match_err (Ok x) e P Q given holds = absurd given
match_err (Err y) e P Q given holds = subst Q (sym given) holds

pub reads_refused : (version : Version) (limits : Limits) (file : List ℕ) (scan : Scan) (fault : ShelfFault) → scan.version ≡ version → Scans file scan (Err fault) → Reads version limits file (Err fault)
reads_refused version limits file scan (NotAShelf offset) of scans = let fails = subst (λ (v : Version). FailsAt v file offset) of scans in (fails, fails_no_shelf version file offset fails)
reads_refused version limits file scan LimitReached of scans = absurd scans
reads_refused version limits file scan Broken of scans = absurd scans
reads_refused version limits file scan DiskFault of scans = tt
reads_refused version limits file scan OutOfMemory of scans = tt
