-- Where the code stops at a part, it stops at what begins with that part.
use Rattle.std.proofs.Common.{ℕ, ◌≤◌, List, length, drop, ap, arith, length-drop, Bool, true, false, Result, Ok, Err, IfOk}
use Rattle.cesr_stream.specs.declared.stop.Stop.{Stop}
use Rattle.cesr_stream.specs.declared.stop.Stop.TheVariants.{Refused, Unfinished, OutOfMemory}
use Rattle.cesr_stream.specs.Parts.{Part, shifted, followed_by}
use Rattle.cesr_stream.specs.Front.{behind_counter, behind_body}
use Rattle.cesr_stream.specs.Stops.{Stops, Halts, further}

-- what a value has that is answered
pub on_ok : {T E : Type 0} (P Q : T → Type 0) (result : Result T E) → ((value : T) → P value → Q value) → IfOk result P → IfOk result Q
on_ok P Q (Ok value) has is = has value is
on_ok P Q (Err e) has is = tt

pub halts : (bytes : List ℕ) (part : Part) (stop : Stop) → Stops bytes part stop → Halts bytes part stop
halts bytes part (Refused place reason) is = is
halts bytes part Unfinished is = is
halts bytes part OutOfMemory is = absurd is

-- so many bytes further behind
pub halts-further : (bytes : List ℕ) (place : ℕ) (part : Part) (stop : Stop) → place ≤ length bytes → Halts (drop place bytes) part stop → Halts bytes (shifted place part) (further place stop)
halts-further bytes place part (Refused p reason) le is = (ap (shifted place) is.0, let few = is.1 in omega (arith, le, few, length-drop place bytes))
halts-further bytes place part Unfinished le is = ap (shifted place) is
halts-further bytes place part OutOfMemory le is = tt

-- what would be judged behind a part
pub halts-followed : (bytes behind : List ℕ) (part : Part) (next : ℕ → List ℕ → Part) (stop : Stop) → Halts bytes part stop → Halts bytes (followed_by part next behind) stop
halts-followed bytes behind part next (Refused p reason) is = (ap (λ q. followed_by q next behind) is.0, is.1)
halts-followed bytes behind part next Unfinished is = ap (λ q. followed_by q next behind) is
halts-followed bytes behind part next OutOfMemory is = tt

-- what stands behind a counter
pub stops-counter : (bytes : List ℕ) (counter part : Part) (stop : Stop) → Stops bytes counter stop → Stops bytes (behind_counter counter part) stop
stops-counter bytes counter part (Refused p reason) is = (ap (λ c. behind_counter c part) is.0, is.1)
stops-counter bytes counter part Unfinished is = ap (λ c. behind_counter c part) is
stops-counter bytes counter part OutOfMemory is = absurd is

-- a group or wrap, where a body came before or not
pub stops-body : (bytes : List ℕ) (part : Part) (begun : Bool) (stop : Stop) → Stops bytes part stop → Stops bytes (behind_body begun part) stop
stops-body bytes part true stop is = is
stops-body bytes part false (Refused p reason) is = (ap (behind_body false) is.0, is.1)
stops-body bytes part false Unfinished is = ap (behind_body false) is
stops-body bytes part false OutOfMemory is = absurd is
