-- What the table keeps beside its rows.
use Rattle.std.specs.Prelude.{◌≡◌, ◌<◌, ◌≤◌, ◌^◌, ℕ, zero, suc, Bool, true, false, ◌&&◌, ◌||◌, ◌==◌, not, List, [], ◌∷◌, length, take, Option, Some, None, slice_get, is_none, is_some, Contains, count_by, min}
use Rattle.std.specs.Option.{option_map}
use Rattle.std.specs.declared.cmp.Ordering.{Ordering}
use Rattle.std.specs.declared.cmp.Ord as ord
use Rattle.std.specs.BTreeSet.{contains}
use Rattle.claim_table.specs.contracts.claim_table.signature.SignatureOrd.TheImpl as signature_order
use Rattle.claim_table.specs.contracts.claim_table.spot.SpotOrd.TheImpl as spot_order
use Rattle.claim_table.specs.declared.claim_table.body_index.BodyIndex.{BodyIndex}
use Rattle.claim_table.specs.declared.claim_table.claim_rows.ClaimRows.{ClaimRows}
use Rattle.claim_table.specs.declared.claim_table.claim_rows.Pending.{Pending}
use Rattle.claim_table.specs.ClaimTable.BodyParts.{BodyPart}
use Rattle.claim_table.specs.declared.claim_table.row.Row.{Row}
use Rattle.claim_table.specs.declared.claim_table.signature.Signature.{Signature}
use Rattle.claim_table.specs.declared.claim_table.spot.Spot.{Spot}
use Rattle.claim_table.specs.ClaimTable.Counts.{amount, is_entered}
use Rattle.claim_table.specs.ClaimTable.Hinted.{hints_at}
use Rattle.claim_table.specs.ClaimTable.Parts.{brings, supports}
use Rattle.claim_table.specs.ClaimTable.Rows.{DoAgree, is_of, is_raised, signature_of, verdict_of}
use Rattle.claim_table.specs.ClaimTable.Table.{Table}
use denote.Param as param

-- the orders of the keys
abbrev pub signature_cmp : Signature → Signature → Ordering
signature_cmp = param.read (ord.Ghosts.cmp {X-1 = Signature}) signature_order.ghosts

-- the numbers at a signature
abbrev pub places_of : BodyIndex Signature → Signature → List ℕ
places_of index s = hints_at signature_cmp index s.body s

abbrev pub spot_cmp : Spot → Spot → Ordering
spot_cmp = param.read (ord.Ghosts.cmp {X-1 = Spot}) spot_order.ghosts

abbrev pub spot_at : ℕ → ℕ → Spot
spot_at n i = record { body = n; row = i }

-- a row, after those before it, opens its question on a body: it is the first of its signature, and has no verdict
abbrev pub opens : ℕ → List Row → Option Row → Bool
opens n before None = false
opens n before (Some r) = (r.claimed.body == n) && (is_none r.verdict && not (is_raised before (signature_of r.claimed)))

abbrev pub is_open_at : List Row → ℕ → ℕ → Bool
is_open_at rows n i = opens n (take i rows) (slice_get rows i)

abbrev pub is_pending : Option Pending → ℕ → ℕ → Bool
is_pending None n i = false
is_pending (Some p) n i = (p.signature.body == n) && (p.row == i)

-- the spots are those of the rows that open a question, and of the pending one
abbrev pub AreOpen : List Row → Option Pending → (Spot → Bool) → Type 0
AreOpen rows pending open_spots = (n i : ℕ) → open_spots (spot_at n i) ≡ (is_open_at rows n i || is_pending pending n i)

-- the place of each row is among the numbers of its signature
abbrev pub AreHinted : List Row → (Signature → List ℕ) → Type 0
AreHinted rows numbers = (i : ℕ) (r : Row) → slice_get rows i ≡ Some r → Contains (numbers (signature_of r.claimed)) i

-- the row at a place is the first of a signature
abbrev pub IsFirstAt : List Row → Signature → ℕ → Type 0
IsFirstAt rows s i = (r : Row) × (slice_get rows i ≡ Some r) × (is_of s r ≡ true) × (is_raised (take i rows) s ≡ false)

-- the place of the first row of a signature, or none where there is no row of it
abbrev pub IsFirstOf : List Row → Signature → Option ℕ → Type 0
IsFirstOf rows s None = is_raised rows s ≡ false
IsFirstOf rows s (Some i) = IsFirstAt rows s i

-- the pending signature has a verdict, and its first row is known
abbrev pub IsPending : List Row → Option Pending → Type 0
IsPending rows None = Unit {0}
IsPending rows (Some p) = IsFirstAt rows p.signature p.row × (is_some (verdict_of rows p.signature) ≡ true)

-- the pending signature's first row is one of the first rows
abbrev pub IsPendingBelow : ℕ → Option Pending → Type 0
IsPendingBelow len None = Unit {0}
IsPendingBelow len (Some p) = p.row < len

-- the count of each part is the number of the rows that bring it with a yes
abbrev pub AreCounted : List Row → (BodyPart → ℕ) → Type 0
AreCounted rows counts = (q : BodyPart) → counts q ≡ count_by (supports q) rows

-- each part of a row has an entry
abbrev pub AreEntered : List Row → (BodyPart → Bool) → Type 0
AreEntered rows entered = (i : ℕ) (r : Row) (q : BodyPart) → slice_get rows i ≡ Some r → brings r.claimed.body r.claimed.parts q ≡ true → entered q ≡ true

pub record IsKept (rows : List Row) (pending : Option Pending) (open_spots : Spot → Bool) (numbers : Signature → List ℕ) (counts : BodyPart → ℕ) (entered : BodyPart → Bool) : Type 0 where
  pub agree : DoAgree rows
  pub first : IsPending rows pending
  pub opened : AreOpen rows pending open_spots
  pub hinted : AreHinted rows numbers
  pub counted : AreCounted rows counts
  pub entries : AreEntered rows entered
  pub few : length rows < 2 ^ 32

abbrev pub IsSound : ClaimRows → Type 0
IsSound t = IsKept t.rows.items t.pending (contains spot_cmp t.spots) (places_of t.by_signature) (amount t.counts) (is_entered t.counts)

-- what callers see
abbrev pub seen : ClaimRows → Table
seen t = record { rows = t.rows.items; pending = option_map (λ p. p.signature) t.pending }

-- the row at a place is of the signature
abbrev pub is_of_at : Signature → Option Row → Bool
is_of_at s None = false
is_of_at s (Some r) = is_of s r

-- the least of the numbers that pass the test, or none where none does
abbrev pub IsLeast : (ℕ → Bool) → List ℕ → Option ℕ → Type 0
IsLeast test numbers None = (n : ℕ) → Contains numbers n → test n ≡ false
IsLeast test numbers (Some n) = (test n ≡ true) × ((m : ℕ) → Contains numbers m → test m ≡ true → n ≤ m)

-- the lesser of two numbers, where both are there
abbrev pub lesser : Option ℕ → Option ℕ → Option ℕ
lesser None second = second
lesser (Some m) None = Some m
lesser (Some m) (Some n) = Some (min m n)

-- a list with one element changed
abbrev pub at_place : {X : Type 0} → ℕ → (X → X) → List X → List X
at_place n f [] = []
at_place zero f (x ∷ xs) = f x ∷ xs
at_place (suc n) f (x ∷ xs) = x ∷ at_place n f xs
