-- The numbers of the events that wait, by digests.
use Rattle.std.specs.Prelude.{◌≡◌, ℕ, ◌<◌, ◌↔◌, Bool, List, Contains, Option, Some, None}
use Rattle.std.specs.Option.{ForSome}
use Rattle.std.specs.BTreeMap.{get, is_at}
use Rattle.std.specs.declared.cmp.Ord as ord
use Rattle.std.specs.declared.cmp.Ordering.{Ordering}
use Rattle.cesr_codes.specs.contracts.digest.DigestOrd.TheImpl as digest_order
use Rattle.cesr_codes.specs.declared.digest.Digest.{Digest}
use Rattle.escrow.specs.EventIndex.Keys.{numbers_in}
use Rattle.escrow.specs.EventIndex.Numbers.{Numbers}
use Rattle.escrow.specs.declared.escrow.digest_numbers.DigestNumbers.{DigestNumbers}
use Rattle.escrow.specs.declared.escrow.room.Room.{Room}
use Rattle.escrow.specs.declared.escrow.waiter.Waiter.{Waiter}
use denote.Param as param

-- the order of digests
abbrev pub digest_cmp : Digest → Digest → Ordering
digest_cmp = param.read (ord.Ghosts.cmp {X-1 = Digest}) digest_order.ghosts

-- whether two digests are equal in it
abbrev pub digest_eq : Digest → Digest → Bool
digest_eq d e = is_at (digest_cmp d) e

-- the room of an entry, and none where there is no entry
abbrev pub room_in : Option Numbers → ℕ
room_in None = 0
room_in (Some those) = those.free

-- the numbers at a digest
abbrev pub numbers_at : DigestNumbers → Digest → List ℕ
numbers_at table d = numbers_in (get digest_cmp table.lists d)

-- how many more there is room for at a digest
abbrev pub room_at : DigestNumbers → Digest → ℕ
room_at table d = room_in (get digest_cmp table.lists d)

-- at each digest stand the numbers of the events that have it as their key
abbrev pub HasNumbers : (Waiter → Option Digest) → (ℕ → Option Waiter) → (Digest → List ℕ) → Type 0
HasNumbers key at numbers = (d : Digest) (n : ℕ) → Contains (numbers d) n ↔ ((w : Waiter) × (at n ≡ Some w) × (key w ≡ Some d))

-- where room is kept, there is a place for one more event, and for its number at its prior and at its digest
abbrev pub HasRoom : Option Room → ℕ → (Digest → ℕ) → (Digest → ℕ) → Type 0
HasRoom room spare prior said = ForSome room (λ r. (0 < spare) × ForSome r.prior (λ d. 0 < prior d) × (0 < said r.said))
