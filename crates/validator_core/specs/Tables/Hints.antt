-- What the hints say: under its key stands the number of each row (and perhaps of others).
use Rattle.std.specs.Prelude.{◌≡◌, ℕ, ◌<◌, ◌≤◌, Bool, false, true, List, length, take, slice_get, Some, Contains}
use Rattle.event_body.specs.EventBody.Events.{prefix_of}
use Rattle.escrow.specs.Escrow.Escrow.{Escrow, held as held_by}
use Rattle.claim_table.specs.declared.claim_table.signature.Signature.{Signature}
use Rattle.claim_table.specs.ClaimTable.Rows.{is_raised}
use Rattle.claim_table.specs.ClaimTable.Table.{Table}
use Rattle.event_backing.specs.EventSeals.{IsEventSeal, holds_seal}
use Rattle.event_backing.specs.declared.event_seal.EventSeal.{EventSeal}
use Rattle.event_body.specs.declared.event_body.event.Event.{Event}
use Rattle.journal.specs.declared.journal.body.Body.{Body}
use Rattle.journal.specs.declared.journal.claim.Claim.{Claim}
use Rattle.journal.specs.declared.journal.entry.Entry.{Entry}
use Rattle.journal.specs.declared.journal.entry.Entry.TheVariants.{Took}
use Rattle.validator_core.specs.declared.tables.name.Name.{Name}
use Rattle.validator_core.specs.declared.tables.name.SealKey.{SealKey}
use Rattle.validator_core.specs.declared.tables.name.ClaimKey.{ClaimKey}
use Rattle.validator_core.specs.Tables.Names.{name_of, name_in, seal_key, claim_key}
use Rattle.validator_core.specs.Tables.View.{number_of, waiter_at}

-- each body under its name
abbrev pub AreNamed : (Name → List ℕ) → List Body → Type 0
AreNamed names held = (n : ℕ) (b : Body) → slice_get held n ≡ Some b → Contains (names (name_of b.event)) n

-- each entry by which a body came, under the body's name
abbrev pub AreTold : (Name → List ℕ) → List Body → List Entry → Type 0
AreTold told held entries = (i reader n : ℕ) (claims : List Claim) (b : Body) → slice_get entries i ≡ Some (Took reader n claims)
    → slice_get held n ≡ Some b → Contains (told (name_of b.event)) i

-- among the numbers are those of all bodies with the name
abbrev pub HasBodiesNamed : Name → List Body → List ℕ → Type 0
HasBodiesNamed name held numbers = (n : ℕ) (b : Body) → slice_get held n ≡ Some b → name_of b.event ≡ name → Contains numbers n

-- among the numbers are those of all entries by which bodies with the name came
abbrev pub HasEntriesNamed : Name → List Body → List Entry → List ℕ → Type 0
HasEntriesNamed name held entries numbers = (i reader n : ℕ) (claims : List Claim) (b : Body)
    → slice_get entries i ≡ Some (Took reader n claims) → slice_get held n ≡ Some b → name_of b.event ≡ name → Contains numbers i

-- each entry by which a claim came with a body, under both
abbrev pub HaveCome : (ClaimKey → List ℕ) → List Entry → Type 0
HaveCome came entries = (i reader n : ℕ) (claims : List Claim) (c : Claim) → slice_get entries i ≡ Some (Took reader n claims)
    → Contains claims c → Contains (came (claim_key n c)) i

-- each place of the log under the name of its event
abbrev pub AreAccepted : (Name → List ℕ) → List Body → List ℕ → Type 0
AreAccepted accepted held numbers = (i n : ℕ) (b : Body) → slice_get numbers i ≡ Some n → slice_get held n ≡ Some b
    → Contains (accepted (name_of b.event)) i

-- a place under each name that an event seals
abbrev pub IsSealedAt : (SealKey → List ℕ) → Event → ℕ → Type 0
IsSealedAt seals e i = (seal : EventSeal) → IsEventSeal seal → holds_seal e seal.prefix seal.sn seal.said ≡ true
    → Contains (seals (seal_key (prefix_of e) (name_in seal))) i

-- each place of the log under what its event seals
abbrev pub AreSealed : (SealKey → List ℕ) → List Body → List ℕ → Type 0
AreSealed seals held numbers = (i n : ℕ) (b : Body) → slice_get numbers i ≡ Some n → slice_get held n ≡ Some b → IsSealedAt seals b.event i

-- the escrow has the events that aren't among the accepted that have left it, and no other
abbrev pub IsEscrow : Escrow → List Body → List ℕ → Type 0
IsEscrow escrow held done = (n : ℕ) → held_by n escrow ≡ waiter_at done n (slice_get held n)

-- no two places of the log have events of one name
abbrev pub AreNamedOnce : List Body → List ℕ → Type 0
AreNamedOnce held numbers = (i j n m : ℕ) (b c : Body) → slice_get numbers i ≡ Some n → slice_get held n ≡ Some b
    → slice_get numbers j ≡ Some m → slice_get held m ≡ Some c → name_of b.event ≡ name_of c.event → i ≡ j

-- no event of the log has the name
abbrev pub IsNameNew : List Body → List ℕ → Name → Type 0
IsNameNew held numbers name = (i n : ℕ) (b : Body) → slice_get numbers i ≡ Some n → slice_get held n ≡ Some b → name_of b.event ≡ name → ⊥

-- all of these; entries and events of the log speak of bodies that are held
pub record AreHinted (held : List Body) (entries : List Entry) (numbers : List ℕ) (released : ℕ) (waiting : Escrow) (by_name told_at place_at : Name → List ℕ) (came_at : ClaimKey → List ℕ) (seal_at : SealKey → List ℕ) (clash : Bool) : Type 0 where
  pub named : AreNamed by_name held
  pub told : AreTold told_at held entries
  pub came : HaveCome came_at entries
  pub accepted : AreAccepted place_at held numbers
  pub sealed : AreSealed seal_at held numbers
  pub escrow : IsEscrow waiting held (take released numbers)
  pub entries_held : (i : ℕ) (e : Entry) → slice_get entries i ≡ Some e → number_of e < length held
  pub accepted_held : (i n : ℕ) → slice_get numbers i ≡ Some n → n < length held
  pub released_held : released ≤ length numbers
  pub few : length held ≤ 4294967296
  pub once : clash ≡ false → AreNamedOnce held numbers

-- the pending signature, where there is one, is of some row
abbrev pub IsPending : Table → Type 0
IsPending t = (s : Signature) → t.pending ≡ Some s → is_raised t.rows s ≡ true

-- at each key the numbers below one stay
abbrev pub KeepsBelow : {K : Type 0} → ℕ → (K → List ℕ) → (K → List ℕ) → Type 0
KeepsBelow {K} number old new = (q : K) (n : ℕ) → n < number → Contains (old q) n → Contains (new q) n
