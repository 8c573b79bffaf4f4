-- What is stored at each moment, and what a stop leaves of it.
use Rattle.std.specs.Prelude.{◌≡◌, ℕ, ◌≤◌, Bool, false, List, [], ◌∷◌, ◌++◌, length, map, take, drop}
use Rattle.shelf_log.specs.KeriDisk.Images.{DiskShown, LeavesOnly}
use Rattle.keri_outside.specs.declared.limits.Limits.{Limits}
use Rattle.journal.specs.declared.journal.body.Body.{Body}
use Rattle.journal.specs.declared.journal.mode.Mode.{Mode}
use Rattle.journal.specs.Journal.Accepted.{accepted}
use Rattle.journal.specs.Journal.Grown.{IsGrown}
use Rattle.journal.specs.Journal.History.{Told}
use Rattle.journal_views.specs.EventPayload.Payloads.{text_in}
use Rattle.shelf_log.specs.ShelfLog.Format.{Holds}
use Rattle.shelf_log.specs.ShelfLog.OnDisk.{AllHold}
use Rattle.shelf_log.specs.declared.shelf_log.version.Version.TheVariants.{Two}
use Rattle.validator_core.specs.ValidatorCore.View.{CoreView}
use Rattle.witness_core.specs.WitnessStore.Histories.{History, log_in}
use Rattle.witness_core.specs.WitnessStore.Payloads.{AreListed, payload_now}
use Rattle.witness_core.specs.WitnessStore.Room.{HasRoom}
use Rattle.witness_core.specs.declared.witness_store.room.Room.{Room}

-- the file stands for the stored payloads followed by the first few of those that were accepted since, none skipped (own)
pub record HoldsFirst (stored accepted : List (List ℕ)) (file : List ℕ) : Type 0 where
  pub count : ℕ
  pub no_fewer : length stored ≤ count
  pub no_more : count ≤ length accepted
  pub holds : Holds Two file (take count accepted)

-- each image stands for the stored payloads followed by the first few of the others
abbrev pub AllStand : DiskShown → List (List ℕ) → List (List ℕ) → Type 0
AllStand shown stored accepted = (c : List ℕ) → shown.images c → HoldsFirst stored accepted c

-- the second list is the first with more behind it
abbrev pub Grown : List (List ℕ) → List (List ℕ) → Type 0
Grown old new = (more : List (List ℕ)) × (new ≡ old ++ more)

-- STORES ON: A list of payloads was stored, and while a call ran, so and so many more were. The accepted payloads go on from
-- those that were stored before, and those stored now are the first of them. Each image at the end stands for what is stored
-- now and the first few of the rest, and each image at any moment of the call for what was stored before and the first few.
pub record StoresOn (old : List (List ℕ)) (disk_old : DiskShown) (core : CoreView) (new : List (List ℕ)) (disk_new : DiskShown) : Type 0 where
  pub accepted : List (List ℕ)
  pub listed : AreListed core accepted
  pub grown : Grown old accepted
  pub first : Grown new accepted
  pub longer : length old ≤ length new
  pub images : AllStand disk_new new accepted
  pub moments : LeavesOnly disk_old disk_new (HoldsFirst old accepted)

-- the payloads of the accepted events that the list lacks, where these were accepted by the last entry
abbrev pub missing : History → List (List ℕ) → List (List ℕ)
missing h list = map (payload_now h.told (log_in h)) (drop (length list) (log_in h))

-- the list with those
abbrev pub payloads : History → List (List ℕ) → List (List ℕ)
payloads h list = list ++ missing h list

-- what an entry makes accepted, each with the signatures that are kept right after it
abbrev pub newly : Mode → List Body → List Told → Told → List (List ℕ)
newly mode base earlier t = map (payload_now (earlier ++ t ∷ []) (accepted mode base (earlier ++ t ∷ [])))
    (drop (length (accepted mode base earlier)) (accepted mode base (earlier ++ t ∷ [])))

-- and what each of the later entries does
abbrev pub by_entries : Mode → List Body → List Told → List Told → List (List ℕ)
by_entries mode base earlier [] = []
by_entries mode base earlier (t ∷ later) = newly mode base earlier t ++ by_entries mode base (earlier ++ t ∷ []) later

-- The list is the first of the payloads of the accepted events, and lacks none but those by the last entry. Each is read as its
-- event's body.
pub record IsOnWay (h : History) (list : List (List ℕ)) : Type 0 where
  pub front : length list ≤ length (log_in h)
  pub based : h.based ≤ length list
  pub texts : map text_in (take h.based list) ≡ map (λ b. b.bytes) h.base
  pub read : map text_in list ≡ map (λ b. b.bytes) (take (length list) (log_in h))
  pub all : drop h.based list ++ missing h list ≡ by_entries h.mode h.base [] h.told

-- The shelf has the payloads of all accepted events, and room for the events that wait. Its disk hasn't failed, and each image
-- stands for the list.
pub record AreStored (h : History) (list : List (List ℕ)) (limits : Limits) (broken : Bool) (shown : DiskShown) (room : Room) : Type 0 where
  pub on_way : IsOnWay h list
  pub all : length list ≡ length (log_in h)
  pub grown : IsGrown h.base
  pub fits : HasRoom limits h list room
  pub whole : broken ≡ false
  pub holds : AllHold shown list

-- Payloads were appended: the list lacks fewer of the same payloads.
pub record Appends (old : List (List ℕ)) (disk_old : DiskShown) (h : History) (new : List (List ℕ)) (disk_new : DiskShown) : Type 0 where
  pub on_way : IsOnWay h new
  pub same : payloads h new ≡ payloads h old
  pub longer : length old ≤ length new
  pub images : AllStand disk_new new (payloads h new)
  pub moments : LeavesOnly disk_old disk_new (HoldsFirst old (payloads h new))

-- Entries came, and payloads were appended: those that were stored, and what the list lacks, go on from those stored before.
pub record GoesOn (old : List (List ℕ)) (disk_old : DiskShown) (h : History) (new : List (List ℕ)) (disk_new : DiskShown) : Type 0 where
  pub on_way : IsOnWay h new
  pub grown : Grown old (payloads h new)
  pub longer : length old ≤ length new
  pub images : AllStand disk_new new (payloads h new)
  pub moments : LeavesOnly disk_old disk_new (HoldsFirst old (payloads h new))
