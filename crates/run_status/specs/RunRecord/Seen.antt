-- How a run is seen, by what the objects of the outside tell.
use Rattle.std.specs.Prelude.{ℕ, Bool, List, map, option_map}
use Rattle.std.specs.declared.option.Option.{Option}
use Rattle.cesr_codes.specs.declared.key.Key.{Key}
use Rattle.cesr_codes.specs.declared.sig.Sig.{Sig}
use Rattle.shelf_log.specs.KeriDisk.Images.{DiskShown}
use Rattle.keri_outside.specs.declared.inquiry.Inquiry.{Inquiry}
use Rattle.keri_outside.specs.declared.signing.Signing.{Signing}
use Rattle.run_status.specs.RunOutside.Shown.{OutsideShown}
use Rattle.run_status.specs.RunStatus.Readers.{reader_seen}
use Rattle.keri_outside.specs.Shown.{SinkShown, sink_shown}
use Rattle.run_status.specs.RunRecord.Run.{DiskSeen, DoorShown, Run, SignerShown}
use Rattle.run_status.specs.declared.run_record.done.Done.{Done}

-- what is seen of a signer, and of one where it was made
module _ {G : Type 0} (gives : G → Key → List ℕ → Option Sig) (signings : G → Option (List Signing)) (signer_faults : G → ℕ) where
  abbrev pub signer_shown : G → SignerShown
  signer_shown signer = record { gives = gives signer; signings = signings signer; faults = signer_faults signer }

  abbrev pub signer_seen : Option G → Option SignerShown
  signer_seen signer = option_map signer_shown signer

-- what is seen of a disk
module _ {D : Type 0} (told : D → DiskShown) where
  abbrev pub disk_seen : Option D → Option DiskSeen
  disk_seen disk = option_map (λ d. record { file = (told d).file; faults = (told d).faults }) disk

-- what is seen of a door, where it was made, and of the sinks of its links
module _ {D : Type 0} (left : D → Option (List (List ℕ))) (door_faults : D → ℕ) where
  abbrev pub door_shown : D → DoorShown
  door_shown door = record { left = left door; faults = door_faults door }

  abbrev pub door_seen : Option D → Option DoorShown
  door_seen door = option_map door_shown door

abbrev pub sinks_seen : {K : Type 0} → (K → Option (List ℕ)) → (K → ℕ) → List K → List SinkShown
sinks_seen written faults sinks = map (sink_shown written faults) sinks

module _ {O S V : Type 0} (left : S → Option (List ℕ)) (faults : S → ℕ) (says : V → Key → List ℕ → Sig → Option Bool) (inquiries : V → Option (List Inquiry)) (verifier_faults : V → ℕ)
    {G : Type 0} (gives : G → Key → List ℕ → Option Sig) (signings : G → Option (List Signing)) (signer_faults : G → ℕ)
    {D K P L : Type 0} (disk_shown : D → DiskShown) (door_left : P → Option (List (List ℕ))) (door_faults : P → ℕ)
    (link_written : L → Option (List ℕ)) (link_faults : L → ℕ) (written : K → Option (List ℕ)) (sink_faults : K → ℕ) (told : O → OutsideShown) (sink : O → K) where
  -- what is seen of a run: of the outside before and after it, and of what it hands back
  abbrev pub run_over : {T : Type 0} → O → O → Done O S V G D P K T L → Run
  run_over old new done = record {
    before = told old;
    after = told new;
    sink_before = sink_shown written sink_faults (sink old);
    sink_after = sink_shown written sink_faults (sink new);
    readers = map (reader_seen left faults says inquiries verifier_faults) done.readers.items;
    signer = signer_seen gives signings signer_faults done.signer;
    disk = disk_seen disk_shown done.disk;
    old = disk_seen disk_shown done.old;
    door = door_seen door_left door_faults done.door;
    sinks = sinks_seen link_written link_faults done.sinks.items;
    journal = done.journal;
    second = done.second;
    status = done.status;
  }
