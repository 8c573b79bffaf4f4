-- A change with a sync behind it.
use Rattle.std.proofs.Common.{◌≡◌, inl, inr, ℕ, min, List, length, take, Result, Ok, Err, IsErr, OnOk, option_map, refl, sym, ◌∙◌, ap, arith, take_all}
use Rattle.std.proofs.lemmas.Bool.{cases_lt}
use Rattle.shelf_log.specs.KeriDisk.Images.{DiskShown, Torn, CutShort, LeavesOnly}
use Rattle.shelf_log.specs.KeriDisk.Calls.{Elapses, Syncs}
use Rattle.shelf_log.specs.ShelfLog.Durable.{ChangesDurably}
use Rattle.shelf_log.proofs.KeriDiskLemmas.Moments.{KnowsNow, one_call, and_then, elapses_of}

-- nothing may be left of a write
pub torn_none : (offset n : ℕ) (c : List ℕ) → Torn offset n c c
torn_none offset n c = record {
  before = elim (cases_lt offset (length c)) [
    | inl lt ↦ ap (λ (m : ℕ). take m c) (omega (arith, lt))
    | inr le ↦ take_all (min offset (length c)) c (omega (arith, le)) ∙ sym (take_all offset c (omega (arith, le)))
  ];
  after = refl;
  no_shorter = omega arith;
  no_longer = omega arith;
}

pub cut_none : (size : ℕ) (c : List ℕ) → CutShort size c c
cut_none size c = record { front = take_all (length c) c (omega arith); no_shorter = omega arith }

ok_anyway : {E : Type 0} (P : Type 0) (result : Result (Unit {0}) E) → P → OnOk result P
ok_anyway P (Ok _) holds = holds
ok_anyway P (Err e) holds = tt

pub none_of_err : {T E : Type 0} (P : Type 0) (result : Result T E) → IsErr result → OnOk result P
none_of_err P (Ok x) failed = grind (arith, failed)
none_of_err P (Err e) failed = tt

module _ (whole : List ℕ → List ℕ) (part : List ℕ → List ℕ → Type 0) (none : (c : List ℕ) → part c c) (old mid : DiskShown) (knows : KnowsNow old) (time : Elapses old mid)
    (images : (c : List ℕ) → mid.images c → (d : List ℕ) × old.images d × part d c) where
  changed : LeavesOnly old mid (λ c. (d : List ℕ) × old.images d × part d c)
  changed = one_call old mid _ knows time (λ c here. (c, here, none c)) images

  pub change_failed : {E : Type 0} (result : Result (Unit {0}) E) → IsErr result → ChangesDurably whole part old mid result
  change_failed result failed = record { durable = none_of_err _ result failed; file = none_of_err _ result failed; moments = changed }

  pub then_synced : {E : Type 0} (new : DiskShown) (result : Result (Unit {0}) E) → KnowsNow mid → mid.file ≡ option_map whole old.file → Syncs mid new result → ChangesDurably whole part old new result
  then_synced new result knows_mid file synced = record {
    durable = synced.durable;
    file = ok_anyway _ result (synced.keeps.file ∙ file);
    moments = and_then old mid new _ changed (one_call mid new _ knows_mid (elapses_of mid new synced.keeps) images (λ c now. images c (synced.keeps.images c now)));
  }
