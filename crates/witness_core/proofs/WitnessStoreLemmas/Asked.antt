-- What a verdict leaves of what is stored.
use Rattle.std.proofs.Common.{◌≡◌, Bool, List, ℕ, sym, subst}
use Rattle.journal.specs.declared.journal.question.Question.{Question}
use Rattle.journal.specs.Journal.Grown.{IsGrown}
use Rattle.journal.specs.Journal.History.{Told, heard}
use Rattle.shelf_log.specs.KeriDisk.Images.{DiskShown}
use Rattle.keri_outside.specs.declared.limits.Limits.{Limits}
use Rattle.validator_core.specs.ValidatorCore.View.{CoreView}
use Rattle.witness_core.specs.WitnessStore.Histories.{history_of, told_more}
use Rattle.witness_core.specs.WitnessStore.Room.{HasRoom}
use Rattle.witness_core.specs.WitnessStore.Storing.{AreStored, IsOnWay}
use Rattle.validator_core.specs.ValidatorCore.Verdicts.{Notes}
use Rattle.witness_core.specs.declared.witness_store.room.Room.{Room}
use Rattle.witness_core.proofs.WitnessStoreLemmas.Entries.{history_follows, on_way_more}
use Rattle.witness_core.proofs.WitnessStoreLemmas.RoomSteps.{has_room_heard}

module _ (old new : CoreView) (q : Question) (verdict : Bool) (notes : Notes old q verdict new) (list : List (List ℕ)) (limits : Limits) (broken : Bool) (shown : DiskShown) (room : Room)
    (stored : AreStored (history_of old) list limits broken shown room) where
  abbrev t : Told
  t = heard 0 notes.body q.key q.sig verdict

  is : history_of new ≡ told_more (history_of old) t
  is = history_follows old new t notes.follows notes.behind

  pub noted_way : IsOnWay (history_of new) list
  noted_way = subst (λ h. IsOnWay h list) (sym is) (on_way_more (history_of old) t list stored.all stored.on_way)

  pub noted_grown : IsGrown (history_of new).base
  noted_grown = subst (λ h. IsGrown h.base) (sym is) stored.grown

  pub noted_fits : HasRoom limits (history_of new) list room
  noted_fits = subst (λ h. HasRoom limits h list room) (sym is) (has_room_heard (history_of old) limits list room stored.all stored.fits notes.body q.key q.sig verdict)
