-- What a list of payloads holds of events, and of receipts.
use Rattle.std.specs.Prelude.{◌≡◌, ℕ, List, ◌++◌, All}
use Rattle.std.specs.List.{Contains}
use Rattle.event_body.specs.EventBody.Judging.{SpellsEvent}
use Rattle.journal.specs.declared.journal.body.Body.{Body}
use Rattle.quorum_laws.specs.Histories.{AreLevel}
use Rattle.shelf_log.specs.ShelfLog.Format.{Holds}
use Rattle.shelf_log.specs.declared.shelf_log.version.Version.TheVariants.{Two}
use Rattle.validator_core.specs.ValidatorCore.View.{CoreView, accepted_by}
use Rattle.witness_core.specs.WitnessReceipts.Receipts.{IsReceiptOf}
use Rattle.witness_core.specs.declared.witness_receipts.receipt.Receipt.{Receipt}
use Rattle.witness_core.specs.WitnessLink.Links.{Terms}

-- the list has a payload with the bytes at its front that spell the event
pub record HasEvent (list : List (List ℕ)) (b : Body) : Type 0 where
  pub spelled : SpellsEvent b.event b.bytes
  pub payload : List ℕ
  pub among : Contains list payload
  pub rest : List ℕ
  pub begins : payload ≡ b.bytes ++ rest

-- and that of each accepted event
abbrev pub HoldsAccepted : CoreView → List (List ℕ) → Type 0
HoldsAccepted core list = All (HasEvent list) (accepted_by core)

-- LAWFUL: No two different establishment events of one identifier and number have payloads in the list. So a key that signs events
-- of the list alone signs no two of them (KERI paper: first seen, always seen, never unseen).
abbrev pub IsLawfulList : List (List ℕ) → Type 0
IsLawfulList list = (b c : Body) → HasEvent list b → HasEvent list c → AreLevel b.event c.event → b.bytes ≡ c.bytes

-- the receipt is of an event of which the list has the payload
pub record IsOfListed (terms : Terms) (list : List (List ℕ)) (r : Receipt) : Type 0 where
  pub event : Body
  pub has : HasEvent list event
  pub is : IsReceiptOf terms.gives terms.key event r

-- the file stands for a list that has the event of each receipt, and is lawful
pub record HoldsEach (terms : Terms) (receipts : List Receipt) (file : List ℕ) : Type 0 where
  pub stored : List (List ℕ)
  pub holds : Holds Two file stored
  pub each : All (IsOfListed terms stored) receipts
  pub lawful : IsLawfulList stored
