-- When a shelf has no room for a message.
use Rattle.std.proofs.Common.{◌≡◌, ◌≤◌, ◌+◌, ◌*◌, ℕ, false, ◌||◌, List, [], ◌∷◌, ◌++◌, length, slice_get, Option, Some, None, sym, ◌∙◌, ap, arith, nat_lt, get_or, length-append, if◌then◌else◌}
use Rattle.std.specs.Prelude.{IfNone, IfSome, filter_map}
use Rattle.std.proofs.lemmas.Bool.{le-ltb}
use Rattle.std.proofs.lemmas.List.{take_all}
use Rattle.std.proofs.lemmas.List.Elements.{filter_map-append}
use Rattle.claim_table.proofs.CoreLawsLemmas.Told.{claims_push}
use Rattle.journal.specs.declared.journal.body.Body.{Body}
use Rattle.journal.specs.declared.journal.claim.Claim.{Claim}
use Rattle.journal.specs.Journal.History.{claims_in, claims_on, is_receipt_for, took}
use Rattle.journal.specs.Journal.Logs.{is_in}
use Rattle.journal.specs.Journal.Readiness.{held_sig}
use Rattle.journal.proofs.JournalLemmas.Accepting.{same_body-refl}
use Rattle.keri_outside.specs.declared.limits.Limits.{Limits}
use Rattle.shelf_log.specs.ShelfLog.Format.{shelf_size}
use Rattle.shelf_log.specs.declared.shelf_log.version.Version.TheVariants.{Two}
use Rattle.validator_core.specs.ValidatorCore.View.{CoreView, accepted_by, told_of}
use Rattle.witness_core.specs.WitnessStore.Histories.{bodies_in, history_of}
use Rattle.witness_core.specs.WitnessStore.Room.{IsComing, IsKnown, IsRoom, count_waiting as count_in, lacks_room, reserve, signatures_in, signatures_on, weight}
use Rattle.witness_core.specs.declared.witness_store.room.Coming.{Coming}
use Rattle.witness_core.specs.declared.witness_store.room.Room.{Room}
use Rattle.witness_core.proofs.WitnessStoreLemmas.RoomSteps.{held_is, signatures_at}
use Rattle.witness_core.proofs.WitnessStoreLemmas.Rooms.{signatures_fresh}

module _ (core : CoreView) (known : IsKnown core) (list : List (List ℕ)) (all : length list ≡ length (accepted_by core)) (room : Room) (is : IsRoom (history_of core) (length list) room)
    (b : Body) (claims : List Claim) (coming : Coming) (comes : IsComing core b claims coming) where
  -- the claims that come stand on the body
  stand : claims_in b (took 0 b claims) ≡ claims
  stand = ap (λ t. if t || is_receipt_for b b then claims else []) (same_body-refl b)

  signatures_more : signatures_on (told_of core ++ took 0 b claims ∷ []) b ≡ signatures_on (told_of core) b + signatures_in claims
  signatures_more = ap signatures_in (claims_push (told_of core) (took 0 b claims) b ∙ ap (λ l. claims_on (told_of core) b ++ l) stand)
      ∙ ap length (filter_map-append held_sig (claims_on (told_of core) b) claims)
      ∙ length-append (filter_map held_sig (claims_on (told_of core) b)) (filter_map held_sig claims)

  by_number : (o : Option ℕ) → IfSome o (λ n. slice_get core.held n ≡ Some b) → IfNone o (is_in core.held b ≡ false) → (needed : ℕ)
      → IfSome o (λ n. needed ≡ coming.bytes + 13 + 92 * (get_or room.signatures.items n 0 + coming.signatures)) → IfNone o (needed ≡ coming.bytes + 13 + 92 * coming.signatures)
      → needed ≡ weight (told_of core ++ took 0 b claims ∷ []) b
  by_number (Some n) there new needed some none =
      let before = signatures_at (history_of core) (length list) room is n b (ap (λ l. slice_get l n) (sym (held_is core known)) ∙ there) 0 in
      omega (arith, some, before, comes.bytes, comes.signatures, signatures_more)
  by_number None there new needed some none =
      let before = signatures_fresh (history_of core).base (told_of core) b (ap (λ l. is_in l b) (sym (held_is core known)) ∙ new) is.events in
      omega (arith, none, before, comes.bytes, comes.signatures, signatures_more)

  reserved_is : room.reserved ≡ reserve (told_of core) (accepted_by core) (bodies_in (history_of core))
  reserved_is = is.reserved ∙ ap (λ l. reserve (told_of core) l (bodies_in (history_of core))) (take_all (length list) (accepted_by core) (omega (arith, all)))

  -- LACKS: with room for a record more it is the bytes that count
  pub lacks_bytes : (limits : Limits) (needed : ℕ) → IfSome coming.number (λ n. needed ≡ coming.bytes + 13 + 92 * (get_or room.signatures.items n 0 + coming.signatures))
      → IfNone coming.number (needed ≡ coming.bytes + 13 + 92 * coming.signatures) → length list + count_in (accepted_by core) (bodies_in (history_of core)) + 1 ≤ limits.records
      → nat_lt limits.shelf_bytes (shelf_size Two list + room.reserved + needed) ≡ lacks_room limits (history_of core) list b claims
  lacks_bytes limits needed some none few =
      let needed_is = by_number coming.number comes.held comes.new needed some none in
      let total : shelf_size Two list + room.reserved + needed
      ≡ shelf_size Two list + reserve (told_of core) (accepted_by core) (bodies_in (history_of core)) + weight (told_of core ++ took 0 b claims ∷ []) b
      = λ i. shelf_size Two list + reserved_is i + needed_is i in
      let roomy : nat_lt limits.records (length list + count_in (accepted_by core) (bodies_in (history_of core)) + 1) ≡ false
      = le-ltb limits.records (length list + count_in (accepted_by core) (bodies_in (history_of core)) + 1) few in
      ap (nat_lt limits.shelf_bytes) total
      ∙ sym (ap (λ t. t || nat_lt limits.shelf_bytes (shelf_size Two list + reserve (told_of core) (accepted_by core) (bodies_in (history_of core)) + weight (told_of core ++ took 0 b claims ∷ []) b)) roomy)
