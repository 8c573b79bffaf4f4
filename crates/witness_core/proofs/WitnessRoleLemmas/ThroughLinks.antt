-- What a stop leaves through all links that a witness served.
use Rattle.std.proofs.Common.{◌≡◌, ℕ, Bool, true, false, List, [], ◌∷◌, ◌++◌, Option, refl, sym, subst, append-nil}
use Rattle.std.proofs.lemmas.List.Elements.{All-append, All-weaker}
use Rattle.cesr_codes.specs.declared.key.Key.{Key}
use Rattle.cesr_codes.specs.declared.sig.Sig.{Sig}
use Rattle.shelf_log.specs.KeriDisk.Images.{DiskShown}
use Rattle.keri_outside.specs.declared.limits.Limits.{Limits}
use Rattle.run_status.specs.declared.run_status.close.Close.{Close}
use Rattle.run_status.specs.declared.run_status.close.Close.TheVariants.{End, Bad, ReadFault, VerifierFault, SignerFault, DiskFault, WriteFault, Malformed, LimitReached, OutOfMemory}
use Rattle.keri_outside.specs.Shown.{SourceShown}
use Rattle.validator_core.specs.ValidatorCore.View.{open_of}
use Rattle.witness_core.specs.WitnessStore.Payloads.{AreListed}
use Rattle.witness_core.specs.WitnessStore.Storing.{Grown}
use Rattle.witness_core.specs.WitnessCore.Telling.{AsksVerdicts}
use Rattle.witness_core.specs.declared.witness_receipts.receipt.Receipt.{Receipt}
use Rattle.witness_core.specs.WitnessLink.Calls.{receipts_in}
use Rattle.witness_core.specs.WitnessLink.Links.{Left, LinkShown, Standing, standing_of, terms_of}
use Rattle.witness_core.specs.WitnessLink.Served.{ClosesLink}
use Rattle.witness_core.specs.WitnessLink.Serving.{Serves}
use Rattle.witness_core.specs.WitnessLink.Stored.{IsOfListed}
use Rattle.witness_core.proofs.WitnessLinkLemmas.Asked.{asks_on, calls_close, untold_asked}
use Rattle.witness_core.proofs.WitnessLinkLemmas.Storing.{front_of, held_each, of_longer, stores_more}
use Rattle.witness_core.specs.WitnessLink.Closes.{asks_next}
use Rattle.witness_core.specs.WitnessRole.ServedLinks.{Between, ServedLink, ServesEach, ServesOne, StopsLeave, StoresThrough, link_terms, receipts_due}

-- behind a link after which the next one is asked for all that is accepted is stored
stored_behind : (limits : Limits) (source_old source_new : SourceShown) (bytes : List ℕ) (old new : LinkShown) (serves : Serves old new) (close : Close)
    → ClosesLink limits source_old source_new bytes old new serves close → asks_next close ≡ true → AreListed new.witness.core new.witness.list
stored_behind limits source_old source_new bytes old new serves End c goes = c.1.is_whole.listed
stored_behind limits source_old source_new bytes old new serves (Bad bad) c goes = c.1.is_whole.listed
stored_behind limits source_old source_new bytes old new serves ReadFault c goes = c.1.is_whole.listed
stored_behind limits source_old source_new bytes old new serves WriteFault c goes = c.1.is_whole.listed
stored_behind limits source_old source_new bytes old new serves VerifierFault c goes = cc
stored_behind limits source_old source_new bytes old new serves SignerFault c goes = cc
stored_behind limits source_old source_new bytes old new serves DiskFault c goes = cc
stored_behind limits source_old source_new bytes old new serves LimitReached c goes = cc
stored_behind limits source_old source_new bytes old new serves OutOfMemory c goes = cc
stored_behind limits source_old source_new bytes old new serves (Malformed place) c goes = absurd c

-- the witness stands as behind the last message then
now_behind : (limits : Limits) (source_old source_new : SourceShown) (bytes : List ℕ) (old new : LinkShown) (serves : Serves old new) (close : Close)
    → ClosesLink limits source_old source_new bytes old new serves close → asks_next close ≡ true → serves.behind ≡ standing_of new.witness
now_behind limits source_old source_new bytes old new serves End c goes = c.1.now
now_behind limits source_old source_new bytes old new serves (Bad bad) c goes = c.1.now
now_behind limits source_old source_new bytes old new serves ReadFault c goes = c.1.now
now_behind limits source_old source_new bytes old new serves WriteFault c goes = c.1.now
now_behind limits source_old source_new bytes old new serves VerifierFault c goes = cc
now_behind limits source_old source_new bytes old new serves SignerFault c goes = cc
now_behind limits source_old source_new bytes old new serves DiskFault c goes = cc
now_behind limits source_old source_new bytes old new serves LimitReached c goes = cc
now_behind limits source_old source_new bytes old new serves OutOfMemory c goes = cc
now_behind limits source_old source_new bytes old new serves (Malformed place) c goes = absurd c

-- and no question is open, where none was before
none_behind : (old new : LinkShown) (serves : Serves old new) → serves.behind ≡ standing_of new.witness → open_of old.witness.core ≡ [] → open_of new.witness.core ≡ []
none_behind old new serves now none =
    subst (λ (s : Standing). open_of s.core ≡ []) now (calls_close (terms_of old) (standing_of old.witness) serves.calls serves.behind serves.taken none)

module _ {D : Type 0} (shown : D → DiskShown) (key : Key) (limits run_limits : Limits) (says : Key → List ℕ → Sig → Option Bool) (gives : Key → List ℕ → Option Sig) where
  abbrev Each : List ServedLink → Between D → Between D → Type 0
  Each = ServesEach shown key limits run_limits says gives

  abbrev One : ServedLink → Between D → Between D → Type 0
  One = ServesOne shown key limits run_limits says gives

  abbrev Through : List Receipt → Left D → Left D → Type 0
  Through = StoresThrough shown key limits run_limits says gives

  abbrev due : (links : List ServedLink) (old new : Between D) → Each links old new → List Receipt
  due = receipts_due shown key limits run_limits says gives

  -- one link
  through_one : (link : ServedLink) (old new : Between D) (one : One link old new) → Through (receipts_in one.serves.serves.calls) old.left new.left
  through_one link old new one = record {
    stores = one.serves.serves.stores;
    lawful = one.serves.serves.lawful;
    of_stored = one.serves.serves.of_stored;
    held = one.serves.held;
  }

  -- a link, and then others, where all that was accepted was stored
  through_both : (first later : List Receipt) (old mid new : Left D) → Through first old mid → AreListed mid.core mid.list → Through later mid new
      → Through (first ++ later) old new
  unfolding stores_more
  through_both first later old mid new a listed b =
      let longer : Grown mid.list new.list = front_of mid.list new.list b.stores.accepted b.stores.grown b.stores.first b.stores.longer in
      let terms = link_terms shown key limits run_limits says gives in
      let stores = stores_more old.list (shown old.disk) mid.core mid.list (shown mid.disk) new.core new.list (shown new.disk) a.stores listed b.stores in
      let of = All-append (IsOfListed terms new.list) first later
      (All-weaker (IsOfListed terms mid.list) (IsOfListed terms new.list) (λ r is. of_longer terms mid.list new.list r longer is) first a.of_stored) b.of_stored in
      record {
        stores = stores;
        lawful = b.lawful;
        of_stored = of;
        held = held_each terms old.list (shown old.disk) new.core new.list (shown new.disk) (first ++ later) stores b.lawful of;
      }

  through_last : (link : ServedLink) (old mid new : Between D) (one : One link old mid) (none : new ≡ mid) → Through (receipts_in one.serves.serves.calls ++ []) old.left new.left
  through_last link old mid new one none =
      let receipts = receipts_in one.serves.serves.calls in
      subst (λ (n : Between D). Through (receipts ++ []) old.left n.left) (sym none) (subst (λ rs. Through rs old.left mid.left) (sym (append-nil receipts)) (through_one link old mid one))

  -- LEAVES: through all links
  pub stops_leave : (links : List ServedLink) (old new : Between D) (each : Each links old new) → StopsLeave shown key limits run_limits says gives links old new each
  stops_leave [] old new each = tt
  stops_leave (link ∷ []) old new each = through_last link old each.0 new each.1 each.3
  stops_leave (link ∷ next ∷ links) old new each =
      through_both (receipts_in each.1.serves.serves.calls) (due (next ∷ links) each.0 new each.3) old.left each.0.left new.left (through_one link old each.0 each.1)
      (listed (asks_next link.close) refl) (stops_leave (next ∷ links) each.0 new each.3)
    where
      listed : (goes : Bool) → asks_next link.close ≡ goes → AreListed each.0.left.core each.0.left.list
      listed true goes = stored_behind run_limits link.source_old link.source each.1.serves.bytes _ _ each.1.serves.serves link.close each.1.serves.closes goes
      listed false ends = let none : next ∷ links ≡ [] = each.2 ends in cc

  -- ASKED: through all links the verifier was asked for the verdicts that came, and maybe for the first question that is open in the end
  pub asked_through : (links : List ServedLink) (old new : Between D) → Each links old new → open_of old.left.core ≡ [] → AsksVerdicts old.inquiries new.inquiries old.left.core new.left.core
  asked_through [] old new each none =
      subst (λ (n : Between D). AsksVerdicts old.inquiries n.inquiries old.left.core n.left.core) (sym each) (untold_asked old.inquiries old.left.core)
  asked_through (link ∷ []) old new each none =
      subst (λ (n : Between D). AsksVerdicts old.inquiries n.inquiries old.left.core n.left.core) (sym each.3) (each.1.serves.serves.inquired none)
  asked_through (link ∷ next ∷ links) old new each none =
      asks_on old.inquiries each.0.inquiries new.inquiries old.left.core each.0.left.core new.left.core (each.1.serves.serves.inquired none) closed
      (asked_through (next ∷ links) each.0 new each.3 closed)
    where
      closes : (goes : Bool) → asks_next link.close ≡ goes → open_of each.0.left.core ≡ []
      closes true goes = none_behind _ _ each.1.serves.serves
          (now_behind run_limits link.source_old link.source each.1.serves.bytes _ _ each.1.serves.serves link.close each.1.serves.closes goes) none
      closes false ends = let none : next ∷ links ≡ [] = each.2 ends in cc

      closed : open_of each.0.left.core ≡ []
      closed = closes (asks_next link.close) refl
