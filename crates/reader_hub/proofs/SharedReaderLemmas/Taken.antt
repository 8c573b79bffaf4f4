-- What a message does to what a reader has done.
use Rattle.std.proofs.Common.{◌≡◌, ◌≢◌, inl, inr, List, [], ◌∷◌, ◌++◌, Result, Ok, Err, refl, sym, ◌∙◌, subst, arith, append-nil}
use Rattle.std.specs.Prelude.{OnErr, OnOk, IfErr}
use Rattle.std.proofs.lemmas.List.Elements.{All-nil}
use Rattle.lists.specs.KeriSpecs.Causes.{Rose}
use Rattle.cesr_stream.specs.declared.message.Message.{Message}
use Rattle.turn_lock.specs.Known.{OwnsAlone}
use Rattle.reader_hub.specs.ReaderHub.Hubs.{HubPass}
use Rattle.run_status.specs.declared.run_status.close.Close.{Close}
use Rattle.run_status.specs.declared.run_status.close.Close.TheVariants.{End, Bad, ReadFault, VerifierFault, SignerFault, DiskFault, WriteFault, Malformed, LimitReached, OutOfMemory}
use Rattle.reader_hub.specs.SharedReader.Asks.{Asks, LeavesNone, StopsAsking, TellsNothing}
use Rattle.reader_hub.specs.declared.reader_hub.extent.Extent.{Extent}
use Rattle.reader_hub.specs.SharedReader.Offers.{IsKeptOut, OffersOne}
use Rattle.reader_hub.specs.SharedReader.Taken.{HasTaken, IsSame, IsStopped, Standing, StopsAt, TakesOne}
use Rattle.reader_hub.proofs.SharedReaderLemmas.Asked.{none_asked_seen}
use Rattle.reader_hub.proofs.SharedReaderLemmas.Inquiries.{at_most, none_asked}
use Rattle.reader_hub.proofs.SharedReaderLemmas.Offered.{offers_more, offers_still}
use Rattle.reader_hub.proofs.SharedReaderLemmas.Steps.{alone_first, none_left, none_open_first}

pub if_ok : {A E : Type 0} (r : Result A E) (P Q : Type 0) → (P → Q) → OnOk r P → OnOk r Q
if_ok (Ok x) P Q f p = f p
if_ok (Err e) P Q f p = tt

pub if_err : {A E : Type 0} (r : Result A E) (P Q : E → Type 0) → ((e : E) → P e → Q e) → IfErr r P → IfErr r Q
if_err (Ok x) P Q f p = tt
if_err (Err e) P Q f p = f e p

pub on_err : {A E : Type 0} (r : Result A E) (P : Type 0) → P → OnErr r P
on_err (Ok x) P p = tt
on_err (Err e) P p = p

-- a reader that has taken nothing
pub nothing_taken : (s : Standing) → OwnsAlone s.pass [] → s.refused ≡ [] → HasTaken s s []
nothing_taken s own none = record {
  same = record { extent = refl; limit = refl; lock = refl; says = refl };
  offers = record {
    stays = record { number = refl; splits = refl; head = refl };
    share = [];
    own = own;
    offered = [];
    messages_are = refl;
    bodies_are = All-nil _;
    taken_are = refl;
    refused_are = none;
    each = All-nil _;
    turns = omega arith;
    inquired = at_most s.inquiries s.inquiries [] 0 _ (omega arith) (none_asked s.inquiries [] refl);
    only = none_asked_seen s.inquiries s.pass;
    alone = λ is. alone_first s.pass;
  };
  none_open = λ is le. none_open_first s.pass le;
  idle = λ none. refl;
  none_failed = refl;
}

no_end : (before : List Message) (m : Message) → before ++ m ∷ [] ≢ []
no_end [] m h = cc
no_end (x ∷ before) m h = cc

module _ (s t u : Standing) (limit : t.limit ≡ s.limit) (faults : t.faults ≡ s.faults) where
  stopped_by : (rest : List Message) (close : Close) → StopsAsking t.limit u.pass t.faults u.faults close → IsStopped s u rest close
  stopped_by rest VerifierFault w = subst (λ x. Rose x u.faults) faults w
  stopped_by rest LimitReached w = (inl (w.0 ∙ limit), w.1 ∙ faults)
  stopped_by rest OutOfMemory w = w ∙ faults
  stopped_by rest End w = absurd w
  stopped_by rest (Bad bad) w = absurd w
  stopped_by rest ReadFault w = absurd w
  stopped_by rest SignerFault w = absurd w
  stopped_by rest DiskFault w = absurd w
  stopped_by rest WriteFault w = absurd w
  stopped_by rest (Malformed place) w = absurd w

  kept_by : (m : Message) (close : Close) → IsKeptOut t.limit u.pass m close → u.faults ≡ t.faults → IsStopped s u (m ∷ []) close
  kept_by m LimitReached (inl past) none = (inl (past ∙ limit), none ∙ faults)
  kept_by m LimitReached (inr away) none = (inr (record { next = m; later = []; rest_is = refl; turned_away = away }), none ∙ faults)
  kept_by m OutOfMemory w none = none ∙ faults
  kept_by m End w none = absurd w
  kept_by m (Bad bad) w none = absurd w
  kept_by m ReadFault w none = absurd w
  kept_by m VerifierFault w none = absurd w
  kept_by m SignerFault w none = absurd w
  kept_by m DiskFault w none = absurd w
  kept_by m WriteFault w none = absurd w
  kept_by m (Malformed place) w none = absurd w

module _ (old new : Standing) (m : Message) (same : IsSame old new) where
  same_on : (s : Standing) → IsSame s old → IsSame s new
  same_on s is = record { extent = same.extent ∙ is.extent; limit = same.limit ∙ is.limit; lock = same.lock ∙ is.lock; says = same.says ∙ is.says }

  -- it wasn't offered
  pub kept_out : (extent : Extent) (close : Close) → TellsNothing old.pass new.pass 1 → new.refused ≡ old.refused → new.inquiries ≡ old.inquiries → IsKeptOut old.limit new.pass m close
      → new.faults ≡ old.faults → StopsAt extent m old new close
  kept_out extent close nothing kept unasked why none first before goes_on h = record {
    same = same_on first h.same;
    some = no_end before m;
    offered = before;
    rest = m ∷ [];
    all = refl;
    offers = rw (kept, unasked) (offers_still first.extent first.says first.inquiries old.inquiries first.pass old.pass old.refused before h.offers new.pass nothing);
    why = kept_by first old new h.same.limit h.none_failed m close why none;
  }

  module _ (q : HubPass) (w : OffersOne old.pass q old.refused new.refused m) where
    -- it was offered, and what was open then was asked as far as that extent goes
    pub taken_on : {E : Type 0} (extent : Extent) (r : Result (Unit {0}) E) → OnOk r (Asks extent old.says old.inquiries new.inquiries q new.pass 1 0) → OnOk r (LeavesNone extent new.pass) → OnOk r (new.faults ≡ old.faults) → OnOk r (TakesOne extent m old new)
    taken_on extent (Err e) asks none kept = tt
    taken_on extent (Ok done) asks none kept = λ first before goes_on h. (
      record {
        same = same_on first h.same;
        offers = offers_more first.extent first.says first.inquiries old.inquiries first.pass old.pass old.refused before h.offers h.none_open extent (λ is. goes_on (h.same.extent ∙ is))
            new.inquiries q new.pass new.refused m 1 0 0 (omega arith) w (subst (λ x. Asks extent x old.inquiries new.inquiries q new.pass 1 0) h.same.says asks);
        none_open = λ is le. none_left extent new.pass (goes_on (h.same.extent ∙ is)) none;
        idle = λ none. absurd (no_end before m none);
        none_failed = kept ∙ h.none_failed;
      },
      none,
    )

    -- or the reader stopped there
    pub stopped_on : {A : Type 0} (extent : Extent) (r : Result A Close) → IfErr r (λ close. Asks extent old.says old.inquiries new.inquiries q new.pass 4 1)
        → IfErr r (StopsAsking old.limit new.pass old.faults new.faults) → IfErr r (StopsAt extent m old new)
    stopped_on extent (Ok done) asks stops = tt
    stopped_on extent (Err close) asks stops = λ first before goes_on h. record {
      same = same_on first h.same;
      some = no_end before m;
      offered = before ++ m ∷ [];
      rest = [];
      all = sym (append-nil _);
      offers = offers_more first.extent first.says first.inquiries old.inquiries first.pass old.pass old.refused before h.offers h.none_open extent (λ is. goes_on (h.same.extent ∙ is))
          new.inquiries q new.pass new.refused m 4 4 1 (omega arith) w (subst (λ x. Asks extent x old.inquiries new.inquiries q new.pass 4 1) h.same.says asks);
      why = stopped_by first old new h.same.limit h.none_failed [] close stops;
    }
