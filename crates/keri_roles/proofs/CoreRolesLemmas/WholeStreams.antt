-- What was read of a stream up to its end, or up to what is refused of it, has all messages of the stream.
use Rattle.std.proofs.Common.{◌≡◌, ◌≢◌, ℕ, zero, suc, ◌+◌, ◌<◌, inl, inr, Bool, true, false, List, [], ◌∷◌, ◌++◌, length, Option, Some, None, refl, sym, ◌∙◌, ap, subst, append-nil}
use Rattle.std.specs.Prelude.{All, IfSome, drop, map}
use Rattle.std.proofs.lemmas.List.{drop-append-le}
use Rattle.std.proofs.lemmas.List.Elements.{All-head, All-tail}
use Rattle.lists.specs.KeriSpecs.Shown.{IsAtEnd}
use Rattle.cesr_stream.specs.declared.bad.Bad.{Bad as BadItem}
use Rattle.cesr_stream.specs.declared.message.Message.{Message}
use Rattle.cesr_stream.specs.Front.{front}
use Rattle.cesr_stream.specs.Items.{IsEnd, Items, Placed, Stand, none, one}
use Rattle.cesr_stream.specs.Parts.{Part, refused, unfinished, whole}
use Rattle.cesr_stream.specs.Reading.{Reading}
use Rattle.cesr_stream.proofs.Fronts.{stays-front}
use Rattle.cesr_stream.proofs.Items.{place_within, stand_more}
use Rattle.keri_outside.specs.declared.limits.Limits.{Limits}
use Rattle.journal.specs.Journal.Feeds as feeds
use Rattle.journal.specs.Journal.Feeds.{AreFirst, AreMessages, Fed, FeedEach, Feeds, FeedsOne, reader_of}
use Rattle.journal.specs.Journal.History.{Told as ToldEntry}
use Rattle.run_status.specs.MessageFeed.Closing.{Gave}
use Rattle.run_status.specs.MessageFeed.Feeds.{Stream}
use Rattle.run_status.specs.MessageFeed.Serving.{IsRefused}
use Rattle.run_status.specs.declared.run_status.close.Close.{Close}
use Rattle.run_status.specs.declared.run_status.close.Close.TheVariants.{End, Bad, ReadFault, VerifierFault, SignerFault, DiskFault, WriteFault, Malformed, LimitReached, OutOfMemory}
use Rattle.run_status.specs.RunStatus.Readers.{Reader, VerifierShown}
use Rattle.keri_outside.specs.Shown.{SourceShown}
use Rattle.reader_hub.specs.declared.reader_threads.last_round.LastRound.{LastRound}
use Rattle.reader_hub.specs.ReaderThreads.Fed.{EndsReader, ReadEach, ReadsBy, ends_of}
use Rattle.reader_hub.specs.ReaderThreads.Given.{Given, end_of, said_by}
use Rattle.keri_roles.specs.CoreRoles.Through.{is_through}
use Rattle.keri_roles.specs.CoreRoles.CoreTold.{held_by, whole_ends}

-- so many items stand from a place, and this is behind them
Walk : ℕ → List ℕ → Bool → ℕ → ℕ → Part → Type 0
Walk limit bytes begun place zero end = front limit begun (drop place bytes) ≡ end
Walk limit bytes begun place (suc more) end = (n : ℕ) × (front limit begun (drop place bytes) ≡ whole n) × Walk limit bytes true (place + n) more end

module _ (limit : ℕ) (bytes : List ℕ) where
  from_front : (items : List Placed) (begun : Bool) (place more : ℕ) (end : Part) → Stand limit bytes items begun place → Walk limit bytes begun place more end
      → (all : ℕ) × Walk limit bytes false 0 all end
  unfolding Walk
  from_front items begun place more end none walk = (more, walk)
  from_front items begun place more end (one {items = earlier} {begun = was_begun} {place = at} n item stand is spelled) walk =
      from_front earlier was_begun at (suc more) end stand (n, is, walk)

  -- there is one end
  one_end : (begun : Bool) (place first second : ℕ) (end other : Part) → IsEnd end → IsEnd other
      → Walk limit bytes begun place first end → Walk limit bytes begun place second other → end ≡ other
  unfolding Walk
  one_end begun place zero zero end other is_end is_other w v = sym w ∙ v
  one_end begun place zero (suc m) end other is_end is_other w v = absurd (subst IsEnd (sym w ∙ v.1) is_end)
  one_end begun place (suc k) zero end other is_end is_other w v = absurd (subst IsEnd (sym v ∙ w.1) is_other)
  one_end begun place (suc k) (suc m) end other is_end is_other w v =
      let long : v.0 ≡ w.0 = cc (sym v.1 ∙ w.1) in
      one_end true (place + w.0) k m end other is_end is_other w.2 (subst (λ n. Walk limit bytes true (place + n) m other) long v.2)

  same_end : (items others : List Placed) (end : Part) (begun : Bool) (place : ℕ) → Items limit bytes items end → Stand limit bytes others begun place
      → IsEnd (front limit begun (drop place bytes)) → end ≡ front limit begun (drop place bytes)
  unfolding Walk
  same_end items others end begun place all stand ends =
      let first = from_front items all.begun all.place 0 end all.stand all.behind in
      let second = from_front others begun place 0 (front limit begun (drop place bytes)) stand refl in
      one_end false 0 first.0 second.0 end (front limit begun (drop place bytes)) all.ends ends first.1 second.1

module _ (limits : Limits) (bytes : List ℕ) (found : List Message) (are : AreMessages limits bytes found) where
  -- behind what is refused there are no others
  messages_more : (more : List ℕ) → are.end ≢ unfinished → AreMessages limits (bytes ++ more) found
  messages_more more shown =
      let all = are.all in
      let rest : drop all.place (bytes ++ more) ≡ drop all.place bytes ++ more
      = drop-append-le all.place bytes more (place_within limits.body bytes are.items all.begun all.place all.stand) in
      record {
        items = are.items;
        end = are.end;
        all = record {
          begun = all.begun;
          place = all.place;
          stand = stand_more limits.body bytes more are.items all.begun all.place all.stand;
          behind = ap (front limits.body all.begun) rest
              ∙ (stays-front limits.body all.begun (drop all.place bytes) more (λ e. shown (sym all.behind ∙ e)) ∙ all.behind);
          ends = all.ends;
        };
        made = are.made;
      }

  pub are_first : AreFirst limits bytes found
  are_first = record {
    items = are.items;
    begun = are.all.begun;
    place = are.all.place;
    later = [];
    stand = are.all.stand;
    made = append-nil found ∙ are.made;
    whole = λ e. subst IsEnd (sym are.all.behind) are.all.ends;
  }

  -- what a rule refuses is so whatever follows
  refused_shown : (reading : Reading) (items : List Placed) → Stream limits bytes reading items → (bad : BadItem) → IsRefused reading bad → are.end ≢ unfinished
  refused_shown reading items stream bad is still =
      let behind : front limits.body reading.begun (drop reading.place bytes) ≡ refused is.within bad.reason
      = ap (front limits.body reading.begun) stream.has_fed.behind ∙ (ap (λ l. front l reading.begun reading.rest) (sym stream.limit) ∙ is.is_refused) in
      let same : are.end ≡ front limits.body reading.begun (drop reading.place bytes)
      = same_end limits.body bytes are.items items are.end reading.begun reading.place are.all stream.stand (subst IsEnd (sym behind) tt) in
      let clash : refused is.within bad.reason ≡ unfinished = sym behind ∙ (sym same ∙ still) in
      cc

-- what was held is what was read, and what is left
held_is : (old new : Option (List ℕ)) (bytes held : List ℕ) → Gave old new bytes → old ≡ Some held → (more : List ℕ) × (new ≡ Some more) × (held ≡ bytes ++ more)
held_is old None bytes held gave is = let clash : None ≡ Some held = sym gave ∙ is in cc
held_is old (Some more) bytes held gave is = let same : Some (bytes ++ more) ≡ Some held = sym gave ∙ is in (more, refl, cc (sym same))

-- nothing is left at the end
held_whole : (old new : Option (List ℕ)) (bytes held : List ℕ) → Gave old new bytes → IsAtEnd new → old ≡ Some held → held ≡ bytes
held_whole old new bytes held gave at_end is =
    let h = held_is old new bytes held gave is in
    let nothing : h.0 ≡ [] = rw h.1 at at_end in
    h.2 ∙ (ap (λ more. bytes ++ more) nothing ∙ append-nil bytes)

module _ (limits : Limits) (told : List ToldEntry) (most number : ℕ) where
  module _ (source left : SourceShown) (verifier verifier_left : VerifierShown) (bytes : List ℕ) (reading : Reading) (items : List Placed) (stream : Stream limits bytes reading items)
      (offered : List Message) (are : AreMessages limits bytes offered) where
    -- all messages of what a source held were offered, where its reader came to the end
    pub all_by : (close : Close) → is_through close ≡ true → EndsReader limits told most number source left verifier verifier_left bytes reading items offered close
        → (held : List ℕ) → source.left ≡ Some held → AreMessages limits held offered
    all_by End through closes held is = subst (λ h. AreMessages limits h offered) (sym (held_whole source.left left.left bytes held closes.0 closes.1 is)) are
    all_by (Bad bad) through closes held is = elim closes.1 [
      | inl wrong ↦ (
          let h = held_is source.left left.left bytes held closes.0 is in
          subst (λ h. AreMessages limits h offered) (sym h.2)
          (messages_more limits bytes offered are h.0 (refused_shown limits bytes offered are reading items stream bad wrong)))
      | inr cut ↦ subst (λ h. AreMessages limits h offered) (sym (held_whole source.left left.left bytes held closes.0 cut.at_end is)) are
    ]
    all_by ReadFault through closes held is = cc
    all_by VerifierFault through closes held is = cc
    all_by SignerFault through closes held is = cc
    all_by DiskFault through closes held is = cc
    all_by WriteFault through closes held is = cc
    all_by (Malformed place) through closes held is = cc
    all_by LimitReached through closes held is = cc
    all_by OutOfMemory through closes held is = cc

-- a reader that came to the end wasn't stopped
module _ (bytes : List ℕ) (reader : Reader) where
  not_stopped : (close : Close) → is_through close ≡ true → (end_of bytes (record reader { close = close })).stopped ≡ false
  not_stopped End through = refl
  not_stopped (Bad bad) through = refl
  not_stopped ReadFault through = cc
  not_stopped VerifierFault through = cc
  not_stopped SignerFault through = cc
  not_stopped DiskFault through = cc
  not_stopped WriteFault through = cc
  not_stopped (Malformed place) through = cc
  not_stopped LimitReached through = cc
  not_stopped OutOfMemory through = cc

-- where it is told
if_told : {A : Type 0} {P : A → Type 0} (o : Option A) → ((x : A) → o ≡ Some x → P x) → IfSome o P
if_told None f = tt
if_told (Some x) f = f x refl

-- the end of a reader that took all messages of what its source held
abbrev whole_end : Option (List ℕ) → Reader → feeds.End
whole_end held reader = record { bytes = held; says = said_by reader.verifier; refused = reader.refused; stopped = false }

module _ (limits : Limits) (told : List ToldEntry) (most : ℕ) (rest : LastRound) where
  module _ (number : ℕ) (reader : Reader) (bytes : List ℕ) (fed : FeedsOne limits told number (end_of bytes reader)) (through : is_through reader.close ≡ true) (memory : reader.close ≢ OutOfMemory) where
    abbrev Offered : List Message
    Offered = map (λ j. j.message) fed.0.offered

    fed_whole : (end : Option (List ℕ)) (held : List ℕ) → AreMessages limits held Offered → Feeds limits told number (whole_end end reader) held
    fed_whole end held are = record {
      offered = fed.0.offered;
      first = are_first limits held Offered are;
      bodies_are = fed.0.bodies_are;
      taken = fed.0.taken;
      refused = fed.0.refused;
      all = λ e. are;
    }

    one_whole : (source : Option SourceShown) (verifier : Option VerifierShown) → ReadsBy limits told most number rest source verifier reader bytes Offered
        → FeedsOne limits told number (whole_end (held_by source) reader)
    one_whole None verifier r = (tt, fed.1)
    one_whole (Some source) None r = let clash : is_through VerifierFault ≡ true = rw r.0 at through in cc
    one_whole (Some source) (Some verifier) r =
        let c = r.closes memory in
        let all : AreMessages limits bytes Offered = fed.0.all (not_stopped bytes reader reader.close through) in (
          if_told source.left (λ held is. fed_whole source.left held
              (all_by limits told most number source r.source_left verifier r.verifier_left bytes c.reading c.items c.stream Offered all reader.close through c.closes held is)),
          fed.1,
        )

  pub each_whole : (number : ℕ) (read : List (List ℕ)) (given : List Given) (readers : List Reader) (feeds : FeedEach limits told number (ends_of read readers))
      → All (λ r. is_through r.close ≡ true) readers → All (λ r. r.close ≢ OutOfMemory) readers
      → ReadEach limits told most rest number read given readers feeds → FeedEach limits told number (whole_ends given readers)
  each_whole number [] [] [] feeds through memory each = tt
  each_whole number [] [] (reader ∷ readers) feeds through memory each = absurd each
  each_whole number [] (g ∷ given) readers feeds through memory each = absurd each
  each_whole number (bytes ∷ read) [] readers feeds through memory each = absurd each
  each_whole number (bytes ∷ read) (g ∷ given) [] feeds through memory each = absurd each
  each_whole number (bytes ∷ read) (g ∷ given) (reader ∷ readers) feeds through memory each =
      let here = All-head (λ r. is_through r.close ≡ true) reader readers through in
      let room = All-head (λ r. r.close ≢ OutOfMemory) reader readers memory in (
        one_whole number reader bytes feeds.0 here room g.source g.verifier each.0,
        each_whole (number + 1) read given readers feeds.1 (All-tail (λ r. is_through r.close ≡ true) reader readers through)
            (All-tail (λ r. r.close ≢ OutOfMemory) reader readers memory) each.1,
      )

  -- there are as many
  as_many : (number : ℕ) (read : List (List ℕ)) (given : List Given) (readers : List Reader) (feeds : FeedEach limits told number (ends_of read readers))
      → ReadEach limits told most rest number read given readers feeds → length (ends_of read readers) ≡ length (whole_ends given readers)
  as_many number [] [] [] feeds each = refl
  as_many number [] [] (reader ∷ readers) feeds each = absurd each
  as_many number [] (g ∷ given) readers feeds each = absurd each
  as_many number (bytes ∷ read) [] readers feeds each = absurd each
  as_many number (bytes ∷ read) (g ∷ given) [] feeds each = absurd each
  as_many number (bytes ∷ read) (g ∷ given) (reader ∷ readers) feeds each = ap suc (as_many (number + 1) read given readers feeds.1 each.1)

  pub fed_by_all : (read : List (List ℕ)) (given : List Given) (readers : List Reader) (fed : Fed limits (ends_of read readers) told)
      → All (λ r. is_through r.close ≡ true) readers → All (λ r. r.close ≢ OutOfMemory) readers
      → ReadEach limits told most rest 0 read given readers fed.each → Fed limits (whole_ends given readers) told
  fed_by_all read given readers fed through memory each = record {
    each = each_whole 0 read given readers fed.each through memory each;
    only = subst (λ n. All (λ t. reader_of t < n) told) (as_many 0 read given readers fed.each each) fed.only;
  }
