-- What one more piece makes of what stands, and how reading closes.
use Rattle.std.proofs.Common.{◌≡◌, ◌≢◌, ℕ, ◌≤◌, ◌+◌, ◌-◌, List, [], ◌∷◌, ◌++◌, length, map, flat_map, take, drop, All, Bool, false, Option, Some}
use Rattle.std.proofs.Common.{None, refl, sym, ◌∙◌, ap, subst, arith, append-nil, append_assoc, length-append, inl, inr}
use Rattle.lists.specs.KeriSpecs.Causes.{Rose}
use Rattle.lists.proofs.KeriSpecsLemmas.Putting.{after-nil}
use Rattle.lists.specs.KeriSpecs.Shown.{before, IsAtEnd}
use Rattle.std.proofs.lemmas.List.Elements.{All-nil}
use Rattle.cesr_stream.specs.Written.{item_text, IsItem, IsWritable}
use Rattle.cesr_stream.specs.Items.{IsEnd, Placed, Stand}
use Rattle.cesr_stream.specs.Parts.{Part, refused, unfinished}
use Rattle.cesr_stream.specs.Reading.{Reading, fed_with, fresh}
use Rattle.cesr_stream.proofs.Fed.{fed_counted, fed_fresh, fed_on}
use Rattle.cesr_binary.specs.declared.domain.Domain.{Domain}
use Rattle.cesr_binary.specs.Mixed.{mixed_front, none, StandMixed}
use Rattle.cesr_binary.specs.MixedAnswers.{judged}
use Rattle.cesr_binary.specs.declared.domain.Domain.TheVariants.{Text}
use Rattle.cesr_binary.specs.Wire.{ReadsBack}
use Rattle.cesr_binary.proofs.ItemTexts.{stand_text}
use Rattle.cesr_binary.proofs.MixedFronts.{stand_more}
use Rattle.cesr_binary.proofs.StandingItems.{stand_again}
use Rattle.run_status.specs.declared.run_status.close.Close.{Close}
use Rattle.run_status.specs.declared.run_status.close.Close.TheVariants.{End, Bad, ReadFault, VerifierFault, SignerFault, DiskFault, WriteFault, Malformed, LimitReached}
use Rattle.run_status.specs.declared.run_status.close.Close.TheVariants.{OutOfMemory}
use Rattle.keri_outside.specs.Shown.{SourceShown, SinkShown}
use Rattle.keri_roles.specs.ItemConversion.Closes.{Bounds, ClosesBy, Gave, Taken, rest_judged}
use Rattle.keri_roles.specs.ItemConversion.Progress.{GoesOn, HasPut, IsIdle, IsRefused, progress, text_in}
use Rattle.keri_roles.specs.ItemConversion.Converts.{ConvertsWithin, EndsShown, conversion}
use Rattle.keri_roles.specs.ItemConversion.Pieces.{EndsSo, FeedsNone, FeedsPiece, PassesEnd}

-- pieces one after the other are one piece
gave_told : (first middle last : Option (List ℕ)) (bytes piece : List ℕ) → first ≡ before bytes middle → middle ≡ before piece last
    → first ≡ before (bytes ++ piece) last
gave_told first middle None bytes piece a b = a ∙ ap (before bytes) b
gave_told first middle (Some left) bytes piece a b = a ∙ (ap (before bytes) b ∙ ap (λ l. Some l) (sym (append_assoc bytes piece left)))

pub gave_more : (first middle last : SourceShown) (bytes piece : List ℕ) → Gave first middle bytes → Gave middle last piece → Gave first last (bytes ++ piece)
gave_more first middle last bytes piece a b = gave_told first.left middle.left last.left bytes piece a b

pub gave_same : (first middle last : SourceShown) (bytes : List ℕ) → Gave first middle bytes → last.left ≡ middle.left → Gave first last bytes
gave_same first middle last bytes a same = a ∙ ap (before bytes) (sym same)

-- what stayed the same, and stayed so again
pub stayed : {A : Type 0} (first middle last : A) → middle ≡ first → last ≡ middle → last ≡ first
stayed first middle last a b = b ∙ a

no_bytes : (bytes : List ℕ) → length bytes ≡ 0 → bytes ≡ []
no_bytes [] e = refl
no_bytes (b ∷ bytes) e = absurd (omega (arith, e))

-- an empty piece is none
pub gave_none : (first middle last : SourceShown) (bytes piece : List ℕ) (count : ℕ) → Gave first middle bytes → Gave middle last piece
    → length piece ≡ count → count ≡ 0 → Gave first last bytes
gave_none first middle last bytes piece count a b counted empty =
    subst (λ p. Gave first last p) (ap (λ p. bytes ++ p) (no_bytes piece (omega (arith, counted, empty))) ∙ append-nil bytes)
    (gave_more first middle last bytes piece a b)

-- what was put is put still when a piece is fed
pub put_fed : (shown : SinkShown) (fed : List ℕ) (old : Reading) (piece : List ℕ) (domain : Domain) (failed : Bool) (sink : SinkShown)
    → HasPut shown fed (progress old domain failed sink)
    → HasPut shown (fed ++ piece) (progress (fed_with old piece None) domain failed sink)
put_fed shown fed old piece domain failed sink has = record {
  has_fed = fed_on old fed piece has.has_fed;
  items = has.items;
  stand = stand_more old.limit fed piece has.items old.begun old.place has.stand;
  writable = has.writable;
  puts = has.puts;
}

-- nothing was fed, and nothing put
pub put_none : (limit : ℕ) (domain : Domain) (sink : SinkShown) → HasPut sink [] (progress (fresh limit) domain false sink)
put_none limit domain sink = record {
  has_fed = fed_fresh limit;
  items = [];
  stand = none;
  writable = All-nil (λ p. IsWritable p.item);
  puts =
      (after-nil sink.written, refl);
}

-- places are no part of the text
text_of_items : (items : List Placed) → text_in Text items ≡ flat_map item_text (map (λ p. p.item) items)
text_of_items [] = refl
text_of_items (p ∷ items) = ap (λ text. item_text p.item ++ text) (text_of_items items)

some_bytes : (bytes : List ℕ) → bytes ≢ [] → 1 ≤ length bytes
some_bytes [] ne = absurd (ne refl)
some_bytes (b ∷ bytes) ne = omega arith

module _ (bounds : Bounds) (domain : Domain) (first now : EndsShown) (fed : List ℕ) (reader : Reading) (failed : Bool)
    (has : HasPut first.sink fed (progress reader domain failed now.sink))
    (limit : reader.limit ≡ bounds.body) (few : length fed ≤ bounds.stream) where
  abbrev pub taken : Taken
  taken = record { bytes = fed; items = has.items; begun = reader.begun; place = reader.place }

  pub judged_rest : (part : Part) → judged reader ≡ part → rest_judged bounds.body taken ≡ part
  judged_rest part is = ap (λ l. mixed_front l reader.begun (drop reader.place fed)) (sym limit) ∙ ap
      (mixed_front reader.limit reader.begun) has.has_fed.behind ∙ is

  standing_items : StandMixed bounds.body fed has.items reader.begun reader.place
  standing_items = subst (λ l. StandMixed l fed has.items reader.begun reader.place) limit has.stand

  again : All (λ p. IsItem p.item) has.items → ReadsBack bounds.body (text_in domain has.items) (map (λ p. p.item) has.items)
  again valid = stand_again domain bounds.body fed has.items reader.begun reader.place standing_items valid has.writable

  text_back : Stand bounds.body fed has.items reader.begun reader.place → (others : List Placed)
      → map (λ p. p.item) others ≡ map (λ p. p.item) has.items → text_in Text others ≡ take reader.place fed
  text_back stand others same =
      text_of_items others ∙ ap (flat_map item_text) same ∙ sym (text_of_items has.items) ∙ sym
      (stand_text bounds.body fed has.items reader.begun reader.place stand)

  -- where there was no memory the source may have given more
  pub no_memory : (more : List ℕ) → Gave first.source now.source (fed ++ more) → now.source.faults ≡ first.source.faults
      → ConvertsWithin bounds domain first now (conversion OutOfMemory failed)
  no_memory more gave same = record {
    taken = taken;
    few = few;
    stand = standing_items;
    closes = ((more, gave), same);
    all = λ ne. absurd (ne refl);
    puts = has.puts;
    again = again;
    back = text_back;
  }

  -- reading closes by its cause, when no item is whole in the rest
  pub converts : (close : Close) (part : Part) → judged reader ≡ part → IsEnd part → ClosesBy bounds first.source now.source taken close
      → ConvertsWithin bounds domain first now (conversion close failed)
  converts close part is end closes =
      record {
        taken = taken;
        few = few;
        stand = standing_items;
        closes = closes;
        all = λ _. record {
          begun = reader.begun;
          place = reader.place;
          stand = standing_items;
          behind = refl;
          ends = subst IsEnd
              (sym (judged_rest part is)) end;
        };
        puts = has.puts;
        again = again;
        back = text_back;
      }

  -- at the end of input
  pub ends : (new : Reading) (close : Close) → IsIdle reader → Gave first.source now.source fed → IsAtEnd now.source.left
      → now.source.faults ≡ first.source.faults → EndsSo reader new close
      → ConvertsWithin bounds domain first now (conversion close failed)
  ends new End idle gave at_end same e =
      let none = e.0 in
      converts End unfinished idle.unfinished_item tt (gave, at_end, omega (arith, fed_counted reader fed has.has_fed, ap length none), same)
  ends new (Bad bad) idle gave at_end same e =
      converts (Bad bad) unfinished idle.unfinished_item tt (
        gave,
        inr (record {
          at_end = at_end;
          unfinished_item = judged_rest unfinished idle.unfinished_item;
          some = omega (arith, some_bytes reader.rest e.0, fed_counted reader fed has.has_fed);
          is = e.1;
        }),
        same,
      )
  ends new ReadFault idle gave at_end same e = absurd e
  ends new VerifierFault idle gave at_end same e = absurd e
  ends new SignerFault idle gave at_end same e = absurd e
  ends new DiskFault idle gave at_end same e = absurd e
  ends new WriteFault idle gave at_end same e = absurd e
  ends new (Malformed place) idle gave at_end same e = absurd e
  ends new LimitReached idle gave at_end same e = absurd e
  ends new OutOfMemory idle gave at_end same e = absurd e

  -- a rule refuses the rest
  pub refuses : (bad : _) → IsRefused reader bad → Gave first.source now.source fed → now.source.faults ≡ first.source.faults
      → ConvertsWithin bounds domain first now (conversion (Bad bad) failed)
  refuses bad is gave same =
      converts (Bad bad) (refused is.within bad.reason) is.is_refused tt
      (gave, inl (record { within = is.within; is_refused = judged_rest (refused is.within bad.reason) is.is_refused; at = is.at }), same)

  -- the source failed
  pub faults : IsIdle reader → Gave first.source now.source fed → Rose first.source.faults now.source.faults
      → ConvertsWithin bounds domain first now (conversion ReadFault failed)
  faults idle gave rose = converts ReadFault unfinished idle.unfinished_item tt (gave, rose, judged_rest unfinished idle.unfinished_item)

  -- nothing came, since the source failed, or since there was no memory
  pub stops : (middle : SourceShown) (new : Reading) (close : Close) → IsIdle reader → Gave first.source middle fed → middle.faults ≡ first.source.faults
      → FeedsNone (record { source = middle; reader = reader }) (record { source = now.source; reader = new }) close
      → ConvertsWithin bounds domain first now (conversion close failed)
  stops middle new ReadFault idle gave same e = faults idle (gave_same first.source middle now.source fed gave e.0)
      (let risen = e.1 in omega (arith, same, risen))
  stops middle new OutOfMemory idle gave same e = no_memory e.0.0 (gave_more first.source middle now.source fed e.0.0 gave e.0.1) (e.1 ∙ same)
  stops middle new End idle gave same e = absurd e
  stops middle new (Bad bad) idle gave same e = absurd e
  stops middle new VerifierFault idle gave same e = absurd e
  stops middle new SignerFault idle gave same e = absurd e
  stops middle new DiskFault idle gave same e = absurd e
  stops middle new WriteFault idle gave same e = absurd e
  stops middle new (Malformed place) idle gave same e = absurd e
  stops middle new LimitReached idle gave same e = absurd e

  -- past the greatest number of bytes
  pub passes : (middle : SourceShown) (new : Reading) (close : Close) → IsIdle reader → Gave first.source middle fed
      → middle.faults ≡ first.source.faults → length fed ≡ bounds.stream
      → PassesEnd (record { source = middle; reader = reader }) (record { source = now.source; reader = new }) close
      → ConvertsWithin bounds domain first now (conversion close failed)
  passes middle new End idle gave same all e = ends new End idle (gave_same first.source middle now.source fed gave e.1) e.2 (e.3 ∙ same) e.0
  passes middle new (Bad bad) idle gave same all e = ends new (Bad bad) idle (gave_same first.source middle now.source fed gave e.1) e.2 (e.3 ∙ same) e.0
  passes middle new ReadFault idle gave same all e =
      faults idle (gave_same first.source middle now.source fed gave e.0) (let risen = e.1 in omega (arith, same, risen))
  passes middle new LimitReached idle gave same all e =
      converts LimitReached unfinished idle.unfinished_item tt (
        record {
          all = all;
          unfinished_item = judged_rest unfinished idle.unfinished_item;
          more = e.0.0;
          gave = gave_more first.source middle
              now.source fed (e.0.0 ∷ []) gave e.0.1;
        },
        e.1 ∙ same,
      )
  passes middle new VerifierFault idle gave same all e = absurd e.0
  passes middle new SignerFault idle gave same all e = absurd e.0
  passes middle new DiskFault idle gave same all e = absurd e.0
  passes middle new WriteFault idle gave same all e = absurd e.0
  passes middle new (Malformed place) idle gave same all e = absurd e.0
  passes middle new OutOfMemory idle gave same all e = absurd e.0

-- Of these bytes, which were read so far, the items from the front were put, and there is room for so many more.
pub record HasRead (bounds : Bounds) (room : ℕ) (domain : Domain) (first now : EndsShown) (reader : Reading) (failed : Bool) : Type 0 where
  pub fed : List ℕ
  pub has_put : HasPut first.sink fed (progress reader domain failed now.sink)
  pub limit : reader.limit ≡ bounds.body
  pub gave : Gave first.source now.source fed
  pub same_faults : now.source.faults ≡ first.source.faults
  pub counted : length fed + room ≡ bounds.stream

-- so many bytes were read, less than may be
pub few_read : (bounds : Bounds) (room : ℕ) (domain : Domain) (first now : EndsShown) (reader : Reading) (failed : Bool)
    (r : HasRead bounds room domain first now reader failed)
    → length r.fed ≤ bounds.stream
few_read bounds room domain first now reader failed r = let counted = r.counted in omega (arith, counted)

-- one more piece was read, and its items were put
pub read_on : (bounds : Bounds) (room count : ℕ) (domain fed_domain new_domain : Domain) (first now : EndsShown) (source : SourceShown) (sink : SinkShown)
    (reader fed_reader new : Reading)
    (failed fed_failed new_failed : Bool) → HasRead bounds room domain first now reader failed
    → FeedsPiece room (record { source = now.source; reader = reader }) (record { source = source; reader = fed_reader }) count → count ≢ 0
    → fed_domain ≡ domain → fed_failed ≡ failed → GoesOn (progress fed_reader fed_domain fed_failed now.sink) (progress new new_domain new_failed sink)
    → HasRead bounds (room - count) domain first (record { source = source; sink = sink }) new new_failed
read_on bounds room count domain fed_domain new_domain first now source sink reader fed_reader new failed fed_failed new_failed r piece some
    same_domain same_failed on =
    let bytes : List ℕ = r.fed ++ piece.piece in
    let more = piece.fed some in
    let put : HasPut first.sink bytes (progress fed_reader fed_domain fed_failed now.sink) =
    subst (λ d. HasPut first.sink bytes (progress fed_reader d fed_failed now.sink)) (sym same_domain)
    (subst (λ f. HasPut first.sink bytes (progress fed_reader domain f now.sink)) (sym same_failed)
    (subst (λ x. HasPut first.sink bytes (progress x domain failed now.sink)) (sym more)
    (put_fed first.sink r.fed reader piece.piece domain failed now.sink r.has_put))) in
    record {
      fed = bytes;
      has_put = subst (λ d. HasPut first.sink bytes (progress new d new_failed sink)) (on.domain ∙ same_domain) (on.has_put first.sink bytes put);
      limit = on.limit ∙ (ap (λ x. x.limit) more ∙ r.limit);
      gave = gave_more first.source now.source source r.fed piece.piece r.gave piece.gave;
      same_faults = piece.same_faults ∙ r.same_faults;
      counted =
          let counted = piece.counted in
          let few = piece.few in
          let all = r.counted in
          omega (arith, length-append r.fed piece.piece, counted, few, all);
    }
