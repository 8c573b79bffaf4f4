-- Links that came and were served, and one more.
use Rattle.std.proofs.Common.{◌≡◌, ◌≤◌, ℕ, Bool, true, false, List, [], ◌∷◌, ◌++◌, length, map, inl, inr, refl, sym, ◌∙◌, ap, subst, append_assoc, Option, Some, None, Ok}
use Rattle.std.specs.Prelude.{◌&&◌}
use Rattle.std.specs.List.{list_all}
use Rattle.std.proofs.lemmas.List.{map-append, length-map}
use Rattle.cesr_codes.specs.declared.key.Key.{Key}
use Rattle.cesr_codes.specs.declared.sig.Sig.{Sig}
use Rattle.run_status.specs.DoorLinks.Taken.{AreTaken, IsCaused, IsEnough}
use Rattle.shelf_log.specs.KeriDisk.Images.{DiskShown}
use Rattle.keri_outside.specs.Doors.{Comes}
use Rattle.keri_outside.specs.declared.limits.Limits.{Limits}
use Rattle.run_status.specs.declared.run_status.close.Close.{Close}
use Rattle.run_status.specs.declared.run_status.close.Close.TheVariants.{End, Bad, ReadFault, VerifierFault, SignerFault, DiskFault, WriteFault, Malformed, LimitReached, OutOfMemory}
use Rattle.run_status.specs.RunStatus.Readers.{Reader}
use Rattle.keri_outside.specs.Shown.{SinkShown, SourceShown}
use Rattle.witness_core.specs.WitnessLink.Links.{LinkShown, Terms}
use Rattle.witness_core.specs.WitnessLink.Served.{ClosesLink}
use Rattle.witness_core.specs.WitnessLink.Serving.{Serves}
use Rattle.run_status.specs.RunRecord.Run.{DoorShown}
use Rattle.witness_core.proofs.WitnessRoleLemmas.ThroughLinks.{asked_through, stops_leave}
use Rattle.witness_core.specs.WitnessLink.Closes.{asks_next}
use Rattle.witness_core.specs.WitnessRole.ServedLinks.{Between, IsServed, ServedLink, ServesComing, ServesEach, ServesOne, reader_of}

-- each of these links closed so that the next one is asked for
abbrev all_ask_next : List ServedLink → Bool
all_ask_next links = list_all (λ l. asks_next l.close) links

-- what a link held at first
abbrev held_by : List ServedLink → List (Option (List ℕ))
held_by links = map (λ l. l.source_old.left) links

-- behind a link after which the next one is asked for the witness is whole
pub whole_kept : (limits : Limits) (source_old source_new : SourceShown) (bytes : List ℕ) (old new : LinkShown) (serves : Serves old new) (close : Close)
    → ClosesLink limits source_old source_new bytes old new serves close → asks_next close ≡ true → new.witness.broken ≡ false
whole_kept limits source_old source_new bytes old new serves End c goes = c.1.is_whole.whole
whole_kept limits source_old source_new bytes old new serves (Bad bad) c goes = c.1.is_whole.whole
whole_kept limits source_old source_new bytes old new serves ReadFault c goes = c.1.is_whole.whole
whole_kept limits source_old source_new bytes old new serves WriteFault c goes = c.1.is_whole.whole
whole_kept limits source_old source_new bytes old new serves VerifierFault c goes = cc
whole_kept limits source_old source_new bytes old new serves SignerFault c goes = cc
whole_kept limits source_old source_new bytes old new serves DiskFault c goes = cc
whole_kept limits source_old source_new bytes old new serves LimitReached c goes = cc
whole_kept limits source_old source_new bytes old new serves OutOfMemory c goes = cc
whole_kept limits source_old source_new bytes old new serves (Malformed place) c goes = absurd c

-- what a link goes by stays
module _ (old new : LinkShown) (serves : Serves old new) where
  pub same_key : new.witness.key ≡ old.witness.key
  same_key = ap (λ (t : Terms). t.key) serves.same_terms

  pub same_limits : new.witness.limits ≡ old.witness.limits
  same_limits = ap (λ (t : Terms). t.limits) serves.same_terms

  pub same_says : new.says ≡ old.says
  same_says = ap (λ (t : Terms). t.says) serves.same_terms

  pub same_gives : new.gives ≡ old.gives
  same_gives = ap (λ (t : Terms). t.gives) serves.same_terms

first_true : (a b : Bool) → (a && b) ≡ true → a ≡ true
first_true true b e = refl
first_true false b e = cc

rest_true : (a b : Bool) → (a && b) ≡ true → b ≡ true
rest_true true b e = e
rest_true false b e = cc

-- all but the last of these go on, and so do all where it does
last_decides : (links : List ServedLink) (last : ServedLink) → all_ask_next links ≡ true → all_ask_next (links ++ last ∷ []) ≡ asks_next last.close
last_decides [] last e = alone (asks_next last.close)
  where
    alone : (b : Bool) → (b && true) ≡ b
    alone true = refl
    alone false = refl
last_decides (link ∷ links) last e = rw (first_true (asks_next link.close) (all_ask_next links) e) (last_decides links last (rest_true (asks_next link.close) (all_ask_next links) e))

-- the next link comes behind those that were taken
taken_behind : {C : Type 0} (E : Type 0) (left : C → Option (List ℕ)) (old mid new : Option (List (List ℕ))) (held : List (Option (List ℕ))) (caller : C)
    → AreTaken old mid held → Comes {E = E} left mid new (Ok (Some caller)) → AreTaken old new (held ++ left caller ∷ [])
taken_behind E left None None None held caller taken comes = refl
taken_behind E left None None (Some new) held caller taken comes = let clash = comes.1 in cc
taken_behind E left None (Some mid) new held caller taken comes = cc
taken_behind E left (Some old) None new held caller taken comes = let clash = taken.2 in cc
taken_behind E left (Some old) (Some mid) None held caller taken comes = let clash = comes.1 in cc
taken_behind E left (Some old) (Some mid) (Some new) held caller taken comes =
    let same : mid ≡ taken.1 = cc in
    let front : mid ≡ comes.0 ∷ new = cc in (
      taken.0 ++ comes.0 ∷ [],
      new,
      refl,
      taken.3 ∙ (ap (λ rest. taken.0 ++ rest) (sym same ∙ front) ∙ sym (append_assoc taken.0 (comes.0 ∷ []) new)),
      ap (λ xs. xs ++ left caller ∷ []) taken.4
          ∙ (ap (λ y. map (λ bytes. Some bytes) taken.0 ++ y ∷ []) comes.2 ∙ sym (map-append (λ bytes. Some bytes) taken.0 (comes.0 ∷ []))),
    )

module _ {D : Type 0} (shown : D → DiskShown) (key : Key) (limits run_limits : Limits) (says : Key → List ℕ → Sig → Option Bool) (gives : Key → List ℕ → Option Sig) where
  abbrev Each : List ServedLink → Between D → Between D → Type 0
  Each = ServesEach shown key limits run_limits says gives

  abbrev One : ServedLink → Between D → Between D → Type 0
  One = ServesOne shown key limits run_limits says gives

  serves_more : (links : List ServedLink) (last : ServedLink) (old mid new : Between D) → all_ask_next links ≡ true → Each links old mid → One last mid new → Each (links ++ last ∷ []) old new
  serves_more [] last old mid new all each one = (new, subst (λ (m : Between D). One last m new) each one, λ e. refl, refl)
  serves_more (link ∷ links) last old mid new all each one = (
    each.0,
    each.1,
    λ ends. let clash : true ≡ false = sym (first_true (asks_next link.close) (all_ask_next links) all) ∙ ends in cc,
    serves_more links last each.0 mid new (rest_true (asks_next link.close) (all_ask_next links) all) each.3 one,
  )

  -- Links came and were served, and another may come. These are their readers and their sinks.
  pub record IsComing (left_old left : Option (List (List ℕ))) (old now : Between D) (readers : List Reader) (sinks : List SinkShown) : Type 0 where
    pub links : List ServedLink
    pub serves : Each links old now
    pub go_on : all_ask_next links ≡ true
    pub came : AreTaken left_old left (held_by links)
    pub readers_are : readers ≡ map reader_of links
    pub sinks_are : sinks ≡ map (λ l. l.sink) links

  pub coming_none : (left : Option (List (List ℕ))) (old : Between D) → IsComing left left old old [] []
  coming_none left old = record { links = []; serves = refl; go_on = refl; came = taken_none left; readers_are = refl; sinks_are = refl }
    where
      taken_none : (left : Option (List (List ℕ))) → AreTaken left left []
      taken_none None = refl
      taken_none (Some shown) = ([], shown, refl, refl, refl)

  module _ (left_old left : Option (List (List ℕ))) (old now : Between D) (readers : List Reader) (sinks : List SinkShown) (c : IsComing left_old left old now readers sinks) where
    -- they are enough, with the door as it is
    pub comes_to : (count : ℕ) (failed : Bool) (door_old door : DoorShown) → door_old.left ≡ left_old → door.left ≡ left → length readers ≤ count
        → IsEnough count (length readers) failed left → IsCaused failed door_old.faults door.faults
        → ServesComing shown key limits run_limits says gives count failed door_old door old now readers sinks
    comes_to count failed door_old door was is few enough cause =
        let many : length readers ≡ length c.links = ap length c.readers_are ∙ length-map c.links reader_of in
        record {
          links = c.links;
          serves = c.serves;
          stops = stops_leave shown key limits run_limits says gives c.links old now c.serves;
          inquired = asked_through shown key limits run_limits says gives c.links old now c.serves;
          came = rw (was, is) c.came;
          enough = record { no_more = subst (λ n. n ≤ count) many few; no_fewer = inl (rw is (subst (λ n. IsEnough count n failed left) many enough)) };
          cause = cause;
          readers_are = c.readers_are;
          sinks_are = c.sinks_are;
        }

    module _ (E : Type 0) {C : Type 0} (held : C → Option (List ℕ)) (left_new : Option (List (List ℕ))) (caller : C) (comes : Comes {E = E} held left left_new (Ok (Some caller)))
        (new : Between D) (reader : Reader) (sink : SinkShown) (s : IsServed shown key limits run_limits says gives (held caller) reader sink now new) where
      came_more : AreTaken left_old left_new (held_by (c.links ++ s.link ∷ []))
      came_more = subst (AreTaken left_old left_new) (ap (λ h. held_by c.links ++ h ∷ []) s.held_is ∙ sym (map-append (λ l. l.source_old.left) c.links (s.link ∷ [])))
          (taken_behind E held left_old left left_new (held_by c.links) caller c.came comes)

      readers_more : readers ++ reader ∷ [] ≡ map reader_of (c.links ++ s.link ∷ [])
      readers_more = rw s.reader_is (ap (λ xs. xs ++ reader_of s.link ∷ []) c.readers_are ∙ sym (map-append reader_of c.links (s.link ∷ [])))

      sinks_more : sinks ++ sink ∷ [] ≡ map (λ l. l.sink) (c.links ++ s.link ∷ [])
      sinks_more = rw s.sink_is (ap (λ xs. xs ++ s.link.sink ∷ []) c.sinks_are ∙ sym (map-append (λ l. l.sink) c.links (s.link ∷ [])))

      decided : (goes : Bool) → asks_next reader.close ≡ goes → all_ask_next (c.links ++ s.link ∷ []) ≡ goes
      decided goes e = last_decides c.links s.link c.go_on ∙ (ap (λ (r : Reader). asks_next r.close) (sym s.reader_is) ∙ e)

      -- one more was served, behind which another may come
      pub coming_more : asks_next reader.close ≡ true → IsComing left_old left_new old new (readers ++ reader ∷ []) (sinks ++ sink ∷ [])
      coming_more goes = record {
        links = c.links ++ s.link ∷ [];
        serves = serves_more c.links s.link old now new c.go_on c.serves s.one;
        go_on = decided true goes;
        came = came_more;
        readers_are = readers_more;
        sinks_are = sinks_more;
      }

      -- one more was served, which ends the run
      pub comes_last : (count : ℕ) (door_old door : DoorShown) → door_old.left ≡ left_old → door.left ≡ left_new → length (readers ++ reader ∷ []) ≤ count
          → door.faults ≡ door_old.faults → asks_next reader.close ≡ false
          → ServesComing shown key limits run_limits says gives count false door_old door old new (readers ++ reader ∷ []) (sinks ++ sink ∷ [])
      comes_last count door_old door was now_is few unfailed ends =
          let many : length (readers ++ reader ∷ []) ≡ length (c.links ++ s.link ∷ []) = ap length readers_more ∙ length-map (c.links ++ s.link ∷ []) reader_of in
          record {
            links = c.links ++ s.link ∷ [];
            serves = serves_more c.links s.link old now new c.go_on c.serves s.one;
            stops = stops_leave shown key limits run_limits says gives (c.links ++ s.link ∷ []) old new (serves_more c.links s.link old now new c.go_on c.serves s.one);
            inquired = asked_through shown key limits run_limits says gives (c.links ++ s.link ∷ []) old new (serves_more c.links s.link old now new c.go_on c.serves s.one);
            came = rw (was, now_is) came_more;
            enough = record { no_more = subst (λ n. n ≤ count) many few; no_fewer = inr (decided false ends) };
            cause = unfailed;
            readers_are = readers_more;
            sinks_are = sinks_more;
          }
