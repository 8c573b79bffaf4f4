-- Why a run of `witness` that served links ended as it did.
use Rattle.std.proofs.Common.{◌≡◌, ◌≢◌, inl, inr, ℕ, Bool, true, false, List, [], ◌∷◌, map, Option, Some, None, refl, sym, ◌∙◌, ap, subst}
use Rattle.std.specs.Prelude.{MatchOption}
use Rattle.lists.specs.KeriSpecs.Causes.{Rose}
use Rattle.cesr_codes.specs.declared.key.Key.{Key}
use Rattle.cesr_codes.specs.declared.sig.Sig.{Sig}
use Rattle.shelf_log.specs.KeriDisk.Images.{DiskShown}
use Rattle.keri_outside.specs.declared.limits.Limits.{Limits}
use Rattle.run_status.specs.declared.run_outside.making.MakingKind.TheVariants.{Door as DoorKind}
use Rattle.run_status.specs.declared.run_status.close.Close.{Close}
use Rattle.run_status.specs.declared.run_status.close.Close.TheVariants.{End, Bad, ReadFault, VerifierFault, SignerFault, DiskFault, WriteFault, Malformed, LimitReached, OutOfMemory}
use Rattle.run_status.specs.RunStatus.Readers.{HasClose, Reader, VerifierShown}
use Rattle.keri_outside.specs.Shown.{SourceShown}
use Rattle.witness_core.specs.WitnessLink.Links.{Counts, Left, LinkShown, counts, counts_of}
use Rattle.witness_core.specs.WitnessLink.Served.{ClosesLink}
use Rattle.witness_core.specs.WitnessLink.Serving.{Serves}
use Rattle.run_status.specs.RunRecord.Run.{DoorShown, ReadFaultsRose, Run, SignerShown, SinkRose, shared_verifier}
use Rattle.witness_core.specs.WitnessRole.ServedFile.{MakesServing}
use Rattle.witness_core.specs.WitnessLink.Closes.{asks_next}
use Rattle.witness_core.specs.WitnessRole.ServedLinks.{Between, ServedLink, ServesEach, ServesLinksBy, ServesOne, idle_reader, reader_of, readers_with}

-- behind a link after which the next one is asked for no count but those of its source and its sink has risen
counts_kept : (limits : Limits) (source_old source_new : SourceShown) (bytes : List ℕ) (old new : LinkShown) (serves : Serves old new) (close : Close)
    → ClosesLink limits source_old source_new bytes old new serves close → asks_next close ≡ true → counts_of new ≡ counts_of old
counts_kept limits source_old source_new bytes old new serves End c goes = c.1.counts_same
counts_kept limits source_old source_new bytes old new serves (Bad bad) c goes = c.1.counts_same
counts_kept limits source_old source_new bytes old new serves ReadFault c goes = c.1.counts_same
counts_kept limits source_old source_new bytes old new serves WriteFault c goes = c.1.counts_same
counts_kept limits source_old source_new bytes old new serves VerifierFault c goes = cc
counts_kept limits source_old source_new bytes old new serves SignerFault c goes = cc
counts_kept limits source_old source_new bytes old new serves DiskFault c goes = cc
counts_kept limits source_old source_new bytes old new serves LimitReached c goes = cc
counts_kept limits source_old source_new bytes old new serves OutOfMemory c goes = cc
counts_kept limits source_old source_new bytes old new serves (Malformed place) c goes = absurd c

-- the verifier stands in a reader, whatever its close
with_reads : (verifier : VerifierShown) (readers : List Reader) → ReadFaultsRose readers → ReadFaultsRose (readers_with verifier readers)
with_reads verifier [] r = (λ e. let clash : End ≡ ReadFault = e in cc, tt)
with_reads verifier (reader ∷ readers) r = r

with_closed : (at : Close) → at ≢ End → (verifier : VerifierShown) (readers : List Reader) → HasClose at (readers_with verifier readers) → HasClose at readers
with_closed at other verifier [] (inl e) = absurd (other (sym e))
with_closed at other verifier [] (inr none) = absurd none
with_closed at other verifier (reader ∷ readers) (inl e) = inl e
with_closed at other verifier (reader ∷ readers) (inr later) = inr later

with_shared : (verifier : VerifierShown) (readers : List Reader) → shared_verifier (readers_with verifier readers) ≡ Some verifier
with_shared verifier [] = refl
with_shared verifier (reader ∷ readers) = refl

idle_closed : (at close : Close) (verifier : Option VerifierShown) (readers : List Reader) → readers ≡ idle_reader verifier close ∷ [] → HasClose at readers → close ≡ at
idle_closed at close verifier readers one closed = this (subst (HasClose at) one closed)
  where
    this : HasClose at (idle_reader verifier close ∷ []) → close ≡ at
    this (inl e) = e
    this (inr none) = absurd none

module _ {D : Type 0} (shown : D → DiskShown) (key : Key) (limits run_limits : Limits) (says : Key → List ℕ → Sig → Option Bool) (gives : Key → List ℕ → Option Sig) where
  abbrev Each : List ServedLink → Between D → Between D → Type 0
  Each = ServesEach shown key limits run_limits says gives

  abbrev One : ServedLink → Between D → Between D → Type 0
  One = ServesOne shown key limits run_limits says gives

  abbrev counts_at : Between D → Counts
  counts_at b = counts (shown b.left.disk).faults b.verifier_faults b.signer_faults

  -- a fault that ends the run raised its count in the last link, and that stood as at the first before
  module _ (at : Close) (stops : asks_next at ≡ false) (count : Counts → ℕ)
      (rises : (link : ServedLink) (old new : Between D) → One link old new → link.close ≡ at → Rose (count (counts_at old)) (count (counts_at new))) where
    by_close : (link : ServedLink) (links : List ServedLink) (old mid new : Between D) → One link old mid → (asks_next link.close ≡ false → links ≡ [])
        → HasClose at (map reader_of links) → Rose (count (counts_at mid)) (count (counts_at new)) → (goes : Bool) → asks_next link.close ≡ goes
        → Rose (count (counts_at old)) (count (counts_at new))
    by_close link links old mid new one ends later rest true goes =
        let kept : counts_at mid ≡ counts_at old = counts_kept run_limits link.source_old link.source one.serves.bytes _ _ one.serves.serves link.close one.serves.closes goes in
        subst (λ (c : Counts). Rose (count c) (count (counts_at new))) kept rest
    by_close link links old mid new one ends later rest false goes = absurd (subst (λ ls. HasClose at (map reader_of ls)) (ends goes) later)

    each_rose : (links : List ServedLink) (old new : Between D) → Each links old new → HasClose at (map reader_of links) → Rose (count (counts_at old)) (count (counts_at new))
    each_rose [] old new each closed = absurd closed
    each_rose (link ∷ links) old new each (inl e) =
        let none : links ≡ [] = each.2 (ap asks_next e ∙ stops) in
        let same : new ≡ each.0 = subst (λ ls. Each ls each.0 new) none each.3 in
        subst (λ (b : Between D). Rose (count (counts_at old)) (count (counts_at b))) (sym same) (rises link old each.0 each.1 e)
    each_rose (link ∷ links) old new each (inr later) =
        by_close link links old each.0 new each.1 each.2 later (each_rose links each.0 new each.3 later) (asks_next link.close) refl

  asked_rose : (links : List ServedLink) (old new : Between D) → Each links old new → HasClose VerifierFault (map reader_of links) → Rose old.verifier_faults new.verifier_faults
  asked_rose = each_rose VerifierFault refl (λ c. c.verifier) (λ link old new one e. let closes = rw e at one.serves.closes in closes.fails.counted.1)

  signed_rose : (links : List ServedLink) (old new : Between D) → Each links old new → HasClose SignerFault (map reader_of links) → Rose old.signer_faults new.signer_faults
  signed_rose = each_rose SignerFault refl (λ c. c.signer) (λ link old new one e. let closes = rw e at one.serves.closes in closes.fails.counted.2)

  stored_rose : (links : List ServedLink) (old new : Between D) → Each links old new → HasClose DiskFault (map reader_of links) → Rose (shown old.left.disk).faults (shown new.left.disk).faults
  stored_rose = each_rose DiskFault refl (λ c. c.disk) (λ link old new one e. let closes = rw e at one.serves.closes in closes.fails.counted.0)

  -- each link is read and written by its own source and sink
  reads_rose : (links : List ServedLink) (old new : Between D) → Each links old new → ReadFaultsRose (map reader_of links)
  reads_rose [] old new each = tt
  reads_rose (link ∷ links) old new each = (
    λ e. let closes = rw e at each.1.serves.closes in rw each.1.fresh.source_unfailed at closes.0.closes.1,
    reads_rose links each.0 new each.3,
  )

  writes_rose : (links : List ServedLink) (old new : Between D) → Each links old new → HasClose WriteFault (map reader_of links) → SinkRose (map (λ l. l.sink) links)
  writes_rose [] old new each closed = absurd closed
  writes_rose (link ∷ links) old new each (inl e) = inl (let closes = rw e at each.1.serves.closes in rw each.1.fresh.sink_unfailed at closes.1.rose)
  writes_rose (link ∷ links) old new each (inr later) = inr (writes_rose links each.0 new each.3 later)

module _ {D : Type 0} (shown : D → DiskShown) (key : Key) (limits : Limits) (helper address : List ℕ) (count : ℕ) (old new : Left D) (failed : Bool) (readers : List Reader) (run : Run) where
  abbrev Made : Option DoorShown → Option VerifierShown → Option SignerShown → Type 0
  Made door verifier signer = MakesServing DoorKind address helper door verifier signer run.before run.after

  abbrev Served : Option DoorShown → Option VerifierShown → Option SignerShown → Type 0
  Served door verifier signer = ServesLinksBy shown key limits helper address count old new door verifier signer failed readers run

  pub links_read : (door : Option DoorShown) (verifier : Option VerifierShown) (signer : Option SignerShown) → Served door verifier signer → ReadFaultsRose readers
  links_read None verifier signer s = rw s.1.one (λ e. let clash : End ≡ ReadFault = e in cc, tt)
  links_read (Some door) None signer s = rw s.1.one (λ e. let clash : VerifierFault ≡ ReadFault = e in cc, tt)
  links_read (Some door) (Some verifier) None s = rw s.1.one (λ e. let clash : SignerFault ≡ ReadFault = e in cc, tt)
  links_read (Some door) (Some verifier) (Some signer) s =
      rw s.readers_are (with_reads verifier s.each (rw s.coming.readers_are (reads_rose shown key limits _ _ _ s.coming.links _ _ s.coming.serves)))

  pub links_asked : (door : Option DoorShown) (verifier : Option VerifierShown) (signer : Option SignerShown) → Made door verifier signer → Served door verifier signer
      → HasClose VerifierFault readers → MatchOption (shared_verifier readers) (Rose run.before.faults run.after.faults) (λ v. Rose 0 v.faults)
  links_asked None verifier signer m s closed = let clash : End ≡ VerifierFault = idle_closed VerifierFault End None readers s.1.one closed in cc
  links_asked (Some door) None signer m s closed = rw s.1.one (m.1.rose refl)
  links_asked (Some door) (Some verifier) None m s closed = let clash : SignerFault ≡ VerifierFault = idle_closed VerifierFault SignerFault (Some verifier) readers s.1.one closed in cc
  links_asked (Some door) (Some verifier) (Some signer) m s closed =
      let closed_each = with_closed VerifierFault (λ e. cc) verifier s.each (subst (HasClose VerifierFault) s.readers_are closed) in
      let rose : Rose 0 verifier.faults = asked_rose shown key limits _ _ _ s.coming.links _ _ s.coming.serves (subst (HasClose VerifierFault) s.coming.readers_are closed_each) in
      rw (s.readers_are, with_shared verifier s.each) rose

  pub links_signed : (door : Option DoorShown) (verifier : Option VerifierShown) (signer : Option SignerShown) → Made door verifier signer → Served door verifier signer
      → HasClose SignerFault readers → MatchOption signer (Rose run.before.faults run.after.faults) (λ g. Rose 0 g.faults)
  links_signed None verifier signer m s closed = let clash : End ≡ SignerFault = idle_closed SignerFault End None readers s.1.one closed in cc
  links_signed (Some door) None signer m s closed = let clash : VerifierFault ≡ SignerFault = idle_closed SignerFault VerifierFault None readers s.1.one closed in cc
  links_signed (Some door) (Some verifier) None m s closed = m.rose refl
  links_signed (Some door) (Some verifier) (Some signer) m s closed =
      let closed_each = with_closed SignerFault (λ e. cc) verifier s.each (subst (HasClose SignerFault) s.readers_are closed) in
      signed_rose shown key limits _ _ _ s.coming.links _ _ s.coming.serves (subst (HasClose SignerFault) s.coming.readers_are closed_each)

  pub links_stored : (door : Option DoorShown) (verifier : Option VerifierShown) (signer : Option SignerShown) → Served door verifier signer
      → HasClose DiskFault readers → Rose (shown old.disk).faults (shown new.disk).faults
  links_stored None verifier signer s closed = let clash : End ≡ DiskFault = idle_closed DiskFault End None readers s.1.one closed in cc
  links_stored (Some door) None signer s closed = let clash : VerifierFault ≡ DiskFault = idle_closed DiskFault VerifierFault None readers s.1.one closed in cc
  links_stored (Some door) (Some verifier) None s closed = let clash : SignerFault ≡ DiskFault = idle_closed DiskFault SignerFault (Some verifier) readers s.1.one closed in cc
  links_stored (Some door) (Some verifier) (Some signer) s closed =
      let closed_each = with_closed DiskFault (λ e. cc) verifier s.each (subst (HasClose DiskFault) s.readers_are closed) in
      stored_rose shown key limits _ _ _ s.coming.links _ _ s.coming.serves (subst (HasClose DiskFault) s.coming.readers_are closed_each)

  pub links_wrote : (door : Option DoorShown) (verifier : Option VerifierShown) (signer : Option SignerShown) → Served door verifier signer
      → HasClose WriteFault readers → SinkRose run.sinks
  links_wrote None verifier signer s closed = let clash : End ≡ WriteFault = idle_closed WriteFault End None readers s.1.one closed in cc
  links_wrote (Some door) None signer s closed = let clash : VerifierFault ≡ WriteFault = idle_closed WriteFault VerifierFault None readers s.1.one closed in cc
  links_wrote (Some door) (Some verifier) None s closed = let clash : SignerFault ≡ WriteFault = idle_closed WriteFault SignerFault (Some verifier) readers s.1.one closed in cc
  links_wrote (Some door) (Some verifier) (Some signer) s closed =
      let closed_each = with_closed WriteFault (λ e. cc) verifier s.each (subst (HasClose WriteFault) s.readers_are closed) in
      rw s.coming.sinks_are (writes_rose shown key limits _ _ _ s.coming.links _ _ s.coming.serves (subst (HasClose WriteFault) s.coming.readers_are closed_each))

  -- the door failed, or couldn't be made
  pub links_failed : (door : Option DoorShown) (verifier : Option VerifierShown) (signer : Option SignerShown) → Made door verifier signer → Served door verifier signer
      → failed ≡ true → MatchOption door (Rose run.before.faults run.after.faults) (λ d. Rose 0 d.faults)
  links_failed None verifier signer m s e = m.2.rose refl
  links_failed (Some door) None signer m s e = let clash : true ≡ false = sym e ∙ s.0 in cc
  links_failed (Some door) (Some verifier) None m s e = let clash : true ≡ false = sym e ∙ s.0 in cc
  links_failed (Some door) (Some verifier) (Some signer) m s e = rw e at s.coming.cause
