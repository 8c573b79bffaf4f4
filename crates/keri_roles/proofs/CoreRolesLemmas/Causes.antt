-- Why a reader that told a core closed by a fault, by what its command did.
use Rattle.std.proofs.Common.{◌≡◌, ◌≢◌, ℕ, inl, inr, Bool, true, false, ◌||◌, List, [], ◌∷◌, ◌+◌, Option, Some, None, refl, sym, ◌∙◌, ap, subst}
use Rattle.std.specs.Prelude.{is_none, IfSome, IsSomeAnd, MatchOption}
use Rattle.std.specs.List.{list_any}
use Rattle.std.proofs.lemmas.Option.{IfSome_then}
use Rattle.std.specs.List.{All}
use Rattle.std.proofs.lemmas.List.Elements.{All-head, All-tail}
use Rattle.lists.specs.KeriSpecs.Causes.{Rose}
use Rattle.cesr_stream.specs.declared.message.Message.{Message}
use Rattle.keri_outside.specs.declared.limits.Limits.{Limits}
use Rattle.journal.specs.declared.journal.mode.Mode.{Mode}
use Rattle.journal.specs.Journal.Feeds.{FeedEach}
use Rattle.journal.specs.Journal.History.{Told as ToldEntry}
use Rattle.run_status.specs.declared.run_status.close.Close.TheVariants.{ReadFault, VerifierFault, OutOfMemory}
use Rattle.run_status.specs.RunOutside.Makings.{some_failed}
use Rattle.run_status.specs.RunOutside.Shown.{OutsideShown}
use Rattle.run_status.specs.RunStatus.Readers.{Reader, VerifierShown}
use Rattle.keri_outside.specs.Shown.{SourceShown}
use Rattle.reader_hub.specs.ReaderThreads.Fed.{ReadEach, ReadsBy, ends_of}
use Rattle.reader_hub.specs.ReaderThreads.Given.{Given}
use Rattle.reader_hub.specs.ReaderThreads.Told.{HasFailed, SomeFailed}
use Rattle.reader_hub.specs.declared.reader_threads.last_round.LastRound.{LastRound}
use Rattle.reader_hub.specs.declared.reader_threads.last_round.LastRound.TheVariants.{NoneFailed, VerifierFailed, OutOfMemory as NoMemory}
use Rattle.keri_roles.specs.CoreRoles.CoreTold.{AreGiven, AreProvided, ReadsToCore, fails_last, makings_of}
use Rattle.keri_roles.specs.CoreRoles.LinksShown.{AreLinked, AreLinksGiven, AreTakenBy, verifiers_of}
use Rattle.run_status.specs.RunRecord.Run.{DoorShown, AreCaused, VerifierRose}
use Rattle.keri_roles.specs.CoreRoles.Work.{LinksShown, Work}

-- where it may be that the source and the verifier couldn't be made, the count of the outside rose
module _ (rose : Type 0) (limits : Limits) (told : List ToldEntry) (most number : ℕ) (rest : LastRound) (reader : Reader) (bytes : List ℕ)
    (offered : List Message) where
  -- a reader that was given what has failed not yet
  told_read : (source : Option SourceShown) (verifier : Option VerifierShown) → (is_none source ≡ true → rose) → IfSome source (λ s. s.faults ≡ 0)
      → ReadsBy limits told most number rest source verifier reader bytes offered → reader.close ≡ ReadFault → MatchOption reader.source rose (λ s. Rose 0 s.faults)
  told_read None None out zero r e = rw r.0 (out refl)
  told_read None (Some verifier) out zero r e = rw r.0.source_is (out refl)
  told_read (Some source) None out zero r e = let clash : ReadFault ≡ VerifierFault = sym e ∙ ap (λ x. x.close) r.0 in cc
  told_read (Some source) (Some verifier) out zero r e =
      let some : reader.close ≢ OutOfMemory = λ m. let clash : ReadFault ≡ OutOfMemory = sym e ∙ m in cc in
      let closes = rw e at (r.closes some).closes in
      rw r.source_is (subst (λ n. Rose n r.source_left.faults) zero closes.1)

  told_asked : (source : Option SourceShown) (verifier : Option VerifierShown) → (is_none verifier ≡ true → rose) → IfSome verifier (λ v. v.faults ≡ 0)
      → ReadsBy limits told most number rest source verifier reader bytes offered → reader.close ≡ VerifierFault → MatchOption reader.verifier rose (λ v. Rose 0 v.faults)
  told_asked None None out zero r e = let clash : VerifierFault ≡ ReadFault = sym e ∙ ap (λ x. x.close) r.0 in cc
  told_asked None (Some verifier) out zero r e = let clash : VerifierFault ≡ ReadFault = sym e ∙ r.0.close_is in cc
  told_asked (Some source) None out zero r e = rw r.0 (out refl)
  told_asked (Some source) (Some verifier) out zero r e =
      let some : reader.close ≢ OutOfMemory = λ m. let clash : VerifierFault ≡ OutOfMemory = sym e ∙ m in cc in
      let closes = rw e at (r.closes some).closes in
      rw r.verifier_is (subst (λ n. Rose n r.verifier_left.faults) zero closes.1)

first_lacks : (a b c : Bool) → a ≡ true → ((a || b) || c) ≡ true
first_lacks true b c e = refl
first_lacks false b c e = cc

second_lacks : (a b c : Bool) → b ≡ true → ((a || b) || c) ≡ true
second_lacks true b c e = refl
second_lacks false true c e = refl
second_lacks false false c e = cc

later_lacks : (a b c : Bool) → c ≡ true → ((a || b) || c) ≡ true
later_lacks true b c e = refl
later_lacks false true c e = refl
later_lacks false false c e = e

pub regroup : (a b c : Bool) → (a || (b || c)) ≡ ((a || b) || c)
regroup true b c = refl
regroup false b c = refl

-- nothing that was given had failed
abbrev pub AreUnfailed : List Given → Type 0
AreUnfailed [] = Unit {0}
AreUnfailed (g ∷ given) = IfSome g.source (λ s. s.faults ≡ 0) × IfSome g.verifier (λ v. v.faults ≡ 0) × AreUnfailed given

-- something of a reader couldn't be made
abbrev pub lacks : List Given → Bool
lacks given = list_any (λ g. is_none g.source || is_none g.verifier) given

-- each of the readers that were given this, where a making that failed has its cause
module _ (limits : Limits) (told : List ToldEntry) (most : ℕ) (rest : LastRound) (before after : OutsideShown) where
  pub each_caused : (number : ℕ) (read : List (List ℕ)) (given : List Given) (readers : List Reader) (feeds : FeedEach limits told number (ends_of read readers))
      → AreUnfailed given → (lacks given ≡ true → Rose before.faults after.faults)
      → ReadEach limits told most rest number read given readers feeds → AreCaused before after readers
  each_caused number [] [] [] feeds are rose each = tt
  each_caused number [] [] (reader ∷ readers) feeds are rose each = absurd each
  each_caused number [] (g ∷ given) readers feeds are rose each = absurd each
  each_caused number (bytes ∷ read) [] readers feeds are rose each = absurd each
  each_caused number (bytes ∷ read) (g ∷ given) [] feeds are rose each = absurd each
  each_caused number (bytes ∷ read) (g ∷ given) (reader ∷ readers) feeds are rose each = (
    record {
      source = told_read (Rose before.faults after.faults) limits told most number rest reader bytes _ g.source g.verifier
          (λ none. rose (first_lacks (is_none g.source) (is_none g.verifier) (lacks given) none)) are.0 each.0;
      verifier = told_asked (Rose before.faults after.faults) limits told most number rest reader bytes _ g.source g.verifier
          (λ none. rose (second_lacks (is_none g.source) (is_none g.verifier) (lacks given) none)) are.1 each.0;
    },
    each_caused (number + 1) read given readers feeds.1 are.2
        (λ some. rose (later_lacks (is_none g.source) (is_none g.verifier) (lacks given) some)) each.1,
  )

-- what is given for names had not failed, and where something lacks a making failed
module _ (before : OutsideShown) (helper : List ℕ) where
  pub names_unfailed : (names : List (List ℕ)) (given : List Given) → AreGiven before helper names given → AreUnfailed given
  names_unfailed [] [] are = tt
  names_unfailed [] (g ∷ given) are = absurd are
  names_unfailed (name ∷ names) [] are = tt
  names_unfailed (name ∷ names) (g ∷ given) are =
      (IfSome_then g.source are.0.source (λ s is. is.1), IfSome_then g.verifier are.0.verifier (λ v is. is.2), names_unfailed names given are.1)

  pub names_lack : (names : List (List ℕ)) (given : List Given) → AreGiven before helper names given → some_failed (makings_of helper names given) ≡ lacks given
  names_lack [] [] are = refl
  names_lack [] (g ∷ given) are = absurd are
  names_lack (name ∷ names) [] are = absurd are
  names_lack (name ∷ names) (g ∷ given) are =
      regroup (is_none g.source) (is_none g.verifier) _ ∙ ap (λ b. (is_none g.source || is_none g.verifier) || b) (names_lack names given are.1)

  -- and so of links, whose sources are always there
  pub links_unfailed : (sources : List SourceShown) (given : List Given) → All (λ s. s.faults ≡ 0) sources → AreLinksGiven before helper sources given → AreUnfailed given
  links_unfailed [] [] unread are = tt
  links_unfailed [] (g ∷ given) unread are = absurd are
  links_unfailed (s ∷ sources) [] unread are = tt
  links_unfailed (s ∷ sources) (g ∷ given) unread are = (
    rw are.0.source_is (All-head (λ s. s.faults ≡ 0) s sources unread),
    IfSome_then g.verifier are.0.verifier (λ v is. is.2),
    links_unfailed sources given (All-tail (λ s. s.faults ≡ 0) s sources unread) are.1,
  )

  pub links_lack : (sources : List SourceShown) (given : List Given) → AreLinksGiven before helper sources given → some_failed (verifiers_of helper given) ≡ lacks given
  links_lack [] [] are = refl
  links_lack [] (g ∷ given) are = absurd are
  links_lack (s ∷ sources) [] are = absurd are
  links_lack (s ∷ sources) (g ∷ given) are = rw are.0.source_is (ap (λ b. is_none g.verifier || b) (links_lack sources given are.1))

behind_test : (a : Bool) {b : Bool} → b ≡ true → (a || b) ≡ true
behind_test true e = refl
behind_test false e = e

front_test : (a b : Bool) → a ≡ true → (a || b) ≡ true
front_test true b e = refl
front_test false b e = cc

rose_since : (given left : Option VerifierShown) → IfSome given (λ v. v.faults ≡ 0) → HasFailed given left → IsSomeAnd left (λ w. Rose 0 w.faults)
rose_since None left zero failed = absurd failed
rose_since (Some v) None zero failed = absurd failed
rose_since (Some v) (Some w) zero failed = subst (λ n. Rose n w.faults) zero failed

pub failed_last : (rest : LastRound) → fails_last rest ≡ true → rest ≡ VerifierFailed
failed_last NoneFailed e = cc
failed_last VerifierFailed e = refl
failed_last NoMemory e = cc

-- a verifier that failed since it was given failed
pub some_rose : (given : List Given) (readers : List Reader) → AreUnfailed given → SomeFailed given readers → VerifierRose readers
some_rose [] readers are failed = absurd failed
some_rose (g ∷ given) [] are failed = absurd failed
some_rose (g ∷ given) (reader ∷ readers) are (inl this) = inl (rose_since g.verifier reader.verifier are.1 this)
some_rose (g ∷ given) (reader ∷ readers) are (inr later) = inr (some_rose given readers are.2 later)

-- of any command over a core, what is given to whose readers had not failed
module _ (mode : Mode) (IsProvided : List Given → OutsideShown → OutsideShown → Type 0) (work : Work) (t : ReadsToCore mode IsProvided work) (are : AreUnfailed t.given) where
  pub told_caused : (lacks t.given ≡ true → Rose work.before.faults work.after.faults) → AreCaused work.before work.after work.readers
  told_caused rose = each_caused work.before.limits _ _ t.rest work.before work.after 0 t.journal.read t.given work.readers t.journal.fed.fed.each are rose t.journal.each

  -- and a verifier that failed in the last round failed
  pub told_rose : fails_last t.rest ≡ true → VerifierRose work.readers
  told_rose e = some_rose t.given work.readers are (t.journal.failed (failed_last t.rest e))

-- over files
module _ (mode : Mode) (helper : List ℕ) (names : List (List ℕ)) (work : Work) (t : ReadsToCore mode (AreProvided helper names) work) where
  pub files_unfailed : AreUnfailed t.given
  files_unfailed = names_unfailed work.before helper names t.given t.provided.are_given

  pub files_rose : lacks t.given ≡ true → Rose work.before.faults work.after.faults
  files_rose e = t.provided.makes.rose (names_lack work.before helper names t.given t.provided.are_given ∙ e)

  pub files_caused : AreCaused work.before work.after work.readers
  files_caused = told_caused mode _ work t files_unfailed files_rose

-- the door failed, where it is found to have
pub door_rose : (rose : Type 0) (shown : Option (List (List ℕ))) (count : ℕ) (failed : Bool) (held : List (Option (List ℕ))) (door : Option DoorShown) → (is_none door ≡ true → rose)
    → AreTakenBy shown count failed held door → failed ≡ true → MatchOption door rose (λ d. Rose 0 d.faults)
door_rose rose shown count failed held None out t e = out refl
door_rose rose shown count failed held (Some d) out t e = rw e at t.cause

-- over links
module _ (mode : Mode) (helper address : List ℕ) (count : ℕ) (links : LinksShown) (work : Work) (t : ReadsToCore mode (AreLinked helper address count links) work) where
  pub linked_unfailed : AreUnfailed t.given
  linked_unfailed = links_unfailed work.before helper t.provided.sources t.given t.provided.taken.sources_unfailed t.provided.are_given

  pub linked_rose : lacks t.given ≡ true → Rose work.before.faults work.after.faults
  linked_rose e = t.provided.makes.rose (behind_test (is_none links.door) (links_lack work.before helper t.provided.sources t.given t.provided.are_given ∙ e))

  pub linked_caused : AreCaused work.before work.after work.readers
  linked_caused = told_caused mode _ work t linked_unfailed linked_rose

  pub linked_door : links.failed ≡ true → MatchOption links.door (Rose work.before.faults work.after.faults) (λ d. Rose 0 d.faults)
  linked_door = door_rose _ (work.before.links address) count links.failed _ links.door
      (λ none. t.provided.makes.rose (front_test (is_none links.door) _ none)) t.provided.taken.taken
