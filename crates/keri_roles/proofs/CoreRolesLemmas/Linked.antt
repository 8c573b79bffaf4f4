-- What readers of links are given, one after another.
use Rattle.std.proofs.Common.{◌≡◌, ℕ, Bool, true, false, List, [], ◌∷◌, ◌++◌, Option, Some, None, Result, Ok, Err, All, length, map, suc, refl, sym, ap, ◌∙◌, subst, append_assoc, append-nil}
use Rattle.std.specs.Prelude.{IfSome, is_err, is_none}
use Rattle.std.proofs.lemmas.List.{map-append}
use Rattle.std.proofs.lemmas.List.Elements.{All-cons, All-head, All-nil, All-tail}
use Rattle.lists.specs.KeriSpecs.Shown.{HasNone}
use Rattle.run_status.specs.RunOutside.Makings.{AreMakings, Noted}
use Rattle.run_status.specs.RunOutside.Shown.{Grows, Makes, OutsideShown, making}
use Rattle.run_status.specs.declared.run_outside.making.Making.{Making}
use Rattle.run_status.specs.declared.run_outside.making.MakingKind.{MakingKind}
use Rattle.run_status.specs.declared.run_outside.making.MakingKind.TheVariants.{Door as DoorKind, Verifier as VerifierKind}
use Rattle.keri_outside.specs.Shown.{SourceShown}
use Rattle.journal.specs.declared.journal.mode.Mode.{Mode}
use Rattle.keri_outside.specs.declared.limits.Limits.{Limits}
use Rattle.reader_hub.specs.ReaderThreads.AnySeats.{AreAnyReady, HaveSeats}
use Rattle.reader_hub.specs.ReaderThreads.Given.{Given}
use Rattle.reader_hub.specs.ReaderThreads.Seats.{AreReady}
use Rattle.reader_hub.specs.declared.reader_threads.any_seats.AnySeats.{AnySeats}
use Rattle.reader_hub.specs.declared.reader_threads.any_seats.AnySeats.TheVariants.{Nobody, Readers}
use Rattle.keri_roles.specs.CoreRoles.LinksShown.{AreLinked, AreLinksGiven, IsLinkGiven, ProvidesLinks, TakesLinks, verifiers_of}
use Rattle.keri_roles.specs.CoreRoles.Work.{LinksShown}
use Rattle.keri_roles.proofs.CoreRolesLemmas.Provided.{makings_on}

-- what is seen of all of a list
pub length_map : {A B : Type 0} (f : A → B) (xs : List A) → length (map f xs) ≡ length xs
length_map f [] = refl
length_map f (x ∷ xs) = ap suc (length_map f xs)

pub map_map : {A B C : Type 0} (g : B → C) (f : A → B) (xs : List A) → map g (map f xs) ≡ map (λ x. g (f x)) xs
map_map g f [] = refl
map_map g f (x ∷ xs) = ap (λ l. g (f x) ∷ l) (map_map g f xs)

pub all_map : {A B : Type 0} (f : A → B) (P : B → Type 0) (xs : List A) → All (λ x. P (f x)) xs → All P (map f xs)
all_map f P [] all = All-nil P
all_map f P (x ∷ xs) all = All-cons P (f x) (map f xs) (All-head (λ y. P (f y)) x xs all) (all_map f P xs (All-tail (λ y. P (f y)) x xs all))

-- no making came
noted_none : (makings : Option (List Making)) → Noted makings makings []
noted_none None = tt
noted_none (Some makings) = (makings, refl, sym (append-nil makings))

makings_none : (shown : OutsideShown) → AreMakings [] shown shown
makings_none shown = record { noted = noted_none shown.makings; rose = λ e. cc; kept = λ e. refl }

noted_one : (old new : Option (List Making)) (kind : MakingKind) (name : List ℕ) (failed : Bool) → Grows old new kind name failed → Noted old new (making kind name failed ∷ [])
noted_one old None kind name failed g = tt
noted_one old (Some new) kind name failed g = g

-- one came
pub makings_one : {T E : Type 0} (kind : MakingKind) (name : List ℕ) (old new : OutsideShown) (r : Result T E) → Makes kind name old new r
    → AreMakings (making kind name (is_err r) ∷ []) old new
makings_one kind name old new (Ok x) m = record { noted = noted_one old.makings new.makings kind name false m.noted; rose = λ e. cc; kept = λ e. m.cause.else_same }
makings_one kind name old new (Err x) m = record { noted = noted_one old.makings new.makings kind name true m.noted; rose = λ e. m.cause.failed; kept = λ e. cc }

-- the links so far are given their sources and verifiers, and these are left
pub record AreGivenSoFar (helper : List ℕ) (sources left : List SourceShown) (given : List Given) (before now : OutsideShown) : Type 0 where
  pub done : List SourceShown
  pub parts : sources ≡ done ++ left
  pub are_given : AreLinksGiven before helper done given
  pub makes : AreMakings (verifiers_of helper given) before now
  pub says : now.says ≡ before.says

pub given_none : (helper : List ℕ) (sources : List SourceShown) (shown : OutsideShown) → AreGivenSoFar helper sources sources [] shown shown
given_none helper sources shown = record { done = []; parts = refl; are_given = tt; makes = makings_none shown; says = refl }

links_push : (before : OutsideShown) (helper : List ℕ) (done : List SourceShown) (given : List Given) (source : SourceShown) (g : Given)
    → AreLinksGiven before helper done given → IsLinkGiven before helper source g → AreLinksGiven before helper (done ++ source ∷ []) (given ++ g ∷ [])
links_push before helper [] [] source g are is = (is, tt)
links_push before helper [] (h ∷ given) source g are is = absurd are
links_push before helper (s ∷ done) [] source g are is = absurd are
links_push before helper (s ∷ done) (h ∷ given) source g are is = (are.0, links_push before helper done given source g are.1 is)

-- one link more is given its verifier
module _ (helper : List ℕ) (sources : List SourceShown) (source : SourceShown) (left : List SourceShown) (given : List Given) (g : Given) (before mid after : OutsideShown) where
  pub given_more : AreGivenSoFar helper sources (source ∷ left) given before mid → IsLinkGiven mid helper source g
      → AreMakings (making VerifierKind helper (is_none g.verifier) ∷ []) mid after → after.says ≡ mid.says
      → AreGivenSoFar helper sources left (given ++ g ∷ []) before after
  given_more so_far is makes says = record {
    done = so_far.done ++ source ∷ [];
    parts = so_far.parts ∙ sym (append_assoc so_far.done (source ∷ []) left);
    are_given = links_push before helper so_far.done given source g so_far.are_given (record {
      source_is = is.source_is;
      verifier = subst (λ h. IfSome g.verifier (λ v. (v.says ≡ h helper) × HasNone v.inquiries × (v.faults ≡ 0))) so_far.says is.verifier;
    });
    makes = subst (λ l. AreMakings l before after) (sym (map-append (λ x. making VerifierKind helper (is_none x.verifier)) given (g ∷ [])))
        (makings_on (verifiers_of helper given) _ before mid after so_far.makes makes);
    says = says ∙ so_far.says;
  }

-- what is said is as before
pub links_before : (before mid : OutsideShown) (helper : List ℕ) (sources : List SourceShown) (given : List Given) → mid.says ≡ before.says → AreLinksGiven mid helper sources given
    → AreLinksGiven before helper sources given
links_before before mid helper [] [] says are = tt
links_before before mid helper [] (g ∷ given) says are = absurd are
links_before before mid helper (s ∷ sources) [] says are = absurd are
links_before before mid helper (s ∷ sources) (g ∷ given) says are = (
  record {
    source_is = are.0.source_is;
    verifier = subst (λ h. IfSome g.verifier (λ v. (v.says ≡ h helper) × HasNone v.inquiries × (v.faults ≡ 0))) says are.0.verifier;
  },
  links_before before mid helper sources given says are.1,
)

-- links were taken, and then given verifiers
pub are_linked : (helper address : List ℕ) (count : ℕ) (sources : List SourceShown) (links : LinksShown) (given : List Given) (before mid after : OutsideShown)
    → TakesLinks address count sources links before mid → ProvidesLinks helper sources given mid after → AreLinked helper address count links given before after
are_linked helper address count sources links given before mid after taken provided = record {
  sources = sources;
  taken = taken.taken;
  are_given = links_before before mid helper sources given taken.says provided.are_given;
  makes = makings_on (making DoorKind address (is_none links.door) ∷ []) (verifiers_of helper given) before mid after taken.makes provided.makes;
}

-- seats that there are are ready
pub any_ready : {S V : Type 0} (mode : Mode) (limits : Limits) (count n : ℕ) (seats : AnySeats S V) → HaveSeats mode limits count seats → count ≡ n → AreAnyReady n seats
any_ready mode limits count n (Nobody core) has e = (sym e ∙ has.0, has.1.is_new)
any_ready mode limits count n (Readers seats) has e = subst (λ m. AreReady m seats) e has.ready

-- none is left
pub given_all : (helper : List ℕ) (sources left : List SourceShown) (given : List Given) (before now : OutsideShown) → AreGivenSoFar helper sources left given before now → left ≡ []
    → ProvidesLinks helper sources given before now
given_all helper sources left given before now so_far none =
    let all : sources ≡ so_far.done = so_far.parts ∙ (ap (λ l. so_far.done ++ l) none ∙ append-nil so_far.done) in
    record { are_given = rw all so_far.are_given; makes = so_far.makes }
