-- Tables of texts that are a log: how one more is accepted, and what core they make.
use Rattle.std.proofs.Common.{◌≡◌, ℕ, ◌+◌, ◌<◌, ◌≤◌, Bool, true, false, not, ◌&&◌, List, [], ◌∷◌, ◌++◌, length, map, take, Option, Some, None, refl, sym, ◌∙◌, ap, subst, inl, inr, arith, append-nil, append_assoc}
use Rattle.std.specs.Prelude.{◌^◌, All, IsTrue, filter, slice_get, sum_by}
use Rattle.std.proofs.Math.Seq.{take-length}
use Rattle.std.proofs.lemmas.Bool.{and_parts, cases_Bool, not-true}
use Rattle.std.proofs.lemmas.List.{length-map, map-append}
use Rattle.std.proofs.lemmas.List.Elements.{All-push}
use Rattle.std.proofs.lemmas.List.Sums.{sum_by-cons, sum_by-le}
use Rattle.validator_core.specs.Tables.AcceptedLog.Values.{last_of}
use Rattle.cesr_codes.specs.declared.prefix.Prefix.{Prefix}
use Rattle.event_body.specs.declared.event_body.event.Event.{Event}
use Rattle.event_body.specs.EventBody.Events.{is_receipt, prefix_of}
use Rattle.keri_outside.specs.declared.limits.Limits.{Limits}
use Rattle.key_state.specs.Same.{distinct}
use Rattle.key_state.specs.States.{State}
use Rattle.validator_core.specs.Acceptance.Standing.{Accepts, IsHeld, AreSoundTables, told_of}
use Rattle.validator_core.proofs.AcceptanceLemmas.NewBody.{chosen_more}
use Rattle.validator_core.proofs.AcceptanceLemmas.NewReceipt.{standing_unfound, untold_found}
use Rattle.validator_core.proofs.AcceptanceLemmas.Nothing.{nothing_stands}
use Rattle.validator_core.specs.Tables.View.{View, log_of, nothing}
use Rattle.journal.specs.declared.journal.body.Body.{Body}
use Rattle.journal.specs.declared.journal.mode.Mode.{Mode}
use Rattle.journal.specs.declared.journal.resume_fault.ResumeFault.{ResumeFault}
use Rattle.journal.specs.declared.journal.resume_fault.ResumeFault.TheVariants.{NotALog, OutOfMemory}
use Rattle.journal.specs.Journal.Accepted.{accepted}
use Rattle.journal.specs.Journal.Acceptance.{grown_by}
use Rattle.journal.specs.Journal.Grown.{fits}
use Rattle.journal.specs.Journal.History.{bodies}
use Rattle.journal.specs.Journal.Journals.{chosen, first_unfit, told_by}
use Rattle.journal.specs.Journal.Logs.{is_in, same_body, state, takes}
use Rattle.journal.specs.Journal.Questions.{IsRegular}
use Rattle.journal.specs.Journal.Replies.{IsWithin}
use Rattle.journal.proofs.JournalLemmas.Apart.{filter-all}
use Rattle.journal.proofs.JournalLemmas.Different.{Differ}
use Rattle.journal.proofs.JournalLemmas.Accepting.{same_body-refl}
use Rattle.journal.proofs.JournalLemmas.Places.{any_at, slice_get_last}
use Rattle.validator_core.specs.ValidatorCore.Base.{AcceptsText, AreAccepted, AreLog, AreRefused, EndsAt, IsBase, IsRead, IsRefused}
use Rattle.validator_core.specs.declared.validator_core.tally.Tally.{Tally}
use Rattle.validator_core.specs.ValidatorCore.Tables.{IsCore, base_in}
use Rattle.validator_core.specs.ValidatorCore.Tally.{IsTally}
use Rattle.validator_core.specs.ValidatorCore.View.{bytes_of}

-- one more that fits
fit_more : (place : ℕ) (before bs : List Body) (b : Body) → first_unfit place before bs ≡ None → fits (before ++ bs) b ≡ true → first_unfit place before (bs ++ b ∷ []) ≡ None
fit_more place before [] b none fitting =
    let here : fits before b ≡ true = ap (λ l. fits l b) (sym (append-nil before)) ∙ fitting in rw here refl
fit_more place before (c ∷ bs) b none fitting = elim (cases_Bool (fits before c)) [
  | inl k ↦ (let rest : first_unfit (place + 1) (before ++ c ∷ []) bs ≡ None = rw k at none in
      rw k (fit_more (place + 1) (before ++ c ∷ []) bs b rest (ap (λ l. fits l b) (append_assoc before (c ∷ []) bs) ∙ fitting)))
  | inr k ↦ (let no : Some place ≡ None = rw k at none in cc)
]

log_more : (texts : List (List ℕ)) (held : List Body) (b : Body) → IsHeld b → fits held b ≡ true → AreLog texts held → AreLog (texts ++ b.bytes ∷ []) (held ++ b ∷ [])
log_more texts held b is_held fitting log = record {
  reading = record {
    bytes_are = map-append (λ (c : Body). c.bytes) held (b ∷ []) ∙ ap (λ ts. ts ++ b.bytes ∷ []) log.reading.bytes_are;
    spelled = All-push (λ (c : Body). IsRead c.event c.bytes) held b log.reading.spelled (is_held.spelled, is_held.few);
  };
  fit = fit_more 0 [] held b log.fit fitting;
}

-- what fits isn't held
fit_outside : (held : List Body) (b : Body) → fits held b ≡ true → is_in held b ≡ false
unfolding fits
fit_outside held b h = not-true _ (and_parts (not (is_receipt b.event)) _ (and_parts (not (is_receipt b.event) && not (is_in held b)) _ h).0).1

module _ (v : View) (all : AreAccepted v) (b : Body) (is_held : IsHeld b) (fitting : fits v.held b ≡ true) where
  abbrev pub pushed : View
  pushed = record v { held = v.held ++ b ∷ [] }

  -- PUSHED: with its body the tables stand, and it fits behind the log
  pub stands_pushed : AreSoundTables pushed
  stands_pushed = standing_unfound v all.sound b is_held (fit_outside v.held b fitting) (untold_found v b all.untold)

  log_same : log_of pushed ≡ v.held
  log_same = chosen_more v.held (b ∷ []) v.log.numbers all.sound.accepted_held ∙ all.all

  pub fits_pushed : (number : ℕ) → number ≡ length v.held → (c : Body) → slice_get pushed.held number ≡ Some c → IsTrue (fits (log_of pushed) c)
  fits_pushed number is c at =
      let last : Some b ≡ Some c = sym (slice_get_last v.held b) ∙ ap (slice_get pushed.held) (sym is) ∙ at in
      let one : b ≡ c = cc in
      ap (λ l. fits l c) log_same ∙ subst (λ d. fits v.held d ≡ true) one fitting

  -- ACCEPTED: and then it is last in the log
  pub accepts_text : (new : View) → Accepts b pushed new → AcceptsText b.bytes v new
  accepts_text new made = record {
    body = b;
    bytes = refl;
    is_held = is_held;
    fitting = fitting;
    held = made.held;
    accepted = record {
      sound = made.sound;
      untold = made.entries ∙ all.untold;
      idle = made.pending ∙ all.idle;
      all = made.log ∙ ap (λ l. l ++ b ∷ []) log_same ∙ sym made.held;
    };
  }

-- NOTHING: no texts
pub nothing_base : IsBase [] nothing
unfolding chosen
nothing_base = record {
  accepted = record { sound = nothing_stands; untold = refl; idle = refl; all = refl };
  log = record { reading = record { bytes_are = refl; spelled = λ k d h. absurd (omega (arith, h)) }; fit = refl };
}

-- MORE: one text more
pub base_more : (texts : List (List ℕ)) (text : List ℕ) (old new : View) → IsBase texts old → AcceptsText text old new → IsBase (texts ++ text ∷ []) new
base_more texts text old new base adds =
    let held = adds.held in let bytes = adds.bytes in record {
      accepted = adds.accepted;
      log = subst (λ hs. AreLog (texts ++ text ∷ []) hs) (sym held) (subst (λ t. AreLog (texts ++ t ∷ []) (old.held ++ adds.body ∷ [])) bytes
          (log_more texts old.held adds.body adds.is_held adds.fitting base.log));
    }

pub base_length : (texts : List (List ℕ)) (v : View) → IsBase texts v → length v.held ≡ length texts
base_length texts v base = let are = base.log.reading.bytes_are in sym (length-map v.held (λ (b : Body). b.bytes)) ∙ ap length are

-- REFUSED: a text behind them
pub base_ends : (texts : List (List ℕ)) (text : List ℕ) (rest all : List (List ℕ)) (v : View) (n : ℕ) → IsBase texts v → texts ++ text ∷ rest ≡ all
    → n ≡ length v.held → ((event : Event) → IsRead event text → fits v.held (record { bytes = text; event = event }) ≡ false) → EndsAt all n
base_ends texts text rest all v n base parted number unfit =
    let are = base.log.reading.bytes_are in record {
      before = v.held;
      text = text;
      rest = rest;
      parted = sym parted ∙ ap (λ ts. ts ++ text ∷ rest) (sym are);
      number = number;
      log = subst (λ ts. AreLog ts v.held) (sym are) base.log;
      unfit = unfit;
    }

all_distinct : {X : Type 0} (same : X → X → Bool) (xs : List X) → Differ same xs → distinct same xs ≡ xs
unfolding distinct
all_distinct same [] d = refl
all_distinct same (x ∷ xs) d =
    ap (λ ys. x ∷ filter (λ y. not (same x y)) ys) (all_distinct same xs d.1) ∙ ap (λ ys. x ∷ ys) (filter-all (λ y. not (same x y)) xs d.0)

regular_untold : (mode : Mode) (base : List Body) → IsRegular mode base []
regular_untold mode base [] later reader b key sig verdict e = cc
regular_untold mode base (t ∷ earlier) later reader b key sig verdict e = cc

bodies_untold : (held : List Body) → Differ same_body held → bodies held [] ≡ held
unfolding bodies
bodies_untold held d = ap (distinct same_body) (append-nil held) ∙ all_distinct same_body held d

accepted_untold : (mode : Mode) (base : List Body) → accepted mode base [] ≡ base
unfolding accepted grown_by
accepted_untold mode base = refl

told_nothing : (held : List Body) → told_by held [] ≡ []
unfolding told_by
told_nothing held = refl

-- CORE: the tables of a core that was told nothing
module _ (mode : Mode) (limits : Limits) (texts : List (List ℕ)) (v : View) (base : IsBase texts v) (left : v.released ≡ length v.log.numbers) where
  abbrev counted : Tally
  counted = record { messages = 0; body_bytes = bytes_of v.held; signatures = 0 }

  same_base : v.held ≡ base_in (length texts) v
  same_base = sym (ap (λ n. take n v.held) (sym (base_length texts v base)) ∙ take-length v.held)

  same_told : [] ≡ told_of v
  same_told = let none = base.accepted.untold in sym (ap (told_by v.held) none ∙ told_nothing v.held)

  same_bodies : bodies v.held [] ≡ v.held
  same_bodies = bodies_untold v.held base.accepted.sound.differ

  tally_base : IsTally counted v.held []
  tally_base = record { messages = refl; body_bytes = ap bytes_of (sym same_bodies); signatures = refl }

  within_base : bytes_of v.held ≤ limits.body_bytes → IsWithin limits v.held []
  within_base small = record { messages = omega arith; body_bytes = subst (λ bs. bytes_of bs ≤ limits.body_bytes) (sym same_bodies) small; signatures = omega arith }

  pub base_core : IsCore mode limits (length texts) v counted
  base_core = record {
    sound = base.accepted.sound;
    idle = base.accepted.idle;
    left = left;
    based = (let long = base_length texts v base in omega (arith, long));
    in_order = sym same_bodies ∙ (λ i. bodies (same_base i) (same_told i));
    log_is = base.accepted.all ∙ sym (accepted_untold mode v.held) ∙ (λ i. accepted mode (same_base i) (same_told i));
    regular = subst (λ bs. IsRegular mode bs (told_of v)) same_base (subst (IsRegular mode v.held) same_told (regular_untold mode v.held));
    tallied = subst (λ bs. IsTally counted bs (told_of v)) same_base (subst (IsTally counted v.held) same_told tally_base);
    within = subst (λ bs. bytes_of bs ≤ limits.body_bytes → IsWithin limits bs (told_of v)) same_base
        (subst (λ told. bytes_of v.held ≤ limits.body_bytes → IsWithin limits v.held told) same_told within_base);
  }

pub refused_of : (texts : List (List ℕ)) (text : List ℕ) (rest all : List (List ℕ)) (v : View) (fault : ResumeFault) → IsBase texts v → texts ++ text ∷ rest ≡ all
    → IsRefused v.held text fault → AreRefused all fault
refused_of texts text rest all v (NotALog n) base parted refused = base_ends texts text rest all v n base parted refused.0 refused.1
refused_of texts text rest all v OutOfMemory base parted refused = tt

-- FITS: what is no receipt and isn't held fits where the state of its identifier takes it
pub fits_new : (held : List Body) (b : Body) → is_receipt b.event ≡ false → is_in held b ≡ false → fits held b ≡ takes (state held (prefix_of b.event)) b.event
unfolding fits
fits_new held b event outside = rw (event, outside) refl

-- and nothing else does
pub receipt_unfit : (held : List Body) (b : Body) → is_receipt b.event ≡ true → fits held b ≡ false
unfolding fits
receipt_unfit held b receipt = rw receipt refl

pub held_unfit : (held : List Body) (n : ℕ) (b : Body) → is_receipt b.event ≡ false → slice_get held n ≡ Some b → fits held b ≡ false
unfolding fits
held_unfit held n b event at = let inside = any_at (λ c. same_body c b) held n b at (same_body-refl b) in rw (event, inside) refl

-- where all bodies are accepted, the current state of an identifier is that of the bodies
pub state_held : (v : View) → AreAccepted v → (prefix : Prefix) (s : Option State) → s ≡ last_of prefix v.log.states → s ≡ state v.held prefix
state_held v all prefix s is = is ∙ all.sound.log.current prefix ∙ (let same = all.all in λ i. state (same i) prefix)

-- SETTLED: once the accepted events have left the escrow
pub released_base : (texts : List (List ℕ)) (v : View) (n : ℕ) → IsBase texts v → IsBase texts (record v { released = n })
released_base texts v n base =
    let s = base.accepted.sound in record {
      accepted = record {
        sound = record {
          spelled = s.spelled;
          differ = s.differ;
          entries_held = s.entries_held;
          accepted_held = s.accepted_held;
          grown = s.grown;
          log = s.log;
          claims = s.claims;
        };
        untold = base.accepted.untold;
        idle = base.accepted.idle;
        all = base.accepted.all;
      };
      log = base.log;
    }

-- BYTES: how many bytes some bodies have, by their texts
pub bytes_are : (held : List Body) → sum_by (λ (t : List ℕ). length t) (map (λ (b : Body). b.bytes) held) ≡ bytes_of held
bytes_are [] = refl
bytes_are (b ∷ held) = sum_by-cons (λ (t : List ℕ). length t) b.bytes (map (λ (c : Body). c.bytes) held)
    ∙ ap (λ n. length b.bytes + n) (bytes_are held) ∙ sym (sum_by-cons (λ (c : Body). length c.bytes) b held)

pub few_bytes : (held : List Body) → length held ≤ 1048576 → All (λ (b : Body). length b.bytes ≤ 65535) held → bytes_of held < 2 ^ 64
few_bytes held few short = let most = sum_by-le (λ (b : Body). length b.bytes) 65535 held short in omega (arith, most, few)
