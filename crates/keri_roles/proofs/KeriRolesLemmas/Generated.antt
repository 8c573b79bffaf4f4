-- A stream that is made is read by a verifier that never fails, and all its numbers are those of the journal.
use Rattle.std.proofs.Common.{◌≡◌, ◌≢◌, ℕ, ◌<◌, inl, inr, Bool, List, [], ◌∷◌, length, Option, Some, None, suc, refl, sym, ◌∙◌, ap, subst, arith}
use Rattle.std.specs.Prelude.{All, IfSome, Vec, option_map, slice_get}
use Rattle.std.proofs.lemmas.List.Elements.{All-head, All-nil, All-push, All-tail}
use Rattle.cesr_codes.specs.declared.key.Key.{Key}
use Rattle.cesr_codes.specs.declared.sig.Sig.{Sig}
use Rattle.keri_outside.specs.declared.limits.Limits.{Limits}
use Rattle.journal.specs.declared.journal.body.Body.{Body}
use Rattle.journal.specs.declared.journal.mode.Mode.{Mode}
use Rattle.journal.specs.declared.journal.mode.Mode.TheVariants.{Full as FullMode}
use Rattle.journal.specs.Journal.Accepted.{accepted}
use Rattle.journal.specs.Journal.Feeds.{Fed, FeedEach}
use Rattle.journal.specs.Journal.History.{Told as ToldEntry}
use Rattle.journal.specs.Journal.Journals.{chosen}
use Rattle.journal.proofs.JournalLemmas.Places.{some_at}
use Rattle.validator_core.specs.ValidatorCore.View.{CoreView, accepted_by, told_of}
use Rattle.validator_core.proofs.ValidatorCoreLemmas.OpenQuestions.{no_bodies}
use Rattle.run_status.specs.declared.run_status.close.Close.{Close}
use Rattle.run_status.specs.declared.run_status.close.Close.TheVariants.{End, Bad, ReadFault, VerifierFault, SignerFault, DiskFault, WriteFault, Malformed, LimitReached, OutOfMemory}
use Rattle.run_status.specs.RunStatus.Readers.{Reader, VerifierShown}
use Rattle.reader_hub.specs.ReaderThreads.Fed.{AllRead, ReadEach, ends_of, most_turns}
use Rattle.reader_hub.specs.ReaderThreads.Given.{Given}
use Rattle.reader_hub.specs.ReaderThreads.Told.{AllTold, SomeFailed}
use Rattle.reader_hub.specs.declared.reader_threads.last_round.LastRound.{LastRound}
use Rattle.reader_hub.specs.declared.reader_threads.last_round.LastRound.TheVariants.{VerifierFailed}
use Rattle.report_lines.specs.Lines.{stream_text}
use Rattle.keri_roles.specs.CoreRoles.CoreTold.{HadMemory}
use Rattle.keri_roles.specs.KeriRoles.Generated.{counts_of, made_of}
use Rattle.keri_roles.specs.KeriRoles.Planned.{HasCounts, made_close}
use Rattle.keri_roles.specs.declared.keri_roles.generate.StreamPlan.{StreamPlan}

-- the reader closes so
abbrev pub closing : Reader → Close → Reader
closing reader close = record reader { close = close }

-- a verifier that never fails
abbrev pub tells_all : {A : Type 0} → (Key → List ℕ → Sig → Option Bool) → A → VerifierShown
tells_all says x = record { says = says; inquiries = None; faults = 0 }

pub none_counted : {A : Type 0} (says : Key → List ℕ → Sig → Option Bool) (o : Option A) → IfSome (option_map (tells_all says) o) (λ v. v.faults ≡ 0)
none_counted says None = tt
none_counted says (Some x) = refl

module _ (seed logs events : ℕ) (limits : Limits) (rest : LastRound) (reader : Reader) where
  abbrev given_it : List Given
  given_it = made_of seed logs events ∷ []

  module _ (none : IfSome reader.verifier (λ v. v.faults ≡ 0)) where
    -- it doesn't close by its verifier's fault
    never_fails : (told : List ToldEntry) (most : ℕ) (read : List (List ℕ)) (feeds : FeedEach limits told 0 (ends_of read (reader ∷ [])))
        → ReadEach limits told most rest 0 read given_it (reader ∷ []) feeds → reader.close ≢ VerifierFault
    never_fails told most [] feeds each e = each
    never_fails told most (bytes ∷ read) feeds each e =
        let r = each.0 in
        let some : reader.close ≢ OutOfMemory = λ m. let clash : VerifierFault ≡ OutOfMemory = sym e ∙ m in cc in
        let closes = rw e at (r.closes some).closes in
        let zero = rw r.verifier_is at none in
        omega (arith, closes.1, zero)

    none_fails_last : (left : Option VerifierShown) → IfSome left (λ v. v.faults ≡ 0) → SomeFailed given_it (record reader { verifier = left } ∷ []) → ⊥
    none_fails_last None zero failed = elim failed [ inl f ↦ f | inr f ↦ f ]
    none_fails_last (Some v) zero failed = elim failed [ inl f ↦ omega (arith, f, zero) | inr f ↦ f ]

    pub never : (core : CoreView) → AllTold FullMode limits given_it (reader ∷ []) rest core → (reader.close ≢ VerifierFault) × (rest ≢ VerifierFailed)
    never core t = (
      never_fails (told_of core) _ t.read.read t.read.fed.each t.read.each,
      λ e. none_fails_last reader.verifier none (t.failed e),
    )

  -- where the stream failed, there was no memory for it
  module _ (told : List ToldEntry) (fault : reader.close ≡ ReadFault) where
    read_out : (read : List (List ℕ)) (fed : Fed limits (ends_of read (reader ∷ [])) told)
        → ReadEach limits told (most_turns told (reader ∷ [])) rest 0 read given_it (reader ∷ []) fed.each
        → AllRead limits told given_it (closing reader OutOfMemory ∷ []) rest
    read_out [] fed each = absurd each
    read_out (bytes ∷ read) fed each =
        let r = each.0 in
        let f = fed.each.0.0 in
        record {
          read = bytes ∷ read;
          fed = record {
            each = (
              (
                record { offered = f.offered; first = f.first; bodies_are = f.bodies_are; taken = f.taken; refused = f.refused; all = λ e. cc },
                fed.each.0.1,
              ),
              fed.each.1,
            );
            only = fed.only;
          };
          each = (
            record {
              source_left = r.source_left;
              verifier_left = r.verifier_left;
              source_is = r.source_is;
              verifier_is = r.verifier_is;
              same_says = r.same_says;
              more = r.more;
              gave = r.gave;
              closes = λ some. absurd (some refl);
              none_failed = λ never all. r.none_failed (λ e. let clash : ReadFault ≡ VerifierFault = sym fault ∙ e in cc) all;
              inquired = r.inquired;
              but_one = r.but_one;
              none_seen = r.none_seen;
            },
            each.1,
          );
        }

  module _ (core : CoreView) (t : AllTold FullMode limits given_it (reader ∷ []) rest core) where
    abbrev ClosedSo : Close → Type 0
    ClosedSo close = AllTold FullMode limits given_it (closing reader close ∷ []) rest core

    tells_so : (close : Close) → reader.close ≡ close → ClosedSo close
    tells_so close e = subst ClosedSo e t

    tells_out : reader.close ≡ ReadFault → ClosedSo OutOfMemory
    tells_out e = record {
      read = read_out (told_of core) e t.read.read t.read.fed t.read.each;
      asked = t.asked;
      failed = t.failed;
      only = t.only;
      alone = t.alone;
      mode_is = t.mode_is;
      limits_are = t.limits_are;
      no_base = t.no_base;
      sound = t.sound;
    }

    tells_made : (close : Close) → reader.close ≡ close → ClosedSo (made_close close)
    tells_made ReadFault e = tells_out e
    tells_made End e = tells_so End e
    tells_made (Bad bad) e = tells_so (Bad bad) e
    tells_made VerifierFault e = tells_so VerifierFault e
    tells_made SignerFault e = tells_so SignerFault e
    tells_made DiskFault e = tells_so DiskFault e
    tells_made WriteFault e = tells_so WriteFault e
    tells_made (Malformed place) e = tells_so (Malformed place) e
    tells_made LimitReached e = tells_so LimitReached e
    tells_made OutOfMemory e = tells_so OutOfMemory e

    pub tells_closed : ClosedSo (made_close reader.close)
    tells_closed = tells_made reader.close refl

pub made_not_read : (close : Close) → made_close close ≢ ReadFault
made_not_read ReadFault e = cc
made_not_read End e = cc
made_not_read (Bad bad) e = cc
made_not_read VerifierFault e = cc
made_not_read SignerFault e = cc
made_not_read DiskFault e = cc
made_not_read WriteFault e = cc
made_not_read (Malformed place) e = cc
made_not_read LimitReached e = cc
made_not_read OutOfMemory e = cc

pub made_not_asked : (close : Close) → close ≢ VerifierFault → made_close close ≢ VerifierFault
made_not_asked VerifierFault never e = never refl
made_not_asked ReadFault never e = cc
made_not_asked End never e = cc
made_not_asked (Bad bad) never e = cc
made_not_asked SignerFault never e = cc
made_not_asked DiskFault never e = cc
made_not_asked WriteFault never e = cc
made_not_asked (Malformed place) never e = cc
made_not_asked LimitReached never e = cc
made_not_asked OutOfMemory never e = cc

-- it found no memory only where the stream failed or there was none
pub made_not_out : (close : Close) → close ≢ OutOfMemory → close ≢ ReadFault → made_close close ≢ OutOfMemory
made_not_out OutOfMemory out read e = out refl
made_not_out ReadFault out read e = read refl
made_not_out End out read e = cc
made_not_out (Bad bad) out read e = cc
made_not_out VerifierFault out read e = cc
made_not_out SignerFault out read e = cc
made_not_out DiskFault out read e = cc
made_not_out WriteFault out read e = cc
made_not_out (Malformed place) out read e = cc
made_not_out LimitReached out read e = cc

-- the line is owed, where there was memory
pub owes_line : {Z : Type 0} (plan : StreamPlan) (bodies : List Body) (reader : Reader) (rest : LastRound) (line : Option (Vec ℕ Z)) → IfSome line (HasCounts plan bodies reader.close rest)
    → IfSome (option_map (λ l. l.items) line) (λ text. HadMemory rest (closing reader (made_close reader.close) ∷ [])
    × (text ≡ stream_text (counts_of plan.seed plan.logs plan.events bodies)))
owes_line plan bodies reader rest None h = tt
owes_line plan bodies reader rest (Some line) h = (
  (h.had_memory.2, All-push (λ r. r.close ≢ OutOfMemory) [] (closing reader (made_close reader.close)) (All-nil _) (made_not_out reader.close h.had_memory.0 h.had_memory.1)),
  h.line_is,
)

-- what a core accepted that began with nothing
pub accepted_of : (core : CoreView) (mode : Mode) → core.base ≡ 0 → core.mode ≡ mode → accepted_by core ≡ accepted mode [] (told_of core)
accepted_of core mode b m = ap (λ bodies. accepted core.mode bodies (told_of core)) (no_bodies core b) ∙ ap (λ x. accepted x [] (told_of core)) m

-- as many bodies as numbers
pub chosen_count : (held : List Body) (numbers : List ℕ) → All (λ n. n < length held) numbers → length (chosen held numbers) ≡ length numbers
unfolding chosen
chosen_count held [] below = refl
chosen_count held (n ∷ numbers) below =
    let s = some_at held n (All-head (λ n. n < length held) n numbers below) in
    let here : slice_get held n ≡ Some s.0 = s.1 in
    let rest = chosen_count held numbers (All-tail (λ n. n < length held) n numbers below) in
    rw here (ap suc rest)
