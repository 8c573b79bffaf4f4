-- What a verdict does to a core, as its callers see it.
use Rattle.std.proofs.Common.{◌≡◌, ℕ, ◌<◌, Bool, true, false, not, ◌==◌, List, [], ◌∷◌, ◌++◌, length, Option, Some, None, is_none, refl, sym, ◌∙◌, ap, subst, arith, if◌then◌else◌}
use Rattle.std.specs.Prelude.{slice_get, sum_by}
use Rattle.std.proofs.lemmas.Bool.{and_parts}
use Rattle.validator_core.specs.Acceptance.Standing.{told_of}
use Rattle.claim_table.proofs.CoreLawsLemmas.Noted.{noted_is, raised_is}
use Rattle.claim_table.proofs.CoreLawsLemmas.Told.{verdict_there}
use Rattle.claim_table.specs.CoreLaws.ClaimRows.{triple_on}
use Rattle.claim_table.specs.declared.claim_table.signature.Signature.{Signature}
use Rattle.claim_table.specs.ClaimTable.Rows.{is_of, is_raised, verdict_of}
use Rattle.validator_core.specs.Tables.View.{View, log_of}
use Rattle.journal.specs.declared.journal.body.Body.{Body}
use Rattle.journal.specs.declared.journal.mode.Mode.{Mode}
use Rattle.journal.specs.declared.journal.question.Noted.TheVariants.{New, Known, Unasked}
use Rattle.journal.specs.declared.journal.question.Question.{Question}
use Rattle.journal.specs.Journal.History.{Told, has_verdict, heard}
use Rattle.journal.specs.Journal.Journals.{AnswersOn, chosen}
use Rattle.journal.specs.Journal.Logs.{stands}
use Rattle.journal.specs.Journal.Questions.{noted, state_before}
use Rattle.journal.proofs.JournalLemmas.Places.{found_at, some_at}
use Rattle.key_state.proofs.Same.{numbers}
use Rattle.keri_outside.specs.declared.limits.Limits.{Limits}
use Rattle.validator_core.specs.TableChanges.Entries.{signature_asked}
use Rattle.validator_core.specs.declared.validator_core.tally.Tally.{Tally}
use Rattle.validator_core.specs.ValidatorCore.Calls.{TakesVerdict}
use Rattle.validator_core.specs.ValidatorCore.Looks.{LooksByVerdict}
use Rattle.validator_core.specs.ValidatorCore.Tables.{AddsVerdict, IsCore, base_in}
use Rattle.validator_core.specs.ValidatorCore.View.{unheard_of, unheard_on}
use Rattle.validator_core.proofs.ValidatorCoreLemmas.CallLooks.{looks_verdict}
use Rattle.validator_core.proofs.ValidatorCoreLemmas.Cores.{base_verdict, core_verdict, seen, told_verdict}
use Rattle.validator_core.proofs.ValidatorCoreLemmas.Unheard.{fewer_unheard, raised_stands, stays}
use Rattle.validator_core.proofs.ValidatorCoreLemmas.Verdicts.{new_is_open}

-- what is found of a signature
pub found_none : (p : Bool) (w : Option Bool) → None ≡ (if p then Some w else None) → p ≡ false
found_none true w e = cc
found_none false w e = refl

pub found_some : (p : Bool) (w u : Option Bool) → Some u ≡ (if p then Some w else None) → (p ≡ true) × (w ≡ u)
found_some true w u e = (refl, cc)
found_some false w u e = cc

silent : (p : Bool) → true ≡ not p → p ≡ false
silent true e = cc
silent false e = refl

spoken : (p : Bool) → false ≡ not p → p ≡ true
spoken true e = refl
spoken false e = cc

module _ (mode : Mode) (limits : Limits) (base : ℕ) (old : View) (tally : Tally) (core : IsCore mode limits base old tally) (reader : ℕ) (q : Question) (verdict : Bool) where
  abbrev s : Signature
  s = signature_asked q

  abbrev bs : List Body
  bs = base_in base old

  abbrev told : List Told
  told = told_of old

  -- a signature that is raised is on a body that is held
  pub raised_held : is_raised old.claims.rows s ≡ true → q.body < length old.held
  raised_held up =
      let r = found_at (is_of s) old.claims.rows up in
      let body : r.1.claimed.body ≡ q.body = numbers r.1.claimed.body q.body (and_parts (r.1.claimed.body == q.body) _ r.3).0 in
      let low = core.sound.claims.below r.0 r.1 r.2 in
      omega (arith, body, low)

  module _ (b : Body) (at : slice_get old.held q.body ≡ Some b) where
    -- what becomes of a verdict, by the rows
    becomes : noted mode bs told (triple_on b q.key q.sig) ≡ (if is_raised old.claims.rows s then (if has_verdict told (triple_on b q.key q.sig) then Known else New) else Unasked)
    becomes = noted_is told (log_of old) old.held old.claims.rows core.sound.claims q.body b at q.key q.sig mode bs core.in_order core.log_is core.sound.differ

    there : is_none (verdict_of old.claims.rows s) ≡ not (has_verdict told (triple_on b q.key q.sig))
    there = ap is_none (core.sound.claims.verdicts q.body b q.key q.sig at) ∙ verdict_there told (triple_on b q.key q.sig)

    is_unasked : is_raised old.claims.rows s ≡ false → Unasked ≡ noted mode bs told (triple_on b q.key q.sig)
    is_unasked down = sym (becomes ∙ rw down refl)

    is_known : is_raised old.claims.rows s ≡ true → (w : Bool) → verdict_of old.claims.rows s ≡ Some w → Known ≡ noted mode bs told (triple_on b q.key q.sig)
    is_known up w said =
        let known : has_verdict told (triple_on b q.key q.sig) ≡ true = spoken _ (sym (ap is_none said) ∙ there) in
        sym (becomes ∙ rw (up, known) refl)

    is_new : is_raised old.claims.rows s ≡ true → verdict_of old.claims.rows s ≡ None → New ≡ noted mode bs told (triple_on b q.key q.sig)
    is_new up none =
        let new : has_verdict told (triple_on b q.key q.sig) ≡ false = silent _ (sym (ap is_none none) ∙ there) in
        sym (becomes ∙ rw (up, new) refl)

  -- UNASKED
  unasked_at : (o : Option Body) → slice_get old.held q.body ≡ o → is_raised old.claims.rows s ≡ false → AnswersOn mode bs told reader o q verdict Unasked told
  unasked_at None e down = (refl, refl)
  unasked_at (Some b) e down = (is_unasked b e down, refl)

  pub takes_unasked : is_raised old.claims.rows s ≡ false → TakesVerdict (seen mode limits base old) reader q verdict Unasked (seen mode limits base old)
  takes_unasked down = record { answers = unasked_at (slice_get old.held q.body) refl down; follows = record { mode = refl; limits = refl; base = refl; bodies = refl } }

  -- KNOWN
  pub takes_known : is_raised old.claims.rows s ≡ true → (w : Bool) → verdict_of old.claims.rows s ≡ Some w → TakesVerdict (seen mode limits base old) reader q verdict Known (seen mode limits base old)
  takes_known up w said =
      let b = some_at old.held q.body (raised_held up) in
      let at = b.1 in
      record { answers = rw at (is_known b.0 b.1 up w said, refl); follows = record { mode = refl; limits = refl; base = refl; bodies = refl } }

  -- NEW
  module _ (up : is_raised old.claims.rows s ≡ true) (none : verdict_of old.claims.rows s ≡ None) (new : View) (steps steps_then : ℕ) (adds : AddsVerdict mode s verdict reader old new steps steps_then) where
    b : (b : Body) × (slice_get old.held q.body ≡ Some b)
    b = some_at old.held q.body (raised_held up)

    pub core_answered : IsCore mode limits base new tally
    core_answered = core_verdict mode limits base old tally core new s verdict reader steps steps_then b.0 b.1 (new_is_open mode bs told (triple_on b.0 q.key q.sig) (sym (is_new b.0 b.1 up none))) adds

    pub takes_new : TakesVerdict (seen mode limits base old) reader q verdict New (seen mode limits base new)
    takes_new =
        let at = b.1 in
        record {
          answers = rw at (
            is_new b.0 b.1 up none,
            told_verdict mode limits base old tally core new s verdict reader steps steps_then b.0 b.1 (new_is_open mode bs told (triple_on b.0 q.key q.sig) (sym (is_new b.0 b.1 up none))) adds,
          );
          follows = record {
            mode = refl;
            limits = refl;
            base = refl;
            bodies = base_verdict mode limits base old tally core new s verdict reader steps steps_then b.0 b.1 (new_is_open mode bs told (triple_on b.0 q.key q.sig) (sym (is_new b.0 b.1 up none))) adds;
          };
        }

    -- and of how many events that looks
    pub few_new : LooksByVerdict (seen mode limits base old) q New (seen mode limits base new) steps steps_then
    few_new c at = looks_verdict mode limits base old tally core new core_answered s verdict reader steps steps_then c at (new_is_open mode bs told (triple_on c q.key q.sig) (sym (is_new c at up none))) adds

    -- and fewer claims have no verdict
    unheard_new : unheard_of (seen mode limits base new) ≡ sum_by (unheard_on (told ++ heard reader b.0 q.key q.sig verdict ∷ []) (log_of adds.before)) old.held
    unheard_new =
        let told_is = told_verdict mode limits base old tally core new s verdict reader steps steps_then b.0 b.1 (new_is_open mode bs told (triple_on b.0 q.key q.sig) (sym (is_new b.0 b.1 up none))) adds in
        let log_is = sym core_answered.log_is ∙ ap (λ v. log_of v) adds.new_is in
        let held_is = ap (λ (v : View). v.held) adds.new_is ∙ adds.accepts.ready.keeps.held ∙ ap (λ (v : View). v.held) adds.hears.is in
        λ i. sum_by (unheard_on (told_is i) (log_is i)) (held_is i)

    unheard_old : unheard_of (seen mode limits base old) ≡ sum_by (unheard_on told (log_of old)) old.held
    unheard_old = let log_is = sym core.log_is in λ i. sum_by (unheard_on told (log_is i)) old.held

    same_log : log_of adds.between ≡ log_of old
    same_log = let h = ap (λ (v : View). v.held) adds.hears.is in let l = ap (λ (v : View). v.log) adds.hears.is in λ i. chosen (h i) (l i).numbers

    pub fewer : unheard_of (seen mode limits base new) < unheard_of (seen mode limits base old)
    fewer =
        let raised = raised_is told (log_of old) old.held old.claims.rows core.sound.claims q.body b.0 b.1 q.key q.sig ∙ up in
        let silence = silent (has_verdict told (triple_on b.0 q.key q.sig)) (sym (ap is_none none) ∙ there b.0 b.1) in
        let stay = subst (λ l. (c : Body) → stands l c ≡ true → state_before (log_of adds.before) c ≡ state_before l c) same_log
        (λ c on. stays mode (told_of adds.between) adds.between.held adds.accepts.due (log_of adds.between) (log_of adds.before) adds.accepts.ready.run c on) in
        let less = fewer_unheard told reader b.0 q.key q.sig verdict (log_of old) (log_of adds.before) stay (raised_stands told (log_of old) b.0 (triple_on b.0 q.key q.sig) raised) raised silence old.held q.body b.1 in
        omega (arith, unheard_new, unheard_old, less)
