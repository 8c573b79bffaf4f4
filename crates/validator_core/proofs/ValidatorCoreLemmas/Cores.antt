-- The tables of a core are right at the start and after each entry, and what callers know of them.
use Rattle.std.proofs.Common.{◌≡◌, ℕ, ◌+◌, ◌<◌, ◌≤◌, Bool, true, false, suc, List, [], ◌∷◌, ◌++◌, length, Option, Some, None, refl, sym, ◌∙◌, ap, subst, arith, append-nil, length-append}
use Rattle.std.specs.Prelude.{slice_get, take}
use Rattle.std.proofs.lemmas.List.Sums.{sum_by-append}
use Rattle.validator_core.specs.Acceptance.ReadyRuns.{KeepsTold}
use Rattle.validator_core.specs.Acceptance.Standing.{IsHeld, AreSoundTables, told_of}
use Rattle.validator_core.proofs.AcceptanceLemmas.Nothing.{nothing_stands}
use Rattle.claim_table.proofs.CoreLawsLemmas.Entries.{all_from, none_ready}
use Rattle.claim_table.specs.CoreLaws.ClaimRows.{triple_on}
use Rattle.claim_table.specs.declared.claim_table.signature.Signature.{Signature}
use Rattle.validator_core.specs.Tables.View.{View, log_of, number_of, with_claims, nothing}
use Rattle.journal.specs.declared.journal.body.Body.{Body}
use Rattle.journal.specs.declared.journal.claim.Claim.{Claim}
use Rattle.journal.specs.declared.journal.entry.Entry.{Entry}
use Rattle.journal.specs.declared.journal.entry.Entry.TheVariants.{Took, Heard}
use Rattle.journal.specs.declared.journal.mode.Mode.{Mode}
use Rattle.journal.specs.Journal.Acceptance.{grown_by}
use Rattle.journal.specs.Journal.Accepted.{accepted}
use Rattle.journal.specs.Journal.History.{Told, took, heard, bodies, same_triple}
use Rattle.journal.specs.Journal.Journals.{chosen, told_by, whole}
use Rattle.journal.specs.Journal.Logs.{is_in, same_body}
use Rattle.journal.specs.Journal.Questions.{IsRegular, questions}
use Rattle.journal.specs.Journal.Readiness.{is_ready}
use Rattle.journal.specs.Journal.Replies.{IsWithin}
use Rattle.journal.proofs.JournalLemmas.Accepting.{same_body-refl}
use Rattle.journal.proofs.JournalLemmas.Held.{told_push}
use Rattle.journal.proofs.JournalLemmas.Places.{any_at, slice_get_last, some_at}
use Rattle.journal.proofs.JournalLemmas.Premises.{regular_nothing}
use Rattle.key_state.specs.Same.{distinct}
use Rattle.keri_outside.specs.declared.limits.Limits.{Limits}
use Rattle.std.specs.List.{list_any}
use Rattle.validator_core.specs.declared.validator_core.tally.Tally.{Tally}
use Rattle.validator_core.specs.ValidatorCore.Tables.{AddsEntry, AddsVerdict, IsCore, base_in}
use Rattle.validator_core.specs.ValidatorCore.Tally.{IsTally, tally_with}
use Rattle.validator_core.specs.ValidatorCore.View.{CoreView, IsSoundCore, bytes_of}
use Rattle.validator_core.proofs.ValidatorCoreLemmas.Bodies.{bodies_heard, bodies_new, bodies_old}
use Rattle.validator_core.proofs.ValidatorCoreLemmas.Counts.{HasRoom, tally_heard, tally_took, within_heard, within_took}
use Rattle.validator_core.proofs.ValidatorCoreLemmas.Entries.{accepted_heard, accepted_took, base_then, log_then, told_then}
use Rattle.validator_core.proofs.ValidatorCoreLemmas.Verdicts.{regular_heard, regular_took}

-- each entry's body is held
told_count : (held : List Body) (entries : List Entry) → ((i : ℕ) (e : Entry) → slice_get entries i ≡ Some e → number_of e < length held) → length (told_by held entries) ≡ length entries
unfolding told_by
told_count held [] below = refl
told_count held (e ∷ entries) below =
    let more = told_count held entries (λ i f at. below (suc i) f at) in
    let here = there e (below 0 e refl) in
    let is = here.1 in rw is (ap (λ k. suc k) more)
  where
    there : (e : Entry) → number_of e < length held → (t : Told) × (whole held e ≡ Some t)
    there (Took reader n claims) below = let s = some_at held n below in let at = s.1 in (took reader s.0 claims, rw at refl)
    there (Heard reader n key sig verdict) below = let s = some_at held n below in let at = s.1 in (heard reader s.0 key sig verdict, rw at refl)

module _ (mode : Mode) (limits : Limits) (base : ℕ) where
  -- what callers see
  abbrev pub seen : View → CoreView
  seen v = record { mode = mode; limits = limits; base = base; held = v.held; entries = v.entries; accepted = v.log.numbers }

  -- STANDS: what is true of the tables is what callers know
  pub stands_seen : (v : View) (tally : Tally) → IsCore mode limits base v tally → IsSoundCore (seen v)
  stands_seen v tally core =
      let order = core.in_order in
      record {
        spelled = all_from IsHeld v.held core.sound.spelled;
        in_order = core.in_order;
        all_held = told_count v.held v.entries core.sound.entries_held;
        regular = core.regular;
        within = core.within;
        settled = all_from (λ b. is_ready mode (told_of v) (accepted mode (base_in base v) (told_of v)) b ≡ false) v.held
            (λ n b at. none_ready mode (base_in base v) (told_of v) n b (ap (λ bs. slice_get bs n) (sym order) ∙ at));
      }

  -- what is true of tables is true of those with the same lists
  same_stands : (v : View) (pending : Option Signature) (released : ℕ) → AreSoundTables v → AreSoundTables (record v { claims = record { rows = v.claims.rows; pending = pending }; released = released })
  same_stands v pending released is = record {
    spelled = is.spelled;
    differ = is.differ;
    entries_held = is.entries_held;
    accepted_held = is.accepted_held;
    grown = is.grown;
    log = is.log;
    claims = is.claims;
  }

  -- CORE: tables that tell this, and accept what is accepted of it, once the accepted events have left
  module _ (v : View) (tally : Tally) (bs : List Body) (ts : List Told) (stands : AreSoundTables v) (based : base ≤ length v.held) (base_is : take base v.held ≡ bs) (told_is : told_of v ≡ ts)
      (order : v.held ≡ bodies bs ts) (log : log_of v ≡ accepted mode bs ts) (regular : IsRegular mode bs ts) (tallied : IsTally tally bs ts)
      (within : bytes_of bs ≤ limits.body_bytes → IsWithin limits bs ts) where
    pub core_of_parts : IsCore mode limits base (with_claims (record { rows = v.claims.rows; pending = None }) (record v { released = length v.log.numbers })) tally
    core_of_parts =
        let b = sym base_is in
        let t = sym told_is in
        record {
          sound = same_stands v None (length v.log.numbers) stands;
          idle = refl;
          left = refl;
          based = based;
          in_order = order ∙ (λ i. bodies (b i) (t i));
          log_is = log ∙ (λ i. accepted mode (b i) (t i));
          regular = subst (λ x. IsRegular mode x (told_of v)) b (subst (IsRegular mode bs) t regular);
          tallied = subst (λ x. IsTally tally x (told_of v)) b (subst (IsTally tally bs) t tallied);
          within = subst (λ x. bytes_of x ≤ limits.body_bytes → IsWithin limits x (told_of v)) b (subst (λ y. bytes_of bs ≤ limits.body_bytes → IsWithin limits bs y) t within);
        }

  module _ (old : View) (tally : Tally) (core : IsCore mode limits base old tally) where
    abbrev bs : List Body
    bs = base_in base old

    abbrev told : List Told
    told = told_of old

    -- NOTHING PENDING: where none was, the tables are those whose verdict is closed
    closed : (v : View) → v.claims.pending ≡ None → with_claims (record { rows = v.claims.rows; pending = None }) (record v { released = length v.log.numbers }) ≡ record v { released = length v.log.numbers }
    closed v none = let p = sym none in λ i. with_claims (record { rows = v.claims.rows; pending = p i }) (record v { released = length v.log.numbers })

    -- AGAIN: claims came with a body that is held
    module _ (new : View) (number reader steps steps_then : ℕ) (claims : List Claim) (b : Body) (at : slice_get old.held number ≡ Some b) (room : HasRoom limits tally (length claims))
        (adds : AddsEntry mode number [] (Took reader number claims) old new steps steps_then) where
      abbrev told_b : Told
      told_b = took reader b claims

      is_whole : whole (old.held ++ []) (Took reader number claims) ≡ Some told_b
      is_whole = let same = append-nil old.held in rw (same, at) refl

      mid_told : told_of adds.brings.between ≡ told ++ told_b ∷ []
      mid_told = told_then old adds.brings.between core.sound [] (Took reader number claims) adds.brings.comes told_b is_whole

      mid_held : adds.brings.between.held ≡ old.held
      mid_held = adds.brings.comes.held ∙ append-nil old.held

      keeps : KeepsTold adds.brings.between adds.before
      keeps = adds.brings.accepts.ready.keeps

      told_before : told_of adds.before ≡ told ++ told_b ∷ []
      told_before = let h = keeps.held in let e = keeps.entries in (λ i. told_by (h i) (e i)) ∙ mid_told

      inside : is_in (bodies bs told) b ≡ true
      inside = let order = core.in_order in ap (λ hs. is_in hs b) (sym order) ∙ any_at (λ c. same_body c b) old.held number b at (same_body-refl b)

      order_then : bodies bs (told ++ told_b ∷ []) ≡ bodies bs told
      order_then = bodies_old bs told reader b claims inside

      sum_same : bytes_of (bodies bs (told ++ told_b ∷ [])) ≡ bytes_of (bodies bs told) + 0
      sum_same = ap bytes_of order_then ∙ omega arith

      core_before : IsCore mode limits base (with_claims (record { rows = adds.before.claims.rows; pending = None }) (record adds.before { released = length adds.before.log.numbers })) (tally_with tally 0 (length claims))
      core_before = core_of_parts adds.before (tally_with tally 0 (length claims)) bs (told ++ told_b ∷ []) adds.brings.accepts.ready.sound
          (subst (λ h. base ≤ length h) (sym (keeps.held ∙ mid_held)) core.based)
          (ap (take base) (keeps.held ∙ mid_held)) told_before
          (keeps.held ∙ mid_held ∙ core.in_order ∙ sym order_then)
          (accepted_took mode bs told adds.brings.between adds.before number steps steps_then adds.brings.accepts reader b claims (ap (λ h. slice_get h number) mid_held ∙ at) mid_told
          (mid_held ∙ core.in_order ∙ sym order_then) (log_then old adds.brings.between core.sound [] (Took reader number claims) adds.brings.comes told_b is_whole ∙ core.log_is))
          (regular_took mode bs told core.regular reader b claims)
          (tally_took bs told tally core.tallied reader b claims 0 sum_same)
          (λ small. within_took bs told tally core.tallied reader b claims limits room (let w = core.within small in omega (arith, sum_same, w.body_bytes)))

      none_pending : adds.before.claims.pending ≡ None
      none_pending = keeps.pending ∙ adds.brings.comes.pending ∙ core.idle

      pub core_again : IsCore mode limits base new (tally_with tally 0 (length claims))
      core_again = subst (λ v. IsCore mode limits base v (tally_with tally 0 (length claims))) (closed adds.before none_pending ∙ sym adds.new_is) core_before

      pub told_again : told_of new ≡ told ++ told_b ∷ []
      told_again = ap (λ v. told_of v) adds.new_is ∙ told_before

      pub base_again : take base new.held ≡ take base old.held
      base_again = ap (λ (v : View). take base v.held) adds.new_is ∙ ap (take base) (keeps.held ∙ mid_held)

    -- NEW: a body came first
    module _ (new : View) (reader steps steps_then : ℕ) (claims : List Claim) (b : Body) (outside : is_in old.held b ≡ false) (room : HasRoom limits tally (length claims))
        (small : tally.body_bytes + length b.bytes ≤ limits.body_bytes)
        (adds : AddsEntry mode (length old.held) (b ∷ []) (Took reader (length old.held) claims) old new steps steps_then) where
      abbrev told_new : Told
      told_new = took reader b claims

      whole_new : whole (old.held ++ b ∷ []) (Took reader (length old.held) claims) ≡ Some told_new
      whole_new = let at = slice_get_last old.held b in rw at refl

      new_mid_told : told_of adds.brings.between ≡ told ++ told_new ∷ []
      new_mid_told = told_then old adds.brings.between core.sound (b ∷ []) (Took reader (length old.held) claims) adds.brings.comes told_new whole_new

      new_keeps : KeepsTold adds.brings.between adds.before
      new_keeps = adds.brings.accepts.ready.keeps

      held_before : adds.before.held ≡ old.held ++ b ∷ []
      held_before = new_keeps.held ∙ adds.brings.comes.held

      new_told_before : told_of adds.before ≡ told ++ told_new ∷ []
      new_told_before = let h = new_keeps.held in let e = new_keeps.entries in (λ i. told_by (h i) (e i)) ∙ new_mid_told

      new_order : bodies bs (told ++ told_new ∷ []) ≡ old.held ++ b ∷ []
      new_order = let order = core.in_order in bodies_new bs told reader b claims (ap (λ hs. is_in hs b) (sym order) ∙ outside) ∙ ap (λ hs. hs ++ b ∷ []) (sym order)

      new_sum : bytes_of (bodies bs (told ++ told_new ∷ [])) ≡ bytes_of (bodies bs told) + length b.bytes
      new_sum = ap bytes_of new_order ∙ sum_by-append (λ c. length c.bytes) old.held (b ∷ []) ∙ omega (arith, ap bytes_of core.in_order)

      new_base : take base adds.before.held ≡ bs
      new_base = ap (take base) new_keeps.held ∙ base_then old adds.brings.between core.sound (b ∷ []) (Took reader (length old.held) claims) adds.brings.comes told_new whole_new base core.based

      new_core_before : IsCore mode limits base (with_claims (record { rows = adds.before.claims.rows; pending = None }) (record adds.before { released = length adds.before.log.numbers })) (tally_with tally (length b.bytes) (length claims))
      new_core_before = core_of_parts adds.before (tally_with tally (length b.bytes) (length claims)) bs (told ++ told_new ∷ []) adds.brings.accepts.ready.sound
          (omega (arith, ap length held_before, length-append old.held (b ∷ []), core.based))
          new_base new_told_before (held_before ∙ sym new_order)
          (accepted_took mode bs told adds.brings.between adds.before (length old.held) steps steps_then adds.brings.accepts reader b claims
          (ap (λ h. slice_get h (length old.held)) adds.brings.comes.held ∙ slice_get_last old.held b) new_mid_told (adds.brings.comes.held ∙ sym new_order)
          (log_then old adds.brings.between core.sound (b ∷ []) (Took reader (length old.held) claims) adds.brings.comes told_new whole_new ∙ core.log_is))
          (regular_took mode bs told core.regular reader b claims)
          (tally_took bs told tally core.tallied reader b claims (length b.bytes) new_sum)
          (λ fits. within_took bs told tally core.tallied reader b claims limits room (omega (arith, new_sum, small, core.tallied.body_bytes)))

      new_none_pending : adds.before.claims.pending ≡ None
      new_none_pending = new_keeps.pending ∙ adds.brings.comes.pending ∙ core.idle

      pub core_new : IsCore mode limits base new (tally_with tally (length b.bytes) (length claims))
      core_new = subst (λ v. IsCore mode limits base v (tally_with tally (length b.bytes) (length claims))) (closed adds.before new_none_pending ∙ sym adds.new_is) new_core_before

      pub told_then_new : told_of new ≡ told ++ told_new ∷ []
      told_then_new = ap (λ v. told_of v) adds.new_is ∙ new_told_before

      pub base_new : take base new.held ≡ take base old.held
      base_new = ap (λ (v : View). take base v.held) adds.new_is ∙ new_base

    -- VERDICT: one was heard on an open question
    module _ (new : View) (s : Signature) (verdict : Bool) (reader steps steps_then : ℕ) (b : Body) (at : slice_get old.held s.body ≡ Some b)
        (is_open : list_any (same_triple (triple_on b s.key s.sig)) (questions mode bs told) ≡ true) (adds : AddsVerdict mode s verdict reader old new steps steps_then) where
      abbrev told_v : Told
      told_v = heard reader b s.key s.sig verdict

      pub v_held : adds.between.held ≡ old.held
      v_held = ap (λ (v : View). v.held) adds.hears.is

      v_entries : adds.between.entries ≡ old.entries ++ Heard reader s.body s.key s.sig verdict ∷ []
      v_entries = ap (λ (v : View). v.entries) adds.hears.is

      v_log : adds.between.log ≡ old.log
      v_log = ap (λ (v : View). v.log) adds.hears.is

      pub v_told : told_of adds.between ≡ told ++ told_v ∷ []
      v_told = let h = v_held in let e = v_entries in
          (λ i. told_by (h i) (e i)) ∙ told_push old.held old.entries (Heard reader s.body s.key s.sig verdict) told_v (rw at refl)

      pub v_log_of : log_of adds.between ≡ log_of old
      v_log_of = let h = v_held in let l = v_log in λ i. chosen (h i) (l i).numbers

      pub v_keeps : KeepsTold adds.between adds.before
      v_keeps = adds.accepts.ready.keeps

      v_told_before : told_of adds.before ≡ told ++ told_v ∷ []
      v_told_before = let h = v_keeps.held in let e = v_keeps.entries in (λ i. told_by (h i) (e i)) ∙ v_told

      v_order : bodies bs (told ++ told_v ∷ []) ≡ bodies bs told
      v_order = bodies_heard bs told reader b s.key s.sig verdict

      v_core : IsCore mode limits base (with_claims (record { rows = adds.before.claims.rows; pending = None }) (record adds.before { released = length adds.before.log.numbers })) tally
      v_core = core_of_parts adds.before tally bs (told ++ told_v ∷ []) adds.accepts.ready.sound
          (subst (λ h. base ≤ length h) (sym (v_keeps.held ∙ v_held)) core.based)
          (ap (take base) (v_keeps.held ∙ v_held)) v_told_before
          (v_keeps.held ∙ v_held ∙ core.in_order ∙ sym v_order)
          (accepted_heard mode bs told adds.between adds.before s.body steps steps_then adds.accepts reader b s.key s.sig verdict (ap (λ h. slice_get h s.body) v_held ∙ at) v_told
          (v_held ∙ core.in_order ∙ sym v_order) (v_log_of ∙ core.log_is))
          (regular_heard mode bs told core.regular reader b s.key s.sig verdict is_open)
          (tally_heard bs told tally core.tallied reader b s.key s.sig verdict (ap bytes_of v_order))
          (λ small. within_heard bs told tally core.tallied reader b s.key s.sig verdict limits (ap bytes_of v_order) (core.within small))

      pub core_verdict : IsCore mode limits base new tally
      core_verdict = subst (λ v. IsCore mode limits base v tally) (sym adds.new_is) v_core

      pub told_verdict : told_of new ≡ told ++ told_v ∷ []
      told_verdict = ap (λ v. told_of v) adds.new_is ∙ v_told_before

      pub base_verdict : take base new.held ≡ take base old.held
      base_verdict = ap (λ (v : View). take base v.held) adds.new_is ∙ ap (take base) (v_keeps.held ∙ v_held)

-- NOTHING: a core that was told nothing
pub nothing_core : (mode : Mode) (limits : Limits) → IsCore mode limits 0 nothing (record { messages = 0; body_bytes = 0; signatures = 0 })
unfolding bodies distinct told_by chosen accepted grown_by
nothing_core mode limits = record {
  sound = nothing_stands;
  idle = refl;
  left = refl;
  based = omega arith;
  in_order = refl;
  log_is = refl;
  regular = regular_nothing mode;
  tallied = record { messages = refl; body_bytes = refl; signatures = refl };
  within = λ small. record { messages = omega arith; body_bytes = omega arith; signatures = omega arith };
}
