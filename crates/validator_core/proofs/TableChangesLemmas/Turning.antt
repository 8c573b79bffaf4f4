-- The claims on the events behind a newly accepted one, raised one event after the other.
use Rattle.std.proofs.Common.{◌≡◌, ℕ, ◌+◌, true, false, List, [], ◌∷◌, ◌++◌, length, Option, Some, None, refl, sym, ◌∙◌, ap, subst, inl, inr, arith, length-append, if◌then◌else◌}
use Rattle.std.specs.Prelude.{◌==◌, find, position, slice_get, IsTrue}
use Rattle.std.specs.List.{list_any}
use Rattle.std.proofs.lemmas.Bool.{cases_Bool}
use Rattle.journal.specs.declared.journal.body.Body.{Body}
use Rattle.journal.specs.Journal.Grown.{fits}
use Rattle.journal.specs.Journal.History.{Told, claims_on}
use Rattle.journal.specs.Journal.Logs.{precedes, predecessor, stands}
use Rattle.journal.specs.Journal.Questions.{state_before}
use Rattle.journal.specs.EventRules.Parts.{Row as Found}
use Rattle.claim_table.specs.ClaimTable.Rows.{raised_all}
use Rattle.claim_table.specs.CoreLaws.ClaimRows.{AreFound, HasClaims, found_on, verdict_in}
use Rattle.validator_core.specs.Tables.View.{View, log_of, with_log, with_rows}
use Rattle.validator_core.specs.Acceptance.Standing.{Accepts, AreSoundTables, told_of}
use Rattle.validator_core.specs.Acceptance.Turned.{turned}
use Rattle.validator_core.proofs.AcceptanceLemmas.Behind.{stands_not}
use Rattle.validator_core.proofs.AcceptanceLemmas.NewBody.{low_at}
use Rattle.validator_core.proofs.AcceptanceLemmas.NewEvent.{log_then, precedes_some, standing_accepted, turning_begins, turning_stays}
use Rattle.validator_core.specs.Acceptance.Taken.{found_by}
use Rattle.validator_core.proofs.AcceptanceLemmas.Turned.{turned_raised, turned_same}
use Rattle.validator_core.specs.TableChanges.Turning.{IsAppended, IsBehindLast, IsTurning}
use Rattle.validator_core.proofs.TableChangesLemmas.Lasts.{first_is_last, last_is_first}
use Rattle.validator_core.specs.TableChanges.Entries.{RaisesFound}

-- the predecessor is the first that precedes
first_before : (log : List Body) (b : Body) → predecessor log b ≡ find (precedes b) log
unfolding predecessor
first_before log b = refl

-- what is found on a body is what is found by all claims on it, and nothing where it doesn't stand
all_found : (told : List Told) (log : List Body) (b : Body) → found_by log b (claims_on told b) ≡ found_on told log b
unfolding found_on
all_found told log b = refl

down_found : (told : List Told) (log : List Body) (b : Body) → stands log b ≡ false → found_on told log b ≡ []
unfolding found_on
down_found told log b down = rw down refl

module _ (v : View) (c : Body) (done : List ℕ) (w : View) (t : IsTurning v c done w) where
  pub held_is : w.held ≡ v.held
  held_is = ap (λ (u : View). u.held) t.new_is

  pub log_is : log_of w ≡ log_of v ++ c ∷ []
  log_is = ap log_of t.new_is ∙ log_then v t.sound t.number c t.at t.log t.numbers t.is_log

  -- the place of the last
  last_is : (place : ℕ) → place + 1 ≡ length (log_of w) → place ≡ length (log_of v)
  last_is place e = let more = length-append (log_of v) (c ∷ []) in let long = ap length log_is in omega (arith, more, long, e)

  is_last : length (log_of v) + 1 ≡ length (log_of w)
  is_last = let more = length-append (log_of v) (c ∷ []) in let long = ap length log_is in omega (arith, more, long)

  module _ (n : ℕ) (b : Body) (there : slice_get v.held n ≡ Some b) (new : list_any (λ m. m == n) done ≡ false) where
    abbrev before : ℕ → Body → List Found
    before m d = found_on (told_of v) (log_of v) d

    abbrev after : ℕ → Body → List Found
    after m d = found_on (told_of v) (log_of v ++ c ∷ []) d

    was : turned before after done n b ≡ found_on (told_of v) (log_of v) b
    was = ap (λ y. if y then after n b else before n b) new

    abbrev IsDone : View → Type 0
    IsDone u = IsTurning v c (done ++ n ∷ []) u

    kept : ((predecessor (log_of v) b ≡ None) → precedes b c ≡ false) → after n b ≡ before n b
    kept other = turning_stays v t.sound t.number c t.at t.log t.numbers t.is_log n b other

    -- the same is found of it as before
    stays : (IsBehindLast (log_of w) b → ⊥) → after n b ≡ before n b
    stays not_new = elim (cases_Bool (precedes b c)) [
      | inr k ↦ kept (λ none. k)
      | inl k ↦ by (predecessor (log_of v) b) refl k
    ]
      where
        by : (o : Option Body) → predecessor (log_of v) b ≡ o → precedes b c ≡ true → after n b ≡ before n b
        by (Some x) e k = kept (λ none. (let no : None ≡ Some x = sym none ∙ e in cc))
        by None e k =
            let first = last_is_first (precedes b) c (log_of v) (sym (first_before (log_of v) b) ∙ e) k in
            absurd (not_new (record { before = length (log_of v); first = ap (position (precedes b)) log_is ∙ first; last = is_last }))

    -- PASSED: it isn't the new event that it stands on
    pub passed : (IsBehindLast (log_of w) b → ⊥) → IsDone w
    passed not_new = record {
      sound = t.sound;
      number = t.number;
      at = t.at;
      fit = t.fit;
      log = t.log;
      numbers = t.numbers;
      is_log = t.is_log;
      new_is = t.new_is;
      claims = turned_same before after (state_before (log_of v ++ c ∷ [])) (verdict_in (told_of v)) v.held w.claims.rows done n b there t.claims (stays not_new ∙ sym was);
    }

    -- RAISED: it is, and all claims on it are raised
    pub raised : IsBehindLast (log_of w) b → (u : View) → RaisesFound n b (claims_on (told_of w) b) w u → IsDone u
    raised new_on u raises = record {
      sound = t.sound;
      number = t.number;
      at = t.at;
      fit = t.fit;
      log = t.log;
      numbers = t.numbers;
      is_log = t.is_log;
      new_is = is_with ∙ ap (λ rows. with_rows rows (with_log t.log v)) (sym rows_are);
      claims = subst (λ rows. HasClaims (state_before (log_of v ++ c ∷ [])) (turned before after (done ++ n ∷ [])) (verdict_in (told_of v)) v.held rows) (sym rows_are)
          (turned_raised before after (state_before (log_of v ++ c ∷ [])) (verdict_in (told_of v)) v.held w.claims.rows done n b there t.claims (after n b) raises.added (low_at v.held n b there) found all_new);
    }
      where
        rows_are : u.claims.rows ≡ raised_all w.claims.rows raises.added
        rows_are = ap (λ (x : View). x.claims.rows) raises.new_is

        is_with : u ≡ with_rows (raised_all w.claims.rows raises.added) (with_log t.log v)
        is_with = raises.new_is ∙ ap (λ x. with_rows (raised_all w.claims.rows raises.added) x) t.new_is

        here : (find (precedes b) (log_of v) ≡ None) × (precedes b c ≡ true)
        here = first_is_last (precedes b) c new_on.before (log_of v) (ap (position (precedes b)) (sym log_is) ∙ new_on.first) (last_is new_on.before new_on.last)

        found : AreFound n (state_before (log_of v ++ c ∷ []) b) b.event (after n b) raises.added
        found = subst (λ l. AreFound n (state_before l b) b.event (found_on (told_of v) l b) raises.added) log_is
            (subst (λ fs. AreFound n (state_before (log_of w) b) b.event fs raises.added)
            (all_found (told_of w) (log_of w) b ∙ ap (λ told. found_on told (log_of w) b) (ap (λ (x : View). told_of x) t.new_is)) raises.found)

        nothing_before : before n b ≡ []
        nothing_before = down_found (told_of v) (log_of v) b (stands_not (log_of v) b (precedes_some b c here.1).2 (first_before (log_of v) b ∙ here.0))

        all_new : after n b ≡ turned before after done n b ++ after n b
        all_new = ap (λ l. l ++ after n b) (sym (was ∙ nothing_before))

-- BEGIN: the event is last in the log
pub turning : (v : View) (c : Body) (number : ℕ) (w : View) → AreSoundTables v → slice_get v.held number ≡ Some c → IsTrue (fits (log_of v) c) → IsAppended c number v w → IsTurning v c [] w
turning v c number w stands at fit is = record {
  sound = stands;
  number = number;
  at = at;
  fit = fit;
  log = is.log;
  numbers = is.numbers;
  is_log = is.is_log;
  new_is = is.new_is ∙ ap (λ rows. with_rows rows (with_log is.log v)) (sym (ap (λ (x : View). x.claims.rows) is.new_is));
  claims = subst (λ rows. HasClaims (state_before (log_of v ++ c ∷ [])) (turned (λ n b. found_on (told_of v) (log_of v) b) (λ n b. found_on (told_of v) (log_of v ++ c ∷ []) b) []) (verdict_in (told_of v)) v.held rows)
      (sym (ap (λ (x : View). x.claims.rows) is.new_is)) (turning_begins v stands number c at is.log is.numbers is.is_log);
}

-- END: it is accepted
pub accepted : (v : View) (c : Body) (done : List ℕ) (w : View) → IsTurning v c done w
    → ((n : ℕ) (b : Body) → slice_get v.held n ≡ Some b → precedes b c ≡ true → predecessor (log_of v) b ≡ None → list_any (λ m. m == n) done ≡ true) → Accepts c v w
accepted v c done w t all = record {
  held = ap (λ (x : View). x.held) t.new_is;
  entries = ap (λ (x : View). x.entries) t.new_is;
  log = log_is v c done w t;
  pending = ap (λ (x : View). x.claims.pending) t.new_is;
  released = ap (λ (x : View). x.released) t.new_is;
  sound = subst AreSoundTables (sym t.new_is) (standing_accepted v t.sound t.number c t.at t.log t.numbers t.is_log t.fit done w.claims.rows t.claims all);
}
