-- What makes a body ready.
use Rattle.std.proofs.Common.{◌≡◌, true, false, not, ◌&&◌, ◌||◌, List, ◌++◌, sym, subst}
use Rattle.std.specs.Prelude.{flat_map}
use Rattle.std.proofs.lemmas.Bool.{and_parts, and_from, not-true, not_from_false}
use Rattle.std.proofs.lemmas.List.Concat.{flat_map-append}
use Rattle.event_body.specs.EventBody.Events.{prefix_of, is_receipt}
use Rattle.journal.specs.declared.journal.body.Body.{Body}
use Rattle.journal.specs.declared.journal.mode.Mode.{Mode}
use Rattle.journal.specs.Journal.History.{Told, Triple, said_yes, yes_in}
use Rattle.journal.specs.Journal.Logs.{is_in, state, takes}
use Rattle.journal.specs.Journal.Readiness.{is_backed, is_local, is_ready, signed}
use Rattle.journal.specs.Journal.Seals.{anchored}
use Rattle.key_state.proofs.Among.{Among, among_left}
use Rattle.journal_views.proofs.JournalLawsLemmas.Verdicts.{among_yes, yes_among}

-- what makes a body ready
pub record AreReady (mode : Mode) (told : List Told) (log : List Body) (b : Body) : Type 0 where
  pub event : is_receipt b.event ≡ false
  pub new : is_in log b ≡ false
  pub taken : takes (state log (prefix_of b.event)) b.event ≡ true
  pub is_signed : signed told (state log (prefix_of b.event)) b ≡ true
  pub full : (is_local mode || (is_backed told (state log (prefix_of b.event)) b && anchored log (state log (prefix_of b.event)) b.event)) ≡ true

pub ready_parts : (mode : Mode) (told : List Told) (log : List Body) (b : Body) → is_ready mode told log b ≡ true → AreReady mode told log b
unfolding is_ready
ready_parts mode told log b h =
    let s = state log (prefix_of b.event) in
    let parts = and_parts (not (is_receipt b.event) && not (is_in log b)) _ h in
    let first = and_parts (not (is_receipt b.event)) (not (is_in log b)) parts.0 in
    let more = and_parts (takes s b.event && signed told s b) (is_local mode || (is_backed told s b && anchored log s b.event)) parts.1 in
    let two = and_parts (takes s b.event) (signed told s b) more.0 in
    record { event = not-true _ first.0; new = not-true _ first.1; taken = two.0; is_signed = two.1; full = more.1 }

pub ready_by : (mode : Mode) (told : List Told) (log : List Body) (b : Body) → AreReady mode told log b → is_ready mode told log b ≡ true
unfolding is_ready
ready_by mode told log b r =
    and_from _ _ (and_from _ _ (not_from_false _ r.event) (not_from_false _ r.new)) (and_from _ _ (and_from _ _ r.taken r.is_signed) r.full)

pub yes_more : (earlier later : List Told) (t : Triple) → said_yes earlier t ≡ true → said_yes (earlier ++ later) t ≡ true
yes_more earlier later t h =
    among_yes (earlier ++ later) t (subst (λ xs. Among t xs) (sym (flat_map-append yes_in earlier later)) (among_left (flat_map yes_in earlier) (flat_map yes_in later) t (yes_among earlier t h)))
