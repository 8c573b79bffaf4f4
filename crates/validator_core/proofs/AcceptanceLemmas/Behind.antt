-- What an event stands on: the state just behind its predecessor.
use Rattle.std.proofs.Common.{◌≡◌, ℕ, false, List, [], ◌∷◌, Some, None, refl, sym, ◌∙◌, ap}
use Rattle.std.specs.Prelude.{slice_get, is_none}
use Rattle.event_body.specs.EventBody.Events.{sn_of, is_inception}
use Rattle.event_body.specs.declared.event_body.event.Event.{Event}
use Rattle.event_body.specs.declared.event_body.event.Event.TheVariants.{Icp, Rot, Ixn, Dip, Drt, Rct}
use Rattle.key_state.specs.Exposure.{own_rules}
use Rattle.key_state.specs.KeyStates.{misfit}
use Rattle.key_state.specs.Same.{are_witnesses}
use Rattle.key_state.specs.States.{State}
use Rattle.journal.specs.declared.journal.body.Body.{Body}
use Rattle.journal.specs.Journal.Logs.{predecessor, stands}
use Rattle.journal.specs.Journal.Grown.{IsGrown}
use Rattle.journal.specs.Journal.Questions.{state_before}
use Rattle.journal.specs.EventRules.Parts.{Part, index, reveal, backer, Row as Found, brings_all}
use Rattle.validator_core.specs.declared.tables.accepted_log.place.Place.{Place}
use Rattle.validator_core.specs.Tables.AcceptedLog.Values.{Log}
use Rattle.validator_core.specs.Tables.AcceptedLog.Cuts.{cut, IsLog}
use Rattle.validator_core.proofs.TablesLemmas.AcceptedLogLemmas.Behind.{StateOf, state_of, state_followed}
use Rattle.claim_table.specs.declared.claim_table.claimed.Claimed.{Claimed}
use Rattle.claim_table.specs.CoreLaws.ClaimRows.{AreFound, part_of}

-- a state with other live events asks the same of an event's signatures
pub rules_cut : (k : ℕ) (s : State) (e : Event) → own_rules (Some (cut k s)) e ≡ own_rules (Some s) e
rules_cut k s (Icp e) = refl
rules_cut k s (Rot e) = refl
rules_cut k s (Ixn e) = refl
rules_cut k s (Dip e) = refl
rules_cut k s (Drt e) = refl
rules_cut k s (Rct e) = refl

brings_cut : (k : ℕ) (s : State) (e : Event) (f : Found) (p : Part) → brings_all (Some (cut k s)) e f p ≡ brings_all (Some s) e f p
brings_cut k s e f (index n) = refl
brings_cut k s (Icp e) f (reveal n) = refl
brings_cut k s (Rot e) f (reveal n) = refl
brings_cut k s (Ixn e) f (reveal n) = refl
brings_cut k s (Dip e) f (reveal n) = refl
brings_cut k s (Drt e) f (reveal n) = refl
brings_cut k s (Rct e) f (reveal n) = refl
brings_cut k s (Icp e) f (backer n) = refl
brings_cut k s (Rot e) f (backer n) = refl
brings_cut k s (Ixn e) f (backer n) = refl
brings_cut k s (Dip e) f (backer n) = refl
brings_cut k s (Drt e) f (backer n) = refl
brings_cut k s (Rct e) f (backer n) = refl

-- and so claims that are found behind the one are found behind the other
pub found_cut : (n k : ℕ) (s : State) (e : Event) (fs : List Found) (cs : List Claimed) → AreFound n (Some s) e fs cs → AreFound n (Some (cut k s)) e fs cs
found_cut n k s e [] [] are = tt
found_cut n k s e [] (c ∷ cs) are = absurd are
found_cut n k s e (f ∷ fs) [] are = absurd are
found_cut n k s e (f ∷ fs) (c ∷ cs) are = let here = are.0 in (
  record {
    body = here.body;
    key = here.key;
    sig = here.sig;
    parts = λ once p. here.parts (ap (λ r. are_witnesses r.witnesses) (sym (rules_cut k s e)) ∙ once) p ∙ sym (brings_cut k s e f (part_of p));
  },
  found_cut n k s e fs cs are.1,
)

module _ (log : List Body) (v : Log) (is : IsLog log v) (grown : IsGrown log) (i : ℕ) (x : Body) (p : Place) (at : slice_get log i ≡ Some x) (pl : slice_get v.places i ≡ Some p) (b : Body) (before : predecessor log b ≡ Some x) where
  abbrev pub of_x : StateOf log v x p.state
  of_x = state_of log v is grown i x p at pl

  -- FOOTING: behind its predecessor an event stands where it follows the state there
  pub stands_behind : is_inception b.event ≡ false → stands log b ≡ is_none (misfit (cut (sn_of x.event) of_x.state) b.event)
  unfolding stands
  stands_behind not_first =
      let then = of_x.then_is in
      rw (not_first, before, then) refl

  pub state_there_is : state_before log b ≡ Some (cut (sn_of x.event) of_x.state)
  state_there_is = state_followed log v is grown i x p at pl b before

-- an event without a predecessor that is no inception stands on nothing
pub stands_not : (log : List Body) (b : Body) → is_inception b.event ≡ false → predecessor log b ≡ None → stands log b ≡ false
unfolding stands
stands_not log b not_first none = rw (not_first, none) refl
