-- What a turn does to what a pass knows.
use Rattle.std.proofs.Common.{◌≡◌, ℕ, ◌≤◌, List, [], ◌++◌, sym, ◌∙◌, ap, subst, arith, inl, inr}
use mathlib.Core.List.{IsPrefix}
use Rattle.journal.specs.Journal.History.{Told}
use Rattle.turn_lock.proofs.Histories.{longer_share-none, prefix_append, prefix_refl}
use Rattle.reader_hub.specs.ReaderHub.Hubs.{HubPass, Stops, TookTurn}
use Rattle.reader_hub.specs.declared.reader_hub.hub_fault.HubFault.{HubFault}
use Rattle.reader_hub.specs.declared.reader_hub.hub_fault.HubFault.TheVariants.{Spent, OutOfMemory}
use Rattle.reader_hub.specs.SharedReader.Asks.{Stays, TellsNothing, verdict_count}
use Rattle.reader_hub.proofs.SharedReaderLemmas.Verdicts.{verdict_count_grows}

pub stays_on : (p q r : HubPass) → Stays p q → Stays q r → Stays p r
stays_on p q r a b = record { number = b.number ∙ a.number; splits = b.splits ∙ a.splits; head = b.head ∙ a.head }

module _ (limit : ℕ) (p : HubPass) (met more : List Told) (q : HubPass) (t : TookTurn limit p met more q) where
  pub turn_stays : Stays p q
  turn_stays = record { number = ap (λ x. x.number) t.now; splits = ap (λ x. x.splits) t.now; head = ap (λ x. x.head) t.now }

  pub seen_then : q.seen ≡ met ++ more
  seen_then = ap (λ x. x.seen) t.now

  pub turn_begins : IsPrefix p.seen met → IsPrefix p.seen q.seen
  turn_begins begins = subst (IsPrefix p.seen) (sym seen_then) (prefix_append p.seen met more begins)

  pub turn_grows : IsPrefix p.seen met → verdict_count p.seen ≤ verdict_count q.seen
  turn_grows begins = verdict_count_grows p.seen q.seen (turn_begins begins)

-- a turn in which nothing is told
pub idle_turn : (limit : ℕ) (p : HubPass) (met : List Told) (q : HubPass) → IsPrefix p.seen met → TookTurn limit p met [] q → TellsNothing p q 1
idle_turn limit p met q begins t = record {
  stays = turn_stays limit p met [] q t;
  own = ap (λ x. x.own) t.now ∙ longer_share-none p.number p.own;
  begins = turn_begins limit p met [] q t begins;
  seen = turn_grows limit p met [] q t begins;
  turns = (let turns = ap (λ x. x.turns) t.now in omega (arith, turns));
}

-- no turn was taken
pub no_turn : (p q : HubPass) → q ≡ p → TellsNothing p q 1
no_turn p q same = record {
  stays = record { number = ap (λ x. x.number) same; splits = ap (λ x. x.splits) same; head = ap (λ x. x.head) same };
  own = ap (λ x. x.own) same;
  begins = subst (IsPrefix p.seen) (sym (ap (λ x. x.seen) same)) (prefix_refl p.seen);
  seen = (let seen = ap (λ x. verdict_count x.seen) same in omega (arith, seen));
  turns = (let turns = ap (λ x. x.turns) same in omega (arith, turns));
}

-- a call that gave no answer
pub stop_tells : (limit : ℕ) (p q : HubPass) (fault : HubFault) → Stops limit p fault q → TellsNothing p q 1
stop_tells limit p q (Spent turns) s = record {
  stays = record { number = ap (λ x. x.number) s.2; splits = ap (λ x. x.splits) s.2; head = ap (λ x. x.head) s.2 };
  own = ap (λ x. x.own) s.2;
  begins = subst (IsPrefix p.seen) (sym (ap (λ x. x.seen) s.2)) (prefix_refl p.seen);
  seen = (let seen = ap (λ x. verdict_count x.seen) s.2 in omega (arith, seen));
  turns = (let turns = ap (λ x. x.turns) s.2 in omega (arith, turns));
}
stop_tells limit p q OutOfMemory (inl same) = no_turn p q same
stop_tells limit p q OutOfMemory (inr (meets, turn)) = idle_turn limit p meets.met q meets.begins turn
