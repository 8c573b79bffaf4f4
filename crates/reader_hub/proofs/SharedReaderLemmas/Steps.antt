-- One reader alone, step by step.
use Rattle.std.proofs.Common.{◌≡◌, ℕ, ◌≤◌, List, [], ◌∷◌, ◌++◌, Option, Some, None, Result, Ok, Err, length, length-append, refl, sym, ◌∙◌, ap, subst, arith, append-nil, inl, inr}
use Rattle.std.proofs.lemmas.List.{nil_from_length}
use mathlib.Core.List.{IsPrefix}
use Rattle.cesr_stream.specs.declared.message.Message.{Message}
use Rattle.event_body.specs.declared.event_body.event.Event.{Event}
use Rattle.event_body.specs.declared.event_body.body_fault.BodyFault.{BodyFault}
use Rattle.key_state.specs.Same.{distinct}
use Rattle.journal.specs.declared.journal.mode.Mode.{Mode}
use Rattle.journal.specs.declared.journal.reply.Reason.{Reason}
use Rattle.journal.specs.Journal.Feeds.{entry_unless}
use Rattle.journal.specs.Journal.History.{Told, bodies}
use Rattle.journal.specs.Journal.Questions.{IsInStep, ComesNext, questions, raised}
use Rattle.journal.proofs.JournalLemmas.Keeping.{split_push}
use Rattle.reader_hub.specs.ReaderHub.Hubs.{HubPass, TookTurn}
use Rattle.reader_hub.specs.declared.reader_hub.core_head.CoreHead.{CoreHead}
use Rattle.reader_hub.specs.declared.reader_hub.extent.Extent.{Extent}
use Rattle.reader_hub.specs.declared.reader_hub.extent.Extent.TheVariants.{First, Free, All as Every}
use Rattle.reader_hub.specs.SharedReader.Asks.{LeavesNone, TellsNothing}
use Rattle.reader_hub.specs.SharedReader.Steps.{SawNoneOpen, StepsAlone}
use Rattle.reader_hub.proofs.SharedReaderLemmas.Turns.{seen_then}

-- nothing is told, and nothing open
pub nothing_in_step : (mode : Mode) → IsInStep mode []
nothing_in_step mode [] later t e = cc
nothing_in_step mode (x ∷ earlier) later t e = cc

nothing_open : (mode : Mode) → questions mode [] [] ≡ []
unfolding questions raised bodies distinct
nothing_open mode = refl

-- one entry more, which was the next one
pub in_step_more : (mode : Mode) (told : List Told) (t : Told) → IsInStep mode told → ComesNext mode told t → IsInStep mode (told ++ t ∷ [])
in_step_more mode told t steps next earlier later u e = elim (split_push told earlier later t u e) [
  | inl h ↦ rw (← h.0, ← h.1) next
  | inr h ↦ steps earlier h.0 u h.1
]

-- a message that was offered once no question was open
pub in_step_offered : (mode : Mode) (told : List Told) → IsInStep mode told → questions mode [] told ≡ [] → (n : ℕ) (r : Option Reason) (m : Message) (gives : Result Event BodyFault)
    → IsInStep mode (told ++ entry_unless r n m gives)
in_step_offered mode told steps none n None m (Ok e) = in_step_more mode told _ steps none
in_step_offered mode told steps none n None m (Err fault) = subst (IsInStep mode) (sym (append-nil told)) steps
in_step_offered mode told steps none n (Some reason) m gives = subst (IsInStep mode) (sym (append-nil told)) steps

-- a beginning isn't longer, and one that isn't shorter is the whole
pub prefix_length : {E : Type 0} (xs ys : List E) → IsPrefix xs ys → length xs ≤ length ys
prefix_length xs ys p = let parts = length-append xs p.0 in let all = ap length p.1 in omega (arith, parts, all)

pub whole_prefix : {E : Type 0} (xs ys : List E) → IsPrefix xs ys → length ys ≤ length xs → ys ≡ xs
whole_prefix xs ys p le =
    let parts = length-append xs p.0 in
    let all = ap length p.1 in
    let none : p.0 ≡ [] = nil_from_length p.0 (omega (arith, parts, all, le)) in
    sym p.1 ∙ (ap (λ l. xs ++ l) none ∙ append-nil xs)

-- a pass has one head
pub one_head : (o : Option CoreHead) (x y : CoreHead) → o ≡ Some x → o ≡ Some y → x ≡ y
one_head o x y a b = let both : Some x ≡ Some y = sym a ∙ b in cc

-- a pass with an empty share that has seen nothing
nothing_seen : (q : HubPass) → length q.seen ≤ 0 → q.seen ≡ []
nothing_seen q le = nil_from_length q.seen (omega (arith, le))

pub alone_first : (q : HubPass) → StepsAlone q []
alone_first q = record { few = omega arith; in_step = λ le head head_is. subst (IsInStep head.mode) (sym (nothing_seen q le)) (nothing_in_step head.mode) }

pub none_open_first : (q : HubPass) → length q.seen ≤ 0 → SawNoneOpen q
none_open_first q le head head_is = subst (λ (l : List Told). questions head.mode [] l ≡ []) (sym (nothing_seen q le)) (nothing_open head.mode)

-- who asked the first question as long as there was one left none open
pub none_left : (extent : Extent) (q : HubPass) → extent ≡ First → LeavesNone extent q → SawNoneOpen q
none_left First q is none head head_is = subst (λ (h : CoreHead). questions h.mode [] q.seen ≡ []) (one_head q.head none.head head none.head_is head_is) none.none
none_left Free q is none head head_is = cc
none_left Every q is none head head_is = cc

-- where nothing was told, one reader alone is in step as before
pub steps_still : (p q : HubPass) (k : ℕ) → TellsNothing p q k → (share : List Told) → StepsAlone p share → StepsAlone q share
steps_still p q k t share a =
    let few = a.few in
    let grown = prefix_length p.seen q.seen t.begins in
    record {
      few = omega (arith, few, grown);
      in_step = λ le head head_is.
          subst (IsInStep head.mode) (sym (whole_prefix p.seen q.seen t.begins (omega (arith, le, few))))
          (a.in_step (omega (arith, le, grown)) head (sym t.stays.head ∙ head_is));
    }

-- And where entries came in a turn: if no other has told anything, the turn met what the pass had seen.
pub steps_turn : (limit : ℕ) (p : HubPass) (met more : List Told) (q : HubPass) → TookTurn limit p met more q → IsPrefix p.seen met → (share : List Told) → StepsAlone p share
    → (length p.seen ≤ length share → (head : CoreHead) → p.head ≡ Some head → met ≡ p.seen → IsInStep head.mode met → IsInStep head.mode (met ++ more)) → StepsAlone q (share ++ more)
steps_turn limit p met more q t begins share a on =
    let few = a.few in
    let grown = prefix_length p.seen met begins in
    let seen = ap length (seen_then limit p met more q t) in
    let parts = length-append met more in
    let whole = length-append share more in
    record {
      few = omega (arith, few, grown, seen, parts, whole);
      in_step = λ le head head_is.
          let alone : length p.seen ≤ length share = omega (arith, le, grown, seen, parts, whole) in
          let same : met ≡ p.seen = whole_prefix p.seen met begins (omega (arith, le, few, seen, parts, whole)) in
          let before : p.head ≡ Some head = sym (ap (λ x. x.head) t.now) ∙ head_is in
          let first : IsInStep head.mode met = subst (IsInStep head.mode) (sym same) (a.in_step alone head before) in
          subst (IsInStep head.mode) (sym (seen_then limit p met more q t)) (on alone head before same first);
    }
