-- What an entry makes accepted.
use Rattle.std.proofs.Common.{◌≡◌, true, false, List, [], ◌∷◌, ◌++◌, length, refl, sym, ◌∙◌, ap, subst, append_assoc, append-nil, inl, inr}
use Rattle.std.proofs.lemmas.List.Sums.{count_by-le-length}
use Rattle.std.proofs.lemmas.List.Folds.{list_any-append}
use Rattle.std.proofs.lemmas.Bool.{cases_Bool, and_parts, or_left, or_right}
use Rattle.event_body.specs.EventBody.Events.{prefix_of}
use Rattle.journal.specs.declared.journal.mode.Mode.{Mode}
use Rattle.journal.specs.declared.journal.body.Body.{Body}
use Rattle.journal.specs.Journal.Logs.{before, is_in, same_body, state}
use Rattle.journal.specs.Journal.History.{Told, bodies}
use Rattle.journal.specs.Journal.Readiness.{is_ready, signed}
use Rattle.journal.specs.Journal.Acceptance.{settled_over}
use Rattle.journal.specs.Journal.Accepted.{accepted}
use Rattle.journal.proofs.JournalLemmas.Settling.{settled_ends, left}
use Rattle.journal.proofs.JournalLemmas.Accepting.{accepted-push, ready_is_new, same_body-refl}
use Rattle.journal.proofs.JournalLemmas.Keeping.{Settles-keeps, split_push}
use Rattle.witness_core.specs.WitnessCore.Laws.{EntryLaw, StaysLaw}

-- the list is the first one and more, and each of that was ready behind what is before it
record IsBehind (mode : Mode) (told : List Told) (log end : List Body) : Type 0 where
  more : List Body
  is : end ≡ log ++ more
  ready : (front later : List Body) (b : Body) → more ≡ front ++ b ∷ later → is_ready mode told (log ++ front) b ≡ true

behind_more : (mode : Mode) (told : List Told) (log mid : List Body) (b : Body) → IsBehind mode told log mid → is_ready mode told mid b ≡ true → IsBehind mode told log (mid ++ b ∷ [])
behind_more mode told log mid b was now = record {
  more = was.more ++ b ∷ [];
  is = ap (λ l. l ++ b ∷ []) was.is ∙ append_assoc log was.more (b ∷ []);
  ready = λ front later c e. elim (split_push was.more front later b c e) [
    | inl h ↦ subst (λ x. is_ready mode told (log ++ front) x ≡ true) h.1 (subst (λ l. is_ready mode told l b ≡ true) (was.is ∙ ap (λ m. log ++ m) h.0) now)
    | inr h ↦ was.ready front h.0 c h.1
  ];
}

settled_behind : (mode : Mode) (base : List Body) (told : List Told) (log : List Body) → IsBehind mode told log (settled_over (is_ready mode) (bodies base) told log)
unfolding left
settled_behind mode base told log = Settles-keeps (is_ready mode told) (bodies base told) (IsBehind mode told log) (λ mid b was now. behind_more mode told log mid b was now)
    (settled_ends (is_ready mode told) (bodies base told) same_body same_body-refl (ready_is_new mode told) (length (bodies base told)) log (count_by-le-length _ (bodies base told)))
    (record { more = []; is = sym (append-nil log); ready = λ front later b e. none front later b e })
  where
    none : (front later : List Body) (b : Body) → [] ≡ front ++ b ∷ later → is_ready mode told (log ++ front) b ≡ true
    none [] later b e = cc
    none (c ∷ front) later b e = cc

-- a list is cut before a body that isn't before that place
before_is : (front later : List Body) (b : Body) → is_in front b ≡ false → before b (front ++ b ∷ later) ≡ front
unfolding before
before_is [] later b out = rw (same_body-refl b) refl
before_is (c ∷ front) later b out = elim (cases_Bool (same_body c b)) [
  | inl is ↦ (let no : true ≡ false = rw is at out in cc)
  | inr isnt ↦ (let rest : is_in front b ≡ false = rw isnt at out in rw isnt (ap (λ l. c ∷ l) (before_is front later b rest)))
]

in_front : (front more : List Body) (b : Body) → is_in (front ++ more) b ≡ false → is_in front b ≡ false
in_front front more b out = elim (cases_Bool (is_in front b)) [
  | inl is ↦ (let no : true ≡ false = sym (rw list_any-append (or_left _ _ is)) ∙ out in cc)
  | inr isnt ↦ isnt
]

is_there : (front later : List Body) (b : Body) → is_in (front ++ b ∷ later) b ≡ true
is_there front later b = rw list_any-append (or_right _ _ (or_left _ _ (same_body-refl b)))

ready_signed : (mode : Mode) (told : List Told) (log : List Body) (b : Body) → is_ready mode told log b ≡ true → signed told (state log (prefix_of b.event)) b ≡ true
unfolding is_ready
ready_signed mode told log b h = (and_parts _ _ (and_parts _ _ (and_parts _ _ h).1).0).1

pub entry_law : EntryLaw
entry_law mode base told t =
    let whole_told = told ++ t ∷ [] in
    let log = accepted mode base told in
    let is_then = accepted-push mode base told t in
    let behind = settled_behind mode base whole_told log in
    let end = is_then ∙ behind.is in (
      behind.more,
      end,
      λ front later b e.
          let ready = behind.ready front later b e in
          let out = ready_is_new mode whole_told (log ++ front) b ready in
          let parted : accepted mode base whole_told ≡ (log ++ front) ++ b ∷ later = end ∙ ap (λ m. log ++ m) e ∙ sym (append_assoc log front (b ∷ later)) in (
            record {
              earlier = told;
              entry = t;
              later = [];
              is = refl;
              parted = sym (append-nil whole_told);
              not_yet = in_front log front b out;
              now = ap (λ l. is_in l b) parted ∙ is_there (log ++ front) later b;
            },
            ap (λ l. signed whole_told (state l (prefix_of b.event)) b) (ap (before b) parted ∙ before_is (log ++ front) later b out) ∙ ready_signed mode whole_told (log ++ front) b ready,
          ),
    )

pub stays_law : StaysLaw
stays_law mode base told more b moment at = record {
  earlier = at.earlier;
  entry = at.entry;
  later = at.later ++ more;
  is = at.is;
  parted = ap (λ l. l ++ more) at.parted ∙ append_assoc moment at.later more;
  not_yet = at.not_yet;
  now = at.now;
}
