-- What the functions over the lists find is what the tables tell.
use Rattle.std.proofs.Common.{◌≡◌, ℕ, ◌+◌, ◌-◌, ◌≤◌, Bool, false, true, List, [], ◌∷◌, length, refl, sym, ◌∙◌, ap, subst, inl, inr, arith, Option, Some, None}
use Rattle.std.specs.Prelude.{◌==◌, ◌&&◌, Contains, find, option_map, position, slice_get}
use Rattle.std.specs.List.{list_any, position_from}
use Rattle.std.specs.List.Sorted.{IsStrictlyIncreasing}
use Rattle.std.specs.Option.{is_some, option_map_or}
use Rattle.std.specs.Cmp.Lexicographic.{bytes_decides}
use Rattle.std.proofs.lemmas.Bool.{cases_Bool, cases_lt}
use Rattle.std.proofs.lemmas.Iterator.Adapters.{position_from-zero}
use Rattle.cesr_codes.specs.declared.digest.Digest.{Digest}
use Rattle.cesr_codes.specs.declared.prefix.Prefix.{Prefix}
use Rattle.event_backing.specs.EventSeals.{IsEventSeal}
use Rattle.event_body.specs.declared.event_body.event.Event.{Event}
use Rattle.event_body.specs.EventBody.Events.{prefix_of, prior_of, said_of, sn_of}
use Rattle.escrow.specs.Escrow.Escrow.{Escrow}
use Rattle.escrow.specs.EventIndex.Rows.{HasRows, is_row}
use Rattle.journal.specs.declared.journal.body.Body.{Body}
use Rattle.journal.specs.declared.journal.claim.Claim.{Claim}
use Rattle.journal.specs.declared.journal.entry.Entry.{Entry}
use Rattle.journal.specs.Journal.Journals.{chosen}
use Rattle.journal.specs.Journal.Logs.{is_in, precedes, same_body}
use Rattle.journal.specs.Journal.Replies.{same_claim}
use Rattle.journal.specs.Journal.Seals.{is_sealed}
use Rattle.journal.proofs.JournalLemmas.Places.{some_at}
use Rattle.key_state.specs.KeyStates.{are_same}
use Rattle.key_state.specs.Same.{same_prefix}
use Rattle.validator_core.specs.declared.tables.name.Name.{Name}
use Rattle.validator_core.specs.declared.tables.name.SealKey.{SealKey}
use Rattle.validator_core.specs.declared.tables.name.ClaimKey.{ClaimKey}
use Rattle.validator_core.specs.Tables.Hints.{AreHinted, IsNameNew}
use Rattle.validator_core.specs.Tables.Names.{claim_key, name_of, prior_name, seal_key}
use Rattle.validator_core.specs.Tables.Rows.{event_there, has_claim, is_named, is_number, is_seal_of, is_text, same_name}
use Rattle.validator_core.specs.Tables.View.{body_of, came_with}
use Rattle.claim_table.proofs.CoreLawsLemmas.Members.{find_some, member_any}
use Rattle.validator_core.proofs.TablesLemmas.ListedNumbers.{found_row, none_row}
use Rattle.validator_core.proofs.TablesLemmas.NamedRows.{come_is, place_is, predecessor_is, same_name_itself, sealed_is}
use Rattle.validator_core.proofs.TablesLemmas.Rows.{differ, none_below, not_some, some_is}

-- an element that passes a test has a place just where there is one
unfound : {X : Type 0} (test : X → Bool) (xs : List X) → list_any test xs ≡ false → position test xs ≡ None
unfound test xs none = position_from-zero test xs ∙ go 0 xs none
  where
    go : (i : ℕ) (ys : List _) → list_any test ys ≡ false → position_from test i ys ≡ None
    go i [] none = refl
    go i (y ∷ ys) none = elim (cases_Bool (test y)) [
      | inl k ↦ (let clash = rw k at none in cc)
      | inr k ↦ (let more = rw k at none in rw k (go (i + 1) ys more))
    ]

pub some_place : {X : Type 0} (test : X → Bool) (xs : List X) → is_some (position test xs) ≡ list_any test xs
some_place test xs = ap is_some (position_from-zero test xs) ∙ go 0 xs
  where
    go : (i : ℕ) (ys : List _) → is_some (position_from test i ys) ≡ list_any test ys
    go i [] = refl
    go i (y ∷ ys) = elim (cases_Bool (test y)) [ inl k ↦ rw k refl | inr k ↦ rw k (go (i + 1) ys) ]

module _ {held : List Body} {entries : List Entry} {ns : List ℕ} {released : ℕ} {w : Escrow} {names told places : Name → List ℕ} {came : ClaimKey → List ℕ} {seals : SealKey → List ℕ} {clash : Bool} (h : AreHinted held entries ns released w names told places came seals clash)
    (events : List Event) (same : (n : ℕ) → slice_get events n ≡ option_map (λ b. b.event) (slice_get held n)) where
  pub sealed_found : (holder : Prefix) (e : Event) → IsEventSeal (record { prefix = prefix_of e; sn = sn_of e; said = said_of e }) → (these : List Event) (those at : List ℕ) (name : Name)
      → these ≡ events → those ≡ ns → name ≡ name_of e → at ≡ seals (seal_key holder name) → IsStrictlyIncreasing at
      → list_any (λ i. is_seal_of holder name (event_there these (slice_get those i))) at ≡ is_sealed (chosen held ns) holder e
  sealed_found holder e is these those at name events_are numbers_are name_is at_is rising =
      rw (at_is, name_is, events_are, numbers_are) (sealed_is h events same holder e is (subst IsStrictlyIncreasing (at_is ∙ ap (λ m. seals (seal_key holder m)) name_is) rising))

  pub place_found : (number : ℕ) (e : Event) → Some e ≡ slice_get events number → (those at : List ℕ) (name : Name) → those ≡ ns → name ≡ name_of e → at ≡ places name → IsStrictlyIncreasing at
      → find (λ i. is_number number (slice_get those i)) at ≡ position (λ m. m == number) ns
  place_found number e there those at name numbers_are name_is at_is rising =
      let b = body (slice_get held number) (there ∙ same number) in
      let named : name ≡ name_of b.0.event = name_is ∙ ap name_of b.2 in
      rw (at_is, named, numbers_are) (place_is h events same number b.0 b.1 (subst IsStrictlyIncreasing (at_is ∙ ap places named) rising))
    where
      body : (o : Option Body) → Some e ≡ option_map (λ b. b.event) o → (b : Body) × (o ≡ Some b) × (e ≡ b.event)
      body None is = absurd (not_some e (sym is))
      body (Some b) is = (b, refl, some_is e b.event is)

  pub no_place : (number : ℕ) → None ≡ slice_get events number → None ≡ position (λ m. m == number) ns
  no_place number none = sym (unfound (λ m. m == number) ns (none_below ns number (λ i m at. let low = h.accepted_held i m at in omega (arith, low, past))))
    where
      past : length held ≤ number
      past = elim (cases_lt number (length held)) [
        | inl less ↦ (let b = some_at held number less in absurd (not_some b.0.event (none ∙ same number ∙ ap (option_map (λ b. b.event)) b.1)))
        | inr more ↦ more
      ]

  pub name_is_new : (name : Name) (these : List Event) (those at : List ℕ) → these ≡ events → those ≡ ns → at ≡ places name
      → find (λ i. is_named name (event_there these (slice_get those i))) at ≡ None → IsNameNew held ns name
  name_is_new name these those at events_are numbers_are at_is none i n b at_i there is =
      let test : ℕ → Bool = λ k. is_named name (event_there these (slice_get those k)) in
      let inside : Contains at i = subst (λ xs. Contains xs i) (sym at_is) (subst (λ m. Contains (places m) i) is (h.accepted i n b at_i there)) in
      let event : event_there these (slice_get those i) ≡ Some b.event = (λ k. event_there (events_are k) (slice_get (numbers_are k) i)) ∙ ap (event_there events) at_i ∙ same n ∙ ap (option_map (λ b. b.event)) there in
      let passes : test i ≡ true = ap (is_named name) event ∙ ap (same_name (name_of b.event)) (sym is) ∙ same_name_itself (name_of b.event) in
      let found = find_some test at (member_any test at i inside passes) in
      not_some found.0 (sym none ∙ found.1)

  pub come_found : (n : ℕ) (c : Claim) (those : List Entry) (at : List ℕ) → those ≡ entries → at ≡ came (claim_key n c)
      → list_any (λ i. has_claim n c (slice_get those i)) at ≡ list_any (same_claim c) (came_with n entries)
  come_found n c those at entries_are at_is = rw (at_is, entries_are) (come_is h events same n c)

  pub predecessor_found : (bytes : List ℕ) (e : Event) (name : Name) → prior_name e ≡ Some name → (sn_of e ≡ 0 → ⊥) → (these : List Event) (those at : List ℕ) → these ≡ events → those ≡ ns → at ≡ places name → IsStrictlyIncreasing at
      → find (λ i. is_named name (event_there these (slice_get those i))) at ≡ position (precedes (body_of bytes e)) (chosen held ns)
  predecessor_found bytes e name named some these those at events_are numbers_are at_is rising =
      let parts = prior (prior_of e) name named in
      rw (at_is, events_are, numbers_are)
      (predecessor_is h events same (body_of bytes e) name (ap (λ m. m.prefix) (sym parts.1)) (ap (λ m. m.sn) (sym parts.1)) parts.2 (omega (arith, some)) (subst IsStrictlyIncreasing at_is rising))
    where
      prior : (o : Option _) (m : Name) → option_map (λ p. let n : Name = record { prefix = prefix_of e; sn = sn_of e - 1; said = p } in n) o ≡ Some m → (p : _) × ((let n : Name = record { prefix = prefix_of e; sn = sn_of e - 1; said = p } in n) ≡ m) × (o ≡ Some m.said)
      prior None m is = absurd (not_some m is)
      prior (Some p) m is = let one = some_is _ m is in (p, one, ap Some (ap (λ x. x.said) one))

-- nothing stands before an event that names no prior, or has the number 0
none_before : {X : Type 0} (test : X → Bool) (xs : List X) → ((x : X) → test x ≡ false) → position test xs ≡ None
none_before test xs never = position_from-zero test xs ∙ go 0 xs
  where
    go : (i : ℕ) (ys : List _) → position_from test i ys ≡ None
    go i [] = refl
    go i (y ∷ ys) = let no = never y in rw no (go (i + 1) ys)

pub first_has_none : (bytes : List ℕ) (e : Event) (log : List Body) → sn_of e ≡ 0 → position (precedes (body_of bytes e)) log ≡ None
first_has_none bytes e log zero_is = none_before (precedes (body_of bytes e)) log never
  where
    never : (c : Body) → precedes (body_of bytes e) c ≡ false
    never c =
        let no : (sn_of c.event + 1 == sn_of e) ≡ false = differ (sn_of c.event + 1) (sn_of e) (λ same. absurd (omega (arith, same, zero_is))) in
        elim (cases_Bool (same_prefix (prefix_of c.event) (prefix_of e))) [ inl k ↦ rw (k, no) refl | inr k ↦ rw k refl ]

pub unnamed_has_none : (bytes : List ℕ) (e : Event) (log : List Body) → prior_name e ≡ None → position (precedes (body_of bytes e)) log ≡ None
unnamed_has_none bytes e log none = none_before (precedes (body_of bytes e)) log never
  where
    no_prior : (o : Option Digest) → option_map (λ p. let n : Name = record { prefix = prefix_of e; sn = sn_of e - 1; said = p } in n) o ≡ None → o ≡ None
    no_prior None is = refl
    no_prior (Some p) is = absurd (not_some _ (sym is))

    never : (c : Body) → precedes (body_of bytes e) c ≡ false
    never c =
        let prior = no_prior (prior_of e) none in
        let no : are_same (prior_of e) (Some (said_of c.event)) ≡ false = ap (λ o. are_same o (Some (said_of c.event))) prior in
        elim (cases_Bool (same_prefix (prefix_of c.event) (prefix_of e) && (sn_of c.event + 1 == sn_of e))) [ inl k ↦ rw (k, no) refl | inr k ↦ rw k refl ]

-- the number that is found among texts is that of the body with these bytes
module _ (held : List Body) (texts : List (List ℕ)) (same : (n : ℕ) → slice_get texts n ≡ option_map (λ b. b.bytes) (slice_get held n))
    (bytes : List ℕ) (e : Event) (places : Name → List ℕ) (named : (n : ℕ) (b : Body) → slice_get held n ≡ Some b → Contains (places (name_of b.event)) n)
    (one : (b : Body) (n : ℕ) → slice_get held n ≡ Some b → b.bytes ≡ bytes → b.event ≡ e) where
  pub text_rows : IsStrictlyIncreasing (places (name_of e)) → HasRows (λ b. same_body b (body_of bytes e)) held (places (name_of e))
  text_rows rising = record {
    rising = rising;
    each = λ n b at t. subst (λ x. Contains (places (name_of x)) n) (one b n at ((bytes_decides b.bytes bytes).0 t)) (named n b at);
  }

  each : (o : Option Body) → is_text bytes (option_map (λ b. b.bytes) o) ≡ option_map_or (λ b. same_body b (body_of bytes e)) o false
  each None = refl
  each (Some b) = refl

  pub texts_found : (these : List (List ℕ)) (at : List ℕ) (name : Name) (found : Option ℕ) → these ≡ texts → at ≡ places name → name ≡ name_of e
      → found ≡ find (λ n. is_text bytes (slice_get these n)) at → found ≡ find (is_row (λ b. same_body b (body_of bytes e)) held) (places (name_of e))
  texts_found these at name found these_are at_is name_is is =
      is ∙ ap (λ ts. find (λ n. is_text bytes (slice_get ts n)) at) these_are ∙ ap (find (λ n. is_text bytes (slice_get texts n))) (at_is ∙ ap places name_is)
      ∙ ap (λ q. find q (places (name_of e))) (λ k n. (ap (is_text bytes) (same n) ∙ each (slice_get held n)) k)

  pub body_found : (rising : IsStrictlyIncreasing (places (name_of e))) (n : ℕ) → Some n ≡ find (is_row (λ b. same_body b (body_of bytes e)) held) (places (name_of e)) → slice_get held n ≡ Some (body_of bytes e)
  body_found rising n is =
      let row = found_row (λ b. same_body b (body_of bytes e)) held (places (name_of e)) (text_rows rising) n (sym is) in
      let text = (bytes_decides row.0.bytes bytes).0 row.2 in let event = one row.0 n row.1 text in
      row.1 ∙ ap Some (λ i. body_of (text i) (event i))

  pub no_body_found : (rising : IsStrictlyIncreasing (places (name_of e))) → None ≡ find (is_row (λ b. same_body b (body_of bytes e)) held) (places (name_of e)) → is_in held (body_of bytes e) ≡ false
  no_body_found rising is = none_row (λ b. same_body b (body_of bytes e)) held (places (name_of e)) (text_rows rising) (sym is)
