-- What the rows tell that a hint names: which events are accepted, which claims have come, and which bodies are held.
use Rattle.std.proofs.Common.{◌≡◌, ℕ, ◌+◌, ◌-◌, ◌<◌, zero, suc, Bool, true, false, List, [], ◌∷◌, length, refl, sym, ◌∙◌, ap, subst, inl, inr, arith, Option, Some, None}
use Rattle.std.specs.Prelude.{◌&&◌, ◌==◌, Contains, find, flat_map, option_map, position, slice_get}
use Rattle.std.specs.List.{list_any}
use Rattle.std.specs.List.Sorted.{IsStrictlyIncreasing}
use Rattle.std.specs.Option.{option_map_or}
use Rattle.std.proofs.lemmas.Bool.{and_from, and_parts, cases_Bool}
use Rattle.std.proofs.lemmas.List.Folds.{list_any-append}
use Rattle.std.proofs.lemmas.Option.{slice_get-get_or}
use Rattle.cesr_codes.specs.declared.digest.Digest.{Digest}
use Rattle.cesr_codes.specs.declared.prefix.Prefix.{Prefix}
use Rattle.event_backing.specs.EventSeals.{IsEventSeal}
use Rattle.event_backing.proofs.SealMembers.{seals-named}
use Rattle.event_body.specs.declared.event_body.event.Event.{Event}
use Rattle.event_body.specs.EventBody.Events.{prefix_of, prior_of, said_of, sn_of}
use Rattle.escrow.specs.EventIndex.Rows.{is_row}
use Rattle.escrow.specs.Escrow.Escrow.{Escrow}
use Rattle.key_state.specs.KeyStates.{are_same}
use Rattle.key_state.specs.Same.{same_digest, same_prefix}
use Rattle.key_state.proofs.Same.{number_itself, numbers, same_prefix_is, same_prefix_itself}
use Rattle.claim_table.proofs.CoreLawsLemmas.States.{same_digest_is, same_itself}
use Rattle.journal.specs.declared.journal.body.Body.{Body}
use Rattle.journal.specs.declared.journal.claim.Claim.{Claim}
use Rattle.journal.specs.declared.journal.entry.Entry.{Entry}
use Rattle.journal.specs.declared.journal.entry.Entry.TheVariants.{Took, Heard}
use Rattle.journal.specs.Journal.Journals.{chosen}
use Rattle.journal.specs.Journal.Logs.{is_of, precedes}
use Rattle.journal.specs.Journal.Replies.{same_claim}
use Rattle.journal.specs.Journal.Seals.{is_sealed, seals as seals_event}
use Rattle.journal.proofs.JournalLemmas.Places.{found_at, some_at}
use Rattle.journal.proofs.JournalLemmas.Same.{same_claim_is}
use Rattle.validator_core.specs.declared.tables.name.Name.{Name}
use Rattle.validator_core.specs.declared.tables.name.SealKey.{SealKey}
use Rattle.validator_core.specs.declared.tables.name.ClaimKey.{ClaimKey}
use Rattle.claim_table.specs.CoreLaws.Standing.{HasNoClash}
use Rattle.validator_core.specs.Tables.Hints.{AreHinted}
use Rattle.validator_core.specs.Tables.Names.{claim_key, name_of, seal_key}
use Rattle.validator_core.specs.Tables.Rows.{event_there, has_claim, is_named, is_number, is_seal_of, same_name}
use Rattle.validator_core.specs.Tables.View.{came_by, came_with}
use Rattle.validator_core.proofs.TablesLemmas.ListedNumbers.{any_among, any_place, find_place}
use Rattle.validator_core.proofs.TablesLemmas.Rows.{contained, not_some, some_is}

-- the body of a number, where there is a number
abbrev pub body_there : List Body → Option ℕ → Option Body
body_there held None = None
body_there held (Some n) = slice_get held n

there_at : (held : List Body) (o : Option ℕ) (c : Body) → body_there held o ≡ Some c → (n : ℕ) × (o ≡ Some n) × (slice_get held n ≡ Some c)
there_at held None c e = absurd (not_some c e)
there_at held (Some n) c e = (n, refl, e)

-- the bodies of numbers that are held stand at the places of these
pub chosen_at : (held : List Body) (ns : List ℕ) → ((i n : ℕ) → slice_get ns i ≡ Some n → n < length held) → (i : ℕ) → slice_get (chosen held ns) i ≡ body_there held (slice_get ns i)
unfolding chosen
chosen_at held [] low i = refl
chosen_at held (n ∷ ns) low zero = let b = some_at held n (low 0 n refl) in let is = b.1 in rw is refl
chosen_at held (n ∷ ns) low (suc i) = let b = some_at held n (low 0 n refl) in let is = b.1 in rw is (chosen_at held ns (λ i m at. low (suc i) m at) i)

event_of : (held : List Body) (events : List Event) → ((n : ℕ) → slice_get events n ≡ option_map (λ b. b.event) (slice_get held n)) → (o : Option ℕ)
    → event_there events o ≡ option_map (λ b. b.event) (body_there held o)
event_of held events same None = refl
event_of held events same (Some n) = same n

-- a test of the event at a place is a test of the body that stands there
same_test : {Y : Type 0} (one : Option Y → Bool) (other : Option Body → Bool) (f : Body → Y) → ((o : Option Body) → one (option_map f o) ≡ other o) → (y : Option Y) (o : Option Body) → y ≡ option_map f o → one y ≡ other o
same_test one other f same y o e = ap one e ∙ same o

turned : (d e : Digest) → same_digest d e ≡ same_digest e d
turned d e = elim (cases_Bool (same_digest d e)) [
  | inl k ↦ (let one = same_digest_is d e k in ap (λ x. same_digest d x) (sym one) ∙ ap (λ x. same_digest x d) one)
  | inr k ↦ elim (cases_Bool (same_digest e d)) [
    | inl l ↦ (let one = same_digest_is e d l in ap (λ x. same_digest d x) one ∙ ap (λ x. same_digest x d) (sym one))
    | inr l ↦ k ∙ sym l
  ]
]

pub same_name_is : (a b : Name) → same_name a b ≡ true → a ≡ b
same_name_is a b h =
    let one = and_parts (same_prefix a.prefix b.prefix && (a.sn == b.sn)) (same_digest a.said b.said) h in let two = and_parts (same_prefix a.prefix b.prefix) (a.sn == b.sn) one.0 in
    let p = same_prefix_is a.prefix b.prefix two.0 in let n = numbers a.sn b.sn two.1 in let d = same_digest_is a.said b.said one.1 in
    λ i. record { prefix = p i; sn = n i; said = d i }

pub same_name_itself : (a : Name) → same_name a a ≡ true
same_name_itself a = and_from _ _ (and_from _ _ (same_prefix_itself a.prefix) (number_itself a.sn)) (same_itself a.said)

next : (x y : ℕ) → 0 < y → (x == y - 1) ≡ (x + 1 == y)
next x y some = elim (cases_Bool (x + 1 == y)) [
  | inl k ↦ (let one = numbers (x + 1) y k in let same : x ≡ y - 1 = omega (arith, one, some) in ap (λ m. x == m) (sym same) ∙ number_itself x ∙ sym k)
  | inr k ↦ elim (cases_Bool (x == y - 1)) [
    | inl l ↦ (let one = numbers x (y - 1) l in let same : x + 1 ≡ y = omega (arith, one, some) in ap (λ m. m == y - 1) one ∙ number_itself (y - 1) ∙ sym (ap (λ m. m == y) same ∙ number_itself y))
    | inr l ↦ l ∙ sym k
  ]
]

-- an event has the name that another gives of the one before it exactly where it precedes that
named_before : (b c : Body) (name : Name) → name.prefix ≡ prefix_of b.event → name.sn ≡ sn_of b.event - 1 → prior_of b.event ≡ Some name.said → 0 < sn_of b.event
    → same_name (name_of c.event) name ≡ precedes b c
named_before b c name p n d some =
    let e1 : same_prefix (prefix_of c.event) name.prefix ≡ is_of (prefix_of b.event) c = ap (same_prefix (prefix_of c.event)) p in
    let e2 : (sn_of c.event == name.sn) ≡ (sn_of c.event + 1 == sn_of b.event) = ap (λ m. sn_of c.event == m) n ∙ next (sn_of c.event) (sn_of b.event) some in
    let e3 : same_digest (said_of c.event) name.said ≡ are_same (prior_of b.event) (Some (said_of c.event)) = turned (said_of c.event) name.said ∙ ap (λ o. are_same o (Some (said_of c.event))) (sym d) in
    λ i. e1 i && e2 i && e3 i

module _ {held : List Body} {entries : List Entry} {ns : List ℕ} {released : ℕ} {w : Escrow} {names told places : Name → List ℕ} {came : ClaimKey → List ℕ} {seals : SealKey → List ℕ} {clash : Bool} (h : AreHinted held entries ns released w names told places came seals clash)
    (events : List Event) (same : (n : ℕ) → slice_get events n ≡ option_map (λ b. b.event) (slice_get held n)) where
  -- a test of the accepted event at a place
  at_place : (one : Option Event → Bool) (test : Body → Bool) → ((o : Option Body) → one (option_map (λ b. b.event) o) ≡ option_map_or test o false)
      → (i : ℕ) → one (event_there events (slice_get ns i)) ≡ is_row test (chosen held ns) i
  at_place one test each i =
      same_test one (λ o. option_map_or test o false) (λ b. b.event) each (event_there events (slice_get ns i)) (body_there held (slice_get ns i)) (event_of held events same (slice_get ns i))
      ∙ ap (λ o. option_map_or test o false) (sym (chosen_at held ns h.accepted_held i))

  where_from : (i : ℕ) (c : Body) → slice_get (chosen held ns) i ≡ Some c → (n : ℕ) × (slice_get ns i ≡ Some n) × (slice_get held n ≡ Some c)
  where_from i c at = there_at held (slice_get ns i) c (sym (chosen_at held ns h.accepted_held i) ∙ at)

  pub predecessor_is : (b : Body) (name : Name) → name.prefix ≡ prefix_of b.event → name.sn ≡ sn_of b.event - 1 → prior_of b.event ≡ Some name.said → 0 < sn_of b.event → IsStrictlyIncreasing (places name)
      → find (λ i. is_named name (event_there events (slice_get ns i))) (places name) ≡ position (precedes b) (chosen held ns)
  predecessor_is b name p n d some rising =
      ap (λ q. find q (places name)) (λ k i. at_place (is_named name) (precedes b) each i k)
      ∙ find_place (precedes b) (chosen held ns) (places name) (record {
        rising = rising;
        each = λ i c at t. let from = where_from i c at in let one = same_name_is (name_of c.event) name (named_before b c name p n d some ∙ t) in
            subst (λ m. Contains (places m) i) one (h.accepted i from.0 c from.1 from.2);
      })
    where
      each : (o : Option Body) → is_named name (option_map (λ b. b.event) o) ≡ option_map_or (precedes b) o false
      each None = refl
      each (Some c) = named_before b c name p n d some

  pub sealed_is : (holder : Prefix) (e : Event) → IsEventSeal (record { prefix = prefix_of e; sn = sn_of e; said = said_of e }) → IsStrictlyIncreasing (seals (seal_key holder (name_of e)))
      → list_any (λ i. is_seal_of holder (name_of e) (event_there events (slice_get ns i))) (seals (seal_key holder (name_of e))) ≡ is_sealed (chosen held ns) holder e
  sealed_is holder e is rising =
      ap (λ q. list_any q (seals (seal_key holder (name_of e)))) (λ k i. at_place (is_seal_of holder (name_of e)) (λ c. is_of holder c && seals_event c.event e) each i k)
      ∙ any_place (λ c. is_of holder c && seals_event c.event e) (chosen held ns) (seals (seal_key holder (name_of e))) (record {
        rising = rising;
        each = λ i c at t. let from = where_from i c at in let parts = and_parts (is_of holder c) (seals_event c.event e) t in
            subst (λ p. Contains (seals (seal_key p (name_of e))) i) (same_prefix_is (prefix_of c.event) holder parts.0)
            (h.sealed i from.0 c from.1 from.2 (record { prefix = prefix_of e; sn = sn_of e; said = said_of e }) is (sym (seals-named c.event e) ∙ parts.1));
      })
    where
      each : (o : Option Body) → is_seal_of holder (name_of e) (option_map (λ b. b.event) o) ≡ option_map_or (λ c. is_of holder c && seals_event c.event e) o false
      each None = refl
      each (Some c) = ap (λ b. is_of holder c && b) (sym (seals-named c.event e))

  pub place_is : (number : ℕ) (b : Body) → slice_get held number ≡ Some b → IsStrictlyIncreasing (places (name_of b.event))
      → find (λ i. is_number number (slice_get ns i)) (places (name_of b.event)) ≡ position (λ m. m == number) ns
  place_is number b there rising =
      ap (λ q. find q (places (name_of b.event))) (λ k i. each (slice_get ns i) k)
      ∙ find_place (λ m. m == number) ns (places (name_of b.event)) (record {
        rising = rising;
        each = λ i m at t. h.accepted i m b at (ap (slice_get held) (numbers m number t) ∙ there);
      })
    where
      each : (o : Option ℕ) → is_number number o ≡ option_map_or (λ m. m == number) o false
      each None = refl
      each (Some m) = refl

  pub come_is : (n : ℕ) (c : Claim) → list_any (λ i. has_claim n c (slice_get entries i)) (came (claim_key n c)) ≡ list_any (same_claim c) (came_with n entries)
  come_is n c =
      ap (λ q. list_any q (came (claim_key n c))) (λ k i. each (slice_get entries i) k)
      ∙ any_among (λ e. list_any (same_claim c) (came_by n e)) entries (came (claim_key n c)) known
      ∙ sym (any_flat (same_claim c) (came_by n) entries)
    where
      each : (o : Option Entry) → has_claim n c o ≡ option_map_or (λ e. list_any (same_claim c) (came_by n e)) o false
      each None = refl
      each (Some (Took reader m claims)) = elim (cases_Bool (m == n)) [ inl k ↦ rw k refl | inr k ↦ rw k refl ]
      each (Some (Heard reader m key sig verdict)) = refl

      any_flat : {X Y : Type 0} (p : Y → Bool) (f : X → List Y) (xs : List X) → list_any p (flat_map f xs) ≡ list_any (λ x. list_any p (f x)) xs
      any_flat p f [] = refl
      any_flat p f (x ∷ xs) = let both = list_any-append p (f x) (flat_map f xs) in let more = any_flat p f xs in rw (both, more) refl

      known : (i : ℕ) (e : Entry) → slice_get entries i ≡ Some e → list_any (same_claim c) (came_by n e) ≡ true → Contains (came (claim_key n c)) i
      known i (Took reader m claims) at t = elim (cases_Bool (m == n)) [
        | inl k ↦ (let those = rw k at t in let found = found_at (same_claim c) claims those in let one = same_claim_is c found.1 found.3 in
            subst (λ x. Contains (came (claim_key x c)) i) (numbers m n k) (h.came i reader m claims c at (contained claims found.0 c (found.2 ∙ ap (λ x. Some x) (sym one)))))
        | inr k ↦ (let no = rw k at t in cc)
      ]
      known i (Heard reader m key sig verdict) at t = cc

-- where no two places have events of one name, no two accepted events clash
pub no_clash : {held : List Body} {entries : List Entry} {ns : List ℕ} {released : ℕ} {w : Escrow} {names told places : Name → List ℕ} {came : ClaimKey → List ℕ} {seals : SealKey → List ℕ} {clash : Bool} → AreHinted held entries ns released w names told places came seals clash
    → clash ≡ false → HasNoClash (chosen held ns)
no_clash {held = held} {ns = ns} h clear b c b_in c_in prefix sn said =
    let log = chosen held ns in
    let b_at = member_at log b b_in in
    let c_at = member_at log c c_in in
    let from_b = from b_in.0 b b_at in
    let from_c = from c_in.0 c c_at in
    let name : name_of b.event ≡ name_of c.event = λ i. record { prefix = prefix i; sn = sn i; said = said i } in
    let place = h.once clear b_in.0 c_in.0 from_b.0 from_c.0 b c from_b.1 from_b.2 from_c.1 from_c.2 name in
    ap (λ x. x.bytes) (some_is b c (sym b_at ∙ ap (slice_get log) place ∙ c_at))
  where
    member_at : (xs : List Body) (x : Body) → (inside : Contains xs x) → slice_get xs inside.0 ≡ Some x
    member_at xs x inside = slice_get-get_or xs inside.0 x inside.1 ∙ ap Some inside.2

    from : (i : ℕ) (x : Body) → slice_get (chosen held ns) i ≡ Some x → (n : ℕ) × (slice_get ns i ≡ Some n) × (slice_get held n ≡ Some x)
    from i x at = there_at held (slice_get ns i) x (sym (chosen_at held ns h.accepted_held i) ∙ at)
