-- How the rows of a table go with what a core is told and accepts.
use Rattle.std.proofs.Common.{◌≡◌, ℕ, suc, ◌<◌, Bool, true, false, ◌==◌, List, [], ◌∷◌, ◌++◌, length, map, Option, Some, None, refl, sym, ◌∙◌, ap, inl, inr, arith, append-nil, append_assoc, subst, if◌then◌else◌}
use Rattle.std.specs.Prelude.{filter, slice_get}
use Rattle.std.specs.List.{list_all}
use Rattle.std.proofs.lemmas.Bool.{cases_Bool, and_parts}
use Rattle.std.proofs.lemmas.List.Elements.{filter-append, filter_map-append}
use Rattle.cesr_codes.specs.declared.key.Key.{Key}
use Rattle.cesr_codes.specs.declared.sig.Sig.{Sig}
use Rattle.event_body.specs.declared.event_body.event.Event.{Event}
use Rattle.key_state.specs.Exposure.{own_rules}
use Rattle.key_state.specs.States.{State}
use Rattle.key_state.proofs.Same.{numbers, number_itself}
use Rattle.journal.specs.declared.journal.body.Body.{Body}
use Rattle.journal.specs.Journal.Logs.{same_body, stands}
use Rattle.journal.specs.Journal.History.{Told, Triple, same_triple, claims_in, claims_on}
use Rattle.journal.specs.Journal.Questions.{state_before}
use Rattle.journal.proofs.JournalLemmas.Places.{one_body, one_place, slice_get_last, slice_get_before}
use Rattle.journal.proofs.JournalLemmas.Different.{Differ}
use Rattle.journal.proofs.JournalLemmas.Same.{same_triple_is, same_triple_itself}
use Rattle.journal.specs.EventRules.Parts.{Row as Found}
use Rattle.claim_table.specs.CoreLaws.Claimed.{row_of, rows_of}
use Rattle.claim_table.specs.declared.claim_table.claimed.Claimed.{Claimed}
use Rattle.claim_table.specs.declared.claim_table.row.Row.{Row}
use Rattle.claim_table.specs.declared.claim_table.signature.Signature.{Signature}
use Rattle.claim_table.specs.ClaimTable.Rows.{DoAgree}
use Rattle.claim_table.specs.ClaimTable.Rows.{signature_of, is_of, is_raised, verdict_of, raised, raised_all, same_signature, with_verdicts}
use Rattle.claim_table.specs.ClaimTable.Table.{AreBelow}
use Rattle.claim_table.proofs.ClaimTableLemmas.Rows.{agree_raised, agree_set, same_is, same_itself, set_at, set_claimed, verdict_heard, verdict_none, verdict_other, verdict_raised}
use Rattle.claim_table.specs.CoreLaws.ClaimRows.{AreFound, found_on, claimed_at, triple_on, HasClaims}
use Rattle.claim_table.proofs.CoreLawsLemmas.Told.{claims_push}

length_push : {X : Type 0} (xs : List X) (x : X) → length (xs ++ x ∷ []) ≡ suc (length xs)
length_push [] x = refl
length_push (y ∷ xs) x = ap suc (length_push xs x)

-- CLAIMS of a body with one more entry: those of the entry that stand on it come last
pub found_push : (told : List Told) (t : Told) (log : List Body) (b : Body)
    → found_on (told ++ t ∷ []) log b ≡ found_on told log b ++ (if stands log b then rows_of (own_rules (state_before log b) b.event) (claims_in b t) else [])
unfolding found_on
found_push told t log b = elim (cases_Bool (stands log b)) [
  | inl k ↦ rw k (ap (rows_of (own_rules (state_before log b) b.event)) (claims_push told t b)
      ∙ filter_map-append (row_of (own_rules (state_before log b) b.event)) (claims_on told b) (claims_in b t))
  | inr k ↦ rw k refl
]

-- claims found, one list behind another
pub found_append : (n : ℕ) (s : Option State) (e : Event) (fs gs : List Found) (cs ds : List Claimed) → AreFound n s e fs cs → AreFound n s e gs ds → AreFound n s e (fs ++ gs) (cs ++ ds)
found_append n s e [] gs [] ds one two = two
found_append n s e [] gs (c ∷ cs) ds one two = absurd one
found_append n s e (f ∷ fs) gs [] ds one two = absurd one
found_append n s e (f ∷ fs) gs (c ∷ cs) ds one two = (one.0, found_append n s e fs gs cs ds one.1 two)

-- they are all on the body
pub found_body : (n : ℕ) (s : Option State) (e : Event) (fs : List Found) (cs : List Claimed) → AreFound n s e fs cs → list_all (λ c. c.body == n) cs ≡ true
found_body n s e [] [] are = refl
found_body n s e [] (c ∷ cs) are = absurd are
found_body n s e (f ∷ fs) [] are = absurd are
found_body n s e (f ∷ fs) (c ∷ cs) are =
    let here : (c.body == n) ≡ true = ap (λ m. m == n) are.0.body ∙ number_itself n in
    rw here (found_body n s e fs cs are.1)

-- none found has no state
pub found_none : (n : ℕ) (s t : Option State) (e : Event) (cs : List Claimed) → AreFound n s e [] cs → AreFound n t e [] cs
found_none n s t e [] are = tt
found_none n s t e (c ∷ cs) are = absurd are

-- CLAIMS of a body, once more are raised
pub claimed_raised : (n : ℕ) (rows : List Row) (cs : List Claimed) → claimed_at n (raised_all rows cs) ≡ claimed_at n rows ++ filter (λ c. c.body == n) cs
unfolding claimed_at
claimed_raised n rows [] = sym (append-nil (filter (λ c. c.body == n) (map (λ r. r.claimed) rows)))
claimed_raised n rows (c ∷ cs) =
    claimed_raised n (raised rows c) cs
    ∙ ap (λ l. l ++ filter (λ c. c.body == n) cs) (ap (filter (λ c. c.body == n)) (map_push rows) ∙ filter-append (λ c. c.body == n) (map (λ r. r.claimed) rows) (c ∷ []))
    ∙ append_assoc (filter (λ c. c.body == n) (map (λ r. r.claimed) rows)) (filter (λ c. c.body == n) (c ∷ [])) (filter (λ c. c.body == n) cs)
    ∙ ap (λ l. filter (λ c. c.body == n) (map (λ r. r.claimed) rows) ++ l) (sym (filter-append (λ c. c.body == n) (c ∷ []) cs))
  where
    map_push : (rows' : List Row) → map (λ r. r.claimed) (rows' ++ record { claimed = c; verdict = verdict_of rows (signature_of c) } ∷ []) ≡ map (λ r. r.claimed) rows' ++ c ∷ []
    map_push [] = refl
    map_push (r ∷ rows') = ap (λ l. r.claimed ∷ l) (map_push rows')

filter_on : (n : ℕ) (cs : List Claimed) → list_all (λ c. c.body == n) cs ≡ true → filter (λ c. c.body == n) cs ≡ cs
filter_on n [] h = refl
filter_on n (c ∷ cs) h = let parts = and_parts (c.body == n) _ h in let here = parts.0 in rw here (ap (λ l. c ∷ l) (filter_on n cs parts.1))

filter_off : (n m : ℕ) → (m == n) ≡ false → (cs : List Claimed) → list_all (λ c. c.body == m) cs ≡ true → filter (λ c. c.body == n) cs ≡ []
filter_off n m other [] h = refl
filter_off n m other (c ∷ cs) h =
    let parts = and_parts (c.body == m) _ h in
    let here : (c.body == n) ≡ false = ap (λ k. k == n) (numbers c.body m parts.0) ∙ other in
    rw here (filter_off n m other cs parts.1)

pub verdict_all : (rows : List Row) (cs : List Claimed) (s : Signature) → verdict_of (raised_all rows cs) s ≡ verdict_of rows s
verdict_all rows [] s = refl
verdict_all rows (c ∷ cs) s = verdict_all (raised rows c) cs s ∙ verdict_raised rows c s

pub agree_all : (rows : List Row) (cs : List Claimed) → DoAgree rows → DoAgree (raised_all rows cs)
agree_all rows [] agree = agree
agree_all rows (c ∷ cs) agree = agree_all (raised rows c) cs (agree_raised rows c agree)

pub below_push : (bodies : ℕ) (rows : List Row) (c : Claimed) → c.body < bodies → AreBelow bodies rows → AreBelow bodies (raised rows c)
below_push bodies rows c low below i r at = elim (cases_Bool (i == length rows)) [
  | inl k ↦ (let last : Some (record { claimed = c; verdict = verdict_of rows (signature_of c) }) ≡ Some r = sym (slice_get_last rows (record { claimed = c; verdict = verdict_of rows (signature_of c) })) ∙ ap (slice_get (raised rows c)) (sym (numbers i (length rows) k)) ∙ at in
      let one : record { claimed = c; verdict = verdict_of rows (signature_of c) } ≡ r = cc in subst (λ q. q.claimed.body < bodies) one low)
  | inr k ↦ below i r (slice_get_before rows (record { claimed = c; verdict = verdict_of rows (signature_of c) }) i r (λ same. (let yes_same : (i == length rows) ≡ true = ap (λ m. m == length rows) same ∙ number_itself (length rows) in cc)) at)
]

pub below_all : (bodies n : ℕ) (rows : List Row) (cs : List Claimed) → n < bodies → list_all (λ c. c.body == n) cs ≡ true → AreBelow bodies rows → AreBelow bodies (raised_all rows cs)
below_all bodies n rows [] low on below = below
below_all bodies n rows (c ∷ cs) low on below =
    let parts = and_parts (c.body == n) _ on in
    let body = numbers c.body n parts.0 in
    below_all bodies n (raised rows c) cs low parts.1 (below_push bodies rows c (subst (λ m. m < bodies) (sym body) low) below)

-- RAISED: the claims on one body are raised
pub has_raised : (behind : Body → Option State) (found now : ℕ → Body → List Found) (said : Triple → Option Bool) (held : List Body) (rows : List Row) (n : ℕ) (b : Body) (fs : List Found) (cs : List Claimed)
    → HasClaims behind found said held rows → slice_get held n ≡ Some b → n < length held → AreFound n (behind b) b.event fs cs
    → now n b ≡ found n b ++ fs → ((m : ℕ) (c : Body) → slice_get held m ≡ Some c → (n == m) ≡ false → now m c ≡ found m c)
    → HasClaims behind now said held (raised_all rows cs)
has_raised behind found now said held rows n b fs cs has at low are here others = record {
  claims = claims;
  verdicts = λ m c key sig there. verdict_all rows cs (record { body = m; key = key; sig = sig }) ∙ has.verdicts m c key sig there;
  agree = agree_all rows cs has.agree;
  below = below_all (length held) n rows cs low (found_body n (behind b) b.event fs cs are) has.below;
}
  where
    claims : (m : ℕ) (c : Body) → slice_get held m ≡ Some c → AreFound m (behind c) c.event (now m c) (claimed_at m (raised_all rows cs))
    claims m c there = elim (cases_Bool (n == m)) [
      | inl k ↦ (let same = numbers n m k in
          let one : b ≡ c = (let e : Some b ≡ Some c = sym at ∙ ap (slice_get held) same ∙ there in cc) in
          let on = filter_on n cs (found_body n (behind b) b.event fs cs are) in
          let list : claimed_at n (raised_all rows cs) ≡ claimed_at n rows ++ cs = claimed_raised n rows cs ∙ ap (λ l. claimed_at n rows ++ l) on in
          let whole : AreFound n (behind b) b.event (now n b) (claimed_at n (raised_all rows cs))
          = subst (λ l. AreFound n (behind b) b.event (now n b) l) (sym list) (subst (λ l. AreFound n (behind b) b.event l (claimed_at n rows ++ cs)) (sym here) (found_append n (behind b) b.event (found n b) fs (claimed_at n rows) cs (has.claims n b at) are)) in
          subst (λ d. AreFound m (behind d) d.event (now m d) (claimed_at m (raised_all rows cs))) one (subst (λ k. AreFound k (behind b) b.event (now k b) (claimed_at k (raised_all rows cs))) same whole))
      | inr k ↦ (let off = filter_off m n k cs (found_body n (behind b) b.event fs cs are) in
          let list : claimed_at m (raised_all rows cs) ≡ claimed_at m rows = claimed_raised m rows cs ∙ ap (λ l. claimed_at m rows ++ l) off ∙ append-nil (claimed_at m rows) in
          subst (λ l. AreFound m (behind c) c.event (now m c) l) (sym list) (subst (λ l. AreFound m (behind c) c.event l (claimed_at m rows)) (sym (others m c there k)) (has.claims m c there)))
    ]

-- TURNED: claims and verdicts that are the same of each body that is held
pub has_same : (behind now_behind : Body → Option State) (found now : ℕ → Body → List Found) (said now_said : Triple → Option Bool) (held : List Body) (rows : List Row)
    → HasClaims behind found said held rows
    → ((n : ℕ) (b : Body) → slice_get held n ≡ Some b → (cs : List Claimed) → AreFound n (behind b) b.event (found n b) cs → AreFound n (now_behind b) b.event (now n b) cs)
    → ((n : ℕ) (b : Body) (key : Key) (sig : Sig) → slice_get held n ≡ Some b → said (triple_on b key sig) ≡ now_said (triple_on b key sig))
    → HasClaims now_behind now now_said held rows
has_same behind now_behind found now said now_said held rows has moved same = record {
  claims = λ n b at. moved n b at (claimed_at n rows) (has.claims n b at);
  verdicts = λ n b key sig at. has.verdicts n b key sig at ∙ same n b key sig at;
  agree = has.agree;
  below = has.below;
}

-- NEW: a body comes last that no row is of
pub has_new : (behind : Body → Option State) (found : ℕ → Body → List Found) (said : Triple → Option Bool) (held : List Body) (rows : List Row) (b : Body)
    → HasClaims behind found said held rows → found (length held) b ≡ [] → ((key : Key) (sig : Sig) → said (triple_on b key sig) ≡ None)
    → HasClaims behind found said (held ++ b ∷ []) rows
unfolding claimed_at
has_new behind found said held rows b has empty unsaid = record {
  claims = claims;
  verdicts = verdicts;
  agree = has.agree;
  below = λ i r at. (let more : length (held ++ b ∷ []) ≡ suc (length held) = length_push held b in omega (arith, has.below i r at, more));
}
  where
    off : (n : ℕ) → n < length held → (n == length held) ≡ false
    off n low = elim (cases_Bool (n == length held)) [ inr k ↦ k | inl k ↦ (let same = numbers n (length held) k in absurd (omega (arith, low, same))) ]

    none_at : (rows' : List Row) → AreBelow (length held) rows' → filter (λ c. c.body == length held) (map (λ r. r.claimed) rows') ≡ []
    none_at [] below = refl
    none_at (r ∷ rows') below = let here = off r.claimed.body (below 0 r refl) in rw here (none_at rows' (λ i q at. below (suc i) q at))

    new_claims : AreFound (length held) (behind b) b.event (found (length held) b) (claimed_at (length held) rows)
    new_claims = subst (λ l. AreFound (length held) (behind b) b.event l (claimed_at (length held) rows)) (sym empty)
        (subst (λ l. AreFound (length held) (behind b) b.event [] l) (sym (none_at rows has.below)) tt)

    claims : (n : ℕ) (c : Body) → slice_get (held ++ b ∷ []) n ≡ Some c → AreFound n (behind c) c.event (found n c) (claimed_at n rows)
    claims n c at = elim (cases_Bool (n == length held)) [
      | inl k ↦ (let same = numbers n (length held) k in
          let last : Some b ≡ Some c = sym (slice_get_last held b) ∙ ap (slice_get (held ++ b ∷ [])) (sym same) ∙ at in
          let one : b ≡ c = cc in
          subst (λ d. AreFound n (behind d) d.event (found n d) (claimed_at n rows)) one (subst (λ m. AreFound m (behind b) b.event (found m b) (claimed_at m rows)) (sym same) new_claims))
      | inr k ↦ has.claims n c (slice_get_before held b n c (λ same. (let yes_same : (n == length held) ≡ true = ap (λ m. m == length held) same ∙ number_itself (length held) in cc)) at)
    ]

    unraised : (rows' : List Row) (key : Key) (sig : Sig) → AreBelow (length held) rows' → is_raised rows' (record { body = length held; key = key; sig = sig }) ≡ false
    unraised [] key sig below = refl
    unraised (r ∷ rows') key sig below =
        let here = off r.claimed.body (below 0 r refl) in
        let ih = unraised rows' key sig (λ i q at. below (suc i) q at) in
        let not_it : is_of (record { body = length held; key = key; sig = sig }) r ≡ false = rw here refl in
        rw (not_it, ih) refl

    verdicts : (n : ℕ) (c : Body) (key : Key) (sig : Sig) → slice_get (held ++ b ∷ []) n ≡ Some c → verdict_of rows (record { body = n; key = key; sig = sig }) ≡ said (triple_on c key sig)
    verdicts n c key sig at = elim (cases_Bool (n == length held)) [
      | inl k ↦ (let same = numbers n (length held) k in
          let last : Some b ≡ Some c = sym (slice_get_last held b) ∙ ap (slice_get (held ++ b ∷ [])) (sym same) ∙ at in
          let one : b ≡ c = cc in
          ap (λ m. verdict_of rows (record { body = m; key = key; sig = sig })) same ∙ verdict_none rows (record { body = length held; key = key; sig = sig }) (unraised rows key sig has.below)
          ∙ sym (unsaid key sig) ∙ ap (λ d. said (triple_on d key sig)) one)
      | inr k ↦ has.verdicts n c key sig (slice_get_before held b n c (λ same. (let yes_same : (n == length held) ≡ true = ap (λ m. m == length held) same ∙ number_itself (length held) in cc)) at)
    ]

-- HEARD: a verdict on a signature that has none
pub has_heard : (behind : Body → Option State) (found : ℕ → Body → List Found) (said now_said : Triple → Option Bool) (held : List Body) (rows : List Row) (n : ℕ) (b : Body) (key : Key) (sig : Sig) (verdict : Bool)
    → HasClaims behind found said held rows → Differ same_body held → slice_get held n ≡ Some b → is_raised rows (record { body = n; key = key; sig = sig }) ≡ true
    → ((x : Triple) → now_said x ≡ (if same_triple x (triple_on b key sig) then Some verdict else said x))
    → HasClaims behind found now_said held (with_verdicts (record { body = n; key = key; sig = sig }) (Some verdict) rows)
unfolding claimed_at
has_heard behind found said now_said held rows n b key sig verdict has differ at there now = record {
  claims = λ m c low. subst (λ l. AreFound m (behind c) c.event (found m c) l) (sym (claimed_set rows m)) (has.claims m c low);
  verdicts = verdicts;
  agree = agree_set s (Some verdict) rows has.agree;
  below = below;
}
  where
    s : Signature
    s = record { body = n; key = key; sig = sig }

    claimed_set : (rows' : List Row) (m : ℕ) → claimed_at m (with_verdicts s (Some verdict) rows') ≡ claimed_at m rows'
    claimed_set rows' m = ap (filter (λ c. c.body == m)) (same rows')
      where
        same : (rs : List Row) → map (λ r. r.claimed) (with_verdicts s (Some verdict) rs) ≡ map (λ r. r.claimed) rs
        same [] = refl
        same (r ∷ rs) = let here = set_claimed s (Some verdict) r in let ih = same rs in λ i. here i ∷ ih i

    below : AreBelow (length held) (with_verdicts s (Some verdict) rows)
    below i r there' = let q = set_at s (Some verdict) rows i r there' in
        subst (λ c. c.body < length held) (sym (set_claimed s (Some verdict) q.0) ∙ ap (λ x. x.claimed) q.2) (has.below i q.0 q.1)

    verdicts : (m : ℕ) (c : Body) (k : Key) (g : Sig) → slice_get held m ≡ Some c → verdict_of (with_verdicts s (Some verdict) rows) (record { body = m; key = k; sig = g }) ≡ now_said (triple_on c k g)
    verdicts m c k g low = elim (cases_Bool (same_signature s (record { body = m; key = k; sig = g }))) [
      | inl y ↦ (let same = same_is s (record { body = m; key = k; sig = g }) y in
          let one = one_body held differ n m b c at low (ap (λ d. d.bytes) (let e : Some b ≡ Some c = sym at ∙ ap (slice_get held) (ap (λ t. t.body) same) ∙ low in let is : b ≡ c = cc in is)) in
          let triple : same_triple (triple_on c k g) (triple_on b key sig) ≡ true = sym (λ i. same_triple (triple_on (one i) (ap (λ t. t.key) same i) (ap (λ t. t.sig) same i)) (triple_on b key sig)) ∙ same_triple_itself (triple_on b key sig) in
          ap (verdict_of (with_verdicts s (Some verdict) rows)) (sym same) ∙ verdict_heard s (Some verdict) rows there ∙ sym (now (triple_on c k g) ∙ rw triple refl))
      | inr y ↦ (let other : same_triple (triple_on c k g) (triple_on b key sig) ≡ false = differs y in
          verdict_other s (record { body = m; key = k; sig = g }) (Some verdict) rows (λ e. (let yes_same : same_signature s (record { body = m; key = k; sig = g }) ≡ true = ap (same_signature s) (sym e) ∙ same_itself s in cc))
          ∙ has.verdicts m c k g low ∙ sym (now (triple_on c k g) ∙ rw other refl))
    ]
      where
        differs : same_signature s (record { body = m; key = k; sig = g }) ≡ false → same_triple (triple_on c k g) (triple_on b key sig) ≡ false
        differs y = elim (cases_Bool (same_triple (triple_on c k g) (triple_on b key sig))) [
          | inr z ↦ z
          | inl z ↦ (let is = same_triple_is (triple_on c k g) (triple_on b key sig) z in
              let place = one_place held differ n m b c at low (ap (λ t. t.body) (sym is)) in
              let e : s ≡ record { body = m; key = k; sig = g } = λ i. record { body = place i; key = ap (λ t. t.key) (sym is) i; sig = ap (λ t. t.sig) (sym is) i } in
              let yes_same : same_signature s (record { body = m; key = k; sig = g }) ≡ true = ap (same_signature s) (sym e) ∙ same_itself s in cc)
        ]
