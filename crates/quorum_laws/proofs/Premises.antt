-- What the laws of agreement ask can be met by bodies that are spelled, and can be broken.
use Rattle.std.proofs.Common.{◌≡◌, ℕ, ◌<◌, ◌≤◌, ◌⊎◌, inl, inr, true, false, List, [], ◌∷◌, Some, get_or, length, Contains, refl, sym, ◌∙◌, ap, subst, lit<, lit≤, arith}
use Rattle.std.specs.Prelude.{count_by}
use Rattle.std.proofs.lemmas.List.Elements.{All-nil, All-cons, All-head, All-contains}
use Rattle.cesr_codes.specs.declared.key.Key.{Key}
use Rattle.cesr_codes.specs.declared.sig.Sig.{Sig}
use Rattle.event_body.proofs.EventBodyLemmas.Whole.{one_event}
use Rattle.event_body.specs.declared.event_body.event.Event.{Event}
use Rattle.event_body.specs.declared.event_body.event.Event.TheVariants.{Icp, Ixn}
use Rattle.event_body.specs.declared.event_body.interaction.Interaction.{Interaction}
use Rattle.event_body.specs.EventBody.Events.{is_establishment, said_of}
use Rattle.event_body.specs.EventBody.Judging.{SpellsEvent}
use Rattle.key_state.specs.Exposure.{exposed}
use Rattle.key_state.specs.Same.{same_key, has_key, distinct}
use Rattle.sith.specs.Tests.{satisfied}
use Rattle.journal.proofs.JournalLemmas.Keeping.{IsGrown-push}
use Rattle.journal.proofs.JournalLemmas.Premises.{nothing_grown}
use Rattle.journal.specs.Journal.Acceptance.{settled, grown_by}
use Rattle.journal.specs.Journal.Accepted.{accepted}
use Rattle.journal.specs.declared.journal.body.Body.{Body}
use Rattle.journal.specs.declared.journal.claim.Claim.TheVariants.{Controller}
use Rattle.journal.specs.declared.journal.mode.Mode.TheVariants.{Full}
use Rattle.journal.specs.Journal.Grown.{fits}
use Rattle.journal.specs.Journal.History.{Told, took, heard, bodies, claims_on, said_yes}
use Rattle.journal.specs.Journal.Logs.{state}
use Rattle.journal.specs.Journal.Readiness.{is_ready, signed, good_sigs, backers, backs}
use Rattle.journal.specs.Journal.Seals.{anchored}
use Rattle.quorum_laws.proofs.Bodies.{controller, witness, inception, first_said, second_said, first_bytes, second_bytes}
use Rattle.quorum_laws.specs.Agreement.{union, Binds, NoClash, IsUnder, ShareHistory, AreOneEvent}
use Rattle.quorum_laws.specs.Backing.{AreSpelled, IsBacked, IsHonest, rules_in, vouches}
use Rattle.quorum_laws.specs.Histories.{Signing, did_sign, AreLevel, IsLawful}

abbrev first : Body
first = record { bytes = first_bytes; event = Icp (inception first_said (witness 1)) }

abbrev second : Body
second = record { bytes = second_bytes; event = Icp (inception second_said (witness 2)) }

abbrev signed_by : Key → List ℕ → Signing
signed_by key body = record { key = key; body = body }

-- one of a list of one, and of a list of two
only : {X : Type 0} (x z : X) → Contains (x ∷ []) z → z ≡ x
only {X = X} x z inside = let P : X → Type 0 = λ z. z ≡ x in All-contains P (x ∷ []) z (All-cons P x [] refl (All-nil P)) inside

either : {X : Type 0} (x y z : X) → Contains (x ∷ y ∷ []) z → (z ≡ x) ⊎ (z ≡ y)
either {X = X} x y z inside =
    let P : X → Type 0 = λ z. (z ≡ x) ⊎ (z ≡ y) in
    All-contains P (x ∷ y ∷ []) z (All-cons P x (y ∷ []) (inl refl) (All-cons P y [] (inr refl) (All-nil P))) inside

-- the bodies, their digests and their witnesses differ
other_said : first_said ≡ second_said → ⊥
other_said same = let byte : 0xCE ≡ 0x07 = ap (λ said. get_or said.raw 0 0) same in omega (arith, byte)

other_bytes : first_bytes ≡ second_bytes → ⊥
other_bytes same = let character : 77 ≡ 65 = ap (λ bytes. get_or bytes 41 0) same in omega (arith, character)

other_witness : witness 1 ≡ witness 2 → ⊥
other_witness same = let byte : 1 ≡ 2 = ap (λ key. get_or key.raw 0 0) same in omega (arith, byte)

-- both set the keys of one identifier under one number
level : AreLevel first.event second.event
level = record { first_sets_keys = refl; second_sets_keys = refl; prefix = refl; sn = refl }

module _ (first_spelled : SpellsEvent (Icp (inception first_said (witness 1))) first_bytes) (second_spelled : SpellsEvent (Icp (inception second_said (witness 2))) second_bytes) where
  -- a key that signed both isn't lawful, unless it is bad
  abbrev by_one_key : List Signing
  by_one_key = signed_by (witness 1) first_bytes ∷ signed_by (witness 1) second_bytes ∷ []

  unlawful : IsLawful by_one_key [] → ⊥
  unlawful lawful = other_bytes (lawful (signed_by (witness 1) first_bytes) (signed_by (witness 1) second_bytes) first.event second.event (0, lit< tt, refl) (1, lit< tt, refl) refl refl first_spelled second_spelled level)

  of_bad : IsLawful by_one_key (witness 1 ∷ [])
  of_bad s t e f s_in t_in same good spelled_e spelled_f both =
      let P : Signing → Type 0 = λ s. has_key (witness 1 ∷ []) s.key ≡ true in
      let is_bad = All-contains P by_one_key s (All-cons P (signed_by (witness 1) first_bytes) (signed_by (witness 1) second_bytes ∷ []) refl (All-cons P (signed_by (witness 1) second_bytes) [] refl (All-nil P))) s_in in cc

  -- a key that signed two interactions is lawful
  two_interactions : (key : Key) (x y : List ℕ) (d e : Interaction) → SpellsEvent (Ixn d) x → SpellsEvent (Ixn e) y → IsLawful (signed_by key x ∷ signed_by key y ∷ []) []
  two_interactions key x y d e h k s t f g s_in t_in same good spelled_f spelled_g both =
      let P : Signing → Type 0 = λ s. (f : Event) → SpellsEvent f s.body → is_establishment f ≡ false in
      let all = All-cons P (signed_by key x) (signed_by key y ∷ []) (λ f l. ap is_establishment (one_event f (Ixn d) x l h))
      (All-cons P (signed_by key y) [] (λ f l. ap is_establishment (one_event f (Ixn e) y l k)) (All-nil P)) in
      let none = All-contains P (signed_by key x ∷ signed_by key y ∷ []) s all s_in f spelled_f in
      let some = both.first_sets_keys in cc

  -- each is signed by its witness
  abbrev receipts : List Signing
  receipts = signed_by (witness 1) first_bytes ∷ signed_by (witness 2) second_bytes ∷ []

  lawful : IsLawful receipts []
  lawful s t e f s_in t_in same good spelled_e spelled_f both = of (either _ _ s s_in) (either _ _ t t_in)
    where
      of : (s ≡ signed_by (witness 1) first_bytes) ⊎ (s ≡ signed_by (witness 2) second_bytes)
          → (t ≡ signed_by (witness 1) first_bytes) ⊎ (t ≡ signed_by (witness 2) second_bytes) → s.body ≡ t.body
      of (inl h) (inl k) = ap (λ s. s.body) (h ∙ sym k)
      of (inr h) (inr k) = ap (λ s. s.body) (h ∙ sym k)
      of (inl h) (inr k) = absurd (other_witness (sym (ap (λ s. s.key) h) ∙ same ∙ ap (λ s. s.key) k))
      of (inr h) (inl k) = absurd (other_witness (sym (ap (λ s. s.key) k) ∙ sym same ∙ ap (λ s. s.key) h))

  -- a list of one is backed where enough vouch for it, which nobody does without a signature
  backed : (b : Body) (history : List Signing) → SpellsEvent b.event b.bytes → fits [] b ≡ true
      → (rules_in (b ∷ []) b).toad ≤ count_by (vouches history [] b) (distinct same_key (rules_in (b ∷ []) b).witnesses) → IsBacked (b ∷ []) history []
  backed b history spelled fits enough =
      let P : Body → Type 0 = λ b. SpellsEvent b.event b.bytes in
      record {
        spelled = All-cons P b [] spelled (All-nil P);
        grown = IsGrown-push [] b nothing_grown fits;
        enough = λ c inside est.
            subst (λ c. (rules_in (b ∷ []) c).toad ≤ count_by (vouches history [] c) (distinct same_key (rules_in (b ∷ []) c).witnesses)) (sym (only b c inside)) enough;
      }

  first_backed : IsBacked (first ∷ []) receipts []
  unfolding fits state distinct
  first_backed = backed first receipts first_spelled refl (lit≤ tt)

  second_backed : IsBacked (second ∷ []) receipts []
  unfolding fits state distinct
  second_backed = backed second receipts second_spelled refl (lit≤ tt)

  unbacked : IsBacked (first ∷ []) [] [] → ⊥
  unfolding distinct
  unbacked backed = let none : 1 ≤ 0 = backed.enough first (0, lit< tt, refl) refl in omega (arith, none)

  -- two bodies of two digests don't clash, and two of one digest do
  unclashing : NoClash (first ∷ []) (second ∷ [])
  unclashing b c b_in c_in same = of (either first second b b_in) (either first second c c_in)
    where
      of : (b ≡ first) ⊎ (b ≡ second) → (c ≡ first) ⊎ (c ≡ second) → b.bytes ≡ c.bytes
      of (inl h) (inl k) = ap (λ b. b.bytes) (h ∙ sym k)
      of (inr h) (inr k) = ap (λ b. b.bytes) (h ∙ sym k)
      of (inl h) (inr k) = absurd (other_said (sym (ap (λ b. said_of b.event) h) ∙ same ∙ ap (λ b. said_of b.event) k))
      of (inr h) (inl k) = absurd (other_said (sym (ap (λ b. said_of b.event) k) ∙ sym same ∙ ap (λ b. said_of b.event) h))

  clashing : NoClash (first ∷ []) (record { bytes = []; event = first.event } ∷ []) → ⊥
  clashing clash = let same = ap length (clash first (record { bytes = []; event = first.event }) (0, lit< tt, refl) (1, lit< tt, refl) refl) in omega (arith, same)

  -- a list shares its history with itself, and its one witness binds
  shared_alike : ShareHistory (first ∷ []) (first ∷ []) receipts []
  shared_alike = record { lawful = lawful; first = first_backed; second = first_backed; no_clash = alike }
    where
      alike : NoClash (first ∷ []) (first ∷ [])
      alike b c b_in c_in same = ap (λ b. b.bytes) (of (either first first b b_in) ∙ sym (of (either first first c c_in)))
        where
          of : {b : Body} → (b ≡ first) ⊎ (b ≡ first) → b ≡ first
          of (inl h) = h
          of (inr h) = h

  bound : Binds (witness 1 ∷ []) 1 (witness 1 ∷ []) 1 0
  unfolding Binds distinct
  bound = lit< tt

  -- both lists share a history; they differ all the same, since their witness lists don't bind
  shared : ShareHistory (first ∷ []) (second ∷ []) receipts []
  shared = record { lawful = lawful; first = first_backed; second = second_backed; no_clash = unclashing }

  under_first : IsUnder (first ∷ []) first (witness 1 ∷ []) 1
  under_first = record { inside = (0, lit< tt, refl); witnesses_are = refl; toad_is = refl }

  unbound : Binds (witness 1 ∷ []) 1 (witness 2 ∷ []) 1 0 → ⊥
  unfolding Binds distinct
  unbound large = let none : 2 < 2 = large in omega (arith, none)

  different : AreOneEvent (first ∷ []) first (second ∷ []) second → ⊥
  different same = other_bytes (ap (λ b. b.bytes) same.event)

  -- what a full validator was told: the body with its controller's signature, and that both signatures are good
  abbrev signature : Sig
  signature = record { raw = 7 ∷ [] }

  abbrev told : List Told
  told = took 0 first (Controller (record { big = false; index = 0; ondex = Some 0; sig = signature; form = refl }) ∷ [])
      ∷ heard 0 first controller signature true ∷ heard 0 first (witness 1) signature true ∷ []

  accepts : accepted Full [] told ≡ first ∷ []
  unfolding accepted grown_by settled is_ready bodies distinct state fits signed good_sigs said_yes claims_on satisfied exposed backers backs anchored
  accepts = refl

  -- it is honest where the witness did sign, and isn't where it didn't
  honest : IsHonest told (first ∷ []) receipts []
  unfolding backers backs distinct
  honest b w inside est backer good =
      let is : b ≡ first = only first b inside in
      let of : Contains (witness 1 ∷ []) w = subst (λ b. Contains (backers told (rules_in (first ∷ []) b).witnesses b) w) is backer in
      let key : w ≡ witness 1 = only (witness 1) w of in
      subst (λ b. did_sign receipts b w ≡ true) (sym is) (subst (λ k. did_sign receipts first k ≡ true) (sym key) refl)

  dishonest : IsHonest told (first ∷ []) [] [] → ⊥
  unfolding backers backs distinct
  dishonest h = let signed : false ≡ true = h first (witness 1) (0, lit< tt, refl) refl (0, lit< tt, refl) refl in cc

  -- bodies are spelled, or have another event than their bytes spell
  spelled : AreSpelled (bodies [] told)
  unfolding bodies distinct
  spelled = let P : Body → Type 0 = λ b. SpellsEvent b.event b.bytes in All-cons P first [] first_spelled (All-nil P)

  unspelled : AreSpelled (record { bytes = first_bytes; event = second.event } ∷ []) → ⊥
  unspelled all =
      let event = one_event first.event second.event first_bytes first_spelled (All-head (λ b. SpellsEvent b.event b.bytes) (record { bytes = first_bytes; event = second.event }) [] all) in
      other_said (ap said_of event)

  -- four witnesses and four of which three are the same have five in their union: 3 and 4 receipts bind with one faulty
  -- witness, 3 and 3 don't
  abbrev four : List Key
  four = witness 1 ∷ witness 2 ∷ witness 3 ∷ witness 4 ∷ []

  abbrev next_four : List Key
  next_four = witness 2 ∷ witness 3 ∷ witness 4 ∷ witness 5 ∷ []

  binding : Binds four 3 next_four 4 1
  unfolding Binds distinct
  binding = lit< tt

  loose : Binds four 3 next_four 3 1 → ⊥
  unfolding Binds distinct
  loose large = let none : 6 < 6 = large in omega (arith, none)

  one_faulty : count_by (has_key (witness 3 ∷ [])) (union four next_four) ≡ 1
  unfolding distinct
  one_faulty = refl
