-- Two backed lists under one lawful history have the same event where their witnesses overlap enough.
use Rattle.std.proofs.Common.{◌≡◌, ℕ, ◌≤◌, true, false, ◌&&◌, List, Contains, sym, ◌∙◌, ap, arith, subst, inl, inr}
use Rattle.std.specs.Prelude.{count_by, bytes_eq}
use Rattle.std.specs.Cmp.Lexicographic.{bytes_decides}
use Rattle.std.proofs.lemmas.Bool.{and_parts, not-true, or_cases}
use Rattle.std.proofs.lemmas.List.Elements.{All-contains}
use Rattle.cesr_codes.specs.declared.key.Key.{Key}
use Rattle.event_body.proofs.EventBodyLemmas.Whole.{one_event}
use Rattle.event_body.specs.EventBody.Judging.{SpellsEvent}
use Rattle.journal.specs.declared.journal.body.Body.{Body}
use Rattle.key_state.proofs.Same.{same_key_is}
use Rattle.key_state.specs.Same.{same_key, has_key, distinct}
use Rattle.quorum_laws.specs.Agreement.{union, Binds, IsUnder, ShareHistory}
use Rattle.quorum_laws.specs.Backing.{AreSpelled, rules_in, vouches}
use Rattle.quorum_laws.specs.Histories.{Signing, did_sign, IsLawful, AreLevel}
use Rattle.quorum_laws.proofs.Counting.{count_by-number, common_good, number-distinct_left, number-distinct_right}
use Rattle.quorum_laws.proofs.Members.{any_member}

-- a member of a spelled list has the event that its bytes spell
pub spelled_at : (log : List Body) (b : Body) → AreSpelled log → Contains log b → SpellsEvent b.event b.bytes
spelled_at log b spelled inside = All-contains (λ b. SpellsEvent b.event b.bytes) log b spelled inside

-- spelled bodies of the same bytes are equal
pub one_body : (b c : Body) → SpellsEvent b.event b.bytes → SpellsEvent c.event c.bytes → b.bytes ≡ c.bytes → b ≡ c
one_body b c h k bytes =
    let event = one_event b.event c.event b.bytes h (subst (λ text. SpellsEvent c.event text) (sym bytes) k) in
    λ i. record { bytes = bytes i; event = event i }

-- a signature stands in the history as one of the key on the bytes
signing_of : (history : List Signing) (b : Body) (key : Key) → did_sign history b key ≡ true
    → (s : Signing) × Contains history s × (s.key ≡ key) × (s.body ≡ b.bytes)
signing_of history b key h =
    let (s, inside, passes) = any_member (λ s. same_key s.key key && bytes_eq s.body b.bytes) history h in
    let parts = and_parts (same_key s.key key) (bytes_eq s.body b.bytes) passes in
    (s, inside, same_key_is s.key key parts.0, (bytes_decides s.body b.bytes).0 parts.1)

-- who vouches and isn't bad did sign
vouched : (history : List Signing) (bad : List Key) (b : Body) (key : Key) → has_key bad key ≡ false → vouches history bad b key ≡ true → did_sign history b key ≡ true
vouched history bad b key good h = elim (or_cases (has_key bad key) (did_sign history b key) h) [ inl is_bad ↦ cc (is_bad, good) | inr s ↦ s ]

-- a good key that vouches for two spelled bodies of establishment events of one identifier and number signed one body
one_vouched : (history : List Signing) (bad : List Key) → IsLawful history bad → (b c : Body) → SpellsEvent b.event b.bytes → SpellsEvent c.event c.bytes
    → AreLevel b.event c.event → (key : Key) → has_key bad key ≡ false → vouches history bad b key ≡ true → vouches history bad c key ≡ true → b.bytes ≡ c.bytes
one_vouched history bad lawful b c spelled_b spelled_c level key good for_b for_c =
    let (s, s_in, s_key, s_body) = signing_of history b key (vouched history bad b key good for_b) in
    let (t, t_in, t_key, t_body) = signing_of history c key (vouched history bad c key good for_c) in
    let same = lawful s t b.event c.event s_in t_in (s_key ∙ sym t_key) (ap (has_key bad) s_key ∙ good)
    (subst (λ text. SpellsEvent b.event text) (sym s_body) spelled_b) (subst (λ text. SpellsEvent c.event text) (sym t_body) spelled_c) level in
    sym s_body ∙ same ∙ t_body

-- so many members of its own list stand behind the event
behind : (log : List Body) (history : List Signing) (bad : List Key) (b : Body) (witnesses : List Key) (toad : ℕ)
    → IsUnder log b witnesses toad → (rules_in log b).toad ≤ count_by (vouches history bad b) (distinct same_key (rules_in log b).witnesses)
    → toad ≤ count_by (vouches history bad b) (distinct same_key witnesses)
behind log history bad b witnesses toad under enough =
    let own = subst (λ keys. (rules_in log b).toad ≤ count_by (vouches history bad b) (distinct same_key keys)) under.witnesses_are enough in
    subst (λ n. n ≤ count_by (vouches history bad b) (distinct same_key witnesses)) under.toad_is own

-- SAME EVENT: two establishment events of one identifier and number are equal
pub one_signed : (v w : List Key) (m n faulty : ℕ) → Binds v m w n faulty → (xs ys : List Body) (history : List Signing) (bad : List Key)
    → ShareHistory xs ys history bad → count_by (has_key bad) (union v w) ≤ faulty
    → (b c : Body) → IsUnder xs b v m → IsUnder ys c w n → AreLevel b.event c.event → b ≡ c
unfolding Binds
one_signed v w m n faulty large xs ys history bad shared few b c under_v under_w level =
    let p = vouches history bad b in
    let q = vouches history bad c in
    let hp = behind xs history bad b v m under_v (shared.first.enough b under_v.inside level.first_sets_keys) in
    let hq = behind ys history bad c w n under_w (shared.second.enough c under_w.inside level.second_sets_keys) in
    let found = common_good p q (has_key bad) (union v w) m n faulty
    (omega (arith, hp, count_by-number p (distinct same_key v), number-distinct_left same_key same_key_is p v w))
    (omega (arith, hq, count_by-number q (distinct same_key w), number-distinct_right same_key same_key_is q v w))
    (omega (arith, few, count_by-number (has_key bad) (union v w))) large in
    let parts = and_parts (p found.0 && q found.0) _ found.1 in
    let both = and_parts (p found.0) (q found.0) parts.0 in
    let good = not-true (has_key bad found.0) parts.1 in
    let spelled_b = spelled_at xs b shared.first.spelled under_v.inside in
    let spelled_c = spelled_at ys c shared.second.spelled under_w.inside in
    one_body b c spelled_b spelled_c (one_vouched history bad shared.lawful b c spelled_b spelled_c level found.0 good both.0 both.1)
