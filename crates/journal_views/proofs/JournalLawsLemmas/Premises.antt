-- What alike journals are asked can be met, and is needed.
use Rattle.std.proofs.Common.{◌≡◌, ℕ, append-nil, true, false, List, [], ◌∷◌, ◌++◌, Some, None, IsTrue, Contains, refl, sym, ◌∙◌, ap, subst, lit<, inl, inr, append_assoc}
use Rattle.std.specs.List.{list_any}
use Rattle.cesr_codes.specs.declared.digest.Digest.{Digest}
use Rattle.cesr_codes.specs.declared.digest.DigestCode.TheVariants.{Blake3}
use Rattle.cesr_codes.specs.declared.key.Key.{Key}
use Rattle.cesr_codes.specs.declared.key.KeyCode.TheVariants.{Fixed, Rotating}
use Rattle.cesr_codes.specs.declared.prefix.Prefix.{Prefix}
use Rattle.cesr_codes.specs.declared.prefix.Prefix.TheVariants.{Said}
use Rattle.cesr_codes.specs.declared.sig.Sig.{Sig}
use Rattle.event_body.specs.declared.event_body.event.Event.TheVariants.{Icp}
use Rattle.event_body.specs.declared.event_body.inception.Inception.{Inception}
use Rattle.sith.specs.Tests.{satisfied}
use Rattle.sith.specs.declared.threshold.Threshold.TheVariants.{Count}
use Rattle.key_state.specs.Exposure.{exposed}
use Rattle.key_state.specs.KeyStates.{misfit}
use Rattle.key_state.specs.Same.{distinct}
use Rattle.journal.specs.declared.journal.body.Body.{Body}
use Rattle.journal.specs.declared.journal.claim.Claim.{Claim}
use Rattle.journal.specs.declared.journal.claim.Claim.TheVariants.{Controller}
use Rattle.journal.specs.declared.journal.mode.Mode.{Mode}
use Rattle.journal.specs.declared.journal.mode.Mode.TheVariants.{Full}
use Rattle.journal.specs.Journal.Acceptance.{grown_by, settled}
use Rattle.journal.specs.Journal.Accepted.{accepted}
use Rattle.journal.specs.Journal.History.{Told, took, heard, bodies, claims_on, has_verdict, said_yes, same_triple}
use Rattle.journal.specs.Journal.Logs.{predecessor, stands, state}
use Rattle.journal.specs.Journal.Questions.{IsRegular, questions, raised, raised_by}
use Rattle.journal.specs.Journal.Readiness.{backers, backs, good_sigs, is_ready, signed}
use Rattle.journal.specs.Journal.Seals.{anchored}
use Rattle.journal_views.specs.JournalLaws.Alike.{AreAlike, AreSame, HasOneEach, Leads}
use Rattle.key_state.proofs.Among.{Among, among, contained}

-- a verdict was asked for behind what was told before
abbrev pub WasAsked : Mode → List Told → Told → Type 0
WasAsked mode told (took reader b claims) = Unit {0}
WasAsked mode told (heard reader b key sig verdict) = IsTrue (list_any (same_triple (record { body = b.bytes; key = key; sig = sig })) (questions mode [] told))

abbrev pub WereAsked : Mode → List Told → List Told → Type 0
WereAsked mode told [] = Unit {0}
WereAsked mode told (t ∷ later) = WasAsked mode told t × WereAsked mode (told ++ t ∷ []) later

-- REGULAR: entry by entry
asked_at : (mode : Mode) (told rest : List Told) → WereAsked mode told rest → (earlier later : List Told) (t : Told) → rest ≡ earlier ++ t ∷ later → WasAsked mode (told ++ earlier) t
asked_at mode told [] asked [] later t e = cc
asked_at mode told [] asked (x ∷ earlier) later t e = cc
asked_at mode told (r ∷ rest) asked [] later t e =
    let is : r ≡ t = cc in subst (λ xs. WasAsked mode xs t) (sym (append-nil told)) (subst (WasAsked mode told) is asked.0)
asked_at mode told (r ∷ rest) asked (x ∷ earlier) later t e =
    let is : r ≡ x = cc in let more : rest ≡ earlier ++ t ∷ later = cc in
    subst (λ xs. WasAsked mode xs t) (ap (λ y. (told ++ y ∷ []) ++ earlier) is ∙ append_assoc told (x ∷ []) earlier) (asked_at mode (told ++ r ∷ []) rest asked.1 earlier later t more)

pub regular_by : (mode : Mode) (told : List Told) → WereAsked mode [] told → IsRegular mode [] told
regular_by mode told asked earlier later reader b key sig verdict e = asked_at mode [] told asked earlier later (heard reader b key sig verdict) e

-- two inceptions of one identifier, of no witnesses, and a signature. No bytes spell them.
abbrev controller : Key
controller = record { code = Rotating; raw = 1 ∷ [] }

abbrev digest : ℕ → Digest
digest n = record { code = Blake3; raw = n ∷ [] }

abbrev identifier : Prefix
identifier = Said (digest 0)

abbrev begin : ℕ → Inception
begin said = record {
  said = digest said;
  prefix = identifier;
  kt = Count 1;
  keys = controller ∷ [];
  nt = Count 1;
  next = digest 50 ∷ [];
  toad = 0;
  list = [];
  traits = [];
  anchors = [];
  delegator = None;
}

abbrev one : Body
one = record { bytes = 1 ∷ []; event = Icp (begin 0) }

abbrev two : Body
two = record { bytes = 2 ∷ []; event = Icp (begin 5) }

abbrev signature : Sig
signature = record { raw = 7 ∷ [] }

abbrev claim : Claim
claim = Controller (record { big = false; index = 0; ondex = Some 0; sig = signature; form = refl })

abbrev comes : ℕ → Body → Told
comes reader b = took reader b (claim ∷ [])

abbrev is_good : ℕ → Body → Told
is_good reader b = heard reader b controller signature true

-- the body came once, to one reader; twice, to two others; and once without an answer
abbrev once : List Told
once = comes 0 one ∷ is_good 0 one ∷ []

abbrev twice : List Told
twice = comes 1 one ∷ comes 2 one ∷ is_good 1 one ∷ []

abbrev unanswered : List Told
unanswered = comes 0 one ∷ []

-- one of a list of one
only : {X : Type 0} (x z : X) → Contains (x ∷ []) z → x ≡ z
only x z m = of (among (x ∷ []) z m)
  where
    of : Among z (x ∷ []) → x ≡ z
    of (inl e) = e
    of (inr n) = absurd n

first_of : {X : Type 0} (x z : X) (xs : List X) → x ≡ z → Contains (x ∷ xs) z
first_of x z xs e = contained (x ∷ xs) z (inl e)

once_asked : WereAsked Full [] once
unfolding questions raised raised_by stands predecessor accepted grown_by settled is_ready bodies distinct state signed good_sigs said_yes has_verdict claims_on satisfied exposed backers backs anchored
once_asked = (tt, (refl, tt))

twice_asked : WereAsked Full [] twice
unfolding questions raised raised_by stands predecessor accepted grown_by settled is_ready bodies distinct state signed good_sigs said_yes has_verdict claims_on satisfied exposed backers backs anchored
twice_asked = (tt, (tt, (refl, tt)))

once_answered : questions Full [] once ≡ []
unfolding questions raised raised_by stands predecessor accepted grown_by settled is_ready bodies distinct state signed good_sigs said_yes has_verdict claims_on satisfied exposed backers backs anchored
once_answered = refl

twice_answered : questions Full [] twice ≡ []
unfolding questions raised raised_by stands predecessor accepted grown_by settled is_ready bodies distinct state signed good_sigs said_yes has_verdict claims_on satisfied exposed backers backs anchored
twice_answered = refl

claims_are : (b : Body) (c : Claim) → one ≡ b → Contains (claims_on once b) c → Contains (claims_on twice b) c
unfolding claims_on
claims_are b c e = subst (λ b. Contains (claims_on once b) c → Contains (claims_on twice b) c) e (λ m. first_of claim c (claim ∷ []) (only claim c m))

claims_back : (b : Body) (c : Claim) → one ≡ b → Contains (claims_on twice b) c → Contains (claims_on once b) c
unfolding claims_on
claims_back b c e = subst (λ b. Contains (claims_on twice b) c → Contains (claims_on once b) c) e (λ m. first_of claim c [] (of (among (claim ∷ claim ∷ []) c m)))
  where
    of : Among c (claim ∷ claim ∷ []) → claim ≡ c
    of (inl e) = e
    of (inr (inl e)) = e
    of (inr (inr n)) = absurd n

-- they are alike
pub alike : AreAlike Full once twice
unfolding bodies distinct
alike = record {
  there = record {
    regular = regular_by Full once once_asked;
    bodies_come = λ b m. m;
    claims_come = λ b c m n. claims_are b c (only one b m) n;
    one_verdict = λ t y n. cc;
    answered = twice_answered;
  };
  back = record {
    regular = regular_by Full twice twice_asked;
    bodies_come = λ b m. m;
    claims_come = λ b c m n. claims_back b c (only one b m) n;
    one_verdict = λ t y n. cc;
    answered = once_answered;
  };
  one_each = λ b c m n eb ec p sn. ap (λ b. b.bytes) (sym (only one b m) ∙ only one c n);
}

-- one whose question is open is not, and its list differs
open_one : Leads Full once unanswered → ⊥
unfolding questions raised raised_by stands predecessor accepted grown_by settled is_ready bodies distinct state signed good_sigs said_yes has_verdict claims_on satisfied exposed backers backs anchored
open_one h = (let some = h.answered in cc)

differs : accepted Full [] unanswered ≡ []
unfolding accepted grown_by settled is_ready bodies distinct state signed good_sigs said_yes claims_on satisfied exposed backers backs anchored
differs = refl

-- with two events of one identifier and number, what comes first decides, though both were told the same
abbrev one_first : List Told
one_first = comes 0 one ∷ is_good 0 one ∷ comes 0 two ∷ is_good 0 two ∷ []

abbrev two_first : List Told
two_first = comes 0 two ∷ is_good 0 two ∷ comes 0 one ∷ is_good 0 one ∷ []

first_wins : (accepted Full [] one_first ≡ one ∷ []) × (accepted Full [] two_first ≡ two ∷ [])
unfolding accepted grown_by settled is_ready bodies distinct state signed good_sigs said_yes claims_on satisfied exposed backers backs anchored misfit
first_wins = (refl, refl)

all_answered : (questions Full [] one_first ≡ []) × (questions Full [] two_first ≡ [])
unfolding questions raised raised_by stands predecessor accepted grown_by settled is_ready bodies distinct state signed good_sigs said_yes has_verdict claims_on satisfied exposed backers backs anchored misfit
all_answered = (refl, refl)

first_asked : WereAsked Full [] one_first
unfolding questions raised raised_by stands predecessor accepted grown_by settled is_ready bodies distinct state signed good_sigs said_yes has_verdict claims_on satisfied exposed backers backs anchored misfit
first_asked = (tt, (refl, (tt, (refl, tt))))

second_asked : WereAsked Full [] two_first
unfolding questions raised raised_by stands predecessor accepted grown_by settled is_ready bodies distinct state signed good_sigs said_yes has_verdict claims_on satisfied exposed backers backs anchored misfit
second_asked = (tt, (refl, (tt, (refl, tt))))

-- one of a list of two, the other way round
turned : {X : Type 0} (x y z : X) → Contains (x ∷ y ∷ []) z → Contains (y ∷ x ∷ []) z
turned x y z m = contained (y ∷ x ∷ []) z (of (among (x ∷ y ∷ []) z m))
  where
    of : Among z (x ∷ y ∷ []) → Among z (y ∷ x ∷ [])
    of (inl e) = inr (inl e)
    of (inr (inl e)) = inl e
    of (inr (inr n)) = absurd n

-- each body has the one claim in both
one_claim : (told other : List Told) (x y b : Body) (c : Claim) → claims_on told x ≡ claims_on other x → claims_on told y ≡ claims_on other y
    → Contains (x ∷ y ∷ []) b → Contains (claims_on told b) c → Contains (claims_on other b) c
one_claim told other x y b c ex ey m = of (among (x ∷ y ∷ []) b m)
  where
    of : Among b (x ∷ y ∷ []) → Contains (claims_on told b) c → Contains (claims_on other b) c
    of (inl e) = subst (λ b. Contains (claims_on told b) c → Contains (claims_on other b) c) e (subst (λ cs. Contains (claims_on told x) c → Contains cs c) ex (λ n. n))
    of (inr (inl e)) = subst (λ b. Contains (claims_on told b) c → Contains (claims_on other b) c) e (subst (λ cs. Contains (claims_on told y) c → Contains cs c) ey (λ n. n))
    of (inr (inr n)) = absurd n

same_claims : (claims_on one_first one ≡ claims_on two_first one) × (claims_on one_first two ≡ claims_on two_first two)
unfolding claims_on
same_claims = (refl, refl)

they_lead : Leads Full one_first two_first × Leads Full two_first one_first
unfolding bodies distinct
they_lead = (
  record {
    regular = regular_by Full one_first first_asked;
    bodies_come = λ b m. turned one two b m;
    claims_come = λ b c m n. one_claim one_first two_first one two b c same_claims.0 same_claims.1 m n;
    one_verdict = λ t y n. cc;
    answered = all_answered.1;
  },
  record {
    regular = regular_by Full two_first second_asked;
    bodies_come = λ b m. turned two one b m;
    claims_come = λ b c m n. one_claim two_first one_first two one b c (sym same_claims.1) (sym same_claims.0) m n;
    one_verdict = λ t y n. cc;
    answered = all_answered.0;
  },
)

-- so the law fails without the premise of one event for each identifier and number
needs_one_each : ((told other : List Told) → Leads Full told other → Leads Full other told → AreSame Full told other) → ⊥
needs_one_each law =
    let same = law one_first two_first they_lead.0 they_lead.1 in
    let there : Contains (accepted Full [] two_first) one = (same.members one).0 (subst (λ log. Contains log one) (sym first_wins.0) (0, lit< tt, refl)) in
    let is : two ≡ one = only two one (subst (λ log. Contains log one) first_wins.1 there) in
    let bytes : two.bytes ≡ one.bytes = ap (λ b. b.bytes) is in cc

not_one_each : HasOneEach (bodies [] one_first) → ⊥
unfolding bodies distinct
not_one_each h = (let same : one.bytes ≡ two.bytes = h one two (0, lit< tt, refl) (1, lit< tt, refl) refl refl refl refl in cc)

-- a verdict that wasn't asked for may decide, though both were told the same and no question is open
abbrev key : ℕ → Key
key n = record { code = Fixed; raw = n ∷ [] }

abbrev backs_it : Body → ℕ → Told
backs_it b n = heard 0 b (key n) signature true

abbrev watched : Body
watched = record { bytes = 6 ∷ []; event = Icp (record (begin 0) { list = key 1 ∷ []; toad = 1 }) }

abbrev unasked : List Told
unasked = comes 0 watched ∷ is_good 0 watched ∷ backs_it watched 1 ∷ []

abbrev asked : List Told
asked = comes 0 watched ∷ is_good 0 watched ∷ []

needs_regular : (accepted Full [] unasked ≡ watched ∷ []) × (accepted Full [] asked ≡ [])
unfolding accepted grown_by settled is_ready bodies distinct state signed good_sigs said_yes claims_on satisfied exposed backers backs anchored
needs_regular = (refl, refl)

both_answered : (questions Full [] unasked ≡ []) × (questions Full [] asked ≡ [])
unfolding questions raised raised_by stands predecessor accepted grown_by settled is_ready bodies distinct state signed good_sigs said_yes has_verdict claims_on satisfied exposed backers backs anchored
both_answered = (refl, refl)

not_regular : IsRegular Full [] unasked → ⊥
unfolding questions raised raised_by stands predecessor accepted grown_by settled is_ready bodies distinct state signed good_sigs said_yes has_verdict claims_on satisfied exposed backers backs anchored
not_regular h = (let open_one : false ≡ true = h (comes 0 watched ∷ is_good 0 watched ∷ []) [] 0 watched (key 1) signature true refl in cc)
