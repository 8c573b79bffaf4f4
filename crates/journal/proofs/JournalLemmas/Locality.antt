-- What an entry changes: the readiness of the bodies that it concerns alone.
use Rattle.std.proofs.Common.{◌≡◌, ℕ, Bool, true, false, ◌&&◌, ◌||◌, List, [], ◌∷◌, ◌++◌, Option, Some, None, refl, sym, ◌∙◌, ap, append-nil, option_map, inl, inr}
use Rattle.std.specs.Prelude.{filter, filter_map, flat_map, bytes_eq}
use Rattle.std.specs.List.{list_any}
use Rattle.std.specs.Cmp.Lexicographic.{bytes_decides}
use Rattle.std.proofs.lemmas.List.Folds.{list_any-append}
use Rattle.std.proofs.lemmas.Bool.{cases_Bool}
use Rattle.std.proofs.Math.Bool.{or-false}
use Rattle.std.proofs.lemmas.List.{flat_map_more}
use Rattle.cesr_codes.specs.declared.key.Key.{Key}
use Rattle.cesr_codes.specs.declared.sig.Sig.{Sig}
use Rattle.key_state.specs.States.{State}
use Rattle.journal.specs.declared.journal.claim.Claim.{Claim}
use Rattle.journal.specs.declared.journal.mode.Mode.{Mode}
use Rattle.event_body.specs.EventBody.Events.{prefix_of}
use Rattle.key_state.specs.Same.{same_key}
use Rattle.key_state.specs.Exposure.{Rules, own_rules}
use Rattle.journal.specs.Journal.Logs.{Body, same_body, state}
use Rattle.journal.specs.Journal.History.{Told, took, heard, Triple, same_triple, triple_of, claimed_key, claimed_sig, claims_on, claims_in, is_receipt_for, said_yes, yes_in}
use Rattle.journal.specs.Journal.Readiness.{is_ready, signed, good_sigs, yes_to, held_sig, backers, backs}

-- the entry is of the body: it came, or a receipt for it did, or a verdict on it was heard
abbrev pub concerns : Told → Body → Bool
concerns (took reader c claims) b = same_body c b || is_receipt_for c b
concerns (heard reader c key sig verdict) b = same_body c b

pub flat_map-push : {A B : Type 0} (f : A → List B) (xs : List A) (x : A) → flat_map f (xs ++ x ∷ []) ≡ flat_map f xs ++ f x
flat_map-push f xs x = sym (flat_map_more f [] xs x)

-- texts that differ, differ the other way round
pub bytes_differ : (xs ys : List ℕ) → bytes_eq xs ys ≡ false → bytes_eq ys xs ≡ false
bytes_differ xs ys h = elim (cases_Bool (bytes_eq ys xs)) [
  | inl k ↦ (let same : ys ≡ xs = (bytes_decides ys xs).0 k in let back = (bytes_decides xs ys).1 (sym same) in cc)
  | inr k ↦ k
]

-- a key's signature on a body
abbrev triple_on : Body → Key → Sig → Triple
triple_on b key sig = record { body = b.bytes; key = key; sig = sig }

-- a verdict on another body is none on this one
none : (t : Told) (b : Body) → concerns t b ≡ false → (key : Key) (sig : Sig) → list_any (same_triple (triple_on b key sig)) (yes_in t) ≡ false
none (took reader c claims) b h key sig = refl
none (heard reader c key' sig' true) b h key sig = let other = bytes_differ c.bytes b.bytes h in rw other refl
none (heard reader c key' sig' false) b h key sig = refl

none_back : (t : Told) (b : Body) → concerns t b ≡ false → (w : Key) → list_any (λ y. bytes_eq y.body b.bytes && same_key y.key w) (yes_in t) ≡ false
none_back (took reader c claims) b h w = refl
none_back (heard reader c key sig true) b h w = rw h refl
none_back (heard reader c key sig false) b h w = refl

module _ (told : List Told) (t : Told) (b : Body) (other : concerns t b ≡ false) where
  -- no claim comes to it
  pub claims_on-other : claims_on (told ++ t ∷ []) b ≡ claims_on told b
  unfolding claims_on
  claims_on-other = flat_map-push (claims_in b) told t ∙ ap (λ c. claims_on told b ++ c) (no_claim t other) ∙ append-nil (claims_on told b)
    where
      no_claim : (t : Told) → concerns t b ≡ false → claims_in b t ≡ []
      no_claim (took reader c claims) h = rw h refl
      no_claim (heard reader c key sig verdict) h = refl

  -- no verdict comes on it
  pub said_yes-other : (key : Key) (sig : Sig) → said_yes (told ++ t ∷ []) (triple_on b key sig) ≡ said_yes told (triple_on b key sig)
  unfolding said_yes
  said_yes-other key sig =
      rw (flat_map-push yes_in told t, list_any-append, none t b other key sig) (or-false (list_any (same_triple (triple_on b key sig)) (flat_map yes_in told)))

  -- so the claims with a yes verdict are the same
  yes_to-other : (rules : Rules) (claim : Claim) → yes_to (told ++ t ∷ []) (triple_of rules b claim) ≡ yes_to told (triple_of rules b claim)
  yes_to-other rules claim = elim (claimed_key rules claim) as (λ k. yes_to (told ++ t ∷ []) (option_map (λ k. triple_on b k (claimed_sig claim)) k) ≡ yes_to told (option_map (λ k. triple_on b k (claimed_sig claim)) k)) [
    | None ↦ refl
    | Some key ↦ said_yes-other key (claimed_sig claim)
  ]

  pub good_sigs-other : (s : Option State) → good_sigs (told ++ t ∷ []) s b ≡ good_sigs told s b
  unfolding good_sigs
  good_sigs-other s =
      let rules = own_rules s b.event in
      rw claims_on-other (ap (λ test. filter_map held_sig (filter test (claims_on told b))) (λ i claim. yes_to-other rules claim i))

  -- and so are the witnesses that back it
  pub backs-other : (w : Key) → backs (told ++ t ∷ []) b w ≡ backs told b w
  unfolding backs
  backs-other w = rw (flat_map-push yes_in told t, list_any-append, none_back t b other w) (or-false (list_any (λ y. bytes_eq y.body b.bytes && same_key y.key w) (flat_map yes_in told)))

  -- READINESS of a body stays with an entry that doesn't concern it
  pub is_ready-other : (mode : Mode) (log : List Body) → is_ready mode (told ++ t ∷ []) log b ≡ is_ready mode told log b
  unfolding is_ready signed backers
  is_ready-other mode log =
      let s = state log (prefix_of b.event) in
      let sigs = good_sigs-other s in
      let back : backs (told ++ t ∷ []) b ≡ backs told b = λ i w. backs-other w i in
      rw (sigs, back) refl
