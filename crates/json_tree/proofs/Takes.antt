-- The longest front of some bytes.
use Rattle.std.proofs.Common.{◌≡◌, ◌≢◌, ℕ, ◌≤◌, List, [], ◌∷◌, ◌++◌, length, refl, sym, ap, subst, ◌∙◌, append_assoc, append-nil, length-append, arith}
use Rattle.json_tree.specs.Fronts.{TakesLongest, NoneStands}

pub first_same : (a b : ℕ) (x y : List ℕ) → a ∷ x ≡ b ∷ y → a ≡ b
first_same a b x y e = cc

-- of two fronts of the same bytes the one with the shorter rest begins with the other
pub align : (a b x y : List ℕ) → a ++ x ≡ b ++ y → length y ≤ length x → (w : List ℕ) × (b ≡ a ++ w) × (x ≡ w ++ y)
align [] b x y e h = (b, refl, e)
align (c ∷ a) [] x y e h = absurd (omega (arith, ap length e, length-append a x))
align (c ∷ a) (d ∷ b) x y e h =
    let tails : a ++ x ≡ b ++ y = cc in
    let r = align a b x y tails h in
    let heads : c ≡ d = cc in
    (r.0, ap (λ l. d ∷ l) r.1 ∙ ap (λ h. h ∷ (a ++ r.0)) (sym heads), r.2)

no_bytes : (l : List ℕ) → length l ≤ 0 → l ≡ []
no_bytes [] h = refl
no_bytes (b ∷ l) h = absurd (omega arith)

module _ (P : List ℕ → Type 0) where
  -- what stands behind a front is no longer than the bytes
  pub length-rest : (bytes rest : List ℕ) → TakesLongest P bytes rest → length rest ≤ length bytes
  length-rest bytes rest t = omega (arith, ap length t.whole, length-append t.front rest)

  nothing_longer : (bytes : List ℕ) → ((b : ℕ) (bs more : List ℕ) → P (b ∷ bs) → bytes ≢ b ∷ (bs ++ more)) → (other more : List ℕ) → P other → bytes ≡ other ++ more → length bytes ≤ length more
  nothing_longer bytes none [] more p e = omega (arith, ap length e)
  nothing_longer bytes none (b ∷ bs) more p e = absurd (none b bs more p e)

  -- only the empty front stands
  pub takes_nothing : (bytes : List ℕ) → P [] → ((b : ℕ) (bs more : List ℕ) → P (b ∷ bs) → bytes ≢ b ∷ (bs ++ more)) → TakesLongest P bytes bytes
  takes_nothing bytes is none =
      let longest : (other more : List ℕ) → P other → bytes ≡ other ++ more → length bytes ≤ length more = nothing_longer bytes none in
      record { front = []; is = is; whole = refl; longest = longest }

  -- nothing is left exactly where all of the bytes are a P
  pub all_of : (bytes rest : List ℕ) → TakesLongest P bytes rest → rest ≡ [] → P bytes
  all_of bytes rest t none = subst P (sym (t.whole ∙ ap (λ l. t.front ++ l) none ∙ append-nil t.front)) t.is

  pub none_left : (bytes rest : List ℕ) → TakesLongest P bytes rest → P bytes → rest ≡ []
  none_left bytes rest t is = no_bytes rest (t.longest bytes [] is (sym (append-nil bytes)))

  pub not_all : (bytes : List ℕ) → NoneStands P bytes → P bytes → ⊥
  not_all bytes none is = none bytes [] is (sym (append-nil bytes))

module _ (P Q : List ℕ → Type 0) where
  pub takes_as : ((text : List ℕ) → P text → Q text) → ((text : List ℕ) → Q text → P text) → (bytes rest : List ℕ) → TakesLongest P bytes rest → TakesLongest Q bytes rest
  takes_as to from bytes rest t = record { front = t.front; is = to t.front t.is; whole = t.whole; longest = λ other more q e. t.longest other more (from other q) e }

  pub none_as : ((text : List ℕ) → Q text → P text) → (bytes : List ℕ) → NoneStands P bytes → NoneStands Q bytes
  none_as from bytes none front more q e = none front more (from front q) e

  behind_longest : ((b : ℕ) (bs : List ℕ) → Q (b ∷ bs) → P bs) → (b : ℕ) → (bytes middle rest : List ℕ) → bytes ≡ b ∷ middle → TakesLongest P middle rest → (other more : List ℕ) → Q other → bytes ≡ other ++ more → length rest ≤ length more
  behind_longest down b bytes middle rest e t [] more q same = omega (arith, ap length e, ap length same, length-rest P middle rest t)
  behind_longest down b bytes middle rest e t (c ∷ cs) more q same = t.longest cs more (down c cs q) (cc)

  -- a byte, and behind it the longest P
  pub takes_behind : ((b : ℕ) (bs : List ℕ) → Q (b ∷ bs) → P bs) → (b : ℕ) → ((bs : List ℕ) → P bs → Q (b ∷ bs)) → (bytes middle rest : List ℕ) → bytes ≡ b ∷ middle → TakesLongest P middle rest → TakesLongest Q bytes rest
  takes_behind down b up bytes middle rest e t =
      record { front = b ∷ t.front; is = up t.front t.is; whole = e ∙ ap (λ l. b ∷ l) t.whole; longest = behind_longest down b bytes middle rest e t }

  -- one and then the other
  abbrev pub Joined : List ℕ → Type 0
  Joined text = (p : List ℕ) × (q : List ℕ) × P p × Q q × (text ≡ p ++ q)

  -- nothing that makes a P longer begins a Q
  abbrev pub Apart : Type 0
  Apart = (p w q : List ℕ) (c : ℕ) → P p → P (p ++ c ∷ w) → Q (c ∷ q) → ⊥

  -- how another P and Q in front of the same bytes ends
  joined_longest : Apart → (middle rest front p q more w : List ℕ) → TakesLongest Q middle rest → P p → P front → Q q → front ≡ p ++ w → q ++ more ≡ w ++ middle → length rest ≤ length more
  joined_longest apart middle rest front p q more [] t is_p is_front is_q longer e = t.longest q more is_q (sym e)
  joined_longest apart middle rest front p [] more (c ∷ w) t is_p is_front is_q longer e =
      omega (arith, ap length e, length-append w middle, length-rest Q middle rest t)
  joined_longest apart middle rest front p (d ∷ q) more (c ∷ w) t is_p is_front is_q longer e =
      let same : d ≡ c = cc in
      absurd (apart p w q c is_p (subst P longer is_front) (subst (λ b. Q (b ∷ q)) same is_q))

  pub takes_joined : Apart → (bytes middle rest : List ℕ) → TakesLongest P bytes middle → TakesLongest Q middle rest → TakesLongest Joined bytes rest
  takes_joined apart bytes middle rest s t = record {
    front = s.front ++ t.front;
    is = (s.front, t.front, s.is, t.is, refl);
    whole = s.whole ∙ ap (λ l. s.front ++ l) t.whole ∙ sym (append_assoc s.front t.front rest);
    longest = λ other more (j : Joined other) e.
        let whole : bytes ≡ j.0 ++ (j.1 ++ more) = e ∙ ap (λ l. l ++ more) j.4 ∙ append_assoc j.0 j.1 more in
        let a = align j.0 s.front (j.1 ++ more) middle (sym whole ∙ s.whole) (s.longest j.0 (j.1 ++ more) j.2 whole) in
        joined_longest apart middle rest s.front j.0 j.1 more a.0 t j.2 s.is j.3 a.1 a.2;
  }

  none_behind : Apart → (Q [] → ⊥) → (middle front p q more w : List ℕ) → NoneStands Q middle → P p → P front → Q q → front ≡ p ++ w → q ++ more ≡ w ++ middle → ⊥
  none_behind apart some middle front p q more [] none is_p is_front is_q longer e = none q more is_q (sym e)
  none_behind apart some middle front p [] more (c ∷ w) none is_p is_front is_q longer e = some is_q
  none_behind apart some middle front p (d ∷ q) more (c ∷ w) none is_p is_front is_q longer e =
      let same : d ≡ c = cc in
      apart p w q c is_p (subst P longer is_front) (subst (λ b. Q (b ∷ q)) same is_q)

  pub none_joined : Apart → (Q [] → ⊥) → (bytes middle : List ℕ) → TakesLongest P bytes middle → NoneStands Q middle → NoneStands Joined bytes
  none_joined apart some bytes middle s none other more j e =
      let whole : bytes ≡ j.0 ++ (j.1 ++ more) = e ∙ ap (λ l. l ++ more) j.4 ∙ append_assoc j.0 j.1 more in
      let a = align j.0 s.front (j.1 ++ more) middle (sym whole ∙ s.whole) (s.longest j.0 (j.1 ++ more) j.2 whole) in
      none_behind apart some middle s.front j.0 j.1 more a.0 none j.2 s.is j.3 a.1 a.2
