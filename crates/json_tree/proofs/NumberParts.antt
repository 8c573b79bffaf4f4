-- The parts of a number, each the longest that stands.
use Rattle.std.proofs.Common.{◌≡◌, ◌≢◌, ℕ, ◌≤◌, ◌⊎◌, inl, inr, List, [], ◌∷◌, ◌++◌, length, refl, sym, ap, subst, ◌∙◌, arith}
use Rattle.json_tree.specs.Fronts.{TakesLongest, NoneStands, StartsWith, IsEither}
use Rattle.json_tree.specs.Numbers.{IsDigit, AreDigits, IsDigitRun, IsMinus, IsInt, IsFrac, IsSign, IsPower, IsExp, IsNumber, IsNumberByte}
use Rattle.json_tree.proofs.Takes.{first_same, takes_nothing, takes_as, takes_behind, Joined, takes_joined}

abbrev NoDigit : List ℕ → Type 0
NoDigit bytes = (rest : List ℕ) → ¬ StartsWith IsDigit bytes rest

-- where the digits end
pub digits_end : (bytes : List ℕ) → NoDigit bytes → TakesLongest AreDigits bytes bytes
digits_end bytes none = takes_nothing AreDigits bytes tt (λ b bs more digits e. none (bs ++ more) (b, digits.0, e))

-- one more digit in front
pub digits_more : (bytes middle rest : List ℕ) → StartsWith IsDigit bytes middle → TakesLongest AreDigits middle rest → TakesLongest AreDigits bytes rest
digits_more bytes middle rest first t = takes_behind AreDigits AreDigits (λ b bs d. d.1) first.0 (λ bs d. (first.1, d)) bytes middle rest first.2 t

pub run_from : (bytes middle rest : List ℕ) → StartsWith IsDigit bytes middle → TakesLongest AreDigits middle rest → TakesLongest IsDigitRun bytes rest
run_from bytes middle rest first t = takes_behind AreDigits IsDigitRun (λ b bs d. d.1) first.0 (λ bs d. (first.1, d)) bytes middle rest first.2 t

no_run : (bytes : List ℕ) → NoDigit bytes → (front more : List ℕ) → IsDigitRun front → bytes ≡ front ++ more → ⊥
no_run bytes none [] more run e = run
no_run bytes none (b ∷ bs) more run e = none (bs ++ more) (b, run.0, e)

pub none_run : (bytes : List ℕ) → NoDigit bytes → NoneStands IsDigitRun bytes
none_run bytes none = no_run bytes none

-- a sign of one byte, where it may be left out
module _ (P : List ℕ → Type 0) (down : (b : ℕ) (bs : List ℕ) → P (b ∷ bs) → bs ≡ []) where
  one_longest : (b : ℕ) (bytes rest : List ℕ) → bytes ≡ b ∷ rest → (other more : List ℕ) → P other → bytes ≡ other ++ more → length rest ≤ length more
  one_longest b bytes rest e [] more p same = omega (arith, ap length e, ap length same)
  one_longest b bytes rest e (c ∷ cs) more p same =
      let behind : bytes ≡ c ∷ more = same ∙ ap (λ l. c ∷ (l ++ more)) (down c cs p) in
      let rests : rest ≡ more = cc in
      omega (arith, ap length rests)

  pub takes_one : (b : ℕ) → P (b ∷ []) → (bytes rest : List ℕ) → bytes ≡ b ∷ rest → TakesLongest P bytes rest
  takes_one b is bytes rest e = record { front = b ∷ []; is = is; whole = e; longest = one_longest b bytes rest e }

-- int
int_is_run : (text : List ℕ) → IsInt text → IsDigitRun text
int_is_run [] int = int
int_is_run (b ∷ bs) (inl zero) = ((omega (arith, zero.0), omega (arith, zero.0)), subst AreDigits (sym zero.1) tt)
int_is_run (b ∷ bs) (inr some) = ((omega (arith, some.0), some.1), some.2)

zero_longest : (bytes rest : List ℕ) → bytes ≡ 48 ∷ rest → (other more : List ℕ) → IsInt other → bytes ≡ other ++ more → length rest ≤ length more
zero_longest bytes rest e [] more int same = absurd int
zero_longest bytes rest e (b ∷ bs) more (inl zero) same =
    let behind : bytes ≡ b ∷ more = same ∙ ap (λ l. b ∷ (l ++ more)) zero.1 in
    let rests : rest ≡ more = cc in
    omega (arith, ap length rests)
zero_longest bytes rest e (b ∷ bs) more (inr some) same =
    let first : b ≡ 48 = cc in
    absurd (omega (arith, some.0))

pub int_zero : (bytes rest : List ℕ) → bytes ≡ 48 ∷ rest → TakesLongest IsInt bytes rest
int_zero bytes rest e = record { front = 48 ∷ []; is = inl (refl, refl); whole = e; longest = zero_longest bytes rest e }

-- frac
pub frac_some : (bytes digits rest : List ℕ) → bytes ≡ 46 ∷ digits → TakesLongest IsDigitRun digits rest → TakesLongest IsFrac bytes rest
frac_some bytes digits rest e t = takes_behind IsDigitRun IsFrac (λ b bs f. f.1) 46 (λ bs run. (refl, run)) bytes digits rest e t

-- exp
pub exp_some : (bytes power rest : List ℕ) → StartsWith (IsEither 101 69) bytes power → TakesLongest IsPower power rest → TakesLongest IsExp bytes rest
exp_some bytes power rest e t = takes_behind IsPower IsExp (λ c cs x. x.1) e.0 (λ cs power. (e.1, power)) bytes power rest e.2 t

pub exp_none : (bytes : List ℕ) → ((rest : List ℕ) → ¬ StartsWith (IsEither 101 69) bytes rest) → TakesLongest IsExp bytes bytes
exp_none bytes other = takes_nothing IsExp bytes tt (λ b bs more x e. other (bs ++ more) (b, x.0, e))

-- [ minus / plus ]
pub sign_some : (bytes rest : List ℕ) → StartsWith (IsEither 43 45) bytes rest → TakesLongest IsSign bytes rest
sign_some bytes rest e = takes_one IsSign (λ b bs m. m.1) e.0 (e.1, refl) bytes rest e.2

pub sign_none : (bytes : List ℕ) → ((rest : List ℕ) → ¬ StartsWith (IsEither 43 45) bytes rest) → TakesLongest IsSign bytes bytes
sign_none bytes other = takes_nothing IsSign bytes tt (λ b bs more x e. other (bs ++ more) (b, x.0, e))

-- a sign and digits
sign_digits_apart : (p w q : List ℕ) (c : ℕ) → IsSign p → IsSign (p ++ c ∷ w) → IsDigitRun (c ∷ q) → ⊥
sign_digits_apart [] w q c sign longer run = elim longer.0 [ inl e ↦ omega (arith, run.0, e) | inr e ↦ omega (arith, run.0, e) ]
sign_digits_apart (b ∷ []) w q c sign longer run = cc (longer.1)
sign_digits_apart (b ∷ d ∷ p) w q c sign longer run = cc (longer.1)

power_to : (text : List ℕ) → Joined IsSign IsDigitRun text → IsPower text
power_to text j = record { sign = j.0; digits = j.1; is_sign = j.2; is_digits = j.3; whole = j.4 }

power_from : (text : List ℕ) → IsPower text → Joined IsSign IsDigitRun text
power_from text p = (p.sign, p.digits, p.is_sign, p.is_digits, p.whole)

pub power_some : (bytes middle rest : List ℕ) → TakesLongest IsSign bytes middle → TakesLongest IsDigitRun middle rest → TakesLongest IsPower bytes rest
power_some bytes middle rest s t =
    takes_as (Joined IsSign IsDigitRun) IsPower power_to power_from bytes rest (takes_joined IsSign IsDigitRun sign_digits_apart bytes middle rest s t)

-- all of it
digits_at : (bs w : List ℕ) (c : ℕ) → AreDigits (bs ++ c ∷ w) → IsDigit c
digits_at [] w c digits = digits.0
digits_at (b ∷ bs) w c digits = digits_at bs w c digits.1

run_at : (bs w : List ℕ) (c : ℕ) → IsDigitRun (bs ++ c ∷ w) → IsDigit c
run_at [] w c run = run.0
run_at (b ∷ bs) w c run = digits_at bs w c run.1

frac_exp_apart : (p w q : List ℕ) (c : ℕ) → IsFrac p → IsFrac (p ++ c ∷ w) → IsExp (c ∷ q) → ⊥
frac_exp_apart [] w q c frac longer exp = elim exp.0 [ inl e ↦ omega (arith, longer.0, e) | inr e ↦ omega (arith, longer.0, e) ]
frac_exp_apart (b ∷ bs) w q c frac longer exp =
    let digit = run_at bs w c longer.1 in
    elim exp.0 [ inl e ↦ omega (arith, digit, e) | inr e ↦ omega (arith, digit, e) ]

abbrev FracExp : List ℕ → Type 0
FracExp = Joined IsFrac IsExp

no_digit_first : (c : ℕ) (q frac exp : List ℕ) → IsDigit c → IsFrac frac → IsExp exp → c ∷ q ≡ frac ++ exp → ⊥
no_digit_first c q [] [] digit is_frac is_exp e = cc
no_digit_first c q [] (d ∷ exp) digit is_frac is_exp e =
    let same : c ≡ d = cc in
    elim is_exp.0 [ inl is ↦ omega (arith, digit, is, same) | inr is ↦ omega (arith, digit, is, same) ]
no_digit_first c q (d ∷ frac) exp digit is_frac is_exp e =
    let same : c ≡ d = cc in
    omega (arith, digit, is_frac.0, same)

int_apart : (p w q : List ℕ) (c : ℕ) → IsInt p → IsInt (p ++ c ∷ w) → FracExp (c ∷ q) → ⊥
int_apart p w q c int longer j = no_digit_first c q j.0 j.1 (run_at p w c (int_is_run (p ++ c ∷ w) longer)) j.2 j.3 j.4

abbrev IntFracExp : List ℕ → Type 0
IntFracExp = Joined IsInt FracExp

starts_with_int : (c : ℕ) (q int more : List ℕ) → IsDigitRun int → c ∷ q ≡ int ++ more → IsDigit c
starts_with_int c q [] more run e = absurd run
starts_with_int c q (d ∷ int) more run e = subst IsDigit (let same : d ≡ c = cc in same) run.0

minus_apart : (p w q : List ℕ) (c : ℕ) → IsMinus p → IsMinus (p ++ c ∷ w) → IntFracExp (c ∷ q) → ⊥
minus_apart [] w q c minus longer j = omega (arith, longer.0, starts_with_int c q j.0 j.1 (int_is_run j.0 j.2) j.4)
minus_apart (b ∷ []) w q c minus longer j = cc (longer.1)
minus_apart (b ∷ d ∷ p) w q c minus longer j = cc (longer.1)

number_to : (text : List ℕ) → Joined IsMinus IntFracExp text → IsNumber text
number_to text j = record {
  minus = j.0;
  int = j.3.0;
  frac = j.3.3.0;
  exp = j.3.3.1;
  is_minus = j.2;
  is_int = j.3.2;
  is_frac = j.3.3.2;
  is_exp = j.3.3.3;
  whole = j.4 ∙ ap (λ l. j.0 ++ l) (j.3.4 ∙ ap (λ l. j.3.0 ++ l) j.3.3.4);
}

number_from : (text : List ℕ) → IsNumber text → Joined IsMinus IntFracExp text
number_from text n = (n.minus, n.int ++ (n.frac ++ n.exp), n.is_minus, (n.int, n.frac ++ n.exp, n.is_int, (n.frac, n.exp, n.is_frac, n.is_exp, refl), refl), n.whole)

pub number_some : (bytes a b c rest : List ℕ) → TakesLongest IsMinus bytes a → TakesLongest IsInt a b → TakesLongest IsFrac b c → TakesLongest IsExp c rest → TakesLongest IsNumber bytes rest
number_some bytes a b c rest minus int frac exp =
    takes_as (Joined IsMinus IntFracExp) IsNumber number_to number_from bytes rest
    (takes_joined IsMinus IntFracExp minus_apart bytes a rest minus
    (takes_joined IsInt FracExp int_apart a b rest int (takes_joined IsFrac IsExp frac_exp_apart b c rest frac exp)))

-- the first byte of a number
minus_or_digit : (minus int more : List ℕ) → IsMinus minus → IsDigitRun int → (b : ℕ) × (bs : List ℕ) × ((b ≡ 45) ⊎ IsDigit b) × (minus ++ (int ++ more) ≡ b ∷ bs)
minus_or_digit [] [] more is run = absurd run
minus_or_digit [] (b ∷ int) more is run = (b, int ++ more, inr run.0, refl)
minus_or_digit (b ∷ minus) int more is run = (b, minus ++ (int ++ more), inl is.0, refl)

pub number_first : (text : List ℕ) → IsNumber text → (b : ℕ) × (bs : List ℕ) × ((b ≡ 45) ⊎ IsDigit b) × (text ≡ b ∷ bs)
number_first text n =
    let begins = minus_or_digit n.minus n.int (n.frac ++ n.exp) n.is_minus (int_is_run n.int n.is_int) in
    (begins.0, begins.1, begins.2, n.whole ∙ begins.3)

-- each byte of a number is one that a number may have
abbrev pub OnlyNumberBytes : List ℕ → Type 0
OnlyNumberBytes text = (front rest : List ℕ) (b : ℕ) → text ≡ front ++ b ∷ rest → IsNumberByte b

only_in_both : (p q : List ℕ) → OnlyNumberBytes p → OnlyNumberBytes q → OnlyNumberBytes (p ++ q)
only_in_both [] q left right front rest b e = right front rest b e
only_in_both (c ∷ p) q left right [] rest b e = left [] p b (ap (λ d. d ∷ p) (first_same c b (p ++ q) rest e))
only_in_both (c ∷ p) q left right (d ∷ front) rest b e =
    only_in_both p q (λ f r a same. left (c ∷ f) r a (ap (λ l. c ∷ l) same)) right front rest b (let tails : p ++ q ≡ front ++ b ∷ rest = cc in tails)

only_digits : (p : List ℕ) → AreDigits p → OnlyNumberBytes p
only_digits [] digits [] rest b e = cc
only_digits [] digits (d ∷ front) rest b e = cc
only_digits (c ∷ p) digits [] rest b e = inl (subst IsDigit (first_same c b p rest e) digits.0)
only_digits (c ∷ p) digits (d ∷ front) rest b e = only_digits p digits.1 front rest b (let tails : p ≡ front ++ b ∷ rest = cc in tails)

run_digits : (p : List ℕ) → IsDigitRun p → AreDigits p
run_digits [] run = tt
run_digits (b ∷ p) run = run

only_one : (c : ℕ) → IsNumberByte c → (p : List ℕ) → OnlyNumberBytes p → OnlyNumberBytes (c ∷ p)
only_one c is p only [] rest b e = subst IsNumberByte (first_same c b p rest e) is
only_one c is p only (d ∷ front) rest b e = only front rest b (let tails : p ≡ front ++ b ∷ rest = cc in tails)

only_nothing : OnlyNumberBytes []
only_nothing [] rest b e = cc
only_nothing (d ∷ front) rest b e = cc

only_minus : (p : List ℕ) → IsMinus p → OnlyNumberBytes p
only_minus [] is = only_nothing
only_minus (b ∷ p) is = only_one b (inr (inr (inl is.0))) p (subst OnlyNumberBytes (sym is.1) only_nothing)

only_frac : (p : List ℕ) → IsFrac p → OnlyNumberBytes p
only_frac [] is = only_nothing
only_frac (b ∷ p) is = only_one b (inr (inr (inr (inl is.0)))) p (only_digits p (run_digits p is.1))

only_sign : (p : List ℕ) → IsSign p → OnlyNumberBytes p
only_sign [] is = only_nothing
only_sign (b ∷ p) is = only_one b (elim is.0 [ inl plus ↦ inr (inl plus) | inr minus ↦ inr (inr (inl minus)) ]) p (subst OnlyNumberBytes (sym is.1) only_nothing)

only_power : (p : List ℕ) → IsPower p → OnlyNumberBytes p
only_power p is = subst OnlyNumberBytes (sym is.whole) (only_in_both is.sign is.digits (only_sign is.sign is.is_sign) (only_digits is.digits (run_digits is.digits is.is_digits)))

only_exp : (p : List ℕ) → IsExp p → OnlyNumberBytes p
only_exp [] is = only_nothing
only_exp (b ∷ p) is = only_one b (elim is.0 [ inl e ↦ inr (inr (inr (inr (inr e)))) | inr e ↦ inr (inr (inr (inr (inl e)))) ]) p (only_power p is.1)

pub number_bytes : (text : List ℕ) → IsNumber text → OnlyNumberBytes text
number_bytes text n =
    subst OnlyNumberBytes (sym n.whole)
    (only_in_both n.minus (n.int ++ (n.frac ++ n.exp)) (only_minus n.minus n.is_minus)
    (only_in_both n.int (n.frac ++ n.exp) (only_digits n.int (run_digits n.int (int_is_run n.int n.is_int)))
    (only_in_both n.frac n.exp (only_frac n.frac n.is_frac) (only_exp n.exp n.is_exp))))
