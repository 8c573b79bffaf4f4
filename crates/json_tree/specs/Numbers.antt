-- The text of a number. RFC 8259, section 6.
use Rattle.std.specs.Prelude.{◌≡◌, ◌≤◌, ◌⊎◌, ℕ, List, [], ◌∷◌, ◌++◌, ⊤}

-- RFC 5234, DIGIT
abbrev pub IsDigit : ℕ → Type 0
IsDigit b = (48 ≤ b) × (b ≤ 57)

-- *DIGIT
abbrev pub AreDigits : List ℕ → Type 0
AreDigits [] = ⊤
AreDigits (b ∷ bs) = IsDigit b × AreDigits bs

-- 1*DIGIT
abbrev pub IsDigitRun : List ℕ → Type 0
IsDigitRun [] = ⊥
IsDigitRun (b ∷ bs) = IsDigit b × AreDigits bs

-- [ minus ]
abbrev pub IsMinus : List ℕ → Type 0
IsMinus [] = ⊤
IsMinus (b ∷ bs) = (b ≡ 45) × (bs ≡ [])

-- int = zero / ( digit1-9 *DIGIT )
abbrev pub IsInt : List ℕ → Type 0
IsInt [] = ⊥
IsInt (b ∷ bs) = ((b ≡ 48) × (bs ≡ [])) ⊎ ((49 ≤ b) × (b ≤ 57) × AreDigits bs)

-- [ frac ], frac = decimal-point 1*DIGIT
abbrev pub IsFrac : List ℕ → Type 0
IsFrac [] = ⊤
IsFrac (b ∷ bs) = (b ≡ 46) × IsDigitRun bs

-- [ minus / plus ]
abbrev pub IsSign : List ℕ → Type 0
IsSign [] = ⊤
IsSign (b ∷ bs) = ((b ≡ 43) ⊎ (b ≡ 45)) × (bs ≡ [])

-- [ minus / plus ] 1*DIGIT
pub record IsPower (text : List ℕ) : Type 0 where
  pub sign : List ℕ
  pub digits : List ℕ
  pub is_sign : IsSign sign
  pub is_digits : IsDigitRun digits
  pub whole : text ≡ sign ++ digits

-- [ exp ], exp = e [ minus / plus ] 1*DIGIT, e = %x65 / %x45
abbrev pub IsExp : List ℕ → Type 0
IsExp [] = ⊤
IsExp (b ∷ bs) = ((b ≡ 101) ⊎ (b ≡ 69)) × IsPower bs

-- number = [ minus ] int [ frac ] [ exp ]
pub record IsNumber (text : List ℕ) : Type 0 where
  pub minus : List ℕ
  pub int : List ℕ
  pub frac : List ℕ
  pub exp : List ℕ
  pub is_minus : IsMinus minus
  pub is_int : IsInt int
  pub is_frac : IsFrac frac
  pub is_exp : IsExp exp
  pub whole : text ≡ minus ++ (int ++ (frac ++ exp))

-- a byte that a number may have
abbrev pub IsNumberByte : ℕ → Type 0
IsNumberByte b = IsDigit b ⊎ (b ≡ 43) ⊎ (b ≡ 45) ⊎ (b ≡ 46) ⊎ (b ≡ 69) ⊎ (b ≡ 101)
