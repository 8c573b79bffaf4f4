-- Promises of keys that a plan has already (a rule of this project): who steals such a key could rotate with it.
use Rattle.std.specs.Prelude.{◌≡◌, ℕ, Bool, false, ◌||◌, List, ◌∷◌, ◌++◌, Some, IsTrue}
use Rattle.std.specs.List.{list_any}
use Rattle.cesr_codes.specs.declared.digest.Digest.{Digest}
use Rattle.cesr_codes.specs.declared.key.Key.{Key}
use Rattle.key_state.specs.Exposure.{commits}
use Rattle.key_state.specs.Same.{same_digest}
use Rattle.controller_core.specs.declared.plan_text.promise.Promise.{Promise}
use Rattle.controller_core.specs.PlanText.Sheets.{Sheet}

-- the digest commits to one of the keys, or is that of one of the promises
abbrev pub is_reuse : List Key → List Promise → Digest → Bool
is_reuse keys promises digest =
    list_any (λ key. commits (Some digest) (Some key)) keys || list_any (λ p. same_digest p.digest digest) promises

-- none of the promises is of one of the keys, and none stands there twice
abbrev pub AreOfNewKeys : List Key → List Promise → Type 0
AreOfNewKeys keys promises = (earlier later : List Promise) (promise : Promise) → promises ≡ earlier ++ promise ∷ later
    → is_reuse keys earlier promise.digest ≡ false

-- the first of the promises that is of one of the keys, or that an earlier one is too, stands in this line
pub record IsFirstReuse (keys : List Key) (promises : List Promise) (line : ℕ) : Type 0 where
  pub earlier : List Promise
  pub promise : Promise
  pub later : List Promise
  pub parts : promises ≡ earlier ++ promise ∷ later
  pub reuse : IsTrue (is_reuse keys earlier promise.digest)
  pub first : AreOfNewKeys keys earlier
  pub is : line ≡ promise.line

-- no promise that is looked at is of a key that the plan has already
abbrev pub PromisesNewKeys : Sheet → Type 0
PromisesNewKeys sheet = AreOfNewKeys sheet.keys sheet.promises

-- the first promise that is of such a key stands in this line
abbrev pub HasFirstReuse : Sheet → ℕ → Type 0
HasFirstReuse sheet line = IsFirstReuse sheet.keys sheet.promises line
