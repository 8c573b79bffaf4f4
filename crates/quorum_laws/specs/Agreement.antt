-- Agreement: whoever accepts establishment events of one identifier and number under enough common witnesses accepts the
-- same event after the same chain (KERI paper: witness agreement).
use Rattle.std.specs.Prelude.{◌≡◌, ℕ, ◌+◌, ◌<◌, ◌≤◌, List, ◌++◌, length, count_by, Contains}
use Rattle.cesr_codes.specs.declared.key.Key.{Key}
use Rattle.event_body.specs.EventBody.Events.{said_of}
use Rattle.key_state.specs.Same.{same_key, has_key, distinct}
use Rattle.journal.specs.Journal.Grown.{chain}
use Rattle.journal.specs.declared.journal.body.Body.{Body}
use Rattle.quorum_laws.specs.Histories.{Signing, IsLawful, AreLevel}
use Rattle.quorum_laws.specs.Backing.{IsBacked, rules_in}

-- the distinct keys of both lists
abbrev pub union : List Key → List Key → List Key
union first second = distinct same_key (first ++ second)

-- both together want more receipts than the union has members and faulty ones
unfoldable pub Binds : List Key → ℕ → List Key → ℕ → ℕ → Type 0
Binds first first_toad second second_toad faulty = length (union first second) + faulty < first_toad + second_toad

-- no two different bodies of both lists have one digest
abbrev pub NoClash : List Body → List Body → Type 0
NoClash xs ys = (b c : Body) → Contains (xs ++ ys) b → Contains (xs ++ ys) c → said_of b.event ≡ said_of c.event
    → b.bytes ≡ c.bytes

-- both lists are backed under one lawful history, and they don't clash
pub record ShareHistory (xs ys : List Body) (history : List Signing) (bad : List Key) : Type 0 where
  pub lawful : IsLawful history bad
  pub first : IsBacked xs history bad
  pub second : IsBacked ys history bad
  pub no_clash : NoClash xs ys

-- both have the same event, byte for byte, after the same chain from its inception on
pub record AreOneEvent (xs : List Body) (b : Body) (ys : List Body) (c : Body) : Type 0 where
  pub event : b ≡ c
  pub chain : chain xs b ≡ chain ys c

-- the body is in the list, with these own witnesses, of which it wants so many
pub record IsUnder (log : List Body) (b : Body) (witnesses : List Key) (toad : ℕ) : Type 0 where
  pub inside : Contains log b
  pub witnesses_are : (rules_in log b).witnesses ≡ witnesses
  pub toad_is : (rules_in log b).toad ≡ toad

-- Two lists that share a history have one event wherever they have establishment events of one identifier and number under
-- these witnesses and numbers of receipts, and no more than so many of these witnesses are bad.
unfoldable pub AgreeUnder : List Key → ℕ → List Key → ℕ → ℕ → Type 0
AgreeUnder first first_toad second second_toad faulty = (xs ys : List Body) (history : List Signing) (bad : List Key)
    → ShareHistory xs ys history bad → count_by (has_key bad) (union first second) ≤ faulty
    → (b c : Body) → IsUnder xs b first first_toad → IsUnder ys c second second_toad → AreLevel b.event c.event
    → AreOneEvent xs b ys c

-- Two lists have one event wherever they have establishment events of one identifier and number, and the own lists and
-- numbers of receipts of these bind, with no more bad members in the union than are counted as faulty.
abbrev pub Agree : List Body → List Body → List Key → Type 0
Agree xs ys bad = (b c : Body) (faulty : ℕ) → Contains xs b → Contains ys c → AreLevel b.event c.event
    → let own = rules_in xs b in let other = rules_in ys c in
    count_by (has_key bad) (union own.witnesses other.witnesses) ≤ faulty
    → Binds own.witnesses own.toad other.witnesses other.toad faulty → AreOneEvent xs b ys c

-- the law of agreement: two lists that share a history agree
abbrev pub AgreementLaw : Type 0
AgreementLaw = (xs ys : List Body) (history : List Signing) (bad : List Key) → ShareHistory xs ys history bad → Agree xs ys bad
