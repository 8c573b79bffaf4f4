-- Lists that acceptance can make, and the chain behind an event (KERI, key event logs).
use Rattle.std.specs.Prelude.{◌≡◌, ℕ, zero, suc, Bool, ◌&&◌, not, List, [], ◌∷◌, ◌++◌, Option, Some, None, IsTrue}
use Rattle.event_body.specs.EventBody.Events.{prefix_of, sn_of, is_receipt}
use Rattle.journal.specs.Journal.Logs.{Body, is_in, state, takes, predecessor}

-- the body is an event that isn't in the list, and is the first of its identifier or follows its state
unfoldable pub fits : List Body → Body → Bool
fits before b = not (is_receipt b.event) && not (is_in before b) && takes (state before (prefix_of b.event)) b.event

-- wherever the list is cut before a member, the member fits what is before it
abbrev pub IsGrown : List Body → Type 0
IsGrown log = (before later : List Body) (b : Body) → log ≡ before ++ b ∷ later → IsTrue (fits before b)

-- a body behind the chain of its predecessor, or alone
abbrev pub behind : (Body → List Body) → Option Body → Body → List Body
behind chain_of None b = b ∷ []
behind chain_of (Some c) b = chain_of c ++ b ∷ []

-- the body with so many predecessors before it, the first of all first
unfoldable pub chain_back : List Body → ℕ → Body → List Body
chain_back log zero b = b ∷ []
chain_back log (suc n) b = behind (λ c. chain_back log n c) (predecessor log b) b

-- the list from the inception to the body by predecessors, as many as its number says
abbrev pub chain : List Body → Body → List Body
chain log b = chain_back log (sn_of b.event) b
