-- What a place is asked at which peers come, and what comes of it.
use Rattle.std.specs.Prelude.{◌≡◌, ℕ, List, [], ◌∷◌, ◌++◌, replicate, Result}
use Rattle.std.specs.declared.option.Option.{Option}
use Rattle.std.specs.declared.option.Option.TheVariants.{None, Some}
use Rattle.std.specs.declared.result.Result.TheVariants.{Ok, Err}
use Rattle.keri_outside.specs.Doors.{Comes}
use Rattle.lists.specs.KeriSpecs.Shown.{after}
use Rattle.edges.specs.declared.link_act.LinkAct.{LinkAct}
use Rattle.edges.specs.declared.link_act.LinkAct.TheVariants.{Asked, Ended}

-- these came behind what was shown before, where it is still shown
abbrev pub Grows : Option (List LinkAct) → Option (List LinkAct) → List LinkAct → Type 0
Grows old None more = Unit {0}
Grows old (Some all) more = Some all ≡ after old more

-- The link that came was the first one that was left. Where none came, all are left that were.
abbrev pub ComesIn : {C E : Type 0} → (C → Option (List ℕ)) → Option (List (List ℕ)) → Option (List (List ℕ)) → Result C E → Type 0
ComesIn {C} {E} sent old new (Ok link) = Comes {C = C} {E = E} sent old new (Ok (Some link))
ComesIn sent old new (Err e) = new ≡ old

-- the peer of the link that came last, where one did, is told that nothing more goes out to it
abbrev pub ending : Option ℕ → List LinkAct
ending None = []
ending (Some peer) = Ended peer ∷ []

-- the next link was asked for, once or again, and before that the peer of the last one was told of the end
abbrev pub AsksBehind : Option ℕ → Option (List LinkAct) → Option (List LinkAct) → Type 0
AsksBehind last old new = (n : ℕ) × Grows old new (ending last ++ replicate n Asked)
