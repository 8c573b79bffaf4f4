-- Facts of what a call answers.
use Rattle.std.proofs.Common.{◌≡◌, ℕ, ◌<◌, List, length, slice_get, Option, Some, None, Result, Ok, Err, IfErr, IfOk, IsErrAnd, MatchResult, OnOk, sym, subst}
use Rattle.std.specs.Prelude.{IfSome}
use Rattle.std.proofs.lemmas.Option.{slice_get_within}

-- an error is handed on as it is
pub if_err : {T E : Type 0} (r : Result T E) (e : E) (Q : E → Type 0) → IsErrAnd r (λ y. y ≡ e) → Q e → IfErr r Q
if_err (Ok x) e Q given holds = absurd given
if_err (Err y) e Q given holds = subst Q (sym given) holds

pub match_err : {T E : Type 0} (r : Result T E) (e : E) (P : T → Type 0) (Q : E → Type 0) → IsErrAnd r (λ y. y ≡ e) → Q e → MatchResult r P Q
match_err (Ok x) e P Q given holds = absurd given
match_err (Err y) e P Q given holds = subst Q (sym given) holds

-- what holds in any case
pub on_ok : {T E P : Type 0} (r : Result T E) → P → OnOk r P
on_ok (Ok x) holds = holds
on_ok (Err e) holds = tt

-- each way has its own fact
pub match_both : {T E : Type 0} (r : Result T E) (P P' : T → Type 0) (Q Q' : E → Type 0) → IfOk r P → IfErr r Q → ((x : T) → P x → P' x) → ((e : E) → Q e → Q' e) → MatchResult r P' Q'
match_both (Ok x) P P' Q Q' ok err gives fails = gives x ok
match_both (Err e) P P' Q Q' ok err gives fails = fails e err

pub ok_weaker : {T E : Type 0} (r : Result T E) (P Q : T → Type 0) → IfOk r P → ((x : T) → P x → Q x) → IfOk r Q
ok_weaker (Ok x) P Q ok gives = gives x ok
ok_weaker (Err e) P Q ok gives = tt

pub err_weaker : {T E : Type 0} (r : Result T E) (P Q : E → Type 0) → IfErr r P → ((e : E) → P e → Q e) → IfErr r Q
err_weaker (Ok x) P Q err gives = tt
err_weaker (Err e) P Q err gives = gives e err

-- a place at which something stands is within the list
pub some_within : {X : Type 0} (xs : List X) (x : X) (o : Option ℕ) → IfSome o (λ n. slice_get xs n ≡ Some x) → IfSome o (λ n. n < length xs)
some_within xs x None at = tt
some_within xs x (Some n) at = slice_get_within xs n x at
