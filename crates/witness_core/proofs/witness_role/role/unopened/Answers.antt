use Rattle.std.proofs.Common.{ℕ, List, Ok, Err, Result, refl}
use Rattle.std.specs.Prelude.{IfOk, IfSome, option_map, string_bytes}
use Rattle.std.specs.Result.{result_ok}
use Rattle.witness_core.proofs.witness_role.role.unopened.Goals as goal

-- what is so of the text of a result is so of that of its option
of_text : {T E : Type 0} (text : T → List ℕ) (Q : List ℕ → Type 0) (r : Result T E) → IfOk r (λ t. Q (text t)) → IfSome (option_map text (result_ok r)) Q
of_text text Q (Ok t) q = q
of_text text Q (Err e) q = tt

pub returns-clause-unopened : goal.returns-clause-unopened
returns-clause-unopened g c = record {
  none_read = rw c.unread.ensures.readers refl;
  none_told = c.unread.ensures.journal;
  no_signer = rw c.unread.ensures.signer refl;
  no_links = record { no_door = rw c.unread.ensures.door refl; no_sinks = rw c.unread.ensures.sinks refl };
  owed = option_map string_bytes c.ok-line.result;
  line = rw c.ok-line.ensures.value (of_text string_bytes _ c.text.result c.text.ensures);
  ends_run = rw c.found.ensures.found at c.unread.ensures.ends_run;
}
