use Rattle.std.proofs.Common.{[], inr, refl, rules}
use Rattle.std.proofs.lemmas.List.Elements.{All-nil}
use Rattle.reader_hub.proofs.reader_threads.any_seats.read_none.Goals as goal

pub returns-clause-told : goal.returns-clause-told
returns-clause-told g c = record {
  read = record { read = []; fed = record { each = tt; only = rw c.requires.untold (All-nil _) }; each = tt };
  asked = λ h. inr tt;
  failed = λ e. cc;
  only = tt;
  alone = λ one. cc;
  mode_is = refl;
  limits_are = refl;
  no_base = c.requires.no_base;
  sound = search rules;
}
