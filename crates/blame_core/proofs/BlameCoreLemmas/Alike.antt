-- Two cores that differ in their lists of accepted numbers alone have the same blames.
use Rattle.std.proofs.Common.{ℕ, List}
use Rattle.std.proofs.lemmas.List.Elements.{All-weaker}
use Rattle.blame_core.specs.BlameCore.Blames.{AreBlames, IsBlame, IsListed}
use Rattle.blame_core.specs.declared.blame_core.blames.Blame.{Blame}
use Rattle.journal.specs.declared.journal.body.Body.{Body}
use Rattle.validator_core.specs.ValidatorCore.View.{CoreView}

module _ (first second : CoreView) (ns ms : List ℕ) where
  -- the cores with other lists
  abbrev one : CoreView
  one = record first { accepted = ns }

  abbrev other : CoreView
  other = record second { accepted = ms }

  is_blame : (x : Blame) → IsBlame first second x → IsBlame one other x
  is_blame x is = record {
    one = is.one;
    other = is.other;
    one_is = is.one_is;
    other_is = is.other_is;
    rivals = is.rivals;
    prefix = is.prefix;
    sn = is.sn;
    named = is.named;
    blamed = is.blamed;
  }

  is_listed : (blames : List Blame) (b c : Body) → IsListed first second blames b c → IsListed one other blames b c
  is_listed blames b c is = record { blame = is.blame; listed = is.listed; one_is = is.one_is; other_is = is.other_is }

  pub blames_alike : (blames : List Blame) → AreBlames first second blames → AreBlames one other blames
  blames_alike blames are = record {
    each = All-weaker (IsBlame first second) (IsBlame one other) is_blame blames are.each;
    all = λ b c rivals. is_listed blames b c (are.all b c rivals);
    ordered = are.ordered;
  }
