-- How the shape of a command of clap comes about.
use Rattle.std.proofs.Common.{◌≡◌, ◌∙◌, ◌||◌, ◌++◌, ap, ap₂, false, List, [], ◌∷◌, ℕ, Result, IfOk}
use Rattle.std.proofs.lemmas.Result.{IfOk-weaker}
use Rattle.clap.specs.Words.{AddsArg, App, Rule, Shape, app_of, new_app, rule_of}
use Rattle.clap.specs.Simple.{app_of_fields, on_top}
use Rattle.clap.specs.declared.builder.arg.Arg.{Arg}
use Rattle.clap.specs.declared.builder.command.Command.{Command}
use Rattle.clap.specs.declared.builder.command.Command.TheOpen.{Command-F}
use Rattle.clap.specs.declared.builder.command.Command.TheViews.{out-Command as fields_of}
use Rattle.command_words.specs.Table.{HasShape, command}

-- a new command
pub new_has_shape : (it : Command) (name : List ℕ) → app_of it ≡ new_app name → (fields_of it).has_globals ≡ false → HasShape (command name []) it
new_has_shape it name is local = record { shape_is = ap (λ (a : App). a.top) is; local = local }

module _ (name : List ℕ) (rules : List Rule) (rule : Rule) (old : Command) (argument : Arg) (has : HasShape (command name rules) old)
    (is : rule_of argument ≡ rule) (local : argument.global ≡ false) where
  -- one argument more
  pub with_argument : (new : Command) → AddsArg old argument new → HasShape (command name (rules ++ rule ∷ [])) new
  with_argument new added = record {
    shape_is = ap (λ (a : App). a.top) (added.shape local)
        ∙ ap₂ (λ (s : Shape) (r : Rule). record s { rules = s.rules ++ r ∷ [] }) has.shape_is is;
    local = added.globals ∙ (ap (λ b. b || argument.global) has.local ∙ ap (λ b. false || b) local);
  }

  -- the last argument
  pub with_last_argument : {E : Type 0} (r : Result Command E) → IfOk r (λ new. AddsArg old argument new)
      → IfOk r (HasShape (command name (rules ++ rule ∷ [])))
  with_last_argument r added = IfOk-weaker r _ _ with_argument added

-- one setting more
pub with_setting : (on_fields : Command-F Command → Command-F Command) (on_shape : Shape → Shape)
    → ((r : Command-F Command) → app_of_fields (on_fields r) ≡ on_top on_shape (app_of_fields r))
    → (old new : Command) (app : App) → app_of old ≡ app → fields_of new ≡ on_fields (fields_of old) → app_of new ≡ on_top on_shape app
with_setting on_fields on_shape same old new app is set = ap app_of_fields set ∙ same (fields_of old) ∙ ap (on_top on_shape) is
