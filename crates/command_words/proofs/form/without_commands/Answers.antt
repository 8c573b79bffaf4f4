use Rattle.std.proofs.Common.{refl, true}
use Rattle.command_words.proofs.Shapes.{with_setting}
use Rattle.command_words.proofs.form.without_commands.Goals as goal

pub returns : goal.returns
returns c =
    let words = with_setting (λ r. record r { no_binary_name = true }) (λ s. record s { no_binary_name = true }) (λ r. refl)
    _ _ _ c.new.ensures.app c.no_binary_name.ensures in
    let flag = with_setting (λ r. record r { disable_help_flag = true }) (λ s. record s { disable_help_flag = true }) (λ r. refl)
    _ _ _ words c.disable_help_flag.ensures in
    let help = with_setting (λ r. record r { disable_help_subcommand = true }) (λ s. record s { disable_help_subcommand = true }) (λ r. refl)
    _ _ _ flag c.disable_help_subcommand.ensures in
    with_setting (λ r. record r { subcommand_required = true }) (λ s. record s { subcommand_required = true }) (λ r. refl)
    _ _ _ help c.subcommand_required.ensures
