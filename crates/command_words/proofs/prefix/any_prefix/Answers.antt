use Rattle.command_words.proofs.Prefixes.{read}
use Rattle.command_words.proofs.prefix.any_prefix.Goals as goal

pub returns-clause-prefix : goal.returns-clause-prefix
returns-clause-prefix c = read c.args.word.now c.of_text.result c.of_text.ensures.some c.of_text.ensures.none
