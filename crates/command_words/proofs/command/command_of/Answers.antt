use Rattle.std.proofs.Common.{◌∙◌, map, string_bytes}
use Rattle.std.proofs.lemmas.Result.{IfOk-weaker}
use Rattle.command_words.proofs.Answered.{found, refused}
use Rattle.command_words.proofs.command.command_of.Goals as goal

-- the words that are taken
pub returns-in-Ok : goal.returns-in-Ok
returns-in-Ok c = record {
  answered = IfOk-weaker c.command_in.result _ _
      (λ command asked. asked
      ∙ found _ (map string_bytes c.args.words.now) c.in_ok-program.ensures c.in-Ok.matches c.in-Ok.ensures.kinds c.in-Ok.ensures.matches)
      c.command_in.ensures.asked;
  in_form = c.command_in.ensures.in_form;
}

-- the words that are refused, but for want of memory
pub returns : goal.returns
returns c = record {
  answered = refused _ (map string_bytes c.args.words.now) c.in_ok-program.ensures (λ taken. c.in_default.not-OutOfMemory (c.kind.ensures ∙ c.in-Err.ensures.passes taken));
  in_form = tt;
}
