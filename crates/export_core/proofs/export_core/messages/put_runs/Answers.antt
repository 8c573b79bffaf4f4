use Rattle.std.proofs.Common.{◌≡◌, ◌+◌, ◌∷◌, drop, length, sym, ◌∙◌, ap, subst, arith}
use Rattle.std.specs.Prelude.{All}
use Rattle.std.proofs.lemmas.List.Elements.{All-drop}
use Rattle.export_core.specs.ExportCore.Messages.{IsFixed, PutsMessage}
use Rattle.export_core.proofs.ExportCoreLemmas.Runs.{IsLeft, less_left, none_left}
use Rattle.export_core.proofs.ExportCoreLemmas.Texts.{on_ok_so}
use Rattle.export_core.proofs.export_core.messages.put_runs.Goals as goal

pub loop-left-preserved : goal.loop-left-preserved
loop-left-preserved c =
    let bytes = c.args.bytes.now in let first = c.args.first.now in let rest = c.args.rest.now in let old = c.args.text.now.bytes.items in
    let left = c.loop-left.left.now in let text = c.loop-left.text.bytes.items in let new = c.put_run.new.text.bytes.items in
    let back : c.split_at.result.1.now ≡ drop 1023 left = c.split_at.ensures.back in
    let lens : length (drop 1023 left) + 1023 ≡ length left = ap (λ xs. length xs + 1023) (sym back) ∙ c.split_at.ensures.back_len in
    record {
      fixed = subst (All IsFixed) (sym back) (All-drop IsFixed 1023 left c.loop-left.invariant.fixed);
      puts = subst (λ xs. IsLeft bytes first rest old xs new) (sym back)
          (less_left bytes first rest old left text c.loop-left.invariant.puts c.loop-left-test.true new
          (subst (λ run. PutsMessage bytes (first ∷ run) text new) c.split_at.ensures.front c.in_ok-put_run.ensures) (omega (arith, lens, c.loop-left-test.true)));
    }

pub returns : goal.returns
returns c = on_ok_so c.put_run-2.result c.put_run-2.ensures (λ put.
    none_left c.args.bytes.now c.args.first.now c.args.rest.now c.args.text.now.bytes.items c.loop-left.left.now c.loop-left.text.bytes.items
    c.loop-left.invariant.puts c.loop-left-test.false c.put_run-2.new.text.bytes.items put)
