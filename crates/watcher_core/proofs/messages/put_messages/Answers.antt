use Rattle.std.proofs.Common.{rules, ◌≡◌, ◌++◌, ◌∷◌, sym, ◌∙◌, ap, append_assoc, List, ℕ}
use Rattle.std.specs.Prelude.{flat_map}
use Rattle.std.specs.Slice.Iter.{chunks_rest}
use Rattle.std.proofs.lemmas.List.Concat.{flat_map-append}
use Rattle.cesr_codes.specs.declared.indexed_sig.IndexedSig.{IndexedSig}
use Rattle.cesr_stream.specs.Written.{item_text}
use Rattle.watcher_core.specs.Evidence.{message_of, parts_of}
use Rattle.watcher_core.proofs.Cuts.{parts_step}
use Rattle.watcher_core.proofs.messages.put_messages.Goals as goal

pub loop-part-preserved : goal.loop-part-preserved
loop-part-preserved c =
    let all = chunks_rest c.loop-part.part-iterator in
    let part = c.in-Some.part.now in
    let rest = chunks_rest c.next.new.self in
    let bytes = c.args.bytes.now in
    let so_far = c.loop-part.text.bytes.items in
    let text : List (List IndexedSig) → List ℕ = λ parts. flat_map item_text (flat_map (message_of bytes) parts) in
    let steps = c.in-Some.ensures.steps in
    let size = c.loop-part.invariant.2 in
    let cut : parts_of all ≡ part ∷ parts_of rest = parts_step all part rest steps.1.0 (rw size at steps.1.1) steps.1.2 in (
      search rules,
      tt,
      steps.0 ∙ size,
      ap (λ more. more ++ text (parts_of rest)) c.in_ok-put_message.ensures
          ∙ append_assoc so_far (flat_map item_text (message_of bytes part)) (text (parts_of rest))
          ∙ ap (λ more. so_far ++ more) (sym (flat_map-append item_text (message_of bytes part) (flat_map (message_of bytes) (parts_of rest))))
          ∙ ap (λ parts. so_far ++ text parts) (sym cut)
          ∙ c.loop-part.invariant.3,
    )
