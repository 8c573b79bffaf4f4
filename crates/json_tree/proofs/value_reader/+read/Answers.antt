use Rattle.std.proofs.Common.{sym, subst, ◌∷◌, arith, rules}
use Rattle.std.proofs.lemmas.Result.{IfErr-weaker}
use Rattle.json_tree.specs.Spelling.{spelling, member_text, Fits, FitsMember}
use Rattle.json_tree.specs.Reading.{NoValue}
use Rattle.json_tree.proofs.Refusals.{none_list_at_0, none_object_at_0, none_value}
use Rattle.json_tree.proofs.Readers.{IfErr-handed_on, reads_list, refuses_list, reads_object, refuses_object, refuses_member, refuses_values, refuses_members, no_end, no_member_end, more_items, last_item}
use Rattle.json_tree.proofs.value_reader.+read.Goals as goal

pub read_list-returns-then-depth-eq0-clause-none : goal.read_list-returns-then-depth-eq0-clause-none
read_list-returns-then-depth-eq0-clause-none t c = λ is. subst (λ d. NoValue d (91 ∷ c.args.bytes.now)) (sym c.if-depth-eq0.true) (none_list_at_0 _)

pub read_list-returns-in_err-values-clause-none : goal.read_list-returns-in_err-values-clause-none
read_list-returns-in_err-values-clause-none t c =
    IfErr-handed_on _ _ _ c.from_residual.ensures.1 (λ is. refuses_list _ c.args.depth (omega arith) _ (c.in_err-values.ensures.none is))

pub read_list-returns-clause-some : goal.read_list-returns-clause-some
read_list-returns-clause-some t c = reads_list _ c.args.depth (omega arith) _ _ _ c.in_ok-values.ensures.some

pub read_object-returns-then-depth-eq0-clause-none : goal.read_object-returns-then-depth-eq0-clause-none
read_object-returns-then-depth-eq0-clause-none t c = λ is. subst (λ d. NoValue d (123 ∷ c.args.bytes.now)) (sym c.if-depth-eq0.true) (none_object_at_0 _)

pub read_object-returns-in_err-members-clause-none : goal.read_object-returns-in_err-members-clause-none
read_object-returns-in_err-members-clause-none t c =
    IfErr-handed_on _ _ _ c.from_residual.ensures.1 (λ is. refuses_object _ c.args.depth (omega arith) _ (c.in_err-members.ensures.none is))

pub read_object-returns-clause-some : goal.read_object-returns-clause-some
read_object-returns-clause-some t c = reads_object _ c.args.depth (omega arith) _ _ _ c.in_ok-members.ensures.some

pub read_member-returns-in_err-value-clause-none : goal.read_member-returns-in_err-value-clause-none
read_member-returns-in_err-value-clause-none t c =
    IfErr-handed_on _ _ _ c.from_residual.ensures.1 (λ is. refuses_member c.args.depth _ _ _ c.in-Some.ensures.some (c.in_err-value.ensures.none is))

pub read_values-returns-in_err-value-clause-none : goal.read_values-returns-in_err-value-clause-none
read_values-returns-in_err-value-clause-none t c =
    let kept = c.loop-values.invariant in
    IfErr-handed_on _ _ _ c.from_residual.ensures.1 (λ is.
    refuses_values c.args.depth _ _ _ kept.each kept.whole kept.some (λ item more fits ends. c.in_err-value.ensures.none is item more fits))

pub read_values-returns-in-Some-after_byte-clause-some : goal.read_values-returns-in-Some-after_byte-clause-some
read_values-returns-in-Some-after_byte-clause-some t c =
    let kept = c.loop-values.invariant in
    let read = c.in_ok-value.ensures.some in
    last_item (Fits c.args.depth) spelling 93 _ _ _ _ _ _ _ (let pushed = c.from_vec-in-Some-after_byte.ensures in search rules) kept.each read.fits kept.whole read.whole c.in-Some-after_byte.ensures.some

pub read_values-returns-in_default-after_byte-2-clause-none : goal.read_values-returns-in_default-after_byte-2-clause-none
read_values-returns-in_default-after_byte-2-clause-none t c =
    let kept = c.loop-values.invariant in
    let read = c.in_ok-value.ensures.some in
    λ is. refuses_values c.args.depth _ _ _ kept.each kept.whole kept.some (no_end c.args.depth _ _ _ read c.in_default-after_byte-2.ensures.none c.in_default-after_byte.ensures.none)

pub read_values-loop-values-preserved : goal.read_values-loop-values-preserved
read_values-loop-values-preserved t c =
    let kept = c.loop-values.invariant in
    let read = c.in_ok-value.ensures.some in
    let now = more_items (Fits c.args.depth) spelling 93 _ _ _ _ _ _ _ c.in_ok-push.ensures.items kept.each read.fits kept.whole read.whole c.in-Some-after_byte-2.ensures.some in
    record { each = now.0; whole = now.1; some = kept.some }

pub read_members-returns-in_err-member-clause-none : goal.read_members-returns-in_err-member-clause-none
read_members-returns-in_err-member-clause-none t c =
    let kept = c.loop-members.invariant in
    IfErr-handed_on _ _ _ c.from_residual.ensures.1 (λ is.
    refuses_members c.args.depth _ _ _ kept.each kept.whole kept.some (λ item more fits ends. c.in_err-member.ensures.none is item more fits))

pub read_members-returns-in-Some-after_byte-clause-some : goal.read_members-returns-in-Some-after_byte-clause-some
read_members-returns-in-Some-after_byte-clause-some t c =
    let kept = c.loop-members.invariant in
    let read = c.in_ok-member.ensures.some in
    last_item (FitsMember c.args.depth) member_text 125 _ _ _ _ _ _ _ (let pushed = c.from_vec-in-Some-after_byte.ensures in search rules) kept.each read.fits kept.whole read.whole c.in-Some-after_byte.ensures.some

pub read_members-returns-in_default-after_byte-2-clause-none : goal.read_members-returns-in_default-after_byte-2-clause-none
read_members-returns-in_default-after_byte-2-clause-none t c =
    let kept = c.loop-members.invariant in
    let read = c.in_ok-member.ensures.some in
    λ is. refuses_members c.args.depth _ _ _ kept.each kept.whole kept.some (no_member_end c.args.depth _ _ _ read c.in_default-after_byte-2.ensures.none c.in_default-after_byte.ensures.none)

pub read_members-loop-members-preserved : goal.read_members-loop-members-preserved
read_members-loop-members-preserved t c =
    let kept = c.loop-members.invariant in
    let read = c.in_ok-member.ensures.some in
    let now = more_items (FitsMember c.args.depth) member_text 125 _ _ _ _ _ _ _ c.in_ok-push.ensures.items kept.each read.fits kept.whole read.whole c.in-Some-after_byte-2.ensures.some in
    record { each = now.0; whole = now.1; some = kept.some }

pub read_value-returns-in-Some-read_word-clause-some : goal.read_value-returns-in-Some-read_word-clause-some
read_value-returns-in-Some-read_word-clause-some t c = c.in-Some-read_word.ensures.some c.args.depth

pub read_value-returns-in-None-clause-none : goal.read_value-returns-in-None-clause-none
read_value-returns-in-None-clause-none t c =
    IfErr-weaker c.read_number.result _ _ (λ fault none is.
    none_value c.args.depth _ c.in_default.ensures.none c.in_default-after_byte.ensures.none c.in_default-after_byte-2.ensures.none c.in-None.ensures.none (none is)) c.read_number.ensures.none
