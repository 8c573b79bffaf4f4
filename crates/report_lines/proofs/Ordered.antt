-- The orders of prefixes and bodies.
use Rattle.std.proofs.Common.{◌+◌, ◌<◌, Bool, List, [], ◌∷◌, length, map, ◌∙◌, arith}
use Rattle.std.proofs.lemmas.Cmp.{then_total, on_total, nat_cmp_total, nat_list_cmp_total}
use Rattle.std.proofs.lemmas.List.{get_or-map, length-map}
use Rattle.std.specs.Cmp.{IsTotalOrder}
use Rattle.std.specs.List.Sorted.{IsSortedBy}
use Rattle.cesr_codes.specs.Spelling.{prefix_text}
use Rattle.event_body.specs.EventBody.Events.{prefix_of, sn_of}
use Rattle.report_lines.specs.Report.{body_cmp}

pub body_cmp_total : IsTotalOrder body_cmp
body_cmp_total = then_total (on_total (λ b. prefix_text (prefix_of b.event)) nat_list_cmp_total)
    (then_total (on_total (λ b. sn_of b.event) nat_cmp_total) (on_total (λ b. b.bytes) nat_list_cmp_total))

-- where the values are in order, so is their list
pub IsSortedBy-map : {X Y : Type 0} (f : X → Y) (lt : Y → Y → Bool) (xs : List X) → IsSortedBy (λ a b. lt (f a) (f b)) xs → IsSortedBy lt (map f xs)
IsSortedBy-map f lt [] sorted k d low high = absurd (omega (arith, high))
IsSortedBy-map f lt (x ∷ xs) sorted k d low high =
    let long = length-map (x ∷ xs) f in
    let second : k + 1 < length (x ∷ xs) = omega (arith, high, long) in
    let first : k < length (x ∷ xs) = omega (arith, second) in
    let e = get_or-map f (x ∷ xs) (k + 1) x d second in
    let e' = get_or-map f (x ∷ xs) k x d first in
    (λ i. lt (e i) (e' i)) ∙ sorted k x low second
