use Rattle.std.proofs.Common.{◌≡◌, ◌∙◌, ◌+◌, ◌*◌, ℕ, List, [], slice_index_or, lit<, refl}
use Rattle.blake3_hash.specs.Lanes.{eight_values, eight_words}
use Rattle.blake3_hash.specs.Tree.{parent_value}
use Rattle.blake3_hash.proofs.FourLanes.{below_four}
use Rattle.blake3_hash.proofs.parent_lanes.parents4.Goals as goal

pub returns : goal.returns
unfolding parent_value
returns c =
    let values : List (List ℕ) = eight_values c.args.front.now c.args.back.now in
    below_four (λ j. eight_words j c.compress_parents.result ≡ parent_value (slice_index_or values (2 * j) []) (slice_index_or values (2 * j + 1) []) 0)
    (c.compress_parents.ensures 0 (lit< tt) ∙ rw (c.alternate-a.ensures, c.alternate-b.ensures, c.alternate-c.ensures, c.alternate-d.ensures, c.alternate-e.ensures, c.alternate-f.ensures, c.alternate-g.ensures, c.alternate-h.ensures) refl)
    (c.compress_parents.ensures 1 (lit< tt) ∙ rw (c.alternate-a.ensures, c.alternate-b.ensures, c.alternate-c.ensures, c.alternate-d.ensures, c.alternate-e.ensures, c.alternate-f.ensures, c.alternate-g.ensures, c.alternate-h.ensures) refl)
    (c.compress_parents.ensures 2 (lit< tt) ∙ rw (c.alternate-a.ensures, c.alternate-b.ensures, c.alternate-c.ensures, c.alternate-d.ensures, c.alternate-e.ensures, c.alternate-f.ensures, c.alternate-g.ensures, c.alternate-h.ensures) refl)
    (c.compress_parents.ensures 3 (lit< tt) ∙ rw (c.alternate-a.ensures, c.alternate-b.ensures, c.alternate-c.ensures, c.alternate-d.ensures, c.alternate-e.ensures, c.alternate-f.ensures, c.alternate-g.ensures, c.alternate-h.ensures) refl)
