-- How long payloads are.
use Rattle.std.proofs.Common.{◌≡◌, ℕ, zero, suc, ◌+◌, ◌*◌, ◌≤◌, Bool, true, false, List, [], ◌∷◌, length, take, drop, flat_map, refl, arith, length-append, length-take, length-drop}
use Rattle.std.specs.Simd.{first_chunks}
use Rattle.std.specs.Slice.Iter.{chunk_count}
use Rattle.cesr_codes.specs.Indexed.{indexed_text}
use Rattle.cesr_codes.specs.declared.indexed_sig.IndexedSig.{IndexedSig}
use Rattle.cesr_stream.specs.Written.{item_text}
use Rattle.cesr_stream.proofs.Sizes.{length-counted, size_big, size_small}
use Rattle.journal_views.specs.EventPayload.Payloads.{group_of, groups_text, parts_of, payload_of}

-- a signature has 88 characters or 92
indexed_few : (sig : IndexedSig) → length (indexed_text sig) ≤ 92
indexed_few sig = at sig.big refl
  where
    at : (big : Bool) → sig.big ≡ big → length (indexed_text sig) ≤ 92
    at true e = omega (arith, size_big sig e)
    at false e = omega (arith, size_small sig e)

all_few : (sigs : List IndexedSig) → length (flat_map indexed_text sigs) ≤ 92 * length sigs
all_few [] = omega arith
all_few (sig ∷ sigs) = omega (arith, length-append (indexed_text sig) (flat_map indexed_text sigs), indexed_few sig, all_few sigs)

-- a counter has four
group_few : (sigs : List IndexedSig) → length (item_text (group_of sigs)) ≤ 4 + 92 * length sigs
group_few sigs = omega (arith, length-counted 65 (length sigs) (flat_map indexed_text sigs), all_few sigs)

groups_few : (k : ℕ) (sigs : List IndexedSig) → length (groups_text (first_chunks 4095 k sigs)) ≤ 4 * k + 92 * length sigs
groups_few zero sigs = omega arith
groups_few (suc k) sigs =
    let part = take 4095 sigs in
    let rest = drop 4095 sigs in
    omega (
      arith,
      length-append (item_text (group_of part)) (groups_text (first_chunks 4095 k rest)),
      group_few part,
      groups_few k rest,
      length-take 4095 sigs,
      length-drop 4095 sigs,
    )

-- LONG: so few signatures need two groups at most
pub payload_long : (body : List ℕ) (sigs : List IndexedSig) → length sigs ≤ 4160 → length (payload_of body sigs) ≤ length body + 8 + 92 * length sigs
payload_long body sigs few =
    let two : chunk_count (length sigs) 4095 ≤ 2 = omega (arith, few) in
    omega (arith, length-append body (groups_text (parts_of sigs)), groups_few (chunk_count (length sigs) 4095) sigs, two)

-- SIZED: a payload of a body of 65,535 bytes
pub payload_sized : (body : List ℕ) (sigs : List IndexedSig) → length body ≤ 65535 → length sigs ≤ 4160 → length (payload_of body sigs) ≤ 448263
payload_sized body sigs short few = omega (arith, payload_long body sigs few, short, few)
