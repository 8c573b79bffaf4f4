use Rattle.std.proofs.Common.{◌≡◌, ◌∙◌, ℕ, ◌+◌, ◌*◌, ◌/◌, ◌^◌, ap, inl, inr, arith}
use Rattle.std.proofs.Math.Nat.{mul-div_cancel}
use Rattle.std.proofs.lemmas.Bool.{cases_lt}
use Rattle.std.proofs.lemmas.Nat.{pow_pos}
use Rattle.blake3_hash.specs.Stack.{subtree}
use Rattle.blake3_hash.proofs.Halves.{half-more, height_below, multiple_even}
use Rattle.blake3_hash.proofs.Subtrees.{completed-next}
use Rattle.blake3_hash.proofs.stack.Stack.completed.Goals as goal

pub merges-init : goal.merges-init
merges-init c =
    let k = c.args.least in
    let m = c.args.before in
    let one = pow_pos k in
    let halved : m * 2 ^ k / 2 ^ k ≡ m = mul-div_cancel m one in
    let carried : (m + 1) * 2 ^ k / 2 ^ k ≡ m + 1 = mul-div_cancel (m + 1) one in
    record {
      low = height_below ((m + 1) * 2 ^ k) k c.requires.few (omega arith);
      halved = ap (λ (n : ℕ). n / 2 ^ k) c.requires.whole ∙ halved;
      carried = carried;
      even_below = λ j below. multiple_even (m + 1) k j below;
      merged = λ bytes fits has is. is;
    }

pub merges-preserved : goal.merges-preserved
merges-preserved c =
    let n = c.args.self.now.count in
    let next : ℕ = (c.args.before + 1) * 2 ^ c.args.least in
    let k = c.merges.height in
    let half = c.merges.left / 2 in
    let odd : c.merges.left ≡ 2 * half + 1 = omega arith in
    let halved : n / 2 ^ (k + 1) ≡ half = half-more n k ∙ ap (λ (x : ℕ). x / 2) c.merges.invariant.halved in
    let carried : next / 2 ^ (k + 1) ≡ half + 1 =
    half-more next k ∙ ap (λ (x : ℕ). x / 2) c.merges.invariant.carried
    ∙ (let e : (c.merges.left + 1) / 2 ≡ half + 1 = omega arith in e) in
    record {
      low = height_below next (k + 1) c.requires.few (omega arith);
      halved = halved;
      carried = carried;
      even_below = λ j below. elim (cases_lt j k) [
        | inl lower ↦ c.merges.invariant.even_below j lower
        | inr here ↦
            let same : j ≡ k = omega arith in
            rw (same, c.merges.invariant.carried) (omega arith)
      ];
      merged = λ bytes fits has is.
          let value = c.merges.invariant.merged bytes fits has is ∙ ap (λ (m : ℕ). subtree k m bytes) odd in
          c.parent_value-value.ensures ∙ rw value
          (completed-next c.args.self.now.values n next bytes k half has (c.merges.invariant.halved ∙ odd) (c.merges.invariant.carried ∙ omega arith) fits);
    }

pub returns : goal.returns
returns c =
    let halved = c.merges.invariant.halved in
    record {
      low = c.merges.invariant.low;
      completes = record {
        carried = rw halved c.merges.invariant.carried;
        even = rw halved (omega arith);
        even_below = c.merges.invariant.even_below;
      };
      subtree = λ bytes fits has is. rw halved (c.merges.invariant.merged bytes fits has is);
    }
