-- How a run of calls of a disk goes on.
use Rattle.std.proofs.Common.{inl, inr, ⊎_elim, ℕ, List, refl, ◌∙◌, arith}
use Rattle.shelf_log.specs.KeriDisk.Images.{DiskShown, IsDurable, LeavesOnly}
use Rattle.shelf_log.specs.KeriDisk.Calls.{Elapses, Keeps}

-- no image is there that isn't shown of this moment
abbrev pub KnowsNow : DiskShown → Type 0
KnowsNow shown = (c : List ℕ) → shown.images_since shown.moment c → shown.images c

-- one call
pub one_call : (old new : DiskShown) (P : List ℕ → Type 0) → KnowsNow old → Elapses old new → ((c : List ℕ) → old.images c → P c) → ((c : List ℕ) → new.images c → P c) → LeavesOnly old new P
one_call old new P knows time before after = record {
  later = time.later;
  each = λ c since. ⊎_elim (λ was. before c (knows c was)) (after c) (time.nothing_else old.moment c (omega arith) since);
  before = λ t c le since. ⊎_elim inl (λ now. inr (after c now)) (time.nothing_else t c le since);
}

-- no call
pub none_yet : (shown : DiskShown) (P : List ℕ → Type 0) → KnowsNow shown → ((c : List ℕ) → shown.images c → P c) → LeavesOnly shown shown P
none_yet shown P knows here = record { later = omega arith; each = λ c since. here c (knows c since); before = λ t c le since. inl since }

-- calls, and then others
pub and_then : (first mid last : DiskShown) (P : List ℕ → Type 0) → LeavesOnly first mid P → LeavesOnly mid last P → LeavesOnly first last P
and_then first mid last P a b = record {
  later = omega (arith, a.later, b.later);
  each = λ c since. ⊎_elim (a.each c) (λ holds. holds) (b.before first.moment c a.later since);
  before = λ t c le since. ⊎_elim (a.before t c le) inr (b.before t c (omega (arith, le, a.later)) since);
}

-- what has the one has the other
pub weaker : (old new : DiskShown) (P Q : List ℕ → Type 0) → ((c : List ℕ) → P c → Q c) → LeavesOnly old new P → LeavesOnly old new Q
weaker old new P Q gives leaves = record {
  later = leaves.later;
  each = λ c since. gives c (leaves.each c since);
  before = λ t c le since. ⊎_elim inl (λ holds. inr (gives c holds)) (leaves.before t c le since);
}

-- calls that change nothing, and then others
pub keeps_both : (first mid last : DiskShown) → Keeps first mid → Keeps mid last → Keeps first last
keeps_both first mid last a b = record {
  file = b.file ∙ a.file;
  images = λ c now. a.images c (b.images c now);
  later = omega (arith, a.later, b.later);
  nothing_new = λ t c le since. a.nothing_new t c le (b.nothing_new t c (omega (arith, le, a.later)) since);
  keeps = λ t c le since. b.keeps t c (omega (arith, le, a.later)) (a.keeps t c le since);
}

pub keeps_none : (shown : DiskShown) → Keeps shown shown
keeps_none shown = record { file = refl; images = λ c now. now; later = omega arith; nothing_new = λ t c le since. since; keeps = λ t c le since. since }

-- in time nothing else comes of them
pub elapses_of : (old new : DiskShown) → Keeps old new → Elapses old new
elapses_of old new keeps = record { later = keeps.later; nothing_else = λ t c le since. inl (keeps.nothing_new t c le since); keeps = keeps.keeps }

-- where each image was the file, and nothing changed, each is still
pub durable_kept : (old new : DiskShown) → IsDurable old → Keeps old new → IsDurable new
durable_kept old new durable keeps c now = keeps.file ∙ durable c (keeps.images c now)
