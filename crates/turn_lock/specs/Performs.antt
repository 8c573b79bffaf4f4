-- What the closure of a turn did to the value, as the seat that has the turn knows it.
use Rattle.std.specs.Prelude.{◌≡◌, ℕ, List, [], length}
use Rattle.std.specs.Fn.{Once, FnOnceReturnsAtMut}
use denote.Ref.{MutBor}
use Rattle.atomic_table.specs.Table.{Me}
use Rattle.turn_lock.specs.declared.view.View.{View}
use Rattle.turn_lock.specs.Known.{known_of}
use Rattle.turn_lock.specs.Passes.{MayMeet, Appends}
use Rattle.turn_lock.specs.Steps.{out_view, in_view}

module _ {V E H : Type 0} (entries : V → List E) (head_of : V → H) (names : E → ℕ) {F R : Type 0} (g : Once F (MutBor V × Unit {0}) (R × (MutBor V × Unit {0}))) (f : F) where
  -- f was called at the value `met`, returned r and left `left`, whose entries were counted, and the value is home again
  pub record Performed (v : View E H) (r : R) (count : ℕ) (me : Me V (View E H)) : Type 0 where
    pub met : V
    pub left : V
    pub es : List E
    pub meets : MayMeet entries head_of names (known_of v) met
    pub returned : FnOnceReturnsAtMut g f met r left
    pub appends : Appends entries head_of names v.number met left es
    pub counted : count ≡ length (entries left)
    pub now : me ≡ (in_view (out_view v (entries met)) es, [])
