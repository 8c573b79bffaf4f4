-- What follows of what is there follows where that is so.
use Rattle.std.proofs.Common.{Option, Some, None, IfSome}

pub if_map : {T : Type 0} (P Q : T → Type 0) (o : Option T) → ((x : T) → P x → Q x) → IfSome o P → IfSome o Q
if_map P Q None gives holds = tt
if_map P Q (Some x) gives holds = gives x holds

pub if_both : {T : Type 0} (P Q R : T → Type 0) (o : Option T) → ((x : T) → P x → Q x → R x) → IfSome o P → IfSome o Q → IfSome o R
if_both P Q R None gives p q = tt
if_both P Q R (Some x) gives p q = gives x p q
