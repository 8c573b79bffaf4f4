-- The groups that a message keeps, and how more come behind them.
use Rattle.std.proofs.Common.{◌≡◌, ℕ, ◌+◌, ◌<◌, ◌≤◌, nat_lt, Bool, true, false, List, [], ◌∷◌, ◌++◌, length, take, sum_by, refl, ap, ◌∙◌, arith, inl, inr, length-take}
use Rattle.std.proofs.lemmas.Bool.{cases_Bool}
use Rattle.std.proofs.lemmas.Bool.Decides.{nat_tests}
use Rattle.std.proofs.lemmas.List.Sums.{sum_by-cons, sum_by-append}
use Rattle.cesr_stream.specs.declared.group.Group.{Group}
use Rattle.cesr_stream.specs.Groups.{elements_of}
use Rattle.cesr_stream.specs.Messages.{kept_groups, message}
use Rattle.cesr_stream.specs.declared.message.Message.{Message}
use Rattle.cesr_stream.specs.Assembly.{AreKept, AreAdded, with_groups}

-- all are kept where they have few enough elements, and others may come behind them
pub kept-behind : (limit before : ℕ) (groups more : List Group) → before + sum_by elements_of groups ≤ limit
    → kept_groups limit before (groups ++ more) ≡ groups ++ kept_groups limit (before + sum_by elements_of groups) more
kept-behind limit before [] more le = ap (λ b. kept_groups limit b more) (omega arith)
kept-behind limit before (group ∷ groups) more le =
    grind (arith, nat_tests, sum_by-cons elements_of group groups, kept-behind limit (before + elements_of group) groups more)

pub kept-all : (limit before : ℕ) (groups : List Group) → before + sum_by elements_of groups ≤ limit → kept_groups limit before groups ≡ groups
kept-all limit before [] le = refl
kept-all limit before (group ∷ groups) le =
    grind (arith, nat_tests, sum_by-cons elements_of group groups, kept-all limit (before + elements_of group) groups)

-- what comes behind too many elements changes nothing
pub kept-over : (limit before : ℕ) (groups more : List Group) → before ≤ limit → limit < before + sum_by elements_of groups
    → kept_groups limit before (groups ++ more) ≡ kept_groups limit before groups
kept-over limit before [] more few lt = absurd (omega (arith, few, lt))
kept-over limit before (group ∷ groups) more few lt =
    grind (arith, nat_tests, sum_by-cons elements_of group groups, kept-over limit (before + elements_of group) groups more)

-- not all are kept where they have too many elements
pub length-kept_groups : (limit before : ℕ) (groups : List Group) → before ≤ limit
    → nat_lt (length (kept_groups limit before groups)) (length groups) ≡ nat_lt limit (before + sum_by elements_of groups)
length-kept_groups limit before [] few = grind (arith, nat_tests)
length-kept_groups limit before (group ∷ groups) few =
    grind (arith, nat_tests, sum_by-cons elements_of group groups, length-kept_groups limit (before + elements_of group) groups)

-- the message of groups is that of the first, with the others behind them
pub message-append : (limit place : ℕ) (body : List ℕ) (groups more : List Group)
    → message limit place body (groups ++ more) ≡ with_groups limit more (message limit place body groups)
message-append limit place body groups more = elim (cases_Bool (nat_lt limit (sum_by elements_of groups))) [
  | inl over ↦ grind (arith, nat_tests, over, sum_by-append elements_of groups more, kept-over limit 0 groups more)
  | inr few ↦ grind (arith, nat_tests, few, sum_by-append elements_of groups more, kept-all limit 0 groups, kept-behind limit 0 groups more)
]

-- the kept groups are put behind those of a message that has no excess
pub added : (limit before used count : ℕ) (old : Message) (groups all : List Group) → old.excess ≡ false
    → before ≡ sum_by elements_of old.groups → before ≤ limit → AreKept limit before groups count used → all ≡ old.groups ++ take count groups
    → AreAdded limit groups old (record { place = old.place; body = old.body; groups = all; excess = nat_lt count (length groups) }) used
added limit before used count old groups all fine is few kept is_all = record {
  added = at old.excess fine;
  counted = omega (arith, kept.counted, is, ap (sum_by elements_of) is_all, sum_by-append elements_of old.groups (take count groups));
  few = kept.few;
}
  where
    same : count ≡ length (kept_groups limit before groups)
    same = omega (arith, kept.some, ap length kept.kept, length-take count groups)

    at : (excess : Bool) → excess ≡ false
        → record { place = old.place; body = old.body; groups = all; excess = nat_lt count (length groups) }
        ≡ with_groups limit groups (record { place = old.place; body = old.body; groups = old.groups; excess = excess })
    at true e = cc e
    at false e =
        ap (λ gs. record { place = old.place; body = old.body; groups = gs; excess = nat_lt count (length groups) })
        (is_all ∙ ap (λ gs. old.groups ++ gs) (kept.kept ∙ ap (λ b. kept_groups limit b groups) is))
        ∙ ap (λ over. record { place = old.place; body = old.body; groups = old.groups ++ kept_groups limit (sum_by elements_of old.groups) groups; excess = over })
        (ap (λ n. nat_lt n (length groups)) same ∙ length-kept_groups limit before groups few ∙ ap (λ b. nat_lt limit (b + sum_by elements_of groups)) is)
