-- What is asked of an event that is written, and what holds of the thresholds of any.
use Rattle.std.specs.Prelude.{◌≡◌, None, IsSome}
use Rattle.std.specs.List.{AllByRecursion}
use Rattle.json_tree.specs.Spelling.{IsJson}
use Rattle.json_tree.specs.Strings.{IsString}
use Rattle.sith.specs.OwnValues.{HasOwnValue}
use Rattle.event_body.specs.declared.event_body.event.Event.{Event}
use Rattle.event_body.specs.declared.event_body.event.Event.TheVariants.{Icp, Rot, Ixn, Dip, Drt, Rct}

-- The anchors and the traits are of JSON's grammar, and a delegated inception alone names a delegator.
abbrev pub IsWritable : Event → Type 0
IsWritable (Icp e) = AllByRecursion IsJson e.anchors × AllByRecursion IsString e.traits × (e.delegator ≡ None)
IsWritable (Dip e) = AllByRecursion IsJson e.anchors × AllByRecursion IsString e.traits × IsSome e.delegator
IsWritable (Rot e) = AllByRecursion IsJson e.anchors
IsWritable (Drt e) = AllByRecursion IsJson e.anchors
IsWritable (Ixn e) = AllByRecursion IsJson e.anchors
IsWritable (Rct receipt) = Unit {0}

-- the thresholds have values of their own
abbrev pub HasOwnThresholds : Event → Type 0
HasOwnThresholds (Icp e) = HasOwnValue e.kt × HasOwnValue e.nt
HasOwnThresholds (Dip e) = HasOwnValue e.kt × HasOwnValue e.nt
HasOwnThresholds (Rot e) = HasOwnValue e.kt × HasOwnValue e.nt
HasOwnThresholds (Drt e) = HasOwnValue e.kt × HasOwnValue e.nt
HasOwnThresholds (Ixn e) = Unit {0}
HasOwnThresholds (Rct receipt) = Unit {0}
