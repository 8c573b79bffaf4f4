-- An event that a body spells can be written.
use Rattle.std.proofs.Common.{ℕ, List, [], ◌∷◌}
use Rattle.std.specs.List.{AllByRecursion}
use Rattle.json_tree.specs.declared.tree.Tree.{Tree}
use Rattle.json_tree.specs.Spelling.{IsJson, Fits}
use Rattle.event_body.specs.declared.event_body.event.Event.{Event}
use Rattle.event_body.specs.declared.event_body.event.Event.TheVariants.{Icp, Rot, Ixn, Dip, Drt, Rct}
use Rattle.event_body.specs.EventBody.Judging.{IsSpelled}
use Rattle.event_body.specs.EventBody.Kept.{IsKept}
use Rattle.event_body.proofs.EventBodyLemmas.Keeping.{kept}
use Rattle.event_body.specs.EventWriting.Writable.{IsWritable}

fit_json : (n : ℕ) (values : List Tree) → AllByRecursion (Fits n) values → AllByRecursion IsJson values
fit_json n [] all = tt
fit_json n (value ∷ values) all = (all.0.0, fit_json n values all.1)

kept_writable : (event : Event) → IsKept event → IsWritable event
kept_writable (Icp e) kept = (fit_json 8 e.anchors kept.0.ranges.anchors_held, kept.0.ranges.traits_held, kept.1)
kept_writable (Dip e) kept = (fit_json 8 e.anchors kept.0.ranges.anchors_held, kept.0.ranges.traits_held, kept.1)
kept_writable (Rot e) kept = fit_json 8 e.anchors kept.ranges.anchors_held
kept_writable (Drt e) kept = fit_json 8 e.anchors kept.ranges.anchors_held
kept_writable (Ixn e) kept = fit_json 8 e.anchors kept.anchors_held
kept_writable (Rct receipt) kept = tt

pub writable : (event : Event) → IsSpelled event → IsWritable event
writable event spelled = kept_writable event (kept event spelled.0 spelled.1)
