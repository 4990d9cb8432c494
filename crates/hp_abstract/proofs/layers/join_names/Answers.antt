use Rattle.std.proofs.Common.{sym, ap, ◌∙◌}
use Rattle.hp_drawing.specs.Seen.{sketch_of}
use Rattle.hp_abstract.specs.Seen.{layer_of, named_seen}
use Rattle.hp_abstract.proofs.ScopeLaws.{join-step}
use Rattle.hp_abstract.proofs.layers.join_names.Goals as goal

pub loop-i-preserved : goal.loop-i-preserved
loop-i-preserved c =
    let step =
    join-step (layer_of c.args.own.now) c.args.condition (layer_of c.loop-i.hidden) (layer_of c.set_hole.new.self) c.loop-i.i c.in_ok-rest.rest (c.in-Some.name.now, c.in-Some.entry) (sketch_of c.loop-i.draft) (sketch_of c.join_name.new.draft)
    (sym (ap named_seen c.in-Some.is) ∙ c.at.ensures) c.in_ok-rest.ensures.wire c.in_ok-rest.ensures.sketch c.set_hole.ensures in
    record { many = step.0 ∙ c.loop-i.invariant.many; layer = step.1 ∙ c.loop-i.invariant.layer; sketch = step.2 ∙ c.loop-i.invariant.sketch }
