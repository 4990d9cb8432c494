use Rattle.std.proofs.Common.{◌≡◌, ◌+◌, drop, sym, ap, ◌∙◌}
use Rattle.hp_cause.specs.Gathering.{in_list, vertices_of}
use Rattle.hp_tables.specs.Defining.Layers.{sight}
use Rattle.hp_cause.specs.Told.{with_more}
use Rattle.hp_cause.proofs.GrowLaws.{next-vertex}
use Rattle.hp_cause.proofs.gather.vertices_of.Goals as goal

pub loop-name-preserved : goal.loop-name-preserved
loop-name-preserved c =
    let i = c.loop-name.name-index in
    let names = c.args.names.now in
    let item = c.loop-name-item.result in
    let see = sight c.args.layers.now in
    let before = c.loop-name.vertices.items in
    let name_is : c.bytes.result.now ≡ item.0 = cc in
    ap (λ made. with_more made (vertices_of see (drop (i + 1) names))) (c.in_ok-add_vertex.ensures ∙ ap (λ name. with_more before (in_list (see name))) name_is)
    ∙ sym (next-vertex before see names i item c.loop-name-test.true c.loop-name-item.is)
    ∙ c.loop-name.invariant
