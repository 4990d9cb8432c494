use Rattle.std.proofs.Common.{map, sym, ap, ◌∙◌}
use Rattle.hp_tree.specs.Blocks.{eqns_of}
use Rattle.hp_tree.specs.BlockView.{eqn_seen}
use Rattle.hp_clocks.specs.Names.{with_more}
use Rattle.hp_tables.specs.Defining.Names.{controls_in}
use Rattle.hp_clocks.specs.Units.{number_in}
use Rattle.hp_clocks.specs.Putting.{own_locals}
use Rattle.hp_clocks.specs.Layers.{says, says_names, says_by, says_own, cells_by, no_entry}
use Rattle.hp_clocks.proofs.DefinedLaws.{if_map, ok_then, own_says, own_cells}
use Rattle.hp_clocks.proofs.layer.own_layer.Goals as goal

pub returns-clause-says : goal.returns-clause-says
returns-clause-says c =
    let ds = c.block.inside.locals.items in
    let es = eqns_of (map eqn_seen c.block.inside.eqns.items) in
    if_map c.layer_by.result
    (λ layer h.
    h
    ∙ ap (λ k. says_by k (says c.in_ok-numbers.numbers) c.args.block.now) (c.in_ok-controls.ensures ∙ ap (λ eqns. says_names (controls_in (eqns_of (map eqn_seen eqns))) no_entry) c.deref.ensures.value)
    ∙ ap (λ k. says_by (says_names (controls_in es) no_entry) k c.args.block.now) (c.in_ok-numbers.ensures ∙ ap (number_in c.args.first) c.deref-2.ensures.value)
    ∙ ap (λ b. says_by (says_names (controls_in es) no_entry) (number_in c.args.first ds) b) (sym c.block.view_is)
    ∙ own_says c.args.first ds es
    ∙ ap (says_own c.args.first) c.block.view_is)
    c.layer_by.ensures.says

pub returns-clause-cells : goal.returns-clause-cells
returns-clause-cells c =
    let ds = c.block.inside.locals.items in
    let es = eqns_of (map eqn_seen c.block.inside.eqns.items) in
    let before = c.args.into.now.items in
    ok_then c.layer_by.new.into.items (with_more before (cells_by (says c.in_ok-controls.controls) (says c.in_ok-numbers.numbers) c.args.block.now)) (with_more before (own_locals c.args.first c.args.block.now)) c.layer_by.result c.layer_by.ensures.cells
    (ap (λ k. with_more before (cells_by k (says c.in_ok-numbers.numbers) c.args.block.now)) (c.in_ok-controls.ensures ∙ ap (λ eqns. says_names (controls_in (eqns_of (map eqn_seen eqns))) no_entry) c.deref.ensures.value)
    ∙ ap (λ k. with_more before (cells_by (says_names (controls_in es) no_entry) k c.args.block.now)) (c.in_ok-numbers.ensures ∙ ap (number_in c.args.first) c.deref-2.ensures.value)
    ∙ ap (λ b. with_more before (cells_by (says_names (controls_in es) no_entry) (number_in c.args.first ds) b)) (sym c.block.view_is)
    ∙ ap (λ made. with_more before made) (own_cells c.args.first ds es)
    ∙ ap (λ b. with_more before (own_locals c.args.first b)) c.block.view_is)
