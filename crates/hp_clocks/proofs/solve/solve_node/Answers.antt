use Rattle.std.proofs.Common.{◌≡◌, ◌+◌, ◌<◌, ◌≤◌, ℕ, List, length, Err, refl, ap, ◌∙◌, subst, arith}
use Rattle.hp_clocks.specs.declared.solve.Unsolved.TheVariants as Unsolved
use Rattle.hp_clocks.specs.Names.{with_more}
use Rattle.hp_clocks.specs.Units.{Right, node_units, size_of_node, locals_of_node, rights_of_node}
use Rattle.hp_clocks.specs.Putting.{Solves, rights_seen}
use Rattle.hp_clocks.proofs.NamedLaws.{more-from_nil}
use Rattle.hp_clocks.proofs.SolvesLaws.{solves_as, puts_as}
use Rattle.hp_clocks.proofs.Seeing.{handed_on}
use Rattle.hp_clocks.proofs.NodeSolved.{node_solved, node_clash}
use Rattle.hp_clocks.proofs.BoundLaws.{all_wider, node_locals_below, node_rights_below}
use Rattle.hp_clocks.proofs.solve.solve_node.Goals as goal

pub returns-clause-solved : goal.returns-clause-solved
returns-clause-solved c =
    let n = c.args.node.now in
    let cs = c.in_ok-cells.cells.cells.items in
    let opened = c.in_ok-cells.ensures in
    let s = c.solve_parts.new.solution in
    let ds = s.cells.cells.items in
    let step = c.in_ok-solve_parts.ensures in
    let many = 1 + size_of_node n in
    let variables : c.len-variables.result ≡ many = omega (arith, c.len-variables.ensures, opened.many, c.in_ok-cells.cells.cells.ok.0) in
    let puts = puts_as many c.len-variables.result cs cs ds (node_units n) (node_units n) variables refl refl step.solves in
    let some : 0 < many = omega arith in
    let most : many ≤ many = omega arith in
    let wide : many ≤ length ds = omega (arith, opened.many, puts.grows.longer) in
    node_solved n cs opened s puts (step.locals ∙ ap (λ (z : List ℕ). with_more z (locals_of_node n)) c.new.ensures.items ∙ more-from_nil (locals_of_node n))
    (step.rights ∙ ap (λ z. with_more (rights_seen z) (rights_of_node n)) c.new-2.ensures.items ∙ more-from_nil (rights_of_node n))
    (all_wider (λ i. i < many) (λ i. i < length ds) (locals_of_node n) (λ i h. omega (arith, h, wide)) (node_locals_below many some n most))
    (all_wider (λ (r : Right). r.0 < many) (λ (r : Right). r.0 < length ds) (rights_of_node n) (λ r h. omega (arith, h, wide)) (node_rights_below many some n most))

pub returns-in_err-solve_parts-clause-clash : goal.returns-in_err-solve_parts-clause-clash
returns-in_err-solve_parts-clause-clash c =
    let n = c.args.node.now in
    let cs = c.in_ok-cells.cells.cells.items in
    let opened = c.in_ok-cells.ensures in
    let ds = c.solve_parts.new.solution.cells.cells.items in
    let many = 1 + size_of_node n in
    let r = c.from_residual-in_err-solve_parts.result in
    let e = c.in_err-solve_parts.field-0.0 in
    let variables : c.len-variables.result ≡ many = omega (arith, c.len-variables.ensures, opened.many, c.in_ok-cells.cells.cells.ok.0) in
    let made = solves_as many c.len-variables.result cs cs ds (node_units n) (node_units n) (Err e) variables refl refl c.in_err-solve_parts.ensures.solves in
    λ at q.
    node_clash n cs opened at (subst (λ z. Solves many cs ds (node_units n) (Err z)) (handed_on r e (Unsolved.Clash at) c.from_residual-in_err-solve_parts.ensures.1 q) made)
