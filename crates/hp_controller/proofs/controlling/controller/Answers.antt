use Rattle.std.proofs.Common.{◌+◌, ◌≡◌, ◌≤◌, ◌^◌, length, map, sym, ap, ap₂, subst, ◌∙◌}
use Rattle.hp_boolx.specs.Machine.{Machine, game}
use Rattle.hp_boolx.specs.MachineView.{machine_seen}
use Rattle.hp_cert.specs.Certmade.Made.{HaveFunctions}
use Rattle.hp_control.specs.Controlling.{AreFunctionsAt}
use Rattle.hp_flat.specs.Nodes.{FlatNode}
use Rattle.hp_synth.specs.Layouts.{place, variable}
use Rattle.hp_controller.specs.Controllers.{moved, node_of_lines}
use Rattle.hp_controller.specs.Controlling.{IsController}
use Rattle.hp_controller.proofs.ControlLaws.{controls}
use Rattle.hp_controller.proofs.controlling.controller.Goals as goal

pub returns-clause-controller : goal.returns-clause-controller
returns-clause-controller c =
    let m : Machine = machine_seen c.m.inside in
    let t = c.played_functions.new.p.table in
    let layout = c.args.p.now.layout in
    let funs = c.in_ok-funs.funs.items in
    let lines = c.in_ok-page.page.lines.items in
    let numbers = c.in_ok-page.page.numbers.items in
    let name = c.in_ok-name.name in
    let are = subst (λ x. AreFunctionsAt (game x) (place layout) t funs) (sym c.m.view_is) c.in_ok-funs.ensures.ok in
    let have = subst (λ rs. HaveFunctions t rs lines numbers) c.deref.ensures.value c.in_ok-page.ensures.functions in
    let moved_lines = ap (λ l. map (moved (variable l)) lines) c.in_ok-funs.ensures.layout in
    let named = c.deref-3.ensures.value ∙ c.in_ok-lines.ensures ∙ ap (map (moved (variable c.played_functions.new.p.layout))) c.deref-2.ensures.value ∙ moved_lines in
    let node = c.in_ok-node.ensures ∙ ap₂ (λ ls ns. node_of_lines name (m.registers + m.early) ls ns) named c.deref-4.ensures.value in
    let few = subst (λ (n : FlatNode). length n.variables ≤ 2 ^ 64) node c.has_few_variables.ensures in
    subst (λ x. IsController x c.in_ok-node.node) c.m.view_is
    (subst (IsController m) (sym node) (controls m c.args.p.now.table.vars layout c.requires.played.layout t funs name lines numbers are have c.in_ok-page.ensures.back c.in_ok-name.ensures few))
