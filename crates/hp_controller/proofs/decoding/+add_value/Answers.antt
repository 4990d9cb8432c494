use Rattle.std.proofs.Common.{◌≡◌, ℕ, suc, ◌+◌, ◌-◌, subst, ◌∙◌, arith}
use Rattle.hp_flat.specs.declared.equation.Atom.TheVariants.{Variable as Read}
use Rattle.hp_controller.specs.Decoding.{tree}
use Rattle.hp_controller.proofs.ValueLaws.{IsAdded, value-added}
use Rattle.hp_controller.proofs.decoding.+add_value.Goals as goal

-- what the two halves and the choice add
added : (t : ℕ) (c : goal.After-added-2-1 t)
    → IsAdded (tree c.args.ty.number c.args.ty.constructors c.args.bit c.args.width c.args.code c.args.added.now.next) (Read c.add_value-2.new.added.next) (c.add_value-2.new.added.next + 1) c.args.added.now.variables.items c.push.new.self.items c.args.added.now.eqns.items
    c.add_choice.new.eqns.items
added t c =
    let ty = c.args.ty.number in
    let count = c.args.ty.constructors in
    let start = c.args.added.now in
    let w = c.args.width - 1 in
    let one : suc w ≡ c.args.width = omega (arith, c.if-width-eq0.false) in
    let n1 = c.add_value.new.added.next in
    let n2 = c.add_value-2.new.added.next in
    let high : IsAdded (tree ty count c.in_ok-later.later w c.in_ok-odd.odd start.next) c.in_ok-high.high n1 start.variables.items c.add_value.new.added.variables.items start.eqns.items c.add_value.new.added.eqns.items =
    record { atom_is = c.in_ok-high.ensures.atom; next_is = c.in_ok-high.ensures.next; variables_are = c.in_ok-high.ensures.variables; eqns_are = c.in_ok-high.ensures.eqns } in
    let low : IsAdded (tree ty count c.in_ok-later.later w c.in_ok-even.even n1) c.in_ok-low.low n2 c.add_value.new.added.variables.items c.add_value-2.new.added.variables.items c.add_value.new.added.eqns.items c.add_value-2.new.added.eqns.items =
    record { atom_is = c.in_ok-low.ensures.atom; next_is = c.in_ok-low.ensures.next; variables_are = c.in_ok-low.ensures.variables; eqns_are = c.in_ok-low.ensures.eqns } in
    let all =
    value-added ty count c.args.bit w c.args.code start.next c.in_ok-later.later c.in_ok-even.even c.in_ok-odd.odd n1 n2 c.in_ok-high.high c.in_ok-low.low start.variables.items c.add_value.new.added.variables.items c.add_value-2.new.added.variables.items
    c.push.new.self.items start.eqns.items c.add_value.new.added.eqns.items c.add_value-2.new.added.eqns.items c.add_choice.new.eqns.items c.in_ok-variable.variable c.in_ok-later.ensures c.in_ok-even.ensures c.in_ok-odd.ensures high low c.in_ok-variable.ensures c.in_ok-push.ensures.items
    c.in_ok-add_choice.ensures in
    subst (λ n. IsAdded (tree ty count c.args.bit n c.args.code start.next) (Read n2) (n2 + 1) start.variables.items c.push.new.self.items start.eqns.items c.add_choice.new.eqns.items) one all

pub returns-clause-atom : goal.returns-clause-atom
returns-clause-atom t c = let all = added t c in all.atom_is

pub returns-clause-next : goal.returns-clause-next
returns-clause-next t c = let all = added t c in c.in_ok-added.ensures ∙ all.next_is

pub returns-clause-variables : goal.returns-clause-variables
returns-clause-variables t c = let all = added t c in all.variables_are

pub returns-clause-eqns : goal.returns-clause-eqns
returns-clause-eqns t c = let all = added t c in all.eqns_are
