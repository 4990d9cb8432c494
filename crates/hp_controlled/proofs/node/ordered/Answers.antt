use Rattle.std.proofs.Common.{rules, ◌≡◌, List, Result, Ok, Err, IfErr, length, refl, sym, ap, subst, ◌∙◌}
use Rattle.std.specs.List.{All}
use Rattle.std.specs.Result.{IsErrAnd}
use Rattle.hp_complete.specs.Ranges.{EqnWithin}
use Rattle.hp_flat.specs.Equations.{FlatEqn}
use Rattle.hp_flat.specs.Nodes.{FlatNode}
use Rattle.hp_complete.specs.declared.error.FlattenErr.{FlattenErr}
use Rattle.hp_complete.specs.declared.error.FlattenErr.TheVariants.{Cycle, OutOfMemory}
use Rattle.hp_complete.specs.Ordering.{IsCircular, SaysTrue}
use Rattle.hp_controlled.specs.declared.error.ControlledErr.{ControlledErr}
use Rattle.hp_controlled.specs.declared.error.ControlledErr.TheVariants as controlled
use Rattle.hp_controlled.specs.Errors.{IsOfFlatten}
use Rattle.hp_controlled.specs.Lacking.{HasCircularEqns, SaysNotBuilt}
use Rattle.hp_controlled.proofs.node.ordered.Goals as goal

cycle_of : (e : FlattenErr) (x : ControlledErr) → IsOfFlatten e x → x ≡ controlled.NotBuilt → e ≡ Cycle
cycle_of Cycle x made is = refl
cycle_of OutOfMemory x made is = let wrong : controlled.OutOfMemory ≡ controlled.NotBuilt = sym made ∙ is in absurd cc

says_so : {A : Type 0} (r : Result A ControlledErr) (e : FlattenErr) (Q : Type 0) → (e ≡ Cycle → Q) → IsErrAnd r (IsOfFlatten e) → IfErr r (SaysNotBuilt Q)
says_so (Ok a) e Q f made = tt
says_so (Err x) e Q f made = λ is. f (cycle_of e x made is)

pub returns-in_err-order_eqns-clause-circular : goal.returns-in_err-order_eqns-clause-circular
returns-in_err-order_eqns-clause-circular c =
    let n : FlatNode = c.args.node in
    let e = c.in_err-order_eqns.field-0.0 in
    let eqns : c.deref_mut.result.now ≡ n.eqns = search rules in
    let many : c.len-variables.result ≡ length n.variables = search rules in
    says_so c.from_residual.result e (HasCircularEqns n)
    (λ is. λ within.
    let here = subst (λ k. All (EqnWithin k) c.deref_mut.result.now) (sym many) (subst (λ (es : List FlatEqn). All (EqnWithin (length n.variables)) es) (sym eqns) within) in
    subst (λ (es : List FlatEqn). IsCircular es) eqns (subst (SaysTrue (IsCircular c.deref_mut.result.now)) is (c.in_err-order_eqns.ensures.circular here)))
    c.from_residual.ensures.1
