use Rattle.std.proofs.Common.{rules, ◌≡◌, ◌⊎◌, ◌+◌, ℕ, inl, inr, subst}
use Rattle.hp_flat.specs.Nodes.{FlatNode}
use Rattle.hp_watch.specs.Watching.{watched_seen}
use Rattle.hp_controlled.specs.Choosing as made
use Rattle.hp_controlled.specs.Choosing.{with_copies}
use Rattle.hp_controlled.specs.Lacking.{HasCircularEqns}
use Rattle.hp_controlled.proofs.ChoosingLaws.{says_more}
use Rattle.hp_controlled.proofs.node.asking.Goals as goal

same : (a b d e : ℕ) (n o : FlatNode) → a ≡ b → d ≡ e → n ≡ o → HasCircularEqns (with_copies a d n).node → HasCircularEqns (with_copies b e o).node
same a b d e n o first second third h =
    subst (λ (x : FlatNode). HasCircularEqns (with_copies b e x).node) third
    (subst (λ k. HasCircularEqns (with_copies b k n).node) second
    (subst (λ k. HasCircularEqns (with_copies k d n).node) first h))

pub returns-clause-asks_not : goal.returns-clause-asks_not
returns-clause-asks_not c =
    let w = watched_seen c.args.watched in
    let a = c.args.abstraction.now in
    let asks : c.in_ok-asks.asks ≡ made.asking c.args.node.now.name w a c.args.controls.now = search rules in
    let assumed : c.in_ok-assumed.assumed ≡ made.first_gate w a.machine + a.assume = search rules in
    let enforced : c.in_ok-enforced.enforced ≡ made.first_gate w a.machine + a.enforce = search rules in
    says_more c.told.result _ _ (λ circle. inr (same _ _ _ _ _ _ assumed enforced asks circle)) c.told.ensures.circular
