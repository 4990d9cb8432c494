use Rattle.std.proofs.Common.{◌≡◌, is_some, ap, ◌∙◌, arith}
use Rattle.slab.specs.Slab.{get}
use Rattle.hp_diagram.specs.Diagrams.{Diagrams}
use Rattle.hp_quant.proofs.Copied.{AreMoved-none, AreMoved-more, same_keys}
use Rattle.hp_quant.proofs.sweeping.move_roots.Goals as goal

pub loop-key-init : goal.loop-key-init
loop-key-init c =
    let e = c.in_ok-table.ensures in (
      AreMoved-none c.args.t.now c.in_ok-table.table c.args.roots.now c.new-moved.result.items
          (ap (λ (w : Diagrams). w.nodes) e) (ap (λ (w : Diagrams). w.vars) e ∙ c.vars.ensures.vars) (ap (λ (w : Diagrams). w.answers) e) c.new-moved.ensures.items,
      λ r s known. absurd (c.new-memo.ensures r s known),
    )

root_is : (c : goal.In_ok-push) → c.copied.result ≡ get c.args.roots.now c.loop-key.key
root_is c = c.copied.ensures ∙ c.get.ensures

pub loop-key-preserved : goal.loop-key-preserved
loop-key-preserved c =
    let e = c.in_ok-root.ensures in (
      AreMoved-more c.args.t.now c.loop-key.table c.copy_root.new.to c.args.roots.now c.loop-key.moved.items c.loop-key.key c.loop-key.invariant.0 c.in_ok-root.root
          e.keeps (e.is_some ∙ ap is_some (root_is c)) (λ r s was is. e.ok r s (root_is c ∙ was) is) e.reached e.answers c.push.new.self.items c.in_ok-push.ensures.items,
      e.right,
    )

pub returns-clause-keys : goal.returns-clause-keys
returns-clause-keys c =
    same_keys c.args.t.now c.loop-key.table c.args.roots.now c.loop-key.moved.items c.loop-key.key c.loop-key.invariant.0 (omega (arith, c.capacity-key-end.ensures.slots, c.loop-key-test.false))
