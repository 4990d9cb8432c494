use Rattle.std.proofs.Common.{◌≡◌, ℕ, length, ap, ap₂, sym, ◌∙◌}
use Rattle.std.proofs.Math.ListN.{replicate}
use Rattle.hp_flat.specs.Nodes.{FlatNode}
use Rattle.hp_normal.specs.Needing.{needed, roots}
use Rattle.hp_normal.specs.Tables.{counted, is_uncounted, with_needs}
use Rattle.hp_normal.proofs.CountLaws.{length-counted}
use Rattle.hp_normal.proofs.Lists.{written-back}
use Rattle.hp_normal.proofs.NeedLaws.{needs-told, uncounted-told}
use Rattle.hp_normal.proofs.prune.need_counts.Goals as goal

pub returns : goal.returns
returns c =
    let n = c.args.node.now in
    let none = replicate {A = ℕ} (length n.variables) 0 in
    let first = c.in_ok-counts.counts in
    let eqns : c.deref.result.now ≡ n.eqns = c.deref.ensures.value ∙ ap (λ (m : FlatNode). m.eqns) c.node.view_is in
    let is : c.count_needs.new.counts ≡ counted (needed n n.eqns) none =
    c.count_needs.ensures ∙ ap₂ with_needs eqns (c.deref_mut.ensures.value ∙ c.in_ok-counts.ensures) ∙ needs-told n n.eqns in
    let long : length c.count_needs.new.counts ≡ length first.items =
    ap length is ∙ length-counted (needed n n.eqns) none ∙ sym (ap length c.in_ok-counts.ensures ∙ length-counted (roots n) none) in
    let held = written-back first.items c.count_needs.new.counts first.len (sym c.deref_mut.ensures.len ∙ ap length c.deref_mut.ensures.value) long ∙ is in
    ap is_uncounted held ∙ (λ i e. uncounted-told n (needed n n.eqns) e i)
