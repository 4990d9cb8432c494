use Rattle.std.proofs.Common.{◌≡◌, ap, sym, ◌∙◌, length}
use Rattle.hp_normal.specs.Needing.{roots}
use Rattle.hp_normal.specs.Tables.{counted}
use Rattle.hp_normal.proofs.Lists.{written-back}
use Rattle.hp_normal.proofs.CountLaws.{length-counted}
use Rattle.hp_normal.proofs.count.root_counts.Goals as goal

pub returns : goal.returns
returns c =
    let first = c.in_ok-counts.counts in
    let xs = roots c.args.node.now in
    let is : c.count_roots.new.counts ≡ counted xs first.items = c.count_roots.ensures ∙ ap (counted xs) c.deref_mut.ensures.value in
    written-back first.items c.count_roots.new.counts first.len (sym c.deref_mut.ensures.len ∙ ap length c.deref_mut.ensures.value) (ap length is ∙ length-counted xs first.items)
    ∙ is ∙ ap (counted xs) c.in_ok-counts.ensures
