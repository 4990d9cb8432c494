use Rattle.std.proofs.Common.{◌≡◌, ap, sym, ◌∙◌, length, get_or, false, rules}
use Rattle.std.proofs.Math.ListN.{replicate}
use Rattle.hp_toobc.specs.Flags.{marked, all_marked}
use Rattle.hp_toobc.proofs.FlagLaws.{flags-local, written-back, length-marked, length-all}
use Rattle.hp_toobc.proofs.declare.local_flags.Goals as goal

pub returns-clause-flags : goal.returns-clause-flags
returns-clause-flags c =
    let made : c.in_ok-flags.flags.items ≡ replicate c.args.count false = c.in_ok-flags.ensures.items_if_clones_equal (λ y e. search rules) in
    let is = c.mark_locals.ensures ∙ ap (λ fs. marked false c.args.node.now.outputs (all_marked c.args.node.now.eqns fs)) c.deref_mut.ensures.value in
    let same : length c.mark_locals.new.flags ≡ length c.in_ok-flags.flags.items =
    ap length is ∙ length-marked false c.args.node.now.outputs (all_marked c.args.node.now.eqns c.in_ok-flags.flags.items) ∙ length-all c.args.node.now.eqns c.in_ok-flags.flags.items in
    λ x h.
    ap (λ fs. get_or fs x false) (written-back c.in_ok-flags.flags.items c.mark_locals.new.flags c.in_ok-flags.flags.len (sym c.deref_mut.ensures.len ∙ ap length c.deref_mut.ensures.value) same)
    ∙ flags-local c.args.node.now c.args.count c.in_ok-flags.flags.items c.mark_locals.new.flags made is x h
