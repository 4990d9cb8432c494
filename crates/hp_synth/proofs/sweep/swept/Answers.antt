use Rattle.std.proofs.Common.{◌<◌, ℕ, List, length, get_or, sym, subst}
use Rattle.slab.specs.Slab.{ContainsKey}
use Rattle.hp_synth.specs.Rooted.{AreAt}
use Rattle.hp_synth.proofs.RootLaws.{has-roots, keys-kept, swept-list}
use Rattle.hp_synth.proofs.RoundSteps.{if_ok-map}
use Rattle.hp_synth.proofs.sweep.swept.Goals as goal

pub sweep-requires : goal.sweep-requires
sweep-requires c = has-roots c.args.t.now c.in_ok-roots.roots.slab c.in_ok-roots.roots.keys.items c.args.refs.now c.in_ok-roots.ensures c.requires

pub at_keys-requires : goal.at_keys-requires
at_keys-requires c =
    subst (λ (ks : List ℕ). (i : ℕ) → i < length ks → ContainsKey c.sweep.new.roots (get_or ks i 0)) (sym c.deref.ensures.value)
    (keys-kept c.args.t.now c.sweep.new.t c.in_ok-roots.roots.slab c.sweep.new.roots c.in_ok-sweep.ensures.ok c.in_ok-roots.roots.keys.items c.args.refs.now c.in_ok-roots.ensures.at)

pub returns : goal.returns
returns c =
    if_ok-map c.at_keys.result (λ after at.
    swept-list c.args.t.now c.sweep.new.t c.in_ok-roots.roots.slab c.sweep.new.roots c.in_ok-sweep.ensures.ok c.in_ok-roots.roots.keys.items c.args.refs.now after.items c.in_ok-roots.ensures
    (subst (λ (ks : List ℕ). AreAt c.sweep.new.roots ks after.items) c.deref.ensures.value at))
    c.at_keys.ensures
