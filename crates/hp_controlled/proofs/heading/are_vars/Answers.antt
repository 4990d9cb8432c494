use Rattle.std.proofs.Common.{◌≡◌, ◌∷◌, [], length, rules, arith}
use Rattle.hp_machines.specs.Machined.{vars_of}
use Rattle.hp_controlled.proofs.HeadingLaws.{next_var}
use Rattle.hp_controlled.proofs.heading.are_vars.Goals as goal

pub loop-i-preserved : goal.loop-i-preserved
loop-i-preserved c =
    let same : c.index-vars-i.result ∷ [] ≡ vars_of (c.index-decls-i.result ∷ []) = search rules in
    let long : length c.args.vars.now ≡ length c.args.decls.now = search rules in
    next_var c.args.vars.now c.args.decls.now c.loop-i.i c.index-vars-i.result c.index-decls-i.result (omega arith) long c.index-vars-i.is c.index-decls-i.is same c.loop-i.invariant
