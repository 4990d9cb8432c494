use Rattle.std.proofs.Common.{◌≡◌, ap, length, ◌∙◌, arith}
use Rattle.hp_obc.specs.Machines.{ObcType}
use Rattle.hp_form.proofs.TypeLaws.{count_past, count_within}
use Rattle.hp_form.proofs.types.count.Goals as goal

pub returns-in-None : goal.returns-in-None
returns-in-None c = count_past c.args.types.now c.args.number c.in-None.ensures.lookup.3

pub returns-in-Some : goal.returns-in-Some
returns-in-Some c =
    let there : c.len.result ≡ length c.declared.inside.cons.items = omega (arith, c.len.ensures, c.declared.inside.cons.ok.0) in
    there ∙ ap (λ (t : ObcType). length t.cons) (c.declared.view_is ∙ c.in-Some.ensures.lookup.1)
    ∙ count_within c.args.types.now c.args.number c.in-Some.declared.now c.in-Some.ensures.lookup.3.0
