use Rattle.std.proofs.Common.{◌≡◌, List, subst, ap, ◌∙◌}
use Rattle.hp_tree.specs.declared.program.Item.{Item}
use Rattle.law_equations.specs.Made.Making.{Known}
use Rattle.hp_complete.specs.Declaring.{known_of}
use Rattle.hp_complete.specs.Made.{AreMadeOf}
use Rattle.hp_complete.specs.Tables.{known_in}
use Rattle.hp_complete.proofs.MadeLaws.{made-flat}
use Rattle.hp_complete.proofs.flatten.Goals as goal

pub returns-in-Ok-clause-made : goal.returns-in-Ok-clause-made
returns-in-Ok-clause-made c =
    let nodes = c.in-Ok.nodes.items in
    let items : c.deref.result.now ≡ c.args.program.now = c.deref.ensures.value ∙ c.program.view_is in
    let same : c.deref-2.result.now ≡ c.args.program.now = c.deref-2.ensures.value ∙ c.program.view_is in
    let known : known_in c.in_ok-declared.declared ≡ known_of c.args.program.now = c.in_ok-declared.ensures ∙ ap known_of items in
    subst (λ (k : Known). AreMadeOf k c.args.program.now nodes) known (subst (λ (xs : List Item). AreMadeOf (known_in c.in_ok-declared.declared) xs nodes) same c.in-Ok.ensures.made)

pub returns-in-Ok-clause-flat : goal.returns-in-Ok-clause-flat
returns-in-Ok-clause-flat c = made-flat (known_of c.args.program.now) c.args.program.now c.in-Ok.nodes.items (returns-in-Ok-clause-made c)
