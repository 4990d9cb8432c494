use Rattle.std.proofs.Common.{ℕ, List, Option, ap, ◌∙◌}
use Rattle.hp_tables.specs.Declarations.Items as declared
use Rattle.hp_complete.specs.Signatures.{places_of}
use Rattle.hp_complete.specs.Tables.{all_bounded}
use Rattle.hp_complete.proofs.TableLaws.{constructors-bounded}
use Rattle.hp_complete.proofs.declared.Declared.of.Goals as goal

pub returns : goal.returns
returns c =
    let items = c.args.items.now in
    let types = c.in_ok-types.ensures in
    let found = c.in_ok-constructors.ensures ∙ ap (λ (places : List ℕ → Option ℕ). declared.constructors_of places 65535 items) types in
    let constructors = ap all_bounded found ∙ constructors-bounded (places_of items) items in
    let nodes = c.in_ok-nodes.ensures in
    λ j. record { types = types j; constructors = constructors j; nodes = nodes j }
