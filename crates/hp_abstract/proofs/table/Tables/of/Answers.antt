use Rattle.std.proofs.Common.{ℕ, List, Option, ap, ◌∙◌}
use Rattle.hp_tables.specs.Declarations.Items as declared
use Rattle.hp_drawing.specs.Told.{counts_of, none_of}
use Rattle.hp_abstract.specs.Seen.{constructors_seen, told_in}
use Rattle.hp_abstract.proofs.TableLaws.{constructors-told, nodes-told}
use Rattle.hp_abstract.proofs.table.Tables.of.Goals as goal

pub returns : goal.returns
unfolding told_in
returns c =
    let items = c.args.items.now in
    let counts = c.in_ok-counts.ensures in
    let found = c.in_ok-constructors.ensures ∙ ap (λ (f : List ℕ → Option ℕ). declared.constructors_of f 0 items) counts in
    let constructors = ap constructors_seen found ∙ constructors-told (counts_of items) items in
    let nodes = c.in_ok-nodes.ensures ∙ nodes-told none_of items in
    λ j. record { counts = counts j; constructors = constructors j; nodes = nodes j }
