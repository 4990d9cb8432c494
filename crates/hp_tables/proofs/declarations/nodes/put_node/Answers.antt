use Rattle.std.proofs.Common.{ℕ, List, Option, Bor, refl, ap, ◌∙◌}
use Rattle.std.specs.Str.{bytes_eq}
use Rattle.hp_tree.specs.Programs.{Node}
use Rattle.hp_tables.specs.Declarations.Seen.{node_seen}
use Rattle.hp_tables.specs.Declarations.Tables.{said_in}
use Rattle.hp_tables.proofs.DeclarationsLemmas.TableLaws.{node-chosen}
use Rattle.hp_tables.proofs.declarations.nodes.put_node.Goals as goal

pub returns : goal.returns
returns c =
    let text = c.args.name.now in
    let node = c.args.node in
    let nodes : (List ℕ → Option (Bor Node)) → List ℕ → Option Node = λ f x. node_seen (f x) in
    ap nodes c.in_ok-put.ensures
    ∙ (λ j x. node-chosen (bytes_eq text x) node.now (said_in c.args.found.now x) node refl j)
