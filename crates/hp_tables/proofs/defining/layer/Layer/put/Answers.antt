use Rattle.std.proofs.Common.{◌≡◌, ℕ, List, Some, ◌∙◌}
use Rattle.std.proofs.lemmas.Map.Text.{hash_map_updates_str}
use Rattle.std.specs.Str.{bytes_eq}
use Rattle.std.specs.Map.{lookup}
use Rattle.hp_tables.specs.Defining.Layers.{says, put_at}
use Rattle.hp_tables.proofs.DefiningLemmas.LayerLaws.{chosen}
use Rattle.hp_tables.proofs.defining.layer.Layer.put.Goals as goal

pub returns : goal.returns
returns c =
    let text = c.args.name.now in
    let old = c.args.self.now.names in
    let new = c.insert.new.self in
    let one : (x : List ℕ) → says (record { names = new }) x ≡ put_at (says c.args.self.now) text c.args.number x =
    λ x. hash_map_updates_str text old new (Some c.args.number) c.in_ok-insert.ensures.updates x
    ∙ chosen (bytes_eq text x) c.args.number (lookup (λ k. bytes_eq x k.now) old.entries) in
    λ j x. one x j
