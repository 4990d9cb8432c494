use Rattle.std.proofs.Common.{◌≡◌, ℕ, List, Some, ◌∙◌}
use Rattle.std.proofs.lemmas.Map.Text.{hash_map_updates_str}
use Rattle.std.specs.Str.{bytes_eq}
use Rattle.std.specs.Map.{lookup}
use Rattle.hp_init.specs.Tables.{holds}
use Rattle.hp_tables.specs.Defining.Layers.{put_at}
use Rattle.hp_tables.proofs.DefiningLemmas.LayerLaws.{chosen}
use Rattle.hp_init.proofs.table.put.Goals as goal

pub returns : goal.returns
returns c =
    let text = c.args.name.now in
    let old = c.args.names.now in
    let new = c.insert.new.self in
    let one : (x : List ℕ) → holds new x ≡ put_at (holds old) text c.args.is_last x =
    λ x. hash_map_updates_str text old new (Some c.args.is_last) c.in_ok-insert.ensures.updates x
    ∙ chosen (bytes_eq text x) c.args.is_last (lookup (λ k. bytes_eq x k.now) old.entries) in
    λ j x. one x j
