use Rattle.std.proofs.Common.{◌≡◌, ℕ, List, Some, ◌∙◌}
use Rattle.std.proofs.lemmas.Map.Text.{hash_map_updates_str}
use Rattle.std.specs.Str.{bytes_eq}
use Rattle.std.specs.Map.{lookup}
use Rattle.hp_tables.specs.Declarations.Tables.{put_at, said_in}
use Rattle.hp_tables.proofs.DeclarationsLemmas.TableLaws.{chosen}
use Rattle.hp_tables.proofs.declarations.table.Table.put.Goals as goal

pub returns : goal.returns
returns g c =
    let text = c.args.name.now in
    let old = c.args.self.now.entries in
    let new = c.insert.new.self in
    let one : (x : List ℕ) → said_in (record { entries = new }) x ≡ put_at (said_in c.args.self.now) text c.args.value x =
    λ x. hash_map_updates_str text old new (Some c.args.value) c.in_ok-insert.ensures.updates x
    ∙ chosen (bytes_eq text x) c.args.value (lookup (λ k. bytes_eq x k.now) old.entries) in
    λ j x. one x j
