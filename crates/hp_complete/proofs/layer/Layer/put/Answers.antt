use Rattle.std.proofs.Common.{◌≡◌, ℕ, List, Some, ap, ◌∙◌}
use Rattle.std.proofs.lemmas.Map.Text.{hash_map_updates_str}
use Rattle.std.specs.Str.{bytes_eq}
use Rattle.std.specs.Map.{lookup}
use Rattle.law_equations.specs.Made.Making.{put}
use Rattle.hp_complete.specs.Layers.{says, seen, seen_if}
use Rattle.hp_complete.proofs.LayerLaws.{seen-chosen}
use Rattle.hp_complete.proofs.layer.Layer.put.Goals as goal

pub returns : goal.returns
returns c =
    let text = c.args.name.now in
    let old = c.args.self.now.names in
    let new = c.insert.new.self in
    let one : (x : List ℕ) → says (record { names = new }) x ≡ put text (seen c.args.entry) (says c.args.self.now) x =
    λ x. ap seen_if (hash_map_updates_str text old new (Some c.args.entry) c.in_ok-insert.ensures.updates x)
    ∙ seen-chosen (bytes_eq text x) c.args.entry (lookup (λ k. bytes_eq x k.now) old.entries) in
    λ j x. one x j
