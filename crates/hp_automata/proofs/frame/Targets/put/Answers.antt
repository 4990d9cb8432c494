use Rattle.std.proofs.Common.{◌≡◌, ℕ, List, Some, ap, ◌∙◌}
use Rattle.std.proofs.lemmas.Map.Text.{hash_map_updates_str}
use Rattle.std.specs.Str.{bytes_eq}
use Rattle.std.specs.Map.{lookup}
use Rattle.hp_automata.specs.Held.{target_in, put_target, or_first}
use Rattle.hp_automata.proofs.FrameLaws.{chosen}
use Rattle.hp_automata.proofs.frame.Targets.put.Goals as goal

pub returns : goal.returns
returns c =
    let text = c.args.name.now in
    let old = c.args.self.now.numbers in
    let new = c.insert.new.self in
    let one : (x : List ℕ) → target_in (record { numbers = new }) x ≡ put_target (target_in c.args.self.now) text c.args.number x =
    λ x. ap or_first (hash_map_updates_str text old new (Some c.args.number) c.in_ok-insert.ensures.updates x)
    ∙ chosen (bytes_eq text x) c.args.number (lookup (λ k. bytes_eq x k.now) old.entries) in
    λ j x. one x j
