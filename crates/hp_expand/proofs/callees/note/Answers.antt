use Rattle.std.proofs.Common.{◌≡◌, ◌+◌, if◌then◌else◌, Some, ap, ◌∙◌}
use Rattle.std.proofs.lemmas.Map.Text.{hash_map_updates_str}
use Rattle.std.specs.Str.{bytes_eq}
use Rattle.std.specs.Map.{lookup}
use Rattle.hp_expand.specs.Places.{is_below, place_of}
use Rattle.hp_expand.proofs.LayerLaws.{chosen}
use Rattle.hp_expand.proofs.PlaceLaws.{below-grown}
use Rattle.hp_expand.proofs.callees.note.Goals as goal

pub returns-in-Ok-clause-put : goal.returns-in-Ok-clause-put
returns-in-Ok-clause-put c x =
    let text = c.args.name.now in
    let old = c.args.names.now in
    hash_map_updates_str text old c.insert.new.self (Some c.args.place) c.in-Ok.ensures.updates x
    ∙ chosen (bytes_eq text x) c.args.place (lookup (λ k. bytes_eq x k.now) old.entries)

pub returns-in-Ok-clause-below : goal.returns-in-Ok-clause-below
returns-in-Ok-clause-below c x =
    let text = c.args.name.now in
    let old = c.args.names.now in
    let put : place_of c.insert.new.self x ≡ (if bytes_eq text x then Some c.args.place else place_of old x) =
    hash_map_updates_str text old c.insert.new.self (Some c.args.place) c.in-Ok.ensures.updates x
    ∙ chosen (bytes_eq text x) c.args.place (lookup (λ k. bytes_eq x k.now) old.entries) in
    ap (is_below (c.args.place + 1)) put ∙ below-grown c.args.place (bytes_eq text x) (place_of old x) (c.requires x)
