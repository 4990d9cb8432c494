use Rattle.std.proofs.Common.{◌≡◌, None, Some, slice_get, sym, ap, ◌∙◌}
use Rattle.std.specs.HashMap.{values}
use Rattle.std.specs.Option.{option_copied_mut}
use Rattle.hp_abstract.specs.Seen.{layer_of}
use Rattle.hp_abstract.proofs.ScopeLaws.{hole-set, hole-none}
use Rattle.hp_abstract.proofs.scope.Layer.set_hole.Goals as goal

pub returns-in-Some : goal.returns-in-Some
unfolding layer_of
returns-in-Some c =
    let old = c.args.self.now.names in
    let entry = c.in-Some.entry.now in
    let there : slice_get (values old) c.args.number ≡ Some entry = sym c.get_index_mut.ensures.value ∙ ap option_copied_mut c.in-Some.is in
    hole-set old.entries c.args.number entry c.args.hole there

pub returns-in-None : goal.returns-in-None
unfolding layer_of
returns-in-None c =
    let old = c.args.self.now.names in
    let there : slice_get (values old) c.args.number ≡ None = sym c.get_index_mut.ensures.value ∙ ap option_copied_mut c.in-None.is in
    hole-none old.entries c.args.number c.args.hole there
