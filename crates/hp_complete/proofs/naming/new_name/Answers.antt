use Rattle.hp_complete.proofs.StemLaws.{new-named}
use Rattle.hp_complete.proofs.naming.new_name.Goals as goal
use Rattle.std.proofs.Common.{◌∙◌}

pub returns : goal.returns
returns c =
    new-named c.args.text.now c.stem-stem.result.now c.in_ok-bytes.bytes.items c.extend_from_slice.new.self.items c.as_bytes.result.now c.extend_from_slice-2.new.self.items c.in_ok-name.name c.args.number c.min.result
    c.stem-stem.ensures c.min.ensures c.in_ok-bytes.ensures.items c.in_ok-extend_from_slice.ensures.items (c.as_bytes.ensures.value ∙ c.format.ensures.text) c.in_ok-extend_from_slice-2.ensures.items (c.in_ok-name.ensures ∙ c.deref.ensures.value)
