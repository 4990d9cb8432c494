use Rattle.std.proofs.Common.{◌∙◌}
use Rattle.hp_toobc.proofs.LabelLaws.{name-made}
use Rattle.hp_toobc.proofs.label.made_name.Goals as goal

pub returns : goal.returns
returns c =
    name-made c.args.text.now c.stem-front.result.now c.args.letter c.args.place c.min.result c.min-2.result c.in_ok-bytes.bytes.items c.push.new.self.items c.push-2.new.self.items
    c.as_bytes-digits.result.now c.in_ok-name.name
    c.stem-front.ensures c.min.ensures c.in_ok-bytes.ensures.items c.in_ok-push.ensures.items c.in_ok-push-2.ensures.items
    (c.as_bytes-digits.ensures.value ∙ c.format.ensures.text) c.min-2.ensures (c.in_ok-name.ensures ∙ c.deref.ensures.value ∙ c.in_ok-extend_from_slice.ensures.items)
