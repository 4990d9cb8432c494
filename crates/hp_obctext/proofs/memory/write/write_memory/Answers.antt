use Rattle.std.proofs.Common.{◌++◌, ap, ◌∙◌}
use Rattle.hp_lines.specs.Lines.{texts_of}
use Rattle.hp_obctext.specs.MemoryKinds.{kinds_at}
use Rattle.hp_obctext.proofs.MemorySizes.{written}
use Rattle.hp_obctext.specs.MemoryTexts.{joined, value_lines}
use Rattle.hp_obctext.proofs.memory.write.write_memory.Goals as goal

pub returns-clause-items : goal.returns-clause-items
returns-clause-items c =
    let values = c.args.values.now in
    written c.args.o.now.types c.args.node.now values c.args.into.now.items _ _ _ _ c.append.ensures.items (c.append-2.ensures.items ∙ ap (λ z. c.append.new.into.items ++ z) c.as_bytes.ensures.value) c.append-3.ensures.items
    (c.append_lines.ensures.items ∙ ap (λ types. c.append-3.new.into.items ++ joined (value_lines (texts_of (kinds_at types values) values))) c.types.ensures.types)
