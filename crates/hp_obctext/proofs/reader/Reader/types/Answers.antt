use Rattle.hp_obctext.proofs.ListRounds.{type_strict}
use Rattle.hp_obctext.proofs.reader.Reader.types.Goals as goal

pub loop-types-smaller : goal.loop-types-smaller
loop-types-smaller c = type_strict c.loop-types.self c.in_ok-type_declaration.field-0 c.type_declaration.new.self c.in_ok-type_declaration.ensures
