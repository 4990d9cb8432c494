use Rattle.hp_obctext.proofs.ListRounds.{next_mem_strict}
use Rattle.hp_obctext.proofs.reader.Reader.mems.Goals as goal

pub loop-mems-smaller : goal.loop-mems-smaller
loop-mems-smaller c = next_mem_strict c.loop-mems.self c.in_ok-next_mem.field-0 c.next_mem.new.self c.in_ok-next_mem.ensures
