use Rattle.std.proofs.Common.{refl}
use Rattle.hp_obctext.proofs.MemoryFitting.{end_of, no_checkpoint}
use Rattle.hp_obctext.proofs.memory.read_words.Goals as goal

pub span_at-requires-clause-end : goal.span_at-requires-clause-end
span_at-requires-clause-end c = end_of c.args.text.now c.in-Err.rest.now c.in-Err.ensures.refused

pub returns-in-Err-clause-refused : goal.returns-in-Err-clause-refused
returns-in-Err-clause-refused c =
    (c.span_at.result, (refl, no_checkpoint c.args.text.now c.in-Err.rest.now c.span_at.result c.in-Err.ensures.refused c.span_at.ensures))
