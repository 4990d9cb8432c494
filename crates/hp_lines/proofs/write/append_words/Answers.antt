use Rattle.std.proofs.Common.{arith}
use Rattle.hp_lines.proofs.LineLaws.{words_from_first}
use Rattle.hp_lines.proofs.write.append_words.Goals as goal

pub returns-in-len1-up-clause-items : goal.returns-in-len1-up-clause-items
returns-in-len1-up-clause-items c =
    words_from_first c.args.outputs.now c.args.values.now c.index-outputs-0.result _ _ _ _ (omega (arith, c.in-len1-up.len_at_least)) c.requires.lengths c.append_value.ensures.items c.append_more.ensures.items
