use Rattle.std.proofs.Common.{◌∙◌, sym}
use Rattle.hp_obctext.proofs.WordLaws.{cut_word}
use Rattle.hp_obctext.proofs.lexing.first_word.Goals as goal

pub returns-clause-words : goal.returns-clause-words
returns-clause-words c =
    sym c.skip_blanks-text.ensures.words
    ∙ cut_word c.skip_blanks-text.result.now c.run_length.result c.split_at.result.0.now c.split_at.result.1.now c.skip_blanks-text.ensures.begins c.in-len1-up.len_at_least c.run_length.ensures c.split_at.ensures.front c.split_at.ensures.back
