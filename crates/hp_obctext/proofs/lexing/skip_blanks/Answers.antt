use Rattle.hp_obctext.proofs.PlaceLaws.{end_drop}
use Rattle.hp_obctext.proofs.WordLaws.{skipped_words, skipped_begins}
use Rattle.hp_obctext.proofs.lexing.skip_blanks.Goals as goal

pub returns-clause-words : goal.returns-clause-words
returns-clause-words c = skipped_words c.args.text.now c.blanks_length.result c.split_at.result.1.now c.split_at.ensures.back c.blanks_length.ensures

pub returns-clause-begins : goal.returns-clause-begins
returns-clause-begins c = skipped_begins c.args.text.now c.blanks_length.result c.split_at.result.1.now c.split_at.ensures.back c.blanks_length.ensures

pub returns-clause-end : goal.returns-clause-end
returns-clause-end c = end_drop c.args.text.now c.split_at.result.1.now c.blanks_length.result c.split_at.ensures.back
