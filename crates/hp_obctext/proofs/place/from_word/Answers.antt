use Rattle.std.proofs.Common.{ap, ◌∙◌}
use Rattle.hp_obctext.specs.Lexing.{words}
use Rattle.hp_obctext.specs.Rules.{behind}
use Rattle.hp_obctext.proofs.CheckLaws.{behind-drop}
use Rattle.hp_obctext.proofs.PlaceLaws.{end_of_end}
use Rattle.hp_obctext.proofs.place.from_word.Goals as goal

pub loop-i-preserved : goal.loop-i-preserved
loop-i-preserved c =
    let last = c.skip_blanks-rest-in-loop-i in
    record {
      end = end_of_end c.args.text.now c.loop-i.rest.now last.result.now c.loop-i.invariant.end (end_of_end c.loop-i.rest.now c.behind_word.result.now last.result.now c.behind_word.ensures.end last.ensures.end);
      no_blank = last.ensures.begins;
      words_are = last.ensures.words ∙ c.behind_word.ensures.words ∙ ap behind c.loop-i.invariant.words_are ∙ behind-drop (words c.args.text.now) c.loop-i._i;
    }
