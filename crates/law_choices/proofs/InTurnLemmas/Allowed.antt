-- What nodes that choose answer is what the program allows.
use Rattle.law_choices.specs.Runs.Laws.{OfProgramLaw}
use Rattle.law_choices.specs.InTurn.Allowed.{AllowedRunLaw}

pub allowed_run_law : OfProgramLaw → AllowedRunLaw
allowed_run_law of_program after ms allowed f n inputs e kinds =
    let answers = allowed.allowed in
    let are = answers.allowed in
    let it = are.reactions f n inputs e kinds in
    let one = it.one in
    let before = one.before in
    record {
      choices = answers.choices;
      values = are.values;
      past = before.past;
      chosen = before.is_one;
      reaction = of_program answers.choices after f inputs before.past before.is_one;
      outputs = it.outputs;
    }
