use Rattle.std.proofs.Common.{◌≡◌, [], subst, rules, arith}
use Rattle.hp_io.proofs.ToldLaws.{Grows-nil}
use Rattle.hp_driver.specs.Past.{WritesSource, LeavesSource}
use Rattle.hp_driver.specs.PastOutcome.{unfolded_text}
use Rattle.hp_driver.specs.Status.{code_of}
use Rattle.hp_driver.proofs.MachineLaws.{nothing_written}
use Rattle.hp_driver.proofs.PastLaws.{ReadsBack, unfolds, unfolds_memory, leaves_unfolded}
use Rattle.hp_driver.proofs.past.write_unfolded.Goals as goal

pub returns-in-Ok-clause-outcome : goal.returns-in-Ok-clause-outcome
returns-in-Ok-clause-outcome g c =
    let done = c.write_source.ensures.outcome in
    let status = code_of c.write_source.result in
    let text : c.as_slice.result.now ≡ unfolded_text c.args.program.now = search rules in
    let program = c.args.program.now in
    let back : ReadsBack c.args.out.now program = λ source is short. (
      c.unfolded_programs_are_read_back.ensures source is.tokens program is.spelled is.read c.in-Ok.ensures.small short,
      c.unfolded_formulas_have_their_values.ensures.written source is.tokens program is.spelled is.read c.in-Ok.ensures.small short,
    ) in
    (done.0, done.1, unfolds c.args.out.now program back done.0 status (subst (λ z. WritesSource z done.0 status) text done.2))

pub returns-in-Ok-clause-leaves : goal.returns-in-Ok-clause-leaves
returns-in-Ok-clause-leaves g c =
    let status = code_of c.write_source.result in
    let before = g.F.Folder.files c.args.files.now in
    let after = g.F.Folder.files c.write_source.new.files in
    let text : c.as_slice.result.now ≡ unfolded_text c.args.program.now = search rules in
    leaves_unfolded c.args.out.now c.args.program.now before after status (subst (λ z. LeavesSource c.args.out.now z before after status) text c.write_source.ensures.leaves)

pub returns-in-Err-clause-outcome : goal.returns-in-Err-clause-outcome
returns-in-Err-clause-outcome g c = ([], Grows-nil (g.E.Sink.took c.args.diag.now), unfolds_memory c.args.out.now c.args.program.now)

pub returns-in-Err-clause-leaves : goal.returns-in-Err-clause-leaves
returns-in-Err-clause-leaves g c = λ text is words file w gives. nothing_written words (g.F.Folder.files c.args.files.now) 6 (λ h. omega (arith, h))
