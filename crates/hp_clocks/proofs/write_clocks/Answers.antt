use Rattle.std.proofs.Common.{◌≡◌, List, sym, ◌∙◌, subst}
use Rattle.hp_tree.specs.declared.program.Item.{Item}
use Rattle.hp_clocks.specs.Writing.{AreWritten, paths_seen}
use Rattle.hp_clocks.specs.Answers.{ArePaths, IsClocked}
use Rattle.hp_clocks.proofs.AnswerLaws.{written_law}
use Rattle.hp_clocks.proofs.write_clocks.Goals as goal

pub returns-clause-written : goal.returns-clause-written
returns-clause-written c =
    let ps = paths_seen c.in_ok-paths.paths.items in
    let items : c.deref.result.now ≡ c.args.program = c.deref.ensures.value ∙ c.program.view_is in
    subst (λ z. AreWritten IsClocked c.args.program z) (sym c.write_program.ensures)
    (written_law c.args.program ps (subst (λ (z : List Item). ArePaths z ps) items c.in_ok-paths.ensures.found))
