use Rattle.std.proofs.Common.{◌∙◌}
use Rattle.hp_complete.specs.Drafts.{sketch_of}
use Rattle.hp_complete.proofs.HidingLaws.{found-variable}
use Rattle.hp_complete.proofs.draft.Draft.variable_of.Goals as goal

pub returns-in_ok-variable-in-Some-clause-sketch : goal.returns-in_ok-variable-in-Some-clause-sketch
returns-in_ok-variable-in-Some-clause-sketch c =
    let ds = c.args.locals.now.decls.now in
    let x = c.args.name.now in
    let d = sketch_of c.args.self.now in
    rw c.in-Body.is (c.in_ok-variable-in-Some.ensures.sketch ∙ found-variable x ds c.in-Some.decl.now c.args.ty d c.in-Some.ensures)
