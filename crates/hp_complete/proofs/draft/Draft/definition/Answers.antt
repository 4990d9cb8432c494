use Rattle.std.proofs.Common.{◌∙◌}
use Rattle.law_equations.specs.Made.Making.{path_for}
use Rattle.hp_complete.specs.Drafts.{place_of, sketch_of}
use Rattle.hp_complete.specs.Places.{at_depth}
use Rattle.hp_complete.proofs.DraftLaws.{entered-back}
use Rattle.hp_complete.proofs.draft.Draft.definition.Goals as goal

pub returns-clause-place : goal.returns-clause-place
returns-clause-place c =
    let p = place_of c.args.self.now in
    let inner = c.in_ok-defined.ensures.place ∙ c.in_ok-enter_clock.ensures.place in
    c.leave_clock.ensures.place
    ∙ (λ j. at_depth (c.depth-depth.ensures j) (inner j))
    ∙ entered-back p (path_for c.args.locals.now.decls.now c.args.names.now c.args.right.now) (sketch_of c.args.self.now)
