use Rattle.std.proofs.Common.{List, sym, subst}
use Rattle.hp_diagram.specs.declared.reference.Ref.{Ref}
use Rattle.hp_synth.specs.Courses.{IsCourse}
use Rattle.hp_synth.proofs.search.tidied.Goals as goal

pub returns-in_ok-course-clause-course : goal.returns-in_ok-course-clause-course
returns-in_ok-course-clause-course c =
    subst (λ (rs : List Ref). IsCourse c.swept.new.t c.args.layout.now rs c.in_ok-course.field-0) c.deref-then-len-gt-MANY.ensures.value (c.in_ok-course.ensures c.swept.new.t (sym c.vars.ensures.vars))
