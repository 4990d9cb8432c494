use Rattle.std.proofs.Common.{◌+◌, ◌-◌, ◌≤◌, ◌++◌, List, suc, length, refl, sym, subst, ◌∙◌}
use Rattle.hp_diagram.specs.declared.reference.Ref.{Ref}
use Rattle.hp_boolx.specs.Game.{forced, IsForm}
use Rattle.hp_boolx.specs.Machine.{game}
use Rattle.hp_boolx.proofs.GateLaws.{game-form}
use Rattle.hp_synth.specs.Courses.{IsCourse}
use Rattle.hp_synth.specs.Layouts.{place}
use Rattle.hp_synth.specs.Sought.{Went, base_at, rounds}
use Rattle.hp_synth.specs.declared.search.Progress.TheVariants.{Stopped, Reached, Next}
use Rattle.hp_synth.proofs.LayoutLaws.{layout-total}
use Rattle.hp_synth.proofs.SoughtLaws.{all-has}
use Rattle.hp_synth.proofs.SearchSteps.{stands-first, stands-at, left-at, roots-within}
use Rattle.hp_synth.proofs.search.search.Goals as goal

pub loop-course-init : goal.loop-course-init
loop-course-init c =
    let m = c.args.m.now in
    let t = c.args.t.now in
    let roots = c.args.roots.now.items in
    let form : IsForm (game m) = game-form m c.vars-vars.ensures.kept in
    let counts = c.requires.counts in
    let course : IsCourse t c.args.layout.now roots c.in_ok-course.course =
    subst (λ (rs : List Ref). IsCourse t c.args.layout.now rs c.in_ok-course.course) c.deref.ensures.value (c.in_ok-course.ensures t (sym c.vars.ensures.vars)) in (
      stands-first (place c.args.layout.now) (game m) form t roots c.zero-x.result (layout-total c.args.t.now.vars c.args.layout.now (game m) c.requires.layout counts) c.requires.roots c.zero-x.ensures,
      refl,
      course,
    )

pub new-requires-clause-roots : goal.new-requires-clause-roots
new-requires-clause-roots c =
    let m = c.args.m.now in
    let g = game m in
    let t = c.args.t.now in
    let roots = c.args.roots.now.items in
    let form : IsForm g = game-form m c.vars-vars.ensures.kept in
    let counts = c.requires.counts in
    let n = length roots - (5 + m.registers) in
    let stands = stands-first (place c.args.layout.now) g form t roots c.zero-x.result (layout-total c.args.t.now.vars c.args.layout.now (game m) c.requires.layout counts) c.requires.roots c.zero-x.ensures in
    subst (λ (rs : List Ref). 5 + c.args.layout.now.counts.registers ≤ length rs) (sym c.deref.ensures.value)
    (subst (λ k. 5 + k ≤ length roots) counts.0 (roots-within (place c.args.layout.now) g form t roots n stands.all_mean))

pub advance-requires-clause-course : goal.advance-requires-clause-course
advance-requires-clause-course c =
    let m = c.args.m.now in
    let counts = c.requires.counts in
    c.loop-course.invariant.2

pub advance-requires-clause-has : goal.advance-requires-clause-has
advance-requires-clause-has c =
    let g = game c.args.m.now in
    all-has c.loop-course.t (base_at (place c.args.layout.now) g ++ rounds (place c.args.layout.now) g (length c.loop-course.roots.items - (5 + g.registers))) c.loop-course.roots.items c.loop-course.invariant.0.all_mean

pub advance-requires-clause-roots : goal.advance-requires-clause-roots
advance-requires-clause-roots c =
    let m = c.args.m.now in
    let g = game m in
    let form : IsForm g = game-form m c.vars-vars.ensures.kept in
    let counts = c.requires.counts in
    let n = length c.loop-course.roots.items - (5 + m.registers) in
    subst (λ k. 5 + k ≤ length c.loop-course.roots.items) counts.0 (roots-within (place c.args.layout.now) g form c.loop-course.t c.loop-course.roots.items n c.loop-course.invariant.0.all_mean)

pub returns-in-Stopped-clause-ended : goal.returns-in-Stopped-clause-ended
returns-in-Stopped-clause-ended c =
    let m = c.args.m.now in
    let g = game m in
    let form : IsForm g = game-form m c.vars-vars.ensures.kept in
    let counts = c.requires.counts in
    let n = length c.loop-course.roots.items - (5 + m.registers) in
    let went : Went (place c.args.layout.now) g c.loop-course.x n c.advance.new.t c.advance.new.roots.items Stopped =
    subst (Went (place c.args.layout.now) g c.loop-course.x n c.advance.new.t c.advance.new.roots.items) c.in-Stopped.is (c.in_ok-advance.ensures.went g n form counts c.requires.init c.loop-course.invariant.0) in
    (n, went.2, (forced g n, went.0, went.1))

pub returns-in-Reached-clause-ended : goal.returns-in-Reached-clause-ended
returns-in-Reached-clause-ended c =
    let m = c.args.m.now in
    let g = game m in
    let form : IsForm g = game-form m c.vars-vars.ensures.kept in
    let counts = c.requires.counts in
    let n = length c.loop-course.roots.items - (5 + m.registers) in
    let went : Went (place c.args.layout.now) g c.loop-course.x n c.advance.new.t c.advance.new.roots.items Reached =
    subst (Went (place c.args.layout.now) g c.loop-course.x n c.advance.new.t c.advance.new.roots.items) c.in-Reached.is (c.in_ok-advance.ensures.went g n form counts c.requires.init c.loop-course.invariant.0) in
    (suc n, went.0, went.1)

pub loop-course-smaller : goal.loop-course-smaller
loop-course-smaller c =
    let m = c.args.m.now in
    let g = game m in
    let form : IsForm g = game-form m c.vars-vars.ensures.kept in
    let counts = c.requires.counts in
    let n = length c.loop-course.roots.items - (5 + m.registers) in
    let went : Went (place c.args.layout.now) g c.loop-course.x n c.advance.new.t c.advance.new.roots.items (Next c.in-Next.y) =
    subst (Went (place c.args.layout.now) g c.loop-course.x n c.advance.new.t c.advance.new.roots.items) c.in-Next.is (c.in_ok-advance.ensures.went g n form counts c.requires.init c.loop-course.invariant.0) in
    left-at (place c.args.layout.now) g form c.loop-course.t c.advance.new.t c.loop-course.roots.items c.advance.new.roots.items c.loop-course.x c.in-Next.y n c.loop-course.invariant.0 went.0 went.1

pub loop-course-preserved : goal.loop-course-preserved
loop-course-preserved c =
    let m = c.args.m.now in
    let g = game m in
    let form : IsForm g = game-form m c.vars-vars.ensures.kept in
    let counts = c.requires.counts in
    let n = length c.loop-course.roots.items - (5 + m.registers) in
    let went : Went (place c.args.layout.now) g c.loop-course.x n c.advance.new.t c.advance.new.roots.items (Next c.in-Next.y) =
    subst (Went (place c.args.layout.now) g c.loop-course.x n c.advance.new.t c.advance.new.roots.items) c.in-Next.is (c.in_ok-advance.ensures.went g n form counts c.requires.init c.loop-course.invariant.0) in (
      stands-at (place c.args.layout.now) g form c.advance.new.t c.advance.new.roots.items c.in-Next.y (suc n) went.0,
      c.in_ok-advance.ensures.vars ∙ c.loop-course.invariant.1,
      c.in_ok-advance.ensures.course,
    )
