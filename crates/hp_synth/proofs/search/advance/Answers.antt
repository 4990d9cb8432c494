use Rattle.std.proofs.Common.{◌≡◌, ◌++◌, ◌∷◌, [], List, suc, ◌-◌, length, slice_index_or, refl, sym, ap, subst, ◌∙◌, rules}
use Rattle.std.proofs.lemmas.Bool.{both_ways}
use Rattle.hp_diagram.specs.declared.reference.Ref.{Ref}
use Rattle.hp_boolx.specs.Game.{forced}
use Rattle.hp_synth.specs.Building.{HasEach}
use Rattle.hp_synth.specs.Kept.{AllMean, AreCarried}
use Rattle.hp_synth.specs.Sought.{Stands, base_at, rounds}
use Rattle.hp_synth.specs.Layouts.{place}
use Rattle.hp_synth.specs.Courses.{IsCourse}
use Rattle.hp_synth.proofs.CourseLaws.{course-pushed}
use Rattle.hp_synth.proofs.Gates.{has-keep, has-push}
use Rattle.hp_synth.proofs.SearchSteps.{wins, loses, goes_on}
use Rattle.hp_synth.proofs.search.advance.Goals as goal

pub returns-then-same-clause-went : goal.returns-then-same-clause-went
returns-then-same-clause-went c = λ g n form counts at stands.
    let all_of = subst (λ (rs : List Ref). AllMean c.args.t.now (base_at (place c.args.layout.now) g ++ rounds (place c.args.layout.now) g n) rs) (sym c.deref.ensures.value) stands.all_mean in
    wins c.args.t.now.vars c.args.layout.now c.requires.layout g form c.args.t.now c.further_set.new.t c.args.roots.now.items c.args.x c.in_ok-y.y n stands c.in_ok-y.ensures.keeps (c.in_ok-y.ensures.ok g (forced g n) (rounds (place c.args.layout.now) g n) form counts all_of stands.current)
    (c.if-same.ensures.functions.0 refl)

pub returns-then-value-clause-went : goal.returns-then-value-clause-went
returns-then-value-clause-went c = λ g n form counts at stands.
    let all_of = subst (λ (rs : List Ref). AllMean c.args.t.now (base_at (place c.args.layout.now) g ++ rounds (place c.args.layout.now) g n) rs) (sym c.deref.ensures.value) stands.all_mean in
    let lost = loses c.args.t.now.vars c.args.layout.now c.requires.layout g form c.args.t.now c.further_set.new.t c.args.roots.now.items c.args.x c.in_ok-y.y n stands c.in_ok-y.ensures.keeps (c.in_ok-y.ensures.ok g (forced g n) (rounds (place c.args.layout.now) g n) form counts all_of stands.current)
    c.args.init.now at (sym c.if-value.ensures) in
    (subst (λ (rs : List Ref). AllMean c.further_set.new.t (base_at (place c.args.layout.now) g ++ rounds (place c.args.layout.now) g (suc n)) rs) (sym c.in_ok-push.ensures.items) lost.0, lost.1)

pub tidied-requires-clause-has : goal.tidied-requires-clause-has
tidied-requires-clause-has c =
    let t = c.args.t.now in
    let u = c.further_set.new.t in
    let old : HasEach t c.args.roots.now.items = c.requires.has in
    let all_of : HasEach u (c.args.roots.now.items ++ c.in_ok-y.y ∷ []) = has-push u c.args.roots.now.items c.in_ok-y.y (has-keep t u c.args.roots.now.items c.in_ok-y.ensures.keeps old) c.in_ok-y.ensures.has in
    subst (λ (rs : List Ref). HasEach u rs) (sym c.in_ok-push.ensures.items) all_of

pub tidied-requires-clause-course : goal.tidied-requires-clause-course
tidied-requires-clause-course c =
    let course = c.in_ok-y.ensures.course in
    let before : IsCourse c.further_set.new.t c.args.layout.now c.args.roots.now.items c.further_set.new.course = subst (λ (rs : List Ref). IsCourse c.further_set.new.t c.args.layout.now rs c.further_set.new.course) c.deref.ensures.value course in
    subst (λ (rs : List Ref). IsCourse c.further_set.new.t c.args.layout.now rs c.further_set.new.course) (sym c.in_ok-push.ensures.items)
    (course-pushed c.further_set.new.t c.args.layout.now c.args.roots.now.items c.in_ok-y.y c.further_set.new.course c.requires.roots before)

pub returns-clause-went : goal.returns-clause-went
returns-clause-went c = λ g n form counts at stands.
    let u = c.further_set.new.t in
    let all_of = subst (λ (rs : List Ref). AllMean c.args.t.now (base_at (place c.args.layout.now) g ++ rounds (place c.args.layout.now) g n) rs) (sym c.deref.ensures.value) stands.all_mean in
    let s : AreCarried u c.tidied.new.t (c.args.roots.now.items ++ c.in_ok-y.y ∷ []) c.tidied.new.roots.items =
    subst (λ (rs : List Ref). AreCarried u c.tidied.new.t rs c.tidied.new.roots.items) c.in_ok-push.ensures.items c.in_ok-tidied.ensures.carried in
    let roots = c.tidied.new.roots.items in
    let went = goes_on c.args.t.now.vars c.args.layout.now c.requires.layout g form c.args.t.now u c.args.roots.now.items c.args.x c.in_ok-y.y n stands c.in_ok-y.ensures.keeps (c.in_ok-y.ensures.ok g (forced g n) (rounds (place c.args.layout.now) g n) form counts all_of stands.current)
    c.args.init.now at (sym c.if-value.ensures) (λ same. both_ways _ refl (c.if-same.ensures.functions.1 same)) c.tidied.new.t roots c.index.result.now s in
    let count : c.len.result ≡ length roots = search rules in
    let at_end : slice_index_or roots (length roots - 1) c.index.result.now ≡ c.index.result.now = sym (c.index.ensures ∙ ap (λ k. slice_index_or roots (k - 1) c.index.result.now) count) in
    (subst (λ (q : Ref). Stands (place c.args.layout.now) g c.tidied.new.t roots q (suc n)) at_end went.0, went.1)
