use Rattle.std.proofs.Common.{◌≡◌, ◌+◌, ◌<◌, ℕ, List, Option, Some, None, slice_index_or, sym, subst}
use Rattle.hp_diagram.specs.declared.reference.Ref.{Ref}
use Rattle.hp_diagram.specs.Diagrams.{zero_ref}
use Rattle.hp_synth.specs.Layouts.{place}
use Rattle.hp_synth.specs.Rounds.{AreSets, sets_in}
use Rattle.hp_synth.specs.declared.rounds.Sets.{Sets}
use Rattle.hp_quant.specs.Replacements.{HasAll}
use Rattle.hp_synth.proofs.CourseLaws.{course-has-all}
use Rattle.hp_synth.proofs.RoundSteps.{if_ok-map}
use Rattle.hp_synth.proofs.SoughtLaws.{are-sets}
use Rattle.hp_synth.proofs.next.further_set.Goals as goal

pub returns-clause-ok : goal.returns-clause-ok
returns-clause-ok c =
    let t = c.args.t.now in
    let roots = c.args.roots.now in
    let by = c.args.course.now.by.items in
    if_ok-map c.round.result (λ r is g X rest form counts all x.
    let at : (k : ℕ) → k < g.registers → slice_index_or by (place c.args.layout.now k) None ≡ Some (slice_index_or roots (5 + k) zero_ref) = λ k l. c.requires.course.registers_are k (subst (λ n. k < n) counts.0 l) in
    let are = are-sets g form (place c.args.layout.now) t roots rest by zero_ref all at in
    let here = subst (λ (rs : List (Option Ref)). AreSets (place c.args.layout.now) t (sets_in roots) rs g) (sym c.deref.ensures.value) are in
    is g X counts (subst (λ (s : Sets). AreSets (place c.args.layout.now) t s c.deref.result.now g) (sym c.sets_of-sets.ensures) here) x)
    c.round.ensures.ok

pub round-requires-clause-replacements : goal.round-requires-clause-replacements
round-requires-clause-replacements c =
    subst (λ (by : List (Option Ref)). HasAll c.args.t.now by) (sym c.deref.ensures.value)
    (course-has-all c.args.t.now c.args.layout.now c.args.roots.now c.args.course.now c.requires.layout c.requires.has c.requires.roots c.requires.course)
