use Rattle.std.proofs.Common.{[], IsTrue, sym, subst, ◌∙◌}
use Rattle.hp_boolx.specs.Game.{attract}
use Rattle.hp_boolx.specs.Solved.{rank_step}
use Rattle.hp_diagram.specs.Diagrams.{function}
use Rattle.hp_diagram.proofs.Choices.{Keeps-trans}
use Rattle.hp_synth.specs.Sought.{base_at}
use Rattle.hp_synth.specs.Layouts.{place, IsLayout}
use Rattle.hp_synth.specs.Valued.{states}
use Rattle.hp_synth.proofs.RoundSteps.{if_ok-map}
use Rattle.hp_synth.proofs.SoughtLaws.{none-more}
use Rattle.hp_cert.proofs.StepLaws.{transfer, rank_valued}
use Rattle.hp_cert.proofs.steps.rank_holds.Goals as goal

pub returns-clause-keeps : goal.returns-clause-keeps
returns-clause-keeps c = c.next_set.ensures.keeps

pub returns-clause-ok : goal.returns-clause-ok
returns-clause-ok c =
    let t = c.args.t.now in
    let u = c.next_set.new.t in
    if_ok-map c.implies.result (λ b is g X Y form counts all lower upper.
    let forced = c.in_ok-forced.ensures.ok g X [] form counts (none-more t (base_at (place c.args.layout.now) g) c.args.roots.now all) lower in
    transfer u.vars c.args.layout.now (subst (λ n. IsLayout n c.args.layout.now) (sym c.next_set.ensures.keeps.vars) c.requires.layout) b (λ v. function u c.args.upper v) (λ v. function u c.in_ok-forced.forced v) (λ v. Y (states g v)) (λ v. attract g X (states g v)) (IsTrue (rank_step g X Y))
    (λ v. c.next_set.ensures.keeps.functions c.args.upper c.requires.upper v ∙ upper.value v) (λ v. forced.value v) is (rank_valued g X Y)) c.implies.ensures
