use Rattle.std.proofs.Common.{◌≡◌, ◌+◌, length, ap, ◌∙◌}
use Rattle.hp_tree.specs.Meaning.{controls_of}
use Rattle.hp_tree.specs.Programs.{Node}
use Rattle.law_equations.specs.Made.Making.{next, numbers_from}
use Rattle.hp_complete.specs.Drafts.{place_of, sketch_of}
use Rattle.hp_complete.proofs.DraftLaws.{signed-next}
use Rattle.hp_complete.proofs.draft.Draft.sign.Goals as goal

pub returns-clause-inputs : goal.returns-clause-inputs
returns-clause-inputs c =
    let node = c.args.node.now in
    let p = place_of c.args.self.now in
    let d = sketch_of c.args.self.now in
    let ins : c.deref.result.now ≡ node.inputs = c.deref.ensures.value ∙ ap (λ (n : Node). n.inputs) c.node.view_is in
    let controls : c.controls_of.result.now ≡ controls_of node.contract = c.controls_of.ensures ∙ ap (λ (n : Node). controls_of n.contract) c.node.view_is in
    let first : next (sketch_of c.add_all_signed.new.self) ≡ next d + length node.inputs =
    ap next c.in_ok-add_all_signed.ensures.sketch ∙ signed-next c.deref.result.now p d ∙ ap (λ ds. next d + length ds) ins in
    let all : next (sketch_of c.add_all_signed-2.new.self) ≡ next d + length node.inputs + length (controls_of node.contract) =
    ap next c.in_ok-add_all_signed-2.ensures.sketch
    ∙ signed-next c.controls_of.result.now (place_of c.add_all_signed.new.self) (sketch_of c.add_all_signed.new.self)
    ∙ (λ j. first j + length (controls j)) in
    c.len-inputs.ensures ∙ all

pub returns-clause-outputs : goal.returns-clause-outputs
returns-clause-outputs c =
    let node = c.args.node.now in
    let p = place_of c.args.self.now in
    let d = sketch_of c.args.self.now in
    let ins : c.deref.result.now ≡ node.inputs = c.deref.ensures.value ∙ ap (λ (n : Node). n.inputs) c.node.view_is in
    let controls : c.controls_of.result.now ≡ controls_of node.contract = c.controls_of.ensures ∙ ap (λ (n : Node). controls_of n.contract) c.node.view_is in
    let first : next (sketch_of c.add_all_signed.new.self) ≡ next d + length node.inputs =
    ap next c.in_ok-add_all_signed.ensures.sketch ∙ signed-next c.deref.result.now p d ∙ ap (λ ds. next d + length ds) ins in
    let all : next (sketch_of c.add_all_signed-2.new.self) ≡ next d + length node.inputs + length (controls_of node.contract) =
    ap next c.in_ok-add_all_signed-2.ensures.sketch
    ∙ signed-next c.controls_of.result.now (place_of c.add_all_signed.new.self) (sketch_of c.add_all_signed.new.self)
    ∙ (λ j. first j + length (controls j)) in
    c.in_ok-outputs.ensures.numbers ∙ (λ j. numbers_from (all j) ((c.deref-2.ensures.value ∙ ap (λ (n : Node). n.outputs) c.node.view_is) j))
