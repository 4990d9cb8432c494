use Rattle.std.proofs.Common.{◌≡◌, ◌<◌, ◌++◌, ◌∷◌, [], List, ℕ, length, map, slice_index_or, sym, ap, ap₂, subst, ◌∙◌}
use Rattle.std.specs.List.{All}
use Rattle.hp_diagram.specs.declared.reference.Ref.{Ref}
use Rattle.hp_diagram.specs.Diagrams.{Means, zero_ref}
use Rattle.hp_boolx.specs.Machine.{Machine, IsMachine, game}
use Rattle.hp_boolx.specs.MachineView.{machine_seen}
use Rattle.hp_synth.specs.Kept.{AllMean}
use Rattle.hp_synth.specs.Layouts.{place}
use Rattle.hp_synth.specs.Valued.{all, over}
use Rattle.hp_synth.specs.Sought.{base_at}
use Rattle.hp_synth.proofs.PreparedLaws.{gate-at, prepared}
use Rattle.hp_synth.proofs.preparation.prepare_gates.Goals as goal

pub returns-clause-ok : goal.returns-clause-ok
returns-clause-ok c =
    let m = c.args.m.now in
    let g = game m in
    let t = c.args.t.now in
    let u = c.valid_values.new.t in
    let rs = c.args.gates.now in
    let kept : IsMachine m = subst IsMachine c.m.view_is c.m.invariant in
    let within : All (λ k. k < length rs) m.next = subst (λ n. All (λ k. k < n) m.next) (sym c.requires.len) kept.next_gates in
    let at : slice_index_or rs c.m.inside.valid zero_ref ≡ slice_index_or rs m.valid zero_ref = ap (λ (n : Machine). slice_index_or rs n.valid zero_ref) c.m.view_is in
    let there : m.valid < length rs = subst (λ n. m.valid < n) (sym c.requires.len) kept.valid in
    let valid : Means t (over (place c.args.layout.now) (λ v. g.valid (all g v))) (slice_index_or rs c.m.inside.valid zero_ref) =
    subst (λ (r : Ref). Means t (over (place c.args.layout.now) (λ v. g.valid (all g v))) r) (sym at) (gate-at g (place c.args.layout.now) t m.gates rs m.valid zero_ref c.requires.gates there) in
    let choices = c.in_ok-choices.ensures.choices g c.requires.counts valid in
    let earlies = c.in_ok-choices.ensures.earlies g c.requires.counts valid in
    let all_of = prepared m (place c.args.layout.now) t rs zero_ref c.requires.gates u c.valid_values.ensures.keeps kept c.requires.len c.in_ok-choices.choices c.in_ok-choices.earlies choices earlies within in
    let read : Machine → List Ref = λ n. (slice_index_or rs n.valid zero_ref ∷ slice_index_or rs n.hyp zero_ref ∷ slice_index_or rs n.duty zero_ref ∷ c.in_ok-choices.choices ∷ c.in_ok-choices.earlies ∷ []) ++ map (λ k. slice_index_or rs k zero_ref) n.next in
    let items : c.add_gates.new.roots.items ≡ read (machine_seen c.m.inside) =
    c.in_ok-add_gates.ensures ∙ ap₂ (λ (front : List Ref) (ks : List ℕ). front ++ map (λ k. slice_index_or rs k zero_ref) ks) c.in_ok-roots.ensures.items c.deref.ensures.value in
    subst (λ (l : List Ref). AllMean u (base_at (place c.args.layout.now) g) l) (sym (items ∙ ap read c.m.view_is)) all_of
