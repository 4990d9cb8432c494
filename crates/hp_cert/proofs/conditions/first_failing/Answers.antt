use Rattle.std.proofs.Common.{◌≡◌, List, length, map, refl, sym, ap, subst, ◌∙◌, arith}
use Rattle.hp_boolx.specs.Machine.{game}
use Rattle.hp_boolx.proofs.GateLaws.{game-form}
use Rattle.hp_diagram.specs.declared.reference.Ref.{Ref}
use Rattle.hp_quant.specs.Lines.{reference_at}
use Rattle.hp_synth.specs.Building.{HasEach}
use Rattle.hp_synth.specs.Kept.{AllMean}
use Rattle.hp_synth.specs.Layouts.{place}
use Rattle.hp_synth.specs.Sought.{base_at}
use Rattle.hp_synth.specs.Valued.{over, OfState}
use Rattle.hp_synth.proofs.RoundSteps.{if_ok-map}
use Rattle.hp_synth.proofs.SoughtLaws.{all-has}
use Rattle.hp_cert.specs.Proving.{set_of}
use Rattle.hp_cert.proofs.CheckLaws.{first_told}
use Rattle.hp_cert.proofs.ReadyLaws.{ready_has, ready_len, ready_ranks}
use Rattle.hp_cert.proofs.conditions.first_failing.Goals as goal

pub first_weak-requires-clause-has : goal.first_weak-requires-clause-has
first_weak-requires-clause-has c =
    let r = c.in_ok-ready.ready in
    subst (λ (rs : List Ref). HasEach r.table rs) (sym c.deref-2.ensures.value) (ready_has c.args.m.now c.args.lines.now c.requires.lines c.args.ranks.now r.layout r.table r.roots.items r.lines.items c.in_ok-ready.ensures)

pub first_weak-requires-clause-ranks : goal.first_weak-requires-clause-ranks
first_weak-requires-clause-ranks c =
    let r = c.in_ok-ready.ready in
    let all = ready_ranks c.args.m.now c.args.lines.now c.requires.lines c.args.ranks.now r.layout r.table r.roots.items r.lines.items c.in_ok-ready.ensures c.requires.ranks c.requires.scope in
    let e = c.deref-3.ensures.value ∙ c.in_ok-sets.ensures ∙ ap (λ (ls : List Ref). map (reference_at ls) c.args.ranks.now) c.deref.ensures.value in
    subst (λ (rs : List Ref). HasEach r.table rs) (sym e) (all-has r.table _ (map (reference_at r.lines.items) c.args.ranks.now) all)

pub first_weak-requires-clause-roots : goal.first_weak-requires-clause-roots
first_weak-requires-clause-roots c =
    let r = c.in_ok-ready.ready in
    let same = (c.in_ok-ready.ensures).counts.0 in
    let len = ready_len c.args.m.now c.args.lines.now c.requires.lines c.args.ranks.now r.layout r.table r.roots.items r.lines.items c.in_ok-ready.ensures in
    let e = ap (length {A = Ref}) c.deref-2.ensures.value in
    omega (arith, same, len, e)

pub returns : goal.returns
returns c =
    let m = c.args.m.now in
    let g = game m in
    let r = c.in_ok-ready.ready in
    let lines = c.args.lines.now in
    let ranks = c.args.ranks.now in
    let is = c.vars-vars.ensures.kept in
    let counts = (c.in_ok-ready.ensures).counts in
    let all = subst (λ (rs : List Ref). AllMean r.table (base_at (place r.layout) g) rs) (sym c.deref-2.ensures.value) (c.in_ok-ready.ensures).roots_mean in
    let e = c.deref-3.ensures.value ∙ c.in_ok-sets.ensures ∙ ap (λ (ls : List Ref). map (reference_at ls) ranks) c.deref.ensures.value in
    let means = ready_ranks m lines c.requires.lines ranks r.layout r.table r.roots.items r.lines.items c.in_ok-ready.ensures c.requires.ranks c.requires.scope in
    let sets = subst (λ (rs : List Ref). AllMean r.table (map (λ X. over (place r.layout) (OfState g X)) (map (set_of lines) ranks)) rs) (sym e) means in
    if_ok-map c.first_weak.result (λ o h. first_told m lines is ranks o (h g (map (set_of lines) ranks) (game-form m is) counts all sets)) c.first_weak.ensures.ok

pub first_weak-requires-clause-layout : goal.first_weak-requires-clause-layout
first_weak-requires-clause-layout c = (c.in_ok-ready.ensures).placed
