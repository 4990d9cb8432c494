use Rattle.std.proofs.Common.{◌≡◌, ℕ, List, [], ◌∷◌, ◌++◌, length, map, refl, sym, ap, subst, ◌∙◌, arith}
use Rattle.hp_boolx.specs.Machine.{game}
use Rattle.hp_boolx.proofs.GateLaws.{game-form}
use Rattle.hp_diagram.specs.declared.reference.Ref.{Ref}
use Rattle.hp_diagram.specs.Diagrams.{Means, Has}
use Rattle.hp_quant.specs.Lines.{reference_at}
use Rattle.hp_synth.specs.Building.{HasEach, functions_at}
use Rattle.hp_synth.specs.Kept.{AllMean}
use Rattle.hp_synth.specs.Layouts.{place}
use Rattle.hp_synth.specs.Sought.{base_at}
use Rattle.hp_synth.specs.Valued.{Valued, through, over, states, earlies, OfState}
use Rattle.std.proofs.lemmas.List.{length-map}
use Rattle.hp_synth.proofs.RoundSteps.{if_ok-map}
use Rattle.hp_cert.specs.Conditions.{IsReady}
use Rattle.hp_cert.specs.Proving.{set_of, functions_of}
use Rattle.hp_cert.proofs.CheckLaws.{keeps_told}
use Rattle.hp_cert.proofs.ReadyLaws.{ready_has, ready_len, ready_set, ready_funs}
use Rattle.hp_cert.proofs.conditions.keeps.Goals as goal

pub win_holds-requires-clause-has : goal.win_holds-requires-clause-has
win_holds-requires-clause-has c =
    let r = c.in_ok-ready.ready in
    subst (λ (rs : List Ref). HasEach r.table rs) (sym c.deref-4.ensures.value) (ready_has c.args.m.now c.args.lines.now c.requires.lines c.deref.result.now r.layout r.table r.roots.items r.lines.items c.in_ok-ready.ensures)

pub win_holds-requires-clause-roots : goal.win_holds-requires-clause-roots
win_holds-requires-clause-roots c =
    let r = c.in_ok-ready.ready in
    let same = (c.in_ok-ready.ensures).counts.0 in
    let len = ready_len c.args.m.now c.args.lines.now c.requires.lines c.deref.result.now r.layout r.table r.roots.items r.lines.items c.in_ok-ready.ensures in
    let e = ap (length {A = Ref}) c.deref-4.ensures.value in
    omega (arith, same, len, e)

pub win_holds-requires-clause-inv : goal.win_holds-requires-clause-inv
win_holds-requires-clause-inv c =
    let r = c.in_ok-ready.ready in
    let numbers : c.deref.result.now ≡ c.args.funs.now ++ c.args.inv ∷ [] = c.deref.ensures.value ∙ c.in_ok-push.ensures.items ∙ ap (λ (ns : List ℕ). ns ++ c.args.inv ∷ []) c.in_ok-numbers.ensures.items in
    let ready = subst (λ ns. IsReady c.args.m.now c.args.lines.now ns r.layout r.table r.roots.items r.lines.items) numbers c.in_ok-ready.ensures in
    let means = ready_set c.args.m.now c.args.lines.now c.requires.lines c.args.inv c.args.funs.now r.layout r.table r.roots.items r.lines.items ready c.requires.inv c.requires.inv_scope in
    let same : c.reference-set.result ≡ reference_at r.lines.items c.args.inv = c.reference-set.ensures ∙ ap (λ (ls : List Ref). reference_at ls c.args.inv) c.deref-2.ensures.value in
    subst (Has r.table) (sym same) means.has

pub win_holds-requires-clause-funs : goal.win_holds-requires-clause-funs
win_holds-requires-clause-funs c =
    let r = c.in_ok-ready.ready in
    let funs = c.args.funs.now in
    let numbers : c.deref.result.now ≡ funs ++ c.args.inv ∷ [] = c.deref.ensures.value ∙ c.in_ok-push.ensures.items ∙ ap (λ (ns : List ℕ). ns ++ c.args.inv ∷ []) c.in_ok-numbers.ensures.items in
    let ready = subst (λ ns. IsReady c.args.m.now c.args.lines.now ns r.layout r.table r.roots.items r.lines.items) numbers c.in_ok-ready.ensures in
    let bits = ready_funs c.args.m.now c.args.lines.now c.requires.lines c.args.inv funs r.layout r.table r.roots.items r.lines.items ready c.requires.funs c.requires.funs_scope in
    let e : c.deref-5.result.now ≡ map (reference_at r.lines.items) funs = c.deref-5.ensures.value ∙ c.in_ok-bits.ensures ∙ ap (λ (ls : List Ref). map (reference_at ls) funs) c.deref-3.ensures.value in
    subst (λ (rs : List Ref). HasEach r.table rs) (sym e) bits.0

pub returns : goal.returns
returns c =
    let m = c.args.m.now in
    let g = game m in
    let r = c.in_ok-ready.ready in
    let lines = c.args.lines.now in
    let inv = c.args.inv in
    let funs = c.args.funs.now in
    let is = c.vars-vars.ensures.kept in
    let counts = (c.in_ok-ready.ensures).counts in
    let numbers : c.deref.result.now ≡ funs ++ inv ∷ [] = c.deref.ensures.value ∙ c.in_ok-push.ensures.items ∙ ap (λ (ns : List ℕ). ns ++ inv ∷ []) c.in_ok-numbers.ensures.items in
    let ready = subst (λ ns. IsReady m lines ns r.layout r.table r.roots.items r.lines.items) numbers c.in_ok-ready.ensures in
    let all = subst (λ (rs : List Ref). AllMean r.table (base_at (place r.layout) g) rs) (sym c.deref-4.ensures.value) ready.roots_mean in
    let same : c.reference-set.result ≡ reference_at r.lines.items inv = c.reference-set.ensures ∙ ap (λ (ls : List Ref). reference_at ls inv) c.deref-2.ensures.value in
    let set = subst (λ (f : Ref). Means r.table (over (place r.layout) (OfState g (set_of lines inv))) f) (sym same) (ready_set m lines c.requires.lines inv funs r.layout r.table r.roots.items r.lines.items ready c.requires.inv c.requires.inv_scope) in
    let bits = (ready_funs m lines c.requires.lines inv funs r.layout r.table r.roots.items r.lines.items ready c.requires.funs c.requires.funs_scope).1 in
    let e : c.deref-5.result.now ≡ map (reference_at r.lines.items) funs = c.deref-5.ensures.value ∙ c.in_ok-bits.ensures ∙ ap (λ (ls : List Ref). map (reference_at ls) funs) c.deref-3.ensures.value in
    let by = subst (λ (rs : List Ref). (v : Valued) → functions_at r.table rs v ≡ functions_of lines funs (states g (through (place r.layout) v)) (earlies g (through (place r.layout) v))) (sym e) bits in
    let told = keeps_told m lines is inv funs c.requires.count c.requires.first in
    if_ok-map c.win_holds.result (λ b h.
    let k = h g (set_of lines inv) (functions_of lines funs) (game-form m is) counts all set by in
    (λ t. told.0 (k.0 t), λ q. k.1 (told.1 q))) c.win_holds.ensures.ok

pub win_holds-requires-clause-layout : goal.win_holds-requires-clause-layout
win_holds-requires-clause-layout c = (c.in_ok-ready.ensures).placed

pub win_holds-requires-clause-count : goal.win_holds-requires-clause-count
win_holds-requires-clause-count c =
    let r = c.in_ok-ready.ready in
    let funs = c.args.funs.now in
    let e : c.deref-5.result.now ≡ map (reference_at r.lines.items) funs = c.deref-5.ensures.value ∙ c.in_ok-bits.ensures ∙ ap (λ (ls : List Ref). map (reference_at ls) funs) c.deref-3.ensures.value in
    ap (length {A = Ref}) e ∙ length-map funs (reference_at r.lines.items) ∙ c.requires.count ∙ (c.in_ok-ready.ensures).counts.2
