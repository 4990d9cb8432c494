use Rattle.std.proofs.Common.{List, map, sym, subst}
use Rattle.hp_diagram.specs.declared.reference.Ref.{Ref}
use Rattle.hp_boolx.specs.Machine.{game, variables}
use Rattle.hp_synth.specs.Kept.{AllMean}
use Rattle.hp_synth.specs.Layouts.{place}
use Rattle.hp_synth.specs.Valued.{over}
use Rattle.hp_synth.proofs.RoundSteps.{if_ok-map}
use Rattle.hp_control.proofs.PermittedLaws.{own, own-all, own-functions}
use Rattle.hp_control.proofs.choosing.functions.Goals as goal

pub returns-clause-ok : goal.returns-clause-ok
returns-clause-ok c =
    let m = c.args.m.now in
    let n = variables m in
    let t = c.placed_functions.new.s.table in
    let l = c.in_ok-placed.placed.layout in
    let refs = c.in_ok-placed.placed.funs.items in
    let is = c.in_ok-placed.ensures.layout in
    let fs = map (own n l is t) refs in
    let all_of = subst (λ (rs : List Ref). AllMean t (map (over (place l)) fs) rs) (sym c.deref.ensures.value) (own-all n l is t refs c.in_ok-placed.ensures.has) in
    if_ok-map c.renamed.result (λ made told. own-functions n l is (game m) t c.renamed.new.t refs made.items (told fs all_of) c.in_ok-placed.ensures.ok)
    c.renamed.ensures.ok
