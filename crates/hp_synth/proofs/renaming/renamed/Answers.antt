use Rattle.std.proofs.Common.{List, Option, map, sym, subst}
use Rattle.hp_diagram.specs.declared.reference.Ref.{Ref}
use Rattle.hp_quant.specs.Replacements.{HasAll, AreComposed}
use Rattle.hp_synth.specs.Layouts.{place}
use Rattle.hp_synth.specs.Renamed.{AreNamed}
use Rattle.hp_synth.specs.Valued.{over}
use Rattle.hp_synth.proofs.RenamedLaws.{named-has, all-renamed, each-has}
use Rattle.hp_synth.proofs.RoundSteps.{if_ok-both}
use Rattle.hp_synth.proofs.SoughtLaws.{all-keeps}
use Rattle.hp_synth.proofs.renaming.renamed.Goals as goal

pub compose_all-requires-clause-replacements : goal.compose_all-requires-clause-replacements
compose_all-requires-clause-replacements c =
    let t = c.names.new.t in
    let named = subst (λ n. AreNamed c.args.layout.now t n c.in_ok-by.by.items) c.names.ensures.keeps.vars c.in_ok-by.ensures.named in
    subst (λ (by : List (Option Ref)). HasAll t by) (sym c.deref.ensures.value) (named-has c.args.t.now.vars c.args.layout.now c.requires.layout t c.in_ok-by.by.items named)

pub returns-clause-has : goal.returns-clause-has
returns-clause-has c =
    if_ok-both c.compose_all.result (λ made len is. each-has c.names.new.t c.compose_all.new.t c.deref.result.now c.args.refs.now made.items len is)
    c.compose_all.ensures.many c.compose_all.ensures.ok

pub returns-clause-ok : goal.returns-clause-ok
returns-clause-ok c =
    let t = c.names.new.t in
    let u = c.compose_all.new.t in
    let refs = c.args.refs.now in
    let named = subst (λ n. AreNamed c.args.layout.now t n c.in_ok-by.by.items) c.names.ensures.keeps.vars c.in_ok-by.ensures.named in
    if_ok-both c.compose_all.result (λ made len is fs m.
    let composed = subst (λ (by : List (Option Ref)). AreComposed t u by refs made.items) c.deref.ensures.value is in
    all-renamed c.args.t.now.vars c.args.layout.now c.requires.layout t c.in_ok-by.by.items named u refs made.items len composed fs
    (all-keeps c.args.t.now t (map (over (place c.args.layout.now)) fs) refs c.names.ensures.keeps m))
    c.compose_all.ensures.many c.compose_all.ensures.ok
