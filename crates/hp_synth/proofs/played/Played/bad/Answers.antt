use Rattle.std.proofs.Common.{◌≤◌, List, Option, length, sym, ap, subst, ◌∙◌}
use Rattle.hp_diagram.specs.declared.reference.Ref.{Ref}
use Rattle.hp_diagram.specs.Diagrams.{Means}
use Rattle.hp_boolx.specs.Game.{bad}
use Rattle.hp_quant.specs.Replacements.{HasAll}
use Rattle.hp_synth.specs.Layouts.{place}
use Rattle.hp_synth.specs.Rounds.{HasSets, bad_of, sets_in}
use Rattle.hp_synth.specs.declared.rounds.Sets.{Sets}
use Rattle.hp_synth.specs.Valued.{all, through}
use Rattle.hp_synth.proofs.PlayedLaws.{played-five, played-all, played-sets}
use Rattle.hp_synth.proofs.RoundSteps.{if_ok-map, Means-equal, bad-in}
use Rattle.hp_synth.proofs.played.Played.bad.Goals as goal

pub sets_of-sets-requires : goal.sets_of-sets-requires
sets_of-sets-requires c = subst (λ (rs : List Ref). 5 ≤ length rs) (sym c.deref.ensures.value) (played-five c.requires.played.0 c.requires.played.1 c.args.self.now c.requires.played.2)

pub bad_beside-requires-clause-sets : goal.bad_beside-requires-clause-sets
bad_beside-requires-clause-sets c =
    let p = c.args.self.now in
    let are = played-sets c.requires.played.0 c.requires.played.1 p c.requires.played.2 in
    let have : HasSets p.table (sets_in p.roots.items) = record { valid = are.valid.has; hyp = are.hyp.has; duty = are.duty.has; choices = are.choices.has; earlies = are.earlies.has } in
    subst (λ (s : Sets). HasSets p.table s) (sym (c.sets_of-sets.ensures ∙ ap sets_in c.deref.ensures.value)) have

pub bad_beside-requires-clause-replacements : goal.bad_beside-requires-clause-replacements
bad_beside-requires-clause-replacements c =
    subst (λ (by : List (Option Ref)). HasAll c.args.self.now.table by) (sym c.deref-2.ensures.value) (played-all c.requires.played.0 c.requires.played.1 c.args.self.now c.requires.played.2)

pub returns-clause-ok : goal.returns-clause-ok
returns-clause-ok c =
    let p = c.args.self.now in
    let u = c.bad_beside.new.t in
    if_ok-map c.bad_beside.result (λ r is g X form played x.
    let s = c.sets_of-sets.result in
    let there = subst (λ (by : List (Option Ref)). Means u (bad_of p.table s by c.args.x) r) c.deref-2.ensures.value is in
    let here = subst (λ (z : Sets). Means u (bad_of p.table z p.course.by.items c.args.x) r) (c.sets_of-sets.ensures ∙ ap sets_in c.deref.ensures.value) there in
    Means-equal u _ (λ v. bad g X (all g (through (place p.layout) v))) r (bad-in g (place p.layout) p.table (sets_in p.roots.items) p.course.by.items c.args.x X (played-sets g form p played) x) here)
    c.bad_beside.ensures.ok
