use Rattle.std.proofs.Common.{◌≡◌, ◌+◌, ◌<◌, ℕ, [], List, Option, Some, None, slice_index_or, sym, subst}
use Rattle.hp_diagram.specs.declared.reference.Ref.{Ref}
use Rattle.hp_diagram.specs.Diagrams.{Means, zero_ref}
use Rattle.hp_quant.specs.Replacements.{HasAll}
use Rattle.hp_boolx.specs.Game.{bad}
use Rattle.hp_synth.specs.Layouts.{place}
use Rattle.hp_synth.specs.Rounds.{AreSets, bad_of}
use Rattle.hp_synth.specs.Sought.{base_at}
use Rattle.hp_synth.specs.Valued.{all, through}
use Rattle.hp_synth.specs.declared.rounds.Sets.{Sets}
use Rattle.hp_synth.proofs.CourseLaws.{values-have}
use Rattle.hp_synth.proofs.RoundSteps.{if_ok-map, bad-in, Means-equal}
use Rattle.hp_synth.proofs.SoughtLaws.{are-sets, none-more}
use Rattle.hp_play.proofs.forcing.worse.Goals as goal

pub bad-requires-clause-replacements : goal.bad-requires-clause-replacements
bad-requires-clause-replacements c =
    subst (λ (by : List (Option Ref)). HasAll c.args.t.now by) (sym c.deref.ensures.value)
    (values-have c.args.t.now c.args.layout.now c.args.roots.now c.in_ok-by.by.items c.requires.layout c.requires.has c.requires.roots c.in_ok-by.ensures.registers c.in_ok-by.ensures.others)

pub returns-clause-ok : goal.returns-clause-ok
returns-clause-ok c =
    let t = c.args.t.now in
    let u = c.bad.new.t in
    let at_places = place c.args.layout.now in
    let roots = c.args.roots.now in
    let by = c.in_ok-by.by.items in
    let sets : Sets = record { valid = slice_index_or roots 0 zero_ref; hyp = slice_index_or roots 1 zero_ref; duty = slice_index_or roots 2 zero_ref; choices = slice_index_or roots 3 zero_ref; earlies = slice_index_or roots 4 zero_ref } in
    if_ok-map c.bad.result (λ r is g X form counts all_of x.
    let at : (k : ℕ) → k < g.registers → slice_index_or by (at_places k) None ≡ Some (slice_index_or roots (5 + k) zero_ref) = λ k l. c.in_ok-by.ensures.registers k (subst (λ n. k < n) counts.0 l) in
    let are : AreSets at_places t sets by g = are-sets g form at_places t roots [] by zero_ref (none-more t (base_at at_places g) roots all_of) at in
    let there = subst (λ (rs : List (Option Ref)). Means u (bad_of t sets rs c.args.x) r) c.deref.ensures.value is in
    Means-equal u _ (λ v. bad g X (all g (through at_places v))) r (bad-in g at_places t sets by c.args.x X are x) there)
    c.bad.ensures.ok
