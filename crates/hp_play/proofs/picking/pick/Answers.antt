use Rattle.std.proofs.Common.{◌≡◌, ◌<◌, ◌≤◌, ◌+◌, ℕ, slice_set, if◌then◌else◌, length, refl, sym, ap, subst, ◌∙◌, arith}
use Rattle.hp_diagram.specs.declared.reference.Ref.{Ref}
use Rattle.hp_diagram.specs.Diagrams.{Has, function, level, valuation}
use Rattle.hp_synth.proofs.LayoutLaws.{set-len}
use Rattle.hp_play.proofs.PickLaws.{has-either, later-either, not-zero, path-step, some-child, true-behind}
use Rattle.hp_play.proofs.picking.pick.Goals as goal

pub loop-y-init : goal.loop-y-init
loop-y-init c = record { has = c.requires.has; later = omega arith; len = c.requires.values; path = λ v agree. refl; some = λ v h e. not-zero c.args.t.now c.args.r v h e }

pub children-requires-clause-has : goal.children-requires-clause-has
children-requires-clause-has c = c.loop-y.invariant.has

pub children-requires-clause-first : goal.children-requires-clause-first
children-requires-clause-first c = c.loop-y.invariant.later

pub loop-y-preserved : goal.loop-y-preserved
loop-y-preserved c =
    let t = c.args.t.now in
    let y = c.loop-y.y in
    let kids = c.children.ensures in
    let low = c.children.result.0 in
    let high = c.children.result.1 in
    let b = c.value_of-value.result in
    let is : c.either-at.result ≡ (if b then high else low) = c.either-at.ensures in
    let at : c.from-place.result ≡ y = c.from-place.ensures in
    let many : length c.loop-y.values ≡ t.vars = c.loop-y.invariant.len in
    let before : y < length c.loop-y.values = let end = c.loop-y-test.true in let vars = c.vars-y-end.ensures.vars in omega (arith, end, vars, many) in
    record {
      has = subst (Has t) (sym is) (has-either t b high low kids.has_high kids.has_low);
      later = subst (λ (r : Ref). y + 1 ≤ level t r) (sym is) (later-either t b high low y kids.high_later kids.low_later);
      len = set-len c.loop-y.values c.from-place.result b ∙ many;
      path = λ v agree. path-step t c.args.r c.loop-y.at low high y c.loop-y.values b before c.loop-y.invariant.path kids v (subst (λ (i : ℕ). (k : ℕ) → k < y + 1 → v k ≡ valuation (slice_set c.loop-y.values i b) k) at agree)
          ∙ ap (λ (r : Ref). function t r v) (sym is);
      some = λ v h e. c.value_of-value.ensures (some-child t c.vars-y-end.ensures.reduced c.loop-y.at y low high c.loop-y.invariant.has kids (c.loop-y.invariant.some v h)) (sym is ∙ e);
    }

pub returns-clause-found : goal.returns-clause-found
returns-clause-found c = λ v h.
    let t = c.args.t.now in
    let values = c.loop-y.values in
    let end = c.loop-y-test.false in
    let vars = c.vars-y-end.ensures.vars in
    let later = c.loop-y.invariant.later in
    c.loop-y.invariant.path (valuation values) (λ k l. refl)
    ∙ true-behind t c.vars-y-end.ensures.reduced c.loop-y.at c.loop-y.invariant.has (omega (arith, end, vars, later)) (c.loop-y.invariant.some v h) (valuation values)
