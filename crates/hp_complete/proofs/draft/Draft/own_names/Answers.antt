use Rattle.std.proofs.Common.{◌+◌, ℕ, List, [], Bor, get_or, drop, sym, ap, ◌∙◌}
use Rattle.std.proofs.lemmas.List.{get_or_default}
use Rattle.hp_complete.specs.Drafting.{owned_at, standing_of}
use Rattle.hp_complete.specs.Names.{names_seen}
use Rattle.hp_complete.specs.Places.{saying}
use Rattle.hp_complete.specs.Drafts.{place_of, sketch_of}
use Rattle.hp_complete.proofs.LayerLaws.{drop-next}
use Rattle.hp_complete.proofs.draft.Draft.own_names.Goals as goal

pub loop-i-preserved : goal.loop-i-preserved
loop-i-preserved c =
    let names = c.args.names.now in
    let i = c.loop-i.i in
    let name : Bor (List ℕ) = get_or names i (record { ref_ptr = (0, 0); now = [] }) in
    let parts = drop-next names i name c.loop-i-test.true (get_or_default names i (record { ref_ptr = (0, 0); now = [] }) name c.loop-i-test.true) in
    let standing = standing_of c.args.standing in
    let ds = c.args.locals.now.decls.now in
    let rest = names_seen (drop (i + 1) names) in
    let p = place_of c.loop-i.self in
    let d = sketch_of c.loop-i.self in
    let step = c.in_ok-own_name.ensures in
    record {
      sketch = (λ j. (owned_at standing ds rest (step.place j) (step.sketch j)).1) ∙ sym (ap (λ more. (owned_at standing ds (names_seen more) p d).1) parts) ∙ c.loop-i.invariant.sketch;
      place = (λ j. saying (owned_at standing ds rest (step.place j) (step.sketch j)).0 (step.place j))
          ∙ sym (ap (λ more. saying (owned_at standing ds (names_seen more) p d).0 p) parts)
          ∙ c.loop-i.invariant.place;
    }
