use Rattle.std.proofs.Common.{◌+◌, ◌∷◌, ℕ, List, [], Bor, get_or, drop, sym, ap, ◌∙◌}
use Rattle.std.proofs.lemmas.List.{get_or_default}
use Rattle.hp_complete.specs.Drafting.{linked_at}
use Rattle.hp_complete.specs.Names.{names_seen}
use Rattle.hp_complete.specs.Drafts.{place_of, sketch_of}
use Rattle.hp_complete.proofs.LayerLaws.{drop-next}
use Rattle.hp_complete.proofs.draft.Draft.link_all.Goals as goal

pub loop-i-preserved : goal.loop-i-preserved
loop-i-preserved c =
    let names = c.args.names.now in
    let i = c.loop-i.i in
    let name : Bor (List ℕ) = get_or names i (record { ref_ptr = (0, 0); now = [] }) in
    let parts = drop-next names i name c.loop-i-test.true (get_or_default names i (record { ref_ptr = (0, 0); now = [] }) name c.loop-i-test.true) in
    let p = place_of c.args.self.now in
    let d = sketch_of c.loop-i.self in
    let step = c.in_ok-link.ensures in
    record {
      sketch = ap (linked_at (names_seen (drop (i + 1) names)) p) (step.sketch ∙ ap (λ q. linked_at (name.now ∷ []) q d) c.loop-i.invariant.place)
          ∙ sym (ap (λ more. linked_at (names_seen more) p d) parts)
          ∙ c.loop-i.invariant.sketch;
      place = step.place ∙ c.loop-i.invariant.place;
    }
