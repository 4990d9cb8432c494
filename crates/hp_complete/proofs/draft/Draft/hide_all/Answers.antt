use Rattle.std.proofs.Common.{◌+◌, ℕ, List, [], Bor, get_or, drop, sym, ap, ◌∙◌}
use Rattle.std.proofs.lemmas.List.{get_or_default}
use Rattle.hp_complete.specs.Drafting.{hidden_at}
use Rattle.hp_complete.specs.Names.{names_seen}
use Rattle.hp_complete.specs.Drafts.{place_of}
use Rattle.hp_complete.proofs.LayerLaws.{drop-next}
use Rattle.hp_complete.proofs.draft.Draft.hide_all.Goals as goal

pub loop-i-preserved : goal.loop-i-preserved
loop-i-preserved c =
    let names = c.args.names.now in
    let i = c.loop-i.i in
    let name : Bor (List ℕ) = get_or names i (record { ref_ptr = (0, 0); now = [] }) in
    let parts = drop-next names i name c.loop-i-test.true (get_or_default names i (record { ref_ptr = (0, 0); now = [] }) name c.loop-i-test.true) in
    let p = place_of c.loop-i.self in
    let step = c.in_ok-hide_name.ensures in
    record {
      sketch = step.sketch ∙ c.loop-i.invariant.sketch;
      place = ap (hidden_at (names_seen (drop (i + 1) names))) step.place ∙ sym (ap (λ more. hidden_at (names_seen more) p) parts) ∙ c.loop-i.invariant.place;
    }
