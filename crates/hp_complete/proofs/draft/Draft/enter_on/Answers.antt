use Rattle.std.proofs.Common.{◌∷◌, [], ℕ, List, sym, ap, ◌∙◌}
use Rattle.hp_tree.specs.declared.decl.Cons.{Cons}
use Rattle.hp_complete.specs.Drafting.{entered}
use Rattle.hp_complete.specs.Drafts.{place_of, sketch_of}
use Rattle.hp_complete.specs.Places.{at_site, sees}
use Rattle.hp_complete.proofs.DraftLaws.{entered-on}
use Rattle.hp_complete.proofs.draft.Draft.enter_on.Goals as goal

pub returns-clause-sketch : goal.returns-clause-sketch
returns-clause-sketch c =
    let p = place_of c.args.self.now in
    let s : Cons × List ℕ = (c.args.cons.now, c.args.name.now) in
    let path = c.in_ok-enter_path.ensures in
    c.in_ok-enter_step.ensures.sketch
    ∙ (λ j. (entered (path.place j) (s ∷ []) (path.sketch j)).1)
    ∙ sym (ap (λ r. r.1) (entered-on p.known (sees p) c.args.path.now s p.site (sketch_of c.args.self.now)))

pub returns-clause-place : goal.returns-clause-place
returns-clause-place c =
    let p = place_of c.args.self.now in
    let s : Cons × List ℕ = (c.args.cons.now, c.args.name.now) in
    let path = c.in_ok-enter_path.ensures in
    c.in_ok-enter_step.ensures.place
    ∙ (λ j. at_site (entered (path.place j) (s ∷ []) (path.sketch j)).0 (path.place j))
    ∙ sym (ap (λ r. at_site r.0 p) (entered-on p.known (sees p) c.args.path.now s p.site (sketch_of c.args.self.now)))
