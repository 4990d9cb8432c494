use Rattle.std.proofs.Common.{◌≡◌, ap, ◌∙◌}
use Rattle.law_equations.specs.Made.Making.{declared, own_names}
use Rattle.hp_complete.specs.Drafting.{declared_at, owned_at, remembered_at, standing_of}
use Rattle.hp_complete.specs.Drafts.{place_of, sketch_of}
use Rattle.hp_complete.specs.Names.{names_seen}
use Rattle.hp_complete.specs.Places.{saying, sees, within}
use Rattle.hp_complete.proofs.HidingLaws.{declared-all}
use Rattle.hp_complete.proofs.draft.Draft.enter.Goals as goal

pub returns-clause-sketch : goal.returns-clause-sketch
returns-clause-sketch c =
    let p = place_of c.args.self.now in
    let d = sketch_of c.args.self.now in
    let ds = c.args.locals.now.decls.now in
    let names = names_seen c.args.names.now in
    let standing = standing_of c.args.standing in
    let opened = c.in_ok-open.ensures in
    let declares = c.in_ok-declare_all.ensures in
    let owns = c.in_ok-own_names.ensures in
    let remembers = c.in_ok-remember_all.ensures in
    let here : place_of c.declare_all.new.self ≡ within (declared p.known ds (sees p)) p =
    declares.place ∙ ap (declared_at ds) opened.place ∙ ap (λ l. within l p) (declared-all p.known (sees p) ds) in
    let same : sketch_of c.declare_all.new.self ≡ d = declares.sketch ∙ opened.sketch in
    let owned : place_of c.own_names.new.self ≡ within (own_names standing ds (sees p) names (declared p.known ds (sees p), d)).0 p =
    owns.place ∙ (λ j. saying (owned_at standing ds names (here j) (same j)).0 (here j)) in
    let made : sketch_of c.own_names.new.self ≡ (own_names standing ds (sees p) names (declared p.known ds (sees p), d)).1 = owns.sketch ∙ (λ j. (owned_at standing ds names (here j) (same j)).1) in
    remembers.sketch ∙ (λ j. (remembered_at ds (owned j) (made j)).1)

pub returns-clause-place : goal.returns-clause-place
returns-clause-place c =
    let p = place_of c.args.self.now in
    let d = sketch_of c.args.self.now in
    let ds = c.args.locals.now.decls.now in
    let names = names_seen c.args.names.now in
    let standing = standing_of c.args.standing in
    let opened = c.in_ok-open.ensures in
    let declares = c.in_ok-declare_all.ensures in
    let owns = c.in_ok-own_names.ensures in
    let remembers = c.in_ok-remember_all.ensures in
    let here : place_of c.declare_all.new.self ≡ within (declared p.known ds (sees p)) p =
    declares.place ∙ ap (declared_at ds) opened.place ∙ ap (λ l. within l p) (declared-all p.known (sees p) ds) in
    let same : sketch_of c.declare_all.new.self ≡ d = declares.sketch ∙ opened.sketch in
    let owned : place_of c.own_names.new.self ≡ within (own_names standing ds (sees p) names (declared p.known ds (sees p), d)).0 p =
    owns.place ∙ (λ j. saying (owned_at standing ds names (here j) (same j)).0 (here j)) in
    let made : sketch_of c.own_names.new.self ≡ (own_names standing ds (sees p) names (declared p.known ds (sees p), d)).1 = owns.sketch ∙ (λ j. (owned_at standing ds names (here j) (same j)).1) in
    remembers.place ∙ (λ j. saying (remembered_at ds (owned j) (made j)).0 (owned j))
