use Rattle.std.proofs.Common.{◌∷◌, ◌++◌, [], ℕ, List, None, Some, sym, ap, ◌∙◌}
use Rattle.hp_tree.specs.declared.decl.Cons.{Cons}
use Rattle.law_equations.specs.Made.Making.{path_of}
use Rattle.hp_complete.specs.Drafting.{entered}
use Rattle.hp_complete.specs.Drafts.{place_of, sketch_of}
use Rattle.hp_complete.specs.Places.{at_site}
use Rattle.hp_tables.specs.Telling.Tellings.{at_base, as_of, one_more}
use Rattle.hp_complete.proofs.DraftLaws.{path-is}
use Rattle.hp_complete.proofs.draft.Draft.enter_clock.Goals as goal

pub returns-in-None-clause-sketch : goal.returns-in-None-clause-sketch
returns-in-None-clause-sketch c =
    let p = place_of c.args.self.now in
    let d = sketch_of c.args.self.now in
    let ds = c.args.locals.now.decls.now in
    let path = path-is ds c.args.names.now c.args.right.now (None) (c.in-None.ensures) in
    sym (ap (λ path. (entered p path d).1) path)

pub returns-in-None-clause-place : goal.returns-in-None-clause-place
returns-in-None-clause-place c =
    let p = place_of c.args.self.now in
    let d = sketch_of c.args.self.now in
    let ds = c.args.locals.now.decls.now in
    let path = path-is ds c.args.names.now c.args.right.now (None) (c.in-None.ensures) in
    sym (ap (λ path. at_site (entered p path d).0 p) path)

pub returns-in-Some-Base-clause-sketch : goal.returns-in-Some-Base-clause-sketch
returns-in-Some-Base-clause-sketch c =
    let p = place_of c.args.self.now in
    let d = sketch_of c.args.self.now in
    let ds = c.args.locals.now.decls.now in
    let path = path-is ds c.args.names.now c.args.right.now (Some at_base) (rw c.in-Some-Base.field-0-is at c.in-Some-Base.ensures) in
    sym (ap (λ path. (entered p path d).1) path)

pub returns-in-Some-Base-clause-place : goal.returns-in-Some-Base-clause-place
returns-in-Some-Base-clause-place c =
    let p = place_of c.args.self.now in
    let d = sketch_of c.args.self.now in
    let ds = c.args.locals.now.decls.now in
    let path = path-is ds c.args.names.now c.args.right.now (Some at_base) (rw c.in-Some-Base.field-0-is at c.in-Some-Base.ensures) in
    sym (ap (λ path. at_site (entered p path d).0 p) path)

pub returns-in_ok-enter_path-in-Some-Of-clause-sketch : goal.returns-in_ok-enter_path-in-Some-Of-clause-sketch
returns-in_ok-enter_path-in-Some-Of-clause-sketch c =
    let p = place_of c.args.self.now in
    let d = sketch_of c.args.self.now in
    let ds = c.args.locals.now.decls.now in
    let x = c.in-Some-Of.name.now in
    let path = path-is ds c.args.names.now c.args.right.now (Some (as_of x)) (rw c.in-Some-Of.field-0-is at c.in-Some-Of.ensures) in
    c.in_ok-enter_path-in-Some-Of.ensures.sketch ∙ ap (λ path. (entered p path d).1) (c.path.ensures ∙ ap (path_of ds) c.bytes.ensures.bytes ∙ sym path)

pub returns-in_ok-enter_on-in-Some-On-clause-sketch : goal.returns-in_ok-enter_on-in-Some-On-clause-sketch
returns-in_ok-enter_on-in-Some-On-clause-sketch c =
    let p = place_of c.args.self.now in
    let d = sketch_of c.args.self.now in
    let ds = c.args.locals.now.decls.now in
    let x = c.in-Some-On.name.now in
    let step : Cons × List ℕ = (c.in-Some-On.cons.now, x) in
    let path = path-is ds c.args.names.now c.args.right.now (Some (one_more step.0 x)) (rw c.in-Some-On.field-0-is at c.in-Some-On.ensures) in
    c.in_ok-enter_on-in-Some-On.ensures.sketch ∙ ap (λ path. (entered p path d).1) (ap (λ xs. xs ++ step ∷ []) (c.path-in-Some-On.ensures ∙ ap (path_of ds) c.bytes-in-Some-On.ensures.bytes) ∙ sym path)

pub returns-in_ok-enter_path-in-Some-Of-clause-place : goal.returns-in_ok-enter_path-in-Some-Of-clause-place
returns-in_ok-enter_path-in-Some-Of-clause-place c =
    let p = place_of c.args.self.now in
    let d = sketch_of c.args.self.now in
    let ds = c.args.locals.now.decls.now in
    let x = c.in-Some-Of.name.now in
    let path = path-is ds c.args.names.now c.args.right.now (Some (as_of x)) (rw c.in-Some-Of.field-0-is at c.in-Some-Of.ensures) in
    c.in_ok-enter_path-in-Some-Of.ensures.place ∙ ap (λ path. at_site (entered p path d).0 p) (c.path.ensures ∙ ap (path_of ds) c.bytes.ensures.bytes ∙ sym path)

pub returns-in_ok-enter_on-in-Some-On-clause-place : goal.returns-in_ok-enter_on-in-Some-On-clause-place
returns-in_ok-enter_on-in-Some-On-clause-place c =
    let p = place_of c.args.self.now in
    let d = sketch_of c.args.self.now in
    let ds = c.args.locals.now.decls.now in
    let x = c.in-Some-On.name.now in
    let step : Cons × List ℕ = (c.in-Some-On.cons.now, x) in
    let path = path-is ds c.args.names.now c.args.right.now (Some (one_more step.0 x)) (rw c.in-Some-On.field-0-is at c.in-Some-On.ensures) in
    c.in_ok-enter_on-in-Some-On.ensures.place ∙ ap (λ path. at_site (entered p path d).0 p) (ap (λ xs. xs ++ step ∷ []) (c.path-in-Some-On.ensures ∙ ap (path_of ds) c.bytes-in-Some-On.ensures.bytes) ∙ sym path)
