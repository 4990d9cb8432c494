use Rattle.std.proofs.Common.{◌≡◌, ◌+◌, [], ◌∷◌, map, drop, sym, ap, ◌∙◌, arith}
use Rattle.hp_tree.specs.BlockView.{eqn_seen}
use Rattle.hp_tree.specs.Expressions.{exprs_of}
use Rattle.hp_tree.specs.Blocks.{Decl, define}
use Rattle.hp_expand.specs.Renaming.{renamed_decls}
use Rattle.hp_expand.specs.Replacing.{given}
use Rattle.hp_expand.specs.Layers.{said}
use Rattle.hp_expand.specs.Making.{with_more}
use Rattle.hp_expand.proofs.MakingLaws.{given-next}
use Rattle.hp_expand.proofs.replace.add_given.Goals as goal

pub loop-i-preserved : goal.loop-i-preserved
loop-i-preserved c =
    let to = said c.args.naming.now in
    let inputs = c.args.inputs.now in
    let args = c.args.args.now in
    let before = map eqn_seen c.loop-i.into.items in
    let i = c.loop-i.i in
    let d = c.index-inputs-i.result in
    let e = c.index-args-i.result in
    let copy = c.in_ok-copy.field-0 in
    let rest = given (renamed_decls to (drop (i + 1) inputs)) (exprs_of (drop (i + 1) args)) in
    let step : map eqn_seen c.add_definition.new.into.items ≡ with_more before (define d.span ((to d.name, d.span) ∷ []) e ∷ []) =
    c.in_ok-add_definition.ensures
    ∙ ap (λ x. with_more before (define c.input.inside.span ((x, c.input.inside.span) ∷ []) copy ∷ [])) c.in_ok-name.ensures
    ∙ ap (λ x. with_more before (define c.input.inside.span ((to c.input.inside.name, c.input.inside.span) ∷ []) x ∷ [])) c.in_ok-copy.ensures
    ∙ ap (λ (x : Decl). with_more before (define x.span ((to x.name, x.span) ∷ []) e ∷ [])) c.input.view_is in
    ap (λ xs. with_more xs rest) step ∙ sym (given-next to before inputs args i d e (omega arith) c.index-inputs-i.is (omega arith) c.index-args-i.is) ∙ c.loop-i.invariant
