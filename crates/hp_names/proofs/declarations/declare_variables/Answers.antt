use Rattle.std.proofs.Common.{◌+◌, [], ◌∷◌, drop, sym, ap, ◌∙◌}
use Rattle.hp_tree.specs.Blocks.{Decl}
use Rattle.hp_names.specs.Breaches.{found_after}
use Rattle.hp_names.specs.Names.{declared_names}
use Rattle.hp_names.specs.Claims.{declares, new_names}
use Rattle.hp_names.specs.Scopes.{with_variables}
use Rattle.hp_names.proofs.FoundLaws.{found_after-new, with_variables-next, variables-with_variable}
use Rattle.hp_names.proofs.declarations.declare_variables.Goals as goal

pub loop-decl-preserved : goal.loop-decl-preserved
loop-decl-preserved c =
    let decls = c.args.decls.now in
    let i = c.loop-decl.decl-index in
    let decl = c.decl-item.result in
    let s = c.loop-decl.scope in
    let more = c.loop-decl-test.true in
    let rest = declared_names (drop (i + 1) decls) in
    let at_name = λ (d : Decl). found_after c.loop-decl.found (declares s.variables d.name d.span ∷ []) in
    record {
      scope = ap (λ t. with_variables t (drop (i + 1) decls)) c.in_ok-add_variable.ensures
          ∙ sym (with_variables-next s decls i decl more c.decl-item.is) ∙ c.loop-decl.invariant.scope;
      found = ap (λ f. found_after f (new_names c.add_variable.new.self.variables rest)) (c.declare_name.ensures ∙ ap at_name c.decl.view_is)
          ∙ ap (λ names. found_after (at_name decl) (new_names names rest))
          (ap (λ t. t.variables) c.in_ok-add_variable.ensures ∙ variables-with_variable s decl decl.last)
          ∙ sym (found_after-new c.loop-decl.found s.variables decls i decl more c.decl-item.is) ∙ c.loop-decl.invariant.found;
    }
