use Rattle.std.proofs.Common.{◌+◌, List, [], ◌∷◌, ◌++◌, sym, ap, subst, ◌∙◌}
use Rattle.hp_diagram.specs.declared.reference.Ref.{Ref}
use Rattle.hp_diagram.proofs.Choices.{Keeps-trans}
use Rattle.hp_cert.specs.Steps.{AreOfMarked}
use Rattle.hp_synth.specs.Layouts.{place, IsLayout}
use Rattle.hp_cert.proofs.functions.functions.Goals as goal

pub returns-in_err-r-clause-keeps : goal.returns-in_err-r-clause-keeps
returns-in_err-r-clause-keeps c = Keeps-trans _ _ _ c.loop-i.invariant.keeps c.next_function.ensures.keeps

pub returns-in_err-push-clause-keeps : goal.returns-in_err-push-clause-keeps
returns-in_err-push-clause-keeps c = Keeps-trans _ _ _ c.loop-i.invariant.keeps c.next_function.ensures.keeps

pub loop-i-preserved : goal.loop-i-preserved
loop-i-preserved c =
    let e = ap (λ (rs : List Ref). rs ++ c.in_ok-r.r ∷ []) c.deref.ensures.value ∙ sym c.in_ok-push.ensures.items in
    record {
      keeps = Keeps-trans _ _ _ c.loop-i.invariant.keeps c.next_function.ensures.keeps;
      are = subst (λ (rs : List Ref). AreOfMarked (place c.args.layout.now) c.next_function.new.t c.args.lines.now c.args.marks.now rs (c.loop-i.i + 1)) e c.in_ok-r.ensures.ok;
    }

pub next_function-requires-clause-layout : goal.next_function-requires-clause-layout
next_function-requires-clause-layout c = subst (λ n. IsLayout n c.args.layout.now) (sym c.loop-i.invariant.keeps.vars) c.requires.layout
