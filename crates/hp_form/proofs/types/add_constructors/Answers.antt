use Rattle.std.specs.Prelude.{Ok}
use Rattle.std.proofs.Common.{◌≡◌, ◌++◌, [], sym, ap, subst, get_or, ◌∙◌}
use Rattle.hp_obc.specs.Machines.{ObcType}
use Rattle.hp_obc.specs.Form.{constructors_of}
use Rattle.hp_form.specs.Declaring.{keys, ConstructorsAreNew}
use Rattle.hp_form.specs.Kinds.{all_at, held}
use Rattle.hp_form.proofs.TypeLaws.{more_constructors, no_constructors, keys-more, held_next}
use Rattle.hp_form.proofs.EachLaws.{refuted}
use Rattle.hp_form.proofs.types.add_constructors.Goals as goal

pub returns-then-not-branch-clause-new : goal.returns-then-not-branch-clause-new
returns-then-not-branch-clause-new c =
    let t = c.index-types-i.result in
    let same : c.deref.result.now ≡ (get_or c.args.types.now c.loop-i.i c.index-types-i.result).cons = c.deref.ensures.value ∙ ap (λ (t : ObcType). t.cons) (c.declared.view_is ∙ c.index-types-i.is) in
    no_constructors (keys c.loop-i.constructors) c.args.types.now c.loop-i.i c.index-types-i.result (ConstructorsAreNew [] (constructors_of c.args.types.now)) c.loop-i.invariant.new c.loop-i-test.true
    (λ h. refuted c.in_ok-add_constructors_of.ensures.new c.if-not-branch.true (subst (ConstructorsAreNew (keys c.loop-i.constructors)) (sym same) h))

pub loop-i-preserved : goal.loop-i-preserved
loop-i-preserved c =
    let same : c.deref.result.now ≡ (get_or c.args.types.now c.loop-i.i c.index-types-i.result).cons = c.deref.ensures.value ∙ ap (λ (t : ObcType). t.cons) (c.declared.view_is ∙ c.index-types-i.is) in
    let grown : c.add_constructors_of.new.constructors ≡ c.loop-i.constructors ++ all_at c.loop-i.i (get_or c.args.types.now c.loop-i.i c.index-types-i.result).cons =
    c.in_ok-add_constructors_of.ensures.added (ap Ok c.if-not-branch.false) ∙ ap (λ z. c.loop-i.constructors ++ all_at c.loop-i.i z) same in
    record {
      new = more_constructors (keys c.loop-i.constructors) (keys c.add_constructors_of.new.constructors) c.args.types.now c.loop-i.i c.index-types-i.result (ConstructorsAreNew [] (constructors_of c.args.types.now))
          c.loop-i.invariant.new c.loop-i-test.true (subst (ConstructorsAreNew (keys c.loop-i.constructors)) same (c.in_ok-add_constructors_of.ensures.new.0 c.if-not-branch.false))
          (keys-more c.loop-i.constructors c.add_constructors_of.new.constructors c.loop-i.i (get_or c.args.types.now c.loop-i.i c.index-types-i.result).cons grown);
      added = held_next c.loop-i.constructors c.add_constructors_of.new.constructors (held 0 c.args.types.now) c.args.types.now c.loop-i.i c.index-types-i.result c.loop-i.invariant.added c.loop-i-test.true grown;
    }
