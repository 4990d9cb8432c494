use Rattle.std.proofs.Common.{ap, ◌∙◌, sym, [], ◌∷◌, ◌++◌, take}
use Rattle.hp_base.specs.declared.value.Value.TheVariants.{E}
use Rattle.hp_exec.specs.Typing.{constructors_from}
use Rattle.std.proofs.lemmas.List.{append_assoc}
use Rattle.hp_exec.proofs.TypeLaws.{constructors_more}
use Rattle.hp_exec.proofs.Pushes.{pushed_next, joined}
use Rattle.hp_exec.proofs.types.add_constructors.Goals as goal

pub loop-c-preserved : goal.loop-c-preserved
loop-c-preserved c = record {
  names = pushed_next _ _ _ c.args.cons.now c.index-cons-c.result c.loop-c.c c.in_ok-add.ensures c.loop-c.invariant.names c.index-cons-c.is c.loop-c-test.true;
  values =
      joined _ _ (E c.args.number c.loop-c.c ∷ []) (c.args.values.now.items ++ constructors_from c.args.number 0 (take c.loop-c.c c.args.cons.now)) _
      c.in_ok-push.ensures.items c.loop-c.invariant.values
      (ap (λ ys. c.args.values.now.items ++ ys) (constructors_more c.args.number c.args.cons.now c.loop-c.c c.index-cons-c.result c.loop-c-test.true)
      ∙ sym (append_assoc c.args.values.now.items (constructors_from c.args.number 0 (take c.loop-c.c c.args.cons.now)) (E c.args.number c.loop-c.c ∷ [])));
}
