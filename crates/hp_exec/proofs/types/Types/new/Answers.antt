use Rattle.std.proofs.Common.{ap, ◌∙◌, sym, subst, [], ◌∷◌, ◌++◌, ◌+◌, take}
use Rattle.hp_obc.specs.Form.{constructors_of}
use Rattle.std.specs.List.{IsDistinct}
use Rattle.std.specs.Str.{bytes_eq}
use Rattle.hp_base.specs.declared.value.Value.TheVariants.{E}
use Rattle.hp_obc.specs.Machines.{ObcType}
use Rattle.hp_exec.specs.Typing.{constructors_from}
use Rattle.hp_exec.specs.Naming.{names_in}
use Rattle.hp_exec.proofs.TypeLaws.{constructors_of_more, all_constructors_more, first_constructors_more, constructors-distinct}
use Rattle.hp_exec.proofs.Pushes.{pushed_mapped, joined, next_apart}
use Rattle.hp_exec.proofs.types.Types.new.Goals as goal

pub add-requires : goal.add-requires
add-requires c =
    next_apart (λ (d : ObcType). d.name) [] _ c.args.types.now c.index-types-n.result _ c.loop-n.n c.requires.names.1 c.loop-n.invariant.names (ap (λ (d : ObcType). d.name) c.declared.view_is) c.index-types-n.is
    c.loop-n-test.true

pub add_constructors-requires-clause-distinct : goal.add_constructors-requires-clause-distinct
add_constructors-requires-clause-distinct c =
    subst (λ xs. IsDistinct bytes_eq xs)
    (constructors_of_more c.args.types.now c.loop-n.n c.index-types-n.result c.loop-n-test.true
    ∙ ap (λ (d : ObcType). constructors_of (take c.loop-n.n c.args.types.now) ++ d.cons) (sym c.index-types-n.is)
    ∙ ap (λ xs. xs ++ c.index-types-n.result.cons) (sym c.loop-n.invariant.constructors)
    ∙ ap (λ xs. names_in c.loop-n.constructors ++ xs) (sym (c.deref.ensures.value ∙ ap (λ (d : ObcType). d.cons) c.declared.view_is)))
    (constructors-distinct c.args.types.now (c.loop-n.n + 1) c.requires.distinct)

pub loop-n-preserved : goal.loop-n-preserved
loop-n-preserved c =
    let cons = c.deref.ensures.value ∙ ap (λ (d : ObcType). d.cons) c.declared.view_is ∙ ap (λ (d : ObcType). d.cons) c.index-types-n.is in
    record {
      names = pushed_mapped (λ (d : ObcType). d.name) _ _ c.args.types.now c.index-types-n.result _ c.loop-n.n c.in_ok-add.ensures c.loop-n.invariant.names (ap (λ (d : ObcType). d.name) c.declared.view_is)
          c.index-types-n.is c.loop-n-test.true;
      firsts = joined _ _ (E c.loop-n.n 0 ∷ []) _ _ c.in_ok-push.ensures.items c.loop-n.invariant.firsts (first_constructors_more c.args.types.now c.loop-n.n c.index-types-n.result c.loop-n-test.true);
      constructors = joined _ _ _ _ _ (c.in_ok-add_constructors.ensures.constructors ∙ ap (λ xs. names_in c.loop-n.constructors ++ xs) cons) c.loop-n.invariant.constructors
          (constructors_of_more c.args.types.now c.loop-n.n c.index-types-n.result c.loop-n-test.true);
      values = joined _ _ _ _ _ (c.in_ok-add_constructors.ensures.values ∙ ap (λ xs. c.loop-n.values.items ++ constructors_from c.loop-n.n 0 xs) cons) c.loop-n.invariant.values
          (all_constructors_more c.args.types.now c.loop-n.n c.index-types-n.result c.loop-n-test.true);
    }
