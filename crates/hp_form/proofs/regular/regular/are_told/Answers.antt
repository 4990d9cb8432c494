use Rattle.std.proofs.Common.{◌<◌, List, length, take, sym, subst, arith}
use Rattle.std.proofs.lemmas.Bool.{both_ways}
use Rattle.std.proofs.lemmas.List.{take_more}
use Rattle.std.specs.List.{AllByRecursion}
use Rattle.hp_flat.specs.declared.equation.Atom.{Atom}
use Rattle.law_equations.specs.Followed.Premises.{IsOfTypes, constants_in}
use Rattle.hp_form.proofs.RegularLemmas.RegularLaws.{told-more, told-at}
use Rattle.hp_form.proofs.regular.regular.are_told.Goals as goal

pub returns-then-not-is_told : goal.returns-then-not-is_told
returns-then-not-is_told c = (
  λ h. absurd cc,
  λ h. absurd (both_ways c.is_told.result c.if-not-is_told.true (c.is_told.ensures.1 (told-at (IsOfTypes c.args.types.now) c.args.atoms.now c.loop-i.i _ h (omega arith)))),
)

pub loop-i-preserved : goal.loop-i-preserved
loop-i-preserved c =
    let atoms = c.args.atoms.now in
    let i = c.loop-i.i in
    let within : i < length atoms = omega arith in
    subst (λ (as_far : List Atom). AllByRecursion (IsOfTypes c.args.types.now) (constants_in as_far)) (sym (take_more atoms i _ within))
    (told-more (IsOfTypes c.args.types.now) (take i atoms) _ c.loop-i.invariant (c.is_told.ensures.0 c.if-not-is_told.false))
