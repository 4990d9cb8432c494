-- Where the contract is kept, the lines that tell its values tell that it is.
use Rattle.std.proofs.Common.{true, List, [], ◌∷◌, ◌++◌, sym, ap, ap₂, ◌∙◌}
use Rattle.hp_base.specs.declared.value.Value.{Value}
use Rattle.hp_base.specs.declared.value.Value.TheVariants.{B}
use Rattle.hp_tree.specs.Instant.{Past}
use Rattle.hp_meaning.specs.Contract.Duties.{assumes, enforces}
use Rattle.hp_meaning.specs.Contract.Guarantee.{AllAssumed}
use Rattle.law_equations.specs.Meaning.Instants.{is_true}
use Rattle.law_choices.specs.Playing.Telling.{AreToldOf}
use Rattle.law_choices.proofs.PlayingLemmas.Programs.{last-two}
use Rattle.law_controlled.specs.Greatest.{KeepsContract}
use Rattle.law_controlled.specs.Telling.{TellAssumed, TellKept}

-- where each line tells that the assumption holds, it does at each instant
all_assumed : (past : Past) (lines more : List (List Value)) → AreToldOf past lines more → TellAssumed lines more → AllAssumed past
all_assumed [] [] [] v a = tt
all_assumed [] [] (told ∷ more) v a = absurd v
all_assumed [] (line ∷ lines) more v a = absurd v
all_assumed (now ∷ past) [] more v a = absurd v
all_assumed (now ∷ past) (line ∷ lines) [] v a = absurd v
all_assumed (now ∷ past) (line ∷ lines) (told ∷ more) v a =
    let same = last-two line line (B (assumes now)) (B (enforces now)) (B true) (B (a.0).0) (sym v.0 ∙ (a.0).1) in
    (all_assumed past lines more v.1 a.1, ap is_true same.0)

pub told_kept : (past : Past) (lines more : List (List Value)) → AreToldOf past lines more → KeepsContract past → TellKept lines more
told_kept [] [] [] v k = tt
told_kept [] [] (told ∷ more) v k = absurd v
told_kept [] (line ∷ lines) more v k = absurd v
told_kept (now ∷ past) [] more v k = absurd v
told_kept (now ∷ past) (line ∷ lines) [] v k = absurd v
told_kept (now ∷ past) (line ∷ lines) (told ∷ more) v k = (
  λ a.
      let assumed : AllAssumed (now ∷ past) = all_assumed (now ∷ past) (line ∷ lines) (told ∷ more) v a in
      v.0 ∙ ap₂ (λ x y. line ++ B x ∷ B y ∷ []) assumed.1 (k.1 assumed),
  told_kept past lines more v.1 k.0,
)
