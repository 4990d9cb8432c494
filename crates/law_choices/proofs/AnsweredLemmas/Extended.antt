-- Nodes that are extended close the nodes as they were.
use Rattle.std.proofs.Common.{◌≡◌, ◌⊎◌, inl, inr, ℕ, ◌<◌, ◌≤◌, if◌then◌else◌, List, [], ◌∷◌, ◌++◌, length, map, refl, sym, ap, ap₂, subst, ◌∙◌, arith}
use Rattle.std.specs.List.{AllByRecursion}
use Rattle.std.proofs.lemmas.Bool.{lt-ltb}
use Rattle.std.proofs.lemmas.List.{append-nil, append_assoc, length-append}
use Rattle.hp_base.specs.declared.value.Value.{Value}
use Rattle.hp_base.specs.declared.value.Value.TheVariants.{Absent}
use Rattle.hp_flat.specs.Equations.{FlatEqn}
use Rattle.hp_flat.specs.Nodes.{FlatNode}
use Rattle.law_equations.specs.Meaning.Instants.{Instant}
use Rattle.law_equations.specs.Meaning.Reactions.{Answers, Reaction, outputs_at}
use Rattle.law_equations.specs.Meaning.Scheduling.{AreBelow}
use Rattle.hp_controller.specs.Extending.{cut, rows_with, ExtendedLaw}
use Rattle.law_choices.specs.Answered.Loops.{Loop, SameOutputs, ExtendedLoopLaw, OwnLoopLaw, ThenLaw}

-- the first variables of an instant
values_within : (bound : ℕ) (now : Instant) (xs : List ℕ) → AreBelow bound xs → map (cut bound now) xs ≡ map now xs
values_within bound now [] h = refl
values_within bound now (x ∷ xs) h = ap₂ (λ (v : Value) vs. v ∷ vs) (ap (λ c. if c then now x else Absent) (lt-ltb x bound h.0)) (values_within bound now xs h.1)

outputs_within : (l : Loop) → SameOutputs l → (instants : List Instant) → map (outputs_at l.plant) (map (cut (length l.plant.variables)) instants) ≡ map (outputs_at l.closed) instants
outputs_within l same [] = refl
outputs_within l same (now ∷ past) =
    ap₂ (λ (vs : List Value) (rest : List (List Value)). vs ∷ rest) (values_within (length l.plant.variables) now l.plant.outputs same.within ∙ ap (map now) (sym same.outputs)) (outputs_within l same past)

pub extended_loop : ExtendedLaw → ExtendedLoopLaw
extended_loop law controls more l loop same x answers = record {
  loop = loop;
  follows = λ rows instants r.
      record { followed = map (cut (length l.plant.variables)) instants; reaction = law answers l.plant l.closed controls more x rows instants r; outputs = outputs_within l same instants };
}

-- ---- nodes that stay

none_behind : (answers : Answers) (n : FlatNode) (rows : List (List Value)) (instants : List Instant) → Reaction answers n rows instants → rows_with n.inputs 0 rows instants ≡ rows
none_behind answers n [] [] r = refl
none_behind answers n [] (now ∷ past) r = absurd r
none_behind answers n (row ∷ rows) [] r = absurd r
none_behind answers n (row ∷ rows) (now ∷ past) r = ap₂ (λ (v : List Value) (vs : List (List Value)). v ∷ vs) (append-nil row) (none_behind answers n rows past r.0)

pub own_loop : OwnLoopLaw
own_loop n within answers = record {
  loop = record { name = refl; inputs = omega arith; within = within; variables = ([], sym (append-nil n.variables)); defined = λ now. tt };
  follows = λ rows instants r. record { followed = instants; reaction = subst (λ rs. Reaction answers n rs instants) (sym (none_behind answers n rows instants r)) r; outputs = refl };
}

-- ---- two steps

-- targets are among the inputs of a node or behind so many variables
abbrev AreNew : ℕ → ℕ → List FlatEqn → Type 0
AreNew inputs count es = AllByRecursion (λ (e : FlatEqn). AllByRecursion (λ x. (x < inputs) ⊎ (count ≤ x)) e.targets) es

new_targets : (inputs other count more : ℕ) → other ≡ inputs → count ≤ more → (xs : List ℕ) → AllByRecursion (λ x. (x < other) ⊎ (more ≤ x)) xs → AllByRecursion (λ x. (x < inputs) ⊎ (count ≤ x)) xs
new_targets inputs other count more same grown [] h = tt
new_targets inputs other count more same grown (x ∷ xs) h = (by h.0, new_targets inputs other count more same grown xs h.1)
  where
    by : (x < other) ⊎ (more ≤ x) → (x < inputs) ⊎ (count ≤ x)
    by (inl l) = inl (omega (arith, l, same))
    by (inr l) = inr (omega (arith, l, grown))

new_later : (inputs other count more : ℕ) → other ≡ inputs → count ≤ more → (es : List FlatEqn) → AreNew other more es → AreNew inputs count es
new_later inputs other count more same grown [] h = tt
new_later inputs other count more same grown (e ∷ es) h = (new_targets inputs other count more same grown e.targets h.0, new_later inputs other count more same grown es h.1)

new_both : (inputs count : ℕ) (xs ys : List FlatEqn) → AreNew inputs count xs → AreNew inputs count ys → AreNew inputs count (xs ++ ys)
new_both inputs count [] ys h g = g
new_both inputs count (x ∷ xs) ys h g = (h.0, new_both inputs count xs ys h.1 g)

pub then_law : ThenLaw
then_law controls first more plant middle closed one x two y =
    let added = one.variables in
    let grown = ap length added.1 ∙ length-append plant.variables added.0 in
    let same = one.inputs in
    let fewer = two.inputs in
    let added_too = two.variables in (
      record {
        name = two.name ∙ one.name;
        inputs = omega (arith, same, fewer);
        within = one.within;
        variables = (added.0 ++ added_too.0, added_too.1 ∙ ap (λ vs. vs ++ added_too.0) added.1 ∙ append_assoc plant.variables added.0 added_too.0);
        defined = two.defined;
      },
      record {
        inputs = omega (arith, same, fewer);
        variables = x.variables;
        within = x.within;
        eqns = y.eqns ∙ ap (λ es. es ++ more) x.eqns ∙ append_assoc plant.eqns first more;
        targets = new_both plant.inputs (length plant.variables) first more x.targets (new_later plant.inputs middle.inputs (length plant.variables) (length middle.variables) (omega (arith, same)) (omega (arith, grown)) more y.targets);
      },
    )
