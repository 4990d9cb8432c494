-- What is asked of nodes is kept where choices between one variable and itself are copies.
use Rattle.std.proofs.Common.{◌≡◌, ◌≤◌, ◌<◌, ℕ, true, map, List, [], ◌∷◌, ◌++◌, length, Option, Some, None, refl, sym, ap, subst}
use Rattle.std.specs.List.{AllByRecursion}
use Rattle.std.proofs.lemmas.Bool.{eqb-true}
use Rattle.std.proofs.lemmas.List.{length-map}
use Rattle.hp_obc.specs.Machines.{ObcType}
use Rattle.hp_flat.specs.declared.equation.Atom.{Atom}
use Rattle.hp_flat.specs.declared.equation.Atom.TheVariants.{Variable as Named, Value as Fixed}
use Rattle.hp_flat.specs.declared.node.FlatTy.{FlatTy}
use Rattle.hp_flat.specs.declared.node.FlatTy.TheVariants.{Bool as FlatBool, Int as FlatInt, Enum as FlatEnum}
use Rattle.hp_flat.specs.Equations.{Clock, Right, operator, register, called, FlatEqn}
use Rattle.hp_flat.specs.Nodes.{FlatNode}
use Rattle.law_equations.specs.Meaning.Fitting.{atom_variables, operands}
use Rattle.law_equations.specs.Meaning.Scheduling.{EqnWithin, IsWithin, DefinesNoInput}
use Rattle.hp_normal.specs.Choices.{restart_of, choice_of, same_type, type_of, has_type, needless, copying, simplified, choice_meanings, simple, with_restart}
use Rattle.hp_normal.specs.Reading.{only, both, copy_of}
use Rattle.hp_normal.specs.Substituting.{Meanings}
use Rattle.hp_normal.proofs.ChoiceLaws.{Needless, needless-is}
use Rattle.law_equations.specs.Followed.Premises.{constants_in, constants_of, IsTold, EqnForm}
use Rattle.law_equations.specs.Followed.Programs.{CallsAmong, CallsOnly}
use Rattle.law_equations.specs.Fewer.Compiling.{CopyAgrees, CopiesAgree}
use Rattle.law_equations.proofs.FewerLemmas.SubstituteLaws.{each_append, each_first, each_second}

types_same : (s t : FlatTy) → same_type s t ≡ true → s ≡ t
types_same FlatBool FlatBool h = refl
types_same FlatBool FlatInt h = absurd cc
types_same FlatBool (FlatEnum b) h = absurd cc
types_same FlatInt FlatBool h = absurd cc
types_same FlatInt FlatInt h = refl
types_same FlatInt (FlatEnum b) h = absurd cc
types_same (FlatEnum a) FlatBool h = absurd cc
types_same (FlatEnum a) FlatInt h = absurd cc
types_same (FlatEnum a) (FlatEnum b) h = ap (λ k. FlatEnum k) (eqb-true a b h)

module _ (n : FlatNode) where
  abbrev last : Meanings
  last = choice_meanings n n.eqns (λ x. Named x)

  abbrev w : FlatEqn → FlatEqn
  w = simplified n.variables last

  -- what holds of each equation that stays, and of each that copies instead
  module _ (P : FlatEqn → Type 0) (begins : (e : FlatEqn) → P e → P (with_restart e)) (copies : (e : FlatEqn) (a : Atom) → Needless n.variables last e a → P e → P (copying (Some a) e)) where
    one_by : (e : FlatEqn) (o : Option Atom) → needless n.variables last (choice_of e) ≡ o → P e → P (with_restart (copying o e))
    one_by e None q h = begins e h
    one_by e (Some a) q h = begins (copying (Some a) e) (copies e a (needless-is n.variables last e a q) h)

    all_by : (es : List FlatEqn) → AllByRecursion P es → AllByRecursion P (map w es)
    all_by [] h = tt
    all_by (e ∷ es) h = (one_by e (needless n.variables last (choice_of e)) refl h.0, all_by es h.1)

    pub simple-all : AllByRecursion P n.eqns → AllByRecursion P (simple n).eqns
    simple-all h = all_by n.eqns h

  pub restart_all : (P : ℕ → Type 0) (r : Right) (xs : List ℕ) → AllByRecursion P xs → AllByRecursion P (restart_of r xs)
  restart_all P (operator op args) xs h = tt
  restart_all P (register first next) xs h = h
  restart_all P (called f args) xs h = h

  -- the operand that is copied is one of the choice
  copied_part : (P : ℕ → Type 0) (e : FlatEqn) (a : Atom) → Needless n.variables last e a → AllByRecursion P (operands e.right) → AllByRecursion P (atom_variables a ++ [])
  copied_part P e a is h =
      let all : AllByRecursion P (atom_variables is.test ++ (atom_variables a ++ (atom_variables is.other ++ []))) = subst (λ (r : Right). AllByRecursion P (operands r)) is.right h in
      let rest = each_second P (atom_variables is.test) (atom_variables a ++ (atom_variables is.other ++ [])) all in
      each_append P (atom_variables a) [] (each_first P (atom_variables a) (atom_variables is.other ++ []) rest) tt

  pub simple-within : IsWithin n → IsWithin (simple n)
  simple-within h = record {
    inputs = h.inputs;
    outputs = h.outputs;
    eqns =
        simple-all (EqnWithin (length n.variables))
        (λ e k. record { targets = k.targets; clock = k.clock; operands = k.operands; restart = restart_all (λ x. x < length n.variables) e.right e.restart k.restart })
        (λ e a is k. record { targets = k.targets; clock = k.clock; operands = copied_part (λ x. x < length n.variables) e a is k.operands; restart = k.restart }) h.eqns;
  }

  -- what is asked of targets and clocks
  pub simple-each : (Q : List ℕ → Clock → Type 0) → AllByRecursion (λ (e : FlatEqn). Q e.targets e.clock) n.eqns → AllByRecursion (λ (e : FlatEqn). Q e.targets e.clock) (simple n).eqns
  simple-each Q h = simple-all (λ (e : FlatEqn). Q e.targets e.clock) (λ e k. k) (λ e a is k. k) h

  pub simple-no_inputs : DefinesNoInput n → DefinesNoInput (simple n)
  simple-no_inputs h = simple-each (λ targets clock. AllByRecursion (λ x. n.inputs ≤ x) targets) h

  pub simple-calls : (names : List (List ℕ)) → CallsOnly names n.eqns → CallsOnly names (simple n).eqns
  simple-calls names h = simple-all (λ (e : FlatEqn). CallsAmong names e.right) (λ e k. k) (λ e a is k. tt) h

  -- a copy has the type of what it copies
  pub typed : (x : ℕ) (a : Atom) → has_type n.variables x a ≡ true → CopyAgrees n.variables (Some (x, a))
  typed x (Named y) h = types_same (type_of n.variables x) (type_of n.variables y) h
  typed x (Fixed v) h = tt

  pub simple-copies : CopiesAgree n.variables n.eqns → CopiesAgree n.variables (simple n).eqns
  simple-copies h =
      simple-all (λ (e : FlatEqn). CopyAgrees n.variables (copy_of e)) (λ e k. k)
      (λ e a is k. subst (λ ts. CopyAgrees n.variables (both (only ts) (Some a))) (sym is.targets) (typed is.target a is.typed)) h

  pub simple-same_length : length (simple n).eqns ≡ length n.eqns
  simple-same_length = length-map n.eqns w

pub simple-forms : (types : List ObcType) (n : FlatNode) → AllByRecursion (EqnForm types n.variables) n.eqns → AllByRecursion (EqnForm types n.variables) (simple n).eqns
simple-forms types n h = simple-all n (EqnForm types n.variables) (λ e k. record { clock = k.clock; constants = k.constants }) (λ e a is k. record { clock = k.clock; constants = constant_by e a is (is.typed) k.constants }) h
  where
    constant_by : (e : FlatEqn) (a : Atom) (is : Needless n.variables (choice_meanings n n.eqns (λ x. Named x)) e a) → has_type n.variables is.target a ≡ true
        → AllByRecursion (IsTold types) (constants_of e.right) → AllByRecursion (IsTold types) (constants_in (a ∷ []))
    constant_by e (Named y) is t k = tt
    constant_by e (Fixed v) is t k = absurd cc
