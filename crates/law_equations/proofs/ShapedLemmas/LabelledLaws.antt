-- The memories and instances that a machine declares.
use Rattle.std.proofs.Common.{◌≡◌, ℕ, zero, suc, ◌+◌, ◌<◌, ◌≤◌, ◌^◌, false, if◌then◌else◌, List, [], ◌∷◌, ◌++◌, length, map, Some, is_some, inl, inr, refl, sym, ap, subst, ◌∙◌, arith}
use Rattle.std.specs.Prelude.{IsSome, IsTrue}
use Rattle.std.specs.List.{AllByRecursion, IsDistinct}
use Rattle.std.specs.Str.{bytes_eq}
use Rattle.hp_base.specs.Kinds.{KindData}
use Rattle.hp_obc.specs.Machines.{ObcType, Machine}
use Rattle.hp_obc.specs.Values.{kind_of}
use Rattle.hp_obc.specs.Form.{TypesForm, is_name, mem_vars, machine_named, machine_of, constant_kind, BothAre}
use Rattle.hp_obc.specs.Steps.{var_names, inst_names}
use Rattle.hp_obc.specs.declared.machine.Var.{Var}
use Rattle.hp_obc.specs.declared.machine.Mem.{Mem}
use Rattle.hp_flat.specs.declared.node.Variable.{Variable}
use Rattle.hp_flat.specs.Equations.{Right, operator, register, called, FlatEqn}
use Rattle.law_equations.specs.Meaning.Scheduling.{AreBelow}
use Rattle.law_equations.specs.Meaning.Kinding.{variable_kind, IsTyped, HasValue, Callees, RightHasKinds, EqnKinds}
use Rattle.hp_toobc.specs.Tables.{variable_at, variable_type, type_of, constant}
use Rattle.hp_toobc.specs.Making.{first_name, first_type, memory_name, instance_name, mem_of, mems, inst_of, insts}
use Rattle.law_equations.specs.Followed.Premises.{names}
use Rattle.law_equations.proofs.FollowedLemmas.Naming.{its_name, turned, named, each_map}
use Rattle.law_equations.proofs.FollowedLemmas.Labels.{Labelled, label_by, labelled, Apart, LabelsDiffer}
use Rattle.law_equations.proofs.FewerLemmas.KindedForms.{typed_kind, first_kind}
use Rattle.law_equations.proofs.FewerLemmas.Members.{Among}
use Rattle.law_equations.specs.Shaped.Shaped.{CallIsKnown}
use Rattle.law_equations.proofs.ShapedLemmas.TypeLaws.{kind-of_type, constant-kind}
use Rattle.law_equations.proofs.ShapedLemmas.MadeNames.{made-name}
use Rattle.law_equations.proofs.ShapedLemmas.CommandLaws.{both-are}

-- what holds of all variables holds of the one of a number
pub variable-each : (P : Variable → Type 0) (variables : List Variable) (x : ℕ) → AllByRecursion P variables → x < length variables → P (variable_at variables x)
variable-each P [] x h lt = absurd (omega arith)
variable-each P (v ∷ variables) zero h lt = h.0
variable-each P (v ∷ variables) (suc x) h lt = variable-each P variables x h.1 (omega arith)

module _ (types : List ObcType) (variables : List Variable) where
  abbrev pub mem_at : ℕ → List FlatEqn → List Var
  mem_at i es = mem_vars (mems types variables i es)

  -- what holds of all labels holds of the names of memories
  pub mems-each : (P : List ℕ → Type 0) (i : ℕ) (es : List FlatEqn) → AllByRecursion (λ (u : Labelled). P u.label) (labelled variables i es) → AllByRecursion P (var_names (mem_at i es))
  mems-each P i [] h = tt
  mems-each P i (e ∷ es) h = by e.right h.0 (mems-each P (i + 1) es h.1)
    where
      by : (r : Right) → P (label_by variables i e.targets r) → AllByRecursion P (var_names (mem_at (i + 1) es)) → AllByRecursion P (var_names (mem_vars (mem_of types variables i e.targets r ++ mems types variables (i + 1) es)))
      by (operator op args) p g = g
      by (register first next) p g = (p, g)
      by (called f args) p g = g

  pub mems-distinct : (i : ℕ) (es : List FlatEqn) → LabelsDiffer (labelled variables i es) → IsDistinct bytes_eq (var_names (mem_at i es))
  unfolding IsDistinct
  mems-distinct i [] h = tt
  mems-distinct i (e ∷ es) h = by e.right h.0 (mems-distinct (i + 1) es h.1)
    where
      by : (r : Right) → Apart (label_by variables i e.targets r) (labelled variables (i + 1) es) → IsDistinct bytes_eq (var_names (mem_at (i + 1) es))
          → IsDistinct bytes_eq (var_names (mem_vars (mem_of types variables i e.targets r ++ mems types variables (i + 1) es)))
      by (operator op args) p g = g
      by (register first next) p g =
          let x : List ℕ = memory_name variables e.targets i in (
            mems-each (λ y. bytes_eq x y ≡ false) (i + 1) es
                (each_map (λ (u : Labelled). bytes_eq u.label x ≡ false) (λ (u : Labelled). bytes_eq x u.label ≡ false) (λ u q. turned u.label x q) (labelled variables (i + 1) es) p),
            g,
          )
      by (called f args) p g = g

  pub insts-each : (P : List ℕ → Type 0) (i : ℕ) (es : List FlatEqn) → AllByRecursion (λ (u : Labelled). P u.label) (labelled variables i es) → AllByRecursion P (inst_names (insts i es))
  insts-each P i [] h = tt
  insts-each P i (e ∷ es) h = by e.right h.0 (insts-each P (i + 1) es h.1)
    where
      by : (r : Right) → P (label_by variables i e.targets r) → AllByRecursion P (inst_names (insts (i + 1) es)) → AllByRecursion P (inst_names (inst_of i r ++ insts (i + 1) es))
      by (operator op args) p g = g
      by (register first next) p g = g
      by (called f args) p g = (p, g)

  pub insts-distinct : (i : ℕ) (es : List FlatEqn) → LabelsDiffer (labelled variables i es) → IsDistinct bytes_eq (inst_names (insts i es))
  unfolding IsDistinct
  insts-distinct i [] h = tt
  insts-distinct i (e ∷ es) h = by e.right h.0 (insts-distinct (i + 1) es h.1)
    where
      by : (r : Right) → Apart (label_by variables i e.targets r) (labelled variables (i + 1) es) → IsDistinct bytes_eq (inst_names (insts (i + 1) es)) → IsDistinct bytes_eq (inst_names (inst_of i r ++ insts (i + 1) es))
      by (operator op args) p g = g
      by (register first next) p g = g
      by (called f args) p g =
          let x : List ℕ = instance_name f i in (
            insts-each (λ y. bytes_eq x y ≡ false) (i + 1) es
                (each_map (λ (u : Labelled). bytes_eq u.label x ≡ false) (λ (u : Labelled). bytes_eq x u.label ≡ false) (λ u q. turned u.label x q) (labelled variables (i + 1) es) p),
            g,
          )

-- ---- what is declared is of kinds, and has names

module _ (types : List ObcType) (form : TypesForm types) (callees : Callees) (earlier : List Machine) (variables : List Variable) (values : AllByRecursion (λ (v : Variable). HasValue types v.ty) variables)
    (good : AllByRecursion (λ x. IsTrue (is_name x)) (names variables)) where
  -- what is asked of an equation
  pub record IsReady (e : FlatEqn) : Type 0 where
    pub kinds : EqnKinds types callees variables e
    pub targets : AreBelow (length variables) e.targets
    pub callee : CallIsKnown types callees earlier e.right

  pub variable-kinded : (x : ℕ) → x < length variables → kind_of types (type_of types (variable_type variables x)) ≡ Some (variable_kind types variables x)
  variable-kinded x lt = kind-of_type types form (variable_type variables x) (variable-each (λ (v : Variable). HasValue types v.ty) variables x values lt)

  first_good : (targets : List ℕ) (k : KindData) → map (variable_kind types variables) targets ≡ k ∷ [] → AreBelow (length variables) targets → IsTrue (is_name (first_name variables targets))
  first_good [] k e lt = absurd (cc)
  first_good (x ∷ targets) k e lt = named (λ y. IsTrue (is_name y)) variables x good lt.0

  pub first-kinded : (targets : List ℕ) (k : KindData) → map (variable_kind types variables) targets ≡ k ∷ [] → AreBelow (length variables) targets → kind_of types (type_of types (first_type variables targets)) ≡ Some k
  first-kinded [] k e lt = absurd (cc)
  first-kinded (x ∷ targets) k e lt = variable-kinded x lt.0 ∙ ap Some (first_kind (variable_kind types variables x) k (map (variable_kind types variables) targets) [] e)

  first_typed : (targets : List ℕ) (k : KindData) → map (variable_kind types variables) targets ≡ k ∷ [] → IsTyped types k
  first_typed [] k e = absurd (cc)
  first_typed (x ∷ targets) k e = subst (IsTyped types) (first_kind (variable_kind types variables x) k (map (variable_kind types variables) targets) [] e) (typed_kind types (variable_type variables x))

  -- each memory has a name, a kind, and a first value of this kind
  abbrev pub MemGood : Mem → Type 0
  MemGood x = IsTrue (is_name x.name) × BothAre (kind_of types x.ty) (constant_kind types x.first)

  pub mems-good : (i : ℕ) (es : List FlatEqn) → i + length es ≤ 10 ^ 13 → AllByRecursion IsReady es → AllByRecursion MemGood (mems types variables i es)
  mems-good i [] few h = tt
  mems-good i (e ∷ es) few h = by e.right h.0.kinds.right (mems-good (i + 1) es (omega (arith, few)) h.1)
    where
      by : (r : Right) → RightHasKinds types callees variables r (map (variable_kind types variables) e.targets) → AllByRecursion MemGood (mems types variables (i + 1) es)
          → AllByRecursion MemGood (mem_of types variables i e.targets r ++ mems types variables (i + 1) es)
      by (operator op args) p g = g
      by (register first next) p g = (
        (
          made-name (first_name variables e.targets) 109 i (first_good e.targets p.0 p.3 h.0.targets) refl (omega (arith, few)),
          both-are (kind_of types (type_of types (first_type variables e.targets))) (constant_kind types (constant types first)) p.0 (first-kinded e.targets p.0 p.3 h.0.targets)
              (constant-kind types form p.0 first p.1 (first_typed e.targets p.0 p.3)),
        ),
        g,
      )
      by (called f args) p g = g

  -- each instance has a name, and its machine is there
  abbrev pub InstGood : List ℕ × List ℕ → Type 0
  InstGood p = IsTrue (is_name p.0) × IsSome (machine_named earlier p.1)

  pub insts-good : (i : ℕ) (es : List FlatEqn) → i + length es ≤ 10 ^ 13 → AllByRecursion IsReady es → AllByRecursion InstGood (insts i es)
  insts-good i [] few h = tt
  insts-good i (e ∷ es) few h = by e.right h.0.callee (insts-good (i + 1) es (omega (arith, few)) h.1)
    where
      by : (r : Right) → CallIsKnown types callees earlier r → AllByRecursion InstGood (insts (i + 1) es) → AllByRecursion InstGood (inst_of i r ++ insts (i + 1) es)
      by (operator op args) p g = g
      by (register first next) p g = g
      by (called f args) p g = ((made-name f 110 i p.name refl (omega (arith, few)), ap is_some p.known), g)

-- an instance among others whose names differ has its own machine
pub machine-among : (earlier : List Machine) (all : List (List ℕ × List ℕ)) (p : List ℕ × List ℕ) → IsDistinct bytes_eq (inst_names all) → Among p all → machine_of earlier all p.0 ≡ machine_named earlier p.1
unfolding IsDistinct
machine-among earlier [] p d a = absurd a
machine-among earlier (q ∷ all) p d (inl e) =
    ap (λ (r : List ℕ × List ℕ). machine_of earlier (q ∷ all) r.0) e ∙ ap (λ b. if b then machine_named earlier q.1 else machine_of earlier all q.0) (its_name q.0) ∙ ap (λ (r : List ℕ × List ℕ). machine_named earlier r.1) (sym e)
machine-among earlier (q ∷ all) p d (inr a) = ap (λ b. if b then machine_named earlier q.1 else machine_of earlier all p.0) (other all d.0 a) ∙ machine-among earlier all p d.1 a
  where
    other : (rest : List (List ℕ × List ℕ)) → AllByRecursion (λ y. bytes_eq q.0 y ≡ false) (inst_names rest) → Among p rest → bytes_eq q.0 p.0 ≡ false
    other [] h b = absurd b
    other (r ∷ rest) h (inl e) = ap (λ (s : List ℕ × List ℕ). bytes_eq q.0 s.0) e ∙ h.0
    other (r ∷ rest) h (inr b) = other rest h.1 b
