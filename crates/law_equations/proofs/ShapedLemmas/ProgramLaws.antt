-- The machines of nodes in order make a file that has form.
use Rattle.std.proofs.Common.{◌≡◌, ℕ, Bool, true, false, ◌||◌, if◌then◌else◌, List, [], ◌∷◌, ◌++◌, length, map, Some, None, refl, sym, ap, subst, ◌∙◌, arith}
use Rattle.std.specs.Prelude.{IsTrue}
use Rattle.std.specs.List.{AllByRecursion, range_with_len}
use Rattle.std.specs.Str.{bytes_eq}
use Rattle.hp_obc.specs.Machines.{ObcType, Machine}
use Rattle.hp_obc.specs.Form.{TypesForm, MachinesForm, is_name, has_name, machine_named, with_first, var_kinds}
use Rattle.hp_flat.specs.declared.node.Variable.{Variable}
use Rattle.hp_flat.specs.Equations.{Right, operator, register, called, FlatEqn}
use Rattle.hp_flat.specs.Nodes.{FlatNode}
use Rattle.law_equations.specs.Meaning.Scheduling.{AreBelow}
use Rattle.law_equations.specs.Meaning.Kinding.{HasValue, variable_kind, Callees}
use Rattle.law_equations.specs.Followed.Programs.{CallsAmong, CallsOnly}
use Rattle.law_equations.proofs.FollowedLemmas.Naming.{same_name}
use Rattle.law_equations.proofs.FollowedLemmas.Declared.{inputs-below}
use Rattle.law_equations.specs.Fewer.Compiling.{IsCompiled, AreCompiled}
use Rattle.law_equations.proofs.FewerLemmas.Members.{each_map}
use Rattle.law_equations.specs.Shaped.Shaped.{NodeShape, IsCallable, CallIsKnown, IsShaped, IsHeaded, AreShaped}
use Rattle.law_equations.specs.Shaped.Laws.{ProgramFormLaw}
use Rattle.law_equations.proofs.ShapedLemmas.TypeLaws.{kind-of_type}
use Rattle.law_equations.proofs.ShapedLemmas.LabelledLaws.{variable-each}
use Rattle.law_equations.proofs.ShapedLemmas.ScopeLaws.{at, inputs-at}
use Rattle.law_equations.proofs.ShapedLemmas.FormLaws.{form_law}

-- ---- machines by name

named_first : (earlier later : List Machine) (f : List ℕ) (m : Machine) → machine_named earlier f ≡ Some m → machine_named (earlier ++ later) f ≡ Some m
named_first [] later f m h = absurd (cc)
named_first (k ∷ earlier) later f m h = by (bytes_eq k.name f) h (named_first earlier later f m)
  where
    by : (d : Bool) → (if d then Some k else machine_named earlier f) ≡ Some m → (machine_named earlier f ≡ Some m → machine_named (earlier ++ later) f ≡ Some m) → (if d then Some k else machine_named (earlier ++ later) f) ≡ Some m
    by true e g = e
    by false e g = g e

named_last : (earlier later : List Machine) (f : List ℕ) → machine_named earlier f ≡ None → machine_named (earlier ++ later) f ≡ machine_named later f
named_last [] later f h = refl
named_last (k ∷ earlier) later f h = by (bytes_eq k.name f) h (named_last earlier later f)
  where
    by : (d : Bool) → (if d then Some k else machine_named earlier f) ≡ None → (machine_named earlier f ≡ None → machine_named (earlier ++ later) f ≡ machine_named later f) → (if d then Some k else machine_named (earlier ++ later) f) ≡ machine_named later f
    by true e g = absurd (cc)
    by false e g = g e

module _ (types : List ObcType) (form : TypesForm types) (callees : Callees) where
  -- ---- what a machine takes and gives

  kinds_are : (variables : List Variable) → AllByRecursion (λ (v : Variable). HasValue types v.ty) variables → (xs : List ℕ) → AreBelow (length variables) xs → var_kinds types (map (at types variables) xs) ≡ Some (map (variable_kind types variables) xs)
  kinds_are variables values [] lt = refl
  kinds_are variables values (x ∷ xs) lt =
      let rest = kinds_are variables values xs lt.1 in
      let first = kind-of_type types form _ (variable-each (λ (v : Variable). HasValue types v.ty) variables x values lt.0) in
      λ i. with_first (first i) (rest i)

  module _ (n : FlatNode) (m : Machine) (shape : NodeShape types callees n) (headed : IsHeaded types callees n) (compiled : IsCompiled types n m) where
    name_is : m.name ≡ n.name
    name_is = ap (λ (k : Machine). k.name) compiled.made

    inputs_are : var_kinds types m.inputs ≡ Some (callees.takes n.name)
    inputs_are =
        ap (λ (k : Machine). var_kinds types k.inputs) compiled.made
        ∙ ap (var_kinds types) (inputs-at types n.variables n.inputs shape.within.inputs)
        ∙ kinds_are n.variables shape.values (range_with_len 0 n.inputs) (inputs-below 0 n.inputs (length n.variables) (let within = shape.within.inputs in omega (arith, within)))
        ∙ ap Some (sym headed.takes)

    outputs_are : var_kinds types m.outputs ≡ Some (callees.gives n.name)
    outputs_are = ap (λ (k : Machine). var_kinds types k.outputs) compiled.made ∙ kinds_are n.variables shape.values n.outputs shape.within.outputs ∙ ap Some (sym headed.gives)

  -- ---- machines of the nodes before

  -- nodes of these names have these machines, and no others are there
  record Stands (names : List (List ℕ)) (earlier : List Machine) : Type 0 where
    known : (f : List ℕ) → has_name names f ≡ true → IsCallable types callees earlier f
    none : (f : List ℕ) → has_name names f ≡ false → machine_named earlier f ≡ None

  begins : Stands [] []
  begins = record { known = λ f h. absurd (cc); none = λ f h. refl }

  calls_known : (names : List (List ℕ)) (earlier : List Machine) → Stands names earlier → (es : List FlatEqn) → CallsOnly names es → AllByRecursion (λ (e : FlatEqn). CallIsKnown types callees earlier e.right) es
  calls_known names earlier s es h = each_map (λ (e : FlatEqn). CallsAmong names e.right) (λ (e : FlatEqn). CallIsKnown types callees earlier e.right) (λ e. by e.right) es h
    where
      by : (r : Right) → CallsAmong names r → CallIsKnown types callees earlier r
      by (operator op args) h = tt
      by (register first next) h = tt
      by (called f args) h = s.known f h

  more_callable : (earlier later : List Machine) (f : List ℕ) → IsCallable types callees earlier f → IsCallable types callees (earlier ++ later) f
  more_callable earlier later f h = record { name = h.name; machine = h.machine; known = named_first earlier later f h.machine h.known; takes = h.takes; gives = h.gives }

  module _ (names : List (List ℕ)) (earlier : List Machine) (s : Stands names earlier) (n : FlatNode) (m : Machine) (shape : NodeShape types callees n) (headed : IsHeaded types callees n) (compiled : IsCompiled types n m) where
    last_is : (f : List ℕ) → has_name names f ≡ false → (d : Bool) → bytes_eq n.name f ≡ d → machine_named (earlier ++ m ∷ []) f ≡ (if d then Some m else None)
    last_is f h d e = named_last earlier (m ∷ []) f (s.none f h) ∙ ap (λ b. if b then Some m else None) (ap (λ x. bytes_eq x f) (name_is n m shape headed compiled) ∙ e)

    new_callable : (f : List ℕ) → has_name names f ≡ false → bytes_eq n.name f ≡ true → IsCallable types callees (earlier ++ m ∷ []) f
    new_callable f h e =
        let same : n.name ≡ f = same_name n.name f e in
        record {
          name = subst (λ x. IsTrue (is_name x)) same shape.name;
          machine = m;
          known = last_is f h true e;
          takes = inputs_are n m shape headed compiled ∙ ap (λ x. Some (callees.takes x)) same;
          gives = outputs_are n m shape headed compiled ∙ ap (λ x. Some (callees.gives x)) same;
        }

    or_true : (a : Bool) → (a || false) ≡ true → a ≡ true
    or_true true h = refl
    or_true false h = absurd (cc)

    or_none : (a b : Bool) → (a || b) ≡ false → (a ≡ false) × (b ≡ false)
    or_none true b h = absurd (cc)
    or_none false b h = (refl, h)

    one_more : Stands (n.name ∷ names) (earlier ++ m ∷ [])
    one_more = record {
      known = λ f h. by f (has_name names f) refl h;
      none = λ f h. let both = or_none (bytes_eq n.name f) (has_name names f) h in last_is f both.1 false both.0;
    }
      where
        by : (f : List ℕ) (d : Bool) → has_name names f ≡ d → (bytes_eq n.name f || d) ≡ true → IsCallable types callees (earlier ++ m ∷ []) f
        by f true e h = more_callable earlier (m ∷ []) f (s.known f e)
        by f false e h = new_callable f e (or_true (bytes_eq n.name f) h)

  -- ---- all nodes

  machines_form : (names : List (List ℕ)) (earlier : List Machine) (ns : List FlatNode) (machines : List Machine) → Stands names earlier → AreShaped types callees names ns → AreCompiled types ns machines
      → MachinesForm types earlier machines
  machines_form names earlier [] [] s h c = tt
  machines_form names earlier [] (m ∷ machines) s h c = absurd c
  machines_form names earlier (n ∷ ns) [] s h c = absurd c
  machines_form names earlier (n ∷ ns) (m ∷ machines) s h c =
      let shaped : IsShaped types callees earlier n = record { shape = h.0; new = s.none n.name h.3; calls = calls_known names earlier s n.eqns h.4 } in (
        form_law types callees earlier n m form h.1 shaped c.0,
        machines_form (n.name ∷ names) (earlier ++ m ∷ []) ns machines (one_more names earlier s n m h.0 h.2 c.0) h.5 c.1,
      )

pub program_form_law : ProgramFormLaw
program_form_law types callees ns machines form h c = (form, machines_form types form callees [] [] ns machines (begins types form callees) h c)
