-- The equations of nodes have what their machines ask for.
use Rattle.std.proofs.Common.{◌≡◌, ℕ, ◌≤◌, ◌^◌, nat_eq, List, [], ◌∷◌, length, map, sym, subst}
use Rattle.std.specs.List.{AllByRecursion, IsDistinct}
use Rattle.std.specs.Str.{bytes_eq}
use Rattle.hp_base.specs.declared.value.Value.{Value}
use Rattle.hp_obc.specs.Form.{TypesForm}
use Rattle.hp_obc.specs.Machines.{ObcType}
use Rattle.hp_tree.specs.declared.program.Item.{Item}
use Rattle.hp_tree.specs.declared.program.Item.TheVariants.{TypeItem, NodeItem}
use Rattle.hp_tree.specs.Programs.{TypeDecl}
use Rattle.hp_tree.specs.Instant.{Place}
use Rattle.hp_flat.specs.declared.node.Variable.{Variable}
use Rattle.hp_flat.specs.Equations.{FlatEqn}
use Rattle.hp_flat.specs.Nodes.{FlatNode}
use Rattle.law_equations.specs.Flattened.Lifted.{in_body}
use Rattle.law_equations.specs.Followed.Premises.{IsOwn, names}
use Rattle.law_equations.specs.Followed.Programs.{CallsAmong}
use Rattle.law_equations.specs.Made.Making.{Known, sketch_node}
use Rattle.law_equations.specs.Made.Standing.{Knows}
use Rattle.hp_complete.specs.Laws.{StandsLaw}
use Rattle.hp_complete.specs.Made.{AreMadeOf}
use Rattle.hp_complete.specs.Ordering.{unplaced}
use Rattle.hp_complete.specs.Signatures.{AreFlat}
use Rattle.hp_complete.proofs.MadeNodes.{range-within}
use Rattle.hp_form.specs.Regular.Regular.{IsRegular, RegularLaw}
use Rattle.law_equations.specs.Fewer.Compiling.{AreFlatNodes}
use Rattle.law_equations.specs.Fitting.Fitting.{CallsLaw, NamesLaw, TargetsLaw}
use Rattle.law_wellmade.specs.Suited.Suited.{HasFew, AreAsked, SuitedLaw, ProgramLaw}

-- ---- what holds of equations whatever their places are

module _ (P : FlatEqn → Type 0) (lifted : (e : FlatEqn) → P e → P (unplaced e)) (lowered : (e : FlatEqn) → P (unplaced e) → P e) where
  each_lifted : (es : List FlatEqn) → AllByRecursion P es → AllByRecursion P (map unplaced es)
  each_lifted [] h = tt
  each_lifted (e ∷ es) h = (lifted e h.0, each_lifted es h.1)

  each_lowered : (es : List FlatEqn) → AllByRecursion P (map unplaced es) → AllByRecursion P es
  each_lowered [] h = tt
  each_lowered (e ∷ es) h = (lowered e h.0, each_lowered es h.1)

  each_placed : (es fs : List FlatEqn) → map unplaced es ≡ map unplaced fs → AllByRecursion P fs → AllByRecursion P es
  each_placed es fs same h = each_lowered es (subst (AllByRecursion P) (sym same) (each_lifted fs h))

-- ---- nodes

pub suited : NamesLaw → TargetsLaw → CallsLaw → StandsLaw → RegularLaw → SuitedLaw
suited names_law targets_law calls_law stands_law regular_law types kinds outputs k fill earlier n f knows form asked made range few regular =
    let stand = stands_law types outputs k fill n f knows asked.ready made in
    let numbers = stand.equations in
    let own = names_law k n asked.named (subst (λ (vs : List Variable). length vs ≤ 2 ^ 64) made.variables few) in
    let eqns = regular_law kinds f form regular in
    record {
      form = record {
        within = range-within f range;
        no_inputs = numbers.no_inputs;
        ranked = made.ranked;
        eqns = eqns.0;
        copies = eqns.1;
        names_differ = subst (λ (vs : List Variable). IsDistinct bytes_eq (names vs)) (sym made.variables) own.0;
        names_own = subst (λ (vs : List Variable). AllByRecursion IsOwn (names vs)) (sym made.variables) own.1;
        few = regular.few;
      };
      targets = each_placed (λ (e : FlatEqn). IsDistinct nat_eq e.targets) (λ e h. h) (λ e h. h) f.eqns (sketch_node k n).eqns made.eqns (targets_law k n);
      calls = each_placed (λ (e : FlatEqn). CallsAmong earlier e.right) (λ e h. h) (λ e h. h) f.eqns (sketch_node k n).eqns made.eqns (calls_law k earlier n in_body asked.calls);
    }

-- ---- programs

module _ (law : SuitedLaw) (types : List TypeDecl) (kinds : List ObcType) (outputs : List ℕ → List (List ℕ)) (k : Known) (fills : List ℕ → Place → Value) (knows : Knows types outputs k) (form : TypesForm kinds) where
  in_order : (earlier : List (List ℕ)) (items : List Item) (fs : List FlatNode) → AreAsked k fills earlier items → AreMadeOf k items fs → AreFlat k.types items fs → AllByRecursion HasFew fs
      → AllByRecursion (IsRegular kinds) fs → AreFlatNodes kinds earlier fs
  in_order earlier [] [] a m s w r = tt
  in_order earlier [] (f ∷ fs) a m s w r = absurd m
  in_order earlier (TypeItem t ∷ items) fs a m s w r = in_order earlier items fs a m s w r
  in_order earlier (NodeItem n ∷ items) [] a m s w r = absurd m
  in_order earlier (NodeItem n ∷ items) (f ∷ fs) a m s w r =
      let flat = s.0 in
      let made = m.0 in
      let p = law types kinds outputs k (fills n.name) earlier n f knows form a.0 made flat.in_range w.0 r.0 in
      (p.form, p.calls, in_order (f.name ∷ earlier) items fs (subst (λ name. AreAsked k fills (name ∷ earlier) items) (sym made.name) a.1) m.1 s.1 w.1 r.1)

pub program : SuitedLaw → ProgramLaw
program law types kinds outputs k fills items fs knows form asked made flat few regular = in_order law types kinds outputs k fills knows form [] items fs asked made flat few regular
