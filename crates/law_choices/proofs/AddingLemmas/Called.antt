-- What is said of nodes that are not called.
use Rattle.std.proofs.Common.{List, [], ◌∷◌, map, sym, subst, ◌∙◌}
use Rattle.hp_base.specs.Kinds.{KindData}
use Rattle.hp_obc.specs.Machines.{ObcType}
use Rattle.hp_flat.specs.declared.equation.Atom.{Atom}
use Rattle.hp_flat.specs.declared.equation.Atom.TheVariants.{Variable as Named, Value as Fixed}
use Rattle.hp_flat.specs.declared.node.Variable.{Variable}
use Rattle.hp_flat.specs.Equations.{Right, operator, register, called, FlatEqn}
use Rattle.law_equations.specs.Meaning.Kinding.{Callees, AtomHasKind, HaveKinds, RightHasKinds, EqnKinds, variable_kind}
use Rattle.law_choices.specs.Adding.Called.{SaysSame, CalledLaw}
use Rattle.law_choices.proofs.ClosedLemmas.ClosedLaws.{each_both}

module _ (types : List ObcType) (callees others : Callees) (vs : List Variable) where
  atom : (a : Atom) (k : KindData) → AtomHasKind types callees vs a k → AtomHasKind types others vs a k
  atom (Named x) k h = h
  atom (Fixed v) k h = h

  args_have : (args : List Atom) (ks : List KindData) → HaveKinds types callees vs args ks → HaveKinds types others vs args ks
  args_have [] [] h = tt
  args_have [] (k ∷ ks) h = absurd h
  args_have (a ∷ args) [] h = absurd h
  args_have (a ∷ args) (k ∷ ks) h = (atom a k h.0, args_have args ks h.1)

  right_has : (r : Right) (ks : List KindData) → SaysSame callees others r → RightHasKinds types callees vs r ks → RightHasKinds types others vs r ks
  right_has (operator op args) ks s h = (h.0, args_have args h.0 h.1, h.2, h.3, h.4)
  right_has (register first next) ks s h = (h.0, h.1, atom next h.0 h.2, h.3)
  right_has (called f args) ks s h = (subst (HaveKinds types others vs args) (sym s.0) (args_have args (callees.takes f) h.0), h.1 ∙ sym s.1)

  eqn_has : (e : FlatEqn) → SaysSame callees others e.right → EqnKinds types callees vs e → EqnKinds types others vs e
  eqn_has e s h = record { right = right_has e.right (map (variable_kind types vs) e.targets) s h.right; clock = h.clock; restart = h.restart }

pub called_law : CalledLaw
called_law types callees others clock n same b =
    let w = b.well in
    record {
      well = record {
        within = w.within;
        no_inputs = w.no_inputs;
        targets_differ = w.targets_differ;
        values = w.values;
        kinds = each_both (λ (e : FlatEqn). SaysSame callees others e.right) (EqnKinds types callees n.variables) (EqnKinds types others n.variables) (eqn_has types callees others n.variables) n.eqns same w.kinds;
        closed = w.closed;
        parted = w.parted;
        clocks = w.clocks;
      };
      inputs = b.inputs;
    }
