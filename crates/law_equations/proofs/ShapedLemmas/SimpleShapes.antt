-- A node keeps its shape where choices between one variable and itself are copies.
use Rattle.std.proofs.Common.{◌≡◌, ◌⊎◌, ◌≤◌, ℕ, nat_eq, true, map, List, [], ◌∷◌, length, Some, inl, inr, refl, sym, ap, subst, ◌∙◌, arith}
use Rattle.std.specs.List.{AllByRecursion, IsDistinct}
use Rattle.hp_base.specs.Kinds.{KindData, Bools}
use Rattle.hp_obc.specs.declared.command.ObcOp.TheVariants.{Copy}
use Rattle.hp_obc.specs.Machines.{ObcType, Machine}
use Rattle.hp_flat.specs.declared.equation.Atom.{Atom}
use Rattle.hp_flat.specs.declared.equation.Atom.TheVariants.{Variable as Named, Value as Fixed}
use Rattle.hp_flat.specs.Equations.{operator, FlatEqn}
use Rattle.hp_flat.specs.Nodes.{FlatNode}
use Rattle.law_equations.specs.Meaning.Reactions.{has}
use Rattle.law_equations.specs.Meaning.Kinding.{variable_kind, kind_of_type, Callees, RightHasKinds, EqnKinds}
use Rattle.law_equations.specs.Shaped.Shaped.{Part, AreApart, NodeShape, CallIsKnown}
use Rattle.hp_normal.specs.Choices.{choice_of, has_type, needless, simplified, choice_meanings, simple}
use Rattle.hp_normal.specs.Substituting.{Meanings}
use Rattle.hp_normal.proofs.ChoiceLaws.{copying-targets, copying-clock}
use Rattle.law_equations.specs.Fewer.Compiling.{CopyAgrees}
use Rattle.law_equations.proofs.FewerLemmas.SimpleForms.{restart_all, simple-all, simple-each, simple-within, simple-no_inputs, simple-same_length, typed}

module _ (types : List ObcType) (callees : Callees) (n : FlatNode) where
  abbrev last : Meanings
  last = choice_meanings n n.eqns (λ x. Named x)

  abbrev w : FlatEqn → FlatEqn
  w = simplified n.variables last

  abbrev kind : ℕ → KindData
  kind x = variable_kind types n.variables x

  -- ---- kinds

  -- a copy of a variable of its type has its kind
  copy_kind : (x : ℕ) (a : Atom) → has_type n.variables x a ≡ true → CopyAgrees n.variables (Some (x, a)) → RightHasKinds types callees n.variables (operator Copy (a ∷ [])) (kind x ∷ [])
  copy_kind x (Named y) t h = (kind y ∷ [], (refl, tt), kind y, refl, (λ i. kind_of_type types (h i) ∷ []))
  copy_kind x (Fixed v) t h = absurd cc

  simple_kinds : AllByRecursion (EqnKinds types callees n.variables) n.eqns → AllByRecursion (EqnKinds types callees n.variables) (simple n).eqns
  simple_kinds h =
      simple-all n (EqnKinds types callees n.variables)
      (λ e k. record { right = k.right; clock = k.clock; restart = restart_all n (λ x. variable_kind types n.variables x ≡ Bools) e.right e.restart k.restart })
      (λ e a is k. record {
        right = subst (λ ts. RightHasKinds types callees n.variables (operator Copy (a ∷ [])) (map kind ts)) (sym is.targets) (copy_kind is.target a is.typed (typed n is.target a is.typed));
        clock = k.clock;
        restart = k.restart;
      }) h

  -- ---- clocks that part

  apart_by : (d e : FlatEqn) → AreApart d e → AreApart (w d) (w e)
  apart_by d e h x f g =
      by (h x (ap (λ ts. has ts x) (sym (copying-targets d (needless n.variables last (choice_of d)))) ∙ f) (ap (λ ts. has ts x) (sym (copying-targets e (needless n.variables last (choice_of e)))) ∙ g))
    where
      by : (d ≡ e) ⊎ Part d.clock e.clock → (w d ≡ w e) ⊎ Part (w d).clock (w e).clock
      by (inl same) = inl (ap w same)
      by (inr part) =
          inr (subst (λ k. Part k (w e).clock) (sym (copying-clock d (needless n.variables last (choice_of d)))) (subst (λ k. Part d.clock k) (sym (copying-clock e (needless n.variables last (choice_of e)))) part))

  from_one : (d : FlatEqn) (es : List FlatEqn) → AllByRecursion (AreApart d) es → AllByRecursion (AreApart (w d)) (map w es)
  from_one d [] h = tt
  from_one d (e ∷ es) h = (apart_by d e h.0, from_one d es h.1)

  from_all : (ds es : List FlatEqn) → AllByRecursion (λ (d : FlatEqn). AllByRecursion (AreApart d) es) ds → AllByRecursion (λ (d : FlatEqn). AllByRecursion (AreApart d) (map w es)) (map w ds)
  from_all [] es h = tt
  from_all (d ∷ ds) es h = (from_one d es h.0, from_all ds es h.1)

  -- ---- all of it

  pub simple-shape : NodeShape types callees n → NodeShape types callees (simple n)
  simple-shape h = record {
    name = h.name;
    within = simple-within n h.within;
    no_inputs = simple-no_inputs n h.no_inputs;
    outputs_behind = h.outputs_behind;
    outputs_differ = h.outputs_differ;
    kinds = simple_kinds h.kinds;
    values = h.values;
    targets_differ = simple-each n (λ targets clock. IsDistinct nat_eq targets) h.targets_differ;
    apart = from_all n.eqns n.eqns h.apart;
    short = simple-each n (λ targets clock. length clock ≤ 300) h.short;
    names_good = h.names_good;
    names_differ = h.names_differ;
    names_own = h.names_own;
    few = omega (arith, h.few, simple-same_length n);
  }

pub simple-known : (types : List ObcType) (callees : Callees) (earlier : List Machine) (n : FlatNode) → AllByRecursion (λ (e : FlatEqn). CallIsKnown types callees earlier e.right) n.eqns
    → AllByRecursion (λ (e : FlatEqn). CallIsKnown types callees earlier e.right) (simple n).eqns
simple-known types callees earlier n h =
    simple-all n (λ (e : FlatEqn). CallIsKnown types callees earlier e.right) (λ e k. k) (λ e a is k. tt) h
