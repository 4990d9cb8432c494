-- The order of equations is kept.
use Rattle.std.proofs.Common.{◌≡◌, ℕ, zero, suc, get_or, Bool, not, map, List, [], ◌∷◌, refl, arith}
use Rattle.std.specs.List.{filter}
use Rattle.std.proofs.lemmas.List.{length-map}
use Rattle.std.proofs.lemmas.List.Kept.{IsNonDecreasingBy-filter}
use Rattle.hp_flat.specs.declared.equation.Atom.TheVariants.{Variable}
use Rattle.hp_flat.specs.Equations.{FlatEqn}
use Rattle.hp_flat.specs.Nodes.{FlatNode}
use Rattle.hp_normal.specs.Retargeting.{with_targets, is_moved, ends, retargeted}
use Rattle.hp_normal.specs.Substituting.{read_eqn, is_replaced, meanings, substituted}
use Rattle.hp_normal.specs.Needing.{is_idle, needed, pruned}
use Rattle.hp_normal.specs.Normal.{InOrder}

module _ (f : FlatEqn → FlatEqn) (same : (e : FlatEqn) → (f e).at ≡ e.at) where
  at_mapped : (es : List FlatEqn) (k : ℕ) (d : FlatEqn) → (get_or (map f es) k d).at ≡ (get_or es k d).at
  at_mapped [] k d = refl
  at_mapped (e ∷ es) zero d = same e
  at_mapped (e ∷ es) (suc k) d = at_mapped es k d

  pub mapped : (es : List FlatEqn) → InOrder es → InOrder (map f es)
  mapped es h i j d p q = omega (arith, at_mapped es i d, at_mapped es j d, h i j d p (omega (arith, q, length-map es f)))

  kept : (p : FlatEqn → Bool) (es : List FlatEqn) → InOrder es → InOrder (filter p (map f es))
  kept p es h = IsNonDecreasingBy-filter (λ (e : FlatEqn). e.at) p (map f es) (mapped es h)

pub retargeted_in_order : (n : FlatNode) → InOrder n.eqns → InOrder (retargeted n).eqns
retargeted_in_order n h = kept (with_targets (ends n n.eqns)) (λ e. refl) (λ e. not (is_moved (ends n n.eqns) e)) n.eqns h

pub substituted_in_order : (n : FlatNode) → InOrder n.eqns → InOrder (substituted n).eqns
substituted_in_order n h =
    kept (read_eqn (meanings n n.eqns (λ x. Variable x))) (λ e. refl) (λ e. not (is_replaced (meanings n n.eqns (λ x. Variable x)) e)) n.eqns h

pub pruned_in_order : (n : FlatNode) → InOrder n.eqns → InOrder (pruned n).eqns
pruned_in_order n h = IsNonDecreasingBy-filter (λ (e : FlatEqn). e.at) (λ e. not (is_idle n (needed n n.eqns) e)) n.eqns h
