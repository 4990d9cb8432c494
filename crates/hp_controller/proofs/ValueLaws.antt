-- What is added for a value.
use Rattle.std.proofs.Common.{◌≡◌, ℕ, suc, ◌+◌, List, [], ◌∷◌, ◌++◌, ap, ap₂, ◌∙◌}
use Rattle.std.proofs.lemmas.List.{append_assoc}
use Rattle.hp_obc.specs.declared.command.ObcOp.TheVariants.{Mux}
use Rattle.hp_flat.specs.declared.equation.Atom.{Atom}
use Rattle.hp_flat.specs.declared.equation.Atom.TheVariants.{Variable as Read}
use Rattle.hp_flat.specs.declared.node.FlatTy.TheVariants.{Enum}
use Rattle.hp_flat.specs.declared.node.Variable.{Variable}
use Rattle.hp_flat.specs.Equations.{FlatEqn}
use Rattle.hp_controller.specs.Controllers.{equation, added_variable}
use Rattle.hp_controller.specs.Decoding.{Tree, tree}

-- what is added to some variables and equations is a tree
pub record IsAdded (x : Tree) (atom : Atom) (next : ℕ) (variables variables' : List Variable) (eqns eqns' : List FlatEqn) : Type 0 where
  pub atom_is : atom ≡ x.atom
  pub next_is : next ≡ x.next
  pub variables_are : variables' ≡ variables ++ x.variables
  pub eqns_are : eqns' ≡ eqns ++ x.eqns

pub value-added : (t count b w k next later even odd n1 n2 : ℕ) (high low : Atom) (v0 v1 v2 v3 : List Variable) (e0 e1 e2 e3 : List FlatEqn) (x : Variable) → later ≡ b + 1 → even ≡ k + k → odd ≡ even + 1
    → IsAdded (tree t count later w odd next) high n1 v0 v1 e0 e1 → IsAdded (tree t count later w even n1) low n2 v1 v2 e1 e2 → x ≡ added_variable n2 (Enum t) → v3 ≡ v2 ++ x ∷ [] → e3 ≡ e2 ++ equation 0 n2 Mux (Read b ∷ high ∷ low ∷ []) ∷ []
    → IsAdded (tree t count b (suc w) k next) (Read n2) (n2 + 1) v0 v3 e0 e3
value-added t count b w k next later even odd n1 n2 high low v0 v1 v2 v3 e0 e1 e2 e3 x is_later is_even is_odd upper lower is_x is_v3 is_e3 =
    let H = tree t count (b + 1) w (k + k + 1) next in
    let L = tree t count (b + 1) w (k + k) H.next in
    let hi : tree t count later w odd next ≡ H = ap₂ (λ l o. tree t count l w o next) is_later (is_odd ∙ ap (λ n. n + 1) is_even) in
    let n1_is : n1 ≡ H.next = upper.next_is ∙ ap (λ (z : Tree). z.next) hi in
    let lo : tree t count later w even n1 ≡ L = (λ i. tree t count (is_later i) w (is_even i) (n1_is i)) in
    let n2_is : n2 ≡ L.next = lower.next_is ∙ ap (λ (z : Tree). z.next) lo in
    let high_is : high ≡ H.atom = upper.atom_is ∙ ap (λ (z : Tree). z.atom) hi in
    let low_is : low ≡ L.atom = lower.atom_is ∙ ap (λ (z : Tree). z.atom) lo in
    let root : equation 0 n2 Mux (Read b ∷ high ∷ low ∷ []) ≡ equation 0 L.next Mux (Read b ∷ H.atom ∷ L.atom ∷ []) = (λ i. equation 0 (n2_is i) Mux (Read b ∷ high_is i ∷ low_is i ∷ [])) in
    record {
      atom_is = ap (λ n. Read n) n2_is;
      next_is = ap (λ n. n + 1) n2_is;
      variables_are =
          is_v3
          ∙ ap₂ (λ vs y. vs ++ y ∷ []) (lower.variables_are ∙ ap₂ (λ vs ws. vs ++ ws) (upper.variables_are ∙ ap (λ (z : Tree). v0 ++ z.variables) hi) (ap (λ (z : Tree). z.variables) lo)) (is_x ∙ ap (λ n. added_variable n (Enum t)) n2_is)
          ∙ append_assoc (v0 ++ H.variables) L.variables (added_variable L.next (Enum t) ∷ [])
          ∙ append_assoc v0 H.variables (L.variables ++ added_variable L.next (Enum t) ∷ []);
      eqns_are =
          is_e3
          ∙ ap₂ (λ es y. es ++ y ∷ []) (lower.eqns_are ∙ ap₂ (λ es ds. es ++ ds) (upper.eqns_are ∙ ap (λ (z : Tree). e0 ++ z.eqns) hi) (ap (λ (z : Tree). z.eqns) lo)) root
          ∙ append_assoc (e0 ++ H.eqns) L.eqns (equation 0 L.next Mux (Read b ∷ H.atom ∷ L.atom ∷ []) ∷ [])
          ∙ append_assoc e0 H.eqns (L.eqns ++ equation 0 L.next Mux (Read b ∷ H.atom ∷ L.atom ∷ []) ∷ []);
    }
