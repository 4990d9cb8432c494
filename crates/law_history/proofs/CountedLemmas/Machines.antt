-- The instances of a machine are the calls of its equations: order does not matter, and what is taken away calls nothing more.
use Rattle.std.proofs.Common.{◌≡◌, ◌≤◌, ℕ, ◌+◌, max, Bool, true, false, not, cond, Option, None, Some, List, [], ◌∷◌, ◌++◌, map, refl, sym, ap, ap₂, subst, ◌∙◌, arith}
use Rattle.std.specs.List.{All, filter, sum_by}
use Rattle.std.specs.List.Sorted.{IsPermutation}
use Rattle.std.proofs.lemmas.List.Sorted.{sum_by-IsPermutation, All-permutation}
use Rattle.std.proofs.lemmas.List.Sums.{sum_by-cons}
use Rattle.std.proofs.lemmas.List.Elements.{All-nil, All-cons, All-head, All-tail}
use Rattle.hp_flat.specs.Equations.{Right, operator, register, called, FlatEqn}
use Rattle.hp_flat.specs.Nodes.{FlatNode}
use Rattle.hp_normal.specs.Choices.{choice_of, copying, needless, simplified, choice_meanings, simple}
use Rattle.hp_normal.specs.Needing.{is_idle, needed, pruned}
use Rattle.hp_normal.specs.Normal.{normal}
use Rattle.hp_normal.specs.Retargeting.{ends, is_moved, with_targets, retargeted}
use Rattle.hp_normal.specs.Substituting.{Meanings, meanings, is_replaced, read_eqn, read_right, substituted}
use Rattle.hp_normal.proofs.ChoiceLaws.{Needless, needless-is}
use Rattle.hp_flat.specs.declared.equation.Atom.{Atom}
use Rattle.hp_flat.specs.declared.equation.Atom.TheVariants.{Variable}
use Rattle.hp_flat.specs.declared.node.Variable.{Variable as Declared}
use Rattle.hp_toobc.specs.Making.{inst_of, insts}
use Rattle.law_history.specs.Counted.Counted.{Joins, in_right, in_flat, in_instances}
use Rattle.law_history.proofs.CountedLemmas.Joining.{nothing_left, below_right}

module _ (join : ℕ → ℕ → ℕ) (joins : Joins join) (known : List ℕ → ℕ) where
  -- an equation is an instance where it calls a node
  pub instances_flat : (i : ℕ) (es : List FlatEqn) → in_instances join known (insts i es) ≡ in_flat join known es
  instances_flat i [] = refl
  instances_flat i (e ∷ es) = by e.right (instances_flat (i + 1) es)
    where
      by : (r : Right) → in_instances join known (insts (i + 1) es) ≡ in_flat join known es
          → in_instances join known (inst_of i r ++ insts (i + 1) es) ≡ join (in_right join known r) (in_flat join known es)
      by (operator op args) h = h ∙ sym (nothing_left join joins (in_flat join known es))
      by (register first next) h = h ∙ sym (nothing_left join joins (in_flat join known es))
      by (called f args) h = ap (join (known f)) h

  pub filtered : (keeps : FlatEqn → Bool) (es : List FlatEqn) → in_flat join known (filter keeps es) ≤ in_flat join known es
  filtered keeps [] = omega arith
  filtered keeps (e ∷ es) = by (keeps e) (filtered keeps es)
    where
      by : (b : Bool) → in_flat join known (filter keeps es) ≤ in_flat join known es
          → in_flat join known (cond b (e ∷ filter keeps es) (filter keeps es)) ≤ join (in_right join known e.right) (in_flat join known es)
      by true h = joins.grows (in_right join known e.right) (in_flat join known (filter keeps es)) (in_right join known e.right) (in_flat join known es) (omega arith) h
      by false h = below_right join joins (in_flat join known (filter keeps es)) (in_right join known e.right) (in_flat join known es) h

  pub mapped : (to : FlatEqn → FlatEqn) → ((e : FlatEqn) → in_right join known (to e).right ≡ in_right join known e.right) → (es : List FlatEqn) → in_flat join known (map to es) ≡ in_flat join known es
  mapped to h [] = refl
  mapped to h (e ∷ es) = ap₂ join (h e) (mapped to h es)

  read_right_counts : (s : Meanings) (r : Right) → in_right join known (read_right s r) ≡ in_right join known r
  read_right_counts s (operator op args) = refl
  read_right_counts s (register first next) = refl
  read_right_counts s (called f args) = refl

  retargeted_counts : (n : FlatNode) → in_flat join known (retargeted n).eqns ≤ in_flat join known n.eqns
  retargeted_counts n =
      let r = ends n n.eqns in
      subst (λ m. in_flat join known (retargeted n).eqns ≤ m) (mapped (with_targets r) (λ e. refl) n.eqns) (filtered (λ e. not (is_moved r e)) (map (with_targets r) n.eqns))

  substituted_counts : (n : FlatNode) → in_flat join known (substituted n).eqns ≤ in_flat join known n.eqns
  substituted_counts n =
      let s = meanings n n.eqns (λ x. Variable x) in
      subst (λ m. in_flat join known (substituted n).eqns ≤ m) (mapped (read_eqn s) (λ e. read_right_counts s e.right) n.eqns) (filtered (λ e. not (is_replaced s e)) (map (read_eqn s) n.eqns))

  -- an operator calls nothing, and neither does a copy
  copying_counts : (variables : List Declared) (s : Meanings) (e : FlatEqn) (o : Option Atom) → needless variables s (choice_of e) ≡ o → in_right join known (copying o e).right ≡ in_right join known e.right
  copying_counts variables s e None q = refl
  copying_counts variables s e (Some a) q = let is : Needless variables s e a = needless-is variables s e a q in sym (ap (in_right join known) is.right)

  simple_counts : (n : FlatNode) → in_flat join known (simple n).eqns ≡ in_flat join known n.eqns
  simple_counts n =
      let s = choice_meanings n n.eqns (λ x. Variable x) in
      mapped (simplified n.variables s) (λ e. copying_counts n.variables s e (needless n.variables s (choice_of e)) refl) n.eqns

  pruned_counts : (n : FlatNode) → in_flat join known (pruned n).eqns ≤ in_flat join known n.eqns
  pruned_counts n = filtered (λ e. not (is_idle n (needed n n.eqns) e)) n.eqns

  pub normal_counts : (n : FlatNode) → in_flat join known (normal n).eqns ≤ in_flat join known n.eqns
  normal_counts n =
      let m = retargeted (simple n) in
      let same = simple_counts n in
      let a = retargeted_counts (simple n) in
      let b = substituted_counts m in
      let c = retargeted_counts (substituted m) in
      let d = pruned_counts (retargeted (substituted m)) in
      omega (arith, same, a, b, c, d)

-- ---- in another order

pub sum_moved : (known : List ℕ → ℕ) (es fs : List FlatEqn) → IsPermutation es fs → in_flat (λ a b. a + b) known fs ≤ in_flat (λ a b. a + b) known es
sum_moved known es fs p =
    let same = summed fs ∙ sum_by-IsPermutation (λ (e : FlatEqn). in_right (λ a b. a + b) known e.right) es fs p ∙ sym (summed es) in
    omega (arith, same)
  where
    summed : (es : List FlatEqn) → in_flat (λ a b. a + b) known es ≡ sum_by (λ (e : FlatEqn). in_right (λ a b. a + b) known e.right) es
    summed [] = refl
    summed (e ∷ es) = ap (λ n. in_right (λ a b. a + b) known e.right + n) (summed es) ∙ sym (sum_by-cons (λ (e : FlatEqn). in_right (λ a b. a + b) known e.right) e es)

pub most_moved : (known : List ℕ → ℕ) (es fs : List FlatEqn) → IsPermutation es fs → in_flat max known fs ≤ in_flat max known es
most_moved known es fs p = bounded fs (in_flat max known es) (All-permutation (Below (in_flat max known es)) es fs p (each es (in_flat max known es) (omega arith)))
  where
    Below : ℕ → FlatEqn → Type 0
    Below n e = in_right max known e.right ≤ n

    each : (es : List FlatEqn) (n : ℕ) → in_flat max known es ≤ n → All (Below n) es
    each [] n h = All-nil (Below n)
    each (e ∷ es) n h = All-cons (Below n) e es (omega (arith, h)) (each es n (omega (arith, h)))

    bounded : (es : List FlatEqn) (n : ℕ) → All (Below n) es → in_flat max known es ≤ n
    bounded [] n h = omega arith
    bounded (e ∷ es) n h =
        let first = All-head (Below n) e es h in
        let rest = bounded es n (All-tail (Below n) e es h) in
        omega (arith, first, rest)
