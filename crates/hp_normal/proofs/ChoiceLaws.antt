-- Choices between one variable and itself.
use Rattle.std.proofs.Common.{◌≡◌, ℕ, ◌+◌, ◌<◌, ◌≤◌, get_or, length, drop, Bool, true, false, ◌&&◌, if◌then◌else◌, map, List, [], ◌∷◌, ◌++◌, Option, None, Some, refl, sym, ap, ◌∙◌, subst, arith}
use Rattle.std.proofs.lemmas.List.{append_assoc, append-nil}
use Rattle.hp_obc.specs.declared.command.ObcOp.TheVariants.{Mux}
use Rattle.hp_flat.specs.declared.equation.Atom.{Atom}
use Rattle.hp_flat.specs.declared.equation.Atom.TheVariants.{Variable as Read}
use Rattle.hp_flat.specs.declared.node.Variable.{Variable}
use Rattle.hp_flat.specs.Equations.{Right, operator, register, called, FlatEqn}
use Rattle.hp_flat.specs.Nodes.{FlatNode}
use Rattle.hp_normal.specs.Reading.{count, atom_variables, clock_variables, only, both}
use Rattle.hp_normal.specs.Substituting.{Meanings, read}
use Rattle.hp_normal.specs.Choices.{sides, choice, choice_of, are_one, has_type, restart_of, needless, copying, simplified, choice_meanings, simple}
use Rattle.hp_normal.specs.Following.{defined, needs, eqn_needs, AreBehind}
use Rattle.hp_normal.specs.Normal.{InOrder}
use Rattle.hp_normal.proofs.CopyLaws.{left-more}
use Rattle.hp_normal.proofs.DefinerLaws.{count-append}
use Rattle.hp_normal.proofs.Lists.{drop-next, drop-end}
use Rattle.hp_normal.proofs.OrderLaws.{mapped}

-- ---- walks

module _ (n : FlatNode) (es : List FlatEqn) (i : ℕ) where
  pub choices-next : (e : FlatEqn) (before after all : Meanings) → i < length es → e ≡ get_or es i e → after ≡ choice_meanings n (e ∷ []) before
      → choice_meanings n (drop i es) before ≡ all → choice_meanings n (drop (i + 1) es) after ≡ all
  choices-next e before after all h p step known = ap (choice_meanings n (drop (i + 1) es)) step ∙ sym (ap (λ ds. choice_meanings n ds before) (drop-next es i e h p)) ∙ known

  pub choices-end : (before all : Meanings) → length es ≤ i → choice_meanings n (drop i es) before ≡ all → before ≡ all
  choices-end before all h known = sym (ap (λ ds. choice_meanings n ds before) (drop-end es i h)) ∙ known

module _ (variables : List Variable) (s : Meanings) where
  pub simplified-next : (made new : List FlatEqn) (e d : FlatEqn) (rest all : List FlatEqn) → made ++ map (simplified variables s) (e ∷ rest) ≡ all → d ≡ simplified variables s e → new ≡ made ++ d ∷ []
      → new ++ map (simplified variables s) rest ≡ all
  simplified-next made new e d rest all known is step =
      ap (λ xs. xs ++ map (simplified variables s) rest) step
      ∙ append_assoc made (d ∷ []) (map (simplified variables s) rest)
      ∙ ap (λ x. made ++ x ∷ map (simplified variables s) rest) is
      ∙ known

  pub simplified-end : (made rest all : List FlatEqn) → length rest ≡ 0 → made ++ map (simplified variables s) rest ≡ all → made ≡ all
  simplified-end made [] all e known = sym (append-nil made) ∙ known
  simplified-end made (d ∷ rest) all e known = absurd cc

-- ---- what a choice is that copies

-- an equation gives one variable a choice between one variable and itself
pub record Needless (variables : List Variable) (s : Meanings) (e : FlatEqn) (a : Atom) : Type 0 where
  pub target : ℕ
  pub test : Atom
  pub other : Atom
  pub targets : e.targets ≡ target ∷ []
  pub right : e.right ≡ operator Mux (test ∷ a ∷ other ∷ [])
  pub one : are_one (read s a) (read s other) ≡ true
  pub typed : has_type variables target a ≡ true

first_true : (a b : Bool) → (a && b) ≡ true → a ≡ true
first_true true b e = refl
first_true false b e = absurd cc

second_true : (a b : Bool) → (a && b) ≡ true → b ≡ true
second_true true b e = e
second_true false b e = absurd cc

module _ (variables : List Variable) (s : Meanings) (e : FlatEqn) (a : Atom) where
  by_test : (x : ℕ) (c p q : Atom) → e.targets ≡ x ∷ [] → e.right ≡ operator Mux (c ∷ p ∷ q ∷ []) → (t : Bool) → (are_one (read s p) (read s q) && has_type variables x p) ≡ t
      → (if t then Some p else None) ≡ Some a → Needless variables s e a
  by_test x c p q ts r false k h = absurd cc
  by_test x c p q ts r true k h =
      let same : p ≡ a = cc in
      record {
        target = x;
        test = c;
        other = q;
        targets = ts;
        right = r ∙ ap (λ z. operator Mux (c ∷ z ∷ q ∷ [])) same;
        one = subst (λ z. are_one (read s z) (read s q) ≡ true) same (first_true (are_one (read s p) (read s q)) (has_type variables x p) k);
        typed = subst (λ z. has_type variables x z ≡ true) same (second_true (are_one (read s p) (read s q)) (has_type variables x p) k);
      }

  by_args : (x : ℕ) → e.targets ≡ x ∷ [] → (args : List Atom) → e.right ≡ operator Mux args → needless variables s (both (Some x) (sides args)) ≡ Some a → Needless variables s e a
  by_args x ts [] r h = absurd cc
  by_args x ts (c ∷ []) r h = absurd cc
  by_args x ts (c ∷ p ∷ []) r h = absurd cc
  by_args x ts (c ∷ p ∷ q ∷ []) r h = by_test x c p q ts r (are_one (read s p) (read s q) && has_type variables x p) refl h
  by_args x ts (c ∷ p ∷ q ∷ u ∷ args) r h = absurd cc

  no_choice : (o : Option ℕ) → needless variables s (both {B = Atom × Atom} o None) ≡ Some a → ⊥
  no_choice None h = absurd cc
  no_choice (Some x) h = absurd cc

  by_right : (x : ℕ) → e.targets ≡ x ∷ [] → (r : Right) → e.right ≡ r → needless variables s (both (Some x) (choice r)) ≡ Some a → Needless variables s e a
  by_right x ts (operator Mux args) q h = by_args x ts args q h
  by_right x ts (operator op args) q h = absurd (no_choice (Some x) h)
  by_right x ts (register first next) q h = absurd (no_choice (Some x) h)
  by_right x ts (called f args) q h = absurd (no_choice (Some x) h)

  by_targets : (ts : List ℕ) → e.targets ≡ ts → needless variables s (both (only ts) (choice e.right)) ≡ Some a → Needless variables s e a
  by_targets [] q h = absurd cc
  by_targets (x ∷ []) q h = by_right x q e.right refl h
  by_targets (x ∷ y ∷ ts) q h = absurd cc

  pub needless-is : needless variables s (choice_of e) ≡ Some a → Needless variables s e a
  needless-is h = by_targets e.targets refl h

-- ---- what stays

module _ (e : FlatEqn) where
  pub copying-targets : (o : Option Atom) → (copying o e).targets ≡ e.targets
  copying-targets None = refl
  copying-targets (Some a) = refl

  pub copying-clock : (o : Option Atom) → (copying o e).clock ≡ e.clock
  copying-clock None = refl
  copying-clock (Some a) = refl

  pub copying-restart : (o : Option Atom) → (copying o e).restart ≡ e.restart
  copying-restart None = refl
  copying-restart (Some a) = refl

  pub copying-at : (o : Option Atom) → (copying o e).at ≡ e.at
  copying-at None = refl
  copying-at (Some a) = refl

-- ---- order

module _ (variables : List Variable) (s : Meanings) where
  abbrev w : FlatEqn → FlatEqn
  w = simplified variables s

  same_defined : (es : List FlatEqn) → defined (map w es) ≡ defined es
  same_defined [] = refl
  same_defined (e ∷ es) = λ i. copying-targets e (needless variables s (choice_of e)) i ++ same_defined es i

  fewer_restarts : (r : Right) (xs : List ℕ) (x : ℕ) → count x (restart_of r xs) ≤ count x xs
  fewer_restarts (operator op args) xs x = omega arith
  fewer_restarts (register first next) xs x = omega arith
  fewer_restarts (called f args) xs x = omega arith

  fewer_operands : (e : FlatEqn) (x : ℕ) (o : Option Atom) → needless variables s (choice_of e) ≡ o → count x (needs (copying o e).right) ≤ count x (needs e.right)
  fewer_operands e x None q = omega arith
  fewer_operands e x (Some a) q =
      let is : Needless variables s e a = needless-is variables s e a q in
      let copied : count x (atom_variables a ++ []) ≡ count x (atom_variables a) + 0 = count-append x (atom_variables a) [] in
      let one = count-append x (atom_variables is.test) (atom_variables a ++ (atom_variables is.other ++ [])) in
      let two = left-more x (atom_variables a) (atom_variables is.other ++ []) in
      let there : count x (needs e.right) ≡ count x (atom_variables is.test ++ (atom_variables a ++ (atom_variables is.other ++ []))) = ap (λ r. count x (needs r)) is.right in
      omega (arith, copied, one, two, there)

  fewer_needs : (e : FlatEqn) (x : ℕ) → count x (eqn_needs (w e)) ≤ count x (eqn_needs e)
  fewer_needs e x =
      let o = needless variables s (choice_of e) in
      let d : FlatEqn = copying o e in
      let clock : count x (clock_variables d.clock) ≡ count x (clock_variables e.clock) = ap (λ k. count x (clock_variables k)) (copying-clock e o) in
      let restart : count x d.restart ≡ count x e.restart = ap (count x) (copying-restart e o) in
      let begins = fewer_restarts d.right d.restart x in
      let right = fewer_operands e x o refl in
      let before = count-append x (clock_variables d.clock) (needs d.right ++ restart_of d.right d.restart) in
      let after = count-append x (clock_variables e.clock) (needs e.right ++ e.restart) in
      let first = count-append x (needs d.right) (restart_of d.right d.restart) in
      let second = count-append x (needs e.right) e.restart in
      omega (arith, clock, restart, begins, right, before, after, first, second)

  simplified_behind : (es : List FlatEqn) → AreBehind es → AreBehind (map w es)
  simplified_behind [] h = tt
  simplified_behind (e ∷ es) h = (
    λ x c. (
        let fewer = fewer_needs e x in
        ap (count x) (same_defined (e ∷ es)) ∙ h.0 x (omega (arith, c, fewer))
        ),
    simplified_behind es h.1,
  )

pub simple_step : (n : FlatNode) → AreBehind n.eqns → AreBehind (simple n).eqns
simple_step n behind = simplified_behind n.variables (choice_meanings n n.eqns (λ x. Read x)) n.eqns behind

pub simple_in_order : (n : FlatNode) → InOrder n.eqns → InOrder (simple n).eqns
simple_in_order n h =
    let s = choice_meanings n n.eqns (λ x. Read x) in
    mapped (simplified n.variables s) (λ e. copying-at e (needless n.variables s (choice_of e))) n.eqns h
