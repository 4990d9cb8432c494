-- Tables as functions.
use Rattle.std.proofs.Common.{◌≡◌, ℕ, zero, suc, ◌+◌, ◌<◌, ◌≤◌, nat_eq, get_or, length, drop, Bool, true, false, ◌&&◌, not, nat_lt, if◌then◌else◌, List, [], ◌∷◌, ◌++◌, Option, None, Some, refl, sym, ap, ◌∙◌, arith}
use Rattle.std.specs.Prelude.{IfSome}
use Rattle.std.proofs.lemmas.Bool.{eqb-true, ltb-true}
use Rattle.hp_flat.specs.declared.equation.Atom.{Atom}
use Rattle.hp_flat.specs.declared.equation.Atom.TheVariants.{Variable, Value}
use Rattle.hp_flat.specs.Equations.{Clock, FlatEqn}
use Rattle.hp_flat.specs.Nodes.{FlatNode}
use Rattle.hp_normal.specs.Reading.{count, occurs, targets, uses, copy_of}
use Rattle.hp_normal.specs.Retargeting.{is_free, free_copy, moved, after_move, ends, same_clock, clock_of}
use Rattle.hp_normal.specs.Substituting.{Meanings, standing, meanings}
use Rattle.hp_normal.proofs.Lists.{drop-next, drop-end}

-- an equation in front of others
pub ends-step : (n : FlatNode) (es : List FlatEqn) (i j : ℕ) (e : FlatEqn) (move : Option (ℕ × ℕ)) (before after : ℕ → ℕ) → j ≡ i + 1 → i < length es → e ≡ get_or es i e
    → move ≡ moved n e → after ≡ after_move move before → before ≡ ends n (drop j es) → after ≡ ends n (drop i es)
ends-step n es i j e move before after k h p is step known =
    step ∙ (λ t. after_move (is t) (known t)) ∙ ap (λ m. after_move (moved n e) (ends n (drop m es))) k ∙ sym (ap (ends n) (drop-next es i e h p))

pub ends-begin : (n : FlatNode) (es : List FlatEqn) → ends n (drop (length es) es) ≡ (λ x. x)
ends-begin n es = ap (ends n) (drop-end es (length es) (omega arith))

copy_inside : (n : FlatNode) (clock : Clock) (x y : ℕ) (free : Bool) → is_free n clock y ≡ free → (free ≡ true → y < length n.variables)
    → IfSome (if free then Some (x, y) else None) (λ (m : ℕ × ℕ). m.1 < length n.variables)
copy_inside n clock x y true e f = f refl
copy_inside n clock x y false e f = tt

pub first_true : (a b : Bool) → (a && b) ≡ true → a ≡ true
first_true true b e = refl
first_true false b e = absurd cc

pub second_true : (a b : Bool) → (a && b) ≡ true → b ≡ true
second_true true b e = e
second_true false b e = absurd cc

pub occurs-inside : (n : FlatNode) (k : ℕ) (xs : List ℕ) (x : ℕ) → occurs n k xs x ≡ true → x < length n.variables
occurs-inside n k xs x e = ltb-true x (length n.variables) (first_true (nat_lt x (length n.variables)) (nat_eq (count x xs) k) e)

pub occurs-often : (n : FlatNode) (k : ℕ) (xs : List ℕ) (x : ℕ) → occurs n k xs x ≡ true → count x xs ≡ k
occurs-often n k xs x e = eqb-true (count x xs) k (second_true (nat_lt x (length n.variables)) (nat_eq (count x xs) k) e)

free_inside : (n : FlatNode) (clock : Clock) (y : ℕ) → is_free n clock y ≡ true → y < length n.variables
free_inside n clock y e =
    let a = not (nat_lt y n.inputs) in
    let b = occurs n 1 (targets n) y in
    let c = occurs n 1 (uses n) y in
    let d = same_clock (clock_of n.eqns y) clock in
    occurs-inside n 1 (targets n) y (second_true a b (first_true (a && b) c (first_true ((a && b) && c) d e)))

move_inside : (n : FlatNode) (clock : Clock) (copy : Option (ℕ × Atom)) → IfSome (free_copy n clock copy) (λ (m : ℕ × ℕ). m.1 < length n.variables)
move_inside n clock None = tt
move_inside n clock (Some (x, Variable y)) = copy_inside n clock x y (is_free n clock y) refl (free_inside n clock y)
move_inside n clock (Some (x, Value v)) = tt

-- a variable in whose place another one is defined is one of the node's
pub moved-inside : (n : FlatNode) (e : FlatEqn) → IfSome (moved n e) (λ (m : ℕ × ℕ). m.1 < length n.variables)
moved-inside n e = move_inside n e.clock (copy_of e)

-- ---- a table that says of each number itself

pushed : {A : Type 0} (xs : List A) (y d : A) (x : ℕ) → (x ≡ length xs → y ≡ d) → get_or xs x d ≡ d → get_or (xs ++ y ∷ []) x d ≡ d
pushed [] y d zero f h = f refl
pushed [] y d (suc x) f h = refl
pushed (z ∷ xs) y d zero f h = h
pushed (z ∷ xs) y d (suc x) f h = pushed xs y d x (λ e. f (ap suc e)) h

module _ {A : Type 0} (of : ℕ → A) where
  pub itself-next : (xs ys : List A) (i : ℕ) → length xs ≡ i → ys ≡ xs ++ of i ∷ [] → ((x : ℕ) → get_or xs x (of x) ≡ of x) → (x : ℕ) → get_or ys x (of x) ≡ of x
  itself-next xs ys i h e known x = ap (λ zs. get_or zs x (of x)) e ∙ pushed xs (of i) (of x) x (λ q. ap of (sym h ∙ sym q)) (known x)

-- ---- what variables stand for

module _ (n : FlatNode) (es : List FlatEqn) (i : ℕ) where
  pub meanings-next : (e : FlatEqn) (copy : Option (ℕ × Atom)) (before after all : Meanings) → i < length es → e ≡ get_or es i e → copy ≡ copy_of e → after ≡ standing n copy before
      → meanings n (drop i es) before ≡ all → meanings n (drop (i + 1) es) after ≡ all
  meanings-next e copy before after all h p is step known =
      ap (meanings n (drop (i + 1) es)) (step ∙ ap (λ m. standing n m before) is) ∙ sym (ap (λ ds. meanings n ds before) (drop-next es i e h p)) ∙ known

  pub meanings-end : (before all : Meanings) → length es ≤ i → meanings n (drop i es) before ≡ all → before ≡ all
  meanings-end before all h known = sym (ap (λ ds. meanings n ds before) (drop-end es i h)) ∙ known
