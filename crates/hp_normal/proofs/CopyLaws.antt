-- What is known of copies, and of functions that are changed at a number.
use Rattle.std.proofs.Common.{◌≡◌, ◌⊎◌, ℕ, ◌+◌, ◌≤◌, nat_eq, Bool, true, false, ◌&&◌, not, nat_lt, if◌then◌else◌, List, [], ◌∷◌, ◌++◌, Option, None, Some, inl, inr, refl, sym, ap, ◌∙◌, subst, arith}
use Rattle.std.specs.List.{flat_map}
use Rattle.std.proofs.lemmas.Bool.{eqb-true, eq-eqb}
use Rattle.hp_obc.specs.declared.command.ObcOp.TheVariants.{Copy}
use Rattle.hp_flat.specs.declared.equation.Atom.{Atom}
use Rattle.hp_flat.specs.declared.equation.Atom.TheVariants.{Variable, Value}
use Rattle.hp_flat.specs.Equations.{Clock, Right, operator, register, called, FlatEqn}
use Rattle.hp_flat.specs.Nodes.{FlatNode}
use Rattle.hp_normal.specs.Reading.{count, atom_variables, clock_variables, operands, eqn_reads, only, copied, both, copy_of, occurs, uses, targets}
use Rattle.hp_normal.specs.Retargeting.{put, is_free, free_copy, moved, same_clock, clock_of}
use Rattle.hp_normal.specs.Following.{defined, IsUndefined, CopiesAreBehind, needs, eqn_needs, AreBehind}
use Rattle.hp_normal.proofs.DefinerLaws.{count-append}
use Rattle.hp_normal.proofs.TableLaws.{first_true, second_true, occurs-often}

-- ---- changed functions

pub put-same : {A : Type 0} (y : ℕ) (a : A) (f : ℕ → A) → put y a f y ≡ a
put-same y a f = ap (λ b. if b then a else f y) (eq-eqb y y refl)

put_at : {A : Type 0} (y z : ℕ) (a : A) (f : ℕ → A) (same : Bool) → nat_eq y z ≡ same → (y ≡ z → ⊥) → put y a f z ≡ f z
put_at y z a f true e h = absurd (h (eqb-true y z e))
put_at y z a f false e h = ap (λ b. if b then a else f z) e

pub put-other : {A : Type 0} (y z : ℕ) (a : A) (f : ℕ → A) → (y ≡ z → ⊥) → put y a f z ≡ f z
put-other y z a f h = put_at y z a f (nat_eq y z) refl h

same_or : (y z : ℕ) (same : Bool) → nat_eq y z ≡ same → (y ≡ z) ⊎ (y ≡ z → ⊥)
same_or y z true e = inl (eqb-true y z e)
same_or y z false e = inr (λ q. absurd (cc (eq-eqb y z q)))

pub same-or : (y z : ℕ) → (y ≡ z) ⊎ (y ≡ z → ⊥)
same-or y z = same_or y z (nat_eq y z) refl

-- ---- counts

pub differ : (y z : ℕ) (xs : List ℕ) → count y xs ≡ 0 → 1 ≤ count z xs → y ≡ z → ⊥
differ y z xs h k e = absurd (omega (arith, h, k, ap (λ x. count x xs) e))

pub count-one : (x : ℕ) (xs : List ℕ) → 1 ≤ count x (x ∷ xs)
count-one x xs = omega (arith, ap (λ b. (if b then 1 else 0) + count x xs) (eq-eqb x x refl))

pub left-more : (x : ℕ) (xs ys : List ℕ) → count x xs ≤ count x (xs ++ ys)
left-more x xs ys = omega (arith, count-append x xs ys)

pub right-more : (x : ℕ) (xs ys : List ℕ) → count x ys ≤ count x (xs ++ ys)
right-more x xs ys = omega (arith, count-append x xs ys)

-- ---- copies

only_is : {A : Type 0} (xs : List A) (x : A) → only xs ≡ Some x → xs ≡ x ∷ []
only_is [] x e = absurd cc
only_is (y ∷ []) x e = cc
only_is (y ∷ z ∷ ys) x e = absurd cc

both_first : {A B : Type 0} (p : Option A) (q : Option B) (x : A) (a : B) → both p q ≡ Some (x, a) → p ≡ Some x
both_first {A} {B} None q x a e = absurd cc
both_first {A} {B} (Some y) None x a e = absurd cc
both_first {A} {B} (Some y) (Some b) x a e = let pair : ◌≡◌ {A = A × B} (y, b) (x, a) = cc in ap (λ (p : A × B). Some p.0) pair

both_second : {A B : Type 0} (p : Option A) (q : Option B) (x : A) (a : B) → both p q ≡ Some (x, a) → q ≡ Some a
both_second {A} {B} None q x a e = absurd cc
both_second {A} {B} (Some y) None x a e = absurd cc
both_second {A} {B} (Some y) (Some b) x a e = let pair : ◌≡◌ {A = A × B} (y, b) (x, a) = cc in ap (λ (p : A × B). Some p.1) pair

pub copy-target : (e : FlatEqn) (x : ℕ) (a : Atom) → copy_of e ≡ Some (x, a) → e.targets ≡ x ∷ []
copy-target e x a h = only_is e.targets x (both_first (only e.targets) (copied e.right) x a h)

copied_reads : (right : Right) (y : ℕ) → copied right ≡ Some (Variable y) → 1 ≤ count y (operands right)
copied_reads (operator Copy args) y e = subst (λ xs. 1 ≤ count y (flat_map atom_variables xs)) (sym (only_is args (Variable y) e)) (count-one y [])
copied_reads (operator op args) y e = absurd cc
copied_reads (register first next) y e = absurd cc
copied_reads (called f args) y e = absurd cc

pub copy-reads : (e : FlatEqn) (x y : ℕ) → copy_of e ≡ Some (x, Variable y) → 1 ≤ count y (eqn_reads e)
copy-reads e x y h =
    let operand = copied_reads e.right y (both_second (only e.targets) (copied e.right) x (Variable y) h) in
    omega (arith, operand, left-more y (operands e.right) e.restart, right-more y (clock_variables e.clock) (operands e.right ++ e.restart))

pub copy-defines : (e : FlatEqn) (x : ℕ) (a : Atom) → copy_of e ≡ Some (x, a) → 1 ≤ count x e.targets
copy-defines e x a h = subst (λ xs. 1 ≤ count x xs) (sym (copy-target e x a h)) (count-one x [])

-- ---- copies that can go

abbrev choice : Bool → ℕ → ℕ → Option (ℕ × ℕ)
choice free v w = if free then Some (v, w) else None

free_is : (x y v w : ℕ) (free : Bool) → choice free v w ≡ Some (x, y) → (free ≡ true) × ((v ≡ x) × (w ≡ y))
free_is x y v w true e =
    let pair : ◌≡◌ {A = ℕ × ℕ} (v, w) (x, y) = cc in
    (refl, (ap (λ (p : ℕ × ℕ). p.0) pair, ap (λ (p : ℕ × ℕ). p.1) pair))
free_is x y v w false e = absurd cc

free_copy_is : (n : FlatNode) (clock : Clock) (copy : Option (ℕ × Atom)) (x y : ℕ) → free_copy n clock copy ≡ Some (x, y) → (copy ≡ Some (x, Variable y)) × (is_free n clock y ≡ true)
free_copy_is n clock None x y e = absurd cc
free_copy_is n clock (Some (v, Value a)) x y e = absurd cc
free_copy_is n clock (Some (v, Variable w)) x y e =
    let parts = free_is x y v w (is_free n clock w) e in
    ((λ j. Some (parts.1.0 j, Variable (parts.1.1 j))), sym (ap (is_free n clock) parts.1.1) ∙ parts.0)

pub moved-copy : (n : FlatNode) (e : FlatEqn) (x y : ℕ) → moved n e ≡ Some (x, y) → copy_of e ≡ Some (x, Variable y)
moved-copy n e x y h = (free_copy_is n e.clock (copy_of e) x y h).0

pub moved-once : (n : FlatNode) (e : FlatEqn) (x y : ℕ) → moved n e ≡ Some (x, y) → count y (uses n) ≡ 1
moved-once n e x y h =
    let free = (free_copy_is n e.clock (copy_of e) x y h).1 in
    let a = not (nat_lt y n.inputs) in
    let b = occurs n 1 (targets n) y in
    let c = occurs n 1 (uses n) y in
    let d = same_clock (clock_of n.eqns y) e.clock in
    occurs-often n 1 (uses n) y (second_true (a && b) c (first_true ((a && b) && c) d free))

-- ---- copies stand behind what they copy

copied_needs : (right : Right) (y : ℕ) → copied right ≡ Some (Variable y) → 1 ≤ count y (needs right)
copied_needs (operator Copy args) y e = subst (λ xs. 1 ≤ count y (flat_map atom_variables xs)) (sym (only_is args (Variable y) e)) (count-one y [])
copied_needs (operator op args) y e = absurd cc
copied_needs (register first next) y e = absurd cc
copied_needs (called f args) y e = absurd cc

pub copy-needs : (e : FlatEqn) (x y : ℕ) → copy_of e ≡ Some (x, Variable y) → 1 ≤ count y (eqn_needs e)
copy-needs e x y h =
    let operand = copied_needs e.right y (both_second (only e.targets) (copied e.right) x (Variable y) h) in
    omega (arith, operand, left-more y (needs e.right) e.restart, right-more y (clock_variables e.clock) (needs e.right ++ e.restart))

undefined : (e : FlatEqn) (es : List FlatEqn) (c : Option (ℕ × Atom)) → copy_of e ≡ c → ((x : ℕ) → 1 ≤ count x (eqn_needs e) → count x (defined (e ∷ es)) ≡ 0) → IsUndefined (e ∷ es) c
undefined e es None q h = tt
undefined e es (Some (x, Value v)) q h = tt
undefined e es (Some (x, Variable y)) q h = h y (copy-needs e x y q)

pub copies-behind : (es : List FlatEqn) → AreBehind es → CopiesAreBehind es
copies-behind [] h = tt
copies-behind (e ∷ es) h = (undefined e es (copy_of e) refl h.0, copies-behind es h.1)
