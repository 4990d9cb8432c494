-- At no instant do two clocked equations that are there define one variable.
use Rattle.std.proofs.Common.{◌≡◌, ◌⊎◌, inl, inr, ℕ, Bool, true, false, nat_eq, ◌&&◌, List, [], ◌∷◌, reverse, refl, sym, subst, arith}
use Rattle.std.specs.List.{AllByRecursion}
use Rattle.std.proofs.lemmas.Bool.Decides.{nat_tests}
use Rattle.std.proofs.lemmas.List.{reverse-reverse}
use Rattle.hp_base.specs.declared.value.Value.{Value}
use Rattle.hp_base.specs.declared.value.Value.TheVariants.{Absent, Nil, B, E, I, Star}
use Rattle.hp_tree.specs.declared.program.Item.{Item}
use Rattle.hp_tree.specs.declared.program.Item.TheVariants.{TypeItem, NodeItem}
use Rattle.hp_tree.specs.Programs.{TypeDecl, Node}
use Rattle.law_judged.specs.Typed.Scopes.{Scope}
use Rattle.law_judged.specs.Named.Scoped.{EachNode}
use Rattle.law_values.specs.Valued.Values.{scope_behind}
use Rattle.law_automata.proofs.LowerableLemmas.Texts.{each_reverse}
use Rattle.hp_flat.specs.Equations.{Clock, FlatEqn}
use Rattle.hp_flat.specs.Nodes.{FlatNode}
use Rattle.law_equations.specs.Meaning.Instants.{Instant, has_constructor, holds}
use Rattle.law_equations.specs.Meaning.Reactions.{has}
use Rattle.law_equations.specs.Meaning.Solving.{NoOther, IsExclusive}
use Rattle.law_equations.specs.Made.Making.{Known, sketch_node}
use Rattle.law_equations.specs.Made.Blocks.{IsPlain}
use Rattle.law_equations.specs.Made.Standing.{Knows}
use Rattle.hp_complete.specs.Made.{AreMadeOf}
use Rattle.law_wellmade.specs.Timely.Tested.{ConstructorsDiffer, NodeTested, AreTested}
use Rattle.law_equations.specs.Shaped.Shaped.{Part}
use Rattle.law_wellmade.proofs.PartedLemmas.Expressions.{has-first, has-more}
use Rattle.law_wellmade.proofs.PartedLemmas.Nodes.{parted-alike, node-parted}
use Rattle.law_choices.specs.Closed.Exclusive.{AreParted, Differ, ExclusiveLaw, IsAlwaysExclusive, IsParted, PartedLaw}

-- ---- clocks that part

pub both_true : (a b : Bool) → (a && b) ≡ true → (a ≡ true) × (b ≡ true)
both_true true b h = (refl, h)
both_true false b h = absurd cc

-- a value has one constructor
one_constructor : (i j : ℕ) (v : Value) → has_constructor i v ≡ true → has_constructor j v ≡ true → i ≡ j
one_constructor i j (B true) h g = grind (arith, nat_tests, h, g)
one_constructor i j (B false) h g = grind (arith, nat_tests, h, g)
one_constructor i j (E t d) h g = grind (arith, nat_tests, h, g)
one_constructor i j Absent h g = absurd cc
one_constructor i j Nil h g = absurd cc
one_constructor i j (I n) h g = absurd cc
one_constructor i j Star h g = absurd cc

-- where clocks part, one of them does not hold
not_both : (b c : Clock) (now : Instant) → Part b c → holds b now ≡ true → holds c now ≡ true → ⊥
not_both [] c now p h g = p
not_both (s ∷ b) [] now p h g = p
not_both (s ∷ b) (t ∷ c) now p h g =
    let first = both_true (has_constructor s.1 (now s.0)) (holds b now) h in
    let second = both_true (has_constructor t.1 (now t.0)) (holds c now) g in
    by p.1 (one_constructor s.1 t.1 (now s.0) first.0 (subst (λ x. has_constructor t.1 (now x) ≡ true) (sym p.0) second.0)) (λ q. not_both b c now q first.1 second.1)
  where
    by : (nat_eq s.1 t.1 ≡ false) ⊎ ((s.1 ≡ t.1) × Part b c) → s.1 ≡ t.1 → (Part b c → ⊥) → ⊥
    by (inl n) e f = grind (arith, nat_tests, n, e)
    by (inr q) e f = f q.1

-- ---- equations

pub each_has : (P : ℕ → Type 0) (xs : List ℕ) → ((x : ℕ) → has xs x ≡ true → P x) → AllByRecursion P xs
each_has P [] f = tt
each_has P (x ∷ xs) f = (f x (has-first x xs), each_has P xs (λ y h. f y (has-more x y xs h)))

module _ (now : Instant) where
  no_other : (e : FlatEqn) (es : List FlatEqn) → AllByRecursion (Differ e) es → holds e.clock now ≡ true → NoOther now e es
  no_other e [] p h = tt
  no_other e (d ∷ es) p h = ((λ g. each_has (λ x. has d.targets x ≡ false) e.targets (λ x t. by x t (has d.targets x) refl g)), no_other e es p.1 h)
    where
      by : (x : ℕ) → has e.targets x ≡ true → (b : Bool) → has d.targets x ≡ b → holds d.clock now ≡ true → b ≡ false
      by x t true q g = absurd (not_both e.clock d.clock now (p.0 x t q) h g)
      by x t false q g = refl

  pub is_exclusive : (es : List FlatEqn) → AreParted es → IsExclusive now es
  is_exclusive [] p = tt
  is_exclusive (e ∷ es) p = (no_other e es p.0, is_exclusive es p.1)

-- ---- programs

-- the tests of a node are typed in some scope
abbrev HasTested : List TypeDecl → Node → Type 0
HasTested types n = (s : Scope) × NodeTested types s n

each_tested : (types : List TypeDecl) (items : List Item) → AreTested types items → EachNode (HasTested types) items
each_tested types [] h = tt
each_tested types (TypeItem t ∷ items) h = each_tested types items h
each_tested types (NodeItem n ∷ items) h = ((scope_behind items, h.0), each_tested types items h.1)

module _ (types : List TypeDecl) (outputs : List ℕ → List (List ℕ)) (k : Known) (knows : Knows types outputs k) (differ : ConstructorsDiffer types) where
  all_parted : (program : List Item) (fs : List FlatNode) → EachNode (λ (n : Node). IsPlain n.body) program → EachNode (HasTested types) program → AreMadeOf k program fs → AllByRecursion IsParted fs
  all_parted [] [] p h made = tt
  all_parted [] (f ∷ fs) p h made = absurd made
  all_parted (TypeItem t ∷ items) fs p h made = all_parted items fs p h made
  all_parted (NodeItem n ∷ items) [] p h made = absurd made
  all_parted (NodeItem n ∷ items) (f ∷ fs) p h made = (
    parted-alike (sketch_node k n).eqns f.eqns made.0.eqns (node-parted types differ outputs k knows h.0.0 n p.0 h.0.1),
    all_parted items fs p.1 h.1 made.1,
  )

pub parted_law : PartedLaw
parted_law types outputs k program fs knows differ plain tested made =
    all_parted types outputs k knows differ program fs plain
    (subst (λ xs. EachNode (HasTested types) xs) (reverse-reverse program) (each_reverse (HasTested types) (reverse program) (each_tested types (reverse program) tested))) made

each_exclusive : (fs : List FlatNode) → AllByRecursion IsParted fs → AllByRecursion IsAlwaysExclusive fs
each_exclusive [] h = tt
each_exclusive (f ∷ fs) h = ((λ now. is_exclusive now f.eqns h.0), each_exclusive fs h.1)

pub exclusive_law : PartedLaw → ExclusiveLaw
exclusive_law parted types outputs k program fs knows differ plain tested made = each_exclusive fs (parted types outputs k program fs knows differ plain tested made)
