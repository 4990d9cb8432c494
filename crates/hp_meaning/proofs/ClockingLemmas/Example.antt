-- A node with an inner block, whose clocks are solved by computing; and one that has none.
use Rattle.std.proofs.Common.{◌≡◌, ℕ, List, [], ◌∷◌, refl, sym, subst}
use Rattle.std.proofs.lemmas.Slice.Eq.{bytes_eq-Decides}
use Rattle.std.specs.Prelude.{Bool, true, false, ◌||◌, IsTrue, ⊤, None}
use Rattle.std.specs.Str.{bytes_eq}
use Rattle.hp_base.specs.declared.span.Span.{Span}
use Rattle.hp_base.specs.declared.ty.Ty.TheVariants.{Bool as BoolTy}
use Rattle.hp_base.specs.declared.ty.Const.TheVariants.{B as BoolConst}
use Rattle.hp_tree.specs.declared.decl.Cons.TheVariants.{False, True}
use Rattle.hp_tree.specs.Expressions.{Expr, constant, variable, fby, when_is, merge, no_part, more_parts}
use Rattle.hp_tree.specs.Blocks.{Decl, Block, block, Eqns, no_eqn, more_eqns, Eqn, define, switch, no_arm, more_arms}
use Rattle.hp_tree.specs.Programs.{Node}
use Rattle.hp_tree.specs.Instant.{Body, Named, Equations, Head, Tail, Arms as ArmsOf, Clock}
use Rattle.hp_meaning.specs.Clocking.Terms.{shortest, IsShortest}
use Rattle.hp_meaning.proofs.ClockingLemmas.Judging.{judges, writes}
use Rattle.hp_meaning.proofs.ClockingLemmas.Passed.{passes}
use Rattle.hp_tree.specs.Meaning.{some_defines, declares}
use Rattle.hp_meaning.specs.Causal.Clocked.{ClocksRight}
use Rattle.hp_meaning.specs.Clocking.Clocking.{Assignment, node_with_clocks, node_units, node_sights, AreClocks, IsAllowed, clocks_of_node, EachBlock, NamesRight, NodeNamed}
use Rattle.hp_meaning.specs.Clocking.Solving.{Verdict, clash, clocked, Told, NodeVerdict}

abbrev line : ℕ → Span
line n = record { line = n; col = 1; end = 2 }

abbrev local : List ℕ → Decl
local x = record { name = x; ty = BoolTy; last = None; clock = None; span = line 1 }

abbrev c : List ℕ
c = 1 ∷ []

abbrev x : List ℕ
x = 2 ∷ []

abbrev y : List ℕ
y = 3 ∷ []

abbrev z : List ℕ
z = 4 ∷ []

abbrev o : List ℕ
o = 5 ∷ []

abbrev w : List ℕ
w = 6 ∷ []

abbrev name : List ℕ → Expr
name v = variable (line 9) v

-- node f(c) returns (o) with x = c when True(c); y = x fby true; z = true; and a switch in which w = z, o = w; then o2.
abbrev inner : Block
inner = block (local w ∷ []) (more_eqns (define (line 6) ((w, line 6) ∷ []) (name z)) (more_eqns (define (line 7) ((o, line 7) ∷ []) (name w)) no_eqn))

abbrev equations : Eqn → Eqns
equations last =
    more_eqns (define (line 2) ((x, line 2) ∷ []) (when_is (line 2) (name c) True c))
    (more_eqns (define (line 3) ((y, line 3) ∷ []) (fby (line 3) (name x) (constant (line 3) (BoolConst true))))
    (more_eqns (define (line 4) ((z, line 4) ∷ []) (merge (line 4) c (more_parts False (constant (line 4) (BoolConst true)) (more_parts True (name y) no_part))))
    (more_eqns last no_eqn)))

abbrev node_of : Eqn → Node
node_of last =
    record {
      name = 9 ∷ [];
      span = line 0;
      inputs = local c ∷ [];
      outputs = local o ∷ [];
      contract = None;
      body = block (local x ∷ local y ∷ local z ∷ []) (equations last);
    }

abbrev modes : Eqn
modes = switch (line 5) (name c) (more_arms True inner (line 5) (more_arms False inner (line 8) no_arm))

-- a condition on another clock
abbrev sampled : Eqn
sampled = switch (line 5) (when_is (line 5) (name c) True c) (more_arms True inner (line 5) no_arm)

-- an equation whose name would stand below itself
abbrev itself : Eqn
itself = define (line 5) ((x, line 5) ∷ []) (when_is (line 5) (name x) True c)

abbrev clock_told_at : Verdict → List Clock
clock_told_at (clash s) = []
clock_told_at (clocked known) =
    shortest known (Body ∷ Named x ∷ []) ∷ shortest known (Body ∷ Named y ∷ []) ∷ shortest known (Body ∷ Named z ∷ [])
    ∷ shortest known (Body ∷ Equations ∷ Tail ∷ Tail ∷ Tail ∷ Head ∷ ArmsOf ∷ Head ∷ Named w ∷ []) ∷ []

solved_by_computing : clock_told_at (NodeVerdict (node_of modes)) ≡ ((True, c) ∷ []) ∷ ((True, c) ∷ []) ∷ [] ∷ [] ∷ []
solved_by_computing = refl

clash_by_computing : NodeVerdict (node_of sampled) ≡ clash (line 5)
clash_by_computing = refl

cycle_by_computing : NodeVerdict (node_of itself) ≡ clash (line 5)
cycle_by_computing = refl

-- ---- what the laws ask can be met

three : (a b c r : Bool) → IsTrue (a || (b || (c || false))) → IsTrue ((a || false) || ((b || false) || ((c || false) || r)))
three true b c r h = refl
three false true c r h = refl
three false false true r h = refl
three false false false r h = absurd (cc h)

one_of : (a r : Bool) → IsTrue (a || false) → IsTrue ((a || false) || r)
one_of true r h = refl
one_of false r h = absurd (cc h)

inner_named : EachBlock NamesRight inner
inner_named = (((refl, tt), λ v h. one_of (bytes_eq w v) (some_defines (more_eqns (define (line 7) ((o, line 7) ∷ []) (name w)) no_eqn) v) h), (tt, (tt, tt)))

first_true : (a : Bool) → IsTrue (a || false) → a ≡ true
first_true true h = refl
first_true false h = absurd (cc h)

named : NodeNamed (node_of modes)
named = (
  (
    (
      ((refl, (refl, (refl, tt)))),
      λ v h. three (bytes_eq x v) (bytes_eq y v) (bytes_eq z v) (some_defines (more_eqns modes no_eqn) v) h,
    ),
    (tt, (tt, (tt, ((inner_named, (inner_named, tt)), tt)))),
  ),
  tt,
  λ v h k. absurd (cc (subst (λ u. IsTrue (declares (local x ∷ local y ∷ local z ∷ []) u)) (sym ((bytes_eq-Decides o v).0 (first_true (bytes_eq o v) h))) k)),
)

abbrev IsClocked : Verdict → Type 0
IsClocked (clash s) = ⊥
IsClocked (clocked known) = ⊤

abbrev clocks_in : (n : Node) (v : Verdict) → Told (AreClocks (node_sights n)) (node_units n) v → IsClocked v → (at : Assignment) × IsShortest (IsAllowed n) at
clocks_in n (clash s) t h = absurd h
clocks_in n (clocked known) t h = (shortest known, t)

-- the node has a shortest assignment; what it is written in has right clocks, and reads it
example_clocks : (at : Assignment) × IsShortest (IsAllowed (node_of modes)) at
example_clocks = clocks_in (node_of modes) (NodeVerdict (node_of modes)) (judges (node_of modes)) tt

example_right : (at : Assignment) × ClocksRight (node_with_clocks at (node_of modes)) × (clocks_of_node (node_with_clocks at (node_of modes)) ≡ at)
example_right =
    (example_clocks.0, writes (node_of modes) example_clocks.0 named example_clocks.1.0, passes (node_of modes) example_clocks.0 named example_clocks.1)
