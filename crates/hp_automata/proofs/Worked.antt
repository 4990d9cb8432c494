-- Worked programs: without their automata they give what they gave, by computing.
use Rattle.std.proofs.Common.{◌≡◌, ℕ, zero, suc, ℤ, Bool, true, false, List, [], ◌∷◌, map, None, refl}
use Rattle.std.specs.Prelude.{pos, codes, ◌+ℤ◌, ◌-ℤ◌}
use Rattle.std.specs.Fmt.{digits}
use Rattle.hp_base.specs.declared.span.Span.{Span}
use Rattle.hp_base.specs.declared.value.Value.{Value}
use Rattle.hp_base.specs.declared.value.Value.TheVariants.{Absent, B, I}
use Rattle.hp_base.specs.declared.ty.Ty.TheVariants as ty
use Rattle.hp_base.specs.declared.ty.Const.TheVariants as const
use Rattle.hp_tree.specs.declared.block.Trans.{Trans}
use Rattle.hp_tree.specs.declared.expr.Op2.{Op2}
use Rattle.hp_tree.specs.declared.expr.Op2.TheVariants.{Add, Sub}
use Rattle.hp_tree.specs.declared.program.Item.{Item}
use Rattle.hp_tree.specs.declared.program.Item.TheVariants.{NodeItem}
use Rattle.hp_tree.specs.Expressions.{Expr, constant, variable, two, pre, arrow}
use Rattle.hp_tree.specs.Blocks.{Decl, Block, block, Eqns, no_eqn, more_eqns, Eqn, define, automaton, no_state, more_states}
use Rattle.hp_tree.specs.Operators.{Reading, real, two_over}
use Rattle.hp_tree.specs.Instant.{Instant, Past, nothing}
use Rattle.hp_tree.specs.Meaning.{meaning}
use Rattle.hp_tree.specs.Reaction.{outputs_at}
use Rattle.hp_automata.specs.NewNames.{value_name}
use Rattle.hp_automata.specs.Lowering.{lowered_program}

-- sums as plain sums, which no example leaves 32 bits by
abbrev plain : Op2 → ℤ → ℤ → Value
plain Add m n = I (m +ℤ n)
plain Sub m n = I (m -ℤ n)
plain o m n = Absent

abbrev unbounded : Reading
unbounded = record real { two = λ o given v w. two_over plain o v w }

-- rounds towards the one instant that meets the equations
abbrev round : List Item → List ℕ → Past → List Value → ℕ → Instant
round program f past inputs zero = nothing
round program f past inputs (suc k) = meaning unbounded program f inputs (record { past = past; free = nothing }) (round program f past inputs k)

abbrev run : List Item → List ℕ → ℕ → List (List Value) → Past
run program f k [] = []
run program f k (inputs ∷ earlier) = let past = run program f k earlier in round program f past inputs k ∷ past

-- the outputs over inputs, both the newest first, after k rounds at each instant
abbrev outputs : List Item → List ℕ → ℕ → List (List Value) → List (List Value)
outputs program f k inputs = map (outputs_at program f) (run program f k inputs)

abbrev here : Span
here = record { line = 1; col = 1; end = 0 }

abbrev f : List ℕ
f = codes "f"

abbrev x : List ℕ
x = codes "x"

abbrev c : List ℕ
c = codes "c"

abbrev d : List ℕ
d = codes "d"

abbrev a : List ℕ
a = codes "A"

abbrev b : List ℕ
b = codes "B"

abbrev int : List ℕ → Decl
int n = record { name = n; ty = ty.Int; last = None; clock = None; span = here }

abbrev bool : List ℕ → Decl
bool n = record { name = n; ty = ty.Bool; last = None; clock = None; span = here }

abbrev def : List ℕ → Expr → Eqn
def n e = define here ((n, here) ∷ []) e

abbrev only : Eqn → Eqns
only e = more_eqns e no_eqn

abbrev number : ℕ → Expr
number n = constant here (const.I (pos n))

abbrev to : List ℕ → Bool → List ℕ → Trans
to condition restart target = record { cond = variable here condition; restart = restart; target = target; span = here }

-- from n -> pre x + 1
abbrev counts : ℕ → Block
counts n = block [] (only (def x (arrow here (number n) (two here Add (pre here (variable here x)) (number 1)))))

abbrev node : List Decl → Block → List Item
node inputs body = NodeItem (record { name = f; span = here; inputs = inputs; outputs = int x ∷ []; contract = None; body = body }) ∷ []

abbrev numbers : List ℕ → List (List Value)
numbers [] = []
numbers (n ∷ ns) = (I (pos n) ∷ []) ∷ numbers ns

-- ---- two modes; the flag says whether the second one restarts

abbrev modes : Bool → List Item
modes restart = node (bool c ∷ []) (block [] (only (automaton here
    (more_states a (counts 0) (to c restart b ∷ []) [] here
    (more_states b (counts 10) (to c false a ∷ []) [] here no_state)))))

abbrev trues : ℕ → List (List Value)
trues zero = []
trues (suc n) = (B true ∷ []) ∷ trues n

continues : outputs (lowered_program (modes false)) f 14 (trues 4) ≡ numbers (11 ∷ 1 ∷ 10 ∷ 0 ∷ [])
unfolding digits
continues = refl

restarts : outputs (lowered_program (modes true)) f 14 (trues 4) ≡ numbers (10 ∷ 1 ∷ 10 ∷ 0 ∷ [])
unfolding digits
restarts = refl

-- ---- a strong transition in an automaton within another

abbrev nested : List Item
nested = node (bool c ∷ bool d ∷ []) (block [] (only (automaton here
    (more_states a (block [] (only (automaton here
    (more_states a (counts 0) [] (to d true b ∷ []) here
    (more_states b (counts 10) [] (to d true a ∷ []) here no_state)))))
    (to c true b ∷ []) [] here
    (more_states b (block [] (only (def x (number 5)))) (to c true a ∷ []) [] here no_state)))))

abbrev ins : Bool → Bool → List Value
ins p q = B p ∷ B q ∷ []

abbrev heard : List (List Value)
heard =
    ins false false ∷ ins true false ∷ ins false false ∷ ins true false ∷ ins false false ∷ ins false true ∷ ins false false ∷ ins false false ∷ []

strong_with_automata : outputs nested f 8 heard ≡ numbers (0 ∷ 5 ∷ 5 ∷ 12 ∷ 11 ∷ 10 ∷ 1 ∷ 0 ∷ [])
strong_with_automata = refl

strong_without : outputs (lowered_program nested) f 26 heard ≡ numbers (0 ∷ 5 ∷ 5 ∷ 12 ∷ 11 ∷ 10 ∷ 1 ∷ 0 ∷ [])
unfolding digits
strong_without = refl

-- ---- new names

a_value : value_name 12 3 (codes "y$7") ≡ codes "y$7bc3"
unfolding digits
a_value = refl

another_value : value_name 0 41 (codes "y") ≡ codes "y$a41"
unfolding digits
another_value = refl
