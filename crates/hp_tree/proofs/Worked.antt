-- Worked programs and what they give, by computing: the definitions mean the language.
use Rattle.std.proofs.Common.{◌≡◌, ℕ, zero, suc, ℤ, Bool, true, false, List, [], ◌∷◌, map, None, Some, refl}
use Rattle.std.specs.Prelude.{pos, negsuc, ◌+ℤ◌, ◌-ℤ◌}
use Rattle.hp_base.specs.declared.span.Span.{Span}
use Rattle.hp_base.specs.declared.value.Value.{Value}
use Rattle.hp_base.specs.declared.value.Value.TheVariants.{Absent, B, E, I}
use Rattle.hp_tree.specs.declared.block.Trans.{Trans}
use Rattle.hp_base.specs.declared.ty.Ty.TheVariants as ty
use Rattle.hp_base.specs.declared.ty.Const.{Const}
use Rattle.hp_base.specs.declared.ty.Const.TheVariants as const
use Rattle.hp_tree.specs.declared.expr.Op2.{Op2}
use Rattle.hp_tree.specs.declared.expr.Op2.TheVariants.{Add, Sub, Ge, Le}
use Rattle.hp_tree.specs.declared.expr.Op1.TheVariants.{Not}
use Rattle.hp_tree.specs.declared.decl.Cons.TheVariants.{False, True}
use Rattle.hp_tree.specs.declared.program.Item.{Item}
use Rattle.hp_tree.specs.declared.program.Item.TheVariants.{TypeItem, NodeItem}
use Rattle.hp_tree.specs.Expressions.{Expr, constant, variable, last_of, one, two, pre, fby, arrow, when_is, merge, call, no_expr, more_exprs, no_part, more_parts}
use Rattle.hp_tree.specs.Blocks.{Decl, Block, block, Eqns, no_eqn, more_eqns, Eqn, define, switch, reset, automaton, no_arm, more_arms, no_state, more_states}
use Rattle.hp_tree.specs.Operators.{Reading, real, two_over}
use Rattle.hp_tree.specs.Instant.{Instant, Past, nothing}
use Rattle.hp_tree.specs.Meaning.{meaning}
use Rattle.hp_tree.specs.Filled.{filled_meaning}
use Rattle.hp_tree.specs.Reaction.{outputs_at}

-- sums as plain sums, which no example leaves 32 bits by
abbrev plain : Op2 → ℤ → ℤ → Value
plain Add m n = I (m +ℤ n)
plain Sub m n = I (m -ℤ n)
plain o m n = Absent

abbrev unbounded : Reading
unbounded = record real { two = λ o given v w. two_over plain o v w }

-- rounds towards the one instant that meets the equations
abbrev round : List Item → List ℕ → Past → List Value → ℕ → Instant
round program f past inputs zero = nothing
round program f past inputs (suc k) = meaning unbounded program f inputs (record { past = past; free = nothing }) (round program f past inputs k)

abbrev run : List Item → List ℕ → ℕ → List (List Value) → Past
run program f k [] = []
run program f k (inputs ∷ earlier) = let past = run program f k earlier in round program f past inputs k ∷ past

-- the outputs over inputs, both the newest first, after k rounds at each instant
abbrev outputs : List Item → List ℕ → ℕ → List (List Value) → List (List Value)
outputs program f k inputs = map (outputs_at program f) (run program f k inputs)

-- ---- programs

abbrev here : Span
here = record { line = 1; col = 1; end = 0 }

abbrev f : List ℕ
f = 102 ∷ []

abbrev x : List ℕ
x = 120 ∷ []

abbrev c : List ℕ
c = 99 ∷ []

abbrev a : List ℕ
a = 65 ∷ []

abbrev b : List ℕ
b = 66 ∷ []

abbrev int : List ℕ → Decl
int n = record { name = n; ty = ty.Int; last = None; clock = None; span = here }

abbrev bool : List ℕ → Decl
bool n = record { name = n; ty = ty.Bool; last = None; clock = None; span = here }

abbrev def : List ℕ → Expr → Eqn
def n e = define here ((n, here) ∷ []) e

abbrev only : Eqn → Eqns
only e = more_eqns e no_eqn

abbrev number : ℕ → Expr
number n = constant here (const.I (pos n))

abbrev to : Expr → Bool → List ℕ → Trans
to e restart target = record { cond = e; restart = restart; target = target; span = here }

-- from n -> pre x + 1
abbrev counts : ℕ → Block
counts n = block [] (only (def x (arrow here (number n) (two here Add (pre here (variable here x)) (number 1)))))

-- two modes; the flag says whether the second one restarts
abbrev modes : Bool → List Item
modes restart = NodeItem (record {
  name = f;
  span = here;
  inputs = bool c ∷ [];
  outputs = int x ∷ [];
  contract = None;
  body = block [] (only (automaton here
      (more_states a (counts 0) (to (variable here c) restart b ∷ []) [] here
      (more_states b (counts 10) (to (variable here c) false a ∷ []) [] here no_state))));
}) ∷ []

abbrev trues : ℕ → List (List Value)
trues zero = []
trues (suc n) = (B true ∷ []) ∷ trues n

abbrev numbers : List ℕ → List (List Value)
numbers [] = []
numbers (n ∷ ns) = (I (pos n) ∷ []) ∷ numbers ns

continues : outputs (modes false) f 3 (trues 4) ≡ numbers (11 ∷ 1 ∷ 10 ∷ 0 ∷ [])
continues = refl

restarts : outputs (modes true) f 3 (trues 4) ≡ numbers (10 ∷ 1 ∷ 10 ∷ 0 ∷ [])
restarts = refl

abbrev o : List ℕ
o = 111 ∷ []

abbrev y : List ℕ
y = 121 ∷ []

abbrev z : List ℕ
z = 122 ∷ []

abbrev r : List ℕ
r = 114 ∷ []

abbrev v : List ℕ → Expr
v n = variable here n

abbrev node : List ℕ → List Decl → List Decl → List Decl → Eqns → Item
node name ins outs locals es = NodeItem (record { name = name; span = here; inputs = ins; outputs = outs; contract = None; body = block locals es })

abbrev counter : List ℕ → Const → Decl
counter n first = record { name = n; ty = ty.Int; last = Some first; clock = None; span = here }

-- up and down between 0 and 2
abbrev updown : List Item
updown = node f [] (counter o (const.I (pos 0)) ∷ []) [] (only (automaton here
    (more_states a (block [] (only (def o (two here Add (last_of here o) (number 1))))) (to (two here Ge (v o) (number 2)) true b ∷ []) [] here
    (more_states b (block [] (only (def o (two here Sub (last_of here o) (number 1))))) (to (two here Le (v o) (number 0)) true a ∷ []) [] here no_state)))) ∷ []

goes_up_and_down : outputs updown f 3 ([] ∷ [] ∷ [] ∷ [] ∷ [] ∷ [] ∷ []) ≡ numbers (2 ∷ 1 ∷ 0 ∷ 1 ∷ 2 ∷ 1 ∷ [])
goes_up_and_down = refl

-- a counter that begins anew
abbrev anew : List Item
anew = node f (bool c ∷ []) (int x ∷ []) []
    (only (reset here (block [] (only (def x (fby here (number 0) (two here Add (v x) (number 1)))))) (v c))) ∷ []

begins_anew : outputs anew f 3 ((B false ∷ []) ∷ (B true ∷ []) ∷ (B false ∷ []) ∷ (B false ∷ []) ∷ []) ≡ numbers (1 ∷ 0 ∷ 1 ∷ 0 ∷ [])
begins_anew = refl

-- a last value that is kept where an arm does not define it
abbrev keeps : List Item
keeps = node f (bool c ∷ []) (counter o (const.I (pos 5)) ∷ []) []
    (only (switch here (v c)
    (more_arms True (block [] (only (def o (two here Add (last_of here o) (number 1))))) here
    (more_arms False (block [] no_eqn) here no_arm)))) ∷ []

is_kept : outputs keeps f 3 ((B true ∷ []) ∷ (B false ∷ []) ∷ (B true ∷ []) ∷ []) ≡ numbers (7 ∷ 6 ∷ 6 ∷ [])
is_kept = refl

-- a sampled stream: y = x when c; z = merge c (true -> y) (false -> 0)
abbrev sampled : List Item
sampled = node f (int x ∷ bool c ∷ []) (int z ∷ []) (record (int y) { clock = Some ((True, c) ∷ []) } ∷ [])
    (more_eqns (def y (when_is here (v x) True c))
    (only (def z (merge here c (more_parts True (v y) (more_parts False (number 0) no_part)))))) ∷ []

is_sampled : outputs sampled f 3 ((I (pos 6) ∷ B false ∷ []) ∷ (I (pos 5) ∷ B true ∷ []) ∷ []) ≡ numbers (0 ∷ 5 ∷ [])
is_sampled = refl

-- y = 0 fby (x when c), on the clock of its operands
abbrev delayed : List Item
delayed = node f (int x ∷ bool c ∷ []) (int z ∷ []) (record (int y) { clock = Some ((True, c) ∷ []) } ∷ [])
    (more_eqns (def y (fby here (number 0) (when_is here (v x) True c)))
    (only (def z (merge here c (more_parts True (v y) (more_parts False (constant here (const.I (negsuc 0))) no_part)))))) ∷ []

is_delayed : outputs delayed f 3 ((I (pos 7) ∷ B true ∷ []) ∷ (I (pos 6) ∷ B false ∷ []) ∷ (I (pos 5) ∷ B true ∷ []) ∷ []) ≡ (I (pos 5) ∷ []) ∷ (I (negsuc 0) ∷ []) ∷ (I (pos 0) ∷ []) ∷ []
is_delayed = refl

-- a call has an instance of its own
abbrev called : List Item
called =
    node r (bool c ∷ []) (int x ∷ []) [] (only (reset here (block [] (only (def x (fby here (number 0) (two here Add (v x) (number 1)))))) (v c)))
    ∷ node f (bool c ∷ []) (int y ∷ int z ∷ []) []
    (more_eqns (def y (call here r false (more_exprs (v c) no_expr)))
    (only (def z (call here r false (more_exprs (one here Not (v c)) no_expr)))))
    ∷ []

is_called : outputs called f 4 ((B true ∷ []) ∷ (B true ∷ []) ∷ (B false ∷ []) ∷ []) ≡ (I (pos 0) ∷ I (pos 2) ∷ []) ∷ (I (pos 0) ∷ I (pos 1) ∷ []) ∷ (I (pos 0) ∷ I (pos 0) ∷ []) ∷ []
is_called = refl

-- ---- in the filled form a `pre` without a past gives the first value of its type, whatever is given

abbrev mode : List ℕ
mode = 109 ∷ []

abbrev modes_of : Item
modes_of = TypeItem (record { name = mode; cons = a ∷ b ∷ []; span = here })

abbrev of_mode : List ℕ → Decl
of_mode n = record (bool n) { ty = ty.Enum mode }

-- y, z and o have what x, c and r had before
abbrev befores : List Item
befores =
    modes_of
    ∷ node f (int x ∷ bool c ∷ of_mode r ∷ []) (int y ∷ bool z ∷ of_mode o ∷ []) []
    (more_eqns (def y (pre here (v x))) (more_eqns (def z (pre here (one here Not (v c)))) (only (def o (pre here (v r))))))
    ∷ []

abbrev filled_round : List Item → List ℕ → List Value → Instant → ℕ → Instant
filled_round program f inputs free zero = nothing
filled_round program f inputs free (suc k) = filled_meaning program f inputs (record { past = []; free = free }) (filled_round program f inputs free k)

abbrev all_true : Instant
all_true p = B true

firsts_are : outputs_at befores f (filled_round befores f (I (pos 7) ∷ B true ∷ E 0 1 ∷ []) all_true 3) ≡ I (pos 0) ∷ B false ∷ E 0 0 ∷ []
firsts_are = refl

-- the same in a call
abbrev called_before : List Item
called_before =
    node r (int x ∷ []) (int y ∷ []) [] (only (def y (pre here (v x))))
    ∷ node f (int x ∷ []) (int z ∷ []) [] (only (def z (call here r false (more_exprs (v x) no_expr))))
    ∷ []

first_in_call : outputs_at called_before f (filled_round called_before f (I (pos 7) ∷ []) all_true 4) ≡ I (pos 0) ∷ []
first_in_call = refl
