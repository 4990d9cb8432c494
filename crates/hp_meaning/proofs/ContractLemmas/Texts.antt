-- Programs of the worked examples, and words to write them.
use Rattle.std.specs.Prelude.{ℕ, ℤ, pos, negsuc, Bool, true, false, List, [], ◌∷◌, Option, None, Some, codes}
use Rattle.hp_base.specs.declared.span.Span.{Span}
use Rattle.hp_base.specs.declared.ty.Ty.TheVariants as ty
use Rattle.hp_base.specs.declared.ty.Const.TheVariants as const
use Rattle.hp_tree.specs.declared.block.Trans.{Trans}
use Rattle.hp_tree.specs.declared.decl.Cons.TheVariants.{False, True}
use Rattle.hp_tree.specs.declared.expr.Op1.TheVariants.{Not}
use Rattle.hp_tree.specs.declared.expr.Op2.TheVariants.{And, Eq, Gt, Ge, Le, Add, Sub, Div, Rem}
use Rattle.hp_tree.specs.declared.program.Item.{Item}
use Rattle.hp_tree.specs.declared.program.Item.TheVariants.{NodeItem}
use Rattle.hp_tree.specs.Expressions.{Expr, constant, variable, last_of, one, two, pre, fby, arrow, when_is, merge, call, no_expr, more_exprs, no_part, more_parts}
use Rattle.hp_tree.specs.Blocks.{Decl, Block, block, no_eqn, Eqn, define, switch, reset, automaton, no_arm, more_arms, States, no_state, more_states, eqns_of}
use Rattle.hp_tree.specs.Programs.{Contract, Node}

abbrev pub here : Span
here = record { line = 1; col = 1; end = 0 }

-- ---- names

abbrev pub a : List ℕ
a = codes "a"

abbrev pub b : List ℕ
b = codes "b"

abbrev pub c : List ℕ
c = codes "c"

abbrev pub e : List ℕ
e = codes "e"

abbrev pub f : List ℕ
f = codes "f"

abbrev pub g : List ℕ
g = codes "g"

abbrev pub i : List ℕ
i = codes "i"

abbrev pub m : List ℕ
m = codes "m"

abbrev pub o : List ℕ
o = codes "o"

abbrev pub q : List ℕ
q = codes "q"

abbrev pub r : List ℕ
r = codes "r"

abbrev pub s : List ℕ
s = codes "s"

abbrev pub x : List ℕ
x = codes "x"

abbrev pub y : List ℕ
y = codes "y"

abbrev pub z : List ℕ
z = codes "z"

-- ---- words

abbrev pub int : List ℕ → Decl
int n = record { name = n; ty = ty.Int; last = None; clock = None; span = here }

abbrev pub bool : List ℕ → Decl
bool n = record { name = n; ty = ty.Bool; last = None; clock = None; span = here }

abbrev pub v : List ℕ → Expr
v n = variable here n

abbrev pub number : ℤ → Expr
number n = constant here (const.I n)

abbrev pub truth : Bool → Expr
truth t = constant here (const.B t)

abbrev pub calls : List ℕ → Expr → Expr
calls n arg = call here n false (more_exprs arg no_expr)

abbrev pub def : List ℕ → Expr → Eqn
def n right = define here ((n, here) ∷ []) right

abbrev pub of : List Eqn → Block
of es = block [] (eqns_of es)

abbrev pub to : Expr → Bool → List ℕ → Trans
to cond restart target = record { cond = cond; restart = restart; target = target; span = here }

abbrev pub state : List ℕ → List Eqn → List Trans → List Trans → States → States
state n es until unless more = more_states n (of es) until unless here more

abbrev pub promises : Option Expr → Expr → List Decl → Option Contract
promises assumed enforced controls = Some (record { body = block [] no_eqn; assume = assumed; enforce = Some enforced; controls = controls; span = here })

abbrev pub node : List ℕ → List Decl → List Decl → Option Contract → List Eqn → Node
node n ins outs contract es = record { name = n; span = here; inputs = ins; outputs = outs; contract = contract; body = of es }

abbrev pub alone : Node → List Item
alone n = NodeItem n ∷ []

-- from n -> pre x + 1
abbrev pub counts : ℤ → Eqn
counts n = def x (arrow here (number n) (two here Add (pre here (v x)) (number (pos 1))))

-- ---- programs without contracts

-- y = false fby x
abbrev pub delay : Node
delay = node f (bool x ∷ []) (bool y ∷ []) None (def y (fby here (truth false) (v x)) ∷ [])

abbrev pub always : Node
always = node f [] (bool y ∷ []) None (def y (truth true) ∷ [])

-- two counters; a weak transition that restarts, one that does not, and a strong one that loses the restart
abbrev pub pending : Node
pending =
    node f (bool a ∷ bool b ∷ []) (int x ∷ []) None
    (automaton here
    (state (codes "P") (counts (pos 0) ∷ []) (to (v a) true (codes "Q") ∷ to (v b) false (codes "Q") ∷ []) []
    (state (codes "Q") (counts (pos 10) ∷ []) (to (v a) false (codes "P") ∷ []) (to (v b) false (codes "P") ∷ []) no_state)) ∷ [])

-- an automaton in a state that is restarted
abbrev pub nested : Node
nested =
    node g (bool o ∷ bool i ∷ []) (int x ∷ []) None
    (automaton here
    (state (codes "S")
    (automaton here
    (state (codes "A") (def x (number (pos 0)) ∷ []) (to (v i) false (codes "B") ∷ []) []
    (state (codes "B") (counts (pos 10) ∷ []) (to (v i) false (codes "A") ∷ []) [] no_state)) ∷ [])
    (to (v o) true (codes "T") ∷ []) []
    (state (codes "T") (def x (number (negsuc 0)) ∷ []) (to (v o) true (codes "S") ∷ []) [] no_state)) ∷ [])

abbrev pub sums : Node
sums =
    node f (int a ∷ int b ∷ []) (int s ∷ int q ∷ int m ∷ []) None
    (def s (two here Add (v a) (v b)) ∷ def q (two here Div (v a) (v b)) ∷ def m (two here Rem (v a) (v b)) ∷ [])

-- two arms, in each of which one name is defined by the other
abbrev pub crossed : Node
crossed =
    node f (bool c ∷ []) (bool x ∷ bool y ∷ []) None
    (switch here (v c)
    (more_arms True (of (def x (v y) ∷ def y (truth true) ∷ [])) here
    (more_arms False (of (def y (v x) ∷ def x (truth false) ∷ [])) here no_arm)) ∷ [])

-- y = 0 -> pre x
abbrev pub late_start : Node
late_start = node f (int x ∷ []) (int y ∷ []) None (def y (arrow here (number (pos 0)) (pre here (v x))) ∷ [])

-- two modes of one counter, each of which goes on
abbrev pub shared : Node
shared =
    node f (bool c ∷ []) (record (int o) { last = Some (const.I (pos 0)) } ∷ []) None
    (automaton here
    (state (codes "A") (def o (two here Add (last_of here o) (number (pos 1))) ∷ []) (to (v c) false (codes "B") ∷ []) []
    (state (codes "B") (def o (two here Add (last_of here o) (number (pos 10))) ∷ []) (to (v c) false (codes "A") ∷ []) [] no_state)) ∷ [])

-- A strong condition that names what its own state defines. Such a node is refused as a cycle, but its equations still have one solution for each input.
abbrev pub self_restarted : Node
self_restarted =
    node f (bool i ∷ []) (record (bool y) { last = Some (const.B false) } ∷ int x ∷ []) None
    (automaton here
    (state (codes "A") (def y (v i) ∷ counts (pos 0) ∷ []) [] (to (v y) true (codes "A") ∷ []) no_state) ∷ [])

-- up and down between 0 and 2
abbrev pub updown : Node
updown =
    node (codes "updown") [] (record (int o) { last = Some (const.I (pos 0)) } ∷ []) None
    (automaton here
    (state (codes "Up") (def o (two here Add (last_of here o) (number (pos 1))) ∷ []) (to (two here Ge (v o) (number (pos 2))) true (codes "Down") ∷ []) []
    (state (codes "Down") (def o (two here Sub (last_of here o) (number (pos 1))) ∷ []) (to (two here Le (v o) (number (pos 0))) true (codes "Up") ∷ []) [] no_state)) ∷ [])

-- two counters, each of which goes on
abbrev pub two_modes : Node
two_modes =
    node f (bool c ∷ []) (int x ∷ []) None
    (automaton here
    (state (codes "A") (counts (pos 0) ∷ []) (to (v c) false (codes "B") ∷ []) []
    (state (codes "B") (counts (pos 10) ∷ []) (to (v c) false (codes "A") ∷ []) [] no_state)) ∷ [])

-- y = x when c; z = merge c (true -> y) (false -> 0)
abbrev pub sampled : Node
sampled =
    record (node f (int x ∷ bool c ∷ []) (int z ∷ []) None []) {
      body = block (record (int y) { clock = Some ((True, c) ∷ []) } ∷ [])
          (eqns_of (def y (when_is here (v x) True c) ∷ def z (merge here c (more_parts True (v y) (more_parts False (number (pos 0)) no_part))) ∷ []));
    }

-- a counter that begins anew
abbrev pub anew : Node
anew =
    node r (bool c ∷ []) (int m ∷ []) None
    (reset here (of (def m (fby here (number (pos 0)) (two here Add (v m) (number (pos 1)))) ∷ [])) (v c) ∷ [])

-- ---- programs with contracts

abbrev pub above_three : Expr
above_three = two here Gt (v x) (number (pos 3))

-- the same comparison twice, in the body and in the contract
abbrev pub compared_twice : Node
compared_twice = node f (int x ∷ []) (bool y ∷ []) (promises None (two here Eq (v y) above_three) []) (def y above_three ∷ [])

-- a comparison that has a name
abbrev pub compared_once : Node
compared_once = node f (int x ∷ []) (bool y ∷ bool b ∷ []) (promises None (two here Eq (v y) (v b)) []) (def b above_three ∷ def y (v b) ∷ [])

-- a comparison that a controllable variable is to match
abbrev pub matched : Node
matched = node f (int x ∷ []) (bool y ∷ bool z ∷ []) (promises None (two here Eq (v y) (v z)) (bool c ∷ [])) (def y above_three ∷ def z (v c) ∷ [])

-- a grant that is not given where it may do harm
abbrev pub grant : Node
grant =
    node g (bool r ∷ bool e ∷ []) (bool a ∷ [])
    (promises (Some (one here Not (two here And (v r) (v e)))) (one here Not (two here And (v a) (v e))) (bool c ∷ []))
    (def a (two here And (v r) (v c)) ∷ [])

-- y = true fby x, which is to be true
abbrev pub remembered : Node
remembered = node (codes "h") (bool x ∷ []) (bool y ∷ []) (promises None (v y) []) (def y (fby here (truth true) (v x)) ∷ [])

abbrev pub echo : Option Contract → Node
echo contract = node (codes "echo") (bool x ∷ []) (bool y ∷ []) contract (def y (v x) ∷ [])

-- y is an echo of the controllable variable or of its contrary, and z the variable itself
abbrev pub top : Expr → Expr → Node
top enforced arg = node (codes "top") (bool i ∷ []) (bool y ∷ bool z ∷ []) (promises None enforced (bool c ∷ [])) (def y (calls (codes "echo") arg) ∷ def z (v c) ∷ [])

abbrev pub same_outputs : Expr
same_outputs = two here Eq (v y) (v z)

-- of the callee nothing is known
abbrev pub silent : List Item
silent = NodeItem (echo None) ∷ NodeItem (top same_outputs (v c)) ∷ []

-- the callee promises to echo
abbrev pub faithful : List Item
faithful = NodeItem (echo (promises None (two here Eq (v y) (v x)) [])) ∷ NodeItem (top same_outputs (v c)) ∷ []

-- the callee wants a true argument
abbrev pub demanding : List Item
demanding = NodeItem (echo (promises (Some (v x)) (truth true) [])) ∷ NodeItem (top (truth true) (one here Not (v c))) ∷ []
