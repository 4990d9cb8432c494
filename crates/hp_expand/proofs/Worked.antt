-- Worked programs whose inlined calls are replaced, by computing.
use Rattle.std.proofs.Common.{◌≡◌, ℕ, ◌+◌, true, List, [], ◌∷◌, ◌++◌, None, Some, refl}
use Rattle.std.specs.Prelude.{decimal}
use Rattle.std.specs.Fmt.{digits}
use Rattle.hp_base.specs.declared.span.Span.{Span}
use Rattle.hp_base.specs.declared.ty.Ty.TheVariants as ty
use Rattle.hp_tree.specs.declared.decl.Cons.TheVariants.{False, True}
use Rattle.hp_tree.specs.declared.expr.Op1.TheVariants.{Not}
use Rattle.hp_tree.specs.declared.expr.Op2.TheVariants.{And}
use Rattle.hp_tree.specs.declared.program.Item.TheVariants.{NodeItem}
use Rattle.hp_tree.specs.Expressions.{Expr, variable, one, two, call, no_expr, more_exprs}
use Rattle.hp_tree.specs.Blocks.{Decl, Block, block, Eqns, no_eqn, more_eqns, Eqn, define, switch, no_arm, more_arms}
use Rattle.hp_tree.specs.Programs.{Contract, Node}
use Rattle.hp_expand.specs.Numbering.{replaced}

-- places, by their column
abbrev at : ℕ → Span
at col = record { line = 1; col = col; end = 0 }

abbrev bool : List ℕ → Span → Decl
bool x s = record { name = x; ty = ty.Bool; last = None; clock = None; span = s }

-- names: f g h, a b x y z
abbrev f : List ℕ
f = 102 ∷ []

abbrev g : List ℕ
g = 103 ∷ []

abbrev a : List ℕ
a = 97 ∷ []

abbrev b : List ℕ
b = 98 ∷ []

abbrev x : List ℕ
x = 120 ∷ []

abbrev y : List ℕ
y = 121 ∷ []

abbrev z : List ℕ
z = 122 ∷ []

-- such a name with a number
abbrev new : List ℕ → ℕ → List ℕ
new cs n = cs ++ (36 ∷ decimal n)

abbrev def : Span → List ℕ → Expr → Eqn
def s n e = define s ((n, s) ∷ []) e

abbrev inlined : Span → List ℕ → Expr → Expr
inlined s n e = call s n true (more_exprs e no_expr)

abbrev eqns : List Eqn → Eqns
eqns [] = no_eqn
eqns (e ∷ es) = more_eqns e (eqns es)

abbrev node : List ℕ → Decl → Decl → Block → Node
node n input output body = record { name = n; span = at 1; inputs = input ∷ []; outputs = output ∷ []; contract = None; body = body }

-- node f(x : bool) returns (y : bool) var z : bool let y = not z; z = x tel
abbrev inner : Node
inner = node f (bool x (at 10)) (bool y (at 20)) (block (bool z (at 30) ∷ []) (eqns (def (at 40) y (one (at 41) Not (variable (at 42) z)) ∷ def (at 50) z (variable (at 51) x) ∷ [])))

-- node g(a : bool) returns (b : bool) let b = inlined f(a) & inlined f(inlined f(a)) tel
abbrev outer : Node
outer = node g (bool a (at 110)) (bool b (at 120))
    (block [] (eqns (def (at 140) b (two (at 141) And (inlined (at 141) f (variable (at 142) a)) (inlined (at 150) f (inlined (at 151) f (variable (at 152) a)))) ∷ [])))

-- the variables of one call, whose first has this number
abbrev locals_from : ℕ → List Decl → List Decl
locals_from n ds = bool (new x n) (at 10) ∷ bool (new y (n + 1)) (at 20) ∷ bool (new z (n + 2)) (at 30) ∷ ds

-- and its equations
abbrev equations_from : ℕ → Expr → List Eqn → List Eqn
equations_from n argument es =
    def (at 10) (new x n) argument
    ∷ def (at 40) (new y (n + 1)) (one (at 41) Not (variable (at 42) (new z (n + 2))))
    ∷ def (at 50) (new z (n + 2)) (variable (at 51) (new x n))
    ∷ es

-- calls are replaced from left to right, inner ones first
calls_in_order : replaced (NodeItem inner ∷ NodeItem outer ∷ [])
    ≡ NodeItem inner ∷ NodeItem (record outer {
      body = block (locals_from 1 (locals_from 4 (locals_from 7 [])))
          (eqns (equations_from 1 (variable (at 142) a) (equations_from 4 (variable (at 152) a) (equations_from 7 (variable (at 151) (new y 5))
          (def (at 140) b (two (at 141) And (variable (at 141) (new y 2)) (variable (at 150) (new y 8))) ∷ [])))));
    }) ∷ []
unfolding digits
calls_in_order = refl

-- ---- several outputs, and a contract

abbrev h : List ℕ
h = 104 ∷ []

abbrev k : List ℕ
k = 107 ∷ []

abbrev c : List ℕ
c = 99 ∷ []

abbrev w : List ℕ
w = 119 ∷ []

-- node h(x : bool) returns (y, z : bool) var w : bool let w = x; y = w; z = x tel
abbrev two_outputs : Node
two_outputs = record {
  name = h;
  span = at 1;
  inputs = bool x (at 10) ∷ [];
  outputs = bool y (at 20) ∷ bool z (at 21) ∷ [];
  contract = None;
  body = block (bool w (at 30) ∷ []) (eqns (def (at 40) w (variable (at 41) x) ∷ def (at 50) y (variable (at 51) w) ∷ def (at 60) z (variable (at 61) x) ∷ []));
}

abbrev asks : Block → Expr → Contract
asks body e = record { body = body; assume = None; enforce = Some e; controls = []; span = at 100 }

abbrev with_contract : Contract → Block → Node
with_contract contract body = record {
  name = k;
  span = at 1;
  inputs = bool a (at 110) ∷ [];
  outputs = bool b (at 120) ∷ bool c (at 121) ∷ [];
  contract = Some contract;
  body = body;
}

-- The equations of a contract's call stand at the end of the contract's, and its variables come first. A right side becomes one
-- equation for each name.
contracts_first : replaced (NodeItem inner ∷ NodeItem two_outputs
    -- node k(a : bool) returns (b, c : bool) contract enforce inlined f(b) let (b, c) = inlined h(a) tel
    ∷ NodeItem (with_contract (asks (block [] no_eqn) (inlined (at 130) f (variable (at 131) b)))
    (block [] (eqns (define (at 140) ((b, at 141) ∷ (c, at 142) ∷ []) (inlined (at 143) h (variable (at 144) a)) ∷ []))))
    ∷ [])
    ≡ NodeItem inner ∷ NodeItem two_outputs
    ∷ NodeItem (with_contract (asks (block (locals_from 1 []) (eqns (equations_from 1 (variable (at 131) b) []))) (variable (at 130) (new y 2)))
    (block (bool (new x 4) (at 10) ∷ bool (new y 5) (at 20) ∷ bool (new z 6) (at 21) ∷ bool (new w 7) (at 30) ∷ [])
    (eqns (def (at 10) (new x 4) (variable (at 144) a)
    ∷ def (at 40) (new w 7) (variable (at 41) (new x 4))
    ∷ def (at 50) (new y 5) (variable (at 51) (new w 7))
    ∷ def (at 60) (new z 6) (variable (at 61) (new x 4))
    ∷ define (at 140) ((b, at 141) ∷ []) (variable (at 143) (new y 5))
    ∷ define (at 140) ((c, at 142) ∷ []) (variable (at 143) (new z 6))
    ∷ []))))
    ∷ []
unfolding digits
contracts_first = refl

-- ---- variables of inner blocks

-- switch x | true var z : bool do z = x; y = z | false var z : bool do y = z; z = not x end, over such names
abbrev choice : List ℕ → List ℕ → List ℕ → List ℕ → Eqn
choice input output first second =
    switch (at 40) (variable (at 41) input)
    (more_arms True (block (bool first (at 50) ∷ []) (eqns (def (at 51) first (variable (at 52) input) ∷ def (at 53) output (variable (at 54) first) ∷ []))) (at 49)
    (more_arms False (block (bool second (at 60) ∷ []) (eqns (def (at 61) output (variable (at 62) second) ∷ def (at 63) second (one (at 64) Not (variable (at 65) input)) ∷ []))) (at 59) no_arm))

-- they are numbered behind those of the block, each by itself
inner_blocks_later : replaced (NodeItem (node f (bool x (at 10)) (bool y (at 20)) (block [] (eqns (choice x y z z ∷ []))))
    -- node g(a : bool) returns (b : bool) var w : bool let w = inlined f(a); b = w tel
    ∷ NodeItem (node g (bool a (at 110)) (bool b (at 120))
    (block (bool w (at 130) ∷ []) (eqns (def (at 140) w (inlined (at 141) f (variable (at 142) a)) ∷ def (at 150) b (variable (at 151) w) ∷ []))))
    ∷ [])
    ≡ NodeItem (node f (bool x (at 10)) (bool y (at 20)) (block [] (eqns (choice x y z z ∷ []))))
    ∷ NodeItem (node g (bool a (at 110)) (bool b (at 120))
    (block (bool w (at 130) ∷ bool (new x 1) (at 10) ∷ bool (new y 2) (at 20) ∷ [])
    (eqns (def (at 10) (new x 1) (variable (at 142) a)
    ∷ choice (new x 1) (new y 2) (new z 3) (new z 4)
    ∷ def (at 140) w (variable (at 141) (new y 2))
    ∷ def (at 150) b (variable (at 151) w)
    ∷ []))))
    ∷ []
unfolding digits
inner_blocks_later = refl
