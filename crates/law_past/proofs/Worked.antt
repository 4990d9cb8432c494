-- A worked program: `node h(a : bool) returns (b : bool) let b = not a tel` and `node g(x : bool) returns (y : bool) contract enforce once(inlined h(x)) let y = x tel`.
-- Its unfolded contract remembers the formula, all that is asked of the node for replacing its call is met, and the contract with the call replaced and clocks written is seen to remember it.
use Rattle.std.proofs.Common.{◌≡◌, ⊎_elim, ℕ, ◌≤◌, false, true, ◌||◌, List, [], ◌∷◌, ◌++◌, length, Option, None, Some, refl, subst, arith}
use Rattle.std.specs.Prelude.{IsTrue, codes, decimal}
use Rattle.std.specs.Fmt.{digits}
use Rattle.std.specs.Str.{bytes_eq}
use Rattle.hp_base.specs.declared.span.Span.{Span}
use Rattle.hp_base.specs.declared.ty.Const.TheVariants as constant
use Rattle.hp_base.specs.declared.ty.Ty.TheVariants as ty
use Rattle.hp_tree.specs.declared.expr.Op1.TheVariants.{Not}
use Rattle.hp_tree.specs.declared.expr.Op2.TheVariants.{Or}
use Rattle.hp_tree.specs.declared.program.Item.{Item}
use Rattle.hp_tree.specs.declared.program.Item.TheVariants.{NodeItem}
use Rattle.hp_tree.specs.Blocks.{Decl, Block, block, Eqns, no_eqn, more_eqns, Eqn, define}
use Rattle.hp_tree.specs.Expressions.{Expr, variable, last_of, one, two, call, no_expr, more_exprs}
use Rattle.hp_tree.specs.Meaning.{declares, some_defines}
use Rattle.hp_tree.specs.Programs.{Contract, Node}
use Rattle.hp_tree.specs.Reaction.{Each}
use Rattle.hp_meaning.specs.Clocking.Clocking.{Assignment, node_with_clocks}
use Rattle.hp_expand.specs.Numbering.{no_node, replaced_node, with_node}
use Rattle.law_judged.specs.Named.Scoped.{Names, AreOwn, NodeScoped}
use Rattle.law_judged.specs.Once.Once.{DefinedOnce}
use Rattle.law_judged.specs.Replaced.Fitting.{NodeNames, IsPlain}
use Rattle.law_judged.proofs.NamedLemmas.Sets.{or_cases, same_name}
use Rattle.law_judged.proofs.OnceLemmas.Renamed.{or_none}
use Rattle.hp_past.specs.Names.{free}
use Rattle.hp_past.specs.Remembered.{Remembered, once, Keeps}
use Rattle.hp_past.specs.Unfolding.{fresh, with_variable, with_argument, once_of, joined_block, unfolded}
use Rattle.law_past.proofs.Replacing.{node_keeps}

-- ---- the program

abbrev at : Span
at = record { line = 1; col = 1; end = 0 }

abbrev bool : List ℕ → Decl
bool x = record { name = x; ty = ty.Bool; last = None; clock = None; span = at }

abbrev remembering : List ℕ → Decl
remembering x = record { name = x; ty = ty.Bool; last = Some (constant.B false); clock = None; span = at }

abbrev def : List ℕ → Expr → Eqn
def x e = define at ((x, at) ∷ []) e

abbrev a : List ℕ
a = 97 ∷ []

abbrev b : List ℕ
b = 98 ∷ []

abbrev g : List ℕ
g = 103 ∷ []

abbrev h : List ℕ
h = 104 ∷ []

abbrev x : List ℕ
x = 120 ∷ []

abbrev y : List ℕ
y = 121 ∷ []

abbrev inner : Node
inner = record { name = h; span = at; inputs = bool a ∷ []; outputs = bool b ∷ []; contract = None; body = block [] (more_eqns (def b (one at Not (variable at a))) no_eqn) }

abbrev asked : Expr
asked = call at h true (more_exprs (variable at x) no_expr)

abbrev guarding : Option Contract → Node
guarding c = record { name = g; span = at; inputs = bool x ∷ []; outputs = bool y ∷ []; contract = c; body = block [] (more_eqns (def y (variable at x)) no_eqn) }

abbrev source : List Item
source = NodeItem inner ∷ NodeItem (guarding (Some (record { body = block [] no_eqn; assume = None; enforce = Some (call at (codes "once") false (more_exprs asked no_expr)); controls = []; span = at }))) ∷ []

-- ---- the unfolded program

abbrev p1 : List ℕ
p1 = codes "past_1"

abbrev p2 : List ℕ
p2 = codes "past_2"

abbrev memory : Expr
memory = two at Or (variable at p1) (last_of at p2)

abbrev contract : Contract
contract = record { body = block (bool p1 ∷ remembering p2 ∷ []) (more_eqns (def p1 asked) (more_eqns (def p2 memory) no_eqn)); assume = None; enforce = Some (variable at p2); controls = []; span = at }

abbrev node : Node
node = guarding (Some contract)

is-unfolded : unfolded source ≡ NodeItem inner ∷ NodeItem node ∷ []
unfolding free fresh with_variable with_argument once_of joined_block digits
is-unfolded = refl

abbrev formula : Remembered
formula = once p1 p2

remembers : Keeps contract.body formula
remembers = (refl, (at, at, at, record { begins = refl; defined = refl }))

-- ---- its call replaced

abbrev nodes : List ℕ → Node
nodes = with_node no_node (replaced_node no_node inner)

abbrev a1 : List ℕ
a1 = a ++ (36 ∷ decimal 1)

abbrev b2 : List ℕ
b2 = b ++ (36 ∷ decimal 2)

abbrev block_then : Block
block_then = block (bool p1 ∷ remembering p2 ∷ bool a1 ∷ bool b2 ∷ [])
    (more_eqns (def a1 (variable at x)) (more_eqns (def b2 (one at Not (variable at a1))) (more_eqns (def p1 (variable at b2)) (more_eqns (def p2 memory) no_eqn))))

abbrev node_then : Node
node_then = guarding (Some (record contract { body = block_then }))

is-replaced : replaced_node nodes node ≡ node_then
unfolding digits
is-replaced = refl

-- ---- what is asked of the node, before and after

each_declared : (P : List ℕ → Type 0) (ds : List Decl) → Each (λ (d : Decl). P d.name) ds → (z : List ℕ) → IsTrue (declares ds z) → P z
each_declared P [] k z t = absurd (cc t)
each_declared P (d ∷ ds) k z t = ⊎_elim (λ l. subst P (same_name d.name z l) k.0) (λ l. each_declared P ds k.1 z l) (or_cases (bytes_eq d.name z) (declares ds z) t)

own_one : (own : Names) (z : List ℕ) → IsTrue (own z) → AreOwn own ((z, at) ∷ [])
own_one own z o w t = subst (λ v. IsTrue (own v)) (same_name z w (or_none (bytes_eq z w) t)) o

alone_one : (z : List ℕ) (es : Eqns) → some_defines es z ≡ false → (w : List ℕ) → (bytes_eq z w || false) ≡ true → some_defines es w ≡ false
alone_one z es n w t = subst (λ v. some_defines es v ≡ false) (same_name z w (or_none (bytes_eq z w) t)) n

-- the names around the contract
abbrev outside : Names
outside z = declares (bool y ∷ []) z || (declares (bool x ∷ []) z || false)

abbrev IsOther : List ℕ → Type 0
IsOther z = IsTrue (outside z) → ⊥

plain-short : (z : List ℕ) → length z ≤ 6 → length z ≤ 255
plain-short z l = omega (arith, l)

plain : NodeNames IsPlain node
plain = record {
  interface = λ z t.
      ⊎_elim (λ l. each_declared IsPlain (bool y ∷ []) ((refl, plain-short y (omega arith)), tt) z l) (λ l. each_declared IsPlain (bool x ∷ []) ((refl, plain-short x (omega arith)), tt) z (or_none (declares (bool x ∷ []) z) l))
      (or_cases (declares (bool y ∷ []) z) (declares (bool x ∷ []) z || false) t);
  contract = (each_declared IsPlain (bool p1 ∷ remembering p2 ∷ []) ((refl, plain-short p1 (omega arith)), ((refl, plain-short p2 (omega arith)), tt)), (tt, (tt, tt)));
  body = (λ z t. absurd (cc t), (tt, tt));
}

abbrev own_names : Names
own_names z = declares (bool p1 ∷ remembering p2 ∷ []) z || false

scoped : NodeScoped node
scoped = record {
  once = (refl, (refl, tt));
  contract = (
    (refl, (refl, tt)),
    each_declared IsOther (bool p1 ∷ remembering p2 ∷ []) ((λ t. absurd (cc t)), ((λ t. absurd (cc t)), tt)),
    each_declared (λ z. IsTrue (some_defines (more_eqns (def p1 asked) (more_eqns (def p2 memory) no_eqn)) z)) (bool p1 ∷ remembering p2 ∷ []) (refl, (refl, tt)),
    (own_one own_names p1 refl, (own_one own_names p2 refl, tt)),
  );
  body = (tt, (λ z t. absurd (cc t)), (λ z t. absurd (cc t)), (own_one (λ z. declares (bool y ∷ []) z || false) y refl, tt));
  outputs = each_declared (λ z. IsTrue (some_defines (more_eqns (def y (variable at x)) no_eqn) z)) (bool y ∷ []) (refl, tt);
}

abbrev locals_then : List Decl
locals_then = bool p1 ∷ remembering p2 ∷ bool a1 ∷ bool b2 ∷ []

abbrev rest1 : Eqns
rest1 = more_eqns (def p2 memory) no_eqn

abbrev rest2 : Eqns
rest2 = more_eqns (def p1 (variable at b2)) rest1

abbrev rest3 : Eqns
rest3 = more_eqns (def b2 (one at Not (variable at a1))) rest2

abbrev eqns_then : Eqns
eqns_then = more_eqns (def a1 (variable at x)) rest3

abbrev own_then : Names
own_then z = declares locals_then z || false

scoped-then : NodeScoped node_then
unfolding digits
scoped-then = record {
  once = (refl, (refl, tt));
  contract = (
    (refl, (refl, (refl, (refl, tt)))),
    each_declared IsOther locals_then ((λ t. absurd (cc t)), ((λ t. absurd (cc t)), ((λ t. absurd (cc t)), ((λ t. absurd (cc t)), tt)))),
    each_declared (λ z. IsTrue (some_defines eqns_then z)) locals_then (refl, (refl, (refl, (refl, tt)))),
    (own_one own_then a1 refl, (own_one own_then b2 refl, (own_one own_then p1 refl, (own_one own_then p2 refl, tt)))),
  );
  body = (tt, (λ z t. absurd (cc t)), (λ z t. absurd (cc t)), (own_one (λ z. declares (bool y ∷ []) z || false) y refl, tt));
  outputs = each_declared (λ z. IsTrue (some_defines (more_eqns (def y (variable at x)) no_eqn) z)) (bool y ∷ []) (refl, tt);
}

once-then : DefinedOnce node_then
unfolding digits
once-then = (
  (
    alone_one a1 rest3 refl,
    (tt, (alone_one b2 rest2 refl, (tt, (alone_one p1 rest1 refl, (tt, (alone_one p2 no_eqn refl, (tt, tt))))))),
  ),
  ((λ z t. refl), (tt, tt)),
)

-- so with whatever clocks are written, the contract of the node remembers the formula
pub still-remembers : (clocks : Assignment) → (d : Contract) × ((node_with_clocks clocks node_then).contract ≡ Some d) × Keeps d.body formula
unfolding digits
still-remembers clocks = node_keeps nodes clocks node scoped plain scoped-then once-then contract refl formula remembers
