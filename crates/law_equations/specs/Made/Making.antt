-- The variables and equations of a node, as they are made one after the other.
use Rattle.std.specs.Prelude.{ℕ, ◌+◌, min, nat_eq, nat_lt, Bool, true, false, ◌||◌, if◌then◌else◌, List, [], ◌∷◌, ◌++◌, length, map, take, slice_get, Option, None, Some, codes, decimal, pos}
use Rattle.std.specs.Str.{bytes_eq}
use Rattle.hp_base.specs.declared.span.Span.{Span}
use Rattle.hp_base.specs.declared.ty.Const.{Const}
use Rattle.hp_base.specs.declared.ty.Const.TheVariants as const
use Rattle.hp_base.specs.declared.ty.Ty.{Ty}
use Rattle.hp_base.specs.declared.ty.Ty.TheVariants as ty
use Rattle.hp_base.specs.declared.value.Value.{Value}
use Rattle.hp_base.specs.declared.value.Value.TheVariants.{Absent, B, E, I}
use Rattle.hp_obc.specs.declared.command.ObcOp.TheVariants.{Copy, Mux}
use Rattle.hp_tree.specs.declared.decl.Cons.{Cons}
use Rattle.hp_tree.specs.declared.decl.Cons.TheVariants as cons
use Rattle.hp_tree.specs.declared.expr.Op1.{Op1}
use Rattle.hp_tree.specs.declared.expr.Op1.TheVariants.{Not, Neg}
use Rattle.hp_tree.specs.declared.expr.Op2.{Op2}
use Rattle.hp_tree.specs.declared.expr.Op2.TheVariants.{Add, Sub, Mul, Div, Rem}
use Rattle.hp_tree.specs.Expressions.{Expr, constant, variable, last_of, one, two, choose, pre, fby, arrow, when_is, merge, call, Exprs, no_expr, more_exprs, Parts, no_part, more_parts}
use Rattle.hp_tree.specs.Blocks.{Decl, Block, block, Eqns, no_eqn, more_eqns, Eqn, define, switch, reset, automaton, Arms, no_arm, more_arms}
use Rattle.hp_tree.specs.Programs.{Node}
use Rattle.hp_tree.specs.Meaning.{declares, controls_of}
pub use Rattle.hp_tables.specs.Defining.Names.{names_of_arms, undeclared}
use Rattle.hp_tables.specs.Defining.Names.{names_in, names_of, outer_names}
use Rattle.hp_flat.specs.declared.equation.Atom.{Atom}
use Rattle.hp_flat.specs.declared.equation.Atom.TheVariants.{Variable, Value as Fixed}
use Rattle.hp_flat.specs.declared.node.FlatTy.{FlatTy}
use Rattle.hp_flat.specs.declared.node.FlatTy.TheVariants as flat
use Rattle.hp_flat.specs.declared.node.Variable.{Variable as VariableData}
use Rattle.hp_flat.specs.Equations.{Right, operator, register, called, FlatEqn}
use Rattle.law_equations.specs.Flattened.Flatten.{obc_one, obc_two, constant_in, is_false}
use Rattle.law_equations.specs.Made.Sights.{Entry}

-- ---- what a program declares: types by their places, constructors by the places of their types and their own, and nodes

pub record Known : Type 0 where
  pub types : List ℕ → Option ℕ
  pub constructors : List ℕ → Option (ℕ × ℕ)
  pub nodes : List ℕ → Option Node

abbrev pub type_number : Option ℕ → ℕ
type_number None = 65535
type_number (Some k) = min k 65535

abbrev pub flat_type : (List ℕ → Option ℕ) → Ty → FlatTy
flat_type places ty.Bool = flat.Bool
flat_type places ty.Int = flat.Int
flat_type places (ty.Enum x) = flat.Enum (type_number (places x))

-- the value of a constructor that is declared, else none
abbrev pub constructor_value : Option (ℕ × ℕ) → Value
constructor_value None = Absent
constructor_value (Some p) = E p.0 p.1

abbrev pub constant_value : Known → Const → Value
constant_value k (const.B b) = B b
constant_value k (const.I n) = I n
constant_value k (const.E x) = constructor_value (k.constructors x)

-- the number that a clock or an arm compares with
abbrev pub own_number : Option (ℕ × ℕ) → ℕ
own_number None = 0
own_number (Some p) = p.1

abbrev pub cons_number : Known → Cons → ℕ
cons_number k cons.False = 0
cons_number k cons.True = 1
cons_number k (cons.Named x) = own_number (k.constructors x)

abbrev pub outputs_of : Option Node → List Decl
outputs_of None = []
outputs_of (Some n) = n.outputs

-- ---- types of values

abbrev pub first_value : FlatTy → Value
first_value flat.Bool = B false
first_value flat.Int = I (pos 0)
first_value (flat.Enum t) = E t 0

abbrev pub type_of_value : Value → FlatTy
type_of_value (I n) = flat.Int
type_of_value (E t c) = flat.Enum t
type_of_value v = flat.Bool

abbrev pub type_one : Op1 → FlatTy
type_one Not = flat.Bool
type_one Neg = flat.Int

abbrev pub type_two : Op2 → FlatTy
type_two Add = flat.Int
type_two Sub = flat.Int
type_two Mul = flat.Int
type_two Div = flat.Int
type_two Rem = flat.Int
type_two o = flat.Bool

-- ---- names of new variables: the part before the sign that no text has, the letter of this pass, and the number

abbrev pub stem : List ℕ → List ℕ
stem [] = []
stem (b ∷ bs) = if nat_eq b 36 then [] else b ∷ stem bs

abbrev pub new_name : List ℕ → ℕ → List ℕ
new_name x n = take 248 (stem x) ++ (codes "$x" ++ decimal n)

-- ---- what is made so far: variables, equations, and the flag of the block

pub record Sketch : Type 0 where
  pub variables : List VariableData
  pub eqns : List FlatEqn
  pub flag : Option ℕ

-- where equations are made: their clock, outermost first, of which the block has the first steps; and their restart list
pub record Site : Type 0 where
  pub clock : List (ℕ × ℕ)
  pub base : ℕ
  pub restart : List ℕ

abbrev pub Sight : Type 0
Sight = List ℕ → Entry

-- a sketch, and the number of a variable of it
abbrev pub Made : Type 0
Made = Sketch × ℕ

abbrev pub next : Sketch → ℕ
next d = length d.variables

abbrev pub with_variable : List ℕ → FlatTy → Sketch → Sketch
with_variable x t d = record d { variables = d.variables ++ record { name = x; ty = t } ∷ [] }

abbrev pub with_new : List ℕ → FlatTy → Sketch → Sketch
with_new x t d = with_variable (new_name x (next d)) t d

abbrev pub new_variable : List ℕ → FlatTy → Sketch → Made
new_variable x t d = (with_new x t d, next d)

abbrev pub with_eqn : Site → List ℕ → Right → Sketch → Sketch
with_eqn at targets right d = record d { eqns = d.eqns ++ record { targets = targets; clock = at.clock; right = right; restart = at.restart; at = 0 } ∷ [] }

-- a new variable with its equation
abbrev pub named_value : Site → List ℕ → FlatTy → Right → Sketch → Made
named_value at x t right d = (with_eqn at (next d ∷ []) right (with_new x t d), next d)

abbrev pub value_of : Site → FlatTy → Right → Sketch → Made
value_of at t right d = named_value at (codes "e") t right d

-- the type of a variable
abbrev pub type_of_variable : Option VariableData → FlatTy
type_of_variable None = flat.Bool
type_of_variable (Some v) = v.ty

abbrev pub type_at : Sketch → ℕ → FlatTy
type_at d x = type_of_variable (slice_get d.variables x)

abbrev pub atom_of : Option ℕ → Atom
atom_of None = Fixed Absent
atom_of (Some x) = Variable x

abbrev pub copy_of : Atom → Right
copy_of a = operator Copy (a ∷ [])

-- the value of what stands for a name, if anything does
abbrev pub read_at : Site → Option ℕ → FlatTy → Sketch → Made
read_at at source t d = value_of at t (copy_of (atom_of source)) d

abbrev pub mux_at : Site → ℕ → ℕ → ℕ → Sketch → Made
mux_at at c a b d = value_of at (type_at d a) (operator Mux (Variable c ∷ Variable a ∷ Variable b ∷ [])) d

abbrev pub register_at : Site → Value → ℕ → Sketch → Made
register_at at first x d = value_of at (type_at d x) (register first (Variable x)) d

-- a flag that is true where the place is there for the first time since it began anew; all places on the clock of the block have the same
abbrev pub new_flag : Site → Sketch → Made
new_flag at d = named_value at (codes "first") flat.Bool (register (B true) (Fixed (B false))) d

abbrev pub keep_flag : Made → Made
keep_flag m = (record m.0 { flag = Some m.1 }, m.1)

abbrev pub block_flag : Site → Option ℕ → Sketch → Made
block_flag at None d = keep_flag (new_flag at d)
block_flag at (Some x) d = (d, x)

abbrev pub flag_at : Site → Sketch → Made
flag_at at d = if nat_eq (length at.clock) at.base then block_flag at d.flag d else new_flag at d

-- what is made where there is a constant, or none
abbrev pub by_constant : Option Const → Made → (Const → Made) → Made
by_constant None m f = m
by_constant (Some c) m f = f c

-- ---- places

abbrev pub on_site : Site → ℕ → ℕ → Site
on_site at x c = record at { clock = at.clock ++ (x, c) ∷ [] }

-- a clock without its innermost step, where it has one beside those of the block
abbrev pub front_steps : List (ℕ × ℕ) → List (ℕ × ℕ)
front_steps [] = []
front_steps (s ∷ []) = []
front_steps (s ∷ t ∷ steps) = s ∷ front_steps (t ∷ steps)

abbrev pub off_site : Site → Site
off_site at = record at { clock = if nat_lt at.base (length at.clock) then front_steps at.clock else at.clock }

-- the variable that is tested for a name
abbrev pub tested : Option ℕ → Sketch → Made
tested None d = new_variable (codes "e") flat.Bool d
tested (Some x) d = (d, x)

-- ---- expressions

abbrev pub merged_variable : Option ℕ → FlatTy → Sketch → Made
merged_variable None t d = new_variable (codes "e") t d
merged_variable (Some x) t d = (d, x)

-- ---- what is known of the program

-- names take the values of the outputs of a call, of which so many are left from this one on
abbrev pub output_left : ℕ → List Decl → Option ℕ
output_left n [] = None
output_left n (o ∷ os) = Some n

abbrev pub others : List Decl → List Decl
others [] = []
others (o ∷ os) = os

abbrev pub numbers_from : ℕ → List Decl → List ℕ
numbers_from n [] = []
numbers_from n (o ∷ os) = n ∷ numbers_from (n + 1) os

-- the value of a call is that of its first output
abbrev pub first_output : Site → List Decl → Made → Made
first_output at [] m = new_variable (codes "e") flat.Bool m.0
first_output at (o ∷ os) m = read_at at (Some m.1) (type_at m.0 m.1) m.0

-- `a fby b`
abbrev pub fby_at : Site → ℕ → Made → Made
fby_at at a b =
    let held = register_at at (first_value (type_at b.0 b.1)) b.1 b.0 in
    let flag = flag_at at held.0 in
    mux_at at flag.1 a held.1 flag.0

abbrev pub arrow_at : Site → ℕ → Made → Made
arrow_at at a b = let flag = flag_at at b.0 in mux_at at flag.1 a b.1 flag.0

abbrev pub part_at : Site → Option ℕ → Made → Made
part_at at merged e =
    let m = merged_variable merged (type_at e.0 e.1) e.0 in
    (with_eqn at (m.1 ∷ []) (copy_of (Variable e.1)) m.0, m.1)

abbrev pub or_new : Sketch × Option ℕ → Made
or_new m = merged_variable m.1 flat.Bool m.0

-- what a block, or a control equation, says of names
abbrev pub Layer : Type 0
Layer = List ℕ → Option Entry

abbrev pub no_entry : Layer
no_entry x = None

abbrev pub put : List ℕ → Entry → Layer → Layer
put y e layer x = if bytes_eq y x then Some e else layer x

abbrev pub or_entry : Option Entry → Entry → Entry
or_entry None e = e
or_entry (Some e) f = e

abbrev pub over : Layer → Sight → Sight
over layer out x = or_entry (layer x) (out x)

-- the names on the left of an equation
abbrev pub left_names : List (List ℕ × Span) → List (List ℕ)
left_names ys = map (λ (y : List ℕ × Span). y.0) ys

-- the names that equations define, in the order of the text
abbrev pub names_of_eqns : Eqns → List (List ℕ)
names_of_eqns es = names_in es

abbrev pub names_of_eqn : Eqn → List (List ℕ)
names_of_eqn e = names_of e

abbrev pub names_of_block : Block → List (List ℕ)
names_of_block b = outer_names b

-- each of them once, where it comes first
abbrev pub is_in : List (List ℕ) → List ℕ → Bool
is_in [] x = false
is_in (y ∷ ys) x = bytes_eq y x || is_in ys x

abbrev pub each_once : List (List ℕ) → List (List ℕ) → List (List ℕ)
each_once seen [] = []
each_once seen (x ∷ xs) = if is_in seen x then each_once seen xs else x ∷ each_once (x ∷ seen) xs

-- a layer, and what is made
abbrev pub Seen : Type 0
Seen = Layer × Sketch

-- whether a block is the body of its node
pub data Standing : Type 0 where
  Body : Standing
  Inner : Standing

-- The variable of a name that a block defines. One that the body of a node declares on the base clock keeps its name.
abbrev pub is_plain : Option (List (Cons × List ℕ)) → Bool
is_plain None = true
is_plain (Some []) = true
is_plain (Some path) = false

abbrev pub keeps_name : List Decl → List ℕ → Bool
keeps_name [] x = false
keeps_name (d ∷ ds) x = if bytes_eq d.name x then is_plain d.clock else keeps_name ds x

abbrev pub own_variable : Standing → List Decl → List ℕ → FlatTy → Sketch → Made
own_variable Body ds x t d = if keeps_name ds x then (with_variable x t d, next d) else new_variable x t d
own_variable Inner ds x t d = new_variable x t d

abbrev pub with_own : List Decl → List ℕ → Entry → Layer → Made → Seen
with_own ds x e own m = (put x (record { ty = e.ty; value = Some m.1; last = e.last; is_local = declares ds x }) own, m.0)

-- an output is its own variable in the body
abbrev pub own_name : Standing → List Decl → Sight → List ℕ → Seen → Seen
own_name Body ds out x s = if declares ds x then with_own ds x (over s.0 out x) s.0 (own_variable Body ds x (over s.0 out x).ty s.1) else s
own_name Inner ds out x s = with_own ds x (over s.0 out x) s.0 (own_variable Inner ds x (over s.0 out x).ty s.1)

abbrev pub own_names : Standing → List Decl → Sight → List (List ℕ) → Seen → Seen
own_names standing ds out [] s = s
own_names standing ds out (x ∷ xs) s = own_names standing ds out xs (own_name standing ds out x s)

-- inside a control equation the last values are read of the names that it defines
abbrev pub hidden : List (List ℕ) → Sight → Layer
hidden names out x = if is_in names x then Some (record { ty = (out x).ty; value = (out x).last; last = (out x).last; is_local = false }) else None

-- the path of a declaration's clock, outermost first
abbrev pub path_written : Option (List (Cons × List ℕ)) → List (Cons × List ℕ)
path_written None = []
path_written (Some path) = path

abbrev pub path_of : List Decl → List ℕ → List (Cons × List ℕ)
path_of [] x = []
path_of (d ∷ ds) x = if bytes_eq d.name x then path_written d.clock else path_of ds x

-- how an expression tells its clock: the path of a name, with one step more or not
abbrev pub or_told : Option (List (Cons × List ℕ)) → Option (List (Cons × List ℕ)) → Option (List (Cons × List ℕ))
or_told None t = t
or_told (Some path) t = Some path

abbrev mutual
  pub path_told : List Decl → Expr → Option (List (Cons × List ℕ))
  path_told ds (constant s c) = None
  path_told ds (variable s x) = Some (path_of ds x)
  path_told ds (last_of s x) = Some []
  path_told ds (one s o a) = path_told ds a
  path_told ds (two s o a b) = or_told (path_told ds a) (path_told ds b)
  path_told ds (choose s a b c) = or_told (path_told ds a) (or_told (path_told ds b) (path_told ds c))
  path_told ds (pre s a) = path_told ds a
  path_told ds (fby s a b) = or_told (path_told ds a) (path_told ds b)
  path_told ds (arrow s a b) = or_told (path_told ds a) (path_told ds b)
  path_told ds (when_is s a c x) = Some (path_of ds x ++ (c, x) ∷ [])
  path_told ds (merge s x ps) = Some (path_of ds x)
  path_told ds (call s f i es) = paths_told ds es

  pub paths_told : List Decl → Exprs → Option (List (Cons × List ℕ))
  paths_told ds no_expr = None
  paths_told ds (more_exprs e es) = or_told (path_told ds e) (paths_told ds es)

abbrev pub or_base : Option (List (Cons × List ℕ)) → List (Cons × List ℕ)
or_base None = []
or_base (Some path) = path

abbrev pub path_for : List Decl → List (List ℕ × Span) → Expr → List (Cons × List ℕ)
path_for ds [] e = or_base (path_told ds e)
path_for ds (y ∷ ys) e = path_of ds y.0

-- the variable that stands for a name, if there is one, takes the value of another, and else of none
abbrev pub bind : Site → Option ℕ → Option ℕ → Sketch → Sketch
bind at None source d = d
bind at (Some x) source d = with_eqn at (x ∷ []) (copy_of (atom_of source)) d

abbrev pub bind_all : Sight → Site → List (List ℕ × Span) → ℕ → Sketch → Sketch
bind_all see at [] x d = d
bind_all see at (y ∷ ys) x d = bind_all see at ys x (bind at (see y.0).value (Some x) d)

abbrev pub bind_outputs : Sight → Site → List (List ℕ × Span) → ℕ → List Decl → Sketch → Sketch
bind_outputs see at [] n os d = d
bind_outputs see at (y ∷ ys) n os d = bind_outputs see at ys (n + 1) (others os) (bind at (see y.0).value (output_left n os) d)

-- what a block of a control equation gives a name: the variable that it has in the block, and its last value where the block leaves it out
abbrev pub given_by : Option Entry → Entry → Option ℕ
given_by None outside = outside.last
given_by (Some e) outside = if e.is_local then outside.last else e.value

abbrev pub link_all : Sight → Site → Layer → List (List ℕ) → Sketch → Sketch
link_all out at own [] d = d
link_all out at own (x ∷ xs) d = link_all out at own xs (bind at (out x).value (given_by (own x) (out x)) d)

-- a site that is the block's own
abbrev pub in_block : Site → Site
in_block at = record at { base = length at.clock }

abbrev pub with_flag : Option ℕ → Sketch → Sketch
with_flag f d = record d { flag = f }

abbrev pub restart_site : Site → ℕ → Site
restart_site at x = record at { restart = at.restart ++ x ∷ [] }

abbrev pub unknown : Sight
unknown x = record { ty = flat.Bool; value = None; last = None; is_local = false }

abbrev pub base_site : Site
base_site = record { clock = []; base = 0; restart = [] }

abbrev pub nothing_made : Sketch
nothing_made = record { variables = []; eqns = []; flag = None }

-- ---- what is made, where this is known of the program

module _ (k : Known) where
  abbrev pub with_outputs : List Decl → Sketch → Sketch
  with_outputs [] d = d
  with_outputs (o ∷ os) d = with_outputs os (with_new o.name (flat_type k.types o.ty) d)

  abbrev pub called_at : Site → List ℕ → List Atom → List Decl → Sketch → Made
  called_at at f args os d = (with_eqn at (numbers_from (next d) os) (called f args) (with_outputs os d), next d)

  abbrev mutual
    pub sketch_expr : Sight → Site → Expr → Sketch → Made
    sketch_expr see at (constant s c) d = value_of at (type_of_value (constant_value k c)) (copy_of (Fixed (constant_value k c))) d
    sketch_expr see at (variable s x) d = read_at at (see x).value (see x).ty d
    sketch_expr see at (last_of s x) d = read_at at (see x).last (see x).ty d
    sketch_expr see at (one s o a) d = let x = sketch_expr see at a d in value_of at (type_one o) (operator (obc_one o) (Variable x.1 ∷ [])) x.0
    sketch_expr see at (two s o a b) d =
        let x = sketch_expr see at a d in
        let y = sketch_expr see at b x.0 in
        value_of at (type_two o) (operator (obc_two o) (Variable x.1 ∷ Variable y.1 ∷ [])) y.0
    sketch_expr see at (choose s a b c) d =
        let x = sketch_expr see at a d in
        let y = sketch_expr see at b x.0 in
        let z = sketch_expr see at c y.0 in
        mux_at at x.1 y.1 z.1 z.0
    sketch_expr see at (pre s a) d = let x = sketch_expr see at a d in register_at at (first_value (type_at x.0 x.1)) x.1 x.0
    sketch_expr see at (fby s a b) d =
        by_constant (constant_in a) (let x = sketch_expr see at a d in fby_at at x.1 (sketch_expr see at b x.0))
        (λ c. let y = sketch_expr see at b d in register_at at (constant_value k c) y.1 y.0)
    sketch_expr see at (arrow s a b) d = let x = sketch_expr see at a d in arrow_at at x.1 (sketch_expr see at b x.0)
    sketch_expr see at (when_is s a c x) d = let y = sketch_expr see (off_site at) a d in read_at at (Some y.1) (type_at y.0 y.1) y.0
    sketch_expr see at (merge s x ps) d = let t = tested (see x).value d in or_new (sketch_parts see at t.1 None ps t.0)
    sketch_expr see at (call s f inlined es) d =
        let args = sketch_exprs see at es d in
        first_output at (outputs_of (k.nodes f)) (called_at at f args.1 (outputs_of (k.nodes f)) args.0)

    -- the variable of a merge, once it has one
    pub sketch_parts : Sight → Site → ℕ → Option ℕ → Parts → Sketch → Sketch × Option ℕ
    sketch_parts see at t merged no_part d = (d, merged)
    sketch_parts see at t merged (more_parts c e ps) d =
        let on = on_site at t (cons_number k c) in
        let m = part_at on merged (sketch_expr see on e d) in
        sketch_parts see at t (Some m.1) ps m.0

    pub sketch_exprs : Sight → Site → Exprs → Sketch → Sketch × List Atom
    sketch_exprs see at no_expr d = (d, [])
    sketch_exprs see at (more_exprs e es) d =
        let x = sketch_expr see at e d in
        let rest = sketch_exprs see at es x.0 in
        (rest.0, Variable x.1 ∷ rest.1)

  -- ---- what names stand for

  abbrev pub type_declared : List Decl → List ℕ → FlatTy
  type_declared [] x = flat.Bool
  type_declared (d ∷ ds) x = if bytes_eq d.name x then flat_type k.types d.ty else type_declared ds x

  -- what a block declares stands, as far as nothing defines it, for what stood there
  abbrev pub declared : List Decl → Sight → Layer
  declared ds out x = if declares ds x then Some (record { ty = type_declared ds x; value = (out x).value; last = (out x).last; is_local = true }) else None

  -- the last value of what is declared with one
  abbrev pub remember : Site → Sight → Decl → Option Const → Seen → Seen
  remember at out d None s = s
  remember at out d (Some c) s =
      let e = over s.0 out d.name in
      let m = named_value at (codes "last") e.ty (register (constant_value k c) (atom_of e.value)) s.1 in
      (put d.name (record { ty = e.ty; value = e.value; last = Some m.1; is_local = e.is_local }) s.0, m.0)

  abbrev pub remember_all : Site → Sight → List Decl → Seen → Seen
  remember_all at out [] s = s
  remember_all at out (d ∷ ds) s = remember_all at out ds (remember at out d d.last s)

  -- ---- equations

  -- the site on the clock of a path
  abbrev pub enter_path : Sight → List (Cons × List ℕ) → Site → Sketch → Site × Sketch
  enter_path see [] at d = (at, d)
  enter_path see (s ∷ path) at d = let t = tested (see s.1).value d in enter_path see path (on_site at t.1 (cons_number k s.0)) t.0

  abbrev pub sketch_right : Sight → Site → List (List ℕ × Span) → Expr → Sketch → Sketch
  sketch_right see at ys (call s f inlined es) d =
      let args = sketch_exprs see at es d in
      let c = called_at at f args.1 (outputs_of (k.nodes f)) args.0 in
      bind_outputs see at ys c.1 (outputs_of (k.nodes f)) c.0
  sketch_right see at ys e d = let x = sketch_expr see at e d in bind_all see at ys x.1 x.0

  abbrev pub sketch_definition : Sight → Site → List Decl → List (List ℕ × Span) → Expr → Sketch → Sketch
  sketch_definition see at ds ys e d = let p = enter_path see (path_for ds ys e) at d in sketch_right see p.0 ys e p.1

  -- the layer of a block before its equations
  abbrev pub block_layer : Standing → Sight → Site → List Decl → List (List ℕ) → Sketch → Seen
  block_layer standing out at ds names d = remember_all at out ds (own_names standing ds out names (declared ds out, d))

  abbrev mutual
    pub sketch_block : Standing → Sight → Site → Block → Sketch → Seen
    sketch_block standing out at (block ds es) d =
        let s = block_layer standing out at ds (each_once [] (names_of_eqns es)) d in
        (s.0, sketch_eqns (over s.0 out) at ds es s.1)

    pub sketch_eqns : Sight → Site → List Decl → Eqns → Sketch → Sketch
    sketch_eqns see at ds no_eqn d = d
    sketch_eqns see at ds (more_eqns e es) d = sketch_eqns see at ds es (sketch_eqn see at ds e d)

    pub sketch_eqn : Sight → Site → List Decl → Eqn → Sketch → Sketch
    sketch_eqn see at ds (define s ys e) d = sketch_definition see at ds ys e d
    sketch_eqn see at ds (switch s e arms) d =
        let names = each_once [] (names_of_arms arms) in
        let t = sketch_expr see at e d in
        sketch_arms see (over (hidden names see) see) at names t.1 arms t.0
    sketch_eqn see at ds (reset s b e) d =
        let names = each_once [] (names_of_block b) in
        if is_false e
        then (let m = sketch_block Inner (over (hidden names see) see) at b d in link_all see at m.0 names m.1)
        else (let t = sketch_expr see at e d in
        let m = sketch_block Inner (over (hidden names see) see) (in_block (restart_site at t.1)) b (with_flag None t.0) in
        link_all see at m.0 names (with_flag t.0.flag m.1))
    sketch_eqn see at ds (automaton s ss) d = d

    pub sketch_arms : Sight → Sight → Site → List (List ℕ) → ℕ → Arms → Sketch → Sketch
    sketch_arms see inside at names t no_arm d = d
    sketch_arms see inside at names t (more_arms c b s arms) d =
        let on = on_site at t (cons_number k c) in
        let m = sketch_block Inner inside (in_block on) b (with_flag None d) in
        sketch_arms see inside at names t arms (with_flag d.flag (link_all see on m.0 names m.1))

  -- ---- nodes

  abbrev pub signed : List Decl → Seen → Seen
  signed [] s = s
  signed (d ∷ ds) s =
      signed ds (put d.name (record { ty = flat_type k.types d.ty; value = Some (next s.1); last = None; is_local = true }) s.0, with_variable d.name (flat_type k.types d.ty) s.1)

  abbrev pub signature : Node → Seen
  signature n = signed n.outputs (signed (controls_of n.contract) (signed n.inputs (no_entry, nothing_made)))

  abbrev pub sketch_node : Node → Sketch
  sketch_node n =
      let s = remember_all base_site unknown n.outputs (signature n) in
      (sketch_block Body (over s.0 unknown) base_site n.body s.1).1
