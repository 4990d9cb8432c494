-- What is made at a place, step by step as the code makes it.
use Rattle.std.specs.Prelude.{ℕ, true, false, List, [], ◌∷◌, Option, None, Some, codes, if◌then◌else◌}
use Rattle.std.specs.Borrow.{Bor}
use Rattle.hp_base.specs.declared.span.Span.{Span}
use Rattle.hp_base.specs.declared.ty.Const.{Const}
use Rattle.hp_tree.specs.declared.decl.Cons.{Cons}
use Rattle.hp_tree.specs.Expressions.{Expr, Exprs, Parts}
use Rattle.hp_tree.specs.Blocks.{Decl, Block, Eqn, Eqns, Arms}
use Rattle.hp_tree.specs.Programs.{Node}
use Rattle.hp_tree.specs.Meaning.{controls_of}
use Rattle.hp_flat.specs.declared.equation.Atom.{Atom}
use Rattle.hp_flat.specs.declared.node.FlatTy.TheVariants as flat
use Rattle.law_equations.specs.Flattened.Flatten.{constant_in, is_false}
use Rattle.law_equations.specs.Made.Making.{Known, Layer, Sight, Site, Sketch, Made, Seen, Standing, Body, Inner, put, over, hidden, flat_type, type_at, new_variable, read_at, bind, by_constant, constant_value, fby_at, register_at, off_site, on_site, part_at, tested, or_new, called_at, outputs_of, first_output, own_variable, with_own, own_names, block_layer, in_block, restart_site, with_flag, cons_number, link_all, enter_path, signed, remember_all, sketch_expr, sketch_exprs, sketch_parts, sketch_block, sketch_eqns, sketch_eqn, sketch_arms}
use Rattle.hp_complete.specs.declared.block.Standing as code_standing
use Rattle.hp_complete.specs.declared.block.Standing.TheVariants as code
use Rattle.hp_complete.specs.Places.{Place, saying, sees, sees_around, sees_beyond, within}

-- ---- expressions

abbrev pub expr_made : Place → Expr → Sketch → Made
expr_made p e d = sketch_expr p.known (sees p) p.site e d

abbrev pub exprs_made : Place → Exprs → Sketch → Sketch × List Atom
exprs_made p es d = sketch_exprs p.known (sees p) p.site es d

abbrev pub parts_made : Place → ℕ → Option ℕ → Parts → Sketch → Sketch × Option ℕ
parts_made p t merged ps d = sketch_parts p.known (sees p) p.site t merged ps d

abbrev pub fby_made : Place → Expr → Expr → Sketch → Made
fby_made p a b d =
    by_constant (constant_in a) (let x = expr_made p a d in fby_at p.site x.1 (expr_made p b x.0))
    (λ c. let y = expr_made p b d in register_at p.site (constant_value p.known c) y.1 y.0)

abbrev pub when_made : Place → Expr → Sketch → Made
when_made p a d = let y = sketch_expr p.known (sees p) (off_site p.site) a d in read_at p.site (Some y.1) (type_at y.0 y.1) y.0

abbrev pub part_made : Place → ℕ → Option ℕ → Cons → Expr → Sketch → Made
part_made p t merged c e d = let on = on_site p.site t (cons_number p.known c) in part_at on merged (sketch_expr p.known (sees p) on e d)

abbrev pub merge_made : Place → List ℕ → Parts → Sketch → Made
merge_made p x ps d = let t = tested (sees p x).value d in or_new (parts_made p t.1 None ps t.0)

abbrev pub call_made : Place → List ℕ → Exprs → Sketch → Made
call_made p f es d = let args = exprs_made p es d in called_at p.known p.site f args.1 (outputs_of (p.known.nodes f)) args.0

abbrev pub called_made : Place → List ℕ → Exprs → Sketch → Made
called_made p f es d = first_output p.site (outputs_of (p.known.nodes f)) (call_made p f es d)

-- a constant, as the code holds it
abbrev pub const_seen : Option (Bor Const) → Option Const
const_seen None = None
const_seen (Some c) = Some c.now

-- the value of a call, of which these are the variables of the outputs
abbrev pub first_of : Site → List ℕ → Sketch → Made
first_of at [] d = new_variable (codes "e") flat.Bool d
first_of at (x ∷ xs) d = read_at at (Some x) (type_at d x) d

-- names take the values of these variables, each of one
abbrev pub number_left : List ℕ → Option ℕ
number_left [] = None
number_left (x ∷ xs) = Some x

abbrev pub numbers_left : List ℕ → List ℕ
numbers_left [] = []
numbers_left (x ∷ xs) = xs

abbrev pub bind_each : Sight → Site → List (List ℕ × Span) → List ℕ → Sketch → Sketch
bind_each see at [] xs d = d
bind_each see at (y ∷ ys) xs d = bind_each see at ys (numbers_left xs) (bind at (see y.0).value (number_left xs) d)

-- ---- what names stand for

abbrev pub standing_of : code_standing.Standing → Standing
standing_of code.Body = Body
standing_of code.Inner = Inner

-- what a block declares, beside what is said before; of two declarations of one name the first counts
abbrev pub declaring : Known → List Decl → Sight → Layer → Layer
declaring k [] out own = own
declaring k (d ∷ ds) out own = put d.name (record { ty = flat_type k.types d.ty; value = (out d.name).value; last = (out d.name).last; is_local = true }) (declaring k ds out own)

-- names that stand for their last values, beside what is said before
abbrev pub hiding : List (List ℕ) → Sight → Layer → Layer
hiding [] out own = own
hiding (x ∷ xs) out own = hiding xs out (put x (record { ty = (out x).ty; value = (out x).last; last = (out x).last; is_local = false }) own)

-- the place where these are declared, or hidden, or owned by a block, or remembered, or variables of the node; and what is made
abbrev pub declared_at : List Decl → Place → Place
declared_at ds p = saying (declaring p.known ds (sees_around p) p.own) p

abbrev pub hidden_at : List (List ℕ) → Place → Place
hidden_at names p = saying (hiding names (sees_around p) p.own) p

abbrev pub owned_at : Standing → List Decl → List (List ℕ) → Place → Sketch → Seen
owned_at standing ds names p d = own_names standing ds (sees_around p) names (p.own, d)

abbrev pub remembered_at : List Decl → Place → Sketch → Seen
remembered_at ds p d = remember_all p.known p.site (sees_around p) ds (p.own, d)

abbrev pub signed_at : List Decl → Place → Sketch → Seen
signed_at ds p d = signed p.known ds (p.own, d)

-- the names take what the block gives them at whose place this is
abbrev pub linked_at : List (List ℕ) → Place → Sketch → Sketch
linked_at names p d = link_all (sees_beyond p) p.site p.own names d

-- a name that a block defines
abbrev pub own_made : Place → Standing → List Decl → List ℕ → Sketch → Seen
own_made p standing ds x d = with_own ds x (sees p x) p.own (own_variable standing ds x (sees p x).ty d)

-- the layer of a block at this place, before its equations
abbrev pub layer_made : Standing → Place → List Decl → List (List ℕ) → Sketch → Seen
layer_made standing p ds names d = block_layer p.known standing (sees p) p.site ds names d

-- ---- equations

abbrev pub block_made : Standing → Place → Block → Sketch → Seen
block_made standing p b d = sketch_block p.known standing (sees p) p.site b d

abbrev pub eqns_made : Place → List Decl → Eqns → Sketch → Sketch
eqns_made p ds es d = sketch_eqns p.known (sees p) p.site ds es d

abbrev pub eqn_made : Place → List Decl → Eqn → Sketch → Sketch
eqn_made p ds e d = sketch_eqn p.known (sees p) p.site ds e d

-- where the names that a control equation defines are hidden
abbrev pub sees_hidden : List (List ℕ) → Sight → Sight
sees_hidden names see = over (hidden names see) see

abbrev pub switch_made : Place → List (List ℕ) → Expr → Arms → Sketch → Sketch
switch_made p names e arms d = let t = expr_made p e d in sketch_arms p.known (sees p) (sees_hidden names (sees p)) p.site names t.1 arms t.0

-- the arms of a control equation, and one of them, at the place in which the names are hidden
abbrev pub arms_made : Place → List (List ℕ) → ℕ → Arms → Sketch → Sketch
arms_made p names t arms d = sketch_arms p.known (sees_around p) (sees p) p.site names t arms d

abbrev pub arm_made : Place → List (List ℕ) → ℕ → Cons → Block → Sketch → Sketch
arm_made p names t c b d =
    let on = on_site p.site t (cons_number p.known c) in
    let m = sketch_block p.known Inner (sees p) (in_block on) b (with_flag None d) in
    with_flag d.flag (link_all (sees_around p) on m.0 names m.1)

-- a block that begins anew where a variable is true
abbrev pub restarted_made : Place → ℕ → Block → Sketch → Seen
restarted_made p t b d = let m = sketch_block p.known Inner (sees p) (in_block (restart_site p.site t)) b (with_flag None d) in (m.0, with_flag d.flag m.1)

-- the block of a `reset`
abbrev pub reset_block : Place → List (List ℕ) → Expr → Block → Sketch → Seen
reset_block p names e b d =
    if is_false e
    then sketch_block p.known Inner (sees_hidden names (sees p)) p.site b d
    else (let t = expr_made p e d in restarted_made (within (hidden names (sees p)) p) t.1 b t.0)

abbrev pub reset_made : Place → List (List ℕ) → Expr → Block → Sketch → Sketch
reset_made p names e b d = let m = reset_block p names e b d in link_all (sees p) p.site m.0 names m.1

-- on the clock of a path
abbrev pub entered : Place → List (Cons × List ℕ) → Sketch → Site × Sketch
entered p path d = enter_path p.known (sees p) path p.site d

-- ---- nodes

abbrev pub signed_made : Place → Node → Sketch → Seen
signed_made p n d = signed p.known n.outputs (signed p.known (controls_of n.contract) (signed p.known n.inputs (p.own, d)))

abbrev pub filled : Place → Node → Sketch → Sketch
filled p n d =
    let s = remember_all p.known p.site (sees_around p) n.outputs (p.own, d) in
    (sketch_block p.known Body (over s.0 (sees_around p)) p.site n.body s.1).1
