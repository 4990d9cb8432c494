-- The wires of names: what blocks, control equations and nodes say of them.
use Rattle.std.specs.Prelude.{ℕ, zero, suc, ◌+◌, Bool, true, false, if◌then◌else◌, ◌||◌, List, [], ◌∷◌, ◌++◌, Option, None, Some}
use Rattle.std.specs.Str.{bytes_eq}
use Rattle.hp_base.specs.declared.span.Span.{Span}
use Rattle.hp_base.specs.declared.ty.Const.{Const}
use Rattle.hp_circuit.specs.declared.circuit.Shape.{Shape}
use Rattle.hp_circuit.specs.declared.circuit.Shape.TheVariants.{Truth}
use Rattle.hp_tree.specs.Blocks.{Decl, Block, block, Eqns, no_eqn, more_eqns, Eqn, define, switch, reset, automaton, Arms, no_arm, more_arms, States, no_state, more_states}
use Rattle.hp_drawing.specs.declared.parts.Entry.{Entry}
use Rattle.hp_drawing.specs.declared.parts.Place.{Place}
use Rattle.hp_drawing.specs.declared.parts.Value.{Value}
use Rattle.hp_drawing.specs.Kept.{is_mark}
use Rattle.hp_drawing.specs.Told.{Told, type_shape, constant_number, or_none}
use Rattle.hp_drawing.specs.Sketch.{Sketch, value, mark, hole, read}
use Rattle.hp_drawing.specs.Places.{new_register, takes, chain_add, chain_end}

-- ---- what is said of a name

-- a name that has this wire
abbrev pub entry_at : ℕ → Shape → Entry
entry_at w p = record { wire = Some w; shape = p; hole = w; decl = None }

-- the same, of the declaration of this number
abbrev pub local_entry : ℕ → ℕ → Shape → Entry
local_entry k w p = record { wire = Some w; shape = p; hole = w; decl = Some k }

-- a name without a value
abbrev pub unseen_entry : Shape → Entry
unseen_entry p = record { wire = None; shape = p; hole = 0; decl = None }

abbrev pub value_by : Option Entry → Value
value_by None = value 0 Truth
value_by (Some e) = value (or_none e.wire) e.shape

abbrev pub wire_by : Option Entry → Option ℕ
wire_by None = None
wire_by (Some e) = e.wire

abbrev pub shape_by : Option Entry → Shape
shape_by None = Truth
shape_by (Some e) = e.shape

abbrev pub decl_by : Option Entry → Option ℕ
decl_by None = None
decl_by (Some e) = e.decl

-- ---- layers: what is said of names, in the order in which it was said

abbrev pub Layer : Type 0
Layer = List (List ℕ × Entry)

abbrev pub entry_if : Bool → Entry → Option Entry → Option Entry
entry_if true e other = Some e
entry_if false e other = other

abbrev pub entry_in : Layer → List ℕ → Option Entry
entry_in [] x = None
entry_in (p ∷ l) x = entry_if (bytes_eq x p.0) p.1 (entry_in l x)

abbrev pub put_if : Bool → List ℕ × Entry → Entry → Layer → Layer → Layer
put_if true p e l other = (p.0, e) ∷ l
put_if false p e l other = p ∷ other

-- one name more; what was said of it before is said no more
abbrev pub put : Layer → List ℕ → Entry → Layer
put [] x e = (x, e) ∷ []
put (p ∷ l) x e = put_if (bytes_eq x p.0) p e l (put l x e)

-- one name more, if nothing is said of it yet
abbrev pub add_if : Option Entry → Layer → List ℕ → Entry → Layer
add_if None l x e = put l x e
add_if (Some old) l x e = l

abbrev pub add : Layer → List ℕ → Entry → Layer
add l x e = add_if (entry_in l x) l x e

-- ---- scopes: the layers of names, and of their last values, the innermost first

pub record Scope : Type 0 where
  pub values : List Layer
  pub lasts : List Layer

abbrev pub no_scope : Scope
no_scope = record { values = []; lasts = [] }

abbrev pub or_found : Option Entry → Option Entry → Option Entry
or_found None other = other
or_found (Some e) other = Some e

-- what the innermost layer that knows the name says of it
abbrev pub found : List Layer → List ℕ → Option Entry
found [] x = None
found (l ∷ ls) x = or_found (entry_in l x) (found ls x)

abbrev pub innermost : List Layer → Layer
innermost [] = []
innermost (l ∷ ls) = l

abbrev pub outer_layers : List Layer → List Layer
outer_layers [] = []
outer_layers (l ∷ ls) = ls

unfoldable pub push_values : Layer → Scope → Scope
push_values l z = record z { values = l ∷ z.values }

unfoldable pub push_lasts : Layer → Scope → Scope
push_lasts l z = record z { lasts = l ∷ z.lasts }

unfoldable pub pop_values : Scope → Scope
pop_values z = record z { values = outer_layers z.values }

unfoldable pub pop_lasts : Scope → Scope
pop_lasts z = record z { lasts = outer_layers z.lasts }

unfoldable pub top_layer : Scope → Layer
top_layer z = innermost z.values

-- the wire of a name, of its last value, what it carries, and what the innermost layer says of it
unfoldable pub value_in : Scope → List ℕ → Value
value_in z x = value_by (found z.values x)

unfoldable pub last_in : Scope → List ℕ → Value
last_in z x = value_by (found z.lasts x)

unfoldable pub last_wire : Scope → List ℕ → Option ℕ
last_wire z x = wire_by (found z.lasts x)

unfoldable pub shapes_in : Scope → List ℕ → Shape
shapes_in z x = shape_by (found z.values x)

unfoldable pub own_entry : Scope → List ℕ → Option Entry
own_entry z x = entry_in (innermost z.values) x

-- ---- names that equations define, one as often as it is defined

abbrev pub left_names : List (List ℕ × Span) → List (List ℕ)
left_names [] = []
left_names (p ∷ ps) = p.0 ∷ left_names ps

abbrev pub is_declared : List Decl → List ℕ → Bool
is_declared [] x = false
is_declared (d ∷ ds) x = bytes_eq d.name x || is_declared ds x

abbrev pub unknown_name : (List ℕ → Bool) → List ℕ → List (List ℕ)
unknown_name known x = if known x then [] else x ∷ []

abbrev pub unknown_names : (List ℕ → Bool) → List (List ℕ) → List (List ℕ)
unknown_names known [] = []
unknown_names known (x ∷ xs) = unknown_name known x ++ unknown_names known xs

abbrev mutual
  pub names_of_eqns : Eqns → List (List ℕ)
  names_of_eqns no_eqn = []
  names_of_eqns (more_eqns e es) = names_of_eqn e ++ names_of_eqns es

  pub names_of_eqn : Eqn → List (List ℕ)
  names_of_eqn (define s ys e) = left_names ys
  names_of_eqn (switch s e arms) = names_of_arms arms
  names_of_eqn (reset s b e) = outer_names b
  names_of_eqn (automaton s ss) = names_of_states ss

  pub names_of_arms : Arms → List (List ℕ)
  names_of_arms no_arm = []
  names_of_arms (more_arms c b s arms) = outer_names b ++ names_of_arms arms

  pub names_of_states : States → List (List ℕ)
  names_of_states no_state = []
  names_of_states (more_states f b until unless s ss) = outer_names b ++ names_of_states ss

  -- those that a block defines and does not declare
  pub outer_names : Block → List (List ℕ)
  outer_names (block ds es) = unknown_names (is_declared ds) (names_of_eqns es)

-- ---- last values

-- The last value of a variable with this wire, and the number that it has at first. That of an integer is no register.
abbrev pub last_entry_if : Bool → Place → ℕ → Shape → ℕ → Sketch → Entry × Sketch
last_entry_if true place first p w s = let m = mark s in (entry_at m.0 p, m.1)
last_entry_if false place first p w s =
    let r = new_register place first p s in
    (entry_at r.0.read p, takes r.0 place w r.1)

unfoldable pub last_entry : Place → ℕ → Shape → ℕ → Sketch → Entry × Sketch
last_entry place first p w s = last_entry_if (is_mark p) place first p w s

abbrev pub wire_in : Layer → List ℕ → ℕ
wire_in l x = or_none (wire_by (entry_in l x))

abbrev pub add_constant : Told → Place → Decl → Const → Layer → Layer → Sketch → Layer × Sketch
add_constant t place d c values lasts s =
    let e = last_entry place (constant_number t c) (type_shape t d.ty) (wire_in values d.name) s in
    (put lasts d.name e.0, e.1)

-- the last value of a variable, if it is declared so
abbrev pub add_last : Told → Place → Decl → Option Const → Layer → Layer → Sketch → Layer × Sketch
add_last t place d None values lasts s = (lasts, s)
add_last t place d (Some c) values lasts s = add_constant t place d c values lasts s

-- `values` are the wires of the variables
abbrev pub add_lasts : Told → Place → List Decl → Layer → Layer → Sketch → Layer × Sketch
add_lasts t place [] values lasts s = (lasts, s)
add_lasts t place (d ∷ ds) values lasts s =
    let a = add_last t place d d.last values lasts s in
    add_lasts t place ds values a.0 a.1

-- ---- entering and leaving blocks

-- variables that a block declares, numbered from k on, with wires that are said later
abbrev pub put_locals : Told → ℕ → List Decl → Layer → Sketch → Layer × Sketch
put_locals t k [] l s = (l, s)
put_locals t k (d ∷ ds) l s =
    let w = hole (type_shape t d.ty) s in
    put_locals t (k + 1) ds (add l d.name (local_entry k w.0 (type_shape t d.ty))) w.1

-- a name that a block defines, and did not declare
abbrev pub put_name_if : Option Entry → Shape → List ℕ → Layer → Sketch → Layer × Sketch
put_name_if (Some e) p x l s = (l, s)
put_name_if None p x l s = let w = hole p s in (put l x (entry_at w.0 p), w.1)

abbrev pub put_name : Scope → List ℕ → Layer → Sketch → Layer × Sketch
put_name z x l s = put_name_if (entry_in l x) (shapes_in z x) x l s

abbrev pub put_names : Scope → List (List ℕ) → Layer → Sketch → Layer × Sketch
put_names z [] l s = (l, s)
put_names z (x ∷ xs) l s = let a = put_name z x l s in put_names z xs a.0 a.1

-- what a block says of the names that it declares or defines
unfoldable pub own_layer : Told → Scope → List Decl → Eqns → Sketch → Layer × Sketch
own_layer t z ds es s =
    let a = put_locals t 0 ds [] s in
    put_names z (names_of_eqns es) a.0 a.1

unfoldable pub enter : Told → Scope → Place → List Decl → Eqns → Sketch → Scope × Sketch
enter t z place ds es s =
    let own = own_layer t z ds es s in
    let lasts = add_lasts t place ds own.0 [] own.1 in
    (push_lasts lasts.0 (push_values own.0 z), lasts.1)

abbrev pub leave : Scope → Scope
leave z = pop_lasts (pop_values z)

-- ---- control equations

-- a name that a control equation defines is hidden in it: its last value is read there
abbrev pub hidden_entry : Entry → Option ℕ → Entry
hidden_entry own last = record own { wire = last }

abbrev pub hide_name_by : Option Entry → Option ℕ → List ℕ → Layer → Layer
hide_name_by None last x l = l
hide_name_by (Some own) last x l = add l x (hidden_entry own last)

abbrev pub hide_name : Scope → List ℕ → Layer → Layer
hide_name z x l = hide_name_by (own_entry z x) (last_wire z x) x l

abbrev pub hide_names : Scope → List (List ℕ) → Layer → Layer
hide_names z [] l = l
hide_names z (x ∷ xs) l = hide_names z xs (hide_name z x l)

unfoldable pub hide : Scope → Eqn → Scope
hide z e = push_values (hide_names z (names_of_eqn e) []) z

-- what a block gives to a hidden name: its wire there, or that of its last value
abbrev pub own_wire : Option ℕ → Option ℕ → Option ℕ → Option ℕ
own_wire None own hidden = own
own_wire (Some k) own hidden = hidden

abbrev pub branch_wire : Option Entry → Option ℕ → Option ℕ
branch_wire None hidden = hidden
branch_wire (Some e) hidden = own_wire e.decl e.wire hidden

abbrev pub branch_value : Layer → List ℕ → Entry → Value
branch_value own x hidden = value (or_none (branch_wire (entry_in own x) hidden.wire)) hidden.shape

abbrev pub with_hole : Entry → ℕ → Entry
with_hole e w = record e { hole = w }

-- the wire that is to be said next, of the name of a number
abbrev pub set_hole : Layer → ℕ → ℕ → Layer
set_hole [] k w = []
set_hole (p ∷ l) zero w = (p.0, with_hole p.1 w) ∷ l
set_hole (p ∷ l) (suc k) w = p ∷ set_hole l k w

-- the names of a control equation are what the block gives where the condition holds
abbrev pub join_name : Layer → ℕ → List ℕ → Entry → Sketch → ℕ × Sketch
join_name own c x e s = chain_add e.hole c (branch_value own x e) s

abbrev pub join_names : Layer → ℕ → Layer → Sketch → Layer × Sketch
join_names own c [] s = ([], s)
join_names own c (p ∷ hidden) s =
    let rest = join_name own c p.0 p.1 s in
    let others = join_names own c hidden rest.1 in
    ((p.0, with_hole p.1 rest.0) ∷ others.0, others.1)

abbrev pub join_layers : Layer → ℕ → List Layer → Sketch → List Layer × Sketch
join_layers own c [] s = ([], s)
join_layers own c (hidden ∷ ls) s = let joined = join_names own c hidden s in (joined.0 ∷ ls, joined.1)

-- leaving a block of a control equation, which is taken where the condition holds
unfoldable pub join : ℕ → Scope → Sketch → Scope × Sketch
join c z s =
    let joined = join_layers (top_layer z) c (outer_layers z.values) s in
    (record { values = joined.0; lasts = outer_layers z.lasts }, joined.1)

-- the names of the control equation read the wire
abbrev pub read_by_names : Layer → ℕ → Sketch → Sketch
read_by_names [] w s = s
read_by_names (p ∷ l) w s = read_by_names l w (read p.1.hole w s)

unfoldable pub read_by_hidden : Scope → ℕ → Sketch → Sketch
read_by_hidden z w s = read_by_names (top_layer z) w s

-- the names of a layer are zeros where nothing has said what they are
abbrev pub end_name : Entry → Sketch → Sketch
end_name e s = if is_mark e.shape then s else chain_end e.hole s

abbrev pub end_names : Layer → Sketch → Sketch
end_names [] s = s
end_names (p ∷ l) s = end_names l (end_name p.1 s)

-- leaving a control equation
unfoldable pub end_hidden : Scope → Sketch → Sketch
end_hidden z s = end_names (top_layer z) s
