-- What the places of a node hold at an instant.
-- Source: Colaço, Pagano and Pouzet (EMSOFT 2005), with the clocked equations of Biernacki and others (LCTES 2008) and the contracts of Delaval, Marchand and Rutten (LCTES 2010). They are equations between the places of one instant, given its past; there is no order in them.
use Rattle.std.specs.Prelude.{ℕ, suc, Bool, false, ◌||◌, ◌&&◌, not, nat_eq, if◌then◌else◌, List, [], ◌∷◌, map, reverse, Option, None, Some}
use Rattle.std.specs.Str.{bytes_eq}
use Rattle.hp_base.specs.declared.value.Value.{Value}
use Rattle.hp_base.specs.declared.value.Value.TheVariants.{Absent, Nil, B, E}
use Rattle.hp_base.specs.declared.span.Span.{Span}
use Rattle.hp_tree.specs.declared.block.Trans.{Trans}
use Rattle.hp_base.specs.declared.ty.Const.{Const}
use Rattle.hp_tree.specs.declared.decl.Cons.{Cons}
use Rattle.hp_tree.specs.declared.program.Item.{Item}
use Rattle.hp_tree.specs.declared.program.Item.TheVariants.{TypeItem, NodeItem}
use Rattle.hp_tree.specs.Expressions.{Expr, constant, variable, last_of, one, two, choose, pre, fby, arrow, when_is, merge, call, Exprs, no_expr, more_exprs, Parts, no_part, more_parts}
use Rattle.hp_tree.specs.Blocks.{Decl, Block, block, Eqns, no_eqn, more_eqns, Eqn, define, switch, reset, automaton, Arms, no_arm, more_arms, States, no_state, more_states}
use Rattle.hp_tree.specs.Programs.{TypeDecl, Contract, Node}
use Rattle.hp_tree.specs.Operators.{constant_of, is_cons, is_true, if_of, Reading}
use Rattle.hp_tree.specs.Instant.{Controls, Body, Observer, Assume, Enforce, Named, Equations, Head, Tail, Right, Test, Arms as ArmsOf, States as StatesOf, Until, Unless, Next, Pending, First, Second, Third, Args, Instance, Instant, Past, Given, at, part, parts, top, since, newest, at_first, nothing, alone, with_one, with_two, with_three, in_row, with_row, with_instance, of_two, in_block, in_right, with_arms, with_body, in_state, with_words, in_observer, in_node, Clock, holds, without}

-- the values of names
abbrev pub Names : Type 0
Names = List ℕ → Value

-- ---- what blocks declare and define

abbrev pub is_among : List (List ℕ × Span) → List ℕ → Bool
is_among [] x = false
is_among (y ∷ ys) x = bytes_eq y.0 x || is_among ys x

abbrev pub declares : List Decl → List ℕ → Bool
declares [] x = false
declares (d ∷ ds) x = bytes_eq d.name x || declares ds x

-- whether an equation defines a name; what a block declares itself it does not define for the blocks around it
abbrev mutual
  pub defines : Eqn → List ℕ → Bool
  defines (define s ys e) x = is_among ys x
  defines (switch s e arms) x = arms_define arms x
  defines (reset s b e) x = block_defines b x
  defines (automaton s ss) x = states_define ss x

  pub some_defines : Eqns → List ℕ → Bool
  some_defines no_eqn x = false
  some_defines (more_eqns e es) x = defines e x || some_defines es x

  pub arms_define : Arms → List ℕ → Bool
  arms_define no_arm x = false
  arms_define (more_arms c b s arms) x = block_defines b x || arms_define arms x

  pub states_define : States → List ℕ → Bool
  states_define no_state x = false
  states_define (more_states f b until unless s ss) x = block_defines b x || states_define ss x

  pub block_defines : Block → List ℕ → Bool
  block_defines (block ds es) x = some_defines es x && not (declares ds x)

-- ---- how names are read

-- a name that a block defines is read there, and every other one further out
abbrev pub inside : Eqns → Names → Instant → Names
inside es out now x = if some_defines es x then now (Named x ∷ []) else out x

-- inside the control equation that defines a name, its last value is read
abbrev pub within : Eqn → Names → Names → Names
within e out last x = if defines e x then last x else out x

-- the last value of a name at the place where it is declared: that of the newest instant, or the first one
abbrev pub previous : Past → List ℕ → Value → Value
previous [] x first = first
previous (i ∷ past) x first = i (Named x ∷ [])

-- the last values of names, where a block with this past declares some
abbrev pub lasts : (Const → Value) → List Decl → Past → Names → Names
lasts value [] past out x = out x
lasts value (d ∷ ds) past out x =
    if bytes_eq d.name x then (elim d.last [ None ↦ out x | Some c ↦ previous past x (value c) ]) else lasts value ds past out x

-- the clock of a declaration, innermost first; one that is not written is the base clock
abbrev pub written : Option (List (Cons × List ℕ)) → Clock
written None = []
written (Some path) = reverse path

abbrev pub clock_in : List Decl → List ℕ → Clock
clock_in [] x = []
clock_in (d ∷ ds) x = if bytes_eq d.name x then written d.clock else clock_in ds x

-- the clock of an expression, where its names tell one
abbrev pub or_clock : Option Clock → Option Clock → Option Clock
or_clock None d = d
or_clock (Some c) d = Some c

abbrev pub on_step : Cons → List ℕ → Option Clock → Option Clock
on_step c x None = None
on_step c x (Some clock) = Some ((c, x) ∷ clock)

abbrev mutual
  pub clock_told : List Decl → Expr → Option Clock
  clock_told ds (constant s c) = None
  clock_told ds (variable s x) = Some (clock_in ds x)
  clock_told ds (last_of s x) = Some []
  clock_told ds (one s o a) = clock_told ds a
  clock_told ds (two s o a b) = or_clock (clock_told ds a) (clock_told ds b)
  clock_told ds (choose s a b c) = or_clock (clock_told ds a) (or_clock (clock_told ds b) (clock_told ds c))
  clock_told ds (pre s a) = clock_told ds a
  clock_told ds (fby s a b) = or_clock (clock_told ds a) (clock_told ds b)
  clock_told ds (arrow s a b) = or_clock (clock_told ds a) (clock_told ds b)
  clock_told ds (when_is s a c x) = on_step c x (Some (clock_in ds x))
  clock_told ds (merge s x ps) = Some (clock_in ds x)
  clock_told ds (call s f i es) = clocks_told ds es

  pub clocks_told : List Decl → Exprs → Option Clock
  clocks_told ds no_expr = None
  clocks_told ds (more_exprs e es) = or_clock (clock_told ds e) (clocks_told ds es)

abbrev pub or_base : Option Clock → Clock
or_base None = []
or_base (Some clock) = clock

-- an equation stands on the clock of its names; one without names on that of its right side
abbrev pub clock_of : List Decl → List (List ℕ × Span) → Expr → Clock
clock_of ds [] e = or_base (clock_told ds e)
clock_of ds (y ∷ ys) e = clock_in ds y.0

-- ---- automata

-- a state by its number, and whether its body begins anew
pub record Jump : Type 0 where
  pub state : ℕ
  pub restart : Bool

-- A word of an automaton holds the number of a state.
abbrev pub state_word : ℕ → Value
state_word n = E 0 n

abbrev pub state_of : Value → ℕ
state_of (E t n) = n
state_of v = 0

abbrev pub number_of : ℕ → States → List ℕ → ℕ
number_of k no_state x = 0
number_of k (more_states f b until unless s ss) x = if bytes_eq f x then k else number_of (suc k) ss x

-- what the previous instant chose; the first state where there is none
abbrev pub selected : Past → Jump
selected [] = record { state = 0; restart = false }
selected (i ∷ past) = record { state = state_of (i (Next ∷ [])); restart = is_true (i (Pending ∷ [])) }

-- the first transition whose condition is true, or none of them
abbrev pub first_true : States → List Trans → List Value → Jump → Jump
first_true ss [] vs none = none
first_true ss (t ∷ ts) [] none = none
first_true ss (t ∷ ts) (v ∷ vs) none =
    if is_true v then record { state = number_of 0 ss t.target; restart = t.restart } else first_true ss ts vs none

-- ---- what a branch gives to a name: its value there, or the last one where the branch does not define it

abbrev pub from_block : Block → Names → Instant → List ℕ → Value
from_block b last now x = if block_defines b x then now (Named x ∷ []) else last x

abbrev pub from_state : States → ℕ → ℕ → Names → Instant → List ℕ → Value
from_state no_state k n last now x = Absent
from_state (more_states f b until unless s ss) k n last now x =
    if nat_eq k n then from_block b last (part Body (part Head now)) x else from_state ss (suc k) n last (part Tail now) x

-- the values of inputs and controllable variables, by their names
abbrev pub input_of : List Decl → List Value → Names → Names
input_of [] values out x = out x
input_of (d ∷ ds) [] out x = out x
input_of (d ∷ ds) (v ∷ values) out x = if bytes_eq d.name x then v else input_of ds values out x

-- what the nodes of a program do: the names of their outputs, and their instants
pub record Nodes : Type 0 where
  pub outputs : List ℕ → List (List ℕ)
  pub instant : List ℕ → List Value → Given → Instant → Instant

-- the output that goes to a name on a left side, by its order there
abbrev pub output_for : List (List ℕ × Span) → List (List ℕ) → Instant → List ℕ → Value
output_for [] os i x = Absent
output_for (y ∷ ys) [] i x = Absent
output_for (y ∷ ys) (o ∷ os) i x = if bytes_eq y.0 x then i (Named o ∷ []) else output_for ys os i x

abbrev pub only_output : List (List ℕ) → Instant → Value
only_output [] i = Absent
only_output (o ∷ os) i = i (Named o ∷ [])

-- where no name has a value
abbrev pub absent : Names
absent x = Absent

-- the controllable variables of a contract
abbrev pub controls_of : Option Contract → List Decl
controls_of None = []
controls_of (Some c) = c.controls

module _ (types : List TypeDecl) (R : Reading) (N : Nodes) where
  abbrev on : Clock → Names → Value → Value
  on clock names v = if holds types clock names then v else Absent

  abbrev value : Const → Value
  value c = R.constant (constant_of types c)

  -- the part of a merge that is there
  abbrev chosen : Parts → Value → List Instant → Value
  chosen no_part v is = Absent
  chosen (more_parts c e ps) v [] = Absent
  chosen (more_parts c e ps) v (i ∷ is) = if is_cons types v c then top i else chosen ps v is

  -- the values of all occurrences in an expression on a clock
  abbrev mutual
    pub expr : Expr → Clock → Names → Names → Given → Instant → Instant
    expr (constant s c) clock names last g now = alone (on clock names (value c))
    expr (variable s x) clock names last g now = alone (names x)
    expr (last_of s x) clock names last g now = alone (last x)
    expr (one s o a) clock names last g now =
        let i = expr a clock names last (at First g) (part First now) in
        with_one (R.one o (top i)) i
    expr (two s o a b) clock names last g now =
        let i = expr a clock names last (at First g) (part First now) in
        let j = expr b clock names last (at Second g) (part Second now) in
        with_two (R.two o (top g.free) (top i) (top j)) i j
    expr (choose s a b c) clock names last g now =
        let i = expr a clock names last (at First g) (part First now) in
        let j = expr b clock names last (at Second g) (part Second now) in
        let k = expr c clock names last (at Third g) (part Third now) in
        with_three (if_of (top i) (top j) (top k)) i j k
    expr (pre s a) clock names last g now =
        let i = expr a clock names last (at First g) (part First now) in
        with_one (on clock names (newest (R.undefined (top g.free)) (parts First g.past))) i
    expr (fby s a b) clock names last g now =
        let i = expr a clock names last (at First g) (part First now) in
        let j = expr b clock names last (at Second g) (part Second now) in
        with_two (on clock names (at_first (parts First g.past) (top i) (newest Nil (parts Second g.past)))) i j
    expr (arrow s a b) clock names last g now =
        let i = expr a clock names last (at First g) (part First now) in
        let j = expr b clock names last (at Second g) (part Second now) in
        with_two (at_first (parts First g.past) (top i) (top j)) i j
    expr (when_is s a c x) clock names last g now =
        let i = expr a (without clock) names last (at First g) (part First now) in
        with_one (if is_cons types (names x) c then top i else Absent) i
    expr (merge s x ps) clock names last g now =
        let is = merged ps x clock names last (at Args g) (part Args now) in
        with_row (chosen ps (names x) is) is
    expr (call s f inlined es) clock names last g now =
        let is = exprs es clock names last (at Args g) (part Args now) in
        let i = if holds types clock names then N.instant f (map top is) (since false (at Instance g)) (part Instance now) else nothing in
        with_instance (only_output (N.outputs f) i) is i

    pub exprs : Exprs → Clock → Names → Names → Given → Instant → List Instant
    exprs no_expr clock names last g now = []
    exprs (more_exprs e es) clock names last g now =
        expr e clock names last (at Head g) (part Head now) ∷ exprs es clock names last (at Tail g) (part Tail now)

    pub merged : Parts → List ℕ → Clock → Names → Names → Given → Instant → List Instant
    merged no_part x clock names last g now = []
    merged (more_parts c e ps) x clock names last g now =
        expr e ((c, x) ∷ clock) names last (at Head g) (part Head now) ∷ merged ps x clock names last (at Tail g) (part Tail now)

  -- the conditions of transitions
  abbrev pub conditions : List Trans → Names → Names → Given → Instant → List Instant
  conditions [] names last g now = []
  conditions (t ∷ ts) names last g now =
      expr t.cond [] names last (at Head g) (part Head now) ∷ conditions ts names last (at Tail g) (part Tail now)

  -- the strong transition that is taken in the selected state, read outside of it; none keeps what is selected
  abbrev pub strong : States → States → ℕ → Jump → Names → Names → Given → Instant → Jump
  strong all no_state k s names last g now = s
  strong all (more_states f b until unless p ss) k s names last g now =
      if nat_eq k s.state
      then first_true all unless (map top (conditions unless names last (at Unless (at Head g)) (part Unless (part Head now)))) s
      else strong all ss (suc k) s names last (at Tail g) (part Tail now)

  -- the weak transitions of a state, read in its body
  abbrev pub read_in : Block → Names → Instant → Names
  read_in (block ds es) names now = inside es names now

  abbrev pub last_in : Block → Past → Names → Names
  last_in (block ds es) past last = lasts value ds past last

  abbrev pub weak_in : Block → List Trans → Jump → Names → Names → Given → Instant → List Instant
  weak_in b until s names last g now =
      conditions until (read_in b names (part Body now)) (last_in b (since s.restart (at Body g)).past last) (at Until g) (part Until now)

  -- the weak transition that is taken in the active state; none stays there, with no restart
  abbrev pub weak : States → States → ℕ → Jump → Names → Names → Given → Instant → Jump
  weak all no_state k s names last g now = s
  weak all (more_states f b until unless p ss) k s names last g now =
      if nat_eq k s.state
      then first_true all until (map top (weak_in b until s names last (at Head g) (part Head now))) (record { state = s.state; restart = false })
      else weak all ss (suc k) s names last (at Tail g) (part Tail now)

  abbrev pub from_arm : Arms → Value → Names → Instant → List ℕ → Value
  from_arm no_arm v last now x = Absent
  from_arm (more_arms c b s arms) v last now x =
      if is_cons types v c then from_block b last (part Head now) x else from_arm arms v last (part Tail now) x

  -- the value that a right side gives to a name
  abbrev pub right : List (List ℕ × Span) → Expr → Instant → List ℕ → Value
  right ys (call s f inlined es) i x = output_for ys (N.outputs f) (part Instance i) x
  right ys e i x = top i

  -- the value that an equation, or the one of some that defines the name, gives to a name
  abbrev pub gives : List Decl → Eqn → Names → Names → Given → Instant → List ℕ → Value
  gives ds (define s ys e) names last g now x =
      right ys e (expr e (clock_of ds ys e) names last (at Right g) (part Right now)) x
  gives ds (switch s e arms) names last g now x =
      from_arm arms (top (expr e [] names last (at Test g) (part Test now))) last (part ArmsOf now) x
  gives ds (reset s b e) names last g now x = now (Body ∷ Named x ∷ [])
  gives ds (automaton s ss) names last g now x =
      from_state ss 0 (strong ss ss 0 (selected g.past) names last (at StatesOf g) (part StatesOf now)).state last (part StatesOf now) x

  abbrev pub defined : List Decl → Eqns → Names → Names → Given → Instant → List ℕ → Value
  defined ds no_eqn names last g now x = Absent
  defined ds (more_eqns e es) names last g now x =
      if defines e x
      then gives ds e names last (at Head g) (part Head now) x
      else defined ds es names last (at Tail g) (part Tail now) x

  -- a block that is there, and begins anew or not
  abbrev mutual
    pub scope : Block → Bool → Names → Names → Given → Instant → Instant
    scope (block ds es) fresh names last g now =
        let names' = inside es names now in
        let last' = lasts value ds g.past last in
        in_block
        (λ x. if some_defines es x then defined ds es names' last' (at Equations g) (part Equations now) x else Absent)
        (B fresh)
        (equations ds es names' last' (at Equations g) (part Equations now))

    pub equations : List Decl → Eqns → Names → Names → Given → Instant → Instant
    equations ds no_eqn names last g now = nothing
    equations ds (more_eqns e es) names last g now =
        of_two (equation ds e names last (at Head g) (part Head now)) (equations ds es names last (at Tail g) (part Tail now))

    pub equation : List Decl → Eqn → Names → Names → Given → Instant → Instant
    equation ds (define s ys e) names last g now =
        in_right (expr e (clock_of ds ys e) names last (at Right g) (part Right now))
    equation ds (switch s e arms) names last g now =
        let i = expr e [] names last (at Test g) (part Test now) in
        with_arms i (arm arms (top i) (within (switch s e arms) names last) last (at ArmsOf g) (part ArmsOf now))
    equation ds (reset s b e) names last g now =
        let i = expr e [] names last (at Test g) (part Test now) in
        with_body i (scope b (is_true (top i)) (within (reset s b e) names last) last (since (is_true (top i)) (at Body g)) (part Body now))
    equation ds (automaton s ss) names last g now =
        let j = strong ss ss 0 (selected g.past) names last (at StatesOf g) (part StatesOf now) in
        let names' = within (automaton s ss) names last in
        let w = weak ss ss 0 j names' last (at StatesOf g) (part StatesOf now) in
        with_words (state_word j.state) (state_word w.state) (B w.restart) (states ss 0 j names names' last (at StatesOf g) (part StatesOf now))

    -- the arm of a value is there, and no other
    pub arm : Arms → Value → Names → Names → Given → Instant → Instant
    arm no_arm v names last g now = nothing
    arm (more_arms c b s arms) v names last g now =
        of_two
        (if is_cons types v c then scope b false names last (since false (at Head g)) (part Head now) else nothing)
        (arm arms v names last (at Tail g) (part Tail now))

    -- the body of the active state is there, and no other
    pub states : States → ℕ → Jump → Names → Names → Names → Given → Instant → Instant
    states no_state k j out names last g now = nothing
    states (more_states f b until unless s ss) k j out names last g now =
        let g' = at Head g in
        let now' = part Head now in
        of_two
        (in_state
        (if nat_eq k j.state then scope b j.restart names last (since j.restart (at Body g')) (part Body now') else nothing)
        (if nat_eq k j.state then in_row (weak_in b until j names last g' now') else nothing)
        (in_row (conditions unless out last (at Unless g') (part Unless now'))))
        (states ss (suc k) j out names last (at Tail g) (part Tail now))

  -- ---- nodes

  abbrev told : Option Expr → Names → Names → Given → Instant → Instant
  told None names last g now = nothing
  told (Some e) names last g now = expr e [] names last g now

  -- a contract: it sees the inputs and the outputs
  abbrev pub observer : Option Contract → Names → Names → Given → Instant → Instant
  observer None names last g now = nothing
  observer (Some c) names last g now =
      let own_names = read_in c.body names (part Observer now) in
      let own_last = last_in c.body (since false (at Observer g)).past last in
      in_observer
      (scope c.body false names last (since false (at Observer g)) (part Observer now))
      (told c.assume own_names own_last (at Assume g) (part Assume now))
      (told c.enforce own_names own_last (at Enforce g) (part Enforce now))

  -- what is given for some declarations, in a row
  abbrev pub given_to : List Decl → Instant → List Value
  given_to [] free = []
  given_to (d ∷ ds) free = free (Head ∷ []) ∷ given_to ds (part Tail free)

  -- a node, with the values that are given for its controllable variables
  abbrev pub node : Node → List Value → Given → Instant → Instant
  node n inputs g now =
      let controls = given_to (controls_of n.contract) (part Controls g.free) in
      let outputs : Names = λ x. if declares n.outputs x then now (Body ∷ Named x ∷ []) else Absent in
      let outer : Names = input_of n.inputs inputs absent in
      let last : Names = lasts value n.outputs g.past absent in
      in_node outputs inputs controls
      (scope n.body false (input_of (controls_of n.contract) controls outer) last (since false (at Body g)) (part Body now))
      (observer n.contract (λ x. if declares n.outputs x then now (Named x ∷ []) else outer x) last g now)

-- the types of a program, in declared order
abbrev pub types_of : List Item → List TypeDecl
types_of [] = []
types_of (TypeItem t ∷ items) = t ∷ types_of items
types_of (NodeItem n ∷ items) = types_of items

-- the node of a name, where the nodes are given the last one first
abbrev pub node_among : List Item → List ℕ → Option Node
node_among [] f = None
node_among (TypeItem t ∷ items) f = node_among items f
node_among (NodeItem n ∷ items) f = if bytes_eq n.name f then Some n else node_among items f

abbrev pub names_of : List Decl → List (List ℕ)
names_of ds = map (λ d. d.name) ds

abbrev pub no_nodes : Nodes
no_nodes = record { outputs = λ f. []; instant = λ f inputs g now. nothing }

-- the nodes of a program, the last one first: each may call those declared before it
abbrev pub nodes : List TypeDecl → Reading → List Item → Nodes
nodes types R [] = no_nodes
nodes types R (TypeItem t ∷ earlier) = nodes types R earlier
nodes types R (NodeItem n ∷ earlier) =
    let N = nodes types R earlier in
    record {
      outputs = λ f. if bytes_eq n.name f then names_of n.outputs else N.outputs f;
      instant = λ f inputs g now. if bytes_eq n.name f then node types R N n inputs g now else N.instant f inputs g now;
    }

-- what the places of the node of this name hold, in a program
abbrev pub meaning : Reading → List Item → List ℕ → List Value → Given → Instant → Instant
meaning R program f inputs g now = (nodes (types_of program) R (reverse program)).instant f inputs g now
