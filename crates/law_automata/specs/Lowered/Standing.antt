-- When an instant of a program without automata stands for one of the program.
-- Each place of the program is looked for where its part stands in what was made of it.
use Rattle.std.specs.Prelude.{ℕ, ◌+◌, ◌<◌, ◌≡◌, ◌⊎◌, pos, Bool, true, false, List, [], ◌∷◌, Option, None, Some, ⊤, reverse}
use Rattle.std.specs.Str.{bytes_eq}
use Rattle.hp_base.specs.declared.value.Value.TheVariants.{Absent, B, I}
use Rattle.hp_tree.specs.declared.block.Trans.{Trans}
use Rattle.hp_tree.specs.declared.program.Item.{Item}
use Rattle.hp_tree.specs.declared.program.Item.TheVariants.{TypeItem, NodeItem}
use Rattle.hp_tree.specs.Expressions.{Expr, constant, variable, last_of, one, two, choose, pre, fby, arrow, when_is, merge, call, Exprs, no_expr, more_exprs, Parts, no_part, more_parts}
use Rattle.hp_tree.specs.Blocks.{Decl, Block, block, Eqns, no_eqn, more_eqns, Eqn, define, switch, reset, automaton, Arms, no_arm, more_arms, States, no_state, more_states}
use Rattle.hp_tree.specs.Programs.{Contract, Node}
use Rattle.hp_tree.specs.Operators.{is_there, is_true}
use Rattle.hp_tree.specs.Instant.{Inputs, Controls, Body, Observer, Assume, Enforce, Named, Fresh, Equations, Head, Tail, Right, Test, Arms as ArmsOf, States as StatesOf, Next, Pending, Until, Unless, First, Second, Third, Args, Instance, Place, Instant, part, top}
use Rattle.hp_tree.specs.Meaning.{Jump, state_of, declares}
use Rattle.hp_automata.specs.declared.new_names.Word.TheVariants as word
use Rattle.hp_automata.specs.NewNames.{word_name}
use Rattle.hp_tables.specs.Defining.Names.{names_of_states}
use Rattle.hp_automata.specs.Names.{once}
use Rattle.hp_automata.specs.Lowering.{code, count_of}

-- a relation between an instant of a part and one of what was made of it
abbrev pub Relation : Type 1
Relation = Instant → Instant → Type 0

-- the same length, and related one by one
abbrev pub Along : {A B : Type 0} → (A → B → Type 0) → List A → List B → Type 0
Along P [] [] = ⊤
Along P (i ∷ past) (j ∷ other) = P i j × Along P past other
Along P past other = ⊥

-- a block or an instance that is there in both, begins anew in both or in none, and is so; or is there in none
abbrev pub BothThere : Relation → Relation
BothThere P i j = ((i (Fresh ∷ []) ≡ Absent) × (j (Fresh ∷ []) ≡ Absent)) ⊎ ((i (Fresh ∷ []) ≡ j (Fresh ∷ [])) × P i j)

-- the number of a jump
abbrev pub code_of : Jump → ℕ
code_of j = code j.state j.restart

-- what stands behind so many in a row
abbrev pub behind : {A : Type 0} → List A → Instant → Instant
behind [] i = i
behind (x ∷ xs) i = behind xs (part Tail i)

-- in the `switch` that stands for a state: its true arm, and the body in that
abbrev pub arm_in : Instant → Instant
arm_in i = part Head (part ArmsOf i)

abbrev pub body_in : Instant → Instant
body_in i = part Body (part Head (part Equations i))

-- a body and the arm that holds what stands for it, which is there where the state is active
abbrev pub InArm : Relation → Relation
InArm P i arm = ((i (Fresh ∷ []) ≡ Absent) × (arm (Fresh ∷ []) ≡ Absent)) ⊎ ((arm (Fresh ∷ []) ≡ B false) × BothThere P i (body_in arm))

-- where the equations of the states begin in what stands for an automaton
abbrev pub states_in : States → Instant → Instant
states_in ss i = behind (once (names_of_states ss)) (part Tail (part Tail (part Equations (part Body i))))

-- the `switch` of a state with these strong transitions, and the equations of the states behind it
abbrev pub switch_in : List Trans → Instant → Instant
switch_in unless i = part Head (part Tail (part Tail (behind unless i)))

abbrev pub later_in : List Trans → Instant → Instant
later_in unless i = part Tail (part Tail (part Tail (behind unless i)))

-- the word next and the pending restart of an automaton, as one number
abbrev pub NextStands : ℕ → States → Relation
NextStands d ss i j =
    (next : Jump) × (next.state < count_of ss) × (state_of (i (Next ∷ [])) ≡ next.state) × (is_true (i (Pending ∷ [])) ≡ next.restart)
    × (part Body j (Named (word_name word.Next d) ∷ []) ≡ I (pos (code_of next)))

-- `callee` has the relation of instances of each node
module _ (callee : List ℕ → Relation) where
  abbrev mutual
    pub ExprStands : Expr → Relation
    ExprStands (constant s c) i j = top i ≡ top j
    ExprStands (variable s x) i j = top i ≡ top j
    ExprStands (last_of s x) i j = top i ≡ top j
    ExprStands (one s o a) i j = (top i ≡ top j) × ExprStands a (part First i) (part First j)
    ExprStands (two s o a b) i j = (top i ≡ top j) × ExprStands a (part First i) (part First j) × ExprStands b (part Second i) (part Second j)
    ExprStands (choose s a b c) i j =
        (top i ≡ top j) × ExprStands a (part First i) (part First j) × ExprStands b (part Second i) (part Second j) × ExprStands c (part Third i) (part Third j)
    ExprStands (pre s a) i j = (top i ≡ top j) × ExprStands a (part First i) (part First j)
    ExprStands (fby s a b) i j = (top i ≡ top j) × ExprStands a (part First i) (part First j) × ExprStands b (part Second i) (part Second j)
    ExprStands (arrow s a b) i j = (top i ≡ top j) × ExprStands a (part First i) (part First j) × ExprStands b (part Second i) (part Second j)
    ExprStands (when_is s a c x) i j = (top i ≡ top j) × ExprStands a (part First i) (part First j)
    ExprStands (merge s x ps) i j = (top i ≡ top j) × PartsStand ps (part Args i) (part Args j)
    ExprStands (call s f inlined es) i j =
        (top i ≡ top j) × ExprsStand es (part Args i) (part Args j) × BothThere (callee f) (part Instance i) (part Instance j)
        × ((x : List ℕ) → i (Instance ∷ Named x ∷ []) ≡ j (Instance ∷ Named x ∷ []))

    pub ExprsStand : Exprs → Relation
    ExprsStand no_expr i j = ⊤
    ExprsStand (more_exprs e es) i j = ExprStands e (part Head i) (part Head j) × ExprsStand es (part Tail i) (part Tail j)

    pub PartsStand : Parts → Relation
    PartsStand no_part i j = ⊤
    PartsStand (more_parts c e ps) i j = ExprStands e (part Head i) (part Head j) × PartsStand ps (part Tail i) (part Tail j)

  -- the conditions of some transitions in a row, each in the equation that stands for its transition
  abbrev pub RowStands : List Trans → Relation
  RowStands [] i j = ⊤
  RowStands (t ∷ ts) i j = ExprStands t.cond (part Head i) (part First (part Right (part Head j))) × RowStands ts (part Tail i) (part Tail j)

  -- those of weak transitions, where the body of their state is there
  abbrev pub WeakStand : List Trans → Instant → Relation
  WeakStand until body i arm = is_there (body (Fresh ∷ [])) ≡ true → RowStands until i (part Equations (body_in arm))

  -- what a block declares has the same values
  abbrev pub SameNames : List Decl → Relation
  SameNames ds i j = (x : List ℕ) → declares ds x ≡ true → i (Named x ∷ []) ≡ j (Named x ∷ [])

  -- with so many automata around
  abbrev mutual
    pub BlockStands : ℕ → Block → Relation
    BlockStands d (block ds es) i j = SameNames ds i j × EqnsStand d es (part Equations i) (part Equations j)

    pub EqnsStand : ℕ → Eqns → Relation
    EqnsStand d no_eqn i j = ⊤
    EqnsStand d (more_eqns e es) i j = EqnStands d e (part Head i) (part Head j) × EqnsStand d es (part Tail i) (part Tail j)

    pub EqnStands : ℕ → Eqn → Relation
    EqnStands d (define s ys e) i j = ExprStands e (part Right i) (part Right j)
    EqnStands d (switch s e arms) i j = ExprStands e (part Test i) (part Test j) × ArmsStand d arms (part ArmsOf i) (part ArmsOf j)
    EqnStands d (reset s b e) i j = ExprStands e (part Test i) (part Test j) × BothThere (BlockStands d b) (part Body i) (part Body j)
    EqnStands d (automaton s ss) i j =
        (part Body j (Fresh ∷ []) ≡ B false) × NextStands d ss i j × StatesStand (d + 1) ss (part StatesOf i) (states_in ss j)

    pub ArmsStand : ℕ → Arms → Relation
    ArmsStand d no_arm i j = ⊤
    ArmsStand d (more_arms c b s arms) i j = BothThere (BlockStands d b) (part Head i) (part Head j) × ArmsStand d arms (part Tail i) (part Tail j)

    pub StatesStand : ℕ → States → Relation
    StatesStand d no_state i j = ⊤
    StatesStand d (more_states f b until unless s ss) i j =
        InArm (BodyStands d until b) (part Body (part Head i)) (arm_in (switch_in unless j)) × StatesStand d ss (part Tail i) (later_in unless j)
        × RowStands unless (part Unless (part Head i)) j × WeakStand until (part Body (part Head i)) (part Until (part Head i)) (arm_in (switch_in unless j))

    -- the body of a state, whose weak transitions stand in front
    pub BodyStands : ℕ → List Trans → Block → Relation
    BodyStands d until (block ds es) i j = SameNames ds i j × EqnsStand d es (part Equations i) (part Tail (behind until (part Equations j)))

  abbrev pub ConditionStands : Option Expr → Relation
  ConditionStands None i j = ⊤
  ConditionStands (Some e) i j = ExprStands e i j

  abbrev pub ContractStands : Option Contract → Relation
  ContractStands None i j = ⊤
  ContractStands (Some c) i j =
      BothThere (BlockStands 0 c.body) (part Observer i) (part Observer j) × ConditionStands c.assume (part Assume i) (part Assume j) × ConditionStands c.enforce (part Enforce i) (part Enforce j)

  -- Inputs, controllable variables, outputs and the names of the body have the same values.
  pub record NodeStands (n : Node) (i j : Instant) : Type 0 where
    pub fresh : i (Fresh ∷ []) ≡ j (Fresh ∷ [])
    pub inputs : (p : Place) → i (Inputs ∷ p) ≡ j (Inputs ∷ p)
    pub controls : (p : Place) → i (Controls ∷ p) ≡ j (Controls ∷ p)
    pub outputs : (x : List ℕ) → i (Named x ∷ []) ≡ j (Named x ∷ [])
    pub names : (x : List ℕ) → i (Body ∷ Named x ∷ []) ≡ j (Body ∷ Named x ∷ [])
    pub body : BothThere (BlockStands 0 n.body) (part Body i) (part Body j)
    pub contract : ContractStands n.contract i j

abbrev pub either_is : Bool → Type 0 → Type 0 → Type 0
either_is true P Q = P
either_is false P Q = Q

-- an instant of the node of a name, where the nodes are given the last one first
abbrev pub stands_among : List Item → List ℕ → Relation
stands_among [] f i j = (p : Place) → i p ≡ j p
stands_among (TypeItem t ∷ earlier) f i j = stands_among earlier f i j
stands_among (NodeItem n ∷ earlier) f i j = either_is (bytes_eq n.name f) (NodeStands (stands_among earlier) n i j) (stands_among earlier f i j)

-- an instant of the node of a name, in a program
abbrev pub Stands : List Item → List ℕ → Relation
Stands program f = stands_among (reverse program) f
