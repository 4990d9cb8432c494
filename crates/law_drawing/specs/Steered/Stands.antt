-- What the free slots of a node stand for, by the plan of its slots alone: `before` are the slots that are there already, so the next one has their number.
use Rattle.std.specs.Prelude.{⊤, Bool, true, false, ◌&&◌, List, [], ◌∷◌, length, Option, None, Some}
use Rattle.hp_tree.specs.declared.block.Trans.{Trans}
use Rattle.hp_tree.specs.Blocks.{Decl, Block, block, Eqns, no_eqn, more_eqns, Eqn, define, switch, reset, automaton, Arms, no_arm, more_arms, States, no_state, more_states}
use Rattle.hp_tree.specs.Expressions.{Expr, constant, variable, last_of, one, two, choose, pre, fby, arrow, when_is, merge, call, Exprs, no_expr, more_exprs, Parts, no_part, more_parts}
use Rattle.hp_tree.specs.Instant.{Body, Observer, Assume, Enforce, Named, Equations, Head, Tail, Right, Test, Arms as ArmsOf, States as StatesOf, Until, Unless, First, Second, Third, Args, Instance}
use Rattle.hp_tree.specs.Meaning.{controls_of}
use Rattle.hp_tree.specs.Operators.{is_comparison}
use Rattle.hp_tree.specs.Programs.{Contract, Node}
use Rattle.hp_meaning.specs.Causal.Sources.{Sources, only, PlaceSources, below}
use Rattle.hp_circuit.specs.declared.circuit.Shape.TheVariants.{Truth}
use Rattle.hp_drawing.specs.Kept.{Kept, register, input, control, free, is_mark, with_kept, with_shaped}
use Rattle.hp_drawing.specs.Told.{Told, type_shape}
use Rattle.hp_drawing.specs.Planned.{Names, Callee, shape_in, with_register, with_comparison, with_row, with_lasts, with_call, with_words, declaring, count_states, in_block, planned, planned_conditions, planned_block, planned_eqn, planned_told, planned_observer, contract_names, no_callee, called}
use Rattle.law_drawing.specs.Steered.Marks.{Steering, Leads}

-- what is asked of the contract of a node that is called
abbrev pub Asked : Type 1
Asked = Node → PlaceSources → List Kept → Type 0

abbrev pub none_asked : Asked
none_asked n k before = ⊤

module _ (steers : Steering) where
  -- the slot behind these stands for a place that reads no less
  abbrev pub IsBehind : Sources → List Kept → Type 0
  IsBehind own before = Leads steers own → Leads steers (steers.slots (length before))

  abbrev pub ComparedBehind : Bool → Sources → List Kept → Type 0
  ComparedBehind true own before = IsBehind own before
  ComparedBehind false own before = ⊤

  abbrev pub GivenBehind : Bool → Sources → List Kept → Type 0
  GivenBehind true own before = ⊤
  GivenBehind false own before = IsBehind own before

  abbrev pub RowStands : Told → List Decl → PlaceSources → List Kept → Type 0
  RowStands t [] k before = ⊤
  RowStands t (d ∷ ds) k before = GivenBehind (is_mark (type_shape t d.ty)) (k (Named d.name ∷ [])) before × RowStands t ds k (with_shaped free (type_shape t d.ty) before)

  module _ (t : Told) (callee : Callee) (asked : Asked) where
    abbrev pub CallStands : Option Node → PlaceSources → List Kept → Type 0
    CallStands None k before = ⊤
    CallStands (Some n) k before = RowStands t n.outputs (below Instance k) before × asked n (below Instance k) (with_row free t n.outputs before)

    abbrev mutual
      pub Stands : Expr → Names → PlaceSources → List Kept → Type 0
      Stands (constant q c) names k before = ⊤
      Stands (variable q x) names k before = ⊤
      Stands (last_of q x) names k before = ⊤
      Stands (one q o a) names k before = Stands a names (below First k) before
      Stands (two q o a b) names k before =
          let start = with_comparison o (shape_in t a names) before in
          ComparedBehind (is_comparison o && is_mark (shape_in t a names)) (k []) before × Stands a names (below First k) start × Stands b names (below Second k) (planned t callee a names start)
      Stands (choose q a b c) names k before =
          let first = planned t callee a names before in
          Stands a names (below First k) before × Stands b names (below Second k) first × Stands c names (below Third k) (planned t callee b names first)
      Stands (pre q a) names k before = Stands a names (below First k) (with_register 0 (shape_in t a names) before)
      Stands (fby q a b) names k before =
          let start = with_kept (with_register 0 (shape_in t a names) before) (register 0 Truth) in
          Stands a names (below First k) start × Stands b names (below Second k) (planned t callee a names start)
      Stands (arrow q a b) names k before =
          let start = with_kept before (register 0 Truth) in
          Stands a names (below First k) start × Stands b names (below Second k) (planned t callee a names start)
      Stands (when_is q a c x) names k before = Stands a names (below First k) before
      Stands (merge q x ps) names k before = PartsStand ps names (below Args k) before
      Stands (call q f inlined es) names k before = CallStands (t.nodes f) k before × AllStand es names (below Args k) (with_call t callee (t.nodes f) before)

      pub AllStand : Exprs → Names → PlaceSources → List Kept → Type 0
      AllStand no_expr names k before = ⊤
      AllStand (more_exprs e es) names k before = Stands e names (below Head k) before × AllStand es names (below Tail k) (planned t callee e names before)

      pub PartsStand : Parts → Names → PlaceSources → List Kept → Type 0
      PartsStand no_part names k before = ⊤
      PartsStand (more_parts c e ps) names k before = Stands e names (below Head k) before × PartsStand ps names (below Tail k) (planned t callee e names before)

    abbrev pub ConditionsStand : List Trans → Names → PlaceSources → List Kept → Type 0
    ConditionsStand [] names k before = ⊤
    ConditionsStand (q ∷ qs) names k before = Stands q.cond names (below Head k) before × ConditionsStand qs names (below Tail k) (planned t callee q.cond names before)

    -- ---- blocks; `outer` are the names around an automaton

    abbrev mutual
      pub BlockStands : Block → Names → PlaceSources → List Kept → Type 0
      BlockStands (block ds es) names k before = EqnsStand es (declaring t ds names) (below Equations k) (with_lasts t ds before)

      pub EqnsStand : Eqns → Names → PlaceSources → List Kept → Type 0
      EqnsStand no_eqn names k before = ⊤
      EqnsStand (more_eqns e es) names k before = EqnStands e names (below Head k) before × EqnsStand es names (below Tail k) (planned_eqn t callee e names before)

      pub EqnStands : Eqn → Names → PlaceSources → List Kept → Type 0
      EqnStands (define q xs e) names k before = Stands e names (below Right k) before
      EqnStands (switch q e arms) names k before = Stands e names (below Test k) before × ArmsStand arms names (below ArmsOf k) (planned t callee e names before)
      EqnStands (reset q b e) names k before = BlockStands b names (below Body k) before × Stands e names (below Test k) (planned_block t callee b names before)
      EqnStands (automaton q ss) names k before = StatesStand ss names names (below StatesOf k) (with_words (count_states ss) before)

      pub ArmsStand : Arms → Names → PlaceSources → List Kept → Type 0
      ArmsStand no_arm names k before = ⊤
      ArmsStand (more_arms c b q arms) names k before = BlockStands b names (below Head k) before × ArmsStand arms names (below Tail k) (planned_block t callee b names before)

      pub StatesStand : States → Names → Names → PlaceSources → List Kept → Type 0
      StatesStand no_state names outer k before = ⊤
      StatesStand (more_states f b until unless q ss) names outer k before =
          let body = planned_block t callee b names before in
          let weak = planned_conditions t callee until (in_block t b names) body in
          BlockStands b names (below Body (below Head k)) before × ConditionsStand until (in_block t b names) (below Until (below Head k)) body × ConditionsStand unless outer (below Unless (below Head k)) weak
          × StatesStand ss names outer (below Tail k) (planned_conditions t callee unless outer weak)

    -- ---- contracts

    abbrev pub ToldStands : Option Expr → Names → PlaceSources → List Kept → Type 0
    ToldStands None names k before = ⊤
    ToldStands (Some e) names k before = Stands e names k before

    abbrev pub ContractStands : Contract → Names → PlaceSources → List Kept → Type 0
    ContractStands c names k before =
        let body = planned_block t callee c.body names before in
        BlockStands c.body names (below Observer k) before × ToldStands c.assume (in_block t c.body names) (below Assume k) body
        × ToldStands c.enforce (in_block t c.body names) (below Enforce k) (planned_told t callee c.assume (in_block t c.body names) body)

  -- the contract of a node that is called
  abbrev pub CalledStands : Told → Option Contract → Asked
  CalledStands t None n k before = ⊤
  CalledStands t (Some c) n k before = ContractStands t no_callee none_asked c (contract_names t n) k (with_lasts t n.outputs before)

  abbrev pub contracts_asked : Told → Asked
  contracts_asked t n k before = CalledStands t n.contract n k before

  abbrev pub ObserverStands : Told → Option Contract → Names → List Kept → Type 0
  ObserverStands t None names before = ⊤
  ObserverStands t (Some c) names before = ContractStands t called (contracts_asked t) c names only before

  -- The free slots of a node stand for its places: comparisons of integers, outputs of calls, and what stands free in the contracts of those that are called.
  abbrev pub NodeStands : Told → Node → Type 0
  NodeStands t n =
      let names = contract_names t n in
      let start = with_row control t (controls_of n.contract) (with_lasts t n.outputs (with_row input t n.inputs [])) in
      ObserverStands t n.contract names start
      × BlockStands t called (contracts_asked t) n.body (declaring t (controls_of n.contract) names) (below Body only) (planned_observer t called n.contract names start)
