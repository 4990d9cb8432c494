-- What is asked of a part, so that what is drawn of it reads controllable variables only where the part does: its points depend on one where what they read does, and calls fit the nodes that they name.
use Rattle.std.specs.Prelude.{ℕ, suc, ◌≡◌, ◌≤◌, ◌<◌, ⊤, Bool, true, false, is_some, List, [], ◌∷◌, length, Option, None, Some}
use Rattle.hp_tree.specs.Instant.{Place}
use Rattle.hp_tree.specs.Expressions.{Expr, constant, variable, last_of, one, two, choose, pre, fby, arrow, when_is, merge, call, Exprs, no_expr, more_exprs, Parts, no_part, more_parts}
use Rattle.hp_tree.specs.declared.block.Trans.{Trans}
use Rattle.hp_tree.specs.Blocks.{Block, block, Eqns, no_eqn, more_eqns, Eqn, define, switch, reset, automaton, Arms, no_arm, more_arms, States, no_state, more_states}
use Rattle.hp_tree.specs.Meaning.{defines, some_defines}
use Rattle.hp_tree.specs.Programs.{Contract, Node}
use Rattle.hp_meaning.specs.Causal.Sources.{Sources, both, NameSources, PlaceSources}
use Rattle.hp_base.specs.declared.span.Span.{Span}
use Rattle.hp_drawing.specs.Told.{Told}
use Rattle.hp_drawing.specs.declared.parts.Entry.{Entry}
use Rattle.hp_drawing.specs.Scopes.{Scope, value_in, last_in, own_entry}
use Rattle.hp_drawing.specs.declared.parts.Callee.{Callee}
use Rattle.hp_drawing.specs.declared.parts.Place.{Place as Spot}
use Rattle.hp_drawing.specs.DrawnExpressions.{Brings}
use Rattle.hp_drawing.specs.Sketch.{Sketch}
use Rattle.law_drawing.specs.Steered.Placed.{Held}
use Rattle.law_drawing.specs.Steered.Marks.{Marks, Steering, Has, AreRow, Grows, Leads, Low, AreMarked, IsPlaced}

-- how many expressions there are
abbrev pub count_of : Exprs → ℕ
count_of no_expr = 0
count_of (more_exprs e es) = suc (count_of es)

-- a call names a node, and gives no more than its inputs
pub record CallFits (t : Told) (f : List ℕ) (given : ℕ) : Type 0 where
  pub node : Node
  pub found : t.nodes f ≡ Some node
  pub inputs : given ≤ length node.inputs

-- The node of a call in an expression has an output.
abbrev mutual
  pub CallsFit : Told → Expr → Type 0
  CallsFit t (constant s c) = ⊤
  CallsFit t (variable s x) = ⊤
  CallsFit t (last_of s x) = ⊤
  CallsFit t (one s o a) = CallsFit t a
  CallsFit t (two s o a b) = CallsFit t a × CallsFit t b
  CallsFit t (choose s a b c) = CallsFit t a × CallsFit t b × CallsFit t c
  CallsFit t (pre s a) = CallsFit t a
  CallsFit t (fby s a b) = CallsFit t a × CallsFit t b
  CallsFit t (arrow s a b) = CallsFit t a × CallsFit t b
  CallsFit t (when_is s a c x) = CallsFit t a
  CallsFit t (merge s x ps) = CallsInPartsFit t ps
  CallsFit t (call s f inlined es) = (c : CallFits t f (count_of es)) × (0 < length c.node.outputs) × CallsInAllFit t es

  pub CallsInAllFit : Told → Exprs → Type 0
  CallsInAllFit t no_expr = ⊤
  CallsInAllFit t (more_exprs e es) = CallsFit t e × CallsInAllFit t es

  pub CallsInPartsFit : Told → Parts → Type 0
  CallsInPartsFit t no_part = ⊤
  CallsInPartsFit t (more_parts c e ps) = CallsFit t e × CallsInPartsFit t ps

-- A call on the right side of a definition has as many outputs as are named there.
abbrev pub RightFits : Told → Expr → List (List ℕ × Span) → Type 0
RightFits t (call q f inlined es) xs = (c : CallFits t f (count_of es)) × (length xs ≤ length c.node.outputs) × CallsInAllFit t es
RightFits t e xs = CallsFit t e

module _ (steers : Steering) where
  -- Each place depends on a controllable variable where what it reads does, or what stands around.
  abbrev pub Owes : Sources → PlaceSources → PlaceSources → Type 0
  Owes context reads k = (p : Place) → Leads steers (both context (reads p)) → Leads steers (k p)

  -- names have wires that lead to a controllable variable only where they do, and so have last values, which read nothing
  pub record AreSeen (ms : Marks) (z : Scope) (context : Sources) (names : NameSources) : Type 0 where
    pub values : (x : List ℕ) → Low steers ms (value_in z x).wire (both context (names x))
    pub lasts : (x : List ℕ) → Low steers ms (last_in z x).wire context

-- All wires of a call have its mark: its outputs, its inputs, and what its outputs read.
pub record IsCallee (ms : Marks) (n : Node) (c : Callee) (m : Sources) : Type 0 where
  pub outputs : AreRow ms c.outputs (length n.outputs) m
  pub inputs : AreRow ms c.inputs (length n.inputs) m
  pub reads : Has ms c.reads m

module _ (steers : Steering) where
  -- What the contract of a node brings that is called reads no more than the call does. `held` says of it what its free slots stand for.
  abbrev pub BringsMarked : Told → Brings → Held → Sources → Type 0
  BringsMarked t brings held context =
      (place : Spot) (f : List ℕ) (n : Node) (c : Callee) (s : Sketch) (ms : Marks) (m : Sources) (k : PlaceSources) → t.nodes f ≡ Some n → held place n c s k → ((p : Place) → Leads steers m → Leads steers (k p)) → AreMarked steers s ms
      → IsPlaced steers ms place context → (Leads steers context → Leads steers m) → IsCallee ms n c m
      → (ms' : Marks) × Grows ms ms' × AreMarked steers (brings t place n c s) ms'

module _ (steers : Steering) where
  -- The wire of a name, which is defined later, has a mark that leads where these sources do.
  pub record Owns (ms : Marks) (z : Scope) (x : List ℕ) (m : Sources) : Type 0 where
    pub mark : Sources
    pub has : Has ms (value_in z x).wire mark
    pub from : Leads steers m → Leads steers mark

  abbrev pub OwnEach : Marks → Scope → List (List ℕ × Span) → Sources → Type 0
  OwnEach ms z [] m = ⊤
  OwnEach ms z (x ∷ xs) m = Owns ms z x.0 m × OwnEach ms z xs m

-- Each of some names, which are defined, is known in the innermost layer and has a wire with its mark, as has each wire of that layer that is to be said.
pub record IsOwned (ms : Marks) (z : Scope) (context : Sources) (inner : NameSources) (defined : List ℕ → Bool) : Type 0 where
  pub known : (x : List ℕ) → defined x ≡ true → is_some (own_entry z x) ≡ true
  pub wires : (x : List ℕ) → defined x ≡ true → Has ms (value_in z x).wire (both context (inner x))
  pub holes : (x : List ℕ) (e : Entry) → own_entry z x ≡ Some e → Has ms e.hole (both context (inner x))

-- ---- blocks: calls fit in all parts, and each name is defined by one equation of a block

abbrev pub ConditionsFit : Told → List Trans → Type 0
ConditionsFit t [] = ⊤
ConditionsFit t (q ∷ qs) = CallsFit t q.cond × ConditionsFit t qs

abbrev pub IsDefinedOnce : Eqn → Eqns → Type 0
IsDefinedOnce e es = (x : List ℕ) → defines e x ≡ true → some_defines es x ≡ false

abbrev mutual
  pub BlockFits : Told → Block → Type 0
  BlockFits t (block ds es) = EqnsFit t es

  pub EqnsFit : Told → Eqns → Type 0
  EqnsFit t no_eqn = ⊤
  EqnsFit t (more_eqns e es) = EqnFits t e × IsDefinedOnce e es × EqnsFit t es

  pub EqnFits : Told → Eqn → Type 0
  EqnFits t (define q xs e) = RightFits t e xs
  EqnFits t (switch q e arms) = CallsFit t e × ArmsFit t arms
  EqnFits t (reset q b e) = BlockFits t b × CallsFit t e
  EqnFits t (automaton q ss) = StatesFit t ss

  pub ArmsFit : Told → Arms → Type 0
  ArmsFit t no_arm = ⊤
  ArmsFit t (more_arms c b q arms) = BlockFits t b × ArmsFit t arms

  pub StatesFit : Told → States → Type 0
  StatesFit t no_state = ⊤
  StatesFit t (more_states f b until unless q ss) = BlockFits t b × ConditionsFit t until × ConditionsFit t unless × StatesFit t ss

-- ---- contracts

abbrev pub TellsFit : Told → Option Expr → Type 0
TellsFit t None = ⊤
TellsFit t (Some e) = CallsFit t e

abbrev pub ContractFits : Told → Option Contract → Type 0
ContractFits t None = ⊤
ContractFits t (Some c) = BlockFits t c.body × TellsFit t c.assume × TellsFit t c.enforce
