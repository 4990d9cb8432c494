-- What is asked of a part, so that the wires that are drawn of it read each other in no circle: each place stands above what it reads, names have wires whose marks say how high they stand, and what is declared has names of its own.
-- Source: own.
use Rattle.std.specs.Prelude.{ℕ, ◌≡◌, ◌<◌, ⊤, Bool, true, false, is_some, max, List, [], ◌∷◌, length, Option, None, Some}
use Rattle.hp_base.specs.declared.span.Span.{Span}
use Rattle.hp_tree.specs.Instant.{Place}
use Rattle.hp_tree.specs.Blocks.{Block, block, Eqns, no_eqn, more_eqns, Eqn, define, switch, reset, automaton, Arms, no_arm, more_arms, States, no_state, more_states}
use Rattle.hp_tree.specs.Programs.{Contract, Node}
use Rattle.law_games.specs.Mirror.Memories.{AreApart}
use Rattle.hp_meaning.specs.Causal.Sources.{PlaceSources, NameSources}
use Rattle.hp_drawing.specs.Kept.{is_mark}
use Rattle.hp_drawing.specs.Told.{Told}
use Rattle.hp_drawing.specs.declared.parts.Entry.{Entry}
use Rattle.hp_drawing.specs.Scopes.{Scope, value_in, last_in, own_entry}
use Rattle.hp_drawing.specs.declared.parts.Callee.{Callee}
use Rattle.hp_drawing.specs.declared.parts.Place.{Place as Spot}
use Rattle.hp_drawing.specs.DrawnExpressions.{Brings}
use Rattle.hp_drawing.specs.Sketch.{Sketch}
use Rattle.law_drawing.specs.NoCircle.Marks.{Mark, Marks, Less, up, Has, AreRow, Grows, Low, Frame, AreMarked, IsPlaced, top, around}

-- All wires of a call have its mark, but for its outputs, which are a step above: its inputs, and what its outputs read.
pub record IsCallee (ms : Marks) (n : Node) (c : Callee) (m : Mark) : Type 0 where
  pub outputs : AreRow ms c.outputs (length n.outputs) (up 1 m)
  pub inputs : AreRow ms c.inputs (length n.inputs) m
  pub reads : Has ms c.reads m

-- What the contract of a node brings that is called goes on with marks.
abbrev pub BringsMarked : Told → Brings → Type 1
BringsMarked t brings =
    (F : Frame) (place : Spot) (f : List ℕ) (n : Node) (c : Callee) (s : Sketch) (ms : Marks) (m context : Mark) → t.nodes f ≡ Some n → AreMarked F s ms → IsPlaced ms place context → IsCallee ms n c m → (ms' : Marks) × Grows ms ms' × AreMarked F (brings t place n c s) ms'

module _ (rank : Place → ℕ) where
  -- Each place stands above what it reads, and above what stands around.
  abbrev pub Owes : Mark → PlaceSources → PlaceSources → Type 0
  Owes context reads k = (p : Place) → max context.0 (top rank (reads p)) < top rank (k p)

  -- names have wires that stand as high as what they read, or as what stands around, and so have last values, which read nothing
  pub record AreSeen (ms : Marks) (z : Scope) (context : Mark) (names : NameSources) : Type 0 where
    pub values : (x : List ℕ) → Low ms (value_in z x).wire (around rank context (names x))
    pub lasts : (x : List ℕ) → Low ms (last_in z x).wire context

  -- Each of some names, which are defined, is known in the innermost layer and has a wire with its mark, as has each wire of that layer that is to be said.
  pub record IsOwned (ms : Marks) (z : Scope) (context : Mark) (inner : NameSources) (defined : List ℕ → Bool) : Type 0 where
    pub known : (x : List ℕ) → defined x ≡ true → is_some (own_entry z x) ≡ true
    pub wires : (x : List ℕ) → defined x ≡ true → Has ms (value_in z x).wire (around rank context (inner x))
    pub holes : (x : List ℕ) (e : Entry) → own_entry z x ≡ Some e → Has ms e.hole (around rank context (inner x))

-- The wire of a name, which is defined later, stands above a mark.
pub record Owns (ms : Marks) (z : Scope) (x : List ℕ) (m : Mark) : Type 0 where
  pub mark : Mark
  pub has : Has ms (value_in z x).wire mark
  pub above : Less m mark

abbrev pub OwnEach : Marks → Scope → List (List ℕ × Span) → Mark → Type 0
OwnEach ms z [] m = ⊤
OwnEach ms z (x ∷ xs) m = Owns ms z x.0 m × OwnEach ms z xs m

-- In the innermost layer a name has the wire that is to be said.
abbrev pub AreFirst : Scope → Type 0
AreFirst z = (x : List ℕ) (e : Entry) → own_entry z x ≡ Some e → ((value_in z x).wire ≡ e.hole) × ((value_in z x).shape ≡ e.shape)

-- the wires of names that are to be said yet, where these are defined; that of an integer is never open
abbrev pub Owed : Scope → (List ℕ → Bool) → ℕ → Type 0
Owed z defined k = (x : List ℕ) × (e : Entry) × (own_entry z x ≡ Some e) × (is_mark e.shape ≡ false) × (k ≡ e.hole) × (defined x ≡ true)

-- ---- blocks: what is declared has names of its own

abbrev mutual
  pub BlockApart : Block → Type 0
  BlockApart (block ds es) = AreApart ds × EqnsApart es

  pub EqnsApart : Eqns → Type 0
  EqnsApart no_eqn = ⊤
  EqnsApart (more_eqns e es) = EqnApart e × EqnsApart es

  pub EqnApart : Eqn → Type 0
  EqnApart (define q xs e) = ⊤
  EqnApart (switch q e arms) = ArmsApart arms
  EqnApart (reset q b e) = BlockApart b
  EqnApart (automaton q ss) = EachApart ss

  pub ArmsApart : Arms → Type 0
  ArmsApart no_arm = ⊤
  ArmsApart (more_arms c b q arms) = BlockApart b × ArmsApart arms

  pub EachApart : States → Type 0
  EachApart no_state = ⊤
  EachApart (more_states f b until unless q ss) = BlockApart b × EachApart ss

abbrev pub ContractApart : Option Contract → Type 0
ContractApart None = ⊤
ContractApart (Some c) = BlockApart c.body
