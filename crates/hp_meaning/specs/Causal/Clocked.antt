-- When the clocks of a node are right: each expression stands on one clock, each equation on the clock of its names.
-- Source: the clocked streams of Biernacki and others (LCTES 2008); a clock is a path of `on C(x)`.
use Rattle.std.specs.Prelude.{ℕ, ◌≡◌, Bool, IsTrue, if◌then◌else◌, ◌||◌, List, [], ◌∷◌, Option, None, Some, ⊤}
use Rattle.hp_base.specs.declared.span.Span.{Span}
use Rattle.hp_tree.specs.declared.block.Trans.{Trans}
use Rattle.hp_tree.specs.Expressions.{Expr, constant, variable, last_of, one, two, choose, pre, fby, arrow, when_is, merge, call, Exprs, no_expr, more_exprs, Parts, no_part, more_parts}
use Rattle.hp_tree.specs.Blocks.{Decl, Block, block, Eqns, no_eqn, more_eqns, Eqn, define, switch, reset, automaton, Arms, no_arm, more_arms, States, no_state, more_states}
use Rattle.hp_tree.specs.Programs.{Contract, Node}
use Rattle.hp_tree.specs.Instant.{Clock, without}
use Rattle.hp_tree.specs.Meaning.{declares, defines, some_defines, written, clock_in, clock_of, controls_of}

-- the clock on which each name is read in a block; None where it may not be read
abbrev pub Standing : Type 0
Standing = List ℕ → Option Clock

abbrev pub base_alone : Option Clock → Option Clock
base_alone None = None
base_alone (Some []) = Some []
base_alone (Some (on ∷ clock)) = None

-- A name that a block's equations define stands on its clock there. A name of further out is read where it is on the base clock, and counts as on this block's.
abbrev pub standing_in : List Decl → Eqns → Standing → Standing
standing_in ds es out x = if some_defines es x then Some (clock_in ds x) else base_alone (out x)

abbrev pub standing_of : Block → Standing → Standing
standing_of (block ds es) out = standing_in ds es out

-- In a clock `ck on C(x)` the name x is on `ck`.
abbrev pub ClockRight : Standing → Clock → Type 0
ClockRight names [] = ⊤
ClockRight names (on ∷ clock) = (names on.1 ≡ Some clock) × ClockRight names clock

-- An expression may stand on a clock.
abbrev mutual
  pub IsOn : Standing → Expr → Clock → Type 0
  IsOn names (constant s c) clock = ⊤
  IsOn names (variable s x) clock = names x ≡ Some clock
  IsOn names (last_of s x) clock = clock ≡ []
  IsOn names (one s o a) clock = IsOn names a clock
  IsOn names (two s o a b) clock = IsOn names a clock × IsOn names b clock
  IsOn names (choose s a b c) clock = IsOn names a clock × IsOn names b clock × IsOn names c clock
  IsOn names (pre s a) clock = IsOn names a clock
  IsOn names (fby s a b) clock = IsOn names a clock × IsOn names b clock
  IsOn names (arrow s a b) clock = IsOn names a clock × IsOn names b clock
  IsOn names (when_is s a c x) clock = (clock ≡ (c, x) ∷ without clock) × (names x ≡ Some (without clock)) × IsOn names a (without clock)
  IsOn names (merge s x ps) clock = (names x ≡ Some clock) × PartsOn names x ps clock
  IsOn names (call s f inlined es) clock = ExprsOn names es clock

  pub ExprsOn : Standing → Exprs → Clock → Type 0
  ExprsOn names no_expr clock = ⊤
  ExprsOn names (more_exprs e es) clock = IsOn names e clock × ExprsOn names es clock

  pub PartsOn : Standing → List ℕ → Parts → Clock → Type 0
  PartsOn names x no_part clock = ⊤
  PartsOn names x (more_parts c e ps) clock = IsOn names e ((c, x) ∷ clock) × PartsOn names x ps clock

abbrev pub ConditionsOn : Standing → List Trans → Type 0
ConditionsOn names [] = ⊤
ConditionsOn names (t ∷ ts) = IsOn names t.cond [] × ConditionsOn names ts

-- the names on the left side of an equation are on its clock
abbrev pub LeftsOn : List Decl → List (List ℕ × Span) → Clock → Type 0
LeftsOn ds [] clock = ⊤
LeftsOn ds (y ∷ ys) clock = (clock_in ds y.0 ≡ clock) × LeftsOn ds ys clock

-- A name that a control equation defines is on the base clock.
abbrev pub DefinesOnBase : List Decl → Eqn → Type 0
DefinesOnBase ds e = (x : List ℕ) → IsTrue (defines e x) → clock_in ds x ≡ []

-- The clock of a declaration is right, and a name that is declared `last` is on the base clock.
abbrev pub LastOnBase : Decl → Type 0
LastOnBase d = elim d.last [ None ↦ ⊤ | Some c ↦ written d.clock ≡ [] ]

abbrev pub DeclarationsRight : Standing → List Decl → Type 0
DeclarationsRight names [] = ⊤
DeclarationsRight names (d ∷ ds) = ClockRight names (written d.clock) × LastOnBase d × DeclarationsRight names ds

-- the clocks in a block, where names of further out stand so
abbrev mutual
  pub BlockRight : Standing → Block → Type 0
  BlockRight out (block ds es) = DeclarationsRight (standing_in ds es out) ds × AllRight (standing_in ds es out) ds es

  pub AllRight : Standing → List Decl → Eqns → Type 0
  AllRight names ds no_eqn = ⊤
  AllRight names ds (more_eqns e es) = OneRight names ds e × AllRight names ds es

  pub OneRight : Standing → List Decl → Eqn → Type 0
  OneRight names ds (define s ys e) = ClockRight names (clock_of ds ys e) × LeftsOn ds ys (clock_of ds ys e) × IsOn names e (clock_of ds ys e)
  OneRight names ds (switch s e arms) = DefinesOnBase ds (switch s e arms) × IsOn names e [] × ArmsRight names arms
  OneRight names ds (reset s b e) = DefinesOnBase ds (reset s b e) × IsOn names e [] × BlockRight names b
  OneRight names ds (automaton s ss) = DefinesOnBase ds (automaton s ss) × StatesRight names ss

  pub ArmsRight : Standing → Arms → Type 0
  ArmsRight names no_arm = ⊤
  ArmsRight names (more_arms c b s arms) = BlockRight names b × ArmsRight names arms

  pub StatesRight : Standing → States → Type 0
  StatesRight names no_state = ⊤
  StatesRight names (more_states f b until unless s ss) =
      BlockRight names b × ConditionsOn (standing_of b names) until × ConditionsOn names unless × StatesRight names ss

-- ---- nodes: inputs, outputs and controllable variables are on the base clock

abbrev pub on_base : Bool → Option Clock
on_base b = if b then Some [] else None

abbrev pub TellsOnBase : Standing → Option Expr → Type 0
TellsOnBase names None = ⊤
TellsOnBase names (Some e) = IsOn names e []

abbrev pub ContractRight : Standing → Option Contract → Type 0
ContractRight out None = ⊤
ContractRight out (Some c) = BlockRight out c.body × TellsOnBase (standing_of c.body out) c.assume × TellsOnBase (standing_of c.body out) c.enforce

abbrev pub own_clock : Block → List ℕ → Clock
own_clock (block ds es) x = clock_in ds x

abbrev pub OutputsOnBase : Node → Type 0
OutputsOnBase n = (x : List ℕ) → IsTrue (declares n.outputs x) → own_clock n.body x ≡ []

pub record ClocksRight (n : Node) : Type 0 where
  pub outputs : OutputsOnBase n
  pub body : BlockRight (λ x. on_base (declares n.inputs x || (declares n.outputs x || declares (controls_of n.contract) x))) n.body
  pub contract : ContractRight (λ x. on_base (declares n.inputs x || declares n.outputs x)) n.contract
