-- Worked: the wires of a delay with a contract, of a node that calls it, and of an automaton. They meet what is asked of wires, by computing.
use Rattle.std.proofs.Common.{◌≡◌, List, [], ◌∷◌, refl, ap₂}
use Rattle.std.specs.Prelude.{ℕ, Bool, true, false, not, if◌then◌else◌, None, Some, reverse}
use Rattle.hp_base.specs.declared.value.Value.{Value}
use Rattle.hp_base.specs.declared.value.Value.TheVariants.{B, E}
use Rattle.hp_base.specs.declared.span.Span.{Span}
use Rattle.hp_base.specs.declared.ty.Ty.TheVariants as ty
use Rattle.hp_base.specs.declared.ty.Const.TheVariants as const
use Rattle.hp_tree.specs.declared.program.Item.{Item}
use Rattle.hp_tree.specs.declared.program.Item.TheVariants.{NodeItem}
use Rattle.hp_tree.specs.Expressions.{constant, variable, fby, arrow, call, no_expr, more_exprs}
use Rattle.hp_tree.specs.Blocks.{Decl, block, no_eqn, more_eqns, define, automaton, States, no_state, more_states}
use Rattle.hp_tree.specs.Programs.{Node}
use Rattle.hp_tree.specs.Operators.{is_true}
use Rattle.hp_tree.specs.Instant.{Body, Enforce, Named, Fresh, Next, Pending, Equations, Head, Right, Place, Instant, Past, nothing}
use Rattle.hp_meaning.specs.Causal.Clocked.{ClocksRight}
use Rattle.hp_meaning.specs.Contract.Memory.{memory, remembers_node}
use Rattle.law_games.specs.Wires.Wired.{held}
use Rattle.law_games.specs.Wires.WiredNodes.{wired_node}
use Rattle.law_games.specs.Wires.WiredCallees.{callee_wires}
use Rattle.law_games.specs.Wires.Laws.{held_after, memory_behind, IsWiring}

abbrev pub s : Span
s = record { line = 0; col = 0; end = 0 }

abbrev pub a_bool : List ℕ → Decl
a_bool x = record { name = x; ty = ty.Bool; last = None; clock = None; span = s }

abbrev pub x : List ℕ
x = 120 ∷ []

abbrev pub y : List ℕ
y = 121 ∷ []

-- `node h(x : bool) returns (y : bool) contract enforce y let y = true fby x tel`
abbrev pub delayed : Node
delayed = record { name = 104 ∷ []; span = s; inputs = a_bool x ∷ []; outputs = a_bool y ∷ []; contract = Some (record { body = block [] no_eqn; assume = None; enforce = Some (variable s y); controls = []; span = s }); body = block [] (more_eqns (define s ((y, s) ∷ []) (fby s (constant s (const.B true)) (variable s x))) no_eqn) }

-- `node g(x : bool) returns (y : bool) let y = h(x) tel`
abbrev pub calling : Node
calling = record { name = 103 ∷ []; span = s; inputs = a_bool x ∷ []; outputs = a_bool y ∷ []; contract = None; body = block [] (more_eqns (define s ((y, s) ∷ []) (call s (104 ∷ []) false (more_exprs (variable s x) no_expr))) no_eqn) }

abbrev pub program : List Item
program = NodeItem delayed ∷ NodeItem calling ∷ []

-- registers hold zeros at the start
abbrev pub zeros : Instant
zeros p = B false

-- ---- the delay

abbrev pub wires : Instant → Value → Instant → Instant
wires mem v now = wired_node [] (callee_wires [] (reverse program)) delayed (v ∷ []) (held zeros mem nothing) now

abbrev pub settled : Instant → Value → Instant
settled mem v = wires mem v (wires mem v (wires mem v (wires mem v nothing)))

abbrev pub register : Place
register = Body ∷ Equations ∷ Head ∷ Right ∷ []

abbrev pub begun : Place
begun = Body ∷ Equations ∷ Head ∷ Right ∷ Fresh ∷ []

-- At first both registers hold false. What is remembered with zeros everywhere is there what the contract's memory has, which has zeros at registers alone.
at_first : (memory program delayed [] register ≡ B false) × (memory program delayed [] begun ≡ B false)
at_first = (refl, refl)

same_at_first : (remembers_node program delayed zeros [] register ≡ B false) × (remembers_node program delayed zeros [] begun ≡ B false)
same_at_first = (refl, refl)

-- From registers v0 and v1 and the input, the next registers are the input and true,
nexts : (mem : Instant) (v : Value) → (memory_behind [] (reverse program) delayed (v ∷ []) (held zeros mem nothing) (settled mem v) register ≡ v) × (memory_behind [] (reverse program) delayed (v ∷ []) (held zeros mem nothing) (settled mem v) begun ≡ B true)
nexts mem v = (refl, refl)

-- and the duty is v0 or not v1.
duty : (mem : Instant) (v : Value) (v0 v1 : Bool) → mem register ≡ B v0 → mem begun ≡ B v1 → settled mem v (Enforce ∷ []) ≡ B (if v1 then v0 else true)
duty mem v v0 true e f = ap₂ (λ u w. if is_true u then w else B true) f e
duty mem v v0 false e f = ap₂ (λ u w. if is_true u then w else B true) f e

pub delayed_clocks : ClocksRight delayed
delayed_clocks = record { outputs = λ z e. refl; body = (tt, ((tt, (refl, tt), (tt, refl)), tt)); contract = ((tt, tt), tt, refl) }

pub calling_clocks : ClocksRight calling
calling_clocks = record { outputs = λ z e. refl; body = (tt, ((tt, (refl, tt), (refl, tt)), tt)); contract = tt }

-- after each history these are its wires
pub delayed_wiring : (past : Past) (b : Bool) → IsWiring [] (reverse program) delayed (B b ∷ []) zeros nothing past (settled (remembers_node program delayed zeros past) (B b))
delayed_wiring past b =
    record {
      clocks = delayed_clocks;
      callees = (calling_clocks, (delayed_clocks, tt));
      fills = record { body = ((tt, tt), tt); contract = (tt, tt, tt) };
      sound = record { body = ((tt, tt, tt, tt), tt); contract = (tt, tt, tt) };
      solves = refl;
    }

-- ---- the node that calls it: each output of a call is given as true

abbrev pub all_true : Instant
all_true p = B true

abbrev pub called : Past → Value → Instant → Instant
called past v now = wired_node [] (callee_wires [] (reverse program)) calling (v ∷ []) (held_after [] (reverse program) calling zeros all_true past) now

abbrev pub call_settled : Past → Value → Instant
call_settled past v = called past v (called past v (called past v (called past v nothing)))

pub calling_wiring : (past : Past) (b : Bool) → IsWiring [] (reverse program) calling (B b ∷ []) zeros all_true past (call_settled past (B b))
calling_wiring past b =
    record {
      clocks = calling_clocks;
      callees = (calling_clocks, (delayed_clocks, tt));
      fills = record { body = (((tt, tt), (tt, tt, tt)), tt); contract = tt };
      sound = record { body = (((tt, tt), (tt, tt, tt)), tt); contract = tt };
      solves = refl;
    }

-- ---- two modes: `node m(x : bool) returns (y : bool) let automaton state A do y = true -> false until x then B state B do y = false -> true until x then A end tel`

abbrev pub mode : List ℕ → Bool → List ℕ → States → States
mode f b target ss =
    more_states f
    (block [] (more_eqns (define s ((y, s) ∷ []) (arrow s (constant s (const.B b)) (constant s (const.B (not b))))) no_eqn))
    (record { cond = variable s x; restart = true; target = target; span = s } ∷ []) [] s ss

abbrev pub modes : Node
modes = record { name = 109 ∷ []; span = s; inputs = a_bool x ∷ []; outputs = a_bool y ∷ []; contract = None; body = block [] (more_eqns (automaton s (mode (65 ∷ []) true (66 ∷ []) (mode (66 ∷ []) false (65 ∷ []) no_state))) no_eqn) }

abbrev pub alone : List Item
alone = NodeItem modes ∷ []

abbrev pub start : Instant
start = remembers_node alone modes zeros []

abbrev pub moded : Value → Instant → Instant
moded v now = wired_node [] (callee_wires [] (reverse alone)) modes (v ∷ []) (held zeros start nothing) now

abbrev pub mode_settled : Value → Instant
mode_settled v = moded v (moded v (moded v (moded v (moded v (moded v nothing)))))

modes_clocks : ClocksRight modes
modes_clocks = record { outputs = λ z e. refl; body = (tt, ((λ z e. refl, ((tt, ((tt, (refl, tt), (tt, tt)), tt)), (refl, tt), tt, ((tt, ((tt, (refl, tt), (tt, tt)), tt)), (refl, tt), tt, tt))), tt)); contract = tt }

mode_wiring : (b : Bool) → IsWiring [] (reverse alone) modes (B b ∷ []) zeros nothing [] (mode_settled (B b))
mode_wiring b =
    record {
      clocks = modes_clocks;
      callees = (modes_clocks, tt);
      fills = record { body = ((((tt, tt), tt), (tt, tt), tt, (((tt, tt), tt), (tt, tt), tt, tt)), tt); contract = tt };
      sound = record { body = ((refl, (((tt, tt, tt), tt), (tt, tt), tt, (((tt, tt, tt), tt), (tt, tt), tt, tt))), tt); contract = tt };
      solves = refl;
    }

-- in the first state the output is true, and the input makes the second one next, which is to begin anew
mode_output : (b : Bool) → mode_settled (B b) (Named y ∷ []) ≡ B true
mode_output b = refl

abbrev pub words : Instant
words p = memory_behind [] (reverse alone) modes (B true ∷ []) (held zeros start nothing) (mode_settled (B true)) (Body ∷ Equations ∷ Head ∷ p)

mode_next : words (Next ∷ []) ≡ E 0 1
mode_next = refl

mode_pending : words (Pending ∷ []) ≡ B true
mode_pending = refl
