-- The flat instants of a reaction of a node.
use Rattle.std.specs.Prelude.{◌≡◌, ⊤, ℕ, Bool, true, false, ◌&&◌, ◌||◌, if◌then◌else◌, List, [], ◌∷◌, IsTrue}
use Rattle.hp_base.specs.declared.value.Value.{Value}
use Rattle.hp_base.specs.declared.value.Value.TheVariants.{Absent, B}
use Rattle.hp_tree.specs.Blocks.{Decl}
use Rattle.hp_tree.specs.Programs.{TypeDecl, Node}
use Rattle.hp_tree.specs.Operators.{same_value, is_true}
use Rattle.hp_tree.specs.Instant.{Controls, Body, Head, Tail, Place, Instant, Past, Given, part}
use Rattle.hp_tree.specs.Meaning.{Names, absent, input_of, controls_of}
use Rattle.law_equations.specs.Flattened.Flat.{name, value, Now, since, held}
use Rattle.law_equations.specs.Flattened.Flatten.{FlatName, Input, At, Free, Nowhere, IsFirst, Held, When, always, on, steps, ats, Prefix, Scope, lasts_at, node_scope}
use Rattle.law_equations.specs.Flattened.Timely.{Timely, scope_clocks}

-- a reaction by what is said of each instant
abbrev pub Reacts : (List Value → Given → Instant → Instant) → List (List Value) → List Instant → Past → Type 0
Reacts said [] [] [] = ⊤
Reacts said (inputs ∷ earlier) (free ∷ frees) (now ∷ past) =
    Reacts said earlier frees past × ((p : Place) → now p ≡ said inputs (record { past = past; free = free }) now p)
Reacts said inputs frees past = ⊥

abbrev pub restarted : List Place → Instant → Bool
restarted [] now = false
restarted (p ∷ ps) now = is_true (now p) || restarted ps now

-- what flat names stand for at an instant, after some flat instants
abbrev mutual
  pub lifted : List (Now FlatName) → Names → Instant → Instant → FlatName → Value
  lifted G names free now (Input x) = names x
  lifted G names free now (At p) = now p
  lifted G names free now (Free p) = free p
  lifted G names free now Nowhere = Absent
  lifted G names free now (IsFirst ck rs) =
      if lifted_holds G names free now ck then held (B true) (value (B false)) (if restarted rs now then [] else since (steps ck) (ats rs) G) else Absent
  lifted G names free now (Held v p ck rs) =
      if lifted_holds G names free now ck then held v (name (At p)) (if restarted rs now then [] else since (steps ck) (ats rs) G) else Absent

  pub lifted_holds : List (Now FlatName) → Names → Instant → Instant → When → Bool
  lifted_holds G names free now always = true
  lifted_holds G names free now (on v x w) = same_value (lifted G names free now x) v && lifted_holds G names free now w

-- what is given for some declarations, in a row
abbrev pub given_to : List Decl → Instant → List Value
given_to [] free = []
given_to (d ∷ ds) free = free (Head ∷ []) ∷ given_to ds (part Tail free)

-- the inputs of a node and its controllable variables, by their names
abbrev pub inputs_of : Node → List Value → Instant → Names
inputs_of n inputs free = input_of (controls_of n.contract) (given_to (controls_of n.contract) (part Controls free)) (input_of n.inputs inputs absent)

abbrev pub lifts : Node → List (List Value) → List Instant → Past → List (Now FlatName)
lifts n (inputs ∷ earlier) (free ∷ frees) (now ∷ past) =
    lifted (lifts n earlier frees past) (inputs_of n inputs free) free now ∷ lifts n earlier frees past
lifts n inputs frees past = []

abbrev pub all_inputs : Node → List (List Value) → List Instant → List Names
all_inputs n (inputs ∷ earlier) (free ∷ frees) = inputs_of n inputs free ∷ all_inputs n earlier frees
all_inputs n inputs frees = []

abbrev pub GivesInputs : Names → Now FlatName → Type 0
GivesInputs names now = (x : List ℕ) → now (Input x) ≡ names x

-- a place that is not for a controllable variable
abbrev pub uncontrolled : Place → Bool
uncontrolled [] = true
uncontrolled (Controls ∷ p) = false
uncontrolled (s ∷ p) = uncontrolled p

-- What is given, but for controllable variables, is a fixed value for each place. It is what a `pre` without a past gives.
abbrev pub IsFill : (Place → Value) → Instant → Type 0
IsFill fill free = (p : Place) → IsTrue (uncontrolled p) → free p ≡ fill p

abbrev pub AllFilled : (Place → Value) → List Instant → Type 0
AllFilled fill [] = ⊤
AllFilled fill (free ∷ frees) = IsFill fill free × AllFilled fill frees

-- the body of a node stands at the base clock
abbrev pub in_body : Prefix
in_body p = Body ∷ p

-- the last value of an output is remembered of the body's name
abbrev pub node_lasts : List TypeDecl → Node → Scope
node_lasts types n = lasts_at types n.outputs (λ x. Nowhere) in_body always []

abbrev pub NodeTimely : List TypeDecl → (List ℕ → List (List ℕ)) → Node → List (Now FlatName) → Type 0
NodeTimely types outputs n L = Timely (scope_clocks types outputs n.body (node_scope n) (node_lasts types n) in_body always []) in_body L
