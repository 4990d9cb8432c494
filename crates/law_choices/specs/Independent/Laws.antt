-- Removing automata adds no dependence on what a node is given.
use Rattle.std.specs.Prelude.{ℕ, ◌≡◌, true, false, List, [], ◌∷◌, ⊤}
use Rattle.hp_tree.specs.Blocks.{Decl}
use Rattle.hp_tree.specs.Programs.{Node}
use Rattle.hp_tree.specs.Instant.{Controls, Body, Named, Place}
use Rattle.hp_tree.specs.Meaning.{declares, controls_of}
use Rattle.hp_meaning.specs.Causal.Causality.{IsCausal, Chain}
use Rattle.hp_meaning.specs.Causal.Clocked.{ClocksRight, own_clock}
use Rattle.hp_meaning.specs.Causal.InputDependence.{DependsOnNone}
use Rattle.hp_meaning.specs.Causal.Points.{NamesDeclared}
use Rattle.hp_meaning.specs.Causal.WhatIsRead.{has_equation}
use Rattle.hp_automata.specs.Lowering.{Enumerations, lowered_node}
use Rattle.law_automata.specs.Lowered.OldNames.{IsOld}
use Rattle.law_automata.specs.Lowered.Removable.{NodeOk}
use Rattle.law_choices.specs.Independent.Dependence.{locals, IsOwn, IsGiven, DependsOnGiven}

-- Something is given under a name that the body neither declares nor defines, and that is no output.
pub record IsApart (n : Node) (x : List ℕ) : Type 0 where
  pub given : IsGiven n x
  pub no_output : declares n.outputs x ≡ false
  pub no_local : declares (locals n.body) x ≡ false
  pub undefined : has_equation n.body x ≡ false

-- In a node whose names are declared, whose clocks are right and that is causal, let an output or a local of the body be on the base clock.
-- Where it does not depend on something that is given under a name of the program, it does not without automata.
abbrev pub NodeLaw : Type 0
NodeLaw =
    (enums : Enumerations) (n : Node) (y x : List ℕ) → NodeOk n → NamesDeclared n → ClocksRight n → IsCausal n → IsOld x → IsApart n x → IsOwn n y → own_clock n.body y ≡ []
    → (DependsOnGiven n y x → ⊥) → DependsOnGiven (lowered_node enums n) y x → ⊥

-- ---- in the words of inputs, and of chains of reads

-- Some declarations are inputs of a node, no controllable variables, and apart.
abbrev pub AllInputs : Node → List Decl → Type 0
AllInputs n [] = ⊤
AllInputs n (d ∷ ds) = (IsOld d.name × IsApart n d.name × (declares (controls_of n.contract) d.name ≡ false)) × AllInputs n ds

-- Where a name of the body depends on none of some inputs, it depends on none of them without automata.
abbrev pub InputsLaw : Type 0
InputsLaw =
    (enums : Enumerations) (n : Node) (y : List ℕ) (ds : List Decl) → NodeOk n → NamesDeclared n → ClocksRight n → IsCausal n → AllInputs n ds → IsOwn n y → own_clock n.body y ≡ []
    → DependsOnNone n y ds → DependsOnNone (lowered_node enums n) y ds

-- Where it reads no controllable variable by any chain, it reads none without automata.
abbrev pub ControlsLaw : Type 0
ControlsLaw =
    (enums : Enumerations) (n : Node) (y : List ℕ) → NodeOk n → NamesDeclared n → ClocksRight n → IsCausal n → ((x : List ℕ) → declares (controls_of n.contract) x ≡ true → IsOld x × IsApart n x) → IsOwn n y → own_clock n.body y ≡ []
    → ((between : List Place) (q : Place) → Chain n (Body ∷ Named y ∷ []) between (Controls ∷ q) → ⊥)
    → (between : List Place) (q : Place) → Chain (lowered_node enums n) (Body ∷ Named y ∷ []) between (Controls ∷ q) → ⊥
