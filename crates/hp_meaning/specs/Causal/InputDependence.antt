-- What is read where an input is a place too, so that it can be said what depends on an input.
-- Source: the reads of WhatIsRead, in which an input reads nothing and is no place. Here its place is that of its value in the node.
use Rattle.std.specs.Prelude.{ℕ, ◌≡◌, List, [], ◌∷◌, if◌then◌else◌}
use Rattle.std.specs.Str.{bytes_eq}
use Rattle.hp_tree.specs.Blocks.{Decl}
use Rattle.hp_tree.specs.Programs.{Node}
use Rattle.hp_tree.specs.Instant.{Inputs, Controls, Body, Named, Head, Tail, Place}
use Rattle.hp_tree.specs.Meaning.{declares, controls_of}
use Rattle.hp_meaning.specs.Causal.Sources.{none, only, NameSources, PlaceSources, below, IsRead}
use Rattle.hp_meaning.specs.Causal.WhatIsRead.{output_in, in_block, in_contract, in_node}

-- A name of a row of declarations is its place there, and every other one is looked for further out.
abbrev pub row_in : List Decl → PlaceSources → NameSources → NameSources
row_in [] k out x = out x
row_in (d ∷ ds) k out x = if bytes_eq d.name x then k (Head ∷ []) else row_in ds (below Tail k) out x

abbrev pub input_in : Node → PlaceSources → NameSources
input_in n k x = row_in n.inputs (below Inputs k) (λ y. none) x

-- The body reads controllable variables and inputs, the contract outputs and inputs.
abbrev pub in_node_with_inputs : Node → PlaceSources → PlaceSources
in_node_with_inputs n k (Named x ∷ []) = output_in n (below Body k) x
in_node_with_inputs n k (Body ∷ p) = in_block n.body (row_in (controls_of n.contract) (below Controls k) (input_in n k)) (below Body k) p
in_node_with_inputs n k p = in_contract n.contract (λ x. if declares n.outputs x then output_in n (below Body k) x else input_in n k x) k p

-- what a place of a node reads, inputs among it
abbrev pub sources_with_inputs : Node → PlaceSources
sources_with_inputs n = in_node_with_inputs n only

-- a chain of such reads: each place of the list reads the next, and the last one reads the end
abbrev pub ChainWithInputs : Node → Place → List Place → Place → Type 0
ChainWithInputs n p [] end = IsRead end (sources_with_inputs n p)
ChainWithInputs n p (q ∷ qs) end = IsRead q (sources_with_inputs n p) × ChainWithInputs n q qs end

-- A place depends on the input of a name by a chain of reads.
abbrev pub DependsOnInput : Node → Place → List ℕ → Type 0
DependsOnInput n p x = (q : Place) × (input_in n only x ≡ only q) × (between : List Place) × ChainWithInputs n p between q

-- A name that the body defines depends on none of some inputs, as an early one on the controllable variables that became inputs.
abbrev pub DependsOnNone : Node → List ℕ → List Decl → Type 0
DependsOnNone n x [] = Unit {0}
DependsOnNone n x (d ∷ ds) = (DependsOnInput n (Body ∷ Named x ∷ []) d.name → ⊥) × DependsOnNone n x ds

-- ---- the law

-- Of places that are no inputs it says the same as what is read.
abbrev pub SameReadsLaw : Type 0
SameReadsLaw = (n : Node) (p q : Place) → ((r : Place) → q ≡ Inputs ∷ r → ⊥) → (IsRead q (sources_with_inputs n p) → IsRead q (in_node n only p)) × (IsRead q (in_node n only p) → IsRead q (sources_with_inputs n p))
