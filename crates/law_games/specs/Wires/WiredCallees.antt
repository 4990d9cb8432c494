-- The wires of the nodes that a node calls: of each its contract alone, which calls nothing; its outputs are given.
-- Source: own.
use Rattle.std.specs.Prelude.{ℕ, ⊤, if◌then◌else◌, List, [], ◌∷◌, Option, None, Some}
use Rattle.std.specs.Str.{bytes_eq}
use Rattle.hp_base.specs.declared.value.Value.{Value}
use Rattle.hp_base.specs.declared.value.Value.TheVariants.{Absent}
use Rattle.hp_tree.specs.declared.program.Item.{Item}
use Rattle.hp_tree.specs.declared.program.Item.TheVariants.{TypeItem, NodeItem}
use Rattle.hp_tree.specs.Blocks.{Decl}
use Rattle.hp_tree.specs.Programs.{TypeDecl, Contract, Node}
use Rattle.hp_tree.specs.Instant.{Named, Instant, Given, nothing, in_node}
use Rattle.hp_tree.specs.Meaning.{Names, Nodes, lasts, input_of, names_of, observer, no_nodes, node_among, absent}
use Rattle.hp_meaning.specs.Causal.Abstract.{given_outputs}
use Rattle.hp_meaning.specs.Contract.Memory.{is_last, in_memory, remembers_callee}
use Rattle.law_games.specs.Wires.Wired.{filled_abstraction, Held, Callees, lasts_in, value}
use Rattle.law_games.specs.Wires.WiredNodes.{wired_observer, shown_observer, next_observer, SoundObserver, FillsObserver}

-- of an instance whose node is not known its outputs alone are there
abbrev pub outputs_alone : Instant → Instant
outputs_alone now = in_node (λ x. now (Named x ∷ [])) [] [] nothing nothing

-- where no node is called
abbrev pub no_callees : Callees
no_callees =
    record {
      outputs = λ f. [];
      wired = λ f ins m now. nothing;
      shown = λ f ins m now. outputs_alone now;
      remembers = λ f start past. nothing;
      next = λ f ins m now. nothing;
      sound = λ f ins m now. ⊥;
      fills = λ f start free. ⊤;
    }

-- what a callee's contract reads: outputs, which are given, and inputs
abbrev pub alone_names : Node → List Value → Instant → Names
alone_names n ins free = given_outputs n.outputs free (input_of n.inputs ins absent)

-- and the last values of its outputs, as its memory has them
abbrev pub own_last : Node → Held → Names
own_last n m = lasts_in n.outputs m.memory absent

module _ (types : List TypeDecl) where
  -- a call's instance in the abstraction, where a `pre` without a past gives what is given
  abbrev pub alone_in : Node → List Value → Given → Instant → Instant
  alone_in n ins g now =
      in_node (given_outputs n.outputs g.free absent) ins [] nothing
      (observer types filled_abstraction no_nodes n.contract (alone_names n ins g.free) (lasts (value types) n.outputs g.past absent) g now)

  -- the nodes of a program, the last one first, as they are called so
  abbrev pub filled_callees : List Item → Nodes
  filled_callees [] = no_nodes
  filled_callees (TypeItem t ∷ earlier) = filled_callees earlier
  filled_callees (NodeItem n ∷ earlier) =
      let N = filled_callees earlier in
      record {
        outputs = λ f. if bytes_eq n.name f then names_of n.outputs else N.outputs f;
        instant = λ f ins g now. if bytes_eq n.name f then alone_in n ins g now else N.instant f ins g now;
      }

  -- ---- the wires of an instance, what is shown of them, and its next memory

  abbrev pub wired_alone : Node → List Value → Held → Instant → Instant
  wired_alone n ins m now =
      in_node (given_outputs n.outputs m.free absent) ins [] nothing (wired_observer types no_callees n.contract (alone_names n ins m.free) (own_last n m) m now)

  abbrev pub shown_alone : Node → List Value → Held → Instant → Instant
  shown_alone n ins m now =
      in_node (λ x. now (Named x ∷ [])) ins [] nothing (shown_observer types no_callees n.contract (alone_names n ins m.free) (own_last n m) m now)

  -- A node without a contract holds nothing.
  abbrev pub next_told_of : List Decl → Option Contract → Names → Names → Held → Instant → Instant
  next_told_of outputs None names last m now = nothing
  next_told_of outputs (Some c) names last m now =
      in_memory (λ x. if is_last outputs x then now (Named x ∷ []) else Absent) nothing (next_observer types no_callees (Some c) names last m now)

  abbrev pub next_alone : Node → List Value → Held → Instant → Instant
  next_alone n ins m now = next_told_of n.outputs n.contract (alone_names n ins m.free) (own_last n m) m now

  abbrev pub SoundAlone : Node → List Value → Held → Instant → Type 0
  SoundAlone n ins m now = SoundObserver types no_callees n.contract (alone_names n ins m.free) (own_last n m) m now

  -- ---- the nodes of a program by their names

  abbrev pub outputs_by : Option Node → List (List ℕ)
  outputs_by None = []
  outputs_by (Some n) = names_of n.outputs

  abbrev pub alone_by : Option Node → List Value → Given → Instant → Instant
  alone_by None ins g now = nothing
  alone_by (Some n) ins g now = alone_in n ins g now

  abbrev pub wired_by : Option Node → List Value → Held → Instant → Instant
  wired_by None ins m now = nothing
  wired_by (Some n) ins m now = wired_alone n ins m now

  abbrev pub shown_by : Option Node → List Value → Held → Instant → Instant
  shown_by None ins m now = outputs_alone now
  shown_by (Some n) ins m now = shown_alone n ins m now

  abbrev pub next_by : Option Node → List Value → Held → Instant → Instant
  next_by None ins m now = nothing
  next_by (Some n) ins m now = next_alone n ins m now

  abbrev pub SoundBy : Option Node → List Value → Held → Instant → Type 0
  SoundBy None ins m now = ⊥
  SoundBy (Some n) ins m now = SoundAlone n ins m now

  abbrev pub FillsBy : Option Node → Instant → Instant → Type 0
  FillsBy None start free = ⊤
  FillsBy (Some n) start free = FillsObserver types no_callees n.contract start free

  -- the callees among some items, the last one first
  abbrev pub callee_wires : List Item → Callees
  callee_wires items =
      record {
        outputs = λ f. outputs_by (node_among items f);
        wired = λ f ins m now. wired_by (node_among items f) ins m now;
        shown = λ f ins m now. shown_by (node_among items f) ins m now;
        remembers = λ f start past. remembers_callee types (node_among items f) start past;
        next = λ f ins m now. next_by (node_among items f) ins m now;
        sound = λ f ins m now. SoundBy (node_among items f) ins m now;
        fills = λ f start free. FillsBy (node_among items f) start free;
      }
