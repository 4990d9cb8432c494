-- The wires of a node: those of its body and of its contract, with the memory of its `last` outputs.
-- Source: own.
use Rattle.std.specs.Prelude.{ℕ, ⊤, false, if◌then◌else◌, List, [], ◌∷◌, Option, None, Some}
use Rattle.hp_base.specs.declared.value.Value.{Value}
use Rattle.hp_base.specs.declared.value.Value.TheVariants.{Absent}
use Rattle.hp_tree.specs.Expressions.{Expr}
use Rattle.hp_tree.specs.Blocks.{Decl}
use Rattle.hp_tree.specs.Programs.{TypeDecl, Contract, Node}
use Rattle.hp_tree.specs.Operators.{abstraction}
use Rattle.hp_tree.specs.Instant.{Controls, Body, Observer, Assume, Enforce, Named, Instant, Past, part, parts, own, nothing, in_observer, in_node}
use Rattle.hp_tree.specs.Meaning.{Names, declares, lasts, input_of, given_to, no_nodes, absent}
use Rattle.hp_tree.specs.Meaning.{controls_of}
use Rattle.hp_meaning.specs.Contract.Memory.{is_last, remembers_block, remembers_contract, in_memory}
use Rattle.law_games.specs.Wires.Wired.{Held, held_at, lasts_in, Callees, value, wired, shown, next, Sound, Fills}
use Rattle.law_games.specs.Wires.WiredBlocks.{read_of, lasts_of, wired_block, shown_block, next_block, SoundBlock, FillsBlock}

module _ (types : List TypeDecl) (C : Callees) where
  -- ---- what a contract assumes and enforces

  abbrev pub wired_told : Option Expr → Names → Names → Held → Instant → Instant
  wired_told None names last m now = nothing
  wired_told (Some e) names last m now = wired types C e names last m now

  abbrev pub shown_told : Option Expr → Names → Held → Instant → Instant
  shown_told None names m now = nothing
  shown_told (Some e) names m now = shown types C e [] names m now

  abbrev pub next_told : Option Expr → Names → Held → Instant → Instant
  next_told None names m now = nothing
  next_told (Some e) names m now = next types C e [] names m now

  abbrev pub SoundTold : Option Expr → Names → Held → Instant → Type 0
  SoundTold None names m now = ⊤
  SoundTold (Some e) names m now = Sound types C e names m now

  abbrev pub FillsTold : Option Expr → Instant → Instant → Type 0
  FillsTold None start free = ⊤
  FillsTold (Some e) start free = Fills types C e start free

  -- ---- a contract

  abbrev pub wired_observer : Option Contract → Names → Names → Held → Instant → Instant
  wired_observer None names last m now = nothing
  wired_observer (Some c) names last m now =
      let own_names = read_of c.body names (part Observer now) in
      let own_last = lasts_of c.body (part Observer m.memory) last in
      in_observer
      (wired_block types C c.body false names last (held_at Observer m) (part Observer now))
      (wired_told c.assume own_names own_last (held_at Assume m) (part Assume now))
      (wired_told c.enforce own_names own_last (held_at Enforce m) (part Enforce now))

  abbrev pub shown_observer : Option Contract → Names → Names → Held → Instant → Instant
  shown_observer None names last m now = nothing
  shown_observer (Some c) names last m now =
      in_observer
      (shown_block types C c.body names last (held_at Observer m) (part Observer now))
      (shown_told c.assume (read_of c.body names (part Observer now)) (held_at Assume m) (part Assume now))
      (shown_told c.enforce (read_of c.body names (part Observer now)) (held_at Enforce m) (part Enforce now))

  abbrev pub next_observer : Option Contract → Names → Names → Held → Instant → Instant
  next_observer None names last m now = nothing
  next_observer (Some c) names last m now =
      in_observer
      (next_block types C c.body names last (held_at Observer m) (part Observer now))
      (next_told c.assume (read_of c.body names (part Observer now)) (held_at Assume m) (part Assume now))
      (next_told c.enforce (read_of c.body names (part Observer now)) (held_at Enforce m) (part Enforce now))

  abbrev pub SoundObserver : Option Contract → Names → Names → Held → Instant → Type 0
  SoundObserver None names last m now = ⊤
  SoundObserver (Some c) names last m now =
      SoundBlock types C c.body names last (held_at Observer m) (part Observer now)
      × SoundTold c.assume (read_of c.body names (part Observer now)) (held_at Assume m) (part Assume now)
      × SoundTold c.enforce (read_of c.body names (part Observer now)) (held_at Enforce m) (part Enforce now)

  abbrev pub FillsObserver : Option Contract → Instant → Instant → Type 0
  FillsObserver None start free = ⊤
  FillsObserver (Some c) start free =
      FillsBlock types C c.body (part Observer start) (part Observer free)
      × FillsTold c.assume (part Assume start) (part Assume free)
      × FillsTold c.enforce (part Enforce start) (part Enforce free)

  -- ---- a node

  -- what is remembered of `last` outputs, and of a node
  abbrev pub last_outputs : List Decl → Past → List ℕ → Value
  last_outputs ds past x = if is_last ds x then lasts (value types) ds past absent x else Absent

  abbrev pub remembers_in : Node → Instant → Past → Instant
  remembers_in n start past =
      in_memory (last_outputs n.outputs past)
      (remembers_block types C.remembers n.body (part Body start) (own (parts Body past)))
      (remembers_contract types C.remembers n.contract start past)

  -- the values of the controllable variables, which are given
  abbrev pub controls_in : Node → Instant → List Value
  controls_in n free = given_to types abstraction no_nodes (controls_of n.contract) (part Controls free)

  -- what a body reads: inputs and controllable variables
  abbrev pub body_names : Node → List Value → Instant → Names
  body_names n inputs free = input_of (controls_of n.contract) (controls_in n free) (input_of n.inputs inputs absent)

  -- what a contract reads: outputs and inputs
  abbrev pub contract_names : Node → List Value → Instant → Names
  contract_names n inputs now x = if declares n.outputs x then now (Named x ∷ []) else input_of n.inputs inputs absent x

  -- the wires, what is shown of them, and the next memory
  abbrev pub wired_node : Node → List Value → Held → Instant → Instant
  wired_node n inputs m now =
      let last = lasts_in n.outputs m.memory absent in
      in_node (λ x. if declares n.outputs x then now (Body ∷ Named x ∷ []) else Absent) inputs (controls_in n m.free)
      (wired_block types C n.body false (body_names n inputs m.free) last (held_at Body m) (part Body now))
      (wired_observer n.contract (contract_names n inputs now) last m now)

  abbrev pub shown_node : Node → List Value → Held → Instant → Instant
  shown_node n inputs m now =
      let last = lasts_in n.outputs m.memory absent in
      in_node (λ x. now (Named x ∷ [])) inputs (controls_in n m.free)
      (shown_block types C n.body (body_names n inputs m.free) last (held_at Body m) (part Body now))
      (shown_observer n.contract (contract_names n inputs now) last m now)

  abbrev pub next_node : Node → List Value → Held → Instant → Instant
  next_node n inputs m now =
      let last = lasts_in n.outputs m.memory absent in
      in_memory (λ x. if is_last n.outputs x then now (Named x ∷ []) else Absent)
      (next_block types C n.body (body_names n inputs m.free) last (held_at Body m) (part Body now))
      (next_observer n.contract (contract_names n inputs now) last m now)

  -- what is asked of wires, and of what is given
  pub record SoundNode (n : Node) (inputs : List Value) (m : Held) (now : Instant) : Type 0 where
    pub body : SoundBlock types C n.body (body_names n inputs m.free) (lasts_in n.outputs m.memory absent) (held_at Body m) (part Body now)
    pub contract : SoundObserver n.contract (contract_names n inputs now) (lasts_in n.outputs m.memory absent) m now

  pub record FillsNode (n : Node) (start free : Instant) : Type 0 where
    pub body : FillsBlock types C n.body (part Body start) (part Body free)
    pub contract : FillsObserver n.contract start free
