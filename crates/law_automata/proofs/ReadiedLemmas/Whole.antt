-- The nodes of a ready program without its automata are plain, and define their outputs.
use Rattle.std.proofs.Common.{ℕ, List, [], ◌∷◌, ◌++◌, map, sym, ◌∙◌}
use Rattle.std.specs.Prelude.{Option, None, Some, option_map}
use Rattle.hp_base.specs.declared.span.Span.{Span}
use Rattle.hp_tree.specs.declared.program.Item.{Item}
use Rattle.hp_tree.specs.declared.program.Item.TheVariants.{TypeItem, NodeItem}
use Rattle.hp_tree.specs.Blocks.{Decl, Block, block, Eqns, no_eqn, more_eqns, Eqn, define, switch, reset, automaton, Arms, no_arm, more_arms, States, no_state, more_states}
use Rattle.hp_tree.specs.Programs.{Contract, Node}
use Rattle.hp_tree.specs.Meaning.{declares, controls_of}
use Rattle.hp_meaning.specs.Clocking.Clocking.{AreOnce}
use Rattle.law_judged.specs.Named.Scoped.{Names, no_names, also, BlockScoped, EqnsScoped, EqnScoped, ArmsScoped, StatesScoped, ContractScoped, interface, NodeScoped, EachNode}
use Rattle.law_judged.proofs.NamedLemmas.Sets.{declares_append, false_if, or_left}
use Rattle.law_judged.proofs.NamedLemmas.Judged.{scoped}
use Rattle.law_judged.proofs.TypedLemmas.ProgramLaws.{typed}
use Rattle.hp_expand.specs.Numbering.{no_node, replaced}
use Rattle.law_judged.proofs.ReplacedLemmas.CallsFit.{calls_fit}
use Rattle.law_judged.proofs.ReplacedLemmas.Enough.{few_variables}
use Rattle.law_judged.proofs.ReplacedLemmas.Marks.{all_few_calls}
use Rattle.law_judged.proofs.ReplacedLemmas.JudgedReplaced.{all_can, judged_replaced}
use Rattle.law_judged.specs.Once.Singly.{AreDistinct}
use Rattle.law_judged.proofs.OnceLemmas.Judged.{singly}
use Rattle.law_values.specs.Accepted.Laws.{IsReady}
use Rattle.hp_automata.specs.Lowering.{Types, Enumerations, enumerations, types_of, lowered_contract, lowered_node, lowered_item}
use Rattle.law_automata.specs.Lowered.Removable.{NodeOk, IsRemovable}
use Rattle.law_automata.proofs.LowerableLemmas.Texts.{clocked_of, scoped_clocked}
use Rattle.law_equations.specs.Made.Blocks.{LeftsOnce}
use Rattle.law_automata.specs.Readied.Single.{BlockSingle, EqnsSingle, EqnSingle, ArmsSingle, StatesSingle, ContractSingle, NodeSingle}
use Rattle.law_automata.specs.Readied.Laws.{SingleLaw, IsWhole, WholeLaw}
use Rattle.law_automata.proofs.ReadiedLemmas.Controls.{ControlsOnce, controls_once}
use Rattle.law_automata.proofs.ReadiedLemmas.LeftsKept.{BlockLefts, EqnsLefts, EqnLefts, ArmsLefts, StatesLefts, ContractLefts, NodeLefts, program_lefts, lefts_clocked}
use Rattle.law_automata.proofs.ReadiedLemmas.NoAutomata.{lowered_law}
use Rattle.law_automata.proofs.ReadiedLemmas.Outputs.{outputs_law}
use Rattle.law_automata.proofs.ReadiedLemmas.Plainly.{declared_once, plain_law}

-- ---- what names in their scopes give, with left sides

lefts_once : (ys : List (List ℕ × Span)) → AreDistinct ys → LeftsOnce ys
lefts_once [] h = tt
lefts_once (y ∷ ys) h = (h.0, lefts_once ys h.1)

mutual
  block_single : (seen own : Names) (b : Block) → BlockScoped seen own b → BlockLefts b → BlockSingle b
  block_single seen own (block ds es) s h = (s.0, eqns_single (also seen ds) (also own ds) es s.3 h)

  eqns_single : (seen own : Names) (es : Eqns) → EqnsScoped seen own es → EqnsLefts es → EqnsSingle es
  eqns_single seen own no_eqn s h = tt
  eqns_single seen own (more_eqns e es) s h = (eqn_single seen own e s.0 h.0, eqns_single seen own es s.1 h.1)

  eqn_single : (seen own : Names) (e : Eqn) → EqnScoped seen own e → EqnLefts e → EqnSingle e
  eqn_single seen own (define at ys e) s h = lefts_once ys h
  eqn_single seen own (switch at e arms) s h = arms_single seen own arms s h
  eqn_single seen own (reset at b e) s h = block_single seen own b s h
  eqn_single seen own (automaton at ss) s h = states_single seen own ss s h

  arms_single : (seen own : Names) (arms : Arms) → ArmsScoped seen own arms → ArmsLefts arms → ArmsSingle arms
  arms_single seen own no_arm s h = tt
  arms_single seen own (more_arms c b at arms) s h = (block_single seen own b s.0 h.0, arms_single seen own arms s.1 h.1)

  states_single : (seen own : Names) (ss : States) → StatesScoped seen own ss → StatesLefts ss → StatesSingle ss
  states_single seen own no_state s h = tt
  states_single seen own (more_states f b until unless at ss) s h = (block_single seen own b s.0 h.0, states_single seen own ss s.1 h.1)

contract_single : (seen : Names) (o : Option Contract) → ContractScoped seen o → ContractLefts o → ContractSingle o
contract_single seen None s h = tt
contract_single seen (Some c) s h = block_single seen no_names c.body s h

node_single : (n : Node) → NodeScoped n → NodeLefts n → NodeSingle n
node_single n s h = (contract_single (interface n) n.contract s.contract h.0, block_single (also (interface n) (controls_of n.contract)) (also no_names n.outputs) n.body s.body h.1)

each_single : (items : List Item) → EachNode NodeScoped items → EachNode NodeLefts items → EachNode NodeSingle items
each_single [] s h = tt
each_single (TypeItem t ∷ items) s h = each_single items s h
each_single (NodeItem n ∷ items) s h = (node_single n s.0 h.0, each_single items s.1 h.1)

-- ---- ready programs

pub ready_scoped : (program after : List Item) → IsReady program after → EachNode NodeScoped after
ready_scoped program after r =
    scoped_clocked (replaced program) after (clocked_of (replaced program) after r.clocks) (judged_replaced program r.named r.typed r.defined r.limits r.merges r.names r.calls)

pub single_law : SingleLaw
single_law program after r =
    let clocked = clocked_of (replaced program) after r.clocks in
    let can = all_can no_node program (scoped program r.named r.defined) r.names (calls_fit program r.named (typed program r.named r.typed r.merges)) (all_few_calls no_node program r.calls) (few_variables program r.limits) in
    each_single after (ready_scoped program after r) (lefts_clocked (replaced program) after clocked (program_lefts program can (singly program r.named r.defined)))

-- ---- without automata

once_first : (ds es : List Decl) → AreOnce (ds ++ es) → AreOnce ds
once_first [] es h = tt
once_first (d ∷ ds) es h = (
  false_if (declares ds d.name) (λ t. absurd (cc (sym h.0, declares_append ds es d.name ∙ or_left (declares ds d.name) (declares es d.name) t))),
  once_first ds es h.1,
)

once_last : (ds es : List Decl) → AreOnce (ds ++ es) → AreOnce es
once_last [] es h = h
once_last (d ∷ ds) es h = once_last ds es h.1

module _ (enums : Enumerations) where
  controls_kept : (tys : Types) (o : Option Contract) → AreOnce (controls_of o) → AreOnce (controls_of (option_map (lowered_contract enums tys) o))
  controls_kept tys None h = tt
  controls_kept tys (Some c) h = h

  whole : (n : Node) → NodeScoped n → NodeSingle n → ControlsOnce n → NodeOk n → IsWhole (lowered_node enums n)
  whole n s one once ok =
      let outputs = outputs_law enums n s ok in
      record {
        inputs = declared_once n.inputs (once_first n.inputs n.outputs s.once);
        controls = declared_once (controls_of (lowered_node enums n).contract) (controls_kept (types_of n) n.contract once);
        outputs = declared_once n.outputs (once_last n.inputs n.outputs s.once);
        lowered = lowered_law enums n;
        plain = plain_law enums n ok one;
        defined = outputs.0;
        nothing_else = outputs.1;
      }

  all_whole : (items : List Item) → EachNode NodeScoped items → EachNode NodeSingle items → EachNode ControlsOnce items → IsRemovable items → EachNode IsWhole (map (lowered_item enums) items)
  all_whole [] s one once ok = tt
  all_whole (TypeItem t ∷ items) s one once ok = all_whole items s one once ok
  all_whole (NodeItem n ∷ items) s one once ok = (whole n s.0 one.0 once.0 ok.0, all_whole items s.1 one.1 once.1 ok.1)

pub whole_law : WholeLaw
whole_law program after r ok = all_whole (enumerations [] after) after (ready_scoped program after r) (single_law program after r) (controls_once program after r.named (clocked_of (replaced program) after r.clocks)) ok
