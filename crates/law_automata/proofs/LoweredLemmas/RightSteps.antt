-- Right clocks of all equations, by one induction; then of nodes and programs.
use Rattle.std.proofs.Common.{◌≡◌, ℕ, ◌+◌, true, ◌||◌, List, [], ◌∷◌, map, Option, None, Some, option_map, inl, inr, refl, sym, ap, subst, ◌∙◌, arith}
use Rattle.std.specs.Prelude.{◌⊎◌}
use Rattle.hp_base.specs.declared.span.Span.{Span}
use Rattle.hp_tree.specs.declared.program.Item.{Item}
use Rattle.hp_tree.specs.declared.program.Item.TheVariants.{TypeItem, NodeItem}
use Rattle.hp_tree.specs.Expressions.{Expr}
use Rattle.hp_tree.specs.Blocks.{Decl, Block, block, Eqns, no_eqn, more_eqns, Eqn, define, switch, reset, automaton, Arms, no_arm, more_arms, States, no_state, more_states, eqns_of}
use Rattle.hp_tree.specs.Programs.{Contract, Node}
use Rattle.hp_tree.specs.Meaning.{declares, defines, some_defines, block_defines, states_define, controls_of}
use Rattle.hp_meaning.specs.Causal.Clocked.{Standing, base_alone, standing_of, IsOn, BlockRight, ArmsRight, ContractRight, TellsOnBase, ClocksRight, on_base, own_clock}
use Rattle.hp_tables.specs.Defining.Names.{names_of_arms}
use Rattle.hp_automata.specs.Names.{is_name, once}
use Rattle.hp_automata.specs.Renaming.{renamed_path, renamed_decls}
use Rattle.hp_automata.specs.Lowering.{Types, Enumerations, same_name, types_of, enumerations, lowered_arms, lowered_states, lowered_body, lowered_body_of, lowered_contract, lowered_node, lowered_item, state_eqns, idle, state_locals, locals_from}
use Rattle.law_automata.specs.Lowered.OldNames.{IsOld}
use Rattle.law_automata.specs.Lowered.Removable.{Known, none_known, and_defined, ArmsOk, BlockOk, ConditionOk, ContractOk, NodeOk, AllOldDecls, IsRemovable}
use Rattle.law_automata.specs.Lowered.Laws.{AllClocksRight, ClocksLaw, AllRightLaw}
use Rattle.law_automata.proofs.LoweredLemmas.Apart.{same_bytes}
use Rattle.law_automata.proofs.LoweredLemmas.Tests.{or_left, or_right, or_cases, declares_append}
use Rattle.law_automata.proofs.LoweredLemmas.Renaming.{Renames, within_renames}
use Rattle.law_automata.proofs.LoweredLemmas.Lookups.{eqn_old, names_of_switch}
use Rattle.law_automata.proofs.LoweredLemmas.Around.{Undone}
use Rattle.law_automata.proofs.LoweredLemmas.Nodes.{itself, itself_renames, itself_undone}
use Rattle.law_automata.proofs.LoweredLemmas.RightExpressions.{is_on, define_right, right_append}
use Rattle.law_automata.proofs.LoweredLemmas.RightBlocks.{RightAround, EqnRight, EqnsRight, BlockKept, block_kept_by, defines_base, standing_same, made, made_defines, plain_clocks}
use Rattle.law_automata.proofs.LoweredLemmas.RightAutomata.{StatesKept, base_renamed, state_kept, automaton_kept}
use Rattle.std.specs.Str.{bytes_eq}

module _ (enums : Enumerations) where
  -- the arms of a `switch` that defines these names
  abbrev ArmsKept : Arms → Type 0
  ArmsKept arms =
      (outer : Known) (d : ℕ) (to : List ℕ → List ℕ) (xs : List (List ℕ)) (names names' : Standing) → Renames outer d to → Undone to → ((x : List ℕ) → IsOld x → names' (to x) ≡ option_map (renamed_path to) (names x))
      → ((x : List ℕ) → is_name xs x ≡ true → outer x ≡ true) → ((x : List ℕ) → is_name xs x ≡ true → IsOld x) → ((x : List ℕ) → is_name xs x ≡ true → names x ≡ Some []) → (tys : Types) → ArmsOk outer d arms
      → ArmsRight names arms → ArmsRight names' (lowered_arms enums to tys d xs arms)

  around_part : (outer : Known) (d : ℕ) (to : List ℕ → List ℕ) (xs : List (List ℕ)) (b : Block) (names names' : Standing) → Renames outer d to → Undone to → ((x : List ℕ) → IsOld x → names' (to x) ≡ option_map (renamed_path to) (names x))
      → ((x : List ℕ) → is_name xs x ≡ true → outer x ≡ true) → ((x : List ℕ) → is_name xs x ≡ true → IsOld x) → ((x : List ℕ) → is_name xs x ≡ true → names x ≡ Some []) → BlockOk outer d b → RightAround outer d to xs b names names'
  around_part outer d to xs b names names' r un same own old base ok =
      record { renames = r; undone = un; ok = ok; own = own; old = old; out_same = λ x o h. ap base_alone (same x o) ∙ base_renamed to (names x); kept_base = base }

  mutual
    eqns_right : (es : Eqns) → EqnsRight enums es
    eqns_right no_eqn outer d to ds ds' names names' a tys more each ok stands h = each
    eqns_right (more_eqns e es) outer d to ds ds' names names' a tys more each ok stands h = (
      eqn_right e outer d to ds ds' names names' a tys ok.1 (λ x q. stands x (or_left (defines e x) (some_defines es x) q)) h.0,
      eqns_right es outer d to ds ds' names names' a tys more each ok.2 (λ x q. stands x (or_right (defines e x) (some_defines es x) q)) h.1,
    )

    eqn_right : (e : Eqn) → EqnRight enums e
    eqn_right (define s ys e) outer d to ds ds' names names' a tys ok stands h = define_right to names names' a.same ds ds' a.clocks s ys e ok.0 ok.1 h
    eqn_right (switch s e arms) outer d to ds ds' names names' a tys ok stands h =
        let E : Eqn = switch s e arms in (
          defines_base enums a tys E ok h.0,
          is_on to names names' a.same e ok.0 [] h.1,
          arms_right arms (and_defined E outer) d to (once (names_of_arms arms)) names names' (within_renames E a.renames) a.undone a.same
              (λ x q. or_left (defines E x) (outer x) (sym (names_of_switch enums arms x) ∙ q)) (λ x q. eqn_old outer d E ok x (sym (names_of_switch enums arms x) ∙ q))
              (λ x q. let mine = sym (names_of_switch enums arms x) ∙ q in stands x mine ∙ ap Some (h.0 x mine)) tys ok.1 h.2,
        )
    eqn_right (reset s b e) outer d to ds ds' names names' a tys ok stands h =
        let E : Eqn = reset s b e in (
          defines_base enums a tys E ok h.0,
          is_on to names names' a.same e ok.0 [] h.1,
          block_right b (and_defined E outer) d to [] names names'
              (around_part (and_defined E outer) d to [] b names names' (within_renames E a.renames) a.undone a.same (λ x q. absurd cc) (λ x q. absurd cc) (λ x q. absurd cc) ok.1) tys s h.2,
        )
    eqn_right (automaton s ss) outer d to ds ds' names names' a tys ok stands h = automaton_kept enums s ss (states_right ss) outer d to ds ds' names names' a tys ok stands h

    block_right : (b : Block) → BlockKept enums b
    block_right (block ds es) outer d to xs out out' a tys s h = block_kept_by enums ds es (eqns_right es) outer d to xs out out' a tys s h

    arms_right : (arms : Arms) → ArmsKept arms
    arms_right no_arm outer d to xs names names' r un same own old base tys ok h = tt
    arms_right (more_arms c b s arms) outer d to xs names names' r un same own old base tys ok h =
        (block_right b outer d to xs names names' (around_part outer d to xs b names names' r un same own old base ok.0) tys s h.0, arms_right arms outer d to xs names names' r un same own old base tys ok.1 h.1)

    states_right : (ss : States) → StatesKept enums ss
    states_right no_state outer to f e names outer_names' locals c all tys k ok room sub known h = tt
    states_right (more_states q (block ds es) until unless place ss) outer to f e names outer_names' locals c all tys k ok room sub known h =
        right_append names locals (state_eqns to f k unless (lowered_body enums to tys f k (block ds es) until) (idle enums tys f k)) (lowered_states enums to tys f (k + 1) ss)
        (state_kept enums outer to f e names outer_names' locals c all tys k (omega arith) ds es until unless (eqns_right es) ok.0.0 ok.0.1.1 ok.0.1.0 ok.0.2.1 ok.0.2.0 (λ x p. sub x (or_left (block_defines (block ds es) x) (states_define ss x) p))
        (λ y p. known y (declares_append (state_locals tys f k unless) (locals_from tys f (k + 1) ss) y ∙ or_left _ _ p)) h.0 h.1 h.2)
        (states_right ss outer to f e names outer_names' locals c all tys (k + 1) ok.1 (omega arith) (λ x p. sub x (or_right (block_defines (block ds es) x) (states_define ss x) p))
        (λ y p. known y (declares_append (state_locals tys f k unless) (locals_from tys f (k + 1) ss) y
        ∙ or_right (declares (state_locals tys f k unless) y) _ p)) h.3)

  -- ---- nodes

  path_itself : (path : List _) → renamed_path same_name path ≡ path
  path_itself [] = refl
  path_itself (on ∷ path) = ap (λ p. on ∷ p) (path_itself path)

  option_itself : (v : Option (List _)) → option_map (renamed_path same_name) v ≡ v
  option_itself None = refl
  option_itself (Some path) = ap Some (path_itself path)

  around_own : (b : Block) → BlockOk none_known 0 b → (out out' : Standing) → out' ≡ out → RightAround none_known 0 same_name [] b out out'
  around_own b ok out out' h =
      record { renames = itself_renames; undone = itself_undone; ok = ok; own = λ x q. absurd cc; old = λ x q. absurd cc; out_same = λ x o q. ap (λ g. base_alone (g x)) h; kept_base = λ x q. absurd cc }

  own_right : (tys : Types) (s : Span) (b : Block) → BlockOk none_known 0 b → (out out' : Standing) → out' ≡ out → BlockRight out b → BlockRight out' (lowered_body_of enums tys s b)
  own_right tys s b ok out out' e h = block_right b none_known 0 same_name [] out out' (around_own b ok out out' e) tys s h

  standing_own : (tys : Types) (s : Span) (b : Block) → BlockOk none_known 0 b → (out : Standing) (x : List ℕ) → IsOld x → standing_of (lowered_body_of enums tys s b) out x ≡ option_map (renamed_path same_name) (standing_of b out x)
  standing_own tys s (block ds es) ok out x o =
      let a = around_own (block ds es) ok out out refl in
      standing_same a (renamed_decls same_name ds) (eqns_of (made enums tys s a)) (plain_clocks enums tys s a) (made_defines enums tys s a) x o

  own_clock_same : (tys : Types) (s : Span) (b : Block) → BlockOk none_known 0 b → (x : List ℕ) → IsOld x → own_clock (lowered_body_of enums tys s b) x ≡ renamed_path same_name (own_clock b x)
  own_clock_same tys s (block ds es) ok x o = (plain_clocks enums tys s (around_own (block ds es) ok (λ y. None) (λ y. None) refl)).same x o

  pub controls_same : (tys : Types) (c : Option Contract) → controls_of (option_map (lowered_contract enums tys) c) ≡ controls_of c
  controls_same tys None = refl
  controls_same tys (Some c) = refl

  tells_same : (names names' : Standing) → ((x : List ℕ) → IsOld x → names' x ≡ option_map (renamed_path same_name) (names x)) → (c : Option Expr) → ConditionOk c → TellsOnBase names c → TellsOnBase names' c
  tells_same names names' same None ok h = tt
  tells_same names names' same (Some e) ok h = subst (λ q. IsOn names' q []) (itself e) (is_on same_name names names' same e ok [] h)

  contract_right : (tys : Types) (out : Standing) (c : Option Contract) → ContractOk c → ContractRight out c → ContractRight out (option_map (lowered_contract enums tys) c)
  contract_right tys out None ok h = tt
  contract_right tys out (Some c) ok h = (
    own_right tys c.span c.body ok.0 out out refl h.0,
    tells_same (standing_of c.body out) (standing_of (lowered_body_of enums tys c.span c.body) out) (standing_own tys c.span c.body ok.0 out) c.assume ok.1 h.1,
    tells_same (standing_of c.body out) (standing_of (lowered_body_of enums tys c.span c.body) out) (standing_own tys c.span c.body ok.0 out) c.enforce ok.2 h.2,
  )

  pub declared_old : (ds : List Decl) → AllOldDecls ds → (x : List ℕ) → declares ds x ≡ true → IsOld x
  declared_old [] o x h = absurd cc
  declared_old (d ∷ ds) o x h = by (or_cases _ _ h) (declared_old ds o.1 x)
    where
      by : (bytes_eq d.name x ≡ true) ⊎ (declares ds x ≡ true) → (declares ds x ≡ true → IsOld x) → IsOld x
      by (inl q) r = subst IsOld (same_bytes d.name x q) o.0
      by (inr q) r = r q

  node_right : (n : Node) → NodeOk n → ClocksRight n → ClocksRight (lowered_node enums n)
  node_right n ok h =
      record {
        outputs = λ x q. own_clock_same (types_of n) n.span n.body ok.body x (declared_old n.outputs ok.outputs x q) ∙ ap (renamed_path same_name) (h.outputs x q);
        body = own_right (types_of n) n.span n.body ok.body _ _ (λ i x. on_base (declares n.inputs x || (declares n.outputs x || declares (controls_same (types_of n) n.contract i) x))) h.body;
        contract = contract_right (types_of n) (λ x. on_base (declares n.inputs x || declares n.outputs x)) n.contract ok.contract h.contract;
      }

  items_right : (items : List Item) → IsRemovable items → AllClocksRight items → AllClocksRight (map (lowered_item enums) items)
  items_right [] ok h = tt
  items_right (TypeItem t ∷ items) ok h = items_right items ok h
  items_right (NodeItem n ∷ items) ok h = (node_right n ok.0 h.0, items_right items ok.1 h.1)

pub clocks_law : ClocksLaw
clocks_law enums n ok h = node_right enums n ok h

pub all_right_law : AllRightLaw
all_right_law program ok h = items_right (enumerations [] program) program ok h
