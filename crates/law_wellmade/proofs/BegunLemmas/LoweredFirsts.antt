-- Where automata are removed, each declaration still has a type with a first value: new words are integers, truth values, or of the type of a name around.
use Rattle.std.proofs.Common.{ℕ, ◌+◌, List, [], ◌∷◌, ◌++◌, map}
use Rattle.std.specs.Prelude.{⊤, Bool, true, false, is_some, if◌then◌else◌, length, Option, None, Some, option_map}
use Rattle.std.specs.Str.{bytes_eq}
use Rattle.hp_base.specs.declared.span.Span.{Span}
use Rattle.hp_base.specs.declared.ty.Ty.{Ty}
use Rattle.hp_tree.specs.declared.block.Trans.{Trans}
use Rattle.hp_tree.specs.declared.program.Item.{Item}
use Rattle.hp_tree.specs.declared.program.Item.TheVariants.{TypeItem, NodeItem}
use Rattle.hp_tree.specs.Expressions.{Expr}
use Rattle.hp_tree.specs.Blocks.{Decl, Block, block, Eqns, no_eqn, more_eqns, Eqn, define, switch, reset, automaton, Arms, no_arm, more_arms, States, no_state, more_states, eqns_of}
use Rattle.hp_tree.specs.Programs.{TypeDecl, Contract, Node}
use Rattle.hp_tree.specs.Meaning.{controls_of}
use Rattle.hp_base.specs.Known.Known.{lookup, with_entry}
use Rattle.law_judged.specs.Named.Scoped.{EachNode}
use Rattle.hp_automata.specs.declared.new_names.Word.{Word}
use Rattle.hp_automata.specs.declared.new_names.Word.TheVariants.{Strong, Weak}
use Rattle.hp_tables.specs.Defining.Names.{names_of_arms, outer_names}
use Rattle.hp_automata.specs.Names.{is_name, once, missing}
use Rattle.hp_automata.specs.Renaming.{renamed_decls}
use Rattle.hp_automata.specs.Lowering as lowering
use Rattle.hp_automata.specs.Lowering.{Types, Enumerations, declaring, type_of, type_or_bool, Frame, inner, transition_locals, choice, choices, value_local, state_words, state_locals, locals_from, frame_words, frame_locals, idle_value, idle, joined, pending_of, stays, from_eqn, on_word, state_switch, strong_eqns, choosing_eqns, state_eqns, weak_eqns, own_next, frame_eqns, kept, all_kept, frame, lowered_block, lowered_eqns, lowered_eqn, lowered_arms, lowered_states, lowered_body, same_name, lowered_body_of, lowered_contract, lowered_node, lowered_item}
use Rattle.law_values.specs.Filled.Firsts.{HasFirst, DeclsHaveFirsts, BlockHasFirsts, EqnsHaveFirsts, EqnHasFirsts, ArmsHaveFirsts, StatesHaveFirsts, ContractHasFirsts, NodeHasFirsts}

module _ (types : List TypeDecl) where
  abbrev Decls : List Decl → Type 0
  Decls ds = DeclsHaveFirsts types ds

  abbrev Rows : List Eqn → Type 0
  Rows [] = ⊤
  Rows (e ∷ es) = EqnHasFirsts types e × Rows es

  both_decls : (ds es : List Decl) → Decls ds → Decls es → Decls (ds ++ es)
  both_decls [] es h k = k
  both_decls (d ∷ ds) es h k = (h.0, both_decls ds es h.1 k)

  of_rows : (es : List Eqn) → Rows es → EqnsHaveFirsts types (eqns_of es)
  of_rows [] h = tt
  of_rows (e ∷ es) h = (h.0, of_rows es h.1)

  both_rows : (es fs : List Eqn) → Rows es → Rows fs → Rows (es ++ fs)
  both_rows [] fs h k = k
  both_rows (e ∷ es) fs h k = (h.0, both_rows es fs h.1 k)

  decls_renamed : (to : List ℕ → List ℕ) (ds : List Decl) → Decls ds → Decls (renamed_decls to ds)
  decls_renamed to [] h = tt
  decls_renamed to (d ∷ ds) h = (h.0, decls_renamed to ds h.1)

  -- ---- the types of the names around

  abbrev Around : Types → Type 0
  Around [] = ⊤
  Around (e ∷ es) = HasFirst types e.1 × Around es

  around_append : (es : Types) (x : List ℕ) (t : Ty) → Around es → HasFirst types t → Around (es ++ (x, t) ∷ [])
  around_append [] x t h k = (k, tt)
  around_append (e ∷ es) x t h k = (h.0, around_append es x t h.1 k)

  around_one : (es : Types) (x : List ℕ) (t : Ty) → Around es → HasFirst types t → Around (with_entry es x t)
  around_one es x t h k = by (is_some (lookup es x))
    where
      by : (b : Bool) → Around (if b then es else es ++ (x, t) ∷ [])
      by true = h
      by false = around_append es x t h k

  around_more : (es : Types) (ds : List Decl) → Around es → Decls ds → Around (declaring es ds)
  around_more es [] h k = h
  around_more es (d ∷ ds) h k = around_more (with_entry es d.name d.ty) ds (around_one es d.name d.ty h k.0) k.1

  around_type : (es : Types) (x : List ℕ) → Around es → HasFirst types (type_of es x)
  around_type [] x h = tt
  around_type (e ∷ es) x h = by (bytes_eq x e.0) (around_type es x h.1)
    where
      by : (b : Bool) → HasFirst types (type_or_bool (lookup es x)) → HasFirst types (type_or_bool (if b then Some e.1 else lookup es x))
      by true k = h.0
      by false k = k

  -- ---- the words of an automaton

  transition_words : (f : Frame) (w : Word) (k j : ℕ) (ts : List Trans) → Decls (transition_locals f w k j ts)
  transition_words f w k j [] = tt
  transition_words f w k j (t ∷ ts) = (tt, transition_words f w k (j + 1) ts)

  value_words : (tys : Types) (f : Frame) (k : ℕ) (xs : List (List ℕ)) → Around tys → Decls (map (value_local tys f k) xs)
  value_words tys f k [] h = tt
  value_words tys f k (x ∷ xs) h = (around_type tys x h, value_words tys f k xs h)

  words_of_state : (tys : Types) (f : Frame) (k : ℕ) (unless : List Trans) → Around tys → Decls (state_locals tys f k unless)
  words_of_state tys f k unless h =
      (tt, (tt, (tt, both_decls (transition_locals f Strong k 0 unless) (map (value_local tys f k) f.names) (transition_words f Strong k 0 unless) (value_words tys f k f.names h))))

  words_from : (tys : Types) (f : Frame) (k : ℕ) (ss : States) → Around tys → Decls (locals_from tys f k ss)
  words_from tys f k no_state h = tt
  words_from tys f k (more_states q b until unless at ss) h =
      both_decls (state_locals tys f k unless) (locals_from tys f (k + 1) ss) (words_of_state tys f k unless h) (words_from tys f (k + 1) ss h)

  words_of_frame : (tys : Types) (f : Frame) (ss : States) → Around tys → Decls (frame_locals tys f ss)
  words_of_frame tys f ss h = (tt, (tt, words_from tys f 0 ss h))

  -- ---- equations that define one name each

  kept_rows : (to : List ℕ → List ℕ) (s : Span) (xs : List (List ℕ)) → Rows (map (kept to s) xs)
  kept_rows to s [] = tt
  kept_rows to s (x ∷ xs) = (tt, kept_rows to s xs)

  choice_rows : (to : List ℕ → List ℕ) (f : Frame) (w : Word) (k n : ℕ) (end : Expr) (j : ℕ) (ts : List Trans) → Rows (choices to f w k n end j ts)
  choice_rows to f w k n end j [] = tt
  choice_rows to f w k n end j (t ∷ ts) = (tt, choice_rows to f w k n end (j + 1) ts)

  weak_rows : (to : List ℕ → List ℕ) (f : Frame) (k : ℕ) (until : List Trans) → Rows (weak_eqns to f k until)
  weak_rows to f k until =
      both_rows (choices to f Weak k (length until) (stays f k) 0 until) (own_next f k Weak (length until) (stays f k) ∷ []) (choice_rows to f Weak k (length until) (stays f k) 0 until) (tt, tt)

  strong_rows : (to : List ℕ → List ℕ) (f : Frame) (k : ℕ) (unless : List Trans) → Rows (choosing_eqns to f k unless)
  strong_rows to f k unless =
      both_rows (strong_eqns to f k unless) (on_word f k ∷ [])
      (both_rows (choices to f Strong k (length unless) (pending_of f) 0 unless) (from_eqn f k Strong (length unless) (pending_of f) ∷ []) (choice_rows to f Strong k (length unless) (pending_of f) 0 unless) (tt, tt)) (tt, tt)

  module _ (enums : Enumerations) where
    joined_rows : (to : List ℕ → List ℕ) (tys : Types) (f : Frame) (xs : List (List ℕ)) → Rows (map (joined enums to tys f) xs)
    joined_rows to tys f [] = tt
    joined_rows to tys f (x ∷ xs) = (tt, joined_rows to tys f xs)

    idle_rows : (tys : Types) (f : Frame) (k : ℕ) (xs : List (List ℕ)) → Rows (map (idle_value enums tys f k) xs)
    idle_rows tys f k [] = tt
    idle_rows tys f k (x ∷ xs) = (tt, idle_rows tys f k xs)

    idle_first : (tys : Types) (f : Frame) (k : ℕ) → BlockHasFirsts types (idle enums tys f k)
    idle_first tys f k = (tt, (tt, of_rows (map (idle_value enums tys f k) f.names) (idle_rows tys f k f.names)))

    state_rows : (to : List ℕ → List ℕ) (f : Frame) (k : ℕ) (unless : List Trans) (body other : Block) → BlockHasFirsts types body → BlockHasFirsts types other → Rows (state_eqns to f k unless body other)
    state_rows to f k unless body other h o =
        both_rows (choosing_eqns to f k unless) (state_switch f k body other ∷ []) (strong_rows to f k unless) (((tt, (h, tt)), (o, tt)), tt)

    -- ---- what the parts become

    mutual
      block_low : (to : List ℕ → List ℕ) (tys : Types) (d : ℕ) (s : Span) (xs : List (List ℕ)) (b : Block) → Around tys → BlockHasFirsts types b → BlockHasFirsts types (lowered_block enums to tys d s xs b)
      block_low to tys d s xs (block ds es) a h = (
        decls_renamed to ds h.0,
        of_rows (lowered_eqns enums to (declaring tys ds) d es ++ all_kept to s xs (block ds es))
            (both_rows (lowered_eqns enums to (declaring tys ds) d es) (all_kept to s xs (block ds es)) (eqns_low to (declaring tys ds) d es (around_more tys ds a h.0) h.1)
            (kept_rows to s (missing (is_name (outer_names (block ds es))) xs))),
      )

      eqns_low : (to : List ℕ → List ℕ) (tys : Types) (d : ℕ) (es : Eqns) → Around tys → EqnsHaveFirsts types es → Rows (lowered_eqns enums to tys d es)
      eqns_low to tys d no_eqn a h = tt
      eqns_low to tys d (more_eqns e es) a h = (eqn_low to tys d e a h.0, eqns_low to tys d es a h.1)

      eqn_low : (to : List ℕ → List ℕ) (tys : Types) (d : ℕ) (e : Eqn) → Around tys → EqnHasFirsts types e → EqnHasFirsts types (lowered_eqn enums to tys d e)
      eqn_low to tys d (define s ys e) a h = tt
      eqn_low to tys d (switch s e arms) a h = arms_low to tys d (once (names_of_arms arms)) arms a h
      eqn_low to tys d (reset s b e) a h = block_low to tys d s [] b a h
      eqn_low to tys d (automaton s ss) a h =
          let f = frame s d ss in (
            words_of_frame tys f ss a,
            of_rows (frame_eqns enums to tys f ++ lowered_states enums to tys f 0 ss)
                (both_rows (frame_eqns enums to tys f) (lowered_states enums to tys f 0 ss) (tt, (tt, joined_rows to tys f f.names)) (states_low to tys f 0 ss a h)),
          )

      arms_low : (to : List ℕ → List ℕ) (tys : Types) (d : ℕ) (xs : List (List ℕ)) (arms : Arms) → Around tys → ArmsHaveFirsts types arms → ArmsHaveFirsts types (lowered_arms enums to tys d xs arms)
      arms_low to tys d xs no_arm a h = tt
      arms_low to tys d xs (more_arms c b at arms) a h = (block_low to tys d at xs b a h.0, arms_low to tys d xs arms a h.1)

      states_low : (to : List ℕ → List ℕ) (tys : Types) (f : Frame) (k : ℕ) (ss : States) → Around tys → StatesHaveFirsts types ss → Rows (lowered_states enums to tys f k ss)
      states_low to tys f k no_state a h = tt
      states_low to tys f k (more_states q b until unless at ss) a h =
          both_rows (state_eqns to f k unless (lowered_body enums to tys f k b until) (idle enums tys f k)) (lowered_states enums to tys f (k + 1) ss)
          (state_rows to f k unless (lowered_body enums to tys f k b until) (idle enums tys f k) (body_low to tys f k b until a h.0) (idle_first tys f k)) (states_low to tys f (k + 1) ss a h.1)

      body_low : (to : List ℕ → List ℕ) (tys : Types) (f : Frame) (k : ℕ) (b : Block) (until : List Trans) → Around tys → BlockHasFirsts types b → BlockHasFirsts types (lowered_body enums to tys f k b until)
      body_low to tys f k (block ds es) until a h =
          let there = inner to f k in
          let own = lowered_eqns enums there (declaring tys ds) (f.depth + 1) es in
          let last = all_kept there f.at f.names (block ds es) in (
            both_decls (renamed_decls there ds) (transition_locals f Weak k 0 until) (decls_renamed there ds h.0) (transition_words f Weak k 0 until),
            of_rows (weak_eqns there f k until ++ (own ++ last))
                (both_rows (weak_eqns there f k until) (own ++ last) (weak_rows there f k until)
                (both_rows own last (eqns_low there (declaring tys ds) (f.depth + 1) es (around_more tys ds a h.0) h.1) (kept_rows there f.at (missing (is_name (outer_names (block ds es))) f.names)))),
          )

    contract_low : (tys : Types) (o : Option Contract) → Around tys → ContractHasFirsts types o → ContractHasFirsts types (option_map (lowered_contract enums tys) o)
    contract_low tys None a h = tt
    contract_low tys (Some c) a h = block_low same_name tys 0 c.span [] c.body a h

    controls_low : (tys : Types) (o : Option Contract) → Decls (controls_of o) → Decls (controls_of (option_map (lowered_contract enums tys) o))
    controls_low tys None h = tt
    controls_low tys (Some c) h = h

    node_low : (n : Node) → NodeHasFirsts types n → NodeHasFirsts types (lowered_node enums n)
    node_low n h =
        let around = around_more (declaring [] n.inputs) n.outputs (around_more [] n.inputs tt h.inputs) h.outputs in
        record {
          inputs = h.inputs;
          outputs = h.outputs;
          controls = controls_low (lowering.types_of n) n.contract h.controls;
          contract = contract_low (lowering.types_of n) n.contract around h.contract;
          body = block_low same_name (lowering.types_of n) 0 n.span [] n.body around h.body;
        }

    pub lowered_firsts : (items : List Item) → EachNode (NodeHasFirsts types) items → EachNode (NodeHasFirsts types) (map (lowered_item enums) items)
    lowered_firsts [] h = tt
    lowered_firsts (TypeItem t ∷ items) h = lowered_firsts items h
    lowered_firsts (NodeItem n ∷ items) h = (node_low n h.0, lowered_firsts items h.1)
