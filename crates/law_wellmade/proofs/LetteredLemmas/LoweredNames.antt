-- Where automata are removed, names are still spelled so, where new names are.
use Rattle.std.proofs.Common.{ℕ, ◌+◌, Bool, true, false, if◌then◌else◌, List, [], ◌∷◌, ◌++◌, length, map, sym, subst}
use Rattle.std.specs.Prelude.{Option, None, Some, option_map}
use Rattle.std.specs.List.{AllByRecursion}
use Rattle.hp_base.specs.declared.span.Span.{Span}
use Rattle.hp_tree.specs.declared.block.Trans.{Trans}
use Rattle.hp_tree.specs.declared.program.Item.{Item}
use Rattle.hp_tree.specs.declared.program.Item.TheVariants.{TypeItem, NodeItem}
use Rattle.hp_tree.specs.Expressions.{Expr}
use Rattle.hp_tree.specs.Blocks.{Decl, Block, block, Eqns, no_eqn, more_eqns, Eqn, define, switch, reset, automaton, Arms, no_arm, more_arms, States, no_state, more_states}
use Rattle.hp_tree.specs.Programs.{Contract, Node}
use Rattle.hp_tree.specs.Meaning.{declares}
use Rattle.law_judged.specs.Named.Scoped.{EachNode}
use Rattle.hp_automata.specs.declared.new_names.Word.{Word}
use Rattle.hp_automata.specs.declared.new_names.Word.TheVariants.{Jump, Next, From, On, Strong, Weak}
use Rattle.hp_automata.specs.NewNames.{word_name, state_word, transition_word, value_name}
use Rattle.hp_tables.specs.Defining.Names.{names_in, names_of, names_of_arms, names_of_states, outer_names}
use Rattle.hp_automata.proofs.NameLaws.{undeclared_is}
use Rattle.hp_automata.specs.Names.{is_name, missing, with_name, once_behind, once}
use Rattle.hp_automata.specs.Renaming.{renamed_decls}
use Rattle.hp_automata.specs.Lowering as lowering
use Rattle.hp_automata.specs.Lowering.{Types, Enumerations, declaring, Frame, inner, transition_locals, choices, value_local, state_words, state_locals, locals_from, frame_words, frame_locals, idle_value, idle, joined, pending_of, stays, from_eqn, on_word, state_switch, strong_eqns, choosing_eqns, state_eqns, weak_eqns, own_next, frame_eqns, kept, all_kept, frame, lowered_block, lowered_eqns, lowered_eqn, lowered_arms, lowered_states, lowered_body, same_name, lowered_contract, lowered_node, lowered_item}
use Rattle.law_wellmade.specs.Lettered.Names.{DeclsSpelled, LeftsSpelled, BlockSpelled, EqnsSpelled, EqnSpelled, ArmsSpelled, StatesSpelled, ContractSpelled, NodeSpelled}
use Rattle.law_wellmade.proofs.LetteredLemmas.ReplacedNames.{Rows, Keeps, both_decls, of_rows, both_rows, lefts_renamed}

-- the words of automata are spelled so, and values of names are where the names are
pub record Words (P : List ℕ → Type 0) : Type 0 where
  pub words : (w : Word) (d : ℕ) → P (word_name w d)
  pub states : (w : Word) (d k : ℕ) → P (state_word w d k)
  pub transitions : (w : Word) (d k j : ℕ) → P (transition_word w d k j)
  pub values : (d k : ℕ) (x : List ℕ) → P x → P (value_name d k x)

module _ (P : List ℕ → Type 0) where
  -- ---- the names that equations define

  both_names : (xs ys : List (List ℕ)) → AllByRecursion P xs → AllByRecursion P ys → AllByRecursion P (xs ++ ys)
  both_names [] ys h k = k
  both_names (x ∷ xs) ys h k = (h.0, both_names xs ys h.1 k)

  missing_names : (own : List ℕ → Bool) (xs : List (List ℕ)) → AllByRecursion P xs → AllByRecursion P (missing own xs)
  missing_names own [] h = tt
  missing_names own (x ∷ xs) h = by (own x) (missing_names own xs h.1)
    where
      by : (b : Bool) → AllByRecursion P (missing own xs) → AllByRecursion P (if b then missing own xs else x ∷ missing own xs)
      by true k = k
      by false k = (h.0, k)

  with_named : (xs : List (List ℕ)) (x : List ℕ) → AllByRecursion P xs → P x → AllByRecursion P (with_name xs x)
  with_named xs x h p = by (is_name xs x)
    where
      by : (b : Bool) → AllByRecursion P (if b then xs else xs ++ x ∷ [])
      by true = h
      by false = both_names xs (x ∷ []) h (p, tt)

  behind_names : (xs ys : List (List ℕ)) → AllByRecursion P xs → AllByRecursion P ys → AllByRecursion P (once_behind xs ys)
  behind_names xs [] h k = h
  behind_names xs (y ∷ ys) h k = behind_names (with_name xs y) ys (with_named xs y h k.0) k.1

  once_names : (ys : List (List ℕ)) → AllByRecursion P ys → AllByRecursion P (once ys)
  once_names ys h = behind_names [] ys tt h

  left_names : (ys : List (List ℕ × Span)) → LeftsSpelled P ys → AllByRecursion P (map (λ (y : List ℕ × Span). y.0) ys)
  left_names [] h = tt
  left_names (y ∷ ys) h = (h.0, left_names ys h.1)

  mutual
    eqns_names : (es : Eqns) → EqnsSpelled P es → AllByRecursion P (names_in es)
    eqns_names no_eqn h = tt
    eqns_names (more_eqns e es) h = both_names (names_of e) (names_in es) (eqn_names e h.0) (eqns_names es h.1)

    eqn_names : (e : Eqn) → EqnSpelled P e → AllByRecursion P (names_of e)
    eqn_names (define s ys e) h = left_names ys h
    eqn_names (switch s e arms) h = arms_names arms h
    eqn_names (reset s b e) h = block_names b h
    eqn_names (automaton s ss) h = states_names ss h

    arms_names : (arms : Arms) → ArmsSpelled P arms → AllByRecursion P (names_of_arms arms)
    arms_names no_arm h = tt
    arms_names (more_arms c b s arms) h = both_names (outer_names b) (names_of_arms arms) (block_names b h.0) (arms_names arms h.1)

    states_names : (ss : States) → StatesSpelled P ss → AllByRecursion P (names_of_states ss)
    states_names no_state h = tt
    states_names (more_states f b until unless s ss) h = both_names (outer_names b) (names_of_states ss) (block_names b h.0) (states_names ss h.1)

    block_names : (b : Block) → BlockSpelled P b → AllByRecursion P (outer_names b)
    block_names (block ds es) h = subst (AllByRecursion P) (sym (undeclared_is ds (names_in es))) (missing_names (declares ds) (names_in es) (eqns_names es h.1))

  decls_renamed : (to : List ℕ → List ℕ) (ds : List Decl) → DeclsSpelled P ds → DeclsSpelled P (renamed_decls to ds)
  decls_renamed to [] h = tt
  decls_renamed to (d ∷ ds) h = (h.0, decls_renamed to ds h.1)

  kept_rows : (to : List ℕ → List ℕ) (s : Span) (xs : List (List ℕ)) → Keeps P to → AllByRecursion P xs → Rows P (map (kept to s) xs)
  kept_rows to s [] p h = tt
  kept_rows to s (x ∷ xs) p h = ((p x h.0, tt), kept_rows to s xs p h.1)

  -- ---- the words of an automaton

  module _ (new : Words P) where
    transition_decls : (f : Frame) (w : Word) (k j : ℕ) (ts : List Trans) → DeclsSpelled P (transition_locals f w k j ts)
    transition_decls f w k j [] = tt
    transition_decls f w k j (t ∷ ts) = (new.transitions w f.depth k j, transition_decls f w k (j + 1) ts)

    value_decls : (tys : Types) (f : Frame) (k : ℕ) (xs : List (List ℕ)) → AllByRecursion P xs → DeclsSpelled P (map (value_local tys f k) xs)
    value_decls tys f k [] h = tt
    value_decls tys f k (x ∷ xs) h = (new.values f.depth k x h.0, value_decls tys f k xs h.1)

    state_decls : (tys : Types) (f : Frame) (k : ℕ) (unless : List Trans) → AllByRecursion P f.names → DeclsSpelled P (state_locals tys f k unless)
    state_decls tys f k unless h = (
      new.states From f.depth k,
      (
        new.states On f.depth k,
        (
          new.states Next f.depth k,
          both_decls P (transition_locals f Strong k 0 unless) (map (value_local tys f k) f.names) (transition_decls f Strong k 0 unless) (value_decls tys f k f.names h),
        ),
      ),
    )

    decls_from : (tys : Types) (f : Frame) (k : ℕ) (ss : States) → AllByRecursion P f.names → DeclsSpelled P (locals_from tys f k ss)
    decls_from tys f k no_state h = tt
    decls_from tys f k (more_states q b until unless at ss) h =
        both_decls P (state_locals tys f k unless) (locals_from tys f (k + 1) ss) (state_decls tys f k unless h) (decls_from tys f (k + 1) ss h)

    frame_decls : (tys : Types) (f : Frame) (ss : States) → AllByRecursion P f.names → DeclsSpelled P (frame_locals tys f ss)
    frame_decls tys f ss h = (new.words Next f.depth, (new.words Jump f.depth, decls_from tys f 0 ss h))

    choice_rows : (to : List ℕ → List ℕ) (f : Frame) (w : Word) (k n : ℕ) (end : Expr) (j : ℕ) (ts : List Trans) → Rows P (choices to f w k n end j ts)
    choice_rows to f w k n end j [] = tt
    choice_rows to f w k n end j (t ∷ ts) = ((new.transitions w f.depth k j, tt), choice_rows to f w k n end (j + 1) ts)

    weak_rows : (to : List ℕ → List ℕ) (f : Frame) (k : ℕ) (until : List Trans) → Rows P (weak_eqns to f k until)
    weak_rows to f k until =
        both_rows P (choices to f Weak k (length until) (stays f k) 0 until) (own_next f k Weak (length until) (stays f k) ∷ []) (choice_rows to f Weak k (length until) (stays f k) 0 until)
        ((new.states Next f.depth k, tt), tt)

    strong_rows : (to : List ℕ → List ℕ) (f : Frame) (k : ℕ) (unless : List Trans) → Rows P (choosing_eqns to f k unless)
    strong_rows to f k unless =
        both_rows P (strong_eqns to f k unless) (on_word f k ∷ [])
        (both_rows P (choices to f Strong k (length unless) (pending_of f) 0 unless) (from_eqn f k Strong (length unless) (pending_of f) ∷ [])
        (choice_rows to f Strong k (length unless) (pending_of f) 0 unless)
        ((new.states From f.depth k, tt), tt))
        ((new.states On f.depth k, tt), tt)

    state_rows : (to : List ℕ → List ℕ) (f : Frame) (k : ℕ) (unless : List Trans) (body other : Block) → BlockSpelled P body → BlockSpelled P other → Rows P (state_eqns to f k unless body other)
    state_rows to f k unless body other h o =
        both_rows P (choosing_eqns to f k unless) (state_switch f k body other ∷ []) (strong_rows to f k unless) (((tt, (h, tt)), (o, tt)), tt)

    inner_keeps : (to : List ℕ → List ℕ) (f : Frame) (k : ℕ) → Keeps P to → (x : List ℕ) → P x → P (inner to f k x)
    inner_keeps to f k p x h = by (is_name f.names x)
      where
        by : (b : Bool) → P (if b then value_name f.depth k x else to x)
        by true = new.values f.depth k x h
        by false = p x h

    module _ (enums : Enumerations) where
      joined_rows : (to : List ℕ → List ℕ) (tys : Types) (f : Frame) (xs : List (List ℕ)) → Keeps P to → AllByRecursion P xs → Rows P (map (joined enums to tys f) xs)
      joined_rows to tys f [] p h = tt
      joined_rows to tys f (x ∷ xs) p h = ((p x h.0, tt), joined_rows to tys f xs p h.1)

      idle_rows : (tys : Types) (f : Frame) (k : ℕ) (xs : List (List ℕ)) → AllByRecursion P xs → Rows P (map (idle_value enums tys f k) xs)
      idle_rows tys f k [] h = tt
      idle_rows tys f k (x ∷ xs) h = ((new.values f.depth k x h.0, tt), idle_rows tys f k xs h.1)

      idle_spelled : (tys : Types) (f : Frame) (k : ℕ) → AllByRecursion P f.names → BlockSpelled P (idle enums tys f k)
      idle_spelled tys f k h = (tt, ((new.states Next f.depth k, tt), of_rows P (map (idle_value enums tys f k) f.names) (idle_rows tys f k f.names h)))

      -- ---- what the parts become

      mutual
        block_low : (to : List ℕ → List ℕ) (tys : Types) (d : ℕ) (s : Span) (xs : List (List ℕ)) (b : Block) → Keeps P to → AllByRecursion P xs → BlockSpelled P b
            → BlockSpelled P (lowered_block enums to tys d s xs b)
        block_low to tys d s xs (block ds es) p o h = (
          decls_renamed to ds h.0,
          of_rows P (lowered_eqns enums to (declaring tys ds) d es ++ all_kept to s xs (block ds es))
              (both_rows P (lowered_eqns enums to (declaring tys ds) d es) (all_kept to s xs (block ds es)) (eqns_low to (declaring tys ds) d es p h.1)
              (kept_rows to s (missing (is_name (outer_names (block ds es))) xs) p (missing_names (is_name (outer_names (block ds es))) xs o))),
        )

        eqns_low : (to : List ℕ → List ℕ) (tys : Types) (d : ℕ) (es : Eqns) → Keeps P to → EqnsSpelled P es → Rows P (lowered_eqns enums to tys d es)
        eqns_low to tys d no_eqn p h = tt
        eqns_low to tys d (more_eqns q es) p h = (eqn_low to tys d q p h.0, eqns_low to tys d es p h.1)

        eqn_low : (to : List ℕ → List ℕ) (tys : Types) (d : ℕ) (q : Eqn) → Keeps P to → EqnSpelled P q → EqnSpelled P (lowered_eqn enums to tys d q)
        eqn_low to tys d (define s ys a) p h = lefts_renamed P to p ys h
        eqn_low to tys d (switch s a arms) p h = arms_low to tys d (once (names_of_arms arms)) arms p (once_names (names_of_arms arms) (arms_names arms h)) h
        eqn_low to tys d (reset s b a) p h = block_low to tys d s [] b p tt h
        eqn_low to tys d (automaton s ss) p h =
            let f = frame s d ss in
            let o : AllByRecursion P f.names = once_names (names_of_states ss) (states_names ss h) in (
              frame_decls tys f ss o,
              of_rows P (frame_eqns enums to tys f ++ lowered_states enums to tys f 0 ss)
                  (both_rows P (frame_eqns enums to tys f) (lowered_states enums to tys f 0 ss)
                  ((new.words Jump f.depth, tt), ((new.words Next f.depth, tt), joined_rows to tys f f.names p o))
                  (states_low to tys f 0 ss p o h)),
            )

        arms_low : (to : List ℕ → List ℕ) (tys : Types) (d : ℕ) (xs : List (List ℕ)) (arms : Arms) → Keeps P to → AllByRecursion P xs → ArmsSpelled P arms
            → ArmsSpelled P (lowered_arms enums to tys d xs arms)
        arms_low to tys d xs no_arm p o h = tt
        arms_low to tys d xs (more_arms c b at arms) p o h = (block_low to tys d at xs b p o h.0, arms_low to tys d xs arms p o h.1)

        states_low : (to : List ℕ → List ℕ) (tys : Types) (f : Frame) (k : ℕ) (ss : States) → Keeps P to → AllByRecursion P f.names → StatesSpelled P ss → Rows P (lowered_states enums to tys f k ss)
        states_low to tys f k no_state p o h = tt
        states_low to tys f k (more_states q b until unless at ss) p o h =
            both_rows P (state_eqns to f k unless (lowered_body enums to tys f k b until) (idle enums tys f k)) (lowered_states enums to tys f (k + 1) ss)
            (state_rows to f k unless (lowered_body enums to tys f k b until) (idle enums tys f k) (body_low to tys f k b until p o h.0) (idle_spelled tys f k o))
            (states_low to tys f (k + 1) ss p o h.1)

        body_low : (to : List ℕ → List ℕ) (tys : Types) (f : Frame) (k : ℕ) (b : Block) (until : List Trans) → Keeps P to → AllByRecursion P f.names → BlockSpelled P b
            → BlockSpelled P (lowered_body enums to tys f k b until)
        body_low to tys f k (block ds es) until p o h =
            let there = inner to f k in
            let own = lowered_eqns enums there (declaring tys ds) (f.depth + 1) es in
            let last = all_kept there f.at f.names (block ds es) in
            let q : (x : List ℕ) → P x → P (inner to f k x) = inner_keeps to f k p in (
              both_decls P (renamed_decls there ds) (transition_locals f Weak k 0 until) (decls_renamed there ds h.0) (transition_decls f Weak k 0 until),
              of_rows P (weak_eqns there f k until ++ (own ++ last))
                  (both_rows P (weak_eqns there f k until) (own ++ last) (weak_rows there f k until)
                  (both_rows P own last (eqns_low there (declaring tys ds) (f.depth + 1) es q h.1)
                  (kept_rows there f.at (missing (is_name (outer_names (block ds es))) f.names) q (missing_names (is_name (outer_names (block ds es))) f.names o)))),
            )

      contract_low : (tys : Types) (o : Option Contract) → ContractSpelled P o → ContractSpelled P (option_map (lowered_contract enums tys) o)
      contract_low tys None h = tt
      contract_low tys (Some c) h = (h.0, block_low same_name tys 0 c.span [] c.body (λ x p. p) tt h.1)

      node_low : (n : Node) → NodeSpelled P n → NodeSpelled P (lowered_node enums n)
      node_low n h =
          let tys = lowering.types_of n in
          (h.0, (h.1.0, (h.1.1.0, (contract_low tys n.contract h.1.1.1.0, block_low same_name tys 0 n.span [] n.body (λ x p. p) tt h.1.1.1.1))))

      pub program_low : (items : List Item) → EachNode (NodeSpelled P) items → EachNode (NodeSpelled P) (map (lowered_item enums) items)
      program_low [] h = tt
      program_low (TypeItem t ∷ items) h = program_low items h
      program_low (NodeItem n ∷ items) h = (node_low n h.0, program_low items h.1)
