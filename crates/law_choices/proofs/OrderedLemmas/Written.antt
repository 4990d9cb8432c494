-- Removing automata leaves each declared clock written, and writes the base clock at each new variable.
use Rattle.std.proofs.Common.{ℕ, ◌+◌, List, [], ◌∷◌, ◌++◌, map, length}
use Rattle.std.specs.Prelude.{Option, None, Some, option_map}
use Rattle.hp_base.specs.declared.span.Span.{Span}
use Rattle.hp_tree.specs.declared.block.Trans.{Trans}
use Rattle.hp_tree.specs.declared.decl.Cons.{Cons}
use Rattle.hp_tree.specs.Expressions.{Expr}
use Rattle.hp_tree.specs.Blocks.{Decl, Block, block, Eqns, no_eqn, more_eqns, Eqn, define, switch, reset, automaton, Arms, no_arm, more_arms, States, no_state, more_states, eqns_of}
use Rattle.hp_tree.specs.Programs.{Contract}
use Rattle.hp_meaning.specs.Clocking.Clocking.{EachBlock, EachOfAll, EachOfOne, EachOfArms, EachOfStates, EachInContract, IsWritten, AreWritten, ControlsWritten}
use Rattle.hp_automata.specs.declared.new_names.Word.{Word}
use Rattle.hp_automata.specs.declared.new_names.Word.TheVariants.{Strong, Weak}
use Rattle.hp_tables.specs.Defining.Names.{names_of_arms, outer_names}
use Rattle.hp_automata.specs.Names.{is_name, once, missing}
use Rattle.hp_automata.specs.Renaming.{renamed_path, renamed_decls}
use Rattle.hp_automata.specs.Lowering.{Types, Enumerations, Frame, declaring, inner, frame, frame_words, transition_locals, state_words, state_locals, value_local, locals_from, frame_locals, choices, strong_eqns, choosing_eqns, state_eqns, weak_eqns, own_next, stays, pending_of, joined, frame_eqns, kept, all_kept, idle_value, idle, from_eqn, on_word, state_switch, lowered_block, lowered_eqns, lowered_eqn, lowered_arms, lowered_states, lowered_body, lowered_contract, types_of, same_name}
use Rattle.law_choices.specs.Ordered.Written.{WrittenLaw}

abbrev Writes : List Decl → Eqns → Type 0
Writes ds es = AreWritten ds

abbrev AllWritten : List Eqn → Type 0
AllWritten es = EachOfAll Writes (eqns_of es)

-- ---- lists

append_written : (xs ys : List Eqn) → AllWritten xs → AllWritten ys → AllWritten (xs ++ ys)
append_written [] ys h k = k
append_written (x ∷ xs) ys h k = (h.0, append_written xs ys h.1 k)

decls_append : (ds es : List Decl) → AreWritten ds → AreWritten es → AreWritten (ds ++ es)
decls_append [] es h k = k
decls_append (d ∷ ds) es h k = (h.0, decls_append ds es h.1 k)

-- ---- declarations

renamed_written : (to : List ℕ → List ℕ) (o : Option (List (Cons × List ℕ))) → IsWritten o → IsWritten (option_map (renamed_path to) o)
renamed_written to None h = h
renamed_written to (Some path) h = tt

decls_written : (to : List ℕ → List ℕ) (ds : List Decl) → AreWritten ds → AreWritten (renamed_decls to ds)
decls_written to [] h = tt
decls_written to (d ∷ ds) h = (renamed_written to d.clock h.0, decls_written to ds h.1)

transitions_written : (f : Frame) (w : Word) (k j : ℕ) (ts : List Trans) → AreWritten (transition_locals f w k j ts)
transitions_written f w k j [] = tt
transitions_written f w k j (t ∷ ts) = (tt, transitions_written f w k (j + 1) ts)

values_written : (types : Types) (f : Frame) (k : ℕ) (xs : List (List ℕ)) → AreWritten (map (value_local types f k) xs)
values_written types f k [] = tt
values_written types f k (x ∷ xs) = (tt, values_written types f k xs)

state_written : (types : Types) (f : Frame) (k : ℕ) (unless : List Trans) → AreWritten (state_locals types f k unless)
state_written types f k unless =
    decls_append (state_words f k) (transition_locals f Strong k 0 unless ++ map (value_local types f k) f.names) (tt, (tt, (tt, tt)))
    (decls_append (transition_locals f Strong k 0 unless) (map (value_local types f k) f.names) (transitions_written f Strong k 0 unless) (values_written types f k f.names))

locals_written : (types : Types) (f : Frame) (k : ℕ) (ss : States) → AreWritten (locals_from types f k ss)
locals_written types f k no_state = tt
locals_written types f k (more_states q b until unless at ss) =
    decls_append (state_locals types f k unless) (locals_from types f (k + 1) ss) (state_written types f k unless) (locals_written types f (k + 1) ss)

frame_written : (types : Types) (f : Frame) (ss : States) → AreWritten (frame_locals types f ss)
frame_written types f ss = decls_append (frame_words f) (locals_from types f 0 ss) (tt, (tt, tt)) (locals_written types f 0 ss)

-- ---- definitions

choices_written : (to : List ℕ → List ℕ) (f : Frame) (w : Word) (k n : ℕ) (end : Expr) (j : ℕ) (ts : List Trans) → AllWritten (choices to f w k n end j ts)
choices_written to f w k n end j [] = tt
choices_written to f w k n end j (t ∷ ts) = (tt, choices_written to f w k n end (j + 1) ts)

kept_written : (to : List ℕ → List ℕ) (s : Span) (xs : List (List ℕ)) → AllWritten (map (kept to s) xs)
kept_written to s [] = tt
kept_written to s (x ∷ xs) = (tt, kept_written to s xs)

choosing_written : (to : List ℕ → List ℕ) (f : Frame) (k : ℕ) (unless : List Trans) → AllWritten (choosing_eqns to f k unless)
choosing_written to f k unless =
    append_written (strong_eqns to f k unless) (on_word f k ∷ [])
    (append_written (choices to f Strong k (length unless) (pending_of f) 0 unless) (from_eqn f k Strong (length unless) (pending_of f) ∷ []) (choices_written to f Strong k (length unless) (pending_of f) 0 unless) (tt, tt)) (tt, tt)

weak_written : (to : List ℕ → List ℕ) (f : Frame) (k : ℕ) (until : List Trans) → AllWritten (weak_eqns to f k until)
weak_written to f k until =
    append_written (choices to f Weak k (length until) (stays f k) 0 until) (own_next f k Weak (length until) (stays f k) ∷ []) (choices_written to f Weak k (length until) (stays f k) 0 until) (tt, tt)

module _ (enums : Enumerations) where
  joined_written : (to : List ℕ → List ℕ) (types : Types) (f : Frame) (xs : List (List ℕ)) → AllWritten (map (joined enums to types f) xs)
  joined_written to types f [] = tt
  joined_written to types f (x ∷ xs) = (tt, joined_written to types f xs)

  idle_written : (types : Types) (f : Frame) (k : ℕ) (xs : List (List ℕ)) → AllWritten (map (idle_value enums types f k) xs)
  idle_written types f k [] = tt
  idle_written types f k (x ∷ xs) = (tt, idle_written types f k xs)

  all_kept_written : (to : List ℕ → List ℕ) (s : Span) (xs : List (List ℕ)) (b : Block) → AllWritten (all_kept to s xs b)
  all_kept_written to s xs b = kept_written to s (missing (is_name (outer_names b)) xs)

  -- ---- blocks

  mutual
    block_written : (to : List ℕ → List ℕ) (types : Types) (d : ℕ) (s : Span) (xs : List (List ℕ)) (b : Block) → EachBlock Writes b → EachBlock Writes (lowered_block enums to types d s xs b)
    block_written to types d s xs (block ds es) h = (
      decls_written to ds h.0,
      append_written (lowered_eqns enums to (declaring types ds) d es) (all_kept to s xs (block ds es)) (eqns_written to (declaring types ds) d es h.1) (all_kept_written to s xs (block ds es)),
    )

    eqns_written : (to : List ℕ → List ℕ) (types : Types) (d : ℕ) (es : Eqns) → EachOfAll Writes es → AllWritten (lowered_eqns enums to types d es)
    eqns_written to types d no_eqn h = tt
    eqns_written to types d (more_eqns e es) h = (eqn_written to types d e h.0, eqns_written to types d es h.1)

    eqn_written : (to : List ℕ → List ℕ) (types : Types) (d : ℕ) (e : Eqn) → EachOfOne Writes e → EachOfOne Writes (lowered_eqn enums to types d e)
    eqn_written to types d (define s ys e) h = tt
    eqn_written to types d (switch s e arms) h = arms_written to types d (once (names_of_arms arms)) arms h
    eqn_written to types d (reset s b e) h = block_written to types d s [] b h
    eqn_written to types d (automaton s ss) h =
        let f = frame s d ss in (
          frame_written types f ss,
          append_written (frame_eqns enums to types f) (lowered_states enums to types f 0 ss) (tt, (tt, joined_written to types f f.names)) (states_written to types f 0 ss h),
        )

    arms_written : (to : List ℕ → List ℕ) (types : Types) (d : ℕ) (xs : List (List ℕ)) (arms : Arms) → EachOfArms Writes arms → EachOfArms Writes (lowered_arms enums to types d xs arms)
    arms_written to types d xs no_arm h = tt
    arms_written to types d xs (more_arms c b at arms) h = (block_written to types d at xs b h.0, arms_written to types d xs arms h.1)

    states_written : (to : List ℕ → List ℕ) (types : Types) (f : Frame) (k : ℕ) (ss : States) → EachOfStates Writes ss → AllWritten (lowered_states enums to types f k ss)
    states_written to types f k no_state h = tt
    states_written to types f k (more_states q b until unless at ss) h =
        append_written (state_eqns to f k unless (lowered_body enums to types f k b until) (idle enums types f k)) (lowered_states enums to types f (k + 1) ss)
        (append_written (choosing_eqns to f k unless) (state_switch f k (lowered_body enums to types f k b until) (idle enums types f k) ∷ []) (choosing_written to f k unless) (((tt, (body_written to types f k b until h.0, tt)), ((tt, (tt, idle_written types f k f.names)), tt)), tt))
        (states_written to types f (k + 1) ss h.1)

    body_written : (to : List ℕ → List ℕ) (types : Types) (f : Frame) (k : ℕ) (b : Block) (until : List Trans) → EachBlock Writes b → EachBlock Writes (lowered_body enums to types f k b until)
    body_written to types f k (block ds es) until h =
        let in_state = inner to f k in (
          decls_append (renamed_decls in_state ds) (transition_locals f Weak k 0 until) (decls_written in_state ds h.0) (transitions_written f Weak k 0 until),
          append_written (weak_eqns in_state f k until) (lowered_eqns enums in_state (declaring types ds) (f.depth + 1) es ++ all_kept in_state f.at f.names (block ds es)) (weak_written in_state f k until)
              (append_written (lowered_eqns enums in_state (declaring types ds) (f.depth + 1) es) (all_kept in_state f.at f.names (block ds es)) (eqns_written in_state (declaring types ds) (f.depth + 1) es h.1)
              (all_kept_written in_state f.at f.names (block ds es))),
        )

  -- ---- nodes

  controls_written : (types : Types) (o : Option Contract) → ControlsWritten o → ControlsWritten (option_map (lowered_contract enums types) o)
  controls_written types None h = tt
  controls_written types (Some c) h = h

  contract_written : (types : Types) (o : Option Contract) → EachInContract Writes o → EachInContract Writes (option_map (lowered_contract enums types) o)
  contract_written types None h = tt
  contract_written types (Some c) h = block_written same_name types 0 c.span [] c.body h

pub written_law : WrittenLaw
written_law enums n h = record {
  inputs = h.inputs;
  outputs = h.outputs;
  controls = controls_written enums (types_of n) n.contract h.controls;
  body = block_written enums same_name (types_of n) 0 n.span [] n.body h.body;
  contract = contract_written enums (types_of n) n.contract h.contract;
}
