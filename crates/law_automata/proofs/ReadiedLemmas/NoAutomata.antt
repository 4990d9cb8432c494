-- No automaton is left.
use Rattle.std.proofs.Common.{ℕ, ◌+◌, List, [], ◌∷◌, ◌++◌, map, length}
use Rattle.std.specs.Prelude.{⊤}
use Rattle.hp_base.specs.declared.span.Span.{Span}
use Rattle.hp_tree.specs.declared.block.Trans.{Trans}
use Rattle.hp_tree.specs.Expressions.{Expr}
use Rattle.hp_tree.specs.Blocks.{Block, block, Eqns, no_eqn, more_eqns, Eqn, define, switch, reset, automaton, Arms, no_arm, more_arms, States, no_state, more_states, eqns_of}
use Rattle.hp_automata.specs.declared.new_names.Word.{Word}
use Rattle.hp_automata.specs.declared.new_names.Word.TheVariants.{Strong, Weak}
use Rattle.hp_tables.specs.Defining.Names.{names_of_arms, outer_names}
use Rattle.hp_automata.specs.Names.{is_name, missing, once}
use Rattle.hp_automata.specs.Lowering.{Types, Enumerations, declaring, Frame, frame, inner, kept, all_kept, choices, joined, idle_value, idle, from_eqn, on_word, state_switch, strong_eqns, choosing_eqns, state_eqns, own_next, weak_eqns, stays, pending_of, frame_eqns, lowered_block, lowered_eqns, lowered_eqn, lowered_arms, lowered_states, lowered_body, same_name, types_of}
use Rattle.law_equations.specs.Flattened.Timely.{Lowered, AllLowered, OneLowered, ArmsLowered}
use Rattle.law_automata.specs.Readied.Laws.{LoweredLaw}

-- ---- equations in a list

abbrev ListLowered : List Eqn → Type 0
ListLowered [] = ⊤
ListLowered (e ∷ es) = OneLowered e × ListLowered es

row_lowered : (es : List Eqn) → ListLowered es → AllLowered (eqns_of es)
row_lowered [] h = tt
row_lowered (e ∷ es) h = (h.0, row_lowered es h.1)

both_lowered : (es fs : List Eqn) → ListLowered es → ListLowered fs → ListLowered (es ++ fs)
both_lowered [] fs h k = k
both_lowered (e ∷ es) fs h k = (h.0, both_lowered es fs h.1 k)

-- equations of one name each
kept_lowered : (to : List ℕ → List ℕ) (s : Span) (xs : List (List ℕ)) → ListLowered (map (kept to s) xs)
kept_lowered to s [] = tt
kept_lowered to s (x ∷ xs) = (tt, kept_lowered to s xs)

choices_lowered : (to : List ℕ → List ℕ) (f : Frame) (w : Word) (k n : ℕ) (end : Expr) (j : ℕ) (ts : List Trans) → ListLowered (choices to f w k n end j ts)
choices_lowered to f w k n end j [] = tt
choices_lowered to f w k n end j (t ∷ ts) = (tt, choices_lowered to f w k n end (j + 1) ts)

module _ (enums : Enumerations) where
  joined_lowered : (to : List ℕ → List ℕ) (types : Types) (f : Frame) (xs : List (List ℕ)) → ListLowered (map (joined enums to types f) xs)
  joined_lowered to types f [] = tt
  joined_lowered to types f (x ∷ xs) = (tt, joined_lowered to types f xs)

  idle_lowered : (types : Types) (f : Frame) (k : ℕ) (xs : List (List ℕ)) → ListLowered (map (idle_value enums types f k) xs)
  idle_lowered types f k [] = tt
  idle_lowered types f k (x ∷ xs) = (tt, idle_lowered types f k xs)

  -- the equations of a state, whose body is known
  state_lowered : (to : List ℕ → List ℕ) (types : Types) (f : Frame) (k : ℕ) (unless : List Trans) (body : Block) → Lowered body → ListLowered (state_eqns to f k unless body (idle enums types f k))
  state_lowered to types f k unless body h =
      both_lowered (choosing_eqns to f k unless) (state_switch f k body (idle enums types f k) ∷ [])
      (both_lowered (strong_eqns to f k unless) (on_word f k ∷ [])
      (both_lowered (choices to f Strong k (length unless) (pending_of f) 0 unless) (from_eqn f k Strong (length unless) (pending_of f) ∷ []) (choices_lowered to f Strong k (length unless) (pending_of f) 0 unless) (tt, tt)) (tt, tt))
      (((h, tt), ((tt, row_lowered (map (idle_value enums types f k) f.names) (idle_lowered types f k f.names)), tt)), tt)

  weak_lowered : (to : List ℕ → List ℕ) (f : Frame) (k : ℕ) (until : List Trans) → ListLowered (weak_eqns to f k until)
  weak_lowered to f k until =
      both_lowered (choices to f Weak k (length until) (stays f k) 0 until) (own_next f k Weak (length until) (stays f k) ∷ []) (choices_lowered to f Weak k (length until) (stays f k) 0 until) (tt, tt)

  mutual
    pub block_lowered : (to : List ℕ → List ℕ) (types : Types) (d : ℕ) (s : Span) (xs : List (List ℕ)) (b : Block) → Lowered (lowered_block enums to types d s xs b)
    block_lowered to types d s xs (block ds es) =
        row_lowered (lowered_eqns enums to (declaring types ds) d es ++ all_kept to s xs (block ds es))
        (both_lowered (lowered_eqns enums to (declaring types ds) d es) (all_kept to s xs (block ds es)) (eqns_lowered to (declaring types ds) d es) (kept_lowered to s (missing (is_name (outer_names (block ds es))) xs)))

    eqns_lowered : (to : List ℕ → List ℕ) (types : Types) (d : ℕ) (es : Eqns) → ListLowered (lowered_eqns enums to types d es)
    eqns_lowered to types d no_eqn = tt
    eqns_lowered to types d (more_eqns e es) = (eqn_lowered to types d e, eqns_lowered to types d es)

    eqn_lowered : (to : List ℕ → List ℕ) (types : Types) (d : ℕ) (e : Eqn) → OneLowered (lowered_eqn enums to types d e)
    eqn_lowered to types d (define s ys e) = tt
    eqn_lowered to types d (switch s e arms) = arms_lowered to types d (once (names_of_arms arms)) arms
    eqn_lowered to types d (reset s b e) = block_lowered to types d s [] b
    eqn_lowered to types d (automaton s ss) =
        let f = frame s d ss in
        row_lowered (frame_eqns enums to types f ++ lowered_states enums to types f 0 ss)
        (both_lowered (frame_eqns enums to types f) (lowered_states enums to types f 0 ss) (tt, (tt, joined_lowered to types f f.names)) (states_lowered to types f 0 ss))

    arms_lowered : (to : List ℕ → List ℕ) (types : Types) (d : ℕ) (xs : List (List ℕ)) (arms : Arms) → ArmsLowered (lowered_arms enums to types d xs arms)
    arms_lowered to types d xs no_arm = tt
    arms_lowered to types d xs (more_arms c b s arms) = (block_lowered to types d s xs b, arms_lowered to types d xs arms)

    states_lowered : (to : List ℕ → List ℕ) (types : Types) (f : Frame) (k : ℕ) (ss : States) → ListLowered (lowered_states enums to types f k ss)
    states_lowered to types f k no_state = tt
    states_lowered to types f k (more_states q (block ds es) until unless s ss) =
        let in_state = inner to f k in
        let own = lowered_eqns enums in_state (declaring types ds) (f.depth + 1) es in
        let left = all_kept in_state f.at f.names (block ds es) in
        let body = lowered_body enums to types f k (block ds es) until in
        both_lowered (state_eqns to f k unless body (idle enums types f k)) (lowered_states enums to types f (k + 1) ss)
        (state_lowered to types f k unless body
        (row_lowered (weak_eqns in_state f k until ++ (own ++ left))
        (both_lowered (weak_eqns in_state f k until) (own ++ left) (weak_lowered in_state f k until)
        (both_lowered own left (eqns_lowered in_state (declaring types ds) (f.depth + 1) es) (kept_lowered in_state f.at (missing (is_name (outer_names (block ds es))) f.names))))))
        (states_lowered to types f (k + 1) ss)

pub lowered_law : LoweredLaw
lowered_law enums n = block_lowered enums same_name (types_of n) 0 n.span [] n.body
