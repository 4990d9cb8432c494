-- Blocks without automata, element by element.
use Rattle.std.proofs.Common.{◌≡◌, ℕ, ◌+◌, ◌<◌, ◌≤◌, get_or, length, take, drop, map, List, [], ◌∷◌, ◌++◌, refl, sym, ap, ◌∙◌}
use Rattle.hp_base.specs.declared.span.Span.{Span}
use Rattle.hp_tree.specs.declared.block.Trans.{Trans}
use Rattle.hp_tree.specs.declared.block.Eqn as code_eqn
use Rattle.hp_tree.specs.declared.block.Arm as code_arm
use Rattle.hp_tree.specs.declared.block.State as code_state
use Rattle.hp_tree.specs.BlockView.{eqn_seen, arm_seen, state_seen}
use Rattle.hp_tree.specs.Blocks.{Decl, Block, block, Eqn, Arm, Arms, more_arms, States, eqns_of, arms_of, states_of}
use Rattle.hp_automata.specs.declared.new_names.Word.TheVariants.{Weak}
use Rattle.hp_automata.specs.Renaming.{renamed_decls}
use Rattle.hp_automata.specs.Lowering.{Types, Enumerations, Frame, inner, idle, state_eqns, weak_eqns, transition_locals, frame_locals, frame_eqns, all_kept, lowered_block, lowered_eqn, lowered_eqns, lowered_arms, lowered_states, lowered_body}
use Rattle.hp_automata.specs.Inside.{locals_of, declared_in, lowered_inside, lowered_arm, frame_block, body_inside}
use Rattle.hp_automata.specs.Lists.{with_more}
use Rattle.hp_automata.proofs.ListLaws.{drop-next, drop-end, more-append, more-is, more-from_nil, map-one}
use Rattle.hp_automata.proofs.LayerLaws.{take-next, declaring-left}

-- types that were known before are known again behind a block
pub declared-left : (types : Types) (b : Block) → take (length types) (declared_in types b) ≡ types
declared-left types (block ds es) = declaring-left types ds

abbrev arms_of_one : Arm → Arms → Arms
arms_of_one a rest = more_arms a.cons a.body a.span rest

module _ (enums : Enumerations) (to : List ℕ → List ℕ) (types : Types) where
  pub block-entered : (d : ℕ) (s : Span) (xs : List (List ℕ)) (b : Block) → lowered_inside enums to (declared_in types b) d s xs b ≡ lowered_block enums to types d s xs b
  block-entered d s xs (block ds es) = refl

  pub body-entered : (f : Frame) (k : ℕ) (b : Block) (until : List Trans)
      → body_inside enums (inner to f k) (declared_in types b) (f.depth + 1) f k b until ≡ lowered_body enums to types f k b until
  body-entered f k (block ds es) until = refl

  pub arms-mapped : (d : ℕ) (xs : List (List ℕ)) (arms : List code_arm.Arm)
      → lowered_arms enums to types d xs (arms_of (map arm_seen arms)) ≡ arms_of (map (λ a. lowered_arm enums to types d xs (arm_seen a)) arms)
  arms-mapped d xs [] = refl
  arms-mapped d xs (a ∷ arms) = ap (λ rest. arms_of_one (lowered_arm enums to types d xs (arm_seen a)) rest) (arms-mapped d xs arms)

  pub eqns-from : (d : ℕ) (es : List code_eqn.Eqn) (i : ℕ) (e : code_eqn.Eqn) → i < length es → e ≡ get_or es i e
      → lowered_eqns enums to types d (eqns_of (map eqn_seen (drop i es))) ≡ lowered_eqn enums to types d (eqn_seen e) ∷ lowered_eqns enums to types d (eqns_of (map eqn_seen (drop (i + 1) es)))
  eqns-from d es i e h p = ap (λ more. lowered_eqns enums to types d (eqns_of (map eqn_seen more))) (drop-next es i e h p)

  pub eqns-end : (before : List Eqn) (d : ℕ) (es : List code_eqn.Eqn) (i : ℕ) → length es ≤ i → lowered_eqns enums to types d (eqns_of (map eqn_seen (drop i es))) ≡ []
  eqns-end before d es i h = ap (λ more. lowered_eqns enums to types d (eqns_of (map eqn_seen more))) (drop-end es i h)

  pub states-from : (f : Frame) (qs : List code_state.State) (i : ℕ) (q : code_state.State) → i < length qs → q ≡ get_or qs i q
      → lowered_states enums to types f i (states_of (map state_seen (drop i qs)))
      ≡ state_eqns to f i q.unless.items (lowered_body enums to types f i q.body q.until.items) (idle enums types f i) ++ lowered_states enums to types f (i + 1) (states_of (map state_seen (drop (i + 1) qs)))
  states-from f qs i q h p = ap (λ more. lowered_states enums to types f i (states_of (map state_seen more))) (drop-next qs i q h p)

  -- a block whose parts are made
  pub inside-made : (d : ℕ) (s : Span) (xs : List (List ℕ)) (ds locals : List Decl) (es : List code_eqn.Eqn) (b : Block) (eqns : List Eqn) → b ≡ block ds (eqns_of (map eqn_seen es)) → locals ≡ renamed_decls to ds
      → eqns ≡ with_more (with_more [] (lowered_eqns enums to types d (eqns_of (map eqn_seen es)))) (all_kept to s xs b) → block locals (eqns_of eqns) ≡ lowered_inside enums to types d s xs b
  inside-made d s xs ds locals es b eqns seen h g =
      let made = lowered_eqns enums to types d (eqns_of (map eqn_seen es)) in
      let all : eqns ≡ made ++ all_kept to s xs (block ds (eqns_of (map eqn_seen es))) =
      g ∙ ap (λ more. with_more more (all_kept to s xs b)) (more-from_nil made) ∙ more-is made (all_kept to s xs b) ∙ ap (λ c. made ++ all_kept to s xs c) seen in
      (λ j. block (h j) (eqns_of (all j))) ∙ sym (ap (λ c. lowered_inside enums to types d s xs c) seen)

  pub body-made : (d : ℕ) (f : Frame) (k : ℕ) (until : List Trans) (ds locals : List Decl) (es : List code_eqn.Eqn) (b : Block) (eqns : List Eqn) → b ≡ block ds (eqns_of (map eqn_seen es))
      → locals ≡ with_more (renamed_decls to (locals_of b)) (transition_locals f Weak k 0 until)
      → eqns ≡ with_more (with_more (with_more [] (weak_eqns to f k until)) (lowered_eqns enums to types d (eqns_of (map eqn_seen es)))) (all_kept to f.at f.names b)
      → block locals (eqns_of eqns) ≡ body_inside enums to types d f k b until
  body-made d f k until ds locals es b eqns seen h g =
      let weak = weak_eqns to f k until in
      let made = lowered_eqns enums to types d (eqns_of (map eqn_seen es)) in
      let left = all_kept to f.at f.names b in
      let own : locals ≡ renamed_decls to ds ++ transition_locals f Weak k 0 until =
      h ∙ more-is (renamed_decls to (locals_of b)) (transition_locals f Weak k 0 until) ∙ ap (λ c. renamed_decls to (locals_of c) ++ transition_locals f Weak k 0 until) seen in
      let all : eqns ≡ weak ++ (made ++ all_kept to f.at f.names (block ds (eqns_of (map eqn_seen es)))) =
      g ∙ ap (λ more. with_more (with_more more made) left) (more-from_nil weak) ∙ sym (more-append weak made left) ∙ more-is weak (made ++ left)
      ∙ ap (λ c. weak ++ (made ++ all_kept to f.at f.names c)) seen in
      (λ j. block (own j) (eqns_of (all j))) ∙ sym (ap (λ c. body_inside enums to types d f k c until) seen)

-- one more arm
pub arms-grown : (g : Arm → Arm) (made after : List code_arm.Arm) (other a : code_arm.Arm) (arms : List code_arm.Arm) (i : ℕ) → i < length arms → a ≡ get_or arms i a → after ≡ made ++ other ∷ []
    → arm_seen other ≡ g (arm_seen a) → map arm_seen made ≡ map (λ b. g (arm_seen b)) (take i arms) → map arm_seen after ≡ map (λ b. g (arm_seen b)) (take (i + 1) arms)
arms-grown g made after other a arms i h p push is known =
    ap (λ xs. map arm_seen xs) push ∙ map-one arm_seen made other ∙ (λ j. known j ++ is j ∷ [])
    ∙ sym (ap (λ xs. map (λ b. g (arm_seen b)) xs) (take-next arms i a h p) ∙ map-one (λ b. g (arm_seen b)) (take i arms) a)

-- the block that stands for an automaton, whose parts are made
pub frame-made : (enums : Enumerations) (to : List ℕ → List ℕ) (types : Types) (f : Frame) (ss : States) (locals : List Decl) (eqns : List Eqn) → locals ≡ frame_locals types f ss
    → eqns ≡ with_more (with_more [] (frame_eqns enums to types f)) (lowered_states enums to types f 0 ss) → block locals (eqns_of eqns) ≡ frame_block enums to types f ss
frame-made enums to types f ss locals eqns h g =
    let own = frame_eqns enums to types f in
    let rest = lowered_states enums to types f 0 ss in
    let all : eqns ≡ own ++ rest = g ∙ ap (λ more. with_more more rest) (more-from_nil own) ∙ more-is own rest in
    λ j. block (h j) (eqns_of (all j))
