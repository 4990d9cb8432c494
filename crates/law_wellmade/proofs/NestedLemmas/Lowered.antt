-- Removing automata makes no more levels of arms, and no longer clocks: the words of an automaton stand on the base clock of its block.
use Rattle.std.proofs.Common.{◌≡◌, ℕ, suc, ◌+◌, ◌≤◌, max, Bool, true, false, if◌then◌else◌, List, [], ◌∷◌, ◌++◌, length, map, Option, None, Some, refl, sym, ap, subst, ◌∙◌, arith}
use Rattle.std.specs.Prelude.{⊤, option_map}
use Rattle.std.specs.Str.{bytes_eq}
use Rattle.hp_base.specs.declared.span.Span.{Span}
use Rattle.hp_tree.specs.declared.block.Trans.{Trans}
use Rattle.hp_tree.specs.declared.decl.Cons.{Cons}
use Rattle.hp_tree.specs.Expressions.{Expr}
use Rattle.hp_tree.specs.Blocks.{Decl, Block, block, Eqns, no_eqn, more_eqns, Eqn, define, switch, reset, automaton, Arms, no_arm, more_arms, States, no_state, more_states, eqns_of}
use Rattle.hp_tree.specs.Meaning.{written, clock_in}
use Rattle.hp_automata.specs.declared.new_names.Word.{Word}
use Rattle.hp_automata.specs.declared.new_names.Word.TheVariants.{Strong, Weak}
use Rattle.hp_tables.specs.Defining.Names.{names_of_arms, outer_names}
use Rattle.hp_automata.specs.Names.{is_name, once, missing}
use Rattle.hp_automata.specs.Renaming.{renamed_path, renamed_decls}
use Rattle.hp_automata.specs.Lowering.{Types, Enumerations, declaring, Frame, inner, stays, pending_of, transition_locals, choices, value_local, state_locals, locals_from, frame_locals, idle_value, idle, choosing_eqns, strong_eqns, weak_eqns, frame_eqns, joined, kept, all_kept, frame, same_name, types_of, lowered_block, lowered_eqns, lowered_eqn, lowered_arms, lowered_states, lowered_body}
use Rattle.law_equations.proofs.MadeLemmas.ClockLaws.{path-length}
use Rattle.law_wellmade.specs.Nested.Nested.{arms_of_block, arms_of_eqns, arms_of_eqn, arms_of_arms, arms_of_states, BlockShort, EqnsShort, EqnShort, ArmsShort, StatesShort}
use Rattle.law_wellmade.specs.Nested.Laws.{LoweredLaw}

-- ---- equations in a list

both_levels : (es fs : List Eqn) (room : ℕ) → arms_of_eqns (eqns_of es) ≤ room → arms_of_eqns (eqns_of fs) ≤ room → arms_of_eqns (eqns_of (es ++ fs)) ≤ room
both_levels [] fs room h g = g
both_levels (e ∷ es) fs room h g =
    let a = arms_of_eqn e in
    let b = arms_of_eqns (eqns_of es) in
    let c = arms_of_eqns (eqns_of (es ++ fs)) in
    let r : c ≤ room = both_levels es fs room (omega (arith, h)) g in
    omega (arith, h, r)

-- equations that hold no blocks
abbrev AreFlat : List Eqn → Type 0
AreFlat [] = ⊤
AreFlat (define s ys e ∷ es) = AreFlat es
AreFlat (e ∷ es) = ⊥

flat_levels : (es : List Eqn) (room : ℕ) → AreFlat es → arms_of_eqns (eqns_of es) ≤ room
flat_levels [] room h = omega arith
flat_levels (define s ys e ∷ es) room h = (let r = flat_levels es room h in omega (arith, r))
flat_levels (switch s e arms ∷ es) room h = absurd h
flat_levels (reset s b e ∷ es) room h = absurd h
flat_levels (automaton s ss ∷ es) room h = absurd h

both_flat : (es fs : List Eqn) → AreFlat es → AreFlat fs → AreFlat (es ++ fs)
both_flat [] fs h g = g
both_flat (define s ys e ∷ es) fs h g = both_flat es fs h g
both_flat (switch s e arms ∷ es) fs h g = absurd h
both_flat (reset s b e ∷ es) fs h g = absurd h
both_flat (automaton s ss ∷ es) fs h g = absurd h

choices_flat : (to : List ℕ → List ℕ) (f : Frame) (w : Word) (k n : ℕ) (end : Expr) (j : ℕ) (ts : List Trans) → AreFlat (choices to f w k n end j ts)
choices_flat to f w k n end j [] = tt
choices_flat to f w k n end j (t ∷ ts) = choices_flat to f w k n end (j + 1) ts

kept_flat : (to : List ℕ → List ℕ) (s : Span) (xs : List (List ℕ)) → AreFlat (map (kept to s) xs)
kept_flat to s [] = tt
kept_flat to s (x ∷ xs) = kept_flat to s xs

weak_flat : (to : List ℕ → List ℕ) (f : Frame) (k : ℕ) (until : List Trans) → AreFlat (weak_eqns to f k until)
weak_flat to f k until = both_flat (choices to f Weak k (length until) (stays f k) 0 until) _ (choices_flat to f Weak k (length until) (stays f k) 0 until) tt

strong_flat : (to : List ℕ → List ℕ) (f : Frame) (k : ℕ) (unless : List Trans) → AreFlat (strong_eqns to f k unless)
strong_flat to f k unless = both_flat (choices to f Strong k (length unless) (pending_of f) 0 unless) _ (choices_flat to f Strong k (length unless) (pending_of f) 0 unless) tt

choosing_flat : (to : List ℕ → List ℕ) (f : Frame) (k : ℕ) (unless : List Trans) → AreFlat (choosing_eqns to f k unless)
choosing_flat to f k unless = both_flat (strong_eqns to f k unless) _ (strong_flat to f k unless) tt

-- ---- clocks of names

abbrev Clocked : ℕ → List Decl → List ℕ → Type 0
Clocked limit ds x = length (clock_in ds x) ≤ limit

both_clocked : (limit : ℕ) (ds es : List Decl) (x : List ℕ) → Clocked limit ds x → Clocked limit es x → Clocked limit (ds ++ es) x
both_clocked limit [] es x h g = g
both_clocked limit (d ∷ ds) es x h g = by (bytes_eq d.name x) h (λ i. both_clocked limit ds es x i g)
  where
    by : (b : Bool) → length (if b then written d.clock else clock_in ds x) ≤ limit → (Clocked limit ds x → Clocked limit (ds ++ es) x)
        → length (if b then written d.clock else clock_in (ds ++ es) x) ≤ limit
    by true i more = i
    by false i more = more i

-- the clock that a renamed path tells is as long
map_length : (to : List ℕ → List ℕ) (path : List (Cons × List ℕ)) → length (renamed_path to path) ≡ length path
map_length to [] = refl
map_length to (s ∷ path) = ap suc (map_length to path)

written_clocked : (to : List ℕ → List ℕ) (o : Option (List (Cons × List ℕ))) → length (written (option_map (renamed_path to) o)) ≡ length (written o)
written_clocked to None = refl
written_clocked to (Some path) = path-length (renamed_path to path) ∙ map_length to path ∙ sym (path-length path)

renamed_clocked : (limit : ℕ) (to : List ℕ → List ℕ) (ds : List Decl) (x : List ℕ) → Clocked limit ds x → Clocked limit (renamed_decls to ds) x
renamed_clocked limit to [] x h = h
renamed_clocked limit to (d ∷ ds) x h = by (bytes_eq d.name x) h (renamed_clocked limit to ds x)
  where
    by : (b : Bool) → length (if b then written d.clock else clock_in ds x) ≤ limit → (Clocked limit ds x → Clocked limit (renamed_decls to ds) x)
        → length (if b then written (option_map (renamed_path to) d.clock) else clock_in (renamed_decls to ds) x) ≤ limit
    by true i more = subst (λ n. n ≤ limit) (sym (written_clocked to d.clock)) i
    by false i more = more i

-- declarations on the base clock
abbrev AreBase : List Decl → Type 0
AreBase [] = ⊤
AreBase (d ∷ ds) = (d.clock ≡ Some []) × AreBase ds

base_clocked : (limit : ℕ) (ds : List Decl) (x : List ℕ) → AreBase ds → Clocked limit ds x
base_clocked limit [] x h = omega arith
base_clocked limit (d ∷ ds) x h = by (bytes_eq d.name x) (base_clocked limit ds x h.1)
  where
    by : (b : Bool) → Clocked limit ds x → length (if b then written d.clock else clock_in ds x) ≤ limit
    by true more = subst (λ (o : Option (List (Cons × List ℕ))). length (written o) ≤ limit) (sym h.0) (omega arith)
    by false more = more

both_base : (ds es : List Decl) → AreBase ds → AreBase es → AreBase (ds ++ es)
both_base [] es h g = g
both_base (d ∷ ds) es h g = (h.0, both_base ds es h.1 g)

transitions_base : (f : Frame) (w : Word) (k j : ℕ) (ts : List Trans) → AreBase (transition_locals f w k j ts)
transitions_base f w k j [] = tt
transitions_base f w k j (t ∷ ts) = (refl, transitions_base f w k (j + 1) ts)

values_base : (types : Types) (f : Frame) (k : ℕ) (xs : List (List ℕ)) → AreBase (map (value_local types f k) xs)
values_base types f k [] = tt
values_base types f k (x ∷ xs) = (refl, values_base types f k xs)

state_base : (types : Types) (f : Frame) (k : ℕ) (unless : List Trans) → AreBase (state_locals types f k unless)
state_base types f k unless = (refl, (refl, (refl, both_base (transition_locals f Strong k 0 unless) (map (value_local types f k) f.names) (transitions_base f Strong k 0 unless) (values_base types f k f.names))))

locals_base : (types : Types) (f : Frame) (k : ℕ) (ss : States) → AreBase (locals_from types f k ss)
locals_base types f k no_state = tt
locals_base types f k (more_states q b until unless at ss) =
    both_base (state_locals types f k unless) (locals_from types f (k + 1) ss) (state_base types f k unless) (locals_base types f (k + 1) ss)

-- ---- equations in a list, with short clocks

both_short : (limit : ℕ) (es fs : List Eqn) → EqnsShort limit (eqns_of es) → EqnsShort limit (eqns_of fs) → EqnsShort limit (eqns_of (es ++ fs))
both_short limit [] fs h g = g
both_short limit (e ∷ es) fs h g = (h.0, both_short limit es fs h.1 g)

flat_short : (limit : ℕ) (es : List Eqn) → AreFlat es → EqnsShort limit (eqns_of es)
flat_short limit [] h = tt
flat_short limit (define s ys e ∷ es) h = (tt, flat_short limit es h)
flat_short limit (switch s e arms ∷ es) h = absurd h
flat_short limit (reset s b e ∷ es) h = absurd h
flat_short limit (automaton s ss ∷ es) h = absurd h

module _ (enums : Enumerations) where
  idle_flat : (types : Types) (f : Frame) (k : ℕ) (xs : List (List ℕ)) → AreFlat (map (idle_value enums types f k) xs)
  idle_flat types f k [] = tt
  idle_flat types f k (x ∷ xs) = idle_flat types f k xs

  joined_flat : (to : List ℕ → List ℕ) (types : Types) (f : Frame) (xs : List (List ℕ)) → AreFlat (map (joined enums to types f) xs)
  joined_flat to types f [] = tt
  joined_flat to types f (x ∷ xs) = joined_flat to types f xs

  frame_flat : (to : List ℕ → List ℕ) (types : Types) (f : Frame) → AreFlat (frame_eqns enums to types f)
  frame_flat to types f = joined_flat to types f f.names

  all_kept_flat : (to : List ℕ → List ℕ) (s : Span) (xs : List (List ℕ)) (b : Block) → AreFlat (all_kept to s xs b)
  all_kept_flat to s xs b = kept_flat to s (missing (is_name (outer_names b)) xs)

  -- ---- levels

  -- an arm with what is no deeper
  no_deeper : (a b c d : ℕ) → a ≤ b → c ≤ d → max (suc a) c ≤ max (suc b) d
  no_deeper a b c d h g = omega (arith, h, g)

  no_more : (a b c d : ℕ) → a ≤ b → c ≤ d → max a c ≤ max b d
  no_more a b c d h g = omega (arith, h, g)

  -- the arm of a state that is not active has no arms in it
  idle_levels : (types : Types) (f : Frame) (k : ℕ) → arms_of_block (idle enums types f k) ≤ 0
  idle_levels types f k = (let r = flat_levels (map (idle_value enums types f k) f.names) 0 (idle_flat types f k f.names) in omega (arith, r))

  mutual
    block_levels : (b : Block) (to : List ℕ → List ℕ) (types : Types) (d : ℕ) (s : Span) (xs : List (List ℕ)) → arms_of_block (lowered_block enums to types d s xs b) ≤ arms_of_block b
    block_levels (block ds es) to types d s xs =
        both_levels (lowered_eqns enums to (declaring types ds) d es) (all_kept to s xs (block ds es)) (arms_of_eqns es) (eqns_levels es to (declaring types ds) d)
        (flat_levels (all_kept to s xs (block ds es)) (arms_of_eqns es) (all_kept_flat to s xs (block ds es)))

    eqns_levels : (es : Eqns) (to : List ℕ → List ℕ) (types : Types) (d : ℕ) → arms_of_eqns (eqns_of (lowered_eqns enums to types d es)) ≤ arms_of_eqns es
    eqns_levels no_eqn to types d = omega arith
    eqns_levels (more_eqns e es) to types d =
        no_more (arms_of_eqn (lowered_eqn enums to types d e)) (arms_of_eqn e) (arms_of_eqns (eqns_of (lowered_eqns enums to types d es))) (arms_of_eqns es) (eqn_levels e to types d) (eqns_levels es to types d)

    eqn_levels : (e : Eqn) (to : List ℕ → List ℕ) (types : Types) (d : ℕ) → arms_of_eqn (lowered_eqn enums to types d e) ≤ arms_of_eqn e
    eqn_levels (define s ys e) to types d = omega arith
    eqn_levels (switch s e arms) to types d = arms_levels arms to types d (once (names_of_arms arms))
    eqn_levels (reset s b e) to types d = block_levels b to types d s []
    eqn_levels (automaton s ss) to types d =
        let f = frame s d ss in
        both_levels (frame_eqns enums to types f) (lowered_states enums to types f 0 ss) (arms_of_states ss) (flat_levels (frame_eqns enums to types f) (arms_of_states ss) (frame_flat to types f))
        (states_levels ss to types f 0)

    arms_levels : (arms : Arms) (to : List ℕ → List ℕ) (types : Types) (d : ℕ) (xs : List (List ℕ)) → arms_of_arms (lowered_arms enums to types d xs arms) ≤ arms_of_arms arms
    arms_levels no_arm to types d xs = omega arith
    arms_levels (more_arms c b at arms) to types d xs =
        no_deeper (arms_of_block (lowered_block enums to types d at xs b)) (arms_of_block b) (arms_of_arms (lowered_arms enums to types d xs arms)) (arms_of_arms arms)
        (block_levels b to types d at xs) (arms_levels arms to types d xs)

    states_levels : (ss : States) (to : List ℕ → List ℕ) (types : Types) (f : Frame) (k : ℕ) → arms_of_eqns (eqns_of (lowered_states enums to types f k ss)) ≤ arms_of_states ss
    states_levels no_state to types f k = omega arith
    states_levels (more_states q b until unless at ss) to types f k =
        let body = lowered_body enums to types f k b until in
        let levels = max (suc (arms_of_block b)) (arms_of_states ss) in
        let rest = lowered_states enums to types f (k + 1) ss in
        let one = body_levels b to types f k until in
        let none = idle_levels types f k in
        let more = states_levels ss to types f (k + 1) in
        both_levels (choosing_eqns to f k unless ++ _) rest levels
        (both_levels (choosing_eqns to f k unless) _ levels (flat_levels (choosing_eqns to f k unless) levels (choosing_flat to f k unless)) (omega (arith, one, none))) (omega (arith, more))

    body_levels : (b : Block) (to : List ℕ → List ℕ) (types : Types) (f : Frame) (k : ℕ) (until : List Trans) → arms_of_block (lowered_body enums to types f k b until) ≤ arms_of_block b
    body_levels (block ds es) to types f k until =
        let inside = inner to f k in
        let made = lowered_eqns enums inside (declaring types ds) (f.depth + 1) es in
        let left = all_kept inside f.at f.names (block ds es) in
        both_levels (weak_eqns inside f k until) (made ++ left) (arms_of_eqns es) (flat_levels (weak_eqns inside f k until) (arms_of_eqns es) (weak_flat inside f k until))
        (both_levels made left (arms_of_eqns es) (eqns_levels es inside (declaring types ds) (f.depth + 1)) (flat_levels left (arms_of_eqns es) (all_kept_flat inside f.at f.names (block ds es))))

  -- ---- clocks

  module _ (limit : ℕ) where
    mutual
      block_short : (b : Block) (to : List ℕ → List ℕ) (types : Types) (d : ℕ) (s : Span) (xs : List (List ℕ)) → BlockShort limit b → BlockShort limit (lowered_block enums to types d s xs b)
      block_short (block ds es) to types d s xs h = (
        λ x. renamed_clocked limit to ds x (h.0 x),
        both_short limit (lowered_eqns enums to (declaring types ds) d es) (all_kept to s xs (block ds es)) (eqns_short es to (declaring types ds) d h.1)
            (flat_short limit (all_kept to s xs (block ds es)) (all_kept_flat to s xs (block ds es))),
      )

      eqns_short : (es : Eqns) (to : List ℕ → List ℕ) (types : Types) (d : ℕ) → EqnsShort limit es → EqnsShort limit (eqns_of (lowered_eqns enums to types d es))
      eqns_short no_eqn to types d h = tt
      eqns_short (more_eqns e es) to types d h = (eqn_short e to types d h.0, eqns_short es to types d h.1)

      eqn_short : (e : Eqn) (to : List ℕ → List ℕ) (types : Types) (d : ℕ) → EqnShort limit e → EqnShort limit (lowered_eqn enums to types d e)
      eqn_short (define s ys e) to types d h = tt
      eqn_short (switch s e arms) to types d h = arms_short arms to types d (once (names_of_arms arms)) h
      eqn_short (reset s b e) to types d h = block_short b to types d s [] h
      eqn_short (automaton s ss) to types d h =
          let f = frame s d ss in (
            λ x. base_clocked limit (frame_locals types f ss) x (refl, (refl, locals_base types f 0 ss)),
            both_short limit (frame_eqns enums to types f) (lowered_states enums to types f 0 ss) (flat_short limit (frame_eqns enums to types f) (frame_flat to types f)) (states_short ss to types f 0 h),
          )

      arms_short : (arms : Arms) (to : List ℕ → List ℕ) (types : Types) (d : ℕ) (xs : List (List ℕ)) → ArmsShort limit arms → ArmsShort limit (lowered_arms enums to types d xs arms)
      arms_short no_arm to types d xs h = tt
      arms_short (more_arms c b at arms) to types d xs h = (block_short b to types d at xs h.0, arms_short arms to types d xs h.1)

      states_short : (ss : States) (to : List ℕ → List ℕ) (types : Types) (f : Frame) (k : ℕ) → StatesShort limit ss → EqnsShort limit (eqns_of (lowered_states enums to types f k ss))
      states_short no_state to types f k h = tt
      states_short (more_states q b until unless at ss) to types f k h =
          let body = lowered_body enums to types f k b until in
          let rest = lowered_states enums to types f (k + 1) ss in
          let base : (x : List ℕ) → Clocked limit [] x = λ x. omega arith in
          let afresh : BlockShort limit body = body_short b to types f k until h.0 in
          let none : BlockShort limit (idle enums types f k) = (base, (tt, flat_short limit (map (idle_value enums types f k) f.names) (idle_flat types f k f.names))) in
          both_short limit (choosing_eqns to f k unless ++ _) rest
          (both_short limit (choosing_eqns to f k unless) _ (flat_short limit (choosing_eqns to f k unless) (choosing_flat to f k unless)) (((base, (afresh, tt)), (none, tt)), tt))
          (states_short ss to types f (k + 1) h.1)

      body_short : (b : Block) (to : List ℕ → List ℕ) (types : Types) (f : Frame) (k : ℕ) (until : List Trans) → BlockShort limit b → BlockShort limit (lowered_body enums to types f k b until)
      body_short (block ds es) to types f k until h =
          let inside = inner to f k in
          let made = lowered_eqns enums inside (declaring types ds) (f.depth + 1) es in
          let left = all_kept inside f.at f.names (block ds es) in (
            λ x. both_clocked limit (renamed_decls inside ds) (transition_locals f Weak k 0 until) x (renamed_clocked limit inside ds x (h.0 x))
                (base_clocked limit (transition_locals f Weak k 0 until) x (transitions_base f Weak k 0 until)),
            both_short limit (weak_eqns inside f k until) (made ++ left) (flat_short limit (weak_eqns inside f k until) (weak_flat inside f k until))
                (both_short limit made left (eqns_short es inside (declaring types ds) (f.depth + 1) h.1) (flat_short limit left (all_kept_flat inside f.at f.names (block ds es)))),
          )

pub lowered_law : LoweredLaw
lowered_law enums limit n = (block_levels enums n.body same_name (types_of n) 0 n.span [], block_short enums limit n.body same_name (types_of n) 0 n.span [])
