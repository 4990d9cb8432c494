-- Removing automata brings no calls: its words call nothing, and each body and condition stands in one place afterwards.
use Rattle.std.proofs.Common.{◌≡◌, ℕ, ◌+◌, ◌≤◌, Bool, true, false, nat_lt, if◌then◌else◌, List, [], ◌∷◌, ◌++◌, length, map, refl, sym, ap, ap₂, subst, ◌∙◌, arith}
use Rattle.hp_base.specs.declared.span.Span.{Span}
use Rattle.hp_tree.specs.declared.block.Trans.{Trans}
use Rattle.hp_tree.specs.Expressions.{Expr, constant, variable, last_of, one, two, choose, pre, fby, arrow, when_is, merge, call, Exprs, no_expr, more_exprs, Parts, no_part, more_parts}
use Rattle.hp_tree.specs.Blocks.{Block, block, Eqns, no_eqn, more_eqns, Eqn, define, switch, reset, automaton, Arms, no_arm, more_arms, States, no_state, more_states, eqns_of}
use Rattle.hp_automata.specs.declared.new_names.Word.{Word}
use Rattle.hp_automata.specs.declared.new_names.Word.TheVariants.{From, Next, Strong, Weak}
use Rattle.hp_tables.specs.Defining.Names.{names_of_arms, outer_names}
use Rattle.hp_automata.specs.Names.{is_name, once, missing}
use Rattle.hp_automata.specs.Renaming.{renamed, renamed_exprs, renamed_parts}
use Rattle.hp_automata.specs.Lowering.{Types, Enumerations, declaring, Frame, inner, stays, pending_of, number, link, choices, handed, from_eqn, on_word, own_next, jump_eqn, next_eqn, idle_next, idle_value, idle, state_switch, choosing_eqns, strong_eqns, weak_eqns, frame_eqns, joined, value_handed, kept, all_kept, frame, same_name, types_of, lowered_block, lowered_eqns, lowered_eqn, lowered_arms, lowered_states, lowered_body}
use Rattle.hp_automata.specs.NewNames.{state_word, transition_word, value_name}
use Rattle.law_history.specs.Counted.Counted.{Joins, in_expr, in_exprs, in_parts, in_transitions, in_block, in_eqns, in_eqn, in_arms, in_states}
use Rattle.law_history.specs.Counted.Laws.{LoweredLaw}
use Rattle.law_history.proofs.CountedLemmas.Joining.{nothing_left, quiet_left, quiet_right}

module _ (join : ℕ → ℕ → ℕ) (joins : Joins join) (known : List ℕ → ℕ) where
  abbrev of_expr : Expr → ℕ
  of_expr e = in_expr join known e

  -- ---- equations in a list

  abbrev of_list : List Eqn → ℕ
  of_list es = in_eqns join known (eqns_of es)

  both_lists : (es fs : List Eqn) (a b : ℕ) → of_list es ≤ a → of_list fs ≤ b → of_list (es ++ fs) ≤ join a b
  both_lists es fs a b h g = subst (λ n. n ≤ join a b) (sym (sum es)) (joins.grows (of_list es) (of_list fs) a b h g)
    where
      sum : (es : List Eqn) → of_list (es ++ fs) ≡ join (of_list es) (of_list fs)
      sum [] = sym (nothing_left join joins (of_list fs))
      sum (e ∷ es) = ap (join (in_eqn join known e)) (sum es) ∙ sym (joins.grouped (in_eqn join known e) (of_list es) (of_list fs))

  -- lists that call nothing stand in front, or behind
  quiet_front : (es fs : List Eqn) (b : ℕ) → of_list es ≤ 0 → of_list fs ≤ b → of_list (es ++ fs) ≤ b
  quiet_front es fs b h g = subst (λ n. of_list (es ++ fs) ≤ n) (nothing_left join joins b) (both_lists es fs 0 b h g)

  quiet_back : (es fs : List Eqn) (a : ℕ) → of_list es ≤ a → of_list fs ≤ 0 → of_list (es ++ fs) ≤ a
  quiet_back es fs a h g = subst (λ n. of_list (es ++ fs) ≤ n) (joins.none a) (both_lists es fs a 0 h g)

  one_alone : (e : Eqn) (a : ℕ) → in_eqn join known e ≤ a → of_list (e ∷ []) ≤ a
  one_alone e a h = quiet_right join joins (in_eqn join known e) 0 a h (omega arith)

  nothing : 0 ≤ 0
  nothing = omega arith

  two_quiet : (a b : ℕ) → a ≤ 0 → b ≤ 0 → join a b ≤ 0
  two_quiet a b h g = quiet_left join joins a b 0 h g

  -- ---- words

  link_quiet : (s : Span) (k n : ℕ) (named : ℕ → List ℕ) (end : Expr) → of_expr end ≤ 0 → of_expr (link s n named end k) ≤ 0
  link_quiet s k n named end h = by (nat_lt k n)
    where
      by : (b : Bool) → of_expr (if b then variable s (named k) else end) ≤ 0
      by true = omega arith
      by false = h

  -- ---- renaming

  mutual
    expr_renamed : (to : List ℕ → List ℕ) (e : Expr) → of_expr (renamed to e) ≡ of_expr e
    expr_renamed to (constant s c) = refl
    expr_renamed to (variable s x) = refl
    expr_renamed to (last_of s x) = refl
    expr_renamed to (one s o a) = expr_renamed to a
    expr_renamed to (two s o a b) = ap₂ join (expr_renamed to a) (expr_renamed to b)
    expr_renamed to (choose s a b c) = ap₂ join (expr_renamed to a) (ap₂ join (expr_renamed to b) (expr_renamed to c))
    expr_renamed to (pre s a) = expr_renamed to a
    expr_renamed to (fby s a b) = ap₂ join (expr_renamed to a) (expr_renamed to b)
    expr_renamed to (arrow s a b) = ap₂ join (expr_renamed to a) (expr_renamed to b)
    expr_renamed to (when_is s a c x) = expr_renamed to a
    expr_renamed to (merge s x ps) = parts_renamed to ps
    expr_renamed to (call s f inlined es) = ap (λ n. join n (known f)) (exprs_renamed to es)

    exprs_renamed : (to : List ℕ → List ℕ) (es : Exprs) → in_exprs join known (renamed_exprs to es) ≡ in_exprs join known es
    exprs_renamed to no_expr = refl
    exprs_renamed to (more_exprs e es) = ap₂ join (expr_renamed to e) (exprs_renamed to es)

    parts_renamed : (to : List ℕ → List ℕ) (ps : Parts) → in_parts join known (renamed_parts to ps) ≡ in_parts join known ps
    parts_renamed to no_part = refl
    parts_renamed to (more_parts c e ps) = ap₂ join (expr_renamed to e) (parts_renamed to ps)

  renamed_less : (to : List ℕ → List ℕ) (e : Expr) → of_expr (renamed to e) ≤ of_expr e
  renamed_less to e = (let same = expr_renamed to e in omega (arith, same))

  -- ---- transitions and states

  -- a choice calls what its condition calls
  choices_less : (to : List ℕ → List ℕ) (f : Frame) (w : Word) (k n : ℕ) (end : Expr) (j : ℕ) (ts : List Trans) → of_expr end ≤ 0 → of_list (choices to f w k n end j ts) ≤ in_transitions join known ts
  choices_less to f w k n end j [] h = omega arith
  choices_less to f w k n end j (t ∷ ts) h =
      let next = link f.at n (transition_word w f.depth k) end (j + 1) in
      let here : join (of_expr (renamed to t.cond)) (join 0 (of_expr next)) ≤ of_expr t.cond =
      quiet_right join joins (of_expr (renamed to t.cond)) (join 0 (of_expr next)) (of_expr t.cond) (renamed_less to t.cond)
      (two_quiet 0 (of_expr next) nothing (link_quiet f.at (j + 1) n (transition_word w f.depth k) end h)) in
      joins.grows (join (of_expr (renamed to t.cond)) (join 0 (of_expr next))) (of_list (choices to f w k n end (j + 1) ts)) (of_expr t.cond) (in_transitions join known ts) here
      (choices_less to f w k n end (j + 1) ts h)

  goes_quiet : join (join 0 0) (join 0 0) ≤ 0
  goes_quiet = two_quiet (join 0 0) (join 0 0) (two_quiet 0 0 nothing nothing) (two_quiet 0 0 nothing nothing)

  choosing_less : (to : List ℕ → List ℕ) (f : Frame) (k : ℕ) (unless : List Trans) → of_list (choosing_eqns to f k unless) ≤ in_transitions join known unless
  choosing_less to f k unless =
      let n = length unless in
      let a = in_transitions join known unless in
      let first = link f.at n (transition_word Strong f.depth k) (pending_of f) 0 in
      let further = handed f From (pending_of f) (k + 1) in
      quiet_back (strong_eqns to f k unless) (on_word f k ∷ []) a
      (quiet_back (choices to f Strong k n (pending_of f) 0 unless) (from_eqn f k Strong n (pending_of f) ∷ []) a (choices_less to f Strong k n (pending_of f) 0 unless nothing)
      (one_alone (from_eqn f k Strong n (pending_of f)) 0 (two_quiet (join (join 0 0) (join 0 0)) (join (of_expr first) (of_expr further)) goes_quiet
      (two_quiet (of_expr first) (of_expr further) (link_quiet f.at 0 n (transition_word Strong f.depth k) (pending_of f) nothing) (link_quiet f.at (k + 1) f.count (state_word From f.depth) (pending_of f) nothing)))))
      (one_alone (on_word f k) 0 goes_quiet)

  weak_less : (to : List ℕ → List ℕ) (f : Frame) (k : ℕ) (until : List Trans) → of_list (weak_eqns to f k until) ≤ in_transitions join known until
  weak_less to f k until =
      let n = length until in
      quiet_back (choices to f Weak k n (stays f k) 0 until) (own_next f k Weak n (stays f k) ∷ []) (in_transitions join known until) (choices_less to f Weak k n (stays f k) 0 until nothing)
      (one_alone (own_next f k Weak n (stays f k)) 0 (link_quiet f.at 0 n (transition_word Weak f.depth k) (stays f k) nothing))

  kept_quiet : (to : List ℕ → List ℕ) (s : Span) (xs : List (List ℕ)) → of_list (map (kept to s) xs) ≤ 0
  kept_quiet to s [] = omega arith
  kept_quiet to s (x ∷ xs) = two_quiet 0 (of_list (map (kept to s) xs)) nothing (kept_quiet to s xs)

  all_kept_quiet : (to : List ℕ → List ℕ) (s : Span) (xs : List (List ℕ)) (b : Block) → of_list (all_kept to s xs b) ≤ 0
  all_kept_quiet to s xs b = kept_quiet to s (missing (is_name (outer_names b)) xs)

  module _ (enums : Enumerations) where
    value_quiet : (types : Types) (f : Frame) (k : ℕ) (x : List ℕ) → of_expr (value_handed enums types f k x) ≤ 0
    value_quiet types f k x = link_quiet f.at k f.count (λ m. value_name f.depth m x) _ nothing

    values_quiet : (types : Types) (f : Frame) (k : ℕ) (xs : List (List ℕ)) → of_list (map (idle_value enums types f k) xs) ≤ 0
    values_quiet types f k [] = omega arith
    values_quiet types f k (x ∷ xs) = two_quiet _ (of_list (map (idle_value enums types f k) xs)) (value_quiet types f (k + 1) x) (values_quiet types f k xs)

    joined_quiet : (to : List ℕ → List ℕ) (types : Types) (f : Frame) (xs : List (List ℕ)) → of_list (map (joined enums to types f) xs) ≤ 0
    joined_quiet to types f [] = omega arith
    joined_quiet to types f (x ∷ xs) = two_quiet _ (of_list (map (joined enums to types f) xs)) (value_quiet types f 0 x) (joined_quiet to types f xs)

    handed_quiet : (f : Frame) (w : Word) (end : Expr) (k : ℕ) → of_expr end ≤ 0 → of_expr (handed f w end k) ≤ 0
    handed_quiet f w end k h = link_quiet f.at k f.count (state_word w f.depth) end h

    idle_quiet : (types : Types) (f : Frame) (k : ℕ) → in_block join known (idle enums types f k) ≤ 0
    idle_quiet types f k = two_quiet (in_eqn join known (idle_next f k)) (of_list (map (idle_value enums types f k) f.names)) (handed_quiet f Next (number f.at 0) (k + 1) nothing) (values_quiet types f k f.names)

    frame_quiet : (to : List ℕ → List ℕ) (types : Types) (f : Frame) → of_list (frame_eqns enums to types f) ≤ 0
    frame_quiet to types f =
        two_quiet (in_eqn join known (jump_eqn f)) (join (in_eqn join known (next_eqn f)) (of_list (map (joined enums to types f) f.names))) (handed_quiet f From (pending_of f) 0 nothing)
        (two_quiet (in_eqn join known (next_eqn f)) (of_list (map (joined enums to types f) f.names)) (handed_quiet f Next (number f.at 0) 0 nothing) (joined_quiet to types f f.names))

    -- the switch of a state calls what its body calls
    switch_less : (f : Frame) (k : ℕ) (body other : Block) (a : ℕ) → in_block join known body ≤ a → in_block join known other ≤ 0 → of_list (state_switch f k body other ∷ []) ≤ a
    switch_less f k body other a h g =
        let inside = in_block join known body in
        let begins : join (join 0 0) inside ≤ a = quiet_left join joins (join 0 0) inside a (two_quiet 0 0 nothing nothing) h in
        one_alone (state_switch f k body other) a
        (quiet_left join joins 0 (join (join (join (join 0 0) inside) 0) (join (in_block join known other) 0)) a nothing
        (quiet_right join joins (join (join (join 0 0) inside) 0) (join (in_block join known other) 0) a (quiet_right join joins (join (join 0 0) inside) 0 a begins nothing) (two_quiet (in_block join known other) 0 g nothing)))

    mutual
      block_less : (b : Block) (to : List ℕ → List ℕ) (types : Types) (d : ℕ) (s : Span) (xs : List (List ℕ)) → in_block join known (lowered_block enums to types d s xs b) ≤ in_block join known b
      block_less (block ds es) to types d s xs =
          quiet_back (lowered_eqns enums to (declaring types ds) d es) (all_kept to s xs (block ds es)) (in_eqns join known es) (eqns_less es to (declaring types ds) d) (all_kept_quiet to s xs (block ds es))

      eqns_less : (es : Eqns) (to : List ℕ → List ℕ) (types : Types) (d : ℕ) → of_list (lowered_eqns enums to types d es) ≤ in_eqns join known es
      eqns_less no_eqn to types d = omega arith
      eqns_less (more_eqns e es) to types d =
          joins.grows (in_eqn join known (lowered_eqn enums to types d e)) (of_list (lowered_eqns enums to types d es)) (in_eqn join known e) (in_eqns join known es) (eqn_less e to types d)
          (eqns_less es to types d)

      eqn_less : (e : Eqn) (to : List ℕ → List ℕ) (types : Types) (d : ℕ) → in_eqn join known (lowered_eqn enums to types d e) ≤ in_eqn join known e
      eqn_less (define s ys e) to types d = renamed_less to e
      eqn_less (switch s e arms) to types d =
          joins.grows (of_expr (renamed to e)) (in_arms join known (lowered_arms enums to types d (once (names_of_arms arms)) arms)) (of_expr e) (in_arms join known arms) (renamed_less to e)
          (arms_less arms to types d (once (names_of_arms arms)))
      eqn_less (reset s b e) to types d = joins.grows (of_expr (renamed to e)) (in_block join known (lowered_block enums to types d s [] b)) (of_expr e) (in_block join known b) (renamed_less to e) (block_less b to types d s [])
      eqn_less (automaton s ss) to types d =
          let f = frame s d ss in
          let inside = of_list (frame_eqns enums to types f ++ lowered_states enums to types f 0 ss) in
          quiet_left join joins 0 inside (in_states join known ss) nothing
          (quiet_front (frame_eqns enums to types f) (lowered_states enums to types f 0 ss) (in_states join known ss) (frame_quiet to types f) (states_less ss to types f 0))

      arms_less : (arms : Arms) (to : List ℕ → List ℕ) (types : Types) (d : ℕ) (xs : List (List ℕ)) → in_arms join known (lowered_arms enums to types d xs arms) ≤ in_arms join known arms
      arms_less no_arm to types d xs = omega arith
      arms_less (more_arms c b at arms) to types d xs =
          joins.grows (in_block join known (lowered_block enums to types d at xs b)) (in_arms join known (lowered_arms enums to types d xs arms)) (in_block join known b) (in_arms join known arms)
          (block_less b to types d at xs) (arms_less arms to types d xs)

      states_less : (ss : States) (to : List ℕ → List ℕ) (types : Types) (f : Frame) (k : ℕ) → of_list (lowered_states enums to types f k ss) ≤ in_states join known ss
      states_less no_state to types f k = omega arith
      states_less (more_states q b until unless at ss) to types f k =
          let body = lowered_body enums to types f k b until in
          let other = idle enums types f k in
          let rest = lowered_states enums to types f (k + 1) ss in
          let a = in_transitions join known unless in
          let c = join (in_transitions join known until) (in_block join known b) in
          both_lists (choosing_eqns to f k unless ++ state_switch f k body other ∷ []) rest (join a c) (in_states join known ss)
          (both_lists (choosing_eqns to f k unless) (state_switch f k body other ∷ []) a c (choosing_less to f k unless) (switch_less f k body other c (body_less b to types f k until) (idle_quiet types f k)))
          (states_less ss to types f (k + 1))

      body_less : (b : Block) (to : List ℕ → List ℕ) (types : Types) (f : Frame) (k : ℕ) (until : List Trans)
          → in_block join known (lowered_body enums to types f k b until) ≤ join (in_transitions join known until) (in_block join known b)
      body_less (block ds es) to types f k until =
          let inside = inner to f k in
          let made = lowered_eqns enums inside (declaring types ds) (f.depth + 1) es in
          let left = all_kept inside f.at f.names (block ds es) in
          both_lists (weak_eqns inside f k until) (made ++ left) (in_transitions join known until) (in_eqns join known es) (weak_less inside f k until)
          (quiet_back made left (in_eqns join known es) (eqns_less es inside (declaring types ds) (f.depth + 1)) (all_kept_quiet inside f.at f.names (block ds es)))

pub lowered_law : LoweredLaw
lowered_law join joins known enums n = block_less join joins known enums n.body same_name (types_of n) 0 n.span []
