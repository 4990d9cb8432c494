-- A part that calls nothing calls nothing without its automata.
use Rattle.std.proofs.Common.{ℕ, ◌+◌, List, [], ◌∷◌, ◌++◌, map}
use Rattle.std.specs.Prelude.{⊤, Bool, true, false, nat_lt, if◌then◌else◌, length, IsTrue, Option, None, Some}
use Rattle.hp_obc.specs.Form.{has_name}
use Rattle.hp_base.specs.declared.span.Span.{Span}
use Rattle.hp_tree.specs.declared.block.Trans.{Trans}
use Rattle.hp_tree.specs.Expressions.{Expr, constant, variable, last_of, one, two, choose, pre, fby, arrow, when_is, merge, call, Parts, no_part, more_parts}
use Rattle.hp_tree.specs.Blocks.{Decl, Block, block, Eqns, no_eqn, more_eqns, Eqn, define, switch, reset, automaton, Arms, no_arm, more_arms, States, no_state, more_states, eqns_of, list_of_eqns}
use Rattle.hp_tree.specs.Programs.{Contract, Node}
use Rattle.hp_tree.specs.Instant.{Equations, Head, Tail, Right as RightOf, Test, Arms as ArmsOf, Body, First, Second, Third, Args}
use Rattle.hp_automata.specs.declared.new_names.Word.{Word}
use Rattle.hp_automata.specs.declared.new_names.Word.TheVariants.{Strong, Weak, Next, From}
use Rattle.hp_automata.specs.NewNames.{state_word, transition_word, value_name}
use Rattle.hp_tables.specs.Defining.Names.{names_of_arms, outer_names}
use Rattle.hp_automata.specs.Names.{is_name, once, missing}
use Rattle.hp_automata.specs.Renaming.{renamed, renamed_parts}
use Rattle.hp_automata.specs.Lowering as lowering
use Rattle.hp_automata.specs.Lowering.{Types, Enumerations, declaring, Frame, inner, number, link, chosen, choices, handed, value_handed, idle_value, idle, joined, pending_of, stays, from_eqn, on_word, state_switch, strong_eqns, choosing_eqns, state_eqns, weak_eqns, own_next, frame_eqns, kept, all_kept, frame, lowered_block, lowered_eqns, lowered_eqn, lowered_arms, lowered_states, lowered_body, same_name, lowered_node, lowered_item}
use Rattle.law_equations.specs.Flattened.Behaves.{EachCall, EachCallOfParts, EachCallIn, EachCallInAll, EachCallInOne, EachCallInArms}
use Rattle.law_equations.specs.Flattened.Flatten.{Prefix, below}
use Rattle.law_equations.specs.Flattened.Lifted.{in_body}
use Rattle.law_drawing.proofs.SteeredLemmas.Uncalled.{CallsNothing, PartsCallNothing, ConditionsCallNothing, BlockCallsNothing, EqnsCallNothing, EqnCallsNothing, ArmsCallNothing, StatesCallNothing, ToldCallsNothing}
use Rattle.hp_watch.specs.Observing.{condition_of, all_handed_on, with_lines, lines_of, observer_of}
use Rattle.law_choices.specs.InTurn.Observed.{CallsNone}

-- ---- equations in a row

abbrev Rows : List Eqn → Type 0
Rows [] = ⊤
Rows (e ∷ es) = EqnCallsNothing e × Rows es

of_rows : (es : List Eqn) → Rows es → EqnsCallNothing (eqns_of es)
of_rows [] h = tt
of_rows (e ∷ es) h = (h.0, of_rows es h.1)

both_rows : (es fs : List Eqn) → Rows es → Rows fs → Rows (es ++ fs)
both_rows [] fs h k = k
both_rows (e ∷ es) fs h k = (h.0, both_rows es fs h.1 k)

behind_eqns : (es : Eqns) (more : List Eqn) → EqnsCallNothing es → Rows more → EqnsCallNothing (eqns_of (list_of_eqns es ++ more))
behind_eqns no_eqn more h k = of_rows more k
behind_eqns (more_eqns e es) more h k = (h.0, behind_eqns es more h.1 k)

-- ---- expressions

module _ (to : List ℕ → List ℕ) where
  mutual
    expr_renamed : (e : Expr) → CallsNothing e → CallsNothing (renamed to e)
    expr_renamed (constant a c) h = tt
    expr_renamed (variable a x) h = tt
    expr_renamed (last_of a x) h = tt
    expr_renamed (one a o d) h = expr_renamed d h
    expr_renamed (two a o d e) h = (expr_renamed d h.0, expr_renamed e h.1)
    expr_renamed (choose a d e f) h = (expr_renamed d h.0, expr_renamed e h.1, expr_renamed f h.2)
    expr_renamed (pre a d) h = expr_renamed d h
    expr_renamed (fby a d e) h = (expr_renamed d h.0, expr_renamed e h.1)
    expr_renamed (arrow a d e) h = (expr_renamed d h.0, expr_renamed e h.1)
    expr_renamed (when_is a d c x) h = expr_renamed d h
    expr_renamed (merge a x ps) h = parts_renamed ps h
    expr_renamed (call a f i es) h = absurd h

    parts_renamed : (ps : Parts) → PartsCallNothing ps → PartsCallNothing (renamed_parts to ps)
    parts_renamed no_part h = tt
    parts_renamed (more_parts c e ps) h = (expr_renamed e h.0, parts_renamed ps h.1)

link_none : (s : Span) (n : ℕ) (named : ℕ → List ℕ) (end : Expr) (k : ℕ) → CallsNothing end → CallsNothing (link s n named end k)
link_none s n named end k h = by (nat_lt k n)
  where
    by : (b : Bool) → CallsNothing (if b then variable s (named k) else end)
    by true = tt
    by false = h

-- ---- the equations of an automaton

kept_rows : (to : List ℕ → List ℕ) (s : Span) (xs : List (List ℕ)) → Rows (map (kept to s) xs)
kept_rows to s [] = tt
kept_rows to s (x ∷ xs) = (tt, kept_rows to s xs)

choice_rows : (to : List ℕ → List ℕ) (f : Frame) (w : Word) (k n : ℕ) (end : Expr) (j : ℕ) (ts : List Trans) → CallsNothing end → ConditionsCallNothing ts → Rows (choices to f w k n end j ts)
choice_rows to f w k n end j [] e h = tt
choice_rows to f w k n end j (t ∷ ts) e h = ((expr_renamed to t.cond h.0, tt, link_none f.at n (transition_word w f.depth k) end (j + 1) e), choice_rows to f w k n end (j + 1) ts e h.1)

weak_rows : (to : List ℕ → List ℕ) (f : Frame) (k : ℕ) (until : List Trans) → ConditionsCallNothing until → Rows (weak_eqns to f k until)
weak_rows to f k until h =
    both_rows (choices to f Weak k (length until) (stays f k) 0 until) (own_next f k Weak (length until) (stays f k) ∷ []) (choice_rows to f Weak k (length until) (stays f k) 0 until tt h)
    (link_none f.at (length until) (transition_word Weak f.depth k) (stays f k) 0 tt, tt)

strong_rows : (to : List ℕ → List ℕ) (f : Frame) (k : ℕ) (unless : List Trans) → ConditionsCallNothing unless → Rows (choosing_eqns to f k unless)
strong_rows to f k unless h =
    both_rows (strong_eqns to f k unless) (on_word f k ∷ [])
    (both_rows (choices to f Strong k (length unless) (pending_of f) 0 unless) (from_eqn f k Strong (length unless) (pending_of f) ∷ []) (choice_rows to f Strong k (length unless) (pending_of f) 0 unless tt h)
    ((((tt, tt), (tt, tt)), link_none f.at (length unless) (transition_word Strong f.depth k) (pending_of f) 0 tt, link_none f.at f.count (state_word From f.depth) (pending_of f) (k + 1) tt), tt))
    (((tt, tt), (tt, tt)), tt)

module _ (enums : Enumerations) where
  value_none : (tys : Types) (f : Frame) (k : ℕ) (x : List ℕ) → CallsNothing (value_handed enums tys f k x)
  value_none tys f k x = link_none f.at f.count (λ m. value_name f.depth m x) (constant f.at (lowering.some_constant enums (lowering.type_of tys x))) k tt

  joined_rows : (to : List ℕ → List ℕ) (tys : Types) (f : Frame) (xs : List (List ℕ)) → Rows (map (joined enums to tys f) xs)
  joined_rows to tys f [] = tt
  joined_rows to tys f (x ∷ xs) = (value_none tys f 0 x, joined_rows to tys f xs)

  idle_rows : (tys : Types) (f : Frame) (k : ℕ) (xs : List (List ℕ)) → Rows (map (idle_value enums tys f k) xs)
  idle_rows tys f k [] = tt
  idle_rows tys f k (x ∷ xs) = (value_none tys f (k + 1) x, idle_rows tys f k xs)

  idle_none : (tys : Types) (f : Frame) (k : ℕ) → BlockCallsNothing (idle enums tys f k)
  idle_none tys f k = (link_none f.at f.count (state_word Next f.depth) (number f.at 0) (k + 1) tt, of_rows (map (idle_value enums tys f k) f.names) (idle_rows tys f k f.names))

  state_rows : (to : List ℕ → List ℕ) (f : Frame) (k : ℕ) (unless : List Trans) (body other : Block) → ConditionsCallNothing unless → BlockCallsNothing body → BlockCallsNothing other → Rows (state_eqns to f k unless body other)
  state_rows to f k unless body other u h o = both_rows (choosing_eqns to f k unless) (state_switch f k body other ∷ []) (strong_rows to f k unless u) ((tt, (((h, (tt, tt)), tt), (o, tt))), tt)

  -- ---- what the parts become

  mutual
    block_low : (to : List ℕ → List ℕ) (tys : Types) (d : ℕ) (s : Span) (xs : List (List ℕ)) (b : Block) → BlockCallsNothing b → BlockCallsNothing (lowered_block enums to tys d s xs b)
    block_low to tys d s xs (block ds es) h =
        of_rows (lowered_eqns enums to (declaring tys ds) d es ++ all_kept to s xs (block ds es))
        (both_rows (lowered_eqns enums to (declaring tys ds) d es) (all_kept to s xs (block ds es)) (eqns_low to (declaring tys ds) d es h) (kept_rows to s (missing (is_name (outer_names (block ds es))) xs)))

    eqns_low : (to : List ℕ → List ℕ) (tys : Types) (d : ℕ) (es : Eqns) → EqnsCallNothing es → Rows (lowered_eqns enums to tys d es)
    eqns_low to tys d no_eqn h = tt
    eqns_low to tys d (more_eqns e es) h = (eqn_low to tys d e h.0, eqns_low to tys d es h.1)

    eqn_low : (to : List ℕ → List ℕ) (tys : Types) (d : ℕ) (e : Eqn) → EqnCallsNothing e → EqnCallsNothing (lowered_eqn enums to tys d e)
    eqn_low to tys d (define s ys e) h = expr_renamed to e h
    eqn_low to tys d (switch s e arms) h = (expr_renamed to e h.0, arms_low to tys d (once (names_of_arms arms)) arms h.1)
    eqn_low to tys d (reset s b e) h = (block_low to tys d s [] b h.0, expr_renamed to e h.1)
    eqn_low to tys d (automaton s ss) h =
        let f = frame s d ss in (
          of_rows (frame_eqns enums to tys f ++ lowered_states enums to tys f 0 ss)
              (both_rows (frame_eqns enums to tys f) (lowered_states enums to tys f 0 ss)
              (link_none f.at f.count (state_word From f.depth) (pending_of f) 0 tt, (link_none f.at f.count (state_word Next f.depth) (number f.at 0) 0 tt, joined_rows to tys f f.names)) (states_low to tys f 0 ss h)),
          tt,
        )

    arms_low : (to : List ℕ → List ℕ) (tys : Types) (d : ℕ) (xs : List (List ℕ)) (arms : Arms) → ArmsCallNothing arms → ArmsCallNothing (lowered_arms enums to tys d xs arms)
    arms_low to tys d xs no_arm h = tt
    arms_low to tys d xs (more_arms c b at arms) h = (block_low to tys d at xs b h.0, arms_low to tys d xs arms h.1)

    states_low : (to : List ℕ → List ℕ) (tys : Types) (f : Frame) (k : ℕ) (ss : States) → StatesCallNothing ss → Rows (lowered_states enums to tys f k ss)
    states_low to tys f k no_state h = tt
    states_low to tys f k (more_states q b until unless at ss) h =
        both_rows (state_eqns to f k unless (lowered_body enums to tys f k b until) (idle enums tys f k)) (lowered_states enums to tys f (k + 1) ss)
        (state_rows to f k unless (lowered_body enums to tys f k b until) (idle enums tys f k) h.2 (body_low to tys f k b until h.0 h.1) (idle_none tys f k)) (states_low to tys f (k + 1) ss h.3)

    body_low : (to : List ℕ → List ℕ) (tys : Types) (f : Frame) (k : ℕ) (b : Block) (until : List Trans) → BlockCallsNothing b → ConditionsCallNothing until → BlockCallsNothing (lowered_body enums to tys f k b until)
    body_low to tys f k (block ds es) until h u =
        let there = inner to f k in
        let own = lowered_eqns enums there (declaring tys ds) (f.depth + 1) es in
        let last = all_kept there f.at f.names (block ds es) in
        of_rows (weak_eqns there f k until ++ (own ++ last))
        (both_rows (weak_eqns there f k until) (own ++ last) (weak_rows there f k until u)
        (both_rows own last (eqns_low there (declaring tys ds) (f.depth + 1) es h) (kept_rows there f.at (missing (is_name (outer_names (block ds es))) f.names))))

  pub node_low : (n : Node) → BlockCallsNothing n.body → BlockCallsNothing (lowered_node enums n).body
  node_low n h = block_low same_name (lowering.types_of n) 0 n.span [] n.body h

-- ---- each call

module _ (P : List ℕ → Prefix → Type 0) where
  mutual
    no_call : (e : Expr) (here : Prefix) → CallsNothing e → EachCall P e here
    no_call (constant s c) here h = tt
    no_call (variable s x) here h = tt
    no_call (last_of s x) here h = tt
    no_call (one s o a) here h = no_call a (below First here) h
    no_call (two s o a b) here h = (no_call a (below First here) h.0, no_call b (below Second here) h.1)
    no_call (choose s a b c) here h = (no_call a (below First here) h.0, no_call b (below Second here) h.1, no_call c (below Third here) h.2)
    no_call (pre s a) here h = no_call a (below First here) h
    no_call (fby s a b) here h = (no_call a (below First here) h.0, no_call b (below Second here) h.1)
    no_call (arrow s a b) here h = (no_call a (below First here) h.0, no_call b (below Second here) h.1)
    no_call (when_is s a c x) here h = no_call a (below First here) h
    no_call (merge s x ps) here h = no_call_of ps (below Args here) h
    no_call (call s f i es) here h = absurd h

    no_call_of : (ps : Parts) (here : Prefix) → PartsCallNothing ps → EachCallOfParts P ps here
    no_call_of no_part here h = tt
    no_call_of (more_parts c e ps) here h = (no_call e (below Head here) h.0, no_call_of ps (below Tail here) h.1)

  mutual
    none_in : (b : Block) (here : Prefix) → BlockCallsNothing b → EachCallIn P b here
    none_in (block ds es) here h = none_in_all es (below Equations here) h

    none_in_all : (es : Eqns) (here : Prefix) → EqnsCallNothing es → EachCallInAll P es here
    none_in_all no_eqn here h = tt
    none_in_all (more_eqns e es) here h = (none_in_one e (below Head here) h.0, none_in_all es (below Tail here) h.1)

    none_in_one : (e : Eqn) (here : Prefix) → EqnCallsNothing e → EachCallInOne P e here
    none_in_one (define s ys e) here h = no_call e (below RightOf here) h
    none_in_one (switch s e arms) here h = (no_call e (below Test here) h.0, none_in_arms arms (below ArmsOf here) h.1)
    none_in_one (reset s b e) here h = (no_call e (below Test here) h.1, none_in b (below Body here) h.0)
    none_in_one (automaton s ss) here h = tt

    none_in_arms : (arms : Arms) (here : Prefix) → ArmsCallNothing arms → EachCallInArms P arms here
    none_in_arms no_arm here h = tt
    none_in_arms (more_arms c b s arms) here h = (none_in b (below Head here) h.0, none_in_arms arms (below Tail here) h.1)

-- ---- observers

handed_rows : (i : ℕ) (ds : List Decl) → Rows (all_handed_on i ds)
handed_rows i [] = tt
handed_rows i (d ∷ ds) = (tt, handed_rows (i + 1) ds)

told_none : (o : Option Expr) (s : Span) → ToldCallsNothing o → CallsNothing (condition_of o s)
told_none None s h = tt
told_none (Some e) s h = h

lines_none : (b : Block) (more : List Decl) (lines : List Eqn) → BlockCallsNothing b → Rows lines → BlockCallsNothing (with_lines b more lines)
lines_none (block ds es) more lines h k = behind_eqns es lines h k

-- the observer of a contract that calls nothing calls nothing without automata
pub observer_alone : (enums : Enumerations) (n : Node) (c : Contract) → BlockCallsNothing c.body × ToldCallsNothing c.assume × ToldCallsNothing c.enforce → BlockCallsNothing (lowered_node enums (observer_of n c)).body
observer_alone enums n c h = node_low enums (observer_of n c) (lines_none c.body n.outputs (lines_of n c) h.0 (told_none c.assume c.span h.1, (told_none c.enforce c.span h.2, handed_rows 0 n.outputs)))

pub observer_none : (enums : Enumerations) (n : Node) (c : Contract) → BlockCallsNothing c.body × ToldCallsNothing c.assume × ToldCallsNothing c.enforce → CallsNone (lowered_node enums (observer_of n c))
observer_none enums n c h = none_in (λ f here. IsTrue (has_name [] f)) (lowered_node enums (observer_of n c)).body in_body (observer_alone enums n c h)
