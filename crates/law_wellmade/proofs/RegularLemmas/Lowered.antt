-- Where automata are removed, integers are still of 32 bits: new ones are numbers of states.
use Rattle.std.proofs.Common.{arith, ℕ, suc, ◌+◌, ◌<◌, List, [], ◌∷◌, ◌++◌, map}
use Rattle.std.specs.Prelude.{⊤, Bool, true, false, nat_lt, if◌then◌else◌, length}
use Rattle.std.specs.Str.{bytes_eq}
use Rattle.hp_base.specs.declared.span.Span.{Span}
use Rattle.hp_base.specs.declared.ty.Ty.{Ty}
use Rattle.hp_base.specs.declared.ty.Ty.TheVariants as ty
use Rattle.hp_tree.specs.declared.block.Trans.{Trans}
use Rattle.hp_tree.specs.declared.program.Item.{Item}
use Rattle.hp_tree.specs.declared.program.Item.TheVariants.{TypeItem, NodeItem}
use Rattle.hp_tree.specs.Expressions.{Expr, constant, variable, last_of, one, two, choose, pre, fby, arrow, when_is, merge, call, Exprs, no_expr, more_exprs, Parts, no_part, more_parts}
use Rattle.hp_tree.specs.Blocks.{Decl, Block, block, Eqns, no_eqn, more_eqns, Eqn, define, switch, reset, automaton, Arms, no_arm, more_arms, States, no_state, more_states, eqns_of}
use Rattle.hp_tree.specs.Programs.{Node}
use Rattle.hp_tree.specs.Meaning.{number_of}
use Rattle.law_judged.specs.Named.Scoped.{EachNode}
use Rattle.hp_automata.specs.declared.new_names.Word.{Word}
use Rattle.hp_automata.specs.declared.new_names.Word.TheVariants.{Strong, Weak, Next, From}
use Rattle.hp_automata.specs.NewNames.{state_word, transition_word, value_name}
use Rattle.hp_tables.specs.Defining.Names.{names_of_arms, outer_names}
use Rattle.hp_automata.specs.Names.{is_name, once, missing}
use Rattle.hp_automata.specs.Renaming.{renamed, renamed_exprs, renamed_parts, renamed_decls}
use Rattle.hp_automata.specs.Lowering as lowering
use Rattle.hp_automata.specs.Lowering.{Types, Enumerations, declaring, type_of, Frame, inner, number, code, goes_to, link, some_constant, transition_locals, chosen, choice, choices, value_local, state_words, state_locals, locals_from, frame_words, frame_locals, handed, value_handed, idle_next, idle_value, idle, joined, jump_of, pending_of, stays, from_eqn, on_word, afresh, state_switch, strong_eqns, choosing_eqns, state_eqns, weak_eqns, own_next, frame_eqns, kept, all_kept, count_of, frame, lowered_block, lowered_eqns, lowered_eqn, lowered_arms, lowered_states, lowered_body, same_name, lowered_node, lowered_item}
use Rattle.law_automata.specs.Lowered.Removable.{Known, BlockOk, EqnsOk, EqnOk, ArmsOk, StatesOk, NodeOk, IsRemovable, and_defined, none_known}
use Rattle.law_wellmade.specs.Spelled.Integers.{ConstShort, ExprShort, ExprsShort, PartsShort, LastsShort, TestsShort, BlockShort, EqnsShort, EqnShort, ArmsShort, StatesShort, NodeShort}

abbrev Rows : List Eqn → Type 0
Rows [] = ⊤
Rows (e ∷ es) = EqnShort e × Rows es

both_lasts : (ds es : List Decl) → LastsShort ds → LastsShort es → LastsShort (ds ++ es)
both_lasts [] es h k = k
both_lasts (d ∷ ds) es h k = (h.0, both_lasts ds es h.1 k)

of_rows : (es : List Eqn) → Rows es → EqnsShort (eqns_of es)
of_rows [] h = tt
of_rows (e ∷ es) h = (h.0, of_rows es h.1)

both_rows : (es fs : List Eqn) → Rows es → Rows fs → Rows (es ++ fs)
both_rows [] fs h k = k
both_rows (e ∷ es) fs h k = (h.0, both_rows es fs h.1 k)

lasts_renamed : (to : List ℕ → List ℕ) (ds : List Decl) → LastsShort ds → LastsShort (renamed_decls to ds)
lasts_renamed to [] h = tt
lasts_renamed to (d ∷ ds) h = (h.0, lasts_renamed to ds h.1)

module _ (to : List ℕ → List ℕ) where
  mutual
    expr_renamed : (e : Expr) → ExprShort e → ExprShort (renamed to e)
    expr_renamed (constant a c) h = h
    expr_renamed (variable a x) h = tt
    expr_renamed (last_of a x) h = tt
    expr_renamed (one a o d) h = expr_renamed d h
    expr_renamed (two a o d e) h = (expr_renamed d h.0, expr_renamed e h.1)
    expr_renamed (choose a d e f) h = (expr_renamed d h.0, (expr_renamed e h.1.0, expr_renamed f h.1.1))
    expr_renamed (pre a d) h = expr_renamed d h
    expr_renamed (fby a d e) h = (expr_renamed d h.0, expr_renamed e h.1)
    expr_renamed (arrow a d e) h = (expr_renamed d h.0, expr_renamed e h.1)
    expr_renamed (when_is a d c x) h = expr_renamed d h
    expr_renamed (merge a x ps) h = parts_renamed ps h
    expr_renamed (call a f i es) h = exprs_renamed es h

    exprs_renamed : (es : Exprs) → ExprsShort es → ExprsShort (renamed_exprs to es)
    exprs_renamed no_expr h = tt
    exprs_renamed (more_exprs e es) h = (expr_renamed e h.0, exprs_renamed es h.1)

    parts_renamed : (ps : Parts) → PartsShort ps → PartsShort (renamed_parts to ps)
    parts_renamed no_part h = tt
    parts_renamed (more_parts c e ps) h = (expr_renamed e h.0, parts_renamed ps h.1)

-- ---- numbers of states

number_short : (s : Span) (n : ℕ) → n < 2147483648 → ExprShort (number s n)
number_short s n h = record { sfits = omega (arith, h) }

number_low : (k : ℕ) (ss : States) (x : List ℕ) → k + count_of ss < 1000000 → number_of k ss x < 1000000
number_low k no_state x h = omega arith
number_low k (more_states q b until unless at ss) x h = by (bytes_eq q x) (number_low (suc k) ss x (omega (arith, h)))
  where
    by : (c : Bool) → number_of (suc k) ss x < 1000000 → (if c then k else number_of (suc k) ss x) < 1000000
    by true g = omega (arith, h)
    by false g = g

-- a frame whose numbers are low
pub record FrameLow (f : Frame) : Type 0 where
  pub target : (x : List ℕ) → f.target x < 1000000

code_low : (k : ℕ) (b : Bool) → k < 1000000 → code k b < 2147483648
code_low k true h = omega (arith, h)
code_low k false h = omega (arith, h)

goes_short : (s : Span) (e : Expr) (k : ℕ) → k < 1000000 → ExprShort e → ExprShort (goes_to s e k)
goes_short s e k h i = ((i, number_short s (code k false) (code_low k false h)), (i, number_short s (code k true) (code_low k true h)))

link_short : (s : Span) (n : ℕ) (named : ℕ → List ℕ) (end : Expr) (k : ℕ) → ExprShort end → ExprShort (link s n named end k)
link_short s n named end k h = by (nat_lt k n)
  where
    by : (b : Bool) → ExprShort (if b then variable s (named k) else end)
    by true = tt
    by false = h

chosen_short : (f : Frame) (w : Word) (k n : ℕ) (end : Expr) (j : ℕ) → ExprShort end → ExprShort (chosen f w k n end j)
chosen_short f w k n end j h = link_short f.at n (transition_word w f.depth k) end j h

handed_short : (f : Frame) (w : Word) (end : Expr) (k : ℕ) → ExprShort end → ExprShort (handed f w end k)
handed_short f w end k h = link_short f.at f.count (state_word w f.depth) end k h

some_short : (enums : Enumerations) (t : Ty) → ConstShort (some_constant enums t)
some_short enums ty.Bool = tt
some_short enums ty.Int = record { sfits = omega arith }
some_short enums (ty.Enum t) = tt

-- ---- the words of an automaton

transition_words : (f : Frame) (w : Word) (k j : ℕ) (ts : List Trans) → LastsShort (transition_locals f w k j ts)
transition_words f w k j [] = tt
transition_words f w k j (t ∷ ts) = (tt, transition_words f w k (j + 1) ts)

value_words : (tys : Types) (f : Frame) (k : ℕ) (xs : List (List ℕ)) → LastsShort (map (value_local tys f k) xs)
value_words tys f k [] = tt
value_words tys f k (x ∷ xs) = (tt, value_words tys f k xs)

words_of_state : (tys : Types) (f : Frame) (k : ℕ) (unless : List Trans) → LastsShort (state_locals tys f k unless)
words_of_state tys f k unless =
    (tt, (tt, (tt, both_lasts (transition_locals f Strong k 0 unless) (map (value_local tys f k) f.names) (transition_words f Strong k 0 unless) (value_words tys f k f.names))))

words_from : (tys : Types) (f : Frame) (k : ℕ) (ss : States) → LastsShort (locals_from tys f k ss)
words_from tys f k no_state = tt
words_from tys f k (more_states q b until unless at ss) = both_lasts (state_locals tys f k unless) (locals_from tys f (k + 1) ss) (words_of_state tys f k unless) (words_from tys f (k + 1) ss)

words_of_frame : (tys : Types) (f : Frame) (ss : States) → LastsShort (frame_locals tys f ss)
words_of_frame tys f ss = (record { sfits = omega arith }, (tt, words_from tys f 0 ss))

-- ---- equations that define one name each

kept_rows : (to : List ℕ → List ℕ) (s : Span) (xs : List (List ℕ)) → Rows (map (kept to s) xs)
kept_rows to s [] = tt
kept_rows to s (x ∷ xs) = (tt, kept_rows to s xs)

choice_rows : (to : List ℕ → List ℕ) (f : Frame) (low : FrameLow f) (w : Word) (k n : ℕ) (end : Expr) (j : ℕ) (ts : List Trans) → ExprShort end → TestsShort ts → Rows (choices to f w k n end j ts)
choice_rows to f low w k n end j [] e h = tt
choice_rows to f low w k n end j (t ∷ ts) e h = (
  (expr_renamed to t.cond h.0, (number_short f.at (code (f.target t.target) t.restart) (code_low (f.target t.target) t.restart (low.target t.target)), chosen_short f w k n end (j + 1) e)),
  choice_rows to f low w k n end (j + 1) ts e h.1,
)

weak_rows : (to : List ℕ → List ℕ) (f : Frame) (low : FrameLow f) (k : ℕ) (until : List Trans) → k < 1000000 → TestsShort until → Rows (weak_eqns to f k until)
weak_rows to f low k until l h =
    let stay : ExprShort (stays f k) = number_short f.at (code k false) (code_low k false l) in
    both_rows (choices to f Weak k (length until) (stays f k) 0 until) (own_next f k Weak (length until) (stays f k) ∷ []) (choice_rows to f low Weak k (length until) (stays f k) 0 until stay h)
    (chosen_short f Weak k (length until) (stays f k) 0 stay, tt)

strong_rows : (to : List ℕ → List ℕ) (f : Frame) (low : FrameLow f) (k : ℕ) (unless : List Trans) → k < 1000000 → TestsShort unless → Rows (choosing_eqns to f k unless)
strong_rows to f low k unless l h =
    both_rows (strong_eqns to f k unless) (on_word f k ∷ [])
    (both_rows (choices to f Strong k (length unless) (pending_of f) 0 unless) (from_eqn f k Strong (length unless) (pending_of f) ∷ []) (choice_rows to f low Strong k (length unless) (pending_of f) 0 unless tt h)
    ((goes_short f.at (pending_of f) k l tt, (chosen_short f Strong k (length unless) (pending_of f) 0 tt, handed_short f From (pending_of f) (k + 1) tt)), tt))
    (goes_short f.at (jump_of f) k l tt, tt)

module _ (enums : Enumerations) where
  joined_rows : (to : List ℕ → List ℕ) (tys : Types) (f : Frame) (xs : List (List ℕ)) → Rows (map (joined enums to tys f) xs)
  joined_rows to tys f [] = tt
  joined_rows to tys f (x ∷ xs) = (link_short f.at f.count (λ m. value_name f.depth m x) (constant f.at (some_constant enums (type_of tys x))) 0 (some_short enums (type_of tys x)), joined_rows to tys f xs)

  idle_rows : (tys : Types) (f : Frame) (k : ℕ) (xs : List (List ℕ)) → Rows (map (idle_value enums tys f k) xs)
  idle_rows tys f k [] = tt
  idle_rows tys f k (x ∷ xs) = (link_short f.at f.count (λ m. value_name f.depth m x) (constant f.at (some_constant enums (type_of tys x))) (k + 1) (some_short enums (type_of tys x)), idle_rows tys f k xs)

  zero_short : (s : Span) → ExprShort (number s 0)
  zero_short s = record { sfits = omega arith }

  idle_short : (tys : Types) (f : Frame) (k : ℕ) → BlockShort (idle enums tys f k)
  idle_short tys f k = (tt, (handed_short f Next (number f.at 0) (k + 1) (zero_short f.at), of_rows (map (idle_value enums tys f k) f.names) (idle_rows tys f k f.names)))

  state_rows : (to : List ℕ → List ℕ) (f : Frame) (low : FrameLow f) (k : ℕ) (unless : List Trans) (body other : Block) → k < 1000000 → TestsShort unless → BlockShort body → BlockShort other → Rows (state_eqns to f k unless body other)
  state_rows to f low k unless body other l t h o =
      both_rows (choosing_eqns to f k unless) (state_switch f k body other ∷ []) (strong_rows to f low k unless l t)
      ((tt, ((tt, (((tt, number_short f.at (code k true) (code_low k true l)), h), tt)), (o, tt))), tt)

  -- ---- what the parts become

  mutual
    block_low : (to : List ℕ → List ℕ) (tys : Types) (d : ℕ) (s : Span) (xs : List (List ℕ)) (b : Block) (outer : Known) (e : ℕ) → BlockOk outer e b → BlockShort b → BlockShort (lowered_block enums to tys d s xs b)
    block_low to tys d s xs (block ds es) outer e ok h = (
      lasts_renamed to ds h.0,
      of_rows (lowered_eqns enums to (declaring tys ds) d es ++ all_kept to s xs (block ds es))
          (both_rows (lowered_eqns enums to (declaring tys ds) d es) (all_kept to s xs (block ds es)) (eqns_low to (declaring tys ds) d es outer e ok.1 h.1)
          (kept_rows to s (missing (is_name (outer_names (block ds es))) xs))),
    )

    eqns_low : (to : List ℕ → List ℕ) (tys : Types) (d : ℕ) (es : Eqns) (outer : Known) (e : ℕ) → EqnsOk outer e es → EqnsShort es → Rows (lowered_eqns enums to tys d es)
    eqns_low to tys d no_eqn outer e ok h = tt
    eqns_low to tys d (more_eqns q es) outer e ok h = (eqn_low to tys d q outer e ok.1 h.0, eqns_low to tys d es outer e ok.2 h.1)

    eqn_low : (to : List ℕ → List ℕ) (tys : Types) (d : ℕ) (q : Eqn) (outer : Known) (e : ℕ) → EqnOk outer e q → EqnShort q → EqnShort (lowered_eqn enums to tys d q)
    eqn_low to tys d (define s ys a) outer e ok h = expr_renamed to a h
    eqn_low to tys d (switch s a arms) outer e ok h = (expr_renamed to a h.0, arms_low to tys d (once (names_of_arms arms)) arms (and_defined (switch s a arms) outer) e ok.1 h.1)
    eqn_low to tys d (reset s b a) outer e ok h = (expr_renamed to a h.0, block_low to tys d s [] b (and_defined (reset s b a) outer) e ok.1 h.1)
    eqn_low to tys d (automaton s ss) outer e ok h =
        let f = frame s d ss in
        let l : count_of ss < 999999 = ok.2 in
        let count : 0 + count_of ss < 1000000 = omega (arith, l) in
        let low : FrameLow f = record { target = λ x. number_low 0 ss x count } in (
          tt,
          (
            words_of_frame tys f ss,
            of_rows (frame_eqns enums to tys f ++ lowered_states enums to tys f 0 ss)
                (both_rows (frame_eqns enums to tys f) (lowered_states enums to tys f 0 ss)
                (handed_short f From (pending_of f) 0 tt, (handed_short f Next (number f.at 0) 0 (zero_short f.at), joined_rows to tys f f.names))
                (states_low to tys f low 0 ss ss (and_defined (automaton s ss) outer) (e + 1) count ok.3 h)),
          ),
        )

    arms_low : (to : List ℕ → List ℕ) (tys : Types) (d : ℕ) (xs : List (List ℕ)) (arms : Arms) (outer : Known) (e : ℕ) → ArmsOk outer e arms → ArmsShort arms → ArmsShort (lowered_arms enums to tys d xs arms)
    arms_low to tys d xs no_arm outer e ok h = tt
    arms_low to tys d xs (more_arms c b at arms) outer e ok h = (block_low to tys d at xs b outer e ok.0 h.0, arms_low to tys d xs arms outer e ok.1 h.1)

    states_low : (to : List ℕ → List ℕ) (tys : Types) (f : Frame) (low : FrameLow f) (k : ℕ) (ss all : States) (outer : Known) (e : ℕ) → k + count_of ss < 1000000 → StatesOk all outer e ss → StatesShort ss → Rows (lowered_states enums to tys f k ss)
    states_low to tys f low k no_state all outer e l ok h = tt
    states_low to tys f low k (more_states q b until unless at ss) all outer e l ok h =
        let here : k < 1000000 = omega (arith, l) in
        let rest : k + 1 + count_of ss < 1000000 = omega (arith, l) in
        both_rows (state_eqns to f k unless (lowered_body enums to tys f k b until) (idle enums tys f k)) (lowered_states enums to tys f (k + 1) ss)
        (state_rows to f low k unless (lowered_body enums to tys f k b until) (idle enums tys f k) here h.0.1.1 (body_low to tys f low k b until outer e here ok.0.0 h.0.0 h.0.1.0) (idle_short tys f k))
        (states_low to tys f low (k + 1) ss all outer e rest ok.1 h.1)

    body_low : (to : List ℕ → List ℕ) (tys : Types) (f : Frame) (low : FrameLow f) (k : ℕ) (b : Block) (until : List Trans) (outer : Known) (e : ℕ) → k < 1000000 → BlockOk outer e b → BlockShort b → TestsShort until
        → BlockShort (lowered_body enums to tys f k b until)
    body_low to tys f low k (block ds es) until outer e l ok h t =
        let there = inner to f k in
        let own = lowered_eqns enums there (declaring tys ds) (f.depth + 1) es in
        let last = all_kept there f.at f.names (block ds es) in (
          both_lasts (renamed_decls there ds) (transition_locals f Weak k 0 until) (lasts_renamed there ds h.0) (transition_words f Weak k 0 until),
          of_rows (weak_eqns there f k until ++ (own ++ last))
              (both_rows (weak_eqns there f k until) (own ++ last) (weak_rows there f low k until l t)
              (both_rows own last (eqns_low there (declaring tys ds) (f.depth + 1) es outer e ok.1 h.1) (kept_rows there f.at (missing (is_name (outer_names (block ds es))) f.names)))),
        )

  node_low : (n : Node) → NodeOk n → NodeShort n → NodeShort (lowered_node enums n)
  node_low n ok h = (h.0, block_low same_name (lowering.types_of n) 0 n.span [] n.body none_known 0 ok.body h.1)

  pub program_low : (items : List Item) → IsRemovable items → EachNode NodeShort items → EachNode NodeShort (map (lowered_item enums) items)
  program_low [] ok h = tt
  program_low (TypeItem t ∷ items) ok h = program_low items ok h
  program_low (NodeItem n ∷ items) ok h = (node_low n ok.0 h.0, program_low items ok.1 h.1)
