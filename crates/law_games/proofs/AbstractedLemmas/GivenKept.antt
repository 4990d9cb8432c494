-- What is given to wires, which begin with registers in shape, fits the abstraction too: with Nil at each `pre` without a past, and with what its register holds at the start.
use Rattle.std.proofs.Common.{◌≡◌, ℕ, List, [], ◌∷◌, refl, sym, subst}
use Rattle.std.specs.Prelude.{Bool, true, false, if◌then◌else◌, Option, None, Some}
use Rattle.std.specs.Str.{bytes_eq}
use Rattle.hp_base.specs.declared.ty.Ty.{Ty}
use Rattle.hp_base.specs.declared.value.Value.{Value}
use Rattle.hp_base.specs.declared.value.Value.TheVariants.{Nil}
use Rattle.hp_tree.specs.declared.block.Trans.{Trans}
use Rattle.hp_tree.specs.declared.program.Item.{Item}
use Rattle.hp_tree.specs.declared.program.Item.TheVariants.{TypeItem, NodeItem}
use Rattle.hp_tree.specs.Expressions.{Expr, constant, variable, last_of, one, two, choose, pre, fby, arrow, when_is, merge, call, Exprs, no_expr, more_exprs, Parts, no_part, more_parts}
use Rattle.hp_tree.specs.Blocks.{Decl, Block, block, Eqns, no_eqn, more_eqns, Eqn, define, switch, reset, automaton, Arms, no_arm, more_arms, States, no_state, more_states}
use Rattle.hp_tree.specs.Programs.{TypeDecl, Contract, Node}
use Rattle.hp_tree.specs.Instant.{Controls, Body, Observer, Assume, Enforce, Equations, Head, Tail, Right, Test, Arms as ArmsOf, States as StatesOf, Until, Unless, First, Second, Third, Args, Instance, Instant, part, top}
use Rattle.hp_tree.specs.Meaning.{controls_of, node_among}
use Rattle.hp_typing.specs.Scopes.{with_variables, inside, inside_node}
use Rattle.hp_typing.specs.Types.{type_of}
use Rattle.law_judged.specs.Typed.Scopes.{Scope}
use Rattle.law_values.specs.Valued.Judged.{body_scope}
use Rattle.law_values.specs.Valued.Values.{scope_behind, either_of}
use Rattle.law_values.proofs.FilledLemmas.FirstsFit.{as_given}
use Rattle.law_games.specs.Wires.Wired.{Callees, Fills, FillsAll, FillsParts}
use Rattle.law_games.specs.Wires.WiredBlocks.{FillsConditions, FillsBlock, FillsEquations, FillsEquation, FillsArms, FillsStates}
use Rattle.law_games.specs.Wires.WiredNodes.{FillsTold, FillsObserver, FillsNode}
use Rattle.law_games.specs.Wires.WiredCallees.{no_callees, FillsBy, callee_wires}
use Rattle.law_games.specs.Wiretyped.Typed.{HasWire}
use Rattle.law_games.specs.Wiretyped.Kept as kept
use Rattle.law_games.specs.Wiretyped.Kept.{RowGiven, ExprKept, ExprsKept, PartsKept, TestsKept, BlockKept, EqnsKept, EqnKept, ArmsKept, StatesKept, ToldKept, ContractKept}
use Rattle.law_games.specs.Wiretyped.Callees as callees
use Rattle.law_games.specs.Wiretyped.Callees.{none_kept, OwnKept, AloneKept, CalleeKept, AloneGiven, CalleeGiven}
use Rattle.law_games.specs.Wiretyped.Laws.{InShape, GivenFits}
use Rattle.law_games.specs.Abstracted.Given.{UndefinedFits, ExprGiven, ExprsGiven, PartsGiven, TestsGiven, BlockGiven, EqnsGiven, EqnGiven, ArmsGiven, StatesGiven, ToldGiven, ContractGiven, ControlsGiven}
use Rattle.law_games.specs.Abstracted.Instances.{any_given, InstanceGiven, CalledGiven, AbstractGiven}
use Rattle.law_games.proofs.AbstractedLemmas.Laws.{value_of}

abbrev nil : Value → Value
nil given = Nil

-- `U` says that what is given at a `pre` fits, where it is what a register of the type holds.
module _ (types : List TypeDecl) (nils : Bool) (u : Value → Value) (fits : (c : List ℕ → Instant → Type 0) (o : Option Ty) (v w : Value) → v ≡ w → HasWire types o w → UndefinedFits types nils u c o v) where
  module _ (C : Callees) (shaped : List ℕ → Instant → Instant → Type 0) (one_given two_given : List ℕ → Instant → Type 0)
      (instances : (f : List ℕ) (start mem i : Instant) → shaped f start mem → C.fills f start i → one_given f i → two_given f i) where
    module _ (s : Scope) where
      mutual
        expr_given : (e : Expr) (start mem i : Instant) → ExprKept types shaped s e start mem → Fills types C e start i → kept.ExprGiven types one_given s e i → ExprGiven types nils u two_given s e i
        expr_given (constant at c) start mem i k f g = tt
        expr_given (variable at x) start mem i k f g = tt
        expr_given (last_of at x) start mem i k f g = tt
        expr_given (one at o a) start mem i k f g = expr_given a (part First start) (part First mem) (part First i) k f g
        expr_given (two at o a b) start mem i k f g =
            (g.0, (expr_given a (part First start) (part First mem) (part First i) k.0 f.0 g.1.0, expr_given b (part Second start) (part Second mem) (part Second i) k.1 f.1 g.1.1))
        expr_given (choose at a b c) start mem i k f g = (
          expr_given a (part First start) (part First mem) (part First i) k.0 f.0 g.0,
          (expr_given b (part Second start) (part Second mem) (part Second i) k.1.0 f.1 g.1.0, expr_given c (part Third start) (part Third mem) (part Third i) k.1.1 f.2 g.1.1),
        )
        expr_given (pre at a) start mem i k f g = (fits two_given (type_of s a) (top i) (top start) f.0 k.0, expr_given a (part First start) (part First mem) (part First i) k.1.1 f.1 g)
        expr_given (fby at a b) start mem i k f g =
            (expr_given a (part First start) (part First mem) (part First i) k.1.1.1.0 f.0 g.0, expr_given b (part Second start) (part Second mem) (part Second i) k.1.1.1.1 f.1 g.1)
        expr_given (arrow at a b) start mem i k f g =
            (expr_given a (part First start) (part First mem) (part First i) k.1.0 f.0 g.0, expr_given b (part Second start) (part Second mem) (part Second i) k.1.1 f.1 g.1)
        expr_given (when_is at a c x) start mem i k f g = expr_given a (part First start) (part First mem) (part First i) k f g
        expr_given (merge at x ps) start mem i k f g = parts_given ps (part Args start) (part Args mem) (part Args i) k f g
        expr_given (call at h inlined es) start mem i k f g =
            (exprs_given es (part Args start) (part Args mem) (part Args i) k.0 f.0 g.0, instances h (part Instance start) (part Instance mem) (part Instance i) k.1 f.1 g.1)

        exprs_given : (es : Exprs) (start mem i : Instant) → ExprsKept types shaped s es start mem → FillsAll types C es start i → kept.ExprsGiven types one_given s es i → ExprsGiven types nils u two_given s es i
        exprs_given no_expr start mem i k f g = tt
        exprs_given (more_exprs e es) start mem i k f g =
            (expr_given e (part Head start) (part Head mem) (part Head i) k.0 f.0 g.0, exprs_given es (part Tail start) (part Tail mem) (part Tail i) k.1 f.1 g.1)

        parts_given : (ps : Parts) (start mem i : Instant) → PartsKept types shaped s ps start mem → FillsParts types C ps start i → kept.PartsGiven types one_given s ps i → PartsGiven types nils u two_given s ps i
        parts_given no_part start mem i k f g = tt
        parts_given (more_parts c e ps) start mem i k f g =
            (expr_given e (part Head start) (part Head mem) (part Head i) k.0 f.0 g.0, parts_given ps (part Tail start) (part Tail mem) (part Tail i) k.1 f.1 g.1)

      tests_given : (ts : List Trans) (start mem i : Instant) → TestsKept types shaped s ts start mem → FillsConditions types C ts start i → kept.TestsGiven types one_given s ts i → TestsGiven types nils u two_given s ts i
      tests_given [] start mem i k f g = tt
      tests_given (t ∷ ts) start mem i k f g =
          (expr_given t.cond (part Head start) (part Head mem) (part Head i) k.0 f.0 g.0, tests_given ts (part Tail start) (part Tail mem) (part Tail i) k.1 f.1 g.1)

    mutual
      block_given : (b : Block) (s : Scope) (start mem i : Instant) → BlockKept types shaped s b start mem → FillsBlock types C b start i → kept.BlockGiven types one_given s b i → BlockGiven types nils u two_given s b i
      block_given (block ds es) s start mem i k f g = eqns_given es (with_variables s ds) (part Equations start) (part Equations mem) (part Equations i) k.1 f g

      eqns_given : (es : Eqns) (s : Scope) (start mem i : Instant) → EqnsKept types shaped s es start mem → FillsEquations types C es start i → kept.EqnsGiven types one_given s es i → EqnsGiven types nils u two_given s es i
      eqns_given no_eqn s start mem i k f g = tt
      eqns_given (more_eqns e es) s start mem i k f g =
          (eqn_given e s (part Head start) (part Head mem) (part Head i) k.0 f.0 g.0, eqns_given es s (part Tail start) (part Tail mem) (part Tail i) k.1 f.1 g.1)

      eqn_given : (e : Eqn) (s : Scope) (start mem i : Instant) → EqnKept types shaped s e start mem → FillsEquation types C e start i → kept.EqnGiven types one_given s e i → EqnGiven types nils u two_given s e i
      eqn_given (define at ys e) s start mem i k f g = expr_given s e (part Right start) (part Right mem) (part Right i) k f g
      eqn_given (switch at e arms) s start mem i k f g =
          (expr_given s e (part Test start) (part Test mem) (part Test i) k.0 f.0 g.0, arms_given arms s (part ArmsOf start) (part ArmsOf mem) (part ArmsOf i) k.1 f.1 g.1)
      eqn_given (reset at b e) s start mem i k f g =
          (expr_given s e (part Test start) (part Test mem) (part Test i) k.0 f.0 g.0, block_given b s (part Body start) (part Body mem) (part Body i) k.1 f.1 g.1)
      eqn_given (automaton at ss) s start mem i k f g = states_given ss s (part StatesOf start) (part StatesOf mem) (part StatesOf i) k.1.1 f g

      arms_given : (arms : Arms) (s : Scope) (start mem i : Instant) → ArmsKept types shaped s arms start mem → FillsArms types C arms start i → kept.ArmsGiven types one_given s arms i → ArmsGiven types nils u two_given s arms i
      arms_given no_arm s start mem i k f g = tt
      arms_given (more_arms c b at arms) s start mem i k f g =
          (block_given b s (part Head start) (part Head mem) (part Head i) k.0 f.0 g.0, arms_given arms s (part Tail start) (part Tail mem) (part Tail i) k.1 f.1 g.1)

      states_given : (ss : States) (s : Scope) (start mem i : Instant) → StatesKept types shaped s ss start mem → FillsStates types C ss start i → kept.StatesGiven types one_given s ss i → StatesGiven types nils u two_given s ss i
      states_given no_state s start mem i k f g = tt
      states_given (more_states h b until unless at ss) s start mem i k f g = (
        block_given b s (part Body (part Head start)) (part Body (part Head mem)) (part Body (part Head i)) k.0 f.0 g.0,
        (
          tests_given (inside s b) until (part Until (part Head start)) (part Until (part Head mem)) (part Until (part Head i)) k.1.0 f.1 g.1.0,
          (
            tests_given s unless (part Unless (part Head start)) (part Unless (part Head mem)) (part Unless (part Head i)) k.1.1.0 f.2 g.1.1.0,
            states_given ss s (part Tail start) (part Tail mem) (part Tail i) k.1.1.1 f.3 g.1.1.1,
          ),
        ),
      )

    told_given : (o : Option Expr) (s : Scope) (start mem i : Instant) → ToldKept types shaped s o start mem → FillsTold types C o start i → kept.ToldGiven types one_given s o i → ToldGiven types nils u two_given s o i
    told_given None s start mem i k f g = tt
    told_given (Some e) s start mem i k f g = expr_given s e start mem i k f g

    contract_given : (o : Option Contract) (s : Scope) (start mem i : Instant) → ContractKept types shaped s o start mem → FillsObserver types C o start i → kept.ContractGiven types one_given s o i → ContractGiven types nils u two_given s o i
    contract_given None s start mem i k f g = tt
    contract_given (Some c) s start mem i k f g = (
      block_given c.body s (part Observer start) (part Observer mem) (part Observer i) k.0 f.0 g.0,
      (
        told_given c.assume (inside s c.body) (part Assume start) (part Assume mem) (part Assume i) k.1.0 f.1 g.1.0,
        told_given c.enforce (inside s c.body) (part Enforce start) (part Enforce mem) (part Enforce i) k.1.1 f.2 g.1.1,
      ),
    )

  row_given : (ds : List Decl) (i : Instant) → RowGiven types ds i → (c : List ℕ → Instant → Type 0) → ControlsGiven types nils u c ds i
  row_given [] i g c = tt
  row_given (d ∷ ds) i g c = (g.0, row_given ds (part Tail i) g.1 c)

  -- ---- instances

  own_given : (s : Scope) (n : Node) (o : Option Contract) (start mem i : Instant) → OwnKept types s n o start mem → FillsObserver types no_callees o start i → kept.ContractGiven types callees.any_given (inside_node s n) o i
      → ContractGiven types nils u any_given (inside_node s n) o i
  own_given s n None start mem i k f g = tt
  own_given s n (Some c) start mem i k f g = contract_given no_callees none_kept callees.any_given any_given (λ f start mem i k g h. absurd k) (Some c) (inside_node s n) start mem i k.1 f g

  called_given : (items : List Item) (f : List ℕ) (start mem i : Instant) → CalleeKept types items f start mem → FillsBy types (node_among items f) start i → CalleeGiven types items f i → CalledGiven types nils u items f i
  called_given [] f start mem i k fl g = tt
  called_given (TypeItem t ∷ items) f start mem i k fl g = called_given items f start mem i k fl g
  called_given (NodeItem n ∷ items) f start mem i k fl g = by (bytes_eq n.name f) k fl g (called_given items f start mem i)
    where
      by : (b : Bool) → either_of b (AloneKept types (scope_behind items) n start mem) (CalleeKept types items f start mem) → FillsBy types (if b then Some n else node_among items f) start i → either_of b (AloneGiven types (scope_behind items) n i) (CalleeGiven types items f i)
          → (CalleeKept types items f start mem → FillsBy types (node_among items f) start i → CalleeGiven types items f i → CalledGiven types nils u items f i)
          → either_of b (InstanceGiven types nils u (scope_behind items) n i) (CalledGiven types nils u items f i)
      by true k fl g h = (g.0, own_given (scope_behind items) n n.contract start mem i k fl g.1)
      by false k fl g h = h k fl g

  pub node_given : (earlier : List Item) (n : Node) (start mem i : Instant) → InShape types earlier n start mem → FillsNode types (callee_wires types earlier) n start i → GivenFits types earlier n i → AbstractGiven types nils u earlier n i
  node_given earlier n start mem i k f g =
      let each = λ (h : List ℕ) (start mem i : Instant). called_given earlier h start mem i in
      let s = scope_behind earlier in (
        (
          row_given (controls_of n.contract) (part Controls i) g.0 (CalledGiven types nils u earlier),
          block_given (callee_wires types earlier) (CalleeKept types earlier) (CalleeGiven types earlier) (CalledGiven types nils u earlier) each n.body (body_scope s n) (part Body start) (part Body mem) (part Body i) k.1.0 f.body g.1.0,
        ),
        contract_given (callee_wires types earlier) (CalleeKept types earlier) (CalleeGiven types earlier) (CalledGiven types nils u earlier) each n.contract (inside_node s n) start mem i k.1.1 f.contract g.1.1,
      )

-- ---- with Nil, and with what registers hold

nil_fits : (types : List TypeDecl) (c : List ℕ → Instant → Type 0) (o : Option Ty) (v w : Value) → v ≡ w → HasWire types o w → UndefinedFits types true nil c o v
nil_fits types c None v w e h = tt
nil_fits types c (Some t) v w e h = refl

held_fits : (types : List TypeDecl) (c : List ℕ → Instant → Type 0) (o : Option Ty) (v w : Value) → v ≡ w → HasWire types o w → UndefinedFits types false as_given c o v
held_fits types c None v w e h = tt
held_fits types c (Some t) v w e h = subst (λ z. UndefinedFits types false as_given c (Some t) z) (sym e) (value_of types t false w h)

pub given_with_nil : (types : List TypeDecl) (earlier : List Item) (n : Node) (start mem i : Instant) → InShape types earlier n start mem → FillsNode types (callee_wires types earlier) n start i → GivenFits types earlier n i → AbstractGiven types true nil earlier n i
given_with_nil types = node_given types true nil (nil_fits types)

pub given_filled : (types : List TypeDecl) (earlier : List Item) (n : Node) (start mem i : Instant) → InShape types earlier n start mem → FillsNode types (callee_wires types earlier) n start i → GivenFits types earlier n i → AbstractGiven types false as_given earlier n i
given_filled types = node_given types false as_given (held_fits types)
