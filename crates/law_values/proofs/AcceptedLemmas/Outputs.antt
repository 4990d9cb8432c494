-- Instants that fit have outputs with values, and in a program without controllable variables what is given fits.
use Rattle.std.proofs.Common.{◌≡◌, ℕ, List, [], ◌∷◌, reverse, refl, sym, ap, subst}
use Rattle.std.specs.Prelude.{⊤, Bool, true, false, ◌&&◌, ◌||◌, IsTrue, IsFalse, if◌then◌else◌, Option, None, Some}
use Rattle.std.specs.Str.{bytes_eq}
use Rattle.hp_base.specs.declared.ty.Ty.{Ty}
use Rattle.hp_base.specs.declared.ty.Ty.TheVariants as ty
use Rattle.hp_base.specs.declared.value.Value.{Value}
use Rattle.hp_base.specs.declared.value.Value.TheVariants.{Absent, Nil, Star}
use Rattle.hp_tree.specs.declared.block.Trans.{Trans}
use Rattle.hp_tree.specs.declared.program.Item.{Item}
use Rattle.hp_tree.specs.declared.program.Item.TheVariants.{TypeItem, NodeItem}
use Rattle.hp_tree.specs.Expressions.{Expr, constant, variable, last_of, one, two, choose, pre, fby, arrow, when_is, merge, call, Exprs, no_expr, more_exprs, Parts, no_part, more_parts}
use Rattle.hp_tree.specs.Blocks.{Decl, Block, block, Eqns, no_eqn, more_eqns, Eqn, define, switch, reset, automaton, Arms, no_arm, more_arms, States, no_state, more_states}
use Rattle.hp_tree.specs.Programs.{TypeDecl, Contract, Node}
use Rattle.hp_tree.specs.Instant.{Controls, Body, Observer, Assume, Enforce, Named, Equations, Head, Tail, Right, Test, Arms as ArmsOf, States as StatesOf, Until, Unless, First, Second, Third, Args, Instance, Instant, part, top, Clock}
use Rattle.hp_tree.specs.Meaning.{declares, controls_of, node_among}
use Rattle.hp_tree.specs.Reaction.{Each}
use Rattle.hp_tree.specs.Values.{IsOf}
use Rattle.hp_typing.specs.Scopes.{with_variables, inside, inside_node}
use Rattle.hp_typing.specs.Types.{type_of}
use Rattle.hp_init.specs.Classes.{Classes, is_second}
use Rattle.law_judged.specs.Named.Scopes.{Scope}
use Rattle.law_judged.specs.Named.Scoped.{EachNode}
use Rattle.law_judged.proofs.NamedLemmas.Sets.{same_name}
use Rattle.law_values.specs.Valued.Classed.{seen_in_node}
use Rattle.law_values.specs.Valued.Fitting.{HasValue, Fits, OutputsFit, NodeFits}
use Rattle.law_values.specs.Valued.Given.{UndefinedFits, ExprGiven, ExprsGiven, PartsGiven, TestsGiven, BlockGiven, EqnsGiven, EqnGiven, ArmsGiven, StatesGiven, ToldGiven, ContractGiven, ControlsGiven, NodeGiven}
use Rattle.law_values.specs.Valued.Values.{scope_behind, Classing, class_here, class_behind, either_of, InstantFits, GivenFits}
use Rattle.law_values.proofs.ValuedLemmas.Laws.{never_nil}
use Rattle.law_values.specs.Accepted.Outputs.{IsHere, OutputsHere, AbsentOrOf, Uncontrolled}

-- ---- a value of a type is neither Nil nor Absent

not_nil : (types : List TypeDecl) (t : Ty) → IsOf types t Nil → ⊥
not_nil types ty.Bool h = h
not_nil types ty.Int h = h
not_nil types (ty.Enum t) h = h

not_absent : (types : List TypeDecl) (t : Ty) → IsOf types t Absent → ⊥
not_absent types ty.Bool h = h
not_absent types ty.Int h = h
not_absent types (ty.Enum t) h = h

here : (types : List TypeDecl) (t : Ty) (v : Value) → IsOf types t v → IsHere v
here types t v h = ((λ e. not_nil types t (subst (λ z. IsOf types t z) e h)), (λ e. not_absent types t (subst (λ z. IsOf types t z) e h)))

outputs_here : (types : List TypeDecl) (ds : List Decl) (i : Instant) → OutputsFit types ds i → (x : List ℕ) → IsTrue (declares ds x) → IsHere (i (Named x ∷ []))
outputs_here types [] i o x h = absurd (cc)
outputs_here types (d ∷ ds) i o x h = by (bytes_eq d.name x) (λ k. outputs_here types ds i o.1 x k) refl h
  where
    by : (b : Bool) → (IsTrue (declares ds x) → IsHere (i (Named x ∷ []))) → bytes_eq d.name x ≡ b → IsTrue (b || declares ds x) → IsHere (i (Named x ∷ []))
    by true rest e k = subst (λ z. IsHere (i (Named z ∷ []))) (same_name d.name x e) (here types d.ty (i (Named d.name ∷ [])) o.0)
    by false rest e k = rest k

-- ---- the outputs of an instant that fits

module _ (types : List TypeDecl) (nils : Bool) where
  abbrev or_other : Node → Option Node → Node
  or_other n None = n
  or_other n (Some m) = m

  same : (m n : Node) → Some m ≡ Some n → m ≡ n
  same m n e = ap (or_other n) e

  pub outputs_fit : (class : Classing) (items : List Item) (f : List ℕ) (n : Node) (i : Instant) → node_among items f ≡ Some n → InstantFits types nils class items f i → OutputsFit types n.outputs i
  outputs_fit class [] f n i e h = absurd (cc)
  outputs_fit class (TypeItem t ∷ earlier) f n i e h = outputs_fit class earlier f n i e h
  outputs_fit class (NodeItem m ∷ earlier) f n i e h = by (bytes_eq m.name f) (λ e h. outputs_fit (class_behind class) earlier f n i e h) e h
    where
      by : (b : Bool) → (node_among earlier f ≡ Some n → InstantFits types nils (class_behind class) earlier f i → OutputsFit types n.outputs i) → (if b then Some m else node_among earlier f) ≡ Some n
          → either_of b (NodeFits types nils (InstantFits types nils (class_behind class) earlier) (scope_behind earlier) (seen_in_node (class_here class) m) m i) (InstantFits types nils (class_behind class) earlier f i)
          → OutputsFit types n.outputs i
      by true rest e k = subst (λ z. OutputsFit types z.outputs i) (same m n e) k.0.0
      by false rest e k = rest e k

  pub past_here : (class : Classing) (items : List Item) (f : List ℕ) (n : Node) (past : List Instant) → node_among items f ≡ Some n → Each (InstantFits types nils class items f) past → Each (OutputsHere n) past
  past_here class items f n [] e h = tt
  past_here class items f n (i ∷ past) e h = (outputs_here types n.outputs i (outputs_fit class items f n i e h.0), past_here class items f n past e h.1)

-- ---- in the filled form

pub absent_or_of : (types : List TypeDecl) (there second : Bool) (t : Ty) (v : Value) → Fits types there (Some t) (second && false) v → AbsentOrOf types there t v
absent_or_of types false second t v h = h
absent_or_of types true second t v h = never_nil types t (second && false) v (never second) h
  where
    never : (b : Bool) → IsFalse (b && false)
    never true = refl
    never false = refl

pub first_value : (types : List TypeDecl) (there second nils : Bool) (t : Ty) (v : Value) → IsFalse second → Fits types there (Some t) (second && nils) v → AbsentOrOf types there t v
first_value types false second nils t v f h = h
first_value types true second nils t v f h = never_nil types t (second && nils) v (ap (λ b. b && nils) f) h

pub never_star : (types : List TypeDecl) (there : Bool) (o : Option Ty) (nil : Bool) (v : Value) → Fits types there o nil v → v ≡ Star → ⊥
never_star types there o nil v h e = by there o (subst (λ z. Fits types there o nil z) e h)
  where
    by : (b : Bool) (u : Option Ty) → Fits types b u nil Star → ⊥
    by false u k = absurd (cc)
    by true None k = absurd (cc)
    by true (Some ty.Bool) k = k
    by true (Some ty.Int) k = k
    by true (Some (ty.Enum t)) k = k

-- ---- what is given, where no node has controllable variables

abbrev pub undefined : Value → Value
undefined v = Nil

module _ (types : List TypeDecl) (callee : List ℕ → Instant → Type 0) (all : (f : List ℕ) (i : Instant) → callee f i) where
  undefined_fits : (o : Option Ty) (v : Value) → UndefinedFits types true undefined callee o v
  undefined_fits None v = tt
  undefined_fits (Some t) v = refl

  mutual
    expr_given : (s : Scope) (e : Expr) (i : Instant) → ExprGiven types true undefined callee s e i
    expr_given s (constant at c) i = tt
    expr_given s (variable at x) i = tt
    expr_given s (last_of at x) i = tt
    expr_given s (one at o a) i = expr_given s a (part First i)
    expr_given s (two at o a b) i = (expr_given s a (part First i), expr_given s b (part Second i))
    expr_given s (choose at a b c) i = (expr_given s a (part First i), (expr_given s b (part Second i), expr_given s c (part Third i)))
    expr_given s (pre at a) i = (undefined_fits (type_of s a) (top i), expr_given s a (part First i))
    expr_given s (fby at a b) i = (expr_given s a (part First i), expr_given s b (part Second i))
    expr_given s (arrow at a b) i = (expr_given s a (part First i), expr_given s b (part Second i))
    expr_given s (when_is at a c x) i = expr_given s a (part First i)
    expr_given s (merge at x ps) i = parts_given s ps (part Args i)
    expr_given s (call at f inlined es) i = (exprs_given s es (part Args i), all f (part Instance i))

    exprs_given : (s : Scope) (es : Exprs) (i : Instant) → ExprsGiven types true undefined callee s es i
    exprs_given s no_expr i = tt
    exprs_given s (more_exprs e es) i = (expr_given s e (part Head i), exprs_given s es (part Tail i))

    parts_given : (s : Scope) (ps : Parts) (i : Instant) → PartsGiven types true undefined callee s ps i
    parts_given s no_part i = tt
    parts_given s (more_parts c e ps) i = (expr_given s e (part Head i), parts_given s ps (part Tail i))

  tests_given : (s : Scope) (ts : List Trans) (i : Instant) → TestsGiven types true undefined callee s ts i
  tests_given s [] i = tt
  tests_given s (t ∷ ts) i = (expr_given s t.cond (part Head i), tests_given s ts (part Tail i))

  mutual
    pub block_given : (s : Scope) (b : Block) (i : Instant) → BlockGiven types true undefined callee s b i
    block_given s (block ds es) i = eqns_given (with_variables s ds) es (part Equations i)

    eqns_given : (s : Scope) (es : Eqns) (i : Instant) → EqnsGiven types true undefined callee s es i
    eqns_given s no_eqn i = tt
    eqns_given s (more_eqns e es) i = (eqn_given s e (part Head i), eqns_given s es (part Tail i))

    eqn_given : (s : Scope) (e : Eqn) (i : Instant) → EqnGiven types true undefined callee s e i
    eqn_given s (define at ys e) i = expr_given s e (part Right i)
    eqn_given s (switch at e arms) i = (expr_given s e (part Test i), arms_given s arms (part ArmsOf i))
    eqn_given s (reset at b e) i = (expr_given s e (part Test i), block_given s b (part Body i))
    eqn_given s (automaton at ss) i = states_given s ss (part StatesOf i)

    arms_given : (s : Scope) (arms : Arms) (i : Instant) → ArmsGiven types true undefined callee s arms i
    arms_given s no_arm i = tt
    arms_given s (more_arms c b at arms) i = (block_given s b (part Head i), arms_given s arms (part Tail i))

    states_given : (s : Scope) (ss : States) (i : Instant) → StatesGiven types true undefined callee s ss i
    states_given s no_state i = tt
    states_given s (more_states f b until unless at ss) i =
        (block_given s b (part Body (part Head i)), (tests_given (inside s b) until (part Until (part Head i)), (tests_given s unless (part Unless (part Head i)), states_given s ss (part Tail i))))

  told_given : (s : Scope) (o : Option Expr) (i : Instant) → ToldGiven types true undefined callee s o i
  told_given s None i = tt
  told_given s (Some e) i = expr_given s e i

  pub contract_given : (s : Scope) (o : Option Contract) (i : Instant) → ContractGiven types true undefined callee s o i
  contract_given s None i = tt
  contract_given s (Some c) i = (block_given s c.body (part Observer i), (told_given (inside s c.body) c.assume (part Assume i), told_given (inside s c.body) c.enforce (part Enforce i)))

  node_given : (s : Scope) (n : Node) (i : Instant) → Uncontrolled n → NodeGiven types true undefined callee s n i
  node_given s n i u =
      ((subst (λ ds. ControlsGiven types true undefined callee ds (part Controls i)) (sym u) tt, block_given (with_variables (inside_node s n) (controls_of n.contract)) n.body (part Body i)), contract_given (inside_node s n) n.contract i)

all_given : (types : List TypeDecl) (items : List Item) → EachNode Uncontrolled items → (f : List ℕ) (i : Instant) → GivenFits types true undefined items f i
all_given types [] u f i = tt
all_given types (TypeItem t ∷ earlier) u f i = all_given types earlier u f i
all_given types (NodeItem n ∷ earlier) u f i =
    either (bytes_eq n.name f) (node_given types (GivenFits types true undefined earlier) (all_given types earlier u.1) (scope_behind earlier) n i u.0) (all_given types earlier u.1 f i)
  where
    either : {A B : Type 0} (b : Bool) → A → B → either_of b A B
    either true a b = a
    either false a b = b

abbrev onto : List Item → List Item → List Item
onto [] ys = ys
onto (x ∷ xs) ys = onto xs (x ∷ ys)

uncontrolled_onto : (xs ys : List Item) → EachNode Uncontrolled xs → EachNode Uncontrolled ys → EachNode Uncontrolled (onto xs ys)
uncontrolled_onto [] ys u v = v
uncontrolled_onto (TypeItem t ∷ xs) ys u v = uncontrolled_onto xs (TypeItem t ∷ ys) u v
uncontrolled_onto (NodeItem n ∷ xs) ys u v = uncontrolled_onto xs (NodeItem n ∷ ys) u.1 (u.0, v)

pub frees_fit : (types : List TypeDecl) (program : List Item) → EachNode Uncontrolled program → (f : List ℕ) (frees : List Instant) → Each (GivenFits types true undefined (reverse program) f) frees
frees_fit types program u f [] = tt
frees_fit types program u f (i ∷ frees) = (all_given types (reverse program) (uncontrolled_onto program [] u tt) f i, frees_fit types program u f frees)
