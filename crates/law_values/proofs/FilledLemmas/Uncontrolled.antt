-- Among first values there is none for a controllable variable.
use Rattle.std.proofs.Common.{◌≡◌, ℕ, List, [], ◌∷◌, ◌++◌, refl}
use Rattle.std.specs.Prelude.{Bool, true, false, if◌then◌else◌, Option, None, Some}
use Rattle.std.specs.Str.{bytes_eq}
use Rattle.hp_base.specs.declared.value.Value.{Value}
use Rattle.hp_base.specs.declared.value.Value.TheVariants.{Absent}
use Rattle.hp_tree.specs.declared.block.Trans.{Trans}
use Rattle.hp_tree.specs.declared.program.Item.{Item}
use Rattle.hp_tree.specs.declared.program.Item.TheVariants.{TypeItem, NodeItem}
use Rattle.hp_tree.specs.Expressions.{Expr, constant, variable, last_of, one, two, choose, pre, fby, arrow, when_is, merge, call, Exprs, no_expr, more_exprs, Parts, no_part, more_parts}
use Rattle.hp_tree.specs.Blocks.{Decl, Block, block, Eqns, no_eqn, more_eqns, Eqn, define, switch, reset, automaton, Arms, no_arm, more_arms, States, no_state, more_states}
use Rattle.hp_tree.specs.Programs.{TypeDecl, Contract, Node}
use Rattle.hp_tree.specs.ExpressionTypes.{Scope, typed_in, untyped, scope_of}
use Rattle.hp_tree.specs.Meaning.{controls_of, node_among}
use Rattle.hp_tree.specs.Instant.{Controls, Body, Observer, Assume, Enforce, Named, Fresh, Equations, Head, Tail, Right, Test, Arms as ArmsOf, States as StatesOf, Until, Unless, Active, Next, Pending, First, Second, Third, Args, Instance, Place, Instant, nothing, with_one, with_two, with_three, in_row, with_row, with_instance, of_two, in_block, in_right, with_arms, with_body, in_state, with_words, in_observer}
use Rattle.hp_tree.specs.Filled.{firsts, firsts_of_all, firsts_of_parts, firsts_of_block, firsts_of_equations, firsts_of_equation, firsts_of_arms, firsts_of_states, firsts_of_node, firsts_among, outputs_declared}

abbrev pub NoControls : Instant → Type 0
NoControls i = (p q : Place) → i (p ++ Controls ∷ q) ≡ Absent

none_in_one : (v : Value) (i : Instant) → NoControls i → NoControls (with_one v i)
none_in_one v i h [] q = refl
none_in_one v i h (First ∷ p) q = h p q
none_in_one v i h (_ ∷ p) q = refl

none_in_two : (v : Value) (i j : Instant) → NoControls i → NoControls j → NoControls (with_two v i j)
none_in_two v i j h k [] q = refl
none_in_two v i j h k (First ∷ p) q = h p q
none_in_two v i j h k (Second ∷ p) q = k p q
none_in_two v i j h k (_ ∷ p) q = refl

none_in_three : (v : Value) (i j l : Instant) → NoControls i → NoControls j → NoControls l → NoControls (with_three v i j l)
none_in_three v i j l h k m [] q = refl
none_in_three v i j l h k m (First ∷ p) q = h p q
none_in_three v i j l h k m (Second ∷ p) q = k p q
none_in_three v i j l h k m (Third ∷ p) q = m p q
none_in_three v i j l h k m (_ ∷ p) q = refl

none_in_row : (i : Instant) (is : List Instant) → NoControls i → NoControls (in_row is) → NoControls (in_row (i ∷ is))
none_in_row i is h k [] q = refl
none_in_row i is h k (Head ∷ p) q = h p q
none_in_row i is h k (Tail ∷ p) q = k p q
none_in_row i is h k (_ ∷ p) q = refl

none_in_merge : (v : Value) (is : List Instant) → NoControls (in_row is) → NoControls (with_row v is)
none_in_merge v is h [] q = refl
none_in_merge v is h (Args ∷ p) q = h p q
none_in_merge v is h (_ ∷ p) q = refl

none_in_call : (v : Value) (is : List Instant) (i : Instant) → NoControls (in_row is) → NoControls i → NoControls (with_instance v is i)
none_in_call v is i h k [] q = refl
none_in_call v is i h k (Args ∷ p) q = h p q
none_in_call v is i h k (Instance ∷ p) q = k p q
none_in_call v is i h k (_ ∷ p) q = refl

none_in_both : (i j : Instant) → NoControls i → NoControls j → NoControls (of_two i j)
none_in_both i j h k [] q = refl
none_in_both i j h k (Head ∷ p) q = h p q
none_in_both i j h k (Tail ∷ p) q = k p q
none_in_both i j h k (_ ∷ p) q = refl

none_in_block : (i : Instant) → NoControls i → NoControls (in_block (λ x. Absent) Absent i)
none_in_block i h [] q = refl
none_in_block i h (Equations ∷ p) q = h p q
none_in_block i h (Named x ∷ []) q = refl
none_in_block i h (Named x ∷ _ ∷ p) q = refl
none_in_block i h (Fresh ∷ []) q = refl
none_in_block i h (Fresh ∷ _ ∷ p) q = refl
none_in_block i h (_ ∷ p) q = refl

none_in_right : (i : Instant) → NoControls i → NoControls (in_right i)
none_in_right i h [] q = refl
none_in_right i h (Right ∷ p) q = h p q
none_in_right i h (_ ∷ p) q = refl

none_in_arms : (i j : Instant) → NoControls i → NoControls j → NoControls (with_arms i j)
none_in_arms i j h k [] q = refl
none_in_arms i j h k (Test ∷ p) q = h p q
none_in_arms i j h k (ArmsOf ∷ p) q = k p q
none_in_arms i j h k (_ ∷ p) q = refl

none_in_body : (i j : Instant) → NoControls i → NoControls j → NoControls (with_body i j)
none_in_body i j h k [] q = refl
none_in_body i j h k (Test ∷ p) q = h p q
none_in_body i j h k (Body ∷ p) q = k p q
none_in_body i j h k (_ ∷ p) q = refl

none_in_state : (i j l : Instant) → NoControls i → NoControls j → NoControls l → NoControls (in_state i j l)
none_in_state i j l h k m [] q = refl
none_in_state i j l h k m (Body ∷ p) q = h p q
none_in_state i j l h k m (Until ∷ p) q = k p q
none_in_state i j l h k m (Unless ∷ p) q = m p q
none_in_state i j l h k m (_ ∷ p) q = refl

none_in_words : (i : Instant) → NoControls i → NoControls (with_words Absent Absent Absent i)
none_in_words i h [] q = refl
none_in_words i h (StatesOf ∷ p) q = h p q
none_in_words i h (Active ∷ []) q = refl
none_in_words i h (Active ∷ _ ∷ p) q = refl
none_in_words i h (Next ∷ []) q = refl
none_in_words i h (Next ∷ _ ∷ p) q = refl
none_in_words i h (Pending ∷ []) q = refl
none_in_words i h (Pending ∷ _ ∷ p) q = refl
none_in_words i h (_ ∷ p) q = refl

none_in_observer : (i j l : Instant) → NoControls i → NoControls j → NoControls l → NoControls (in_observer i j l)
none_in_observer i j l h k m [] q = refl
none_in_observer i j l h k m (Observer ∷ p) q = h p q
none_in_observer i j l h k m (Assume ∷ p) q = k p q
none_in_observer i j l h k m (Enforce ∷ p) q = m p q
none_in_observer i j l h k m (_ ∷ p) q = refl

none_at_all : NoControls nothing
none_at_all p q = refl

none_in_empty : NoControls (in_row [])
none_in_empty p q = refl

module _ (types : List TypeDecl) (outputs : List ℕ → List Decl) (callee : List ℕ → Instant) (below : (f : List ℕ) → NoControls (callee f)) where
  mutual
    of_expr : (e : Expr) (names : Scope) → NoControls (firsts types outputs callee e names)
    of_expr (constant a c) names = none_at_all
    of_expr (variable a x) names = none_at_all
    of_expr (last_of a x) names = none_at_all
    of_expr (one a o b) names = none_in_one _ _ (of_expr b names)
    of_expr (two a o b c) names = none_in_two _ _ _ (of_expr b names) (of_expr c names)
    of_expr (choose a b c d) names = none_in_three _ _ _ _ (of_expr b names) (of_expr c names) (of_expr d names)
    of_expr (pre a b) names = none_in_one _ _ (of_expr b names)
    of_expr (fby a b c) names = none_in_two _ _ _ (of_expr b names) (of_expr c names)
    of_expr (arrow a b c) names = none_in_two _ _ _ (of_expr b names) (of_expr c names)
    of_expr (when_is a b c x) names = none_in_one _ _ (of_expr b names)
    of_expr (merge a x ps) names = none_in_merge _ _ (of_parts ps names)
    of_expr (call a f i es) names = none_in_call _ _ _ (of_exprs es names) (below f)

    of_exprs : (es : Exprs) (names : Scope) → NoControls (in_row (firsts_of_all types outputs callee es names))
    of_exprs no_expr names = none_in_empty
    of_exprs (more_exprs e es) names = none_in_row _ _ (of_expr e names) (of_exprs es names)

    of_parts : (ps : Parts) (names : Scope) → NoControls (in_row (firsts_of_parts types outputs callee ps names))
    of_parts no_part names = none_in_empty
    of_parts (more_parts c e ps) names = none_in_row _ _ (of_expr e names) (of_parts ps names)

  abbrev conditions : List Trans → Scope → List Instant
  conditions [] names = []
  conditions (t ∷ ts) names = firsts types outputs callee t.cond names ∷ conditions ts names

  of_tests : (ts : List Trans) (names : Scope) → NoControls (in_row (conditions ts names))
  of_tests [] names = none_in_empty
  of_tests (t ∷ ts) names = none_in_row _ _ (of_expr t.cond names) (of_tests ts names)

  mutual
    of_block : (b : Block) (out : Scope) → NoControls (firsts_of_block types outputs callee b out)
    of_block (block ds es) out = none_in_block _ (of_eqns es (typed_in ds out))

    of_eqns : (es : Eqns) (names : Scope) → NoControls (firsts_of_equations types outputs callee es names)
    of_eqns no_eqn names = none_at_all
    of_eqns (more_eqns e es) names = none_in_both _ _ (of_eqn e names) (of_eqns es names)

    of_eqn : (e : Eqn) (names : Scope) → NoControls (firsts_of_equation types outputs callee e names)
    of_eqn (define a ys e) names = none_in_right _ (of_expr e names)
    of_eqn (switch a e arms) names = none_in_arms _ _ (of_expr e names) (of_arms arms names)
    of_eqn (reset a b e) names = none_in_body _ _ (of_expr e names) (of_block b names)
    of_eqn (automaton a ss) names = none_in_words _ (of_states ss names)

    of_arms : (arms : Arms) (names : Scope) → NoControls (firsts_of_arms types outputs callee arms names)
    of_arms no_arm names = none_at_all
    of_arms (more_arms c b a arms) names = none_in_both _ _ (of_block b names) (of_arms arms names)

    of_states : (ss : States) (names : Scope) → NoControls (firsts_of_states types outputs callee ss names)
    of_states no_state names = none_at_all
    of_states (more_states f b until unless a ss) names =
        none_in_both _ _ (none_in_state _ _ _ (of_block b names) (of_tests until (scope_of b names)) (of_tests unless names)) (of_states ss names)

  abbrev told : Option Expr → Scope → Instant
  told None names p = Absent
  told (Some e) names p = firsts types outputs callee e names p

  of_told : (e : Option Expr) (names : Scope) → NoControls (told e names)
  of_told None names = none_at_all
  of_told (Some e) names = of_expr e names

  abbrev of_two_parts : Instant → Instant → Instant
  of_two_parts body observer (Body ∷ p) = body p
  of_two_parts body observer p = observer p

  abbrev contract : Option Contract → Scope → Instant
  contract None names p = Absent
  contract (Some c) names p = in_observer (firsts_of_block types outputs callee c.body names) (told c.assume (scope_of c.body names)) (told c.enforce (scope_of c.body names)) p

  of_contract : (k : Option Contract) (names : Scope) → NoControls (contract k names)
  of_contract None names = none_at_all
  of_contract (Some c) names = none_in_observer _ _ _ (of_block c.body names) (of_told c.assume (scope_of c.body names)) (of_told c.enforce (scope_of c.body names))

  none_in_parts : (i j : Instant) → NoControls i → NoControls j → NoControls (of_two_parts i j)
  none_in_parts i j h k [] q = k [] q
  none_in_parts i j h k (Body ∷ p) q = h p q
  none_in_parts i j h k (s ∷ p) q = k (s ∷ p) q

  of_node : (n : Node) → NoControls (firsts_of_node types outputs callee n)
  of_node n =
      let seen = typed_in n.inputs (typed_in n.outputs untyped) in
      none_in_parts (firsts_of_block types outputs callee n.body (typed_in (controls_of n.contract) seen)) (contract n.contract seen) (of_block n.body (typed_in (controls_of n.contract) seen)) (of_contract n.contract seen)

pub of_items : (types : List TypeDecl) (items : List Item) (f : List ℕ) → NoControls (firsts_among types items f)
of_items types [] f = none_at_all
of_items types (TypeItem t ∷ earlier) f = of_items types earlier f
of_items types (NodeItem n ∷ earlier) f = by (bytes_eq n.name f) (of_items types earlier)
  where
    by : (b : Bool) → ((g : List ℕ) → NoControls (firsts_among types earlier g)) → NoControls (if b then firsts_of_node types (λ g. outputs_declared (node_among earlier g)) (λ g. firsts_among types earlier g) n else firsts_among types earlier f)
    by true h = of_node types (λ g. outputs_declared (node_among earlier g)) (λ g. firsts_among types earlier g) h n
    by false h = h f
