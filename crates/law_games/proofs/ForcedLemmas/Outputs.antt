-- At each call that is there, what is mended at an output of the callee stays, if it was of the output's type; and it was, where what is given fits.
use Rattle.std.proofs.Common.{◌≡◌, ℕ, List, [], ◌∷◌, ◌++◌, refl, sym, ap, subst, ◌∙◌, append_assoc}
use Rattle.std.specs.Prelude.{⊤, false, IsTrue, filter, Option, None, Some}
use Rattle.hp_base.specs.declared.span.Span.{Span}
use Rattle.hp_base.specs.declared.value.Value.{Value}
use Rattle.hp_base.specs.declared.value.Value.TheVariants.{Nil}
use Rattle.hp_tree.specs.declared.block.Trans.{Trans}
use Rattle.hp_tree.specs.Expressions.{Expr, constant, variable, last_of, one, two, choose, pre, fby, arrow, when_is, merge, call, Exprs, no_expr, more_exprs, Parts, no_part, more_parts}
use Rattle.hp_tree.specs.Blocks.{Block, block, Eqns, no_eqn, more_eqns, Eqn, define, switch, reset, automaton, Arms, no_arm, more_arms, States, no_state, more_states}
use Rattle.hp_tree.specs.Programs.{TypeDecl, Contract, Node}
use Rattle.hp_tree.specs.Operators.{is_there}
use Rattle.hp_tree.specs.Instant.{Step, Controls, Body, Observer, Assume, Enforce, Named, Fresh, Equations, Head, Tail, Right, Test, Arms as ArmsOf, States as StatesOf, Until, Unless, First, Second, Third, Args, Instance, Place, Instant, part}
use Rattle.hp_tree.specs.Meaning.{defines, names_of, controls_of}
use Rattle.hp_meaning.specs.Causal.Sources.{below}
use Rattle.hp_meaning.specs.declared.causal.point.PointKind.TheVariants as kind
use Rattle.hp_meaning.specs.Causal.Points.{Placed, Whereabouts, calls, calls_in_all, calls_in_parts, conditions, lefts, defined_by, points_of, points_of_all, points_of_one, points_of_arms, points_of_states, point_at, calls_told, points_of_contract, controls, points}
use Rattle.hp_typing.specs.Scopes.{with_variables, inside as into}
use Rattle.law_judged.specs.Typed.Scopes.{Scope}
use Rattle.law_games.specs.Wiretyped.Kept.{ExprKept, ExprsKept, PartsKept, TestsKept, BlockKept, EqnsKept, EqnKept, ArmsKept, StatesKept, ToldKept, ContractKept, ExprGiven, ExprsGiven, PartsGiven, TestsGiven, BlockGiven, EqnsGiven, EqnGiven, ArmsGiven, StatesGiven, ToldGiven, ContractGiven}
use Rattle.law_games.proofs.ForcedLemmas.EachCall.{EachCall, each_append, first_each, rest_each, each_left, each_def, each_control}
use Rattle.law_games.proofs.ForcedLemmas.Mended.{Mends, mend, mend_all, mend_parts, mend_tests, mend_block, mend_eqns, mend_eqn, mend_arms, mend_states, mend_told, mend_contract, mend_node, mend_none}

-- where a part is
abbrev pub Way : Whereabouts → Type 0
Way w = (p : Place) → w p ≡ w [] ++ p

pub way_below : (s : Step) (w : Whereabouts) → Way w → Way (below s w)
way_below s w a p = a (s ∷ p) ∙ sym (ap (λ x. x ++ p) (a (s ∷ [])) ∙ append_assoc (w []) (s ∷ []) p)

-- ---- what stays

module _ (callee : List ℕ → Mends) (now free : Instant) (Rel : Value → Value → Type 0) (same : (v : Value) → Rel v v) (Q : Placed → Type 0)
    (own : (f : List ℕ) (s : Span) (w : Whereabouts) (start : Instant) → Way w → Q (point_at kind.Call f s (w [])) → (x : List ℕ) → IsTrue (is_there (now (w (Instance ∷ Fresh ∷ []))))
    → Rel (free (w (Instance ∷ Named x ∷ []))) (callee f start (Named x ∷ []) (free (w (Instance ∷ Named x ∷ [])))))
    (deep : (f : List ℕ) (start : Instant) (p : Place) (x : List ℕ) (v : Value) → callee f start (p ++ (Instance ∷ Named x ∷ [])) v ≡ v) where
  abbrev pub Stays : Whereabouts → (Place → Value → Value) → Type 0
  Stays w m = (p : Place) (x : List ℕ) → IsTrue (is_there (now (w (p ++ (Instance ∷ Fresh ∷ []))))) → Rel (free (w (p ++ (Instance ∷ Named x ∷ [])))) (m (p ++ (Instance ∷ Named x ∷ [])) (free (w (p ++ (Instance ∷ Named x ∷ [])))))

  mutual
    expr_stays : (e : Expr) (w : Whereabouts) (start : Instant) → Way w → EachCall Q (calls e w) → Stays w (mend callee e start)
    expr_stays (constant s c) w start a k p x t = same _
    expr_stays (variable s y) w start a k p x t = same _
    expr_stays (last_of s y) w start a k p x t = same _
    expr_stays (one s o b) w start a k (First ∷ p) x t = expr_stays b (below First w) (part First start) (way_below First w a) k p x t
    expr_stays (one s o b) w start a k p x t = same _
    expr_stays (two s o b c) w start a k (First ∷ p) x t = expr_stays b (below First w) (part First start) (way_below First w a) (first_each Q (calls b (below First w)) (calls c (below Second w)) k) p x t
    expr_stays (two s o b c) w start a k (Second ∷ p) x t = expr_stays c (below Second w) (part Second start) (way_below Second w a) (rest_each Q (calls b (below First w)) (calls c (below Second w)) k) p x t
    expr_stays (two s o b c) w start a k p x t = same _
    expr_stays (choose s b c d) w start a k (First ∷ p) x t =
        expr_stays b (below First w) (part First start) (way_below First w a) (first_each Q (calls b (below First w)) (calls c (below Second w) ++ calls d (below Third w)) k) p x t
    expr_stays (choose s b c d) w start a k (Second ∷ p) x t =
        expr_stays c (below Second w) (part Second start) (way_below Second w a) (first_each Q (calls c (below Second w)) (calls d (below Third w)) (rest_each Q (calls b (below First w)) (calls c (below Second w) ++ calls d (below Third w)) k)) p x t
    expr_stays (choose s b c d) w start a k (Third ∷ p) x t =
        expr_stays d (below Third w) (part Third start) (way_below Third w a) (rest_each Q (calls c (below Second w)) (calls d (below Third w)) (rest_each Q (calls b (below First w)) (calls c (below Second w) ++ calls d (below Third w)) k)) p x t
    expr_stays (choose s b c d) w start a k p x t = same _
    expr_stays (pre s b) w start a k (First ∷ p) x t = expr_stays b (below First w) (part First start) (way_below First w a) k p x t
    expr_stays (pre s b) w start a k p x t = same _
    expr_stays (fby s b c) w start a k (First ∷ p) x t = expr_stays b (below First w) (part First start) (way_below First w a) (first_each Q (calls b (below First w)) (calls c (below Second w)) k) p x t
    expr_stays (fby s b c) w start a k (Second ∷ p) x t = expr_stays c (below Second w) (part Second start) (way_below Second w a) (rest_each Q (calls b (below First w)) (calls c (below Second w)) k) p x t
    expr_stays (fby s b c) w start a k p x t = same _
    expr_stays (arrow s b c) w start a k (First ∷ p) x t = expr_stays b (below First w) (part First start) (way_below First w a) (first_each Q (calls b (below First w)) (calls c (below Second w)) k) p x t
    expr_stays (arrow s b c) w start a k (Second ∷ p) x t = expr_stays c (below Second w) (part Second start) (way_below Second w a) (rest_each Q (calls b (below First w)) (calls c (below Second w)) k) p x t
    expr_stays (arrow s b c) w start a k p x t = same _
    expr_stays (when_is s b c y) w start a k (First ∷ p) x t = expr_stays b (below First w) (part First start) (way_below First w a) k p x t
    expr_stays (when_is s b c y) w start a k p x t = same _
    expr_stays (merge s y ps) w start a k (Args ∷ p) x t = parts_stay ps (below Args w) (part Args start) (way_below Args w a) k p x t
    expr_stays (merge s y ps) w start a k p x t = same _
    expr_stays (call s f inlined es) w start a k [] x t = own f s w (part Instance start) a (k.0 refl) x t
    expr_stays (call s f inlined es) w start a k (Args ∷ p) x t = exprs_stay es (below Args w) (part Args start) (way_below Args w a) k.1 p x t
    expr_stays (call s f inlined es) w start a k (Instance ∷ p) x t =
        let v = free (w (Instance ∷ (p ++ (Instance ∷ Named x ∷ [])))) in
        subst (λ z. Rel v z) (sym (deep f (part Instance start) p x v)) (same v)
    expr_stays (call s f inlined es) w start a k p x t = same _

    exprs_stay : (es : Exprs) (w : Whereabouts) (start : Instant) → Way w → EachCall Q (calls_in_all es w) → Stays w (mend_all callee es start)
    exprs_stay no_expr w start a k p x t = same _
    exprs_stay (more_exprs e es) w start a k (Head ∷ p) x t = expr_stays e (below Head w) (part Head start) (way_below Head w a) (first_each Q (calls e (below Head w)) (calls_in_all es (below Tail w)) k) p x t
    exprs_stay (more_exprs e es) w start a k (Tail ∷ p) x t = exprs_stay es (below Tail w) (part Tail start) (way_below Tail w a) (rest_each Q (calls e (below Head w)) (calls_in_all es (below Tail w)) k) p x t
    exprs_stay (more_exprs e es) w start a k p x t = same _

    parts_stay : (ps : Parts) (w : Whereabouts) (start : Instant) → Way w → EachCall Q (calls_in_parts ps w) → Stays w (mend_parts callee ps start)
    parts_stay no_part w start a k p x t = same _
    parts_stay (more_parts c e ps) w start a k (Head ∷ p) x t = expr_stays e (below Head w) (part Head start) (way_below Head w a) (first_each Q (calls e (below Head w)) (calls_in_parts ps (below Tail w)) k) p x t
    parts_stay (more_parts c e ps) w start a k (Tail ∷ p) x t = parts_stay ps (below Tail w) (part Tail start) (way_below Tail w a) (rest_each Q (calls e (below Head w)) (calls_in_parts ps (below Tail w)) k) p x t
    parts_stay (more_parts c e ps) w start a k p x t = same _

  tests_stay : (ts : List Trans) (w : Whereabouts) (start : Instant) → Way w → EachCall Q (conditions ts w) → Stays w (mend_tests callee ts start)
  tests_stay [] w start a k p x t = same _
  tests_stay (c ∷ ts) w start a k (Head ∷ p) x t = expr_stays c.cond (below Head w) (part Head start) (way_below Head w a) (first_each Q (calls c.cond (below Head w)) (conditions ts (below Tail w)) k.1) p x t
  tests_stay (c ∷ ts) w start a k (Tail ∷ p) x t = tests_stay ts (below Tail w) (part Tail start) (way_below Tail w a) (rest_each Q (calls c.cond (below Head w)) (conditions ts (below Tail w)) k.1) p x t
  tests_stay (c ∷ ts) w start a k p x t = same _

  mutual
    block_stays : (declared : List (List ℕ)) (b : Block) (w : Whereabouts) (start : Instant) → Way w → EachCall Q (points_of declared b w) → Stays w (mend_block callee b start)
    block_stays declared (block ds es) w start a k (Equations ∷ p) x t = eqns_stay (declared ++ names_of ds) (λ y. w (Named y ∷ [])) es (below Equations w) (part Equations start) (way_below Equations w a) k p x t
    block_stays declared (block ds es) w start a k p x t = same _

    eqns_stay : (declared : List (List ℕ)) (named : List ℕ → Place) (es : Eqns) (w : Whereabouts) (start : Instant) → Way w → EachCall Q (points_of_all declared named es w) → Stays w (mend_eqns callee es start)
    eqns_stay declared named no_eqn w start a k p x t = same _
    eqns_stay declared named (more_eqns e es) w start a k (Head ∷ p) x t =
        eqn_stays declared named e (below Head w) (part Head start) (way_below Head w a) (first_each Q (points_of_one declared named e (below Head w)) (points_of_all declared named es (below Tail w)) k) p x t
    eqns_stay declared named (more_eqns e es) w start a k (Tail ∷ p) x t =
        eqns_stay declared named es (below Tail w) (part Tail start) (way_below Tail w a) (rest_each Q (points_of_one declared named e (below Head w)) (points_of_all declared named es (below Tail w)) k) p x t
    eqns_stay declared named (more_eqns e es) w start a k p x t = same _

    eqn_stays : (declared : List (List ℕ)) (named : List ℕ → Place) (e : Eqn) (w : Whereabouts) (start : Instant) → Way w → EachCall Q (points_of_one declared named e w) → Stays w (mend_eqn callee e start)
    eqn_stays declared named (define s ys e) w start a k (Right ∷ p) x t = expr_stays e (below Right w) (part Right start) (way_below Right w a) (rest_each Q (lefts ys named) (calls e (below Right w)) k) p x t
    eqn_stays declared named (define s ys e) w start a k p x t = same _
    eqn_stays declared named (switch s e arms) w start a k (Test ∷ p) x t =
        expr_stays e (below Test w) (part Test start) (way_below Test w a)
        (first_each Q (calls e (below Test w)) (points_of_arms declared arms (below ArmsOf w)) (rest_each Q (defined_by (switch s e arms) s declared named) (calls e (below Test w) ++ points_of_arms declared arms (below ArmsOf w)) k)) p x t
    eqn_stays declared named (switch s e arms) w start a k (ArmsOf ∷ p) x t =
        arms_stay declared arms (below ArmsOf w) (part ArmsOf start) (way_below ArmsOf w a)
        (rest_each Q (calls e (below Test w)) (points_of_arms declared arms (below ArmsOf w)) (rest_each Q (defined_by (switch s e arms) s declared named) (calls e (below Test w) ++ points_of_arms declared arms (below ArmsOf w)) k)) p x t
    eqn_stays declared named (switch s e arms) w start a k p x t = same _
    eqn_stays declared named (reset s b e) w start a k (Test ∷ p) x t =
        expr_stays e (below Test w) (part Test start) (way_below Test w a)
        (rest_each Q (points_of declared b (below Body w)) (calls e (below Test w)) (rest_each Q (defined_by (reset s b e) s declared named) (points_of declared b (below Body w) ++ calls e (below Test w)) k)) p x t
    eqn_stays declared named (reset s b e) w start a k (Body ∷ p) x t =
        block_stays declared b (below Body w) (part Body start) (way_below Body w a)
        (first_each Q (points_of declared b (below Body w)) (calls e (below Test w)) (rest_each Q (defined_by (reset s b e) s declared named) (points_of declared b (below Body w) ++ calls e (below Test w)) k)) p x t
    eqn_stays declared named (reset s b e) w start a k p x t = same _
    eqn_stays declared named (automaton s ss) w start a k (StatesOf ∷ p) x t =
        states_stay declared ss (below StatesOf w) (part StatesOf start) (way_below StatesOf w a) (rest_each Q (defined_by (automaton s ss) s declared named) (points_of_states declared ss (below StatesOf w)) k.1.1) p x t
    eqn_stays declared named (automaton s ss) w start a k p x t = same _

    arms_stay : (declared : List (List ℕ)) (arms : Arms) (w : Whereabouts) (start : Instant) → Way w → EachCall Q (points_of_arms declared arms w) → Stays w (mend_arms callee arms start)
    arms_stay declared no_arm w start a k p x t = same _
    arms_stay declared (more_arms c b s arms) w start a k (Head ∷ p) x t =
        block_stays declared b (below Head w) (part Head start) (way_below Head w a) (first_each Q (points_of declared b (below Head w)) (points_of_arms declared arms (below Tail w)) k) p x t
    arms_stay declared (more_arms c b s arms) w start a k (Tail ∷ p) x t =
        arms_stay declared arms (below Tail w) (part Tail start) (way_below Tail w a) (rest_each Q (points_of declared b (below Head w)) (points_of_arms declared arms (below Tail w)) k) p x t
    arms_stay declared (more_arms c b s arms) w start a k p x t = same _

    states_stay : (declared : List (List ℕ)) (ss : States) (w : Whereabouts) (start : Instant) → Way w → EachCall Q (points_of_states declared ss w) → Stays w (mend_states callee ss start)
    states_stay declared no_state w start a k p x t = same _
    states_stay declared (more_states y b until unless s ss) w start a k (Head ∷ Body ∷ p) x t =
        block_stays declared b (below Body (below Head w)) (part Body (part Head start)) (way_below Body (below Head w) (way_below Head w a))
        (first_each Q (points_of declared b (below Body (below Head w))) (conditions until (below Until (below Head w)) ++ (conditions unless (below Unless (below Head w)) ++ points_of_states declared ss (below Tail w))) k) p x t
    states_stay declared (more_states y b until unless s ss) w start a k (Head ∷ Until ∷ p) x t =
        tests_stay until (below Until (below Head w)) (part Until (part Head start)) (way_below Until (below Head w) (way_below Head w a))
        (first_each Q (conditions until (below Until (below Head w))) (conditions unless (below Unless (below Head w)) ++ points_of_states declared ss (below Tail w))
        (rest_each Q (points_of declared b (below Body (below Head w))) (conditions until (below Until (below Head w)) ++ (conditions unless (below Unless (below Head w)) ++ points_of_states declared ss (below Tail w))) k)) p x t
    states_stay declared (more_states y b until unless s ss) w start a k (Head ∷ Unless ∷ p) x t =
        tests_stay unless (below Unless (below Head w)) (part Unless (part Head start)) (way_below Unless (below Head w) (way_below Head w a))
        (first_each Q (conditions unless (below Unless (below Head w))) (points_of_states declared ss (below Tail w)) (rest_each Q (conditions until (below Until (below Head w))) (conditions unless (below Unless (below Head w)) ++ points_of_states declared ss (below Tail w))
        (rest_each Q (points_of declared b (below Body (below Head w))) (conditions until (below Until (below Head w)) ++ (conditions unless (below Unless (below Head w)) ++ points_of_states declared ss (below Tail w))) k))) p x t
    states_stay declared (more_states y b until unless s ss) w start a k (Tail ∷ p) x t =
        states_stay declared ss (below Tail w) (part Tail start) (way_below Tail w a)
        (rest_each Q (conditions unless (below Unless (below Head w))) (points_of_states declared ss (below Tail w)) (rest_each Q (conditions until (below Until (below Head w))) (conditions unless (below Unless (below Head w)) ++ points_of_states declared ss (below Tail w))
        (rest_each Q (points_of declared b (below Body (below Head w))) (conditions until (below Until (below Head w)) ++ (conditions unless (below Unless (below Head w)) ++ points_of_states declared ss (below Tail w))) k))) p x t
    states_stay declared (more_states y b until unless s ss) w start a k p x t = same _

  told_stays : (o : Option Expr) (w : Whereabouts) (start : Instant) → Way w → EachCall Q (calls_told o w) → Stays w (mend_told callee o start)
  told_stays None w start a k p x t = same _
  told_stays (Some e) w start a k p x t = expr_stays e w start a k p x t

  pub contract_stays : (o : Option Contract) (w : Whereabouts) (start : Instant) → Way w → EachCall Q (points_of_contract o w) → Stays w (mend_contract callee o start)
  contract_stays None w start a k p x t = same _
  contract_stays (Some c) w start a k (Observer ∷ p) x t =
      block_stays [] c.body (below Observer w) (part Observer start) (way_below Observer w a) (first_each Q (points_of [] c.body (below Observer w)) (calls_told c.assume (below Assume w) ++ calls_told c.enforce (below Enforce w)) k) p x t
  contract_stays (Some c) w start a k (Assume ∷ p) x t =
      told_stays c.assume (below Assume w) (part Assume start) (way_below Assume w a)
      (first_each Q (calls_told c.assume (below Assume w)) (calls_told c.enforce (below Enforce w)) (rest_each Q (points_of [] c.body (below Observer w)) (calls_told c.assume (below Assume w) ++ calls_told c.enforce (below Enforce w)) k)) p x t
  contract_stays (Some c) w start a k (Enforce ∷ p) x t =
      told_stays c.enforce (below Enforce w) (part Enforce start) (way_below Enforce w a)
      (rest_each Q (calls_told c.assume (below Assume w)) (calls_told c.enforce (below Enforce w)) (rest_each Q (points_of [] c.body (below Observer w)) (calls_told c.assume (below Assume w) ++ calls_told c.enforce (below Enforce w)) k)) p x t
  contract_stays (Some c) w start a k p x t = same _

  pub node_stays : (n : Node) (start : Instant) → EachCall Q (points n) → Stays (λ p. p) (mend_node callee n start)
  node_stays n start k p x t = by p x t
    where
      here : Whereabouts
      here q = q

      rest : EachCall Q (points_of_contract n.contract (λ q. q) ++ points_of (names_of n.outputs) n.body (λ q. Body ∷ q))
      rest = rest_each Q (controls (controls_of n.contract) (λ q. Controls ∷ q)) (points_of_contract n.contract (λ q. q) ++ points_of (names_of n.outputs) n.body (λ q. Body ∷ q)) k

      in_contract : Stays (λ q. q) (mend_contract callee n.contract start)
      in_contract = contract_stays n.contract (λ q. q) start (λ q. refl) (first_each Q (points_of_contract n.contract (λ q. q)) (points_of (names_of n.outputs) n.body (λ q. Body ∷ q)) rest)

      by : Stays (λ q. q) (mend_node callee n start)
      by (Body ∷ p) x t = block_stays (names_of n.outputs) n.body (λ q. Body ∷ q) (part Body start) (λ q. refl) (rest_each Q (points_of_contract n.contract (λ q. q)) (points_of (names_of n.outputs) n.body (λ q. Body ∷ q)) rest) p x t
      by p x t = in_contract p x t

-- In a contract that calls nothing all outputs stay.
pub alone_stays : (o : Option Contract) (start : Instant) (p : Place) (x : List ℕ) (v : Value) → mend_contract mend_none o start (p ++ (Instance ∷ Named x ∷ [])) v ≡ v
alone_stays o start p x v =
    sym (contract_stays mend_none (λ q. Nil) (λ q. v) (λ v w. v ≡ w) (λ v. refl) (λ c. ⊤) (λ f s w start a k x t. refl) (λ f start p x v. refl) o (λ q. q) start (λ q. refl) (any (points_of_contract o (λ q. q))) p x refl)
  where
    any : (cs : List Placed) → EachCall (λ c. ⊤) cs
    any [] = tt
    any (c ∷ cs) = ((λ e. tt), any cs)

-- ---- what was given

no_call : {X : Type 0} → IsTrue false → X
no_call e = absurd (cc)

module _ (types : List TypeDecl) (kept : List ℕ → Instant → Instant → Type 0) (given : List ℕ → Instant → Type 0) (free : Instant) (Q : Placed → Type 0)
    (own : (f : List ℕ) (s : Span) (w : Whereabouts) (start mem i : Instant) → Way w → ((p : Place) → free (w p) ≡ i p) → kept f (part Instance start) (part Instance mem) → given f (part Instance i) → Q (point_at kind.Call f s (w []))) where
  module _ (s : Scope) where
    mutual
      expr_has : (e : Expr) (w : Whereabouts) (start mem i : Instant) → Way w → ((p : Place) → free (w p) ≡ i p) → ExprKept types kept s e start mem → ExprGiven types given s e i → EachCall Q (calls e w)
      expr_has (constant at c) w start mem i a u k g = tt
      expr_has (variable at x) w start mem i a u k g = tt
      expr_has (last_of at x) w start mem i a u k g = tt
      expr_has (one at o b) w start mem i a u k g = expr_has b (below First w) (part First start) (part First mem) (part First i) (way_below First w a) (λ p. u (First ∷ p)) k g
      expr_has (two at o b c) w start mem i a u k g =
          each_append Q (calls b (below First w)) (calls c (below Second w)) (expr_has b (below First w) (part First start) (part First mem) (part First i) (way_below First w a) (λ p. u (First ∷ p)) k.0 g.1.0)
          (expr_has c (below Second w) (part Second start) (part Second mem) (part Second i) (way_below Second w a) (λ p. u (Second ∷ p)) k.1 g.1.1)
      expr_has (choose at b c d) w start mem i a u k g =
          each_append Q (calls b (below First w)) (calls c (below Second w) ++ calls d (below Third w)) (expr_has b (below First w) (part First start) (part First mem) (part First i) (way_below First w a) (λ p. u (First ∷ p)) k.0 g.0)
          (each_append Q (calls c (below Second w)) (calls d (below Third w)) (expr_has c (below Second w) (part Second start) (part Second mem) (part Second i) (way_below Second w a) (λ p. u (Second ∷ p)) k.1.0 g.1.0)
          (expr_has d (below Third w) (part Third start) (part Third mem) (part Third i) (way_below Third w a) (λ p. u (Third ∷ p)) k.1.1 g.1.1))
      expr_has (pre at b) w start mem i a u k g = expr_has b (below First w) (part First start) (part First mem) (part First i) (way_below First w a) (λ p. u (First ∷ p)) k.1.1 g
      expr_has (fby at b c) w start mem i a u k g =
          each_append Q (calls b (below First w)) (calls c (below Second w)) (expr_has b (below First w) (part First start) (part First mem) (part First i) (way_below First w a) (λ p. u (First ∷ p)) k.1.1.1.0 g.0)
          (expr_has c (below Second w) (part Second start) (part Second mem) (part Second i) (way_below Second w a) (λ p. u (Second ∷ p)) k.1.1.1.1 g.1)
      expr_has (arrow at b c) w start mem i a u k g =
          each_append Q (calls b (below First w)) (calls c (below Second w)) (expr_has b (below First w) (part First start) (part First mem) (part First i) (way_below First w a) (λ p. u (First ∷ p)) k.1.0 g.0)
          (expr_has c (below Second w) (part Second start) (part Second mem) (part Second i) (way_below Second w a) (λ p. u (Second ∷ p)) k.1.1 g.1)
      expr_has (when_is at b c x) w start mem i a u k g = expr_has b (below First w) (part First start) (part First mem) (part First i) (way_below First w a) (λ p. u (First ∷ p)) k g
      expr_has (merge at x ps) w start mem i a u k g = parts_have ps (below Args w) (part Args start) (part Args mem) (part Args i) (way_below Args w a) (λ p. u (Args ∷ p)) k g
      expr_has (call at f inlined es) w start mem i a u k g =
          ((λ e. own f at w start mem i a u k.1 g.1), exprs_have es (below Args w) (part Args start) (part Args mem) (part Args i) (way_below Args w a) (λ p. u (Args ∷ p)) k.0 g.0)

      exprs_have : (es : Exprs) (w : Whereabouts) (start mem i : Instant) → Way w → ((p : Place) → free (w p) ≡ i p) → ExprsKept types kept s es start mem → ExprsGiven types given s es i → EachCall Q (calls_in_all es w)
      exprs_have no_expr w start mem i a u k g = tt
      exprs_have (more_exprs e es) w start mem i a u k g =
          each_append Q (calls e (below Head w)) (calls_in_all es (below Tail w)) (expr_has e (below Head w) (part Head start) (part Head mem) (part Head i) (way_below Head w a) (λ p. u (Head ∷ p)) k.0 g.0)
          (exprs_have es (below Tail w) (part Tail start) (part Tail mem) (part Tail i) (way_below Tail w a) (λ p. u (Tail ∷ p)) k.1 g.1)

      parts_have : (ps : Parts) (w : Whereabouts) (start mem i : Instant) → Way w → ((p : Place) → free (w p) ≡ i p) → PartsKept types kept s ps start mem → PartsGiven types given s ps i → EachCall Q (calls_in_parts ps w)
      parts_have no_part w start mem i a u k g = tt
      parts_have (more_parts c e ps) w start mem i a u k g =
          each_append Q (calls e (below Head w)) (calls_in_parts ps (below Tail w)) (expr_has e (below Head w) (part Head start) (part Head mem) (part Head i) (way_below Head w a) (λ p. u (Head ∷ p)) k.0 g.0)
          (parts_have ps (below Tail w) (part Tail start) (part Tail mem) (part Tail i) (way_below Tail w a) (λ p. u (Tail ∷ p)) k.1 g.1)

    tests_have : (ts : List Trans) (w : Whereabouts) (start mem i : Instant) → Way w → ((p : Place) → free (w p) ≡ i p) → TestsKept types kept s ts start mem → TestsGiven types given s ts i → EachCall Q (conditions ts w)
    tests_have [] w start mem i a u k g = tt
    tests_have (t ∷ ts) w start mem i a u k g = (
      (λ e. no_call e),
      each_append Q (calls t.cond (below Head w)) (conditions ts (below Tail w)) (expr_has t.cond (below Head w) (part Head start) (part Head mem) (part Head i) (way_below Head w a) (λ p. u (Head ∷ p)) k.0 g.0)
          (tests_have ts (below Tail w) (part Tail start) (part Tail mem) (part Tail i) (way_below Tail w a) (λ p. u (Tail ∷ p)) k.1 g.1),
    )

  mutual
    block_has : (declared : List (List ℕ)) (b : Block) (s : Scope) (w : Whereabouts) (start mem i : Instant) → Way w → ((p : Place) → free (w p) ≡ i p) → BlockKept types kept s b start mem → BlockGiven types given s b i → EachCall Q (points_of declared b w)
    block_has declared (block ds es) s w start mem i a u k g =
        eqns_have (declared ++ names_of ds) (λ y. w (Named y ∷ [])) es (with_variables s ds) (below Equations w) (part Equations start) (part Equations mem) (part Equations i) (way_below Equations w a) (λ p. u (Equations ∷ p)) k.1 g

    eqns_have : (declared : List (List ℕ)) (named : List ℕ → Place) (es : Eqns) (s : Scope) (w : Whereabouts) (start mem i : Instant) → Way w → ((p : Place) → free (w p) ≡ i p) → EqnsKept types kept s es start mem → EqnsGiven types given s es i → EachCall Q (points_of_all declared named es w)
    eqns_have declared named no_eqn s w start mem i a u k g = tt
    eqns_have declared named (more_eqns e es) s w start mem i a u k g =
        each_append Q (points_of_one declared named e (below Head w)) (points_of_all declared named es (below Tail w)) (eqn_has declared named e s (below Head w) (part Head start) (part Head mem) (part Head i) (way_below Head w a) (λ p. u (Head ∷ p)) k.0 g.0)
        (eqns_have declared named es s (below Tail w) (part Tail start) (part Tail mem) (part Tail i) (way_below Tail w a) (λ p. u (Tail ∷ p)) k.1 g.1)

    eqn_has : (declared : List (List ℕ)) (named : List ℕ → Place) (e : Eqn) (s : Scope) (w : Whereabouts) (start mem i : Instant) → Way w → ((p : Place) → free (w p) ≡ i p) → EqnKept types kept s e start mem → EqnGiven types given s e i → EachCall Q (points_of_one declared named e w)
    eqn_has declared named (define at ys e) s w start mem i a u k g =
        each_append Q (lefts ys named) (calls e (below Right w)) (each_left Q ys named) (expr_has s e (below Right w) (part Right start) (part Right mem) (part Right i) (way_below Right w a) (λ p. u (Right ∷ p)) k g)
    eqn_has declared named (switch at e arms) s w start mem i a u k g =
        each_append Q (defined_by (switch at e arms) at declared named) (calls e (below Test w) ++ points_of_arms declared arms (below ArmsOf w)) (each_def Q (filter (defines (switch at e arms)) declared) at named)
        (each_append Q (calls e (below Test w)) (points_of_arms declared arms (below ArmsOf w)) (expr_has s e (below Test w) (part Test start) (part Test mem) (part Test i) (way_below Test w a) (λ p. u (Test ∷ p)) k.0 g.0)
        (arms_have declared arms s (below ArmsOf w) (part ArmsOf start) (part ArmsOf mem) (part ArmsOf i) (way_below ArmsOf w a) (λ p. u (ArmsOf ∷ p)) k.1 g.1))
    eqn_has declared named (reset at b e) s w start mem i a u k g =
        each_append Q (defined_by (reset at b e) at declared named) (points_of declared b (below Body w) ++ calls e (below Test w)) (each_def Q (filter (defines (reset at b e)) declared) at named)
        (each_append Q (points_of declared b (below Body w)) (calls e (below Test w)) (block_has declared b s (below Body w) (part Body start) (part Body mem) (part Body i) (way_below Body w a) (λ p. u (Body ∷ p)) k.1 g.1)
        (expr_has s e (below Test w) (part Test start) (part Test mem) (part Test i) (way_below Test w a) (λ p. u (Test ∷ p)) k.0 g.0))
    eqn_has declared named (automaton at ss) s w start mem i a u k g = (
      (λ e. no_call e),
      (
        (λ e. no_call e),
        each_append Q (defined_by (automaton at ss) at declared named) (points_of_states declared ss (below StatesOf w)) (each_def Q (filter (defines (automaton at ss)) declared) at named)
            (states_have declared ss s (below StatesOf w) (part StatesOf start) (part StatesOf mem) (part StatesOf i) (way_below StatesOf w a) (λ p. u (StatesOf ∷ p)) k.1.1 g),
      ),
    )

    arms_have : (declared : List (List ℕ)) (arms : Arms) (s : Scope) (w : Whereabouts) (start mem i : Instant) → Way w → ((p : Place) → free (w p) ≡ i p) → ArmsKept types kept s arms start mem → ArmsGiven types given s arms i → EachCall Q (points_of_arms declared arms w)
    arms_have declared no_arm s w start mem i a u k g = tt
    arms_have declared (more_arms c b at arms) s w start mem i a u k g =
        each_append Q (points_of declared b (below Head w)) (points_of_arms declared arms (below Tail w)) (block_has declared b s (below Head w) (part Head start) (part Head mem) (part Head i) (way_below Head w a) (λ p. u (Head ∷ p)) k.0 g.0)
        (arms_have declared arms s (below Tail w) (part Tail start) (part Tail mem) (part Tail i) (way_below Tail w a) (λ p. u (Tail ∷ p)) k.1 g.1)

    states_have : (declared : List (List ℕ)) (ss : States) (s : Scope) (w : Whereabouts) (start mem i : Instant) → Way w → ((p : Place) → free (w p) ≡ i p) → StatesKept types kept s ss start mem → StatesGiven types given s ss i → EachCall Q (points_of_states declared ss w)
    states_have declared no_state s w start mem i a u k g = tt
    states_have declared (more_states y b until unless at ss) s w start mem i a u k g =
        let h = way_below Head w a in
        each_append Q (points_of declared b (below Body (below Head w))) (conditions until (below Until (below Head w)) ++ (conditions unless (below Unless (below Head w)) ++ points_of_states declared ss (below Tail w)))
        (block_has declared b s (below Body (below Head w)) (part Body (part Head start)) (part Body (part Head mem)) (part Body (part Head i)) (way_below Body (below Head w) h) (λ p. u (Head ∷ Body ∷ p)) k.0 g.0)
        (each_append Q (conditions until (below Until (below Head w))) (conditions unless (below Unless (below Head w)) ++ points_of_states declared ss (below Tail w))
        (tests_have (into s b) until (below Until (below Head w)) (part Until (part Head start)) (part Until (part Head mem)) (part Until (part Head i)) (way_below Until (below Head w) h) (λ p. u (Head ∷ Until ∷ p)) k.1.0 g.1.0)
        (each_append Q (conditions unless (below Unless (below Head w))) (points_of_states declared ss (below Tail w))
        (tests_have s unless (below Unless (below Head w)) (part Unless (part Head start)) (part Unless (part Head mem)) (part Unless (part Head i)) (way_below Unless (below Head w) h) (λ p. u (Head ∷ Unless ∷ p)) k.1.1.0 g.1.1.0)
        (states_have declared ss s (below Tail w) (part Tail start) (part Tail mem) (part Tail i) (way_below Tail w a) (λ p. u (Tail ∷ p)) k.1.1.1 g.1.1.1)))

  told_has : (o : Option Expr) (s : Scope) (w : Whereabouts) (start mem i : Instant) → Way w → ((p : Place) → free (w p) ≡ i p) → ToldKept types kept s o start mem → ToldGiven types given s o i → EachCall Q (calls_told o w)
  told_has None s w start mem i a u k g = tt
  told_has (Some e) s w start mem i a u k g = expr_has s e w start mem i a u k g

  contract_has : (o : Option Contract) (s : Scope) (w : Whereabouts) (start mem i : Instant) → Way w
      → ((p : Place) → free (w (Observer ∷ p)) ≡ i (Observer ∷ p)) → ((p : Place) → free (w (Assume ∷ p)) ≡ i (Assume ∷ p)) → ((p : Place) → free (w (Enforce ∷ p)) ≡ i (Enforce ∷ p)) → ContractKept types kept s o start mem → ContractGiven types given s o i → EachCall Q (points_of_contract o w)
  contract_has None s w start mem i a u v x k g = tt
  contract_has (Some c) s w start mem i a u v x k g =
      each_append Q (points_of [] c.body (below Observer w)) (calls_told c.assume (below Assume w) ++ calls_told c.enforce (below Enforce w))
      (block_has [] c.body s (below Observer w) (part Observer start) (part Observer mem) (part Observer i) (way_below Observer w a) u k.0 g.0)
      (each_append Q (calls_told c.assume (below Assume w)) (calls_told c.enforce (below Enforce w)) (told_has c.assume (into s c.body) (below Assume w) (part Assume start) (part Assume mem) (part Assume i) (way_below Assume w a) v k.1.0 g.1.0)
      (told_has c.enforce (into s c.body) (below Enforce w) (part Enforce start) (part Enforce mem) (part Enforce i) (way_below Enforce w a) x k.1.1 g.1.1))

  -- each call of a node
  pub node_has : (n : Node) (s t : Scope) (start mem i : Instant) → ((p : Place) → free (Body ∷ p) ≡ i (Body ∷ p)) → ((p : Place) → free (Observer ∷ p) ≡ i (Observer ∷ p)) → ((p : Place) → free (Assume ∷ p) ≡ i (Assume ∷ p)) → ((p : Place) → free (Enforce ∷ p) ≡ i (Enforce ∷ p))
      → BlockKept types kept s n.body (part Body start) (part Body mem) → BlockGiven types given s n.body (part Body i) → ContractKept types kept t n.contract start mem → ContractGiven types given t n.contract i → EachCall Q (points n)
  node_has n s t start mem i b u v x kb gb kc gc =
      each_append Q (controls (controls_of n.contract) (λ q. Controls ∷ q)) (points_of_contract n.contract (λ q. q) ++ points_of (names_of n.outputs) n.body (λ q. Body ∷ q)) (each_control Q (controls_of n.contract) (λ q. Controls ∷ q))
      (each_append Q (points_of_contract n.contract (λ q. q)) (points_of (names_of n.outputs) n.body (λ q. Body ∷ q)) (contract_has n.contract t (λ q. q) start mem i (λ q. refl) u v x kc gc)
      (block_has (names_of n.outputs) n.body s (λ q. Body ∷ q) (part Body start) (part Body mem) (part Body i) (λ q. refl) b kb gb))
