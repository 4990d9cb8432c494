-- Where first values are given, a call is given those of its node.
use Rattle.std.proofs.Common.{◌≡◌, ℕ, List, [], ◌∷◌, ◌++◌, refl, sym, ap, subst, ◌∙◌}
use Rattle.std.specs.Prelude.{Bool, true, IsTrue, IsFalse, if◌then◌else◌, reverse}
use Rattle.std.specs.Str.{bytes_eq}
use Rattle.std.proofs.lemmas.Slice.Eq.{bytes_eq-Decides}
use Rattle.std.proofs.lemmas.List.{append_assoc}
use Rattle.hp_base.specs.declared.value.Value.{Value}
use Rattle.hp_tree.specs.declared.program.Item.{Item}
use Rattle.hp_tree.specs.declared.program.Item.TheVariants.{TypeItem, NodeItem}
use Rattle.hp_tree.specs.Expressions.{Expr, constant, variable, last_of, one, two, choose, pre, fby, arrow, when_is, merge, call, Exprs, no_expr, more_exprs, Parts, no_part, more_parts}
use Rattle.hp_tree.specs.Blocks.{Decl, Block, block, Eqns, no_eqn, more_eqns, Eqn, define, switch, reset, automaton, Arms, no_arm, more_arms}
use Rattle.hp_tree.specs.Programs.{TypeDecl}
use Rattle.hp_tree.specs.ExpressionTypes.{Scope, typed_in, untyped}
use Rattle.hp_tree.specs.Instant.{Body, Equations, Head, Tail, Right as RightOf, Test, Arms as ArmsOf, First, Second, Third, Args, Instance, Place, Instant, in_row}
use Rattle.hp_tree.specs.Meaning.{controls_of, node_among, types_of}
use Rattle.hp_tree.specs.Filled.{firsts, firsts_of_all, firsts_of_parts, firsts_of_block, firsts_of_equations, firsts_of_equation, firsts_of_arms, firsts_of_node, outputs_declared, firsts_among}
use Rattle.law_equations.specs.Flattened.Flatten.{Prefix, below}
use Rattle.law_equations.specs.Flattened.Lifted.{uncontrolled, in_body}
use Rattle.law_equations.specs.Flattened.Behaves.{EachCall, EachCallOfAll, EachCallOfParts, EachCallIn, EachCallInAll, EachCallInOne, EachCallInArms}
use Rattle.law_equations.specs.Answered.Answering.{has_node, AreApart, IsCalled, first_values}
use Rattle.law_equations.specs.Answered.Laws.{FirstsLaw}
use Rattle.law_equations.proofs.AnsweredLemmas.AnswerLaws.{unnamed, others_unnamed}
use Rattle.law_equations.proofs.AnsweredLemmas.NodeAnswerLaws.{none_later, none_here}

firsts_behind : (types : List TypeDecl) (later earlier : List Item) (f : List ℕ) → IsFalse (has_node later f) → (p : Place) → firsts_among types (later ++ earlier) f p ≡ firsts_among types earlier f p
firsts_behind types [] earlier f none p = refl
firsts_behind types (TypeItem t ∷ later) earlier f none p = firsts_behind types later earlier f none p
firsts_behind types (NodeItem n ∷ later) earlier f none p =
    ap (λ (i : Instant). i p) (unnamed (bytes_eq n.name f) (has_node later f) _ (firsts_among types (later ++ earlier) f) none)
    ∙ firsts_behind types later earlier f (others_unnamed (bytes_eq n.name f) (has_node later f) none) p

-- no place of a part is one of a controllable variable, unless it is within the part
abbrev Stays : Prefix → Type 0
Stays here = (p : Place) → IsTrue (uncontrolled p) → IsTrue (uncontrolled (here p))

module _ (types : List TypeDecl) (outputs : List ℕ → List Decl) (callee : List ℕ → Instant) (fill : Place → Value) (earlier : List Item) (fills : List ℕ → Place → Value)
    (given_to : (f : List ℕ) → IsTrue (has_node earlier f) → (p : Place) → callee f p ≡ fills f p) where
  abbrev IsThere : List ℕ → Prefix → Type 0
  IsThere f here = IsTrue (has_node earlier f)

  -- what is given at the places of a part are these values
  abbrev Gives : Prefix → Instant → Type 0
  Gives here i = (p : Place) → fill (here p) ≡ i p

  mutual
    in_expr : (e : Expr) (names : Scope) (here : Prefix) → Gives here (firsts types outputs callee e names) → Stays here → EachCall IsThere e here → EachCall (IsCalled earlier fills fill) e here
    in_expr (constant s c) names here g u h = tt
    in_expr (variable s x) names here g u h = tt
    in_expr (last_of s x) names here g u h = tt
    in_expr (one s o a) names here g u h = in_expr a names (below First here) (λ p. g (First ∷ p)) (λ p. u (First ∷ p)) h
    in_expr (two s o a b) names here g u h = (in_expr a names (below First here) (λ p. g (First ∷ p)) (λ p. u (First ∷ p)) h.0, in_expr b names (below Second here) (λ p. g (Second ∷ p)) (λ p. u (Second ∷ p)) h.1)
    in_expr (choose s a b c) names here g u h =
        (in_expr a names (below First here) (λ p. g (First ∷ p)) (λ p. u (First ∷ p)) h.0, in_expr b names (below Second here) (λ p. g (Second ∷ p)) (λ p. u (Second ∷ p)) h.1, in_expr c names (below Third here) (λ p. g (Third ∷ p)) (λ p. u (Third ∷ p)) h.2)
    in_expr (pre s a) names here g u h = in_expr a names (below First here) (λ p. g (First ∷ p)) (λ p. u (First ∷ p)) h
    in_expr (fby s a b) names here g u h = (in_expr a names (below First here) (λ p. g (First ∷ p)) (λ p. u (First ∷ p)) h.0, in_expr b names (below Second here) (λ p. g (Second ∷ p)) (λ p. u (Second ∷ p)) h.1)
    in_expr (arrow s a b) names here g u h = (in_expr a names (below First here) (λ p. g (First ∷ p)) (λ p. u (First ∷ p)) h.0, in_expr b names (below Second here) (λ p. g (Second ∷ p)) (λ p. u (Second ∷ p)) h.1)
    in_expr (when_is s a c x) names here g u h = in_expr a names (below First here) (λ p. g (First ∷ p)) (λ p. u (First ∷ p)) h
    in_expr (merge s x ps) names here g u h = in_parts ps names (below Args here) (λ p. g (Args ∷ p)) (λ p. u (Args ∷ p)) h
    in_expr (call s f inlined es) names here g u h =
        (record { declared = h.0; given_there = λ p k. (u (Instance ∷ p) k, g (Instance ∷ p) ∙ given_to f h.0 p) }, in_all es names (below Args here) (λ p. g (Args ∷ p)) (λ p. u (Args ∷ p)) h.1)

    in_all : (es : Exprs) (names : Scope) (here : Prefix) → Gives here (in_row (firsts_of_all types outputs callee es names)) → Stays here → EachCallOfAll IsThere es here → EachCallOfAll (IsCalled earlier fills fill) es here
    in_all no_expr names here g u h = tt
    in_all (more_exprs e es) names here g u h = (in_expr e names (below Head here) (λ p. g (Head ∷ p)) (λ p. u (Head ∷ p)) h.0, in_all es names (below Tail here) (λ p. g (Tail ∷ p)) (λ p. u (Tail ∷ p)) h.1)

    in_parts : (ps : Parts) (names : Scope) (here : Prefix) → Gives here (in_row (firsts_of_parts types outputs callee ps names)) → Stays here → EachCallOfParts IsThere ps here → EachCallOfParts (IsCalled earlier fills fill) ps here
    in_parts no_part names here g u h = tt
    in_parts (more_parts c e ps) names here g u h = (in_expr e names (below Head here) (λ p. g (Head ∷ p)) (λ p. u (Head ∷ p)) h.0, in_parts ps names (below Tail here) (λ p. g (Tail ∷ p)) (λ p. u (Tail ∷ p)) h.1)

  mutual
    in_scope : (b : Block) (names : Scope) (here : Prefix) → Gives here (firsts_of_block types outputs callee b names) → Stays here → EachCallIn IsThere b here → EachCallIn (IsCalled earlier fills fill) b here
    in_scope (block ds es) names here g u h = in_eqns es (typed_in ds names) (below Equations here) (λ p. g (Equations ∷ p)) (λ p. u (Equations ∷ p)) h

    in_eqns : (es : Eqns) (names : Scope) (here : Prefix) → Gives here (firsts_of_equations types outputs callee es names) → Stays here → EachCallInAll IsThere es here → EachCallInAll (IsCalled earlier fills fill) es here
    in_eqns no_eqn names here g u h = tt
    in_eqns (more_eqns e es) names here g u h = (in_eqn e names (below Head here) (λ p. g (Head ∷ p)) (λ p. u (Head ∷ p)) h.0, in_eqns es names (below Tail here) (λ p. g (Tail ∷ p)) (λ p. u (Tail ∷ p)) h.1)

    in_eqn : (e : Eqn) (names : Scope) (here : Prefix) → Gives here (firsts_of_equation types outputs callee e names) → Stays here → EachCallInOne IsThere e here → EachCallInOne (IsCalled earlier fills fill) e here
    in_eqn (define s ys e) names here g u h = in_expr e names (below RightOf here) (λ p. g (RightOf ∷ p)) (λ p. u (RightOf ∷ p)) h
    in_eqn (switch s e arms) names here g u h = (in_expr e names (below Test here) (λ p. g (Test ∷ p)) (λ p. u (Test ∷ p)) h.0, in_arms arms names (below ArmsOf here) (λ p. g (ArmsOf ∷ p)) (λ p. u (ArmsOf ∷ p)) h.1)
    in_eqn (reset s b e) names here g u h = (in_expr e names (below Test here) (λ p. g (Test ∷ p)) (λ p. u (Test ∷ p)) h.0, in_scope b names (below Body here) (λ p. g (Body ∷ p)) (λ p. u (Body ∷ p)) h.1)
    in_eqn (automaton s ss) names here g u h = tt

    in_arms : (arms : Arms) (names : Scope) (here : Prefix) → Gives here (firsts_of_arms types outputs callee arms names) → Stays here → EachCallInArms IsThere arms here → EachCallInArms (IsCalled earlier fills fill) arms here
    in_arms no_arm names here g u h = tt
    in_arms (more_arms c b s arms) names here g u h = (in_scope b names (below Head here) (λ p. g (Head ∷ p)) (λ p. u (Head ∷ p)) h.0, in_arms arms names (below Tail here) (λ p. g (Tail ∷ p)) (λ p. u (Tail ∷ p)) h.1)

pub firsts_called : FirstsLaw
firsts_called program apart later earlier n stands h =
    let types = types_of program in
    let items = reverse program in
    let apart_here = subst AreApart stands apart in
    let split : items ≡ (later ++ NodeItem n ∷ []) ++ earlier = stands ∙ sym (append_assoc later (NodeItem n ∷ []) earlier) in
    let itself : bytes_eq n.name n.name ≡ true = (bytes_eq-Decides n.name n.name).1 refl in
    let node_is : Instant = firsts_of_node types (λ g. outputs_declared (node_among earlier g)) (λ g. firsts_among types earlier g) n in
    let mine : (p : Place) → first_values program n.name p ≡ node_is p = λ p.
    ap (λ (xs : List Item). firsts_among types xs n.name p) stands
    ∙ firsts_behind types later (NodeItem n ∷ earlier) n.name (none_here later earlier n apart_here) p
    ∙ ap (λ (c : Bool). (if c then node_is else firsts_among types earlier n.name) p) itself in
    let others : (f : List ℕ) → IsTrue (has_node earlier f) → (p : Place) → firsts_among types earlier f p ≡ first_values program f p = λ f there p.
    sym (ap (λ (xs : List Item). firsts_among types xs f p) split ∙ firsts_behind types (later ++ NodeItem n ∷ []) earlier f (none_later (later ++ NodeItem n ∷ []) earlier f (subst AreApart split apart) there) p) in
    in_scope types (λ g. outputs_declared (node_among earlier g)) (λ g. firsts_among types earlier g) (first_values program n.name) earlier (first_values program) others
    n.body (typed_in (controls_of n.contract) (typed_in n.inputs (typed_in n.outputs untyped))) in_body (λ p. mine (Body ∷ p)) (λ p k. k) h
