-- Where nothing is called, it does not matter what calls bring; and what is so of equations in one order is so in another.
use Rattle.std.proofs.Common.{◌≡◌, ℕ, Bool, true, false, if◌then◌else◌, List, [], ◌∷◌, ◌++◌, map, Option, None, Some, inl, inr, refl, ap, ap₂, ◌∙◌}
use Rattle.hp_base.specs.declared.ty.Ty.{Ty}
use Rattle.hp_flat.specs.Equations.{FlatEqn}
use Rattle.hp_tree.specs.Blocks.{Block, block, Eqns, no_eqn, more_eqns, Eqn, define, switch, reset, automaton, Arms, no_arm, more_arms, States, no_state, more_states}
use Rattle.hp_tree.specs.declared.block.Trans.{Trans}
use Rattle.hp_tree.specs.Instant.{Body, Observer, Assume, Enforce, Equations, Head, Tail, Right, Test, Arms as ArmsOf, States as StatesOf, Until, Unless, First, Second, Third, Args}
use Rattle.hp_tree.specs.Expressions.{Expr, constant, variable, last_of, one, two, choose, pre, fby, arrow, when_is, merge, call, Parts, no_part, more_parts}
use Rattle.hp_tree.specs.Programs.{Contract}
use Rattle.hp_typing.specs.Scopes.{with_variables}
use Rattle.hp_typing.specs.Types.{type_of}
use Rattle.law_judged.specs.Typed.Scopes.{Scope}
use Rattle.law_automata.specs.Lowered.Standing.{Along}
use Rattle.law_drawing.proofs.SteeredLemmas.Uncalled.{ArmsCallNothing, BlockCallsNothing, CallsNothing, ConditionsCallNothing, ContractCallsNothing, EqnCallsNothing, EqnsCallNothing, PartsCallNothing, StatesCallNothing, ToldCallsNothing}
use Rattle.law_equations.specs.Flattened.Flatten.{Prefix, below}
use Rattle.law_equations.specs.Made.Laws.{unplaced}
use Rattle.law_equations.specs.Made.Making.{Known, Sketch}
use Rattle.hp_watch.specs.Walk.{is_event, walk_block, walk_condition, walk_contract}
use Rattle.law_choices.specs.Depending.Contracts.{at_assumed, at_enforced, found_in_contract, found_told}
use Rattle.law_choices.specs.Places.Found.{behind, behind_state, at_body, at_condition, at_states, both_compared, found, found_in_arms, found_in_block, found_in_body, found_in_conditions, found_in_eqn, found_in_eqns, found_in_parts, found_in_states}
use Rattle.law_choices.specs.Places.Laws.{events}
use Rattle.law_choices.proofs.BroughtLemmas.Brought.{Brings, brought, brought_by, brought_in_arms, brought_in_block, brought_in_eqn, brought_in_eqns, brought_in_parts}
use Rattle.law_choices.proofs.PlacesLemmas.Events.{heads_alike}
use Rattle.law_choices.proofs.PlacesLemmas.Relating.{Walks, along-both, block-goes, expr-goes}

module _ (g h : List ℕ → List Ty) where
  mutual
    expr-alone : (s : Scope) (e : Expr) → CallsNothing e → brought g s e ≡ brought h s e
    expr-alone s (constant a c) n = refl
    expr-alone s (variable a x) n = refl
    expr-alone s (last_of a x) n = refl
    expr-alone s (one a o b) n = expr-alone s b n
    expr-alone s (two a o b c) n = ap₂ (λ xs ys. xs ++ (ys ++ brought_by g o (type_of s b))) (expr-alone s b n.0) (expr-alone s c n.1)
    expr-alone s (choose a b c d) n = ap₂ (λ xs ys. xs ++ ys) (expr-alone s b n.0) (ap₂ (λ xs ys. xs ++ ys) (expr-alone s c n.1) (expr-alone s d n.2))
    expr-alone s (pre a b) n = expr-alone s b n
    expr-alone s (fby a b c) n = ap₂ (λ xs ys. xs ++ ys) (expr-alone s b n.0) (expr-alone s c n.1)
    expr-alone s (arrow a b c) n = ap₂ (λ xs ys. xs ++ ys) (expr-alone s b n.0) (expr-alone s c n.1)
    expr-alone s (when_is a b c x) n = expr-alone s b n
    expr-alone s (merge a x ps) n = parts-alone s ps n
    expr-alone s (call a f i es) n = absurd n

    parts-alone : (s : Scope) (ps : Parts) → PartsCallNothing ps → brought_in_parts g s ps ≡ brought_in_parts h s ps
    parts-alone s no_part n = refl
    parts-alone s (more_parts c e ps) n = ap₂ (λ xs ys. xs ++ ys) (expr-alone s e n.0) (parts-alone s ps n.1)

  mutual
    pub block-alone : (s : Scope) (b : Block) → BlockCallsNothing b → brought_in_block g s b ≡ brought_in_block h s b
    block-alone s (block ds es) n = eqns-alone (with_variables s ds) es n

    eqns-alone : (s : Scope) (es : Eqns) → EqnsCallNothing es → brought_in_eqns g s es ≡ brought_in_eqns h s es
    eqns-alone s no_eqn n = refl
    eqns-alone s (more_eqns e es) n = ap₂ (λ xs ys. xs ++ ys) (eqn-alone s e n.0) (eqns-alone s es n.1)

    eqn-alone : (s : Scope) (e : Eqn) → EqnCallsNothing e → brought_in_eqn g s e ≡ brought_in_eqn h s e
    eqn-alone s (define a ys e) n = expr-alone s e n
    eqn-alone s (switch a e arms) n = ap₂ (λ xs ys. xs ++ ys) (expr-alone s e n.0) (arms-alone s arms n.1)
    eqn-alone s (reset a b e) n = ap₂ (λ xs ys. xs ++ ys) (expr-alone s e n.1) (block-alone s b n.0)
    eqn-alone s (automaton a ss) n = refl

    arms-alone : (s : Scope) (arms : Arms) → ArmsCallNothing arms → brought_in_arms g s arms ≡ brought_in_arms h s arms
    arms-alone s no_arm n = refl
    arms-alone s (more_arms c b a arms) n = ap₂ (λ xs ys. xs ++ ys) (block-alone s b n.0) (arms-alone s arms n.1)

-- ---- where equations stand does not matter

module _ (given : List ℕ → List Ty) (k : Known) (d : Sketch) where
  bring-alike : (e x : FlatEqn) (l : List Ty) → unplaced e ≡ unplaced x → Brings given k d x l → Brings given k d e l
  bring-alike e x l q (inl c) =
      inl (record {
        op = c.op;
        first = c.first;
        second = c.second;
        right = ap (λ (z : FlatEqn). z.right) q ∙ c.right;
        type = c.type;
        typed = c.typed;
        target = c.target;
        targets = ap (λ (z : FlatEqn). z.targets) q ∙ c.targets;
        truth = c.truth;
        brings = c.brings;
      })
  bring-alike e x l q (inr c) =
      inr (record { callee = c.callee; args = c.args; right = ap (λ (z : FlatEqn). z.right) q ∙ c.right; from = c.from; targets = ap (λ (z : FlatEqn). z.targets) q ∙ c.targets; typed = c.typed; brings = c.brings })

  pub brought-alike : (es xs : List FlatEqn) (ls : List (List Ty)) → map unplaced es ≡ map unplaced xs → Along (Brings given k d) (events xs) ls → Along (Brings given k d) (events es) ls
  brought-alike [] [] ls q a = a
  brought-alike [] (x ∷ xs) ls q a = absurd cc
  brought-alike (e ∷ es) [] ls q a = absurd cc
  brought-alike (e ∷ es) (x ∷ xs) ls q a =
      let both = heads_alike e x es xs q in
      by (is_event e.right) (is_event x.right) ls (ap (λ (z : FlatEqn). is_event z.right) both.0) a (λ ms b. brought-alike es xs ms both.1 b) both.0
    where
      by : (b c : Bool) (ls : List (List Ty)) → b ≡ c → Along (Brings given k d) (if c then x ∷ events xs else events xs) ls → ((ms : List (List Ty)) → Along (Brings given k d) (events xs) ms → Along (Brings given k d) (events es) ms) → unplaced e ≡ unplaced x
          → Along (Brings given k d) (if b then e ∷ events es else events es) ls
      by true true [] r a rest q = absurd a
      by true true (l ∷ ls) r a rest q = (bring-alike e x l q a.0, rest ls a.1)
      by true false ls r a rest q = absurd cc
      by false true ls r a rest q = absurd cc
      by false false ls r a rest q = rest ls a

-- ---- a walk over a contract goes along with whatever relates events

module _ {X Y : Type 0} (P : X → Y → Type 0) where
  condition-goes : (o : Option Expr) (xs : List X) (ys : List Y) → Along P xs ys → Walks P (walk_condition o xs) (walk_condition o ys)
  condition-goes None xs ys h = (tt, h)
  condition-goes (Some e) xs ys h = expr-goes P e xs ys h

  pub contract-goes : (c : Contract) (xs : List X) (ys : List Y) → Along P xs ys → Walks P (walk_contract c xs) (walk_contract c ys)
  contract-goes c xs ys h =
      let x1 = walk_block c.body xs in
      let y1 = walk_block c.body ys in
      let b = block-goes P c.body xs ys h in
      let x2 = walk_condition c.assume x1.1 in
      let y2 = walk_condition c.assume y1.1 in
      let a = condition-goes c.assume x1.1 y1.1 b.1 in
      let e = condition-goes c.enforce x2.1 y2.1 a.1 in
      (along-both P (x1.0 ++ x2.0) (walk_condition c.enforce x2.1).0 (y1.0 ++ y2.0) (walk_condition c.enforce y2.1).0 (along-both P x1.0 x2.0 y1.0 y2.0 b.0 a.0) e.0, e.1)

-- ---- what is found where nothing is called, whatever nodes give

module _ (o u : List ℕ → List (List ℕ)) where
  mutual
    found-expr : (e : Expr) (w here : Prefix) → CallsNothing e → found o e w here ≡ found u e w here
    found-expr (constant a c) w here n = refl
    found-expr (variable a x) w here n = refl
    found-expr (last_of a x) w here n = refl
    found-expr (one a q b) w here n = found-expr b (below First w) (below First here) n
    found-expr (two a q b c) w here n = ap₂ (λ xs ys. both_compared o q w here ++ (xs ++ ys)) (found-expr b (below First w) (below First here) n.0) (found-expr c (below Second w) (below Second here) n.1)
    found-expr (choose a b c d) w here n = ap₂ (λ xs ys. xs ++ ys) (found-expr b (below First w) (below First here) n.0) (ap₂ (λ xs ys. xs ++ ys) (found-expr c (below Second w) (below Second here) n.1) (found-expr d (below Third w) (below Third here) n.2))
    found-expr (pre a b) w here n = found-expr b (below First w) (below First here) n
    found-expr (fby a b c) w here n = ap₂ (λ xs ys. xs ++ ys) (found-expr b (below First w) (below First here) n.0) (found-expr c (below Second w) (below Second here) n.1)
    found-expr (arrow a b c) w here n = ap₂ (λ xs ys. xs ++ ys) (found-expr b (below First w) (below First here) n.0) (found-expr c (below Second w) (below Second here) n.1)
    found-expr (when_is a b c x) w here n = found-expr b (below First w) (below First here) n
    found-expr (merge a x ps) w here n = found-parts ps (below Args w) (below Args here) n
    found-expr (call a f i es) w here n = absurd n

    found-parts : (ps : Parts) (w here : Prefix) → PartsCallNothing ps → found_in_parts o ps w here ≡ found_in_parts u ps w here
    found-parts no_part w here n = refl
    found-parts (more_parts c e ps) w here n = ap₂ (λ xs ys. xs ++ ys) (found-expr e (below Head w) (below Head here) n.0) (found-parts ps (below Tail w) (below Tail here) n.1)

  found-conditions : (ts : List Trans) (w here : Prefix) → ConditionsCallNothing ts → found_in_conditions o ts w here ≡ found_in_conditions u ts w here
  found-conditions [] w here n = refl
  found-conditions (t ∷ ts) w here n = ap₂ (λ xs ys. xs ++ ys) (found-expr t.cond (below Head w) (at_condition here) n.0) (found-conditions ts (below Tail w) (below Tail here) n.1)

  mutual
    found-block : (b : Block) (w here : Prefix) → BlockCallsNothing b → found_in_block o b w here ≡ found_in_block u b w here
    found-block (block ds es) w here n = found-eqns es (below Equations w) (below Equations here) n

    found-eqns : (es : Eqns) (w here : Prefix) → EqnsCallNothing es → found_in_eqns o es w here ≡ found_in_eqns u es w here
    found-eqns no_eqn w here n = refl
    found-eqns (more_eqns e es) w here n = ap₂ (λ xs ys. xs ++ ys) (found-eqn e (below Head w) (below Head here) n.0) (found-eqns es (below Tail w) (below Tail here) n.1)

    found-eqn : (e : Eqn) (w here : Prefix) → EqnCallsNothing e → found_in_eqn o e w here ≡ found_in_eqn u e w here
    found-eqn (define a ys e) w here n = found-expr e (below Right w) (below Right here) n
    found-eqn (switch a e arms) w here n = ap₂ (λ xs ys. xs ++ ys) (found-expr e (below Test w) (below Test here) n.0) (found-arms arms (below ArmsOf w) (below ArmsOf here) n.1)
    found-eqn (reset a b e) w here n = ap₂ (λ xs ys. xs ++ ys) (found-block b (below Body w) (below Body here) n.0) (found-expr e (below Test w) (below Test here) n.1)
    found-eqn (automaton a ss) w here n = found-states ss (below StatesOf w) (at_states ss here) n

    found-arms : (arms : Arms) (w here : Prefix) → ArmsCallNothing arms → found_in_arms o arms w here ≡ found_in_arms u arms w here
    found-arms no_arm w here n = refl
    found-arms (more_arms c b a arms) w here n = ap₂ (λ xs ys. xs ++ ys) (found-block b (below Head w) (below Head here) n.0) (found-arms arms (below Tail w) (below Tail here) n.1)

    found-states : (ss : States) (w here : Prefix) → StatesCallNothing ss → found_in_states o ss w here ≡ found_in_states u ss w here
    found-states no_state w here n = refl
    found-states (more_states f b until unless a ss) w here n =
        ap₂ (λ xs ys. xs ++ ys) (found-body until b (below Body (below Head w)) (at_body unless here) n.0)
        (ap₂ (λ xs ys. xs ++ ys) (found-conditions until (below Until (below Head w)) (below Equations (at_body unless here)) n.1)
        (ap₂ (λ xs ys. xs ++ ys) (found-conditions unless (below Unless (below Head w)) here n.2) (found-states ss (below Tail w) (behind_state unless here) n.3)))

    found-body : (until : List Trans) (b : Block) (w here : Prefix) → BlockCallsNothing b → found_in_body o until b w here ≡ found_in_body u until b w here
    found-body until (block ds es) w here n = found-eqns es (below Equations w) (below Tail (behind until (below Equations here))) n

  found-told : (e : Option Expr) (w here : Prefix) → ToldCallsNothing e → found_told o e w here ≡ found_told u e w here
  found-told None w here n = refl
  found-told (Some e) w here n = found-expr e w here n

  pub found-alone : (c : Contract) → ContractCallsNothing (Some c) → found_in_contract o c ≡ found_in_contract u c
  found-alone c n =
      ap₂ (λ xs ys. xs ++ ys) (found-block c.body (λ p. Observer ∷ p) (λ p. Body ∷ p) n.0)
      (ap₂ (λ xs ys. xs ++ ys) (found-told c.assume (λ p. Assume ∷ p) (at_assumed c.body) n.1) (found-told c.enforce (λ p. Enforce ∷ p) (at_enforced c.body) n.2))
