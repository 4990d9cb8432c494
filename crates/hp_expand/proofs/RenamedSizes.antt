-- Renaming and numbering leave as much as there was.
use Rattle.std.proofs.Common.{◌≡◌, ℕ, suc, ◌+◌, length, map, List, [], ◌∷◌, Option, None, Some, refl, ap}
use Rattle.std.specs.Option.{option_map}
use Rattle.hp_base.specs.declared.span.Span.{Span}
use Rattle.hp_tree.specs.declared.block.Trans.{Trans}
use Rattle.hp_tree.specs.Expressions.{Expr, constant, variable, last_of, one, two, choose, pre, fby, arrow, when_is, merge, call, Exprs, no_expr, more_exprs, Parts, no_part, more_parts}
use Rattle.hp_tree.specs.Blocks.{Decl, Block, block, Eqns, no_eqn, more_eqns, Eqn, define, switch, reset, automaton, Arms, no_arm, more_arms, States, no_state, more_states}
use Rattle.hp_tree.specs.Programs.{Contract, Node}
use Rattle.hp_expand.specs.Sizes.{Size, places, join, deeper, of_call, in_expr, in_exprs, in_parts, in_right, in_transitions, in_block, in_eqns, in_eqn, in_arms, in_states, in_condition, in_contract, in_node}
use Rattle.hp_expand.specs.Renaming.{renamed, renamed_exprs, renamed_parts, renamed_decl, renamed_decls, renamed_left, renamed_transition, renamed_block, renamed_eqns, renamed_eqn, renamed_arms, renamed_states}
use Rattle.hp_expand.specs.Numbering as numbering

pub length-mapped : {A B : Type 0} (f : A → B) (xs : List A) → length (map f xs) ≡ length xs
length-mapped f [] = refl
length-mapped f (x ∷ xs) = ap suc (length-mapped f xs)

module _ (known : List ℕ → Size) where
  module _ (to : List ℕ → List ℕ) where
    mutual
      pub expr-renamed : (e : Expr) → in_expr known (renamed to e) ≡ in_expr known e
      expr-renamed (constant at c) = refl
      expr-renamed (variable at x) = refl
      expr-renamed (last_of at x) = refl
      expr-renamed (one at op a) = λ i. join (places 1) (expr-renamed a i)
      expr-renamed (two at op a b) = λ i. join (places 1) (join (expr-renamed a i) (expr-renamed b i))
      expr-renamed (choose at a b c) = λ i. join (places 1) (join (expr-renamed a i) (join (expr-renamed b i) (expr-renamed c i)))
      expr-renamed (pre at a) = λ i. join (places 1) (expr-renamed a i)
      expr-renamed (fby at a b) = λ i. join (places 1) (join (expr-renamed a i) (expr-renamed b i))
      expr-renamed (arrow at a b) = λ i. join (places 1) (join (expr-renamed a i) (expr-renamed b i))
      expr-renamed (when_is at a c x) = λ i. join (places 1) (expr-renamed a i)
      expr-renamed (merge at x ps) = λ i. join (places 1) (parts-renamed ps i)
      expr-renamed (call at f inlined es) = λ i. of_call 1 inlined (known f) (exprs-renamed es i)

      pub exprs-renamed : (es : Exprs) → in_exprs known (renamed_exprs to es) ≡ in_exprs known es
      exprs-renamed no_expr = refl
      exprs-renamed (more_exprs e es) = λ i. join (expr-renamed e i) (exprs-renamed es i)

      parts-renamed : (ps : Parts) → in_parts known (renamed_parts to ps) ≡ in_parts known ps
      parts-renamed no_part = refl
      parts-renamed (more_parts c e ps) = λ i. join (expr-renamed e i) (parts-renamed ps i)

    right-renamed : (m n : ℕ) (e : Expr) → m ≡ n → in_right known m (renamed to e) ≡ in_right known n e
    right-renamed m n (constant at c) h = refl
    right-renamed m n (variable at x) h = refl
    right-renamed m n (last_of at x) h = refl
    right-renamed m n (one at op a) h = expr-renamed (one at op a)
    right-renamed m n (two at op a b) h = expr-renamed (two at op a b)
    right-renamed m n (choose at a b c) h = expr-renamed (choose at a b c)
    right-renamed m n (pre at a) h = expr-renamed (pre at a)
    right-renamed m n (fby at a b) h = expr-renamed (fby at a b)
    right-renamed m n (arrow at a b) h = expr-renamed (arrow at a b)
    right-renamed m n (when_is at a c x) h = expr-renamed (when_is at a c x)
    right-renamed m n (merge at x ps) h = expr-renamed (merge at x ps)
    right-renamed m n (call at f inlined es) h = λ i. of_call (h i) inlined (known f) (exprs-renamed es i)

    pub definition-renamed : (xs : List (List ℕ × Span)) (e : Expr) → in_right known (length (renamed_left to xs)) (renamed to e) ≡ in_right known (length xs) e
    definition-renamed xs e = right-renamed (length (renamed_left to xs)) (length xs) e (length-mapped (λ x. (to x.0, x.1)) xs)

    pub transitions-renamed : (ts : List Trans) → in_transitions known (map (renamed_transition to) ts) ≡ in_transitions known ts
    transitions-renamed [] = refl
    transitions-renamed (t ∷ ts) = λ i. join (expr-renamed t.cond i) (transitions-renamed ts i)

    decls-renamed : (ds : List Decl) → places (length (renamed_decls to ds)) ≡ places (length ds)
    decls-renamed ds = ap places (length-mapped (renamed_decl to) ds)

    mutual
      block-renamed : (b : Block) → in_block known (renamed_block to b) ≡ in_block known b
      block-renamed (block ds es) = λ i. join (decls-renamed ds i) (eqns-renamed es i)

      pub eqns-renamed : (es : Eqns) → in_eqns known (renamed_eqns to es) ≡ in_eqns known es
      eqns-renamed no_eqn = refl
      eqns-renamed (more_eqns e es) = λ i. join (eqn-renamed e i) (eqns-renamed es i)

      eqn-renamed : (e : Eqn) → in_eqn known (renamed_eqn to e) ≡ in_eqn known e
      eqn-renamed (define at xs e) = definition-renamed xs e
      eqn-renamed (switch at e arms) = λ i. join (expr-renamed e i) (arms-renamed arms i)
      eqn-renamed (reset at b e) = λ i. join (deeper (block-renamed b i)) (expr-renamed e i)
      eqn-renamed (automaton at qs) = λ i. join (places 4) (states-renamed qs i)

      arms-renamed : (arms : Arms) → in_arms known (renamed_arms to arms) ≡ in_arms known arms
      arms-renamed no_arm = refl
      arms-renamed (more_arms c b at arms) = λ i. join (deeper (block-renamed b i)) (arms-renamed arms i)

      states-renamed : (qs : States) → in_states known (renamed_states to qs) ≡ in_states known qs
      states-renamed no_state = refl
      states-renamed (more_states x b until unless at qs) =
          λ i. join (join (deeper (block-renamed b i)) (join (transitions-renamed until i) (transitions-renamed unless i))) (states-renamed qs i)

  -- numbering is renaming, block by block
  mutual
    pub block-numbered : (to : List ℕ → List ℕ) (k : ℕ) (b : Block) → in_block known (numbering.in_block to k b) ≡ in_block known b
    block-numbered to k (block ds es) =
        λ i. join (decls-renamed (numbering.declaring to k ds) ds i) (eqns-numbered (numbering.declaring to k ds) (k + numbering.new_in_decls ds) es i)

    eqns-numbered : (to : List ℕ → List ℕ) (k : ℕ) (es : Eqns) → in_eqns known (numbering.in_eqns to k es) ≡ in_eqns known es
    eqns-numbered to k no_eqn = refl
    eqns-numbered to k (more_eqns e es) = λ i. join (eqn-numbered to k e i) (eqns-numbered to (k + numbering.new_in_eqn e) es i)

    eqn-numbered : (to : List ℕ → List ℕ) (k : ℕ) (e : Eqn) → in_eqn known (numbering.in_eqn to k e) ≡ in_eqn known e
    eqn-numbered to k (define at xs e) = definition-renamed to xs e
    eqn-numbered to k (switch at e arms) = λ i. join (expr-renamed to e i) (arms-numbered to k arms i)
    eqn-numbered to k (reset at b e) = λ i. join (deeper (block-numbered to k b i)) (expr-renamed to e i)
    eqn-numbered to k (automaton at qs) = λ i. join (places 4) (states-numbered to k qs i)

    arms-numbered : (to : List ℕ → List ℕ) (k : ℕ) (arms : Arms) → in_arms known (numbering.in_arms to k arms) ≡ in_arms known arms
    arms-numbered to k no_arm = refl
    arms-numbered to k (more_arms c b at arms) = λ i. join (deeper (block-numbered to k b i)) (arms-numbered to (k + numbering.new_in_block b) arms i)

    states-numbered : (to : List ℕ → List ℕ) (k : ℕ) (qs : States) → in_states known (numbering.in_states to k qs) ≡ in_states known qs
    states-numbered to k no_state = refl
    states-numbered to k (more_states x (block ds es) until unless at qs) =
        λ i. join
        (join (deeper (join (decls-renamed (numbering.declaring to k ds) ds i) (eqns-numbered (numbering.declaring to k ds) (k + numbering.new_in_decls ds) es i)))
        (join (transitions-renamed (numbering.declaring to k ds) until i) (transitions-renamed to unless i)))
        (states-numbered to (k + (numbering.new_in_decls ds + numbering.new_in_eqns es)) qs i)

  condition-renamed : (to : List ℕ → List ℕ) (e : Option Expr) → in_condition known (option_map (renamed to) e) ≡ in_condition known e
  condition-renamed to None = refl
  condition-renamed to (Some e) = expr-renamed to e

  contract-numbered : (c : Option Contract) → in_contract known (option_map numbering.in_contract c) ≡ in_contract known c
  contract-numbered None = refl
  contract-numbered (Some c) =
      let to = numbering.declaring_in c.body in
      λ i. join (places (length c.controls)) (join (block-numbered numbering.same_name 1 c.body i) (join (condition-renamed to c.assume i) (condition-renamed to c.enforce i)))

  -- so a node that is numbered is as large as it was
  pub node-numbered : (n : Node) → in_node known (numbering.numbered n) ≡ in_node known n
  node-numbered n =
      λ i. join (join (places (length n.inputs)) (places (length n.outputs)))
      (join (contract-numbered n.contract i) (block-numbered numbering.same_name (numbering.behind n.contract) n.body i))
