-- A walk leaves what stands behind as many events as the tree tells.
use Rattle.std.proofs.Common.{◌≡◌, ℕ, zero, suc, List, [], ◌∷◌, ◌++◌, refl, sym, ap, ◌∙◌, arith}
use Rattle.std.specs.Prelude.{◌+◌, Bool, true, false, if◌then◌else◌, drop}
use Rattle.hp_tree.specs.declared.block.Trans.{Trans}
use Rattle.hp_tree.specs.Expressions.{Expr, constant, variable, last_of, one, two, choose, pre, fby, arrow, when_is, merge, call, Exprs, no_expr, more_exprs, Parts, no_part, more_parts}
use Rattle.hp_tree.specs.Blocks.{Block, block, Eqns, no_eqn, more_eqns, Eqn, define, switch, reset, automaton, Arms, no_arm, more_arms, States, no_state, more_states}
use Rattle.hp_watch.specs.Walk.{compares, Walked, in_front, in_expr, in_exprs, in_parts, in_conditions, in_block, in_eqns, in_eqn, in_arms, in_states, walk, walk_all, walk_parts, walk_conditions, walk_block, walk_eqns, walk_eqn, walk_arms, walk_states}

module _ {X : Type 0} where
  abbrev none : List X
  none = []

  drop-none : (n : ℕ) → drop n none ≡ none
  drop-none zero = refl
  drop-none (suc n) = refl

  drop-more : (m n : ℕ) (xs : List X) → drop n (drop m xs) ≡ drop (m + n) xs
  drop-more zero n xs = let e : n ≡ 0 + n = omega arith in ap (λ k. drop k xs) e
  drop-more (suc m) n [] = drop-none n ∙ sym (drop-none (suc m + n))
  drop-more (suc m) n (x ∷ xs) = let e : suc (m + n) ≡ suc m + n = omega arith in drop-more m n xs ∙ ap (λ k. drop k (x ∷ xs)) e

  -- what is left behind so many
  abbrev Leaves : (List X → Walked X) → ℕ → Type 0
  Leaves v n = (es : List X) → (v es).1 ≡ drop n es

  leaves-two : (v w : List X → Walked X) (m n : ℕ) → Leaves v m → Leaves w n → (es : List X) → (w (v es).1).1 ≡ drop (m + n) es
  leaves-two v w m n h k es = k (v es).1 ∙ ap (drop n) (h es) ∙ drop-more m n es

  leaves-compared : (c : Bool) (y : Walked X) (n : ℕ) (es : List X) → y.1 ≡ drop n es → (if c then in_front y else y).1 ≡ drop (n + (if c then 1 else 0)) es
  leaves-compared true y n es h = ap (drop 1) h ∙ drop-more n 1 es
  leaves-compared false y n es h = h ∙ (let e : n ≡ n + 0 = omega arith in ap (λ k. drop k es) e)

  mutual
    pub expr-leaves : (e : Expr) → Leaves (walk e) (in_expr e)
    expr-leaves (constant s c) es = refl
    expr-leaves (variable s x) es = refl
    expr-leaves (last_of s x) es = refl
    expr-leaves (one s o a) es = expr-leaves a es
    expr-leaves (two s o a b) es =
        leaves-compared (compares o) (let x = walk a es in let y = walk b x.1 in (x.0 ++ y.0, y.1)) (in_expr a + in_expr b) es (leaves-two (walk a) (walk b) (in_expr a) (in_expr b) (expr-leaves a) (expr-leaves b) es)
    expr-leaves (choose s a b c) es =
        leaves-two (λ es. let x = walk a es in walk b x.1) (walk c) (in_expr a + in_expr b) (in_expr c) (leaves-two (walk a) (walk b) (in_expr a) (in_expr b) (expr-leaves a) (expr-leaves b)) (expr-leaves c) es
    expr-leaves (pre s a) es = expr-leaves a es
    expr-leaves (fby s a b) es = leaves-two (walk a) (walk b) (in_expr a) (in_expr b) (expr-leaves a) (expr-leaves b) es
    expr-leaves (arrow s a b) es = leaves-two (walk a) (walk b) (in_expr a) (in_expr b) (expr-leaves a) (expr-leaves b) es
    expr-leaves (when_is s a c x) es = expr-leaves a es
    expr-leaves (merge s x ps) es = parts-leave ps es
    expr-leaves (call s f inlined xs) es = ap (drop 1) (all-leave xs es) ∙ drop-more (in_exprs xs) 1 es

    pub all-leave : (xs : Exprs) → Leaves (walk_all xs) (in_exprs xs)
    all-leave no_expr es = refl
    all-leave (more_exprs e xs) es = leaves-two (walk e) (walk_all xs) (in_expr e) (in_exprs xs) (expr-leaves e) (all-leave xs) es

    parts-leave : (ps : Parts) → Leaves (walk_parts ps) (in_parts ps)
    parts-leave no_part es = refl
    parts-leave (more_parts c e ps) es = leaves-two (walk e) (walk_parts ps) (in_expr e) (in_parts ps) (expr-leaves e) (parts-leave ps) es

  conditions-leave : (ts : List Trans) → Leaves (walk_conditions ts) (in_conditions ts)
  conditions-leave [] es = refl
  conditions-leave (t ∷ ts) es = leaves-two (walk t.cond) (walk_conditions ts) (in_expr t.cond) (in_conditions ts) (expr-leaves t.cond) (conditions-leave ts) es

  mutual
    pub block-leaves : (b : Block) → Leaves (walk_block b) (in_block b)
    block-leaves (block ds eqns) es = eqns-leave eqns es

    eqns-leave : (eqns : Eqns) → Leaves (walk_eqns eqns) (in_eqns eqns)
    eqns-leave no_eqn es = refl
    eqns-leave (more_eqns e eqns) es = leaves-two (walk_eqn e) (walk_eqns eqns) (in_eqn e) (in_eqns eqns) (eqn-leaves e) (eqns-leave eqns) es

    pub eqn-leaves : (e : Eqn) → Leaves (walk_eqn e) (in_eqn e)
    eqn-leaves (define s xs e) es = expr-leaves e es
    eqn-leaves (switch s e arms) es = leaves-two (walk e) (walk_arms arms) (in_expr e) (in_arms arms) (expr-leaves e) (arms-leave arms) es
    eqn-leaves (reset s b e) es = leaves-two (walk e) (walk_block b) (in_expr e) (in_block b) (expr-leaves e) (block-leaves b) es
    eqn-leaves (automaton s ss) es = states-leave ss es

    arms-leave : (arms : Arms) → Leaves (walk_arms arms) (in_arms arms)
    arms-leave no_arm es = refl
    arms-leave (more_arms c b s arms) es = leaves-two (walk_block b) (walk_arms arms) (in_block b) (in_arms arms) (block-leaves b) (arms-leave arms) es

    states-leave : (ss : States) → Leaves (walk_states ss) (in_states ss)
    states-leave no_state es = refl
    states-leave (more_states q b until unless s ss) es =
        let strong = walk_conditions unless es in
        let weak = walk_conditions until (drop 5 strong.1) in
        let u = in_conditions unless in
        let w = in_conditions until in
        let a : drop 5 strong.1 ≡ drop (u + 5) es = ap (drop 5) (conditions-leave unless es) ∙ drop-more u 5 es in
        let b' : weak.1 ≡ drop (u + 5 + w) es = conditions-leave until (drop 5 strong.1) ∙ ap (drop w) a ∙ drop-more (u + 5) w es in
        let c : (walk_block b weak.1).1 ≡ drop (u + 5 + w + in_block b) es = block-leaves b weak.1 ∙ ap (drop (in_block b)) b' ∙ drop-more (u + 5 + w) (in_block b) es in
        states-leave ss (walk_block b weak.1).1 ∙ ap (drop (in_states ss)) c ∙ drop-more (u + 5 + w + in_block b) (in_states ss) es
