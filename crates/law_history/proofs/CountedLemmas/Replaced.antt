-- Where inlined calls are replaced, the calls of a node are no more than what is counted of it before.
use Rattle.std.proofs.Common.{◌≡◌, ℕ, suc, ◌≤◌, true, false, length, List, [], ◌∷◌, ◌++◌, refl, sym, ap, subst, ◌∙◌, arith}
use Rattle.hp_base.specs.declared.span.Span.{Span}
use Rattle.hp_tree.specs.declared.block.Trans.{Trans}
use Rattle.hp_tree.specs.Expressions.{Expr, constant, variable, last_of, one, two, choose, pre, fby, arrow, when_is, merge, call, Exprs, no_expr, more_exprs, Parts, no_part, more_parts}
use Rattle.hp_tree.specs.Blocks.{Decl, Block, block, Eqns, no_eqn, more_eqns, Eqn, define, switch, reset, automaton, Arms, no_arm, more_arms, States, no_state, more_states, eqns_of, list_of_eqns}
use Rattle.hp_tree.specs.Programs.{Node}
use Rattle.hp_expand.specs.NewNames.{marked}
use Rattle.hp_expand.specs.Renaming.{renamed_decls, renamed_eqns}
use Rattle.hp_expand.specs.Replacing.{Replaced, given, equations_of, inlined_call, output_at, defined_by, in_expr, in_exprs, in_parts, in_definition, in_block, in_eqns, in_eqn, in_arms, in_states, in_contract, in_node}
use Rattle.hp_expand.specs.Numbering.{replaced_node, same_name, behind}
use Rattle.hp_expand.specs.Sizes as sizes
use Rattle.hp_expand.specs.Sizes.{none, places, join as together, deeper, called, of_call}
use Rattle.law_automata.specs.Lowered.Removable.{Plain}
use Rattle.law_automata.proofs.LowerableLemmas.Neat.{StateNames, TransitionsNeat, BlockNeat, EqnsNeat, EqnNeat, ArmsNeat, StatesNeat, NodeNeat}
use Rattle.law_history.specs.Counted.Counted as calls
use Rattle.law_history.specs.Counted.Counted.{Joins}
use Rattle.law_history.proofs.CountedLemmas.Joining.{nothing_left, quiet_left, quiet_right, below_left, below_right, shuffled}
use Rattle.law_history.proofs.CountedLemmas.Renamed.{eqns_renamed, block_numbered}

abbrev pub TypeOf : {A : Type 0} → A → Type 0
TypeOf {A} a = A

-- what is counted of a part: its crate keeps the name of this type to itself
abbrev pub Size : Type 0
Size = TypeOf sizes.none

-- One of the numbers that are counted comes together so: places and levels of blocks do not count, and a call is one more than what is in its node.
pub record Measures (join : ℕ → ℕ → ℕ) (of : Size → ℕ) : Type 0 where
  pub joins : Joins join
  pub nothing : of none ≡ 0
  pub at_places : (n : ℕ) → of (places n) ≡ 0
  pub both : (a b : Size) → of (together a b) ≡ join (of a) (of b)
  pub at_deeper : (a : Size) → of (deeper a) ≡ of a
  pub at_called : (a : Size) → of (called a) ≡ suc (of a)

-- how much a call of a node is, where it is known what is in each
abbrev pub weight_in : (Size → ℕ) → (List ℕ → Size) → List ℕ → ℕ
weight_in of known f = suc (of (known f))

module _ (join : ℕ → ℕ → ℕ) (of : Size → ℕ) (measures : Measures join of) (known : List ℕ → Size) (nodes : List ℕ → Node) where
  abbrev weight : List ℕ → ℕ
  weight f = suc (of (known f))

  abbrev of_expr : Expr → ℕ
  of_expr e = calls.in_expr join weight e

  abbrev of_list : List Eqn → ℕ
  of_list es = calls.in_eqns join weight (eqns_of es)

  itself : (n : ℕ) → n ≤ n
  itself n = omega arith

  least : (n : ℕ) → 0 ≤ n
  least n = omega arith

  through : (a b c : ℕ) → a ≤ b → b ≤ c → a ≤ c
  through a b c h g = omega (arith, h, g)

  empty : (n : ℕ) → join 0 0 ≤ n
  empty n = quiet_left join measures.joins 0 0 n (itself 0) (least n)

  list_sum : (es fs : List Eqn) → of_list (es ++ fs) ≡ join (of_list es) (of_list fs)
  list_sum [] fs = sym (nothing_left join measures.joins (of_list fs))
  list_sum (e ∷ es) fs = ap (join (calls.in_eqn join weight e)) (list_sum es fs) ∙ sym (measures.joins.grouped (calls.in_eqn join weight e) (of_list es) (of_list fs))

  listed : (es : Eqns) → of_list (list_of_eqns es) ≡ calls.in_eqns join weight es
  listed no_eqn = refl
  listed (more_eqns e es) = ap (join (calls.in_eqn join weight e)) (listed es)

  -- ---- what is counted

  placed : (n m : ℕ) (s : Size) → m ≤ of s → m ≤ of (together (places n) s)
  placed n m s h = subst (λ b. m ≤ b) (sym (measures.both (places n) s ∙ ap (λ a. join a (of s)) (measures.at_places n) ∙ nothing_left join measures.joins (of s))) h

  both_sizes : (m : ℕ) (a b : Size) → m ≤ join (of a) (of b) → m ≤ of (together a b)
  both_sizes m a b h = subst (λ n. m ≤ n) (sym (measures.both a b)) h

  -- a call that stays, and one that is replaced
  plain_call : (names m : ℕ) (inside args : Size) → m ≤ join (of args) (suc (of inside)) → m ≤ of (of_call names false inside args)
  unfolding of_call
  plain_call names m inside args h =
      placed 1 m (together (called inside) args)
      (subst (λ n. m ≤ n) (measures.joins.turned (of args) (suc (of inside)) ∙ ap (λ n. join n (of args)) (sym (measures.at_called inside)) ∙ sym (measures.both (called inside) args)) h)

  replaced_call : (names m : ℕ) (inside args : Size) → m ≤ join (of args) (of inside) → m ≤ of (of_call names true inside args)
  unfolding of_call
  replaced_call names m inside args h =
      placed names m (together inside args) (subst (λ n. m ≤ n) (measures.joins.turned (of args) (of inside) ∙ sym (measures.both inside args)) h)

  -- ---- two parts

  -- what stands before two parts, and the parts themselves
  beside_less : (ba bb va vb sa sb : ℕ) → join ba va ≤ sa → join bb vb ≤ sb → join (join ba bb) (join va vb) ≤ join sa sb
  beside_less ba bb va vb sa sb h g = subst (λ n. n ≤ join sa sb) (sym (shuffled join measures.joins ba bb va vb)) (measures.joins.grows (join ba va) (join bb vb) sa sb h g)

  beside_lists : (before more : List Eqn) (va vb sa sb : ℕ) → join (of_list before) va ≤ sa → join (of_list more) vb ≤ sb → join (of_list (before ++ more)) (join va vb) ≤ join sa sb
  beside_lists before more va vb sa sb h g = subst (λ n. join n (join va vb) ≤ join sa sb) (sym (list_sum before more)) (beside_less (of_list before) (of_list more) va vb sa sb h g)

  -- ---- the equations of an inlined call

  given_less : (ds : List Decl) (es : Exprs) → of_list (given ds es) ≤ calls.in_exprs join weight es
  given_less [] es = omega arith
  given_less (d ∷ ds) no_expr = omega arith
  given_less (d ∷ ds) (more_exprs e es) = measures.joins.grows (of_expr e) (of_list (given ds es)) (of_expr e) (calls.in_exprs join weight es) (itself (of_expr e)) (given_less ds es)

  defined_quiet : (s : Span) (xs : List (List ℕ × Span)) (at : Span) (ys : List (List ℕ)) → of_list (defined_by s xs at ys) ≤ 0
  defined_quiet s [] at ys = omega arith
  defined_quiet s (x ∷ xs) at [] = omega arith
  defined_quiet s (x ∷ xs) at (y ∷ ys) = quiet_left join measures.joins 0 (of_list (defined_by s xs at ys)) 0 (itself 0) (defined_quiet s xs at ys)

  output_quiet : (at : Span) (xs : List (List ℕ)) → of_expr (output_at at xs) ≤ 0
  output_quiet at [] = omega arith
  output_quiet at (x ∷ xs) = omega arith

  equations_same : (b : Block) → calls.in_eqns join weight (equations_of b) ≡ calls.in_block join weight b
  equations_same (block ds es) = refl

  -- conditions of transitions call nothing
  plain_quiet : (e : Expr) → Plain e → of_expr e ≤ 0
  plain_quiet (constant s c) h = omega arith
  plain_quiet (variable s x) h = omega arith
  plain_quiet (last_of s x) h = omega arith
  plain_quiet (one s o a) h = plain_quiet a h
  plain_quiet (two s o a b) h = quiet_left join measures.joins (of_expr a) (of_expr b) 0 (plain_quiet a h.0) (plain_quiet b h.1)
  plain_quiet (choose s a b c) h =
      quiet_left join measures.joins (of_expr a) (join (of_expr b) (of_expr c)) 0 (plain_quiet a h.0) (quiet_left join measures.joins (of_expr b) (of_expr c) 0 (plain_quiet b h.1) (plain_quiet c h.2))
  plain_quiet (pre s a) h = absurd h
  plain_quiet (fby s a b) h = absurd h
  plain_quiet (arrow s a b) h = absurd h
  plain_quiet (when_is s a c x) h = absurd h
  plain_quiet (merge s x ps) h = absurd h
  plain_quiet (call s f i es) h = absurd h

  tests_quiet : (names : StateNames) (ts : List Trans) → TransitionsNeat names ts → calls.in_transitions join weight ts ≤ 0
  tests_quiet names [] h = omega arith
  tests_quiet names (t ∷ ts) h = quiet_left join measures.joins (of_expr t.cond) (calls.in_transitions join weight ts) 0 (plain_quiet t.cond h.0.0) (tests_quiet names ts h.1)

  -- where the bodies of the nodes before call no more than is counted of these
  module _ (bodies : (f : List ℕ) → calls.in_block join weight (nodes f).body ≤ of (known f)) where
    -- what stands before an expression, and what is left of it
    abbrev IsLess : Replaced Expr → ℕ → Type 0
    IsLess r n = join (of_list r.before) (of_expr r.part) ≤ n

    inlined_less : (f : List ℕ) (args : Replaced Exprs) (n : ℕ) → join (of_list args.before) (calls.in_exprs join weight args.part) ≤ n
        → of_list (inlined_call (nodes f) args).before ≤ join n (of (known f))
    inlined_less f args n h =
        let to = marked args.next in
        let told = given (renamed_decls to (nodes f).inputs) args.part in
        let made = list_of_eqns (renamed_eqns to (equations_of (nodes f).body)) in
        let body = calls.in_block join weight (nodes f).body in
        let same : of_list made ≡ body = listed (renamed_eqns to (equations_of (nodes f).body)) ∙ eqns_renamed join weight to (equations_of (nodes f).body) ∙ equations_same (nodes f).body in
        let front : join (of_list args.before) (of_list told) ≤ n =
        through (join (of_list args.before) (of_list told)) (join (of_list args.before) (calls.in_exprs join weight args.part)) n
        (measures.joins.grows (of_list args.before) (of_list told) (of_list args.before) (calls.in_exprs join weight args.part) (itself (of_list args.before)) (given_less (renamed_decls to (nodes f).inputs) args.part)) h in
        subst (λ m. m ≤ join n (of (known f)))
        (sym (list_sum args.before (told ++ made) ∙ ap (join (of_list args.before)) (list_sum told made) ∙ sym (measures.joins.grouped (of_list args.before) (of_list told) (of_list made))))
        (measures.joins.grows (join (of_list args.before) (of_list told)) (of_list made) n (of (known f)) front (subst (λ m. m ≤ of (known f)) (sym same) (bodies f)))

    -- a call that stays
    call_less : (names : ℕ) (f : List ℕ) (args : Replaced Exprs) (s : Size) → join (of_list args.before) (calls.in_exprs join weight args.part) ≤ of s
        → join (of_list args.before) (join (calls.in_exprs join weight args.part) (weight f)) ≤ of (of_call names false (known f) s)
    call_less names f args s h =
        let inner = calls.in_exprs join weight args.part in
        plain_call names (join (of_list args.before) (join inner (weight f))) (known f) s
        (subst (λ m. m ≤ join (of s) (weight f)) (measures.joins.grouped (of_list args.before) inner (weight f)) (measures.joins.grows (join (of_list args.before) inner) (weight f) (of s) (weight f) h (itself (weight f))))

    mutual
      expr_less : (e : Expr) (k : ℕ) → join (of_list (in_expr nodes k e).before) (of_expr (in_expr nodes k e).part) ≤ of (sizes.in_expr known e)
      expr_less (constant at c) k = empty (of (places 1))
      expr_less (variable at x) k = empty (of (places 1))
      expr_less (last_of at x) k = empty (of (places 1))
      expr_less (one at o a) k = placed 1 (join (of_list (in_expr nodes k a).before) (of_expr (in_expr nodes k a).part)) (sizes.in_expr known a) (expr_less a k)
      expr_less (two at o a b) k =
          let x = in_expr nodes k a in
          let y = in_expr nodes x.next b in
          placed 1 (join (of_list (x.before ++ y.before)) (join (of_expr x.part) (of_expr y.part))) (together (sizes.in_expr known a) (sizes.in_expr known b))
          (both_sizes (join (of_list (x.before ++ y.before)) (join (of_expr x.part) (of_expr y.part))) (sizes.in_expr known a) (sizes.in_expr known b)
          (beside_lists x.before y.before (of_expr x.part) (of_expr y.part) (of (sizes.in_expr known a)) (of (sizes.in_expr known b)) (expr_less a k) (expr_less b x.next)))
      expr_less (choose at a b c) k =
          let x = in_expr nodes k a in
          let y = in_expr nodes x.next b in
          let z = in_expr nodes y.next c in
          let rest = join (of_list (y.before ++ z.before)) (join (of_expr y.part) (of_expr z.part)) in
          let all = join (of_list (x.before ++ (y.before ++ z.before))) (join (of_expr x.part) (join (of_expr y.part) (of_expr z.part))) in
          let others = together (sizes.in_expr known b) (sizes.in_expr known c) in
          placed 1 all (together (sizes.in_expr known a) others)
          (both_sizes all (sizes.in_expr known a) others
          (beside_lists x.before (y.before ++ z.before) (of_expr x.part) (join (of_expr y.part) (of_expr z.part)) (of (sizes.in_expr known a)) (of others) (expr_less a k)
          (both_sizes rest (sizes.in_expr known b) (sizes.in_expr known c)
          (beside_lists y.before z.before (of_expr y.part) (of_expr z.part) (of (sizes.in_expr known b)) (of (sizes.in_expr known c)) (expr_less b x.next) (expr_less c y.next)))))
      expr_less (pre at a) k = placed 1 (join (of_list (in_expr nodes k a).before) (of_expr (in_expr nodes k a).part)) (sizes.in_expr known a) (expr_less a k)
      expr_less (fby at a b) k =
          let x = in_expr nodes k a in
          let y = in_expr nodes x.next b in
          placed 1 (join (of_list (x.before ++ y.before)) (join (of_expr x.part) (of_expr y.part))) (together (sizes.in_expr known a) (sizes.in_expr known b))
          (both_sizes (join (of_list (x.before ++ y.before)) (join (of_expr x.part) (of_expr y.part))) (sizes.in_expr known a) (sizes.in_expr known b)
          (beside_lists x.before y.before (of_expr x.part) (of_expr y.part) (of (sizes.in_expr known a)) (of (sizes.in_expr known b)) (expr_less a k) (expr_less b x.next)))
      expr_less (arrow at a b) k =
          let x = in_expr nodes k a in
          let y = in_expr nodes x.next b in
          placed 1 (join (of_list (x.before ++ y.before)) (join (of_expr x.part) (of_expr y.part))) (together (sizes.in_expr known a) (sizes.in_expr known b))
          (both_sizes (join (of_list (x.before ++ y.before)) (join (of_expr x.part) (of_expr y.part))) (sizes.in_expr known a) (sizes.in_expr known b)
          (beside_lists x.before y.before (of_expr x.part) (of_expr y.part) (of (sizes.in_expr known a)) (of (sizes.in_expr known b)) (expr_less a k) (expr_less b x.next)))
      expr_less (when_is at a c x) k = placed 1 (join (of_list (in_expr nodes k a).before) (of_expr (in_expr nodes k a).part)) (sizes.in_expr known a) (expr_less a k)
      expr_less (merge at x ps) k = placed 1 (join (of_list (in_parts nodes k ps).before) (calls.in_parts join weight (in_parts nodes k ps).part)) (sizes.in_parts known ps) (parts_less ps k)
      expr_less (call at f false es) k = call_less 1 f (in_exprs nodes k es) (sizes.in_exprs known es) (exprs_less es k)
      expr_less (call at f true es) k =
          let args = in_exprs nodes k es in
          let r = inlined_call (nodes f) args in
          let n = of (sizes.in_exprs known es) in
          replaced_call 1 (join (of_list r.before) (of_expr (output_at at r.part))) (known f) (sizes.in_exprs known es)
          (quiet_right join measures.joins (of_list r.before) (of_expr (output_at at r.part)) (join n (of (known f))) (inlined_less f args n (exprs_less es k)) (output_quiet at r.part))

      exprs_less : (es : Exprs) (k : ℕ) → join (of_list (in_exprs nodes k es).before) (calls.in_exprs join weight (in_exprs nodes k es).part) ≤ of (sizes.in_exprs known es)
      exprs_less no_expr k = empty (of none)
      exprs_less (more_exprs e es) k =
          let x = in_expr nodes k e in
          let y = in_exprs nodes x.next es in
          both_sizes (join (of_list (x.before ++ y.before)) (join (of_expr x.part) (calls.in_exprs join weight y.part))) (sizes.in_expr known e) (sizes.in_exprs known es)
          (beside_lists x.before y.before (of_expr x.part) (calls.in_exprs join weight y.part) (of (sizes.in_expr known e)) (of (sizes.in_exprs known es)) (expr_less e k) (exprs_less es x.next))

      parts_less : (ps : Parts) (k : ℕ) → join (of_list (in_parts nodes k ps).before) (calls.in_parts join weight (in_parts nodes k ps).part) ≤ of (sizes.in_parts known ps)
      parts_less no_part k = empty (of none)
      parts_less (more_parts c e ps) k =
          let x = in_expr nodes k e in
          let y = in_parts nodes x.next ps in
          both_sizes (join (of_list (x.before ++ y.before)) (join (of_expr x.part) (calls.in_parts join weight y.part))) (sizes.in_expr known e) (sizes.in_parts known ps)
          (beside_lists x.before y.before (of_expr x.part) (calls.in_parts join weight y.part) (of (sizes.in_expr known e)) (of (sizes.in_parts known ps)) (expr_less e k) (parts_less ps x.next))

    -- ---- definitions

    abbrev ListsLess : Replaced (List Eqn) → ℕ → Type 0
    ListsLess r n = join (of_list r.before) (of_list r.part) ≤ n

    alone : (before v n : ℕ) → join before v ≤ n → join before (join v 0) ≤ n
    alone before v n h = subst (λ m. join before m ≤ n) (sym (measures.joins.none v)) h

    as_expr : (e : Expr) (k : ℕ) → join (of_list (in_expr nodes k e).before) (join (of_expr (in_expr nodes k e).part) 0) ≤ of (sizes.in_expr known e)
    as_expr e k = alone (of_list (in_expr nodes k e).before) (of_expr (in_expr nodes k e).part) (of (sizes.in_expr known e)) (expr_less e k)

    definition_less : (e : Expr) (names k : ℕ) (s : Span) (xs : List (List ℕ × Span)) → ListsLess (in_definition nodes k s xs e) (of (sizes.in_right known names e))
    definition_less (constant at c) names k s xs = as_expr (constant at c) k
    definition_less (variable at x) names k s xs = as_expr (variable at x) k
    definition_less (last_of at x) names k s xs = as_expr (last_of at x) k
    definition_less (one at o a) names k s xs = as_expr (one at o a) k
    definition_less (two at o a b) names k s xs = as_expr (two at o a b) k
    definition_less (choose at a b c) names k s xs = as_expr (choose at a b c) k
    definition_less (pre at a) names k s xs = as_expr (pre at a) k
    definition_less (fby at a b) names k s xs = as_expr (fby at a b) k
    definition_less (arrow at a b) names k s xs = as_expr (arrow at a b) k
    definition_less (when_is at a c x) names k s xs = as_expr (when_is at a c x) k
    definition_less (merge at x ps) names k s xs = as_expr (merge at x ps) k
    definition_less (call at f false es) names k s xs =
        let args = in_exprs nodes k es in
        let n = of (of_call names false (known f) (sizes.in_exprs known es)) in
        alone (of_list args.before) (join (calls.in_exprs join weight args.part) (weight f)) n (call_less names f args (sizes.in_exprs known es) (exprs_less es k))
    definition_less (call at f true es) names k s xs =
        let args = in_exprs nodes k es in
        let r = inlined_call (nodes f) args in
        let n = of (sizes.in_exprs known es) in
        replaced_call names (join (of_list r.before) (of_list (defined_by s xs at r.part))) (known f) (sizes.in_exprs known es)
        (quiet_right join measures.joins (of_list r.before) (of_list (defined_by s xs at r.part)) (join n (of (known f))) (inlined_less f args n (exprs_less es k)) (defined_quiet s xs at r.part))

    -- ---- blocks

    -- a condition, and what stands inside
    in_turn : (before v inner a b : ℕ) → join before v ≤ a → inner ≤ b → join before (join v inner) ≤ join a b
    in_turn before v inner a b h g = subst (λ m. m ≤ join a b) (measures.joins.grouped before v inner) (measures.joins.grows (join before v) inner a b h g)

    inner_less : (m : ℕ) (s : Size) → m ≤ of s → m ≤ of (deeper s)
    inner_less m s h = subst (λ n. m ≤ n) (sym (measures.at_deeper s)) h

    mutual
      block_less : (b : Block) (own k : ℕ) → BlockNeat own b → calls.in_block join weight (in_block nodes k b).part ≤ of (sizes.in_block known b)
      block_less (block ds es) own k h = placed (length ds) (calls.in_eqns join weight (in_eqns nodes k es).part) (sizes.in_eqns known es) (eqns_less es own k h)

      eqns_less : (es : Eqns) (own k : ℕ) → EqnsNeat own es → calls.in_eqns join weight (in_eqns nodes k es).part ≤ of (sizes.in_eqns known es)
      eqns_less no_eqn own k h = least (of none)
      eqns_less (more_eqns e es) own k h =
          let here = in_eqn nodes k e in
          let rest = (in_eqns nodes here.next es).part in
          let a = of (sizes.in_eqn known e) in
          let b = of (sizes.in_eqns known es) in
          both_sizes (of_list (here.before ++ (here.part ++ list_of_eqns rest))) (sizes.in_eqn known e) (sizes.in_eqns known es)
          (subst (λ m. m ≤ join a b)
          (sym (list_sum here.before (here.part ++ list_of_eqns rest) ∙ ap (join (of_list here.before)) (list_sum here.part (list_of_eqns rest))
          ∙ sym (measures.joins.grouped (of_list here.before) (of_list here.part) (of_list (list_of_eqns rest)))))
          (measures.joins.grows (join (of_list here.before) (of_list here.part)) (of_list (list_of_eqns rest)) a b (eqn_less e own k h.0) (subst (λ m. m ≤ b) (sym (listed rest)) (eqns_less es own here.next h.1))))

      eqn_less : (e : Eqn) (own k : ℕ) → EqnNeat own e → ListsLess (in_eqn nodes k e) (of (sizes.in_eqn known e))
      eqn_less (define s ys e) own k h = definition_less e (length ys) k s ys
      eqn_less (switch s e arms) own k h =
          let x = in_expr nodes k e in
          let inner = calls.in_arms join weight (in_arms nodes x.next arms).part in
          let all = join (of_expr x.part) inner in
          both_sizes (join (of_list x.before) (join all 0)) (sizes.in_expr known e) (sizes.in_arms known arms)
          (alone (of_list x.before) all (join (of (sizes.in_expr known e)) (of (sizes.in_arms known arms)))
          (in_turn (of_list x.before) (of_expr x.part) inner (of (sizes.in_expr known e)) (of (sizes.in_arms known arms)) (expr_less e k) (arms_less arms own x.next h)))
      eqn_less (reset s b e) own k h =
          let x = in_expr nodes k e in
          let inner = calls.in_block join weight (in_block nodes x.next b).part in
          let all = join (of_expr x.part) inner in
          let n = of (sizes.in_block known b) in
          both_sizes (join (of_list x.before) (join all 0)) (deeper (sizes.in_block known b)) (sizes.in_expr known e)
          (subst (λ m. join (of_list x.before) (join all 0) ≤ m) (measures.joins.turned (of (sizes.in_expr known e)) n ∙ ap (λ m. join m (of (sizes.in_expr known e))) (sym (measures.at_deeper (sizes.in_block known b))))
          (alone (of_list x.before) all (join (of (sizes.in_expr known e)) n) (in_turn (of_list x.before) (of_expr x.part) inner (of (sizes.in_expr known e)) n (expr_less e k) (block_less b h.0 x.next h.1.1))))
      eqn_less (automaton s ss) own k h =
          let inner = calls.in_states join weight (in_states nodes k ss).part in
          placed 4 (join 0 (join inner 0)) (sizes.in_states known ss)
          (alone 0 inner (of (sizes.in_states known ss)) (quiet_left join measures.joins 0 inner (of (sizes.in_states known ss)) (itself 0) (states_less ss _ own k h.1)))

      arms_less : (arms : Arms) (own k : ℕ) → ArmsNeat own arms → calls.in_arms join weight (in_arms nodes k arms).part ≤ of (sizes.in_arms known arms)
      arms_less no_arm own k h = least (of none)
      arms_less (more_arms c b s arms) own k h =
          let x = in_block nodes k b in
          let y = in_arms nodes x.next arms in
          both_sizes (join (calls.in_block join weight x.part) (calls.in_arms join weight y.part)) (deeper (sizes.in_block known b)) (sizes.in_arms known arms)
          (measures.joins.grows (calls.in_block join weight x.part) (calls.in_arms join weight y.part) (of (deeper (sizes.in_block known b))) (of (sizes.in_arms known arms))
          (inner_less (calls.in_block join weight x.part) (sizes.in_block known b) (block_less b h.0.0 k h.0.1.1)) (arms_less arms own x.next h.1))

      states_less : (ss : States) (names : StateNames) (own k : ℕ) → StatesNeat names own ss → calls.in_states join weight (in_states nodes k ss).part ≤ of (sizes.in_states known ss)
      states_less no_state names own k h = least (of none)
      states_less (more_states f b until unless s ss) names own k h =
          let x = in_block nodes k b in
          let y = in_states nodes x.next ss in
          let inner = calls.in_block join weight x.part in
          let tests = together (sizes.in_transitions known until) (sizes.in_transitions known unless) in
          let state = together (deeper (sizes.in_block known b)) tests in
          let mine = join (calls.in_transitions join weight unless) (join (calls.in_transitions join weight until) inner) in
          let less : inner ≤ of state = both_sizes inner (deeper (sizes.in_block known b)) tests
          (below_left join measures.joins inner (of (deeper (sizes.in_block known b))) (of tests) (inner_less inner (sizes.in_block known b) (block_less b h.0.0 k h.0.1.1))) in
          both_sizes (join mine (calls.in_states join weight y.part)) state (sizes.in_states known ss)
          (measures.joins.grows mine (calls.in_states join weight y.part) (of state) (of (sizes.in_states known ss))
          (quiet_left join measures.joins (calls.in_transitions join weight unless) (join (calls.in_transitions join weight until) inner) (of state) (tests_quiet names unless h.1.0.1.0)
          (quiet_left join measures.joins (calls.in_transitions join weight until) inner (of state) (tests_quiet names until h.1.0.0.0) less)) (states_less ss names own x.next h.1.1))

    -- ---- nodes

    pub node_less : (own : ℕ) (n : Node) → NodeNeat own n → calls.in_block join weight (replaced_node nodes n).body ≤ of (sizes.in_block known n.body)
    node_less own n h =
        let k = (in_contract nodes 1 n.contract).next in
        subst (λ m. m ≤ of (sizes.in_block known n.body)) (sym (block_numbered join weight same_name (behind (in_node nodes n).contract) (in_node nodes n).body)) (block_less n.body own k h.1)

-- what is counted of the body of a node is counted of the node
pub body_counted : (join : ℕ → ℕ → ℕ) (of : Size → ℕ) → Measures join of → (known : List ℕ → Size) (n : Node) → of (sizes.in_block known n.body) ≤ of (sizes.in_node known n)
body_counted join of measures known n =
    let body = of (sizes.in_block known n.body) in
    let contract = sizes.in_contract known n.contract in
    let inside = together contract (sizes.in_block known n.body) in
    let signed = together (places (length n.inputs)) (places (length n.outputs)) in
    subst (λ m. body ≤ m) (sym (measures.both signed inside))
    (below_right join measures.joins body (of signed) (of inside)
    (subst (λ m. body ≤ m) (sym (measures.both contract (sizes.in_block known n.body))) (below_right join measures.joins body (of contract) body (omega arith))))
