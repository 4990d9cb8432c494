-- What replaces inlined calls is as large as it was counted.
use Rattle.std.proofs.Common.{◌≡◌, ℕ, suc, ◌+◌, max, length, true, false, List, [], ◌∷◌, ◌++◌, Option, None, Some, refl, sym, ap, ◌∙◌, arith}
use Rattle.std.proofs.lemmas.List.{length-append}
use Rattle.hp_base.specs.declared.span.Span.{Span}
use Rattle.hp_tree.specs.Expressions.{Expr, constant, variable, last_of, one, two, choose, pre, fby, arrow, when_is, merge, call, Exprs, no_expr, more_exprs, Parts, no_part, more_parts}
use Rattle.hp_tree.specs.Blocks.{Decl, Block, block, Eqns, no_eqn, more_eqns, Eqn, define, switch, reset, automaton, Arms, no_arm, more_arms, States, no_state, more_states, eqns_of, list_of_eqns}
use Rattle.hp_tree.specs.Programs.{Contract, Node}
use Rattle.hp_expand.specs.Sizes.{Size, none, places, join, deeper, called, of_call, in_expr, in_exprs, in_parts, in_right, in_transitions, in_block, in_eqns, in_eqn, in_arms, in_states, in_condition, in_contract, in_node}
use Rattle.hp_expand.specs.Renaming.{renamed_decl, renamed_decls, renamed_eqns}
use Rattle.hp_expand.specs.NewNames.{marked}
use Rattle.hp_expand.specs.Replacing.{Replaced, given, locals_of, equations_of, names_of, inlined_call, output_at, defined_by}
use Rattle.hp_expand.specs.Replacing as new
use Rattle.hp_expand.specs.Fitting.{count, Fits, AllFit, PartsFit, RightFits, BlockFits, EqnsFit, EqnFits, ArmsFit, StatesFit, ConditionFits, ContractFits, NodeFits, CountedAsReplaced}
use Rattle.hp_expand.proofs.SizeLaws.{join-none, join-end, join-again}
use Rattle.hp_expand.proofs.RenamedSizes.{length-mapped, eqns-renamed, node-numbered}

-- ---- sizes in another order

abbrev size : ℕ → ℕ → ℕ → ℕ → ℕ → Size
size p n i c k = record { places = p; nest = n; instances = i; cells = c; calls = k }

plus-turn : (a b : ℕ) → a + b ≡ b + a
plus-turn a b = omega arith

max-turn : (a b : ℕ) → max a b ≡ max b a
max-turn a b = omega arith

join-turn : (a b : Size) → join a b ≡ join b a
unfolding join
join-turn a b = λ i. size (plus-turn a.places b.places i) (max-turn a.nest b.nest i) (plus-turn a.instances b.instances i) (plus-turn a.cells b.cells i) (max-turn a.calls b.calls i)

front : (a b c : Size) → join a (join b c) ≡ join b (join a c)
front a b c = sym (join-again a b c) ∙ ap (λ s. join s c) (join-turn a b) ∙ join-again b a c

shuffle : (a b c d : Size) → join (join a b) (join c d) ≡ join (join a c) (join b d)
shuffle a b c d = join-again a b (join c d) ∙ ap (join a) (front b c d) ∙ sym (join-again a c (join b d))

places-none : places 0 ≡ none
unfolding places
places-none = refl

zero-max : max 0 0 ≡ 0
zero-max = refl

places-sum : (m n : ℕ) → places (m + n) ≡ join (places m) (places n)
unfolding places join
places-sum m n = refl

places-suc : (n : ℕ) → join (places 1) (places n) ≡ places (suc n)
unfolding places join
places-suc n = λ i. size (one-more n i) 0 0 0 0
  where
    one-more : (n : ℕ) → 1 + n ≡ suc n
    one-more n = omega arith

-- ---- lists

eqns-back : (es : Eqns) → eqns_of (list_of_eqns es) ≡ es
eqns-back no_eqn = refl
eqns-back (more_eqns e es) = ap (more_eqns e) (eqns-back es)

decls-append : (ds es : List Decl) → places (length (ds ++ es)) ≡ join (places (length ds)) (places (length es))
decls-append ds es = ap places (length-append ds es) ∙ places-sum (length ds) (length es)

module _ (known : List ℕ → Size) (nodes : List ℕ → Node) where
  abbrev listed : List Eqn → Size
  listed es = in_eqns known (eqns_of es)

  listed-append : (es fs : List Eqn) → listed (es ++ fs) ≡ join (listed es) (listed fs)
  listed-append [] fs = sym (join-none (listed fs))
  listed-append (e ∷ es) fs = ap (join (in_eqn known e)) (listed-append es fs) ∙ sym (join-again (in_eqn known e) (listed es) (listed fs))

  -- a part of such a size, and what stands before it
  abbrev whole : {A : Type 0} → Size → Replaced A → Size
  whole s r = join (places (length r.locals)) (join (listed r.before) s)

  alone : (s : Size) → join (places 0) (join none s) ≡ s
  alone s = ap (λ z. join z (join none s)) places-none ∙ join-none (join none s) ∙ join-none s

  front-whole : {A : Type 0} (r : Replaced A) (f s : Size) → whole (join f s) r ≡ join f (whole s r)
  front-whole r f s =
      ap (join (places (length r.locals))) (front (listed r.before) f s) ∙ front (places (length r.locals)) f (join (listed r.before) s)

  both-whole : {A B : Type 0} (a : Replaced A) (b : Replaced B) (s t : Size)
      → join (places (length (a.locals ++ b.locals))) (join (listed (a.before ++ b.before)) (join s t)) ≡ join (whole s a) (whole t b)
  both-whole a b s t =
      let la = places (length a.locals) in
      let lb = places (length b.locals) in
      (λ i. join (decls-append a.locals b.locals i) (join (listed-append a.before b.before i) (join s t)))
      ∙ ap (join (join la lb)) (shuffle (listed a.before) (listed b.before) s t)
      ∙ shuffle la lb (join (listed a.before) s) (join (listed b.before) t)

  both-front : {A B : Type 0} (a : Replaced A) (b : Replaced B) (f s t : Size)
      → join (places (length (a.locals ++ b.locals))) (join (listed (a.before ++ b.before)) (join f (join s t))) ≡ join f (join (whole s a) (whole t b))
  both-front a b f s t =
      let l = places (length (a.locals ++ b.locals)) in
      let e = listed (a.before ++ b.before) in
      ap (join l) (front e f (join s t)) ∙ front l f (join e (join s t)) ∙ ap (join f) (both-whole a b s t)

  -- ---- one call

  right-one : (e : Expr) → in_right known 1 e ≡ in_expr known e
  right-one (constant at c) = refl
  right-one (variable at x) = refl
  right-one (last_of at x) = refl
  right-one (one at op a) = refl
  right-one (two at op a b) = refl
  right-one (choose at a b c) = refl
  right-one (pre at a) = refl
  right-one (fby at a b) = refl
  right-one (arrow at a b) = refl
  right-one (when_is at a c x) = refl
  right-one (merge at x ps) = refl
  right-one (call at f inlined es) = refl

  given-size : (ds : List Decl) (es : Exprs) → length ds ≡ count es → listed (given ds es) ≡ in_exprs known es
  given-size [] no_expr h = refl
  given-size [] (more_exprs e es) h = absurd cc
  given-size (d ∷ ds) no_expr h = absurd cc
  given-size (d ∷ ds) (more_exprs e es) h = λ i. join (right-one e i) (given-size ds es (omega (arith, h)) i)

  block-parts : (b : Block) → in_block known b ≡ join (places (length (locals_of b))) (in_eqns known (equations_of b))
  block-parts (block ds es) = refl

  no-contract : (c : Option Contract) → c ≡ None → in_contract known c ≡ none
  no-contract None h = refl
  no-contract (Some c) h = absurd cc

  node-parts : (n : Node) → n.contract ≡ None → in_node known n
      ≡ join (join (places (length n.inputs)) (places (length n.outputs))) (join (places (length (locals_of n.body))) (in_eqns known (equations_of n.body)))
  node-parts n h =
      (λ i. join (join (places (length n.inputs)) (places (length n.outputs))) (join (no-contract n.contract h i) (block-parts n.body i)))
      ∙ ap (join (join (places (length n.inputs)) (places (length n.outputs)))) (join-none (join (places (length (locals_of n.body))) (in_eqns known (equations_of n.body))))

  rearranged : (la io l ba g e s : Size) → join (join la (join io l)) (join (join ba (join g e)) s) ≡ join s (join (join io (join l e)) (join la (join ba g)))
  rearranged la io l ba g e s =
      ap (join (join la (join io l))) (join-turn (join ba (join g e)) s)
      ∙ front (join la (join io l)) s (join ba (join g e))
      ∙ ap (join s)
      (shuffle la (join io l) ba (join g e)
      ∙ ap (λ t. join (join la ba) (join (join io l) t)) (join-turn g e)
      ∙ ap (join (join la ba)) (sym (join-again (join io l) e g) ∙ ap (λ t. join t g) (join-again io l e))
      ∙ front (join la ba) (join io (join l e)) g
      ∙ ap (join (join io (join l e))) (join-again la ba g))

  inlined-whole : (n : Node) (args : Replaced Exprs) (s : Size) → n.contract ≡ None → length n.inputs ≡ count args.part
      → whole s (inlined_call n args) ≡ join s (join (in_node known n) (whole (in_exprs known args.part) args))
  inlined-whole n args s none_there arity =
      let m = marked args.next in
      let ds = n.inputs ++ (n.outputs ++ locals_of n.body) in
      let io = join (places (length n.inputs)) (places (length n.outputs)) in
      let l = places (length (locals_of n.body)) in
      let e = in_eqns known (equations_of n.body) in
      let made = given (renamed_decls m n.inputs) args.part in
      let rest = list_of_eqns (renamed_eqns m (equations_of n.body)) in
      let declared : places (length (args.locals ++ renamed_decls m ds)) ≡ join (places (length args.locals)) (join io l) =
      decls-append args.locals (renamed_decls m ds)
      ∙ ap (join (places (length args.locals)))
      (ap places (length-mapped (renamed_decl m) ds) ∙ decls-append n.inputs (n.outputs ++ locals_of n.body)
      ∙ ap (join (places (length n.inputs))) (decls-append n.outputs (locals_of n.body))
      ∙ sym (join-again (places (length n.inputs)) (places (length n.outputs)) l)) in
      let equations : listed (args.before ++ (made ++ rest)) ≡ join (listed args.before) (join (in_exprs known args.part) e) =
      listed-append args.before (made ++ rest)
      ∙ ap (join (listed args.before))
      (listed-append made rest
      ∙ (λ i. join
      (given-size (renamed_decls m n.inputs) args.part (length-mapped (renamed_decl m) n.inputs ∙ arity) i)
      ((ap (in_eqns known) (eqns-back (renamed_eqns m (equations_of n.body))) ∙ eqns-renamed known m (equations_of n.body)) i))) in
      (λ i. join (declared i) (join (equations i) s))
      ∙ rearranged (places (length args.locals)) io l (listed args.before) (in_exprs known args.part) e s
      ∙ ap (λ t. join s (join t (whole (in_exprs known args.part) args))) (sym (node-parts n none_there))

  output-size : (at : Span) (xs : List (List ℕ)) → in_expr known (output_at at xs) ≡ places 1
  output-size at [] = refl
  output-size at (x ∷ xs) = refl

  defined-size : (s : Span) (xs : List (List ℕ × Span)) (at : Span) (ys : List (List ℕ)) → length ys ≡ length xs → listed (defined_by s xs at ys) ≡ places (length xs)
  defined-size s [] at ys h = sym places-none
  defined-size s (x ∷ xs) at [] h = absurd cc
  defined-size s (x ∷ xs) at (y ∷ ys) h = ap (join (places 1)) (defined-size s xs at ys (omega (arith, h))) ∙ places-suc (length xs)

  count-kept : (k : ℕ) (es : Exprs) → count (new.in_exprs nodes k es).part ≡ count es
  count-kept k no_expr = refl
  count-kept k (more_exprs e es) = ap suc (count-kept (new.in_expr nodes k e).next es)

  -- ---- expressions

  mutual
    unfolding of_call

    expr-replaced : (k : ℕ) (e : Expr) → Fits known nodes e → whole (in_expr known (new.in_expr nodes k e).part) (new.in_expr nodes k e) ≡ in_expr known e
    expr-replaced k (constant at c) h = alone (places 1)
    expr-replaced k (variable at x) h = alone (places 1)
    expr-replaced k (last_of at x) h = alone (places 1)
    expr-replaced k (one at op a) h = front-whole (new.in_expr nodes k a) (places 1) _ ∙ ap (join (places 1)) (expr-replaced k a h)
    expr-replaced k (two at op a b) h =
        both-front (new.in_expr nodes k a) (new.in_expr nodes (new.in_expr nodes k a).next b) (places 1) _ _
        ∙ (λ i. join (places 1) (join (expr-replaced k a h.0 i) (expr-replaced (new.in_expr nodes k a).next b h.1 i)))
    expr-replaced k (choose at a b c) h =
        let first = new.in_expr nodes k a in
        let second = new.in_expr nodes first.next b in
        let third = new.in_expr nodes second.next c in
        both-front {B = Expr × Expr} first (new.beside (λ (y z : Expr). (y, z)) second third) (places 1) (in_expr known first.part) (join (in_expr known second.part) (in_expr known third.part))
        ∙ (λ i. join (places 1) (join (expr-replaced k a h.0 i)
        ((both-whole second third (in_expr known second.part) (in_expr known third.part)
        ∙ (λ j. join (expr-replaced first.next b h.1.0 j) (expr-replaced second.next c h.1.1 j))) i)))
    expr-replaced k (pre at a) h = front-whole (new.in_expr nodes k a) (places 1) _ ∙ ap (join (places 1)) (expr-replaced k a h)
    expr-replaced k (fby at a b) h =
        both-front (new.in_expr nodes k a) (new.in_expr nodes (new.in_expr nodes k a).next b) (places 1) _ _
        ∙ (λ i. join (places 1) (join (expr-replaced k a h.0 i) (expr-replaced (new.in_expr nodes k a).next b h.1 i)))
    expr-replaced k (arrow at a b) h =
        both-front (new.in_expr nodes k a) (new.in_expr nodes (new.in_expr nodes k a).next b) (places 1) _ _
        ∙ (λ i. join (places 1) (join (expr-replaced k a h.0 i) (expr-replaced (new.in_expr nodes k a).next b h.1 i)))
    expr-replaced k (when_is at a c x) h = front-whole (new.in_expr nodes k a) (places 1) _ ∙ ap (join (places 1)) (expr-replaced k a h)
    expr-replaced k (merge at x ps) h = front-whole (new.in_parts nodes k ps) (places 1) _ ∙ ap (join (places 1)) (parts-replaced k ps h)
    expr-replaced k (call at f false es) h =
        front-whole (new.in_exprs nodes k es) (places 1) _
        ∙ ap (join (places 1)) (front-whole (new.in_exprs nodes k es) (called (known f)) _ ∙ ap (join (called (known f))) (exprs-replaced k es h))
    expr-replaced k (call at f true es) h =
        let args = new.in_exprs nodes k es in
        inlined-whole (nodes f) args (in_expr known (output_at at (inlined_call (nodes f) args).part)) h.0.no_contract (h.0.inputs ∙ sym (count-kept k es))
        ∙ (λ i. join (output-size at (inlined_call (nodes f) args).part i) (join (sym h.0.size i) (exprs-replaced k es h.1 i)))

    exprs-replaced : (k : ℕ) (es : Exprs) → AllFit known nodes es → whole (in_exprs known (new.in_exprs nodes k es).part) (new.in_exprs nodes k es) ≡ in_exprs known es
    exprs-replaced k no_expr h = alone none
    exprs-replaced k (more_exprs e es) h =
        both-whole (new.in_expr nodes k e) (new.in_exprs nodes (new.in_expr nodes k e).next es) _ _
        ∙ (λ i. join (expr-replaced k e h.0 i) (exprs-replaced (new.in_expr nodes k e).next es h.1 i))

    parts-replaced : (k : ℕ) (ps : Parts) → PartsFit known nodes ps → whole (in_parts known (new.in_parts nodes k ps).part) (new.in_parts nodes k ps) ≡ in_parts known ps
    parts-replaced k no_part h = alone none
    parts-replaced k (more_parts c e ps) h =
        both-whole (new.in_expr nodes k e) (new.in_parts nodes (new.in_expr nodes k e).next ps) _ _
        ∙ (λ i. join (expr-replaced k e h.0 i) (parts-replaced (new.in_expr nodes k e).next ps h.1 i))

  -- ---- equations

  -- an equation that stands alone in the place of one
  single : {A : Type 0} (r : Replaced A) (s t : Size) → whole s r ≡ t → whole (join s none) r ≡ t
  single r s t h = ap (λ z. whole z r) (join-end s) ∙ h

  right-replaced : (k : ℕ) (s : Span) (xs : List (List ℕ × Span)) (e : Expr) → RightFits known nodes (length xs) e
      → whole (listed (new.in_definition nodes k s xs e).part) (new.in_definition nodes k s xs e) ≡ in_right known (length xs) e
  unfolding of_call
  right-replaced k s xs (constant at c) h = single (new.in_expr nodes k (constant at c)) _ _ (expr-replaced k (constant at c) h)
  right-replaced k s xs (variable at x) h = single (new.in_expr nodes k (variable at x)) _ _ (expr-replaced k (variable at x) h)
  right-replaced k s xs (last_of at x) h = single (new.in_expr nodes k (last_of at x)) _ _ (expr-replaced k (last_of at x) h)
  right-replaced k s xs (one at op a) h = single (new.in_expr nodes k (one at op a)) _ _ (expr-replaced k (one at op a) h)
  right-replaced k s xs (two at op a b) h = single (new.in_expr nodes k (two at op a b)) _ _ (expr-replaced k (two at op a b) h)
  right-replaced k s xs (choose at a b c) h = single (new.in_expr nodes k (choose at a b c)) _ _ (expr-replaced k (choose at a b c) h)
  right-replaced k s xs (pre at a) h = single (new.in_expr nodes k (pre at a)) _ _ (expr-replaced k (pre at a) h)
  right-replaced k s xs (fby at a b) h = single (new.in_expr nodes k (fby at a b)) _ _ (expr-replaced k (fby at a b) h)
  right-replaced k s xs (arrow at a b) h = single (new.in_expr nodes k (arrow at a b)) _ _ (expr-replaced k (arrow at a b) h)
  right-replaced k s xs (when_is at a c x) h = single (new.in_expr nodes k (when_is at a c x)) _ _ (expr-replaced k (when_is at a c x) h)
  right-replaced k s xs (merge at x ps) h = single (new.in_expr nodes k (merge at x ps)) _ _ (expr-replaced k (merge at x ps) h)
  right-replaced k s xs (call at f false es) h = single (new.in_expr nodes k (call at f false es)) _ _ (expr-replaced k (call at f false es) h)
  right-replaced k s xs (call at f true es) h =
      let args = new.in_exprs nodes k es in
      let outputs = (inlined_call (nodes f) args).part in
      let arity : length outputs ≡ length xs =
      length-mapped (λ (d : Decl). d.name) (renamed_decls (marked args.next) (nodes f).outputs) ∙ length-mapped (renamed_decl (marked args.next)) (nodes f).outputs ∙ h.0 in
      inlined-whole (nodes f) args (listed (defined_by s xs at outputs)) h.1.0.no_contract (h.1.0.inputs ∙ sym (count-kept k es))
      ∙ (λ i. join (defined-size s xs at outputs arity i) (join (sym h.1.0.size i) (exprs-replaced k es h.1.1 i)))

  mutual
    block-replaced : (k : ℕ) (b : Block) → BlockFits known nodes b → in_block known (new.in_block nodes k b).part ≡ in_block known b
    block-replaced k (block ds es) h =
        let r = new.in_eqns nodes k es in
        (λ i. join (decls-append ds r.locals i) (in_eqns known r.part))
        ∙ join-again (places (length ds)) (places (length r.locals)) (in_eqns known r.part)
        ∙ ap (join (places (length ds))) (eqns-replaced k es h)

    -- the equations of a block, with its new local variables
    eqns-replaced : (k : ℕ) (es : Eqns) → EqnsFit known nodes es
        → join (places (length (new.in_eqns nodes k es).locals)) (in_eqns known (new.in_eqns nodes k es).part) ≡ in_eqns known es
    eqns-replaced k no_eqn h = ap (λ z. join z none) places-none ∙ join-none none
    eqns-replaced k (more_eqns e es) h =
        let a = new.in_eqn nodes k e in
        let b = new.in_eqns nodes a.next es in
        let la = places (length a.locals) in
        let lb = places (length b.locals) in
        (λ i. join (decls-append a.locals b.locals i)
        ((listed-append a.before (a.part ++ list_of_eqns b.part)
        ∙ ap (join (listed a.before)) (listed-append a.part (list_of_eqns b.part) ∙ ap (λ x. join (listed a.part) (in_eqns known x)) (eqns-back b.part))
        ∙ sym (join-again (listed a.before) (listed a.part) (in_eqns known b.part))) i))
        ∙ shuffle la lb (join (listed a.before) (listed a.part)) (in_eqns known b.part)
        ∙ (λ i. join (eqn-replaced k e h.0 i) (eqns-replaced a.next es h.1 i))

    eqn-replaced : (k : ℕ) (e : Eqn) → EqnFits known nodes e → whole (listed (new.in_eqn nodes k e).part) (new.in_eqn nodes k e) ≡ in_eqn known e
    eqn-replaced k (define s xs e) h = right-replaced k s xs e h
    eqn-replaced k (switch s e arms) h =
        let cond = new.in_expr nodes k e in
        let bodies = new.in_arms nodes cond.next arms in
        let c = in_expr known cond.part in
        let d = in_arms known bodies.part in
        single cond (join c d) (join (in_expr known e) (in_arms known arms))
        (ap (λ z. whole z cond) (join-turn c d) ∙ front-whole cond d c ∙ join-turn d (whole c cond)
        ∙ (λ i. join (expr-replaced k e h.0 i) (arms-replaced cond.next arms h.1 i)))
    eqn-replaced k (reset s b e) h =
        let cond = new.in_expr nodes k e in
        let body = new.in_block nodes cond.next b in
        let c = in_expr known cond.part in
        let d = deeper (in_block known body.part) in
        single cond (join d c) (join (deeper (in_block known b)) (in_expr known e))
        (front-whole cond d c ∙ (λ i. join (deeper (block-replaced cond.next b h.0 i)) (expr-replaced k e h.1 i)))
    eqn-replaced k (automaton s qs) h =
        alone (join (join (places 4) (in_states known (new.in_states nodes k qs).part)) none) ∙ join-end (join (places 4) (in_states known (new.in_states nodes k qs).part))
        ∙ ap (join (places 4)) (states-replaced k qs h)

    arms-replaced : (k : ℕ) (arms : Arms) → ArmsFit known nodes arms → in_arms known (new.in_arms nodes k arms).part ≡ in_arms known arms
    arms-replaced k no_arm h = refl
    arms-replaced k (more_arms c b at arms) h = λ i. join (deeper (block-replaced k b h.0 i)) (arms-replaced (new.in_block nodes k b).next arms h.1 i)

    states-replaced : (k : ℕ) (qs : States) → StatesFit known nodes qs → in_states known (new.in_states nodes k qs).part ≡ in_states known qs
    states-replaced k no_state h = refl
    states-replaced k (more_states x b until unless at qs) h =
        λ i. join (join (deeper (block-replaced k b h.0 i)) (join (in_transitions known until) (in_transitions known unless))) (states-replaced (new.in_block nodes k b).next qs h.1 i)

  -- ---- contracts and nodes

  condition-replaced : (k : ℕ) (e : Option Expr) → ConditionFits known nodes e → whole (in_condition known (new.in_condition nodes k e).part) (new.in_condition nodes k e) ≡ in_condition known e
  condition-replaced k None h = alone none
  condition-replaced k (Some e) h = expr-replaced k e h

  contract-replaced : (k : ℕ) (c : Option Contract) → ContractFits known nodes c → in_contract known (new.in_contract nodes k c).part ≡ in_contract known c
  contract-replaced k None h = refl
  contract-replaced k (Some c) h = by c.body h.0
    where
      by : (b : Block) → BlockFits known nodes b → in_contract known (new.in_contract nodes k (Some (record c { body = b }))).part ≡ in_contract known (Some (record c { body = b }))
      by (block ds es) fits =
          let r = new.in_eqns nodes k es in
          let a = new.in_condition nodes r.next c.assume in
          let g = new.in_condition nodes a.next c.enforce in
          let d = places (length ds) in
          let lr = places (length r.locals) in
          let er = in_eqns known r.part in
          let sa = in_condition known a.part in
          let sg = in_condition known g.part in
          let more = places (length (a.locals ++ g.locals)) in
          let behind = listed (a.before ++ g.before) in
          let locals : places (length (ds ++ (r.locals ++ (a.locals ++ g.locals)))) ≡ join d (join lr more) =
          decls-append ds (r.locals ++ (a.locals ++ g.locals)) ∙ ap (join d) (decls-append r.locals (a.locals ++ g.locals)) in
          let equations : in_eqns known (eqns_of (list_of_eqns r.part ++ (a.before ++ g.before))) ≡ join er behind =
          listed-append (list_of_eqns r.part) (a.before ++ g.before) ∙ ap (λ x. join (in_eqns known x) behind) (eqns-back r.part) in
          ap (join (places (length c.controls)))
          ((λ i. join (join (locals i) (equations i)) (join sa sg))
          ∙ ap (λ t. join t (join sa sg)) (join-again d (join lr more) (join er behind) ∙ ap (join d) (shuffle lr more er behind) ∙ sym (join-again d (join lr er) (join more behind)))
          ∙ join-again (join d (join lr er)) (join more behind) (join sa sg)
          ∙ ap (join (join d (join lr er))) (join-again more behind (join sa sg) ∙ both-whole a g sa sg)
          ∙ (λ i. join (join d (eqns-replaced k es fits i)) (join (condition-replaced r.next c.assume h.1.0 i) (condition-replaced a.next c.enforce h.1.1 i))))

  pub node-replaced : (n : Node) → NodeFits known nodes n → in_node known (new.in_node nodes n) ≡ in_node known n
  node-replaced n h =
      λ i. join (join (places (length n.inputs)) (places (length n.outputs)))
      (join (contract-replaced 1 n.contract h.0 i) (block-replaced (new.in_contract nodes 1 n.contract).next n.body h.1 i))

-- so what is counted of a node is what there is in it once its inlined calls are replaced
pub counted_law : CountedAsReplaced
counted_law known nodes n h = node-numbered known (new.in_node nodes n) ∙ node-replaced known nodes n h
