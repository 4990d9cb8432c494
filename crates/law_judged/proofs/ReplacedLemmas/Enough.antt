-- What is counted of a program is no less than the declarations of its nodes once their inlined calls are replaced.
use Rattle.std.proofs.Common.{◌≡◌, ℕ, suc, ◌+◌, ◌≤◌, Bool, true, false, if◌then◌else◌, List, [], ◌∷◌, ◌++◌, length, refl, ap, ◌∙◌, subst, arith}
use Rattle.std.proofs.lemmas.List.{length-append}
use Rattle.std.specs.Prelude.{Option, None, Some}
use Rattle.std.specs.Str.{bytes_eq}
use Rattle.hp_base.specs.declared.span.Span.{Span}
use Rattle.hp_tree.specs.declared.program.Item.{Item}
use Rattle.hp_tree.specs.declared.program.Item.TheVariants.{TypeItem, NodeItem}
use Rattle.hp_tree.specs.Expressions.{Expr, constant, variable, last_of, one, two, choose, pre, fby, arrow, when_is, merge, call, Exprs, no_expr, more_exprs, Parts, no_part, more_parts}
use Rattle.hp_tree.specs.Blocks.{Decl, Block, block, Eqns, no_eqn, more_eqns, Eqn, define, switch, reset, automaton, Arms, no_arm, more_arms, States, no_state, more_states, eqns_of, list_of_eqns}
use Rattle.hp_tree.specs.Programs.{Contract, Node}
use Rattle.hp_expand.specs.NewNames.{is_new, marked}
use Rattle.hp_expand.specs.Renaming.{renamed_decls, renamed_eqns, renamed_eqn, renamed_block, renamed_arms, renamed_states}
use Rattle.hp_expand.specs.Replacing.{Replaced, given, locals_of, equations_of, inlined_call, defined_by, in_expr, in_exprs, in_parts, in_definition, in_block, in_eqns, in_eqn, in_arms, in_states, in_condition, in_contract, in_node}
use Rattle.hp_expand.specs.Numbering as number
use Rattle.hp_expand.specs.Numbering.{one_if_new, new_in_decls, new_in_block, new_in_eqns, new_in_eqn, new_in_arms, new_in_states, declaring, behind, numbered, replaced_node, with_node, no_node}
use Rattle.hp_expand.specs.Sizes as sizes
use Rattle.hp_expand.specs.Sizes.{places, join, deeper, called, of_call}
use Rattle.hp_expand.specs.Formed.{AreWithin}
use Rattle.law_judged.specs.Replaced.Laws.{FewVariables}
use Rattle.law_judged.specs.Replaced.Judged.{AllFewVariables, FewVariablesLaw}
use Rattle.law_judged.proofs.ReplacedLemmas.Good.{same_eqns}

abbrev TypeOf : {A : Type 0} → A → Type 0
TypeOf {A} a = A

-- what is counted of a part: its crate keeps the name of this type to itself
abbrev Size : Type 0
Size = TypeOf sizes.none

-- ---- how many declarations there are

abbrev mutual
  decls_in_block : Block → ℕ
  decls_in_block (block ds es) = length ds + decls_in_eqns es

  decls_in_eqns : Eqns → ℕ
  decls_in_eqns no_eqn = 0
  decls_in_eqns (more_eqns e es) = decls_in_eqn e + decls_in_eqns es

  decls_in_eqn : Eqn → ℕ
  decls_in_eqn (define s ys e) = 0
  decls_in_eqn (switch s e arms) = decls_in_arms arms
  decls_in_eqn (reset s b e) = decls_in_block b
  decls_in_eqn (automaton s ss) = decls_in_states ss

  decls_in_arms : Arms → ℕ
  decls_in_arms no_arm = 0
  decls_in_arms (more_arms c b s arms) = decls_in_block b + decls_in_arms arms

  decls_in_states : States → ℕ
  decls_in_states no_state = 0
  decls_in_states (more_states f b until unless s ss) = decls_in_block b + decls_in_states ss

abbrev variables : Node → ℕ
variables n = length n.inputs + (length n.outputs + decls_in_block n.body)

-- under other names there are as many
length_renamed : (to : List ℕ → List ℕ) (ds : List Decl) → length (renamed_decls to ds) ≡ length ds
length_renamed to [] = refl
length_renamed to (d ∷ ds) = ap suc (length_renamed to ds)

sum : (a b c d : ℕ) → a ≡ b → c ≡ d → a + c ≡ b + d
sum a b c d e f = omega (arith, e, f)

module _ (to : List ℕ → List ℕ) where
  mutual
    block_renamed : (b : Block) → decls_in_block (renamed_block to b) ≡ decls_in_block b
    block_renamed (block ds es) = sum (length (renamed_decls to ds)) (length ds) (decls_in_eqns (renamed_eqns to es)) (decls_in_eqns es) (length_renamed to ds) (eqns_renamed es)

    eqns_renamed : (es : Eqns) → decls_in_eqns (renamed_eqns to es) ≡ decls_in_eqns es
    eqns_renamed no_eqn = refl
    eqns_renamed (more_eqns e es) = sum (decls_in_eqn (renamed_eqn to e)) (decls_in_eqn e) (decls_in_eqns (renamed_eqns to es)) (decls_in_eqns es) (eqn_renamed e) (eqns_renamed es)

    eqn_renamed : (e : Eqn) → decls_in_eqn (renamed_eqn to e) ≡ decls_in_eqn e
    eqn_renamed (define s ys e) = refl
    eqn_renamed (switch s e arms) = arms_renamed arms
    eqn_renamed (reset s b e) = block_renamed b
    eqn_renamed (automaton s ss) = states_renamed ss

    arms_renamed : (arms : Arms) → decls_in_arms (renamed_arms to arms) ≡ decls_in_arms arms
    arms_renamed no_arm = refl
    arms_renamed (more_arms c b s arms) = sum (decls_in_block (renamed_block to b)) (decls_in_block b) (decls_in_arms (renamed_arms to arms)) (decls_in_arms arms) (block_renamed b) (arms_renamed arms)

    states_renamed : (ss : States) → decls_in_states (renamed_states to ss) ≡ decls_in_states ss
    states_renamed no_state = refl
    states_renamed (more_states f b until unless s ss) = sum (decls_in_block (renamed_block to b)) (decls_in_block b) (decls_in_states (renamed_states to ss)) (decls_in_states ss) (block_renamed b) (states_renamed ss)

mutual
  block_numbered : (to : List ℕ → List ℕ) (k : ℕ) (b : Block) → decls_in_block (number.in_block to k b) ≡ decls_in_block b
  block_numbered to k (block ds es) =
      sum (length (renamed_decls (declaring to k ds) ds)) (length ds) (decls_in_eqns (number.in_eqns (declaring to k ds) (k + new_in_decls ds) es)) (decls_in_eqns es)
      (length_renamed (declaring to k ds) ds) (eqns_numbered (declaring to k ds) (k + new_in_decls ds) es)

  eqns_numbered : (to : List ℕ → List ℕ) (k : ℕ) (es : Eqns) → decls_in_eqns (number.in_eqns to k es) ≡ decls_in_eqns es
  eqns_numbered to k no_eqn = refl
  eqns_numbered to k (more_eqns e es) =
      sum (decls_in_eqn (number.in_eqn to k e)) (decls_in_eqn e) (decls_in_eqns (number.in_eqns to (k + new_in_eqn e) es)) (decls_in_eqns es) (eqn_numbered to k e) (eqns_numbered to (k + new_in_eqn e) es)

  eqn_numbered : (to : List ℕ → List ℕ) (k : ℕ) (e : Eqn) → decls_in_eqn (number.in_eqn to k e) ≡ decls_in_eqn e
  eqn_numbered to k (define s ys e) = refl
  eqn_numbered to k (switch s e arms) = arms_numbered to k arms
  eqn_numbered to k (reset s b e) = block_numbered to k b
  eqn_numbered to k (automaton s ss) = states_numbered to k ss

  arms_numbered : (to : List ℕ → List ℕ) (k : ℕ) (arms : Arms) → decls_in_arms (number.in_arms to k arms) ≡ decls_in_arms arms
  arms_numbered to k no_arm = refl
  arms_numbered to k (more_arms c b s arms) =
      sum (decls_in_block (number.in_block to k b)) (decls_in_block b) (decls_in_arms (number.in_arms to (k + new_in_block b) arms)) (decls_in_arms arms) (block_numbered to k b) (arms_numbered to (k + new_in_block b) arms)

  states_numbered : (to : List ℕ → List ℕ) (k : ℕ) (ss : States) → decls_in_states (number.in_states to k ss) ≡ decls_in_states ss
  states_numbered to k no_state = refl
  states_numbered to k (more_states f (block ds es) until unless s ss) =
      sum (decls_in_block (number.in_block to k (block ds es))) (decls_in_block (block ds es)) (decls_in_states (number.in_states to (k + (new_in_decls ds + new_in_eqns es)) ss)) (decls_in_states ss)
      (block_numbered to k (block ds es)) (states_numbered to (k + (new_in_decls ds + new_in_eqns es)) ss)

-- new ones are no more than all
none_more : (a b c d : ℕ) → a ≤ b → c ≤ d → a + c ≤ b + d
none_more a b c d h l = omega (arith, h, l)

nothing_less : (n : ℕ) → 0 ≤ n
nothing_less n = omega arith

new_decls : (ds : List Decl) → new_in_decls ds ≤ length ds
new_decls [] = omega arith
new_decls (d ∷ ds) = by (is_new d.name) (new_decls ds)
  where
    by : (b : Bool) → new_in_decls ds ≤ length ds → (if b then 1 else 0) + new_in_decls ds ≤ suc (length ds)
    by true h = omega (arith, h)
    by false h = omega (arith, h)

mutual
  new_block : (b : Block) → new_in_block b ≤ decls_in_block b
  new_block (block ds es) = none_more (new_in_decls ds) (length ds) (new_in_eqns es) (decls_in_eqns es) (new_decls ds) (new_eqns es)

  new_eqns : (es : Eqns) → new_in_eqns es ≤ decls_in_eqns es
  new_eqns no_eqn = nothing_less 0
  new_eqns (more_eqns e es) = none_more (new_in_eqn e) (decls_in_eqn e) (new_in_eqns es) (decls_in_eqns es) (new_eqn e) (new_eqns es)

  new_eqn : (e : Eqn) → new_in_eqn e ≤ decls_in_eqn e
  new_eqn (define s ys e) = nothing_less 0
  new_eqn (switch s e arms) = new_arms arms
  new_eqn (reset s b e) = new_block b
  new_eqn (automaton s ss) = new_states ss

  new_arms : (arms : Arms) → new_in_arms arms ≤ decls_in_arms arms
  new_arms no_arm = nothing_less 0
  new_arms (more_arms c b s arms) = none_more (new_in_block b) (decls_in_block b) (new_in_arms arms) (decls_in_arms arms) (new_block b) (new_arms arms)

  new_states : (ss : States) → new_in_states ss ≤ decls_in_states ss
  new_states no_state = nothing_less 0
  new_states (more_states f b until unless s ss) = none_more (new_in_block b) (decls_in_block b) (new_in_states ss) (decls_in_states ss) (new_block b) (new_states ss)

-- ---- lists

decls_append : (a b : List Eqn) → decls_in_eqns (eqns_of (a ++ b)) ≡ decls_in_eqns (eqns_of a) + decls_in_eqns (eqns_of b)
decls_append [] b = omega arith
decls_append (e ∷ a) b =
    let h : decls_in_eqns (eqns_of (a ++ b)) ≡ decls_in_eqns (eqns_of a) + decls_in_eqns (eqns_of b) = decls_append a b in
    omega (arith, h)

given_none : (ds : List Decl) (es : Exprs) → decls_in_eqns (eqns_of (given ds es)) ≡ 0
given_none [] es = refl
given_none (d ∷ ds) no_expr = refl
given_none (d ∷ ds) (more_exprs e es) =
    let h : decls_in_eqns (eqns_of (given ds es)) ≡ 0 = given_none ds es in
    omega (arith, h)

defined_none : (s at : Span) (ys : List (List ℕ × Span)) (outs : List (List ℕ)) → decls_in_eqns (eqns_of (defined_by s ys at outs)) ≡ 0
defined_none s at [] outs = refl
defined_none s at (y ∷ ys) [] = refl
defined_none s at (y ∷ ys) (z ∷ outs) =
    let h : decls_in_eqns (eqns_of (defined_by s ys at outs)) ≡ 0 = defined_none s at ys outs in
    omega (arith, h)

-- new local variables, and the declarations in new equations
abbrev new : List Decl → List Eqn → ℕ
new ds es = length ds + decls_in_eqns (eqns_of es)

new_both : (ds es : List Decl) (a b : List Eqn) → new (ds ++ es) (a ++ b) ≡ new ds a + new es b
new_both ds es a b =
    let h : length (ds ++ es) ≡ length ds + length es = length-append ds es in
    let l : decls_in_eqns (eqns_of (a ++ b)) ≡ decls_in_eqns (eqns_of a) + decls_in_eqns (eqns_of b) = decls_append a b in
    omega (arith, h, l)

body_split : (b : Block) → decls_in_block b ≡ length (locals_of b) + decls_in_eqns (equations_of b)
body_split (block ds es) = refl

-- ---- replacing

module _ (known : List ℕ → Size) (nodes : List ℕ → Node) (counted : (f : List ℕ) → variables (nodes f) ≤ (known f).places) where
  -- what a call brings
  brings : (f : List ℕ) (k : ℕ) (args : Exprs) → new (renamed_decls (marked k) ((nodes f).inputs ++ ((nodes f).outputs ++ locals_of (nodes f).body))) (given (renamed_decls (marked k) (nodes f).inputs) args ++ list_of_eqns (renamed_eqns (marked k) (equations_of (nodes f).body))) ≤ (known f).places
  brings f k args =
      let n = nodes f in
      let all = n.inputs ++ (n.outputs ++ locals_of n.body) in
      let moved = renamed_eqns (marked k) (equations_of n.body) in
      let told = given (renamed_decls (marked k) n.inputs) args in
      let a : length (renamed_decls (marked k) all) ≡ length all = length_renamed (marked k) all in
      let b : length all ≡ length n.inputs + length (n.outputs ++ locals_of n.body) = length-append n.inputs (n.outputs ++ locals_of n.body) in
      let c : length (n.outputs ++ locals_of n.body) ≡ length n.outputs + length (locals_of n.body) = length-append n.outputs (locals_of n.body) in
      let d : decls_in_eqns (eqns_of (told ++ list_of_eqns moved)) ≡ decls_in_eqns (eqns_of told) + decls_in_eqns (eqns_of (list_of_eqns moved)) = decls_append told (list_of_eqns moved) in
      let e : decls_in_eqns (eqns_of told) ≡ 0 = given_none (renamed_decls (marked k) n.inputs) args in
      let g : decls_in_eqns (eqns_of (list_of_eqns moved)) ≡ decls_in_eqns (equations_of n.body) = ap decls_in_eqns (same_eqns moved) ∙ eqns_renamed (marked k) (equations_of n.body) in
      let h : decls_in_block n.body ≡ length (locals_of n.body) + decls_in_eqns (equations_of n.body) = body_split n.body in
      let m : length n.inputs + (length n.outputs + decls_in_block n.body) ≤ (known f).places = counted f in
      omega (arith, a, b, c, d, e, g, h, m)

  abbrev Of : ℕ → Expr → Type 0
  Of k e = new (in_expr nodes k e).locals (in_expr nodes k e).before ≤ (sizes.in_expr known e).places

  within : (n a b p q t : ℕ) → n ≡ a + b → a ≤ p → b ≤ q → p + q ≤ t → n ≤ t
  within n a b p q t e h l m = omega (arith, e, h, l, m)

  two_within : (k : ℕ) (a b : Expr) (t : ℕ) → Of k a → Of (in_expr nodes k a).next b → (sizes.in_expr known a).places + (sizes.in_expr known b).places ≤ t → new ((in_expr nodes k a).locals ++ (in_expr nodes (in_expr nodes k a).next b).locals) ((in_expr nodes k a).before ++ (in_expr nodes (in_expr nodes k a).next b).before) ≤ t
  two_within k a b t h l m =
      let r = in_expr nodes k a in
      let q = in_expr nodes r.next b in
      within (new (r.locals ++ q.locals) (r.before ++ q.before)) (new r.locals r.before) (new q.locals q.before) (sizes.in_expr known a).places (sizes.in_expr known b).places t
      (new_both r.locals q.locals r.before q.before) h l m

  inlined_within : (k : ℕ) (f : List ℕ) (es : Exprs) (t : ℕ) → new (in_exprs nodes k es).locals (in_exprs nodes k es).before ≤ (sizes.in_exprs known es).places → (sizes.in_exprs known es).places + (known f).places ≤ t → new (inlined_call (nodes f) (in_exprs nodes k es)).locals (inlined_call (nodes f) (in_exprs nodes k es)).before ≤ t
  inlined_within k f es t h m =
      let r = in_exprs nodes k es in
      let n = nodes f in
      let ls = renamed_decls (marked r.next) (n.inputs ++ (n.outputs ++ locals_of n.body)) in
      let made = given (renamed_decls (marked r.next) n.inputs) r.part ++ list_of_eqns (renamed_eqns (marked r.next) (equations_of n.body)) in
      within (new (r.locals ++ ls) (r.before ++ made)) (new r.locals r.before) (new ls made) (sizes.in_exprs known es).places (known f).places t
      (new_both r.locals ls r.before made) h (brings f r.next r.part) m

  mutual
    unfolding places join of_call called

    expr_within : (k : ℕ) (e : Expr) → Of k e
    expr_within k (constant at c) = nothing_less 1
    expr_within k (variable at x) = nothing_less 1
    expr_within k (last_of at x) = nothing_less 1
    expr_within k (one at op a) = let h : new (in_expr nodes k a).locals (in_expr nodes k a).before ≤ (sizes.in_expr known a).places = expr_within k a in omega (arith, h)
    expr_within k (two at op a b) = two_within k a b (1 + ((sizes.in_expr known a).places + (sizes.in_expr known b).places)) (expr_within k a) (expr_within (in_expr nodes k a).next b) (omega arith)
    expr_within k (choose at a b c) =
        let r = in_expr nodes k a in
        let q = in_expr nodes r.next b in
        let p = in_expr nodes q.next c in
        let rest : new (q.locals ++ p.locals) (q.before ++ p.before) ≤ (sizes.in_expr known b).places + (sizes.in_expr known c).places =
        two_within r.next b c ((sizes.in_expr known b).places + (sizes.in_expr known c).places) (expr_within r.next b) (expr_within q.next c) (omega arith) in
        within (new (r.locals ++ (q.locals ++ p.locals)) (r.before ++ (q.before ++ p.before))) (new r.locals r.before) (new (q.locals ++ p.locals) (q.before ++ p.before))
        (sizes.in_expr known a).places ((sizes.in_expr known b).places + (sizes.in_expr known c).places) (1 + ((sizes.in_expr known a).places + ((sizes.in_expr known b).places + (sizes.in_expr known c).places)))
        (new_both r.locals (q.locals ++ p.locals) r.before (q.before ++ p.before)) (expr_within k a) rest (omega arith)
    expr_within k (pre at a) = let h : new (in_expr nodes k a).locals (in_expr nodes k a).before ≤ (sizes.in_expr known a).places = expr_within k a in omega (arith, h)
    expr_within k (fby at a b) = two_within k a b (1 + ((sizes.in_expr known a).places + (sizes.in_expr known b).places)) (expr_within k a) (expr_within (in_expr nodes k a).next b) (omega arith)
    expr_within k (arrow at a b) = two_within k a b (1 + ((sizes.in_expr known a).places + (sizes.in_expr known b).places)) (expr_within k a) (expr_within (in_expr nodes k a).next b) (omega arith)
    expr_within k (when_is at a c x) = let h : new (in_expr nodes k a).locals (in_expr nodes k a).before ≤ (sizes.in_expr known a).places = expr_within k a in omega (arith, h)
    expr_within k (merge at x ps) = let h : new (in_parts nodes k ps).locals (in_parts nodes k ps).before ≤ (sizes.in_parts known ps).places = parts_within k ps in omega (arith, h)
    expr_within k (call at f false es) = let h : new (in_exprs nodes k es).locals (in_exprs nodes k es).before ≤ (sizes.in_exprs known es).places = exprs_within k es in omega (arith, h)
    expr_within k (call at f true es) = inlined_within k f es (1 + ((known f).places + (sizes.in_exprs known es).places)) (exprs_within k es) (omega arith)

    exprs_within : (k : ℕ) (es : Exprs) → new (in_exprs nodes k es).locals (in_exprs nodes k es).before ≤ (sizes.in_exprs known es).places
    exprs_within k no_expr = nothing_less 0
    exprs_within k (more_exprs e es) =
        let r = in_expr nodes k e in
        let q = in_exprs nodes r.next es in
        within (new (r.locals ++ q.locals) (r.before ++ q.before)) (new r.locals r.before) (new q.locals q.before) (sizes.in_expr known e).places (sizes.in_exprs known es).places
        ((sizes.in_expr known e).places + (sizes.in_exprs known es).places) (new_both r.locals q.locals r.before q.before) (expr_within k e) (exprs_within r.next es) (omega arith)

    parts_within : (k : ℕ) (ps : Parts) → new (in_parts nodes k ps).locals (in_parts nodes k ps).before ≤ (sizes.in_parts known ps).places
    parts_within k no_part = nothing_less 0
    parts_within k (more_parts c e ps) =
        let r = in_expr nodes k e in
        let q = in_parts nodes r.next ps in
        within (new (r.locals ++ q.locals) (r.before ++ q.before)) (new r.locals r.before) (new q.locals q.before) (sizes.in_expr known e).places (sizes.in_parts known ps).places
        ((sizes.in_expr known e).places + (sizes.in_parts known ps).places) (new_both r.locals q.locals r.before q.before) (expr_within k e) (parts_within r.next ps) (omega arith)

  -- ---- equations and blocks

  -- what is new before an equation, and what there is in its place
  abbrev all_new : Replaced (List Eqn) → ℕ
  all_new r = new r.locals r.before + decls_in_eqns (eqns_of r.part)

  add_none : (n m t : ℕ) → m ≡ 0 → n ≤ t → n + m ≤ t
  add_none n m t e h = omega (arith, e, h)

  define_within : (k : ℕ) (s : Span) (ys : List (List ℕ × Span)) (e : Expr) → all_new (in_definition nodes k s ys e) ≤ (sizes.in_right known (length ys) e).places
  unfolding places join of_call called
  define_within k s ys (call at f true es) =
      add_none (new (inlined_call (nodes f) (in_exprs nodes k es)).locals (inlined_call (nodes f) (in_exprs nodes k es)).before)
      (decls_in_eqns (eqns_of (defined_by s ys at (inlined_call (nodes f) (in_exprs nodes k es)).part))) (length ys + ((known f).places + (sizes.in_exprs known es).places))
      (defined_none s at ys (inlined_call (nodes f) (in_exprs nodes k es)).part)
      (inlined_within k f es (length ys + ((known f).places + (sizes.in_exprs known es).places)) (exprs_within k es) (omega arith))
  define_within k s ys (call at f false es) =
      let h : new (in_exprs nodes k es).locals (in_exprs nodes k es).before ≤ (sizes.in_exprs known es).places = exprs_within k es in
      omega (arith, h)
  define_within k s ys e = add_none (new (in_expr nodes k e).locals (in_expr nodes k e).before) 0 (sizes.in_expr known e).places refl (expr_within k e)

  mutual
    unfolding places join of_call called deeper

    block_within : (k : ℕ) (b : Block) → decls_in_block (in_block nodes k b).part ≤ (sizes.in_block known b).places
    block_within k (block ds es) =
        let r = in_eqns nodes k es in
        let a : length (ds ++ r.locals) ≡ length ds + length r.locals = length-append ds r.locals in
        let h : length r.locals + decls_in_eqns r.part ≤ (sizes.in_eqns known es).places = eqns_within k es in
        omega (arith, a, h)

    eqns_within : (k : ℕ) (es : Eqns) → length (in_eqns nodes k es).locals + decls_in_eqns (in_eqns nodes k es).part ≤ (sizes.in_eqns known es).places
    eqns_within k no_eqn = nothing_less 0
    eqns_within k (more_eqns e es) =
        let r = in_eqn nodes k e in
        let q = in_eqns nodes r.next es in
        let a : length (r.locals ++ q.locals) ≡ length r.locals + length q.locals = length-append r.locals q.locals in
        let b : decls_in_eqns (eqns_of (r.before ++ (r.part ++ list_of_eqns q.part))) ≡ decls_in_eqns (eqns_of r.before) + decls_in_eqns (eqns_of (r.part ++ list_of_eqns q.part)) = decls_append r.before (r.part ++ list_of_eqns q.part) in
        let c : decls_in_eqns (eqns_of (r.part ++ list_of_eqns q.part)) ≡ decls_in_eqns (eqns_of r.part) + decls_in_eqns (eqns_of (list_of_eqns q.part)) = decls_append r.part (list_of_eqns q.part) in
        let d : decls_in_eqns (eqns_of (list_of_eqns q.part)) ≡ decls_in_eqns q.part = ap decls_in_eqns (same_eqns q.part) in
        let h : length r.locals + decls_in_eqns (eqns_of r.before) + decls_in_eqns (eqns_of r.part) ≤ (sizes.in_eqn known e).places = eqn_within k e in
        let l : length q.locals + decls_in_eqns q.part ≤ (sizes.in_eqns known es).places = eqns_within r.next es in
        omega (arith, a, b, c, d, h, l)

    eqn_within : (k : ℕ) (e : Eqn) → all_new (in_eqn nodes k e) ≤ (sizes.in_eqn known e).places
    eqn_within k (define s ys e) = define_within k s ys e
    eqn_within k (switch s e arms) =
        let r = in_expr nodes k e in
        let h : new r.locals r.before ≤ (sizes.in_expr known e).places = expr_within k e in
        let l : decls_in_arms (in_arms nodes r.next arms).part ≤ (sizes.in_arms known arms).places = arms_within r.next arms in
        omega (arith, h, l)
    eqn_within k (reset s b e) =
        let r = in_expr nodes k e in
        let h : new r.locals r.before ≤ (sizes.in_expr known e).places = expr_within k e in
        let l : decls_in_block (in_block nodes r.next b).part ≤ (sizes.in_block known b).places = block_within r.next b in
        omega (arith, h, l)
    eqn_within k (automaton s ss) =
        let l : decls_in_states (in_states nodes k ss).part ≤ (sizes.in_states known ss).places = states_within k ss in
        omega (arith, l)

    arms_within : (k : ℕ) (arms : Arms) → decls_in_arms (in_arms nodes k arms).part ≤ (sizes.in_arms known arms).places
    arms_within k no_arm = nothing_less 0
    arms_within k (more_arms c b s arms) =
        let h : decls_in_block (in_block nodes k b).part ≤ (sizes.in_block known b).places = block_within k b in
        let l : decls_in_arms (in_arms nodes (in_block nodes k b).next arms).part ≤ (sizes.in_arms known arms).places = arms_within (in_block nodes k b).next arms in
        omega (arith, h, l)

    states_within : (k : ℕ) (ss : States) → decls_in_states (in_states nodes k ss).part ≤ (sizes.in_states known ss).places
    states_within k no_state = nothing_less 0
    states_within k (more_states f b until unless s ss) =
        let h : decls_in_block (in_block nodes k b).part ≤ (sizes.in_block known b).places = block_within k b in
        let l : decls_in_states (in_states nodes (in_block nodes k b).next ss).part ≤ (sizes.in_states known ss).places = states_within (in_block nodes k b).next ss in
        omega (arith, h, l)

  condition_within : (k : ℕ) (e : Option Expr) → new (in_condition nodes k e).locals (in_condition nodes k e).before ≤ (sizes.in_condition known e).places
  condition_within k None = nothing_less 0
  condition_within k (Some e) = expr_within k e

  -- how many there are in the block of a contract
  abbrev in_observer : Option Contract → ℕ
  in_observer None = 0
  in_observer (Some c) = decls_in_block c.body

  observer_by : (k : ℕ) (b : Block) (assume enforce : Option Expr) → let r = in_eqns nodes k (equations_of b) in let q = in_condition nodes r.next assume in let o = in_condition nodes q.next enforce in
      decls_in_block (block (locals_of b ++ (r.locals ++ (q.locals ++ o.locals))) (eqns_of (list_of_eqns r.part ++ (q.before ++ o.before)))) ≤ (sizes.in_block known b).places + ((sizes.in_condition known assume).places + (sizes.in_condition known enforce).places)
  unfolding places join
  observer_by k (block ds es) assume enforce =
      let r = in_eqns nodes k es in
      let q = in_condition nodes r.next assume in
      let o = in_condition nodes q.next enforce in
      let a : length (ds ++ (r.locals ++ (q.locals ++ o.locals))) ≡ length ds + length (r.locals ++ (q.locals ++ o.locals)) = length-append ds (r.locals ++ (q.locals ++ o.locals)) in
      let b : length (r.locals ++ (q.locals ++ o.locals)) ≡ length r.locals + length (q.locals ++ o.locals) = length-append r.locals (q.locals ++ o.locals) in
      let c : length (q.locals ++ o.locals) ≡ length q.locals + length o.locals = length-append q.locals o.locals in
      let d : decls_in_eqns (eqns_of (list_of_eqns r.part ++ (q.before ++ o.before))) ≡ decls_in_eqns (eqns_of (list_of_eqns r.part)) + decls_in_eqns (eqns_of (q.before ++ o.before)) = decls_append (list_of_eqns r.part) (q.before ++ o.before) in
      let e : decls_in_eqns (eqns_of (q.before ++ o.before)) ≡ decls_in_eqns (eqns_of q.before) + decls_in_eqns (eqns_of o.before) = decls_append q.before o.before in
      let f : decls_in_eqns (eqns_of (list_of_eqns r.part)) ≡ decls_in_eqns r.part = ap decls_in_eqns (same_eqns r.part) in
      let g : length r.locals + decls_in_eqns r.part ≤ (sizes.in_eqns known es).places = eqns_within k es in
      let h : length q.locals + decls_in_eqns (eqns_of q.before) ≤ (sizes.in_condition known assume).places = condition_within r.next assume in
      let i : length o.locals + decls_in_eqns (eqns_of o.before) ≤ (sizes.in_condition known enforce).places = condition_within q.next enforce in
      omega (arith, a, b, c, d, e, f, g, h, i)

  observer_within : (c : Option Contract) → in_observer (in_contract nodes 1 c).part ≤ (sizes.in_contract known c).places
  unfolding places join
  observer_within None = nothing_less 0
  observer_within (Some c) = let h = observer_by 1 c.body c.assume c.enforce in omega (arith, h)

  behind_observer : (c : Option Contract) → behind c ≤ suc (in_observer c)
  behind_observer None = omega arith
  behind_observer (Some c) = let h : new_in_block c.body ≤ decls_in_block c.body = new_block c.body in omega (arith, h)

  few : (n : Node) → (sizes.in_node known n).places ≤ 60000 → FewVariables (in_node nodes n)
  unfolding places join
  few n f =
      let k = (in_contract nodes 1 n.contract).next in
      let a : behind (in_contract nodes 1 n.contract).part ≤ suc (in_observer (in_contract nodes 1 n.contract).part) = behind_observer (in_contract nodes 1 n.contract).part in
      let b : in_observer (in_contract nodes 1 n.contract).part ≤ (sizes.in_contract known n.contract).places = observer_within n.contract in
      let c : new_in_block (in_block nodes k n.body).part ≤ decls_in_block (in_block nodes k n.body).part = new_block (in_block nodes k n.body).part in
      let d : decls_in_block (in_block nodes k n.body).part ≤ (sizes.in_block known n.body).places = block_within k n.body in
      omega (arith, a, b, c, d, f)

  replaced_counted : (n : Node) → variables (replaced_node nodes n) ≤ (sizes.in_node known n).places
  unfolding places join
  replaced_counted n =
      let k = (in_contract nodes 1 n.contract).next in
      let r = (in_block nodes k n.body).part in
      let first = behind (in_contract nodes 1 n.contract).part in
      let a : decls_in_block (number.in_block number.same_name first r) ≡ decls_in_block r = block_numbered number.same_name first r in
      let b : decls_in_block r ≤ (sizes.in_block known n.body).places = block_within k n.body in
      omega (arith, a, b)

-- ---- programs

counted_more : (known : List ℕ → Size) (nodes : List ℕ → Node) (n r : Node) (s : Size) → r.name ≡ n.name → ((f : List ℕ) → variables (nodes f) ≤ (known f).places) → variables r ≤ s.places → (f : List ℕ) → variables (with_node nodes r f) ≤ (sizes.with_node known n.name s f).places
counted_more known nodes n r s e c h f =
    subst (λ z. variables (with_node nodes r f) ≤ (sizes.with_node known z s f).places) e (by (bytes_eq r.name f))
  where
    by : (b : Bool) → variables (if b then r else nodes f) ≤ (if b then s else known f).places
    by true = h
    by false = c f

items_few : (known : List ℕ → Size) (nodes : List ℕ → Node) (total : ℕ) → ((f : List ℕ) → variables (nodes f) ≤ (known f).places) → (items : List Item) → AreWithin known total items → AllFewVariables nodes items
items_few known nodes total c [] w = tt
items_few known nodes total c (TypeItem t ∷ items) w = items_few known nodes total c items w
items_few known nodes total c (NodeItem n ∷ items) w = (
  few known nodes c n w.0.places,
  items_few (sizes.with_node known n.name (sizes.in_node known n)) (with_node nodes (replaced_node nodes n)) (total + (sizes.in_node known n).places)
      (counted_more known nodes n (replaced_node nodes n) (sizes.in_node known n) refl c (replaced_counted known nodes c n)) items w.1,
)

none_counted : (f : List ℕ) → variables (no_node f) ≤ (sizes.nothing_known f).places
none_counted f = nothing_less 0

pub few_variables : FewVariablesLaw
few_variables program w = items_few sizes.nothing_known no_node 0 none_counted program w
