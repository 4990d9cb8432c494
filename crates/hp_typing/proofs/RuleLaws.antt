-- The types of a part of a program agree exactly where none of its claims has a breach.
use Rattle.std.proofs.Common.{◌≡◌, ℕ, Bool, true, false, nat_eq, if◌then◌else◌, List, [], ◌∷◌, ◌++◌, Option, None, Some, ◌↔◌, length, refl, sym, ap, ◌∙◌, arith}
use Rattle.std.specs.Cmp.Lexicographic.{same_text, nat_list_eq_equiv}
use Rattle.std.specs.Str.{bytes_eq}
use Rattle.std.proofs.lemmas.Bool.Decides.{nat_tests}
use Rattle.hp_base.specs.declared.span.Span.{Span}
use Rattle.hp_tree.specs.declared.block.Trans.{Trans}
use Rattle.hp_base.specs.declared.ty.Ty.{Ty}
use Rattle.hp_base.specs.declared.ty.Ty.TheVariants.{Bool as bool, Int as int, Enum as enum}
use Rattle.hp_base.specs.declared.ty.Const.{Const}
use Rattle.hp_tree.specs.declared.decl.Cons.{Cons}
use Rattle.hp_tree.specs.declared.program.Item.{Item}
use Rattle.hp_tree.specs.declared.program.Item.TheVariants.{TypeItem, NodeItem}
use Rattle.hp_tree.specs.Expressions.{Expr, constant, variable, last_of, one, two, choose, pre, fby, arrow, when_is, merge, call, Exprs, no_expr, more_exprs, Parts, no_part, more_parts, list_of}
use Rattle.hp_tree.specs.Blocks.{Decl, Block, block, Eqns, no_eqn, more_eqns, Eqn, define, switch, reset, automaton, Arms, no_arm, more_arms, States, no_state, more_states}
use Rattle.hp_tree.specs.Programs.{Contract, Node}
use Rattle.hp_typing.specs.declared.error.Is.{Is}
use Rattle.hp_typing.specs.declared.error.Is.TheVariants.{Bool as is_bool, Int as is_int, Enum as is_enum, Row as is_row}
use Rattle.hp_base.specs.Known.Known.{lookup}
use Rattle.hp_tree.specs.Meaning.{controls_of}
use Rattle.hp_typing.specs.Scopes.{Scope, nothing, with_variables, inside, inside_node, behind}
use Rattle.hp_typing.specs.Types.{type_of, types_in, outputs_in, all_typed, constant_type, cons_type, type_of_one, operand, place}
use Rattle.hp_typing.specs.Rules.{Fits, Chooses, PairsFit, ArgsFit, AreOutputs, ExprIsTyped, ExprsAreTyped, OperandsAreTyped, PartsAreTyped, TestIsTyped, FirstIsTyped, PathIsTyped, ClockIsTyped, DeclsAreTyped, NamesFit, RowFits, SingleFits, RightIsTyped, TransitionsAreTyped, BlockIsTyped, EqnsAreTyped, EqnIsTyped, ArmsAreTyped, StatesAreTyped, ConditionIsTyped, ContractIsTyped, BodyIsTyped, NodeIsTyped, ItemIsTyped, ItemsAreTyped, WellTyped}
use Rattle.hp_typing.specs.Claims.{Claim, wants, is_of, tested, in_choice, in_pairs, in_inputs, in_known, in_outputs, in_expr, in_exprs, in_operands, in_parts, in_test, in_first, in_path, in_clock, in_decl, in_decls, in_names, in_row, in_single, in_right, in_transitions, in_block, in_eqns, in_eqn, in_arms, in_states, in_condition, in_contract, in_body, in_node, in_item, in_items, claims}
use Rattle.hp_typing.specs.Breaches.{same_is, breaches}
use Rattle.hp_typing.proofs.FoundLaws.{breaches-append}

-- ---- what is wanted is what is found

same_bytes : (x : List ℕ) → bytes_eq x x ≡ true
same_bytes x = nat_list_eq_equiv.refl x

same_row : (n : ℕ) → nat_eq n n ≡ true
same_row n = grind (arith, nat_tests)

one_row : (m n : ℕ) → nat_eq m n ≡ true → m ≡ n
one_row m n h = grind (arith, nat_tests)

pub is_self : (t : Is) → same_is t t ≡ true
is_self is_bool = refl
is_self is_int = refl
is_self (is_enum t) = same_bytes t
is_self (is_row n) = same_row n

pub is_same : (t u : Is) → same_is t u ≡ true → t ≡ u
is_same is_bool is_bool h = refl
is_same is_int is_int h = refl
is_same (is_enum t) (is_enum u) h = ap is_enum (same_text t u (sym h))
is_same (is_row m) (is_row n) h = ap is_row (one_row m n h)
is_same is_bool is_int h = absurd cc
is_same is_bool (is_enum u) h = absurd cc
is_same is_bool (is_row n) h = absurd cc
is_same is_int is_bool h = absurd cc
is_same is_int (is_enum u) h = absurd cc
is_same is_int (is_row n) h = absurd cc
is_same (is_enum t) is_bool h = absurd cc
is_same (is_enum t) is_int h = absurd cc
is_same (is_enum t) (is_row n) h = absurd cc
is_same (is_row m) is_bool h = absurd cc
is_same (is_row m) is_int h = absurd cc
is_same (is_row m) (is_enum u) h = absurd cc

type_same : (t u : Ty) → is_of t ≡ is_of u → t ≡ u
type_same bool bool h = refl
type_same int int h = refl
type_same (enum t) (enum u) h = let e : t ≡ u = cc in ap enum e
type_same bool int h = absurd cc
type_same bool (enum u) h = absurd cc
type_same int bool h = absurd cc
type_same int (enum u) h = absurd cc
type_same (enum t) bool h = absurd cc
type_same (enum t) int h = absurd cc

-- Nothing that is claimed is broken.
abbrev pub IsClear : List Claim → Type 0
IsClear cs = breaches cs ≡ []

append-empty : {A : Type 0} (xs ys : List A) → xs ++ ys ≡ [] → (xs ≡ []) × (ys ≡ [])
append-empty [] ys p = (refl, p)
append-empty (x ∷ xs) ys p = absurd cc

pub none : Unit {0} ↔ IsClear []
none = (λ u. refl, λ p. tt)

pub both : {A B : Type 0} (cs ds : List Claim) → A ↔ IsClear cs → B ↔ IsClear ds → (A × B) ↔ IsClear (cs ++ ds)
both cs ds l r = (
  λ h. breaches-append cs ds ∙ ap (λ bs. bs ++ breaches ds) (l.0 h.0) ∙ r.0 h.1,
  λ p. let q = append-empty (breaches cs) (breaches ds) (sym (breaches-append cs ds) ∙ p) in (l.1 q.0, r.1 q.1),
)

want_law : (at : Span) (t u : Is) → (t ≡ u) ↔ IsClear (wants at t u ∷ [])
want_law at t u = (λ h. rw (h, is_self u), λ p. by (same_is t u) refl p)
  where
    by : (d : Bool) → same_is t u ≡ d → IsClear (wants at t u ∷ []) → t ≡ u
    by true e p = is_same t u e
    by false e p = let q = rw e at p in absurd cc

fits_law : (at : Span) (t u : Option Ty) → Fits t u ↔ IsClear (tested at t u)
fits_law at None u = none
fits_law at (Some t) None = none
fits_law at (Some t) (Some u) = let w = want_law at (is_of t) (is_of u) in (λ h. w.0 (ap is_of h), λ p. type_same t u (w.1 p))

choice_law : (at : Span) (t : Option Ty) → Chooses t ↔ IsClear (in_choice at t)
choice_law at None = none
choice_law at (Some bool) = none
choice_law at (Some (enum t)) = none
choice_law at (Some int) = (λ h. absurd h, λ p. cc)

pairs_law : (s : Scope) (ds : List Decl) (es : Exprs) → PairsFit s ds es ↔ IsClear (in_pairs s ds es)
pairs_law s [] es = none
pairs_law s (d ∷ ds) no_expr = none
pairs_law s (d ∷ ds) (more_exprs e es) =
    both (tested (place e) (Some d.ty) (type_of s e)) (in_pairs s ds es) (fits_law (place e) (Some d.ty) (type_of s e)) (pairs_law s ds es)

-- so many are wanted, and then more is
count_law : {A : Type 0} (at : Span) (m n : ℕ) (cs : List Claim) → A ↔ IsClear cs → ((m ≡ n) × A) ↔ IsClear (if nat_eq m n then cs else wants at (is_row m) (is_row n) ∷ [])
count_law {A = A} at m n cs l = by (nat_eq m n) refl
  where
    by : (d : Bool) → nat_eq m n ≡ d → ((m ≡ n) × A) ↔ IsClear (if d then cs else wants at (is_row m) (is_row n) ∷ [])
    by true e = (λ h. l.0 h.1, λ p. (one_row m n e, l.1 p))
    by false e =
        let w = want_law at (is_row m) (is_row n) in
        (λ h. w.0 (ap is_row h.0), λ p. let k : is_row m ≡ is_row n = w.1 p in let j : m ≡ n = cc in let i : nat_eq m n ≡ true = rw j (same_row n) in absurd cc)

args_law : (s : Scope) (at : Span) (n : Option Node) (es : Exprs) → ArgsFit s n es ↔ IsClear (in_known s at n es)
args_law s at None es = none
args_law s at (Some n) es = by (all_typed (types_in s es))
  where
    by : (d : Bool) → (d ≡ true → (length n.inputs ≡ length (list_of es)) × PairsFit s n.inputs es) ↔ IsClear (if d then in_inputs s at n.inputs es else [])
    by true = let l = count_law at (length n.inputs) (length (list_of es)) (in_pairs s n.inputs es) (pairs_law s n.inputs es) in (λ h. l.0 (h refl), λ p e. l.1 p)
    by false = (λ h. refl, λ p e. absurd cc)

outputs_law : (at : Span) (n : ℕ) (ds : Option (List Decl)) → AreOutputs n ds ↔ IsClear (in_outputs at n ds)
outputs_law at n None = none
outputs_law at n (Some ds) = let w = want_law at (is_row n) (is_row (length ds)) in (λ h. w.0 (ap is_row h), λ p. let e : is_row n ≡ is_row (length ds) = w.1 p in cc)

-- ---- expressions

mutual
  expr_law : (s : Scope) (e : Expr) → ExprIsTyped s e ↔ IsClear (in_expr s e)
  expr_law s (constant at c) = none
  expr_law s (variable at x) = none
  expr_law s (last_of at x) = none
  expr_law s (one at op a) =
      both (in_expr s a) (tested (place a) (Some (type_of_one op)) (type_of s a)) (expr_law s a) (fits_law (place a) (Some (type_of_one op)) (type_of s a))
  expr_law s (two at op a b) =
      let w = operand op (type_of s a) in
      let l = tested (place a) w (type_of s a) in
      let r = tested (place b) w (type_of s b) in
      both (in_expr s a) (in_expr s b ++ (l ++ r)) (expr_law s a)
      (both (in_expr s b) (l ++ r) (expr_law s b) (both l r (fits_law (place a) w (type_of s a)) (fits_law (place b) w (type_of s b))))
  expr_law s (choose at a b c) =
      let l = tested (place a) (Some bool) (type_of s a) in
      let r = tested (place c) (type_of s b) (type_of s c) in
      both (in_expr s a) (in_expr s b ++ (in_expr s c ++ (l ++ r))) (expr_law s a)
      (both (in_expr s b) (in_expr s c ++ (l ++ r)) (expr_law s b)
      (both (in_expr s c) (l ++ r) (expr_law s c)
      (both l r (fits_law (place a) (Some bool) (type_of s a)) (fits_law (place c) (type_of s b) (type_of s c)))))
  expr_law s (pre at a) = expr_law s a
  expr_law s (fby at a b) =
      let r = tested (place b) (type_of s a) (type_of s b) in
      both (in_expr s a) (in_expr s b ++ r) (expr_law s a) (both (in_expr s b) r (expr_law s b) (fits_law (place b) (type_of s a) (type_of s b)))
  expr_law s (arrow at a b) =
      let r = tested (place b) (type_of s a) (type_of s b) in
      both (in_expr s a) (in_expr s b ++ r) (expr_law s a) (both (in_expr s b) r (expr_law s b) (fits_law (place b) (type_of s a) (type_of s b)))
  expr_law s (when_is at a c x) =
      both (in_expr s a) (tested at (lookup s.variables x) (cons_type s c)) (expr_law s a) (fits_law at (lookup s.variables x) (cons_type s c))
  expr_law s (merge at x ps) =
      let t = lookup s.variables x in
      both (in_choice at t) (in_operands s at t ps) (choice_law at t) (operands_law s at t ps)
  expr_law s (call at f inlined es) =
      let n = lookup s.nodes f in
      let o = outputs_in n (types_in s es) in
      both (in_exprs s es ++ in_known s at n es) (in_outputs at 1 o) (both (in_exprs s es) (in_known s at n es) (exprs_law s es) (args_law s at n es)) (outputs_law at 1 o)

  exprs_law : (s : Scope) (es : Exprs) → ExprsAreTyped s es ↔ IsClear (in_exprs s es)
  exprs_law s no_expr = none
  exprs_law s (more_exprs e es) = both (in_expr s e) (in_exprs s es) (expr_law s e) (exprs_law s es)

  operands_law : (s : Scope) (at : Span) (name : Option Ty) (ps : Parts) → OperandsAreTyped s name ps ↔ IsClear (in_operands s at name ps)
  operands_law s at name no_part = none
  operands_law s at name (more_parts c e ps) =
      let one_part = tested at name (cons_type s c) in
      let rest = in_parts s at name (type_of s e) ps in
      both one_part (in_expr s e ++ rest) (fits_law at name (cons_type s c)) (both (in_expr s e) rest (expr_law s e) (parts_law s at name (type_of s e) ps))

  parts_law : (s : Scope) (at : Span) (name first : Option Ty) (ps : Parts) → PartsAreTyped s name first ps ↔ IsClear (in_parts s at name first ps)
  parts_law s at name first no_part = none
  parts_law s at name first (more_parts c e ps) =
      let one_part = tested at name (cons_type s c) in
      let test = tested (place e) first (type_of s e) in
      let rest = in_parts s at name first ps in
      both one_part (in_expr s e ++ (test ++ rest)) (fits_law at name (cons_type s c))
      (both (in_expr s e) (test ++ rest) (expr_law s e) (both test rest (fits_law (place e) first (type_of s e)) (parts_law s at name first ps)))

test_law : (s : Scope) (e : Expr) → TestIsTyped s e ↔ IsClear (in_test s e)
test_law s e = both (in_expr s e) (tested (place e) (Some bool) (type_of s e)) (expr_law s e) (fits_law (place e) (Some bool) (type_of s e))

-- ---- declarations

first_law : (s : Scope) (at : Span) (t : Ty) (c : Option Const) → FirstIsTyped s t c ↔ IsClear (in_first s at t c)
first_law s at t None = none
first_law s at t (Some c) = fits_law at (Some t) (constant_type s c)

path_law : (s : Scope) (at : Span) (path : List (Cons × List ℕ)) → PathIsTyped s path ↔ IsClear (in_path s at path)
path_law s at [] = none
path_law s at (step ∷ steps) =
    both (tested at (lookup s.variables step.1) (cons_type s step.0)) (in_path s at steps) (fits_law at (lookup s.variables step.1) (cons_type s step.0)) (path_law s at steps)

clock_law : (s : Scope) (at : Span) (clock : Option (List (Cons × List ℕ))) → ClockIsTyped s clock ↔ IsClear (in_clock s at clock)
clock_law s at None = none
clock_law s at (Some path) = path_law s at path

decls_law : (s : Scope) (ds : List Decl) → DeclsAreTyped s ds ↔ IsClear (in_decls s ds)
decls_law s [] = none
decls_law s (d ∷ ds) =
    both (in_decl s d) (in_decls s ds)
    (both (in_first s d.span d.ty d.last) (in_clock s d.span d.clock) (first_law s d.span d.ty d.last) (clock_law s d.span d.clock))
    (decls_law s ds)

-- ---- equations

names_law : (s : Scope) (at : Span) (xs : List (List ℕ × Span)) (ds : List Decl) → NamesFit s xs ds ↔ IsClear (in_names s at xs ds)
names_law s at [] ds = none
names_law s at (x ∷ xs) [] = none
names_law s at (x ∷ xs) (d ∷ ds) =
    both (tested at (lookup s.variables x.0) (Some d.ty)) (in_names s at xs ds) (fits_law at (lookup s.variables x.0) (Some d.ty)) (names_law s at xs ds)

row_law : (s : Scope) (at : Span) (xs : List (List ℕ × Span)) (ds : Option (List Decl)) → RowFits s xs ds ↔ IsClear (in_row s at xs ds)
row_law s at xs None = none
row_law s at xs (Some ds) = count_law at (length xs) (length ds) (in_names s at xs ds) (names_law s at xs ds)

no_row : (at : Span) (n : ℕ) (t : Ty) → ⊥ ↔ IsClear (wants at (is_row n) (is_of t) ∷ [])
no_row at n bool = (λ h. absurd h, λ p. cc)
no_row at n int = (λ h. absurd h, λ p. cc)
no_row at n (enum t) = (λ h. absurd h, λ p. cc)

single_law : (s : Scope) (at : Span) (xs : List (List ℕ × Span)) (t : Option Ty) → SingleFits s xs t ↔ IsClear (in_single s at xs t)
single_law s at [] None = none
single_law s at (x ∷ []) None = none
single_law s at (x ∷ y ∷ xs) None = none
single_law s at [] (Some t) = no_row at 0 t
single_law s at (x ∷ []) (Some t) = fits_law at (lookup s.variables x.0) (Some t)
single_law s at (x ∷ y ∷ xs) (Some t) = no_row at (length (x ∷ y ∷ xs)) t

other_law : (s : Scope) (xs : List (List ℕ × Span)) (e : Expr) → (ExprIsTyped s e × SingleFits s xs (type_of s e)) ↔ IsClear (in_expr s e ++ in_single s (place e) xs (type_of s e))
other_law s xs e = both (in_expr s e) (in_single s (place e) xs (type_of s e)) (expr_law s e) (single_law s (place e) xs (type_of s e))

right_law : (s : Scope) (xs : List (List ℕ × Span)) (e : Expr) → RightIsTyped s xs e ↔ IsClear (in_right s xs e)
right_law s xs (call at f inlined es) =
    let n = lookup s.nodes f in
    let o = outputs_in n (types_in s es) in
    both (in_exprs s es ++ in_known s at n es) (in_row s at xs o) (both (in_exprs s es) (in_known s at n es) (exprs_law s es) (args_law s at n es)) (row_law s at xs o)
right_law s xs (constant at c) = other_law s xs (constant at c)
right_law s xs (variable at x) = other_law s xs (variable at x)
right_law s xs (last_of at x) = other_law s xs (last_of at x)
right_law s xs (one at op a) = other_law s xs (one at op a)
right_law s xs (two at op a b) = other_law s xs (two at op a b)
right_law s xs (choose at a b c) = other_law s xs (choose at a b c)
right_law s xs (pre at a) = other_law s xs (pre at a)
right_law s xs (fby at a b) = other_law s xs (fby at a b)
right_law s xs (arrow at a b) = other_law s xs (arrow at a b)
right_law s xs (when_is at a c x) = other_law s xs (when_is at a c x)
right_law s xs (merge at x ps) = other_law s xs (merge at x ps)

transitions_law : (s : Scope) (ts : List Trans) → TransitionsAreTyped s ts ↔ IsClear (in_transitions s ts)
transitions_law s [] = none
transitions_law s (t ∷ ts) = both (in_test s t.cond) (in_transitions s ts) (test_law s t.cond) (transitions_law s ts)

mutual
  block_law : (s : Scope) (b : Block) → BlockIsTyped s b ↔ IsClear (in_block s b)
  block_law s (block ds es) =
      both (in_decls (with_variables s ds) ds) (in_eqns (with_variables s ds) es) (decls_law (with_variables s ds) ds) (eqns_law (with_variables s ds) es)

  eqns_law : (s : Scope) (es : Eqns) → EqnsAreTyped s es ↔ IsClear (in_eqns s es)
  eqns_law s no_eqn = none
  eqns_law s (more_eqns e es) = both (in_eqn s e) (in_eqns s es) (eqn_law s e) (eqns_law s es)

  eqn_law : (s : Scope) (e : Eqn) → EqnIsTyped s e ↔ IsClear (in_eqn s e)
  eqn_law s (define at xs e) = right_law s xs e
  eqn_law s (switch at e arms) =
      let t = type_of s e in
      both (in_expr s e) (in_choice (place e) t ++ in_arms s t arms) (expr_law s e) (both (in_choice (place e) t) (in_arms s t arms) (choice_law (place e) t) (arms_law s t arms))
  eqn_law s (reset at b e) = both (in_block s b) (in_test s e) (block_law s b) (test_law s e)
  eqn_law s (automaton at qs) = states_law s qs

  arms_law : (s : Scope) (cond : Option Ty) (arms : Arms) → ArmsAreTyped s cond arms ↔ IsClear (in_arms s cond arms)
  arms_law s cond no_arm = none
  arms_law s cond (more_arms c b at arms) =
      both (tested at cond (cons_type s c)) (in_block s b ++ in_arms s cond arms) (fits_law at cond (cons_type s c))
      (both (in_block s b) (in_arms s cond arms) (block_law s b) (arms_law s cond arms))

  states_law : (s : Scope) (qs : States) → StatesAreTyped s qs ↔ IsClear (in_states s qs)
  states_law s no_state = none
  states_law s (more_states x b until unless at qs) =
      let weak = in_transitions (inside s b) until in
      let strong = in_transitions s unless in
      both (in_block s b) (weak ++ (strong ++ in_states s qs)) (block_law s b)
      (both weak (strong ++ in_states s qs) (transitions_law (inside s b) until)
      (both strong (in_states s qs) (transitions_law s unless) (states_law s qs)))

-- ---- nodes and programs

condition_law : (s : Scope) (e : Option Expr) → ConditionIsTyped s e ↔ IsClear (in_condition s e)
condition_law s None = none
condition_law s (Some e) = test_law s e

contract_law : (s : Scope) (c : Option Contract) → ContractIsTyped s c ↔ IsClear (in_contract s c)
contract_law s None = none
contract_law s (Some c) =
    let t = inside s c.body in
    both (in_block s c.body) (in_condition t c.assume ++ in_condition t c.enforce) (block_law s c.body)
    (both (in_condition t c.assume) (in_condition t c.enforce) (condition_law t c.assume) (condition_law t c.enforce))

body_law : (s : Scope) (controls : List Decl) (body : Block) → BodyIsTyped s controls body ↔ IsClear (in_body s controls body)
body_law s controls body =
    let t = with_variables s controls in
    both (in_decls t controls) (in_block t body) (decls_law t controls) (block_law t body)

node_law : (s : Scope) (n : Node) → NodeIsTyped s n ↔ IsClear (in_node s n)
node_law s n =
    let t = inside_node s n in
    let last_part = in_contract t n.contract ++ in_body t (controls_of n.contract) n.body in
    both (in_decls t n.inputs) (in_decls t n.outputs ++ last_part) (decls_law t n.inputs)
    (both (in_decls t n.outputs) last_part (decls_law t n.outputs)
    (both (in_contract t n.contract) (in_body t (controls_of n.contract) n.body) (contract_law t n.contract) (body_law t (controls_of n.contract) n.body)))

item_law : (s : Scope) (item : Item) → ItemIsTyped s item ↔ IsClear (in_item s item)
item_law s (TypeItem t) = none
item_law s (NodeItem n) = node_law s n

items_law : (s : Scope) (items : List Item) → ItemsAreTyped s items ↔ IsClear (in_items s items)
items_law s [] = none
items_law s (item ∷ items) = both (in_item s item) (in_items (behind s item) items) (item_law s item) (items_law (behind s item) items)

-- the types of a program agree exactly where it has no breach
pub program_law : (program : List Item) → WellTyped program ↔ (breaches (claims program) ≡ [])
program_law program = items_law nothing program
