-- Forgetting turns what a node holds at an instant into what its abstraction holds.
use Rattle.std.proofs.Common.{◌≡◌, ℕ, suc, List, [], ◌∷◌, map, refl, sym, ap, ap₂, ◌∙◌}
use Rattle.std.proofs.Math.Path.{fun_ext}
use Rattle.std.proofs.lemmas.List.Elements.{filter-append}
use Rattle.std.specs.Prelude.{Bool, true, false, if◌then◌else◌, nat_eq, IsTrue, Option, codes, None, Some, ◌++◌, filter, ⊤}
use Rattle.std.specs.Str.{bytes_eq}
use Rattle.std.specs.Bool.{MatchBool}
use Rattle.hp_base.specs.declared.span.Span.{Span}
use Rattle.hp_base.specs.declared.ty.Const.{Const}
use Rattle.hp_base.specs.declared.value.Value.{Value}
use Rattle.hp_base.specs.declared.value.Value.TheVariants.{Absent, Nil, B}
use Rattle.hp_tree.specs.declared.block.Trans.{Trans}
use Rattle.hp_tree.specs.Expressions.{Expr, constant, variable, last_of, one, two, choose, pre, fby, arrow, when_is, merge, call, Exprs, no_expr, more_exprs, Parts, no_part, more_parts}
use Rattle.hp_tree.specs.Blocks.{Decl, Block, block, Eqns, no_eqn, more_eqns, Eqn, define, switch, reset, automaton, Arms, no_arm, more_arms, States, no_state, more_states}
use Rattle.hp_tree.specs.Programs.{TypeDecl}
use Rattle.hp_tree.specs.Operators.{real, abstraction, constant_of, is_cons, is_true, one_of, two_of, if_of, marked, one_marked, two_marked}
use Rattle.hp_tree.specs.Instant.{Step, Body, Named, Equations, Head, Tail, Right, Test, Arms as ArmsOf, States as StatesOf, Until, Unless, Active, Next, First, Second, Third, Args, Instance, Place, Instant, Past, Given, part, parts, top, newest, at_first, own, nothing, alone, with_one, with_two, with_three, in_row, with_row, with_instance, of_two, in_block, in_right, with_arms, with_body, in_state, with_words, Clock, holds, without}
use Rattle.hp_tree.specs.Meaning.{Names, Nodes, defines, some_defines, block_defines, inside, within, previous, lasts, clock_of, Jump, state_word, selected, first_true, from_block, from_state, output_for, only_output, names_of, expr, exprs, merged, conditions, strong, read_in, last_in, weak_in, weak, from_arm, right, gives, defined, scope, equations, equation, arm, states}
use Rattle.hp_meaning.specs.Causal.Sources.{below}
use Rattle.hp_meaning.specs.Causal.Points.{Placed, Whereabouts, calls, calls_in_all, calls_in_parts, conditions as points_of_conditions, lefts, defined_by, points_of, points_of_all, points_of_one, points_of_arms, points_of_states, calls_told, point_at, span_of}
use Rattle.hp_meaning.specs.declared.causal.point.PointKind.TheVariants as kind
use Rattle.hp_meaning.proofs.CausalLemmas.Choices.{chosen, if_true}
use Rattle.hp_meaning.specs.Contract.Forgetting.{erased, erase, WellValued}
use Rattle.hp_meaning.specs.Contract.FreePlaces.{is_call}
use Rattle.hp_meaning.proofs.ContractLemmas.Marks.{marks, if_marked, is_true_marked, is_cons_marked, holds_marks, on_marks, one_mark, two_mark, if_mark, inside_marks, within_marks, first_true_marks}
use Rattle.hp_meaning.proofs.ContractLemmas.Shapes.{shown, nothing_erased, nothing_shown, alone_erased, one_erased, two_erased, three_erased, row_erased, with_row_erased, instance_erased, both_erased, block_erased, right_erased, arms_erased, body_erased, state_erased, words_erased, below_erased, below_shown, own_erased, own_shown, newest_erased, at_first_erased, selected_erased, previous_erased}

abbrev pub given : Past → Instant → Given
given past free = record { past = past; free = free }

-- ---- no call among some points, or any calls

abbrev pub NoCall : List Placed → Type 0
NoCall ps = filter (λ c. is_call c.point.kind) ps ≡ []

abbrev pub May : Bool → List Placed → Type 0
May calls ps = MatchBool calls ⊤ (NoCall ps)

first_empty : (xs ys : List Placed) → xs ++ ys ≡ [] → xs ≡ []
first_empty [] ys e = refl
first_empty (x ∷ xs) ys e = absurd (cc)

second_empty : (xs ys : List Placed) → xs ++ ys ≡ [] → ys ≡ []
second_empty [] ys e = e
second_empty (x ∷ xs) ys e = absurd (cc)

pub may_first : (t : Bool) (xs ys : List Placed) → May t (xs ++ ys) → May t xs
may_first true xs ys m = tt
may_first false xs ys m = first_empty _ (filter (λ c. is_call c.point.kind) ys) (sym (filter-append (λ c. is_call c.point.kind) xs ys) ∙ m)

pub may_second : (t : Bool) (xs ys : List Placed) → May t (xs ++ ys) → May t ys
may_second true xs ys m = tt
may_second false xs ys m = second_empty (filter (λ c. is_call c.point.kind) xs) _ (sym (filter-append (λ c. is_call c.point.kind) xs ys) ∙ m)

-- ---- values and parts

-- An instant holds what is said of it.
abbrev pub Met : Instant → Instant → Type 0
Met now said = (p : Place) → now p ≡ said p

pub values_below : (s : Step) (now : Instant) → WellValued now → WellValued (part s now)
values_below s now ok = record { no_mark = λ p. ok.no_mark (s ∷ p); of_numbers = λ p. ok.of_numbers (s ∷ p) }

-- Given values are like those of an instant: the same where it holds a Boolean, and the same but for marks everywhere.
pub record Like (free now : Instant) : Type 0 where
  pub told : (p : Place) (b : Bool) → now p ≡ B b → free p ≡ B b
  pub alike : (p : Place) → marked (free p) ≡ marked (now p)

pub like_below : (s : Step) (free now : Instant) → Like free now → Like (part s free) (part s now)
like_below s free now l = record { told = λ p. l.told (s ∷ p); alike = λ p. l.alike (s ∷ p) }

pub down : (s : Step) → ((i : Instant) → part s (erased i) ≡ erased (part s i)) → (past past' : Past) → past' ≡ erase past → parts s past' ≡ erase (parts s past)
down s h past past' e = ap (parts s) e ∙ below_erased s h past

pub own_down : (s : Step) → ((i : Instant) → part s (erased i) ≡ erased (part s i)) → (past past' : Past) → past' ≡ erase past → own (parts s past') ≡ erase (own (parts s past))
own_down s h past past' e = ap own (down s h past past' e) ∙ own_erased (parts s past)

pub since_down : (fresh : Bool) (past past' : Past) → past' ≡ erase past → (if fresh then [] else own past') ≡ erase (if fresh then [] else own past)
since_down true past past' e = refl
since_down false past past' e = ap own e ∙ own_erased past

if_erased : (d : Bool) (now X X' : Instant) → Met now (if d then X else nothing) → (Met now X → X' ≡ erased X) → (if d then X' else nothing) ≡ erased (if d then X else nothing)
if_erased true now X X' m f = f m
if_erased false now X X' m f = nothing_erased

if_shown : (d : Bool) (now X X' : Instant) → Met now (if d then X else nothing) → (Met now X → X' ≡ shown X) → (if d then X' else nothing) ≡ shown (if d then X else nothing)
if_shown true now X X' m f = f m
if_shown false now X X' m f = nothing_shown

if_same : {A : Type 0} (d : Bool) (x x' y y' : A) → (IsTrue d → x' ≡ x) → y' ≡ y → (if d then x' else y') ≡ (if d then x else y)
if_same true x x' y y' f e = f refl
if_same false x x' y y' f e = e

tops_erased : (is : List Instant) → map top (map erased is) ≡ map marked (map top is)
tops_erased [] = refl
tops_erased (i ∷ is) = ap (λ vs. marked (top i) ∷ vs) (tops_erased is)

chosen_marks : (types : List TypeDecl) (ps : Parts) (v : Value) (is : List Instant) → chosen types ps (marked v) (map erased is) ≡ marked (chosen types ps v is)
chosen_marks types no_part v is = refl
chosen_marks types (more_parts c e ps) v [] = refl
chosen_marks types (more_parts c e ps) v (i ∷ is) =
    ap₂ (λ d w. if d then marked (top i) else w) (is_cons_marked types v c) (chosen_marks types ps v is) ∙ if_marked (is_cons types v c) (top i) (chosen types ps v is)

output_marks : (os : List (List ℕ)) (i : Instant) → only_output os (shown i) ≡ marked (only_output os i)
output_marks [] i = refl
output_marks (o ∷ os) i = refl

output_for_marks : (ys : List (List ℕ × Span)) (os : List (List ℕ)) (i : Instant) (x : List ℕ) → output_for ys os (shown i) x ≡ marked (output_for ys os i x)
output_for_marks [] os i x = refl
output_for_marks (y ∷ ys) [] i x = refl
output_for_marks (y ∷ ys) (o ∷ os) i x =
    ap (λ v. if bytes_eq y.0 x then marked (i (Named o ∷ [])) else v) (output_for_marks ys os i x) ∙ if_marked (bytes_eq y.0 x) (i (Named o ∷ [])) (output_for ys os i x)

-- the last values of names
pub lasts_marks : (types : List TypeDecl) (ds : List Decl) (past past' : Past) (out : Names) → ((x : List ℕ) (v : Value) → previous past' x (marked v) ≡ marked (previous past x v)) → lasts (λ c. marked (constant_of types c)) ds past' (marks out) ≡ marks (lasts (constant_of types) ds past out)
lasts_marks types ds past past' out e = fun_ext (λ x. at_name ds x)
  where
    declared : (o : Option Const) (x : List ℕ) → (elim o [ None ↦ marked (out x) | Some c ↦ previous past' x (marked (constant_of types c)) ]) ≡ marked (elim o [ None ↦ out x | Some c ↦ previous past x (constant_of types c) ])
    declared None x = refl
    declared (Some c) x = e x (constant_of types c)

    at_name : (ds : List Decl) (x : List ℕ) → lasts (λ c. marked (constant_of types c)) ds past' (marks out) x ≡ marked (lasts (constant_of types) ds past out x)
    at_name [] x = refl
    at_name (d ∷ ds) x =
        ap₂ (λ v w. if bytes_eq d.name x then v else w) (declared d.last x) (at_name ds x) ∙ if_marked (bytes_eq d.name x) _ (lasts (constant_of types) ds past out x)

lasts_erased : (types : List TypeDecl) (ds : List Decl) (past past' : Past) (out : Names) → past' ≡ erase past → lasts (λ c. marked (constant_of types c)) ds past' (marks out) ≡ marks (lasts (constant_of types) ds past out)
lasts_erased types ds past past' out e = lasts_marks types ds past past' out (λ x v. ap (λ q. previous q x (marked v)) e ∙ previous_erased past x v)

-- ---- nodes that are called

-- The abstract nodes hold what is kept of the real ones.
abbrev pub Erases : Nodes → Nodes → Type 0
Erases N N' =
    (f : List ℕ) (vs : List Value) (past : Past) (free free' now : Instant)
    → WellValued now → Like free' now → Met now (N.instant f vs (given past free) now)
    → N'.instant f (map marked vs) (given (map shown past) free') (shown now) ≡ shown (N.instant f vs (given past free) now)

module _ (types : List TypeDecl) (N N' : Nodes) (may_call : Bool) (same_outputs : IsTrue may_call → (f : List ℕ) → N'.outputs f ≡ N.outputs f) (erases : IsTrue may_call → Erases N N') where
  allowed : (t : Bool) (p : Placed) (ps : List Placed) → IsTrue (is_call p.point.kind) → May t (p ∷ ps) → IsTrue t
  allowed true p ps c m = refl
  allowed false p ps c m = absurd (not_empty (is_call p.point.kind) p (filter (λ c. is_call c.point.kind) ps) c m)
    where
      not_empty : (d : Bool) (x : Placed) (xs : List Placed) → IsTrue d → (if d then x ∷ xs else xs) ≡ [] → ⊥
      not_empty true x xs d e = absurd (cc)
      not_empty false x xs d e = absurd (cc)

  -- ---- expressions

  mutual
    expr_erased : (e : Expr) (w : Whereabouts) → May may_call (calls e w) → (c : Clock) (names last : Names) (past past' : Past) → past' ≡ erase past → (free free' now : Instant) → WellValued now → Like free' now → Met now (expr types real N e c names last (given past free) now) → expr types abstraction N' e c (marks names) (marks last) (given past' free') (erased now) ≡ erased (expr types real N e c names last (given past free) now)
    expr_erased (constant s k) w may c names last past past' e free free' now ok like met =
        ap alone (on_marks types c names (constant_of types k)) ∙ alone_erased (if holds types c names then constant_of types k else Absent)
    expr_erased (variable s x) w may c names last past past' e free free' now ok like met = alone_erased (names x)
    expr_erased (last_of s x) w may c names last past past' e free free' now ok like met = alone_erased (last x)
    expr_erased (one s o a) w may c names last past past' e free free' now ok like met =
        let i = expr types real N a c names last (given (parts First past) (part First free)) (part First now) in
        let t = expr_erased a (below First w) may c names last (parts First past) (parts First past') (down First (λ i. refl) past past' e) (part First free) (part First free') (part First now) (values_below First now ok) (like_below First free' now like) (λ p. met (First ∷ p)) in
        ap (λ i'. with_one (one_marked o (top i')) i') t
        ∙ ap (λ v. with_one v (erased i)) (one_mark o (top i) (λ m. ok.no_mark (First ∷ []) (met (First ∷ []) ∙ m)))
        ∙ one_erased (one_of o (top i)) i
    expr_erased (two s o a b) w may c names last past past' e free free' now ok like met =
        let i = expr types real N a c names last (given (parts First past) (part First free)) (part First now) in
        let j = expr types real N b c names last (given (parts Second past) (part Second free)) (part Second now) in
        let t = expr_erased a (below First w) (may_first may_call (calls a (below First w)) (calls b (below Second w)) may) c names last (parts First past) (parts First past') (down First (λ i. refl) past past' e) (part First free) (part First free') (part First now) (values_below First now ok) (like_below First free' now like) (λ p. met (First ∷ p)) in
        let u = expr_erased b (below Second w) (may_second may_call (calls a (below First w)) (calls b (below Second w)) may) c names last (parts Second past) (parts Second past') (down Second (λ i. refl) past past' e) (part Second free) (part Second free') (part Second now) (values_below Second now ok) (like_below Second free' now like) (λ p. met (Second ∷ p)) in
        ap₂ (λ i' j'. with_two (two_marked o (free' []) (top i') (top j')) i' j') t u
        ∙ ap (λ v. with_two v (erased i) (erased j))
        (two_mark o (free' []) (now []) (top i) (top j) (met []) (like.told []) (λ m. ok.no_mark (First ∷ []) (met (First ∷ []) ∙ m)) (λ m. ok.no_mark (Second ∷ []) (met (Second ∷ []) ∙ m)) (λ a b x y. ok.of_numbers [] a b (met (First ∷ []) ∙ x) (met (Second ∷ []) ∙ y)))
        ∙ two_erased (two_of o (top i) (top j)) i j
    expr_erased (choose s a b d) w may c names last past past' e free free' now ok like met =
        let rest = calls b (below Second w) ++ calls d (below Third w) in
        let i = expr types real N a c names last (given (parts First past) (part First free)) (part First now) in
        let j = expr types real N b c names last (given (parts Second past) (part Second free)) (part Second now) in
        let k = expr types real N d c names last (given (parts Third past) (part Third free)) (part Third now) in
        let t = expr_erased a (below First w) (may_first may_call (calls a (below First w)) rest may) c names last (parts First past) (parts First past') (down First (λ i. refl) past past' e) (part First free) (part First free') (part First now) (values_below First now ok) (like_below First free' now like) (λ p. met (First ∷ p)) in
        let may' = may_second may_call (calls a (below First w)) rest may in
        let u = expr_erased b (below Second w) (may_first may_call (calls b (below Second w)) (calls d (below Third w)) may') c names last (parts Second past) (parts Second past') (down Second (λ i. refl) past past' e) (part Second free) (part Second free') (part Second now) (values_below Second now ok) (like_below Second free' now like) (λ p. met (Second ∷ p)) in
        let v = expr_erased d (below Third w) (may_second may_call (calls b (below Second w)) (calls d (below Third w)) may') c names last (parts Third past) (parts Third past') (down Third (λ i. refl) past past' e) (part Third free) (part Third free') (part Third now) (values_below Third now ok) (like_below Third free' now like) (λ p. met (Third ∷ p)) in
        let together : with_three (if_of (top (t 0)) (top (u 0)) (top (v 0))) (t 0) (u 0) (v 0) ≡ with_three (if_of (marked (top i)) (marked (top j)) (marked (top k))) (erased i) (erased j) (erased k) = λ z. with_three (if_of (top (t z)) (top (u z)) (top (v z))) (t z) (u z) (v z) in
        together
        ∙ ap (λ x. with_three x (erased i) (erased j) (erased k)) (if_mark (top i) (top j) (top k))
        ∙ three_erased (if_of (top i) (top j) (top k)) i j k
    expr_erased (pre s a) w may c names last past past' e free free' now ok like met =
        let i = expr types real N a c names last (given (parts First past) (part First free)) (part First now) in
        let q = down First (λ i. refl) past past' e in
        let t = expr_erased a (below First w) may c names last (parts First past) (parts First past') q (part First free) (part First free') (part First now) (values_below First now ok) (like_below First free' now like) (λ p. met (First ∷ p)) in
        ap₂ (λ r i'. with_one (if holds types c (marks names) then newest Nil r else Absent) i') q t
        ∙ ap (λ v. with_one (if holds types c (marks names) then v else Absent) (erased i)) (newest_erased (parts First past))
        ∙ ap (λ v. with_one v (erased i)) (on_marks types c names (newest Nil (parts First past)))
        ∙ one_erased (if holds types c names then newest Nil (parts First past) else Absent) i
    expr_erased (fby s a b) w may c names last past past' e free free' now ok like met =
        let i = expr types real N a c names last (given (parts First past) (part First free)) (part First now) in
        let j = expr types real N b c names last (given (parts Second past) (part Second free)) (part Second now) in
        let q = down First (λ i. refl) past past' e in
        let r = down Second (λ i. refl) past past' e in
        let t = expr_erased a (below First w) (may_first may_call (calls a (below First w)) (calls b (below Second w)) may) c names last (parts First past) (parts First past') q (part First free) (part First free') (part First now) (values_below First now ok) (like_below First free' now like) (λ p. met (First ∷ p)) in
        let u = expr_erased b (below Second w) (may_second may_call (calls a (below First w)) (calls b (below Second w)) may) c names last (parts Second past) (parts Second past') r (part Second free) (part Second free') (part Second now) (values_below Second now ok) (like_below Second free' now like) (λ p. met (Second ∷ p)) in
        let v = newest Nil (parts Second past) in
        let together : with_two (if holds types c (marks names) then at_first (q 0) (top (t 0)) (newest Nil (r 0)) else Absent) (t 0) (u 0) ≡ with_two (if holds types c (marks names) then at_first (erase (parts First past)) (marked (top i)) (newest Nil (erase (parts Second past))) else Absent) (erased i) (erased j) = λ z. with_two (if holds types c (marks names) then at_first (q z) (top (t z)) (newest Nil (r z)) else Absent) (t z) (u z) in
        together
        ∙ ap (λ x. with_two (if holds types c (marks names) then at_first (erase (parts First past)) (marked (top i)) x else Absent) (erased i) (erased j)) (newest_erased (parts Second past))
        ∙ ap (λ x. with_two (if holds types c (marks names) then x else Absent) (erased i) (erased j)) (at_first_erased (parts First past) (top i) v)
        ∙ ap (λ x. with_two x (erased i) (erased j)) (on_marks types c names (at_first (parts First past) (top i) v))
        ∙ two_erased (if holds types c names then at_first (parts First past) (top i) v else Absent) i j
    expr_erased (arrow s a b) w may c names last past past' e free free' now ok like met =
        let i = expr types real N a c names last (given (parts First past) (part First free)) (part First now) in
        let j = expr types real N b c names last (given (parts Second past) (part Second free)) (part Second now) in
        let q = down First (λ i. refl) past past' e in
        let t = expr_erased a (below First w) (may_first may_call (calls a (below First w)) (calls b (below Second w)) may) c names last (parts First past) (parts First past') q (part First free) (part First free') (part First now) (values_below First now ok) (like_below First free' now like) (λ p. met (First ∷ p)) in
        let u = expr_erased b (below Second w) (may_second may_call (calls a (below First w)) (calls b (below Second w)) may) c names last (parts Second past) (parts Second past') (down Second (λ i. refl) past past' e) (part Second free) (part Second free') (part Second now) (values_below Second now ok) (like_below Second free' now like) (λ p. met (Second ∷ p)) in
        let together : with_two (at_first (q 0) (top (t 0)) (top (u 0))) (t 0) (u 0) ≡ with_two (at_first (erase (parts First past)) (marked (top i)) (marked (top j))) (erased i) (erased j) = λ z. with_two (at_first (q z) (top (t z)) (top (u z))) (t z) (u z) in
        together
        ∙ ap (λ x. with_two x (erased i) (erased j)) (at_first_erased (parts First past) (top i) (top j))
        ∙ two_erased (at_first (parts First past) (top i) (top j)) i j
    expr_erased (when_is s a k x) w may c names last past past' e free free' now ok like met =
        let i = expr types real N a (without c) names last (given (parts First past) (part First free)) (part First now) in
        let t = expr_erased a (below First w) may (without c) names last (parts First past) (parts First past') (down First (λ i. refl) past past' e) (part First free) (part First free') (part First now) (values_below First now ok) (like_below First free' now like) (λ p. met (First ∷ p)) in
        ap (λ i'. with_one (if is_cons types (marked (names x)) k then top i' else Absent) i') t
        ∙ ap (λ d. with_one (if d then marked (top i) else Absent) (erased i)) (is_cons_marked types (names x) k)
        ∙ ap (λ v. with_one v (erased i)) (if_marked (is_cons types (names x) k) (top i) Absent)
        ∙ one_erased (if is_cons types (names x) k then top i else Absent) i
    expr_erased (merge s x ps) w may c names last past past' e free free' now ok like met =
        let is = merged types real N ps x c names last (given (parts Args past) (part Args free)) (part Args now) in
        let t = parts_erased ps (below Args w) may x c names last (parts Args past) (parts Args past') (down Args (λ i. refl) past past' e) (part Args free) (part Args free') (part Args now) (values_below Args now ok) (like_below Args free' now like) (λ p. met (Args ∷ p)) in
        ap (λ is'. with_row (chosen types ps (marked (names x)) is') is') t
        ∙ ap (λ v. with_row v (map erased is)) (chosen_marks types ps (names x) is)
        ∙ with_row_erased (chosen types ps (names x) is) is
    expr_erased (call s f inlined es) w may c names last past past' e free free' now ok like met =
        let al = allowed may_call (point_at kind.Call f s (w [])) (calls_in_all es (below Args w)) refl may in
        let is = exprs types real N es c names last (given (parts Args past) (part Args free)) (part Args now) in
        let q = own (parts Instance past) in
        let X = N.instant f (map top is) (given q (part Instance free)) (part Instance now) in
        let i = if holds types c names then X else nothing in
        let t = exprs_erased es (below Args w) (may_second may_call (point_at kind.Call f s (w []) ∷ []) (calls_in_all es (below Args w)) may) c names last (parts Args past) (parts Args past') (down Args (λ i. refl) past past' e) (part Args free) (part Args free') (part Args now) (values_below Args now ok) (like_below Args free' now like) (λ p. met (Args ∷ p)) in
        let there = if_shown (holds types c names) (part Instance now) X (N'.instant f (map marked (map top is)) (given (map shown q) (part Instance free')) (shown (part Instance now)))
        (λ p. met (Instance ∷ p)) (erases al f (map top is) q (part Instance free) (part Instance free') (part Instance now) (values_below Instance now ok) (like_below Instance free' now like)) in
        let j = ap (λ d. if d then N'.instant f (map top (exprs types abstraction N' es c (marks names) (marks last) (given (parts Args past') (part Args free')) (part Args (erased now)))) (given (own (parts Instance past')) (part Instance free')) (shown (part Instance now)) else nothing) (holds_marks types c names)
        ∙ ap₂ (λ vs r. if holds types c names then N'.instant f vs (given r (part Instance free')) (shown (part Instance now)) else nothing)
        (ap (map top) t ∙ tops_erased is)
        (ap (λ r. own (parts Instance r)) e ∙ ap own (below_shown past) ∙ own_shown (parts Instance past))
        ∙ there in
        ap₂ (λ is' i'. with_instance (only_output (N'.outputs f) i') is' i') t j
        ∙ ap (λ os. with_instance (only_output os (shown i)) (map erased is) (shown i)) (same_outputs al f)
        ∙ ap (λ v. with_instance v (map erased is) (shown i)) (output_marks (N.outputs f) i)
        ∙ instance_erased (only_output (N.outputs f) i) is i

    exprs_erased : (es : Exprs) (w : Whereabouts) → May may_call (calls_in_all es w) → (c : Clock) (names last : Names) (past past' : Past) → past' ≡ erase past → (free free' now : Instant) → WellValued now → Like free' now → Met now (in_row (exprs types real N es c names last (given past free) now)) → exprs types abstraction N' es c (marks names) (marks last) (given past' free') (erased now) ≡ map erased (exprs types real N es c names last (given past free) now)
    exprs_erased no_expr w may c names last past past' e free free' now ok like met = refl
    exprs_erased (more_exprs a es) w may c names last past past' e free free' now ok like met =
        ap₂ (λ i is. i ∷ is)
        (expr_erased a (below Head w) (may_first may_call (calls a (below Head w)) (calls_in_all es (below Tail w)) may) c names last (parts Head past) (parts Head past') (down Head (λ i. refl) past past' e) (part Head free) (part Head free') (part Head now) (values_below Head now ok) (like_below Head free' now like) (λ p. met (Head ∷ p)))
        (exprs_erased es (below Tail w) (may_second may_call (calls a (below Head w)) (calls_in_all es (below Tail w)) may) c names last (parts Tail past) (parts Tail past') (down Tail (λ i. refl) past past' e) (part Tail free) (part Tail free') (part Tail now) (values_below Tail now ok) (like_below Tail free' now like) (λ p. met (Tail ∷ p)))

    parts_erased : (ps : Parts) (w : Whereabouts) → May may_call (calls_in_parts ps w) → (x : List ℕ) (c : Clock) (names last : Names) (past past' : Past) → past' ≡ erase past → (free free' now : Instant) → WellValued now → Like free' now → Met now (in_row (merged types real N ps x c names last (given past free) now)) → merged types abstraction N' ps x c (marks names) (marks last) (given past' free') (erased now) ≡ map erased (merged types real N ps x c names last (given past free) now)
    parts_erased no_part w may x c names last past past' e free free' now ok like met = refl
    parts_erased (more_parts k a ps) w may x c names last past past' e free free' now ok like met =
        ap₂ (λ i is. i ∷ is)
        (expr_erased a (below Head w) (may_first may_call (calls a (below Head w)) (calls_in_parts ps (below Tail w)) may) ((k, x) ∷ c) names last (parts Head past) (parts Head past') (down Head (λ i. refl) past past' e) (part Head free) (part Head free') (part Head now) (values_below Head now ok) (like_below Head free' now like) (λ p. met (Head ∷ p)))
        (parts_erased ps (below Tail w) (may_second may_call (calls a (below Head w)) (calls_in_parts ps (below Tail w)) may) x c names last (parts Tail past) (parts Tail past') (down Tail (λ i. refl) past past' e) (part Tail free) (part Tail free') (part Tail now) (values_below Tail now ok) (like_below Tail free' now like) (λ p. met (Tail ∷ p)))

  -- ---- transitions

  conditions_erased : (ts : List Trans) (w : Whereabouts) → May may_call (points_of_conditions ts w) → (names last : Names) (past past' : Past) → past' ≡ erase past → (free free' now : Instant) → WellValued now → Like free' now → Met now (in_row (conditions types real N ts names last (given past free) now)) → conditions types abstraction N' ts (marks names) (marks last) (given past' free') (erased now) ≡ map erased (conditions types real N ts names last (given past free) now)
  conditions_erased [] w may names last past past' e free free' now ok like met = refl
  conditions_erased (t ∷ ts) w may names last past past' e free free' now ok like met =
      let here = point_at kind.Cond (codes "cond") (span_of t.cond) (w (Head ∷ [])) ∷ [] in
      let inner = may_second may_call here (calls t.cond (below Head w) ++ points_of_conditions ts (below Tail w)) may in
      ap₂ (λ i is. i ∷ is)
      (expr_erased t.cond (below Head w) (may_first may_call (calls t.cond (below Head w)) (points_of_conditions ts (below Tail w)) inner) [] names last (parts Head past) (parts Head past') (down Head (λ i. refl) past past' e) (part Head free) (part Head free') (part Head now) (values_below Head now ok) (like_below Head free' now like) (λ p. met (Head ∷ p)))
      (conditions_erased ts (below Tail w) (may_second may_call (calls t.cond (below Head w)) (points_of_conditions ts (below Tail w)) inner) names last (parts Tail past) (parts Tail past') (down Tail (λ i. refl) past past' e) (part Tail free) (part Tail free') (part Tail now) (values_below Tail now ok) (like_below Tail free' now like) (λ p. met (Tail ∷ p)))

  jumps : (all : States) (ts : List Trans) (is is' : List Instant) (j : Jump) → is' ≡ map erased is → first_true all ts (map top is') j ≡ first_true all ts (map top is) j
  jumps all ts is is' j e = ap (λ is. first_true all ts (map top is) j) e ∙ ap (λ vs. first_true all ts vs j) (tops_erased is) ∙ first_true_marks all ts (map top is) j

  pub read_in_marks : (b : Block) (names : Names) (now : Instant) → read_in types abstraction N' b (marks names) (erased now) ≡ marks (read_in types real N b names now)
  read_in_marks (block ds es) names now = inside_marks es names now (erased now) (λ x. refl)

  pub last_in_marks : (b : Block) (past past' : Past) (last : Names) → past' ≡ erase past → last_in types abstraction N' b past' (marks last) ≡ marks (last_in types real N b past last)
  last_in_marks (block ds es) past past' last e = lasts_erased types ds past past' last e

  -- The states of an automaton hold what is said of them, from some number on.
  abbrev States_met : States → ℕ → Jump → Names → Names → Names → Past → Instant → Instant → Type 0
  States_met ss k j out names last past free now = Met now (states types real N ss k j out names last (given past free) now)

  in_states : (s : Span) (ss : States) (declared : List (List ℕ)) (named : List ℕ → Place) (w : Whereabouts) → May may_call (points_of_one declared named (automaton s ss) w) → May may_call (points_of_states declared ss (below StatesOf w))
  in_states s ss declared named w may =
      let active = point_at kind.Active (codes "active") s (w (Active ∷ [])) ∷ point_at kind.Next (codes "next") s (w (Next ∷ [])) ∷ [] in
      let defs = defined_by (automaton s ss) s declared named in
      may_second may_call defs (points_of_states declared ss (below StatesOf w)) (may_second may_call active (defs ++ points_of_states declared ss (below StatesOf w)) may)

  strong_erased : (all ss : States) (w : Whereabouts) (declared : List (List ℕ)) → May may_call (points_of_states declared ss w) → (k m : ℕ) (u j : Jump) (names inner last : Names) (past past' : Past) → past' ≡ erase past → (free free' now : Instant) → WellValued now → Like free' now → States_met ss m j names inner last past free now → strong types abstraction N' all ss k u (marks names) (marks last) (given past' free') (erased now) ≡ strong types real N all ss k u names last (given past free) now
  strong_erased all no_state w declared may k m u j names inner last past past' e free free' now ok like met = refl
  strong_erased all (more_states f b until unless s ss) w declared may k m u j names inner last past past' e free free' now ok like met =
      let rest = points_of_states declared ss (below Tail w) in
      let weak_ones = points_of_conditions until (below Until (below Head w)) in
      let strong_ones = points_of_conditions unless (below Unless (below Head w)) in
      let may' = may_second may_call weak_ones (strong_ones ++ rest) (may_second may_call (points_of declared b (below Body (below Head w))) (weak_ones ++ (strong_ones ++ rest)) may) in
      let d = down Head (λ i. refl) past past' e in
      let t = conditions_erased unless (below Unless (below Head w)) (may_first may_call strong_ones rest may') names last (parts Unless (parts Head past)) (parts Unless (parts Head past')) (down Unless (λ i. refl) (parts Head past) (parts Head past') d) (part Unless (part Head free)) (part Unless (part Head free')) (part Unless (part Head now)) (values_below Unless (part Head now) (values_below Head now ok)) (like_below Unless (part Head free') (part Head now) (like_below Head free' now like)) (λ p. met (Head ∷ Unless ∷ p)) in
      ap₂ (λ v x. if nat_eq k u.state then v else x)
      (jumps all unless _ _ u t)
      (strong_erased all ss (below Tail w) declared (may_second may_call strong_ones rest may') (suc k) (suc m) u j names inner last (parts Tail past) (parts Tail past') (down Tail (λ i. refl) past past' e) (part Tail free) (part Tail free') (part Tail now) (values_below Tail now ok) (like_below Tail free' now like) (λ p. met (Tail ∷ p)))

  -- the strong transition of an automaton
  first_jump : (s : Span) (ss : States) (declared : List (List ℕ)) (named : List ℕ → Place) (w : Whereabouts) → May may_call (points_of_one declared named (automaton s ss) w) → (names last : Names) (past past' : Past) → past' ≡ erase past → (free free' now : Instant) → WellValued now → Like free' now → (inner : Names) (j : Jump) → States_met ss 0 j names inner last (parts StatesOf past) (part StatesOf free) (part StatesOf now) → strong types abstraction N' ss ss 0 (selected past') (marks names) (marks last) (given (parts StatesOf past') (part StatesOf free')) (part StatesOf (erased now)) ≡ strong types real N ss ss 0 (selected past) names last (given (parts StatesOf past) (part StatesOf free)) (part StatesOf now)
  first_jump s ss declared named w may names last past past' e free free' now ok like inner j met =
      ap (λ u. strong types abstraction N' ss ss 0 u (marks names) (marks last) (given (parts StatesOf past') (part StatesOf free')) (erased (part StatesOf now))) (ap selected e ∙ selected_erased past)
      ∙ strong_erased ss ss (below StatesOf w) declared (in_states s ss declared named w may) 0 0 (selected past) j names inner last (parts StatesOf past) (parts StatesOf past') (down StatesOf (λ i. refl) past past' e) (part StatesOf free) (part StatesOf free') (part StatesOf now) (values_below StatesOf now ok) (like_below StatesOf free' now like) met

  weak_in_erased : (b : Block) (until : List Trans) (w : Whereabouts) → May may_call (points_of_conditions until w) → (j : Jump) (names last : Names) (past past' : Past) → past' ≡ erase past → (free free' now : Instant) → WellValued now → Like free' now → Met (part Until now) (in_row (weak_in types real N b until j names last (given past free) now)) → weak_in types abstraction N' b until j (marks names) (marks last) (given past' free') (erased now) ≡ map erased (weak_in types real N b until j names last (given past free) now)
  weak_in_erased b until w may j names last past past' e free free' now ok like met =
      let q = if j.restart then [] else own (parts Body past) in
      let inner = read_in types real N b names (part Body now) in
      let last' = last_in types real N b q last in
      ap₂ (λ n l. conditions types abstraction N' until n l (given (parts Until past') (part Until free')) (part Until (erased now)))
      (read_in_marks b names (part Body now))
      (last_in_marks b q (if j.restart then [] else own (parts Body past')) last (since_down j.restart (parts Body past) (parts Body past') (down Body (λ i. refl) past past' e)))
      ∙ conditions_erased until w may inner last' (parts Until past) (parts Until past') (down Until (λ i. refl) past past' e) (part Until free) (part Until free') (part Until now) (values_below Until now ok) (like_below Until free' now like) met

  weak_erased : (all ss : States) (w : Whereabouts) (declared : List (List ℕ)) → May may_call (points_of_states declared ss w) → (k : ℕ) (j : Jump) (out names last : Names) (past past' : Past) → past' ≡ erase past → (free free' now : Instant) → WellValued now → Like free' now → States_met ss k j out names last past free now → weak types abstraction N' all ss k j (marks names) (marks last) (given past' free') (erased now) ≡ weak types real N all ss k j names last (given past free) now
  weak_erased all no_state w declared may k j out names last past past' e free free' now ok like met = refl
  weak_erased all (more_states f b until unless s ss) w declared may k j out names last past past' e free free' now ok like met =
      let rest = points_of_states declared ss (below Tail w) in
      let weak_ones = points_of_conditions until (below Until (below Head w)) in
      let strong_ones = points_of_conditions unless (below Unless (below Head w)) in
      let may' = may_second may_call (points_of declared b (below Body (below Head w))) (weak_ones ++ (strong_ones ++ rest)) may in
      let is = weak_in types real N b until j names last (given (parts Head past) (part Head free)) (part Head now) in
      if_same (nat_eq k j.state) _ _ _ _
      (λ d. jumps all until is _ (record { state = j.state; restart = false })
      (weak_in_erased b until (below Until (below Head w)) (may_first may_call weak_ones (strong_ones ++ rest) may') j names last (parts Head past) (parts Head past') (down Head (λ i. refl) past past' e) (part Head free) (part Head free') (part Head now) (values_below Head now ok) (like_below Head free' now like)
      (λ p. met (Head ∷ Until ∷ p) ∙ ap (λ (i : Instant). i p) (if_true (nat_eq k j.state) (in_row is) nothing d))))
      (weak_erased all ss (below Tail w) declared (may_second may_call strong_ones rest (may_second may_call weak_ones (strong_ones ++ rest) may')) (suc k) j out names last (parts Tail past) (parts Tail past') (down Tail (λ i. refl) past past' e) (part Tail free) (part Tail free') (part Tail now) (values_below Tail now ok) (like_below Tail free' now like) (λ p. met (Tail ∷ p)))

  -- ---- what is given to names

  from_block_marks : (b : Block) (last : Names) (now : Instant) (x : List ℕ) → from_block b (marks last) (erased now) x ≡ marked (from_block b last now x)
  from_block_marks b last now x = if_marked (block_defines b x) (now (Named x ∷ [])) (last x)

  from_arm_marks : (arms : Arms) (v : Value) (last : Names) (now : Instant) (x : List ℕ) → from_arm types abstraction N' arms (marked v) (marks last) (erased now) x ≡ marked (from_arm types real N arms v last now x)
  from_arm_marks no_arm v last now x = refl
  from_arm_marks (more_arms c b s arms) v last now x =
      let together : (if is_cons types (marked v) c then from_block b (marks last) (erased (part Head now)) x else from_arm types abstraction N' arms (marked v) (marks last) (erased (part Tail now)) x) ≡ (if is_cons types v c then marked (from_block b last (part Head now) x) else marked (from_arm types real N arms v last (part Tail now) x)) = λ z. if is_cons_marked types v c z then from_block_marks b last (part Head now) x z else from_arm_marks arms v last (part Tail now) x z in
      together ∙ if_marked (is_cons types v c) (from_block b last (part Head now) x) (from_arm types real N arms v last (part Tail now) x)

  from_state_marks : (ss : States) (k n : ℕ) (last : Names) (now : Instant) (x : List ℕ) → from_state ss k n (marks last) (erased now) x ≡ marked (from_state ss k n last now x)
  from_state_marks no_state k n last now x = refl
  from_state_marks (more_states f b until unless s ss) k n last now x =
      ap₂ (λ v w. if nat_eq k n then v else w) (from_block_marks b last (part Body (part Head now)) x) (from_state_marks ss (suc k) n last (part Tail now) x)
      ∙ if_marked (nat_eq k n) (from_block b last (part Body (part Head now)) x) (from_state ss (suc k) n last (part Tail now) x)

  right_marks : (ys : List (List ℕ × Span)) (e : Expr) (w : Whereabouts) → May may_call (calls e w) → (i : Instant) (x : List ℕ) → right types abstraction N' ys e (erased i) x ≡ marked (right types real N ys e i x)
  right_marks ys (call s f inlined es) w may i x =
      let al = allowed may_call (point_at kind.Call f s (w [])) (calls_in_all es (below Args w)) refl may in
      ap (λ os. output_for ys os (shown (part Instance i)) x) (same_outputs al f) ∙ output_for_marks ys (N.outputs f) (part Instance i) x
  right_marks ys e w may i x = refl

  gives_marks : (ds : List Decl) (e : Eqn) (declared : List (List ℕ)) (named : List ℕ → Place) (w : Whereabouts) → May may_call (points_of_one declared named e w) → (names last : Names) (past past' : Past) → past' ≡ erase past → (free free' now : Instant) → WellValued now → Like free' now → Met now (equation types real N ds e names last (given past free) now) → (x : List ℕ) → gives types abstraction N' ds e (marks names) (marks last) (given past' free') (erased now) x ≡ marked (gives types real N ds e names last (given past free) now x)
  gives_marks ds (define s ys a) declared named w may names last past past' e free free' now ok like met x =
      let may' = may_second may_call (lefts ys named) (calls a (below Right w)) may in
      ap (λ i. right types abstraction N' ys a i x) (expr_erased a (below Right w) may' (clock_of ds ys a) names last (parts Right past) (parts Right past') (down Right (λ i. refl) past past' e) (part Right free) (part Right free') (part Right now) (values_below Right now ok) (like_below Right free' now like) (λ p. met (Right ∷ p)))
      ∙ right_marks ys a (below Right w) may' (expr types real N a (clock_of ds ys a) names last (given (parts Right past) (part Right free)) (part Right now)) x
  gives_marks ds (switch s a arms) declared named w may names last past past' e free free' now ok like met x =
      let rest = calls a (below Test w) ++ points_of_arms declared arms (below ArmsOf w) in
      let may' = may_second may_call (defined_by (switch s a arms) s declared named) rest may in
      ap (λ i. from_arm types abstraction N' arms (top i) (marks last) (erased (part ArmsOf now)) x)
      (expr_erased a (below Test w) (may_first may_call (calls a (below Test w)) (points_of_arms declared arms (below ArmsOf w)) may') [] names last (parts Test past) (parts Test past') (down Test (λ i. refl) past past' e) (part Test free) (part Test free') (part Test now) (values_below Test now ok) (like_below Test free' now like) (λ p. met (Test ∷ p)))
      ∙ from_arm_marks arms (top (expr types real N a [] names last (given (parts Test past) (part Test free)) (part Test now))) last (part ArmsOf now) x
  gives_marks ds (reset s b a) declared named w may names last past past' e free free' now ok like met x = refl
  gives_marks ds (automaton s ss) declared named w may names last past past' e free free' now ok like met x =
      let u = selected past in
      let j = strong types real N ss ss 0 u names last (given (parts StatesOf past) (part StatesOf free)) (part StatesOf now) in
      ap (λ (k : Jump). from_state ss 0 k.state (marks last) (erased (part StatesOf now)) x) (first_jump s ss declared named w may names last past past' e free free' now ok like (within (automaton s ss) names last) j (λ p. met (StatesOf ∷ p)))
      ∙ from_state_marks ss 0 j.state last (part StatesOf now) x

  defined_marks : (ds : List Decl) (es : Eqns) (declared : List (List ℕ)) (named : List ℕ → Place) (w : Whereabouts) → May may_call (points_of_all declared named es w) → (names last : Names) (past past' : Past) → past' ≡ erase past → (free free' now : Instant) → WellValued now → Like free' now → Met now (equations types real N ds es names last (given past free) now) → (x : List ℕ) → defined types abstraction N' ds es (marks names) (marks last) (given past' free') (erased now) x ≡ marked (defined types real N ds es names last (given past free) now x)
  defined_marks ds no_eqn declared named w may names last past past' e free free' now ok like met x = refl
  defined_marks ds (more_eqns a es) declared named w may names last past past' e free free' now ok like met x =
      let here = points_of_one declared named a (below Head w) in
      let rest = points_of_all declared named es (below Tail w) in
      ap₂ (λ v u. if defines a x then v else u)
      (gives_marks ds a declared named (below Head w) (may_first may_call here rest may) names last (parts Head past) (parts Head past') (down Head (λ i. refl) past past' e) (part Head free) (part Head free') (part Head now) (values_below Head now ok) (like_below Head free' now like) (λ p. met (Head ∷ p)) x)
      (defined_marks ds es declared named (below Tail w) (may_second may_call here rest may) names last (parts Tail past) (parts Tail past') (down Tail (λ i. refl) past past' e) (part Tail free) (part Tail free') (part Tail now) (values_below Tail now ok) (like_below Tail free' now like) (λ p. met (Tail ∷ p)) x)
      ∙ if_marked (defines a x) (gives types real N ds a names last (given (parts Head past) (part Head free)) (part Head now) x) (defined types real N ds es names last (given (parts Tail past) (part Tail free)) (part Tail now) x)

  -- ---- blocks

  mutual
    pub block_forgets : (b : Block) (declared : List (List ℕ)) (w : Whereabouts) → May may_call (points_of declared b w) → (fresh : Bool) (names last : Names) (past past' : Past) → past' ≡ erase past → (free free' now : Instant) → WellValued now → Like free' now → Met now (scope types real N b fresh names last (given past free) now) → scope types abstraction N' b fresh (marks names) (marks last) (given past' free') (erased now) ≡ erased (scope types real N b fresh names last (given past free) now)
    block_forgets (block ds es) declared w may fresh names last past past' e free free' now ok like met =
        let inner = inside es names now in
        let last' = lasts (constant_of types) ds past last in
        let declared' = declared ++ names_of ds in
        let named = λ (x : List ℕ). w (Named x ∷ []) in
        let q = down Equations (λ i. refl) past past' e in
        let i = equations types real N ds es inner last' (given (parts Equations past) (part Equations free)) (part Equations now) in
        let values : Names = λ x. if some_defines es x then defined types real N ds es inner last' (given (parts Equations past) (part Equations free)) (part Equations now) x else Absent in
        ap₂ (λ n l. in_block (λ x. if some_defines es x then defined types abstraction N' ds es n l (given (parts Equations past') (part Equations free')) (erased (part Equations now)) x else Absent) (B fresh) (equations types abstraction N' ds es n l (given (parts Equations past') (part Equations free')) (erased (part Equations now))))
        (inside_marks es names now (erased now) (λ x. refl)) (lasts_erased types ds past past' last e)
        ∙ ap₂ (λ f i. in_block f (B fresh) i)
        (fun_ext (λ x. ap (λ v. if some_defines es x then v else Absent) (defined_marks ds es declared' named (below Equations w) may inner last' (parts Equations past) (parts Equations past') q (part Equations free) (part Equations free') (part Equations now) (values_below Equations now ok) (like_below Equations free' now like) (λ p. met (Equations ∷ p)) x)
        ∙ if_marked (some_defines es x) (defined types real N ds es inner last' (given (parts Equations past) (part Equations free)) (part Equations now) x) Absent))
        (equations_forget ds es declared' named (below Equations w) may inner last' (parts Equations past) (parts Equations past') q (part Equations free) (part Equations free') (part Equations now) (values_below Equations now ok) (like_below Equations free' now like) (λ p. met (Equations ∷ p)))
        ∙ block_erased values fresh i

    equations_forget : (ds : List Decl) (es : Eqns) (declared : List (List ℕ)) (named : List ℕ → Place) (w : Whereabouts) → May may_call (points_of_all declared named es w) → (names last : Names) (past past' : Past) → past' ≡ erase past → (free free' now : Instant) → WellValued now → Like free' now → Met now (equations types real N ds es names last (given past free) now) → equations types abstraction N' ds es (marks names) (marks last) (given past' free') (erased now) ≡ erased (equations types real N ds es names last (given past free) now)
    equations_forget ds no_eqn declared named w may names last past past' e free free' now ok like met = nothing_erased
    equations_forget ds (more_eqns a es) declared named w may names last past past' e free free' now ok like met =
        let here = points_of_one declared named a (below Head w) in
        let rest = points_of_all declared named es (below Tail w) in
        ap₂ of_two
        (equation_forgets ds a declared named (below Head w) (may_first may_call here rest may) names last (parts Head past) (parts Head past') (down Head (λ i. refl) past past' e) (part Head free) (part Head free') (part Head now) (values_below Head now ok) (like_below Head free' now like) (λ p. met (Head ∷ p)))
        (equations_forget ds es declared named (below Tail w) (may_second may_call here rest may) names last (parts Tail past) (parts Tail past') (down Tail (λ i. refl) past past' e) (part Tail free) (part Tail free') (part Tail now) (values_below Tail now ok) (like_below Tail free' now like) (λ p. met (Tail ∷ p)))
        ∙ both_erased (equation types real N ds a names last (given (parts Head past) (part Head free)) (part Head now)) (equations types real N ds es names last (given (parts Tail past) (part Tail free)) (part Tail now))

    equation_forgets : (ds : List Decl) (e : Eqn) (declared : List (List ℕ)) (named : List ℕ → Place) (w : Whereabouts) → May may_call (points_of_one declared named e w) → (names last : Names) (past past' : Past) → past' ≡ erase past → (free free' now : Instant) → WellValued now → Like free' now → Met now (equation types real N ds e names last (given past free) now) → equation types abstraction N' ds e (marks names) (marks last) (given past' free') (erased now) ≡ erased (equation types real N ds e names last (given past free) now)
    equation_forgets ds (define s ys a) declared named w may names last past past' e free free' now ok like met =
        let c = clock_of ds ys a in
        ap in_right (expr_erased a (below Right w) (may_second may_call (lefts ys named) (calls a (below Right w)) may) c names last (parts Right past) (parts Right past') (down Right (λ i. refl) past past' e) (part Right free) (part Right free') (part Right now) (values_below Right now ok) (like_below Right free' now like) (λ p. met (Right ∷ p)))
        ∙ right_erased (expr types real N a c names last (given (parts Right past) (part Right free)) (part Right now))
    equation_forgets ds (switch s a arms) declared named w may names last past past' e free free' now ok like met =
        let rest = calls a (below Test w) ++ points_of_arms declared arms (below ArmsOf w) in
        let may' = may_second may_call (defined_by (switch s a arms) s declared named) rest may in
        let i = expr types real N a [] names last (given (parts Test past) (part Test free)) (part Test now) in
        let out = within (switch s a arms) names last in
        let t = expr_erased a (below Test w) (may_first may_call (calls a (below Test w)) (points_of_arms declared arms (below ArmsOf w)) may') [] names last (parts Test past) (parts Test past') (down Test (λ i. refl) past past' e) (part Test free) (part Test free') (part Test now) (values_below Test now ok) (like_below Test free' now like) (λ p. met (Test ∷ p)) in
        ap₂ (λ i' n. with_arms i' (arm types abstraction N' arms (top i') n (marks last) (given (parts ArmsOf past') (part ArmsOf free')) (erased (part ArmsOf now)))) t (within_marks (switch s a arms) names last)
        ∙ ap (with_arms (erased i)) (arms_forget arms (top i) declared (below ArmsOf w) (may_second may_call (calls a (below Test w)) (points_of_arms declared arms (below ArmsOf w)) may') out last (parts ArmsOf past) (parts ArmsOf past') (down ArmsOf (λ i. refl) past past' e) (part ArmsOf free) (part ArmsOf free') (part ArmsOf now) (values_below ArmsOf now ok) (like_below ArmsOf free' now like) (λ p. met (ArmsOf ∷ p)))
        ∙ arms_erased i (arm types real N arms (top i) out last (given (parts ArmsOf past) (part ArmsOf free)) (part ArmsOf now))
    equation_forgets ds (reset s b a) declared named w may names last past past' e free free' now ok like met =
        let rest = points_of declared b (below Body w) ++ calls a (below Test w) in
        let may' = may_second may_call (defined_by (reset s b a) s declared named) rest may in
        let i = expr types real N a [] names last (given (parts Test past) (part Test free)) (part Test now) in
        let d = is_true (top i) in
        let out = within (reset s b a) names last in
        let q = if d then [] else own (parts Body past) in
        let q' = if d then [] else own (parts Body past') in
        let t = expr_erased a (below Test w) (may_second may_call (points_of declared b (below Body w)) (calls a (below Test w)) may') [] names last (parts Test past) (parts Test past') (down Test (λ i. refl) past past' e) (part Test free) (part Test free') (part Test now) (values_below Test now ok) (like_below Test free' now like) (λ p. met (Test ∷ p)) in
        ap₂ (λ i' n. with_body i' (scope types abstraction N' b (is_true (top i')) n (marks last) (given (if is_true (top i') then [] else own (parts Body past')) (part Body free')) (erased (part Body now)))) t (within_marks (reset s b a) names last)
        ∙ ap (λ d. with_body (erased i) (scope types abstraction N' b d (marks out) (marks last) (given (if d then [] else own (parts Body past')) (part Body free')) (erased (part Body now)))) (is_true_marked (top i))
        ∙ ap (with_body (erased i)) (block_forgets b declared (below Body w) (may_first may_call (points_of declared b (below Body w)) (calls a (below Test w)) may') d out last q q' (since_down d (parts Body past) (parts Body past') (down Body (λ i. refl) past past' e)) (part Body free) (part Body free') (part Body now) (values_below Body now ok) (like_below Body free' now like) (λ p. met (Body ∷ p)))
        ∙ body_erased i (scope types real N b d out last (given q (part Body free)) (part Body now))
    equation_forgets ds (automaton s ss) declared named w may names last past past' e free free' now ok like met =
        let out = within (automaton s ss) names last in
        let g = given (parts StatesOf past) (part StatesOf free) in
        let now' = part StatesOf now in
        let g' = given (parts StatesOf past') (part StatesOf free') in
        let d = down StatesOf (λ i. refl) past past' e in
        let m = in_states s ss declared named w may in
        let ok' = values_below StatesOf now ok in
        let like' = like_below StatesOf free' now like in
        let j = strong types real N ss ss 0 (selected past) names last g now' in
        let v = weak types real N ss ss 0 j out last g now' in
        ap₂ (λ (u : Jump) (n : Names). with_words (state_word u.state) (state_word (weak types abstraction N' ss ss 0 u n (marks last) g' (erased now')).state) (B (weak types abstraction N' ss ss 0 u n (marks last) g' (erased now')).restart) (states types abstraction N' ss 0 u (marks names) n (marks last) g' (erased now')))
        (first_jump s ss declared named w may names last past past' e free free' now ok like out j (λ p. met (StatesOf ∷ p))) (within_marks (automaton s ss) names last)
        ∙ ap₂ (λ (u : Jump) (i : Instant). with_words (state_word j.state) (state_word u.state) (B u.restart) i)
        (weak_erased ss ss (below StatesOf w) declared m 0 j names out last (parts StatesOf past) (parts StatesOf past') d (part StatesOf free) (part StatesOf free') now' ok' like' (λ p. met (StatesOf ∷ p)))
        (states_forget ss 0 j declared (below StatesOf w) m names out last (parts StatesOf past) (parts StatesOf past') d (part StatesOf free) (part StatesOf free') now' ok' like' (λ p. met (StatesOf ∷ p)))
        ∙ words_erased (state_word j.state) (state_word v.state) (B v.restart) (states types real N ss 0 j names out last g now')

    arms_forget : (arms : Arms) (v : Value) (declared : List (List ℕ)) (w : Whereabouts) → May may_call (points_of_arms declared arms w) → (names last : Names) (past past' : Past) → past' ≡ erase past → (free free' now : Instant) → WellValued now → Like free' now → Met now (arm types real N arms v names last (given past free) now) → arm types abstraction N' arms (marked v) (marks names) (marks last) (given past' free') (erased now) ≡ erased (arm types real N arms v names last (given past free) now)
    arms_forget no_arm v declared w may names last past past' e free free' now ok like met = nothing_erased
    arms_forget (more_arms c b s arms) v declared w may names last past past' e free free' now ok like met =
        let here = points_of declared b (below Head w) in
        let rest = points_of_arms declared arms (below Tail w) in
        let X = scope types real N b false names last (given (own (parts Head past)) (part Head free)) (part Head now) in
        let X' = scope types abstraction N' b false (marks names) (marks last) (given (own (parts Head past')) (part Head free')) (erased (part Head now)) in
        ap₂ of_two
        (ap (λ d. if d then X' else nothing) (is_cons_marked types v c)
        ∙ if_erased (is_cons types v c) (part Head now) X X' (λ p. met (Head ∷ p))
        (block_forgets b declared (below Head w) (may_first may_call here rest may) false names last (own (parts Head past)) (own (parts Head past')) (own_down Head (λ i. refl) past past' e) (part Head free) (part Head free') (part Head now) (values_below Head now ok) (like_below Head free' now like)))
        (arms_forget arms v declared (below Tail w) (may_second may_call here rest may) names last (parts Tail past) (parts Tail past') (down Tail (λ i. refl) past past' e) (part Tail free) (part Tail free') (part Tail now) (values_below Tail now ok) (like_below Tail free' now like) (λ p. met (Tail ∷ p)))
        ∙ both_erased (if is_cons types v c then X else nothing) (arm types real N arms v names last (given (parts Tail past) (part Tail free)) (part Tail now))

    states_forget : (ss : States) (k : ℕ) (j : Jump) (declared : List (List ℕ)) (w : Whereabouts) → May may_call (points_of_states declared ss w) → (out names last : Names) (past past' : Past) → past' ≡ erase past → (free free' now : Instant) → WellValued now → Like free' now → States_met ss k j out names last past free now → states types abstraction N' ss k j (marks out) (marks names) (marks last) (given past' free') (erased now) ≡ erased (states types real N ss k j out names last (given past free) now)
    states_forget no_state k j declared w may out names last past past' e free free' now ok like met = nothing_erased
    states_forget (more_states f b until unless s ss) k j declared w may out names last past past' e free free' now ok like met =
        let rest = points_of_states declared ss (below Tail w) in
        let weak_ones = points_of_conditions until (below Until (below Head w)) in
        let strong_ones = points_of_conditions unless (below Unless (below Head w)) in
        let of_body = points_of declared b (below Body (below Head w)) in
        let may' = may_second may_call of_body (weak_ones ++ (strong_ones ++ rest)) may in
        let may'' = may_second may_call weak_ones (strong_ones ++ rest) may' in
        let d = down Head (λ i. refl) past past' e in
        let here = part Head now in
        let ok' = values_below Head now ok in
        let like' = like_below Head free' now like in
        let q = if j.restart then [] else own (parts Body (parts Head past)) in
        let q' = if j.restart then [] else own (parts Body (parts Head past')) in
        let X = scope types real N b j.restart names last (given q (part Body (part Head free))) (part Body here) in
        let X' = scope types abstraction N' b j.restart (marks names) (marks last) (given q' (part Body (part Head free'))) (erased (part Body here)) in
        let Y = weak_in types real N b until j names last (given (parts Head past) (part Head free)) here in
        let Y' = weak_in types abstraction N' b until j (marks names) (marks last) (given (parts Head past') (part Head free')) (erased here) in
        let Z = conditions types real N unless out last (given (parts Unless (parts Head past)) (part Unless (part Head free))) (part Unless here) in
        let W = states types real N ss (suc k) j out names last (given (parts Tail past) (part Tail free)) (part Tail now) in
        let t1 = if_erased (nat_eq k j.state) (part Body here) X X' (λ p. met (Head ∷ Body ∷ p))
        (block_forgets b declared (below Body (below Head w)) (may_first may_call of_body (weak_ones ++ (strong_ones ++ rest)) may) j.restart names last q q' (since_down j.restart (parts Body (parts Head past)) (parts Body (parts Head past')) (down Body (λ i. refl) (parts Head past) (parts Head past') d)) (part Body (part Head free)) (part Body (part Head free')) (part Body here) (values_below Body here ok') (like_below Body (part Head free') here like')) in
        let t2 = if_erased (nat_eq k j.state) (part Until here) (in_row Y) (in_row Y') (λ p. met (Head ∷ Until ∷ p))
        (λ m. ap in_row (weak_in_erased b until (below Until (below Head w)) (may_first may_call weak_ones (strong_ones ++ rest) may') j names last (parts Head past) (parts Head past') d (part Head free) (part Head free') here ok' like' m) ∙ row_erased Y) in
        let t3 = ap in_row (conditions_erased unless (below Unless (below Head w)) (may_first may_call strong_ones rest may'') out last (parts Unless (parts Head past)) (parts Unless (parts Head past')) (down Unless (λ i. refl) (parts Head past) (parts Head past') d) (part Unless (part Head free)) (part Unless (part Head free')) (part Unless here) (values_below Unless here ok') (like_below Unless (part Head free') here like') (λ p. met (Head ∷ Unless ∷ p))) ∙ row_erased Z in
        let t4 = states_forget ss (suc k) j declared (below Tail w) (may_second may_call strong_ones rest may'') out names last (parts Tail past) (parts Tail past') (down Tail (λ i. refl) past past' e) (part Tail free) (part Tail free') (part Tail now) (values_below Tail now ok) (like_below Tail free' now like) (λ p. met (Tail ∷ p)) in
        let together : of_two (in_state (t1 0) (t2 0) (t3 0)) (t4 0) ≡ of_two (in_state (t1 1) (t2 1) (t3 1)) (t4 1) = λ z. of_two (in_state (t1 z) (t2 z) (t3 z)) (t4 z) in
        together
        ∙ ap (λ i. of_two i (erased W)) (state_erased (if nat_eq k j.state then X else nothing) (if nat_eq k j.state then in_row Y else nothing) (in_row Z))
        ∙ both_erased (in_state (if nat_eq k j.state then X else nothing) (if nat_eq k j.state then in_row Y else nothing) (in_row Z)) W

  -- ---- contracts

  abbrev pub told_really : Option Expr → Names → Names → Given → Instant → Instant
  told_really None names last g now = nothing
  told_really (Some a) names last g now = expr types real N a [] names last g now

  abbrev pub told_abstractly : Option Expr → Names → Names → Given → Instant → Instant
  told_abstractly None names last g now = nothing
  told_abstractly (Some a) names last g now = expr types abstraction N' a [] names last g now

  pub told_forgets : (a : Option Expr) (w : Whereabouts) → May may_call (calls_told a w) → (names last : Names) (past past' : Past) → past' ≡ erase past → (free free' now : Instant) → WellValued now → Like free' now → Met now (told_really a names last (given past free) now) → told_abstractly a (marks names) (marks last) (given past' free') (erased now) ≡ erased (told_really a names last (given past free) now)
  told_forgets None w may names last past past' e free free' now ok like met = nothing_erased
  told_forgets (Some a) w may names last past past' e free free' now ok like met = expr_erased a w may [] names last past past' e free free' now ok like met
