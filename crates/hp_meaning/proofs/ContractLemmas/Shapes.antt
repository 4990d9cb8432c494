-- Forgetting goes through instants part by part.
use Rattle.std.proofs.Common.{◌≡◌, ℕ, List, [], ◌∷◌, map, refl, ap, ap₂, ◌∙◌}
use Rattle.std.proofs.Math.Path.{fun_ext}
use Rattle.std.specs.Prelude.{Bool, true, false, ◌||◌, if◌then◌else◌}
use Rattle.hp_base.specs.declared.value.Value.{Value}
use Rattle.hp_base.specs.declared.value.Value.TheVariants.{Absent, Nil, B, E, I, Star}
use Rattle.hp_tree.specs.Operators.{marked}
use Rattle.hp_tree.specs.Instant.{Step, Inputs, Controls, Body, Observer, Assume, Enforce, Named, Fresh, Equations, Head, Tail, Right, Test, Arms, States, Until, Unless, Active, Next, Pending, First, Second, Third, Args, Instance, Place, Instant, Past, part, parts, top, own_with, own, newest, at_first, or_else, after, nothing, alone, with_one, with_two, with_three, in_row, with_row, with_instance, of_two, in_block, in_right, with_arms, with_body, in_state, with_words, in_observer, in_node}
use Rattle.hp_tree.specs.Meaning.{Names, selected, previous}
use Rattle.hp_meaning.specs.Contract.Forgetting.{begins_hidden, is_forgotten, erased, erase}
use Rattle.hp_meaning.proofs.ContractLemmas.Marks.{marks, is_true_marked, state_of_marked, or_else_mark, after_mark}

-- what is kept of a callee
abbrev pub shown : Instant → Instant
shown i p = if begins_hidden p || is_forgotten p then Absent else marked (i p)

absent_either : (d : Bool) → Absent ≡ (if d then Absent else Absent)
absent_either true = refl
absent_either false = refl

-- ---- what is put together

pub nothing_erased : nothing ≡ erased nothing
nothing_erased = fun_ext (λ p. absent_either (is_forgotten p))

pub nothing_shown : nothing ≡ shown nothing
nothing_shown = fun_ext (λ p. absent_either (begins_hidden p || is_forgotten p))

pub alone_erased : (v : Value) → alone (marked v) ≡ erased (alone v)
alone_erased v = fun_ext at_place
  where
    at_place : (p : Place) → alone (marked v) p ≡ erased (alone v) p
    at_place [] = refl
    at_place (s ∷ p) = absent_either (is_forgotten (s ∷ p))

pub one_erased : (v : Value) (i : Instant) → with_one (marked v) (erased i) ≡ erased (with_one v i)
one_erased v i = fun_ext at_place
  where
    at_place : (p : Place) → with_one (marked v) (erased i) p ≡ erased (with_one v i) p
    at_place [] = refl
    at_place (First ∷ p) = refl
    at_place (s ∷ p) = absent_either (is_forgotten (s ∷ p))

pub two_erased : (v : Value) (i j : Instant) → with_two (marked v) (erased i) (erased j) ≡ erased (with_two v i j)
two_erased v i j = fun_ext at_place
  where
    at_place : (p : Place) → with_two (marked v) (erased i) (erased j) p ≡ erased (with_two v i j) p
    at_place [] = refl
    at_place (First ∷ p) = refl
    at_place (Second ∷ p) = refl
    at_place (s ∷ p) = absent_either (is_forgotten (s ∷ p))

pub three_erased : (v : Value) (i j k : Instant) → with_three (marked v) (erased i) (erased j) (erased k) ≡ erased (with_three v i j k)
three_erased v i j k = fun_ext at_place
  where
    at_place : (p : Place) → with_three (marked v) (erased i) (erased j) (erased k) p ≡ erased (with_three v i j k) p
    at_place [] = refl
    at_place (First ∷ p) = refl
    at_place (Second ∷ p) = refl
    at_place (Third ∷ p) = refl
    at_place (s ∷ p) = absent_either (is_forgotten (s ∷ p))

in_row_erased : (is : List Instant) (p : Place) → in_row (map erased is) p ≡ erased (in_row is) p
in_row_erased [] p = absent_either (is_forgotten p)
in_row_erased (i ∷ is) [] = refl
in_row_erased (i ∷ is) (Head ∷ p) = refl
in_row_erased (i ∷ is) (Tail ∷ p) = in_row_erased is p
in_row_erased (i ∷ is) (s ∷ p) = absent_either (is_forgotten (s ∷ p))

pub row_erased : (is : List Instant) → in_row (map erased is) ≡ erased (in_row is)
row_erased is = fun_ext (in_row_erased is)

pub with_row_erased : (v : Value) (is : List Instant) → with_row (marked v) (map erased is) ≡ erased (with_row v is)
with_row_erased v is = fun_ext at_place
  where
    at_place : (p : Place) → with_row (marked v) (map erased is) p ≡ erased (with_row v is) p
    at_place [] = refl
    at_place (Args ∷ p) = in_row_erased is p
    at_place (s ∷ p) = absent_either (is_forgotten (s ∷ p))

pub instance_erased : (v : Value) (is : List Instant) (i : Instant) → with_instance (marked v) (map erased is) (shown i) ≡ erased (with_instance v is i)
instance_erased v is i = fun_ext at_place
  where
    at_place : (p : Place) → with_instance (marked v) (map erased is) (shown i) p ≡ erased (with_instance v is i) p
    at_place [] = refl
    at_place (Args ∷ p) = in_row_erased is p
    at_place (Instance ∷ p) = refl
    at_place (s ∷ p) = absent_either (is_forgotten (s ∷ p))

pub both_erased : (i j : Instant) → of_two (erased i) (erased j) ≡ erased (of_two i j)
both_erased i j = fun_ext at_place
  where
    at_place : (p : Place) → of_two (erased i) (erased j) p ≡ erased (of_two i j) p
    at_place [] = refl
    at_place (Head ∷ p) = refl
    at_place (Tail ∷ p) = refl
    at_place (s ∷ p) = absent_either (is_forgotten (s ∷ p))

pub block_erased : (names : Names) (fresh : Bool) (i : Instant) → in_block (marks names) (B fresh) (erased i) ≡ erased (in_block names (B fresh) i)
block_erased names fresh i = fun_ext at_place
  where
    at_place : (p : Place) → in_block (marks names) (B fresh) (erased i) p ≡ erased (in_block names (B fresh) i) p
    at_place [] = refl
    at_place (Named x ∷ []) = refl
    at_place (Fresh ∷ []) = refl
    at_place (Equations ∷ p) = refl
    at_place (s ∷ p) = absent_either (is_forgotten (s ∷ p))

pub right_erased : (i : Instant) → in_right (erased i) ≡ erased (in_right i)
right_erased i = fun_ext at_place
  where
    at_place : (p : Place) → in_right (erased i) p ≡ erased (in_right i) p
    at_place [] = refl
    at_place (Right ∷ p) = refl
    at_place (s ∷ p) = absent_either (is_forgotten (s ∷ p))

pub arms_erased : (i j : Instant) → with_arms (erased i) (erased j) ≡ erased (with_arms i j)
arms_erased i j = fun_ext at_place
  where
    at_place : (p : Place) → with_arms (erased i) (erased j) p ≡ erased (with_arms i j) p
    at_place [] = refl
    at_place (Test ∷ p) = refl
    at_place (Arms ∷ p) = refl
    at_place (s ∷ p) = absent_either (is_forgotten (s ∷ p))

pub body_erased : (i j : Instant) → with_body (erased i) (erased j) ≡ erased (with_body i j)
body_erased i j = fun_ext at_place
  where
    at_place : (p : Place) → with_body (erased i) (erased j) p ≡ erased (with_body i j) p
    at_place [] = refl
    at_place (Test ∷ p) = refl
    at_place (Body ∷ p) = refl
    at_place (s ∷ p) = absent_either (is_forgotten (s ∷ p))

pub state_erased : (i j k : Instant) → in_state (erased i) (erased j) (erased k) ≡ erased (in_state i j k)
state_erased i j k = fun_ext at_place
  where
    at_place : (p : Place) → in_state (erased i) (erased j) (erased k) p ≡ erased (in_state i j k) p
    at_place [] = refl
    at_place (Body ∷ p) = refl
    at_place (Until ∷ p) = refl
    at_place (Unless ∷ p) = refl
    at_place (s ∷ p) = absent_either (is_forgotten (s ∷ p))

pub words_erased : (active next pending : Value) (i : Instant) → with_words (marked active) (marked next) (marked pending) (erased i) ≡ erased (with_words active next pending i)
words_erased active next pending i = fun_ext at_place
  where
    at_place : (p : Place) → with_words (marked active) (marked next) (marked pending) (erased i) p ≡ erased (with_words active next pending i) p
    at_place [] = refl
    at_place (Active ∷ []) = refl
    at_place (Next ∷ []) = refl
    at_place (Pending ∷ []) = refl
    at_place (States ∷ p) = refl
    at_place (s ∷ p) = absent_either (is_forgotten (s ∷ p))

pub observer_erased : (i j k : Instant) → in_observer (erased i) (erased j) (erased k) ≡ erased (in_observer i j k)
observer_erased i j k = fun_ext at_place
  where
    at_place : (p : Place) → in_observer (erased i) (erased j) (erased k) p ≡ erased (in_observer i j k) p
    at_place [] = refl
    at_place (Observer ∷ p) = refl
    at_place (Assume ∷ p) = refl
    at_place (Enforce ∷ p) = refl
    at_place (s ∷ p) = absent_either (is_forgotten (s ∷ p))

-- ---- nodes

map_alone : (vs : List Value) → map alone (map marked vs) ≡ map erased (map alone vs)
map_alone [] = refl
map_alone (v ∷ vs) = ap₂ (λ i is. i ∷ is) (alone_erased v) (map_alone vs)

pub values_erased : (vs : List Value) (p : Place) → in_row (map alone (map marked vs)) p ≡ erased (in_row (map alone vs)) p
values_erased vs p = ap (λ is. in_row is p) (map_alone vs) ∙ in_row_erased (map alone vs) p

pub node_erased : (outputs : Names) (inputs controls : List Value) (body observer : Instant) → in_node (marks outputs) (map marked inputs) (map marked controls) (erased body) (erased observer) ≡ erased (in_node outputs inputs controls body observer)
node_erased outputs inputs controls body observer = fun_ext at_place
  where
    at_place : (p : Place) → in_node (marks outputs) (map marked inputs) (map marked controls) (erased body) (erased observer) p ≡ erased (in_node outputs inputs controls body observer) p
    at_place [] = refl
    at_place (Named x ∷ []) = refl
    at_place (Fresh ∷ []) = refl
    at_place (Inputs ∷ p) = values_erased inputs p
    at_place (Controls ∷ p) = values_erased controls p
    at_place (Body ∷ p) = refl
    at_place p = refl

-- of a callee its body and its controllable variables are not there
pub callee_shown : (outputs : Names) (inputs controls : List Value) (body observer : Instant) → in_node (marks outputs) (map marked inputs) [] nothing (erased observer) ≡ shown (in_node outputs inputs controls body observer)
callee_shown outputs inputs controls body observer = fun_ext at_place
  where
    at_place : (p : Place) → in_node (marks outputs) (map marked inputs) [] nothing (erased observer) p ≡ shown (in_node outputs inputs controls body observer) p
    at_place [] = refl
    at_place (Named x ∷ []) = refl
    at_place (Fresh ∷ []) = refl
    at_place (Inputs ∷ p) = values_erased inputs p
    at_place (Controls ∷ p) = refl
    at_place (Body ∷ p) = refl
    at_place p = refl

-- ---- pasts

-- the past of a part
pub below_erased : (s : Step) → ((i : Instant) → part s (erased i) ≡ erased (part s i)) → (past : Past) → parts s (erase past) ≡ erase (parts s past)
below_erased s h [] = refl
below_erased s h (i ∷ past) = ap₂ (λ j q. j ∷ q) (h i) (below_erased s h past)

-- that of an instance
pub below_shown : (past : Past) → parts Instance (erase past) ≡ map shown (parts Instance past)
below_shown [] = refl
below_shown (i ∷ past) = ap (λ q. shown (part Instance i) ∷ q) (below_shown past)

-- from there to its contract
pub observer_below : (s : Step) → ((i : Instant) → part s (shown i) ≡ erased (part s i)) → (past : Past) → parts s (map shown past) ≡ erase (parts s past)
observer_below s h [] = refl
observer_below s h (i ∷ past) = ap₂ (λ j q. j ∷ q) (h i) (observer_below s h past)

own_with_map : (f : Instant → Instant) (v : Value) (i : Instant) (past : Past) → own_with (marked v) (f i) (map f past) ≡ map f (own_with v i past)
own_with_map f Absent i past = refl
own_with_map f Nil i past = refl
own_with_map f (B true) i past = refl
own_with_map f (B false) i past = refl
own_with_map f (E t c) i past = refl
own_with_map f (I n) i past = refl
own_with_map f Star i past = refl

pub own_erased : (past : Past) → own (erase past) ≡ erase (own past)
own_erased [] = refl
own_erased (i ∷ past) = ap (own_with (marked (i (Fresh ∷ []))) (erased i)) (own_erased past) ∙ own_with_map erased (i (Fresh ∷ [])) i (own past)

pub own_shown : (past : Past) → own (map shown past) ≡ map shown (own past)
own_shown [] = refl
own_shown (i ∷ past) = ap (own_with (marked (i (Fresh ∷ []))) (shown i)) (own_shown past) ∙ own_with_map shown (i (Fresh ∷ [])) i (own past)

pub newest_erased : (past : Past) → newest Nil (erase past) ≡ marked (newest Nil past)
newest_erased [] = refl
newest_erased (i ∷ past) = ap (or_else (marked (top i))) (newest_erased past) ∙ or_else_mark (top i) (newest Nil past)

pub at_first_erased : (past : Past) (v w : Value) → at_first (erase past) (marked v) (marked w) ≡ marked (at_first past v w)
at_first_erased [] v w = refl
at_first_erased (i ∷ past) v w = ap (λ u. after (marked (top i)) u (marked w)) (at_first_erased past v w) ∙ after_mark (top i) (at_first past v w) w

pub selected_erased : (past : Past) → selected (erase past) ≡ selected past
selected_erased [] = refl
selected_erased (i ∷ past) = ap₂ (λ n r. record { state = n; restart = r }) (state_of_marked (i (Next ∷ []))) (is_true_marked (i (Pending ∷ [])))

pub previous_erased : (past : Past) (x : List ℕ) (v : Value) → previous (erase past) x (marked v) ≡ marked (previous past x v)
previous_erased [] x v = refl
previous_erased (i ∷ past) x v = refl

pub previous_shown : (past : Past) (x : List ℕ) (v : Value) → previous (map shown past) x (marked v) ≡ marked (previous past x v)
previous_shown [] x v = refl
previous_shown (i ∷ past) x v = refl
