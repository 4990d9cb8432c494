-- Counts up to the limit, and the places of lists element by element.
use Rattle.std.proofs.Common.{◌≡◌, ℕ, zero, suc, ◌+◌, ◌<◌, min, get_or, length, take, map, List, [], ◌∷◌, ◌++◌, refl, sym, ap, ◌∙◌, arith}
use Rattle.std.proofs.Math.Numerals.{add-one}
use Rattle.hp_base.specs.Limits.{most}
use Rattle.hp_base.specs.declared.limit.What.TheVariants.{Places}
use Rattle.hp_tree.specs.declared.decl.Cons.{Cons}
use Rattle.hp_tree.specs.declared.block.Trans.{Trans}
use Rattle.hp_tree.specs.declared.block.Eqn as code_eqn
use Rattle.hp_tree.specs.declared.block.Arm as code_arm
use Rattle.hp_tree.specs.declared.block.State as code_state
use Rattle.hp_tree.specs.BlockView.{eqn_seen, arm_seen, state_seen}
use Rattle.hp_tree.specs.Expressions.{Expr, exprs_of, parts_of}
use Rattle.hp_tree.specs.Blocks.{eqns_of, arms_of, states_of}
use Rattle.hp_tree.specs.Counting.{up_to_limit, places_of_expr, places_of_exprs, places_of_parts, places_of_transitions, places_of_block, places_of_eqns, places_of_eqn, places_of_arms, places_of_states}

min-sum-left : (m a b : ℕ) → min m (min m a + b) ≡ min m (a + b)
min-sum-left m a b = omega arith

min-sum-right : (m a b : ℕ) → min m (a + min m b) ≡ min m (a + b)
min-sum-right m a b = omega arith

-- what is added may be counted up to the limit before
pub limit-left : (a b : ℕ) → up_to_limit (up_to_limit a + b) ≡ up_to_limit (a + b)
unfolding up_to_limit
limit-left a b = min-sum-left (suc (most Places)) a b

pub limit-right : (a b : ℕ) → up_to_limit (a + up_to_limit b) ≡ up_to_limit (a + b)
unfolding up_to_limit
limit-right a b = min-sum-right (suc (most Places)) a b

pub limit-none : up_to_limit 0 ≡ 0
unfolding up_to_limit
limit-none = refl

pub limit-one : up_to_limit 1 ≡ 1
unfolding up_to_limit
limit-one = refl

take-suc : {A : Type 0} (xs : List A) (i : ℕ) (x : A) → i < length xs → x ≡ get_or xs i x → take (suc i) xs ≡ take i xs ++ x ∷ []
take-suc [] i x h p = absurd (omega arith)
take-suc (y ∷ ys) zero x h p = ap (λ z. z ∷ []) (sym p)
take-suc (y ∷ ys) (suc i) x h p = ap (λ zs. y ∷ zs) (take-suc ys i x (omega arith) p)

take-next : {A : Type 0} (xs : List A) (i : ℕ) (x : A) → i < length xs → x ≡ get_or xs i x → take (i + 1) xs ≡ take i xs ++ x ∷ []
take-next xs i x h p = rw add-one (take-suc xs i x h p)

plus-zero : (n : ℕ) → n + 0 ≡ n
plus-zero n = omega arith

zero-plus : (n : ℕ) → 0 + n ≡ n
zero-plus n = omega arith

plus-again : (a b c : ℕ) → (a + b) + c ≡ a + (b + c)
plus-again a b c = omega arith

-- a list of parts, each with its count
module _ {A : Type 0} (one : A → ℕ) (all : List A → ℕ) (begin : all [] ≡ 0) (next : (x : A) (xs : List A) → all (x ∷ xs) ≡ one x + all xs) where
  all-append : (xs : List A) (x : A) → all (xs ++ x ∷ []) ≡ all xs + one x
  all-append [] x = next x [] ∙ ap (λ n. one x + n) begin ∙ plus-zero (one x) ∙ sym (zero-plus (one x)) ∙ ap (λ n. n + one x) (sym begin)
  all-append (y ∷ ys) x = next y (ys ++ x ∷ []) ∙ ap (λ n. one y + n) (all-append ys x) ∙ sym (plus-again (one y) (all ys) (one x)) ∙ ap (λ n. n + one x) (sym (next y ys))

  all-next : (xs : List A) (i : ℕ) (x : A) → i < length xs → x ≡ get_or xs i x → up_to_limit (all (take (i + 1) xs)) ≡ up_to_limit (up_to_limit (all (take i xs)) + up_to_limit (one x))
  all-next xs i x h p = ap (λ ys. up_to_limit (all ys)) (take-next xs i x h p) ∙ ap up_to_limit (all-append (take i xs) x)
      ∙ sym (limit-left (all (take i xs)) (up_to_limit (one x)) ∙ limit-right (all (take i xs)) (one x))

pub args-next : (es : List Expr) (i : ℕ) (e : Expr) → i < length es → e ≡ get_or es i e
    → up_to_limit (places_of_exprs (exprs_of (take (i + 1) es))) ≡ up_to_limit (up_to_limit (places_of_exprs (exprs_of (take i es))) + up_to_limit (places_of_expr e))
args-next es i e h p = all-next places_of_expr (λ xs. places_of_exprs (exprs_of xs)) refl (λ x xs. refl) es i e h p

pub parts-next : (ps : List (Cons × Expr)) (i : ℕ) (p : Cons × Expr) → i < length ps → p ≡ get_or ps i p
    → up_to_limit (places_of_parts (parts_of (take (i + 1) ps))) ≡ up_to_limit (up_to_limit (places_of_parts (parts_of (take i ps))) + up_to_limit (places_of_expr p.1))
parts-next ps i p h q = all-next (λ (x : Cons × Expr). places_of_expr x.1) (λ xs. places_of_parts (parts_of xs)) refl (λ x xs. refl) ps i p h q

pub transitions-next : (ts : List Trans) (i : ℕ) (t : Trans) → i < length ts → t ≡ get_or ts i t
    → up_to_limit (places_of_transitions (take (i + 1) ts)) ≡ up_to_limit (up_to_limit (places_of_transitions (take i ts)) + up_to_limit (places_of_expr t.cond))
transitions-next ts i t h q = all-next (λ (x : Trans). places_of_expr x.cond) places_of_transitions refl (λ x xs. refl) ts i t h q

pub eqns-next : (es : List code_eqn.Eqn) (i : ℕ) (e : code_eqn.Eqn) → i < length es → e ≡ get_or es i e
    → up_to_limit (places_of_eqns (eqns_of (map eqn_seen (take (i + 1) es)))) ≡ up_to_limit (up_to_limit (places_of_eqns (eqns_of (map eqn_seen (take i es)))) + up_to_limit (places_of_eqn (eqn_seen e)))
eqns-next es i e h p = all-next (λ x. places_of_eqn (eqn_seen x)) (λ xs. places_of_eqns (eqns_of (map eqn_seen xs))) refl (λ x xs. refl) es i e h p

pub arms-next : (arms : List code_arm.Arm) (i : ℕ) (a : code_arm.Arm) → i < length arms → a ≡ get_or arms i a
    → up_to_limit (places_of_arms (arms_of (map arm_seen (take (i + 1) arms)))) ≡ up_to_limit (up_to_limit (places_of_arms (arms_of (map arm_seen (take i arms)))) + up_to_limit (places_of_block a.body))
arms-next arms i a h p = all-next (λ (x : code_arm.Arm). places_of_block x.body) (λ xs. places_of_arms (arms_of (map arm_seen xs))) refl (λ x xs. refl) arms i a h p

pub states-next : (qs : List code_state.State) (i : ℕ) (q : code_state.State) → i < length qs → q ≡ get_or qs i q
    → up_to_limit (places_of_states (states_of (map state_seen (take (i + 1) qs))))
    ≡ up_to_limit (up_to_limit (places_of_states (states_of (map state_seen (take i qs)))) + up_to_limit (places_of_block q.body + (places_of_transitions q.until.items + places_of_transitions q.unless.items)))
states-next qs i q h p =
    all-next (λ (x : code_state.State). places_of_block x.body + (places_of_transitions x.until.items + places_of_transitions x.unless.items))
    (λ xs. places_of_states (states_of (map state_seen xs))) refl (λ x xs. refl) qs i q h p
