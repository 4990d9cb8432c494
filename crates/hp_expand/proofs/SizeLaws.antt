-- Sizes that 64 bits hold, and the sizes of lists element by element.
use Rattle.std.proofs.Common.{◌≡◌, Bool, if◌then◌else◌, ℕ, zero, suc, ◌+◌, ◌<◌, ◌≤◌, max, min, get_or, length, take, drop, map, List, [], ◌∷◌, ◌++◌, refl, sym, ap, ◌∙◌, arith}
use Rattle.std.proofs.Math.Numerals.{add-one}
use Rattle.std.proofs.Math.Seq.{drop-cons}
use Rattle.std.proofs.lemmas.List.{drop_all}
use Rattle.hp_tree.specs.declared.decl.Cons.{Cons}
use Rattle.hp_tree.specs.declared.block.Trans.{Trans}
use Rattle.hp_tree.specs.declared.block.Eqn as code_eqn
use Rattle.hp_tree.specs.declared.block.Arm as code_arm
use Rattle.hp_tree.specs.declared.block.State as code_state
use Rattle.hp_tree.specs.BlockView.{eqn_seen, arm_seen, state_seen}
use Rattle.hp_tree.specs.Expressions.{Expr, exprs_of, parts_of}
use Rattle.hp_tree.specs.Blocks.{eqns_of, arms_of, states_of}
use Rattle.hp_expand.specs.Sizes.{Size, none, places, join, deeper, brought, of_call, in_expr, in_exprs, in_parts, in_transitions, in_block, in_eqn, in_eqns, in_arms, in_states}
use Rattle.hp_expand.specs.Capped.{cap, most_held}

min-sum-left : (m a b : ℕ) → min m (min m a + b) ≡ min m (a + b)
min-sum-left m a b = omega arith

min-sum-right : (m a b : ℕ) → min m (a + min m b) ≡ min m (a + b)
min-sum-right m a b = omega arith

min-max-left : (m a b : ℕ) → min m (max (min m a) b) ≡ min m (max a b)
min-max-left m a b = omega arith

min-max-right : (m a b : ℕ) → min m (max a (min m b)) ≡ min m (max a b)
min-max-right m a b = omega arith

min-suc : (m a : ℕ) → min m (suc (min m a)) ≡ min m (suc a)
min-suc m a = omega arith

abbrev size : ℕ → ℕ → ℕ → ℕ → ℕ → Size
size p n i c k = record { places = p; nest = n; instances = i; cells = c; calls = k }

-- what is joined may be capped before
pub cap-left : (a b : Size) → cap (join (cap a) b) ≡ cap (join a b)
unfolding cap join
cap-left a b = λ i. size
    (min-sum-left most_held a.places b.places i) (min-max-left most_held a.nest b.nest i) (min-sum-left most_held a.instances b.instances i)
    (min-sum-left most_held a.cells b.cells i) (min-max-left most_held a.calls b.calls i)

pub cap-right : (a b : Size) → cap (join a (cap b)) ≡ cap (join a b)
unfolding cap join
cap-right a b = λ i. size
    (min-sum-right most_held a.places b.places i) (min-max-right most_held a.nest b.nest i) (min-sum-right most_held a.instances b.instances i)
    (min-sum-right most_held a.cells b.cells i) (min-max-right most_held a.calls b.calls i)

pub cap-call : (n : ℕ) (inlined : Bool) (inside args : Size) → cap (of_call n inlined inside (cap args)) ≡ cap (of_call n inlined inside args)
unfolding of_call
cap-call n inlined inside args =
    let one = places (if inlined then n else 1) in
    let more = brought inlined inside in
    sym (cap-right one (join more (cap args))) ∙ ap (λ s. cap (join one s)) (cap-right more args) ∙ cap-right one (join more args)

min-min : (m a : ℕ) → min m (min m a) ≡ min m a
min-min m a = omega arith

pub cap-deeper : (a : Size) → cap (deeper (cap a)) ≡ cap (deeper a)
unfolding cap deeper
cap-deeper a = λ i. size
    (min-min most_held a.places i) (min-suc most_held a.nest i) (min-min most_held a.instances i)
    (min-min most_held a.cells i) (min-min most_held a.calls i)

pub cap-none : cap none ≡ none
unfolding cap
cap-none = refl

zero-max : (n : ℕ) → max 0 n ≡ n
zero-max n = omega arith

zero-plus : (n : ℕ) → 0 + n ≡ n
zero-plus n = omega arith

pub join-none : (a : Size) → join none a ≡ a
unfolding join
join-none a = λ i. size (zero-plus a.places i) (zero-max a.nest i) (zero-plus a.instances i) (zero-plus a.cells i) (zero-max a.calls i)

plus-zero : (n : ℕ) → n + 0 ≡ n
plus-zero n = omega arith

max-zero : (n : ℕ) → max n 0 ≡ n
max-zero n = omega arith

pub join-end : (a : Size) → join a none ≡ a
unfolding join
join-end a = λ i. size (plus-zero a.places i) (max-zero a.nest i) (plus-zero a.instances i) (plus-zero a.cells i) (max-zero a.calls i)

plus-again : (a b c : ℕ) → (a + b) + c ≡ a + (b + c)
plus-again a b c = omega arith

max-again : (a b c : ℕ) → max (max a b) c ≡ max a (max b c)
max-again a b c = omega arith

pub join-again : (a b c : Size) → join (join a b) c ≡ join a (join b c)
unfolding join
join-again a b c = λ i. size
    (plus-again a.places b.places c.places i) (max-again a.nest b.nest c.nest i) (plus-again a.instances b.instances c.instances i)
    (plus-again a.cells b.cells c.cells i) (max-again a.calls b.calls c.calls i)

-- one element more
take-suc : {A : Type 0} (xs : List A) (i : ℕ) (x : A) → i < length xs → x ≡ get_or xs i x → take (suc i) xs ≡ take i xs ++ x ∷ []
take-suc [] i x h p = absurd (omega arith)
take-suc (y ∷ ys) zero x h p = ap (λ z. z ∷ []) (sym p)
take-suc (y ∷ ys) (suc i) x h p = ap (λ zs. y ∷ zs) (take-suc ys i x (omega arith) p)

pub take-next : {A : Type 0} (xs : List A) (i : ℕ) (x : A) → i < length xs → x ≡ get_or xs i x → take (i + 1) xs ≡ take i xs ++ x ∷ []
take-next xs i x h p = rw add-one (take-suc xs i x h p)

pub drop-next : {A : Type 0} (xs : List A) (i : ℕ) (x : A) → i < length xs → x ≡ get_or xs i x → drop i xs ≡ x ∷ drop (i + 1) xs
drop-next xs i x h p = drop-cons xs i x h ∙ rw (add-one, ← p)

pub drop-end : {A : Type 0} (xs : List A) (i : ℕ) → length xs ≤ i → drop i xs ≡ []
drop-end xs i h = drop_all i xs h

module _ (known : List ℕ → Size) where
  -- a list of parts, each with its size
  module _ {A : Type 0} (one : A → Size) (all : List A → Size) (begin : all [] ≡ none) (next : (x : A) (xs : List A) → all (x ∷ xs) ≡ join (one x) (all xs)) where
    all-append : (xs : List A) (x : A) → all (xs ++ x ∷ []) ≡ join (all xs) (one x)
    all-append [] x = next x [] ∙ ap (join (one x)) begin ∙ join-end (one x) ∙ sym (join-none (one x)) ∙ ap (λ s. join s (one x)) (sym begin)
    all-append (y ∷ ys) x = next y (ys ++ x ∷ []) ∙ ap (join (one y)) (all-append ys x) ∙ sym (join-again (one y) (all ys) (one x)) ∙ ap (λ s. join s (one x)) (sym (next y ys))

    all-next : (xs : List A) (i : ℕ) (x : A) → i < length xs → x ≡ get_or xs i x → cap (all (take (i + 1) xs)) ≡ cap (join (cap (all (take i xs))) (cap (one x)))
    all-next xs i x h p = ap (λ ys. cap (all ys)) (take-next xs i x h p) ∙ ap cap (all-append (take i xs) x)
        ∙ sym (cap-left (all (take i xs)) (cap (one x)) ∙ cap-right (all (take i xs)) (one x))

  pub exprs-next : (es : List Expr) (i : ℕ) (e : Expr) → i < length es → e ≡ get_or es i e
      → cap (in_exprs known (exprs_of (take (i + 1) es))) ≡ cap (join (cap (in_exprs known (exprs_of (take i es)))) (cap (in_expr known e)))
  exprs-next es i e h p = all-next (in_expr known) (λ xs. in_exprs known (exprs_of xs)) refl (λ x xs. refl) es i e h p

  pub parts-next : (ps : List (Cons × Expr)) (i : ℕ) (p : Cons × Expr) → i < length ps → p ≡ get_or ps i p
      → cap (in_parts known (parts_of (take (i + 1) ps))) ≡ cap (join (cap (in_parts known (parts_of (take i ps)))) (cap (in_expr known p.1)))
  parts-next ps i p h q = all-next (λ (x : Cons × Expr). in_expr known x.1) (λ xs. in_parts known (parts_of xs)) refl (λ x xs. refl) ps i p h q

  pub transitions-next : (ts : List Trans) (i : ℕ) (t : Trans) → i < length ts → t ≡ get_or ts i t
      → cap (in_transitions known (take (i + 1) ts)) ≡ cap (join (cap (in_transitions known (take i ts))) (cap (in_expr known t.cond)))
  transitions-next ts i t h q = all-next (λ (x : Trans). in_expr known x.cond) (in_transitions known) refl (λ x xs. refl) ts i t h q

  pub eqns-next : (es : List code_eqn.Eqn) (i : ℕ) (e : code_eqn.Eqn) → i < length es → e ≡ get_or es i e
      → cap (in_eqns known (eqns_of (map eqn_seen (take (i + 1) es)))) ≡ cap (join (cap (in_eqns known (eqns_of (map eqn_seen (take i es))))) (cap (in_eqn known (eqn_seen e))))
  eqns-next es i e h p = all-next (λ x. in_eqn known (eqn_seen x)) (λ xs. in_eqns known (eqns_of (map eqn_seen xs))) refl (λ x xs. refl) es i e h p

  pub arms-next : (arms : List code_arm.Arm) (i : ℕ) (a : code_arm.Arm) → i < length arms → a ≡ get_or arms i a
      → cap (in_arms known (arms_of (map arm_seen (take (i + 1) arms)))) ≡ cap (join (cap (in_arms known (arms_of (map arm_seen (take i arms))))) (cap (deeper (in_block known a.body))))
  arms-next arms i a h p = all-next (λ (x : code_arm.Arm). deeper (in_block known x.body)) (λ xs. in_arms known (arms_of (map arm_seen xs))) refl (λ x xs. refl) arms i a h p

  pub states-next : (qs : List code_state.State) (i : ℕ) (q : code_state.State) → i < length qs → q ≡ get_or qs i q
      → cap (in_states known (states_of (map state_seen (take (i + 1) qs))))
      ≡ cap (join (cap (in_states known (states_of (map state_seen (take i qs))))) (cap (join (deeper (in_block known q.body)) (join (in_transitions known q.until.items) (in_transitions known q.unless.items)))))
  states-next qs i q h p =
      all-next (λ (x : code_state.State). join (deeper (in_block known x.body)) (join (in_transitions known x.until.items) (in_transitions known x.unless.items)))
      (λ xs. in_states known (states_of (map state_seen xs))) refl (λ x xs. refl) qs i q h p
