-- A walk over lists of parts, one by one.
use Rattle.std.proofs.Common.{◌≡◌, ℕ, zero, suc, ◌+◌, ◌<◌, ◌≤◌, get_or, length, map, drop, Bool, true, false, if◌then◌else◌, List, [], ◌∷◌, ◌++◌, refl, sym, ap, ◌∙◌}
use Rattle.std.proofs.lemmas.List.{append_assoc, append-nil, drop_more, drop_all}
use Rattle.hp_tree.specs.declared.decl.Cons.{Cons}
use Rattle.hp_tree.specs.declared.block.Trans.{Trans}
use Rattle.hp_tree.specs.declared.block.Eqn as code_eqn
use Rattle.hp_tree.specs.declared.block.Arm as code_arm
use Rattle.hp_tree.specs.declared.block.State as code_state
use Rattle.hp_tree.specs.Expressions.{Expr, exprs_of, parts_of}
use Rattle.hp_tree.specs.Blocks.{eqns_of, arms_of, states_of}
use Rattle.hp_tree.specs.BlockView.{eqn_seen, arm_seen, state_seen}
use Rattle.hp_flat.specs.Equations.{FlatEqn}
use Rattle.hp_watch.specs.Walk.{is_event, events_from, in_expr, in_exprs, in_parts, in_conditions, in_block, in_eqns, in_eqn, in_arms, in_state, in_states, walk, walk_all, walk_parts, walk_conditions, walk_block, walk_eqns, walk_eqn, walk_arms, walk_state, walk_states}

pub drop-next : {A : Type 0} (xs : List A) (i : ℕ) (x : A) → i < length xs → x ≡ get_or xs i x → drop i xs ≡ x ∷ drop (i + 1) xs
drop-next xs i x h p = drop_more xs i x h ∙ ap (λ y. y ∷ drop (i + 1) xs) (sym p)

-- ---- events

taken : (b : Bool) (found rest : List ℕ) (i : ℕ) → (if b then found ++ i ∷ [] else found) ++ rest ≡ found ++ (if b then i ∷ rest else rest)
taken true found rest i = append_assoc found (i ∷ []) rest
taken false found rest i = refl

pub events-next : (found : List ℕ) (es : List FlatEqn) (i : ℕ) (e : FlatEqn) → i < length es → e ≡ get_or es i e
    → (if is_event e.right then found ++ i ∷ [] else found) ++ events_from (suc i) (drop (i + 1) es) ≡ found ++ events_from i (drop i es)
events-next found es i e h p = taken (is_event e.right) found (events_from (suc i) (drop (i + 1) es)) i ∙ ap (λ rest. found ++ events_from i rest) (sym (drop-next es i e h p))

pub events-end : (found : List ℕ) (es : List FlatEqn) (i : ℕ) → length es ≤ i → found ++ events_from i (drop i es) ≡ found
events-end found es i h = ap (λ rest. found ++ events_from i rest) (drop_all i es h) ∙ append-nil found
