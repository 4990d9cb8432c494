-- What is found in declarations and in the lists of a block, element by element.
use Rattle.std.proofs.Common.{◌≡◌, ℕ, zero, suc, ◌+◌, ◌<◌, ◌≤◌, min, get_or, length, drop, map, arith, List, [], ◌∷◌, ◌++◌, Option, Some, refl, sym, ap, ◌∙◌}
use Rattle.hp_base.specs.declared.span.Span.{Span}
use Rattle.hp_base.specs.declared.ty.Ty.{Ty}
use Rattle.hp_tree.specs.declared.decl.Cons.{Cons}
use Rattle.hp_tree.specs.declared.block.Trans.{Trans}
use Rattle.hp_tree.specs.declared.block.Eqn as code_eqn
use Rattle.hp_tree.specs.declared.block.Arm as code_arm
use Rattle.hp_tree.specs.declared.block.State as code_state
use Rattle.hp_tree.specs.BlockView.{eqn_seen, arm_seen, state_seen}
use Rattle.hp_tree.specs.Blocks.{Decl, eqns_of, arms_of, states_of}
use Rattle.hp_base.specs.Known.Known.{lookup}
use Rattle.hp_typing.specs.Scopes.{Scope, inside}
use Rattle.hp_typing.specs.Types.{cons_type}
use Rattle.hp_typing.specs.Breaches.{Breach, found_after}
use Rattle.hp_typing.specs.Claims.{tested, in_test, in_path, in_decl, in_decls, in_names, in_transitions, in_block, in_eqn, in_eqns, in_arms, in_states}
use Rattle.hp_typing.proofs.FoundLaws.{drop-next, drop-end, found_after-append, found_after-nil}

module _ (found : Option Breach) (s : Scope) where
  pub found_after-path : (at : Span) (steps : List (Cons × List ℕ)) (i : ℕ) (p : Cons × List ℕ) → i < length steps → p ≡ get_or steps i p
      → found_after found (in_path s at (drop i steps)) ≡ found_after (found_after found (tested at (lookup s.variables p.1) (cons_type s p.0))) (in_path s at (drop (i + 1) steps))
  found_after-path at steps i p h q =
      ap (λ more. found_after found (in_path s at more)) (drop-next steps i p h q)
      ∙ found_after-append found (tested at (lookup s.variables p.1) (cons_type s p.0)) (in_path s at (drop (i + 1) steps))

  pub found_after-decls : (ds : List Decl) (i : ℕ) (d : Decl) → i < length ds → d ≡ get_or ds i d
      → found_after found (in_decls s (drop i ds)) ≡ found_after (found_after found (in_decl s d)) (in_decls s (drop (i + 1) ds))
  found_after-decls ds i d h p =
      ap (λ more. found_after found (in_decls s more)) (drop-next ds i d h p) ∙ found_after-append found (in_decl s d) (in_decls s (drop (i + 1) ds))

  pub found_after-names : (at : Span) (xs : List (List ℕ × Span)) (ds : List Decl) (i : ℕ) (x : List ℕ × Span) (d : Decl) → i < length xs → i < length ds → x ≡ get_or xs i x → d ≡ get_or ds i d
      → found_after found (in_names s at (drop i xs) (drop i ds))
      ≡ found_after (found_after found (tested at (lookup s.variables x.0) (Some d.ty))) (in_names s at (drop (i + 1) xs) (drop (i + 1) ds))
  found_after-names at xs ds i x d h k p q =
      ap (λ more. found_after found (in_names s at more (drop i ds))) (drop-next xs i x h p)
      ∙ ap (λ more. found_after found (in_names s at (x ∷ drop (i + 1) xs) more)) (drop-next ds i d k q)
      ∙ found_after-append found (tested at (lookup s.variables x.0) (Some d.ty)) (in_names s at (drop (i + 1) xs) (drop (i + 1) ds))

  pub found_after-transitions : (ts : List Trans) (i : ℕ) (t : Trans) → i < length ts → t ≡ get_or ts i t
      → found_after found (in_transitions s (drop i ts)) ≡ found_after (found_after found (in_test s t.cond)) (in_transitions s (drop (i + 1) ts))
  found_after-transitions ts i t h p =
      ap (λ more. found_after found (in_transitions s more)) (drop-next ts i t h p) ∙ found_after-append found (in_test s t.cond) (in_transitions s (drop (i + 1) ts))

  pub found_after-eqns : (es : List code_eqn.Eqn) (i : ℕ) (e : code_eqn.Eqn) → i < length es → e ≡ get_or es i e
      → found_after found (in_eqns s (eqns_of (map eqn_seen (drop i es))))
      ≡ found_after (found_after found (in_eqn s (eqn_seen e))) (in_eqns s (eqns_of (map eqn_seen (drop (i + 1) es))))
  found_after-eqns es i e h p =
      ap (λ more. found_after found (in_eqns s (eqns_of (map eqn_seen more)))) (drop-next es i e h p)
      ∙ found_after-append found (in_eqn s (eqn_seen e)) (in_eqns s (eqns_of (map eqn_seen (drop (i + 1) es))))

  pub found_after-arms : (cond : Option Ty) (arms : List code_arm.Arm) (i : ℕ) (a : code_arm.Arm) → i < length arms → a ≡ get_or arms i a
      → found_after found (in_arms s cond (arms_of (map arm_seen (drop i arms))))
      ≡ found_after (found_after (found_after found (tested a.span cond (cons_type s a.cons))) (in_block s a.body)) (in_arms s cond (arms_of (map arm_seen (drop (i + 1) arms))))
  found_after-arms cond arms i a h p =
      let rest = in_arms s cond (arms_of (map arm_seen (drop (i + 1) arms))) in
      let one = tested a.span cond (cons_type s a.cons) in
      ap (λ more. found_after found (in_arms s cond (arms_of (map arm_seen more)))) (drop-next arms i a h p)
      ∙ found_after-append found one (in_block s a.body ++ rest)
      ∙ found_after-append (found_after found one) (in_block s a.body) rest

  pub found_after-states : (qs : List code_state.State) (i : ℕ) (q : code_state.State) → i < length qs → q ≡ get_or qs i q
      → found_after found (in_states s (states_of (map state_seen (drop i qs))))
      ≡ found_after (found_after found (in_states s (states_of (state_seen q ∷ [])))) (in_states s (states_of (map state_seen (drop (i + 1) qs))))
  found_after-states qs i q h p =
      let rest = in_states s (states_of (map state_seen (drop (i + 1) qs))) in
      let weak = in_transitions (inside s q.body) q.until.items in
      let strong = in_transitions s q.unless.items in
      let first = found_after found (in_block s q.body) in
      let second = found_after first weak in
      ap (λ more. found_after found (in_states s (states_of (map state_seen more)))) (drop-next qs i q h p)
      ∙ found_after-append found (in_block s q.body) (weak ++ (strong ++ rest))
      ∙ found_after-append first weak (strong ++ rest)
      ∙ found_after-append second strong rest
      ∙ ap (λ f. found_after f rest)
      (sym (found_after-append found (in_block s q.body) (weak ++ (strong ++ []))
      ∙ found_after-append first weak (strong ++ [])
      ∙ found_after-append second strong []
      ∙ found_after-nil (found_after second strong)))

-- where names or outputs are at their end, nothing is left to compare
pub in_names-end : (s : Scope) (at : Span) (xs : List (List ℕ × Span)) (ds : List Decl) (i : ℕ) → min (length xs) (length ds) ≤ i → in_names s at (drop i xs) (drop i ds) ≡ []
in_names-end s at [] ds i h = ap (λ xs. in_names s at xs (drop i ds)) (drop-end [] i (omega arith))
in_names-end s at (x ∷ xs) [] zero h = refl
in_names-end s at (x ∷ xs) [] (suc i) h = by (drop i xs)
  where
    by : (ys : List (List ℕ × Span)) → in_names s at ys [] ≡ []
    by [] = refl
    by (y ∷ ys) = refl
in_names-end s at (x ∷ xs) (d ∷ ds) zero h = absurd (omega arith)
in_names-end s at (x ∷ xs) (d ∷ ds) (suc i) h = in_names-end s at xs ds i (omega arith)

-- the same, one call after the other
pub path-step : (s : Scope) (at : Span) (steps : List (Cons × List ℕ)) (i : ℕ) (p : Cons × List ℕ) → i < length steps → p ≡ get_or steps i p
    → (f0 f1 all : Option Breach) (wanted is : Option Ty) → wanted ≡ lookup s.variables p.1 → is ≡ cons_type s p.0 → f1 ≡ found_after f0 (tested at wanted is)
    → found_after f0 (in_path s at (drop i steps)) ≡ all → found_after f1 (in_path s at (drop (i + 1) steps)) ≡ all
path-step s at steps i p h q f0 f1 all wanted is e1 e2 e3 e4 = cc (found_after-path f0 s at steps i p h q)

pub names-step : (s : Scope) (at : Span) (xs : List (List ℕ × Span)) (ds : List Decl) (i : ℕ) (x : List ℕ × Span) (d : Decl) → i < length xs → i < length ds → x ≡ get_or xs i x → d ≡ get_or ds i d
    → (f0 f1 all : Option Breach) (wanted is : Option Ty) → wanted ≡ lookup s.variables x.0 → is ≡ Some d.ty → f1 ≡ found_after f0 (tested at wanted is)
    → found_after f0 (in_names s at (drop i xs) (drop i ds)) ≡ all → found_after f1 (in_names s at (drop (i + 1) xs) (drop (i + 1) ds)) ≡ all
names-step s at xs ds i x d h k p q f0 f1 all wanted is e1 e2 e3 e4 = cc (found_after-names f0 s at xs ds i x d h k p q)
