-- What is found in the lists of a block, element by element.
use Rattle.std.proofs.Common.{◌≡◌, ℕ, ◌+◌, ◌<◌, get_or, length, drop, map, List, [], ◌∷◌, ◌++◌, Option, sym, ap, ◌∙◌}
use Rattle.hp_tree.specs.declared.block.Trans.{Trans}
use Rattle.hp_tree.specs.declared.block.Eqn as code_eqn
use Rattle.hp_tree.specs.declared.block.Arm as code_arm
use Rattle.hp_tree.specs.declared.block.State as code_state
use Rattle.hp_tree.specs.BlockView.{eqn_seen, arm_seen, state_seen}
use Rattle.hp_tree.specs.Blocks.{eqns_of, arms_of, states_of}
use Rattle.hp_names.specs.Names.{Placed, with_name, with_names, state_names}
use Rattle.hp_names.specs.Scopes.{Scope, inside}
use Rattle.hp_names.specs.Breaches.{Breach, found_after}
use Rattle.hp_names.specs.Claims.{uses, declares, new_names, in_cons, in_expr, in_left, in_transitions, in_block, in_eqn, in_eqns, in_arms, in_states}
use Rattle.hp_names.proofs.FoundLaws.{drop-next, found_after-append, found_after-nil}

module _ (found : Option Breach) (s : Scope) where
  pub found_after-left : (xs : List Placed) (i : ℕ) (x : Placed) → i < length xs → x ≡ get_or xs i x
      → found_after found (in_left s (drop i xs)) ≡ found_after (found_after found (uses s.variables x.0 x.1 ∷ [])) (in_left s (drop (i + 1) xs))
  found_after-left xs i x h p =
      ap (λ more. found_after found (in_left s more)) (drop-next xs i x h p)
      ∙ found_after-append found (uses s.variables x.0 x.1 ∷ []) (in_left s (drop (i + 1) xs))

  pub found_after-transitions : (states : List (List ℕ)) (ts : List Trans) (i : ℕ) (t : Trans) → i < length ts → t ≡ get_or ts i t
      → found_after found (in_transitions s states (drop i ts))
      ≡ found_after (found_after (found_after found (in_expr s t.cond)) (uses states t.target t.span ∷ [])) (in_transitions s states (drop (i + 1) ts))
  found_after-transitions states ts i t h p =
      let rest = in_transitions s states (drop (i + 1) ts) in
      ap (λ more. found_after found (in_transitions s states more)) (drop-next ts i t h p)
      ∙ found_after-append found (in_expr s t.cond) (uses states t.target t.span ∷ rest)
      ∙ found_after-append (found_after found (in_expr s t.cond)) (uses states t.target t.span ∷ []) rest

  pub found_after-eqns : (es : List code_eqn.Eqn) (i : ℕ) (e : code_eqn.Eqn) → i < length es → e ≡ get_or es i e
      → found_after found (in_eqns s (eqns_of (map eqn_seen (drop i es))))
      ≡ found_after (found_after found (in_eqn s (eqn_seen e))) (in_eqns s (eqns_of (map eqn_seen (drop (i + 1) es))))
  found_after-eqns es i e h p =
      ap (λ more. found_after found (in_eqns s (eqns_of (map eqn_seen more)))) (drop-next es i e h p)
      ∙ found_after-append found (in_eqn s (eqn_seen e)) (in_eqns s (eqns_of (map eqn_seen (drop (i + 1) es))))

  pub found_after-arms : (arms : List code_arm.Arm) (i : ℕ) (a : code_arm.Arm) → i < length arms → a ≡ get_or arms i a
      → found_after found (in_arms s (arms_of (map arm_seen (drop i arms))))
      ≡ found_after (found_after (found_after found (in_cons s a.span a.cons)) (in_block s a.body)) (in_arms s (arms_of (map arm_seen (drop (i + 1) arms))))
  found_after-arms arms i a h p =
      let rest = in_arms s (arms_of (map arm_seen (drop (i + 1) arms))) in
      ap (λ more. found_after found (in_arms s (arms_of (map arm_seen more)))) (drop-next arms i a h p)
      ∙ found_after-append found (in_cons s a.span a.cons) (in_block s a.body ++ rest)
      ∙ found_after-append (found_after found (in_cons s a.span a.cons)) (in_block s a.body) rest

  pub found_after-states : (names : List (List ℕ)) (qs : List code_state.State) (i : ℕ) (q : code_state.State) → i < length qs → q ≡ get_or qs i q
      → found_after found (in_states s names (states_of (map state_seen (drop i qs))))
      ≡ found_after (found_after found (in_states s names (states_of (state_seen q ∷ [])))) (in_states s names (states_of (map state_seen (drop (i + 1) qs))))
  found_after-states names qs i q h p =
      let rest = in_states s names (states_of (map state_seen (drop (i + 1) qs))) in
      let weak = in_transitions (inside s q.body) names q.until.items in
      let strong = in_transitions s names q.unless.items in
      let first = found_after found (in_block s q.body) in
      let second = found_after first weak in
      ap (λ more. found_after found (in_states s names (states_of (map state_seen more)))) (drop-next qs i q h p)
      ∙ found_after-append found (in_block s q.body) (weak ++ (strong ++ rest))
      ∙ found_after-append first weak (strong ++ rest)
      ∙ found_after-append second strong rest
      ∙ ap (λ f. found_after f rest)
      (sym (found_after-append found (in_block s q.body) (weak ++ (strong ++ []))
      ∙ found_after-append first weak (strong ++ [])
      ∙ found_after-append second strong []
      ∙ found_after-nil (found_after second strong)))

module _ (qs : List code_state.State) (i : ℕ) (q : code_state.State) (h : i < length qs) (p : q ≡ get_or qs i q) where
  -- one more state that is declared
  pub found_after-new_states : (found : Option Breach) (names : List (List ℕ))
      → found_after found (new_names names (state_names (states_of (map state_seen (drop i qs)))))
      ≡ found_after (found_after found (declares names q.name q.span ∷ [])) (new_names (with_name names q.name) (state_names (states_of (map state_seen (drop (i + 1) qs)))))
  found_after-new_states found names =
      let rest = new_names (with_name names q.name) (state_names (states_of (map state_seen (drop (i + 1) qs)))) in
      ap (λ more. found_after found (new_names names (state_names (states_of (map state_seen more))))) (drop-next qs i q h p)
      ∙ found_after-append found (declares names q.name q.span ∷ []) rest

  pub with_names-next_state : (names : List (List ℕ))
      → with_names names (state_names (states_of (map state_seen (drop i qs)))) ≡ with_names (with_name names q.name) (state_names (states_of (map state_seen (drop (i + 1) qs))))
  with_names-next_state names = ap (λ more. with_names names (state_names (states_of (map state_seen more)))) (drop-next qs i q h p)
