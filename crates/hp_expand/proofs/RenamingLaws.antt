-- The lists of a block under other names are lists of such parts.
use Rattle.std.proofs.Common.{◌≡◌, ℕ, ◌+◌, ◌<◌, get_or, length, take, map, List, [], ◌∷◌, ◌++◌, refl, sym, ap, ◌∙◌}
use Rattle.std.proofs.lemmas.List.{append_assoc}
use Rattle.hp_tree.specs.declared.block.Eqn as code_eqn
use Rattle.hp_tree.specs.declared.block.Arm as code_arm
use Rattle.hp_tree.specs.declared.block.State as code_state
use Rattle.hp_tree.specs.BlockView.{eqn_seen, arm_seen, state_seen}
use Rattle.hp_tree.specs.Blocks.{Arm, Arms, more_arms, State, States, more_states, more_eqns, eqns_of, arms_of, states_of}
use Rattle.hp_expand.specs.Renaming.{renamed_eqns, renamed_eqn, renamed_arms, renamed_states}
use Rattle.hp_expand.specs.Renamed.{renamed_arm, renamed_state}
use Rattle.hp_expand.proofs.LayerLaws.{take-next}

abbrev arms_of_one : Arm → Arms → Arms
arms_of_one a rest = more_arms a.cons a.body a.span rest

abbrev states_of_one : State → States → States
states_of_one q rest = more_states q.name q.body q.until q.unless q.span rest

module _ (to : List ℕ → List ℕ) where
  pub eqns-mapped : (es : List code_eqn.Eqn) → renamed_eqns to (eqns_of (map eqn_seen es)) ≡ eqns_of (map (λ e. renamed_eqn to (eqn_seen e)) es)
  eqns-mapped [] = refl
  eqns-mapped (e ∷ es) = ap (more_eqns (renamed_eqn to (eqn_seen e))) (eqns-mapped es)

  pub arms-mapped : (arms : List code_arm.Arm) → renamed_arms to (arms_of (map arm_seen arms)) ≡ arms_of (map (λ a. renamed_arm to (arm_seen a)) arms)
  arms-mapped [] = refl
  arms-mapped (a ∷ arms) = ap (λ rest. arms_of_one (renamed_arm to (arm_seen a)) rest) (arms-mapped arms)

  pub states-mapped : (qs : List code_state.State) → renamed_states to (states_of (map state_seen qs)) ≡ states_of (map (λ q. renamed_state to (state_seen q)) qs)
  states-mapped [] = refl
  states-mapped (q ∷ qs) = ap (λ rest. states_of_one (renamed_state to (state_seen q)) rest) (states-mapped qs)

-- one more element at the end
pub map-one : {A B : Type 0} (f : A → B) (xs : List A) (x : A) → map f (xs ++ x ∷ []) ≡ map f xs ++ f x ∷ []
map-one f [] x = refl
map-one f (y ∷ xs) x = ap (λ rest. f y ∷ rest) (map-one f xs x)

pub grown-next : {A B : Type 0} (before : List B) (f : A → B) (xs : List A) (i : ℕ) (x : A) → i < length xs → x ≡ get_or xs i x
    → before ++ map f (take (i + 1) xs) ≡ (before ++ map f (take i xs)) ++ f x ∷ []
grown-next before f xs i x h p =
    ap (λ more. before ++ map f more) (take-next xs i x h p) ∙ ap (λ more. before ++ more) (map-one f (take i xs) x) ∙ sym (append_assoc before (map f (take i xs)) (f x ∷ []))
