-- The names that equations define, one after the other.
use Rattle.std.proofs.Common.{◌≡◌, ℕ, ◌+◌, ◌<◌, ◌≤◌, get_or, length, drop, map, Bool, true, false, cond, ◌||◌, if◌then◌else◌, List, [], ◌∷◌, ◌++◌, Bor, refl, sym, ap, ◌∙◌}
use Rattle.std.proofs.lemmas.List.{append_assoc, append-nil, map-append, drop_all}
use Rattle.std.proofs.Math.Seq.{drop-cons}
use Rattle.std.proofs.Math.Numerals.{add-one}
use Rattle.std.specs.Str.{bytes_eq}
use Rattle.hp_base.specs.declared.span.Span.{Span}
use Rattle.hp_tree.specs.Blocks.{Decl, eqns_of, arms_of, states_of}
use Rattle.hp_tree.specs.BlockView.{eqn_seen, arm_seen, state_seen}
use Rattle.hp_tree.specs.declared.block.Eqn as code_eqn
use Rattle.hp_tree.specs.declared.block.Arm as code_arm
use Rattle.hp_tree.specs.declared.block.State as code_state
use Rattle.hp_tree.specs.Meaning.{declares}
use Rattle.hp_tables.specs.Defining.Seen.{names_seen, with_held, with_more}
use Rattle.hp_tables.specs.Defining.Names.{names_in, names_of, names_of_arms, names_of_states, outer_names, undeclared, controlled, controls_in}

-- an element of a list, and what is behind it
pub drop-next : {A : Type 0} (xs : List A) (i : ℕ) (x : A) → i < length xs → x ≡ get_or xs i x → drop i xs ≡ x ∷ drop (i + 1) xs
drop-next xs i x h p = drop-cons xs i x h ∙ rw (add-one, ← p)

pub drop-end : {A : Type 0} (xs : List A) (i : ℕ) → length xs ≤ i → drop i xs ≡ []
drop-end xs i h = drop_all i xs h

module _ {A : Type 0} (before : List A) where
  pub more-nil : with_more before [] ≡ before
  unfolding with_more
  more-nil = append-nil before

  pub more-one : (a : A) → before ++ a ∷ [] ≡ with_more before (a ∷ [])
  unfolding with_more
  more-one a = refl

  pub more-append : (xs ys : List A) → with_more before (xs ++ ys) ≡ with_more (with_more before xs) ys
  unfolding with_more
  more-append xs ys = sym (append_assoc before xs ys)

pub more-from_nil : {A : Type 0} (xs : List A) → with_more [] xs ≡ xs
unfolding with_more
more-from_nil xs = refl

pub names-push : (xs : List (Bor (List ℕ))) (x : Bor (List ℕ)) → names_seen (xs ++ x ∷ []) ≡ with_more (names_seen xs) (x.now ∷ [])
names-push xs x = map-append (λ (y : Bor (List ℕ)). y.now) xs (x ∷ []) ∙ more-one (names_seen xs) x.now

module _ (before : List (List ℕ)) where
  pub names-left : (ys : List (List ℕ × Span)) (i : ℕ) (y : List ℕ × Span) → i < length ys → y ≡ get_or ys i y
      → with_more before (map (λ (z : List ℕ × Span). z.0) (drop i ys)) ≡ with_more (with_more before (y.0 ∷ [])) (map (λ (z : List ℕ × Span). z.0) (drop (i + 1) ys))
  names-left ys i y h p =
      ap (λ more. with_more before (map (λ (z : List ℕ × Span). z.0) more)) (drop-next ys i y h p) ∙ more-append before (y.0 ∷ []) (map (λ (z : List ℕ × Span). z.0) (drop (i + 1) ys))

  undeclared_by : (ds : List Decl) (x : List ℕ) (xs : List (List ℕ)) (d : Bool) → with_more before (if d then undeclared ds xs else x ∷ undeclared ds xs)
      ≡ with_more (if d then before else with_more before (x ∷ [])) (undeclared ds xs)
  undeclared_by ds x xs true = refl
  undeclared_by ds x xs false = more-append before (x ∷ []) (undeclared ds xs)

  pub names-undeclared : (ds : List Decl) (xs : List (Bor (List ℕ))) (i : ℕ) (x : Bor (List ℕ)) → i < length xs → x ≡ get_or xs i x
      → with_more before (undeclared ds (names_seen (drop i xs)))
      ≡ with_more (if declares ds x.now then before else with_more before (x.now ∷ [])) (undeclared ds (names_seen (drop (i + 1) xs)))
  names-undeclared ds xs i x h p =
      ap (λ more. with_more before (undeclared ds (names_seen more))) (drop-next xs i x h p)
      ∙ undeclared_by ds x.now (names_seen (drop (i + 1) xs)) (declares ds x.now)

  pub names-eqns : (es : List code_eqn.Eqn) (i : ℕ) (e : code_eqn.Eqn) → i < length es → e ≡ get_or es i e
      → with_more before (names_in (eqns_of (map eqn_seen (drop i es)))) ≡ with_more (with_more before (names_of (eqn_seen e))) (names_in (eqns_of (map eqn_seen (drop (i + 1) es))))
  names-eqns es i e h p =
      ap (λ more. with_more before (names_in (eqns_of (map eqn_seen more)))) (drop-next es i e h p)
      ∙ more-append before (names_of (eqn_seen e)) (names_in (eqns_of (map eqn_seen (drop (i + 1) es))))

  pub names-arms : (arms : List code_arm.Arm) (i : ℕ) (a : code_arm.Arm) → i < length arms → a ≡ get_or arms i a
      → with_more before (names_of_arms (arms_of (map arm_seen (drop i arms)))) ≡ with_more (with_more before (outer_names a.body)) (names_of_arms (arms_of (map arm_seen (drop (i + 1) arms))))
  names-arms arms i a h p =
      ap (λ more. with_more before (names_of_arms (arms_of (map arm_seen more)))) (drop-next arms i a h p)
      ∙ more-append before (outer_names a.body) (names_of_arms (arms_of (map arm_seen (drop (i + 1) arms))))

  pub names-states : (qs : List code_state.State) (i : ℕ) (q : code_state.State) → i < length qs → q ≡ get_or qs i q
      → with_more before (names_of_states (states_of (map state_seen (drop i qs)))) ≡ with_more (with_more before (outer_names q.body)) (names_of_states (states_of (map state_seen (drop (i + 1) qs))))
  names-states qs i q h p =
      ap (λ more. with_more before (names_of_states (states_of (map state_seen more)))) (drop-next qs i q h p)
      ∙ more-append before (outer_names q.body) (names_of_states (states_of (map state_seen (drop (i + 1) qs))))

  pub names-controls : (es : List code_eqn.Eqn) (i : ℕ) (e : code_eqn.Eqn) → i < length es → e ≡ get_or es i e
      → with_more before (controls_in (eqns_of (map eqn_seen (drop i es)))) ≡ with_more (with_more before (controlled (eqn_seen e))) (controls_in (eqns_of (map eqn_seen (drop (i + 1) es))))
  names-controls es i e h p =
      ap (λ more. with_more before (controls_in (eqns_of (map eqn_seen more)))) (drop-next es i e h p)
      ∙ more-append before (controlled (eqn_seen e)) (controls_in (eqns_of (map eqn_seen (drop (i + 1) es))))

-- ---- the names that are declared

pub held : (d r : Bool) → cond d true r ≡ (d || r)
held true r = refl
held false r = refl

-- names that are known already, or declared
abbrev pub known_or : List Decl → (List ℕ → Bool) → List ℕ → Bool
known_or ds known x = known x || declares ds x

moved : (a b c : Bool) → ((b || a) || c) ≡ (a || (b || c))
moved true true c = refl
moved false true c = refl
moved true false c = refl
moved false false c = refl

pub known-next : (d : Decl) (ds : List Decl) (known : List ℕ → Bool) → known_or ds (with_held known d.name) ≡ known_or (d ∷ ds) known
known-next d ds known = λ j x. moved (known x) (bytes_eq d.name x) (declares ds x) j

pub known-step : (ds : List Decl) (i : ℕ) (d : Decl) (known new : List ℕ → Bool) (name : List ℕ) → i < length ds → d ≡ get_or ds i d → name ≡ d.name → new ≡ with_held known name
    → known_or (drop (i + 1) ds) new ≡ known_or (drop i ds) known
known-step ds i d known new name h p n e =
    (λ j. known_or (drop (i + 1) ds) (e j)) ∙ (λ j. known_or (drop (i + 1) ds) (with_held known (n j))) ∙ known-next d (drop (i + 1) ds) known ∙ (λ j. known_or (sym (drop-next ds i d h p) j) known)

or-false : (a : Bool) → (a || false) ≡ a
or-false true = refl
or-false false = refl

pub known-end : (known : List ℕ → Bool) → known_or [] known ≡ known
known-end known = λ j x. or-false (known x) j

pub known-all : (ds : List Decl) (i : ℕ) (known : List ℕ → Bool) → length ds ≤ i → known ≡ known_or (drop i ds) known
known-all ds i known h = sym (known-end known) ∙ (λ j. known_or (sym (drop-end ds i h) j) known)
