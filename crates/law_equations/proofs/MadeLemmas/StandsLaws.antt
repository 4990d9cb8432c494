-- The equations of a node stand for its flat names.
use Rattle.std.proofs.Common.{◌≡◌, ◌⊎◌, inl, inr, ℕ, zero, suc, ◌+◌, ◌<◌, ◌≤◌, Bool, true, false, nat_eq, if◌then◌else◌, List, [], ◌∷◌, ◌++◌, length, map, refl, sym, ap, ap₂, subst, ◌∙◌, arith}
use Rattle.std.specs.List.{AllByRecursion, range_with_len}
use Rattle.std.proofs.lemmas.Bool.Decides.{nat_tests}
use Rattle.std.proofs.lemmas.List.{append-nil, length-append}
use Rattle.hp_tree.specs.Blocks.{Decl, block, Eqns}
use Rattle.hp_tree.specs.Programs.{TypeDecl, Node}
use Rattle.hp_tree.specs.Instant.{Body as BodyOf, Named, Place}
use Rattle.hp_tree.specs.Meaning.{declares, some_defines, controls_of}
use Rattle.hp_base.specs.declared.value.Value.{Value}
use Rattle.hp_flat.specs.Equations.{FlatEqn}
use Rattle.hp_flat.specs.Nodes.{FlatNode}
use Rattle.law_equations.specs.Flattened.Flatten.{FlatName, At, Input, Nowhere, always, node_scope, flatten}
use Rattle.law_equations.specs.Flattened.Lifted.{in_body, node_lasts}
use Rattle.law_equations.specs.Flattened.Numbered.{targets_from, definitions, HasTargets, StandFor, AreEquationsFor}
use Rattle.law_equations.specs.Made.Labels.{AreMadeAt, events, block_labels}
use Rattle.law_equations.specs.Made.Making.{numbers_from, Known, Body, next, nothing_made, base_site, unknown}
use Rattle.law_equations.specs.Made.Blocks.{DeclaredOnce, IsPlain, ReadyBlock}
use Rattle.law_equations.specs.Made.Keeping.{IsKept, LastsKept, BlockKeeps}
use Rattle.law_equations.specs.Made.Standing.{Knows, Agrees, Promises}
use Rattle.law_equations.proofs.MadeLemmas.StepLaws.{split_at}
use Rattle.law_equations.proofs.MadeLemmas.BlockLayers.{Outer}
use Rattle.law_equations.proofs.MadeLemmas.SignatureLaws.{targets, targets_length}
use Rattle.law_equations.proofs.MadeLemmas.TargetLaws.{count, remember-fits, block-fits}
use Rattle.law_equations.proofs.MadeLemmas.NodeLaws.{with_inputs, with_controls, with_outputs, with_lasts, out, made, ins, mids, no_eqns, NodeMade, node-made}

-- ---- variables, by their number in a list of flat names; any other stands for the name that has no value

abbrev pub nth : List FlatName → ℕ → FlatName
nth [] x = Nowhere
nth (a ∷ names) zero = a
nth (a ∷ names) (suc x) = nth names x

agrees_from : (means : ℕ → FlatName) (j : ℕ) (names : List FlatName) → ((i : ℕ) → i < length names → means (j + i) ≡ nth names i) → Agrees means j names
agrees_from means j [] h = tt
agrees_from means j (a ∷ names) h =
    let same : j ≡ j + 0 = omega arith in (
      ap means same ∙ h 0 (omega arith),
      agrees_from means (j + 1) names (λ i l. let next_one : (j + 1) + i ≡ j + suc i = omega arith in ap means next_one ∙ h (suc i) (omega arith)),
    )

nth_agrees : (names : List FlatName) → Agrees (nth names) 0 names
nth_agrees names = agrees_from (nth names) 0 names (λ i l. let same : 0 + i ≡ i = omega arith in ap (nth names) same)

above_all : (names : List FlatName) (x : ℕ) → length names ≤ x → nth names x ≡ Nowhere
above_all [] x l = refl
above_all (a ∷ names) zero l = absurd (omega arith)
above_all (a ∷ names) (suc x) l = above_all names x (omega arith)

agrees_map : (means : ℕ → FlatName) (j : ℕ) (names : List FlatName) → Agrees means j names → map means (range_with_len j (length names)) ≡ names
agrees_map means j [] a = refl
agrees_map means j (x ∷ names) a = ap₂ (λ y ys. y ∷ ys) a.0 (agrees_map means (j + 1) names a.1)

agrees_both : (means : ℕ → FlatName) (j : ℕ) (xs ys : List FlatName) → Agrees means j xs → Agrees means (j + length xs) ys → Agrees means j (xs ++ ys)
agrees_both means j [] ys a b = let same : j + 0 ≡ j = omega arith in subst (λ i. Agrees means i ys) same b
agrees_both means j (x ∷ xs) ys a b =
    let same : j + length (x ∷ xs) ≡ (j + 1) + length xs = omega arith in
    (a.0, agrees_both means (j + 1) xs ys a.1 (subst (λ i. Agrees means i ys) same b))

-- ---- no input is a target

both_none : {A : Type 0} (xs ys : List A) → xs ++ ys ≡ [] → (xs ≡ []) × (ys ≡ [])
both_none [] ys h = (refl, h)
both_none (x ∷ xs) ys h = absurd cc

no_target : (j : ℕ) (xs : List ℕ) (e : FlatEqn) (m : ℕ) → ((y : ℕ) → y < m → targets_from j xs e y ≡ []) → AllByRecursion (λ x. m ≤ x) xs
no_target j [] e m h = tt
no_target j (x ∷ xs) e m h = (low (split_at x m), no_target (suc j) xs e m (λ y l. rest y (nat_eq x y) (h y l)))
  where
    same : (x : ℕ) → nat_eq x x ≡ true
    same x = grind (arith, nat_tests)

    low : (x < m) ⊎ (m ≤ x) → m ≤ x
    low (inr l) = l
    low (inl l) = absurd (let no : (e, j) ∷ targets_from (suc j) xs e x ≡ [] = sym (ap (λ c. if c then (e, j) ∷ targets_from (suc j) xs e x else targets_from (suc j) xs e x) (same x)) ∙ h x l in cc)

    rest : (y : ℕ) (c : Bool) → (if c then (e, j) ∷ targets_from (suc j) xs e y else targets_from (suc j) xs e y) ≡ [] → targets_from (suc j) xs e y ≡ []
    rest y true q = absurd cc
    rest y false q = q

no_targets : (es : List FlatEqn) (m : ℕ) → ((y : ℕ) → y < m → definitions es y ≡ []) → AllByRecursion (λ (e : FlatEqn). AllByRecursion (λ x. m ≤ x) e.targets) es
no_targets [] m h = tt
no_targets (e ∷ es) m h =
    (no_target 0 e.targets e m (λ y l. (both_none (targets_from 0 e.targets e y) (definitions es y) (h y l)).0), no_targets es m (λ y l. (both_none (targets_from 0 e.targets e y) (definitions es y) (h y l)).1))

in_range : (n : ℕ) (ds : List Decl) → numbers_from n ds ≡ range_with_len n (length ds)
in_range n [] = refl
in_range n (d ∷ ds) = ap (λ ns. n ∷ ns) (in_range (n + 1) ds)

-- ---- nodes

module _ (types : List TypeDecl) (outputs : List ℕ → List (List ℕ)) (k : Known) (knows : Knows types outputs k) (fill : Place → Value) (K : FlatName → Type 0) (n : Node) (inputs_once : DeclaredOnce n.inputs) (controls_once : DeclaredOnce (controls_of n.contract)) (outputs_once : DeclaredOnce n.outputs)
    (ds : List Decl) (es : Eqns) (body_is : n.body ≡ block ds es) (plain : IsPlain (block ds es)) (defined : (x : List ℕ) → declares n.outputs x ≡ true → (some_defines es x ≡ true) × (declares ds x ≡ false))
    (others : (x : List ℕ) → Outer Body ds es x ≡ true → declares n.outputs x ≡ true)
    (ready : ReadyBlock k fill Body (out types outputs k knows fill K n inputs_once controls_once outputs_once) base_site (block ds es) in_body (with_lasts types outputs k knows fill K n inputs_once controls_once outputs_once).1)
    (keep : LastsKept K types n.outputs in_body always [] × BlockKeeps K types fill (block ds es) (node_scope n) (node_lasts types n) in_body always []) where
  abbrev names_declared : List Decl → List (List ℕ)
  names_declared ds = map (λ (d : Decl). d.name) ds

  abbrev all_names : List (List ℕ)
  all_names = names_declared n.inputs ++ names_declared (controls_of n.contract)

  as_inputs : (ds : List Decl) (more : List (List ℕ)) → map (λ x. Input x) (names_declared ds ++ more) ≡ targets (λ x. Input x) ds ++ map (λ x. Input x) more
  as_inputs [] more = refl
  as_inputs (d ∷ ds) more = ap (λ xs. Input d.name ∷ xs) (as_inputs ds more)

  as_all : (ds : List Decl) → map (λ x. Input x) (names_declared ds) ≡ targets (λ x. Input x) ds
  as_all [] = refl
  as_all (d ∷ ds) = ap (λ xs. Input d.name ∷ xs) (as_all ds)

  pub promise : Promises K nothing_made (made types outputs k knows fill K n inputs_once controls_once outputs_once ds es body_is plain defined others ready keep) (block_labels outputs (block ds es) in_body) (NodeMade types outputs k knows fill K n inputs_once controls_once outputs_once ds es body_is plain defined others ready keep)
  promise = node-made types outputs k knows fill K n inputs_once controls_once outputs_once ds es body_is plain defined others ready keep

  -- what is remembered is of K
  kept_at : (names : List FlatName) → AllByRecursion (IsKept K) names → (x : ℕ) → IsKept K (nth names x)
  kept_at [] h x = tt
  kept_at (a ∷ names) h zero = h.0
  kept_at (a ∷ names) h (suc x) = kept_at names h.1 x

  pub node-keeps : (x : ℕ) → IsKept K (nth promise.names x)
  node-keeps x = kept_at promise.names promise.kept x

  -- what a variable of the node stands for
  pub stands : ℕ → FlatName
  stands = nth promise.names

  pub facts : NodeMade types outputs k knows fill K n inputs_once controls_once outputs_once ds es body_is plain defined others ready keep (nth promise.names)
  facts = promise.facts (nth promise.names) (nth_agrees promise.names)

  -- the equations that compare or call are those of the body's comparisons and calls
  pub node-labelled : AreMadeAt (nth promise.names) (events (made types outputs k knows fill K n inputs_once controls_once outputs_once ds es body_is plain defined others ready keep).eqns) (block_labels outputs (block ds es) in_body [])
  node-labelled =
      let l = promise.labelled (nth promise.names) (nth_agrees promise.names) in
      subst (λ es'. AreMadeAt (nth promise.names) (events es') (block_labels outputs (block ds es) in_body [])) (append-nil l.added ∙ sym l.whole) (l.made [] [] tt)

  low : next (with_controls types outputs k knows fill K n inputs_once controls_once outputs_once).1 ≡ length n.inputs + length (controls_of n.contract)
  low =
      let a = (ins types outputs k knows fill K n inputs_once controls_once outputs_once).grown in
      let b = (mids types outputs k knows fill K n inputs_once controls_once outputs_once).grown in
      omega (arith, a, b)

  -- The equations that are made of a node stand for its flat names.
  pub node-stands : (f : FlatNode) → f.inputs ≡ length n.inputs + length (controls_of n.contract) → f.eqns ≡ (made types outputs k knows fill K n inputs_once controls_once outputs_once ds es body_is plain defined others ready keep).eqns
      → AreEquationsFor (nth promise.names) (flatten types outputs fill n) all_names (count k) f
  node-stands f inputs_are eqns_are =
      record {
        inputs = inputs;
        variables = λ x l. variables x l (split_at x (next (made types outputs k knows fill K n inputs_once controls_once outputs_once ds es body_is plain defined others ready keep)));
        targets = subst (AllByRecursion (λ (e : FlatEqn). HasTargets (count k) e e.right)) (sym eqns_are)
            (block-fits k (block ds es) Body (out types outputs k knows fill K n inputs_once controls_once outputs_once) base_site (with_lasts types outputs k knows fill K n inputs_once controls_once outputs_once).1
            (remember-fits k base_site unknown n.outputs (with_outputs types outputs k knows fill K n inputs_once controls_once outputs_once)
            (subst (AllByRecursion (λ (e : FlatEqn). HasTargets (count k) e e.right)) (sym (no_eqns types outputs k knows fill K n inputs_once controls_once outputs_once)) tt)));
        no_inputs = subst (λ es. AllByRecursion (λ (e : FlatEqn). AllByRecursion (λ x. f.inputs ≤ x) e.targets) es) (sym eqns_are)
            (no_targets (made types outputs k knows fill K n inputs_once controls_once outputs_once ds es body_is plain defined others ready keep).eqns f.inputs (λ y l. facts.inputs y (omega (arith, l, inputs_are, low))));
      }
    where
      means : ℕ → FlatName
      means = nth promise.names

      variables : (x : ℕ) → f.inputs ≤ x → (x < next (made types outputs k knows fill K n inputs_once controls_once outputs_once ds es body_is plain defined others ready keep)) ⊎ (next (made types outputs k knows fill K n inputs_once controls_once outputs_once ds es body_is plain defined others ready keep) ≤ x)
          → StandFor (nth promise.names) (definitions f.eqns x) (nth promise.names x) (flatten types outputs fill n (nth promise.names x))
      variables x l (inl u) = subst (λ es. StandFor (nth promise.names) (definitions es x) (nth promise.names x) (flatten types outputs fill n (nth promise.names x))) (sym eqns_are) (facts.done x (omega (arith, l, inputs_are, low)) u)
      variables x l (inr u) =
          let g = promise.grown in
          let none : nth promise.names x ≡ Nowhere = above_all promise.names x (omega (arith, u, g)) in
          subst (λ a. StandFor (nth promise.names) (definitions f.eqns x) a (flatten types outputs fill n a)) (sym none) (ap (λ es. definitions es x) eqns_are ∙ facts.bounded x u, refl)

      inputs : map (nth promise.names) (range_with_len 0 f.inputs) ≡ map (λ x. Input x) all_names
      inputs =
          let s = facts.signs in
          let first : next (with_inputs types outputs k knows fill K n inputs_once controls_once outputs_once).1 ≡ 0 + length (targets (λ x. Input x) n.inputs) =
          (ins types outputs k knows fill K n inputs_once controls_once outputs_once).grown ∙ ap (λ m. 0 + m) (sym (targets_length (λ x. Input x) n.inputs)) in
          let all : Agrees (nth promise.names) 0 (targets (λ x. Input x) n.inputs ++ targets (λ x. Input x) (controls_of n.contract)) =
          agrees_both (nth promise.names) 0 (targets (λ x. Input x) n.inputs) (targets (λ x. Input x) (controls_of n.contract)) s.0 (subst (λ i. Agrees (nth promise.names) i (targets (λ x. Input x) (controls_of n.contract))) first s.1) in
          let size : length (targets (λ x. Input x) n.inputs ++ targets (λ x. Input x) (controls_of n.contract)) ≡ f.inputs =
          length-append (targets (λ x. Input x) n.inputs) (targets (λ x. Input x) (controls_of n.contract)) ∙ ap₂ (λ a b. a + b) (targets_length (λ x. Input x) n.inputs) (targets_length (λ x. Input x) (controls_of n.contract)) ∙ sym inputs_are in
          ap (λ m. map (nth promise.names) (range_with_len 0 m)) (sym size)
          ∙ agrees_map (nth promise.names) 0 (targets (λ x. Input x) n.inputs ++ targets (λ x. Input x) (controls_of n.contract)) all
          ∙ ap (λ xs. targets (λ x. Input x) n.inputs ++ xs) (sym (as_all (controls_of n.contract)))
          ∙ sym (as_inputs n.inputs (names_declared (controls_of n.contract)))

  as_outputs : (ds : List Decl) → map (λ o. At (BodyOf ∷ Named o ∷ [])) (names_declared ds) ≡ targets (λ o. At (BodyOf ∷ Named o ∷ [])) ds
  as_outputs [] = refl
  as_outputs (d ∷ ds) = ap (λ xs. At (BodyOf ∷ Named d.name ∷ []) ∷ xs) (as_outputs ds)

  -- The variables of outputs stand for the names of the body.
  pub outputs-stand : (f : FlatNode) → f.outputs ≡ numbers_from (length n.inputs + length (controls_of n.contract)) n.outputs → map (nth promise.names) f.outputs ≡ map (λ o. At (BodyOf ∷ Named o ∷ [])) (names_declared n.outputs)
  outputs-stand f outputs_are =
      let s = facts.signs in
      let from = length n.inputs + length (controls_of n.contract) in
      let outs = targets (λ o. At (BodyOf ∷ Named o ∷ [])) n.outputs in
      ap (λ xs. map (nth promise.names) xs) (outputs_are ∙ in_range from n.outputs)
      ∙ ap (λ m. map (nth promise.names) (range_with_len from m)) (sym (targets_length (λ o. At (BodyOf ∷ Named o ∷ [])) n.outputs))
      ∙ agrees_map (nth promise.names) from outs (subst (λ i. Agrees (nth promise.names) i outs) low s.2)
      ∙ sym (as_outputs n.outputs)
