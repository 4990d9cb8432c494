-- The variables and equations that are made of a node have its signature, and all is in range.
use Rattle.std.proofs.Common.{◌≡◌, ℕ, ◌+◌, ◌<◌, true, List, [], ◌∷◌, ◌++◌, length, map, take, None, Some, refl, sym, ap, subst, ◌∙◌}
use Rattle.std.specs.Prelude.{All}
use Rattle.std.specs.List.{flat_map}
use Rattle.std.proofs.lemmas.List.{append-nil, append_assoc, length-append, map-append, length-map}
use Rattle.std.proofs.lemmas.List.Elements.{All-head, All-tail, All-nil, All-cons, All-map, All-weaker, recursion_from_All}
use Rattle.std.proofs.Math.Seq.{take-append_seam}
use Rattle.hp_tree.specs.Blocks.{Decl}
use Rattle.hp_tree.specs.Programs.{Node}
use Rattle.hp_tree.specs.Meaning.{controls_of}
use Rattle.hp_flat.specs.declared.node.Variable.{Variable as VariableData}
use Rattle.hp_flat.specs.declared.equation.Atom.{Atom}
use Rattle.hp_flat.specs.declared.equation.Atom.TheVariants.{Variable, Value}
use Rattle.hp_flat.specs.Equations.{Right, operator, register, called, FlatEqn}
use Rattle.law_equations.specs.Meaning.Fitting.{atom_variables, operands}
use Rattle.law_equations.specs.Meaning.Scheduling.{clock_variables, EqnWithin as EqnBelow, IsWithin}
use Rattle.hp_flat.specs.Nodes.{FlatNode}
use Rattle.law_equations.specs.Made.Making as making
use Rattle.law_equations.specs.Made.Making.{Known, Sketch, Seen, Layer, Body, next, no_entry, nothing_made, unknown, base_site, over, put, with_variable, signed, signature, remember_all, sketch_block, sketch_node}
use Rattle.law_equations.specs.Made.Sights.{Entry}
use Rattle.hp_complete.specs.Ordering.{unplaced}
use Rattle.hp_complete.specs.Ranges.{AtomWithin, RightWithin, EqnWithin, IsInRange}
use Rattle.hp_complete.specs.Signatures.{numbers_from, variable_of, variables_of, IsFlat}
use Rattle.hp_complete.proofs.MadeRanges.{SightLow, LayerLow, SiteLow, SketchLow, Grown, grown-same, grown-then, layer-later, variable-grown, over-low}
use Rattle.hp_complete.proofs.MadeBlocks.{GrownSeen, seen-then, put-low, remember-grown, block-grown}
use Rattle.hp_complete.proofs.SignatureLaws.{is-flat}

module _ (k : Known) where
  -- ---- the signature

  pub signed-variables : (ds : List Decl) (s : Seen) → (signed k ds s).1.variables ≡ s.1.variables ++ variables_of k.types ds
  signed-variables [] s = sym (append-nil s.1.variables)
  signed-variables (d ∷ ds) s =
      signed-variables ds (put d.name (record { ty = making.flat_type k.types d.ty; value = Some (next s.1); last = None; is_local = true }) s.0, with_variable d.name (making.flat_type k.types d.ty) s.1)
      ∙ append_assoc s.1.variables (variable_of k.types d ∷ []) (variables_of k.types ds)

  signed_grown : (ds : List Decl) (s : Seen) → SketchLow s.1 → LayerLow (next s.1) s.0 → GrownSeen s.1 (signed k ds s)
  signed_grown [] s low layer = record { grown = grown-same s.1 low; layer = layer }
  signed_grown (d ∷ ds) s low layer =
      let t = making.flat_type k.types d.ty in
      let e : Entry = record { ty = t; value = Some (next s.1); last = None; is_local = true } in
      let m = with_variable d.name t s.1 in
      let g = variable-grown d.name t s.1 low in
      let r : Seen = (put d.name e s.0, m) in
      let l = put-low (next m) d.name e s.0 (record { value = g.number; last = tt }) (layer-later s.1 m s.0 g.grown layer) in
      seen-then s.1 m (signed k ds r) g.grown (signed_grown ds r g.grown.low l)

  unknown_low : (n : ℕ) → SightLow n unknown
  unknown_low n x = record { value = tt; last = tt }

  base_low : (n : ℕ) → SiteLow n base_site
  base_low n = record { clock = All-nil (λ (s : ℕ × ℕ). s.0 < n); restart = All-nil (λ x. x < n) }

  signature_grown : (n : Node) → GrownSeen nothing_made (signature k n)
  signature_grown n =
      let none : Seen = (no_entry, nothing_made) in
      let ins = signed k n.inputs none in
      let g = signed_grown n.inputs none (record { eqns = All-nil (EqnWithin 0); flag = tt }) (λ x. tt) in
      let mids = signed k (controls_of n.contract) ins in
      let h = signed_grown (controls_of n.contract) ins g.grown.low g.layer in
      seen-then nothing_made mids.1 (signed k n.outputs mids) (grown-then nothing_made ins.1 mids.1 g.grown h.grown) (signed_grown n.outputs mids h.grown.low h.layer)

  signature_variables : (n : Node) → (signature k n).1.variables ≡ variables_of k.types (n.inputs ++ controls_of n.contract) ++ variables_of k.types n.outputs
  signature_variables n =
      let none : Seen = (no_entry, nothing_made) in
      let ins = signed k n.inputs none in
      let mids = signed k (controls_of n.contract) ins in
      signed-variables n.outputs mids
      ∙ ap (λ vs. vs ++ variables_of k.types n.outputs)
      (signed-variables (controls_of n.contract) ins ∙ ap (λ vs. vs ++ variables_of k.types (controls_of n.contract)) (signed-variables n.inputs none) ∙ sym (map-append (variable_of k.types) n.inputs (controls_of n.contract)))

  -- ---- the node

  pub node-grown : (n : Node) → Grown (signature k n).1 (sketch_node k n)
  node-grown n =
      let s = signature k n in
      let g = signature_grown n in
      let r = remember_all k base_site unknown n.outputs s in
      let h = remember-grown k base_site unknown n.outputs s g.grown.low g.layer (unknown_low (next s.1)) (base_low (next s.1)) in
      let b = block-grown k n.body Body (over r.0 unknown) base_site r.1 (record { sight = over-low (next r.1) r.0 unknown h.layer (unknown_low (next r.1)); site = base_low (next r.1); low = h.grown.low }) in
      grown-then s.1 r.1 (sketch_node k n) h.grown b.grown

  -- the variables are those of the signature, and others behind them
  pub node-variables : (n : Node)
      → take (length (n.inputs ++ controls_of n.contract) + length n.outputs) (sketch_node k n).variables ≡ variables_of k.types (n.inputs ++ controls_of n.contract) ++ variables_of k.types n.outputs
  node-variables n =
      let g = node-grown n in
      let given = n.inputs ++ controls_of n.contract in
      let own = variables_of k.types given ++ variables_of k.types n.outputs in
      let long : length given + length n.outputs ≡ length own =
      sym (length-append (variables_of k.types given) (variables_of k.types n.outputs) ∙ (λ j. length-map given (variable_of k.types) j + length-map n.outputs (variable_of k.types) j)) in
      (λ j. take (long j) ((g.variables ∙ ap (λ vs. vs ++ g.more) (signature_variables n)) j)) ∙ take-append_seam own g.more

  pub node-eqns : (n : Node) → All (EqnWithin (length (sketch_node k n).variables)) (sketch_node k n).eqns
  node-eqns n = let g = node-grown n in g.low.eqns

-- ---- equations but for their places

unplaced_back : (n : ℕ) (es : List FlatEqn) → All (EqnWithin n) (map unplaced es) → All (EqnWithin n) es
unplaced_back n [] h = All-nil (EqnWithin n)
unplaced_back n (e ∷ es) h =
    let own = All-head (EqnWithin n) (unplaced e) (map unplaced es) h in
    All-cons (EqnWithin n) e es (record { targets = own.targets; clock = own.clock; right = own.right; restart = own.restart }) (unplaced_back n es (All-tail (EqnWithin n) (unplaced e) (map unplaced es) h))

unplaced_forth : (n : ℕ) (es : List FlatEqn) → All (EqnWithin n) es → All (EqnWithin n) (map unplaced es)
unplaced_forth n [] h = All-nil (EqnWithin n)
unplaced_forth n (e ∷ es) h =
    let own = All-head (EqnWithin n) e es h in
    All-cons (EqnWithin n) (unplaced e) (map unplaced es) (record { targets = own.targets; clock = own.clock; right = own.right; restart = own.restart }) (unplaced_forth n es (All-tail (EqnWithin n) e es h))

numbers_same : (m : ℕ) (os : List Decl) → making.numbers_from m os ≡ numbers_from m (length os)
numbers_same m [] = refl
numbers_same m (o ∷ os) = ap (λ more. m ∷ more) (numbers_same (m + 1) os)

-- A node with these variables and equations, whatever the places are, has the signature of the node of the tree, and all is in range.
pub node-flat : (k : Known) (n : Node) (f : FlatNode) → f.name ≡ n.name → f.variables ≡ (sketch_node k n).variables → f.inputs ≡ length (n.inputs ++ controls_of n.contract)
    → f.outputs ≡ making.numbers_from (length (n.inputs ++ controls_of n.contract)) n.outputs → map unplaced f.eqns ≡ map unplaced (sketch_node k n).eqns → IsFlat k.types n f
node-flat k n f name variables inputs outputs eqns =
    let given = n.inputs ++ controls_of n.contract in
    is-flat k.types n f (length given + length n.outputs) name inputs (outputs ∙ numbers_same (length given) n.outputs) (ap (take (length given + length n.outputs)) variables ∙ node-variables k n)
    (unplaced_back (length f.variables) f.eqns (subst (λ es. All (EqnWithin (length f.variables)) es) (sym eqns) (unplaced_forth (length f.variables) (sketch_node k n).eqns (subst (λ (vs : List VariableData). All (EqnWithin (length vs)) (sketch_node k n).eqns) (sym variables) (node-eqns k n)))))

-- ---- numbers in range, as clocked equations ask for it

operands_low : (n : ℕ) (xs : List Atom) → All (AtomWithin n) xs → All (λ x. x < n) (flat_map atom_variables xs)
operands_low n [] h = All-nil (λ x. x < n)
operands_low n (Variable x ∷ xs) h = All-cons (λ y. y < n) x (flat_map atom_variables xs) (All-head (AtomWithin n) (Variable x) xs h) (operands_low n xs (All-tail (AtomWithin n) (Variable x) xs h))
operands_low n (Value v ∷ xs) h = operands_low n xs (All-tail (AtomWithin n) (Value v) xs h)

next_low : (n : ℕ) (a : Atom) → AtomWithin n a → All (λ x. x < n) (atom_variables a)
next_low n (Variable x) h = All-cons (λ y. y < n) x [] h (All-nil (λ y. y < n))
next_low n (Value v) h = All-nil (λ x. x < n)

right_low : (n : ℕ) (r : Right) → RightWithin n r → All (λ x. x < n) (operands r)
right_low n (operator op args) h = operands_low n args h
right_low n (register first x) h = next_low n x h
right_low n (called f args) h = operands_low n args h

eqn_low : (n : ℕ) (e : FlatEqn) → EqnWithin n e → EqnBelow n e
eqn_low n e h = record {
  targets = recursion_from_All (λ x. x < n) e.targets h.targets;
  clock = recursion_from_All (λ x. x < n) (clock_variables e.clock) (All-map (λ x. x < n) (λ (s : ℕ × ℕ). s.0) e.clock h.clock);
  operands = recursion_from_All (λ x. x < n) (operands e.right) (right_low n e.right h.right);
  restart = recursion_from_All (λ x. x < n) e.restart h.restart;
}

pub range-within : (f : FlatNode) → IsInRange f → IsWithin f
range-within f h =
    let n = length f.variables in
    record {
      inputs = h.inputs;
      outputs = recursion_from_All (λ x. x < n) f.outputs h.outputs;
      eqns = recursion_from_All (EqnBelow n) f.eqns (All-weaker (EqnWithin n) (EqnBelow n) (eqn_low n) f.eqns h.eqns);
    }
