-- The variables and equations of a node.
use Rattle.std.proofs.Common.{◌≡◌, ◌⊎◌, inl, inr, ℕ, ◌+◌, ◌<◌, ◌≤◌, Bool, true, false, ◌||◌, ◌&&◌, not, if◌then◌else◌, List, [], ◌∷◌, Option, None, Some, refl, sym, ap, ap₂, subst, ◌∙◌, arith}
use Rattle.hp_base.specs.declared.value.Value.{Value}
use Rattle.hp_tree.specs.Blocks.{Decl, block, Eqns}
use Rattle.hp_tree.specs.Programs.{TypeDecl, Node}
use Rattle.hp_tree.specs.Instant.{Body as BodyOf, Named, Equations, Place}
use Rattle.hp_tree.specs.Meaning.{declares, some_defines, controls_of}
use Rattle.law_equations.specs.Flattened.Flatten.{FlatName, Input, Nowhere, At, always, Rows, Scope, below, inside_at, lasts_at, node_scope, flat_defined, flat_scope, flatten}
use Rattle.law_equations.specs.Flattened.Lifted.{in_body, node_lasts}
use Rattle.law_equations.specs.Flattened.Numbered.{definitions, AreRows, StandFor}
use Rattle.law_equations.specs.Made.Labels.{block_labels}
use Rattle.law_equations.specs.Made.Making.{Known, Sketch, Sight, Body, Seen, next, no_entry, nothing_made, base_site, unknown, or_entry, over, signed, remember_all, sketch_block}
use Rattle.law_equations.specs.Made.Blocks.{DeclaredOnce, IsPlain, ReadyBlock}
use Rattle.law_equations.specs.Made.Sights.{Entry}
use Rattle.law_equations.specs.Made.Keeping.{IsKept, LastsKept, BlockKeeps}
use Rattle.law_equations.specs.Made.Standing.{Knows, Agrees, IsNamed, IsFlagged, defs, IsBounded, IsDone, Steps, Promises, Promised, Remembers, EqnsMade}
use Rattle.law_equations.proofs.MadeLemmas.StepLaws.{split_at}
use Rattle.law_equations.proofs.MadeLemmas.LabelLaws.{same-labelled}
use Rattle.law_equations.proofs.MadeLemmas.PromiseLaws.{joined}
use Rattle.law_equations.proofs.MadeLemmas.LastLaws.{Alike, alike_value, Here, alike-all, flag-all, Remembering, remembered-made}
use Rattle.law_equations.proofs.MadeLemmas.SignatureLaws.{targets, targets_length, IsSignedAs, AreSigned, signed-made, targets_kept}
use Rattle.law_equations.proofs.MadeLemmas.BlockLayers.{Outer}
use Rattle.law_equations.proofs.MadeLemmas.BodyLaws.{body-made}

module _ (types : List TypeDecl) (outputs : List ℕ → List (List ℕ)) (k : Known) (knows : Knows types outputs k) (fill : Place → Value) (K : FlatName → Type 0) (n : Node) (inputs_once : DeclaredOnce n.inputs) (controls_once : DeclaredOnce (controls_of n.contract)) (outputs_once : DeclaredOnce n.outputs) where
  abbrev F : FlatName → Option Rows
  F = flatten types outputs fill n

  abbrev memory : Remembers F
  memory = record { keeps = K; first = λ w rs. refl; held = λ v p w rs. refl; nowhere = refl }

  abbrev as_input : List ℕ → FlatName
  as_input x = Input x

  abbrev as_output : List ℕ → FlatName
  as_output x = At (BodyOf ∷ Named x ∷ [])

  abbrev pub empty : Seen
  empty = (no_entry, nothing_made)

  abbrev pub with_inputs : Seen
  with_inputs = signed k n.inputs empty

  abbrev pub with_controls : Seen
  with_controls = signed k (controls_of n.contract) with_inputs

  abbrev pub with_outputs : Seen
  with_outputs = signed k n.outputs with_controls

  abbrev pub with_lasts : Seen
  with_lasts = remember_all k base_site unknown n.outputs with_outputs

  abbrev pub out : Sight
  out = over with_lasts.0 unknown

  pub ins : AreSigned as_input n.inputs empty with_inputs
  ins = signed-made k as_input n.inputs empty inputs_once

  pub mids : AreSigned as_input (controls_of n.contract) with_inputs with_controls
  mids = signed-made k as_input (controls_of n.contract) with_inputs controls_once

  outs : AreSigned as_output n.outputs with_controls with_outputs
  outs = signed-made k as_output n.outputs with_controls outputs_once

  here_outs : Here n.outputs with_outputs.0
  here_outs x q = let f = outs.own x q in (f.entry, f.is)

  pub no_eqns : with_outputs.1.eqns ≡ []
  no_eqns = outs.eqns ∙ mids.eqns ∙ ins.eqns

  defs_none : (y : ℕ) → defs with_outputs.1 y ≡ []
  defs_none y = ap (λ es. definitions es y) no_eqns

  -- ---- what names stand for around the body

  last_none : (x : List ℕ) → (over with_outputs.0 unknown x).last ≡ None
  last_none x = by (declares n.outputs x) (declares (controls_of n.contract) x) (declares n.inputs x) refl refl refl
    where
      by : (a b c : Bool) → declares n.outputs x ≡ a → declares (controls_of n.contract) x ≡ b → declares n.inputs x ≡ c → (or_entry (with_outputs.0 x) (unknown x)).last ≡ None
      by true b c e f g = let o = outs.own x e in ap (λ o. (or_entry o (unknown x)).last) o.is ∙ o.last
      by false true c e f g = let o = mids.own x f in ap (λ o. (or_entry o (unknown x)).last) (outs.others x e ∙ o.is) ∙ o.last
      by false false true e f g = let o = ins.own x g in ap (λ o. (or_entry o (unknown x)).last) (outs.others x e ∙ mids.others x f ∙ o.is) ∙ o.last
      by false false false e f g = ap (λ o. (or_entry o (unknown x)).last) (outs.others x e ∙ mids.others x f ∙ ins.others x g)

  -- what variables of the signature stand for
  abbrev Signs : (ℕ → FlatName) → Type 0
  Signs means = Agrees means 0 (targets as_input n.inputs) × Agrees means (next with_inputs.1) (targets as_input (controls_of n.contract)) × Agrees means (next with_controls.1) (targets as_output n.outputs)

  scope_value : (means : ℕ → FlatName) → Signs means → (x : List ℕ) → declares n.outputs x ≡ false → IsNamed means (over with_outputs.0 unknown x).value (node_scope n x)
  scope_value means s x e = by (declares n.inputs x) (declares (controls_of n.contract) x) refl refl
    where
      named : (o : Option Entry) (target : List ℕ → FlatName) (ds : List Decl) (m : ℕ) → Agrees means m (targets target ds) → IsSignedAs target ds m x o → IsNamed means (or_entry o (unknown x)).value (target x)
      named o target ds m a f = subst (λ u. IsNamed means u (target x)) (sym (ap (λ o. (or_entry o (unknown x)).value) f.is ∙ f.value)) (f.stands means a)

      by : (b c : Bool) → declares n.inputs x ≡ b → declares (controls_of n.contract) x ≡ c → IsNamed means (or_entry (with_outputs.0 x) (unknown x)).value (if b || c then Input x else Nowhere)
      by true true g f = subst (λ o. IsNamed means (or_entry o (unknown x)).value (Input x)) (sym (outs.others x e)) (named (with_controls.0 x) as_input (controls_of n.contract) (next with_inputs.1) s.1 (mids.own x f))
      by false true g f = subst (λ o. IsNamed means (or_entry o (unknown x)).value (Input x)) (sym (outs.others x e)) (named (with_controls.0 x) as_input (controls_of n.contract) (next with_inputs.1) s.1 (mids.own x f))
      by true false g f =
          subst (λ o. IsNamed means (or_entry o (unknown x)).value (Input x)) (sym (outs.others x e ∙ mids.others x f)) (named (with_inputs.0 x) as_input n.inputs 0 s.0 (ins.own x g))
      by false false g f =
          subst (λ o. IsNamed means (or_entry o (unknown x)).value Nowhere) (sym (outs.others x e ∙ mids.others x f ∙ ins.others x g)) refl

  output_value : (means : ℕ → FlatName) → Signs means → (x : List ℕ) → declares n.outputs x ≡ true → IsNamed means (over with_outputs.0 unknown x).value (At (BodyOf ∷ Named x ∷ []))
  output_value means s x q =
      let f = outs.own x q in
      subst (λ u. IsNamed means u (At (BodyOf ∷ Named x ∷ []))) (sym (ap (λ o. (or_entry o (unknown x)).value) f.is ∙ f.value)) (f.stands means s.2)

  like : (x : List ℕ) → Alike (with_outputs.0 x) (with_lasts.0 x)
  like x = alike-all types outputs k knows F memory base_site unknown in_body always [] n.outputs with_outputs here_outs x

  out_value : (x : List ℕ) → (out x).value ≡ (over with_outputs.0 unknown x).value
  out_value x = sym (alike_value (with_outputs.0 x) (with_lasts.0 x) (unknown x) (like x))

  -- variables that are signed make no equations
  names-signed : (target : List ℕ → FlatName) (ds : List Decl) (s r : Seen) → ((x : List ℕ) → IsKept K (target x)) → AreSigned target ds s r → Promised memory.keeps s.1 r.1 (λ means. Agrees means (next s.1) (targets target ds))
  names-signed target ds s r kept m =
      record {
        names = targets target ds;
        kept = targets_kept K target kept ds;
        grown = m.grown ∙ ap (λ l. next s.1 + l) (sym (targets_length target ds));
        labelled = λ means a. same-labelled means s.1.eqns r.1.eqns m.eqns;
        facts = λ means a. a;
      }

  signs : Promised memory.keeps nothing_made with_outputs.1 Signs
  signs =
      joined nothing_made with_inputs.1 with_outputs.1 (λ means. Agrees means 0 (targets as_input n.inputs))
      (λ means. Agrees means (next with_inputs.1) (targets as_input (controls_of n.contract)) × Agrees means (next with_controls.1) (targets as_output n.outputs)) Signs
      (names-signed as_input n.inputs empty with_inputs (λ x. tt) ins)
      (joined with_inputs.1 with_controls.1 with_outputs.1 (λ means. Agrees means (next with_inputs.1) (targets as_input (controls_of n.contract))) (λ means. Agrees means (next with_controls.1) (targets as_output n.outputs)) _
      (names-signed as_input (controls_of n.contract) with_inputs with_controls (λ x. tt) mids)
      (names-signed as_output n.outputs with_controls with_outputs (λ x. tt) outs)
      (λ means a b. (a, b)))
      (λ means a b. (a, b.0, b.1))

  -- ---- the body

  module _ (ds : List Decl) (es : Eqns) (body_is : n.body ≡ block ds es) (plain : IsPlain (block ds es))
      (defined : (x : List ℕ) → declares n.outputs x ≡ true → (some_defines es x ≡ true) × (declares ds x ≡ false))
      (others : (x : List ℕ) → Outer Body ds es x ≡ true → declares n.outputs x ≡ true)
      (ready : ReadyBlock k fill Body out base_site (block ds es) in_body with_lasts.1)
      (keep : LastsKept K types n.outputs in_body always [] × BlockKeeps K types fill (block ds es) (node_scope n) (node_lasts types n) in_body always []) where
    abbrev lasts : Scope
    lasts = lasts_at types n.outputs (λ x. Nowhere) in_body always []

    abbrev pub made : Sketch
    made = (sketch_block k Body out base_site (block ds es) with_lasts.1).1

    abbrev rows : List ℕ → Rows
    rows = flat_defined types outputs fill ds es (inside_at es (node_scope n) in_body) (lasts_at types ds lasts in_body always []) (below Equations in_body) always []

    cov : (p : Place) → F (At (in_body p)) ≡ flat_scope types outputs fill (block ds es) (node_scope n) lasts in_body always [] p
    cov p = ap (λ b. flat_scope types outputs fill b (node_scope n) lasts in_body always [] p) body_is

    in_body_injective : (p q : Place) → in_body p ≡ in_body q → p ≡ q
    in_body_injective p q h = cc

    is_outer : (x : List ℕ) → declares n.outputs x ≡ true → Outer Body ds es x ≡ true
    is_outer x q = let d = defined x q in ap₂ (λ a b. a && not b) d.0 d.1

    -- an outer variable is one of an output
    outer_low : (x : List ℕ) (y : ℕ) → Outer Body ds es x ≡ true → (out x).value ≡ Some y → y < next with_outputs.1
    outer_low x y q v =
        let f = outs.own x (others x q) in
        let same : Some f.variable ≡ Some y = sym (out_value x ∙ ap (λ o. (or_entry o (unknown x)).value) f.is ∙ f.value) ∙ v in
        let same' : f.variable ≡ y = cc in
        let l = f.below in let g = outs.grown in
        omega (arith, same', l, g)

    -- what names stand for in the body
    abbrev pub inside : Sight
    inside = over (sketch_block k Body out base_site (block ds es) with_lasts.1).0 out

    -- What is promised of a node: behind its inputs and controllable variables each variable is done, and the names that the body defines have variables.
    pub record NodeMade (means : ℕ → FlatName) : Type 0 where
      pub signs : Signs means
      pub done : (y : ℕ) → next with_controls.1 ≤ y → y < next made → IsDone F means made y
      pub inputs : (y : ℕ) → y < next with_controls.1 → defs made y ≡ []
      pub bounded : IsBounded made
      pub named : (x : List ℕ) → some_defines es x ≡ true → IsNamed means (inside x).value (At (BodyOf ∷ Named x ∷ []))

    module _ (means : ℕ → FlatName) (s : Signs means) (l : Steps F means with_outputs.1 with_lasts.1) (m : EqnsMade F means out (Outer Body ds es) rows with_lasts.1 made always [])
        (sees : (x : List ℕ) → IsNamed means (inside x).value (inside_at es (node_scope n) in_body x)) where
      none_before : (y : ℕ) → y < next with_outputs.1 → defs with_lasts.1 y ≡ []
      none_before y q = l.kept y q ∙ defs_none y

      output_done : (y : ℕ) → next with_controls.1 ≤ y → y < next with_outputs.1 → IsDone F means made y
      output_done y p q =
          let f = outs.each y p q in
          let v : (out f.0).value ≡ Some y = out_value f.0 ∙ ap (λ o. (or_entry o (unknown f.0)).value) f.3 ∙ f.4 in
          let o = is_outer f.0 f.1 in
          let g = l.grown in
          let r : AreRows means (defs made y) (rows f.0) = m.own f.0 o y (omega (arith, q, g)) v [] (subst (λ ds. AreRows means ds []) (sym (none_before y q)) tt) in
          let at : means y ≡ At (BodyOf ∷ Named f.0 ∷ []) = subst (λ u. IsNamed means u (At (BodyOf ∷ Named f.0 ∷ []))) (sym (out_value f.0) ∙ v) (output_value means s f.0 f.1) in
          let d = defined f.0 f.1 in
          subst (λ o. StandFor means (defs made y) (means y) o) (sym (ap F at ∙ cov (Named f.0 ∷ []) ∙ ap (λ c. if c then Some (rows f.0) else None) d.0)) r

      lasts_done : (y : ℕ) → next with_outputs.1 ≤ y → y < next with_lasts.1 → IsDone F means made y
      lasts_done y p q =
          subst (λ ds. StandFor means ds (means y) (F (means y)))
          (sym (m.kept y q (λ x o v. absurd (let t = outer_low x y o v in omega (arith, t, p))))) (l.done y p q)

      all_done : (y : ℕ) → next with_controls.1 ≤ y → y < next made → (y < next with_outputs.1) ⊎ (next with_outputs.1 ≤ y) → (y < next with_lasts.1) ⊎ (next with_lasts.1 ≤ y) → IsDone F means made y
      all_done y p q (inl h) g = output_done y p h
      all_done y p q (inr h) (inl g) = lasts_done y h g
      all_done y p q (inr h) (inr g) = m.done y g q

      outer_above : (x : List ℕ) (y : ℕ) → y < next with_controls.1 → Outer Body ds es x ≡ true → (out x).value ≡ Some y → ⊥
      outer_above x y q o v =
          let f = outs.own x (others x o) in
          let same : Some f.variable ≡ Some y = sym (out_value x ∙ ap (λ o. (or_entry o (unknown x)).value) f.is ∙ f.value) ∙ v in
          let same' : f.variable ≡ y = cc in
          let a = f.above in
          absurd (omega (arith, same', q, a))

      node_done : NodeMade means
      node_done =
          record {
            signs = s;
            done = λ y p q. all_done y p q (split_at y (next with_outputs.1)) (split_at y (next with_lasts.1));
            inputs = λ y q.
                let g = outs.grown in let h = l.grown in
                m.kept y (omega (arith, q, g, h)) (λ x o v. outer_above x y q o v) ∙ none_before y (omega (arith, q, g));
            bounded = m.bounded;
            named = λ x q. subst (IsNamed means (inside x).value) (ap (λ b. if b then At (BodyOf ∷ Named x ∷ []) else node_scope n x) q) (sees x);
          }

    pub node-made : Promises memory.keeps nothing_made made (block_labels outputs (block ds es) in_body) NodeMade
    node-made =
        joined nothing_made with_outputs.1 made Signs
        (λ means. Signs means → NodeMade means) _ signs
        (joined with_outputs.1 with_lasts.1 made (Remembering types outputs k knows F memory base_site unknown in_body always [] n.outputs (λ x. Nowhere) with_outputs with_lasts)
        _ _ (remembered-made types outputs k knows F memory base_site unknown in_body always [] n.outputs (λ x. Nowhere) with_outputs outputs_once here_outs keep.0)
        (body-made types outputs k knows fill F memory ds es out (node_scope n) lasts base_site in_body always [] with_lasts.1 plain (omega arith) cov ready keep.1 in_body_injective)
        (λ means r b s.
        let l = r (λ y q. defs_none y) (record { clock = tt; restart = refl }) (λ x q. output_value means s x q) (λ x. subst (λ o. IsNamed means o Nowhere) (sym (last_none x)) refl) in
        let low = l.0.grown in
        let m = b
        (record {
          bounded = l.0.bounded;
          site = record { clock = tt; restart = refl };
          values = λ x q. subst (λ o. IsNamed means o (node_scope n x)) (sym (out_value x)) (scope_value means s x (not_output x (declares n.outputs x) refl q));
          lasts = l.1;
          outer = λ x q. subst (λ o. IsNamed means o (At (BodyOf ∷ Named x ∷ []))) (sym (out_value x)) (output_value means s x (others x q));
        })
        (subst (λ f. IsFlagged means f always []) (sym flag_none) tt)
        (λ x y q v. let t = outer_low x y q v in omega (arith, t, low)) in
        let layer = m.0 in
        node_done means s l.0 m.1 (λ x. (layer.sees x).0)))
        (λ means s g. g s)
      where
        flag_none : with_lasts.1.flag ≡ None
        flag_none = flag-all types outputs k knows F memory base_site unknown in_body always [] n.outputs with_outputs ∙ outs.flag ∙ mids.flag ∙ ins.flag

        not_output : (x : List ℕ) (b : Bool) → declares n.outputs x ≡ b → some_defines es x ≡ false → declares n.outputs x ≡ false
        not_output x false e q = e
        not_output x true e q = let no : true ≡ false = sym (defined x e).0 ∙ q in absurd cc
