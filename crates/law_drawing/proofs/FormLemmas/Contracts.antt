-- What is drawn of contracts, and of those of nodes that are called.
use Rattle.std.proofs.Common.{◌≡◌, ◌⊎◌, ℕ, suc, ◌+◌, Bool, true, false, List, [], ◌∷◌, Option, None, Some, refl, sym, ap, subst, ◌∙◌, inl, inr, arith}
use Rattle.std.specs.Prelude.{is_some}
use Rattle.std.specs.Str.{bytes_eq}
use Rattle.std.proofs.lemmas.Option.{same_Some, none-some}
use Rattle.hp_base.specs.declared.ty.Ty.{Ty}
use Rattle.hp_base.specs.declared.ty.Ty.TheVariants as ty
use Rattle.hp_tree.specs.Blocks.{Decl, Block, block}
use Rattle.hp_tree.specs.Expressions.{Expr}
use Rattle.hp_tree.specs.Meaning.{declares}
use Rattle.hp_tree.specs.Programs.{TypeDecl, Contract, Node}
use Rattle.hp_base.specs.Known.Known.{lookup}
use Rattle.hp_typing.specs.Scopes.{inside}
use Rattle.law_judged.specs.Typed.Scopes.{Scope as TypeScope}
use Rattle.law_values.specs.Valued.Judged.{Lasts, lasts_in, lasts_of, no_lasts, HaveOwnTypes, ToldSound, ContractSound, IsPlain}
use Rattle.law_values.specs.Filled.Firsts.{BlockHasFirsts}
use Rattle.hp_circuit.specs.declared.circuit.Shape.TheVariants.{Truth}
use Rattle.hp_circuit.specs.Forms.{IsShape}
use Rattle.hp_drawing.specs.declared.parts.Entry.{Entry}
use Rattle.hp_drawing.specs.declared.parts.Place.{Place}
use Rattle.hp_drawing.specs.Told.{Told, type_shape, or_none}
use Rattle.hp_drawing.specs.Sketch.{Sketch, not_gate, and_gate, or_gate, with_hyp, with_duty, with_assume, with_hyp_drawn, with_duty_drawn, hyp_of, duty_of, add_told, add_call, finish}
use Rattle.hp_drawing.specs.Scopes.{Scope, Layer, entry_at, entry_in, add, value_by, wire_by, shape_by, or_found, value_in, last_in, shapes_in, add_lasts, push_values, push_lasts}
use Rattle.hp_drawing.specs.DrawnExpressions.{Brings}
use Rattle.hp_drawing.specs.DrawnBlocks.{drawn_block}
use Rattle.hp_drawing.specs.DrawnNodes.{put_from, contract_layer, scope_over, contract_scope, drawn_told, drawn_contract, no_brings}
use Rattle.law_drawing.specs.Carrying.Drawable.{BlockDrawable}
use Rattle.law_drawing.proofs.CarryingLemmas.Layers.{same-name, self-name, Knows, knows-add, knows-added, or-cases}
use Rattle.law_drawing.proofs.CarryingLemmas.Own.{AllEntries}
use Rattle.law_drawing.proofs.FormLemmas.Views.{Has, view_of, grows-none, IsFormed, Step, still, onward, has-on}
use Rattle.law_drawing.proofs.FormLemmas.Steps.{not-step, and-step, or-step}
use Rattle.law_drawing.proofs.FormLemmas.Parts.{IsPlaced, placed-on}
use Rattle.law_drawing.proofs.FormLemmas.Values.{Carried, AreCounted, none_lacks, AreSeen, IsAt, at-on}
use Rattle.law_drawing.proofs.FormLemmas.Calls.{AreShapes, AreRow, AreCalled}
use Rattle.law_drawing.proofs.FormLemmas.Expressions.{expr}
use Rattle.law_drawing.proofs.FormLemmas.Definitions.{or-first, or-further}
use Rattle.law_drawing.proofs.FormLemmas.Entering.{entries-add, declared-shape, IsLast, AreWires, AreFirst, lasts-step, lasts-known}
use Rattle.law_drawing.proofs.FormLemmas.Bodies.{counted-inside}
use Rattle.law_drawing.proofs.FormLemmas.Blocks.{FirstsFit, block-drawn}

-- ---- what may be supposed, and what is owed

hyp-step : (P : List ℕ) (w : ℕ) (s : Sketch) → IsFormed P s → Has s.shapes w Truth → Step P s (with_hyp w s)
unfolding with_hyp
hyp-step P w s a h = record {
  grows = grows-none (view_of s);
  formed = record { wires = a.wires; shaped = a.shaped; slots = a.slots; reads = a.reads; clocks = a.clocks; low_is = a.low_is; high_is = a.high_is; assume_is = a.assume_is; hyp_is = h; duty_is = a.duty_is };
}

duty-step : (P : List ℕ) (w : ℕ) (s : Sketch) → IsFormed P s → Has s.shapes w Truth → Step P s (with_duty w s)
unfolding with_duty
duty-step P w s a h = record {
  grows = grows-none (view_of s);
  formed = record { wires = a.wires; shaped = a.shaped; slots = a.slots; reads = a.reads; clocks = a.clocks; low_is = a.low_is; high_is = a.high_is; assume_is = a.assume_is; hyp_is = a.hyp_is; duty_is = h };
}

assume-step : (P : List ℕ) (w : ℕ) (s : Sketch) → IsFormed P s → Has s.shapes w Truth → Step P s (with_assume w s)
unfolding with_assume
assume-step P w s a h = record {
  grows = grows-none (view_of s);
  formed = record { wires = a.wires; shaped = a.shaped; slots = a.slots; reads = a.reads; clocks = a.clocks; low_is = a.low_is; high_is = a.high_is; assume_is = h; hyp_is = a.hyp_is; duty_is = a.duty_is };
}

hyp-truth : (P : List ℕ) (s : Sketch) → IsFormed P s → Has s.shapes (hyp_of s) Truth
unfolding hyp_of
hyp-truth P s a = a.hyp_is

duty-truth : (P : List ℕ) (s : Sketch) → IsFormed P s → Has s.shapes (duty_of s) Truth
unfolding duty_of
duty-truth P s a = a.duty_is

told-two : (P : List ℕ) (supposed owed : ℕ) (s : Sketch) → IsFormed P s → Has s.shapes supposed Truth → Has s.shapes owed Truth → Step P s (add_told supposed owed s)
unfolding add_told
told-two P supposed owed s a h k =
    let d = and_gate (hyp_of s) supposed s in
    let x = and-step P (hyp_of s) supposed s a (hyp-truth P s a) h in
    let s1 = with_hyp_drawn d in
    let y = onward P P s d.1 s1 x.0 (hyp-step P d.0 d.1 x.0.formed x.1) in
    let e = and_gate (duty_of s1) owed s1 in
    let z = and-step P (duty_of s1) owed s1 y.formed (duty-truth P s1 y.formed) (has-on P s s1 owed Truth y k) in
    onward P P s s1 (with_duty_drawn e) y (onward P P s1 e.1 (with_duty_drawn e) z.0 (duty-step P e.0 e.1 z.0.formed z.1))

pub call-told : (P : List ℕ) (here assume enforce : ℕ) (s : Sketch) → IsFormed P s → Has s.shapes here Truth → Has s.shapes assume Truth → Has s.shapes enforce Truth → Step P s (add_call here assume enforce s)
unfolding add_call
call-told P here assume enforce s a h k l =
    let away = not_gate here s in
    let u = not-step P here s a h in
    let unassumed = not_gate assume away.1 in
    let v = not-step P assume away.1 u.0.formed (has-on P s away.1 assume Truth u.0 k) in
    let to_v = onward P P s away.1 unassumed.1 u.0 v.0 in
    let kept = or_gate unassumed.0 enforce unassumed.1 in
    let w = or-step P unassumed.0 enforce unassumed.1 v.0.formed v.1 (has-on P s unassumed.1 enforce Truth to_v l) in
    let away_kept = onward P P away.1 unassumed.1 kept.1 v.0 w.0 in
    let supposed = or_gate away.0 kept.0 kept.1 in
    let x = or-step P away.0 kept.0 kept.1 w.0.formed (has-on P away.1 kept.1 away.0 Truth away_kept u.1) w.1 in
    let from_away = onward P P away.1 kept.1 supposed.1 away_kept x.0 in
    let owed = or_gate away.0 assume supposed.1 in
    let y = or-step P away.0 assume supposed.1 x.0.formed (has-on P away.1 supposed.1 away.0 Truth from_away u.1) (has-on P s supposed.1 assume Truth (onward P P s away.1 supposed.1 u.0 from_away) k) in
    let z = told-two P supposed.0 owed.0 owed.1 y.0.formed (has-on P supposed.1 owed.1 supposed.0 Truth y.0 x.1) y.1 in
    onward P P s owed.1 (add_told supposed.0 owed.0 owed.1) (onward P P s supposed.1 owed.1 (onward P P s away.1 supposed.1 u.0 from_away) y.0) z

pub finish-step : (P : List ℕ) (assume enforce : ℕ) (s : Sketch) → IsFormed P s → Has s.shapes assume Truth → Has s.shapes enforce Truth → Step P s (finish assume enforce s)
unfolding finish
finish-step P assume enforce s a h k =
    let s1 = with_assume assume s in
    let x = assume-step P assume s a h in
    let d = and_gate assume (hyp_of s1) s1 in
    let u = and-step P assume (hyp_of s1) s1 x.formed (has-on P s s1 assume Truth x h) (hyp-truth P s1 x.formed) in
    let s2 = with_hyp_drawn d in
    let y = onward P P s1 d.1 s2 u.0 (hyp-step P d.0 d.1 u.0.formed u.1) in
    let to_s2 = onward P P s s1 s2 x y in
    let e = and_gate enforce (duty_of s2) s2 in
    let v = and-step P enforce (duty_of s2) s2 y.formed (has-on P s s2 enforce Truth to_s2 k) (duty-truth P s2 y.formed) in
    onward P P s s2 (with_duty_drawn e) to_s2 (onward P P s2 e.1 (with_duty_drawn e) v.0 (duty-step P e.0 e.1 v.0.formed v.1))

-- ---- layers of declared names

module _ (types : List TypeDecl) (among : List ℕ → Option Node) (t : Told) (ts : TypeScope) (lacks : List ℕ → Bool) where
  -- what a layer says of a name: it carries its type, and has a wire but where it lacks one
  abbrev pub IsSaid : Sketch → List ℕ → Entry → Type 0
  IsSaid s x e = (u : Ty) → lookup ts.variables x ≡ Some u → (e.shape ≡ type_shape t u) × (lacks x ≡ false → Has s.shapes (or_none e.wire) (type_shape t u))

  pub said-on : (P : List ℕ) (s s' : Sketch) (l : Layer) → Step P s s' → AllEntries (IsSaid s) l → AllEntries (IsSaid s') l
  said-on P s s' l st h x e q u k = let i = h x e q u k in (i.0, λ n. has-on P s s' (or_none e.wire) (type_shape t u) st (i.1 n))

  pub row-said : (s : Sketch) (first k : ℕ) (ds : List Decl) (l : Layer) → HaveOwnTypes types among ts ds → AreRow t s (first + k) ds → AllEntries (IsSaid s) l → AllEntries (IsSaid s) (put_from t first k ds l)
  row-said s first k [] l o r h = h
  row-said s first k (d ∷ ds) l o r h =
      let e = entry_at (first + k) (type_shape t d.ty) in
      row-said s first (k + 1) ds (add l d.name e) o.1 (subst (λ w. AreRow t s w ds) (let z : suc (first + k) ≡ first + (k + 1) = omega arith in z) r.1)
      (entries-add (IsSaid s) l d.name e h (λ u q. let i = same_Some d.ty u (sym o.0 ∙ q) in (ap (type_shape t) i, λ n. subst (λ w. Has s.shapes (first + k) (type_shape t w)) i r.0)))

  pub row-more : (first k : ℕ) (ds : List Decl) (l : Layer) (x : List ℕ) → Knows l x → Knows (put_from t first k ds l) x
  row-more first k [] l x h = h
  row-more first k (d ∷ ds) l x h = row-more first (k + 1) ds (add l d.name (entry_at (first + k) (type_shape t d.ty))) x (knows-add l d.name (entry_at (first + k) (type_shape t d.ty)) x h)

  pub row-known : (first k : ℕ) (ds : List Decl) (l : Layer) (x : List ℕ) → declares ds x ≡ true → Knows (put_from t first k ds l) x
  row-known first k [] l x h = absurd cc
  row-known first k (d ∷ ds) l x h =
      let e = entry_at (first + k) (type_shape t d.ty) in
      or-cases (bytes_eq d.name x) (declares ds x) h (λ b. row-more first (k + 1) ds (add l d.name e) x (subst (Knows (add l d.name e)) (same-name d.name x b) (knows-added l d.name e))) (λ b. row-known first (k + 1) ds (add l d.name e) x b)

  value-of : (s : Sketch) (l : Layer) (x : List ℕ) (u : Ty) → AllEntries (IsSaid s) l → Knows l x → lookup ts.variables x ≡ Some u → lacks x ≡ false → Carried s (value_by (or_found (entry_in l x) None)) (type_shape t u)
  value-of s l x u h k e n = by (entry_in l x) refl k
    where
      by : (o : Option Entry) → entry_in l x ≡ o → is_some o ≡ true → Carried s (value_by (or_found o None)) (type_shape t u)
      by None q k = absurd cc
      by (Some i) q k = let j = h x i q u e in (j.0, j.1 n)

  shape-of : (s : Sketch) (l : Layer) (x : List ℕ) (u : Ty) → AllEntries (IsSaid s) l → Knows l x → lookup ts.variables x ≡ Some u → shape_by (or_found (entry_in l x) None) ≡ type_shape t u
  shape-of s l x u h k e = by (entry_in l x) refl k
    where
      by : (o : Option Entry) → entry_in l x ≡ o → is_some o ≡ true → shape_by (or_found o None) ≡ type_shape t u
      by None q k = absurd cc
      by (Some i) q k = (h x i q u e).0

  last-of : (s : Sketch) (l : Layer) (x : List ℕ) → AllEntries (IsLast types among t ts s) l → Knows l x → (u : Ty) × (lookup ts.variables x ≡ Some u) × Carried s (value_by (or_found (entry_in l x) None)) (type_shape t u)
  last-of s l x h k = by (entry_in l x) refl k
    where
      by : (o : Option Entry) → entry_in l x ≡ o → is_some o ≡ true → (u : Ty) × (lookup ts.variables x ≡ Some u) × Carried s (value_by (or_found o None)) (type_shape t u)
      by None q k = absurd cc
      by (Some i) q k = let j = h x i q in (j.1, j.2, (j.3, subst (λ p. Has s.shapes (or_none i.wire) p) j.3 j.0))

  -- a scope of two layers
  pub layers-seen : (s : Sketch) (has_last : Lasts) (values lasts : Layer) → AllEntries (IsSaid s) values → AllEntries (IsLast types among t ts s) lasts → ((x : List ℕ) (u : Ty) → lookup ts.variables x ≡ Some u → Knows values x × IsShape (type_shape t u)) → ((x : List ℕ) → has_last x ≡ true → Knows lasts x)
      → AreSeen t ts has_last lacks (scope_over values lasts) s
  unfolding value_in last_in shapes_in push_values push_lasts
  layers-seen s has_last values lasts h k known lasting = record {
    known = λ x u e. (known x u e).1;
    shapes = λ x u e. shape-of s values x u h (known x u e).0 e;
    values = λ x u e n. value-of s values x u h (known x u e).0 e n;
    lasts = λ x q. last-of s lasts x k (lasting x q);
  }

-- ---- what a contract sees

module _ (types : List TypeDecl) (among : List ℕ → Option Node) (t : Told) (ts : TypeScope) where
  -- A node whose inputs and outputs have their types in the scope, which has no others.
  pub record HasRows (n : Node) : Type 0 where
    pub inputs : HaveOwnTypes types among ts n.inputs
    pub outputs : HaveOwnTypes types among ts n.outputs
    pub inputs_fit : AreShapes t n.inputs
    pub outputs_fit : AreShapes t n.outputs
    pub firsts : AreFirst types among t ts n.outputs
    pub only : (x : List ℕ) (u : Ty) → lookup ts.variables x ≡ Some u → (declares n.inputs x ≡ true) ⊎ (declares n.outputs x ≡ true)

  abbrev pub output_lasts : Node → Lasts
  output_lasts n x = lasts_in n.outputs no_lasts x

  row-wires : (s : Sketch) (l : Layer) (ds : List Decl) → AllEntries (IsSaid types among t ts none_lacks s) l → ((x : List ℕ) → declares ds x ≡ true → Knows l x) → HaveOwnTypes types among ts ds → AreWires types among t ts s l ds
  row-wires s l [] h k o = tt
  row-wires s l (d ∷ ds) h k o = (by (entry_in l d.name) refl (k d.name (or-first (bytes_eq d.name d.name) (declares ds d.name) (self-name d.name))), row-wires s l ds h (λ x q. k x (or-further (bytes_eq d.name x) (declares ds x) q)) o.1)
    where
      by : (e : Option Entry) → entry_in l d.name ≡ e → is_some e ≡ true → Has s.shapes (or_none (wire_by e)) (type_shape t d.ty)
      by None q n = absurd cc
      by (Some e) q n = (h d.name e q d.ty o.0).1 refl

  pub contract-scope-step : (counted : AreCounted types t ts) (P : List ℕ) (place : Place) (n : Node) (inputs outputs : ℕ) (s : Sketch) → HasRows n → IsFormed P s → IsPlaced s place → AreRow t s inputs n.inputs → AreRow t s outputs n.outputs
      → (let d = contract_scope t place n inputs outputs s in Step P s d.1 × AreSeen t ts (output_lasts n) none_lacks d.0 d.1)
  unfolding contract_scope
  contract-scope-step counted P place n inputs outputs s R a p i o =
      let front = put_from t inputs 0 n.inputs [] in
      let layer = contract_layer t n inputs outputs in
      let zero_sum : (k : ℕ) → k ≡ k + 0 = λ k. (let z : k ≡ k + 0 = omega arith in z) in
      let h1 = row-said types among t ts none_lacks s inputs 0 n.inputs [] R.inputs (subst (λ w. AreRow t s w n.inputs) (zero_sum inputs) i) (λ x e q. absurd (none-some e q)) in
      let h = row-said types among t ts none_lacks s outputs 0 n.outputs front R.outputs (subst (λ w. AreRow t s w n.outputs) (zero_sum outputs) o) h1 in
      let of_outputs : (x : List ℕ) → declares n.outputs x ≡ true → Knows layer x = λ x q. row-known types among t ts none_lacks outputs 0 n.outputs front x q in
      let of_inputs : (x : List ℕ) → declares n.inputs x ≡ true → Knows layer x = λ x q. row-more types among t ts none_lacks outputs 0 n.outputs front x (row-known types among t ts none_lacks inputs 0 n.inputs [] x q) in
      let c = lasts-step types among t ts counted P place n.outputs layer [] s a p R.outputs_fit R.firsts R.outputs (row-wires s layer n.outputs h of_outputs R.outputs) (λ x e q. absurd (none-some e q)) in
      let lasts = add_lasts t place n.outputs layer [] s in (
        c.0,
        layers-seen types among t ts none_lacks lasts.1 (output_lasts n) layer lasts.0 (said-on types among t ts none_lacks P s lasts.1 layer c.0 h) c.1
            (λ x u e. elim (R.only x u e) [ inl q ↦ (of_inputs x q, declared-shape t types among ts n.inputs x u R.inputs R.inputs_fit q e) | inr q ↦ (of_outputs x q, declared-shape t types among ts n.outputs x u R.outputs R.outputs_fit q e) ])
            (λ x q. elim (lasts-known types among t ts no_lasts place n.outputs layer [] s x (inr q)) [ inl k ↦ k | inr k ↦ absurd (let z : false ≡ true = k in cc) ]),
      )

-- ---- contracts

module _ (types : List TypeDecl) (among : List ℕ → Option Node) (t : Told) (brings : Brings) (calls : AreCalled t brings among) (F : FirstsFit types t) where
  told-step : (o : Option Expr) (ts : TypeScope) (has_last : Lasts) (counted : AreCounted types t ts) (z : Scope) (place : Place) (P : List ℕ) (s : Sketch) → ToldSound types among ts has_last o → IsAt t ts has_last none_lacks z P s place
      → (let d = drawn_told t brings z place o s in Step P s d.1 × Has d.1.shapes d.0 Truth)
  told-step None ts has_last counted z place P s ok at = (still P s at.formed, at.formed.high_is)
  told-step (Some e) ts has_last counted z place P s ok at = let x = expr types among t brings calls ts has_last counted z e ty.Bool ok.0 ok.1 place P s at in (x.0, x.1.1)

  inside-counted : (b : Block) (ts : TypeScope) → AreCounted types t ts → AreCounted types t (inside ts b)
  inside-counted (block ds es) ts k = counted-inside types t ts ds k

  pub contract-step : (c : Contract) (ts : TypeScope) (has_last : Lasts) (z : Scope) (place : Place) (P : List ℕ) (s : Sketch) → AreCounted types t ts → ContractSound types among ts has_last (Some c) → BlockDrawable ts c.body → IsPlain c.body → BlockHasFirsts types c.body → IsAt t ts has_last none_lacks z P s place
      → (let d = drawn_contract t brings z place c s in Step P s d.1 × Has d.1.shapes d.0.assume Truth × Has d.1.shapes d.0.enforce Truth)
  contract-step c ts has_last z place P s counted ok can plain first at =
      let inner = inside ts c.body in
      let lasting = lasts_of c.body has_last in
      let counted1 = inside-counted c.body ts counted in
      let d = drawn_block t brings z place c.body s in
      let x = block-drawn types among t brings calls F c.body plain first ts has_last none_lacks z place P s counted ok.0 can (λ y l. absurd (let k : false ≡ true = l in cc)) at in
      let at1 : IsAt t inner lasting none_lacks d.0 P d.1 place = record { formed = x.0.formed; placed = placed-on P s d.1 place x.0 at.placed; seen = x.1 } in
      let assume = drawn_told t brings d.0 place c.assume d.1 in
      let y = told-step c.assume inner lasting counted1 d.0 place P d.1 ok.1.0 at1 in
      let at2 = at-on t inner lasting none_lacks d.0 P P d.1 assume.1 place at1 y.0 in
      let enforce = drawn_told t brings d.0 place c.enforce assume.1 in
      let w = told-step c.enforce inner lasting counted1 d.0 place P assume.1 ok.1.1 at2 in
      (onward P P s d.1 enforce.1 x.0 (onward P P d.1 assume.1 enforce.1 y.0 w.0), has-on P assume.1 enforce.1 assume.0 Truth w.0 y.1, w.1)

-- ---- the contracts of nodes that are called, in which what is called brings nothing

pub nothing-brought : (t : Told) (brings : Brings) (among : List ℕ → Option Node) → AreCalled t brings among → AreCalled t no_brings among
nothing-brought t brings among K = record { told = K.told; inputs = K.inputs; outputs = K.outputs; brought = λ f n e P spot c s a p k. still P s a }
