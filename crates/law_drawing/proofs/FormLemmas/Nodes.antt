-- What is drawn of a node, behind the contracts of the nodes that it calls.
use Rattle.std.proofs.Common.{◌≡◌, ◌⊎◌, ℕ, Bool, true, false, if◌then◌else◌, List, [], ◌∷◌, Option, None, Some, refl, sym, subst, ◌∙◌, inl, inr}
use Rattle.std.specs.Prelude.{⊤}
use Rattle.std.specs.Str.{bytes_eq}
use Rattle.std.proofs.lemmas.Option.{none-some}
use Rattle.hp_base.specs.declared.ty.Ty.{Ty}
use Rattle.hp_tree.specs.declared.program.Item.{Item}
use Rattle.hp_tree.specs.declared.program.Item.TheVariants.{TypeItem, NodeItem}
use Rattle.hp_tree.specs.Blocks.{Decl}
use Rattle.hp_tree.specs.Meaning.{declares, node_among}
use Rattle.hp_tree.specs.Programs.{TypeDecl, Contract, Node}
use Rattle.hp_base.specs.Known.Known.{lookup}
use Rattle.hp_typing.specs.Scopes.{with_variables, inside_node}
use Rattle.law_judged.specs.Typed.Scopes.{Scope as TypeScope}
use Rattle.law_values.specs.Valued.Judged.{Lasts, lasts_in, no_lasts, HaveEquations, ContractSound, NodeSound, IsPlain, PlainContract}
use Rattle.law_values.specs.Valued.Values.{scope_behind}
use Rattle.law_values.proofs.ValuedLemmas.Scoped.{not_declared}
use Rattle.law_values.proofs.ValuedLemmas.Typed.{some_is}
use Rattle.law_values.specs.Filled.Firsts.{ContractHasFirsts, NodeHasFirsts}
use Rattle.hp_circuit.specs.declared.circuit.Shape.TheVariants.{Truth}
use Rattle.hp_drawing.specs.declared.parts.Callee.{Callee}
use Rattle.hp_drawing.specs.declared.parts.Place.{Place}
use Rattle.hp_drawing.specs.Told.{Told}
use Rattle.hp_drawing.specs.Sketch.{Sketch, add_call}
use Rattle.hp_drawing.specs.Places.{called_at}
use Rattle.hp_drawing.specs.DrawnNodes.{contract_scope, no_brings, contracts, drawn_contract, drawn_called, drawn_called_if}
use Rattle.law_drawing.specs.Carrying.Drawable.{ContractDrawable, NodeDrawable}
use Rattle.law_drawing.proofs.FormLemmas.Views.{IsFormed, Step, still, onward, has-on}
use Rattle.law_drawing.proofs.FormLemmas.Parts.{IsPlaced, placed-on, called-step}
use Rattle.law_drawing.proofs.FormLemmas.Values.{AreCounted}
use Rattle.law_drawing.proofs.FormLemmas.Calls.{AreShapes, holes-row, IsCallee, callee-on, AreCalled}
use Rattle.law_drawing.proofs.FormLemmas.Entering.{AreFirst}
use Rattle.law_drawing.proofs.FormLemmas.Bodies.{counted-inside}
use Rattle.law_drawing.proofs.FormLemmas.Blocks.{FirstsFit, decls-fit}
use Rattle.law_drawing.proofs.FormLemmas.Contracts.{call-told, HasRows, contract-scope-step, contract-step, nothing-brought}

-- ---- the scope before a node has no variables

pub no-variables : (items : List Item) (x : List ℕ) → lookup (scope_behind items).variables x ≡ None
no-variables [] x = refl
no-variables (TypeItem d ∷ items) x = no-variables items x
no-variables (NodeItem n ∷ items) x = no-variables items x

-- What is known of a node behind some items: it is judged, it can be drawn, and the tables tell the nodes that it may call.
pub record IsReady (types : List TypeDecl) (t : Told) (items : List Item) (n : Node) : Type 0 where
  pub sound : NodeSound types (node_among items) (scope_behind items) n
  pub plain : IsPlain n.body
  pub plain_contract : PlainContract n.contract
  pub drawable : NodeDrawable (scope_behind items) n
  pub firsts : NodeHasFirsts types n
  pub counted : AreCounted types t (scope_behind items)
  pub told : (f : List ℕ) (m : Node) → node_among items f ≡ Some m → t.nodes f ≡ Some m

abbrev pub AllReady : List TypeDecl → Told → List Item → Type 0
AllReady types t [] = ⊤
AllReady types t (TypeItem d ∷ items) = AllReady types t items
AllReady types t (NodeItem n ∷ items) = IsReady types t items n × AllReady types t items

module _ (types : List TypeDecl) (t : Told) (F : FirstsFit types t) where
  module _ (items : List Item) (n : Node) (r : IsReady types t items n) where
    abbrev around : TypeScope
    around = scope_behind items

    abbrev own : TypeScope
    own = inside_node around n

    pub own-counted : AreCounted types t own
    own-counted = counted-inside types t (with_variables around n.inputs) n.outputs (counted-inside types t around n.inputs r.counted)

    equations-first : (ds : List Decl) → HaveEquations types (node_among items) n.body ds → AreFirst types (node_among items) t own ds
    equations-first [] h = tt
    equations-first (d ∷ ds) h = (h.0.1, equations-first ds h.1)

    only-rows : (x : List ℕ) (u : Ty) → lookup own.variables x ≡ Some u → (declares n.inputs x ≡ true) ⊎ (declares n.outputs x ≡ true)
    only-rows x u e = outputs (declares n.outputs x) refl
      where
        inputs : (b : Bool) → declares n.inputs x ≡ b → lookup (with_variables around n.inputs).variables x ≡ Some u → b ≡ true
        inputs true q e = refl
        inputs false q e = let k : None ≡ Some u = sym (no-variables items x) ∙ sym (not_declared x n.inputs around q) ∙ e in absurd (none-some u k)

        outputs : (b : Bool) → declares n.outputs x ≡ b → (declares n.inputs x ≡ true) ⊎ (declares n.outputs x ≡ true)
        outputs true q = inr q
        outputs false q = inl (inputs (declares n.inputs x) refl (sym (not_declared x n.outputs (with_variables around n.inputs) q) ∙ e))

    pub has-rows : HasRows types (node_among items) t own n
    has-rows = record {
      inputs = r.sound.0.0;
      outputs = r.sound.0.1;
      inputs_fit = decls-fit types t F n.inputs r.firsts.inputs;
      outputs_fit = decls-fit types t F n.outputs r.firsts.outputs;
      firsts = equations-first n.outputs r.sound.1.1.1.0;
      only = only-rows;
    }

    abbrev lasting : Lasts
    lasting x = lasts_in n.outputs no_lasts x

    -- the contract of the node where it is called
    brought-step : AreCalled t no_brings (node_among items) → (c : Contract) → n.contract ≡ Some c → (P : List ℕ) (spot : Place) (callee : Callee) (s : Sketch) → IsFormed P s → IsPlaced s spot → IsCallee t s n callee → Step P s (drawn_called t spot n c callee s)
    brought-step K c e P spot callee s a p k =
        let inside = called_at spot s in
        let x = called-step P spot s a p in
        let k1 = callee-on t P s inside.1 n callee x.0 k in
        let z = contract_scope t inside.0 n callee.inputs callee.outputs inside.1 in
        let y = contract-scope-step types (node_among items) t own own-counted P inside.0 n callee.inputs callee.outputs inside.1 has-rows x.0.formed x.1 (holes-row t inside.1 callee.inputs n.inputs k1.inputs) k1.outputs in
        let g = drawn_contract t no_brings z.0 inside.0 c z.1 in
        let w = contract-step types (node_among items) t no_brings K F c own lasting z.0 inside.0 P z.1 own-counted (subst (ContractSound types (node_among items) own lasting) e r.sound.1.1.1.1.1) (subst (ContractDrawable own) e r.drawable.contract)
        (subst PlainContract e r.plain_contract) (subst (ContractHasFirsts types) e r.firsts.contract) (record { formed = y.0.formed; placed = placed-on P inside.1 z.1 inside.0 y.0 x.1; seen = y.1 }) in
        let to_g = onward P P inside.1 z.1 g.1 y.0 w.0 in
        let b = call-told P inside.0.here g.0.assume g.0.enforce g.1 w.0.formed (has-on P inside.1 g.1 inside.0.here Truth to_g x.1.here) w.1 w.2 in
        onward P P s g.1 (add_call inside.0.here g.0.assume g.0.enforce g.1) (onward P P s inside.1 g.1 x.0 to_g) b

    -- ---- what a call of the node brings

    abbrev pub Brought : Type 0
    Brought = (P : List ℕ) (spot : Place) (callee : Callee) (s : Sketch) → IsFormed P s → IsPlaced s spot → IsCallee t s n callee → Step P s (contracts t spot n callee s)

    pub brought : AreCalled t no_brings (node_among items) → Brought
    brought K P spot callee s a p k = by n.contract refl
      where
        by : (o : Option Contract) → n.contract ≡ o → Step P s (drawn_called_if t spot n o callee s)
        by None e = still P s a
        by (Some c) e = brought-step K c e P spot callee s a p k

  -- ---- the nodes that may be called

  abbrev CalledIs : Node → Type 0
  CalledIs n = AreShapes t n.inputs × AreShapes t n.outputs × ((P : List ℕ) (spot : Place) (c : Callee) (s : Sketch) → IsFormed P s → IsPlaced s spot → IsCallee t s n c → Step P s (contracts t spot n c s))

  abbrev AllCalled : List Item → Type 0
  AllCalled items = (f : List ℕ) (m : Node) → node_among items f ≡ Some m → CalledIs m

  calls-of : (items : List Item) → AllCalled items → ((f : List ℕ) (m : Node) → node_among items f ≡ Some m → t.nodes f ≡ Some m) → AreCalled t contracts (node_among items)
  calls-of items h told = record { told = told; inputs = λ f m e. (h f m e).0; outputs = λ f m e. (h f m e).1; brought = λ f m e. (h f m e).2 }

  all-called : (items : List Item) → AllReady types t items → AllCalled items
  all-called [] h f m e = absurd cc
  all-called (TypeItem d ∷ items) h f m e = all-called items h f m e
  all-called (NodeItem n ∷ items) h f m e = by (bytes_eq n.name f) e (λ g k q. all-called items h.1 g k q)
    where
      this : AllCalled items → CalledIs n
      this others = (
        decls-fit types t F n.inputs h.0.firsts.inputs,
        decls-fit types t F n.outputs h.0.firsts.outputs,
        brought items n h.0 (nothing-brought t contracts (node_among items) (calls-of items others h.0.told)),
      )

      by : (b : Bool) → (if b then Some n else node_among items f) ≡ Some m → AllCalled items → CalledIs m
      by true q others = subst CalledIs (some_is n m q) (this others)
      by false q others = others f m q

  pub calls-are : (items : List Item) → AllReady types t items → ((f : List ℕ) (m : Node) → node_among items f ≡ Some m → t.nodes f ≡ Some m) → AreCalled t contracts (node_among items)
  calls-are items h told = calls-of items (all-called items h) told
