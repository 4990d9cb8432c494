-- The equations that are made of a node are good.
use Rattle.std.proofs.Common.{◌≡◌, ℕ, Bool, true, false, if◌then◌else◌, List, [], ◌∷◌, Option, None, Some, inl, inr, refl, sym, ap, subst, ◌∙◌}
use Rattle.std.specs.Prelude.{◌||◌, ◌⊎◌, IsFalse}
use Rattle.std.specs.Str.{bytes_eq}
use Rattle.hp_base.specs.declared.ty.Ty.{Ty}
use Rattle.hp_obc.specs.Machines.{ObcType}
use Rattle.hp_tree.specs.Blocks.{Decl, Block}
use Rattle.hp_tree.specs.Programs.{TypeDecl, Node}
use Rattle.hp_tree.specs.Meaning.{declares, controls_of}
use Rattle.hp_base.specs.Known.Known.{lookup}
use Rattle.hp_typing.specs.Scopes.{with_variables, inside_node}
use Rattle.law_judged.specs.Typed.Scopes.{Scope}
use Rattle.law_values.specs.Valued.Judged.{lasts_in, no_lasts, body_scope, HaveOwnTypes, HaveEquations, NodeSound}
use Rattle.law_values.proofs.ValuedLemmas.Typed.{some_is}
use Rattle.law_values.proofs.ValuedLemmas.Scoped.{not_declared}
use Rattle.law_values.specs.Filled.Firsts.{HasFirst, DeclsHaveFirsts, NodeHasFirsts}
use Rattle.hp_flat.specs.declared.node.FlatTy.{FlatTy}
use Rattle.law_wellmade.specs.Timely.Tested.{NodeTested}
use Rattle.law_equations.specs.Made.Sights.{Entry}
use Rattle.law_equations.specs.Made.Blocks.{IsPlain}
use Rattle.law_equations.specs.Made.Laws.{around_body}
use Rattle.law_equations.specs.Made.Making.{Known, Sketch, Seen, Body, next, flat_type, base_site, unknown, with_variable, over, or_entry, put, no_entry, nothing_made, signed, signature, sketch_node}
use Rattle.law_wellmade.proofs.BegunLemmas.Keeping.{retyped, Keeps, variable_typed}
use Rattle.law_wellmade.proofs.BegunLemmas.Typing.{Grounded, SeesTypes}
use Rattle.law_wellmade.proofs.BegunLemmas.BlockRegisters.{OwnTypes, owned, grounded_more}
use Rattle.law_wellmade.proofs.RegularLemmas.Good.{longer, IsSeen, seen_moved, Good, Moves, still, then_moves, variable_moves}
use Rattle.law_wellmade.proofs.RegularLemmas.Expressions.{TypeFacts, HaveValues, firsts_have, HaveFirsts}
use Rattle.law_wellmade.proofs.RegularLemmas.Layers.{same_name, all_remembered, last_seen}
use Rattle.law_wellmade.proofs.RegularLemmas.Entering.{OwnFirsts, firsts_declared, last_typed, SeesAround, decls_ready}
use Rattle.law_wellmade.proofs.RegularLemmas.Blocks.{block_moves}

own_firsts : (types : List TypeDecl) (among : List ℕ → Option Node) (s : Scope) (b : Block) (ds : List Decl) → HaveOwnTypes types among s ds → HaveEquations types among b ds → OwnFirsts types among s ds
own_firsts types among s b [] h e = tt
own_firsts types among s b (d ∷ ds) h e = ((h.0, e.0.1), own_firsts types among s b ds h.1 e.1)

signed_moves : (obc : List ObcType) (k : Known) (ds : List Decl) (m : Seen) → HaveValues obc k ds → Moves obc k m.1 (signed k ds m).1
signed_moves obc k [] m h = still obc k m.1
signed_moves obc k (d ∷ ds) m h =
    let t = flat_type k.types d.ty in
    let n : Seen = (put d.name (record { ty = t; value = Some (next m.1); last = None; is_local = true }) m.0, with_variable d.name t m.1) in
    then_moves obc k m.1 n.1 (signed k ds n).1 (variable_moves obc k d.name t m.1 (λ g. h.0)) (signed_moves obc k ds n h.1)

-- a name has a variable of the type
abbrev Stands : Seen → List ℕ → FlatTy → Type 0
Stands m x t = ((over m.0 unknown x).ty ≡ t) × IsSeen m.1 (over m.0 unknown x).value t

signed_stands : (k : Known) (s : Scope) (ds : List Decl) (m : Seen) (x : List ℕ) (t : Ty) → OwnTypes s ds → lookup s.variables x ≡ Some t → (declares ds x ≡ true) ⊎ Stands m x (flat_type k.types t) → Stands (signed k ds m) x (flat_type k.types t)
signed_stands k s [] m x t o h (inl e) = absurd (cc)
signed_stands k s [] m x t o h (inr q) = q
signed_stands k s (d ∷ ds) m x t o h c =
    signed_stands k s ds (put d.name own m.0, with_variable d.name (flat_type k.types d.ty) m.1) x t o.1 h (by (bytes_eq d.name x) refl c)
  where
    own : Entry
    own = record { ty = flat_type k.types d.ty; value = Some (next m.1); last = None; is_local = true }

    with_own : Sketch
    with_own = with_variable d.name (flat_type k.types d.ty) m.1

    kept : Keeps m.1 with_own
    kept = record { kept = λ i v p. longer m.1.variables (record { name = d.name; ty = flat_type k.types d.ty } ∷ []) i v p }

    Here : Bool → Type 0
    Here b = let e : Entry = or_entry (if b then Some own else m.0 x) (unknown x) in (e.ty ≡ flat_type k.types t) × IsSeen with_own e.value (flat_type k.types t)

    by_here : (b : Bool) → bytes_eq d.name x ≡ b → (b || declares ds x) ≡ true ⊎ Stands m x (flat_type k.types t) → (declares ds x ≡ true) ⊎ Here b
    by_here true e q =
        let same : flat_type k.types d.ty ≡ flat_type k.types t = ap (λ z. flat_type k.types z) (some_is d.ty t (sym o.0 ∙ ap (λ z. lookup s.variables z) (same_name d.name x e) ∙ h)) in
        inr (same, (next m.1, refl, retyped with_own (next m.1) (flat_type k.types d.ty) (flat_type k.types t) (variable_typed d.name (flat_type k.types d.ty) m.1) same))
    by_here false e (inl q) = inl q
    by_here false e (inr q) = inr (q.0, seen_moved m.1 with_own (over m.0 unknown x).value (flat_type k.types t) kept q.1)

    by : (b : Bool) → bytes_eq d.name x ≡ b → (b || declares ds x) ≡ true ⊎ Stands m x (flat_type k.types t) → (declares ds x ≡ true) ⊎ Stands (put d.name own m.0, with_own) x (flat_type k.types t)
    by b e q = join (by_here b e q)
      where
        join : (declares ds x ≡ true) ⊎ Here b → (declares ds x ≡ true) ⊎ Stands (put d.name own m.0, with_own) x (flat_type k.types t)
        join (inl w) = inl w
        join (inr w) = inr (subst Here (sym e) w)

module _ (obc : List ObcType) (k : Known) (types : List TypeDecl) (facts : TypeFacts obc k types) (among : List ℕ → Option Node) (callees : (f : List ℕ) (n : Node) → among f ≡ Some n → DeclsHaveFirsts types n.outputs) where
  module _ (s : Scope) (n : Node) (none : s.variables ≡ []) (ok : NodeSound types among s n) where
    by_name : {X : Type 0} (x : List ℕ) (ds : List Decl) → (IsFalse (declares ds x) → (declares ds x ≡ true) ⊎ X) → (declares ds x ≡ true) ⊎ X
    by_name {X = X} x ds f = by (declares ds x) refl
      where
        by : (b : Bool) → declares ds x ≡ b → (declares ds x ≡ true) ⊎ X
        by true q = inl q
        by false q = f q

    -- a name of the body is an output, a controllable variable or an input
    nowhere : {X : Type 0} (x : List ℕ) (t : Ty) → lookup (body_scope s n).variables x ≡ Some t → IsFalse (declares n.outputs x) → IsFalse (declares (controls_of n.contract) x) → IsFalse (declares n.inputs x) → X
    nowhere x t h a b c =
        absurd (let r : lookup s.variables x ≡ Some t =
        sym (not_declared x n.inputs s c) ∙ sym (not_declared x n.outputs (with_variables s n.inputs) a) ∙ sym (not_declared x (controls_of n.contract) (inside_node s n) b) ∙ h in
        let z : None ≡ Some t = ap (λ vs. lookup vs x) (sym none) ∙ r in cc)

    signature_stands : (x : List ℕ) (t : Ty) → lookup (body_scope s n).variables x ≡ Some t → Stands (signature k n) x (flat_type k.types t)
    signature_stands x t h =
        let controls = controls_of n.contract in
        let first : Seen = (no_entry, nothing_made) in
        let m = signed k n.inputs first in
        let own = body_scope s n in
        signed_stands k own n.outputs (signed k controls m) x t (owned types among own n.outputs ok.1.0.1) h
        (by_name x n.outputs
        (λ a. inr (signed_stands k own controls m x t (owned types among own controls ok.1.1.0) h
        (by_name x controls
        (λ b. inr (signed_stands k own n.inputs first x t (owned types among own n.inputs ok.1.0.0) h
        (by_name x n.inputs (λ c. nowhere x t h a b c))))))))

    have_firsts : NodeHasFirsts types n → HaveFirsts types (body_scope s n)
    have_firsts f x t h = by (declares n.outputs x) refl (declares (controls_of n.contract) x) refl (declares n.inputs x) refl
      where
        by : (a : Bool) → declares n.outputs x ≡ a → (b : Bool) → declares (controls_of n.contract) x ≡ b → (c : Bool) → declares n.inputs x ≡ c → HasFirst types t
        by true p b q c r = firsts_declared types (body_scope s n) n.outputs x t (owned types among (body_scope s n) n.outputs ok.1.0.1) f.outputs h p
        by false p true q c r = firsts_declared types (body_scope s n) (controls_of n.contract) x t (owned types among (body_scope s n) (controls_of n.contract) ok.1.1.0) f.controls h q
        by false p false q true r = firsts_declared types (body_scope s n) n.inputs x t (owned types among (body_scope s n) n.inputs ok.1.0.0) f.inputs h r
        by false p false q false r = nowhere x t h p q r

    pub node_good : Grounded k s → NodeHasFirsts types n → IsPlain n.body → NodeTested types s n → Good obc k (sketch_node k n)
    node_good ground f plain w =
        let own = body_scope s n in
        let sign = signature k n in
        let first : Seen = (no_entry, nothing_made) in
        let a = signed k n.inputs first in
        let b = signed k (controls_of n.contract) a in
        let controls = controls_of n.contract in
        let to_a = signed_moves obc k n.inputs first (firsts_have obc k types facts n.inputs f.inputs) in
        let to_b = signed_moves obc k controls a (firsts_have obc k types facts controls f.controls) in
        let to_outputs = signed_moves obc k n.outputs b (firsts_have obc k types facts n.outputs f.outputs) in
        let to_sign : Moves obc k nothing_made sign.1 = then_moves obc k nothing_made a.1 sign.1 to_a (then_moves obc k a.1 b.1 sign.1 to_b to_outputs) in
        let ready = decls_ready obc k types facts among callees base_site unknown own sign (λ x t h. (signature_stands x t h).0) (λ x t h. (signature_stands x t h).1) n.outputs (own_firsts types among own n.body n.outputs ok.1.0.1 ok.1.1.1.0) in
        let z = around_body k n in
        let r = all_remembered obc k base_site unknown n.outputs sign (tt, tt) ready in
        let around : SeesAround obc k types facts among callees Body n.body own (lasts_in n.outputs no_lasts) (over z.0 unknown) z.1 =
        record {
          values = λ x t h i. subst (λ o. IsSeen z.1 o (flat_type k.types t)) (sym (r.value x)) (seen_moved sign.1 z.1 (over sign.0 unknown x).value (flat_type k.types t) r.moves.keeps (signature_stands x t h).1);
          remembered = λ x l.
              let q = last_typed own n.outputs no_lasts x (owned types among own n.outputs ok.1.0.1) (λ i. absurd (cc)) l in
              (q.0, q.1, last_seen obc k base_site unknown n.outputs no_lasts sign x (flat_type k.types q.0) (tt, tt) ready (signature_stands x q.0 q.1).0 l (λ i. absurd (cc)));
        } in
        let sees : SeesTypes k own (over z.0 unknown) = λ x t h. r.ty x ∙ (signature_stands x t h).0 in
        let known_here = grounded_more k (controls_of n.contract) (inside_node s n) (grounded_more k n.outputs (with_variables s n.inputs) (grounded_more k n.inputs s ground)) in
        let made = block_moves obc k types facts among callees n.body Body own (lasts_in n.outputs no_lasts) (over z.0 unknown) base_site z.1 known_here sees (have_firsts f) ok.1.1.1.1.0 w f.body plain around (tt, tt) in
        (then_moves obc k nothing_made sign.1 (sketch_node k n) to_sign (then_moves obc k sign.1 z.1 (sketch_node k n) r.moves made.moves)).good (record { eqns = tt; values = tt; flag = tt })
