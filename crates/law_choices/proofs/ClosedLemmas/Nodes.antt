-- What is made of a node defines each variable behind those of its inputs.
use Rattle.std.proofs.Common.{◌≡◌, ◌⊎◌, inl, inr, ℕ, ◌+◌, ◌<◌, ◌≤◌, Bool, true, false, List, [], ◌∷◌, length, Option, None, Some, refl, sym, ap, subst, ◌∙◌, arith}
use Rattle.std.specs.Prelude.{◌||◌, IsFalse}
use Rattle.std.specs.Str.{bytes_eq}
use Rattle.std.proofs.lemmas.Bool.{cases_lt}
use Rattle.std.proofs.lemmas.List.{length-append}
use Rattle.hp_base.specs.declared.ty.Ty.{Ty}
use Rattle.hp_tree.specs.Blocks.{Decl}
use Rattle.hp_tree.specs.Programs.{TypeDecl, Node}
use Rattle.hp_tree.specs.Meaning.{declares, controls_of}
use Rattle.hp_base.specs.Known.Known.{lookup}
use Rattle.hp_typing.specs.Scopes.{with_variables, inside_node}
use Rattle.law_judged.specs.Typed.Scopes.{Scope}
use Rattle.law_values.specs.Valued.Judged.{lasts_in, no_lasts, body_scope, NodeSound}
use Rattle.law_values.proofs.ValuedLemmas.Scoped.{not_declared}
use Rattle.law_wellmade.specs.Timely.Tested.{NodeTested}
use Rattle.law_equations.specs.Made.Sights.{Entry}
use Rattle.law_equations.specs.Made.Blocks.{DeclaredOnce}
use Rattle.law_equations.specs.Made.Laws.{around_body}
use Rattle.law_equations.specs.Made.Making.{Known, Seen, next, flat_type, base_site, unknown, with_variable, over, put, no_entry, nothing_made, signed, signature, sketch_node}
use Rattle.law_equations.proofs.MadeLemmas.LayerLaws.{is_same}
use Rattle.law_wellmade.proofs.BegunLemmas.Typing.{Grounded}
use Rattle.law_wellmade.proofs.BegunLemmas.BlockRegisters.{grounded_more}
use Rattle.law_automata.specs.Readied.Laws.{IsWhole}
use Rattle.law_wellmade.proofs.RegularLemmas.Layers.{pick}
use Rattle.law_choices.proofs.ClosedLemmas.Filling.{is_target, both}
use Rattle.law_choices.proofs.ClosedLemmas.Expressions.{HasVariable}
use Rattle.law_choices.proofs.ClosedLemmas.Layers.{all_remembered, last_has}
use Rattle.law_choices.proofs.ClosedLemmas.Blocks.{SeesAround, body_binds}

-- ---- the variables of a signature

module _ (k : Known) where
  -- one more declaration
  abbrev with_decl : Decl → Seen → Seen
  with_decl d m = (put d.name (record { ty = flat_type k.types d.ty; value = Some (next m.1); last = None; is_local = true }) m.0, with_variable d.name (flat_type k.types d.ty) m.1)

  one_longer : (d : Decl) (m : Seen) → next (with_decl d m).1 ≡ next m.1 + 1
  one_longer d m = length-append m.1.variables _

  pub signed_long : (ds : List Decl) (m : Seen) → next (signed k ds m).1 ≡ next m.1 + length ds
  signed_long [] m = omega arith
  signed_long (d ∷ ds) m =
      let one = one_longer d m in
      let rest = signed_long ds (with_decl d m) in
      omega (arith, one, rest)

  signed_has : (ds : List Decl) (m : Seen) (x : List ℕ) → (declares ds x ≡ true) ⊎ HasVariable (over m.0 unknown x).value → HasVariable (over (signed k ds m).0 unknown x).value
  signed_has [] m x (inl e) = absurd cc
  signed_has [] m x (inr q) = q
  signed_has (d ∷ ds) m x h = signed_has ds (with_decl d m) x (by (bytes_eq d.name x) refl h)
    where
      here : bytes_eq d.name x ≡ true ⊎ HasVariable (over m.0 unknown x).value → HasVariable (over (with_decl d m).0 unknown x).value
      here q = pick (λ (w : Entry). HasVariable w.value) d.name _ m.0 unknown x (λ p. (next m.1, refl)) (λ p. other p q)
        where
          other : bytes_eq d.name x ≡ false → bytes_eq d.name x ≡ true ⊎ HasVariable (over m.0 unknown x).value → HasVariable (over m.0 unknown x).value
          other p (inl e) = absurd (let r = sym p ∙ e in cc)
          other p (inr e) = e

      by : (b : Bool) → bytes_eq d.name x ≡ b → ((b || declares ds x) ≡ true) ⊎ HasVariable (over m.0 unknown x).value → (declares ds x ≡ true) ⊎ HasVariable (over (with_decl d m).0 unknown x).value
      by true e q = inr (here (inl e))
      by false e (inl q) = inl q
      by false e (inr q) = inr (here (inr q))

  either_false : (a b : Bool) → (a || b) ≡ false → (a ≡ false) × (b ≡ false)
  either_false true b h = absurd cc
  either_false false b h = (refl, h)

  -- another name keeps its variable
  signed_other : (ds : List Decl) (m : Seen) (x : List ℕ) → declares ds x ≡ false → (over (signed k ds m).0 unknown x).value ≡ (over m.0 unknown x).value
  signed_other [] m x n = refl
  signed_other (d ∷ ds) m x n =
      let q = either_false (bytes_eq d.name x) (declares ds x) n in
      signed_other ds (with_decl d m) x q.1 ∙ pick (λ (w : Entry). w.value ≡ (over m.0 unknown x).value) d.name _ m.0 unknown x (λ p. absurd (let r = sym q.0 ∙ p in cc)) (λ p. refl)

  -- what is new are the variables of the declarations
  signed_new : (ds : List Decl) (m : Seen) → DeclaredOnce ds → (v : ℕ) → next m.1 ≤ v → v < next (signed k ds m).1 → (y : List ℕ) × (declares ds y ≡ true) × ((over (signed k ds m).0 unknown y).value ≡ Some v)
  signed_new [] m once v l u = absurd (omega (arith, l, u))
  signed_new (d ∷ ds) m once v l u = by (cases_lt v (next (with_decl d m).1)) (λ w. signed_new ds (with_decl d m) once.1 v w u)
    where
      or_right : (a b : Bool) → b ≡ true → (a || b) ≡ true
      or_right true b h = refl
      or_right false b h = h

      by : (v < next (with_decl d m).1) ⊎ (next (with_decl d m).1 ≤ v) → (next (with_decl d m).1 ≤ v → (y : List ℕ) × (declares ds y ≡ true) × ((over (signed k ds (with_decl d m)).0 unknown y).value ≡ Some v))
          → (y : List ℕ) × (declares (d ∷ ds) y ≡ true) × ((over (signed k ds (with_decl d m)).0 unknown y).value ≡ Some v)
      by (inl w) f =
          let one = one_longer d m in
          let is : next m.1 ≡ v = omega (arith, one, l, w) in (
            d.name,
            ap (λ b. b || declares ds d.name) (is_same d.name),
            signed_other ds (with_decl d m) d.name once.0
                ∙ pick (λ (w : Entry). w.value ≡ Some v) d.name _ m.0 unknown d.name (λ p. ap Some is) (λ p. absurd (let r = sym p ∙ is_same d.name in cc)),
          )
      by (inr w) f = let q = f w in (q.0, or_right (bytes_eq d.name q.0) (declares ds q.0) q.1, q.2)

-- ---- nodes

-- Each variable behind those of the inputs and the controllable variables is defined, and the outputs are there.
pub record NodeFills (k : Known) (n : Node) : Type 0 where
  pub filled : (x : ℕ) → length n.inputs + length (controls_of n.contract) ≤ x → x < next (sketch_node k n) → is_target (sketch_node k n).eqns x ≡ true
  pub long : length n.inputs + length (controls_of n.contract) + length n.outputs ≤ next (sketch_node k n)

module _ (k : Known) (types : List TypeDecl) (among : List ℕ → Option Node) (s : Scope) (n : Node) (none : s.variables ≡ []) where
  controls : List Decl
  controls = controls_of n.contract

  by_name : {X : Type 0} (x : List ℕ) (ds : List Decl) → (IsFalse (declares ds x) → (declares ds x ≡ true) ⊎ X) → (declares ds x ≡ true) ⊎ X
  by_name {X = X} x ds f = by (declares ds x) refl
    where
      by : (b : Bool) → declares ds x ≡ b → (declares ds x ≡ true) ⊎ X
      by true q = inl q
      by false q = f q

  -- a name of the body is an output, a controllable variable or an input
  nowhere : {X : Type 0} (x : List ℕ) (t : Ty) → lookup (body_scope s n).variables x ≡ Some t → IsFalse (declares n.outputs x) → IsFalse (declares (controls_of n.contract) x) → IsFalse (declares n.inputs x) → X
  nowhere x t h a b c =
      absurd (let r : lookup s.variables x ≡ Some t =
      sym (not_declared x n.inputs s c) ∙ sym (not_declared x n.outputs (with_variables s n.inputs) a) ∙ sym (not_declared x (controls_of n.contract) (inside_node s n) b) ∙ h in
      let z : None ≡ Some t = ap (λ vs. lookup vs x) (sym none) ∙ r in cc)

  signature_has : (x : List ℕ) (t : Ty) → lookup (body_scope s n).variables x ≡ Some t → HasVariable (over (signature k n).0 unknown x).value
  signature_has x t h =
      let first : Seen = (no_entry, nothing_made) in
      let m = signed k n.inputs first in
      signed_has k n.outputs (signed k (controls_of n.contract) m) x
      (by_name x n.outputs
      (λ a. inr (signed_has k (controls_of n.contract) m x
      (by_name x (controls_of n.contract)
      (λ b. inr (signed_has k n.inputs first x
      (by_name x n.inputs (λ c. nowhere x t h a b c))))))))

  pub node_fills : Grounded k s → NodeSound types among s n → NodeTested types s n → IsWhole n → NodeFills k n
  node_fills ground ok w whole =
      let first : Seen = (no_entry, nothing_made) in
      let a = signed k n.inputs first in
      let b = signed k (controls_of n.contract) a in
      let sign = signature k n in
      let z = around_body k n in
      let final = sketch_node k n in
      let long_a = signed_long k n.inputs first in
      let long_b = signed_long k (controls_of n.contract) a in
      let long = signed_long k n.outputs b in
      let r = all_remembered k base_site unknown n.outputs sign in
      let around : SeesAround _ n.body (body_scope s n) (lasts_in n.outputs no_lasts) (over z.0 unknown) =
      record {
        values = λ x t h i. subst HasVariable (sym (r.value x)) (signature_has x t h);
        remembered = λ x l. last_has k base_site unknown n.outputs no_lasts sign x l (λ i. absurd cc);
      } in
      let known_here = grounded_more k (controls_of n.contract) (inside_node s n) (grounded_more k n.outputs (with_variables s n.inputs) (grounded_more k n.inputs s ground)) in
      let made = body_binds k types among n.body (body_scope s n) (lasts_in n.outputs no_lasts) (over z.0 unknown) base_site z.1 known_here ok.1.1.1.1.0 w whole.plain around in
      let rest = both sign.1 z.1 final r.fills made.fills in
      let start : next b.1 ≡ length n.inputs + length (controls_of n.contract) = omega (arith, long_a, long_b) in
      record {
        filled = λ x l u. by x (cases_lt x (next sign.1))
            (λ v. let q = signed_new k n.outputs b whole.outputs x (omega (arith, start, l)) v in made.bound q.0 x (whole.defined q.0 q.1) (r.value q.0 ∙ q.2))
            (λ v. rest.fresh x v u);
        long = let g = rest.grown in omega (arith, start, long, g);
      }
    where
      by : (x : ℕ) → (x < next (signature k n).1) ⊎ (next (signature k n).1 ≤ x) → (x < next (signature k n).1 → is_target (sketch_node k n).eqns x ≡ true) → (next (signature k n).1 ≤ x → is_target (sketch_node k n).eqns x ≡ true)
          → is_target (sketch_node k n).eqns x ≡ true
      by x (inl v) f g = f v
      by x (inr v) f g = g v
