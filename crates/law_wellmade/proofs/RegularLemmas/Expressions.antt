-- The equations that are made of an expression are good.
use Rattle.std.proofs.Common.{◌≡◌, ℕ, ◌+◌, ◌<◌, if◌then◌else◌, List, [], ◌∷◌, Option, None, Some, refl, sym, ap, subst, ◌∙◌}
use Rattle.std.specs.Prelude.{⊤, IsTrue, codes}
use Rattle.std.specs.List.{AllByRecursion}
use Rattle.std.proofs.lemmas.List.{length-append}
use Rattle.hp_base.specs.declared.ty.Ty.{Ty}
use Rattle.hp_base.specs.declared.ty.Ty.TheVariants as ty
use Rattle.hp_base.specs.declared.ty.Const.{Const}
use Rattle.hp_base.specs.declared.ty.Const.TheVariants as const
use Rattle.hp_base.specs.declared.value.Value.{Value}
use Rattle.hp_base.specs.Kinds.{Bools}
use Rattle.hp_obc.specs.Form.{result_kind}
use Rattle.hp_obc.specs.Machines.{ObcType}
use Rattle.hp_tree.specs.declared.decl.Cons.{Cons}
use Rattle.hp_tree.specs.declared.expr.Op1.{Op1}
use Rattle.hp_tree.specs.declared.expr.Op1.TheVariants.{Not, Neg}
use Rattle.hp_tree.specs.declared.expr.Op2.{Op2}
use Rattle.hp_tree.specs.declared.expr.Op2.TheVariants.{And, Or, Xor, Imp, Eq, Ne, Lt, Le, Gt, Ge, Add, Sub, Mul, Div, Rem}
use Rattle.hp_tree.specs.Expressions.{Expr, constant, variable, last_of, one, two, choose, pre, fby, arrow, when_is, merge, call, Exprs, no_expr, more_exprs, Parts, no_part, more_parts}
use Rattle.hp_tree.specs.Blocks.{Decl}
use Rattle.hp_tree.specs.Programs.{TypeDecl, Node}
use Rattle.hp_tree.specs.Operators.{constant_of, cons_of}
use Rattle.hp_tree.specs.Values.{IsOf}
use Rattle.hp_base.specs.Known.Known.{lookup}
use Rattle.hp_typing.specs.Types.{type_of, types_in, type_of_one, operand, answer, enum_of, args_fit, merge_type}
use Rattle.law_judged.specs.Typed.Scopes.{Scope}
use Rattle.law_values.specs.Valued.Judged.{Lasts, ExprSound, ExprsSound, PartsSound, CoversType, of_parts}
use Rattle.law_values.proofs.ValuedLemmas.Typed.{some_is, one_typed, two_typed, if_typed, pair_typed, when_typed, call_typed, arg_typed, PartsHave, merge_typed}
use Rattle.law_values.specs.Filled.Firsts.{HasFirst, DeclsHaveFirsts}
use Rattle.law_values.proofs.FilledLemmas.Values.{first_from}
use Rattle.hp_flat.specs.declared.equation.Atom.{Atom}
use Rattle.hp_flat.specs.declared.equation.Atom.TheVariants.{Variable as Named}
use Rattle.hp_flat.specs.declared.node.FlatTy.{FlatTy}
use Rattle.hp_flat.specs.declared.node.FlatTy.TheVariants as flat
use Rattle.hp_flat.specs.Equations.{operator, called}
use Rattle.law_equations.specs.Flattened.Flatten.{obc_one, obc_two, constant_in}
use Rattle.law_equations.specs.Meaning.Kinding.{HasValue}
use Rattle.hp_toobc.specs.Tables.{width_of}
use Rattle.law_wellmade.specs.Timely.Tested.{ConsAre, ExprTested, ExprsTested, PartsTested}
use Rattle.law_equations.specs.Made.Making.{Known, Sketch, Site, Sight, Made, next, new_name, with_new, register_at, type_at, copy_of, type_one, type_two, flat_type, first_value, constant_value, cons_number, outputs_of, numbers_from, flag_at, by_constant, fby_at, arrow_at, on_site, off_site, tested, merged_variable, part_at, or_new, first_output, with_outputs, called_at, bind, sketch_expr, sketch_parts, sketch_exprs}
use Rattle.law_wellmade.proofs.BegunLemmas.Keeping.{HasType, type_is, retyped, Keeps, moved, variable_typed, expr_keeps, outputs_keep}
use Rattle.law_wellmade.proofs.BegunLemmas.Typing.{Grounded, SeesTypes, ExprsHave, args_have, call_outputs, typed}
use Rattle.law_wellmade.proofs.RegularLemmas.Good.{IsSeen, seen_moved, HaveTypes, types_of_decls, inputs_of, same_itself, kind, IsValue, has_value, ArgsTyped, args_moved, RightTyped, SiteGood, site_moved, on_good, off_good, Moves, still, then_moves, type_there, variable_moves, eqn_moves, named_moves, copy_typed, read_moves, constant_moves, register_moves, register_typed, mux_moves, new_flag_moves, flag_typed}

-- What is known of types, constants and constructors by their numbers.
pub record TypeFacts (obc : List ObcType) (k : Known) (types : List TypeDecl) : Type 0 where
  pub constants : (t : Ty) (c : Const) → IsOf types t (constant_of types c) → IsValue obc (flat_type k.types t) (constant_value k c)
  pub wide : (t : Ty) (c : Cons) → IsOf types t (cons_of types c) → cons_number k c < width_of obc (flat_type k.types t)
  pub firsts : (t : Ty) → HasFirst types t → IsValue obc (flat_type k.types t) (first_value (flat_type k.types t))

-- the types of declarations have values
abbrev pub HaveValues : List ObcType → Known → List Decl → Type 0
HaveValues obc k ds = AllByRecursion (λ (d : Decl). HasValue obc (flat_type k.types d.ty)) ds

pub first_has : (obc : List ObcType) (k : Known) (types : List TypeDecl) → TypeFacts obc k types → (t : Ty) → HasFirst types t → HasValue obc (flat_type k.types t)
first_has obc k types facts t h = has_value obc (flat_type k.types t) (first_value (flat_type k.types t)) (facts.firsts t h)

pub firsts_have : (obc : List ObcType) (k : Known) (types : List TypeDecl) → TypeFacts obc k types → (ds : List Decl) → DeclsHaveFirsts types ds → HaveValues obc k ds
firsts_have obc k types facts [] h = tt
firsts_have obc k types facts (d ∷ ds) h = (first_has obc k types facts d.ty h.0, firsts_have obc k types facts ds h.1)

-- each variable has a type with a first value
abbrev pub HaveFirsts : List TypeDecl → Scope → Type 0
HaveFirsts types s = (x : List ℕ) (t : Ty) → lookup s.variables x ≡ Some t → HasFirst types t

-- ---- operators

one_kind : (obc : List ObcType) (k : Known) (o : Op1) → result_kind (obc_one o) (kind obc (flat_type k.types (type_of_one o)) ∷ []) ≡ Some (kind obc (type_one o))
one_kind obc k Not = refl
one_kind obc k Neg = refl

one_value : (obc : List ObcType) (o : Op1) → HasValue obc (type_one o)
one_value obc Not = tt
one_value obc Neg = tt

-- an operator of two operands of a type gives a value of its type
abbrev TwoKinds : List ObcType → Known → Op2 → Ty → Type 0
TwoKinds obc k o u = result_kind (obc_two o) (kind obc (flat_type k.types u) ∷ kind obc (flat_type k.types u) ∷ []) ≡ Some (kind obc (type_two o))

two_kind : (obc : List ObcType) (k : Known) (o : Op2) (u : Ty) → operand o (Some u) ≡ Some u → TwoKinds obc k o u
two_kind obc k And u h = subst (λ z. TwoKinds obc k And z) (some_is ty.Bool u h) refl
two_kind obc k Or u h = subst (λ z. TwoKinds obc k Or z) (some_is ty.Bool u h) refl
two_kind obc k Xor u h = subst (λ z. TwoKinds obc k Xor z) (some_is ty.Bool u h) refl
two_kind obc k Imp u h = subst (λ z. TwoKinds obc k Imp z) (some_is ty.Bool u h) refl
two_kind obc k Eq u h = ap (λ b. if b then Some Bools else None) (same_itself (kind obc (flat_type k.types u)))
two_kind obc k Ne u h = ap (λ b. if b then Some Bools else None) (same_itself (kind obc (flat_type k.types u)))
two_kind obc k Lt u h = subst (λ z. TwoKinds obc k Lt z) (some_is ty.Int u h) refl
two_kind obc k Le u h = subst (λ z. TwoKinds obc k Le z) (some_is ty.Int u h) refl
two_kind obc k Gt u h = subst (λ z. TwoKinds obc k Gt z) (some_is ty.Int u h) refl
two_kind obc k Ge u h = subst (λ z. TwoKinds obc k Ge z) (some_is ty.Int u h) refl
two_kind obc k Add u h = subst (λ z. TwoKinds obc k Add z) (some_is ty.Int u h) refl
two_kind obc k Sub u h = subst (λ z. TwoKinds obc k Sub z) (some_is ty.Int u h) refl
two_kind obc k Mul u h = subst (λ z. TwoKinds obc k Mul z) (some_is ty.Int u h) refl
two_kind obc k Div u h = subst (λ z. TwoKinds obc k Div z) (some_is ty.Int u h) refl
two_kind obc k Rem u h = subst (λ z. TwoKinds obc k Rem z) (some_is ty.Int u h) refl

two_value : (obc : List ObcType) (o : Op2) → HasValue obc (type_two o)
two_value obc And = tt
two_value obc Or = tt
two_value obc Xor = tt
two_value obc Imp = tt
two_value obc Eq = tt
two_value obc Ne = tt
two_value obc Lt = tt
two_value obc Le = tt
two_value obc Gt = tt
two_value obc Ge = tt
two_value obc Add = tt
two_value obc Sub = tt
two_value obc Mul = tt
two_value obc Div = tt
two_value obc Rem = tt

one_first : (types : List TypeDecl) (o : Op1) → HasFirst types (type_of_one o)
one_first types Not = tt
one_first types Neg = tt

answer_first : (types : List TypeDecl) (o : Op2) → HasFirst types (answer o)
answer_first types And = tt
answer_first types Or = tt
answer_first types Xor = tt
answer_first types Imp = tt
answer_first types Eq = tt
answer_first types Ne = tt
answer_first types Lt = tt
answer_first types Le = tt
answer_first types Gt = tt
answer_first types Ge = tt
answer_first types Add = tt
answer_first types Sub = tt
answer_first types Mul = tt
answer_first types Div = tt
answer_first types Rem = tt

-- the variable of a merge has a type, once there is one
abbrev Merged : Sketch → Option ℕ → FlatTy → Type 0
Merged d None t = ⊤
Merged d (Some x) t = HasType d x t

-- the variables from a number on have the types of some outputs
abbrev pub Outputs : Known → Sketch → ℕ → List Decl → Type 0
Outputs k d n [] = ⊤
Outputs k d n (o ∷ os) = HasType d n (flat_type k.types o.ty) × Outputs k d (n + 1) os

module _ (obc : List ObcType) (k : Known) where
  part_moves : (at : Site) (o : Option ℕ) (m : Made) (t : FlatTy) → HasType m.0 m.1 t → Merged m.0 o t → SiteGood obc m.0 at → Moves obc k m.0 (part_at at o m).0 × HasType (part_at at o m).0 (part_at at o m).1 t
  part_moves at None m t h g c =
      let u = type_at m.0 m.1 in
      let e : Sketch = with_new (codes "e") u m.0 in
      let v = variable_moves obc k (new_name (codes "e") (next m.0)) u m.0 (type_there obc k m.0 m.1 t h) in
      let own : HasType e (next m.0) t = retyped e (next m.0) u t (variable_typed (new_name (codes "e") (next m.0)) u m.0) (type_is m.0 m.1 t h) in
      let copied : RightTyped obc k e (copy_of (Named m.1)) (t ∷ []) = copy_typed obc k e (Named m.1) t (moved m.0 e m.1 t v.keeps h) in
      (then_moves obc k m.0 e (part_at at None m).0 v (eqn_moves obc k at (next m.0 ∷ []) (copy_of (Named m.1)) e (t ∷ []) (site_moved obc m.0 e at v.keeps c) (own, tt) (λ i. copied)), own)
  part_moves at (Some x) m t h g c = (eqn_moves obc k at (x ∷ []) (copy_of (Named m.1)) m.0 (t ∷ []) c (g, tt) (λ i. copy_typed obc k m.0 (Named m.1) t h), g)

  or_new_moves : (m : Sketch × Option ℕ) → Moves obc k m.0 (or_new m).0
  or_new_moves m = by m.1
    where
      by : (o : Option ℕ) → Moves obc k m.0 (merged_variable o flat.Bool m.0).0
      by None = variable_moves obc k (new_name (codes "e") (next m.0)) flat.Bool m.0 (λ g. tt)
      by (Some x) = still obc k m.0

  pub bind_moves : (at : Site) (o source : Option ℕ) (d : Sketch) (t : FlatTy) → SiteGood obc d at → IsSeen d o t → IsSeen d source t → Moves obc k d (bind at o source d)
  bind_moves at o source d t c p q =
      subst (λ z. Moves obc k d (bind at z source d)) (sym p.1)
      (subst (λ z. Moves obc k d (bind at (Some p.0) z d)) (sym q.1) (eqn_moves obc k at (p.0 ∷ []) (copy_of (Named q.0)) d (t ∷ []) c (p.2, tt) (λ i. copy_typed obc k d (Named q.0) t q.2)))

  merged_moved : (d e : Sketch) (o : Option ℕ) (t : FlatTy) → Keeps d e → Merged d o t → Merged e o t
  merged_moved d e None t h m = tt
  merged_moved d e (Some x) t h m = moved d e x t h m

  arrow_moves : (at : Site) (a : ℕ) (b : Made) (t : FlatTy) → SiteGood obc b.0 at → HasType b.0 a t → HasType b.0 b.1 t → Moves obc k b.0 (arrow_at at a b).0
  arrow_moves at a b t g h i =
      let flag = flag_at at b.0 in
      let m = new_flag_moves obc k at b.0 g in
      then_moves obc k b.0 flag.0 _ m
      (mux_moves obc k at flag.1 a b.1 t flag.0 (site_moved obc b.0 flag.0 at m.keeps g) (flag_typed obc k at b.0) (moved b.0 flag.0 a t m.keeps h) (moved b.0 flag.0 b.1 t m.keeps i))

  fby_moves : (at : Site) (a : ℕ) (b : Made) (t : FlatTy) → SiteGood obc b.0 at → HasType b.0 a t → HasType b.0 b.1 t → IsValue obc t (first_value (type_at b.0 b.1)) → Moves obc k b.0 (fby_at at a b).0
  fby_moves at a b t g h i w =
      let first = first_value (type_at b.0 b.1) in
      let held = register_at at first b.1 b.0 in
      let m = register_moves obc k at first b.1 t b.0 g i w in
      then_moves obc k b.0 held.0 _ m (arrow_moves at a held t (site_moved obc b.0 held.0 at m.keeps g) (moved b.0 held.0 a t m.keeps h) (register_typed at first b.1 t b.0 i))

  -- ---- calls

  pub outputs_moved : (os : List Decl) (n : ℕ) (d e : Sketch) → Keeps d e → Outputs k d n os → Outputs k e n os
  outputs_moved [] n d e h o = tt
  outputs_moved (x ∷ os) n d e h o = (moved d e n (flat_type k.types x.ty) h o.0, outputs_moved os (n + 1) d e h o.1)

  outputs_move : (os : List Decl) (d : Sketch) → HaveValues obc k os → Moves obc k d (with_outputs k os d)
  outputs_move [] d v = still obc k d
  outputs_move (o ∷ os) d v =
      let e : Sketch = with_new o.name (flat_type k.types o.ty) d in
      then_moves obc k d e (with_outputs k os e) (variable_moves obc k (new_name o.name (next d)) (flat_type k.types o.ty) d (λ g. v.0)) (outputs_move os e v.1)

  outputs_typed : (os : List Decl) (d : Sketch) → Outputs k (with_outputs k os d) (next d) os
  outputs_typed [] d = tt
  outputs_typed (o ∷ os) d =
      let t = flat_type k.types o.ty in
      let e : Sketch = with_new o.name t d in
      let one_more : next e ≡ next d + 1 = length-append d.variables (record { name = new_name o.name (next d); ty = t } ∷ []) in
      (moved e (with_outputs k os e) (next d) t (outputs_keep k os e) (variable_typed (new_name o.name (next d)) t d), subst (λ n. Outputs k (with_outputs k os e) n os) one_more (outputs_typed os e))

  outputs_have : (os : List Decl) (n : ℕ) (d : Sketch) → Outputs k d n os → HaveTypes d (numbers_from n os) (types_of_decls k os)
  outputs_have [] n d h = tt
  outputs_have (o ∷ os) n d h = (h.0, outputs_have os (n + 1) d h.1)

  called_moves : (at : Site) (f : List ℕ) (args : List Atom) (d : Sketch) → SiteGood obc d at → HaveValues obc k (outputs_of (k.nodes f)) → ArgsTyped obc d args (types_of_decls k (inputs_of (k.nodes f)))
      → Moves obc k d (called_at k at f args (outputs_of (k.nodes f)) d).0
  called_moves at f args d c v h =
      let os = outputs_of (k.nodes f) in
      let e : Sketch = with_outputs k os d in
      let m = outputs_move os d v in
      then_moves obc k d e (called_at k at f args os d).0 m
      (eqn_moves obc k at (numbers_from (next d) os) (called f args) e (types_of_decls k os) (site_moved obc d e at m.keeps c) (outputs_have os (next d) e (outputs_typed os d))
      (λ i. (args_moved obc d e args (types_of_decls k (inputs_of (k.nodes f))) m.keeps h, refl)))

  pub called_typed : (at : Site) (f : List ℕ) (args : List Atom) (os : List Decl) (d : Sketch) → Outputs k (called_at k at f args os d).0 (next d) os
  called_typed at f args os d = outputs_moved os (next d) (with_outputs k os d) (called_at k at f args os d).0 (record { kept = λ x v h. h }) (outputs_typed os d)

  first_moves : (at : Site) (os : List Decl) (m : Made) → Outputs k m.0 m.1 os → SiteGood obc m.0 at → Moves obc k m.0 (first_output at os m).0
  first_moves at [] m h c = variable_moves obc k (new_name (codes "e") (next m.0)) flat.Bool m.0 (λ g. tt)
  first_moves at (o ∷ os) m h c = read_moves obc k at (Some m.1) (type_at m.0 m.1) m.0 c (m.1, refl, retyped m.0 m.1 (flat_type k.types o.ty) (type_at m.0 m.1) h.0 (sym (type_is m.0 m.1 (flat_type k.types o.ty) h.0)))

exprs_keep : (k : Known) (es : Exprs) (see : Sight) (at : Site) (d : Sketch) → Keeps d (sketch_exprs k see at es d).0
exprs_keep k no_expr see at d = record { kept = λ x v h. h }
exprs_keep k (more_exprs e es) see at d = let y = sketch_expr k see at e d in record { kept = λ x v h. (exprs_keep k es see at y.0).kept x v ((expr_keeps k e see at d).kept x v h) }

by_moves : (obc : List ObcType) (k : Known) (d : Sketch) (o : Option Const) (m : Made) (f : Const → Made) → Moves obc k d m.0 → ((c : Const) → o ≡ Some c → Moves obc k d (f c).0) → Moves obc k d (by_constant o m f).0
by_moves obc k d None m f h g = h
by_moves obc k d (Some c) m f h g = g c refl

module _ (obc : List ObcType) (k : Known) (types : List TypeDecl) (facts : TypeFacts obc k types) (among : List ℕ → Option Node) (callees : (f : List ℕ) (n : Node) → among f ≡ Some n → DeclsHaveFirsts types n.outputs) where
  module _ (s : Scope) (lasts : Lasts) (see : Sight) where
    -- the variables of names, and of their last values, have the types of the names
    pub record SeesIn (d : Sketch) : Type 0 where
      pub values : (x : List ℕ) (t : Ty) → lookup s.variables x ≡ Some t → IsSeen d (see x).value (flat_type k.types t)
      pub remembered : (x : List ℕ) → IsTrue (lasts x) → (t : Ty) × (lookup s.variables x ≡ Some t) × IsSeen d (see x).last (flat_type k.types t)

    pub sees_moved : (d e : Sketch) → Keeps d e → SeesIn d → SeesIn e
    sees_moved d e h w =
        record {
          values = λ x t q. seen_moved d e (see x).value (flat_type k.types t) h (w.values x t q);
          remembered = λ x q. let r = w.remembered x q in (r.0, r.1, seen_moved d e (see x).last (flat_type k.types r.0) h r.2);
        }

    module _ (ground : Grounded k s) (sees : SeesTypes k s see) (known : HaveFirsts types s) where
      enum_first : (c : List ℕ) (o : Option (List ℕ)) (t : Ty) (v : Value) → enum_of o ≡ Some t → IsOf types t v → HasFirst types t
      enum_first c None t v h i = absurd (cc)
      enum_first c (Some u) t v h i =
          let e = some_is (ty.Enum u) t h in
          subst (λ z. HasFirst types z) e (first_from types u v (subst (λ z. IsOf types z v) (sym e) i))

      -- the type of an expression has a first value
      mutual
        has_first : (e : Expr) (t : Ty) → ExprSound types among s lasts e → type_of s e ≡ Some t → HasFirst types t
        has_first (constant a (const.B b)) t ok h = subst (λ z. HasFirst types z) (some_is ty.Bool t h) tt
        has_first (constant a (const.I n)) t ok h = subst (λ z. HasFirst types z) (some_is ty.Int t h) tt
        has_first (constant a (const.E c)) t ok h = enum_first c (lookup s.constructors c) t (constant_of types (const.E c)) h (ok t h)
        has_first (variable a x) t ok h = known x t h
        has_first (last_of a x) t ok h = known x t h
        has_first (one a o b) t ok h = subst (λ z. HasFirst types z) (one_typed (type_of_one o) (type_of s b) t h).1 (one_first types o)
        has_first (two a o b c) t ok h = subst (λ z. HasFirst types z) (two_typed o (type_of s b) (type_of s c) t h).4 (answer_first types o)
        has_first (choose a b c d) t ok h = has_first c t ok.1.0 (if_typed (type_of s b) (type_of s c) (type_of s d) t h).1
        has_first (pre a b) t ok h = has_first b t ok h
        has_first (fby a b c) t ok h = has_first b t ok.0 (pair_typed (type_of s b) (type_of s c) t h).0
        has_first (arrow a b c) t ok h = has_first b t ok.0 (pair_typed (type_of s b) (type_of s c) t h).0
        has_first (when_is a b c x) t ok h = has_first b t ok (when_typed _ _ t h)
        has_first (merge a x ps) t ok h = parts_first ps (lookup s.variables x) t ok.1 h
        has_first (call a f i es) t ok h =
            let q = call_outputs (lookup s.nodes f) (types_in s es) t h in
            let there : DeclsHaveFirsts types (q.2.0 ∷ []) = subst (DeclsHaveFirsts types) q.2.1 (callees f q.0 (sym ok.0 ∙ q.1)) in
            subst (λ z. HasFirst types z) q.2.2 there.0

        parts_first : (ps : Parts) (name : Option Ty) (t : Ty) → PartsSound types among s lasts ps → merge_type s name ps ≡ Some t → HasFirst types t
        parts_first no_part name t ok h = absurd (cc)
        parts_first (more_parts c e ps) name t ok h = has_first e t ok.0 (merge_typed s name (more_parts c e ps) t h).0

      -- the constant that stands first in a `fby`
      constant_good : (e : Expr) (c : Const) (t : Ty) → constant_in e ≡ Some c → ExprSound types among s lasts e → type_of s e ≡ Some t → IsValue obc (flat_type k.types t) (constant_value k c)
      constant_good (constant a b) c t e ok h = subst (λ z. IsValue obc (flat_type k.types t) (constant_value k z)) (some_is b c e) (facts.constants t b (ok t h))
      constant_good (variable a x) c t e ok h = absurd (cc)
      constant_good (last_of a x) c t e ok h = absurd (cc)
      constant_good (one a o b) c t e ok h = absurd (cc)
      constant_good (two a o b d) c t e ok h = absurd (cc)
      constant_good (choose a b d f) c t e ok h = absurd (cc)
      constant_good (pre a b) c t e ok h = absurd (cc)
      constant_good (fby a b d) c t e ok h = absurd (cc)
      constant_good (arrow a b d) c t e ok h = absurd (cc)
      constant_good (when_is a b d x) c t e ok h = absurd (cc)
      constant_good (merge a x ps) c t e ok h = absurd (cc)
      constant_good (call a f i es) c t e ok h = absurd (cc)

      covered : (o : Option Ty) (cs : List Cons) → CoversType types o cs → (u : Ty) × (o ≡ Some u)
      covered None cs h = absurd h
      covered (Some u) cs h = (u, refl)

      -- the first value of the type of a variable
      first_good : (e : Expr) (t : Ty) (at : Site) (d : Sketch) → ExprSound types among s lasts e → type_of s e ≡ Some t → IsValue obc (flat_type k.types t) (first_value (type_at (sketch_expr k see at e d).0 (sketch_expr k see at e d).1))
      first_good e t at d ok h =
          let m = sketch_expr k see at e d in
          subst (λ u. IsValue obc (flat_type k.types t) (first_value u)) (sym (type_is m.0 m.1 (flat_type k.types t) (typed k s see ground sees e t at d h))) (facts.firsts t (has_first e t ok h))

      -- arguments have the types of the inputs
      args_typed : (ds : List Decl) (es : Exprs) (at : Site) (d : Sketch) → IsTrue (args_fit ds (types_in s es)) → ArgsTyped obc (sketch_exprs k see at es d).0 (sketch_exprs k see at es d).1 (types_of_decls k ds)
      args_typed [] no_expr at d h = tt
      args_typed (b ∷ ds) no_expr at d h = absurd (cc)
      args_typed [] (more_exprs e es) at d h = absurd (cc)
      args_typed (b ∷ ds) (more_exprs e es) at d h =
          let x = sketch_expr k see at e d in
          let rest = sketch_exprs k see at es x.0 in
          let q = arg_typed b ds (type_of s e) (types_in s es) h in
          (moved x.0 rest.0 x.1 (flat_type k.types b.ty) (exprs_keep k es see at x.0) (typed k s see ground sees e b.ty at d q.0), args_typed ds es at x.0 q.1)

      pub call_moves : (f : List ℕ) (n : Node) (es : Exprs) (at : Site) (d : Sketch) → lookup s.nodes f ≡ Some n → lookup s.nodes f ≡ among f → IsTrue (args_fit n.inputs (types_in s es)) → SiteGood obc (sketch_exprs k see at es d).0 at
          → let args = sketch_exprs k see at es d in Moves obc k args.0 (called_at k at f args.1 (outputs_of (k.nodes f)) args.0).0
      call_moves f n es at d is there fit g =
          let args = sketch_exprs k see at es d in
          let known_node : k.nodes f ≡ Some n = ground.nodes f n is in
          called_moves obc k at f args.1 args.0 g (subst (λ o. HaveValues obc k (outputs_of o)) (sym known_node) (firsts_have obc k types facts n.outputs (callees f n (sym there ∙ is))))
          (subst (λ o. ArgsTyped obc args.0 args.1 (types_of_decls k (inputs_of o))) (sym known_node) (args_typed n.inputs es at d fit))

      mutual
        pub expr_moves : (e : Expr) (t : Ty) (at : Site) (d : Sketch) → type_of s e ≡ Some t → ExprSound types among s lasts e → ExprTested types s e → SeesIn d → SiteGood obc d at → Moves obc k d (sketch_expr k see at e d).0
        expr_moves (constant a c) t at d h ok w v g = constant_moves obc k at (constant_value k c) (flat_type k.types t) d g (facts.constants t c (ok t h))
        expr_moves (variable a x) t at d h ok w v g = read_moves obc k at (see x).value (see x).ty d g (subst (λ u. IsSeen d (see x).value u) (sym (sees x t h)) (v.values x t h))
        expr_moves (last_of a x) t at d h ok w v g =
            let r = v.remembered x ok in
            read_moves obc k at (see x).last (see x).ty d g (subst (λ u. IsSeen d (see x).last u) (sym (sees x r.0 r.1)) r.2)
        expr_moves (one a o b) t at d h ok w v g =
            let x = sketch_expr k see at b d in
            let q = one_typed (type_of_one o) (type_of s b) t h in
            let u = flat_type k.types (type_of_one o) in
            let m = expr_moves b (type_of_one o) at d q.0 ok w v g in
            let there = typed k s see ground sees b (type_of_one o) at d q.0 in
            then_moves obc k d x.0 _ m
            (named_moves obc k at (codes "e") (type_one o) (operator (obc_one o) (Named x.1 ∷ [])) x.0 (site_moved obc d x.0 at m.keeps g) (λ i. one_value obc o) (λ i. (u ∷ [], (there, tt), type_one o, one_kind obc k o, refl)))
        expr_moves (two a o b c) t at d h ok w v g =
            let x = sketch_expr k see at b d in
            let y = sketch_expr k see at c x.0 in
            let q = two_typed o (type_of s b) (type_of s c) t h in
            let u = flat_type k.types q.0 in
            let m = expr_moves b q.0 at d q.2 ok.0 w.0 v g in
            let gx = site_moved obc d x.0 at m.keeps g in
            let n = expr_moves c q.0 at x.0 q.3 ok.1 w.1 (sees_moved d x.0 m.keeps v) gx in
            let first = moved x.0 y.0 x.1 u n.keeps (typed k s see ground sees b q.0 at d q.2) in
            let second = typed k s see ground sees c q.0 at x.0 q.3 in
            then_moves obc k d x.0 _ m (then_moves obc k x.0 y.0 _ n
            (named_moves obc k at (codes "e") (type_two o) (operator (obc_two o) (Named x.1 ∷ Named y.1 ∷ [])) y.0 (site_moved obc x.0 y.0 at n.keeps gx) (λ i. two_value obc o)
            (λ i. (u ∷ u ∷ [], (first, (second, tt)), type_two o, two_kind obc k o q.0 q.1, refl))))
        expr_moves (choose a b c e) t at d h ok w v g =
            let x = sketch_expr k see at b d in
            let y = sketch_expr k see at c x.0 in
            let z = sketch_expr k see at e y.0 in
            let u = flat_type k.types t in
            let q = if_typed (type_of s b) (type_of s c) (type_of s e) t h in
            let m = expr_moves b ty.Bool at d q.0 ok.0 w.0 v g in
            let gx = site_moved obc d x.0 at m.keeps g in
            let vx = sees_moved d x.0 m.keeps v in
            let n = expr_moves c t at x.0 q.1 ok.1.0 w.1.0 vx gx in
            let gy = site_moved obc x.0 y.0 at n.keeps gx in
            let o = expr_moves e t at y.0 q.2 ok.1.1 w.1.1 (sees_moved x.0 y.0 n.keeps vx) gy in
            let test = moved y.0 z.0 x.1 flat.Bool o.keeps (moved x.0 y.0 x.1 flat.Bool n.keeps (typed k s see ground sees b ty.Bool at d q.0)) in
            let first = moved y.0 z.0 y.1 u o.keeps (typed k s see ground sees c t at x.0 q.1) in
            let second = typed k s see ground sees e t at y.0 q.2 in
            then_moves obc k d x.0 _ m (then_moves obc k x.0 y.0 _ n (then_moves obc k y.0 z.0 _ o (mux_moves obc k at x.1 y.1 z.1 u z.0 (site_moved obc y.0 z.0 at o.keeps gy) (λ i. test) first second)))
        expr_moves (pre a b) t at d h ok w v g =
            let x = sketch_expr k see at b d in
            let m = expr_moves b t at d h ok w v g in
            then_moves obc k d x.0 _ m
            (register_moves obc k at (first_value (type_at x.0 x.1)) x.1 (flat_type k.types t) x.0 (site_moved obc d x.0 at m.keeps g) (typed k s see ground sees b t at d h) (first_good b t at d ok h))
        expr_moves (fby a b c) t at d h ok w v g =
            let x = sketch_expr k see at b d in
            let y = sketch_expr k see at c x.0 in
            let z = sketch_expr k see at c d in
            let u = flat_type k.types t in
            let q = pair_typed (type_of s b) (type_of s c) t h in
            let m = expr_moves b t at d q.0 ok.0 w.0 v g in
            let gx = site_moved obc d x.0 at m.keeps g in
            let n = expr_moves c t at x.0 q.1 ok.1 w.1 (sees_moved d x.0 m.keeps v) gx in
            let o = expr_moves c t at d q.1 ok.1 w.1 v g in
            let first = moved x.0 y.0 x.1 u n.keeps (typed k s see ground sees b t at d q.0) in
            by_moves obc k d (constant_in b) _ _
            (then_moves obc k d x.0 _ m (then_moves obc k x.0 y.0 _ n (fby_moves obc k at x.1 y u (site_moved obc x.0 y.0 at n.keeps gx) first (typed k s see ground sees c t at x.0 q.1) (first_good c t at x.0 ok.1 q.1))))
            (λ f e. then_moves obc k d z.0 (register_at at (constant_value k f) z.1 z.0).0 o
            (register_moves obc k at (constant_value k f) z.1 u z.0 (site_moved obc d z.0 at o.keeps g) (typed k s see ground sees c t at d q.1) (constant_good b f t e ok.0 q.0)))
        expr_moves (arrow a b c) t at d h ok w v g =
            let x = sketch_expr k see at b d in
            let y = sketch_expr k see at c x.0 in
            let u = flat_type k.types t in
            let q = pair_typed (type_of s b) (type_of s c) t h in
            let m = expr_moves b t at d q.0 ok.0 w.0 v g in
            let gx = site_moved obc d x.0 at m.keeps g in
            let n = expr_moves c t at x.0 q.1 ok.1 w.1 (sees_moved d x.0 m.keeps v) gx in
            let first = moved x.0 y.0 x.1 u n.keeps (typed k s see ground sees b t at d q.0) in
            then_moves obc k d x.0 _ m (then_moves obc k x.0 y.0 _ n (arrow_moves obc k at x.1 y u (site_moved obc x.0 y.0 at n.keeps gx) first (typed k s see ground sees c t at x.0 q.1)))
        expr_moves (when_is a b c x) t at d h ok w v g =
            let y = sketch_expr k see (off_site at) b d in
            let e = when_typed _ _ t h in
            let m = expr_moves b t (off_site at) d e ok w v (off_good obc d at g) in
            let u = typed k s see ground sees b t (off_site at) d e in
            then_moves obc k d y.0 _ m
            (read_moves obc k at (Some y.1) (type_at y.0 y.1) y.0 (site_moved obc d y.0 at m.keeps g) (y.1, refl, retyped y.0 y.1 (flat_type k.types t) (type_at y.0 y.1) u (sym (type_is y.0 y.1 (flat_type k.types t) u))))
        expr_moves (merge a x ps) t at d h ok w v g =
            let u = covered (lookup s.variables x) (of_parts ps) ok.0 in
            let r = v.values x u.0 u.1 in
            let cs : ConsAre types (Some u.0) (of_parts ps) = subst (λ o. ConsAre types o (of_parts ps)) u.1 w.0 in
            let m = parts_move ps t u.0 at r.0 None d (merge_typed s (lookup s.variables x) ps t h) ok.1 w.1.1 cs r.2 tt v g in
            subst (λ o. let z = tested o d in Moves obc k d (or_new (sketch_parts k see at z.1 None ps z.0)).0) (sym r.1)
            (then_moves obc k d (sketch_parts k see at r.0 None ps d).0 _ m (or_new_moves obc k (sketch_parts k see at r.0 None ps d)))
        expr_moves (call a f i es) t at d h ok w v g =
            let q = call_typed (lookup s.nodes f) (types_in s es) t h in
            let args = sketch_exprs k see at es d in
            let os = outputs_of (k.nodes f) in
            let c = called_at k at f args.1 os args.0 in
            let m = exprs_move es at d (args_have s q.0.inputs es q.2) ok.1 w v g in
            let ga = site_moved obc d args.0 at m.keeps g in
            let n = call_moves f q.0 es at d q.1 ok.0 q.2 ga in
            then_moves obc k d args.0 _ m (then_moves obc k args.0 c.0 _ n (first_moves obc k at os c (called_typed obc k at f args.1 os args.0) (site_moved obc args.0 c.0 at n.keeps ga)))

        pub exprs_move : (es : Exprs) (at : Site) (d : Sketch) → ExprsHave s es → ExprsSound types among s lasts es → ExprsTested types s es → SeesIn d → SiteGood obc d at → Moves obc k d (sketch_exprs k see at es d).0
        exprs_move no_expr at d h ok w v g = still obc k d
        exprs_move (more_exprs e es) at d h ok w v g =
            let x = sketch_expr k see at e d in
            let m = expr_moves e h.0.0 at d h.0.1 ok.0 w.0 v g in
            then_moves obc k d x.0 _ m (exprs_move es at x.0 h.1 ok.1 w.1 (sees_moved d x.0 m.keeps v) (site_moved obc d x.0 at m.keeps g))

        parts_move : (ps : Parts) (t u : Ty) (at : Site) (x : ℕ) (o : Option ℕ) (d : Sketch) → PartsHave s t ps → PartsSound types among s lasts ps → PartsTested types s ps → ConsAre types (Some u) (of_parts ps) → HasType d x (flat_type k.types u)
            → Merged d o (flat_type k.types t) → SeesIn d → SiteGood obc d at → Moves obc k d (sketch_parts k see at x o ps d).0
        parts_move no_part t u at x o d h ok w cs xt ot v g = still obc k d
        parts_move (more_parts c e ps) t u at x o d h ok w cs xt ot v g =
            let on = on_site at x (cons_number k c) in
            let n = sketch_expr k see on e d in
            let p = part_at on o n in
            let go = on_good obc d at x (cons_number k c) (flat_type k.types u) g xt (facts.wide u c cs.0) in
            let m = expr_moves e t on d h.0 ok.0 w.0 v go in
            let q = part_moves obc k on o n (flat_type k.types t) (typed k s see ground sees e t on d h.0) (merged_moved obc k d n.0 o (flat_type k.types t) m.keeps ot) (site_moved obc d n.0 on m.keeps go) in
            let r = then_moves obc k d n.0 p.0 m q.0 in
            then_moves obc k d p.0 _ r (parts_move ps t u at x (Some p.1) p.0 h.1 ok.1 w.1 cs.1 (moved d p.0 x (flat_type k.types u) r.keeps xt) q.1 (sees_moved d p.0 r.keeps v) (site_moved obc d p.0 at r.keeps g))
