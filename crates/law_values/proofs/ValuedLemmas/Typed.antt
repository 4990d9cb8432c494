-- What the type of an expression says of its parts.
use Rattle.std.proofs.Common.{◌≡◌, List, [], ◌∷◌, refl, sym, ap, subst, ◌∙◌}
use Rattle.std.specs.Prelude.{⊤, Bool, true, false, ◌&&◌, IsTrue, if◌then◌else◌, Option, None, Some}
use Rattle.std.proofs.lemmas.Slice.Eq.{bytes_eq-Decides}
use Rattle.hp_base.specs.declared.ty.Ty.{Ty}
use Rattle.hp_base.specs.declared.ty.Ty.TheVariants as ty
use Rattle.hp_tree.specs.declared.expr.Op2.{Op2}
use Rattle.hp_tree.specs.Expressions.{Parts, no_part, more_parts}
use Rattle.hp_tree.specs.Blocks.{Decl}
use Rattle.hp_tree.specs.Programs.{Node}
use Rattle.hp_typing.specs.Types.{same_type, agrees, where_true, operand, answer, two_type, if_type, pair_type, single, outputs_in, args_fit, input_type, cons_type, chooses, type_of, merge_type, parts_fit}
use Rattle.law_judged.specs.Typed.Scopes.{Scope}
use Rattle.law_values.specs.Valued.Fitting.{first_output}
use Rattle.law_values.proofs.ValuedLemmas.Laws.{and_left, and_right}

same_types : (t u : Ty) → IsTrue (same_type t u) → t ≡ u
same_types ty.Bool ty.Bool h = refl
same_types ty.Int ty.Int h = refl
same_types (ty.Enum t) (ty.Enum u) h = ap ty.Enum ((bytes_eq-Decides t u).0 h)
same_types ty.Bool ty.Int h = absurd (cc)
same_types ty.Bool (ty.Enum u) h = absurd (cc)
same_types ty.Int ty.Bool h = absurd (cc)
same_types ty.Int (ty.Enum u) h = absurd (cc)
same_types (ty.Enum t) ty.Bool h = absurd (cc)
same_types (ty.Enum t) ty.Int h = absurd (cc)

pub agreed : (o p : Option Ty) → IsTrue (agrees o p) → (t : Ty) × (o ≡ Some t) × (p ≡ Some t)
agreed None p h = absurd (cc)
agreed (Some t) None h = absurd (cc)
agreed (Some t) (Some u) h = (t, refl, ap Some (sym (same_types t u h)))

pub where_is : (d : Bool) (o : Option Ty) (t : Ty) → where_true d o ≡ Some t → IsTrue d × (o ≡ Some t)
where_is true o t h = (refl, h)
where_is false o t h = absurd (cc)

pub some_is : {A : Type 0} (a b : A) → Some a ≡ Some b → a ≡ b
some_is a b h = cc

pub one_typed : (w : Ty) (o : Option Ty) (t : Ty) → where_true (agrees (Some w) o) (Some w) ≡ Some t → (o ≡ Some w) × (w ≡ t)
one_typed w o t h =
    let a = where_is (agrees (Some w) o) (Some w) t h in
    let b = agreed (Some w) o a.0 in
    (b.2 ∙ sym b.1, some_is w t a.1)

pub two_typed : (op : Op2) (o p : Option Ty) (t : Ty) → two_type op o p ≡ Some t → (u : Ty) × (operand op (Some u) ≡ Some u) × (o ≡ Some u) × (p ≡ Some u) × (answer op ≡ t)
two_typed op o p t h =
    let a = where_is (agrees (operand op o) o && agrees (operand op o) p) (Some (answer op)) t h in
    let b = agreed (operand op o) o (and_left _ _ a.0) in
    let c = agreed (operand op o) p (and_right _ _ a.0) in
    (b.0, subst (λ z. operand op z ≡ Some b.0) b.2 b.1, b.2, c.2 ∙ sym c.1 ∙ b.1, some_is (answer op) t a.1)

pub if_typed : (o p q : Option Ty) (t : Ty) → if_type o p q ≡ Some t → (o ≡ Some ty.Bool) × (p ≡ Some t) × (q ≡ Some t)
if_typed o p q t h =
    let a = where_is (agrees (Some ty.Bool) o && agrees p q) p t h in
    let b = agreed (Some ty.Bool) o (and_left _ _ a.0) in
    let c = agreed p q (and_right _ _ a.0) in
    (b.2 ∙ sym b.1, a.1, c.2 ∙ sym c.1 ∙ a.1)

pub pair_typed : (o p : Option Ty) (t : Ty) → pair_type o p ≡ Some t → (o ≡ Some t) × (p ≡ Some t)
pair_typed o p t h =
    let a = where_is (agrees o p) o t h in
    let c = agreed o p a.0 in
    (a.1, c.2 ∙ sym c.1 ∙ a.1)

pub when_typed : (d : Bool) (o : Option Ty) (t : Ty) → where_true d o ≡ Some t → o ≡ Some t
when_typed d o t h = (where_is d o t h).1

-- a call, of one node, whose first output is of the type
pub call_typed : (o : Option Node) (ts : List (Option Ty)) (t : Ty) → single (outputs_in o ts) ≡ Some t → (n : Node) × (o ≡ Some n) × IsTrue (args_fit n.inputs ts) × (first_output o ≡ Some t)
call_typed None ts t h = absurd (cc)
call_typed (Some n) ts t h = by (args_fit n.inputs ts) refl
  where
    one : (ds : List Decl) → single (Some ds) ≡ Some t → input_type ds ≡ Some t
    one [] h = absurd (cc)
    one (d ∷ []) h = h
    one (d ∷ e ∷ ds) h = absurd (cc)

    by : (b : Bool) → args_fit n.inputs ts ≡ b → (m : Node) × (Some n ≡ Some m) × IsTrue (args_fit m.inputs ts) × (first_output (Some n) ≡ Some t)
    by true e = (n, refl, e, one n.outputs (ap (λ z. single (if z then Some n.outputs else None)) (sym e) ∙ h))
    by false e = let k : single (if false then Some n.outputs else None) ≡ Some t = ap (λ z. single (if z then Some n.outputs else None)) (sym e) ∙ h in absurd (cc)

pub row_typed : (o : Option Node) (ts : List (Option Ty)) (ds : List Decl) → outputs_in o ts ≡ Some ds → (n : Node) × (o ≡ Some n) × IsTrue (args_fit n.inputs ts) × (n.outputs ≡ ds)
row_typed None ts ds h = absurd (cc)
row_typed (Some n) ts ds h = by (args_fit n.inputs ts) refl
  where
    by : (b : Bool) → args_fit n.inputs ts ≡ b → (m : Node) × (Some n ≡ Some m) × IsTrue (args_fit m.inputs ts) × (m.outputs ≡ ds)
    by true e = (n, refl, e, some_is n.outputs ds (ap (λ z. if z then Some n.outputs else None) (sym e) ∙ h))
    by false e = let k : (if false then Some n.outputs else None) ≡ Some ds = ap (λ z. if z then Some n.outputs else None) (sym e) ∙ h in absurd (cc)

-- the type of each operand of a `merge`
abbrev pub PartsHave : Scope → Ty → Parts → Type 0
PartsHave s t no_part = ⊤
PartsHave s t (more_parts c e ps) = (type_of s e ≡ Some t) × PartsHave s t ps

parts_have : (s : Scope) (name first : Option Ty) (t : Ty) (ps : Parts) → first ≡ Some t → IsTrue (parts_fit s name first ps) → PartsHave s t ps
parts_have s name first t no_part e h = tt
parts_have s name first t (more_parts c d ps) e h =
    let k = and_right _ _ h in
    let a = agreed first (type_of s d) (and_left _ _ k) in
    (a.2 ∙ sym a.1 ∙ e, parts_have s name first t ps e (and_right _ _ k))

pub merge_typed : (s : Scope) (name : Option Ty) (ps : Parts) (t : Ty) → merge_type s name ps ≡ Some t → PartsHave s t ps
merge_typed s name no_part t h = absurd (cc)
merge_typed s name (more_parts c e ps) t h =
    let a = where_is (chooses name && (agrees name (cons_type s c) && parts_fit s name (type_of s e) ps)) (type_of s e) t h in
    (a.1, parts_have s name (type_of s e) t ps a.1 (and_right _ _ (and_right _ _ a.0)))

-- an argument of each input
pub arg_typed : (d : Decl) (ds : List Decl) (o : Option Ty) (os : List (Option Ty)) → IsTrue (args_fit (d ∷ ds) (o ∷ os)) → (o ≡ Some d.ty) × IsTrue (args_fit ds os)
arg_typed d ds o os h =
    let a = agreed (Some d.ty) o (and_left _ _ h) in
    (a.2 ∙ sym a.1, and_right _ _ h)
