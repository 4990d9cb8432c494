-- Where the parts of an expression have types, and these agree, it has one.
use Rattle.std.proofs.Common.{◌≡◌, Bool, true, false, ◌&&◌, List, [], ◌∷◌, Option, None, Some, IsSome, refl, sym, ap, ◌∙◌, arith}
use Rattle.std.specs.Cmp.Lexicographic.{nat_list_eq_equiv}
use Rattle.hp_base.specs.declared.ty.Ty.{Ty}
use Rattle.hp_base.specs.declared.ty.Ty.TheVariants.{Bool as bool, Int as int, Enum as enum}
use Rattle.hp_tree.specs.declared.expr.Op2.{Op2}
use Rattle.hp_tree.specs.declared.expr.Op2.TheVariants.{And, Or, Xor, Imp, Eq, Ne, Lt, Le, Gt, Ge, Add, Sub, Mul, Div, Rem}
use Rattle.hp_tree.specs.Blocks.{Decl}
use Rattle.hp_typing.specs.Types.{same_type, agrees, chooses, operand, answer, where_true, two_type, if_type, pair_type, single}
use Rattle.hp_typing.specs.Rules.{Fits, Chooses, AreOutputs}

pub both : (a b : Bool) → a ≡ true → b ≡ true → (a && b) ≡ true
both true b p q = q
both false b p q = absurd cc

pub where_some : (b : Bool) (t : Option Ty) → b ≡ true → IsSome t → IsSome (where_true b t)
where_some true t p h = h
where_some false t p h = absurd cc

same_self : (t : Ty) → same_type t t ≡ true
same_self bool = refl
same_self int = refl
same_self (enum t) = nat_list_eq_equiv.refl t

pub fits_agree : (t u : Option Ty) → IsSome t → IsSome u → Fits t u → agrees t u ≡ true
fits_agree None u h k f = absurd cc
fits_agree (Some t) None h k f = absurd cc
fits_agree (Some t) (Some u) h k f = ap (same_type t) (sym f) ∙ same_self t

pub chooses_law : (t : Option Ty) → IsSome t → Chooses t → chooses t ≡ true
chooses_law None h c = absurd cc
chooses_law (Some bool) h c = refl
chooses_law (Some (enum t)) h c = refl
chooses_law (Some int) h c = absurd c

operand_some : (op : Op2) (t : Option Ty) → IsSome t → IsSome (operand op t)
operand_some And t h = refl
operand_some Or t h = refl
operand_some Xor t h = refl
operand_some Imp t h = refl
operand_some Eq t h = h
operand_some Ne t h = h
operand_some Lt t h = refl
operand_some Le t h = refl
operand_some Gt t h = refl
operand_some Ge t h = refl
operand_some Add t h = refl
operand_some Sub t h = refl
operand_some Mul t h = refl
operand_some Div t h = refl
operand_some Rem t h = refl

pub one_some : (t : Ty) (u : Option Ty) → IsSome u → Fits (Some t) u → IsSome (where_true (agrees (Some t) u) (Some t))
one_some t u h f = where_some (agrees (Some t) u) (Some t) (fits_agree (Some t) u refl h f) refl

pub two_some : (op : Op2) (t u : Option Ty) → IsSome t → IsSome u → Fits (operand op t) t → Fits (operand op t) u → IsSome (two_type op t u)
two_some op t u h k f g =
    let w = operand_some op t h in
    where_some (agrees (operand op t) t && agrees (operand op t) u) (Some (answer op))
    (both (agrees (operand op t) t) (agrees (operand op t) u) (fits_agree (operand op t) t w h f) (fits_agree (operand op t) u w k g)) refl

pub if_some : (test t u : Option Ty) → IsSome test → IsSome t → IsSome u → Fits (Some bool) test → Fits t u → IsSome (if_type test t u)
if_some test t u i h k f g =
    where_some (agrees (Some bool) test && agrees t u) t
    (both (agrees (Some bool) test) (agrees t u) (fits_agree (Some bool) test refl i f) (fits_agree t u h k g)) h

pub pair_some : (t u : Option Ty) → IsSome t → IsSome u → Fits t u → IsSome (pair_type t u)
pair_some t u h k f = where_some (agrees t u) t (fits_agree t u h k f) h

-- a call of one output has its type
pub single_some : (o : Option (List Decl)) → IsSome o → AreOutputs 1 o → IsSome (single o)
single_some None h e = absurd cc
single_some (Some []) h e = absurd (omega arith)
single_some (Some (d ∷ [])) h e = refl
single_some (Some (d ∷ f ∷ ds)) h e = absurd (omega arith)
