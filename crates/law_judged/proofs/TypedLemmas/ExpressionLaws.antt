-- Expressions whose names are well used and whose types agree have types.
use Rattle.std.proofs.Common.{◌≡◌, ℕ, Bool, true, false, ◌&&◌, if◌then◌else◌, List, [], ◌∷◌, Option, None, Some, IsSome, is_some, length, refl, arith}
use Rattle.hp_base.specs.declared.ty.Ty.{Ty}
use Rattle.hp_base.specs.declared.ty.Const.{Const}
use Rattle.hp_base.specs.declared.ty.Const.TheVariants as const
use Rattle.hp_tree.specs.declared.decl.Cons.{Cons}
use Rattle.hp_tree.specs.declared.decl.Cons.TheVariants as cons
use Rattle.hp_tree.specs.Expressions.{Expr, constant, variable, last_of, one, two, choose, pre, fby, arrow, when_is, merge, call, Exprs, no_expr, more_exprs, Parts, no_part, more_parts, list_of}
use Rattle.hp_tree.specs.Blocks.{Decl}
use Rattle.hp_tree.specs.Programs.{Node}
use Rattle.hp_names.specs.Rules.{ConstantIsNamed, ConsIsNamed, ExprIsNamed, ExprsAreNamed, PartsAreNamed}
use Rattle.hp_base.specs.Known.Known.{lookup}
use Rattle.hp_typing.specs.Types.{agrees, chooses, enum_of, constant_type, cons_type, type_of_one, args_fit, all_typed, outputs_in, type_of, types_in, merge_type, parts_fit}
use Rattle.hp_typing.specs.Rules.{Chooses, PairsFit, ArgsFit, ExprIsTyped, ExprsAreTyped, OperandsAreTyped, PartsAreTyped}
use Rattle.law_judged.specs.Typed.Scopes.{Scope, NameScope}
use Rattle.law_judged.specs.Typed.Merges.{HasPart, ExprIsFull, ExprsAreFull, PartsAreFull}
use Rattle.law_judged.specs.Typed.Typed.{HasType, ConsHasType, ExprHasType, ExprsHaveTypes, PartsHaveTypes}
use Rattle.law_judged.proofs.TypedLemmas.NameLaws.{Covers}
use Rattle.law_judged.proofs.TypedLemmas.TypeLaws.{both, where_some, fits_agree, chooses_law, one_some, two_some, if_some, pair_some, single_some}

-- an expression with its parts has a type itself
pub has_type : (s : Scope) (e : Expr) → ExprHasType s e → HasType s e
has_type s (constant at c) h = h
has_type s (variable at x) h = h
has_type s (last_of at x) h = h
has_type s (one at op a) h = h.1
has_type s (two at op a b) h = h.1.1
has_type s (choose at a b c) h = h.1.1.1
has_type s (pre at a) h = h.1
has_type s (fby at a b) h = h.1.1
has_type s (arrow at a b) h = h.1.1
has_type s (when_is at a c x) h = h.1.1.1
has_type s (merge at x ps) h = h.1.1
has_type s (call at f inlined es) h = h.1

-- ---- constructors

enum_some : (o : Option (List ℕ)) → IsSome o → IsSome (enum_of o)
enum_some None h = absurd cc
enum_some (Some t) h = refl

pub constant_typed : (s : Scope) (n : NameScope) (c : Const) → Covers s n → ConstantIsNamed n c → IsSome (constant_type s c)
constant_typed s n (const.B b) k m = refl
constant_typed s n (const.I i) k m = refl
constant_typed s n (const.E c) k m = enum_some (lookup s.constructors c) (k.of_constructors c m)

pub cons_typed : (s : Scope) (n : NameScope) (c : Cons) → Covers s n → ConsIsNamed n c → ConsHasType s c
cons_typed s n cons.False k m = refl
cons_typed s n cons.True k m = refl
cons_typed s n (cons.Named c) k m = enum_some (lookup s.constructors c) (k.of_constructors c m)

-- ---- calls

all_have : (s : Scope) (es : Exprs) → ExprsHaveTypes s es → all_typed (types_in s es) ≡ true
all_have s no_expr h = refl
all_have s (more_exprs e es) h = both (is_some (type_of s e)) (all_typed (types_in s es)) (has_type s e h.0) (all_have s es h.1)

pairs_fit : (s : Scope) (ds : List Decl) (es : Exprs) → ExprsHaveTypes s es → length ds ≡ length (list_of es) → PairsFit s ds es → args_fit ds (types_in s es) ≡ true
pairs_fit s [] no_expr h l p = refl
pairs_fit s [] (more_exprs e es) h l p = absurd (omega arith)
pairs_fit s (d ∷ ds) no_expr h l p = absurd (omega arith)
pairs_fit s (d ∷ ds) (more_exprs e es) h l p =
    both (agrees (Some d.ty) (type_of s e)) (args_fit ds (types_in s es)) (fits_agree (Some d.ty) (type_of s e) refl (has_type s e h.0) p.0)
    (pairs_fit s ds es h.1 (omega arith) p.1)

pub outputs_some : (s : Scope) (n : Option Node) (es : Exprs) → IsSome n → ExprsHaveTypes s es → ArgsFit s n es → IsSome (outputs_in n (types_in s es))
outputs_some s None es i h a = absurd cc
outputs_some s (Some n) es i h a = let f = a (all_have s es h) in by (args_fit n.inputs (types_in s es)) (pairs_fit s n.inputs es h f.0 f.1)
  where
    by : (fit : Bool) → fit ≡ true → IsSome (if fit then Some n.outputs else None)
    by true p = refl
    by false p = absurd cc

-- ---- expressions

module _ (s : Scope) (n : NameScope) (k : Covers s n) where
  mutual
    pub expr_typed : (e : Expr) → ExprIsNamed n e → ExprIsTyped s e → ExprIsFull e → ExprHasType s e
    expr_typed (constant at c) m t f = constant_typed s n c k m
    expr_typed (variable at x) m t f = k.of_variables x m
    expr_typed (last_of at x) m t f = k.of_lasts x m
    expr_typed (one at op a) m t f =
        let h = expr_typed a m t.0 f in
        (h, one_some (type_of_one op) (type_of s a) (has_type s a h) t.1)
    expr_typed (two at op a b) m t f =
        let h = expr_typed a m.0 t.0 f.0 in
        let i = expr_typed b m.1 t.1.0 f.1 in
        (h, (i, two_some op (type_of s a) (type_of s b) (has_type s a h) (has_type s b i) t.1.1.0 t.1.1.1))
    expr_typed (choose at a b c) m t f =
        let h = expr_typed a m.0 t.0 f.0 in
        let i = expr_typed b m.1.0 t.1.0 f.1.0 in
        let j = expr_typed c m.1.1 t.1.1.0 f.1.1 in
        (h, (i, (j, if_some (type_of s a) (type_of s b) (type_of s c) (has_type s a h) (has_type s b i) (has_type s c j) t.1.1.1.0 t.1.1.1.1)))
    expr_typed (pre at a) m t f = let h = expr_typed a m t f in (h, has_type s a h)
    expr_typed (fby at a b) m t f =
        let h = expr_typed a m.0 t.0 f.0 in
        let i = expr_typed b m.1 t.1.0 f.1 in
        (h, (i, pair_some (type_of s a) (type_of s b) (has_type s a h) (has_type s b i) t.1.1))
    expr_typed (arrow at a b) m t f =
        let h = expr_typed a m.0 t.0 f.0 in
        let i = expr_typed b m.1 t.1.0 f.1 in
        (h, (i, pair_some (type_of s a) (type_of s b) (has_type s a h) (has_type s b i) t.1.1))
    expr_typed (when_is at a c x) m t f =
        let h = expr_typed a m.0 t.0 f in
        let i = cons_typed s n c k m.1.0 in
        let j = k.of_variables x m.1.1 in
        (h, (i, (j, where_some (agrees (lookup s.variables x) (cons_type s c)) (type_of s a) (fits_agree (lookup s.variables x) (cons_type s c) j i t.1) (has_type s a h))))
    expr_typed (merge at x ps) m t f =
        let h = k.of_variables x m.0 in
        let i = operands_typed (lookup s.variables x) h t.0 ps m.1 t.1 f.1 f.0 in
        (h, (i.0, i.1))
    expr_typed (call at f inlined es) m t p =
        let h = exprs_typed es m.1 t.0.0 p in
        let o = outputs_some s (lookup s.nodes f) es (k.of_nodes f m.0) h t.0.1 in
        (h, single_some (outputs_in (lookup s.nodes f) (types_in s es)) o t.1)

    pub exprs_typed : (es : Exprs) → ExprsAreNamed n es → ExprsAreTyped s es → ExprsAreFull es → ExprsHaveTypes s es
    exprs_typed no_expr m t f = tt
    exprs_typed (more_exprs e es) m t f = (expr_typed e m.0 t.0 f.0, exprs_typed es m.1 t.1 f.1)

    operands_typed : (name : Option Ty) → IsSome name → Chooses name → (ps : Parts) → PartsAreNamed n ps → OperandsAreTyped s name ps → PartsAreFull ps → HasPart ps
        → PartsHaveTypes s ps × IsSome (merge_type s name ps)
    operands_typed name i c no_part m t f p = absurd p
    operands_typed name i c (more_parts cons e ps) m t f p =
        let g = cons_typed s n cons k m.0 in
        let h = expr_typed e m.1.0 t.1.0 f.0 in
        let rest = parts_typed name (type_of s e) i (has_type s e h) ps m.1.1 t.1.1 f.1 in (
          (g, (h, rest.0)),
          where_some (chooses name && (agrees name (cons_type s cons) && parts_fit s name (type_of s e) ps)) (type_of s e)
              (both (chooses name) (agrees name (cons_type s cons) && parts_fit s name (type_of s e) ps) (chooses_law name i c)
              (both (agrees name (cons_type s cons)) (parts_fit s name (type_of s e) ps) (fits_agree name (cons_type s cons) i g t.0) rest.1))
              (has_type s e h),
        )

    parts_typed : (name first : Option Ty) → IsSome name → IsSome first → (ps : Parts) → PartsAreNamed n ps → PartsAreTyped s name first ps → PartsAreFull ps
        → PartsHaveTypes s ps × (parts_fit s name first ps ≡ true)
    parts_typed name first i j no_part m t f = (tt, refl)
    parts_typed name first i j (more_parts cons e ps) m t f =
        let g = cons_typed s n cons k m.0 in
        let h = expr_typed e m.1.0 t.1.0 f.0 in
        let rest = parts_typed name first i j ps m.1.1 t.1.1.1 f.1 in (
          (g, (h, rest.0)),
          both (agrees name (cons_type s cons)) (agrees first (type_of s e) && parts_fit s name first ps) (fits_agree name (cons_type s cons) i g t.0)
              (both (agrees first (type_of s e)) (parts_fit s name first ps) (fits_agree first (type_of s e) j (has_type s e h) t.1.1.0) rest.1),
        )
