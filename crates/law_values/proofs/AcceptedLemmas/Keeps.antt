-- Parts that become other parts, which have the same types and are sound.
use Rattle.std.proofs.Common.{◌≡◌, ℕ, List, [], ◌∷◌, map, refl, sym, ap, ap₂, subst, ◌∙◌}
use Rattle.std.specs.Prelude.{⊤, Bool, true, false, ◌&&◌, IsTrue, IsFalse, if◌then◌else◌, Option, None, Some}
use Rattle.std.specs.Str.{bytes_eq}
use Rattle.std.proofs.lemmas.Slice.Eq.{bytes_eq-Decides}
use Rattle.hp_base.specs.declared.span.Span.{Span}
use Rattle.hp_base.specs.declared.ty.Ty.{Ty}
use Rattle.hp_base.specs.declared.ty.Ty.TheVariants as ty
use Rattle.hp_base.specs.declared.ty.Const.{Const}
use Rattle.hp_base.specs.declared.ty.Const.TheVariants as const
use Rattle.hp_tree.specs.declared.decl.Cons.{Cons}
use Rattle.hp_tree.specs.declared.decl.Cons.TheVariants as cons
use Rattle.hp_tree.specs.declared.block.Trans.{Trans}
use Rattle.hp_tree.specs.declared.expr.Op2.{Op2}
use Rattle.hp_tree.specs.Expressions.{Expr, constant, variable, last_of, one, two, choose, pre, fby, arrow, when_is, merge, call, Exprs, no_expr, more_exprs, Parts, no_part, more_parts}
use Rattle.hp_tree.specs.Blocks.{Decl}
use Rattle.hp_tree.specs.Programs.{TypeDecl, Node}
use Rattle.hp_base.specs.Known.Known.{lookup}
use Rattle.hp_typing.specs.Types.{same_type, agrees, type_of, types_in, enum_of, constant_type, cons_type, chooses, where_true, two_type, if_type, pair_type, single, args_fit, outputs_in, merge_type, parts_fit}
use Rattle.law_judged.specs.Named.Scopes.{Scope}
use Rattle.hp_expand.specs.Renaming.{renamed, renamed_exprs, renamed_parts, renamed_left, renamed_transition}
use Rattle.law_values.specs.Valued.Judged.{Lasts, CoversType, of_parts, ConstantIs, LeftsAre, LeftsHave, ExprSound, ExprsSound, PartsSound, RightSound, TestSound, TestsSound}
use Rattle.law_values.proofs.ValuedLemmas.Typed.{some_is, agreed, where_is, one_typed, two_typed, if_typed, pair_typed, row_typed, arg_typed}
use Rattle.law_values.proofs.AcceptedLemmas.Views.{and_left, and_right, and_both}

same_self : (t : Ty) → IsTrue (same_type t t)
same_self ty.Bool = refl
same_self ty.Int = refl
same_self (ty.Enum t) = (bytes_eq-Decides t t).1 refl

-- what has a type keeps it
abbrev pub Kept : Option Ty → Option Ty → Type 0
Kept o p = (t : Ty) → o ≡ Some t → p ≡ Some t

abbrev pub KeptName : Scope → Scope → List ℕ → List ℕ → Type 0
KeptName s r x y = (t : Ty) → lookup s.variables x ≡ Some t → lookup r.variables y ≡ Some t

-- A scope in which types and constructors are known that are known in another, and nodes with the same inputs and outputs.
pub record Grows (types : List TypeDecl) (among : List ℕ → Option Node) (s r : Scope) : Type 0 where
  pub conses : (c t : List ℕ) → lookup s.constructors c ≡ Some t → lookup r.constructors c ≡ Some t
  pub nodes : (f : List ℕ) (n : Node) → lookup s.nodes f ≡ Some n → (m : Node) × ((lookup r.nodes f ≡ Some m) × ((m.inputs ≡ n.inputs) × (m.outputs ≡ n.outputs)))
  pub constants : (c : Const) → ConstantIs types r c
  pub known : (f : List ℕ) → lookup r.nodes f ≡ among f

module _ (types : List TypeDecl) (among : List ℕ → Option Node) (s r : Scope) (g : Grows types among s r) where
  enum_kept : (c : List ℕ) → Kept (enum_of (lookup s.constructors c)) (enum_of (lookup r.constructors c))
  enum_kept c t h = by (lookup s.constructors c) refl h
    where
      by : (o : Option (List ℕ)) → lookup s.constructors c ≡ o → enum_of o ≡ Some t → enum_of (lookup r.constructors c) ≡ Some t
      by None e k = absurd (cc)
      by (Some u) e k = ap enum_of (g.conses c u e) ∙ k

  pub constant_kept : (c : Const) → Kept (constant_type s c) (constant_type r c)
  constant_kept (const.B b) t h = h
  constant_kept (const.I n) t h = h
  constant_kept (const.E c) t h = enum_kept c t h

  pub cons_kept : (c : Cons) → Kept (cons_type s c) (cons_type r c)
  cons_kept cons.False t h = h
  cons_kept cons.True t h = h
  cons_kept (cons.Named c) t h = enum_kept c t h

  pub one_kept : (w : Ty) (o p : Option Ty) → Kept o p → Kept (where_true (agrees (Some w) o) (Some w)) (where_true (agrees (Some w) p) (Some w))
  one_kept w o p k t h =
      let q = one_typed w o t h in
      ap (λ z. where_true (agrees (Some w) z) (Some w)) (k w q.0 ∙ sym q.0) ∙ h

  pub two_kept : (op : Op2) (o p o' p' : Option Ty) → Kept o o' → Kept p p' → Kept (two_type op o p) (two_type op o' p')
  two_kept op o p o' p' k l t h =
      let q = two_typed op o p t h in
      ap₂ (λ y z. two_type op y z) (k q.0 q.2 ∙ sym q.2) (l q.0 q.3 ∙ sym q.3) ∙ h

  pub if_kept : (o p q o' p' q' : Option Ty) → Kept o o' → Kept p p' → Kept q q' → Kept (if_type o p q) (if_type o' p' q')
  if_kept o p q o' p' q' k l m t h =
      let i = if_typed o p q t h in
      ap (λ z. if_type z p' q') (k ty.Bool i.0 ∙ sym i.0) ∙ ap₂ (λ y z. if_type o y z) (l t i.1 ∙ sym i.1) (m t i.2 ∙ sym i.2) ∙ h

  pub pair_kept : (o p o' p' : Option Ty) → Kept o o' → Kept p p' → Kept (pair_type o p) (pair_type o' p')
  pair_kept o p o' p' k l t h =
      let q = pair_typed o p t h in
      ap₂ (λ y z. pair_type y z) (k t q.0 ∙ sym q.0) (l t q.1 ∙ sym q.1) ∙ h

  pub when_kept : (c : Cons) (x y : List ℕ) (o p : Option Ty) → KeptName s r x y → Kept o p → Kept (where_true (agrees (lookup s.variables x) (cons_type s c)) o) (where_true (agrees (lookup r.variables y) (cons_type r c)) p)
  when_kept c x y o p n k t h =
      let a = where_is (agrees (lookup s.variables x) (cons_type s c)) o t h in
      let b = agreed (lookup s.variables x) (cons_type s c) a.0 in
      ap (λ z. where_true (agrees z (cons_type r c)) p) (n b.0 b.1 ∙ sym b.1) ∙ ap₂ (λ w z. where_true (agrees (lookup s.variables x) w) z) (cons_kept c b.0 b.2 ∙ sym b.2) (k t a.1 ∙ sym a.1) ∙ h

  -- ---- arguments and operands, one by one

  abbrev pub ArgsKept : Exprs → Exprs → Type 0
  ArgsKept no_expr no_expr = ⊤
  ArgsKept (more_exprs e es) (more_exprs a as') = Kept (type_of s e) (type_of r a) × ArgsKept es as'
  ArgsKept es as' = ⊥

  pub args_kept : (ds : List Decl) (es as' : Exprs) → ArgsKept es as' → IsTrue (args_fit ds (types_in s es)) → IsTrue (args_fit ds (types_in r as'))
  args_kept [] no_expr no_expr k h = h
  args_kept [] (more_exprs e es) as' k h = absurd (cc)
  args_kept (d ∷ ds) no_expr as' k h = absurd (cc)
  args_kept (d ∷ ds) (more_exprs e es) (more_exprs a as') k h =
      let q = arg_typed d ds (type_of s e) (types_in s es) h in
      and_both (agrees (Some d.ty) (type_of r a)) (args_fit ds (types_in r as')) (subst (λ z. IsTrue (agrees (Some d.ty) z)) (sym (k.0 d.ty q.0)) (same_self d.ty)) (args_kept ds es as' k.1 q.1)
  args_kept [] no_expr (more_exprs a as') k h = absurd k
  args_kept (d ∷ ds) (more_exprs e es) no_expr k h = absurd k

  outputs_some : (b : Bool) (n : Node) → IsTrue b → (if b then Some n.outputs else None) ≡ Some n.outputs
  outputs_some true n h = refl
  outputs_some false n h = absurd (cc)

  pub outputs_kept : (f : List ℕ) (es as' : Exprs) (outs : List Decl) → ArgsKept es as' → outputs_in (lookup s.nodes f) (types_in s es) ≡ Some outs → outputs_in (lookup r.nodes f) (types_in r as') ≡ Some outs
  outputs_kept f es as' outs k h =
      let q = row_typed (lookup s.nodes f) (types_in s es) outs h in
      let m = g.nodes f q.0 q.1 in
      ap (λ z. outputs_in z (types_in r as')) m.1.0
      ∙ outputs_some (args_fit m.0.inputs (types_in r as')) m.0 (subst (λ z. IsTrue (args_fit z (types_in r as'))) (sym m.1.1.0) (args_kept q.0.inputs es as' k q.2))
      ∙ ap Some (m.1.1.1 ∙ q.3)

  pub call_kept : (f : List ℕ) (es as' : Exprs) → ArgsKept es as' → Kept (single (outputs_in (lookup s.nodes f) (types_in s es))) (single (outputs_in (lookup r.nodes f) (types_in r as')))
  call_kept f es as' k t h = by (outputs_in (lookup s.nodes f) (types_in s es)) refl h
    where
      by : (o : Option (List Decl)) → outputs_in (lookup s.nodes f) (types_in s es) ≡ o → single o ≡ Some t → single (outputs_in (lookup r.nodes f) (types_in r as')) ≡ Some t
      by None e m = absurd (cc)
      by (Some outs) e m = ap single (outputs_kept f es as' outs k e) ∙ m

  abbrev pub PartsKept : Parts → Parts → Type 0
  PartsKept no_part no_part = ⊤
  PartsKept (more_parts c e ps) (more_parts d a qs) = (d ≡ c) × (Kept (type_of s e) (type_of r a) × PartsKept ps qs)
  PartsKept ps qs = ⊥

  pub parts_conses : (ps qs : Parts) → PartsKept ps qs → of_parts ps ≡ of_parts qs
  parts_conses no_part no_part k = refl
  parts_conses (more_parts c e ps) (more_parts d a qs) k = ap₂ (λ x xs. x ∷ xs) (sym k.0) (parts_conses ps qs k.1.1)
  parts_conses no_part (more_parts d a qs) k = absurd k
  parts_conses (more_parts c e ps) no_part k = absurd k

  fit_kept : (name name' first first' : Option Ty) (ps qs : Parts) → name' ≡ name → first' ≡ first → PartsKept ps qs → IsTrue (parts_fit s name first ps) → IsTrue (parts_fit r name' first' qs)
  fit_kept name name' first first' no_part no_part n f k h = refl
  fit_kept name name' first first' (more_parts c e ps) (more_parts d a qs) n f k h =
      let h1 = and_right (agrees name (cons_type s c)) (agrees first (type_of s e) && parts_fit s name first ps) h in
      let b = agreed name (cons_type s c) (and_left (agrees name (cons_type s c)) (agrees first (type_of s e) && parts_fit s name first ps) h) in
      let u = agreed first (type_of s e) (and_left (agrees first (type_of s e)) (parts_fit s name first ps) h1) in
      and_both (agrees name' (cons_type r d)) (agrees first' (type_of r a) && parts_fit r name' first' qs)
      (subst (λ z. IsTrue (agrees z (cons_type r d))) (sym (n ∙ b.1)) (subst (λ z. IsTrue (agrees (Some b.0) z)) (sym (ap (cons_type r) k.0 ∙ cons_kept c b.0 b.2)) (same_self b.0)))
      (and_both (agrees first' (type_of r a)) (parts_fit r name' first' qs)
      (subst (λ z. IsTrue (agrees z (type_of r a))) (sym (f ∙ u.1)) (subst (λ z. IsTrue (agrees (Some u.0) z)) (sym (k.1.0 u.0 u.2)) (same_self u.0)))
      (fit_kept name name' first first' ps qs n f k.1.1 (and_right (agrees first (type_of s e)) (parts_fit s name first ps) h1)))
  fit_kept name name' first first' no_part (more_parts d a qs) n f k h = absurd k
  fit_kept name name' first first' (more_parts c e ps) no_part n f k h = absurd k

  merge_by : (d : Bool) (o : Option Ty) (t : Ty) → IsTrue d → o ≡ Some t → where_true d o ≡ Some t
  merge_by true o t h e = e
  merge_by false o t h e = absurd (cc)

  pub merge_kept : (x y : List ℕ) (ps qs : Parts) → KeptName s r x y → PartsKept ps qs → Kept (merge_type s (lookup s.variables x) ps) (merge_type r (lookup r.variables y) qs)
  merge_kept x y no_part no_part n k t h = absurd (cc)
  merge_kept x y (more_parts c e ps) (more_parts d a qs) n k t h =
      let name = lookup s.variables x in
      let name' = lookup r.variables y in
      let w = where_is (chooses name && (agrees name (cons_type s c) && parts_fit s name (type_of s e) ps)) (type_of s e) t h in
      let w1 = and_right (chooses name) (agrees name (cons_type s c) && parts_fit s name (type_of s e) ps) w.0 in
      let b = agreed name (cons_type s c) (and_left (agrees name (cons_type s c)) (parts_fit s name (type_of s e) ps) w1) in
      let same : name' ≡ name = n b.0 b.1 ∙ sym b.1 in
      let first : type_of r a ≡ type_of s e = k.1.0 t w.1 ∙ sym w.1 in
      merge_by (chooses name' && (agrees name' (cons_type r d) && parts_fit r name' (type_of r a) qs)) (type_of r a) t
      (and_both (chooses name') (agrees name' (cons_type r d) && parts_fit r name' (type_of r a) qs)
      (subst (λ z. IsTrue (chooses z)) (sym same) (and_left (chooses name) (agrees name (cons_type s c) && parts_fit s name (type_of s e) ps) w.0))
      (and_both (agrees name' (cons_type r d)) (parts_fit r name' (type_of r a) qs)
      (subst (λ z. IsTrue (agrees z (cons_type r d))) (sym (same ∙ b.1)) (subst (λ z. IsTrue (agrees (Some b.0) z)) (sym (ap (cons_type r) k.0 ∙ cons_kept c b.0 b.2)) (same_self b.0)))
      (fit_kept name name' (type_of s e) (type_of r a) ps qs same first k.1.1 (and_right (agrees name (cons_type s c)) (parts_fit s name (type_of s e) ps) w1))))
      (k.1.0 t w.1)
  merge_kept x y no_part (more_parts d a qs) n k t h = absurd k
  merge_kept x y (more_parts c e ps) no_part n k t h = absurd k

  pub covers_kept : (x y : List ℕ) (cs ds : List Cons) → KeptName s r x y → cs ≡ ds → CoversType types (lookup s.variables x) cs → CoversType types (lookup r.variables y) ds
  covers_kept x y cs ds n e h = by (lookup s.variables x) refl h
    where
      by : (o : Option Ty) → lookup s.variables x ≡ o → CoversType types o cs → CoversType types (lookup r.variables y) ds
      by None q h = absurd h
      by (Some t) q h = subst (λ z. CoversType types z ds) (sym (n t q)) (subst (λ z. CoversType types (Some t) z) e h)

  -- ---- names under other names

  module _ (among' : List ℕ → Option Node) (to : List ℕ → List ℕ) (lasts lasts' : Lasts) (names : (x : List ℕ) → KeptName s r x (to x)) (lasting : (x : List ℕ) → IsTrue (lasts x) → IsTrue (lasts' (to x))) where
    mutual
      pub expr_kept : (e : Expr) → Kept (type_of s e) (type_of r (renamed to e))
      expr_kept (constant a c) = constant_kept c
      expr_kept (variable a x) = names x
      expr_kept (last_of a x) = names x
      expr_kept (one a o b) = one_kept _ (type_of s b) (type_of r (renamed to b)) (expr_kept b)
      expr_kept (two a o b c) = two_kept o (type_of s b) (type_of s c) (type_of r (renamed to b)) (type_of r (renamed to c)) (expr_kept b) (expr_kept c)
      expr_kept (choose a b c d) = if_kept (type_of s b) (type_of s c) (type_of s d) (type_of r (renamed to b)) (type_of r (renamed to c)) (type_of r (renamed to d)) (expr_kept b) (expr_kept c) (expr_kept d)
      expr_kept (pre a b) = expr_kept b
      expr_kept (fby a b c) = pair_kept (type_of s b) (type_of s c) (type_of r (renamed to b)) (type_of r (renamed to c)) (expr_kept b) (expr_kept c)
      expr_kept (arrow a b c) = pair_kept (type_of s b) (type_of s c) (type_of r (renamed to b)) (type_of r (renamed to c)) (expr_kept b) (expr_kept c)
      expr_kept (when_is a b c x) = when_kept c x (to x) (type_of s b) (type_of r (renamed to b)) (names x) (expr_kept b)
      expr_kept (merge a x ps) = merge_kept x (to x) ps (renamed_parts to ps) (names x) (parts_kept ps)
      expr_kept (call a f i es) = call_kept f es (renamed_exprs to es) (all_kept es)

      pub all_kept : (es : Exprs) → ArgsKept es (renamed_exprs to es)
      all_kept no_expr = tt
      all_kept (more_exprs e es) = (expr_kept e, all_kept es)

      parts_kept : (ps : Parts) → PartsKept ps (renamed_parts to ps)
      parts_kept no_part = tt
      parts_kept (more_parts c e ps) = (refl, (expr_kept e, parts_kept ps))

    mutual
      pub expr_moved : (e : Expr) → ExprSound types among' s lasts e → ExprSound types among r lasts' (renamed to e)
      expr_moved (constant a c) ok = g.constants c
      expr_moved (variable a x) ok = tt
      expr_moved (last_of a x) ok = lasting x ok
      expr_moved (one a o b) ok = expr_moved b ok
      expr_moved (two a o b c) ok = (expr_moved b ok.0, expr_moved c ok.1)
      expr_moved (choose a b c d) ok = (expr_moved b ok.0, (expr_moved c ok.1.0, expr_moved d ok.1.1))
      expr_moved (pre a b) ok = expr_moved b ok
      expr_moved (fby a b c) ok = (expr_moved b ok.0, expr_moved c ok.1)
      expr_moved (arrow a b c) ok = (expr_moved b ok.0, expr_moved c ok.1)
      expr_moved (when_is a b c x) ok = expr_moved b ok
      expr_moved (merge a x ps) ok = (covers_kept x (to x) (of_parts ps) (of_parts (renamed_parts to ps)) (names x) (parts_conses ps (renamed_parts to ps) (parts_kept ps)) ok.0, parts_moved ps ok.1)
      expr_moved (call a f i es) ok = (g.known f, exprs_moved es ok.1)

      pub exprs_moved : (es : Exprs) → ExprsSound types among' s lasts es → ExprsSound types among r lasts' (renamed_exprs to es)
      exprs_moved no_expr ok = tt
      exprs_moved (more_exprs e es) ok = (expr_moved e ok.0, exprs_moved es ok.1)

      parts_moved : (ps : Parts) → PartsSound types among' s lasts ps → PartsSound types among r lasts' (renamed_parts to ps)
      parts_moved no_part ok = tt
      parts_moved (more_parts c e ps) ok = (expr_moved e ok.0, parts_moved ps ok.1)

    pub test_moved : (e : Expr) → TestSound types among' s lasts e → TestSound types among r lasts' (renamed to e)
    test_moved e ok = (expr_moved e ok.0, expr_kept e ty.Bool ok.1)

    pub tests_moved : (ts : List Trans) → TestsSound types among' s lasts ts → TestsSound types among r lasts' (map (renamed_transition to) ts)
    tests_moved [] ok = tt
    tests_moved (t ∷ ts) ok = (test_moved t.cond ok.0, tests_moved ts ok.1)

    lefts_are : (ys : List (List ℕ × Span)) (outs : List Decl) → LeftsAre s ys outs → LeftsAre r (renamed_left to ys) outs
    lefts_are [] [] h = tt
    lefts_are [] (d ∷ ds) h = absurd h
    lefts_are (y ∷ ys) [] h = absurd h
    lefts_are (y ∷ ys) (d ∷ ds) h = (names y.0 d.ty h.0, lefts_are ys ds h.1)

    lefts_have : (ys : List (List ℕ × Span)) (t : Ty) → LeftsHave s ys t → LeftsHave r (renamed_left to ys) t
    lefts_have [] t h = tt
    lefts_have (y ∷ ys) t h = (names y.0 t h.0, lefts_have ys t h.1)

    pub right_moved : (ys : List (List ℕ × Span)) (e : Expr) → RightSound types among' s lasts ys e → RightSound types among r lasts' (renamed_left to ys) (renamed to e)
    right_moved ys (call a f i es) ok = (expr_moved (call a f i es) ok.0, (ok.1.0, (outputs_kept f es (renamed_exprs to es) ok.1.0 (all_kept es) ok.1.1.0, lefts_are ys ok.1.0 ok.1.1.1)))
    right_moved ys (constant a c) ok = (expr_moved (constant a c) ok.0, (ok.1.0, (expr_kept (constant a c) ok.1.0 ok.1.1.0, lefts_have ys ok.1.0 ok.1.1.1)))
    right_moved ys (variable a c) ok = (expr_moved (variable a c) ok.0, (ok.1.0, (expr_kept (variable a c) ok.1.0 ok.1.1.0, lefts_have ys ok.1.0 ok.1.1.1)))
    right_moved ys (last_of a c) ok = (expr_moved (last_of a c) ok.0, (ok.1.0, (expr_kept (last_of a c) ok.1.0 ok.1.1.0, lefts_have ys ok.1.0 ok.1.1.1)))
    right_moved ys (one a o b) ok = (expr_moved (one a o b) ok.0, (ok.1.0, (expr_kept (one a o b) ok.1.0 ok.1.1.0, lefts_have ys ok.1.0 ok.1.1.1)))
    right_moved ys (two a o b c) ok = (expr_moved (two a o b c) ok.0, (ok.1.0, (expr_kept (two a o b c) ok.1.0 ok.1.1.0, lefts_have ys ok.1.0 ok.1.1.1)))
    right_moved ys (choose a b c d) ok = (expr_moved (choose a b c d) ok.0, (ok.1.0, (expr_kept (choose a b c d) ok.1.0 ok.1.1.0, lefts_have ys ok.1.0 ok.1.1.1)))
    right_moved ys (pre a b) ok = (expr_moved (pre a b) ok.0, (ok.1.0, (expr_kept (pre a b) ok.1.0 ok.1.1.0, lefts_have ys ok.1.0 ok.1.1.1)))
    right_moved ys (fby a b c) ok = (expr_moved (fby a b c) ok.0, (ok.1.0, (expr_kept (fby a b c) ok.1.0 ok.1.1.0, lefts_have ys ok.1.0 ok.1.1.1)))
    right_moved ys (arrow a b c) ok = (expr_moved (arrow a b c) ok.0, (ok.1.0, (expr_kept (arrow a b c) ok.1.0 ok.1.1.0, lefts_have ys ok.1.0 ok.1.1.1)))
    right_moved ys (when_is a b c x) ok = (expr_moved (when_is a b c x) ok.0, (ok.1.0, (expr_kept (when_is a b c x) ok.1.0 ok.1.1.0, lefts_have ys ok.1.0 ok.1.1.1)))
    right_moved ys (merge a x ps) ok = (expr_moved (merge a x ps) ok.0, (ok.1.0, (expr_kept (merge a x ps) ok.1.0 ok.1.1.0, lefts_have ys ok.1.0 ok.1.1.1)))
