-- Expressions and their places.
use Rattle.std.proofs.Common.{◌≡◌, ℕ, suc, ◌+◌, ◌-◌, ◌<◌, ◌≤◌, Bool, true, false, ◌&&◌, if◌then◌else◌, nat_eq, List, [], ◌∷◌, ◌++◌, Option, None, Some, is_some, length, drop, take, get_or, refl, sym, ap, ◌∙◌, arith}
use Rattle.std.specs.Prelude.{nat_le}
use Rattle.hp_base.specs.declared.ty.Ty.{Ty}
use Rattle.hp_tree.specs.declared.decl.Cons.{Cons}
use Rattle.hp_tree.specs.Blocks.{Decl}
use Rattle.hp_tree.specs.Programs.{Node}
use Rattle.hp_tree.specs.Expressions.{Expr, Exprs, no_expr, more_exprs, exprs_of, parts_of}
use Rattle.std.proofs.lemmas.List.{drop-drop, length-drop, take_all}
use Rattle.std.proofs.lemmas.Bool.Decides.{nat_tests}
use Rattle.hp_tree.proofs.Lists.{list_of-exprs_of}
use Rattle.hp_base.specs.declared.span.Span.{Span}
use Rattle.hp_tree.specs.declared.expr.ExprKind.{ExprKind}
use Rattle.hp_tree.specs.declared.expr.ExprKind.TheVariants.{Const, Name, Last, One, Two, If, Pre, Fby, Arrow, When, Merge, Call}
use Rattle.hp_tree.specs.ExpressionView.{expr_at}
use Rattle.hp_typing.specs.declared.error.Is.TheVariants.{Row as is_row}
use Rattle.hp_typing.specs.Types.{place, type_of, types_in, cons_type, parts_fit, agrees, args_fit, all_typed, input_type}
use Rattle.hp_typing.specs.declared.kind.Kind.{Kind}
use Rattle.hp_typing.specs.Seen.{kind_told}
use Rattle.hp_typing.specs.Scopes.{Scope}
use Rattle.hp_base.specs.First.First.{merged}
use Rattle.hp_typing.specs.Breaches.{Breach, place_of, found_with, found_after}
use Rattle.hp_typing.specs.Claims.{wants, tested, in_expr, in_exprs, in_parts, in_operands, in_pairs, in_known, in_inputs}
use Rattle.hp_typing.proofs.FoundLaws.{drop-next, drop-end, found_after-append, found_after-nil, merged-found_after}

pub place_law : (s : Span) (k : ExprKind) → place (expr_at s k) ≡ s
place_law s (Const c) = refl
place_law s (Name x) = refl
place_law s (Last x) = refl
place_law s (One op a) = refl
place_law s (Two op a b) = refl
place_law s (If a b c) = refl
place_law s (Pre a) = refl
place_law s (Fby a b) = refl
place_law s (Arrow a b) = refl
place_law s (When a c x) = refl
place_law s (Merge x ps) = refl
place_law s (Call f i es) = refl

and_assoc : (a b c d : Bool) → (a && (b && (c && d))) ≡ (((a && b) && c) && d)
and_assoc true b c d = by b
  where
    by : (b : Bool) → (b && (c && d)) ≡ ((b && c) && d)
    by true = refl
    by false = refl
and_assoc false b c d = refl

and_two : (a b c : Bool) → (a && (b && c)) ≡ ((a && b) && c)
and_two true b c = refl
and_two false b c = refl

-- ---- the parts of a merge

module _ (s : Scope) (name : Option Ty) (first : Option Ty) (ps : List (Cons × Expr)) (i : ℕ) (p : Cons × Expr) (h : i < length ps) (q : p ≡ get_or ps i p) where
  pub found_after-parts : (at : Span) (found : Option Breach)
      → found_after found (in_parts s at name first (parts_of (drop i ps)))
      ≡ found_after (found_after (found_after (found_after found (tested at name (cons_type s p.0))) (in_expr s p.1)) (tested (place p.1) first (type_of s p.1)))
      (in_parts s at name first (parts_of (drop (i + 1) ps)))
  found_after-parts at found =
      let rest = in_parts s at name first (parts_of (drop (i + 1) ps)) in
      let one = tested at name (cons_type s p.0) in
      let two = tested (place p.1) first (type_of s p.1) in
      ap (λ more. found_after found (in_parts s at name first (parts_of more))) (drop-next ps i p h q)
      ∙ found_after-append found one (in_expr s p.1 ++ (two ++ rest))
      ∙ found_after-append (found_after found one) (in_expr s p.1) (two ++ rest)
      ∙ found_after-append (found_after (found_after found one) (in_expr s p.1)) two rest

  pub parts_fit-next : (fit : Bool)
      → (fit && parts_fit s name first (parts_of (drop i ps)))
      ≡ (((fit && agrees name (cons_type s p.0)) && agrees first (type_of s p.1)) && parts_fit s name first (parts_of (drop (i + 1) ps)))
  parts_fit-next fit =
      ap (λ more. fit && parts_fit s name first (parts_of more)) (drop-next ps i p h q)
      ∙ and_assoc fit (agrees name (cons_type s p.0)) (agrees first (type_of s p.1)) (parts_fit s name first (parts_of (drop (i + 1) ps)))

  -- the same, one call after the other
  pub parts_fit-step : (fit c r all : Bool) (cons right : Option Ty) → c ≡ agrees name cons → cons ≡ cons_type s p.0 → r ≡ agrees first right → right ≡ type_of s p.1
      → (fit && parts_fit s name first (parts_of (drop i ps))) ≡ all → (((fit && c) && r) && parts_fit s name first (parts_of (drop (i + 1) ps))) ≡ all
  parts_fit-step fit c r all cons right e1 e2 e3 e4 e5 = cc (parts_fit-next fit)

  pub parts-step : (at behind : Span) (f0 f1 f2 f3 all : Option Breach) (cons right : Option Ty) → cons ≡ cons_type s p.0 → right ≡ type_of s p.1 → behind ≡ place p.1
      → f1 ≡ found_after f0 (tested at name cons) → f2 ≡ found_after f1 (in_expr s p.1) → f3 ≡ found_after f2 (tested behind first right)
      → found_after f0 (in_parts s at name first (parts_of (drop i ps))) ≡ all → found_after f3 (in_parts s at name first (parts_of (drop (i + 1) ps))) ≡ all
  parts-step at behind f0 f1 f2 f3 all cons right e1 e2 e3 e4 e5 e6 e7 = cc (found_after-parts at f0)

module _ (s : Scope) (at : Span) (name : Option Ty) (found : Option Breach) where
  after_operands : (ps : List (Cons × Expr)) (a b : Cons × Expr) → 1 ≤ length ps
      → found_after found (in_operands s at name (parts_of ps))
      ≡ found_after (found_after (found_after found (tested at name (cons_type s (get_or ps 0 a).0))) (in_expr s (get_or ps 0 b).1))
      (in_parts s at name (type_of s (get_or ps 0 b).1) (parts_of (take (length ps - 1) (drop 1 ps))))
  after_operands [] a b h = absurd (omega arith)
  after_operands (p ∷ ps) a b h =
      let rest = in_parts s at name (type_of s p.1) (parts_of ps) in
      let one = tested at name (cons_type s p.0) in
      let all : take (suc (length ps) - 1) ps ≡ ps = take_all (suc (length ps) - 1) ps (omega arith) in
      found_after-append found one (in_expr s p.1 ++ rest)
      ∙ found_after-append (found_after found one) (in_expr s p.1) rest
      ∙ ap (λ more. found_after (found_after (found_after found one) (in_expr s p.1)) (in_parts s at name (type_of s p.1) (parts_of more))) (sym all)

  -- the parts of a merge, one call after the other
  pub operands_law : (ps : List (Cons × Expr)) (a b : Cons × Expr) (cons first : Option Ty) (f g h : Option Breach) → 1 ≤ length ps
      → cons ≡ cons_type s (get_or ps 0 a).0 → first ≡ type_of s (get_or ps 0 b).1
      → f ≡ found_after found (tested at name cons) → g ≡ found_after f (in_expr s (get_or ps 0 b).1)
      → h ≡ found_after g (in_parts s at name first (parts_of (take (length ps - 1) (drop 1 ps))))
      → h ≡ found_after found (in_operands s at name (parts_of ps))
  operands_law ps a b cons first f g h many c t p q r =
      let rest = parts_of (take (length ps - 1) (drop 1 ps)) in
      r ∙ ap (λ u. found_after g (in_parts s at name u rest)) t
      ∙ ap (λ k. found_after k (in_parts s at name (type_of s (get_or ps 0 b).1) rest))
      (q ∙ ap (λ k. found_after k (in_expr s (get_or ps 0 b).1)) (p ∙ ap (λ u. found_after found (tested at name u)) c))
      ∙ sym (after_operands ps a b many)

  pub found_after-no_operands : (ps : List (Cons × Expr)) → length ps < 1 → found_after found (in_operands s at name (parts_of ps)) ≡ found
  found_after-no_operands [] h = found_after-nil found
  found_after-no_operands (p ∷ ps) h = absurd (omega arith)

-- ---- the arguments of a call

told_some : (is : Option Kind) → is_some is ≡ is_some (kind_told is)
told_some None = refl
told_some (Some k) = refl

args_fit-step : (ds : List Decl) (t : Option Ty) (ts : List (Option Ty)) → args_fit ds (t ∷ ts) ≡ (agrees (input_type ds) t && args_fit (drop 1 ds) ts)
args_fit-step [] t ts = refl
args_fit-step (d ∷ ds) t ts = refl

in_pairs-step : (s : Scope) (ds : List Decl) (e : Expr) (es : Exprs) → in_pairs s ds (more_exprs e es) ≡ tested (place e) (input_type ds) (type_of s e) ++ in_pairs s (drop 1 ds) es
in_pairs-step s [] e es = refl
in_pairs-step s (d ∷ ds) e es = refl

pub in_pairs-end : (s : Scope) (ds : List Decl) → in_pairs s ds no_expr ≡ []
in_pairs-end s [] = refl
in_pairs-end s (d ∷ ds) = refl

args_fit-some : (ds : List Decl) → 0 < length ds → args_fit ds [] ≡ false
args_fit-some [] h = absurd (omega arith)
args_fit-some (d ∷ ds) h = refl

le_true : (m n : ℕ) → nat_le m n ≡ true → m ≤ n
le_true m n h = grind (arith, nat_tests)

le_false : (m n : ℕ) → nat_le m n ≡ false → n < m
le_false m n h = grind (arith, nat_tests)

pub args_fit-end : (ds : List Decl) (i : ℕ) → args_fit (drop i ds) [] ≡ nat_le (length ds) i
args_fit-end ds i = by (nat_le (length ds) i) refl
  where
    by : (d : Bool) → nat_le (length ds) i ≡ d → args_fit (drop i ds) [] ≡ nat_le (length ds) i
    by true p = ap (λ more. args_fit more []) (drop-end ds i (le_true (length ds) i p)) ∙ sym p
    by false p =
        let h : 0 < length (drop i ds) = let k = le_false (length ds) i p in omega (arith, length-drop i ds) in
        args_fit-some (drop i ds) h ∙ sym p

module _ (s : Scope) (ds : List Decl) (es : List Expr) (i : ℕ) (e : Expr) (h : i < length es) (p : e ≡ get_or es i e) where
  pub all_typed-next : (typed : Bool) → (typed && all_typed (types_in s (exprs_of (drop i es)))) ≡ ((typed && is_some (type_of s e)) && all_typed (types_in s (exprs_of (drop (i + 1) es))))
  all_typed-next typed =
      ap (λ more. typed && all_typed (types_in s (exprs_of more))) (drop-next es i e h p)
      ∙ and_two typed (is_some (type_of s e)) (all_typed (types_in s (exprs_of (drop (i + 1) es))))

  pub args_fit-next : (fit : Bool)
      → (fit && args_fit (drop i ds) (types_in s (exprs_of (drop i es))))
      ≡ ((fit && agrees (input_type (drop i ds)) (type_of s e)) && args_fit (drop (i + 1) ds) (types_in s (exprs_of (drop (i + 1) es))))
  args_fit-next fit =
      let rest = types_in s (exprs_of (drop (i + 1) es)) in
      ap (λ more. fit && args_fit (drop i ds) (types_in s (exprs_of more))) (drop-next es i e h p)
      ∙ ap (λ b. fit && b) (args_fit-step (drop i ds) (type_of s e) rest ∙ ap (λ more. agrees (input_type (drop i ds)) (type_of s e) && args_fit more rest) (drop-drop 1 i ds))
      ∙ and_two fit (agrees (input_type (drop i ds)) (type_of s e)) (args_fit (drop (i + 1) ds) rest)

  pub found_after-exprs : (found : Option Breach)
      → found_after found (in_exprs s (exprs_of (drop i es))) ≡ found_after (found_after found (in_expr s e)) (in_exprs s (exprs_of (drop (i + 1) es)))
  found_after-exprs found =
      ap (λ more. found_after found (in_exprs s (exprs_of more))) (drop-next es i e h p) ∙ found_after-append found (in_expr s e) (in_exprs s (exprs_of (drop (i + 1) es)))

  pub found_after-pairs : (found : Option Breach)
      → found_after found (in_pairs s (drop i ds) (exprs_of (drop i es)))
      ≡ found_after (found_after found (tested (place e) (input_type (drop i ds)) (type_of s e))) (in_pairs s (drop (i + 1) ds) (exprs_of (drop (i + 1) es)))
  found_after-pairs found =
      let rest = exprs_of (drop (i + 1) es) in
      let one = tested (place e) (input_type (drop i ds)) (type_of s e) in
      ap (λ more. found_after found (in_pairs s (drop i ds) (exprs_of more))) (drop-next es i e h p)
      ∙ ap (found_after found) (in_pairs-step s (drop i ds) e rest ∙ ap (λ more. one ++ in_pairs s more rest) (drop-drop 1 i ds))
      ∙ found_after-append found one (in_pairs s (drop (i + 1) ds) rest)

  -- the same, one call after the other
  pub all_typed-step : (typed some all : Bool) (is : Option Kind) → some ≡ is_some is → kind_told is ≡ type_of s e → (typed && all_typed (types_in s (exprs_of (drop i es)))) ≡ all
      → ((typed && some) && all_typed (types_in s (exprs_of (drop (i + 1) es)))) ≡ all
  all_typed-step typed some all is e0 e1 e2 = cc (all_typed-next typed, told_some is)

  pub args_fit-step_on : (fit fits all : Bool) (is : Option Ty) → fits ≡ agrees (input_type (drop i ds)) is → is ≡ type_of s e
      → (fit && args_fit (drop i ds) (types_in s (exprs_of (drop i es)))) ≡ all
      → ((fit && fits) && args_fit (drop (i + 1) ds) (types_in s (exprs_of (drop (i + 1) es)))) ≡ all
  args_fit-step_on fit fits all is e1 e2 e3 = cc (args_fit-next fit)

  pub exprs-step : (f0 f1 all : Option Breach) → f1 ≡ found_after f0 (in_expr s e) → found_after f0 (in_exprs s (exprs_of (drop i es))) ≡ all
      → found_after f1 (in_exprs s (exprs_of (drop (i + 1) es))) ≡ all
  exprs-step f0 f1 all e1 e2 = cc (found_after-exprs f0)

  pub pairs-step : (f0 f1 all : Option Breach) (behind : Span) (is : Option Ty) → behind ≡ place e → is ≡ type_of s e → f1 ≡ found_after f0 (tested behind (input_type (drop i ds)) is)
      → found_after f0 (in_pairs s (drop i ds) (exprs_of (drop i es))) ≡ all
      → found_after f1 (in_pairs s (drop (i + 1) ds) (exprs_of (drop (i + 1) es))) ≡ all
  pairs-step f0 f1 all behind is e1 e2 e3 e4 = cc (found_after-pairs f0)

module _ (s : Scope) (at : Span) (n : Node) (es : List Expr) (found : Option Breach) where
  inputs_law : (typed : Bool) → found_with found at (length n.inputs) (length es) typed (found_after None (in_pairs s n.inputs (exprs_of es)))
      ≡ found_after found (if typed then in_inputs s at n.inputs (exprs_of es) else [])
  inputs_law false = sym (found_after-nil found)
  inputs_law true =
      by (nat_eq (length n.inputs) (length es))
      ∙ ap (λ len. found_after found (if nat_eq (length n.inputs) len then in_pairs s n.inputs (exprs_of es) else wants at (is_row (length n.inputs)) (is_row len) ∷ []))
      (sym (ap length (list_of-exprs_of es)))
    where
      by : (d : Bool)
          → (if d then merged place_of found (found_after None (in_pairs s n.inputs (exprs_of es))) else found_after found (wants at (is_row (length n.inputs)) (is_row (length es)) ∷ []))
          ≡ found_after found (if d then in_pairs s n.inputs (exprs_of es) else wants at (is_row (length n.inputs)) (is_row (length es)) ∷ [])
      by true = merged-found_after found (in_pairs s n.inputs (exprs_of es))
      by false = refl

  -- a call compares its arguments with its inputs
  pub found_after-call : (typed : Bool) (mismatch : Option Breach) → typed ≡ all_typed (types_in s (exprs_of es)) → mismatch ≡ found_after None (in_pairs s n.inputs (exprs_of es))
      → found_with found at (length n.inputs) (length es) typed mismatch ≡ found_after found (in_known s at (Some n) (exprs_of es))
  found_after-call typed mismatch p q =
      ap (found_with found at (length n.inputs) (length es) typed) q
      ∙ inputs_law typed
      ∙ ap (λ t. found_after found (if t then in_inputs s at n.inputs (exprs_of es) else [])) p
