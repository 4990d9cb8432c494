-- An unfolded program may be read, and its tokens may be written, where this is so of the program.
use Rattle.std.proofs.Common.{◌≡◌, ℕ, suc, max, ◌<◌, ◌≤◌, ◌^◌, Bool, true, false, if◌then◌else◌, List, [], ◌∷◌, ◌++◌, map, length, Option, None, Some, refl, sym, ap, subst, arith}
use Rattle.std.proofs.lemmas.List.{append-nil}
use Rattle.hp_base.specs.Limits.{most}
use Rattle.hp_base.specs.declared.limit.What.TheVariants.{Size}
use Rattle.hp_base.specs.declared.span.Span.{Span}
use Rattle.hp_lexer.specs.Lexing.{AreTokensOf}
use Rattle.hp_lexer.specs.Written.{Written, IsWritable, written_tokens}
use Rattle.hp_lexer.specs.declared.token.Token.{Token}
use Rattle.hp_lexer.proofs.Printed.{read_again}
use Rattle.hp_parser.specs.Lexemes.{lexemes}
use Rattle.hp_parser.specs.Programs.{IsProgram}
use Rattle.hp_lexer.specs.declared.token.Keyword.{Keyword}
use Rattle.hp_lexer.specs.declared.token.Keyword.TheVariants as key
use Rattle.hp_lexer.specs.declared.token.Sign.TheVariants as mark
use Rattle.hp_parser.specs.declared.mode.Mode.TheVariants.{Whole}
use Rattle.hp_tree.specs.declared.decl.Cons.TheVariants as cons
use Rattle.hp_tree.specs.declared.expr.Op2.{Op2}
use Rattle.hp_tree.specs.declared.expr.Op2.TheVariants.{And, Or, Imp}
use Rattle.hp_tree.specs.declared.program.Item.{Item}
use Rattle.hp_tree.specs.declared.program.Item.TheVariants.{TypeItem, NodeItem}
use Rattle.hp_tree.specs.Expressions.{Expr, constant, variable, last_of, one, two, choose, pre, fby, arrow, when_is, merge, call, Exprs, no_expr, more_exprs, Parts, no_part, more_parts}
use Rattle.hp_tree.specs.Blocks.{Decl, Block, block, Eqns, no_eqn, more_eqns, Eqn, define, switch, reset, automaton, eqns_of}
use Rattle.hp_tree.specs.Programs.{Contract}
use Rattle.hp_print.specs.Levels.{level_of, level_before, level_behind}
use Rattle.hp_print.specs.Tokens.{word, sign, small, ended_by}
use Rattle.hp_print.specs.ExpressionTokens.{expression_tokens, operand_tokens, operator_token, arguments_tokens, more_arguments_tokens, parts_tokens, inlined_tokens}
use Rattle.hp_print.specs.BlockTokens.{declaration_tokens, parameters_tokens, variables_tokens, equation_tokens, equations_tokens, left_tokens, inner_tokens}
use Rattle.hp_print.specs.ProgramTokens.{is_empty_block, whole_block_tokens, contract_block_tokens, clause_tokens, contract_tokens, node_contract_tokens, item_tokens, program_tokens, canonical_text}
use Rattle.hp_print.proofs.Heights.{height, all_height, parts_height, tall, Good, GoodAll, GoodParts as GoodOperands, SomeParts}
use Rattle.hp_print.proofs.Readable.{GoodIn, GoodLocal, Each, GoodBlock, GoodEqns, GoodEqn, nest_block, nest_eqns, nest_eqn, GoodCondition, SomeClause, GoodContract, GoodOptional, GoodItem, GoodProgram, count_types}
use Rattle.hp_print.specs.ReadBack.{IsReadBack}
use Rattle.hp_print.proofs.FoundPrograms.{program-found}
use Rattle.hp_print.proofs.ReadBackLaws.{spell-at, all-spelled}
use Rattle.hp_print.proofs.ReadPrograms.{program-read}
use Rattle.hp_print.proofs.Writable.{Writable, writable-append, word-writable, sign-writable}
use Rattle.hp_past.specs.declared.formula.Formula.{Formula}
use Rattle.hp_past.specs.declared.formula.Formula.TheVariants as formula
use Rattle.hp_past.specs.declared.formula.Formulas.{Formulas}
use Rattle.hp_past.specs.Formulas.{formulas_of, formula_of}
use Rattle.hp_past.specs.Names.{Names, names_of, past_name, free}
use Rattle.hp_past.specs.Own.{locals_of, equations_of}
use Rattle.hp_past.specs.Unfolding.{unfolded, next_number, Added, nothing_added, boolean, equation, with_one, with_two, formula_or_call, once_of, historically_of, since_of, with_argument, fresh, with_variable, joined_block, in_expr, in_exprs, in_parts, in_eqn, in_eqns, in_condition, in_contract, in_optional, in_item, in_items, number_behind}
use Rattle.hp_past.proofs.FreeLaws.{free-later}
use Rattle.hp_past.proofs.KeptLaws.{behind, single_added, right_single, argued, first_added, second_added, since_added, right_since, expr-steps, exprs-steps, parts-steps, eqns-steps, condition-steps, call-steps}
use Rattle.hp_past.proofs.ExtendedLaws.{behind-later}
use Rattle.hp_past.proofs.WritableLaws.{writable-front, writable-behind, name-writable, operand-writable, operand-plain, tall-low, tall-least, tall-most}

each-add : {A : Type 0} (P : A → Type 0) (xs ys : List A) → Each P xs → Each P ys → Each P (xs ++ ys)
each-add P [] ys h k = k
each-add P (x ∷ xs) ys h k = (h.0, each-add P xs ys h.1 k)

module _ (d nested : ℕ) (deep : 8 ≤ d) (some : 1 ≤ nested) where
  -- an expression, a declaration and an equation that may be read and written
  abbrev FineExpr : Expr → Type 0
  FineExpr e = GoodIn d Whole e × Writable (expression_tokens e)

  abbrev FineLocal : Decl → Type 0
  FineLocal x = GoodLocal x × Writable (declaration_tokens x)

  abbrev FineEqn : Eqn → Type 0
  FineEqn q = GoodEqn d q × (nest_eqn q < nested) × Writable (equation_tokens q)

  record FineAdded (s : Added) : Type 0 where
    pub locals : Each FineLocal s.locals
    pub eqns : Each FineEqn s.eqns

  -- ---- variables that are added

  local-fine : (at : Span) (k : ℕ) (first : Option Bool) → k < 2 ^ 64 → FineLocal (boolean at (past_name k) first)
  local-fine at k None h = (tt, (name-writable k h, (sign-writable mark.Colon, (word-writable key.Bool, tt))))
  local-fine at k (Some true) h = (tt, (word-writable key.Last, (name-writable k h, (sign-writable mark.Colon, (word-writable key.Bool, (sign-writable mark.Equal, (word-writable key.True, tt)))))))
  local-fine at k (Some false) h = (tt, (word-writable key.Last, (name-writable k h, (sign-writable mark.Colon, (word-writable key.Bool, (sign-writable mark.Equal, (word-writable key.False, tt)))))))

  module _ (names : Names) (s : Added) (at : Span) (first : Option Bool) (right : Expr) where
    behind-fine : suc (free names s.next) < 2 ^ 64 → FineExpr right → FineAdded s → FineAdded (behind names s at first right)
    behind-fine h e f =
        let k : free names s.next < 2 ^ 64 = omega (arith, h) in
        let x = boolean at (past_name (free names s.next)) first in
        record {
          locals = each-add FineLocal s.locals (x ∷ []) f.locals (local-fine at (free names s.next) first k, tt);
          eqns = each-add FineEqn s.eqns (equation x right ∷ []) f.eqns ((e.0, some, (name-writable (free names s.next) k, (sign-writable mark.Equal, e.1))), tt);
        }

  -- the right sides of formulas
  single-low : (at : Span) (op : Op2) (n v : ℕ) → height (two at op (variable at (past_name n)) (last_of at (past_name v))) ≤ 2
  single-low at op n v =
      let a = tall-most (level_before op) (variable at (past_name n)) 0 in
      let b = tall-most (level_behind op) (last_of at (past_name v)) 0 in
      omega (arith, a, b)

  single-fine : (at : Span) (op : Op2) → IsWritable (operator_token op) → (n v : ℕ) → n < 2 ^ 64 → v < 2 ^ 64 → FineExpr (two at op (variable at (past_name n)) (last_of at (past_name v)))
  single-fine at op w n v h k =
      let front = operand-writable (level_before op) (variable at (past_name n)) (name-writable n h, tt) in
      let end = operand-writable (level_behind op) (last_of at (past_name v)) (word-writable key.Last, (name-writable v k, tt)) in
      (((tt, tt), omega (arith, deep, single-low at op n v)), writable-append (operand_tokens (level_before op) (variable at (past_name n))) _ front (w, end))

  module _ (names : Names) (at : Span) where
    module _ (e : Expr) (s : Added) (op : Op2) (b : Bool) (w : IsWritable (operator_token op)) where
      single-added-fine : (single_added names at e s op b).next < 2 ^ 64 → FineExpr e → FineAdded s → FineAdded (single_added names at e s op b)
      single-added-fine h fe f =
          let t = argued names at e s op b in
          let l = free-later names t.next in
          let n : free names s.next < 2 ^ 64 = omega (arith, l, h) in
          let v : free names t.next < 2 ^ 64 = omega (arith, h) in
          behind-fine names t at (Some b) (right_single names at e s op b) h (single-fine at op w (free names s.next) (free names t.next) n v)
          (behind-fine names s at None e (omega (arith, l, h)) fe f)

    once-fine : (e : Expr) (s : Added) → (once_of names at e s).1.next < 2 ^ 64 → FineExpr e → FineAdded s → FineAdded (once_of names at e s).1
    unfolding once_of with_argument fresh with_variable
    once-fine e s h fe f = single-added-fine e s Or false (word-writable key.Or) h fe f

    historically-fine : (e : Expr) (s : Added) → (historically_of names at e s).1.next < 2 ^ 64 → FineExpr e → FineAdded s → FineAdded (historically_of names at e s).1
    unfolding historically_of with_argument fresh with_variable
    historically-fine e s h fe f = single-added-fine e s And true (sign-writable mark.And) h fe f

    module _ (e1 e2 : Expr) (s : Added) where
      since-low : (n v w : ℕ) → height (two at Or (variable at (past_name n)) (two at And (variable at (past_name v)) (last_of at (past_name w)))) ≤ 4
      since-low n v w =
          let inner = two at And (variable at (past_name v)) (last_of at (past_name w)) in
          let a = tall-most (level_before Or) (variable at (past_name n)) 0 in
          let b = tall-most (level_behind Or) inner (height inner) in
          let c = single-low at And v w in
          omega (arith, a, b, c)

      right-fine : (n v w : ℕ) → n < 2 ^ 64 → v < 2 ^ 64 → w < 2 ^ 64 → FineExpr (two at Or (variable at (past_name n)) (two at And (variable at (past_name v)) (last_of at (past_name w))))
      right-fine n v w h k l =
          let inner = two at And (variable at (past_name v)) (last_of at (past_name w)) in
          let single = single-fine at And (sign-writable mark.And) v w k l in
          let front = operand-writable (level_before Or) (variable at (past_name n)) (name-writable n h, tt) in
          let end = operand-writable (level_behind Or) inner single.1 in
          let words : Writable (expression_tokens (two at Or (variable at (past_name n)) inner)) = writable-append (operand_tokens (level_before Or) (variable at (past_name n))) (operator_token Or ∷ operand_tokens (level_behind Or) inner) front (word-writable key.Or, end) in
          (((tt, single.0.0), omega (arith, deep, since-low n v w)), words)

      since-added-fine : (since_added names at e1 e2 s).next < 2 ^ 64 → FineExpr e1 → FineExpr e2 → FineAdded s → FineAdded (since_added names at e1 e2 s)
      since-added-fine h f1 f2 f =
          let t = first_added names at e1 e2 s in
          let u = second_added names at e1 e2 s in
          let k = free-later names t.next in
          let l = free-later names u.next in
          let a : free names s.next < 2 ^ 64 = omega (arith, k, l, h) in
          let b : free names t.next < 2 ^ 64 = omega (arith, l, h) in
          let c : free names u.next < 2 ^ 64 = omega (arith, h) in
          behind-fine names u at (Some false) (right_since names at e1 e2 s) h (right-fine (free names t.next) (free names s.next) (free names u.next) b a c)
          (behind-fine names t at None e2 (omega (arith, l, h)) f2 (behind-fine names s at None e1 (omega (arith, k, l, h)) f1 f))

    since-fine : (e1 e2 : Expr) (s : Added) → (since_of names at e1 e2 s).1.next < 2 ^ 64 → FineExpr e1 → FineExpr e2 → FineAdded s → FineAdded (since_of names at e1 e2 s).1
    unfolding since_of with_argument fresh with_variable
    since-fine e1 e2 s h f1 f2 f = since-added-fine e1 e2 s h f1 f2 f

  -- ---- expressions

  -- What an expression becomes is of its level, needs no more levels, and may be read and written.
  record Unfolds (e : Expr) (s : Added) (r : Expr × Added) : Type 0 where
    pub level : level_of r.0 ≡ level_of e
    pub low : height r.0 ≤ height e
    pub good : Good Whole r.0
    pub words : Writable (expression_tokens r.0)
    pub added : FineAdded s → FineAdded r.1

  -- each argument
  abbrev AllFine : Exprs → Type 0
  AllFine no_expr = Unit {0}
  AllFine (more_exprs e es) = FineExpr e × AllFine es

  record AllUnfold (es : Exprs) (s : Added) (r : Exprs × Added) : Type 0 where
    pub low : all_height r.0 ≤ all_height es
    pub fine : AllFine r.0
    pub added : FineAdded s → FineAdded r.1

  record PartsUnfold (ps : Parts) (s : Added) (r : Parts × Added) : Type 0 where
    pub low : parts_height r.0 ≤ parts_height ps
    pub has : SomeParts ps → SomeParts r.0
    pub good : GoodOperands Whole r.0
    pub words : Writable (parts_tokens r.0)
    pub added : FineAdded s → FineAdded r.1

  all-good : (es : Exprs) → AllFine es → GoodAll Whole es
  all-good no_expr h = tt
  all-good (more_exprs e es) h = (h.0.0.0, all-good es h.1)

  more-writable : (es : Exprs) → AllFine es → Writable (more_arguments_tokens es)
  more-writable no_expr h = tt
  more-writable (more_exprs e es) h = (sign-writable mark.Comma, writable-append (expression_tokens e) _ h.0.1 (more-writable es h.1))

  arguments-writable : (es : Exprs) → AllFine es → Writable (arguments_tokens es)
  arguments-writable no_expr h = tt
  arguments-writable (more_exprs e es) h = writable-append (expression_tokens e) _ h.0.1 (more-writable es h.1)

  more-fine : (es : Exprs) → GoodAll Whole es → all_height es ≤ d → Writable (more_arguments_tokens es) → AllFine es
  more-fine no_expr g l w = tt
  more-fine (more_exprs e es) g l w =
      (((g.0, omega (arith, l)), writable-front (expression_tokens e) _ w.1), more-fine es g.1 (omega (arith, l)) (writable-behind (expression_tokens e) _ w.1))

  arguments-fine : (es : Exprs) → GoodAll Whole es → all_height es ≤ d → Writable (arguments_tokens es) → AllFine es
  arguments-fine no_expr g l w = tt
  arguments-fine (more_exprs e es) g l w =
      (((g.0, omega (arith, l)), writable-front (expression_tokens e) _ w), more-fine es g.1 (omega (arith, l)) (writable-behind (expression_tokens e) _ w))

  module _ (there : Formulas) (names : Names) where
    -- ---- calls

    call-words : (at : Span) (f : List ℕ) (inlined : Bool) (es : Exprs) → Writable (inlined_tokens inlined) → IsWritable (small f) → AllFine es → Writable (expression_tokens (call at f inlined es))
    call-words at f inlined es i n h =
        writable-append (inlined_tokens inlined) _ i (n, (sign-writable mark.Open, writable-append (arguments_tokens es) _ (arguments-writable es h) (sign-writable mark.Close, tt)))

    called-fine : (at : Span) (f : List ℕ) (inlined : Bool) (es rs : Exprs) (s t : Added) → Writable (inlined_tokens inlined) → IsWritable (small f) → AllUnfold es s (rs, t) → Unfolds (call at f inlined es) s (call at f inlined rs, t)
    called-fine at f inlined es rs s t i n a = record {
      level = refl;
      low = a.low;
      good = (tt, all-good rs a.fine);
      words = call-words at f inlined rs i n a.fine;
      added = a.added;
    }

    -- a variable in the place of a call
    variable-fine : (at : Span) (f : List ℕ) (es : Exprs) (s t : Added) (x : List ℕ) → (FineAdded s → FineAdded t) → IsWritable (small x) → Unfolds (call at f false es) s (variable at x, t)
    variable-fine at f es s t x a n = record { level = refl; low = omega arith; good = tt; words = (n, tt); added = a }

    one-call : (remembered : Expr → Added → List ℕ × Added)
        → ((e : Expr) (s : Added) → (remembered e s).1.next < 2 ^ 64 → FineExpr e → FineAdded s → FineAdded (remembered e s).1)
        → ((e : Expr) (s : Added) → (remembered e s).1.next < 2 ^ 64 → IsWritable (small (remembered e s).0))
        → (at : Span) (f : List ℕ) (es rs : Exprs) (s t : Added) → IsWritable (small f) → (with_one remembered at f rs t).1.next < 2 ^ 64 → AllUnfold es s (rs, t)
        → Unfolds (call at f false es) s (with_one remembered at f rs t)
    one-call remembered fine name at f es no_expr s t n h a = called-fine at f false es no_expr s t tt n a
    one-call remembered fine name at f es (more_exprs e no_expr) s t n h a =
        variable-fine at f es s (remembered e t).1 (remembered e t).0 (λ k. fine e t h a.fine.0 (a.added k)) (name e t h)
    one-call remembered fine name at f es (more_exprs e (more_exprs e2 rs)) s t n h a = called-fine at f false es (more_exprs e (more_exprs e2 rs)) s t tt n a

    two-call : (remembered : Expr → Expr → Added → List ℕ × Added)
        → ((e1 e2 : Expr) (s : Added) → (remembered e1 e2 s).1.next < 2 ^ 64 → FineExpr e1 → FineExpr e2 → FineAdded s → FineAdded (remembered e1 e2 s).1)
        → ((e1 e2 : Expr) (s : Added) → (remembered e1 e2 s).1.next < 2 ^ 64 → IsWritable (small (remembered e1 e2 s).0))
        → (at : Span) (f : List ℕ) (es rs : Exprs) (s t : Added) → IsWritable (small f) → (with_two remembered at f rs t).1.next < 2 ^ 64 → AllUnfold es s (rs, t)
        → Unfolds (call at f false es) s (with_two remembered at f rs t)
    two-call remembered fine name at f es no_expr s t n h a = called-fine at f false es no_expr s t tt n a
    two-call remembered fine name at f es (more_exprs e no_expr) s t n h a = called-fine at f false es (more_exprs e no_expr) s t tt n a
    two-call remembered fine name at f es (more_exprs e1 (more_exprs e2 no_expr)) s t n h a =
        variable-fine at f es s (remembered e1 e2 t).1 (remembered e1 e2 t).0 (λ k. fine e1 e2 t h a.fine.0 a.fine.1.0 (a.added k)) (name e1 e2 t h)
    two-call remembered fine name at f es (more_exprs e1 (more_exprs e2 (more_exprs e3 rs))) s t n h a =
        called-fine at f false es (more_exprs e1 (more_exprs e2 (more_exprs e3 rs))) s t tt n a

    once-name : (at : Span) (e : Expr) (s : Added) → (once_of names at e s).1.next < 2 ^ 64 → IsWritable (small (once_of names at e s).0)
    unfolding once_of with_argument fresh with_variable
    once-name at e s h = name-writable (free names (argued names at e s Or false).next) (omega (arith, h))

    historically-name : (at : Span) (e : Expr) (s : Added) → (historically_of names at e s).1.next < 2 ^ 64 → IsWritable (small (historically_of names at e s).0)
    unfolding historically_of with_argument fresh with_variable
    historically-name at e s h = name-writable (free names (argued names at e s And true).next) (omega (arith, h))

    since-name : (at : Span) (e1 e2 : Expr) (s : Added) → (since_of names at e1 e2 s).1.next < 2 ^ 64 → IsWritable (small (since_of names at e1 e2 s).0)
    unfolding since_of with_argument fresh with_variable
    since-name at e1 e2 s h = name-writable (free names (second_added names at e1 e2 s).next) (omega (arith, h))

    call-fine : (o : Option Formula) (at : Span) (f : List ℕ) (es rs : Exprs) (s t : Added) → IsWritable (small f) → (formula_or_call names o at f rs t).1.next < 2 ^ 64 → AllUnfold es s (rs, t)
        → Unfolds (call at f false es) s (formula_or_call names o at f rs t)
    call-fine None at f es rs s t n h a = called-fine at f false es rs s t tt n a
    call-fine (Some formula.Once) at f es rs s t n h a = one-call (once_of names at) (once-fine names at) (once-name at) at f es rs s t n h a
    call-fine (Some formula.Historically) at f es rs s t n h a = one-call (historically_of names at) (historically-fine names at) (historically-name at) at f es rs s t n h a
    call-fine (Some formula.Since) at f es rs s t n h a = two-call (since_of names at) (since-fine names at) (since-name at) at f es rs s t n h a

    -- ---- expressions, part by part

    abbrev In : Expr → Added → Expr × Added
    In e s = in_expr there names e s

    low-part : (l : _) (e : Expr) (m : ℕ) → tall l e (height e) ≤ m → m < d → height e < d
    low-part l e m h k = omega (arith, tall-least l e (height e), h, k)

    -- the parts of an operator with two operands, and what they become
    module _ (before after : _) (between : Written) (a b : Expr) (s t u : Added) (ra rb : Expr) (ua : Unfolds a s (ra, t)) (ub : Unfolds b t (rb, u)) where
      both-low : max (tall before ra (height ra)) (tall after rb (height rb)) ≤ max (tall before a (height a)) (tall after b (height b))
      both-low = omega (arith, tall-low before a ra ua.level ua.low, tall-low after b rb ub.level ub.low)

      both-words : IsWritable between → Writable (operand_tokens before ra ++ (between ∷ operand_tokens after rb))
      both-words w = writable-append (operand_tokens before ra) _ (operand-writable before ra ua.words) (w, operand-writable after rb ub.words)

    before-words : (before : _) (a : Expr) (rest : List Written) → Writable (operand_tokens before a ++ rest) → Writable (expression_tokens a)
    before-words before a rest w = operand-plain before a (writable-front (operand_tokens before a) rest w)

    mutual
      expr-fine : (e : Expr) (s : Added) → FineExpr e → (In e s).1.next < 2 ^ 64 → Unfolds e s (In e s)
      expr-fine (constant at c) s f h = record { level = refl; low = omega arith; good = f.0.0; words = f.1; added = λ k. k }
      expr-fine (variable at x) s f h = record { level = refl; low = omega arith; good = tt; words = f.1; added = λ k. k }
      expr-fine (last_of at x) s f h = record { level = refl; low = omega arith; good = tt; words = f.1; added = λ k. k }
      expr-fine (one at op a) s f h =
          let u = expr-fine a s ((f.0.0, low-part (level_of (pre at a)) a (height (one at op a)) (omega arith) f.0.1), operand-plain (level_of (pre at a)) a f.1.1) h in
          record {
            level = refl;
            low = omega (arith, tall-low (level_of (pre at a)) a (In a s).0 u.level u.low);
            good = u.good;
            words = (f.1.0, operand-writable (level_of (pre at a)) (In a s).0 u.words);
            added = u.added;
          }
      expr-fine (two at op a b) s f h =
          let t = (In a s).1 in
          let before = level_before op in
          let after = level_behind op in
          let tail = writable-behind (operand_tokens before a) _ f.1 in
          let steps = expr-steps there names b t in
          let l = steps.later in
          let m = height (two at op a b) in
          let ua = expr-fine a s ((f.0.0.0, low-part before a m (omega arith) f.0.1), before-words before a _ f.1) (omega (arith, l, h)) in
          let ub = expr-fine b t ((f.0.0.1, low-part after b m (omega arith) f.0.1), operand-plain after b tail.1) h in
          record {
            level = refl;
            low = omega (arith, both-low before after (operator_token op) a b s t (In b t).1 (In a s).0 (In b t).0 ua ub);
            good = (ua.good, ub.good);
            words = both-words before after (operator_token op) a b s t (In b t).1 (In a s).0 (In b t).0 ua ub tail.0;
            added = λ k. ub.added (ua.added k);
          }
      expr-fine (choose at a b c) s f h =
          let t = (In a s).1 in
          let u = (In b t).1 in
          let wa = writable-front (expression_tokens a) _ f.1.1 in
          let rest = writable-behind (expression_tokens a) _ f.1.1 in
          let wb = writable-front (expression_tokens b) _ rest.1 in
          let end = writable-behind (expression_tokens b) _ rest.1 in
          let sb = expr-steps there names b t in
          let sc = expr-steps there names c u in
          let lb = sb.later in
          let lc = sc.later in
          let k = f.0.1 in
          let ua = expr-fine a s ((f.0.0.0, omega (arith, k)), wa) (omega (arith, lb, lc, h)) in
          let ub = expr-fine b t ((f.0.0.1, omega (arith, k)), wb) (omega (arith, lc, h)) in
          let uc = expr-fine c u ((f.0.0.2, omega (arith, k)), end.1) h in
          let la = ua.low in
          let lb' = ub.low in
          let lc' = uc.low in
          record {
            level = refl;
            low = omega (arith, la, lb', lc');
            good = (ua.good, ub.good, uc.good);
            words = (f.1.0, writable-append (expression_tokens (In a s).0) _ ua.words (rest.0, writable-append (expression_tokens (In b t).0) _ ub.words (end.0, uc.words)));
            added = λ k. uc.added (ub.added (ua.added k));
          }
      expr-fine (pre at a) s f h =
          let u = expr-fine a s ((f.0.0.1, low-part (level_of (pre at a)) a (height (pre at a)) (omega arith) f.0.1), operand-plain (level_of (pre at a)) a f.1.1) h in
          record {
            level = refl;
            low = omega (arith, tall-low (level_of (pre at a)) a (In a s).0 u.level u.low);
            good = (tt, u.good);
            words = (f.1.0, operand-writable (level_of (pre at a)) (In a s).0 u.words);
            added = u.added;
          }
      expr-fine (fby at a b) s f h =
          let t = (In a s).1 in
          let tail = writable-behind (operand_tokens (level_of (two at Imp a a)) a) _ f.1 in
          let steps = expr-steps there names b t in
          let l = steps.later in
          let m = height (fby at a b) in
          let ua = expr-fine a s ((f.0.0.1, low-part (level_of (two at Imp a a)) a m (omega arith) f.0.1), before-words (level_of (two at Imp a a)) a _ f.1) (omega (arith, l, h)) in
          let ub = expr-fine b t ((f.0.0.2, low-part (level_of (fby at a a)) b m (omega arith) f.0.1), operand-plain (level_of (fby at a a)) b tail.1) h in
          record {
            level = refl;
            low = omega (arith, both-low (level_of (two at Imp a a)) (level_of (fby at a a)) (word key.Fby) a b s t (In b t).1 (In a s).0 (In b t).0 ua ub);
            good = (tt, ua.good, ub.good);
            words = both-words (level_of (two at Imp a a)) (level_of (fby at a a)) (word key.Fby) a b s t (In b t).1 (In a s).0 (In b t).0 ua ub tail.0;
            added = λ k. ub.added (ua.added k);
          }
      expr-fine (arrow at a b) s f h =
          let t = (In a s).1 in
          let tail = writable-behind (operand_tokens (level_of (when_is at a cons.True [])) a) _ f.1 in
          let steps = expr-steps there names b t in
          let l = steps.later in
          let k = f.0.1 in
          let ua = expr-fine a s ((f.0.0.1, low-part (level_of (when_is at a cons.True [])) a (height (arrow at a b)) (omega arith) k), before-words (level_of (when_is at a cons.True [])) a _ f.1) (omega (arith, l, h)) in
          let ub = expr-fine b t ((f.0.0.2, omega (arith, k)), tail.1) h in
          let lb = ub.low in
          record {
            level = refl;
            low = omega (arith, tall-low (level_of (when_is at a cons.True [])) a (In a s).0 ua.level ua.low, lb);
            good = (tt, ua.good, ub.good);
            words = writable-append (operand_tokens (level_of (when_is at a cons.True [])) (In a s).0) _ (operand-writable (level_of (when_is at a cons.True [])) (In a s).0 ua.words) (tail.0, ub.words);
            added = λ k. ub.added (ua.added k);
          }
      expr-fine (when_is at a c x) s f h =
          let tail = writable-behind (operand_tokens (level_of (when_is at a cons.True [])) a) _ f.1 in
          let u = expr-fine a s ((f.0.0.1, low-part (level_of (when_is at a cons.True [])) a (height (when_is at a c x)) (omega arith) f.0.1), before-words (level_of (when_is at a cons.True [])) a _ f.1) h in
          record {
            level = refl;
            low = omega (arith, tall-low (level_of (when_is at a cons.True [])) a (In a s).0 u.level u.low);
            good = (tt, u.good);
            words = writable-append (operand_tokens (level_of (when_is at a cons.True [])) (In a s).0) _ (operand-writable (level_of (when_is at a cons.True [])) (In a s).0 u.words) tail;
            added = u.added;
          }
      expr-fine (merge at x ps) s f h =
          let k = f.0.1 in
          let u = parts-fine ps s f.0.0.2 (omega (arith, k)) f.1.1.1 h in
          record { level = refl; low = u.low; good = (tt, u.has f.0.0.1, u.good); words = (f.1.0, (f.1.1.0, u.words)); added = u.added }
      expr-fine (call at f true es) s g h =
          let k = g.0.1 in
          let tail = g.1.1 in
          let u = exprs-fine es s (arguments-fine es g.0.0.1 (omega (arith, k)) (writable-front (arguments_tokens es) _ tail.1.1)) h in
          called-fine at f true es (in_exprs there names es s).0 s (in_exprs there names es s).1 (g.1.0, tt) tail.0 u
      expr-fine (call at f false es) s g h =
          let k = g.0.1 in
          let r = in_exprs there names es s in
          let steps = call-steps there names (formula_of there f) at f r.0 r.1 in
          let l = steps.later in
          let u = exprs-fine es s (arguments-fine es g.0.0.1 (omega (arith, k)) (writable-front (arguments_tokens es) _ g.1.1.1)) (omega (arith, l, h)) in
          call-fine (formula_of there f) at f es r.0 s r.1 g.1.0 h u

      exprs-fine : (es : Exprs) (s : Added) → AllFine es → (in_exprs there names es s).1.next < 2 ^ 64 → AllUnfold es s (in_exprs there names es s)
      exprs-fine no_expr s f h = record { low = omega arith; fine = tt; added = λ k. k }
      exprs-fine (more_exprs e es) s f h =
          let t = (In e s).1 in
          let steps = exprs-steps there names es t in
          let l = steps.later in
          let u = expr-fine e s f.0 (omega (arith, l, h)) in
          let v = exprs-fine es t f.1 h in
          let a = u.low in
          let b = v.low in
          let k = f.0.0.1 in
          record { low = omega (arith, a, b); fine = (((u.good, omega (arith, a, k)), u.words), v.fine); added = λ k. v.added (u.added k) }

      parts-fine : (ps : Parts) (s : Added) → GoodOperands Whole ps → parts_height ps ≤ d → Writable (parts_tokens ps) → (in_parts there names ps s).1.next < 2 ^ 64 → PartsUnfold ps s (in_parts there names ps s)
      parts-fine no_part s g k w h = record { low = omega arith; has = λ x. x; good = tt; words = tt; added = λ k. k }
      parts-fine (more_parts c e ps) s g k w h =
          let t = (In e s).1 in
          let steps = parts-steps there names ps t in
          let l = steps.later in
          let tail = writable-behind (expression_tokens e) _ w.1.1.1 in
          let u = expr-fine e s ((g.0, omega (arith, k)), writable-front (expression_tokens e) _ w.1.1.1) (omega (arith, l, h)) in
          let v = parts-fine ps t g.1 (omega (arith, k)) tail.1 h in
          let a = u.low in
          let b = v.low in
          record {
            low = omega (arith, a, b);
            has = λ x. tt;
            good = (u.good, v.good);
            words = (w.0, (w.1.0, (w.1.1.0, writable-append (expression_tokens (In e s).0) _ u.words (tail.0, v.words))));
            added = λ k. v.added (u.added k);
          }

    -- what an expression that is unfolded is
    fine-again : (e : Expr) (s : Added) → FineExpr e → Unfolds e s (In e s) → FineExpr (In e s).0
    fine-again e s f u = let a = u.low in let k = f.0.1 in ((u.good, omega (arith, a, k)), u.words)

    -- ---- equations

    abbrev InEqns : Eqns → Added → List Eqn × Added
    InEqns es s = in_eqns there names es s

    record EqnUnfolds (s : Added) (r : Eqn × Added) : Type 0 where
      pub fine : FineEqn r.0
      pub added : FineAdded s → FineAdded r.1

    eqn-fine : (q : Eqn) (s : Added) → FineEqn q → (in_eqn there names q s).1.next < 2 ^ 64 → EqnUnfolds s (in_eqn there names q s)
    eqn-fine (define at xs e) s f h =
        let tail = writable-behind (left_tokens xs) _ f.2 in
        let g : FineExpr e = (f.0, tail.1) in
        let u = expr-fine e s g h in
        let r = fine-again e s g u in
        record { fine = (r.0, f.1, writable-append (left_tokens xs) _ (writable-front (left_tokens xs) _ f.2) (tail.0, r.1)); added = u.added }
    eqn-fine (switch at e arms) s f h =
        let tail = writable-behind (expression_tokens e) _ f.2.1 in
        let g : FineExpr e = (f.0.0, writable-front (expression_tokens e) _ f.2.1) in
        let u = expr-fine e s g h in
        let r = fine-again e s g u in
        record { fine = ((r.0, f.0.1, f.0.2), f.1, (f.2.0, writable-append (expression_tokens (In e s).0) _ r.1 tail)); added = u.added }
    eqn-fine (reset at b e) s f h =
        let front = writable-front (inner_tokens b) _ f.2.1 in
        let tail = writable-behind (inner_tokens b) _ f.2.1 in
        let g : FineExpr e = (f.0.1, tail.1) in
        let u = expr-fine e s g h in
        let r = fine-again e s g u in
        record { fine = ((f.0.0, r.0), f.1, (f.2.0, writable-append (inner_tokens b) _ front (tail.0, r.1))); added = u.added }
    eqn-fine (automaton at qs) s f h = record { fine = f; added = λ k. k }

    -- the equations of a block
    abbrev FineEqns : Eqns → Type 0
    FineEqns es = GoodEqns d es × (nest_eqns es < nested) × Writable (equations_tokens es)

    record EqnsUnfold (s : Added) (r : List Eqn × Added) : Type 0 where
      pub fine : Each FineEqn r.0
      pub added : FineAdded s → FineAdded r.1

    eqns-fine : (es : Eqns) (s : Added) → FineEqns es → (InEqns es s).1.next < 2 ^ 64 → EqnsUnfold s (InEqns es s)
    eqns-fine no_eqn s f h = record { fine = tt; added = λ k. k }
    eqns-fine (more_eqns q es) s f h =
        let t = (in_eqn there names q s).1 in
        let steps = eqns-steps there names es t in
        let l = steps.later in
        let n = f.1 in
        let tail = writable-behind (equation_tokens q) _ f.2 in
        let u = eqn-fine q s (f.0.0, omega (arith, n), writable-front (equation_tokens q) _ f.2) (omega (arith, l, h)) in
        let v = eqns-fine es t (f.0.1, omega (arith, n), tail.1) h in
        record { fine = (u.fine, v.fine); added = λ k. v.added (u.added k) }

  -- equations that are a block's
  listed-fine : (qs : List Eqn) → Each FineEqn qs → GoodEqns d (eqns_of qs) × (nest_eqns (eqns_of qs) < nested) × Writable (equations_tokens (eqns_of qs))
  listed-fine [] h = (tt, some, tt)
  listed-fine (q ∷ qs) h =
      let r = listed-fine qs h.1 in
      let a = h.0.1 in
      let b = r.1 in
      ((h.0.0, r.0), omega (arith, a, b), writable-append (equation_tokens q) _ h.0.2 (sign-writable mark.Semicolon, r.2))

  -- ---- the block of a contract

  ended-front : (x : Decl) (ds : List Decl) → Writable (ended_by (sign mark.Semicolon) (map declaration_tokens (x ∷ ds))) → Writable (declaration_tokens x) × Writable (ended_by (sign mark.Semicolon) (map declaration_tokens ds))
  ended-front x ds w = let tail = writable-behind (declaration_tokens x) _ w in (writable-front (declaration_tokens x) _ w, tail.1)

  ended-locals : (ds : List Decl) → Each GoodLocal ds → Writable (ended_by (sign mark.Semicolon) (map declaration_tokens ds)) → Each FineLocal ds
  ended-locals [] g w = tt
  ended-locals (x ∷ ds) g w = let e = ended-front x ds w in ((g.0, e.0), ended-locals ds g.1 e.1)

  locals-fine : (ds : List Decl) → Each GoodLocal ds → Writable (variables_tokens ds) → Each FineLocal ds
  locals-fine [] g w = tt
  locals-fine (x ∷ ds) g w = ended-locals (x ∷ ds) g w.1

  ended-writable : (ds : List Decl) → Each FineLocal ds → Writable (ended_by (sign mark.Semicolon) (map declaration_tokens ds))
  ended-writable [] h = tt
  ended-writable (x ∷ ds) h = writable-append (declaration_tokens x) _ h.0.1 (sign-writable mark.Semicolon, ended-writable ds h.1)

  variables-writable : (ds : List Decl) → Each FineLocal ds → Writable (variables_tokens ds)
  variables-writable [] h = tt
  variables-writable (x ∷ ds) h = (word-writable key.Var, ended-writable (x ∷ ds) h)

  good-locals : (ds : List Decl) → Each FineLocal ds → Each GoodLocal ds
  good-locals [] h = tt
  good-locals (x ∷ ds) h = (h.0.0, good-locals ds h.1)

  -- a block of these declarations and equations
  abbrev FineBlock : Block → Type 0
  FineBlock b = GoodBlock d b × (nest_block b < nested) × Writable (contract_block_tokens b)

  block-writable : (b : Block) → Writable (whole_block_tokens b) → Writable (contract_block_tokens b)
  block-writable b h = by (is_empty_block b)
    where
      by : (e : Bool) → Writable (if e then [] else whole_block_tokens b)
      by true = tt
      by false = h

  made-fine : (ds : List Decl) (qs : List Eqn) → Each FineLocal ds → Each FineEqn qs → FineBlock (block ds (eqns_of qs))
  made-fine ds qs h k =
      let r = listed-fine qs k in (
        (good-locals ds h, r.0),
        r.1,
        block-writable (block ds (eqns_of qs))
            (writable-append (variables_tokens ds) _ (variables-writable ds h) (word-writable key.Let, writable-append (equations_tokens (eqns_of qs)) _ r.2 (word-writable key.Tel, tt))),
      )

  whole-parts : (ds : List Decl) (es : Eqns) → Writable (whole_block_tokens (block ds es)) → Writable (variables_tokens ds) × Writable (equations_tokens es)
  whole-parts ds es w =
      let tail = writable-behind (variables_tokens ds) _ w in
      (writable-front (variables_tokens ds) _ w, writable-front (equations_tokens es) _ tail.1)

  contract-parts : (ds : List Decl) (es : Eqns) → Writable (contract_block_tokens (block ds es)) → Writable (variables_tokens ds) × Writable (equations_tokens es)
  contract-parts [] no_eqn w = (tt, tt)
  contract-parts [] (more_eqns q es) w = whole-parts [] (more_eqns q es) w
  contract-parts (x ∷ ds) es w = whole-parts (x ∷ ds) es w

  body-parts : (b : Block) → GoodBlock d b → nest_block b < nested → Writable (contract_block_tokens b) → Each FineLocal (locals_of b) × (GoodEqns d (equations_of b) × (nest_eqns (equations_of b) < nested) × Writable (equations_tokens (equations_of b)))
  body-parts (block ds es) g n w = let p = contract-parts ds es w in (locals-fine ds g.0 p.0, (g.1, n, p.1))

  joined-fine : (ds : List Decl) (qs : List Eqn) (t : Added) → Each FineLocal ds → Each FineEqn qs → FineAdded t → FineBlock (joined_block ds qs t)
  unfolding joined_block
  joined-fine ds qs t h k f = made-fine (ds ++ t.locals) (qs ++ t.eqns) (each-add FineLocal ds t.locals h f.locals) (each-add FineEqn qs t.eqns k f.eqns)

  nothing-fine : (k : ℕ) → FineAdded (nothing_added k)
  nothing-fine k = record { locals = tt; eqns = tt }

  -- ---- contracts and programs

  module _ (there : Formulas) (names : Names) where
    record ConditionUnfolds (k : Keyword) (s : Added) (r : Option Expr × Added) : Type 0 where
      pub good : GoodCondition d r.0
      pub words : Writable (clause_tokens k r.0)
      pub added : FineAdded s → FineAdded r.1

    condition-fine : (k : Keyword) (o : Option Expr) (s : Added) → GoodCondition d o → Writable (clause_tokens k o) → (in_condition there names o s).1.next < 2 ^ 64 → ConditionUnfolds k s (in_condition there names o s)
    condition-fine k None s g w h = record { good = tt; words = tt; added = λ f. f }
    condition-fine k (Some e) s g w h =
        let f : FineExpr e = (g, w.1) in
        let u = expr-fine there names e s f h in
        let r = fine-again there names e s f u in
        record { good = r.0; words = (w.0, r.1); added = u.added }

    some-clause : (a e : Option Expr) (cs : List Decl) (s t : Added) → SomeClause a e cs → SomeClause (in_condition there names a s).0 (in_condition there names e t).0 cs
    some-clause None None [] s t h = h
    some-clause None None (c ∷ cs) s t h = tt
    some-clause None (Some e) cs s t h = tt
    some-clause (Some a) e cs s t h = tt

    contract-fine : (c : Contract) (k : ℕ) → GoodContract d nested c → Writable (contract_tokens c) → (in_contract there names c k).1 < 2 ^ 64
        → GoodContract d nested (in_contract there names c k).0 × Writable (contract_tokens (in_contract there names c k).0)
    contract-fine c k g w h =
        let s = nothing_added k in
        let es = in_eqns there names (equations_of c.body) s in
        let assume = in_condition there names c.assume es.1 in
        let enforce = in_condition there names c.enforce assume.1 in
        let sa = condition-steps there names c.assume es.1 in
        let se = condition-steps there names c.enforce assume.1 in
        let la = sa.later in
        let le = se.later in
        let body = contract_block_tokens c.body in
        let behind-body = writable-behind body _ w.1 in
        let behind-assume = writable-behind (clause_tokens key.Assume c.assume) _ behind-body in
        let p = body-parts c.body g.0.0 g.0.1 (writable-front body _ w.1) in
        let ue = eqns-fine there names (equations_of c.body) s p.1 (omega (arith, la, le, h)) in
        let ua = condition-fine key.Assume c.assume es.1 g.1 (writable-front (clause_tokens key.Assume c.assume) _ behind-body) (omega (arith, le, h)) in
        let ug = condition-fine key.Enforce c.enforce assume.1 g.2 (writable-front (clause_tokens key.Enforce c.enforce) _ behind-assume) h in
        let all = ug.added (ua.added (ue.added (nothing-fine k))) in
        let b = joined-fine (locals_of c.body) es.0 enforce.1 p.0 ue.fine all in
        let new = joined_block (locals_of c.body) es.0 enforce.1 in (
          ((b.0, b.1), ua.good, ug.good, g.3, some-clause c.assume c.enforce c.controls es.1 assume.1 g.4),
          (
            w.0,
            writable-append (contract_block_tokens new) _ b.2 (writable-append (clause_tokens key.Assume assume.0) _ ua.words
                (writable-append (clause_tokens key.Enforce enforce.0) _ ug.words (writable-behind (clause_tokens key.Enforce c.enforce) _ behind-assume))),
          ),
        )

    optional-fine : (o : Option Contract) (k : ℕ) → GoodOptional d nested o → Writable (node_contract_tokens o) → (in_optional there names o k).1 < 2 ^ 64
        → GoodOptional d nested (in_optional there names o k).0 × Writable (node_contract_tokens (in_optional there names o k).0)
    optional-fine None k g w h = (tt, tt)
    optional-fine (Some c) k g w h = contract-fine c k g w h

    item-fine : (inputs outputs more : Option ℕ) (item : Item) (k : ℕ) → GoodItem d nested inputs outputs more item → Writable (item_tokens item) → (in_item there names item k).1 < 2 ^ 64
        → GoodItem d nested inputs outputs more (in_item there names item k).0 × Writable (item_tokens (in_item there names item k).0)
    item-fine inputs outputs more (TypeItem t) k g w h = (g, w)
    item-fine inputs outputs more (NodeItem n) k g w h =
        let ins = parameters_tokens n.inputs in
        let outs = parameters_tokens n.outputs in
        let t1 = writable-behind ins _ w.1.1 in
        let t2 = writable-behind outs _ t1.1 in
        let o = optional-fine n.contract k g.2 (writable-front (node_contract_tokens n.contract) _ t2) h in (
          (g.0, g.1, o.0, g.3, g.4),
          (
            w.0,
            (
              w.1.0,
              writable-append ins _ (writable-front ins _ w.1.1) (
                t1.0,
                writable-append outs _ (writable-front outs _ t1.1)
                    (writable-append (node_contract_tokens (in_optional there names n.contract k).0) _ o.1 (writable-behind (node_contract_tokens n.contract) _ t2)),
              ),
            ),
          ),
        )

    items-fine : (inputs outputs more : Option ℕ) (items : List Item) (k : ℕ) → Each (GoodItem d nested inputs outputs more) items → Writable (program_tokens items) → number_behind there names items k < 2 ^ 64
        → Each (GoodItem d nested inputs outputs more) (in_items there names items k) × Writable (program_tokens (in_items there names items k))
    items-fine inputs outputs more [] k g w h = (tt, tt)
    items-fine inputs outputs more (item ∷ items) k g w h =
        let next = (in_item there names item k).1 in
        let later = behind-later there names items next in
        let a = item-fine inputs outputs more item k g.0 (writable-front (item_tokens item) _ w) (omega (arith, later, h)) in
        let b = items-fine inputs outputs more items next g.1 (writable-behind (item_tokens item) _ w) h in
        ((a.0, b.0), writable-append (item_tokens (in_item there names item k).0) _ a.1 b.1)

    same-types : (items : List Item) (k : ℕ) → count_types (in_items there names items k) ≡ count_types items
    same-types [] k = refl
    same-types (TypeItem t ∷ items) k = ap suc (same-types items k)
    same-types (NodeItem n ∷ items) k = same-types items (in_item there names (NodeItem n) k).1

-- an unfolded program may be read, and its tokens may be written
pub program-fine : (p : List Item) → GoodProgram 200 64 (Some 1000) (Some 64) (Some 64) (Some 63) p → Writable (program_tokens p) → next_number p < 2 ^ 64
    → GoodProgram 200 64 (Some 1000) (Some 64) (Some 64) (Some 63) (unfolded p) × Writable (program_tokens (unfolded p))
program-fine p g w h =
    let r = items-fine 200 64 (omega arith) (omega arith) (formulas_of p) (names_of p) (Some 64) (Some 64) (Some 63) p 1 g.0 w h in
    ((r.0, subst (λ n. n ≤ 1000) (sym (same-types 200 64 (omega arith) (omega arith) (formulas_of p) (names_of p) p 1)) g.1), r.1)

-- what is written of an unfolded program is read back
pub unfolded-read-back : (text : List ℕ) (tokens : List Token) (p : List Item) → AreTokensOf text tokens → IsProgram (lexemes text tokens) p → next_number p < 2 ^ 64
    → length (canonical_text (unfolded p)) ≤ most Size → IsReadBack (unfolded p) (canonical_text (unfolded p))
unfolded-read-back text tokens p a o small l =
    let spelled = all-spelled text text tokens [] (sym (append-nil text)) a.read in
    let found = program-found 199 63 (Some 1000) (Some 64) (Some 64) (Some 63) (omega arith) (omega arith) (lexemes text tokens) p spelled o in
    let f = program-fine p found.0 found.1 small in
    let ws = program_tokens (unfolded p) in
    let written = written_tokens [] ws in
    let can = program-read 200 64 (Some 1000) (Some 64) (Some 64) (Some 63) (unfolded p) f.0 in
    let at = can.at (lexemes (canonical_text (unfolded p)) written) (spell-at ws [] (canonical_text (unfolded p)) refl) in
    record { tokens = written; tree = at.0; lexed = read_again ws f.1 l; parsed = at.1; same = at.2 }
