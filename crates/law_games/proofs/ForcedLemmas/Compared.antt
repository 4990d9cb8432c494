-- In an instant that fits, where an operator has a first operand that holds the mark and gives a truth value, it compares integers: so a truth value is given at its place.
use Rattle.std.proofs.Common.{◌≡◌, ℕ, suc, List, [], ◌∷◌, ◌++◌, refl, sym, ap, subst, ◌∙◌}
use Rattle.std.proofs.lemmas.Slice.Eq.{bytes_eq-Decides}
use Rattle.std.specs.Prelude.{Bool, true, false, ◌&&◌, IsTrue, if◌then◌else◌, Option, None, Some}
use Rattle.std.specs.Str.{bytes_eq}
use Rattle.hp_base.specs.declared.ty.Ty.{Ty}
use Rattle.hp_base.specs.declared.ty.Ty.TheVariants as ty
use Rattle.hp_base.specs.declared.value.Value.{Value}
use Rattle.hp_base.specs.declared.value.Value.TheVariants.{Absent, Nil, B, Star}
use Rattle.hp_tree.specs.declared.block.Trans.{Trans}
use Rattle.hp_tree.specs.declared.expr.Op2.{Op2}
use Rattle.hp_tree.specs.declared.expr.Op2.TheVariants.{And, Or, Xor, Imp, Eq, Ne, Lt, Le, Gt, Ge, Add, Sub, Mul, Div, Rem}
use Rattle.hp_tree.specs.declared.program.Item.{Item}
use Rattle.hp_tree.specs.declared.program.Item.TheVariants.{TypeItem, NodeItem}
use Rattle.hp_tree.specs.Expressions.{Expr, constant, variable, last_of, one, two, choose, pre, fby, arrow, when_is, merge, call, Exprs, no_expr, more_exprs, Parts, no_part, more_parts}
use Rattle.hp_tree.specs.Blocks.{Decl, Block, block, Eqns, no_eqn, more_eqns, Eqn, define, switch, reset, automaton, Arms, no_arm, more_arms, States, no_state, more_states}
use Rattle.hp_tree.specs.Programs.{TypeDecl, Contract, Node}
use Rattle.hp_tree.specs.Operators.{constructor_from, place_in, or_later, same_value, is_comparison, marked}
use Rattle.hp_tree.specs.Filled.{first_value}
use Rattle.hp_tree.specs.Instant.{Body, Observer, Assume, Enforce, Named, Equations, Head, Tail, Right, Test, Arms as ArmsOf, States as StatesOf, Until, Unless, First, Second, Third, Args, Instance, Place, Instant, part, top, Clock, without}
use Rattle.hp_tree.specs.Meaning.{clock_of, controls_of, node_among}
use Rattle.hp_tree.specs.Values.{constructors_of}
use Rattle.hp_typing.specs.Scopes.{with_variables, inside as into, inside_node}
use Rattle.hp_typing.specs.Types.{type_of, agrees, operand, answer, where_true, two_type, if_type, pair_type}
use Rattle.law_judged.specs.Typed.Scopes.{Scope}
use Rattle.hp_init.specs.Classes.{Classes, Assignment}
use Rattle.law_values.specs.Valued.Classed.{classes_in, classes_within, classes_of, none_second, seen_in_node}
use Rattle.law_values.specs.Valued.Values.{scope_behind, either_of, Classing, class_here, class_behind}
use Rattle.law_games.specs.Wiretyped.Typed.{IsFlag, IsWire}
use Rattle.law_games.specs.Wiretyped.Kept.{ComparisonGiven, OutputsGiven, ExprKept, ExprsKept, PartsKept, TestsKept, BlockKept, EqnsKept, EqnKept, ArmsKept, StatesKept, ToldKept, ContractKept}
use Rattle.law_games.specs.Wiretyped.Callees.{none_kept, OwnKept, AloneKept, CalleeKept}
use Rattle.law_games.proofs.WiretypedLemmas.Exprs.{value_is}
use Rattle.law_games.specs.Abstracted.Fitting.{Presence, IsThere, HasValue, Fits, value_type, ExprFits, ExprsFit, PartsFit, TestsFit, ToldFits}
use Rattle.law_games.specs.Abstracted.Given.{ExprGiven, ExprsGiven, PartsGiven, TestsGiven, BlockGiven, EqnsGiven, EqnGiven, ArmsGiven, StatesGiven, ToldGiven, ContractGiven}
use Rattle.law_games.specs.Abstracted.Instances.{none_fits, any_given, read_names, InstanceFits, CalledFits, InstanceGiven, CalledGiven}
use Rattle.law_games.proofs.AbstractedLemmas.Loose.{BlockLoose, EqnsLoose, EqnLoose, ArmsLoose, StatesLoose, BlockAt, ContractLoose, NodeLoose}
use Rattle.law_games.proofs.AbstractedLemmas.Loosen.{contract_loose}
use Rattle.law_games.proofs.ForcedLemmas.Mended.{flag_of, one_among, of_type, of_output, Mends, mend, mend_all, mend_parts, mend_tests, mend_block, mend_eqns, mend_eqn, mend_arms, mend_states, mend_told, mend_contract, mend_node, mend_none, mend_alone, mend_by}

-- Of an instant, what is given and what it is mended to: where the first operand holds the mark and all becomes a truth value, a truth value is given if one is held.
abbrev pub Compared : Instant → Instant → (Place → Value → Value) → Type 0
Compared i free m = (p : Place) → i (p ++ (First ∷ [])) ≡ Star → IsFlag (i p) → ((v : Value) → m p v ≡ flag_of v) → IsFlag (free p)

-- ---- values

stays : {X : Type 0} → Star ≡ B false → X
stays e = absurd (cc)

one_only : {X : Type 0} (u : Value) → u ≡ B true → u ≡ B false → X
one_only u e f = absurd (let h : B true ≡ B false = sym e ∙ f in cc)

flag_absent : {X : Type 0} (v : Value) → IsFlag v → v ≡ Absent → X
flag_absent v f e = absurd (let h : B f.0 ≡ Absent = sym f.1 ∙ e in cc)

flag_star : {X : Type 0} (v : Value) → IsFlag v → v ≡ Star → X
flag_star v f e = absurd (let h : B f.0 ≡ Star = sym f.1 ∙ e in cc)

absent_star : {X : Type 0} (v : Value) → v ≡ Absent → v ≡ Star → X
absent_star v e f = absurd (let h : Absent ≡ Star = sym e ∙ f in cc)

-- ---- types

module _ (types : List TypeDecl) where
  -- what holds the mark is an integer
  mark_int : (t : Ty) (n : Bool) (w : Value) → w ≡ Star → HasValue types t n w → t ≡ ty.Int
  mark_int t n w e h = by t (subst (HasValue types t n) e h)
    where
      by : (t : Ty) → HasValue types t n Star → t ≡ ty.Int
      by ty.Bool h = absurd h
      by ty.Int h = refl
      by (ty.Enum x) h = absurd h

  -- an integer is no truth value
  int_no_flag : {X : Type 0} (n : Bool) (x : Value) → IsFlag x → HasValue types ty.Int n x → X
  int_no_flag n x f h = let z : B f.0 ≡ Star = subst (HasValue types ty.Int n) f.1 h in absurd (cc)

  agrees_none : (x : Option Ty) → agrees x None ≡ false
  agrees_none None = refl
  agrees_none (Some t) = refl

  -- where the type t, or none, is told of the operand
  no_type : {X : Type 0} (n : Bool) (x : Value) (t : Option Ty) → t ≡ None → IsFlag x → Fits types true t n x → X
  no_type n x t e f h = flag_absent x f (subst (λ z. Fits types true z n x) e h)

  -- an operator over integers that gives a truth value compares
  compares : (o : Op2) (tb : Option Ty) (n : Bool) (x : Value) → IsFlag x → Fits types true (two_type o (Some ty.Int) tb) n x → IsTrue (is_comparison o)
  compares And tb n x f h = flag_absent x f h
  compares Or tb n x f h = flag_absent x f h
  compares Xor tb n x f h = flag_absent x f h
  compares Imp tb n x f h = flag_absent x f h
  compares Eq tb n x f h = refl
  compares Ne tb n x f h = refl
  compares Lt tb n x f h = refl
  compares Le tb n x f h = refl
  compares Gt tb n x f h = refl
  compares Ge tb n x f h = refl
  compares Add tb n x f h = arithmetic (agrees (Some ty.Int) tb) n x f h
    where
      arithmetic : {X : Type 0} (b : Bool) (n : Bool) (x : Value) → IsFlag x → Fits types true (where_true b (Some ty.Int)) n x → X
      arithmetic true n x f h = int_no_flag n x f h
      arithmetic false n x f h = flag_absent x f h
  compares Sub tb n x f h = arithmetic (agrees (Some ty.Int) tb) n x f h
    where
      arithmetic : {X : Type 0} (b : Bool) (n : Bool) (x : Value) → IsFlag x → Fits types true (where_true b (Some ty.Int)) n x → X
      arithmetic true n x f h = int_no_flag n x f h
      arithmetic false n x f h = flag_absent x f h
  compares Mul tb n x f h = arithmetic (agrees (Some ty.Int) tb) n x f h
    where
      arithmetic : {X : Type 0} (b : Bool) (n : Bool) (x : Value) → IsFlag x → Fits types true (where_true b (Some ty.Int)) n x → X
      arithmetic true n x f h = int_no_flag n x f h
      arithmetic false n x f h = flag_absent x f h
  compares Div tb n x f h = arithmetic (agrees (Some ty.Int) tb) n x f h
    where
      arithmetic : {X : Type 0} (b : Bool) (n : Bool) (x : Value) → IsFlag x → Fits types true (where_true b (Some ty.Int)) n x → X
      arithmetic true n x f h = int_no_flag n x f h
      arithmetic false n x f h = flag_absent x f h
  compares Rem tb n x f h = arithmetic (agrees (Some ty.Int) tb) n x f h
    where
      arithmetic : {X : Type 0} (b : Bool) (n : Bool) (x : Value) → IsFlag x → Fits types true (where_true b (Some ty.Int)) n x → X
      arithmetic true n x f h = int_no_flag n x f h
      arithmetic false n x f h = flag_absent x f h

  -- The type of a first operand that holds the mark: none is told, or it is an integer.
  first_type : {X : Type 0} (d : Bool) (ta va : Option Ty) (n : Bool) (w : Value) → ((t : Ty) → ta ≡ Some t → va ≡ Some t) → Fits types d va n w → w ≡ Star → (IsTrue d → ta ≡ None → X) → (IsTrue d → ta ≡ Some ty.Int → X) → X
  first_type false ta va n w r h e none int = absent_star w h e
  first_type true None va n w r h e none int = none refl refl
  first_type true (Some t) va n w r h e none int = int refl (ap Some (mark_int t n w e (subst (λ z. Fits types true z n w) (r t refl) h)))

  compared_two : (o : Op2) (d : Bool) (ta tb va : Option Ty) (n m : Bool) (w x v : Value) → ((t : Ty) → ta ≡ Some t → va ≡ Some t) → Fits types d va n w → w ≡ Star → Fits types d (two_type o ta tb) m x → IsFlag x → ComparisonGiven o ta v → IsFlag v
  compared_two o d ta tb va n m w x v r h e k f g =
      first_type d ta va n w r h e
      (λ t z. no_type m x (two_type o None tb) (ap (λ y. where_true (y && agrees (operand o None) tb) (Some (answer o))) (agrees_none (operand o None))) f
      (subst (λ y. Fits types true (two_type o y tb) m x) z (subst (λ y. Fits types y (two_type o ta tb) m x) t k)))
      (λ t z. subst (λ y. ComparisonGiven o y v) z g (compares o tb m x f (subst (λ y. Fits types true (two_type o y tb) m x) z (subst (λ y. Fits types y (two_type o ta tb) m x) t k))))

  paired_never : {X : Type 0} (d : Bool) (ta tb va : Option Ty) (n m : Bool) (w x : Value) → ((t : Ty) → ta ≡ Some t → va ≡ Some t) → Fits types d va n w → w ≡ Star → Fits types d (pair_type ta tb) m x → IsFlag x → X
  paired_never d ta tb va n m w x r h e k f =
      first_type d ta va n w r h e
      (λ t z. flag_absent x f (subst (λ y. Fits types true (pair_type y tb) m x) z (subst (λ y. Fits types y (pair_type ta tb) m x) t k)))
      (λ t z. by (agrees (Some ty.Int) tb) (subst (λ y. Fits types true (pair_type y tb) m x) z (subst (λ y. Fits types y (pair_type ta tb) m x) t k)))
    where
      by : {X : Type 0} (b : Bool) → Fits types true (where_true b (Some ty.Int)) m x → X
      by true h = int_no_flag m x f h
      by false h = flag_absent x f h

  chosen_never : {X : Type 0} (d : Bool) (ta tb tc va : Option Ty) (n m : Bool) (w x : Value) → ((t : Ty) → ta ≡ Some t → va ≡ Some t) → Fits types d va n w → w ≡ Star → Fits types d (if_type ta tb tc) m x → IsFlag x → X
  chosen_never d ta tb tc va n m w x r h e k f =
      first_type d ta va n w r h e
      (λ t z. flag_absent x f (subst (λ y. Fits types true (if_type y tb tc) m x) z (subst (λ y. Fits types y (if_type ta tb tc) m x) t k)))
      (λ t z. flag_absent x f (subst (λ y. Fits types true (if_type y tb tc) m x) z (subst (λ y. Fits types y (if_type ta tb tc) m x) t k)))

-- ---- the tree

nil : Value → Value
nil given = Nil

module _ (types : List TypeDecl) (u : Value → Value) (fits : List ℕ → Instant → Type 0) (kept : List ℕ → Instant → Instant → Type 0) (given : List ℕ → Instant → Type 0) (callee : List ℕ → Mends)
    (own : (f : List ℕ) (start mem i free : Instant) → fits f i → kept f start mem → given f free → Compared i free (callee f start)) where
  top_of : (s : Scope) (second : Classes) (there : Presence) (e : Expr) (clock : Clock) (i : Instant) → ExprFits types true fits s second there e clock i → (n : Bool) × Fits types (there clock) (value_type s e) n (top i)
  top_of s second there (constant at c) clock i h = (_, h)
  top_of s second there (variable at x) clock i h = (_, h)
  top_of s second there (last_of at x) clock i h = (_, h)
  top_of s second there (one at o b) clock i h = (_, h.0)
  top_of s second there (two at o b c) clock i h = (_, h.0)
  top_of s second there (choose at b c d) clock i h = (_, h.0)
  top_of s second there (pre at b) clock i h = (_, h.0)
  top_of s second there (fby at b c) clock i h = (_, h.0)
  top_of s second there (arrow at b c) clock i h = (_, h.0)
  top_of s second there (when_is at b c x) clock i h = (_, h.0)
  top_of s second there (merge at x ps) clock i h = (_, h.0)
  top_of s second there (call at f inlined es) clock i h = (_, h.0)

  -- a part that is there, or not
  if_there : (d : Bool) (P : Instant → Type 0) (i free : Instant) (m : Place → Value → Value) → (P i → Compared i free m) → IsThere d P i → Compared i free m
  if_there true P i free m k h = k h
  if_there false P i free m k h = λ p f b e. flag_absent (i p) b (h p)

  module _ (s : Scope) (second : Classes) (there : Presence) where
    mutual
      expr_compared : (e : Expr) (clock : Clock) (start mem i free : Instant) → ExprFits types true fits s second there e clock i → ExprKept types kept s e start mem → ExprGiven types true u given s e free → Compared i free (mend callee e start)
      expr_compared (constant at c) clock start mem i free h k g p f b e = stays (e Star)
      expr_compared (variable at x) clock start mem i free h k g p f b e = stays (e Star)
      expr_compared (last_of at x) clock start mem i free h k g p f b e = stays (e Star)
      expr_compared (one at o a) clock start mem i free h k g (First ∷ p) f b e = expr_compared a clock (part First start) (part First mem) (part First i) (part First free) h.1 k g p f b e
      expr_compared (one at o a) clock start mem i free h k g p f b e = stays (e Star)
      expr_compared (two at o a c) clock start mem i free h k g [] f b e =
          let r = top_of s second there a clock (part First i) h.1.0 in
          compared_two types o (there clock) (type_of s a) (type_of s c) (value_type s a) r.0 _ (i (First ∷ [])) (i []) (free []) (λ t z. value_is s a t z) r.1 f h.0 b g.0
      expr_compared (two at o a c) clock start mem i free h k g (First ∷ p) f b e = expr_compared a clock (part First start) (part First mem) (part First i) (part First free) h.1.0 k.0 g.1.0 p f b e
      expr_compared (two at o a c) clock start mem i free h k g (Second ∷ p) f b e = expr_compared c clock (part Second start) (part Second mem) (part Second i) (part Second free) h.1.1 k.1 g.1.1 p f b e
      expr_compared (two at o a c) clock start mem i free h k g p f b e = stays (e Star)
      expr_compared (choose at a c d) clock start mem i free h k g [] f b e =
          let r = top_of s second there a clock (part First i) h.1.0 in
          chosen_never types (there clock) (type_of s a) (type_of s c) (type_of s d) (value_type s a) r.0 _ (i (First ∷ [])) (i []) (λ t z. value_is s a t z) r.1 f h.0 b
      expr_compared (choose at a c d) clock start mem i free h k g (First ∷ p) f b e = expr_compared a clock (part First start) (part First mem) (part First i) (part First free) h.1.0 k.0 g.0 p f b e
      expr_compared (choose at a c d) clock start mem i free h k g (Second ∷ p) f b e = expr_compared c clock (part Second start) (part Second mem) (part Second i) (part Second free) h.1.1.0 k.1.0 g.1.0 p f b e
      expr_compared (choose at a c d) clock start mem i free h k g (Third ∷ p) f b e = expr_compared d clock (part Third start) (part Third mem) (part Third i) (part Third free) h.1.1.1 k.1.1 g.1.1 p f b e
      expr_compared (choose at a c d) clock start mem i free h k g p f b e = stays (e Star)
      expr_compared (pre at a) clock start mem i free h k g [] f b e = one_only (start []) (e (B true)) (e (B false))
      expr_compared (pre at a) clock start mem i free h k g (First ∷ p) f b e = expr_compared a clock (part First start) (part First mem) (part First i) (part First free) h.1 k.1.1 g.1 p f b e
      expr_compared (pre at a) clock start mem i free h k g p f b e = stays (e Star)
      expr_compared (fby at a c) clock start mem i free h k g [] f b e =
          let r = top_of s second there a clock (part First i) h.1.0 in
          paired_never types (there clock) (type_of s a) (type_of s c) (value_type s a) r.0 _ (i (First ∷ [])) (i []) (λ t z. value_is s a t z) r.1 f h.0 b
      expr_compared (fby at a c) clock start mem i free h k g (First ∷ p) f b e = expr_compared a clock (part First start) (part First mem) (part First i) (part First free) h.1.0 k.1.1.1.0 g.0 p f b e
      expr_compared (fby at a c) clock start mem i free h k g (Second ∷ p) f b e = expr_compared c clock (part Second start) (part Second mem) (part Second i) (part Second free) h.1.1 k.1.1.1.1 g.1 p f b e
      expr_compared (fby at a c) clock start mem i free h k g p f b e = stays (e Star)
      expr_compared (arrow at a c) clock start mem i free h k g [] f b e =
          let r = top_of s second there a clock (part First i) h.1.0 in
          paired_never types (there clock) (type_of s a) (type_of s c) (value_type s a) r.0 _ (i (First ∷ [])) (i []) (λ t z. value_is s a t z) r.1 f h.0 b
      expr_compared (arrow at a c) clock start mem i free h k g (First ∷ p) f b e = expr_compared a clock (part First start) (part First mem) (part First i) (part First free) h.1.0 k.1.0 g.0 p f b e
      expr_compared (arrow at a c) clock start mem i free h k g (Second ∷ p) f b e = expr_compared c clock (part Second start) (part Second mem) (part Second i) (part Second free) h.1.1 k.1.1 g.1 p f b e
      expr_compared (arrow at a c) clock start mem i free h k g p f b e = stays (e Star)
      expr_compared (when_is at a c x) clock start mem i free h k g (First ∷ p) f b e = expr_compared a (without clock) (part First start) (part First mem) (part First i) (part First free) h.1 k g p f b e
      expr_compared (when_is at a c x) clock start mem i free h k g p f b e = stays (e Star)
      expr_compared (merge at x ps) clock start mem i free h k g (Args ∷ p) f b e = parts_compared ps x clock (part Args start) (part Args mem) (part Args i) (part Args free) h.1 k g p f b e
      expr_compared (merge at x ps) clock start mem i free h k g p f b e = stays (e Star)
      expr_compared (call at x inlined es) clock start mem i free h k g (Args ∷ p) f b e = exprs_compared es clock (part Args start) (part Args mem) (part Args i) (part Args free) h.1.0 k.0 g.0 p f b e
      expr_compared (call at x inlined es) clock start mem i free h k g (Instance ∷ p) f b e =
          if_there (there clock) (fits x) (part Instance i) (part Instance free) (callee x (part Instance start)) (λ z. own x (part Instance start) (part Instance mem) (part Instance i) (part Instance free) z k.1 g.1) h.1.1 p f b e
      expr_compared (call at x inlined es) clock start mem i free h k g p f b e = stays (e Star)

      exprs_compared : (es : Exprs) (clock : Clock) (start mem i free : Instant) → ExprsFit types true fits s second there es clock i → ExprsKept types kept s es start mem → ExprsGiven types true u given s es free → Compared i free (mend_all callee es start)
      exprs_compared no_expr clock start mem i free h k g p f b e = stays (e Star)
      exprs_compared (more_exprs a es) clock start mem i free h k g (Head ∷ p) f b e = expr_compared a clock (part Head start) (part Head mem) (part Head i) (part Head free) h.0 k.0 g.0 p f b e
      exprs_compared (more_exprs a es) clock start mem i free h k g (Tail ∷ p) f b e = exprs_compared es clock (part Tail start) (part Tail mem) (part Tail i) (part Tail free) h.1 k.1 g.1 p f b e
      exprs_compared (more_exprs a es) clock start mem i free h k g p f b e = stays (e Star)

      parts_compared : (ps : Parts) (x : List ℕ) (clock : Clock) (start mem i free : Instant) → PartsFit types true fits s second there ps x clock i → PartsKept types kept s ps start mem → PartsGiven types true u given s ps free → Compared i free (mend_parts callee ps start)
      parts_compared no_part x clock start mem i free h k g p f b e = stays (e Star)
      parts_compared (more_parts c a ps) x clock start mem i free h k g (Head ∷ p) f b e = expr_compared a ((c, x) ∷ clock) (part Head start) (part Head mem) (part Head i) (part Head free) h.0 k.0 g.0 p f b e
      parts_compared (more_parts c a ps) x clock start mem i free h k g (Tail ∷ p) f b e = parts_compared ps x clock (part Tail start) (part Tail mem) (part Tail i) (part Tail free) h.1 k.1 g.1 p f b e
      parts_compared (more_parts c a ps) x clock start mem i free h k g p f b e = stays (e Star)

    tests_compared : (ts : List Trans) (start mem i free : Instant) → TestsFit types true fits s second there ts i → TestsKept types kept s ts start mem → TestsGiven types true u given s ts free → Compared i free (mend_tests callee ts start)
    tests_compared [] start mem i free h k g p f b e = stays (e Star)
    tests_compared (t ∷ ts) start mem i free h k g (Head ∷ p) f b e = expr_compared t.cond [] (part Head start) (part Head mem) (part Head i) (part Head free) h.0 k.0 g.0 p f b e
    tests_compared (t ∷ ts) start mem i free h k g (Tail ∷ p) f b e = tests_compared ts (part Tail start) (part Tail mem) (part Tail i) (part Tail free) h.1 k.1 g.1 p f b e
    tests_compared (t ∷ ts) start mem i free h k g p f b e = stays (e Star)

    told_compared : (o : Option Expr) (start mem i free : Instant) → ToldFits types true fits s second there o i → ToldKept types kept s o start mem → ToldGiven types true u given s o free → Compared i free (mend_told callee o start)
    told_compared None start mem i free h k g p f b e = stays (e Star)
    told_compared (Some a) start mem i free h k g p f b e = expr_compared a [] start mem i free h k g p f b e

  -- ---- blocks
  mutual
    block_compared : (bl : Block) (s : Scope) (second : Classes) (class : Assignment) (start mem i free : Instant) → BlockLoose types true fits s second class bl i → BlockKept types kept s bl start mem → BlockGiven types true u given s bl free → Compared i free (mend_block callee bl start)
    block_compared (block ds es) s second class start mem i free h k g (Equations ∷ p) f b e =
        eqns_compared es ds (with_variables s ds) (classes_in es second class) (λ q. class (Equations ∷ q)) h.0 (part Equations start) (part Equations mem) (part Equations i) (part Equations free) h.1.1.1 k.1 g p f b e
    block_compared (block ds es) s second class start mem i free h k g p f b e = stays (e Star)

    eqns_compared : (es : Eqns) (ds : List Decl) (s : Scope) (second : Classes) (class : Assignment) (there : Presence) (start mem i free : Instant) → EqnsLoose types true fits ds s second class there es i → EqnsKept types kept s es start mem → EqnsGiven types true u given s es free
        → Compared i free (mend_eqns callee es start)
    eqns_compared no_eqn ds s second class there start mem i free h k g p f b e = stays (e Star)
    eqns_compared (more_eqns q es) ds s second class there start mem i free h k g (Head ∷ p) f b e =
        eqn_compared q ds s second (λ q. class (Head ∷ q)) there (part Head start) (part Head mem) (part Head i) (part Head free) h.0 k.0 g.0 p f b e
    eqns_compared (more_eqns q es) ds s second class there start mem i free h k g (Tail ∷ p) f b e =
        eqns_compared es ds s second (λ q. class (Tail ∷ q)) there (part Tail start) (part Tail mem) (part Tail i) (part Tail free) h.1 k.1 g.1 p f b e
    eqns_compared (more_eqns q es) ds s second class there start mem i free h k g p f b e = stays (e Star)

    eqn_compared : (q : Eqn) (ds : List Decl) (s : Scope) (second : Classes) (class : Assignment) (there : Presence) (start mem i free : Instant) → EqnLoose types true fits ds s second class there q i → EqnKept types kept s q start mem → EqnGiven types true u given s q free
        → Compared i free (mend_eqn callee q start)
    eqn_compared (define at ys a) ds s second class there start mem i free h k g (Right ∷ p) f b e =
        expr_compared s second there a (clock_of ds ys a) (part Right start) (part Right mem) (part Right i) (part Right free) h k g p f b e
    eqn_compared (define at ys a) ds s second class there start mem i free h k g p f b e = stays (e Star)
    eqn_compared (switch at a arms) ds s second class there start mem i free h k g (Test ∷ p) f b e = expr_compared s second there a [] (part Test start) (part Test mem) (part Test i) (part Test free) h.0 k.0 g.0 p f b e
    eqn_compared (switch at a arms) ds s second class there start mem i free h k g (ArmsOf ∷ p) f b e =
        arms_compared arms s (classes_within (switch at a arms) second) (λ q. class (ArmsOf ∷ q)) (part ArmsOf start) (part ArmsOf mem) (part ArmsOf i) (part ArmsOf free) h.1 k.1 g.1 p f b e
    eqn_compared (switch at a arms) ds s second class there start mem i free h k g p f b e = stays (e Star)
    eqn_compared (reset at bl a) ds s second class there start mem i free h k g (Test ∷ p) f b e = expr_compared s second there a [] (part Test start) (part Test mem) (part Test i) (part Test free) h.0 k.0 g.0 p f b e
    eqn_compared (reset at bl a) ds s second class there start mem i free h k g (Body ∷ p) f b e =
        block_compared bl s (classes_within (reset at bl a) second) (λ q. class (Body ∷ q)) (part Body start) (part Body mem) (part Body i) (part Body free) h.1 k.1 g.1 p f b e
    eqn_compared (reset at bl a) ds s second class there start mem i free h k g p f b e = stays (e Star)
    eqn_compared (automaton at ss) ds s second class there start mem i free h k g (StatesOf ∷ p) f b e =
        states_compared ss s second (classes_within (automaton at ss) second) (λ q. class (StatesOf ∷ q)) there (part StatesOf start) (part StatesOf mem) (part StatesOf i) (part StatesOf free) h.1.1 k.1.1 g p f b e
    eqn_compared (automaton at ss) ds s second class there start mem i free h k g p f b e = stays (e Star)

    arms_compared : (arms : Arms) (s : Scope) (second : Classes) (class : Assignment) (start mem i free : Instant) → ArmsLoose types true fits s second class arms i → ArmsKept types kept s arms start mem → ArmsGiven types true u given s arms free → Compared i free (mend_arms callee arms start)
    arms_compared no_arm s second class start mem i free h k g p f b e = stays (e Star)
    arms_compared (more_arms c bl at arms) s second class start mem i free h k g (Head ∷ p) f b e =
        if_there h.0.0 (BlockLoose types true fits s second (λ q. class (Head ∷ q)) bl) (part Head i) (part Head free) (mend_block callee bl (part Head start))
        (λ z. block_compared bl s second (λ q. class (Head ∷ q)) (part Head start) (part Head mem) (part Head i) (part Head free) z k.0 g.0) h.0.1 p f b e
    arms_compared (more_arms c bl at arms) s second class start mem i free h k g (Tail ∷ p) f b e = arms_compared arms s second (λ q. class (Tail ∷ q)) (part Tail start) (part Tail mem) (part Tail i) (part Tail free) h.1 k.1 g.1 p f b e
    arms_compared (more_arms c bl at arms) s second class start mem i free h k g p f b e = stays (e Star)

    states_compared : (ss : States) (s : Scope) (out second : Classes) (class : Assignment) (there : Presence) (start mem i free : Instant) → StatesLoose types true fits s out second class there ss i → StatesKept types kept s ss start mem → StatesGiven types true u given s ss free
        → Compared i free (mend_states callee ss start)
    states_compared no_state s out second class there start mem i free h k g p f b e = stays (e Star)
    states_compared (more_states x bl until unless at ss) s out second class there start mem i free h k g (Head ∷ Body ∷ p) f b e =
        if_there h.0.0.0 (BlockLoose types true fits s second (λ q. class (Head ∷ Body ∷ q)) bl) (part Body (part Head i)) (part Body (part Head free)) (mend_block callee bl (part Body (part Head start)))
        (λ z. block_compared bl s second (λ q. class (Head ∷ Body ∷ q)) (part Body (part Head start)) (part Body (part Head mem)) (part Body (part Head i)) (part Body (part Head free)) z k.0 g.0) h.0.0.1.0 p f b e
    states_compared (more_states x bl until unless at ss) s out second class there start mem i free h k g (Head ∷ Until ∷ p) f b e =
        if_there h.0.0.0 _ (part Until (part Head i)) (part Until (part Head free)) (mend_tests callee until (part Until (part Head start)))
        (λ z. tests_compared (into s bl) (classes_of bl second (λ q. class (Head ∷ Body ∷ q))) z.0 until (part Until (part Head start)) (part Until (part Head mem)) (part Until (part Head i)) (part Until (part Head free)) z.1.1 k.1.0 g.1.0) h.0.0.1.1 p f b e
    states_compared (more_states x bl until unless at ss) s out second class there start mem i free h k g (Head ∷ Unless ∷ p) f b e =
        tests_compared s out there unless (part Unless (part Head start)) (part Unless (part Head mem)) (part Unless (part Head i)) (part Unless (part Head free)) h.0.1 k.1.1.0 g.1.1.0 p f b e
    states_compared (more_states x bl until unless at ss) s out second class there start mem i free h k g (Tail ∷ p) f b e =
        states_compared ss s out second (λ q. class (Tail ∷ q)) there (part Tail start) (part Tail mem) (part Tail i) (part Tail free) h.1 k.1.1.1 g.1.1.1 p f b e
    states_compared (more_states x bl until unless at ss) s out second class there start mem i free h k g p f b e = stays (e Star)

  -- ---- contracts
  block_at : (bl : Block) (s : Scope) (second : Classes) (class : Assignment) (there : Presence) (start mem i free : Instant) → BlockAt types true fits s second class there bl i → BlockKept types kept s bl start mem → BlockGiven types true u given s bl free → Compared i free (mend_block callee bl start)
  block_at (block ds es) s second class there start mem i free h k g (Equations ∷ p) f b e =
      eqns_compared es ds (with_variables s ds) (classes_in es second class) (λ q. class (Equations ∷ q)) there (part Equations start) (part Equations mem) (part Equations i) (part Equations free) h.1 k.1 g p f b e
  block_at (block ds es) s second class there start mem i free h k g p f b e = stays (e Star)

  contract_compared : (o : Option Contract) (s : Scope) (class : Assignment) (start mem i free : Instant) → ContractLoose types true fits s class o i → ContractKept types kept s o start mem → ContractGiven types true u given s o free → Compared i free (mend_contract callee o start)
  contract_compared None s class start mem i free h k g p f b e = stays (e Star)
  contract_compared (Some c) s class start mem i free h k g (Observer ∷ p) f b e =
      block_at c.body s none_second (λ q. class (Observer ∷ q)) h.0 (part Observer start) (part Observer mem) (part Observer i) (part Observer free) h.1.1.0 k.0 g.0 p f b e
  contract_compared (Some c) s class start mem i free h k g (Assume ∷ p) f b e =
      told_compared (into s c.body) (classes_of c.body none_second (λ q. class (Observer ∷ q))) h.0 c.assume (part Assume start) (part Assume mem) (part Assume i) (part Assume free) h.1.1.1.1.0 k.1.0 g.1.0 p f b e
  contract_compared (Some c) s class start mem i free h k g (Enforce ∷ p) f b e =
      told_compared (into s c.body) (classes_of c.body none_second (λ q. class (Observer ∷ q))) h.0 c.enforce (part Enforce start) (part Enforce mem) (part Enforce i) (part Enforce free) h.1.1.1.1.1 k.1.1 g.1.1 p f b e
  contract_compared (Some c) s class start mem i free h k g p f b e = stays (e Star)

  pub node_compared : (n : Node) (s : Scope) (class : Assignment) (start mem i free : Instant) → NodeLoose types true fits s class n i
      → BlockKept types kept (with_variables (inside_node s n) (controls_of n.contract)) n.body (part Body start) (part Body mem) → BlockGiven types true u given (with_variables (inside_node s n) (controls_of n.contract)) n.body (part Body free)
      → ContractKept types kept (inside_node s n) n.contract start mem → ContractGiven types true u given (inside_node s n) n.contract free → Compared i free (mend_node callee n start)
  node_compared n s class start mem i free h kb gb kc gc (Body ∷ p) f b e =
      block_compared n.body (with_variables (inside_node s n) (controls_of n.contract)) none_second (λ q. class (Body ∷ q)) (part Body start) (part Body mem) (part Body i) (part Body free) h.0.1 kb gb p f b e
  node_compared n s class start mem i free h kb gb kc gc p f b e = contract_compared n.contract (inside_node s n) class start mem i free h.1 kc gc p f b e

-- ---- instances

-- a constructor is no truth value
no_bool : (j : ℕ) (types : List TypeDecl) (c : List ℕ) (b : Bool) → same_value (B b) (constructor_from j types c) ≡ false
no_bool j [] c b = refl
no_bool j (d ∷ ds) c b = by (place_in 0 d.cons c) (no_bool (suc j) ds c b)
  where
    by : (o : Option ℕ) → same_value (B b) (constructor_from (suc j) ds c) ≡ false → same_value (B b) (or_later j o (constructor_from (suc j) ds c)) ≡ false
    by (Some k) h = refl
    by None h = h

module _ (types : List TypeDecl) where
  other_of : (cs : List (List ℕ)) (w : Value) (b : Bool) → one_among types cs w (B b) ≡ w
  other_of [] w b = refl
  other_of (c ∷ cs) w b = ap (λ z. if z then constructor_from 0 types c else one_among types cs w (B b)) (no_bool 0 types c b) ∙ other_of cs w b

  wire_flag : (v : Value) → IsWire types ty.Bool (marked v) → IsFlag v
  wire_flag (B b) h = (b, refl)
  wire_flag v h = absurd h

  -- an output at which all becomes a truth value is one
  type_flag : (t : Ty) (v : Value) → IsWire types t (marked v) → ((v : Value) → of_type types t v ≡ flag_of v) → IsFlag v
  type_flag ty.Bool v h e = wire_flag v h
  type_flag ty.Int v h e = stays (e Star)
  type_flag (ty.Enum t) v h e =
      let w = first_value types (ty.Enum t) in
      one_only w (sym (other_of (constructors_of types t) w true) ∙ e (B true)) (sym (other_of (constructors_of types t) w false) ∙ e (B false))

  output_flag : (ds : List Decl) (free : Instant) (x : List ℕ) → OutputsGiven types ds free → ((v : Value) → of_output types ds x v ≡ flag_of v) → IsFlag (free (Named x ∷ []))
  output_flag [] free x g e = stays (e Star)
  output_flag (d ∷ ds) free x g e = by (bytes_eq d.name x) refl e (output_flag ds free x g.1)
    where
      by : (b : Bool) → bytes_eq d.name x ≡ b → ((v : Value) → (if b then of_type types d.ty v else of_output types ds x v) ≡ flag_of v) → (((v : Value) → of_output types ds x v ≡ flag_of v) → IsFlag (free (Named x ∷ []))) → IsFlag (free (Named x ∷ []))
      by true q e more = subst (λ z. IsFlag (free (Named z ∷ []))) ((bytes_eq-Decides d.name x).0 q) (type_flag d.ty (free (Named d.name ∷ [])) g.0 e)
      by false q e more = more e

  module _ (u : Value → Value) where
    own_kept : (s : Scope) (n : Node) (o : Option Contract) (start mem : Instant) → OwnKept types s n o start mem → ContractKept types none_kept (inside_node s n) o start mem
    own_kept s n None start mem k = tt
    own_kept s n (Some c) start mem k = k.1

    alone_compared : (s : Scope) (class : Assignment) (n : Node) (start mem i free : Instant) → InstanceFits types true s class n i → AloneKept types s n start mem → InstanceGiven types true u s n free → Compared i free (mend_alone types n start)
    alone_compared s class n start mem i free h k g (Named x ∷ []) f b e = output_flag n.outputs free x g.0 e
    alone_compared s class n start mem i free h k g p f b e =
        contract_compared types u none_fits none_kept any_given mend_none (λ f start mem i free z k g. absurd z) n.contract (inside_node s n) class start mem i free
        (contract_loose types true none_fits n.contract (inside_node s n) class (read_names n i) i h.1.1.1.1) (own_kept s n n.contract start mem k) g.1 p f b e

    -- of the node of a name among some items
    pub called_compared : (class : Classing) (items : List Item) (f : List ℕ) (o : Option Node) → ((k : Node) → node_among items f ≡ Some k → o ≡ Some k) → (start mem i free : Instant)
        → CalledFits types true class items f i → CalleeKept types items f start mem → CalledGiven types true u items f free → Compared i free (mend_by types o start)
    called_compared class [] f o found start mem i free h k g = absurd k
    called_compared class (TypeItem t ∷ items) f o found start mem i free h k g = called_compared class items f o found start mem i free h k g
    called_compared class (NodeItem n ∷ items) f o found start mem i free h k g = by (bytes_eq n.name f) found h k g (λ q. called_compared (class_behind class) items f o q start mem i free)
      where
        by : (b : Bool) → ((k : Node) → (if b then Some n else node_among items f) ≡ Some k → o ≡ Some k)
            → either_of b (InstanceFits types true (scope_behind items) (seen_in_node (class_here class) n) n i) (CalledFits types true (class_behind class) items f i)
            → either_of b (AloneKept types (scope_behind items) n start mem) (CalleeKept types items f start mem)
            → either_of b (InstanceGiven types true u (scope_behind items) n free) (CalledGiven types true u items f free)
            → (((k : Node) → node_among items f ≡ Some k → o ≡ Some k) → CalledFits types true (class_behind class) items f i → CalleeKept types items f start mem → CalledGiven types true u items f free → Compared i free (mend_by types o start))
            → Compared i free (mend_by types o start)
        by true q h k g more = subst (λ (z : Option Node). Compared i free (mend_by types z start)) (sym (q n refl)) (alone_compared (scope_behind items) (seen_in_node (class_here class) n) n start mem i free h k g)
        by false q h k g more = more q h k g
