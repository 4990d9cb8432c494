-- The clocks of definitions: the wire of a clock says whether it holds.
use Rattle.std.proofs.Common.{◌≡◌, ℕ, Bool, List, [], ◌∷◌, ◌++◌, reverse, Option, None, Some, refl, sym, ap, subst, ◌∙◌}
use Rattle.std.specs.Prelude.{⊤, IsTrue}
use Rattle.std.proofs.lemmas.List.{append-nil, append_assoc, reverse-append}
use Rattle.hp_base.specs.declared.span.Span.{Span}
use Rattle.hp_base.specs.declared.ty.Ty.{Ty}
use Rattle.hp_tree.specs.declared.decl.Cons.{Cons}
use Rattle.hp_tree.specs.Blocks.{Decl}
use Rattle.hp_tree.specs.Expressions.{Expr, constant, variable, last_of, one, two, choose, pre, fby, arrow, when_is, merge, call, Exprs, no_expr, more_exprs}
use Rattle.hp_tree.specs.Instant.{Instant, Clock}
use Rattle.hp_tree.specs.Meaning as meaning
use Rattle.hp_tree.specs.Meaning.{Names, declares, written, clock_in, clock_told, clocks_told, or_clock, or_base}
use Rattle.hp_tree.specs.Programs.{TypeDecl}
use Rattle.hp_meaning.specs.Causal.Clocked.{Standing, ClockRight}
use Rattle.hp_meaning.specs.Causal.Points.{Placed}
use Rattle.hp_base.specs.Known.Known.{lookup}
use Rattle.hp_typing.specs.Types.{type_of, types_in, type_of_one, args_fit, agrees, cons_type}
use Rattle.law_judged.specs.Typed.Scopes.{Scope as TypeScope}
use Rattle.law_values.proofs.ValuedLemmas.Typed.{agreed, where_is, one_typed, two_typed, if_typed, pair_typed, call_typed, arg_typed}
use Rattle.hp_meaning.specs.Contract.Memory.{number_in}
use Rattle.law_games.proofs.WiretypedLemmas.Exprs.{NamesAre}
use Rattle.hp_drawing.specs.Told.{Told}
use Rattle.hp_drawing.specs.Scopes.{Scope, value_in}
use Rattle.hp_drawing.specs.Sketch.{Sketch, base}
use Rattle.hp_drawing.specs.DrawnExpressions.{step_clock}
use Rattle.hp_drawing.specs.DrawnBlocks as blocks
use Rattle.hp_drawing.specs.DrawnBlocks.{Telling, untold, at_base, of_name, on_value, or_telling, tells, tells_all, told_by, path_of, clock_on, clock_by}
use Rattle.law_drawing.specs.Carrying.Solving.{Has}
use Rattle.law_drawing.specs.Carrying.Drawing.{IsSolved, IsDrawn, IsClock}
use Rattle.law_drawing.specs.Carrying.Typing.{AreNumbered, PathFits}
use Rattle.law_drawing.proofs.CarryingLemmas.Steps.{stays, both, nothing-drawn}
use Rattle.law_drawing.proofs.CarryingLemmas.Leaves.{step-drawn}

-- ---- how an expression tells its clock

abbrev pub telling_clock : List Decl → Telling → Option Clock
telling_clock ds untold = None
telling_clock ds at_base = Some []
telling_clock ds (of_name x) = Some (clock_in ds x)
telling_clock ds (on_value c x) = Some ((c, x) ∷ clock_in ds x)

or-told : (ds : List Decl) (a b : Telling) → or_clock (telling_clock ds a) (telling_clock ds b) ≡ telling_clock ds (or_telling a b)
or-told ds untold b = refl
or-told ds at_base b = refl
or-told ds (of_name x) b = refl
or-told ds (on_value c x) b = refl

both-told : (ds : List Decl) (o p : Option Clock) (a b : Telling) → o ≡ telling_clock ds a → p ≡ telling_clock ds b → or_clock o p ≡ telling_clock ds (or_telling a b)
both-told ds o p a b e f = ap (λ x. or_clock x p) e ∙ ap (or_clock (telling_clock ds a)) f ∙ or-told ds a b

mutual
  pub same-told : (ds : List Decl) (e : Expr) → clock_told ds e ≡ telling_clock ds (tells e)
  same-told ds (constant s c) = refl
  same-told ds (variable s x) = refl
  same-told ds (last_of s x) = refl
  same-told ds (one s o a) = same-told ds a
  same-told ds (two s o a b) = both-told ds (clock_told ds a) (clock_told ds b) (tells a) (tells b) (same-told ds a) (same-told ds b)
  same-told ds (choose s a b c) = both-told ds (clock_told ds a) (or_clock (clock_told ds b) (clock_told ds c)) (tells a) (or_telling (tells b) (tells c)) (same-told ds a) (both-told ds (clock_told ds b) (clock_told ds c) (tells b) (tells c) (same-told ds b) (same-told ds c))
  same-told ds (pre s a) = same-told ds a
  same-told ds (fby s a b) = both-told ds (clock_told ds a) (clock_told ds b) (tells a) (tells b) (same-told ds a) (same-told ds b)
  same-told ds (arrow s a b) = both-told ds (clock_told ds a) (clock_told ds b) (tells a) (tells b) (same-told ds a) (same-told ds b)
  same-told ds (when_is s a c x) = refl
  same-told ds (merge s x ps) = refl
  same-told ds (call s f inlined es) = all-told ds es

  pub all-told : (ds : List Decl) (es : Exprs) → clocks_told ds es ≡ telling_clock ds (tells_all es)
  all-told ds no_expr = refl
  all-told ds (more_exprs e es) = both-told ds (clock_told ds e) (clocks_told ds es) (tells e) (tells_all es) (same-told ds e) (all-told ds es)

-- the constructor of a told clock is of the type of its name
abbrev pub TellingFits : TypeScope → Telling → Type 0
TellingFits s (on_value c x) = IsTrue (agrees (lookup s.variables x) (cons_type s c))
TellingFits s untold = ⊤
TellingFits s at_base = ⊤
TellingFits s (of_name x) = ⊤

or-fits : (s : TypeScope) (a b : Telling) → TellingFits s a → TellingFits s b → TellingFits s (or_telling a b)
or-fits s untold b h k = k
or-fits s at_base b h k = tt
or-fits s (of_name x) b h k = tt
or-fits s (on_value c x) b h k = h

mutual
  pub tells-fit : (s : TypeScope) (e : Expr) (u : Ty) → type_of s e ≡ Some u → TellingFits s (tells e)
  tells-fit s (constant a c) u h = tt
  tells-fit s (variable a x) u h = tt
  tells-fit s (last_of a x) u h = tt
  tells-fit s (one a o b) u h = let r = one_typed (type_of_one o) (type_of s b) u h in tells-fit s b (type_of_one o) r.0
  tells-fit s (two a o b c) u h = let r = two_typed o (type_of s b) (type_of s c) u h in or-fits s (tells b) (tells c) (tells-fit s b r.0 r.2) (tells-fit s c r.0 r.3)
  tells-fit s (choose a b c d) u h =
      let r = if_typed (type_of s b) (type_of s c) (type_of s d) u h in
      or-fits s (tells b) (or_telling (tells c) (tells d)) (tells-fit s b _ r.0) (or-fits s (tells c) (tells d) (tells-fit s c u r.1) (tells-fit s d u r.2))
  tells-fit s (pre a b) u h = tells-fit s b u h
  tells-fit s (fby a b c) u h = let r = pair_typed (type_of s b) (type_of s c) u h in or-fits s (tells b) (tells c) (tells-fit s b u r.0) (tells-fit s c u r.1)
  tells-fit s (arrow a b c) u h = let r = pair_typed (type_of s b) (type_of s c) u h in or-fits s (tells b) (tells c) (tells-fit s b u r.0) (tells-fit s c u r.1)
  tells-fit s (when_is a b c x) u h = (where_is (agrees (lookup s.variables x) (cons_type s c)) (type_of s b) u h).0
  tells-fit s (merge a x ps) u h = tt
  tells-fit s (call a f inl es) u h = let r = call_typed (lookup s.nodes f) (types_in s es) u h in args-fit s es r.0.inputs r.2

  pub args-fit : (s : TypeScope) (es : Exprs) (ds : List Decl) → IsTrue (args_fit ds (types_in s es)) → TellingFits s (tells_all es)
  args-fit s no_expr ds h = tt
  args-fit s (more_exprs e es) [] h = absurd cc
  args-fit s (more_exprs e es) (d ∷ ds) h = let r = arg_typed d ds (type_of s e) (types_in s es) h in or-fits s (tells e) (tells_all es) (tells-fit s e d.ty r.0) (args-fit s es ds r.1)

-- ---- paths

right-tail : (st : Standing) (xs ys : Clock) → ClockRight st (xs ++ ys) → ClockRight st ys
right-tail st [] ys h = h
right-tail st (x ∷ xs) ys h = right-tail st xs ys h.1

module _ (slot : ℕ → ℕ) (next : Instant) (supposes owes : Placed → Bool) (types : List TypeDecl) (told : Told) (s : TypeScope) (N : AreNumbered types told s) (st : Standing) (names : Names) (nk : NamesAre types s st names) (z : Scope) where
  -- the wires of names
  abbrev Values : List ℕ → Type 0
  Values ns = (x : List ℕ) → Has ns (value_in z x).wire (number_in (names x))

  abbrev OnClock : Clock → Sketch → List ℕ → ℕ × Sketch → Type 0
  OnClock clock d ns r = (ns' : List ℕ) × IsDrawn slot next supposes owes d ns [] [] r.1 ns' × IsClock types names r.1.clocks ns' r.0 clock

  one-step : (n : ℕ) (c : Cons) (x : List ℕ) (clock : Clock) (d : Sketch) (ns : List ℕ) → IsSolved slot d ns → Values ns → st x ≡ Some clock → IsTrue (agrees (lookup s.variables x) (cons_type s c)) → IsClock types names d.clocks ns n clock → OnClock ((c, x) ∷ clock) d ns (step_clock told z n c x d)
  one-step n c x clock d ns g v e a k = let t = agreed (lookup s.variables x) (cons_type s c) a in step-drawn slot next supposes owes types told s N names z n t.0 c x clock d ns g (v x) t.2 (nk x clock t.0 e t.1) k

  pub path-drawn : (path : List (Cons × List ℕ)) (n : ℕ) (clock : Clock) (d : Sketch) (ns : List ℕ) → IsSolved slot d ns → Values ns → ClockRight st (reverse path ++ clock) → PathFits s path → IsClock types names d.clocks ns n clock → OnClock (reverse path ++ clock) d ns (clock_on told z n path d)
  path-drawn [] n clock d ns g v r t k = (ns, nothing-drawn slot next supposes owes d ns g, k)
  path-drawn (p ∷ ps) n clock d ns g v r t k =
      let e : reverse (p ∷ ps) ++ clock ≡ reverse ps ++ (p ∷ clock) = ap (λ l. l ++ clock) (reverse-append (p ∷ []) ps) ∙ append_assoc (reverse ps) (p ∷ []) clock in
      let r' : ClockRight st (reverse ps ++ (p ∷ clock)) = subst (ClockRight st) e r in
      let a = one-step n p.0 p.1 clock d ns g v (right-tail st (reverse ps) (p ∷ clock) r').0 t.0 k in
      let c = step_clock told z n p.0 p.1 d in
      let b = path-drawn ps c.0 (p ∷ clock) c.1 a.0 a.1.solved (λ x. stays slot next supposes owes d ns [] [] c.1 a.0 a.1 (value_in z x).wire (number_in (names x)) (v x)) r' t.1 a.2 in
      (b.0, both slot next supposes owes d ns [] [] c.1 a.0 [] [] (clock_on told z n (p ∷ ps) d).1 b.0 a.1 b.1, subst (λ ck. IsClock types names (clock_on told z n (p ∷ ps) d).1.clocks b.0 (clock_on told z n (p ∷ ps) d).0 ck) (sym e) b.2)

  -- What is known of the paths of names: they are those of their declarations, and typed.
  abbrev pub PathsAre : List Decl → Type 0
  PathsAre ds = (x : List ℕ) → (reverse (path_of z ds x) ≡ clock_in ds x) × PathFits s (path_of z ds x)

  name-clock : (ds : List Decl) (x : List ℕ) (d : Sketch) (ns : List ℕ) → IsSolved slot d ns → Values ns → PathsAre ds → ClockRight st (clock_in ds x) → OnClock (clock_in ds x) d ns (clock_on told z base (path_of z ds x) d)
  name-clock ds x d ns g v ps r =
      let e : reverse (path_of z ds x) ++ [] ≡ clock_in ds x = append-nil (reverse (path_of z ds x)) ∙ (ps x).0 in
      let a = path-drawn (path_of z ds x) base [] d ns g v (subst (ClockRight st) (sym e) r) (ps x).1 refl in
      (a.0, a.1, subst (λ ck. IsClock types names (clock_on told z base (path_of z ds x) d).1.clocks a.0 (clock_on told z base (path_of z ds x) d).0 ck) e a.2)

  telling-drawn : (ds : List Decl) (T : Telling) (d : Sketch) (ns : List ℕ) → IsSolved slot d ns → Values ns → PathsAre ds → TellingFits s T → ClockRight st (or_base (telling_clock ds T)) → OnClock (or_base (telling_clock ds T)) d ns (clock_by told z ds T d)
  telling-drawn ds untold d ns g v ps f r = (ns, nothing-drawn slot next supposes owes d ns g, refl)
  telling-drawn ds at_base d ns g v ps f r = (ns, nothing-drawn slot next supposes owes d ns g, refl)
  telling-drawn ds (of_name x) d ns g v ps f r = name-clock ds x d ns g v ps r
  telling-drawn ds (on_value c x) d ns g v ps f r =
      let a = name-clock ds x d ns g v ps r.1 in
      let o = clock_on told z base (path_of z ds x) d in
      let b = one-step o.0 c x (clock_in ds x) o.1 a.0 a.1.solved (λ y. stays slot next supposes owes d ns [] [] o.1 a.0 a.1 (value_in z y).wire (number_in (names y)) (v y)) r.0 f a.2 in
      (b.0, both slot next supposes owes d ns [] [] o.1 a.0 [] [] (step_clock told z o.0 c x o.1).1 b.0 a.1 b.1, b.2)

  pub clock-drawn : (ds : List Decl) (ys : List (List ℕ × Span)) (e : Expr) (d : Sketch) (ns : List ℕ) → IsSolved slot d ns → Values ns → PathsAre ds → TellingFits s (tells e) → ClockRight st (meaning.clock_of ds ys e) → OnClock (meaning.clock_of ds ys e) d ns (blocks.clock_of told z ds ys e d)
  unfolding blocks.clock_of
  clock-drawn ds [] e d ns g v ps f r =
      let q : or_base (clock_told ds e) ≡ or_base (telling_clock ds (tells e)) = ap or_base (same-told ds e) in
      subst (λ ck. OnClock ck d ns (clock_by told z ds (tells e) d)) (sym q) (telling-drawn ds (tells e) d ns g v ps f (subst (ClockRight st) q r))
  clock-drawn ds (y ∷ ys) e d ns g v ps f r = telling-drawn ds (of_name y.0) d ns g v ps tt r
