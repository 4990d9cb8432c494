-- What is drawn of a definition: the names that it defines take values of their types.
use Rattle.std.proofs.Common.{◌≡◌, ℕ, zero, suc, ◌+◌, Bool, true, false, ◌||◌, List, [], ◌∷◌, Option, None, Some, refl, sym, ap, subst, ◌∙◌, arith}
use Rattle.std.specs.Prelude.{⊤, is_some, slice_get}
use Rattle.std.specs.Str.{bytes_eq}
use Rattle.hp_base.specs.declared.span.Span.{Span}
use Rattle.hp_base.specs.declared.ty.Ty.{Ty}
use Rattle.hp_tree.specs.Blocks.{Decl}
use Rattle.hp_tree.specs.Expressions.{Expr, constant, variable, last_of, one, two, choose, pre, fby, arrow, when_is, merge, call}
use Rattle.hp_tree.specs.Meaning.{is_among}
use Rattle.hp_tree.specs.Programs.{TypeDecl, Node}
use Rattle.hp_base.specs.Known.Known.{lookup}
use Rattle.hp_typing.specs.Types.{type_of, types_in, cons_type}
use Rattle.law_judged.specs.Typed.Scopes.{Scope as TypeScope}
use Rattle.law_values.specs.Valued.Judged.{Lasts, ExprSound, LeftsAre, LeftsHave, RightSound}
use Rattle.law_values.proofs.ValuedLemmas.Typed.{agreed, row_typed}
use Rattle.hp_circuit.specs.declared.circuit.Shape.{Shape}
use Rattle.hp_drawing.specs.declared.parts.Callee.{Callee}
use Rattle.hp_drawing.specs.declared.parts.Entry.{Entry}
use Rattle.hp_drawing.specs.declared.parts.Place.{Place}
use Rattle.hp_drawing.specs.declared.parts.Value.{Value}
use Rattle.hp_drawing.specs.Told.{Told, type_shape, or_none}
use Rattle.hp_drawing.specs.Sketch.{Sketch, base}
use Rattle.hp_drawing.specs.Places.{on_clock}
use Rattle.hp_drawing.specs.Scopes.{Scope, Layer, entry_in, innermost, found, or_found, shape_by, value_in, shapes_in, own_entry, top_layer, decl_by}
use Rattle.hp_drawing.specs.DrawnExpressions.{Brings, drawn, drawn_call, output, step_clock}
use Rattle.hp_drawing.specs.DrawnBlocks.{Telling, untold, at_base, of_name, on_value, Path, decl_path, path_by, path_of, tells, clock_on, told_by, clock_by, clock_of, define_name, define_each, define_all, defined_value, drawn_right, drawn_definition}
use Rattle.law_drawing.specs.Carrying.Typing.{PathFits}
use Rattle.law_drawing.specs.Carrying.Drawable.{PathsFit}
use Rattle.law_drawing.proofs.CarryingLemmas.Clocks.{TellingFits, tells-fit, args-fit}
use Rattle.law_drawing.proofs.CarryingLemmas.Layers.{Knows, self-name}
use Rattle.law_drawing.proofs.CarryingLemmas.Own.{top-value}
use Rattle.law_drawing.proofs.FormLemmas.Views.{IsFormed, IsHole, Step, still, onward, hole-on}
use Rattle.law_drawing.proofs.FormLemmas.Parts.{placed-clock}
use Rattle.law_drawing.proofs.FormLemmas.Values.{Carried, carried-on, AreCounted, clock-step, none_lacks, IsAt, at-on}
use Rattle.law_drawing.proofs.FormLemmas.Delays.{said-step}
use Rattle.law_drawing.proofs.FormLemmas.Calls.{AreRow, row-on, AreCalled, output-carried}
use Rattle.law_drawing.proofs.FormLemmas.Expressions.{expr, called}

pub or-first : (a b : Bool) → a ≡ true → a || b ≡ true
or-first true b h = refl
or-first false b h = absurd cc

pub or-further : (a b : Bool) → b ≡ true → a || b ≡ true
or-further true b h = refl
or-further false b h = h

-- ---- the names of a block

-- Of each name that a block defines it is said in the innermost layer which wire is to have its value.
pub record AreOwned (z : Scope) (s : Sketch) (defined : List ℕ → Bool) : Type 0 where
  pub known : (x : List ℕ) → defined x ≡ true → Knows (top_layer z) x
  pub holes : (x : List ℕ) (e : Entry) → entry_in (top_layer z) x ≡ Some e → (e.wire ≡ Some e.hole) × IsHole s e.hole e.shape

pub owned-on : (P : List ℕ) (s s' : Sketch) (z : Scope) (defined : List ℕ → Bool) → Step P s s' → AreOwned z s defined → AreOwned z s' defined
owned-on P s s' z defined st h = record { known = h.known; holes = λ x e q. let k = h.holes x e q in (k.0, hole-on P s s' e.hole e.shape st k.1) }

pub owned-part : (s : Sketch) (z : Scope) (all part : List ℕ → Bool) → ((x : List ℕ) → part x ≡ true → all x ≡ true) → AreOwned z s all → AreOwned z s part
owned-part s z all part f h = record { known = λ x d. h.known x (f x d); holes = h.holes }

-- what the innermost layer says of a name is what it is carried as
pub top-shape : (z : Scope) (x : List ℕ) (e : Entry) → entry_in (top_layer z) x ≡ Some e → shapes_in z x ≡ e.shape
unfolding top_layer shapes_in
top-shape z x e q = by z.values q
  where
    by : (ls : List Layer) → entry_in (innermost ls) x ≡ Some e → shape_by (found ls x) ≡ e.shape
    by [] q = absurd cc
    by (l ∷ ls) q = ap (λ o. shape_by (or_found o (found ls x))) q

pub own-hole : (z : Scope) (s : Sketch) (defined : List ℕ → Bool) (x : List ℕ) (p : Shape) → AreOwned z s defined → defined x ≡ true → shapes_in z x ≡ p → IsHole s (value_in z x).wire p
own-hole z s defined x p h d e = by (entry_in (top_layer z) x) refl (h.known x d)
  where
    by : (o : Option Entry) → entry_in (top_layer z) x ≡ o → is_some o ≡ true → IsHole s (value_in z x).wire p
    by None q k = absurd cc
    by (Some i) q k =
        let j = h.holes x i q in
        subst (λ r. IsHole s (value_in z x).wire r) (sym (top-shape z x i q) ∙ e) (subst (λ w. IsHole s w i.shape) (sym (top-value z x i q ∙ ap or_none j.0)) j.1)

module _ (types : List TypeDecl) (among : List ℕ → Option Node) (t : Told) (brings : Brings) (calls : AreCalled t brings among) (ts : TypeScope) (has_last : Lasts) (counted : AreCounted types t ts) (z : Scope) where
  abbrev At : List ℕ → Sketch → Place → Type 0
  At P s spot = IsAt t ts has_last none_lacks z P s spot

  on : (P Q : List ℕ) (s s' : Sketch) (spot : Place) → At P s spot → Step Q s s' → At Q s' spot
  on P Q s s' spot h st = at-on t ts has_last none_lacks z P Q s s' spot h st

  -- ---- clocks

  path-step : (clock : ℕ) (path : Path) (spot : Place) (P : List ℕ) (s : Sketch) → At P s spot → PathFits ts path → Step P s (clock_on t z clock path s).1
  path-step clock [] spot P s at f = still P s at.formed
  path-step clock (p ∷ path) spot P s at f =
      let n = agreed (lookup ts.variables p.1) (cons_type ts p.0) f.0 in
      let c = step_clock t z clock p.0 p.1 s in
      let a = clock-step types t ts counted P z clock p.0 p.1 n.0 s at.formed (at.seen.values p.1 n.0 n.1 refl) n.2 in
      onward P P s c.1 (clock_on t z c.0 path c.1).1 a (path-step c.0 path spot P c.1 (on P P s c.1 spot at a) f.1)

  paths-at : (ds : List Decl) (k : ℕ) → PathsFit ts ds → PathFits ts (decl_path (slice_get ds k))
  paths-at [] k f = tt
  paths-at (d ∷ ds) zero f = f.0
  paths-at (d ∷ ds) (suc k) f = paths-at ds k f.1

  path-fits : (ds : List Decl) (x : List ℕ) → PathsFit ts ds → PathFits ts (path_of z ds x)
  path-fits ds x f = by (decl_by (own_entry z x))
    where
      by : (o : Option ℕ) → PathFits ts (path_by ds o)
      by None = tt
      by (Some k) = paths-at ds k f

  telling-step : (ds : List Decl) (told : Telling) (spot : Place) (P : List ℕ) (s : Sketch) → At P s spot → PathsFit ts ds → TellingFits ts told → Step P s (clock_by t z ds told s).1
  telling-step ds untold spot P s at f h = still P s at.formed
  telling-step ds at_base spot P s at f h = still P s at.formed
  telling-step ds (of_name x) spot P s at f h = path-step base (path_of z ds x) spot P s at (path-fits ds x f)
  telling-step ds (on_value c x) spot P s at f h =
      let n = agreed (lookup ts.variables x) (cons_type ts c) h in
      let outer = clock_on t z base (path_of z ds x) s in
      let a = path-step base (path_of z ds x) spot P s at (path-fits ds x f) in
      let b = clock-step types t ts counted P z outer.0 c x n.0 outer.1 a.formed (carried-on P s outer.1 (value_in z x) (type_shape t n.0) a (at.seen.values x n.0 n.1 refl)) n.2 in
      onward P P s outer.1 (step_clock t z outer.0 c x outer.1).1 a b

  told-fits : (xs : List (List ℕ × Span)) (e : Expr) → TellingFits ts (tells e) → TellingFits ts (told_by xs e)
  told-fits [] e h = h
  told-fits (x ∷ xs) e h = tt

  right-fits : (xs : List (List ℕ × Span)) (e : Expr) → RightSound types among ts has_last xs e → TellingFits ts (tells e)
  right-fits xs (constant q c) ok = tells-fit ts (constant q c) ok.1.0 ok.1.1.0
  right-fits xs (variable q x) ok = tells-fit ts (variable q x) ok.1.0 ok.1.1.0
  right-fits xs (last_of q x) ok = tells-fit ts (last_of q x) ok.1.0 ok.1.1.0
  right-fits xs (one q o a) ok = tells-fit ts (one q o a) ok.1.0 ok.1.1.0
  right-fits xs (two q o a b) ok = tells-fit ts (two q o a b) ok.1.0 ok.1.1.0
  right-fits xs (choose q a b c) ok = tells-fit ts (choose q a b c) ok.1.0 ok.1.1.0
  right-fits xs (pre q a) ok = tells-fit ts (pre q a) ok.1.0 ok.1.1.0
  right-fits xs (fby q a b) ok = tells-fit ts (fby q a b) ok.1.0 ok.1.1.0
  right-fits xs (arrow q a b) ok = tells-fit ts (arrow q a b) ok.1.0 ok.1.1.0
  right-fits xs (when_is q a c x) ok = tells-fit ts (when_is q a c x) ok.1.0 ok.1.1.0
  right-fits xs (merge q x ps) ok = tells-fit ts (merge q x ps) ok.1.0 ok.1.1.0
  right-fits xs (call q f inl es) ok = let r = row_typed (lookup ts.nodes f) (types_in ts es) ok.1.0 ok.1.1.0 in args-fit ts es r.0.inputs r.2

  clock-of-step : (ds : List Decl) (xs : List (List ℕ × Span)) (e : Expr) (spot : Place) (P : List ℕ) (s : Sketch) → At P s spot → PathsFit ts ds → TellingFits ts (tells e) → Step P s (clock_of t z ds xs e s).1
  unfolding clock_of
  clock-of-step ds xs e spot P s at f h = telling-step ds (told_by xs e) spot P s at f (told-fits xs e h)

  -- ---- names that are defined

  abbrev AllHoles : Sketch → List (List ℕ × Span) → Shape → Type 0
  AllHoles s [] p = ⊤
  AllHoles s (x ∷ xs) p = IsHole s (value_in z x.0).wire p × AllHoles s xs p

  all-holes-on : (P : List ℕ) (s s' : Sketch) (xs : List (List ℕ × Span)) (p : Shape) → Step P s s' → AllHoles s xs p → AllHoles s' xs p
  all-holes-on P s s' [] p st h = tt
  all-holes-on P s s' (x ∷ xs) p st h = (hole-on P s s' (value_in z x.0).wire p st h.0, all-holes-on P s s' xs p st h.1)

  all-step : (P : List ℕ) (xs : List (List ℕ × Span)) (v : Value) (p : Shape) (s : Sketch) → IsFormed P s → AllHoles s xs p → Carried s v p → Step P s (define_all z xs v s)
  all-step P [] v p s a h k = still P s a
  all-step P (x ∷ xs) v p s a h k =
      let s1 = define_name z x.0 v s in
      let d = said-step P (value_in z x.0).wire v p s a h.0 k in
      onward P P s s1 (define_all z xs v s1) d (all-step P xs v p s1 d.formed (all-holes-on P s s1 xs p d h.1) (carried-on P s s1 v p d k))

  abbrev EachHole : Sketch → List (List ℕ × Span) → List Decl → Type 0
  EachHole s [] ds = ⊤
  EachHole s (x ∷ xs) [] = ⊥
  EachHole s (x ∷ xs) (d ∷ ds) = IsHole s (value_in z x.0).wire (type_shape t d.ty) × EachHole s xs ds

  each-hole-on : (P : List ℕ) (s s' : Sketch) (xs : List (List ℕ × Span)) (ds : List Decl) → Step P s s' → EachHole s xs ds → EachHole s' xs ds
  each-hole-on P s s' [] ds st h = tt
  each-hole-on P s s' (x ∷ xs) [] st h = absurd h
  each-hole-on P s s' (x ∷ xs) (d ∷ ds) st h = (hole-on P s s' (value_in z x.0).wire (type_shape t d.ty) st h.0, each-hole-on P s s' xs ds st h.1)

  -- each has the output of a call at its place, from number k on
  each-step : (P : List ℕ) (c : Callee) (k : ℕ) (xs : List (List ℕ × Span)) (ds : List Decl) (s : Sketch) → IsFormed P s → EachHole s xs ds → AreRow t s (c.outputs + k) ds → Step P s (define_each z c k xs s)
  each-step P c k [] ds s a h r = still P s a
  each-step P c k (x ∷ xs) [] s a h r = absurd h
  each-step P c k (x ∷ xs) (d ∷ ds) s a h r =
      let v = output c k s in
      let s1 = define_name z x.0 v s in
      let st = said-step P (value_in z x.0).wire v (type_shape t d.ty) s a h.0 (output-carried t c k (type_shape t d.ty) s r.0) in
      onward P P s s1 (define_each z c (k + 1) xs s1) st
      (each-step P c (k + 1) xs ds s1 st.formed (each-hole-on P s s1 xs ds st h.1) (subst (λ w. AreRow t s1 w ds) (let e : suc (c.outputs + k) ≡ c.outputs + (k + 1) = omega arith in e) (row-on t P s s1 (suc (c.outputs + k)) ds st r.1)))

  abbrev ShapesAre : Type 0
  ShapesAre = (x : List ℕ) (u : Ty) → lookup ts.variables x ≡ Some u → shapes_in z x ≡ type_shape t u

  lefts-hole : (s : Sketch) (xs : List (List ℕ × Span)) (u : Ty) (defined : List ℕ → Bool) → ShapesAre → AreOwned z s defined → ((x : List ℕ) → is_among xs x ≡ true → defined x ≡ true) → LeftsHave ts xs u → AllHoles s xs (type_shape t u)
  lefts-hole s [] u defined S own d h = tt
  lefts-hole s (x ∷ xs) u defined S own d h = (
    own-hole z s defined x.0 (type_shape t u) own (d x.0 (or-first (bytes_eq x.0 x.0) (is_among xs x.0) (self-name x.0))) (S x.0 u h.0),
    lefts-hole s xs u defined S own (λ y k. d y (or-further (bytes_eq x.0 y) (is_among xs y) k)) h.1,
  )

  lefts-each : (s : Sketch) (xs : List (List ℕ × Span)) (ds : List Decl) (defined : List ℕ → Bool) → ShapesAre → AreOwned z s defined → ((x : List ℕ) → is_among xs x ≡ true → defined x ≡ true) → LeftsAre ts xs ds → EachHole s xs ds
  lefts-each s [] ds defined S own d h = tt
  lefts-each s (x ∷ xs) [] defined S own d h = absurd h
  lefts-each s (x ∷ xs) (o ∷ ds) defined S own d h = (
    own-hole z s defined x.0 (type_shape t o.ty) own (d x.0 (or-first (bytes_eq x.0 x.0) (is_among xs x.0) (self-name x.0))) (S x.0 o.ty h.0),
    lefts-each s xs ds defined S own (λ y k. d y (or-further (bytes_eq x.0 y) (is_among xs y) k)) h.1,
  )

  -- ---- right sides

  -- an expression that is no call
  single-step : (e : Expr) (u : Ty) (xs : List (List ℕ × Span)) (spot : Place) (P : List ℕ) (s : Sketch) → ExprSound types among ts has_last e → type_of ts e ≡ Some u → LeftsHave ts xs u → At P s spot → AreOwned z s (λ x. is_among xs x) → Step P s (defined_value z xs (drawn t brings z spot e s))
  single-step e u xs spot P s ok h left at own =
      let d = drawn t brings z spot e s in
      let v = expr types among t brings calls ts has_last counted z e u ok h spot P s at in
      let holes = all-holes-on P s d.1 xs (type_shape t u) v.0 (lefts-hole s xs u (λ x. is_among xs x) at.seen.shapes own (λ x k. k) left) in
      onward P P s d.1 (define_all z xs d.0 d.1) v.0 (all-step P xs d.0 (type_shape t u) d.1 v.0.formed holes v.1)

  right-step : (e : Expr) (xs : List (List ℕ × Span)) (spot : Place) (P : List ℕ) (s : Sketch) → RightSound types among ts has_last xs e → At P s spot → AreOwned z s (λ x. is_among xs x) → Step P s (drawn_right t brings z spot xs e s)
  right-step (call q f inl es) xs spot P s ok at own =
      let r = row_typed (lookup ts.nodes f) (types_in ts es) ok.1.0 ok.1.1.0 in
      let d = drawn_call t brings z spot f es s in
      let k = called types among t brings calls ts has_last counted z f es r.0 ok.0.1 (sym ok.0.0 ∙ r.1) r.2 spot P s at in
      let holes = each-hole-on P s d.1 xs ok.1.0 k.0 (lefts-each s xs ok.1.0 (λ x. is_among xs x) at.seen.shapes own (λ x i. i) ok.1.1.1) in
      let row = subst (λ w. AreRow t d.1 w ok.1.0) (let e : d.0.outputs ≡ d.0.outputs + 0 = omega arith in e) (subst (λ ds. AreRow t d.1 d.0.outputs ds) r.3 k.1.outputs) in
      onward P P s d.1 (define_each z d.0 0 xs d.1) k.0 (each-step P d.0 0 xs ok.1.0 d.1 k.0.formed holes row)
  right-step (constant q c) xs spot P s ok at own = single-step (constant q c) ok.1.0 xs spot P s ok.0 ok.1.1.0 ok.1.1.1 at own
  right-step (variable q x) xs spot P s ok at own = single-step (variable q x) ok.1.0 xs spot P s ok.0 ok.1.1.0 ok.1.1.1 at own
  right-step (last_of q x) xs spot P s ok at own = single-step (last_of q x) ok.1.0 xs spot P s ok.0 ok.1.1.0 ok.1.1.1 at own
  right-step (one q o a) xs spot P s ok at own = single-step (one q o a) ok.1.0 xs spot P s ok.0 ok.1.1.0 ok.1.1.1 at own
  right-step (two q o a b) xs spot P s ok at own = single-step (two q o a b) ok.1.0 xs spot P s ok.0 ok.1.1.0 ok.1.1.1 at own
  right-step (choose q a b c) xs spot P s ok at own = single-step (choose q a b c) ok.1.0 xs spot P s ok.0 ok.1.1.0 ok.1.1.1 at own
  right-step (pre q a) xs spot P s ok at own = single-step (pre q a) ok.1.0 xs spot P s ok.0 ok.1.1.0 ok.1.1.1 at own
  right-step (fby q a b) xs spot P s ok at own = single-step (fby q a b) ok.1.0 xs spot P s ok.0 ok.1.1.0 ok.1.1.1 at own
  right-step (arrow q a b) xs spot P s ok at own = single-step (arrow q a b) ok.1.0 xs spot P s ok.0 ok.1.1.0 ok.1.1.1 at own
  right-step (when_is q a c x) xs spot P s ok at own = single-step (when_is q a c x) ok.1.0 xs spot P s ok.0 ok.1.1.0 ok.1.1.1 at own
  right-step (merge q x ps) xs spot P s ok at own = single-step (merge q x ps) ok.1.0 xs spot P s ok.0 ok.1.1.0 ok.1.1.1 at own

  pub definition-step : (ds : List Decl) (xs : List (List ℕ × Span)) (e : Expr) (spot : Place) (P : List ℕ) (s : Sketch) → PathsFit ts ds → RightSound types among ts has_last xs e → At P s spot → AreOwned z s (λ x. is_among xs x) → Step P s (drawn_definition t brings z spot ds xs e s)
  definition-step ds xs e spot P s f ok at own =
      let c = clock_of t z ds xs e s in
      let a = clock-of-step ds xs e spot P s at f (right-fits xs e ok) in
      let at1 = on P P s c.1 spot at a in
      let other = on_clock spot c.0 in
      let b = right-step e xs other P c.1 ok (record { formed = at1.formed; placed = placed-clock c.1 spot c.0 at1.placed; seen = at1.seen }) (owned-on P s c.1 z (λ x. is_among xs x) a own) in
      onward P P s c.1 (drawn_right t brings z other xs e c.1) a b
