-- The value of an expression that remembers nothing, by the values of names alone.
use Rattle.std.proofs.Common.{◌≡◌, ℕ, List, [], refl, sym, ap, ap₂, ◌∙◌}
use Rattle.hp_base.specs.declared.span.Span.{Span}
use Rattle.hp_base.specs.declared.value.Value.{Value}
use Rattle.hp_base.specs.declared.value.Value.TheVariants.{Absent}
use Rattle.hp_tree.specs.Expressions.{Expr, constant, variable, last_of, one, two, choose, pre, fby, arrow, when_is, merge, call}
use Rattle.hp_tree.specs.Programs.{TypeDecl}
use Rattle.hp_tree.specs.Operators.{constant_of, one_of, two_of, if_of}
use Rattle.hp_tree.specs.Instant.{First, Second, Third, Instant, Given, at, part, top, with_one, with_two, with_three}
use Rattle.hp_tree.specs.Meaning.{Names, Nodes, expr, right}
use Rattle.hp_automata.specs.Renaming.{renamed}
use Rattle.law_automata.specs.Lowered.OldNames.{IsOld, OldExpr}
use Rattle.law_automata.specs.Lowered.Removable.{Plain}
use Rattle.law_automata.specs.Lowered.Standing.{Relation, ExprStands}
use Rattle.law_automata.proofs.LoweredLemmas.Expressions.{ap₃, reading}

module _ (types : List TypeDecl) where
  abbrev pub pure : Expr → Names → Names → Value
  pure (constant s c) names last = constant_of types c
  pure (variable s x) names last = names x
  pure (last_of s x) names last = last x
  pure (one s o a) names last = one_of o (pure a names last)
  pure (two s o a b) names last = two_of o (pure a names last) (pure b names last)
  pure (choose s a b c) names last = if_of (pure a names last) (pure b names last) (pure c names last)
  pure e names last = Absent

  module _ (u : Value → Value) (N : Nodes) where
    pub plain_top : (e : Expr) → Plain e → (names last : Names) (g : Given) (now : Instant) → top (expr types (reading u) N e [] names last g now) ≡ pure e names last
    plain_top (constant s c) q names last g now = refl
    plain_top (variable s x) q names last g now = refl
    plain_top (last_of s x) q names last g now = refl
    plain_top (one s o a) q names last g now = ap (one_of o) (plain_top a q names last (at First g) (part First now))
    plain_top (two s o a b) q names last g now = ap₂ (two_of o) (plain_top a q.0 names last (at First g) (part First now)) (plain_top b q.1 names last (at Second g) (part Second now))
    plain_top (choose s a b c) q names last g now =
        ap₃ if_of (plain_top a q.0 names last (at First g) (part First now)) (plain_top b q.1 names last (at Second g) (part Second now)) (plain_top c q.2 names last (at Third g) (part Third now))
    plain_top (pre s a) q names last g now = absurd q
    plain_top (fby s a b) q names last g now = absurd q
    plain_top (arrow s a b) q names last g now = absurd q
    plain_top (when_is s a c x) q names last g now = absurd q
    plain_top (merge s x ps) q names last g now = absurd q
    plain_top (call s f i es) q names last g now = absurd q

    -- it looks at nothing else
    pub plain_any : (e : Expr) → Plain e → (names last : Names) (g h : Given) (now other : Instant) → expr types (reading u) N e [] names last g now ≡ expr types (reading u) N e [] names last h other
    plain_any (constant s c) q names last g h now other = refl
    plain_any (variable s x) q names last g h now other = refl
    plain_any (last_of s x) q names last g h now other = refl
    plain_any (one s o a) q names last g h now other = ap (λ i. with_one (one_of o (top i)) i) (plain_any a q names last (at First g) (at First h) (part First now) (part First other))
    plain_any (two s o a b) q names last g h now other =
        ap₂ (λ i j. with_two (two_of o (top i) (top j)) i j) (plain_any a q.0 names last (at First g) (at First h) (part First now) (part First other))
        (plain_any b q.1 names last (at Second g) (at Second h) (part Second now) (part Second other))
    plain_any (choose s a b c) q names last g h now other =
        ap₃ (λ i j k. with_three (if_of (top i) (top j) (top k)) i j k) (plain_any a q.0 names last (at First g) (at First h) (part First now) (part First other))
        (plain_any b q.1 names last (at Second g) (at Second h) (part Second now) (part Second other)) (plain_any c q.2 names last (at Third g) (at Third h) (part Third now) (part Third other))
    plain_any (pre s a) q names last g h now other = absurd q
    plain_any (fby s a b) q names last g h now other = absurd q
    plain_any (arrow s a b) q names last g h now other = absurd q
    plain_any (when_is s a c x) q names last g h now other = absurd q
    plain_any (merge s x ps) q names last g h now other = absurd q
    plain_any (call s f i es) q names last g h now other = absurd q

    pub plain_right : (ys : List (List ℕ × Span)) (e : Expr) → Plain e → (i : Instant) (x : List ℕ) → right types (reading u) N ys e i x ≡ top i
    plain_right ys (constant s c) q i x = refl
    plain_right ys (variable s y) q i x = refl
    plain_right ys (last_of s y) q i x = refl
    plain_right ys (one s o a) q i x = refl
    plain_right ys (two s o a b) q i x = refl
    plain_right ys (choose s a b c) q i x = refl
    plain_right ys (pre s a) q i x = absurd q
    plain_right ys (fby s a b) q i x = absurd q
    plain_right ys (arrow s a b) q i x = absurd q
    plain_right ys (when_is s a c y) q i x = absurd q
    plain_right ys (merge s y ps) q i x = absurd q
    plain_right ys (call s f i' es) q i x = absurd q

  -- with replaced names it has the same value
  module _ (to : List ℕ → List ℕ) (names' names last' last : Names) (same : (x : List ℕ) → IsOld x → names' (to x) ≡ names x) (lasts : (x : List ℕ) → IsOld x → last' x ≡ last x) where
    pub pure_renamed : (e : Expr) → Plain e → OldExpr e → pure (renamed to e) names' last' ≡ pure e names last
    pure_renamed (constant s c) q o = refl
    pure_renamed (variable s x) q o = same x o
    pure_renamed (last_of s x) q o = lasts x o
    pure_renamed (one s op a) q o = ap (one_of op) (pure_renamed a q o)
    pure_renamed (two s op a b) q o = ap₂ (two_of op) (pure_renamed a q.0 o.0) (pure_renamed b q.1 o.1)
    pure_renamed (choose s a b c) q o = ap₃ if_of (pure_renamed a q.0 o.0) (pure_renamed b q.1 o.1) (pure_renamed c q.2 o.2)
    pure_renamed (pre s a) q o = absurd q
    pure_renamed (fby s a b) q o = absurd q
    pure_renamed (arrow s a b) q o = absurd q
    pure_renamed (when_is s a c x) q o = absurd q
    pure_renamed (merge s x ps) q o = absurd q
    pure_renamed (call s f i es) q o = absurd q

pub plain_renamed : (to : List ℕ → List ℕ) (e : Expr) → Plain e → Plain (renamed to e)
plain_renamed to (constant s c) q = tt
plain_renamed to (variable s x) q = tt
plain_renamed to (last_of s x) q = tt
plain_renamed to (one s o a) q = plain_renamed to a q
plain_renamed to (two s o a b) q = (plain_renamed to a q.0, plain_renamed to b q.1)
plain_renamed to (choose s a b c) q = (plain_renamed to a q.0, plain_renamed to b q.1, plain_renamed to c q.2)
plain_renamed to (pre s a) q = absurd q
plain_renamed to (fby s a b) q = absurd q
plain_renamed to (arrow s a b) q = absurd q
plain_renamed to (when_is s a c x) q = absurd q
plain_renamed to (merge s x ps) q = absurd q
plain_renamed to (call s f i es) q = absurd q

-- Instants of it and of what it becomes with replaced names have the same values in all places.
module _ (types : List TypeDecl) (u : Value → Value) (N N' : Nodes) (stands : List ℕ → Relation) (to : List ℕ → List ℕ) (names' names last' last : Names) (same : (x : List ℕ) → IsOld x → names' (to x) ≡ names x)
    (lasts : (x : List ℕ) → IsOld x → last' x ≡ last x) where
  tops_same : (e : Expr) → Plain e → OldExpr e → (g h : Given) (i j : Instant) → i ≡ expr types (reading u) N e [] names last g i → j ≡ expr types (reading u) N' (renamed to e) [] names' last' h j → top i ≡ top j
  tops_same e q o g h i j m l =
      ap top m ∙ plain_top types u N e q names last g i ∙ sym (pure_renamed types to names' names last' last same lasts e q o) ∙ sym (plain_top types u N' (renamed to e) (plain_renamed to e q) names' last' h j) ∙ sym (ap top l)

  pub plain_stands : (e : Expr) → Plain e → OldExpr e → (g h : Given) (i j : Instant) → i ≡ expr types (reading u) N e [] names last g i → j ≡ expr types (reading u) N' (renamed to e) [] names' last' h j → ExprStands stands e i j
  plain_stands (constant s c) q o g h i j m l = tops_same (constant s c) q o g h i j m l
  plain_stands (variable s x) q o g h i j m l = tops_same (variable s x) q o g h i j m l
  plain_stands (last_of s x) q o g h i j m l = tops_same (last_of s x) q o g h i j m l
  plain_stands (one s op a) q o g h i j m l = (tops_same (one s op a) q o g h i j m l, plain_stands a q o (at First g) (at First h) (part First i) (part First j) (ap (part First) m) (ap (part First) l))
  plain_stands (two s op a b) q o g h i j m l = (
    tops_same (two s op a b) q o g h i j m l,
    plain_stands a q.0 o.0 (at First g) (at First h) (part First i) (part First j) (ap (part First) m) (ap (part First) l),
    plain_stands b q.1 o.1 (at Second g) (at Second h) (part Second i) (part Second j) (ap (part Second) m) (ap (part Second) l),
  )
  plain_stands (choose s a b c) q o g h i j m l = (
    tops_same (choose s a b c) q o g h i j m l,
    plain_stands a q.0 o.0 (at First g) (at First h) (part First i) (part First j) (ap (part First) m) (ap (part First) l),
    plain_stands b q.1 o.1 (at Second g) (at Second h) (part Second i) (part Second j) (ap (part Second) m) (ap (part Second) l),
    plain_stands c q.2 o.2 (at Third g) (at Third h) (part Third i) (part Third j) (ap (part Third) m) (ap (part Third) l),
  )
  plain_stands (pre s a) q o g h i j m l = absurd q
  plain_stands (fby s a b) q o g h i j m l = absurd q
  plain_stands (arrow s a b) q o g h i j m l = absurd q
  plain_stands (when_is s a c x) q o g h i j m l = absurd q
  plain_stands (merge s x ps) q o g h i j m l = absurd q
  plain_stands (call s f inlined es) q o g h i j m l = absurd q
