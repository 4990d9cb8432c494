-- What remembers a formula stands somewhere in a block. Where each name of the block is declared and defined once, the block keeps the formula.
use Rattle.std.proofs.Common.{◌≡◌, ◌⊎◌, inl, inr, ℕ, Bool, true, false, ◌||◌, if◌then◌else◌, List, [], ◌∷◌, ◌++◌, None, Some, refl, sym, ap, ◌∙◌, subst}
use Rattle.std.specs.Str.{bytes_eq}
use Rattle.hp_base.specs.declared.span.Span.{Span}
use Rattle.hp_base.specs.declared.ty.Const.{Const}
use Rattle.hp_base.specs.declared.ty.Const.TheVariants as constant
use Rattle.hp_tree.specs.declared.expr.Op2.TheVariants.{And, Or}
use Rattle.hp_tree.specs.Blocks.{Decl, Block, block, Eqns, no_eqn, more_eqns, Eqn, define, switch, reset, automaton, eqns_of}
use Rattle.hp_tree.specs.Expressions.{Expr, variable, last_of, two}
use Rattle.hp_tree.specs.Meaning.{declares, defines, some_defines}
use Rattle.hp_tree.specs.Reaction.{Each}
use Rattle.hp_meaning.specs.Clocking.Clocking.{AreOnce}
use Rattle.law_judged.proofs.NamedLemmas.Sets.{same_name, name_same}
use Rattle.law_judged.specs.Once.Once.{AllOnce}
use Rattle.law_judged.proofs.OnceLemmas.Renamed.{or_none}
use Rattle.hp_past.specs.Remembering.{last_among, right_side, defined_as, Remembers, Defines}
use Rattle.hp_past.specs.Remembered.{Remembered, once, historically, since, variable_of, Keeps}

pub some_is : {A : Type 0} (a b : A) → Some a ≡ Some b → a ≡ b
some_is a b e = ap (λ o. elim o [ None ↦ a | Some c ↦ c ]) e

-- ---- declarations and equations that stand somewhere

module _ (P : Decl → Type 0) where
  abbrev pub SomeDecl : List Decl → Type 0
  SomeDecl [] = ⊥
  SomeDecl (d ∷ ds) = P d ⊎ SomeDecl ds

  pub decl_front : (ds more : List Decl) → SomeDecl ds → SomeDecl (ds ++ more)
  decl_front [] more h = absurd h
  decl_front (d ∷ ds) more (inl h) = inl h
  decl_front (d ∷ ds) more (inr h) = inr (decl_front ds more h)

module _ (P : Eqn → Type 0) where
  abbrev pub SomeEqn : Eqns → Type 0
  SomeEqn no_eqn = ⊥
  SomeEqn (more_eqns e es) = P e ⊎ SomeEqn es

  pub eqn_front : (es more : List Eqn) → SomeEqn (eqns_of es) → SomeEqn (eqns_of (es ++ more))
  eqn_front [] more h = absurd h
  eqn_front (e ∷ es) more (inl h) = inl h
  eqn_front (e ∷ es) more (inr h) = inr (eqn_front es more h)

  pub eqn_behind : (es more : List Eqn) → SomeEqn (eqns_of more) → SomeEqn (eqns_of (es ++ more))
  eqn_behind [] more h = h
  eqn_behind (e ∷ es) more h = inr (eqn_behind es more h)

-- a declaration of a name, and one with a first value
abbrev pub IsNamed : List ℕ → Decl → Type 0
IsNamed x d = d.name ≡ x

abbrev pub IsFirst : List ℕ → Const → Decl → Type 0
IsFirst x c d = (d.name ≡ x) × (d.last ≡ Some c)

-- an equation of this name alone
abbrev pub IsEquation : List ℕ → Expr → Eqn → Type 0
IsEquation x right (define s [] e) = ⊥
IsEquation x right (define s (y ∷ []) e) = (y.0 ≡ x) × (e ≡ right)
IsEquation x right (define s (y ∷ z ∷ ys) e) = ⊥
IsEquation x right (switch s e arms) = ⊥
IsEquation x right (reset s b e) = ⊥
IsEquation x right (automaton s qs) = ⊥

-- ---- what is found stands there

pub named_some : (ds : List Decl) (x : List ℕ) → declares ds x ≡ true → SomeDecl (IsNamed x) ds
named_some [] x h = absurd cc
named_some (d ∷ ds) x h = by (bytes_eq d.name x) refl (named_some ds x) h
  where
    by : (same : Bool) → bytes_eq d.name x ≡ same → (declares ds x ≡ true → SomeDecl (IsNamed x) ds) → (same || declares ds x) ≡ true → SomeDecl (IsNamed x) (d ∷ ds)
    by true is rest k = inl (same_name d.name x is)
    by false is rest k = inr (rest k)

first_some : (ds : List Decl) (x : List ℕ) (c : Const) → last_among ds x ≡ Some c → SomeDecl (IsFirst x c) ds
first_some [] x c h = absurd cc
first_some (d ∷ ds) x c h = by (bytes_eq d.name x) refl (first_some ds x c) h
  where
    by : (same : Bool) → bytes_eq d.name x ≡ same → (last_among ds x ≡ Some c → SomeDecl (IsFirst x c) ds) → (if same then d.last else last_among ds x) ≡ Some c → SomeDecl (IsFirst x c) (d ∷ ds)
    by true is rest k = inl (same_name d.name x is, k)
    by false is rest k = inr (rest k)

equation_some : (es : Eqns) (x : List ℕ) (right : Expr) → defined_as es x ≡ Some right → SomeEqn (IsEquation x right) es
equation_some no_eqn x right h = absurd cc
equation_some (more_eqns e es) x right h = by (defines e x) refl (equation_some es x right) h
  where
    one : (e : Eqn) → defines e x ≡ true → right_side e x ≡ Some right → IsEquation x right e
    one (define s [] f) is k = absurd cc
    one (define s (y ∷ []) f) is k = (same_name y.0 x (or_none (bytes_eq y.0 x) is), some_is f right k)
    one (define s (y ∷ z ∷ ys) f) is k = absurd cc
    one (switch s f arms) is k = absurd cc
    one (reset s b f) is k = absurd cc
    one (automaton s qs) is k = absurd cc

    by : (same : Bool) → defines e x ≡ same → (defined_as es x ≡ Some right → SomeEqn (IsEquation x right) es) → (if same then right_side e x else defined_as es x) ≡ Some right → SomeEqn (IsEquation x right) (more_eqns e es)
    by true is rest k = inl (one e is k)
    by false is rest k = inr (rest k)

-- ---- what stands there is found, where it stands alone

pub some_named : (ds : List Decl) (x : List ℕ) → SomeDecl (IsNamed x) ds → declares ds x ≡ true
some_named [] x h = absurd h
some_named (d ∷ ds) x (inl h) = ap (λ b. b || declares ds x) (name_same d.name x h)
some_named (d ∷ ds) x (inr h) = by (bytes_eq d.name x) (some_named ds x h)
  where
    by : (same : Bool) → declares ds x ≡ true → (same || declares ds x) ≡ true
    by true k = refl
    by false k = k

pub first_named : (ds : List Decl) (x : List ℕ) (c : Const) → SomeDecl (IsFirst x c) ds → SomeDecl (IsNamed x) ds
first_named [] x c h = absurd h
first_named (d ∷ ds) x c (inl h) = inl h.0
first_named (d ∷ ds) x c (inr h) = inr (first_named ds x c h)

some_first : (ds : List Decl) (x : List ℕ) (c : Const) → AreOnce ds → SomeDecl (IsFirst x c) ds → last_among ds x ≡ Some c
some_first [] x c o h = absurd h
some_first (d ∷ ds) x c o (inl h) = ap (λ b. if b then d.last else last_among ds x) (name_same d.name x h.0) ∙ h.1
some_first (d ∷ ds) x c o (inr h) = by (bytes_eq d.name x) refl (some_first ds x c o.1 h)
  where
    by : (same : Bool) → bytes_eq d.name x ≡ same → last_among ds x ≡ Some c → (if same then d.last else last_among ds x) ≡ Some c
    by true is rest =
        let there : declares ds x ≡ true = some_named ds x (first_named ds x c h) in
        let not_there : declares ds x ≡ false = ap (declares ds) (sym (same_name d.name x is)) ∙ o.0 in
        absurd (cc (sym there, not_there))
    by false is rest = rest

some_defined : (es : Eqns) (x : List ℕ) (right : Expr) → SomeEqn (IsEquation x right) es → some_defines es x ≡ true
some_defined no_eqn x right h = absurd h
some_defined (more_eqns e es) x right (inl h) = ap (λ b. b || some_defines es x) (one e h)
  where
    one : (e : Eqn) → IsEquation x right e → defines e x ≡ true
    one (define s [] f) k = absurd k
    one (define s (y ∷ []) f) k = ap (λ b. b || false) (name_same y.0 x k.0)
    one (define s (y ∷ z ∷ ys) f) k = absurd k
    one (switch s f arms) k = absurd k
    one (reset s b f) k = absurd k
    one (automaton s qs) k = absurd k
some_defined (more_eqns e es) x right (inr h) = by (defines e x) (some_defined es x right h)
  where
    by : (same : Bool) → some_defines es x ≡ true → (same || some_defines es x) ≡ true
    by true k = refl
    by false k = k

some_equation : (es : Eqns) (x : List ℕ) (right : Expr) → AllOnce es → SomeEqn (IsEquation x right) es → defined_as es x ≡ Some right
some_equation no_eqn x right o h = absurd h
some_equation (more_eqns e es) x right o (inl h) = one e h
  where
    one : (e : Eqn) → IsEquation x right e → (if defines e x then right_side e x else defined_as es x) ≡ Some right
    one (define s [] f) k = absurd k
    one (define s (y ∷ []) f) k = ap (λ b. if b || false then Some f else defined_as es x) (name_same y.0 x k.0) ∙ ap Some k.1
    one (define s (y ∷ z ∷ ys) f) k = absurd k
    one (switch s f arms) k = absurd k
    one (reset s b f) k = absurd k
    one (automaton s qs) k = absurd k
some_equation (more_eqns e es) x right o (inr h) = by (defines e x) refl (some_equation es x right o.1.1 h)
  where
    by : (same : Bool) → defines e x ≡ same → defined_as es x ≡ Some right → (if same then right_side e x else defined_as es x) ≡ Some right
    by true is rest = let there : some_defines es x ≡ true = some_defined es x right h in absurd (cc (sym there, o.0 x is))
    by false is rest = rest

-- ---- the parts of what remembers a formula

abbrev pub arguments_of : Remembered → List (List ℕ)
arguments_of (once n v) = n ∷ []
arguments_of (historically n v) = n ∷ []
arguments_of (since n1 n2 v) = n1 ∷ n2 ∷ []

abbrev pub first_of : Remembered → Bool
first_of (once n v) = false
first_of (historically n v) = true
first_of (since n1 n2 v) = false

abbrev pub IsRight : Remembered → Expr → Type 0
IsRight (once n v) e = (at x y : Span) × (e ≡ two at Or (variable x n) (last_of y v))
IsRight (historically n v) e = (at x y : Span) × (e ≡ two at And (variable x n) (last_of y v))
IsRight (since n1 n2 v) e = (at x and y z : Span) × (e ≡ two at Or (variable x n2) (two and And (variable y n1) (last_of z v)))

-- A block keeps a formula by this right side.
pub record KeepsBy (b : Block) (m : Remembered) (right : Expr) : Type 0 where
  pub is_right : IsRight m right
  pub arguments : Each (Defines b) (arguments_of m)
  pub remembers : Remembers b (variable_of m) (first_of m) right

pub keeps_by : (b : Block) (m : Remembered) → Keeps b m → (right : Expr) × KeepsBy b m right
keeps_by b (once n v) k =
    let r = k.1 in
    (two r.0 Or (variable r.1 n) (last_of r.2 v), record { is_right = (r.0, r.1, r.2, refl); arguments = (k.0, tt); remembers = r.3 })
keeps_by b (historically n v) k =
    let r = k.1 in
    (two r.0 And (variable r.1 n) (last_of r.2 v), record { is_right = (r.0, r.1, r.2, refl); arguments = (k.0, tt); remembers = r.3 })
keeps_by b (since n1 n2 v) k =
    let r = k.2 in
    (two r.0 Or (variable r.1 n2) (two r.2 And (variable r.3 n1) (last_of r.4 v)), record { is_right = (r.0, r.1, r.2, r.3, r.4, refl); arguments = (k.0, (k.1, tt)); remembers = r.5 })

pub by_keeps : (b : Block) (m : Remembered) (right : Expr) → KeepsBy b m right → Keeps b m
by_keeps b (once n v) right h =
    let r = h.is_right in
    (h.arguments.0, (r.0, r.1, r.2, subst (Remembers b v false) r.3 h.remembers))
by_keeps b (historically n v) right h =
    let r = h.is_right in
    (h.arguments.0, (r.0, r.1, r.2, subst (Remembers b v true) r.3 h.remembers))
by_keeps b (since n1 n2 v) right h =
    let r = h.is_right in
    (h.arguments.0, h.arguments.1.0, (r.0, r.1, r.2, r.3, r.4, subst (Remembers b v false) r.5 h.remembers))

-- ---- a formula that stands somewhere in a block

pub record Stands (ds : List Decl) (es : Eqns) (m : Remembered) (right : Expr) : Type 0 where
  pub is_right : IsRight m right
  pub arguments : Each (λ n. SomeDecl (IsNamed n) ds) (arguments_of m)
  pub declared : SomeDecl (IsFirst (variable_of m) (constant.B (first_of m))) ds
  pub defined : SomeEqn (IsEquation (variable_of m) right) es

-- what it defines is declared there
abbrev pub AreDeclared : List Decl → Eqns → Type 0
AreDeclared ds es = (x : List ℕ) → some_defines es x ≡ true → declares ds x ≡ true

pub keeps_stands : (ds : List Decl) (es : Eqns) (m : Remembered) (right : Expr) → AreDeclared ds es → KeepsBy (block ds es) m right → Stands ds es m right
keeps_stands ds es m right known k = record {
  is_right = k.is_right;
  arguments = all (arguments_of m) k.arguments;
  declared = first_some ds (variable_of m) (constant.B (first_of m)) k.remembers.begins;
  defined = equation_some es (variable_of m) right k.remembers.defined;
}
  where
    all : (xs : List (List ℕ)) → Each (Defines (block ds es)) xs → Each (λ n. SomeDecl (IsNamed n) ds) xs
    all [] h = tt
    all (x ∷ xs) h = (named_some ds x (known x h.0), all xs h.1)

pub stands_keeps : (ds : List Decl) (es : Eqns) (m : Remembered) (right : Expr) → AreOnce ds → AllOnce es → ((x : List ℕ) → declares ds x ≡ true → some_defines es x ≡ true) → Stands ds es m right → Keeps (block ds es) m
stands_keeps ds es m right once_each alone_each known s = by_keeps (block ds es) m right (record {
  is_right = s.is_right;
  arguments = all (arguments_of m) s.arguments;
  remembers = record {
    begins = some_first ds (variable_of m) (constant.B (first_of m)) once_each s.declared;
    defined = some_equation es (variable_of m) right alone_each s.defined;
  };
})
  where
    all : (xs : List (List ℕ)) → Each (λ n. SomeDecl (IsNamed n) ds) xs → Each (Defines (block ds es)) xs
    all [] h = tt
    all (x ∷ xs) h = (known x (some_named ds x h.0), all xs h.1)
