-- What has been added to a contract remembers its formulas, whatever is added behind it.
use Rattle.std.proofs.Common.{◌≡◌, ◌⊎◌, inl, inr, ℕ, suc, ◌<◌, ◌≤◌, ◌^◌, Bool, true, false, ◌||◌, if◌then◌else◌, List, [], ◌∷◌, ◌++◌, Option, None, Some, refl, sym, ap, ◌∙◌, arith}
use Rattle.std.specs.Str.{bytes_eq}
use Rattle.std.proofs.lemmas.Slice.Eq.{bytes_eq-Decides}
use Rattle.hp_base.specs.declared.span.Span.{Span}
use Rattle.hp_base.specs.declared.ty.Const.{Const}
use Rattle.hp_base.specs.declared.ty.Const.TheVariants as constant
use Rattle.hp_tree.specs.declared.expr.Op2.{Op2}
use Rattle.hp_tree.specs.declared.expr.Op2.TheVariants.{And, Or}
use Rattle.hp_tree.specs.Expressions.{Expr, constant, variable, last_of, one, two, choose, pre, fby, arrow, when_is, merge, call, Exprs, no_expr, more_exprs, Parts, no_part, more_parts}
use Rattle.hp_tree.specs.Blocks.{Decl, Block, block, Eqns, no_eqn, more_eqns, Eqn, define, switch, reset, automaton, eqns_of}
use Rattle.hp_tree.specs.Programs.{Contract}
use Rattle.hp_past.specs.declared.formula.Formula.{Formula}
use Rattle.hp_past.specs.declared.formula.Formula.TheVariants as formula
use Rattle.hp_past.specs.declared.formula.Formulas.{Formulas}
use Rattle.hp_past.specs.Formulas.{formula_of}
use Rattle.hp_tree.specs.Meaning.{defines, some_defines, declares}
use Rattle.hp_tree.specs.Reaction.{Each}
use Rattle.hp_past.specs.Names.{Names, is_taken, past_name, free}
use Rattle.hp_past.specs.Unfolding.{Added, fresh, first_value, boolean, equation, with_variable, with_argument, with_memory, once_of, historically_of, since_of, with_one, with_two, formula_or_call, in_expr, in_exprs, in_parts, in_eqn, in_eqns, in_condition, in_parts_of}
use Rattle.hp_past.specs.Own.{equations_of}
use Rattle.hp_past.specs.Remembering.{last_among, right_side, defined_as, Remembers, Defines}
use Rattle.hp_past.specs.Remembered.{Remembered, once, historically, since, variable_of, Keeps}
use Rattle.hp_past.proofs.FreeLaws.{one-number, free-later, free-is-free}

-- ---- what stands in front stays

last-front : (xs ys : List Decl) (v : List ℕ) (c : Const) → last_among xs v ≡ Some c → last_among (xs ++ ys) v ≡ Some c
last-front [] ys v c e = absurd cc
last-front (d ∷ xs) ys v c e = by (bytes_eq d.name v) (last-front xs ys v c) e
  where
    by : (same : Bool) → (last_among xs v ≡ Some c → last_among (xs ++ ys) v ≡ Some c) → (if same then d.last else last_among xs v) ≡ Some c → (if same then d.last else last_among (xs ++ ys) v) ≡ Some c
    by true rest h = h
    by false rest h = rest h

right-front : (xs ys : List Eqn) (v : List ℕ) (e : Expr) → defined_as (eqns_of xs) v ≡ Some e → defined_as (eqns_of (xs ++ ys)) v ≡ Some e
right-front [] ys v e h = absurd cc
right-front (q ∷ xs) ys v e h = by (defines q v) (right-front xs ys v e) h
  where
    by : (same : Bool) → (defined_as (eqns_of xs) v ≡ Some e → defined_as (eqns_of (xs ++ ys)) v ≡ Some e) → (if same then right_side q v else defined_as (eqns_of xs) v) ≡ Some e
        → (if same then right_side q v else defined_as (eqns_of (xs ++ ys)) v) ≡ Some e
    by true rest h = h
    by false rest h = rest h

some-front : (xs ys : List Eqn) (n : List ℕ) → some_defines (eqns_of xs) n ≡ true → some_defines (eqns_of (xs ++ ys)) n ≡ true
some-front [] ys n h = absurd cc
some-front (q ∷ xs) ys n h = by (defines q n) (some-front xs ys n) h
  where
    by : (same : Bool) → (some_defines (eqns_of xs) n ≡ true → some_defines (eqns_of (xs ++ ys)) n ≡ true) → (same || some_defines (eqns_of xs) n) ≡ true → (same || some_defines (eqns_of (xs ++ ys)) n) ≡ true
    by true rest h = refl
    by false rest h = rest h

-- ---- what stands behind stays, where nothing in front has the name

last-behind : (xs ys : List Decl) (v : List ℕ) → declares xs v ≡ false → last_among (xs ++ ys) v ≡ last_among ys v
last-behind [] ys v e = refl
last-behind (d ∷ xs) ys v e = by (bytes_eq d.name v) (last-behind xs ys v) e
  where
    by : (same : Bool) → (declares xs v ≡ false → last_among (xs ++ ys) v ≡ last_among ys v) → (same || declares xs v) ≡ false → (if same then d.last else last_among (xs ++ ys) v) ≡ last_among ys v
    by true rest h = absurd cc
    by false rest h = rest h

right-behind : (xs ys : List Eqn) (v : List ℕ) → some_defines (eqns_of xs) v ≡ false → defined_as (eqns_of (xs ++ ys)) v ≡ defined_as (eqns_of ys) v
right-behind [] ys v e = refl
right-behind (q ∷ xs) ys v e = by (defines q v) (right-behind xs ys v) e
  where
    by : (same : Bool) → (some_defines (eqns_of xs) v ≡ false → defined_as (eqns_of (xs ++ ys)) v ≡ defined_as (eqns_of ys) v) → (same || some_defines (eqns_of xs) v) ≡ false
        → (if same then right_side q v else defined_as (eqns_of (xs ++ ys)) v) ≡ defined_as (eqns_of ys) v
    by true rest h = absurd cc
    by false rest h = rest h

some-behind : (xs ys : List Eqn) (n : List ℕ) → some_defines (eqns_of ys) n ≡ true → some_defines (eqns_of (xs ++ ys)) n ≡ true
some-behind [] ys n h = h
some-behind (q ∷ xs) ys n h = by (defines q n) (some-behind xs ys n h)
  where
    by : (same : Bool) → some_defines (eqns_of (xs ++ ys)) n ≡ true → (same || some_defines (eqns_of (xs ++ ys)) n) ≡ true
    by true r = refl
    by false r = r

-- ---- so a block keeps what it remembers

abbrev made : List Decl → List Eqn → Block
made ds es = block ds (eqns_of es)

remembers-front : (ds more : List Decl) (es others : List Eqn) (v : List ℕ) (b : Bool) (e : Expr) → Remembers (made ds es) v b e → Remembers (made (ds ++ more) (es ++ others)) v b e
remembers-front ds more es others v b e r = record { begins = last-front ds more v (constant.B b) r.begins; defined = right-front es others v e r.defined }

pub keeps-front : (ds more : List Decl) (es others : List Eqn) (f : Remembered) → Keeps (made ds es) f → Keeps (made (ds ++ more) (es ++ others)) f
keeps-front ds more es others (once n v) k = (some-front es others n k.0, (k.1.0, k.1.1, k.1.2, remembers-front ds more es others v false _ k.1.3))
keeps-front ds more es others (historically n v) k = (some-front es others n k.0, (k.1.0, k.1.1, k.1.2, remembers-front ds more es others v true _ k.1.3))
keeps-front ds more es others (since n1 n2 v) k = (some-front es others n1 k.0, some-front es others n2 k.1, (k.2.0, k.2.1, k.2.2, k.2.3, k.2.4, remembers-front ds more es others v false _ k.2.5))

module _ (ds more : List Decl) (es others : List Eqn) (v : List ℕ) (undeclared : declares ds v ≡ false) (undefined : some_defines (eqns_of es) v ≡ false) where
  remembers-behind : (b : Bool) (e : Expr) → Remembers (made more others) v b e → Remembers (made (ds ++ more) (es ++ others)) v b e
  remembers-behind b e r = record { begins = last-behind ds more v undeclared ∙ r.begins; defined = right-behind es others v undefined ∙ r.defined }

pub keeps-behind : (ds more : List Decl) (es others : List Eqn) (f : Remembered) → declares ds (variable_of f) ≡ false → some_defines (eqns_of es) (variable_of f) ≡ false → Keeps (made more others) f → Keeps (made (ds ++ more) (es ++ others)) f
keeps-behind ds more es others (once n v) a b k = (some-behind es others n k.0, (k.1.0, k.1.1, k.1.2, remembers-behind ds more es others v a b false _ k.1.3))
keeps-behind ds more es others (historically n v) a b k = (some-behind es others n k.0, (k.1.0, k.1.1, k.1.2, remembers-behind ds more es others v a b true _ k.1.3))
keeps-behind ds more es others (since n1 n2 v) a b k = (some-behind es others n1 k.0, some-behind es others n2 k.1, (k.2.0, k.2.1, k.2.2, k.2.3, k.2.4, remembers-behind ds more es others v a b false _ k.2.5))

-- ---- names in what has been added

-- A variable that was added has a name of a number below this one, which does not occur.
pub record IsNew (names : Names) (next : ℕ) (x : List ℕ) : Type 0 where
  pub number : ℕ
  pub spelled : x ≡ past_name number
  pub below : number < next
  pub free_of_it : is_taken names (past_name number) ≡ false

pub record IsNewEqn (names : Names) (next : ℕ) (q : Eqn) : Type 0 where
  pub decl : Decl
  pub right_of : Expr
  pub shape : q ≡ equation decl right_of
  pub named : IsNew names next decl.name

each-more : {A : Type 0} (P : A → Type 0) (xs : List A) (x : A) → Each P xs → P x → Each P (xs ++ x ∷ [])
each-more P [] x h p = (p, tt)
each-more P (y ∷ xs) x h p = (h.0, each-more P xs x h.1 p)

each-say : {A : Type 0} (P Q : A → Type 0) → ((x : A) → P x → Q x) → (xs : List A) → Each P xs → Each Q xs
each-say P Q f [] h = tt
each-say P Q f (x ∷ xs) h = (f x h.0, each-say P Q f xs h.1)

new-later : (names : Names) (k m : ℕ) (x : List ℕ) → k ≤ m → IsNew names k x → IsNew names m x
new-later names k m x h n = let b = n.below in record { number = n.number; spelled = n.spelled; below = omega (arith, h, b); free_of_it = n.free_of_it }

-- the name of a number that is not below is another
other-name : (names : Names) (next k : ℕ) (x : List ℕ) → IsNew names next x → next ≤ k → k < 2 ^ 64 → bytes_eq x (past_name k) ≡ false
other-name names next k x n h g = by (bytes_eq x (past_name k)) refl
  where
    by : (same : Bool) → bytes_eq x (past_name k) ≡ same → bytes_eq x (past_name k) ≡ false
    by true e =
        let b = n.below in
        let one = one-number n.number k (omega (arith, b, h, g)) g (sym n.spelled ∙ (bytes_eq-Decides x (past_name k)).0 e) in
        absurd (omega (arith, b, h, one))
    by false e = e

undeclared-new : (names : Names) (next k : ℕ) (ds : List Decl) → Each (λ (d : Decl). IsNew names next d.name) ds → next ≤ k → k < 2 ^ 64 → declares ds (past_name k) ≡ false
undeclared-new names next k [] h l g = refl
undeclared-new names next k (d ∷ ds) h l g = ap (λ same. same || declares ds (past_name k)) (other-name names next k d.name h.0 l g) ∙ undeclared-new names next k ds h.1 l g

defines-one : (d : Decl) (e : Expr) (x : List ℕ) (b : Bool) → bytes_eq d.name x ≡ b → defines (equation d e) x ≡ (b || false)
defines-one d e x b h = ap (λ same. same || false) h

undefined-new : (names : Names) (next k : ℕ) (es : List Eqn) → Each (IsNewEqn names next) es → next ≤ k → k < 2 ^ 64 → some_defines (eqns_of es) (past_name k) ≡ false
undefined-new names next k [] h l g = refl
undefined-new names next k (q ∷ es) h l g =
    let n = h.0 in
    ap (λ r. defines r (past_name k) || some_defines (eqns_of es) (past_name k)) n.shape
    ∙ ap (λ same. same || some_defines (eqns_of es) (past_name k)) (defines-one n.decl n.right_of (past_name k) false (other-name names next k n.decl.name n.named l g))
    ∙ undefined-new names next k es h.1 l g

-- ---- what has been added is well made: its names are new, and what is declared `last` remembers a formula

abbrev pub KeptIn : List Decl → List Eqn → Decl → Type 0
KeptIn ds es d = (d.last ≡ None) ⊎ ((f : Remembered) × (variable_of f ≡ d.name) × Keeps (made ds es) f)

pub record WellAdded (names : Names) (s : Added) : Type 0 where
  pub locals : Each (λ (d : Decl). IsNew names s.next d.name) s.locals
  pub eqns : Each (IsNewEqn names s.next) s.eqns
  pub kept : Each (KeptIn s.locals s.eqns) s.locals

kept-front : (ds more : List Decl) (es others : List Eqn) (d : Decl) → KeptIn ds es d → KeptIn (ds ++ more) (es ++ others) d
kept-front ds more es others d (inl e) = inl e
kept-front ds more es others d (inr k) = inr (k.0, k.1, keeps-front ds more es others k.0 k.2)

-- a step from what has been added to more
pub record Steps (names : Names) (s t : Added) : Type 0 where
  pub later : s.next ≤ t.next
  pub well : t.next < 2 ^ 64 → WellAdded names s → WellAdded names t

pub stays : (names : Names) (s : Added) → Steps names s s
stays names s = record { later = omega arith; well = λ h w. w }

pub steps-on : (names : Names) (s t u : Added) → Steps names s t → Steps names t u → Steps names s u
steps-on names s t u a b =
    let l = a.later in
    let m = b.later in
    record { later = omega (arith, l, m); well = λ h w. b.well h (a.well (omega (arith, m, h)) w) }

-- a variable that is added under a name that is new
module _ (names : Names) (s : Added) (at : Span) (first : Option Bool) (right : Expr) where
  abbrev pub number : ℕ
  number = free names s.next

  abbrev pub decl_of : Decl
  decl_of = boolean at (past_name number) first

  abbrev pub behind : Added
  behind = record { next = suc number; locals = s.locals ++ decl_of ∷ []; eqns = s.eqns ++ equation decl_of right ∷ [] }

  later-number : s.next ≤ number
  later-number = free-later names s.next

  is-new : suc number < 2 ^ 64 → IsNew names (suc number) (past_name number)
  is-new h = record { number = number; spelled = refl; below = omega arith; free_of_it = free-is-free names s.next (omega (arith, h)) }

  defines-it : some_defines (eqns_of behind.eqns) (past_name number) ≡ true
  defines-it = some-behind s.eqns (equation decl_of right ∷ []) (past_name number) (ap (λ same. (same || false) || false) ((bytes_eq-Decides (past_name number) (past_name number)).1 refl))

  -- it is well added where it remembers a formula
  well-behind : suc number < 2 ^ 64 → WellAdded names s → KeptIn behind.locals behind.eqns decl_of → WellAdded names behind
  well-behind h w k =
      let l = later-number in
      let n = is-new h in
      record {
        locals = each-more (λ (d : Decl). IsNew names (suc number) d.name) s.locals decl_of (each-say _ _ (λ d m. new-later names s.next (suc number) d.name (omega (arith, l)) m) s.locals w.locals) n;
        eqns = each-more (IsNewEqn names (suc number)) s.eqns (equation decl_of right)
            (each-say (IsNewEqn names s.next) (IsNewEqn names (suc number)) (λ q m. record { decl = m.decl; right_of = m.right_of; shape = m.shape; named = new-later names s.next (suc number) m.decl.name (omega (arith, l)) m.named }) s.eqns w.eqns)
            (record { decl = decl_of; right_of = right; shape = refl; named = n });
        kept = each-more (KeptIn behind.locals behind.eqns) s.locals decl_of (each-say _ _ (λ d m. kept-front s.locals (decl_of ∷ []) s.eqns (equation decl_of right ∷ []) d m) s.locals w.kept) k;
      }

  remembers-it : (b : Bool) → first ≡ Some b → suc number < 2 ^ 64 → WellAdded names s → Remembers (made behind.locals behind.eqns) (past_name number) b right
  remembers-it b e h w =
      let g : number < 2 ^ 64 = omega (arith, h) in
      let same = (bytes_eq-Decides (past_name number) (past_name number)).1 refl in
      remembers-behind s.locals (decl_of ∷ []) s.eqns (equation decl_of right ∷ []) (past_name number)
      (undeclared-new names s.next number s.locals w.locals later-number g) (undefined-new names s.next number s.eqns w.eqns later-number g) b right
      (record {
        begins = ap (λ t. if t then decl_of.last else None) same ∙ ap first_value e;
        defined = ap (λ t. if t || false then Some right else None) same;
      })

-- ---- the steps that add

argument-is : (names : Names) (at : Span) (e : Expr) (s : Added) → with_argument names at e s ≡ (past_name (free names s.next), behind names s at None e)
unfolding with_argument fresh with_variable
argument-is names at e s = refl

memory-is : (names : Names) (at : Span) (b : Bool) (right : List ℕ → Expr) (s : Added) → with_memory names at b right s ≡ (past_name (free names s.next), behind names s at (Some b) (right (past_name (free names s.next))))
unfolding fresh with_variable
memory-is names at b right s = refl

argument-steps : (names : Names) (at : Span) (e : Expr) (s : Added) → Steps names s (behind names s at None e)
argument-steps names at e s =
    let l = free-later names s.next in
    record { later = omega (arith, l); well = λ h w. well-behind names s at None e h w (inl refl) }

memory-steps : (names : Names) (at : Span) (b : Bool) (right : Expr) (s : Added)
    → (suc (free names s.next) < 2 ^ 64 → WellAdded names s → KeptIn (behind names s at (Some b) right).locals (behind names s at (Some b) right).eqns (decl_of names s at (Some b) right)) → Steps names s (behind names s at (Some b) right)
memory-steps names at b right s keeps =
    let l = free-later names s.next in
    record { later = omega (arith, l); well = λ h w. well-behind names s at (Some b) right h w (keeps h w) }

abbrev pub single : Op2 → Span → List ℕ → List ℕ → Expr
single op at n v = two at op (variable at n) (last_of at v)

-- a formula of one argument
module _ (names : Names) (at : Span) (e : Expr) (s : Added) (op : Op2) (b : Bool) where
  abbrev pub argued : Added
  argued = behind names s at None e

  abbrev pub argument : List ℕ
  argument = past_name (free names s.next)

  abbrev pub memory : List ℕ
  memory = past_name (free names argued.next)

  abbrev pub right_single : Expr
  right_single = single op at argument memory

  abbrev pub single_added : Added
  single_added = behind names argued at (Some b) right_single

  single-steps : (f : Remembered) → variable_of f ≡ memory
      → (Defines (made single_added.locals single_added.eqns) argument → Remembers (made single_added.locals single_added.eqns) memory b right_single → Keeps (made single_added.locals single_added.eqns) f) → Steps names s single_added
  single-steps f is keeps =
      steps-on names s argued single_added (argument-steps names at e s)
      (memory-steps names at b right_single argued
      (λ h w. inr (f, is, keeps (some-front argued.eqns _ argument (defines-it names s at None e)) (remembers-it names argued at (Some b) right_single b refl h w))))

pub once-steps : (names : Names) (at : Span) (e : Expr) (s : Added) → Steps names s (once_of names at e s).1
unfolding once_of with_argument fresh with_variable
once-steps names at e s =
    single-steps names at e s Or false (once (argument names at e s Or false) (memory names at e s Or false)) refl (λ d r. (d, (at, at, at, r)))

pub historically-steps : (names : Names) (at : Span) (e : Expr) (s : Added) → Steps names s (historically_of names at e s).1
unfolding historically_of with_argument fresh with_variable
historically-steps names at e s =
    single-steps names at e s And true (historically (argument names at e s And true) (memory names at e s And true)) refl (λ d r. (d, (at, at, at, r)))

module _ (names : Names) (at : Span) (e1 e2 : Expr) (s : Added) where
  abbrev pub first_added : Added
  first_added = behind names s at None e1

  abbrev pub second_added : Added
  second_added = behind names first_added at None e2

  abbrev pub holding : List ℕ
  holding = past_name (free names s.next)

  abbrev pub beginning : List ℕ
  beginning = past_name (free names first_added.next)

  abbrev pub lasting : List ℕ
  lasting = past_name (free names second_added.next)

  abbrev pub right_since : Expr
  right_since = two at Or (variable at beginning) (two at And (variable at holding) (last_of at lasting))

  abbrev pub since_added : Added
  since_added = behind names second_added at (Some false) right_since

  since-added-steps : Steps names s since_added
  since-added-steps =
      steps-on names s first_added since_added (argument-steps names at e1 s)
      (steps-on names first_added second_added since_added (argument-steps names at e2 first_added)
      (memory-steps names at false right_since second_added
      (λ h w. inr (
        since holding beginning lasting,
        refl,
        (
          some-front second_added.eqns _ holding (some-front first_added.eqns _ holding (defines-it names s at None e1)),
          some-front second_added.eqns _ beginning (defines-it names first_added at None e2),
          (at, at, at, at, at, remembers-it names second_added at (Some false) right_since false refl h w),
        ),
      ))))

pub since-steps : (names : Names) (at : Span) (e1 e2 : Expr) (s : Added) → Steps names s (since_of names at e1 e2 s).1
unfolding since_of with_argument fresh with_variable
since-steps names at e1 e2 s = since-added-steps names at e1 e2 s

-- ---- all of a contract

module _ (there : Formulas) (names : Names) where
  one-steps : (remembered : Expr → Added → List ℕ × Added) → ((e : Expr) (s : Added) → Steps names s (remembered e s).1) → (at : Span) (f : List ℕ) (es : Exprs) (s : Added) → Steps names s (with_one remembered at f es s).1
  one-steps remembered steps at f no_expr s = stays names s
  one-steps remembered steps at f (more_exprs e no_expr) s = steps e s
  one-steps remembered steps at f (more_exprs e (more_exprs e2 es)) s = stays names s

  two-steps : (remembered : Expr → Expr → Added → List ℕ × Added) → ((e1 e2 : Expr) (s : Added) → Steps names s (remembered e1 e2 s).1) → (at : Span) (f : List ℕ) (es : Exprs) (s : Added) → Steps names s (with_two remembered at f es s).1
  two-steps remembered steps at f no_expr s = stays names s
  two-steps remembered steps at f (more_exprs e no_expr) s = stays names s
  two-steps remembered steps at f (more_exprs e1 (more_exprs e2 no_expr)) s = steps e1 e2 s
  two-steps remembered steps at f (more_exprs e1 (more_exprs e2 (more_exprs e3 es))) s = stays names s

  pub call-steps : (formula : Option Formula) (at : Span) (f : List ℕ) (es : Exprs) (s : Added) → Steps names s (formula_or_call names formula at f es s).1
  call-steps None at f es s = stays names s
  call-steps (Some formula.Once) at f es s = one-steps (once_of names at) (once-steps names at) at f es s
  call-steps (Some formula.Historically) at f es s = one-steps (historically_of names at) (historically-steps names at) at f es s
  call-steps (Some formula.Since) at f es s = two-steps (since_of names at) (since-steps names at) at f es s

  mutual
    pub expr-steps : (e : Expr) (s : Added) → Steps names s (in_expr there names e s).1
    expr-steps (constant at c) s = stays names s
    expr-steps (variable at x) s = stays names s
    expr-steps (last_of at x) s = stays names s
    expr-steps (one at op a) s = expr-steps a s
    expr-steps (two at op a b) s =
        let t = (in_expr there names a s).1 in
        steps-on names s t (in_expr there names b t).1 (expr-steps a s) (expr-steps b t)
    expr-steps (choose at a b c) s =
        let t = (in_expr there names a s).1 in
        let u = (in_expr there names b t).1 in
        steps-on names s t (in_expr there names c u).1 (expr-steps a s) (steps-on names t u (in_expr there names c u).1 (expr-steps b t) (expr-steps c u))
    expr-steps (pre at a) s = expr-steps a s
    expr-steps (fby at a b) s =
        let t = (in_expr there names a s).1 in
        steps-on names s t (in_expr there names b t).1 (expr-steps a s) (expr-steps b t)
    expr-steps (arrow at a b) s =
        let t = (in_expr there names a s).1 in
        steps-on names s t (in_expr there names b t).1 (expr-steps a s) (expr-steps b t)
    expr-steps (when_is at a c x) s = expr-steps a s
    expr-steps (merge at x ps) s = parts-steps ps s
    expr-steps (call at f true es) s = exprs-steps es s
    expr-steps (call at f false es) s =
        let t = in_exprs there names es s in
        steps-on names s t.1 (formula_or_call names (formula_of there f) at f t.0 t.1).1 (exprs-steps es s) (call-steps (formula_of there f) at f t.0 t.1)

    pub exprs-steps : (es : Exprs) (s : Added) → Steps names s (in_exprs there names es s).1
    exprs-steps no_expr s = stays names s
    exprs-steps (more_exprs e es) s =
        let t = (in_expr there names e s).1 in
        steps-on names s t (in_exprs there names es t).1 (expr-steps e s) (exprs-steps es t)

    pub parts-steps : (ps : Parts) (s : Added) → Steps names s (in_parts there names ps s).1
    parts-steps no_part s = stays names s
    parts-steps (more_parts c e ps) s =
        let t = (in_expr there names e s).1 in
        steps-on names s t (in_parts there names ps t).1 (expr-steps e s) (parts-steps ps t)

  pub eqn-steps : (q : Eqn) (s : Added) → Steps names s (in_eqn there names q s).1
  eqn-steps (define at xs e) s = expr-steps e s
  eqn-steps (switch at e arms) s = expr-steps e s
  eqn-steps (reset at b e) s = expr-steps e s
  eqn-steps (automaton at qs) s = stays names s

  pub eqns-steps : (es : Eqns) (s : Added) → Steps names s (in_eqns there names es s).1
  eqns-steps no_eqn s = stays names s
  eqns-steps (more_eqns q es) s =
      let t = (in_eqn there names q s).1 in
      steps-on names s t (in_eqns there names es t).1 (eqn-steps q s) (eqns-steps es t)

  pub condition-steps : (e : Option Expr) (s : Added) → Steps names s (in_condition there names e s).1
  condition-steps None s = stays names s
  condition-steps (Some e) s = expr-steps e s

  pub contract-steps : (c : Contract) (s : Added) → Steps names s (in_parts_of there names c s).1
  contract-steps c s =
      let t = (in_eqns there names (equations_of c.body) s).1 in
      let u = (in_condition there names c.assume t).1 in
      steps-on names s t (in_parts_of there names c s).1 (eqns-steps (equations_of c.body) s)
      (steps-on names t u (in_parts_of there names c s).1 (condition-steps c.assume t) (condition-steps c.enforce u))
