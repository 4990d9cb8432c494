-- Sketches that grow by equations which define new variables, or those that they may define.
use Rattle.std.proofs.Common.{◌≡◌, ◌⊎◌, inl, inr, ℕ, ◌+◌, ◌<◌, ◌≤◌, Bool, true, false, nat_eq, ◌||◌, if◌then◌else◌, List, [], ◌∷◌, ◌++◌, length, Option, None, Some, refl, sym, ap, subst, ◌∙◌, arith}
use Rattle.std.specs.Prelude.{codes}
use Rattle.std.specs.List.{AllByRecursion}
use Rattle.std.proofs.lemmas.Bool.Decides.{nat_tests}
use Rattle.std.proofs.lemmas.List.{append-nil, append_assoc, length-append}
use Rattle.hp_tree.specs.Blocks.{Decl}
use Rattle.hp_flat.specs.declared.node.FlatTy.{FlatTy}
use Rattle.hp_flat.specs.declared.node.FlatTy.TheVariants as flat
use Rattle.hp_flat.specs.Equations.{Clock, Right, FlatEqn}
use Rattle.law_equations.specs.Meaning.Reactions.{has}
use Rattle.law_equations.specs.Made.Making.{Sketch, Site, Made, next, with_new, with_eqn, named_value, value_of, read_at, new_flag, block_flag, flag_at, tested, merged_variable, first_output, type_at, with_flag, atom_of, copy_of, numbers_from}
use Rattle.law_equations.specs.Shaped.Shaped.{Part}

-- ---- equations that are apart

-- where two equations define one variable, their clocks part
abbrev pub Differ : FlatEqn → FlatEqn → Type 0
Differ d e = (x : ℕ) → has d.targets x ≡ true → has e.targets x ≡ true → Part d.clock e.clock

abbrev pub Parted : List FlatEqn → Type 0
Parted [] = Unit {0}
Parted (e ∷ es) = AllByRecursion (Differ e) es × Parted es

pub each-other : (P Q : FlatEqn → Type 0) → ((q : FlatEqn) → P q → Q q) → (es : List FlatEqn) → AllByRecursion P es → AllByRecursion Q es
each-other P Q f [] h = tt
each-other P Q f (e ∷ es) h = (f e h.0, each-other P Q f es h.1)

each_both : (P : FlatEqn → Type 0) (xs ys : List FlatEqn) → AllByRecursion P xs → AllByRecursion P ys → AllByRecursion P (xs ++ ys)
each_both P [] ys a b = b
each_both P (x ∷ xs) ys a b = (a.0, each_both P xs ys a.1 b)

parted_both : (P Q : FlatEqn → Type 0) → ((q r : FlatEqn) → P q → Q r → Differ q r) → (xs ys : List FlatEqn) → AllByRecursion P xs → AllByRecursion Q ys → Parted xs → Parted ys → Parted (xs ++ ys)
parted_both P Q f [] ys a b p q = q
parted_both P Q f (x ∷ xs) ys a b p q = (each_both (Differ x) xs ys p.0 (each-other Q (Differ x) (λ r h. f x r a.0 h) ys b), parted_both P Q f xs ys a.1 b p.1 q)

-- ---- steps

-- which variables may be defined on which clocks
abbrev pub Nothing : ℕ → Clock → Type 0
Nothing x clock = ⊥

-- a variable is new
abbrev pub IsNew : Sketch → Sketch → ℕ → Type 0
IsNew d e x = (next d ≤ x) × (x < next e)

abbrev pub Defines : (ℕ → Clock → Type 0) → Sketch → Sketch → FlatEqn → Type 0
Defines May d e q = (x : ℕ) → has q.targets x ≡ true → IsNew d e x ⊎ May x q.clock

-- From one sketch to another: more equations define new variables, or those that they may define, and are apart.
pub record Adds (May : ℕ → Clock → Type 0) (d e : Sketch) : Type 0 where
  pub grown : next d ≤ next e
  pub more : List FlatEqn
  pub eqns : e.eqns ≡ d.eqns ++ more
  pub each : AllByRecursion (Defines May d e) more
  pub parted : Parted more

-- no equation is added
pub bare : (May : ℕ → Clock → Type 0) (d e : Sketch) → next d ≤ next e → e.eqns ≡ d.eqns → Adds May d e
bare May d e l same = record { grown = l; more = []; eqns = same ∙ sym (append-nil d.eqns); each = tt; parted = tt }

pub same : (May : ℕ → Clock → Type 0) (d : Sketch) → Adds May d d
same May d = bare May d d (omega arith) refl

-- two steps, one after the other
pub then-adds : (V W U : ℕ → Clock → Type 0) (d e f : Sketch) → Adds V d e → Adds W e f → ((x : ℕ) (c : Clock) → V x c → (x < next d) × U x c) → ((x : ℕ) (c : Clock) → W x c → (x < next d) × U x c)
    → ((x : ℕ) (b c : Clock) → V x b → W x c → Part b c) → Adds U d f
then-adds V W U d e f a b v w part =
    record {
      grown = let l = a.grown in let m = b.grown in omega (arith, l, m);
      more = a.more ++ b.more;
      eqns = b.eqns ∙ ap (λ es. es ++ b.more) a.eqns ∙ append_assoc d.eqns a.more b.more;
      each = each_both (Defines U d f) a.more b.more (each-other (Defines V d e) (Defines U d f) (λ q h x t. first q x (h x t)) a.more a.each)
          (each-other (Defines W e f) (Defines U d f) (λ q h x t. second q x (h x t)) b.more b.each);
      parted = parted_both (Defines V d e) (Defines W e f) (λ q r h g x t s. differ q r x (h x t) (g x s)) a.more b.more a.each b.each a.parted b.parted;
    }
  where
    first : (q : FlatEqn) (x : ℕ) → IsNew d e x ⊎ V x q.clock → IsNew d f x ⊎ U x q.clock
    first q x (inl n) = let l = n.1 in let m = b.grown in inl (n.0, omega (arith, l, m))
    first q x (inr h) = let g = v x q.clock h in inr g.1

    second : (q : FlatEqn) (x : ℕ) → IsNew e f x ⊎ W x q.clock → IsNew d f x ⊎ U x q.clock
    second q x (inl n) = let l = n.0 in let m = a.grown in inl (omega (arith, l, m), n.1)
    second q x (inr h) = let g = w x q.clock h in inr g.1

    differ : (q r : FlatEqn) (x : ℕ) → IsNew d e x ⊎ V x q.clock → IsNew e f x ⊎ W x r.clock → Part q.clock r.clock
    differ q r x (inl n) (inl m) = let l = n.1 in let u = m.0 in absurd (omega (arith, l, u))
    differ q r x (inl n) (inr h) = let l = n.0 in let g = w x r.clock h in let u = g.0 in absurd (omega (arith, l, u))
    differ q r x (inr h) (inl m) = let l = m.0 in let s = a.grown in let g = v x q.clock h in let u = g.0 in absurd (omega (arith, l, s, u))
    differ q r x (inr h) (inr g) = part x q.clock r.clock h g

-- variables without equations come first
pub behind-bare : (W U : ℕ → Clock → Type 0) (d e f : Sketch) → next d ≤ next e → e.eqns ≡ d.eqns → Adds W e f → ((x : ℕ) (c : Clock) → W x c → IsNew d e x ⊎ U x c) → Adds U d f
behind-bare W U d e f l is b w =
    record {
      grown = let m = b.grown in omega (arith, l, m);
      more = b.more;
      eqns = b.eqns ∙ ap (λ es. es ++ b.more) is;
      each = each-other (Defines W e f) (Defines U d f) (λ q h x t. by q x (h x t)) b.more b.each;
      parted = b.parted;
    }
  where
    named : (q : FlatEqn) (x : ℕ) → IsNew d e x ⊎ U x q.clock → IsNew d f x ⊎ U x q.clock
    named q x (inl n) = let u = n.1 in let m = b.grown in inl (n.0, omega (arith, u, m))
    named q x (inr g) = inr g

    by : (q : FlatEqn) (x : ℕ) → IsNew e f x ⊎ W x q.clock → IsNew d f x ⊎ U x q.clock
    by q x (inl n) = let u = n.0 in inl (omega (arith, l, u), n.1)
    by q x (inr h) = named q x (w x q.clock h)

-- more may be defined
pub wider : (W U : ℕ → Clock → Type 0) (d e : Sketch) → Adds W d e → ((x : ℕ) (c : Clock) → W x c → U x c) → Adds U d e
wider W U d e a w = behind-bare W U d d e (omega arith) refl a (λ x c h. inr (w x c h))

-- only new variables are defined, and then more
pub new-then : (W : ℕ → Clock → Type 0) (d e f : Sketch) → Adds Nothing d e → Adds W e f → ((x : ℕ) (c : Clock) → W x c → x < next d) → Adds W d f
new-then W d e f a b w = then-adds Nothing W W d e f a b (λ x c h. absurd h) (λ x c h. (w x c h, h)) (λ x b c h g. absurd h)

pub both : (d e f : Sketch) → Adds Nothing d e → Adds Nothing e f → Adds Nothing d f
both d e f a b = new-then Nothing d e f a b (λ x c h. absurd h)

-- flags do not matter
pub flagged : (May : ℕ → Clock → Type 0) (d e : Sketch) (f : Option ℕ) → Adds May d e → Adds May d (with_flag f e)
flagged May d e f a = record { grown = a.grown; more = a.more; eqns = a.eqns; each = a.each; parted = a.parted }

pub unflagged : (May : ℕ → Clock → Type 0) (d e : Sketch) (f : Option ℕ) → Adds May (with_flag f d) e → Adds May d e
unflagged May d e f a = record { grown = a.grown; more = a.more; eqns = a.eqns; each = a.each; parted = a.parted }

-- ---- one equation

pub one-adds : (May : ℕ → Clock → Type 0) (at : Site) (targets : List ℕ) (right : Right) (d : Sketch) → ((x : ℕ) → has targets x ≡ true → May x at.clock) → Adds May d (with_eqn at targets right d)
one-adds May at targets right d h =
    record { grown = omega arith; more = record { targets = targets; clock = at.clock; right = right; restart = at.restart; at = 0 } ∷ []; eqns = refl; each = ((λ x t. inr (h x t)), tt); parted = (tt, tt) }

only : (v x : ℕ) → (nat_eq v x || false) ≡ true → x ≡ v
only v x h = by (nat_eq v x) refl h
  where
    by : (b : Bool) → nat_eq v x ≡ b → (b || false) ≡ true → x ≡ v
    by true e h = grind (arith, nat_tests, e)
    by false e h = absurd cc

-- an equation of one variable
pub target-adds : (May : ℕ → Clock → Type 0) (at : Site) (v : ℕ) (right : Right) (d : Sketch) → May v at.clock → Adds May d (with_eqn at (v ∷ []) right d)
target-adds May at v right d h = one-adds May at (v ∷ []) right d (λ x t. subst (λ z. May z at.clock) (sym (only v x t)) h)

pub variable-adds : (x : List ℕ) (t : FlatTy) (d : Sketch) → Adds Nothing d (with_new x t d)
variable-adds x t d = bare Nothing d (with_new x t d) (let l : next (with_new x t d) ≡ next d + 1 = length-append d.variables _ in omega (arith, l)) refl

-- a new variable with its equation
pub named-adds : (at : Site) (x : List ℕ) (t : FlatTy) (right : Right) (d : Sketch) → Adds Nothing d (named_value at x t right d).0
named-adds at x t right d =
    let e = with_new x t d in
    let l : next e ≡ next d + 1 = length-append d.variables _ in
    behind-bare (λ y c. y ≡ next d) Nothing d e (named_value at x t right d).0 (omega (arith, l)) refl (target-adds (λ y c. y ≡ next d) at (next d) right e refl) (λ y c h. inl (omega (arith, h), omega (arith, l, h)))

pub value-adds : (at : Site) (t : FlatTy) (right : Right) (d : Sketch) → Adds Nothing d (value_of at t right d).0
value-adds at t right d = named-adds at (codes "e") t right d

pub read-adds : (at : Site) (o : Option ℕ) (t : FlatTy) (d : Sketch) → Adds Nothing d (read_at at o t d).0
read-adds at o t d = value-adds at t (copy_of (atom_of o)) d

pub flag-adds : (at : Site) (d : Sketch) → Adds Nothing d (flag_at at d).0
flag-adds at d = by (nat_eq (length at.clock) at.base) d.flag
  where
    by : (b : Bool) (f : Option ℕ) → Adds Nothing d (if b then block_flag at f d else new_flag at d).0
    by true None = flagged Nothing d (new_flag at d).0 (Some (new_flag at d).1) (named-adds at (codes "first") flat.Bool _ d)
    by true (Some x) = same Nothing d
    by false f = named-adds at (codes "first") flat.Bool _ d

pub tested-adds : (o : Option ℕ) (d : Sketch) → Adds Nothing d (tested o d).0
tested-adds None d = variable-adds (codes "e") flat.Bool d
tested-adds (Some x) d = same Nothing d

pub merged-adds : (o : Option ℕ) (t : FlatTy) (d : Sketch) → Adds Nothing d (merged_variable o t d).0
merged-adds None t d = variable-adds (codes "e") t d
merged-adds (Some x) t d = same Nothing d

pub first-adds : (at : Site) (os : List Decl) (m : Made) → Adds Nothing m.0 (first_output at os m).0
first-adds at [] m = variable-adds (codes "e") flat.Bool m.0
first-adds at (o ∷ os) m = read-adds at (Some m.1) (type_at m.0 m.1) m.0

-- the outputs of a call
pub numbers-between : (n : ℕ) (os : List Decl) (x : ℕ) → has (numbers_from n os) x ≡ true → (n ≤ x) × (x < n + length os)
numbers-between n [] x h = absurd cc
numbers-between n (o ∷ os) x h = by (nat_eq n x) refl h (λ g. numbers-between (n + 1) os x g)
  where
    by : (b : Bool) → nat_eq n x ≡ b → (b || has (numbers_from (n + 1) os) x) ≡ true → (has (numbers_from (n + 1) os) x ≡ true → (n + 1 ≤ x) × (x < n + 1 + length os)) → (n ≤ x) × (x < n + length (o ∷ os))
    by true e g f = let is : n ≡ x = grind (arith, nat_tests, e) in (omega (arith, is), omega (arith, is))
    by false e g f = let r = f g in let l = r.0 in let u = r.1 in (omega (arith, l), omega (arith, u))

-- ---- equations that are apart define apart

pub part-other : (b c : Clock) → Part b c → Part c b
part-other [] c h = absurd h
part-other (s ∷ b) [] h = absurd h
part-other (s ∷ b) (t ∷ c) h = (sym h.0, by h.1 (λ g. part-other b c g))
  where
    by : (nat_eq s.1 t.1 ≡ false) ⊎ ((s.1 ≡ t.1) × Part b c) → (Part b c → Part c b) → (nat_eq t.1 s.1 ≡ false) ⊎ ((t.1 ≡ s.1) × Part c b)
    by (inl e) f = inl (grind (arith, nat_tests, e))
    by (inr g) f = inr (sym g.0, f g.1)

-- clocks that are one but for the numbers of their last steps
pub part-behind : (clock : Clock) (t i j : ℕ) → nat_eq i j ≡ false → Part (clock ++ (t, i) ∷ []) (clock ++ (t, j) ∷ [])
part-behind [] t i j h = (refl, inl h)
part-behind (s ∷ clock) t i j h = (refl, inr (refl, part-behind clock t i j h))
