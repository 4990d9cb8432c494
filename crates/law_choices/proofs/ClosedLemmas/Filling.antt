-- Sketches whose new variables are all defined by their equations.
use Rattle.std.proofs.Common.{◌≡◌, ◌⊎◌, inl, inr, ℕ, ◌+◌, ◌<◌, ◌≤◌, Bool, true, false, nat_eq, ◌||◌, if◌then◌else◌, List, [], ◌∷◌, ◌++◌, length, Option, None, Some, refl, sym, subst, arith}
use Rattle.std.specs.Prelude.{codes}
use Rattle.std.proofs.lemmas.Bool.{cases_lt, eq-eqb}
use Rattle.std.proofs.lemmas.Bool.Decides.{nat_tests}
use Rattle.std.proofs.lemmas.List.{length-append}
use Rattle.hp_tree.specs.Blocks.{Decl}
use Rattle.hp_flat.specs.declared.node.FlatTy.{FlatTy}
use Rattle.hp_flat.specs.declared.node.FlatTy.TheVariants as flat
use Rattle.hp_flat.specs.Equations.{Right, FlatEqn}
use Rattle.law_equations.specs.Meaning.Reactions.{has}
use Rattle.law_equations.specs.Made.Making.{Sketch, Site, next, with_new, with_eqn, named_value, value_of, read_at, new_flag, block_flag, flag_at, with_flag, atom_of, copy_of, numbers_from, bind}

-- whether some equation defines a variable
abbrev pub is_target : List FlatEqn → ℕ → Bool
is_target [] x = false
is_target (e ∷ es) x = has e.targets x || is_target es x

either_is : (a b : Bool) → b ≡ true → (a || b) ≡ true
either_is true b h = refl
either_is false b h = h

target_left : (es fs : List FlatEqn) (x : ℕ) → is_target es x ≡ true → is_target (es ++ fs) x ≡ true
target_left [] fs x h = absurd cc
target_left (e ∷ es) fs x h = by (has e.targets x) h (target_left es fs x)
  where
    by : (b : Bool) → (b || is_target es x) ≡ true → (is_target es x ≡ true → is_target (es ++ fs) x ≡ true) → (b || is_target (es ++ fs) x) ≡ true
    by true h f = refl
    by false h f = f h

target_last : (es : List FlatEqn) (e : FlatEqn) (x : ℕ) → has e.targets x ≡ true → is_target (es ++ e ∷ []) x ≡ true
target_last [] e x h = by (has e.targets x) h
  where
    by : (b : Bool) → b ≡ true → (b || false) ≡ true
    by true h = refl
    by false h = absurd cc
target_last (q ∷ es) e x h = either_is (has q.targets x) (is_target (es ++ e ∷ []) x) (target_last es e x h)

pub has_one : (v x : ℕ) → v ≡ x → has (v ∷ []) x ≡ true
has_one v x e = by (nat_eq v x) (eq-eqb v x e)
  where
    by : (b : Bool) → b ≡ true → (b || false) ≡ true
    by true e = refl
    by false e = absurd cc

-- ---- steps

-- From one sketch to another: what is defined stays so, and each new variable is defined.
pub record Fills (d e : Sketch) : Type 0 where
  pub grown : next d ≤ next e
  pub kept : (x : ℕ) → is_target d.eqns x ≡ true → is_target e.eqns x ≡ true
  pub fresh : (x : ℕ) → next d ≤ x → x < next e → is_target e.eqns x ≡ true

pub same : (d : Sketch) → Fills d d
same d = record { grown = omega arith; kept = λ x h. h; fresh = λ x l u. absurd (omega (arith, l, u)) }

pub both : (d e f : Sketch) → Fills d e → Fills e f → Fills d f
both d e f a b =
    record {
      grown = let l = a.grown in let m = b.grown in omega (arith, l, m);
      kept = λ x h. b.kept x (a.kept x h);
      fresh = λ x l u. by x l u (cases_lt x (next e));
    }
  where
    by : (x : ℕ) → next d ≤ x → x < next f → (x < next e) ⊎ (next e ≤ x) → is_target f.eqns x ≡ true
    by x l u (inl v) = b.kept x (a.fresh x l v)
    by x l u (inr v) = b.fresh x v u

-- variables without equations come first, and are defined at the end
pub behind_bare : (d e f : Sketch) → next d ≤ next e → e.eqns ≡ d.eqns → Fills e f → ((x : ℕ) → next d ≤ x → x < next e → is_target f.eqns x ≡ true) → Fills d f
behind_bare d e f l is b h =
    record {
      grown = let m = b.grown in omega (arith, l, m);
      kept = λ x g. b.kept x (subst (λ es. is_target es x ≡ true) (sym is) g);
      fresh = λ x v u. by x v u (cases_lt x (next e));
    }
  where
    by : (x : ℕ) → next d ≤ x → x < next f → (x < next e) ⊎ (next e ≤ x) → is_target f.eqns x ≡ true
    by x v u (inl w) = h x v w
    by x v u (inr w) = b.fresh x w u

-- flags do not matter
pub flagged : (d e : Sketch) (f : Option ℕ) → Fills d e → Fills d (with_flag f e)
flagged d e f a = record { grown = a.grown; kept = a.kept; fresh = a.fresh }

pub unflagged : (d e : Sketch) (f : Option ℕ) → Fills (with_flag f d) e → Fills d e
unflagged d e f a = record { grown = a.grown; kept = a.kept; fresh = a.fresh }

-- ---- one equation

pub eqn_fills : (at : Site) (targets : List ℕ) (right : Right) (d : Sketch) → Fills d (with_eqn at targets right d)
eqn_fills at targets right d =
    record {
      grown = omega arith;
      kept = λ x h. target_left d.eqns (record { targets = targets; clock = at.clock; right = right; restart = at.restart; at = 0 } ∷ []) x h;
      fresh = λ x l u. absurd (omega (arith, l, u));
    }

pub eqn_target : (at : Site) (targets : List ℕ) (right : Right) (d : Sketch) (x : ℕ) → has targets x ≡ true → is_target (with_eqn at targets right d).eqns x ≡ true
eqn_target at targets right d x h = target_last d.eqns (record { targets = targets; clock = at.clock; right = right; restart = at.restart; at = 0 }) x h

-- a new variable with its equation
pub named_fills : (at : Site) (x : List ℕ) (t : FlatTy) (right : Right) (d : Sketch) → Fills d (named_value at x t right d).0
named_fills at x t right d =
    let e = with_new x t d in
    let long : next e ≡ next d + 1 = length-append d.variables _ in
    behind_bare d e (named_value at x t right d).0 (omega (arith, long)) refl (eqn_fills at (next d ∷ []) right e)
    (λ y l u. eqn_target at (next d ∷ []) right e y (has_one (next d) y (omega (arith, long, l, u))))

pub value_fills : (at : Site) (t : FlatTy) (right : Right) (d : Sketch) → Fills d (value_of at t right d).0
value_fills at t right d = named_fills at (codes "e") t right d

pub read_fills : (at : Site) (o : Option ℕ) (t : FlatTy) (d : Sketch) → Fills d (read_at at o t d).0
read_fills at o t d = value_fills at t (copy_of (atom_of o)) d

pub flag_fills : (at : Site) (d : Sketch) → Fills d (flag_at at d).0
flag_fills at d = by (nat_eq (length at.clock) at.base) d.flag
  where
    by : (b : Bool) (f : Option ℕ) → Fills d (if b then block_flag at f d else new_flag at d).0
    by true None = flagged d (new_flag at d).0 (Some (new_flag at d).1) (named_fills at (codes "first") flat.Bool _ d)
    by true (Some x) = same d
    by false f = named_fills at (codes "first") flat.Bool _ d

-- a variable that takes a value
pub bind_fills : (at : Site) (o source : Option ℕ) (d : Sketch) → Fills d (bind at o source d)
bind_fills at None source d = same d
bind_fills at (Some x) source d = eqn_fills at (x ∷ []) (copy_of (atom_of source)) d

pub bind_target : (at : Site) (o source : Option ℕ) (d : Sketch) (v : ℕ) → o ≡ Some v → is_target (bind at o source d).eqns v ≡ true
bind_target at o source d v e = subst (λ z. is_target (bind at z source d).eqns v ≡ true) (sym e) (eqn_target at (v ∷ []) (copy_of (atom_of source)) d v (has_one v v refl))

-- the variables from a number on
pub has_numbers : (n : ℕ) (os : List Decl) (x : ℕ) → n ≤ x → x < n + length os → has (numbers_from n os) x ≡ true
has_numbers n [] x l u = absurd (omega (arith, l, u))
has_numbers n (o ∷ os) x l u = by (nat_eq n x) refl (λ m. has_numbers (n + 1) os x m (omega (arith, u)))
  where
    by : (b : Bool) → nat_eq n x ≡ b → (n + 1 ≤ x → has (numbers_from (n + 1) os) x ≡ true) → (b || has (numbers_from (n + 1) os) x) ≡ true
    by true e f = refl
    by false e f = f (later e)
      where
        later : nat_eq n x ≡ false → n + 1 ≤ x
        later e = grind (arith, nat_tests, e, l)
