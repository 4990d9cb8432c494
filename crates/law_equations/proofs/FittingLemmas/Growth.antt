-- Sketches grow by variables with new names, and by equations whose targets differ.
use Rattle.std.proofs.Common.{◌≡◌, ℕ, suc, ◌+◌, ◌<◌, Bool, true, false, nat_eq, if◌then◌else◌, List, [], ◌∷◌, ◌++◌, length, Option, None, Some, refl, sym, ap, subst, ◌∙◌, arith}
use Rattle.std.specs.Prelude.{codes}
use Rattle.std.specs.List.{AllByRecursion, IsDistinct}
use Rattle.std.proofs.lemmas.Bool.Decides.{nat_tests}
use Rattle.std.proofs.lemmas.List.{append-nil, append_assoc, length-append}
use Rattle.hp_base.specs.declared.span.Span.{Span}
use Rattle.hp_tree.specs.Blocks.{Decl}
use Rattle.hp_flat.specs.declared.node.FlatTy.{FlatTy}
use Rattle.hp_flat.specs.declared.node.FlatTy.TheVariants as flat
use Rattle.hp_flat.specs.declared.node.Variable.{Variable as VariableData}
use Rattle.hp_flat.specs.Equations.{Right, FlatEqn}
use Rattle.law_equations.specs.Made.Making.{Sketch, Site, Sight, Made, next, new_name, with_new, with_eqn, named_value, value_of, read_at, new_flag, block_flag, flag_at, tested, merged_variable, part_at, type_at, output_left, others, numbers_from, first_output, with_flag, atom_of, copy_of, bind, bind_all, bind_outputs}

-- ---- new names

abbrev pub IsNew : ℕ → VariableData → Type 0
IsNew n v = (x : List ℕ) × (v.name ≡ new_name x n)

-- each variable has a new name, with its number
abbrev pub AreNew : ℕ → List VariableData → Type 0
AreNew n [] = Unit {0}
AreNew n (v ∷ vs) = IsNew n v × AreNew (n + 1) vs

new_both : (n : ℕ) (xs ys : List VariableData) → AreNew n xs → AreNew (n + length xs) ys → AreNew n (xs ++ ys)
new_both n [] ys h g = let same : n + 0 ≡ n = omega arith in subst (λ m. AreNew m ys) same g
new_both n (v ∷ xs) ys h g = let same : n + suc (length xs) ≡ n + 1 + length xs = omega arith in (h.0, new_both (n + 1) xs ys h.1 (subst (λ m. AreNew m ys) same g))

-- ---- targets

abbrev pub IsApart : FlatEqn → Type 0
IsApart e = IsDistinct nat_eq e.targets

abbrev pub AllApart : Sketch → Type 0
AllApart d = AllByRecursion IsApart d.eqns

one_more : (es : List FlatEqn) (e : FlatEqn) → AllByRecursion IsApart es → IsApart e → AllByRecursion IsApart (es ++ e ∷ [])
one_more [] e a h = (h, tt)
one_more (f ∷ es) e a h = (a.0, one_more es e a.1 h)

one_apart : (v : ℕ) → IsDistinct nat_eq (v ∷ [])
unfolding IsDistinct
one_apart v = (tt, tt)

not_same : (m n : ℕ) → m < n → nat_eq m n ≡ false
not_same m n h = grind (arith, nat_tests)

numbers_above : (m n : ℕ) (os : List Decl) → m < n → AllByRecursion (λ y. nat_eq m y ≡ false) (numbers_from n os)
numbers_above m n [] h = tt
numbers_above m n (o ∷ os) h = (not_same m n h, numbers_above m (n + 1) os (omega arith))

numbers_apart : (n : ℕ) (os : List Decl) → IsDistinct nat_eq (numbers_from n os)
unfolding IsDistinct
numbers_apart n [] = tt
numbers_apart n (o ∷ os) = (numbers_above n (n + 1) os (omega arith), numbers_apart (n + 1) os)

-- ---- steps

-- From one sketch to another: more variables have new names, and the targets of equations still differ.
pub record Grown (d e : Sketch) : Type 0 where
  pub more : List VariableData
  pub variables : e.variables ≡ d.variables ++ more
  pub named : AreNew (next d) more
  pub apart : AllApart d → AllApart e

pub same : (d : Sketch) → Grown d d
same d = record { more = []; variables = sym (append-nil d.variables); named = tt; apart = λ a. a }

pub both : (d e f : Sketch) → Grown d e → Grown e f → Grown d f
both d e f g h =
    let long : next e ≡ next d + length g.more = ap length g.variables ∙ length-append d.variables g.more in
    record {
      more = g.more ++ h.more;
      variables = h.variables ∙ ap (λ vs. vs ++ h.more) g.variables ∙ append_assoc d.variables g.more h.more;
      named = new_both (next d) g.more h.more g.named (subst (λ m. AreNew m h.more) long h.named);
      apart = λ a. h.apart (g.apart a);
    }

pub new-grown : (x : List ℕ) (t : FlatTy) (d : Sketch) → Grown d (with_new x t d)
new-grown x t d = record { more = record { name = new_name x (next d); ty = t } ∷ []; variables = refl; named = ((x, refl), tt); apart = λ a. a }

eqn_grown : (at : Site) (targets : List ℕ) (right : Right) (d : Sketch) → IsDistinct nat_eq targets → Grown d (with_eqn at targets right d)
eqn_grown at targets right d h = record { more = []; variables = sym (append-nil d.variables); named = tt; apart = λ a. one_more d.eqns _ a h }

pub target-grown : (at : Site) (v : ℕ) (right : Right) (d : Sketch) → Grown d (with_eqn at (v ∷ []) right d)
target-grown at v right d = eqn_grown at (v ∷ []) right d (one_apart v)

pub outputs-grown : (at : Site) (n : ℕ) (os : List Decl) (right : Right) (d : Sketch) → Grown d (with_eqn at (numbers_from n os) right d)
outputs-grown at n os right d = eqn_grown at (numbers_from n os) right d (numbers_apart n os)

pub named-grown : (at : Site) (x : List ℕ) (t : FlatTy) (right : Right) (d : Sketch) → Grown d (named_value at x t right d).0
named-grown at x t right d = both d (with_new x t d) (named_value at x t right d).0 (new-grown x t d) (target-grown at (next d) right (with_new x t d))

pub value-grown : (at : Site) (t : FlatTy) (right : Right) (d : Sketch) → Grown d (value_of at t right d).0
value-grown at t right d = named-grown at (codes "e") t right d

pub read-grown : (at : Site) (o : Option ℕ) (t : FlatTy) (d : Sketch) → Grown d (read_at at o t d).0
read-grown at o t d = value-grown at t (copy_of (atom_of o)) d

pub flagged : (d e : Sketch) (f : Option ℕ) → Grown d e → Grown d (with_flag f e)
flagged d e f g = record { more = g.more; variables = g.variables; named = g.named; apart = g.apart }

pub unflagged : (d e : Sketch) (f : Option ℕ) → Grown (with_flag f d) e → Grown d e
unflagged d e f g = record { more = g.more; variables = g.variables; named = g.named; apart = g.apart }

new_flag_grown : (at : Site) (d : Sketch) → Grown d (new_flag at d).0
new_flag_grown at d = named-grown at (codes "first") flat.Bool _ d

pub flag-grown : (at : Site) (d : Sketch) → Grown d (flag_at at d).0
flag-grown at d = by (nat_eq (length at.clock) at.base) d.flag
  where
    by : (b : Bool) (f : Option ℕ) → Grown d (if b then block_flag at f d else new_flag at d).0
    by true None = flagged d (new_flag at d).0 (Some (new_flag at d).1) (new_flag_grown at d)
    by true (Some x) = same d
    by false f = new_flag_grown at d

pub tested-grown : (o : Option ℕ) (d : Sketch) → Grown d (tested o d).0
tested-grown None d = new-grown (codes "e") flat.Bool d
tested-grown (Some x) d = same d

pub merged-grown : (o : Option ℕ) (t : FlatTy) (d : Sketch) → Grown d (merged_variable o t d).0
merged-grown None t d = new-grown (codes "e") t d
merged-grown (Some x) t d = same d

pub part-grown : (at : Site) (o : Option ℕ) (e : Made) → Grown e.0 (part_at at o e).0
part-grown at o e =
    let m = merged_variable o (type_at e.0 e.1) e.0 in
    both e.0 m.0 (part_at at o e).0 (merged-grown o (type_at e.0 e.1) e.0) (target-grown at m.1 _ m.0)

pub first-grown : (at : Site) (os : List Decl) (m : Made) → Grown m.0 (first_output at os m).0
first-grown at [] m = new-grown (codes "e") flat.Bool m.0
first-grown at (o ∷ os) m = read-grown at (Some m.1) (type_at m.0 m.1) m.0

-- ---- what is bound

pub bind-grown : (at : Site) (o source : Option ℕ) (d : Sketch) → Grown d (bind at o source d)
bind-grown at None source d = same d
bind-grown at (Some x) source d = target-grown at x (copy_of (atom_of source)) d

pub bind-all-grown : (see : Sight) (at : Site) (ys : List (List ℕ × Span)) (x : ℕ) (d : Sketch) → Grown d (bind_all see at ys x d)
bind-all-grown see at [] x d = same d
bind-all-grown see at (y ∷ ys) x d =
    let e = bind at (see y.0).value (Some x) d in
    both d e (bind_all see at ys x e) (bind-grown at (see y.0).value (Some x) d) (bind-all-grown see at ys x e)

pub bind-outputs-grown : (see : Sight) (at : Site) (ys : List (List ℕ × Span)) (m : ℕ) (os : List Decl) (d : Sketch) → Grown d (bind_outputs see at ys m os d)
bind-outputs-grown see at [] m os d = same d
bind-outputs-grown see at (y ∷ ys) m os d =
    let e = bind at (see y.0).value (output_left m os) d in
    both d e (bind_outputs see at ys (m + 1) (others os) e) (bind-grown at (see y.0).value (output_left m os) d) (bind-outputs-grown see at ys (m + 1) (others os) e)
