-- All numbers in the equations that are made of a node are those of its variables: sketches that grow.
use Rattle.std.proofs.Common.{◌≡◌, ℕ, ◌+◌, ◌<◌, ◌≤◌, Bool, true, false, nat_eq, nat_lt, if◌then◌else◌, List, [], ◌∷◌, ◌++◌, length, Option, None, Some, refl, sym, ap, ◌∙◌, arith}
use Rattle.std.specs.Prelude.{All, IfSome, codes}
use Rattle.std.proofs.lemmas.List.{append-nil, append_assoc, length-append}
use Rattle.std.proofs.lemmas.List.Elements.{All-head, All-tail, All-nil, All-cons, All-append, All-weaker}
use Rattle.hp_base.specs.declared.span.Span.{Span}
use Rattle.hp_base.specs.declared.value.Value.{Value}
use Rattle.hp_base.specs.declared.value.Value.TheVariants.{B}
use Rattle.hp_tree.specs.Blocks.{Decl}
use Rattle.hp_flat.specs.declared.equation.Atom.{Atom}
use Rattle.hp_flat.specs.declared.equation.Atom.TheVariants.{Variable, Value as Fixed}
use Rattle.hp_flat.specs.declared.node.FlatTy.{FlatTy}
use Rattle.hp_flat.specs.declared.node.FlatTy.TheVariants as flat
use Rattle.hp_flat.specs.declared.node.Variable.{Variable as VariableData}
use Rattle.hp_flat.specs.Equations.{Right, operator, register, called, FlatEqn}
use Rattle.law_equations.specs.Made.Making.{Sketch, Site, Sight, Layer, Made, next, new_name, with_variable, with_new, new_variable, with_eqn, named_value, value_of, atom_of, copy_of, read_at, mux_at, register_at, type_at, new_flag, keep_flag, block_flag, flag_at, on_site, off_site, front_steps, tested, merged_variable, part_at, output_left, others, numbers_from, with_flag, restart_site, in_block, bind, bind_all, bind_outputs, or_entry, over}
use Rattle.law_equations.specs.Made.Sights.{Entry}
use Rattle.hp_complete.specs.Ranges.{AtomWithin, RightWithin, EqnWithin}

-- ---- more variables

module _ (m n : ℕ) (more : m ≤ n) where
  number_more : (x : ℕ) → x < m → x < n
  number_more x h = omega arith

  some_more : (o : Option ℕ) → IfSome o (λ x. x < m) → IfSome o (λ x. x < n)
  some_more None h = h
  some_more (Some x) h = number_more x h

  atom_more : (a : Atom) → AtomWithin m a → AtomWithin n a
  atom_more (Variable x) h = number_more x h
  atom_more (Fixed v) h = h

  pub atoms_more : (xs : List Atom) → All (AtomWithin m) xs → All (AtomWithin n) xs
  atoms_more xs h = All-weaker (AtomWithin m) (AtomWithin n) atom_more xs h

  numbers_more : (xs : List ℕ) → All (λ x. x < m) xs → All (λ x. x < n) xs
  numbers_more xs h = All-weaker (λ x. x < m) (λ x. x < n) number_more xs h

  clock_more : (ck : List (ℕ × ℕ)) → All (λ s. s.0 < m) ck → All (λ s. s.0 < n) ck
  clock_more ck h = All-weaker (λ (s : ℕ × ℕ). s.0 < m) (λ (s : ℕ × ℕ). s.0 < n) (λ s. number_more s.0) ck h

  right_more : (r : Right) → RightWithin m r → RightWithin n r
  right_more (operator op args) h = atoms_more args h
  right_more (register first x) h = atom_more x h
  right_more (called f args) h = atoms_more args h

  eqn_more : (e : FlatEqn) → EqnWithin m e → EqnWithin n e
  eqn_more e h = record {
    targets = numbers_more e.targets h.targets;
    clock = clock_more e.clock h.clock;
    right = right_more e.right h.right;
    restart = numbers_more e.restart h.restart;
  }

  eqns_more : (es : List FlatEqn) → All (EqnWithin m) es → All (EqnWithin n) es
  eqns_more es h = All-weaker (EqnWithin m) (EqnWithin n) eqn_more es h

-- ---- what is in range

-- what stands for a name is among the first n variables
pub record IsLow (n : ℕ) (e : Entry) : Type 0 where
  pub value : IfSome e.value (λ x. x < n)
  pub last : IfSome e.last (λ x. x < n)

abbrev pub SightLow : ℕ → Sight → Type 0
SightLow n see = (x : List ℕ) → IsLow n (see x)

abbrev pub LayerLow : ℕ → Layer → Type 0
LayerLow n layer = (x : List ℕ) → IfSome (layer x) (IsLow n)

pub record SiteLow (n : ℕ) (at : Site) : Type 0 where
  pub clock : All (λ s. s.0 < n) at.clock
  pub restart : All (λ x. x < n) at.restart

pub record SketchLow (d : Sketch) : Type 0 where
  pub eqns : All (EqnWithin (next d)) d.eqns
  pub flag : IfSome d.flag (λ x. x < next d)

-- where names are seen, the site, and what is made are in range
pub record IsHere (see : Sight) (at : Site) (d : Sketch) : Type 0 where
  pub sight : SightLow (next d) see
  pub site : SiteLow (next d) at
  pub low : SketchLow d

-- From one sketch to another: there are more variables behind the earlier ones, and all is in range.
pub record Grown (d e : Sketch) : Type 0 where
  pub more : List VariableData
  pub variables : e.variables ≡ d.variables ++ more
  pub low : SketchLow e

-- a sketch that has grown, and a number in it
pub record GrownTo (d : Sketch) (m : Made) : Type 0 where
  pub grown : Grown d m.0
  pub number : m.1 < next m.0

pub grown-le : (d e : Sketch) → Grown d e → next d ≤ next e
grown-le d e g =
    let long : length e.variables ≡ length d.variables + length g.more = ap length g.variables ∙ length-append d.variables g.more in
    omega arith

pub grown-same : (d : Sketch) → SketchLow d → Grown d d
grown-same d low = record { more = []; variables = sym (append-nil d.variables); low = low }

pub grown-then : (d e f : Sketch) → Grown d e → Grown e f → Grown d f
grown-then d e f g h = record {
  more = g.more ++ h.more;
  variables = h.variables ∙ ap (λ vs. vs ++ h.more) g.variables ∙ append_assoc d.variables g.more h.more;
  low = h.low;
}

pub grown-to : (d e : Sketch) (m : Made) → Grown d e → GrownTo e m → GrownTo d m
grown-to d e m g h = record { grown = grown-then d e m.0 g h.grown; number = h.number }

low_entry : (m n : ℕ) → m ≤ n → (e : Entry) → IsLow m e → IsLow n e
low_entry m n more e h = record { value = some_more m n more e.value h.value; last = some_more m n more e.last h.last }

low_found : (m n : ℕ) → m ≤ n → (o : Option Entry) → IfSome o (IsLow m) → IfSome o (IsLow n)
low_found m n more None h = h
low_found m n more (Some e) h = low_entry m n more e h

pub sight-later : (d e : Sketch) (see : Sight) → Grown d e → SightLow (next d) see → SightLow (next e) see
sight-later d e see g h x = low_entry (next d) (next e) (grown-le d e g) (see x) (h x)

pub layer-later : (d e : Sketch) (layer : Layer) → Grown d e → LayerLow (next d) layer → LayerLow (next e) layer
layer-later d e layer g h x = low_found (next d) (next e) (grown-le d e g) (layer x) (h x)

pub site-later : (d e : Sketch) (at : Site) → Grown d e → SiteLow (next d) at → SiteLow (next e) at
site-later d e at g h = record {
  clock = clock_more (next d) (next e) (grown-le d e g) at.clock h.clock;
  restart = numbers_more (next d) (next e) (grown-le d e g) at.restart h.restart;
}

pub here-later : (see : Sight) (at : Site) (d e : Sketch) → Grown d e → IsHere see at d → IsHere see at e
here-later see at d e g h = record { sight = sight-later d e see g h.sight; site = site-later d e at g h.site; low = g.low }

pub number-later : (d e : Sketch) (x : ℕ) → Grown d e → x < next d → x < next e
number-later d e x g h = number_more (next d) (next e) (grown-le d e g) x h

pub some-later : (d e : Sketch) (o : Option ℕ) → Grown d e → IfSome o (λ x. x < next d) → IfSome o (λ x. x < next e)
some-later d e o g h = some_more (next d) (next e) (grown-le d e g) o h

-- ---- one more variable, one more equation

pub variable-grown : (x : List ℕ) (t : FlatTy) (d : Sketch) → SketchLow d → GrownTo d (with_variable x t d, next d)
variable-grown x t d low =
    let v : VariableData = record { name = x; ty = t } in
    let long : length (d.variables ++ v ∷ []) ≡ length d.variables + 1 = length-append d.variables (v ∷ []) in
    let more : next d ≤ length (d.variables ++ v ∷ []) = omega arith in
    record {
      grown = record {
        more = v ∷ [];
        variables = refl;
        low = record { eqns = eqns_more (next d) (length (d.variables ++ v ∷ [])) more d.eqns low.eqns; flag = some_more (next d) (length (d.variables ++ v ∷ [])) more d.flag low.flag };
      };
      number = omega arith;
    }

pub new-grown : (x : List ℕ) (t : FlatTy) (d : Sketch) → SketchLow d → GrownTo d (new_variable x t d)
new-grown x t d low = variable-grown (new_name x (next d)) t d low

pub eqn-grown : (at : Site) (targets : List ℕ) (right : Right) (d : Sketch) → SketchLow d → SiteLow (next d) at → All (λ x. x < next d) targets → RightWithin (next d) right → Grown d (with_eqn at targets right d)
eqn-grown at targets right d low site ts r = record {
  more = [];
  variables = sym (append-nil d.variables);
  low = record {
    eqns = All-append (EqnWithin (next d)) d.eqns _ low.eqns (All-cons (EqnWithin (next d)) _ [] (record { targets = ts; clock = site.clock; right = r; restart = site.restart }) (All-nil (EqnWithin (next d))));
    flag = low.flag;
  };
}

one_target : (n x : ℕ) → x < n → All (λ y. y < n) (x ∷ [])
one_target n x h = All-cons (λ y. y < n) x [] h (All-nil (λ y. y < n))

pub target-grown : (at : Site) (x : ℕ) (right : Right) (d : Sketch) → SketchLow d → SiteLow (next d) at → x < next d → RightWithin (next d) right → Grown d (with_eqn at (x ∷ []) right d)
target-grown at x right d low site lt r = eqn-grown at (x ∷ []) right d low site (one_target (next d) x lt) r

pub named-grown : (at : Site) (x : List ℕ) (t : FlatTy) (right : Right) (d : Sketch) → SketchLow d → SiteLow (next d) at → RightWithin (next d) right → GrownTo d (named_value at x t right d)
named-grown at x t right d low site r =
    let v = new-grown x t d low in
    let e = with_new x t d in
    record {
      grown = grown-then d e (with_eqn at (next d ∷ []) right e) v.grown
          (target-grown at (next d) right e v.grown.low (site-later d e at v.grown site) v.number (right_more (next d) (next e) (grown-le d e v.grown) right r));
      number = v.number;
    }

pub value-grown : (at : Site) (t : FlatTy) (right : Right) (d : Sketch) → SketchLow d → SiteLow (next d) at → RightWithin (next d) right → GrownTo d (value_of at t right d)
value-grown at t right d low site r = named-grown at (codes "e") t right d low site r

-- ---- arguments

pub args-one : (n : ℕ) (a : Atom) → AtomWithin n a → All (AtomWithin n) (a ∷ [])
args-one n a h = All-cons (AtomWithin n) a [] h (All-nil (AtomWithin n))

pub args-two : (n x y : ℕ) → x < n → y < n → All (AtomWithin n) (Variable x ∷ Variable y ∷ [])
args-two n x y h g = All-cons (AtomWithin n) (Variable x) (Variable y ∷ []) h (args-one n (Variable y) g)

args_three : (n x y z : ℕ) → x < n → y < n → z < n → All (AtomWithin n) (Variable x ∷ Variable y ∷ Variable z ∷ [])
args_three n x y z h g f = All-cons (AtomWithin n) (Variable x) (Variable y ∷ Variable z ∷ []) h (args-two n y z g f)

atom_low : (n : ℕ) (o : Option ℕ) → IfSome o (λ x. x < n) → AtomWithin n (atom_of o)
atom_low n None h = tt
atom_low n (Some x) h = h

pub copy-low : (n : ℕ) (o : Option ℕ) → IfSome o (λ x. x < n) → RightWithin n (copy_of (atom_of o))
copy-low n o h = args-one n (atom_of o) (atom_low n o h)

pub held-low : (n : ℕ) (v : Value) (o : Option ℕ) → IfSome o (λ x. x < n) → RightWithin n (register v (atom_of o))
held-low n v o h = atom_low n o h

pub read-grown : (at : Site) (o : Option ℕ) (t : FlatTy) (d : Sketch) → SketchLow d → SiteLow (next d) at → IfSome o (λ x. x < next d) → GrownTo d (read_at at o t d)
read-grown at o t d low site h = value-grown at t (copy_of (atom_of o)) d low site (copy-low (next d) o h)

pub mux-grown : (at : Site) (c a b : ℕ) (d : Sketch) → SketchLow d → SiteLow (next d) at → c < next d → a < next d → b < next d → GrownTo d (mux_at at c a b d)
mux-grown at c a b d low site h g f = value-grown at (type_at d a) _ d low site (args_three (next d) c a b h g f)

pub register-grown : (at : Site) (v : Value) (x : ℕ) (d : Sketch) → SketchLow d → SiteLow (next d) at → x < next d → GrownTo d (register_at at v x d)
register-grown at v x d low site h = value-grown at (type_at d x) (register v (Variable x)) d low site h

-- ---- flags

new_flag_grown : (at : Site) (d : Sketch) → SketchLow d → SiteLow (next d) at → GrownTo d (new_flag at d)
new_flag_grown at d low site = named-grown at (codes "first") flat.Bool (register (B true) (Fixed (B false))) d low site tt

kept_flag : (d : Sketch) (m : Made) → GrownTo d m → GrownTo d (keep_flag m)
kept_flag d m g = record { grown = record { more = g.grown.more; variables = g.grown.variables; low = record { eqns = g.grown.low.eqns; flag = g.number } }; number = g.number }

block_flag_grown : (at : Site) (o : Option ℕ) (d : Sketch) → SketchLow d → SiteLow (next d) at → IfSome o (λ x. x < next d) → GrownTo d (block_flag at o d)
block_flag_grown at None d low site h = kept_flag d (new_flag at d) (new_flag_grown at d low site)
block_flag_grown at (Some x) d low site h = record { grown = grown-same d low; number = h }

pub flag-grown : (at : Site) (d : Sketch) → SketchLow d → SiteLow (next d) at → GrownTo d (flag_at at d)
flag-grown at d low site = by (nat_eq (length at.clock) at.base)
  where
    by : (b : Bool) → GrownTo d (if b then block_flag at d.flag d else new_flag at d)
    by true = block_flag_grown at d.flag d low site low.flag
    by false = new_flag_grown at d low site

pub with_flag-grown : (d e : Sketch) (f : Option ℕ) → Grown d e → IfSome f (λ x. x < next e) → Grown d (with_flag f e)
with_flag-grown d e f g h = record { more = g.more; variables = g.variables; low = record { eqns = g.low.eqns; flag = h } }

pub fresh-low : (d : Sketch) → SketchLow d → SketchLow (with_flag None d)
fresh-low d low = record { eqns = low.eqns; flag = tt }

-- ---- sites

pub on-low : (n : ℕ) (at : Site) (x c : ℕ) → SiteLow n at → x < n → SiteLow n (on_site at x c)
on-low n at x c h lt = record {
  clock = All-append (λ (s : ℕ × ℕ). s.0 < n) at.clock ((x, c) ∷ []) h.clock (All-cons (λ (s : ℕ × ℕ). s.0 < n) (x, c) [] lt (All-nil (λ (s : ℕ × ℕ). s.0 < n)));
  restart = h.restart;
}

front_low : (n : ℕ) (ck : List (ℕ × ℕ)) → All (λ s. s.0 < n) ck → All (λ s. s.0 < n) (front_steps ck)
front_low n [] h = h
front_low n (s ∷ []) h = All-nil (λ (t : ℕ × ℕ). t.0 < n)
front_low n (s ∷ t ∷ ck) h =
    All-cons (λ (u : ℕ × ℕ). u.0 < n) s (front_steps (t ∷ ck)) (All-head (λ (u : ℕ × ℕ). u.0 < n) s (t ∷ ck) h) (front_low n (t ∷ ck) (All-tail (λ (u : ℕ × ℕ). u.0 < n) s (t ∷ ck) h))

pub off-low : (n : ℕ) (at : Site) → SiteLow n at → SiteLow n (off_site at)
off-low n at h = record { clock = by (nat_lt at.base (length at.clock)); restart = h.restart }
  where
    by : (b : Bool) → All (λ s. s.0 < n) (if b then front_steps at.clock else at.clock)
    by true = front_low n at.clock h.clock
    by false = h.clock

pub restart-low : (n : ℕ) (at : Site) (x : ℕ) → SiteLow n at → x < n → SiteLow n (restart_site at x)
restart-low n at x h lt = record { clock = h.clock; restart = All-append (λ y. y < n) at.restart (x ∷ []) h.restart (one_target n x lt) }

pub block-low : (n : ℕ) (at : Site) → SiteLow n at → SiteLow n (in_block at)
block-low n at h = record { clock = h.clock; restart = h.restart }

-- ---- variables that are tested or merged

pub tested-grown : (o : Option ℕ) (d : Sketch) → SketchLow d → IfSome o (λ x. x < next d) → GrownTo d (tested o d)
tested-grown None d low h = new-grown (codes "e") flat.Bool d low
tested-grown (Some x) d low h = record { grown = grown-same d low; number = h }

pub merged-grown : (o : Option ℕ) (t : FlatTy) (d : Sketch) → SketchLow d → IfSome o (λ x. x < next d) → GrownTo d (merged_variable o t d)
merged-grown None t d low h = new-grown (codes "e") t d low
merged-grown (Some x) t d low h = record { grown = grown-same d low; number = h }

pub part-grown : (at : Site) (o : Option ℕ) (e : Made) → SketchLow e.0 → SiteLow (next e.0) at → e.1 < next e.0 → IfSome o (λ x. x < next e.0) → GrownTo e.0 (part_at at o e)
part-grown at o e low site h g =
    let v = merged-grown o (type_at e.0 e.1) e.0 low g in
    let m = merged_variable o (type_at e.0 e.1) e.0 in
    record {
      grown = grown-then e.0 m.0 (with_eqn at (m.1 ∷ []) (copy_of (Variable e.1)) m.0) v.grown
          (target-grown at m.1 (copy_of (Variable e.1)) m.0 v.grown.low (site-later e.0 m.0 at v.grown site) v.number (copy-low (next m.0) (Some e.1) (number-later e.0 m.0 e.1 v.grown h)));
      number = v.number;
    }

-- ---- what is bound

pub bind-grown : (at : Site) (o source : Option ℕ) (d : Sketch) → SketchLow d → SiteLow (next d) at → IfSome o (λ x. x < next d) → IfSome source (λ x. x < next d) → Grown d (bind at o source d)
bind-grown at None source d low site h g = grown-same d low
bind-grown at (Some x) source d low site h g = target-grown at x (copy_of (atom_of source)) d low site h (copy-low (next d) source g)

pub bind-all-grown : (see : Sight) (at : Site) (ys : List (List ℕ × Span)) (x : ℕ) (d : Sketch) → IsHere see at d → x < next d → Grown d (bind_all see at ys x d)
bind-all-grown see at [] x d h lt = grown-same d h.low
bind-all-grown see at (y ∷ ys) x d h lt =
    let e = bind at (see y.0).value (Some x) d in
    let g = bind-grown at (see y.0).value (Some x) d h.low h.site (h.sight y.0).value lt in
    grown-then d e (bind_all see at ys x e) g (bind-all-grown see at ys x e (here-later see at d e g h) (number-later d e x g lt))

-- so many outputs are left from a number on
abbrev pub OutputsLow : ℕ → ℕ → List Decl → Type 0
OutputsLow n m [] = Unit {0}
OutputsLow n m (o ∷ os) = (m < n) × OutputsLow n (m + 1) os

first_left : (n m : ℕ) (os : List Decl) → OutputsLow n m os → IfSome (output_left m os) (λ x. x < n)
first_left n m [] h = tt
first_left n m (o ∷ os) h = h.0

rest_left : (n m : ℕ) (os : List Decl) → OutputsLow n m os → OutputsLow n (m + 1) (others os)
rest_left n m [] h = tt
rest_left n m (o ∷ os) h = h.1

pub outputs-later : (n l m : ℕ) (os : List Decl) → n ≤ l → OutputsLow n m os → OutputsLow l m os
outputs-later n l m [] le h = tt
outputs-later n l m (o ∷ os) le h = (number_more n l le m h.0, outputs-later n l (m + 1) os le h.1)

pub bind-outputs-grown : (see : Sight) (at : Site) (ys : List (List ℕ × Span)) (m : ℕ) (os : List Decl) (d : Sketch) → IsHere see at d → OutputsLow (next d) m os → Grown d (bind_outputs see at ys m os d)
bind-outputs-grown see at [] m os d h o = grown-same d h.low
bind-outputs-grown see at (y ∷ ys) m os d h o =
    let e = bind at (see y.0).value (output_left m os) d in
    let g = bind-grown at (see y.0).value (output_left m os) d h.low h.site (h.sight y.0).value (first_left (next d) m os o) in
    grown-then d e (bind_outputs see at ys (m + 1) (others os) e) g
    (bind-outputs-grown see at ys (m + 1) (others os) e (here-later see at d e g h) (rest_left (next e) m os (outputs-later (next d) (next e) m os (grown-le d e g) o)))

pub numbers-low : (n m : ℕ) (os : List Decl) → OutputsLow n m os → All (λ x. x < n) (numbers_from m os)
numbers-low n m [] h = All-nil (λ x. x < n)
numbers-low n m (o ∷ os) h = All-cons (λ x. x < n) m (numbers_from (m + 1) os) h.0 (numbers-low n (m + 1) os h.1)

-- ---- layers

over_by : (n : ℕ) (o : Option Entry) (e : Entry) → IfSome o (IsLow n) → IsLow n e → IsLow n (or_entry o e)
over_by n None e h g = g
over_by n (Some f) e h g = h

pub over-low : (n : ℕ) (layer : Layer) (out : Sight) → LayerLow n layer → SightLow n out → SightLow n (over layer out)
over-low n layer out h g x = over_by n (layer x) (out x) (h x) (g x)
