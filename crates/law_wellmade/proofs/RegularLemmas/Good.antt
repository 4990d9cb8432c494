-- Equations of a sketch whose types agree but for the size of integers, and steps that keep them so.
use Rattle.std.proofs.Common.{◌≡◌, ℕ, zero, suc, ◌<◌, Bool, true, false, ◌==◌, nat_eq, nat_lt, if◌then◌else◌, List, [], ◌∷◌, ◌++◌, length, map, Option, None, Some, refl, sym, ap, subst, arith}
use Rattle.std.specs.Prelude.{⊤, codes, slice_get}
use Rattle.std.specs.List.{AllByRecursion}
use Rattle.std.proofs.lemmas.Bool.Decides.{nat_tests}
use Rattle.hp_base.specs.Kinds.{KindData, Bools, Ints, Constructors}
use Rattle.hp_base.specs.declared.value.Value.{Value}
use Rattle.hp_base.specs.declared.value.Value.TheVariants.{Absent, Nil, B, E, I, Star}
use Rattle.hp_obc.specs.Form.{same_kind, result_kind}
use Rattle.hp_obc.specs.Machines.{ObcType}
use Rattle.hp_obc.specs.declared.command.ObcOp.TheVariants.{Mux}
use Rattle.hp_tree.specs.Blocks.{Decl}
use Rattle.hp_tree.specs.Programs.{Node}
use Rattle.hp_flat.specs.declared.equation.Atom.{Atom}
use Rattle.hp_flat.specs.declared.equation.Atom.TheVariants.{Variable as Named, Value as Fixed}
use Rattle.hp_flat.specs.declared.node.FlatTy.{FlatTy}
use Rattle.hp_flat.specs.declared.node.FlatTy.TheVariants as flat
use Rattle.hp_flat.specs.declared.node.Variable.{Variable as VariableData}
use Rattle.hp_flat.specs.Equations.{Clock, Right, operator, register, called, FlatEqn}
use Rattle.law_equations.specs.Meaning.Kinding.{kind_of_type, HasValue}
use Rattle.hp_toobc.specs.Tables.{width_of}
use Rattle.law_equations.specs.Made.Making.{Known, Sketch, Site, next, new_name, flat_type, outputs_of, type_of_value, with_variable, with_new, with_eqn, named_value, value_of, read_at, mux_at, register_at, type_at, copy_of, new_flag, block_flag, flag_at, on_site, off_site, restart_site, front_steps, with_flag}
use Rattle.law_wellmade.proofs.BegunLemmas.Keeping.{HasType, type_is, retyped, Keeps, moved, variable_typed}

pub longer : {A : Type 0} (xs ys : List A) (i : ℕ) (v : A) → slice_get xs i ≡ Some v → slice_get (xs ++ ys) i ≡ Some v
longer [] ys i v h = absurd (cc)
longer (x ∷ xs) ys zero v h = h
longer (x ∷ xs) ys (suc i) v h = longer xs ys i v h

pub each_append : {A : Type 0} (P : A → Type 0) (xs ys : List A) → AllByRecursion P xs → AllByRecursion P ys → AllByRecursion P (xs ++ ys)
each_append P [] ys h k = k
each_append P (x ∷ xs) ys h k = (h.0, each_append P xs ys h.1 k)

pub each_at : {A : Type 0} (P : A → Type 0) (xs : List A) (i : ℕ) (v : A) → slice_get xs i ≡ Some v → AllByRecursion P xs → P v
each_at P [] i v h a = absurd (cc)
each_at P (x ∷ xs) zero v h a = let e : x ≡ v = cc in subst P e a.0
each_at P (x ∷ xs) (suc i) v h a = each_at P xs i v h a.1

-- the variable of a number, if there is one, has a type
abbrev pub IsSeen : Sketch → Option ℕ → FlatTy → Type 0
IsSeen d o t = (y : ℕ) × (o ≡ Some y) × HasType d y t

pub seen_moved : (d e : Sketch) (o : Option ℕ) (t : FlatTy) → Keeps d e → IsSeen d o t → IsSeen e o t
seen_moved d e o t k h = (h.0, h.1, moved d e h.0 t k h.2)

-- variables have types, one for each
abbrev pub HaveTypes : Sketch → List ℕ → List FlatTy → Type 0
HaveTypes d [] [] = ⊤
HaveTypes d (x ∷ xs) (t ∷ ts) = HasType d x t × HaveTypes d xs ts
HaveTypes d xs ts = ⊥

pub have_moved : (d e : Sketch) (xs : List ℕ) (ts : List FlatTy) → Keeps d e → HaveTypes d xs ts → HaveTypes e xs ts
have_moved d e [] [] k h = tt
have_moved d e [] (t ∷ ts) k h = absurd h
have_moved d e (x ∷ xs) [] k h = absurd h
have_moved d e (x ∷ xs) (t ∷ ts) k h = (moved d e x t k h.0, have_moved d e xs ts k h.1)

-- the flag of a block, if there is one, is a truth value
abbrev pub FlagGood : Sketch → Option ℕ → Type 0
FlagGood d None = ⊤
FlagGood d (Some x) = HasType d x flat.Bool

flag_moved : (d e : Sketch) (f : Option ℕ) → Keeps d e → FlagGood d f → FlagGood e f
flag_moved d e None k h = tt
flag_moved d e (Some x) k h = moved d e x flat.Bool k h

-- what makes an equation begin anew is a truth value
abbrev pub RestartGood : Sketch → List ℕ → Type 0
RestartGood d xs = AllByRecursion (λ x. HasType d x flat.Bool) xs

pub restart_moved : (d e : Sketch) (xs : List ℕ) → Keeps d e → RestartGood d xs → RestartGood e xs
restart_moved d e [] k h = tt
restart_moved d e (x ∷ xs) k h = (moved d e x flat.Bool k h.0, restart_moved d e xs k h.1)

-- a register has the type of the variable that it takes
pub register_typed : (at : Site) (v : Value) (x : ℕ) (t : FlatTy) (d : Sketch) → HasType d x t → HasType (register_at at v x d).0 (register_at at v x d).1 t
register_typed at v x t d h = retyped (with_new (codes "e") (type_at d x) d) (next d) (type_at d x) t (variable_typed (new_name (codes "e") (next d)) (type_at d x) d) (type_is d x t h)

-- the types of declarations
abbrev pub types_of_decls : Known → List Decl → List FlatTy
types_of_decls k [] = []
types_of_decls k (d ∷ ds) = flat_type k.types d.ty ∷ types_of_decls k ds

abbrev pub inputs_of : Option Node → List Decl
inputs_of None = []
inputs_of (Some n) = n.inputs

same_number : (n : ℕ) → (n == n) ≡ true
same_number n = grind (arith, nat_tests)

pub same_itself : (k : KindData) → same_kind k k ≡ true
same_itself Bools = refl
same_itself Ints = refl
same_itself (Constructors n xs) = same_number n

module _ (types : List ObcType) where
  abbrev pub kind : FlatTy → KindData
  kind t = kind_of_type types t

  -- a value is of a type, whatever the size of integers
  abbrev pub IsValue : FlatTy → Value → Type 0
  IsValue flat.Bool (B b) = ⊤
  IsValue flat.Int (I n) = ⊤
  IsValue (flat.Enum t) (E u c) = (u ≡ t) × (c < width_of types (flat.Enum t))
  IsValue t v = ⊥

  pub of_own_type : (t : FlatTy) (v : Value) → IsValue t v → IsValue (type_of_value v) v
  of_own_type flat.Bool (B b) h = tt
  of_own_type flat.Int (I n) h = tt
  of_own_type (flat.Enum t) (E u c) h = (refl, subst (λ z. c < width_of types (flat.Enum z)) (sym h.0) h.1)
  of_own_type flat.Bool (I n) h = absurd h
  of_own_type flat.Bool (E u c) h = absurd h
  of_own_type flat.Bool Absent h = absurd h
  of_own_type flat.Bool Nil h = absurd h
  of_own_type flat.Bool Star h = absurd h
  of_own_type flat.Int (B b) h = absurd h
  of_own_type flat.Int (E u c) h = absurd h
  of_own_type flat.Int Absent h = absurd h
  of_own_type flat.Int Nil h = absurd h
  of_own_type flat.Int Star h = absurd h
  of_own_type (flat.Enum t) (B b) h = absurd h
  of_own_type (flat.Enum t) (I n) h = absurd h
  of_own_type (flat.Enum t) Absent h = absurd h
  of_own_type (flat.Enum t) Nil h = absurd h
  of_own_type (flat.Enum t) Star h = absurd h

  above_zero : (c n : ℕ) → c < n → 0 < n
  above_zero c n h = omega (arith, h)

  -- a type of which there is a value has one
  pub has_value : (t : FlatTy) (v : Value) → IsValue t v → HasValue types t
  has_value flat.Bool v h = tt
  has_value flat.Int v h = tt
  has_value (flat.Enum t) (E u c) h = above_zero c (width_of types (flat.Enum t)) h.1
  has_value (flat.Enum t) (B b) h = absurd h
  has_value (flat.Enum t) (I n) h = absurd h
  has_value (flat.Enum t) Absent h = absurd h
  has_value (flat.Enum t) Nil h = absurd h
  has_value (flat.Enum t) Star h = absurd h

  -- ---- types of what gives values

  -- a variable or a constant is of a type
  abbrev pub AtomTyped : Sketch → Atom → FlatTy → Type 0
  AtomTyped d (Named x) t = HasType d x t
  AtomTyped d (Fixed v) t = IsValue t v

  abbrev pub ArgsTyped : Sketch → List Atom → List FlatTy → Type 0
  ArgsTyped d [] [] = ⊤
  ArgsTyped d (a ∷ args) (t ∷ ts) = AtomTyped d a t × ArgsTyped d args ts
  ArgsTyped d args ts = ⊥

  -- each variable of a clock has a type with that constructor
  abbrev pub ClockGood : Sketch → Clock → Type 0
  ClockGood d [] = ⊤
  ClockGood d (on ∷ clock) = ((t : FlatTy) × HasType d on.0 t × (on.1 < width_of types t)) × ClockGood d clock

  -- where equations are made
  abbrev pub SiteGood : Sketch → Site → Type 0
  SiteGood d at = ClockGood d at.clock × RestartGood d at.restart

  -- ---- what is kept

  clock_moved : (d e : Sketch) (clock : Clock) → Keeps d e → ClockGood d clock → ClockGood e clock
  clock_moved d e [] k h = tt
  clock_moved d e (on ∷ clock) k h = ((h.0.0, moved d e on.0 h.0.0 k h.0.1, h.0.2), clock_moved d e clock k h.1)

  pub site_moved : (d e : Sketch) (at : Site) → Keeps d e → SiteGood d at → SiteGood e at
  site_moved d e at k h = (clock_moved d e at.clock k h.0, restart_moved d e at.restart k h.1)

  atom_moved : (d e : Sketch) (a : Atom) (t : FlatTy) → Keeps d e → AtomTyped d a t → AtomTyped e a t
  atom_moved d e (Named x) t k h = moved d e x t k h
  atom_moved d e (Fixed v) t k h = h

  pub args_moved : (d e : Sketch) (args : List Atom) (ts : List FlatTy) → Keeps d e → ArgsTyped d args ts → ArgsTyped e args ts
  args_moved d e [] [] k h = tt
  args_moved d e [] (t ∷ ts) k h = absurd h
  args_moved d e (a ∷ args) [] k h = absurd h
  args_moved d e (a ∷ args) (t ∷ ts) k h = (atom_moved d e a t k h.0, args_moved d e args ts k h.1)

  -- ---- sites

  clock_more : (d : Sketch) (clock : Clock) (x c : ℕ) (t : FlatTy) → ClockGood d clock → HasType d x t → c < width_of types t → ClockGood d (clock ++ (x, c) ∷ [])
  clock_more d [] x c t h v l = ((t, v, l), tt)
  clock_more d (on ∷ clock) x c t h v l = (h.0, clock_more d clock x c t h.1 v l)

  pub on_good : (d : Sketch) (at : Site) (x c : ℕ) (t : FlatTy) → SiteGood d at → HasType d x t → c < width_of types t → SiteGood d (on_site at x c)
  on_good d at x c t h v l = (clock_more d at.clock x c t h.0 v l, h.1)

  pub restart_good : (d : Sketch) (at : Site) (x : ℕ) → SiteGood d at → HasType d x flat.Bool → SiteGood d (restart_site at x)
  restart_good d at x h v = (h.0, each_append (λ y. HasType d y flat.Bool) at.restart (x ∷ []) h.1 (v, tt))

  front_good : (d : Sketch) (clock : Clock) → ClockGood d clock → ClockGood d (front_steps clock)
  front_good d [] h = tt
  front_good d (s ∷ []) h = tt
  front_good d (s ∷ t ∷ clock) h = (h.0, front_good d (t ∷ clock) h.1)

  pub off_good : (d : Sketch) (at : Site) → SiteGood d at → SiteGood d (off_site at)
  off_good d at h = (by (nat_lt at.base (length at.clock)), h.1)
    where
      by : (b : Bool) → ClockGood d (if b then front_steps at.clock else at.clock)
      by true = front_good d at.clock h.0
      by false = h.0

  module _ (k : Known) where
    -- what gives values gives values of some types; a call is given the inputs of its node
    abbrev pub RightTyped : Sketch → Right → List FlatTy → Type 0
    RightTyped d (operator op args) ts = (us : List FlatTy) × ArgsTyped d args us × (t : FlatTy) × (result_kind op (map kind us) ≡ Some (kind t)) × (ts ≡ t ∷ [])
    RightTyped d (register first next) ts = (t : FlatTy) × IsValue t first × AtomTyped d next t × (ts ≡ t ∷ [])
    RightTyped d (called f args) ts = ArgsTyped d args (types_of_decls k (inputs_of (k.nodes f))) × (ts ≡ types_of_decls k (outputs_of (k.nodes f)))

    pub record EqnGood (d : Sketch) (e : FlatEqn) : Type 0 where
      pub clock : ClockGood d e.clock
      pub restart : RestartGood d e.restart
      pub given : List FlatTy
      pub targets : HaveTypes d e.targets given
      pub right : RightTyped d e.right given

    pub record Good (d : Sketch) : Type 0 where
      pub eqns : AllByRecursion (EqnGood d) d.eqns
      pub values : AllByRecursion (λ (v : VariableData). HasValue types v.ty) d.variables
      pub flag : FlagGood d d.flag

    -- from one sketch to another: variables keep their types, and equations stay good
    pub record Moves (d e : Sketch) : Type 0 where
      pub keeps : Keeps d e
      pub good : Good d → Good e

    pub still : (d : Sketch) → Moves d d
    still d = record { keeps = record { kept = λ x v h. h }; good = λ g. g }

    pub then_moves : (d e f : Sketch) → Moves d e → Moves e f → Moves d f
    then_moves d e f g h = record { keeps = record { kept = λ x v p. h.keeps.kept x v (g.keeps.kept x v p) }; good = λ p. h.good (g.good p) }

    -- a variable that is there has a type with a value
    pub value_there : (d : Sketch) (x : ℕ) (t : FlatTy) → HasType d x t → Good d → HasValue types t
    value_there d x t h g = subst (λ u. HasValue types u) h.2 (each_at (λ (v : VariableData). HasValue types v.ty) d.variables x h.0 h.1 g.values)

    pub type_there : (d : Sketch) (x : ℕ) (t : FlatTy) → HasType d x t → Good d → HasValue types (type_at d x)
    type_there d x t h g = subst (λ u. HasValue types u) (sym (type_is d x t h)) (value_there d x t h g)

    right_moved : (d e : Sketch) (right : Right) (ts : List FlatTy) → Keeps d e → RightTyped d right ts → RightTyped e right ts
    right_moved d e (operator op args) ts m h = (h.0, args_moved d e args h.0 m h.1, h.2, h.3, h.4)
    right_moved d e (register first next) ts m h = (h.0, h.1, atom_moved d e next h.0 m h.2, h.3)
    right_moved d e (called f args) ts m h = (args_moved d e args (types_of_decls k (inputs_of (k.nodes f))) m h.0, h.1)

    eqns_moved : (d e : Sketch) (es : List FlatEqn) → Keeps d e → AllByRecursion (EqnGood d) es → AllByRecursion (EqnGood e) es
    eqns_moved d e [] k h = tt
    eqns_moved d e (q ∷ es) k h = (
      record {
        clock = clock_moved d e q.clock k h.0.clock;
        restart = restart_moved d e q.restart k h.0.restart;
        given = h.0.given;
        targets = have_moved d e q.targets h.0.given k h.0.targets;
        right = right_moved d e q.right h.0.given k h.0.right;
      },
      eqns_moved d e es k h.1,
    )

    -- ---- variables and equations

    pub variable_moves : (x : List ℕ) (t : FlatTy) (d : Sketch) → (Good d → HasValue types t) → Moves d (with_variable x t d)
    variable_moves x t d w =
        let e : Sketch = with_variable x t d in
        let k : Keeps d e = record { kept = λ i v h. longer d.variables (record { name = x; ty = t } ∷ []) i v h } in
        record {
          keeps = k;
          good = λ g.
              record {
                eqns = eqns_moved d e d.eqns k g.eqns;
                values = each_append (λ (v : VariableData). HasValue types v.ty) d.variables (record { name = x; ty = t } ∷ []) g.values (w g, tt);
                flag = flag_moved d e d.flag k g.flag;
              };
        }

    pub flag_moves : (f : Option ℕ) (d : Sketch) → FlagGood d f → Moves d (with_flag f d)
    flag_moves f d h =
        let e : Sketch = with_flag f d in
        let k : Keeps d e = record { kept = λ x v h. h } in
        record { keeps = k; good = λ g. record { eqns = eqns_moved d e d.eqns k g.eqns; values = g.values; flag = flag_moved d e f k h } }

    -- the flag that there was before
    pub flag_back : (d e : Sketch) → Moves d e → Moves d (with_flag d.flag e)
    flag_back d e m =
        record {
          keeps = record { kept = λ x v h. m.keeps.kept x v h };
          good = λ g. let back = flag_moves d.flag e (flag_moved d e d.flag m.keeps g.flag) in back.good (m.good g);
        }

    pub eqn_moves : (at : Site) (targets : List ℕ) (right : Right) (d : Sketch) (ts : List FlatTy) → SiteGood d at → HaveTypes d targets ts → (Good d → RightTyped d right ts) → Moves d (with_eqn at targets right d)
    eqn_moves at targets right d ts c h r =
        let e : Sketch = with_eqn at targets right d in
        let k : Keeps d e = record { kept = λ x v h. h } in
        let q : FlatEqn = record { targets = targets; clock = at.clock; right = right; restart = at.restart; at = 0 } in
        let own : Good d → EqnGood e q =
        λ g. record { clock = clock_moved d e at.clock k c.0; restart = restart_moved d e at.restart k c.1; given = ts; targets = have_moved d e targets ts k h; right = right_moved d e right ts k (r g) } in
        record { keeps = k; good = λ g. record { eqns = each_append (EqnGood e) d.eqns (q ∷ []) (eqns_moved d e d.eqns k g.eqns) (own g, tt); values = g.values; flag = flag_moved d e d.flag k g.flag } }

    pub named_moves : (at : Site) (x : List ℕ) (t : FlatTy) (right : Right) (d : Sketch) → SiteGood d at → (Good d → HasValue types t) → (Good d → RightTyped d right (t ∷ [])) → Moves d (named_value at x t right d).0
    named_moves at x t right d c w r =
        let name = new_name x (next d) in
        let e : Sketch = with_new x t d in
        let m : Moves d e = variable_moves name t d w in
        let n : Good d → Moves e (named_value at x t right d).0 =
        λ g. eqn_moves at (next d ∷ []) right e (t ∷ []) (site_moved d e at m.keeps c) (variable_typed name t d, tt) (λ i. right_moved d e right (t ∷ []) m.keeps (r g)) in
        record { keeps = record { kept = λ y v h. m.keeps.kept y v h }; good = λ g. (n g).good (m.good g) }

    pub copy_typed : (d : Sketch) (a : Atom) (t : FlatTy) → AtomTyped d a t → RightTyped d (copy_of a) (t ∷ [])
    copy_typed d a t h = (t ∷ [], (h, tt), t, refl, refl)

    -- a copy of a variable of the type
    pub read_moves : (at : Site) (o : Option ℕ) (t : FlatTy) (d : Sketch) → SiteGood d at → IsSeen d o t → Moves d (read_at at o t d).0
    read_moves at o t d c h =
        subst (λ z. Moves d (read_at at z t d).0) (sym h.1) (named_moves at (codes "e") t (copy_of (Named h.0)) d c (value_there d h.0 t h.2) (λ g. copy_typed d (Named h.0) t h.2))

    pub constant_moves : (at : Site) (v : Value) (t : FlatTy) (d : Sketch) → SiteGood d at → IsValue t v → Moves d (value_of at (type_of_value v) (copy_of (Fixed v)) d).0
    constant_moves at v t d c h =
        let own = of_own_type t v h in
        named_moves at (codes "e") (type_of_value v) (copy_of (Fixed v)) d c (λ g. has_value (type_of_value v) v own) (λ g. copy_typed d (Fixed v) (type_of_value v) own)

    -- a value of the type of a variable
    pub as_variable : (at : Site) (x : ℕ) (t : FlatTy) (right : Right) (d : Sketch) → SiteGood d at → HasType d x t → (Good d → RightTyped d right (t ∷ [])) → Moves d (value_of at (type_at d x) right d).0
    as_variable at x t right d c h r = subst (λ u. Moves d (value_of at u right d).0) (sym (type_is d x t h)) (named_moves at (codes "e") t right d c (value_there d x t h) r)

    pub register_moves : (at : Site) (v : Value) (x : ℕ) (t : FlatTy) (d : Sketch) → SiteGood d at → HasType d x t → IsValue t v → Moves d (register_at at v x d).0
    register_moves at v x t d c h w = as_variable at x t (register v (Named x)) d c h (λ g. (t, w, h, refl))

    mux_kind : (t : FlatTy) → result_kind Mux (Bools ∷ kind t ∷ kind t ∷ []) ≡ Some (kind t)
    mux_kind t = ap (λ b. if b then Some (kind t) else None) (same_itself (kind t))

    pub mux_moves : (at : Site) (c a b : ℕ) (t : FlatTy) (d : Sketch) → SiteGood d at → (Good d → HasType d c flat.Bool) → HasType d a t → HasType d b t → Moves d (mux_at at c a b d).0
    mux_moves at c a b t d s test h i =
        as_variable at a t (operator Mux (Named c ∷ Named a ∷ Named b ∷ [])) d s h (λ g. (flat.Bool ∷ t ∷ t ∷ [], (test g, (h, (i, tt))), t, mux_kind t, refl))

    -- ---- flags

    pub new_flag_moves : (at : Site) (d : Sketch) → SiteGood d at → Moves d (flag_at at d).0
    new_flag_moves at d c = by (nat_eq (length at.clock) at.base) d.flag
      where
        fresh : Moves d (new_flag at d).0
        fresh = named_moves at (codes "first") flat.Bool (register (B true) (Fixed (B false))) d c (λ g. tt) (λ g. (flat.Bool, tt, tt, refl))

        is_new : HasType (new_flag at d).0 (new_flag at d).1 flat.Bool
        is_new = variable_typed (new_name (codes "first") (next d)) flat.Bool d

        by : (b : Bool) (f : Option ℕ) → Moves d (if b then block_flag at f d else new_flag at d).0
        by true None = then_moves d (new_flag at d).0 (with_flag (Some (new_flag at d).1) (new_flag at d).0) fresh (flag_moves (Some (new_flag at d).1) (new_flag at d).0 is_new)
        by true (Some x) = still d
        by false f = fresh

    pub flag_typed : (at : Site) (d : Sketch) → Good (flag_at at d).0 → HasType (flag_at at d).0 (flag_at at d).1 flat.Bool
    flag_typed at d = by (nat_eq (length at.clock) at.base) d.flag refl
      where
        is_new : HasType (new_flag at d).0 (new_flag at d).1 flat.Bool
        is_new = variable_typed (new_name (codes "first") (next d)) flat.Bool d

        by : (b : Bool) (f : Option ℕ) → d.flag ≡ f → let m = if b then block_flag at f d else new_flag at d in Good m.0 → HasType m.0 m.1 flat.Bool
        by true None e g = is_new
        by true (Some x) e g = subst (λ f. FlagGood d f) e g.flag
        by false f e g = is_new
