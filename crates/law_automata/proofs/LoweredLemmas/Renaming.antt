-- What stands for the names of a program, with so many automata around: themselves, or their values in a state further out.
use Rattle.std.proofs.Common.{◌≡◌, ℕ, ◌+◌, ◌<◌, ◌≤◌, Bool, true, false, if◌then◌else◌, List, [], ◌∷◌, inl, inr, refl, sym, ap, subst, ◌∙◌, arith}
use Rattle.std.specs.Prelude.{◌⊎◌, ◌||◌}
use Rattle.std.specs.Str.{bytes_eq}
use Rattle.hp_tree.specs.Blocks.{Decl, Eqns, Eqn}
use Rattle.hp_tree.specs.Meaning.{declares, defines, some_defines}
use Rattle.hp_automata.specs.NewNames.{value_name}
use Rattle.hp_automata.specs.Names.{is_name}
use Rattle.hp_automata.specs.Renaming.{renamed_decls}
use Rattle.hp_automata.specs.Lowering.{Frame, inner}
use Rattle.law_automata.specs.Lowered.OldNames.{IsOld}
use Rattle.law_automata.specs.Lowered.Removable.{Known, and_defined, DeclsOk, most, deepest}
use Rattle.law_automata.proofs.LoweredLemmas.Spelling.{New, value, spell, HasRoom}
use Rattle.law_automata.proofs.LoweredLemmas.Apart.{told, depth_told, new_is_new, same_bytes, bytes_same}
use Rattle.law_automata.proofs.LoweredLemmas.Tests.{or_first, or_second, or_cases, true_false, equal_tests}

-- the value of a name in a state of an automaton further out
pub record FurtherOut (d : ℕ) (x y : List ℕ) : Type 0 where
  pub depth : ℕ
  pub state : ℕ
  pub out : depth < d
  pub room : state < most
  pub is : y ≡ value_name depth state x

pub record Renames (outer : Known) (d : ℕ) (to : List ℕ → List ℕ) : Type 0 where
  pub deep : d ≤ deepest
  pub kept : (x : List ℕ) → IsOld x → outer x ≡ false → to x ≡ x
  pub range : (x : List ℕ) → IsOld x → (to x ≡ x) ⊎ FurtherOut d x (to x)

value_only : New → List ℕ
value_only (value k x) = x
value_only a = []

module _ {outer : Known} {d : ℕ} {to : List ℕ → List ℕ} (r : Renames outer d to) where
  -- what stands for a name is no new name of an automaton that is further in
  apart_by : (x : List ℕ) (a : New) (e : ℕ) → IsOld x → HasRoom a → d ≤ e → e < deepest → (to x ≡ x) ⊎ FurtherOut d x (to x) → to x ≡ spell e a → ⊥
  apart_by x a e o h g l (inl k) s = new_is_new e a h (subst IsOld (sym k ∙ s) o)
  apart_by x a e o h g l (inr f) s =
      let same : f.depth ≡ e = depth_told f.depth e (value f.state x) a (omega (arith, f.out, g, l)) l (f.room, o) h (sym f.is ∙ s) in
      omega (arith, f.out, g, same)

  pub to_apart : (x : List ℕ) (a : New) (e : ℕ) → IsOld x → HasRoom a → d ≤ e → e < deepest → to x ≡ spell e a → ⊥
  to_apart x a e o h g l s = apart_by x a e o h g l (r.range x o) s

  -- two names do not have one that stands for both
  one_by : (x y : List ℕ) → IsOld x → IsOld y → (to x ≡ x) ⊎ FurtherOut d x (to x) → (to y ≡ y) ⊎ FurtherOut d y (to y) → to x ≡ to y → x ≡ y
  unfolding value_only
  one_by x y o p (inl k) (inl l) s = sym k ∙ s ∙ l
  one_by x y o p (inl k) (inr f) s = absurd (new_is_new f.depth (value f.state y) (f.room, p) (subst IsOld (sym k ∙ s ∙ f.is) o))
  one_by x y o p (inr f) (inl k) s = absurd (new_is_new f.depth (value f.state x) (f.room, o) (subst IsOld (sym k ∙ sym s ∙ f.is) p))
  one_by x y o p (inr f) (inr g) s =
      let deep : d ≤ deepest = r.deep in
      let spelled : spell f.depth (value f.state x) ≡ spell g.depth (value g.state y) = sym f.is ∙ s ∙ g.is in
      let same : f.depth ≡ g.depth = depth_told f.depth g.depth (value f.state x) (value g.state y) (omega (arith, f.out, deep)) (omega (arith, g.out, deep)) (f.room, o) (g.room, p) spelled in
      ap value_only (told g.depth (value f.state x) (value g.state y) (f.room, o) (g.room, p) (ap (λ e. spell e (value f.state x)) (sym same) ∙ spelled))

  pub to_one : (x y : List ℕ) → IsOld x → IsOld y → to x ≡ to y → x ≡ y
  to_one x y o p s = one_by x y o p (r.range x o) (r.range y p) s

  pub to_test : (x y : List ℕ) → IsOld x → IsOld y → bytes_eq (to x) (to y) ≡ bytes_eq x y
  to_test x y o p =
      equal_tests (bytes_eq (to x) (to y)) (bytes_eq x y) (λ h. subst (λ z. bytes_eq x z ≡ true) (to_one x y o p (same_bytes (to x) (to y) h)) (bytes_same x))
      (λ h. subst (λ z. bytes_eq (to x) (to z) ≡ true) (same_bytes x y h) (bytes_same (to x)))

-- ---- what a block declares

pub declares_renamed : (to : List ℕ → List ℕ) (ds : List Decl) (x : List ℕ) → declares (renamed_decls to ds) x ≡ declares ds x
declares_renamed to [] x = refl
declares_renamed to (d ∷ ds) x = ap (λ t. bytes_eq d.name x || t) (declares_renamed to ds x)

module _ (outer : Known) (es : Eqns) where
  -- it is a name of the program, none that is defined further out, and has an equation
  pub record IsLocal (x : List ℕ) : Type 0 where
    pub old : IsOld x
    pub own : outer x ≡ false
    pub defined : some_defines es x ≡ true

  local_by : (d : Decl) (ds : List Decl) (x : List ℕ) → DeclsOk outer es (d ∷ ds) → (bytes_eq d.name x ≡ true) ⊎ (declares ds x ≡ true) → (declares ds x ≡ true → IsLocal x) → IsLocal x
  local_by d ds x h (inl e) r = subst IsLocal (same_bytes d.name x e) (record { old = h.0.0; own = h.0.1; defined = h.0.2 })
  local_by d ds x h (inr e) r = r e

  pub local : (ds : List Decl) → DeclsOk outer es ds → (x : List ℕ) → declares ds x ≡ true → IsLocal x
  local [] h x e = absurd cc
  local (d ∷ ds) h x e = local_by d ds x h (or_cases (bytes_eq d.name x) (declares ds x) e) (local ds h.1 x)

module _ {outer : Known} {d : ℕ} {to : List ℕ → List ℕ} (r : Renames outer d to) (es : Eqns) (ds : List Decl) (h : DeclsOk outer es ds) where
  -- a local name stands for itself
  pub local_kept : (x : List ℕ) → declares ds x ≡ true → to x ≡ x
  local_kept x e = let l = local outer es ds h x e in r.kept x l.old l.own

  -- what stands for a name that is not local is not local
  not_local_by : (x : List ℕ) → IsOld x → declares ds x ≡ false → (to x ≡ x) ⊎ FurtherOut d x (to x) → (t : Bool) → declares ds (to x) ≡ t → t ≡ false
  not_local_by x o n (inl k) true e = absurd (true_false (declares ds x) (ap (declares ds) (sym k) ∙ e) n)
  not_local_by x o n (inr f) true e =
      absurd (new_is_new f.depth (value f.state x) (f.room, o) (subst IsOld f.is ((local outer es ds h (to x) e).old)))
  not_local_by x o n q false e = refl

  pub not_local : (x : List ℕ) → IsOld x → declares ds x ≡ false → declares ds (to x) ≡ false
  not_local x o n = not_local_by x o n (r.range x o) (declares ds (to x)) refl

  -- no new name is
  pub new_not_local : (e : ℕ) (a : New) → HasRoom a → declares ds (spell e a) ≡ false
  new_not_local e a room = by (declares ds (spell e a)) refl
    where
      by : (t : Bool) → declares ds (spell e a) ≡ t → t ≡ false
      by true q = absurd (new_is_new e a room (local outer es ds h (spell e a) q).old)
      by false q = refl

-- ---- in a state

inner_by : (outer : Known) (to : List ℕ → List ℕ) (f : Frame) (k : ℕ) (x : List ℕ) (t : Bool) → k < most → (to x ≡ x) ⊎ FurtherOut f.depth x (to x)
    → ((if t then value_name f.depth k x else to x) ≡ x) ⊎ FurtherOut (f.depth + 1) x (if t then value_name f.depth k x else to x)
inner_by outer to f k x true room q = inr (record { depth = f.depth; state = k; out = omega arith; room = room; is = refl })
inner_by outer to f k x false room (inl e) = inl e
inner_by outer to f k x false room (inr g) = let out = g.out in inr (record { depth = g.depth; state = g.state; out = omega arith; room = g.room; is = g.is })

pub inner_renames : {outer : Known} {to : List ℕ → List ℕ} (f : Frame) (e : Eqn) → Renames outer f.depth to → ((x : List ℕ) → is_name f.names x ≡ defines e x) → f.depth < deepest → (k : ℕ) → k < most
    → Renames (and_defined e outer) (f.depth + 1) (inner to f k)
inner_renames {outer} {to} f e r names deep k room =
    record {
      deep = omega (arith, deep);
      kept = λ x o h. ap (λ t. if t then value_name f.depth k x else to x) (names x ∙ or_first (defines e x) (outer x) h) ∙ r.kept x o (or_second (defines e x) (outer x) h);
      range = λ x o. inner_by outer to f k x (is_name f.names x) room (r.range x o);
    }

-- inside another control equation
pub within_renames : {outer : Known} {d : ℕ} {to : List ℕ → List ℕ} (e : Eqn) → Renames outer d to → Renames (and_defined e outer) d to
within_renames {outer} e r = record { deep = r.deep; kept = λ x o h. r.kept x o (or_second (defines e x) (outer x) h); range = r.range }
