-- A node keeps its shape where equations define other variables.
use Rattle.std.proofs.Common.{◌≡◌, ◌⊎◌, ◌≤◌, ℕ, nat_eq, Bool, true, false, ◌||◌, not, List, [], ◌∷◌, length, map, Option, Some, None, inl, inr, refl, sym, ap, subst, ◌∙◌, arith}
use Rattle.std.specs.List.{AllByRecursion, IsDistinct}
use Rattle.std.proofs.lemmas.Bool.{eqb-true, eq-eqb}
use Rattle.hp_obc.specs.Form.{TypesForm}
use Rattle.hp_obc.specs.Machines.{ObcType, Machine}
use Rattle.hp_flat.specs.declared.equation.Atom.{Atom}
use Rattle.hp_flat.specs.declared.equation.Atom.TheVariants.{Variable, Value as Fixed}
use Rattle.hp_flat.specs.Equations.{FlatEqn}
use Rattle.hp_flat.specs.Nodes.{FlatNode}
use Rattle.law_equations.specs.Meaning.Reactions.{has}
use Rattle.law_equations.specs.Meaning.Solving.{TargetsDiffer}
use Rattle.law_equations.specs.Meaning.Kinding.{kind_of_type, variable_kind, Callees, RightHasKinds, EqnKinds}
use Rattle.hp_normal.specs.Reading.{count, only, copied, both, copy_of}
use Rattle.hp_normal.specs.Retargeting.{ends, goes_on, is_moved, with_targets, retargeted}
use Rattle.hp_normal.specs.Following.{AreBehind}
use Rattle.hp_normal.proofs.CopyLaws.{count-one, copy-target, copies-behind, moved-copy}
use Rattle.law_equations.specs.Fewer.Compiling.{CopiesAgree}
use Rattle.law_equations.proofs.FewerLemmas.Members.{Among, each_among, all_kept, fewer}
use Rattle.law_equations.proofs.FewerLemmas.KindedForms.{kinds_law}
use Rattle.law_equations.proofs.FewerLemmas.RetargetForms.{retargeted-within, retargeted-no_inputs, retargeted-each, ends-type}
use Rattle.law_equations.specs.Shaped.Shaped.{Part, AreApart, DefineApart, NodeShape, CallIsKnown}
use Rattle.law_equations.proofs.ShapedLemmas.PartLaws.{part-itself, apart-at}
use Rattle.law_equations.proofs.ShapedLemmas.EndsApart.{Free, ends-apart, copy-goes}

no_true : (b : Bool) → not b ≡ true → b ≡ false
no_true false h = refl
no_true true h = absurd (cc)

no_false : (b : Bool) → not b ≡ false → b ≡ true
no_false true h = refl
no_false false h = absurd (cc)

among_count : (xs : List ℕ) (x : ℕ) → Among x xs → 1 ≤ count x xs
among_count [] x a = absurd a
among_count (y ∷ xs) x (inl e) = subst (λ z. 1 ≤ count x (z ∷ xs)) e (count-one x xs)
among_count (y ∷ xs) x (inr a) = omega (arith, among_count xs x a)

-- a number that a function gives of some numbers
pub record Given (f : ℕ → ℕ) (xs : List ℕ) (z : ℕ) : Type 0 where
  pub x : ℕ
  pub there : 1 ≤ count x xs
  pub gives : f x ≡ z

given : (f : ℕ → ℕ) (xs : List ℕ) (z : ℕ) → has (map f xs) z ≡ true → Given f xs z
given f [] z h = absurd (cc)
given f (x ∷ xs) z h = by (nat_eq (f x) z) refl h (given f xs z)
  where
    by : (d : Bool) → nat_eq (f x) z ≡ d → (d || has (map f xs) z) ≡ true → (has (map f xs) z ≡ true → Given f xs z) → Given f (x ∷ xs) z
    by true e t g = record { x = x; there = count-one x xs; gives = eqb-true (f x) z e }
    by false e t g = let p = g t in record { x = p.x; there = (let c = p.there in omega (arith, c)); gives = p.gives }

-- numbers that differ differ still where a function gives others
module _ (f : ℕ → ℕ) where
  differ : (x : ℕ) (ys : List ℕ) → ((y : ℕ) → Among y ys → f x ≡ f y → x ≡ y) → AllByRecursion (λ y. nat_eq x y ≡ false) ys → AllByRecursion (λ z. nat_eq (f x) z ≡ false) (map f ys)
  differ x [] one h = tt
  differ x (y ∷ ys) one h = (by (nat_eq (f x) (f y)) refl, differ x ys (λ z a. one z (inr a)) h.1)
    where
      by : (d : Bool) → nat_eq (f x) (f y) ≡ d → d ≡ false
      by false e = refl
      by true e = let same : nat_eq x y ≡ true = eq-eqb x y (one y (inl refl) (eqb-true (f x) (f y) e)) in let other = h.0 in absurd (cc)

  mapped_distinct : (xs : List ℕ) → ((x y : ℕ) → Among x xs → Among y xs → f x ≡ f y → x ≡ y) → IsDistinct nat_eq xs → IsDistinct nat_eq (map f xs)
  unfolding IsDistinct
  mapped_distinct [] one h = tt
  mapped_distinct (x ∷ xs) one h = (differ x xs (λ y a. one x y (inl refl) (inr a)) h.0, mapped_distinct xs (λ y z a b. one y z (inr a) (inr b)) h.1)

goes_on_as : (r : ℕ → ℕ) (ts : List ℕ) (c : Option Atom) → goes_on r (both (only (map r ts)) c) ≡ goes_on r (both (only ts) c)
goes_on_as r [] c = refl
goes_on_as r (x ∷ []) None = refl
goes_on_as r (x ∷ []) (Some (Variable y)) = refl
goes_on_as r (x ∷ []) (Some (Fixed v)) = refl
goes_on_as r (x ∷ y ∷ ts) c = refl

module _ (n : FlatNode) where
  abbrev r : ℕ → ℕ
  r = ends n n.eqns

  abbrev keep : FlatEqn → Bool
  keep e = not (is_moved r e)

  -- ---- targets

  -- an equation of more than one target is no copy
  many_free : (e : FlatEqn) (x y : ℕ) (ts : List ℕ) → e.targets ≡ x ∷ y ∷ ts → Free n n.eqns e
  many_free e x y ts p d v w a q same =
      let one : d.targets ≡ v ∷ [] = copy-target d v (Variable w) (moved-copy n d v w q) in
      let both_ : x ∷ y ∷ ts ≡ v ∷ [] = sym p ∙ ap (λ (c : FlatEqn). c.targets) (sym same) ∙ one in absurd (cc)

  targets_by : DefineApart n.eqns → (e : FlatEqn) → Among e n.eqns → (ts : List ℕ) → e.targets ≡ ts → IsDistinct nat_eq ts → IsDistinct nat_eq (map r ts)
  unfolding IsDistinct
  targets_by apart e a [] p h = tt
  targets_by apart e a (x ∷ []) p h = (tt, tt)
  targets_by apart e a (x ∷ y ∷ ts) p h = mapped_distinct r (x ∷ y ∷ ts) (λ u v i j same. by u v (ends-apart n apart e e a a (many_free e x y ts p) (many_free e x y ts p) u v (at u i) (at v j) same)) h
    where
      at : (u : ℕ) → Among u (x ∷ y ∷ ts) → 1 ≤ count u e.targets
      at u i = subst (λ xs. 1 ≤ count u xs) (sym p) (among_count (x ∷ y ∷ ts) u i)

      by : (u v : ℕ) → (u ≡ v) ⊎ Part e.clock e.clock → u ≡ v
      by u v (inl same) = same
      by u v (inr part) = absurd (part-itself e.clock part)

  retargeted_targets : DefineApart n.eqns → TargetsDiffer n → TargetsDiffer (retargeted n)
  retargeted_targets apart h =
      all_kept (with_targets r) keep (λ (e : FlatEqn). IsDistinct nat_eq e.targets) n.eqns
      (λ e a k. targets_by apart e a e.targets refl (each_among (λ (d : FlatEqn). IsDistinct nat_eq d.targets) n.eqns e h a))

  -- ---- clocks part

  free_by : AreBehind n.eqns → (e : FlatEqn) → keep (with_targets r e) ≡ true → Free n n.eqns e
  free_by behind e k d x y a q same =
      let copy : copy_of e ≡ Some (x, Variable y) = ap copy_of (sym same) ∙ moved-copy n d x y q in
      let stays : not (nat_eq (r y) y) ≡ false = ap (goes_on r) (sym copy) ∙ sym (goes_on_as r e.targets (copied e.right)) ∙ no_true (is_moved r (with_targets r e)) k in
      copy-goes n (copies-behind n.eqns behind) d x y a q (eqb-true (r y) y (no_false (nat_eq (r y) y) stays))

  apart_by : DefineApart n.eqns → AreBehind n.eqns → (d e : FlatEqn) → Among d n.eqns → Among e n.eqns → keep (with_targets r d) ≡ true → keep (with_targets r e) ≡ true → AreApart (with_targets r d) (with_targets r e)
  apart_by apart behind d e a b k l x f g =
      let p : Given r d.targets x = given r d.targets x f in
      let q : Given r e.targets x = given r e.targets x g in
      by p.x q.x p.there q.there (ends-apart n apart d e a b (free_by behind d k) (free_by behind e l) p.x q.x p.there q.there (p.gives ∙ sym q.gives))
    where
      same_by : (d ≡ e) ⊎ Part d.clock e.clock → (with_targets r d ≡ with_targets r e) ⊎ Part d.clock e.clock
      same_by (inl s) = inl (ap (with_targets r) s)
      same_by (inr part) = inr part

      by : (u v : ℕ) → 1 ≤ count u d.targets → 1 ≤ count v e.targets → (u ≡ v) ⊎ Part d.clock e.clock → (with_targets r d ≡ with_targets r e) ⊎ Part d.clock e.clock
      by u v i j (inl s) = same_by (apart-at n.eqns apart d e a b v (subst (λ w. 1 ≤ count w d.targets) s i) j)
      by u v i j (inr part) = inr part

  retargeted_apart : DefineApart n.eqns → AreBehind n.eqns → DefineApart (retargeted n).eqns
  retargeted_apart apart behind =
      all_kept (with_targets r) keep (λ (d : FlatEqn). AllByRecursion (AreApart d) (retargeted n).eqns) n.eqns
      (λ d a k. all_kept (with_targets r) keep (AreApart (with_targets r d)) n.eqns (λ e b l. apart_by apart behind d e a b k l))

  -- ---- kinds

  module _ (types : List ObcType) (callees : Callees) where
    same_kinds : CopiesAgree n.variables n.eqns → (xs : List ℕ) → map (variable_kind types n.variables) (map r xs) ≡ map (variable_kind types n.variables) xs
    same_kinds h [] = refl
    same_kinds h (x ∷ xs) = let rest = same_kinds h xs in let one = ends-type n n.eqns h x in λ i. kind_of_type types (one i) ∷ rest i

    retargeted_kinds : CopiesAgree n.variables n.eqns → AllByRecursion (EqnKinds types callees n.variables) n.eqns → AllByRecursion (EqnKinds types callees n.variables) (retargeted n).eqns
    retargeted_kinds copies h =
        all_kept (with_targets r) keep (EqnKinds types callees n.variables) n.eqns
        (λ e a k.
        let q : EqnKinds types callees n.variables e = each_among (EqnKinds types callees n.variables) n.eqns e h a in
        record { right = subst (RightHasKinds types callees n.variables e.right) (sym (same_kinds copies e.targets)) q.right; clock = q.clock; restart = q.restart })

-- all of it
pub retargeted-shape : (types : List ObcType) (callees : Callees) (n : FlatNode) → TypesForm types → AreBehind n.eqns → NodeShape types callees n → NodeShape types callees (retargeted n)
retargeted-shape types callees n form behind h = record {
  name = h.name;
  within = retargeted-within n h.within;
  no_inputs = retargeted-no_inputs n h.no_inputs;
  outputs_behind = h.outputs_behind;
  outputs_differ = h.outputs_differ;
  kinds = retargeted_kinds n types callees (kinds_law types callees n.variables n.eqns form h.kinds).1 h.kinds;
  values = h.values;
  targets_differ = retargeted_targets n h.apart h.targets_differ;
  apart = retargeted_apart n h.apart behind;
  short = retargeted-each n (λ clock right. length clock ≤ 300) h.short;
  names_good = h.names_good;
  names_differ = h.names_differ;
  names_own = h.names_own;
  few = omega (arith, h.few, fewer (with_targets (ends n n.eqns)) (λ e. not (is_moved (ends n n.eqns) e)) n.eqns);
}

pub retargeted-known : (types : List ObcType) (callees : Callees) (earlier : List Machine) (n : FlatNode) → AllByRecursion (λ (e : FlatEqn). CallIsKnown types callees earlier e.right) n.eqns
    → AllByRecursion (λ (e : FlatEqn). CallIsKnown types callees earlier e.right) (retargeted n).eqns
retargeted-known types callees earlier n h = retargeted-each n (λ clock right. CallIsKnown types callees earlier right) h
