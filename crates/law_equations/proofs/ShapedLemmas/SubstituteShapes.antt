-- A node keeps its shape where what is copied is read in place of copies.
use Rattle.std.proofs.Common.{◌≡◌, ◌⊎◌, ◌≤◌, ℕ, nat_eq, Bool, not, List, [], ◌∷◌, length, map, Option, Some, inl, inr, refl, sym, ap, subst, ◌∙◌, arith}
use Rattle.std.specs.List.{AllByRecursion, IsDistinct}
use Rattle.hp_base.specs.Kinds.{KindData}
use Rattle.hp_obc.specs.declared.command.ObcOp.TheVariants.{Copy}
use Rattle.hp_obc.specs.Form.{result_kind}
use Rattle.hp_obc.specs.Machines.{ObcType, Machine}
use Rattle.hp_flat.specs.declared.equation.Atom.{Atom}
use Rattle.hp_flat.specs.declared.equation.Atom.TheVariants.{Variable as Named, Value as Fixed}
use Rattle.hp_flat.specs.Equations.{Clock, Right, operator, register, called, FlatEqn}
use Rattle.hp_flat.specs.Nodes.{FlatNode}
use Rattle.law_equations.specs.Meaning.Kinding.{variable_kind, HasArm, Callees, AtomHasKind, HaveKinds, RightHasKinds, EqnKinds}
use Rattle.hp_normal.specs.Reading.{copy_of}
use Rattle.hp_normal.specs.Substituting.{Meanings, read, meanings, is_replaced, variable_or, read_clock, read_right, read_eqn, substituted}
use Rattle.hp_normal.proofs.CopyLaws.{copy-target}
use Rattle.law_equations.proofs.FewerLemmas.CopyFacts.{copy-right}
use Rattle.law_equations.proofs.FewerLemmas.Members.{Among, each_among, all_kept, fewer}
use Rattle.law_equations.proofs.FewerLemmas.KindedForms.{first_kind}
use Rattle.law_equations.proofs.FewerLemmas.SubstituteForms.{meanings-keep, substituted-within, substituted-no_inputs}
use Rattle.law_equations.specs.Shaped.Shaped.{Part, AreApart, DefineApart, IsShort, NodeShape, CallIsKnown}
use Rattle.law_equations.proofs.ShapedLemmas.PartLaws.{part-read}

one_kind : (k l : KindData) → ◌≡◌ {A = Option KindData} (Some k) (Some l) → k ≡ l
one_kind k l e = cc

length_read : (s : Meanings) (clock : Clock) → length (read_clock s clock) ≡ length clock
length_read s [] = refl
length_read s (on ∷ clock) = omega (arith, length_read s clock)

module _ (types : List ObcType) (callees : Callees) (n : FlatNode) (kinds : AllByRecursion (EqnKinds types callees n.variables) n.eqns) where
  abbrev kind : ℕ → KindData
  kind x = variable_kind types n.variables x

  abbrev s : Meanings
  s = meanings n n.eqns (λ x. Named x)

  abbrev keep : FlatEqn → Bool
  keep e = not (is_replaced s e)

  abbrev HasKind : Atom → KindData → Type 0
  HasKind a k = AtomHasKind types callees n.variables a k

  -- ---- what a variable stands for has its kind

  abbrev OfItsKind : ℕ → Atom → Type 0
  OfItsKind z a = AtomHasKind types callees n.variables a (variable_kind types n.variables z)

  copied_by : (x : ℕ) (a : Atom) → RightHasKinds types callees n.variables (operator Copy (a ∷ [])) (map kind (x ∷ [])) → HasKind a (kind x)
  copied_by x a h = by h.0 h.1 h.3
    where
      by : (js : List KindData) → HaveKinds types callees n.variables (a ∷ []) js → result_kind Copy js ≡ Some h.2 → HasKind a (kind x)
      by [] k e = absurd k
      by (j ∷ []) k e = subst (HasKind a) (one_kind j h.2 e ∙ sym (first_kind (kind x) h.2 [] [] h.4)) k.0
      by (j ∷ l ∷ js) k e = absurd k.1

  copied_kind : (e : FlatEqn) → Among e n.eqns → (x : ℕ) (a : Atom) → copy_of e ≡ Some (x, a) → HasKind a (kind x)
  copied_kind e am x a q =
      let right : RightHasKinds types callees n.variables e.right (map kind e.targets) = (each_among (EqnKinds types callees n.variables) n.eqns e kinds am).right in
      copied_by x a
      (subst (λ (r : Right). RightHasKinds types callees n.variables r (map kind (x ∷ []))) (copy-right e x a q)
      (subst (λ (ts : List ℕ). RightHasKinds types callees n.variables e.right (map kind ts)) (copy-target e x a q) right))

  read_step : (x : ℕ) (a : Atom) (t : Meanings) → ((z : ℕ) → OfItsKind z (t z)) → HasKind a (kind x) → HasKind (read t a) (kind x)
  read_step x (Fixed v) t all h = h
  read_step x (Named y) t all h = subst (HasKind (t y)) h (all y)

  stands_kind : (z : ℕ) → OfItsKind z (s z)
  stands_kind z = meanings-keep n OfItsKind (λ e am x a q t all. read_step x a t all (copied_kind e am x a q)) n.eqns (λ e a. a) (λ x. Named x) (λ v. refl) z

  -- ---- so what is read has its kind

  read_kind : (a : Atom) (k : KindData) → HasKind a k → HasKind (read s a) k
  read_kind (Fixed v) k h = h
  read_kind (Named z) k h = subst (HasKind (s z)) h (stands_kind z)

  read_kinds : (args : List Atom) (ks : List KindData) → HaveKinds types callees n.variables args ks → HaveKinds types callees n.variables (map (read s) args) ks
  read_kinds [] [] h = h
  read_kinds [] (k ∷ ks) h = absurd h
  read_kinds (a ∷ args) [] h = absurd h
  read_kinds (a ∷ args) (k ∷ ks) h = (read_kind a k h.0, read_kinds args ks h.1)

  right_kinds : (r : Right) (ks : List KindData) → RightHasKinds types callees n.variables r ks → RightHasKinds types callees n.variables (read_right s r) ks
  right_kinds (operator op args) ks h = (h.0, read_kinds args h.0 h.1, h.2, h.3, h.4)
  right_kinds (register first next) ks h = (h.0, h.1, read_kind next h.0 h.2, h.3)
  right_kinds (called f args) ks h = (read_kinds args (callees.takes f) h.0, h.1)

  variable_kept : (z : ℕ) (a : Atom) → OfItsKind z a → kind (variable_or z a) ≡ kind z
  variable_kept z (Named y) h = h
  variable_kept z (Fixed v) h = refl

  clock_kinds : (clock : Clock) → AllByRecursion (λ (on : ℕ × ℕ). HasArm (kind on.0) on.1) clock → AllByRecursion (λ (on : ℕ × ℕ). HasArm (kind on.0) on.1) (read_clock s clock)
  clock_kinds [] h = tt
  clock_kinds (on ∷ clock) h = (subst (λ k. HasArm k on.1) (sym (variable_kept on.0 (s on.0) (stands_kind on.0))) h.0, clock_kinds clock h.1)

  substituted_kinds : AllByRecursion (EqnKinds types callees n.variables) (substituted n).eqns
  substituted_kinds =
      all_kept (read_eqn s) keep (EqnKinds types callees n.variables) n.eqns
      (λ e a k.
      let q : EqnKinds types callees n.variables e = each_among (EqnKinds types callees n.variables) n.eqns e kinds a in
      record { right = right_kinds e.right (map kind e.targets) q.right; clock = clock_kinds e.clock q.clock; restart = q.restart })

  -- ---- clocks

  apart_by : (d e : FlatEqn) → AreApart d e → AreApart (read_eqn s d) (read_eqn s e)
  apart_by d e h x f g = by (h x f g)
    where
      by : (d ≡ e) ⊎ Part d.clock e.clock → (read_eqn s d ≡ read_eqn s e) ⊎ Part (read_clock s d.clock) (read_clock s e.clock)
      by (inl same) = inl (ap (read_eqn s) same)
      by (inr part) = inr (part-read s d.clock e.clock part)

  substituted_apart : DefineApart n.eqns → DefineApart (substituted n).eqns
  substituted_apart h =
      all_kept (read_eqn s) keep (λ (d : FlatEqn). AllByRecursion (AreApart d) (substituted n).eqns) n.eqns
      (λ d a k. all_kept (read_eqn s) keep (AreApart (read_eqn s d)) n.eqns
      (λ e b l. apart_by d e (each_among (AreApart d) n.eqns e (each_among (λ (c : FlatEqn). AllByRecursion (AreApart c) n.eqns) n.eqns d h a) b)))

  -- ---- all of it

  pub substituted-shape : NodeShape types callees n → NodeShape types callees (substituted n)
  substituted-shape h = record {
    name = h.name;
    within = substituted-within n h.within;
    no_inputs = substituted-no_inputs n h.no_inputs;
    outputs_behind = h.outputs_behind;
    outputs_differ = h.outputs_differ;
    kinds = substituted_kinds;
    values = h.values;
    targets_differ =
        all_kept (read_eqn s) keep (λ (e : FlatEqn). IsDistinct nat_eq e.targets) n.eqns (λ e a k. each_among (λ (d : FlatEqn). IsDistinct nat_eq d.targets) n.eqns e h.targets_differ a);
    apart = substituted_apart h.apart;
    short = all_kept (read_eqn s) keep IsShort n.eqns (λ e a k. let size : length e.clock ≤ 300 = each_among IsShort n.eqns e h.short a in omega (arith, size, length_read s e.clock));
    names_good = h.names_good;
    names_differ = h.names_differ;
    names_own = h.names_own;
    few = omega (arith, h.few, fewer (read_eqn s) keep n.eqns);
  }

  call_read : (earlier : List Machine) (r : Right) → CallIsKnown types callees earlier r → CallIsKnown types callees earlier (read_right s r)
  call_read earlier (operator op args) h = tt
  call_read earlier (register first next) h = tt
  call_read earlier (called f args) h = h

  pub substituted-known : (earlier : List Machine) → AllByRecursion (λ (e : FlatEqn). CallIsKnown types callees earlier e.right) n.eqns → AllByRecursion (λ (e : FlatEqn). CallIsKnown types callees earlier e.right) (substituted n).eqns
  substituted-known earlier h =
      all_kept (read_eqn s) keep (λ (e : FlatEqn). CallIsKnown types callees earlier e.right) n.eqns
      (λ e a k. call_read earlier e.right (each_among (λ (d : FlatEqn). CallIsKnown types callees earlier d.right) n.eqns e h a))
