-- Instants of which no place holds the mark, and of which a place over two integers holds a truth value or an integer.
use Rattle.std.proofs.Common.{◌≡◌, ℕ, List, [], ◌∷◌, ◌++◌, map, refl, sym, subst, ◌∙◌, ◌⊎◌}
use Rattle.std.specs.Prelude.{ℤ, Bool, true, false, if◌then◌else◌}
use Rattle.hp_base.specs.declared.ty.Ty.{Ty}
use Rattle.hp_base.specs.declared.ty.Ty.TheVariants as ty
use Rattle.hp_base.specs.declared.value.Value.{Value}
use Rattle.hp_base.specs.declared.value.Value.TheVariants.{Absent, B, E, I, Star}
use Rattle.hp_tree.specs.Blocks.{Decl}
use Rattle.hp_tree.specs.Programs.{TypeDecl}
use Rattle.hp_tree.specs.Values.{IsOf, AreOf}
use Rattle.hp_tree.specs.Instant.{Step, Inputs, Controls, Body, Observer, Assume, Enforce, Named, Fresh, Equations, Head, Tail, Right, Test, Arms as ArmsOf, States as StatesOf, Until, Unless, Active, Next, Pending, First, Second, Third, Args, Instance, Place, Instant, part, nothing, alone, with_one, with_two, with_three, in_row, with_row, with_instance, of_two, in_block, in_right, with_arms, with_body, in_state, with_words, in_observer, in_node}
use Rattle.law_values.specs.Valued.Fitting.{IsThere}

abbrev pub IsFlag : Value → Type 0
IsFlag v = (b : Bool) × (v ≡ B b)

abbrev pub IsNumber : Value → Type 0
IsNumber v = (n : ℤ) × (v ≡ I n)

-- what stands over two values
abbrev pub Joined : Value → Value → Value → Type 0
Joined v a b = (m n : ℤ) → a ≡ I m → b ≡ I n → IsFlag v ⊎ IsNumber v

abbrev pub SolidAt : Instant → Place → Type 0
SolidAt i p = (i p ≡ Star → ⊥) × Joined (i p) (i (p ++ (First ∷ []))) (i (p ++ (Second ∷ [])))

abbrev pub Solid : Instant → Type 0
Solid i = (p : Place) → SolidAt i p

-- ---- values

absent_number : {X : Type 0} (v : Value) (m : ℤ) → v ≡ Absent → v ≡ I m → X
absent_number v m e f = absurd (let h : Absent ≡ I m = sym e ∙ f in cc)

pub absent_star : (v : Value) → v ≡ Absent → v ≡ Star → ⊥
absent_star v e f = absurd (let h : Absent ≡ Star = sym e ∙ f in cc)

pub flag_star : (v : Value) (b : Bool) → v ≡ B b → v ≡ Star → ⊥
flag_star v b e f = absurd (let h : B b ≡ Star = sym e ∙ f in cc)

pub enum_star : (v : Value) (t k : ℕ) → v ≡ E t k → v ≡ Star → ⊥
enum_star v t k e f = absurd (let h : E t k ≡ Star = sym e ∙ f in cc)

pub first_absent : (v a b : Value) → a ≡ Absent → Joined v a b
first_absent v a b e m n f g = absent_number a m e f

pub second_absent : (v a b : Value) → b ≡ Absent → Joined v a b
second_absent v a b e m n f g = absent_number b n e g

pub of_star : (types : List TypeDecl) (t : Ty) (v : Value) → IsOf types t v → v ≡ Star → ⊥
of_star types t v h e = by t (subst (λ z. IsOf types t z) e h)
  where
    by : (t : Ty) → IsOf types t Star → ⊥
    by ty.Bool h = h
    by ty.Int h = h
    by (ty.Enum x) h = h

-- ---- instants

pub solid_of : (i : Instant) → (i [] ≡ Star → ⊥) → Joined (i []) (i (First ∷ [])) (i (Second ∷ [])) → ((s : Step) → Solid (part s i)) → Solid i
solid_of i a j f [] = (a, j)
solid_of i a j f (s ∷ p) = f s p

pub same_at : (i j : Instant) (p : Place) → ((q : Place) → i q ≡ j q) → SolidAt j p → SolidAt i p
same_at i j p e h = ((λ f. h.0 (sym (e p) ∙ f)), λ m n f g. subst (λ z. IsFlag z ⊎ IsNumber z) (sym (e p)) (h.1 m n (sym (e (p ++ (First ∷ []))) ∙ f) (sym (e (p ++ (Second ∷ []))) ∙ g)))

pub same_solid : (i j : Instant) → ((q : Place) → i q ≡ j q) → Solid j → Solid i
same_solid i j e h p = same_at i j p e (h p)

pub nothing_solid : (i : Instant) → ((p : Place) → i p ≡ Absent) → Solid i
nothing_solid i h p = (absent_star (i p) (h p), first_absent (i p) (i (p ++ (First ∷ []))) (i (p ++ (Second ∷ []))) (h (p ++ (First ∷ []))))

pub alone_solid : (i : Instant) → (i [] ≡ Star → ⊥) → ((s : Step) (p : Place) → i (s ∷ p) ≡ Absent) → Solid i
alone_solid i a h = solid_of i a (first_absent (i []) (i (First ∷ [])) (i (Second ∷ [])) (h First [])) (λ s. nothing_solid (part s i) (h s))

-- a part that is there, or not
pub there_solid : (c d : Bool) (X : Instant) (P : Instant → Type 0) (i : Instant) → ((p : Place) → i p ≡ (if c then X else nothing) p) → IsThere d P i → (((p : Place) → i p ≡ X p) → P i → Solid i) → Solid i
there_solid true true X P i m h k = k m h
there_solid true false X P i m h k = nothing_solid i h
there_solid false d X P i m h k = nothing_solid i m

module _ (i : Instant) where
  pub one_solid : (v : Value) (j : Instant) → ((p : Place) → i p ≡ with_one v j p) → (i [] ≡ Star → ⊥) → Solid (part First i) → Solid i
  one_solid v j m a h = solid_of i a (second_absent (i []) (i (First ∷ [])) (i (Second ∷ [])) (m (Second ∷ []))) by
    where
      by : (s : Step) → Solid (part s i)
      by First = h
      by s = nothing_solid (part s i) (λ p. m (s ∷ p))

  pub two_solid : (v : Value) (j k : Instant) → ((p : Place) → i p ≡ with_two v j k p) → (i [] ≡ Star → ⊥) → Joined (i []) (i (First ∷ [])) (i (Second ∷ [])) → Solid (part First i) → Solid (part Second i) → Solid i
  two_solid v j k m a q h l = solid_of i a q by
    where
      by : (s : Step) → Solid (part s i)
      by First = h
      by Second = l
      by s = nothing_solid (part s i) (λ p. m (s ∷ p))

  pub three_solid : (v : Value) (j k l : Instant) → ((p : Place) → i p ≡ with_three v j k l p) → (i [] ≡ Star → ⊥) → Joined (i []) (i (First ∷ [])) (i (Second ∷ [])) → Solid (part First i) → Solid (part Second i) → Solid (part Third i) → Solid i
  three_solid v j k l m a q hj hk hl = solid_of i a q by
    where
      by : (s : Step) → Solid (part s i)
      by First = hj
      by Second = hk
      by Third = hl
      by s = nothing_solid (part s i) (λ p. m (s ∷ p))

  pub row_solid : (j : Instant) (js : List Instant) → ((p : Place) → i p ≡ in_row (j ∷ js) p) → Solid (part Head i) → Solid (part Tail i) → Solid i
  row_solid j js m h l = solid_of i (absent_star (i []) (m [])) (first_absent (i []) (i (First ∷ [])) (i (Second ∷ [])) (m (First ∷ []))) by
    where
      by : (s : Step) → Solid (part s i)
      by Head = h
      by Tail = l
      by s = nothing_solid (part s i) (λ p. m (s ∷ p))

  pub merge_solid : (v : Value) (js : List Instant) → ((p : Place) → i p ≡ with_row v js p) → (i [] ≡ Star → ⊥) → Solid (part Args i) → Solid i
  merge_solid v js m a h = solid_of i a (first_absent (i []) (i (First ∷ [])) (i (Second ∷ [])) (m (First ∷ []))) by
    where
      by : (s : Step) → Solid (part s i)
      by Args = h
      by s = nothing_solid (part s i) (λ p. m (s ∷ p))

  pub call_solid : (v : Value) (js : List Instant) (j : Instant) → ((p : Place) → i p ≡ with_instance v js j p) → (i [] ≡ Star → ⊥) → Solid (part Args i) → Solid (part Instance i) → Solid i
  call_solid v js j m a h l = solid_of i a (first_absent (i []) (i (First ∷ [])) (i (Second ∷ [])) (m (First ∷ []))) by
    where
      by : (s : Step) → Solid (part s i)
      by Args = h
      by Instance = l
      by s = nothing_solid (part s i) (λ p. m (s ∷ p))

  pub both_solid : (j k : Instant) → ((p : Place) → i p ≡ of_two j k p) → Solid (part Head i) → Solid (part Tail i) → Solid i
  both_solid j k m h l = solid_of i (absent_star (i []) (m [])) (first_absent (i []) (i (First ∷ [])) (i (Second ∷ [])) (m (First ∷ []))) by
    where
      by : (s : Step) → Solid (part s i)
      by Head = h
      by Tail = l
      by s = nothing_solid (part s i) (λ p. m (s ∷ p))

  pub block_solid : (named : List ℕ → Value) (fresh : Bool) (j : Instant) → ((p : Place) → i p ≡ in_block named (B fresh) j p) → ((x : List ℕ) → i (Named x ∷ []) ≡ Star → ⊥) → Solid (part Equations i) → Solid i
  block_solid named fresh j m a h = solid_of i (absent_star (i []) (m [])) (first_absent (i []) (i (First ∷ [])) (i (Second ∷ [])) (m (First ∷ []))) by
    where
      by : (s : Step) → Solid (part s i)
      by (Named x) = alone_solid (part (Named x) i) (a x) (λ t p. m (Named x ∷ t ∷ p))
      by Fresh = alone_solid (part Fresh i) (flag_star (i (Fresh ∷ [])) fresh (m (Fresh ∷ []))) (λ t p. m (Fresh ∷ t ∷ p))
      by Equations = h
      by s = nothing_solid (part s i) (λ p. m (s ∷ p))

  pub right_solid : (j : Instant) → ((p : Place) → i p ≡ in_right j p) → Solid (part Right i) → Solid i
  right_solid j m h = solid_of i (absent_star (i []) (m [])) (first_absent (i []) (i (First ∷ [])) (i (Second ∷ [])) (m (First ∷ []))) by
    where
      by : (s : Step) → Solid (part s i)
      by Right = h
      by s = nothing_solid (part s i) (λ p. m (s ∷ p))

  pub arms_solid : (j k : Instant) → ((p : Place) → i p ≡ with_arms j k p) → Solid (part Test i) → Solid (part ArmsOf i) → Solid i
  arms_solid j k m h l = solid_of i (absent_star (i []) (m [])) (first_absent (i []) (i (First ∷ [])) (i (Second ∷ [])) (m (First ∷ []))) by
    where
      by : (s : Step) → Solid (part s i)
      by Test = h
      by ArmsOf = l
      by s = nothing_solid (part s i) (λ p. m (s ∷ p))

  pub body_solid : (j k : Instant) → ((p : Place) → i p ≡ with_body j k p) → Solid (part Test i) → Solid (part Body i) → Solid i
  body_solid j k m h l = solid_of i (absent_star (i []) (m [])) (first_absent (i []) (i (First ∷ [])) (i (Second ∷ [])) (m (First ∷ []))) by
    where
      by : (s : Step) → Solid (part s i)
      by Test = h
      by Body = l
      by s = nothing_solid (part s i) (λ p. m (s ∷ p))

  pub state_solid : (j k l : Instant) → ((p : Place) → i p ≡ in_state j k l p) → Solid (part Body i) → Solid (part Until i) → Solid (part Unless i) → Solid i
  state_solid j k l m hj hk hl = solid_of i (absent_star (i []) (m [])) (first_absent (i []) (i (First ∷ [])) (i (Second ∷ [])) (m (First ∷ []))) by
    where
      by : (s : Step) → Solid (part s i)
      by Body = hj
      by Until = hk
      by Unless = hl
      by s = nothing_solid (part s i) (λ p. m (s ∷ p))

  pub words_solid : (k l : ℕ) (c : Bool) (j : Instant) → ((p : Place) → i p ≡ with_words (E 0 k) (E 0 l) (B c) j p) → Solid (part StatesOf i) → Solid i
  words_solid k l c j m h = solid_of i (absent_star (i []) (m [])) (first_absent (i []) (i (First ∷ [])) (i (Second ∷ [])) (m (First ∷ []))) by
    where
      by : (s : Step) → Solid (part s i)
      by Active = alone_solid (part Active i) (enum_star (i (Active ∷ [])) 0 k (m (Active ∷ []))) (λ t p. m (Active ∷ t ∷ p))
      by Next = alone_solid (part Next i) (enum_star (i (Next ∷ [])) 0 l (m (Next ∷ []))) (λ t p. m (Next ∷ t ∷ p))
      by Pending = alone_solid (part Pending i) (flag_star (i (Pending ∷ [])) c (m (Pending ∷ []))) (λ t p. m (Pending ∷ t ∷ p))
      by StatesOf = h
      by s = nothing_solid (part s i) (λ p. m (s ∷ p))

pub observer_solid : (j k l : Instant) → Solid j → Solid k → Solid l → Solid (in_observer j k l)
observer_solid j k l hj hk hl = solid_of (in_observer j k l) (absent_star Absent refl) (first_absent Absent Absent Absent refl) by
  where
    by : (s : Step) → Solid (part s (in_observer j k l))
    by Observer = hj
    by Assume = hk
    by Enforce = hl
    by s = nothing_solid (part s (in_observer j k l)) (λ p. refl)

-- values of some declarations, in a row
pub values_solid : (types : List TypeDecl) (ds : List Decl) (vs : List Value) (i : Instant) → AreOf types ds vs → ((p : Place) → i p ≡ in_row (map alone vs) p) → Solid i
values_solid types [] [] i h m = nothing_solid i m
values_solid types [] (v ∷ vs) i h m = absurd h
values_solid types (d ∷ ds) [] i h m = absurd h
values_solid types (d ∷ ds) (v ∷ vs) i h m =
    row_solid i (alone v) (map alone vs) m (alone_solid (part Head i) (λ e. of_star types d.ty v h.0 (sym (m (Head ∷ [])) ∙ e)) (λ s p. m (Head ∷ s ∷ p))) (values_solid types ds vs (part Tail i) h.1 (λ p. m (Tail ∷ p)))

pub node_solid : (i : Instant) (outputs : List ℕ → Value) (inputs controls : List Value) (body observer : Instant) → ((p : Place) → i p ≡ in_node outputs inputs controls body observer p) → ((x : List ℕ) → i (Named x ∷ []) ≡ Star → ⊥) → Solid (part Inputs i) → Solid (part Controls i) → Solid (part Body i) → Solid observer → ((x : List ℕ) (s : Step) (p : Place) → observer (Named x ∷ s ∷ p) ≡ Absent) → ((s : Step) (p : Place) → observer (Fresh ∷ s ∷ p) ≡ Absent) → Solid i
node_solid i outputs inputs controls body observer m a hi hc hb hg named fresh =
    solid_of i (λ e. (hg []).0 (sym (m []) ∙ e)) (λ k n e f. subst (λ z. IsFlag z ⊎ IsNumber z) (sym (m [])) ((hg []).1 k n (sym (m (First ∷ [])) ∙ e) (sym (m (Second ∷ [])) ∙ f))) by
  where
    by : (s : Step) → Solid (part s i)
    by (Named x) = alone_solid (part (Named x) i) (a x) (λ t p. m (Named x ∷ t ∷ p) ∙ named x t p)
    by Fresh = alone_solid (part Fresh i) (flag_star (i (Fresh ∷ [])) false (m (Fresh ∷ []))) (λ t p. m (Fresh ∷ t ∷ p) ∙ fresh t p)
    by Inputs = hi
    by Controls = hc
    by Body = hb
    by s = same_solid (part s i) (part s observer) (λ p. m (s ∷ p)) (λ p. hg (s ∷ p))
