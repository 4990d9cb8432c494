-- Which free places a circuit has early.
use Rattle.std.proofs.Common.{◌≡◌, ℕ, Bool, true, false, ◌&&◌, ◌||◌, if◌then◌else◌, IsTrue, List, [], ◌∷◌, inl, inr, refl, sym, subst, ◌∙◌}
use Rattle.hp_tree.specs.declared.program.Item.{Item}
use Rattle.hp_tree.specs.Instant.{Inputs, Place}
use Rattle.hp_tree.specs.Programs.{TypeDecl, Node}
use Rattle.hp_meaning.specs.Causal.RanksOfPoints.{same_place}
use Rattle.hp_meaning.proofs.CausalLemmas.Ranking.{place_same, same_place_refl}
use Rattle.hp_meaning.specs.Contract.FreePlaces.{IsFree, IsEarly}
use Rattle.hp_meaning.specs.Contract.Slots as slots
use Rattle.hp_meaning.specs.Contract.Slots.{register, free, input, control, shape_of, free_among}
use Rattle.hp_circuit.specs.declared.circuit.Role.{Role}
use Rattle.hp_circuit.specs.declared.circuit.Role.TheVariants as role
use Rattle.hp_circuit.specs.declared.circuit.Shape.{Shape}
use Rattle.hp_circuit.specs.declared.circuit.Slot.{Slot}
use Rattle.hp_circuit.specs.declared.kind.Kind.{Kind}
use Rattle.hp_circuit.specs.declared.kind.Kind.TheVariants.{Registers, Early, Control, Late}
use Rattle.hp_circuit.specs.Kinds.{role_kind, kind_of}
use Rattle.hp_drawing.specs.Kept as kept
use Rattle.hp_drawing.specs.Kept.{Kept, kept_as, kept_of, kept_slots}
use Rattle.hp_drawing.specs.Slotted.Slotted.{slots_as}
use Rattle.law_drawing.specs.Mirroring.Codes.{free_kind}
use Rattle.law_drawing.specs.Carried.Laws.{AreTold}
use Rattle.law_drawing.proofs.CarriedLemmas.Inputs.{InputsAlone}
use Rattle.law_drawing.specs.Carried.Early.{is_early, early_in, AreRight, IsRight}

-- ---- truth values

either : (a b : Bool) {C : Type 0} → IsTrue (a || b) → (IsTrue a → C) → (IsTrue b → C) → C
either true b h f g = f refl
either false b h f g = g h

both_true : (a b : Bool) {C : Type 0} → IsTrue (a && b) → (IsTrue a → IsTrue b → C) → C
both_true true b h f = f refl h
both_true false b h f = absurd cc

on_left : (a b : Bool) → IsTrue a → IsTrue (a || b)
on_left true b h = refl
on_left false b h = absurd cc

on_right : (a b : Bool) → IsTrue b → IsTrue (a || b)
on_right true b h = refl
on_right false b h = h

and_is : (a b : Bool) → IsTrue a → IsTrue b → IsTrue (a && b)
and_is true b h k = k
and_is false b h k = absurd cc

is-early : (k : Kind) → IsTrue (is_early k) → k ≡ Early
is-early Registers h = absurd cc
is-early Early h = refl
is-early Control h = absurd cc
is-early Late h = absurd cc

-- ---- a free slot is early or late

early-or-late : (r : Role) (s t : Shape) (b : Bool) {C : Type 0} → kept_as r s ≡ kept.free t → (role_kind r b ≡ Early → C) → (role_kind r b ≡ Late → C) → C
early-or-late (role.Register first next) s t b e f g = absurd cc
early-or-late role.Input s t b e f g = absurd cc
early-or-late role.Control s t b e f g = absurd cc
early-or-late (role.Free false) s t b e f g = g refl
early-or-late (role.Free true) s t false e f g = f refl
early-or-late (role.Free true) s t true e f g = g refl

kind-early : (early : Place → Bool) (p : Place) → IsTrue (early p) → Early ≡ free_kind [] early p
kind-early early p h = by (early p) h where
  by : (b : Bool) → IsTrue b → Early ≡ (if b then Early else Late)
  by true h = refl
  by false h = absurd cc

kind-late : (early : Place → Bool) (p : Place) → (IsTrue (early p) → ⊥) → Late ≡ free_kind [] early p
kind-late early p h = by (early p) h where
  by : (b : Bool) → (IsTrue b → ⊥) → Late ≡ (if b then Early else Late)
  by true h = absurd (h refl)
  by false h = refl

module _ (program : List Item) (n : Node) (steered : List Bool) where
  abbrev E : Place → Type 0
  E p = IsEarly program n p

  abbrev Right : List slots.Slot → List Slot → Type 0
  Right ss cs = AreRight program n steered ss cs

  -- what the circuit has early is early
  sound : (ss : List slots.Slot) (cs : List Slot) → Right ss cs → (p : Place) → IsTrue (early_in steered ss cs p) → E p
  sound [] cs r p h = absurd cc
  sound (register q slots.truth ∷ ss) [] r p h = absurd r
  sound (register q slots.truth ∷ ss) (c ∷ cs) r p h = sound ss cs r.1 p h
  sound (register q slots.mark ∷ ss) cs r p h = sound ss cs r p h
  sound (register q (slots.cons t m) ∷ ss) [] r p h = absurd r
  sound (register q (slots.cons t m) ∷ ss) (c ∷ cs) r p h = sound ss cs r.1 p h
  sound (free q t ∷ ss) [] r p h = absurd r
  sound (free q t ∷ ss) (c ∷ cs) r p h =
      either (same_place q p && is_early (kind_of steered c)) (early_in steered ss cs p) h
      (λ k. both_true (same_place q p) (is_early (kind_of steered c)) k (λ same early. subst E (place_same q p same) (r.0.0 (is-early (kind_of steered c) early))))
      (sound ss cs r.1 p)
  sound (input q t ∷ ss) [] r p h = absurd r
  sound (input q t ∷ ss) (c ∷ cs) r p h = sound ss cs r.1 p h
  sound (control q t ∷ ss) [] r p h = absurd r
  sound (control q t ∷ ss) (c ∷ cs) r p h = sound ss cs r.1 p h

  here : (q : Place) (k : Kind) → k ≡ Early → IsTrue (same_place q q && is_early k)
  here q k e = and_is (same_place q q) (is_early k) (same_place_refl q) (subst (λ k. IsTrue (is_early k)) (sym e) refl)

  module _ (no_input : (q : Place) → E (Inputs ∷ q) → ⊥) where
    -- what is early the circuit has early, where inputs are no early places
    complete : (ss : List slots.Slot) (cs : List Slot) → InputsAlone ss → Right ss cs → (p : Place) → IsFree (free_among ss) p → E p → IsTrue (early_in steered ss cs p)
    complete [] cs a r p f e = absurd f
    complete (register q slots.truth ∷ ss) [] a r p f e = absurd r
    complete (register q slots.truth ∷ ss) (c ∷ cs) a r p f e = complete ss cs a r.1 p f e
    complete (register q slots.mark ∷ ss) cs a r p f e = complete ss cs a r p f e
    complete (register q (slots.cons t m) ∷ ss) [] a r p f e = absurd r
    complete (register q (slots.cons t m) ∷ ss) (c ∷ cs) a r p f e = complete ss cs a r.1 p f e
    complete (free q t ∷ ss) [] a r p f e = absurd r
    complete (free q t ∷ ss) (c ∷ cs) a r p (inl same) e =
        on_left (same_place q p && is_early (kind_of steered c)) (early_in steered ss cs p)
        (subst (λ z. IsTrue (same_place q z && is_early (kind_of steered c))) (sym same) (here q (kind_of steered c) (r.0.1 (subst E same e))))
    complete (free q t ∷ ss) (c ∷ cs) a r p (inr f) e = on_right (same_place q p && is_early (kind_of steered c)) (early_in steered ss cs p) (complete ss cs a r.1 p f e)
    complete (input q t ∷ ss) [] a r p f e = absurd r
    complete (input q t ∷ ss) (c ∷ cs) a r p (inl same) e = absurd (no_input a.0.0 (subst E (same ∙ a.0.1) e))
    complete (input q t ∷ ss) (c ∷ cs) a r p (inr f) e = complete ss cs a.1 r.1 p f e
    complete (control q t ∷ ss) [] a r p f e = absurd r
    complete (control q t ∷ ss) (c ∷ cs) a r p f e = complete ss cs a r.1 p f e

  module _ (types : List TypeDecl) (first : Place → ℕ) (early : Place → Bool) (early-is : (p : Place) → IsTrue (early p) → E p) where
    tail-kept : (c : Slot) (cs : List Slot) (k : Kept) (ks : List Kept) → kept_slots (c ∷ cs) ≡ k ∷ ks → kept_slots cs ≡ ks
    tail-kept c cs k ks e = cc

    head-kept : (c : Slot) (cs : List Slot) (k : Kept) (ks : List Kept) → kept_slots (c ∷ cs) ≡ k ∷ ks → kept_of c ≡ k
    head-kept c cs k ks e = cc

    -- of each free slot of some, where all that these have early is told
    told : (ss : List slots.Slot) (cs : List Slot) → kept_slots cs ≡ slots_as types first ss → Right ss cs → ((p : Place) → IsTrue (early_in steered ss cs p) → IsTrue (early p)) → AreTold early steered ss cs
    told [] cs e r h = tt
    told (register q slots.truth ∷ ss) [] e r h = absurd r
    told (register q slots.truth ∷ ss) (c ∷ cs) e r h = (tt, told ss cs (tail-kept c cs _ (slots_as types first ss) e) r.1 h)
    told (register q slots.mark ∷ ss) cs e r h = told ss cs e r h
    told (register q (slots.cons t m) ∷ ss) [] e r h = absurd r
    told (register q (slots.cons t m) ∷ ss) (c ∷ cs) e r h = (tt, told ss cs (tail-kept c cs _ (slots_as types first ss) e) r.1 h)
    told (free q t ∷ ss) [] e r h = absurd r
    told (free q t ∷ ss) (c ∷ cs) e r h = (
      early-or-late c.role c.shape _ _ (head-kept c cs _ (slots_as types first ss) e)
          (λ is. is ∙ kind-early early q (h q (on_left (same_place q q && is_early (kind_of steered c)) (early_in steered ss cs q) (here q (kind_of steered c) is))))
          (λ is. is ∙ kind-late early q (λ k. let no : Late ≡ Early = sym is ∙ r.0.1 (early-is q k) in absurd cc)),
      told ss cs (tail-kept c cs _ (slots_as types first ss) e) r.1 (λ p k. h p (on_right (same_place q p && is_early (kind_of steered c)) (early_in steered ss cs p) k)),
    )
    told (input q t ∷ ss) [] e r h = absurd r
    told (input q t ∷ ss) (c ∷ cs) e r h = (tt, told ss cs (tail-kept c cs _ (slots_as types first ss) e) r.1 h)
    told (control q t ∷ ss) [] e r h = absurd r
    told (control q t ∷ ss) (c ∷ cs) e r h = (tt, told ss cs (tail-kept c cs _ (slots_as types first ss) e) r.1 h)

  pub right : (types : List TypeDecl) (first : Place → ℕ) (ss : List slots.Slot) (cs : List Slot) → ((q : Place) → E (Inputs ∷ q) → ⊥) → InputsAlone ss → kept_slots cs ≡ slots_as types first ss → Right ss cs
      → IsRight program n steered ss cs
  right types first ss cs no_input alone e r =
      record {
        told = told types first (early_in steered ss cs) (sound ss cs r) ss cs e r (λ p h. h);
        early = λ p f. (sound ss cs r p, complete no_input ss cs alone r p f);
      }
