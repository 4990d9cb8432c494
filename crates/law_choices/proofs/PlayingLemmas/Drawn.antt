-- What is told of the slots of a circuit is which free places of the node are early.
use Rattle.std.proofs.Common.{◌≡◌, ◌↔◌, inl, inr, Bool, true, false, if◌then◌else◌, List, [], ◌∷◌, ◌++◌, map, refl, sym, ap, ap₂, subst, ◌∙◌}
use Rattle.std.specs.Prelude.{IsTrue, slice_index_or}
use Rattle.hp_tree.specs.Meaning.{types_of}
use Rattle.hp_tree.specs.Programs.{TypeDecl}
use Rattle.hp_tree.specs.Instant.{Place}
use Rattle.hp_circuit.specs.declared.circuit.Role.{Role}
use Rattle.hp_circuit.specs.declared.circuit.Role.TheVariants as role
use Rattle.hp_circuit.specs.declared.circuit.Shape.{Shape}
use Rattle.hp_circuit.specs.declared.circuit.Slot.{Slot}
use Rattle.hp_circuit.specs.declared.given.Given.{Given}
use Rattle.hp_circuit.specs.declared.kind.Kind.{Kind}
use Rattle.hp_circuit.specs.declared.kind.Kind.TheVariants.{Registers, Early, Control, Late}
use Rattle.hp_circuit.specs.Giving.{given_of, is_early, role_given, slot_given}
use Rattle.hp_circuit.specs.Kinds.{kind_of, role_kind}
use Rattle.hp_meaning.specs.Contract.FreePlaces.{IsFree}
use Rattle.hp_meaning.specs.Contract.Slots as slots
use Rattle.hp_meaning.specs.Contract.Slots.{control, free, free_among, input, register, slots_of_node}
use Rattle.law_drawing.specs.Carried.Early.{early_in}
use Rattle.law_drawing.specs.Mirroring.Codes.{AreSlotsOf}
use Rattle.law_drawing.specs.Mirrors.Drawn.{DrawnCarriesLaw, DrawnMirrorsLaw}
use Rattle.law_choices.specs.Playing.Drawn.{DrawnFlagsLaw}
use Rattle.law_choices.specs.Playing.Mirrored.{early_flags}

-- ---- one slot

abbrev told : List Given → List Bool
told gs = map (λ (g : Given). g.is_early) gs

-- what is told of a slot of a kind
abbrev told_of_kind : Kind → List Bool
told_of_kind Registers = []
told_of_kind Early = true ∷ []
told_of_kind Control = []
told_of_kind Late = false ∷ []

role-told : (r : Role) (shape : Shape) (steered : Bool) → told (role_given r shape (is_early (role_kind r steered))) ≡ told_of_kind (role_kind r steered)
role-told (role.Register first next) shape steered = refl
role-told role.Input shape steered = refl
role-told role.Control shape steered = refl
role-told (role.Free false) shape steered = refl
role-told (role.Free true) shape false = refl
role-told (role.Free true) shape true = refl

slot-told : (steered : List Bool) (c : Slot) (k : Kind) → kind_of steered c ≡ k → told (slot_given steered c) ≡ told_of_kind k
slot-told steered c k e = role-told c.role c.shape (slice_index_or steered c.wire false) ∙ ap told_of_kind e

told-append : (gs hs : List Given) → told (gs ++ hs) ≡ told gs ++ told hs
told-append [] hs = refl
told-append (g ∷ gs) hs = ap (λ bs. g.is_early ∷ bs) (told-append gs hs)

-- ---- all slots

module _ (types : List TypeDecl) (early : Place → Bool) (steered : List Bool) where
  next : (c : Slot) (cs : List Slot) (k : Kind) (bs : List Bool) → kind_of steered c ≡ k → told (given_of steered cs) ≡ bs → told (given_of steered (c ∷ cs)) ≡ told_of_kind k ++ bs
  next c cs k bs e h = told-append (slot_given steered c) (given_of steered cs) ∙ ap₂ (λ a b. a ++ b) (slot-told steered c k e) h

  free-told : (b : Bool) → told_of_kind (if b then Early else Late) ≡ b ∷ []
  free-told true = refl
  free-told false = refl

  all-told : (ss : List slots.Slot) (cs : List Slot) → AreSlotsOf types early steered ss cs → told (given_of steered cs) ≡ early_flags early ss
  all-told [] cs h = ap (λ xs. told (given_of steered xs)) h
  all-told (register p slots.truth ∷ ss) [] h = absurd h
  all-told (register p slots.truth ∷ ss) (c ∷ cs) h = next c cs Registers (early_flags early ss) h.0.0 (all-told ss cs h.1)
  all-told (register p slots.mark ∷ ss) cs h = all-told ss cs h
  all-told (register p (slots.cons t m) ∷ ss) [] h = absurd h
  all-told (register p (slots.cons t m) ∷ ss) (c ∷ cs) h = next c cs Registers (early_flags early ss) h.0.0 (all-told ss cs h.1)
  all-told (free p t ∷ ss) [] h = absurd h
  all-told (free p t ∷ ss) (c ∷ cs) h =
      next c cs (if early p then Early else Late) (early_flags early ss) h.0.0 (all-told ss cs h.1) ∙ ap (λ bs. bs ++ early_flags early ss) (free-told (early p))
  all-told (input p t ∷ ss) [] h = absurd h
  all-told (input p t ∷ ss) (c ∷ cs) h = next c cs Early (early_flags early ss) h.0.0 (all-told ss cs h.1)
  all-told (control p t ∷ ss) [] h = absurd h
  all-told (control p t ∷ ss) (c ∷ cs) h = next c cs Control (early_flags early ss) h.0.0 (all-told ss cs h.1)

-- ---- words that say the same

same-word : {P : Type 0} (a b : Bool) → IsTrue a ↔ P → IsTrue b ↔ P → a ≡ b
same-word true b f g = sym (g.1 (f.0 refl))
same-word false true f g = f.1 (g.0 refl)
same-word false false f g = refl

flags-same : (ss : List slots.Slot) (e f : Place → Bool) → ((p : Place) → IsFree (free_among ss) p → e p ≡ f p) → early_flags e ss ≡ early_flags f ss
flags-same [] e f h = refl
flags-same (register p k ∷ ss) e f h = flags-same ss e f h
flags-same (free p t ∷ ss) e f h = ap₂ (λ b bs. b ∷ bs) (h p (inl refl)) (flags-same ss e f (λ q i. h q (inr i)))
flags-same (input p t ∷ ss) e f h = ap (λ bs. true ∷ bs) (flags-same ss e f (λ q i. h q (inr i)))
flags-same (control p t ∷ ss) e f h = flags-same ss e f h

pub drawn_flags_law : DrawnCarriesLaw → DrawnMirrorsLaw → DrawnFlagsLaw
drawn_flags_law carries mirrors program after ranks order earlier n stands c m is made =
    let M = mirrors program after ranks order earlier n stands c m is made in
    let both = carries program after ranks order earlier n stands c is made.steered made.are_steered in
    let ss = slots_of_node after n in
    let cs = c.slots.items in
    let early = early_in made.steered ss cs in
    record {
      mirrors = M;
      flags = all-told (types_of after) early made.steered ss cs (both.0).slots ∙ flags-same ss early M.is_early (λ p f. same-word (early p) (M.is_early p) (both.1 p f) (M.early_places p f));
    }
