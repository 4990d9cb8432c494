-- What a machine that mirrors a node prefers of bits is what is preferred of the node's choices.
use Rattle.std.specs.List.{fold}
use Rattle.std.proofs.Common.{◌≡◌, ◌<◌, ℕ, suc, ◌+◌, List, [], ◌∷◌, ◌++◌, length, map, sum, slice_index_or, refl, sym, ap, ap₂, subst, ◌∙◌, append-nil, arith}
use Rattle.std.proofs.lemmas.List.{length-append, length-replicate}
use Rattle.std.specs.Prelude.{false}
use Rattle.hp_base.specs.declared.ty.Ty.{Ty}
use Rattle.hp_base.specs.declared.ty.Ty.TheVariants as ty
use Rattle.hp_base.specs.declared.value.Value.{Value}
use Rattle.hp_tree.specs.declared.program.Item.{Item}
use Rattle.hp_tree.specs.Blocks.{Decl}
use Rattle.hp_tree.specs.Instant.{Inputs, Controls, Head, Tail, Place, Instant, alone, in_row, nothing}
use Rattle.hp_tree.specs.Meaning.{types_of, controls_of}
use Rattle.hp_tree.specs.Operators.{constructor_from}
use Rattle.hp_tree.specs.Programs.{TypeDecl, Node}
use Rattle.hp_tree.specs.Values.{constructors_of}
use Rattle.hp_meaning.specs.Causal.Sources.{below}
use Rattle.hp_names.specs.Rules.{WellNamed}
use Rattle.hp_names.specs.Scopes.{nothing as nothing_named}
use Rattle.hp_boolx.specs.Search.{Bits}
use Rattle.hp_boolx.specs.Game.{Before}
use Rattle.hp_meaning.specs.Contract.Codes.{width, cons_number, code}
use Rattle.hp_meaning.specs.Contract.Game.{Choice, IsChoiceOf, AreChoices, choices_of, preferred}
use Rattle.hp_meaning.specs.Contract.Slots.{Slot, Shape, truth, mark, cons, FreePlace, input, control, shape_of, width_of, slots_of_node}
use Rattle.law_games.specs.Mirror.Choices.{choice_bits, BitsInOrder}
use Rattle.law_games.specs.Mirror.Mirrored.{codes_at, controls_among, given_with, preferred_bits, preferred_at, type_width, widths_at}
use Rattle.law_games.proofs.MirrorLemmas.SlotLists.{controls_joined, no_controls}
use Rattle.law_games.proofs.ReadyGamesLemmas.Constructors.{have_own}
use Rattle.law_games.proofs.ReadyGamesLemmas.Settled.{same_types, settled}
use Rattle.law_drawing.proofs.MirroringLemmas.Numbered.{have_places, numbered_from}
use Rattle.law_drawing.proofs.CarriedLemmas.Inputs.{row_slots, lasts_slots, lasts, inner_slots, inner_free}
use Rattle.law_games.specs.Forced.Laws.{MachineChoicesLaw}
use Rattle.law_drawing.specs.Mirrors.Choices.{PreferredLaw, ChosenLaw}
use Rattle.law_drawing.proofs.MirrorsLemmas.Preferred.{Numbered, row_bits, row_liked, row_first, row_own, row_order}

-- ---- the slots of controllable variables

abbrev free_of : (Place → Ty → Slot) → Place → Ty → List Slot
free_of kind p ty.Int = []
free_of kind p t = kind p t ∷ []

inputs_apart : (ds : List Decl) (w : Place → Place) → controls_among (row_slots input ds w) ≡ []
inputs_apart [] w = refl
inputs_apart (d ∷ ds) w = by d.ty (inputs_apart ds (below Tail w))
  where
    by : (t : Ty) → controls_among (row_slots input ds (below Tail w)) ≡ [] → controls_among (free_of input (w (Head ∷ [])) t ++ row_slots input ds (below Tail w)) ≡ []
    by ty.Bool e = e
    by ty.Int e = e
    by (ty.Enum t) e = e

abbrev here : Place → Place
here p = p

abbrev row : Node → List Slot
row n = row_slots control (controls_of n.contract) (below Controls here)

controls_are : (program : List Item) (n : Node) → controls_among (slots_of_node program n) ≡ controls_among (row n)
controls_are program n =
    let ins = row_slots input n.inputs (below Inputs here) in
    let own = lasts_slots (types_of program) n.outputs here in
    let inner = inner_slots program n in
    controls_joined ins (own ++ (row n ++ inner))
    ∙ ap₂ (λ ps qs. ps ++ qs) (inputs_apart n.inputs (below Inputs here))
    (controls_joined own (row n ++ inner)
    ∙ ap₂ (λ ps qs. ps ++ qs) (no_controls own (lasts (types_of program) n.outputs here))
    (controls_joined (row n) inner ∙ ap (λ ps. controls_among (row n) ++ ps) (no_controls inner (inner_free program n)) ∙ append-nil (controls_among (row n))))

-- ---- their bits

module _ (types : List TypeDecl) where
  codes_row : (ds : List Decl) (c : Choice) (w : Place → Place) (root : Instant) → AreChoices types ds c → ((p : Place) → root (w p) ≡ in_row (map alone c) p)
      → codes_at types (controls_among (row_slots control ds w)) root ≡ row_bits types ds c
  codes_row [] [] w root a h = refl
  codes_row [] (v ∷ c) w root a h = absurd a
  codes_row (d ∷ ds) [] w root a h = absurd a
  codes_row (d ∷ ds) (v ∷ c) w root a h = by d.ty (h (Head ∷ [])) (codes_row ds c (below Tail w) root a.1 (λ p. h (Tail ∷ p)))
    where
      by : (t : Ty) → root (w (Head ∷ [])) ≡ v → codes_at types (controls_among (row_slots control ds (below Tail w))) root ≡ row_bits types ds c
          → codes_at types (controls_among (free_of control (w (Head ∷ [])) t ++ row_slots control ds (below Tail w))) root ≡ code types t v ++ row_bits types ds c
      by ty.Bool e f = ap₂ (λ v bs. code types ty.Bool v ++ bs) e f
      by ty.Int e f = f
      by (ty.Enum t) e f = ap₂ (λ v bs. code types (ty.Enum t) v ++ bs) e f

  liked_row : (ds : List Decl) (w : Place → Place) → preferred_at types (controls_among (row_slots control ds w)) ≡ row_liked types ds
  liked_row [] w = refl
  liked_row (d ∷ ds) w = by d.ty (liked_row ds (below Tail w))
    where
      by : (t : Ty) → preferred_at types (controls_among (row_slots control ds (below Tail w))) ≡ row_liked types ds
          → preferred_at types (controls_among (free_of control (w (Head ∷ [])) t ++ row_slots control ds (below Tail w))) ≡ preferred_bits (shape_of types t) ++ row_liked types ds
      by ty.Bool e = ap (λ bs. preferred_bits (shape_of types ty.Bool) ++ bs) e
      by ty.Int e = e
      by (ty.Enum t) e = ap (λ bs. preferred_bits (shape_of types (ty.Enum t)) ++ bs) e

  liked_long : (s : Shape) → length (preferred_bits s) ≡ width_of s
  liked_long truth = refl
  liked_long mark = refl
  liked_long (cons t m) = length-replicate (width m) false

  long_from : (a : ℕ) (ps : List FreePlace) → a + length (preferred_at types ps) ≡ fold (λ x y. x + y) a (widths_at types ps)
  long_from a [] = omega arith
  long_from a (p ∷ ps) =
      let more = long_from (a + type_width types p) ps in
      let both = length-append (preferred_bits (shape_of types p.1)) (preferred_at types ps) in
      let one = liked_long (shape_of types p.1) in
      let e : a + length (preferred_at types (p ∷ ps)) ≡ (a + type_width types p) + length (preferred_at types ps) = omega (arith, both, one) in
      e ∙ more

  long : (ps : List FreePlace) → length (preferred_at types ps) ≡ sum (widths_at types ps)
  long ps = let e = long_from 0 ps in let z : length (preferred_at types ps) ≡ 0 + length (preferred_at types ps) = omega arith in z ∙ e

-- ---- constructors are numbered in order

abbrev nth : List (List ℕ) → ℕ → List ℕ
nth cs k = slice_index_or cs k []

numbered_all : (f : List ℕ → Value) (cs : List (List ℕ)) (s : ℕ) → ((k : ℕ) → k < length cs → cons_number (f (nth cs k)) ≡ s + k) → Numbered s (map f cs)
numbered_all f [] s h = tt
numbered_all f (c ∷ cs) s h =
    (h 0 (omega arith) ∙ omega arith, numbered_all f cs (suc s) (λ k l. h (suc k) (omega (arith, l)) ∙ omega arith))

counted : (program : List Item) → WellNamed program → (t : List ℕ) → Numbered 0 (choices_of (types_of program) (ty.Enum t))
counted program h t =
    let types = types_of program in
    numbered_all (constructor_from 0 types) (constructors_of types t) 0
    (λ k l. ap cons_number (numbered_from types (have_own program nothing_named h) (have_places program nothing_named h) t 0 k l).1 ∙ omega arith)

-- ---- a node

-- the same of the same bits
before_same : (a b c d e f : Bits) → a ≡ b → c ≡ d → e ≡ f → Before a c e → Before b d f
before_same a b c d e f x y z h = subst (λ u. Before b d u) z (subst (λ u. Before b u e) y (subst (λ u. Before u c e) x h))

module _ (program : List Item) (n : Node) (counts : (t : List ℕ) → Numbered 0 (choices_of (types_of program) (ty.Enum t))) (prefer : Bits) (is : prefer ≡ preferred_at (types_of program) (controls_among (slots_of_node program n))) where
  abbrev types : List TypeDecl
  types = types_of program

  abbrev ds : List Decl
  ds = controls_of n.contract

  bits_are : (c : Choice) → IsChoiceOf program n c → choice_bits program n c ≡ row_bits types ds c
  bits_are c a = ap (λ ps. codes_at types ps (given_with [] nothing c)) (controls_are program n) ∙ codes_row types ds c (below Controls here) (given_with [] nothing c) a (λ p. refl)

  prefer_is : prefer ≡ row_liked types ds
  prefer_is = is ∙ ap (preferred_at types) (controls_are program n) ∙ liked_row types ds (below Controls here)

  in_order : IsChoiceOf program n (preferred program n) → BitsInOrder program n prefer
  in_order some =
      record {
        first = prefer_is ∙ row_first types counts ds ∙ sym (bits_are (preferred program n) some);
        own = λ c d a b e. row_own types counts ds c d a b (sym (bits_are c a) ∙ e ∙ bits_are d b);
        order = λ c d a b.
            let both = row_order types counts ds c d a b in (
              (λ h. before_same (row_liked types ds) prefer (row_bits types ds c) (choice_bits program n c) (row_bits types ds d) (choice_bits program n d) (sym prefer_is) (sym (bits_are c a)) (sym (bits_are d b)) (both.0 h)),
              (λ h. both.1 (before_same prefer (row_liked types ds) (choice_bits program n c) (row_bits types ds c) (choice_bits program n d) (row_bits types ds d) prefer_is (bits_are c a) (bits_are d b) h)),
            );
      }

pub preferred_is : PreferredLaw
preferred_is program after ranks o earlier n st m M =
    let types = types_of after in
    let counts : (t : List ℕ) → Numbered 0 (choices_of (types_of after) (ty.Enum t)) =
    subst (λ types. (t : List ℕ) → Numbered 0 (choices_of types (ty.Enum t))) (sym (same_types program after ranks o earlier n st)) (counted program o.ready.named) in (
      in_order after n counts m.prefer M.prefer (settled program after ranks o earlier n st).some_choice,
      ap length M.prefer ∙ long types (controls_among (slots_of_node after n)) ∙ sym (ap sum M.widths) ∙ sym M.control_are,
    )

pub chosen : MachineChoicesLaw → ChosenLaw
chosen law program after ranks o earlier n st m M h a = let p = preferred_is program after ranks o earlier n st m M in law program after ranks o earlier n st m M p.0 p.1 h a
