-- What registers hold at first is what memory has of no history.
use Rattle.std.proofs.Common.{◌≡◌, ℕ, suc, ◌+◌, Bool, true, false, if◌then◌else◌, List, [], ◌∷◌, Option, None, Some, refl, sym, ap, add-one, ◌∙◌}
use Rattle.std.proofs.lemmas.Slice.Eq.{bytes_eq-Decides}
use Rattle.std.specs.Str.{bytes_eq}
use Rattle.hp_base.specs.declared.ty.Const.{Const}
use Rattle.hp_base.specs.declared.ty.Const.TheVariants as const
use Rattle.hp_base.specs.declared.value.Value.{Value}
use Rattle.hp_base.specs.declared.value.Value.TheVariants.{Absent}
use Rattle.hp_tree.specs.declared.program.Item.{Item}
use Rattle.hp_tree.specs.declared.program.Item.TheVariants.{TypeItem, NodeItem}
use Rattle.hp_tree.specs.Blocks.{Decl}
use Rattle.hp_tree.specs.Instant.{Place}
use Rattle.hp_tree.specs.Meaning.{types_of, lasts}
use Rattle.hp_tree.specs.Operators.{abstraction, constant_of, constructor_from, or_later, place_in}
use Rattle.hp_tree.specs.Programs.{TypeDecl, Node}
use Rattle.hp_meaning.specs.Causal.RanksOfPoints.{same_place}
use Rattle.hp_meaning.specs.Contract.Forgetting.{ContractsCallNothing}
use Rattle.hp_meaning.specs.Contract.Memory.{is_last, number_in, memory}
use Rattle.hp_meaning.specs.Contract.Slots as slots
use Rattle.hp_meaning.specs.Contract.Slots.{Register, registers, slots_of_node, zero_of, zero_at}
use Rattle.hp_drawing.specs.declared.parts.Constructor.{Constructor}
use Rattle.hp_drawing.proofs.SlottedLemmas.Declaring.{Lacks, DeclaresApart, NodeDeclares, NodesDeclare}
use Rattle.hp_drawing.specs.Kept.{Kept, register, input, control, free}
use Rattle.hp_drawing.specs.Planned.{planned_node}
use Rattle.hp_drawing.specs.Slotted.Slotted.{slots_as}
use Rattle.hp_drawing.specs.Told.{Told, told_of, counts_of, or_none, with_constructors, constructors_of, constructor_number, constant_number}
use Rattle.hp_drawing.proofs.SlottedLemmas.SlotLaws.{Look, Zeros, LastStarts, AllStart, all_viewed, remembered}
use Rattle.hp_drawing.proofs.SlottedLemmas.SlotNodes.{node_brings}

-- as they are
abbrev pub exact : Look
exact = record { firstly = λ k. k; number = number_in; at_false = refl; at_state = refl }

pub exact-viewed : (ks : List Kept) → all_viewed exact ks ≡ ks
exact-viewed [] = refl
exact-viewed (register k s ∷ ks) = ap (λ more. register k s ∷ more) (exact-viewed ks)
exact-viewed (input s ∷ ks) = ap (λ more. input s ∷ more) (exact-viewed ks)
exact-viewed (control s ∷ ks) = ap (λ more. control s ∷ more) (exact-viewed ks)
exact-viewed (free s ∷ ks) = ap (λ more. free s ∷ more) (exact-viewed ks)

-- ---- the numbers of constants

abbrev number_as : Value → ℕ
number_as v = number_in (abstraction.constant v)

numbered : (b : Bool) (count k t j : ℕ) (o : Option Constructor) (p : Option ℕ) (v : Value) → k ≡ j → constructor_number o ≡ number_as (or_later t p v)
    → constructor_number (if b then Some (record { number = k; count = count }) else o) ≡ number_as (or_later t (if b then Some j else p) v)
numbered true count k t j o p v e h = e
numbered false count k t j o p v e h = h

placed : (count k t j : ℕ) (cs : List (List ℕ)) (more : List ℕ → Option Constructor) (x : List ℕ) (v : Value) → k ≡ j → constructor_number (more x) ≡ number_as v
    → constructor_number (with_constructors count k cs more x) ≡ number_as (or_later t (place_in j cs x) v)
placed count k t j [] more x v e h = h
placed count k t j (c ∷ cs) more x v e h =
    numbered (bytes_eq c x) count k t j (with_constructors count (k + 1) cs more x) (place_in (suc j) cs x) v e (placed count (k + 1) t (suc j) cs more x v (add-one k ∙ ap suc e) h)

constructor-number : (program items : List Item) (t : ℕ) (x : List ℕ) → constructor_number (constructors_of (counts_of program) items x) ≡ number_as (constructor_from t (types_of items) x)
constructor-number program [] t x = refl
constructor-number program (TypeItem d ∷ items) t x =
    placed (or_none (counts_of program d.name)) 0 t 0 d.cons (constructors_of (counts_of program) items) x (constructor_from (suc t) (types_of items) x) refl (constructor-number program items (suc t) x)
constructor-number program (NodeItem n ∷ items) t x = constructor-number program items t x

constant-number : (program : List Item) (c : Const) → number_as (constant_of (types_of program) c) ≡ constant_number (told_of program) c
constant-number program (const.B true) = refl
constant-number program (const.B false) = refl
constant-number program (const.I n) = refl
constant-number program (const.E x) = sym (constructor-number program program 0 x)

-- ---- `last` variables whose names are apart

false_where : (b : Bool) → (b ≡ true → ⊥) → b ≡ false
false_where true h = absurd (h refl)
false_where false h = refl

module _ (program : List Item) where
  abbrev types : List TypeDecl
  types = types_of program

  abbrev t : Told
  t = told_of program

  abbrev value : Const → Value
  value c = abstraction.constant (constant_of types c)

  abbrev no_names : List ℕ → Value
  no_names x = Absent

  -- the first of some declarations
  own_value : (d : Decl) (ds : List Decl) (o : Option Const) (c : Const) → o ≡ Some c
      → (if (elim o [ None ↦ false | Some c ↦ true ]) then (elim o [ None ↦ no_names d.name | Some c ↦ value c ]) else Absent) ≡ value c
  own_value d ds None c e = absurd (cc)
  own_value d ds (Some b) c e = ap value (let q : b ≡ c = cc in q)

  at_own : (d : Decl) (ds : List Decl) (c : Const) → d.last ≡ Some c → remembered types (d ∷ ds) d.name ≡ value c
  at_own d ds c e =
      ap (λ b. if (if b then (elim d.last [ None ↦ false | Some c ↦ true ]) else is_last ds d.name) then (if b then (elim d.last [ None ↦ no_names d.name | Some c ↦ value c ]) else lasts value ds [] no_names d.name) else Absent) ((bytes_eq-Decides d.name d.name).1 refl)
      ∙ own_value d ds d.last c e

  at_other : (d : Decl) (ds : List Decl) (x : List ℕ) → (x ≡ d.name → ⊥) → remembered types (d ∷ ds) x ≡ remembered types ds x
  at_other d ds x h =
      ap (λ b. if (if b then (elim d.last [ None ↦ false | Some c ↦ true ]) else is_last ds x) then (if b then (elim d.last [ None ↦ no_names x | Some c ↦ value c ]) else lasts value ds [] no_names x) else Absent)
      (false_where (bytes_eq d.name x) (λ e. h (sym ((bytes_eq-Decides d.name x).0 e))))

  last_other : (d : Decl) (ds : List Decl) (o : Option Const) (x : List ℕ) → (x ≡ d.name → ⊥) → LastStarts exact t o x (remembered types ds) → LastStarts exact t o x (remembered types (d ∷ ds))
  last_other d ds None x h k = tt
  last_other d ds (Some c) x h k = ap number_in (at_other d ds x h) ∙ k

  all_other : (d : Decl) (ds es : List Decl) → Lacks d.name es → AllStart exact t es (remembered types ds) → AllStart exact t es (remembered types (d ∷ ds))
  all_other d ds [] h k = tt
  all_other d ds (e ∷ es) h k = (last_other d ds e.last e.name h.0 k.0, all_other d ds es h.1 k.1)

  last_own : (d : Decl) (ds : List Decl) (o : Option Const) → d.last ≡ o → LastStarts exact t o d.name (remembered types (d ∷ ds))
  last_own d ds None e = tt
  last_own d ds (Some c) e = ap number_in (at_own d ds c e) ∙ constant-number program c

  pub all_start : (ds : List Decl) → DeclaresApart ds → AllStart exact t ds (remembered types ds)
  all_start [] h = tt
  all_start (d ∷ ds) h = (last_own d ds d.last refl, all_other d ds ds h.0 (all_start ds h.1))

  -- ---- zeros

  zero_number : (s : slots.Shape) → number_in (zero_of s) ≡ 0
  zero_number slots.truth = refl
  zero_number slots.mark = refl
  zero_number (slots.cons u m) = refl

  zero_one : (b : Bool) (s : slots.Shape) (v : Value) → number_in v ≡ 0 → number_in (if b then zero_of s else v) ≡ 0
  zero_one true s v h = zero_number s
  zero_one false s v h = h

  all_zeros : (rs : List Register) → Zeros exact (zero_at rs)
  all_zeros [] p = refl
  all_zeros (r ∷ rs) p = zero_one (same_place r.0 p) r.1 (zero_at rs p) (all_zeros rs p)

  -- ---- a node

  abbrev pub first_in : Node → Place → ℕ
  first_in n p = number_in (memory program n [] p)

  pub node_starts : (n : Node) → ContractsCallNothing program → NodesDeclare DeclaresApart program → NodeDeclares DeclaresApart n → planned_node t n [] ≡ slots_as types (first_in n) (slots_of_node program n)
  node_starts n h gs g =
      sym (exact-viewed (planned_node t n []))
      ∙ (node_brings exact program (first_in n) DeclaresApart all_start n (zero_at (registers program n)) [] h gs g (λ p. refl) (all_zeros (registers program n))).is
