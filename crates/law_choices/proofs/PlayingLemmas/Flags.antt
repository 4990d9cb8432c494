-- Where nothing is free but the inputs, all that is watched are the inputs, and they are early.
use Rattle.std.proofs.Common.{◌≡◌, ℕ, zero, suc, ◌+◌, Bool, true, false, if◌then◌else◌, List, [], ◌∷◌, ◌++◌, length, map, refl, sym, ap, subst, ◌∙◌, arith}
use Rattle.std.specs.Prelude.{None}
use Rattle.std.specs.List.{flat_map, range_with_len}
use Rattle.std.specs.Str.{bytes_eq}
use Rattle.std.proofs.lemmas.List.{append-nil, append_cancel_left, length-append, length-map}
use Rattle.hp_base.specs.Kinds.{KindData, Bools, Ints, Constructors}
use Rattle.hp_base.specs.declared.ty.Ty.{Ty}
use Rattle.hp_base.specs.declared.ty.Ty.TheVariants as ty
use Rattle.hp_obc.specs.Machines.{ObcType}
use Rattle.hp_tree.specs.declared.program.Item.{Item}
use Rattle.hp_tree.specs.Blocks.{Decl}
use Rattle.hp_tree.specs.Programs.{Node, TypeDecl}
use Rattle.hp_tree.specs.Instant.{Head, Tail, Inputs, Place}
use Rattle.hp_flat.specs.declared.node.FlatTy.{FlatTy}
use Rattle.hp_flat.specs.declared.node.FlatTy.TheVariants as flat
use Rattle.hp_flat.specs.Nodes.{FlatNode}
use Rattle.hp_meaning.specs.Causal.Sources.{below}
use Rattle.hp_meaning.specs.Contract.Slots.{Slot, register, free, input, control, FreePlace, free_among, slots_of_node}
use Rattle.law_equations.specs.Meaning.Kinding.{kind_of_type, variable_kind}
use Rattle.law_wellmade.specs.Timely.Kinds.{declared_kind, kind_of, kinds_of_decls}
use Rattle.hp_watch.specs.declared.watching.Free.{Free}
use Rattle.hp_watch.specs.Adding.{type_at}
use Rattle.hp_watch.specs.Watching.{is_integer, free_input, free_inputs, Watched, with_place, with_places}
use Rattle.law_choices.specs.Coded.Codes.{early_places}
use Rattle.law_choices.specs.Playing.Inputs.{placed, places_in_row, HasInputsAlone}
use Rattle.law_choices.specs.Playing.Mirrored.{early_flags}
use Rattle.law_choices.proofs.AddingLemmas.One.{kind-at}
use Rattle.law_choices.proofs.PlayingLemmas.Inputs.{row, one_slot, free-append, row-free}

-- as many words as there are places, each of them true
abbrev pub all_true : {A : Type 0} → List A → List Bool
all_true xs = map (λ x. true) xs

-- ---- what is said of slots

-- as many flags as free places
pub flags-many : (early : Place → Bool) (ss : List Slot) → length (early_flags early ss) ≡ length (free_among ss)
flags-many early [] = refl
flags-many early (register p k ∷ ss) = flags-many early ss
flags-many early (control p t ∷ ss) = flags-many early ss
flags-many early (input p t ∷ ss) = ap suc (flags-many early ss)
flags-many early (free p t ∷ ss) = ap suc (flags-many early ss)

module _ (early : Place → Bool) where
  pub flags-append : (ss rest : List Slot) → early_flags early (ss ++ rest) ≡ early_flags early ss ++ early_flags early rest
  flags-append [] rest = refl
  flags-append (register p k ∷ ss) rest = flags-append ss rest
  flags-append (free p t ∷ ss) rest = ap (λ bs. early p ∷ bs) (flags-append ss rest)
  flags-append (input p t ∷ ss) rest = ap (λ bs. true ∷ bs) (flags-append ss rest)
  flags-append (control p t ∷ ss) rest = flags-append ss rest

  pub flags-none : (ss : List Slot) → free_among ss ≡ [] → early_flags early ss ≡ []
  flags-none [] h = refl
  flags-none (register p k ∷ ss) h = flags-none ss h
  flags-none (free p t ∷ ss) h = absurd cc
  flags-none (input p t ∷ ss) h = absurd cc
  flags-none (control p t ∷ ss) h = flags-none ss h

  true-append : (ps qs : List FreePlace) → all_true (ps ++ qs) ≡ all_true ps ++ all_true qs
  true-append [] qs = refl
  true-append (p ∷ ps) qs = ap (λ bs. true ∷ bs) (true-append ps qs)

  one-flag : (p : Place) (t : Ty) → early_flags early (one_slot p t) ≡ all_true (placed p t)
  one-flag p ty.Bool = refl
  one-flag p ty.Int = refl
  one-flag p (ty.Enum x) = refl

  row-flags : (ds : List Decl) (w : Place → Place) → early_flags early (row ds w) ≡ all_true (places_in_row ds w)
  row-flags [] w = refl
  row-flags (d ∷ ds) w =
      flags-append (one_slot (w (Head ∷ [])) d.ty) (row ds (below Tail w)) ∙ ap (λ bs. bs ++ early_flags early (row ds (below Tail w))) (one-flag (w (Head ∷ [])) d.ty)
      ∙ ap (λ bs. all_true (placed (w (Head ∷ [])) d.ty) ++ bs) (row-flags ds (below Tail w)) ∙ sym (true-append (placed (w (Head ∷ [])) d.ty) (places_in_row ds (below Tail w)))

  flags-by : (ss rest : List Slot) (ds : List Decl) (w : Place → Place) → ss ≡ row ds w ++ rest → free_among ss ≡ places_in_row ds w → early_flags early ss ≡ all_true (places_in_row ds w)
  flags-by ss rest ds w split alone =
      let places = places_in_row ds w in
      let first = ap free_among split ∙ free-append (row ds w) rest ∙ ap (λ qs. qs ++ free_among rest) (row-free ds w) in
      let none = append_cancel_left places (free_among rest) [] (sym first ∙ alone ∙ sym (append-nil places)) in
      ap (early_flags early) split ∙ flags-append (row ds w) rest ∙ ap (λ bs. bs ++ early_flags early rest) (row-flags ds w) ∙ ap (λ bs. all_true places ++ bs) (flags-none rest none) ∙ append-nil (all_true places)

-- the inputs are early, and nothing else is said
pub flags-inputs : (program : List Item) (n : Node) (early : Place → Bool) → HasInputsAlone program n → early_flags early (slots_of_node program n) ≡ all_true (places_in_row n.inputs (below Inputs (λ p. p)))
flags-inputs program n early alone = flags-by early (slots_of_node program n) _ n.inputs (below Inputs (λ p. p)) refl alone

-- ---- what is watched

pub declared-cons : (t : ℕ) (ds : List TypeDecl) (x : List ℕ) → (u : ℕ) × (cs : List (List ℕ)) × (declared_kind t ds x ≡ Constructors u cs)
declared-cons t [] x = (t, [], refl)
declared-cons t (d ∷ ds) x = by (bytes_eq d.name x) (declared-cons (suc t) ds x)
  where
    by : (b : Bool) → ((u : ℕ) × (cs : List (List ℕ)) × (declared_kind (suc t) ds x ≡ Constructors u cs)) → (u : ℕ) × (cs : List (List ℕ)) × ((if b then Constructors t d.cons else declared_kind (suc t) ds x) ≡ Constructors u cs)
    by true r = (t, d.cons, refl)
    by false r = r

-- a variable of the kind of a declaration is an integer where that is one
one-long : {A : Type 0} (types : List ObcType) (decls : List TypeDecl) (a : A) (p : Place) (t : FlatTy) (u : Ty) → kind_of_type types t ≡ kind_of decls u → length (if is_integer t then [] else a ∷ []) ≡ length (placed p u)
one-long types decls a p flat.Bool ty.Bool e = refl
one-long types decls a p flat.Bool ty.Int e = absurd cc
one-long types decls a p flat.Bool (ty.Enum x) e = refl
one-long types decls a p flat.Int ty.Bool e = absurd cc
one-long types decls a p flat.Int ty.Int e = refl
one-long types decls a p flat.Int (ty.Enum x) e = let c = declared-cons 0 decls x in absurd (let q : Ints ≡ Constructors c.0 c.1 = e ∙ c.2 in cc)
one-long types decls a p (flat.Enum y) ty.Bool e = refl
one-long types decls a p (flat.Enum y) ty.Int e = absurd cc
one-long types decls a p (flat.Enum y) (ty.Enum x) e = refl

-- there are as many free variables among variables of the kinds of declarations as there are free places
pub free-long : (types : List ObcType) (decls : List TypeDecl) (n : FlatNode) (ds : List Decl) (first : ℕ) (w : Place → Place) → map (variable_kind types n.variables) (range_with_len first (length ds)) ≡ kinds_of_decls decls ds
    → length (flat_map (free_input n) (range_with_len first (length ds))) ≡ length (places_in_row ds w)
free-long types decls n [] first w h = refl
free-long types decls n (d ∷ ds) first w h =
    let here : variable_kind types n.variables first ≡ kind_of decls d.ty = cc in
    let behind : map (variable_kind types n.variables) (range_with_len (first + 1) (length ds)) ≡ kinds_of_decls decls ds = cc in
    let place : Free = record { variable = first; eqn = None } in
    let one = one-long types decls place (w (Head ∷ [])) (type_at n first) d.ty (sym (kind-at types n first) ∙ here) in
    let more = free-long types decls n ds (first + 1) (below Tail w) behind in
    let left = length-append (free_input n first) (flat_map (free_input n) (range_with_len (first + 1) (length ds))) in
    let right = length-append (placed (w (Head ∷ [])) d.ty) (places_in_row ds (below Tail w)) in
    omega (arith, one, more, left, right)

no-elements : {A : Type 0} (xs : List A) → length xs ≡ 0 → xs ≡ []
no-elements [] h = refl
no-elements (x ∷ xs) h = absurd (omega (arith, h))

-- what is as long as its first part is that part
nothing-more : {A : Type 0} (first second third : List A) → length ((first ++ second) ++ third) ≡ length first → (first ++ second) ++ third ≡ first
nothing-more [] second third h = no-elements (second ++ third) h
nothing-more (x ∷ first) second third h = ap (λ xs. x ∷ xs) (nothing-more first second third (omega (arith, h)))

pub all-early : (fs : List Free) {A : Type 0} (ps : List A) → length fs ≡ length ps → early_places fs (all_true ps) ≡ fs
all-early [] ps h = refl
all-early (f ∷ fs) [] h = absurd (omega (arith, h))
all-early (f ∷ fs) (p ∷ ps) h = ap (λ gs. f ∷ gs) (all-early fs ps (omega (arith, h)))

pub none-late : (types : List ObcType) (fs : List Free) {A : Type 0} (ps : List A) (w : Watched) → (with_places types fs (all_true ps) w).late ≡ w.late
none-late types [] ps w = refl
none-late types (f ∷ fs) [] w = refl
none-late types (f ∷ fs) (p ∷ ps) w = none-late types fs ps (with_place types f true w)

-- the inputs are all that is watched, where it is said of as many places as the inputs have
pub inputs-alone : (types : List ObcType) (decls : List TypeDecl) (n : FlatNode) (ds : List Decl) (w : Place → Place) (second third : List Free) → map (variable_kind types n.variables) (range_with_len 0 (length ds)) ≡ kinds_of_decls decls ds
    → length ((free_inputs n (length ds) ++ second) ++ third) ≡ length (places_in_row ds w) → ((free_inputs n (length ds) ++ second) ++ third ≡ free_inputs n (length ds)) × (length (free_inputs n (length ds)) ≡ length (places_in_row ds w))
inputs-alone types decls n ds w second third kinds h =
    let long = free-long types decls n ds 0 w kinds in
    (nothing-more (free_inputs n (length ds)) second third (h ∙ sym long), long)
