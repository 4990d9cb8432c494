-- What is watched of a node are its inputs, what its contract brings and what its body brings: inputs hold values of their types, and targets of events are on the clocks of these.
use Rattle.std.proofs.Common.{◌≡◌, ◌⊎◌, inl, inr, ℕ, ◌+◌, ◌≤◌, ◌<◌, Bool, List, [], ◌∷◌, ◌++◌, length, map, slice_get, None, Some, refl, sym, ap, subst, ◌∙◌, arith, if◌then◌else◌}
use Rattle.std.specs.List.{AllByRecursion, flat_map, range_with_len}
use Rattle.std.proofs.lemmas.List.{append-nil, length-append}
use Rattle.hp_base.specs.Kinds.{Ints, Constructors}
use Rattle.hp_base.specs.declared.ty.Ty.{Ty}
use Rattle.hp_base.specs.declared.ty.Ty.TheVariants as ty
use Rattle.hp_base.specs.declared.value.Value.{Value}
use Rattle.hp_base.specs.declared.value.Value.TheVariants.{B, E, I}
use Rattle.hp_obc.specs.Machines.{ObcType}
use Rattle.hp_tree.specs.declared.expr.Op2.{Op2}
use Rattle.hp_tree.specs.declared.expr.Op2.TheVariants as op
use Rattle.hp_tree.specs.Blocks.{Decl}
use Rattle.hp_tree.specs.Programs.{Node, TypeDecl}
use Rattle.hp_tree.specs.Operators.{marked}
use Rattle.hp_tree.specs.Instant.{Head, Instant, Place, Tail, alone, in_row}
use Rattle.hp_tree.specs.Values.{AreOf, IsOf}
use Rattle.hp_flat.specs.declared.equation.Atom.{Atom}
use Rattle.hp_flat.specs.declared.node.FlatTy.{FlatTy}
use Rattle.hp_flat.specs.declared.node.FlatTy.TheVariants as flat
use Rattle.hp_flat.specs.Equations.{Clock, FlatEqn, operator}
use Rattle.hp_flat.specs.Nodes.{FlatNode}
use Rattle.hp_meaning.specs.Causal.Sources.{below}
use Rattle.hp_meaning.specs.Contract.Codes.{code}
use Rattle.hp_meaning.specs.Contract.FreePlaces.{IsFree}
use Rattle.hp_meaning.specs.Contract.Slots.{FreePlace, Slot, control, free, free_among, input, register}
use Rattle.law_automata.specs.Lowered.Standing.{Along}
use Rattle.law_equations.specs.Flattened.Flatten.{obc_two}
use Rattle.law_equations.specs.Made.Making.{Known, flat_type, sketch_node}
use Rattle.law_equations.specs.Meaning.Instants as flows
use Rattle.law_equations.specs.Meaning.Kinding.{Callees, kind_of_type, variable_kind}
use Rattle.law_equations.specs.Meaning.Scheduling.{EqnWithin}
use Rattle.law_games.specs.Mirror.Memories.{SlotsFit}
use Rattle.law_wellmade.specs.Timely.Kinds.{kind_of, kinds_of_decls}
use Rattle.law_wellmade.proofs.BegunLemmas.Keeping.{HasType}
use Rattle.hp_watch.specs.Adding.{type_at, type_of as type_in}
use Rattle.hp_watch.specs.Embedding.{embedded}
use Rattle.hp_watch.specs.Watching.{Observing, Placed, Surveyed, free_input, free_placed, is_integer, own_site, placed}
use Rattle.hp_watch.specs.declared.watching.Free.{Free}
use Rattle.law_choices.specs.Adding.Lifts.{HaveBytes}
use Rattle.law_choices.specs.Closed.Clocking.{DefinesOwn, IsCopy}
use Rattle.law_choices.specs.Coded.Codes.{bits_at, bits_of_kind, bits_of_value}
use Rattle.law_choices.specs.InTurn.Nodes.{Contracted}
use Rattle.law_choices.specs.Playing.Inputs.{placed as place_of, places_in_row}
use Rattle.law_choices.specs.Seeing.Held.{AreHeld}
use Rattle.law_choices.proofs.AddingLemmas.One.{kind-at}
use Rattle.law_choices.proofs.AddingLemmas.Surveyed.{at_number, get_front, number_below}
use Rattle.law_choices.proofs.ClosedLemmas.ClosedLaws.{each_both}
use Rattle.law_choices.proofs.CodedLemmas.Kinds.{code_bits_law, kind_bits_law}
use Rattle.law_choices.proofs.InTurnLemmas.Contracted.{Ground, NodeLaws}
use Rattle.law_choices.proofs.PlayingLemmas.Asking.{seen, survey, type-same}
use Rattle.law_choices.proofs.PlayingLemmas.Flags.{declared-cons}

-- ---- lists

pub along-append : {A C : Type 0} (P : A → C → Type 0) (xs vs : List A) (ys ws : List C) → Along P xs ys → Along P vs ws → Along P (xs ++ vs) (ys ++ ws)
along-append P [] vs [] ws h k = k
along-append P [] vs (y ∷ ys) ws h k = absurd h
along-append P (x ∷ xs) vs [] ws h k = absurd h
along-append P (x ∷ xs) vs (y ∷ ys) ws h k = (h.0, along-append P xs vs ys ws h.1 k)

pub no-elements : {A : Type 0} (xs : List A) → length xs ≡ 0 → xs ≡ []
no-elements [] h = refl
no-elements (x ∷ xs) h = absurd (omega (arith, h))

-- Where as many stand in three parts as in two, of which the first parts are as long, and the last is no longer than the other last one, nothing stands between.
pub along-parts : (P : FreePlace → Free → Type 0) (ps qs : List FreePlace) (xs zs ys : List Free) → length ((xs ++ zs) ++ ys) ≡ length (ps ++ qs) → length xs ≡ length ps → length qs ≤ length ys → Along P ps xs → (length ys ≡ length qs → Along P qs ys)
    → Along P (ps ++ qs) ((xs ++ zs) ++ ys)
along-parts P ps qs xs zs ys l m long first last =
    let a = length-append (xs ++ zs) ys in
    let b = length-append xs zs in
    let d = length-append ps qs in
    let none : zs ≡ [] = no-elements zs (omega (arith, l, m, long, a, b, d)) in
    let same : length ys ≡ length qs = omega (arith, l, m, long, a, b, d) in
    along-append P ps qs (xs ++ zs) ys (subst (λ us. Along P ps (xs ++ us)) (sym none) (subst (Along P ps) (sym (append-nil xs)) first)) (last same)

pub free-either : (xs ys : List FreePlace) (q : Place) → IsFree (xs ++ ys) q → IsFree xs q ⊎ IsFree ys q
free-either [] ys q h = inr h
free-either (x ∷ xs) ys q (inl e) = inl (inl e)
free-either (x ∷ xs) ys q (inr h) = by (free-either xs ys q h)
  where
    by : IsFree xs q ⊎ IsFree ys q → IsFree (x ∷ xs) q ⊎ IsFree ys q
    by (inl k) = inl (inr k)
    by (inr k) = inr k

-- a free place in a row of inputs
pub in-row-free : (ds : List Decl) (w : Place → Place) (q : Place) → IsFree (places_in_row ds w) q → (r : Place) × (q ≡ w r)
in-row-free [] w q h = absurd h
in-row-free (d ∷ ds) w q h = by (free-either (place_of (w (Head ∷ [])) d.ty) (places_in_row ds (below Tail w)) q h) (λ k. in-row-free ds (below Tail w) q k)
  where
    one : (t : Ty) → IsFree (place_of (w (Head ∷ [])) t) q → (r : Place) × (q ≡ w r)
    one ty.Bool (inl e) = (Head ∷ [], e)
    one ty.Bool (inr h) = absurd h
    one ty.Int h = absurd h
    one (ty.Enum x) (inl e) = (Head ∷ [], e)
    one (ty.Enum x) (inr h) = absurd h

    by : IsFree (place_of (w (Head ∷ [])) d.ty) q ⊎ IsFree (places_in_row ds (below Tail w)) q → (IsFree (places_in_row ds (below Tail w)) q → (r : Place) × (q ≡ w (Tail ∷ r))) → (r : Place) × (q ≡ w r)
    by (inl k) rest = one d.ty k
    by (inr k) rest = let r = rest k in (Tail ∷ r.0, r.1)

-- ---- slots

module _ (types : List ObcType) (decls : List TypeDecl) (n : FlatNode) (i : flows.Instant) (given : Instant) where
  -- the bits of a free place of the equations are the code of what is given
  abbrev pub IsHeld : FreePlace → Free → Type 0
  IsHeld q f = bits_at types n i f ≡ code decls q.1 (given q.0)

  pub held-slots : (ss : List Slot) (fs : List Free) → Along IsHeld (free_among ss) fs → AreHeld types decls n i given ss fs
  held-slots [] [] h = tt
  held-slots [] (f ∷ fs) h = absurd h
  held-slots (register p k ∷ ss) fs h = held-slots ss fs h
  held-slots (control p t ∷ ss) fs h = held-slots ss fs h
  held-slots (input p t ∷ ss) [] h = absurd h
  held-slots (input p t ∷ ss) (f ∷ fs) h = (h.0, held-slots ss fs h.1)
  held-slots (free p t ∷ ss) [] h = absurd h
  held-slots (free p t ∷ ss) (f ∷ fs) h = (h.0, held-slots ss fs h.1)

module _ (decls : List TypeDecl) (given : Instant) where
  abbrev pub IsOfType : FreePlace → Type 0
  IsOfType q = IsOf decls q.1 (given q.0)

  pub fit-slots : (ss : List Slot) → AllByRecursion IsOfType (free_among ss) → SlotsFit decls ss given
  fit-slots [] h = tt
  fit-slots (register p k ∷ ss) h = fit-slots ss h
  fit-slots (control p t ∷ ss) h = fit-slots ss h
  fit-slots (input p t ∷ ss) h = (h.0, fit-slots ss h.1)
  fit-slots (free p t ∷ ss) h = (h.0, fit-slots ss h.1)

  pub both-fit : (ps qs : List FreePlace) → AllByRecursion IsOfType ps → AllByRecursion IsOfType qs → AllByRecursion IsOfType (ps ++ qs)
  both-fit [] qs h k = k
  both-fit (p ∷ ps) qs h k = (h.0, both-fit ps qs h.1 k)

  -- ---- inputs

  one-fits : (t : Ty) (v : Value) (p : Place) → IsOf decls t v → given p ≡ marked v → AllByRecursion IsOfType (place_of p t)
  one-fits ty.Bool (B b) p h e = (subst (IsOf decls ty.Bool) (sym e) tt, tt)
  one-fits ty.Int v p h e = tt
  one-fits (ty.Enum x) (E t k) p h e = (subst (IsOf decls (ty.Enum x)) (sym e) h, tt)
  one-fits ty.Bool v p h e = absurd h
  one-fits (ty.Enum x) v p h e = absurd h

  pub inputs-of-types : (ds : List Decl) (vs : List Value) (w : Place → Place) → AreOf decls ds vs → ((q : Place) → given (w q) ≡ in_row (map alone (map marked vs)) q) → AllByRecursion IsOfType (places_in_row ds w)
  inputs-of-types [] vs w of are = tt
  inputs-of-types (d ∷ ds) [] w of are = absurd of
  inputs-of-types (d ∷ ds) (v ∷ vs) w of are =
      both-fit (place_of (w (Head ∷ [])) d.ty) (places_in_row ds (below Tail w)) (one-fits d.ty v (w (Head ∷ [])) of.0 (are (Head ∷ []))) (inputs-of-types ds vs (below Tail w) of.1 (λ q. are (Tail ∷ q)))

-- a mark has the bits of its integer
code-marked : (decls : List TypeDecl) (t : Ty) (v : Value) → code decls t (marked v) ≡ code decls t v
code-marked decls ty.Bool (I n) = refl
code-marked decls ty.Bool v = refl
code-marked decls ty.Int v = refl
code-marked decls (ty.Enum x) (I n) = refl
code-marked decls (ty.Enum x) v = refl

module _ (types : List ObcType) (decls : List TypeDecl) (bytes : HaveBytes types) (plant n : FlatNode) (i : flows.Instant) (given : Instant) where
  abbrev Held : FreePlace → Free → Type 0
  Held q f = IsHeld types decls n i given q f

  one-held : (p : Place) (f : Free) (t : FlatTy) (u : Ty) → kind_of_type types t ≡ kind_of decls u → bits_at types n i f ≡ code decls u (given p) → Along Held (place_of p u) (if is_integer t then [] else f ∷ [])
  one-held p f flat.Bool ty.Bool e h = (h, tt)
  one-held p f flat.Bool ty.Int e h = absurd cc
  one-held p f flat.Bool (ty.Enum x) e h = (h, tt)
  one-held p f flat.Int ty.Bool e h = absurd cc
  one-held p f flat.Int ty.Int e h = tt
  one-held p f flat.Int (ty.Enum x) e h = let c = declared-cons 0 decls x in absurd (let q : Ints ≡ Constructors c.0 c.1 = e ∙ c.2 in cc)
  one-held p f (flat.Enum y) ty.Bool e h = (h, tt)
  one-held p f (flat.Enum y) ty.Int e h = absurd cc
  one-held p f (flat.Enum y) (ty.Enum x) e h = (h, tt)

  -- the first variables hold the codes of inputs of their kinds
  pub inputs-held : (ds : List Decl) (first : ℕ) (vs : List Value) (w : Place → Place) → ((x : ℕ) → x < first + length ds → type_at n x ≡ type_at plant x) → map (variable_kind types plant.variables) (range_with_len first (length ds)) ≡ kinds_of_decls decls ds
      → map i (range_with_len first (length ds)) ≡ vs → ((q : Place) → given (w q) ≡ in_row (map alone (map marked vs)) q) → Along Held (places_in_row ds w) (flat_map (free_input plant) (range_with_len first (length ds)))
  inputs-held [] first vs w same kinds held are = tt
  inputs-held (d ∷ ds) first [] w same kinds held are = absurd cc
  inputs-held (d ∷ ds) first (v ∷ vs) w same kinds held are =
      let here : variable_kind types plant.variables first ≡ kind_of decls d.ty = cc in
      let behind : map (variable_kind types plant.variables) (range_with_len (first + 1) (length ds)) ≡ kinds_of_decls decls ds = cc in
      let value : i first ≡ v = cc in
      let others : map i (range_with_len (first + 1) (length ds)) ≡ vs = cc in
      let f : Free = record { variable = first; eqn = None } in
      let kind : kind_of_type types (type_at plant first) ≡ kind_of decls d.ty = sym (kind-at types plant first) ∙ here in
      let type : type_at n first ≡ type_at plant first = same first (omega arith) in
      let bits : bits_of_value types (type_at n first) (i first) ≡ code decls d.ty (given (w (Head ∷ []))) =
      kind_bits_law types (type_at n first) (i first) bytes ∙ ap (λ k. bits_of_kind k (i first)) (ap (kind_of_type types) type ∙ kind) ∙ sym (code_bits_law decls d.ty (i first)) ∙ ap (code decls d.ty) value
      ∙ sym (code-marked decls d.ty v) ∙ ap (code decls d.ty) (sym (are (Head ∷ []))) in
      along-append Held (place_of (w (Head ∷ [])) d.ty) (places_in_row ds (below Tail w)) (free_input plant first) (flat_map (free_input plant) (range_with_len (first + 1) (length ds)))
      (one-held (w (Head ∷ [])) f (type_at plant first) d.ty kind bits)
      (inputs-held ds (first + 1) vs (below Tail w) (λ x l. same x (omega (arith, l))) behind others (λ q. are (Tail ∷ q)))

-- ---- comparisons

pub no-copy : (o : Op2) (args : List Atom) → IsCopy (operator (obc_two o) args) → ⊥
no-copy op.Lt args c = c
no-copy op.Le args c = c
no-copy op.Gt args c = c
no-copy op.Ge args c = c
no-copy op.Eq args c = c
no-copy op.Ne args c = c
no-copy op.And args c = c
no-copy op.Or args c = c
no-copy op.Xor args c = c
no-copy op.Imp args c = c
no-copy op.Add args c = c
no-copy op.Sub args c = c
no-copy op.Mul args c = c
no-copy op.Div args c = c
no-copy op.Rem args c = c

-- ---- the node that is watched

-- a type has one kind in the tree and in the equations
abbrev pub SameKind : List ObcType → List TypeDecl → Known → Ty → Type 0
SameKind types decls k t = kind_of_type types (flat_type k.types t) ≡ kind_of decls t

module _ (laws : NodeLaws) (types : List ObcType) (all : Callees) (observers : Observing) (n : Node) (c : Contracted) (g : Ground types all observers n c) (k : Known) (low : Node) (made : c.plant.variables ≡ (sketch_node k low).variables) where
  abbrev plant : FlatNode
  plant = c.plant

  abbrev s : Surveyed
  s = survey laws types all observers n c g

  abbrev clocks : ℕ → Clock
  clocks = ((seen laws types all observers n c g).keeps).clocks

  abbrev pub own_places : Placed
  own_places = let fits = ((g.is).is_watched).fits in placed observers (length plant.eqns) (embedded (fits.own).node (own_site (length n.inputs) plant) plant)

  abbrev pub free_by_number : ℕ → List Free
  free_by_number m = free_placed observers own_places m

  more_eqns : (more : List FlatEqn) × (s.node.eqns ≡ plant.eqns ++ more)
  more_eqns = let q = ((seen laws types all observers n c g).keeps).grows in q.eqns

  pub same-type : (x : ℕ) → x < length plant.variables → type_at s.node x ≡ type_at plant x
  same-type x l = let q = ((seen laws types all observers n c g).keeps).grows in let v = q.variables in type-same v.0 plant s.node x v.1 l

  pub still-below : (x : ℕ) → x < length plant.variables → x < length s.node.variables
  still-below x below =
      let v = (((seen laws types all observers n c g).keeps).grows).variables in
      let long = length-append plant.variables v.0 in
      let e = ap length v.1 in
      omega (arith, below, long, e)

  -- a variable has its type in the node that is watched
  pub typed-there : (x : ℕ) (t : FlatTy) → HasType (sketch_node k low) x t → type_at s.node x ≡ t
  typed-there x t h =
      let at = ap (λ vs. slice_get vs x) made ∙ h.1 in
      same-type x (number_below plant.variables x h.0 at) ∙ ap type_in at ∙ h.2

  module _ (m : ℕ) (e : FlatEqn) (at_number_is : slice_get plant.eqns m ≡ Some e) where
    pub there : slice_get s.node.eqns m ≡ Some e
    there = let q = more_eqns in ap (λ es. slice_get es m) q.1 ∙ get_front plant.eqns q.0 m (number_below plant.eqns m e at_number_is) ∙ at_number_is

    pub numbers : EqnWithin (length plant.variables) e
    numbers = let w = ((g.of_node).based).well in let i = w.within in at_number (EqnWithin (length plant.variables)) plant.eqns m e at_number_is i.eqns

    -- the targets are on the clock of the event, if that is no copy
    pub targets-clock : (IsCopy e.right → ⊥) → AllByRecursion (λ y. clocks y ≡ e.clock) e.targets
    targets-clock new =
        let keeps = (seen laws types all observers n c g).keeps in
        each_both (λ y. y < length plant.variables) (λ y. (g.clock y ≡ e.clock) ⊎ IsCopy e.right) (λ y. clocks y ≡ e.clock) (λ y l h. keeps.same y l ∙ by y h) e.targets numbers.targets (at_number (DefinesOwn g.clock) plant.eqns m e at_number_is (g.of_node).own)
      where
        by : (y : ℕ) → (g.clock y ≡ e.clock) ⊎ IsCopy e.right → g.clock y ≡ e.clock
        by y (inl q) = q
        by y (inr q) = absurd (new q)
