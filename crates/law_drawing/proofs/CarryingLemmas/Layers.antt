-- Layers of names: what is said of a name when more is said.
use Rattle.std.proofs.Common.{◌≡◌, ℕ, ◌+◌, Bool, true, false, not, ◌&&◌, ◌||◌, if◌then◌else◌, List, [], ◌∷◌, ◌++◌, Option, None, Some, refl, sym, ap, subst, ◌∙◌, inl, inr, ◌⊎◌}
use Rattle.std.specs.Prelude.{⊤, is_some}
use Rattle.std.specs.Str.{bytes_eq}
use Rattle.std.proofs.lemmas.Slice.Eq.{bytes_eq-Decides}
use Rattle.std.proofs.lemmas.Option.{same_Some, none-some}
use Rattle.hp_base.specs.declared.span.Span.{Span}
use Rattle.hp_base.specs.declared.ty.Ty.{Ty}
use Rattle.hp_base.specs.declared.value.Value.{Value}
use Rattle.hp_tree.specs.Blocks.{Decl, Block, block, Eqns, no_eqn, more_eqns, Eqn, define, switch, reset, automaton, Arms, no_arm, more_arms, States, no_state, more_states}
use Rattle.hp_tree.specs.Instant.{Instant}
use Rattle.hp_tree.specs.Meaning.{Names, is_among, declares, defines, some_defines, arms_define, states_define, block_defines}
use Rattle.hp_tree.specs.Programs.{TypeDecl}
use Rattle.hp_base.specs.Known.Known.{lookup}
use Rattle.law_judged.specs.Typed.Scopes.{Scope as TypeScope}
use Rattle.hp_meaning.specs.Causal.Points.{Placed}
use Rattle.hp_meaning.specs.Contract.Memory.{number_in}
use Rattle.hp_meaning.specs.Contract.Slots.{is_int}
use Rattle.hp_circuit.specs.declared.circuit.Shape.TheVariants.{Mark}
use Rattle.law_games.specs.Wiretyped.Typed.{IsWire}
use Rattle.hp_drawing.specs.declared.parts.Entry.{Entry}
use Rattle.hp_drawing.specs.Kept.{is_mark}
use Rattle.hp_drawing.specs.Told.{Told, type_shape, or_none}
use Rattle.hp_drawing.specs.Scopes.{Scope, Layer, entry_at, local_entry, entry_if, entry_in, put_if, put, add_if, add, wire_by, wire_in, shapes_in, left_names, is_declared, unknown_names, names_of_eqns, names_of_eqn, names_of_arms, names_of_states, outer_names, put_locals, put_name_if, put_names}
use Rattle.hp_drawing.specs.Sketch.{Sketch, hole}
use Rattle.law_drawing.specs.Carrying.Solving.{Has}
use Rattle.law_drawing.specs.Carrying.Drawing.{IsSolved, IsDrawn}
use Rattle.law_drawing.proofs.CarryingLemmas.Steps.{stays, both, nothing-drawn, hole-drawn}
use Rattle.law_drawing.proofs.CarryingLemmas.Values.{int-zero}
use Rattle.law_drawing.proofs.CarryingLemmas.Marks.{type-mark}

pub same-name : (x y : List ℕ) → bytes_eq x y ≡ true → x ≡ y
same-name x y h = (bytes_eq-Decides x y).0 h

pub self-name : (x : List ℕ) → bytes_eq x x ≡ true
self-name x = (bytes_eq-Decides x x).1 refl

-- what is put is found, and all else as before
pub put-found : (l : Layer) (y : List ℕ) (e : Entry) (x : List ℕ) → entry_in (put l y e) x ≡ entry_if (bytes_eq x y) e (entry_in l x)
put-found [] y e x = refl
put-found (p ∷ l) y e x = by (bytes_eq y p.0) refl (put-found l y e x)
  where
    twice : (b : Bool) (o : Option Entry) → entry_if b e o ≡ entry_if b e (entry_if b p.1 o)
    twice true o = refl
    twice false o = refl

    turned : (b c : Bool) (o : Option Entry) → (b ≡ true → c ≡ true → ⊥) → entry_if b p.1 (entry_if c e o) ≡ entry_if c e (entry_if b p.1 o)
    turned true true o n = absurd (n refl refl)
    turned true false o n = refl
    turned false c o n = refl

    by : (b : Bool) → bytes_eq y p.0 ≡ b → entry_in (put l y e) x ≡ entry_if (bytes_eq x y) e (entry_in l x) → entry_in (put_if b p e l (put l y e)) x ≡ entry_if (bytes_eq x y) e (entry_if (bytes_eq x p.0) p.1 (entry_in l x))
    by true q ih = subst (λ a. entry_if (bytes_eq x p.0) e (entry_in l x) ≡ entry_if (bytes_eq x a) e (entry_if (bytes_eq x p.0) p.1 (entry_in l x))) (sym (same-name y p.0 q)) (twice (bytes_eq x p.0) (entry_in l x))
    by false q ih =
        ap (entry_if (bytes_eq x p.0) p.1) ih
        ∙ turned (bytes_eq x p.0) (bytes_eq x y) (entry_in l x)
        (λ a b. let c : bytes_eq y p.0 ≡ true = subst (λ n. bytes_eq y n ≡ true) (sym (same-name x y b) ∙ same-name x p.0 a) (self-name y) in let d : true ≡ false = sym c ∙ q in cc)

abbrev pub Knows : Layer → List ℕ → Type 0
Knows l x = is_some (entry_in l x) ≡ true

pub knows-put : (l : Layer) (y : List ℕ) (e : Entry) (x : List ℕ) → Knows l x → Knows (put l y e) x
knows-put l y e x h = subst (λ o. is_some o ≡ true) (sym (put-found l y e x)) (by (bytes_eq x y))
  where
    by : (b : Bool) → is_some (entry_if b e (entry_in l x)) ≡ true
    by true = refl
    by false = h

pub knows-own : (l : Layer) (y : List ℕ) (e : Entry) → Knows (put l y e) y
knows-own l y e = subst (λ o. is_some o ≡ true) (sym (put-found l y e y)) (subst (λ b. is_some (entry_if b e (entry_in l y)) ≡ true) (sym (self-name y)) refl)

pub knows-add : (l : Layer) (y : List ℕ) (e : Entry) (x : List ℕ) → Knows l x → Knows (add l y e) x
knows-add l y e x h = by (entry_in l y)
  where
    by : (o : Option Entry) → Knows (add_if o l y e) x
    by None = knows-put l y e x h
    by (Some old) = h

pub knows-added : (l : Layer) (y : List ℕ) (e : Entry) → Knows (add l y e) y
knows-added l y e = by (entry_in l y) refl
  where
    by : (o : Option Entry) → entry_in l y ≡ o → Knows (add_if o l y e) y
    by None q = knows-own l y e
    by (Some old) q = ap is_some q

pub knows-split : (l : Layer) (y : List ℕ) (e : Entry) (x : List ℕ) → Knows (put l y e) x → (x ≡ y) ⊎ Knows l x
knows-split l y e x h = by (bytes_eq x y) refl (subst (λ o. is_some o ≡ true) (put-found l y e x) h)
  where
    by : (b : Bool) → bytes_eq x y ≡ b → is_some (entry_if b e (entry_in l x)) ≡ true → (x ≡ y) ⊎ Knows l x
    by true q k = inl (same-name x y q)
    by false q k = inr k

-- ---- the names that equations define

abbrev undeclared : List Decl → List (List ℕ) → List (List ℕ)
undeclared ds xs = unknown_names (is_declared ds) xs

-- each of some names
abbrev pub Each : (List ℕ → Type 0) → List (List ℕ) → Type 0
Each P [] = ⊤
Each P (x ∷ xs) = P x × Each P xs

all-join : (P : List ℕ → Type 0) (xs ys : List (List ℕ)) → Each P xs → Each P ys → Each P (xs ++ ys)
all-join P [] ys h k = k
all-join P (x ∷ xs) ys h k = (h.0, all-join P xs ys h.1 k)

pub all-map : (P Q : List ℕ → Type 0) → ((x : List ℕ) → P x → Q x) → (xs : List (List ℕ)) → Each P xs → Each Q xs
all-map P Q f [] h = tt
all-map P Q f (x ∷ xs) h = (f x h.0, all-map P Q f xs h.1)

left-or : (a b : Bool) → a ≡ true → a || b ≡ true
left-or true b h = refl
left-or false b h = absurd cc

right-or : (a b : Bool) → b ≡ true → a || b ≡ true
right-or true b h = refl
right-or false b h = h

all-undeclared : (ds : List Decl) (P : List ℕ → Type 0) (xs : List (List ℕ)) → Each P xs → Each (λ x. P x × (declares ds x ≡ false)) (undeclared ds xs)
all-undeclared ds P [] h = tt
all-undeclared ds P (x ∷ xs) h = by (declares ds x) refl (all-undeclared ds P xs h.1)
  where
    by : (b : Bool) → declares ds x ≡ b → Each (λ x. P x × (declares ds x ≡ false)) (undeclared ds xs) → Each (λ x. P x × (declares ds x ≡ false)) ((if b then [] else x ∷ []) ++ undeclared ds xs)
    by true q ih = ih
    by false q ih = ((h.0, q), ih)

defined-here : (a b : Bool) → a ≡ true → b ≡ false → a && not b ≡ true
defined-here a b e f = ap (λ c. c && not b) e ∙ ap (λ d. not d) f

mutual
  pub eqns-names : (es : Eqns) → Each (λ x. some_defines es x ≡ true) (names_of_eqns es)
  eqns-names no_eqn = tt
  eqns-names (more_eqns e es) =
      all-join (λ x. some_defines (more_eqns e es) x ≡ true) (names_of_eqn e) (names_of_eqns es)
      (all-map (λ x. defines e x ≡ true) (λ x. some_defines (more_eqns e es) x ≡ true) (λ x h. left-or (defines e x) (some_defines es x) h) (names_of_eqn e) (eqn-names e))
      (all-map (λ x. some_defines es x ≡ true) (λ x. some_defines (more_eqns e es) x ≡ true) (λ x h. right-or (defines e x) (some_defines es x) h) (names_of_eqns es) (eqns-names es))

  pub eqn-names : (e : Eqn) → Each (λ x. defines e x ≡ true) (names_of_eqn e)
  eqn-names (define s ys e) = lefts ys
    where
      lefts : (ys : List (List ℕ × Span)) → Each (λ x. is_among ys x ≡ true) (left_names ys)
      lefts [] = tt
      lefts (y ∷ ys) = (
        left-or (bytes_eq y.0 y.0) (is_among ys y.0) (self-name y.0),
        all-map (λ x. is_among ys x ≡ true) (λ x. is_among (y ∷ ys) x ≡ true) (λ x h. right-or (bytes_eq y.0 x) (is_among ys x) h) (left_names ys) (lefts ys),
      )
  eqn-names (switch s e arms) = arms-names arms
  eqn-names (reset s b e) = block-names b
  eqn-names (automaton s ss) = states-names ss

  arms-names : (arms : Arms) → Each (λ x. arms_define arms x ≡ true) (names_of_arms arms)
  arms-names no_arm = tt
  arms-names (more_arms c b s arms) =
      all-join (λ x. arms_define (more_arms c b s arms) x ≡ true) (outer_names b) (names_of_arms arms)
      (all-map (λ x. block_defines b x ≡ true) (λ x. arms_define (more_arms c b s arms) x ≡ true) (λ x h. left-or (block_defines b x) (arms_define arms x) h) (outer_names b) (block-names b))
      (all-map (λ x. arms_define arms x ≡ true) (λ x. arms_define (more_arms c b s arms) x ≡ true) (λ x h. right-or (block_defines b x) (arms_define arms x) h) (names_of_arms arms) (arms-names arms))

  states-names : (ss : States) → Each (λ x. states_define ss x ≡ true) (names_of_states ss)
  states-names no_state = tt
  states-names (more_states f b until unless s ss) =
      all-join (λ x. states_define (more_states f b until unless s ss) x ≡ true) (outer_names b) (names_of_states ss)
      (all-map (λ x. block_defines b x ≡ true) (λ x. states_define (more_states f b until unless s ss) x ≡ true) (λ x h. left-or (block_defines b x) (states_define ss x) h) (outer_names b) (block-names b))
      (all-map (λ x. states_define ss x ≡ true) (λ x. states_define (more_states f b until unless s ss) x ≡ true) (λ x h. right-or (block_defines b x) (states_define ss x) h) (names_of_states ss) (states-names ss))

  pub block-names : (b : Block) → Each (λ x. block_defines b x ≡ true) (outer_names b)
  block-names (block ds es) =
      all-map (λ x. (some_defines es x ≡ true) × (declares ds x ≡ false)) (λ x. block_defines (block ds es) x ≡ true) (λ x h. defined-here (some_defines es x) (declares ds x) h.0 h.1) (undeclared ds (names_of_eqns es))
      (all-undeclared ds (λ x. some_defines es x ≡ true) (names_of_eqns es) (eqns-names es))

-- and each of them occurs
abbrev pub Occurs : List (List ℕ) → List ℕ → Type 0
Occurs [] x = ⊥
Occurs (y ∷ ys) x = (y ≡ x) ⊎ Occurs ys x

occurs-left : (xs ys : List (List ℕ)) (x : List ℕ) → Occurs xs x → Occurs (xs ++ ys) x
occurs-left [] ys x h = absurd h
occurs-left (y ∷ xs) ys x h = elim h [ inl e ↦ inl e | inr k ↦ inr (occurs-left xs ys x k) ]

occurs-right : (xs ys : List (List ℕ)) (x : List ℕ) → Occurs ys x → Occurs (xs ++ ys) x
occurs-right [] ys x h = h
occurs-right (y ∷ xs) ys x h = inr (occurs-right xs ys x h)

occurs-undeclared : (ds : List Decl) (xs : List (List ℕ)) (x : List ℕ) → declares ds x ≡ false → Occurs xs x → Occurs (undeclared ds xs) x
occurs-undeclared ds [] x f h = absurd h
occurs-undeclared ds (y ∷ xs) x f h = by (declares ds y) refl (λ k. occurs-undeclared ds xs x f k) h
  where
    by : (b : Bool) → declares ds y ≡ b → (Occurs xs x → Occurs (undeclared ds xs) x) → (y ≡ x) ⊎ Occurs xs x → Occurs ((if b then [] else y ∷ []) ++ undeclared ds xs) x
    by true q ih (inl e) = absurd (let d : true ≡ false = sym q ∙ ap (declares ds) e ∙ f in cc)
    by true q ih (inr k) = ih k
    by false q ih (inl e) = inl e
    by false q ih (inr k) = inr (ih k)

pub or-cases : {X : Type 0} (a b : Bool) → a || b ≡ true → (a ≡ true → X) → (b ≡ true → X) → X
or-cases true b h f g = f refl
or-cases false b h f g = g h

and-cases : (a b : Bool) → a && not b ≡ true → (a ≡ true) × (b ≡ false)
and-cases true true h = absurd cc
and-cases true false h = (refl, refl)
and-cases false b h = absurd cc

mutual
  pub eqns-occur : (es : Eqns) (x : List ℕ) → some_defines es x ≡ true → Occurs (names_of_eqns es) x
  eqns-occur no_eqn x h = absurd cc
  eqns-occur (more_eqns e es) x h =
      or-cases (defines e x) (some_defines es x) h (λ k. occurs-left (names_of_eqn e) (names_of_eqns es) x (eqn-occurs e x k)) (λ k. occurs-right (names_of_eqn e) (names_of_eqns es) x (eqns-occur es x k))

  pub eqn-occurs : (e : Eqn) (x : List ℕ) → defines e x ≡ true → Occurs (names_of_eqn e) x
  eqn-occurs (define s ys e) x h = lefts ys h
    where
      lefts : (ys : List (List ℕ × Span)) → is_among ys x ≡ true → Occurs (left_names ys) x
      lefts [] h = absurd cc
      lefts (y ∷ ys) h = or-cases (bytes_eq y.0 x) (is_among ys x) h (λ k. inl (same-name y.0 x k)) (λ k. inr (lefts ys k))
  eqn-occurs (switch s e arms) x h = arms-occur arms x h
  eqn-occurs (reset s b e) x h = block-occurs b x h
  eqn-occurs (automaton s ss) x h = states-occur ss x h

  arms-occur : (arms : Arms) (x : List ℕ) → arms_define arms x ≡ true → Occurs (names_of_arms arms) x
  arms-occur no_arm x h = absurd cc
  arms-occur (more_arms c b s arms) x h =
      or-cases (block_defines b x) (arms_define arms x) h (λ k. occurs-left (outer_names b) (names_of_arms arms) x (block-occurs b x k)) (λ k. occurs-right (outer_names b) (names_of_arms arms) x (arms-occur arms x k))

  states-occur : (ss : States) (x : List ℕ) → states_define ss x ≡ true → Occurs (names_of_states ss) x
  states-occur no_state x h = absurd cc
  states-occur (more_states f b until unless s ss) x h =
      or-cases (block_defines b x) (states_define ss x) h (λ k. occurs-left (outer_names b) (names_of_states ss) x (block-occurs b x k)) (λ k. occurs-right (outer_names b) (names_of_states ss) x (states-occur ss x k))

  pub block-occurs : (b : Block) (x : List ℕ) → block_defines b x ≡ true → Occurs (outer_names b) x
  block-occurs (block ds es) x h = let a = and-cases (some_defines es x) (declares ds x) h in occurs-undeclared ds (names_of_eqns es) x a.1 (eqns-occur es x a.0)

-- ---- layers of names with values

module _ (types : List TypeDecl) (told : Told) (s : TypeScope) (N : Names) where
  -- each name of a layer has the wire of its value, and an integer is a mark
  pub record IsLayer (ns : List ℕ) (l : Layer) : Type 0 where
    pub carries : (x : List ℕ) (e : Entry) → entry_in l x ≡ Some e → Has ns (or_none e.wire) (number_in (N x))
    pub shaped : (x : List ℕ) (e : Entry) (u : Ty) → entry_in l x ≡ Some e → lookup s.variables x ≡ Some u → is_mark e.shape ≡ is_int u

  pub wire-known : (ns : List ℕ) (l : Layer) (x : List ℕ) → IsLayer ns l → Knows l x → Has ns (wire_in l x) (number_in (N x))
  wire-known ns l x h k = by (entry_in l x) refl k
    where
      by : (o : Option Entry) → entry_in l x ≡ o → is_some o ≡ true → Has ns (or_none (wire_by o)) (number_in (N x))
      by None q k = absurd cc
      by (Some e) q k = h.carries x e q

  pub no-layer : (ns : List ℕ) → IsLayer ns []
  no-layer ns = record { carries = λ x e h. absurd (none-some e h); shaped = λ x e u h k. absurd (none-some e h) }

  pub layer-more : (ns ns' : List ℕ) (l : Layer) → ((w k : ℕ) → Has ns w k → Has ns' w k) → IsLayer ns l → IsLayer ns' l
  layer-more ns ns' l f h = record { carries = λ x e q. f (or_none e.wire) (number_in (N x)) (h.carries x e q); shaped = h.shaped }

  pub layer-put : (ns : List ℕ) (l : Layer) (y : List ℕ) (e : Entry) → IsLayer ns l → Has ns (or_none e.wire) (number_in (N y)) → ((u : Ty) → lookup s.variables y ≡ Some u → is_mark e.shape ≡ is_int u) → IsLayer ns (put l y e)
  layer-put ns l y e h k f = record {
    carries = λ x e' q. carried x e' (bytes_eq x y) refl (sym (put-found l y e x) ∙ q);
    shaped = λ x e' u q v. shape x e' u v (bytes_eq x y) refl (sym (put-found l y e x) ∙ q);
  }
    where
      carried : (x : List ℕ) (e' : Entry) (b : Bool) → bytes_eq x y ≡ b → entry_if b e (entry_in l x) ≡ Some e' → Has ns (or_none e'.wire) (number_in (N x))
      carried x e' true q r = subst (λ a. Has ns (or_none a.wire) (number_in (N x))) (same_Some e e' r) (subst (λ n. Has ns (or_none e.wire) (number_in (N n))) (sym (same-name x y q)) k)
      carried x e' false q r = h.carries x e' r

      shape : (x : List ℕ) (e' : Entry) (u : Ty) → lookup s.variables x ≡ Some u → (b : Bool) → bytes_eq x y ≡ b → entry_if b e (entry_in l x) ≡ Some e' → is_mark e'.shape ≡ is_int u
      shape x e' u v true q r = subst (λ a. is_mark a.shape ≡ is_int u) (same_Some e e' r) (f u (subst (λ n. lookup s.variables n ≡ Some u) (same-name x y q) v))
      shape x e' u v false q r = h.shaped x e' u r v

  pub layer-add : (ns : List ℕ) (l : Layer) (y : List ℕ) (e : Entry) → IsLayer ns l → Has ns (or_none e.wire) (number_in (N y)) → ((u : Ty) → lookup s.variables y ≡ Some u → is_mark e.shape ≡ is_int u) → IsLayer ns (add l y e)
  layer-add ns l y e h k f = by (entry_in l y)
    where
      by : (o : Option Entry) → IsLayer ns (add_if o l y e)
      by None = layer-put ns l y e h k f
      by (Some old) = h

  -- what is asked of variables: their types in the scope, and that their values are of these
  abbrev pub LocalsFit : List Decl → Type 0
  LocalsFit [] = ⊤
  LocalsFit (d ∷ ds) = ((lookup s.variables d.name ≡ Some d.ty) × IsWire types d.ty (N d.name)) × LocalsFit ds

  module _ (slot : ℕ → ℕ) (next : Instant) (supposes owes : Placed → Bool) where
    mark-zero : (t : Ty) (v : Value) → IsWire types t v → type_shape told t ≡ Mark → number_in v ≡ 0
    mark-zero t v h e = int-zero types t v (sym (type-mark told t) ∙ ap is_mark e) h

    pub locals-drawn : (ds : List Decl) (k : ℕ) (l : Layer) (d : Sketch) (ns : List ℕ) → IsSolved slot d ns → IsLayer ns l → LocalsFit ds
        → (ns' : List ℕ) × IsDrawn slot next supposes owes d ns [] [] (put_locals told k ds l d).1 ns' × IsLayer ns' (put_locals told k ds l d).0
        × ((x : List ℕ) → Knows l x → Knows (put_locals told k ds l d).0 x) × ((x : List ℕ) → declares ds x ≡ true → Knows (put_locals told k ds l d).0 x)
    locals-drawn [] k l d ns g h f = (ns, nothing-drawn slot next supposes owes d ns g, h, λ x q. q, λ x q. absurd cc)
    locals-drawn (o ∷ ds) k l d ns g h f =
        let p = type_shape told o.ty in
        let w = hole p d in
        let m = hole-drawn slot next supposes owes p d ns (number_in (N o.name)) g (mark-zero o.ty (N o.name) f.0.1) in
        let e = local_entry k w.0 p in
        let l1 = add l o.name e in
        let h1 = layer-add m.0 l o.name e (layer-more ns m.0 l (stays slot next supposes owes d ns [] [] w.1 m.0 m.1) h) m.2
        (λ u q. type-mark told o.ty ∙ ap is_int (same_Some o.ty u (sym f.0.0 ∙ q))) in
        let x = locals-drawn ds (k + 1) l1 w.1 m.0 m.1.solved h1 f.1 in (
          x.0,
          both slot next supposes owes d ns [] [] w.1 m.0 [] [] (put_locals told (k + 1) ds l1 w.1).1 x.0 m.1 x.1,
          x.2,
          λ y q. x.3 y (knows-add l o.name e y q),
          λ y q. or-cases (bytes_eq o.name y) (declares ds y) q (λ b. x.3 y (subst (λ n. Knows l1 n) (same-name o.name y b) (knows-added l o.name e))) (λ b. x.4 y b),
        )

    -- a name that is not known yet has a type, and what it carries outside is of that
    abbrev pub NameFits : Scope → Layer → List ℕ → Type 0
    NameFits z l x = Knows l x ⊎ ((u : Ty) × (lookup s.variables x ≡ Some u) × IsWire types u (N x) × (is_mark (shapes_in z x) ≡ is_int u))

    abbrev NamesDrawn : Scope → List ℕ → List (List ℕ) → Layer → Sketch → List ℕ → Layer × Sketch → Type 0
    NamesDrawn z y xs l d ns a =
        (ns' : List ℕ) × IsDrawn slot next supposes owes d ns [] [] (put_names z xs a.0 a.1).1 ns' × IsLayer ns' (put_names z xs a.0 a.1).0
        × ((x : List ℕ) → Knows l x → Knows (put_names z xs a.0 a.1).0 x) × ((x : List ℕ) → Occurs (y ∷ xs) x → Knows (put_names z xs a.0 a.1).0 x)

    abbrev Again : Scope → List (List ℕ) → Type 0
    Again z xs =
        (l : Layer) (d : Sketch) (ns : List ℕ) → IsSolved slot d ns → IsLayer ns l → Each (NameFits z l) xs
        → (ns' : List ℕ) × IsDrawn slot next supposes owes d ns [] [] (put_names z xs l d).1 ns' × IsLayer ns' (put_names z xs l d).0
        × ((x : List ℕ) → Knows l x → Knows (put_names z xs l d).0 x) × ((x : List ℕ) → Occurs xs x → Knows (put_names z xs l d).0 x)

    pub names-drawn : (z : Scope) (xs : List (List ℕ)) (l : Layer) (d : Sketch) (ns : List ℕ) → IsSolved slot d ns → IsLayer ns l → Each (NameFits z l) xs
        → (ns' : List ℕ) × IsDrawn slot next supposes owes d ns [] [] (put_names z xs l d).1 ns' × IsLayer ns' (put_names z xs l d).0
        × ((x : List ℕ) → Knows l x → Knows (put_names z xs l d).0 x) × ((x : List ℕ) → Occurs xs x → Knows (put_names z xs l d).0 x)
    names-drawn z [] l d ns g h f = (ns, nothing-drawn slot next supposes owes d ns g, h, λ x q. q, λ x q. absurd q)
    names-drawn z (y ∷ xs) l d ns g h f = by (entry_in l y) refl f.0 (λ l d ns g h f. names-drawn z xs l d ns g h f)
      where
        occurs : (l1 : Layer) (r : Layer) → Knows l1 y → ((x : List ℕ) → Knows l1 x → Knows r x) → ((x : List ℕ) → Occurs xs x → Knows r x) → (x : List ℕ) → Occurs (y ∷ xs) x → Knows r x
        occurs l1 r k f g x (inl e) = f x (subst (λ n. Knows l1 n) e k)
        occurs l1 r k f g x (inr o) = g x o

        by : (o : Option Entry) → entry_in l y ≡ o → NameFits z l y → Again z xs → NamesDrawn z y xs l d ns (put_name_if o (shapes_in z y) y l d)
        by (Some e) q n ih =
            let x = ih l d ns g h f.1 in
            (x.0, x.1, x.2, x.3, occurs l (put_names z xs l d).0 (ap is_some q) x.3 x.4)
        by None q (inl k) ih = absurd (let c : false ≡ true = ap is_some (sym q) ∙ k in cc)
        by None q (inr n) ih =
            let p = shapes_in z y in
            let w = hole p d in
            let m = hole-drawn slot next supposes owes p d ns (number_in (N y)) g (λ e. int-zero types n.0 (N y) (sym n.3 ∙ ap is_mark e) n.2) in
            let e = entry_at w.0 p in
            let l1 = put l y e in
            let h1 = layer-put m.0 l y e (layer-more ns m.0 l (stays slot next supposes owes d ns [] [] w.1 m.0 m.1) h) m.2 (λ u v. n.3 ∙ ap is_int (same_Some n.0 u (sym n.1 ∙ v))) in
            let x = ih l1 w.1 m.0 m.1.solved h1 (all-map (NameFits z l) (NameFits z l1) (λ x fit. elim fit [ inl k ↦ inl (knows-put l y e x k) | inr t ↦ inr t ]) xs f.1) in
            (x.0, both slot next supposes owes d ns [] [] w.1 m.0 [] [] (put_names z xs l1 w.1).1 x.0 m.1 x.1, x.2, λ a b. x.3 a (knows-put l y e a b), occurs l1 (put_names z xs l1 w.1).0 (knows-own l y e) x.3 x.4)
