-- In two instants of a block after the same past each variable of it is Nil in one exactly where it is in the other, wherever it is there in both.
use Rattle.std.proofs.Common.{◌≡◌, ℕ, List, [], ◌∷◌, refl, sym, ap, subst, ◌∙◌}
use Rattle.std.proofs.lemmas.Slice.Eq.{bytes_eq-Decides}
use Rattle.std.specs.Prelude.{Bool, true, false, ◌&&◌, ◌||◌, not, IsFalse, if◌then◌else◌}
use Rattle.std.specs.Str.{bytes_eq}
use Rattle.hp_base.specs.declared.span.Span.{Span}
use Rattle.hp_base.specs.declared.ty.Ty.{Ty}
use Rattle.hp_base.specs.declared.ty.Ty.TheVariants as ty
use Rattle.hp_base.specs.declared.value.Value.{Value}
use Rattle.hp_base.specs.declared.value.Value.TheVariants.{Absent, Nil, B, E, I, Star}
use Rattle.hp_tree.specs.declared.program.Item.{Item}
use Rattle.hp_tree.specs.declared.program.Item.TheVariants.{TypeItem, NodeItem}
use Rattle.hp_tree.specs.Expressions.{Expr, constant, variable, last_of, one, two, choose, pre, fby, arrow, when_is, merge, call}
use Rattle.hp_tree.specs.Blocks.{Decl, Block, block, Eqns, no_eqn, more_eqns, Eqn, define, switch, reset, automaton, Arms, no_arm, more_arms, States, no_state, more_states}
use Rattle.hp_tree.specs.Programs.{TypeDecl}
use Rattle.hp_tree.specs.Operators.{abstraction, is_there}
use Rattle.hp_tree.specs.Instant.{Named, Head, Tail, Right, Instance, Arms as ArmsOf, States as StatesOf, Body, Place, Instant, Past, Given, part, parts, top, nothing, since, at, Clock, holds}
use Rattle.hp_tree.specs.Meaning.{Names, Nodes, declares, defines, some_defines, arms_define, states_define, block_defines, clock_of, output_for, right, gives, defined, expr, equations, equation}
use Rattle.hp_meaning.specs.Causal.Abstract.{callees, contract_alone}
use Rattle.hp_meaning.specs.Causal.Sources.{NameSources, PlaceSources, Within, below}
use Rattle.hp_meaning.specs.Causal.WhatIsRead.{of_expr, of_definition, of_definitions}
use Rattle.law_judged.specs.Typed.Scopes.{Scope}
use Rattle.hp_init.specs.Classes.{Classes, Assignment, Known, or_first, known_within}
use Rattle.law_values.specs.Valued.Classed.{seen_in_node, BlockDefinite, EqnsDefinite, EqnDefinite, ArmsDefinite, StatesDefinite}
use Rattle.law_values.specs.Valued.Fitting.{IsThere}
use Rattle.law_values.specs.Valued.Values.{Classing, class_here, class_behind, scope_behind, either_of}
use Rattle.law_games.specs.Wiretyped.Typed.{IsWire}
use Rattle.law_games.specs.Abstracted.Fitting.{ExprFits, EqnsFit, EqnFits, OutputsFit}
use Rattle.law_games.specs.Abstracted.Instances.{InstanceFits, CalledFits}
use Rattle.law_choices.proofs.ChosenLemmas.Nils.{is_nil, Alike, Flags, absent_nil, clock_there, nils_alike}

-- ---- outputs of calls

wire_nil : (types : List TypeDecl) (t : Ty) → IsWire types t Nil → ⊥
wire_nil types ty.Bool h = h
wire_nil types ty.Int h = absurd (cc)
wire_nil types (ty.Enum t) h = h

pub wire_value : (types : List TypeDecl) (t : Ty) (v : Value) → IsWire types t v → is_nil v ≡ false
wire_value types t Nil h = absurd (wire_nil types t h)
wire_value types t Absent h = refl
wire_value types t (B b) h = refl
wire_value types t (E s k) h = refl
wire_value types t (I n) h = refl
wire_value types t Star h = refl

outputs_nil : (types : List TypeDecl) (ds : List Decl) (i : Instant) (x : List ℕ) → OutputsFit types ds i → declares ds x ≡ true → is_nil (i (Named x ∷ [])) ≡ false
outputs_nil types [] i x h d = absurd (cc)
outputs_nil types (y ∷ ds) i x h d = by (bytes_eq y.name x) refl d (outputs_nil types ds i x h.1)
  where
    by : (b : Bool) → bytes_eq y.name x ≡ b → (b || declares ds x) ≡ true → (declares ds x ≡ true → is_nil (i (Named x ∷ [])) ≡ false) → is_nil (i (Named x ∷ [])) ≡ false
    by true e d more = subst (λ z. is_nil (i (Named z ∷ [])) ≡ false) ((bytes_eq-Decides y.name x).0 e) (wire_value types y.ty (i (Named y.name ∷ [])) h.0)
    by false e d more = more d

instance_nil : (types : List TypeDecl) (items : List Item) (cls : Classing) (f : List ℕ) (vs : List Value) (g : Given) (i : Instant) → CalledFits types true cls items f i → ((p : Place) → i p ≡ (callees types items).instant f vs g i p) → (o : List ℕ) → is_nil (i (Named o ∷ [])) ≡ false
instance_nil types [] cls f vs g i h m o = absent_nil (i (Named o ∷ [])) (m (Named o ∷ []))
instance_nil types (TypeItem t ∷ items) cls f vs g i h m o = instance_nil types items cls f vs g i h m o
instance_nil types (NodeItem n ∷ items) cls f vs g i h m o = by (bytes_eq n.name f) h m (λ h m. instance_nil types items (class_behind cls) f vs g i h m o)
  where
    own : (b : Bool) → declares n.outputs o ≡ b → OutputsFit types n.outputs i → (IsFalse (declares n.outputs o) → i (Named o ∷ []) ≡ Absent) → is_nil (i (Named o ∷ [])) ≡ false
    own true e h k = outputs_nil types n.outputs i o h e
    own false e h k = absent_nil (i (Named o ∷ [])) (k e)

    by : (b : Bool) → either_of b (InstanceFits types true (scope_behind items) (seen_in_node (class_here cls) n) n i) (CalledFits types true (class_behind cls) items f i) → ((p : Place) → i p ≡ (if b then contract_alone types n vs g i else (callees types items).instant f vs g i) p) → (CalledFits types true (class_behind cls) items f i → ((p : Place) → i p ≡ (callees types items).instant f vs g i p) → is_nil (i (Named o ∷ [])) ≡ false) → is_nil (i (Named o ∷ [])) ≡ false
    by true h m more = own (declares n.outputs o) refl h.0 (λ z. h.1.1.1.0 o z)
    by false h m more = more h m

there_nil : (types : List TypeDecl) (items : List Item) (cls : Classing) (d : Bool) (f : List ℕ) (vs : List Value) (g : Given) (i : Instant) → IsThere d (CalledFits types true cls items f) i → ((p : Place) → i p ≡ (if d then (callees types items).instant f vs g i else nothing) p) → (o : List ℕ) → is_nil ((if d then (callees types items).instant f vs g i else nothing) (Named o ∷ [])) ≡ false
there_nil types items cls true f vs g i h m o = ap is_nil (sym (m (Named o ∷ []))) ∙ instance_nil types items cls f vs g i h m o
there_nil types items cls false f vs g i h m o = refl

if_either : (d : Bool) (v w : Value) → is_nil v ≡ false → is_nil w ≡ false → is_nil (if d then v else w) ≡ false
if_either true v w h k = h
if_either false v w h k = k

output_nil : (ys : List (List ℕ × Span)) (os : List (List ℕ)) (i : Instant) (x : List ℕ) → ((o : List ℕ) → is_nil (i (Named o ∷ [])) ≡ false) → is_nil (output_for ys os i x) ≡ false
output_nil [] os i x h = refl
output_nil (y ∷ ys) [] i x h = refl
output_nil (y ∷ ys) (o ∷ os) i x h = if_either (bytes_eq y.0 x) (i (Named o ∷ [])) (output_for ys os i x) (h o) (output_nil ys os i x h)

-- ---- names that are First

or_cases : {X : Type 0} (a b : Bool) → (a || b) ≡ true → (a ≡ true → X) → (b ≡ true → X) → X
or_cases true b e f g = f refl
or_cases false b e f g = g e

and_parts : (a b : Bool) → (a && not b) ≡ true → (a ≡ true) × (b ≡ false)
and_parts true false e = (refl, refl)
and_parts true true e = absurd (cc)
and_parts false b e = absurd (cc)

clash : {X : Type 0} (b : Bool) → b ≡ true → b ≡ false → X
clash b e f = absurd (let h : true ≡ false = sym e ∙ f in cc)

block_first : (b : Block) (k : Known) (class : Assignment) (x : List ℕ) → BlockDefinite k class b → block_defines b x ≡ true → or_first (k.variables x) ≡ false
block_first (block ds es) k class x h d = let r = and_parts (some_defines es x) (declares ds x) d in h.1.0 x r.0 r.1

arms_first : (arms : Arms) (k : Known) (class : Assignment) (x : List ℕ) → ArmsDefinite k class arms → arms_define arms x ≡ true → or_first (k.variables x) ≡ false
arms_first no_arm k class x h d = absurd (cc)
arms_first (more_arms c b at arms) k class x h d =
    or_cases (block_defines b x) (arms_define arms x) d (block_first b k (λ p. class (Head ∷ p)) x h.0) (arms_first arms k (λ p. class (Tail ∷ p)) x h.1)

states_first : (ss : States) (k : Known) (class : Assignment) (x : List ℕ) → StatesDefinite k class ss → states_define ss x ≡ true → or_first (k.variables x) ≡ false
states_first no_state k class x h d = absurd (cc)
states_first (more_states f b until unless at ss) k class x h d =
    or_cases (block_defines b x) (states_define ss x) d (block_first b k (λ p. class (Head ∷ Body ∷ p)) x h.0) (states_first ss k (λ p. class (Tail ∷ p)) x h.1)

-- ---- what an equation gives

module _ (P : Place → Type 0) (types : List TypeDecl) (items : List Item) (cls : Classing) (s : Scope) (second : Classes) (reads : NameSources) (names names' last : Names) (alike : (x : List ℕ) → Within P (reads x) → second x ≡ true → Alike (names x) (names' x)) where
  abbrev N : Nodes
  N = callees types items

  abbrev callee : List ℕ → Instant → Type 0
  callee f i = CalledFits types true cls items f i

  abbrev with_past : Past → Instant → Given
  with_past past free = record { past = past; free = free }

  abbrev Fit : Names → Expr → Clock → Instant → Type 0
  Fit ns e clock i = ExprFits types true callee s second (λ c. holds types c ns) e clock i

  abbrev Is : Names → Expr → Clock → Past → Instant → Instant → Type 0
  Is ns e clock past free i = (p : Place) → i p ≡ expr types abstraction N e clock ns last (with_past past free) i p

  top_there : (ns : Names) (e : Expr) (clock : Clock) (i : Instant) → Fit ns e clock i → is_there (i []) ≡ true → holds types clock ns ≡ true
  top_there ns (constant a c) clock i h t = clock_there types (holds types clock ns) _ _ (i []) h t
  top_there ns (variable a c) clock i h t = clock_there types (holds types clock ns) _ _ (i []) h t
  top_there ns (last_of a c) clock i h t = clock_there types (holds types clock ns) _ _ (i []) h t
  top_there ns (one a o b) clock i h t = clock_there types (holds types clock ns) _ _ (i []) h.0 t
  top_there ns (two a o b c) clock i h t = clock_there types (holds types clock ns) _ _ (i []) h.0 t
  top_there ns (choose a b c d) clock i h t = clock_there types (holds types clock ns) _ _ (i []) h.0 t
  top_there ns (pre a b) clock i h t = clock_there types (holds types clock ns) _ _ (i []) h.0 t
  top_there ns (fby a b c) clock i h t = clock_there types (holds types clock ns) _ _ (i []) h.0 t
  top_there ns (arrow a b c) clock i h t = clock_there types (holds types clock ns) _ _ (i []) h.0 t
  top_there ns (when_is a b c x) clock i h t = clock_there types (holds types clock ns) _ _ (i []) h.0 t
  top_there ns (merge a x ps) clock i h t = clock_there types (holds types clock ns) _ _ (i []) h.0 t
  top_there ns (call a f inlined es) clock i h t = clock_there types (holds types clock ns) _ _ (i []) h.0 t

  top_alike : (e : Expr) (clock : Clock) (k : PlaceSources) (past : Past) (free free' i j : Instant) → Fit names e clock i → Fit names' e clock j → Is names e clock past free i → Is names' e clock past free' j → Flags i free → Flags j free' → Within P (of_expr e reads k)
      → Alike (top (expr types abstraction N e clock names last (with_past past free) i)) (top (expr types abstraction N e clock names' last (with_past past free') j))
  top_alike e clock k past free free' i j h h' m m' fl fl' w t u =
      ap is_nil (sym (m []))
      ∙ nils_alike P types N callee s second reads names names' last alike e clock k past free free' i j (top_there names e clock i h (ap is_there (m []) ∙ t)) (top_there names' e clock j h' (ap is_there (m' []) ∙ u)) h h' m m' fl fl' w
      ∙ ap is_nil (m' [])

  right_alike : (ys : List (List ℕ × Span)) (e : Expr) (clock : Clock) (k : PlaceSources) (past : Past) (free free' i j : Instant) (x : List ℕ) → Fit names e clock i → Fit names' e clock j → Is names e clock past free i → Is names' e clock past free' j → Flags i free → Flags j free' → Within P (of_expr e reads k)
      → Alike (right types abstraction N ys e (expr types abstraction N e clock names last (with_past past free) i) x) (right types abstraction N ys e (expr types abstraction N e clock names' last (with_past past free') j) x)
  right_alike ys (call a f inlined es) clock k past free free' i j x h h' m m' fl fl' w t u =
      output_nil ys (N.outputs f) _ x (there_nil types items cls (holds types clock names) f _ (since false (at Instance (with_past past free))) (part Instance i) h.1.1 (λ p. m (Instance ∷ p)))
      ∙ sym (output_nil ys (N.outputs f) _ x (there_nil types items cls (holds types clock names') f _ (since false (at Instance (with_past past free'))) (part Instance j) h'.1.1 (λ p. m' (Instance ∷ p))))
  right_alike ys (constant a c) clock k past free free' i j x h h' m m' fl fl' w t u = top_alike (constant a c) clock k past free free' i j h h' m m' fl fl' w t u
  right_alike ys (variable a c) clock k past free free' i j x h h' m m' fl fl' w t u = top_alike (variable a c) clock k past free free' i j h h' m m' fl fl' w t u
  right_alike ys (last_of a c) clock k past free free' i j x h h' m m' fl fl' w t u = top_alike (last_of a c) clock k past free free' i j h h' m m' fl fl' w t u
  right_alike ys (one a o b) clock k past free free' i j x h h' m m' fl fl' w t u = top_alike (one a o b) clock k past free free' i j h h' m m' fl fl' w t u
  right_alike ys (two a o b c) clock k past free free' i j x h h' m m' fl fl' w t u = top_alike (two a o b c) clock k past free free' i j h h' m m' fl fl' w t u
  right_alike ys (choose a b c d) clock k past free free' i j x h h' m m' fl fl' w t u = top_alike (choose a b c d) clock k past free free' i j h h' m m' fl fl' w t u
  right_alike ys (pre a b) clock k past free free' i j x h h' m m' fl fl' w t u = top_alike (pre a b) clock k past free free' i j h h' m m' fl fl' w t u
  right_alike ys (fby a b c) clock k past free free' i j x h h' m m' fl fl' w t u = top_alike (fby a b c) clock k past free free' i j h h' m m' fl fl' w t u
  right_alike ys (arrow a b c) clock k past free free' i j x h h' m m' fl fl' w t u = top_alike (arrow a b c) clock k past free free' i j h h' m m' fl fl' w t u
  right_alike ys (when_is a b c y) clock k past free free' i j x h h' m m' fl fl' w t u = top_alike (when_is a b c y) clock k past free free' i j h h' m m' fl fl' w t u
  right_alike ys (merge a y ps) clock k past free free' i j x h h' m m' fl fl' w t u = top_alike (merge a y ps) clock k past free free' i j h h' m m' fl fl' w t u

  module _ (kn : Known) (x : List ℕ) (late : or_first (kn.variables x) ≡ true) (ds : List Decl) where
    abbrev Step : Names → Eqn → Past → Instant → Instant → Type 0
    Step ns e past free i = (p : Place) → i p ≡ equation types abstraction N ds e ns last (with_past past free) i p

    gives_alike : (e : Eqn) (cl cE : Assignment) (k : PlaceSources) (past : Past) (free free' i j : Instant) → defines e x ≡ true → EqnDefinite kn cl e → EqnFits types true callee ds s second cE names e i → EqnFits types true callee ds s second cE names' e j
        → Step names e past free i → Step names' e past free' j → Flags i free → Flags j free' → Within P (of_definition ds e reads k x)
        → Alike (gives types abstraction N ds e names last (with_past past free) i x) (gives types abstraction N ds e names' last (with_past past free') j x)
    gives_alike (define a ys e) cl cE k past free free' i j d df h h' m m' fl fl' w =
        right_alike ys e (clock_of ds ys e) (below Right k) (parts Right past) (part Right free) (part Right free') (part Right i) (part Right j) x h h' (λ p. m (Right ∷ p)) (λ p. m' (Right ∷ p)) (λ p. fl (Right ∷ p)) (λ p. fl' (Right ∷ p)) w.1
    gives_alike (switch a e arms) cl cE k past free free' i j d df h h' m m' fl fl' w = clash (or_first (kn.variables x)) late (arms_first arms (known_within (switch a e arms) kn) (λ p. cl (ArmsOf ∷ p)) x df d)
    gives_alike (reset a b e) cl cE k past free free' i j d df h h' m m' fl fl' w = clash (or_first (kn.variables x)) late (block_first b (known_within (reset a b e) kn) (λ p. cl (Body ∷ p)) x df d)
    gives_alike (automaton a ss) cl cE k past free free' i j d df h h' m m' fl fl' w = clash (or_first (kn.variables x)) late (states_first ss (known_within (automaton a ss) kn) (λ p. cl (StatesOf ∷ p)) x df d)

    pub defined_alike : (es : Eqns) (cl cE : Assignment) (k : PlaceSources) (past : Past) (free free' i j : Instant) → EqnsDefinite kn cl es → EqnsFit types true callee ds s second cE names es i → EqnsFit types true callee ds s second cE names' es j
        → ((p : Place) → i p ≡ equations types abstraction N ds es names last (with_past past free) i p) → ((p : Place) → j p ≡ equations types abstraction N ds es names' last (with_past past free') j p) → Flags i free → Flags j free' → Within P (of_definitions ds es reads k x)
        → Alike (defined types abstraction N ds es names last (with_past past free) i x) (defined types abstraction N ds es names' last (with_past past free') j x)
    defined_alike no_eqn cl cE k past free free' i j df h h' m m' fl fl' w = λ t u. refl
    defined_alike (more_eqns e es) cl cE k past free free' i j df h h' m m' fl fl' w =
        by (defines e x) refl w (defined_alike es (λ p. cl (Tail ∷ p)) (λ p. cE (Tail ∷ p)) (below Tail k) (parts Tail past) (part Tail free) (part Tail free') (part Tail i) (part Tail j) df.1 h.1 h'.1 (λ p. m (Tail ∷ p)) (λ p. m' (Tail ∷ p)) (λ p. fl (Tail ∷ p)) (λ p. fl' (Tail ∷ p)))
      where
        by : (d : Bool) → defines e x ≡ d → Within P (if d then of_definition ds e reads (below Head k) x else of_definitions ds es reads (below Tail k) x)
            → (Within P (of_definitions ds es reads (below Tail k) x) → Alike (defined types abstraction N ds es names last (with_past (parts Tail past) (part Tail free)) (part Tail i) x) (defined types abstraction N ds es names' last (with_past (parts Tail past) (part Tail free')) (part Tail j) x))
            → Alike (if d then gives types abstraction N ds e names last (with_past (parts Head past) (part Head free)) (part Head i) x else defined types abstraction N ds es names last (with_past (parts Tail past) (part Tail free)) (part Tail i) x)
            (if d then gives types abstraction N ds e names' last (with_past (parts Head past) (part Head free')) (part Head j) x else defined types abstraction N ds es names' last (with_past (parts Tail past) (part Tail free')) (part Tail j) x)
        by true q w more = gives_alike e (λ p. cl (Head ∷ p)) (λ p. cE (Head ∷ p)) (below Head k) (parts Head past) (part Head free) (part Head free') (part Head i) (part Head j) q df.0 h.0 h'.0 (λ p. m (Head ∷ p)) (λ p. m' (Head ∷ p)) (λ p. fl (Head ∷ p)) (λ p. fl' (Head ∷ p)) w
        by false q w more = more w
