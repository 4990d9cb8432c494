-- Control equations: their names are hidden in them, and each block that is left gives them its values where it is taken.
use Rattle.std.proofs.Common.{◌≡◌, ℕ, Bool, true, false, not, ◌||◌, if◌then◌else◌, List, [], ◌∷◌, Option, None, Some, refl, sym, ap, subst, ◌∙◌, inl, inr}
use Rattle.std.specs.Prelude.{is_some}
use Rattle.hp_base.specs.declared.ty.Ty.{Ty}
use Rattle.hp_base.specs.declared.value.Value.{Value}
use Rattle.hp_tree.specs.Blocks.{Block, block, Eqn, Arms, no_arm, more_arms, States, no_state, more_states}
use Rattle.hp_tree.specs.Instant.{Head, Tail, Body, Instant, part}
use Rattle.hp_tree.specs.Meaning.{Names, node_among, declares, defines, some_defines, within, from_block}
use Rattle.hp_tree.specs.Operators.{is_cons}
use Rattle.hp_tree.specs.Programs.{TypeDecl}
use Rattle.std.specs.Prelude.{nat_eq, suc}
use Rattle.hp_base.specs.Known.Known.{lookup}
use Rattle.law_values.specs.Valued.Judged.{Completes, BlockSound, ArmsSound, StatesSound}
use Rattle.law_values.proofs.ValuedLemmas.Laws.{and_left, and_right}
use Rattle.hp_meaning.specs.Contract.Memory.{number_in}
use Rattle.hp_meaning.specs.Contract.Slots.{is_int}
use Rattle.hp_circuit.specs.declared.circuit.Shape.{Shape}
use Rattle.hp_circuit.specs.declared.circuit.Shape.TheVariants.{Truth}
use Rattle.hp_circuit.specs.Meaning.{truth}
use Rattle.law_games.specs.Wires.Wired.{blank}
use Rattle.law_games.specs.Wires.WiredBlocks.{read_of, arm_value, state_value}
use Rattle.law_games.specs.Wires.WiredCallees.{callee_wires}
use Rattle.law_games.specs.Wiretyped.Typed.{BlockTyped, ArmsTyped, StatesTyped}
use Rattle.law_games.specs.Wiretyped.Callees.{CalleeTyped}
use Rattle.law_games.proofs.WiretypedLemmas.Exprs.{LastsAre, as_wire}
use Rattle.law_games.proofs.WiretypedLemmas.Scopes.{branch_gives, is_not}
use Rattle.hp_drawing.specs.declared.parts.Entry.{Entry}
use Rattle.hp_drawing.specs.declared.parts.Place.{Place}
use Rattle.hp_drawing.specs.Kept.{is_mark}
use Rattle.hp_drawing.specs.Scopes.{Scope, Layer, entry_in, top_layer, push_values, own_entry, hide_names, names_of_eqn, value_in, join, join_names, enter, end_hidden, read_by_hidden, read_by_names}
use Rattle.hp_drawing.specs.Sketch.{Sketch, base, hole, read}
use Rattle.hp_drawing.specs.Places.{reset_by}
use Rattle.hp_drawing.specs.DrawnBlocks.{drawn_block, reset_begin}
use Rattle.law_drawing.specs.Carrying.Solving.{Has}
use Rattle.law_drawing.specs.Carrying.Drawing.{IsSolved, IsReady, IsPlace, AreShaped}
use Rattle.law_drawing.specs.Carrying.Calls.{supposes_on, owes_on}
use Rattle.law_drawing.specs.Carrying.Laws.{Frame, FrameCalls, Sight, IsSight}
use Rattle.law_drawing.proofs.CarryingLemmas.Values.{int-zero}
use Rattle.law_drawing.proofs.CarryingLemmas.Stored.{blank-zero}
use Rattle.law_drawing.proofs.CarryingLemmas.Layers.{Knows, all-map, eqn-names}
use Rattle.law_drawing.proofs.CarryingLemmas.Hiding.{hidden-ready}
use Rattle.law_drawing.proofs.CarryingLemmas.Own.{entered-own, branch-number, own-top}
use Rattle.law_drawing.proofs.CarryingLemmas.Joining.{SameSeen, AreHidden, hidden-first, hidden-found, joined, join-scope, hide-pushed, end-pushed, ended-names}
use Rattle.law_drawing.proofs.CarryingLemmas.Steps.{stays, both, nothing-drawn, read-drawn, hole-drawn}
use Rattle.law_drawing.proofs.CarryingLemmas.Registers.{place-more}
use Rattle.law_drawing.proofs.CarryingLemmas.Places.{reset-drawn}
use Rattle.law_drawing.proofs.CarryingLemmas.Conditions.{Draws}

-- ---- the numbers that the blocks of a control equation give to a name

abbrev pub arm_number : List TypeDecl → Arms → Value → Names → Instant → List ℕ → ℕ
arm_number types no_arm v last now x = 0
arm_number types (more_arms c b s arms) v last now x = if is_cons types v c then number_in (from_block b last (part Head now) x) else arm_number types arms v last (part Tail now) x

abbrev pub state_number : States → ℕ → ℕ → Names → Instant → List ℕ → ℕ
state_number no_state k n last now x = 0
state_number (more_states f b until unless s ss) k n last now x = if nat_eq k n then number_in (from_block b last (part Body (part Head now)) x) else state_number ss (suc k) n last (part Tail now) x

module _ (types : List TypeDecl) (earlier : _) where
  pub arm-is : (d : Value) (arms : Arms) (v : Value) (last : Names) (now : Instant) (x : List ℕ) → number_in d ≡ 0 → number_in (arm_value types (callee_wires types earlier) d arms v last now x) ≡ arm_number types arms v last now x
  arm-is d no_arm v last now x z = z
  arm-is d (more_arms c b s arms) v last now x z = by (is_cons types v c) (arm-is (blank (from_block b last (part Head now) x)) arms v last (part Tail now) x (blank-zero (from_block b last (part Head now) x)))
    where
      by : (t : Bool) → number_in (arm_value types (callee_wires types earlier) (blank (from_block b last (part Head now) x)) arms v last (part Tail now) x) ≡ arm_number types arms v last (part Tail now) x
          → number_in (if t then from_block b last (part Head now) x else arm_value types (callee_wires types earlier) (blank (from_block b last (part Head now) x)) arms v last (part Tail now) x)
          ≡ (if t then number_in (from_block b last (part Head now) x) else arm_number types arms v last (part Tail now) x)
      by true ih = refl
      by false ih = ih

pub state-is : (d : Value) (ss : States) (k n : ℕ) (last : Names) (now : Instant) (x : List ℕ) → number_in d ≡ 0 → number_in (state_value d ss k n last now x) ≡ state_number ss k n last now x
state-is d no_state k n last now x z = z
state-is d (more_states f b until unless s ss) k n last now x z = by (nat_eq k n) (state-is (blank (from_block b last (part Body (part Head now)) x)) ss (suc k) n last (part Tail now) x (blank-zero (from_block b last (part Body (part Head now)) x)))
  where
    by : (t : Bool) → number_in (state_value (blank (from_block b last (part Body (part Head now)) x)) ss (suc k) n last (part Tail now) x) ≡ state_number ss (suc k) n last (part Tail now) x
        → number_in (if t then from_block b last (part Body (part Head now)) x else state_value (blank (from_block b last (part Body (part Head now)) x)) ss (suc k) n last (part Tail now) x)
        ≡ (if t then number_in (from_block b last (part Body (part Head now)) x) else state_number ss (suc k) n last (part Tail now) x)
    by true ih = refl
    by false ih = ih

pub zero-either : (b : Bool) (i j : ℕ) → i ≡ 0 → j ≡ 0 → (if b then i else j) ≡ 0
zero-either true i j e f = e
zero-either false i j e f = f

module _ (F : Frame) (K : FrameCalls F) (V : Sight) where
  -- a name that a branch has to give has a type
  pub name-known : (q : Eqn) (b : Block) (x : List ℕ) → Completes F.types (node_among F.earlier) q V.has_last b → BlockSound F.types (node_among F.earlier) V.scope V.has_last b → LastsAre F.types V.scope V.has_last V.last → defines q x ≡ true → (t : Ty) × (lookup V.scope.variables x ≡ Some t)
  name-known q (block ds es) x full ok lk d = elim (full x d) [
    | inl h ↦ ok.1.0 x (and_left (some_defines es x) (not (declares ds x)) h) (is_not (declares ds x) (and_right (some_defines es x) (not (declares ds x)) h))
    | inr h ↦ let r = lk x h in (r.0, r.1.0)
  ]

  -- integers have no number
  pub branch-zero : (q : Eqn) (b : Block) (now : Instant) (x : List ℕ) (t : Ty) → Completes F.types (node_among F.earlier) q V.has_last b → BlockTyped F.types (CalleeTyped F.types F.earlier) V.scope b now → LastsAre F.types V.scope V.has_last V.last → defines q x ≡ true → lookup V.scope.variables x ≡ Some t → is_int t ≡ true
      → number_in (from_block b V.last now x) ≡ 0
  branch-zero q b now x t full w lk d l i =
      int-zero F.types t (from_block b V.last now x) i (as_wire F.types (lookup V.scope.variables x) t (from_block b V.last now x) l (branch_gives F.types (node_among F.earlier) (CalleeTyped F.types F.earlier) q b V.scope V.has_last V.last now x full d lk w))

  pub arms-zero : (q : Eqn) (arms : Arms) (v : Value) (now : Instant) (x : List ℕ) (t : Ty) → ArmsSound F.types (node_among F.earlier) q V.scope V.has_last arms → ArmsTyped F.types (CalleeTyped F.types F.earlier) V.scope arms now → LastsAre F.types V.scope V.has_last V.last → defines q x ≡ true → lookup V.scope.variables x ≡ Some t → is_int t ≡ true
      → arm_number F.types arms v V.last now x ≡ 0
  arms-zero q no_arm v now x t ok w lk d l i = refl
  arms-zero q (more_arms c b s arms) v now x t ok w lk d l i =
      zero-either (is_cons F.types v c) (number_in (from_block b V.last (part Head now) x)) (arm_number F.types arms v V.last (part Tail now) x) (branch-zero q b (part Head now) x t ok.0 w.0 lk d l i) (arms-zero q arms v (part Tail now) x t ok.1.1 w.1 lk d l i)

  pub states-zero : (q : Eqn) (ss : States) (k n : ℕ) (now : Instant) (x : List ℕ) (t : Ty) → StatesSound F.types (node_among F.earlier) q V.scope V.has_last ss → StatesTyped F.types (CalleeTyped F.types F.earlier) V.scope ss now → LastsAre F.types V.scope V.has_last V.last → defines q x ≡ true → lookup V.scope.variables x ≡ Some t → is_int t ≡ true
      → state_number ss k n V.last now x ≡ 0
  states-zero q no_state k n now x t ok w lk d l i = refl
  states-zero q (more_states f b until unless s ss) k n now x t ok w lk d l i =
      zero-either (nat_eq k n) (number_in (from_block b V.last (part Body (part Head now)) x)) (state_number ss (suc k) n V.last (part Tail now) x) (branch-zero q b (part Body (part Head now)) x t ok.0 w.0 lk d l i)
      (states-zero q ss (suc k) n (part Tail now) x t ok.1.1.1.1 w.1.1.1 lk d l i)

  -- ---- entering a control equation

  -- the layer of its names
  abbrev pub hidden_layer : Eqn → Layer
  hidden_layer q = hide_names V.drawn_scope (names_of_eqn q) []

  abbrev pub Hidden : Eqn → List ℕ → (List ℕ → ℕ) → Layer → Type 0
  Hidden q ns G l = AreHidden q V.scope V.last ns G l

  abbrev pub InReady : Eqn → Layer → Place → Bool → Bool → Bool → Sketch → List ℕ → Type 0
  InReady q l place here cut kept d ns = IsReady F.slot F.types (λ x. within q V.names V.last x) V.last (push_values l V.drawn_scope) place [] here cut kept d ns

  abbrev pub InShaped : Layer → Type 0
  InShaped l = AreShaped V.scope V.has_last V.types (push_values l V.drawn_scope)

  pub hidden-begins : (q : Eqn) (place : Place) (here cut kept : Bool) (d : Sketch) (ns : List ℕ) → IsSight F V → ((x : List ℕ) (n : Entry) → entry_in (top_layer V.drawn_scope) x ≡ Some n → n.wire ≡ Some n.hole) → ((x : List ℕ) → defines q x ≡ true → Knows (top_layer V.drawn_scope) x)
      → IsReady F.slot F.types V.names V.last V.drawn_scope place [] here cut kept d ns
      → InReady q (hidden_layer q) place here cut kept d ns × InShaped (hidden_layer q) × Hidden q ns (λ x. number_in (V.names x)) (hidden_layer q)
  hidden-begins q place here cut kept d ns S holes known r =
      let z = V.drawn_scope in
      let h = hidden-first q V.scope V.last z V.names V.has_last V.types S.shaped ns r.values r.lasts holes in
      let own : (x : List ℕ) → defines q x ≡ true → is_some (own_entry z x) ≡ true = λ x i. ap is_some (own-top z x) ∙ known x i in
      let a = hidden-ready F.slot F.types F.told V.names V.last z V.scope V.has_last V.types S.shaped place here cut kept q d ns r own (all-map (λ x. defines q x ≡ true) (λ x. is_some (own_entry z x) ≡ true) own (names_of_eqn q) (eqn-names q))
      (λ x i. only x (entry_in (hide_names z (names_of_eqn q) []) x) refl i h) in
      (subst (λ y. IsReady F.slot F.types (λ x. within q V.names V.last x) V.last y place [] here cut kept d ns) (hide-pushed z q) a.0, subst (λ y. AreShaped V.scope V.has_last V.types y) (hide-pushed z q) a.1, h)
    where
      only : (x : List ℕ) (o : Option Entry) → entry_in (hidden_layer q) x ≡ o → is_some o ≡ true → Hidden q ns (λ x. number_in (V.names x)) (hidden_layer q) → defines q x ≡ true
      only x None e i h = absurd cc
      only x (Some n) e i h = (hidden-found q V.scope V.last ns (λ x. number_in (V.names x)) (hidden_layer q) x n h e).defined

  -- ---- leaving a block of it

  abbrev pub Left : Eqn → (List ℕ → ℕ) → Layer → Sketch → List ℕ → Scope × Sketch → Type 0
  Left q H l d ns r = (ns' : List ℕ) × Draws F K d ns [] [] r.1 ns' × (k : Layer) × (r.0 ≡ push_values k V.drawn_scope) × Hidden q ns' H k × SameSeen l k

  -- what is asked of integers
  abbrev pub Zeros : Eqn → (List ℕ → ℕ) → (List ℕ → ℕ) → Type 0
  Zeros q B H = (x : List ℕ) (p : Shape) → defines q x ≡ true → ((t : Ty) → lookup V.scope.variables x ≡ Some t → is_mark p ≡ is_int t) → is_mark p ≡ true → (B x ≡ 0) × (H x ≡ 0)

  pub block-left : (q : Eqn) (b : Block) (now : Instant) (place : Place) (c : ℕ) (taken : Bool) (H : List ℕ → ℕ) (l : Layer) (d0 d : Sketch) (ns : List ℕ) → IsSolved F.slot d ns → Has ns c (truth taken)
      → ((x : List ℕ) → Has ns (value_in (drawn_block F.told F.brings (push_values l V.drawn_scope) place b d0).0 x).wire (number_in (read_of b (λ x. within q V.names V.last x) now x)))
      → Hidden q ns (λ x. if taken then number_in (from_block b V.last now x) else H x) l → Zeros q (λ x. number_in (from_block b V.last now x)) H
      → Left q H l d ns (join c (drawn_block F.told F.brings (push_values l V.drawn_scope) place b d0).0 d)
  block-left q (block ds es) now place c taken H l d0 d ns g k v h z =
      let inner = (enter F.told (push_values l V.drawn_scope) place ds es d0).0 in
      let O = entered-own F.told (push_values l V.drawn_scope) place ds es d0 in
      let x = joined q V.scope V.last F.slot F.next _ _ (top_layer inner) c taken (λ x. number_in (from_block (block ds es) V.last now x)) H l d ns g k h
      (λ ns' f x w i e. branch-number ds es inner (λ x. within q V.names V.last x) V.last now ns' x w O (f (value_in inner x).wire (number_in (read_of (block ds es) (λ x. within q V.names V.last x) now x)) (v x)) e) z in
      let r = join_names (top_layer inner) c l d in
      subst (λ u. Left q H l d ns u) (sym (join-scope F.told V.drawn_scope place ds es l c d0 d)) (x.0, x.1, r.0, refl, x.2, x.3)

  -- leaving a control equation
  pub hidden-ended : (q : Eqn) (k : Layer) (r : Scope × Sketch) (ns : List ℕ) → IsSolved F.slot r.1 ns → r.0 ≡ push_values k V.drawn_scope → Hidden q ns (λ x. 0) k → Draws F K r.1 ns [] [] (end_hidden r.0 r.1) ns
  hidden-ended q k r ns g e h =
      subst (λ d. Draws F K r.1 ns [] [] d ns) (sym (ap (λ y. end_hidden y r.1) e ∙ end-pushed k V.drawn_scope r.1)) (ended-names q V.scope V.last F.slot F.next (supposes_on F.showing F.wires) (owes_on F.showing F.wires) k r.1 ns g h)

  -- ---- the condition of a `reset`, and the place of its body

  pub record IsBegun (d : Sketch) (ns : List ℕ) (here cut kept fresh : Bool) (r : ℕ × Place × Sketch) : Type 0 where
    pub numbers : List ℕ
    pub drawn_is : Draws F K d ns [] [] r.2 numbers
    pub hole_is : Has numbers r.0 (truth fresh)
    pub place_is : IsPlace numbers r.1 here (cut || fresh) (if here then cut || fresh else kept)
    pub place_base : r.1.clock ≡ base

  pub reset-begun : (l : Layer) (place : Place) (here cut kept fresh : Bool) (d : Sketch) (ns : List ℕ) → IsSolved F.slot d ns → IsPlace ns place here cut kept → IsBegun d ns here cut kept fresh (reset_begin (push_values l V.drawn_scope) place d)
  unfolding reset_begin read_by_hidden
  reset-begun l place here cut kept fresh d ns g h =
      let sup = supposes_on F.showing F.wires in
      let owe = owes_on F.showing F.wires in
      let c = hole Truth d in
      let a = hole-drawn F.slot F.next sup owe Truth d ns (truth fresh) g (λ e. absurd cc) in
      let more : (w k : ℕ) → Has ns w k → Has a.0 w k = stays F.slot F.next sup owe d ns [] [] c.1 a.0 a.1 in
      let top = top_layer (push_values l V.drawn_scope) in
      let b = read-names c.0 top c.1 a.0 a.1.solved in
      let s1 = read_by_names top c.0 c.1 in
      let x = reset-drawn F.slot F.next sup owe place c.0 here cut kept fresh s1 a.0 b.solved (place-more F.slot F.next sup owe ns a.0 place here cut kept more h) a.2 in
      let i = reset_by place c.0 s1 in
      let d1 = both F.slot F.next sup owe d ns [] [] c.1 a.0 [] [] s1 a.0 a.1 b in
      record {
        numbers = x.0;
        drawn_is = both F.slot F.next sup owe d ns [] [] s1 a.0 [] [] i.1 x.0 d1 x.1;
        hole_is = stays F.slot F.next sup owe s1 a.0 [] [] i.1 x.0 x.1 c.0 (truth fresh) a.2;
        place_is = x.2;
        place_base = x.3;
      }
    where
      read-names : (w : ℕ) (l : Layer) (d : Sketch) (ns : List ℕ) → IsSolved F.slot d ns → Draws F K d ns [] [] (read_by_names l w d) ns
      read-names w [] d ns g = nothing-drawn F.slot F.next (supposes_on F.showing F.wires) (owes_on F.showing F.wires) d ns g
      read-names w (p ∷ l) d ns g =
          let a = read-drawn F.slot F.next (supposes_on F.showing F.wires) (owes_on F.showing F.wires) p.1.hole w d ns g in
          both F.slot F.next (supposes_on F.showing F.wires) (owes_on F.showing F.wires) d ns [] [] (read p.1.hole w d) ns [] [] (read_by_names l w (read p.1.hole w d)) ns a (read-names w l (read p.1.hole w d) ns a.solved)
