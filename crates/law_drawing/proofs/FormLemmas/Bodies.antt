-- Blocks of control equations: what is drawn of an arm, of the body of a `reset` and of a state, and how each is left.
use Rattle.std.proofs.Common.{◌≡◌, ℕ, ◌<◌, Bool, true, false, not, ◌&&◌, List, [], ◌∷◌, Option, refl, sym, ap, subst, ◌∙◌, inl, inr}
use Rattle.hp_tree.specs.declared.block.Trans.{Trans}
use Rattle.hp_tree.specs.Blocks.{Decl, Block, block, Eqn}
use Rattle.hp_tree.specs.Meaning.{defines, block_defines}
use Rattle.hp_tree.specs.Programs.{TypeDecl, Node}
use Rattle.hp_base.specs.Known.Known.{lookup, with_entry}
use Rattle.hp_typing.specs.Scopes.{with_variables, inside}
use Rattle.law_judged.specs.Typed.Scopes.{Scope as TypeScope}
use Rattle.law_values.specs.Valued.Judged.{Lasts, lasts_of, TestsSound, Completes, OthersKnown, BlockSound}
use Rattle.hp_circuit.specs.declared.circuit.Shape.TheVariants.{Truth, Cons}
use Rattle.hp_drawing.specs.declared.parts.Entered.{Entered}
use Rattle.hp_drawing.specs.declared.parts.Jump.{Jump}
use Rattle.hp_drawing.specs.declared.parts.Lines.{Lines}
use Rattle.hp_drawing.specs.declared.parts.Place.{Place}
use Rattle.hp_drawing.specs.declared.parts.Rests.{Rests}
use Rattle.hp_drawing.specs.Told.{Told}
use Rattle.hp_drawing.specs.Sketch.{Sketch}
use Rattle.hp_drawing.specs.Places.{stays, lines_take, lines_end}
use Rattle.hp_drawing.specs.Scopes.{Scope, Layer, push_values, pop_values}
use Rattle.hp_drawing.specs.DrawnExpressions.{Brings}
use Rattle.hp_drawing.specs.DrawnBlocks.{Words, Rested, drawn_block, drawn_jump, drawn_strong, drawn_weak, leave_state, state_end, automaton_end, join_drawn, leave_hidden}
use Rattle.law_drawing.specs.Carrying.Drawable.{BlockDrawable}
use Rattle.law_drawing.proofs.CarryingLemmas.Own.{entered-own}
use Rattle.law_drawing.proofs.SteeredLemmas.Joining.{pop-is, some_in}
use Rattle.law_drawing.proofs.SteeredLemmas.Outer.{block-within}
use Rattle.law_drawing.proofs.FormLemmas.Views.{Has, IsFormed, Step, still, onward, has-on}
use Rattle.law_drawing.proofs.FormLemmas.Parts.{IsPlaced, placed-on}
use Rattle.law_drawing.proofs.FormLemmas.Values.{AreCounted, none_lacks, AreSeen, seen-on, IsAt}
use Rattle.law_drawing.proofs.FormLemmas.Calls.{AreCalled}
use Rattle.law_drawing.proofs.FormLemmas.Definitions.{AreOwned}
use Rattle.law_drawing.proofs.FormLemmas.Joining.{Owns, IsOver, over-on, lacks_within, over-seen, Left, IsLeft, left-more, join-step, left-ends}
use Rattle.law_drawing.proofs.FormLemmas.Jumps.{JumpHole, jump-on, jump-hole-on, jump-has, Jumped, AreBelow, AreLines, lines-on, with_lines, lines-take-step, lines-end-step}
use Rattle.law_drawing.proofs.FormLemmas.Controls.{jump-step, leave-state-step}

-- ---- constructors are those of the scope around

constructors-same : (ds : List Decl) (s : TypeScope) → (with_variables s ds).constructors ≡ s.constructors
constructors-same [] s = refl
constructors-same (d ∷ ds) s = constructors-same ds (record s { variables = with_entry s.variables d.name d.ty })

pub counted-inside : (types : List TypeDecl) (t : Told) (s : TypeScope) (ds : List Decl) → AreCounted types t s → AreCounted types t (with_variables s ds)
counted-inside types t s ds k = record { constants = k.constants; constructors = λ c x q. k.constructors c x (sym (ap (λ l. lookup l c) (constructors-same ds s)) ∙ q) }

some-of : (a b : Bool) → a && not b ≡ true → (a ≡ true) × (b ≡ false)
some-of true true h = absurd cc
some-of true false h = (refl, refl)
some-of false b h = absurd cc

others-known : (types : List TypeDecl) (among : List ℕ → Option Node) (b : Block) (s : TypeScope) (has_last : Lasts) → BlockSound types among s has_last b → OthersKnown types among b s
others-known types among (block ds es) s has_last ok = ok.1.0

module _ (types : List TypeDecl) (among : List ℕ → Option Node) (t : Told) (brings : Brings) (calls : AreCalled t brings among) where
  -- ---- what is drawn of blocks, equations, arms and states, wherever they are drawn

  block-owns : (b : Block) (z : Scope) (spot : Place) (s : Sketch) → Owns b (drawn_block t brings z spot b s).0
  block-owns (block ds es) z spot s = entered-own t z spot ds es s

  abbrev pub Blocked : TypeScope → Lasts → Block → List ℕ → Sketch → Scope × Sketch → Type 0
  Blocked ts has_last b P s d = Step P s d.1 × AreSeen t (inside ts b) (lasts_of b has_last) none_lacks d.0 d.1 × AreOwned d.0 d.1 (λ x. some_in b x)

  abbrev pub BlockDrawn : Block → Type 0
  BlockDrawn b =
      (ts : TypeScope) (has_last : Lasts) (lacks : List ℕ → Bool) (z : Scope) (spot : Place) (P : List ℕ) (s : Sketch) → AreCounted types t ts → BlockSound types among ts has_last b → BlockDrawable ts b
      → ((x : List ℕ) → lacks x ≡ true → block_defines b x ≡ true) → IsAt t ts has_last lacks z P s spot → Blocked ts has_last b P s (drawn_block t brings z spot b s)

  module _ (ts : TypeScope) (has_last : Lasts) (counted : AreCounted types t ts) (z : Scope) (e : Eqn) where
    abbrev Seen : Sketch → Type 0
    Seen s = AreSeen t ts has_last none_lacks z s

    abbrev Over : Sketch → Layer → Type 0
    Over s h = IsOver types among t ts has_last z e s h

    abbrev LeftIs : List ℕ → Sketch → Scope × Sketch → Type 0
    LeftIs P s d = Left types among t ts has_last z e P s d

    more-seen : (P : List ℕ) (s s' : Sketch) → Step P s s' → Seen s → Seen s'
    more-seen P s s' st h = seen-on t ts has_last none_lacks z P s s' st h

    more-over : (P : List ℕ) (s s' : Sketch) (h : Layer) → Step P s s' → Over s h → Over s' h
    more-over P s s' h st o = over-on types among t ts has_last z e P s s' h st o

    -- a block within the equation
    pub record IsInside (b : Block) (h : Layer) (P : List ℕ) (s : Sketch) (d : Scope × Sketch) : Type 0 where
      pub step : Step P s d.1
      pub seen : AreSeen t (inside ts b) (lasts_of b has_last) none_lacks d.0 d.1
      pub left : IsLeft types among t ts has_last z e b h d.0 d.1

    pub inside-step : (b : Block) → BlockDrawn b → (h : Layer) (spot : Place) (P : List ℕ) (s : Sketch) → BlockSound types among ts has_last b → BlockDrawable ts b → Completes types among e has_last b → IsFormed P s → IsPlaced s spot → Seen s → Over s h
        → IsInside b h P s (drawn_block t brings (push_values h z) spot b s)
    inside-step b draws h spot P s ok can full a p seen o =
        let out = push_values h z in
        let d = drawn_block t brings out spot b s in
        let v = draws ts has_last (λ x. lacks_within types among t ts has_last z e x) out spot P s counted ok can defined (record { formed = a; placed = p; seen = over-seen types among t ts has_last z e s h seen o }) in
        let w = block-within t brings out spot b s in
        record { step = v.0; seen = v.1; left = record { values = w.values; lasts = w.lasts; owns = block-owns b out spot s; owned = v.2; shapes = v.1.shapes } }
      where
        defined : (x : List ℕ) → lacks_within types among t ts has_last z e x ≡ true → block_defines b x ≡ true
        defined x l = let k = some-of (defines e x) (has_last x) l in elim (full x k.0) [ inl d ↦ d | inr m ↦ absurd (let c : true ≡ false = sym m ∙ k.1 in cc) ]

    -- it is joined where a condition holds
    pub inside-joined : (b : Block) (h : Layer) (P : List ℕ) (s s1 : Sketch) (d : Scope × Sketch) (c : ℕ) → BlockSound types among ts has_last b → Completes types among e has_last b → IsInside b h P s d → Step P d.1 s1 → Has s.shapes c Truth → Seen s → Over s h → LeftIs P s1 (join_drawn c (d.0, s1))
    inside-joined b h P s s1 d c ok full i st l seen o =
        let all = onward P P s d.1 s1 i.step st in
        join-step types among t ts has_last z e P b h (d.0, s1) c st.formed (has-on P s s1 c Truth all l) (more-seen P s s1 all seen) (more-over P s s1 h all o) (left-more types among t ts has_last z e P b h d.0 d.1 s1 st i.left) full (others-known types among b ts has_last ok)

    -- ---- states

    -- what states leave behind: the scope, and the parts of the jumps that are not said yet
    pub record IsRested (n : ℕ) (P : List ℕ) (s : Sketch) (d : Rested) : Type 0 where
      pub hidden : Layer
      pub scope : d.1 ≡ push_values hidden z
      pub step : Step P s d.2
      pub over : Over d.2 hidden
      pub strong : JumpHole d.2 d.0.strong (Cons n)
      pub weak : JumpHole d.2 d.0.weak (Cons n)

    pub rested-on : (n : ℕ) (P : List ℕ) (s s1 : Sketch) (d : Rested) → Step P s s1 → IsRested n P s1 d → IsRested n P s d
    rested-on n P s s1 d st r = record { hidden = r.hidden; scope = r.scope; step = onward P P s s1 d.2 st r.step; over = r.over; strong = r.strong; weak = r.weak }

    pub rested-through : (n : ℕ) (P : List ℕ) (s s' : Sketch) (d : Rested) (r : IsRested n P s d) (f : Scope → Rested) → IsRested n P s' (f (push_values r.hidden z)) → IsRested n P s' (f d.1)
    rested-through n P s s' d r f h = subst (λ y. IsRested n P s' (f y)) (sym r.scope) h

    module _ (words : Words) (n : ℕ) (shape_is : words.lines.shape ≡ Cons n) (below : AreBelow n words.numbers) where
      -- what is known where the body of a state is drawn
      pub record IsEntered (P : List ℕ) (h : Layer) (spot : Place) (rests : Rests) (entered : Entered) (s : Sketch) : Type 0 where
        pub formed : IsFormed P s
        pub seen : Seen s
        pub placed : IsPlaced s spot
        pub inside : IsPlaced s entered.place
        pub body : IsPlaced s entered.body
        pub taken : Has s.shapes entered.taken Truth
        pub lines : AreLines s n words.lines
        pub strong : JumpHole s rests.strong (Cons n)
        pub weak : JumpHole s rests.weak (Cons n)
        pub over : Over s h

      around-through : (P : List ℕ) (s : Sketch) (y other : Scope) → other ≡ y → (f : Scope → Jump × Sketch) → Jumped P s (Cons n) (f y) → Jumped P s (Cons n) (f other)
      around-through P s y other e f h = subst (λ i. Jumped P s (Cons n) (f i)) (sym e) h

      -- behind the body of a state and its weak transitions: it is joined, then its strong transitions are drawn
      strong-step : (k : ℕ) (unless : List Trans) (P : List ℕ) (h : Layer) (spot : Place) (rests : Rests) (entered : Entered) (s : Sketch) (weak : Jump) (s1 : Sketch) (joined : Scope × Sketch) → k < n → TestsSound types among ts has_last unless → IsEntered P h spot rests entered s → Step P s s1 → JumpHole s1 weak (Cons n)
          → LeftIs P s1 joined → IsRested n P s (let strong = drawn_strong t brings joined.0 spot words unless joined.1 in let left = leave_state words.lines k entered.taken strong.0 weak rests strong.1 in (left.0, joined.0, left.1))
      strong-step k unless P h spot rests entered s weak s1 joined l ok i st j left =
          let to_joined = onward P P s s1 joined.1 st left.2 in
          let around = pop_values joined.0 in
          let is : around ≡ z = ap pop_values left.1 ∙ pop-is z left.0 in
          let lines = lines-on P s joined.1 n words.lines to_joined i.lines in
          let other = drawn_strong t brings joined.0 spot words unless joined.1 in
          let x = around-through P joined.1 z around is (λ y. drawn_jump t brings y spot words unless words.lines.selected joined.1)
          (jump-step types among t brings calls ts has_last counted z unless spot words n P words.lines.selected joined.1 ok shape_is below (record { formed = left.2.formed; placed = placed-on P s joined.1 spot to_joined i.placed; seen = more-seen P s joined.1 to_joined i.seen }) lines.selected)
          in
          let to_other = onward P P s joined.1 other.1 to_joined x.0 in
          let from_weak = onward P P s1 joined.1 other.1 left.2 x.0 in
          let r = leave_state words.lines k entered.taken other.0 weak rests other.1 in
          let y = leave-state-step P n words.lines k entered.taken other.0 weak rests other.1 x.0.formed (lines-on P joined.1 other.1 n words.lines x.0 lines) l (has-on P s other.1 entered.taken Truth to_other i.taken) (jump-has other.1 other.0 (Cons n) x.1)
          (jump-has other.1 weak (Cons n) (jump-hole-on P s1 other.1 weak (Cons n) from_weak j)) (jump-hole-on P s other.1 rests.strong (Cons n) to_other i.strong) (jump-hole-on P s other.1 rests.weak (Cons n) to_other i.weak) in
          record {
            hidden = left.0;
            scope = left.1;
            step = onward P P s other.1 r.1 to_other y.0;
            over = more-over P joined.1 r.1 left.0 (onward P P joined.1 other.1 r.1 x.0 y.0) left.3;
            strong = y.1;
            weak = y.2;
          }

      -- a state: its body, its weak transitions in it, and its strong ones
      pub state-step : (c : Block) → BlockDrawn c → (k : ℕ) (until unless : List Trans) (P : List ℕ) (h : Layer) (spot : Place) (rests : Rests) (entered : Entered × Sketch) → k < n → BlockSound types among ts has_last c → BlockDrawable ts c → Completes types among e has_last c
          → TestsSound types among (inside ts c) (lasts_of c has_last) until → TestsSound types among ts has_last unless → IsEntered P h spot rests entered.0 entered.1
          → IsRested n P entered.1 (state_end t brings spot words k until unless entered.0 rests (drawn_block t brings (push_values h z) entered.0.body c entered.1))
      state-step c draws k until unless P h spot rests entered l ok can full ok_until ok_unless i =
          let s = entered.1 in
          let d = drawn_block t brings (push_values h z) entered.0.body c s in
          let b = inside-step c draws h entered.0.body P s ok can full i.formed i.body i.seen i.over in
          let lines = lines-on P s d.1 n words.lines b.step i.lines in
          let weak = drawn_weak t brings d.0 entered.0.place words until d.1 in
          let w = jump-step types among t brings calls (inside ts c) (lasts_of c has_last) (inside-counted c) d.0 until entered.0.place words n P (stays words.lines) d.1 ok_until shape_is below
          (record { formed = b.step.formed; placed = placed-on P s d.1 entered.0.place b.step i.inside; seen = b.seen }) (lines.active.0.0, b.step.formed.low_is) in
          let joined = join_drawn entered.0.taken (d.0, weak.1) in
          let left = inside-joined c h P s weak.1 d entered.0.taken ok full b w.0 i.taken i.seen i.over in
          strong-step k unless P h spot rests entered.0 s weak.0 weak.1 joined l ok_unless i (onward P P s d.1 weak.1 b.step w.0) w.1 left
        where
          inside-counted : (c : Block) → AreCounted types t (inside ts c)
          inside-counted (block ds es) = counted-inside types t ts ds counted

    -- ---- behind all states

    pub automaton-ended : (n : ℕ) (lines : Lines) (spot : Place) (next : Jump) (P : List ℕ) (s : Sketch) (d : Rested) → IsRested n (with_lines lines P) s d → AreLines s n lines → IsPlaced s spot → JumpHole s next (Cons n) → Step P s (automaton_end lines spot next d)
    automaton-ended n lines spot next P s d r l p j =
        let Q = with_lines lines P in
        let s1 = lines_end lines d.0 d.2 in
        let x = lines-end-step Q n lines d.0 d.2 r.step.formed (lines-on Q s d.2 n lines r.step l) r.strong r.weak in
        let to_s1 = onward Q Q s d.2 s1 r.step x in
        let s2 = lines_take lines spot next s1 in
        let y = lines-take-step P n lines spot next s1 x.formed (placed-on Q s s1 spot to_s1 p) (lines-on Q s s1 n lines to_s1 l) (jump-on Q s s1 next (Cons n) to_s1 (jump-has s next (Cons n) j)) in
        let over = more-over P d.2 s2 r.hidden (onward Q P d.2 s1 s2 x y) r.over in
        let left : LeftIs P s2 (d.1, s2) = (r.hidden, r.scope, still P s2 y.formed, over) in
        onward P P s s2 (leave_hidden (d.1, s2)) (onward Q P s s1 s2 to_s1 y) (left-ends types among t ts has_last z e P s2 (d.1, s2) left)
