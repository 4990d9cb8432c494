-- Control equations, with marks: each by what is drawn of its blocks.
use Rattle.std.proofs.Common.{◌≡◌, Option, Some, ℕ, suc, ◌≤◌, ◌<◌, max, Bool, true, if◌then◌else◌, List, [], ◌∷◌, sym, ap, subst, ◌∙◌, inl, inr, arith}
use Rattle.std.specs.Str.{bytes_eq}
use Rattle.hp_base.specs.declared.span.Span.{Span}
use Rattle.hp_tree.specs.declared.block.Trans.{Trans}
use Rattle.hp_tree.specs.Blocks.{Block, Eqn, Arms, States}
use Rattle.hp_tree.specs.Expressions.{Expr}
use Rattle.hp_tree.specs.Instant.{Body, Named, Until, Unless, Place as TreePlace}
use Rattle.hp_tree.specs.Meaning.{is_among, defines, block_defines}
use Rattle.hp_meaning.specs.Causal.Sources.{Sources, none, both, NameSources, PlaceSources, below}
use Rattle.hp_meaning.specs.Causal.WhatIsRead.{of_expr, at_expr, at_conditions, names_within, names_in_block, in_arms, in_states, of_conditions, strong_ones, weak_ones, in_block, in_each_arm, in_each_state}
use Rattle.hp_drawing.specs.declared.parts.Entered.{Entered}
use Rattle.hp_drawing.specs.declared.parts.Jump.{Jump}
use Rattle.hp_drawing.specs.declared.parts.Lines.{Lines}
use Rattle.hp_drawing.specs.declared.parts.Place.{Place}
use Rattle.hp_drawing.specs.declared.parts.Rests.{Rests}
use Rattle.hp_drawing.specs.Told.{Told}
use Rattle.hp_drawing.specs.Sketch as sketch
use Rattle.hp_drawing.specs.Sketch.{Sketch, low, high}
use Rattle.hp_drawing.specs.Places.{stays, lines_take, lines_end}
use Rattle.hp_drawing.specs.Scopes.{Scope, Layer, value_in, push_values, pop_values}
use Rattle.hp_drawing.specs.DrawnExpressions.{Brings, drawn}
use Rattle.hp_drawing.specs.DrawnBlocks.{Words, Rested, drawn_block, drawn_arms, drawn_states, drawn_jump, drawn_weak, drawn_strong, leave_state, state_end, automaton_end, join_drawn, leave_hidden}
use Rattle.law_drawing.proofs.CarryingLemmas.Layers.{self-name}
use Rattle.hp_base.specs.declared.ty.Ty.TheVariants as ty
use Rattle.hp_tree.specs.Programs.{TypeDecl, Node}
use Rattle.hp_typing.specs.Scopes.{inside as inner_scope}
use Rattle.law_judged.specs.Typed.Scopes.{Scope as TypeScope}
use Rattle.law_values.specs.Valued.Judged.{Lasts, lasts_of, TestSound, TestsSound, BlockSound, ArmsSound, StatesSound}
use Rattle.law_drawing.specs.NoCircle.Typed.{AreTyped}
use Rattle.law_drawing.proofs.NoCircleLemmas.Hiding.{AnyHole}
use Rattle.law_drawing.proofs.SteeredLemmas.Outer.{IsWithin, block-within}
use Rattle.law_drawing.proofs.SteeredLemmas.Joining.{some_in, pop-is}
use Rattle.law_drawing.proofs.SteeredLemmas.Bodies.{or-left, or-right}
use Rattle.law_drawing.specs.NoCircle.Marks.{Mark, Marks, ground, Less, up, Grows, Has, Low, Under, Frame, later, AreMarked, IsPlaced, top, around}
use Rattle.law_drawing.specs.NoCircle.Asked.{Owes, AreSeen, BringsMarked, OwnEach, IsOwned}
use Rattle.law_drawing.specs.NoCircle.Heights.{height}
use Rattle.law_drawing.proofs.NoCircleLemmas.Steps.{grows-none, grows-both, has-grows, low-grows, under-grows, low-up, low-under, low-there, low-own, has-under, Step}
use Rattle.law_drawing.proofs.NoCircleLemmas.Steps as steps
use Rattle.law_drawing.proofs.NoCircleLemmas.Parts.{placed-grows, placed-up}
use Rattle.law_drawing.proofs.NoCircleLemmas.Values.{IsAt, at-behind, seen-grows, bound}
use Rattle.law_drawing.proofs.NoCircleLemmas.Expressions.{expr}
use Rattle.law_drawing.proofs.NoCircleLemmas.Joining.{IsOver, over-grows, over-seen, over-typed, Left, join-marked, left-ends}
use Rattle.law_drawing.proofs.NoCircleLemmas.Jumps.{JumpHas, JumpUnder, JumpLate, Jumped, jump-has-grows, jump-below, AreLines, lines-grow, lines-take-marked, lines-end-marked}
use Rattle.law_drawing.proofs.NoCircleLemmas.Controls.{seen-up, condition_mark, reset_context, jump-marked, leave-state-marked}

module _ (rank : TreePlace → ℕ) where
  -- ---- names that are defined

  -- fewer names
  pub owned-part : (ms : Marks) (z : Scope) (context : Mark) (names : NameSources) (d d' : List ℕ → Bool) → ((x : List ℕ) → d' x ≡ true → d x ≡ true) → IsOwned rank ms z context names d → IsOwned rank ms z context names d'
  owned-part ms z context names d d' f o = record { known = λ x h. o.known x (f x h); wires = λ x h. o.wires x (f x h); holes = o.holes }

  pub owned-grows : (ms ms' : Marks) → Grows ms ms' → (z : Scope) (context : Mark) (names : NameSources) (d : List ℕ → Bool) → IsOwned rank ms z context names d → IsOwned rank ms' z context names d
  owned-grows ms ms' g z context names d o = record {
    known = o.known;
    wires = λ x h. has-grows ms ms' g (value_in z x).wire (around rank context (names x)) (o.wires x h);
    holes = λ x e q. has-grows ms ms' g e.hole (around rank context (names x)) (o.holes x e q);
  }

  -- a name stands above what its definition reads
  abbrev pub Defined : Mark → NameSources → (List ℕ → Bool) → NameSources → Type 0
  Defined context names d given = (x : List ℕ) → d x ≡ true → max context.0 (top rank (given x)) < top rank (names x)

  pub own-each : (ms : Marks) (z : Scope) (context : Mark) (names : NameSources) (ys : List (List ℕ × Span)) (m : Mark) → IsOwned rank ms z context names (is_among ys) → ((x : List ℕ) → is_among ys x ≡ true → Less m (around rank context (names x))) → OwnEach ms z ys m
  own-each ms z context names ys m o f = each ys (λ x h. h)
    where
      each : (xs : List (List ℕ × Span)) → ((x : List ℕ) → is_among xs x ≡ true → is_among ys x ≡ true) → OwnEach ms z xs m
      each [] h = tt
      each (x ∷ xs) h =
          let here = h x.0 (or-left (bytes_eq x.0 x.0) (is_among xs x.0) (self-name x.0)) in
          (record { mark = around rank context (names x.0); has = o.wires x.0 here; above = f x.0 here }, each xs (λ y i. h y (or-right (bytes_eq x.0 y) (is_among xs y) i)))

  -- ---- how high things stand, by what is read

  pub inner-below : (c : ℕ) (a s own : Sources) → max c (top rank (both a s)) < top rank own → max (max c (top rank a)) (top rank s) < top rank own
  inner-below c a s own h = omega (arith, h)

  pub first-below : (c : ℕ) (a s own : Sources) → max c (top rank (both a s)) < top rank own → max c (top rank a) < top rank own
  first-below c a s own h = omega (arith, h)

  pub second-below : (c : ℕ) (a s own : Sources) → max c (top rank (both a s)) < top rank own → max c (top rank s) < top rank own
  second-below c a s own h = omega (arith, h)

  pub context-below : (c : ℕ) (s own : Sources) → max c (top rank s) < top rank own → c < top rank own
  context-below c s own h = omega (arith, h)

  -- ---- blocks

  abbrev pub Blocked : Frame → TypeScope → Lasts → Marks → Block → Mark → NameSources → Scope × Sketch → Type 0
  Blocked F g has_last ms b context inner d = (ms' : Marks) × Grows ms ms' × AreMarked F d.1 ms' × AreSeen rank ms' d.0 context inner × IsOwned rank ms' d.0 context inner (some_in b) × AreTyped (inner_scope g b) (lasts_of b has_last) d.0

  -- the mark of a word of an automaton, and what stands around in a state with this active word
  abbrev pub word : Mark → Sources → Mark
  word context s = up 1 (around rank context s)

  abbrev pub inside : Mark → Sources → Mark
  inside context active = up 1 (up 1 (word context active))

  -- while states are drawn the rests of the jumps may be open, and the names that are hidden
  abbrev pub rests_late : Frame → Rests → Frame
  rests_late F rests = later (later F (JumpLate rests.weak)) (JumpLate rests.strong)

  -- behind the states: the rests of the jumps have their marks
  abbrev pub RestedMarked : Frame → Scope → Mark → NameSources → Eqn → Lines → Sources → Sources → Marks → Rested → Type 0
  RestedMarked F z context names e lines active weak ms d =
      (h : Layer) × (d.1 ≡ push_values h z) × (ms' : Marks) × Grows ms ms' × AreMarked (later (rests_late F d.0) (AnyHole h)) d.2 ms' × IsOver rank z context names e ms' h × AreLines ms' lines context (word context active) × JumpHas ms' d.0.strong (word context active) × JumpHas ms' d.0.weak (word context weak)

  module _ (types : List TypeDecl) (among : List ℕ → Option Node) (t : Told) (known : (f : List ℕ) (n : Node) → among f ≡ Some n → t.nodes f ≡ Some n) (brings : Brings) (b : BringsMarked t brings) where
    abbrev At : Frame → Scope → Mark → NameSources → Marks → Sketch → Place → Type 0
    At F z context names ms s spot = IsAt rank z context names F ms s spot

    -- ---- what is drawn of blocks, arms and states, as premises

    abbrev pub BlockDrawn : Block → Type 1
    BlockDrawn c =
        (F : Frame) (g : TypeScope) (has_last : Lasts) (z : Scope) (S : AreTyped g has_last z) (context : Mark) (names : NameSources) (k : PlaceSources) (spot : Place) (s : Sketch) (ms : Marks) → BlockSound types among g has_last c → Owes rank context (in_block c names k) k
        → At F z context names ms s spot → Blocked F g has_last ms c context (names_in_block c names k) (drawn_block t brings z spot c s)

    abbrev pub ArmsDrawn : Arms → Type 1
    ArmsDrawn arms =
        (F : Frame) (g : TypeScope) (has_last : Lasts) (e : Eqn) (z : Scope) (S : AreTyped g has_last z) (context : Mark) (names : NameSources) (k : PlaceSources) (spot : Place) (w : ℕ) (n : ℕ) (control : Sources) (h : Layer) (s : Sketch) (ms : Marks) → ArmsSound types among e g has_last arms
        → Owes rank context (in_each_arm arms (names_within e names) k) k → Defined context names (defines e) (λ x. both control (in_arms arms k x)) → At (later F (AnyHole h)) z context names ms s spot → Low ms w (up n (around rank context control)) → IsOver rank z context names e ms h
        → Left rank z context names e F ms (drawn_arms t brings (push_values h z) spot w arms s)

    abbrev pub StatesDrawn : States → Type 1
    StatesDrawn ss =
        (F : Frame) (g : TypeScope) (has_last : Lasts) (e : Eqn) (z : Scope) (S : AreTyped g has_last z) (context : Mark) (names : NameSources) (k : PlaceSources) (spot : Place) (words : Words) (n : ℕ) (active weak : Sources) (h : Layer) (rests : Rests) (s : Sketch) (ms : Marks)
        → StatesSound types among e g has_last ss → Owes rank context (in_each_state ss active names (names_within e names) k) k → Defined context names (defines e) (λ x. both active (in_states ss k x)) → max context.0 (top rank (strong_ones ss k)) < top rank active
        → max context.0 (top rank (both active (weak_ones ss k))) < top rank weak → At (later (rests_late F rests) (AnyHole h)) z context names ms s spot → AreLines ms words.lines context (word context active) → JumpHas ms rests.strong (word context active)
        → JumpHas ms rests.weak (word context weak) → IsOver rank z context names e ms h
        → RestedMarked F z context names e words.lines active weak ms (drawn_states t brings (push_values h z) spot words n ss rests s)

    module _ (g : TypeScope) (has_last : Lasts) (e : Eqn) (z : Scope) (S : AreTyped g has_last z) (context : Mark) (names : NameSources) where
      abbrev Over : Marks → Layer → Type 0
      Over ms h = IsOver rank z context names e ms h

      over-more : (ms ms' : Marks) → Grows ms ms' → (h : Layer) → Over ms h → Over ms' h
      over-more ms ms' g h o = over-grows rank z context names e ms ms' g h o

      pub left-behind : {F : Frame} (ms ms' : Marks) → Grows ms ms' → (d : Scope × Sketch) → Left rank z context names e F ms' d → Left rank z context names e F ms d
      left-behind ms ms' g d l = (l.0, l.1, l.2, grows-both ms ms' l.2 g l.3, l.4, l.5)

      pub rested-behind : {F : Frame} (lines : Lines) (active weak : Sources) (ms ms' : Marks) → Grows ms ms' → (d : Rested) → RestedMarked F z context names e lines active weak ms' d → RestedMarked F z context names e lines active weak ms d
      rested-behind lines active weak ms ms' g d r = (r.0, r.1, r.2, grows-both ms ms' r.2 g r.3, r.4, r.5, r.6, r.7, r.8)

      -- ---- a block whose names are joined where a condition holds

      body-drawn : (F : Frame) (c : Block) → BlockDrawn c → (other : Mark) (k : PlaceSources) (h : Layer) (spot : Place) (s : Sketch) (ms : Marks) → BlockSound types among g has_last c → (context.0 ≤ other.0) × (context.1 ≤ other.1) → Owes rank other (in_block c (names_within e names) k) k → AreMarked F s ms
          → IsPlaced ms spot other → AreSeen rank ms z context names → Over ms h → Blocked F g has_last ms c other (names_in_block c (names_within e names) k) (drawn_block t brings (push_values h z) spot c s)
      body-drawn F c draws other k h spot s ms ok into o a p seen over =
          draws F g has_last (push_values h z) (over-typed rank z context names e g has_last ms h over S) other (names_within e names) k spot s ms ok o
          (record { marks = a; placed = p; seen = seen-up rank ms (push_values h z) (names_within e names) context other into.0 into.1 (over-seen rank z context names e ms h over seen) })

      pub body-joined : (F : Frame) (c : Block) → BlockDrawn c → (other : Mark) (k : PlaceSources) (h : Layer) (spot : Place) (w : ℕ) (s : Sketch) (ms : Marks) → BlockSound types among g has_last c → (context.0 ≤ other.0) × (context.1 ≤ other.1) → Owes rank other (in_block c (names_within e names) k) k
          → AreMarked (later F (AnyHole h)) s ms → IsPlaced ms spot other → AreSeen rank ms z context names → Over ms h → ((x : List ℕ) → defines e x ≡ true → Under ms w (around rank context (names x)))
          → ((x : List ℕ) → defines e x ≡ true → block_defines c x ≡ true → Less (around rank other (k (Named x ∷ []))) (around rank context (names x)))
          → Left rank z context names e F ms (join_drawn w (drawn_block t brings (push_values h z) spot c s))
      body-joined F c draws other k h spot w s ms ok into o a p seen over taken gives =
          behind (drawn_block t brings (push_values h z) spot c s) (block-within t brings (push_values h z) spot c s) (body-drawn (later F (AnyHole h)) c draws other k h spot s ms ok into o a p seen over)
        where
          behind : (d : Scope × Sketch) → IsWithin c (push_values h z) d.0 → Blocked (later F (AnyHole h)) g has_last ms c other (names_in_block c (names_within e names) k) d → Left rank z context names e F ms (join_drawn w d)
          behind d within v =
              left-behind ms v.0 v.1 (join_drawn w d)
              (join-marked rank z context names e other k F c h d w v.0 within v.2 (over-more ms v.0 v.1 h over) v.4 (λ x i. under-grows ms v.0 v.1 w (around rank context (names x)) (taken x i)) gives)

      -- ---- arms

      given-below : (c : Block) (x : List ℕ) (own : Sources) (a n : Sources) → block_defines c x ≡ true → max context.0 (top rank (both a (if block_defines c x then own else none))) < top rank n → max context.0 (top rank (both a own)) < top rank n
      given-below c x own a n m h = subst (λ f. max context.0 (top rank (both a (if f then own else none))) < top rank n) m h

      pub arm-joined : (F : Frame) (c : Block) → BlockDrawn c → (k : PlaceSources) (h : Layer) (spot : Place) (n : ℕ) (control : Sources) (arm : ℕ × Place × Sketch) (ms : Marks) → BlockSound types among g has_last c → Owes rank context (in_block c (names_within e names) k) k
          → Defined context names (defines e) (λ x. both control (if block_defines c x then k (Named x ∷ []) else none)) → AreMarked (later F (AnyHole h)) arm.2 ms → Low ms arm.0 (up 1 (up n (around rank context control))) → IsPlaced ms arm.1 context
          → AreSeen rank ms z context names → Over ms h → Left rank z context names e F ms (join_drawn arm.0 (drawn_block t brings (push_values h z) arm.1 c arm.2))
      arm-joined F c draws k h spot n control arm ms ok o defined a l p seen over =
          body-joined F c draws context k h arm.1 arm.0 arm.2 ms ok (omega arith, omega arith) o a p seen over
          (λ x i. let f = first-below context.0 control (if block_defines c x then k (Named x ∷ []) else none) (names x) (defined x i) in low-under ms arm.0 (up 1 (up n (around rank context control))) (around rank context (names x)) (inl (omega (arith, f))) l)
          (λ x i m. let f = second-below context.0 control (k (Named x ∷ [])) (names x) (given-below c x (k (Named x ∷ [])) control (names x) m (defined x i)) in inl (omega (arith, f)))

      -- ---- the body of a `reset`, and its condition behind it

      pub reset-joined : (F : Frame) (c : Block) → BlockDrawn c → (k : PlaceSources) (h : Layer) (n : ℕ) (control : Sources) (begun : ℕ × Place × Sketch) (ms : Marks) → BlockSound types among g has_last c → Owes rank (reset_context rank context n control) (in_block c (names_within e names) k) k
          → Defined context names (defines e) (λ x. both control (k (Named x ∷ []))) → AreMarked (later F (AnyHole h)) begun.2 ms → IsPlaced ms begun.1 (reset_context rank context n control)
          → AreSeen rank ms z context names → Over ms h → Left rank z context names e F ms (join_drawn high (drawn_block t brings (push_values h z) begun.1 c begun.2))
      reset-joined F c draws k h n control begun ms ok o defined a p seen over =
          body-joined F c draws (reset_context rank context n control) k h begun.1 high begun.2 ms ok (omega arith, omega arith) o a p seen over
          (λ x i. let f = over.above x i in low-under ms high ground (around rank context (names x)) (inl (omega (arith, f))) a.high_is)
          (λ x i m. let f = inner-below context.0 control (k (Named x ∷ [])) (names x) (defined x i) in inl (omega (arith, f)))

      -- behind the body the condition is said, which is no integer
      pub reset-ended : (F : Frame) (condition : Expr) (k : PlaceSources) (spot : Place) (w : ℕ) (s : Sketch) (d : Scope × Sketch) (ms : Marks) → TestSound types among g has_last condition → Owes rank context (at_expr condition [] names k) k → {G : Frame} → At G z context names ms s spot
          → Has ms w (condition_mark rank context (suc (height condition)) (of_expr condition names k)) → Left rank z context names e (later F (λ i. i ≡ w)) ms d → Step F ms (let v = drawn t brings z spot condition (leave_hidden d) in sketch.define w v.0 v.1)
      reset-ended F condition k spot w s d ms ok o at has left = said (leave_hidden d) (left-ends rank z context names e (later F (λ i. i ≡ w)) d ms left)
        where
          said : (s1 : Sketch) → Step (later F (λ i. i ≡ w)) ms s1 → Step F ms (let v = drawn t brings z spot condition s1 in sketch.define w v.0 v.1)
          said s1 u =
              let m = condition_mark rank context (suc (height condition)) (of_expr condition names k) in
              let v = expr rank types among t known brings b g has_last z S context names (later F (λ i. i ≡ w)) condition ty.Bool [] k spot ok.0 ok.1 o s1 u.0 (at-behind rank z context names ms u.0 s s1 spot at u.1 u.2) in
              let grown = grows-both ms u.0 v.0 u.1 v.1 in
              let r = drawn t brings z spot condition s1 in (
                v.0,
                grown,
                steps.define-said F.late w r.0 r.1 v.0 m (λ i q. elim q [ inl y ↦ inr y | inr y ↦ inl (y, v.4) ]) v.2 (has-grows ms v.0 grown w m has)
                    (low-under v.0 r.0.wire (bound rank z context names (height condition) (of_expr condition names k)) m (inr (omega arith, omega arith)) v.3),
              )

      -- ---- states

      -- strong transitions are read outside
      strong-drawn : (F : Frame) (unless : List Trans) (k : PlaceSources) (spot : Place) (words : Words) (active : Sources) (y : Scope) (s : Sketch) (ms : Marks) → TestsSound types among g has_last unless → Owes rank context (at_conditions unless names k) k
          → max context.0 (top rank (of_conditions unless k)) < top rank active → pop_values y ≡ z → At F z context names ms s spot → AreLines ms words.lines context (word context active) → Jumped F ms (around rank context active) (drawn_strong t brings y spot words unless s)
      strong-drawn F unless k spot words active y s ms ok o strong popped at lines =
          subst (λ i. Jumped F ms (around rank context active) (drawn_jump t brings i spot words unless words.lines.selected s)) (sym popped)
          (jump-marked rank types among t known brings b g has_last z S context names F unless k spot words (around rank context active) words.lines.selected s ms ok o (omega (arith, strong)) at
          (jump-below ms words.lines.selected context (around rank context active) (inl (omega (arith, strong))) lines.selected_is))

      -- the frames of a state, with what is hidden first and last
      hidden-first : (F : Frame) (rests : Rests) (h : Layer) (s : Sketch) (ms : Marks) → AreMarked (later (rests_late F rests) (AnyHole h)) s ms → AreMarked (rests_late (later F (AnyHole h)) rests) s ms
      hidden-first F rests h s ms a = steps.weaken (rests_late (later F (AnyHole h)) rests).late s ms (λ i q. elim q [ inl o ↦ elim o [ inl y ↦ elim y [ inl w ↦ inl (inl (inl w)) | inr w ↦ inl (inr w) ] | inr y ↦ inr y ] | inr o ↦ inl (inl (inr o)) ]) a

      hidden-last : (F : Frame) (rests : Rests) (h : Layer) (s : Sketch) (ms : Marks) → AreMarked (rests_late (later F (AnyHole h)) rests) s ms → AreMarked (later (rests_late F rests) (AnyHole h)) s ms
      hidden-last F rests h s ms a = steps.weaken (later (rests_late F rests) (AnyHole h)).late s ms (λ i q. elim q [ inl o ↦ elim o [ inl y ↦ elim y [ inl w ↦ inl (inl (inl w)) | inr w ↦ inr w ] | inr y ↦ inl (inl (inr y)) ] | inr o ↦ inl (inr o) ]) a

      -- behind the strong ones a state is left
      state-left : (F : Frame) (spot : Place) (words : Words) (n taken : ℕ) (active weak : Sources) (strong_one weak_one : Jump) (rests : Rests) (h : Layer) (y : Scope) (s : Sketch) (ms : Marks) → y ≡ push_values h z → context.0 < top rank active → max context.0 (top rank active) < top rank weak
          → At (later (rests_late F rests) (AnyHole h)) z context names ms s spot
          → AreLines ms words.lines context (word context active) → Low ms taken (up 1 (word context active)) → JumpHas ms strong_one (around rank context active) → JumpHas ms weak_one (around rank context weak) → JumpHas ms rests.strong (word context active)
          → JumpHas ms rests.weak (word context weak) → Over ms h
          → RestedMarked F z context names e words.lines active weak ms (let left = leave_state words.lines n taken strong_one weak_one rests s in (left.0, y, left.1))
      state-left F spot words n taken active weak strong_one weak_one rests h y s ms same above more at lines low has_strong has_weak rest_strong rest_weak over =
          let left = leave_state words.lines n taken strong_one weak_one rests s in
          let a = leave-state-marked (later F (AnyHole h)) words.lines n taken strong_one weak_one rests s ms context (around rank context active) (around rank context weak) (hidden-first F rests h s ms at.marks) lines (inl (omega (arith, above)))
          (low-under ms taken (up 1 (word context active)) (word context weak) (inl (omega (arith, more))) low) has_strong has_weak rest_strong rest_weak in
          (h, same, a.0, a.1, hidden-last F left.0 h left.1 a.0 a.2, over-more ms a.0 a.1 h over, lines-grow ms a.0 a.1 words.lines context (word context active) lines, a.3, a.4)

      -- what stands behind the weak ones
      state-joined : (F : Frame) (unless : List Trans) (k : PlaceSources) (spot : Place) (words : Words) (n taken : ℕ) (active weak : Sources) (weak_one : Jump) (rests : Rests) (s : Sketch) (d : Scope × Sketch) (ms : Marks) → TestsSound types among g has_last unless
          → Owes rank context (at_conditions unless names k) k → max context.0 (top rank (of_conditions unless k)) < top rank active → max context.0 (top rank active) < top rank weak → {G : Frame} → At G z context names ms s spot → AreLines ms words.lines context (word context active)
          → Low ms taken (up 1 (word context active)) → JumpHas ms weak_one (around rank context weak) → JumpHas ms rests.strong (word context active) → JumpHas ms rests.weak (word context weak) → Left rank z context names e (rests_late F rests) ms d
          → RestedMarked F z context names e words.lines active weak ms (let strong = drawn_strong t brings d.0 spot words unless d.1 in let left = leave_state words.lines n taken strong.0 weak_one rests strong.1 in (left.0, d.0, left.1))
      state-joined F unless k spot words n taken active weak weak_one rests s d ms ok o strong more at lines low has_weak rest_strong rest_weak left =
          let j = left.2 in
          let at1 = at-behind rank z context names ms j s d.1 spot at left.3 left.4 in
          let lines1 = lines-grow ms j left.3 words.lines context (word context active) lines in
          behind at1 lines1 (drawn_strong t brings d.0 spot words unless d.1) (strong-drawn (later (rests_late F rests) (AnyHole left.0)) unless k spot words active d.0 d.1 j ok o strong (ap pop_values left.1 ∙ pop-is z left.0) at1 lines1)
        where
          behind : At (later (rests_late F rests) (AnyHole left.0)) z context names left.2 d.1 spot → AreLines left.2 words.lines context (word context active) → (other : Jump × Sketch) → Jumped (later (rests_late F rests) (AnyHole left.0)) left.2 (around rank context active) other
              → RestedMarked F z context names e words.lines active weak ms (let r = leave_state words.lines n taken other.0 weak_one rests other.1 in (r.0, d.0, r.1))
          behind at1 lines1 other x =
              let grown = grows-both ms left.2 x.0 left.3 x.1 in
              rested-behind words.lines active weak ms x.0 grown (let r = leave_state words.lines n taken other.0 weak_one rests other.1 in (r.0, d.0, r.1))
              (state-left F spot words n taken active weak other.0 weak_one rests left.0 d.0 other.1 x.0 left.1 (context-below context.0 (of_conditions unless k) active strong) more (at-behind rank z context names left.2 x.0 d.1 other.1 spot at1 x.1 x.2)
              (lines-grow left.2 x.0 x.1 words.lines context (word context active) lines1)
              (low-grows ms x.0 grown taken (up 1 (word context active)) low) x.3 (jump-has-grows ms x.0 grown weak_one (around rank context weak) has_weak) (jump-has-grows ms x.0 grown rests.strong (word context active) rest_strong)
              (jump-has-grows ms x.0 grown rests.weak (word context weak) rest_weak) (over-more left.2 x.0 x.1 left.0 left.5))

      -- what is known where the body of a state is drawn
      pub record IsEntered (F : Frame) (ms : Marks) (h : Layer) (spot : Place) (words : Words) (active weak : Sources) (rests : Rests) (entered : Entered) (s : Sketch) : Type 0 where
        pub marks : AreMarked (later (rests_late F rests) (AnyHole h)) s ms
        pub seen : AreSeen rank ms z context names
        pub placed : IsPlaced ms spot context
        pub within : IsPlaced ms entered.place context
        pub body : IsPlaced ms entered.body (inside context active)
        pub taken : Low ms entered.taken (up 1 (word context active))
        pub lines : AreLines ms words.lines context (word context active)
        pub strong_rest : JumpHas ms rests.strong (word context active)
        pub weak_rest : JumpHas ms rests.weak (word context weak)
        pub over : Over ms h

      at-entered : (F : Frame) (ms ms' : Marks) (h : Layer) (spot : Place) (words : Words) (active weak : Sources) (rests : Rests) (entered : Entered) (s s' : Sketch) → Grows ms ms' → AreMarked (later (rests_late F rests) (AnyHole h)) s' ms' → IsEntered F ms h spot words active weak rests entered s
          → IsEntered F ms' h spot words active weak rests entered s'
      at-entered F ms ms' h spot words active weak rests entered s s' grown a i = record {
        marks = a;
        seen = seen-grows rank z context names ms ms' grown i.seen;
        placed = placed-grows ms ms' grown spot context i.placed;
        within = placed-grows ms ms' grown entered.place context i.within;
        body = placed-grows ms ms' grown entered.body (inside context active) i.body;
        taken = low-grows ms ms' grown entered.taken (up 1 (word context active)) i.taken;
        lines = lines-grow ms ms' grown words.lines context (word context active) i.lines;
        strong_rest = jump-has-grows ms ms' grown rests.strong (word context active) i.strong_rest;
        weak_rest = jump-has-grows ms ms' grown rests.weak (word context weak) i.weak_rest;
        over = over-more ms ms' grown h i.over;
      }

      -- behind its body: its weak transitions, then it is joined, then its strong ones
      state-behind : (F : Frame) (c : Block) (until unless : List Trans) (k : PlaceSources) (h : Layer) (spot : Place) (words : Words) (n : ℕ) (active weak : Sources) (rests : Rests) (entered : Entered) (d : Scope × Sketch) (ms : Marks)
          → TestsSound types among (inner_scope g c) (lasts_of c has_last) until → TestsSound types among g has_last unless
          → Owes rank (inside context active) (at_conditions until (names_in_block c (names_within e names) (below Body k)) (below Until k)) (below Until k) → Owes rank context (at_conditions unless names (below Unless k)) (below Unless k)
          → Defined context names (defines e) (λ x. both active (if block_defines c x then k (Body ∷ Named x ∷ []) else none)) → max context.0 (top rank (of_conditions unless (below Unless k))) < top rank active
          → max context.0 (top rank (both active (of_conditions until (below Until k)))) < top rank weak
          → IsWithin c (push_values h z) d.0 → IsEntered F ms h spot words active weak rests entered d.1 → AreSeen rank ms d.0 (inside context active) (names_in_block c (names_within e names) (below Body k))
          → IsOwned rank ms d.0 (inside context active) (names_in_block c (names_within e names) (below Body k)) (some_in c) → AreTyped (inner_scope g c) (lasts_of c has_last) d.0
          → RestedMarked F z context names e words.lines active weak ms (state_end t brings spot words n until unless entered rests d)
      state-behind F c until unless k h spot words n active weak rests entered d ms ok_until ok_unless o_until o_unless defined strong more within i seen own typed =
          behind (drawn_weak t brings d.0 entered.place words until d.1)
          (jump-marked rank types among t known brings b (inner_scope g c) (lasts_of c has_last) d.0 typed (inside context active) inner (later (rests_late F rests) (AnyHole h)) until (below Until k) entered.place words (around rank context weak) (stays words.lines) d.1 ms ok_until o_until weak-above
          (record { marks = i.marks; placed = placed-up ms entered.place context (inside context active) (inr (omega arith, omega arith)) i.within; seen = seen }) stay)
        where
          inner : NameSources
          inner = names_in_block c (names_within e names) (below Body k)

          active-above : max context.0 (top rank active) < top rank weak
          active-above = first-below context.0 active (of_conditions until (below Until k)) weak more

          weak-above : max (max context.0 (top rank active)) (top rank (of_conditions until (below Until k))) < max context.0 (top rank weak)
          weak-above = let f = inner-below context.0 active (of_conditions until (below Until k)) weak more in omega (arith, f)

          stay : JumpUnder ms (stays words.lines) (around rank context weak)
          stay = (
            has-under ms words.lines.active.state (word context active) (around rank context weak) (let f = active-above in inl (omega (arith, f))) i.lines.active_is.0,
            low-under ms low ground (around rank context weak) (let f = active-above in inl (omega (arith, f))) i.marks.low_is,
          )

          into-name : (x : List ℕ) → defines e x ≡ true → block_defines c x ≡ true → Less (around rank (inside context active) (k (Body ∷ Named x ∷ []))) (around rank context (names x))
          into-name x j m = let f = inner-below context.0 active (k (Body ∷ Named x ∷ [])) (names x) (given-below c x (k (Body ∷ Named x ∷ [])) active (names x) m (defined x j)) in inl (omega (arith, f))

          taken-low : (ms' : Marks) → Low ms' entered.taken (up 1 (word context active)) → (x : List ℕ) → defines e x ≡ true → Under ms' entered.taken (around rank context (names x))
          taken-low ms' l x j = let f = first-below context.0 active (if block_defines c x then k (Body ∷ Named x ∷ []) else none) (names x) (defined x j) in low-under ms' entered.taken (up 1 (word context active)) (around rank context (names x)) (inl (omega (arith, f))) l

          behind : (jump : Jump × Sketch) → Jumped (later (rests_late F rests) (AnyHole h)) ms (around rank context weak) jump
              → RestedMarked F z context names e words.lines active weak ms
              (let joined = join_drawn entered.taken (d.0, jump.1) in let other = drawn_strong t brings joined.0 spot words unless joined.1 in let left = leave_state words.lines n entered.taken other.0 jump.0 rests other.1 in (left.0, joined.0, left.1))
          behind jump w =
              let here = at-entered F ms w.0 h spot words active weak rests entered d.1 jump.1 w.1 w.2 i in
              let joined = join_drawn entered.taken (d.0, jump.1) in
              let j = join-marked rank z context names e (inside context active) (below Body k) (rests_late F rests) c h (d.0, jump.1) entered.taken w.0 within w.2 here.over (owned-grows ms w.0 w.1 d.0 (inside context active) inner (some_in c) own) (taken-low w.0 here.taken) into-name in
              let place : At (later (rests_late F rests) (AnyHole h)) z context names w.0 jump.1 spot = record { marks = w.2; placed = here.placed; seen = here.seen } in
              rested-behind words.lines active weak ms w.0 w.1 (let other = drawn_strong t brings joined.0 spot words unless joined.1 in let left = leave_state words.lines n entered.taken other.0 jump.0 rests other.1 in (left.0, joined.0, left.1))
              (state-joined F unless (below Unless k) spot words n entered.taken active weak jump.0 rests jump.1 joined w.0 ok_unless o_unless strong active-above place here.lines here.taken w.3 here.strong_rest here.weak_rest j)

      pub state-drawn : (F : Frame) (c : Block) → BlockDrawn c → (until unless : List Trans) (k : PlaceSources) (h : Layer) (spot : Place) (words : Words) (n : ℕ) (active weak : Sources) (rests : Rests) (entered : Entered × Sketch) (ms : Marks)
          → BlockSound types among g has_last c → TestsSound types among (inner_scope g c) (lasts_of c has_last) until → TestsSound types among g has_last unless → Owes rank (inside context active) (in_block c (names_within e names) (below Body k)) (below Body k)
          → Owes rank (inside context active) (at_conditions until (names_in_block c (names_within e names) (below Body k)) (below Until k)) (below Until k) → Owes rank context (at_conditions unless names (below Unless k)) (below Unless k)
          → Defined context names (defines e) (λ x. both active (if block_defines c x then k (Body ∷ Named x ∷ []) else none)) → max context.0 (top rank (of_conditions unless (below Unless k))) < top rank active
          → max context.0 (top rank (both active (of_conditions until (below Until k)))) < top rank weak → IsEntered F ms h spot words active weak rests entered.0 entered.1
          → RestedMarked F z context names e words.lines active weak ms (state_end t brings spot words n until unless entered.0 rests (drawn_block t brings (push_values h z) entered.0.body c entered.1))
      state-drawn F c draws until unless k h spot words n active weak rests entered ms ok ok_until ok_unless o_body o_until o_unless defined strong more i =
          behind (drawn_block t brings (push_values h z) entered.0.body c entered.1) (block-within t brings (push_values h z) entered.0.body c entered.1)
          (body-drawn (later (rests_late F rests) (AnyHole h)) c draws (inside context active) (below Body k) h entered.0.body entered.1 ms ok (omega arith, omega arith) o_body i.marks i.body i.seen i.over)
        where
          behind : (d : Scope × Sketch) → IsWithin c (push_values h z) d.0 → Blocked (later (rests_late F rests) (AnyHole h)) g has_last ms c (inside context active) (names_in_block c (names_within e names) (below Body k)) d
              → RestedMarked F z context names e words.lines active weak ms (state_end t brings spot words n until unless entered.0 rests d)
          behind d within v =
              rested-behind words.lines active weak ms v.0 v.1 (state_end t brings spot words n until unless entered.0 rests d)
              (state-behind F c until unless k h spot words n active weak rests entered.0 d v.0 ok_until ok_unless o_until o_unless defined strong more within (at-entered F ms v.0 h spot words active weak rests entered.0 entered.1 d.1 v.1 v.2 i) v.3 v.4 v.5)

      -- ---- behind all states

      pub automaton-ended : (F : Frame) (lines : Lines) (spot : Place) (next : Jump) (active weak : Sources) (s : Sketch) (d : Rested) (ms : Marks) → context.0 < top rank active → max context.0 (top rank active) < top rank weak → {G : Frame} → At G z context names ms s spot → JumpHas ms next (word context weak)
          → RestedMarked F z context names e lines active weak ms d → Step F ms (automaton_end lines spot next d)
      automaton-ended F lines spot next active weak s d ms above more at has w =
          let x = lines-end-marked (later F (AnyHole w.0)) lines d.0 d.2 w.2 context (word context active) (word context weak) (hidden-first F d.0 w.0 d.2 w.2 w.4) w.6 (inl (omega (arith, above))) (inl (omega (arith, more))) w.7 w.8 in
          let to_x = grows-both ms w.2 x.0 w.3 x.1 in
          taken (lines_end lines d.0 d.2) x.0 to_x x.2 (over-more w.2 x.0 x.1 w.0 w.5) (lines-grow w.2 x.0 x.1 lines context (word context active) w.6) at.placed
        where
          taken : (s1 : Sketch) (ms1 : Marks) → Grows ms ms1 → AreMarked (later F (AnyHole w.0)) s1 ms1 → Over ms1 w.0 → AreLines ms1 lines context (word context active) → IsPlaced ms spot context → Step F ms (leave_hidden (d.1, lines_take lines spot next s1))
          taken s1 ms1 grown a over k placed =
              let j = jump-has-grows ms ms1 grown next (word context weak) has in
              let y = lines-take-marked lines spot next s1 ms1 context (word context active) a (placed-grows ms ms1 grown spot context placed) k (record { mark = word context weak; has = j.0 }) (record { mark = word context weak; has = j.1 }) in
              let e = left-ends rank z context names e F (d.1, lines_take lines spot next s1) ms1 (w.0, w.1, y.0, y.1, y.2, over-more ms1 y.0 y.1 w.0 over) in
              (e.0, grows-both ms ms1 e.0 grown e.1, e.2)
