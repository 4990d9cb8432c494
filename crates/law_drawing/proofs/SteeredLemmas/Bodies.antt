-- Control equations, with marks: each by what is drawn of its blocks.
use Rattle.std.proofs.Common.{◌≡◌, ℕ, Bool, true, false, if◌then◌else◌, ◌||◌, List, [], ◌∷◌, refl, sym, ap, subst, ◌∙◌, inl, inr}
use Rattle.std.specs.Str.{bytes_eq}
use Rattle.hp_base.specs.declared.span.Span.{Span}
use Rattle.hp_tree.specs.declared.block.Trans.{Trans}
use Rattle.hp_tree.specs.Blocks.{Block, Eqn, Arms, States}
use Rattle.hp_tree.specs.Expressions.{Expr}
use Rattle.hp_tree.specs.Instant.{Body, Named, Until, Unless}
use Rattle.hp_tree.specs.Meaning.{is_among, defines, block_defines}
use Rattle.hp_meaning.specs.Causal.Sources.{Sources, none, both, NameSources, PlaceSources, below}
use Rattle.hp_meaning.specs.Causal.WhatIsRead.{of_expr, at_expr, at_conditions, names_within, names_in_block, in_arms, in_states, of_conditions, strong_ones, weak_ones, in_block, in_each_arm, in_each_state}
use Rattle.hp_drawing.specs.declared.parts.Entered.{Entered}
use Rattle.hp_drawing.specs.declared.parts.Jump.{Jump}
use Rattle.hp_drawing.specs.declared.parts.Lines.{Lines}
use Rattle.hp_drawing.specs.declared.parts.Place.{Place}
use Rattle.hp_drawing.specs.declared.parts.Rests.{Rests}
use Rattle.hp_drawing.specs.Told.{Told}
use Rattle.hp_drawing.specs.Sketch as sketch
use Rattle.hp_drawing.specs.Sketch.{Sketch, low, high}
use Rattle.hp_drawing.specs.Places.{stays, lines_take, lines_end}
use Rattle.hp_drawing.specs.Scopes.{Scope, Layer, value_in, push_values, pop_values}
use Rattle.hp_drawing.specs.DrawnExpressions.{Brings, drawn}
use Rattle.hp_drawing.specs.DrawnBlocks.{Words, Rested, drawn_block, drawn_arms, drawn_states, drawn_jump, drawn_weak, drawn_strong, leave_state, state_end, automaton_end, join_drawn, leave_hidden}
use Rattle.law_drawing.proofs.CarryingLemmas.Layers.{self-name}
use Rattle.law_drawing.specs.Steered.Marks.{Steering, Marks, Grows, Has, Leads, Low, AreMarked, IsPlaced}
use Rattle.law_drawing.specs.Steered.Placed.{Held, Placed, JumpPlaced, BlockPlaced, ArmsPlaced, StatesPlaced}
use Rattle.law_drawing.specs.Steered.Asked.{CallsFit, Owes, AreSeen, BringsMarked, OwnEach, IsOwned, ConditionsFit}
use Rattle.law_drawing.proofs.SteeredLemmas.Steps.{grows-none, grows-both, has-grows, low-grows, low-up, low-there, low-own, Step}
use Rattle.law_drawing.proofs.SteeredLemmas.Steps as steps
use Rattle.law_drawing.proofs.SteeredLemmas.Parts.{placed-grows}
use Rattle.law_drawing.proofs.SteeredLemmas.Values.{IsAt, at-behind, seen-grows}
use Rattle.law_drawing.proofs.SteeredLemmas.Expressions.{expr}
use Rattle.law_drawing.proofs.SteeredLemmas.Outer.{IsWithin, block-within}
use Rattle.law_drawing.proofs.SteeredLemmas.Joining.{some_in, pop-is, IsOver, over-grows, over-seen, Left, join-marked, left-ends}
use Rattle.law_drawing.proofs.SteeredLemmas.Jumps.{JumpHas, JumpLow, Jumped, jump-has-grows, jump-up, AreLines, lines-grow, lines-take-marked, lines-end-marked}
use Rattle.law_drawing.proofs.SteeredLemmas.Controls.{placed-up, seen-up, jump-marked, leave-state-marked}

-- ---- names that are defined

pub or-left : (a b : Bool) → a ≡ true → a || b ≡ true
or-left true b h = refl
or-left false b h = absurd cc

pub or-right : (a b : Bool) → b ≡ true → a || b ≡ true
or-right true b h = refl
or-right false b h = h

pub not-both : (a : Bool) → a ≡ true → a ≡ false → ⊥
not-both a h k = let c : true ≡ false = sym h ∙ k in cc

module _ (ms : Marks) (z : Scope) (context : Sources) (names : NameSources) where
  -- fewer names
  pub owned-part : (d d' : List ℕ → Bool) → ((x : List ℕ) → d' x ≡ true → d x ≡ true) → IsOwned ms z context names d → IsOwned ms z context names d'
  owned-part d d' f o = record { known = λ x h. o.known x (f x h); wires = λ x h. o.wires x (f x h); holes = o.holes }

pub owned-grows : (ms ms' : Marks) → Grows ms ms' → (z : Scope) (context : Sources) (names : NameSources) (d : List ℕ → Bool) → IsOwned ms z context names d → IsOwned ms' z context names d
owned-grows ms ms' g z context names d o = record {
  known = o.known;
  wires = λ x h. has-grows ms ms' g (value_in z x).wire (both context (names x)) (o.wires x h);
  holes = λ x e q. has-grows ms ms' g e.hole (both context (names x)) (o.holes x e q);
}

module _ (steers : Steering) where
  -- what the definition of a name reads leads where the name does
  abbrev pub Defined : Sources → NameSources → (List ℕ → Bool) → NameSources → Type 0
  Defined context names d given = (x : List ℕ) → d x ≡ true → Leads steers (both context (given x)) → Leads steers (names x)

  pub own-each : (ms : Marks) (z : Scope) (context : Sources) (names : NameSources) (ys : List (List ℕ × Span)) (m : Sources) → IsOwned ms z context names (is_among ys) → ((x : List ℕ) → is_among ys x ≡ true → Leads steers m → Leads steers (both context (names x))) → OwnEach steers ms z ys m
  own-each ms z context names ys m o f = each ys (λ x h. h)
    where
      same : (x : List ℕ) → bytes_eq x x ≡ true
      same x = self-name x

      each : (xs : List (List ℕ × Span)) → ((x : List ℕ) → is_among xs x ≡ true → is_among ys x ≡ true) → OwnEach steers ms z xs m
      each [] h = tt
      each (x ∷ xs) h =
          let here = h x.0 (or-left (bytes_eq x.0 x.0) (is_among xs x.0) (same x.0)) in
          (record { mark = both context (names x.0); has = o.wires x.0 here; from = f x.0 here }, each xs (λ y i. h y (or-right (bytes_eq x.0 y) (is_among xs y) i)))

  -- ---- blocks

  abbrev pub Blocked : Marks → Block → Sources → NameSources → Scope × Sketch → Type 0
  Blocked ms b context inner d = (ms' : Marks) × Grows ms ms' × AreMarked steers d.1 ms' × AreSeen steers ms' d.0 context inner × IsOwned ms' d.0 context inner (some_in b)

  -- behind the states: the rests of the jumps have their marks
  abbrev pub RestedMarked : Scope → Sources → NameSources → Eqn → Lines → Sources → Sources → Marks → Rested → Type 0
  RestedMarked z context names e lines active next ms d =
      (h : Layer) × (d.1 ≡ push_values h z) × (ms' : Marks) × Grows ms ms' × AreMarked steers d.2 ms' × IsOver steers z context names e ms' h × AreLines steers ms' lines context active × JumpHas steers ms' d.0.strong active × JumpHas steers ms' d.0.weak next

  module _ (t : Told) (brings : Brings) (held : Held) (b : (context : Sources) → BringsMarked steers t brings held context) where
    abbrev At : Scope → Sources → NameSources → Marks → Sketch → Place → Type 0
    At z context names ms s spot = IsAt steers z context names ms s spot

    -- ---- what is drawn of blocks, arms and states, as premises

    abbrev pub BlockDrawn : Block → Type 0
    BlockDrawn c =
        (z : Scope) (context : Sources) (names : NameSources) (k : PlaceSources) (spot : Place) (s : Sketch) (ms : Marks) → Owes steers context (in_block c names k) k → BlockPlaced steers t brings held z spot c k s → At z context names ms s spot
        → Blocked ms c context (names_in_block c names k) (drawn_block t brings z spot c s)

    abbrev pub ArmsDrawn : Arms → Type 0
    ArmsDrawn arms =
        (e : Eqn) (z : Scope) (context : Sources) (names : NameSources) (k : PlaceSources) (spot : Place) (w : ℕ) (control : Sources) (h : Layer) (s : Sketch) (ms : Marks) → Owes steers context (in_each_arm arms (names_within e names) k) k
        → ((x : List ℕ) → defines e x ≡ true → Leads steers (both control (in_arms arms k x)) → Leads steers (names x)) → ArmsPlaced steers t brings held (push_values h z) spot w arms k s → At z context names ms s spot → Low steers ms w (both context control) → IsOver steers z context names e ms h
        → Left steers z context names e ms (drawn_arms t brings (push_values h z) spot w arms s)

    abbrev pub StatesDrawn : States → Type 0
    StatesDrawn ss =
        (e : Eqn) (z : Scope) (context : Sources) (names : NameSources) (k : PlaceSources) (spot : Place) (words : Words) (n : ℕ) (active weak : Sources) (h : Layer) (rests : Rests) (s : Sketch) (ms : Marks)
        → Owes steers context (in_each_state ss active names (names_within e names) k) k → ((x : List ℕ) → defines e x ≡ true → Leads steers (both active (in_states ss k x)) → Leads steers (names x)) → (Leads steers (strong_ones ss k) → Leads steers active)
        → (Leads steers active → Leads steers weak) → (Leads steers (weak_ones ss k) → Leads steers weak) → StatesPlaced steers t brings held (push_values h z) spot words n ss k rests s → At z context names ms s spot → AreLines steers ms words.lines context (both context active) → JumpHas steers ms rests.strong (both context active)
        → JumpHas steers ms rests.weak (both context weak) → IsOver steers z context names e ms h
        → RestedMarked z context names e words.lines (both context active) (both context weak) ms (drawn_states t brings (push_values h z) spot words n ss rests s)

    module _ (e : Eqn) (z : Scope) (context : Sources) (names : NameSources) where
      abbrev Over : Marks → Layer → Type 0
      Over ms h = IsOver steers z context names e ms h

      over-more : (ms ms' : Marks) → Grows ms ms' → (h : Layer) → Over ms h → Over ms' h
      over-more ms ms' g h o = over-grows steers z context names e ms ms' g h o

      pub left-behind : (ms ms' : Marks) → Grows ms ms' → (d : Scope × Sketch) → Left steers z context names e ms' d → Left steers z context names e ms d
      left-behind ms ms' g d l = (l.0, l.1, l.2, grows-both ms ms' l.2 g l.3, l.4, l.5)

      pub rested-behind : (lines : Lines) (active next : Sources) (ms ms' : Marks) → Grows ms ms' → (d : Rested) → RestedMarked z context names e lines active next ms' d → RestedMarked z context names e lines active next ms d
      rested-behind lines active next ms ms' g d r = (r.0, r.1, r.2, grows-both ms ms' r.2 g r.3, r.4, r.5, r.6, r.7, r.8)

      -- what the block reads leads where it may
      abbrev Into : Sources → Sources → Type 0
      Into a c = Leads steers a → Leads steers c

      -- ---- a block whose names are joined where a condition holds

      body-drawn : (c : Block) → BlockDrawn c → (around : Sources) (k : PlaceSources) (h : Layer) (spot : Place) (s : Sketch) (ms : Marks) → Into context around → Owes steers around (in_block c (names_within e names) k) k → BlockPlaced steers t brings held (push_values h z) spot c k s → AreMarked steers s ms → IsPlaced steers ms spot around
          → AreSeen steers ms z context names → Over ms h → Blocked ms c around (names_in_block c (names_within e names) k) (drawn_block t brings (push_values h z) spot c s)
      body-drawn c draws around k h spot s ms into o j a p seen over =
          draws (push_values h z) around (names_within e names) k spot s ms o j (record { marks = a; placed = p; seen = seen-up steers ms (push_values h z) (names_within e names) context around into (over-seen steers z context names e ms h over seen) })

      pub body-joined : (c : Block) → BlockDrawn c → (around : Sources) (k : PlaceSources) (h : Layer) (spot : Place) (w : ℕ) (s : Sketch) (ms : Marks) → Into context around → Owes steers around (in_block c (names_within e names) k) k → BlockPlaced steers t brings held (push_values h z) spot c k s → AreMarked steers s ms → IsPlaced steers ms spot around
          → AreSeen steers ms z context names → Over ms h → ((x : List ℕ) → defines e x ≡ true → Low steers ms w (both context (names x)))
          → ((x : List ℕ) → defines e x ≡ true → block_defines c x ≡ true → Leads steers (both around (k (Named x ∷ []))) → Leads steers (both context (names x)))
          → Left steers z context names e ms (join_drawn w (drawn_block t brings (push_values h z) spot c s))
      body-joined c draws around k h spot w s ms into o j a p seen over taken gives =
          behind (drawn_block t brings (push_values h z) spot c s) (block-within t brings (push_values h z) spot c s) (body-drawn c draws around k h spot s ms into o j a p seen over)
        where
          behind : (d : Scope × Sketch) → IsWithin c (push_values h z) d.0 → Blocked ms c around (names_in_block c (names_within e names) k) d → Left steers z context names e ms (join_drawn w d)
          behind d within v =
              left-behind ms v.0 v.1 (join_drawn w d)
              (join-marked steers z context names e around k c h d w v.0 within v.2 (over-more ms v.0 v.1 h over) v.4 (λ x i. low-grows steers ms v.0 v.1 w (both context (names x)) (taken x i)) gives)

      -- ---- arms

      pub arm-joined : (c : Block) → BlockDrawn c → (k : PlaceSources) (h : Layer) (spot : Place) (w : ℕ) (control : Sources) (arm : ℕ × Place × Sketch) (ms : Marks) → Owes steers context (in_block c (names_within e names) k) k
          → ((x : List ℕ) → defines e x ≡ true → Leads steers (both control (if block_defines c x then k (Named x ∷ []) else none)) → Leads steers (names x)) → BlockPlaced steers t brings held (push_values h z) arm.1 c k arm.2 → AreMarked steers arm.2 ms → Low steers ms arm.0 (both context control) → IsPlaced steers ms arm.1 context
          → AreSeen steers ms z context names → Over ms h → Left steers z context names e ms (join_drawn arm.0 (drawn_block t brings (push_values h z) arm.1 c arm.2))
      arm-joined c draws k h spot w control arm ms o defined j a l p seen over =
          body-joined c draws context k h arm.1 arm.0 arm.2 ms (λ i. i) o j a p seen over (λ x i. low-up steers ms arm.0 (both context control) (both context (names x)) (λ m. elim m [ inl r ↦ inl r | inr r ↦ inr (defined x i (inl r)) ]) l)
          (λ x i n m. elim m [ inl r ↦ inl r | inr r ↦ inr (defined x i (inr (subst (λ f. Leads steers (if f then k (Named x ∷ []) else none)) (sym n) r))) ])

      -- ---- the body of a `reset`, and its condition behind it

      pub reset-joined : (c : Block) → BlockDrawn c → (k : PlaceSources) (h : Layer) (control : Sources) (begun : ℕ × Place × Sketch) (ms : Marks) → Owes steers (both context control) (in_block c (names_within e names) k) k
          → ((x : List ℕ) → defines e x ≡ true → Leads steers (both control (k (Named x ∷ []))) → Leads steers (names x)) → BlockPlaced steers t brings held (push_values h z) begun.1 c k begun.2 → AreMarked steers begun.2 ms → IsPlaced steers ms begun.1 (both context control)
          → AreSeen steers ms z context names → Over ms h → Left steers z context names e ms (join_drawn high (drawn_block t brings (push_values h z) begun.1 c begun.2))
      reset-joined c draws k h control begun ms o defined placed a p seen over =
          body-joined c draws (both context control) k h begun.1 high begun.2 ms (λ i. inl i) o placed a p seen over (λ x i. low-up steers ms high none (both context (names x)) (λ l. absurd l) a.high_is)
          (λ x i n l. elim l [ inl j ↦ elim j [ inl m ↦ inl m | inr m ↦ inr (defined x i (inl m)) ] | inr j ↦ inr (defined x i (inr j)) ])

      pub reset-ended : (condition : Expr) (k : PlaceSources) (spot : Place) (w : ℕ) (s : Sketch) (d : Scope × Sketch) (ms : Marks) → CallsFit t condition → Owes steers context (at_expr condition [] names k) k → Placed steers t brings held z spot condition k (leave_hidden d) → At z context names ms s spot
          → Has ms w (both context (of_expr condition names k)) → Left steers z context names e ms d → Step steers ms (let v = drawn t brings z spot condition (leave_hidden d) in sketch.define w v.0 v.1)
      reset-ended condition k spot w s d ms fit o j at has left = said (leave_hidden d) j (left-ends steers z context names e d ms left)
        where
          said : (s1 : Sketch) → Placed steers t brings held z spot condition k s1 → Step steers ms s1 → Step steers ms (let v = drawn t brings z spot condition s1 in sketch.define w v.0 v.1)
          said s1 j u =
              let v = expr steers t brings held z context names (b context) condition [] k spot fit o s1 u.0 j (at-behind steers z context names ms u.0 s s1 spot at u.1 u.2) in
              let g = grows-both ms u.0 v.0 u.1 v.1 in
              (v.0, g, steps.define-marked steers w (drawn t brings z spot condition s1).0 (drawn t brings z spot condition s1).1 v.0 (both context (of_expr condition names k)) v.2 (has-grows ms v.0 g w (both context (of_expr condition names k)) has) v.3)

      -- ---- states

      -- strong transitions are read outside
      strong-drawn : (unless : List Trans) (k : PlaceSources) (spot : Place) (words : Words) (active : Sources) (y : Scope) (s : Sketch) (ms : Marks) → ConditionsFit t unless → Owes steers context (at_conditions unless names k) k → Into (of_conditions unless k) active
          → pop_values y ≡ z → JumpPlaced steers t brings held (pop_values y) spot words unless k s → At z context names ms s spot → AreLines steers ms words.lines context (both context active) → Jumped steers ms (both context active) (drawn_strong t brings y spot words unless s)
      strong-drawn unless k spot words active y s ms fit o strong popped j at lines =
          subst (λ i. Jumped steers ms (both context active) (drawn_jump t brings i spot words unless words.lines.selected s)) (sym popped)
          (jump-marked steers t brings held z context names (b context) unless k spot words (both context active) words.lines.selected s ms fit o (λ l. inl l) (λ l. inr (strong l)) (subst (λ i. JumpPlaced steers t brings held i spot words unless k s) popped j) at
          (jump-up steers ms words.lines.selected context (both context active) (λ l. inl l) lines.selected_is))

      -- behind the strong ones a state is left
      state-left : (spot : Place) (words : Words) (n taken : ℕ) (active weak : Sources) (strong_one weak_one : Jump) (rests : Rests) (h : Layer) (y : Scope) (s : Sketch) (ms : Marks) → y ≡ push_values h z → Into active weak → At z context names ms s spot
          → AreLines steers ms words.lines context (both context active) → Low steers ms taken (both context active) → JumpHas steers ms strong_one (both context active) → JumpHas steers ms weak_one (both context weak) → JumpHas steers ms rests.strong (both context active)
          → JumpHas steers ms rests.weak (both context weak) → Over ms h
          → RestedMarked z context names e words.lines (both context active) (both context weak) ms (let left = leave_state words.lines n taken strong_one weak_one rests s in (left.0, y, left.1))
      state-left spot words n taken active weak strong_one weak_one rests h y s ms same more at lines low has_strong has_weak rest_strong rest_weak over =
          let a = leave-state-marked steers words.lines n taken strong_one weak_one rests s ms context (both context active) (both context weak) at.marks lines (λ l. inl l)
          (low-up steers ms taken (both context active) (both context weak) (λ l. elim l [ inl i ↦ inl i | inr i ↦ inr (more i) ]) low) has_strong has_weak rest_strong rest_weak in
          (h, same, a.0, a.1, a.2, over-more ms a.0 a.1 h over, lines-grow steers ms a.0 a.1 words.lines context (both context active) lines, a.3, a.4)

      -- what stands behind the weak ones
      state-joined : (unless : List Trans) (k : PlaceSources) (spot : Place) (words : Words) (n taken : ℕ) (active weak : Sources) (weak_one : Jump) (rests : Rests) (s : Sketch) (d : Scope × Sketch) (ms : Marks) → ConditionsFit t unless
          → Owes steers context (at_conditions unless names k) k → Into (of_conditions unless k) active → Into active weak → JumpPlaced steers t brings held (pop_values d.0) spot words unless k d.1 → At z context names ms s spot → AreLines steers ms words.lines context (both context active)
          → Low steers ms taken (both context active) → JumpHas steers ms weak_one (both context weak) → JumpHas steers ms rests.strong (both context active) → JumpHas steers ms rests.weak (both context weak) → Left steers z context names e ms d
          → RestedMarked z context names e words.lines (both context active) (both context weak) ms (let strong = drawn_strong t brings d.0 spot words unless d.1 in let left = leave_state words.lines n taken strong.0 weak_one rests strong.1 in (left.0, d.0, left.1))
      state-joined unless k spot words n taken active weak weak_one rests s d ms fit o strong more placed at lines low has_weak rest_strong rest_weak left =
          let j = left.2 in
          let at1 = at-behind steers z context names ms j s d.1 spot at left.3 left.4 in
          let lines1 = lines-grow steers ms j left.3 words.lines context (both context active) lines in
          behind at1 lines1 (drawn_strong t brings d.0 spot words unless d.1) (strong-drawn unless k spot words active d.0 d.1 j fit o strong (ap pop_values left.1 ∙ pop-is z left.0) placed at1 lines1)
        where
          behind : At z context names left.2 d.1 spot → AreLines steers left.2 words.lines context (both context active) → (other : Jump × Sketch) → Jumped steers left.2 (both context active) other
              → RestedMarked z context names e words.lines (both context active) (both context weak) ms (let r = leave_state words.lines n taken other.0 weak_one rests other.1 in (r.0, d.0, r.1))
          behind at1 lines1 other x =
              let g = grows-both ms left.2 x.0 left.3 x.1 in
              rested-behind words.lines (both context active) (both context weak) ms x.0 g (let r = leave_state words.lines n taken other.0 weak_one rests other.1 in (r.0, d.0, r.1))
              (state-left spot words n taken active weak other.0 weak_one rests left.0 d.0 other.1 x.0 left.1 more (at-behind steers z context names left.2 x.0 d.1 other.1 spot at1 x.1 x.2) (lines-grow steers left.2 x.0 x.1 words.lines context (both context active) lines1)
              (low-grows steers ms x.0 g taken (both context active) low) x.3 (jump-has-grows steers ms x.0 g weak_one (both context weak) has_weak) (jump-has-grows steers ms x.0 g rests.strong (both context active) rest_strong)
              (jump-has-grows steers ms x.0 g rests.weak (both context weak) rest_weak) (over-more left.2 x.0 x.1 left.0 left.5))

      -- what is known where the body of a state is drawn
      pub record IsEntered (ms : Marks) (h : Layer) (spot : Place) (words : Words) (active weak : Sources) (rests : Rests) (entered : Entered) (s : Sketch) : Type 0 where
        pub marks : AreMarked steers s ms
        pub seen : AreSeen steers ms z context names
        pub placed : IsPlaced steers ms spot context
        pub inside : IsPlaced steers ms entered.place context
        pub body : IsPlaced steers ms entered.body (both context active)
        pub taken : Low steers ms entered.taken (both context active)
        pub lines : AreLines steers ms words.lines context (both context active)
        pub strong_rest : JumpHas steers ms rests.strong (both context active)
        pub weak_rest : JumpHas steers ms rests.weak (both context weak)
        pub over : Over ms h

      at-entered : (ms ms' : Marks) (h : Layer) (spot : Place) (words : Words) (active weak : Sources) (rests : Rests) (entered : Entered) (s s' : Sketch) → Grows ms ms' → AreMarked steers s' ms' → IsEntered ms h spot words active weak rests entered s
          → IsEntered ms' h spot words active weak rests entered s'
      at-entered ms ms' h spot words active weak rests entered s s' g a i = record {
        marks = a;
        seen = seen-grows steers z context names ms ms' g i.seen;
        placed = placed-grows steers ms ms' g spot context i.placed;
        inside = placed-grows steers ms ms' g entered.place context i.inside;
        body = placed-grows steers ms ms' g entered.body (both context active) i.body;
        taken = low-grows steers ms ms' g entered.taken (both context active) i.taken;
        lines = lines-grow steers ms ms' g words.lines context (both context active) i.lines;
        strong_rest = jump-has-grows steers ms ms' g rests.strong (both context active) i.strong_rest;
        weak_rest = jump-has-grows steers ms ms' g rests.weak (both context weak) i.weak_rest;
        over = over-more ms ms' g h i.over;
      }

      -- the slots of what stands behind the body of a state
      abbrev pub StatePlaced : Place → Words → List Trans → List Trans → PlaceSources → Entered → Scope × Sketch → Type 0
      StatePlaced spot words until unless k entered d =
          let weak = drawn_weak t brings d.0 entered.place words until d.1 in
          let joined = join_drawn entered.taken (d.0, weak.1) in
          JumpPlaced steers t brings held d.0 entered.place words until (below Until k) d.1 × JumpPlaced steers t brings held (pop_values joined.0) spot words unless (below Unless k) joined.1

      -- behind its body: its weak transitions, then it is joined, then its strong ones
      state-behind : (c : Block) (until unless : List Trans) (k : PlaceSources) (h : Layer) (spot : Place) (words : Words) (n : ℕ) (active weak : Sources) (rests : Rests) (entered : Entered) (d : Scope × Sketch) (ms : Marks)
          → ConditionsFit t until → ConditionsFit t unless
          → Owes steers (both context active) (at_conditions until (names_in_block c (names_within e names) (below Body k)) (below Until k)) (below Until k) → Owes steers context (at_conditions unless names (below Unless k)) (below Unless k)
          → ((x : List ℕ) → defines e x ≡ true → Leads steers (both active (if block_defines c x then k (Body ∷ Named x ∷ []) else none)) → Leads steers (names x)) → Into (of_conditions unless (below Unless k)) active → Into active weak → Into (of_conditions until (below Until k)) weak
          → StatePlaced spot words until unless k entered d → IsWithin c (push_values h z) d.0 → IsEntered ms h spot words active weak rests entered d.1 → AreSeen steers ms d.0 (both context active) (names_in_block c (names_within e names) (below Body k))
          → IsOwned ms d.0 (both context active) (names_in_block c (names_within e names) (below Body k)) (some_in c)
          → RestedMarked z context names e words.lines (both context active) (both context weak) ms (state_end t brings spot words n until unless entered rests d)
      state-behind c until unless k h spot words n active weak rests entered d ms fit_until fit_unless o_until o_unless defined strong more less j within i seen own =
          behind (drawn_weak t brings d.0 entered.place words until d.1) j.1
          (jump-marked steers t brings held d.0 around inner (b around) until (below Until k) entered.place words (both context weak) (stays words.lines) d.1 ms fit_until o_until upward (λ l. inr (less l)) j.0
          (record { marks = i.marks; placed = placed-up steers ms entered.place context around (λ l. inl l) i.inside; seen = seen }) stay)
        where
          around : Sources
          around = both context active

          inner : NameSources
          inner = names_in_block c (names_within e names) (below Body k)

          upward : Leads steers (both context active) → Leads steers (both context weak)
          upward (inl l) = inl l
          upward (inr l) = inr (more l)

          stay : JumpLow steers ms (stays words.lines) (both context weak)
          stay = (low-up steers ms words.lines.active.state (both context active) (both context weak) upward (low-own steers ms words.lines.active.state (both context active) i.lines.active_is.0), low-up steers ms low none (both context weak) (λ l. absurd l) i.marks.low_is)

          into-name : (x : List ℕ) → defines e x ≡ true → block_defines c x ≡ true → Leads steers (both (both context active) (k (Body ∷ Named x ∷ []))) → Leads steers (both context (names x))
          into-name x j m (inl (inl l)) = inl l
          into-name x j m (inl (inr l)) = inr (defined x j (inl l))
          into-name x j m (inr l) = inr (defined x j (inr (subst (λ f. Leads steers (if f then k (Body ∷ Named x ∷ []) else none)) (sym m) l)))

          taken-low : (ms' : Marks) → Low steers ms' entered.taken (both context active) → (x : List ℕ) → defines e x ≡ true → Low steers ms' entered.taken (both context (names x))
          taken-low ms' l x j = low-up steers ms' entered.taken (both context active) (both context (names x)) (λ m. elim m [ inl r ↦ inl r | inr r ↦ inr (defined x j (inl r)) ]) l

          behind : (jump : Jump × Sketch) → (let joined = join_drawn entered.taken (d.0, jump.1) in JumpPlaced steers t brings held (pop_values joined.0) spot words unless (below Unless k) joined.1) → Jumped steers ms (both context weak) jump
              → RestedMarked z context names e words.lines (both context active) (both context weak) ms
              (let joined = join_drawn entered.taken (d.0, jump.1) in let other = drawn_strong t brings joined.0 spot words unless joined.1 in let left = leave_state words.lines n entered.taken other.0 jump.0 rests other.1 in (left.0, joined.0, left.1))
          behind jump placed w =
              let here = at-entered ms w.0 h spot words active weak rests entered d.1 jump.1 w.1 w.2 i in
              let joined = join_drawn entered.taken (d.0, jump.1) in
              let j = join-marked steers z context names e (both context active) (below Body k) c h (d.0, jump.1) entered.taken w.0 within w.2 here.over (owned-grows ms w.0 w.1 d.0 (both context active) inner (some_in c) own) (taken-low w.0 here.taken) into-name in
              rested-behind words.lines (both context active) (both context weak) ms w.0 w.1 (let other = drawn_strong t brings joined.0 spot words unless joined.1 in let left = leave_state words.lines n entered.taken other.0 jump.0 rests other.1 in (left.0, joined.0, left.1))
              (state-joined unless (below Unless k) spot words n entered.taken active weak jump.0 rests jump.1 joined w.0 fit_unless o_unless strong more placed (record { marks = w.2; placed = here.placed; seen = here.seen }) here.lines here.taken w.3 here.strong_rest here.weak_rest j)

      pub state-drawn : (c : Block) → BlockDrawn c → (until unless : List Trans) (k : PlaceSources) (h : Layer) (spot : Place) (words : Words) (n : ℕ) (active weak : Sources) (rests : Rests) (entered : Entered × Sketch) (ms : Marks)
          → ConditionsFit t until → ConditionsFit t unless → Owes steers (both context active) (in_block c (names_within e names) (below Body k)) (below Body k)
          → Owes steers (both context active) (at_conditions until (names_in_block c (names_within e names) (below Body k)) (below Until k)) (below Until k) → Owes steers context (at_conditions unless names (below Unless k)) (below Unless k)
          → ((x : List ℕ) → defines e x ≡ true → Leads steers (both active (if block_defines c x then k (Body ∷ Named x ∷ []) else none)) → Leads steers (names x)) → Into (of_conditions unless (below Unless k)) active → Into active weak → Into (of_conditions until (below Until k)) weak
          → BlockPlaced steers t brings held (push_values h z) entered.0.body c (below Body k) entered.1 → StatePlaced spot words until unless k entered.0 (drawn_block t brings (push_values h z) entered.0.body c entered.1) → IsEntered ms h spot words active weak rests entered.0 entered.1
          → RestedMarked z context names e words.lines (both context active) (both context weak) ms (state_end t brings spot words n until unless entered.0 rests (drawn_block t brings (push_values h z) entered.0.body c entered.1))
      state-drawn c draws until unless k h spot words n active weak rests entered ms fit_until fit_unless o_body o_until o_unless defined strong more less j placed i =
          behind (drawn_block t brings (push_values h z) entered.0.body c entered.1) (block-within t brings (push_values h z) entered.0.body c entered.1) placed
          (body-drawn c draws (both context active) (below Body k) h entered.0.body entered.1 ms (λ l. inl l) o_body j i.marks i.body i.seen i.over)
        where
          behind : (d : Scope × Sketch) → IsWithin c (push_values h z) d.0 → StatePlaced spot words until unless k entered.0 d → Blocked ms c (both context active) (names_in_block c (names_within e names) (below Body k)) d
              → RestedMarked z context names e words.lines (both context active) (both context weak) ms (state_end t brings spot words n until unless entered.0 rests d)
          behind d within placed v =
              rested-behind words.lines (both context active) (both context weak) ms v.0 v.1 (state_end t brings spot words n until unless entered.0 rests d)
              (state-behind c until unless k h spot words n active weak rests entered.0 d v.0 fit_until fit_unless o_until o_unless defined strong more less placed within (at-entered ms v.0 h spot words active weak rests entered.0 entered.1 d.1 v.1 v.2 i) v.3 v.4)

      -- ---- behind all states

      pub automaton-ended : (lines : Lines) (spot : Place) (next : Jump) (active weak : Sources) (s : Sketch) (d : Rested) (ms : Marks) → At z context names ms s spot → JumpHas steers ms next (both context weak)
          → RestedMarked z context names e lines (both context active) (both context weak) ms d → Step steers ms (automaton_end lines spot next d)
      automaton-ended lines spot next active weak s d ms at has w =
          let x = lines-end-marked steers lines d.0 d.2 w.2 context (both context active) (both context weak) w.4 w.6 (λ l. inl l) w.7 w.8 in
          let to_x = grows-both ms w.2 x.0 w.3 x.1 in
          taken (lines_end lines d.0 d.2) x.0 to_x x.2 (over-more w.2 x.0 x.1 w.0 w.5) (lines-grow steers w.2 x.0 x.1 lines context (both context active) w.6)
        where
          taken : (s1 : Sketch) (ms1 : Marks) → Grows ms ms1 → AreMarked steers s1 ms1 → Over ms1 w.0 → AreLines steers ms1 lines context (both context active) → Step steers ms (leave_hidden (d.1, lines_take lines spot next s1))
          taken s1 ms1 g a over k =
              let j = jump-has-grows steers ms ms1 g next (both context weak) has in
              let y = lines-take-marked steers lines spot next s1 ms1 context (both context active) a (placed-grows steers ms ms1 g spot context at.placed) k (record { mark = both context weak; has = j.0 }) (record { mark = both context weak; has = j.1 }) in
              let e = left-ends steers z context names e (d.1, lines_take lines spot next s1) ms1 (w.0, w.1, y.0, y.1, y.2, over-more ms1 y.0 y.1 w.0 over) in
              (e.0, grows-both ms ms1 e.0 g e.1, e.2)
