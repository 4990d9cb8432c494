-- Jumps of automata, with marks.
use Rattle.std.proofs.Common.{ℕ, Bool, true, false, if◌then◌else◌}
use Rattle.hp_tree.specs.declared.block.Trans.{Trans}
use Rattle.hp_meaning.specs.Causal.Sources.{Sources, none}
use Rattle.hp_circuit.specs.declared.circuit.Shape.{Shape}
use Rattle.hp_circuit.specs.declared.circuit.Shape.TheVariants.{Truth, Cons}
use Rattle.hp_circuit.specs.declared.circuit.Wire.TheVariants as wire
use Rattle.hp_drawing.specs.declared.parts.Jump.{Jump}
use Rattle.hp_drawing.specs.declared.parts.Lines.{Lines}
use Rattle.hp_drawing.specs.declared.parts.Place.{Place}
use Rattle.hp_drawing.specs.declared.parts.Rests.{Rests}
use Rattle.hp_drawing.specs.Told.{or_none}
use Rattle.hp_drawing.specs.Sketch.{Sketch, low, high, push, set, hole}
use Rattle.hp_drawing.specs.Places.{new_register, takes, jump_hole, jump_to, jump_set, jump_add, jump_end, new_lines, lines_take, lines_end, Numbers, transition, restarts}
use Rattle.law_drawing.specs.Steered.Marks.{Steering, Marks, Grows, Has, Leads, Low, There, AreMarked, IsPlaced}
use Rattle.law_drawing.proofs.SteeredLemmas.Steps.{grows-both, has-grows, low-grows, there-grows, low-own, low-up, Step, hole-marked, gate, set-marked}
use Rattle.law_drawing.proofs.SteeredLemmas.Parts.{placed-grows, IsRegistered, registered-grows, new_register-marked, takes-marked}

module _ (steers : Steering) where
  -- both wires of a jump have a mark
  abbrev pub JumpHas : Marks → Jump → Sources → Type 0
  JumpHas ms j m = Has ms j.state m × Has ms j.restart m

  abbrev pub JumpLow : Marks → Jump → Sources → Type 0
  JumpLow ms j m = Low steers ms j.state m × Low steers ms j.restart m

  pub jump-has-grows : (ms ms' : Marks) → Grows ms ms' → (j : Jump) (m : Sources) → JumpHas ms j m → JumpHas ms' j m
  jump-has-grows ms ms' g j m h = (has-grows ms ms' g j.state m h.0, has-grows ms ms' g j.restart m h.1)

  pub jump-low-grows : (ms ms' : Marks) → Grows ms ms' → (j : Jump) (m : Sources) → JumpLow ms j m → JumpLow ms' j m
  jump-low-grows ms ms' g j m h = (low-grows steers ms ms' g j.state m h.0, low-grows steers ms ms' g j.restart m h.1)

  pub jump-own : (ms : Marks) (j : Jump) (m : Sources) → JumpHas ms j m → JumpLow ms j m
  jump-own ms j m h = (low-own steers ms j.state m h.0, low-own steers ms j.restart m h.1)

  pub jump-up : (ms : Marks) (j : Jump) (m n : Sources) → (Leads steers m → Leads steers n) → JumpLow ms j m → JumpLow ms j n
  jump-up ms j m n f h = (low-up steers ms j.state m n f h.0, low-up steers ms j.restart m n f h.1)

  abbrev pub Jumped : Marks → Sources → Jump × Sketch → Type 0
  Jumped ms m d = (ms' : Marks) × Grows ms ms' × AreMarked steers d.1 ms' × JumpHas ms' d.0 m

  pub jump-hole-marked : (p : Shape) (s : Sketch) (ms : Marks) (m : Sources) → AreMarked steers s ms → Jumped ms m (jump_hole p s)
  unfolding jump_hole
  jump-hole-marked p s ms m a =
      let u = hole-marked steers p s ms m a in
      let state = hole p s in
      let v = hole-marked steers Truth state.1 u.0 m u.2 in
      (v.0, grows-both ms u.0 v.0 u.1 v.1, v.2, (has-grows u.0 v.0 v.1 state.0 m u.3, v.3))

  -- the state of a number, whose restart is a constant
  pub jump-to-marked : (p : Shape) (number restart : ℕ) (s : Sketch) (ms : Marks) (m : Sources) → AreMarked steers s ms → Low steers ms restart m → (ms' : Marks) × Grows ms ms' × AreMarked steers (jump_to p number restart s).1 ms' × JumpLow ms' (jump_to p number restart s).0 m
  unfolding jump_to
  jump-to-marked p number restart s ms m a l =
      let u = gate steers (wire.Constant number) p s ms m a tt in
      (u.0, u.1, u.2, (low-own steers u.0 (push (wire.Constant number) p s).0 m u.3, low-grows steers ms u.0 u.1 restart m l))

  pub jump-set-marked : (j : Jump) (c : ℕ) (source rest : Jump) (s : Sketch) (ms : Marks) (m : Sources) → AreMarked steers s ms → JumpHas ms j m → Low steers ms c m → JumpLow ms source m → JumpLow ms rest m → AreMarked steers (jump_set j c source rest s) ms
  jump-set-marked j c source rest s ms m a h l k r =
      set-marked steers j.restart (wire.If c source.restart rest.restart) (set j.state (wire.If c source.state rest.state) s) ms m (set-marked steers j.state (wire.If c source.state rest.state) s ms m a h.0 (l, k.0, r.0)) h.1 (l, k.1, r.1)

  pub jump-add-marked : (j : Jump) (p : Shape) (c : ℕ) (source : Jump) (s : Sketch) (ms : Marks) (m : Sources) → AreMarked steers s ms → JumpHas ms j m → Low steers ms c m → JumpLow ms source m → Jumped ms m (jump_add j p c source s)
  unfolding jump_add
  jump-add-marked j p c source s ms m a h l k =
      let u = jump-hole-marked p s ms m a in
      let rest = jump_hole p s in (
        u.0,
        u.1,
        jump-set-marked j c source rest.0 rest.1 u.0 m u.2 (jump-has-grows ms u.0 u.1 j m h) (low-grows steers ms u.0 u.1 c m l) (jump-low-grows ms u.0 u.1 source m k) (jump-own u.0 rest.0 m u.3),
        u.3,
      )

  pub jump-end-marked : (j source : Jump) (s : Sketch) (ms : Marks) (m : Sources) → AreMarked steers s ms → JumpHas ms j m → JumpLow ms source m → AreMarked steers (jump_end j source s) ms
  unfolding jump_end
  jump-end-marked j source s ms m a h k =
      set-marked steers j.restart (wire.Copy source.restart) (set j.state (wire.Copy source.state) s) ms m (set-marked steers j.state (wire.Copy source.state) s ms m a h.0 k.0) h.1 k.1

  -- a constant that says whether a body begins anew
  pub restarts-low : (q : Trans) (s : Sketch) (ms : Marks) (m : Sources) → AreMarked steers s ms → Low steers ms (restarts q) m
  restarts-low q s ms m a = by q.restart
    where
      by : (b : Bool) → Low steers ms (if b then high else low) m
      by true = low-up steers ms high none m (λ h. absurd h) a.high_is
      by false = low-up steers ms low none m (λ h. absurd h) a.low_is

  pub transition-marked : (numbers : Numbers) (p : Shape) (rest : Jump) (c : ℕ) (q : Trans) (s : Sketch) (ms : Marks) (m : Sources) → AreMarked steers s ms → JumpHas ms rest m → Low steers ms c m → Jumped ms m (transition numbers p rest c q s)
  unfolding transition
  transition-marked numbers p rest c q s ms m a h l =
      let target = jump_to p (or_none (numbers q.target)) (restarts q) s in
      let u = jump-to-marked p (or_none (numbers q.target)) (restarts q) s ms m a (restarts-low q s ms m a) in
      let v = jump-add-marked rest p c target.0 target.1 u.0 m u.2 (jump-has-grows ms u.0 u.1 rest m h) (low-grows steers ms u.0 u.1 c m l) u.3 in
      (v.0, grows-both ms u.0 v.0 u.1 v.1, v.2, v.3)

  -- ---- the words of an automaton

  -- what memory selects reads what cuts the place; the active word has its mark
  pub record AreLines (ms : Marks) (l : Lines) (context active : Sources) : Type 0 where
    pub next_is : IsRegistered steers ms l.next context
    pub pending_is : IsRegistered steers ms l.pending context
    pub selected_is : JumpLow ms l.selected context
    pub active_is : JumpHas ms l.active active

  pub lines-grow : (ms ms' : Marks) → Grows ms ms' → (l : Lines) (context active : Sources) → AreLines ms l context active → AreLines ms' l context active
  lines-grow ms ms' g l context active h = record {
    next_is = registered-grows steers ms ms' g l.next context h.next_is;
    pending_is = registered-grows steers ms ms' g l.pending context h.pending_is;
    selected_is = jump-low-grows ms ms' g l.selected context h.selected_is;
    active_is = jump-has-grows ms ms' g l.active active h.active_is;
  }

  pub new-lines-marked : (count : ℕ) (spot : Place) (s : Sketch) (ms : Marks) (context active : Sources) → AreMarked steers s ms → IsPlaced steers ms spot context
      → (ms' : Marks) × Grows ms ms' × AreMarked steers (new_lines count spot s).1 ms' × AreLines ms' (new_lines count spot s).0 context active
  unfolding new_lines
  new-lines-marked count spot s ms context active a h =
      let next = new_register spot 0 (Cons count) s in
      let u = new_register-marked steers spot 0 (Cons count) s ms context a h in
      let pending = new_register spot 0 Truth next.1 in
      let v = new_register-marked steers spot 0 Truth next.1 u.0 context u.2 (placed-grows steers ms u.0 u.1 spot context h) in
      let w = jump-hole-marked (Cons count) pending.1 v.0 active v.2 in
      let next' = registered-grows steers u.0 w.0 (grows-both u.0 v.0 w.0 v.1 w.1) next.0 context u.3 in
      let pending' = registered-grows steers v.0 w.0 w.1 pending.0 context v.3 in (
        w.0,
        grows-both ms v.0 w.0 (grows-both ms u.0 v.0 u.1 v.1) w.1,
        w.2,
        record { next_is = next'; pending_is = pending'; selected_is = (next'.reads, pending'.reads); active_is = w.3 },
      )

  pub lines-take-marked : (l : Lines) (spot : Place) (next : Jump) (s : Sketch) (ms : Marks) (context active : Sources) → AreMarked steers s ms → IsPlaced steers ms spot context → AreLines ms l context active → There steers ms next.state → There steers ms next.restart
      → Step steers ms (lines_take l spot next s)
  unfolding lines_take
  lines-take-marked l spot next s ms context active a h k t r =
      let u = takes-marked steers l.next spot next.state s ms context a h k.next_is t in
      let s1 = takes l.next spot next.state s in
      let v = takes-marked steers l.pending spot next.restart s1 u.0 context u.2 (placed-grows steers ms u.0 u.1 spot context h) (registered-grows steers ms u.0 u.1 l.pending context k.pending_is) (there-grows steers ms u.0 u.1 next.restart r) in
      (v.0, grows-both ms u.0 v.0 u.1 v.1, v.2)

  pub lines-end-marked : (l : Lines) (rests : Rests) (s : Sketch) (ms : Marks) (context active weak : Sources) → AreMarked steers s ms → AreLines ms l context active → (Leads steers context → Leads steers active) → JumpHas ms rests.strong active → JumpHas ms rests.weak weak
      → Step steers ms (lines_end l rests s)
  unfolding lines_end
  lines-end-marked l rests s ms context active weak a k from h j =
      let s1 = jump_end rests.strong l.selected s in
      let b = jump-end-marked rests.strong l.selected s ms active a h (jump-up ms l.selected context active from k.selected_is) in
      let u = jump-to-marked l.shape 0 low s1 ms weak b (low-up steers ms low none weak (λ x. absurd x) b.low_is) in
      let first = jump_to l.shape 0 low s1 in
      (u.0, u.1, jump-end-marked rests.weak first.0 first.1 u.0 weak u.2 (jump-has-grows ms u.0 u.1 rests.weak weak j) u.3)
