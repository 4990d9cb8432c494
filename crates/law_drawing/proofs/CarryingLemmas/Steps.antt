-- The steps of drawing: a wire more, a wire defined anew, gates, slots, registers and clocks.
use Rattle.std.proofs.Common.{◌≡◌, ℕ, ◌+◌, Bool, true, false, ◌&&◌, List, [], ◌∷◌, ◌++◌, length, refl, sym, ap, subst, ◌∙◌}
use Rattle.std.specs.Prelude.{slice_get, slice_set}
use Rattle.std.specs.List.{list_all}
use Rattle.std.proofs.lemmas.List.{append-nil, append_assoc, length-append}
use Rattle.std.proofs.Math.ListN.{length-set}
use Rattle.hp_tree.specs.Instant.{Instant, Clock, holds}
use Rattle.hp_tree.specs.Meaning.{Names}
use Rattle.hp_tree.specs.Programs.{TypeDecl}
use Rattle.hp_meaning.specs.Causal.Points.{Placed}
use Rattle.hp_meaning.specs.Contract.Slots as slots
use Rattle.hp_circuit.specs.declared.circuit.Shape.{Shape}
use Rattle.hp_circuit.specs.declared.circuit.Shape.TheVariants.{Truth, Cons, Mark}
use Rattle.hp_circuit.specs.declared.circuit.Wire.{Wire}
use Rattle.hp_circuit.specs.declared.circuit.Wire.TheVariants as wire
use Rattle.hp_circuit.specs.Meaning.{truth, holds as is_high}
use Rattle.hp_drawing.specs.declared.parts.Clock.{Clock as ClockLine}
use Rattle.hp_drawing.specs.declared.parts.Value.{Value}
use Rattle.hp_drawing.specs.Sketch as sketch
use Rattle.hp_drawing.specs.Sketch.{Sketch, low, high, base, push, set, read, mark, mark_of, hole, define, define_as, copy, not_gate, and_gate, or_gate, choose_gate, is_gate, add_clock, inner_clock, outer_clock, holds_by, outer_by}
use Rattle.hp_drawing.proofs.SetLaws.{set-is}
use Rattle.law_drawing.specs.Carrying.Solving.{Has, Gives, Solved}
use Rattle.law_drawing.specs.Carrying.Drawing.{past, AreLaid, IsSolved, IsTold, IsDrawn, IsClock}
use Rattle.law_drawing.proofs.CarryingLemmas.Numbers.{get-front, get-next, has-more, gives-more, solved-more, solved-next, solved-set, solved-length}
use Rattle.law_drawing.proofs.CarryingLemmas.Slots.{laid-more, laid-join, laid-length}

-- ---- truth values

pub and-true : (b : Bool) → b && true ≡ b
and-true true = refl
and-true false = refl

pub and-assoc : (a b c : Bool) → (a && b) && c ≡ a && (b && c)
and-assoc true b c = refl
and-assoc false b c = refl

pub all-join : {A : Type 0} (f : A → Bool) (xs ys : List A) → list_all f (xs ++ ys) ≡ list_all f xs && list_all f ys
all-join f [] ys = refl
all-join f (x ∷ xs) ys = ap (λ b. f x && b) (all-join f xs ys) ∙ sym (and-assoc (f x) (list_all f xs) (list_all f ys))

pub high-truth : (b : Bool) → is_high (truth b) ≡ b
high-truth true = refl
high-truth false = refl

-- ---- what stays

pub has-stays : (ns ns' more : List ℕ) (w k : ℕ) → ns' ≡ ns ++ more → Has ns w k → Has ns' w k
has-stays ns ns' more w k e h = subst (λ l. Has l w k) (sym e) (has-more ns more w k h)

pub clock-stays : (types : List TypeDecl) (names : Names) (clocks more_clocks : List ClockLine) (ns more : List ℕ) (n : ℕ) (clock : Clock) → IsClock types names clocks ns n clock → IsClock types names (clocks ++ more_clocks) (ns ++ more) n clock
clock-stays types names clocks more_clocks ns more n [] h = h
clock-stays types names clocks more_clocks ns more n (step ∷ clock) h =
    (h.0, get-front clocks more_clocks n h.0 h.1, has-more ns more h.0.holds (truth (holds types (step ∷ clock) names)) h.2, clock-stays types names clocks more_clocks ns more h.0.outer clock h.3)

module _ (slot : ℕ → ℕ) (next : Instant) (supposes owes : Placed → Bool) where
  -- a wire that a step makes, with its number
  abbrev pub Made : Sketch → List ℕ → List slots.Slot → List Placed → ℕ → ℕ × Sketch → Type 0
  Made s ns ss calls k d = (ns' : List ℕ) × IsDrawn slot next supposes owes s ns ss calls d.1 ns' × Has ns' d.0 k

  pub stays : (s : Sketch) (ns : List ℕ) (ss : List slots.Slot) (calls : List Placed) (s' : Sketch) (ns' : List ℕ) → IsDrawn slot next supposes owes s ns ss calls s' ns' → (w k : ℕ) → Has ns w k → Has ns' w k
  stays s ns ss calls s' ns' d w k h = has-stays ns ns' d.more w k d.grown h

  pub on-clock-still : (types : List TypeDecl) (names : Names) (s : Sketch) (ns : List ℕ) (ss : List slots.Slot) (calls : List Placed) (s' : Sketch) (ns' : List ℕ) → IsDrawn slot next supposes owes s ns ss calls s' ns' → (n : ℕ) (clock : Clock) → IsClock types names s.clocks ns n clock → IsClock types names s'.clocks ns' n clock
  on-clock-still types names s ns ss calls s' ns' d n clock h =
      subst (λ c. IsClock types names c ns' n clock) (sym d.clocks) (subst (λ l. IsClock types names (s.clocks ++ d.more_clocks) l n clock) (sym d.grown) (clock-stays types names s.clocks d.more_clocks ns d.more n clock h))

  -- ---- one step behind another

  pub both : (s : Sketch) (ns : List ℕ) (ss : List slots.Slot) (cs : List Placed) (s1 : Sketch) (ns1 : List ℕ) (ts : List slots.Slot) (ds : List Placed) (s2 : Sketch) (ns2 : List ℕ)
      → IsDrawn slot next supposes owes s ns ss cs s1 ns1 → IsDrawn slot next supposes owes s1 ns1 ts ds s2 ns2 → IsDrawn slot next supposes owes s ns (ss ++ ts) (cs ++ ds) s2 ns2
  both s ns ss cs s1 ns1 ts ds s2 ns2 a b = record {
    more = a.more ++ b.more;
    grown = b.grown ∙ ap (λ l. l ++ b.more) a.grown ∙ append_assoc ns a.more b.more;
    solved = b.solved;
    more_clocks = a.more_clocks ++ b.more_clocks;
    clocks = b.clocks ∙ ap (λ l. l ++ b.more_clocks) a.clocks ∙ append_assoc s.clocks a.more_clocks b.more_clocks;
    more_shapes = a.more_shapes ++ b.more_shapes;
    shapes = b.shapes ∙ ap (λ l. l ++ b.more_shapes) a.shapes ∙ append_assoc s.shapes a.more_shapes b.more_shapes;
    laid = a.laid ++ b.laid;
    slots = b.slots ∙ ap (λ l. l ++ b.laid) a.slots ∙ append_assoc s.slots a.laid b.laid;
    are_laid = laid-join ns2 next ss ts a.laid b.laid (subst (λ l. AreLaid l next ss a.laid) (sym b.grown) (laid-more ns1 b.more next ss a.laid a.are_laid)) b.are_laid;
    told = λ supposed owed h.
        let k = b.told (supposed && list_all supposes cs) (owed && list_all owes cs) (a.told supposed owed h) in
        record {
          hyp = subst (λ q. Has ns2 s2.hyp (truth q)) (and-assoc supposed (list_all supposes cs) (list_all supposes ds) ∙ ap (λ q. supposed && q) (sym (all-join supposes cs ds))) k.hyp;
          duty = subst (λ q. Has ns2 s2.duty (truth q)) (and-assoc owed (list_all owes cs) (list_all owes ds) ∙ ap (λ q. owed && q) (sym (all-join owes cs ds))) k.duty;
        };
  }

  -- behind which nothing is laid down
  pub ended : (s : Sketch) (ns : List ℕ) (ss : List slots.Slot) (cs : List Placed) (s1 : Sketch) (ns1 : List ℕ) (s2 : Sketch) (ns2 : List ℕ)
      → IsDrawn slot next supposes owes s ns ss cs s1 ns1 → IsDrawn slot next supposes owes s1 ns1 [] [] s2 ns2 → IsDrawn slot next supposes owes s ns ss cs s2 ns2
  ended s ns ss cs s1 ns1 s2 ns2 a b =
      subst (λ c. IsDrawn slot next supposes owes s ns ss c s2 ns2) (append-nil cs) (subst (λ l. IsDrawn slot next supposes owes s ns l (cs ++ []) s2 ns2) (append-nil ss) (both s ns ss cs s1 ns1 [] [] s2 ns2 a b))

  -- the number of the slot behind what is laid down
  pub slots-behind : (s : Sketch) (ns : List ℕ) (ss : List slots.Slot) (cs : List Placed) (s1 : Sketch) (ns1 : List ℕ) → IsDrawn slot next supposes owes s ns ss cs s1 ns1 → length s1.slots ≡ past ss (length s.slots)
  slots-behind s ns ss cs s1 ns1 a = ap length a.slots ∙ length-append s.slots a.laid ∙ laid-length ns1 next ss a.laid (length s.slots) a.are_laid

  -- ---- steps that change wires alone

  told-stays : (s : Sketch) (ns : List ℕ) (s' : Sketch) (more : List ℕ) → s'.hyp ≡ s.hyp → s'.duty ≡ s.duty → (supposed owed : Bool) → IsTold s ns supposed owed → IsTold s' (ns ++ more) (supposed && true) (owed && true)
  told-stays s ns s' more e f supposed owed h = record {
    hyp = subst (λ w. Has (ns ++ more) w (truth (supposed && true))) (sym e) (has-more ns more s.hyp (truth (supposed && true)) (subst (λ q. Has ns s.hyp (truth q)) (sym (and-true supposed)) h.hyp));
    duty = subst (λ w. Has (ns ++ more) w (truth (owed && true))) (sym f) (has-more ns more s.duty (truth (owed && true)) (subst (λ q. Has ns s.duty (truth q)) (sym (and-true owed)) h.duty));
  }

  -- all but the wires stays
  pub record AllElse (s s' : Sketch) (more_shapes : List Shape) : Type 0 where
    pub shapes : s'.shapes ≡ s.shapes ++ more_shapes
    pub shaped : length s'.shapes ≡ length s'.wires
    pub slots : s'.slots ≡ s.slots
    pub clocks : s'.clocks ≡ s.clocks
    pub hyp : s'.hyp ≡ s.hyp
    pub duty : s'.duty ≡ s.duty

  pub on_wires : (s s' : Sketch) (ns more : List ℕ) (more_shapes : List Shape) → IsSolved slot s ns → AllElse s s' more_shapes → Solved slot (ns ++ more) s'.wires (ns ++ more) → IsDrawn slot next supposes owes s ns [] [] s' (ns ++ more)
  on_wires s s' ns more more_shapes g e h = record {
    more = more;
    grown = refl;
    solved = record {
      solved = h;
      low_is = has-more ns more low 0 g.low_is;
      high_is = has-more ns more high 1 g.high_is;
      base_is = ap (λ c. slice_get c base) e.clocks ∙ g.base_is;
      shaped = e.shaped;
      hyp_is = (g.hyp_is.0, subst (λ w. Has (ns ++ more) w (truth g.hyp_is.0)) (sym e.hyp) (has-more ns more s.hyp (truth g.hyp_is.0) g.hyp_is.1));
      duty_is = (g.duty_is.0, subst (λ w. Has (ns ++ more) w (truth g.duty_is.0)) (sym e.duty) (has-more ns more s.duty (truth g.duty_is.0) g.duty_is.1));
    };
    more_clocks = [];
    clocks = e.clocks ∙ sym (append-nil s.clocks);
    more_shapes = more_shapes;
    shapes = e.shapes;
    laid = [];
    slots = e.slots ∙ sym (append-nil s.slots);
    are_laid = refl;
    told = told-stays s ns s' more e.hyp e.duty;
  }

  -- nothing is drawn
  pub nothing-drawn : (s : Sketch) (ns : List ℕ) → IsSolved slot s ns → IsDrawn slot next supposes owes s ns [] [] s ns
  nothing-drawn s ns g = subst (λ l. IsDrawn slot next supposes owes s ns [] [] s l) (append-nil ns) (on_wires s s ns [] [] g (record { shapes = sym (append-nil s.shapes); shaped = g.shaped; slots = refl; clocks = refl; hyp = refl; duty = refl }) (subst (λ l. Solved slot l s.wires l) (sym (append-nil ns)) g.solved))

  -- a wire more
  pub pushed : (w : Wire) (p : Shape) (s : Sketch) (ns : List ℕ) (k : ℕ) → IsSolved slot s ns → Gives slot (ns ++ k ∷ []) w k → Made s ns [] [] k (push w p s)
  unfolding push
  pushed w p s ns k g h = (
    ns ++ k ∷ [],
    on_wires s (push w p s).1 ns (k ∷ []) (p ∷ []) g (record { shapes = refl; shaped = length-append s.shapes (p ∷ []) ∙ ap (λ n. n + 1) g.shaped ∙ sym (length-append s.wires (w ∷ [])); slots = refl; clocks = refl; hyp = refl; duty = refl }) (solved-next slot (ns ++ k ∷ []) s.wires ns w k (solved-more slot ns (k ∷ []) s.wires ns g.solved) h),
    subst (λ i. Has (ns ++ k ∷ []) i k) (sym (solved-length slot ns s.wires ns g.solved)) (get-next ns k),
  )

  -- one whose operands are there already
  pub gate : (w : Wire) (p : Shape) (s : Sketch) (ns : List ℕ) (k : ℕ) → IsSolved slot s ns → Gives slot ns w k → Made s ns [] [] k (push w p s)
  gate w p s ns k g h = pushed w p s ns k g (gives-more slot ns (k ∷ []) w k h)

  -- a wire is defined anew by what gives its number
  written : (i : ℕ) (w : Wire) (others : List (ℕ × ℕ)) (s : Sketch) (ns : List ℕ) (k : ℕ) → IsSolved slot s ns → Has ns i k → Gives slot ns w k → IsDrawn slot next supposes owes s ns [] [] (record s { wires = slice_set s.wires i w; reads = others }) ns
  written i w others s ns k g e h =
      let behind : Sketch = record s { wires = slice_set s.wires i w; reads = others } in
      subst (λ l. IsDrawn slot next supposes owes s ns [] [] behind l) (append-nil ns)
      (on_wires s behind ns [] [] g (record { shapes = sym (append-nil s.shapes); shaped = g.shaped ∙ sym (length-set s.wires i w); slots = refl; clocks = refl; hyp = refl; duty = refl }) (subst (λ l. Solved slot l behind.wires l) (sym (append-nil ns)) (solved-set slot ns s.wires ns i w k g.solved e h)))

  pub set-drawn : (i : ℕ) (w : Wire) (s : Sketch) (ns : List ℕ) (k : ℕ) → IsSolved slot s ns → Has ns i k → Gives slot ns w k → IsDrawn slot next supposes owes s ns [] [] (set i w s) ns
  set-drawn i w s ns k g e h = subst (λ b. IsDrawn slot next supposes owes s ns [] [] b ns) (sym (set-is i w s)) (written i w (set i w s).reads s ns k g e h)

  pub read-drawn : (w other : ℕ) (s : Sketch) (ns : List ℕ) → IsSolved slot s ns → IsDrawn slot next supposes owes s ns [] [] (read w other s) ns
  unfolding read
  read-drawn w other s ns g =
      subst (λ l. IsDrawn slot next supposes owes s ns [] [] (read w other s) l) (append-nil ns)
      (on_wires s (read w other s) ns [] [] g (record { shapes = sym (append-nil s.shapes); shaped = g.shaped; slots = refl; clocks = refl; hyp = refl; duty = refl }) (subst (λ l. Solved slot l s.wires l) (sym (append-nil ns)) g.solved))

  pub mark-drawn : (s : Sketch) (ns : List ℕ) → IsSolved slot s ns → Made s ns [] [] 0 (mark s)
  unfolding mark
  mark-drawn s ns g = gate (wire.Constant 0) Mark s ns 0 g refl

  pub mark-of-drawn : (source : ℕ) (s : Sketch) (ns : List ℕ) → IsSolved slot s ns → Made s ns [] [] 0 (mark_of source s)
  unfolding mark_of
  mark-of-drawn source s ns g =
      let m = mark-drawn s ns g in
      (m.0, both s ns [] [] (mark s).1 m.0 [] [] (mark_of source s).1 m.0 m.1 (read-drawn (mark s).0 source (mark s).1 m.0 m.1.solved), m.2)

  -- an open wire has any number; an integer has none
  pub hole-drawn : (p : Shape) (s : Sketch) (ns : List ℕ) (k : ℕ) → IsSolved slot s ns → (p ≡ Mark → k ≡ 0) → Made s ns [] [] k (hole p s)
  unfolding hole sketch.next_wire
  hole-drawn Mark s ns k g z = subst (λ n. Made s ns [] [] n (mark s)) (sym (z refl)) (mark-drawn s ns g)
  hole-drawn Truth s ns k g z = pushed (wire.Copy (length s.wires)) Truth s ns k g (subst (λ i. Has (ns ++ k ∷ []) i k) (sym (solved-length slot ns s.wires ns g.solved)) (get-next ns k))
  hole-drawn (Cons m) s ns k g z = pushed (wire.Copy (length s.wires)) (Cons m) s ns k g (subst (λ i. Has (ns ++ k ∷ []) i k) (sym (solved-length slot ns s.wires ns g.solved)) (get-next ns k))

  -- an open wire is that of another one with its number
  pub define-drawn : (w : ℕ) (v : Value) (s : Sketch) (ns : List ℕ) (k : ℕ) → IsSolved slot s ns → Has ns w k → Has ns v.wire k → IsDrawn slot next supposes owes s ns [] [] (define w v s) ns
  unfolding define
  define-drawn w v s ns k g h e = by v.shape
    where
      by : (p : Shape) → IsDrawn slot next supposes owes s ns [] [] (define_as p w v.wire s) ns
      by Mark = read-drawn w v.wire s ns g
      by Truth = set-drawn w (wire.Copy v.wire) s ns k g h e
      by (Cons m) = set-drawn w (wire.Copy v.wire) s ns k g h e

  pub copy-drawn : (v : Value) (s : Sketch) (ns : List ℕ) (k : ℕ) → IsSolved slot s ns → Has ns v.wire k → (v.shape ≡ Mark → k ≡ 0) → Made s ns [] [] k (copy v s)
  unfolding copy
  copy-drawn v s ns k g h z =
      let m = hole-drawn v.shape s ns k g z in
      let e = stays s ns [] [] (hole v.shape s).1 m.0 m.1 v.wire k h in
      (m.0, both s ns [] [] (hole v.shape s).1 m.0 [] [] (copy v s).1 m.0 m.1 (define-drawn (hole v.shape s).0 v (hole v.shape s).1 m.0 k m.1.solved m.2 e), m.2)
