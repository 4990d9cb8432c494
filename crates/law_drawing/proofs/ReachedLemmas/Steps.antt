-- What drawn steps read: a set of wires that has each wire that reads one of them has the wire that a step makes, where it has one of those that the step takes.
use Rattle.std.proofs.Common.{ℕ, ◌+◌, true}
use Rattle.hp_circuit.specs.declared.circuit.Shape.{Shape}
use Rattle.hp_circuit.specs.declared.circuit.Shape.TheVariants.{Truth, Cons, Mark}
use Rattle.hp_circuit.specs.declared.circuit.Wire.{Wire}
use Rattle.hp_circuit.specs.declared.circuit.Wire.TheVariants as wire
use Rattle.hp_tree.specs.declared.block.Trans.{Trans}
use Rattle.hp_tree.specs.declared.decl.Cons as tree_cons
use Rattle.hp_tree.specs.declared.expr.Op1.{Op1}
use Rattle.hp_tree.specs.declared.expr.Op1.TheVariants.{Not, Neg}
use Rattle.hp_tree.specs.declared.expr.Op2.{Op2}
use Rattle.hp_tree.specs.declared.expr.Op2.TheVariants.{And, Or, Xor, Imp, Eq, Ne, Lt, Le, Gt, Ge, Add, Sub, Mul, Div, Rem}
use Rattle.hp_drawing.specs.declared.parts.Callee.{Callee}
use Rattle.hp_drawing.specs.declared.parts.Jump.{Jump}
use Rattle.hp_drawing.specs.declared.parts.Register.{Register}
use Rattle.hp_drawing.specs.declared.parts.Value.{Value}
use Rattle.hp_drawing.specs.Told.{Told, or_none}
use Rattle.hp_drawing.specs.Sketch as sketch
use Rattle.hp_drawing.specs.Sketch.{Sketch, truth, push, set, read, mark, mark_of, hole, define_as, define, copy, is_gate}
use Rattle.hp_drawing.specs.Places.{Numbers, chain_add_as, chain_add, jump_hole, jump_to, jump_set, jump_add, restarts, transition}
use Rattle.hp_drawing.specs.DrawnExpressions.{has_cons, cons_number, mark_of_two, mark_of_three, drawn_one, drawn_two, chosen_as, drawn_choice, takes_input, two_end, fby_end, sampled, merge_begin}
use Rattle.law_drawing.proofs.ReachedLemmas.Closed.{Closed, Runs, running, read-gives, set-gives, push-gives}

module _ (S : ℕ → Type 0) where
  abbrev C : Sketch → Type 0
  C = Closed S

  no_slots : ℕ → ℕ → Type 0
  no_slots i w = ⊥

  abbrev R : Sketch → Sketch → Type 0
  R = Runs S no_slots

  before-read : (w v : ℕ) (s : Sketch) → C (read w v s) → C s
  before-read w v s c = ((running S no_slots).read_runs w v s).closed c

  before-set : (w : ℕ) (g : Wire) (s : Sketch) → C (set w g s) → C s
  before-set w g s c = ((running S no_slots).set_runs w g s).closed c

  -- ---- integers

  pub mark_of-gives : (w : ℕ) (s : Sketch) → C (mark_of w s).1 → S w → S (mark_of w s).0
  unfolding mark_of
  mark_of-gives w s c = let m = mark s in read-gives S m.0 w m.1 c

  pub mark_two-gives : (a b : Value) (s : Sketch) → C (mark_of_two a b s).1 → (S a.wire → S (mark_of_two a b s).0.wire) × (S b.wire → S (mark_of_two a b s).0.wire)
  unfolding mark_of_two
  mark_two-gives a b s c = let m = mark_of a.wire s in (mark_of-gives a.wire s (before-read m.0 b.wire m.1 c), read-gives S m.0 b.wire m.1 c)

  pub mark_three-gives : (a b d : Value) (s : Sketch) → C (mark_of_three a b d s).1 → (S a.wire → S (mark_of_three a b d s).0.wire) × (S b.wire → S (mark_of_three a b d s).0.wire) × (S d.wire → S (mark_of_three a b d s).0.wire)
  unfolding mark_of_three
  mark_three-gives a b d s c =
      let m = mark_of_two a b s in
      let k = mark_two-gives a b s (before-read m.0.wire d.wire m.1 c) in
      (k.0, k.1, read-gives S m.0.wire d.wire m.1 c)

  -- ---- operators

  pub one-gives : (o : Op1) (a : Value) (s : Sketch) → C (drawn_one o a s).1 → S a.wire → S (drawn_one o a s).0.wire
  unfolding drawn_one
  one-gives Not a s c = push-gives S (wire.Not a.wire) Truth s c
  one-gives Neg a s c = mark_of-gives a.wire s c

  abbrev pub Two : Op2 → Value → Value → Sketch → Type 0
  Two o a b s = (S a.wire → S (drawn_two o a b s).0.wire) × (S b.wire → S (drawn_two o a b s).0.wire)

  before-push : (g : Wire) (p : Shape) (s : Sketch) → C (push g p s).1 → C s
  before-push g p s c = ((running S no_slots).push_runs g p s).closed c

  pub two-gives : (o : Op2) (a b : Value) (s : Sketch) → C (drawn_two o a b s).1 → Two o a b s
  unfolding drawn_two
  two-gives And a b s c = push-gives S (wire.And a.wire b.wire) Truth s c
  two-gives Or a b s c = push-gives S (wire.Or a.wire b.wire) Truth s c
  two-gives Xor a b s c = push-gives S (wire.Xor a.wire b.wire) Truth s c
  two-gives Imp a b s c =
      let m = push (wire.Not a.wire) Truth s in
      let k = push-gives S (wire.Or m.0 b.wire) Truth m.1 c in
      (λ h. k.0 (push-gives S (wire.Not a.wire) Truth s (before-push (wire.Or m.0 b.wire) Truth m.1 c) h), k.1)
  two-gives Eq a b s c = push-gives S (wire.Equal a.wire b.wire) Truth s c
  two-gives Ne a b s c =
      let m = push (wire.Equal a.wire b.wire) Truth s in
      let k = push-gives S (wire.Not m.0) Truth m.1 c in
      let j = push-gives S (wire.Equal a.wire b.wire) Truth s (before-push (wire.Not m.0) Truth m.1 c) in
      (λ h. k (j.0 h), λ h. k (j.1 h))
  two-gives Lt a b s c = mark_two-gives a b s c
  two-gives Le a b s c = mark_two-gives a b s c
  two-gives Gt a b s c = mark_two-gives a b s c
  two-gives Ge a b s c = mark_two-gives a b s c
  two-gives Add a b s c = mark_two-gives a b s c
  two-gives Sub a b s c = mark_two-gives a b s c
  two-gives Mul a b s c = mark_two-gives a b s c
  two-gives Div a b s c = mark_two-gives a b s c
  two-gives Rem a b s c = mark_two-gives a b s c

  abbrev Three : ℕ → ℕ → ℕ → ℕ → Type 0
  Three w t a b = (S t → S w) × (S a → S w) × (S b → S w)

  chosen-gives : (p : Shape) (t : ℕ) (a b : Value) (s : Sketch) → C (chosen_as p t a b s).1 → Three (chosen_as p t a b s).0.wire t a.wire b.wire
  chosen-gives Truth t a b s c = push-gives S (wire.If t a.wire b.wire) Truth s c
  chosen-gives (Cons n) t a b s c = push-gives S (wire.If t a.wire b.wire) (Cons n) s c
  chosen-gives Mark t a b s c = mark_three-gives (truth t) a b s c

  pub choice-gives : (t : ℕ) (a b : Value) (s : Sketch) → C (drawn_choice t a b s).1 → Three (drawn_choice t a b s).0.wire t a.wire b.wire
  unfolding drawn_choice
  choice-gives t a b s c = chosen-gives a.shape t a b s c

  -- a comparison reads both operands
  pub compared-gives : (w : ℕ) (o : Op2) (a b : Value) (s : Sketch) → C (two_end true w o a b s).1 → (S a.wire → S w) × (S b.wire → S w)
  compared-gives w o a b s c = (read-gives S w a.wire s (before-read w b.wire (read w a.wire s) c), read-gives S w b.wire (read w a.wire s) c)

  pub fby-gives : (p : Shape) (r past : Register) (first : Value) (s : Sketch) → C (fby_end p r past first s).1 → S first.wire → S (fby_end p r past first s).0.wire
  fby-gives Truth r past first s c = (choice-gives past.read (sketch.value r.read Truth) first s c).2
  fby-gives (Cons n) r past first s c = (choice-gives past.read (sketch.value r.read (Cons n)) first s c).2
  fby-gives Mark r past first s c = mark_of-gives first.wire s c

  -- ---- wires that are said later

  as-gives : (p : Shape) (w v : ℕ) (s : Sketch) → C (define_as p w v s) → S v → S w
  as-gives Truth w v s c = set-gives S w (wire.Copy v) s c
  as-gives (Cons n) w v s c = set-gives S w (wire.Copy v) s c
  as-gives Mark w v s c = read-gives S w v s c

  pub define-gives : (w : ℕ) (v : Value) (s : Sketch) → C (define w v s) → S v.wire → S w
  unfolding define
  define-gives w v s c = as-gives v.shape w v.wire s c

  copy-gives : (v : Value) (s : Sketch) → C (copy v s).1 → S v.wire → S (copy v s).0
  unfolding copy
  copy-gives v s c = define-gives (hole v.shape s).0 v (hole v.shape s).1 c

  pub sampled-gives : (t : ℕ) (d : Value × Sketch) → C (sampled t d).1 → (S t → S (sampled t d).0.wire) × (S d.0.wire → S (sampled t d).0.wire)
  sampled-gives t d c = let w = copy d.0 d.1 in (read-gives S w.0 t w.1 c, copy-gives d.0 d.1 (before-read w.0 t w.1 c))

  pub merge-gives : (p : Shape) (t : ℕ) (s : Sketch) → C (merge_begin p t s).1 → S t → S (merge_begin p t s).0
  merge-gives p t s c = let w = hole p s in read-gives S w.0 t w.1 c

  chain_as-gives : (p : Shape) (h t w : ℕ) (s : Sketch) → C (chain_add_as p h t w s).1 → Three h t w (chain_add_as p h t w s).0
  chain_as-gives Truth h t w s c = let rest = hole Truth s in set-gives S h (wire.If t w rest.0) rest.1 c
  chain_as-gives (Cons n) h t w s c = let rest = hole (Cons n) s in set-gives S h (wire.If t w rest.0) rest.1 c
  chain_as-gives Mark h t w s c = (read-gives S h t s (before-read h w (read h t s) c), read-gives S h w (read h t s) c, λ k. k)

  -- the wire has the condition, the value, and what follows
  pub chain-gives : (h t : ℕ) (v : Value) (s : Sketch) → C (chain_add h t v s).1 → Three h t v.wire (chain_add h t v s).0
  unfolding chain_add
  chain-gives h t v s c = chain_as-gives v.shape h t v.wire s c

  pub is-gives : (w n : ℕ) (s : Sketch) → C (is_gate w n s).1 → S w → S (is_gate w n s).0
  unfolding is_gate
  is-gives w n s c = push-gives S (wire.Is w n) Truth s c

  pub cons-gives : (t : Told) (w : ℕ) (k : tree_cons.Cons) (s : Sketch) → C (has_cons t w k s).1 → S w → S (has_cons t w k s).0
  unfolding has_cons
  cons-gives t w k s c = is-gives w (cons_number t k) s c

  -- ---- calls

  pub input-gives : (d : Callee) (k : ℕ) (v : Value) (s : Sketch) → C (takes_input d k v s) → S v.wire → S d.reads
  unfolding takes_input
  input-gives d k v s c = read-gives S d.reads v.wire (define (d.inputs + k) v s) c

  -- ---- jumps: their states

  jump_set-gives : (j : Jump) (t : ℕ) (source rest : Jump) (s : Sketch) → C (jump_set j t source rest s) → Three j.state t source.state rest.state
  jump_set-gives j t source rest s c =
      let one = set j.state (wire.If t source.state rest.state) s in
      set-gives S j.state (wire.If t source.state rest.state) s (before-set j.restart (wire.If t source.restart rest.restart) one c)

  pub jump_add-gives : (j : Jump) (p : Shape) (t : ℕ) (source : Jump) (s : Sketch) → C (jump_add j p t source s).1 → Three j.state t source.state (jump_add j p t source s).0.state
  unfolding jump_add
  jump_add-gives j p t source s c = let rest = jump_hole p s in jump_set-gives j t source rest.0 rest.1 c

  pub transition-gives : (numbers : Numbers) (p : Shape) (j : Jump) (t : ℕ) (q : Trans) (s : Sketch) → C (transition numbers p j t q s).1 → (S t → S j.state) × (S (transition numbers p j t q s).0.state → S j.state)
  unfolding transition
  transition-gives numbers p j t q s c =
      let target = jump_to p (or_none (numbers q.target)) (restarts q) s in
      let k = jump_add-gives j p t target.0 target.1 c in
      (k.0, k.2)
