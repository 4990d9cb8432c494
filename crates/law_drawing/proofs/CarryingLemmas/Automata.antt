-- Automata: two registers around what is drawn of its states, the numbers of states, and entering and leaving one of them.
use Rattle.std.proofs.Common.{◌≡◌, ℕ, suc, ◌+◌, nat_eq, Bool, true, false, ◌&&◌, ◌||◌, if◌then◌else◌, List, [], ◌∷◌, length, Option, Some, refl, sym, ap, subst, ◌∙◌, arith}
use Rattle.std.specs.Str.{bytes_eq}
use Rattle.std.proofs.lemmas.Bool.{eqb-true}
use Rattle.hp_tree.specs.Blocks.{States, no_state, more_states}
use Rattle.hp_tree.specs.Instant.{Next, Pending, Instant, Place as TreePlace}
use Rattle.hp_tree.specs.Meaning as meaning
use Rattle.hp_tree.specs.Meaning.{Names, number_of}
use Rattle.hp_tree.specs.Programs.{TypeDecl}
use Rattle.hp_meaning.specs.Causal.Points.{Placed}
use Rattle.hp_meaning.specs.Contract.Memory.{number_in}
use Rattle.hp_meaning.specs.Contract.Slots as slots
use Rattle.hp_meaning.specs.Contract.Slots.{register}
use Rattle.hp_circuit.specs.declared.circuit.Role.{Role}
use Rattle.hp_circuit.specs.declared.circuit.Role.TheVariants as role
use Rattle.hp_circuit.specs.declared.circuit.Shape.TheVariants.{Truth, Cons}
use Rattle.hp_circuit.specs.declared.circuit.Slot.{Slot}
use Rattle.hp_circuit.specs.declared.circuit.Wire.TheVariants as wire
use Rattle.hp_circuit.specs.Meaning.{truth}
use Rattle.hp_drawing.specs.declared.parts.Entered.{Entered}
use Rattle.hp_drawing.specs.declared.parts.Jump.{Jump}
use Rattle.hp_drawing.specs.declared.parts.Lines.{Lines}
use Rattle.hp_drawing.specs.declared.parts.Place.{Place}
use Rattle.hp_drawing.specs.declared.parts.Rests.{Rests}
use Rattle.hp_drawing.specs.Kept.{is_mark}
use Rattle.hp_drawing.specs.Told.{or_none, none_of, put_at}
use Rattle.hp_drawing.specs.Sketch.{Sketch, low, base, is_gate}
use Rattle.hp_drawing.specs.Places.{within, reset_by, new_register, takes, jump_hole, jump_to, jump_add, jump_end, new_lines, lines_take, lines_end, put_numbers, numbers_of}
use Rattle.hp_drawing.specs.DrawnBlocks.{enter_state, leave_state}
use Rattle.hp_drawing.specs.Scopes.{Scope}
use Rattle.law_drawing.specs.Carrying.Solving.{Has}
use Rattle.law_drawing.specs.Carrying.Drawing.{Takes, IsSolved, IsDrawn, IsPlace, IsReady, IsStored}
use Rattle.law_drawing.specs.Carrying.Drawable.{is_state, StatesApart}
use Rattle.law_drawing.proofs.CarryingLemmas.Steps.{stays, both, gate}
use Rattle.law_drawing.proofs.CarryingLemmas.Registers.{IsPending, begins, follows, with-end, closed, open-length, IsRegister, register-more, place-more, register-opened, register-takes}
use Rattle.law_drawing.proofs.CarryingLemmas.Stored.{take-number}
use Rattle.law_drawing.proofs.CarryingLemmas.Parts.{pending-ready}
use Rattle.law_drawing.proofs.CarryingLemmas.Layers.{same-name}
use Rattle.law_drawing.proofs.CarryingLemmas.Enter.{true_or_not}
use Rattle.law_drawing.proofs.CarryingLemmas.Places.{within-drawn, reset-drawn, GoesTo, goes-more, jump-opened, jump-added, jump-ended, jump-made}

pub nat-turned : (a b : ℕ) → nat_eq a b ≡ nat_eq b a
nat-turned a b = true_or_not (nat_eq a b) (λ p. one a b (eqb-true a b p)) (λ p. true_or_not (nat_eq b a) (λ q. sym (one b a (eqb-true b a q))) (λ q. p ∙ sym q))
  where
    one : (a b : ℕ) → a ≡ b → nat_eq a b ≡ nat_eq b a
    one a b e = ap (λ x. nat_eq x b) e ∙ ap (nat_eq b) (sym e)

-- ---- the numbers of states

no-number : (ss : States) (k : ℕ) (x : List ℕ) → is_state ss x ≡ false → number_of k ss x ≡ 0
no-number no_state k x f = refl
no-number (more_states g b until unless s ss) k x f = by (bytes_eq g x) f (no-number ss (suc k) x)
  where
    by : (d : Bool) → d || is_state ss x ≡ false → (is_state ss x ≡ false → number_of (suc k) ss x ≡ 0) → (if d then k else number_of (suc k) ss x) ≡ 0
    by true f h = absurd cc
    by false f h = h f

numbers-put : (ss : States) (i k : ℕ) (before : List ℕ → Option ℕ) (x : List ℕ) → i ≡ k → StatesApart ss → or_none (put_numbers i ss before x) ≡ (if is_state ss x then number_of k ss x else or_none (before x))
numbers-put no_state i k before x e a = refl
numbers-put (more_states f b until unless s ss) i k before x e a = numbers-put ss (i + 1) (suc k) (put_at before f i) x (let q : i + 1 ≡ suc i = omega arith in q ∙ ap suc e) a.1 ∙ by (bytes_eq f x) refl
  where
    absent : bytes_eq f x ≡ true → is_state ss x ≡ false
    absent p = ap (is_state ss) (sym (same-name f x p)) ∙ a.0

    by : (d : Bool) → bytes_eq f x ≡ d → (if is_state ss x then number_of (suc k) ss x else or_none (if d then Some i else before x)) ≡ (if d || is_state ss x then (if d then k else number_of (suc k) ss x) else or_none (before x))
    by true p = ap (λ c. if c then number_of (suc k) ss x else i) (absent p) ∙ e
    by false p = refl

pub numbers-are : (ss : States) (x : List ℕ) → StatesApart ss → or_none (numbers_of ss x) ≡ number_of 0 ss x
numbers-are ss x a = numbers-put ss 0 0 none_of x refl a ∙ true_or_not (is_state ss x) (λ p. ap (λ c. if c then number_of 0 ss x else 0) p) (λ p. ap (λ c. if c then number_of 0 ss x else 0) p ∙ sym (no-number ss 0 x p))

-- ---- the words of an automaton

pub lines-shape : (count : ℕ) (place : Place) (d : Sketch) → is_mark (new_lines count place d).0.shape ≡ false
unfolding new_lines
lines-shape count place d = refl

module _ (slot : ℕ → ℕ) (next : Instant) (supposes owes : Placed → Bool) where
  -- its registers are laid down, and where it goes is not said yet
  pub record AreOpen (d : Sketch) (ns : List ℕ) (cut kept : Bool) (active after : meaning.Jump) (lines : Lines) (jump : Jump) (d1 : Sketch) : Type 0 where
    pub numbers : List ℕ
    pub first : Slot
    pub second : Slot
    pub first_role : (old : ℕ) × (first.role ≡ role.Register 0 old)
    pub second_role : (old : ℕ) × (second.role ≡ role.Register 0 old)
    pub pending : IsPending slot next supposes owes d ns (first ∷ (second ∷ [])) [] [] d1 numbers
    pub next_is : IsRegister slot next supposes owes numbers lines.next (length d.slots + 0) cut kept 0 (slot (length d.slots))
    pub pending_is : IsRegister slot next supposes owes numbers lines.pending (length d.slots + 1) cut kept 0 (slot (suc (length d.slots)))
    pub selected_is : Has numbers lines.selected.state (if cut then 0 else slot (length d.slots)) × Has numbers lines.selected.restart (if cut then 0 else slot (suc (length d.slots)))
    pub active_is : GoesTo slot next supposes owes numbers lines.active active
    pub jump_is : GoesTo slot next supposes owes numbers jump after

  pub lines-opened : (count : ℕ) (place : Place) (here cut kept : Bool) (active after : meaning.Jump) (d : Sketch) (ns : List ℕ) → IsSolved slot d ns → IsPlace ns place here cut kept
      → AreOpen d ns cut kept active after (new_lines count place d).0 (jump_hole (new_lines count place d).0.shape (new_lines count place d).1).0 (jump_hole (new_lines count place d).0.shape (new_lines count place d).1).1
  unfolding new_lines
  lines-opened count place here cut kept active after d ns g h =
      let r0 = new_register place 0 (Cons count) d in
      let r1 = new_register place 0 Truth r0.1 in
      let act = jump_hole (Cons count) r1.1 in
      let nx = jump_hole (Cons count) act.1 in
      let a = register-opened slot next supposes owes d ns [] d ns place here cut kept 0 (Cons count) (begins slot next supposes owes d ns g) h in
      let len : length r0.1.slots ≡ suc (length d.slots) = open-length slot next supposes owes d ns (a.1 ∷ []) r0.1 a.0 a.3 ∙ (omega arith) in
      let b = register-opened slot next supposes owes d ns (a.1 ∷ []) r0.1 a.0 place here cut kept 0 Truth a.3 (place-more slot next supposes owes ns a.0 place here cut kept a.5 h) in
      let c = jump-opened slot next supposes owes (Cons count) refl active r1.1 b.0 b.3.solved in
      let more-c : (w k : ℕ) → Has b.0 w k → Has c.0 w k = stays slot next supposes owes r1.1 b.0 [] [] act.1 c.0 c.1 in
      let e = jump-opened slot next supposes owes (Cons count) refl after act.1 c.0 c.1.solved in
      let more-e : (w k : ℕ) → Has c.0 w k → Has e.0 w k = stays slot next supposes owes act.1 c.0 [] [] nx.1 e.0 e.1 in
      let more : (w k : ℕ) → Has b.0 w k → Has e.0 w k = λ w k q. more-e w k (more-c w k q) in
      let p1 = with-end slot next supposes owes d ns (a.1 ∷ (b.1 ∷ [])) [] [] r1.1 b.0 act.1 c.0 b.3 c.1 in
      let p2 = with-end slot next supposes owes d ns (a.1 ∷ (b.1 ∷ [])) [] [] act.1 c.0 nx.1 e.0 p1 e.1 in
      let n0 = register-more slot next supposes owes a.0 e.0 r0.0 (length d.slots + 0) cut kept 0 (slot (length d.slots)) (λ w k q. more w k (b.5 w k q)) a.4 in
      let n1 = register-more slot next supposes owes b.0 e.0 r1.0 (length d.slots + 1) cut kept 0 (slot (length r0.1.slots)) more b.4 in
      let m1 = subst (λ v. IsRegister slot next supposes owes e.0 r1.0 (length d.slots + 1) cut kept 0 (slot v)) len n1 in
      record {
        numbers = e.0;
        first = a.1;
        second = b.1;
        first_role = a.2;
        second_role = b.2;
        pending = p2;
        next_is = n0;
        pending_is = m1;
        selected_is = (n0.read_is, m1.read_is);
        active_is = goes-more slot next supposes owes c.0 e.0 act.0 active more-e c.2;
        jump_is = e.2;
      }

  takes-more : (ns ns' : List ℕ) (k : ℕ) (o : Slot) → ((w i : ℕ) → Has ns w i → Has ns' w i) → Takes ns k o.role → Takes ns' k o.role
  takes-more ns ns' k o more h = by o.role h
    where
      by : (r : Role) → Takes ns k r → Takes ns' k r
      by (role.Register first next) h = more next k h
      by role.Input h = h
      by role.Control h = h
      by (role.Free early) h = h

  -- Behind its states it is said where it goes, and what is remembered of it.
  pub lines-closed : (types : List TypeDecl) (names last : Names) (z : Scope) (w : TreePlace → TreePlace) (count : ℕ) (place : Place) (here cut kept : Bool) (begin memory stay after raw : Instant) (selected active behind : meaning.Jump) (lines : Lines) (jump : Jump) (rests : Rests)
      (ss : List slots.Slot) (cs : List Placed) (d : Sketch) (ns : List ℕ) (d1 d2 : Sketch) (ns2 : List ℕ) (o : AreOpen d ns cut kept active behind lines jump d1)
      → IsStored here cut kept begin memory stay after (λ p. raw (w p)) (λ p. next (w p)) → (here ≡ true → kept ≡ cut)
      → number_in (begin (Next ∷ [])) ≡ 0 → number_in (begin (Pending ∷ [])) ≡ 0 → slot (length d.slots) ≡ number_in (raw (w (Next ∷ []))) → slot (suc (length d.slots)) ≡ number_in (raw (w (Pending ∷ [])))
      → number_in (after (Next ∷ [])) ≡ behind.state → number_in (after (Pending ∷ [])) ≡ truth behind.restart
      → IsReady slot types names last z place [] here cut kept d ns → IsDrawn slot next supposes owes d1 o.numbers ss cs d2 ns2 → GoesTo slot next supposes owes ns2 lines.selected selected → GoesTo slot next supposes owes ns2 rests.strong selected → GoesTo slot next supposes owes ns2 rests.weak (record { state = 0; restart = false })
      → (ns' : List ℕ) × IsDrawn slot next supposes owes d ns (register (w (Next ∷ [])) (slots.cons 0 count) ∷ (register (w (Pending ∷ [])) slots.truth ∷ ss)) cs (lines_take lines place jump (lines_end lines rests d2)) ns' × ((v k : ℕ) → Has ns2 v k → Has ns' v k)
  unfolding lines_take lines_end
  lines-closed types names last z w count place here cut kept begin memory stay after raw selected active behind lines jump rests ss cs d ns d1 d2 ns2 o sto same b0 b1 h0 h1 a0 a1 r dr sel str weak =
      let os = o.first ∷ (o.second ∷ []) in
      let more2 : (v k : ℕ) → Has o.numbers v k → Has ns2 v k = stays slot next supposes owes d1 o.numbers ss cs d2 ns2 dr in
      let pend = follows slot next supposes owes d ns os [] [] d1 o.numbers ss cs d2 ns2 o.pending dr in
      let e1 = jump-ended slot next supposes owes rests.strong lines.selected selected d2 ns2 dr.solved str sel in
      let s1 = jump_end rests.strong lines.selected d2 in
      let m = jump-made slot next supposes owes lines.shape 0 low false s1 ns2 e1.solved e1.solved.low_is in
      let s2 = jump_to lines.shape 0 low s1 in
      let more3 : (v k : ℕ) → Has ns2 v k → Has m.0 v k = stays slot next supposes owes s1 ns2 [] [] s2.1 m.0 m.1 in
      let e2 = jump-ended slot next supposes owes rests.weak s2.0 (record { state = 0; restart = false }) s2.1 m.0 m.1.solved (goes-more slot next supposes owes ns2 m.0 rests.weak (record { state = 0; restart = false }) more3 weak) m.2 in
      let s3 = jump_end rests.weak s2.0 s2.1 in
      let p1 = with-end slot next supposes owes d ns os ss cs d2 ns2 s1 ns2 pend e1 in
      let p2 = with-end slot next supposes owes d ns os ss cs s1 ns2 s2.1 m.0 p1 m.1 in
      let p3 = with-end slot next supposes owes d ns os ss cs s2.1 m.0 s3 m.0 p2 e2 in
      let r3 = pending-ready slot next supposes owes types names last z place [] here cut kept d ns os ss cs s3 m.0 p3 r in
      let more : (v k : ℕ) → Has o.numbers v k → Has m.0 v k = λ v k q. more3 v k (more2 v k q) in
      let held0 = slot (length d.slots) in
      let held1 = slot (suc (length d.slots)) in
      let q0 = register-more slot next supposes owes o.numbers m.0 lines.next (length d.slots + 0) cut kept 0 held0 more o.next_is in
      let t = register-takes slot next supposes owes types names d ns [] o.first (o.second ∷ []) ss cs s3 m.0 place here cut kept [] lines.next 0 held0 o.first_role.0 jump.state behind.state p3 r3.place_is r3.clock_is q0 o.first_role.1 (more jump.state behind.state o.jump_is.0) in
      let s4 = takes lines.next place jump.state s3 in
      let r4 = pending-ready slot next supposes owes types names last z place [] here cut kept d ns (t.1 ∷ (o.second ∷ [])) ss cs s4 t.0 t.2 r in
      let more4 : (v k : ℕ) → Has o.numbers v k → Has t.0 v k = λ v k q. t.4 v k (more v k q) in
      let q1 = register-more slot next supposes owes o.numbers t.0 lines.pending (length d.slots + 1) cut kept 0 held1 more4 o.pending_is in
      let u = register-takes slot next supposes owes types names d ns (t.1 ∷ []) o.second [] ss cs s4 t.0 place here cut kept [] lines.pending 0 held1 o.second_role.0 jump.restart (truth behind.restart) t.2 r4.place_is r4.clock_is q1 o.second_role.1 (more4 jump.restart (truth behind.restart) o.jump_is.1) in
      let n0 = take-number here cut kept true begin memory stay after (λ p. raw (w p)) (λ p. next (w p)) (Next ∷ []) 0 held0 behind.state sto same (sym b0) h0 a0 in
      let n1 = take-number here cut kept true begin memory stay after (λ p. raw (w p)) (λ p. next (w p)) (Pending ∷ []) 0 held1 (truth behind.restart) sto same (sym b1) h1 a1 in
      let k0 : Takes u.0 (number_in (next (w (Next ∷ [])))) t.1.role = takes-more t.0 u.0 (number_in (next (w (Next ∷ [])))) t.1 u.4 (subst (λ n. Takes t.0 n t.1.role) n0 t.3) in
      let k1 : Takes u.0 (number_in (next (w (Pending ∷ [])))) u.1.role = subst (λ n. Takes u.0 n u.1.role) n1 u.3 in (
        u.0,
        closed slot next supposes owes d ns (t.1 ∷ (u.1 ∷ [])) (register (w (Next ∷ [])) (slots.cons 0 count) ∷ (register (w (Pending ∷ [])) slots.truth ∷ [])) ss cs (takes lines.pending place jump.restart s4) u.0 u.2 (k0, (k1, refl)),
        λ v k q. u.4 v k (t.4 v k (more3 v k q)),
      )

  -- ---- a state

  pub record IsEntered (d : Sketch) (ns : List ℕ) (here cut kept taken fresh : Bool) (r : Entered × Sketch) : Type 0 where
    pub numbers : List ℕ
    pub drawn_is : IsDrawn slot next supposes owes d ns [] [] r.1 numbers
    pub taken_is : Has numbers r.0.taken (truth taken)
    pub place_is : IsPlace numbers r.0.place (here && taken) cut kept
    pub place_base : r.0.place.clock ≡ base
    pub body_is : IsPlace numbers r.0.body (here && taken) (cut || fresh) (if here && taken then cut || fresh else kept)
    pub body_base : r.0.body.clock ≡ base

  pub state-entered : (lines : Lines) (place : Place) (k : ℕ) (here cut kept : Bool) (active : meaning.Jump) (d : Sketch) (ns : List ℕ) → IsSolved slot d ns → IsPlace ns place here cut kept → GoesTo slot next supposes owes ns lines.active active
      → IsEntered d ns here cut kept (nat_eq k active.state) active.restart (enter_state lines place k d)
  unfolding enter_state is_gate
  state-entered lines place k here cut kept active d ns g h a =
      let taken = nat_eq k active.state in
      let t = is_gate lines.active.state k d in
      let x = gate slot next supposes owes (wire.Is lines.active.state k) Truth d ns (truth taken) g (active.state, a.0, ap truth (nat-turned k active.state)) in
      let more : (w n : ℕ) → Has ns w n → Has x.0 w n = stays slot next supposes owes d ns [] [] t.1 x.0 x.1 in
      let i = within place t.0 t.1 in
      let y = within-drawn slot next supposes owes place t.0 here cut kept taken t.1 x.0 x.1.solved (place-more slot next supposes owes ns x.0 place here cut kept more h) x.2 in
      let more-y : (w n : ℕ) → Has x.0 w n → Has y.0 w n = stays slot next supposes owes t.1 x.0 [] [] i.1 y.0 y.1 in
      let b = reset_by i.0 lines.active.restart i.1 in
      let v = reset-drawn slot next supposes owes i.0 lines.active.restart (here && taken) cut kept active.restart i.1 y.0 y.1.solved y.2 (more-y lines.active.restart (truth active.restart) (more lines.active.restart (truth active.restart) a.1)) in
      let more-v : (w n : ℕ) → Has y.0 w n → Has v.0 w n = stays slot next supposes owes i.1 y.0 [] [] b.1 v.0 v.1 in
      record {
        numbers = v.0;
        drawn_is = both slot next supposes owes d ns [] [] t.1 x.0 [] [] b.1 v.0 x.1 (both slot next supposes owes t.1 x.0 [] [] i.1 y.0 [] [] b.1 v.0 y.1 v.1);
        taken_is = more-v t.0 (truth taken) (more-y t.0 (truth taken) x.2);
        place_is = place-more slot next supposes owes y.0 v.0 i.0 (here && taken) cut kept more-v y.2;
        place_base = y.3;
        body_is = v.2;
        body_base = v.3;
      }

  -- its jumps are added to those of the automaton
  pub state-left : (lines : Lines) → is_mark lines.shape ≡ false → (k taken : ℕ) (strong weak : Jump) (rests : Rests) (b : Bool) (selected u u' v v' : meaning.Jump) (d : Sketch) (ns : List ℕ) → IsSolved slot d ns → GoesTo slot next supposes owes ns lines.selected selected → Has ns taken (truth b)
      → GoesTo slot next supposes owes ns strong u → GoesTo slot next supposes owes ns weak v → GoesTo slot next supposes owes ns rests.strong (if nat_eq k selected.state then u else u') → GoesTo slot next supposes owes ns rests.weak (if b then v else v')
      → (ns' : List ℕ) × IsDrawn slot next supposes owes d ns [] [] (leave_state lines k taken strong weak rests d).1 ns' × GoesTo slot next supposes owes ns' (leave_state lines k taken strong weak rests d).0.strong u' × GoesTo slot next supposes owes ns' (leave_state lines k taken strong weak rests d).0.weak v'
  unfolding leave_state is_gate
  state-left lines shaped k taken strong weak rests b selected u u' v v' d ns g sel tk st wk rs rw =
      let c = nat_eq k selected.state in
      let s = is_gate lines.selected.state k d in
      let x = gate slot next supposes owes (wire.Is lines.selected.state k) Truth d ns (truth c) g (selected.state, sel.0, ap truth (nat-turned k selected.state)) in
      let more : (w n : ℕ) → Has ns w n → Has x.0 w n = stays slot next supposes owes d ns [] [] s.1 x.0 x.1 in
      let m = jump_add rests.strong lines.shape s.0 strong s.1 in
      let y = jump-added slot next supposes owes rests.strong lines.shape shaped s.0 strong c u u' s.1 x.0 x.1.solved (goes-more slot next supposes owes ns x.0 rests.strong (if c then u else u') more rs) x.2 (goes-more slot next supposes owes ns x.0 strong u more st) in
      let more-y : (w n : ℕ) → Has x.0 w n → Has y.0 w n = stays slot next supposes owes s.1 x.0 [] [] m.1 y.0 y.1 in
      let all : (w n : ℕ) → Has ns w n → Has y.0 w n = λ w n q. more-y w n (more w n q) in
      let l = jump_add rests.weak lines.shape taken weak m.1 in
      let z = jump-added slot next supposes owes rests.weak lines.shape shaped taken weak b v v' m.1 y.0 y.1.solved (goes-more slot next supposes owes ns y.0 rests.weak (if b then v else v') all rw) (all taken (truth b) tk) (goes-more slot next supposes owes ns y.0 weak v all wk) in
      let more-z : (w n : ℕ) → Has y.0 w n → Has z.0 w n = stays slot next supposes owes m.1 y.0 [] [] l.1 z.0 z.1 in (
        z.0,
        both slot next supposes owes d ns [] [] s.1 x.0 [] [] l.1 z.0 x.1 (both slot next supposes owes s.1 x.0 [] [] m.1 y.0 [] [] l.1 z.0 y.1 z.1),
        goes-more slot next supposes owes y.0 z.0 m.0 u' more-z y.2,
        z.2,
      )
