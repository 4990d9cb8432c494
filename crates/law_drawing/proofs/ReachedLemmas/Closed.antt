-- Sets of wires that have each wire that reads one of them. Steps of drawing lose nothing that is read, so such a set of what is drawn behind is one of what is there before.
use Rattle.std.proofs.Common.{◌≡◌, ℕ, zero, suc, ◌+◌, nat_eq, Bool, true, false, if◌then◌else◌, List, [], ◌∷◌, ◌++◌, length, Option, None, Some, refl, sym, ap, subst, ◌∙◌, inl, inr, arith}
use Rattle.std.specs.Prelude.{⊤, ◌⊎◌, slice_set}
use Rattle.std.specs.List.{slice_get}
use Rattle.std.proofs.lemmas.Option.{same_Some, none-some}
use Rattle.hp_circuit.specs.declared.circuit.Role.{Role}
use Rattle.hp_circuit.specs.declared.circuit.Role.TheVariants as role
use Rattle.hp_circuit.specs.declared.circuit.Shape.{Shape}
use Rattle.hp_circuit.specs.declared.circuit.Slot.{Slot}
use Rattle.hp_circuit.specs.declared.circuit.Wire.{Wire}
use Rattle.hp_circuit.specs.declared.circuit.Wire.TheVariants as wire
use Rattle.hp_drawing.specs.Sketch.{Sketch, write, read, read_all, is_open, set_over, push, set, slot, set_next, set_next_at, next_as, next_slot, add_clock, with_hyp, with_duty, with_assume}
use Rattle.law_drawing.specs.Steered.Marks.{Each}
use Rattle.law_drawing.proofs.EarlyLemmas.Running.{IsHeld, Running, TellingRuns}

-- ---- lists

get-front : {A : Type 0} (xs more : List A) (i : ℕ) (v : A) → slice_get xs i ≡ Some v → slice_get (xs ++ more) i ≡ Some v
get-front [] more i v h = absurd (none-some v h)
get-front (x ∷ xs) more zero v h = h
get-front (x ∷ xs) more (suc i) v h = get-front xs more i v h

get-last : {A : Type 0} (xs : List A) (v : A) → slice_get (xs ++ v ∷ []) (length xs) ≡ Some v
get-last [] v = refl
get-last (x ∷ xs) v = get-last xs v

get-set : {A : Type 0} (xs : List A) (i : ℕ) (old v : A) → slice_get xs i ≡ Some old → slice_get (slice_set xs i v) i ≡ Some v
get-set [] i old v h = absurd (none-some old h)
get-set (x ∷ xs) zero old v h = refl
get-set (x ∷ xs) (suc i) old v h = get-set xs i old v h

get-other : {A : Type 0} (xs : List A) (i j : ℕ) (v x : A) → slice_get xs j ≡ Some x → (j ≡ i) ⊎ (slice_get (slice_set xs i v) j ≡ Some x)
get-other [] i j v x h = absurd (none-some x h)
get-other (y ∷ xs) zero zero v x h = inl refl
get-other (y ∷ xs) zero (suc j) v x h = inr h
get-other (y ∷ xs) (suc i) zero v x h = inr h
get-other (y ∷ xs) (suc i) (suc j) v x h = elim (get-other xs i j v x h) [ inl e ↦ inl (ap suc e) | inr k ↦ inr k ]

each-front : {A : Type 0} (Q : A → Type 0) (xs : List A) (x : A) → Each Q (xs ++ x ∷ []) → Each Q xs × Q x
each-front Q [] x h = (tt, h.0)
each-front Q (y ∷ ys) x h = let k = each-front Q ys x h.1 in ((h.0, k.0), k.1)

same-number : (a b : ℕ) → nat_eq a b ≡ true → a ≡ b
same-number a b h = grind (arith)

module _ (S : ℕ → Type 0) where
  -- the set has a wire where it has one that gives it its value
  abbrev pub Gives : ℕ → Wire → Type 0
  Gives w (wire.Slot i) = ⊤
  Gives w (wire.Constant k) = ⊤
  Gives w (wire.Copy a) = S a → S w
  Gives w (wire.Not a) = S a → S w
  Gives w (wire.And a b) = (S a → S w) × (S b → S w)
  Gives w (wire.Or a b) = (S a → S w) × (S b → S w)
  Gives w (wire.Xor a b) = (S a → S w) × (S b → S w)
  Gives w (wire.Equal a b) = (S a → S w) × (S b → S w)
  Gives w (wire.Is a k) = S a → S w
  Gives w (wire.If t a b) = (S t → S w) × (S a → S w) × (S b → S w)

  abbrev pub GivesAll : List Wire → Type 0
  GivesAll ws = (w : ℕ) (g : Wire) → slice_get ws w ≡ Some g → Gives w g

  abbrev pub IsGiven : ℕ × ℕ → Type 0
  IsGiven r = S r.1 → S r.0

  pub record Closed (s : Sketch) : Type 0 where
    pub wires : GivesAll s.wires
    pub reads : Each IsGiven s.reads

  -- ---- what is read besides

  read-before : (w v : ℕ) (s : Sketch) → Closed (read w v s) → Closed s × (S v → S w)
  unfolding read
  read-before w v s c = let k = each-front IsGiven s.reads (w, v) c.reads in (record { wires = c.wires; reads = k.0 }, k.1)

  pub read-gives : (w v : ℕ) (s : Sketch) → Closed (read w v s) → S v → S w
  read-gives w v s c = (read-before w v s c).1

  two-before : (w a b : ℕ) (s : Sketch) → Closed (read w b (read w a s)) → Closed s × ((S a → S w) × (S b → S w))
  two-before w a b s c = let k = read-before w b (read w a s) c in let j = read-before w a s k.0 in (j.0, (j.1, k.1))

  all-before : (w : ℕ) (g : Wire) (s : Sketch) → Closed (read_all w g s) → Closed s × Gives w g
  unfolding read_all
  all-before w (wire.Slot i) s c = (c, tt)
  all-before w (wire.Constant k) s c = (c, tt)
  all-before w (wire.Copy a) s c = read-before w a s c
  all-before w (wire.Not a) s c = read-before w a s c
  all-before w (wire.And a b) s c = two-before w a b s c
  all-before w (wire.Or a b) s c = two-before w a b s c
  all-before w (wire.Xor a b) s c = two-before w a b s c
  all-before w (wire.Equal a b) s c = two-before w a b s c
  all-before w (wire.Is a k) s c = read-before w a s c
  all-before w (wire.If t a b) s c = let k = two-before w a b (read w t s) c in let j = read-before w t s k.0 in (j.0, (j.1, k.1.0, k.1.1))

  -- ---- a wire is written over

  open-gives : (w : ℕ) (old : Wire) → is_open w old ≡ true → Gives w old
  open-gives w (wire.Slot i) h = tt
  open-gives w (wire.Constant k) h = tt
  open-gives w (wire.Copy a) h = subst S (same-number a w h)
  open-gives w (wire.Not a) h = absurd cc
  open-gives w (wire.And a b) h = absurd cc
  open-gives w (wire.Or a b) h = absurd cc
  open-gives w (wire.Xor a b) h = absurd cc
  open-gives w (wire.Equal a b) h = absurd cc
  open-gives w (wire.Is a k) h = absurd cc
  open-gives w (wire.If t a b) h = absurd cc

  -- all other wires stay, and what is read besides
  write-before : (w : ℕ) (g old : Wire) (s : Sketch) → slice_get s.wires w ≡ Some old → Gives w old → GivesAll (write w g s).wires → GivesAll s.wires
  unfolding write
  write-before w g old s e h f v x k = elim (get-other s.wires w v g x k) [
    | inl same ↦ subst (λ i. Gives i x) (sym same) (subst (Gives w) (same_Some old x (sym e ∙ ap (slice_get s.wires) (sym same) ∙ k)) h)
    | inr there ↦ f v x there
  ]

  write-reads : (w : ℕ) (g : Wire) (s : Sketch) → Closed (write w g s) → Each IsGiven s.reads
  unfolding write
  write-reads w g s c = c.reads

  write-gives : (w : ℕ) (g old : Wire) (s : Sketch) → slice_get s.wires w ≡ Some old → Closed (write w g s) → Gives w g
  unfolding write
  write-gives w g old s e c = c.wires w g (get-set s.wires w old g e)

  same-wires : (w : ℕ) (g : Wire) (s : Sketch) → (read_all w g s).wires ≡ s.wires
  unfolding read_all read
  same-wires w (wire.Slot i) s = refl
  same-wires w (wire.Constant k) s = refl
  same-wires w (wire.Copy a) s = refl
  same-wires w (wire.Not a) s = refl
  same-wires w (wire.And a b) s = refl
  same-wires w (wire.Or a b) s = refl
  same-wires w (wire.Xor a b) s = refl
  same-wires w (wire.Equal a b) s = refl
  same-wires w (wire.Is a k) s = refl
  same-wires w (wire.If t a b) s = refl

  write-closed : (w : ℕ) (g old : Wire) (s : Sketch) → slice_get s.wires w ≡ Some old → Gives w old → Closed (write w g s) → Closed s
  unfolding write
  write-closed w g old s e h c = record { wires = write-before w g old s e h c.wires; reads = c.reads }

  emptied : (w : ℕ) (old : Wire) (s : Sketch) → Closed (record (read_all w old s) { wires = [] }) → Closed (read_all w old (record s { wires = [] }))
  unfolding read_all read
  emptied w (wire.Slot i) s c = c
  emptied w (wire.Constant k) s c = c
  emptied w (wire.Copy a) s c = c
  emptied w (wire.Not a) s c = c
  emptied w (wire.And a b) s c = c
  emptied w (wire.Or a b) s c = c
  emptied w (wire.Xor a b) s c = c
  emptied w (wire.Equal a b) s c = c
  emptied w (wire.Is a k) s c = c
  emptied w (wire.If t a b) s c = c

  over-before : (w : ℕ) (g : Wire) (o : Option Wire) (s : Sketch) → slice_get s.wires w ≡ o → Closed (set_over w g o s) → Closed s × Gives w g
  over-before w g None s e c = all-before w g s c
  over-before w g (Some old) s e c = by (is_open w old) refl c
    where
      by : (b : Bool) → is_open w old ≡ b → Closed (write w g (if b then s else read_all w old s)) → Closed s × Gives w g
      by true q c = (write-closed w g old s e (open-gives w old q) c, write-gives w g old s e c)
      by false q c =
          let s1 = read_all w old s in
          let e1 : slice_get s1.wires w ≡ Some old = ap (λ ws. slice_get ws w) (same-wires w old s) ∙ e in
          let reads_first : Closed (record s1 { wires = [] }) = record { wires = λ v x k. absurd (none-some x k); reads = write-reads w g s1 c } in
          let h = (all-before w old (record s { wires = [] }) (emptied w old s reads_first)).1 in
          ((all-before w old s (write-closed w g old s1 e1 h c)).0, write-gives w g old s1 e1 c)

  set-before : (w : ℕ) (g : Wire) (s : Sketch) → Closed (set w g s) → Closed s × Gives w g
  unfolding set
  set-before w g s c = over-before w g (slice_get s.wires w) s refl c

  pub set-gives : (w : ℕ) (g : Wire) (s : Sketch) → Closed (set w g s) → Gives w g
  set-gives w g s c = (set-before w g s c).1

  pub push-gives : (g : Wire) (p : Shape) (s : Sketch) → Closed (push g p s).1 → Gives (push g p s).0 g
  unfolding push
  push-gives g p s c = c.wires (length s.wires) g (get-last s.wires g)

  push-before : (g : Wire) (p : Shape) (s : Sketch) → Closed (push g p s).1 → Closed s
  unfolding push
  push-before g p s c = record { wires = λ w x h. c.wires w x (get-front s.wires (g ∷ []) w x h); reads = c.reads }

  -- ---- slots that may be early

  module _ (P : ℕ → ℕ → Type 0) where
    -- the wire of such a slot has a property, by the slot's number
    abbrev pub IsEarlyRight : ℕ → ℕ → Role → Type 0
    IsEarlyRight i w (role.Register first next) = ⊤
    IsEarlyRight i w role.Input = ⊤
    IsEarlyRight i w role.Control = ⊤
    IsEarlyRight i w (role.Free false) = ⊤
    IsEarlyRight i w (role.Free true) = P i w

    abbrev pub AreEarlyRight : ℕ → List Slot → Type 0
    AreEarlyRight i [] = ⊤
    AreEarlyRight i (c ∷ cs) = IsEarlyRight i c.wire c.role × AreEarlyRight (suc i) cs

    role-next : (i w : ℕ) (r : Role) (next : ℕ) → IsEarlyRight i w r → IsEarlyRight i w (next_as r next)
    role-next i w (role.Register first old) next h = tt
    role-next i w role.Input next h = tt
    role-next i w role.Control next h = tt
    role-next i w (role.Free false) next h = tt
    role-next i w (role.Free true) next h = h

    role-held : (i w : ℕ) (r : Role) → IsHeld r → IsEarlyRight i w r
    role-held i w (role.Register first next) h = tt
    role-held i w role.Input h = tt
    role-held i w role.Control h = tt
    role-held i w (role.Free early) h = absurd h

    slots-next : (i : ℕ) (cs : List Slot) (j next : ℕ) → AreEarlyRight i cs → AreEarlyRight i (set_next_at cs j next)
    slots-next i [] j next h = tt
    slots-next i (c ∷ cs) zero next h = (role-next i c.wire c.role next h.0, h.1)
    slots-next i (c ∷ cs) (suc j) next h = (h.0, slots-next (suc i) cs j next h.1)

    slots-more : (i : ℕ) (cs : List Slot) (c : Slot) → AreEarlyRight i cs → IsEarlyRight (length cs + i) c.wire c.role → AreEarlyRight i (cs ++ c ∷ [])
    slots-more i [] c h r = (subst (λ j. IsEarlyRight j c.wire c.role) (let e : 0 + i ≡ i = omega arith in e) r, tt)
    slots-more i (d ∷ cs) c h r = (h.0, slots-more (suc i) cs c h.1 (subst (λ j. IsEarlyRight j c.wire c.role) (let e : suc (length cs) + i ≡ length cs + suc i = omega arith in e) r))

    -- ---- a step

    pub record Runs (s s' : Sketch) : Type 0 where
      pub closed : Closed s' → Closed s
      pub slots : AreEarlyRight 0 s.slots → AreEarlyRight 0 s'.slots

    pub none-runs : (s : Sketch) → Runs s s
    none-runs s = record { closed = λ c. c; slots = λ h. h }

    pub both-run : (a b c : Sketch) → Runs a b → Runs b c → Runs a c
    both-run a b c g h = record { closed = λ k. g.closed (h.closed k); slots = λ k. h.slots (g.slots k) }

    push-runs : (g : Wire) (p : Shape) (s : Sketch) → Runs s (push g p s).1
    unfolding push
    push-runs g p s = record { closed = push-before g p s; slots = λ h. h }

    all-slots : (w : ℕ) (g : Wire) (s : Sketch) → (read_all w g s).slots ≡ s.slots
    unfolding read_all read
    all-slots w (wire.Slot i) s = refl
    all-slots w (wire.Constant k) s = refl
    all-slots w (wire.Copy a) s = refl
    all-slots w (wire.Not a) s = refl
    all-slots w (wire.And a b) s = refl
    all-slots w (wire.Or a b) s = refl
    all-slots w (wire.Xor a b) s = refl
    all-slots w (wire.Equal a b) s = refl
    all-slots w (wire.Is a k) s = refl
    all-slots w (wire.If t a b) s = refl

    over-slots : (w : ℕ) (g : Wire) (o : Option Wire) (s : Sketch) → (set_over w g o s).slots ≡ s.slots
    unfolding write
    over-slots w g None s = all-slots w g s
    over-slots w g (Some old) s = by (is_open w old)
      where
        by : (b : Bool) → (write w g (if b then s else read_all w old s)).slots ≡ s.slots
        by true = refl
        by false = all-slots w old s

    set-slots : (w : ℕ) (g : Wire) (s : Sketch) → (set w g s).slots ≡ s.slots
    unfolding set
    set-slots w g s = over-slots w g (slice_get s.wires w) s

    set-runs : (w : ℕ) (g : Wire) (s : Sketch) → Runs s (set w g s)
    set-runs w g s = record { closed = λ c. (set-before w g s c).0; slots = λ h. subst (AreEarlyRight 0) (sym (set-slots w g s)) h }

    pub read-runs : (w v : ℕ) (s : Sketch) → Runs s (read w v s)
    unfolding read
    read-runs w v s = record { closed = λ c. (read-before w v s c).0; slots = λ h. h }

    clock-runs : (h o : ℕ) (s : Sketch) → Runs s (add_clock h o s).1
    unfolding add_clock
    clock-runs h o s = record { closed = λ c. record { wires = c.wires; reads = c.reads }; slots = λ h. h }

    hyp-runs : (w : ℕ) (s : Sketch) → Runs s (with_hyp w s)
    unfolding with_hyp
    hyp-runs w s = record { closed = λ c. record { wires = c.wires; reads = c.reads }; slots = λ h. h }

    duty-runs : (w : ℕ) (s : Sketch) → Runs s (with_duty w s)
    unfolding with_duty
    duty-runs w s = record { closed = λ c. record { wires = c.wires; reads = c.reads }; slots = λ h. h }

    assume-runs : (w : ℕ) (s : Sketch) → Runs s (with_assume w s)
    unfolding with_assume
    assume-runs w s = record { closed = λ c. record { wires = c.wires; reads = c.reads }; slots = λ h. h }

    next-runs : (i next : ℕ) (s : Sketch) → Runs s (set_next i next s)
    unfolding set_next
    next-runs i next s = record { closed = λ c. record { wires = c.wires; reads = c.reads }; slots = λ h. slots-next 0 s.slots i next h }

    -- a slot more, where its wire is right
    pub slot-runs : (r : Role) (p : Shape) (s : Sketch) → IsEarlyRight (next_slot s) (slot r p s).0 r → Runs s (slot r p s).1
    unfolding slot push next_slot
    slot-runs r p s f = record {
      closed = λ c. record { wires = λ w x h. c.wires w x (get-front s.wires (wire.Slot (length s.slots) ∷ []) w x h); reads = c.reads };
      slots = λ h. slots-more 0 s.slots (record { role = r; shape = p; wire = length s.wires }) h (subst (λ j. IsEarlyRight j (length s.wires) r) (let e : length s.slots ≡ length s.slots + 0 = omega arith in e) f);
    }

    pub running : Running Runs
    running = record {
      none_runs = none-runs;
      both_run = both-run;
      push_runs = push-runs;
      set_runs = set-runs;
      read_runs = read-runs;
      clock_runs = clock-runs;
      next_runs = next-runs;
      slot_runs = λ r p s h. slot-runs r p s (role-held (next_slot s) (slot r p s).0 r h);
    }

    pub running-told : TellingRuns Runs
    running-told = record { hyp_runs = hyp-runs; duty_runs = duty-runs; assume_runs = assume-runs }
