-- Drawing part by part: one part behind another, and registers around a part.
use Rattle.std.proofs.Common.{◌≡◌, ℕ, suc, ◌+◌, Bool, true, false, ◌&&◌, if◌then◌else◌, List, [], ◌∷◌, ◌++◌, length, refl, sym, ap, subst, ◌∙◌, arith}
use Rattle.hp_tree.specs.Instant.{Instant, Clock, holds, Place as TreePlace}
use Rattle.hp_tree.specs.Meaning.{Names}
use Rattle.hp_tree.specs.Programs.{TypeDecl}
use Rattle.hp_meaning.specs.Causal.Points.{Placed}
use Rattle.hp_meaning.specs.Contract.Memory.{number_in}
use Rattle.hp_meaning.specs.Contract.Slots as slots
use Rattle.hp_meaning.specs.Contract.Slots.{register, free, is_int}
use Rattle.hp_base.specs.declared.ty.Ty.{Ty}
use Rattle.hp_circuit.specs.declared.circuit.Role.{Role}
use Rattle.hp_circuit.specs.declared.circuit.Role.TheVariants as role
use Rattle.hp_circuit.specs.declared.circuit.Shape.{Shape}
use Rattle.hp_circuit.specs.declared.circuit.Slot.{Slot}
use Rattle.hp_drawing.specs.declared.parts.Place.{Place}
use Rattle.hp_drawing.specs.declared.parts.Register.{Register}
use Rattle.hp_drawing.specs.declared.parts.Value.{Value as Carried}
use Rattle.hp_drawing.specs.Kept.{is_mark}
use Rattle.hp_drawing.specs.Scopes.{Scope}
use Rattle.hp_drawing.specs.Sketch.{Sketch, slot as slot_step}
use Rattle.hp_drawing.specs.Places.{new_register, takes}
use Rattle.law_drawing.specs.Carrying.Solving.{Has}
use Rattle.law_drawing.specs.Carrying.Drawing.{AreHeld, AreLaid, Takes, IsDrawn, IsReady}
use Rattle.law_drawing.proofs.CarryingLemmas.Slots.{held-first}
use Rattle.law_drawing.proofs.CarryingLemmas.Steps.{stays, both, ended}
use Rattle.law_drawing.proofs.CarryingLemmas.Registers.{begins, follows, closed, open-length, IsRegister, register-more, register-opened, register-takes}
use Rattle.law_drawing.proofs.CarryingLemmas.Stored.{ready-more, free-drawn, held-mark, held-register, as-mark, lay-register}
use Rattle.law_drawing.proofs.CarryingLemmas.Parts.{held-behind, pending-ready}

module _ (slot : ℕ → ℕ) (raw next given : Instant) (supposes owes : Placed → Bool) (types : List TypeDecl) (names last : Names) (z : Scope) (place : Place) (clock : Clock) (here cut kept : Bool) where
  abbrev Ready : Sketch → List ℕ → Type 0
  Ready d ns = IsReady slot types names last z place clock here cut kept d ns

  -- more numbers
  abbrev pub AreMore : List ℕ → List ℕ → Type 0
  AreMore ns ns' = (w k : ℕ) → Has ns w k → Has ns' w k

  -- Wherever a part is drawn, its slots are laid down, and of its result this holds.
  abbrev pub Part : List slots.Slot → List Placed → (A : Type 0) → (A → List ℕ → Type 0) → (Sketch → A × Sketch) → Type 0
  Part ss cs A R f = (d : Sketch) (ns : List ℕ) → Ready d ns → AreHeld slot raw given ss (length d.slots) → (ns' : List ℕ) × IsDrawn slot next supposes owes d ns ss cs (f d).1 ns' × R (f d).0 ns'

  -- What holds of a result holds where there are more numbers.
  abbrev pub Lasting : (A : Type 0) → (A → List ℕ → Type 0) → Type 0
  Lasting A R = (a : A) (ns ns' : List ℕ) → AreMore ns ns' → R a ns → R a ns'

  abbrev pub Carries : ℕ → Bool → Carried → List ℕ → Type 0
  Carries k int v ns = Has ns v.wire k × (is_mark v.shape ≡ int)

  pub carries-lasting : (k : ℕ) (int : Bool) → Lasting Carried (Carries k int)
  carries-lasting k int v ns ns' more h = (more v.wire k h.0, h.1)

  -- what is made of a result
  pub made-of : (ss : List slots.Slot) (cs : List Placed) (A B : Type 0) (R : A → List ℕ → Type 0) (Q : B → List ℕ → Type 0) (f : Sketch → A × Sketch) (g : A → Sketch → B × Sketch) → Part ss cs A R f
      → ((a : A) (d : Sketch) (ns : List ℕ) → Ready d ns → R a ns → (ns' : List ℕ) × IsDrawn slot next supposes owes d ns [] [] (g a d).1 ns' × Q (g a d).0 ns') → Part ss cs B Q (λ d. g (f d).0 (f d).1)
  made-of ss cs A B R Q f g p step d ns r h =
      let a = p d ns r h in
      let b = step (f d).0 (f d).1 a.0 (ready-more slot next supposes owes types names last z place clock here cut kept d ns ss cs (f d).1 a.0 a.1 r) a.2 in
      (b.0, ended slot next supposes owes d ns ss cs (f d).1 a.0 (g (f d).0 (f d).1).1 b.0 a.1 b.1, b.2)

  -- one part behind another
  pub pair : (ss ts : List slots.Slot) (cs ds : List Placed) (A B : Type 0) (R : A → List ℕ → Type 0) (Q : B → List ℕ → Type 0) (f : Sketch → A × Sketch) (g : Sketch → B × Sketch) → Part ss cs A R f → Part ts ds B Q g → Lasting A R
      → Part (ss ++ ts) (cs ++ ds) (A × B) (λ ab ns. R ab.0 ns × Q ab.1 ns) (λ d. (((f d).0, (g (f d).1).0), (g (f d).1).1))
  pair ss ts cs ds A B R Q f g p q l d ns r h =
      let a = p d ns r (held-first slot raw given ss ts (length d.slots) h) in
      let b = q (f d).1 a.0 (ready-more slot next supposes owes types names last z place clock here cut kept d ns ss cs (f d).1 a.0 a.1 r) (held-behind slot next supposes owes raw given d ns ss cs (f d).1 a.0 ts a.1 h) in (
        b.0,
        both slot next supposes owes d ns ss cs (f d).1 a.0 ts ds (g (f d).1).1 b.0 a.1 b.1,
        (l (f d).0 a.0 b.0 (stays slot next supposes owes (f d).1 a.0 ts ds (g (f d).1).1 b.0 b.1) a.2, b.2),
      )

  pub pair-lasting : (A B : Type 0) (R : A → List ℕ → Type 0) (Q : B → List ℕ → Type 0) → Lasting A R → Lasting B Q → Lasting (A × B) (λ ab ns. R ab.0 ns × Q ab.1 ns)
  pair-lasting A B R Q l m ab ns ns' more h = (l ab.0 ns ns' more h.0, m ab.1 ns ns' more h.1)

  -- ---- registers around a part

  -- A register is laid down at a place: among slots it is one that takes what the next memory has there.
  pub record IsLaidAt (p : TreePlace) (q : slots.Shape) : Type 0 where
    pub lay : (ns : List ℕ) (ss : List slots.Slot) (o : Slot) (os : List Slot) → Takes ns (number_in (next p)) o.role → AreLaid ns next ss os → AreLaid ns next (register p q ∷ ss) (o ∷ os)
    pub hold : (ss : List slots.Slot) (n : ℕ) → AreHeld slot raw given (register p q ∷ ss) n → (slot n ≡ number_in (raw p)) × AreHeld slot raw given ss (suc n)

  -- what a register takes and keeps is what memory holds next
  abbrev pub TakesNext : TreePlace → ℕ → ℕ → Type 0
  TakesNext p first i = (if here && holds types clock names then i else (if kept then first else number_in (raw p))) ≡ number_in (next p)

  pub taken : (ns : List ℕ) (p : TreePlace) (first i held : ℕ) (o : Slot) → held ≡ number_in (raw p) → TakesNext p first i → Takes ns (if here && holds types clock names then i else (if kept then first else held)) o.role → Takes ns (number_in (next p)) o.role
  taken ns p first i held o e t h = subst (λ n. Takes ns n o.role) (ap (λ v. if here && holds types clock names then i else (if kept then first else v)) e ∙ t) h

  pub read-as : (ns : List ℕ) (r : Register) (p : TreePlace) (number first held : ℕ) → held ≡ number_in (raw p) → IsRegister slot next supposes owes ns r number cut kept first held → Has ns r.read (if cut then first else number_in (raw p))
  read-as ns r p number first held e h = subst (λ v. Has ns r.read (if cut then first else v)) e h.read_is

  pub one-register : (ss : List slots.Slot) (cs : List Placed) (A : Type 0) (R : A → List ℕ → Type 0) (f : Sketch → A × Sketch) (p : TreePlace) (q : slots.Shape) (first : ℕ) (shape : Shape) (i : ℕ) (wire_of : A → ℕ)
      → Part ss cs A R f → Lasting A R → IsLaidAt p q → TakesNext p first i → ((a : A) (d : Sketch) (ns : List ℕ) → Ready d ns → R a ns → Has ns (wire_of a) i)
      → Part (register p q ∷ ss) cs (Register × A) (λ ra ns. R ra.1 ns × Has ns ra.0.read (if cut then first else number_in (raw p)))
      (λ d. (((new_register place first shape d).0, (f (new_register place first shape d).1).0), takes (new_register place first shape d).0 place (wire_of (f (new_register place first shape d).1).0) (f (new_register place first shape d).1).1))
  one-register ss cs A R f p q first shape i wire_of part lasts at e has d ns r h =
      let reg = new_register place first shape d in
      let hr = at.hold ss (length d.slots) h in
      let held = slot (length d.slots) in
      let a = register-opened slot next supposes owes d ns [] d ns place here cut kept first shape (begins slot next supposes owes d ns r.solved) r.place_is in
      let o = a.1 in
      let rr = pending-ready slot next supposes owes types names last z place clock here cut kept d ns (o ∷ []) [] [] reg.1 a.0 a.3 r in
      let len : length reg.1.slots ≡ suc (length d.slots) = open-length slot next supposes owes d ns (o ∷ []) reg.1 a.0 a.3 ∙ (omega arith) in
      let x = part reg.1 a.0 rr (subst (λ n. AreHeld slot raw given ss n) (sym len) hr.1) in
      let s1 = (f reg.1).1 in
      let more-x : AreMore a.0 x.0 = stays slot next supposes owes reg.1 a.0 ss cs s1 x.0 x.1 in
      let pend = follows slot next supposes owes d ns (o ∷ []) [] [] reg.1 a.0 ss cs s1 x.0 a.3 x.1 in
      let r3 = ready-more slot next supposes owes types names last z place clock here cut kept reg.1 a.0 ss cs s1 x.0 x.1 rr in
      let reg3 = register-more slot next supposes owes a.0 x.0 reg.0 (length d.slots + 0) cut kept first held more-x a.4 in
      let t = register-takes slot next supposes owes types names d ns [] o [] ss cs s1 x.0 place here cut kept clock reg.0 first held a.2.0 (wire_of (f reg.1).0) i pend r3.place_is r3.clock_is reg3 a.2.1 (has (f reg.1).0 s1 x.0 r3 x.2) in (
        t.0,
        closed slot next supposes owes d ns (t.1 ∷ []) (register p q ∷ []) ss cs (takes reg.0 place (wire_of (f reg.1).0) s1) t.0 t.2 (at.lay t.0 [] t.1 [] (taken t.0 p first i held t.1 hr.0 e t.3) refl),
        (lasts (f reg.1).0 x.0 t.0 t.4 x.2, t.4 reg.0.read (if cut then first else number_in (raw p)) (read-as x.0 reg.0 p (length d.slots + 0) first held hr.0 reg3)),
      )

  -- two registers around a part
  pub two-registers : (ss : List slots.Slot) (cs : List Placed) (A : Type 0) (R : A → List ℕ → Type 0) (f : Sketch → A × Sketch) (p p' : TreePlace) (q q' : slots.Shape) (first first' : ℕ) (shape shape' : Shape) (i i' : ℕ) (wire_of wire_of' : A → ℕ)
      → Part ss cs A R f → Lasting A R → IsLaidAt p q → IsLaidAt p' q' → TakesNext p first i → TakesNext p' first' i'
      → ((a : A) (d : Sketch) (ns : List ℕ) → Ready d ns → R a ns → Has ns (wire_of a) i) → ((a : A) (d : Sketch) (ns : List ℕ) → Ready d ns → R a ns → Has ns (wire_of' a) i')
      → Part (register p q ∷ (register p' q' ∷ ss)) cs (Register × Register × A) (λ ra ns. R ra.2 ns × Has ns ra.0.read (if cut then first else number_in (raw p)) × Has ns ra.1.read (if cut then first' else number_in (raw p')))
      (λ d.
      let r0 = new_register place first shape d in
      let r1 = new_register place first' shape' r0.1 in
      ((r0.0, r1.0, (f r1.1).0), takes r1.0 place (wire_of' (f r1.1).0) (takes r0.0 place (wire_of (f r1.1).0) (f r1.1).1)))
  two-registers ss cs A R f p p' q q' first first' shape shape' i i' wire_of wire_of' part lasts at at' e e' has has' d ns r h =
      let reg = new_register place first shape d in
      let reg' = new_register place first' shape' reg.1 in
      let hr = at.hold (register p' q' ∷ ss) (length d.slots) h in
      let hr' = at'.hold ss (suc (length d.slots)) hr.1 in
      let held = slot (length d.slots) in
      let held' = slot (length reg.1.slots) in
      let a = register-opened slot next supposes owes d ns [] d ns place here cut kept first shape (begins slot next supposes owes d ns r.solved) r.place_is in
      let o = a.1 in
      let ra = pending-ready slot next supposes owes types names last z place clock here cut kept d ns (o ∷ []) [] [] reg.1 a.0 a.3 r in
      let len : length reg.1.slots ≡ suc (length d.slots) = open-length slot next supposes owes d ns (o ∷ []) reg.1 a.0 a.3 ∙ (omega arith) in
      let b = register-opened slot next supposes owes d ns (o ∷ []) reg.1 a.0 place here cut kept first' shape' a.3 ra.place_is in
      let o' = b.1 in
      let rb = pending-ready slot next supposes owes types names last z place clock here cut kept d ns (o ∷ (o' ∷ [])) [] [] reg'.1 b.0 b.3 r in
      let len' : length reg'.1.slots ≡ suc (suc (length d.slots)) = open-length slot next supposes owes d ns (o ∷ (o' ∷ [])) reg'.1 b.0 b.3 ∙ (omega arith) in
      let x = part reg'.1 b.0 rb (subst (λ n. AreHeld slot raw given ss n) (sym len') hr'.1) in
      let s1 = (f reg'.1).1 in
      let v = (f reg'.1).0 in
      let more-x : AreMore b.0 x.0 = stays slot next supposes owes reg'.1 b.0 ss cs s1 x.0 x.1 in
      let pend = follows slot next supposes owes d ns (o ∷ (o' ∷ [])) [] [] reg'.1 b.0 ss cs s1 x.0 b.3 x.1 in
      let rx = ready-more slot next supposes owes types names last z place clock here cut kept reg'.1 b.0 ss cs s1 x.0 x.1 rb in
      let more-b : AreMore a.0 x.0 = λ w k g. more-x w k (b.5 w k g) in
      let reg2 = register-more slot next supposes owes a.0 x.0 reg.0 (length d.slots + 0) cut kept first held more-b a.4 in
      let reg2' = register-more slot next supposes owes b.0 x.0 reg'.0 (length d.slots + 1) cut kept first' held' more-x b.4 in
      let t = register-takes slot next supposes owes types names d ns [] o (o' ∷ []) ss cs s1 x.0 place here cut kept clock reg.0 first held a.2.0 (wire_of v) i pend rx.place_is rx.clock_is reg2 a.2.1 (has v s1 x.0 rx x.2) in
      let s2 = takes reg.0 place (wire_of v) s1 in
      let rt = pending-ready slot next supposes owes types names last z place clock here cut kept d ns (t.1 ∷ (o' ∷ [])) ss cs s2 t.0 t.2 r in
      let reg3' = register-more slot next supposes owes x.0 t.0 reg'.0 (length d.slots + 1) cut kept first' held' t.4 reg2' in
      let u = register-takes slot next supposes owes types names d ns (t.1 ∷ []) o' [] ss cs s2 t.0 place here cut kept clock reg'.0 first' held' b.2.0 (wire_of' v) i' t.2 rt.place_is rt.clock_is reg3' b.2.1 (has' v s2 t.0 rt (lasts v x.0 t.0 t.4 x.2)) in
      let more-t : AreMore x.0 u.0 = λ w k g. u.4 w k (t.4 w k g) in
      let eq' : held' ≡ number_in (raw p') = ap slot len ∙ hr'.0 in (
        u.0,
        closed slot next supposes owes d ns (t.1 ∷ (u.1 ∷ [])) (register p q ∷ (register p' q' ∷ [])) ss cs (takes reg'.0 place (wire_of' v) s2) u.0 u.2
            (at.lay u.0 (register p' q' ∷ []) t.1 (u.1 ∷ []) (takes-on t.0 u.0 (number_in (next p)) t.1 u.4 (taken t.0 p first i held t.1 hr.0 e t.3)) (at'.lay u.0 [] u.1 [] (taken u.0 p' first' i' held' u.1 eq' e' u.3) refl)),
        (
          lasts v x.0 u.0 more-t x.2,
          more-t reg.0.read (if cut then first else number_in (raw p)) (read-as x.0 reg.0 p (length d.slots + 0) first held hr.0 reg2),
          more-t reg'.0.read (if cut then first' else number_in (raw p')) (read-as x.0 reg'.0 p' (length d.slots + 1) first' held' eq' reg2'),
        ),
      )
    where
      takes-on : (ns ns' : List ℕ) (k : ℕ) (o : Slot) → AreMore ns ns' → Takes ns k o.role → Takes ns' k o.role
      takes-on ns ns' k o more h = by o.role h
        where
          by : (r : Role) → Takes ns k r → Takes ns' k r
          by (role.Register first next) h = more next k h
          by role.Input h = h
          by role.Control h = h
          by (role.Free early) h = h

  -- something that is given, before a part
  pub one-free : (ss : List slots.Slot) (cs : List Placed) (A : Type 0) (R : A → List ℕ → Type 0) (f : Sketch → A × Sketch) (p : TreePlace) (t : Ty) (r : Role) (shape : Shape) → Part ss cs A R f
      → Part (free p t ∷ ss) cs (ℕ × A) (λ wa ns. R wa.1 ns × Has ns wa.0 (number_in (given p))) (λ d. (((slot_step r shape d).0, (f (slot_step r shape d).1).0), (f (slot_step r shape d).1).1))
  one-free ss cs A R f p t r shape part d ns rd h =
      let w = slot_step r shape d in
      let a = free-drawn slot next supposes owes d ns p t r shape (number_in (given p)) rd.solved h.0 in
      let x = part w.1 a.0 (ready-more slot next supposes owes types names last z place clock here cut kept d ns (free p t ∷ []) [] w.1 a.0 a.1 rd) (held-behind slot next supposes owes raw given d ns (free p t ∷ []) [] w.1 a.0 ss a.1 h) in
      (x.0, both slot next supposes owes d ns (free p t ∷ []) [] w.1 a.0 ss cs (f w.1).1 x.0 a.1 x.1, (x.2, stays slot next supposes owes w.1 a.0 ss cs (f w.1).1 x.0 x.1 w.0 (number_in (given p)) a.2))

  -- a delayed integer has no register
  pub no-register : (ss : List slots.Slot) (cs : List Placed) (A : Type 0) (R : A → List ℕ → Type 0) (f : Sketch → A × Sketch) (p : TreePlace) (t : Ty) → is_int t ≡ true → Part ss cs A R f → Part (register p (slots.shape_of types t) ∷ ss) cs A R f
  no-register ss cs A R f p t e part d ns r h =
      let x = part d ns r (held-mark slot raw given types t p ss (length d.slots) e h) in
      (x.0, as-mark slot next supposes owes types t p d ns ss cs (f d).1 x.0 e x.1, x.2)

  pub laid-register : (p : TreePlace) (t : Ty) → is_int t ≡ false → IsLaidAt p (slots.shape_of types t)
  laid-register p t e = record {
    lay = λ ns ss o os h l. lay-register types ns next t p ss o os (number_in (next p)) e h refl l;
    hold = λ ss n h. held-register slot raw given types t p ss n e h;
  }

  pub laid-truth : (p : TreePlace) → IsLaidAt p slots.truth
  laid-truth p = record { lay = λ ns ss o os h l. (h, l); hold = λ ss n h. (h.0, h.1) }
