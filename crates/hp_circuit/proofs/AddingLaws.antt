-- What is added to some gates.
use Rattle.std.proofs.Common.{◌≡◌, ◌≤◌, ◌<◌, ℕ, zero, suc, ◌+◌, List, [], ◌∷◌, ◌++◌, length, refl, sym, ap, ap₂, subst, ◌∙◌, arith, length-append, zero-add}
use Rattle.std.specs.Prelude.{Bool}
use Rattle.hp_boolx.specs.declared.gate.Gate.{Gate}
use Rattle.hp_boolx.specs.Search.{Bits}
use Rattle.hp_boolx.specs.declared.gate.Gate.TheVariants.{Const, Var, Not, And, Or, Xor, Ite}
use Rattle.hp_boolx.specs.Machine.{GateFits, bit, gate_value, values}
use Rattle.hp_boolx.proofs.GateLaws.{values-push, fit-more}
use Rattle.hp_circuit.specs.Adding.{at, row, word, named, HasFirst, Keeps, AddsFit, Adds, AddsRow}

-- ---- one gate

pub bit_before : (xs : Bits) (y : Bool) (k : ℕ) → k < length xs → bit (xs ++ y ∷ []) k ≡ bit xs k
bit_before [] y k l = absurd (omega (arith, l))
bit_before (x ∷ xs) y zero l = refl
bit_before (x ∷ xs) y (suc k) l = bit_before xs y k (omega (arith, l))

pub bit_last : (xs : Bits) (y : Bool) → bit (xs ++ y ∷ []) (length xs) ≡ y
bit_last [] y = refl
bit_last (x ∷ xs) y = bit_last xs y

many_from : (v done : Bits) (gs : List Gate) → length (values v done gs) ≡ length done + length gs
many_from v done [] = omega arith
many_from v done (g ∷ gs) =
    let e : length (done ++ gate_value v done g ∷ []) ≡ length done + 1 = length-append done (gate_value v done g ∷ []) in
    many_from v (done ++ gate_value v done g ∷ []) gs ∙ omega (arith, e)

pub many : (v : Bits) (gs : List Gate) → length (values v [] gs) ≡ length gs
many v gs = many_from v [] gs ∙ zero-add (length gs)

-- ---- gates fit

pub fit_none : (below : ℕ) (gs : List Gate) → AddsFit below gs gs
fit_none below gs all l h = h

pub fit_both : (x y z : ℕ) (a b c : List Gate) → x ≤ z → y ≤ z → AddsFit x a b → AddsFit y b c → AddsFit z a c
fit_both x y z a b c lx ly f g all l h = g all (omega (arith, l, ly)) (f all (omega (arith, l, lx)) h)

gate_fits : (below all before : ℕ) (g : Gate) → below ≤ all → GateFits below before g → GateFits all before g
gate_fits below all before (Const b) l f = f
gate_fits below all before (Var x) l f = omega (arith, l, f)
gate_fits below all before (Not i) l f = f
gate_fits below all before (And i j) l f = f
gate_fits below all before (Or i j) l f = f
gate_fits below all before (Xor i j) l f = f
gate_fits below all before (Ite i j k) l f = f

put_fit : (below : ℕ) (old : List Gate) (g : Gate) → GateFits below (length old) g → AddsFit below old (old ++ g ∷ [])
put_fit below old g f all l h = fit-more all 0 old g h (subst (λ n. GateFits all n g) (sym (zero-add (length old))) (gate_fits below all (length old) g l f))

-- gates with one more
module _ (old : List Gate) (g : Gate) where
  more_length : length (old ++ g ∷ []) ≡ length old + 1
  more_length = length-append old (g ∷ [])

  more_kept : (v : Bits) (k : ℕ) → k < length old → at (old ++ g ∷ []) v k ≡ at old v k
  more_kept v k l =
      ap (λ (bs : Bits). bit bs k) (values-push v [] old g)
      ∙ bit_before (values v [] old) (gate_value v (values v [] old) g) k (let m = many v old in omega (arith, m, l))

  more_value : (v : Bits) → at (old ++ g ∷ []) v (length old) ≡ gate_value v (values v [] old) g
  more_value v =
      ap₂ (λ (bs : Bits) k. bit bs k) (values-push v [] old g) (sym (many v old))
      ∙ bit_last (values v [] old) (gate_value v (values v [] old) g)

  more_first : HasFirst old → HasFirst (old ++ g ∷ [])
  more_first h =
      let two : 2 ≤ length old = h.two in
      let m = more_length in
      record {
        two = omega (arith, two, m);
        low = λ v. more_kept v 0 (omega (arith, two)) ∙ h.low v;
        high = λ v. more_kept v 1 (omega (arith, two)) ∙ h.high v;
      }

  put_keeps : Keeps old (old ++ g ∷ [])
  put_keeps = let m = more_length in record { longer = omega (arith, m); kept = more_kept; first = more_first }

  put_there : GateFits (named g) (length old) g → Adds (named g) old (old ++ g ∷ []) (length old) (λ v. gate_value v (values v [] old) g)
  put_there f = let m = more_length in record { keeps = put_keeps; there = omega (arith, m); value = more_value; fit = put_fit (named g) old g f }

pub put_adds : (old new : List Gate) (g : Gate) → GateFits (named g) (length old) g → new ≡ old ++ g ∷ [] → Adds (named g) old new (length old) (λ v. gate_value v (values v [] old) g)
put_adds old new g f e = subst (λ (gs : List Gate). Adds (named g) old gs (length old) (λ v. gate_value v (values v [] old) g)) (sym e) (put_there old g f)

-- ---- gates stay

pub keeps_all : (gs : List Gate) → Keeps gs gs
keeps_all gs = record { longer = omega arith; kept = λ v k l. refl; first = λ h. h }

pub keeps_both : (a b c : List Gate) → Keeps a b → Keeps b c → Keeps a c
keeps_both a b c k l =
    let ab : length a ≤ length b = k.longer in
    let bc : length b ≤ length c = l.longer in
    record {
      longer = omega arith;
      kept = λ v i h. l.kept v i (omega (arith, h, ab)) ∙ k.kept v i h;
      first = λ h. l.first (k.first h);
    }

-- a row of values that stay
pub row_kept : (old new : List Gate) → Keeps old new → (v : Bits) (width start : ℕ) → start + width ≤ length old → word new v start width ≡ word old v start width
row_kept old new k v zero start l = refl
row_kept old new k v (suc width) start l =
    ap₂ (λ (b : Bool) (bs : Bits). b ∷ bs) (k.kept v start (omega (arith, l))) (row_kept old new k v width (suc start) (omega (arith, l)))

-- one value more behind a row
row_last : (bs : Bits) (width start : ℕ) → row bs start (suc width) ≡ row bs start width ++ bit bs (start + width) ∷ []
row_last bs zero start = ap (λ n. bit bs n ∷ []) (let e : start ≡ start + 0 = omega arith in e)
row_last bs (suc width) start =
    ap (λ (r : Bits). bit bs start ∷ r) (row_last bs width (suc start) ∙ ap (λ n. row bs (suc start) width ++ bit bs n ∷ []) (let e : suc start + width ≡ start + suc width = omega arith in e))

pub row_more : (bs : Bits) (width start : ℕ) → row bs start (width + 1) ≡ row bs start width ++ bit bs (start + width) ∷ []
row_more bs width start = ap (row bs start) (let e : width + 1 ≡ suc width = omega arith in e) ∙ row_last bs width start

pub row_long : (bs : Bits) (width start : ℕ) → length (row bs start width) ≡ width
row_long bs zero start = refl
row_long bs (suc width) start = ap suc (row_long bs width (suc start))

-- ---- rows, one gate after another

pub row_begins : (below : ℕ) (gates : List Gate) (start : ℕ) (f : Bits → Bits) → start ≡ length gates → ((v : Bits) → f v ≡ []) → AddsRow below gates gates start 0 f
row_begins below gates start f e none = record { keeps = keeps_all gates; there = omega (arith, e); value = λ v. sym (none v); fit = fit_none below gates }

pub row_goes : (x y z : ℕ) (a b c : List Gate) (start i r : ℕ) (f next : Bits → Bits) (g : Bits → Bool) → x ≤ z → y ≤ z → AddsRow x a b start i f → r ≡ start + i → Adds y b c r g → ((v : Bits) → next v ≡ f v ++ g v ∷ [])
    → AddsRow z a c start (i + 1) next
row_goes x y z a b c start i r f next g lx ly before e one joined =
    let bc : Keeps b c = one.keeps in
    let there : r < length c = one.there in
    let was : start + i ≤ length b = before.there in
    record {
      keeps = keeps_both a b c before.keeps bc;
      there = omega (arith, there, e);
      value = λ v.
          row_more (values v [] c) i start
          ∙ ap₂ (λ (bs : Bits) (x : Bool). bs ++ x ∷ []) (row_kept b c bc v i start was ∙ before.value v) (ap (at c v) (sym e) ∙ one.value v)
          ∙ sym (joined v);
      fit = fit_both x y z a b c lx ly before.fit one.fit;
    }
