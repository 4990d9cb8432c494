-- The places of equations that define variables.
use Rattle.std.proofs.Common.{◌≡◌, ℕ, suc, ◌+◌, ◌<◌, ◌≤◌, nat_eq, get_or, length, drop, Bool, true, false, if◌then◌else◌, List, [], ◌∷◌, ◌++◌, refl, sym, ap, ◌∙◌, subst, arith}
use Rattle.std.specs.List.{flat_map}
use Rattle.std.proofs.Math.ListN.{set, replicate}
use Rattle.std.proofs.lemmas.Bool.{eqb-true, eq-eqb}
use Rattle.std.proofs.lemmas.List.{length-set, length-replicate, get_or-set_same, get_or-set_other}
use Rattle.hp_flat.specs.Equations.{FlatEqn}
use Rattle.hp_flat.specs.Nodes.{FlatNode}
use Rattle.hp_normal.specs.declared.retarget.MoveFacts.{MoveFacts}
use Rattle.hp_normal.specs.Reading.{count, occurs, targets}
use Rattle.hp_normal.specs.Retargeting.{has, clock_of}
use Rattle.hp_normal.specs.Tables.{all_set, definers, AreMoveFacts}
use Rattle.hp_normal.proofs.Lists.{drop-next, drop-end, set-past}
use Rattle.hp_normal.proofs.TableLaws.{occurs-inside, occurs-often}

module _ {A : Type 0} (ns : List ℕ) (a : A) (i n : ℕ) (h : i < length ns) (p : n ≡ get_or ns i n) (xs : List A) where
  pub set-next : all_set (drop (i + 1) ns) a (set xs n a) ≡ all_set (drop i ns) a xs
  set-next = sym (ap (λ ms. all_set ms a xs) (drop-next ns i n h p))

  pub set-skip : length xs ≤ n → all_set (drop (i + 1) ns) a xs ≡ all_set (drop i ns) a xs
  set-skip past = sym (ap (all_set (drop (i + 1) ns) a) (set-past xs n a past)) ∙ set-next

pub set-end : {A : Type 0} (ns : List ℕ) (a : A) (i : ℕ) (xs : List A) → length ns ≤ i → all_set (drop i ns) a xs ≡ xs
set-end ns a i xs h = ap (λ ms. all_set ms a xs) (drop-end ns i h)

-- an equation in front of others
pub definers-step : (es : List FlatEqn) (i j : ℕ) (e : FlatEqn) (places after first : List ℕ) → j ≡ i + 1 → i < length es → e ≡ get_or es i e
    → after ≡ all_set e.targets i places → places ≡ definers j (drop j es) first → after ≡ definers i (drop i es) first
definers-step es i j e places after first k h p step known =
    step ∙ ap (all_set e.targets i) (known ∙ ap (λ m. definers m (drop m es) first) k) ∙ sym (ap (λ ds. definers i ds first) (drop-next es i e h p))

pub length-all_set : {A : Type 0} (ns : List ℕ) (a : A) (xs : List A) → length (all_set ns a xs) ≡ length xs
length-all_set [] a xs = refl
length-all_set (n ∷ ns) a xs = length-all_set ns a (set xs n a) ∙ length-set xs n a

pub length-definers : (i : ℕ) (es : List FlatEqn) (places : List ℕ) → length (definers i es places) ≡ length places
length-definers i [] places = refl
length-definers i (e ∷ es) places = length-all_set e.targets i (definers (i + 1) es places) ∙ length-definers (i + 1) es places

-- ---- where a variable is defined

at_set : (a : ℕ) (xs : List ℕ) (n x : ℕ) (same : Bool) → nat_eq n x ≡ same → x < length xs → get_or (set xs n a) x 0 ≡ (if same then a else get_or xs x 0)
at_set a xs n x true e h = ap (λ m. get_or (set xs m a) x 0) (eqb-true n x e) ∙ get_or-set_same xs x a 0 h
at_set a xs n x false e h = get_or-set_other xs n x a 0 (λ q. absurd (cc (eq-eqb n x (sym q))))

later : (same more : Bool) (a y : ℕ) → (if more then a else (if same then a else y)) ≡ (if (if same then true else more) then a else y)
later true true a y = refl
later true false a y = refl
later false true a y = refl
later false false a y = refl

get_or-all_set : (ns : List ℕ) (a : ℕ) (xs : List ℕ) (x : ℕ) → x < length xs → get_or (all_set ns a xs) x 0 ≡ (if has ns x then a else get_or xs x 0)
get_or-all_set [] a xs x h = refl
get_or-all_set (n ∷ ns) a xs x h =
    get_or-all_set ns a (set xs n a) x (rw length-set h)
    ∙ ap (λ y. if has ns x then a else y) (at_set a xs n x (nat_eq n x) refl h)
    ∙ later (nat_eq n x) (has ns x) a (get_or xs x 0)

none_there : (ns : List ℕ) (x : ℕ) → has ns x ≡ false → count x ns ≡ 0
none_there [] x e = refl
none_there (n ∷ ns) x e = none_here n ns x (nat_eq n x) e (none_there ns x)
  where
    none_here : (n : ℕ) (ns : List ℕ) (x : ℕ) (same : Bool) → (if same then true else has ns x) ≡ false → (has ns x ≡ false → count x ns ≡ 0) → (if same then 1 else 0) + count x ns ≡ 0
    none_here n ns x true e f = absurd cc
    none_here n ns x false e f = omega (arith, f e)

pub count-append : (x : ℕ) (xs ys : List ℕ) → count x (xs ++ ys) ≡ count x xs + count x ys
count-append x [] ys = omega arith
count-append x (y ∷ xs) ys = ap (λ m. (if nat_eq y x then 1 else 0) + m) (count-append x xs ys) ∙ omega arith

-- The place of the first equation that defines a variable, where the first of all has a place.
pub record Defines (es : List FlatEqn) (i x q : ℕ) : Type 0 where
  pub offset : ℕ
  pub place : q ≡ i + offset
  pub within : offset < length es
  pub clock : (d : FlatEqn) → (get_or es offset d).clock ≡ clock_of es x

defined_here : (e : FlatEqn) (es : List FlatEqn) (i x q r : ℕ) (there : Bool) → has e.targets x ≡ there → q ≡ (if there then i else r) → (there ≡ false → Defines es (i + 1) x r) → Defines (e ∷ es) i x q
defined_here e es i x q r true h k f = record {
  offset = 0;
  place = k ∙ omega arith;
  within = omega arith;
  clock = λ d. sym (ap (λ b. if b then e.clock else clock_of es x) h);
}
defined_here e es i x q r false h k f =
    let later = f refl in
    record {
      offset = suc later.offset;
      place = k ∙ later.place ∙ omega arith;
      within = omega (arith, later.within);
      clock = λ d. later.clock d ∙ sym (ap (λ b. if b then e.clock else clock_of es x) h);
    }

pub definers-tell : (es : List FlatEqn) (i x : ℕ) (first : List ℕ) → x < length first → 1 ≤ count x (flat_map (λ (e : FlatEqn). e.targets) es)
    → Defines es i x (get_or (definers i es first) x 0)
definers-tell [] i x first h k = absurd (omega arith)
definers-tell (e ∷ es) i x first h k =
    defined_here e es i x (get_or (definers i (e ∷ es) first) x 0) (get_or (definers (i + 1) es first) x 0) (has e.targets x) refl
    (get_or-all_set e.targets i (definers (i + 1) es first) x (rw length-definers h))
    (λ none. definers-tell es (i + 1) x first h (omega (arith, none_there e.targets x none, count-append x e.targets (flat_map (λ (e : FlatEqn). e.targets) es))))

module _ (n : FlatNode) (f : MoveFacts) (x : ℕ) (facts : AreMoveFacts n f) (once : occurs n 1 (targets n) x ≡ true) where
  pub definer-inside : x < length f.definers.items
  definer-inside =
      let inside = occurs-inside n 1 (targets n) x once in
      omega (arith, inside, ap length facts.definers, length-definers 0 n.eqns (replicate {A = ℕ} (length n.variables) 0), length-replicate {A = ℕ} (length n.variables) 0)

  pub definer-there : Defines n.eqns 0 x (get_or f.definers.items x 0)
  definer-there =
      let inside = occurs-inside n 1 (targets n) x once in
      subst (Defines n.eqns 0 x) (sym (ap (λ xs. get_or xs x 0) facts.definers))
      (definers-tell n.eqns 0 x (replicate {A = ℕ} (length n.variables) 0) (omega (arith, inside, length-replicate {A = ℕ} (length n.variables) 0)) (omega (arith, occurs-often n 1 (targets n) x once)))

  pub place-inside : get_or f.definers.items x 0 < length n.eqns
  place-inside = omega (arith, definer-there.place, definer-there.within)

  pub place-clock : (q : ℕ) (d : FlatEqn) → q ≡ get_or f.definers.items x 0 → (get_or n.eqns q d).clock ≡ clock_of n.eqns x
  place-clock q d e =
      let same : q ≡ definer-there.offset = e ∙ definer-there.place ∙ omega arith in
      ap (λ k. (get_or n.eqns k d).clock) same ∙ definer-there.clock d
