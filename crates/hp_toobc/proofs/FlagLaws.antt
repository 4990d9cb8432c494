-- Flags of variables.
use Rattle.std.proofs.Common.{◌≡◌, ℕ, zero, suc, ◌+◌, ◌-◌, ◌<◌, ◌≤◌, min, nat_eq, get_or, length, take, drop, Bool, true, false, ◌&&◌, ◌||◌, not, if◌then◌else◌, map, List, [], ◌∷◌, ◌++◌, refl, sym, ap, ◌∙◌, arith}
use Rattle.std.proofs.Math.ListN.{set, replicate}
use Rattle.std.proofs.lemmas.Bool.{eqb-true, eq-eqb}
use Rattle.std.proofs.lemmas.List.{length-set, length-replicate, get_or-set_same, get_or-set_other, append-nil, append_assoc, length-drop, map-append, take_all}
use Rattle.hp_obc.specs.Machines.{ObcType}
use Rattle.hp_flat.specs.declared.node.Variable.{Variable}
use Rattle.hp_flat.specs.declared.equation.Atom.{Atom}
use Rattle.hp_flat.specs.Equations.{Clock, FlatEqn}
use Rattle.hp_flat.specs.Nodes.{FlatNode}
use Rattle.hp_toobc.specs.Making.{has_number, atom_variables, atoms_variables, clock_variables, named, is_named, is_local, locals_from, declared}
use Rattle.hp_toobc.specs.Flags.{marked, all_marked, one_if, flagged}
use Rattle.hp_toobc.proofs.Lists.{drop-next, drop-end}

pub set-past : {A : Type 0} (xs : List A) (i : ℕ) (y : A) → length xs ≤ i → set xs i y ≡ xs
set-past [] i y h = refl
set-past (x ∷ xs) zero y h = absurd (omega arith)
set-past (x ∷ xs) (suc i) y h = ap (λ ys. x ∷ ys) (set-past xs i y (omega arith))

module _ (value : Bool) (ns : List ℕ) (i n : ℕ) (h : i < length ns) (p : n ≡ get_or ns i n) (flags : List Bool) where
  marked_from : marked value (drop i ns) flags ≡ marked value (drop (i + 1) ns) (set flags n value)
  marked_from = ap (λ ms. marked value ms flags) (drop-next ns i n h p)

  pub mark-next : marked value (drop (i + 1) ns) (set flags n value) ≡ marked value (drop i ns) flags
  mark-next = sym marked_from

  pub mark-past : length flags ≤ n → marked value (drop (i + 1) ns) flags ≡ marked value (drop i ns) flags
  mark-past past = sym (marked_from ∙ ap (marked value (drop (i + 1) ns)) (set-past flags n value past))

pub mark-end : (value : Bool) (ns : List ℕ) (i : ℕ) (flags : List Bool) → length ns ≤ i → marked value (drop i ns) flags ≡ flags
mark-end value ns i flags h = ap (λ ms. marked value ms flags) (drop-end ns i h)

-- the flags of some numbers and then those of others
pub marked-append : (value : Bool) (ns ms : List ℕ) (flags : List Bool) → marked value (ns ++ ms) flags ≡ marked value ms (marked value ns flags)
marked-append value [] ms flags = refl
marked-append value (n ∷ ns) ms flags = marked-append value ns ms (set flags n value)

-- the variables of a clock, and those of arguments, one after the other
pub clock-next : (clock : Clock) (i : ℕ) (on : ℕ × ℕ) (flags after : List Bool) → i < length clock → on ≡ get_or clock i on → after ≡ set flags on.0 true
    → marked true (clock_variables (drop (i + 1) clock)) after ≡ marked true (clock_variables (drop i clock)) flags
clock-next clock i on flags after h p step =
    ap (marked true (clock_variables (drop (i + 1) clock))) step ∙ sym (ap (λ c. marked true (clock_variables c) flags) (drop-next clock i on h p))

pub clock-end : (clock : Clock) (i : ℕ) (flags : List Bool) → length clock ≤ i → marked true (clock_variables (drop i clock)) flags ≡ flags
clock-end clock i flags h = ap (λ c. marked true (clock_variables c) flags) (drop-end clock i h)

pub atoms-next : (args : List Atom) (i : ℕ) (a : Atom) (flags after : List Bool) → i < length args → a ≡ get_or args i a → after ≡ marked true (atom_variables a) flags
    → marked true (atoms_variables (drop (i + 1) args)) after ≡ marked true (atoms_variables (drop i args)) flags
atoms-next args i a flags after h p step =
    ap (marked true (atoms_variables (drop (i + 1) args))) step
    ∙ sym (marked-append true (atom_variables a) (atoms_variables (drop (i + 1) args)) flags)
    ∙ sym (ap (λ bs. marked true (atoms_variables bs) flags) (drop-next args i a h p))

pub atoms-end : (args : List Atom) (i : ℕ) (flags : List Bool) → length args ≤ i → marked true (atoms_variables (drop i args)) flags ≡ flags
atoms-end args i flags h = ap (λ bs. marked true (atoms_variables bs) flags) (drop-end args i h)

pub all-next : (es : List FlatEqn) (i : ℕ) (e : FlatEqn) (flags after : List Bool) → i < length es → e ≡ get_or es i e → after ≡ marked true (named e) flags
    → all_marked (drop (i + 1) es) after ≡ all_marked (drop i es) flags
all-next es i e flags after h p step = ap (all_marked (drop (i + 1) es)) step ∙ sym (ap (λ ds. all_marked ds flags) (drop-next es i e h p))

pub all-end : (es : List FlatEqn) (i : ℕ) (flags : List Bool) → length es ≤ i → all_marked (drop i es) flags ≡ flags
all-end es i flags h = ap (λ ds. all_marked ds flags) (drop-end es i h)

-- ---- which flags are set

pub length-marked : (value : Bool) (ns : List ℕ) (flags : List Bool) → length (marked value ns flags) ≡ length flags
length-marked value [] flags = refl
length-marked value (n ∷ ns) flags = length-marked value ns (set flags n value) ∙ length-set flags n value

pub length-all : (es : List FlatEqn) (flags : List Bool) → length (all_marked es flags) ≡ length flags
length-all [] flags = refl
length-all (e ∷ es) flags = length-all es (marked true (named e) flags) ∙ length-marked true (named e) flags

differ : (n k : ℕ) → k ≡ n → nat_eq n k ≡ false → ⊥
differ n k q e = absurd (cc (eq-eqb n k (sym q)))

at_set : (value : Bool) (flags : List Bool) (n k : ℕ) (d : Bool) → nat_eq n k ≡ d → k < length flags → get_or (set flags n value) k false ≡ (if d then value else get_or flags k false)
at_set value flags n k true e h = ap (λ m. get_or (set flags m value) k false) (eqb-true n k e) ∙ get_or-set_same flags k value false h
at_set value flags n k false e h = get_or-set_other flags n k value false (λ q. differ n k q e)

later : (value : Bool) (a b : Bool) (x : Bool) → (if b then value else (if a then value else x)) ≡ (if a || b then value else x)
later value true true x = refl
later value true false x = refl
later value false true x = refl
later value false false x = refl

pub get_or-marked : (value : Bool) (ns : List ℕ) (flags : List Bool) (k : ℕ) → k < length flags
    → get_or (marked value ns flags) k false ≡ (if has_number ns k then value else get_or flags k false)
get_or-marked value [] flags k h = refl
get_or-marked value (n ∷ ns) flags k h =
    get_or-marked value ns (set flags n value) k (rw length-set h)
    ∙ ap (λ x. if has_number ns k then value else x) (at_set value flags n k (nat_eq n k) refl h)
    ∙ later value (nat_eq n k) (has_number ns k) (get_or flags k false)

either : (a b x : Bool) → (b || (if a then true else x)) ≡ ((a || b) || x)
either true true x = refl
either true false x = refl
either false true x = refl
either false false x = refl

pub get_or-all : (es : List FlatEqn) (flags : List Bool) (k : ℕ) → k < length flags → get_or (all_marked es flags) k false ≡ (is_named es k || get_or flags k false)
get_or-all [] flags k h = refl
get_or-all (e ∷ es) flags k h =
    get_or-all es (marked true (named e) flags) k (rw length-marked h)
    ∙ ap (λ x. is_named es k || x) (get_or-marked true (named e) flags k h)
    ∙ either (has_number (named e) k) (is_named es k) (get_or flags k false)

without : (a b : Bool) → (if a then false else (b || false)) ≡ (b && not a)
without true true = refl
without true false = refl
without false true = refl
without false false = refl

at_false : (n k : ℕ) → get_or (replicate n false) k false ≡ false
at_false zero k = refl
at_false (suc n) zero = refl
at_false (suc n) (suc k) = at_false n k

-- the flags of variables that an equation defines or reads and that are no outputs
pub flags-count : (n : FlatNode) (count : ℕ) (first third : List Bool) → first ≡ replicate count false → third ≡ marked false n.outputs (all_marked n.eqns first)
    → length third ≡ count
flags-count n count first third a c =
    ap length c ∙ length-marked false n.outputs (all_marked n.eqns first) ∙ length-all n.eqns first ∙ ap length a ∙ length-replicate count false

pub flags-local : (n : FlatNode) (count : ℕ) (first third : List Bool) → first ≡ replicate count false → third ≡ marked false n.outputs (all_marked n.eqns first)
    → (x : ℕ) → x < count → get_or third x false ≡ is_local n x
flags-local n count first third a c x h =
    let second = all_marked n.eqns first in
    let l1 : length first ≡ count = ap length a ∙ length-replicate count false in
    let l2 : length second ≡ count = length-all n.eqns first ∙ l1 in
    ap (λ fs. get_or fs x false) c
    ∙ get_or-marked false n.outputs second x (omega arith)
    ∙ ap (λ y. if has_number n.outputs x then false else y)
    (get_or-all n.eqns first x (omega arith) ∙ ap (λ y. is_named n.eqns x || y) (ap (λ fs. get_or fs x false) a ∙ at_false count x))
    ∙ without (has_number n.outputs x) (is_named n.eqns x)

-- ---- the variables with a flag

flagged_none : {A : Type 0} (flags : List Bool) → flagged {A = A} flags [] ≡ []
flagged_none [] = refl
flagged_none (flag ∷ flags) = refl

pub flagged-end : {A : Type 0} (flags : List Bool) (xs : List A) (i : ℕ) → min (length xs) (length flags) ≤ i → flagged (drop i flags) (drop i xs) ≡ []
flagged-end [] xs i h = ap (λ fs. flagged fs (drop i xs)) (drop-end {A = Bool} [] i (omega arith))
flagged-end (f ∷ flags) [] i h = ap (flagged (drop i (f ∷ flags))) (drop-end [] i (omega arith)) ∙ flagged_none (drop i (f ∷ flags))
flagged-end (f ∷ flags) (x ∷ xs) zero h = absurd (omega arith)
flagged-end (f ∷ flags) (x ∷ xs) (suc i) h = flagged-end flags xs i (omega arith)

chosen : (f g : Bool) (v : Variable) (xs : List Variable) (flags : List Bool) (ys : List Variable) → f ≡ g → flagged flags xs ≡ ys
    → flagged (f ∷ flags) (v ∷ xs) ≡ (if g then v ∷ ys else ys)
chosen true true v xs flags ys e h = ap (λ zs. v ∷ zs) h
chosen false false v xs flags ys e h = h
chosen true false v xs flags ys e h = absurd cc
chosen false true v xs flags ys e h = absurd cc

locals_flagged : (n : FlatNode) (flags : List Bool) (vs : List Variable) (x : ℕ) → length flags ≡ length vs
    → ((k y : ℕ) → y ≡ x + k → k < length vs → get_or flags k false ≡ is_local n y) → flagged flags vs ≡ locals_from n x vs
locals_flagged n [] [] x e h = refl
locals_flagged n (f ∷ flags) [] x e h = absurd (omega arith)
locals_flagged n [] (v ∷ vs) x e h = absurd (omega arith)
locals_flagged n (f ∷ flags) (v ∷ vs) x e h =
    chosen f (is_local n x) v vs flags (locals_from n (x + 1) vs) (h 0 x (omega arith) (omega arith))
    (locals_flagged n flags vs (x + 1) (omega arith) (λ k y p q. h (suc k) y (omega arith) (omega arith)))

get_or_drop : (flags : List Bool) (i k : ℕ) → get_or (drop i flags) k false ≡ get_or flags (i + k) false
get_or_drop flags zero k = let same : k ≡ 0 + k = omega arith in ap (λ j. get_or flags j false) same
get_or_drop [] (suc i) k = refl
get_or_drop (f ∷ flags) (suc i) k = let same : suc (i + k) ≡ suc i + k = omega arith in get_or_drop flags i k ∙ ap (λ j. get_or (f ∷ flags) j false) same

-- the variables behind the inputs that have a flag are the locals
pub flagged-locals : (types : List ObcType) (n : FlatNode) (flags : List Bool) (vs : List Variable) (count : ℕ) → length vs ≡ count → length flags ≡ count
    → ((x : ℕ) → x < count → get_or flags x false ≡ is_local n x)
    → map (declared types) (flagged (drop n.inputs flags) (drop n.inputs vs)) ≡ map (declared types) (locals_from n n.inputs (drop n.inputs vs))
flagged-locals types n flags vs count a b h =
    ap (map (declared types)) (locals_flagged n (drop n.inputs flags) (drop n.inputs vs) n.inputs
    (length-drop n.inputs flags ∙ ap (λ m. m - n.inputs) (b ∙ sym a) ∙ sym (length-drop n.inputs vs))
    (λ k y p q. get_or_drop flags n.inputs k ∙ ap (λ j. get_or flags j false) (sym p) ∙ h y (omega (arith, length-drop n.inputs vs, q))))

-- ---- declarations that are made

module _ {A B : Type 0} (f : A → B) (flags : List Bool) (xs : List A) (i : ℕ) (made all : List B) where
  pub flagged-next : (after : List B) (flag : Bool) (x : A) → i < length flags → i < length xs → flag ≡ get_or flags i flag → x ≡ get_or xs i x
      → after ≡ made ++ map f (one_if flag x) → made ++ map f (flagged (drop i flags) (drop i xs)) ≡ all
      → after ++ map f (flagged (drop (i + 1) flags) (drop (i + 1) xs)) ≡ all
  flagged-next after flag x h k p q step known =
      let rest = flagged (drop (i + 1) flags) (drop (i + 1) xs) in
      ap (λ zs. zs ++ map f rest) step
      ∙ append_assoc made (map f (one_if flag x)) (map f rest)
      ∙ sym (ap (λ zs. made ++ zs) ((λ j. map f (flagged (drop-next flags i flag h p j) (drop-next xs i x k q j))) ∙ map-append f (one_if flag x) rest))
      ∙ known

  pub flagged-done : min (length xs) (length flags) ≤ i → made ++ map f (flagged (drop i flags) (drop i xs)) ≡ all → made ≡ all
  flagged-done h known = sym (ap (λ zs. made ++ map f zs) (flagged-end flags xs i h) ∙ append-nil made) ∙ known

-- a slice that is written is what the vector holds
pub written-back : {A : Type 0} (xs ys : List A) (n : ℕ) → n ≡ length xs → length ys ≡ length xs → take n (ys ++ drop (length ys) xs) ≡ ys
written-back xs ys n e h =
    ap (λ zs. take n (ys ++ zs)) (drop-end xs (length ys) (omega arith)) ∙ ap (take n) (append-nil ys) ∙ take_all n ys (omega arith)
