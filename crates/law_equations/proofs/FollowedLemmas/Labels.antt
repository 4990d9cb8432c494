-- The names of memories and instances.
use Rattle.std.proofs.Common.{◌≡◌, ℕ, zero, suc, ◌+◌, ◌<◌, ◌≤◌, ◌^◌, Bool, true, false, ◌||◌, nat_eq, if◌then◌else◌, List, [], ◌∷◌, ◌++◌, length, map, take, refl, sym, ap, ◌∙◌, arith}
use Rattle.std.specs.Prelude.{decimal}
use Rattle.std.specs.List.{AllByRecursion}
use Rattle.std.specs.Str.{bytes_eq}
use Rattle.hp_flat.specs.declared.node.Variable.{Variable}
use Rattle.hp_flat.specs.Equations.{Right, operator, register, called, FlatEqn}
use Rattle.hp_toobc.specs.Labels.{dollar, stem, made_name}
use Rattle.hp_toobc.specs.Making.{memory_name, instance_name, first_name}
use Rattle.hp_toobc.proofs.NameLaws.{names_differ}
use Rattle.law_equations.specs.Followed.Premises.{first_byte, letter_of, is_taken, IsOwn, HasNoSign, OwnNamesLaw}
use Rattle.law_equations.proofs.FollowedLemmas.Naming.{same_name}

-- ---- the letter of a name that is made

plain_one : (b : ℕ) (bs : List ℕ) (sign : Bool) → nat_eq b dollar ≡ sign → HasNoSign bs → HasNoSign (if sign then [] else b ∷ bs)
plain_one b bs true e h = tt
plain_one b bs false e h = (e, h)

stem_plain : (x : List ℕ) → HasNoSign (stem x)
stem_plain [] = tt
stem_plain (b ∷ bs) = plain_one b (stem bs) (nat_eq b dollar) refl (stem_plain bs)

take_plain : (n : ℕ) (xs : List ℕ) → HasNoSign xs → HasNoSign (take n xs)
take_plain zero xs h = tt
take_plain (suc n) [] h = tt
take_plain (suc n) (b ∷ bs) h = (h.0, take_plain n bs h.1)

letter_behind : (front : List ℕ) (letter : ℕ) (rest : List ℕ) → HasNoSign front → letter_of (front ++ (dollar ∷ letter ∷ rest)) ≡ letter
letter_behind [] letter rest h = refl
letter_behind (b ∷ front) letter rest h =
    ap (λ (d : Bool). if d then first_byte (front ++ (dollar ∷ letter ∷ rest)) else letter_of (front ++ (dollar ∷ letter ∷ rest))) h.0 ∙ letter_behind front letter rest h.1

made_letter : (x : List ℕ) (letter place : ℕ) → letter_of (made_name x letter place) ≡ letter
made_letter x letter place = letter_behind (take 255 (stem x)) letter (take 13 (decimal place)) (take_plain 255 (stem x) (stem_plain x))

letter_none : (x : List ℕ) → HasNoSign x → letter_of x ≡ 0
letter_none [] h = refl
letter_none (b ∷ bs) h = ap (λ (d : Bool). if d then first_byte bs else letter_of bs) h.0 ∙ letter_none bs h.1

pub own_names_law : OwnNamesLaw
own_names_law = (λ x h. ap is_taken (letter_none x h), λ x letter rest h other. ap is_taken (letter_behind x letter rest h) ∙ other)

-- ---- equations with the names of their memories or instances

pub record Labelled : Type 0 where
  pub label : List ℕ
  pub eqn : FlatEqn

-- an operator has neither, so any name of its place serves
abbrev pub label_by : List Variable → ℕ → List ℕ → Right → List ℕ
label_by variables i targets (operator op args) = instance_name [] i
label_by variables i targets (register first next) = memory_name variables targets i
label_by variables i targets (called f args) = instance_name f i

abbrev pub labelled : List Variable → ℕ → List FlatEqn → List Labelled
labelled variables i [] = []
labelled variables i (e ∷ es) = record { label = label_by variables i e.targets e.right; eqn = e } ∷ labelled variables (i + 1) es

abbrev pub eqns_of : List Labelled → List FlatEqn
eqns_of us = map (λ (u : Labelled). u.eqn) us

pub eqns-labelled : (variables : List Variable) (i : ℕ) (es : List FlatEqn) → eqns_of (labelled variables i es) ≡ es
eqns-labelled variables i [] = refl
eqns-labelled variables i (e ∷ es) = ap (λ ds. e ∷ ds) (eqns-labelled variables (i + 1) es)

-- a name is that of no memory or instance of some equations
abbrev pub Apart : List ℕ → List Labelled → Type 0
Apart x us = AllByRecursion (λ (u : Labelled). bytes_eq u.label x ≡ false) us

abbrev pub LabelsDiffer : List Labelled → Type 0
LabelsDiffer [] = Unit {0}
LabelsDiffer (u ∷ us) = Apart u.label us × LabelsDiffer us

-- a label is a name that is made with one of two letters, for its place
abbrev letter_by : Right → ℕ
letter_by (register first next) = 109
letter_by right = 110

abbrev origin_by : List Variable → List ℕ → Right → List ℕ
origin_by variables targets (operator op args) = []
origin_by variables targets (register first next) = first_name variables targets
origin_by variables targets (called f args) = f

label_made : (variables : List Variable) (i : ℕ) (targets : List ℕ) (r : Right) → label_by variables i targets r ≡ made_name (origin_by variables targets r) (letter_by r) i
label_made variables i targets (operator op args) = refl
label_made variables i targets (register first next) = refl
label_made variables i targets (called f args) = refl

differ_by : (d : Bool) (x y : List ℕ) (a b i k : ℕ) → bytes_eq (made_name x a i) (made_name y b k) ≡ d → i < 10 ^ 13 → k < 10 ^ 13 → (i ≡ k → ⊥) → d ≡ false
differ_by true x y a b i k e h g apart = absurd (apart (names_differ x y a b i k h g (same_name (made_name x a i) (made_name y b k) e)).1)
differ_by false x y a b i k e h g apart = refl

labels-apart : (variables : List Variable) (e d : FlatEqn) (i k : ℕ) → i < 10 ^ 13 → k < 10 ^ 13 → (i ≡ k → ⊥) → bytes_eq (label_by variables i e.targets e.right) (label_by variables k d.targets d.right) ≡ false
labels-apart variables e d i k h g apart =
    let x : List ℕ = origin_by variables e.targets e.right in
    let y : List ℕ = origin_by variables d.targets d.right in
    (λ j. bytes_eq (label_made variables i e.targets e.right j) (label_made variables k d.targets d.right j))
    ∙ differ_by (bytes_eq (made_name x (letter_by e.right) i) (made_name y (letter_by d.right) k)) x y (letter_by e.right) (letter_by d.right) i k refl h g apart

apart_later : (variables : List Variable) (e : FlatEqn) (i k : ℕ) (es : List FlatEqn) → i < k → k + length es ≤ 10 ^ 13 → Apart (label_by variables i e.targets e.right) (labelled variables k es)
apart_later variables e i k [] h g = tt
apart_later variables e i k (d ∷ es) h g =
    (labels-apart variables d e k i (omega arith) (omega arith) (λ q. absurd (omega (arith, q))), apart_later variables e i (k + 1) es (omega arith) (omega arith))

pub labels-differ : (variables : List Variable) (i : ℕ) (es : List FlatEqn) → i + length es ≤ 10 ^ 13 → LabelsDiffer (labelled variables i es)
labels-differ variables i [] h = tt
labels-differ variables i (e ∷ es) h = (apart_later variables e i (i + 1) es (omega arith) (omega arith), labels-differ variables (i + 1) es (omega arith))

-- ---- labels are no names of variables

own_by : (d : Bool) (x y : List ℕ) (r : Right) (place : ℕ) → bytes_eq (made_name x (letter_by r) place) y ≡ d → IsOwn y → d ≡ false
own_by false x y r place e h = refl
own_by true x y (register first next) place e h =
    let letter : letter_of y ≡ 109 = ap letter_of (sym (same_name (made_name x 109 place) y e)) ∙ made_letter x 109 place in
    let no_own : (nat_eq (letter_of y) 109 || nat_eq (letter_of y) 110) ≡ true = ap (λ l. nat_eq l 109 || nat_eq l 110) letter in absurd (cc)
own_by true x y r place e h =
    let letter : letter_of y ≡ 110 = ap letter_of (sym (same_name (made_name x 110 place) y e)) ∙ made_letter x 110 place in
    let no_own : (nat_eq (letter_of y) 109 || nat_eq (letter_of y) 110) ≡ true = ap (λ l. nat_eq l 109 || nat_eq l 110) letter in absurd (cc)

label_own : (variables : List Variable) (i : ℕ) (targets : List ℕ) (r : Right) (y : List ℕ) → IsOwn y → bytes_eq (label_by variables i targets r) y ≡ false
label_own variables i targets r y h =
    let x : List ℕ = origin_by variables targets r in ap (λ z. bytes_eq z y) (label_made variables i targets r) ∙ own_by (bytes_eq (made_name x (letter_by r) i) y) x y r i refl h

-- a name is none of some names
abbrev pub IsNew : List (List ℕ) → List ℕ → Type 0
IsNew xs y = AllByRecursion (λ x. bytes_eq y x ≡ false) xs

new_by : (variables : List Variable) (i : ℕ) (targets : List ℕ) (r : Right) (xs : List (List ℕ)) → AllByRecursion IsOwn xs → IsNew xs (label_by variables i targets r)
new_by variables i targets r [] h = tt
new_by variables i targets r (x ∷ xs) h = (label_own variables i targets r x h.0, new_by variables i targets r xs h.1)

pub labels-new : (variables : List Variable) (xs : List (List ℕ)) → AllByRecursion IsOwn xs → (i : ℕ) (es : List FlatEqn) → AllByRecursion (λ (u : Labelled). IsNew xs u.label) (labelled variables i es)
labels-new variables xs h i [] = tt
labels-new variables xs h i (e ∷ es) = (new_by variables i e.targets e.right xs h, labels-new variables xs h (i + 1) es)
