-- How names are seen where one more layer stands inside of others.
use Rattle.std.proofs.Common.{◌≡◌, ◌↔◌, IsSome, ℕ, zero, suc, ◌-◌, ◌<◌, ◌≤◌, List, [], ◌∷◌, ◌++◌, length, take, refl, sym, ap, ◌∙◌, arith, length-append}
use Rattle.std.specs.Option.{option_to_list}
use Rattle.std.proofs.lemmas.List.{append-nil, take-append-le}
use Rattle.std.proofs.Math.Seq.{take-length}
use Rattle.std.specs.Prelude.{Bool, true, false, ◌||◌, if◌then◌else◌, slice_get, Option, None, Some}
use Rattle.hp_tree.specs.Blocks.{Decl, Block, block}
use Rattle.hp_tree.specs.Programs.{Node}
use Rattle.hp_tree.specs.Meaning.{declares, some_defines}
use Rattle.hp_clocks.specs.declared.layer.Layer.{Layer}
use Rattle.hp_clocks.specs.declared.layer.Seen.{Seen}
use Rattle.hp_clocks.specs.declared.layer.Seen.TheVariants as seen
use Rattle.hp_clocks.specs.Scopes.{Sight}
use Rattle.hp_clocks.specs.Units.{from_inside, sight_of, cell_in, on_base, contract_sight}
use Rattle.hp_clocks.specs.Putting.{interface_sight}
use Rattle.hp_clocks.specs.Layers.{front, says, said, own_says, sight, Says, no_entry, says_own, says_based}

-- ---- all but the last

pub front_more : {A : Type 0} (xs : List A) (x : A) → front (xs ++ x ∷ []) ≡ xs
front_more xs x =
    let shorter : length (xs ++ x ∷ []) - 1 ≡ length xs = omega (arith, length-append xs (x ∷ [])) in
    ap (λ n. take n (xs ++ x ∷ [])) shorter ∙ take-append-le (length xs) xs (x ∷ []) (omega arith) ∙ take-length xs

at_most_none : (n : ℕ) → (0 < n → ⊥) → n ≤ 0
at_most_none zero h = omega arith
at_most_none (suc n) h = absurd (h (omega arith))

nothing_left : {A : Type 0} (old new : List A) → old ≡ new → length old ≤ 0 → new ≡ front old
nothing_left [] new e h = sym e
nothing_left (x ∷ xs) new e h = absurd (omega arith)

pub front_left : {A : Type 0} (old new : List A) (r : Option A) → old ≡ new ++ option_to_list r → (IsSome r ↔ (0 < length old)) → new ≡ front old
front_left old new None e some = nothing_left old new (e ∙ append-nil new) (at_most_none (length old) (λ h. let no : false ≡ true = some.1 h in absurd cc))
front_left old new (Some x) e some = sym (ap front e ∙ front_more new x)

-- ---- what layers say

abbrev first_said : Option ℕ → Option ℕ → Option ℕ
first_said o p = elim o [ None ↦ p | Some t ↦ Some t ]

innermost : (o p q : Option ℕ) → first_said (first_said o p) q ≡ first_said o (first_said p q)
innermost None p q = refl
innermost (Some t) p q = refl

none_else : (o : Option ℕ) → o ≡ first_said o None
none_else None = refl
none_else (Some t) = refl

said_last : (ls : List Layer) (l : Layer) (x : List ℕ) → said (ls ++ l ∷ []) x ≡ first_said (says l x) (said ls x)
said_last [] l x = none_else (says l x)
said_last (m ∷ ls) l x = ap (λ o. first_said o (says m x)) (said_last ls l x) ∙ innermost (says l x) (said ls x) (says m x)

last_is : (ls : List Layer) (l : Layer) → slice_get (ls ++ l ∷ []) (length ls) ≡ Some l
last_is [] l = refl
last_is (m ∷ ls) l = last_is ls l

abbrev by_last : List ℕ → Option Layer → Option ℕ
by_last x o = elim o [ None ↦ None | Some l ↦ says l x ]

own_last : (ls : List Layer) (l : Layer) (x : List ℕ) → own_says (ls ++ l ∷ []) x ≡ says l x
own_last ls l x =
    let shorter : length (ls ++ l ∷ []) - 1 ≡ length ls = omega (arith, length-append ls (l ∷ [])) in
    ap (λ n. by_last x (slice_get (ls ++ l ∷ []) n)) shorter ∙ ap (by_last x) (last_is ls l)

-- What the block's own layer says is said.
inner_first : (l : Layer) (x : List ℕ) (o : Option ℕ) (n : ℕ) → o ≡ Some n → first_said o (says l x) ≡ Some n
inner_first l x None n h = absurd (cc h)
inner_first l x (Some t) n h = h

own_said : (ls : List Layer) (x : List ℕ) (n : ℕ) → own_says ls x ≡ Some n → said ls x ≡ Some n
own_said [] x n h = absurd (cc h)
own_said (l ∷ []) x n h = h
own_said (l ∷ m ∷ ls) x n h =
    let a : length (l ∷ m ∷ ls) - 1 ≡ suc (length ls) = omega arith in
    let b : length ls ≡ length (m ∷ ls) - 1 = omega arith in
    inner_first l x (said (m ∷ ls) x) n
    (own_said (m ∷ ls) x n
    (sym (ap (λ k. by_last x (slice_get (l ∷ m ∷ ls) k)) a ∙ ap (λ k. by_last x (slice_get (m ∷ ls) k)) b) ∙ h))

abbrev further_by : Option ℕ → Seen
further_by s = elim s [ None ↦ seen.Nowhere | Some n ↦ seen.Further n ]

abbrev seen_by : Option ℕ → Option ℕ → Seen
seen_by o s = elim o [ None ↦ further_by s | Some n ↦ seen.Own n ]

inside_is : (o s : Option ℕ) → ((n : ℕ) → o ≡ Some n → s ≡ Some n) → further_by s ≡ from_inside (seen_by o s)
inside_is None None h = refl
inside_is None (Some n) h = refl
inside_is (Some n) s h = ap further_by (h n refl)

abbrev pub pushed_by : Option ℕ → Seen → Seen
pushed_by o s = elim o [ None ↦ s | Some n ↦ seen.Own n ]

pushed_cases : (o s : Option ℕ) (t : Seen) → further_by s ≡ t → seen_by o (first_said o s) ≡ pushed_by o t
pushed_cases None s t e = e
pushed_cases (Some n) s t e = refl

pub pushed : (ls : List Layer) (l : Layer) (x : List ℕ) → sight (ls ++ l ∷ []) x ≡ pushed_by (says l x) (from_inside (sight ls x))
pushed ls l x =
    ap (λ o. seen_by o (said (ls ++ l ∷ []) x)) (own_last ls l x)
    ∙ ap (λ s. seen_by (says l x) s) (said_last ls l x)
    ∙ pushed_cases (says l x) (said ls x) (from_inside (sight ls x)) (inside_is (own_says ls x) (said ls x) (own_said ls x))

entered_by : (d : Bool) (i : ℕ) (s : Seen) → pushed_by (if d then Some i else None) s ≡ (if d then seen.Own i else s)
entered_by true i s = refl
entered_by false i s = refl

sees_own : (k : ℕ) (b : Block) (see : Sight) (x : List ℕ) → pushed_by (says_own k b x) (from_inside (see x)) ≡ sight_of k b see x
sees_own k (block ds es) see x = entered_by (some_defines es x) (cell_in es k ds ds x) (from_inside (see x))

-- a block that is entered
pub sight_entered : (ls : List Layer) (l : Layer) (k : ℕ) (b : Block) → says l ≡ says_own k b → sight (ls ++ l ∷ []) ≡ sight_of k b (sight ls)
sight_entered ls l k b e =
    let one : (x : List ℕ) → sight (ls ++ l ∷ []) x ≡ sight_of k b (sight ls) x =
    λ x. pushed ls l x ∙ ap (λ (f : Says). pushed_by (f x) (from_inside (sight ls x))) e ∙ sees_own k b (sight ls) x in
    λ j x. one x j

-- the interface of a node
based_by : (a b c : Bool) → pushed_by (if c then Some 0 else (if b then Some 0 else (if a then Some 0 else None))) seen.Nowhere ≡ on_base (a || (b || c))
based_by true true true = refl
based_by true true false = refl
based_by true false true = refl
based_by true false false = refl
based_by false true true = refl
based_by false true false = refl
based_by false false true = refl
based_by false false false = refl

pub sight_based : (l : Layer) (n : Node) (ds : List Decl) → says l ≡ says_based ds (says_based n.outputs (says_based n.inputs no_entry)) → sight ([] ++ l ∷ []) ≡ interface_sight n ds
sight_based l n ds e =
    let one : (x : List ℕ) → sight ([] ++ l ∷ []) x ≡ interface_sight n ds x =
    λ x. pushed [] l x ∙ ap (λ (f : Says). pushed_by (f x) seen.Nowhere) e ∙ based_by (declares n.inputs x) (declares n.outputs x) (declares ds x) in
    λ j x. one x j

or_false : (b : Bool) → (b || false) ≡ b
or_false true = refl
or_false false = refl

-- A contract sees no controllable variables.
pub no_controls : (n : Node) → interface_sight n [] ≡ contract_sight n
no_controls n =
    let one : (x : List ℕ) → interface_sight n [] x ≡ contract_sight n x = λ x. ap (λ b. on_base (declares n.inputs x || b)) (or_false (declares n.outputs x)) in
    λ j x. one x j
