-- What is known inside a block and inside a control equation.
use Rattle.std.proofs.Common.{◌≡◌, ◌↔◌, IsSome, ℕ, zero, suc, ◌<◌, ◌≤◌, ◌-◌, length, take, true, false, if◌then◌else◌, List, [], ◌∷◌, ◌++◌, Option, None, Some, refl, sym, ap, ◌∙◌, arith}
use Rattle.std.specs.Option.{option_to_list}
use Rattle.std.proofs.lemmas.List.{append-nil, length-append, take-append-le}
use Rattle.std.proofs.Math.Seq.{take-length}
use Rattle.hp_tree.specs.Blocks.{Decl, block, Eqns, Eqn}
use Rattle.hp_tree.specs.Meaning.{some_defines, names_of as declared}
use Rattle.hp_tables.specs.declared.defining.layer.Layer.{Layer}
use Rattle.hp_tables.specs.Defining.Layers.{numbered, says, says_numbers, says_seen, sight}
use Rattle.hp_tables.specs.Defining.Names.{names_in, names_of}
use Rattle.hp_init.specs.Asks.{Sight, Seen, over, seen_in}
use Rattle.hp_init.specs.Gathered.{front, values_within}
use Rattle.hp_tables.proofs.DefiningLemmas.ListedLaws.{listed_in, listed_of}
use Rattle.hp_init.proofs.TableLaws.{sight-numbers, sight-seen}

abbrev pub seen_as : List Layer → List Layer → Seen
seen_as variables values = record { variables = sight variables; values = sight values }

-- ---- all but the last

pub front-more : {A : Type 0} (xs : List A) (x : A) → front (xs ++ x ∷ []) ≡ xs
front-more xs x =
    let shorter : length (xs ++ x ∷ []) - 1 ≡ length xs = omega (arith, length-append xs (x ∷ [])) in
    ap (λ n. take n (xs ++ x ∷ [])) shorter ∙ take-append-le (length xs) xs (x ∷ []) (omega arith) ∙ take-length xs

at_most_none : (n : ℕ) → (0 < n → ⊥) → n ≤ 0
at_most_none zero h = omega arith
at_most_none (suc n) h = absurd (h (omega arith))

nothing_left : {A : Type 0} (old new : List A) → old ≡ new → length old ≤ 0 → new ≡ front old
nothing_left [] new e h = sym e
nothing_left (x ∷ xs) new e h = absurd (omega arith)

pub front-left : {A : Type 0} (old new : List A) (r : Option A) → old ≡ new ++ option_to_list r → (IsSome r ↔ (0 < length old)) → new ≡ front old
front-left old new None e some = nothing_left old new (e ∙ append-nil new) (at_most_none (length old) (λ h. let no : false ≡ true = some.1 h in absurd cc))
front-left old new (Some x) e some = sym (ap front e ∙ front-more new x)

-- ---- what is seen inside

pub sight-within : (ls : List Layer) (l : Layer) (e : Eqn) → says l ≡ says_seen (names_of e) (sight []) → sight (ls ++ l ∷ []) ≡ values_within e (sight ls)
sight-within ls l e h =
    let one : (x : List ℕ) → sight (ls ++ l ∷ []) x ≡ values_within e (sight ls) x =
    λ x. sight-seen ls l (names_of e) (sight []) x h ∙ ap (λ d. if d then None else sight ls x) (listed_of x e) in
    λ j x. one x j

pub seen-entered : (variables values : List Layer) (own read : Layer) (k : ℕ) (ds : List Decl) (es : Eqns)
    → says own ≡ says_numbers k (declared ds) → says read ≡ says_seen (names_in es) (sight (variables ++ own ∷ []))
    → seen_as (variables ++ own ∷ []) (values ++ read ∷ []) ≡ seen_in k (block ds es) (seen_as variables values)
seen-entered variables values own read k ds es h g =
    let inner = variables ++ own ∷ [] in
    let a : sight inner ≡ over (numbered k (declared ds)) (sight variables) = sight-numbers variables own k (declared ds) h in
    let one : (x : List ℕ) → sight (values ++ read ∷ []) x ≡ (if some_defines es x then over (numbered k (declared ds)) (sight variables) x else sight values x) =
    λ x. sight-seen values read (names_in es) (sight inner) x g
    ∙ ap (λ d. if d then sight inner x else sight values x) (listed_in x es)
    ∙ ap (λ (f : Sight). if some_defines es x then f x else sight values x) a in
    λ j. record { variables = a j; values = λ x. one x j }
