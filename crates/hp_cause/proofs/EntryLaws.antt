-- What is known inside a block and inside a control equation.
use Rattle.std.proofs.Common.{◌≡◌, ◌↔◌, IsSome, ℕ, zero, suc, ◌<◌, ◌≤◌, ◌-◌, length, take, Bool, true, false, is_some, if◌then◌else◌, List, [], ◌∷◌, ◌++◌, Option, None, Some, refl, sym, ap, ◌∙◌, arith}
use Rattle.std.specs.Option.{option_to_list}
use Rattle.std.proofs.lemmas.List.{append-nil, length-append, take-append-le}
use Rattle.std.proofs.Math.Seq.{take-length}
use Rattle.hp_tree.specs.Blocks.{Eqn}
use Rattle.hp_tree.specs.Meaning.{defines}
use Rattle.hp_tables.specs.declared.defining.layer.Layer.{Layer}
use Rattle.hp_tables.specs.Defining.Names.{listed, names_of}
use Rattle.hp_cause.specs.Gathering.{seen_within}
use Rattle.hp_cause.specs.Told.{front}
use Rattle.hp_tables.specs.Defining.Layers.{says, says_seen, is_said, sight}
use Rattle.hp_tables.proofs.DefiningLemmas.ListedLaws.{listed_of}
use Rattle.hp_cause.proofs.TableLaws.{says_listed, sight-seen}

-- ---- all but the last

pub front-more : {A : Type 0} (xs : List A) (x : A) → front (xs ++ x ∷ []) ≡ xs
front-more xs x =
    let shorter : length (xs ++ x ∷ []) - 1 ≡ length xs = omega (arith, length-append xs (x ∷ [])) in
    ap (λ n. take n (xs ++ x ∷ [])) shorter ∙ take-append-le (length xs) xs (x ∷ []) (omega arith) ∙ take-length xs

at_most_none : (n : ℕ) → (0 < n → ⊥) → n ≤ 0
at_most_none zero h = omega arith
at_most_none (suc n) h = absurd (h (omega arith))

nothing_left : {A : Type 0} (old new : List A) → old ≡ new → length old ≤ 0 → new ≡ front old
nothing_left [] new e h = sym e
nothing_left (x ∷ xs) new e h = absurd (omega arith)

pub front-left : {A : Type 0} (old new : List A) (r : Option A) → old ≡ new ++ option_to_list r → (IsSome r ↔ (0 < length old)) → new ≡ front old
front-left old new None e some = nothing_left old new (e ∙ append-nil new) (at_most_none (length old) (λ h. let no : false ≡ true = some.1 h in absurd cc))
front-left old new (Some x) e some = sym (ap front e ∙ front-more new x)

-- ---- what is hidden inside

pub sight-within : (ls : List Layer) (l : Layer) (e : Eqn) → says l ≡ says_seen (names_of e) (sight []) → sight (ls ++ l ∷ []) ≡ seen_within e (sight ls)
sight-within ls l e h =
    let one : (x : List ℕ) → sight (ls ++ l ∷ []) x ≡ seen_within e (sight ls) x =
    λ x. sight-seen ls l (names_of e) (sight []) x h ∙ ap (λ d. if d then None else sight ls x) (listed_of x e) in
    λ j x. one x j

is_said_by : (d : Bool) (s : Option ℕ) → is_some (if d then Some s else None) ≡ d
is_said_by true s = refl
is_said_by false s = refl

pub said-listed : (l : Layer) (names : List (List ℕ)) → says l ≡ says_seen names (sight []) → is_said l ≡ listed names
said-listed l names h =
    let one : (x : List ℕ) → is_said l x ≡ listed names x =
    λ x. ap (λ (f : List ℕ → Option (Option ℕ)). is_some (f x)) h
    ∙ ap (λ (o : Option (Option ℕ)). is_some o) (says_listed names (sight []) x)
    ∙ is_said_by (listed names x) None in
    λ j x. one x j

pub listed-defined : (names : List (List ℕ)) (e : Eqn) → names ≡ names_of e → listed names ≡ defines e
listed-defined names e h =
    let one : (x : List ℕ) → listed names x ≡ defines e x = λ x. ap (λ ys. listed ys x) h ∙ listed_of x e in
    λ j x. one x j
