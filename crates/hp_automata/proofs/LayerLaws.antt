-- What stands for names, layer by layer, and which types are known.
use Rattle.std.proofs.Common.{◌≡◌, ℕ, ◌+◌, ◌<◌, ◌≤◌, get_or, length, take, drop, Bool, true, false, if◌then◌else◌, List, [], ◌∷◌, ◌++◌, is_some, refl, sym, ap, ◌∙◌, arith}
use Rattle.std.proofs.lemmas.List.{take_all, length-append, take-append-le}
use Rattle.std.proofs.Math.Seq.{take-suc}
use Rattle.std.proofs.Math.Numerals.{add-one}
use Rattle.hp_base.specs.declared.ty.Ty.{Ty}
use Rattle.hp_base.specs.Known.Known.{lookup, with_entry}
use Rattle.hp_tree.specs.declared.program.Item.{Item}
use Rattle.hp_tree.specs.Blocks.{Decl}
use Rattle.hp_automata.specs.declared.around.Layer.{Layer}
use Rattle.hp_automata.specs.NewNames.{value_name}
use Rattle.hp_automata.specs.Names.{is_name}
use Rattle.hp_automata.specs.Lowering.{Types, declaring, Enumerations, with_item, enumerations, Frame, inner}
use Rattle.hp_automata.specs.Lists.{names_seen}
use Rattle.hp_automata.specs.Held.{said_by, said_over, said}
use Rattle.hp_automata.proofs.ListLaws.{drop-next}

pub take-next : {A : Type 0} (xs : List A) (i : ℕ) (x : A) → i < length xs → x ≡ get_or xs i x → take (i + 1) xs ≡ take i xs ++ x ∷ []
take-next xs i x h p = ap (λ n. take n xs) (add-one i) ∙ take-suc xs i x h ∙ ap (λ y. take i xs ++ y ∷ []) (sym p)

-- ---- layers, the outermost first

over-last : (to : List ℕ → List ℕ) (ls : List Layer) (l : Layer) → said_over to (ls ++ l ∷ []) ≡ said_by l (said_over to ls)
over-last to [] l = refl
over-last to (m ∷ ls) l = over-last (said_by m to) ls l

-- the innermost layer goes first
pub said-last : (ls : List Layer) (l : Layer) → said (ls ++ l ∷ []) ≡ said_by l (said ls)
said-last ls l = over-last (λ y. y) ls l

module _ (ls : List Layer) (i k : ℕ) (l : Layer) (x : List ℕ) (next : k ≡ i + 1) (h : i < length ls) (p : l ≡ get_or ls i l) where
  said_next : said (take k ls) x ≡ (if is_name (names_seen l.names.names.items) x then value_name l.depth l.state x else said (take i ls) x)
  said_next = ap (λ n. said (take n ls) x) next ∙ ap (λ more. said more x) (take-next ls i l h p) ∙ ap (λ f. f x) (said-last (take i ls) l)

  pub said-here : is_name (names_seen l.names.names.items) x ≡ true → said (take k ls) x ≡ value_name l.depth l.state x
  said-here e = said_next ∙ ap (λ d. if d then value_name l.depth l.state x else said (take i ls) x) e

  pub said-further : is_name (names_seen l.names.names.items) x ≡ false → said (take k ls) x ≡ said (take i ls) x
  said-further e = said_next ∙ ap (λ d. if d then value_name l.depth l.state x else said (take i ls) x) e

pub said-all : (ls : List Layer) (x : List ℕ) → said (take (length ls) ls) x ≡ said ls x
said-all ls x = ap (λ more. said more x) (take_all (length ls) ls (omega arith))

-- what stands for names in a state
pub said-inner : (ls : List Layer) (l : Layer) (f : Frame) (k : ℕ) → is_name (names_seen l.names.names.items) ≡ is_name f.names → l.depth ≡ f.depth → l.state ≡ k
    → said (ls ++ l ∷ []) ≡ inner (said ls) f k
said-inner ls l f k names depth state =
    let one : said_by l (said ls) ≡ inner (said ls) f k = λ j x. if names j x then value_name (depth j) (state j) x else said ls x in
    said-last ls l ∙ one

-- ---- types

pub declaring-next : (types : Types) (ds : List Decl) (i : ℕ) (d : Decl) → i < length ds → d ≡ get_or ds i d
    → declaring types (drop i ds) ≡ declaring (with_entry types d.name d.ty) (drop (i + 1) ds)
declaring-next types ds i d h p = ap (λ more. declaring types more) (drop-next ds i d h p)

entry_by : (types : Types) (x : List ℕ) (t : Ty) (n : ℕ) (b : Bool) → n ≤ length types
    → (n ≤ length (if b then types else types ++ (x, t) ∷ [])) × (take n (if b then types else types ++ (x, t) ∷ []) ≡ take n types)
entry_by types x t n true h = (h, refl)
entry_by types x t n false h = (omega (arith, length-append types ((x, t) ∷ [])), take-append-le n types ((x, t) ∷ []) h)

declaring_front : (ds : List Decl) (types : Types) (n : ℕ) → n ≤ length types → take n (declaring types ds) ≡ take n types
declaring_front [] types n h = refl
declaring_front (d ∷ ds) types n h =
    let here = entry_by types d.name d.ty n (is_some (lookup types d.name)) h in
    declaring_front ds (with_entry types d.name d.ty) n here.0 ∙ here.1

-- types that were known before are known again behind a block
pub declaring-left : (types : Types) (ds : List Decl) → take (length types) (declaring types ds) ≡ types
declaring-left types ds = declaring_front ds types (length types) (omega arith) ∙ take_all (length types) types (omega arith)

pub enumerations-next : (known : Enumerations) (items : List Item) (i : ℕ) (item : Item) → i < length items → item ≡ get_or items i item
    → enumerations known (drop i items) ≡ enumerations (with_item known item) (drop (i + 1) items)
enumerations-next known items i item h p = ap (λ more. enumerations known more) (drop-next items i item h p)
