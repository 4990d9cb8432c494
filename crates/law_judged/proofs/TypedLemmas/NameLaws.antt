-- What is known of names where they are well used: each name in scope has an entry.
use Rattle.std.proofs.Common.{◌≡◌, ℕ, zero, suc, ◌<◌, Bool, true, false, if◌then◌else◌, List, [], ◌∷◌, ◌++◌, Option, None, Some, IsSome, is_some, get_or, Contains, ◌⊎◌, inl, inr, refl, arith}
use Rattle.std.specs.Cmp.Lexicographic.{nat_list_eq_equiv}
use Rattle.std.specs.Str.{bytes_eq}
use Rattle.std.proofs.lemmas.List.Elements.{Contains-append_cases}
use Rattle.hp_base.specs.declared.span.Span.{Span}
use Rattle.hp_base.specs.declared.ty.Const.{Const}
use Rattle.hp_tree.specs.declared.program.Item.{Item}
use Rattle.hp_tree.specs.declared.program.Item.TheVariants.{TypeItem, NodeItem}
use Rattle.hp_tree.specs.Blocks.{Decl, Block, block}
use Rattle.hp_tree.specs.Programs.{Node}
use Rattle.hp_names.specs.Names.{has, with_name, with_names, names_at}
use Rattle.hp_names.specs.Scopes as names
use Rattle.hp_base.specs.Known.Known.{lookup, with_entry}
use Rattle.law_judged.specs.Typed.Scopes.{Scope, NameScope}
use Rattle.hp_typing.specs.Scopes.{nothing, with_variables, inside, inside_node, with_constructors, behind}

-- ---- entries

no_name : (x : List ℕ) (k : ℕ) → k < 0 → ⊥
no_name x k h = omega arith

same_one : (y x : List ℕ) (k : ℕ) → k < 1 → get_or (y ∷ []) k x ≡ x → y ≡ x
same_one y x zero h e = e
same_one y x (suc k) h e = absurd (omega arith)

module _ {A : Type 0} where
  -- each of the names has an entry
  abbrev pub Finds : List (List ℕ × A) → List (List ℕ) → Type 0
  Finds es known = (x : List ℕ) → Contains known x → IsSome (lookup es x)

  lookup-front : (es fs : List (List ℕ × A)) (x : List ℕ) → IsSome (lookup es x) → IsSome (lookup (es ++ fs) x)
  lookup-front [] fs x h = absurd cc
  lookup-front (e ∷ es) fs x h = by (bytes_eq x e.0) (lookup-front es fs x) h
    where
      by : (here : Bool) → (IsSome (lookup es x) → IsSome (lookup (es ++ fs) x)) → IsSome (if here then Some e.1 else lookup es x)
          → IsSome (if here then Some e.1 else lookup (es ++ fs) x)
      by true rest h = refl
      by false rest h = rest h

  lookup-last : (es : List (List ℕ × A)) (x : List ℕ) (a : A) → IsSome (lookup (es ++ (x, a) ∷ []) x)
  lookup-last [] x a = rw (nat_list_eq_equiv.refl x) refl
  lookup-last (e ∷ es) x a = by (bytes_eq x e.0) (lookup-last es x a)
    where
      by : (here : Bool) → IsSome (lookup (es ++ (x, a) ∷ []) x) → IsSome (if here then Some e.1 else lookup (es ++ (x, a) ∷ []) x)
      by true rest = refl
      by false rest = rest

  -- what has an entry keeps it, and the new name has one
  lookup-kept : (es : List (List ℕ × A)) (y : List ℕ) (a : A) (x : List ℕ) → IsSome (lookup es x) → IsSome (lookup (with_entry es y a) x)
  lookup-kept es y a x h = by (is_some (lookup es y))
    where
      by : (known : Bool) → IsSome (lookup (if known then es else es ++ (y, a) ∷ []) x)
      by true = h
      by false = lookup-front es ((y, a) ∷ []) x h

  lookup-own : (es : List (List ℕ × A)) (y : List ℕ) (a : A) → IsSome (lookup (with_entry es y a) y)
  lookup-own es y a = by (is_some (lookup es y)) refl
    where
      by : (known : Bool) → is_some (lookup es y) ≡ known → IsSome (lookup (if known then es else es ++ (y, a) ∷ []) y)
      by true h = h
      by false h = lookup-last es y a

  pub finds_still : (es : List (List ℕ × A)) (known : List (List ℕ)) (y : List ℕ) (a : A) → Finds es known → Finds (with_entry es y a) known
  finds_still es known y a f x h = lookup-kept es y a x (f x h)

  pub finds_more : (es : List (List ℕ × A)) (known : List (List ℕ)) (y : List ℕ) (a : A) → Finds es known → Finds (with_entry es y a) (with_name known y)
  finds_more es known y a f x = by (has known y)
    where
      new : Contains known x ⊎ Contains (y ∷ []) x → IsSome (lookup (with_entry es y a) x)
      new (inl h) = lookup-kept es y a x (f x h)
      new (inr h) = rw (← same_one y x h.0 h.1 h.2) (lookup-own es y a)

      by : (old : Bool) → Contains (if old then known else known ++ y ∷ []) x → IsSome (lookup (with_entry es y a) x)
      by true h = lookup-kept es y a x (f x h)
      by false h = new (Contains-append_cases known (y ∷ []) x h)

pub finds_constructors : (es : List (List ℕ × List ℕ)) (known : List (List ℕ)) (at : Span) (t : List ℕ) (cs : List (List ℕ)) → Finds es known
    → Finds (with_constructors es t cs) (with_names known (names_at at cs))
finds_constructors es known at t [] f = f
finds_constructors es known at t (c ∷ cs) f = finds_constructors (with_entry es c t) (with_name known c) at t cs (finds_more es known c t f)

-- ---- scopes

-- Each name in one scope has an entry in the other. What `last` may be said of is a variable.
pub record Covers (s : Scope) (n : NameScope) : Type 0 where
  pub of_types : Finds s.types n.types
  pub of_constructors : Finds s.constructors n.constructors
  pub of_nodes : Finds s.nodes n.nodes
  pub of_variables : Finds s.variables n.variables
  pub of_lasts : Finds s.variables n.lasts

pub covers_nothing : Covers nothing names.nothing
covers_nothing = record {
  of_types = λ x h. absurd (no_name x h.0 h.1);
  of_constructors = λ x h. absurd (no_name x h.0 h.1);
  of_nodes = λ x h. absurd (no_name x h.0 h.1);
  of_variables = λ x h. absurd (no_name x h.0 h.1);
  of_lasts = λ x h. absurd (no_name x h.0 h.1);
}

covers_variable : (s : Scope) (n : NameScope) (d : Decl) (first : Option Const) → Covers s n
    → Covers (record s { variables = with_entry s.variables d.name d.ty }) (names.with_variable n d first)
covers_variable s n d None k = record {
  of_types = k.of_types;
  of_constructors = k.of_constructors;
  of_nodes = k.of_nodes;
  of_variables = finds_more s.variables n.variables d.name d.ty k.of_variables;
  of_lasts = finds_still s.variables n.lasts d.name d.ty k.of_lasts;
}
covers_variable s n d (Some first) k = record {
  of_types = k.of_types;
  of_constructors = k.of_constructors;
  of_nodes = k.of_nodes;
  of_variables = finds_more s.variables n.variables d.name d.ty k.of_variables;
  of_lasts = finds_more s.variables n.lasts d.name d.ty k.of_lasts;
}

pub covers_variables : (s : Scope) (n : NameScope) (ds : List Decl) → Covers s n → Covers (with_variables s ds) (names.with_variables n ds)
covers_variables s n [] k = k
covers_variables s n (d ∷ ds) k =
    covers_variables (record s { variables = with_entry s.variables d.name d.ty }) (names.with_variable n d d.last) ds (covers_variable s n d d.last k)

pub covers_inside : (s : Scope) (n : NameScope) (b : Block) → Covers s n → Covers (inside s b) (names.inside n b)
covers_inside s n (block ds es) k = covers_variables s n ds k

pub covers_node : (s : Scope) (n : NameScope) (m : Node) → Covers s n → Covers (inside_node s m) (names.inside_node n m)
covers_node s n m k = covers_variables (with_variables s m.inputs) (names.with_variables n m.inputs) m.outputs (covers_variables s n m.inputs k)

pub covers_behind : (s : Scope) (n : NameScope) (item : Item) → Covers s n → Covers (behind s item) (names.behind n item)
covers_behind s n (TypeItem t) k = record {
  of_types = finds_more s.types n.types t.name t k.of_types;
  of_constructors = finds_constructors s.constructors n.constructors t.span t.name t.cons k.of_constructors;
  of_nodes = k.of_nodes;
  of_variables = k.of_variables;
  of_lasts = k.of_lasts;
}
covers_behind s n (NodeItem m) k = record {
  of_types = k.of_types;
  of_constructors = k.of_constructors;
  of_nodes = finds_more s.nodes n.nodes m.name m k.of_nodes;
  of_variables = k.of_variables;
  of_lasts = k.of_lasts;
}
