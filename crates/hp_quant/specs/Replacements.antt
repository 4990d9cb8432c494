-- Functions in the place of variables, all at once.
use Rattle.std.specs.Prelude.{◌≡◌, ℕ, Bool, List, Option, Some, None, slice_get, slice_index_or}
use Rattle.std.specs.Option.{option_map_or}
use Rattle.hp_diagram.specs.declared.reference.Ref.{Ref}
use Rattle.hp_diagram.specs.Diagrams.{Diagrams, function, Has, Means}
use Rattle.hp_quant.specs.declared.memo.Memo.{Memo}
use Rattle.hp_quant.specs.Memo.{Knows}

module _ (t : Diagrams) (by : List (Option Ref)) where
  -- the valuation that the replacements give: at a variable the value of its function, or its own where it has none
  abbrev pub replaced : (ℕ → Bool) → ℕ → Bool
  replaced v x = option_map_or (λ g. function t g v) (slice_index_or by x None) (v x)

  -- the table has the replacements
  abbrev pub HasAll : Type 0
  HasAll = (x : ℕ) (g : Ref) → slice_index_or by x None ≡ Some g → Has t g

  -- s is the function of r at the valuation that the replacements give
  pub record Composes (r s : Ref) : Type 0 where
    pub has_r : Has t r
    pub means : Means t (λ v. function t r (replaced v)) s

  -- what the pass has found is right
  abbrev pub AllComposed : Memo → Type 0
  AllComposed m = (r s : Ref) → Knows m r s → Composes r s

-- each of some references has the function of the one of its place in the old table, at the valuation that the replacements give
abbrev pub AreComposed : Diagrams → Diagrams → List (Option Ref) → List Ref → List Ref → Type 0
AreComposed old new by refs made = (i : ℕ) (r s : Ref) → slice_get refs i ≡ Some r → slice_get made i ≡ Some s → Means new (λ v. function old r (replaced old by v)) s
