-- A table that keeps only what its roots reach.
use Rattle.std.specs.Prelude.{◌≡◌, ◌⊎◌, ℕ, ◌<◌, List, [], length, Option, Some, None, is_some, slice_index_or}
use Rattle.slab.specs.Slab.{Slab, get}
use Rattle.hp_diagram.specs.declared.reference.Ref.{Ref}
use Rattle.hp_diagram.specs.declared.reference.Branch.{Branch}
use Rattle.hp_diagram.specs.Diagrams.{Diagrams, function, Has, branch_of, IsReduced, Means}
use Rattle.hp_quant.specs.declared.memo.Memo.{Memo}
use Rattle.hp_quant.specs.Memo.{Knows}

module _ (t : Diagrams) where
  -- some path from the first reference comes to the second
  pub data Reaches : Ref → Ref → Type 0 where
    here : {r : Ref} → Reaches r r
    by_low : {r s : Ref} {b : Branch} → branch_of t r ≡ Some b → Reaches b.low s → Reaches r s
    by_high : {r s : Ref} {b : Branch} → branch_of t r ≡ Some b → Reaches b.high s → Reaches r s

module _ (old new : Diagrams) where
  -- s has in the new table the function that r has in the old one
  pub record IsCopy (r s : Ref) : Type 0 where
    pub has : Has old r
    pub means : Means new (function old r) s

  -- what the pass has copied is right
  abbrev pub AllCopied : Memo → Type 0
  AllCopied m = (r s : Ref) → Knows m r s → IsCopy r s

  -- the roots have their keys and functions, and the new table has nothing but what they reach
  pub record IsSwept (before after : Slab Ref) : Type 0 where
    pub reduced : IsReduced new
    pub vars : new.vars ≡ old.vars
    pub answers : new.answers ≡ []
    pub keys : (key : ℕ) → is_some (get after key) ≡ is_some (get before key)
    pub roots : (key : ℕ) (r s : Ref) → get before key ≡ Some r → get after key ≡ Some s → Means new (function old r) s
    pub reached : (s : Ref) → Has new s → (s.index < 2) ⊎ ((key : ℕ) × (r : Ref) × (get after key ≡ Some r) × Reaches new r s)

  -- the roots below a key have copies, each at its key, and the new table has nothing but what these reach
  pub record AreMoved (roots : Slab Ref) (moved : List (Option Ref)) (count : ℕ) : Type 0 where
    pub reduced : IsReduced new
    pub vars : new.vars ≡ old.vars
    pub answers : new.answers ≡ []
    pub len : length moved ≡ count
    pub keys : (key : ℕ) → key < count → is_some (slice_index_or moved key None) ≡ is_some (get roots key)
    pub copies : (key : ℕ) (r s : Ref) → key < count → get roots key ≡ Some r → slice_index_or moved key None ≡ Some s → IsCopy r s
    pub reached : (s : Ref) → Has new s → (s.index < 2) ⊎ ((key : ℕ) × (r : Ref) × (slice_index_or moved key None ≡ Some r) × Reaches new r s)

-- the table has the roots
abbrev pub HasRoots : Diagrams → Slab Ref → Type 0
HasRoots t roots = (key : ℕ) (r : Ref) → get roots key ≡ Some r → Has t r

-- the roots have their places in both
abbrev pub HaveSameKeys : Slab Ref → List (Option Ref) → Type 0
HaveSameKeys roots moved = (key : ℕ) → is_some (slice_index_or moved key None) ≡ is_some (get roots key)
