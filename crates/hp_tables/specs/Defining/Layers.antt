-- What blocks and control equations say of names, as functions of them.
use Rattle.std.specs.Prelude.{ℕ, ◌+◌, Bool, is_some, if◌then◌else◌, List, [], ◌∷◌, Option, None, Some, option_map}
use Rattle.std.specs.Str.{bytes_eq}
use Rattle.indexmap.specs.IndexMap.{get_by}
use Rattle.hp_tables.specs.declared.defining.layer.Layer.{Layer}

-- the numbers of names, where they have one
abbrev pub Sight : Type 0
Sight = List ℕ → Option ℕ

module _ {A : Type 0} where
  abbrev pub put_at : (List ℕ → Option A) → List ℕ → A → List ℕ → Option A
  put_at f y v x = if bytes_eq y x then Some v else f x

  abbrev pub no_entry : List ℕ → Option A
  no_entry x = None

-- the number of a name among others that are numbered from k on
abbrev pub numbered : ℕ → List (List ℕ) → List ℕ → Option ℕ
numbered k [] x = None
numbered k (y ∷ ys) x = if bytes_eq y x then Some k else numbered (k + 1) ys x

-- ---- layers: what a block, or a control equation, says of names: their numbers, or that they have none

abbrev pub says : Layer → List ℕ → Option (Option ℕ)
says l x = get_by (λ k. bytes_eq x k.now) l.names

-- some names have numbers from k on
abbrev pub says_numbers : ℕ → List (List ℕ) → List ℕ → Option (Option ℕ)
says_numbers k names x = option_map Some (numbered k names x)

-- some names have the numbers by which they are seen, if any
abbrev pub says_seen : List (List ℕ) → Sight → List ℕ → Option (Option ℕ)
says_seen [] see x = None
says_seen (y ∷ ys) see x = if bytes_eq y x then Some (see x) else says_seen ys see x

-- what the innermost layer says that says something; the outermost stands first
abbrev pub said : List Layer → List ℕ → Option (Option ℕ)
said [] x = None
said (l ∷ ls) x = elim (said ls x) [ None ↦ says l x | Some s ↦ Some s ]

abbrev pub or_none : Option (Option ℕ) → Option ℕ
or_none None = None
or_none (Some s) = s

abbrev pub sight : List Layer → Sight
sight ls x = or_none (said ls x)

-- ---- what one layer says

abbrev pub is_said : Layer → List ℕ → Bool
is_said l x = is_some (says l x)

abbrev pub own_of : Layer → Sight
own_of l x = or_none (says l x)
