-- Which of some things, each at a place of a text, is the first in it.
-- Source: own; the order of places is that of reading.
use Rattle.std.specs.Prelude.{◌≡◌, Bool, true, false, ◌||◌, ◌&&◌, nat_eq, nat_lt, List, ◌∷◌, ◌++◌, Option, None, Some, if◌then◌else◌}
use Rattle.std.specs.List.{list_all, list_any}
use Rattle.hp_base.specs.declared.span.Span.{Span}

-- whether a place stands before another in the text
abbrev pub is_before : Span → Span → Bool
is_before p q = nat_lt p.line q.line || (nat_eq p.line q.line && nat_lt p.col q.col)

-- a place stands at itself
abbrev pub itself : Span → Span
itself at = at

module _ {T : Type 0} (place : T → Span) where
  -- One of some in a list is the first by its place: those earlier in the list stand behind it, and those later in the list not before it. So of two at one place it is the first in the list.
  pub record IsFirst (all : List T) (this : T) : Type 0 where
    pub earlier : List T
    pub later : List T
    pub split : all ≡ earlier ++ this ∷ later
    pub behind : list_all (λ other. is_before (place this) (place other)) earlier ≡ true
    pub not_before : list_any (λ other. is_before (place other) (place this)) later ≡ false

  -- the first of what is found so far and of one more
  abbrev pub sooner : Option T → T → Option T
  sooner None b = Some b
  sooner (Some a) b = if is_before (place b) (place a) then Some b else Some a

  -- the first of what is found so far and of what is found elsewhere
  abbrev pub merged : Option T → Option T → Option T
  merged found None = found
  merged found (Some b) = sooner found b
