-- What a contract sees of a `Table`: ordered decision diagrams, after Bryant, "Graph-Based Algorithms for Boolean
-- Function Manipulation" (1986).
use Rattle.std.specs.Prelude.{◌≡◌, ◌≢◌, ◌==◌, ◌⊎◌, ℕ, zero, suc, ◌+◌, ◌<◌, ◌^◌, ◌≤◌, Bool, false, true, ◌&&◌, nat_lt, List, [], ◌∷◌, ◌++◌, length, slice_get, slice_index_or, Option, Some, None, All, Contains, if◌then◌else◌}
use Rattle.std.specs.Option.{option_map_or}
use Rattle.hp_diagram.specs.declared.reference.Ref.{Ref}
use Rattle.hp_diagram.specs.declared.reference.Branch.{Branch}
use Rattle.hp_diagram.specs.declared.question.Question.{Question}
use Rattle.hp_diagram.specs.declared.question.Split.{Split}
use Rattle.hp_diagram.specs.declared.recent.Answered.{Answered}

-- the number of variables, the nodes in the order of their references, and the answers that are kept
pub record Diagrams : Type 0 where
  pub vars : ℕ
  pub nodes : List Branch
  pub answers : List (Question × Ref)

-- the references of false and of true
abbrev pub zero_ref : Ref
zero_ref = record { index = 0 }

abbrev pub one_ref : Ref
one_ref = record { index = 1 }

-- the node of an index: none at 0, which is false, and at 1, which is true, and the first of the list at 2
abbrev pub branch_at : List Branch → ℕ → Option Branch
branch_at nodes zero = None
branch_at nodes (suc zero) = None
branch_at nodes (suc (suc i)) = slice_get nodes i

-- the child on which the path goes on at a valuation: the high one where the node's variable is true
abbrev pub child : Branch → (ℕ → Bool) → Ref
child b v = if v b.var then b.high else b.low

-- whether the path from an index ends at 1 within so many nodes
unfoldable pub path_end : ℕ → List Branch → (ℕ → Bool) → ℕ → Bool
path_end zero nodes v i = i == 1
path_end (suc most) nodes v i = option_map_or (λ b. path_end most nodes v (child b v).index) (branch_at nodes i) (i == 1)

module _ (t : Diagrams) where
  -- the function of a reference: the end of its path, on which each index is below the one before
  abbrev pub function : Ref → (ℕ → Bool) → Bool
  function r v = path_end r.index t.nodes v r.index

  -- the table has the reference
  abbrev pub Has : Ref → Type 0
  Has r = r.index < length t.nodes + 2

  -- the node of a reference
  abbrev pub branch_of : Ref → Option Branch
  branch_of r = branch_at t.nodes r.index

  -- the variable of a reference's node, and behind all variables where it has none
  abbrev pub level : Ref → ℕ
  level r = option_map_or (λ b. b.var) (branch_of r) t.vars

  -- the node may stand at this index: its children stand below it, differ, and have later variables
  pub record IsNode (i : ℕ) (b : Branch) : Type 0 where
    pub low : b.low.index < i
    pub high : b.high.index < i
    pub differ : b.low ≢ b.high
    pub var : b.var < t.vars
    pub low_later : b.var < level b.low
    pub high_later : b.var < level b.high

  -- each node may stand where it stands, and no node stands twice
  pub record IsReduced : Type 0 where
    pub nodes : (i : ℕ) (b : Branch) → branch_at t.nodes i ≡ Some b → IsNode i b
    pub distinct : (i j : ℕ) (b : Branch) → branch_at t.nodes i ≡ Some b → branch_at t.nodes j ≡ Some b → i ≡ j

  -- the table has the reference, and it is the one of this function
  pub record Means (f : (ℕ → Bool) → Bool) (r : Ref) : Type 0 where
    pub has : Has r
    pub value : (v : ℕ → Bool) → function r v ≡ f v

  -- g where f is true, and h elsewhere
  abbrev pub choice : Ref → Ref → Ref → (ℕ → Bool) → Bool
  choice f g h v = if function f v then function g v else function h v

  -- the question is on references of the table, and this is its answer
  pub record IsAnswer (q : Question) (r : Ref) : Type 0 where
    pub f : Has q.f
    pub g : Has q.g
    pub h : Has q.h
    pub means : Means (choice q.f q.g q.h) r

  -- so it is with each question and its answer
  abbrev pub AreAnswers : List Answered → Type 0
  AreAnswers recent = All (λ (a : Answered). IsAnswer a.question a.answer) recent

  -- what holds of every table
  pub record IsSound : Type 0 where
    pub reduced : IsReduced
    pub answers : (q : Question) (r : Ref) → Contains t.answers (q, r) → IsAnswer q r

abbrev pub answered : Question → Ref → Answered
answered q r = record { question = q; answer = r }

-- false where false is true, and else false: what stands where no answer was found yet
abbrev pub IsNothing : Answered → Type 0
IsNothing a = a ≡ answered (record { f = zero_ref; g = zero_ref; h = zero_ref }) zero_ref

-- a question in one order: "f and g" and "f or h" ask first for the earlier of the two
abbrev pub turned : Ref → Ref → Ref → Question
turned f g h =
    if (h.index == 0) && nat_lt g.index f.index
    then record { f = g; g = f; h = h }
    else (if (g.index == 1) && nat_lt h.index f.index
    then record { f = h; g = g; h = f }
    else record { f = f; g = g; h = h })

-- what a reference is where f is true, and where it is false: f itself is true there, and false
abbrev pub where_true : Ref → Ref → Ref
where_true f g = if g.index == f.index then one_ref else g

abbrev pub where_false : Ref → Ref → Ref
where_false f h = if h.index == f.index then zero_ref else h

-- the question under which an answer is kept
abbrev pub ordered : Ref → Ref → Ref → Question
ordered f g h = turned f (where_true f g) (where_false f h)

-- the table keeps r as the answer to "g where f is true, and h elsewhere"
abbrev pub IsKept : Diagrams → Ref → Ref → Ref → Ref → Type 0
IsKept t f g h r = Contains t.answers (ordered f g h, r)

-- the valuation that a list of values gives, false behind its end
abbrev pub valuation : List Bool → ℕ → Bool
valuation values x = slice_index_or values x false

-- whatever values the references have, r has the one of g where that of f is true, and else the one of h
pub record Picks (f g h r : Ref) : Type 0 where
  pub among : (r ≡ f) ⊎ (r ≡ g) ⊎ (r ≡ h)
  pub value : (value : ℕ → Bool) → value 0 ≡ false → value 1 ≡ true → value r.index ≡ (if value f.index then value g.index else value h.index)

-- how far the references of a question lie from the start
abbrev pub size : Question → ℕ
size q = q.f.index + q.g.index + q.h.index

module _ (t : Diagrams) where
  -- the question is on references of the table whose variables come after x
  pub record IsAfter (x : ℕ) (q : Question) : Type 0 where
    pub f : Has t q.f
    pub g : Has t q.g
    pub h : Has t q.h
    pub f_later : x < level t q.f
    pub g_later : x < level t q.g
    pub h_later : x < level t q.h

  -- the question falls into two by its first variable
  pub record IsSplit (q : Question) (s : Split) : Type 0 where
    pub var : s.var < t.vars
    pub low : IsAfter s.var s.low
    pub high : IsAfter s.var s.high
    pub low_smaller : size s.low < size q
    pub high_smaller : size s.high < size q
    pub value : (v : ℕ → Bool) → choice t q.f q.g q.h v ≡ (if v s.var then choice t s.high.f s.high.g s.high.h v else choice t s.low.f s.low.g s.low.h v)

  -- the function of r is the one of high where x is true, and the one of low elsewhere
  pub record HasChildren (r : Ref) (x : ℕ) (low high : Ref) : Type 0 where
    pub has_low : Has t low
    pub has_high : Has t high
    pub low_later : x < level t low
    pub high_later : x < level t high
    pub low_below : low.index ≤ r.index
    pub high_below : high.index ≤ r.index
    pub below : level t r ≡ x → (low.index < r.index) × (high.index < r.index)
    pub value : (v : ℕ → Bool) → function t r v ≡ (if v x then function t high v else function t low v)

-- the new list has the node at this place: it stood there, or it is a new one behind all others
pub record Stores (old new : List Branch) (b : Branch) (place : ℕ) : Type 0 where
  pub stands : slice_get new place ≡ Some b
  pub grows : (new ≡ old) ⊎ ((new ≡ old ++ b ∷ []) × (place ≡ length old) × ((i : ℕ) → slice_get old i ≢ Some b))
  pub small : place < 2 ^ 63

-- every reference of the old table is one of the new, with its node and its function
pub record Keeps (old new : Diagrams) : Type 0 where
  pub reduced : IsReduced new
  pub vars : new.vars ≡ old.vars
  pub has : (r : Ref) → Has old r → Has new r
  pub branches : (r : Ref) → Has old r → branch_of new r ≡ branch_of old r
  pub functions : (r : Ref) → Has old r → (v : ℕ → Bool) → function new r v ≡ function old r v
