-- What is surveyed and watched, from what its parts give.
use Rattle.std.proofs.Common.{◌≡◌, ℕ, Bool, List, ◌++◌, length, slice_get, Option, None, Some, subst, sym, ap, ap₂, ◌∙◌}
use Rattle.std.proofs.lemmas.List.{append_assoc, append-nil}
use Rattle.hp_tree.specs.Programs.{Node}
use Rattle.hp_obc.specs.Machines.{ObcType}
use Rattle.hp_flat.specs.Equations.{FlatEqn}
use Rattle.hp_flat.specs.Nodes.{FlatNode}
use Rattle.hp_watch.specs.declared.embedding.Shift.{Shift}
use Rattle.hp_watch.specs.declared.watching.Free.{Free}
use Rattle.hp_watch.specs.Walk.{events_from, in_block}
use Rattle.hp_watch.specs.Watching.{free_of, free_by, free_at, Observing, Placed, free_placed_by, free_placed, free_moved, called_by, shift_at, walked, IsSurveyed, Watched, with_places, unwatched, IsWatched, Fits}

-- ---- by numbers

pub none-free : (n : FlatNode) (k : ℕ) (into : List Free) → slice_get n.eqns k ≡ None → into ≡ into ++ free_at n k
none-free n k into e = sym (ap (λ o. into ++ free_of n k o) e ∙ append-nil into)

pub some-free : (n : FlatNode) (k : ℕ) (into new : List Free) (e : FlatEqn) → slice_get n.eqns k ≡ Some e → new ≡ into ++ free_by n k e.right e.targets → new ≡ into ++ free_at n k
some-free n k into new e at is = is ∙ ap (λ o. into ++ free_of n k o) (sym at)

pub none-placed : (o : Observing) (p : Placed) (k : ℕ) (into : List Free) → slice_get p.node.eqns k ≡ None → into ≡ into ++ free_placed o p k
none-placed o p k into e = sym (ap (λ q. into ++ free_placed_by o p k q) e ∙ append-nil into)

pub some-placed : (o : Observing) (p : Placed) (k : ℕ) (into middle new : List Free) (e : FlatEqn) (shift : Option Shift) → slice_get p.node.eqns k ≡ Some e → middle ≡ into ++ free_by p.node k e.right e.targets → shift ≡ shift_at p.shifts k
    → new ≡ middle ++ free_moved (called_by o e.right) shift → new ≡ into ++ free_placed o p k
some-placed o p k into middle new e shift at is_middle is_shift is_new =
    is_new
    ∙ ap₂ (λ m s. m ++ free_moved (called_by o e.right) s) is_middle is_shift
    ∙ append_assoc into (free_by p.node k e.right e.targets) (free_moved (called_by o e.right) (shift_at p.shifts k))
    ∙ ap (λ q. into ++ free_placed_by o p k q) (sym at)

-- ---- a node that is watched

module _ (types : List ObcType) (observers : Observing) (node : Node) (is_early : List Bool) (n : FlatNode) where
  surveyed_here : (inputs : ℕ) (order : List ℕ) (start other : FlatNode) (free : List Free) → inputs ≡ length node.inputs → order ≡ walked node n → start ≡ n → IsSurveyed observers inputs order start other free
      → IsSurveyed observers (length node.inputs) (walked node n) n other free
  surveyed_here inputs order start other free is_inputs is_order is_start s =
      subst (λ z. IsSurveyed observers (length node.inputs) (walked node n) z other free) is_start
      (subst (λ z. IsSurveyed observers (length node.inputs) z start other free) is_order (subst (λ z. IsSurveyed observers z order start other free) is_inputs s))

  pub watched-all : (inputs : ℕ) (order : List ℕ) (start other : FlatNode) (free : List Free) (w before : Watched) → in_block node.body ≡ length (events_from 0 n.eqns) → inputs ≡ length node.inputs → order ≡ walked node n → start ≡ n
      → IsSurveyed observers inputs order start other free → length free ≡ length is_early → before ≡ unwatched other → w ≡ with_places types free is_early before → IsWatched types observers node is_early n w
  watched-all inputs order start other free w before events is_inputs is_order is_start survey long is_before is =
      let s = surveyed_here inputs order start other free is_inputs is_order is_start survey in
      let fits : Fits observers node is_early n = record { events = events; own = s.own; has = s.has; places = ap length (sym s.places) ∙ long } in
      record { fits = fits; is = is ∙ ap₂ (λ fs b. with_places types fs is_early b) s.places (is_before ∙ ap unwatched s.node) }
