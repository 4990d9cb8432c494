-- The equations that are made of a ready program without its automata read nothing that is undefined.
use Rattle.std.proofs.Common.{◌≡◌, ◌⊎◌, inl, inr, ℕ, zero, suc, ◌+◌, ◌<◌, ◌≤◌, Bool, true, false, nat_eq, ◌||◌, List, [], ◌∷◌, ◌++◌, length, map, reverse, Some, refl, sym, ap, subst, ◌∙◌, arith}
use Rattle.std.specs.Prelude.{slice_get, Contains}
use Rattle.std.specs.List.{AllByRecursion, flat_map}
use Rattle.std.proofs.lemmas.Bool.{cases_lt}
use Rattle.std.proofs.lemmas.Bool.Decides.{Decides-eqb}
use Rattle.std.proofs.lemmas.List.{append_assoc, reverse-reverse}
use Rattle.std.proofs.lemmas.List.Elements.{Contains-append_left, Contains-append_right, Contains-push}
use Rattle.hp_obc.specs.Machines.{ObcType}
use Rattle.hp_tree.specs.Blocks.{Decl}
use Rattle.hp_tree.specs.declared.program.Item.{Item}
use Rattle.hp_tree.specs.declared.program.Item.TheVariants.{TypeItem, NodeItem}
use Rattle.hp_tree.specs.Programs.{TypeDecl, Node}
use Rattle.hp_tree.specs.Meaning.{types_of, node_among, controls_of}
use Rattle.law_judged.specs.Named.Scoped.{EachNode}
use Rattle.hp_expand.specs.Numbering.{replaced}
use Rattle.law_values.specs.Valued.Values.{scope_behind}
use Rattle.hp_automata.specs.Lowering.{lowered_program}
use Rattle.law_automata.proofs.LowerableLemmas.Texts.{clocked_of, each_reverse}
use Rattle.hp_flat.specs.declared.equation.Atom.{Atom}
use Rattle.hp_flat.specs.declared.equation.Atom.TheVariants.{Variable, Value as Fixed}
use Rattle.hp_flat.specs.declared.node.FlatTy.{FlatTy}
use Rattle.hp_flat.specs.Equations.{Clock, Right, operator, register, called, FlatEqn}
use Rattle.hp_flat.specs.Nodes.{FlatNode}
use Rattle.law_equations.specs.Meaning.Fitting.{atom_variables, operands}
use Rattle.law_equations.specs.Meaning.Reactions.{has}
use Rattle.law_equations.specs.Meaning.Scheduling.{clock_variables, EqnWithin, IsWithin}
use Rattle.law_equations.specs.Made.Laws.{unplaced}
use Rattle.law_equations.specs.Made.Making.{Known, Sketch, next, numbers_from, sketch_node}
use Rattle.law_equations.specs.Made.Types.{obc_types}
use Rattle.law_automata.specs.Readied.Laws.{IsWhole}
use Rattle.law_automata.specs.Readied.Sound.{SoundBehind}
use Rattle.law_automata.proofs.ReadiedLemmas.SoundPrograms.{ready_sound_law}
use Rattle.law_automata.proofs.ReadiedLemmas.Whole.{whole_law}
use Rattle.law_values.specs.Accepted.Laws.{IsReady}
use Rattle.law_values.specs.Filled.Firsts.{TypesHaveConstructors}
use Rattle.law_automata.specs.Lowered.Removable.{IsRemovable}
use Rattle.hp_complete.specs.Declaring.{known_of}
use Rattle.hp_complete.specs.Made.{IsMadeOf, AreMadeOf}
use Rattle.law_equations.specs.Answered.Answering.{AreApart}
use Rattle.law_wellmade.specs.Timely.Tested.{AreTested}
use Rattle.law_wellmade.specs.Begun.Laws.{HasFewTypes}
use Rattle.law_wellmade.proofs.TestedLemmas.TestedPrograms.{tested_law}
use Rattle.law_wellmade.proofs.BegunLemmas.Keeping.{HasType}
use Rattle.law_wellmade.proofs.BegunLemmas.NamesApart.{lowered_apart}
use Rattle.law_wellmade.proofs.BegunLemmas.Grounds.{grounded}
use Rattle.law_wellmade.proofs.RegularLemmas.Good.{each_append, types_of_decls, inputs_of, HaveTypes, RestartGood, ClockGood, ArgsTyped, RightTyped, EqnGood}
use Rattle.law_wellmade.proofs.RegularLemmas.GoodPrograms.{NodeGood, ready_good}
use Rattle.law_wellmade.proofs.BegunLemmas.Items.{no_variables, some_constructors}
use Rattle.law_choices.specs.Closed.Closed.{IsTarget, IsGiven, variables_in, IsClosed, ClosedLaw, WithinLaw}
use Rattle.law_choices.proofs.ClosedLemmas.Filling.{is_target}
use Rattle.law_choices.proofs.ClosedLemmas.Nodes.{NodeFills, node_fills}

-- ---- lists

module _ {A : Type 0} where
  pub each_other : (P Q : A → Type 0) → ((x : A) → P x → Q x) → (xs : List A) → AllByRecursion P xs → AllByRecursion Q xs
  each_other P Q f [] h = tt
  each_other P Q f (x ∷ xs) h = (f x h.0, each_other P Q f xs h.1)

  pub each_both : (P Q R : A → Type 0) → ((x : A) → P x → Q x → R x) → (xs : List A) → AllByRecursion P xs → AllByRecursion Q xs → AllByRecursion R xs
  each_both P Q R f [] h g = tt
  each_both P Q R f (x ∷ xs) h g = (f x h.0 g.0, each_both P Q R f xs h.1 g.1)

  is_below : (xs : List A) (i : ℕ) (v : A) → slice_get xs i ≡ Some v → i < length xs
  is_below [] i v h = absurd cc
  is_below (x ∷ xs) zero v h = omega arith
  is_below (x ∷ xs) (suc i) v h = let l = is_below xs i v h in omega (arith, l)

  pub first_one : (x : A) (xs : List A) → Contains (x ∷ xs) x
  first_one x xs = Contains-append_left (x ∷ []) xs x (Contains-push [] x)

  pub later_one : (y x : A) (xs : List A) → Contains xs x → Contains (y ∷ xs) x
  later_one y x xs h = Contains-append_right (y ∷ []) xs x h

-- ---- targets

has_it : (ys : List ℕ) (x : ℕ) → has ys x ≡ true → Contains ys x
has_it [] x h = absurd cc
has_it (y ∷ ys) x h = by (nat_eq y x) refl h (has_it ys x)
  where
    by : (b : Bool) → nat_eq y x ≡ b → (b || has ys x) ≡ true → (has ys x ≡ true → Contains ys x) → Contains (y ∷ ys) x
    by true e h f = subst (λ z. Contains (y ∷ ys) z) ((Decides-eqb y x).0 e) (first_one y ys)
    by false e h f = later_one y x ys (f h)

target_it : (es : List FlatEqn) (x : ℕ) → is_target es x ≡ true → IsTarget es x
target_it [] x h = absurd cc
target_it (e ∷ es) x h = by (has e.targets x) refl h (target_it es x)
  where
    by : (b : Bool) → has e.targets x ≡ b → (b || is_target es x) ≡ true → (is_target es x ≡ true → IsTarget es x) → IsTarget (e ∷ es) x
    by true q h f = (e, first_one e es, has_it e.targets x q)
    by false q h f = let r = f h in (r.0, later_one e r.0 es r.1, r.2)

-- where equations stand does not matter
target_unplaced : (es : List FlatEqn) (x : ℕ) → is_target (map unplaced es) x ≡ is_target es x
target_unplaced [] x = refl
target_unplaced (e ∷ es) x = ap (λ b. has e.targets x || b) (target_unplaced es x)

-- ---- what stands in an equation is a variable

module _ (types : List ObcType) (k : Known) (d : Sketch) where
  abbrev Below : ℕ → Type 0
  Below x = x < length d.variables

  typed_below : (x : ℕ) (t : FlatTy) → HasType d x t → Below x
  typed_below x t h = is_below d.variables x h.0 h.1

  clock_below : (clock : Clock) → ClockGood types d clock → AllByRecursion Below (clock_variables clock)
  clock_below [] h = tt
  clock_below (on ∷ clock) h = (typed_below on.0 h.0.0 h.0.1, clock_below clock h.1)

  args_below : (args : List Atom) (ts : List FlatTy) → ArgsTyped types d args ts → AllByRecursion Below (flat_map atom_variables args)
  args_below [] ts h = tt
  args_below (a ∷ args) [] h = absurd h
  args_below (Variable x ∷ args) (t ∷ ts) h = (typed_below x t h.0, args_below args ts h.1)
  args_below (Fixed v ∷ args) (t ∷ ts) h = args_below args ts h.1

  right_below : (right : Right) (ts : List FlatTy) → RightTyped types k d right ts → AllByRecursion Below (operands right)
  right_below (operator op args) ts h = args_below args h.0 h.1
  right_below (register first (Variable x)) ts h = (typed_below x h.0 h.2, tt)
  right_below (register first (Fixed v)) ts h = tt
  right_below (called f args) ts h = args_below args (types_of_decls k (inputs_of (k.nodes f))) h.0

  targets_below : (xs : List ℕ) (ts : List FlatTy) → HaveTypes d xs ts → AllByRecursion Below xs
  targets_below [] ts h = tt
  targets_below (x ∷ xs) [] h = absurd h
  targets_below (x ∷ xs) (t ∷ ts) h = (typed_below x t h.0, targets_below xs ts h.1)

  restart_below : (xs : List ℕ) → RestartGood d xs → AllByRecursion Below xs
  restart_below xs h = each_other (λ x. HasType d x _) Below (λ x t. typed_below x _ t) xs h

  eqn_within : (e : FlatEqn) → EqnGood types k d e → EqnWithin (length d.variables) e
  eqn_within e h = record { targets = targets_below e.targets h.given h.targets; clock = clock_below e.clock h.clock; operands = right_below e.right h.given h.right; restart = restart_below e.restart h.restart }

  eqn_below : (e : FlatEqn) → EqnGood types k d e → AllByRecursion Below (variables_in e)
  eqn_below e h =
      each_append Below (clock_variables e.clock) (e.restart ++ operands e.right) (clock_below e.clock h.clock)
      (each_append Below e.restart (operands e.right) (restart_below e.restart h.restart) (right_below e.right h.given h.right))

-- ---- nodes that are made

-- inputs and outputs are variables, and each variable behind the inputs is defined
pub record NodeFilled (f : FlatNode) : Type 0 where
  pub inputs : f.inputs ≤ length f.variables
  pub filled : (x : ℕ) → f.inputs ≤ x → x < length f.variables → is_target f.eqns x ≡ true
  pub outputs : AllByRecursion (λ x. x < length f.variables) f.outputs

numbers_below : (n m : ℕ) (os : List Decl) → n + length os ≤ m → AllByRecursion (λ x. x < m) (numbers_from n os)
numbers_below n m [] l = tt
numbers_below n m (o ∷ os) l = (omega (arith, l), numbers_below (n + 1) m os (omega (arith, l)))

made_filled : (k : Known) (n : Node) (f : FlatNode) → IsMadeOf k n f → NodeFills k n → NodeFilled f
made_filled k n f made h =
    let same : length f.variables ≡ next (sketch_node k n) = ap (λ vs. length vs) made.variables in
    let start = made.inputs in
    let long = h.long in
    record {
      inputs = omega (arith, same, long, start);
      filled = λ x l u.
          sym (target_unplaced f.eqns x) ∙ ap (λ es. is_target es x) made.eqns ∙ target_unplaced (sketch_node k n).eqns x ∙ h.filled x (omega (arith, start, l)) (omega (arith, same, u));
      outputs = subst (λ xs. AllByRecursion (λ x. x < length f.variables) xs) (sym made.outputs)
          (numbers_below (length n.inputs + length (controls_of n.contract)) (length f.variables) n.outputs (omega (arith, same, long)));
    }

pub all_made_filled : (k : Known) (items : List Item) (fs : List FlatNode) → AreMadeOf k items fs → EachNode (NodeFills k) items → AllByRecursion NodeFilled fs
all_made_filled k [] [] made h = tt
all_made_filled k [] (f ∷ fs) made h = absurd made
all_made_filled k (TypeItem t ∷ items) fs made h = all_made_filled k items fs made h
all_made_filled k (NodeItem n ∷ items) [] made h = absurd made
all_made_filled k (NodeItem n ∷ items) (f ∷ fs) made h = (made_filled k n f made.0 h.0, all_made_filled k items fs made.1 h.1)

pub closed : (types : List ObcType) (k : Known) (f : FlatNode) → NodeGood types k f → NodeFilled f → IsClosed f
closed types k f good h =
    record {
      variables = given;
      outputs = each_other (λ x. x < length f.variables) (IsGiven f) given f.outputs h.outputs;
      eqns = each_other (EqnGood types k good.sketch) (λ (e : FlatEqn). AllByRecursion (IsGiven f) (variables_in e))
          (λ e g. each_other (λ x. x < length good.sketch.variables) (IsGiven f) (λ x l. given x (subst (λ vs. x < length vs) (sym good.variables) l)) (variables_in e) (eqn_below types k good.sketch e g))
          f.eqns good.eqns;
    }
  where
    given : (x : ℕ) → x < length f.variables → IsGiven f x
    given x u = by (cases_lt x f.inputs)
      where
        by : (x < f.inputs) ⊎ (f.inputs ≤ x) → IsGiven f x
        by (inl l) = inl l
        by (inr l) = inr (target_it f.eqns x (h.filled x l u))

pub in_range : (types : List ObcType) (k : Known) (f : FlatNode) → NodeGood types k f → NodeFilled f → IsWithin f
in_range types k f good h =
    record {
      inputs = h.inputs;
      outputs = h.outputs;
      eqns = subst (λ vs. AllByRecursion (EqnWithin (length vs)) f.eqns) (sym good.variables) (each_other (EqnGood types k good.sketch) (EqnWithin (length good.sketch.variables)) (eqn_within types k good.sketch) f.eqns good.eqns);
    }

-- ---- programs

module _ (program : List Item) (types : List TypeDecl) (apart : AreApart (reverse program)) where
  filled_behind : (later earlier : List Item) → reverse program ≡ later ++ earlier → SoundBehind types earlier → EachNode IsWhole earlier → AreTested types earlier → EachNode (NodeFills (known_of program)) earlier
  filled_behind later [] e sound whole tested = tt
  filled_behind later (TypeItem t ∷ earlier) e sound whole tested = filled_behind (later ++ TypeItem t ∷ []) earlier (e ∙ sym (append_assoc later (TypeItem t ∷ []) earlier)) sound whole tested
  filled_behind later (NodeItem n ∷ earlier) e sound whole tested = (
    node_fills (known_of program) types (node_among earlier) (scope_behind earlier) n (no_variables earlier) (grounded program later earlier n e apart) sound.0 tested.0 whole.0,
    filled_behind (later ++ NodeItem n ∷ []) earlier (e ∙ sym (append_assoc later (NodeItem n ∷ []) earlier)) sound.1 whole.1 tested.1,
  )

  pub nodes_filled : SoundBehind types (reverse program) → EachNode IsWhole program → AreTested types (reverse program) → EachNode (NodeFills (known_of program)) program
  nodes_filled sound whole tested =
      subst (λ xs. EachNode (NodeFills (known_of program)) xs) (reverse-reverse program)
      (each_reverse (NodeFills (known_of program)) (reverse program) (filled_behind [] (reverse program) refl sound (each_reverse IsWhole program whole) tested))

-- what is known of the nodes of a ready program
known_nodes : (program after : List Item) → IsReady program after → IsRemovable after → TypesHaveConstructors (types_of program) → HasFewTypes program → (fs : List FlatNode) → AreMadeOf (known_of (lowered_program after)) (lowered_program after) fs
    → AllByRecursion (λ f. NodeGood (obc_types (types_of after)) (known_of (lowered_program after)) f × NodeFilled f) fs
known_nodes program after r ok full few fs made =
    let low = lowered_program after in
    let k = known_of low in
    let types = types_of after in
    let some = some_constructors program full in
    let sound = ready_sound_law program after r ok some in
    let tested = tested_law program after r ok some in
    let apart = lowered_apart program after r.named (clocked_of (replaced program) after r.clocks) in
    let filled = all_made_filled k low fs made (nodes_filled low types apart sound (whole_law program after r ok) tested) in
    each_both (NodeGood (obc_types types) k) NodeFilled (λ f. NodeGood (obc_types types) k f × NodeFilled f) (λ f g h. (g, h)) fs (ready_good program after r ok full few tested fs made) filled

pub closed_law : ClosedLaw
closed_law program after r ok full few fs made =
    let k = known_of (lowered_program after) in
    let types = obc_types (types_of after) in
    each_other (λ f. NodeGood types k f × NodeFilled f) IsClosed (λ f h. closed types k f h.0 h.1) fs (known_nodes program after r ok full few fs made)

pub within_law : WithinLaw
within_law program after r ok full few fs made =
    let k = known_of (lowered_program after) in
    let types = obc_types (types_of after) in
    each_other (λ f. NodeGood types k f × NodeFilled f) IsWithin (λ f h. in_range types k f h.0 h.1) fs (known_nodes program after r ok full few fs made)
