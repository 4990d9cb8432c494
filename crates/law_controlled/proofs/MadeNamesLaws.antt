-- The names of whatever is made of a ready program.
use Rattle.std.proofs.Common.{◌≡◌, ℕ, zero, suc, ◌+◌, ◌/◌, ◌%◌, ◌<◌, ◌≤◌, ◌^◌, false, nat_eq, List, [], ◌∷◌, ◌++◌, length, map, None, Some, refl, sym, subst, arith}
use Rattle.std.specs.Prelude.{codes, decimal, Option}
use Rattle.std.specs.List.{AllByRecursion, IsDistinct, range_with_len}
use Rattle.std.specs.Str.{bytes_eq}
use Rattle.std.proofs.lemmas.Bool.Decides.{nat_tests}
use Rattle.std.proofs.lemmas.Fmt.{decimal_by_steps, decimal_injective}
use Rattle.std.proofs.lemmas.List.{append_cancel_left}
use Rattle.hp_boolx.specs.Machine.{Machine}
use Rattle.hp_obc.specs.Machines.{ObcType}
use Rattle.hp_tree.specs.Programs.{Contract, Node}
use Rattle.hp_tree.specs.declared.program.Item.{Item}
use Rattle.hp_tree.specs.declared.program.Item.TheVariants.{TypeItem, NodeItem}
use Rattle.hp_automata.specs.Lowering.{lowered_program}
use Rattle.hp_flat.specs.declared.node.Variable.{Variable}
use Rattle.hp_flat.specs.Nodes.{FlatNode}
use Rattle.law_equations.specs.Followed.Premises.{HasNoSign, IsOwn, OwnNamesLaw, names}
use Rattle.law_equations.proofs.ShapedLemmas.Elements.{all-append}
use Rattle.hp_complete.specs.Declaring.{known_of}
use Rattle.hp_complete.specs.Made.{AreMadeOf}
use Rattle.hp_watch.specs.Watching.{Observing}
use Rattle.hp_controller.specs.Controllers.{bit_variable}
use Rattle.hp_controller.specs.Controlling.{IsController}
use Rattle.hp_controller.specs.declared.decoding.Control.{Control}
use Rattle.law_wellmade.specs.Suited.Suited.{HasFew}
use Rattle.law_choices.specs.Answered.Loops as loop
use Rattle.law_choices.specs.InTurn.Nodes as turn
use Rattle.law_choices.specs.InTurn.Nodes.{Made, Contracted, AreAllMade, IsContracted, IsMade, all_nodes, loops}
use Rattle.law_choices.specs.InTurn.Nodes.Made.{plain, contracted}
use Rattle.law_controlled.specs.Names.{Adds, HasFreeNames, HasNames, NamesLaw, PlantNamesLaw}
use Rattle.law_controlled.specs.Program.{HasAdded, MadeNamesLaw}
use Rattle.law_controlled.proofs.MadeLaws.{few_before}
use Rattle.law_controlled.proofs.NameLaws.{apart}

-- ---- controllers, whose variables are named by their numbers

abbrev HasDigits : ℕ → List ℕ → Type 0
HasDigits n ds = HasNoSign ds

one_digit : (n : ℕ) → n < 10 → HasDigits n ((48 + n) ∷ [])
one_digit n h = (grind (arith, nat_tests), tt)

one_more : (n : ℕ) (ds : List ℕ) → 10 ≤ n → HasDigits (n / 10) ds → HasDigits n (ds ++ ((48 + n % 10) ∷ []))
one_more n ds h s =
    let below : n % 10 < 10 = omega arith in
    all-append (λ b. nat_eq b 36 ≡ false) ds ((48 + n % 10) ∷ []) s (one_digit (n % 10) below)

no_sign : (n : ℕ) → n < 2 ^ 64 → HasNoSign (decimal n)
no_sign n h = decimal_by_steps HasDigits one_digit one_more n h

own_bit : (n : ℕ) → n < 2 ^ 64 → HasNoSign (codes "b" ++ decimal n)
own_bit n h = (refl, no_sign n h)

bits_differ : (i j : ℕ) → i < 2 ^ 64 → j < 2 ^ 64 → codes "b" ++ decimal i ≡ codes "b" ++ decimal j → i ≡ j
bits_differ i j h k e = decimal_injective i j h k (append_cancel_left (codes "b") (decimal i) (decimal j) e)

module _ (own_law : OwnNamesLaw) where
  bits_own : (first count : ℕ) → first + count ≤ 2 ^ 64 → AllByRecursion IsOwn (names (map bit_variable (range_with_len first count)))
  bits_own first zero few = tt
  bits_own first (suc n) few = (own_law.0 (codes "b" ++ decimal first) (own_bit first (omega (arith, few))), bits_own (first + 1) n (omega (arith, few)))

bits_apart : (i first count : ℕ) → i < first → first + count ≤ 2 ^ 64 → AllByRecursion (λ y. bytes_eq (codes "b" ++ decimal i) y ≡ false) (names (map bit_variable (range_with_len first count)))
bits_apart i first zero h few = tt
bits_apart i first (suc n) h few = (
  apart (codes "b" ++ decimal i) (codes "b" ++ decimal first) (λ e.
      let same = bits_differ i first (omega (arith, h, few)) (omega (arith, few)) e in
      omega (arith, h, same)),
  bits_apart i (first + 1) n (omega (arith, h)) (omega (arith, few)),
)

bits_distinct : (first count : ℕ) → first + count ≤ 2 ^ 64 → IsDistinct bytes_eq (names (map bit_variable (range_with_len first count)))
unfolding IsDistinct
bits_distinct first zero few = tt
bits_distinct first (suc n) few = (bits_apart first (first + 1) n (omega arith) (omega (arith, few)), bits_distinct (first + 1) n (omega (arith, few)))

pub controller_names : OwnNamesLaw → (m : Machine) (node : FlatNode) → IsController m node → HasFreeNames node
controller_names own_law m node is =
    let count = length node.variables in
    let bound : 0 + count ≤ 2 ^ 64 = let few = is.few in omega (arith, few) in
    record {
      differ = subst (λ (vs : List Variable). IsDistinct bytes_eq (names vs)) (sym is.numbered) (bits_distinct 0 count bound);
      own = subst (λ (vs : List Variable). AllByRecursion IsOwn (names vs)) (sym is.numbered) (bits_own own_law 0 count bound);
    }

-- ---- one node of a program

own_free : (controls : List Control) (c : Contracted) → turn.IsOwn controls c → HasFreeNames c.plant → HasFreeNames c.chosen.node → HasFreeNames c.own
own_free [] c is plant chosen = subst HasFreeNames (sym is) plant
own_free (k ∷ ks) c is plant chosen = subst HasFreeNames (sym is) chosen

-- the plant of each has few variables, where all that is made has
plants_few : (all : List Made) → AllByRecursion HasAdded all → AllByRecursion HasFew (all_nodes all) → AllByRecursion HasFew (loop.plants (loops all))
plants_few [] added few = tt
plants_few (plain f ∷ all) added few = (few.0, plants_few all added.1 few.1)
plants_few (contracted c ∷ all) added few = (few_before c.plant c.chosen.node added.0 few.1.1.0, plants_few all added.1 few.1.1.1)

module _ (own_law : OwnNamesLaw) (names_law : NamesLaw) (types : List ObcType) (observers : Observing) where
  contracted_free : (node : Node) (c : Contracted) → IsContracted types observers node c → HasNames c.plant → Adds c.plant c.chosen.node → HasFew c.chosen.node → HasFreeNames c.controller × HasFreeNames c.own × HasFreeNames (turn.telling c.chosen)
  contracted_free node c is plant adds few =
      let chosen : HasFreeNames c.chosen.node = names_law c.plant c.chosen.node plant adds few in (
        controller_names own_law is.machine c.controller is.controller,
        own_free is.controls c is.own plant.names_free chosen,
        record { differ = chosen.differ; own = chosen.own },
      )

  of_contract : (node : Node) (k : Option Contract) (c : Contracted) → IsMade types observers node k (contracted c) → IsContracted types observers node c
  of_contract node None c is = absurd is
  of_contract node (Some k) c is = is

  all_free : (items : List Item) (all : List Made) → AreAllMade types observers items all → AllByRecursion HasNames (loop.plants (loops all)) → AllByRecursion HasAdded all → AllByRecursion HasFew (all_nodes all)
      → AllByRecursion HasFreeNames (all_nodes all)
  all_free [] [] made plants added few = tt
  all_free [] (m ∷ all) made plants added few = absurd made
  all_free (TypeItem t ∷ items) all made plants added few = all_free items all made plants added few
  all_free (NodeItem n ∷ items) [] made plants added few = absurd made
  all_free (NodeItem n ∷ items) (plain f ∷ all) made plants added few =
      let own = plants.0 in
      (own.names_free, all_free items all made.1 plants.1 added.1 few.1)
  all_free (NodeItem n ∷ items) (contracted c ∷ all) made plants added few =
      let three = contracted_free n c (of_contract n n.contract c made.0) plants.0 added.0 few.1.1.0 in
      (three.0, (three.1, (three.2, all_free items all made.1 plants.1 added.1 few.1.1.1)))

-- ---- programs

pub made_names : OwnNamesLaw → NamesLaw → PlantNamesLaw → MadeNamesLaw
made_names own_law names_law plants_law program after types observers plants nodes ready equations made few =
    let few_all = made.few few in
    let made_of = subst (AreMadeOf (known_of (lowered_program after)) (lowered_program after)) (sym made.are_plants) equations in
    let named = plants_law program after ready (loop.plants (loops made.all)) made_of (plants_few made.all made.added few_all) in
    all_free own_law names_law types observers after made.all made.made named made.added few_all
