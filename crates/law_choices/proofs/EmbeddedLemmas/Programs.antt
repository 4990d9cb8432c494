-- Nodes by their names, the observer of one that is found, and what a node does in a program with chosen values.
use Rattle.std.proofs.Common.{◌≡◌, ℕ, List, [], ◌∷◌, ◌++◌, map, refl, sym, ap, ◌∙◌}
use Rattle.std.specs.Prelude.{Bool, true, false, if◌then◌else◌, Option, None, Some}
use Rattle.std.specs.Str.{bytes_eq}
use Rattle.hp_base.specs.declared.value.Value.{Value}
use Rattle.hp_tree.specs.declared.program.Item.{Item}
use Rattle.hp_tree.specs.declared.program.Item.TheVariants.{TypeItem, NodeItem}
use Rattle.hp_tree.specs.Programs.{TypeDecl, Contract, Node}
use Rattle.hp_tree.specs.Operators.{real}
use Rattle.hp_tree.specs.Instant.{Instant, Past, Given, nothing}
use Rattle.hp_tree.specs.Meaning.{Nodes, node, node_among}
use Rattle.hp_meaning.specs.Causal.OneReaction.{ReactionOf}
use Rattle.hp_meaning.proofs.CausalLemmas.Swap.{given}
use Rattle.hp_watch.specs.Observing.{observer_if, observer_of, observers}
use Rattle.law_choices.specs.Choosing.Choices.{Choices}
use Rattle.law_choices.specs.Runs.Chosen.{chosen_given, chosen_nodes}
use Rattle.law_choices.proofs.EmbeddedLemmas.Beside.{Goes, GoesAnyhow, IsWatched}

-- ---- nodes by their names

same_node : (m n : Node) → Some m ≡ Some n → m ≡ n
same_node m n e = cc

-- ---- the observer of a node that is found

among_if : (m : Node) (o : Option Contract) (items : List Item) (f : List ℕ) (n : Node) → bytes_eq m.name f ≡ false → node_among items f ≡ Some n → node_among (observer_if m o ++ items) f ≡ Some n
among_if m None items f n q e = e
among_if m (Some k) items f n q e = ap (λ b. if b then Some (observer_of m k) else node_among items f) q ∙ e

pub among_observers : (items : List Item) (f : List ℕ) (n : Node) (c : Contract) → node_among items f ≡ Some n → n.contract ≡ Some c → node_among (observers items) f ≡ Some (observer_of n c)
among_observers [] f n c e h = absurd cc
among_observers (TypeItem t ∷ items) f n c e h = among_observers items f n c e h
among_observers (NodeItem m ∷ items) f n c e h = by (bytes_eq m.name f) refl e (λ k. among_observers items f n c k h)
  where
    here : (o : Option Contract) → o ≡ Some c → bytes_eq m.name f ≡ true → m ≡ n → node_among (observer_if m o ++ observers items) f ≡ Some (observer_of n c)
    here None p q r = absurd cc
    here (Some k) p q r =
        let same : k ≡ c = cc in
        ap (λ b. if b then Some (observer_of m k) else node_among (observers items) f) q ∙ ap (λ z. Some (observer_of m z)) same ∙ ap (λ z. Some (observer_of z c)) r

    by : (b : Bool) → bytes_eq m.name f ≡ b → (if b then Some m else node_among items f) ≡ Some n → (node_among items f ≡ Some n → node_among (observers items) f ≡ Some (observer_of n c))
        → node_among (observer_if m m.contract ++ observers items) f ≡ Some (observer_of n c)
    by true q e k = let same = same_node m n e in here m.contract (ap (λ (z : Node). z.contract) same ∙ h) q same
    by false q e k = among_if m m.contract (observers items) f (observer_of n c) q (k e)

-- ---- what a node does in a program

-- in some nodes that stand before it
pub record DoesThere (choices : Choices) (types : List TypeDecl) (items : List Item) (f : List ℕ) (n : Node) : Type 0 where
  pub before : Nodes
  pub does : (row : List Value) (g : Given) (now : Instant) → (chosen_nodes choices types real items).instant f row g now ≡ node types real before n row (chosen_given (choices n.name) n row g) now

pub does_there : (choices : Choices) (types : List TypeDecl) (items : List Item) (f : List ℕ) (n : Node) → node_among items f ≡ Some n → DoesThere choices types items f n
does_there choices types [] f n e = absurd cc
does_there choices types (TypeItem t ∷ items) f n e = let d = does_there choices types items f n e in record { before = d.before; does = d.does }
does_there choices types (NodeItem m ∷ items) f n e = by (bytes_eq m.name f) refl e (does_there choices types items f n)
  where
    by : (b : Bool) → bytes_eq m.name f ≡ b → (if b then Some m else node_among items f) ≡ Some n → (node_among items f ≡ Some n → DoesThere choices types items f n) → DoesThere choices types (NodeItem m ∷ items) f n
    by true q e k =
        let N = chosen_nodes choices types real items in
        record {
          before = N;
          does = λ row g now. ap (λ b. if b then node types real N m row (chosen_given (choices m.name) m row g) now else N.instant f row g now) q
              ∙ ap (λ (z : Node). node types real N z row (chosen_given (choices z.name) z row g) now) (same_node m n e);
        }
    by false q e k =
        let N = chosen_nodes choices types real items in
        let d = k e in
        record { before = d.before; does = λ row g now. ap (λ b. if b then node types real N m row (chosen_given (choices m.name) m row g) now else N.instant f row g now) q ∙ d.does row g now }

-- ---- reactions

module _ (types : List TypeDecl) (N M : Nodes) (n : Node) (c : Contract) (w : IsWatched n c) (choice : Choices) (said : List Value → Given → Instant → Instant)
    (does : (row : List Value) (g : Given) (now : Instant) → said row g now ≡ node types real N n row (chosen_given (choice n.name) n row g) now) where
  pub reaction_goes : (rows : List (List Value)) (frees past : Past) → ReactionOf said rows frees past → Goes types N M n c w rows past
  reaction_goes [] [] [] r = tt
  reaction_goes [] [] (now ∷ past) r = absurd r
  reaction_goes [] (free ∷ frees) past r = absurd r
  reaction_goes (row ∷ rows) [] past r = absurd r
  reaction_goes (row ∷ rows) (free ∷ frees) [] r = absurd r
  reaction_goes (row ∷ rows) (free ∷ frees) (now ∷ past) r =
      let g : Given = given past free in
      (reaction_goes rows frees past r.0, ((chosen_given (choice n.name) n row g).free, λ p. r.1 p ∙ ap (λ (i : Instant). i p) (does row g now)))

pub goes_reacting : (types : List TypeDecl) (M : Nodes) (m : Node) (choice : Choices) (said : List Value → Given → Instant → Instant)
    → ((row : List Value) (g : Given) (now : Instant) → said row g now ≡ node types real M m row (chosen_given (choice m.name) m row g) now)
    → (rows : List (List Value)) (past : Past) → GoesAnyhow types M m rows past → ReactionOf said rows (map (λ (vs : List Value). nothing) rows) past
goes_reacting types M m choice said does [] [] h = tt
goes_reacting types M m choice said does [] (now ∷ past) h = absurd h
goes_reacting types M m choice said does (row ∷ rows) [] h = absurd h
goes_reacting types M m choice said does (row ∷ rows) (now ∷ past) h =
    let g : Given = given past nothing in
    (goes_reacting types M m choice said does rows past h.0, λ p. h.1 (chosen_given (choice m.name) m row g).free p ∙ ap (λ (i : Instant). i p) (sym (does row g now)))
