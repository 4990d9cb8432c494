-- What an instant of a node holds whose controllable variables have chosen values: its inputs, the chosen values, and what the node does in the program.
use Rattle.std.proofs.Common.{◌≡◌, ℕ, Bool, true, false, List, [], ◌∷◌, ◌++◌, length, map, reverse, None, Some, refl, sym, ap, ap₂, subst, ◌∙◌, arith}
use Rattle.std.specs.Prelude.{⊤, if◌then◌else◌, Option}
use Rattle.std.specs.List.{AllByRecursion}
use Rattle.std.specs.Str.{bytes_eq}
use Rattle.std.proofs.lemmas.Slice.Eq.{bytes_eq-Decides}
use Rattle.hp_base.specs.declared.value.Value.{Value}
use Rattle.hp_tree.specs.declared.program.Item.{Item}
use Rattle.hp_tree.specs.declared.program.Item.TheVariants.{TypeItem, NodeItem}
use Rattle.hp_tree.specs.Blocks.{Decl}
use Rattle.hp_tree.specs.Programs.{Node, TypeDecl}
use Rattle.hp_tree.specs.Operators.{real}
use Rattle.hp_tree.specs.Instant.{Inputs, Controls, Head, Tail, Place, Instant, Past, Given, part, alone, in_row}
use Rattle.hp_tree.specs.Meaning.{Nodes, given_to, node, nodes, meaning, node_among, types_of, controls_of}
use Rattle.hp_tree.specs.Reaction.{Meets, controls_at, row_of}
use Rattle.hp_meaning.specs.Contract.ChosenRuns.{NamesApart}
use Rattle.law_games.proofs.GuaranteedLemmas.Apart.{found_among}
use Rattle.law_games.specs.ReadyGames.Laws.{Stands}
use Rattle.law_choices.specs.Choosing.Choices.{Choices}
use Rattle.law_choices.specs.Runs.Chosen.{chosen_given, chosen_meaning, chosen_nodes, inputs_at}
use Rattle.hp_meaning.specs.Causal.OneReaction.{ReactionOf}
use Rattle.law_choices.proofs.RunsLemmas.Chosen.{chosen_real}

-- ---- rows

row-back : (ds : List Decl) (vs : List Value) (i : Instant) → length vs ≡ length ds → ((p : Place) → i p ≡ in_row (map alone vs) p) → row_of ds i ≡ vs
row-back [] [] i l h = refl
row-back [] (v ∷ vs) i l h = absurd (omega (arith, l))
row-back (d ∷ ds) [] i l h = absurd (omega (arith, l))
row-back (d ∷ ds) (v ∷ vs) i l h = ap₂ (λ x xs. x ∷ xs) (h (Head ∷ [])) (row-back ds vs (part Tail i) (omega (arith, l)) (λ p. h (Tail ∷ p)))

given-back : (types : List TypeDecl) (N : Nodes) (ds : List Decl) (vs : List Value) (i : Instant) → length vs ≡ length ds → ((p : Place) → i p ≡ in_row (map alone vs) p) → given_to types real N ds i ≡ vs
given-back types N [] [] i l h = refl
given-back types N [] (v ∷ vs) i l h = absurd (omega (arith, l))
given-back types N (d ∷ ds) [] i l h = absurd (omega (arith, l))
given-back types N (d ∷ ds) (v ∷ vs) i l h = ap₂ (λ x xs. x ∷ xs) (h (Head ∷ [])) (given-back types N ds vs (part Tail i) (omega (arith, l)) (λ p. h (Tail ∷ p)))

-- ---- the instants of a node

module _ (choices : Choices) (types : List TypeDecl) (earlier : List Item) (n : Node) where
  -- an instant does what the node does over inputs, after others, and the chosen values are given
  abbrev pub Does : List Value → Past → Instant → Instant → Type 0
  Does vs past free now = (p : Place) → now p ≡ node types real (chosen_nodes choices types real earlier) n vs (chosen_given (choices n.name) n vs (record { past = past; free = free })) now p

  -- so do all, one after another
  abbrev pub Runs : List (List Value) → Past → Type 0
  Runs [] [] = ⊤
  Runs (vs ∷ rows) (now ∷ past) = Runs rows past × ((free : Instant) × Does vs past free now)
  Runs rows past = ⊥

  -- there is one value for each input and each controllable variable
  abbrev pub AreLong : List (List Value) → Type 0
  AreLong rows = AllByRecursion (λ (vs : List Value). length vs ≡ length n.inputs) rows

  pub inputs-held : (vs : List Value) (past : Past) (free now : Instant) → length vs ≡ length n.inputs → Does vs past free now → inputs_at n now ≡ vs
  inputs-held vs past free now l h = row-back n.inputs vs (part Inputs now) l (λ p. h (Inputs ∷ p))

  pub rows-held : (rows : List (List Value)) (past : Past) → AreLong rows → Runs rows past → map (inputs_at n) past ≡ rows
  rows-held [] [] l h = refl
  rows-held [] (now ∷ past) l h = absurd h
  rows-held (vs ∷ rows) [] l h = absurd h
  rows-held (vs ∷ rows) (now ∷ past) l h = ap₂ (λ (x : List Value) xs. x ∷ xs) (inputs-held vs past h.1.0 now l.0 h.1.1) (rows-held rows past l.1 h.0)

  pub controls-held : (vs : List Value) (rows : List (List Value)) (past : Past) (free now : Instant) → AreLong rows → Runs rows past → length (choices n.name vs rows) ≡ length (controls_of n.contract) → Does vs past free now
      → controls_at n now ≡ choices n.name vs rows
  controls-held vs rows past free now l r many h =
      let cs = controls_of n.contract in
      let given = chosen_given (choices n.name) n vs (record { past = past; free = free }) in
      let same = rows-held rows past l r in
      let held = given-back types (chosen_nodes choices types real earlier) cs (choices n.name vs rows) (part Controls given.free) many (λ p. ap (λ rs. in_row (map alone (choices n.name vs rs)) p) same) in
      row-back cs (choices n.name vs rows) (part Controls now) many (λ p. h (Controls ∷ p) ∙ ap (λ ws. in_row (map alone ws) p) held)

-- ---- what it does in the program

-- a node behind others has another name than one that is found among these
other-name : (k : Node) (later items : List Item) (f : List ℕ) (m : Node) → NamesApart (NodeItem k ∷ (later ++ items)) → node_among items f ≡ Some m → bytes_eq k.name f ≡ false
other-name k later items f m a e = by (bytes_eq k.name f) refl
  where
    by : (b : Bool) → bytes_eq k.name f ≡ b → b ≡ false
    by true q =
        let here : k.name ≡ f = (bytes_eq-Decides k.name f).0 q in
        let found = found_among later items f m a.1 e in
        absurd (let z : None ≡ Some m = sym a.0 ∙ ap (node_among (later ++ items)) here ∙ found in cc)
    by false q = refl

pub nodes-found : (types : List TypeDecl) (later items : List Item) (f : List ℕ) (m : Node) → NamesApart (later ++ items) → node_among items f ≡ Some m → (vs : List Value) (g : Given) (i : Instant) (p : Place)
    → (nodes types real (later ++ items)).instant f vs g i p ≡ (nodes types real items).instant f vs g i p
nodes-found types [] items f m a e vs g i p = refl
nodes-found types (TypeItem t ∷ later) items f m a e vs g i p = nodes-found types later items f m a e vs g i p
nodes-found types (NodeItem k ∷ later) items f m a e vs g i p =
    let N = nodes types real (later ++ items) in
    ap (λ b. (if b then node types real N k vs g i else N.instant f vs g i) p) (other-name k later items f m a e) ∙ nodes-found types later items f m a.1 e vs g i p

pub chosen-found : (choices : Choices) (types : List TypeDecl) (later items : List Item) (f : List ℕ) (m : Node) → NamesApart (later ++ items) → node_among items f ≡ Some m → (vs : List Value) (g : Given) (i : Instant) (p : Place)
    → (chosen_nodes choices types real (later ++ items)).instant f vs g i p ≡ (chosen_nodes choices types real items).instant f vs g i p
chosen-found choices types [] items f m a e vs g i p = refl
chosen-found choices types (TypeItem t ∷ later) items f m a e vs g i p = chosen-found choices types later items f m a e vs g i p
chosen-found choices types (NodeItem k ∷ later) items f m a e vs g i p =
    let N = chosen_nodes choices types real (later ++ items) in
    ap (λ b. (if b then node types real N k vs (chosen_given (choices k.name) k vs g) i else N.instant f vs g i) p) (other-name k later items f m a e) ∙ chosen-found choices types later items f m a.1 e vs g i p

own-name : (n : Node) → bytes_eq n.name n.name ≡ true
own-name n = (bytes_eq-Decides n.name n.name).1 refl

pub own-among : (n : Node) (earlier : List Item) → node_among (NodeItem n ∷ earlier) n.name ≡ Some n
own-among n earlier = ap (λ b. if b then Some n else node_among earlier n.name) (own-name n)

module _ (choices : Choices) (after earlier : List Item) (n : Node) (stands : Stands after earlier n) (apart : NamesApart (reverse after)) where
  pub found : node_among (reverse after) n.name ≡ Some n
  found = ap (λ items. node_among items n.name) stands.1 ∙ found_among stands.0 (NodeItem n ∷ earlier) n.name n (subst NamesApart stands.1 apart) (own-among n earlier)

  pub meets : (vs : List Value) (past : Past) (free now : Instant) → Does choices (types_of after) earlier n vs past free now → Meets real after n.name vs (record { past = past; free = now }) now
  meets vs past free now h p =
      let types = types_of after in
      let items = NodeItem n ∷ earlier in
      let g = chosen_given (choices n.name) n vs (record { past = past; free = free }) in
      let N = chosen_nodes choices types real earlier in
      let M = nodes types real earlier in
      let here : (q : Place) → now q ≡ (chosen_nodes choices types real items).instant n.name vs (record { past = past; free = free }) now q =
      (λ q. h q ∙ sym (ap (λ b. (if b then node types real N n vs g now else N.instant n.name vs (record { past = past; free = free }) now) q) (own-name n))) in
      here p ∙ chosen_real choices after items n.name vs past free now now (λ q. refl) here p
      ∙ sym (nodes-found types stands.0 items n.name n (subst NamesApart stands.1 apart) (own-among n earlier) vs (record { past = past; free = now }) now p)
      ∙ ap (λ xs. (nodes types real xs).instant n.name vs (record { past = past; free = now }) now p) (sym stands.1)

  -- a reaction of the node in which the values are chosen
  pub runs-of : (rows : List (List Value)) (frees : List Instant) (past : Past) → ReactionOf (chosen_meaning choices real after n.name) rows frees past → Runs choices (types_of after) earlier n rows past
  runs-of [] [] [] r = tt
  runs-of [] [] (now ∷ past) r = absurd r
  runs-of [] (free ∷ frees) past r = absurd r
  runs-of (vs ∷ rows) [] past r = absurd r
  runs-of (vs ∷ rows) (free ∷ frees) [] r = absurd r
  runs-of (vs ∷ rows) (free ∷ frees) (now ∷ past) r =
      let types = types_of after in
      let items = NodeItem n ∷ earlier in
      let given : Given = record { past = past; free = free } in
      let N = chosen_nodes choices types real earlier in (
        runs-of rows frees past r.0,
        (
          free,
          λ p. r.1 p
              ∙ ap (λ xs. (chosen_nodes choices types real xs).instant n.name vs given now p) stands.1
              ∙ chosen-found choices types stands.0 items n.name n (subst NamesApart stands.1 apart) (own-among n earlier) vs given now p
              ∙ ap (λ b. (if b then node types real N n vs (chosen_given (choices n.name) n vs given) now else N.instant n.name vs given now) p) (own-name n),
        ),
      )
