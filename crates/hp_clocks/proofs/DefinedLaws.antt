-- What a block's own layer says, by the names that its equations define.
use Rattle.std.proofs.Common.{◌≡◌, ℕ, map, Bool, true, false, ◌||◌, if◌then◌else◌, List, [], ◌∷◌, ◌++◌, Option, None, Some, is_some, refl, ap, ◌∙◌}
use Rattle.std.specs.Prelude.{Result, Ok, Err, IfOk, OnOk}
use Rattle.std.specs.Str.{bytes_eq}
use Rattle.hp_tree.specs.Blocks.{Decl, block, Eqns, no_eqn, more_eqns, Eqn, define, switch, reset, automaton}
use Rattle.hp_tree.specs.Meaning.{defines, some_defines}
use Rattle.hp_meaning.specs.Clocking.Clocking.{controls_define}
use Rattle.hp_tables.specs.Defining.Names.{listed, names_in, names_of, controlled, controls_in}
use Rattle.hp_tables.proofs.DefiningLemmas.ListedLaws.{joined, listed_in, listed_of}
use Rattle.hp_clocks.specs.Units.{number_in, or_base, local_cell, cell_of, cell_in}
use Rattle.hp_clocks.specs.Layers.{Says, no_entry, says_names, says_locals, cell_by, says_by, says_own, cells_by}
use Rattle.hp_clocks.specs.Putting.{own_locals}

pub if_map : {A E : Type 0} {P Q : A → Type 0} (r : Result A E) → ((x : A) → P x → Q x) → IfOk r P → IfOk r Q
if_map (Ok x) f h = f x h
if_map (Err e) f h = tt

pub ok_then : {A E B : Type 0} (x y z : B) (r : Result A E) → OnOk r (x ≡ y) → y ≡ z → OnOk r (x ≡ z)
ok_then x y z (Ok a) h e = h ∙ e
ok_then x y z (Err a) h e = tt

module _ (x : List ℕ) where
  listed_control : (e : Eqn) (es : Eqns) → listed (controls_in es) x ≡ controls_define es x → listed (controlled e ++ controls_in es) x ≡ controls_define (more_eqns e es) x
  listed_control (define at ys e) es h = h
  listed_control (switch at e arms) es h = joined x (names_of (switch at e arms)) (controls_in es) (defines (switch at e arms) x) (controls_define es x) (listed_of x (switch at e arms)) h
  listed_control (reset at b e) es h = joined x (names_of (reset at b e)) (controls_in es) (defines (reset at b e) x) (controls_define es x) (listed_of x (reset at b e)) h
  listed_control (automaton at ss) es h = joined x (names_of (automaton at ss)) (controls_in es) (defines (automaton at ss) x) (controls_define es x) (listed_of x (automaton at ss)) h

  listed_controls : (es : Eqns) → listed (controls_in es) x ≡ controls_define es x
  listed_controls no_eqn = refl
  listed_controls (more_eqns e es) = listed_control e es (listed_controls es)

-- ---- names with cells

named_where : (i : ℕ) (d r : Bool) (o : Option ℕ) → o ≡ (if r then Some i else None) → (if d then Some i else o) ≡ (if d || r then Some i else None)
named_where i true r o e = refl
named_where i false r o e = e

says_listed : (names : List (List ℕ)) (f : Says) (x : List ℕ) → says_names names f x ≡ (if listed names x then Some (or_base (f x)) else None)
says_listed [] f x = refl
says_listed (y ∷ ys) f x = named_where (or_base (f x)) (bytes_eq y x) (listed ys x) (says_names ys f x) (says_listed ys f x)

is_there : (i : ℕ) (d : Bool) → is_some (if d then Some i else None) ≡ d
is_there i true = refl
is_there i false = refl

module _ (k : ℕ) (all : List Decl) (es : Eqns) where
  abbrev controls : Says
  controls = says_names (controls_in es) no_entry

  is_controlled : (x : List ℕ) → is_some (controls x) ≡ controls_define es x
  is_controlled x = ap is_some (says_listed (controls_in es) no_entry x) ∙ is_there 0 (listed (controls_in es) x) ∙ listed_controls x es

  cell_is : (d : Decl) → cell_by controls (number_in k all) d ≡ cell_of es k all d
  cell_is d = ap (λ b. local_cell d.last b (or_base (number_in k all d.name))) (is_controlled d.name)

  by_name : (d : Bool) (i : ℕ) (o : Option ℕ) → or_base (if d then Some i else o) ≡ (if d then i else or_base o)
  by_name true i o = refl
  by_name false i o = refl

  located : (ds : List Decl) (x : List ℕ) → or_base (says_locals controls (number_in k all) ds x) ≡ cell_in es k all ds x
  located [] x = refl
  located (d ∷ ds) x =
      by_name (bytes_eq d.name x) (cell_by controls (number_in k all) d) (says_locals controls (number_in k all) ds x)
      ∙ ap (λ i. if bytes_eq d.name x then i else or_base (says_locals controls (number_in k all) ds x)) (cell_is d)
      ∙ ap (λ i. if bytes_eq d.name x then cell_of es k all d else i) (located ds x)

  cells_are : (ds : List Decl) → map (cell_by controls (number_in k all)) ds ≡ map (λ d. cell_of es k all d) ds
  cells_are [] = refl
  cells_are (d ∷ ds) = ap (λ i. i ∷ map (cell_by controls (number_in k all)) ds) (cell_is d) ∙ ap (λ is. cell_of es k all d ∷ is) (cells_are ds)

pub own_says : (k : ℕ) (ds : List Decl) (es : Eqns) → says_by (says_names (controls_in es) no_entry) (number_in k ds) (block ds es) ≡ says_own k (block ds es)
own_says k ds es =
    let f = says_locals (says_names (controls_in es) no_entry) (number_in k ds) ds in
    let one : (x : List ℕ) → says_names (names_in es) f x ≡ says_own k (block ds es) x =
    λ x. says_listed (names_in es) f x ∙ ap (λ d. if d then Some (or_base (f x)) else None) (listed_in x es) ∙ ap (λ i. if some_defines es x then Some i else None) (located k ds es ds x) in
    λ j x. one x j

pub own_cells : (k : ℕ) (ds : List Decl) (es : Eqns) → cells_by (says_names (controls_in es) no_entry) (number_in k ds) (block ds es) ≡ own_locals k (block ds es)
own_cells k ds es = cells_are k ds es ds
