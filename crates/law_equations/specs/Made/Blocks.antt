-- What is asked of blocks, and what their layers say.
use Rattle.std.specs.Prelude.{◌≡◌, ⊤, ℕ, Bool, true, false, List, [], ◌∷◌, Option, None, Some}
use Rattle.hp_base.specs.declared.span.Span.{Span}
use Rattle.hp_base.specs.declared.value.Value.{Value}
use Rattle.hp_tree.specs.Blocks.{Decl, Block, block, Eqns, no_eqn, more_eqns, Eqn, define, switch, reset, automaton, Arms, no_arm, more_arms}
use Rattle.hp_tree.specs.Instant.{Named, Equations, Head, Tail, Right as RightOf, Test, Arms as ArmsOf, Body as BodyOf, Place}
use Rattle.hp_tree.specs.Meaning.{declares, is_among, defines, some_defines}
use Rattle.law_equations.specs.Flattened.Flatten.{FlatName, At, Prefix, below, is_false}
use Rattle.law_equations.specs.Made.Making.{Known, Sketch, Site, Sight, Layer, Standing, Inner, on_site, cons_number, sketch_expr, enter_path, path_for, over, hidden, names_of_eqns, names_of_arms, names_of_block, each_once, block_layer, in_block, restart_site, with_flag, link_all, sketch_block, sketch_eqn}
use Rattle.law_equations.specs.Made.Sights.{Entry}
use Rattle.law_equations.specs.Made.Standing.{Ready, ReadyRight}

-- what a block declares
abbrev pub locals_of : Block → List Decl
locals_of (block ds es) = ds

-- each name once on a left side
abbrev pub LeftsOnce : List (List ℕ × Span) → Type 0
LeftsOnce [] = ⊤
LeftsOnce (y ∷ ys) = (is_among ys y.0 ≡ false) × LeftsOnce ys

-- each name is declared once
abbrev pub DeclaredOnce : List Decl → Type 0
DeclaredOnce [] = ⊤
DeclaredOnce (d ∷ ds) = (declares ds d.name ≡ false) × DeclaredOnce ds

-- No automaton is left; each name is declared once, what is declared is defined, and each name has one equation in its block and stands once on its left.
abbrev mutual
  pub IsPlain : Block → Type 0
  IsPlain (block ds es) = DeclaredOnce ds × ((x : List ℕ) → declares ds x ≡ true → some_defines es x ≡ true) × ArePlain es

  pub ArePlain : Eqns → Type 0
  ArePlain no_eqn = ⊤
  ArePlain (more_eqns e es) = ((x : List ℕ) → defines e x ≡ true → some_defines es x ≡ false) × (OnePlain e × ArePlain es)

  pub OnePlain : Eqn → Type 0
  OnePlain (define s ys e) = LeftsOnce ys
  OnePlain (switch s e arms) = ArmsPlain arms
  OnePlain (reset s b e) = IsPlain b
  OnePlain (automaton s ss) = ⊥

  pub ArmsPlain : Arms → Type 0
  ArmsPlain no_arm = ⊤
  ArmsPlain (more_arms c b s arms) = IsPlain b × ArmsPlain arms

abbrev pub Either : Bool → Type 0 → Type 0 → Type 0
Either true A G = A
Either false A G = G

module _ (k : Known) (fill : Place → Value) where
  -- what is asked of the expressions of a block
  abbrev mutual
    pub ReadyBlock : Standing → Sight → Site → Block → Prefix → Sketch → Type 0
    ReadyBlock standing out at (block ds es) here d =
        let s = block_layer k standing out at ds (each_once [] (names_of_eqns es)) d in
        ReadyEqns (over s.0 out) at ds es (below Equations here) s.1

    pub ReadyEqns : Sight → Site → List Decl → Eqns → Prefix → Sketch → Type 0
    ReadyEqns see at ds no_eqn here d = ⊤
    ReadyEqns see at ds (more_eqns e es) here d = ReadyEqn see at ds e (below Head here) d × ReadyEqns see at ds es (below Tail here) (sketch_eqn k see at ds e d)

    pub ReadyEqn : Sight → Site → List Decl → Eqn → Prefix → Sketch → Type 0
    ReadyEqn see at ds (define s ys e) here d = let p = enter_path k see (path_for ds ys e) at d in ReadyRight k fill see p.0 e (below RightOf here) p.1
    ReadyEqn see at ds (switch s e arms) here d =
        let names = each_once [] (names_of_arms arms) in
        let t = sketch_expr k see at e d in
        Ready k fill see at e (below Test here) d × ReadyArms see (over (hidden names see) see) at names t.1 arms (below ArmsOf here) t.0
    ReadyEqn see at ds (reset s b e) here d =
        let names = each_once [] (names_of_block b) in
        let t = sketch_expr k see at e d in
        Either (is_false e) (ReadyBlock Inner (over (hidden names see) see) at b (below BodyOf here) d)
        (Ready k fill see at e (below Test here) d × ReadyBlock Inner (over (hidden names see) see) (in_block (restart_site at t.1)) b (below BodyOf here) (with_flag None t.0))
    ReadyEqn see at ds (automaton s ss) here d = ⊤

    pub ReadyArms : Sight → Sight → Site → List (List ℕ) → ℕ → Arms → Prefix → Sketch → Type 0
    ReadyArms see inside at names t no_arm here d = ⊤
    ReadyArms see inside at names t (more_arms c b s arms) here d =
        let on = on_site at t (cons_number k c) in
        let m = sketch_block k Inner inside (in_block on) b (with_flag None d) in
        ReadyBlock Inner inside (in_block on) b (below Head here) (with_flag None d)
        × ReadyArms see inside at names t arms (below Tail here) (with_flag d.flag (link_all see on m.0 names m.1))

-- What the layer of a block says of a name: its variable where the block defines it, that it is local where the block declares it, and else nothing.
pub record IsOwn (means : ℕ → FlatName) (ds : List Decl) (here : Prefix) (x : List ℕ) (o : Option Entry) : Type 0 where
  pub entry : Entry
  pub is : o ≡ Some entry
  pub local : entry.is_local ≡ declares ds x
  pub variable : ℕ
  pub value : entry.value ≡ Some variable
  pub stands : means variable ≡ At (here (Named x ∷ []))

abbrev pub SaysOf : Bool → Bool → (ℕ → FlatName) → List Decl → Prefix → List ℕ → Option Entry → Type 0
SaysOf true declared means ds here x o = IsOwn means ds here x o
SaysOf false true means ds here x o = (e : Entry) × (o ≡ Some e) × (e.is_local ≡ true)
SaysOf false false means ds here x o = o ≡ None

abbrev pub LayerSays : (ℕ → FlatName) → List Decl → Eqns → Prefix → Layer → Type 0
LayerSays means ds es here layer = (x : List ℕ) → SaysOf (some_defines es x) (declares ds x) means ds here x (layer x)
