-- What is known around an equation, and what is shown of equations and blocks.
use Rattle.std.proofs.Common.{◌≡◌, ℕ, Bool, true, false, List, [], ◌∷◌, ◌++◌, refl, sym, ap, ap₂, ◌∙◌}
use Rattle.std.specs.Prelude.{if◌then◌else◌}
use Rattle.std.specs.Str.{bytes_eq}
use Rattle.hp_base.specs.declared.span.Span.{Span}
use Rattle.hp_base.specs.declared.value.Value.{Value}
use Rattle.hp_base.specs.declared.value.Value.TheVariants.{B}
use Rattle.hp_tree.specs.Expressions.{Expr, constant, variable, last_of, one, two, choose, pre, fby, arrow, when_is, merge, call}
use Rattle.hp_tree.specs.Blocks.{Decl, Block, Eqns, Eqn, define}
use Rattle.hp_tree.specs.Programs.{TypeDecl}
use Rattle.hp_tree.specs.Instant.{Named, Fresh, Right, Instance, Instant, Given, at, part, in_right}
use Rattle.hp_tree.specs.Meaning.{Names, Nodes, expr, equation, equations, defined, some_defines, gives, scope, from_block, defines, output_for, right, clock_of}
use Rattle.hp_automata.specs.Renaming.{renamed, renamed_left}
use Rattle.hp_automata.specs.Lowering.{Types, Enumerations, lowered_eqn, lowered_eqns, lowered_block}
use Rattle.law_automata.specs.Lowered.OldNames.{IsOld}
use Rattle.law_automata.specs.Lowered.Removable.{Known, AllOld, EqnOk, EqnsOk}
use Rattle.law_automata.specs.Lowered.Standing.{Relation, Along, ExprStands, EqnStands, EqnsStand, BlockStands}
use Rattle.law_automata.specs.Lowered.Giving.{EqnGiven, EqnsGiven}
use Rattle.law_automata.specs.Lowered.Deciding.{Property, EqnDecided, EqnsDecided}
use Rattle.law_automata.proofs.LoweredLemmas.Callees.{Callees}
use Rattle.law_automata.proofs.LoweredLemmas.Renaming.{Renames, to_test}
use Rattle.law_automata.proofs.LoweredLemmas.Lookups.{with_names, eqn_sound}
use Rattle.law_automata.proofs.LoweredLemmas.Expressions.{reading, expr_met}
use Rattle.law_automata.proofs.LoweredLemmas.Rows.{EqnMet, EachMet, RowMet}
use Rattle.law_automata.proofs.LoweredLemmas.BlockMaking.{ClocksSame, clock_same, clock_of_old}
use Rattle.law_automata.proofs.LoweredLemmas.Pasts.{along_map}
use Rattle.hp_automata.specs.Names.{is_name}

-- which name it is that something stands for
pub record Undone (to : List ℕ → List ℕ) : Type 0 where
  pub back : List ℕ → List ℕ
  pub back_to : (x : List ℕ) → IsOld x → back (to x) ≡ x

-- what is known around an equation, in a block with these declarations, and where it stands afterwards
pub record Around (outer : Known) (d : ℕ) (to : List ℕ → List ℕ) (ds ds' : List Decl) (names names' last last' : Names) : Type 0 where
  pub renames : Renames outer d to
  pub undone : Undone to
  pub clocks : ClocksSame to ds ds'
  pub same : (x : List ℕ) → IsOld x → names' (to x) ≡ names x
  pub lasts : (x : List ℕ) → IsOld x → last' x ≡ last x

module _ (types : List TypeDecl) (u : Value → Value) (N N' : Nodes) (stands given : List ℕ → Relation) (decided : List ℕ → Property) (C : Callees N N' stands given decided) (enums : Enumerations) where
  -- an instant of what stands for a block, which is there
  pub record BlockMet (d : ℕ) (to : List ℕ → List ℕ) (tys : Types) (s : Span) (xs : List (List ℕ)) (b : Block) (fresh : Bool) (out' last last' : Names) (g' : Given) (now : Instant) : Type 0 where
    pub instant : Instant
    pub meets : instant ≡ scope types (reading u) N' (lowered_block enums to tys d s xs b) fresh out' last' g' instant
    pub so : BlockStands stands d b now instant
    pub was_fresh : now (Fresh ∷ []) ≡ B fresh
    pub is_fresh : instant (Fresh ∷ []) ≡ B fresh
    pub named : (x : List ℕ) → IsOld x → with_names xs b x ≡ true → instant (Named (to x) ∷ []) ≡ from_block b last now x
    pub all : ((x : List ℕ) → to x ≡ x) → ((x : List ℕ) → is_name xs x ≡ false) → (y : List ℕ) → now (Named y ∷ []) ≡ instant (Named y ∷ [])

  module _ {outer : Known} {d : ℕ} {to : List ℕ → List ℕ} {ds ds' : List Decl} {names names' last last' : Names} (a : Around outer d to ds ds' names names' last last') (tys : Types) where
    -- where names get what they are to get, all that are defined have their values
    pub eqn_from : (e : Eqn) → EqnOk outer d e → (g g' : Given) (now : Instant) → ((x : List ℕ) → defines e x ≡ true → gives types (reading u) N ds e names last g now x ≡ names x)
        → (j : Instant) → j ≡ equation types (reading u) N' ds' (lowered_eqn enums to tys d e) names' last' g' j
        → ((x : List ℕ) → IsOld x → defines e x ≡ true → gives types (reading u) N' ds' (lowered_eqn enums to tys d e) names' last' g' j (to x) ≡ gives types (reading u) N ds e names last g now x)
        → EqnStands stands d e now j → EqnMet types u N' ds' names' last' (lowered_eqn enums to tys d e) g' (EqnStands stands d e now)
    eqn_from e ok g g' now own j m h so = (
      j,
      m,
      (λ y q.
          let stood = eqn_sound enums a.renames tys e ok y q in
          ap (gives types (reading u) N' ds' (lowered_eqn enums to tys d e) names' last' g' j) stood.is ∙ h stood.name stood.old stood.own ∙ own stood.name stood.own ∙ sym (a.same stood.name stood.old)
          ∙ ap names' (sym stood.is)),
      so,
    )

    output_same : (ys : List (List ℕ × Span)) → AllOld ys → (os : List (List ℕ)) (i j : Instant) → ((x : List ℕ) → i (Named x ∷ []) ≡ j (Named x ∷ [])) → (x : List ℕ) → IsOld x → output_for (renamed_left to ys) os j (to x) ≡ output_for ys os i x
    output_same [] o os i j h x ox = refl
    output_same (y ∷ ys) o [] i j h x ox = refl
    output_same (y ∷ ys) o (q ∷ os) i j h x ox = ap₂ (λ t r. if t then j (Named q ∷ []) else r) (to_test a.renames y.0 x o.0 ox) (output_same ys o.1 os i j h x ox) ∙ by (bytes_eq y.0 x)
      where
        by : (t : Bool) → (if t then j (Named q ∷ []) else output_for ys os i x) ≡ (if t then i (Named q ∷ []) else output_for ys os i x)
        by true = sym (h q)
        by false = refl

    -- what the right side gives to a name
    right_same : (ys : List (List ℕ × Span)) → AllOld ys → (e : Expr) (i j : Instant) → ExprStands stands e i j → (x : List ℕ) → IsOld x → right types (reading u) N' (renamed_left to ys) (renamed to e) j (to x) ≡ right types (reading u) N ys e i x
    right_same ys o (constant s c) i j h x ox = sym h
    right_same ys o (variable s y) i j h x ox = sym h
    right_same ys o (last_of s y) i j h x ox = sym h
    right_same ys o (one s op a) i j h x ox = sym h.0
    right_same ys o (two s op a b) i j h x ox = sym h.0
    right_same ys o (choose s a b c) i j h x ox = sym h.0
    right_same ys o (pre s a) i j h x ox = sym h.0
    right_same ys o (fby s a b) i j h x ox = sym h.0
    right_same ys o (arrow s a b) i j h x ox = sym h.0
    right_same ys o (when_is s a c y) i j h x ox = sym h.0
    right_same ys o (merge s y ps) i j h x ox = sym h.0
    right_same ys o (call s f inlined es) i j h x ox =
        ap (λ os. output_for (renamed_left to ys) os (part Instance j) (to x)) (C.outputs f) ∙ output_same ys o (N.outputs f) (part Instance i) (part Instance j) h.3 x ox

    pub define_step : (s : Span) (ys : List (List ℕ × Span)) (e : Expr) → EqnOk outer d (define s ys e) → (g g' : Given) (now : Instant) → Along (EqnStands stands d (define s ys e)) g.past g'.past → EqnGiven u given (define s ys e) g.free g'.free
        → EqnDecided decided (define s ys e) now → ((x : List ℕ) → defines (define s ys e) x ≡ true → gives types (reading u) N ds (define s ys e) names last g now x ≡ names x)
        → now ≡ equation types (reading u) N ds (define s ys e) names last g now → EqnMet types u N' ds' names' last' (lowered_eqn enums to tys d (define s ys e)) g' (EqnStands stands d (define s ys e) now)
    define_step s ys e ok g g' now past free dec own m =
        let clock = clock_of ds ys e in
        let E = expr_met types u N N' stands given decided C to names' names last' last a.same a.lasts e ok.1 clock (clock_of_old to ds ds' a.clocks ys e ok.1) (at Right g) (at Right g') (part Right now)
        (along_map (EqnStands stands d (define s ys e)) (ExprStands stands e) (part Right) (part Right) (λ i j h. h) g.past g'.past past) free dec (ap (part Right) m) in
        let said : E.0 ≡ expr types (reading u) N' (renamed to e) (clock_of ds' (renamed_left to ys) (renamed to e)) names' last' (at Right g') E.0 =
        E.1 ∙ ap (λ ck. expr types (reading u) N' (renamed to e) ck names' last' (at Right g') E.0) (sym (clock_same to ds ds' a.clocks ys e ok.0 ok.1)) in
        eqn_from (define s ys e) ok g g' now own (in_right E.0) (ap in_right said)
        (λ x ox q.
        ap (λ i. right types (reading u) N' (renamed_left to ys) (renamed to e) i (to x)) (sym said) ∙ right_same ys ok.0 e (part Right now) E.0 E.2 x ox
        ∙ ap (λ i. right types (reading u) N ys e i x) (ap (part Right) m))
        E.2

  -- What is shown of some equations: what stands for them, with more behind, has an instant.
  abbrev pub EqnsStep : Eqns → Type 0
  EqnsStep es =
      (outer : Known) (d : ℕ) (to : List ℕ → List ℕ) (ds ds' : List Decl) (names names' last last' : Names) → Around outer d to ds ds' names names' last last' → (tys : Types) (more : List Eqn) → EachMet types u N' ds' names' last' more → EqnsOk outer d es
      → (g g' : Given) (now : Instant) → Along (EqnsStand stands d es) g.past g'.past → EqnsGiven u given es g.free g'.free → EqnsDecided decided es now
      → ((x : List ℕ) → some_defines es x ≡ true → defined types (reading u) N ds es names last g now x ≡ names x) → now ≡ equations types (reading u) N ds es names last g now
      → RowMet types u N' ds' names' last' (lowered_eqns enums to tys d es ++ more) g' (EqnsStand stands d es now)

  abbrev pub EqnStep : Eqn → Type 0
  EqnStep e =
      (outer : Known) (d : ℕ) (to : List ℕ → List ℕ) (ds ds' : List Decl) (names names' last last' : Names) → Around outer d to ds ds' names names' last last' → (tys : Types) → EqnOk outer d e
      → (g g' : Given) (now : Instant) → Along (EqnStands stands d e) g.past g'.past → EqnGiven u given e g.free g'.free → EqnDecided decided e now
      → ((x : List ℕ) → defines e x ≡ true → gives types (reading u) N ds e names last g now x ≡ names x) → now ≡ equation types (reading u) N ds e names last g now
      → EqnMet types u N' ds' names' last' (lowered_eqn enums to tys d e) g' (EqnStands stands d e now)
