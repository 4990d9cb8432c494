-- What the equations of blocks are made of.
use Rattle.std.proofs.Common.{◌≡◌, ◌⊎◌, inl, inr, ℕ, ◌+◌, ◌<◌, Bool, true, false, ◌||◌, ◌&&◌, not, if◌then◌else◌, List, [], ◌∷◌, ◌++◌, length, map, reverse, Option, None, Some, refl, sym, ap, ap₂, subst, ◌∙◌, arith}
use Rattle.std.specs.Str.{bytes_eq}
use Rattle.std.proofs.lemmas.List.{reverse-append}
use Rattle.hp_base.specs.declared.span.Span.{Span}
use Rattle.hp_base.specs.declared.value.Value.{Value}
use Rattle.hp_tree.specs.Expressions.{Expr}
use Rattle.hp_tree.specs.Blocks.{Decl, Block, block, Eqns, no_eqn, more_eqns, Eqn, define, switch, reset, automaton, Arms, no_arm, more_arms}
use Rattle.hp_tree.specs.Programs.{TypeDecl}
use Rattle.hp_tree.specs.Operators.{cons_of}
use Rattle.hp_tree.specs.Instant.{Step, Named, Equations, Head, Tail, Right as RightOf, Test, Arms as ArmsOf, Body as BodyOf, Place}
use Rattle.hp_tree.specs.Meaning.{declares, defines, some_defines, arms_define, block_defines}
use Rattle.law_equations.specs.Flattened.Flatten.{FlatName, At, When, on, steps, ats, Rows, copies, Prefix, below, Scope, is_false, inside_at, lasts_at, arms_rows, flat_gives, flat_defined, flat_expr, flat_scope, flat_equations, flat_equation, flat_arms, unless}
use Rattle.law_equations.specs.Flattened.Numbered.{AreRows, AreSteps}
use Rattle.law_equations.specs.Made.Labels.{expr_labels, block_labels, eqns_labels, eqn_labels, arms_labels}
use Rattle.law_equations.specs.Made.Making.{Known, Sketch, Site, Sight, Layer, Standing, Body, Inner, Seen, next, on_site, cons_number, or_entry, over, hidden, names_of_arms, names_of_block, is_in, each_once, given_by, bind, link_all, in_block, restart_site, with_flag, sketch_expr, sketch_block, sketch_eqns, sketch_eqn, sketch_arms}
use Rattle.law_equations.specs.Made.Blocks.{IsPlain, ArePlain, OnePlain, ArmsPlain, Either, ReadyBlock, ReadyEqns, ReadyEqn, ReadyArms, SaysOf, LayerSays}
use Rattle.law_equations.specs.Made.Sights.{Entry}
use Rattle.law_equations.specs.Made.Keeping.{LastsKept, ExprKeeps, BlockKeeps, EqnsKeep, EqnKeeps, ArmsKeep}
use Rattle.law_equations.specs.Made.Standing.{Knows, IsNamed, Sees, IsAt, IsFlagged, defs, Steps, Promises, Remembers, Ready, EqnsMade, AreApart, AreThere}
use Rattle.law_equations.proofs.MadeLemmas.LabelLaws.{labelled-both, links-labelled}
use Rattle.law_equations.proofs.MadeLemmas.PromiseLaws.{joined, other, none, on-steps}
use Rattle.law_equations.proofs.MadeLemmas.ExpressionLaws.{Owns, Makes, expr-made}
use Rattle.law_equations.proofs.MadeLemmas.BlockSteps.{nothing-made, steps-first, in-turn}
use Rattle.law_equations.proofs.MadeLemmas.BindLaws.{Binding, binds, takes, TakesOnce, AllNamed, binds-made}
use Rattle.law_equations.proofs.MadeLemmas.DefinitionLaws.{BodyStarts, definition-made}
use Rattle.law_equations.proofs.MadeLemmas.LayerLaws.{in-arms, in-block, Once, names-once, once-in}
use Rattle.law_equations.proofs.MadeLemmas.BlockLayers.{IsInjective, Outer, after, Around, LayerMade, layer-made, layer-flag, layer-apart, layer-there, whole}

-- ---- names of a control equation, inside and behind it

-- inside, names that are defined stand for their last values
inside_sees : (means : ℕ → FlatName) (see : Sight) (sc lsc : Scope) (names : List (List ℕ)) (defined : List ℕ → Bool) → ((x : List ℕ) → is_in names x ≡ defined x) → Sees means see sc lsc → Sees means (over (hidden names see) see) (λ x. if defined x then lsc x else sc x) lsc
inside_sees means see sc lsc names defined same s x = by (defined x) (same x)
  where
    by : (b : Bool) → is_in names x ≡ b → IsNamed means (over (hidden names see) see x).value (if b then lsc x else sc x) × IsNamed means (over (hidden names see) see x).last (lsc x)
    by true e =
        let last = (s x).1 in (
          subst (λ o. IsNamed means (or_entry o (see x)).value (lsc x)) (sym (ap (λ b. if b then Some (record { ty = (see x).ty; value = (see x).last; last = (see x).last; is_local = false }) else None) e)) last,
          subst (λ o. IsNamed means (or_entry o (see x)).last (lsc x)) (sym (ap (λ b. if b then Some (record { ty = (see x).ty; value = (see x).last; last = (see x).last; is_local = false }) else None) e)) last,
        )
    by false e = (
      subst (λ o. IsNamed means (or_entry o (see x)).value (sc x)) (sym (ap (λ b. if b then Some (record { ty = (see x).ty; value = (see x).last; last = (see x).last; is_local = false }) else None) e)) (s x).0,
      subst (λ o. IsNamed means (or_entry o (see x)).last (lsc x)) (sym (ap (λ b. if b then Some (record { ty = (see x).ty; value = (see x).last; last = (see x).last; is_local = false }) else None) e)) (s x).1,
    )

-- behind it, each takes what the block gives it
abbrev links : Sight → Layer → List (List ℕ) → List Binding
links see own [] = []
links see own (x ∷ xs) = (x, given_by (own x) (see x)) ∷ links see own xs

links_take : (see : Sight) (own : Layer) (xs : List (List ℕ)) (x : List ℕ) → takes (links see own xs) x ≡ is_in xs x
links_take see own [] x = refl
links_take see own (y ∷ xs) x = ap (λ b. bytes_eq y x || b) (links_take see own xs x)

links_once : (see : Sight) (own : Layer) (xs : List (List ℕ)) → Once xs → TakesOnce (links see own xs)
links_once see own [] o = tt
links_once see own (x ∷ xs) o = (links_take see own xs x ∙ o.0, links_once see own xs o.1)

link_all_is : (k : Known) (see : Sight) (at : Site) (own : Layer) (xs : List (List ℕ)) (d : Sketch) → link_all see at own xs d ≡ binds k see at (links see own xs) d
link_all_is k see at own [] d = refl
link_all_is k see at own (x ∷ xs) d = link_all_is k see at own xs _

-- what a block gives a name
abbrev Given : Block → Prefix → Scope → List ℕ → FlatName
Given b here lsc x = if block_defines b x then At (here (Named x ∷ [])) else lsc x

given_named : (means : ℕ → FlatName) (ds : List Decl) (es : Eqns) (here : Prefix) (lsc : Scope) (x : List ℕ) (o : Option Entry) (outside : Entry) → SaysOf (some_defines es x) (declares ds x) means ds here x o → IsNamed means outside.last (lsc x)
    → IsNamed means (given_by o outside) (if some_defines es x && not (declares ds x) then At (here (Named x ∷ [])) else lsc x)
given_named means ds es here lsc x o outside says last = by (some_defines es x) (declares ds x) refl says
  where
    own_given : (c : Bool) → declares ds x ≡ c → (p : Option Entry) (e : Entry) → p ≡ Some e → e.is_local ≡ c → (v : ℕ) → e.value ≡ Some v → means v ≡ At (here (Named x ∷ [])) → IsNamed means (given_by p outside) (if not c then At (here (Named x ∷ [])) else lsc x)
    own_given true h p e i l v q m =
        subst (λ p. IsNamed means (given_by p outside) (lsc x)) (sym i) (subst (λ c. IsNamed means (if c then outside.last else e.value) (lsc x)) (sym l) last)
    own_given false h p e i l v q m =
        subst (λ p. IsNamed means (given_by p outside) (At (here (Named x ∷ [])))) (sym i)
        (subst (λ c. IsNamed means (if c then outside.last else e.value) (At (here (Named x ∷ [])))) (sym l) (subst (λ o. IsNamed means o (At (here (Named x ∷ [])))) (sym q) m))

    by : (b c : Bool) → declares ds x ≡ c → SaysOf b c means ds here x o → IsNamed means (given_by o outside) (if b && not c then At (here (Named x ∷ [])) else lsc x)
    by true c h s = own_given c h o s.entry s.is (s.local ∙ h) s.variable s.value s.stands
    by false true h s =
        subst (λ p. IsNamed means (given_by p outside) (lsc x)) (sym s.1) (subst (λ c. IsNamed means (if c then outside.last else s.0.value) (lsc x)) (sym s.2) last)
    by false false h s = subst (λ p. IsNamed means (given_by p outside) (lsc x)) (sym s) last

all_given : (means : ℕ → FlatName) (ds : List Decl) (es : Eqns) (here : Prefix) (sc lsc : Scope) (see : Sight) (own : Layer) → LayerSays means ds es here own → Sees means see sc lsc → (xs : List (List ℕ)) → AllNamed means (Given (block ds es) here lsc) (links see own xs)
all_given means ds es here sc lsc see own says s [] = tt
all_given means ds es here sc lsc see own says s (x ∷ xs) = (given_named means ds es here lsc x (own x) (see x) (says x) (s x).1, all_given means ds es here sc lsc see own says s xs)

-- ---- flags

reflagged : (F : FlatName → Option Rows) (means : ℕ → FlatName) (see : Sight) (defined : List ℕ → Bool) (rows : List ℕ → Rows) (d e : Sketch) (w ck : When) (ts rs : List Place) (g f : Option ℕ) → IsFlagged means f ck rs
    → EqnsMade F means see defined rows d e w ts → EqnsMade F means see defined rows (with_flag g d) (with_flag f e) ck rs
reflagged F means see defined rows d e w ck ts rs g f flag m = record { grown = m.grown; kept = m.kept; own = m.own; done = m.done; bounded = m.bounded; flag = flag }

-- equations that define nothing outside are steps
inner_steps : (F : FlatName → Option Rows) (means : ℕ → FlatName) (see : Sight) (defined : List ℕ → Bool) (rows : List ℕ → Rows) (d e : Sketch) (ck : When) (rs : List Place) → ((x : List ℕ) → defined x ≡ false) → EqnsMade F means see defined rows d e ck rs → Steps F means d e
inner_steps F means see defined rows d e ck rs nothing m =
    record { grown = m.grown; kept = λ y l. m.kept y l (λ x q v. let no : true ≡ false = sym q ∙ nothing x in absurd cc); done = m.done; bounded = m.bounded }

and_false : (a : Bool) → (a && false) ≡ false
and_false true = refl
and_false false = refl

module _ (types : List TypeDecl) (outputs : List ℕ → List (List ℕ)) (k : Known) (knows : Knows types outputs k) (fill : Place → Value) (F : FlatName → Option Rows) (memory : Remembers F) where
  abbrev St : Sight → Scope → Scope → Site → When → List Place → Sketch → (ℕ → FlatName) → Type 0
  St see sc lsc at ck rs d means = BodyStarts types outputs k knows fill F memory see sc lsc at ck ck rs d means

  -- what is promised of a block within its node, with its layer
  pub record InnerMade (means : ℕ → FlatName) (b : Block) (here : Prefix) (d : Sketch) (m : Seen) (ck : When) (rs : List Place) : Type 0 where
    pub steps : Steps F means d m.1
    pub flag : IsFlagged means m.1.flag ck rs
    pub given : (see : Sight) (sc lsc : Scope) → Sees means see sc lsc → (xs : List (List ℕ)) → AllNamed means (Given b here lsc) (links see m.0 xs)

  -- what a block gives to names behind it
  linked : (means : ℕ → FlatName) (see : Sight) (sc lsc : Scope) (at : Site) (b : Block) (here : Prefix) (names : List (List ℕ)) (d : Sketch) (m : Seen) (w ck : When) (ts rs : List Place) (g f : Option ℕ)
      → InnerMade means b here d m w ts → Once names → Sees means see sc lsc → (site : When) (rest : List Place) → IsAt means at site rest → AreApart see (is_in names) → AreThere see (is_in names) d → IsFlagged means f ck rs → rest ≡ rs
      → EqnsMade F means see (is_in names) (λ x. copies site rs (Given b here lsc x) ∷ []) (with_flag g d) (with_flag f (link_all see at m.0 names (with_flag None m.1))) ck rs
  linked means see sc lsc at b here names d m w ck ts rs g f inner once s site rest i apart there flag q =
      let bs = links see m.0 names in
      let same_takes : takes bs ≡ is_in names = (λ j x. links_take see m.0 names x j) in
      let made = binds-made k F means see ck site rs at (Given b here lsc) bs (with_flag None m.1) inner.steps.bounded tt (subst (λ r. IsAt means at site r) q i) (links_once see m.0 names once) (inner.given see sc lsc s names)
      (subst (AreApart see) (sym same_takes) apart) (subst (λ t. AreThere see t (with_flag None m.1)) (sym same_takes) (λ x y p v. let l : y < next d = there x y p v in let g = inner.steps.grown in omega (arith, l, g))) in
      reflagged F means see (is_in names) (λ x. copies site rs (Given b here lsc x) ∷ []) d (link_all see at m.0 names (with_flag None m.1)) ck ck rs rs g f flag
      (steps-first k F means see ck rs (is_in names) (λ x. copies site rs (Given b here lsc x) ∷ []) d (with_flag None m.1) (link_all see at m.0 names (with_flag None m.1)) inner_flagless
      (subst (λ t. EqnsMade F means see t (λ x. copies site rs (Given b here lsc x) ∷ []) (with_flag None m.1) (link_all see at m.0 names (with_flag None m.1)) ck rs) same_takes
      (subst (λ e. EqnsMade F means see (takes bs) (λ x. copies site rs (Given b here lsc x) ∷ []) (with_flag None m.1) e ck rs) (sym (link_all_is k see at m.0 names (with_flag None m.1))) made))
      there)
    where
      inner_flagless : Steps F means d (with_flag None m.1)
      inner_flagless = let t = inner.steps in record { grown = t.grown; kept = t.kept; done = t.done; bounded = t.bounded }

  bind_flag : (at : Site) (o source : Option ℕ) (g : Option ℕ) (d : Sketch) → bind at o source (with_flag g d) ≡ with_flag g (bind at o source d)
  bind_flag at None source g d = refl
  bind_flag at (Some x) source g d = refl

  link_flag : (see : Sight) (at : Site) (own : Layer) (xs : List (List ℕ)) (g : Option ℕ) (d : Sketch) → link_all see at own xs (with_flag g d) ≡ with_flag g (link_all see at own xs d)
  link_flag see at own [] g d = refl
  link_flag see at own (x ∷ xs) g d =
      ap (link_all see at own xs) (bind_flag at (see x).value (given_by (own x) (see x)) g d) ∙ link_flag see at own xs g (bind at (see x).value (given_by (own x) (see x)) d)

  bind_next : (at : Site) (o source : Option ℕ) (d : Sketch) → next (bind at o source d) ≡ next d
  bind_next at None source d = refl
  bind_next at (Some x) source d = refl

  link_next : (see : Sight) (at : Site) (own : Layer) (xs : List (List ℕ)) (d : Sketch) → next (link_all see at own xs d) ≡ next d
  link_next see at own [] d = refl
  link_next see at own (x ∷ xs) d = link_next see at own xs (bind at (see x).value (given_by (own x) (see x)) d) ∙ bind_next at (see x).value (given_by (own x) (see x)) d

  same_rows : (means : ℕ → FlatName) (see : Sight) (defined : List ℕ → Bool) (rows others : List ℕ → Rows) (d e : Sketch) (ck : When) (rs : List Place) → ((x : List ℕ) → defined x ≡ true → rows x ≡ others x)
      → EqnsMade F means see defined rows d e ck rs → EqnsMade F means see defined others d e ck rs
  same_rows means see defined rows others d e ck rs h m =
      record {
        grown = m.grown;
        kept = m.kept;
        own = λ x q y l v before a. subst (λ r. AreRows means (defs e y) (before ++ r)) (h x q) (m.own x q y l v before a);
        done = m.done;
        bounded = m.bounded;
        flag = m.flag;
      }

  or_left : (a b : Bool) → a ≡ true → (a || b) ≡ true
  or_left true b h = refl
  or_left false b h = absurd cc

  or_right : (a b : Bool) → b ≡ true → (a || b) ≡ true
  or_right true b h = refl
  or_right false b h = h

  turn : (b c : Bool) (rows more : Rows) → (b || c) ≡ true → (b ≡ true → c ≡ false)
      → (b ≡ true) × (c ≡ true) × ((if b then rows else more) ≡ rows ++ more) ⊎ (b ≡ true) × (c ≡ false) × ((if b then rows else more) ≡ rows) ⊎ (b ≡ false) × (c ≡ true) × ((if b then rows else more) ≡ more)
  turn true c rows more q h = inr (inl (refl, h refl, refl))
  turn false c rows more q h = inr (inr (refl, q, refl))

  below_injective : (here : Prefix) (s : Step) → IsInjective here → IsInjective (below s here)
  below_injective here s inj p q h = same_tail s p q (inj (s ∷ p) (s ∷ q) h)
    where
      same_tail : (s : Step) (p q : Place) → (s ∷ p) ≡ (s ∷ q) → p ≡ q
      same_tail s p q h = cc

  -- ---- what is promised of equations, one equation, arms and blocks

  abbrev EqnsDo : Eqns → List Decl → Sight → Scope → Scope → Site → Prefix → When → List Place → Sketch → (ℕ → FlatName) → Type 0
  EqnsDo es ds see sc lsc at here ck rs d means =
      St see sc lsc at ck rs d means → AreApart see (some_defines es) → AreThere see (some_defines es) d
      → EqnsMade F means see (some_defines es) (flat_defined types outputs fill ds es sc lsc here ck rs) d (sketch_eqns k see at ds es d) ck rs

  abbrev EqnDo : Eqn → List Decl → Sight → Scope → Scope → Site → Prefix → When → List Place → Sketch → Sketch → (ℕ → FlatName) → Type 0
  EqnDo e ds see sc lsc at here ck rs d f means =
      St see sc lsc at ck rs d means → AreApart see (defines e) → AreThere see (defines e) d → EqnsMade F means see (defines e) (flat_gives types outputs fill ds e sc lsc here ck rs) d f ck rs

  abbrev ArmsDo : Arms → List (List ℕ) → Sight → Sight → Scope → Scope → Scope → Site → ℕ → FlatName → Prefix → When → List Place → Sketch → (ℕ → FlatName) → Type 0
  ArmsDo arms names see inside sc within lsc at t test here ck rs d means =
      St see sc lsc at ck rs d means → (means t ≡ test) → Sees means inside within lsc → AreApart see (is_in names) → AreThere see (is_in names) d
      → EqnsMade F means see (is_in names) (arms_rows types outputs fill arms test lsc here ck rs) d (sketch_arms k see inside at names t arms d) ck rs

  abbrev BlockStep : Block → Type 0
  BlockStep b =
      (see : Sight) (sc lsc : Scope) (at : Site) (here : Prefix) (ck : When) (rs : List Place) (d : Sketch) → Owns at [] → ((p : Place) → F (At (here p)) ≡ flat_scope types outputs fill b sc lsc here ck rs p)
      → ReadyBlock k fill Inner see at b here d → BlockKeeps memory.keeps types fill b sc lsc here ck rs → IsPlain b → IsInjective here
      → Promises memory.keeps d (sketch_block k Inner see at b d).1 (block_labels outputs b here) (λ means. St see sc lsc at ck rs d means → InnerMade means b here d (sketch_block k Inner see at b d) ck rs)

  again : (at other : Site) (means : ℕ → FlatName) (w : When) (rs : List Place) → at.clock ≡ other.clock → at.restart ≡ other.restart → IsAt means at w rs → IsAt means other w rs
  again at other means w rs e f i =
      record { clock = subst (λ c. AreSteps means (reverse c) (steps w)) e i.clock; restart = subst (λ r. map means (reverse r) ≡ ats rs) f i.restart }

  own_base : (at : Site) → Owns (in_block at) []
  own_base at = omega arith

  -- one arm
  arm_made : (b : Block) (names : List (List ℕ)) (see : Sight) (sc lsc : Scope) (at : Site) (here : Prefix) (w ck : When) (rs : List Place) (d : Sketch) (m : Seen) (means : ℕ → FlatName)
      → InnerMade means b here (with_flag None d) m w rs → Once names → Sees means see sc lsc → IsAt means at w rs → AreApart see (is_in names) → AreThere see (is_in names) d → IsFlagged means d.flag ck rs
      → EqnsMade F means see (is_in names) (λ x. copies w rs (Given b here lsc x) ∷ []) d (with_flag d.flag (link_all see at m.0 names m.1)) ck rs
  arm_made b names see sc lsc at here w ck rs d m means inner once s i apart there flag =
      subst (λ e. EqnsMade F means see (is_in names) (λ x. copies w rs (Given b here lsc x) ∷ []) d e ck rs) (ap (with_flag d.flag) (link_flag see at m.0 names None m.1))
      (linked means see sc lsc at b here names (with_flag None d) m w ck rs rs d.flag d.flag inner once s w rs i apart there flag refl)

  -- a reset
  module _ (s : Span) (b : Block) (e : Expr) (ds : List Decl) (see : Sight) (sc lsc : Scope) (at : Site) (here : Prefix) (ck : When) (rs : List Place) (d : Sketch) (step : BlockStep b) (own : Owns at []) (plain : IsPlain b) (inj : IsInjective here) where
    abbrev names_b : List (List ℕ)
    names_b = each_once [] (names_of_block b)

    abbrev inside_b : Sight
    inside_b = over (hidden names_b see) see

    abbrev unfolded : Bool → Sketch
    unfolded c =
        if c
        then (let m = sketch_block k Inner inside_b at b d in link_all see at m.0 names_b m.1)
        else (let t = sketch_expr k see at e d in
        let m = sketch_block k Inner inside_b (in_block (restart_site at t.1)) b (with_flag None t.0) in
        link_all see at m.0 names_b (with_flag t.0.flag m.1))

    in_b : (x : List ℕ) → is_in names_b x ≡ block_defines b x
    in_b x = once-in (names_of_block b) x ∙ in-block b plain x

    fun_b : is_in names_b ≡ block_defines b
    fun_b = λ j x. in_b x j

    given_rows : (x : List ℕ) → is_in names_b x ≡ true → copies ck rs (Given b (below BodyOf here) lsc x) ∷ [] ≡ copies ck rs (At (here (BodyOf ∷ Named x ∷ []))) ∷ []
    given_rows x q = ap (λ c. copies ck rs (if c then At (here (BodyOf ∷ Named x ∷ [])) else lsc x) ∷ []) (sym (in_b x) ∙ q)

    -- with the rows of a reset
    as_reset : (means : ℕ → FlatName) (f : Sketch) → EqnsMade F means see (is_in names_b) (λ x. copies ck rs (Given b (below BodyOf here) lsc x) ∷ []) d f ck rs
        → EqnsMade F means see (block_defines b) (flat_gives types outputs fill ds (reset s b e) sc lsc here ck rs) d f ck rs
    as_reset means f m =
        subst (λ t. EqnsMade F means see t (flat_gives types outputs fill ds (reset s b e) sc lsc here ck rs) d f ck rs) fun_b
        (same_rows means see (is_in names_b) (λ x. copies ck rs (Given b (below BodyOf here) lsc x) ∷ []) (λ x. copies ck rs (At (here (BodyOf ∷ Named x ∷ []))) ∷ []) d f ck rs given_rows m)

    once_b : Once names_b
    once_b = names-once (names_of_block b)

    abbrev within_b : Scope
    within_b x = if block_defines b x then lsc x else sc x

    always_on : ((p : Place) → F (At (here (BodyOf ∷ p))) ≡ flat_scope types outputs fill b within_b lsc (below BodyOf here) ck rs p) → ReadyBlock k fill Inner inside_b at b (below BodyOf here) d → BlockKeeps memory.keeps types fill b within_b lsc (below BodyOf here) ck rs
        → Promises memory.keeps d (unfolded true) (block_labels outputs b (below BodyOf here)) (EqnDo (reset s b e) ds see sc lsc at here ck rs d (unfolded true))
    always_on cov ready keep =
        let m = sketch_block k Inner inside_b at b d in
        let p = step inside_b within_b lsc at (below BodyOf here) ck rs d own cov ready keep plain (below_injective here BodyOf inj) in
        record {
          names = p.names;
          kept = p.kept;
          grown = link_next see at m.0 names_b m.1 ∙ p.grown;
          labelled = λ means a. labelled-both means d.eqns m.1.eqns (unfolded true).eqns (p.labelled means a) (links-labelled means see at m.0 names_b m.1);
          facts = λ means a st apart there.
              let inner = p.facts means a (st.0, inside_sees means see sc lsc names_b (block_defines b) in_b st.1, st.2, st.3) in
              as_reset means (unfolded true)
              (subst (λ f. EqnsMade F means see (is_in names_b) (λ x. copies ck rs (Given b (below BodyOf here) lsc x) ∷ []) d f ck rs)
              (ap (with_flag m.1.flag) (link_flag see at m.0 names_b None m.1) ∙ sym (link_flag see at m.0 names_b m.1.flag m.1))
              (linked means see sc lsc at b (below BodyOf here) names_b d m ck ck rs rs d.flag m.1.flag inner once_b st.1 ck rs st.2 (subst (AreApart see) (sym fun_b) apart) (subst (λ t. AreThere see t d) (sym fun_b) there) inner.flag refl));
        }

    restarted : ((p : Place) → F (At (here (Test ∷ p))) ≡ flat_expr types outputs fill e [] sc lsc (below Test here) ck rs p)
        → ((p : Place) → F (At (here (BodyOf ∷ p))) ≡ flat_scope types outputs fill b within_b lsc (below BodyOf here) ck (here (Test ∷ []) ∷ rs) p)
        → Ready k fill see at e (below Test here) d → ReadyBlock k fill Inner inside_b (in_block (restart_site at (sketch_expr k see at e d).1)) b (below BodyOf here) (with_flag None (sketch_expr k see at e d).0)
        → ExprKeeps memory.keeps types fill e [] sc (below Test here) ck rs → BlockKeeps memory.keeps types fill b within_b lsc (below BodyOf here) ck (here (Test ∷ []) ∷ rs)
        → Promises memory.keeps d (unfolded false) (λ rest. expr_labels outputs e (below Test here) (block_labels outputs b (below BodyOf here) rest)) (EqnDo (reset s b e) ds see sc lsc at here ck rs d (unfolded false))
    restarted cov_test cov ready_test ready keep_test keep =
        let t = sketch_expr k see at e d in
        let site = in_block (restart_site at t.1) in
        let m = sketch_block k Inner inside_b site b (with_flag None t.0) in
        let rs' = here (Test ∷ []) ∷ rs in
        let p = step inside_b within_b lsc site (below BodyOf here) ck rs' (with_flag None t.0) (own_base (restart_site at t.1)) cov ready keep plain (below_injective here BodyOf inj) in
        let q : Promises memory.keeps t.0 (unfolded false) (block_labels outputs b (below BodyOf here)) (λ means. St inside_b within_b lsc site ck rs' (with_flag None t.0) means → InnerMade means b (below BodyOf here) (with_flag None t.0) m ck rs') =
        record {
          names = p.names;
          kept = p.kept;
          grown = link_next see at m.0 names_b (with_flag t.0.flag m.1) ∙ p.grown;
          labelled = λ means a. labelled-both means t.0.eqns m.1.eqns (unfolded false).eqns (p.labelled means a) (links-labelled means see at m.0 names_b (with_flag t.0.flag m.1));
          facts = p.facts;
        } in
        joined d t.0 (unfolded false) (Makes types outputs k knows fill F memory see sc lsc at ck ck rs d t (At (here (Test ∷ []))))
        (λ means. St inside_b within_b lsc site ck rs' (with_flag None t.0) means → InnerMade means b (below BodyOf here) (with_flag None t.0) m ck rs') _
        (expr-made types outputs k knows fill F memory e [] sc lsc (below Test here) ck rs see at d own cov_test ready_test keep_test)
        q
        (λ means a g st apart there.
        let i = a st in
        let on_site : IsAt means site ck rs' = record { clock = st.2.clock; restart = ap (map means) (reverse-append at.restart (t.1 ∷ [])) ∙ ap₂ (λ x xs. x ∷ xs) i.value st.2.restart } in
        let inner = g (i.steps.bounded, inside_sees means see sc lsc names_b (block_defines b) in_b st.1, on_site, tt) in
        let there_b : AreThere see (is_in names_b) d = subst (λ t. AreThere see t d) (sym fun_b) there in
        let grown = i.steps.grown in
        let one = linked means see sc lsc at b (below BodyOf here) names_b (with_flag None t.0) m ck ck rs' rs t.0.flag t.0.flag inner once_b st.1 ck rs st.2 (subst (AreApart see) (sym fun_b) apart)
        (λ x y q v. let l : y < next d = there_b x y q v in omega (arith, l, grown)) i.flag refl in
        as_reset means (unfolded false)
        (steps-first k F means see ck rs (is_in names_b) (λ x. copies ck rs (Given b (below BodyOf here) lsc x) ∷ []) d t.0 (unfolded false) i.steps
        (subst (λ f. EqnsMade F means see (is_in names_b) (λ x. copies ck rs (Given b (below BodyOf here) lsc x) ∷ []) t.0 f ck rs)
        (ap (with_flag t.0.flag) (link_flag see at m.0 names_b None m.1) ∙ sym (link_flag see at m.0 names_b t.0.flag m.1)) one)
        there_b))

    reset_made : ((p : Place) → F (At (here p)) ≡ flat_equation types outputs fill ds (reset s b e) sc lsc here ck rs p) → ReadyEqn k fill see at ds (reset s b e) here d → EqnKeeps memory.keeps types fill ds (reset s b e) sc lsc here ck rs → (c : Bool) → is_false e ≡ c
        → Promises memory.keeps d (unfolded c) (λ rest. if c then block_labels outputs b (below BodyOf here) rest else expr_labels outputs e (below Test here) (block_labels outputs b (below BodyOf here) rest)) (EqnDo (reset s b e) ds see sc lsc at here ck rs d (unfolded c))
    reset_made cov ready keep true q =
        always_on (λ p. subst (λ c. F (At (here (BodyOf ∷ p))) ≡ flat_scope types outputs fill b within_b lsc (below BodyOf here) ck (if c then rs else here (Test ∷ []) ∷ rs) p) q (cov (BodyOf ∷ p)))
        (subst (λ c. Either c (ReadyBlock k fill Inner inside_b at b (below BodyOf here) d)
        (Ready k fill see at e (below Test here) d × ReadyBlock k fill Inner inside_b (in_block (restart_site at (sketch_expr k see at e d).1)) b (below BodyOf here) (with_flag None (sketch_expr k see at e d).0))) q ready)
        (subst (λ c. BlockKeeps memory.keeps types fill b within_b lsc (below BodyOf here) ck (if c then rs else here (Test ∷ []) ∷ rs)) q keep.1)
    reset_made cov ready keep false q =
        let r : Ready k fill see at e (below Test here) d × ReadyBlock k fill Inner inside_b (in_block (restart_site at (sketch_expr k see at e d).1)) b (below BodyOf here) (with_flag None (sketch_expr k see at e d).0) =
        subst (λ c. Either c (ReadyBlock k fill Inner inside_b at b (below BodyOf here) d)
        (Ready k fill see at e (below Test here) d × ReadyBlock k fill Inner inside_b (in_block (restart_site at (sketch_expr k see at e d).1)) b (below BodyOf here) (with_flag None (sketch_expr k see at e d).0))) q ready in
        restarted (λ p. subst (λ c. F (At (here (Test ∷ p))) ≡ unless c (flat_expr types outputs fill e [] sc lsc (below Test here) ck rs) p) q (cov (Test ∷ p)))
        (λ p. subst (λ c. F (At (here (BodyOf ∷ p))) ≡ flat_scope types outputs fill b within_b lsc (below BodyOf here) ck (if c then rs else here (Test ∷ []) ∷ rs) p) q (cov (BodyOf ∷ p)))
        r.0 r.1 keep.0 (subst (λ c. BlockKeeps memory.keeps types fill b within_b lsc (below BodyOf here) ck (if c then rs else here (Test ∷ []) ∷ rs)) q keep.1)

  -- ---- a block, where its equations are made

  -- of a block within its node or of the body of a node
  standing_made : (standing : Standing) (ds : List Decl) (es : Eqns) (see : Sight) (sc lsc : Scope) (at : Site) (here : Prefix) (ck : When) (rs : List Place) (d : Sketch) (plain : IsPlain (block ds es)) → IsInjective here
      → ((p : Place) → F (At (here p)) ≡ flat_scope types outputs fill (block ds es) sc lsc here ck rs p) → LastsKept memory.keeps types ds here ck rs
      → (let s = after types outputs k knows F memory standing see at here ck rs ds es d plain in
      Promises memory.keeps s.1 (sketch_eqns k (over s.0 see) at ds es s.1) (eqns_labels outputs es (below Equations here)) (EqnsDo es ds (over s.0 see) (inside_at es sc here) (lasts_at types ds lsc here ck rs) at (below Equations here) ck rs s.1))
      → (let s = after types outputs k knows F memory standing see at here ck rs ds es d plain in
      let e = sketch_eqns k (over s.0 see) at ds es s.1 in
      Promises memory.keeps d e (block_labels outputs (block ds es) here)
      (λ means. Around types outputs k knows F memory standing see at here ck rs ds es d plain means sc lsc → IsFlagged means d.flag ck rs → AreThere see (Outer standing ds es) d
      → LayerMade types outputs k knows F memory standing see at here ck rs ds es d plain means sc lsc
      × EqnsMade F means see (Outer standing ds es) (flat_defined types outputs fill ds es (inside_at es sc here) (lasts_at types ds lsc here ck rs) (below Equations here) ck rs) d e ck rs))
  standing_made standing ds es see sc lsc at here ck rs d plain inj cov keep eqns =
      let s = after types outputs k knows F memory standing see at here ck rs ds es d plain in
      let inner = over s.0 see in
      let sc' = inside_at es sc here in
      let lsc' = lasts_at types ds lsc here ck rs in
      let e = sketch_eqns k inner at ds es s.1 in
      let rows = flat_defined types outputs fill ds es sc' lsc' (below Equations here) ck rs in
      joined d s.1 e (λ means. Around types outputs k knows F memory standing see at here ck rs ds es d plain means sc lsc → LayerMade types outputs k knows F memory standing see at here ck rs ds es d plain means sc lsc)
      (EqnsDo es ds inner sc' lsc' at (below Equations here) ck rs s.1) _
      (layer-made types outputs k knows F memory standing see at here ck rs ds es d plain sc lsc keep)
      eqns
      (λ means a g around flag there.
      let l = a around in
      let made = g (l.steps.bounded, l.sees, around.site, subst (λ f. IsFlagged means f ck rs) (sym (layer-flag types outputs k knows F memory standing see at here ck rs ds es d plain)) flag)
      (layer-apart types outputs k knows F memory standing see at here ck rs ds es d plain inj means sc lsc l) (layer-there types outputs k knows F memory standing see at here ck rs ds es d plain there means sc lsc l) in (
        l,
        whole types outputs k knows F memory standing see at here ck rs ds es d plain means sc lsc l there e rows made
            (λ x q. cov (Named x ∷ []) ∙ ap (λ c. if c then Some (rows x) else None) q) around.bounded,
      ))

  none_outer : (ds : List Decl) (es : Eqns) (x : List ℕ) → Outer Inner ds es x ≡ true → ⊥
  none_outer ds es x q = let no : true ≡ false = sym q ∙ and_false (some_defines es x) in absurd cc

  -- ---- the induction

  link_grown : (see : Sight) (at : Site) (own : Layer) (xs : List (List ℕ)) (f : Option ℕ) (d e : Sketch) (n : ℕ) → next e ≡ next d + n → next (with_flag f (link_all see at own xs e)) ≡ next d + n
  link_grown see at own xs f d e n h = link_next see at own xs e ∙ h

  mutual
    pub block-made : (b : Block) → BlockStep b
    block-made (block ds es) see sc lsc at here ck rs d own cov ready keep plain inj =
        let s = after types outputs k knows F memory Inner see at here ck rs ds es d plain in
        let e = sketch_eqns k (over s.0 see) at ds es s.1 in
        let rows = flat_defined types outputs fill ds es (inside_at es sc here) (lasts_at types ds lsc here ck rs) (below Equations here) ck rs in
        other d e _ _
        (standing_made Inner ds es see sc lsc at here ck rs d plain inj cov keep.0
        (eqns-made es ds (over s.0 see) (inside_at es sc here) (lasts_at types ds lsc here ck rs) at (below Equations here) ck rs s.1 own (λ p. cov (Equations ∷ p)) ready keep.1 plain.2 (below_injective here Equations inj)))
        (λ means g st.
        let m = g (record { bounded = st.0; site = st.2; values = λ x q. (st.1 x).0; lasts = λ x. (st.1 x).1; outer = λ x q. absurd (none_outer ds es x q) }) st.3 (λ x y q v. absurd (none_outer ds es x q)) in
        record {
          steps = inner_steps F means see (Outer Inner ds es) rows d e ck rs (λ x. and_false (some_defines es x)) m.1;
          flag = m.1.flag;
          given = λ see' sc' lsc' s' xs. all_given means ds es here sc' lsc' see' s.0 (m.0.says (λ x. refl)) s' xs;
        })

    pub eqns-made : (es : Eqns) (ds : List Decl) (see : Sight) (sc lsc : Scope) (at : Site) (here : Prefix) (ck : When) (rs : List Place) (d : Sketch) → Owns at []
        → ((p : Place) → F (At (here p)) ≡ flat_equations types outputs fill ds es sc lsc here ck rs p) → ReadyEqns k fill see at ds es here d → EqnsKeep memory.keeps types fill ds es sc lsc here ck rs → ArePlain es → IsInjective here
        → Promises memory.keeps d (sketch_eqns k see at ds es d) (eqns_labels outputs es here) (EqnsDo es ds see sc lsc at here ck rs d)
    eqns-made no_eqn ds see sc lsc at here ck rs d own cov ready keep plain inj =
        none d _ (λ means st apart there. nothing-made k F means see ck rs (λ x. false) (λ x. []) d st.0 st.3 (λ x q. absurd cc))
    eqns-made (more_eqns e es) ds see sc lsc at here ck rs d own cov ready keep plain inj =
        let d' = sketch_eqn k see at ds e d in
        let f = sketch_eqns k see at ds es d' in
        joined d d' f (EqnDo e ds see sc lsc at (below Head here) ck rs d d') (EqnsDo es ds see sc lsc at (below Tail here) ck rs d') _
        (eqn-made e ds see sc lsc at (below Head here) ck rs d own (λ p. cov (Head ∷ p)) ready.0 keep.0 plain.1.0 (below_injective here Head inj))
        (eqns-made es ds see sc lsc at (below Tail here) ck rs d' own (λ p. cov (Tail ∷ p)) ready.1 keep.1 plain.1.1 (below_injective here Tail inj))
        (λ means a g st apart there.
        let m = a st (λ x z y q r. apart x z y (or_left (defines e x) (some_defines es x) q) (or_left (defines e z) (some_defines es z) r)) (λ x y q v. there x y (or_left (defines e x) (some_defines es x) q) v) in
        let grown = m.grown in
        let n = g (m.bounded, st.1, st.2, m.flag) (λ x z y q r. apart x z y (or_right (defines e x) (some_defines es x) q) (or_right (defines e z) (some_defines es z) r))
        (λ x y q v. let l : y < next d = there x y (or_right (defines e x) (some_defines es x) q) v in omega (arith, l, grown)) in
        in-turn k F means see ck rs (defines e) (some_defines es) (some_defines (more_eqns e es)) (flat_gives types outputs fill ds e sc lsc (below Head here) ck rs) (flat_defined types outputs fill ds es sc lsc (below Tail here) ck rs)
        (flat_defined types outputs fill ds (more_eqns e es) sc lsc here ck rs) d d' f m n
        (λ x q. or_left (defines e x) (some_defines es x) q) (λ x q. or_right (defines e x) (some_defines es x) q)
        (λ x q. turn (defines e x) (some_defines es x) (flat_gives types outputs fill ds e sc lsc (below Head here) ck rs x) (flat_defined types outputs fill ds es sc lsc (below Tail here) ck rs x) q (plain.0 x)) apart there)

    pub eqn-made : (e : Eqn) (ds : List Decl) (see : Sight) (sc lsc : Scope) (at : Site) (here : Prefix) (ck : When) (rs : List Place) (d : Sketch) → Owns at []
        → ((p : Place) → F (At (here p)) ≡ flat_equation types outputs fill ds e sc lsc here ck rs p) → ReadyEqn k fill see at ds e here d → EqnKeeps memory.keeps types fill ds e sc lsc here ck rs → OnePlain e → IsInjective here
        → Promises memory.keeps d (sketch_eqn k see at ds e d) (eqn_labels outputs e here) (EqnDo e ds see sc lsc at here ck rs d (sketch_eqn k see at ds e d))
    eqn-made (define s ys e) ds see sc lsc at here ck rs d own cov ready keep plain inj =
        definition-made types outputs k knows fill F memory s ds ys e sc lsc here ck rs see at d own (λ p. cov (RightOf ∷ p)) ready keep plain
    eqn-made (switch s e arms) ds see sc lsc at here ck rs d own cov ready keep plain inj =
        let names = each_once [] (names_of_arms arms) in
        let t = sketch_expr k see at e d in
        let test = At (here (Test ∷ [])) in
        let inside = over (hidden names see) see in
        let f = sketch_arms k see inside at names t.1 arms t.0 in
        let within : Scope = λ x. if arms_define arms x then lsc x else sc x in
        let same : (x : List ℕ) → is_in names x ≡ arms_define arms x = λ x. once-in (names_of_arms arms) x ∙ in-arms arms plain x in
        let fun : is_in names ≡ arms_define arms = (λ j x. same x j) in
        joined d t.0 f (Makes types outputs k knows fill F memory see sc lsc at ck ck rs d t test) (ArmsDo arms names see inside sc within lsc at t.1 test (below ArmsOf here) ck rs t.0) _
        (expr-made types outputs k knows fill F memory e [] sc lsc (below Test here) ck rs see at d own (λ p. cov (Test ∷ p)) ready.0 keep.0)
        (arms-made arms names see inside sc within lsc at t.1 test (below ArmsOf here) ck rs t.0 (names-once (names_of_arms arms)) (λ p. cov (ArmsOf ∷ p)) ready.1 keep.1 plain (below_injective here ArmsOf inj))
        (λ means a g st apart there.
        let i = a st in
        let grown = i.steps.grown in
        let there_names : AreThere see (is_in names) d = subst (λ t. AreThere see t d) (sym fun) there in
        let m = g (i.steps.bounded, st.1, st.2, i.flag) i.value (inside_sees means see sc lsc names (arms_define arms) same st.1) (subst (AreApart see) (sym fun) apart)
        (λ x y q v. let l : y < next d = there_names x y q v in omega (arith, l, grown)) in
        subst (λ t. EqnsMade F means see t (arms_rows types outputs fill arms test lsc (below ArmsOf here) ck rs) d f ck rs) fun
        (steps-first k F means see ck rs (is_in names) (arms_rows types outputs fill arms test lsc (below ArmsOf here) ck rs) d t.0 f i.steps m there_names))
    eqn-made (reset s b e) ds see sc lsc at here ck rs d own cov ready keep plain inj =
        reset_made s b e ds see sc lsc at here ck rs d (block-made b) own plain inj cov ready keep (is_false e) refl
    eqn-made (automaton s ss) ds see sc lsc at here ck rs d own cov ready keep plain inj = absurd plain

    pub arms-made : (arms : Arms) (names : List (List ℕ)) (see inside : Sight) (sc within lsc : Scope) (at : Site) (t : ℕ) (test : FlatName) (here : Prefix) (ck : When) (rs : List Place) (d : Sketch) → Once names
        → ((p : Place) → F (At (here p)) ≡ flat_arms types outputs fill arms test within lsc here ck rs p) → ReadyArms k fill see inside at names t arms here d → ArmsKeep memory.keeps types fill arms test within lsc here ck rs → ArmsPlain arms → IsInjective here
        → Promises memory.keeps d (sketch_arms k see inside at names t arms d) (arms_labels outputs arms here) (ArmsDo arms names see inside sc within lsc at t test here ck rs d)
    arms-made no_arm names see inside sc within lsc at t test here ck rs d once cov ready keep plain inj =
        none d _ (λ means st i s apart there. nothing-made k F means see ck rs (is_in names) (λ x. []) d st.0 st.3 (λ x q. refl))
    arms-made (more_arms c b s arms) names see inside sc within lsc at t test here ck rs d once cov ready keep plain inj =
        let site = on_site at t (cons_number k c) in
        let w = on (cons_of types c) test ck in
        let m = sketch_block k Inner inside (in_block site) b (with_flag None d) in
        let d' = with_flag d.flag (link_all see site m.0 names m.1) in
        let f = sketch_arms k see inside at names t arms d' in
        let p = block-made b inside within lsc (in_block site) (below Head here) w rs (with_flag None d) (own_base site) (λ p. cov (Head ∷ p)) ready.0 keep.0 plain.0 (below_injective here Head inj) in
        let q : Promises memory.keeps d d' (block_labels outputs b (below Head here)) (λ means. St inside within lsc (in_block site) w rs (with_flag None d) means → InnerMade means b (below Head here) (with_flag None d) m w rs) =
        record {
          names = p.names;
          kept = p.kept;
          grown = link_grown see site m.0 names d.flag d m.1 (length p.names) p.grown;
          labelled = λ means a. labelled-both means d.eqns m.1.eqns d'.eqns (p.labelled means a) (links-labelled means see site m.0 names m.1);
          facts = p.facts;
        } in
        joined d d' f (λ means. St inside within lsc (in_block site) w rs (with_flag None d) means → InnerMade means b (below Head here) (with_flag None d) m w rs) (ArmsDo arms names see inside sc within lsc at t test (below Tail here) ck rs d') _
        q
        (arms-made arms names see inside sc within lsc at t test (below Tail here) ck rs d' once (λ p. cov (Tail ∷ p)) ready.1 keep.1 plain.1 (below_injective here Tail inj))
        (λ means a g st is inner_seen apart there.
        let on_arm : IsAt means site w rs = on-steps means at t (cons_number k c) (cons_of types c) test ck rs st.2 is (sym (knows.constructors c)) in
        let inner = a (st.0, inner_seen, again site (in_block site) means w rs refl refl on_arm, tt) in
        let one = arm_made b names see sc lsc site (below Head here) w ck rs d m means inner once st.1 on_arm apart there st.3 in
        let grown = one.grown in
        let rest = g (one.bounded, st.1, st.2, one.flag) is inner_seen apart (λ x y q v. let l : y < next d = there x y q v in omega (arith, l, grown)) in
        in-turn k F means see ck rs (is_in names) (is_in names) (is_in names) (λ x. copies w rs (Given b (below Head here) lsc x) ∷ []) (arms_rows types outputs fill arms test lsc (below Tail here) ck rs)
        (arms_rows types outputs fill (more_arms c b s arms) test lsc here ck rs) d d' f one rest (λ x q. q) (λ x q. q) (λ x q. inl (q, q, refl)) apart there)

  -- the body of a node
  pub body-made : (ds : List Decl) (es : Eqns) (see : Sight) (sc lsc : Scope) (at : Site) (here : Prefix) (ck : When) (rs : List Place) (d : Sketch) (plain : IsPlain (block ds es)) → Owns at []
      → ((p : Place) → F (At (here p)) ≡ flat_scope types outputs fill (block ds es) sc lsc here ck rs p) → ReadyBlock k fill Body see at (block ds es) here d → BlockKeeps memory.keeps types fill (block ds es) sc lsc here ck rs → IsInjective here
      → Promises memory.keeps d (sketch_block k Body see at (block ds es) d).1 (block_labels outputs (block ds es) here)
      (λ means. Around types outputs k knows F memory Body see at here ck rs ds es d plain means sc lsc → IsFlagged means d.flag ck rs → AreThere see (Outer Body ds es) d
      → LayerMade types outputs k knows F memory Body see at here ck rs ds es d plain means sc lsc
      × EqnsMade F means see (Outer Body ds es) (flat_defined types outputs fill ds es (inside_at es sc here) (lasts_at types ds lsc here ck rs) (below Equations here) ck rs) d (sketch_block k Body see at (block ds es) d).1 ck rs)
  body-made ds es see sc lsc at here ck rs d plain own cov ready keep inj =
      let s = after types outputs k knows F memory Body see at here ck rs ds es d plain in
      standing_made Body ds es see sc lsc at here ck rs d plain inj cov keep.0
      (eqns-made es ds (over s.0 see) (inside_at es sc here) (lasts_at types ds lsc here ck rs) at (below Equations here) ck rs s.1 own (λ p. cov (Equations ∷ p)) ready keep.1 plain.2 (below_injective here Equations inj))
