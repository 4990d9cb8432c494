-- The layer of a block has clocks: each name that the block defines has the clock that is declared, and what is seen from around is there.
use Rattle.std.proofs.Common.{◌≡◌, ℕ, Bool, true, false, ◌||◌, if◌then◌else◌, List, [], ◌∷◌, Option, None, Some, refl, sym, ap, subst, ◌∙◌}
use Rattle.std.specs.Prelude.{⊤, codes}
use Rattle.std.specs.List.{AllByRecursion}
use Rattle.std.specs.Str.{bytes_eq}
use Rattle.hp_base.specs.declared.ty.Const.{Const}
use Rattle.hp_obc.specs.Machines.{ObcType}
use Rattle.hp_tree.specs.Blocks.{Decl, Eqns}
use Rattle.hp_tree.specs.Instant.{Clock as SourceClock}
use Rattle.hp_tree.specs.Meaning.{declares, some_defines, written, clock_in}
use Rattle.hp_meaning.specs.Causal.Clocked.{Standing as ClocksRead, base_alone, standing_in, LastOnBase, DeclarationsRight}
use Rattle.hp_flat.specs.declared.node.FlatTy.{FlatTy}
use Rattle.hp_flat.specs.Equations.{Clock, register}
use Rattle.hp_flat.specs.Nodes.{FlatNode}
use Rattle.law_equations.specs.Made.Blocks.{DeclaredOnce, ArePlain}
use Rattle.law_equations.specs.Made.Sights.{Entry}
use Rattle.law_equations.specs.Made.Making.{Known, Sketch, Site, Sight, Seen, Standing, Body, Inner, next, with_variable, new_name, constant_value, atom_of, over, is_in, names_of_eqns, each_once, keeps_name, with_own, own_name, own_names, declared, remember, remember_all, block_layer}
use Rattle.law_equations.proofs.MadeLemmas.LayerLaws.{same_name, is_same, is_owned, Once, in-eqns, once-in, names-once}
use Rattle.law_wellmade.proofs.RegularLemmas.Layers.{pick, names_last}
use Rattle.law_choices.specs.Closed.Clocking.{IsFrontOf, StepsStand}
use Rattle.law_choices.proofs.ClosedLemmas.Layers.{declared_says, names_unowned, all_remembered}
use Rattle.law_choices.proofs.OnClocksLemmas.Steps.{front_itself, Step, then_step, weaker, no_step, Reads, variable_step, named_step, Gives}
use Rattle.law_choices.proofs.OnClocksLemmas.Sites.{resolved, SeesTimed}

-- ---- names that get variables of their own

module _ (standing : Standing) (ds : List Decl) (out : Sight) where
  abbrev named : List ℕ → List ℕ → FlatTy → Seen → Seen
  named x name t s = with_own ds x (over s.0 out x) s.0 (with_variable name t s.1, next s.1)

  -- either a name gets a variable, or nothing is done
  one_of : (P : Seen → Type 0) (x : List ℕ) (s : Seen) → (is_owned standing ds x ≡ true → (name : List ℕ) → P (named x name (over s.0 out x).ty s)) → (is_owned standing ds x ≡ false → P s) → P (own_name standing ds out x s)
  one_of P x s f g = at standing f g
    where
      at : (st : Standing) → (is_owned st ds x ≡ true → (name : List ℕ) → P (named x name (over s.0 out x).ty s)) → (is_owned st ds x ≡ false → P s) → P (own_name st ds out x s)
      at Inner f g = f refl (new_name x (next s.1))
      at Body f g = by (declares ds x) refl (keeps_name ds x)
        where
          by : (b : Bool) → declares ds x ≡ b → (c : Bool)
              → P (if b then with_own ds x (over s.0 out x) s.0 (if c then (with_variable x (over s.0 out x).ty s.1, next s.1) else (with_variable (new_name x (next s.1)) (over s.0 out x).ty s.1, next s.1)) else s)
          by true e true = f e x
          by true e false = f e (new_name x (next s.1))
          by false e c = g e

  -- another name keeps its variable
  name_other : (x : List ℕ) (s : Seen) (y : List ℕ) → bytes_eq x y ≡ false → (over (own_name standing ds out x s).0 out y).value ≡ (over s.0 out y).value
  name_other x s y e =
      one_of (λ z. (over z.0 out y).value ≡ (over s.0 out y).value) x s
      (λ o name. pick (λ (w : Entry). w.value ≡ (over s.0 out y).value) x _ s.0 out y (λ q. absurd (let r = sym e ∙ q in cc)) (λ q. refl)) (λ o. refl)

  either_false : (a b : Bool) → (a || b) ≡ false → (a ≡ false) × (b ≡ false)
  either_false true b h = absurd cc
  either_false false b h = (refl, h)

  names_other : (xs : List (List ℕ)) (s : Seen) (y : List ℕ) → is_in xs y ≡ false → (over (own_names standing ds out xs s).0 out y).value ≡ (over s.0 out y).value
  names_other [] s y e = refl
  names_other (x ∷ xs) s y e = let q = either_false (bytes_eq x y) (is_in xs y) e in names_other xs (own_name standing ds out x s) y q.1 ∙ name_other x s y q.0

  module _ (types : List ObcType) (n : FlatNode) (b : Clock) (want : List ℕ → Clock) where
    -- names have the clocks that are wanted
    abbrev Wanted : List (List ℕ) → Seen → (ℕ → Clock) → Type 0
    Wanted xs z g = (y : List ℕ) (v : ℕ) → is_in xs y ≡ true → is_owned standing ds y ≡ true → (over z.0 out y).value ≡ Some v → g v ≡ want y

    abbrev WantedOne : List ℕ → Seen → (ℕ → Clock) → Type 0
    WantedOne x z g = is_owned standing ds x ≡ true → (v : ℕ) → (over z.0 out x).value ≡ Some v → g v ≡ want x

    name_step : (x : List ℕ) (s : Seen) → Step types n b s.1 (own_name standing ds out x s).1 (λ g. ⊤) (WantedOne x (own_name standing ds out x s))
    name_step x s =
        one_of (λ z. Step types n b s.1 z.1 (λ g. ⊤) (WantedOne x z)) x s
        (λ o name. weaker types n b s.1 _ (λ g. ⊤) (λ g. g (next s.1) ≡ want x) (λ g. ⊤) (WantedOne x (named x name (over s.0 out x).ty s)) (variable_step types n b (want x) name (over s.0 out x).ty s.1) (λ g w h. tt)
        (λ g w h r i v. pick (λ (e : Entry). e.value ≡ Some v → g v ≡ want x) x _ s.0 out x (λ q e. let is : next s.1 ≡ v = cc in subst (λ z. g z ≡ want x) is r) (λ q e. absurd (let r = sym q ∙ is_same x in cc))))
        (λ o. weaker types n b s.1 s.1 (λ g. ⊤) (λ g. ⊤) (λ g. ⊤) (WantedOne x s) (no_step types n b s.1 (λ g. ⊤)) (λ g w h. tt) (λ g w h r i. absurd (let r = sym o ∙ i in cc)))

    names_step : (xs : List (List ℕ)) (s : Seen) → Once xs → let z = own_names standing ds out xs s in Step types n b s.1 z.1 (λ g. ⊤) (Wanted xs z)
    names_step [] s once = weaker types n b s.1 s.1 (λ g. ⊤) (λ g. ⊤) (λ g. ⊤) (Wanted [] s) (no_step types n b s.1 (λ g. ⊤)) (λ g w h. tt) (λ g w h r y v i. absurd cc)
    names_step (x ∷ xs) s once =
        let r = own_name standing ds out x s in
        let z = own_names standing ds out xs r in
        then_step types n b s.1 r.1 z.1 (λ g. ⊤) (WantedOne x r) (λ g. ⊤) (Wanted xs z) (Wanted (x ∷ xs) z) (name_step x s) (names_step xs r once.1) (λ g w h q. tt) (λ g w h q t y v i o e. by g q t y v (bytes_eq x y) refl i o e)
      where
        by : (g : ℕ → Clock) → WantedOne x (own_name standing ds out x s) g → Wanted xs (own_names standing ds out xs (own_name standing ds out x s)) g → (y : List ℕ) (v : ℕ) (c : Bool) → bytes_eq x y ≡ c → (c || is_in xs y) ≡ true → is_owned standing ds y ≡ true
            → (over (own_names standing ds out xs (own_name standing ds out x s)).0 out y).value ≡ Some v → g v ≡ want y
        by g q t y v true i a o e =
            let same = sym (same_name x y i) in
            let there : (over (own_names standing ds out xs (own_name standing ds out x s)).0 out x).value ≡ Some v = subst (λ z. (over (own_names standing ds out xs (own_name standing ds out x s)).0 out z).value ≡ Some v) same e in
            subst (λ z. g v ≡ want z) (sym same) (q (subst (λ z. is_owned standing ds z ≡ true) same o) v (sym (names_other xs (own_name standing ds out x s) x once.0) ∙ there))
        by g q t y v false i a o e = t y v a o e

-- ---- last values

module _ (types : List ObcType) (n : FlatNode) (k : Known) (at : Site) (out : Sight) where
  -- each last value is there where the block is
  abbrev pub LastsThere : Seen → (ℕ → Clock) → Type 0
  LastsThere s g = (y : List ℕ) (v : ℕ) → (over s.0 out y).last ≡ Some v → IsFrontOf (g v) at.clock

  abbrev pub IfLast : Option Const → Type 0 → Type 0
  IfLast None P = ⊤
  IfLast (Some c) P = P

  -- so is each name that is remembered
  abbrev pub Remembers : Seen → List Decl → (ℕ → Clock) → Type 0
  Remembers s ds g = AllByRecursion (λ (d : Decl). IfLast d.last (Gives types n at (over s.0 out d.name).value g)) ds

  register_reads : (v : Const) (o : Option ℕ) (g : ℕ → Clock) → StepsStand n types g [] at.clock → Gives types n at o g → Reads types n at (register (constant_value k v) (atom_of o)) g
  register_reads v None g s h = (s, tt)
  register_reads v (Some x) g s h = (s, (h x refl, tt))

  abbrev LastBefore : Option Const → Decl → Seen → (ℕ → Clock) → Type 0
  LastBefore o d s g = StepsStand n types g [] at.clock × (IfLast o (Gives types n at (over s.0 out d.name).value g) × LastsThere s g)

  last_step : (d : Decl) (o : Option Const) (s : Seen) → Step types n at.clock s.1 (remember k at out d o s).1 (LastBefore o d s) (LastsThere (remember k at out d o s))
  last_step d None s = weaker types n at.clock s.1 s.1 (LastsThere s) (LastsThere s) (LastBefore None d s) (LastsThere s) (no_step types n at.clock s.1 (LastsThere s)) (λ g w h. h.1.1) (λ g w h r. r)
  last_step d (Some c) s =
      let e = over s.0 out d.name in
      let right = register (constant_value k c) (atom_of e.value) in
      weaker types n at.clock s.1 _ (Reads types n at right) (λ g. g (next s.1) ≡ at.clock) (LastBefore (Some c) d s) (LastsThere (remember k at out d (Some c) s)) (named_step types n at.clock at (codes "last") e.ty right s.1)
      (λ g w h. register_reads c e.value g h.0 h.1.0)
      (λ g w h r y v. pick (λ (w : Entry). w.last ≡ Some v → IsFrontOf (g v) at.clock) d.name _ s.0 out y (λ p q. let is : next s.1 ≡ v = cc in front_itself (g v) at.clock (subst (λ z. g z ≡ at.clock) is r)) (λ p q. h.1.1 y v q))

  later_remembers : (s z : Seen) (ds : List Decl) (g : ℕ → Clock) → ((y : List ℕ) → (over z.0 out y).value ≡ (over s.0 out y).value) → Remembers s ds g → Remembers z ds g
  later_remembers s z [] g e h = tt
  later_remembers s z (d ∷ ds) g e h = (by d.last h.0, later_remembers s z ds g e h.1)
    where
      by : (o : Option Const) → IfLast o (Gives types n at (over s.0 out d.name).value g) → IfLast o (Gives types n at (over z.0 out d.name).value g)
      by None q = tt
      by (Some c) q = λ v i. q v (sym (e d.name) ∙ i)

  pub lasts_step : (ds : List Decl) (s : Seen) → Step types n at.clock s.1 (remember_all k at out ds s).1 (λ g. StepsStand n types g [] at.clock × (Remembers s ds g × LastsThere s g)) (LastsThere (remember_all k at out ds s))
  lasts_step [] s =
      weaker types n at.clock s.1 s.1 (LastsThere s) (LastsThere s) (λ g. StepsStand n types g [] at.clock × (Remembers s [] g × LastsThere s g)) (LastsThere s) (no_step types n at.clock s.1 (LastsThere s)) (λ g w h. h.1.1) (λ g w h r. r)
  lasts_step (d ∷ ds) s =
      let r = remember k at out d d.last s in
      let Before : (ℕ → Clock) → Type 0 = λ g. StepsStand n types g [] at.clock × (Remembers s (d ∷ ds) g × LastsThere s g) in
      then_step types n at.clock s.1 r.1 (remember_all k at out ds r).1 Before (LastsThere r) (λ g. StepsStand n types g [] at.clock × (Remembers r ds g × LastsThere r g)) (LastsThere (remember_all k at out ds r)) (LastsThere (remember_all k at out ds r))
      (weaker types n at.clock s.1 r.1 (LastBefore d.last d s) (LastsThere r) Before (LastsThere r) (last_step d d.last s) (λ g w h. (h.0, (h.1.0.0, h.1.1))) (λ g w h q. q))
      (lasts_step ds r)
      (λ g w h q. (h.0, (later_remembers s r ds g (λ y. (all_remembered k at out (d ∷ []) s).value y) h.1.0.1, q))) (λ g w h q t. t)

-- ---- the clocks of declarations

pub undeclared_base : (ds : List Decl) (x : List ℕ) → declares ds x ≡ false → clock_in ds x ≡ []
undeclared_base [] x e = refl
undeclared_base (d ∷ ds) x e = by (bytes_eq d.name x) e (undeclared_base ds x)
  where
    by : (b : Bool) → (b || declares ds x) ≡ false → (declares ds x ≡ false → clock_in ds x ≡ []) → (if b then written d.clock else clock_in ds x) ≡ []
    by true e f = absurd cc
    by false e f = f e

abbrev OwnClocks : List Decl → List Decl → Type 0
OwnClocks all ds = AllByRecursion (λ (d : Decl). (declares all d.name ≡ true) × (clock_in all d.name ≡ written d.clock)) ds

own_more : (d : Decl) (all ds : List Decl) → declares all d.name ≡ false → OwnClocks all ds → OwnClocks (d ∷ all) ds
own_more d all [] e h = tt
own_more d all (x ∷ ds) e h = (by (bytes_eq d.name x.name) refl, own_more d all ds e h.1)
  where
    by : (b : Bool) → bytes_eq d.name x.name ≡ b → ((b || declares all x.name) ≡ true) × ((if b then written d.clock else clock_in all x.name) ≡ written x.clock)
    by true q = absurd (let r : false ≡ true = sym e ∙ ap (declares all) (same_name d.name x.name q) ∙ h.0.0 in cc)
    by false q = h.0

own_clocks : (ds : List Decl) → DeclaredOnce ds → OwnClocks ds ds
own_clocks [] h = tt
own_clocks (d ∷ ds) h =
    ((ap (λ b. b || declares ds d.name) (is_same d.name), ap (λ b. if b then written d.clock else clock_in ds d.name) (is_same d.name)), own_more d ds ds h.0 (own_clocks ds h.1))

-- ---- layers

module _ (types : List ObcType) (n : FlatNode) (k : Known) (standing : Standing) (ds : List Decl) (es : Eqns) (st : ClocksRead) (out : Sight) (at : Site) where
  -- What is seen around a block is there: the names that are read in it, last values, and the names that it defines without a variable of its own.
  pub record OutTimed (g : ℕ → Clock) : Type 0 where
    pub values : (x : List ℕ) (v : ℕ) → st x ≡ Some [] → (out x).value ≡ Some v → IsFrontOf (g v) at.clock
    pub lasts : (x : List ℕ) (v : ℕ) → (out x).last ≡ Some v → IsFrontOf (g v) at.clock
    pub own : (x : List ℕ) (v : ℕ) → some_defines es x ≡ true → is_owned standing ds x ≡ false → (out x).value ≡ Some v → g v ≡ at.clock

  abbrev pub OutReady : (ℕ → Clock) → Type 0
  OutReady g = StepsStand n types g [] at.clock × OutTimed g

  module _ (d : Sketch) where
    abbrev layer : Seen
    layer = block_layer k standing out at ds (each_once [] (names_of_eqns es)) d

    abbrev see : Sight
    see = over layer.0 out

    -- What is seen in it is there, and the names that it defines have their clocks.
    pub record LayerTimed (g : ℕ → Clock) : Type 0 where
      pub sees : SeesTimed k see at.clock (standing_in ds es st) g
      pub owns : (y : List ℕ) (v : ℕ) → some_defines es y ≡ true → (see y).value ≡ Some v → g v ≡ resolved k see at.clock (clock_in ds y)

    names : List (List ℕ)
    names = each_once [] (names_of_eqns es)

    abbrev first : Seen
    first = (declared k ds out, d)

    abbrev middle : Seen
    middle = own_names standing ds out (each_once [] (names_of_eqns es)) first

    -- a name that the block does not define is what it is around it
    pub seen_around : ArePlain es → (x : List ℕ) → some_defines es x ≡ false → (see x).value ≡ (out x).value
    seen_around plain x e =
        (all_remembered k at out ds middle).value x ∙ names_other standing ds out (each_once [] (names_of_eqns es)) first x (once-in (names_of_eqns es) x ∙ in-eqns es plain x ∙ e) ∙ (declared_says k ds out x).0

    unowned : (x : List ℕ) → is_owned standing ds x ≡ false → (see x).value ≡ (out x).value
    unowned x e = (all_remembered k at out ds middle).value x ∙ names_unowned standing ds out (each_once [] (names_of_eqns es)) first x e ∙ (declared_says k ds out x).0

    unowned_base : (x : List ℕ) → is_owned standing ds x ≡ false → clock_in ds x ≡ []
    unowned_base x e = by standing e
      where
        by : (s : Standing) → is_owned s ds x ≡ false → clock_in ds x ≡ []
        by Body e = undeclared_base ds x e
        by Inner e = absurd cc

    declared_owned : (x : List ℕ) → declares ds x ≡ true → is_owned standing ds x ≡ true
    declared_owned x e = by standing
      where
        by : (s : Standing) → is_owned s ds x ≡ true
        by Body = e
        by Inner = refl

    abbrev want : List ℕ → Clock
    want y = resolved k see at.clock (clock_in ds y)

    abbrev Named : (ℕ → Clock) → Type 0
    Named g = (y : List ℕ) (v : ℕ) → is_in (each_once [] (names_of_eqns es)) y ≡ true → is_owned standing ds y ≡ true → (over middle.0 out y).value ≡ Some v → g v ≡ want y

    in_names : ArePlain es → (x : List ℕ) → some_defines es x ≡ true → is_in (each_once [] (names_of_eqns es)) x ≡ true
    in_names plain x e = once-in (names_of_eqns es) x ∙ in-eqns es plain x ∙ e

    remembers : ((x : List ℕ) → declares ds x ≡ true → some_defines es x ≡ true) → ArePlain es → (names' : ClocksRead) (xs : List Decl) → OwnClocks ds xs → DeclarationsRight names' xs → (g : ℕ → Clock) → Named g → Remembers types n k at out middle xs g
    remembers all plain names' [] o r g h = tt
    remembers all plain names' (x ∷ xs) o r g h = (by x.last r.1, remembers all plain names' xs o.1 r.2 g h)
      where
        by : (c : Option Const) → LastOnBase (record { name = x.name; ty = x.ty; last = c; clock = x.clock; span = x.span }) → IfLast types n k at out c (Gives types n at (over middle.0 out x.name).value g)
        by None q = tt
        by (Some w) q = λ v i. front_itself (g v) at.clock (h x.name v (in_names plain x.name (all x.name o.0.0)) (declared_owned x.name o.0.0) i ∙ ap (resolved k see at.clock) (o.0.1 ∙ q))

    alone : (o : Option SourceClock) (c : SourceClock) → base_alone o ≡ Some c → (o ≡ Some []) × (c ≡ [])
    alone None c e = absurd cc
    alone (Some []) c e = (refl, cc)
    alone (Some (s ∷ q)) c e = absurd cc

    pub layer_step : DeclaredOnce ds → ((x : List ℕ) → declares ds x ≡ true → some_defines es x ≡ true) → ArePlain es → DeclarationsRight (standing_in ds es st) ds → Step types n at.clock d layer.1 OutReady LayerTimed
    layer_step once all plain right =
        then_step types n at.clock d middle.1 layer.1 OutReady Named (λ g. StepsStand n types g [] at.clock × (Remembers types n k at out middle ds g × LastsThere types n k at out middle g))
        (LastsThere types n k at out layer) LayerTimed
        (weaker types n at.clock d middle.1 (λ g. ⊤) Named OutReady Named (names_step standing ds out types n at.clock want (each_once [] (names_of_eqns es)) first (names-once (names_of_eqns es))) (λ g w h. tt) (λ g w h r. r))
        (lasts_step types n k at out ds middle)
        (λ g w h r. (
          h.0,
          (
            remembers all plain (standing_in ds es st) ds (own_clocks ds once) right g r,
            λ y v q. h.1.lasts y v (sym (names_last standing ds out (each_once [] (names_of_eqns es)) first y ∙ (declared_says k ds out y).1) ∙ q),
          ),
        ))
        (λ g w h r t. let owns = owned g h.1 r in record { sees = record { values = λ x c v i q. by g h.1 owns x c v (some_defines es x) refl i q; lasts = t }; owns = owns })
      where
        owned : (g : ℕ → Clock) → OutTimed g → Named g → (y : List ℕ) (v : ℕ) → some_defines es y ≡ true → (see y).value ≡ Some v → g v ≡ want y
        owned g h r y v i q = by (is_owned standing ds y) refl
          where
            by : (b : Bool) → is_owned standing ds y ≡ b → g v ≡ want y
            by true o = r y v (in_names plain y i) o (sym ((all_remembered k at out ds middle).value y) ∙ q)
            by false o = h.own y v i o (sym (unowned y o) ∙ q) ∙ ap (resolved k see at.clock) (sym (unowned_base y o))

        by : (g : ℕ → Clock) → OutTimed g → ((y : List ℕ) (v : ℕ) → some_defines es y ≡ true → (see y).value ≡ Some v → g v ≡ want y) → (x : List ℕ) (c : SourceClock) (v : ℕ) (b : Bool) → some_defines es x ≡ b → (if b then Some (clock_in ds x) else base_alone (st x)) ≡ Some c
            → (see x).value ≡ Some v → IsFrontOf (g v) (resolved k see at.clock c)
        by g h o x c v true e i q = let is : clock_in ds x ≡ c = cc in front_itself (g v) (resolved k see at.clock c) (o x v e q ∙ ap (resolved k see at.clock) is)
        by g h o x c v false e i q =
            let w = alone (st x) c i in
            subst (λ z. IsFrontOf (g v) (resolved k see at.clock z)) (sym w.1) (h.values x v w.0 (sym (seen_around plain x e) ∙ q))
