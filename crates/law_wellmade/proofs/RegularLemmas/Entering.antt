-- What is seen in a block, of what is seen around it.
use Rattle.std.proofs.Common.{◌≡◌, ℕ, Bool, true, false, if◌then◌else◌, List, [], ◌∷◌, Option, None, Some, inl, inr, refl, sym, ap, subst, ◌∙◌}
use Rattle.std.specs.Prelude.{⊤, ◌||◌, ◌&&◌, not, ◌⊎◌, IsTrue}
use Rattle.std.specs.List.{AllByRecursion}
use Rattle.std.specs.Str.{bytes_eq}
use Rattle.std.proofs.lemmas.Slice.Eq.{bytes_eq-Decides}
use Rattle.hp_base.specs.declared.ty.Ty.{Ty}
use Rattle.hp_base.specs.declared.ty.Const.{Const}
use Rattle.hp_obc.specs.Machines.{ObcType}
use Rattle.hp_tree.specs.Blocks.{Decl, Block, block, Eqns}
use Rattle.hp_tree.specs.Programs.{TypeDecl, Node}
use Rattle.hp_tree.specs.Meaning.{declares, some_defines, block_defines}
use Rattle.hp_base.specs.Known.Known.{lookup}
use Rattle.hp_typing.specs.Scopes.{with_variables}
use Rattle.law_judged.specs.Typed.Scopes.{Scope}
use Rattle.law_values.specs.Valued.Judged.{Lasts, lasts_in, FirstSound, DeclsSound, OthersKnown}
use Rattle.law_values.proofs.ValuedLemmas.Typed.{some_is}
use Rattle.law_values.proofs.ValuedLemmas.Scoped.{not_declared, still_known}
use Rattle.law_values.specs.Filled.Firsts.{HasFirst, DeclsHaveFirsts}
use Rattle.law_equations.specs.Meaning.Kinding.{HasValue}
use Rattle.law_equations.specs.Made.Sights.{Entry}
use Rattle.law_equations.specs.Made.Blocks.{locals_of, ArePlain}
use Rattle.law_equations.specs.Made.Making.{Known, Sketch, Site, Sight, Seen, Standing, Body, Inner, flat_type, constant_value, over, or_entry, is_in, names_of_eqns, each_once, own_names, type_declared, declared, remember_all, block_layer}
use Rattle.law_equations.proofs.MadeLemmas.LayerLaws.{in-eqns, once-in, is_owned}
use Rattle.law_wellmade.proofs.BegunLemmas.Typing.{SeesTypes}
use Rattle.law_wellmade.proofs.BegunLemmas.BlockRegisters.{OwnTypes, declared_types}
use Rattle.law_wellmade.proofs.RegularLemmas.Good.{IsSeen, seen_moved, IsValue, SiteGood, site_moved, Moves, then_moves}
use Rattle.law_wellmade.proofs.RegularLemmas.Expressions.{TypeFacts, first_has, HaveFirsts, SeesIn}
use Rattle.law_wellmade.proofs.RegularLemmas.Layers.{same_name, SaysLocal, names_move, names_type, names_last, names_local, names_value, NamesHave, FirstGood, DeclsReady, all_remembered, last_seen, AllIn, all_local}

-- ---- types with a first value

pub firsts_declared : (types : List TypeDecl) (s : Scope) (ds : List Decl) (x : List ℕ) (t : Ty) → OwnTypes s ds → DeclsHaveFirsts types ds → lookup s.variables x ≡ Some t → declares ds x ≡ true → HasFirst types t
firsts_declared types s [] x t o f h e = absurd (cc)
firsts_declared types s (d ∷ ds) x t o f h e = by (bytes_eq d.name x) refl e (firsts_declared types s ds x t o.1 f.1 h)
  where
    by : (b : Bool) → bytes_eq d.name x ≡ b → (b || declares ds x) ≡ true → (declares ds x ≡ true → HasFirst types t) → HasFirst types t
    by true q e g = subst (λ z. HasFirst types z) (some_is d.ty t (sym o.0 ∙ ap (λ z. lookup s.variables z) (same_name d.name x q) ∙ h)) f.0
    by false q e g = g e

pub firsts_inside : (types : List TypeDecl) (s : Scope) (ds : List Decl) → OwnTypes (with_variables s ds) ds → DeclsHaveFirsts types ds → HaveFirsts types s → HaveFirsts types (with_variables s ds)
firsts_inside types s ds o f a x t h = by (declares ds x) refl
  where
    by : (b : Bool) → declares ds x ≡ b → HasFirst types t
    by true e = firsts_declared types (with_variables s ds) ds x t o f h e
    by false e = a x t (sym (not_declared x ds s e) ∙ h)

-- ---- what is declared

-- each name has its type, and where it is remembered a first value of it
abbrev pub OwnFirsts : List TypeDecl → (List ℕ → Option Node) → Scope → List Decl → Type 0
OwnFirsts types among s [] = ⊤
OwnFirsts types among s (d ∷ ds) = ((lookup s.variables d.name ≡ Some d.ty) × FirstSound types among d.ty d.last) × OwnFirsts types among s ds

own_firsts : (types : List TypeDecl) (among : List ℕ → Option Node) (s : Scope) (es : Eqns) (ds : List Decl) → DeclsSound types among s es ds → OwnFirsts types among s ds
own_firsts types among s es [] h = tt
own_firsts types among s es (d ∷ ds) h = ((h.0.0, h.0.1.1), own_firsts types among s es ds h.1)

or_right : (a b : Bool) → b ≡ true → (a || b) ≡ true
or_right true b h = refl
or_right false b h = h

same_itself : (x : List ℕ) → bytes_eq x x ≡ true
same_itself x = (bytes_eq-Decides x x).1 refl

in_more : (all ds : List Decl) → ((x : List ℕ) → declares ds x ≡ true → declares all x ≡ true) → AllIn all ds
in_more all [] f = tt
in_more all (d ∷ ds) f = (f d.name (ap (λ b. b || declares ds d.name) (same_itself d.name)), in_more all ds (λ x h. f x (or_right (bytes_eq d.name x) (declares ds x) h)))

pub all_named : (P : List ℕ → Type 0) (names : List (List ℕ)) → ((x : List ℕ) → is_in names x ≡ true → P x) → AllByRecursion P names
all_named P [] f = tt
all_named P (x ∷ xs) f = (f x (ap (λ b. b || is_in xs x) (same_itself x)), all_named P xs (λ y h. f y (or_right (bytes_eq x y) (is_in xs y) h)))

declared_type : (s : Scope) (ds : List Decl) (x : List ℕ) → OwnTypes s ds → declares ds x ≡ true → (t : Ty) × (lookup s.variables x ≡ Some t)
declared_type s [] x o h = absurd (cc)
declared_type s (d ∷ ds) x o h = by (bytes_eq d.name x) refl h (declared_type s ds x o.1)
  where
    by : (b : Bool) → bytes_eq d.name x ≡ b → (b || declares ds x) ≡ true → (declares ds x ≡ true → (t : Ty) × (lookup s.variables x ≡ Some t)) → (t : Ty) × (lookup s.variables x ≡ Some t)
    by true q h f = (d.ty, ap (λ z. lookup s.variables z) (sym (same_name d.name x q)) ∙ o.0)
    by false q h f = f h

pub last_typed : (s : Scope) (ds : List Decl) (lasts : Lasts) (x : List ℕ) → OwnTypes s ds → (IsTrue (lasts x) → (t : Ty) × (lookup s.variables x ≡ Some t)) → IsTrue (lasts_in ds lasts x) → (t : Ty) × (lookup s.variables x ≡ Some t)
last_typed s [] lasts x o f l = f l
last_typed s (d ∷ ds) lasts x o f l = by d.last (bytes_eq d.name x) refl (last_typed s ds lasts x o.1 f) l
  where
    by : (c : Option Const) (b : Bool) → bytes_eq d.name x ≡ b → (IsTrue (lasts_in ds lasts x) → (t : Ty) × (lookup s.variables x ≡ Some t)) → IsTrue (if b then (elim c [ None ↦ lasts x | Some w ↦ true ]) else lasts_in ds lasts x)
        → (t : Ty) × (lookup s.variables x ≡ Some t)
    by c true q g l = (d.ty, ap (λ z. lookup s.variables z) (sym (same_name d.name x q)) ∙ o.0)
    by c false q g l = g l

module _ (k : Known) where
  type_declared_is : (s : Scope) (ds : List Decl) (x : List ℕ) (t : Ty) → OwnTypes s ds → lookup s.variables x ≡ Some t → declares ds x ≡ true → type_declared k ds x ≡ flat_type k.types t
  type_declared_is s [] x t o h e = absurd (cc)
  type_declared_is s (d ∷ ds) x t o h e = by (bytes_eq d.name x) refl e (type_declared_is s ds x t o.1 h)
    where
      by : (b : Bool) → bytes_eq d.name x ≡ b → (b || declares ds x) ≡ true → (declares ds x ≡ true → type_declared k ds x ≡ flat_type k.types t) → (if b then flat_type k.types d.ty else type_declared k ds x) ≡ flat_type k.types t
      by true q e f = ap (λ z. flat_type k.types z) (some_is d.ty t (sym o.0 ∙ ap (λ z. lookup s.variables z) (same_name d.name x q) ∙ h))
      by false q e f = f e

  declared_sees : (s : Scope) (ds : List Decl) (out : Sight) → OwnTypes (with_variables s ds) ds → SeesTypes k s out → SeesTypes k (with_variables s ds) (over (declared k ds out) out)
  declared_sees s ds out o see x t h = by (declares ds x) refl
    where
      by : (b : Bool) → declares ds x ≡ b → (or_entry (if b then Some (record { ty = type_declared k ds x; value = (out x).value; last = (out x).last; is_local = true }) else None) (out x)).ty ≡ flat_type k.types t
      by true e = type_declared_is (with_variables s ds) ds x t o h e
      by false e = see x t (sym (not_declared x ds s e) ∙ h)

  declared_says : (ds : List Decl) (out : Sight) (x : List ℕ) → ((over (declared k ds out) out x).value ≡ (out x).value) × ((over (declared k ds out) out x).last ≡ (out x).last) × SaysLocal (declares ds x) (declared k ds out x)
  declared_says ds out x = by (declares ds x)
    where
      by : (b : Bool) → let o : Option Entry = if b then Some (record { ty = type_declared k ds x; value = (out x).value; last = (out x).last; is_local = true }) else None in
          ((or_entry o (out x)).value ≡ (out x).value) × ((or_entry o (out x)).last ≡ (out x).last) × SaysLocal b o
      by true = (refl, refl, refl)
      by false = (refl, refl, refl)

-- ---- blocks

-- whether the variable that is seen around is hidden: in a block of a control equation that of a name which it defines
abbrev pub hides : Standing → Block → List ℕ → Bool
hides Body b x = false
hides Inner b x = block_defines b x

module _ (obc : List ObcType) (k : Known) (types : List TypeDecl) (facts : TypeFacts obc k types) (among : List ℕ → Option Node) (callees : (f : List ℕ) (n : Node) → among f ≡ Some n → DeclsHaveFirsts types n.outputs) where
  abbrev pub Sees : Scope → Lasts → Sight → Sketch → Type 0
  Sees s lasts see d = SeesIn obc k types facts among callees s lasts see d

  -- what is seen around a block
  pub record SeesAround (standing : Standing) (b : Block) (s : Scope) (lasts : Lasts) (out : Sight) (d : Sketch) : Type 0 where
    pub values : (x : List ℕ) (t : Ty) → lookup s.variables x ≡ Some t → hides standing b x ≡ false → IsSeen d (out x).value (flat_type k.types t)
    pub remembered : (x : List ℕ) → IsTrue (lasts x) → (t : Ty) × (lookup s.variables x ≡ Some t) × IsSeen d (out x).last (flat_type k.types t)

  -- What is made of a block, and what its layer says.
  pub record BlockMade (b : Block) (s : Scope) (out : Sight) (d : Sketch) (m : Seen) : Type 0 where
    pub moves : Moves obc k d m.1
    pub given : (x : List ℕ) (t : Ty) → lookup s.variables x ≡ Some t → IsSeen m.1 (over m.0 out x).value (flat_type k.types t)
    pub is_local : (x : List ℕ) → SaysLocal (declares (locals_of b) x) (m.0 x)

  -- what the layer of a block says before its equations
  pub record LayerMade (ds : List Decl) (s : Scope) (lasts : Lasts) (out : Sight) (d : Sketch) (m : Seen) : Type 0 where
    pub moves : Moves obc k d m.1
    pub types_seen : SeesTypes k (with_variables s ds) (over m.0 out)
    pub seen : Sees (with_variables s ds) (lasts_in ds lasts) (over m.0 out) m.1
    pub is_local : (x : List ℕ) → SaysLocal (declares ds x) (m.0 x)

  pub decls_ready : (at : Site) (out : Sight) (s : Scope) (m : Seen) → SeesTypes k s (over m.0 out) → ((x : List ℕ) (t : Ty) → lookup s.variables x ≡ Some t → IsSeen m.1 (over m.0 out x).value (flat_type k.types t)) → (ds : List Decl) → OwnFirsts types among s ds
      → DeclsReady obc k at out m ds
  decls_ready at out s m sees v [] h = tt
  decls_ready at out s m sees v (d ∷ ds) h =
      ((subst (λ t. IsSeen m.1 (over m.0 out d.name).value t) (sym (sees d.name d.ty h.0.0)) (v d.name d.ty h.0.0), first d.last h.0.1), decls_ready at out s m sees v ds h.1)
    where
      first : (o : Option Const) → FirstSound types among d.ty o → FirstGood obc k (over m.0 out d.name).ty o
      first None w = tt
      first (Some c) w = subst (λ t. IsValue obc t (constant_value k c)) (sym (sees d.name d.ty h.0.0)) (facts.constants d.ty c w)

  own_values : (standing : Standing) (ds : List Decl) (es : Eqns) (s : Scope) (lasts : Lasts) (out : Sight) (d : Sketch) → OwnTypes (with_variables s ds) ds → ((x : List ℕ) → declares ds x ≡ true → some_defines es x ≡ true) → ArePlain es → SeesTypes k s out
      → SeesAround standing (block ds es) s lasts out d → (x : List ℕ) (t : Ty) → lookup (with_variables s ds).variables x ≡ Some t
      → let m = own_names standing ds out (each_once [] (names_of_eqns es)) (declared k ds out, d) in IsSeen m.1 (over m.0 out x).value (flat_type k.types t)
  own_values standing ds es s lasts out d own all plain sees around x t h =
      names_value standing ds out names (declared k ds out, d) x (flat_type k.types t) (declared_sees k s ds out own sees x t h) (by (declares ds x) refl)
    where
      names : List (List ℕ)
      names = each_once [] (names_of_eqns es)

      in_names : some_defines es x ≡ true → is_in names x ≡ true
      in_names e = once-in (names_of_eqns es) x ∙ in-eqns es plain x ∙ e

      owned : (st : Standing) → declares ds x ≡ true → is_owned st ds x ≡ true
      owned Body e = e
      owned Inner e = refl

      around_is : IsSeen d (out x).value (flat_type k.types t) → IsSeen d (over (declared k ds out) out x).value (flat_type k.types t)
      around_is q = subst (λ o. IsSeen d o (flat_type k.types t)) (sym (declared_says k ds out x).0) q

      outside : declares ds x ≡ false → (st : Standing) → (hides st (block ds es) x ≡ false → IsSeen d (out x).value (flat_type k.types t))
          → ((is_in names x ≡ true) × (is_owned st ds x ≡ true)) ⊎ IsSeen d (over (declared k ds out) out x).value (flat_type k.types t)
      outside e Body f = inr (around_is (f refl))
      outside e Inner f = within (some_defines es x) refl
        where
          within : (b : Bool) → some_defines es x ≡ b → ((is_in names x ≡ true) × (is_owned Inner ds x ≡ true)) ⊎ IsSeen d (over (declared k ds out) out x).value (flat_type k.types t)
          within true q = inl (in_names q, refl)
          within false q = inr (around_is (f (ap (λ c. c && not (declares ds x)) q)))

      by : (b : Bool) → declares ds x ≡ b → ((is_in names x ≡ true) × (is_owned standing ds x ≡ true)) ⊎ IsSeen d (over (declared k ds out) out x).value (flat_type k.types t)
      by true e = inl (in_names (all x e), owned standing e)
      by false e = outside e standing (around.values x t (sym (not_declared x ds s e) ∙ h))

  -- a name that a block defines is declared there, or has a type outside
  own_named : (ds : List Decl) (es : Eqns) (s : Scope) (out : Sight) → OwnTypes (with_variables s ds) ds → OthersKnown types among (block ds es) s → ArePlain es → SeesTypes k s out → HaveFirsts types (with_variables s ds)
      → NamesHave obc (over (declared k ds out) out) (each_once [] (names_of_eqns es))
  own_named ds es s out own others plain sees known = all_named (λ x. HasValue obc (over (declared k ds out) out x).ty) names one
    where
      names : List (List ℕ)
      names = each_once [] (names_of_eqns es)

      typed_here : (x : List ℕ) → some_defines es x ≡ true → (b : Bool) → declares ds x ≡ b → (t : Ty) × (lookup (with_variables s ds).variables x ≡ Some t)
      typed_here x i true e = declared_type (with_variables s ds) ds x own e
      typed_here x i false e = let q = others x i e in (q.0, still_known x ds s q.0 q.1)

      one : (x : List ℕ) → is_in names x ≡ true → HasValue obc (over (declared k ds out) out x).ty
      one x i =
          let q = typed_here x (sym (once-in (names_of_eqns es) x ∙ in-eqns es plain x) ∙ i) (declares ds x) refl in
          subst (λ t. HasValue obc t) (sym (declared_sees k s ds out own sees x q.0 q.1)) (first_has obc k types facts q.0 (known x q.0 q.1))

  pub layer_made : (standing : Standing) (ds : List Decl) (es : Eqns) (s : Scope) (lasts : Lasts) (out : Sight) (at : Site) (d : Sketch) → DeclsSound types among (with_variables s ds) es ds → OthersKnown types among (block ds es) s
      → ((x : List ℕ) → declares ds x ≡ true → some_defines es x ≡ true) → ArePlain es → SeesTypes k s out → HaveFirsts types (with_variables s ds) → SeesAround standing (block ds es) s lasts out d → SiteGood obc d at
      → LayerMade ds s lasts out d (block_layer k standing out at ds (each_once [] (names_of_eqns es)) d)
  layer_made standing ds es s lasts out at d ok others all plain sees known around g =
      let names = each_once [] (names_of_eqns es) in
      let inside = with_variables s ds in
      let first : Seen = (declared k ds out, d) in
      let m = own_names standing ds out names first in
      let own = declared_types types among inside es ds ok in
      let named = own_named ds es s out own others plain sees known in
      let types_here : SeesTypes k inside (over m.0 out) = λ x t h. names_type standing ds out names first x ∙ declared_sees k s ds out own sees x t h in
      let moves = names_move standing ds out obc k names first named in
      let values = own_values standing ds es s lasts out d own all plain sees around in
      let ready = decls_ready at out inside m types_here values ds (own_firsts types among inside es ds ok) in
      let here = site_moved obc d m.1 at moves.keeps g in
      let r = all_remembered obc k at out ds m here ready in
      let z = remember_all k at out ds m in
      record {
        moves = then_moves obc k d m.1 z.1 moves r.moves;
        types_seen = λ x t h. r.ty x ∙ types_here x t h;
        seen =
            record {
              values = λ x t h. subst (λ o. IsSeen z.1 o (flat_type k.types t)) (sym (r.value x)) (seen_moved m.1 z.1 (over m.0 out x).value (flat_type k.types t) r.moves.keeps (values x t h));
              remembered = λ x l.
                  let q = last_typed inside ds lasts x own (λ i. let w = around.remembered x i in (w.0, still_known x ds s w.0 w.1)) l in (
                    q.0,
                    q.1,
                    last_seen obc k at out ds lasts m x (flat_type k.types q.0) here ready (types_here x q.0 q.1) l
                        (λ i.
                        let w = around.remembered x i in
                        let same : w.0 ≡ q.0 = some_is w.0 q.0 (sym (still_known x ds s w.0 w.1) ∙ q.1) in
                        let seen : IsSeen m.1 (out x).last (flat_type k.types w.0) = seen_moved d m.1 (out x).last (flat_type k.types w.0) moves.keeps w.2 in
                        subst (λ o. IsSeen m.1 o (flat_type k.types q.0)) (sym (names_last standing ds out names first x ∙ (declared_says k ds out x).1)) (subst (λ u. IsSeen m.1 (out x).last (flat_type k.types u)) same seen)),
                  );
            };
        is_local = λ x. all_local obc k at out ds ds m (in_more ds ds (λ y h. h)) (λ y. names_local standing ds out names first y (declared_says k ds out y).2) x;
      }
