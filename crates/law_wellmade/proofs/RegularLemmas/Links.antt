-- A block of a control equation: what is seen around it, and what it gives to the names outside.
use Rattle.std.proofs.Common.{◌≡◌, ℕ, Bool, true, false, if◌then◌else◌, List, [], ◌∷◌, Option, None, Some, refl, sym, ap, subst, ◌∙◌}
use Rattle.std.specs.Prelude.{◌&&◌, not, IsTrue}
use Rattle.std.specs.List.{AllByRecursion}
use Rattle.hp_base.specs.declared.ty.Ty.{Ty}
use Rattle.hp_obc.specs.Machines.{ObcType}
use Rattle.hp_tree.specs.Blocks.{Block, block}
use Rattle.hp_tree.specs.Programs.{TypeDecl, Node}
use Rattle.hp_tree.specs.Meaning.{declares, some_defines, block_defines}
use Rattle.hp_base.specs.Known.Known.{lookup}
use Rattle.law_judged.specs.Typed.Scopes.{Scope}
use Rattle.law_values.specs.Valued.Judged.{Lasts}
use Rattle.law_values.proofs.ValuedLemmas.Typed.{some_is}
use Rattle.law_values.specs.Filled.Firsts.{DeclsHaveFirsts}
use Rattle.hp_flat.specs.declared.node.FlatTy.{FlatTy}
use Rattle.law_equations.specs.Made.Sights.{Entry}
use Rattle.law_equations.specs.Made.Making.{Known, Sketch, Site, Sight, Layer, Seen, Inner, flat_type, over, or_entry, hidden, is_in, bind, given_by, link_all}
use Rattle.law_wellmade.proofs.BegunLemmas.Keeping.{Keeps}
use Rattle.law_wellmade.proofs.BegunLemmas.Typing.{SeesTypes}
use Rattle.law_wellmade.proofs.RegularLemmas.Good.{IsSeen, seen_moved, SiteGood, site_moved, Moves, still, then_moves}
use Rattle.law_wellmade.proofs.RegularLemmas.Expressions.{TypeFacts, bind_moves}
use Rattle.law_wellmade.proofs.RegularLemmas.Layers.{SaysLocal}
use Rattle.law_equations.specs.Made.Blocks.{locals_of}
use Rattle.law_wellmade.proofs.RegularLemmas.Entering.{all_named, Sees, SeesAround, BlockMade}

-- what is seen of a name that is hidden, and of another
abbrev shown : Bool → Entry → Entry
shown true e = record { ty = e.ty; value = e.last; last = e.last; is_local = false }
shown false e = e

hidden_is : (names : List (List ℕ)) (see : Sight) (x : List ℕ) (b : Bool) → is_in names x ≡ b → over (hidden names see) see x ≡ shown b (see x)
hidden_is names see x b e = ap (λ c. or_entry (if c then Some (record { ty = (see x).ty; value = (see x).last; last = (see x).last; is_local = false }) else None) (see x)) e ∙ by b
  where
    by : (c : Bool) → or_entry (if c then Some (record { ty = (see x).ty; value = (see x).last; last = (see x).last; is_local = false }) else None) (see x) ≡ shown c (see x)
    by true = refl
    by false = refl

hidden_last : (names : List (List ℕ)) (see : Sight) (x : List ℕ) → (over (hidden names see) see x).last ≡ (see x).last
hidden_last names see x = ap (λ (e : Entry). e.last) (hidden_is names see x (is_in names x) refl) ∙ by (is_in names x)
  where
    by : (c : Bool) → (shown c (see x)).last ≡ (see x).last
    by true = refl
    by false = refl

hidden_type : (names : List (List ℕ)) (see : Sight) (x : List ℕ) → (over (hidden names see) see x).ty ≡ (see x).ty
hidden_type names see x = ap (λ (e : Entry). e.ty) (hidden_is names see x (is_in names x) refl) ∙ by (is_in names x)
  where
    by : (c : Bool) → (shown c (see x)).ty ≡ (see x).ty
    by true = refl
    by false = refl

pub hidden_sees : (k : Known) (s : Scope) (names : List (List ℕ)) (see : Sight) → SeesTypes k s see → SeesTypes k s (over (hidden names see) see)
hidden_sees k s names see h x t e = hidden_type names see x ∙ h x t e

declared_undefined : (b : Block) (x : List ℕ) → declares (locals_of b) x ≡ true → block_defines b x ≡ false
declared_undefined (block ds es) x h = ap (λ c. some_defines es x && not c) h ∙ none (some_defines es x)
  where
    none : (c : Bool) → (c && false) ≡ false
    none true = refl
    none false = refl

-- what a block gives to a name, and the variable of the name, have one type
abbrev pub LinkGood : Sight → Layer → Sketch → List ℕ → Type 0
LinkGood out own d x = (t : FlatTy) × IsSeen d (out x).value t × IsSeen d (given_by (own x) (out x)) t

links_moved : (out : Sight) (own : Layer) (d e : Sketch) (xs : List (List ℕ)) → Keeps d e → AllByRecursion (LinkGood out own d) xs → AllByRecursion (LinkGood out own e) xs
links_moved out own d e [] k h = tt
links_moved out own d e (x ∷ xs) k h = ((h.0.0, seen_moved d e (out x).value h.0.0 k h.0.1, seen_moved d e (given_by (own x) (out x)) h.0.0 k h.0.2), links_moved out own d e xs k h.1)

module _ (obc : List ObcType) (k : Known) where
  links_move : (out : Sight) (at : Site) (own : Layer) (xs : List (List ℕ)) (d : Sketch) → AllByRecursion (LinkGood out own d) xs → SiteGood obc d at → Moves obc k d (link_all out at own xs d)
  links_move out at own [] d h g = still obc k d
  links_move out at own (x ∷ xs) d h g =
      let e = bind at (out x).value (given_by (own x) (out x)) d in
      let m = bind_moves obc k at (out x).value (given_by (own x) (out x)) d h.0.0 g h.0.1 h.0.2 in
      then_moves obc k d e (link_all out at own xs e) m (links_move out at own xs e (links_moved out own d e xs m.keeps h.1) (site_moved obc d e at m.keeps g))

module _ (obc : List ObcType) (k : Known) (types : List TypeDecl) (facts : TypeFacts obc k types) (among : List ℕ → Option Node) (callees : (f : List ℕ) (n : Node) → among f ≡ Some n → DeclsHaveFirsts types n.outputs) where
  abbrev Around : Scope → Lasts → Sight → Sketch → Type 0
  Around s lasts see d = Sees obc k types facts among callees s lasts see d

  -- A name of a control equation that a block of it does not define has a last value.
  abbrev pub Completed : List (List ℕ) → Block → Lasts → Type 0
  Completed names b lasts = (x : List ℕ) → is_in names x ≡ true → block_defines b x ≡ false → IsTrue (lasts x)

  pub around_inner : (b : Block) (names : List (List ℕ)) (s : Scope) (lasts : Lasts) (see : Sight) (d : Sketch) → Completed names b lasts → Around s lasts see d → SeesAround obc k types facts among callees Inner b s lasts (over (hidden names see) see) d
  around_inner b names s lasts see d complete v =
      record {
        values = λ x t h n. by x t h n (is_in names x) refl;
        remembered = λ x l. let w = v.remembered x l in (w.0, w.1, subst (λ o. IsSeen d o (flat_type k.types w.0)) (sym (hidden_last names see x)) w.2);
      }
    where
      by : (x : List ℕ) (t : Ty) → lookup s.variables x ≡ Some t → block_defines b x ≡ false → (c : Bool) → is_in names x ≡ c → IsSeen d (over (hidden names see) see x).value (flat_type k.types t)
      by x t h n true e =
          let w = v.remembered x (complete x e n) in
          let same : w.0 ≡ t = some_is w.0 t (sym w.1 ∙ h) in
          subst (λ (q : Entry). IsSeen d q.value (flat_type k.types t)) (sym (hidden_is names see x true e)) (subst (λ u. IsSeen d (see x).last (flat_type k.types u)) same w.2)
      by x t h n false e = subst (λ (q : Entry). IsSeen d q.value (flat_type k.types t)) (sym (hidden_is names see x false e)) (v.values x t h)

  -- what a block gives to a name
  given_seen : (names : List (List ℕ)) (see : Sight) (d : Sketch) (x : List ℕ) (t : FlatTy) (o : Option Entry) (b : Bool) → is_in names x ≡ true → SaysLocal b o → (b ≡ true → IsSeen d (see x).last t) → IsSeen d (or_entry o (over (hidden names see) see x)).value t
      → IsSeen d (given_by o (see x)) t
  given_seen names see d x t None b i l f h = subst (λ (q : Entry). IsSeen d q.value t) (hidden_is names see x true i) h
  given_seen names see d x t (Some e) b i l f h = by e.is_local l
    where
      by : (c : Bool) → c ≡ b → IsSeen d (if c then (see x).last else e.value) t
      by true q = f (sym q)
      by false q = h

  -- The names of a control equation get what a block of it gives them.
  pub linked : (b : Block) (names : List (List ℕ)) (s : Scope) (lasts : Lasts) (see : Sight) (at : Site) (d c : Sketch) (m : Seen) (e : Sketch) → Around s lasts see d → Keeps d c → BlockMade obc k types facts among callees b s (over (hidden names see) see) c m → Keeps m.1 e
      → ((x : List ℕ) → is_in names x ≡ true → (t : Ty) × (lookup s.variables x ≡ Some t)) → Completed names b lasts → SiteGood obc e at → Moves obc k e (link_all see at m.0 names e)
  linked b names s lasts see at d c m e v to_c made to_e typed complete g = links_move obc k see at m.0 names e (all_named (LinkGood see m.0 e) names one) g
    where
      kept : Keeps d e
      kept = record { kept = λ x w p. to_e.kept x w (made.moves.keeps.kept x w (to_c.kept x w p)) }

      one : (x : List ℕ) → is_in names x ≡ true → LinkGood see m.0 e x
      one x i =
          let q = typed x i in
          let t = flat_type k.types q.0 in (
            t,
            seen_moved d e (see x).value t kept (v.values x q.0 q.1),
            given_seen names see e x t (m.0 x) (declares (locals_of b) x) i (made.is_local x)
                (λ l.
                let w = v.remembered x (complete x i (declared_undefined b x l)) in
                let same : w.0 ≡ q.0 = some_is w.0 q.0 (sym w.1 ∙ q.1) in
                subst (λ u. IsSeen e (see x).last (flat_type k.types u)) same (seen_moved d e (see x).last (flat_type k.types w.0) kept w.2))
                (seen_moved m.1 e (over m.0 (over (hidden names see) see) x).value t to_e (made.given x q.0 q.1)),
          )
