-- What is known of names at a place of a program, and of what stands for them without automata.
use Rattle.std.proofs.Common.{◌≡◌, ℕ, ◌+◌, ◌<◌, ⊎_elim, Bool, true, false, ◌||◌, if◌then◌else◌, List, [], ◌∷◌, ◌++◌, refl, sym, ap, ◌∙◌, subst, arith}
use Rattle.std.specs.Prelude.{⊤, IsTrue, IsFalse, Option, None, Some}
use Rattle.std.specs.Str.{bytes_eq}
use Rattle.hp_base.specs.declared.ty.Ty.{Ty}
use Rattle.hp_base.specs.declared.ty.Const.{Const}
use Rattle.hp_tree.specs.Blocks.{Decl, Eqns}
use Rattle.hp_tree.specs.Programs.{TypeDecl, Node}
use Rattle.hp_tree.specs.Meaning.{declares}
use Rattle.hp_base.specs.Known.Known.{lookup, with_entry}
use Rattle.hp_typing.specs.Scopes.{with_variables}
use Rattle.hp_typing.specs.Types.{constant_type}
use Rattle.hp_meaning.specs.Clocking.Clocking.{AreOnce}
use Rattle.law_judged.specs.Named.Scopes.{Scope}
use Rattle.law_judged.specs.Named.Scoped.{Names, also, AreFresh}
use Rattle.law_judged.proofs.NamedLemmas.Sets.{or_cases, or_left, or_right, false_if, same_name}
use Rattle.law_values.specs.Valued.Judged.{Lasts, lasts_in, HaveOwnTypes}
use Rattle.law_values.proofs.ValuedLemmas.Scoped.{still_known, not_declared}
use Rattle.law_values.proofs.AcceptedLemmas.Keeps.{Kept, KeptName, Grows, constant_kept}
use Rattle.law_values.proofs.AcceptedLemmas.Views.{some_same, own_types, declared_type, lasts_kept}
use Rattle.hp_automata.specs.Renaming.{renamed_decls}
use Rattle.hp_automata.specs.Lowering.{Types, Enumerations, declaring, some_constant}
use Rattle.law_automata.specs.Lowered.OldNames.{IsOld}
use Rattle.law_automata.specs.Lowered.Removable.{Known, DeclsOk}
use Rattle.law_automata.proofs.LoweredLemmas.Spelling.{New, spell, HasRoom}
use Rattle.law_automata.proofs.LoweredLemmas.Apart.{new_is_new}
use Rattle.law_automata.proofs.LoweredLemmas.Renaming.{Renames, local_kept}
use Rattle.law_automata.specs.Readied.Constants.{HasConstant, DeclTypes}

-- ---- declarations whose clocks alone are said otherwise

pub scope_renamed : (to : List ℕ → List ℕ) (ds : List Decl) (s : Scope) → with_variables s (renamed_decls to ds) ≡ with_variables s ds
scope_renamed to [] s = refl
scope_renamed to (d ∷ ds) s = scope_renamed to ds (record s { variables = with_entry s.variables d.name d.ty })

last_renamed : (to : List ℕ → List ℕ) (ds : List Decl) (out : Lasts) (x : List ℕ) → lasts_in (renamed_decls to ds) out x ≡ lasts_in ds out x
last_renamed to [] out x = refl
last_renamed to (d ∷ ds) out x = ap (λ v. if bytes_eq d.name x then (elim d.last [ None ↦ out x | Some c ↦ true ]) else v) (last_renamed to ds out x)

pub lasts_renamed : (to : List ℕ → List ℕ) (ds : List Decl) (out : Lasts) → lasts_in (renamed_decls to ds) out ≡ lasts_in ds out
lasts_renamed to ds out = λ i x. last_renamed to ds out x i

pub scope_append : (ds es : List Decl) (s : Scope) → with_variables s (ds ++ es) ≡ with_variables (with_variables s ds) es
scope_append [] es s = refl
scope_append (d ∷ ds) es s = scope_append ds es (record s { variables = with_entry s.variables d.name d.ty })

-- declarations that have no last values
abbrev pub NoLasts : List Decl → Type 0
NoLasts [] = ⊤
NoLasts (d ∷ ds) = (d.last ≡ None) × NoLasts ds

last_append : (ds es : List Decl) (out : Lasts) (x : List ℕ) → IsTrue (lasts_in ds out x) → IsTrue (lasts_in (ds ++ es) out x)
last_append [] es out x h = lasts_kept es out x h
last_append (d ∷ ds) es out x h = by (bytes_eq d.name x) d.last h (last_append ds es out x)
  where
    by : (b : Bool) (o : Option Const) → IsTrue (if b then (elim o [ None ↦ out x | Some c ↦ true ]) else lasts_in ds out x) → (IsTrue (lasts_in ds out x) → IsTrue (lasts_in (ds ++ es) out x)) → IsTrue (if b then (elim o [ None ↦ out x | Some c ↦ true ]) else lasts_in (ds ++ es) out x)
    by true o h r = h
    by false o h r = r h

pub lasts_append : (ds es : List Decl) (out : Lasts) (x : List ℕ) → IsTrue (lasts_in ds out x) → IsTrue (lasts_in (ds ++ es) out x)
lasts_append ds es out x h = last_append ds es out x h

-- the types that removing automata knows are those of a scope
pub types_by : (ds : List Decl) (s : Scope) → (with_variables s ds).variables ≡ declaring s.variables ds
types_by [] s = refl
types_by (d ∷ ds) s = types_by ds (record s { variables = with_entry s.variables d.name d.ty })

module _ (types : List TypeDecl) (among : List ℕ → Option Node) where
  grows_right : (ds : List Decl) (s r : Scope) → Grows types among s r → Grows types among s (with_variables r ds)
  grows_right [] s r g = g
  grows_right (d ∷ ds) s r g = grows_right ds s (record r { variables = with_entry r.variables d.name d.ty }) (record { conses = g.conses; nodes = g.nodes; constants = g.constants; known = g.known })

  grows_left : (ds : List Decl) (s r : Scope) → Grows types among s r → Grows types among (with_variables s ds) r
  grows_left [] s r g = g
  grows_left (d ∷ ds) s r g = grows_left ds (record s { variables = with_entry s.variables d.name d.ty }) r (record { conses = g.conses; nodes = g.nodes; constants = g.constants; known = g.known })

  -- a scope and the same with more variables
  grows_itself : (r : Scope) → Grows types among r r → (ds : List Decl) → Grows types among r (with_variables r ds)
  grows_itself r g ds = grows_right ds r r g

  pub constant_more : (r : Scope) (ds : List Decl) → Grows types among r r → (c : Const) → Kept (constant_type r c) (constant_type (with_variables r ds) c)
  constant_more r ds g c = constant_kept types among r (with_variables r ds) (grows_itself r g ds) c

  -- a declared name has one type in both scopes
  pub both_types : (s r : Scope) (ds : List Decl) (x : List ℕ) (t : Ty) → HaveOwnTypes types among s ds → HaveOwnTypes types among r ds → IsTrue (declares ds x) → lookup s.variables x ≡ Some t → lookup r.variables x ≡ Some t
  both_types s r [] x t o p h l = absurd (cc)
  both_types s r (d ∷ ds) x t o p h l =
      ⊎_elim
      (λ e.
      let same : d.name ≡ x = same_name d.name x e in
      let kind : d.ty ≡ t = some_same d.ty t (sym (subst (λ z. lookup s.variables z ≡ Some d.ty) same o.0) ∙ l) in
      subst (λ z. lookup r.variables x ≡ Some z) kind (subst (λ z. lookup r.variables z ≡ Some d.ty) same p.0))
      (λ e. both_types s r ds x t o.1 p.1 e l) (or_cases (bytes_eq d.name x) (declares ds x) h)

  module _ (enums : Enumerations) (base : Scope) where
    -- a name of an automaton that is around
    abbrev pub NotBelow : ℕ → List ℕ → Type 0
    NotBelow d y = (e : ℕ) (a : New) → e < d → HasRoom a → spell e a ≡ y → ⊥

    pub record Place (d : ℕ) (to : List ℕ → List ℕ) (tys : Types) (s r : Scope) (lasts lasts' : Lasts) (seen own : Names) : Type 0 where
      pub grows : Grows types among s r
      pub same : Grows types among r r
      pub names : (x : List ℕ) → KeptName s r x (to x)
      pub itself : (x : List ℕ) → KeptName s r x x
      pub lasting : (x : List ℕ) → IsTrue (lasts x) → IsTrue (lasts' x)
      pub old : (x : List ℕ) → IsTrue (seen x) → IsOld x
      pub known : (x : List ℕ) → IsTrue (seen x) → (t : Ty) × (lookup s.variables x ≡ Some t)
      pub unknown : (x : List ℕ) → IsFalse (seen x) → lookup s.variables x ≡ None
      pub none : (y : List ℕ) → IsFalse (seen y) → NotBelow d y → lookup r.variables y ≡ None
      pub typed : (x : List ℕ) (t : Ty) → IsTrue (own x) → lookup s.variables x ≡ Some t → lookup tys x ≡ Some t
      pub untyped : (x : List ℕ) → IsFalse (seen x) → lookup tys x ≡ None
      pub own_seen : (x : List ℕ) → IsTrue (own x) → IsTrue (seen x)
      pub constants : (t : Ty) → HasConstant enums base t → constant_type r (some_constant enums t) ≡ Some t
      pub own_types : (x : List ℕ) (t : Ty) → IsTrue (own x) → lookup s.variables x ≡ Some t → HasConstant enums base t

    cases : {X : Type 0} (b : Bool) → (IsTrue b → X) → (IsFalse b → X) → X
    cases true f g = f refl
    cases false f g = g refl

    first_false : (a b : Bool) → IsFalse (a || b) → IsFalse a
    first_false true b h = absurd (cc h)
    first_false false b h = refl

    second_false : (a b : Bool) → IsFalse (a || b) → IsFalse b
    second_false true b h = absurd (cc h)
    second_false false b h = h

    -- a declared type has a constant
    pub decl_type : (s : Scope) (ds : List Decl) (x : List ℕ) (t : Ty) → HaveOwnTypes types among s ds → DeclTypes (HasConstant enums base) ds → IsTrue (declares ds x) → lookup s.variables x ≡ Some t → HasConstant enums base t
    decl_type s [] x t o p h l = absurd (cc)
    decl_type s (d ∷ ds) x t o p h l =
        ⊎_elim (λ e. subst (HasConstant enums base) (some_same d.ty t (sym (subst (λ z. lookup s.variables z ≡ Some d.ty) (same_name d.name x e) o.0) ∙ l)) p.0) (λ e. decl_type s ds x t o.1 p.1 e l)
        (or_cases (bytes_eq d.name x) (declares ds x) h)

    module _ {d : ℕ} {to : List ℕ → List ℕ} {tys : Types} {s r : Scope} {lasts lasts' : Lasts} {seen own : Names} (p : Place d to tys s r lasts lasts' seen own) where
      not_below : (x : List ℕ) → IsOld x → NotBelow d x
      not_below x o e a l room h = new_is_new e a room (subst IsOld (sym h) o)

      -- in a block that declares these names
      pub place_block : {outer : Known} → Renames outer d to → (es : Eqns) (ds : List Decl) → DeclsOk outer es ds → AreOnce ds → AreFresh seen ds → DeclTypes (HasConstant enums base) ds → ((x : List ℕ) → IsTrue (declares ds x) → IsOld x)
          → Place d to (declaring tys ds) (with_variables s ds) (with_variables r ds) (lasts_in ds lasts) (lasts_in ds lasts') (also seen ds) (also own ds)
      place_block rn es ds ok once fresh has olds = record {
        grows = grows_left ds s (with_variables r ds) (grows_right ds s r p.grows);
        same = grows_left ds r (with_variables r ds) (grows_right ds r r p.same);
        names = λ x t h. cases (declares ds x) (λ q. subst (λ z. lookup (with_variables r ds).variables z ≡ Some t) (sym (local_kept rn es ds ok x q)) (both_types (with_variables s ds) (with_variables r ds) ds x t own_s own_r q h))
            (λ q. still_known (to x) ds r t (p.names x t (sym (not_declared x ds s q) ∙ h)));
        itself = λ x t h. cases (declares ds x) (λ q. both_types (with_variables s ds) (with_variables r ds) ds x t own_s own_r q h) (λ q. still_known x ds r t (p.itself x t (sym (not_declared x ds s q) ∙ h)));
        lasting = λ x h. last_more ds x h;
        old = λ x h. ⊎_elim (λ q. olds x q) (λ q. p.old x q) (or_cases (declares ds x) (seen x) h);
        known = λ x h. ⊎_elim (λ q. declared_type types among (with_variables s ds) ds x own_s q) (λ q. let k = p.known x q in (k.0, still_known x ds s k.0 k.1)) (or_cases (declares ds x) (seen x) h);
        unknown = λ x h. not_declared x ds s (first_false (declares ds x) (seen x) h) ∙ p.unknown x (second_false (declares ds x) (seen x) h);
        none = λ y h n. not_declared y ds r (first_false (declares ds y) (seen y) h) ∙ p.none y (second_false (declares ds y) (seen y) h) n;
        typed = λ x t q h. typed_by x t q h;
        untyped = λ x h. ap (λ z. lookup z x) (sym (types_by ds known_tys)) ∙ not_declared x ds known_tys (first_false (declares ds x) (seen x) h) ∙ p.untyped x (second_false (declares ds x) (seen x) h);
        own_seen = λ x h. ⊎_elim (λ q. or_left (declares ds x) (seen x) q) (λ q. or_right (declares ds x) (seen x) (p.own_seen x q)) (or_cases (declares ds x) (own x) h);
        constants = λ t h. constant_more r ds p.same (some_constant enums t) t (p.constants t h);
        own_types = λ x t q h. owned x t q h;
      }
        where
          known_tys : Scope
          known_tys = record s { variables = tys }

          seen_not : (x : List ℕ) → IsTrue (declares ds x) → IsFalse (seen x)
          seen_not x q = false_if (seen x) (λ h. fresh x q h)

          own_s : HaveOwnTypes types among (with_variables s ds) ds
          own_s = own_types types among ds s once (λ x q. p.unknown x (seen_not x q))

          own_r : HaveOwnTypes types among (with_variables r ds) ds
          own_r = own_types types among ds r once (λ x q. p.none x (seen_not x q) (not_below x (olds x q)))

          own_t : HaveOwnTypes types among (with_variables (record s { variables = tys }) ds) ds
          own_t = own_types types among ds (record s { variables = tys }) once (λ x q. p.untyped x (seen_not x q))

          last_more : (cs : List Decl) (x : List ℕ) → IsTrue (lasts_in cs lasts x) → IsTrue (lasts_in cs lasts' x)
          last_more [] x h = p.lasting x h
          last_more (c ∷ cs) x h = last_by x (bytes_eq c.name x) c.last (lasts_in cs lasts x) (lasts_in cs lasts' x) h (p.lasting x) (last_more cs x)
            where
              last_by : (x : List ℕ) (b : Bool) (o : Option Const) (u v : Bool) → IsTrue (if b then (elim o [ None ↦ lasts x | Some c ↦ true ]) else u) → (IsTrue (lasts x) → IsTrue (lasts' x)) → (IsTrue u → IsTrue v) → IsTrue (if b then (elim o [ None ↦ lasts' x | Some c ↦ true ]) else v)
              last_by x true None u v h f g = f h
              last_by x true (Some c) u v h f g = refl
              last_by x false o u v h f g = g h

          typed_by : (x : List ℕ) (t : Ty) → IsTrue (also own ds x) → lookup (with_variables s ds).variables x ≡ Some t → lookup (declaring tys ds) x ≡ Some t
          typed_by x t q h =
              ap (λ z. lookup z x) (sym (types_by ds known_tys))
              ∙ cases (declares ds x) (λ l. both_types (with_variables s ds) (with_variables known_tys ds) ds x t own_s own_t l h)
              (λ l. still_known x ds known_tys t (p.typed x t (⊎_elim (λ k. absurd (cc (sym l, k))) (λ k. k) (or_cases (declares ds x) (own x) q)) (sym (not_declared x ds s l) ∙ h)))

          owned : (x : List ℕ) (t : Ty) → IsTrue (also own ds x) → lookup (with_variables s ds).variables x ≡ Some t → HasConstant enums base t
          owned x t q h =
              cases (declares ds x) (λ l. decl_type (with_variables s ds) ds x t own_s has l h)
              (λ l. p.own_types x t (⊎_elim (λ k. absurd (cc (sym l, k))) (λ k. k) (or_cases (declares ds x) (own x) q)) (sym (not_declared x ds s l) ∙ h))

      -- where new names of automata around are declared too
      pub place_words : (ds : List Decl) → ((y : List ℕ) → IsTrue (declares ds y) → (e : ℕ) × ((a : New) × ((e < d) × (HasRoom a × (spell e a ≡ y))))) → Place d to tys s (with_variables r ds) lasts (lasts_in ds lasts') seen own
      place_words ds news = record {
        grows = grows_right ds s r p.grows;
        same = grows_left ds r (with_variables r ds) (grows_right ds r r p.same);
        names = λ x t h. still_known (to x) ds r t (p.names x t h);
        itself = λ x t h. still_known x ds r t (p.itself x t h);
        lasting = λ x h. lasts_kept ds lasts' x (p.lasting x h);
        old = p.old;
        known = p.known;
        unknown = p.unknown;
        none = λ y h n. not_declared y ds r (false_if (declares ds y) (λ q. let w = news y q in n w.0 w.1.0 w.1.1.0 w.1.1.1.0 w.1.1.1.1)) ∙ p.none y h n;
        typed = p.typed;
        untyped = p.untyped;
        own_seen = p.own_seen;
        constants = λ t h. constant_more r ds p.same (some_constant enums t) t (p.constants t h);
        own_types = p.own_types;
      }

      -- one automaton further in
      pub place_deeper : Place (d + 1) to tys s r lasts lasts' seen own
      place_deeper = record {
        grows = p.grows;
        same = p.same;
        names = p.names;
        itself = p.itself;
        lasting = p.lasting;
        old = p.old;
        known = p.known;
        unknown = p.unknown;
        none = λ y h n. p.none y h (λ e a l room q. n e a (omega (arith, l)) room q);
        typed = p.typed;
        untyped = p.untyped;
        own_seen = p.own_seen;
        constants = p.constants;
        own_types = p.own_types;
      }

      -- where other names stand for names
      pub place_as : (into : List ℕ → List ℕ) → ((x : List ℕ) → KeptName s r x (into x)) → Place d into tys s r lasts lasts' seen own
      place_as into names = record {
        grows = p.grows;
        same = p.same;
        names = names;
        itself = p.itself;
        lasting = p.lasting;
        old = p.old;
        known = p.known;
        unknown = p.unknown;
        none = p.none;
        typed = p.typed;
        untyped = p.untyped;
        own_seen = p.own_seen;
        constants = p.constants;
        own_types = p.own_types;
      }

      -- where more names have last values
      pub place_lasts : (more : Lasts) → ((x : List ℕ) → IsTrue (lasts' x) → IsTrue (more x)) → Place d to tys s r lasts more seen own
      place_lasts more h = record {
        grows = p.grows;
        same = p.same;
        names = p.names;
        itself = p.itself;
        lasting = λ x l. h x (p.lasting x l);
        old = p.old;
        known = p.known;
        unknown = p.unknown;
        none = p.none;
        typed = p.typed;
        untyped = p.untyped;
        own_seen = p.own_seen;
        constants = p.constants;
        own_types = p.own_types;
      }
